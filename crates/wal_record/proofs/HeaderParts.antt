-- A record's header is cut into its fields, and what was put together is found there again.
use Rattle.std.proofs.Common.{◌≡◌, ℕ, suc, ◌+◌, ◌≤◌, List, ◌∷◌, ◌++◌, length, get_or, take, drop, sym, ap, ◌∙◌, arith}
use Rattle.std.proofs.lemmas.List.{take_at, drop_at, drop-drop, drop_more, take-append-drop, length-append, get_or-drop}

-- the next m bytes, and what is behind them
pub piece : (n m : ℕ) (bytes : List ℕ) → drop n bytes ≡ take m (drop n bytes) ++ drop (n + m) bytes
piece n m bytes = sym (take-append-drop m (drop n bytes)) ∙ ap (λ (l : List ℕ). take m (drop n bytes) ++ l) (drop-drop m n bytes)

-- the parts of bytes that begin with a header
pub cut : (bytes : List ℕ) → 24 ≤ length bytes → bytes ≡ take 4 bytes ++ (take 4 (drop 4 bytes) ++ (take 8 (drop 8 bytes) ++ ((get_or bytes 16 0 ∷ get_or bytes 17 0 ∷ take 2 (drop 18 bytes)) ++ (take 4 (drop 20 bytes) ++ drop 24 bytes))))
cut bytes long =
    sym (take-append-drop 4 bytes)
    ∙ ap (λ (l : List ℕ). take 4 bytes ++ l) (piece 4 4 bytes
    ∙ ap (λ (l : List ℕ). take 4 (drop 4 bytes) ++ l) (piece 8 8 bytes
    ∙ ap (λ (l : List ℕ). take 8 (drop 8 bytes) ++ l) (drop_more bytes 16 0 (omega arith)
    ∙ ap (λ (l : List ℕ). get_or bytes 16 0 ∷ l) (drop_more bytes 17 0 (omega arith)
    ∙ ap (λ (l : List ℕ). get_or bytes 17 0 ∷ l) (piece 18 2 bytes
    ∙ ap (λ (l : List ℕ). take 2 (drop 18 bytes) ++ l) (piece 20 4 bytes))))))

-- bytes whose header's fields are these
pub record HasParts (bytes size xid prev : List ℕ) (info rmid : ℕ) (spare crc rest : List ℕ) : Type 0 where
  pub size_is : take 4 bytes ≡ size
  pub xid_is : take 4 (drop 4 bytes) ≡ xid
  pub prev_is : take 8 (drop 8 bytes) ≡ prev
  pub info_is : get_or bytes 16 0 ≡ info
  pub rmid_is : get_or bytes 17 0 ≡ rmid
  pub crc_is : take 4 (drop 20 bytes) ≡ crc
  pub rest_is : drop 24 bytes ≡ rest
  pub length_is : length bytes ≡ 24 + length rest

pub put_together : (size xid prev : List ℕ) (info rmid : ℕ) (spare crc rest : List ℕ) → length size ≡ 4 → length xid ≡ 4 → length prev ≡ 8 → length spare ≡ 2 → length crc ≡ 4
    → HasParts (size ++ (xid ++ (prev ++ ((info ∷ rmid ∷ spare) ++ (crc ++ rest))))) size xid prev info rmid spare crc rest
put_together size xid prev info rmid spare crc rest l1 l2 l3 l4 l5 =
    let behind_spare = crc ++ rest in
    let behind_prev = (info ∷ rmid ∷ spare) ++ behind_spare in
    let behind_xid = prev ++ behind_prev in
    let behind_size = xid ++ behind_xid in
    let bytes = size ++ behind_size in
    let at4 : drop 4 bytes ≡ behind_size = drop_at size behind_size 4 l1 in
    let at8 : drop 8 bytes ≡ behind_xid = sym (drop-drop 4 4 bytes) ∙ ap (drop 4) at4 ∙ drop_at xid behind_xid 4 l2 in
    let at16 : drop 16 bytes ≡ behind_prev = sym (drop-drop 8 8 bytes) ∙ ap (drop 8) at8 ∙ drop_at prev behind_prev 8 l3 in
    let at20 : drop 20 bytes ≡ behind_spare = sym (drop-drop 4 16 bytes) ∙ ap (drop 4) at16 ∙ drop_at (info ∷ rmid ∷ spare) behind_spare 4 (ap (λ n. suc (suc n)) l4) in
    record {
      size_is = take_at size behind_size 4 l1;
      xid_is = ap (take 4) at4 ∙ take_at xid behind_xid 4 l2;
      prev_is = ap (take 8) at8 ∙ take_at prev behind_prev 8 l3;
      info_is = sym (get_or-drop 16 bytes 0 0) ∙ ap (λ l. get_or l 0 0) at16;
      rmid_is = sym (get_or-drop 16 bytes 1 0) ∙ ap (λ l. get_or l 1 0) at16;
      crc_is = ap (take 4) at20 ∙ take_at crc rest 4 l5;
      rest_is = sym (drop-drop 4 20 bytes) ∙ ap (drop 4) at20 ∙ drop_at crc rest 4 l5;
      length_is = omega (arith, length-append size behind_size, length-append xid behind_xid, length-append prev behind_prev, length-append spare behind_spare, length-append crc rest);
    }
