-- The headers of a record's blocks: what is read is spelled so, and what is spelled so is read.
use Rattle.std.proofs.Common.{◌≡◌, ℕ, zero, suc, ◌+◌, ◌≤◌, Bool, true, ◌&&◌, List, [], ◌∷◌, ◌++◌, length, Option, Some, Result, Ok, refl, sym, ap, subst, ◌∙◌, append_assoc, arith, inl, inr}
use Rattle.std.specs.List.{sum_by}
use Rattle.std.proofs.lemmas.Bool.{cases_Bool, and_parts, and_from, lt-ltb, le-leb}
use Rattle.std.proofs.lemmas.List.{length-append, append-nil}
use Rattle.std.proofs.lemmas.List.Sums.{sum_by-cons}
use Rattle.wal_record.specs.declared.fault.RecErr.{RecErr}
use Rattle.wal_record.specs.declared.head.BlockHead.{BlockHead}
use Rattle.wal_record.specs.Reading.{ItemRead, HeaderCursor, begins_block, block_item, block_items, has_header, payload_len}
use Rattle.wal_record.specs.Fails.{last_of}
use Rattle.wal_record.specs.Items.{head_text, SpellsHeads, StandsBehind}
use Rattle.wal_spelling.proofs.Bytes.{IsBytes}
use Rattle.wal_record.proofs.Steps.{bind_ok, ok_is}
use Rattle.wal_record.proofs.BlockHeadSteps.{block_items-more}
use Rattle.wal_record.proofs.HeadsTaken.{BeforeFits, BlockTaken, block_takes}
use Rattle.wal_record.proofs.HeadsAgain.{standing_at, block_again, head_some}

-- ---- what is read is spelled so

pub record HeadsTaken (before : Option BlockHead) (heads : List BlockHead) (s : HeaderCursor) (x : ItemRead (List BlockHead)) : Type 0 where
  pub more : List BlockHead
  pub text : List ℕ
  pub value_is : x.value ≡ heads ++ more
  pub spelled : SpellsHeads before more text
  pub rest_is : s.rest ≡ text ++ x.next.rest
  pub at_is : x.next.at ≡ s.at + length text
  pub owed_is : x.next.owed ≡ s.owed + sum_by payload_len more
  pub fits : IsBytes x.next.rest

none_taken : (before : Option BlockHead) (heads : List BlockHead) (s : HeaderCursor) → IsBytes s.rest → HeadsTaken before heads s (record { value = heads; next = s })
none_taken before heads s fits = record { more = []; text = []; value_is = sym (append-nil heads); spelled = refl; rest_is = refl; at_is = omega arith; owed_is = omega arith; fits = fits }

one_taken : (before : Option BlockHead) (heads : List BlockHead) (s : HeaderCursor) (y : ItemRead BlockHead) (x : ItemRead (List BlockHead)) → BlockTaken before s y → HeadsTaken (Some y.value) (heads ++ y.value ∷ []) y.next x → HeadsTaken before heads s x
one_taken before heads s y x b t = record {
  more = y.value ∷ t.more;
  text = head_text b.same y.value ++ t.text;
  value_is = t.value_is ∙ append_assoc heads (y.value ∷ []) t.more;
  spelled = (b.same, (t.text, (refl, (b.stands, t.spelled))));
  rest_is = b.rest_is ∙ ap (λ (l : List ℕ). head_text b.same y.value ++ l) t.rest_is ∙ sym (append_assoc (head_text b.same y.value) t.text x.next.rest);
  at_is = omega (arith, b.at_is, t.at_is, length-append (head_text b.same y.value) t.text);
  owed_is = omega (arith, b.owed_is, t.owed_is, sum_by-cons payload_len y.value t.more);
  fits = t.fits;
}

before_fits : (before : Option BlockHead) (s : HeaderCursor) (y : ItemRead BlockHead) → BlockTaken before s y → BeforeFits (Some y.value)
before_fits before s y b = record { tablespace = b.stands.tablespace; database = b.stands.database; relation = b.stands.relation }

ends_taken : (before : Option BlockHead) (heads : List BlockHead) (s : HeaderCursor) (x : ItemRead (List BlockHead)) → IsBytes s.rest → (let y : Result (ItemRead (List BlockHead)) RecErr = Ok (record { value = heads; next = s }) in y ≡ Ok x) → HeadsTaken before heads s x
ends_taken before heads s x fits e = subst (HeadsTaken before heads s) (ok_is _ x e) (none_taken before heads s fits)

pub heads_taken : (n : ℕ) (before : Option BlockHead) (heads : List BlockHead) (s : HeaderCursor) (x : ItemRead (List BlockHead)) → IsBytes s.rest → BeforeFits before → block_items n before heads s ≡ Ok x → HeadsTaken before heads s x
unfolding block_items
heads_taken zero before heads s x fits b e = ends_taken before heads s x fits e
heads_taken (suc n) before heads s x fits b e =
    elim (cases_Bool (has_header s && begins_block s.rest)) [
      | inl more ↦
          let read = bind_ok (block_item before s) _ x (rw more at e) in
          let taken = block_takes before s read.0 fits (and_parts (has_header s) (begins_block s.rest) more).1 b read.1 in
          one_taken before heads s read.0 x taken (heads_taken n (Some read.0.value) (heads ++ read.0.value ∷ []) read.0.next x taken.fits (before_fits before s read.0 taken) read.2)
      | inr over ↦ ends_taken before heads s x fits (rw over at e)
    ]

-- ---- what is spelled so is read

-- the loop goes past headers that are spelled here, where what they owe is left behind them
pub record GoesPast (n : ℕ) (before : Option BlockHead) (heads more : List BlockHead) (at owed : ℕ) (text rest : List ℕ) : Type 0 where
  pub fuel : ℕ
  pub enough : length rest ≤ fuel
  pub same : block_items n before heads (standing_at at owed (text ++ rest)) ≡ block_items fuel (last_of before more) (heads ++ more) (standing_at (at + length text) (owed + sum_by payload_len more) rest)

begins_head : (before : Option BlockHead) (same : Bool) (h : BlockHead) (rest : List ℕ) → StandsBehind before same h → begins_block (head_text same h ++ rest) ≡ true
begins_head before same h rest stands = le-leb h.id 32 stands.id

head_goes_past : (n : ℕ) (before : Option BlockHead) (heads : List BlockHead) (same : Bool) (h : BlockHead) (at owed : ℕ) (rest : List ℕ) → StandsBehind before same h → owed ≤ length rest
    → block_items (suc n) before heads (standing_at at owed (head_text same h ++ rest)) ≡ block_items n (Some h) (heads ++ h ∷ []) (standing_at (at + length (head_text same h)) (owed + payload_len h) rest)
head_goes_past n before heads same h at owed rest stands few =
    let s = standing_at at owed (head_text same h ++ rest) in
    let more : has_header s ≡ true = lt-ltb _ _ (omega (arith, head_some same h, length-append (head_text same h) rest)) in
    block_items-more n before heads s _ (and_from _ _ more (begins_head before same h rest stands)) (block_again at owed before same h rest stands)

pub heads_again : (n : ℕ) (before : Option BlockHead) (heads more : List BlockHead) (at owed : ℕ) (text rest : List ℕ) → SpellsHeads before more text → length (text ++ rest) ≤ n → owed + sum_by payload_len more ≤ length rest → GoesPast n before heads more at owed text rest
heads_again n before heads [] at owed text rest spelled enough few = record {
  fuel = n;
  enough = omega (arith, length-append text rest);
  same = rw (spelled, append-nil heads) (ap (λ (s : HeaderCursor). block_items n before heads s) (same_place at owed rest));
}
  where
    same_place : (at owed : ℕ) (rest : List ℕ) → standing_at at owed rest ≡ standing_at (at + 0) (owed + 0) rest
    same_place at owed rest = ap (λ (k : ℕ). standing_at k owed rest) (omega arith) ∙ ap (λ (k : ℕ). standing_at (at + 0) k rest) (omega arith)
heads_again zero before heads (h ∷ hs) at owed text rest spelled enough few =
    let e : length text ≡ length (head_text spelled.0 h) + length spelled.1.0 = ap length spelled.1.1.0 ∙ length-append (head_text spelled.0 h) spelled.1.0 in
    absurd (omega (arith, head_some spelled.0 h, length-append text rest, e))
heads_again (suc n) before heads (h ∷ hs) at owed text rest spelled enough few =
    let same = spelled.0 in
    let behind = spelled.1.0 in
    let head = head_text same h in
    let stands = spelled.1.1.1.0 in
    let sum = sum_by-cons payload_len h hs in
    let text_is : text ++ rest ≡ head ++ (behind ++ rest) = ap (λ (l : List ℕ). l ++ rest) spelled.1.1.0 ∙ append_assoc head behind rest in
    let lengths : length text ≡ length head + length behind = ap length spelled.1.1.0 ∙ length-append head behind in
    let one = head_goes_past n before heads same h at owed (behind ++ rest) stands (omega (arith, length-append behind rest)) in
    let on = heads_again n (Some h) (heads ++ h ∷ []) hs (at + length head) (owed + payload_len h) behind rest spelled.1.1.1.1 (omega (arith, head_some same h, length-append text rest, length-append behind rest)) (omega arith) in
    record {
      fuel = on.fuel;
      enough = on.enough;
      same = ap (λ (l : List ℕ). block_items (suc n) before heads (standing_at at owed l)) text_is ∙ one ∙ on.same
          ∙ ap (λ (hs2 : List BlockHead). block_items on.fuel (last_of (Some h) hs) hs2 (standing_at (at + length head + length behind) (owed + payload_len h + sum_by payload_len hs) rest)) (append_assoc heads (h ∷ []) hs)
          ∙ ap (λ (k : ℕ). block_items on.fuel (last_of (Some h) hs) (heads ++ h ∷ hs) (standing_at k (owed + payload_len h + sum_by payload_len hs) rest)) (omega arith)
          ∙ ap (λ (k : ℕ). block_items on.fuel (last_of (Some h) hs) (heads ++ h ∷ hs) (standing_at (at + length text) k rest)) (omega arith);
    }
