-- The items of a record that are no blocks: what is read is spelled so, and what is spelled so is read.
use Rattle.std.proofs.Common.{◌≡◌, ℕ, ◌+◌, ◌^◌, ◌<◌, ◌≤◌, ◌⊎◌, true, false, ◌&&◌, not, eqb, ltb, List, [], ◌∷◌, ◌++◌, length, get_or, drop, Option, Some, None, Result, Ok, refl, sym, ap, subst, ◌∙◌, arith, inl, inr}
use Rattle.std.specs.Prelude.{IfSome}
use Rattle.std.specs.Int.{Width, w32, byte_len, to_le_bytes}
use Rattle.std.proofs.lemmas.Bool.{eqb-true, eq-eqb, ltb-false, le-ltb, lt-ltb, and_parts, and_from}
use Rattle.std.proofs.lemmas.List.{drop_more, length-append, drop-drop, drop_at}
use Rattle.wal_record.specs.declared.fault.RecErr.{RecErr}
use Rattle.wal_spelling.specs.Numbers.{number_at}
use Rattle.wal_spelling.specs.Spelling.{main_header}
use Rattle.wal_record.specs.Reading.{ItemRead, HeaderCursor, begins_with, has_header, main_item, optional_item, owing_more, skip}
use Rattle.wal_record.specs.Items.{item_text}
use Rattle.wal_spelling.proofs.Bytes.{IsBytes, IsBytes-drop, IsWide, wide32}
use Rattle.wal_record.proofs.Steps.{not_refused, both_refuse, chosen, ok_is}
use Rattle.wal_record.proofs.HeadsTaken.{Passes, number_back, number_below, passes_skip}
use Rattle.wal_record.proofs.HeadsAgain.{standing_at, number_again}

pub begins_true : (tag : ℕ) (bytes : List ℕ) → begins_with tag bytes ≡ true → bytes ≡ tag ∷ drop 1 bytes
begins_true tag [] e = absurd cc
begins_true tag (b ∷ bs) e = ap (λ (x : ℕ). x ∷ bs) (eqb-true b tag e)

-- ---- an optional item

pub record ItemTaken (tag : ℕ) (w : Width) (limit : ℕ) (s : HeaderCursor) (x : ItemRead (Option ℕ)) : Type 0 where
  pub passes : Passes s (item_text tag w x.value) x.next
  pub number : IfSome x.value (λ n. n < limit)

pub optional_takes : (tag : ℕ) (w : Width) (limit : ℕ) → IsWide w limit → (s : HeaderCursor) (x : ItemRead (Option ℕ)) → IsBytes s.rest → optional_item tag w s ≡ Ok x → ItemTaken tag w limit s x
unfolding optional_item
optional_takes tag w limit wide s x fits e =
    elim (chosen (has_header s && begins_with tag s.rest) _ _ _ e) [
      | inl h ↦
          let a = not_refused (ltb (length s.rest) (1 + byte_len w)) _ _ x h.1 in
          let long = ltb-false _ _ a.0 in
          let made : ItemRead (Option ℕ) = record { value = Some (number_at w s.rest 1); next = skip (1 + byte_len w) s } in
          let begins = (and_parts (has_header s) (begins_with tag s.rest) h.0).1 in
          let spelled : s.rest ≡ (tag ∷ to_le_bytes w (number_at w s.rest 1)) ++ drop (1 + byte_len w) s.rest = begins_true tag s.rest begins ∙ ap (λ (l : List ℕ). tag ∷ l) (number_back w limit wide s.rest 1 fits (omega arith)) in
          subst (ItemTaken tag w limit s) (ok_is made x a.1) (record { passes = passes_skip (1 + byte_len w) s _ fits spelled (omega (arith, wide.len (number_at w s.rest 1))); number = number_below w limit wide s.rest 1 fits })
      | inr h ↦
          let none : ItemRead (Option ℕ) = record { value = None; next = s } in
          subst (ItemTaken tag w limit s) (ok_is none x h.1) (record { passes = record { rest_is = refl; at_is = omega arith; owed_is = refl; fits = fits }; number = tt })
    ]

-- where a header stands
pub item_some_here : (tag : ℕ) (w : Width) (limit : ℕ) → IsWide w limit → (at owed n : ℕ) (rest : List ℕ) → n < limit → has_header (standing_at at owed (tag ∷ (to_le_bytes w n ++ rest))) ≡ true
    → optional_item tag w (standing_at at owed (tag ∷ (to_le_bytes w n ++ rest))) ≡ Ok (record { value = Some n; next = standing_at (at + (1 + byte_len w)) owed rest })
unfolding optional_item
item_some_here tag w limit wide at owed n rest lt more =
    let bytes = tag ∷ (to_le_bytes w n ++ rest) in
    let len = wide.len n in
    let begins : eqb tag tag ≡ true = eq-eqb tag tag refl in
    let long : ltb (length bytes) (1 + byte_len w) ≡ false = le-ltb _ _ (omega (arith, length-append (to_le_bytes w n) rest)) in
    let behind : drop (1 + byte_len w) bytes ≡ rest = sym (drop-drop (byte_len w) 1 bytes) ∙ drop_at (to_le_bytes w n) rest (byte_len w) len in
    let number : number_at w bytes 1 ≡ n = number_again w limit wide bytes rest 1 n lt refl in
    rw (and_from _ _ more begins, long, behind, number) refl

pub item_some_again : (tag : ℕ) (w : Width) (limit : ℕ) → IsWide w limit → (at owed n : ℕ) (rest : List ℕ) → n < limit → owed ≤ length rest
    → optional_item tag w (standing_at at owed (tag ∷ (to_le_bytes w n ++ rest))) ≡ Ok (record { value = Some n; next = standing_at (at + (1 + byte_len w)) owed rest })
item_some_again tag w limit wide at owed n rest lt few = item_some_here tag w limit wide at owed n rest lt (lt-ltb _ _ (omega (arith, length-append (to_le_bytes w n) rest)))

pub item_none_again : (tag : ℕ) (w : Width) (s : HeaderCursor) → (has_header s && begins_with tag s.rest) ≡ false → optional_item tag w s ≡ Ok (record { value = None; next = s })
unfolding optional_item
item_none_again tag w s e = rw e refl

-- ---- the main data's header

-- nothing where there is none, the short form or the long form, whichever has room for its length
abbrev pub SpellsMainHead : List ℕ → ℕ → Type 0
SpellsMainHead text len = ((text ≡ []) × (len ≡ 0)) ⊎ (((len < 256) × (text ≡ main_header true len)) ⊎ ((len < 2 ^ 32) × (text ≡ main_header false len)))

pub record MainTaken (s next : HeaderCursor) : Type 0 where
  pub text : List ℕ
  pub len : ℕ
  pub spelled : SpellsMainHead text len
  pub rest_is : s.rest ≡ text ++ next.rest
  pub at_is : next.at ≡ s.at + length text
  pub owed_is : next.owed ≡ s.owed + len
  pub fits : IsBytes next.rest

pub short_taken : (s : HeaderCursor) → IsBytes s.rest → begins_with 255 s.rest ≡ true → 2 ≤ length s.rest → MainTaken s (owing_more (get_or s.rest 1 0) (skip 2 s))
short_taken s fits begins long = record {
  text = 255 ∷ get_or s.rest 1 0 ∷ [];
  len = get_or s.rest 1 0;
  spelled = inr (inl (fits 1, refl));
  rest_is = begins_true 255 s.rest begins ∙ ap (λ (l : List ℕ). 255 ∷ l) (drop_more s.rest 1 0 (omega arith));
  at_is = refl;
  owed_is = refl;
  fits = IsBytes-drop 2 s.rest fits;
}

pub long_taken : (s : HeaderCursor) → IsBytes s.rest → begins_with 254 s.rest ≡ true → 5 ≤ length s.rest → MainTaken s (owing_more (number_at w32 s.rest 1) (skip 5 s))
long_taken s fits begins long = record {
  text = 254 ∷ to_le_bytes w32 (number_at w32 s.rest 1);
  len = number_at w32 s.rest 1;
  spelled = inr (inr (number_below w32 (2 ^ 32) wide32 s.rest 1 fits, refl));
  rest_is = begins_true 254 s.rest begins ∙ ap (λ (l : List ℕ). 254 ∷ l) (number_back w32 (2 ^ 32) wide32 s.rest 1 fits (omega arith));
  at_is = refl;
  owed_is = refl;
  fits = IsBytes-drop 5 s.rest fits;
}

no_main_taken : (s : HeaderCursor) → IsBytes s.rest → MainTaken s s
no_main_taken s fits = record { text = []; len = 0; spelled = inl (refl, refl); rest_is = refl; at_is = omega arith; owed_is = omega arith; fits = fits }

pub main_takes : (s next : HeaderCursor) → IsBytes s.rest → main_item s ≡ Ok next → MainTaken s next
unfolding main_item
main_takes s next fits e =
    elim (chosen (not (has_header s)) _ _ _ e) [
      | inl h ↦ subst (MainTaken s) (ok_is s next h.1) (no_main_taken s fits)
      | inr h ↦ elim (chosen (begins_with 255 s.rest) _ _ _ h.1) [
        | inl k ↦ let p = not_refused (ltb (length s.rest) 2) _ _ next k.1 in subst (MainTaken s) (ok_is _ next p.1) (short_taken s fits k.0 (ltb-false _ _ p.0))
        | inr k ↦ elim (chosen (begins_with 254 s.rest) _ _ _ k.1) [
          | inl m ↦ let p = not_refused (ltb (length s.rest) 5) _ _ next m.1 in subst (MainTaken s) (ok_is _ next p.1) (long_taken s fits m.0 (ltb-false _ _ p.0))
          | inr m ↦ absurd (both_refuse _ _ _ next m.1)
        ]
      ]
    ]

abbrev done : HeaderCursor → Result HeaderCursor RecErr
done s = Ok s

same_place : (at owed : ℕ) (rest : List ℕ) → done (standing_at at owed rest) ≡ done (standing_at (at + 0) (owed + 0) rest)
same_place at owed rest = ap (λ (k : ℕ). done (standing_at k owed rest)) (omega arith) ∙ ap (λ (k : ℕ). done (standing_at (at + 0) k rest)) (omega arith)

pub main_again : (at owed len : ℕ) (text rest : List ℕ) → SpellsMainHead text len → length rest ≡ owed + len → main_item (standing_at at owed (text ++ rest)) ≡ Ok (standing_at (at + length text) (owed + len) rest)
unfolding main_item
main_again at owed len text rest (inl h) left =
    let over : ltb owed (length rest) ≡ false = le-ltb _ _ (omega (arith, h.1)) in
    rw (h.0, h.1, over) (same_place at owed rest)
main_again at owed len text rest (inr (inl h)) left =
    let more : ltb owed (length (255 ∷ len ∷ rest)) ≡ true = lt-ltb _ _ (omega arith) in
    let long : ltb (length (255 ∷ len ∷ rest)) 2 ≡ false = le-ltb _ _ (omega arith) in
    rw (h.1, more, long) refl
main_again at owed len text rest (inr (inr h)) left =
    let body = to_le_bytes w32 len ++ rest in
    let more : ltb owed (length (254 ∷ body)) ≡ true = lt-ltb _ _ (omega (arith, length-append (to_le_bytes w32 len) rest)) in
    let long : ltb (length (254 ∷ body)) 5 ≡ false = le-ltb _ _ (omega (arith, length-append (to_le_bytes w32 len) rest)) in
    let number : number_at w32 (254 ∷ body) 1 ≡ len = number_again w32 (2 ^ 32) wide32 (254 ∷ body) rest 1 len h.0 refl in
    rw (h.1, more, long, number) refl
