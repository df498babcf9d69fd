-- An entry more at the end of the order: what is lawful, firm or staged stays so, and none of the
-- entry's words was put before.
use Rattle.std.proofs.Common.{◌≡◌, ℕ, zero, suc, ◌+◌, ◌-◌, ◌*◌, ◌<◌, ◌≤◌, inl, inr, All, List, [], ◌∷◌, ◌++◌, take, drop, sym, ap, ◌∙◌, arith}
use Rattle.std.specs.Int.{w64, to_le_bytes}
use Rattle.std.proofs.lemmas.Bool.{cases_lt}
use Rattle.std.proofs.lemmas.List.Elements.{All-nil, All-weaker, All-take}
use Rattle.byte_position.specs.Geometry.{IsSegmentSize, pages_of}
use Rattle.byte_position.specs.Position.{end_address_of}
use Rattle.byte_position.proofs.SegmentSizes.{segment_size_in_pages}
use Rattle.wal_spelling.specs.Spelling.{assembled}
use Rattle.segment_disk.specs.declared.disk.Call.{Call}
use Rattle.segment_disk.specs.declared.disk.CallKind.{CallKind}
use Rattle.segment_disk.specs.declared.disk.CallKind.TheVariants.{Create, Write, Sync}
use Rattle.segment_disk.specs.Tape.{Tape}
use Rattle.segment_disk.specs.Assured.{CallFits, IsMadeUpto, IsNowhere, KindFits, TapeAssures}
use Rattle.flush_core.proofs.LeftLaws.{TapeAssures-weaker}
use Rattle.flush_core.proofs.LeftPuts.{div_rises}
use Rattle.wal_page.specs.Order.{Entry}
use Rattle.wal_page.specs.Placed.{Owns}
use Rattle.wal_page.proofs.PlaceLaws.{word_from_push, word_from-behind}
use Rattle.wal_page.proofs.OwnerLaws.{Owns-between}
use Rattle.segment_disk.specs.ImageWords.{zero_word}
use Rattle.machine_state.specs.Words.{end_form, order_end, GoesOnAtPlace, Opening}
use Rattle.machine_state.specs.Ringed.{log_word_of}
use Rattle.machine_state.specs.Durable.{IsFirm, IsLawfulAt, IsLogBelow, IsStaged, IsUnwritten, PutsNone}

-- what holds behind a place holds there up to any other
pub All-between : {A : Type 0} (P : A → Type 0) (from upto : ℕ) (xs : List A) → All P (drop from xs)
    → All P (drop from (take upto xs))
All-between P zero upto xs all = All-take P upto xs all
All-between P (suc from) zero xs all = All-nil P
All-between P (suc from) (suc upto) [] all = all
All-between P (suc from) (suc upto) (x ∷ xs) all = All-between P from upto xs all

-- fewer segments are asked for below a lower address
pub IsMadeUpto-lower : (size low high : ℕ) → low ≤ high → (segment : ℕ)
    → IsMadeUpto size low segment → IsMadeUpto size high segment
IsMadeUpto-lower size low high le segment made =
    let rises = div_rises (low - 1) (high - 1) size (omega arith) in
    (made.0, omega (arith, made.1, rises))

pub IsFirm-lower : (opening : Opening) (order : List Entry) (low high moment : ℕ) (t : Tape)
    → low ≤ high → IsFirm opening order high moment t → IsFirm opening order low moment t
IsFirm-lower opening order low high moment t le firm =
    TapeAssures-weaker opening.setup.seg_size (IsMadeUpto opening.setup.seg_size high)
    (IsLogBelow opening order high) (IsMadeUpto opening.setup.seg_size low) (IsLogBelow opening order low)
    (IsMadeUpto-lower opening.setup.seg_size low high le)
    (λ page word bytes is below. is (omega arith)) moment t firm

module _ (opening : Opening) (valid : IsSegmentSize opening.setup.seg_size) (order : List Entry)
    (e : Entry) (chained : GoesOnAtPlace opening order)
    (start : e.start ≡ order_end opening order) where
  abbrev longer : List Entry
  longer = order ++ e ∷ []

  abbrev end : ℕ
  end = end_form opening.setup (order_end opening order)

  entry_begins : end_address_of opening.setup.seg_size e.start ≡ end
  entry_begins = ap (end_address_of opening.setup.seg_size) start

  pub word_below : (a : ℕ) → a < end
      → log_word_of opening longer a ≡ log_word_of opening order a
  word_below a below =
      word_from_push opening.setup.seg_size opening.setup.sysid valid opening.place order e chained start a
      (λ (owns : Owns opening.setup.seg_size (assembled e.value) e.start a).
      let between = Owns-between opening.setup.seg_size valid (assembled e.value) e.start a owns in
      omega (arith, between.0, entry_begins))

  pub word_above : (a : ℕ) → end ≤ a → log_word_of opening order a ≡ 0
  word_above a above = word_from-behind opening.setup.seg_size opening.setup.sysid valid opening.place order chained a above

  -- a lawful word is 0 where the order has none
  pub lawful_is_zero : (page word : ℕ) (bytes : List ℕ) → end ≤ page * 8192 + 8 * word
      → IsLawfulAt opening order page word bytes → bytes ≡ zero_word
  lawful_is_zero page word bytes above (inl none) = none
  lawful_is_zero page word bytes above (inr own) =
      own ∙ ap (to_le_bytes w64) (word_above (page * 8192 + 8 * word) above)

  lawful_grows : (page word : ℕ) (bytes : List ℕ) → IsLawfulAt opening order page word bytes
      → IsLawfulAt opening longer page word bytes
  lawful_grows page word bytes lawful = elim (cases_lt (page * 8192 + 8 * word) end) [
    | inl below ↦ elim lawful [
      | inl zeros ↦ inl zeros
      | inr own ↦ inr (own ∙ ap (to_le_bytes w64)
          (sym (word_below (page * 8192 + 8 * word) below)))
    ]
    | inr above ↦ inl (lawful_is_zero page word bytes above lawful)
  ]

  pub lawful_stays : (moment : ℕ) (t : Tape)
      → TapeAssures opening.setup.seg_size IsNowhere (IsLawfulAt opening order) moment t
      → TapeAssures opening.setup.seg_size IsNowhere (IsLawfulAt opening longer) moment t
  lawful_stays moment t assures =
      TapeAssures-weaker opening.setup.seg_size IsNowhere (IsLawfulAt opening order)
      IsNowhere (IsLawfulAt opening longer) (λ segment nowhere. nowhere) lawful_grows moment t assures

  pub below_grows : (upto : ℕ) → upto ≤ end → (page word : ℕ) (bytes : List ℕ)
      → IsLogBelow opening order upto page word bytes → IsLogBelow opening longer upto page word bytes
  below_grows upto low page word bytes is below =
      is below ∙ ap (to_le_bytes w64)
      (sym (word_below (page * 8192 + 8 * word) (omega arith)))

  pub firm_stays : (upto moment : ℕ) (t : Tape) → upto ≤ end → IsFirm opening order upto moment t
      → IsFirm opening longer upto moment t
  firm_stays upto moment t low firm =
      TapeAssures-weaker opening.setup.seg_size (IsMadeUpto opening.setup.seg_size upto)
      (IsLogBelow opening order upto) (IsMadeUpto opening.setup.seg_size upto)
      (IsLogBelow opening longer upto) (λ segment made. made) (below_grows upto low) moment t firm

  pub staged_stays : (known : ℕ) (s : ℕ × ℕ) → known ≤ end → IsStaged opening order known s
      → IsStaged opening longer known s
  staged_stays known s low is = record {
    lawful = elim (cases_lt (8 * s.0) end) [
      | inl below ↦ elim is.lawful [
        | inl zeros ↦ inl zeros
        | inr own ↦ inr (own ∙ sym (word_below (8 * s.0) below))
      ]
      | inr above ↦ elim is.lawful [
        | inl zeros ↦ inl zeros
        | inr own ↦ inl (own ∙ word_above (8 * s.0) above)
      ]
    ];
    below = λ under. is.below under ∙ sym (word_below (8 * s.0) (omega arith));
  }

  -- what was put before is 0 at the words of the entry
  puts_none : (geometry segment : ℕ) (kind : CallKind)
      → KindFits opening.setup.seg_size (IsLawfulAt opening order) geometry segment kind
      → PutsNone opening.setup.seg_size e segment kind
  puts_none geometry segment (Create made) fits = tt
  puts_none geometry segment (Write page bytes) fits =
      let whole = segment_size_in_pages opening.setup.seg_size valid in
      let product : segment * opening.setup.seg_size ≡ segment * (8192 * pages_of opening.setup.seg_size)
      = ap (λ (m : ℕ). segment * m) whole.0 in
      λ n low from upto.
      let at : (segment * pages_of opening.setup.seg_size + page) * 8192 + 8 * n
      ≡ segment * opening.setup.seg_size + page * 8192 + 8 * n = omega arith in
      lawful_is_zero (segment * pages_of opening.setup.seg_size + page) n _
      (omega (arith, at, from, entry_begins)) (fits.2 n low)
  puts_none geometry segment Sync fits = tt

  pub IsUnwritten-new : (opened moment : ℕ) (t : Tape)
      → TapeAssures opening.setup.seg_size IsNowhere (IsLawfulAt opening order) opened t
      → IsUnwritten opening.setup.seg_size opened t moment e
  IsUnwritten-new opened moment t assures =
      All-weaker (CallFits opening.setup.seg_size (IsLawfulAt opening order))
      (λ (c : Call). PutsNone opening.setup.seg_size e c.segment c.kind)
      (λ c fits. puts_none c.geometry c.segment c.kind fits)
      (drop opened (take moment t.calls))
      (All-between (CallFits opening.setup.seg_size (IsLawfulAt opening order)) opened moment t.calls
      assures.calls)
