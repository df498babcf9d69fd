-- The order of a closed log is that of what the script's lines were told.
use Rattle.std.proofs.Common.{◌≡◌, ℕ, suc, zero, ◌+◌, ◌<◌, ◌≤◌, All, List, [], ◌∷◌, ◌++◌, inl, inr, length, map, refl, sym, ap, ◌∙◌, subst, arith}
use Rattle.std.proofs.lemmas.List.Elements.{All-cons, All-contains, All-head, All-nil, All-tail}
use Rattle.wal_page.specs.LogPlace.{IsPlace}
use Rattle.wal_page.specs.Order.{Entry}
use Rattle.byte_position.specs.Geometry.{IsSegmentSize}
use Rattle.wal_page.proofs.OrderLaws.{room_at-pos}
use Rattle.wal_page.specs.Order.{position_behind}
use Rattle.run_script.specs.Asked.{AskedLine}
use Rattle.machine_state.specs.Words.{Opening, log_limit}
use Rattle.machine_state.specs.Views.{Joined, View}
use Rattle.machine_state.specs.Moves.{joined_of}
use Rattle.machine_state.specs.Ordered.{entries_under, TookIn}
use Rattle.machine_laws.specs.ClosedLogs.{OrderIsAccounted}
use Rattle.run_laws.specs.Rising.{RiseFrom}
use Rattle.run_laws.proofs.Risen.{risen}
use Rattle.run_laws.specs.declared.told.Told.{Told}
use Rattle.run_laws.specs.Told.{entries_from, entries_of, order_from, sorted_by_start, IsRising, RiseInLineOrder}
use Rattle.run_laws.specs.Played.{PlaysAllLines, state_at_first, pass_state_of}
use Rattle.run_laws.specs.Ended.{HasTakenIn, IsClosedLog, PlayedAll}
use Rattle.run_laws.proofs.LineEntries.{lines_entries}
use Rattle.run_laws.proofs.Sorting.{NoneOutside, sorted_under, under_from}

-- what holds of the passes taken in holds of the views that they were
pub unmapped : (P : Joined → Type 0) (others : List View) → All P (map joined_of others)
    → All (λ w. P (joined_of w)) others
unmapped P [] all = All-nil (λ (w : View). P (joined_of w))
unmapped P (w ∷ others) all =
    All-cons (λ (w : View). P (joined_of w)) w others
    (All-head P (joined_of w) (map joined_of others) all)
    (unmapped P others (All-tail P (joined_of w) (map joined_of others) all))

-- their numbers are below one
numbers_below : (size limit pass bound : ℕ) (script : List (List AskedLine))
    (lists : List (List Told)) (others : List View)
    → PlayedAll size limit pass script lists others → pass + length others ≤ bound
    → All (λ j. j.number < bound) (map joined_of others)
numbers_below size limit pass bound [] [] [] played within =
    All-nil (λ (j : Joined). j.number < bound)
numbers_below size limit pass bound [] [] (w ∷ others) played within = absurd played
numbers_below size limit pass bound [] (told ∷ lists) others played within = absurd played
numbers_below size limit pass bound (lines ∷ script) [] others played within = absurd played
numbers_below size limit pass bound (lines ∷ script) (told ∷ lists) [] played within =
    absurd played
numbers_below size limit pass bound (lines ∷ script) (told ∷ lists) (w ∷ others) played within =
    All-cons (λ (j : Joined). j.number < bound) (joined_of w) (map joined_of others)
    (omega (arith, played.0, within))
    (numbers_below size limit (pass + 1) bound script lists others played.2 (omega (arith, within)))

rising_of : (size position : ℕ) (es : List Entry) → RiseFrom size position es → IsRising es
rising_of size position [] rise = tt
rising_of size position (e ∷ []) rise = tt
rising_of size position (e ∷ f ∷ es) rise = (
  omega (arith, rise.1.0, room_at-pos size e),
  rising_of size (position_behind size e) (f ∷ es) rise.1,
)

module _ (size limit : ℕ) (valid : IsSegmentSize size) (order : List Entry) where
  -- a pass's log is its entries of the order
  abbrev pub IsOfOrder : View → Type 0
  IsOfOrder w = (w.reserving).entries ≡ entries_under (w.reserving).number order

  pub told_entries : (pass : ℕ) (lines : List AskedLine) (told : List Told) (w : View)
      → (w.reserving).number ≡ pass
      → PlaysAllLines size limit pass lines told (pass_state_of w) → IsOfOrder w
      → entries_of size pass lines told ≡ entries_under pass order
  told_entries pass lines told w number plays is_of =
      sym (lines_entries size limit pass valid lines told (state_at_first plays.seen)
      (pass_state_of w) plays.plays)
      ∙ is_of ∙ ap (λ (n : ℕ). entries_under n order) number

  all_entries : (pass : ℕ) (script : List (List AskedLine)) (lists : List (List Told))
      (others : List View) → PlayedAll size limit pass script lists others
      → All IsOfOrder others
      → entries_from size pass script lists ≡ under_from pass (length others) order
  all_entries pass [] [] [] played all = refl
  all_entries pass [] [] (w ∷ others) played all = absurd played
  all_entries pass [] (told ∷ lists) others played all = absurd played
  all_entries pass (lines ∷ script) [] others played all = absurd played
  all_entries pass (lines ∷ script) (told ∷ lists) [] played all = absurd played
  all_entries pass (lines ∷ script) (told ∷ lists) (w ∷ others) played all =
      ap (λ (es : List Entry). es ++ entries_from size (pass + 1) script lists)
      (told_entries pass lines told w played.0 played.1 (All-head IsOfOrder w others all))
      ∙ ap (λ (es : List Entry). entries_under pass order ++ es)
      (all_entries (pass + 1) script lists others played.2 (All-tail IsOfOrder w others all))

  all_rise : ((number : ℕ) → IsRising (entries_under number order)) → (pass : ℕ)
      (script : List (List AskedLine)) (lists : List (List Told)) (others : List View)
      → PlayedAll size limit pass script lists others → All IsOfOrder others
      → RiseInLineOrder size pass script lists
  all_rise rising pass [] [] [] played all = tt
  all_rise rising pass [] [] (w ∷ others) played all = absurd played
  all_rise rising pass [] (told ∷ lists) others played all = absurd played
  all_rise rising pass (lines ∷ script) [] others played all = absurd played
  all_rise rising pass (lines ∷ script) (told ∷ lists) [] played all = absurd played
  all_rise rising pass (lines ∷ script) (told ∷ lists) (w ∷ others) played all = (
    subst IsRising (sym (told_entries pass lines told w played.0 played.1
        (All-head IsOfOrder w others all))) (rising pass),
    all_rise rising (pass + 1) script lists others played.2 (All-tail IsOfOrder w others all),
  )

module _ (opening : Opening) (order : List Entry) (v : View) (c : IsClosedLog opening order v)
    (script : List (List AskedLine)) (lists : List (List Told))
    (taken : HasTakenIn opening v script lists) where
  abbrev size : ℕ
  size = (opening.setup).seg_size

  pub valid : IsSegmentSize (opening.setup).seg_size
  valid = ((c.sound).setup_is).size

  pub at_place : IsPlace (opening.setup).seg_size opening.place
  at_place = ((c.sound).reserved).placed

  pub accounted : OrderIsAccounted opening order c.words c.views v.reserving
  accounted = (c.closed).accounted

  pub all_of_order : All (IsOfOrder size (log_limit opening.setup) valid order) taken.others
  all_of_order =
      unmapped (λ (j : Joined). j.entries ≡ entries_under j.number order) taken.others
      (subst (All (λ (j : Joined). j.entries ≡ entries_under j.number order)) taken.joined
      (accounted.part).joined)

  below : All (λ j. j.number < 1 + length taken.others) (v.reserving).joined
  below =
      subst (All (λ (j : Joined). j.number < 1 + length taken.others)) (sym taken.joined)
      (numbers_below size (log_limit opening.setup) 1 (1 + length taken.others) script lists
      taken.others taken.played (omega arith))

  none_outside : NoneOutside 1 (length taken.others) order
  none_outside zero o =
      ap (λ (n : ℕ). entries_under n order) (sym taken.number)
      ∙ sym (accounted.part).entries ∙ taken.none
  none_outside (suc q) (inl low) = absurd (omega (arith, low))
  none_outside (suc q) (inr high) =
      accounted.no_other (suc q) (λ same. omega (arith, same, taken.number))
      (λ (t : TookIn (suc q) v.reserving). omega (
        arith,
        t.2,
        high,
        All-contains (λ (j : Joined). j.number < 1 + length taken.others) (v.reserving).joined t.0
            below t.1,
      ))

  pub told_order : order_from (opening.setup).seg_size 1 script lists ≡ order
  told_order =
      let passes = length taken.others in
      ap sorted_by_start (all_entries size (log_limit opening.setup) valid order 1 script lists
      taken.others taken.played all_of_order)
      ∙ sorted_under size (opening.place).position 1 passes order accounted.chained
      accounted.owned none_outside

  pub told_rise : RiseInLineOrder (opening.setup).seg_size 1 script lists
  told_rise =
      let rise = (risen opening order c.words c.views v.reserving accounted).rise in
      all_rise size (log_limit opening.setup) valid order
      (λ number. rising_of size (opening.place).position (entries_under number order)
      (rise number))
      1 script lists taken.others taken.played all_of_order
