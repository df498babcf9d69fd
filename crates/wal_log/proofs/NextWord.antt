-- How far an insert tells its copy to be: up to the address of the next word, which is within the
-- log, and a multiple of 8.
use Rattle.std.proofs.Common.{◌≡◌, ℕ, ◌^◌, ◌<◌, List, Contains, sym, ap, ◌∙◌, subst, arith}
use Rattle.wal_page.specs.EntryWords.{address_of_word}
use Rattle.wal_page.specs.Placed.{PlacedState}
use Rattle.machine_state.specs.declared.setup.Setup.{Setup}
use Rattle.machine_state.specs.Locked.{most_told}
use Rattle.machine_state.specs.Words.{end_form}
use Rattle.machine_state.specs.Views.{Copy, Copying, Flight, Working, View}
use Rattle.insert_locks.specs.Holding.{MayTell}
use Rattle.machine_laws.proofs.ToldLaws.{told_of_copy}
use Rattle.wal_rule.specs.declared.seated.SeatedPass.{SeatedPass}
use Rattle.wal_rule.specs.SeatedPasses.{view_of}
use Rattle.word_ring.proofs.CopyLaws.{next-whole}
use Rattle.wal_log.specs.Standing.{CopiesAlone}
use Rattle.wal_log.proofs.CopyLaws.{alone_low}
use Rattle.wal_log.proofs.Seated.{own_setup}

module _ {D : Type 0} (p : SeatedPass D) (locks : List ℕ) (placed : PlacedState)
    (copies : CopiesAlone locks placed p) where
  abbrev v : View
  v = view_of p

  abbrev copy : Copy
  copy = (copies.under).copy

  flight : (v.working).flight ≡ Copying copy
  flight = ap (λ (w : Working). w.flight) (copies.under).working

  next_is : placed.next ≡ address_of_word ((v.opening).setup).seg_size copy.entry copy.copied
  next_is = ap (λ (q : PlacedState). q.next) (copies.under).rest
      ∙ ap (λ (s : Setup). address_of_word s.seg_size copy.entry copy.copied)
      (sym (own_setup p))

  pub told_low : placed.next < 2 ^ 60
  told_low = let low = alone_low p locks placed copies in omega (arith, low)

  has : (held : List ℕ) → held ≡ locks → (lock : ℕ) → Contains locks lock → Contains held lock
  has held are lock among = subst (λ (l : List ℕ). Contains l lock) (sym are) among

  pub may_tell : MayTell locks placed.next v
  may_tell lock among = (
    has (v.working).locks (ap (λ (w : Working). w.locks) (copies.under).working) lock among,
    subst (λ (f : Flight). placed.next < most_told ((v.opening).setup).seg_size
        (end_form (v.opening).setup (v.reserving).seen) lock f) (sym flight)
        (omega (
          arith,
          next_is,
          told_of_copy ((v.opening).setup).seg_size
              (end_form (v.opening).setup (v.reserving).seen) copy lock
              (has copy.locks (copies.under).under lock among),
        )),
    next-whole p placed (copy, flight, (copies.under).rest),
  )
