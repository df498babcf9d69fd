-- A turn leaves the ring's size as it is.
use Rattle.std.proofs.Common.{◌≡◌, ℕ, ◌+◌, Bool, true, false, not, ◌&&◌, ◌||◌, ◌==◌, if◌then◌else◌, Option, Some, None, slice_get, slice_index, refl, sym, ◌∙◌, ap}
use mathlib.Core.Option.{Option as Maybe, some, none}
use lib.ListN.{get_elem?}
use Rattle.machine_state.specs.Views.{View}
use Rattle.machine_state.specs.Words.{Opening, down_word}
use Rattle.machine_turns.specs.Doing.{Ask, Backend, Machine}
use Rattle.machine_turns.specs.Turned.{TurnMade, Waits, can_step, event_named, fallen, looks_down, moved_on, turned, turned_by, turned_for, turned_of, word_waited}
use Rattle.wal_core.specs.declared.machine.Core.{Core}
use Rattle.wal_core.specs.Cores.{core_of}
use Rattle.wal_core.specs.Playing.{PlaysMachine}

abbrev HasOpening : Opening → TurnMade × Machine → Type 0
HasOpening opening left = (left.1).opening ≡ opening

either : (opening : Opening) (b : Bool) (x y : TurnMade × Machine) → HasOpening opening x
    → HasOpening opening y → HasOpening opening (if b then x else y)
either opening true x y p q = p
either opening false x y p q = q

module _ (m : Machine) (number : ℕ) where
  by_turn : (b : Backend) (v : View) (ask : Ask) → HasOpening m.opening (turned_by m number b v ask)
  by_turn b v ask =
      let can = can_step m v ask b.doing in
      let goes = moved_on m number b v ask (event_named m v ask b.doing) in
      let waits : TurnMade × Machine = (
        Waits (word_waited m v ask b.doing)
            (slice_index (m.state).words (word_waited m v ask b.doing)),
        m,
      ) in
      either m.opening
      (not (down_word (m.state).words == 0) && (looks_down m v ask b.doing || not can))
      (fallen m number b v ask) (if can then goes else waits) refl
      (either m.opening can goes waits refl refl)

  for_turn : (b : Backend) (v : View) (ask : Option Ask)
      → HasOpening m.opening (turned_for m number b v ask)
  for_turn b v None = refl
  for_turn b v (Some ask) = by_turn b v ask

  of_turn : (b : Option Backend) (v : Maybe View) → HasOpening m.opening (turned_of m number b v)
  of_turn None v = refl
  of_turn (Some b) none = refl
  of_turn (Some b) (some v) = for_turn b v (slice_get b.asks b.answered)

  opening_stays : HasOpening m.opening (turned m number)
  opening_stays =
      of_turn (slice_get m.backends number) (get_elem? (m.state).views (number + 1))

-- a core that plays a machine, and one that plays it behind a turn
pub pages_stay : (old new : Core) (m : Machine) (number : ℕ) → PlaysMachine (core_of old) m
    → PlaysMachine (core_of new) (turned m number).1 → new.words.pages ≡ old.words.pages
pages_stay old new m number was is =
    let at = ap (λ (o : Opening). (o.setup).ring_pages) (opening_stays m number) in
    is.pages_are ∙ sym (ap (λ s. s.ring_pages) is.setup_is) ∙ at
    ∙ ap (λ s. s.ring_pages) was.setup_is ∙ sym was.pages_are
