-- Ring and pages where a pass is split off, is taken in, or gives up its copy, in a state that
-- keeps the invariant.
use Rattle.std.proofs.Common.{◌≡◌, ℕ, List, [], ◌∷◌, ◌++◌, map, set, sym, ap, ◌∙◌, subst}
use mathlib.Core.Option.{Option}
use Rattle.machine_state.specs.Words.{Opening, initialised_word, written_word, end_word, word_of_ring}
use Rattle.machine_state.specs.Views.{HasAt, Flight, Plain, View, flight_of, confirmed_of}
use Rattle.machine_state.specs.Ringed.{RingHolds}
use Rattle.machine_state.specs.Paged.{PagesHold}
use Rattle.machine_state.specs.Moves.{after_split, split_off, after_join, spent, without_work, orphan_of}
use Rattle.machine_state.specs.Steps.{IsResting}
use Rattle.machine_state.specs.Sound.{IsSound}
use Rattle.machine_state.proofs.Lists.{part_added, part_at, part_set}
use Rattle.machine_laws.specs.RingBehind.{HasRingWith, HasPagesWith}
use Rattle.machine_laws.proofs.RingLaws as ring
use Rattle.machine_laws.proofs.PageLaws as page
use Rattle.segment_disk.specs.Tape.{DiskState}

module _ {W : Type 0} (f : View → W) where
  -- the parts where one view is set and one added, and where two are set
  part_set_added : (views : List View) (id : ℕ) (w new : View)
      → map f (set views id w ++ new ∷ []) ≡ set (map f views) id (f w) ++ f new ∷ []
  part_set_added views id w new = part_added f (set views id w) new
      ∙ ap (λ (xs : List W). xs ++ f new ∷ []) (part_set f views id w)

  part_set_twice : (views : List View) (other id : ℕ) (u w : View)
      → map f (set (set views other u) id w) ≡ set (set (map f views) other (f u)) id (f w)
  part_set_twice views other id u w = part_set f (set views other u) id w
      ∙ ap (λ (xs : List W). set xs id (f w)) (part_set f views other u)

module _ {first : DiskState} (opening : Opening) (words : List ℕ) (home : Option Plain) (views : List View)
    (s : IsSound first opening words home views) (id : ℕ) (v : View) (here : HasAt views id v) where
  abbrev Ring : List Flight → Type 0
  Ring fs = RingHolds opening s.order s.reach s.memory fs

  abbrev Pages : List ℕ → Type 0
  Pages cs = PagesHold (opening.setup).ring_pages s.reach s.stage
      (initialised_word words) (written_word words) (end_word words)
      (word_of_ring opening.setup words) s.memory cs

  flies : HasAt (map flight_of views) id (v.working).flight
  flies = part_at flight_of views id v here

  mine : HasAt (map confirmed_of views) id (v.mapping).confirmed
  mine = part_at confirmed_of views id v here

  pub ring-split : HasRingWith opening words home views s
      (set views id (after_split v) ++ split_off v ∷ [])
  ring-split = subst Ring (sym (part_set_added flight_of views id (after_split v) (split_off v)))
      (ring.splits opening s.order s.reach s.memory (map flight_of views) s.ring id
      (v.working).flight flies)

  pub pages-split : HasPagesWith opening words home views s
      (set views id (after_split v) ++ split_off v ∷ [])
  pages-split = subst Pages (sym (part_set_added confirmed_of views id (after_split v)
      (split_off v)))
      (page.one_more (opening.setup).ring_pages s.reach s.stage (initialised_word words)
      (written_word words) (end_word words) (word_of_ring opening.setup words) s.memory
      (map confirmed_of views) s.pages id (v.mapping).confirmed mine)

  pub ring-given_up : HasRingWith opening words home views s
      (set views id (without_work v) ++ orphan_of v ∷ [])
  ring-given_up = subst Ring
      (sym (part_set_added flight_of views id (without_work v) (orphan_of v)))
      (ring.gives_up opening s.order s.reach s.memory (map flight_of views) s.ring id
      (v.working).flight flies)

  pub pages-given_up : HasPagesWith opening words home views s
      (set views id (without_work v) ++ orphan_of v ∷ [])
  pages-given_up = subst Pages
      (sym (part_set_added confirmed_of views id (without_work v) (orphan_of v)))
      (page.one_beside (opening.setup).ring_pages s.reach s.stage (initialised_word words)
      (written_word words) (end_word words) (word_of_ring opening.setup words) s.memory
      (map confirmed_of views) s.pages id (v.mapping).confirmed mine)

  module _ (other : ℕ) (u : View) (there : HasAt views other u) where
    pub ring-taken_in : IsResting u
        → HasRingWith opening words home views s (set (set views other (spent u)) id
        (after_join v u))
    ring-taken_in rests = subst Ring
        (sym (part_set_twice flight_of views other id (spent u) (after_join v u)))
        (ring.takes_in opening s.order s.reach s.memory (map flight_of views) s.ring id
        (v.working).flight flies other (subst (λ (f : Flight). HasAt (map flight_of views) other f)
        rests.flight (part_at flight_of views other u there)))

    pub pages-taken_in : HasPagesWith opening words home views s
        (set (set views other (spent u)) id (after_join v u))
    pages-taken_in = subst Pages
        (sym (part_set_twice confirmed_of views other id (spent u) (after_join v u)))
        (page.one_less (opening.setup).ring_pages s.reach s.stage (initialised_word words)
        (written_word words) (end_word words) (word_of_ring opening.setup words) s.memory
        (map confirmed_of views) s.pages id other (v.mapping).confirmed mine)
