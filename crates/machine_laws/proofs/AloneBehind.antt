-- A segment switch in flight stands under all eight insertion locks as long as a word of it is
-- left to copy: behind a step of any kind, and where passes come and go. Its pass gives none of
-- them back before, and no other step changes under which locks an entry stands.
use Rattle.std.proofs.Common.{◌≡◌, ℕ, ◌+◌, ◌<◌, IsTrue, Contains, List, [], ◌∷◌, ◌++◌, map, set, slice_index, refl, sym, subst, ⊎_elim, arith}
use mathlib.Core.Option.{Option}
use Rattle.segment_disk.specs.Tape.{DiskState}
use Rattle.wal_types.specs.declared.record.Record.{Record}
use Rattle.wal_spelling.specs.Record.{is_switch}
use Rattle.wal_page.specs.EntryWords.{words_owned}
use Rattle.machine_state.specs.Views.{HasAt, Copy, Copying, Flight, Landed, Place, Plain, View, Working, flight_of, working_of}
use Rattle.machine_state.specs.Locked.{StandsAlone, SwitchesStandAlone}
use Rattle.machine_state.specs.Moves.{after_join, after_split, after_store_position, entry_reserved, landed, one_more, orphan_of, spent, split_off, with_place, without_work}
use Rattle.machine_state.specs.Steps.{StepKind, MayStep, word_of_step, view_behind, store_position}
use Rattle.machine_state.specs.Sound.{IsSound}
use Rattle.machine_state.proofs.Landing.{landed_was, none_lands}
use Rattle.machine_state.proofs.Lists.{one_added, one_set, part_at, part_set}
use Rattle.machine_laws.specs.Locks.{idle}
use Rattle.machine_laws.proofs.HeldLaws.{copying_same}
use Rattle.machine_laws.proofs.LeftSteps.{by_copies, flight_left}
use Rattle.machine_laws.proofs.LockPassSteps.{one_changes, two_change}

-- ---- of one flight

-- what is said of a copy
abbrev IsUnderAll : ℕ → Copy → Type 0
IsUnderAll size c = IsTrue (is_switch (c.entry).value) → c.copied < words_owned size c.entry
    → (lock : ℕ) → lock < 8 → Contains c.locks lock

module _ (size : ℕ) where
  pub landed_alone : StandsAlone size Landed
  landed_alone c is = absurd (none_lands c is)

  copying_alone : (d : Copy) → IsUnderAll size d → StandsAlone size (Copying d)
  copying_alone d holds c is = subst (IsUnderAll size) (copying_same d c is) holds

  -- one word more is copied
  further_alone : (f : Flight) → StandsAlone size f → StandsAlone size (one_more f)
  further_alone Landed alone = landed_alone
  further_alone (Copying d) alone = copying_alone (record d { copied = d.copied + 1 })
      (λ switches left. alone d refl switches (omega (arith, left)))

  -- a lock is given back, of an entry that is copied whole
  released_alone : (i : ℕ) (f : Flight) → StandsAlone size f
      → ((c : Copy) → f ≡ Copying c → Contains c.locks i → c.copied ≡ words_owned size c.entry)
      → StandsAlone size (landed i f)
  released_alone i f alone whole c is =
      let was = landed_was i f c is in
      let d : Copy = was.0 in
      ⊎_elim
      (λ (t : (Contains d.locks i → ⊥) × (d ≡ c)).
      subst (IsUnderAll size) t.1 (alone d was.1))
      (λ t. subst (IsUnderAll size) t.1 (λ switches left.
      let all = whole d was.1 t.0 in absurd (omega (arith, all, left))))
      was.2

  -- an entry begins its flight
  module _ (v : View) (locks : List ℕ) (value : Record)
      (may : MayStep v (store_position locks value)) where
    reserved_alone : StandsAlone size (flight_of (after_store_position locks value v))
    reserved_alone = subst
        (λ (p : Place). StandsAlone size
        (flight_of (after_store_position locks value (with_place p v)))) (sym may.2)
        (copying_alone (record {
          entry = entry_reserved (v.reserving).number may.0 value;
          prev = may.1;
          locks = locks;
          copied = 0;
        }) (λ switches left. (may.3).all_locks switches))

-- ---- of all views

module _ {first : DiskState} (words : List ℕ) (home : Option Plain) (views : List View) (id : ℕ)
    (v : View) (k : IsSound first v.opening words home views) (here : HasAt views id v) where
  abbrev size : ℕ
  size = ((v.opening).setup).seg_size

  abbrev works : List Working
  works = map working_of views

  abbrev Alone : ℕ → Working → Type 0
  Alone j w = StandsAlone size w.flight

  mine : StandsAlone size (flight_of v)
  mine = k.alone id v.working (part_at working_of views id v here)

  -- one view is changed
  set_alone : (w : Working) → StandsAlone size w.flight
      → (j : ℕ) (x : Working) → HasAt (set works id w) j x → StandsAlone size x.flight
  set_alone w alone = one_set Alone works id w (λ j x apart at. k.alone j x at) alone

  -- and one is added
  added_alone : (w x : View) → StandsAlone size (flight_of w) → StandsAlone size (flight_of x)
      → SwitchesStandAlone size (map working_of (set views id w ++ x ∷ []))
  added_alone w x changed new = subst (SwitchesStandAlone size)
      (sym (one_changes working_of views id v here w x))
      (one_added Alone (set works id w.working) x.working (set_alone w.working changed) new)

  pub split_alone : SwitchesStandAlone size
      (map working_of (set views id (after_split v) ++ split_off v ∷ []))
  split_alone = added_alone (after_split v) (split_off v) mine (landed_alone size)

  pub give_up_alone : SwitchesStandAlone size
      (map working_of (set views id (without_work v) ++ orphan_of v ∷ []))
  give_up_alone = added_alone (without_work v) (orphan_of v) (landed_alone size) mine

  pub join_alone : (other : ℕ) (w : View) → SwitchesStandAlone size
      (map working_of (set (set views other (spent w)) id (after_join v w)))
  join_alone other w = subst (SwitchesStandAlone size)
      (sym (two_change working_of views id v here other (after_join v w) (spent w)))
      (one_set Alone (set works other idle) id v.working
      (λ j x apart at. one_set Alone works other idle (λ i y others there. k.alone i y there)
      (landed_alone size) j x at) mine)

  -- ---- a step

  abbrev behind : StepKind → View
  behind e = view_behind v e (slice_index words (word_of_step v e)) home

  abbrev FliesAlone : StepKind → Type 0
  FliesAlone e = MayStep v e → StandsAlone size (flight_of (behind e))

  flies_alone : (e : StepKind) → FliesAlone e
  flies_alone = by_copies FliesAlone
      (λ e leaves may. subst (StandsAlone size)
      (sym (flight_left v e (slice_index words (word_of_step v e)) home leaves)) mine)
      (λ locks value may. reserved_alone size v locks value may)
      (λ lock may. released_alone size lock (flight_of v) mine may.1)
      (λ may. further_alone size (flight_of v) mine)

  pub alone_behind : (e : StepKind) → MayStep v e
      → SwitchesStandAlone size (map working_of (set views id (behind e)))
  alone_behind e may = subst (SwitchesStandAlone size)
      (sym (part_set working_of views id (behind e)))
      (set_alone (working_of (behind e)) (flies_alone e may))
