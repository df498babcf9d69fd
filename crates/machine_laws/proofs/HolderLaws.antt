-- Every sound state shows who holds each insertion lock and each turn.
use Rattle.std.proofs.Common.{◌≡◌, ◌≢◌, ◌⊎◌, inl, inr, ⊎_elim, ℕ, ◌+◌, ◌<◌, Contains, List, map, refl, sym, ◌∙◌, subst}
use mathlib.Core.Logic.{dite}
use mathlib.Core.Option.{Option, none, some, some-ne-none}
use native.Mathlib.Decide.{ℕ_discrete}
use Rattle.machine_state.specs.Words.{Opening, lock_word, mapping_turn, write_turn}
use Rattle.machine_state.specs.Views.{HasAt, Stage, Hold, Idle, Turned, Out, Lent, Plain, View, Working, working_of, mapper_of, writer_of}
use Rattle.machine_state.specs.Locked.{AreHeld, HasTurn, HasWriteTurn, IsMappingTurn, IsWriteTurn, StandsTo}
use Rattle.machine_state.specs.Sound.{IsSound}
use Rattle.machine_state.proofs.Lists.{part_at, view_from}
use Rattle.machine_laws.specs.SoundLocks.{SomeView, HoldsLock, LocksHaveHolders, HasMappingTurn, HasTurnToWrite, HasWriterOut, TurnHasHolder, TurnsHaveHolders}
use Rattle.machine_laws.specs.SoundPositions.{IsTheWriter, KeepsWriter}
use Rattle.segment_disk.specs.Tape.{DiskState}

-- whoever has the turn to write has the writer in hand, or it is at home
module _ (turn holder : ℕ) (home : Option Plain) (writer : Plain) (id number : ℕ) where
  abbrev Had : Hold → Type 0
  Had h = (turn ≡ number + 1) × (holder ≡ id) × ((home ≡ some writer)
      ⊎ ((home ≡ none) × (l : Lent) × (h ≡ Out l) × (l.writer ≡ writer)))

  has_writer : (h : Hold) → StandsTo turn holder home writer id number h → HasWriteTurn h → Had h
  has_writer Idle at has = absurd has
  has_writer Turned at has = (at.0, at.1, inl at.2)
  has_writer (Out l) at has =
      (at.0, at.1, inr (at.2, l, refl, at.3))

module _ {first : DiskState} (opening : Opening) (words : List ℕ) (home : Option Plain) (views : List View)
    (k : IsSound first opening words home views) where
  -- ---- locks

  abbrev locks : AreHeld (lock_word words) (map working_of views)
  locks = (k.locks).locks

  pub holds : (id lock : ℕ) (v : View) → HasAt views id v → HoldsLock lock v
      → (lock < 8) × (locks.holder lock ≡ id) × (lock_word words lock ≢ 0)
  holds id lock v here h = locks.each id lock v.working (part_at working_of views id v here) h

  pub locks_have_holders : LocksHaveHolders words views
  locks_have_holders = record {
    held = λ lock low. (
      λ some.
          let h = locks.held lock low some in
          let u = view_from working_of views (locks.holder lock) h.0 h.1 in (
            locks.holder lock,
            u.0,
            u.1,
            subst (λ (w : Working). Contains w.locks lock) (sym u.2) h.2,
          ),
      λ h. (holds h.0 lock h.1 h.2 h.3).2,
    );
    by_one = λ lock id other v w here there h g.
        sym (holds id lock v here h).1 ∙ (holds other lock w there g).1;
    eight = λ id lock v here h. (holds id lock v here h).0;
  }

  -- ---- the turn to map

  abbrev mapping : IsMappingTurn (mapping_turn words) k.stage (map mapper_of views)
  mapping = (k.locks).mapping

  maps : (id : ℕ) (v : View) → HasAt views id v → HasMappingTurn v
      → (mapping.holder ≡ id) × (mapping_turn words ≡ (v.reserving).number + 1)
  maps id v here has =
      let h = mapping.each id (mapper_of v) (part_at mapper_of views id v here) has in (h.0, h.2)

  mapping_has_holder : TurnHasHolder (mapping_turn words) views HasMappingTurn
  mapping_has_holder = record {
    word = dite (ℕ_discrete (mapping_turn words) 0) (λ free. inl free)
        (λ taken.
        let h = mapping.held taken in
        let u = view_from mapper_of views mapping.holder h.0 h.1 in
        let has : HasMappingTurn u.0 = subst (λ (m : ℕ × Stage). HasTurn m.1) (sym u.2) h.2 in
        inr (mapping.holder, u.0, u.1, (has, (maps mapping.holder u.0 u.1 has).1)));
    told = λ id v here has. (maps id v here has).1;
    by_one = λ id other v w here there h g. sym (maps id v here h).0 ∙ (maps other w there g).0;
  }

  -- ---- the turn to write

  abbrev writing : IsWriteTurn (write_turn words) home k.writer (map writer_of views)
  writing = (k.locks).writing

  abbrev Stands : ℕ → ℕ → Hold → Type 0
  Stands id number h = StandsTo (write_turn words) writing.holder home k.writer id number h

  stands : (id : ℕ) (v : View) → HasAt views id v
      → Stands id (v.reserving).number (v.writing).hold
  stands id v here = writing.each id (writer_of v) (part_at writer_of views id v here)

  writes : (id : ℕ) (v : View) → HasAt views id v → HasTurnToWrite v
      → Had (write_turn words) writing.holder home k.writer id (v.reserving).number
      (v.writing).hold
  writes id v here has = has_writer (write_turn words) writing.holder home k.writer id
      (v.reserving).number (v.writing).hold (stands id v here) has

  -- the view that has the turn, where its word says so
  turn_holder : write_turn words ≢ 0 → (v : View) × HasAt views writing.holder v × HasTurnToWrite v
  turn_holder taken =
      let h = writing.held taken in
      let u = view_from writer_of views writing.holder h.0 h.1 in
      (u.0, u.1, subst (λ (w : ℕ × Hold). HasWriteTurn w.1) (sym u.2) h.2)

  writing_has_holder : TurnHasHolder (write_turn words) views HasTurnToWrite
  writing_has_holder = record {
    word = dite (ℕ_discrete (write_turn words) 0) (λ free. inl free)
        (λ taken. let h = turn_holder taken in
        inr (writing.holder, h.0, h.1, (h.2, (writes writing.holder h.0 h.1 h.2).0)));
    told = λ id v here has. (writes id v here has).0;
    by_one = λ id other v w here there h g.
        sym (writes id v here h).1 ∙ (writes other w there g).1;
  }

  has_turn : (v : View) → HasWriterOut v → HasTurnToWrite v
  has_turn v out = subst HasWriteTurn (sym out.1) tt

  -- who has the writer out stands to it so
  pub is_out : (id : ℕ) (v : View) (l : Lent) → HasAt views id v → (v.writing).hold ≡ Out l
      → (home ≡ none) × (l.writer ≡ k.writer)
  is_out id v l here is =
      let s = subst (Stands id (v.reserving).number) is (stands id v here) in (s.2, s.3)

  -- the writer is at home, or whoever has the turn has it
  pub writer_is : IsTheWriter home views k.writer
  writer_is = dite (ℕ_discrete (write_turn words) 0) (λ free. inl (writing.free free))
      (λ taken. let h = turn_holder taken in
      ⊎_elim (λ t. inl t)
      (λ t. inr (t.0, (writing.holder, h.0, h.1, (t.1, t.2, t.3))))
      (writes writing.holder h.0 h.1 h.2).2)

  pub turns_have_holders : TurnsHaveHolders words home views
  turns_have_holders = record {
    mapping = mapping_has_holder;
    writing = writing_has_holder;
    away = (
      λ gone. ⊎_elim
          (λ (t : home ≡ some k.writer). absurd (some-ne-none k.writer (sym t ∙ gone)))
          (λ (t : (home ≡ none) × SomeView views (KeepsWriter k.writer)).
          let h = t.1 in let kept = h.3 in (h.0, h.1, h.2, (kept.0, kept.1)))
          writer_is,
      λ h. let out = h.3 in (is_out h.0 h.1 out.0 h.2 out.1).0,
    );
    out = λ id v here out. let has = has_turn v out in (has, (writes id v here has).0);
  }

  -- there is one writer
  pub is_writer : (w : Plain) → IsTheWriter home views w → w ≡ k.writer
  is_writer w is = ⊎_elim
      (λ (t : home ≡ some w). ⊎_elim
      (λ (u : home ≡ some k.writer). let same = sym t ∙ u in cc)
      (λ (u : (home ≡ none) × SomeView views (KeepsWriter k.writer)).
      absurd (some-ne-none w (sym t ∙ u.0)))
      writer_is)
      (λ (t : (home ≡ none) × SomeView views (KeepsWriter w)).
      let h = t.1 in let kept = h.3 in
      sym kept.2 ∙ (is_out h.0 h.1 kept.0 h.2 kept.1).1)
      is
