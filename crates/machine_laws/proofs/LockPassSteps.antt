-- Locks, what they tell, those who watch them, and the two turns, where a pass is split off, where
-- one is taken in, and where one gives up its copy.
use Rattle.std.proofs.Common.{◌≡◌, ◌≢◌, ℕ, List, [], ◌∷◌, ◌++◌, map, set, sym, refl, ap, ◌∙◌, subst}
use mathlib.Core.Option.{Option}
use Rattle.wal_page.specs.Order.{Entry}
use Rattle.machine_state.specs.Words.{lock_word, mapping_turn, write_turn, end_form, order_end, Opening}
use Rattle.machine_state.specs.Views.{HasAt, Stage, Away, Hold, Idle, Plain, Working, Watching, View, working_of, watching_of, mapper_of, writer_of}
use Rattle.machine_state.specs.Locked.{AreHeld, ProgressHolds, IsMappingTurn, IsWriteTurn}
use Rattle.machine_state.specs.Watched.{WatchHolds}
use Rattle.machine_state.specs.Moves.{after_split, split_off, after_join, spent, without_work, orphan_of}
use Rattle.machine_state.specs.Steps.{IsResting}
use Rattle.machine_state.proofs.Lists.{part_same, part_set, part_at, part_added}
use Rattle.machine_laws.specs.Locks.{idle, unwatching}
use Rattle.machine_laws.specs.LocksBehind.{WorksHold, TurnsHold}
use Rattle.machine_laws.proofs.HeldLaws.{held_added, held_taken_in, held_given_up}
use Rattle.machine_laws.proofs.ToldLaws.{told_added, told_taken_in, told_given_up}
use Rattle.machine_laws.proofs.WatchLaws.{watched_added, watched_taken_in, watched_given_up}
use Rattle.machine_laws.proofs.MappingLaws.{mapping_added, mapping_taken_in}
use Rattle.machine_laws.proofs.WritingLaws.{writing_added, writing_taken_in}

-- ---- a part of each view behind these steps

module _ {W : Type 0} (f : View → W) (views : List View) (id : ℕ) (v : View)
    (here : HasAt views id v) where
  -- where the view keeps its part, and another view comes in
  one_comes : (w x : View) → f w ≡ f v → map f (set views id w ++ x ∷ []) ≡ map f views ++ f x ∷ []
  one_comes w x like = part_added f (set views id w) x
      ∙ ap (λ (ys : List W). ys ++ f x ∷ []) (part_same f views id v w here like)

  -- where the view changes its part, and another view comes in
  pub one_changes : (w x : View)
      → map f (set views id w ++ x ∷ []) ≡ set (map f views) id (f w) ++ f x ∷ []
  one_changes w x = part_added f (set views id w) x
      ∙ ap (λ (ys : List W). ys ++ f x ∷ []) (part_set f views id w)

  -- where two views change their parts
  pub two_change : (other : ℕ) (w x : View)
      → map f (set (set views other x) id w) ≡ set (set (map f views) other (f x)) id (f w)
  two_change other w x = part_set f (set views other x) id w
      ∙ ap (λ (ys : List W). set ys id (f w)) (part_set f views other x)

-- ---- locks, what they tell, and those who watch them

module _ (opening : Opening) (order : List Entry) (words : List ℕ) (views : List View) (id : ℕ)
    (v : View) (here : HasAt views id v) (k : WorksHold opening order words views) where
  abbrev size : ℕ
  size = opening.setup.seg_size

  abbrev works : List Working
  works = map working_of views

  abbrev watches : List Watching
  watches = map watching_of views

  abbrev end : ℕ
  end = end_form opening.setup (order_end opening order)

  held_as : (views' : List View) (works' : List Working) (watches' : List Watching)
      → map working_of views' ≡ works' → map watching_of views' ≡ watches'
      → AreHeld (lock_word words) works' → ProgressHolds size end (lock_word words) works'
      → WatchHolds size end works' watches' → WorksHold opening order words views'
  held_as views' works' watches' same seen held told watched = record {
    held = subst (λ (ps : List Working). AreHeld (lock_word words) ps) (sym same) held;
    told = subst (λ (ps : List Working). ProgressHolds size end (lock_word words) ps)
        (sym same) told;
    watched = subst (λ (x : List Working × List Watching).
        WatchHolds size end x.0 x.1) (λ j. (sym same j, sym seen j)) watched;
  }

  pub works_split : WorksHold opening order words (set views id (after_split v) ++ split_off v ∷ [])
  works_split = held_as (set views id (after_split v) ++ split_off v ∷ []) (works ++ idle ∷ [])
      (watches ++ unwatching ∷ [])
      (one_comes working_of views id v here (after_split v) (split_off v) refl)
      (one_comes watching_of views id v here (after_split v) (split_off v) refl)
      (held_added (lock_word words) works k.held)
      (told_added size end (lock_word words) works k.told)
      (watched_added size end works watches k.watched)

  pub works_give_up : WorksHold opening order words
      (set views id (without_work v) ++ orphan_of v ∷ [])
  works_give_up =
      let mine : HasAt works id v.working = part_at working_of views id v here in
      held_as (set views id (without_work v) ++ orphan_of v ∷ [])
      (set works id idle ++ v.working ∷ []) (watches ++ unwatching ∷ [])
      (one_changes working_of views id v here (without_work v) (orphan_of v))
      (one_comes watching_of views id v here (without_work v) (orphan_of v) refl)
      (held_given_up (lock_word words) works k.held id v.working mine)
      (told_given_up size end (lock_word words) works k.told id v.working mine)
      (watched_given_up size end works watches k.watched id v.working mine)

  pub works_join : (other : ℕ) (w : View) → HasAt views other w → id ≢ other → IsResting w
      → WorksHold opening order words (set (set views other (spent w)) id (after_join v w))
  works_join other w there apart rests =
      let mine : HasAt works id v.working = part_at working_of views id v here in
      let its : HasAt works other w.working = part_at working_of views other w there in
      held_as (set (set views other (spent w)) id (after_join v w))
      (set (set works other idle) id v.working) (set (set watches other unwatching) id v.watching)
      (two_change working_of views id v here other (after_join v w) (spent w))
      (two_change watching_of views id v here other (after_join v w) (spent w))
      (held_taken_in (lock_word words) works k.held id v.working mine other w.working its
      rests.locks rests.flight)
      (told_taken_in size end (lock_word words) works k.told id v.working mine other
      w.working its rests.locks rests.flight)
      (watched_taken_in size end works watches k.watched id v.working mine other
      w.working v.watching its rests.locks rests.flight (part_at watching_of views id v here)
      apart)

-- ---- the two turns

module _ (words : List ℕ) (home : Option Plain) (stage : Stage) (writer : Plain)
    (views : List View) (id : ℕ) (v : View) (here : HasAt views id v)
    (k : TurnsHold words home stage writer views) where
  abbrev mappers : List (ℕ × Stage)
  mappers = map mapper_of views

  abbrev writers : List (ℕ × Hold)
  writers = map writer_of views

  -- a view that keeps its turns, and one that has none
  turned_with : (w x : View) (number : ℕ) → mapper_of w ≡ mapper_of v → writer_of w ≡ writer_of v
      → mapper_of x ≡ (number, Away) → writer_of x ≡ (number, Idle)
      → TurnsHold words home stage writer (set views id w ++ x ∷ [])
  turned_with w x number like_mapper like_writer away idle = record {
    mapping = subst (λ (xs : List (ℕ × Stage)). IsMappingTurn (mapping_turn words) stage xs)
        (sym (one_comes mapper_of views id v here w x like_mapper
        ∙ ap (λ (m : ℕ × Stage). mappers ++ m ∷ []) away))
        (mapping_added (mapping_turn words) stage mappers k.mapping number);
    writing = subst (λ (xs : List (ℕ × Hold)). IsWriteTurn (write_turn words) home writer xs)
        (sym (one_comes writer_of views id v here w x like_writer
        ∙ ap (λ (m : ℕ × Hold). writers ++ m ∷ []) idle))
        (writing_added (write_turn words) home writer writers k.writing number);
  }

  pub turns_split : TurnsHold words home stage writer
      (set views id (after_split v) ++ split_off v ∷ [])
  turns_split = turned_with (after_split v) (split_off v) (v.reserving).spare refl refl refl refl

  pub turns_give_up : TurnsHold words home stage writer
      (set views id (without_work v) ++ orphan_of v ∷ [])
  turns_give_up =
      turned_with (without_work v) (orphan_of v) (v.reserving).number refl refl refl refl

  pub turns_join : (other : ℕ) (w : View) → HasAt views other w → IsResting w
      → TurnsHold words home stage writer (set (set views other (spent w)) id (after_join v w))
  turns_join other w there rests = record {
    mapping = subst (λ (xs : List (ℕ × Stage)). IsMappingTurn (mapping_turn words) stage xs)
        (sym (two_change mapper_of views id v here other (after_join v w) (spent w)))
        (mapping_taken_in (mapping_turn words) stage mappers k.mapping id (mapper_of v)
        (part_at mapper_of views id v here) other (mapper_of w)
        (part_at mapper_of views other w there) rests.stage);
    writing = subst (λ (xs : List (ℕ × Hold)). IsWriteTurn (write_turn words) home writer xs)
        (sym (two_change writer_of views id v here other (after_join v w) (spent w)))
        (writing_taken_in (write_turn words) home writer writers k.writing id (writer_of v)
        (part_at writer_of views id v here) other (writer_of w)
        (part_at writer_of views other w there) rests.hold);
  }
