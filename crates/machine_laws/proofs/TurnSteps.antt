-- The two turns through every step, as the machine tells what it does.
use Rattle.std.proofs.Common.{◌≡◌, ◌≢◌, ℕ, ◌+◌, ◌<◌, Bool, cond, eqb, List, [], ◌∷◌, ◌++◌, length, map, set, Contains, slice_index, inl, inr, sym, refl, ap, ◌∙◌, subst, arith}
use mathlib.Core.Option.{Option, none, some}
use Rattle.wal_types.specs.declared.record.Record.{Record}
use Rattle.segment_disk.specs.Tape.{create_call, sync_call, write_call}
use Rattle.machine_state.specs.declared.setup.Setup.{Setup}
use Rattle.machine_state.specs.Words.{lock_word, mapping_turn, write_turn, word_count, mapping_turn_number, write_turn_number, initialised_number, written_number, flushed_number, moment_number, down_number, ends_number, lock_number}
use Rattle.machine_state.specs.Views.{HasAt, Place, Free, Locked, Loaded, Stored, StopCause, LogFull, AtSegmentStart, Stage, Away, Taken, Looked, Ready, Zeroing, Published, Hold, Idle, Turned, Out, Lent, Plain, View, working_of, mapper_of, writer_of}
use Rattle.machine_state.specs.Locked.{AreHeld, HasTurn, IsMappingTurn, IsWriteTurn}
use Rattle.machine_state.specs.Moves.{with_place, with_working, with_hold, with_lent, with_stage, hardened, looked, ready, lent, after_load_prev, after_store_prev, after_store_position, after_stop, after_take_lock, after_take_mapping_turn, after_take_write_turn, after_create, after_write, after_sync}
use Rattle.machine_state.specs.Steps.{MayStep, StepKind, word_of_step, value_behind, home_behind, returned, with_slot, with_call_on, page_mapped, words_zeroed, load_position, take_write_turn, slot_out, slot_in, release_write_turn, lock_position, load_prev, store_prev, store_position, give_position_back, stay, load_lock, take_lock, advance, release, load_buffer_end, store_ring_word, load_ring_word, load_written, load_flushed, load_moment, load_down, store_written, store_moment, store_flushed, set_down, load_async, raise_async, take_mapping_turn, load_initialised_end, clear_end, zero_ring_word, publish_end, publish_initialised_end, release_mapping_turn, create, write, sync}
use Rattle.machine_state.proofs.Lists.{part_same, part_set, part_at}
use Rattle.machine_state.proofs.WordLists.{word_again, word_else, single_set}
use Rattle.machine_laws.specs.LocksBehind.{words_behind, views_behind, moved, stage_behind, writer_behind, TurnsHold}
use Rattle.machine_laws.proofs.LocksKept.{met_cases}
use Rattle.machine_laws.proofs.MappingLaws.{open_has, has_or_away, mapping_asked, mapping_goes_on, mapping_released, looked_keeps, ready_keeps}
use Rattle.machine_laws.proofs.WritingLaws.{at_hold, writing_asked, writing_slot_out, writing_slot_in, writing_changed, writing_released}

-- ---- what a step leaves of its view

-- a view's number, and what it has of the two turns, as another view has them
abbrev pub TurnsAs : View → View → Type 0
TurnsAs v w = (mapper_of w ≡ mapper_of v) × (writer_of w ≡ writer_of v)

turns_by_place : (f : View → View) (v : View) → ((p : Place) → TurnsAs v (f (with_place p v)))
    → TurnsAs v (f v)
turns_by_place f v each = each (v.reserving).place

turns_met : (v w : View) → TurnsAs v w → (a b : ℕ) → TurnsAs v (cond (eqb a b) w v)
turns_met v w like a b = met_cases (λ (x : Bool). TurnsAs v (cond x w v)) a b
    (λ e. like) (λ ne. (refl, refl))

mapper_met : (v w : View) → mapper_of w ≡ mapper_of v → (a b : ℕ)
    → mapper_of (cond (eqb a b) w v) ≡ mapper_of v
mapper_met v w like a b = met_cases (λ (x : Bool). mapper_of (cond x w v) ≡ mapper_of v) a b
    (λ e. like) (λ ne. refl)

writer_met : (v w : View) → writer_of w ≡ writer_of v → (a b : ℕ)
    → writer_of (cond (eqb a b) w v) ≡ writer_of v
writer_met v w like a b = met_cases (λ (x : Bool). writer_of (cond x w v) ≡ writer_of v) a b
    (λ e. like) (λ ne. refl)

turns_on_take : (lock met : ℕ) (v : View) → TurnsAs v (after_take_lock lock met v)
turns_on_take lock met v = turns_met v
    (with_working ((v.working).locks ++ lock ∷ []) (v.working).flight v) (refl, refl) met 0

turns_on_load_prev : (met : ℕ) (v : View) (p : Place)
    → TurnsAs v (after_load_prev met (with_place p v))
turns_on_load_prev met v Free = (refl, refl)
turns_on_load_prev met v (Locked at) = (refl, refl)
turns_on_load_prev met v (Loaded at prev) = (refl, refl)
turns_on_load_prev met v (Stored at prev) = (refl, refl)

turns_on_store_prev : (v : View) (p : Place) → TurnsAs v (after_store_prev (with_place p v))
turns_on_store_prev v Free = (refl, refl)
turns_on_store_prev v (Locked at) = (refl, refl)
turns_on_store_prev v (Loaded at prev) = (refl, refl)
turns_on_store_prev v (Stored at prev) = (refl, refl)

turns_on_store_position : (locks : List ℕ) (value : Record) (v : View) (p : Place)
    → TurnsAs v (after_store_position locks value (with_place p v))
turns_on_store_position locks value v Free = (refl, refl)
turns_on_store_position locks value v (Locked at) = (refl, refl)
turns_on_store_position locks value v (Loaded at prev) = (refl, refl)
turns_on_store_position locks value v (Stored at prev) = (refl, refl)

turns_on_stop : (cause : StopCause) (v : View) (p : Place)
    → TurnsAs v (after_stop cause (with_place p v))
turns_on_stop cause v Free = (refl, refl)
turns_on_stop cause v (Locked at) = (refl, refl)
turns_on_stop cause v (Loaded at prev) = (refl, refl)
turns_on_stop cause v (Stored at prev) = (refl, refl)

mapper_on_slot : (v : View) (home : Option Plain) → mapper_of (with_slot v home) ≡ mapper_of v
mapper_on_slot v none = refl
mapper_on_slot v (some writer) = refl

mapper_on_call : (v : View) (f : Plain → Plain) (h : Hold)
    → mapper_of (with_call_on v f h) ≡ mapper_of v
mapper_on_call v f Idle = refl
mapper_on_call v f Turned = refl
mapper_on_call v f (Out l) = refl

with_turn : (s a b : Stage) → HasTurn s → moved s a b ≡ b
with_turn Away a b has = absurd has
with_turn Taken a b has = refl
with_turn (Looked at) a b has = refl
with_turn (Ready at written) a b has = refl
with_turn (Zeroing at count) a b has = refl
with_turn (Published at) a b has = refl

single : (n pages place : ℕ) → n < ends_number → n ≢ ends_number + pages + place
single n pages place low e = omega arith

module _ (setup : Setup) (words : List ℕ) (home : Option Plain) (stage : Stage) (writer : Plain)
    (views : List View) (id : ℕ) (v : View) (here : HasAt views id v)
    (wide : length words ≡ word_count setup)
    (held : AreHeld (lock_word words) (map working_of views))
    (k : TurnsHold words home stage writer views) where
  abbrev number : ℕ
  number = (v.reserving).number

  -- a lock that the view holds is one of the eight
  held_low : (lock : ℕ) → Contains (v.working).locks lock → lock < 8
  held_low lock has = (held.each id lock v.working (part_at working_of views id v here) has).0

  -- ---- the turn to map

  abbrev mappers : List (ℕ × Stage)
  mappers = map mapper_of views

  mapper : HasAt mappers id (mapper_of v)
  mapper = part_at mapper_of views id v here

  mapping_stays : (i n : ℕ) (w : View) → mapping_turn_number ≢ i → mapper_of w ≡ mapper_of v
      → IsMappingTurn (mapping_turn (set words i n)) stage (map mapper_of (set views id w))
  mapping_stays i n w apart like =
      subst (λ (x : ℕ × List (ℕ × Stage)). IsMappingTurn x.0 stage x.1)
      (λ j. (
        sym (word_else words i n mapping_turn_number apart) j,
        sym (part_same mapper_of views id v w here like) j,
      ))
      k.mapping

  -- the turn's word becomes this, and the view's stage that
  mapping_becomes : (i n turn : ℕ) (w : View) (next : Stage) → mapping_turn (set words i n) ≡ turn
      → IsMappingTurn turn next (set mappers id (mapper_of w))
      → IsMappingTurn (mapping_turn (set words i n)) next (map mapper_of (set views id w))
  mapping_becomes i n turn w next is t =
      subst (λ (x : ℕ × List (ℕ × Stage)). IsMappingTurn x.0 next x.1)
      (λ j. (sym is j, sym (part_set mapper_of views id w) j)) t

  -- a load by which the mapper may move
  mapping_loads : (i n : ℕ) (w : View) (f : Stage → Stage) → mapping_turn_number ≢ i → f Away ≡ Away
      → ((s : Stage) → HasTurn s → HasTurn (f s))
      → mapper_of w ≡ (number, f (v.mapping).stage)
      → IsMappingTurn (mapping_turn (set words i n)) (moved (v.mapping).stage stage (f stage))
      (map mapper_of (set views id w))
  mapping_loads i n w f apart rests keeps is = by_stage (v.mapping).stage refl
    where
      by_stage : (s : Stage) → (v.mapping).stage ≡ s
          → IsMappingTurn (mapping_turn (set words i n)) (moved (v.mapping).stage stage (f stage))
          (map mapper_of (set views id w))
      by_stage s same = elim (has_or_away s) [
        | inl has ↦
            let turned : HasTurn (v.mapping).stage
            = subst (λ (x : Stage). HasTurn x) (sym same) has in
            let its : stage ≡ (v.mapping).stage
            = (k.mapping.each id (mapper_of v) mapper turned).1 in
            let goes : moved (v.mapping).stage stage (f stage) ≡ f (v.mapping).stage
            = with_turn (v.mapping).stage stage (f stage) turned ∙ ap f its in
            mapping_becomes i n (mapping_turn words) w (moved (v.mapping).stage stage (f stage))
            (word_else words i n mapping_turn_number apart)
            (subst (λ (x : Stage × (ℕ × Stage)). IsMappingTurn (mapping_turn words) x.0
            (set mappers id x.1)) (λ j. (sym goes j, sym is j))
            (mapping_goes_on (mapping_turn words) stage mappers k.mapping id (mapper_of v) mapper
            turned (f (v.mapping).stage) (keeps (v.mapping).stage turned)))
        | inr away ↦
            let rest : (v.mapping).stage ≡ Away = same ∙ away in
            let stays : stage ≡ moved (v.mapping).stage stage (f stage)
            = ap (λ (x : Stage). moved x stage (f stage)) (sym rest) in
            subst (λ (x : Stage). IsMappingTurn (mapping_turn (set words i n)) x
            (map mapper_of (set views id w))) stays
            (mapping_stays i n w apart
            (is ∙ ap (λ (x : Stage). (number, x)) (ap f rest ∙ rests ∙ sym rest)))
      ]

  -- a step of the mapper
  mapping_moves : (i n : ℕ) (w : View) (s next : Stage) → mapping_turn_number ≢ i → (v.mapping).stage ≡ s → HasTurn s
      → HasTurn next → mapper_of w ≡ (number, next)
      → IsMappingTurn (mapping_turn (set words i n)) next (map mapper_of (set views id w))
  mapping_moves i n w s next apart same has turned is =
      mapping_becomes i n (mapping_turn words) w next (word_else words i n mapping_turn_number apart)
      (subst (λ (x : ℕ × Stage). IsMappingTurn (mapping_turn words) next (set mappers id x))
      (sym is) (mapping_goes_on (mapping_turn words) stage mappers k.mapping id (mapper_of v) mapper
      (subst (λ (x : Stage). HasTurn x) (sym same) has) next turned))

  pub mapping_behind : (e : StepKind) → MayStep v e
      → IsMappingTurn (mapping_turn (words_behind words v e))
      (stage_behind v e (slice_index words (word_of_step v e)) stage)
      (map mapper_of (views_behind words home views id v e))
  mapping_behind load_position may = mapping_stays 0 _ _ (λ e. omega arith) refl
  mapping_behind take_write_turn may = mapping_stays write_turn_number _ _ (λ e. omega arith)
      (mapper_met v (with_hold Turned v) refl (slice_index words write_turn_number) 0)
  mapping_behind slot_out may = mapping_stays write_turn_number _ _ (λ e. omega arith) (mapper_on_slot v home)
  mapping_behind slot_in may = mapping_stays write_turn_number _ _ (λ e. omega arith) refl
  mapping_behind release_write_turn may = mapping_stays write_turn_number _ _ (λ e. omega arith) refl
  mapping_behind (lock_position expected) may = mapping_stays 0 _ _ (λ e. omega arith)
      (turns_met v (with_place (Locked expected) v) (refl, refl) (slice_index words 0) expected).0
  mapping_behind load_prev may = mapping_stays 1 _ _ (λ e. omega arith)
      (turns_by_place (after_load_prev (slice_index words 1)) v
      (turns_on_load_prev (slice_index words 1) v)).0
  mapping_behind store_prev may = mapping_stays 1 _ _ (λ e. omega arith)
      (turns_by_place after_store_prev v (turns_on_store_prev v)).0
  mapping_behind (store_position locks value) may = mapping_stays 0 _ _ (λ e. omega arith)
      (turns_by_place (after_store_position locks value) v
      (turns_on_store_position locks value v)).0
  mapping_behind (give_position_back value) may = mapping_stays 0 _ _ (λ e. omega arith)
      (turns_by_place (after_stop LogFull) v (turns_on_stop LogFull v)).0
  mapping_behind stay may = mapping_stays 0 _ _ (λ e. omega arith)
      (turns_by_place (after_stop AtSegmentStart) v
      (turns_on_stop AtSegmentStart v)).0
  mapping_behind (load_lock lock limit) may =
      mapping_stays (lock_number lock) _ _ (λ e. let low : lock < 8 = may.0 in omega arith) refl
  mapping_behind (take_lock lock) may =
      mapping_stays (lock_number lock) _ _ (λ e. let low : lock < 8 = may in omega arith)
      (turns_on_take lock (slice_index words (lock_number lock)) v).0
  mapping_behind (advance lock upto) may =
      mapping_stays (lock_number lock) _ _ (λ e. let low = held_low lock may.0 in omega arith) refl
  mapping_behind (release lock) may =
      mapping_stays (lock_number lock) _ _ (λ e. let low = held_low lock may.0 in omega arith) refl
  mapping_behind (load_buffer_end buffer) may = mapping_stays _ _ _ (λ e. omega arith) refl
  mapping_behind store_ring_word may = mapping_stays _ _ _ (single mapping_turn_number _ _ (omega arith)) refl
  mapping_behind (load_ring_word n) may = mapping_stays _ _ _ (single mapping_turn_number _ _ (omega arith)) refl
  mapping_behind load_written may = mapping_loads written_number _ _ (ready (slice_index words written_number))
      (λ e. omega arith) refl (ready_keeps (slice_index words written_number)) refl
  mapping_behind load_flushed may = mapping_stays flushed_number _ _ (λ e. omega arith) refl
  mapping_behind load_moment may = mapping_stays moment_number _ _ (λ e. omega arith) refl
  mapping_behind load_down may = mapping_stays down_number _ _ (λ e. omega arith) refl
  mapping_behind store_written may = mapping_stays written_number _ _ (λ e. omega arith) refl
  mapping_behind store_moment may = mapping_stays moment_number _ _ (λ e. omega arith) refl
  mapping_behind store_flushed may = mapping_stays flushed_number _ _ (λ e. omega arith) refl
  mapping_behind set_down may = mapping_stays down_number _ _ (λ e. omega arith) refl
  mapping_behind load_async may = mapping_stays _ _ _ (λ e. omega arith) refl
  mapping_behind (raise_async expected upto) may = mapping_stays _ _ _ (λ e. omega arith) refl
  mapping_behind take_mapping_turn may =
      let n : ℕ = value_behind v take_mapping_turn (slice_index words mapping_turn_number) in
      mapping_becomes mapping_turn_number n n (after_take_mapping_turn (slice_index words mapping_turn_number) v)
      (stage_behind v take_mapping_turn (slice_index words mapping_turn_number) stage)
      (single_set words setup wide mapping_turn_number n (omega arith))
      (mapping_asked (mapping_turn words) stage mappers id v k.mapping mapper)
  mapping_behind load_initialised_end may = mapping_loads initialised_number _ _ (looked (slice_index words initialised_number))
      (λ e. omega arith) refl (looked_keeps (slice_index words initialised_number)) refl
  mapping_behind clear_end may = mapping_moves _ _ _ (Ready may.0 may.1)
      (Zeroing (page_mapped (v.mapping).stage) 0) (λ e. omega arith) may.2 tt tt refl
  mapping_behind zero_ring_word may = mapping_moves _ _ _ (Zeroing may.0 may.1)
      (Zeroing (page_mapped (v.mapping).stage) (words_zeroed (v.mapping).stage + 1))
      (single mapping_turn_number _ _ (omega arith)) may.2 tt tt refl
  mapping_behind publish_end may = mapping_moves _ _ _ (Zeroing may.0 1024)
      (Published (page_mapped (v.mapping).stage)) (λ e. omega arith) may.1 tt tt refl
  mapping_behind publish_initialised_end may = mapping_moves initialised_number _ _ (Published may.0) Taken
      (λ e. omega arith) may.1 tt tt refl
  mapping_behind release_mapping_turn may = mapping_becomes mapping_turn_number 0 0 (with_stage Away v) Away
      (single_set words setup wide mapping_turn_number 0 (omega arith))
      (mapping_released (mapping_turn words) stage mappers k.mapping id (mapper_of v) mapper
      (open_has (v.mapping).stage may))
  mapping_behind (create segment outcome) may = mapping_stays write_turn_number _ _ (λ e. omega arith)
      (mapper_on_call v _ (v.writing).hold)
  mapping_behind (write segment page upto bytes outcome) may = mapping_stays write_turn_number _ _
      (λ e. omega arith) (mapper_on_call v _ (v.writing).hold)
  mapping_behind (sync segment outcome) may = mapping_stays write_turn_number _ _ (λ e. omega arith)
      (mapper_on_call v _ (v.writing).hold)

  -- ---- the turn to write

  abbrev writers : List (ℕ × Hold)
  writers = map writer_of views

  has_hold : (h : Hold) → (v.writing).hold ≡ h → HasAt writers id (number, h)
  has_hold h is = at_hold writers id (writer_of v) h (part_at writer_of views id v here) is

  -- the writer in hand is the writer
  lent_is : (l : Lent) → (v.writing).hold ≡ Out l → l.writer ≡ writer
  lent_is l is = (k.writing.each id (number, Out l) (has_hold (Out l) is)).3

  turn_loaded : write_turn (set words write_turn_number (slice_index words write_turn_number)) ≡ write_turn words
  turn_loaded = ap (λ (ws : List ℕ). slice_index ws write_turn_number) (word_again words write_turn_number)

  writing_stays : (i n : ℕ) (w : View) → write_turn_number ≢ i → writer_of w ≡ writer_of v
      → IsWriteTurn (write_turn (set words i n)) home writer (map writer_of (set views id w))
  writing_stays i n w apart like =
      subst (λ (x : ℕ × List (ℕ × Hold)). IsWriteTurn x.0 home writer x.1)
      (λ j. (
        sym (word_else words i n write_turn_number apart) j,
        sym (part_same writer_of views id v w here like) j,
      ))
      k.writing

  -- the turn's word becomes this, and what the view has of the turn that
  writing_becomes : (i n turn : ℕ) (w : View) (home' : Option Plain) (writer' : Plain)
      → write_turn (set words i n) ≡ turn
      → IsWriteTurn turn home' writer' (set writers id (writer_of w))
      → IsWriteTurn (write_turn (set words i n)) home' writer' (map writer_of (set views id w))
  writing_becomes i n turn w home' writer' is t =
      subst (λ (x : ℕ × List (ℕ × Hold)). IsWriteTurn x.0 home' writer' x.1)
      (λ j. (sym is j, sym (part_set writer_of views id w) j)) t

  -- what the one keeps that has the writer in hand changes
  writing_changes : (i n : ℕ) (w : View) (l next : Lent) (writer' : Plain)
      → write_turn (set words i n) ≡ write_turn words → (v.writing).hold ≡ Out l
      → writer_of w ≡ (number, Out next) → next.writer ≡ writer'
      → IsWriteTurn (write_turn (set words i n)) home writer' (map writer_of (set views id w))
  writing_changes i n w l next writer' same held_out is becomes =
      writing_becomes i n (write_turn words) w home writer' same
      (subst (λ (x : Plain × (ℕ × Hold)). IsWriteTurn (write_turn words) home x.0
      (set writers id x.1)) (λ j. (becomes j, sym is j))
      (writing_changed (write_turn words) home writer writers k.writing id number l next
      (has_hold (Out l) held_out)))

  -- what is kept besides the writer changes
  writing_notes : (i n : ℕ) (f : Lent → Lent) (l : Lent) → write_turn_number ≢ i → (v.writing).hold ≡ Out l
      → (f l).writer ≡ l.writer
      → IsWriteTurn (write_turn (set words i n)) home writer
      (map writer_of (set views id (with_hold (with_lent f (v.writing).hold) v)))
  writing_notes i n f l apart held_out keeps = writing_changes i n
      (with_hold (with_lent f (v.writing).hold) v) l (f l) writer (word_else words i n write_turn_number apart)
      held_out (ap (λ (h : Hold). (number, with_lent f h)) held_out) (keeps ∙ lent_is l held_out)

  -- a call of the device changes the writer
  writing_calls : (f : Plain → Plain) (l : Lent) → (v.writing).hold ≡ Out l
      → IsWriteTurn (write_turn (set words write_turn_number (slice_index words write_turn_number))) home (f writer)
      (map writer_of (set views id (with_call_on v f (v.writing).hold)))
  writing_calls f l held_out = writing_changes write_turn_number (slice_index words write_turn_number)
      (with_call_on v f (v.writing).hold) l (record l { writer = f l.writer }) (f writer)
      turn_loaded held_out
      (ap (λ (h : Hold). writer_of (with_call_on (with_hold h v) f h)) held_out)
      (ap f (lent_is l held_out))

  pub writing_behind : (e : StepKind) → MayStep v e
      → IsWriteTurn (write_turn (words_behind words v e)) (home_behind v e home)
      (writer_behind v e writer) (map writer_of (views_behind words home views id v e))
  writing_behind load_position may = writing_stays 0 _ _ (λ e. omega arith) refl
  writing_behind take_write_turn may =
      let n : ℕ = value_behind v take_write_turn (slice_index words write_turn_number) in
      writing_becomes write_turn_number n n (after_take_write_turn (slice_index words write_turn_number) v) home writer
      (single_set words setup wide write_turn_number n (omega arith))
      (writing_asked (write_turn words) home writer writers id v k.writing
      (part_at writer_of views id v here))
  writing_behind slot_out may =
      let at_home : home ≡ some writer
      = (k.writing.each id (number, Turned) (has_hold Turned may)).2 in
      subst (λ (h : Option Plain).
      IsWriteTurn (write_turn (set words write_turn_number (slice_index words write_turn_number))) none writer
      (map writer_of (set views id (with_slot v h)))) (sym at_home)
      (writing_becomes write_turn_number (slice_index words write_turn_number) (write_turn words) (with_slot v (some writer)) none
      writer turn_loaded
      (writing_slot_out (write_turn words) home writer writers k.writing id number
      (has_hold Turned may) (lent writer v) refl))
  writing_behind slot_in may =
      subst (λ (h : Hold). IsWriteTurn (write_turn (set words write_turn_number (slice_index words write_turn_number)))
      (returned v h home) writer (map writer_of (set views id (with_hold Turned v)))) (sym may.1)
      (writing_becomes write_turn_number (slice_index words write_turn_number) (write_turn words) (with_hold Turned v)
      (some (may.0).writer) writer turn_loaded
      (writing_slot_in (write_turn words) home writer writers k.writing id number may.0
      (has_hold (Out may.0) may.1)))
  writing_behind release_write_turn may = writing_becomes write_turn_number 0 0 (with_hold Idle v) home writer
      (single_set words setup wide write_turn_number 0 (omega arith))
      (writing_released (write_turn words) home writer writers k.writing id number
      (has_hold Turned may))
  writing_behind (lock_position expected) may = writing_stays 0 _ _ (λ e. omega arith)
      (turns_met v (with_place (Locked expected) v) (refl, refl) (slice_index words 0) expected).1
  writing_behind load_prev may = writing_stays 1 _ _ (λ e. omega arith)
      (turns_by_place (after_load_prev (slice_index words 1)) v
      (turns_on_load_prev (slice_index words 1) v)).1
  writing_behind store_prev may = writing_stays 1 _ _ (λ e. omega arith)
      (turns_by_place after_store_prev v (turns_on_store_prev v)).1
  writing_behind (store_position locks value) may = writing_stays 0 _ _ (λ e. omega arith)
      (turns_by_place (after_store_position locks value) v
      (turns_on_store_position locks value v)).1
  writing_behind (give_position_back value) may = writing_stays 0 _ _ (λ e. omega arith)
      (turns_by_place (after_stop LogFull) v (turns_on_stop LogFull v)).1
  writing_behind stay may = writing_stays 0 _ _ (λ e. omega arith)
      (turns_by_place (after_stop AtSegmentStart) v
      (turns_on_stop AtSegmentStart v)).1
  writing_behind (load_lock lock limit) may =
      writing_stays (lock_number lock) _ _ (λ e. let low : lock < 8 = may.0 in omega arith) refl
  writing_behind (take_lock lock) may =
      writing_stays (lock_number lock) _ _ (λ e. let low : lock < 8 = may in omega arith)
      (turns_on_take lock (slice_index words (lock_number lock)) v).1
  writing_behind (advance lock upto) may =
      writing_stays (lock_number lock) _ _ (λ e. let low = held_low lock may.0 in omega arith) refl
  writing_behind (release lock) may =
      writing_stays (lock_number lock) _ _ (λ e. let low = held_low lock may.0 in omega arith) refl
  writing_behind (load_buffer_end buffer) may = writing_stays _ _ _ (λ e. omega arith) refl
  writing_behind store_ring_word may = writing_stays _ _ _ (single write_turn_number _ _ (omega arith)) refl
  writing_behind (load_ring_word n) may = writing_notes _ _
      (λ (l : Lent). record l {
        staged = (n, slice_index words (word_of_step v (load_ring_word n))) ∷ l.staged;
      }) may.0 (single write_turn_number _ _ (omega arith)) may.1 refl
  writing_behind load_written may = writing_stays written_number _ _ (λ e. omega arith) refl
  writing_behind load_flushed may = writing_stays flushed_number _ _ (λ e. omega arith) refl
  writing_behind load_moment may = writing_stays moment_number _ _ (λ e. omega arith) refl
  writing_behind load_down may = writing_stays down_number _ _ (λ e. omega arith) refl
  writing_behind store_written may = writing_notes written_number _
      (λ (l : Lent). record l { stored = (l.writer).written }) may.0 (λ e. omega arith) may.1 refl
  writing_behind store_moment may = writing_notes moment_number _
      hardened may.0 (λ e. omega arith) may.1 refl
  writing_behind store_flushed may = writing_stays flushed_number _ _ (λ e. omega arith) refl
  writing_behind set_down may = writing_stays down_number _ _ (λ e. omega arith) refl
  writing_behind load_async may = writing_stays _ _ _ (λ e. omega arith) refl
  writing_behind (raise_async expected upto) may = writing_stays _ _ _ (λ e. omega arith) refl
  writing_behind take_mapping_turn may = writing_stays mapping_turn_number _ _ (λ e. omega arith)
      (writer_met v (with_stage Taken v) refl (slice_index words mapping_turn_number) 0)
  writing_behind load_initialised_end may = writing_stays initialised_number _ _ (λ e. omega arith) refl
  writing_behind clear_end may = writing_stays _ _ _ (λ e. omega arith) refl
  writing_behind zero_ring_word may = writing_stays _ _ _ (single write_turn_number _ _ (omega arith)) refl
  writing_behind publish_end may = writing_stays _ _ _ (λ e. omega arith) refl
  writing_behind publish_initialised_end may = writing_stays initialised_number _ _ (λ e. omega arith) refl
  writing_behind release_mapping_turn may = writing_stays mapping_turn_number _ _ (λ e. omega arith) refl
  writing_behind (create segment outcome) may = writing_calls
      (after_create segment (create_call ((v.opening).setup).seg_size segment) outcome)
      may.0.0 may.0.1
  writing_behind (write segment page upto bytes outcome) may = writing_calls
      (after_write segment upto (write_call ((v.opening).setup).seg_size segment page bytes)
      outcome) may.0.0 may.0.1
  writing_behind (sync segment outcome) may = writing_calls
      (after_sync (sync_call ((v.opening).setup).seg_size segment) outcome) may.0.0 may.0.1

  pub turns_behind : (e : StepKind) → MayStep v e
      → TurnsHold (words_behind words v e) (home_behind v e home)
      (stage_behind v e (slice_index words (word_of_step v e)) stage) (writer_behind v e writer)
      (views_behind words home views id v e)
  turns_behind e may = record { mapping = mapping_behind e may; writing = writing_behind e may }
