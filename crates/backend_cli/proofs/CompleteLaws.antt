-- What a run comes to that has room for its script, if nothing fails.
use Rattle.std.proofs.Common.{◌≡◌, ℕ, ◌+◌, ◌-◌, ◌^◌, ◌<◌, ◌≤◌, ◌⊎◌, List, [], ◌∷◌, Err, IfSome, IsSome, None, Ok, Option, Result, Some, ap, arith, length, inl, inr, refl, subst, sym, ◌∙◌}
use Rattle.std.proofs.lemmas.List.{append_cancel_left}
use Rattle.std.proofs.lemmas.List.Sums.{sum_by-cons}
use Rattle.byte_position.specs.Geometry.{IsSegmentSize}
use Rattle.byte_position.specs.Position.{address_of, first_position, position_of}
use Rattle.byte_position.proofs.PositionLaws.{position_of-address_of}
use Rattle.segment_disk.specs.Cause.{Rose, RoseByOne}
use Rattle.segment_disk.specs.Tape.{Tape}
use Rattle.flush_core.specs.Pages.{HoldsNothing}
use Rattle.wal_page.specs.Order.{Entry, room_at, rooms_of}
use Rattle.wal_page.proofs.OrderLaws.{rooms_of_cons}
use Rattle.machine_state.specs.Words.{Opening, found_position, log_limit}
use Rattle.wal_rule.specs.Founded.{empty_log_opening}
use Rattle.wal_reader.specs.declared.found.FoundRecord.{FoundRecord}
use Rattle.written_log_laws.specs.Written.{found_entry, found_from}
use Rattle.found_log.specs.Found.{RefusesLog, first_page}
use Rattle.found_log.specs.declared.fault.FindFault.TheVariants as finding
use Rattle.reopened_log_laws.specs.WasLeft.{WasLeft}
use Rattle.reopened_log_laws.proofs.OwnAnswers.{left_logs_are_not_foreign}
use Rattle.run_script.specs.Asked.{AskedLine}
use Rattle.run_script.specs.Run.{run_meaning}
use Rattle.run_script.specs.declared.line.Refusal.{Refusal}
use Rattle.run_laws.specs.declared.told.Told.{Told}
use Rattle.run_laws.specs.Rooms.{all_rooms_asked, capacity_of}
use Rattle.run_script.specs.Generated.{generated_script}
use Rattle.cli_line.specs.declared.commands.RunOptions.{RunOptions}
use Rattle.cli_line.specs.declared.commands.ScriptRunOptions.{ScriptRunOptions}
use Rattle.backend_cli.specs.Appending.{EndsUnappended, HoldsAppended, MayGoOn}
use Rattle.backend_cli.specs.Complete.{AppendsAreComplete, LogHasRoom, IsComplete, MadeRunsAreComplete, MeansThese, NoFault, NothingFailed, RunsAreComplete, rooms_found}
use Rattle.backend_cli.specs.Outside.{Outside, SourceView}
use Rattle.backend_cli.specs.Reading.{ScriptMeans}
use Rattle.backend_cli.specs.Run.{EndsUnopened, EndsUnplayed, HoldsOpened, HoldsSince}
use Rattle.backend_cli.specs.Setups.{run_setup, system_id}
use Rattle.backend_cli.specs.declared.outcome.Outcome.{Outcome}
use Rattle.backend_cli.specs.declared.outcome.Outcome.TheVariants.{BeyondCap, DiskFault, Done, LogFull, NotEmpty, OutOfMemory, ScriptRefused, SinkFault, SourceFault, Stopped}
use Rattle.backend_cli.proofs.FoundPlaces.{appended_opening, lies_behind_left}

-- ---- what a source handed out has one meaning

pub handed_out_scripts_have_one_meaning : (writer : Option ℕ) (before after : SourceView)
    (one other : Result (List (List AskedLine)) Refusal) → ScriptMeans writer before after one
    → ScriptMeans writer before after other → one ≡ other
handed_out_scripts_have_one_meaning writer before after one other first second =
    let same : first.0 ≡ second.0 =
    append_cancel_left before.handed first.0 second.0
    (sym first.1.handed_out ∙ second.1.handed_out) in
    sym first.2 ∙ ap (run_meaning writer) same ∙ second.2

same_lines : (one other : List (List AskedLine))
    (meaning : Result (List (List AskedLine)) Refusal) → meaning ≡ Ok one → meaning ≡ Ok other
    → one ≡ other
same_lines one other meaning first second = cc

none_refused : (refusal : Refusal) (script : List (List AskedLine))
    (meaning : Result (List (List AskedLine)) Refusal) → meaning ≡ Err refusal
    → meaning ≡ Ok script → ⊥
none_refused refusal script meaning first second = cc

-- ---- causes that do not come

never_rose : (last old new : ℕ) → new ≡ old → new < last → (old < new) ⊎ (new ≡ last) → ⊥
never_rose last old new same below (inl more) = omega (arith, same, more)
never_rose last old new same below (inr full) = omega (arith, below, full)

not_risen : (old new : ℕ) → NoFault old new → Rose old new → ⊥
not_risen old new none rose = never_rose (2 ^ 64 - 1) old new none.0 none.1 rose

never_rose_by_one : (last old new : ℕ) → new ≡ old → new < last
    → (new ≡ old + 1) ⊎ ((new ≡ old) × (new ≡ last)) → ⊥
never_rose_by_one last old new same below (inl more) = omega (arith, same, more)
never_rose_by_one last old new same below (inr full) = omega (arith, below, full.1)

not_risen_by_one : (old new : ℕ) → NoFault old new → RoseByOne old new → ⊥
not_risen_by_one old new none rose = never_rose_by_one (2 ^ 64 - 1) old new none.0 none.1 rose

-- records that were found and what is asked for take up no more than there is, from a position on
-- to which they reach
fits_or_not : (capacity first found position asked : ℕ) → position ≡ first + found
    → found + asked ≤ capacity → first + capacity < position + asked → ⊥
fits_or_not capacity first found position asked same fits beyond =
    omega (arith, same, fits, beyond)

some_lists : (told : List Told) (others : List (List Told)) → told ∷ others ≡ [] → ⊥
some_lists told others same = cc

no_first_page : (page : Option (List ℕ)) → page ≡ None → IsSome page → ⊥
no_first_page None none some = cc
no_first_page (Some page) none some = cc

if_told : (P : Tape → Type 0) (told : Option Tape) (t : Tape) → told ≡ Some t → IfSome told P → P t
if_told P told t is holds = subst (λ (o : Option Tape). IfSome o P) is holds

-- ---- a log that was opened

module _ (opening : Opening) (held : Type 0) (outside : Outside) (script : List (List AskedLine))
    (told : List Told) (others : List (List Told)) (fine : NothingFailed outside)
    (room : log_limit opening.setup
    < found_position opening + all_rooms_asked (opening.setup).seg_size script → ⊥) where
  opened_complete : (outcome : Outcome)
      → HoldsSince opening held outside outcome script (told ∷ others)
      → IsComplete (told ∷ others) outcome
  opened_complete Done since = (some_lists told others, since.ends.1)
  opened_complete DiskFault since =
      absurd (not_risen outside.disk_before outside.disk_after fine.disk since.ends)
  opened_complete LogFull since = absurd (room (since.full since.ends.1))
  opened_complete SinkFault since =
      absurd (not_risen outside.sink_before outside.sink_after fine.sink since.ends.2)
  opened_complete other since = absurd since.ends

-- ---- a log that is begun

module _ (outside : Outside) (fine : NothingFailed outside) (t : Tape)
    (told : outside.tape_before ≡ Some t) (empty : first_page t 1 ≡ None) where
  no_log : IfSome outside.tape_before (λ u. IsSome (first_page u 1)) → ⊥
  no_log there = no_first_page (first_page t 1) empty
      (if_told (λ (u : Tape). IsSome (first_page u 1)) outside.tape_before t told there)

  unplayed_complete : (outcome : Outcome) → EndsUnplayed outside outcome → IsComplete [] outcome
  unplayed_complete OutOfMemory ends = refl
  unplayed_complete NotEmpty ends = absurd (no_log ends.0)
  unplayed_complete DiskFault ends =
      absurd (not_risen_by_one outside.disk_before outside.disk_after fine.disk ends)
  unplayed_complete other ends = absurd ends

  unopened_complete : (writer : Option ℕ) (script : List (List AskedLine))
      → MeansThese writer script outside → (outcome : Outcome)
      → EndsUnopened writer outside outcome → IsComplete [] outcome
  unopened_complete writer script means OutOfMemory ends = refl
  unopened_complete writer script means SourceFault ends =
      absurd (not_risen_by_one outside.source_before.faults outside.source_after.faults fine.source
      ends.0)
  unopened_complete writer script means (ScriptRefused refusal) ends =
      absurd (none_refused refusal script (Err refusal) refl (means (Err refusal) ends.0))
  unopened_complete writer script means NotEmpty ends = absurd (no_log ends.1)
  unopened_complete writer script means DiskFault ends =
      absurd (not_risen_by_one outside.disk_before outside.disk_after fine.disk ends.1)
  unopened_complete writer script means other ends = absurd ends

  begun_complete : (options : RunOptions) (script : List (List AskedLine))
      → LogHasRoom options [] script → (outcome : Outcome) (lists : List Told)
      (others : List (List Told)) → HoldsOpened outside options outcome script (lists ∷ others)
      → IsComplete (lists ∷ others) outcome
  begun_complete options script room outcome lists others holds =
      opened_complete
      (empty_log_opening (run_setup options (length script)) outside.moment_before
      outside.disk_before)
      (HoldsNothing outside.tape_before) outside script lists others fine
      (fits_or_not (capacity_of options.geometry options.cap_segments)
      (first_position options.geometry) 0 (first_position options.geometry)
      (all_rooms_asked options.geometry script) (omega arith) room) outcome holds.since

pub runs_are_complete : RunsAreComplete
runs_are_complete outside options outcome [] holds fine script means room t told empty =
    unopened_complete outside fine t told empty options.writer script means outcome holds.0
runs_are_complete outside options outcome (lists ∷ others) holds fine script means room t told
    empty =
    let same : holds.0 ≡ script =
    same_lines holds.0 script (Ok holds.0) refl (means (Ok holds.0) holds.1) in
    begun_complete outside fine t told empty options.run holds.0
    (subst (LogHasRoom options.run []) (sym same) room) outcome lists others holds.2

pub made_runs_are_complete : MadeRunsAreComplete
made_runs_are_complete outside options outcome [] holds fine room t told empty =
    unplayed_complete outside fine t told empty outcome holds.plays.0
made_runs_are_complete outside options outcome (lists ∷ others) holds fine room t told empty =
    begun_complete outside fine t told empty options.run (generated_script options.lines) room
    outcome lists others holds.plays

-- ---- a log that is gone on with

-- found records take up as many bytes as the entries that they are read of
rooms_found_of : (size : ℕ) → IsSegmentSize size → (prev : ℕ) (es : List Entry)
    → rooms_found size (found_from size prev es) ≡ rooms_of size es
rooms_found_of size valid prev [] = refl
rooms_found_of size valid prev (e ∷ es) =
    let found : List FoundRecord = found_from size (address_of size e.start) es in
    let here = ap (λ (p : ℕ). room_at size p e.value) (position_of-address_of size valid e.start) in
    let others = rooms_found_of size valid (address_of size e.start) es in
    sum_by-cons (λ (f : FoundRecord). room_at size (position_of size f.head.start.0) f.value)
    (found_entry size prev e) found
    ∙ ap (λ (n : ℕ). n + rooms_found size found) here
    ∙ ap (λ (n : ℕ). room_at size e.start e.value + n) others ∙ sym (rooms_of_cons size e es)

module _ (outside : Outside) (options : ScriptRunOptions) (fine : NothingFailed outside)
    (script : List (List AskedLine)) (means : MeansThese options.writer script outside)
    (found : List FoundRecord) (t : Tape) (told : outside.tape_before ≡ Some t)
    (left : WasLeft options.run.geometry system_id t found) where
  abbrev size : ℕ
  size = options.run.geometry

  valid : IsSegmentSize size
  valid = left.has_found.may.valid

  -- the segment behind the last one allowed is there
  abbrev IsBeyond : List (List Told) → Outcome → Type 0
  IsBeyond lists outcome = (outcome ≡ BeyondCap) × (lists ≡ [])
      × IsSome (first_page t (options.run.cap_segments + 1))

  unappended_complete : (outcome : Outcome) → EndsUnappended options outside outcome
      → IsComplete [] outcome ⊎ IsBeyond [] outcome
  unappended_complete OutOfMemory ends = inl refl
  unappended_complete SourceFault ends =
      absurd (not_risen_by_one outside.source_before.faults outside.source_after.faults fine.source
      ends.0)
  unappended_complete (ScriptRefused refusal) ends =
      absurd (none_refused refusal script (Err refusal) refl (means (Err refusal) ends.0))
  unappended_complete BeyondCap ends =
      inr (
        refl,
        refl,
        if_told (λ (u : Tape). IsSome (first_page u (options.run.cap_segments + 1)))
            outside.tape_before t told ends.1,
      )
  unappended_complete (Stopped stop) ends =
      absurd (left_logs_are_not_foreign size system_id options.run.cap_segments t found stop left
      (if_told (RefusesLog size options.run.cap_segments (finding.Foreign stop))
      outside.tape_before t told ends.1))
  unappended_complete DiskFault ends =
      absurd (not_risen outside.disk_before outside.disk_after fine.disk ends.1)
  unappended_complete other ends = absurd ends

  -- the records that the disk was left with reach up to the place at which a run goes on
  place_found : (outcome : Outcome) (asked : List (List AskedLine)) (lists : List (List Told))
      → (holds : HoldsAppended outside options.run outcome asked lists)
      → holds.place.position ≡ first_position size + rooms_found size found
  place_found outcome asked lists holds =
      let lies = lies_behind_left options.run outside outcome asked lists holds t told found left in
      lies.2.position_is
      ∙ ap (λ (n : ℕ). first_position size + n) (sym (rooms_found_of size valid 0 lies.0)
      ∙ ap (λ (fs : List FoundRecord). rooms_found size fs) lies.3)

  appended_complete : (asked : List (List AskedLine)) → asked ≡ script
      → LogHasRoom options.run found script → (outcome : Outcome) (lists : List Told)
      (others : List (List Told))
      → HoldsAppended outside options.run outcome asked (lists ∷ others)
      → IsComplete (lists ∷ others) outcome
  appended_complete asked same room outcome lists others holds =
      let opening = appended_opening options.run outside outcome asked (lists ∷ others) holds in
      opened_complete opening (MayGoOn size holds.headline.segments outside.tape_before) outside asked lists others fine
      (fits_or_not (capacity_of size options.run.cap_segments) (first_position size)
      (rooms_found size found) (found_position opening) (all_rooms_asked size asked)
      (place_found outcome asked (lists ∷ others) holds)
      (subst (LogHasRoom options.run found) (sym same) room)) outcome holds.since

pub appends_are_complete : AppendsAreComplete
appends_are_complete outside options outcome [] holds fine script means found room t told left =
    unappended_complete outside options fine script means found t told left outcome holds
appends_are_complete outside options outcome (lists ∷ others) holds fine script means found room t
    told left =
    inl (appended_complete outside options fine script means found t told left holds.0
    (same_lines holds.0 script (Ok holds.0) refl (means (Ok holds.0) holds.1)) room outcome lists others holds.2)
