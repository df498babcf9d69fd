-- The syncs that are left: a step takes none but by a sync, and a write adds one where it fills a
-- segment.
use Rattle.std.proofs.Common.{◌≡◌, ℕ, zero, suc, ◌+◌, ◌-◌, ◌*◌, ◌/◌, ◌%◌, ◌≤◌, Bool, true, false, cond, eqb-true, List, [], ◌∷◌, drop, set, slice_get, Option, Some, None, refl, ap, arith}
use Rattle.std.specs.Prelude.{nat_eq, nat_le, nat_lt}
use Rattle.machine_state.specs.declared.setup.Setup.{Setup}
use Rattle.machine_state.specs.Words.{end_word, flushed_word, lock_word, log_limit, written_word}
use Rattle.machine_turns.specs.declared.doing.PlainDoing.{PlainDoing}
use Rattle.machine_turns.specs.declared.doing.PlainDoing.TheVariants as doings
use Rattle.machine_turns.specs.declared.doing.PlainNext.{PlainNext}
use Rattle.machine_turns.specs.declared.doing.PlainNext.TheVariants as nexts
use Rattle.machine_turns.specs.declared.doing.PlainPurpose.{PlainPurpose}
use Rattle.machine_turns.specs.declared.doing.PlainPurpose.TheVariants as purposes
use Rattle.machine_turns.specs.declared.lane.PlainBackend.{PlainBackend}
use Rattle.machine_turns.specs.declared.script.PlainLine.{PlainLine}
use Rattle.machine_turns.specs.declared.script.PlainLine.TheVariants.{Insert, Commit, Flush}
use Rattle.machine_turns.specs.declared.view.PlainFlight.{PlainFlight}
use Rattle.machine_turns.specs.declared.view.PlainPlace.{PlainPlace}
use Rattle.machine_turns.specs.declared.view.PlainPlace.TheVariants as places
use Rattle.machine_turns.specs.declared.view.PlainStage.{PlainStage}
use Rattle.machine_turns.specs.declared.view.PlainStage.TheVariants as stages
use Rattle.machine_turns.specs.declared.view.PlainView.{PlainView}
use Rattle.machine_turns.specs.Left.{Left, next_in, page_end_in}
use Rattle.machine_turns.specs.Scripts.{flushes_of_line, flushes_of_lines, room_of_line}
use Rattle.machine_turns.specs.Inserting.{at_reserves, at_tries, behind_release, has_no_word_left, lock_to_try, with_one_more}
use Rattle.machine_turns.specs.Flushing.{behind_writing}
use Rattle.machine_turns.specs.Mapping.{at_maps, behind_turn}
use Rattle.machine_turns.specs.Writing.{behind_call, behind_written_word, is_some_waiting, known_in, page_or_end, segment_waiting, upto_next}
use Rattle.machine_turns.specs.Lanes.{is_commit, lane_answered, lane_behind, start_of_line, stepped}
use Rattle.machine_turns.specs.Writer.{WriterState, page_written, segment_at, succeeds, synced}
use Rattle.wal_core.specs.Playing.{all_syncs_left, syncs_ahead, syncs_behind, syncs_for, syncs_left, syncs_under_way}

-- ---- what a step costs

-- a sync of its own; and where a write fills a segment, its sync is to come
abbrev pub syncs_made : PlainDoing → ℕ
syncs_made (doings.SyncsFull purpose) = 1
syncs_made doings.SyncsLast = 1
syncs_made other = 0

abbrev pub syncs_added : (size upto : ℕ) → PlainDoing → ℕ
syncs_added size upto (doings.Writes purpose) = 1 - upto % size
syncs_added size upto other = 0

either : {X : Type 0} (P : X → Type 0) (b : Bool) (x y : X) → P x → P y → P (cond b x y)
either P true x y p q = p
either P false x y p q = q

abbrev pub next_syncs : PlainNext → ℕ → ℕ
next_syncs (nexts.GoesOn d) f = syncs_ahead d f
next_syncs (nexts.Answers full) f = 0

module _ (setup : Setup) (words : List ℕ) (w : WriterState) (view : PlainView) (line : PlainLine)
    (copied : Option PlainLine) where
  abbrev f : ℕ
  f = flushes_of_line line

  -- at a place no more syncs are left than so many
  abbrev Few : ℕ → PlainDoing → Type 0
  Few n d = syncs_ahead d f ≤ n

  same : (n : ℕ) → n ≤ n
  same n = omega arith

  behind-for : (purpose : PlainPurpose) → syncs_behind purpose f ≤ syncs_for purpose f
  behind-for purposes.Line = omega arith
  behind-for (purposes.Page lock end) = omega arith

  few_page : (purpose : PlainPurpose) (known : ℕ) (x : WriterState)
      → Few (syncs_for purpose f) (page_or_end purpose known x)
  few_page purposes.Line known x = either (Few 1) (nat_lt (x.plain).written known)
      (doings.LoadsPage purposes.Line 0) (cond (is_some_waiting (x.plain).waiting)
      doings.SyncsLast (doings.StoresWritten purposes.Line)) (omega arith)
      (either (Few 1) (is_some_waiting (x.plain).waiting) doings.SyncsLast
      (doings.StoresWritten purposes.Line) (omega arith) (omega arith))
  few_page (purposes.Page lock end) known x = either (Few f) (nat_lt (x.plain).written known)
      (doings.LoadsPage (purposes.Page lock end) 0)
      (doings.StoresWritten (purposes.Page lock end)) (same f) (same f)

  few_call : (n : ℕ) (purpose : PlainPurpose) (d : PlainDoing) → syncs_for purpose f ≤ n → Few n d
      → Few n (behind_call setup words view w purpose d)
  few_call n purpose d enough few = either (Few n) (succeeds w) d (doings.SetsDown purpose) few
      (omega (arith, enough, behind-for purpose))

  few_store : (purpose : PlainPurpose)
      → Few (syncs_behind purpose f) (behind_written_word setup words view w purpose)
  few_store purposes.Line = omega arith
  few_store (purposes.Page lock end) = same f

  few_end : (purpose : PlainPurpose) (failed : Bool)
      → next_syncs (behind_writing purpose failed) f ≤ syncs_behind purpose f
  few_end purposes.Line failed = omega arith
  few_end (purposes.Page lock end) true = omega arith
  few_end (purposes.Page lock end) false = same f

  few_turn : (lock : ℕ) (end : Option ℕ) → Few f (behind_turn lock end)
  few_turn lock None = same f
  few_turn lock (Some end) = same f

  few_copy : (lock : ℕ) (flight : PlainFlight) → Few f (cond (has_no_word_left flight)
      (doings.Releases lock false) (cond (nat_eq (next_in flight % 8192) 0) (doings.Looks lock)
      (doings.Copies lock)))
  few_copy lock flight = either (Few f) (has_no_word_left flight) (doings.Releases lock false)
      (cond (nat_eq (next_in flight % 8192) 0) (doings.Looks lock) (doings.Copies lock)) (same f)
      (either (Few f) (nat_eq (next_in flight % 8192) 0) (doings.Looks lock) (doings.Copies lock)
      (same f) (same f))

  few_tries : (taken : ℕ)
      → next_syncs ((at_tries setup words view taken).made).next f ≤ f
  few_tries taken = either (λ (left : Left). next_syncs (left.made).next f ≤ f)
      (nat_eq (lock_word words (lock_to_try setup words view taken)) 0) _ _ (same f)
      (either (Few f) (nat_eq (taken + 1) 8) doings.Begins (doings.Tries (taken + 1)) (same f)
      (same f))

  few_reserves : (lock room : ℕ) (place : PlainPlace)
      → next_syncs ((at_reserves setup words (record view { place = place }) lock room).made).next f
      ≤ f
  few_reserves lock room places.Free = same f
  few_reserves lock room (places.Locked at) =
      either (λ (left : Left). next_syncs (left.made).next f ≤ f)
      (nat_le (at + room) (log_limit setup)) _ _ (same f) (same f)
  few_reserves lock room (places.Loaded at prev) = same f
  few_reserves lock room (places.Stored at prev) = same f

  few_maps : (lock : ℕ) (stage : PlainStage)
      → next_syncs ((at_maps setup words (record view { stage = stage }) lock).made).next f ≤ f
  few_maps lock stages.Away = same f
  few_maps lock stages.Taken = same f
  few_maps lock (stages.Looked at) = either (Few f) (nat_le (page_end_in view.flight) at)
      (doings.GivesTurn lock None) _ (same f)
      (either (Few f) (nat_lt (written_word words + setup.ring_pages * 8192) (at + 8192))
      (doings.GivesTurn lock (Some (at + 8192 - setup.ring_pages * 8192))) (doings.Maps lock)
      (same f) (same f))
  few_maps lock (stages.Ready at) = same f
  few_maps lock (stages.Zeroing at count) =
      either (λ (left : Left). next_syncs (left.made).next f ≤ f) (nat_lt count 1024) _ _ (same f)
      (same f)
  few_maps lock (stages.Published at) = same f

  -- where a page is written: a sync more where its segment is full
  few_writes : (purpose : PlainPurpose) (upto size : ℕ) (next : PlainDoing)
      → Few (syncs_for purpose f) next
      → Few (syncs_for purpose f + (1 - upto % size))
      (cond (nat_eq (upto % size) 0) (doings.SyncsFull purpose) next)
  few_writes purpose upto size next few = by_test (nat_eq (upto % size) 0) refl
    where
      by_test : (b : Bool) → nat_eq (upto % size) 0 ≡ b
          → Few (syncs_for purpose f + (1 - upto % size)) (cond b (doings.SyncsFull purpose) next)
      by_test true is = let none_over = eqb-true (upto % size) 0 is in omega (arith, none_over)
      by_test false is = omega (arith, few)

few_release : (setup : Setup) (words : List ℕ) (view : PlainView) (full : Bool) (line : PlainLine)
    → next_syncs (behind_release setup words view full (is_commit line)) (flushes_of_line line)
    ≤ flushes_of_line line
few_release setup words view true line = omega arith
few_release setup words view false (Insert body) = omega arith
few_release setup words view false (Commit body) = omega arith
few_release setup words view false Flush = omega arith

module _ (setup : Setup) (words : List ℕ) (w : WriterState) (view : PlainView) (line : PlainLine)
    (copied : Option PlainLine) where
  abbrev upto : ℕ
  upto = upto_next setup words view w

  abbrev flushes : ℕ
  flushes = flushes_of_line line

  -- a step that makes no sync, and adds none
  abbrev pub TakesSyncs : PlainDoing → Type 0
  TakesSyncs d = next_syncs ((stepped setup words w view line copied d).left.made).next flushes
      + syncs_made d ≤ syncs_ahead d flushes + syncs_added setup.seg_size upto d

  plainly : {n m : ℕ} → n ≤ m → n + 0 ≤ m + 0
  plainly few = omega (arith, few)

  pub takes_syncs : (d : PlainDoing) → TakesSyncs d
  takes_syncs doings.Begins = omega arith
  takes_syncs (doings.Tries taken) =
      omega (arith, few_tries setup words w view line copied taken)
  takes_syncs (doings.Reserves lock) =
      omega (arith, few_reserves setup words w view line copied lock (room_of_line line) view.place)
  takes_syncs (doings.Looks lock) = plainly (either (λ (d : PlainDoing). syncs_ahead d flushes ≤ flushes)
      (nat_eq (end_word words (next_in view.flight / 8192 % setup.ring_pages))
      (page_end_in view.flight)) (doings.Copies lock) (doings.Maps lock) (omega arith) (omega arith))
  takes_syncs (doings.Copies lock) = plainly (few_copy setup words w view line copied lock (with_one_more view.flight))
  takes_syncs (doings.Maps lock) = plainly (few_maps setup words w view line copied lock view.stage)
  takes_syncs (doings.GivesTurn lock end) = plainly (few_turn setup words w view line copied lock end)
  takes_syncs (doings.Tells lock end) = omega arith
  takes_syncs (doings.Releases lock full) = plainly (few_release setup words view full line)
  takes_syncs doings.FlushBegins = omega arith
  takes_syncs doings.LoadsPosition = omega arith
  takes_syncs doings.LoadsFlushed = plainly (either (λ (d : PlainDoing). syncs_ahead d flushes ≤ 1)
      (nat_le view.last_end (flushed_word words)) doings.LoadsMoment
      (doings.Visits purposes.Line 0) (omega arith) (omega arith))
  takes_syncs doings.LoadsMoment = omega arith
  takes_syncs (doings.Visits purpose lock) = plainly (either (λ (d : PlainDoing). syncs_ahead d flushes ≤ syncs_for purpose flushes)
      (nat_eq (lock + 1) 8) (doings.TakesTurn purpose) (doings.Visits purpose (lock + 1))
      (omega arith) (omega arith))
  takes_syncs (doings.TakesTurn purpose) = omega arith
  takes_syncs (doings.LoadsDown purpose) = omega arith
  takes_syncs (doings.TakesOut purpose) = plainly (few_page setup words w view line copied purpose
      (cond (nat_eq (view.watching).visited 8) (view.watching).bound 0) w)
  takes_syncs (doings.LoadsPage purpose loaded) = plainly (either (λ (d : PlainDoing). syncs_ahead d flushes ≤ syncs_for purpose flushes)
      (nat_eq (loaded + 1) 1024) (cond (nat_lt (w.plain).made (segment_at w))
      (doings.Creates purpose) (doings.Writes purpose)) (doings.LoadsPage purpose (loaded + 1))
      (either (λ (d : PlainDoing). syncs_ahead d flushes ≤ syncs_for purpose flushes)
      (nat_lt (w.plain).made (segment_at w)) (doings.Creates purpose) (doings.Writes purpose)
      (omega arith) (omega arith)) (omega arith))
  takes_syncs (doings.Creates purpose) = plainly (few_call setup words w view line copied (syncs_for purpose flushes) purpose
      (doings.Writes purpose) (omega arith) (omega arith))
  takes_syncs (doings.Writes purpose) =
      let few = few_call setup words w view line copied
      (syncs_for purpose flushes + (1 - upto % setup.seg_size)) purpose (cond
      (nat_eq (upto % setup.seg_size) 0) (doings.SyncsFull purpose)
      (page_or_end purpose (known_in view.hold) (page_written w upto))) (omega arith)
      (few_writes setup words w view line copied purpose upto setup.seg_size
      (page_or_end purpose (known_in view.hold) (page_written w upto))
      (few_page setup words w view line copied purpose (known_in view.hold)
      (page_written w upto))) in
      omega (arith, few)
  takes_syncs (doings.SyncsFull purpose) =
      let synced_now = synced w (segment_waiting (w.plain).waiting) in
      let few = few_call setup words w view line copied (syncs_for purpose flushes) purpose
      (page_or_end purpose (known_in view.hold) synced_now) (omega arith)
      (few_page setup words w view line copied purpose (known_in view.hold) synced_now) in
      omega (arith, few)
  takes_syncs doings.SyncsLast =
      let few = either (λ (d : PlainDoing). syncs_ahead d flushes ≤ 0) (succeeds w)
      (doings.StoresWritten purposes.Line) (doings.SetsDown purposes.Line) (omega arith)
      (omega arith) in
      omega (arith, few)
  takes_syncs (doings.StoresWritten purpose) = plainly (few_store setup words w view line copied purpose)
  takes_syncs doings.StoresMoment = omega arith
  takes_syncs doings.StoresFlushed = omega arith
  takes_syncs (doings.SetsDown purpose) = omega arith
  takes_syncs (doings.PutsBack purpose failed) = omega arith
  takes_syncs (doings.GivesWriteTurn purpose failed) = plainly (few_end setup words w view line copied purpose failed)

-- ---- of a lane

none_behind : (i : ℕ) → flushes_of_lines (drop i []) ≡ 0
none_behind zero = refl
none_behind (suc i) = refl

-- a line that begins needs what it flushes
begins_with : (script : List PlainLine) (i : ℕ)
    → syncs_under_way (start_of_line (slice_get script i)) (slice_get script i)
    + flushes_of_lines (drop (suc i) script) ≤ flushes_of_lines (drop i script)
begins_with [] i = omega (arith, none_behind (suc i))
begins_with (Insert body ∷ script) zero = omega arith
begins_with (Commit body ∷ script) zero = omega arith
begins_with (Flush ∷ script) zero = omega arith
begins_with (line ∷ script) (suc i) = begins_with script i

pub begins_few : (script : List PlainLine) (i : ℕ)
    → syncs_under_way (start_of_line (slice_get script i)) (slice_get script i)
    + flushes_of_lines (drop (i + 1) script) ≤ flushes_of_lines (drop i script)
begins_few script i =
    let next : suc i ≡ i + 1 = omega arith in
    omega (arith, begins_with script i, ap (λ (n : ℕ). flushes_of_lines (drop n script)) next)

module _ (lane : PlainBackend) where
  answered_syncs : syncs_left (lane_answered lane)
      ≤ flushes_of_lines (drop (lane.answered + 1) lane.script)
  answered_syncs = begins_few lane.script (lane.answered + 1)

  pub answered_fewer : syncs_left (lane_answered lane) ≤ syncs_left lane
  answered_fewer = omega (arith, answered_syncs)

  module _ (view : PlainView) (copied : ℕ) (line : PlainLine)
      (under_way : slice_get lane.script lane.answered ≡ Some line) where
    now_left : (d : PlainDoing) → syncs_under_way d (slice_get lane.script lane.answered)
        ≡ syncs_ahead d (flushes_of_line line)
    now_left d = ap (syncs_under_way d) under_way

    pub syncs_fall : (next : PlainNext) (made added : ℕ)
        → next_syncs next (flushes_of_line line) + made
        ≤ syncs_ahead lane.doing (flushes_of_line line) + added
        → syncs_left (lane_behind next (record lane { view = view; copied = copied })) + made
        ≤ syncs_left lane + added
    syncs_fall (nexts.GoesOn d) made added takes =
        omega (arith, takes, now_left d, now_left lane.doing)
    syncs_fall (nexts.Answers full) made added takes =
        omega (arith, takes, answered_syncs, now_left lane.doing)

-- ---- of all lanes

pub all_syncs_fall : (lanes : List PlainBackend) (i made added : ℕ) (lane new : PlainBackend)
    → slice_get lanes i ≡ Some lane → syncs_left new + made ≤ syncs_left lane + added
    → all_syncs_left (set lanes i new) + made ≤ all_syncs_left lanes + added
all_syncs_fall [] i made added lane new is falls = absurd (cc)
all_syncs_fall (x ∷ lanes) zero made added lane new is falls =
    let same : x ≡ lane = cc in
    omega (arith, ap (λ (l : PlainBackend). syncs_left l) same, falls)
all_syncs_fall (x ∷ lanes) (suc i) made added lane new is falls =
    omega (arith, all_syncs_fall lanes i made added lane new is falls)

-- a lane's are among them
pub one_of_all : (lanes : List PlainBackend) (i : ℕ) (lane : PlainBackend)
    → slice_get lanes i ≡ Some lane → syncs_left lane ≤ all_syncs_left lanes
one_of_all [] i lane is = absurd (cc)
one_of_all (x ∷ lanes) zero lane is =
    let same : x ≡ lane = cc in omega (arith, ap (λ (l : PlainBackend). syncs_left l) same)
one_of_all (x ∷ lanes) (suc i) lane is = omega (arith, one_of_all lanes i lane is)

-- a sync that is made is one of those ahead
pub made_ahead : (d : PlainDoing) (f : ℕ) → syncs_made d ≤ syncs_ahead d f
made_ahead (doings.SyncsFull purpose) f = omega arith
made_ahead doings.SyncsLast f = omega arith
made_ahead other f = omega arith
