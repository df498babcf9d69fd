-- A step on plain data goes by marks again, and takes no more calls than the room that it leaves.
use Rattle.std.proofs.Common.{◌≡◌, ◌≢◌, ◌⊎◌, inl, inr, ℕ, ◌+◌, ◌-◌, ◌*◌, ◌/◌, ◌%◌, ◌<◌, ◌≤◌, Bool, true, false, cond, eqb-true, not, ◌&&◌, List, [], ◌∷◌, length, max, min, set, Option, Some, None, refl, sym, ap, ◌∙◌, subst, arith}
use Rattle.std.specs.Prelude.{nat_eq, nat_le, nat_lt}
use Rattle.std.proofs.lemmas.Bool.{cases_lt}
use Rattle.byte_position.specs.Geometry.{IsSegmentSize}
use Rattle.byte_position.specs.Position.{address_of, end_address_of, position_of}
use Rattle.byte_position.proofs.EndAddresses.{position_of-end_address_of}
use Rattle.byte_position.proofs.PagesTimes.{end_address_of-page_start_times}
use Rattle.machine_state.specs.declared.setup.Setup.{Setup}
use Rattle.machine_state.specs.Words.{end_word, flushed_word, initialised_word, lock_word, log_limit, position_word, prev_word, mapping_turn_number, write_turn_number, initialised_number, written_number, flushed_number, moment_number, down_number, ends_number, lock_number}
use Rattle.machine_state.specs.Moves.{unlocked}
use Rattle.machine_state.specs.Steps.{ring_place}
use Rattle.machine_state.specs.Views.{View}
use Rattle.machine_state.proofs.WordLists.{word_else, word_set}
use Rattle.machine_turns.specs.Doing.{Ask, Machine}
use Rattle.machine_turns.proofs.AtView.{sound}
use Rattle.machine_turns.specs.declared.doing.PlainDoing.{PlainDoing}
use Rattle.machine_turns.specs.declared.doing.PlainDoing.TheVariants as doings
use Rattle.machine_turns.specs.declared.doing.PlainNext.{PlainNext}
use Rattle.machine_turns.specs.declared.doing.PlainNext.TheVariants as nexts
use Rattle.machine_turns.specs.declared.doing.PlainPurpose.{PlainPurpose}
use Rattle.machine_turns.specs.declared.doing.PlainPurpose.TheVariants as purposes
use Rattle.machine_turns.specs.declared.event.Event.TheVariants as events
use Rattle.machine_turns.specs.declared.script.PlainLine.{PlainLine}
use Rattle.machine_turns.specs.declared.view.PlainFlight.{PlainFlight}
use Rattle.machine_turns.specs.declared.view.PlainFlight.TheVariants as flights
use Rattle.machine_turns.specs.declared.view.PlainHold.{PlainHold}
use Rattle.machine_turns.specs.declared.view.PlainHold.TheVariants as hands
use Rattle.machine_turns.specs.declared.view.PlainPlace.{PlainPlace}
use Rattle.machine_turns.specs.declared.view.PlainPlace.TheVariants as places
use Rattle.machine_turns.specs.declared.view.PlainStage.{PlainStage}
use Rattle.machine_turns.specs.declared.view.PlainStage.TheVariants as stages
use Rattle.machine_turns.specs.declared.view.PlainView.{PlainView}
use Rattle.machine_turns.specs.declared.view.PlainWatching.{PlainWatching}
use Rattle.machine_turns.specs.Left.{Left, at_place, at_stage, left_going_on, next_in, page_end_in}
use Rattle.machine_turns.specs.Scripts.{room_of_line}
use Rattle.machine_turns.specs.Inserting.{at_reserves, at_tries, behind_release, has_no_word_left, lock_to_try, watch_begun, watch_visited, watched, with_one_more}
use Rattle.machine_turns.specs.Flushing.{behind_writing}
use Rattle.machine_turns.specs.Mapping.{at_maps, behind_turn}
use Rattle.machine_turns.specs.Writing.{behind_call, behind_written_word, is_some_waiting, known_in, page_or_end, upto_next}
use Rattle.machine_turns.specs.Lanes.{IsReadyFor, is_commit, stepped}
use Rattle.machine_turns.specs.Writer.{WriterState, page_written, segment_at, succeeds}
use Rattle.wal_core.specs.Marks.{GoesByMarks, IsMark, LearnsMarks, TellMarks, TellsAt, TellsFor, ends_above}
use Rattle.wal_core.specs.Playing.{lines_reserved}
use Rattle.wal_core.specs.Following.{StandsPlain, plain_step}
use Rattle.wal_core.specs.PlainData.{plain_place, plain_view}
use Rattle.wal_core.proofs.Rooms.{GoesNotBack, HasReserved, IsNotReserving, RestsOn, keeps, reserving_rests, room-whole}

-- ---- marks

pub page_mark : (size : ℕ) (ends : List ℕ) (at : ℕ) → at % 8192 ≡ 0 → IsMark size ends at
page_mark size [] at is = is
page_mark size (end ∷ ends) at is = inr (page_mark size ends at is)

max_holds : (P : ℕ → Type 0) (a b : ℕ) → P a → P b → P (max a b)
max_holds P a b one other = elim (cases_lt a b) [
  | inl low ↦ subst P (omega (arith, low)) other
  | inr high ↦ subst P (omega (arith, high)) one
]

pub min_holds : (P : ℕ → Type 0) (a b : ℕ) → P a → P b → P (min a b)
min_holds P a b one other = elim (cases_lt a b) [
  | inl low ↦ subst P (omega (arith, low)) one
  | inr high ↦ subst P (omega (arith, high)) other
]

either : {X : Type 0} (P : X → Type 0) (b : Bool) (x y : X) → P x → P y → P (cond b x y)
either P true x y p q = p
either P false x y p q = q

module _ (size : ℕ) (valid : IsSegmentSize size) where
  -- a mark is the end form of its byte position
  pub mark_ends_itself : (ends : List ℕ) (at : ℕ) → IsMark size ends at
      → end_address_of size (position_of size at) ≡ at
  mark_ends_itself [] at is =
      let whole : at / 8192 * 8192 ≡ at = omega (arith, is) in
      subst (λ (a : ℕ). end_address_of size (position_of size a) ≡ a) whole
      (end_address_of-page_start_times size valid (at / 8192))
  mark_ends_itself (end ∷ ends) at (inl is) =
      ap (λ (a : ℕ). end_address_of size (position_of size a)) is
      ∙ ap (end_address_of size) (position_of-end_address_of size valid end) ∙ sym is
  mark_ends_itself (end ∷ ends) at (inr is) = mark_ends_itself ends at is

module _ (size : ℕ) where
  above_falls : (ends : List ℕ) (low high : ℕ) → low ≤ high
      → ends_above size ends high ≤ ends_above size ends low
  above_falls [] low high rises = omega arith
  above_falls (end ∷ ends) low high rises = omega (arith, rises, above_falls ends low high rises)

  -- where the written address rises to a mark, a page or a record less is left
  pub mark_spent : (ends : List ℕ) (written upto end : ℕ) → IsMark size ends upto
      → written < upto → upto ≤ end
      → end / 8192 - upto / 8192 + ends_above size ends upto + 1
      ≤ end / 8192 - written / 8192 + ends_above size ends written
  mark_spent [] written upto end is rises within = omega (arith, is, rises, within)
  mark_spent (last ∷ ends) written upto end (inl is) rises within =
      omega (arith, is, rises, within, above_falls ends written upto (omega (arith, rises)))
  mark_spent (last ∷ ends) written upto end (inr is) rises within =
      omega (arith, rises, mark_spent ends written upto end is rises within)

-- ---- a position more

module _ (size : ℕ) (ends : List ℕ) (end : ℕ) where
  pub learns_on : (view : PlainView) → LearnsMarks size ends view → LearnsMarks size (end ∷ ends) view
  learns_on view l = record { seen = inr l.seen; bound = inr l.bound; known = inr l.known }

  for_on : (purpose : PlainPurpose) (next : ℕ) → TellsFor size ends purpose next
      → TellsFor size (end ∷ ends) purpose next
  for_on purposes.Line next is = tt
  for_on (purposes.Page lock upto) next is = inr is

  pub tells_on : (d : PlainDoing) (next : ℕ) → TellsAt size ends d next
      → TellsAt size (end ∷ ends) d next
  tells_on (doings.Looks lock) next is = inr is
  tells_on (doings.Maps lock) next is = inr is
  tells_on (doings.GivesTurn lock upto) next is = inr is
  tells_on (doings.Tells lock upto) next is = inr is
  tells_on (doings.Visits purpose lock) next is = for_on purpose next is
  tells_on (doings.TakesTurn purpose) next is = for_on purpose next is
  tells_on (doings.LoadsDown purpose) next is = for_on purpose next is
  tells_on (doings.TakesOut purpose) next is = for_on purpose next is
  tells_on (doings.LoadsPage purpose loaded) next is = for_on purpose next is
  tells_on (doings.Creates purpose) next is = for_on purpose next is
  tells_on (doings.Writes purpose) next is = for_on purpose next is
  tells_on (doings.SyncsFull purpose) next is = for_on purpose next is
  tells_on (doings.StoresWritten purpose) next is = for_on purpose next is
  tells_on (doings.SetsDown purpose) next is = for_on purpose next is
  tells_on (doings.PutsBack purpose failed) next is = for_on purpose next is
  tells_on (doings.GivesWriteTurn purpose failed) next is = for_on purpose next is
  tells_on other next is = tt

-- ---- what a step leaves

-- where another step comes next, its view may tell
abbrev pub NextTells : (size : ℕ) → List ℕ → PlainNext → ℕ → Type 0
NextTells size ends (nexts.GoesOn d) next = TellsAt size ends d next
NextTells size ends (nexts.Answers full) next = Unit {0}

pub record LeavesMarks (size : ℕ) (ends : List ℕ) (left : Left) : Type 0 where
  pub words : TellMarks size ends left.words
  pub view : LearnsMarks size ends left.view
  pub next : NextTells size ends (left.made).next (next_in (left.view).flight)

-- no record is reserved; or one is, up to this byte position
abbrev pub MovesMarks : (size : ℕ) → List ℕ → PlainDoing → Left → Type 0
MovesMarks size ends d left = (LeavesMarks size ends left × GoesNotBack d (left.made).next)
    ⊎ ((end : ℕ) × LeavesMarks size (end ∷ ends) left × (lines_reserved d ≡ 0)
    × HasReserved (left.made).next)

module _ (setup : Setup) (valid : IsSegmentSize setup.seg_size) (ends : List ℕ)
    (words : List ℕ) (wide : ends_number ≤ length words) (w : WriterState) (view : PlainView)
    (line : PlainLine) (copied : Option PlainLine)
    (tell : TellMarks setup.seg_size ends words)
    (written : IsMark setup.seg_size ends (w.plain).written)
    (l : LearnsMarks setup.seg_size ends view) where
  abbrev size : ℕ
  size = setup.seg_size

  abbrev Is : ℕ → Type 0
  Is at = IsMark size ends at

  zero_mark : Is 0
  zero_mark = page_mark size ends 0 (omega arith)

  -- ---- words

  -- another word is stored
  store_prev_word : (n : ℕ) → TellMarks size ends (set words 1 n)
  store_prev_word n = record {
    position = subst (λ (x : ℕ). Is (end_address_of size (unlocked x)))
        (sym (word_else words 1 n 0 (λ is. omega arith))) tell.position;
    locks = λ lock low. subst (λ (x : ℕ). Is (x - 1))
        (sym (word_else words 1 n (lock_number lock) (λ is. omega arith))) (tell.locks lock low);
    flushed = subst Is (sym (word_else words 1 n flushed_number (λ is. omega arith))) tell.flushed;
  }

  store_behind : (i n : ℕ) → mapping_turn_number ≤ i → flushed_number ≢ i → TellMarks size ends (set words i n)
  store_behind i n behind apart = record {
    position = subst (λ (x : ℕ). Is (end_address_of size (unlocked x)))
        (sym (word_else words i n 0 (λ is. omega (arith, is, behind)))) tell.position;
    locks = λ lock low. subst (λ (x : ℕ). Is (x - 1))
        (sym (word_else words i n (lock_number lock) (λ is. omega (arith, is, low, behind)))) (tell.locks lock low);
    flushed = subst Is (sym (word_else words i n flushed_number apart)) tell.flushed;
  }

  store_position : (n : ℕ) → Is (end_address_of size (unlocked n)) → TellMarks size ends (set words 0 n)
  store_position n is = record {
    position = subst (λ (x : ℕ). Is (end_address_of size (unlocked x)))
        (sym (word_set words 0 n (omega (arith, wide)))) is;
    locks = λ lock low. subst (λ (x : ℕ). Is (x - 1))
        (sym (word_else words 0 n (lock_number lock) (λ is. omega arith))) (tell.locks lock low);
    flushed = subst Is (sym (word_else words 0 n flushed_number (λ is. omega arith))) tell.flushed;
  }

  store_lock : (lock n : ℕ) → lock < 8 → Is (n - 1) → TellMarks size ends (set words (lock_number lock) n)
  store_lock lock n low is = record {
    position = subst (λ (x : ℕ). Is (end_address_of size (unlocked x)))
        (sym (word_else words (lock_number lock) n 0 (λ is. omega arith))) tell.position;
    locks = λ other below. by_number other below (cases_lt other lock) (cases_lt lock other);
    flushed = subst Is (sym (word_else words (lock_number lock) n flushed_number (λ is. omega (arith, is, low)))) tell.flushed;
  }
    where
      else_lock : (other : ℕ) → other < 8 → other ≢ lock
          → Is (lock_word (set words (lock_number lock) n) other - 1)
      else_lock other below apart = subst (λ (x : ℕ). Is (x - 1))
          (sym (word_else words (lock_number lock) n (lock_number other) (λ is. apart (omega (arith, is)))))
          (tell.locks other below)

      by_number : (other : ℕ) → other < 8 → (other < lock) ⊎ (lock ≤ other)
          → (lock < other) ⊎ (other ≤ lock) → Is (lock_word (set words (lock_number lock) n) other - 1)
      by_number other below (inl before) any =
          else_lock other below (λ is. omega (arith, is, before))
      by_number other below (inr from) (inl behind) =
          else_lock other below (λ is. omega (arith, is, behind))
      by_number other below (inr from) (inr upto) =
          let same : lock ≡ other = omega (arith, from, upto) in
          subst (λ (x : ℕ). Is (lock_word (set words (lock_number lock) n) x - 1)) same
          (subst (λ (x : ℕ). Is (x - 1))
          (sym (word_set words (lock_number lock) n (omega (arith, low, wide)))) is)

  store_flushed : (n : ℕ) → Is n → TellMarks size ends (set words flushed_number n)
  store_flushed n is = record {
    position = subst (λ (x : ℕ). Is (end_address_of size (unlocked x)))
        (sym (word_else words flushed_number n 0 (λ is. omega arith))) tell.position;
    locks = λ lock low. subst (λ (x : ℕ). Is (x - 1))
        (sym (word_else words flushed_number n (lock_number lock) (λ is. omega (arith, is, low)))) (tell.locks lock low);
    flushed = subst Is (sym (word_set words flushed_number n (omega (arith, wide)))) is;
  }

  -- ---- a view

  sees : (position : ℕ) → Is (end_address_of size position)
      → LearnsMarks size ends (record view { seen = max view.seen position })
  sees position is = record {
    seen = max_holds (λ (p : ℕ). Is (end_address_of size p)) view.seen position l.seen is;
    bound = l.bound;
    known = l.known;
  }

  sees_address : (at : ℕ) → Is at
      → LearnsMarks size ends (record view { seen = max view.seen (position_of size at) })
  sees_address at is =
      sees (position_of size at) (subst Is (sym (mark_ends_itself size valid ends at is)) is)

  -- a lock's word is met, with a limit that is a mark
  visits : (lock limit met : ℕ) → Is limit → Is (met - 1)
      → LearnsMarks size ends (watched lock limit met view)
  visits lock limit met most is = record { seen = l.seen; bound = found; known = l.known }
    where
      begun : PlainWatching
      begun = watch_begun lock limit view.watching

      begun_is : Is begun.bound
      begun_is = either (λ (x : PlainWatching). Is x.bound) (nat_eq lock 0)
          (record { end = limit; visited = 0; bound = limit }) view.watching most l.bound

      found : Is (watch_visited lock met begun).bound
      found = either (λ (x : PlainWatching). Is x.bound)
          (nat_eq lock begun.visited && not (nat_eq met 1))
          (record begun {
            visited = begun.visited + 1;
            bound = cond (nat_eq met 0) begun.bound (min begun.bound (met - 1));
          }) begun
          (either Is (nat_eq met 0) begun.bound (min begun.bound (met - 1)) begun_is
          (min_holds Is begun.bound (met - 1) begun_is is)) begun_is

  -- ---- what comes behind a step, where the next word of the copy is at a mark

  module _ (next : ℕ) where
    abbrev May : PlainDoing → Type 0
    May d = TellsAt size ends d next

    may_write : (upto : ℕ) → Is next → (lock : ℕ) → (b c : Bool)
        → May (cond b (doings.GivesTurn lock None)
        (cond c (doings.GivesTurn lock (Some upto)) (doings.Maps lock)))
    may_write upto is lock b c = either May b (doings.GivesTurn lock None)
        (cond c (doings.GivesTurn lock (Some upto)) (doings.Maps lock)) is
        (either May c (doings.GivesTurn lock (Some upto)) (doings.Maps lock) is is)

    may_turn : (lock : ℕ) (end : Option ℕ) → Is next → May (behind_turn lock end)
    may_turn lock None is = is
    may_turn lock (Some end) is = is

    may_page : (purpose : PlainPurpose) (known : ℕ) (x : WriterState) → TellsFor size ends purpose next
        → May (page_or_end purpose known x)
    may_page purposes.Line known x is = either May (nat_lt (x.plain).written known)
        (doings.LoadsPage purposes.Line 0) (cond (is_some_waiting (x.plain).waiting)
        doings.SyncsLast (doings.StoresWritten purposes.Line)) tt
        (either May (is_some_waiting (x.plain).waiting) doings.SyncsLast
        (doings.StoresWritten purposes.Line) tt tt)
    may_page (purposes.Page lock end) known x is = either May (nat_lt (x.plain).written known)
        (doings.LoadsPage (purposes.Page lock end) 0)
        (doings.StoresWritten (purposes.Page lock end)) is is

    may_call : (purpose : PlainPurpose) (d : PlainDoing) → TellsFor size ends purpose next → May d
        → May (behind_call setup words view w purpose d)
    may_call purpose d is may = either May (succeeds w) d (doings.SetsDown purpose) may is

    may_store : (purpose : PlainPurpose) → TellsFor size ends purpose next
        → May (behind_written_word setup words view w purpose)
    may_store purposes.Line is = tt
    may_store (purposes.Page lock end) is = is

    may_end : (purpose : PlainPurpose) (failed : Bool) → TellsFor size ends purpose next
        → NextTells size ends (behind_writing purpose failed) next
    may_end purposes.Line failed is = tt
    may_end (purposes.Page lock end) true is = tt
    may_end (purposes.Page lock end) false is = is

  may_copy : (lock : ℕ) (flight : PlainFlight) → TellsAt size ends (cond (has_no_word_left flight)
      (doings.Releases lock false) (cond (nat_eq (next_in flight % 8192) 0) (doings.Looks lock)
      (doings.Copies lock))) (next_in flight)
  may_copy lock flight = either (λ (d : PlainDoing). TellsAt size ends d (next_in flight))
      (has_no_word_left flight) (doings.Releases lock false) (cond
      (nat_eq (next_in flight % 8192) 0) (doings.Looks lock) (doings.Copies lock)) tt
      (at_page (nat_eq (next_in flight % 8192) 0) refl)
    where
      at_page : (b : Bool) → nat_eq (next_in flight % 8192) 0 ≡ b
          → TellsAt size ends (cond b (doings.Looks lock) (doings.Copies lock)) (next_in flight)
      at_page true is = page_mark size ends (next_in flight) (eqb-true (next_in flight % 8192) 0 is)
      at_page false is = tt

  may_release : (full commits : Bool)
      → NextTells size ends (behind_release setup words view full commits) 0
  may_release true commits = tt
  may_release false true = tt
  may_release false false = tt

  -- ---- each step but a reservation's

  leaves : (left : Left) → TellMarks size ends left.words → LearnsMarks size ends left.view
      → NextTells size ends (left.made).next (next_in (left.view).flight)
      → LeavesMarks size ends left
  leaves left words view next = record { words = words; view = view; next = next }

  holds : (hold : PlainHold) → Is (known_in hold)
      → LearnsMarks size ends (record view { hold = hold })
  holds hold is = record { seen = l.seen; bound = l.bound; known = is }

  -- a part of the view of which nothing is said
  staged : (stage : PlainStage) → LearnsMarks size ends (record view { stage = stage })
  staged stage = record { seen = l.seen; bound = l.bound; known = l.known }

  placed : (place : PlainPlace) → LearnsMarks size ends (record view { place = place })
  placed place = record { seen = l.seen; bound = l.bound; known = l.known }

  flies : (flight : PlainFlight) → LearnsMarks size ends (record view { flight = flight })
  flies flight = record { seen = l.seen; bound = l.bound; known = l.known }

  tries_marks : (taken : ℕ) → LeavesMarks size ends (at_tries setup words view taken)
  tries_marks taken =
      let lock = lock_to_try setup words view taken in
      let met = lock_word words lock in
      let low : lock < 8 = omega arith in
      let after = cond (nat_eq (taken + 1) 8) doings.Begins (doings.Tries (taken + 1)) in
      either (LeavesMarks size ends) (nat_eq met 0)
      (left_going_on (events.TakeLock lock) view (set words (lock_number lock) 1) (doings.Reserves lock))
      (left_going_on (events.LoadLock lock) (watched lock 0 met view) words after)
      (leaves (left_going_on (events.TakeLock lock) view (set words (lock_number lock) 1)
      (doings.Reserves lock)) (store_lock lock 1 low zero_mark) l tt)
      (leaves (left_going_on (events.LoadLock lock) (watched lock 0 met view) words after) tell
      (visits lock 0 met zero_mark (tell.locks lock low))
      (either (λ (d : PlainDoing). TellsAt size ends d (next_in view.flight))
      (nat_eq (taken + 1) 8) doings.Begins (doings.Tries (taken + 1)) tt tt))

  maps_marks : (lock : ℕ) → Is (next_in view.flight) → (s : PlainStage)
      → LeavesMarks size ends (at_maps setup words (record view { stage = s }) lock)
  maps_marks lock is stages.Away =
      leaves _ (store_behind mapping_turn_number _ (omega arith) (λ is. omega arith)) (staged stages.Taken) is
  maps_marks lock is stages.Taken = leaves _ tell (staged (stages.Looked (initialised_word words))) is
  maps_marks lock is (stages.Looked at) =
      leaves _ tell (staged (stages.Ready at)) (may_write (next_in view.flight) _ is lock _ _)
  maps_marks lock is (stages.Ready at) =
      leaves _ (store_behind (ends_number + at / 8192 % setup.ring_pages) 0 (omega arith) (λ is. omega arith))
      (staged (stages.Zeroing at 0)) is
  maps_marks lock is (stages.Zeroing at count) =
      let d = doings.Maps lock in
      let zeroing = record view { stage = stages.Zeroing at count } in
      let buffer = at / 8192 % setup.ring_pages in
      let place = ends_number + setup.ring_pages + (buffer * 1024 + count) in
      let zeroed = left_going_on events.ZeroRingWord
      (at_stage (stages.Zeroing at (count + 1)) zeroing) (set words place 0) d in
      let published = left_going_on events.PublishEnd (at_stage (stages.Published at) zeroing)
      (set words (ends_number + buffer) (at + 8192)) d in
      either (LeavesMarks size ends) (nat_lt count 1024) zeroed published
      (leaves zeroed (store_behind place 0 (omega arith) (λ is. omega arith))
      (staged (stages.Zeroing at (count + 1))) is)
      (leaves published (store_behind (ends_number + buffer) (at + 8192) (omega arith) (λ is. omega arith))
      (staged (stages.Published at)) is)
  maps_marks lock is (stages.Published at) =
      leaves _ (store_behind initialised_number _ (omega arith) (λ is. omega arith)) (staged stages.Taken) is

  abbrev left_at : PlainDoing → Left
  left_at d = (stepped setup words w view line copied d).left

  pub steps_marks : (d : PlainDoing) → IsNotReserving setup words w view line copied d
      → IsReadyFor setup words w view copied d → TellsAt size ends d (next_in view.flight)
      → LeavesMarks size ends (left_at d)
  steps_marks doings.Begins other ready may = leaves _ tell l tt
  steps_marks (doings.Tries taken) other ready may = tries_marks taken
  steps_marks (doings.Reserves lock) other ready may = absurd other
  steps_marks (doings.Looks lock) other ready may = leaves _ tell l
      (either (λ (d : PlainDoing). TellsAt size ends d (next_in view.flight))
      (nat_eq (end_word words (next_in view.flight / 8192 % setup.ring_pages))
      (page_end_in view.flight)) (doings.Copies lock) (doings.Maps lock) tt may)
  steps_marks (doings.Copies lock) other ready may =
      let place = ends_number + setup.ring_pages + ring_place setup (next_in view.flight / 8) in
      leaves _ (store_behind place _ (omega arith) (λ is. omega arith))
      (flies (with_one_more view.flight)) (may_copy lock (with_one_more view.flight))
  steps_marks (doings.Maps lock) other ready may = maps_marks lock may view.stage
  steps_marks (doings.GivesTurn lock end) other ready may =
      leaves _ (store_behind mapping_turn_number 0 (omega arith) (λ is. omega arith)) (staged stages.Away)
      (may_turn (next_in view.flight) lock end may)
  steps_marks (doings.Tells lock end) other ready may =
      let next = next_in view.flight in
      let told : next ≡ next + 1 - 1 = omega arith in
      leaves _ (store_lock lock (next + 1) ready (subst Is told may)) l may
  steps_marks (doings.Releases lock full) other ready may =
      leaves _ (store_lock lock 0 ready zero_mark) (flies flights.Landed)
      (may_release full (is_commit line))
  steps_marks doings.FlushBegins other ready may = leaves _ tell l tt
  steps_marks doings.LoadsPosition other ready may = leaves _ tell
      (sees (position_word words - position_word words % 2) tell.position) tt
  steps_marks doings.LoadsFlushed other ready may = leaves _ tell
      (sees_address (flushed_word words) tell.flushed)
      (either (λ (d : PlainDoing). TellsAt size ends d (next_in view.flight))
      (nat_le view.last_end (flushed_word words)) doings.LoadsMoment
      (doings.Visits purposes.Line 0) tt tt)
  steps_marks doings.LoadsMoment other ready may = leaves _ tell l tt
  steps_marks (doings.Visits purpose lock) other ready may = leaves _ tell
      (visits lock (end_address_of size view.seen) (lock_word words lock) l.seen
      (tell.locks lock ready))
      (either (λ (d : PlainDoing). TellsAt size ends d (next_in view.flight))
      (nat_eq (lock + 1) 8) (doings.TakesTurn purpose) (doings.Visits purpose (lock + 1)) may may)
  steps_marks (doings.TakesTurn purpose) other ready may =
      leaves _ (store_behind write_turn_number _ (omega arith) (λ is. omega arith)) (holds hands.Turned zero_mark) may
  steps_marks (doings.LoadsDown purpose) other ready may = leaves _ tell l may
  steps_marks (doings.TakesOut purpose) other ready may =
      let known = cond (nat_eq (view.watching).visited 8) (view.watching).bound 0 in
      leaves _ tell (holds (hands.Out known) (either Is (nat_eq (view.watching).visited 8)
      (view.watching).bound 0 l.bound zero_mark))
      (may_page (next_in view.flight) purpose known w may)
  steps_marks (doings.LoadsPage purpose loaded) other ready may = leaves _ tell l
      (either (λ (d : PlainDoing). TellsAt size ends d (next_in view.flight))
      (nat_eq (loaded + 1) 1024) (cond (nat_lt (w.plain).made (segment_at w))
      (doings.Creates purpose) (doings.Writes purpose)) (doings.LoadsPage purpose (loaded + 1))
      (either (λ (d : PlainDoing). TellsAt size ends d (next_in view.flight))
      (nat_lt (w.plain).made (segment_at w)) (doings.Creates purpose) (doings.Writes purpose) may
      may) may)
  steps_marks (doings.Creates purpose) other ready may = leaves _ tell l
      (may_call (next_in view.flight) purpose (doings.Writes purpose) may may)
  steps_marks (doings.Writes purpose) other ready may =
      let upto = upto_next setup words view w in
      leaves _ tell l (may_call (next_in view.flight) purpose (cond
      (nat_eq (upto % setup.seg_size) 0) (doings.SyncsFull purpose)
      (page_or_end purpose (known_in view.hold) (page_written w upto))) may
      (either (λ (d : PlainDoing). TellsAt size ends d (next_in view.flight))
      (nat_eq (upto % setup.seg_size) 0) (doings.SyncsFull purpose)
      (page_or_end purpose (known_in view.hold) (page_written w upto)) may
      (may_page (next_in view.flight) purpose (known_in view.hold) (page_written w upto) may)))
  steps_marks (doings.SyncsFull purpose) other ready may = leaves _ tell l
      (may_call (next_in view.flight) purpose _ may (may_page (next_in view.flight) purpose _ _ may))
  steps_marks doings.SyncsLast other ready may = leaves _ tell l
      (may_call (next_in view.flight) purposes.Line (doings.StoresWritten purposes.Line) tt tt)
  steps_marks (doings.StoresWritten purpose) other ready may =
      leaves _ (store_behind written_number _ (omega arith) (λ is. omega arith)) l
      (may_store (next_in view.flight) purpose may)
  steps_marks doings.StoresMoment other ready may =
      leaves _ (store_behind moment_number _ (omega arith) (λ is. omega arith)) l tt
  steps_marks doings.StoresFlushed other ready may =
      leaves _ (store_flushed (w.plain).written written) (sees_address (w.plain).written written) tt
  steps_marks (doings.SetsDown purpose) other ready may =
      leaves _ (store_behind down_number _ (omega arith) (λ is. omega arith)) l may
  steps_marks (doings.PutsBack purpose failed) other ready may =
      leaves _ tell (holds hands.Turned zero_mark) may
  steps_marks (doings.GivesWriteTurn purpose failed) other ready may =
      leaves _ (store_behind write_turn_number 0 (omega arith) (λ is. omega arith)) (holds hands.Idle zero_mark)
      (may_end (next_in view.flight) purpose failed may)

  -- ---- and a reservation's

  abbrev left_reserving : ℕ → PlainPlace → Left
  left_reserving lock place =
      at_reserves setup words (record view { place = place }) lock (room_of_line line)

  pub reserves_marks : (lock : ℕ) (place : PlainPlace) → RestsOn words place
      → MovesMarks size ends (doings.Reserves lock) (left_reserving lock place)
  reserves_marks lock places.Free rests =
      let n = position_word words in
      let same : unlocked n ≡ unlocked (n + 1) = omega (arith, rests) in
      inl (
        leaves _ (store_position (n + 1)
            (subst (λ (x : ℕ). Is (end_address_of size x)) same tell.position))
            (placed (places.Locked n)) tt,
        omega arith,
      )
  reserves_marks lock (places.Locked at) rests =
      let locked = record view { place = places.Locked at } in
      let loads = left_going_on events.LoadPrev (at_place (places.Loaded at (prev_word words)) locked)
      words (doings.Reserves lock) in
      let gives = left_going_on events.GivePositionBack (at_place places.Free locked)
      (set words 0 at) (doings.Releases lock true) in
      let same : unlocked (position_word words) ≡ unlocked at = omega (arith, rests.0, rests.1) in
      either (MovesMarks size ends (doings.Reserves lock))
      (nat_le (at + room_of_line line) (log_limit setup)) loads gives
      (inl (leaves loads tell (placed (places.Loaded at (prev_word words))) tt, omega arith))
      (inl (
        leaves gives (store_position at
            (subst (λ (x : ℕ). Is (end_address_of size x)) same tell.position))
            (placed places.Free) tt,
        omega arith,
      ))
  reserves_marks lock (places.Loaded at prev) rests = inl (
    leaves _ (store_prev_word (address_of size at)) (placed (places.Stored at prev)) tt,
    omega arith,
  )
  reserves_marks lock (places.Stored at prev) rests =
      let end = at + room_of_line line in
      let whole : end ≡ unlocked end = omega (arith, rests.1, room-whole line) in
      let start : unlocked (position_word words) ≡ at = omega (arith, rests.0, rests.1) in
      let words_now = set words 0 end in
      inr (
        end,
        record {
          words = record {
            position = inl (sym (ap (end_address_of size)
                (whole ∙ sym (ap unlocked (word_set words 0 end (omega (arith, wide)))))));
            locks = λ other low. inr (subst (λ (x : ℕ). Is (x - 1))
                (sym (word_else words 0 end (lock_number other) (λ is. omega arith))) (tell.locks other low));
            flushed = inr (subst Is (sym (word_else words 0 end flushed_number (λ is. omega arith))) tell.flushed);
          };
          view = record { seen = inl refl; bound = inr l.bound; known = inr l.known };
          next = inr (subst (λ (x : ℕ). Is (end_address_of size x)) start tell.position);
        },
        refl,
        refl,
      )

-- ---- a machine that runs

module _ (m : Machine) (number : ℕ) (v : View) (ask : Ask) (line : PlainLine) (copied : Option PlainLine)
    (w : WriterState) (ends : List ℕ) (tell : TellMarks ((v.opening).setup).seg_size ends (m.state).words)
    (written : IsMark ((v.opening).setup).seg_size ends (w.plain).written) where
  pub step_moves_marks : (d : PlainDoing) → StandsPlain m number v ask line copied w d
      → IsReadyFor (v.opening).setup (m.state).words w (plain_view v) copied d
      → GoesByMarks ((v.opening).setup).seg_size ends (plain_view v) d
      → MovesMarks ((v.opening).setup).seg_size ends d (plain_step m v line copied w d).left
  step_moves_marks (doings.Reserves lock) s ready goes =
      let k = sound m s.running number v s.live ask in
      reserves_marks (v.opening).setup ((k.setup_is).size) ends (m.state).words
      (omega (arith, k.wide)) w (plain_view v) line copied tell written goes.0 lock
      (plain_place (v.reserving).place)
      (reserving_rests m number v ask line copied w lock s)
  step_moves_marks other s ready goes =
      let k = sound m s.running number v s.live ask in inl (
        steps_marks (v.opening).setup ((k.setup_is).size) ends (m.state).words
            (omega (arith, k.wide)) w (plain_view v) line copied tell written goes.0 other tt ready
            goes.1,
        (keeps (v.opening).setup (m.state).words w (plain_view v) line copied other tt).next,
      )
