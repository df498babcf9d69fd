-- At every place a turn on plain data follows the machine's, and keeps what it should.
use Rattle.std.proofs.Common.{◌≡◌, inl, inr, ⊎_elim, ℕ, ◌+◌, arith, Bool, true, false, cond, eqb, slice_index, Option, refl, sym, ap, subst, ◌∙◌}
use mathlib.Core.Option.{none, some}
use Rattle.machine_state.specs.Words.{lock_word, write_turn}
use Rattle.machine_state.specs.Views.{Hold, Idle, Turned as HasTurned, Out, Plain, View}
use Rattle.machine_state.specs.Moves.{with_hold}
use Rattle.machine_state.specs.Steps.{load_lock, take_lock, with_call_on, with_slot, word_of_step}
use Rattle.machine_turns.specs.Doing.{Ask, Machine, ForLine}
use Rattle.machine_turns.specs.Turned.{lock_tried}
use Rattle.machine_turns.proofs.FlushPlaces.{hold_of}
use Rattle.machine_turns.specs.declared.doing.PlainDoing.{PlainDoing}
use Rattle.machine_turns.specs.declared.doing.PlainDoing.TheVariants as doings
use Rattle.machine_turns.specs.declared.doing.PlainNext.{PlainNext}
use Rattle.machine_turns.specs.declared.doing.PlainNext.TheVariants.{GoesOn, Answers}
use Rattle.machine_turns.specs.declared.script.PlainLine.{PlainLine}
use Rattle.machine_turns.specs.Lanes.{Stepped}
use Rattle.machine_turns.specs.Writer.{WriterState}
use Rattle.wal_core.specs.Following.{Follows, StandsPlain, plain_step, step_made, view_left, number_met}
use Rattle.wal_core.specs.PlainData.{plain_view, purpose_of}
use Rattle.machine_turns.specs.Scripts.{room_of_line}
use Rattle.wal_core.specs.Playing.{HoldsPageFor, TriesFew, lines_reserved}
use Rattle.wal_core.proofs.Rooms.{GoesNotBack, TakesNoRoom, TakesRoom, at_most_one, step_moves_room}
use Rattle.wal_core.proofs.InsertFollows as inserting
use Rattle.wal_core.proofs.MapFollows as mapping
use Rattle.wal_core.proofs.FlushFollows as flushing
use Rattle.wal_core.proofs.WritingFollows as writing
use Rattle.wal_core.proofs.DeviceFollows as calling
use Rattle.wal_core.proofs.InsertKeeps as kept
use Rattle.wal_core.proofs.InsertKeeps.{FewBehind, KeepsCopy}
use Rattle.wal_core.proofs.WriterKeeps as held
use Rattle.wal_core.proofs.WriterKeeps.{KeepsWriter}
use Rattle.wal_core.proofs.Keeping.{IsLikeWriter, Keeps, MayWrite, NextHas}
use Rattle.wal_core.proofs.PagelessNext as pageless
use Rattle.wal_core.proofs.PagelessNext.{IsPageless, LeavesNone}
use Rattle.wal_core.proofs.NumberStays.{number_stays}
use Rattle.wal_core.proofs.QuietSteps.{IsQuiet, quiet_load_down, quiet_mapping, quiet_reserving, quiet_take_lock, quiet_either}

module _ (m : Machine) (number : ℕ) (v : View) (ask : Ask) (line : PlainLine) (copied : Option PlainLine)
    (w : WriterState) where
  abbrev Stands : PlainDoing → Type 0
  Stands d = StandsPlain m number v ask line copied w d

  abbrev step_at : PlainDoing → Stepped
  step_at d = plain_step m v line copied w d

  pub step_follows : (d : PlainDoing) → Stands d → Follows m v ask d (step_at d).left
  step_follows doings.Begins s = inserting.begins_follow m number v ask line copied w s
  step_follows (doings.Tries taken) s =
      inserting.tries_follow m number v ask line copied w taken s
  step_follows (doings.Reserves lock) s =
      inserting.reserves_follow m number v ask line copied w lock s
  step_follows (doings.Looks lock) s =
      inserting.looks_follow m number v ask line copied w lock s
  step_follows (doings.Copies lock) s =
      inserting.copies_follow m number v ask line copied w lock s
  step_follows (doings.Maps lock) s =
      mapping.maps_follow m number v ask line copied w lock s
  step_follows (doings.GivesTurn lock end) s =
      mapping.gives_turn_follow m number v ask line copied w lock end s
  step_follows (doings.Tells lock end) s =
      mapping.tells_follow m number v ask line copied w lock end s
  step_follows (doings.Releases lock full) s =
      mapping.releases_follow m number v ask line copied w lock full s
  step_follows doings.FlushBegins s = flushing.flush_begins_follow m number v ask line copied w s
  step_follows doings.LoadsPosition s = flushing.loads_position_follow m number v ask line copied w s
  step_follows doings.LoadsFlushed s = flushing.loads_flushed_follow m number v ask line copied w s
  step_follows doings.LoadsMoment s = flushing.loads_moment_follow m number v ask line copied w s
  step_follows (doings.Visits purpose lock) s =
      flushing.visits_follow m number v ask line copied w purpose lock s
  step_follows (doings.TakesTurn purpose) s =
      flushing.takes_turn_follow m number v ask line copied w purpose s
  step_follows (doings.LoadsDown purpose) s =
      flushing.loads_down_follow m number v ask line copied w purpose s
  step_follows (doings.TakesOut purpose) s =
      writing.takes_out_follow m number v ask line copied w purpose s
  step_follows (doings.LoadsPage purpose loaded) s =
      writing.loads_page_follow m number v ask line copied w purpose loaded s
  step_follows (doings.Creates purpose) s =
      calling.creates_follow m number v ask line copied w purpose s
  step_follows (doings.Writes purpose) s =
      calling.writes_follow m number v ask line copied w purpose s
  step_follows (doings.SyncsFull purpose) s =
      calling.syncs_full_follow m number v ask line copied w purpose s
  step_follows doings.SyncsLast s = calling.syncs_last_follow m number v ask line copied w s
  step_follows (doings.StoresWritten purpose) s =
      writing.stores_written_follow m number v ask line copied w purpose s
  step_follows doings.StoresMoment s = writing.stores_moment_follow m number v ask line copied w s
  step_follows doings.StoresFlushed s = writing.stores_flushed_follow m number v ask line copied w s
  step_follows (doings.SetsDown purpose) s =
      writing.sets_down_follow m number v ask line copied w purpose s
  step_follows (doings.PutsBack purpose failed) s =
      flushing.puts_back_follow m number v ask line copied w purpose failed s
  step_follows (doings.GivesWriteTurn purpose failed) s =
      flushing.gives_write_turn_follow m number v ask line copied w purpose failed s

  -- ---- the tries of locks

  -- where the line's record is reserved, no lock is tried
  few_past : (d : PlainDoing) → lines_reserved d ≡ 1 → TriesFew d
  few_past (doings.Tries taken) past = absurd (omega (arith, past))
  few_past doings.Begins past = tt
  few_past (doings.Reserves lock) past = tt
  few_past (doings.Looks lock) past = tt
  few_past (doings.Copies lock) past = tt
  few_past (doings.Maps lock) past = tt
  few_past (doings.GivesTurn lock end) past = tt
  few_past (doings.Tells lock end) past = tt
  few_past (doings.Releases lock full) past = tt
  few_past doings.FlushBegins past = tt
  few_past doings.LoadsPosition past = tt
  few_past doings.LoadsFlushed past = tt
  few_past doings.LoadsMoment past = tt
  few_past (doings.Visits purpose lock) past = tt
  few_past (doings.TakesTurn purpose) past = tt
  few_past (doings.LoadsDown purpose) past = tt
  few_past (doings.TakesOut purpose) past = tt
  few_past (doings.LoadsPage purpose loaded) past = tt
  few_past (doings.Creates purpose) past = tt
  few_past (doings.Writes purpose) past = tt
  few_past (doings.SyncsFull purpose) past = tt
  few_past doings.SyncsLast past = tt
  few_past (doings.StoresWritten purpose) past = tt
  few_past doings.StoresMoment past = tt
  few_past doings.StoresFlushed past = tt
  few_past (doings.SetsDown purpose) past = tt
  few_past (doings.PutsBack purpose failed) past = tt
  few_past (doings.GivesWriteTurn purpose failed) past = tt

  few_behind : (d : PlainDoing) → lines_reserved d ≡ 1 → (next : PlainNext) → GoesNotBack d next
      → NextHas TriesFew next
  few_behind d past (Answers full) on = tt
  few_behind d past (GoesOn later) on = few_past later (omega (arith, past, on, at_most_one later))

  few_on : (d : PlainDoing) → lines_reserved d ≡ 1 → Stands d
      → NextHas TriesFew (((step_at d).left).made).next
  few_on d past s = ⊎_elim
      (λ (none_taken : TakesNoRoom (m.state).words d (step_at d).left).
      few_behind d past _ none_taken.next)
      (λ (taken : TakesRoom (m.state).words d (step_at d).left (room_of_line line)).
      let before = taken.before in absurd (omega (arith, past, before)))
      (step_moves_room m number v ask line copied w d s)

  few_as : (next : PlainNext) → FewBehind next → NextHas TriesFew next
  few_as (GoesOn later) few = few
  few_as (Answers full) few = tt

  few_at : (d : PlainDoing) → FewBehind (((step_at d).left).made).next
      → NextHas TriesFew (((step_at d).left).made).next
  few_at d few = few_as (((step_at d).left).made).next few

  pub few_next : (d : PlainDoing) → Stands d → TriesFew d
      → NextHas TriesFew (((step_at d).left).made).next
  few_next doings.Begins s few = few_at doings.Begins (kept.begins_few (v.opening).setup (m.state).words w line copied
      (plain_view v))
  few_next (doings.Tries taken) s few = few_at (doings.Tries taken) (kept.tries_few (v.opening).setup (m.state).words w line copied
      (plain_view v) taken few)
  few_next (doings.Reserves lock) s few = few_at (doings.Reserves lock) (kept.reserves_few (v.opening).setup (m.state).words w line copied
      (plain_view v) lock)
  few_next (doings.Looks lock) s few = few_at (doings.Looks lock) (kept.looks_few (v.opening).setup (m.state).words w line copied
      (plain_view v) lock)
  few_next (doings.Copies lock) s few = few_at (doings.Copies lock) (kept.copies_few (v.opening).setup (m.state).words w line copied
      (plain_view v) lock)
  few_next (doings.Maps lock) s few = few_at (doings.Maps lock) (kept.maps_few (v.opening).setup (m.state).words w line copied
      (plain_view v) lock)
  few_next (doings.GivesTurn lock end) s few = few_at (doings.GivesTurn lock end) (kept.gives_turn_few (v.opening).setup (m.state).words w line copied
      (plain_view v) lock end)
  few_next (doings.Tells lock end) s few = few_at (doings.Tells lock end) (kept.tells_few (v.opening).setup (m.state).words w line copied
      (plain_view v) lock end)
  few_next (doings.Releases lock full) s few = few_at (doings.Releases lock full) (kept.releases_few (v.opening).setup (m.state).words w line copied
      (plain_view v) lock full)
  few_next doings.FlushBegins s few = few_on doings.FlushBegins refl s
  few_next doings.LoadsPosition s few = few_on doings.LoadsPosition refl s
  few_next doings.LoadsFlushed s few = few_on doings.LoadsFlushed refl s
  few_next doings.LoadsMoment s few = few_on doings.LoadsMoment refl s
  few_next (doings.Visits purpose lock) s few = few_on (doings.Visits purpose lock) refl s
  few_next (doings.TakesTurn purpose) s few = few_on (doings.TakesTurn purpose) refl s
  few_next (doings.LoadsDown purpose) s few = few_on (doings.LoadsDown purpose) refl s
  few_next (doings.TakesOut purpose) s few = few_on (doings.TakesOut purpose) refl s
  few_next (doings.LoadsPage purpose loaded) s few = few_on (doings.LoadsPage purpose loaded) refl s
  few_next (doings.Creates purpose) s few = few_on (doings.Creates purpose) refl s
  few_next (doings.Writes purpose) s few = few_on (doings.Writes purpose) refl s
  few_next (doings.SyncsFull purpose) s few = few_on (doings.SyncsFull purpose) refl s
  few_next doings.SyncsLast s few = few_on doings.SyncsLast refl s
  few_next (doings.StoresWritten purpose) s few = few_on (doings.StoresWritten purpose) refl s
  few_next doings.StoresMoment s few = few_on doings.StoresMoment refl s
  few_next doings.StoresFlushed s few = few_on doings.StoresFlushed refl s
  few_next (doings.SetsDown purpose) s few = few_on (doings.SetsDown purpose) refl s
  few_next (doings.PutsBack purpose failed) s few = few_on (doings.PutsBack purpose failed) refl s
  few_next (doings.GivesWriteTurn purpose failed) s few = few_on (doings.GivesWriteTurn purpose failed) refl s

  -- ---- the copies

  slot_stays : (home : mathlib.Core.Option.Option Plain)
      → ((with_slot v home).working).flight ≡ (v.working).flight
  slot_stays none = refl
  slot_stays (some writer) = refl

  call_stays : (f : Plain → Plain) (h : Hold)
      → ((with_call_on v f h).working).flight ≡ (v.working).flight
  call_stays f Idle = refl
  call_stays f HasTurned = refl
  call_stays f (Out l) = refl

  turn_stays : (b : Bool) → ((cond b (with_hold HasTurned v) v).working).flight ≡ (v.working).flight
  turn_stays true = refl
  turn_stays false = refl

  pub copies_next : (d : PlainDoing) → Stands d → KeepsCopy m v ask d
  copies_next doings.Begins s = kept.begins_keeps m number v ask line copied w s
  copies_next (doings.Tries taken) s = kept.tries_keeps m number v ask line copied w taken s
  copies_next (doings.Reserves lock) s = kept.reserves_keeps m number v ask line copied w lock s
  copies_next (doings.Looks lock) s = kept.looks_keeps m number v ask line copied w lock s
  copies_next (doings.Copies lock) s = kept.copies_keeps m number v ask line copied w lock s
  copies_next (doings.Maps lock) s = kept.maps_keeps m number v ask line copied w lock s
  copies_next (doings.GivesTurn lock end) s = kept.gives_turn_keeps m number v ask line copied w lock end s
  copies_next (doings.Tells lock end) s = kept.tells_keeps m number v ask line copied w lock end s
  copies_next (doings.Releases lock full) s = kept.releases_keeps m number v ask line copied w lock full s
  copies_next doings.FlushBegins s = λ c is. (c, is, refl)
  copies_next doings.LoadsPosition s = λ c is. (c, is, refl)
  copies_next doings.LoadsFlushed s = λ c is. (c, is, refl)
  copies_next doings.LoadsMoment s = λ c is. (c, is, refl)
  copies_next (doings.Visits purpose lock) s = λ c is. (c, is, refl)
  copies_next (doings.TakesTurn purpose) s = λ c is. (c, sym (turn_stays (eqb (write_turn (m.state).words) 0)) ∙ is, refl)
  copies_next (doings.LoadsDown purpose) s = λ c is. (c, is, refl)
  copies_next (doings.TakesOut purpose) s = λ c is. (c, sym (slot_stays (m.state).home) ∙ is, refl)
  copies_next (doings.LoadsPage purpose loaded) s = λ c is. (c, is, refl)
  copies_next (doings.Creates purpose) s = λ c is. (c, sym (call_stays _ (v.writing).hold) ∙ is, refl)
  copies_next (doings.Writes purpose) s = λ c is. (c, sym (call_stays _ (v.writing).hold) ∙ is, refl)
  copies_next (doings.SyncsFull purpose) s = λ c is. (c, sym (call_stays _ (v.writing).hold) ∙ is, refl)
  copies_next doings.SyncsLast s = λ c is. (c, sym (call_stays _ (v.writing).hold) ∙ is, refl)
  copies_next (doings.StoresWritten purpose) s = λ c is. (c, is, refl)
  copies_next doings.StoresMoment s = λ c is. (c, is, refl)
  copies_next doings.StoresFlushed s = λ c is. (c, is, refl)
  copies_next (doings.SetsDown purpose) s = λ c is. (c, is, refl)
  copies_next (doings.PutsBack purpose failed) s = λ c is. (c, is, refl)
  copies_next (doings.GivesWriteTurn purpose failed) s = λ c is. (c, is, refl)

  -- ---- the writer

  like_same : (d : PlainDoing) → Stands d → IsLikeWriter w w
  like_same d s = record {
    failing_kept = refl;
    size_kept = refl;
    end_kept = refl;
    first_kept = refl;
    whole = s.whole;
  }

  pub like_next : (d : PlainDoing) → Stands d → IsLikeWriter w (step_at d).writer
  like_next doings.Begins s = like_same _ s
  like_next (doings.Tries taken) s = like_same _ s
  like_next (doings.Reserves lock) s = like_same _ s
  like_next (doings.Looks lock) s = like_same _ s
  like_next (doings.Copies lock) s = like_same _ s
  like_next (doings.Maps lock) s = like_same _ s
  like_next (doings.GivesTurn lock end) s = like_same _ s
  like_next (doings.Tells lock end) s = like_same _ s
  like_next (doings.Releases lock full) s = like_same _ s
  like_next doings.FlushBegins s = like_same _ s
  like_next doings.LoadsPosition s = like_same _ s
  like_next doings.LoadsFlushed s = like_same _ s
  like_next doings.LoadsMoment s = like_same _ s
  like_next (doings.Visits purpose lock) s = like_same _ s
  like_next (doings.TakesTurn purpose) s = like_same _ s
  like_next (doings.LoadsDown purpose) s = like_same _ s
  like_next (doings.TakesOut purpose) s = like_same _ s
  like_next (doings.LoadsPage purpose loaded) s = record {
    failing_kept = refl;
    size_kept = refl;
    end_kept = refl;
    first_kept = refl;
    whole = held.loads_page_whole m number v ask line copied w purpose loaded s;
  }
  like_next (doings.Creates purpose) s = record {
    failing_kept = refl;
    size_kept = refl;
    end_kept = refl;
    first_kept = refl;
    whole = s.whole;
  }
  like_next (doings.Writes purpose) s = record {
    failing_kept = refl;
    size_kept = refl;
    end_kept = refl;
    first_kept = refl;
    whole = s.whole;
  }
  like_next (doings.SyncsFull purpose) s = record {
    failing_kept = refl;
    size_kept = refl;
    end_kept = refl;
    first_kept = refl;
    whole = s.whole;
  }
  like_next doings.SyncsLast s = record {
    failing_kept = refl;
    size_kept = refl;
    end_kept = refl;
    first_kept = refl;
    whole = s.whole;
  }
  like_next (doings.StoresWritten purpose) s = like_same _ s
  like_next doings.StoresMoment s = like_same _ s
  like_next doings.StoresFlushed s = like_same _ s
  like_next (doings.SetsDown purpose) s = like_same _ s
  like_next (doings.PutsBack purpose failed) s = like_same _ s
  like_next (doings.GivesWriteTurn purpose failed) s = like_same _ s

  pub writes_next : (d : PlainDoing) → Stands d → MayWrite w (step_at d).writer v
  writes_next doings.Begins s = inl refl
  writes_next (doings.Tries taken) s = inl refl
  writes_next (doings.Reserves lock) s = inl refl
  writes_next (doings.Looks lock) s = inl refl
  writes_next (doings.Copies lock) s = inl refl
  writes_next (doings.Maps lock) s = inl refl
  writes_next (doings.GivesTurn lock end) s = inl refl
  writes_next (doings.Tells lock end) s = inl refl
  writes_next (doings.Releases lock full) s = inl refl
  writes_next doings.FlushBegins s = inl refl
  writes_next doings.LoadsPosition s = inl refl
  writes_next doings.LoadsFlushed s = inl refl
  writes_next doings.LoadsMoment s = inl refl
  writes_next (doings.Visits purpose lock) s = inl refl
  writes_next (doings.TakesTurn purpose) s = inl refl
  writes_next (doings.LoadsDown purpose) s = inl refl
  writes_next (doings.TakesOut purpose) s = inl refl
  writes_next (doings.LoadsPage purpose loaded) s =
      inr (s.stands.0.0, hold_of (purpose_of purpose) ask (Out s.stands.0.0) v s.stands.0.1)
  writes_next (doings.Creates purpose) s =
      inr (s.stands.0, hold_of (purpose_of purpose) ask (Out s.stands.0) v s.stands.1)
  writes_next (doings.Writes purpose) s =
      inr (s.stands.0, hold_of (purpose_of purpose) ask (Out s.stands.0) v s.stands.1)
  writes_next (doings.SyncsFull purpose) s =
      inr (s.stands.0, hold_of (purpose_of purpose) ask (Out s.stands.0) v s.stands.1)
  writes_next doings.SyncsLast s =
      inr (s.stands.0, hold_of ForLine ask (Out s.stands.0) v s.stands.1)
  writes_next (doings.StoresWritten purpose) s = inl refl
  writes_next doings.StoresMoment s = inl refl
  writes_next doings.StoresFlushed s = inl refl
  writes_next (doings.SetsDown purpose) s = inl refl
  writes_next (doings.PutsBack purpose failed) s = inl refl
  writes_next (doings.GivesWriteTurn purpose failed) s = inl refl

  page_as : (P : PlainDoing → Type 0) (next : PlainNext)
      → ((later : PlainDoing) → next ≡ GoesOn later → P later) → NextHas P next
  page_as P (GoesOn later) holds = holds later refl
  page_as P (Answers full) holds = tt

  tries_quiet : (taken : ℕ) → IsQuiet v (m.state).home (number_met m v ask (doings.Tries taken))
      (step_made m v ask (doings.Tries taken))
  tries_quiet taken =
      let lock = lock_tried v taken in
      quiet_either v (m.state).home (λ e. slice_index (m.state).words (word_of_step v e))
      (eqb (lock_word (m.state).words lock) 0) (take_lock lock) (load_lock lock 0)
      (quiet_take_lock v (m.state).home _ lock)
      (record { hold_stays = refl; home_stays = refl })

  -- what an insert's step keeps of the writer
  quiet_keeps : (d : PlainDoing) → Stands d → (step_at d).writer ≡ w
      → IsQuiet v (m.state).home (number_met m v ask d) (step_made m v ask d)
      → LeavesNone (step_at d).left → KeepsWriter m v ask d (step_at d)
  quiet_keeps d s same quiet none_loaded = record {
    at_home = λ p is. (s.writer_is).at_home p (sym quiet.home_stays ∙ is)
        ∙ ap (λ (x : WriterState). x.plain) (sym same);
    in_hand = λ l is. (s.writer_is).in_hand (number + 1) v l (s.live).0
        (sym quiet.hold_stays ∙ is) ∙ ap (λ (x : WriterState). x.plain) (sym same);
    page = λ later is. subst (NextHas IsPageless) is none_loaded ((step_at d).writer).page
        (view_left m v ask d);
  }

  pub writer_next : (d : PlainDoing) → Stands d → KeepsWriter m v ask d (step_at d)
  writer_next doings.Begins s = quiet_keeps doings.Begins s refl
      (quiet_load_down v (m.state).home _)
      (pageless.begins_none (v.opening).setup (m.state).words w line copied (plain_view v))
  writer_next (doings.Tries taken) s = quiet_keeps (doings.Tries taken) s refl
      (tries_quiet taken)
      (pageless.tries_none (v.opening).setup (m.state).words w line copied (plain_view v) taken)
  writer_next (doings.Reserves lock) s = quiet_keeps (doings.Reserves lock) s refl
      (quiet_reserving v (m.state).home (λ e. slice_index (m.state).words (word_of_step v e)) (m.state).words lock ask (v.reserving).place)
      (pageless.reserves_none (v.opening).setup (m.state).words w line copied (plain_view v) lock)
  writer_next (doings.Looks lock) s = quiet_keeps (doings.Looks lock) s refl
      (record { hold_stays = refl; home_stays = refl })
      (pageless.looks_none (v.opening).setup (m.state).words w line copied (plain_view v) lock)
  writer_next (doings.Copies lock) s = quiet_keeps (doings.Copies lock) s refl
      (record { hold_stays = refl; home_stays = refl })
      (pageless.copies_none (v.opening).setup (m.state).words w line copied (plain_view v) lock)
  writer_next (doings.Maps lock) s = quiet_keeps (doings.Maps lock) s refl
      (quiet_mapping v (m.state).home (λ e. slice_index (m.state).words (word_of_step v e)) (m.state).words lock (v.mapping).stage)
      (pageless.maps_none (v.opening).setup (m.state).words w line copied (plain_view v) lock)
  writer_next (doings.GivesTurn lock end) s = quiet_keeps (doings.GivesTurn lock end) s refl
      (record { hold_stays = refl; home_stays = refl })
      (pageless.gives_turn_none (v.opening).setup (m.state).words w line copied (plain_view v) lock end)
  writer_next (doings.Tells lock end) s = quiet_keeps (doings.Tells lock end) s refl
      (record { hold_stays = refl; home_stays = refl })
      (pageless.tells_none (v.opening).setup (m.state).words w line copied (plain_view v) lock end)
  writer_next (doings.Releases lock full) s = quiet_keeps (doings.Releases lock full) s refl
      (record { hold_stays = refl; home_stays = refl })
      (pageless.releases_none (v.opening).setup (m.state).words w line copied (plain_view v) lock full)
  writer_next doings.FlushBegins s = held.flush_begins_keeps m number v ask line copied w s
  writer_next doings.LoadsPosition s = held.loads_position_keeps m number v ask line copied w s
  writer_next doings.LoadsFlushed s = held.loads_flushed_keeps m number v ask line copied w s
  writer_next doings.LoadsMoment s = held.loads_moment_keeps m number v ask line copied w s
  writer_next (doings.Visits purpose lock) s = held.visits_keeps m number v ask line copied w purpose lock s
  writer_next (doings.TakesTurn purpose) s = held.takes_turn_keeps m number v ask line copied w purpose s
  writer_next (doings.LoadsDown purpose) s = held.loads_down_keeps m number v ask line copied w purpose s
  writer_next (doings.TakesOut purpose) s = held.takes_out_keeps m number v ask line copied w purpose s
  writer_next (doings.LoadsPage purpose loaded) s = held.loads_page_keeps m number v ask line copied w purpose loaded s
  writer_next (doings.Creates purpose) s = held.creates_keeps m number v ask line copied w purpose s
  writer_next (doings.Writes purpose) s = held.writes_keeps m number v ask line copied w purpose s
  writer_next (doings.SyncsFull purpose) s = held.syncs_full_keeps m number v ask line copied w purpose s
  writer_next doings.SyncsLast s = held.syncs_last_keeps m number v ask line copied w s
  writer_next (doings.StoresWritten purpose) s = held.stores_written_keeps m number v ask line copied w purpose s
  writer_next doings.StoresMoment s = held.stores_moment_keeps m number v ask line copied w s
  writer_next doings.StoresFlushed s = held.stores_flushed_keeps m number v ask line copied w s
  writer_next (doings.SetsDown purpose) s = held.sets_down_keeps m number v ask line copied w purpose s
  writer_next (doings.PutsBack purpose failed) s = held.puts_back_keeps m number v ask line copied w purpose failed s
  writer_next (doings.GivesWriteTurn purpose failed) s = held.gives_write_turn_keeps m number v ask line copied w purpose failed s

  pub step_keeps : (d : PlainDoing) → Stands d → TriesFew d → Keeps m v ask line w d (step_at d)
  step_keeps d s few =
      let writer = writer_next d s in record {
        at_home = writer.at_home;
        in_hand = writer.in_hand;
        writes = writes_next d s;
        like = like_next d s;
        number_kept = number_stays v (number_met m v ask d) (m.state).home (step_made m v ask d);
        copies = copies_next d s;
        few = few_next d s few;
        page = page_as (HoldsPageFor ((step_at d).writer).page (view_left m v ask d))
            (((step_at d).left).made).next writer.page;
      }
