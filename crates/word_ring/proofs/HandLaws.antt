-- Steps of a pass that has the writer in hand, as plain updates of its view.
use Rattle.std.specs.Prelude.{Result, Err, Ok, MatchResult, None, Some}
use Rattle.std.proofs.Common.{◌≡◌, ℕ, Bool, List, [], ◌∷◌, ◌++◌, refl, sym, ap, ◌∙◌, subst, arith}
use mathlib.Core.Option.{Option, none, some}
use Rattle.atomic_table.specs.declared.shared.Seat.{Seat}
use Rattle.segment_disk.specs.declared.disk.Call.{Call}
use Rattle.segment_disk.specs.Tape.{Tape, create_call, sync_call, write_call}
use Rattle.flush_core.specs.Calls.{maybe, next_call}
use Rattle.flush_core.specs.declared.writer.DiskFault.{DiskFault}
use Rattle.machine_state.specs.Views.{Hold, Lent, Out, Plain, View}
use Rattle.machine_state.specs.Moves.{CallOutcome, Done, Failed, with_hold}
use Rattle.machine_state.specs.Words.{Opening}
use Rattle.machine_state.specs.Steps.{create, load_ring_word, sync, view_behind, write}
use Rattle.wal_rule.specs.declared.seated.SeatedPass.{SeatedPass}
use Rattle.wal_rule.specs.declared.writer.LogWriter.{LogWriter}
use Rattle.wal_rule.specs.Called.{DeviceCall, DeviceCallEnds, creates, step_of_call, syncs, writer_behind, writes}
use Rattle.wal_rule.specs.Ruled.{HasInHand}
use Rattle.wal_rule.specs.SeatedPasses.{HasView, Steps, began_of, hand_of, opening_of, setup_of, view_of}
use Rattle.wal_rule.specs.Slotted.{EndsAs}
use Rattle.wal_rule.specs.Tables.{began_of_table, opening_of_table, setup_of_table}
use Rattle.word_ring.specs.InHand.{CallsEnd, ChangesHand, HasHand, IsReadOff, IsReady, IsSame, Loads, hand_view, lent_in, writer_in}
use Rattle.word_ring.specs.declared.reading.WriterNow.{WriterNow}
use Rattle.word_ring.specs.MadeCalls.{EndCalls, HasBrokenOff, HasCalled}
use Rattle.word_ring.proofs.CallLists.{called_none, counted_failed, ended_on, not_counted, one_more_is}

abbrev pub HasLent : View → Type 0
HasLent v = (l : Lent) × ((v.writing).hold ≡ Out l)

pub hold_is : (v : View) → HasLent v → (v.writing).hold ≡ Out (lent_in (v.writing).hold)
hold_is v has = has.1 ∙ ap (λ (h : Hold). Out (lent_in h)) (sym has.1)

-- ---- nothing has changed, and one change behind another

module _ {D : Type 0} where
  pub me_same : (old new : SeatedPass D) → IsSame old new → (new.seat).me ≡ (old.seat).me
  me_same old new same = ap (λ (s : Seat (LogWriter D) View). s.me) same.same_seat

  pub same_in_hand : (old new : SeatedPass D) → IsSame old new
      → writer_in (view_of new) ≡ writer_in (view_of old)
  same_in_hand old new same =
      ap (λ (m : View × List (ℕ × LogWriter D)). writer_in m.0) (me_same old new same)

  pub unchanged : (old new : SeatedPass D) → IsSame old new → HasLent (view_of old)
      → ChangesHand old new
  unchanged old new same has = record {
    same_table = same.same_table;
    writer = writer_in (view_of old);
    staged = (lent_in ((view_of old).writing).hold).staged;
    view_is = ap (λ (m : View × List (ℕ × LogWriter D)). m.0) (me_same old new same)
        ∙ ap (λ (h : Hold). with_hold h (view_of old)) (hold_is (view_of old) has);
  }

  pub further : (a b c : SeatedPass D) → ChangesHand a b → ChangesHand b c → ChangesHand a c
  further a b c first next = record {
    same_table = next.same_table ∙ first.same_table;
    writer = next.writer;
    staged = next.staged;
    view_is = next.view_is
        ∙ ap (λ (v : View). hand_view next.writer next.staged v) first.view_is;
  }

  -- the log is the same
  pub same_setup : (old new : SeatedPass D) → new.table ≡ old.table → setup_of new ≡ setup_of old
  same_setup old new same = ap (λ t. setup_of_table t.now) same

  pub known_kept : (a b : SeatedPass D) → ChangesHand a b
      → (lent_in ((view_of b).writing).hold).known ≡ (lent_in ((view_of a).writing).hold).known
  known_kept a b changes =
      ap (λ (v : View). (lent_in (v.writing).hold).known) changes.view_is

-- ---- words

pub behind_load : (v : View) → HasLent v → (k met : ℕ)
    → view_behind v (load_ring_word k) met none
    ≡ hand_view (writer_in v) ((k, met) ∷ (lent_in (v.writing).hold).staged) v
behind_load v has k met =
    ap (λ (h : Hold). view_behind (with_hold h v) (load_ring_word k) met none)
    (hold_is v has)

-- ---- calls of the device

pub behind_call : (v : View) → HasLent v → (call : DeviceCall) (outcome : CallOutcome)
    → view_behind v (step_of_call call outcome) 0 none
    ≡ hand_view (writer_behind ((v.opening).setup).seg_size call outcome (writer_in v))
    (lent_in (v.writing).hold).staged v
behind_call v has (creates segment) outcome =
    ap (λ (h : Hold). view_behind (with_hold h v) (create segment outcome) 0 none) (hold_is v has)
behind_call v has (writes segment page upto bytes) outcome =
    ap (λ (h : Hold). view_behind (with_hold h v) (write segment page upto bytes outcome) 0 none)
    (hold_is v has)
behind_call v has (syncs segment) outcome =
    ap (λ (h : Hold). view_behind (with_hold h v) (sync segment outcome) 0 none) (hold_is v has)

-- the call itself
abbrev pub call_of : ℕ → DeviceCall → Call
call_of size (creates segment) = create_call size segment
call_of size (writes segment page upto bytes) = write_call size segment page bytes
call_of size (syncs segment) = sync_call size segment

counts_done : (size : ℕ) (call : DeviceCall) (w : Plain)
    → HasCalled (call_of size call ∷ []) w (writer_behind size call Done w)
counts_done size (creates segment) w =
    record { made = one_more_is (create_call size segment) w.calls; moment = omega arith }
counts_done size (writes segment page upto bytes) w =
    record { made = one_more_is (write_call size segment page bytes) w.calls; moment = omega arith }
counts_done size (syncs segment) w =
    record { made = one_more_is (sync_call size segment) w.calls; moment = omega arith }

counts_failed : (size faults : ℕ) (counted : Option Bool) (call : DeviceCall) (w : Plain)
    → HasBrokenOff (call_of size call ∷ []) w (writer_behind size call (Failed faults counted) w)
counts_failed size faults none (creates segment) w =
    not_counted (create_call size segment) w _ refl refl
counts_failed size faults (some made) (creates segment) w =
    counted_failed made (create_call size segment) w _ refl refl
counts_failed size faults none (writes segment page upto bytes) w =
    not_counted (write_call size segment page bytes) w _ refl refl
counts_failed size faults (some made) (writes segment page upto bytes) w =
    counted_failed made (write_call size segment page bytes) w _ refl refl
counts_failed size faults none (syncs segment) w =
    not_counted (sync_call size segment) w _ refl refl
counts_failed size faults (some made) (syncs segment) w =
    counted_failed made (sync_call size segment) w _ refl refl

faults_kept : (size faults : ℕ) (counted : Option Bool) (call : DeviceCall) (w : Plain)
    → (writer_behind size call (Failed faults counted) w).fault ≡ some faults
faults_kept size faults none (creates segment) w = refl
faults_kept size faults (some made) (creates segment) w = refl
faults_kept size faults none (writes segment page upto bytes) w = refl
faults_kept size faults (some made) (writes segment page upto bytes) w = refl
faults_kept size faults none (syncs segment) w = refl
faults_kept size faults (some made) (syncs segment) w = refl

-- what a call that succeeds leaves of the writer goes on as its kind says
module _ (v w : View) (has : HasLent v) (call : DeviceCall) (outcome : CallOutcome)
    (view_is : w ≡ view_behind v (step_of_call call outcome) 0 none)
    (Stands : Plain → Plain → Type 0)
    (done : Stands (writer_in v)
    (writer_behind ((v.opening).setup).seg_size call Done (writer_in v))) where
  abbrev left : CallOutcome → Plain
  left o = writer_behind ((v.opening).setup).seg_size call o (writer_in v)

  pub whole : w ≡ hand_view (left outcome) (lent_in (v.writing).hold).staged v
  whole = view_is ∙ behind_call v has call outcome

  writer_is : writer_in w ≡ left outcome
  writer_is = ap (λ (x : View). writer_in x) whole

  pub told_so : (result : Result Unit DiskFault) → EndsAs result outcome
      → MatchResult result (λ _. Stands (writer_in v) (writer_in w))
      (λ e. (writer_in w).fault ≡ some e.faults)
  told_so (Ok _) is = subst (λ (x : Plain). Stands (writer_in v) x)
      (sym (writer_is ∙ ap (λ (o : CallOutcome). left o) is)) done
  told_so (Err e) failed = ap (λ (x : Plain). x.fault)
      (writer_is ∙ ap (λ (o : CallOutcome). left o) failed.1)
      ∙ faults_kept ((v.opening).setup).seg_size e.faults failed.0 call (writer_in v)

  -- and it tells the call
  pub called_so : (result : Result Unit DiskFault) → EndsAs result outcome
      → EndCalls (call_of ((v.opening).setup).seg_size call ∷ []) result (writer_in v)
      (writer_in w)
  called_so (Ok _) is = subst
      (λ (x : Plain). HasCalled (call_of ((v.opening).setup).seg_size call ∷ [])
      (writer_in v) x)
      (sym (writer_is ∙ ap (λ (o : CallOutcome). left o) is))
      (counts_done ((v.opening).setup).seg_size call (writer_in v))
  called_so (Err e) failed = subst
      (λ (x : Plain). HasBrokenOff (call_of ((v.opening).setup).seg_size call ∷ [])
      (writer_in v) x) (sym (writer_is ∙ ap (λ (o : CallOutcome). left o) failed.1))
      (counts_failed ((v.opening).setup).seg_size e.faults failed.0 call (writer_in v))

-- ---- the writer stays in hand

module _ {D : Type 0} (tape : D → Rattle.std.specs.Prelude.Option Tape) (moment faults : D → ℕ)
  where
    pub has_lent : (p : SeatedPass D) → HasHand tape moment faults p → HasLent (view_of p)
    has_lent p hand = (hand.0, (hand.2).hold)

    -- what is in hand at a table is so at the same one
    pub hand_there : (old new : SeatedPass D) → new.table ≡ old.table
        → ((l : Lent) × (w : LogWriter D) × HasInHand tape moment faults (began_of tape old)
        (opening_of old) (new.seat).me l w)
        → HasHand tape moment faults new
    hand_there old new same hand = (
      hand.0,
      hand.1,
      subst (λ t. HasInHand tape moment faults (began_of_table tape t.now)
          (opening_of_table t.now) (new.seat).me hand.0 hand.1) (sym same) hand.2,
    )

    pub same_hand : (old new : SeatedPass D) → IsSame old new
        → HasHand tape moment faults old → HasHand tape moment faults new
    same_hand old new same hand = hand_there old new same.same_table (
      hand.0,
      hand.1,
      subst (λ (m : View × List (ℕ × LogWriter D)). HasInHand tape moment faults
          (began_of tape old) (opening_of old) m hand.0 hand.1)
          (sym (me_same old new same)) hand.2,
    )

    pub same_ready : (old new : SeatedPass D) → IsSame old new
        → IsReady tape moment faults old → IsReady tape moment faults new
    same_ready old new same ready = record {
      hand = same_hand old new same ready.hand;
      up = ap (λ (m : View × List (ℕ × LogWriter D)). (writer_in m.0).fault)
          (me_same old new same) ∙ ready.up;
    }

    -- where only what is loaded has changed
    pub keeps : (old new : SeatedPass D) → HasHand tape moment faults old
        → (staged : List (ℕ × ℕ))
        → HasView (hand_view (writer_in (view_of old)) staged (view_of old)) old new
        → HasHand tape moment faults new
    keeps old new has staged view = hand_there old new view.same_table (
      record has.0 { staged = staged },
      has.1,
      record {
        hold = ap (λ (m : View × List (ℕ × LogWriter D)). ((m.0).writing).hold) view.me_is
            ∙ ap (λ (h : Hold). Out (record (lent_in h) { staged = staged })) (has.2).hold;
        slot = ap (λ (m : View × List (ℕ × LogWriter D)). m.1) view.me_is ∙ (has.2).slot;
        kept = (has.2).kept;
        of_log = (has.2).of_log;
      },
    )

    -- a word was loaded
    pub loads_word : (old new : SeatedPass D) → HasHand tape moment faults old → (k met : ℕ)
        → Steps (load_ring_word k) met old new
        → Loads tape moment faults ((k, met) ∷ (lent_in ((view_of old).writing).hold).staged) old
        new
    loads_word old new hand k met steps =
        let view : HasView (hand_view (writer_in (view_of old))
        ((k, met) ∷ (lent_in ((view_of old).writing).hold).staged) (view_of old)) old new =
        record {
          same_table = steps.same_table;
          me_is = steps.me_is ∙ ap (λ (v : View). (v, hand_of old))
              (behind_load (view_of old) (has_lent old hand) k met);
        } in
        record {
          view = view;
          hand = keeps old new hand _ view;
        }

    pub loaded : (a b : SeatedPass D) (staged : List (ℕ × ℕ))
        → Loads tape moment faults staged a b → ChangesHand a b
    loaded a b staged loads = record {
      same_table = (loads.view).same_table;
      writer = writer_in (view_of a);
      staged = staged;
      view_is = ap (λ (m : View × List (ℕ × LogWriter D)). m.0) (loads.view).me_is;
    }

    -- ---- calls behind one another

    -- a call ended: what it leaves where it succeeds is what its kind says
    pub ended : (old new : SeatedPass D) → HasHand tape moment faults old → (call : DeviceCall)
        (result : Result Unit DiskFault) (Stands : Plain → Plain → Type 0)
        → Stands (writer_in (view_of old))
        (writer_behind (((view_of old).opening).setup).seg_size call Done
        (writer_in (view_of old)))
        → DeviceCallEnds tape moment faults (began_of tape old) (opening_of old) call result
        (view_of old) (new.seat).me
        → new.table ≡ old.table
        → CallsEnd tape moment faults Stands
        (call_of (setup_of old).seg_size call ∷ []) result old new
    ended old new hand call result Stands done ends same =
        let has = has_lent old hand in
        record {
          changes = record {
            same_table = same;
            writer = writer_behind (((view_of old).opening).setup).seg_size call ends.outcome
                (writer_in (view_of old));
            staged = (lent_in ((view_of old).writing).hold).staged;
            view_is = whole (view_of old) (view_of new) has call ends.outcome ends.view_is
                Stands done;
          };
          told = told_so (view_of old) (view_of new) has call ends.outcome ends.view_is Stands
              done result ends.ends;
          called = subst (λ (o : Opening). EndCalls (call_of (o.setup).seg_size call ∷ [])
              result (writer_in (view_of old)) (writer_in (view_of new))) (old.seated).own
              (called_so (view_of old) (view_of new) has call ends.outcome ends.view_is Stands
              done result ends.ends);
          hand = hand_there old new same (ends.lent, ends.writer, ends.in_hand);
        }

    -- a call failed behind others, and more were to come
    pub failed_behind : (Q P : Plain → Plain → Type 0) (calls all : List Call)
        (a b c : SeatedPass D) (e : DiskFault) → ChangesHand a b
        → CallsEnd tape moment faults Q calls (Err e) b c
        → HasBrokenOff all (writer_in (view_of a)) (writer_in (view_of c))
        → CallsEnd tape moment faults P all (Err e) a c
    failed_behind Q P calls all a b c e before ends broken = record {
      changes = further a b c before ends.changes;
      told = ends.told;
      called = broken;
      hand = ends.hand;
    }

    -- the last one does what is asked of all of them
    pub behind_others : (Q P : Plain → Plain → Type 0) (first calls : List Call)
        (result : Result Unit DiskFault) (a b c : SeatedPass D) → ChangesHand a b
        → HasCalled first (writer_in (view_of a)) (writer_in (view_of b))
        → (Q (writer_in (view_of b)) (writer_in (view_of c))
        → P (writer_in (view_of a)) (writer_in (view_of c)))
        → CallsEnd tape moment faults Q calls result b c
        → CallsEnd tape moment faults P (first ++ calls) result a c
    behind_others Q P first calls result a b c before called law ends = record {
      changes = further a b c before ends.changes;
      told = by_result result ends.told;
      called = ended_on first calls (writer_in (view_of a)) (writer_in (view_of b))
          (writer_in (view_of c)) result called ends.called;
      hand = ends.hand;
    }
      where
        by_result : (r : Result Unit DiskFault)
            → MatchResult r (λ _. Q (writer_in (view_of b)) (writer_in (view_of c)))
            (λ e. (writer_in (view_of c)).fault ≡ some e.faults)
            → MatchResult r (λ _. P (writer_in (view_of a)) (writer_in (view_of c)))
            (λ e. (writer_in (view_of c)).fault ≡ some e.faults)
        by_result (Ok _) told = law told
        by_result (Err e) told = told

    -- nothing was called
    pub stays : (old new : SeatedPass D) → IsSame old new
        → HasHand tape moment faults old → (Q : Plain → Plain → Type 0)
        → Q (writer_in (view_of old)) (writer_in (view_of old)) → (calls : List Call) → calls ≡ []
        → CallsEnd tape moment faults Q calls (Ok tt) old new
    stays old new same hand Q so calls empty = record {
      changes = unchanged old new same (has_lent old hand);
      told = subst (λ (w : Plain). Q (writer_in (view_of old)) w)
          (sym (same_in_hand old new same)) so;
      called = subst (λ (w : Plain). HasCalled calls (writer_in (view_of old)) w)
          (sym (same_in_hand old new same))
          (subst (λ (l : List Call). HasCalled l (writer_in (view_of old))
          (writer_in (view_of old))) (sym empty) (called_none (writer_in (view_of old))));
      hand = same_hand old new same hand;
    }

    -- of a pass that is still the same: these calls are those asked for
    pub from_same : (old mid new : SeatedPass D) → IsSame old mid
        → HasHand tape moment faults old → (Q P : Plain → Plain → Type 0)
        → (Q (writer_in (view_of old)) (writer_in (view_of new))
        → P (writer_in (view_of old)) (writer_in (view_of new)))
        → (calls all : List Call) → calls ≡ all
        → (result : Result Unit DiskFault) → CallsEnd tape moment faults Q calls result mid new
        → CallsEnd tape moment faults P all result old new
    from_same old mid new same hand Q P law calls all are result ends =
        subst (λ (l : List Call). CallsEnd tape moment faults P l result old new) are
        (behind_others Q P [] calls result old mid new (unchanged old mid same (has_lent old hand))
        (subst (λ (w : Plain). HasCalled [] (writer_in (view_of old)) w)
        (sym (same_in_hand old mid same)) (called_none (writer_in (view_of old))))
        (λ so. law (subst (λ (w : Plain). Q w (writer_in (view_of new)))
        (same_in_hand old mid same) so)) ends)

-- ---- what comes next

-- what comes next of a writer's numbers that were read
pub next_read : (w : Plain) (now : WriterNow) (segment : ℕ) → IsReadOff w now
    → next_call now.made (maybe now.waiting) segment ≡ next_call w.made w.waiting segment
next_read w now segment read =
    ap (λ (n : ℕ). next_call n (maybe now.waiting) segment) read.made
    ∙ ap (λ (o : Option ℕ). next_call w.made o segment) read.waiting
