-- At the calls of the device a turn on plain data follows the machine's, whether the call fails or
-- not.
use Rattle.std.proofs.Math.Dec.{ltb}
use Rattle.std.proofs.Common.{◌≡◌, ℕ, ◌+◌, ◌-◌, ◌*◌, ◌/◌, ◌%◌, Bool, true, false, not, cond, eqb, List, Option, min, refl, sym, ap, ◌∙◌}
use mathlib.Core.Option.{none, some}
use Rattle.byte_position.specs.Geometry.{pages_of}
use Rattle.segment_disk.specs.Failing.{is_listed}
use Rattle.segment_disk.specs.Tape.{sync_call, write_call}
use Rattle.machine_state.specs.Words.{write_turn_number}
use Rattle.machine_state.specs.Views.{Lent, Out, Plain, View}
use Rattle.machine_state.specs.Moves.{CallOutcome, Done, Failed, after_sync, after_write, is_done, with_hold}
use Rattle.machine_state.proofs.WordLists.{word_again}
use Rattle.machine_turns.specs.Doing.{Ask, Doing, Machine, ForLine, SetsDown, StoresWritten, SyncsFull, Writes}
use Rattle.machine_turns.specs.Turned.{behind_call, goes_on, page_staged, page_or_end as machine_page_or_end, segment_or}
use Rattle.machine_turns.proofs.FlushPlaces.{hold_of}
use Rattle.machine_turns.proofs.Poses.{bool_cases}
use Rattle.machine_turns.specs.declared.doing.PlainDoing.{PlainDoing}
use Rattle.machine_turns.specs.declared.doing.PlainDoing.TheVariants as doings
use Rattle.machine_turns.specs.declared.doing.PlainNext.TheVariants as nexts
use Rattle.machine_turns.specs.declared.doing.PlainPurpose.{PlainPurpose}
use Rattle.machine_turns.specs.declared.doing.PlainPurpose.TheVariants as purposes
use Rattle.machine_turns.specs.declared.event.Event.TheVariants as events
use Rattle.machine_turns.specs.declared.script.PlainLine.{PlainLine}
use Rattle.machine_turns.specs.Writer.{WriterState, page_at, segment_at, succeeds}
use Rattle.machine_turns.specs.Writing.{is_some_waiting, page_or_end, segment_waiting}
use Rattle.wal_core.specs.Following.{Follows, StandsPlain, plain_step}
use Rattle.wal_core.specs.PlainData.{doing_of, next_of_plain, purpose_of}
use Rattle.wal_core.proofs.WritingFollows.{by_hand, lent_as, page_or_end_alike, writer_as}

-- the segment that waits for a sync
pub segment_alike : (v : View) (waiting : mathlib.Core.Option.Option ℕ)
    → segment_waiting waiting ≡ segment_or v 0 waiting
segment_alike v none = refl
segment_alike v (some segment) = refl

-- what comes behind a page rests on how far the writer is, and on what waits for a sync
page_or_end_by : (purpose : PlainPurpose) (known : ℕ) (a b : WriterState)
    → (a.plain).written ≡ (b.plain).written → (a.plain).waiting ≡ (b.plain).waiting
    → page_or_end purpose known a ≡ page_or_end purpose known b
page_or_end_by purposes.Line known a b written waiting = λ i.
    cond (ltb (written i) known) (doings.LoadsPage purposes.Line 0)
    (cond (is_some_waiting (waiting i)) doings.SyncsLast (doings.StoresWritten purposes.Line))
page_or_end_by (purposes.Page lock end) known a b written waiting = λ i.
    cond (ltb (written i) known) (doings.LoadsPage (purposes.Page lock end) 0)
    (doings.StoresWritten (purposes.Page lock end))

module _ (m : Machine) (number : ℕ) (v : View) (ask : Ask) (line : PlainLine) (copied : Option PlainLine)
    (w : WriterState) where
  abbrev words : List ℕ
  words = (m.state).words

  abbrev Stands : PlainDoing → Type 0
  Stands d = StandsPlain m number v ask line copied w d

  abbrev FollowsTo : PlainDoing → Type 0
  FollowsTo d = Follows m v ask d (plain_step m v line copied w d).left

  -- the writer of plain data, and the view with it in hand
  abbrev writer : WriterState
  writer = writer_as m number v ask line copied w

  abbrev with_it : Lent → View
  with_it l = with_hold (Out (lent_as w.plain l)) v

  -- the call fails where it is listed
  abbrev listed : Bool
  listed = is_listed m.failing ((w.plain).moment + 1)

  abbrev outcome_by : Bool → CallOutcome
  outcome_by b = cond b (Failed ((m.opening).faults + 1) (some false)) Done

  done_alike : (b : Bool) → not b ≡ is_done (outcome_by b)
  done_alike true = refl
  done_alike false = refl

  sync_alike : (l : Lent)
      → events.Sync (segment_waiting (w.plain).waiting) (succeeds writer)
      ≡ events.Sync (segment_or (with_it l) 0 (w.plain).waiting) (is_done (outcome_by listed))
  sync_alike l = λ i.
      events.Sync (segment_alike (with_it l) (w.plain).waiting i) (done_alike listed i)

  pub creates_follow : (purpose : PlainPurpose) → Stands (doings.Creates purpose)
      → FollowsTo (doings.Creates purpose)
  creates_follow purpose s =
      let l = (s.stands).0 in
      by_hand m number v ask line copied w (doings.Creates purpose) s l
      (hold_of (purpose_of purpose) ask (Out l) v (s.stands).1) (record {
        event = ap (λ (b : Bool). events.Create ((w.plain).made + 1) b) (done_alike listed);
        next = bool_cases
            (λ (b : Bool). next_of_plain (nexts.GoesOn (cond (not b) (doings.Writes purpose)
            (doings.SetsDown purpose)))
            ≡ cond (is_done (outcome_by b)) (goes_on (Writes (purpose_of purpose)))
            (goes_on (SetsDown (purpose_of purpose))))
            listed (λ fails. refl) (λ passes. refl);
        words = sym (word_again words write_turn_number);
        view = refl;
      })

  pub writes_follow : (purpose : PlainPurpose) → Stands (doings.Writes purpose)
      → FollowsTo (doings.Writes purpose)
  writes_follow purpose s =
      let l = (s.stands).0 in
      by_hand m number v ask line copied w (doings.Writes purpose) s l
      (hold_of (purpose_of purpose) ask (Out l) v (s.stands).1) (record {
        event = ap (λ (b : Bool). events.Write (segment_at writer)
            (page_at writer % pages_of ((v.opening).setup).seg_size)
            (min l.known ((w.plain).written / 8192 * 8192 + 8192)) b) (done_alike listed);
        next = bool_cases
            (λ (b : Bool). next_of_plain (nexts.GoesOn (cond (not b)
            (cond (eqb (upto % size) 0) (doings.SyncsFull purpose)
            (page_or_end purpose l.known (written_by (cond b (Failed 1 (some false)) Done))))
            (doings.SetsDown purpose)))
            ≡ behind_call u (view_by b) ask 0 (is_done (outcome_by b)) (purpose_of purpose)
            (cond (eqb (cond (is_done (outcome_by b)) upto (w.plain).written % size) 0)
            (SyncsFull (purpose_of purpose))
            (machine_page_or_end u (view_by b) ask 0 (is_done (outcome_by b))
            (purpose_of purpose))))
            listed (λ fails. refl)
            (λ passes. bool_cases
            (λ (b : Bool). next_of_plain (nexts.GoesOn (cond b (doings.SyncsFull purpose)
            (page_or_end purpose l.known (written_by Done))))
            ≡ goes_on (cond b (SyncsFull (purpose_of purpose))
            (machine_page_or_end u (view_by false) ask 0 true (purpose_of purpose))))
            (eqb (upto % size) 0) (λ full. refl)
            (λ inside. ap (λ (d : PlainDoing). goes_on (doing_of d))
            (page_or_end_by purpose l.known (written_by Done)
            (record writer { plain = machine_writer false }) refl refl)
            ∙ ap (λ (d : Doing). goes_on d)
            (page_or_end_alike purpose (record writer { plain = machine_writer false }) l u v ask 0
            true)));
        words = sym (word_again words write_turn_number);
        view = refl;
      })
    where
      l : Lent
      l = (s.stands).0

      u : View
      u = with_it l

      size : ℕ
      size = ((v.opening).setup).seg_size

      upto : ℕ
      upto = min l.known ((w.plain).written / 8192 * 8192 + 8192)

      on_segment : ℕ
      on_segment = (w.plain).written / 8192 % pages_of size

      written_by : CallOutcome → WriterState
      written_by o = record writer {
        plain = after_write (segment_at writer) upto
            (write_call size (segment_at writer) on_segment w.page) o w.plain;
        room = w.room - 1;
      }

      machine_writer : Bool → Plain
      machine_writer b = after_write (segment_at writer) upto
          (write_call size (segment_at writer) on_segment (page_staged u)) (outcome_by b) w.plain

      view_by : Bool → View
      view_by b = with_hold (Out (lent_as (machine_writer b) l)) v

  pub syncs_full_follow : (purpose : PlainPurpose) → Stands (doings.SyncsFull purpose)
      → FollowsTo (doings.SyncsFull purpose)
  syncs_full_follow purpose s =
      let l = (s.stands).0 in
      by_hand m number v ask line copied w (doings.SyncsFull purpose) s l
      (hold_of (purpose_of purpose) ask (Out l) v (s.stands).1) (record {
        event = sync_alike l;
        next = bool_cases
            (λ (b : Bool). next_of_plain (nexts.GoesOn (cond (not b)
            (page_or_end purpose l.known (synced_by (cond b (Failed 1 (some false)) Done)))
            (doings.SetsDown purpose)))
            ≡ behind_call u (view_by b) ask 0 (is_done (outcome_by b)) (purpose_of purpose)
            (machine_page_or_end u (view_by b) ask 0 (is_done (outcome_by b))
            (purpose_of purpose)))
            listed (λ fails. refl)
            (λ passes. ap (λ (d : PlainDoing). goes_on (doing_of d))
            (page_or_end_by purpose l.known (synced_by Done)
            (record writer { plain = machine_writer false }) refl refl)
            ∙ ap (λ (d : Doing). goes_on d)
            (page_or_end_alike purpose (record writer { plain = machine_writer false }) l u v ask 0
            true));
        words = sym (word_again words write_turn_number);
        view = refl;
      })
    where
      l : Lent
      l = (s.stands).0

      u : View
      u = with_it l

      size : ℕ
      size = ((v.opening).setup).seg_size

      synced_by : CallOutcome → WriterState
      synced_by o = record writer {
        plain = after_sync (sync_call size (segment_waiting (w.plain).waiting)) o w.plain;
        room = w.room - 1;
      }

      machine_writer : Bool → Plain
      machine_writer b =
          after_sync (sync_call size (segment_or u 0 (w.plain).waiting)) (outcome_by b) w.plain

      view_by : Bool → View
      view_by b = with_hold (Out (lent_as (machine_writer b) l)) v

  pub syncs_last_follow : Stands doings.SyncsLast → FollowsTo doings.SyncsLast
  syncs_last_follow s =
      let l = (s.stands).0 in
      by_hand m number v ask line copied w doings.SyncsLast s l
      (hold_of ForLine ask (Out l) v (s.stands).1) (record {
        event = sync_alike l;
        next = bool_cases
            (λ (b : Bool). next_of_plain (nexts.GoesOn (cond (not b)
            (doings.StoresWritten purposes.Line) (doings.SetsDown purposes.Line)))
            ≡ cond (is_done (outcome_by b)) (goes_on (StoresWritten ForLine))
            (goes_on (SetsDown ForLine)))
            listed (λ fails. refl) (λ passes. refl);
        words = sym (word_again words write_turn_number);
        view = refl;
      })
