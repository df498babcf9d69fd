-- At the calls of the device: the step that the order names may be made, whether the call fails or
-- not, and the view behind it stands at the next place.
use Rattle.std.proofs.Common.{◌≡◌, inl, inr, ⊎_elim, ℕ, suc, ◌+◌, ◌*◌, ◌/◌, ◌%◌, ◌<◌, ◌≤◌, Bool, true, false, cond, eqb, min, slice_index, refl, sym, ap, ◌∙◌, subst, arith}
use Rattle.std.proofs.lemmas.Bool.{eqb-false}
use Rattle.std.proofs.Math.Nat.{div-add-mod, le-min, min-le_left, min-le_right, mod-lt}
use mathlib.Core.Option.{Option, some, none}
use Rattle.byte_position.specs.Geometry.{IsSegmentSize, pages_of}
use Rattle.byte_position.proofs.SegmentSizes.{segment_size_in_pages}
use Rattle.segment_disk.specs.Tape.{create_call, sync_call, write_call}
use Rattle.machine_state.specs.Words.{write_turn_number}
use Rattle.machine_state.specs.Aligned.{IsKnownAligned}
use Rattle.machine_state.specs.Views.{Lent, Out, View}
use Rattle.machine_state.specs.Moves.{CallOutcome, Done, Failed, after_create, after_write, after_sync, is_done}
use Rattle.machine_state.specs.Steps.{StepKind, MayStep, IsNextCreate, IsNextWrite, create, write, sync, word_of_step, view_behind}
use Rattle.machine_turns.specs.Doing.{Ask, Purpose, ForLine, Doing, Creates, Writes, SyncsFull, SyncsLast, StoresWritten, SetsDown, Machine}
use Rattle.machine_turns.specs.Turned.{outcome, behind_call, page_or_end, segment_or, page_staged, of_lent}
use Rattle.machine_turns.specs.Standing.{AwaitsSync, LoadsOn, WritesFor, segment_next, StandsToDo}
use Rattle.machine_turns.proofs.Poses.{Goes, StandsNext, bool_cases}
use Rattle.machine_turns.proofs.FlushPlaces.{hold_of, in_hand, of_hold, page_or_end_stands, writes_on, writes_still}
use Rattle.machine_turns.proofs.Loads.{bytes-length, bytes-words}
use Rattle.machine_turns.proofs.SegmentSteps.{next-begins, segment-still}

module _ (m : Machine) (ask : Ask) where
  abbrev fails : CallOutcome
  fails = Failed ((m.opening).faults + 1) (some false)

  by_outcome : (P : CallOutcome → Type 0) (v : View) → P fails → P Done → P (outcome m v ask)
  by_outcome P v failed done = bool_cases (λ (b : Bool). P (cond b fails Done))
      _ (λ listed. failed) (λ other. done)

  module _ (purpose : Purpose) (l : Lent) (v : View)
      (base : WritesFor (in_hand m ask l v) purpose ask (Out l))
      (told : (v.opening).faults ≡ (m.opening).faults) where
    abbrev here : View
    here = in_hand m ask l v

    abbrev size : ℕ
    size = ((v.opening).setup).seg_size

    -- behind the call, as it ended
    abbrev GoesBy : (CallOutcome → StepKind) → Doing → CallOutcome → Type 0
    GoesBy event next o =
        let e = event o in
        let met = slice_index (m.state).words (word_of_step here e) in
        let w = view_behind here e met (m.state).home in
        MayStep here e × StandsNext (behind_call here w ask met (is_done o) purpose next) ask w

    still : (d : Lent) → WritesFor (in_hand m ask d v) purpose ask (Out d)
    still d = writes_still m ask purpose l v base d

    -- a failed call's count
    rose : (v.opening).faults < (m.opening).faults + 1
    rose = omega (arith, told)

    failed_by : (d : Lent) → (d.writer).fault ≡ some ((m.opening).faults + 1)
        → StandsToDo (in_hand m ask d v) (SetsDown purpose) ask
    failed_by d is =
        let next : (m.opening).faults + 1 ≡ suc (m.opening).faults = omega arith in
        (d, still d, ((m.opening).faults, is ∙ ap (λ (n : ℕ). some n) next))

    -- a segment is made where it begins at or below what is written and some of it is asked for, and
    -- nothing waits for a sync then
    create_due : IsSegmentSize size → LoadsOn size 1024 l
        → (l.writer).made < segment_next size l.writer
        → (((l.writer).made + 1) * size ≤ (l.writer).written)
        × (((l.writer).made + 1) * size < l.known) × ((l.writer).waiting ≡ none)
    create_due valid on fresh =
        let begins = next-begins size valid (l.writer).written (l.writer).made fresh in
        let left = on.left in (
          begins,
          omega (arith, begins, left),
          ⊎_elim (λ is. is)
              (λ is. let low = is.1 in absurd (omega (arith, low, fresh))) (on.writer_up).awaits,
        )

    next_create : IsSegmentSize size → LoadsOn size 1024 l
        → (l.writer).made < segment_next size l.writer
        → IsNextCreate (v.opening).setup ((l.writer).made + 1) l
    next_create valid on fresh =
        let due = create_due valid on fresh in
        record {
          up = (on.writer_up).up;
          next = refl;
          behind = due.0;
          asked = due.1;
          alone = due.2;
        }

    creates_at : IsSegmentSize size → LoadsOn size 1024 l
        → (l.writer).made < segment_next size l.writer
        → segment_next size l.writer ≤ (l.writer).made + 1 → Goes m ask (Creates purpose) here
    creates_at valid on fresh near =
        let segment = (l.writer).made + 1 in
        let call = create_call size segment in
        let behind : CallOutcome → Lent = λ (o : CallOutcome).
        record l { writer = after_create segment call o l.writer } in
        let up = (on.writer_up).up in
        let may = next_create valid on fresh in
        by_outcome (GoesBy (create segment) (Writes purpose)) here
        (((l, refl, may), inl rose), failed_by (behind fails) refl) (
          ((l, refl, may), tt),
          (
            behind Done,
            still (behind Done),
            (
              record {
                writer_up = record {
                  up = up;
                  awaits = ⊎_elim (λ is. inl is) (λ is. let low = is.1 in inr (is.0, omega arith))
                      (on.writer_up).awaits;
                };
                left = on.left;
                loaded = on.loaded;
              },
              near,
            ),
          ),
        )

    next_write : IsSegmentSize size → l.known % 8 ≡ 0 → LoadsOn size 1024 l
        → segment_next size l.writer ≤ (l.writer).made
        → IsNextWrite (v.opening).setup (segment_next size l.writer)
        ((l.writer).written / 8192 % pages_of size)
        (min l.known ((l.writer).written / 8192 * 8192 + 8192)) (page_staged here) l
    next_write valid known on made =
        let written = (l.writer).written in
        let page = written / 8192 in
        let count : ℕ = pages_of size in
        let geometry = segment_size_in_pages size valid in
        let split = div-add-mod page count in
        let left = on.left in
        let over : written ≤ page * 8192 + 8192 = omega arith in
        let start : page * 8192 ≤ written = omega arith in
        record {
          up = (on.writer_up).up;
          page_is = omega (arith, split);
          on_segment = mod-lt page (omega (arith, geometry.1));
          is_made = made;
          alone = ⊎_elim (λ is. inl is) (λ is. inr is.0) (on.writer_up).awaits;
          rises = le-min (omega arith) over;
          behind_start = le-min (omega (arith, left, start)) (omega arith);
          within = (let low = min-le_right l.known (page * 8192 + 8192) in omega (arith, low));
          copied = min-le_left l.known (page * 8192 + 8192);
          aligned = omega (arith, known);
          whole = bytes-length here page 1024 l.staged on.loaded;
          loaded = bytes-words here page 1024 l.staged on.loaded;
        }

    writes_at : IsSegmentSize size → l.known % 8 ≡ 0 → LoadsOn size 1024 l
        → segment_next size l.writer ≤ (l.writer).made → Goes m ask (Writes purpose) here
    writes_at valid known on made =
        let written = (l.writer).written in
        let page = written / 8192 in
        let segment = segment_next size l.writer in
        let upto = min l.known (page * 8192 + 8192) in
        let call = write_call size segment (page % pages_of size) (page_staged here) in
        let behind : CallOutcome → Lent = λ (o : CallOutcome).
        record l { writer = after_write segment upto call o l.writer } in
        let may = next_write valid known on made in
        let event : CallOutcome → StepKind = λ (o : CallOutcome).
        write segment (page % pages_of size) upto (page_staged here) o in
        let met = slice_index (m.state).words write_turn_number in
        by_outcome (λ (o : CallOutcome).
        let e = event o in
        let w = view_behind here e met (m.state).home in
        MayStep here e × StandsNext (behind_call here w ask met (is_done o) purpose
        (cond (eqb (of_lent w (λ k. (k.writer).written) % size) 0)
        (SyncsFull purpose) (page_or_end here w ask met (is_done o) purpose))) ask w) here
        (((l, refl, may), inl rose), failed_by (behind fails) refl) (
          ((l, refl, may), tt),
          bool_cases
              (λ (b : Bool). StandsToDo (in_hand m ask (behind Done) v) (cond b (SyncsFull purpose)
              (page_or_end here (in_hand m ask (behind Done) v) ask met true purpose)) ask)
              (eqb (upto % size) 0)
              (λ full. (behind Done, still (behind Done), ((on.writer_up).up, (segment, refl))))
              (λ inside.
              let same = segment-still size valid page upto may.behind_start may.within
              (eqb-false _ _ inside) in
              page_or_end_stands m ask purpose (behind Done) here v met true (record {
                up = (on.writer_up).up;
                awaits = inr (
                  ap (λ (n : ℕ). some n) (sym same),
                  subst (λ (n : ℕ). n ≤ (l.writer).made)
                      (sym same) made,
                );
              }) (still (behind Done))),
        )

    next_sync : (segment : ℕ) → (l.writer).waiting ≡ some segment
        → (l.writer).waiting ≡ some (segment_or here 0 (l.writer).waiting)
    next_sync segment is = is ∙ ap (λ (x : Option ℕ). some (segment_or here 0 x)) (sym is)

    syncs_full_at : AwaitsSync l → Goes m ask (SyncsFull purpose) here
    syncs_full_at waits =
        let segment = segment_or here 0 (l.writer).waiting in
        let call = sync_call size segment in
        let behind : CallOutcome → Lent = λ (o : CallOutcome).
        record l { writer = after_sync call o l.writer } in
        let may = next_sync waits.1.0 waits.1.1 in
        let met = slice_index (m.state).words write_turn_number in
        by_outcome (λ (o : CallOutcome).
        let w = view_behind here (sync segment o) met (m.state).home in
        MayStep here (sync segment o) × StandsNext (behind_call here w ask met
        (is_done o) purpose
        (page_or_end here w ask met (is_done o) purpose)) ask w) here (
          ((l, refl, record { up = waits.0; waits = may }), inl rose),
          failed_by
              (behind fails) refl,
        ) (
          ((l, refl, record { up = waits.0; waits = may }), tt),
          page_or_end_stands m ask purpose (behind Done) here v met true
              (record { up = waits.0; awaits = inl refl }) (still (behind Done)),
        )

  syncs_last_at : (l : Lent) (v : View) → WritesFor (in_hand m ask l v) ForLine ask (Out l)
      → (v.opening).faults ≡ (m.opening).faults → AwaitsSync l
      → Goes m ask SyncsLast (in_hand m ask l v)
  syncs_last_at l v base told waits =
      let u = in_hand m ask l v in
      let segment = segment_or u 0 (l.writer).waiting in
      let call = sync_call ((v.opening).setup).seg_size segment in
      let behind : CallOutcome → Lent = λ (o : CallOutcome).
      record l { writer = after_sync call o l.writer } in
      let may = next_sync ForLine l v base told waits.1.0 waits.1.1 in
      by_outcome (GoesBy ForLine l v base told (sync segment) (StoresWritten ForLine)) u (
        ((l, refl, record { up = waits.0; waits = may }), inl (rose ForLine l v base told)),
        failed_by ForLine l v base told (behind fails) refl,
      ) (
        ((l, refl, record { up = waits.0; waits = may }), tt),
        (
          behind Done,
          still ForLine l v base told (behind Done),
          (waits.0, refl),
        ),
      )

  module _ (v : View) (told : (v.opening).faults ≡ (m.opening).faults) where
    again : (purpose : Purpose) (l : Lent) → WritesFor v purpose ask (Out l)
        → WritesFor (in_hand m ask l v) purpose ask (Out l)
    again purpose l base = writes_on purpose ask (Out l) (Out l) v (in_hand m ask l v) base
        (refl, refl, refl, refl) refl

    pub creates_goes : (purpose : Purpose) → IsSegmentSize ((v.opening).setup).seg_size
        → ((l : Lent) → (v.writing).hold ≡ Out l
        → segment_next ((v.opening).setup).seg_size l.writer ≤ (l.writer).made + 1)
        → StandsToDo v (Creates purpose) ask → Goes m ask (Creates purpose) v
    creates_goes purpose valid near stands =
        let l = stands.0 in
        let is = hold_of purpose ask (Out l) v stands.1 in
        of_hold (Goes m ask (Creates purpose)) (Out l) v is
        (creates_at purpose l v (again purpose l stands.1) told valid stands.2.0 stands.2.1
        (near l is))

    pub writes_goes : (purpose : Purpose) → IsSegmentSize ((v.opening).setup).seg_size
        → IsKnownAligned (v.writing).hold → StandsToDo v (Writes purpose) ask → Goes m ask (Writes purpose) v
    writes_goes purpose valid known stands =
        let l = stands.0 in
        let is = hold_of purpose ask (Out l) v stands.1 in
        of_hold (Goes m ask (Writes purpose)) (Out l) v is
        (writes_at purpose l v (again purpose l stands.1) told valid (subst IsKnownAligned is known)
        stands.2.0 stands.2.1)

    pub syncs_full_goes : (purpose : Purpose) → StandsToDo v (SyncsFull purpose) ask
        → Goes m ask (SyncsFull purpose) v
    syncs_full_goes purpose stands =
        let l = stands.0 in
        of_hold (Goes m ask (SyncsFull purpose)) (Out l) v (hold_of purpose ask (Out l) v stands.1)
        (syncs_full_at purpose l v (again purpose l stands.1) told stands.2)

    pub syncs_last_goes : StandsToDo v SyncsLast ask → Goes m ask SyncsLast v
    syncs_last_goes stands =
        let l = stands.0 in
        of_hold (Goes m ask SyncsLast) (Out l) v (hold_of ForLine ask (Out l) v stands.1)
        (syncs_last_at l v (again ForLine l stands.1) told stands.2)
