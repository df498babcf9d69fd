-- The calls of the device, each with every outcome.
use Rattle.std.proofs.Common.{◌≡◌, ℕ, ◌+◌, ◌*◌, ◌/◌, ◌<◌, ◌≤◌, ◌⊎◌, List, set, refl, sym, ap, subst, ◌∙◌, arith}
use Rattle.std.proofs.Math.Nat.{mul-le-mul_right}
use mathlib.Core.Option.{none, some}
use Rattle.byte_position.specs.Geometry.{pages_of}
use Rattle.byte_position.proofs.SegmentSizes.{segment_size_in_pages}
use Rattle.segment_disk.specs.Cause.{Rose}
use Rattle.segment_disk.specs.Tape.{DiskState, create_call, state_now, sync_call, write_call}
use Rattle.segment_disk.specs.Assured.{IsNowhere, TapeAssures}
use Rattle.wal_page.specs.Order.{Entry}
use Rattle.machine_state.specs.Words.{Opening}
use Rattle.machine_state.specs.Views.{HasAt, Flight, Hold, Out, Lent, Plain, Receipts, View, Writing, receipts_of, writer_of}
use Rattle.machine_state.specs.Moves.{CallOutcome, Done, Failed, after_create, after_sync, after_write}
use Rattle.machine_state.specs.Locked.{IsWriteTurn}
use Rattle.machine_state.specs.Positioned.{PositionsHold, ReadsBelow}
use Rattle.machine_state.specs.Durable.{DurabilityHolds, IsLawfulAt}
use Rattle.machine_state.specs.Sound.{IsSetup}
use Rattle.machine_state.specs.Steps.{IsNextWrite, MayStep, create, sync, view_behind, write}
use Rattle.machine_laws.proofs.DurableAssured.{stands_out}
use Rattle.machine_laws.proofs.DurableViews.{call_keeps, fault_rose, same_made, same_written}
use Rattle.machine_laws.proofs.DurableSegments.{created_in_turn, others_in_turn}
use Rattle.machine_laws.proofs.DurableCalls.{create_below, create_lawful, on_disk_created, on_disk_synced, on_disk_written, write_below, write_lawful}
use Rattle.machine_state.proofs.Tapes.{at_suited}

-- ---- all that is written lies in segments that are made, or in the next one

created_reached : (size segment : ℕ) (w : Plain) (outcome : CallOutcome) → segment ≡ w.made + 1
    → w.written ≤ w.made * size + size
    → (let n = after_create segment (create_call size segment) outcome w in
    n.written ≤ n.made * size + size)
created_reached size segment w Done next reached =
    let up : segment * size ≡ (w.made + 1) * size = ap (λ (m : ℕ). m * size) next in omega arith
created_reached size segment w (Failed faults none) next reached = reached
created_reached size segment w (Failed faults (some any)) next reached = reached

module _ (size segment page upto : ℕ) (bytes : List ℕ) (w : Plain) where
  pub written_rises : (outcome : CallOutcome) → w.written ≤ upto
      → w.written
      ≤ (after_write segment upto (write_call size segment page bytes) outcome w).written
  written_rises Done rises = rises
  written_rises (Failed faults none) rises = omega arith
  written_rises (Failed faults (some any)) rises = omega arith

  written_reached : (outcome : CallOutcome) → upto ≤ w.made * size + size
      → w.written ≤ w.made * size + size
      → (let n = after_write segment upto (write_call size segment page bytes) outcome w in
      n.written ≤ n.made * size + size)
  written_reached Done high reached = high
  written_reached (Failed faults none) high reached = reached
  written_reached (Failed faults (some any)) high reached = reached

synced_reached : (size segment : ℕ) (w : Plain) (outcome : CallOutcome)
    → w.written ≤ w.made * size + size
    → (let n = after_sync (sync_call size segment) outcome w in
    n.written ≤ n.made * size + size)
synced_reached size segment w Done reached = reached
synced_reached size segment w (Failed faults none) reached = reached
synced_reached size segment w (Failed faults (some any)) reached = reached

module _ {first : DiskState} (o : Opening) (order : List Entry) (flushed moment down : ℕ) (home : _) (writer : Plain)
    (parts : List Receipts) (h : DurabilityHolds first o order flushed moment down home writer parts)
    (id : ℕ) (v : View) (here : HasAt parts id (receipts_of v)) (opening : v.opening ≡ o)
    (setup : IsSetup o.setup) (turn : ℕ) (writers : List (ℕ × Hold))
    (has : IsWriteTurn turn home writer writers) (at : HasAt writers id (writer_of v))
    (written : ℕ) (flights : List Flight) (writings : List Writing)
    (positions : PositionsHold first o order written flushed down home writer flights writings)
  where
    abbrev size : ℕ
    size = (o.setup).seg_size

    held : (l : Lent) → v.writing.hold ≡ Out l → (home ≡ none) × (l.writer ≡ writer)
    held l is = stands_out turn has.holder home writer id v.reserving.number v.writing.hold l is
        (has.each id (writer_of v) at)

    low : flushed ≤ writer.written
    low = omega (arith, positions.flushed_low, positions.written_low)

    since : o.moment ≤ writer.moment
    since = omega (arith, h.begun, h.moment_low)

    pub create_keeps : (segment : ℕ) (outcome : CallOutcome) (met : ℕ)
        → MayStep v (create segment outcome)
        → DurabilityHolds first o order flushed moment down home
        (after_create segment (create_call (o.setup).seg_size segment) outcome writer)
        (set parts id (receipts_of (view_behind v (create segment outcome) met home)))
    create_keeps segment outcome met may =
        let l = may.0.0 in
        let holds = held l may.0.1 in
        let call = create_call size segment in
        let next : segment ≡ writer.made + 1 =
        (may.0.2).next ∙ ap (λ (p : Plain). p.made + 1) holds.1 in
        let up : writer.fault ≡ none = ap (λ (p : Plain). p.fault) (sym holds.1) ∙ (may.0.2).up in
        let behind : segment * size ≤ writer.written = subst
        (λ (x : Opening × Plain). segment * ((x.0).setup).seg_size ≤ (x.1).written)
        (λ j. (opening j, holds.1 j)) (may.0.2).behind in
        call_keeps o order flushed moment down home writer parts h low call outcome
        (after_create segment call outcome writer)
        (record {
          calls = refl;
          moment = refl;
          rises = omega (arith, same_written call outcome writer);
        })
        (create_lawful o setup.size order segment)
        (λ a under. create_below o setup.size order segment writer.made a next
        (omega (arith, h.reached)))
        (created_reached size segment writer outcome next h.reached)
        (created_in_turn o writer up since h.counted h.made segment next behind outcome)
        (λ t _ _ d.
        on_disk_created o setup.size order segment writer next h.reached outcome t d)
        up holds.0
        (λ f is. subst (λ (q : Opening). Rose q.faults f) opening
        (fault_rose v call outcome writer up may.1 f is))
        (after_create segment (create_call ((v.opening).setup).seg_size segment) outcome)
        id v l here may.0.1

    pub write_keeps : (segment page upto : ℕ) (bytes : List ℕ) (outcome : CallOutcome) (met : ℕ)
        → MayStep v (write segment page upto bytes outcome)
        → DurabilityHolds first o order flushed moment down home
        (after_write segment upto (write_call (o.setup).seg_size segment page bytes) outcome
        writer)
        (set parts id (receipts_of (view_behind v (write segment page upto bytes outcome) met home)))
    write_keeps segment page upto bytes outcome met may =
        let l = may.0.0 in
        let holds = held l may.0.1 in
        let call = write_call size segment page bytes in
        let step : IsNextWrite o.setup segment page upto bytes l =
        subst (λ (q : Opening). IsNextWrite q.setup segment page upto bytes l) opening may.0.2 in
        let staged = ((h.views id (receipts_of v) here).in_hand l may.0.1).staged in
        let own : (l.writer).written ≡ writer.written = ap (λ (p : Plain). p.written) holds.1 in
        let up : writer.fault ≡ none = ap (λ (p : Plain). p.fault) (sym holds.1) ∙ step.up in
        let page_is : segment * pages_of size + page ≡ writer.written / 8192 =
        step.page_is ∙ ap (λ (n : ℕ). n / 8192) own in
        let alone = subst (λ (p : Plain). (p.waiting ≡ none) ⊎ (p.waiting ≡ some segment)) holds.1
        step.alone in
        let rises : writer.written ≤ upto = omega (arith, step.rises, own) in
        let start : writer.written / 8192 * 8192 < upto = subst (λ (n : ℕ). n / 8192 * 8192 < upto)
        own step.behind_start in
        let within : upto ≤ (writer.written / 8192 + 1) * 8192 =
        subst (λ (n : ℕ). upto ≤ (n / 8192 + 1) * 8192) own step.within in
        let whole = segment_size_in_pages size setup.size in
        let product : segment * size ≡ segment * (8192 * pages_of size) =
        ap (λ (m : ℕ). segment * m) whole.0 in
        let made : segment ≤ writer.made =
        omega (arith, step.is_made, ap (λ (p : Plain). p.made) holds.1) in
        let scaled : segment * size ≤ writer.made * size = mul-le-mul_right size made in
        let high : upto ≤ writer.made * size + size =
        omega (arith, within, page_is, step.on_segment, whole.0) in
        call_keeps o order flushed moment down home writer parts h low call outcome
        (after_write segment upto call outcome writer)
        (record {
          calls = refl;
          moment = refl;
          rises = written_rises size segment page upto bytes writer outcome rises;
        })
        (write_lawful o setup.size order segment page upto bytes l step staged)
        (λ a under. write_below o setup.size order segment page upto bytes l step staged a
        (omega (arith, rises, step.copied)))
        (written_reached size segment page upto bytes writer outcome high h.reached)
        (others_in_turn o writer up since h.counted h.made call
        (after_write segment upto call outcome writer) (same_made call outcome writer)
        (written_rises size segment page upto bytes writer outcome rises) outcome refl tt (λ _. tt))
        (λ t _ _ d. on_disk_written o setup.size order segment page upto bytes writer page_is
        step.on_segment alone rises start within outcome t d)
        up holds.0
        (λ f is. subst (λ (q : Opening). Rose q.faults f) opening
        (fault_rose v call outcome writer up may.1 f is))
        (after_write segment upto (write_call ((v.opening).setup).seg_size segment page bytes)
        outcome)
        id v l here may.0.1

    pub sync_keeps : (segment : ℕ) (outcome : CallOutcome) (met : ℕ) → MayStep v (sync segment outcome)
        → DurabilityHolds first o order flushed moment down home
        (after_sync (sync_call (o.setup).seg_size segment) outcome writer)
        (set parts id (receipts_of (view_behind v (sync segment outcome) met home)))
    sync_keeps segment outcome met may =
        let l = may.0.0 in
        let holds = held l may.0.1 in
        let call = sync_call size segment in
        let up : writer.fault ≡ none = ap (λ (p : Plain). p.fault) (sym holds.1) ∙ (may.0.2).up in
        let waits : writer.waiting ≡ some segment =
        ap (λ (p : Plain). p.waiting) (sym holds.1) ∙ (may.0.2).waits in
        call_keeps o order flushed moment down home writer parts h low call outcome
        (after_sync call outcome writer)
        (record {
          calls = refl;
          moment = refl;
          rises = omega (arith, same_written call outcome writer);
        })
        tt (λ a under. tt)
        (synced_reached size segment writer outcome h.reached)
        (others_in_turn o writer up since h.counted h.made call (after_sync call outcome writer)
        (same_made call outcome writer) (omega (arith, same_written call outcome writer)) outcome
        refl tt (λ _. tt))
        (λ t is suited d. on_disk_synced o setup.size order segment writer waits h.reached t d
        (at_suited first o writer (TapeAssures size IsNowhere (IsLawfulAt o order) o.moment) t is
        suited h.lawful).now
        (at_suited first o writer (λ t. ReadsBelow o order writer.written (state_now t)) t is
        suited positions.reads) outcome)
        up holds.0
        (λ f is. subst (λ (q : Opening). Rose q.faults f) opening
        (fault_rose v call outcome writer up may.1 f is))
        (after_sync (sync_call ((v.opening).setup).seg_size segment) outcome)
        id v l here may.0.1
