-- The written and flushed positions through each call of the device, however it ended.
use Rattle.std.proofs.Common.{◌≡◌, ℕ, ◌+◌, ◌*◌, ◌/◌, ◌<◌, ◌≤◌, inl, inr, Bool, true, false, List, Some, set, refl, sym, ap, ◌∙◌, subst, arith, if◌then◌else◌}
use Rattle.std.proofs.lemmas.Bool.{cases_lt}
use mathlib.Core.Option.{none, some}
use Rattle.byte_position.specs.Geometry.{pages_of}
use Rattle.byte_position.proofs.SegmentSizes.{segment_size_in_pages}
use Rattle.segment_disk.specs.declared.disk.Call.{Call}
use Rattle.segment_disk.specs.Tape.{Tape, create_call, state_now, sync_call, write_call}
use Rattle.machine_state.specs.declared.setup.Setup.{Setup}
use Rattle.machine_state.specs.Words.{end_form, order_end}
use Rattle.machine_state.specs.Views.{HasAt, Plain, Lent, Hold, Out, Receipts, View, flight_of, receipts_of}
use Rattle.machine_state.specs.Suited.{tape_from, BeganSuited, IfSuited}
use Rattle.machine_state.proofs.Tapes.{at_suited, counted_on, began_behind, on_tape, tape_behind}
use Rattle.machine_state.specs.Positioned.{IsCopiedBelow, ReadsBelow}
use Rattle.machine_state.specs.Durable.{DurabilityHolds, IsOnDisk}
use Rattle.machine_state.specs.Moves.{CallOutcome, Done, Failed, is_done, with_hold, with_outcome, after_create, after_write, after_sync}
use Rattle.machine_state.specs.Steps.{MayStep, IsNextWrite, view_behind, create, write, sync}
use Rattle.machine_laws.specs.PositionParts.{Positions, HasPositions, HoldAmong, HoldBehind}
use Rattle.machine_laws.proofs.Copies.{IsCopiedBelow-lower}
use Rattle.machine_laws.proofs.DiskCalls.{create_reads, sync_reads, write_reads, loaded_words}
use Rattle.machine_laws.proofs.PositionSteps.{calls}
use Rattle.machine_laws.proofs.PositionKept.{stands}

-- a call changes of the writer no position by itself
same_written : (call : Call) (outcome : CallOutcome) (w : Plain)
    → (with_outcome call outcome w).written ≡ w.written
same_written call Done w = refl
same_written call (Failed faults none) w = refl
same_written call (Failed faults (some made)) w = refl

between : (b : Bool) (low high : ℕ) → low ≤ high
    → (low ≤ (if b then high else low)) × ((if b then high else low) ≤ high)
between true low high le = (le, omega arith)
between false low high le = (omega arith, le)

module _ (p : Positions) (id : ℕ) (v : View) (t : HasPositions p id v) where
  abbrev setup : Setup
  setup = (v.opening).setup

  abbrev size : ℕ
  size = setup.seg_size

  abbrev ReadUpto : ℕ → Tape → Type 0
  ReadUpto address tape = ReadsBelow v.opening p.order address (state_now tape)

  -- the view with the writer in hand, behind a call that makes another one of it
  abbrev CalledOn : (Plain → Plain) → Lent → Plain → Type 0
  CalledOn f l w = HoldAmong (record p { writer = f p.writer }) v
      (set p.flights id (flight_of v))
      (set p.parts id (record v.writing { hold = Out (record l { writer = f w }) }))

  called : (f : Plain → Plain) (l : Lent) → (v.writing).hold ≡ Out l
      → (p.writer).written ≤ (f p.writer).written
      → (f p.writer).written ≤ end_form setup (order_end v.opening p.order)
      → IsCopiedBelow size p.flights (f p.writer).written
      → IfSuited p.first v.opening (f p.writer) (ReadUpto (f p.writer).written)
      → CalledOn f l l.writer
  called f l is rises low copied reads =
      let s = stands p id v t (Out l) is in
      subst (CalledOn f l) (sym s.3)
      (calls v.opening p t.holds id v.writing t.here (flight_of v) t.flight_here l is s.2
      (f p.writer)
      rises low copied reads)

  -- the writer keeps its position
  stays_there : (f : Plain → Plain) (l : Lent) → (v.writing).hold ≡ Out l
      → (f p.writer).written ≡ (p.writer).written
      → IfSuited p.first v.opening (f p.writer) (ReadUpto (p.writer).written)
      → CalledOn f l l.writer
  stays_there f l is same reads = called f l is (omega (arith, same))
      (omega (arith, same, (t.holds).reserved))
      (subst (λ (a : ℕ). IsCopiedBelow size p.flights a) (sym same) (t.holds).copied)
      (subst (λ (a : ℕ). IfSuited p.first v.opening (f p.writer) (ReadUpto a)) (sym same) reads)

  module _ (moment : ℕ) (tolds : List Receipts)
      (d : DurabilityHolds p.first v.opening p.order p.flushed moment p.down p.home p.writer tolds) where
    -- what is read before, of a disk that held at the opening what a log may begin on
    read_now : (tape : Tape) → tape_from p.first (p.writer).calls ≡ Some tape → BeganSuited v.opening tape
        → ReadUpto (p.writer).written tape
    read_now tape is suited =
        at_suited p.first v.opening p.writer (ReadUpto (p.writer).written) tape is suited (t.holds).reads

    -- what is read behind a call
    read_behind : (call : Call) (outcome : CallOutcome) (address : ℕ)
        → ((tape : Tape) → tape_from p.first (p.writer).calls ≡ Some tape → BeganSuited v.opening tape
        → ReadUpto address (tape_behind outcome call tape))
        → IfSuited p.first v.opening (with_outcome call outcome p.writer) (ReadUpto address)
    read_behind call outcome address reads =
        on_tape p.first (λ tape. BeganSuited v.opening tape → ReadUpto address tape) call outcome p.writer
        (λ tape is suited.
        let counts =
        counted_on p.first (p.writer).moment (p.writer).calls tape is d.counted in
        reads tape is (began_behind v.opening call outcome tape
        (omega (arith, d.begun, d.moment_low, counts)) suited))

    pub sync_keeps : (met segment : ℕ) (outcome : CallOutcome) → MayStep v (sync segment outcome)
        → HoldBehind
        (record p { writer = after_sync (sync_call size segment) outcome p.writer }) id v
        (view_behind v (sync segment outcome) met p.home)
    sync_keeps met segment outcome may = subst (λ (h : Hold). HoldBehind
        (record p { writer = after_sync (sync_call size segment) outcome p.writer }) id v
        (view_behind (with_hold h v) (sync segment outcome) met p.home))
        (sym (may.0).1)
        (stays_there (after_sync (sync_call size segment) outcome) (may.0).0 (may.0).1
        (same_written (sync_call size segment) outcome p.writer)
        (read_behind (sync_call size segment) outcome (p.writer).written
        (λ tape is suited. sync_reads v.opening t.size p.order p.writer segment outcome tape
        (read_now tape is suited))))

    pub create_keeps : (met segment : ℕ) (outcome : CallOutcome) → MayStep v (create segment outcome)
        → HoldBehind (record p {
          writer = after_create segment (create_call size segment) outcome p.writer;
        }) id v (view_behind v (create segment outcome) met p.home)
    create_keeps met segment outcome may =
        let l = (may.0).0 in
        let is = (may.0).1 in
        let s = stands p id v t (Out l) is in
        let next : segment ≡ (p.writer).made + 1 =
        ((may.0).2).next ∙ ap (λ (w : Plain). w.made + 1) s.3 in
        let at : segment * size ≡ (p.writer).made * size + size =
        ap (λ (n : ℕ). n * size) next ∙ omega arith in
        subst (λ (h : Hold). HoldBehind (record p {
          writer = after_create segment (create_call size segment) outcome p.writer;
        }) id v (view_behind (with_hold h v) (create segment outcome) met p.home))
        (sym is)
        (stays_there (after_create segment (create_call size segment) outcome) l is
        (same_written (create_call size segment) outcome p.writer)
        (read_behind (create_call size segment) outcome (p.writer).written
        (λ tape told suited. create_reads v.opening t.size p.order p.writer segment outcome
        (omega (arith, at, d.reached)) tape (read_now tape told suited))))

    -- the page under way lies in a segment of the log
    behind_first : (segment page : ℕ) → page < pages_of size
        → segment * pages_of size + page ≡ (p.writer).written / 8192 → 1 ≤ segment
    behind_first segment page within is = elim (cases_lt 0 segment) [
      | inl above ↦ above
      | inr none_below ↦
          (let whole = segment_size_in_pages size t.size in
          let zero : segment ≡ 0 = omega (arith, none_below) in
          let first : segment * pages_of size ≡ 0 * pages_of size =
          ap (λ (n : ℕ). n * pages_of size) zero in
          let k = t.holds in
          absurd (omega (
            arith,
            whole.0,
            first,
            is,
            within,
            k.begun,
            k.flushed_low,
            k.written_low,
          )))
    ]

    pub write_keeps : (met segment page upto : ℕ) (bytes : List ℕ) (outcome : CallOutcome)
        → HasAt tolds id (receipts_of v) → MayStep v (write segment page upto bytes outcome)
        → HoldBehind (record p {
          writer = after_write segment upto (write_call size segment page bytes) outcome p.writer;
        }) id v (view_behind v (write segment page upto bytes outcome) met p.home)
    write_keeps met segment page upto bytes outcome told_here may =
        let l = (may.0).0 in
        let is = (may.0).1 in
        let s = stands p id v t (Out l) is in
        let n : IsNextWrite setup segment page upto bytes (record l { writer = p.writer }) =
        subst (λ (w : Plain). IsNextWrite setup segment page upto bytes
        (record l { writer = w })) s.3 (may.0).2 in
        let known = ((t.holds).views id v.writing t.here).known l is in
        let hand = (d.views id (receipts_of v) told_here).in_hand l is in
        let both = between (is_done outcome) (p.writer).written upto n.rises in
        let first = behind_first segment page n.on_segment n.page_is in
        subst (λ (h : Hold). HoldBehind (record p {
          writer = after_write segment upto (write_call size segment page bytes) outcome p.writer;
        }) id v (view_behind (with_hold h v) (write segment page upto bytes outcome) met p.home))
        (sym is)
        (called (after_write segment upto (write_call size segment page bytes) outcome) l is
        both.0 (omega (arith, both.1, n.copied, known.0))
        (IsCopiedBelow-lower size _ l.known p.flights (omega (arith, both.1, n.copied)) known.1)
        (read_behind (write_call size segment page bytes) outcome
        (if is_done outcome then upto else (p.writer).written)
        (λ tape told suited. write_reads v.opening t.size p.order p.writer segment page upto bytes
        n.on_segment n.page_is n.rises n.within
        (λ k low below. loaded_words v.opening p.order l.known ((p.writer).written / 8192) bytes
        l.staged n.loaded hand.staged k low (omega (arith, below, n.copied)))
        tape (read_now tape told suited)
        ((at_suited p.first v.opening p.writer (IsOnDisk v.opening p.order p.writer) tape told
        suited d.on_disk).there segment first n.is_made) outcome)))
