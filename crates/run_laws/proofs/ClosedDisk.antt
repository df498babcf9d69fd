-- What is known of the disk of a closed log, and of each promise.
use Rattle.std.proofs.Common.{◌≡◌, ◌≢◌, ℕ, ◌*◌, ◌^◌, ◌<◌, ◌≤◌, inl, inr, All, List, [], ◌∷◌, ◌++◌, length, Some, refl, sym, ap, subst, ◌∙◌, arith}
use Rattle.std.proofs.lemmas.Bool.{cases_lt}
use Rattle.std.proofs.Math.Nat.{mul-le-mul_right}
use mathlib.Core.Option.{some, some-injective}
use Rattle.byte_position.specs.Geometry.{IsSegmentSize}
use Rattle.byte_position.specs.Position.{end_address_of, first_position}
use Rattle.byte_position.proofs.EndAddresses.{end_address_of-le_address_of}
use Rattle.byte_position.proofs.Rising.{address_of-bound, position_of-le_self}
use Rattle.byte_position.proofs.SegmentSizes.{segment_size_tests}
use Rattle.byte_position.proofs.Segments.{first_position-usable}
use Rattle.segment_disk.specs.Tape.{Tape}
use Rattle.wal_page.specs.Order.{Entry, IsChained, end_position}
use Rattle.machine_state.specs.declared.setup.Setup.{Setup}
use Rattle.machine_state.specs.Words.{GoesOnAtPlace, Opening, down_word, flushed_word, log_limit, moment_word, order_end}
use Rattle.machine_state.specs.Views.{FlushPromise, Joined, Plain, View, receipts_of}
use Rattle.machine_state.specs.Durable.{AreKept, IsPromiseKept, IsToldRightly}
use Rattle.machine_state.specs.Sound.{IsSetup}
use Rattle.machine_state.specs.Suited.{tape_from}
use Rattle.machine_state.proofs.Tapes.{at_suited, counted_on}
use Rattle.machine_laws.specs.Crashes.{CrashesLeave, HoldsPromise}
use Rattle.machine_laws.specs.WholeOrders.{IsWholeOrder, LiesBehind}
use Rattle.machine_laws.proofs.WholeOrders.{whole_order}
use Rattle.run_laws.specs.Closed.{IsClosedOn, WasPromised}
use Rattle.run_laws.proofs.Promises.{of_promise, told_rightly}

-- ---- sizes

some_number : (n : ℕ) → n ≢ 0 → 0 < n
some_number n some_n = elim (cases_lt 0 n) [ inl lt ↦ lt | inr none ↦ absurd (some_n (omega (arith, none))) ]

-- a log ends far below the last address that is read
ends_low : (setup : Setup) → IsSetup setup → (position : ℕ) → position ≤ log_limit setup
    → end_address_of setup.seg_size position ≤ 2 ^ 60
ends_low setup is position within =
    let size = setup.seg_size in
    let segments = setup.cap_segments in
    let first = first_position size in
    let valid = is.size in
    let below = position_of-le_self size size in
    let most = (segment_size_tests size valid).2 in
    let whole = ap (λ (n : ℕ). segments * n) (first_position-usable size valid) in
    let few : segments * first ≤ 4096 * first = mul-le-mul_right first is.cap_high in
    omega (
      arith,
      within,
      below,
      most,
      whole,
      few,
      end_address_of-le_address_of size valid position,
      address_of-bound size valid position,
    )

-- ---- the closed log

module _ (opening : Opening) (order : List Entry) (t : Tape) (v : View)
    (c : IsClosedOn opening order t v) where
  abbrev pub size : ℕ
  size = (opening.setup).seg_size

  abbrev flushed : ℕ
  flushed = flushed_word c.words

  abbrev moment : ℕ
  moment = moment_word c.words

  pub valid : IsSegmentSize (opening.setup).seg_size
  valid = ((c.sound).setup_is).size

  pub known : 0 < (opening.setup).sysid
  known = some_number (opening.setup).sysid ((c.sound).setup_is).named

  chained : GoesOnAtPlace opening order
  chained = ((c.closed).accounted).chained

  pub low : end_address_of (opening.setup).seg_size (order_end opening order) ≤ 2 ^ 60
  low = ends_low opening.setup (c.sound).setup_is (order_end opening order)
      ((c.closed).accounted).within

  -- with the entries that lie below the place, they are one order
  module _ (front : List Entry) (lies : LiesBehind opening front) where
    pub whole_is : IsWholeOrder opening order (front ++ order)
    whole_is = whole_order opening valid front lies order chained

    pub whole_low : end_address_of (opening.setup).seg_size
        (end_position (opening.setup).seg_size (front ++ order)) ≤ 2 ^ 60
    whole_low = subst (λ (n : ℕ). end_address_of (opening.setup).seg_size n ≤ 2 ^ 60)
        (sym whole_is.end) low

  -- the writer at home is the one that the state speaks of
  same_writer : c.writer ≡ (c.sound).writer
  same_writer = some-injective c.writer (c.sound).writer
      ((((c.sound).locks).writing).free ((c.closed).free).writing)

  told_tape : tape_from t.at_first (c.writer).calls ≡ Some t
  told_tape = ap (tape_from t.at_first) c.calls_is

  pub sound_tape : tape_from t.at_first ((c.sound).writer).calls ≡ Some t
  sound_tape = ap (λ (w : Plain). tape_from t.at_first w.calls) (sym same_writer) ∙ told_tape

  pub crashes : CrashesLeave opening order (flushed_word c.words) (moment_word c.words) t
      (receipts_of v ∷ [])
  crashes = at_suited t.at_first opening c.writer (λ (t : Tape). CrashesLeave opening order flushed moment t
      (receipts_of v ∷ [])) t told_tape c.began ((c.closed).durable).crashes

  -- the moment that the words tell is one of the disk's
  pub moment_passed : moment_word c.words ≤ length t.calls
  moment_passed =
      let counted = counted_on t.at_first (c.writer).moment (c.writer).calls t told_tape
      ((c.closed).durable).counted in
      omega (arith, counted, ((c.closed).durable).moment_low)

  abbrev told : IsToldRightly t.at_first opening (c.sound).order (flushed_word c.words)
      (moment_word c.words) (down_word c.words) (c.sound).writer (receipts_of v)
  told = told_rightly opening c.words (some c.writer) c.views c.sound c.id v c.here

  module _ (entries : List Entry) (p : FlushPromise) (was : WasPromised v entries p) where
    pub promise_held : HoldsPromise opening order t entries p
    promise_held = of_promise (HoldsPromise opening order t) v
        (crashes.own 0 (receipts_of v) refl) (crashes.joined 0 (receipts_of v) refl) entries p was

    pub promise_since : opening.moment ≤ p.moment
    promise_since =
        let own = at_suited t.at_first opening (c.sound).writer (λ (t : Tape). AreKept opening
        (c.sound).order t (v.reserving).entries (v.writing).promises) t sound_tape c.began
        told.own in
        let joined = at_suited t.at_first opening (c.sound).writer (λ (t : Tape). All (λ (j : Joined).
        AreKept opening (c.sound).order t j.entries j.promises) (v.reserving).joined) t sound_tape
        c.began told.joined in
        (of_promise (IsPromiseKept opening (c.sound).order t) v own joined entries p was).since
