-- What each call of a disk keeps holds at each moment since one: so behind further calls, and where
-- a process was killed.
use Rattle.std.proofs.Common.{◌≡◌, ℕ, ◌+◌, ◌-◌, ◌*◌, ◌<◌, ◌≤◌, List, [], ◌∷◌, ◌++◌, length, take, drop, slice_get, Option, Some, None, IfSome, inl, inr, refl, sym, ap, subst, ◌∙◌, arith, length-append, length-take, take-append-drop, Bool, true, false}
use Rattle.std.specs.List.{AllByRecursion}
use Rattle.std.proofs.lemmas.Bool.{cases_eq, eq-eqb, ne_eqb}
use Rattle.std.proofs.lemmas.List.{drop-append-le, drop-take, drop_all, length-replicate, take-take}
use Rattle.std.proofs.lemmas.List.Elements.{recursion_from_All}
use Rattle.std.proofs.Math.Seq.{take-length}
use Rattle.byte_position.specs.Geometry.{pages_of}
use Rattle.segment_disk.specs.declared.disk.Call.{Call}
use Rattle.segment_disk.specs.declared.disk.CallKind.{CallKind}
use Rattle.segment_disk.specs.declared.disk.CallKind.TheVariants.{Create, Write, Sync}
use Rattle.segment_disk.specs.Assured.{CallFits, SegmentAssures, StateAssures, TapeAssures}
use Rattle.segment_disk.specs.DiskImage.{word_of}
use Rattle.segment_disk.specs.Tape.{DiskState, Segment, Tape, after_call, after_calls, page_as_read, segment_after, state_at, state_now}
use Rattle.segment_disk.proofs.Fronts.{take-before}
use Rattle.flush_core.specs.Settled.{HaveWholePages}
use Rattle.flush_core.proofs.GrowingTapes.{with_calls-some}
use Rattle.flush_core.proofs.LeftLaws.{TapeAssures-now, TapeAssures-with_call, TapeAssures-with_calls, read_word}
use Rattle.flush_core.proofs.SettledPages.{after_calls-append}
use Rattle.flush_core.proofs.StateLaws.{after_each, after_writes-push}
use Rattle.reopened_log_laws.specs.StopsAt.{IsCutShort, StopsAt, tape_until, write_to}
use Rattle.reopened_log_laws.proofs.SettlingCalls.{each_at, each_both, each_take, get_behind}

-- ---- lists

pub drop_taken : (calls : List Call) (m n : ℕ) → m ≤ n
    → drop m (take n calls) ≡ take (n - m) (drop m calls)
drop_taken calls m n low =
    let at : n ≡ m + (n - m) = omega (arith, low) in
    ap (λ (k : ℕ). drop m (take k calls)) at ∙ drop-take m (n - m) calls

-- ---- what each call keeps

-- it holds of the state at a moment, and each call since then keeps it
pub record RunsSo (P : DiskState → Type 0) (Q : Call → Type 0) (since : ℕ) (t : Tape) : Type 0 where
  pub counted : since ≤ length t.calls
  pub state : P (state_at t since)
  pub calls : AllByRecursion Q (drop since t.calls)

module _ (P : DiskState → Type 0) (Q : Call → Type 0) where
  pub runs_from : (t : Tape) → P (state_now t) → RunsSo P Q (length t.calls) t
  runs_from t holds = record {
    counted = omega arith;
    state = subst (λ (calls : List Call). P (after_calls t.at_first calls))
        (sym (take-length t.calls)) holds;
    calls = subst (λ (calls : List Call). AllByRecursion Q calls)
        (sym (drop_all (length t.calls) t.calls (omega arith))) tt;
  }

  pub runs_on : (since : ℕ) (t : Tape) (more : List Call) → RunsSo P Q since t
      → AllByRecursion Q more → RunsSo P Q since (record t { calls = t.calls ++ more })
  runs_on since t more runs each = record {
    counted = omega (arith, runs.counted, length-append t.calls more);
    state = subst (λ (calls : List Call). P (after_calls t.at_first calls))
        (sym (take-before t.calls more since runs.counted)) runs.state;
    calls = subst (λ (calls : List Call). AllByRecursion Q calls)
        (sym (drop-append-le since t.calls more runs.counted))
        (each_both Q (drop since t.calls) more runs.calls each);
  }

  pub runs_until : (since at : ℕ) (t : Tape) → since ≤ at → RunsSo P Q since t
      → RunsSo P Q since (tape_until at t)
  runs_until since at t low runs = record {
    counted = omega (arith, low, runs.counted, length-take at t.calls);
    state = subst (λ (calls : List Call). P (after_calls t.at_first calls))
        (sym (take-take since at t.calls low)) runs.state;
    calls = subst (λ (calls : List Call). AllByRecursion Q calls)
        (sym (drop_taken t.calls since at low))
        (each_take Q (at - since) (drop since t.calls) runs.calls);
  }

  pub runs_stopped : (since at : ℕ) (t stopped : Tape) → since ≤ at → StopsAt t at stopped
      → ((c : IsCutShort t at stopped) → Q (write_to c.geometry c.segment c.page c.mix c.done))
      → RunsSo P Q since t → RunsSo P Q since stopped
  runs_stopped since at t stopped low (inl same) cut runs =
      subst (RunsSo P Q since) (sym same) (runs_until since at t low runs)
  runs_stopped since at t stopped low (inr c) cut runs =
      subst (RunsSo P Q since) (sym c.stopped_is)
      (runs_on since (tape_until at t) (write_to c.geometry c.segment c.page c.mix c.done ∷ [])
      (runs_until since at t low runs) (cut c, tt))

  -- the call at a moment
  pub next_keeps : (since at : ℕ) (t : Tape) (call : Call) → since ≤ at → RunsSo P Q since t
      → slice_get t.calls at ≡ Some call → Q call
  next_keeps since at t call low runs is =
      let front = take since t.calls in
      let behind = drop since t.calls in
      let place : at ≡ length front + (at - since) =
      omega (arith, low, runs.counted, length-take since t.calls) in
      let here : slice_get behind (at - since) ≡ Some call =
      sym (get_behind front behind (at - since) at place)
      ∙ ap (λ (calls : List Call). slice_get calls at) (take-append-drop since t.calls) ∙ is in
      each_at Q (at - since) behind call runs.calls here

  -- a tape that grew, where something else tells of the calls since
  pub runs_told : (since : ℕ) (t : Tape) (more : List Call) → RunsSo P Q since t
      → AllByRecursion Q (drop since (t.calls ++ more))
      → RunsSo P Q since (record t { calls = t.calls ++ more })
  runs_told since t more runs each = record {
    counted = omega (arith, runs.counted, length-append t.calls more);
    state = subst (λ (calls : List Call). P (after_calls t.at_first calls))
        (sym (take-before t.calls more since runs.counted)) runs.state;
    calls = each;
  }

  module _ (step : (state : DiskState) (call : Call) → Q call → P state
      → P (after_call state call)) where
    after_all : (calls : List Call) (state : DiskState) → AllByRecursion Q calls → P state
        → P (after_calls state calls)
    after_all [] state each holds = holds
    after_all (call ∷ calls) state each holds =
        after_all calls (after_call state call) each.1 (step state call each.0 holds)

    pub runs_now : (since : ℕ) (t : Tape) → RunsSo P Q since t → P (state_now t)
    runs_now since t runs =
        subst (λ (calls : List Call). P (after_calls t.at_first calls))
        (take-append-drop since t.calls)
        (subst P (sym (after_calls-append t.at_first (take since t.calls) (drop since t.calls)))
        (after_all (drop since t.calls) (state_at t since) runs.calls runs.state))

    pub runs_at : (since at : ℕ) (t : Tape) → since ≤ at → RunsSo P Q since t → P (state_at t at)
    runs_at since at t low runs =
        runs_now since (tape_until at t) (runs_until since at t low runs)

-- ---- words

module _ (size : ℕ) (IsThere : ℕ → Type 0) (Fits : ℕ → ℕ → List ℕ → Type 0) where
  abbrev pub AssuresSince : ℕ → Tape → Type 0
  AssuresSince since t =
      RunsSo (StateAssures size IsThere Fits) (CallFits size Fits) since t

  state_after : (state : DiskState) (call : Call) → CallFits size Fits call
      → StateAssures size IsThere Fits state → StateAssures size IsThere Fits (after_call state call)
  state_after state call fits assures =
      let t : Tape = record { at_first = state; calls = [] } in
      (TapeAssures-with_call size IsThere Fits 0 (Some t) call fits
      (TapeAssures-now size IsThere Fits 0 t refl assures)).now

  pub assures_now : (since : ℕ) (t : Tape) → AssuresSince since t
      → StateAssures size IsThere Fits (state_now t)
  assures_now since t runs =
      runs_now (StateAssures size IsThere Fits) (CallFits size Fits) state_after since t runs

  pub assures_at : (since at : ℕ) (t : Tape) → since ≤ at → AssuresSince since t
      → StateAssures size IsThere Fits (state_at t at)
  assures_at since at t low runs =
      runs_at (StateAssures size IsThere Fits) (CallFits size Fits) state_after since at t low runs

  -- so does whatever a crash leaves since
  pub assures_tape : (since : ℕ) (t : Tape) → AssuresSince since t
      → TapeAssures size IsThere Fits since t
  assures_tape since t runs =
      let first : Tape = record t { calls = take since t.calls } in
      let now = TapeAssures-now size IsThere Fits since first
      (omega (arith, runs.counted, length-take since t.calls)) runs.state in
      let all = TapeAssures-with_calls size IsThere Fits since (Some first) (drop since t.calls)
      runs.calls now in
      let grown = subst (λ (o : Option Tape). IfSome o (TapeAssures size IsThere Fits since))
      (with_calls-some first (drop since t.calls)) all in
      subst (λ (calls : List Call).
      TapeAssures size IsThere Fits since (record t { calls = calls }))
      (take-append-drop since t.calls) grown

  pub assures_told : (since : ℕ) (t : Tape) (more : List Call) → AssuresSince since t
      → TapeAssures size IsThere Fits since (record t { calls = t.calls ++ more })
      → AssuresSince since (record t { calls = t.calls ++ more })
  assures_told since t more runs assures =
      runs_told (StateAssures size IsThere Fits) (CallFits size Fits) since t more runs
      (recursion_from_All (CallFits size Fits) (drop since (t.calls ++ more)) assures.calls)

  -- a write that was cut short
  pub cut_fits : (since at : ℕ) (t stopped : Tape) → since ≤ at → AssuresSince since t
      → (c : IsCutShort t at stopped)
      → CallFits size Fits (write_to c.geometry c.segment c.page c.mix c.done)
  cut_fits since at t stopped low runs c =
      let next = next_keeps (StateAssures size IsThere Fits) (CallFits size Fits) since at t
      (write_to c.geometry c.segment c.page c.bytes c.done) low runs c.next in
      let here = subst (SegmentAssures size IsThere Fits c.segment) c.is_there
      (assures_at since at t low runs c.segment) in
      let number = c.segment * pages_of size + c.page in
      let read = page_as_read c.there c.page in (
        next.0,
        next.1,
        λ word small. elim (c.mixes.words word small) [
          | inl was ↦ subst (Fits number word) (sym was)
              (here.1 c.page word next.1 small (word_of read word)
              (read_word (c.there).writes c.page word ((c.there).durable c.page)
              (word_of read word) refl))
          | inr new ↦ subst (Fits number word) (sym new) (next.2 word small)
        ],
      )

  pub assures_stopped : (since at : ℕ) (t stopped : Tape) → since ≤ at → StopsAt t at stopped
      → AssuresSince since t → AssuresSince since stopped
  assures_stopped since at t stopped low stops runs =
      runs_stopped (StateAssures size IsThere Fits) (CallFits size Fits) since at t stopped low stops
      (cut_fits since at t stopped low runs) runs

-- ---- whole pages

-- a call makes segments of this size, and writes a page's 8,192 bytes
abbrev IsWholeKind : ℕ → ℕ → CallKind → Type 0
IsWholeKind size geometry (Create made) = geometry ≡ size
IsWholeKind size geometry (Write page bytes) = length bytes.bytes ≡ 8192
IsWholeKind size geometry Sync = Unit {0}

abbrev pub IsWhole : ℕ → Call → Type 0
IsWhole size call = IsWholeKind size call.geometry call.kind

abbrev WholeSegment : ℕ → Option Segment → Type 0
WholeSegment size s = IfSome s (λ s. (s.pages ≡ pages_of size)
    × ((page : ℕ) → page < s.pages → length (page_as_read s page) ≡ 8192))

module _ (size : ℕ) where
  whole_segment : (geometry : ℕ) (kind : CallKind) (done : Bool) (s : Option Segment)
      → IsWholeKind size geometry kind → WholeSegment size s
      → WholeSegment size (segment_after kind geometry done s)
  whole_segment geometry (Create true) done s is whole =
      (ap pages_of is, λ page within. length-replicate {A = ℕ} 8192 0)
  whole_segment geometry (Create false) done s is whole = whole
  whole_segment geometry (Write page bytes) done None is whole = tt
  whole_segment geometry (Write page bytes) done (Some s) is whole = (
    whole.0,
    λ n within. subst (λ (l : List ℕ). length l ≡ 8192)
        (sym (after_writes-push s.writes (page, bytes.bytes) n (s.durable n)))
        (elim (cases_eq page n) [
          | inl same ↦ rw (eq-eqb page n same) is
          | inr other ↦ rw (ne_eqb page n other) (whole.1 n within)
        ]),
  )
  whole_segment geometry Sync done None is whole = tt
  whole_segment geometry Sync true (Some s) is whole = (whole.0, λ n within. whole.1 n within)
  whole_segment geometry Sync false (Some s) is whole = whole

  whole_after : (state : DiskState) (call : Call) → IsWhole size call → HaveWholePages size state
      → HaveWholePages size (after_call state call)
  whole_after state call is whole segment =
      after_each state call (WholeSegment size) segment
      (λ _. whole_segment call.geometry call.kind call.done (state segment) is (whole segment))
      (λ _. whole segment)

  abbrev pub StaysWhole : ℕ → Tape → Type 0
  StaysWhole since t = RunsSo (HaveWholePages size) (IsWhole size) since t

  pub whole_now : (since : ℕ) (t : Tape) → StaysWhole since t → HaveWholePages size (state_now t)
  whole_now since t runs = runs_now (HaveWholePages size) (IsWhole size) whole_after since t runs

  pub whole_stopped : (since at : ℕ) (t stopped : Tape) → since ≤ at → StopsAt t at stopped
      → StaysWhole since t → StaysWhole since stopped
  whole_stopped since at t stopped low stops runs =
      runs_stopped (HaveWholePages size) (IsWhole size) since at t stopped low stops
      (λ c. c.mixes.whole) runs
