-- What the tape of a disk assures on which a log was settled, or not to the end.
use Rattle.std.proofs.Common.{◌≡◌, ℕ, ◌+◌, ◌≤◌, ◌⊎◌, inl, inr, List, [], ◌∷◌, ◌++◌, length, drop, get_or, Option, Some, None, IfSome, refl, sym, ap, subst, ◌∙◌, arith}
use Rattle.std.specs.List.{flat_map, range_with_len}
use Rattle.std.proofs.lemmas.List.{length-append, length-map}
use Rattle.std.proofs.lemmas.List.FromFn.{length-range_with_len}
use Rattle.byte_position.specs.Geometry.{IsSegmentSize}
use Rattle.segment_disk.specs.declared.disk.Call.{Call}
use Rattle.segment_disk.specs.Tape.{DiskState, Tape, after_calls, state_now, sync_call}
use Rattle.segment_disk.specs.Assured.{StateAssures, TapeAssures}
use Rattle.flush_core.specs.Calls.{AreMade, with_calls}
use Rattle.flush_core.specs.Settled.{AreThere, HaveWholePages, IfWhole, IsAmong, IsOldOrZero, IsReadOrZero, StaysSettled, IsSettledWord, KeepsRead, KeepsOld, MakesCalls, NextFails, StopsCalls, segment_clears, segments_cleared, settle_calls, sync_calls}
use Rattle.flush_core.proofs.GrowingTapes.{with_calls-append, with_calls-some}
use Rattle.flush_core.proofs.LeftLaws.{AllFit, TapeAssures-failed, TapeAssures-now, TapeAssures-with_calls, front_fits}
use Rattle.flush_core.proofs.SettledLeft.{all_fit, old_assures, old_clears, read_clears, rest_fits, settled_assures, synced_assures}
use Rattle.flush_core.proofs.SettledPages.{after_calls-append}

-- ---- a front of a list of calls

front_of : (zs xs ys ws : List Call) → xs ++ ys ≡ zs ++ ws → length zs ≤ length xs → (xs ≡ zs ++ drop (length zs) xs) × (drop (length zs) xs ++ ys ≡ ws)
front_of [] xs ys ws same low = (refl, same)
front_of (z ∷ zs) [] ys ws same low = absurd (omega (arith, low))
front_of (z ∷ zs) (x ∷ xs) ys ws same low =
    let head : x ≡ z = ap (λ (l : List Call). get_or l 0 x) same in
    let tail : xs ++ ys ≡ zs ++ ws = ap (drop 1) same in
    let rest = front_of zs xs ys ws tail (omega (arith, low)) in
    (ap (λ (c : Call). c ∷ xs) head ∙ ap (λ (l : List Call). z ∷ l) rest.0, rest.1)

-- calls that stopped
module _ (size : ℕ) (IsThere : ℕ → Type 0) (Fits : ℕ → ℕ → List ℕ → Type 0) (moment : ℕ) (old new : Option Tape) (m0 m1 : ℕ) where
  stopped_assures : (front others : List Call) → AllFit size IsThere Fits (front ++ others) → IfSome old (TapeAssures size IsThere Fits moment) → (new ≡ with_calls old front) ⊎ NextFails (with_calls old front) new m0 m1 others → IfSome new (TapeAssures size IsThere Fits moment)
  stopped_assures front others fit assures (inl made) =
      subst (λ (t : Option Tape). IfSome t (TapeAssures size IsThere Fits moment)) (sym made) (TapeAssures-with_calls size IsThere Fits moment old front (first_fit front others fit) assures)
    where
      first_fit : (front others : List Call) → AllFit size IsThere Fits (front ++ others) → AllFit size IsThere Fits front
      first_fit [] others fit = tt
      first_fit (c ∷ front) others fit = (fit.0, first_fit front others fit.1)
  stopped_assures front [] fit assures (inr fails) = absurd fails
  stopped_assures front (next ∷ others) fit assures (inr fails) =
      let parts = front_fits size IsThere Fits front next others fit in
      TapeAssures-failed size IsThere Fits moment (with_calls old front) new m0 m1 next parts.1 fails (TapeAssures-with_calls size IsThere Fits moment old front parts.0 assures)

module _ (size end count : ℕ) (valid : IsSegmentSize size) (t : Tape) (m0 : ℕ) (counts : m0 ≡ length t.calls) (whole : HaveWholePages size (state_now t)) (there : AreThere (state_now t) count) where
  abbrev before : DiskState
  before = state_now t

  abbrev syncs : List Call
  syncs = sync_calls size (range_with_len 1 count)

  abbrev rest : List Call
  rest = flat_map (segment_clears size end before) (range_with_len 1 count) ++ sync_calls size (segments_cleared size end before count)

  abbrev with_more : List Call → Tape
  with_more calls = record t { calls = t.calls ++ calls }

  state_is : (calls : List Call) → state_now (with_more calls) ≡ after_calls before calls
  state_is calls = after_calls-append t.at_first t.calls calls

  old_tape : KeepsOld size before count end m0 t
  old_tape = TapeAssures-now size (IsAmong count) (IsOldOrZero size before end) m0 t counts (old_assures size end count valid before whole there)

  old_fit : AllFit size (IsAmong count) (IsOldOrZero size before end) (syncs ++ rest)
  old_fit = all_fit size (IsOldOrZero size before end) end count before (old_clears size end count valid before whole there)

  read_fit : AllFit size (IsAmong count) (IsReadOrZero size before count end) rest
  read_fit = rest_fits size (IsReadOrZero size before count end) end count before (read_clears size end count valid before whole there)

  old_behind : (calls : List Call) → AllFit size (IsAmong count) (IsOldOrZero size before end) calls → KeepsOld size before count end m0 (with_more calls)
  old_behind calls fit =
      subst (λ (o : Option Tape). IfSome o (KeepsOld size before count end m0)) (with_calls-some t calls) (TapeAssures-with_calls size (IsAmong count) (IsOldOrZero size before end) m0 (Some t) calls fit old_tape)

  syncs_count : length syncs ≡ count
  syncs_count = length-map (range_with_len 1 count) (sync_call size) ∙ length-range_with_len 1 count

  old_first : AllFit size (IsAmong count) (IsOldOrZero size before end) syncs
  old_first = first syncs rest old_fit
    where
      first : (xs ys : List Call) → AllFit size (IsAmong count) (IsOldOrZero size before end) (xs ++ ys) → AllFit size (IsAmong count) (IsOldOrZero size before end) xs
      first [] ys fit = tt
      first (x ∷ xs) ys fit = (fit.0, first xs ys fit.1)

  -- behind the first syncs
  read_tape : KeepsRead size before count end (m0 + count) (with_more syncs)
  read_tape =
      let old : StateAssures size (IsAmong count) (IsOldOrZero size before end) (after_calls before syncs) = subst (StateAssures size (IsAmong count) (IsOldOrZero size before end)) (state_is syncs) (old_behind syncs old_first).now in
      TapeAssures-now size (IsAmong count) (IsReadOrZero size before count end) (m0 + count) (with_more syncs) (omega (arith, counts, syncs_count, length-append t.calls syncs))
      (subst (StateAssures size (IsAmong count) (IsReadOrZero size before count end)) (sym (state_is syncs)) (synced_assures size end count valid before whole there old))

  read_some : IfSome (with_calls (Some t) syncs) (KeepsRead size before count end (m0 + count))
  read_some = subst (λ (o : Option Tape). IfSome o (KeepsRead size before count end (m0 + count))) (sym (with_calls-some t syncs)) read_tape

  -- all calls were made
  module _ (new : Option Tape) (m1 : ℕ) (calls : List Call) (made : AreMade (Some t) new m0 m1 calls) (are : calls ≡ settle_calls size end count before) where
    grown : new ≡ with_calls (Some t) (syncs ++ rest)
    grown = made.tape ∙ ap (with_calls (Some t)) are

    pub made_loses : IfSome new (KeepsOld size before count end m0)
    made_loses = subst (λ (o : Option Tape). IfSome o (KeepsOld size before count end m0)) (sym grown) (TapeAssures-with_calls size (IsAmong count) (IsOldOrZero size before end) m0 (Some t) (syncs ++ rest) old_fit old_tape)

    pub made_keeps : IfSome new (KeepsRead size before count end (m0 + count))
    made_keeps =
        subst (λ (o : Option Tape). IfSome o (KeepsRead size before count end (m0 + count))) (sym (grown ∙ with_calls-append (Some t) syncs rest))
        (TapeAssures-with_calls size (IsAmong count) (IsReadOrZero size before count end) (m0 + count) (with_calls (Some t) syncs) rest read_fit read_some)

    pub made_settles : IfSome new (StaysSettled size before count end m1)
    made_settles =
        let all = syncs ++ rest in
        let old : StateAssures size (IsAmong count) (IsOldOrZero size before end) (after_calls before all) = subst (StateAssures size (IsAmong count) (IsOldOrZero size before end)) (state_is all) (old_behind all old_fit).now in
        let assures : StaysSettled size before count end m1 (with_more all) =
        TapeAssures-now size (IsAmong count) (IsSettledWord size before count end) m1 (with_more all) (omega (arith, counts, made.moment, ap length are, length-append t.calls all))
        (subst (StateAssures size (IsAmong count) (IsSettledWord size before count end)) (sym (state_is all)) (settled_assures size end count valid before whole there old)) in
        subst (λ (o : Option Tape). IfSome o (StaysSettled size before count end m1)) (sym (grown ∙ with_calls-some t all)) assures

  -- a front of the calls was made
  module _ (new : Option Tape) (m1 : ℕ) (front others : List Call) (ends : AreMade (Some t) new m0 m1 front ⊎ NextFails (with_calls (Some t) front) new (m0 + length front) m1 others) (are : front ++ others ≡ settle_calls size end count before) where
    pub stopped_loses : IfSome new (KeepsOld size before count end m0)
    stopped_loses =
        stopped_assures size (IsAmong count) (IsOldOrZero size before end) m0 (Some t) new (m0 + length front) m1 front others (subst (AllFit size (IsAmong count) (IsOldOrZero size before end)) (sym are) old_fit) old_tape
        (elim ends [ inl made ↦ inl made.tape | inr fails ↦ inr fails ])

    pub stopped_keeps : count ≤ length front → IfSome new (KeepsRead size before count end (m0 + count))
    stopped_keeps long =
        let parts = front_of syncs front others rest are (omega (arith, syncs_count, long)) in
        let behind = drop (length syncs) front in
        let tape : with_calls (Some t) front ≡ with_calls (with_calls (Some t) syncs) behind = ap (with_calls (Some t)) parts.0 ∙ with_calls-append (Some t) syncs behind in
        stopped_assures size (IsAmong count) (IsReadOrZero size before count end) (m0 + count) (with_calls (Some t) syncs) new (m0 + length front) m1 behind others (subst (AllFit size (IsAmong count) (IsReadOrZero size before count end)) (sym parts.1) read_fit) read_some
        (elim ends [ inl made ↦ inl (made.tape ∙ tape) | inr fails ↦ inr (subst (λ (o : Option Tape). NextFails o new (m0 + length front) m1 others) tape fails) ])

-- ---- where the disk tells its tape

module _ (size end count : ℕ) (valid : IsSegmentSize size) where
  pub all_loses : (old new : Option Tape) (m0 m1 : ℕ) → IfSome old (λ t. m0 ≡ length t.calls) → IfSome old (λ t. AreThere (state_now t) count) → MakesCalls old new m0 m1 (settle_calls size end count) → IfWhole size old new (λ before. KeepsOld size before count end m0)
  all_loses None new m0 m1 counts there makes = tt
  all_loses (Some t) new m0 m1 counts there makes = λ whole. made_loses size end count valid t m0 counts whole there new m1 makes.calls makes.made makes.are

  pub all_keeps : (old new : Option Tape) (m0 m1 : ℕ) → IfSome old (λ t. m0 ≡ length t.calls) → IfSome old (λ t. AreThere (state_now t) count) → MakesCalls old new m0 m1 (settle_calls size end count) → IfWhole size old new (λ before. KeepsRead size before count end (m0 + count))
  all_keeps None new m0 m1 counts there makes = tt
  all_keeps (Some t) new m0 m1 counts there makes = λ whole. made_keeps size end count valid t m0 counts whole there new m1 makes.calls makes.made makes.are

  pub all_settles : (old new : Option Tape) (m0 m1 : ℕ) → IfSome old (λ t. m0 ≡ length t.calls) → IfSome old (λ t. AreThere (state_now t) count) → MakesCalls old new m0 m1 (settle_calls size end count) → IfWhole size old new (λ before. StaysSettled size before count end m1)
  all_settles None new m0 m1 counts there makes = tt
  all_settles (Some t) new m0 m1 counts there makes = λ whole. made_settles size end count valid t m0 counts whole there new m1 makes.calls makes.made makes.are

  pub front_loses : (old new : Option Tape) (m0 m1 : ℕ) → IfSome old (λ t. m0 ≡ length t.calls) → IfSome old (λ t. AreThere (state_now t) count) → StopsCalls old new m0 m1 (settle_calls size end count) → IfWhole size old new (λ before. KeepsOld size before count end m0)
  front_loses None new m0 m1 counts there stops = tt
  front_loses (Some t) new m0 m1 counts there stops = λ whole. stopped_loses size end count valid t m0 counts whole there new m1 stops.front stops.others stops.ends stops.are

  pub front_keeps : (old new : Option Tape) (m0 m1 : ℕ) → IfSome old (λ t. m0 ≡ length t.calls) → IfSome old (λ t. AreThere (state_now t) count) → (stops : StopsCalls old new m0 m1 (settle_calls size end count)) → count ≤ length stops.front → IfWhole size old new (λ before. KeepsRead size before count end (m0 + count))
  front_keeps None new m0 m1 counts there stops long = tt
  front_keeps (Some t) new m0 m1 counts there stops long = λ whole. stopped_keeps size end count valid t m0 counts whole there new m1 stops.front stops.others stops.ends stops.are long
