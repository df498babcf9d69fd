-- What a line that flushes leaves of its pass.
use Rattle.std.specs.Prelude.{Result, Ok, Err}
use Rattle.std.proofs.Common.{◌≡◌, ℕ, ◌<◌, ◌≤◌, refl, sym, ap, ◌∙◌, subst, inl, inr, arith}
use Rattle.byte_position.specs.Geometry.{IsSegmentSize}
use Rattle.wal_types.specs.declared.answers.Hard as hard
use Rattle.run_laws.specs.declared.told.Told.{Told}
use Rattle.run_script.specs.Asked.{Flush, WriteBehind}
use Rattle.machine_state.specs.declared.setup.Setup.{Setup}
use Rattle.machine_state.specs.Words.{end_form, log_limit}
use Rattle.wal_rule.specs.Downs.{KnowsDown}
use Rattle.machine_state.specs.Views.{View}
use Rattle.wal_log.specs.declared.behind.Caught.{Caught}
use Rattle.wal_log.specs.declared.behind.Caught.TheVariants as caught
use Rattle.wal_log.specs.declared.flushing.FlushErr.{FlushErr}
use Rattle.wal_log.specs.declared.flushing.FlushErr.TheVariants as flushes
use Rattle.wal_log.specs.Behind.{AnswersBehind, SeesTarget, behind_known_down, page_of_end, page_start}
use Rattle.wal_log.specs.Flushing.{AnswersFlush, IsUnreserved, flush_err_known_down, view_met_up}
use Rattle.wal_log.specs.Standing.{KeepsPass}
use Rattle.wal_log.proofs.CommitLaws.{never_both}
use Rattle.run_laws.specs.Played.{Leaves, PlaysLine, TellsCause, end_of_own, pass_state_of}
use Rattle.run_backends.specs.Sessions.{IsReserved}
use Rattle.run_backends.proofs.EndsKept.{HasEnd, reserved_since, told_of_caught, told_of_flushed}

-- a flush of an end
module _ (setup : Setup) (valid : IsSegmentSize setup.seg_size) (old new : View)
    (own : (old.opening).setup ≡ setup) (end : ℕ) where
  -- where it is reserved, it is not found unreserved
  pub never_unreserved : IsReserved setup end old → (found : ℕ) → IsUnreserved end found old new
      → ⊥
  never_unreserved reserved found told =
      let size = ap (λ (s : Setup). s.seg_size) own in
      let is : found ≡ end_form setup (new.reserving).seen =
      told.end_is ∙ ap (λ (s : Setup). end_form s (new.reserving).seen) own in
      let begun = told.begun in
      let above = told.above in
      elim (reserved_since setup valid end old new told.rises reserved) [
        | inl low ↦ omega (arith, low, size, begun, above)
        | inr low ↦ omega (arith, low, is, above)
      ]

  -- where it is the one kept
  module _ (had : HasEnd setup end old) where
    flushed : (answer : Result hard.Hard FlushErr) → AnswersFlush end old answer new
        → ((faults : ℕ) → KnowsDown faults old → answer ≡ flush_err_known_down faults)
        → Leaves setup.seg_size (log_limit setup) (old.reserving).number Flush
        (told_of_flushed answer) (pass_state_of old) (pass_state_of new)
    flushed (Ok done) told again = record {
      reached = elim had.own [
        | inl low ↦ (let far = told.0.reached in omega (arith, low, far))
        | inr known ↦ absurd (never_both (Ok done) done (flushes.Down known.0) refl
            (again known.0 known.1))
      ];
      log_is = told.0.log_is;
    }
    flushed (Err (flushes.Disk faults)) why again =
        (why.0, (why.1.down.some, inr why.1.down.set))
    flushed (Err (flushes.Down faults)) why again = (why.0, (why.1.some, inl why.1.met))
    flushed (Err (flushes.Unreserved found)) why again =
        absurd (never_unreserved had.reserved found.0 why.1)

    flush_caused : (answer : Result hard.Hard FlushErr) → AnswersFlush end old answer new
        → TellsCause (told_of_flushed answer) (pass_state_of old) (pass_state_of new)
    flush_caused (Ok done) told = (told.0.up.met, told.0.up.set)
    flush_caused (Err (flushes.Disk faults)) why = why.1.down.set
    flush_caused (Err (flushes.Down faults)) why = (why.1.met, why.1.set_none)
    flush_caused (Err (flushes.Unreserved found)) why =
        absurd (never_unreserved had.reserved found.0 why.1)

    pub plays_flush : KeepsPass old new → (answer : Result hard.Hard FlushErr) (told : Told)
        → told ≡ told_of_flushed answer → AnswersFlush end old answer new
        → ((faults : ℕ) → KnowsDown faults old → answer ≡ flush_err_known_down faults)
        → PlaysLine setup.seg_size (log_limit setup) (old.reserving).number Flush told
        (pass_state_of old) (pass_state_of new)
    plays_flush keeps answer told is answers again = record {
      writable = tt;
      leaves = subst (λ (t : Told). Leaves setup.seg_size (log_limit setup)
          (old.reserving).number Flush t (pass_state_of old) (pass_state_of new)) (sym is)
          (flushed answer answers again);
      cause = subst (λ (t : Told). TellsCause t (pass_state_of old) (pass_state_of new)) (sym is)
          (flush_caused answer answers);
      counts = keeps.counts;
      async = tt;
      sees = keeps.rises;
      again = λ faults knows. is ∙ ap told_of_flushed (again faults knows);
    }

-- a flush behind, by a pass beside which this end is kept
module _ (setup : Setup) (valid : IsSegmentSize setup.seg_size) (old : View)
    (own : (old.opening).setup ≡ setup) (end : ℕ) (had : HasEnd setup end old) where
  page_rises : (a b : ℕ) → a ≤ b → page_start a ≤ page_start b
  page_rises a b low = omega (arith, low)

  -- it sees no less reserved than what the pass has
  module _ (flushed target : ℕ) (sight : View)
      (sees : SeesTarget flushed target (view_met_up old) sight) where
    same_form : end_form (old.opening).setup (sight.reserving).seen
        ≡ end_form setup (sight.reserving).seen
    same_form = ap (λ (s : Setup). end_form s (sight.reserving).seen) own

    sees_own : end_of_own setup.seg_size (old.reserving).entries ≤ end
        → end_of_own setup.seg_size (old.reserving).entries
        ≤ end_form (old.opening).setup (sight.reserving).seen
    sees_own low =
        let size = ap (λ (s : Setup). s.seg_size) own in
        let begun = sees.begun in
        elim (reserved_since setup valid end old sight sees.rises had.reserved) [
          | inl below ↦ omega (arith, low, below, size, begun)
          | inr below ↦ omega (arith, low, below, same_form)
        ]

    page_seen : end_of_own setup.seg_size (old.reserving).entries ≤ end
        → page_start (end_of_own setup.seg_size (old.reserving).entries)
        ≤ page_of_end old (sight.reserving).seen
    page_seen low = page_rises (end_of_own setup.seg_size (old.reserving).entries)
        (end_form (old.opening).setup (sight.reserving).seen) (sees_own low)

    reaches_page : end_of_own setup.seg_size (old.reserving).entries ≤ end
        → flushed < target
        → page_start (end_of_own setup.seg_size (old.reserving).entries) ≤ target
    reaches_page low above = elim sees.target_is [
      | inl page ↦ (let is = page.1 in omega (arith, page_seen low, is))
      | inr async ↦ (let below = async.0 in omega (arith, page_seen low, below, above))
    ]

  -- unless it is told that the disk has failed, what is kept is no less than the pass's own end
  own_low : {A : Type 0} (answer : Result A FlushErr) (done : A) → answer ≡ Ok done
      → ((faults : ℕ) → KnowsDown faults old → answer ≡ Err (flushes.Down faults))
      → end_of_own setup.seg_size (old.reserving).entries ≤ end
  own_low answer done is again = elim had.own [
    | inl low ↦ low
    | inr known ↦ absurd (never_both answer done (flushes.Down known.0) is
        (again known.0 known.1))
  ]

  module _ (new : View) where
    caught_up : (answer : Result Caught FlushErr) → AnswersBehind old answer new
        → ((faults : ℕ) → KnowsDown faults old → answer ≡ behind_known_down faults)
        → Leaves setup.seg_size (log_limit setup) (old.reserving).number WriteBehind
        (told_of_caught answer) (pass_state_of old) (pass_state_of new)
    caught_up (Ok (caught.Flushed done)) told again =
        let low = own_low (Ok (caught.Flushed done)) (caught.Flushed done) refl again in
        let page = reaches_page told.found.flushed told.target told.found.sight told.found.sees low
        told.found.above in
        record {
          behind = record {
            page = (let far = told.told.0.reached in omega (arith, page, far));
            furthest = told.told.0.latest.addresses;
          };
          log_is = told.told.0.log_is;
        }
    caught_up (Ok (caught.Idle upto)) told again =
        let low = own_low (Ok (caught.Idle upto)) (caught.Idle upto) refl again in
        let page = page_seen upto.0 new.async_met new told.sees low in record {
          behind = record {
            page = (let below = told.page in omega (arith, page, below));
            furthest = told.sees.furthest;
          };
          ahead = told.async;
          reserved = (let within = told.sees.flushed_low in
              omega (arith, within, same_form upto.0 new.async_met new told.sees));
          log_is = told.log_is;
        }
    caught_up (Err (flushes.Disk faults)) why again =
        (why.0, (why.1.2.down.some, inr why.1.2.down.set))
    caught_up (Err (flushes.Down faults)) why again = (why.0, (why.1.some, inl why.1.met))
    caught_up (Err (flushes.Unreserved found)) why again = absurd why.1

    caught_caused : (answer : Result Caught FlushErr) → AnswersBehind old answer new
        → TellsCause (told_of_caught answer) (pass_state_of old) (pass_state_of new)
    caught_caused (Ok (caught.Flushed done)) told = (told.told.0.up.met, told.told.0.up.set)
    caught_caused (Ok (caught.Idle upto)) told = (told.up.met, told.up.set)
    caught_caused (Err (flushes.Disk faults)) why = why.1.2.down.set
    caught_caused (Err (flushes.Down faults)) why = (why.1.met, why.1.set_none)
    caught_caused (Err (flushes.Unreserved found)) why = absurd why.1

    pub plays_behind : KeepsPass old new → (answer : Result Caught FlushErr) (told : Told)
        → told ≡ told_of_caught answer → AnswersBehind old answer new
        → ((faults : ℕ) → KnowsDown faults old → answer ≡ behind_known_down faults)
        → PlaysLine setup.seg_size (log_limit setup) (old.reserving).number WriteBehind told
        (pass_state_of old) (pass_state_of new)
    plays_behind keeps answer told is answers again = record {
      writable = tt;
      leaves = subst (λ (t : Told). Leaves setup.seg_size (log_limit setup)
          (old.reserving).number WriteBehind t (pass_state_of old) (pass_state_of new)) (sym is)
          (caught_up answer answers again);
      cause = subst (λ (t : Told). TellsCause t (pass_state_of old) (pass_state_of new)) (sym is)
          (caught_caused answer answers);
      counts = keeps.counts;
      async = tt;
      sees = keeps.rises;
      again = λ faults knows. is ∙ ap told_of_caught (again faults knows);
    }
