-- Whether an address is reserved goes by the position that is met first: what is told of a flush's
-- last try is told of the flush.
use Rattle.std.specs.Prelude.{Result, Ok, Err}
use Rattle.std.proofs.Common.{◌≡◌, ◌⊎◌, ℕ, ◌≤◌, inl, inr, subst, sym, arith}
use Rattle.byte_position.specs.Geometry.{IsSegmentSize}
use Rattle.byte_position.proofs.EndAddresses.{end_address_of-mono}
use Rattle.wal_types.specs.declared.answers.Hard.{Hard}
use Rattle.machine_state.specs.Steps.{load_down}
use Rattle.machine_state.specs.Views.{View}
use Rattle.machine_state.specs.Words.{Opening, end_form}
use Rattle.wal_rule.specs.declared.seated.SeatedPass.{SeatedPass}
use Rattle.wal_rule.specs.SeatedPasses.{view_of}
use Rattle.wal_rule.specs.Stepping.{Meets}
use Rattle.wal_log.specs.declared.flushing.TryFlushErr.{TryFlushErr}
use Rattle.wal_log.specs.declared.flushing.TryFlushErr.TheVariants as tries
use Rattle.wal_log.specs.Flushing.{AnswersFlushTry, IsToBeFlushed, IsUnreserved, JudgesFlush, JudgesFlushTry, MeetsReserved, SeesReserved, SeesUnreserved, SeesWhether, view_met_up}
use Rattle.wal_log.specs.Standing.{KeepsPass}
use Rattle.wal_log.proofs.FlushLaws.{answer_of}

-- ---- in a try

-- what a pass saw reserved no later position tells as unreserved
module _ (asked : ℕ) (mid new : View) (size : IsSegmentSize ((mid.opening).setup).seg_size)
    (low : asked ≤ end_form (mid.opening).setup (mid.reserving).seen) where
  never_unreserved : (end : ℕ) → IsUnreserved asked end mid new → ⊥
  never_unreserved end un =
      let higher = end_address_of-mono ((mid.opening).setup).seg_size size
      (mid.reserving).seen (new.reserving).seen un.rises in
      let above = un.above in
      let is = un.end_is in
      omega (arith, low, is, higher, above)

  pub sees_whether : (v : View) → SeesReserved asked v → (r : Result Hard TryFlushErr)
      → AnswersFlushTry asked mid r new → SeesWhether asked v r
  sees_whether v sees (Ok hard) told = sees
  sees_whether v sees (Err (tries.Disk n)) told = sees
  sees_whether v sees (Err (tries.Down n)) told = sees
  sees_whether v sees (Err (tries.Unreserved end)) told =
      absurd (never_unreserved end.0 told.0)
  sees_whether v sees (Err (tries.Behind lock word)) told = sees
  sees_whether v sees (Err (tries.Turn word)) told = sees

-- behind a down value of 0
pub tried_up : (asked : ℕ) (old mid : View) → mid ≡ view_met_up old → Meets old load_down 0
    → (r : Result Hard TryFlushErr) → SeesWhether asked mid r → JudgesFlushTry asked old r
tried_up asked old mid is up (Ok hard) sees = (up, subst (SeesReserved asked) is sees)
tried_up asked old mid is up (Err (tries.Disk n)) sees =
    (up, subst (SeesReserved asked) is sees)
tried_up asked old mid is up (Err (tries.Down n)) sees =
    inr (up, subst (SeesReserved asked) is sees)
tried_up asked old mid is up (Err (tries.Unreserved end)) sees =
    (up, subst (SeesUnreserved asked) is sees)
tried_up asked old mid is up (Err (tries.Behind lock word)) sees =
    (up, subst (SeesReserved asked) is sees)
tried_up asked old mid is up (Err (tries.Turn word)) sees =
    (up, subst (SeesReserved asked) is sees)

-- ---- over several tries

-- no try was made yet; or the first one met the address as reserved, and the pass has seen so much
abbrev pub HasJudged : {D : Type 0} → ℕ → SeatedPass D → SeatedPass D → Type 0
HasJudged asked a b = (b ≡ a) ⊎ (MeetsReserved asked (view_of a)
    × (asked ≤ end_form ((view_of b).opening).setup ((view_of b).reserving).seen))

judged_last : (asked : ℕ) (v : View) (r : Result Hard TryFlushErr) → JudgesFlushTry asked v r
    → JudgesFlush asked v (answer_of r)
judged_last asked v (Ok hard) judged = judged
judged_last asked v (Err (tries.Disk n)) judged = judged
judged_last asked v (Err (tries.Down n)) judged = judged
judged_last asked v (Err (tries.Unreserved end)) judged = judged
judged_last asked v (Err (tries.Behind lock word)) judged = judged
judged_last asked v (Err (tries.Turn word)) judged = judged

judged_later : (asked : ℕ) (v mid new : View)
    → IsSegmentSize ((mid.opening).setup).seg_size → MeetsReserved asked v
    → asked ≤ end_form (mid.opening).setup (mid.reserving).seen → (r : Result Hard TryFlushErr)
    → AnswersFlushTry asked mid r new → JudgesFlush asked v (answer_of r)
judged_later asked v mid new size meets low (Ok hard) told = meets
judged_later asked v mid new size meets low (Err (tries.Disk n)) told = meets
judged_later asked v mid new size meets low (Err (tries.Down n)) told = inr meets
judged_later asked v mid new size meets low (Err (tries.Unreserved end)) told =
    absurd (never_unreserved asked mid new size low end.0 told.0)
judged_later asked v mid new size meets low (Err (tries.Behind lock word)) told = meets
judged_later asked v mid new size meets low (Err (tries.Turn word)) told = meets

module _ {D : Type 0} (asked : ℕ) (a b : SeatedPass D) where
  -- of the last try
  pub last_judged : (new : View) → IsSegmentSize (((view_of b).opening).setup).seg_size
      → HasJudged asked a b → (r : Result Hard TryFlushErr) → JudgesFlushTry asked (view_of b) r
      → AnswersFlushTry asked (view_of b) r new → JudgesFlush asked (view_of a) (answer_of r)
  last_judged new size (inl same) r judged told = judged_last asked (view_of a) r
      (subst (λ (p : SeatedPass D). JudgesFlushTry asked (view_of p) r) same judged)
  last_judged new size (inr (meets, low)) r judged told =
      judged_later asked (view_of a) (view_of b) new size meets low r told

  first_meets : HasJudged asked a b → MeetsReserved asked (view_of b)
      → MeetsReserved asked (view_of a)
  first_meets (inl same) meets =
      subst (λ (p : SeatedPass D). MeetsReserved asked (view_of p)) same meets
  first_meets (inr (meets, low)) again = meets

  -- one more told nothing, since a lock or the turn was in its way, and other steps came behind it
  pub judged_again : (new : View) (c : SeatedPass D) → HasJudged asked a b
      → MeetsReserved asked (view_of b) → IsToBeFlushed asked new
      → IsSegmentSize ((new.opening).setup).seg_size → KeepsPass new (view_of c)
      → HasJudged asked a c
  judged_again new c judged meets to_be size keeps = inr (
    first_meets judged meets,
    subst (λ (o : Opening). asked ≤ end_form o.setup ((view_of c).reserving).seen)
        (sym keeps.opening)
        (let higher = end_address_of-mono ((new.opening).setup).seg_size size
        (new.reserving).seen ((view_of c).reserving).seen keeps.rises in
        let reserved = to_be.reserved in
        omega (arith, reserved, higher)),
  )
