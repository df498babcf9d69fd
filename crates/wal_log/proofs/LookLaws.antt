-- A flush looks at the flushed address before it does more: what is told of its last try is told of
-- the flush.
use Rattle.std.specs.Prelude.{Result, Ok, Err}
use Rattle.std.proofs.Common.{◌≡◌, ◌⊎◌, ℕ, inl, inr, sym, ap, subst, ◌∙◌}
use mathlib.Core.Option.{none}
use Rattle.wal_types.specs.declared.answers.Hard.{Hard}
use Rattle.machine_state.specs.Steps.{load_down, view_behind}
use Rattle.machine_state.specs.Views.{View}
use Rattle.insert_locks.specs.Watching.{with_sight}
use Rattle.wal_rule.specs.declared.seated.SeatedPass.{SeatedPass}
use Rattle.wal_rule.specs.SeatedPasses.{view_of}
use Rattle.wal_log.specs.declared.flushing.TryFlushErr.{TryFlushErr}
use Rattle.wal_log.specs.declared.flushing.TryFlushErr.TheVariants as tries
use Rattle.wal_log.specs.Downs.{KnowsNoFault}
use Rattle.wal_log.specs.Flushing.{FindsUnflushed, LoadsHard, MeetsUnflushed, TriesOnlyUnflushed, TryEndsAtOnce, view_looked}
use Rattle.wal_log.specs.Standing.{SeesMore}
use Rattle.wal_log.proofs.Seated.{view_is}

-- a look that finds the disk up changes nothing of a view that knows of no fault
up_again : (v : View) → KnowsNoFault v → view_behind v load_down 0 none ≡ v
up_again v up =
    ap (λ (n : ℕ). record v { writing = record v.writing { down_met = n } }) (sym up.met)

pub looked_is : (v new : View) (seen : ℕ) → KnowsNoFault v → new ≡ with_sight seen v
    → new ≡ view_looked 0 seen v
looked_is v new seen up is = is ∙ ap (λ (w : View). with_sight seen w) (sym (up_again v up))

module _ (asked : ℕ) (v mid : View) (seen : ℕ) (is : mid ≡ view_looked 0 seen v) where
  pub told_at_once : (new : View) (hard : Hard) → LoadsHard hard mid new
      → TriesOnlyUnflushed asked v (Ok hard) new
  told_at_once new hard loads = inl (seen, subst (λ (w : View). LoadsHard hard w new) is loads)

  pub found_unflushed : MeetsUnflushed asked mid → FindsUnflushed asked v
  found_unflushed meets = (seen, subst (λ (w : View). MeetsUnflushed asked w) is meets)

-- behind looks at the down value and the position, all is told of the view before them
module _ (asked : ℕ) (old mid new : View)
    (same : (down seen : ℕ) → view_looked down seen mid ≡ view_looked down seen old) where
  once_since : (r : Result Hard TryFlushErr) → TryEndsAtOnce mid r new → TryEndsAtOnce old r new
  once_since (Ok hard) told =
      (told.0, subst (λ (w : View). LoadsHard hard w new) (same 0 told.0) told.1)
  once_since (Err (tries.Disk n)) told = told
  once_since (Err (tries.Down n)) told = (told.0, told.1 ∙ same n told.0)
  once_since (Err (tries.Unreserved end)) told = (told.0, told.1 ∙ same 0 told.0)
  once_since (Err (tries.Behind lock word)) told = told
  once_since (Err (tries.Turn turn)) told = told

  pub tried_since : (r : Result Hard TryFlushErr) → TriesOnlyUnflushed asked mid r new
      → TriesOnlyUnflushed asked old r new
  tried_since r (inl once) = inl (once_since r once)
  tried_since r (inr found) =
      inr (found.0, subst (λ (w : View). MeetsUnflushed asked w) (same 0 found.0) found.1)

-- of the last try: before the first one only more was seen reserved
pub last_tried : {D : Type 0} → (asked : ℕ) (a b : SeatedPass D) (new : View)
    → SeesMore a b ⊎ FindsUnflushed asked (view_of a) → (r : Result Hard TryFlushErr)
    → TriesOnlyUnflushed asked (view_of b) r new → TriesOnlyUnflushed asked (view_of a) r new
last_tried asked a b new (inl sees) r tried = tried_since asked (view_of a) (view_of b) new
    (λ down seen. ap (view_looked down seen) (view_is sees.view)) r tried
last_tried asked a b new (inr found) r tried = inr found

-- a lock or the turn was in its way
pub only_found : (asked : ℕ) (v : View) → ⊥ ⊎ FindsUnflushed asked v → FindsUnflushed asked v
only_found asked v (inl never) = absurd never
only_found asked v (inr found) = found
