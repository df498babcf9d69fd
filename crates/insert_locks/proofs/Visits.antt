-- A watch goes from lock to lock, as the pass's view has it.
use Rattle.std.proofs.Common.{◌≡◌, ◌≢◌, ℕ, ◌+◌, ◌-◌, ◌<◌, ◌≤◌, ◌&&◌, ◌||◌, Bool, true, false, cond, eqb, not, min, refl, sym, ap, subst, ◌∙◌, ⊎_elim, eq-eqb, ne_eqb, arith}
use Rattle.machine_laws.proofs.LocksKept.{met_cases}
use Rattle.machine_state.specs.Words.{end_form}
use Rattle.machine_state.specs.Views.{Watching, View}
use Rattle.machine_state.specs.Moves.{begun, is_own, visited_on}
use Rattle.machine_state.specs.Steps.{load_lock}
use Rattle.wal_rule.specs.Stepping.{Meets}
use Rattle.insert_locks.specs.Watching.{HoldsBack, IsHeldBack, LetsPass, bound_behind, watched_to, with_sight, with_watching}

-- ---- one lock

module _ (asked end lock word bound : ℕ) (passes : LetsPass asked word) where
  not_one : word ≢ 1
  not_one = ⊎_elim (λ (free : word ≡ 0) (one : word ≡ 1). omega (arith, free, one))
      (λ (t : (word ≢ 1) × (asked < word)). t.0) passes

  -- a lock that lets the watch pass
  pub passed : (own : Bool) → visited_on own lock word (watched_to end lock bound)
      ≡ watched_to end (lock + 1) (bound_behind word bound)
  passed true =
      let on : Bool → Watching = λ b. watched_to end (lock + 1)
      (cond (b || eqb word 0) bound (min bound (word - 1))) in
      ap (λ (b : Bool). cond (b && true) (on (eqb word 1)) (watched_to end lock bound))
      (eq-eqb lock lock refl)
      ∙ ap on (ne_eqb word 1 not_one)
  passed false =
      let on : Watching = watched_to end (lock + 1) (bound_behind word bound) in
      ap (λ (b : Bool). cond (b && not (eqb word 1)) on (watched_to end lock bound))
      (eq-eqb lock lock refl)
      ∙ ap (λ (b : Bool). cond (not b) on (watched_to end lock bound)) (ne_eqb word 1 not_one)

  -- it tells no less than what is asked for
  pub still_reaches : asked ≤ bound → asked ≤ bound_behind word bound
  still_reaches reaches = met_cases (λ (b : Bool). asked ≤ cond b bound (min bound (word - 1)))
      word 0 (λ free. reaches)
      (λ held. ⊎_elim (λ (free : word ≡ 0). absurd (held free))
      (λ (t : (word ≢ 1) × (asked < word)). (let more = t.1 in omega (arith, more, reaches)))
      passes)

  pub still_within : bound ≤ end → bound_behind word bound ≤ end
  still_within within = met_cases (λ (b : Bool). cond b bound (min bound (word - 1)) ≤ end)
      word 0 (λ free. within) (λ held. omega (arith, within))

-- ---- all of them

-- behind some locks, which hold a watch for an address not back: `old` is the view before the watch
pub record WatchesOn (upto end bound lock : ℕ) (old new : View) : Type 0 where
  pub rises : (old.reserving).seen ≤ (new.reserving).seen
  pub end_is : end ≡ end_form (old.opening).setup (new.reserving).seen
  pub reaches : min upto end ≤ bound
  pub within : bound ≤ end
  pub is : new ≡ with_watching new.watching (with_sight (new.reserving).seen old)
  pub begins : begun lock end new ≡ watched_to end lock bound

module _ (upto end bound lock : ℕ) (old new newer : View)
    (k : WatchesOn upto end bound lock old new) (word : ℕ) (is : newer ≡ with_watching
    (visited_on (is_own lock new.working) lock word (begun lock end new))
    new) where
  met_is : newer ≡ with_watching
      (visited_on (is_own lock new.working) lock word (watched_to end lock bound)) new
  met_is = is ∙ ap (λ (x : Watching). with_watching
      (visited_on (is_own lock new.working) lock word x) new) k.begins

  -- a lock that holds the watch back
  pub held_here : lock < 8 → Meets new (load_lock lock end) word → HoldsBack (min upto end) word
      → IsHeldBack upto lock word old newer
  held_here low met holds =
      let held : View → View = λ v. with_watching
      (visited_on (is_own lock v.working) lock word (watched_to end lock bound)) v in
      subst (λ (w : View). IsHeldBack upto lock word old w) (sym met_is) (record {
        end = end;
        bound = bound;
        rises = k.rises;
        end_is = k.end_is;
        reaches = k.reaches;
        within = k.within;
        lock_low = low;
        before = new;
        before_is = k.is;
        met = met;
        holds_back = holds;
        new_is = ap held k.is;
      })

  pub watch_goes_on : LetsPass (min upto end) word
      → WatchesOn upto end (bound_behind word bound) (lock + 1) old newer
  watch_goes_on passes =
      let asked : ℕ = min upto end in
      let next : Watching = watched_to end (lock + 1) (bound_behind word bound) in
      subst (λ (w : View). WatchesOn upto end (bound_behind word bound) (lock + 1) old w)
      (sym (met_is ∙ ap (λ (x : Watching). with_watching x new)
      (passed asked end lock word bound passes (is_own lock new.working))))
      (record {
        rises = k.rises;
        end_is = k.end_is;
        reaches = still_reaches asked end lock word bound passes k.reaches;
        within = still_within asked end lock word bound passes k.within;
        is = ap (with_watching next) k.is;
        begins = ap (λ (b : Bool). cond b (record {
          end = min end (end_form (new.opening).setup (new.reserving).seen);
          visited = 0;
          bound = min end (end_form (new.opening).setup (new.reserving).seen);
        }) next) (ne_eqb (lock + 1) 0 (λ (e : lock + 1 ≡ 0). omega (arith, e)));
      })
