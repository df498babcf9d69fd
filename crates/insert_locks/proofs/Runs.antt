-- A run of locks: which ones they are, and what is told and left under them, one by one.
use Rattle.std.specs.Prelude.{if◌then◌else◌, ◌==◌}
use Rattle.std.proofs.Common.{◌≡◌, ◌≢◌, ℕ, zero, suc, ◌+◌, ◌-◌, ◌<◌, ◌≤◌, Bool, cond, not, eq-eqb, ne_eqb, List, [], ◌∷◌, ◌++◌, length, slice_index_or, Contains, refl, sym, ap, ◌∙◌, subst, arith}
use Rattle.std.proofs.lemmas.List.Elements.{Contains-append_left, Contains-push}
use mathlib.Core.Logic.{dite}
use mathlib.Core.Option.{none}
use native.Mathlib.Decide.{ℕ_discrete}
use Rattle.wal_page.specs.EntryWords.{words_owned}
use Rattle.machine_state.specs.Moves.{after_advance, landed, standing, with_told, with_working, without_lock}
use Rattle.machine_state.specs.Steps.{advance, release, view_behind, MayStep}
use Rattle.machine_state.specs.Views.{Copy, Copying, Flight, Landed, View}
use Rattle.machine_state.proofs.Landing.{is_among_them}
use Rattle.wal_rule.specs.declared.seated.SeatedPass.{SeatedPass}
use Rattle.wal_rule.specs.SeatedPasses.{HasView, Steps, hand_of, view_of}
use Rattle.insert_locks.specs.Holding.{AreLocks, HasTold, NothingLeft, lock_run}

-- ---- which ones they are

pub run_length : (first count : ℕ) → length (lock_run first count) ≡ count
run_length first zero = refl
run_length first (suc count) = ap suc (run_length (first + 1) count)

run_at : (first count k other : ℕ) → k < count
    → slice_index_or (lock_run first count) k other ≡ first + k
run_at first zero k other less = absurd (omega (arith, less))
run_at first (suc count) zero other less = omega arith
run_at first (suc count) (suc k) other less =
    let rest = run_at (first + 1) count k other (omega (arith, less)) in omega (arith, rest)

pub run_has : (first count lock : ℕ) → first ≤ lock → lock < first + count
    → Contains (lock_run first count) lock
run_has first count lock low high =
    let there = run_at first count (lock - first) lock (omega (arith, low, high)) in
    let all = run_length first count in
    (lock - first, omega (arith, all, low, high), omega (arith, there, low))

run_below : (first count lock : ℕ) → Contains (lock_run first count) lock → lock < first + count
run_below first count lock (k, less, is) =
    let all = run_length first count in
    let there = run_at first count k lock (omega (arith, less, all)) in
    omega (arith, there, is, less, all)

pub run_first : (first count : ℕ) → Contains (lock_run first (suc count)) first
run_first first count = (0, omega arith, refl)

-- with one lock more behind them
run_push : (first count : ℕ)
    → lock_run first count ++ (first + count) ∷ [] ≡ lock_run first (suc count)
run_push first zero = ap (λ (n : ℕ). n ∷ []) (omega arith)
run_push first (suc count) =
    ap (λ (n : ℕ). first ∷ (lock_run (first + 1) count ++ n ∷ [])) (omega arith)
    ∙ ap (λ (locks : List ℕ). first ∷ locks) (run_push (first + 1) count)

pub run_more : (count : ℕ) → lock_run 0 count ++ count ∷ [] ≡ lock_run 0 (count + 1)
run_more count =
    let last : count ≡ 0 + count = omega arith in
    let more : suc count ≡ count + 1 = omega arith in
    ap (λ (n : ℕ). lock_run 0 count ++ n ∷ []) last ∙ run_push 0 count
    ∙ ap (λ (n : ℕ). lock_run 0 n) more

-- some of the eight are below a number, which is 8 at most
pub run_low : (count : ℕ) → AreLocks (lock_run 0 count) → count ≤ 8
run_low zero are = omega arith
run_low (suc count) are =
    let last = are count (run_has 0 (suc count) count (omega arith) (omega arith)) in
    omega (arith, last)

pub run_locks : (count : ℕ) → count ≤ 8 → AreLocks (lock_run 0 count)
run_locks count low lock has = let below = run_below 0 count lock has in omega (arith, below, low)

pub one_lock : (lock : ℕ) → lock < 8 → AreLocks (lock ∷ [])
one_lock lock low other has = let below = run_below lock 1 other has in omega (arith, below, low)

-- ---- an address is told under a run, from lock 0 up

-- under the locks below this number, which may be 0
pub record HasToldBelow {D : Type 0} (count upto : ℕ) (old new : SeatedPass D) : Type 0 where
  pub view : HasView
      (with_told (view_of new).told (view_of new).told_under (view_of old)) old new
  pub told : 0 < count → (view_of new).told ≡ upto
  pub each : (lock : ℕ) → lock < count → Contains (view_of new).told_under lock

pub none_told : {D : Type 0} (a : SeatedPass D) (upto : ℕ) → HasToldBelow 0 upto a a
none_told a upto = record {
  view = record { same_table = refl; me_is = refl };
  told = λ some. absurd (omega (arith, some));
  each = λ lock low. absurd (omega (arith, low));
}

-- under one lock, and under those too under which that was told last
abbrev under_more : (lock upto : ℕ) → View → List ℕ
under_more lock upto v = (if v.told == upto then v.told_under else []) ++ lock ∷ []

told_more : (lock upto : ℕ) (v : View) → Contains (under_more lock upto v) lock
told_more lock upto v = Contains-push (if v.told == upto then v.told_under else []) lock

told_still : (lock upto : ℕ) (v : View) → v.told ≡ upto → (other : ℕ)
    → Contains v.told_under other → Contains (under_more lock upto v) other
told_still lock upto v same other has = Contains-append_left _ (lock ∷ []) other
    (subst (λ (b : Bool). Contains (if b then v.told_under else []) other)
    (sym (eq-eqb v.told upto same)) has)

now_told : {D : Type 0} (a b : SeatedPass D) (lock upto : ℕ) → Steps (advance lock upto) 0 a b
    → view_of b ≡ with_told upto (under_more lock upto (view_of a)) (view_of a)
now_told a b lock upto step = ap (λ me. me.0) step.me_is

pub told_next : {D : Type 0} (a b c : SeatedPass D) (lock upto : ℕ) → HasToldBelow lock upto a b
    → Steps (advance lock upto) 0 b c → HasToldBelow (lock + 1) upto a c
told_next a b c lock upto before step =
    let now = now_told b c lock upto step in
    let told : (view_of c).told ≡ upto = ap (λ (v : View). v.told) now in
    let under : (view_of c).told_under ≡ under_more lock upto (view_of b) =
    ap (λ (v : View). v.told_under) now in record {
      view = record {
        same_table = step.same_table ∙ (before.view).same_table;
        me_is = step.me_is ∙ ap (λ me. (after_advance lock upto me.0, me.1)) (before.view).me_is
            ∙ ap (λ (x : ℕ × List ℕ). (with_told x.0 x.1 (view_of a), hand_of a))
            (λ j. (sym told j, sym under j));
      };
      told = λ some. told;
      each = λ other low. subst (λ (ls : List ℕ). Contains ls other) (sym under)
          (dite (ℕ_discrete other lock)
          (λ (is : other ≡ lock). subst
          (λ (n : ℕ). Contains (under_more lock upto (view_of b)) n) (sym is)
          (told_more lock upto (view_of b)))
          (λ (ne : other ≢ lock).
          let below : other < lock = omega (arith, ne, low) in
          told_still lock upto (view_of b) (before.told (omega (arith, below))) other
          (before.each other below)));
    }

pub told_all : {D : Type 0} (a b : SeatedPass D) (count upto : ℕ) → 0 < count
    → HasToldBelow count upto a b → HasTold (lock_run 0 count) upto a b
told_all a b count upto some all = record {
  under = (view_of b).told_under;
  each = λ lock has. let low = run_below 0 count lock has in all.each lock (omega (arith, low));
  view = subst (λ (n : ℕ). HasView (with_told n (view_of b).told_under (view_of a)) a b)
      (all.told some) all.view;
}

-- ---- a run is given back, from its first lock on

kept : (lock first count : ℕ) → lock < first
    → without_lock lock (lock_run first count) ≡ lock_run first count
kept lock first zero low = refl
kept lock first (suc count) low =
    let rest : List ℕ = without_lock lock (lock_run (first + 1) count) in
    ap (λ (b : Bool). cond (not b) (first ∷ rest) rest)
    (ne_eqb first lock (λ same. omega (arith, same, low)))
    ∙ ap (λ (locks : List ℕ). first ∷ locks) (kept lock (first + 1) count (omega (arith, low)))

run_left : (lock count : ℕ)
    → without_lock lock (lock_run lock (suc count)) ≡ lock_run (lock + 1) count
run_left lock count =
    let rest : List ℕ = without_lock lock (lock_run (lock + 1) count) in
    ap (λ (b : Bool). cond (not b) (lock ∷ rest) rest) (eq-eqb lock lock refl)
    ∙ kept lock (lock + 1) count (omega arith)

-- what is in flight under those that are left
abbrev pub flight_under : List ℕ → Flight → Flight
flight_under locks Landed = Landed
flight_under locks (Copying c) = standing c locks

standing_under : (c : Copy) (all locks : List ℕ)
    → standing (record c { locks = all }) locks ≡ standing c locks
standing_under c all [] = refl
standing_under c all (lock ∷ locks) = refl

run_lands : (lock count : ℕ) (f : Flight)
    → landed lock (flight_under (lock_run lock (suc count)) f)
    ≡ flight_under (lock_run (lock + 1) count) f
run_lands lock count Landed = refl
run_lands lock count (Copying c) =
    let all : List ℕ = lock_run lock (suc count) in
    let d : Copy = record c { locks = all } in
    ap (λ (b : Bool). cond b (standing d (without_lock lock all)) (Copying d))
    (is_among_them all lock (run_first lock count))
    ∙ ap (standing d) (run_left lock count)
    ∙ standing_under c all (lock_run (lock + 1) count)

-- a view with these locks left
abbrev pub left_with : List ℕ → View → View
left_with locks v = with_working locks (flight_under locks (v.working).flight) v

module _ (lock count : ℕ) (v : View) where
  pub first_released :
      view_behind (left_with (lock_run lock (suc count)) v) (release lock) 0 none
      ≡ left_with (lock_run (lock + 1) count) v
  first_released =
      let f : Flight = flight_under (lock_run lock (suc count)) (v.working).flight in
      ap (λ (locks : List ℕ). with_working locks (landed lock f) v) (run_left lock count)
      ∙ ap (λ (g : Flight). with_working (lock_run (lock + 1) count) g v)
      (run_lands lock count (v.working).flight)

  abbrev IsWhole : Flight → Type 0
  IsWhole Landed = Unit {0}
  IsWhole (Copying c) = c.copied ≡ words_owned ((v.opening).setup).seg_size c.entry

  whole_under : (all locks : List ℕ) (f : Flight) → NothingLeft (v.opening).setup all f
      → IsWhole (flight_under locks f)
  whole_under all locks Landed left = tt
  whole_under all [] (Copying c) left = tt
  whole_under all (lock ∷ locks) (Copying c) left = left.2

  pub may_release_first : (all : List ℕ)
      → NothingLeft (v.opening).setup all (v.working).flight
      → MayStep (left_with (lock_run lock (suc count)) v) (release lock)
  may_release_first all left = (
    run_first lock count,
    λ c is among. subst IsWhole is
        (whole_under all (lock_run lock (suc count)) (v.working).flight left),
  )

-- ---- at a pass's table

-- the first lock of a run that is left is given back
pub left_next : {D : Type 0} (a b c : SeatedPass D) (lock count left : ℕ) → count ≡ suc left
    → HasView (left_with (lock_run lock count) (view_of a)) a b → Steps (release lock) 0 b c
    → HasView (left_with (lock_run (lock + 1) left) (view_of a)) a c
left_next a b c lock count left more before step = record {
  same_table = step.same_table ∙ before.same_table;
  me_is = step.me_is
      ∙ ap (λ me. (view_behind me.0 (release lock) 0 none, me.1)) before.me_is
      ∙ ap (λ (n : ℕ). (
        view_behind (left_with (lock_run lock n) (view_of a)) (release lock) 0 none,
        hand_of a,
      )) more
      ∙ ap (λ (v : View). (v, hand_of a)) (first_released lock left (view_of a));
}

pub may_release_next : {D : Type 0} (a b : SeatedPass D) (lock count left : ℕ) → count ≡ suc left
    → HasView (left_with (lock_run lock count) (view_of a)) a b → (all : List ℕ)
    → NothingLeft ((view_of a).opening).setup all ((view_of a).working).flight
    → MayStep (view_of b) (release lock)
may_release_next a b lock count left more before all done = subst
    (λ (v : View). MayStep v (release lock))
    (sym (ap (λ me. me.0) before.me_is
    ∙ ap (λ (n : ℕ). left_with (lock_run lock n) (view_of a)) more))
    (may_release_first lock left (view_of a) all done)
