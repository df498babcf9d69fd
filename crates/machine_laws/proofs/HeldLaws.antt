-- Who holds which insertion lock, through each kind of step that changes a lock's word, the locks
-- that a view holds, or its entry in flight. `lock'` is the words of locks behind the step.
use Rattle.std.proofs.Common.{arith, ◌≡◌, ◌≢◌, ℕ, ◌+◌, ◌<◌, ◌≤◌, Bool, not, cond, eqb, eq-eqb, ne_eqb, List, [], ◌∷◌, ◌++◌, length, set, Contains, sym, refl, ap, ◌∙◌, subst, ⊎_elim}
use Rattle.std.proofs.lemmas.List.Elements.{Contains-append_left, Contains-push, Contains-push_cases}
use mathlib.Core.Logic.{dite}
use native.Mathlib.Decide.{ℕ_discrete}
use Rattle.atomic_table.proofs.Lists.{set_else, set_again, at_longer, at_last}
use Rattle.machine_state.specs.Views.{HasAt, Copy, Flight, Landed, Copying, Working, AreSomeOf, View, working_of}
use Rattle.machine_state.specs.Locked.{AreHeld}
use Rattle.machine_state.specs.Moves.{landed, without_lock, one_more, with_working, after_take_lock}
use Rattle.machine_state.specs.Steps.{exchanged}
use Rattle.machine_laws.specs.Locks.{ChangesAt, idle}
use Rattle.machine_state.proofs.Landing.{landed_was, none_lands}
use Rattle.machine_state.proofs.Lists.{one_set, one_added, at_same, at_place}
use Rattle.machine_laws.proofs.LocksKept.{met_cases, kept, kept_was, none_in_nothing, two_set_again}

-- the locks but one: what is left was there, and what was there is left
pub was_there : (i : ℕ) (locks : List ℕ) (j : ℕ) → Contains (without_lock i locks) j
    → Contains locks j × (j ≢ i)
was_there i locks j has =
    let was = kept_was (λ (one : ℕ). not (eqb one i)) locks j has in
    (was.0, λ e. let same = ap not (eq-eqb j i e) in let other = was.1 in cc)

pub still_there : (i : ℕ) (locks : List ℕ) (j : ℕ) → Contains locks j → j ≢ i
    → Contains (without_lock i locks) j
still_there i locks j has ne =
    kept (λ (one : ℕ). not (eqb one i)) locks j has (ap not (ne_eqb j i ne))

pub copying_same : (x y : Copy) → Copying x ≡ Copying y → x ≡ y
copying_same x y same = cc

-- of the locks of an entry, those that a release leaves are still held
module _ (i : ℕ) (few all : List ℕ) (some : AreSomeOf few all) where
  holds_still : (Contains few i → ⊥) → AreSomeOf few (without_lock i all)
  holds_still none = (
    some.0,
    λ j has. still_there i all j (some.1 j has)
        (λ e. none (subst (λ (n : ℕ). Contains few n) e has)),
  )

  holds_rest : 1 ≤ length (without_lock i few)
      → AreSomeOf (without_lock i few) (without_lock i all)
  holds_rest left = (
    left,
    λ j has. let was = was_there i few j has in still_there i all j (some.1 j was.0) was.1,
  )

released_under : (i : ℕ) (w : Working) (c : Copy) → landed i w.flight ≡ Copying c
    → ((d : Copy) → w.flight ≡ Copying d → AreSomeOf d.locks w.locks)
    → AreSomeOf c.locks (without_lock i w.locks)
released_under i w c is under =
    let was = landed_was i w.flight c is in
    let d : Copy = was.0 in
    ⊎_elim
    (λ t. subst (λ (x : Copy). AreSomeOf x.locks (without_lock i w.locks)) t.1
    (holds_still i d.locks w.locks (under d was.1) t.0))
    (λ t. subst (λ (x : Copy). AreSomeOf x.locks (without_lock i w.locks)) t.1
    (holds_rest i d.locks w.locks (under d was.1) t.2))
    was.2

module _ (lock : ℕ → ℕ) (parts : List Working) (k : AreHeld lock parts) where
  -- what a view holds is no free lock's, and two views hold none together
  pub held_is_not : (id i m : ℕ) (w : Working) → HasAt parts id w → Contains w.locks m → lock i ≡ 0
      → m ≢ i
  held_is_not id i m w here has free e = (k.each id m w here has).2 (ap lock e ∙ free)

  pub held_is_other : (id j i m : ℕ) (w u : Working) → HasAt parts id w → Contains w.locks i
      → HasAt parts j u → Contains u.locks m → j ≢ id → m ≢ i
  held_is_other id j i m w u here mine at has apart e = apart
      (sym (k.each j m u at has).1 ∙ ap k.holder e ∙ (k.each id i w here mine).1)

  pub held_by_one : (id j i : ℕ) (w u : Working) → HasAt parts id w → Contains w.locks i
      → HasAt parts j u → Contains u.locks i → u ≡ w
  held_by_one id j i w u here mine at has =
      let same : j ≡ id = sym (k.each j i u at has).1 ∙ (k.each id i w here mine).1 in
      at_same parts u w id (subst (λ (n : ℕ). HasAt parts n u) same at) here

  -- words that are 0 where they were leave all that is held
  pub held_rewritten : (lock' : ℕ → ℕ) → ((j : ℕ) → j < 8 → lock j ≢ 0 → lock' j ≢ 0)
      → ((j : ℕ) → j < 8 → lock' j ≢ 0 → lock j ≢ 0) → AreHeld lock' parts
  held_rewritten lock' stays was = record {
    holder = k.holder;
    each = λ j m u at has. let t = k.each j m u at has in (t.0, t.1, stays m t.0 t.2);
    held = λ m low taken. k.held m low (was m low taken);
    under = k.under;
  }

  pub held_same : (lock' : ℕ → ℕ) → ((j : ℕ) → j < 8 → lock' j ≡ lock j) → AreHeld lock' parts
  held_same lock' same = held_rewritten lock'
      (λ j low taken free. taken (sym (same j low) ∙ free))
      (λ j low taken free. taken (same j low ∙ free))

  -- a view that has nothing in hand comes in
  pub held_added : AreHeld lock (parts ++ idle ∷ [])
  held_added = record {
    holder = k.holder;
    each = λ j m u at. one_added
        (λ j u. Contains u.locks m → (m < 8) × (k.holder m ≡ j) × (lock m ≢ 0)) parts idle
        (λ j u at. k.each j m u at) (λ has. absurd (none_in_nothing m has)) j u at;
    held = λ m low taken. let h = k.held m low taken in
        (h.0, at_longer parts (idle ∷ []) (k.holder m) h.0 h.1, h.2);
    under = λ j u c at. one_added
        (λ j u. u.flight ≡ Copying c → AreSomeOf c.locks u.locks) parts idle
        (λ j u at. k.under j u c at) (λ is. absurd (none_lands c is)) j u at;
  }

  module _ (id : ℕ) (w : Working) (here : HasAt parts id w) where
    -- whoever holds a lock holds it behind a step of this view by which it keeps the lock
    still_held : (w' : Working) (i n : ℕ) → (Contains w.locks i → Contains w'.locks i)
        → (u : Working) → HasAt parts n u → Contains u.locks i
        → (x : Working) × HasAt (set parts id w') n x × Contains x.locks i
    still_held w' i n keeps u at has = dite (ℕ_discrete n id)
        (λ e.
        let same : u ≡ w = at_same parts u w id (subst (λ (m : ℕ). HasAt parts m u) e at) here in (
          w',
          subst (λ (m : ℕ). HasAt (set parts id w') m w') (sym e) (at_place parts id w w' here),
          keeps (subst (λ (x : Working). Contains x.locks i) same has),
        ))
        (λ ne. (u, set_else parts id n w' ne ∙ at, has))

    -- the entry in flight changes to one under a lock that the view holds
    pub held_with_flight : (f : Flight) → ((c : Copy) → f ≡ Copying c → AreSomeOf c.locks w.locks)
        → AreHeld lock (set parts id (record { locks = w.locks; flight = f }))
    held_with_flight f under =
        let new : Working = record { locks = w.locks; flight = f } in
        record {
          holder = k.holder;
          each = λ j m u at. one_set
              (λ j u. Contains u.locks m → (m < 8) × (k.holder m ≡ j) × (lock m ≢ 0)) parts id new
              (λ j u apart at. k.each j m u at) (k.each id m w here) j u at;
          held = λ m low taken. let h = k.held m low taken in
              still_held new m (k.holder m) (λ has. has) h.0 h.1 h.2;
          under = λ j u c at. one_set (λ j u. u.flight ≡ Copying c → AreSomeOf c.locks u.locks)
              parts id new (λ j u apart at. k.under j u c at) (under c) j u at;
        }

    pub held_copied_on : AreHeld lock
        (set parts id (record { locks = w.locks; flight = one_more w.flight }))
    held_copied_on = held_with_flight (one_more w.flight)
        (λ c is. before w.flight c is (λ d is. k.under id w d here is))
      where
        before : (f : Flight) (c : Copy) → one_more f ≡ Copying c
            → ((d : Copy) → f ≡ Copying d → AreSomeOf d.locks w.locks)
            → AreSomeOf c.locks w.locks
        before Landed c is was = absurd (none_lands c is)
        before (Copying d) c is was =
            let same : d.locks ≡ c.locks = ap (λ (x : Copy). x.locks)
            (copying_same (record d { copied = d.copied + 1 }) c is) in
            subst (λ (few : List ℕ). AreSomeOf few w.locks) same (was d refl)

    -- a free lock is taken
    pub held_taken : (lock' : ℕ → ℕ) (i : ℕ) → i < 8 → lock i ≡ 0 → lock' i ≢ 0
        → ChangesAt lock lock' i
        → AreHeld lock' (set parts id (record { locks = w.locks ++ i ∷ []; flight = w.flight }))
    held_taken lock' i low free taken same =
        let new : Working = record { locks = w.locks ++ i ∷ []; flight = w.flight } in
        let holder : ℕ → ℕ = λ j. cond (eqb j i) id (k.holder j) in
        let holder_i : (j : ℕ) → j ≡ i → holder j ≡ id
        = λ j e. ap (λ (b : Bool). cond b id (k.holder j)) (eq-eqb j i e) in
        let holder_else : (j : ℕ) → j ≢ i → holder j ≡ k.holder j
        = λ j ne. ap (λ (b : Bool). cond b id (k.holder j)) (ne_eqb j i ne) in
        let before : (j m : ℕ) (u : Working) → HasAt parts j u → Contains u.locks m
        → (m < 8) × (holder m ≡ j) × (lock' m ≢ 0)
        = λ j m u at has. let t = k.each j m u at has in
        let ne = held_is_not j i m u at has free in
        (t.0, holder_else m ne ∙ t.1, λ z. t.2 (sym (same m t.0 ne) ∙ z)) in
        record {
          holder = holder;
          each = λ j m u at. one_set
              (λ j u. Contains u.locks m → (m < 8) × (holder m ≡ j) × (lock' m ≢ 0)) parts id new
              (λ j u apart at. before j m u at)
              (λ has. ⊎_elim (λ old. before id m w here old)
              (λ (e : i ≡ m). (
                subst (λ (n : ℕ). n < 8) e low,
                holder_i m (sym e),
                λ z. taken (ap lock' e ∙ z),
              ))
              (Contains-push_cases w.locks i m has))
              j u at;
          held = λ m below now. dite (ℕ_discrete m i)
              (λ e. (
                new,
                subst (λ (n : ℕ). HasAt (set parts id new) n new) (sym (holder_i m e))
                    (at_place parts id w new here),
                subst (λ (n : ℕ). Contains (w.locks ++ i ∷ []) n) (sym e) (Contains-push w.locks i),
              ))
              (λ ne.
              let h = k.held m below (λ z. now (same m below ne ∙ z)) in
              let s = still_held new m (k.holder m)
              (λ has. Contains-append_left w.locks (i ∷ []) m has) h.0 h.1 h.2 in (
                s.0,
                subst (λ (n : ℕ). HasAt (set parts id new) n s.0) (sym (holder_else m ne)) s.1,
                s.2,
              ));
          under = λ j u c at. one_set (λ j u. u.flight ≡ Copying c → AreSomeOf c.locks u.locks)
              parts id new (λ j u apart at. k.under j u c at)
              (λ is. let some = k.under id w c here is in (
                some.0,
                λ n has.
                    Contains-append_left w.locks (i ∷ []) n (some.1 n has),
              )) j u at;
        }

    -- a lock is given back
    pub held_released : (lock' : ℕ → ℕ) (i : ℕ) → Contains w.locks i → lock' i ≡ 0
        → ChangesAt lock lock' i
        → AreHeld lock' (set parts id (record {
          locks = without_lock i w.locks;
          flight = landed i w.flight;
        }))
    held_released lock' i mine free same =
        let new : Working
        = record { locks = without_lock i w.locks; flight = landed i w.flight } in
        let before : (j m : ℕ) (u : Working) → HasAt parts j u → Contains u.locks m → m ≢ i
        → (m < 8) × (k.holder m ≡ j) × (lock' m ≢ 0)
        = λ j m u at has ne. let t = k.each j m u at has in
        (t.0, t.1, λ z. t.2 (sym (same m t.0 ne) ∙ z)) in
        record {
          holder = k.holder;
          each = λ j m u at. one_set
              (λ j u. Contains u.locks m → (m < 8) × (k.holder m ≡ j) × (lock' m ≢ 0)) parts id new
              (λ j u apart at has.
              before j m u at has (held_is_other id j i m w u here mine at has apart))
              (λ has. let was = was_there i w.locks m has in
              before id m w here was.0 was.1) j u at;
          held = λ m below now. let ne : m ≢ i = λ e. now (ap lock' e ∙ free) in
              let h = k.held m below (λ z. now (same m below ne ∙ z)) in
              still_held new m (k.holder m)
              (λ has. still_there i w.locks m has ne) h.0 h.1 h.2;
          under = λ j u c at. one_set (λ j u. u.flight ≡ Copying c → AreSomeOf c.locks u.locks)
              parts id new (λ j u apart at. k.under j u c at)
              (λ is. released_under i w c is (λ d is. k.under id w d here is)) j u at;
        }

    -- what a view has in hand goes to a new one
    pub held_given_up : AreHeld lock (set parts id idle ++ w ∷ [])
    held_given_up =
        let rest : List Working = set parts id idle in
        let new : ℕ = length rest in
        let holder : ℕ → ℕ = λ j. cond (eqb (k.holder j) id) new (k.holder j) in
        let holder_own : (j : ℕ) → k.holder j ≡ id → holder j ≡ new
        = λ j e. ap (λ (b : Bool). cond b new (k.holder j)) (eq-eqb (k.holder j) id e) in
        let holder_else : (j : ℕ) → k.holder j ≢ id → holder j ≡ k.holder j
        = λ j ne. ap (λ (b : Bool). cond b new (k.holder j)) (ne_eqb (k.holder j) id ne) in
        record {
          holder = holder;
          each = λ j m u at. one_added
              (λ j u. Contains u.locks m → (m < 8) × (holder m ≡ j) × (lock m ≢ 0)) rest w
              (λ j u at. one_set
              (λ j u. Contains u.locks m → (m < 8) × (holder m ≡ j) × (lock m ≢ 0)) parts id idle
              (λ j u apart at has. let t = k.each j m u at has in
              (t.0, holder_else m (λ e. apart (sym t.1 ∙ e)) ∙ t.1, t.2))
              (λ has. absurd (none_in_nothing m has)) j u at)
              (λ has. let t = k.each id m w here has in (t.0, holder_own m t.1, t.2)) j u at;
          held = λ m low taken. let h = k.held m low taken in dite (ℕ_discrete (k.holder m) id)
              (λ e.
              let same : h.0 ≡ w = at_same parts h.0 w id
              (subst (λ (n : ℕ). HasAt parts n h.0) e h.1) here in (
                w,
                subst (λ (n : ℕ). HasAt (rest ++ w ∷ []) n w) (sym (holder_own m e))
                    (at_last rest w new refl),
                subst (λ (x : Working). Contains x.locks m) same h.2,
              ))
              (λ ne. (
                h.0,
                subst (λ (n : ℕ). HasAt (rest ++ w ∷ []) n h.0) (sym (holder_else m ne))
                    (at_longer rest (w ∷ []) (k.holder m) h.0
                    (set_else parts id (k.holder m) idle ne ∙ h.1)),
                h.2,
              ));
          under = λ j u c at. one_added
              (λ j u. u.flight ≡ Copying c → AreSomeOf c.locks u.locks) rest w (λ j u at. one_set
              (λ j u. u.flight ≡ Copying c → AreSomeOf c.locks u.locks) parts id idle
              (λ j u apart at. k.under j u c at) (λ is. absurd (none_lands c is)) j u at)
              (k.under id w c here) j u at;
        }

    -- one that has nothing in hand is taken in
    pub held_taken_in : (other : ℕ) (x : Working) → HasAt parts other x → x.locks ≡ []
        → x.flight ≡ Landed → AreHeld lock (set (set parts other idle) id w)
    held_taken_in other x there none lands =
        let rests : idle ≡ x = λ t. record { locks = sym none t; flight = sym lands t } in
        subst (λ (xs : List Working). AreHeld lock xs)
        (sym (two_set_again parts id other w x idle here there rests)) k

    -- a lock that the view holds comes to tell more
    pub held_told : (lock' : ℕ → ℕ) (i : ℕ) → Contains w.locks i → ChangesAt lock lock' i
        → lock' i ≢ 0 → AreHeld lock' parts
    held_told lock' i mine same taken = held_rewritten lock'
        (λ j low was. dite (ℕ_discrete j i) (λ e z. taken (ap lock' (sym e) ∙ z))
        (λ ne z. was (sym (same j low ne) ∙ z)))
        (λ j low now. dite (ℕ_discrete j i)
        (λ e z. (k.each id i w here mine).2 (ap lock (sym e) ∙ z))
        (λ ne z. now (same j low ne ∙ z)))

    pub held_begun : (c : Copy) → AreSomeOf c.locks w.locks
        → AreHeld lock (set parts id (record { locks = w.locks; flight = Copying c }))
    held_begun c mine = held_with_flight (Copying c) (λ d is.
        subst (λ (x : Copy). AreSomeOf x.locks w.locks) (copying_same c d is) mine)

    -- a lock is asked for: it is taken where it is free
    pub held_asked : (v : View) → v.working ≡ w → (lock' : ℕ → ℕ) (i : ℕ) → i < 8
        → ChangesAt lock lock' i → lock' i ≡ exchanged v 0 1 (lock i)
        → AreHeld lock' (set parts id (working_of (after_take_lock i (lock i) v)))
    held_asked v mine lock' i low same is = met_cases
        (λ (b : Bool). lock' i ≡ cond b 1 (lock i) → AreHeld lock' (set parts id (working_of
        (cond b (with_working ((v.working).locks ++ i ∷ []) (v.working).flight v) v))))
        (lock i) 0
        (λ free one. subst (λ (x : Working). AreHeld lock'
        (set parts id (record { locks = x.locks ++ i ∷ []; flight = x.flight }))) (sym mine)
        (held_taken lock' i low free (λ z. let no = sym z ∙ one in omega arith) same))
        (λ taken stays. subst (λ (xs : List Working). AreHeld lock' xs)
        (sym (ap (λ (x : Working). set parts id x) mine ∙ set_again parts id w here))
        (held_same lock' (λ j below. dite (ℕ_discrete j i)
        (λ e. ap lock' e ∙ stays ∙ ap lock (sym e)) (same j below))))
        is
