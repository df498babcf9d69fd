-- What the words of insertion locks tell of the copies under them, through each kind of step that
-- changes a lock's word, the locks that a view holds, or its entry in flight. `lock'` is the words
-- of locks behind the step.
use Rattle.std.proofs.Common.{◌≡◌, ◌≢◌, ℕ, ◌+◌, ◌<◌, ◌≤◌, Bool, cond, List, [], ◌∷◌, ◌++◌, set, Contains, sym, ap, ◌∙◌, subst, ⊎_elim, arith}
use Rattle.std.proofs.lemmas.List.Elements.{Contains-push_cases}
use mathlib.Core.Logic.{dite}
use native.Mathlib.Decide.{ℕ_discrete}
use Rattle.atomic_table.proofs.Lists.{set_again}
use Rattle.wal_page.specs.EntryWords.{address_of_word}
use Rattle.machine_state.specs.Views.{HasAt, Copy, Flight, Landed, Copying, Working, View, working_of}
use Rattle.machine_state.specs.Locked.{AreHeld, ProgressHolds, most_told}
use Rattle.machine_state.specs.Moves.{landed, standing, without_lock, one_more, with_working, after_take_lock}
use Rattle.machine_state.specs.Steps.{exchanged}
use Rattle.machine_state.proofs.Landing.{among_cases, is_among_them}
use Rattle.machine_state.proofs.Lists.{one_set, one_added}
use Rattle.machine_laws.specs.Locks.{ChangesAt, idle}
use Rattle.machine_laws.proofs.LocksKept.{met_cases, none_in_nothing, two_set_again}
use Rattle.machine_laws.proofs.HeldLaws.{was_there, still_there, held_is_not, held_is_other, held_by_one}

module _ (size end : ℕ) where
  -- a lock may always tell nothing
  pub tells_nothing : (i : ℕ) (f : Flight) → 1 ≤ most_told size end i f
  tells_nothing i Landed = omega arith
  tells_nothing i (Copying c) = among_cases
      (λ (b : Bool). 1 ≤ cond b (address_of_word size c.entry c.copied + 1) (end + 1)) c.locks i
      (λ has. omega arith) (λ none. omega arith)

  -- a word more that is copied lets each lock tell as much as before
  pub tells_more : (i : ℕ) (f : Flight) → most_told size end i f ≤ most_told size end i (one_more f)
  tells_more i Landed = omega arith
  tells_more i (Copying c) = among_cases
      (λ (b : Bool). cond b (address_of_word size c.entry c.copied + 1) (end + 1)
      ≤ cond b (address_of_word size c.entry (c.copied + 1) + 1) (end + 1)) c.locks i
      (λ has. omega arith) (λ none. omega arith)

  pub told_of_copy : (c : Copy) (i : ℕ) → Contains c.locks i
      → most_told size end i (Copying c) ≡ address_of_word size c.entry c.copied + 1
  told_of_copy c i has = ap (λ (b : Bool). cond b (address_of_word size c.entry c.copied + 1) (end + 1))
      (is_among_them c.locks i has)

  -- an entry that loses locks lets one that it keeps tell as much as before
  tells_standing : (m : ℕ) (c : Copy) (locks : List ℕ) → (Contains c.locks m → Contains locks m)
      → (Contains locks m → Contains c.locks m)
      → most_told size end m (Copying c) ≤ most_told size end m (standing c locks)
  tells_standing m c [] keeps were = among_cases
      (λ (b : Bool). cond b (address_of_word size c.entry c.copied + 1) (end + 1) ≤ end + 1)
      c.locks m
      (λ has. absurd (none_in_nothing m (keeps has))) (λ none. omega arith)
  tells_standing m c (lock ∷ locks) keeps were =
      let d : Copy = record c { locks = lock ∷ locks } in among_cases
      (λ (b : Bool). cond b (address_of_word size c.entry c.copied + 1) (end + 1)
      ≤ most_told size end m (Copying d)) c.locks m
      (λ has. let most = told_of_copy d m (keeps has) in omega arith)
      (λ none. among_cases (λ (b : Bool). end + 1
      ≤ cond b (address_of_word size c.entry c.copied + 1) (end + 1)) (lock ∷ locks) m
      (λ has. absurd (none (were has))) (λ other. omega arith))

  -- a release leaves what the other locks may tell
  pub tells_still : (i m : ℕ) (f : Flight) → m ≢ i
      → most_told size end m f ≤ most_told size end m (landed i f)
  tells_still i m Landed ne = omega arith
  tells_still i m (Copying c) ne = among_cases
      (λ (b : Bool). most_told size end m (Copying c)
      ≤ most_told size end m (cond b (standing c (without_lock i c.locks)) (Copying c)))
      c.locks i
      (λ mine. tells_standing m c (without_lock i c.locks)
      (λ has. still_there i c.locks m has ne) (λ has. (was_there i c.locks m has).0))
      (λ other. omega arith)

-- as more is reserved each lock may tell as much as before
pub most_told_later : (size end later i : ℕ) (f : Flight) → end ≤ later
    → most_told size end i f ≤ most_told size later i f
most_told_later size end later i Landed up = omega arith
most_told_later size end later i (Copying c) up = among_cases
    (λ (b : Bool). cond b (address_of_word size c.entry c.copied + 1) (end + 1)
    ≤ cond b (address_of_word size c.entry c.copied + 1) (later + 1)) c.locks i
    (λ has. omega arith) (λ none. omega arith)

pub told_later : (size end later : ℕ) (lock : ℕ → ℕ) (parts : List Working) → end ≤ later
    → ProgressHolds size end lock parts → ProgressHolds size later lock parts
told_later size end later lock parts up k = λ j m u at has.
    let now = k j m u at has in let most = most_told_later size end later m u.flight up in
    omega arith

module _ (size end : ℕ) (lock : ℕ → ℕ) (parts : List Working) (k : ProgressHolds size end lock parts) where
  pub told_added : ProgressHolds size end lock (parts ++ idle ∷ [])
  told_added = λ j m u at. one_added
      (λ j u. Contains u.locks m → lock m ≤ most_told size end m u.flight) parts idle
      (λ j u at. k j m u at) (λ has. absurd (none_in_nothing m has)) j u at

  module _ (id : ℕ) (w : Working) (here : HasAt parts id w) where
    -- the entry in flight changes to one of which each lock may tell as much
    pub told_with_flight : (f : Flight)
        → ((m : ℕ) → most_told size end m w.flight ≤ most_told size end m f)
        → ProgressHolds size end lock (set parts id (record { locks = w.locks; flight = f }))
    told_with_flight f more = λ j m u at. one_set
        (λ j u. Contains u.locks m → lock m ≤ most_told size end m u.flight) parts id
        (record { locks = w.locks; flight = f })
        (λ j u apart at. k j m u at)
        (λ has. let old = k id m w here has in let up = more m in omega arith) j u at

    pub told_copied_on : ProgressHolds size end lock
        (set parts id (record { locks = w.locks; flight = one_more w.flight }))
    told_copied_on = told_with_flight (one_more w.flight) (λ m. tells_more size end m w.flight)

    -- an entry begins its flight at or above the reserved end
    pub told_begun : (c : Copy) → w.flight ≡ Landed → end ≤ address_of_word size c.entry c.copied
        → ProgressHolds size end lock
        (set parts id (record { locks = w.locks; flight = Copying c }))
    told_begun c lands above = told_with_flight (Copying c) (λ m.
        subst (λ (f : Flight). most_told size end m f ≤ most_told size end m (Copying c))
        (sym lands)
        (among_cases (λ (b : Bool). end + 1
        ≤ cond b (address_of_word size c.entry c.copied + 1) (end + 1)) c.locks m
        (λ has. omega arith) (λ none. omega arith)))

    pub told_given_up : ProgressHolds size end lock (set parts id idle ++ w ∷ [])
    told_given_up = λ j m u at. one_added
        (λ j u. Contains u.locks m → lock m ≤ most_told size end m u.flight) (set parts id idle) w
        (λ j u at. one_set
        (λ j u. Contains u.locks m → lock m ≤ most_told size end m u.flight) parts id idle
        (λ j u apart at. k j m u at) (λ has. absurd (none_in_nothing m has)) j u at)
        (k id m w here) j u at

    pub told_taken_in : (other : ℕ) (x : Working) → HasAt parts other x → x.locks ≡ []
        → x.flight ≡ Landed → ProgressHolds size end lock (set (set parts other idle) id w)
    told_taken_in other x there none lands =
        let rests : idle ≡ x = λ t. record { locks = sym none t; flight = sym lands t } in
        subst (λ (xs : List Working). ProgressHolds size end lock xs)
        (sym (two_set_again parts id other w x idle here there rests)) k

  -- where the locks' words change
  module _ (held : AreHeld lock parts) where
    pub told_same : (lock' : ℕ → ℕ) → ((j : ℕ) → j < 8 → lock' j ≡ lock j)
        → ProgressHolds size end lock' parts
    told_same lock' same = λ j m u at has.
        let e = same m (held.each j m u at has).0 in
        let old = k j m u at has in omega arith

    module _ (id : ℕ) (w : Working) (here : HasAt parts id w) (lock' : ℕ → ℕ) (i : ℕ)
        (others : ChangesAt lock lock' i) where
      at_other : (j m : ℕ) (u : Working) → HasAt parts j u → Contains u.locks m → m ≢ i
          → lock' m ≤ most_told size end m u.flight
      at_other j m u at has ne =
          let e = others m (held.each j m u at has).0 ne in
          let old = k j m u at has in omega arith

      pub told_taken : lock i ≡ 0 → lock' i ≡ 1 → ProgressHolds size end lock'
          (set parts id (record { locks = w.locks ++ i ∷ []; flight = w.flight }))
      told_taken free one = λ j m u at. one_set
          (λ j u. Contains u.locks m → lock' m ≤ most_told size end m u.flight) parts id
          (record { locks = w.locks ++ i ∷ []; flight = w.flight })
          (λ j u apart at has.
          at_other j m u at has (held_is_not lock parts held j i m u at has free))
          (λ has. ⊎_elim
          (λ old. at_other id m w here old (held_is_not lock parts held id i m w here old free))
          (λ (e : i ≡ m). let least = tells_nothing size end m w.flight in
          let is : lock' m ≡ 1 = ap lock' (sym e) ∙ one in omega arith)
          (Contains-push_cases w.locks i m has)) j u at

      pub told_advanced : Contains w.locks i → lock' i ≤ most_told size end i w.flight
          → ProgressHolds size end lock' parts
      told_advanced mine least = λ j m u at has. dite (ℕ_discrete m i)
          (λ e.
          let same : u ≡ w = held_by_one lock parts held id j i w u here mine at
          (subst (λ (n : ℕ). Contains u.locks n) e has) in
          subst (λ (x : Working). lock' m ≤ most_told size end m x.flight) (sym same)
          (subst (λ (n : ℕ). lock' n ≤ most_told size end n w.flight) (sym e) least))
          (λ ne. at_other j m u at has ne)

      pub told_released : Contains w.locks i → lock' i ≡ 0
          → ProgressHolds size end lock' (set parts id (record {
            locks = without_lock i w.locks;
            flight = landed i w.flight;
          }))
      told_released mine free = λ j m u at. one_set
          (λ j u. Contains u.locks m → lock' m ≤ most_told size end m u.flight) parts id
          (record { locks = without_lock i w.locks; flight = landed i w.flight })
          (λ j u apart at has. at_other j m u at has
          (held_is_other lock parts held id j i m w u here mine at has apart))
          (λ has.
          let was = was_there i w.locks m has in
          let old = at_other id m w here was.0 was.1 in
          let up = tells_still size end i m w.flight was.1 in omega arith) j u at

      -- a lock is asked for: it is taken where it is free
      pub told_asked : (v : View) → v.working ≡ w → lock' i ≡ exchanged v 0 1 (lock i)
          → ProgressHolds size end lock'
          (set parts id (working_of (after_take_lock i (lock i) v)))
      told_asked v mine is = met_cases
          (λ (b : Bool). lock' i ≡ cond b 1 (lock i) → ProgressHolds size end lock'
          (set parts id (working_of
          (cond b (with_working ((v.working).locks ++ i ∷ []) (v.working).flight v) v))))
          (lock i) 0
          (λ free one. subst (λ (x : Working). ProgressHolds size end lock'
          (set parts id (record { locks = x.locks ++ i ∷ []; flight = x.flight }))) (sym mine)
          (told_taken free one))
          (λ taken stays. subst (λ (xs : List Working). ProgressHolds size end lock' xs)
          (sym (ap (λ (x : Working). set parts id x) mine ∙ set_again parts id w here))
          (told_same lock' (λ j below. dite (ℕ_discrete j i)
          (λ e. ap lock' e ∙ stays ∙ ap lock (sym e)) (others j below))))
          is
