-- What watchers know of the copies under the locks that they visited, through each kind of step
-- that changes a lock, an entry in flight, a watch, the order's end, or the views that there are.
use Rattle.std.proofs.Common.{◌≡◌, ◌≢◌, ℕ, ◌+◌, ◌-◌, ◌<◌, ◌≤◌, Bool, true, false, eqb-true, not, ◌||◌, ◌&&◌, cond, eqb, min, List, [], ◌∷◌, ◌++◌, set, map, Contains, ⊎_elim, sym, refl, ap, ◌∙◌, subst, inl, inr, arith}
use Rattle.std.proofs.lemmas.Bool.{cases_lt, and_parts}
use Rattle.std.proofs.lemmas.Map.Views.{Contains-from_any}
use mathlib.Core.Logic.{dite}
use native.Mathlib.Decide.{ℕ_discrete}
use Rattle.atomic_table.proofs.Lists.{set_again, set_else}
use Rattle.byte_position.specs.Geometry.{IsSegmentSize}
use Rattle.byte_position.proofs.EndAddresses.{end_address_of-mono}
use Rattle.wal_page.specs.Order.{Entry}
use Rattle.wal_page.specs.EntryWords.{address_of_word}
use Rattle.wal_page.proofs.OrderLaws.{rooms_of_push}
use Rattle.machine_state.specs.declared.setup.Setup.{Setup}
use Rattle.machine_state.specs.Words.{end_form, order_end, Opening}
use Rattle.machine_state.specs.Views.{HasAt, Copy, Flight, Landed, Copying, Working, is_among, Watching, View, working_of, watching_of, flight_of}
use Rattle.machine_state.specs.Locked.{AreHeld, ProgressHolds, most_told}
use Rattle.machine_state.specs.Moves.{landed, one_more, is_landed, is_own, begun, visited_on, copied_below, with_working, after_load_lock, after_take_lock}
use Rattle.machine_state.specs.Positioned.{IsCopiedBelow}
use Rattle.machine_state.specs.Watched.{IsCopiedToBound, WatchHolds}
use Rattle.machine_state.proofs.Landing.{landed_was, lock_of, none_lands}
use Rattle.machine_state.proofs.Lists.{one_set, one_added, part_at, view_from}
use Rattle.machine_laws.specs.Locks.{idle, unwatching}
use Rattle.machine_laws.proofs.LocksKept.{met_cases, two_set_again}
use Rattle.machine_laws.proofs.HeldLaws.{was_there, copying_same, held_by_one}
use Rattle.machine_laws.proofs.ToldLaws.{told_of_copy}

module _ (size : ℕ) where
  -- one that has visited no lock knows of no copy
  pub visits_none : (x : Watching) (w : Working) → x.visited ≡ 0 → IsCopiedToBound size x w
  visits_none x w none c lock is among low starts = absurd (omega arith)

  -- one that copies nothing breaks nothing that a watcher knows
  pub copies_none : (x : Watching) (w : Working) → w.flight ≡ Landed → IsCopiedToBound size x w
  copies_none x w lands c lock is = absurd (none_lands c (sym lands ∙ is))

  -- a lock that is released, and an entry that it lands, break nothing that a watcher knows
  behind_released : (x : Watching) (i : ℕ) (f : Flight) (locks left : List ℕ)
      → IsCopiedToBound size x (record { locks = locks; flight = f })
      → IsCopiedToBound size x (record { locks = left; flight = landed i f })
  behind_released x i f locks left sees c lock is among visited starts =
      let was = landed_was i f c is in
      let d : Copy = was.0 in
      ⊎_elim
      (λ t. subst (λ (y : Copy). Contains y.locks lock → address_of_word size y.entry 0 < x.end
      → x.bound ≤ address_of_word size y.entry y.copied) t.1
      (λ among starts. sees d lock was.1 among visited starts) among starts)
      (λ t. subst (λ (y : Copy). Contains y.locks lock → address_of_word size y.entry 0 < x.end
      → x.bound ≤ address_of_word size y.entry y.copied) t.1
      (λ among starts. sees d lock was.1 (was_there i d.locks lock among).0 visited
      starts) among starts)
      was.2

  module _ (end : ℕ) (works : List Working) (watches : List Watching)
      (k : WatchHolds size end works watches) where
    -- a view's work changes to one that no watcher has to fear more, and the order grows
    pub works_on : (end' id : ℕ) (w : Working) → end ≤ end'
        → ((x : Watching) → x.end ≤ end
        → ((u : Working) → HasAt works id u → IsCopiedToBound size x u) → IsCopiedToBound size x w)
        → WatchHolds size end' (set works id w) watches
    works_on end' id w up safe = record {
      reserved = λ j x at. let h = k.reserved j x at in ((let low = h.0 in omega arith), h.1);
      behind = λ i j x u at there. one_set (λ j u. IsCopiedToBound size x u) works id w
          (λ j u apart was. k.behind i j x u at was)
          (safe x (k.reserved i x at).0 (λ u was. k.behind i id x u at was)) j u there;
    }

    -- a watcher goes on
    pub watches_on : (id : ℕ) (x : Watching) → x.end ≤ end → x.bound ≤ x.end
        → ((j : ℕ) (u : Working) → HasAt works j u → IsCopiedToBound size x u)
        → WatchHolds size end works (set watches id x)
    watches_on id x low least sees = record {
      reserved = λ j y at. one_set (λ j y. (y.end ≤ end) × (y.bound ≤ y.end)) watches id x
          (λ j y apart was. k.reserved j y was) (low, least) j y at;
      behind = λ i j y u at there. one_set (λ i y. IsCopiedToBound size y u) watches id x
          (λ i y apart was. k.behind i j y u was there) (sees j u there) i y at;
    }

    module _ (id : ℕ) (w : Working) (here : HasAt works id w) where
      -- the locks that are held do not matter to a watcher
      pub watched_as_copied : (locks : List ℕ) → WatchHolds size end
          (set works id (record { locks = locks; flight = w.flight })) watches
      watched_as_copied locks = works_on end id (record { locks = locks; flight = w.flight })
          (omega arith) (λ x low was. was w here)

      pub watched_released : (i : ℕ) (locks : List ℕ) → WatchHolds size end
          (set works id (record { locks = locks; flight = landed i w.flight })) watches
      watched_released i locks = works_on end id
          (record { locks = locks; flight = landed i w.flight }) (omega arith)
          (λ x low was. behind_released x i w.flight w.locks locks (was w here))

      pub watched_copied_on : WatchHolds size end
          (set works id (record { locks = w.locks; flight = one_more w.flight })) watches
      watched_copied_on = works_on end id
          (record { locks = w.locks; flight = one_more w.flight }) (omega arith)
          (λ x low was. further x w.flight (λ c lock is. was w here c lock is))
        where
          further : (x : Watching) (f : Flight)
              → ((c : Copy) (lock : ℕ) → f ≡ Copying c → Contains c.locks lock → lock < x.visited
              → address_of_word size c.entry 0 < x.end
              → x.bound ≤ address_of_word size c.entry c.copied)
              → (c : Copy) (lock : ℕ) → one_more f ≡ Copying c → Contains c.locks lock
              → lock < x.visited
              → address_of_word size c.entry 0 < x.end
              → x.bound ≤ address_of_word size c.entry c.copied
          further x Landed was c lock is = absurd (none_lands c is)
          further x (Copying d) was c lock is =
              let same : record d { copied = d.copied + 1 } ≡ c
              = copying_same (record d { copied = d.copied + 1 }) c is in
              subst (λ (y : Copy). Contains y.locks lock → lock < x.visited
              → address_of_word size y.entry 0 < x.end
              → x.bound ≤ address_of_word size y.entry y.copied) same
              (λ among low starts. let old = was d lock refl among low starts in omega arith)

    -- an entry begins its flight, at the order's end or above
    pub watched_begun : (id end' : ℕ) (c : Copy) (locks : List ℕ) → end ≤ end'
        → end ≤ address_of_word size c.entry 0
        → WatchHolds size end' (set works id (record { locks = locks; flight = Copying c }))
        watches
    watched_begun id end' c locks up high = works_on end' id
        (record { locks = locks; flight = Copying c }) up
        (λ x low was d lock is. subst (λ (y : Copy). Contains y.locks lock → lock < x.visited
        → address_of_word size y.entry 0 < x.end
        → x.bound ≤ address_of_word size y.entry y.copied) (copying_same c d is)
        (λ among visited starts. absurd (omega arith)))

    -- a view that is about nothing comes in
    pub watched_added : WatchHolds size end (works ++ idle ∷ []) (watches ++ unwatching ∷ [])
    watched_added = record {
      reserved = λ j y at. one_added (λ j y. (y.end ≤ end) × (y.bound ≤ y.end)) watches unwatching
          (λ j y was. k.reserved j y was) (omega arith, omega arith) j y at;
      behind = λ i j y u at there. one_added (λ i y. IsCopiedToBound size y u) watches unwatching
          (λ i y was. one_added (λ j u. IsCopiedToBound size y u) works idle
          (λ j u there. k.behind i j y u was there) (copies_none y idle refl) j u there)
          (visits_none unwatching u refl) i y at;
    }

    module _ (id : ℕ) (w : Working) (here : HasAt works id w) where
      -- what a view has in hand goes to a new one, which watches nothing
      pub watched_given_up : WatchHolds size end (set works id idle ++ w ∷ [])
          (watches ++ unwatching ∷ [])
      watched_given_up = record {
        reserved = λ j y at. one_added (λ j y. (y.end ≤ end) × (y.bound ≤ y.end)) watches
            unwatching (λ j y was. k.reserved j y was) (omega arith, omega arith) j y at;
        behind = λ i j y u at there. one_added (λ i y. IsCopiedToBound size y u) watches unwatching
            (λ i y was. one_added (λ j u. IsCopiedToBound size y u) (set works id idle) w
            (λ j u there. one_set (λ j u. IsCopiedToBound size y u) works id idle
            (λ j u apart there. k.behind i j y u was there) (copies_none y idle refl) j u there)
            (k.behind i id y w was here) j u there)
            (visits_none unwatching u refl) i y at;
      }

      -- one that is about nothing is taken in, and watches nothing from then on
      pub watched_taken_in : (other : ℕ) (x : Working) (y : Watching) → HasAt works other x
          → x.locks ≡ [] → x.flight ≡ Landed → HasAt watches id y → id ≢ other
          → WatchHolds size end (set (set works other idle) id w)
          (set (set watches other unwatching) id y)
      watched_taken_in other x y there none lands at apart =
          let rests : idle ≡ x = λ t. record { locks = sym none t; flight = sym lands t } in
          let spent : WatchHolds size end works (set watches other unwatching)
          = watches_on other unwatching (omega arith) (omega arith)
          (λ j u there. visits_none unwatching u refl) in
          subst (λ (xs : List Working). WatchHolds size end xs
          (set (set watches other unwatching) id y))
          (sym (two_set_again works id other w x idle here there rests))
          (subst (λ (ys : List Watching). WatchHolds size end works ys)
          (sym (set_again (set watches other unwatching) id y
          (set_else watches other id unwatching apart ∙ at))) spent)

-- ---- a watcher visits a lock

module _ (size : ℕ) (lock : ℕ → ℕ) (works : List Working) (held : AreHeld lock works)
    (reserved : ℕ) (told : ProgressHolds size reserved lock works) where
  -- what is in flight under a lock is copied up to there
  abbrev Guards : ℕ → ℕ → Type 0
  Guards i b = (j : ℕ) (u : Working) (c : Copy) → HasAt works j u → u.flight ≡ Copying c
      → Contains c.locks i → b ≤ address_of_word size c.entry c.copied

  -- a lock that is free guards nothing, and one that is held tells how far its copy is
  word_tells : (i b : ℕ) → (lock i ≢ 0 → b + 1 ≤ lock i) → Guards i b
  word_tells i b tells j u c there is among =
      let has : Contains u.locks i = (held.under j u c there is).1 i among in
      let most : lock i ≤ address_of_word size c.entry c.copied + 1
      = subst (λ (n : ℕ). lock i ≤ n)
      (ap (most_told size reserved i) is ∙ told_of_copy size reserved c i among)
      (told j i u there has) in
      let least : b + 1 ≤ lock i = tells (held.each j i u there has).2 in
      omega arith

  landed_copies : (f : Flight) (c : Copy) → is_landed f ≡ true → f ≡ Copying c → ⊥
  landed_copies Landed c lands is = none_lands c is
  landed_copies (Copying d) c lands is = absurd (cc)

  -- nothing is in flight under a lock of a view that copies nothing
  own_guards : (id i b : ℕ) (w : Working) → HasAt works id w → is_own i w ≡ true → Guards i b
  own_guards id i b w here own j u c there is among =
      let two = and_parts (is_among w.locks i) (is_landed w.flight) own in
      let mine : Contains w.locks i
      = Contains-from_any (λ x y same. eqb-true x y same) i w.locks two.0 in
      let same : u ≡ w = held_by_one lock works held id j i w u here mine there
      ((held.under j u c there is).1 i among) in
      absurd (landed_copies w.flight c two.1 (sym (ap (λ (x : Working). x.flight) same) ∙ is))

  -- the lock that is visited next
  visit : (x : Watching) (i b : ℕ)
      → ((j : ℕ) (u : Working) → HasAt works j u → IsCopiedToBound size x u) → i ≡ x.visited
      → b ≤ x.bound → Guards i b
      → (j : ℕ) (u : Working) → HasAt works j u
      → IsCopiedToBound size (record { end = x.end; visited = x.visited + 1; bound = b }) u
  visit x i b sees next less guards j u there c n is among low starts = dite (ℕ_discrete n i)
      (λ e. guards j u c there is (subst (λ (m : ℕ). Contains c.locks m) e among))
      (λ other. let old = sees j u there c n is among (omega arith) starts in omega arith)

  -- what is known of a watch that stands in no list yet
  record Stands (end : ℕ) (x : Watching) : Type 0 where
    low : x.end ≤ end
    least : x.bound ≤ x.end
    sees : (j : ℕ) (u : Working) → HasAt works j u → IsCopiedToBound size x u

  module _ (end i : ℕ) (x : Watching) (stands : Stands end x) where
    abbrev on : ℕ → Watching
    on b = record { end = x.end; visited = x.visited + 1; bound = b }

    goes : i ≡ x.visited → (b : ℕ) → b ≤ x.bound → Guards i b → Stands end (on b)
    goes next b less guards = record {
      low = stands.low;
      least = (let least = stands.least in omega arith);
      sees = visit x i b stands.sees next less guards;
    }

    no_higher : (b : Bool) → cond b x.bound (min x.bound (lock i - 1)) ≤ x.bound
    no_higher true = omega arith
    no_higher false = omega arith

    visits_on : (own : Bool) → (own ≡ true → (b : ℕ) → Guards i b)
        → Stands end (visited_on own i (lock i) x)
    visits_on true guards =
        let bound = cond (eqb (lock i) 1 || eqb (lock i) 0) x.bound (min x.bound (lock i - 1)) in
        met_cases
        (λ (b : Bool). Stands end (cond (b && true) (on bound) x))
        i x.visited (λ here. goes here bound
        (no_higher (eqb (lock i) 1 || eqb (lock i) 0)) (guards refl bound))
        (λ other. stands)
    visits_on false guards =
        let bound : Bool → ℕ = λ b. cond b x.bound (min x.bound (lock i - 1)) in
        met_cases
        (λ (b : Bool). Stands end
        (cond (b && not (eqb (lock i) 1)) (on (bound (eqb (lock i) 0))) x))
        i x.visited
        (λ here. met_cases
        (λ (b : Bool). Stands end (cond (not b) (on (bound (eqb (lock i) 0))) x)) (lock i) 1
        (λ tells_none. stands)
        (λ not_one. met_cases (λ (b : Bool). Stands end (on (bound b))) (lock i) 0
        (λ free. goes here x.bound (omega arith)
        (word_tells i x.bound (λ taken. absurd (taken free))))
        (λ taken. goes here (min x.bound (lock i - 1)) (omega arith)
        (word_tells i (min x.bound (lock i - 1)) (λ some. omega arith)))))
        (λ other. stands)

  module _ (opening : Opening) (valid : IsSegmentSize opening.setup.seg_size)
      (order : List Entry) where
    pub watch_visits : (watches : List Watching) (id i limit : ℕ) (v : View)
        → (v.opening).setup ≡ opening.setup
        → (v.reserving).seen ≤ order_end opening order
        → WatchHolds size (end_form opening.setup (order_end opening order)) works watches
        → HasAt works id v.working → HasAt watches id v.watching
        → WatchHolds size (end_form opening.setup (order_end opening order)) works
        (set watches id (watching_of (after_load_lock i limit (lock i) v)))
    watch_visits watches id i limit v known seen k mine here =
        let end : ℕ = end_form opening.setup (order_end opening order) in
        let e : ℕ = min limit (end_form (v.opening).setup (v.reserving).seen) in
        let met : end_form (v.opening).setup (v.reserving).seen ≤ end
        = subst (λ (s : Setup). end_form s (v.reserving).seen ≤ end) (sym known)
        (end_address_of-mono opening.setup.seg_size valid (v.reserving).seen
        (order_end opening order) seen) in
        let first : Watching = record { end = e; visited = 0; bound = e } in
        let before : Stands end (begun i limit v) = met_cases
        (λ (b : Bool). Stands end (cond b first v.watching)) i 0
        (λ begins. record {
          low = omega arith;
          least = omega arith;
          sees = λ j u there. visits_none size first u refl;
        })
        (λ goes_on. record {
          low = (k.reserved id v.watching here).0;
          least = (k.reserved id v.watching here).1;
          sees = λ j u there. k.behind id j v.watching u here there;
        }) in
        let own : Bool = is_own i v.working in
        let behind = visits_on end i (begun i limit v) before own
        (λ is b. own_guards id i b v.working mine is) in
        watches_on size end works watches k id (visited_on own i (lock i) (begun i limit v))
        behind.low behind.least behind.sees

-- ---- what one knows that has visited all locks

module _ (size end : ℕ) (lock : ℕ → ℕ) (views : List View)
    (held : AreHeld lock (map working_of views))
    (k : WatchHolds size end (map working_of views) (map watching_of views)) where
  module _ (id : ℕ) (v : View) (here : HasAt views id v) where
    all_visited : (v.watching).visited ≡ 8
        → IsCopiedBelow size (map flight_of views) (v.watching).bound
    all_visited all j c flies left =
        let found = view_from flight_of views j (Copying c) flies in
        let u : View = found.0 in
        let there : HasAt (map working_of views) j u.working
        = part_at working_of views j u found.1 in
        let watch : HasAt (map watching_of views) id v.watching
        = part_at watching_of views id v here in
        let under = lock_of c.locks u.working.locks (held.under j u.working c there found.2) in
        let low = (held.each j under.0 u.working there under.2).0 in
        let least = (k.reserved id v.watching watch).1 in
        elim (cases_lt (address_of_word size c.entry 0) (v.watching).end) [
          | inl starts ↦
              k.behind id j v.watching u.working watch there c under.0 found.2 under.1
              (omega arith) starts
          | inr above ↦ omega arith
        ]

    pub known_is_copied : (copied_below v.watching ≤ end)
        × IsCopiedBelow size (map flight_of views) (copied_below v.watching)
    known_is_copied =
        let low = k.reserved id v.watching (part_at watching_of views id v here) in
        met_cases
        (λ (b : Bool). (cond b (v.watching).bound 0 ≤ end)
        × IsCopiedBelow size (map flight_of views) (cond b (v.watching).bound 0))
        (v.watching).visited 8
        (λ all. ((let a = low.0 in let b = low.1 in omega arith), all_visited all))
        (λ some. (omega arith, λ j c flies left. omega arith))

-- ---- an entry more

pub watched_reserved : (opening : Opening) (order : List Entry) (works : List Working)
    (watches : List Watching) (id : ℕ) (c : Copy) (locks : List ℕ)
    → IsSegmentSize opening.setup.seg_size
    → WatchHolds opening.setup.seg_size
    (end_form opening.setup (order_end opening order)) works watches
    → (c.entry).start ≡ order_end opening order
    → WatchHolds opening.setup.seg_size
    (end_form opening.setup (order_end opening (order ++ c.entry ∷ [])))
    (set works id (record { locks = locks; flight = Copying c })) watches
watched_reserved opening order works watches id c locks valid k starts =
    let size : ℕ = opening.setup.seg_size in
    let rooms = rooms_of_push size order c.entry in
    let up : end_form opening.setup (order_end opening order)
    ≤ end_form opening.setup (order_end opening (order ++ c.entry ∷ []))
    = end_address_of-mono size valid (order_end opening order)
    (order_end opening (order ++ c.entry ∷ [])) (omega arith) in
    let first : end_form opening.setup (c.entry).start
    ≡ end_form opening.setup (order_end opening order)
    = ap (λ (n : ℕ). end_form opening.setup n) starts in
    watched_begun size (end_form opening.setup (order_end opening order)) works watches k id
    (end_form opening.setup (order_end opening (order ++ c.entry ∷ []))) c locks up (omega arith)

pub watched_asked : (size end : ℕ) (works : List Working) (watches : List Watching) (id i : ℕ)
    (v : View) → WatchHolds size end works watches → HasAt works id v.working → (met : ℕ)
    → WatchHolds size end (set works id (working_of (after_take_lock i met v))) watches
watched_asked size end works watches id i v k here met = met_cases
    (λ (b : Bool). WatchHolds size end (set works id (working_of
    (cond b (with_working ((v.working).locks ++ i ∷ []) (v.working).flight v) v))) watches) met 0
    (λ free. watched_as_copied size end works watches k id v.working here
    ((v.working).locks ++ i ∷ []))
    (λ taken. watched_as_copied size end works watches k id v.working here (v.working).locks)
