-- The log's words in memory, through each kind of step that changes what is said of them.
use Rattle.std.proofs.Common.{◌≡◌, ◌≢◌, ◌⊎◌, inl, inr, ℕ, ◌+◌, ◌*◌, ◌/◌, ◌%◌, ◌<◌, ◌≤◌, List, [], ◌∷◌, ◌++◌, length, set, Contains, sym, refl, ap, ◌∙◌, subst, ⊎_elim, arith}
use Rattle.std.proofs.lemmas.List.{append_assoc}
use mathlib.Core.Option.{some}
use mathlib.Core.Logic.{dite}
use native.Mathlib.Decide.{ℕ_discrete, dec_le}
use Rattle.atomic_table.proofs.Lists.{set_else, set_again, at_set, at_longer, at_last}
use Rattle.byte_position.specs.Geometry.{IsSegmentSize}
use Rattle.byte_position.specs.Position.{end_address_of}
use Rattle.byte_position.proofs.EndAddresses.{end_address_of-mono}
use Rattle.byte_position.proofs.Words.{end_address_of-mod_word}
use Rattle.wal_spelling.specs.Spelling.{assembled}
use Rattle.wal_page.specs.Order.{Entry, finish_of, position_behind, rooms_of}
use Rattle.wal_page.specs.LogPlace.{IsPlace}
use Rattle.wal_page.specs.EntryWords.{address_of_word, words_owned}
use Rattle.wal_page.specs.Placed.{entry_word}
use Rattle.wal_page.proofs.OrderLaws.{FollowsFrom-parts, room_at-pos, rooms_of-append, rooms_of_cons, rooms_of_push}
use Rattle.wal_page.proofs.OwnerLaws.{Owns-between}
use Rattle.wal_page.proofs.PaddingLaws.{room_at-whole}
use Rattle.wal_page.proofs.EntryWordLaws.{numbered_word-owned}
use Rattle.wal_page.proofs.PlaceLaws.{start-whole_from, word_from-behind, word_from-entry, word_from_push}
use Rattle.machine_state.specs.Views.{HasAt, Copy, Flight, Landed, Copying}
use Rattle.machine_state.specs.Ringed.{log_word_of, IsOfOrder, IsAwaited, IsInFlightOnce, RingHolds}
use Rattle.machine_state.specs.Moves.{landed}
use Rattle.machine_state.specs.Steps.{number_of_next, next_word}
use Rattle.machine_state.proofs.Landing.{landed_was, landed_stays}
use Rattle.machine_state.proofs.Lists.{one_set, at_new, at_same, at_place}
use Rattle.machine_laws.specs.WordsPut.{IsPut}
use Rattle.machine_state.specs.Words.{order_end, last_start, GoesOnAtPlace, Opening}

-- ---- the words of an entry

-- behind its last word an entry ends
module _ (size : ℕ) (valid : IsSegmentSize size) (e : Entry) (whole : e.start % 8 ≡ 0) where
  pub first_word-whole : (n : ℕ) → address_of_word size e n % 8 ≡ 0
  first_word-whole n = let first = end_address_of-mod_word size valid e.start whole in omega arith

  pub last_word-ends : address_of_word size e (words_owned size e) ≡ finish_of size e
  last_word-ends =
      let first = end_address_of-mod_word size valid e.start whole in
      let last = end_address_of-mod_word size valid (position_behind size e)
      (omega (arith, whole, room_at-whole size valid e.start e.value whole)) in
      let rises = end_address_of-mono size valid e.start (position_behind size e) (omega arith) in
      omega arith

  -- a word that is still to copy is one of those that the entry owns
  pub word_left : (n address : ℕ) → address_of_word size e n ≤ address → address < finish_of size e
      → n < words_owned size e
  word_left n address from to = let last = last_word-ends in omega arith

-- ---- entries in flight

-- an entry in flight starts at a whole word
pub copy-whole : (opening : Opening) → IsSegmentSize opening.setup.seg_size
    → IsPlace opening.setup.seg_size opening.place → (order : List Entry)
    → GoesOnAtPlace opening order → (c : Copy) → IsOfOrder opening order c
    → (c.entry).start % 8 ≡ 0
copy-whole opening valid placed order chain c s =
    start-whole_from opening.setup.seg_size valid opening.place.position s.front s.back c.entry
    (subst (GoesOnAtPlace opening) s.are chain) placed.whole

-- and before the order's end
start-before_end : (opening : Opening) (order : List Entry) → GoesOnAtPlace opening order
    → (c : Copy) → IsOfOrder opening order c → (c.entry).start < order_end opening order
start-before_end opening order chain c s =
    let size = opening.setup.seg_size in
    let parts = FollowsFrom-parts size opening.place.position s.front (c.entry ∷ s.back)
    (subst (GoesOnAtPlace opening) s.are chain) in
    let start : (c.entry).start ≡ opening.place.position + rooms_of size s.front = parts.1.0 in
    let all : rooms_of size order
    ≡ rooms_of size s.front + rooms_of size (c.entry ∷ s.back) =
    ap (rooms_of size) s.are ∙ rooms_of-append size s.front (c.entry ∷ s.back) in
    let own = rooms_of_cons size c.entry s.back in
    let room = room_at-pos size c.entry in
    omega arith

-- an entry in flight goes on to stand in an order that grows
still_stands : (opening : Opening) (order : List Entry) (e : Entry) (c : Copy)
    → IsOfOrder opening order c → IsOfOrder opening (order ++ e ∷ []) c
still_stands opening order e c s = record {
  front = s.front;
  back = s.back ++ e ∷ [];
  are = ap (λ (es : List Entry). es ++ e ∷ []) s.are
      ∙ append_assoc s.front (c.entry ∷ s.back) (e ∷ []);
  prev_is = s.prev_is;
  copied_within = s.copied_within;
}

-- what is awaited of a view is awaited where its copy is found
awaited_at : (size : ℕ) (flights flights2 : List Flight) (address j : ℕ)
    (w : IsAwaited size flights address) → HasAt flights2 j (Copying w.copy)
    → IsAwaited size flights2 address
awaited_at size flights flights2 address j w there =
    record { id = j; copy = w.copy; in_flight = there; from = w.from; to = w.to }

-- copies of the same entries, at the same places, are each in flight once
once_as : (flights flights2 : List Flight) → IsInFlightOnce flights
    → ((id : ℕ) (c : Copy) → HasAt flights2 id (Copying c)
    → (b : Copy) × HasAt flights id (Copying b) × ((b.entry).start ≡ (c.entry).start))
    → IsInFlightOnce flights2
once_as flights flights2 once back i j c d at there same =
    let a = back i c at in
    let b = back j d there in
    once i j a.0 b.0 a.1 b.1 (a.2 ∙ same ∙ sym b.2)

-- ---- steps

module _ (opening : Opening) (order : List Entry) (reach : ℕ) (memory : ℕ → ℕ)
    (flights : List Flight)
    (k : RingHolds opening order reach memory flights) where
  abbrev size : ℕ
  size = opening.setup.seg_size

  -- the views change, each entry in flight is one of the order, and all that is awaited stays so
  rearrange : (flights2 : List Flight) → IsInFlightOnce flights2
      → ((id : ℕ) (c : Copy) → HasAt flights2 id (Copying c) → IsOfOrder opening order c)
      → ((address : ℕ) → IsAwaited size flights address → IsAwaited size flights2 address)
      → RingHolds opening order reach memory flights2
  rearrange flights2 once stand forth = record {
    in_flight = stand;
    alone = once;
    words = λ n. ⊎_elim (λ t. inl t) (λ t. inr (t.0, forth (8 * n) t.1)) (k.words n);
    ahead = λ n far from low. forth (8 * n) (k.ahead n far from low);
  }

  -- the views change, but no copy comes, and all that is awaited stays so
  regroup : (flights2 : List Flight) → IsInFlightOnce flights2
      → ((id : ℕ) (c : Copy) → HasAt flights2 id (Copying c)
      → (j : ℕ) × HasAt flights j (Copying c))
      → ((address : ℕ) → IsAwaited size flights address → IsAwaited size flights2 address)
      → RingHolds opening order reach memory flights2
  regroup flights2 once back forth = rearrange flights2 once
      (λ id c there. let h = back id c there in k.in_flight h.0 c h.1) forth

  -- the same, where each copy is where it was
  regroup_here : (flights2 : List Flight)
      → ((id : ℕ) (c : Copy) → HasAt flights2 id (Copying c) → HasAt flights id (Copying c))
      → ((address : ℕ) → IsAwaited size flights address → IsAwaited size flights2 address)
      → RingHolds opening order reach memory flights2
  regroup_here flights2 back forth = regroup flights2
      (once_as flights flights2 k.alone (λ id c there. (c, back id c there, refl)))
      (λ id c there. (id, back id c there)) forth

  -- pages more are mapped
  pub reaches : (reach2 : ℕ) → reach ≤ reach2 → RingHolds opening order reach2 memory flights
  reaches reach2 up = record {
    in_flight = k.in_flight;
    alone = k.alone;
    words = k.words;
    ahead = λ n far from low. k.ahead n (omega arith) from low;
  }

  module _ (id : ℕ) (f : Flight) (here : HasAt flights id f) where
    -- a view stays
    pub stays : RingHolds opening order reach memory (set flights id f)
    stays = subst (λ (x : List Flight). RingHolds opening order reach memory x)
        (sym (set_again flights id f here)) k

    -- a view more, about nothing, beside one that stays
    pub splits : RingHolds opening order reach memory (set flights id f ++ Landed ∷ [])
    splits = subst (λ (x : List Flight). RingHolds opening order reach memory (x ++ Landed ∷ []))
        (sym (set_again flights id f here))
        (regroup_here (flights ++ Landed ∷ [])
        (λ j c there. ⊎_elim (λ was. was) (λ new. let none = new.1 in absurd (cc))
        (at_new flights Landed (Copying c) j there))
        (λ address w. awaited_at size flights (flights ++ Landed ∷ []) address w.id w
        (at_longer flights (Landed ∷ []) w.id (Copying w.copy) w.in_flight)))

    -- a view about nothing is spent, another stays
    pub takes_in : (other : ℕ) → HasAt flights other Landed
        → RingHolds opening order reach memory (set (set flights other Landed) id f)
    takes_in other there = subst
        (λ (x : List Flight). RingHolds opening order reach memory (set x id f))
        (sym (set_again flights other Landed there)) stays

    -- a view's flight moves to a view of its own: where a copy was that is found then
    was_at : (j : ℕ) (c : Copy) → HasAt (set flights id Landed ++ f ∷ []) j (Copying c)
        → ((j ≢ id) × HasAt flights j (Copying c))
        ⊎ ((j ≡ length (set flights id Landed)) × HasAt flights id (Copying c))
    was_at j c there = ⊎_elim
        (λ was. ⊎_elim (λ t. let e = t.1 in absurd (cc)) (λ t. inl t)
        (at_set flights id j Landed (Copying c) was))
        (λ own. inr (own.0, here ∙ ap (λ (x : Flight). some x) own.1))
        (at_new (set flights id Landed) f (Copying c) j there)

    moves_once : IsInFlightOnce (set flights id Landed ++ f ∷ [])
    moves_once i j c d at there same = ⊎_elim
        (λ a. ⊎_elim
        (λ b. k.alone i j c d a.1 b.1 same)
        (λ b. absurd (a.0 (k.alone i id c d a.1 b.1 same)))
        (was_at j d there))
        (λ a. ⊎_elim
        (λ b. absurd (b.0 (k.alone j id d c b.1 a.1 (sym same))))
        (λ b. a.0 ∙ sym b.0)
        (was_at j d there))
        (was_at i c at)

    pub gives_up : RingHolds opening order reach memory (set flights id Landed ++ f ∷ [])
    gives_up =
        let rest : List Flight = set flights id Landed in
        regroup (rest ++ f ∷ []) moves_once
        (λ j c there. ⊎_elim (λ t. (j, t.1)) (λ t. (id, t.1)) (was_at j c there))
        (λ address w. dite (ℕ_discrete w.id id)
        (λ mine. awaited_at size flights (rest ++ f ∷ []) address (length rest) w
        (at_last rest f (length rest) refl
        ∙ ap (λ (x : Flight). some x) (at_same flights f (Copying w.copy) id here
        (subst (λ (j : ℕ). HasAt flights j (Copying w.copy)) mine w.in_flight))))
        (λ ne. awaited_at size flights (rest ++ f ∷ []) address w.id w
        (at_longer rest (f ∷ []) w.id (Copying w.copy)
        (set_else flights id w.id Landed ne ∙ w.in_flight))))

-- a copy is of the entry that another one is of, and stands in the order where it does
abbrev StandsAs : Opening → List Entry → Copy → Copy → Type 0
StandsAs opening order d c = ((d.entry).start ≡ (c.entry).start)
    × (IsOfOrder opening order d → IsOfOrder opening order c)

-- an entry that a release leaves in flight stands where it stood
landed_stands : (opening : Opening) (order : List Entry) (lock : ℕ) (f : Flight) (c : Copy)
    → landed lock f ≡ Copying c → (d : Copy) × (f ≡ Copying d) × StandsAs opening order d c
landed_stands opening order lock f c is =
    let was = landed_was lock f c is in
    let d : Copy = was.0 in (
      d,
      was.1,
      ⊎_elim
          (λ t. subst (λ (x : Copy). StandsAs opening order d x) t.1 (refl, λ s. s))
          (λ t. subst (λ (x : Copy). StandsAs opening order d x) t.1 (
            refl,
            λ s. record {
              front = s.front;
              back = s.back;
              are = s.are;
              prev_is = s.prev_is;
              copied_within = s.copied_within;
            },
          ))
          was.2,
    )

module _ (opening : Opening) (order : List Entry) (reach : ℕ) (memory : ℕ → ℕ)
    (flights : List Flight)
    (k : RingHolds opening order reach memory flights)
    (valid : IsSegmentSize opening.setup.seg_size) (chain : GoesOnAtPlace opening order) where
  abbrev segment : ℕ
  segment = opening.setup.seg_size

  -- no copy is one of an entry that starts at the order's end; so such a copy may begin
  begins_once : (id : ℕ) (new : Copy) → HasAt flights id Landed
      → (new.entry).start ≡ order_end opening order
      → IsInFlightOnce (set flights id (Copying new))
  begins_once id new here at i j c d one other same = ⊎_elim
      (λ a. ⊎_elim
      (λ b. a.0 ∙ sym b.0)
      (λ b. let low = start-before_end opening order chain d (k.in_flight j d b.1) in
      let is : new ≡ c = (let e = a.1 in cc) in
      let start : (new.entry).start ≡ (c.entry).start = ap (λ (x : Copy). (x.entry).start) is in
      absurd (omega arith))
      (at_set flights id j (Copying new) (Copying d) other))
      (λ a. let low = start-before_end opening order chain c (k.in_flight i c a.1) in ⊎_elim
      (λ b. let is : new ≡ d = (let e = b.1 in cc) in
      let start : (new.entry).start ≡ (d.entry).start = ap (λ (x : Copy). (x.entry).start) is in
      absurd (omega arith))
      (λ b. k.alone i j c d a.1 b.1 same)
      (at_set flights id j (Copying new) (Copying d) other))
      (at_set flights id i (Copying new) (Copying c) one)

  -- the view's entry joins the order and is in flight
  pub reserves : (id : ℕ) (e : Entry) (prev : ℕ) (locks : List ℕ) → HasAt flights id Landed
      → e.start ≡ order_end opening order → prev ≡ last_start opening order
      → RingHolds opening (order ++ e ∷ []) reach memory
      (set flights id (Copying (record { entry = e; prev = prev; locks = locks; copied = 0 })))
  reserves id e prev locks here at named =
      let new : Copy = record { entry = e; prev = prev; locks = locks; copied = 0 } in
      let after : List Flight = set flights id (Copying new) in
      let first : ℕ = end_address_of segment e.start in
      let first_is : first ≡ end_address_of segment (order_end opening order) =
      ap (end_address_of segment) at in
      let behind : order_end opening (order ++ e ∷ []) ≡ position_behind segment e =
      (let push = rooms_of_push segment order e in omega arith) in
      let end_is : end_address_of segment (order_end opening (order ++ e ∷ []))
      ≡ finish_of segment e = ap (end_address_of segment) behind in
      let on : (a : ℕ) → IsAwaited segment flights a → IsAwaited segment after a = λ a w.
      awaited_at segment flights after a w.id w (set_else flights id w.id (Copying new)
      (λ mine. let same : Landed ≡ Copying w.copy = at_same flights Landed (Copying w.copy) id
      here (subst (λ (j : ℕ). HasAt flights j (Copying w.copy)) mine w.in_flight) in
      absurd (cc)) ∙ w.in_flight) in
      let awaits : (a : ℕ) → first ≤ a → a < finish_of segment e → IsAwaited segment after a =
      λ a from to. record {
        id = id;
        copy = new;
        in_flight = at_place flights id Landed (Copying new) here;
        from = omega arith;
        to = to;
      } in
      record {
        in_flight = λ j c there. one_set
            (λ i u. u ≡ Copying c → IsOfOrder opening (order ++ e ∷ []) c) flights id (Copying new)
            (λ i u ne was is. still_stands opening order e c
            (k.in_flight i c (was ∙ ap (λ (x : Flight). some x) is)))
            (λ is. subst (λ (d : Copy). IsOfOrder opening (order ++ e ∷ []) d)
            (let same : new ≡ c = cc in same) record {
              front = order;
              back = [];
              are = refl;
              prev_is = named;
              copied_within = omega arith;
            })
            j (Copying c) there refl;
        alone = begins_once id new here at;
        words = λ n.
            let a : ℕ = 8 * n in
            dite (dec_le first a)
            (λ from.
            let none : log_word_of opening order a ≡ 0 = word_from-behind segment
            opening.setup.sysid valid opening.place order chain a (omega arith) in
            let zero_now : memory n ≡ 0 = ⊎_elim (λ t. t ∙ none) (λ t. t.0) (k.words n) in
            dite (dec_le (finish_of segment e) a)
            (λ past. inl (zero_now ∙ sym (word_from_push segment opening.setup.sysid valid
            opening.place order e chain at a
            (λ owns. let h = Owns-between segment valid (assembled e.value) e.start a owns in
            let low = h.1 in omega arith)
            ∙ none)))
            (λ inside. inr (zero_now, awaits a from (omega arith))))
            (λ before. let same = word_from_push segment opening.setup.sysid valid
            opening.place order e chain at a
            (λ owns. let h = Owns-between segment valid (assembled e.value) e.start a owns in
            let low = h.0 in omega arith) in
            ⊎_elim (λ t. inl (t ∙ sym same)) (λ t. inr (t.0, on a t.1)) (k.words n));
        ahead = λ n far from low. dite (dec_le first (8 * n))
            (λ past. awaits (8 * n) past (omega arith))
            (λ before. on (8 * n) (k.ahead n far from (omega arith)));
      }

  -- an entry in flight starts at a whole word
  module _ (placed : IsPlace opening.setup.seg_size opening.place) where
    -- what is awaited is still to copy
    pub awaited-left : (address : ℕ) (w : IsAwaited segment flights address)
        → (w.copy).copied < words_owned segment (w.copy).entry
    awaited-left address w = word_left segment valid (w.copy).entry
        (copy-whole opening valid placed order chain w.copy (k.in_flight w.id w.copy w.in_flight))
        (w.copy).copied address w.from w.to

    module _ (id : ℕ) (f : Flight) (here : HasAt flights id f) where
      -- a lock is released, under which the view has no copy, or a whole one
      pub releases : (lock : ℕ) → ((c : Copy) → f ≡ Copying c → Contains c.locks lock
          → c.copied ≡ words_owned segment c.entry)
          → RingHolds opening order reach memory (set flights id (landed lock f))
      releases lock whole =
          let after : List Flight = set flights id (landed lock f) in
          let was : (j : ℕ) (c : Copy) → HasAt after j (Copying c) → (d : Copy)
          × HasAt flights j (Copying d) × StandsAs opening order d c
          = λ j c there. ⊎_elim
          (λ t. let d = landed_stands opening order lock f c t.1 in (
            d.0,
            subst (λ (i : ℕ). HasAt flights i (Copying d.0)) (sym t.0)
                (here ∙ ap (λ (x : Flight). some x) d.1),
            d.2,
          ))
          (λ t. (c, t.1, (refl, λ s. s)))
          (at_set flights id j (landed lock f) (Copying c) there) in
          rearrange opening order reach memory flights k after
          (once_as flights after k.alone (λ j c there. let d = was j c there in (d.0, d.1, d.2.0)))
          (λ j c there. let d = was j c there in d.2.1 (k.in_flight j d.0 d.1))
          (λ address w. dite (ℕ_discrete w.id id)
          (λ mine.
          let own : f ≡ Copying w.copy = at_same flights f (Copying w.copy) id here
          (subst (λ (j : ℕ). HasAt flights j (Copying w.copy)) mine w.in_flight) in
          let left = awaited-left address w in
          let other : Contains (w.copy).locks lock → ⊥ =
          λ e. let h = whole w.copy own e in omega arith in
          let stays : landed lock f ≡ Copying w.copy = ap (landed lock) own
          ∙ landed_stays lock w.copy other in
          awaited_at segment flights after address id w
          (at_place flights id f (landed lock f) here ∙ ap (λ (x : Flight). some x) stays))
          (λ ne. awaited_at segment flights after address w.id w
          (set_else flights id w.id (landed lock f) ne ∙ w.in_flight)))

    -- the next word of a copy is the log's, so a store of it changes nothing but a word that was 0
    module _ (id : ℕ) (c : Copy) (here : HasAt flights id (Copying c))
        (left : c.copied < words_owned segment c.entry) where
      pub next_is_logs : log_word_of opening order (address_of_word segment c.entry c.copied)
          ≡ next_word opening.setup c
      next_is_logs =
          let s = k.in_flight id c here in
          let whole = copy-whole opening valid placed order chain c s in
          let a : ℕ = address_of_word segment c.entry c.copied in
          let owns = numbered_word-owned segment valid c.entry whole c.copied left in
          ap (λ (es : List Entry). log_word_of opening es a) s.are
          ∙ word_from-entry segment opening.setup.sysid valid opening.place s.front s.back c.entry
          (subst (GoesOnAtPlace opening) s.are chain) a owns
          ∙ ap (λ (p : ℕ). entry_word segment opening.setup.sysid (assembled (c.entry).value)
          (c.entry).start p a) (sym s.prev_is)

      pub memory_grows : (memory2 : ℕ → ℕ)
          → IsPut memory (number_of_next opening.setup (Copying c)) (next_word opening.setup c)
          memory2
          → (n : ℕ) → (memory n ≡ 0) ⊎ (memory n ≡ memory2 n)
      memory_grows memory2 put n =
          let a : ℕ = address_of_word segment c.entry c.copied in
          let whole : a % 8 ≡ 0 = first_word-whole segment valid c.entry
          (copy-whole opening valid placed order chain c (k.in_flight id c here)) c.copied in
          dite (ℕ_discrete n (a / 8))
          (λ e. let at : 8 * n ≡ a = omega arith in ⊎_elim
          (λ t. inr (t ∙ ap (log_word_of opening order) at ∙ next_is_logs ∙ sym put.here
          ∙ ap memory2 (sym e)))
          (λ t. inl t.0) (k.words n))
          (λ ne. inr (sym (put.elsewhere n ne)))

    -- the next word of a copy is stored, in a page that was mapped
    pub copies : (id : ℕ) (c : Copy) (memory2 : ℕ → ℕ) → HasAt flights id (Copying c)
        → c.copied < words_owned segment c.entry
        → address_of_word segment c.entry c.copied < reach * 8192
        → IsPut memory (number_of_next opening.setup (Copying c)) (next_word opening.setup c)
        memory2
        → RingHolds opening order reach memory2
        (set flights id (Copying (record c { copied = c.copied + 1 })))
    copies id c memory2 here left mapped put =
        let s = k.in_flight id c here in
        let whole = copy-whole opening valid placed order chain c s in
        let a : ℕ = address_of_word segment c.entry c.copied in
        let a_whole : a % 8 ≡ 0 = first_word-whole segment valid c.entry whole c.copied in
        let number : 8 * (a / 8) ≡ a = omega arith in
        let new : Copy = record c { copied = c.copied + 1 } in
        let after : List Flight = set flights id (Copying new) in
        let on : (n : ℕ) → n ≢ a / 8 → IsAwaited segment flights (8 * n)
        → IsAwaited segment after (8 * n) = λ n ne w. dite (ℕ_discrete w.id id)
        (λ mine.
        let same : w.copy ≡ c = (let one : Copying w.copy ≡ Copying c = at_same flights
        (Copying w.copy) (Copying c) id
        (subst (λ (j : ℕ). HasAt flights j (Copying w.copy)) mine w.in_flight) here in cc) in
        let from = subst (λ (d : Copy). address_of_word segment d.entry d.copied ≤ 8 * n)
        same w.from in
        record {
          id = id;
          copy = new;
          in_flight = at_place flights id (Copying c) (Copying new) here;
          from = omega arith;
          to = subst (λ (d : Copy). 8 * n < finish_of segment d.entry) same w.to;
        })
        (λ other. awaited_at segment flights after (8 * n) w.id w
        (set_else flights id w.id (Copying new) other ∙ w.in_flight)) in
        let word = next_is_logs id c here left in
        record {
          in_flight = λ j d there. one_set
              (λ i u. u ≡ Copying d → IsOfOrder opening order d) flights id (Copying new)
              (λ i u ne was is. k.in_flight i d (was ∙ ap (λ (x : Flight). some x) is))
              (λ is. subst (λ (x : Copy). IsOfOrder opening order x)
              (let same : new ≡ d = cc in same) record {
                front = s.front;
                back = s.back;
                are = s.are;
                prev_is = s.prev_is;
                copied_within = omega arith;
              })
              j (Copying d) there refl;
          alone = once_as flights after k.alone (λ j d there. ⊎_elim
              (λ t. let is : new ≡ d = (let e = t.1 in cc) in (
                c,
                subst (λ (i : ℕ). HasAt flights i (Copying c)) (sym t.0) here,
                ap (λ (x : Copy). (x.entry).start) is,
              ))
              (λ t. (d, t.1, refl))
              (at_set flights id j (Copying new) (Copying d) there));
          words = λ n. dite (ℕ_discrete n (a / 8))
              (λ e. let at : 8 * n ≡ a = omega arith in
              inl (ap memory2 e ∙ put.here ∙ sym word ∙ ap (log_word_of opening order) (sym at)))
              (λ ne. ⊎_elim (λ t. inl (put.elsewhere n ne ∙ t))
              (λ t. inr (put.elsewhere n ne ∙ t.0, on n ne t.1)) (k.words n));
          ahead = λ n far from low. on n (λ e. omega arith) (k.ahead n far from low);
        }
