-- Which words of the log in memory are the log's: those of an entry in flight that count as copied,
-- and all of an entry that is in no flight.
use Rattle.std.proofs.Common.{◌≡◌, ◌≢◌, ℕ, ◌*◌, ◌/◌, ◌%◌, ◌<◌, ◌≤◌, List, ◌∷◌, ◌++◌, Some, sym, ap, ◌∙◌, subst, ⊎_elim, arith}
use Rattle.std.proofs.lemmas.Option.{same_Some}
use Rattle.byte_position.specs.Geometry.{IsSegmentSize}
use Rattle.wal_spelling.specs.Spelling.{assembled}
use Rattle.wal_page.specs.Order.{Entry, finish_of}
use Rattle.wal_page.specs.LogPlace.{IsPlace}
use Rattle.wal_page.specs.EntryWords.{address_of_word, words_owned}
use Rattle.wal_page.specs.Log.{owner_at}
use Rattle.wal_page.proofs.OwnerLaws.{Owns-from_between}
use Rattle.wal_page.proofs.PlaceLaws.{owner_at-entry_from_iff, start-whole_from}
use Rattle.machine_state.specs.Views.{HasAt, Copy, Flight, Copying}
use Rattle.machine_state.specs.Ringed.{log_word_of, IsAwaited, RingHolds}
use Rattle.machine_state.proofs.Lists.{at_same}
use Rattle.machine_laws.proofs.RingLaws.{first_word-whole, last_word-ends}
use Rattle.machine_state.specs.Words.{GoesOnAtPlace, Opening}

-- an entry has the addresses from its first word up to its end
owner_is : (opening : Opening) → IsSegmentSize opening.setup.seg_size → (order : List Entry)
    → GoesOnAtPlace opening order → (front back : List Entry) (e : Entry)
    → order ≡ front ++ e ∷ back → (address : ℕ)
    → address_of_word opening.setup.seg_size e 0 ≤ address
    → address < finish_of opening.setup.seg_size e
    → owner_at opening.setup.seg_size order address ≡ Some e
owner_is opening valid order chain front back e are address from below =
    let size = opening.setup.seg_size in
    subst (λ (es : List Entry). owner_at size es address ≡ Some e) (sym are)
    ((owner_at-entry_from_iff size valid opening.place.position front back e
    (subst (GoesOnAtPlace opening) are chain) address).1
    (Owns-from_between size valid (assembled e.value) e.start address (omega arith) below))

module _ (opening : Opening) (order : List Entry) (reach : ℕ) (memory : ℕ → ℕ)
    (flights : List Flight)
    (k : RingHolds opening order reach memory flights)
    (valid : IsSegmentSize opening.setup.seg_size)
    (placed : IsPlace opening.setup.seg_size opening.place)
    (chain : GoesOnAtPlace opening order) where
  abbrev size : ℕ
  size = opening.setup.seg_size

  module _ (front back : List Entry) (e : Entry) (are : order ≡ front ++ e ∷ back) (n : ℕ)
      (owned : n < words_owned size e) where
    abbrev address : ℕ
    address = address_of_word size e n

    whole : address_of_word size e n % 8 ≡ 0
    whole = first_word-whole size valid e
        (start-whole_from size valid opening.place.position front back e
        (subst (GoesOnAtPlace opening) are chain) placed.whole) n

    inside : address_of_word size e n < finish_of size e
    inside =
        let ends = last_word-ends size valid e
        (start-whole_from size valid opening.place.position front back e
        (subst (GoesOnAtPlace opening) are chain) placed.whole) in omega arith

    -- whoever is to copy a word of an entry copies this entry
    awaited-own : (w : IsAwaited size flights (address_of_word size e n)) → (w.copy).entry ≡ e
    awaited-own w =
        let s = k.in_flight w.id w.copy w.in_flight in
        let from = w.from in
        let below = inside in
        let theirs = owner_is opening valid order chain s.front s.back (w.copy).entry s.are
        (address_of_word size e n) (omega arith) w.to in
        let own = owner_is opening valid order chain front back e are (address_of_word size e n)
        (omega arith) below in
        same_Some (w.copy).entry e (sym theirs ∙ own)

    -- a word that nobody is to copy is the log's
    unawaited : (IsAwaited size flights (address_of_word size e n) → ⊥)
        → memory (address_of_word size e n / 8)
        ≡ log_word_of opening order (address_of_word size e n)
    unawaited none =
        let a : ℕ = address_of_word size e n in
        let even = whole in
        let number : 8 * (a / 8) ≡ a = omega arith in
        ⊎_elim
        (λ t. t ∙ ap (log_word_of opening order) number)
        (λ t. absurd (none (subst (λ (x : ℕ). IsAwaited size flights x) number t.1)))
        (k.words (a / 8))

    -- of an entry that is in no flight, each word is the log's
    pub landed-stored : ((id : ℕ) (c : Copy) → HasAt flights id (Copying c)
        → (c.entry).start ≢ e.start)
        → memory (address_of_word size e n / 8)
        ≡ log_word_of opening order (address_of_word size e n)
    landed-stored nowhere = unawaited (λ w. nowhere w.id w.copy w.in_flight
        (ap (λ (x : Entry). x.start) (awaited-own w)))

  -- of an entry in flight, each word that counts as copied is the log's
  pub copied-stored : (id : ℕ) (c : Copy) → HasAt flights id (Copying c) → (n : ℕ) → n < c.copied
      → memory (address_of_word size c.entry n / 8)
      ≡ log_word_of opening order (address_of_word size c.entry n)
  copied-stored id c here n low =
      let s = k.in_flight id c here in
      let within = s.copied_within in
      let owned : n < words_owned size c.entry = omega arith in
      unawaited s.front s.back c.entry s.are n owned (λ w.
      let same = awaited-own s.front s.back c.entry s.are n owned w in
      let one : w.id ≡ id = k.alone w.id id w.copy c w.in_flight here
      (ap (λ (x : Entry). x.start) same) in
      let copy : Copying w.copy ≡ Copying c = at_same flights (Copying w.copy) (Copying c) id
      (subst (λ (j : ℕ). HasAt flights j (Copying w.copy)) one w.in_flight) here in
      let is : w.copy ≡ c = cc in
      let from = subst (λ (d : Copy). address_of_word size d.entry d.copied
      ≤ address_of_word size c.entry n) is w.from in
      omega arith)
