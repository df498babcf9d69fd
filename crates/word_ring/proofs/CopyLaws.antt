-- The next word of a copy: whether one is left, where its place in the ring is, and what it is; and
-- runs of such words on one page.
use Rattle.std.proofs.Common.{◌≡◌, ℕ, zero, suc, ◌+◌, ◌-◌, ◌*◌, ◌/◌, ◌%◌, ◌<◌, ◌≤◌, List, [], length, get_or, slice_index, take, drop, map, refl, sym, ap, ◌∙◌, subst, arith}
use Rattle.std.specs.Int.{w64, from_le_bytes}
use Rattle.std.specs.Simd.{first_chunks}
use Rattle.std.proofs.lemmas.List.{drop-drop, get_or-take}
use Rattle.std.proofs.Math.Logic.{∥∥₁_elim}
use Rattle.std.specs.Coded.{Coded-set, coded_ℕ, le_prop, ×_prop}
use Rattle.atomic_table.proofs.Lists.{at_map}
use Rattle.wal_spelling.specs.Spelling.{word_at}
use Rattle.wal_page.specs.EntryWords.{address_of_word, words_owned}
use Rattle.wal_page.specs.Placed.{PlacedState, placed_end, placed_word}
use Rattle.machine_state.specs.declared.setup.Setup.{Setup}
use Rattle.machine_state.specs.Words.{Opening, ends_number}
use Rattle.machine_state.specs.Ringed.{IsOfOrder}
use Rattle.machine_state.specs.Views.{Copy, Copying, Flight, HasAt, Landed, flight_of, View}
use Rattle.machine_state.specs.Steps.{ring_number, ring_place, next_value, number_of_next}
use Rattle.machine_laws.proofs.RingLaws.{copy-whole, first_word-whole, last_word-ends}
use Rattle.wal_rule.specs.declared.seated.SeatedPass.{SeatedPass}
use Rattle.wal_rule.specs.SeatedPasses.{HasView, hand_of, setup_of, view_of}
use Rattle.wal_rule.specs.Stepping.{Stands}
use Rattle.word_ring.specs.CopyRuns.{HasCopied, MayCopy, MayStoreRun, MayStoreWords, StoresNext, chunk_word}
use Rattle.word_ring.proofs.Steps.{has_same_view, same_setup, then_view, view_is}
use Rattle.word_ring.specs.Copied.{IsPlaceOf, IsRestOf, copied_view, further, page_end_at, rest_of}
use Rattle.word_ring.specs.Ring.{confirmed_view}

module _ (v : View) (stands : Stands v) (c : Copy) (is : (v.working).flight ≡ Copying c) where
  abbrev setup : Setup
  setup = (v.opening).setup

  of_order : IsOfOrder v.opening (stands.sound).order c
  of_order = ((stands.sound).ring).in_flight stands.id c
      (subst (λ (f : Flight). HasAt (map flight_of stands.views) stands.id f) is
      (at_map flight_of stands.views stands.id v stands.here))

  whole : (c.entry).start % 8 ≡ 0
  whole = copy-whole v.opening ((stands.sound).setup_is).size ((stands.sound).reserved).placed
      (stands.sound).order ((stands.sound).reserved).chained c of_order

  module _ (p : PlacedState) (rest : p ≡ rest_of setup c) where
    next_is : p.next ≡ address_of_word setup.seg_size c.entry c.copied
    next_is = ap (λ (q : PlacedState). q.next) rest

    whole_next : p.next % 8 ≡ 0
    whole_next =
        let first = first_word-whole setup.seg_size (((stands.sound).setup_is).size) c.entry
        whole c.copied in
        omega (arith, first, next_is)

    -- where the record's last word ends
    ends-at : placed_end p ≡ address_of_word setup.seg_size c.entry
        (words_owned setup.seg_size c.entry)
    ends-at = ap placed_end rest ∙ sym (last_word-ends setup.seg_size
        (((stands.sound).setup_is).size) c.entry whole)

    left_words : (p.next ≤ placed_end p)
        × (p.next + 8 * ((placed_end p - p.next) / 8) ≡ placed_end p)
    left_words =
        let last = ends-at in
        let here = next_is in
        let within = of_order.copied_within in
        (omega (arith, last, here, within), omega (arith, last, here, within))

    -- a word is left where the next one lies before that
    word_before : p.next < placed_end p → c.copied < words_owned setup.seg_size c.entry
    word_before before =
        let last = ends-at in
        let here = next_is in
        omega (arith, before, last, here)

-- the words behind so many are those that are left of the copy that is so far on
pub rest_further : (setup : Setup) (c : Copy) (n : ℕ) (p : PlacedState) → p ≡ rest_of setup c
    → record p { next = p.next + 8 * n } ≡ rest_of setup (record c { copied = c.copied + n })
rest_further setup c n p rest =
    let step : address_of_word setup.seg_size c.entry c.copied + 8 * n
    ≡ address_of_word setup.seg_size c.entry (c.copied + n) = omega arith in
    ap (λ (r : PlacedState). record r { next = r.next + 8 * n }) rest
    ∙ ap (λ (k : ℕ). record (rest_of setup c) { next = k }) step

-- a copy of which so many words are copied has them behind it
pub copying_further : {C : Type 0} (v : View) (me : View × C) (slots : C) (n : ℕ) (c : Copy)
    → me ≡ (copied_view n v, slots) → (v.working).flight ≡ Copying c
    → ((me.0).working).flight ≡ Copying (record c { copied = c.copied + n })
copying_further {C} v me slots n c is flight =
    ap (λ (m : View × C). ((m.0).working).flight) is ∙ ap (λ (f : Flight). further n f) flight

-- ---- places on one page

-- the places of the words of a page follow each other
pub place_further : (setup : Setup) (next n place : ℕ) → next % 8 ≡ 0
    → next + 8 * n < page_end_at next → IsPlaceOf setup next place
    → IsPlaceOf setup (next + 8 * n) (place + n)
place_further setup next n place whole within is =
    let page : (next + 8 * n) / 8 / 1024 ≡ next / 8 / 1024 = omega arith in
    let word : (next + 8 * n) / 8 % 1024 ≡ next / 8 % 1024 + n = omega arith in
    let first = ap (λ (k : ℕ). k % setup.ring_pages * 1024) page in
    omega (arith, is, first, word)

pub same_page_end : (next n : ℕ) → next + 8 * n < page_end_at next
    → page_end_at (next + 8 * n) ≡ page_end_at next
same_page_end next n within =
    let page : (next + 8 * n) / 8192 ≡ next / 8192 = omega arith in
    ap (λ (k : ℕ). (k + 1) * 8192) page

-- ---- the words that are left of a pass's copy

module _ {D : Type 0} (p : SeatedPass D) (placed : PlacedState)
    (rest : IsRestOf (setup_of p) (view_of p) placed) where
  abbrev v : View
  v = view_of p

  abbrev copy : Copy
  copy = rest.0

  -- a table's setup is that of its passes
  own_setup : setup_of p ≡ (v.opening).setup
  own_setup = sym (ap (λ (o : Opening). o.setup) (p.seated).own)

  own_rest : placed ≡ rest_of (v.opening).setup copy
  own_rest = rest.2 ∙ ap (λ (s : Setup). rest_of s copy) own_setup

  pub next-whole : placed.next % 8 ≡ 0
  next-whole = ∥∥₁_elim (p.seated).stands (Coded-set coded_ℕ (placed.next % 8) 0)
      (λ (s : Stands v). whole_next v s copy rest.1 placed own_rest)

  -- they lie between the next one and the record's end
  pub words-left : (placed.next ≤ placed_end placed)
      × (placed.next + 8 * ((placed_end placed - placed.next) / 8) ≡ placed_end placed)
  words-left = ∥∥₁_elim (p.seated).stands
      (×_prop le_prop (Coded-set coded_ℕ
      (placed.next + 8 * ((placed_end placed - placed.next) / 8)) (placed_end placed)))
      (λ (s : Stands v). left_words v s copy rest.1 placed own_rest)

  word-left : placed.next < placed_end placed
      → copy.copied < words_owned ((v.opening).setup).seg_size copy.entry
  word-left before = ∥∥₁_elim (p.seated).stands le_prop
      (λ (s : Stands v). word_before v s copy rest.1 placed own_rest before)

  next_own : placed.next ≡ address_of_word ((v.opening).setup).seg_size copy.entry copy.copied
  next_own = ap (λ (q : PlacedState). q.next) own_rest

  -- the next word is stored
  pub stores_next : (place word : ℕ) → placed.next < placed_end placed
      → placed.next < (v.mapping).confirmed → IsPlaceOf (setup_of p) placed.next place
      → word ≡ placed_word placed placed.next → StoresNext v place word
  stores_next place word before met at given = record {
    place_is = subst (λ (s : Setup). IsPlaceOf s placed.next place) own_setup at
        ∙ ap (λ (n : ℕ). ring_number (v.opening).setup (ring_place (v.opening).setup (n / 8)))
        next_own
        ∙ ap (λ (f : Flight). ring_number (v.opening).setup
        (ring_place (v.opening).setup (number_of_next (v.opening).setup f))) (sym rest.1);
    may = (
      copy,
      rest.1,
      record {
        left = word-left before;
        met = subst (λ (n : ℕ). n < (v.mapping).confirmed) next_own met;
      },
    );
    word_is = given ∙ ap (λ (q : PlacedState). placed_word q q.next) own_rest
        ∙ ap (λ (f : Flight). next_value v f) (sym rest.1);
  }

-- ---- a page's end is met first

-- the words that are left are so still
pub rest_met : {D : Type 0} (p q : SeatedPass D) (a : PlacedState) (met : ℕ)
    → IsRestOf (setup_of p) (view_of p) a → HasView (confirmed_view met (view_of p)) p q
    → IsRestOf (setup_of q) (view_of q) a
rest_met p q a met rest x = (
  rest.0,
  ap (λ (w : View). (w.working).flight) (view_is (confirmed_view met (view_of p)) p q x) ∙ rest.1,
  rest.2 ∙ ap (λ (s : Setup). rest_of s rest.0) (sym (same_setup p q x.same_table)),
)

-- none copied is a copy of no words
copied_none_of : (f : Flight) → f ≡ further 0 f
copied_none_of Landed = refl
copied_none_of (Copying c) =
    let e : c.copied ≡ c.copied + 0 = omega arith in
    ap (λ (k : ℕ). Copying (record c { copied = k })) e

pub copied_none : (v : View) → v ≡ copied_view 0 v
copied_none v = ap (λ (f : Flight). record v { working = record v.working { flight = f } })
    (copied_none_of (v.working).flight)

-- the place of a word, by the buffer of its page
pub place_of_buffer : (setup : Setup) (pages next place : ℕ) → pages ≡ setup.ring_pages
    → place ≡ ends_number + pages + (next / 8192 % pages * 1024 + next / 8 % 1024)
    → IsPlaceOf setup next place
place_of_buffer setup pages next place is at =
    let page : next / 8192 ≡ next / 8 / 1024 = omega arith in
    at ∙ ap (λ (k : ℕ). ends_number + pages + (k % pages * 1024 + next / 8 % 1024)) page
    ∙ ap (λ (r : ℕ). ends_number + r + (next / 8 / 1024 % r * 1024 + next / 8 % 1024)) is

-- ---- runs of words

-- the words that are left behind so many copied
pub rest_behind : {D : Type 0} (n : ℕ) (p q : SeatedPass D) (a : PlacedState)
    → IsRestOf (setup_of p) (view_of p) a → HasView (copied_view n (view_of p)) p q
    → IsRestOf (setup_of p) (view_of q) (record a { next = a.next + 8 * n })
rest_behind {D} n p q a rest x = (
  record rest.0 { copied = (rest.0).copied + n },
  copying_further (view_of p) q.seat.me (hand_of p) n rest.0 x.me_is rest.1,
  rest_further (setup_of p) rest.0 n a rest.2,
)

pub has_copied : {D : Type 0} (n : ℕ) (p q : SeatedPass D) (a b : PlacedState)
    → IsRestOf (setup_of p) (view_of p) a → HasView (copied_view n (view_of p)) p q
    → b ≡ record a { next = a.next + 8 * n } → HasCopied n p q a b
has_copied n p q a b rest x is = record {
  view = x;
  placed_is = is;
  rest = subst (λ (r : PlacedState). IsRestOf (setup_of p) (view_of q) r) (sym is)
      (rest_behind n p q a rest x);
}

pub next_behind : {D : Type 0} (n : ℕ) (p q : SeatedPass D) (a b : PlacedState)
    → HasCopied n p q a b → b.next ≡ a.next + 8 * n
next_behind n p q a b x = ap (λ (s : PlacedState). s.next) x.placed_is

-- a run of those that may be copied, where the ones before it are
pub may_copy_on : {D : Type 0} (count place done run : ℕ) (p q : SeatedPass D) (a b : PlacedState)
    → MayCopy count place p a → HasCopied done p q a b → done < count → done + run ≤ count
    → MayCopy run (place + done) q b
may_copy_on {D} count place done run p q a b may x some fits =
    let next = next_behind done p q a b x in
    let ended : placed_end b ≡ placed_end a = ap placed_end x.placed_is in
    let on = may.on_page in
    let left = may.left in
    let met = may.met in
    let page : page_end_at b.next ≡ page_end_at a.next = ap page_end_at next
    ∙ same_page_end a.next done (omega (arith, on, some)) in
    let confirmed : ((view_of q).mapping).confirmed ≡ ((view_of p).mapping).confirmed =
    ap (λ (w : View). (w.mapping).confirmed)
    (view_is (copied_view done (view_of p)) p q x.view) in
    let setup_is : setup_of q ≡ setup_of p = same_setup p q (x.view).same_table in
    record {
      rest = subst (λ (s : Setup). IsRestOf s (view_of q) b) (sym setup_is) x.rest;
      left = omega (arith, next, ended, left, fits);
      on_page = omega (arith, next, page, on, fits);
      met = omega (arith, page, confirmed, met);
      place_is = subst (λ (s : Setup). IsPlaceOf s b.next (place + done)) (sym setup_is)
          (subst (λ (k : ℕ). IsPlaceOf (setup_of p) k (place + done)) (sym next)
          (place_further (setup_of p) a.next done place (next-whole p a may.rest)
          (omega (arith, on, some)) may.place_is));
    }

-- the n-th word of a run, where those before it are stored
pub run_stores : {D : Type 0} (count place : ℕ) (p q : SeatedPass D) (a : PlacedState)
    (n word : ℕ) → MayCopy count place p a → HasView (copied_view n (view_of p)) p q → n < count
    → word ≡ placed_word a (a.next + 8 * n) → StoresNext (view_of q) (place + n) word
run_stores count place p q a n word may x below given =
    let b : PlacedState = record a { next = a.next + 8 * n } in
    let on : MayCopy 1 (place + n) q b = may_copy_on count place n 1 p q a b may
    (has_copied n p q a b may.rest x refl) below (omega (arith, below)) in
    let left = on.left in
    let on_page = on.on_page in
    let met = on.met in
    stores_next q b on.rest (place + n) word (omega (arith, left))
    (omega (arith, on_page, met)) on.place_is given

-- ---- runs of stores

further_on : (done n : ℕ) (f : Flight) → further n (further done f) ≡ further (done + n) f
further_on done n Landed = refl
further_on done n (Copying c) =
    let e : c.copied + done + n ≡ c.copied + (done + n) = omega arith in
    ap (λ (k : ℕ). Copying (record c { copied = k })) e

copied_on : (done n : ℕ) (v : View) → copied_view n (copied_view done v) ≡ copied_view (done + n) v
copied_on done n v =
    ap (λ (f : Flight). record v { working = record v.working { flight = f } })
    (further_on done n (v.working).flight)

-- so many words further on, and then more
pub behind_run : {D : Type 0} (done n : ℕ) (p q r : SeatedPass D)
    → HasView (copied_view done (view_of p)) p q → HasView (copied_view n (view_of q)) q r
    → HasView (copied_view (done + n) (view_of p)) p r
behind_run done n p q r x y =
    has_same_view (copied_view n (copied_view done (view_of p)))
    (copied_view (done + n) (view_of p)) p r (copied_on done n (view_of p))
    (then_view (copied_view n) (copied_view done (view_of p)) p q r x y)

stores_there : (v : View) (place at word given : ℕ) → place ≡ at → word ≡ given
    → StoresNext v place word → StoresNext v at given
stores_there v place at word given there is x =
    subst (λ (k : ℕ). StoresNext v k given) there
    (subst (λ (w : ℕ). StoresNext v place w) is x)

-- what is left of a run may be stored behind its first words
pub run_on : {D : Type 0} (place done count all : ℕ) (words : List ℕ) (p q : SeatedPass D)
    → MayStoreRun place words 0 all p → HasView (copied_view done (view_of p)) p q
    → done + count ≤ all → MayStoreRun (place + done) words done count q
run_on place done count all words p q run x within n r below y =
    let same : 0 + (done + n) ≡ done + n = omega arith in
    let there : place + (done + n) ≡ place + done + n = omega arith in
    stores_there (view_of r) (place + (done + n)) (place + done + n)
    (slice_index words (0 + (done + n))) (slice_index words (done + n)) there
    (ap (slice_index words) same)
    (run (done + n) r (omega (arith, within, below)) (behind_run done n p q r x y))

-- the words of a record's run may be stored
pub run_may : {D : Type 0} (place : ℕ) (words : List ℕ) (p : SeatedPass D) (a : PlacedState)
    → MayCopy (length words) place p a
    → ((n : ℕ) → n < length words → slice_index words n ≡ placed_word a (a.next + 8 * n))
    → MayStoreRun place words 0 (length words) p
run_may place words p a may given n q below x =
    let same : n ≡ 0 + n = omega arith in
    stores_there (view_of q) (place + n) (place + n) (slice_index words n)
    (slice_index words (0 + n)) refl (ap (slice_index words) same)
    (run_stores (length words) place p q a n (slice_index words n) may x below (given n below))

-- so may those that are some numbers' words
pub words_may : {D : Type 0} (count place : ℕ) (words : ℕ → ℕ) (p : SeatedPass D)
    (a : PlacedState) → MayCopy count place p a
    → ((n : ℕ) → n < count → words n ≡ placed_word a (a.next + 8 * n))
    → MayStoreWords place words count p
words_may count place words p a may given n q below x =
    run_stores count place p q a n (words n) may x below (given n below)

-- and others that are the same
pub words_as : {D : Type 0} (place count all : ℕ) (words others : ℕ → ℕ) (p : SeatedPass D)
    → MayStoreWords place words all p → count ≤ all
    → ((n : ℕ) → n < count → words n ≡ others n) → MayStoreWords place others count p
words_as place count all words others p may within same n q below x =
    stores_there (view_of q) (place + n) (place + n) (words n) (others n) refl (same n below)
    (may n q (omega (arith, within, below)) x)

-- what is left of them may be stored behind the first
pub words_on : {D : Type 0} (place done count all : ℕ) (words : ℕ → ℕ) (p q : SeatedPass D)
    → MayStoreWords place words all p → HasView (copied_view done (view_of p)) p q
    → done + count ≤ all → MayStoreWords (place + done) (λ n. words (done + n)) count q
words_on place done count all words p q may within fits n r below y =
    let there : place + (done + n) ≡ place + done + n = omega arith in
    stores_there (view_of r) (place + (done + n)) (place + done + n) (words (done + n))
    (words (done + n)) there refl
    (may (done + n) r (omega (arith, fits, below)) (behind_run done n p q r within y))

-- so many words were copied, and then more
pub copied_more : {D : Type 0} (done n : ℕ) (p q r : SeatedPass D) (a b e : PlacedState)
    → IsRestOf (setup_of p) (view_of p) a → HasCopied done p q a b → HasCopied n q r b e
    → HasCopied (done + n) p r a e
copied_more done n p q r a b e rest x y =
    let sum : a.next + 8 * done + 8 * n ≡ a.next + 8 * (done + n) = omega arith in
    has_copied (done + n) p r a e rest (behind_run done n p q r x.view y.view)
    (y.placed_is ∙ ap (λ (s : PlacedState). record s { next = s.next + 8 * n }) x.placed_is
    ∙ ap (λ (k : ℕ). record a { next = k }) sum)

-- fewer words may be copied too
pub fewer_may : {D : Type 0} (count n place : ℕ) (p : SeatedPass D) (a : PlacedState)
    → MayCopy count place p a → n ≤ count → MayCopy n place p a
fewer_may count n place p a may few =
    let left = may.left in
    let on = may.on_page in record {
      rest = may.rest;
      left = omega (arith, left, few);
      on_page = omega (arith, on, few);
      met = may.met;
      place_is = may.place_is;
    }

-- none was copied
pub copied_nothing : {D : Type 0} (p : SeatedPass D) (a b : PlacedState)
    → IsRestOf (setup_of p) (view_of p) a → b ≡ a → HasCopied 0 p p a b
copied_nothing p a b rest same =
    let none : a.next ≡ a.next + 8 * 0 = omega arith in
    has_copied 0 p p a b rest
    (record {
      same_table = refl;
      me_is = ap (λ (w : View). (w, hand_of p)) (copied_none (view_of p));
    })
    (same ∙ ap (λ (n : ℕ). record a { next = n }) none)

-- so many were, by another count
pub copied_as : {D : Type 0} (m n : ℕ) (p q : SeatedPass D) (a b : PlacedState) → m ≡ n
    → HasCopied m p q a b → HasCopied n p q a b
copied_as m n p q a b same x = subst (λ (k : ℕ). HasCopied k p q a b) same x

-- ---- words of bytes

chunk_at : (count : ℕ) (bytes : List ℕ) (k : ℕ) → k < count
    → get_or (first_chunks 8 count bytes) k [] ≡ take 8 (drop (8 * k) bytes)
chunk_at zero bytes k below = absurd (omega arith)
chunk_at (suc count) bytes zero below = refl
chunk_at (suc count) bytes (suc k) below =
    let place : 8 + 8 * k ≡ 8 * suc k = omega arith in
    chunk_at count (drop 8 bytes) k (omega arith)
    ∙ ap (take 8) (drop-drop (8 * k) 8 bytes ∙ ap (λ (m : ℕ). drop m bytes) place)

-- those of whole chunks
pub chunk_words : (bytes : List ℕ) (chunks : List (List ℕ)) (whole n : ℕ)
    → chunks ≡ first_chunks 8 (length bytes / 8) bytes → whole ≤ length bytes / 8 → n < whole
    → word_at bytes n ≡ chunk_word (take whole chunks) n
chunk_words bytes chunks whole n cut within below =
    sym (ap (from_le_bytes w64) (get_or-take whole chunks n [] below
    ∙ ap (λ (cs : List (List ℕ)). get_or cs n []) cut
    ∙ chunk_at (length bytes / 8) bytes n (omega (arith, within, below))))

-- that of the bytes behind them
pub tail_word : (bytes tail : List ℕ) (whole : ℕ) → tail ≡ drop (length bytes / 8 * 8) bytes
    → whole ≡ length bytes / 8 → from_le_bytes w64 (take 8 tail) ≡ word_at bytes whole
tail_word bytes tail whole is all =
    let place : length bytes / 8 * 8 ≡ 8 * whole = omega (arith, all) in
    ap (λ (t : List ℕ). from_le_bytes w64 (take 8 t))
    (is ∙ ap (λ (m : ℕ). drop m bytes) place)
