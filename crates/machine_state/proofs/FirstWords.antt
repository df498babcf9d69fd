-- The words that a log is gone on with are those with which it is opened.
use Rattle.std.proofs.Common.{◌≡◌, ℕ, ◌+◌, ◌*◌, ◌/◌, ◌%◌, ◌<◌, ◌≤◌, List, [], sym, ap, ◌∙◌, subst, inl, inr, arith}
use Rattle.std.proofs.lemmas.Bool.{cases_eq, cases_lt}
use Rattle.std.proofs.lemmas.Nat.{div-add-mod', mul-le}
use Rattle.std.proofs.Math.Nat.{mod-lt}
use Rattle.byte_position.specs.Position.{end_address_of}
use Rattle.byte_position.proofs.SegmentSizes.{segment_size_in_pages}
use Rattle.byte_position.proofs.Words.{end_address_of-mod_word}
use Rattle.wal_page.specs.Order.{Entry}
use Rattle.wal_page.specs.LogPlace.{IsPlace, LogPlace, end_from, new_place}
use Rattle.wal_page.proofs.PlaceLaws.{word_from-behind}
use Rattle.machine_state.specs.declared.setup.Setup.{Setup}
use Rattle.machine_state.specs.Words.{Opening, found_end, found_position, word_of_ring}
use Rattle.machine_state.specs.Opened.{AreFirstWords}
use Rattle.machine_state.specs.Ringed.{log_word_of}
use Rattle.machine_state.specs.Sound.{IsSetup}
use Rattle.machine_state.proofs.NothingFound.{nothing_ends, nothing_stands}
use Rattle.machine_state.specs.declared.first.LogEnd.{LogEnd}
use Rattle.machine_state.specs.FirstWords.{first_end, GoOnBehind, IsEndOf, IsLastPage, words_below}

apart_by : (n a b r p q : ℕ) → a * n + r ≡ p → b * n + r ≡ q → p < q → q < p + n → ⊥
apart_by n a b r p q is_p is_q less near = elim (cases_lt a b) [
  | inl below ↦ (let most = mul-le (a + 1) n b n (omega arith) (omega arith) in omega arith)
  | inr above ↦ (let most = mul-le b n a n above (omega arith) in omega arith)
]

-- two numbers less than n apart have two remainders
apart : (n p q : ℕ) → p < q → q < p + n → q % n ≡ p % n → ⊥
apart n p q less near same = apart_by n (p / n) (q / n) (p % n) p q (div-add-mod' p n)
    (ap (λ (r : ℕ). q / n * n + r) (sym same) ∙ div-add-mod' q n) less near

module _ (opening : Opening) (valid : IsSetup opening.setup)
    (placed : IsPlace (opening.setup).seg_size opening.place) (page words : List ℕ) where
  abbrev setup : Setup
  setup = opening.setup

  abbrev pages : ℕ
  pages = setup.ring_pages

  abbrev upto : ℕ
  upto = found_end opening

  abbrev low : ℕ
  low = upto / 8192

  abbrev log_words : ℕ → ℕ
  log_words k = log_word_of opening [] (8 * k)

  -- the log ends at a word, and has none behind
  aligned : upto % 8 ≡ 0
  aligned = end_address_of-mod_word setup.seg_size valid.size (found_position opening)
      placed.whole

  none_ends : end_from setup.seg_size opening.place [] ≡ found_position opening
  none_ends = omega arith

  none_behind : (k : ℕ) → upto ≤ 8 * k → log_words k ≡ 0
  none_behind k behind = word_from-behind setup.seg_size setup.sysid valid.size opening.place [] tt
      (8 * k) (omega (arith, ap (λ (n : ℕ). end_address_of setup.seg_size n) none_ends, behind))

  abbrev end_of : LogEnd
  end_of = record {
    position = found_position opening;
    address = upto;
    last_start = (opening.place).prev;
  }

  module _ (is_page : IsLastPage opening page)
      (goes_on : GoOnBehind pages opening.moment end_of page words) where
    -- the words of the page in which the log ends
    last_page : (j : ℕ) → j < 1024
        → word_of_ring setup words (low % pages * 1024 + j) ≡ log_words (low * 1024 + j)
    last_page j within =
        let ring = valid.ring_low in
        let some_page : 0 < pages = omega arith in
        let buffer = mod-lt low some_page in
        let whole = aligned in
        elim (cases_lt j (words_below upto)) [
          | inl below ↦ goes_on.kept j below ∙ is_page j (omega (arith, below, whole))
              ∙ ap (λ (a : ℕ). log_word_of opening [] a) (omega arith)
          | inr above ↦ goes_on.behind (low % pages * 1024 + j) (omega (arith, above))
              (omega (arith, buffer, within))
              ∙ sym (none_behind (low * 1024 + j) (omega (arith, above, whole)))
        ]

    -- and those of the pages behind
    other_pages : (p j : ℕ) → low < p → p < low + pages → j < 1024
        → word_of_ring setup words (p % pages * 1024 + j) ≡ log_words (p * 1024 + j)
    other_pages p j from to within =
        let ring = valid.ring_low in
        let some_page : 0 < pages = omega arith in
        let buffer = mod-lt p some_page in
        let none = none_behind (p * 1024 + j) (omega (arith, from)) in
        elim (cases_lt (p % pages) (low % pages)) [
          | inl before ↦ goes_on.before (p % pages * 1024 + j) (omega (arith, before, within))
              ∙ sym none
          | inr behind ↦ elim (cases_eq (p % pages) (low % pages)) [
            | inl same ↦ absurd (apart pages low p from to same)
            | inr other ↦ goes_on.behind (p % pages * 1024 + j) (omega (arith, behind, other))
                (omega (arith, buffer, within)) ∙ sym none
          ]
        ]

    of_this_end : AreFirstWords opening words
    of_this_end = record {
      wide = goes_on.wide;
      position = goes_on.position;
      prev = goes_on.last_start;
      zeros = goes_on.zeros;
      initialised = goes_on.initialised;
      written = goes_on.written;
      flushed = goes_on.flushed;
      moment = goes_on.moment_is;
      down = goes_on.down;
      async = goes_on.async_is;
      ends = goes_on.ends;
      ring = λ p j from to within. elim (cases_eq p low) [
        | inl is ↦ subst (λ (q : ℕ). word_of_ring setup words (q % pages * 1024 + j)
            ≡ log_words (q * 1024 + j)) (sym is) (last_page j within)
        | inr other ↦ other_pages p j (omega (arith, from, other)) to within
      ];
    }

  pub words_are_first : (end : LogEnd) → IsEndOf opening end → IsLastPage opening page
      → GoOnBehind pages opening.moment end page words → AreFirstWords opening words
  words_are_first end is is_page goes_on =
      let same : end ≡ end_of = λ j. record {
        position = is.position_is j;
        address = is.address_is j;
        last_start = is.last_start_is j;
      } in
      of_this_end is_page
      (subst (λ (e : LogEnd). GoOnBehind pages opening.moment e page words) same goes_on)

-- a log that holds nothing ends where segment 1 begins: of its page no word is below
pub nothing_ends_first : (opening : Opening) → IsSetup opening.setup
    → opening.place ≡ new_place (opening.setup).seg_size
    → IsEndOf opening (first_end (opening.setup).seg_size)
nothing_ends_first opening valid fresh = record {
  position_is = sym (nothing_stands opening valid.size fresh);
  address_is = sym (nothing_ends opening valid.size fresh);
  last_start_is = sym (ap (λ (p : LogPlace). p.prev) fresh);
}

pub no_word_below : (opening : Opening) → IsSetup opening.setup
    → opening.place ≡ new_place (opening.setup).seg_size
    → (page : List ℕ) → IsLastPage opening page
no_word_below opening valid fresh page = λ j below.
    let whole = (segment_size_in_pages (opening.setup).seg_size valid.size).0 in
    absurd (omega (arith, below, whole, nothing_ends opening valid.size fresh))
