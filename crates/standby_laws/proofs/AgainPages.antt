-- The pages that a disk holds on which a log was settled.
use Rattle.std.proofs.Common.{◌≡◌, ℕ, ◌+◌, ◌-◌, ◌*◌, ◌/◌, ◌%◌, ◌<◌, ◌≤◌, ◌⊎◌, List, [], length, take, replicate, Option, Some, None, IfSome, inl, inr, refl, sym, ap, subst, ◌∙◌, if◌then◌else◌, arith, length-append, length-take}
use Rattle.std.specs.Prelude.{IsSome}
use Rattle.std.specs.Option.{IsSomeAnd}
use Rattle.std.proofs.lemmas.Bool.{cases_lt, le-ltb, lt-ltb}
use Rattle.std.proofs.lemmas.List.{length-replicate}
use Rattle.std.proofs.lemmas.Nat.{div-mul-add, div_below}
use Rattle.std.proofs.Math.Nat.{div-add-mod, mul-le-mul_right}
use Rattle.byte_position.specs.Geometry.{IsSegmentSize, pages_of}
use Rattle.byte_position.proofs.SegmentSizes.{segment_size_in_pages}
use Rattle.segment_disk.specs.Assured.{SegmentAssures, made_upto}
use Rattle.segment_disk.specs.DiskImage.{IsWritten, image_as_read, word_of}
use Rattle.segment_disk.specs.ImageWords.{zero_word}
use Rattle.segment_disk.specs.Tape.{DiskState, Segment, Tape, after_calls, after_writes, page_as_read, page_of_segment, state_now, zero_page}
use Rattle.segment_disk.proofs.ZeroWords.{word_of-zero_page}
use Rattle.flush_core.specs.Pages.{HoldsPages, HoldsSegment, PutPages, unsynced_writes}
use Rattle.flush_core.specs.Settled.{AreThere, HaveWholePages, IsAmong, IsAsRead, IsOldOrZero, KeepsOld, clear_from, cleared, first_to_clear, kept_of, settle_calls}
use Rattle.flush_core.specs.SettledLog.{AreOnly, IsLogWord, IsZeroOrLogWord}
use Rattle.flush_core.specs.Writer.{HoldsLogPages}
use Rattle.flush_core.proofs.LawfulLaws.{no_word_before}
use Rattle.flush_core.proofs.SettledLeft.{at_number, settled_behind, settled_below, some_same}
use Rattle.flush_core.proofs.SettledPages.{settled_page, silent_settled, turns_settled}
use Rattle.flush_core.proofs.Words.{same_words}
use Rattle.wal_page.specs.Order.{Entry, IsChained}
use Rattle.wal_page.specs.Log.{log_word_bytes}

-- a page behind the settling of a segment that was there, zeros where none was
abbrev settled_or_zero : ℕ → ℕ → ℕ → ℕ → Option Segment → List ℕ
settled_or_zero size end segment page None = zero_page
settled_or_zero size end segment page (Some s) =
    settled_page size end segment page (page_as_read s page)

abbrev pub settled_pages : ℕ → ℕ → DiskState → PutPages
settled_pages size end state number =
    settled_or_zero size end (number / pages_of size) (number % pages_of size)
    (state (number / pages_of size))

not_there : (o : Option Segment) → o ≡ None → IsSome (page_of_segment o 0) → ⊥
not_there None is there = absurd (cc there)
not_there (Some s) is there = absurd (let no : ⊥ = cc in no)

is_there : (o : Option Segment) (s : Segment) → o ≡ Some s → o ≡ None → ⊥
is_there None s is none = absurd (let no : ⊥ = cc in no)
is_there (Some t) s is none = absurd (let no : ⊥ = cc in no)

none_as_read : (state : DiskState) (segment : ℕ) (o : Option Segment) → o ≡ None → image_as_read (λ (n : ℕ). o) segment ≡ None
none_as_read state segment None is = refl
none_as_read state segment (Some s) is = absurd (let no : ⊥ = cc in no)

-- where nothing waits, what may stand is what is read
pub stands_read : (s : Segment) (page word : ℕ) (bytes : List ℕ) → s.writes ≡ [] → (bytes ≡ word_of (s.durable page) word) ⊎ IsWritten s.writes page word bytes → bytes ≡ word_of (page_as_read s page) word
stands_read s page word bytes none (inl kept) = kept ∙ ap (λ (writes : List (ℕ × List ℕ)). word_of (after_writes writes page (s.durable page)) word) (sym none)
stands_read s page word bytes none (inr written) = absurd (subst (λ (writes : List (ℕ × List ℕ)). IsWritten writes page word bytes) none written)

settled_long : (size end segment page : ℕ) (bytes : List ℕ) → length bytes ≡ 8192 → page < pages_of size → length (settled_page size end segment page bytes) ≡ 8192
settled_long size end segment page bytes long within = elim (cases_lt page (first_to_clear size (kept_of size end segment))) [
  | inl before ↦ ap (λ b. length (if b then bytes else cleared (clear_from (kept_of size end segment) page) bytes)) (lt-ltb page (first_to_clear size (kept_of size end segment)) before) ∙ long
  | inr behind ↦
      (let from = clear_from (kept_of size end segment) page in
      let few : from ≤ 8192 = omega (arith, behind, within) in
      let count : length (cleared from bytes) ≡ 8192 = omega (arith, length-take from bytes, length-append (take from bytes) (replicate (8192 - from) 0), length-replicate {A = ℕ} (8192 - from) 0, long, few) in
      ap (λ b. length (if b then bytes else cleared from bytes)) (le-ltb page (first_to_clear size (kept_of size end segment)) behind) ∙ count)
]

module _ (size sysid made end : ℕ) (es : List Entry) (valid : IsSegmentSize size) (chained : IsChained size es) (before : DiskState) (whole : HaveWholePages size before) (only : AreOnly made before) (there : AreThere before made) (begun : size ≤ end) (reached : end ≤ made * size + size)
    (read_below : (number word : ℕ) (bytes : List ℕ) → IsAmong made (number / pages_of size) → word < 1024 → number * 8192 + 8 * word < end → IsAsRead size before number word bytes → IsLogWord size sysid es number word bytes) where
  in_pages : size ≡ 8192 * pages_of size
  in_pages = (segment_size_in_pages size valid).0

  some_pages : 0 < pages_of size
  some_pages = omega (arith, (segment_size_in_pages size valid).1)

  -- ---- the words of a page, by its number

  module _ (number : ℕ) where
    abbrev segment : ℕ
    segment = number / pages_of size

    abbrev page : ℕ
    page = number % pages_of size

    within : number % pages_of size < pages_of size
    within = omega (arith, some_pages)

    split : number / pages_of size * pages_of size + number % pages_of size ≡ number
    split = omega (arith, div-add-mod number (pages_of size))

    among_there : (s : Segment) → before (number / pages_of size) ≡ Some s → IsAmong made (number / pages_of size)
    among_there s is = elim (cases_lt 0 segment) [
      | inr none ↦ absurd (is_there (before segment) s is (only segment (λ (among : IsAmong made segment). omega (arith, among.0, none))))
      | inl some ↦ elim (cases_lt made segment) [
        | inl above ↦ absurd (is_there (before segment) s is (only segment (λ (among : IsAmong made segment). omega (arith, among.1, above))))
        | inr upto ↦ (omega (arith, some), upto)
      ]
    ]

    -- below the end no segment is missing but segment 0
    first_below : before (number / pages_of size) ≡ None → number * 8192 < end → number * 8192 + 8192 ≤ size
    first_below none below = elim (cases_lt 0 segment) [
      | inr none_before ↦
          (let zero_th : number / pages_of size ≡ 0 = omega (arith, none_before) in
          let product = ap (λ (n : ℕ). n * pages_of size) zero_th in
          omega (arith, product, split, within, in_pages))
      | inl some ↦ elim (cases_lt made segment) [
        | inl above ↦
            (let more : (made + 1) * pages_of size ≤ segment * pages_of size = mul-le-mul_right (pages_of size) (omega (arith, above)) in
            let all : (made + 1) * size ≡ 8192 * ((made + 1) * pages_of size) = ap (λ (n : ℕ). (made + 1) * n) in_pages ∙ swapped (made + 1) (pages_of size) in
            absurd (omega (arith, more, all, split, below, reached)))
        | inr upto ↦ absurd (not_there (before segment) none (there segment (omega (arith, some), upto)))
      ]
    ]
      where
        swapped : (a b : ℕ) → a * (8192 * b) ≡ 8192 * (a * b)
        swapped a b = omega arith

    long_here : (o : Option Segment) → before (number / pages_of size) ≡ o → length (settled_or_zero size end (number / pages_of size) (number % pages_of size) o) ≡ 8192
    long_here None is = length-replicate {A = ℕ} 8192 0
    long_here (Some s) is =
        let all = subst (λ (o : Option Segment). IfSome o (λ s. (s.pages ≡ pages_of size) × ((page : ℕ) → page < s.pages → length (page_as_read s page) ≡ 8192))) is (whole segment) in
        settled_long size end segment page (page_as_read s page) (all.1 page (omega (arith, within, all.0))) within

    pub page_long : length (settled_pages size end before number) ≡ 8192
    page_long = long_here (before segment) refl

    module _ (word : ℕ) (low : word < 1024) where
      below_here : (o : Option Segment) → before (number / pages_of size) ≡ o → number * 8192 + 8 * word < end → word_of (settled_or_zero size end (number / pages_of size) (number % pages_of size) o) word ≡ log_word_bytes size sysid es (number * 8192 + 8 * word)
      below_here None is below =
          let at : 8 * (number * 1024 + word) ≡ number * 8192 + 8 * word = omega arith in
          let first = first_below is (omega (arith, below)) in
          word_of-zero_page word low ∙ no_word_before size sysid valid es chained (number * 1024 + word) (omega (arith, first, low)) ∙ ap (log_word_bytes size sysid es) at
      below_here (Some s) is below =
          let all = subst (λ (o : Option Segment). IfSome o (λ s. (s.pages ≡ pages_of size) × ((page : ℕ) → page < s.pages → length (page_as_read s page) ≡ 8192))) is (whole segment) in
          let long = all.1 page (omega (arith, within, all.0)) in
          let here : IsAsRead size before number word (word_of (page_as_read s page) word) = subst (λ (o : Option Segment). IsSomeAnd o (λ x. word_of (page_as_read s page) word ≡ word_of (page_as_read x page) word)) (sym is) refl in
          settled_below size end valid segment page within (page_as_read s page) long word low (omega (arith, split, below)) ∙ read_below number word (word_of (page_as_read s page) word) (among_there s is) low below here

      behind_here : (o : Option Segment) → before (number / pages_of size) ≡ o → end ≤ number * 8192 + 8 * word → word_of (settled_or_zero size end (number / pages_of size) (number % pages_of size) o) word ≡ zero_word
      behind_here None is above = word_of-zero_page word low
      behind_here (Some s) is above =
          let all = subst (λ (o : Option Segment). IfSome o (λ s. (s.pages ≡ pages_of size) × ((page : ℕ) → page < s.pages → length (page_as_read s page) ≡ 8192))) is (whole segment) in
          let long = all.1 page (omega (arith, within, all.0)) in
          settled_behind size end valid segment page within (page_as_read s page) long word low (omega (arith, split, above))

      pub word_below : number * 8192 + 8 * word < end → word_of (settled_pages size end before number) word ≡ log_word_bytes size sysid es (number * 8192 + 8 * word)
      word_below = below_here (before segment) refl

      pub word_behind : end ≤ number * 8192 + 8 * word → word_of (settled_pages size end before number) word ≡ zero_word
      word_behind = behind_here (before segment) refl

      pub word_lawful : IsZeroOrLogWord size sysid es number word (word_of (settled_pages size end before number) word)
      word_lawful = elim (cases_lt (number * 8192 + 8 * word) end) [ inl below ↦ inr (word_below below) | inr above ↦ inl (word_behind (omega (arith, above))) ]

    pub zeros_behind : end ≤ number * 8192 → settled_pages size end before number ≡ zero_page
    zeros_behind above =
        same_words 1024 (settled_pages size end before number) zero_page (omega (arith, page_long)) (omega (arith, length-replicate {A = ℕ} 8192 0)) (λ k low. word_behind k low (omega (arith, above)) ∙ sym (word_of-zero_page k low))

  -- ---- the disk behind the calls

  module _ (moment : ℕ) (after : Tape) (are : (segment : ℕ) → state_now after segment ≡ after_calls before (settle_calls size end made before) segment) (old : KeepsOld size before made end moment after) where
    abbrev now : DiskState
    now = state_now after

    -- no segment came
    came_not : (segment : ℕ) (o : Option Segment) → SegmentAssures size (IsAmong made) (IsOldOrZero size before end) segment o → before segment ≡ None → o ≡ None
    came_not segment None assures none = refl
    came_not segment (Some s) assures none =
        let word = assures.1 0 0 some_pages (omega arith) (word_of (s.durable 0) 0) (inl refl) in
        let here : (segment * pages_of size + 0) / pages_of size ≡ segment = div_at segment in
        absurd (none_is (before segment) none (subst (λ (n : ℕ). IsSome (before n)) here word.0))
      where
        div_at : (n : ℕ) → (n * pages_of size + 0) / pages_of size ≡ n
        div_at n = div-mul-add n (pages_of size) 0 some_pages

        none_is : (o : Option Segment) → o ≡ None → IsSome o → ⊥
        none_is None none some = absurd (cc some)
        none_is (Some s) none some = absurd (let no : ⊥ = cc in no)

    none_now : (segment : ℕ) → (IsAmong made segment → ⊥) → state_now after segment ≡ None
    none_now segment apart = came_not segment (now segment) (old.now segment) (only segment apart)

    -- each page of a segment that was there
    module _ (segment : ℕ) (among : IsAmong made segment) where
      page_here : (o s : Option Segment) → before segment ≡ o → now segment ≡ s → (page : ℕ) → page < pages_of size → IfSome s (λ t. t.pages ≡ pages_of size) → IfSome s (λ t. page_as_read t page ≡ settled_or_zero size end segment page o)
      page_here o None is here page within pages = tt
      page_here None (Some t) is here page within pages = absurd (not_there (before segment) is (there segment among))
      page_here (Some s) (Some t) is here page within pages =
          let all = subst (λ (o : Option Segment). IfSome o (λ s. (s.pages ≡ pages_of size) × ((page : ℕ) → page < s.pages → length (page_as_read s page) ≡ 8192))) is (whole segment) in
          let inside : page < s.pages = omega (arith, within, all.0) in
          let read : page_of_segment (before segment) page ≡ Some (page_as_read s page) = ap (λ (o : Option Segment). page_of_segment o page) is ∙ ap (λ b. if b then Some (page_as_read s page) else None) (lt-ltb page s.pages inside) in
          let behind = turns_settled size end segment page before (page_as_read s page) read (all.1 page inside) within made among.0 among.1 before read in
          let seen : page_of_segment (Some t) page ≡ Some (page_as_read t page) = ap (λ b. if b then Some (page_as_read t page) else None) (lt-ltb page t.pages (omega (arith, within, pages))) in
          some_same (page_as_read t page) (settled_page size end segment page (page_as_read s page)) (page_of_segment (Some t) page) seen (ap (λ (o : Option Segment). page_of_segment o page) (sym here ∙ are segment) ∙ behind)

      holds_here : (s : Option Segment) → now segment ≡ s → SegmentAssures size (IsAmong made) (IsOldOrZero size before end) segment s → HoldsSegment size (settled_pages size end before) segment (image_as_read (λ (n : ℕ). s) segment)
      holds_here None here assures = assures among
      holds_here (Some t) here assures = (
        assures.0,
        λ page within.
            at_number size end valid segment page within (λ d m. page_as_read t page ≡ settled_or_zero size end d m (before d))
            (page_here (before segment) (Some t) refl here page within assures.0),
      )

    holds_pages : HoldsPages size made (image_as_read (state_now after)) (settled_pages size end before)
    holds_pages = record {
      there = λ segment low high. holds_here segment (low, high) (now segment) refl (old.now segment);
      others = λ segment none. none_as_read now segment (now segment) (none_now segment (λ (among : IsAmong made segment). elim none [ inl zero_th ↦ omega (arith, zero_th, among.0) | inr above ↦ omega (arith, above, among.1) ]));
    }

    quiet_now : (segment : ℕ) → unsynced_writes (state_now after segment) ≡ []
    quiet_now segment = elim (cases_lt 0 segment) [
      | inr none ↦ ap unsynced_writes (none_now segment (λ (among : IsAmong made segment). omega (arith, among.0, none)))
      | inl some ↦ elim (cases_lt made segment) [
        | inl above ↦ ap unsynced_writes (none_now segment (λ (among : IsAmong made segment). omega (arith, among.1, above)))
        | inr upto ↦ ap unsynced_writes (are segment) ∙ silent_settled segment size end made before (omega (arith, some)) upto before
      ]
    ]

    pub holds_log_pages : HoldsLogPages size end made (Some after) (settled_pages size end before)
    holds_log_pages =
        let pages = segment_size_in_pages size valid in
        record {
          begun = begun;
          reached = reached;
          made_as_far = made_below;
          put = record { whole = page_long; behind = zeros_behind };
          holds = record { read = holds_pages; synced = λ segment _. quiet_now segment };
        }
      where
        made_below : made_upto size end ≤ made
        made_below = omega (arith, div_below (end - 1) size (made + 1) (omega (arith, in_pages, some_pages)) (omega (arith, reached, begun, in_pages, some_pages)))
