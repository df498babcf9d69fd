-- What a crash leaves while a log is settled, and behind it.
use Rattle.std.proofs.Common.{◌≡◌, ℕ, zero, suc, ◌+◌, ◌*◌, ◌/◌, ◌%◌, ◌<◌, ◌≤◌, ◌⊎◌, inl, inr, List, [], ◌∷◌, ◌++◌, length, drop, Option, Some, None, IfSome, refl, sym, ap, subst, ◌∙◌, ◌==◌, if◌then◌else◌, arith}
use Rattle.std.specs.Prelude.{IsSome, nat_lt, not}
use Rattle.std.specs.List.{flat_map, list_any, range_with_len}
use Rattle.std.specs.Option.{IsSomeAnd, unwrap_or}
use Rattle.std.proofs.lemmas.Bool.{cases_Bool, cases_lt, le-ltb, lt-ltb}
use Rattle.std.proofs.lemmas.Nat.{div-mul-add, mod-mul-add}
use Rattle.byte_position.specs.Geometry.{IsSegmentSize, pages_of}
use Rattle.byte_position.proofs.SegmentSizes.{segment_size_in_pages}
use Rattle.segment_disk.specs.declared.disk.Call.{Call}
use Rattle.segment_disk.specs.Tape.{Segment, DiskState, after_calls, page_as_read, page_of_segment}
use Rattle.segment_disk.specs.DiskImage.{word_of, IsWritten}
use Rattle.segment_disk.specs.ImageWords.{zero_word}
use Rattle.segment_disk.specs.Assured.{SegmentAssures, StateAssures}
use Rattle.flush_core.specs.Pages.{unsynced_writes}
use Rattle.flush_core.specs.Settled.{AreThere, HaveWholePages, IsAmong, IsAsRead, IsOldOrZero, IsReadOrZero, IsSettledWord, cleared, clear_calls, clear_from, first_to_clear, kept_of, page_clears, segment_clears, segments_cleared, settle_calls, sync_calls}
use Rattle.flush_core.proofs.LeftLaws.{AllFit, read_word}
use Rattle.flush_core.proofs.SettledPages.{cleared_before, cleared_behind, settled_page, silent_first, silent_settled, turns_settled, turns_spared}
use Rattle.flush_core.proofs.SettleReads.{syncs_spare}

-- ---- lists of calls that fit

module _ (size : ℕ) (Fits : ℕ → ℕ → List ℕ → Type 0) where
  fit_both : (xs ys : List Call) → AllFit size (λ _. ⊥) Fits xs → AllFit size (λ _. ⊥) Fits ys → AllFit size (λ _. ⊥) Fits (xs ++ ys)
  fit_both [] ys first second = second
  fit_both (x ∷ xs) ys first second = (first.0, fit_both xs ys first.1 second)

  syncs_fit : (xs : List ℕ) → AllFit size (λ _. ⊥) Fits (sync_calls size xs)
  syncs_fit [] = tt
  syncs_fit (x ∷ xs) = (tt, syncs_fit xs)

  module _ (end count : ℕ) (state : DiskState) where
    -- the words of each page that is cleared
    abbrev pub ClearsFit : Type 0
    ClearsFit = (segment page : ℕ) (bytes : List ℕ) → IsAmong count segment → page < pages_of size → kept_of size end segment / 8192 ≤ page → page_of_segment (state segment) page ≡ Some bytes → (word : ℕ) → word < 1024
        → Fits (segment * pages_of size + page) word (word_of (cleared (clear_from (kept_of size end segment) page) bytes) word)

    clear_fits : (fits : ClearsFit) (segment page : ℕ) (here : Option (List ℕ)) → page_of_segment (state segment) page ≡ here → IsAmong count segment → page < pages_of size → kept_of size end segment / 8192 ≤ page
        → AllFit size (λ _. ⊥) Fits (clear_calls size segment page (clear_from (kept_of size end segment) page) here)
    clear_fits fits segment page None reads among within low = tt
    clear_fits fits segment page (Some bytes) reads among within low = elim (cases_Bool (list_any (λ b. not (b == 0)) (drop (clear_from (kept_of size end segment) page) bytes))) [
      | inl some ↦ rw some ((refl, within, fits segment page bytes among within low reads), tt)
      | inr none ↦ rw none tt
    ]

    pages_fit : (fits : ClearsFit) (segment first n : ℕ) → IsAmong count segment → kept_of size end segment / 8192 ≤ first ⊎ (n ≡ 0) → first + n ≤ pages_of size ⊎ (n ≡ 0) → AllFit size (λ _. ⊥) Fits (page_clears size segment (kept_of size end segment) state first n)
    pages_fit fits segment first zero among low within = tt
    pages_fit fits segment first (suc n) among low within =
        let above : kept_of size end segment / 8192 ≤ first = elim low [ inl is ↦ is | inr none ↦ absurd (omega (arith, none)) ] in
        let inside : first + suc n ≤ pages_of size = elim within [ inl is ↦ is | inr none ↦ absurd (omega (arith, none)) ] in
        fit_both (clear_calls size segment first (clear_from (kept_of size end segment) first) (page_of_segment (state segment) first)) (page_clears size segment (kept_of size end segment) state (first + 1) n)
        (clear_fits fits segment first (page_of_segment (state segment) first) refl among (omega (arith, inside)) above)
        (pages_fit fits segment (first + 1) n among (inl (omega (arith, above))) (inl (omega (arith, inside))))

    segment_fits : (fits : ClearsFit) (segment : ℕ) → IsAmong count segment → AllFit size (λ _. ⊥) Fits (segment_clears size end state segment)
    segment_fits fits segment among =
        let kept = kept_of size end segment in
        elim (cases_lt (kept / 8192) (pages_of size)) [
          | inl inside ↦ pages_fit fits segment (first_to_clear size kept) _ among (inl (omega arith)) (inl (omega (arith, inside)))
          | inr outside ↦ pages_fit fits segment (first_to_clear size kept) _ among (inr (omega (arith, outside))) (inr (omega (arith, outside)))
        ]

    segments_fit : (fits : ClearsFit) (from n : ℕ) → 1 ≤ from → from + n ≤ count + 1 → AllFit size (λ _. ⊥) Fits (flat_map (segment_clears size end state) (range_with_len from n))
    segments_fit fits from zero low high = tt
    segments_fit fits from (suc n) low high =
        fit_both (segment_clears size end state from) (flat_map (segment_clears size end state) (range_with_len (from + 1) n))
        (segment_fits fits from (low, omega (arith, high))) (segments_fit fits (from + 1) n (omega (arith, low)) (omega (arith, high)))

    -- the calls behind the first syncs, and all
    pub rest_fits : ClearsFit → AllFit size (λ _. ⊥) Fits (flat_map (segment_clears size end state) (range_with_len 1 count) ++ sync_calls size (segments_cleared size end state count))
    rest_fits fits = fit_both _ _ (segments_fit fits 1 count (omega arith) (omega arith)) (syncs_fit (segments_cleared size end state count))

    pub all_fit : ClearsFit → AllFit size (λ _. ⊥) Fits (settle_calls size end count state)
    all_fit fits = fit_both _ _ (syncs_fit (range_with_len 1 count)) (rest_fits fits)

-- ---- words by their places

module _ (size end : ℕ) (valid : IsSegmentSize size) where
  pages_are : size ≡ 8192 * pages_of size
  pages_are = (segment_size_in_pages size valid).0

  starts : (segment : ℕ) → segment * size ≡ 8192 * (segment * pages_of size)
  starts segment = ap (λ (n : ℕ). segment * n) pages_are ∙ swapped segment (pages_of size)
    where
      swapped : (a b : ℕ) → a * (8192 * b) ≡ 8192 * (a * b)
      swapped a b = omega arith

  module _ (segment page : ℕ) (within : page < pages_of size) where
    segment_is : (segment * pages_of size + page) / pages_of size ≡ segment
    segment_is = div-mul-add segment (pages_of size) page within

    page_is : (segment * pages_of size + page) % pages_of size ≡ page
    page_is = mod-mul-add segment (pages_of size) page within

    -- what is said of the segment and the page is said of the page's number
    pub at_number : (P : ℕ → ℕ → Type 0) → P segment page → P ((segment * pages_of size + page) / pages_of size) ((segment * pages_of size + page) % pages_of size)
    at_number P holds = subst (λ (s : ℕ). P s ((segment * pages_of size + page) % pages_of size)) (sym segment_is) (subst (P segment) (sym page_is) holds)

    pub from_number : (P : ℕ → Type 0) → P ((segment * pages_of size + page) / pages_of size) → P segment
    from_number P holds = subst P segment_is holds

    module _ (bytes : List ℕ) (long : length bytes ≡ 8192) (word : ℕ) (low : word < 1024) where
      abbrev from : ℕ
      from = clear_from (kept_of size end segment) page

      abbrev address : ℕ
      address = (segment * pages_of size + page) * 8192 + 8 * word

      pub word_below : kept_of size end segment / 8192 ≤ page → address < end → word_of (cleared from bytes) word ≡ word_of bytes word
      word_below behind below = let start = starts segment in cleared_before from word bytes long (omega (arith, behind)) (omega (arith, start, below))

      pub word_behind : kept_of size end segment / 8192 ≤ page → end ≤ address → word_of (cleared from bytes) word ≡ zero_word
      word_behind behind above = let start = starts segment in cleared_behind from word bytes long (omega (arith, behind)) (omega (arith, start, above)) low

      -- of a page behind all calls
      pub settled_below : address < end → word_of (settled_page size end segment page bytes) word ≡ word_of bytes word
      settled_below below = elim (cases_lt page (first_to_clear size (kept_of size end segment))) [
        | inl before ↦ ap (λ b. word_of (if b then bytes else cleared from bytes) word) (lt-ltb page (first_to_clear size (kept_of size end segment)) before)
        | inr behind ↦ ap (λ b. word_of (if b then bytes else cleared from bytes) word) (le-ltb page (first_to_clear size (kept_of size end segment)) behind) ∙ word_below (omega (arith, behind, within)) below
      ]

      pub settled_behind : end ≤ address → word_of (settled_page size end segment page bytes) word ≡ zero_word
      settled_behind above = elim (cases_lt page (first_to_clear size (kept_of size end segment))) [
        | inl before ↦ let start = starts segment in absurd (omega (arith, start, above, before, low))
        | inr behind ↦ ap (λ b. word_of (if b then bytes else cleared from bytes) word) (le-ltb page (first_to_clear size (kept_of size end segment)) behind) ∙ word_behind (omega (arith, behind, within)) above
      ]

-- ---- what a disk was that held whole pages

pub some_same : (a b : List ℕ) (o : Option (List ℕ)) → o ≡ Some a → o ≡ Some b → a ≡ b
some_same a b o first second = ap (λ (x : Option (List ℕ)). unwrap_or x a) (sym first ∙ second)

some_segment : (s : Option Segment) → IsSome (page_of_segment s 0) → IsSome s
some_segment None has = has
some_segment (Some s) has = refl

-- a page that was there: its bytes, as they are read
pub record KnownPage (size : ℕ) (before : DiskState) (segment page : ℕ) : Type 0 where
  pub bytes : List ℕ
  pub is : page_of_segment (before segment) page ≡ Some bytes
  pub long : length bytes ≡ 8192
  pub read : (word : ℕ) → IsAsRead size before (segment * pages_of size + page) word (word_of bytes word)

module _ (size end count : ℕ) (valid : IsSegmentSize size) (before : DiskState) (whole : HaveWholePages size before) (there : AreThere before count) where
  gone : (segment : ℕ) → before segment ≡ None → IsAmong count segment → ⊥
  gone segment none among =
      let page : IsSome {T = List ℕ} None = subst (λ (s : Option Segment). IsSome (page_of_segment s 0)) none (there segment among) in
      cc

  known_here : (segment page : ℕ) (s : Option Segment) → before segment ≡ s → IsAmong count segment → page < pages_of size → KnownPage size before segment page
  known_here segment page None is among within = absurd (gone segment is among)
  known_here segment page (Some s) is among within =
      let all = subst (λ (o : Option Segment). IfSome o (λ s. (s.pages ≡ pages_of size) × ((page : ℕ) → page < s.pages → length (page_as_read s page) ≡ 8192))) is (whole segment) in
      let inside : page < s.pages = omega (arith, all.0, within) in record {
        bytes = page_as_read s page;
        is = ap (λ (o : Option Segment). page_of_segment o page) is ∙ ap (λ b. if b then Some (page_as_read s page) else None) (lt-ltb page s.pages inside);
        long = all.1 page inside;
        read = λ word. at_number size end valid segment page within (λ d m. IsSomeAnd (before d) (λ x. word_of (page_as_read s page) word ≡ word_of (page_as_read x m) word))
            (subst (λ (o : Option Segment). IsSomeAnd o (λ x. word_of (page_as_read s page) word ≡ word_of (page_as_read x page) word)) (sym is) refl);
      }

  known : (segment page : ℕ) → IsAmong count segment → page < pages_of size → KnownPage size before segment page
  known segment page among within = known_here segment page (before segment) refl among within

  -- what is read might be left
  read_stands : (o : Option Segment) (number word : ℕ) (bytes : List ℕ) → IsSomeAnd o (λ s. bytes ≡ word_of (page_as_read s number) word) → IsSomeAnd o (λ s. (bytes ≡ word_of (s.durable number) word) ⊎ IsWritten s.writes number word bytes)
  read_stands None number word bytes read = read
  read_stands (Some s) number word bytes read = read_word s.writes number word (s.durable number) bytes read

  -- before the calls
  old_here : (segment : ℕ) (s : Option Segment) → before segment ≡ s → SegmentAssures size (IsAmong count) (IsOldOrZero size before end) segment s
  old_here segment None is = gone segment is
  old_here segment (Some s) is =
      let all = subst (λ (o : Option Segment). IfSome o (λ s. (s.pages ≡ pages_of size) × ((page : ℕ) → page < s.pages → length (page_as_read s page) ≡ 8192))) is (whole segment) in (
        all.0,
        λ page word within low bytes may. (
          at_number size end valid segment page within (λ d m. IsSome (before d)) (subst (λ (o : Option Segment). IsSome o) (sym is) refl),
          inl (at_number size end valid segment page within (λ d m. IsSomeAnd (before d) (λ x. (bytes ≡ word_of (x.durable m) word) ⊎ IsWritten x.writes m word bytes))
              (subst (λ (o : Option Segment). IsSomeAnd o (λ x. (bytes ≡ word_of (x.durable page) word) ⊎ IsWritten x.writes page word bytes)) (sym is) may)),
        ),
      )

  pub old_assures : StateAssures size (IsAmong count) (IsOldOrZero size before end) before
  old_assures segment = old_here segment (before segment) refl

  -- the pages that are cleared
  pub old_clears : ClearsFit size (IsOldOrZero size before end) end count before
  old_clears segment page bytes among within behind reads word low =
      let page_before = known segment page among within in
      let same = some_same bytes page_before.bytes (page_of_segment (before segment) page) reads page_before.is in
      let long : length bytes ≡ 8192 = ap length same ∙ page_before.long in
      let number = segment * pages_of size + page in
      let some = at_number size end valid segment page within (λ d m. IsSome (before d)) (some_segment (before segment) (there segment among)) in
      elim (cases_lt (number * 8192 + 8 * word) end) [
        | inl below ↦
            (let is : word_of page_before.bytes word ≡ word_of (cleared (clear_from (kept_of size end segment) page) bytes) word = ap (λ (l : List ℕ). word_of l word) (sym same) ∙ sym (word_below size end valid segment page within bytes long word low behind below) in
            (some, inl (read_stands (before (number / pages_of size)) (number % pages_of size) word _ (subst (IsAsRead size before number word) is (page_before.read word)))))
        | inr above ↦ (some, inr (above, word_behind size end valid segment page within bytes long word low behind above))
      ]

  pub read_clears : ClearsFit size (IsReadOrZero size before count end) end count before
  read_clears segment page bytes among within behind reads word low =
      let page_before = known segment page among within in
      let same = some_same bytes page_before.bytes (page_of_segment (before segment) page) reads page_before.is in
      let long : length bytes ≡ 8192 = ap length same ∙ page_before.long in
      let number = segment * pages_of size + page in
      λ _. elim (cases_lt (number * 8192 + 8 * word) end) [
        | inl below ↦
            (let is : word_of page_before.bytes word ≡ word_of (cleared (clear_from (kept_of size end segment) page) bytes) word = ap (λ (l : List ℕ). word_of l word) (sym same) ∙ sym (word_below size end valid segment page within bytes long word low behind below) in
            inl (subst (IsAsRead size before number word) is (page_before.read word)))
        | inr above ↦ inr (above, word_behind size end valid segment page within bytes long word low behind above)
      ]

  -- a state in which nothing waits is known by what is read in it
  module _ (Fits : ℕ → ℕ → List ℕ → Type 0) (st : DiskState) (old : StateAssures size (IsAmong count) (IsOldOrZero size before end) st)
      (reads : (segment page : ℕ) → IsAmong count segment → page < pages_of size → (new : List ℕ) × (page_of_segment (st segment) page ≡ Some new) × ((word : ℕ) → word < 1024 → Fits (segment * pages_of size + page) word (word_of new word)))
      (silent : (segment : ℕ) → IsAmong count segment → unsynced_writes (st segment) ≡ [])
      (others : (segment page word : ℕ) (bytes : List ℕ) → page < pages_of size → (IsAmong count segment → ⊥) → Fits (segment * pages_of size + page) word bytes) where
    durable_is : (page : ℕ) (writes : List (ℕ × List ℕ)) (s : Segment) (new : List ℕ) → s.writes ≡ [] → page_of_segment (Some s) page ≡ Some new → s.durable page ≡ new
    durable_is page writes s new none reads_it = elim (cases_Bool (nat_lt page s.pages)) [
      | inl inside ↦
          (let read : page_of_segment (Some s) page ≡ Some (s.durable page) =
          ap (λ b. if b then Some (page_as_read s page) else None) inside ∙ ap (λ (ws : List (ℕ × List ℕ)). Some (page_as_read (record { pages = s.pages; durable = s.durable; writes = ws }) page)) none in
          some_same (s.durable page) new (page_of_segment (Some s) page) read reads_it)
      | inr outside ↦ (let nothing = rw outside at reads_it in
          absurd (cc nothing))
    ]

    silent_here : (segment : ℕ) (s : Option Segment) → st segment ≡ s → SegmentAssures size (IsAmong count) Fits segment s
    silent_here segment None is = subst (SegmentAssures size (IsAmong count) (IsOldOrZero size before end) segment) is (old segment)
    silent_here segment (Some s) is =
        let all = subst (SegmentAssures size (IsAmong count) (IsOldOrZero size before end) segment) is (old segment) in
        let inside = λ (among : IsAmong count segment) (page word : ℕ) (within : page < pages_of size) (low : word < 1024) (bytes : List ℕ) (may : (bytes ≡ word_of (s.durable page) word) ⊎ IsWritten s.writes page word bytes).
        (let none : s.writes ≡ [] = subst (λ (o : Option Segment). unsynced_writes o ≡ []) is (silent segment among) in
        let new = reads segment page among within in
        let durable : s.durable page ≡ new.0 = durable_is page [] s new.0 none (subst (λ (o : Option Segment). page_of_segment o page ≡ Some new.0) is new.1) in
        let fits : Fits (segment * pages_of size + page) word bytes = elim may [
          | inl kept ↦ subst (Fits (segment * pages_of size + page) word) (sym (kept ∙ ap (λ (l : List ℕ). word_of l word) durable)) (new.2 word low)
          | inr written ↦ absurd (subst (λ (ws : List (ℕ × List ℕ)). IsWritten ws page word bytes) none written)
        ] in
        fits) in (
          all.0,
          λ page word within low bytes may. elim (cases_lt 0 segment) [
            | inl first ↦ elim (cases_lt count segment) [
              | inl beyond ↦ others segment page word bytes within (λ among. omega (arith, among.1, beyond))
              | inr upto ↦ inside (omega (arith, first), upto) page word within low bytes may
            ]
            | inr none ↦ others segment page word bytes within (λ among. omega (arith, among.0, none))
          ],
        )

    pub silent_assures : StateAssures size (IsAmong count) Fits st
    silent_assures segment = silent_here segment (st segment) refl

  -- behind the first syncs, and behind all calls
  pub synced_assures : StateAssures size (IsAmong count) (IsOldOrZero size before end) (after_calls before (sync_calls size (range_with_len 1 count))) → StateAssures size (IsAmong count) (IsReadOrZero size before count end) (after_calls before (sync_calls size (range_with_len 1 count)))
  synced_assures old =
      let syncs = sync_calls size (range_with_len 1 count) in
      silent_assures (IsReadOrZero size before count end) (after_calls before syncs) old
      (λ segment page among within. let page_before = known segment page among within in (page_before.bytes, turns_spared segment page page_before.bytes syncs (syncs_spare size segment page (range_with_len 1 count)) before page_before.is, λ word low _. inl (page_before.read word)))
      (λ segment among. silent_first segment size count among.0 among.1 before)
      (λ segment page word bytes within apart among. absurd (apart (from_number size end valid segment page within (IsAmong count) among)))

  pub settled_assures : StateAssures size (IsAmong count) (IsOldOrZero size before end) (after_calls before (settle_calls size end count before)) → StateAssures size (IsAmong count) (IsSettledWord size before count end) (after_calls before (settle_calls size end count before))
  settled_assures old =
      let calls = settle_calls size end count before in
      silent_assures (IsSettledWord size before count end) (after_calls before calls) old
      (λ segment page among within.
      let page_before = known segment page among within in
      let new = settled_page size end segment page page_before.bytes in (
        new,
        turns_settled size end segment page before page_before.bytes page_before.is page_before.long within count among.0 among.1 before page_before.is,
        λ word low. (
          λ _. elim (cases_lt ((segment * pages_of size + page) * 8192 + 8 * word) end) [
            | inl below ↦ inl (subst (IsAsRead size before (segment * pages_of size + page) word) (sym (settled_below size end valid segment page within page_before.bytes page_before.long word low below)) (page_before.read word))
            | inr above ↦ inr (above, settled_behind size end valid segment page within page_before.bytes page_before.long word low above)
          ],
          λ _ above. settled_behind size end valid segment page within page_before.bytes page_before.long word low above,
        ),
      ))
      (λ segment among. silent_settled segment size end count before among.0 among.1 before)
      (λ segment page word bytes within apart. (
        λ among. absurd (apart (from_number size end valid segment page within (IsAmong count) among)),
        λ among _. absurd (apart (from_number size end valid segment page within (IsAmong count) among)),
      ))
