-- What the tables of checks say: none fails just where the pages are sound and a record stands.
use Rattle.std.proofs.Common.{◌≡◌, ℕ, zero, suc, ◌+◌, ◌-◌, ◌*◌, ◌/◌, ◌%◌, ◌^◌, ◌<◌, ◌≤◌, ◌⊎◌, Bool, true, false, not, ◌&&◌, cond, eqb, ltb, List, [], ◌∷◌, ◌++◌, take, drop, Option, Some, None, option_map, Result, Ok, Err, inl, inr, refl, sym, ap, subst, ◌∙◌, arith}
use Rattle.std.specs.Prelude.{slice_index}
use Rattle.std.specs.Int.{w16, w32, w64}
use Rattle.std.specs.List.{flat_map, range_with_len}
use Rattle.std.specs.Option.{MatchOption}
use Rattle.std.proofs.lemmas.Bool.{and_left, and_right, cases_Bool, cases_lt, cond-false, eq-eqb, eqb-false, eqb-true, le-ltb, lt-ltb, ltb-false, ltb-true, ne_eqb, not-false, not-true, not_from_false, not_from_true}
use Rattle.byte_position.specs.Geometry.{IsSegmentSize}
use Rattle.byte_position.specs.Position.{address_of, position_of}
use Rattle.byte_position.proofs.HeaderSizes.{header_size_bounds}
use Rattle.byte_position.proofs.Pages.{address_of-page_start, position_by_page, position_of-next_page}
use Rattle.byte_position.proofs.Rising.{address_of-mono}
use Rattle.wal_types.specs.declared.lsn.Lsn.{Lsn}
use Rattle.wal_types.specs.declared.record.Record.{Record}
use Rattle.wal_crc32c.specs.Crc32c.{crc32c}
use Rattle.wal_spelling.specs.Numbers.{number_at}
use Rattle.wal_spelling.specs.Record.{is_free_manager}
use Rattle.wal_record.specs.Spells.{Spells}
use Rattle.wal_page.specs.declared.checks.PageErr.{PageErr}
use Rattle.wal_page.specs.Page.{first_fault, header_size, info_of, is_continued, is_first_page, is_long, is_overwritten, long_header_rows, page_rows, remaining_of, timeline_of}
use Rattle.wal_reader.specs.declared.found.Answer.{Answer}
use Rattle.wal_reader.specs.declared.found.DamageKind.TheVariants as kinds
use Rattle.wal_reader.specs.declared.record_place.RecordPlace.{RecordPlace}
use Rattle.wal_reader.specs.Beginning.{skipped_in}
use Rattle.wal_reader.specs.Decodes.{begin_at, begin_in, continuation_rows, continuation_rows_of, crc_rows, damaged, ended, found_record, header_rows, is_right_prev, is_zero_word, opening_rows, opens_page, page_answers, page_of_byte, rest_rows, rows_of_pages, size_rows, timeline_or}
use Rattle.wal_reader.specs.Finds.{BeginsAt, GoesOnIn, IsRecordAt, IsSoundPage, behind_page, on_page}
use Rattle.wal_reader.specs.Pages.{Pages, bytes_from}
use Rattle.wal_reader.specs.Settled.{IsBounded}
use Rattle.wal_reader.proofs.BeginningLaws.{begin_at-some, begin_in-damaged, begin_in-empty, begin_in-filled, begin_in-here}
use Rattle.wal_reader.proofs.PageCheckLaws.{continues}
use Rattle.wal_reader.proofs.RowLaws.{first_fault-append, first_fault-map, first_of}
use Rattle.wal_reader.proofs.SettledLaws.{passes_both, passes_row, size_in_header}

-- ---- tables

unmapped : {K L : Type 0} (f : K → L) (o : Option K) → option_map f o ≡ None → o ≡ None
unmapped f None e = refl
unmapped f (Some k) e = absurd cc

both_pass : {K : Type 0} (xs ys : List (Bool × K)) → first_fault xs ≡ None → first_fault ys ≡ None
    → first_fault (xs ++ ys) ≡ None
both_pass {K} xs ys x y =
    first_fault-append xs ys ∙ ap (λ (o : Option K). first_of o (first_fault ys)) x ∙ y

row_passes : {K : Type 0} (holds : Bool) (told : K) (others : Option K) → holds ≡ false
    → others ≡ None → cond holds (Some told) others ≡ None
row_passes holds told others off rest = cond-false holds (Some told) others off ∙ rest

-- where no row of a run of tables holds, none of each table does
pub run_passes : {K : Type 0} (rows : ℕ → List (Bool × K)) (a n i : ℕ)
    → first_fault (flat_map rows (range_with_len a n)) ≡ None → a ≤ i → i < a + n
    → first_fault (rows i) ≡ None
run_passes rows a zero i passes low high = absurd (omega (arith, low, high))
run_passes rows a (suc n) i passes low high =
    let parts = passes_both (rows a) (flat_map rows (range_with_len (a + 1) n)) passes in
    elim (cases_lt a i) [
      | inl above ↦ run_passes rows (a + 1) n i parts.1 (omega (arith, above)) (omega (arith, high))
      | inr here ↦ (let at : a ≡ i = omega (arith, low, here) in
          subst (λ (j : ℕ). first_fault (rows j) ≡ None) at parts.0)
    ]

-- and the other way round
all_pass : {K : Type 0} (rows : ℕ → List (Bool × K)) (a n : ℕ)
    → ((i : ℕ) → a ≤ i → i < a + n → first_fault (rows i) ≡ None)
    → first_fault (flat_map rows (range_with_len a n)) ≡ None
all_pass rows a zero each = refl
all_pass rows a (suc n) each =
    both_pass (rows a) (flat_map rows (range_with_len (a + 1) n))
    (each a (omega arith) (omega arith))
    (all_pass rows (a + 1) n (λ i low high. each i (omega (arith, low)) (omega (arith, high))))

-- ---- a first word of zeros

zero_word-16 : (bytes : List ℕ) → number_at w64 bytes 0 ≡ 0 → number_at w16 bytes 0 ≡ 0
zero_word-16 [] zeros = refl
zero_word-16 (a ∷ []) zeros = omega (arith, zeros)
zero_word-16 (a ∷ b ∷ bytes) zeros = omega (arith, zeros)

zero_word-32 : (bytes : List ℕ) → number_at w64 bytes 0 ≡ 0 → number_at w32 bytes 0 ≡ 0
zero_word-32 [] zeros = refl
zero_word-32 (a ∷ []) zeros = omega (arith, zeros)
zero_word-32 (a ∷ b ∷ []) zeros = omega (arith, zeros)
zero_word-32 (a ∷ b ∷ c ∷ []) zeros = omega (arith, zeros)
zero_word-32 (a ∷ b ∷ c ∷ d ∷ bytes) zeros = omega (arith, zeros)

-- ---- a page

same_flag : (first long : Bool) → (first && not long) ≡ false → (not first && long) ≡ false
    → long ≡ first
same_flag true true no_long long_inside = refl
same_flag true false no_long long_inside = absurd cc
same_flag false true no_long long_inside = absurd cc
same_flag false false no_long long_inside = refl

flag_right : (first long : Bool) → long ≡ first
    → ((first && not long) ≡ false) × ((not first && long) ≡ false)
flag_right true true same = (refl, refl)
flag_right true false same = absurd cc
flag_right false true same = absurd cc
flag_right false false same = (refl, refl)

module _ (size page timeline : ℕ) (bytes : List ℕ) where
  abbrev first : Bool
  first = is_first_page size page

  abbrev of_long : List (Bool × PageErr)
  of_long = cond (is_long bytes) (long_header_rows size bytes) []

  abbrev told : PageErr → Answer
  told fault = damaged (page * 8192) (kinds.Page fault)

  answers_are : first_fault (page_answers size page bytes timeline)
      ≡ option_map told (first_fault (page_rows size page bytes timeline))
  answers_are = first_fault-map told (page_rows size page bytes timeline)

  pub passes_sound : first_fault (page_answers size page bytes timeline) ≡ None
      → IsSoundPage size page timeline bytes
  passes_sound e =
      let passes = unmapped told (first_fault (page_rows size page bytes timeline))
      (sym answers_are ∙ e) in
      let magic = passes_row (not (eqb (number_at w16 bytes 0) 0xD113)) _ _ passes in
      let flags = passes_row (ltb 15 (info_of bytes)) _ _ magic.1 in
      let no_long = passes_row (first && not (is_long bytes)) _ _ flags.1 in
      let inside = passes_row (not first && is_long bytes) _ _ no_long.1 in
      let parts = passes_both of_long _ inside.1 in
      let address = passes_row (not (eqb (number_at w64 bytes 8) (page * 8192))) _ _ parts.1 in
      let long : is_long bytes ≡ first = same_flag first (is_long bytes) no_long.0 inside.0 in
      let rows : first ≡ true → first_fault (long_header_rows size bytes) ≡ None = λ is.
      subst (λ (b : Bool). first_fault (cond b (long_header_rows size bytes) []) ≡ None)
      (long ∙ is) parts.0 in
      let segment = λ (is : first ≡ true).
      passes_row (not (eqb (number_at w32 bytes 32) size)) _ _ (rows is) in
      let own_page = λ (is : first ≡ true).
      passes_row (not (eqb (number_at w32 bytes 36) 8192)) _ _ (segment is).1 in
      let system = λ (is : first ≡ true).
      passes_row (eqb (number_at w64 bytes 24) 0) _ _ (own_page is).1 in record {
        magic = eqb-true (number_at w16 bytes 0) 0xD113 (not-false _ magic.0);
        flags = ltb-false 15 (info_of bytes) flags.0;
        long = long;
        sizes = λ is. (
          eqb-true (number_at w32 bytes 32) size (not-false _ (segment is).0),
          eqb-true (number_at w32 bytes 36) 8192 (not-false _ (own_page is).0),
        );
        system = λ is. eqb-false (number_at w64 bytes 24) 0 (system is).0;
        address = eqb-true (number_at w64 bytes 8) (page * 8192) (not-false _ address.0);
        no_earlier = ltb-false (timeline_of bytes) timeline
            (passes_row (ltb (timeline_of bytes) timeline) _ _ address.1).0;
      }

  module _ (sound : IsSoundPage size page timeline bytes) where
    long_passes : first ≡ true → first_fault (long_header_rows size bytes) ≡ None
    long_passes is =
        row_passes _ _ _ (not_from_true _ (eq-eqb (number_at w32 bytes 32) size (sound.sizes is).0))
        (row_passes _ _ _
        (not_from_true _ (eq-eqb (number_at w32 bytes 36) 8192 (sound.sizes is).1))
        (row_passes _ _ _ (ne_eqb (number_at w64 bytes 24) 0 (sound.system is)) refl))

    of_long_passes : first_fault of_long ≡ None
    of_long_passes = elim (cases_Bool first) [
      | inl is ↦ subst (λ (b : Bool). first_fault (cond b (long_header_rows size bytes) []) ≡ None)
          (sym (sound.long ∙ is)) (long_passes is)
      | inr is ↦ subst (λ (b : Bool). first_fault (cond b (long_header_rows size bytes) []) ≡ None)
          (sym (sound.long ∙ is)) refl
    ]

    pub sound_passes : first_fault (page_answers size page bytes timeline) ≡ None
    sound_passes =
        let flag = flag_right first (is_long bytes) sound.long in
        answers_are ∙ ap (option_map told)
        (row_passes _ _ _ (not_from_true _ (eq-eqb (number_at w16 bytes 0) 0xD113 sound.magic))
        (row_passes _ _ _ (le-ltb 15 (info_of bytes) sound.flags)
        (row_passes _ _ _ flag.0 (row_passes _ _ _ flag.1 (both_pass of_long _ of_long_passes
        (row_passes _ _ _
        (not_from_true _ (eq-eqb (number_at w64 bytes 8) (page * 8192) sound.address))
        (row_passes _ _ _ (le-ltb (timeline_of bytes) timeline sound.no_earlier) refl)))))))

    -- its first word is not zero
    pub sound-marked : is_zero_word bytes ≡ false
    sound-marked =
        ne_eqb (number_at w64 bytes 0) 0
        (λ zeros. omega (arith, zero_word-16 bytes zeros, sound.magic))

-- ---- a page into which a record goes on

module _ (size : ℕ) (pages : Pages) (place : RecordPlace) (total page : ℕ) where
  abbrev before : ℕ
  before = timeline_or (pages (page - 1)) place.timeline

  abbrev start : ℕ
  start = address_of size place.position

  abbrev owed : ℕ
  owed = place.position + total - position_of size (page * 8192)

  goes_on_passes : GoesOnIn size pages place total page
      → first_fault (continuation_rows size pages place total page) ≡ None
  goes_on_passes g =
      let kept : eqb (info_of g.bytes / 8 % 2) 1 ≡ false =
      ne_eqb (info_of g.bytes / 8 % 2) 1 (λ is. omega (arith, is, g.kept)) in
      continues size page before start owed (pages page) g.bytes g.is_there
      (sound_passes size page before g.bytes g.sound) kept g.continued
      (eq-eqb (remaining_of g.bytes) owed g.to_come)

  passes_goes_on : (found : Option (List ℕ)) → pages page ≡ found
      → first_fault (continuation_rows_of size page before start owed found) ≡ None
      → GoesOnIn size pages place total page
  passes_goes_on None is passes = absurd cc
  passes_goes_on (Some bytes) is passes =
      let parts = passes_both (page_answers size page bytes before) _ passes in
      let kept = passes_row (is_overwritten bytes) _ _ parts.1 in
      let continued = passes_row (not (is_continued bytes)) _ _ kept.1 in
      let to_come = passes_row (not (eqb (remaining_of bytes) owed)) _ _ continued.1 in
      let flag = eqb-false (info_of bytes / 8 % 2) 1 kept.0 in
      let small : info_of bytes / 8 % 2 < 2 = omega arith in record {
        bytes = bytes;
        is_there = is;
        sound = passes_sound size page before bytes parts.0;
        kept = elim (cases_lt (info_of bytes / 8 % 2) 1) [
          | inl low ↦ omega (arith, low)
          | inr high ↦ absurd (flag (omega (arith, high, small)))
        ];
        continued = not-false (is_continued bytes) continued.0;
        to_come = eqb-true (remaining_of bytes) owed (not-false _ to_come.0);
      }

-- ---- a record

-- it names the right record before it
abbrev IsRightPrev : Option Lsn → ℕ → ℕ → Type 0
IsRightPrev before start prev = MatchOption before (prev < start) (λ b. prev ≡ b.0)

right_named : (before : Option Lsn) (own prev : ℕ) → is_right_prev before own prev ≡ true
    → IsRightPrev before own prev
right_named None own prev right = ltb-true prev own right
right_named (Some b) own prev right = eqb-true prev b.0 right

named_right : (before : Option Lsn) (own prev : ℕ) → IsRightPrev before own prev
    → is_right_prev before own prev ≡ true
named_right None own prev right = lt-ltb prev own right
named_right (Some b) own prev right = eq-eqb prev b.0 right

-- a page's first position is where a record opens the page
module _ (size : ℕ) (valid : IsSegmentSize size) (position : ℕ) where
  abbrev own_page : ℕ
  own_page = address_of size position / 8192

  own_start : position_of size (own_page * 8192) ≡ position_of size (8192 * own_page)
  own_start = ap (position_of size) (omega arith)

  first_opens : position ≡ position_of size (own_page * 8192) → opens_page size position ≡ true
  first_opens is =
      let at : address_of size position ≡ 8192 * own_page + header_size size own_page =
      ap (address_of size) (is ∙ own_start) ∙ address_of-page_start size valid own_page in
      eq-eqb (address_of size position % 8192) (header_size size own_page)
      (omega (arith, at, header_size_bounds size valid own_page))

  opens_first : opens_page size position ≡ true → position ≡ position_of size (own_page * 8192)
  opens_first opens =
      let at = eqb-true (address_of size position % 8192) (header_size size own_page) opens in
      omega (arith, at, own_start, position_by_page size valid position)

module _ (size : ℕ) (pages : Pages) (place : RecordPlace) where
  abbrev header : List ℕ
  header = bytes_from size pages 24 place.position

  abbrev total : ℕ
  total = number_at w32 header 0

  abbrev whole : List ℕ
  whole = bytes_from size pages total place.position

  abbrev claimed : ℕ
  claimed = number_at w32 (bytes_from size pages 8 place.position) 0

  abbrev first_page : ℕ
  first_page = address_of size place.position / 8192

  -- a record of this value stands here
  abbrev Stands : Record → Type 0
  Stands value =
      IsRecordAt size pages place (found_record size place total (number_at w64 header 8) value)

  pub sizes_same : total ≡ claimed
  sizes_same = size_in_header size pages None place

  abbrev header_page : ℕ
  header_page = page_of_byte size place.position 24

  -- the tables, in their order, where the first word claims so many bytes
  module _ (valid : IsSegmentSize size) (n : ℕ) where
    abbrev upto_header : List (Bool × Answer)
    upto_header = rows_of_pages size pages place n first_page header_page

    abbrev of_header : List (Bool × Answer)
    of_header = header_rows (address_of size place.position) place.prev header

    abbrev upto_last : List (Bool × Answer)
    upto_last =
        rows_of_pages size pages place n header_page (page_of_byte size place.position n)

    abbrev of_crc : List (Bool × Answer)
    of_crc = crc_rows (address_of size place.position) (bytes_from size pages n place.position)

    abbrev of_size : List (Bool × Answer)
    of_size = size_rows size None place.position (is_zero_word header) n

    abbrev rows : List ℕ → List (Bool × Answer)
    rows page = opening_rows size place page ++ (of_size ++ rest_rows size pages place n)

    pub passes_stands : (value : Record) (page : List ℕ) → pages first_page ≡ Some page
        → Spells whole value → total ≡ n → first_fault (rows page) ≡ None → Stands value
    passes_stands value page there spells same passes =
        let start = address_of size place.position in
        let crc = bytes_from size pages n place.position in
        let opening = opening_rows size place page in
        let parts = passes_both opening (of_size ++ rest_rows size pages place n) passes in
        let sizes = passes_both of_size (rest_rows size pages place n) parts.1 in
        let last = passes_both (upto_header ++ of_header ++ upto_last) of_crc sizes.1 in
        let further = passes_both (upto_header ++ of_header) upto_last last.0 in
        let first = passes_both upto_header of_header further.0 in
        let manager = passes_row (is_free_manager (slice_index header 17)) _ _ first.1 in
        let prev = passes_row (not (is_right_prev place.prev start (number_at w64 header 8))) _ _
        manager.1 in
        let sum = passes_row (not (eqb (crc32c (drop 24 crc ++ take 20 crc)) (number_at w32 crc 20)))
        _ _ last.1 in
        let marked = passes_row (is_zero_word header) _ _ sizes.0 in
        let long = passes_row (ltb n 24) _ _ marked.1 in
        let answers = page_answers size first_page page place.timeline in
        let opens = opens_page size place.position in
        let front : List (Bool × Answer) =
        (opens && is_zero_word page, ended size place.position) ∷ [] in
        let of_page = passes_both (front ++ answers) _ parts.0 in
        let own = passes_both front answers of_page.0 in
        let claims = passes_row (opens && is_continued page) _ _ of_page.1 in
        let goes : (i : ℕ) → first_page < i → i ≤ page_of_byte size place.position n
        → GoesOnIn size pages place n i = λ i low high.
        let each = continuation_rows size pages place n in
        passes_goes_on size pages place n i (pages i) refl (elim (cases_lt header_page i) [
          | inl behind ↦ run_passes each (header_page + 1)
              (page_of_byte size place.position n - header_page) i further.1
              (omega (arith, behind)) (omega (arith, behind, high))
          | inr upto ↦ run_passes each (first_page + 1) (header_page - first_page) i first.0
              (omega (arith, low)) (omega (arith, low, upto))
        ]) in record {
          start_is = refl;
          end_is = refl;
          total_is = refl;
          has_header = omega (arith, same, ltb-false n 24 long.0);
          prev_is = refl;
          right_prev = right_named place.prev start (number_at w64 header 8) (not-false _ prev.0);
          page = page;
          is_there = there;
          sound = passes_sound size first_page place.timeline page own.1;
          opens = λ is. not_from_false (is_continued page)
              (subst (λ (b : Bool). (b && is_continued page) ≡ false)
              (first_opens size valid place.position is) claims.0);
          goes_on = subst (λ (t : ℕ). (i : ℕ) → first_page < i
              → i ≤ page_of_byte size place.position t → GoesOnIn size pages place t i) (sym same)
              goes;
          manager = not_from_false _ manager.0;
          right_crc = subst (λ (t : ℕ). crc32c (drop 24 (bytes_from size pages t place.position)
              ++ take 20 (bytes_from size pages t place.position))
              ≡ number_at w32 (bytes_from size pages t place.position) 20) (sym same)
              (eqb-true _ _ (not-false _ sum.0));
          spells = spells;
        }

    module _ (value : Record) (same : total ≡ n) (s : Stands value) where
      goes_on : (i : ℕ) → first_page < i → i ≤ page_of_byte size place.position n
          → GoesOnIn size pages place n i
      goes_on = subst (λ (t : ℕ). (i : ℕ) → first_page < i
          → i ≤ page_of_byte size place.position t → GoesOnIn size pages place t i) same s.goes_on

      opening_passes : first_fault (opening_rows size place s.page) ≡ None
      opening_passes =
          let opens = opens_page size place.position in
          let answers = page_answers size first_page s.page place.timeline in
          let front : List (Bool × Answer) =
          (opens && is_zero_word s.page, ended size place.position) ∷ [] in
          let marked = sound-marked size first_page place.timeline s.page s.sound in
          let claims : (opens && is_continued s.page) ≡ false = elim (cases_Bool opens) [
            | inl is ↦ and_right opens (is_continued s.page) (not-true _
                (s.opens (opens_first size valid place.position is)))
            | inr is ↦ and_left opens (is_continued s.page) is
          ] in
          both_pass (front ++ answers) _ (both_pass front answers
          (row_passes _ _ _ (and_right opens (is_zero_word s.page) marked) refl)
          (sound_passes size first_page place.timeline s.page s.sound))
          (row_passes _ _ _ claims refl)

      marked : is_zero_word header ≡ false
      marked =
          ne_eqb (number_at w64 header 0) 0
          (λ zeros. omega (arith, zero_word-32 header zeros, s.has_header))

      size_passes : first_fault of_size ≡ None
      size_passes =
          row_passes _ _ _ marked
          (row_passes _ _ _ (le-ltb n 24 (omega (arith, same, s.has_header))) refl)

      header_low : first_page ≤ header_page
      header_low =
          omega (
            arith,
            address_of-mono size valid place.position (place.position + 24 - 1)
                (omega arith),
          )

      header_high : header_page ≤ page_of_byte size place.position n
      header_high =
          omega (
            arith,
            address_of-mono size valid (place.position + 24 - 1)
                (place.position + n - 1) (omega (arith, same, s.has_header)),
          )

      header_passes : first_fault of_header ≡ None
      header_passes =
          row_passes _ _ _ (not-true _ s.manager)
          (row_passes _ _ _ (not_from_true _ (named_right place.prev
          (address_of size place.position) (number_at w64 header 8) s.right_prev)) refl)

      crc_passes : first_fault of_crc ≡ None
      crc_passes =
          let crc = bytes_from size pages n place.position in
          let right : crc32c (drop 24 crc ++ take 20 crc) ≡ number_at w32 crc 20 =
          subst (λ (t : ℕ). crc32c (drop 24 (bytes_from size pages t place.position)
          ++ take 20 (bytes_from size pages t place.position))
          ≡ number_at w32 (bytes_from size pages t place.position) 20) same s.right_crc in
          row_passes _ _ _ (not_from_true _ (eq-eqb _ _ right)) refl

      pages_pass : (from upto : ℕ) → first_page ≤ from
          → upto ≤ page_of_byte size place.position n
          → first_fault (rows_of_pages size pages place n from upto) ≡ None
      pages_pass from upto low high =
          all_pass (continuation_rows size pages place n) (from + 1) (upto - from)
          (λ i above below. goes_on_passes size pages place n i
          (goes_on i (omega (arith, low, above)) (omega (arith, high, above, below))))

      pub stands_passes : first_fault (rows s.page) ≡ None
      stands_passes =
          both_pass (opening_rows size place s.page) (of_size ++ rest_rows size pages place n)
          opening_passes (both_pass of_size (rest_rows size pages place n) size_passes
          (both_pass (upto_header ++ of_header ++ upto_last) of_crc
          (both_pass (upto_header ++ of_header) upto_last (both_pass upto_header of_header
          (pages_pass first_page header_page (omega arith) header_high) header_passes)
          (pages_pass header_page (page_of_byte size place.position n) header_low (omega arith)))
          crc_passes))

-- ---- where reading begins

fault_cases : {K : Type 0} (o : Option K) → ((k : K) × (o ≡ Some k)) ⊎ (o ≡ None)
fault_cases None = inr refl
fault_cases (Some k) = inl (k, refl)

pub no_begin : (answer : Answer) (place : RecordPlace)
    → (let begun : Result RecordPlace Answer = Err answer in begun ≡ Ok place) → ⊥
no_begin answer place e = absurd cc

pub same_begin : (place other : RecordPlace)
    → (let begun : Result RecordPlace Answer = Ok place in begun ≡ Ok other) → place ≡ other
same_begin place other e = cc

module _ (size : ℕ) (valid : IsSegmentSize size) (pages : Pages) where
  -- where a page's bytes end
  next_start : (page : ℕ) → position_of size ((page + 1) * 8192)
      ≡ position_of size (page * 8192) + (8192 - header_size size page)
  next_start page =
      let here : position_of size (page * 8192) ≡ position_of size (8192 * page) =
      ap (position_of size) (omega arith) in
      let there : position_of size ((page + 1) * 8192) ≡ position_of size (8192 * (page + 1)) =
      ap (position_of size) (omega arith) in
      omega (arith, here, there, position_of-next_page size valid page)

  module _ (turns page timeline : ℕ) (place : RecordPlace) (behind : (t : ℕ)
      → begin_at turns size pages (page + 1) t ≡ Ok place
      → BeginsAt size pages (page + 1) t place) where
    abbrev next : ℕ → ℕ → Result RecordPlace Answer
    next = begin_at turns size pages

    begun_in : (bytes : List ℕ) → pages page ≡ Some bytes
        → begin_in next size page timeline (Some bytes) ≡ Ok place
        → BeginsAt size pages page timeline place
    begun_in bytes there e = elim (cases_Bool (is_zero_word bytes)) [
      | inl empty ↦ absurd (no_begin _ place
          (sym (begin_in-empty next size page bytes timeline empty) ∙ e))
      | inr marked ↦ elim (fault_cases (first_fault (page_answers size page bytes timeline))) [
        | inl (answer, told) ↦ absurd (no_begin answer place
            (sym (begin_in-damaged next size page bytes timeline marked answer told) ∙ e))
        | inr passes ↦
            (let sound = passes_sound size page timeline bytes passes in
            elim (cases_lt (skipped_in bytes) (8192 - header_size size page)) [
              | inl low ↦ subst (BeginsAt size pages page timeline) (same_begin _ place
                  (sym (begin_in-here next size page bytes timeline marked passes low) ∙ e))
                  (on_page bytes there sound (omega (arith, low, next_start page)))
              | inr past ↦ behind_page bytes there sound
                  (omega (arith, past, next_start page)) (behind (timeline_of bytes)
                  (sym (begin_in-filled next size page bytes timeline marked passes past) ∙ e))
            ])
      ]
    ]

    begun_on : (found : Option (List ℕ)) → pages page ≡ found
        → begin_in next size page timeline found ≡ Ok place
        → BeginsAt size pages page timeline place
    begun_on None is e = absurd (no_begin _ place e)
    begun_on (Some bytes) is e = begun_in bytes is e

  pub begun_begins : (turns page timeline : ℕ) (place : RecordPlace)
      → begin_at turns size pages page timeline ≡ Ok place
      → BeginsAt size pages page timeline place
  unfolding begin_at
  begun_begins zero page timeline place e = absurd (no_begin _ place e)
  begun_begins (suc turns) page timeline place e =
      begun_on turns page timeline place (λ t f. begun_begins turns (page + 1) t place f)
      (pages page) refl e

  module _ (bounded : IsBounded pages) where
    not_there : (page : ℕ) (bytes : List ℕ) → pages page ≡ Some bytes → 2 ^ 47 ≤ page → ⊥
    not_there page bytes there high = absurd (cc (bounded page high, there))

    pub begins_begun : {page timeline : ℕ} {place : RecordPlace}
        → BeginsAt size pages page timeline place → (turns : ℕ) → 2 ^ 47 ≤ page + turns
        → begin_at turns size pages page timeline ≡ Ok place
    begins_begun (on_page {page} {timeline} bytes there sound low) zero enough =
        absurd (not_there page bytes there (omega (arith, enough)))
    begins_begun (on_page {page} {timeline} bytes there sound low) (suc turns) enough =
        begin_at-some turns size pages page timeline bytes there
        ∙ begin_in-here (begin_at turns size pages) size page bytes timeline
        (sound-marked size page timeline bytes sound) (sound_passes size page timeline bytes sound)
        (omega (arith, low, next_start page))
    begins_begun (behind_page {page} {timeline} {place} bytes there sound past begins) zero enough =
        absurd (not_there page bytes there (omega (arith, enough)))
    begins_begun (behind_page {page} {timeline} {place} bytes there sound past begins) (suc turns)
        enough =
        begin_at-some turns size pages page timeline bytes there
        ∙ begin_in-filled (begin_at turns size pages) size page bytes timeline
        (sound-marked size page timeline bytes sound) (sound_passes size page timeline bytes sound)
        (omega (arith, past, next_start page))
        ∙ begins_begun begins turns (omega (arith, enough))
