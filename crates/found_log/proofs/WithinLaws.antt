-- The records that are read of a disk's log lie in pages that are there: so each ends in segment 1
-- or behind it, and none behind the segments that are there, one behind another.
use Rattle.std.proofs.Common.{◌≡◌, ℕ, zero, suc, ◌+◌, ◌-◌, ◌*◌, ◌/◌, ◌%◌, ◌^◌, ◌<◌, ◌≤◌, true, false, Bool, List, [], ◌∷◌, ◌++◌, Option, Some, None, Result, Ok, Err, inl, inr, refl, sym, ap, subst, ◌∙◌, arith}
use Rattle.std.specs.Prelude.{filter, nat_le, if◌then◌else◌}
use Rattle.std.proofs.lemmas.Bool.{cases_Bool, cases_lt, leb-true}
use Rattle.std.proofs.lemmas.Nat.{div_below}
use Rattle.std.proofs.Math.Nat.{mul-le-mul_left}
use Rattle.byte_position.specs.Geometry.{IsSegmentSize, pages_of}
use Rattle.byte_position.specs.Position.{address_of, end_address_of, position_of, usable_bytes_in_segment}
use Rattle.byte_position.proofs.EndAddresses.{end_address_of-before, end_address_of-le, end_address_of-page, end_address_of-page_start, le-position_of}
use Rattle.byte_position.proofs.HeaderSizes.{header_size_bounds}
use Rattle.byte_position.proofs.Rising.{address_of-mono, lt-position_of}
use Rattle.byte_position.proofs.SegmentSizes.{segment_size_in_pages}
use Rattle.byte_position.proofs.Segments.{address_of-first_page_of, position_of-segment, segment_start}
use Rattle.byte_position.proofs.Words.{position_of-mod_word}
use Rattle.wal_spelling.specs.Record.{is_switch}
use Rattle.wal_page.specs.Page.{first_fault, header_size}
use Rattle.wal_reader.specs.declared.found.Answer.{Answer}
use Rattle.wal_reader.specs.declared.found.FoundRecord.{FoundRecord}
use Rattle.wal_reader.specs.declared.record_place.RecordPlace.{RecordPlace}
use Rattle.wal_reader.specs.Beginning.{skipped_in}
use Rattle.wal_reader.specs.Decodes.{Decodes, ReadsAt, ReadsFrom, ReadsRecords, begin_at, begin_in, beginning, continuation_rows, continuation_rows_of, is_zero_word, next_position, page_answers, page_of_byte, place_behind}
use Rattle.wal_reader.specs.Finds.{IsRecordAt}
use Rattle.wal_reader.specs.Pages.{Pages}
use Rattle.wal_reader.proofs.BeginningLaws.{begin_at-none, begin_at-some, begin_in-damaged, begin_in-empty, begin_in-filled, begin_in-here, page_position-aligned, skipped_in-aligned}
use Rattle.wal_reader.proofs.FindsLaws.{read_stands}
use Rattle.wal_reader.proofs.NextPositionLaws.{next_position-end, next_position-further, next_position-rounded, next_position-whole}
use Rattle.wal_reader.proofs.ReadAtLaws.{read_at_of}
use Rattle.wal_reader.proofs.SettledLaws.{size_in_header}
use Rattle.wal_reader.proofs.SoundLaws.{run_passes}
use Rattle.written_log_laws.proofs.AgreeingLaws.{cases_Option}
use Rattle.written_log_laws.proofs.ReadRecord.{IsFoundAt, claimed_size, found_at}

-- a page that is not there fails the checks of one into which a record continues
missing : (size page seen start owed : ℕ) (here : Option (List ℕ)) → here ≡ None
    → first_fault (continuation_rows_of size page seen start owed here) ≡ None → ⊥
missing size page seen start owed None is passes = absurd cc
missing size page seen start owed (Some bytes) is passes = absurd cc

same_begun : (place other : RecordPlace) → (let begun : Result RecordPlace Answer = Ok place in
    begun ≡ Ok other) → place ≡ other
same_begun place other e = cc

not_begun : (answer : Answer) (place : RecordPlace) → (let begun : Result RecordPlace Answer = Err
    answer in begun ≡ Ok place) → ⊥
not_begun answer place e = absurd cc

-- each of some records
abbrev pub Each : (FoundRecord → Type 0) → List FoundRecord → Type 0
Each P [] = Unit {0}
Each P (f ∷ fs) = P f × Each P fs

each_kept : (P Q : FoundRecord → Type 0) (kept : FoundRecord → Bool) → ((f : FoundRecord)
    → kept f ≡ true → P f → Q f) → (fs : List FoundRecord) → Each P fs → Each Q (filter kept fs)
each_kept P Q kept so [] all = tt
each_kept P Q kept so (f ∷ fs) all = kept_or (kept f) refl (each_kept P Q kept so fs all.1)
  where
    kept_or : (b : Bool) → kept f ≡ b → Each Q (filter kept fs)
        → Each Q (if b then f ∷ filter kept fs else filter kept fs)
    kept_or true is rest = (so f is all.0, rest)
    kept_or false is rest = rest

pub each_at : (P : FoundRecord → Type 0) (before : List FoundRecord) (f : FoundRecord)
    (others : List FoundRecord) → Each P (before ++ f ∷ others) → P f
each_at P [] f others all = all.0
each_at P (b ∷ before) f others all = each_at P before f others all.1

-- of these pages those of one segment are not there, that behind `made`
module _ (size : ℕ) (valid : IsSegmentSize size) (pages : Pages) (made : ℕ) (none : (page : ℕ)
    → pages_of size * (made + 1) ≤ page → page < pages_of size * (made + 1) + pages_of size
    → pages page ≡ None) where
  -- where that segment starts, and its first page
  abbrev pub limit : ℕ
  limit = size * (made + 1)

  abbrev first : ℕ
  first = pages_of size * (made + 1)

  limit_is : limit ≡ 8192 * first
  limit_is = segment_start size valid (made + 1)

  limit_whole : position_of size limit % 8 ≡ 0
  limit_whole =
      let words : limit ≡ 8 * (1024 * first) = omega (arith, limit_is) in
      ap (λ (a : ℕ). position_of size a % 8) words ∙ position_of-mod_word size valid (1024 * first)

  behind_limit : address_of size (position_of size limit) ≡ limit + 40
  behind_limit =
      let usable = usable_bytes_in_segment size in
      let start : position_of size limit ≡ (made + 1) * usable + 0 =
      omega (arith, position_of-segment size valid (made + 1)) in
      let at = address_of-first_page_of size valid (made + 1) 0 (omega arith) in
      ap (address_of size) start ∙ omega (arith, at)

  -- a place below it
  pub record IsBelow (position : ℕ) : Type 0 where
    pub whole : position % 8 ≡ 0
    pub low : position ≤ position_of size limit

  -- ---- one record

  module _ (place : RecordPlace) (below : IsBelow place.position) (found : FoundRecord)
      (reads : ReadsAt size pages None place (Ok found)) where
    at : IsFoundAt size pages place found
    at = found_at size pages place found (read_at_of size pages None place (Ok found) reads)

    stands : IsRecordAt size pages place found
    stands = read_stands size pages place valid found reads

    abbrev total : ℕ
    total = claimed_size size pages place

    abbrev start : ℕ
    start = address_of size place.position

    -- its last byte
    abbrev last : ℕ
    last = address_of size (place.position + total - 1)

    no_page : (page : ℕ) (bytes : List ℕ) → pages page ≡ Some bytes → pages page ≡ None → ⊥
    no_page page bytes there is = absurd cc

    start_low : start < limit
    start_low = elim (cases_lt start limit) [
      | inl low ↦ low
      | inr high ↦
          (let upto = address_of-mono size valid place.position (position_of size limit)
          below.low in
          let wide = segment_size_in_pages size valid in
          absurd (no_page (start / 8192) at.page at.here (none (start / 8192)
          (omega (arith, high, limit_is)) (omega (arith, upto, behind_limit, limit_is, wide)))))
    ]

    none_here : pages first ≡ None
    none_here = none first (omega arith) (omega (arith, segment_size_in_pages size valid))

    not_missing : first_fault (continuation_rows size pages place total first) ≡ None → ⊥
    not_missing passes = missing size first _ _ _ (pages first) none_here passes

    last_low : last < limit
    last_low = elim (cases_lt last limit) [
      | inl low ↦ low
      | inr high ↦
          (let header_page = page_of_byte size place.position 24 in
          let rows = continuation_rows size pages place total in
          absurd (elim (cases_lt header_page first) [
            | inl before ↦ not_missing (run_passes rows (header_page + 1)
                (last / 8192 - header_page) first at.last_pages (omega (arith, before))
                (omega (arith, before, high, limit_is)))
            | inr behind ↦ not_missing (run_passes rows (start / 8192 + 1)
                (header_page - start / 8192) first at.header_pages
                (omega (arith, start_low, limit_is)) (omega (arith, behind, start_low, limit_is)))
          ]))
    ]

    total_is : found.head.total ≡ total
    total_is = stands.total_is ∙ size_in_header size pages None place

    some_bytes : 24 ≤ total
    some_bytes = omega (arith, stands.has_header, total_is)

    abbrev next : ℕ
    next = next_position size place.position total found.value

    next_low : next ≤ position_of size limit
    next_low = elim (cases_Bool (is_switch found.value)) [
      | inr plain ↦
          (let last_place = lt-position_of size valid (place.position + total - 1) limit last_low in
          omega (
            arith,
            next_position-rounded size place.position total found.value plain,
            last_place,
            some_bytes,
            below.whole,
            limit_whole,
          ))
      | inl switches ↦
          (let ends = next_position-end size valid place.position total found.value switches in
          let wide = segment_size_in_pages size valid in
          let times : size * (made + 1) ≡ (made + 1) * size = omega arith in
          let segment : last / size < made + 1 =
          div_below last size (made + 1) (omega (arith, wide)) (omega (arith, last_low, times)) in
          let most : size * (last / size + 1) ≤ limit =
          mul-le-mul_left size (omega (arith, segment)) in
          le-position_of size valid next limit (omega (arith, ends, most)))
    ]

    next_below : IsBelow next
    next_below = record {
      whole = next_position-whole size valid place.position total found.value
          below.whole;
      low = next_low;
    }

    next_is : next_position size place.position found.head.total found.value ≡ next
    next_is = ap (λ (n : ℕ). next_position size place.position n found.value) total_is

    start_is : found.head.start.0 ≡ start
    start_is = stands.start_is

    end_is : found.head.end.0 ≡ end_address_of size next
    end_is = stands.end_is ∙ ap (end_address_of size) next_is

    -- it ends behind its start
    record_rises : start < end_address_of size next
    record_rises =
        let further = next_position-further size valid place.position total found.value
        (omega (arith, some_bytes)) in
        omega (
          arith,
          end_address_of-before size next (omega (arith, further)),
          address_of-mono size valid place.position (next - 1) (omega (arith, further)),
        )

    pub record_within : (found.head.start.0 < found.head.end.0) × (found.head.end.0 ≤ limit)
    record_within = (
      omega (arith, start_is, end_is, record_rises),
      omega (arith, end_is, end_address_of-le size valid next limit next_low),
    )

    pub place_below : IsBelow (place_behind size pages place found).position
    place_below = subst IsBelow (sym next_is) next_below

  -- ---- all records

  abbrev ReadsWithin : FoundRecord → Type 0
  ReadsWithin f = (f.head.start.0 < f.head.end.0) × (f.head.end.0 ≤ limit)

  abbrev pub EndsWithin : FoundRecord → Type 0
  EndsWithin f = (size ≤ f.head.end.0) × (f.head.end.0 ≤ limit)

  records_within : (read : List FoundRecord) (answer : Answer) (place : RecordPlace)
      → IsBelow place.position → ReadsRecords size pages None place read answer
      → Each ReadsWithin read
  records_within [] answer place below reads = tt
  records_within (f ∷ fs) answer place below reads = (
    record_within place below f reads.0,
    records_within fs answer (place_behind size pages place f) (place_below place below f reads.0)
        reads.1,
  )

  -- ---- where reading begins

  -- behind what is skipped on a page
  skipped_below : (page skipped : ℕ) → page < first → skipped % 8 ≡ 0 → skipped < 8192 - header_size
      size page → IsBelow (position_of size (page * 8192) + skipped)
  skipped_below page skipped low whole within =
      let p = position_of size (page * 8192) in
      let from : p ≡ position_of size (8192 * page) = ap (position_of size) (omega arith) in
      let header = header_size_bounds size valid page in
      record {
        whole = omega (arith, page_position-aligned size page valid, whole);
        low = le-position_of size valid (p + skipped) limit (elim (cases_lt 0 skipped) [
          | inl some ↦ (let end = ap (λ (q : ℕ). end_address_of size (q + skipped)) from
              ∙ end_address_of-page size valid page skipped some (omega (arith, within)) in
              omega (arith, end, within, header, low, limit_is))
          | inr zeros ↦
              (let end : end_address_of size (p + skipped) ≡ 8192 * page = ap (end_address_of size)
              (omega (arith, from, zeros)) ∙ end_address_of-page_start size valid page in
              omega (arith, end, low, limit_is))
        ]);
      }

  module _ (turns page timeline : ℕ) (place : RecordPlace) (further : (seen : ℕ) → page + 1 ≤ first
      → begin_at turns size pages (page + 1) seen ≡ Ok place
      → IsBelow place.position) (low : page < first) (bytes : List ℕ) where
    abbrev on_next : ℕ → ℕ → Result RecordPlace Answer
    on_next = begin_at turns size pages

    begun_on : begin_in on_next size page timeline (Some bytes) ≡ Ok place → IsBelow place.position
    begun_on e = elim (cases_Bool (is_zero_word bytes)) [
      | inl empty ↦ absurd (not_begun _ place (sym (begin_in-empty on_next size page bytes timeline
          empty) ∙ e))
      | inr marked ↦ elim (cases_Option (first_fault (page_answers size page bytes timeline))) [
        | inr fails ↦
            absurd (not_begun _ place (sym (begin_in-damaged on_next size page bytes timeline marked
            fails.0 fails.1) ∙ e))
        | inl passes ↦ elim (cases_lt (skipped_in bytes) (8192 - header_size size page)) [
          | inl here ↦
              (let is = same_begun _ place (sym (begin_in-here on_next size page bytes timeline
              marked passes here) ∙ e) in
              subst (λ (p : RecordPlace). IsBelow p.position) is (skipped_below page
              (skipped_in bytes) low (skipped_in-aligned bytes) here))
          | inr filled ↦ further _ (omega (arith, low)) (sym (begin_in-filled on_next size page
              bytes timeline marked passes filled) ∙ e)
        ]
      ]
    ]

  begins_below : (turns page timeline : ℕ) (place : RecordPlace) → page ≤ first
      → begin_at turns size pages page timeline ≡ Ok place → IsBelow place.position
  unfolding begin_at
  begins_below zero page timeline place low e = absurd (not_begun _ place e)
  begins_below (suc turns) page timeline place low e = elim (cases_Option (pages page)) [
    | inl nothing ↦
        absurd (not_begun _ place (sym (begin_at-none (suc turns) size pages page timeline nothing)
        ∙ e))
    | inr some ↦
        (let before : page < first = elim (cases_lt page first) [
          | inl less ↦ less
          | inr same ↦
              absurd (there_not page some.0 some.1 (none page same
              (omega (arith, low, segment_size_in_pages size valid))))
        ] in
        begun_on turns page timeline place (λ seen next on. begins_below turns (page + 1) seen place
        next on) before some.0 (sym (begin_at-some turns size pages page timeline some.0 some.1)
        ∙ e))
  ]
    where
      there_not : (page : ℕ) (bytes : List ℕ) → pages page ≡ Some bytes → pages page ≡ None → ⊥
      there_not page bytes there is = absurd cc

  read_within : (begun : Result RecordPlace Answer) (read : List FoundRecord) (answer : Answer)
      → beginning size pages size ≡ begun → ReadsFrom size pages None begun read answer
      → Each ReadsWithin read
  read_within (Err told) read answer is reads = subst (Each ReadsWithin) (sym reads.0) tt
  read_within (Ok place) read answer is reads =
      let wide = segment_size_in_pages size valid in
      let at : size / 8192 ≡ pages_of size = omega (arith, wide) in
      let more : pages_of size * (made + 1) ≡ pages_of size * made + pages_of size = omega arith in
      records_within read answer place (begins_below (2 ^ 47) (size / 8192) 0 place
      (omega (arith, at, more)) is) reads

  pub decoded_within : (found : List FoundRecord) (answer : Answer) → Decodes size pages size None
      found answer → Each EndsWithin found
  decoded_within found answer decodes =
      let all = read_within (beginning size pages size) decodes.read answer refl decodes.reads in
      subst (Each EndsWithin) (sym decodes.given) (each_kept ReadsWithin EndsWithin
      (λ f. nat_le size f.head.start.0) (λ f given within.
      (let from = leb-true size f.head.start.0 given in (omega (arith, from, within.0), within.1)))
      decodes.read all)
