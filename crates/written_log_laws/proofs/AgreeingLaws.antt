-- Logs that have the same bytes decode to the same records.
use Rattle.std.proofs.Common.{◌≡◌, ◌⊎◌, ℕ, zero, suc, ◌+◌, ◌-◌, ◌*◌, ◌/◌, ◌%◌, ◌^◌, ◌<◌, ◌≤◌, Bool, true, false, not, eqb, leb, List, [], ◌∷◌, ◌++◌, length, filter, Option, Some, None, Result, Ok, Err, inl, inr, refl, sym, ap, subst, ◌∙◌, arith}
use Rattle.std.specs.Prelude.{IfSome, slice_index}
use Rattle.std.specs.Int.{w16, w32, w64}
use Rattle.std.specs.List.{flat_map, range_with_len}
use Rattle.std.proofs.lemmas.Bool.{cases_Bool, cases_lt, cond-true, cond-false, eqb-true}
use Rattle.std.proofs.lemmas.List.{ext_get_or}
use Rattle.byte_position.specs.Geometry.{IsSegmentSize}
use Rattle.byte_position.specs.Position.{address_of}
use Rattle.byte_position.proofs.Rising.{address_of-mono}
use Rattle.wal_spelling.specs.Numbers.{number_at}
use Rattle.wal_record.specs.Reading.{reading_of}
use Rattle.wal_page.specs.Page.{first_fault, header_size, is_continued, is_overwritten, remaining_of, timeline_of}
use Rattle.wal_reader.specs.declared.record_place.RecordPlace.{RecordPlace}
use Rattle.wal_reader.specs.declared.found.FoundRecord.{FoundRecord}
use Rattle.wal_reader.specs.declared.found.Answer.{Answer}
use Rattle.wal_reader.specs.declared.found.DamageKind.TheVariants as damages
use Rattle.written_log_laws.specs.Agreeing.{AreWhole, AgreeingLogsDecodeAlike}
use Rattle.wal_reader.specs.Decodes.{ReadsFrom, ReadsRecords, begin_at, begin_in, beginning, continuation_rows, continuation_rows_of, crc_rows, damaged, ended, header_rows, is_at_end, is_zero_word, opening_rows, page_answers, page_of_byte, place_behind, record_rows, rest_rows, rows_of_pages, size_rows}
use Rattle.wal_reader.specs.ReadAt.{ReadsComputed, answer_or, read_at, read_in}
use Rattle.wal_reader.specs.Pages.{Pages, as_byte, byte_at, bytes_from}
use Rattle.wal_reader.proofs.PageCheckLaws.{overwritten}
use Rattle.written_log_laws.proofs.LogPages.{byte_in_page}
use Rattle.wal_reader.proofs.ReadAtLaws.{records_computed}
use Rattle.wal_reader.proofs.SettledLaws.{passes_both, passes_row, same_read, size-passed, size_in_header, total_of}

-- a page that begins with zeros has no magic number
magic_zero : (bytes : List ℕ) → slice_index bytes 0 ≡ 0 → slice_index bytes 1 ≡ 0 → number_at w16 bytes 0 ≡ 0
magic_zero [] e f = refl
magic_zero (b ∷ []) e f =
    let first : b ≡ 0 = e in
    rw first refl
magic_zero (b ∷ c ∷ rest) e f =
    let first : b ≡ 0 = e in
    let second : c ≡ 0 = f in
    rw (first, second) refl

pub cases_Option : {A : Type 0} (o : Option A) → (o ≡ None) ⊎ ((x : A) × (o ≡ Some x))
cases_Option None = inl refl
cases_Option (Some x) = inr (x, refl)

abbrev pub placed : RecordPlace → Result RecordPlace Answer
placed place = Ok place

pub same_place : (p q : RecordPlace) → placed p ≡ placed q → p ≡ q
same_place p q e = cc

is_true : (b : Bool) → not b ≡ false → b ≡ true
is_true true e = refl
is_true false e = absurd cc

-- the checks of a page into which a record continues, behind the page's own
abbrev continued_rows : ℕ → ℕ → List ℕ → List (Bool × Answer)
continued_rows start owed bytes = (is_overwritten bytes, overwritten start) ∷ (not (is_continued bytes), damaged start damages.NoContinuation) ∷ (not (eqb (remaining_of bytes) owed), damaged start (damages.RemLen (remaining_of bytes))) ∷ []

-- a page that passes its checks has the magic number
magic_of : (size page : ℕ) (bytes : List ℕ) (timeline : ℕ) → first_fault (page_answers size page bytes timeline) ≡ None → number_at w16 bytes 0 ≡ 53523
magic_of size page bytes timeline passes =
    eqb-true (number_at w16 bytes 0) 53523 (is_true (eqb (number_at w16 bytes 0) 53523) (passes_row (not (eqb (number_at w16 bytes 0) 53523)) _ _ passes).0)

module _ (one other : Pages) (whole : AreWhole one) (also : AreWhole other) (same : (address : ℕ) → byte_at one address ≡ byte_at other address) where
  bytes_same : (size n position : ℕ) → bytes_from size one n position ≡ bytes_from size other n position
  unfolding bytes_from
  bytes_same size zero position = refl
  bytes_same size (suc n) position =
      ap (λ (b : ℕ). as_byte b ∷ bytes_from size one n (position + 1)) (same (address_of size position))
      ∙ ap (λ (bs : List ℕ). as_byte (byte_at other (address_of size position)) ∷ bs) (bytes_same size n (position + 1))

  in_page : (page k : ℕ) → k < 8192 → byte_in_page (one page) k ≡ byte_in_page (other page) k
  in_page page k below =
      let number : (page * 8192 + k) / 8192 ≡ page = omega arith in
      let offset : (page * 8192 + k) % 8192 ≡ k = omega arith in
      let mine : byte_at one (page * 8192 + k) ≡ byte_in_page (one page) k = rw (number, offset) refl in
      let yours : byte_at other (page * 8192 + k) ≡ byte_in_page (other page) k = rw (number, offset) refl in
      sym mine ∙ same (page * 8192 + k) ∙ yours

  -- a page with the magic number is the same in both
  module _ (page : ℕ) (bytes : List ℕ) (there : one page ≡ Some bytes) (magic : number_at w16 bytes 0 ≡ 53523) where
    byte_of : (here : Option (List ℕ)) → other page ≡ here → (k : ℕ) → k < 8192 → slice_index bytes k ≡ byte_in_page here k
    byte_of here is k below =
        sym (ap (λ (o : Option (List ℕ)). byte_in_page o k) there) ∙ in_page page k below ∙ ap (λ (o : Option (List ℕ)). byte_in_page o k) is

    page_of : (here : Option (List ℕ)) → other page ≡ here → IfSome here (λ b. length b ≡ 8192) → here ≡ Some bytes
    page_of None is long =
        let none = magic_zero bytes (byte_of None is 0 (omega arith)) (byte_of None is 1 (omega arith)) in
        absurd (omega (arith, none, magic))
    page_of (Some found) is long =
        let own : length bytes ≡ 8192 = subst (λ (o : Option (List ℕ)). IfSome o (λ b. length b ≡ 8192)) there (whole page) in
        ap Some (ext_get_or 0 found bytes (long ∙ sym own) (λ k below. sym (byte_of (Some found) is k (omega (arith, long)))))

    same_page : other page ≡ Some bytes
    same_page = page_of (other page) refl (also page)

  -- so is one into which a record continues
  continued : (size timeline start owed page : ℕ) (here : Option (List ℕ)) → one page ≡ here → first_fault (continuation_rows_of size page timeline start owed here) ≡ None → one page ≡ other page
  continued size timeline start owed page None there passes = absurd cc
  continued size timeline start owed page (Some bytes) there passes =
      there ∙ sym (same_page page bytes there (magic_of size page bytes timeline (passes_both (page_answers size page bytes timeline) (continued_rows start owed bytes) passes).0))

  module _ (size : ℕ) (place : RecordPlace) (total : ℕ) where
    abbrev rows : Pages → ℕ → ℕ → List (Bool × Answer)
    rows pages from n = flat_map (continuation_rows size pages place total) (range_with_len (from + 1) n)

    rows_same : (from n : ℕ) → one from ≡ other from → first_fault (rows one from n) ≡ None → (rows other from n ≡ rows one from n) × (one (from + n) ≡ other (from + n))
    rows_same from zero e passes =
        let here : from + 0 ≡ from = omega arith in
        (refl, rw here e)
    rows_same from (suc n) e passes =
        let own = continuation_rows size one place total (from + 1) in
        let both = passes_both own (rows one (from + 1) n) passes in
        let next = continued size _ _ _ (from + 1) (one (from + 1)) refl both.0 in
        let back : from + 1 - 1 ≡ from = omega arith in
        let timelines : other (from + 1 - 1) ≡ one (from + 1 - 1) = rw back (sym e) in
        let here : continuation_rows size other place total (from + 1) ≡ own = rw (timelines, ← next) refl in
        let more = rows_same (from + 1) n next both.1 in
        let last : from + 1 + n ≡ from + suc n = omega arith in (
          ap (λ (r : List (Bool × Answer)). r ++ rows other (from + 1) n) here ∙ ap (λ (r : List (Bool × Answer)). own ++ r) more.0,
          subst (λ (page : ℕ). one page ≡ other page) last more.1,
        )

  module _ (size : ℕ) (valid : IsSegmentSize size) (end : Option ℕ) (place : RecordPlace) (found : FoundRecord) where
    abbrev Alike : Type 0
    Alike = (read_at size other end place ≡ Ok found) × (place_behind size one place found ≡ place_behind size other place found)

    with_page : is_at_end end (address_of size place.position) ≡ false → (bytes : List ℕ) → one (address_of size place.position / 8192) ≡ Some bytes → (fault : Option Answer) → first_fault (record_rows size one end place bytes) ≡ fault
        → answer_or size one place fault ≡ Ok found → Alike
    unfolding read_at
    with_page before bytes there (Some answer) fails e = absurd cc
    with_page before bytes there None passes e =
        let page = address_of size place.position / 8192 in
        let total = number_at w32 (bytes_from size one 8 place.position) 0 in
        let header_page = page_of_byte size place.position 24 in
        let last_page = page_of_byte size place.position total in
        let header = header_rows (address_of size place.position) place.prev (bytes_from size one 24 place.position) in
        let crc = crc_rows (address_of size place.position) (bytes_from size one total place.position) in
        let opening = opening_rows size place bytes in
        let sizes = size_rows size end place.position (is_zero_word (bytes_from size one 24 place.position)) total in
        let claimed = number_at w32 (bytes_from size one 24 place.position) 0 in
        let prev = number_at w64 (bytes_from size one 24 place.position) 8 in
        let of_total = total_of size one end place found claimed prev (reading_of (bytes_from size one claimed place.position)) e ∙ size_in_header size one end place in
        let long : 24 ≤ total = size-passed size one end place bytes passes in
        let parts = passes_both opening (sizes ++ rest_rows size one place total) passes in
        let claims = passes_both (_ ∷ page_answers size page bytes place.timeline) (_ ∷ []) parts.0 in
        let answers = (passes_row _ _ _ claims.0).1 in
        let here = same_page page bytes there (magic_of size page bytes place.timeline answers) in
        let upto_header = rows_of_pages size one place total page header_page in
        let upto_last = rows_of_pages size one place total header_page last_page in
        let rest = (passes_both sizes (rest_rows size one place total) parts.1).1 in
        let crossed = passes_both (upto_header ++ header ++ upto_last) crc rest in
        let crossed_last = passes_both (upto_header ++ header) upto_last crossed.0 in
        let crossed_header = passes_both upto_header header crossed_last.0 in
        let rises = address_of-mono size valid place.position (place.position + 24 - 1) (omega arith) in
        let rises_last = address_of-mono size valid (place.position + 24 - 1) (place.position + total - 1) (omega (arith, long)) in
        let first = rows_same size place total page (header_page - page) (there ∙ sym here) crossed_header.0 in
        let to_header : page + (header_page - page) ≡ header_page = omega (arith, rises) in
        let second = rows_same size place total header_page (last_page - header_page) (subst (λ (p : ℕ). one p ≡ other p) to_header first.1) crossed_last.1 in
        let to_last : header_page + (last_page - header_page) ≡ last_page = omega (arith, rises_last) in
        let last : one last_page ≡ other last_page = subst (λ (p : ℕ). one p ≡ other p) to_last second.1 in
        let eight = bytes_same size 8 place.position in
        let twenty_four = bytes_same size 24 place.position in
        let all = bytes_same size total place.position in
        let same_rest : rest_rows size other place total ≡ rest_rows size one place total = rw (first.0, second.0, ← twenty_four, ← all) refl in
        let same_rows : record_rows size other end place bytes ≡ record_rows size one end place bytes = rw (← eight, same_rest, ← twenty_four) refl in
        let same_answer : answer_or size other place None ≡ answer_or size one place None = rw (← twenty_four, ← bytes_same size (number_at w32 (bytes_from size one 24 place.position) 0) place.position) refl in
        let read : read_in size other end place (other page) ≡ Ok found =
        ap (read_in size other end place) here
        ∙ ap (λ (r : List (Bool × Answer)). answer_or size other place (first_fault r)) same_rows
        ∙ ap (answer_or size other place) passes ∙ same_answer ∙ e in
        (cond-false _ _ _ before ∙ read, rw (of_total, last) refl)

    from_page : is_at_end end (address_of size place.position) ≡ false → (here : Option (List ℕ)) → one (address_of size place.position / 8192) ≡ here → read_in size one end place here ≡ Ok found → Alike
    from_page before None there e = absurd cc
    from_page before (Some bytes) there e =
        with_page before bytes there (first_fault (record_rows size one end place bytes)) refl e

    -- a record that is read in one is read in the other, and what comes behind it stands at the same place
    read_alike : read_at size one end place ≡ Ok found → Alike
    unfolding read_at
    read_alike e =
        let page = one (address_of size place.position / 8192) in
        elim (cases_Bool (is_at_end end (address_of size place.position))) [
          | inl at_end ↦ absurd (cc (sym (cond-true _ (Err (ended size place.position)) (read_in size one end place page) at_end) ∙ e))
          | inr before ↦ from_page before page refl (sym (cond-false _ (Err (ended size place.position)) (read_in size one end place page) before) ∙ e)
        ]

  -- where reading begins
  begins_page : (turns size page timeline : ℕ) (place : RecordPlace) → ((p t : ℕ) (at : RecordPlace) → begin_at turns size one p t ≡ Ok at → begin_at turns size other p t ≡ Ok at) → (here : Option (List ℕ)) → one page ≡ here
      → begin_in (begin_at turns size one) size page timeline here ≡ Ok place → begin_in (begin_at turns size other) size page timeline (other page) ≡ Ok place
  begins_page turns size page timeline place next None there e = absurd cc
  begins_page turns size page timeline place next (Some bytes) there e =
      elim (cases_Bool (is_zero_word bytes)) [
        | inl zeros ↦ (let stops = rw zeros at e in
            absurd cc)
        | inr marked ↦
            (let checked = rw marked at e in
            elim (cases_Option (first_fault (page_answers size page bytes timeline))) [
              | inr fails ↦ (let stops = rw fails.1 at checked in
                  absurd cc)
              | inl passes ↦
                  (let begins = rw passes at checked in
                  let here = same_page page bytes there (magic_of size page bytes timeline passes) in
                  elim (cases_Bool (is_continued bytes)) [
                    | inl continues ↦
                        elim (cases_Bool (leb (8192 - header_size size page) ((remaining_of bytes + 7) / 8 * 8))) [
                          | inl filled ↦ rw (here, marked, passes, continues, filled) (next (page + 1) (timeline_of bytes) place (rw (continues, filled) at begins))
                          | inr ends ↦ rw (here, marked, passes, continues, ends) (rw (continues, ends) at begins)
                        ]
                    | inr starts ↦ rw (here, marked, passes, starts) (rw starts at begins)
                  ])
            ])
      ]

  begins_alike : (turns size page timeline : ℕ) (place : RecordPlace) → begin_at turns size one page timeline ≡ Ok place → begin_at turns size other page timeline ≡ Ok place
  unfolding begin_at
  begins_alike zero size page timeline place e = absurd cc
  begins_alike (suc turns) size page timeline place e = begins_page turns size page timeline place (λ p t at begins. begins_alike turns size p t at begins) (one page) refl e

module _ (one other : Pages) (whole : AreWhole one) (also : AreWhole other) (same : (address : ℕ) → byte_at one address ≡ byte_at other address) (size : ℕ) (valid : IsSegmentSize size) (end : Option ℕ) where
  computed_alike : (place : RecordPlace) (found others : List FoundRecord) (answer told : Answer) → ReadsComputed size one end place found answer → ReadsComputed size other end place others told → found ≡ others
  computed_alike place [] [] answer told a b = refl
  computed_alike place [] (g ∷ others) answer told a b =
      absurd (cc (a, (read_alike other one also whole (λ address. sym (same address)) size valid end place g b.0).0))
  computed_alike place (f ∷ found) [] answer told a b = absurd (cc ((read_alike one other whole also same size valid end place f a.0).0, b))
  computed_alike place (f ∷ found) (g ∷ others) answer told a b =
      let here = read_alike one other whole also same size valid end place f a.0 in
      let fg = same_read f g (sym here.0 ∙ b.0) in
      let left = subst (λ (p : RecordPlace). ReadsComputed size one end p found answer) here.1 a.1 in
      let right = subst (λ (h : FoundRecord). ReadsComputed size other end (place_behind size other place h) others told) (sym fg) b.1 in
      let rest = computed_alike (place_behind size other place f) found others answer told left right in
      ap (λ (h : FoundRecord). h ∷ found) fg ∙ ap (λ (hs : List FoundRecord). g ∷ hs) rest

  reads_alike : (place : RecordPlace) (found others : List FoundRecord) (answer told : Answer) → ReadsRecords size one end place found answer → ReadsRecords size other end place others told → found ≡ others
  reads_alike place found others answer told a b =
      computed_alike place found others answer told (records_computed size one end place found answer a) (records_computed size other end place others told b)

  starts_alike : (first second : Result RecordPlace Answer) → ((p : RecordPlace) → first ≡ Ok p → second ≡ Ok p) → ((p : RecordPlace) → second ≡ Ok p → first ≡ Ok p) → (found others : List FoundRecord) (answer told : Answer)
      → ReadsFrom size one end first found answer → ReadsFrom size other end second others told → found ≡ others
  starts_alike (Ok p) (Ok q) there back found others answer told a b =
      let pq : p ≡ q = same_place p q (sym (there p refl)) in
      reads_alike q found others answer told (subst (λ (at : RecordPlace). ReadsRecords size one end at found answer) pq a) b
  starts_alike (Ok p) (Err e) there back found others answer told a b = absurd (cc (there p refl))
  starts_alike (Err e) (Ok q) there back found others answer told a b = absurd (cc (back q refl))
  starts_alike (Err e) (Err f) there back found others answer told a b = a.0 ∙ sym b.0

pub agreeing_logs_decode_alike : AgreeingLogsDecodeAlike
agreeing_logs_decode_alike size bound start end one other valid whole also agree found others answer told d k =
    let same : (address : ℕ) → byte_at one address ≡ byte_at other address = λ address. elim (cases_lt address bound) [
      | inl below ↦ agree.same address below
      | inr from ↦ agree.first_ends address from ∙ sym (agree.second_ends address from)
    ] in
    let reads = starts_alike one other whole also same size valid end (beginning size one start) (beginning size other start)
    (λ p begins. begins_alike one other whole also same (2 ^ 47) size (start / 8192) 0 p begins)
    (λ p begins. begins_alike other one also whole (λ address. sym (same address)) (2 ^ 47) size (start / 8192) 0 p begins)
    d.read k.read answer told d.reads k.reads in
    d.given ∙ ap (filter (λ f. leb start f.head.start.0)) reads ∙ sym k.given
