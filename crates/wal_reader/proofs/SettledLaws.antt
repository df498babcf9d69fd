-- What pages decode to is settled by them, and the steps of a reader tell it.
use Rattle.std.proofs.Common.{◌≡◌, ◌⊎◌, ℕ, zero, suc, ◌+◌, ◌*◌, ◌/◌, ◌^◌, ◌<◌, ◌≤◌, Bool, true, false, cond, ltb, leb, List, [], ◌∷◌, ◌++◌, filter, Option, Some, None, Result, Ok, Err, inl, inr, refl, sym, ap, subst, ◌∙◌, arith}
use Rattle.std.specs.Int.{w32, w64}
use Rattle.std.proofs.lemmas.Bool.{cases_Bool, cases_lt, cond-true, cond-false, ltb-false, lt-leb}
use Rattle.byte_position.specs.Geometry.{IsSegmentSize}
use Rattle.byte_position.specs.Position.{address_of}
use Rattle.byte_position.proofs.Rising.{le-address_of}
use Rattle.segment_disk.specs.DiskImage.{DiskImage}
use Rattle.wal_spelling.specs.Numbers.{number_at}
use Rattle.wal_record.specs.Reading.{reading_of}
use Rattle.wal_record.specs.declared.fault.RecErr.{RecErr}
use Rattle.wal_record.specs.declared.fault.RecErr.TheVariants.{Memory, Malformed, Compressed}
use Rattle.wal_types.specs.declared.record.Record.{Record}
use Rattle.wal_page.specs.Page.{first_fault}
use Rattle.wal_reader.specs.declared.record_place.RecordPlace.{RecordPlace}
use Rattle.wal_reader.specs.declared.found.FoundRecord.{FoundRecord}
use Rattle.wal_reader.specs.declared.found.Answer.{Answer}
use Rattle.wal_reader.specs.declared.found.Answer.TheVariants as answers
use Rattle.wal_reader.specs.declared.found.DamageKind.TheVariants as damages
use Rattle.wal_reader.specs.Decodes.{ReadsRecords, ReadsFrom, beginning, damaged, ended, is_at_end, is_zero_word, opening_rows, place_behind, record_rows, size_rows, rest_rows}
use Rattle.wal_reader.specs.ReadAt.{ReadsComputed, answer_or, found_or, read_at, read_in}
use Rattle.wal_reader.specs.LogReader.{ReaderState, GivesRecords, GivesAt, IsNext}
use Rattle.wal_reader.specs.declared.standing.Standing.{Standing}
use Rattle.wal_reader.specs.declared.standing.Standing.TheVariants.{NotBegun, At, Stopped}
use Rattle.wal_reader.specs.Pages.{Pages, bytes_from, pages_in}
use Rattle.wal_reader.specs.Settled.{DecodingIsSettled, IsBounded, IsSettled, StepsTellDecoding, Tells, stop, step}
use Rattle.wal_reader.specs.Standings.{told}
use Rattle.wal_reader.proofs.NextPositionLaws.{next_position-further}
use Rattle.wal_reader.proofs.PagesLaws.{take-bytes_from}
use Rattle.wal_reader.proofs.ReadAtLaws.{reads_at, records_computed}
use Rattle.wal_reader.proofs.RowLaws.{first_of, first_fault-append, number_at-take}

cases_Result : {A B : Type 0} (r : Result A B) → ((x : A) × (r ≡ Ok x)) ⊎ ((e : B) × (r ≡ Err e))
cases_Result (Ok x) = inl (x, refl)
cases_Result (Err e) = inr (e, refl)

abbrev read : FoundRecord → Result FoundRecord Answer
read found = Ok found

pub same_read : (found other : FoundRecord) → read found ≡ read other → found ≡ other
same_read found other e = cc

-- ---- there is one reading

Computed-same : (size : ℕ) (pages : Pages) (end : Option ℕ) (place : RecordPlace) (found others : List FoundRecord) (answer other : Answer) → ReadsComputed size pages end place found answer → ReadsComputed size pages end place others other → (found ≡ others) × (answer ≡ other)
Computed-same size pages end place [] [] answer other a b = (refl, cc)
Computed-same size pages end place [] (g ∷ others) answer other a b = absurd (cc (a, b.0))
Computed-same size pages end place (f ∷ found) [] answer other a b = absurd (cc (a.0, b))
Computed-same size pages end place (f ∷ found) (g ∷ others) answer other a b =
    let same = same_read f g (sym a.0 ∙ b.0) in
    let left = subst (λ (h : FoundRecord). ReadsComputed size pages end (place_behind size pages place h) found answer) same a.1 in
    let behind = Computed-same size pages end (place_behind size pages place g) found others answer other left b.1 in
    (ap (λ (h : FoundRecord). h ∷ found) same ∙ ap (λ (hs : List FoundRecord). g ∷ hs) behind.0, behind.1)

Reads-same : (size : ℕ) (pages : Pages) (end : Option ℕ) (place : RecordPlace) (found others : List FoundRecord) (answer other : Answer) → ReadsRecords size pages end place found answer → ReadsRecords size pages end place others other → (found ≡ others) × (answer ≡ other)
Reads-same size pages end place found others answer other a b =
    Computed-same size pages end place found others answer other (records_computed size pages end place found answer a) (records_computed size pages end place others other b)

ReadsFrom-same : (size : ℕ) (pages : Pages) (end : Option ℕ) (place : Result RecordPlace Answer) (found others : List FoundRecord) (answer other : Answer) → ReadsFrom size pages end place found answer → ReadsFrom size pages end place others other → (found ≡ others) × (answer ≡ other)
ReadsFrom-same size pages end (Ok place) found others answer other a b = Reads-same size pages end place found others answer other a b
ReadsFrom-same size pages end (Err stopped) found others answer other a b = (a.0 ∙ sym b.0, a.1 ∙ sym b.1)

-- ---- a record that is read has at least its header

both_none : {K : Type 0} (first second : Option K) → first_of first second ≡ None → (first ≡ None) × (second ≡ None)
both_none None second e = (refl, e)
both_none (Some x) second e = absurd cc

pub passes_both : {K : Type 0} (xs ys : List (Bool × K)) → first_fault (xs ++ ys) ≡ None → (first_fault xs ≡ None) × (first_fault ys ≡ None)
passes_both xs ys e = both_none (first_fault xs) (first_fault ys) (sym (first_fault-append xs ys) ∙ e)

pub passes_row : {K : Type 0} (holds : Bool) (told : K) (others : Option K) → cond holds (Some told) others ≡ None → (holds ≡ false) × (others ≡ None)
passes_row true told others e = absurd cc
passes_row false told others e = (refl, e)

module _ (size : ℕ) (pages : Pages) (end : Option ℕ) (place : RecordPlace) where
  -- the size that a record's first word gives
  abbrev first_size : ℕ
  first_size = number_at w32 (bytes_from size pages 8 place.position) 0

  pub size-passed : (bytes : List ℕ) → first_fault (record_rows size pages end place bytes) ≡ None → 24 ≤ first_size
  size-passed bytes passes =
      let no_record = is_zero_word (bytes_from size pages 24 place.position) in
      let sizes = size_rows size end place.position no_record first_size in
      let rest = rest_rows size pages place first_size in
      let behind_opening = (passes_both (opening_rows size place bytes) (sizes ++ rest) passes).1 in
      let own = (passes_both sizes rest behind_opening).0 in
      let of_word = passes_row no_record (ended size place.position) _ own in
      ltb-false first_size 24 (passes_row (ltb first_size 24) (damaged (address_of size place.position) damages.Length) _ of_word.1).0

  -- the first word says the same of the size as the header does
  pub size_in_header : number_at w32 (bytes_from size pages 24 place.position) 0 ≡ first_size
  size_in_header =
      sym (number_at-take w32 (bytes_from size pages 24 place.position) 8 0 (omega arith))
      ∙ ap (λ (bytes : List ℕ). number_at w32 bytes 0) (take-bytes_from size pages 8 24 place.position (omega arith))

  module _ (found : FoundRecord) where
    pub total_of : (total prev : ℕ) (reading : Result Record RecErr) → found_or size place total prev reading ≡ Ok found → found.head.total ≡ total
    total_of total prev (Ok value) e = ap (λ (f : FoundRecord). f.head.total) (sym (same_read _ found e))
    total_of total prev (Err Memory) e = absurd cc
    total_of total prev (Err (Malformed at kind)) e = absurd cc
    total_of total prev (Err (Compressed block)) e = absurd cc

    from_answer : (bytes : List ℕ) (fault : Option Answer) → first_fault (record_rows size pages end place bytes) ≡ fault → answer_or size pages place fault ≡ Ok found → 24 ≤ found.head.total
    from_answer bytes None passes e =
        let header = bytes_from size pages 24 place.position in
        let total = number_at w32 header 0 in
        let long = size-passed bytes passes in
        let is = total_of total (number_at w64 header 8) (reading_of (bytes_from size pages total place.position)) e in
        let same = size_in_header in
        omega arith
    from_answer bytes (Some answer) passes e = absurd cc

    from_page : (page : Option (List ℕ)) → pages (address_of size place.position / 8192) ≡ page → read_in size pages end place page ≡ Ok found → (24 ≤ found.head.total) × ((none : pages (address_of size place.position / 8192) ≡ None) → ⊥)
    from_page None there e = absurd cc
    from_page (Some bytes) there e = (from_answer bytes (first_fault (record_rows size pages end place bytes)) refl e, λ none. cc)

    -- a record that is read has its header's bytes, and its page is there
    record_read : read_at size pages end place ≡ Ok found → (24 ≤ found.head.total) × ((none : pages (address_of size place.position / 8192) ≡ None) → ⊥)
    unfolding read_at
    record_read e =
        elim (cases_Bool (is_at_end end (address_of size place.position))) [
          | inl at_end ↦ absurd (cc (sym (cond-true _ (Err (ended size place.position)) (read_in size pages end place (pages (address_of size place.position / 8192))) at_end) ∙ e))
          | inr inside ↦ from_page (pages (address_of size place.position / 8192)) refl (sym (cond-false _ (Err (ended size place.position)) (read_in size pages end place (pages (address_of size place.position / 8192))) inside) ∙ e)
        ]

-- ---- there is a reading

module _ (size : ℕ) (valid : IsSegmentSize size) (pages : Pages) (bounded : IsBounded pages) (end : Option ℕ) where
  -- a record that is read starts below address 2 ^ 60
  starts_below : (place : RecordPlace) (found : FoundRecord) → read_at size pages end place ≡ Ok found → place.position < 2 ^ 60
  starts_below place found e =
      elim (cases_lt place.position (2 ^ 60)) [
        | inl below ↦ below
        | inr high ↦
            (let address = le-address_of size valid place.position in
            let page : 2 ^ 47 ≤ address_of size place.position / 8192 = omega arith in
            absurd ((record_read size pages end place found e).1 (bounded (address_of size place.position / 8192) page)))
      ]

  reading_from : (turns : ℕ) (place : RecordPlace) → 2 ^ 60 ≤ place.position + turns → (found : List FoundRecord) × (answer : Answer) × ReadsRecords size pages end place found answer
  reading_from zero place near =
      elim (cases_Result (read_at size pages end place)) [
        | inl (f, e) ↦ (let below = starts_below place f e in
            absurd (omega arith))
        | inr (answer, e) ↦ ([], answer, reads_at size pages end place (Err answer) e)
      ]
  reading_from (suc turns) place near =
      elim (cases_Result (read_at size pages end place)) [
        | inl (f, e) ↦
            (let total = (record_read size pages end place f e).0 in
            let further = next_position-further size valid place.position f.head.total f.value (omega arith) in
            let behind = reading_from turns (place_behind size pages place f) (omega arith) in
            (f ∷ behind.0, behind.1, (reads_at size pages end place (Ok f) e, behind.2)))
        | inr (answer, e) ↦ ([], answer, reads_at size pages end place (Err answer) e)
      ]

  reading_begun : (begun : Result RecordPlace Answer) → (found : List FoundRecord) × (answer : Answer) × ReadsFrom size pages end begun found answer
  reading_begun (Ok place) = reading_from (2 ^ 60) place (omega arith)
  reading_begun (Err stopped) = ([], stopped, (refl, refl))

  pub settled : (start : ℕ) → IsSettled size pages start end
  settled start =
      let reading = reading_begun (beginning size pages start) in
      let given = filter (λ f. leb start f.head.start.0) in (
        given reading.0,
        reading.1,
        record { read = reading.0; reads = reading.2; given = refl },
        λ others other d.
            (let same = ReadsFrom-same size pages end (beginning size pages start) d.read reading.0 other reading.1 d.reads reading.2 in
            (d.given ∙ ap given same.0, same.1)),
      )

-- ---- the pages of an image

pub pages_in-bounded : (size : ℕ) (image : DiskImage) → IsBounded (pages_in size image)
pages_in-bounded size image page high =
    let above : leb ((page + 1) * 8192) (2 ^ 60) ≡ false = lt-leb ((page + 1) * 8192) (2 ^ 60) (omega arith) in
    cond-false _ _ None above

pub decoding_is_settled : DecodingIsSettled
decoding_is_settled size image start end valid = settled size valid (pages_in size image) (pages_in-bounded size image) end start

-- ---- a reader's steps

gives_told : (pages : Pages) (old new : ReaderState) (answer : Answer) → IsNext pages old new (told answer) → GivesRecords pages old [] answer
gives_told pages old new (answers.End at) next = next
gives_told pages old new (answers.Stopped reason) next = next

Tells-gives : (pages : Pages) {state : ReaderState} {found : List FoundRecord} {answer : Answer} → Tells pages state found answer → GivesRecords pages state found answer
Tells-gives pages (stop {old = old} {answer = answer} new next) = gives_told pages old new answer next
Tells-gives pages (step {others = others} {answer = answer} new next rest) = next others answer (Tells-gives pages rest)

pub steps_tell_decoding : StepsTellDecoding
steps_tell_decoding size pages start end found answer tells = Tells-gives pages tells

-- ---- a reader anywhere

gives_at : (size : ℕ) (valid : IsSegmentSize size) (pages : Pages) (bounded : IsBounded pages) (start : ℕ) (end : Option ℕ) (standing : Standing)
    → (found : List FoundRecord) × (answer : Answer) × GivesAt pages (record { size = size; start = start; end = end; standing = standing }) standing found answer
gives_at size valid pages bounded start end NotBegun = let all = settled size valid pages bounded end start in (all.0, all.1, all.2)
gives_at size valid pages bounded start end (At place) =
    let reading = reading_begun size valid pages bounded end (Ok place) in
    (filter (λ f. leb start f.head.start.0) reading.0, reading.1, record { read = reading.0; reads = reading.2; given = refl })
gives_at size valid pages bounded start end (Stopped reason) = ([], answers.Stopped reason, (refl, refl))

-- a reader of an image's pages gives something, wherever it stands
pub gives_something : (image : DiskImage) (state : ReaderState) → IsSegmentSize state.size → (found : List FoundRecord) × (answer : Answer) × GivesRecords (pages_in state.size image) state found answer
gives_something image state valid = gives_at state.size valid (pages_in state.size image) (pages_in-bounded state.size image) state.start state.end state.standing
