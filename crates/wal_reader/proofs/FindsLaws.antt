-- What is found in pages is what they decode to.
use Rattle.std.proofs.Common.{◌≡◌, ◌⊎◌, ℕ, ◌/◌, ◌^◌, List, [], ◌∷◌, Option, Some, None, Result, Ok, Err, inl, inr, refl, sym, ap, ap₂, subst, ◌∙◌, arith}
use Rattle.std.specs.Prelude.{filter, nat_le}
use Rattle.std.specs.Int.{w32, w64}
use Rattle.byte_position.specs.Geometry.{IsSegmentSize}
use Rattle.byte_position.specs.Position.{address_of, end_address_of}
use Rattle.wal_spelling.specs.Numbers.{number_at}
use Rattle.wal_types.specs.declared.record.Record.{Record}
use Rattle.wal_page.specs.Page.{first_fault}
use Rattle.wal_reader.specs.declared.found.Answer.{Answer}
use Rattle.wal_reader.specs.declared.found.FoundRecord.{FoundRecord}
use Rattle.wal_reader.specs.declared.record_place.RecordPlace.{RecordPlace}
use Rattle.wal_reader.specs.Decodes.{Decodes, ReadsAt, ReadsFrom, ReadsIn, ReadsRecords, Says, TellsOrSays, beginning, found_record, has_compressed, malformed, next_position, place_behind, record_rows, spelled}
use Rattle.wal_reader.specs.Finds.{BeginsAt, FindingIsDecoding, FindsRecords, FindsFrom, IsRecordAt}
use Rattle.wal_reader.specs.Pages.{Pages, bytes_from, pages_in}
use Rattle.wal_reader.proofs.ReadAtLaws.{read_at_of}
use Rattle.wal_reader.specs.Settled.{IsBounded}
use Rattle.wal_reader.proofs.SettledLaws.{decoding_is_settled, pages_in-bounded}
use Rattle.wal_reader.proofs.SoundLaws.{begins_begun, begun_begins, no_begin, passes_stands, same_begin, sizes_same, stands_passes}

same_record : (found other : FoundRecord)
    → (let read : Result FoundRecord Answer = Ok found in read ≡ Ok other) → found ≡ other
same_record found other e = cc

no_answer : (answer : Answer) (found : FoundRecord)
    → (let read : Result FoundRecord Answer = Err answer in read ≡ Ok found) → ⊥
no_answer answer found e = absurd cc

-- ---- one record

module _ (size : ℕ) (pages : Pages) (place : RecordPlace) where
  abbrev header : List ℕ
  header = bytes_from size pages 24 place.position

  abbrev total : ℕ
  total = number_at w32 header 0

  abbrev prev : ℕ
  prev = number_at w64 header 8

  abbrev whole : List ℕ
  whole = bytes_from size pages total place.position

  abbrev claimed : ℕ
  claimed = number_at w32 (bytes_from size pages 8 place.position) 0

  -- what stands at a place is as it is found there
  as_found : (found : FoundRecord) → IsRecordAt size pages place found
      → found ≡ found_record size place total prev found.value
  as_found found s =
      let made : ℕ → ℕ → ℕ → ℕ → FoundRecord = λ start end before bytes. record {
        head = record {
          start = record { 0 = start };
          end = record { 0 = end };
          prev = record { 0 = before };
          total = bytes;
        };
        value = found.value;
      } in
      let start = address_of size place.position in
      let end = end_address_of size (next_position size place.position total found.value) in
      let end_is : found.head.end.0 ≡ end = s.end_is ∙ ap (λ (n : ℕ).
      end_address_of size (next_position size place.position n found.value)) s.total_is in
      ap (λ (n : ℕ). made n found.head.end.0 found.head.prev.0 found.head.total) s.start_is
      ∙ ap (λ (n : ℕ). made start n found.head.prev.0 found.head.total) end_is
      ∙ ap (λ (n : ℕ). made start end n found.head.total) s.prev_is
      ∙ ap (made start end prev) s.total_is

  module _ (valid : IsSegmentSize size) where
    -- a record that stands at a place is read there
    value_read : (value : Record)
        → IsRecordAt size pages place (found_record size place total prev value)
        → ReadsAt size pages None place (Ok (found_record size place total prev value))
    unfolding ReadsAt
    value_read value s =
        let found = found_record size place total prev value in
        let passes = stands_passes size pages place valid claimed value
        (sizes_same size pages place) s in
        let says : Says size place total prev whole (Ok found) = spelled value s.spells in
        let passed : TellsOrSays size pages place
        (first_fault (record_rows size pages None place s.page)) (Ok found) =
        subst (λ (fault : Option Answer). TellsOrSays size pages place fault (Ok found))
        (sym passes) says in
        subst (λ (page : Option (List ℕ)). ReadsIn size pages None place page (Ok found))
        (sym s.is_there) passed

    pub stands_read : (found : FoundRecord) → IsRecordAt size pages place found
        → ReadsAt size pages None place (Ok found)
    stands_read found s =
        let same = as_found found s in
        subst (λ (f : FoundRecord). ReadsAt size pages None place (Ok f)) (sym same)
        (value_read found.value (subst (IsRecordAt size pages place) same s))

    -- what is read at a place stands there
    of_says : (page : List ℕ) → pages (address_of size place.position / 8192) ≡ Some page
        → first_fault (record_rows size pages None place page) ≡ None
        → {result : Result FoundRecord Answer} → Says size place total prev whole result
        → (found : FoundRecord) → result ≡ Ok found → IsRecordAt size pages place found
    of_says page is_there passes (spelled value spells) found e =
        subst (IsRecordAt size pages place)
        (same_record (found_record size place total prev value) found e)
        (passes_stands size pages place valid claimed value page is_there spells
        (sizes_same size pages place) passes)
    of_says page is_there passes (malformed at kind fails) found e = absurd (no_answer _ found e)
    of_says page is_there passes (has_compressed block fails) found e =
        absurd (no_answer _ found e)

    of_fault : (page : List ℕ) → pages (address_of size place.position / 8192) ≡ Some page
        → (fault : Option Answer) → first_fault (record_rows size pages None place page) ≡ fault
        → (found : FoundRecord) → TellsOrSays size pages place fault (Ok found)
        → IsRecordAt size pages place found
    of_fault page is_there (Some answer) is found e = absurd (no_answer answer found (sym e))
    of_fault page is_there None is found says = of_says page is_there is says found refl

    of_page : (page : Option (List ℕ)) → pages (address_of size place.position / 8192) ≡ page
        → (found : FoundRecord) → ReadsIn size pages None place page (Ok found)
        → IsRecordAt size pages place found
    of_page None is found e = absurd (no_answer _ found (sym e))
    of_page (Some page) is found says =
        of_fault page is (first_fault (record_rows size pages None place page)) refl found says

    pub read_stands : (found : FoundRecord) → ReadsAt size pages None place (Ok found)
        → IsRecordAt size pages place found
    unfolding ReadsAt
    read_stands found reads = of_page (pages (address_of size place.position / 8192)) refl found reads

    -- what stands at a place is the one thing that is read there
    alone : (found other : FoundRecord) → IsRecordAt size pages place found
        → ReadsAt size pages None place (Ok other) → found ≡ other
    alone found other s reads =
        same_record found other
        (sym (read_at_of size pages None place (Ok found) (stands_read found s))
        ∙ read_at_of size pages None place (Ok other) reads)

    none_stands : (answer : Answer) → ReadsAt size pages None place (Err answer)
        → (found : FoundRecord) → IsRecordAt size pages place found → ⊥
    none_stands answer reads found s =
        no_answer answer found
        (sym (read_at_of size pages None place (Err answer) reads)
        ∙ read_at_of size pages None place (Ok found) (stands_read found s))

-- ---- records, one behind another

module _ (size : ℕ) (valid : IsSegmentSize size) (pages : Pages) where
  same_records : (place : RecordPlace) (found read : List FoundRecord) (answer : Answer)
      → FindsFrom size pages place found → ReadsRecords size pages None place read answer
      → found ≡ read
  same_records place [] [] answer finds reads = refl
  same_records place [] (r ∷ rs) answer finds reads =
      absurd (finds r (read_stands size pages place valid r reads.0))
  same_records place (f ∷ fs) [] answer finds reads =
      absurd (none_stands size pages place valid answer reads f finds.0)
  same_records place (f ∷ fs) (r ∷ rs) answer finds reads =
      let same = alone size pages place valid f r finds.0 reads.0 in
      let others = subst (λ (g : FoundRecord).
      FindsFrom size pages (place_behind size pages place g) fs) same finds.1 in
      ap₂ (λ (g : FoundRecord) (gs : List FoundRecord). g ∷ gs) same
      (same_records (place_behind size pages place r) fs rs answer others reads.1)

  finds_read : (place : RecordPlace) (read : List FoundRecord) (answer : Answer)
      → ReadsRecords size pages None place read answer → FindsFrom size pages place read
  finds_read place [] answer reads = none_stands size pages place valid answer reads
  finds_read place (r ∷ rs) answer reads = (
    read_stands size pages place valid r reads.0,
    finds_read (place_behind size pages place r) rs answer reads.1,
  )

-- ---- from where reading begins

module _ (size : ℕ) (valid : IsSegmentSize size) (pages : Pages) (bounded : IsBounded pages)
    (start : ℕ) where
  abbrev Begins : RecordPlace → Type 0
  Begins = BeginsAt size pages (start / 8192) 0

  -- what is found, by where reading begins
  abbrev FindsBegun : List FoundRecord → Type 0
  FindsBegun found =
      ((place : RecordPlace) × Begins place × FindsFrom size pages place found)
      ⊎ (((place : RecordPlace) → Begins place → ⊥) × (found ≡ []))

  is_begun : (place : RecordPlace) → Begins place → beginning size pages start ≡ Ok place
  is_begun place begins =
      begins_begun size valid pages bounded begins (2 ^ 47) (omega arith)

  same_begun : (begun : Result RecordPlace Answer) → beginning size pages start ≡ begun
      → (found read : List FoundRecord) (answer : Answer) → FindsBegun found
      → ReadsFrom size pages None begun read answer → found ≡ read
  same_begun (Err told) is found read answer (inl (place, begins, finds)) reads =
      absurd (no_begin told place (sym is ∙ is_begun place begins))
  same_begun (Err told) is found read answer (inr (none, nothing)) reads = nothing ∙ sym reads.0
  same_begun (Ok at) is found read answer (inl (place, begins, finds)) reads =
      same_records size valid pages at found read answer
      (subst (λ (p : RecordPlace). FindsFrom size pages p found)
      (sym (same_begin at place (sym is ∙ is_begun place begins))) finds) reads
  same_begun (Ok at) is found read answer (inr (none, nothing)) reads =
      absurd (none at (begun_begins size valid pages (2 ^ 47) (start / 8192) 0 at is))

  begun_read : (begun : Result RecordPlace Answer) → beginning size pages start ≡ begun
      → (read : List FoundRecord) (answer : Answer)
      → ReadsFrom size pages None begun read answer → FindsBegun read
  begun_read (Err told) is read answer reads =
      inr (λ place begins. no_begin told place (sym is ∙ is_begun place begins), reads.0)
  begun_read (Ok at) is read answer reads =
      inl (
        at,
        begun_begins size valid pages (2 ^ 47) (start / 8192) 0 at is,
        finds_read size valid pages at read answer reads,
      )

pub finding_is_decoding : FindingIsDecoding
finding_is_decoding size image start valid found =
    let pages = pages_in size image in
    let bounded = pages_in-bounded size image in
    let begun = beginning size pages start in
    let settled = decoding_is_settled size image start None valid in
    let decodes = settled.2 in
    let decoded : FindsRecords size pages start found
    → ((answer : Answer) × Decodes size pages start None found answer) = λ finds.
    let same = same_begun size valid pages bounded start begun refl finds.read decodes.read
    settled.1 finds.reads decodes.reads in
    let is_found = finds.given
    ∙ (ap (λ (fs : List FoundRecord).
    filter (λ (f : FoundRecord). nat_le start f.head.start.0) fs) same
    ∙ sym decodes.given) in (
      settled.1,
      subst (λ (fs : List FoundRecord). Decodes size pages start None fs settled.1)
          (sym is_found) decodes,
    ) in
    let finds : ((answer : Answer) × Decodes size pages start None found answer)
    → FindsRecords size pages start found = λ d. record {
      read = (d.1).read;
      reads = begun_read size valid pages bounded start begun refl (d.1).read d.0 (d.1).reads;
      given = (d.1).given;
    } in
    (decoded, finds)
