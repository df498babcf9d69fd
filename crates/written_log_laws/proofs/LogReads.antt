-- The records of a log are read one behind another over all its pages, and then what stands behind them.
use Rattle.std.proofs.Common.{◌≡◌, ℕ, zero, suc, ◌+◌, ◌-◌, ◌*◌, ◌/◌, ◌%◌, ◌^◌, ◌<◌, ◌≤◌, Bool, true, ltb, List, [], ◌∷◌, ◌++◌, take, drop, Option, Some, None, Ok, refl, sym, ap, ap₂, subst, ◌∙◌, append_assoc, add_assoc, inl, inr, arith}
use Rattle.std.specs.Prelude.{replicate}
use Rattle.std.specs.List.{flat_map, range_with_len}
use Rattle.std.proofs.lemmas.Bool.{cases_Bool, cond-true, cond-false, and_left, and_right, lt-ltb, le-ltb, eq-eqb, eqb-true, not-true, not_from_true}
use Rattle.std.proofs.lemmas.List.{drop-drop, drop_at}
use Rattle.std.proofs.lemmas.Option.{same_Some}
use Rattle.byte_position.specs.Geometry.{pages_of}
use Rattle.byte_position.specs.Position.{position_of, address_of, first_position}
use Rattle.byte_position.proofs.Rising.{lt-position_of}
use Rattle.wal_spelling.specs.Record.{is_free_manager}
use Rattle.wal_spelling.specs.Spelling.{IsLogRecord, assembled, filled, room_of, size_of}
use Rattle.wal_record.proofs.SpellingReads.{spelling_reads}
use Rattle.wal_spelling.proofs.SpellingLaws.{ready, crc_below}
use Rattle.wal_spelling.proofs.SwitchLaws.{logged_readable, logged_size}
use Rattle.wal_page.specs.Order.{Entry, FollowsFrom, IsChained, padding_at, position_behind, rooms_of, end_position, room_at}
use Rattle.wal_page.specs.Page.{is_continued}
use Rattle.wal_page.specs.Log.{bytes_of_entry, stream_of, stream_from, owner_of, remaining_at}
use Rattle.wal_page.proofs.OrderLaws.{rooms_of_cons}
use Rattle.wal_page.proofs.OwnerLaws.{owner_of-entry, start-whole}
use Rattle.wal_page.proofs.StreamLaws.{length-bytes_of_entry}
use Rattle.wal_types.specs.declared.lsn.Lsn.{Lsn}
use Rattle.wal_reader.specs.declared.record_place.RecordPlace.{RecordPlace}
use Rattle.wal_reader.specs.declared.found.Answer.{Answer}
use Rattle.wal_reader.specs.declared.found.FoundRecord.{FoundRecord}
use Rattle.wal_reader.specs.Pages.{Pages}
use Rattle.wal_reader.specs.Decodes.{ReadsRecords, next_position, place_behind, is_right_prev, opens_page, continuation_rows, continuation_rows_of, rows_of_pages, timeline_or}
use Rattle.wal_reader.proofs.ReadAtLaws.{reads_at}
use Rattle.wal_reader.proofs.SettledLaws.{same_read}
use Rattle.wal_reader.specs.ReadAt.{ReadsComputed, read_at, found_or}
use Rattle.written_log_laws.specs.Written.{found_entry, found_from}
use Rattle.written_log_laws.proofs.Tables.{NoneHolds, NoneHolds-append}
use Rattle.written_log_laws.proofs.Tables.NoneHolds.{none, past}
use Rattle.written_log_laws.proofs.RecordRows.{IsIn, StandsAt, record_is_read}
use Rattle.written_log_laws.proofs.LogPositions.{address_of-below_end, opening_position, page_before, page_begins, page_from_first, position_of-le}
use Rattle.written_log_laws.proofs.LogHeader.{sound_answers}
use Rattle.written_log_laws.proofs.NextEntries.{found_as_entry, next_of_entry}
use Rattle.written_log_laws.proofs.LogPages.{IsNoZero, IsWritten, page_is_sound, owner_here, timeline_is, bytes_from-log}

-- where the checks of each page hold, those of a run of pages do
NoneHolds-run : {K : Type 0} (rows : ℕ → List (Bool × K)) (a n : ℕ) → ((i : ℕ) → a ≤ i → i < a + n → NoneHolds (rows i)) → NoneHolds (flat_map rows (range_with_len a n))
NoneHolds-run rows a zero h = none
NoneHolds-run rows a (suc n) h = NoneHolds-append (h a (omega arith) (omega arith)) (NoneHolds-run rows (a + 1) n (λ i low high. h i (omega arith) (omega arith)))

-- the place k bytes behind the log's first
abbrev pub log_place : ℕ → ℕ → Option Lsn → RecordPlace
log_place size k prev = record { position = first_position size + k; prev = prev; timeline = 1 }

-- the start of the last one of some entries, and `before` where there is none
abbrev pub last_start : ℕ → Option Lsn → List Entry → Option Lsn
last_start size before [] = before
last_start size before (e ∷ es) = last_start size (Some (record { 0 = address_of size e.start })) es

-- the last entries of an order, which stand from k bytes behind the log's first on, behind a record that starts at `prev`
pub record StandFrom (size : ℕ) (es : List Entry) (k prev : ℕ) (rest : List Entry) : Type 0 where
  pub rooms : k + rooms_of size rest ≡ rooms_of size es
  pub bytes : drop k (stream_of size es) ≡ stream_from size prev rest
  pub follows : FollowsFrom size (first_position size + k) rest
  pub front : List Entry
  pub parts : es ≡ front ++ rest
  pub prev_fits : prev < 2 ^ 64

module _ (size sysid : ℕ) (pages : Pages) (es : List Entry) (w : IsWritten size sysid pages es) where
  -- ---- an entry, and others behind it

  module _ (e : Entry) (others : List Entry) (k prev : ℕ) (stand : StandFrom size es k prev (e ∷ others)) (before : Option Lsn) where
    start_is : e.start ≡ first_position size + k
    start_is = stand.follows.0

    logged : IsLogRecord e.value
    logged = stand.follows.1

    chained_parts : IsChained size (stand.front ++ e ∷ others)
    chained_parts = subst (λ (l : List Entry). IsChained size l) stand.parts w.chained

    whole : e.start % 8 ≡ 0
    whole = start-whole size w.valid stand.front others e chained_parts

    within : k + room_at size e.start e.value + rooms_of size others ≡ rooms_of size es
    within = omega (arith, rooms_of_cons size e others, stand.rooms)

    owns : (p : ℕ) → e.start ≤ p → p < position_behind size e → owner_of size es p ≡ Some e
    owns p from below = ap (λ (l : List Entry). owner_of size l p) stand.parts ∙ owner_of-entry size (first_position size) stand.front others e chained_parts p from below

    -- its own bytes are none of the zeros behind a switch
    no_zero : (p : ℕ) → e.start ≤ p → p < e.start + room_of e.value → IsNoZero size es p
    no_zero p from below f owner =
        let same : e ≡ f = same_Some e f (sym (owns p from (omega (arith, below))) ∙ owner) in
        subst (λ (g : Entry). p < g.start + room_of g.value) same below

    -- the page on which it starts
    entry_is_in : (bytes : List ℕ) × IsIn size pages (log_place size k before) bytes
    entry_is_in =
        let p = first_position size + k in
        let page = address_of size p / 8192 in
        let from = page_from_first size w.valid p (omega arith) in
        let begins = page_begins size w.valid p in
        let below : position_of size (page * 8192) < end_position size es = omega (arith, within) in
        elim (cases_Bool (opens_page size p)) [
          | inl t ↦
              (let opens_at = opening_position size w.valid p (eqb-true _ _ t) in
              let sound = page_is_sound size sysid pages es w page e from below (owns (position_of size (page * 8192)) (omega (arith, start_is)) (omega (arith, start_is))) (omega (arith, start_is)) in
              let nothing : remaining_at e (position_of size (page * 8192)) ≡ 0 = cond-false _ _ _ (le-ltb e.start (position_of size (page * 8192)) (omega (arith, start_is))) in (
                sound.0,
                record {
                  here = sound.1;
                  no_zero_word = sound.2.no_zero_word;
                  not_claimed = and_right (opens_page size p) (is_continued sound.0) (sound.2.continued ∙ ap (ltb 0) nothing);
                  passes = sound_answers {bytes = sound.0} sound.2;
                },
              ))
          | inr f ↦
              (let owner = owner_here size sysid pages es w p (no_zero p (omega (arith, start_is)) (omega (arith, start_is))) from below in
              let sound = page_is_sound size sysid pages es w page owner.0 from below owner.1 owner.2 in (
                sound.0,
                record {
                  here = sound.1;
                  no_zero_word = sound.2.no_zero_word;
                  not_claimed = and_left (opens_page size p) (is_continued sound.0) f;
                  passes = sound_answers {bytes = sound.0} sound.2;
                },
              ))
        ]

    -- a page into which it continues
    page_continues : (page : ℕ) → pages_of size < page → e.start < position_of size (page * 8192) → position_of size (page * 8192) < e.start + size_of e.value → NoneHolds (continuation_rows size pages (log_place size k before) (size_of e.value) page)
    page_continues page from behind ahead =
        let p = position_of size (page * 8192) in
        let start = address_of size (first_position size + k) in
        let owed = first_position size + k + size_of e.value - p in
        let below : p < end_position size es = omega (arith, within, start_is) in
        let sound = page_is_sound size sysid pages es w page e (omega arith) below (owns p (omega arith) (omega (arith, ahead))) (omega (arith, ahead)) in
        let bytes = sound.0 in
        let last = p - 1 in
        let back : page - 1 + 1 ≡ page = omega arith in
        let on : address_of size last / 8192 ≡ page - 1 = subst (λ (n : ℕ). address_of size (position_of size (n * 8192) - 1) / 8192 ≡ page - 1) back (page_before size w.valid (page - 1)) in
        let begins = page_begins size w.valid last in
        let timeline = subst (λ (n : ℕ). timeline_or (pages n) 1 ≡ 1) on (timeline_is size sysid pages es w last (no_zero last (omega (arith, behind)) (omega (arith, behind, ahead))) (omega (arith, on)) (omega (arith, begins, below))) in
        let remaining_is : remaining_at e p ≡ e.start + size_of e.value - p = cond-true _ _ _ (lt-ltb e.start p behind) in
        let small = logged_size e.value logged in
        let remaining_so = sound.2.owed (omega (arith, remaining_is)) in
        let rows : NoneHolds (continuation_rows_of size page 1 start owed (Some bytes)) =
        NoneHolds-append (sound_answers sound.2)
        (past sound.2.not_overwritten
        (past (not_from_true _ (sound.2.continued ∙ lt-ltb 0 (remaining_at e p) (omega (arith, remaining_is))))
        (past (not_from_true _ (eq-eqb _ _ (omega (arith, remaining_so, remaining_is, start_is)))) none))) in
        let there = subst (λ (here : Option (List ℕ)). NoneHolds (continuation_rows_of size page 1 start owed here)) (sym sound.1) rows in
        subst (λ (t : ℕ). NoneHolds (continuation_rows_of size page t start owed (pages page))) (sym timeline) there

    rows_between : (q1 q2 : ℕ) → e.start ≤ q1 → q2 < e.start + size_of e.value → NoneHolds (rows_of_pages size pages (log_place size k before) (size_of e.value) (address_of size q1 / 8192) (address_of size q2 / 8192))
    rows_between q1 q2 low high =
        let from = address_of size q1 / 8192 in
        let upto = address_of size q2 / 8192 in
        let first = page_from_first size w.valid q1 (omega (arith, start_is)) in
        NoneHolds-run (continuation_rows size pages (log_place size k before) (size_of e.value)) (from + 1) (upto - from) (λ page above below.
        page_continues page (omega arith) (omega (arith, lt-position_of size w.valid q1 (page * 8192) (omega arith))) (omega (arith, position_of-le size w.valid q2 (page * 8192) (omega arith))))

    entry_stands : is_right_prev before (address_of size (first_position size + k)) prev ≡ true → StandsAt size pages (log_place size k before) (assembled e.value) prev
    entry_stands right =
        let p = first_position size + k in
        let small = logged_size e.value logged in
        record {
          rest = replicate (padding_at size e.start e.value) 0 ++ stream_from size (address_of size e.start) others;
          bytes = λ n fits. bytes_from-log size sysid pages es w n k (omega (arith, within)) ∙ ap (take n) (stand.bytes ∙ append_assoc (filled (assembled e.value) prev) (replicate (padding_at size e.start e.value) 0) (stream_from size (address_of size e.start) others));
          header_pages = rows_between p (p + 24 - 1) (omega (arith, start_is)) (omega (arith, start_is));
          last_pages = rows_between (p + 24 - 1) (p + size_of e.value - 1) (omega (arith, start_is)) (omega (arith, start_is));
          manager = not-true (is_free_manager e.value.rmid) (logged_readable e.value logged).manager;
          prev_right = right;
          size_fits = omega arith;
          prev_fits = stand.prev_fits;
          crc_fits = crc_below (assembled e.value) prev (ready e.value logged);
        }

    entry_is_read : is_right_prev before (address_of size (first_position size + k)) prev ≡ true → read_at size pages None (log_place size k before) ≡ Ok (found_entry size prev e)
    entry_is_read right =
        let here = entry_is_in in
        record_is_read size pages (log_place size k before) here.0 (assembled e.value) prev here.1 (entry_stands right)
        ∙ ap (found_or size (log_place size k before) (size_of e.value) prev) (spelling_reads e.value prev logged stand.prev_fits)
        ∙ ap (λ (f : FoundRecord). Ok f) (found_as_entry size w.valid (log_place size k before) prev e whole (sym start_is))

    place_behind_entry : place_behind size pages (log_place size k before) (found_entry size prev e) ≡ log_place size (k + room_at size e.start e.value) (Some (record { 0 = address_of size e.start }))
    place_behind_entry =
        let q = first_position size + k + size_of e.value - 1 in
        let page = address_of size q / 8192 in
        let begins = page_begins size w.valid q in
        let small : 24 ≤ size_of e.value = omega arith in
        let timeline = timeline_is size sysid pages es w q (no_zero q (omega (arith, start_is)) (omega (arith, start_is))) (page_from_first size w.valid q (omega arith)) (omega (arith, within)) in
        let next = subst (λ (p : ℕ). next_position size p (size_of e.value) e.value ≡ p + room_at size e.start e.value) start_is (next_of_entry size w.valid e.start whole e.value) in
        let placed : ℕ → ℕ → RecordPlace = λ position timeline. record { position = position; prev = Some (record { 0 = address_of size e.start }); timeline = timeline } in
        ap₂ placed (next ∙ add_assoc (first_position size) k (room_at size e.start e.value)) timeline

    others_stand : StandFrom size es (k + room_at size e.start e.value) (address_of size e.start) others
    others_stand =
        let behind = stream_from size (address_of size e.start) others in
        let next : e.start + room_at size e.start e.value ≡ first_position size + (k + room_at size e.start e.value) = omega (arith, start_is) in
        record {
          rooms = within;
          bytes = sym (drop-drop (room_at size e.start e.value) k (stream_of size es)) ∙ ap (drop (room_at size e.start e.value)) stand.bytes ∙ drop_at (bytes_of_entry size prev e) behind (room_at size e.start e.value) (length-bytes_of_entry size prev e);
          follows = subst (λ (p : ℕ). FollowsFrom size p others) next stand.follows.2;
          front = stand.front ++ e ∷ [];
          parts = stand.parts ∙ sym (append_assoc stand.front (e ∷ []) others);
          prev_fits = omega (arith, address_of-below_end size w.valid e.start (end_position size es) (omega (arith, start_is, within)), w.bounded);
        }

  -- entries are read where they stand, and then what stands behind them
  pub entries_are_read : (rest : List Entry) (k prev : ℕ) (before : Option Lsn) (found : List FoundRecord) (answer : Answer) → StandFrom size es k prev rest → is_right_prev before (address_of size (first_position size + k)) prev ≡ true
      → ReadsRecords size pages None (log_place size (rooms_of size es) (last_start size before rest)) found answer → ReadsRecords size pages None (log_place size k before) (found_from size prev rest ++ found) answer
  entries_are_read [] k prev before found answer stand right behind =
      subst (λ (n : ℕ). ReadsRecords size pages None (log_place size n before) found answer) (omega (arith, stand.rooms)) behind
  entries_are_read (e ∷ others) k prev before found answer stand right behind =
      let next = address_of size e.start in
      let rest = entries_are_read others (k + room_at size e.start e.value) next (Some (record { 0 = next })) found answer (others_stand e others k prev stand before) (eq-eqb next next refl) behind in
      (reads_at size pages None (log_place size k before) (Ok (found_entry size prev e)) (entry_is_read e others k prev stand before right), subst (λ (place : RecordPlace). ReadsRecords size pages None place (found_from size next others ++ found) answer) (sym (place_behind_entry e others k prev stand before)) rest)

  -- whatever is read where they stand begins with them
  pub entries_come_first : (rest : List Entry) (k prev : ℕ) (before : Option Lsn) (found : List FoundRecord) (answer : Answer) → StandFrom size es k prev rest → is_right_prev before (address_of size (first_position size + k)) prev ≡ true → ReadsComputed size pages None (log_place size k before) found answer
      → (others : List FoundRecord) × (found ≡ found_from size prev rest ++ others)
  entries_come_first [] k prev before found answer stand right reads = (found, refl)
  entries_come_first (e ∷ others) k prev before [] answer stand right reads = absurd (cc (entry_is_read e others k prev stand before right, reads))
  entries_come_first (e ∷ others) k prev before (f ∷ found) answer stand right reads =
      let entry = found_entry size prev e in
      let next = address_of size e.start in
      let here : f ≡ entry = same_read f entry (sym reads.0 ∙ entry_is_read e others k prev stand before right) in
      let behind = subst (λ (g : FoundRecord). ReadsComputed size pages None (place_behind size pages (log_place size k before) g) found answer) here reads.1 in
      let at_next = subst (λ (place : RecordPlace). ReadsComputed size pages None place found answer) (place_behind_entry e others k prev stand before) behind in
      let rest = entries_come_first others (k + room_at size e.start e.value) next (Some (record { 0 = next })) found answer (others_stand e others k prev stand before) (eq-eqb next next refl) at_next in
      (rest.0, ap (λ (g : FoundRecord). g ∷ found) here ∙ ap (λ (gs : List FoundRecord). entry ∷ gs) rest.1)
