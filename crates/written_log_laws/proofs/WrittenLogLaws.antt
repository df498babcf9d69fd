-- What the writer puts into a log's pages reads back as its records, and then a clean end.
use Rattle.std.proofs.Common.{◌≡◌, ℕ, ◌+◌, ◌*◌, ◌<◌, ◌≤◌, true, ltb, List, [], ◌∷◌, ◌++◌, Option, Some, None, Result, Ok, Err, get_or, refl, sym, ap, subst, ◌∙◌, add-zero, zero-add, append-nil, arith}
use Rattle.std.specs.Prelude.{nat_le, map}
use Rattle.std.specs.List.{filter, range_with_len}
use Rattle.std.proofs.lemmas.List.FromFn.{length-map-range_with_len, get_or-map-range_with_len}
use Rattle.std.proofs.lemmas.Bool.{lt-ltb, le-ltb, le-leb, cond-true, cond-false}
use Rattle.byte_position.specs.Geometry.{IsSegmentSize, pages_of}
use Rattle.byte_position.specs.Position.{position_of, address_of, first_position}
use Rattle.byte_position.proofs.SegmentSizes.{segment_size_in_pages}
use Rattle.wal_page.specs.Order.{Entry, FollowsFrom, position_behind, rooms_of, end_position}
use Rattle.wal_page.specs.Log.{remaining_at, log_byte}
use Rattle.wal_page.proofs.OrderLaws.{rooms_of_cons, room_at-pos}
use Rattle.wal_page.proofs.OwnerLaws.{owner_of-entry}
use Rattle.wal_reader.specs.declared.record_place.RecordPlace.{RecordPlace}
use Rattle.wal_reader.specs.declared.found.FoundRecord.{FoundRecord}
use Rattle.wal_reader.specs.declared.found.Answer.{Answer}
use Rattle.wal_reader.specs.declared.found.Answer.TheVariants.{End}
use Rattle.wal_reader.specs.Pages.{Pages}
use Rattle.wal_reader.specs.Decodes.{Decodes, ReadsRecords, ReadsFrom, beginning, ended, is_right_prev}
use Rattle.wal_reader.proofs.ReadAtLaws.{reads_at, records_computed}
use Rattle.written_log_laws.specs.Written.{found_entry, found_from, found_of}
use Rattle.written_log_laws.specs.WrittenLog.{BeginsAsLogPage, HavePagesOfLog, OwnPagesHoldLog, WrittenLogDecodes}
use Rattle.wal_reader.proofs.PagesLaws.{end_address_of-first_position}
use Rattle.written_log_laws.proofs.BeginLaws.{begins_nowhere, begins_empty, begins_behind_header}
use Rattle.written_log_laws.proofs.Tables.{first_fault-none}
use Rattle.written_log_laws.proofs.LogPositions.{page_of-start, start-le-address_of}
use Rattle.written_log_laws.proofs.LogPages.{IsWritten, page_is_sound}
use Rattle.written_log_laws.proofs.LogReads.{StandFrom, log_place, last_start, entries_are_read, entries_come_first}
use Rattle.written_log_laws.proofs.LogEnds.{holds_below_end, page_begins_with_zeros, log_ends}

-- no record starts below the log's own start
pub none_below : (size prev position : ℕ) (es : List Entry) → IsSegmentSize size → FollowsFrom size position es → first_position size ≤ position → found_from size prev es ≡ filter (λ f. nat_le size f.head.start.0) (found_from size prev es)
none_below size prev position [] valid follows from = refl
none_below size prev position (e ∷ es) valid follows from =
    let start = address_of size e.start in
    let above = start-le-address_of size valid e.start (omega (arith, follows.0)) in
    let rest = none_below size start (position_behind size e) es valid follows.2 (omega (arith, follows.0)) in
    let found = found_entry size prev e in
    let others = found_from size start es in
    ap (λ (found_behind : List FoundRecord). found ∷ found_behind) rest
    ∙ sym (cond-true (nat_le size start) (found ∷ filter (λ f. nat_le size f.head.start.0) others) (filter (λ f. nat_le size f.head.start.0) others) (le-leb size start above))

-- the first position of the log's first page
pub first_page_position : (size : ℕ) → IsSegmentSize size → position_of size (pages_of size * 8192) ≡ first_position size
first_page_position size valid = ap (position_of size) (page_of-start size valid)

-- ---- where nothing is written

module _ (size sysid : ℕ) (pages : Pages) (holds : HavePagesOfLog size sysid pages []) (w : IsWritten size sysid pages []) where
  -- there is no page, or one that begins with zeros
  begins_nothing : (here : Option (List ℕ)) → pages (pages_of size) ≡ here → beginning size pages size ≡ Err (End (record { 0 = size }))
  begins_nothing None there = begins_nowhere size pages w.valid there
  begins_nothing (Some bytes) there = begins_empty size pages w.valid bytes there (page_begins_with_zeros size sysid pages [] holds w (pages_of size) bytes (omega arith) there (omega (arith, first_page_position size w.valid)))

  nothing_decodes : Decodes size pages size None [] (ended size (end_position size []))
  nothing_decodes =
      let end : ended size (first_position size + 0) ≡ End (record { 0 = size }) = ap (ended size) (add-zero (first_position size)) ∙ ap (λ (a : ℕ). End (record { 0 = a })) (end_address_of-first_position size w.valid) in
      let begins = begins_nothing (pages (pages_of size)) refl in
      record {
        read = [];
        reads = subst (λ (begun : Result RecordPlace Answer). ReadsFrom size pages None begun [] (ended size (first_position size + 0))) (sym begins) (refl, end);
        given = refl;
      }

-- ---- where entries are written

module _ (size sysid : ℕ) (pages : Pages) (e : Entry) (es : List Entry) (w : IsWritten size sysid pages (e ∷ es)) where
  begins_at_first : beginning size pages size ≡ Ok (log_place size 0 None)
  begins_at_first =
      let first = first_page_position size w.valid in
      let p = position_of size (pages_of size * 8192) in
      let start_is : e.start ≡ first_position size = w.chained.0 in
      let owns = owner_of-entry size (first_position size) [] es e w.chained p (omega (arith, first, start_is)) (omega (arith, first, start_is, room_at-pos size e)) in
      let sound = page_is_sound size sysid pages (e ∷ es) w (pages_of size) e (omega arith) (omega (arith, first, rooms_of_cons size e es, room_at-pos size e)) owns (omega (arith, first, start_is)) in
      let nothing : remaining_at e p ≡ 0 = cond-false _ _ _ (le-ltb e.start p (omega (arith, first, start_is))) in
      begins_behind_header size pages w.valid sound.0 sound.1 sound.2.no_zero_word (first_fault-none (sound.2.passes 0 (omega arith))) (sound.2.continued ∙ ap (ltb 0) nothing)
      ∙ ap (λ (t : ℕ). Ok (record { position = first_position size; prev = None; timeline = t })) sound.2.on_timeline
      ∙ ap (λ (p : ℕ). Ok (record { position = p; prev = None; timeline = 1 })) (sym (add-zero (first_position size)))

  -- they stand one behind another from the log's start on
  all_stand : StandFrom size (e ∷ es) 0 0 (e ∷ es)
  all_stand = record {
    rooms = zero-add (rooms_of size (e ∷ es));
    bytes = refl;
    follows = subst (λ (p : ℕ). FollowsFrom size p (e ∷ es)) (sym (add-zero (first_position size))) w.chained;
    front = [];
    parts = refl;
    prev_fits = omega arith;
  }

  right_at_first : is_right_prev None (address_of size (first_position size + 0)) 0 ≡ true
  right_at_first =
      let above = start-le-address_of size w.valid (first_position size + 0) (omega arith) in
      lt-ltb 0 (address_of size (first_position size + 0)) (omega (arith, above, segment_size_in_pages size w.valid))

  -- they are read from the log's start on, and then what stands behind them
  pub entries_are_read_first : (found : List FoundRecord) (answer : Answer) → ReadsRecords size pages None (log_place size (rooms_of size (e ∷ es)) (last_start size None (e ∷ es))) found answer
      → ReadsFrom size pages None (beginning size pages size) (found_of size (e ∷ es) ++ found) answer
  entries_are_read_first found answer behind =
      let all = e ∷ es in
      subst (λ (begun : Result RecordPlace Answer). ReadsFrom size pages None begun (found_of size all ++ found) answer) (sym begins_at_first) (entries_are_read size sysid pages all w all 0 0 None found answer all_stand right_at_first behind)

  -- whatever is read begins with them
  order_comes_first : (found : List FoundRecord) (answer : Answer) → ReadsFrom size pages None (beginning size pages size) found answer → (others : List FoundRecord) × (found ≡ found_of size (e ∷ es) ++ others)
  order_comes_first found answer reads =
      let all = e ∷ es in
      let begun = subst (λ (begun : Result RecordPlace Answer). ReadsFrom size pages None begun found answer) begins_at_first reads in
      entries_come_first size sysid pages all w all 0 0 None found answer all_stand right_at_first (records_computed size pages None (log_place size 0 None) found answer begun)

  something_decodes : HavePagesOfLog size sysid pages (e ∷ es) → Decodes size pages size None (found_of size (e ∷ es)) (ended size (end_position size (e ∷ es)))
  something_decodes holds =
      let all = e ∷ es in
      let end = ended size (end_position size all) in
      let read = entries_are_read_first [] end (reads_at size pages None (log_place size (rooms_of size all) (last_start size None all)) (Err end) (log_ends size sysid pages all holds w (last_start size None all))) in
      record {
        read = found_of size all;
        reads = subst (λ (found : List FoundRecord). ReadsFrom size pages None (beginning size pages size) found end) (append-nil (found_of size all)) read;
        given = none_below size 0 (first_position size) all w.valid w.chained (omega arith);
      }

-- where an order's log stands below its end, whatever is read begins with the order's records
pub written_order_comes_first : (size sysid : ℕ) (pages : Pages) (es : List Entry) → IsWritten size sysid pages es → (found : List FoundRecord) (answer : Answer) → ReadsFrom size pages None (beginning size pages size) found answer → (others : List FoundRecord) × (found ≡ found_of size es ++ others)
written_order_comes_first size sysid pages [] w found answer reads = (found, refl)
written_order_comes_first size sysid pages (e ∷ es) w found answer reads = order_comes_first size sysid pages e es w found answer reads

pub written_log_decodes : WrittenLogDecodes
written_log_decodes size sysid pages [] valid known narrow chained bounded holds =
    nothing_decodes size sysid pages holds (holds_below_end size sysid pages [] holds valid known narrow chained bounded)
written_log_decodes size sysid pages (e ∷ es) valid known narrow chained bounded holds =
    something_decodes size sysid pages e es (holds_below_end size sysid pages (e ∷ es) holds valid known narrow chained bounded) holds

-- ---- the log's own pages

own_bytes : (size sysid : ℕ) (es : List Entry) (page n k : ℕ) → k < n → get_or (map (λ i. log_byte size sysid es (page * 8192 + i)) (range_with_len 0 n)) k 0 ≡ log_byte size sysid es (page * 8192 + k)
own_bytes size sysid es page n k within = get_or-map-range_with_len (λ i. log_byte size sysid es (page * 8192 + i)) 0 n k k 0 within (omega arith)

own_page : (size sysid : ℕ) (es : List Entry) (page n : ℕ) → n ≡ 8192 → BeginsAsLogPage size sysid es page (map (λ k. log_byte size sysid es (page * 8192 + k)) (range_with_len 0 n))
own_page size sysid es page n whole = record {
  long = omega (arith, length-map-range_with_len (λ k. log_byte size sysid es (page * 8192 + k)) 0 n, whole);
  each = λ k within. own_bytes size sysid es page n k (omega arith);
}

pub own_pages_hold_log : OwnPagesHoldLog
own_pages_hold_log size sysid es = record {
  is_log = λ page from. own_page size sysid es page 8192 refl;
  there = λ page from below. refl;
}
