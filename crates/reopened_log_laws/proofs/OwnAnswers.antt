-- What stands behind the records of a disk that this program left it may have left.
use Rattle.std.proofs.Common.{◌≡◌, ◌⊎◌, ℕ, ◌+◌, ◌-◌, ◌*◌, ◌^◌, ◌<◌, ◌≤◌, false, ltb, List, [], ◌∷◌, ◌++◌, length, take, Option, Some, None, Result, Ok, Err, inl, inr, refl, sym, ap, subst, ◌∙◌, add-zero, append-nil, append_assoc, arith}
use Rattle.std.specs.Prelude.{slice_get}
use Rattle.std.proofs.lemmas.Bool.{cases_Bool, cases_lt, cond-false, le-ltb, true≢false}
use Rattle.std.proofs.lemmas.List.{length-append}
use Rattle.std.proofs.lemmas.Option.{slice_get-get_or}
use Rattle.std.proofs.Math.Seq.{get_or-append_seam, take-append_seam}
use Rattle.byte_position.specs.Geometry.{IsSegmentSize, pages_of}
use Rattle.byte_position.specs.Position.{end_address_of, first_position, position_of}
use Rattle.segment_disk.specs.DiskImage.{DiskImage, image_as_read}
use Rattle.segment_disk.specs.Tape.{state_now}
use Rattle.wal_spelling.specs.Spelling.{size_of}
use Rattle.wal_page.specs.Order.{Entry, IsChained, end_position, prev_of, room_at, rooms_of}
use Rattle.wal_page.specs.Page.{first_fault, is_continued}
use Rattle.wal_page.specs.Log.{owner_of}
use Rattle.wal_page.proofs.OwnerLaws.{owner_of-entry}
use Rattle.wal_page.proofs.OrderLaws.{prev_of_push, room_at-pos, rooms_of-append, rooms_of_cons, rooms_of_push}
use Rattle.wal_reader.specs.declared.found.Answer.{Answer}
use Rattle.wal_reader.specs.declared.found.Answer.TheVariants as answers
use Rattle.wal_reader.specs.declared.found.FoundRecord.{FoundRecord}
use Rattle.wal_reader.specs.declared.record_place.RecordPlace.{RecordPlace}
use Rattle.wal_reader.specs.Pages.{Pages, pages_in}
use Rattle.wal_reader.specs.Decodes.{ReadsFrom, begin_at, begin_in, beginning, ended, is_zero_word, next_position, page_answers, page_of_byte, place_behind}
use Rattle.wal_reader.specs.ReadAt.{ReadsComputed, read_at}
use Rattle.wal_reader.proofs.ReadAtLaws.{records_computed}
use Rattle.written_log_laws.specs.Torn.{IsSeenTorn, IsTorn, NoTornPass}
use Rattle.written_log_laws.specs.Written.{found_entry}
use Rattle.written_log_laws.proofs.AgreeingLaws.{cases_Option, same_place}
use Rattle.written_log_laws.proofs.BeginLaws.{beginning_is}
use Rattle.written_log_laws.proofs.FoundLogs.{read_lawful}
use Rattle.written_log_laws.proofs.LawfulBeginning.{begins_first}
use Rattle.written_log_laws.proofs.LawfulPages.{ArePagesOf, image_has_pages, no_page_above}
use Rattle.written_log_laws.proofs.LawfulRecords.{entry_or_nothing, entry_start, entry_whole, no_record_behind}
use Rattle.written_log_laws.proofs.LogPositions.{address_of-below_end}
use Rattle.written_log_laws.proofs.NextEntries.{next_of_entry}
use Rattle.written_log_laws.proofs.WrittenLogLaws.{first_page_position}
use Rattle.reopened_log_laws.specs.Own.{LeftLogsAreNotForeign, LeftLogsAreOwn}
use Rattle.reopened_log_laws.proofs.OwnHeadersRead.{AreLow, HasHeader, has_header, page_timeline, still_owed, timeline_at, wide}
use Rattle.reopened_log_laws.proofs.OwnPages.{IsOwnAnswer, answers_own, answers_tell, continued_is}
use Rattle.reopened_log_laws.proofs.OwnRecords.{end_stops, entry_stops}

-- the pages of an image are low
pub image_is_low : (size : ℕ) (image : DiskImage) → IsSegmentSize size → AreLow (pages_in size image)
image_is_low size image valid page bytes there = elim (cases_lt (2 ^ 60) ((page + 1) * 8192)) [
  | inl high ↦ (let none = no_page_above size image valid page high in absurd (cc (there, none)))
  | inr upto ↦ omega (arith, upto)
]

module _ (size sysid : ℕ) (pages : Pages) (es : List Entry) (upto : ℕ) (valid : IsSegmentSize size) (known : 0 < sysid) (narrow : sysid < 2 ^ 64) (chained : IsChained size es) (bounded : end_address_of size (end_position size es) ≤ 2 ^ 60) (are : ArePagesOf size sysid pages es upto) (low : AreLow pages) (no_torn : NoTornPass size pages es) where
  entry_does_not_pass : (front others : List Entry) (e : Entry) → es ≡ front ++ e ∷ others → IsTorn size pages e (prev_of size 0 front) → IsSeenTorn size pages e (prev_of size 0 front)
  entry_does_not_pass front others e parts =
      let n = length front in
      let within : n < length (front ++ e ∷ others) = omega (arith, length-append front (e ∷ others)) in
      let got : slice_get es n ≡ Some e = ap (λ (l : List Entry). slice_get l n) parts ∙ slice_get-get_or (front ++ e ∷ others) n e within ∙ ap Some (get_or-append_seam front e others e) in
      let taken : take n es ≡ front = ap (take n) parts ∙ take-append_seam front (e ∷ others) in
      subst (λ (l : List Entry). IsTorn size pages e (prev_of size 0 l) → IsSeenTorn size pages e (prev_of size 0 l)) taken (no_torn n e got)

  -- records that are read from an entry's place on end at what may have been left
  records_stop : (rest front : List Entry) → es ≡ front ++ rest → (place : RecordPlace) → place.position ≡ end_position size front → place.timeline ≤ 1 → prev_of size 0 front < 2 ^ 64 → (place.prev ≡ Some (record { 0 = prev_of size 0 front })) ⊎ (front ≡ []) → (found : List FoundRecord) (answer : Answer)
      → ReadsComputed size pages None place found answer → IsOwnAnswer answer
  records_stop [] front parts place at early fits known_prev [] answer reads =
      let all : front ≡ es = sym (parts ∙ append-nil front) in
      end_stops size sysid pages es upto valid known narrow chained are low place early (at ∙ ap (end_position size) all) answer reads
  records_stop (e ∷ others) front parts place at early fits known_prev [] answer reads =
      let start = entry_start size sysid pages es upto valid chained are front others e parts in
      let here = subst (λ (p : ℕ). read_at size pages None (record { position = p; prev = place.prev; timeline = place.timeline }) ≡ Err answer) (at ∙ sym start) reads in
      entry_stops size sysid pages es upto valid known narrow chained are low front others e parts place.prev place.timeline early fits known_prev (entry_does_not_pass front others e parts) answer here
  records_stop [] front parts place at early fits known_prev (f ∷ found) answer reads =
      let all : front ≡ es = sym (parts ∙ append-nil front) in
      absurd (no_record_behind size sysid pages es upto valid chained are place f (at ∙ ap (end_position size) all) reads.0)
  records_stop (e ∷ others) front parts place at early fits known_prev (f ∷ found) answer reads =
      let start = entry_start size sysid pages es upto valid chained are front others e parts in
      let here = subst (λ (p : ℕ). read_at size pages None (record { position = p; prev = place.prev; timeline = place.timeline }) ≡ Ok f) (at ∙ sym start) reads.0 in
      let entry : f ≡ found_entry size (prev_of size 0 front) e = entry_or_nothing size sysid pages es upto valid chained are front others e parts place.prev place.timeline f fits known_prev (entry_does_not_pass front others e parts) here in
      let whole = entry_whole size sysid pages es upto valid chained are front others e parts in
      let behind_it : next_position size place.position f.head.total f.value ≡ e.start + room_at size e.start e.value = ap (λ (g : FoundRecord). next_position size place.position g.head.total g.value) entry ∙ ap (λ (p : ℕ). next_position size p (size_of e.value) e.value) (at ∙ sym start) ∙ next_of_entry size valid e.start whole e.value in
      let pushed = prev_of_push size 0 front e in
      let within : e.start < end_position size es = omega (arith, start, ap (rooms_of size) parts, rooms_of-append size front (e ∷ others), rooms_of_cons size e others, room_at-pos size e) in
      let below = address_of-below_end size valid e.start (end_position size es) within in
      let now : es ≡ (front ++ e ∷ []) ++ others = parts ∙ sym (append_assoc front (e ∷ []) others) in
      let next : (place_behind size pages place f).position ≡ end_position size (front ++ e ∷ []) = omega (arith, behind_it, start, rooms_of_push size front e) in
      let known_next : Some f.head.start ≡ Some (record { 0 = prev_of size 0 (front ++ e ∷ []) }) = ap (λ (g : FoundRecord). Some g.head.start) entry ∙ ap (λ (a : ℕ). Some (record { 0 = a })) (sym pushed) in
      let last = page_of_byte size place.position f.head.total in
      let soon = timeline_at size sysid pages es upto valid known narrow chained are low last (pages last) refl place.timeline early in
      records_stop others (front ++ e ∷ []) now (place_behind size pages place f) next soon (omega (arith, pushed, below, bounded)) (inl known_next) found answer reads.1

  -- ---- where reading begins

  -- no record is still to come at the log's first page
  owed_first : (order : List Entry) → IsChained size order → (p : ℕ) → p ≡ first_position size → still_owed (owner_of size order p) p ≡ 0
  owed_first [] follows p at = refl
  owed_first (e ∷ order) follows p at =
      ap (λ (o : Option Entry). still_owed o p) (owner_of-entry size (first_position size) [] order e follows p (omega (arith, at, follows.0)) (omega (arith, at, follows.0, room_at-pos size e))) ∙ cond-false _ _ _ (le-ltb e.start p (omega (arith, at, follows.0)))

  module _ (bytes : List ℕ) (there : pages (pages_of size) ≡ Some bytes) where
    abbrev owed : ℕ
    owed = still_owed (owner_of size es (position_of size (pages_of size * 8192))) (position_of size (pages_of size * 8192))

    header_here : HasHeader size sysid (pages_of size) bytes owed
    header_here = has_header size sysid pages es upto valid known narrow chained are low (pages_of size) bytes there

    wide_here : pages_of size * 8192 < 2 ^ 64
    wide_here = wide size sysid pages es upto valid known narrow chained are low (pages_of size) bytes there

    not_continued : first_fault (page_answers size (pages_of size) bytes 0) ≡ None → is_continued bytes ≡ false
    not_continued passes =
        let same = answers_own size sysid (pages_of size) owed bytes valid known narrow wide_here header_here 0 passes in
        continued_is size sysid (pages_of size) owed bytes valid known narrow wide_here header_here same ∙ ap (ltb 0) (owed_first es chained (position_of size (pages_of size * 8192)) (first_page_position size valid))

  begun : (next : ℕ → ℕ → Result RecordPlace Answer) (here : Option (List ℕ)) (told : Answer) → pages (pages_of size) ≡ here → begin_in next size (pages_of size) 0 here ≡ Err told → IsOwnAnswer told
  begun next None told there e = let is : ended size (position_of size (pages_of size * 8192)) ≡ told = cc in subst IsOwnAnswer is refl
  begun next (Some bytes) told there e =
      elim (cases_Bool (is_zero_word bytes)) [
        | inl zeros ↦ (let stops = rw zeros at e in let is : ended size (position_of size (pages_of size * 8192)) ≡ told = cc in subst IsOwnAnswer is refl)
        | inr marked ↦
            (let checked = rw marked at e in
            elim (cases_Option (first_fault (page_answers size (pages_of size) bytes 0))) [
              | inr fails ↦
                  (let stops = rw fails.1 at checked in
                  let is : fails.0 ≡ told = cc in
                  subst IsOwnAnswer is ((answers_tell size sysid (pages_of size) (owed bytes there) bytes valid known narrow (wide_here bytes there) (header_here bytes there) 0 (omega arith)).tells fails.0 fails.1))
              | inl passes ↦ (let begins = rw (passes, not_continued bytes there passes) at checked in absurd (let none : ⊥ = cc in none))
            ])
      ]

  begun_timeline : (next : ℕ → ℕ → Result RecordPlace Answer) (here : Option (List ℕ)) (place : RecordPlace) → pages (pages_of size) ≡ here → begin_in next size (pages_of size) 0 here ≡ Ok place → place.timeline ≤ 1
  begun_timeline next None place there e = absurd (let none : ⊥ = cc in none)
  begun_timeline next (Some bytes) place there e =
      elim (cases_Bool (is_zero_word bytes)) [
        | inl zeros ↦ (let stops = rw zeros at e in absurd (let none : ⊥ = cc in none))
        | inr marked ↦
            (let checked = rw marked at e in
            elim (cases_Option (first_fault (page_answers size (pages_of size) bytes 0))) [
              | inr fails ↦ (let stops = rw fails.1 at checked in absurd (let none : ⊥ = cc in none))
              | inl passes ↦
                  (let begins = rw (passes, not_continued bytes there passes) at checked in
                  subst (λ (at : RecordPlace). at.timeline ≤ 1) (same_place _ place begins) (page_timeline size sysid pages es upto valid known narrow chained are low (pages_of size) bytes there))
            ])
      ]

  reads_stop : (begin : Result RecordPlace Answer) → beginning size pages size ≡ begin → (found : List FoundRecord) (answer : Answer) → ReadsFrom size pages None begin found answer → IsOwnAnswer answer
  reads_stop (Err told) begins found answer reads = subst IsOwnAnswer (sym reads.1) (begun (begin_at (2 ^ 47 - 1) size pages) (pages (pages_of size)) told refl (sym (beginning_is size pages valid (pages (pages_of size)) refl) ∙ begins))
  reads_stop (Ok place) begins found answer reads =
      let first : place.position ≡ end_position size [] = begins_first size sysid pages es upto valid known narrow chained are place begins ∙ sym (add-zero (first_position size)) in
      let from = begun_timeline (begin_at (2 ^ 47 - 1) size pages) (pages (pages_of size)) place refl (sym (beginning_is size pages valid (pages (pages_of size)) refl) ∙ begins) in
      records_stop es [] refl place first from (omega arith) (inr refl) found answer (records_computed size pages None place found answer reads)

pub left_logs_are_own : LeftLogsAreOwn
left_logs_are_own size sysid t found others answer left decodes =
    let may = left.has_found.may in
    let state = state_now t in
    let image = image_as_read state in
    let lawful = read_lawful size sysid left.count left.order state found left.has_found in
    let are = image_has_pages size image may.valid sysid left.order 0 may.chained may.bounded lawful in
    reads_stop size sysid (pages_in size image) left.order 0 may.valid may.known may.narrow may.chained may.bounded are (image_is_low size image may.valid) left.has_found.none_torn (beginning size (pages_in size image) size) refl decodes.read answer decodes.reads

pub left_logs_are_not_foreign : LeftLogsAreNotForeign
left_logs_are_not_foreign size sysid cap t found stop left refused =
    let log = refused.1 in
    true≢false (sym log.foreign ∙ left_logs_are_own size sysid t found log.records (answers.Stopped stop) left log.decodes)
