-- The place at which a log goes on that was found on a disk that this program left lies behind the entries of the records that were left; and there is one list of such entries.
use Rattle.std.proofs.Common.{◌≡◌, ℕ, ◌+◌, ◌*◌, ◌/◌, ◌%◌, ◌^◌, ◌<◌, ◌≤◌, ltb, List, [], ◌∷◌, All, map, take, Option, Some, None, inl, inr, refl, sym, ap, subst, ◌∙◌, arith}
use Rattle.std.specs.Int.{w64, from_le_bytes}
use Rattle.std.specs.Option.{IsSomeAnd}
use Rattle.std.proofs.lemmas.Bool.{cases_lt, cond-true, le-leb, lt-ltb}
use Rattle.std.proofs.lemmas.List.Elements.{All-cons, All-nil}
use Rattle.std.proofs.lemmas.Nat.{div_below, le-div}
use Rattle.std.proofs.Math.Nat.{le-div_iff_mul-le, mod-lt}
use Rattle.byte_position.specs.Geometry.{IsSegmentSize, pages_of}
use Rattle.byte_position.specs.Position.{address_of, position_of}
use Rattle.byte_position.proofs.EndAddresses.{position_of-end_address_of}
use Rattle.byte_position.proofs.SegmentSizes.{segment_size_in_pages}
use Rattle.segment_disk.specs.Assured.{SegmentAssures}
use Rattle.segment_disk.specs.DiskImage.{image_as_read, word_of}
use Rattle.segment_disk.specs.Tape.{DiskState, Segment, Tape, page_as_read, state_now}
use Rattle.wal_page.specs.Order.{Entry, FollowsFrom, IsChained, end_position, position_behind, prev_of, rooms_of}
use Rattle.wal_page.specs.Log.{log_word}
use Rattle.wal_page.proofs.LogWordLaws.{log_word-unowned, log_word_bytes as bytes_of_log_word}
use Rattle.wal_page.proofs.OrderLaws.{rooms_of_cons}
use Rattle.wal_page.proofs.OwnerLaws.{owner_at-none_before}
use Rattle.flush_core.specs.Settled.{IsAmong}
use Rattle.flush_core.specs.SettledLog.{IsZeroOrLogWord}
use Rattle.wal_reader.specs.Cache.{log_of}
use Rattle.wal_reader.specs.Finds.{FindsRecords}
use Rattle.wal_reader.specs.Pages.{page_of_image}
use Rattle.wal_reader.specs.declared.found.FoundRecord.{FoundRecord}
use Rattle.wal_reader.proofs.FindsLaws.{finding_is_decoding}
use Rattle.written_log_laws.specs.FoundLog.{ReadsFirstEntries, end_behind, last_start_behind}
use Rattle.written_log_laws.specs.Written.{found_entry, found_from, found_of}
use Rattle.written_log_laws.proofs.FoundImages.{chained_front}
use Rattle.written_log_laws.proofs.FoundLogs.{found_logs_read_as_log}
use Rattle.written_log_laws.proofs.LawfulPages.{split_by}
use Rattle.found_log.specs.Words.{word_in, word_of_page}
use Rattle.reopened_log_laws.specs.FoundFirst.{AreFoundEntries, FoundEntriesAreOne, FoundPlacesLieBehind, as_found}
use Rattle.reopened_log_laws.specs.WasLeft.{WasLeft}
use Rattle.reopened_log_laws.proofs.FirstEntries.{left_logs_are_read, same_as_read, word-as_found}

-- ---- entries without their passes

follows-as_found : (size position : ℕ) (es : List Entry) → FollowsFrom size position es → FollowsFrom size position (map as_found es)
follows-as_found size position [] follows = tt
follows-as_found size position (e ∷ es) follows = (follows.0, follows.1, follows-as_found size (position_behind size e) es follows.2)

nobodys-as_found : (es : List Entry) → All (λ (e : Entry). e.pass ≡ None) (map as_found es)
nobodys-as_found [] = All-nil (λ (e : Entry). e.pass ≡ None)
nobodys-as_found (e ∷ es) = All-cons (λ (d : Entry). d.pass ≡ None) (as_found e) (map as_found es) refl (nobodys-as_found es)

found-as_found : (size prev : ℕ) (es : List Entry) → found_from size prev (map as_found es) ≡ found_from size prev es
found-as_found size prev [] = refl
found-as_found size prev (e ∷ es) = ap (λ (l : List FoundRecord). found_entry size prev e ∷ l) (found-as_found size (address_of size e.start) es)

rooms-as_found : (size : ℕ) (es : List Entry) → rooms_of size (map as_found es) ≡ rooms_of size es
rooms-as_found size [] = refl
rooms-as_found size (e ∷ es) = omega (arith, rooms_of_cons size e es, rooms_of_cons size (as_found e) (map as_found es), rooms-as_found size es)

prev-as_found : (size prev : ℕ) (es : List Entry) → prev_of size prev (map as_found es) ≡ prev_of size prev es
prev-as_found size prev [] = refl
prev-as_found size prev (e ∷ es) = prev-as_found size (address_of size e.start) es

-- ---- a word as it is read

has_page : (size count segment page : ℕ) (Fits : ℕ → ℕ → List ℕ → Type 0) (o : Option Segment) → SegmentAssures size (IsAmong count) Fits segment o → IsAmong count segment → page < pages_of size → IsSomeAnd o (λ s. page < s.pages)
has_page size count segment page Fits None assures among within = absurd (assures among)
has_page size count segment page Fits (Some s) assures among within = omega (arith, assures.0, within)

word_there : (o : Option Segment) (page word value : ℕ) → IsSomeAnd o (λ s. page < s.pages)
    → ((bytes : List ℕ) → IsSomeAnd o (λ s. bytes ≡ word_of (page_as_read s page) word) → from_le_bytes w64 bytes ≡ value)
    → word_of_page (page_of_image (image_as_read (λ (segment : ℕ). o) 0) page) word ≡ value
word_there None page word value there is = absurd there
word_there (Some s) page word value there is =
    ap (λ (o : Option (List ℕ)). word_of_page o word) (cond-true (ltb page s.pages) (Some (page_as_read s page)) None (lt-ltb page s.pages there))
    ∙ is (word_of (page_as_read s page) word) refl

pages_times : (n pages size : ℕ) → size ≡ 8192 * pages → n * size + size ≡ 8192 * ((n + 1) * pages)
pages_times n pages size is = ap (λ (m : ℕ). n * m + m) is ∙ omega arith

-- ---- what was found of a disk that was left so

module _ (size sysid : ℕ) (t : Tape) (found : List FoundRecord) (left : WasLeft size sysid t found) where
  abbrev state : DiskState
  state = state_now t

  valid : IsSegmentSize size
  valid = left.has_found.may.valid

  read : ReadsFirstEntries size sysid left.count left.order (state_now t) found
  read = found_logs_read_as_log size sysid left.count left.order state found left.has_found

  abbrev entries : List Entry
  entries = take read.among left.order

  chained : IsChained size entries
  chained =
      let may = left.has_found.may in
      chained_front size sysid left.order may.valid may.known may.narrow may.chained may.bounded read.among

  abbrev front : List Entry
  front = map as_found entries

  found_is : found_of size front ≡ found
  found_is = found-as_found size 0 entries ∙ sym read.found_is

  are_found : AreFoundEntries size t front
  are_found = record {
    chained = follows-as_found size _ entries chained;
    nobodys = nobodys-as_found entries;
    finds = subst (FindsRecords size (log_of t size) size) (sym found_is) ((finding_is_decoding size (image_as_read state) size valid found).1 (left.has_found.answer, left.has_found.decodes));
  }

  -- each word from segment 1 on below the end is read as the log's
  word_read : (address : ℕ) → address % 8 ≡ 0 → size ≤ address → address < end_behind size found → word_in (log_of t size) address ≡ log_word size sysid entries address
  word_read address turned from below =
      let n = pages_of size in
      let page = address / 8192 in
      let word = address % 8192 / 8 in
      let bounds = segment_size_in_pages size valid in
      let some : 0 < size = omega (arith, bounds) in
      let split : page * 8192 + address % 8192 ≡ address = omega arith in
      let segment : address / size ≡ page / n = ap (λ (a : ℕ). a / size) (sym split) ∙ split_by page n size (address % 8192) bounds.0 (omega (arith, bounds.1)) (omega arith) in
      let reached = read.reached left.only in
      let all : left.count * size + size ≡ (left.count + 1) * size = omega arith in
      let high : (left.count + 1) * size ≤ 2 ^ 60 = (le-div_iff_mul-le some).0 (omega (arith, left.low)) in
      let times = pages_times left.count n size bounds.0 in
      let low : (page + 1) * 8192 ≤ 2 ^ 60 = omega (arith, below, reached, times, all, high) in
      let first = le-div 1 address size some (omega (arith, from)) in
      let last = div_below address size (left.count + 1) some (omega (arith, below, reached, all)) in
      let among : IsAmong left.count (page / n) = (omega (arith, first, segment), omega (arith, last, segment)) in
      let there = has_page size left.count (page / n) (page % n) (IsZeroOrLogWord size sysid left.order) (state (page / n)) (left.has_found.may.lawful (page / n)) among (mod-lt page (omega (arith, bounds.1))) in
      let at : page * 8192 + 8 * word ≡ address = omega (arith, turned) in
      ap (λ (o : Option (List ℕ)). word_of_page o word) (cond-true _ _ None (le-leb ((page + 1) * 8192) (2 ^ 60) low))
      ∙ word_there (state (page / n)) (page % n) word (log_word size sysid entries (page * 8192 + 8 * word)) there
      (λ bytes is. ap (from_le_bytes w64) (read.own page word bytes among (omega arith) (omega (arith, at, below)) is ∙ bytes_of_log_word size sysid entries chained (page * 8192 + 8 * word)))
      ∙ ap (log_word size sysid entries) at

  -- entries whose records the reader finds are these
  are_front : (es : List Entry) → AreFoundEntries size t es → es ≡ front
  are_front es are =
      let decodes = (finding_is_decoding size (image_as_read state) size valid (found_of size es)).0 are.finds in
      same_as_read size sysid left.count left.order es state found left.has_found read are.chained are.nobodys
      (left_logs_are_read size sysid t found (found_of size es) decodes.0 left decodes.1)

pub found_entries_are_there : (size sysid : ℕ) (t : Tape) (found : List FoundRecord)
    → WasLeft size sysid t found → (es : List Entry) × AreFoundEntries size t es
found_entries_are_there size sysid t found left =
    (map as_found (entries size sysid t found left), are_found size sysid t found left)

pub found_entries_are_one : FoundEntriesAreOne
found_entries_are_one size sysid t found one other left are others_are =
    are_front size sysid t found left one are ∙ sym (are_front size sysid t found left other others_are)

pub found_places_lie_behind : FoundPlacesLieBehind
found_places_lie_behind opening cap made t found records left placed ends starts is =
    let size = opening.setup.seg_size in
    let sysid = opening.setup.sysid in
    let place = opening.place in
    let es = entries size sysid t found left in
    let behind = map as_found es in
    let here = valid size sysid t found left in
    let chain = chained size sysid t found left in
    let front_found = are_found size sysid t found left in
    let reads = read size sysid t found left in
    let same = left_logs_are_read size sysid t found records is.ends.answer left is.ends.decodes in
    let end_is = ends ∙ ap (end_behind size) same in
    let position_is : place.position ≡ end_position size es =
    sym (position_of-end_address_of size here place.position) ∙ ap (position_of size) (end_is ∙ reads.end_is) ∙ position_of-end_address_of size here (end_position size es) in (
      behind,
      front_found,
      record {
        chained = front_found.chained;
        position_is = omega (arith, position_is, rooms-as_found size es);
        prev_is = starts ∙ ap (last_start_behind 0) same ∙ reads.start_is ∙ sym (prev-as_found size 0 es);
        words_are = λ address turned below. elim (cases_lt address size) [
          | inl before ↦ cond-true (ltb address size) 0 _ (lt-ltb address size before)
              ∙ sym (log_word-unowned size sysid here behind front_found.chained address turned (owner_at-none_before size here behind front_found.chained address before))
          | inr from ↦ is.words address turned from below
              ∙ word_read size sysid t found left address turned from (omega (arith, below, end_is))
              ∙ sym (word-as_found size sysid address es)
        ];
        nobodys = front_found.nobodys;
      },
      found_is size sysid t found left,
      same,
    )
