-- What is found of a log on a disk that holds nothing else.
use Rattle.std.proofs.Common.{◌≡◌, ℕ, zero, suc, ◌+◌, ◌*◌, ◌/◌, ◌%◌, ◌^◌, ◌<◌, ◌≤◌, List, [], ◌∷◌, take, drop, Some, None, refl, sym, ap, subst, ◌∙◌, arith, take-append-drop}
use Rattle.std.specs.Prelude.{slice_get}
use Rattle.byte_position.specs.Geometry.{IsSegmentSize, pages_of}
use Rattle.byte_position.specs.Position.{end_address_of, first_position}
use Rattle.byte_position.proofs.EndAddresses.{end_address_of-mono}
use Rattle.byte_position.proofs.SegmentSizes.{segment_size_in_pages}
use Rattle.byte_position.proofs.Words.{end_address_of-mod_word}
use Rattle.segment_disk.specs.Assured.{StateAssures}
use Rattle.segment_disk.specs.DiskImage.{image_as_read}
use Rattle.segment_disk.specs.Tape.{DiskState, Tape, state_now}
use Rattle.flush_core.specs.Settled.{HaveWholePages, IsAmong, IsAsRead}
use Rattle.flush_core.specs.SettledLog.{AreOnly, IsLogWord, IsZeroOrLogWord}
use Rattle.wal_page.specs.Order.{Entry, FollowsFrom, IsChained, end_position, finish_of, position_behind, rooms_of}
use Rattle.wal_page.specs.Log.{log_byte, log_word}
use Rattle.wal_page.specs.LogPlace.{LogPlace}
use Rattle.wal_page.proofs.OrderLaws.{rooms_of_cons}
use Rattle.wal_page.proofs.OwnerLaws.{end_position-whole}
use Rattle.wal_page.proofs.WordPositions.{end_address_of-first_position}
use Rattle.wal_reader.specs.declared.found.Answer.{Answer}
use Rattle.wal_reader.specs.declared.found.FoundRecord.{FoundRecord}
use Rattle.wal_reader.specs.Decodes.{Decodes}
use Rattle.wal_reader.specs.Pages.{pages_in}
use Rattle.written_log_laws.specs.FoundLog.{ReadsUntorn, ReadsFirstEntries, end_behind}
use Rattle.written_log_laws.proofs.FoundImages.{chained_front}
use Rattle.written_log_laws.proofs.FoundLogs.{found_logs_read_as_log}
use Rattle.written_log_laws.proofs.LawfulLaws.{log_byte-front}
use Rattle.written_log_laws.specs.Torn.{NoTornPass}
use Rattle.wal_stream.specs.FollowedLog.{IsLogOrder}
use Rattle.found_log.specs.Found.{IsDiskLog}
use Rattle.reopened_log_laws.proofs.SuitedDisks.{same_count}
use Rattle.standby_laws.proofs.Holding.{HasFirstSegments}

-- the log of a front has the order's words below its end
pub word_of_front : (size sysid : ℕ) → IsSegmentSize size → (es : List Entry) (count : ℕ) → IsChained size es → (a : ℕ) → a + 8 ≤ end_address_of size (end_position size (take count es)) → log_word size sysid es a ≡ log_word size sysid (take count es) a
word_of_front size sysid valid es count chained a below =
    let front = take count es in
    let back = drop count es in
    let parts = take-append-drop count es in
    let all = subst (λ (l : List Entry). IsChained size l) (sym parts) chained in
    let h : (i : ℕ) → i < 8 → log_byte size sysid es (a + i) ≡ log_byte size sysid front (a + i) = λ i lt.
    ap (λ (l : List Entry). log_byte size sysid l (a + i)) (sym parts) ∙ log_byte-front size sysid valid back front all (a + i) (omega (arith, below, lt)) in
    rw (h 0 (omega arith), h 1 (omega arith), h 2 (omega arith), h 3 (omega arith), h 4 (omega arith), h 5 (omega arith), h 6 (omega arith), h 7 (omega arith)) refl

-- entries of a front end in it
behind_within : (size p count i : ℕ) (es : List Entry) (e : Entry) → FollowsFrom size p es → slice_get es i ≡ Some e → i < count → position_behind size e ≤ p + rooms_of size (take count es)
behind_within size p count i [] e follows got low = absurd cc
behind_within size p zero i (f ∷ fs) e follows got low = absurd (omega (arith, low))
behind_within size p (suc count) zero (f ∷ fs) e follows got low =
    let same : f ≡ e = cc in
    subst (λ (d : Entry). position_behind size d ≤ p + rooms_of size (f ∷ take count fs)) same (omega (arith, follows.0, rooms_of_cons size f (take count fs)))
behind_within size p (suc count) (suc i) (f ∷ fs) e follows got low =
    let rest = behind_within size (position_behind size f) count i fs e follows.2 got (omega (arith, low)) in
    omega (arith, rest, follows.0, rooms_of_cons size f (take count fs))

pub finish_within : (size : ℕ) → IsSegmentSize size → (es : List Entry) → IsChained size es → (count i : ℕ) (e : Entry) → slice_get es i ≡ Some e → i < count → finish_of size e ≤ end_address_of size (end_position size (take count es))
finish_within size valid es chained count i e got low =
    end_address_of-mono size valid (position_behind size e) (end_position size (take count es)) (behind_within size _ count i es e chained got low)

-- a disk that holds nothing but words of an order's log, in its first segments, as it is read
pub record ReadsOrder (size sysid : ℕ) (es : List Entry) (t : Tape) : Type 0 where
  pub order : IsLogOrder size sysid es
  pub segments : HasFirstSegments size t
  pub lawful : StateAssures size (IsAmong segments.count) (IsZeroOrLogWord size sysid es)
      (state_now t)
  pub whole : HaveWholePages size (state_now t)
  pub none_torn : NoTornPass size (pages_in size (image_as_read (state_now t))) es

module _ (size sysid : ℕ) (es : List Entry) (left : Tape) (o : ReadsOrder size sysid es left) where
  abbrev pub before : DiskState
  before = state_now left

  abbrev pub count : ℕ
  count = o.segments.count

  pub has_found : (found : List FoundRecord) (answer : Answer) → Decodes size (pages_in size (image_as_read (state_now left))) size None found answer → ReadsUntorn size sysid o.segments.count es (state_now left) found
  has_found found answer decodes = record {
    may = record { valid = o.order.valid; known = o.order.known; narrow = o.order.narrow; chained = o.order.chained; bounded = o.order.bounded; lawful = o.lawful };
    none_torn = o.none_torn;
    answer = answer;
    decodes = decodes;
  }

  -- ---- these records were found

  module _ (cap made end : ℕ) (records : List FoundRecord) (place : LogPlace)
      (found : IsDiskLog size cap records place made left) (end_is : end ≡ end_behind size records) where
    pub has : ReadsUntorn size sysid o.segments.count es (state_now left) records
    has = has_found records found.ends.answer found.ends.decodes

    pub read : ReadsFirstEntries size sysid o.segments.count es (state_now left) records
    read = found_logs_read_as_log size sysid count es before records has

    pub count_is : o.segments.count ≡ made
    count_is =
        same_count size made count (IsZeroOrLogWord size sysid es) before (2 ^ 60 / size) (omega (arith, (segment_size_in_pages size o.order.valid).1)) o.lawful o.segments.only o.segments.low found.counted.there.there found.counted.there.others

    pub only_made : AreOnly made (state_now left)
    only_made = subst (λ (n : ℕ). AreOnly n before) count_is o.segments.only

    -- the end is that of so many of the order's entries
    pub front_end : end ≡ end_address_of size (end_position size (take read.among es))
    front_end = end_is ∙ read.end_is

    pub end_whole : end % 8 ≡ 0
    end_whole =
        let front = take read.among es in
        let chained = chained_front size sysid es o.order.valid o.order.known o.order.narrow o.order.chained o.order.bounded read.among in
        ap (λ (n : ℕ). n % 8) front_end
        ∙ end_address_of-mod_word size o.order.valid (end_position size front) (end_position-whole size o.order.valid front chained)

    pub end_from : size ≤ end
    end_from = omega (
      arith,
      front_end,
      end_address_of-mono size o.order.valid (first_position size) (end_position size (take read.among es)) (omega arith),
      end_address_of-first_position size o.order.valid,
    )

    -- what is read below the end is the log's
    pub read_below : (number word : ℕ) (bytes : List ℕ) → IsAmong made (number / pages_of size) → word < 1024 → number * 8192 + 8 * word < end → IsAsRead size (state_now left) number word bytes → IsLogWord size sysid es number word bytes
    read_below number word bytes among low below is =
        read.reads number word bytes (subst (λ (n : ℕ). IsAmong n (number / pages_of size)) (sym count_is) among) low (omega (arith, below, end_is)) is
