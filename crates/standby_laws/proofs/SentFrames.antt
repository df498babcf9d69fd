-- What is sent of a log that this program left are frames of that log, and it is hardened then.
use Rattle.std.proofs.Common.{◌≡◌, ℕ, zero, suc, ◌+◌, ◌-◌, ◌*◌, ◌/◌, ◌%◌, ◌^◌, ◌<◌, ◌≤◌, IfSome, max, min, inl, inr, All, Contains, List, [], ◌++◌, length, take, drop, Option, Some, None, Ok, Err, refl, sym, ap, subst, ◌∙◌, arith, length-append, length-drop, take-append-drop}
use Rattle.std.specs.Prelude.{nat_lt}
use Rattle.std.specs.List.{flat_map, range_with_len}
use Rattle.std.specs.Option.{IsSomeAnd, unwrap_or}
use Rattle.std.proofs.Math.Nat.{div-lt_iff_lt-mul, le-div_iff_mul-le, suc-mul, zero-mul}
use Rattle.std.proofs.Math.Seq.{drop-append_seam, take-append_seam}
use Rattle.std.proofs.lemmas.Bool.{cases_Bool, cond-true, lt-ltb}
use Rattle.std.proofs.lemmas.List.{append-nil, drop-append-le, length-map, take-append-le}
use Rattle.std.proofs.lemmas.List.Elements.{All-cons, All-contains, All-nil, All-weaker}
use Rattle.std.proofs.lemmas.List.FromFn.{length-range_with_len}
use Rattle.byte_position.specs.Geometry.{pages_of}
use Rattle.byte_position.proofs.SegmentSizes.{segment_size_in_pages}
use Rattle.byte_position.proofs.Words.{end_address_of-mod_word}
use Rattle.segment_disk.specs.Assured.{SegmentAssures}
use Rattle.segment_disk.specs.DiskImage.{word_of}
use Rattle.segment_disk.specs.Stream.{with_behind}
use Rattle.segment_disk.specs.Tape.{Segment, Tape, page_as_read, page_of_segment, state_now, sync_call, zero_page}
use Rattle.wal_page.specs.Order.{Entry, end_position}
use Rattle.wal_page.specs.Log.{log_word_bytes}
use Rattle.wal_page.proofs.OwnerLaws.{end_position-whole}
use Rattle.flush_core.specs.Settled.{IsAmong, KeepsOld, KeepsRead}
use Rattle.flush_core.specs.SettledLog.{IsZeroOrLogWord}
use Rattle.flush_core.proofs.SettledLogs.{synced_logs_are_lawful}
use Rattle.wal_reader.specs.declared.found.Answer.TheVariants as answers
use Rattle.wal_reader.specs.declared.found.FoundRecord.{FoundRecord}
use Rattle.wal_reader.specs.declared.standing.ReadErr.TheVariants as reading
use Rattle.written_log_laws.specs.FoundLog.{ReadsFirstEntries, end_behind}
use Rattle.written_log_laws.proofs.FoundImages.{chained_front, front_bounded}
use Rattle.written_log_laws.proofs.FoundLogs.{found_logs_read_as_log}
use Rattle.wal_stream.specs.FollowedLog.{IsLogOrder}
use Rattle.wal_stream.specs.Following.{ComesOfLog}
use Rattle.wal_stream.specs.Frame.{EndsInPage, IsFrameOfLog, IsSentOfLog, SentPage}
use Rattle.wal_stream.proofs.FrameLaws.{frame_long, frames_of_log_pages, reads, same_page}
use Rattle.wal_stream.specs.Sending.{AreFramesOf, SendsAll, SendsFront}
use Rattle.wal_stream.specs.SentFrames.{frame_count, frame_of, frames_between, page_read}
use Rattle.wal_stream.specs.Synced.{HasSynced}
use Rattle.wal_stream.specs.declared.fault.SendErr.TheVariants.{Read, Sink}
use Rattle.wal_stream.specs.Fetched.{first_pieces, frames_in}
use Rattle.reopened_log_laws.specs.WasLeft.{WasLeft}
use Rattle.reopened_log_laws.proofs.FirstEntries.{left_logs_are_read}
use Rattle.reopened_log_laws.proofs.SuitedDisks.{same_count}
use Rattle.standby_laws.specs.Later.{IsHardenedUpto}
use Rattle.standby_laws.specs.Sent.{SendsLog, SentFramesAreOfLog, SentFramesComeOfLog}

-- ---- pieces of one length, one behind another

module _ (P : List ℕ → Type 0) (each : ℕ → List ℕ) (size : ℕ) where
  -- of these pages each piece is so long, and P holds of it
  abbrev Fit : ℕ → ℕ → Type 0
  Fit from n = (page : ℕ) → from ≤ page → page < from + n → (length (each page) ≡ size) × P (each page)

  fit_behind : (from n : ℕ) → Fit from (suc n) → Fit (from + 1) n
  fit_behind from n fit page low high = fit page (omega (arith, low)) (omega (arith, high))

  pieces_long : (n from : ℕ) → Fit from n → length (flat_map each (range_with_len from n)) ≡ n * size
  pieces_long zero from fit = sym (zero-mul size)
  pieces_long (suc n) from fit =
      let rest = flat_map each (range_with_len (from + 1) n) in
      omega (arith, length-append (each from) rest, (fit from (omega arith) (omega arith)).0, pieces_long n (from + 1) (fit_behind from n fit), suc-mul n size)

  -- so it does of each whole piece of a front of them
  pieces_fit : (m n from : ℕ) (bytes rest : List ℕ) → Fit from n → m ≤ n → m * size ≤ length bytes → bytes ++ rest ≡ flat_map each (range_with_len from n) → All P (first_pieces size m bytes)
  pieces_fit zero n from bytes rest fit within long is = All-nil P
  pieces_fit (suc m) zero from bytes rest fit within long is = absurd (omega (arith, within))
  pieces_fit (suc m) (suc n) from bytes rest fit within long is =
      let here = fit from (omega arith) (omega arith) in
      let more = flat_map each (range_with_len (from + 1) n) in
      let one : size ≤ length bytes = omega (arith, long, suc-mul m size) in
      let front : take size (each from ++ more) ≡ each from = subst (λ (k : ℕ). take k (each from ++ more) ≡ each from) here.0 (take-append_seam (each from) more) in
      let behind : drop size (each from ++ more) ≡ more = subst (λ (k : ℕ). drop k (each from ++ more) ≡ more) here.0 (drop-append_seam (each from) more) in
      let first : take size bytes ≡ each from = sym (take-append-le size bytes rest one) ∙ ap (take size) is ∙ front in
      let next : drop size bytes ++ rest ≡ more = sym (drop-append-le size bytes rest one) ∙ ap (drop size) is ∙ behind in
      All-cons P (take size bytes) (first_pieces size m (drop size bytes)) (subst P (sym first) here.1)
      (pieces_fit m n (from + 1) (drop size bytes) rest (fit_behind from n fit) (omega (arith, within)) (omega (arith, length-drop size bytes, long, suc-mul m size)) next)

frames_fit : (P : List ℕ → Type 0) (each : ℕ → List ℕ) (n from : ℕ) (bytes rest : List ℕ) → Fit P each 8224 from n → bytes ++ rest ≡ flat_map each (range_with_len from n) → All P (frames_in bytes)
frames_fit P each n from bytes rest fit is =
    let all = ap length is ∙ pieces_long P each 8224 n from fit in
    pieces_fit P each 8224 (length bytes / 8224) n from bytes rest fit (omega (arith, all, length-append bytes rest)) (omega arith) is

-- what stands behind what a sink took before
same_behind : (before bytes frames : List ℕ) (old new : Option (List ℕ)) → old ≡ Some before → new ≡ Some (before ++ bytes) → new ≡ with_behind old frames → bytes ≡ frames
same_behind before bytes frames old new was is put =
    let both : Some (before ++ bytes) ≡ Some (before ++ frames) = sym is ∙ put ∙ ap (λ (taken : Option (List ℕ)). with_behind taken frames) was in
    let same : before ++ bytes ≡ before ++ frames = cc both in
    sym (drop-append_seam before bytes) ∙ ap (drop (length before)) same ∙ drop-append_seam before frames

-- ---- pages of a log that was left

-- such a page is whole, and below the log's end it has the log's words
record IsLogPage (size sysid : ℕ) (es : List Entry) (end page : ℕ) (bytes : List ℕ) : Type 0 where
  long : length bytes ≡ 8192
  words : (k : ℕ) → k < 1024 → page * 8192 + 8 * k < end → word_of bytes k ≡ log_word_bytes size sysid es (page * 8192 + 8 * k)

module _ (size sysid : ℕ) (t : Tape) (found : List FoundRecord) (left : WasLeft size sysid t found) where
  abbrev end : ℕ
  end = end_behind size found

  read : ReadsFirstEntries size sysid left.count left.order (state_now t) found
  read = found_logs_read_as_log size sysid left.count left.order (state_now t) found left.has_found

  is_order : IsLogOrder size sysid left.order
  is_order =
      let may = left.has_found.may in
      record { valid = may.valid; known = may.known; narrow = may.narrow; chained = may.chained; bounded = may.bounded }

  end_bounded : end_behind size found ≤ 2 ^ 60
  end_bounded =
      let may = left.has_found.may in
      omega (arith, read.end_is, front_bounded size sysid left.order may.valid may.known may.narrow may.chained may.bounded read.among)

  end_whole : end_behind size found % 8 ≡ 0
  end_whole =
      let may = left.has_found.may in
      let front = take read.among left.order in
      let chained = chained_front size sysid left.order may.valid may.known may.narrow may.chained may.bounded read.among in
      ap (λ (a : ℕ). a % 8) read.end_is ∙ end_address_of-mod_word size may.valid (end_position size front) (end_position-whole size may.valid front chained)

  end_reached : end_behind size found ≤ left.count * size + size
  end_reached = read.reached left.only

  module _ (page : ℕ) (low : size ≤ page * 8192) (high : page * 8192 < end_behind size found) where
    abbrev n : ℕ
    n = pages_of size

    -- its segment is there
    among : IsAmong left.count (page / pages_of size)
    among =
        let bounds = segment_size_in_pages size left.has_found.may.valid in
        let positive : 0 < n = omega (arith, bounds.1) in
        let all : left.count * size + size ≡ 8192 * ((left.count + 1) * n) = ap (λ (s : ℕ). left.count * s + s) bounds.0 ∙ omega arith in
        let first : 1 ≤ page / n = (le-div_iff_mul-le positive).1 (omega (arith, low, bounds.0)) in
        let last : page / n < left.count + 1 = (div-lt_iff_lt-mul positive).1 (omega (arith, high, end_reached, all)) in
        (first, omega (arith, last))

    is_page : (s : Option Segment) → state_now t (page / pages_of size) ≡ s → IsLogPage size sysid left.order (end_behind size found) page (page_read size (state_now t) page)
    is_page None is = absurd (subst (SegmentAssures size (IsAmong left.count) (IsZeroOrLogWord size sysid left.order) (page / pages_of size)) is (left.has_found.may.lawful (page / pages_of size)) among)
    is_page (Some s) is =
        let whole = subst (λ (o : Option Segment). IfSome o (λ s. (s.pages ≡ pages_of size) × ((page : ℕ) → page < s.pages → length (page_as_read s page) ≡ 8192))) is (left.whole (page / n)) in
        let inside : page % n < s.pages = omega (arith, whole.0, segment_size_in_pages size left.has_found.may.valid) in
        let there : page_of_segment (Some s) (page % n) ≡ Some (page_as_read s (page % n)) = cond-true _ (Some (page_as_read s (page % n))) None (lt-ltb (page % n) s.pages inside) in
        let reads : page_read size (state_now t) page ≡ page_as_read s (page % n) = ap (λ (o : Option Segment). unwrap_or (page_of_segment o (page % n)) zero_page) is ∙ ap (λ (o : Option (List ℕ)). unwrap_or o zero_page) there in
        record {
          long = ap length reads ∙ whole.1 (page % n) inside;
          words = λ k few below. read.reads page k (word_of (page_read size (state_now t) page) k) among few below
              (subst (λ (o : Option Segment). IsSomeAnd o (λ s. word_of (page_read size (state_now t) page) k ≡ word_of (page_as_read s (page % n)) k)) (sym is) (ap (λ (bytes : List ℕ). word_of bytes k) reads));
        }

    -- so is its frame
    is_frame : IsFrameOfLog size sysid left.order (end_behind size found) (frame_of size (page_read size (state_now t)) (end_behind size found) page)
    is_frame =
        let upto = min (page * 8192 + 8192) end in
        let own = is_page (state_now t (page / n)) refl in
        let ends : EndsInPage page upto = record { whole = omega (arith, end_whole); begun = omega (arith, high); within = omega arith; low = omega (arith, end_bounded) } in
        frames_of_log_pages size sysid page upto end left.order (page_read size (state_now t) page) ends own.long (omega arith) (λ k below. own.words k (omega (arith, below)) (omega (arith, below)))

  -- ---- all that is put

  -- a page that is sent lies behind the log's start, and begins below its end
  page_sent : (from page : ℕ) → max from size / 8192 ≤ page → page < max from size / 8192 + frame_count (max from size) (end_behind size found) → (size ≤ page * 8192) × (page * 8192 < end_behind size found)
  page_sent from page low high =
      let bounds = segment_size_in_pages size left.has_found.may.valid in
      elim (cases_Bool (nat_lt (max from size) end)) [
        | inl some ↦
            (let count : frame_count (max from size) end ≡ (end + 8191) / 8192 - max from size / 8192 = rw some refl in
            let first : pages_of size ≤ page = omega (arith, low, bounds.0) in
            (omega (arith, first, bounds.0), omega (arith, high, count)))
        | inr none ↦
            (let count : frame_count (max from size) end ≡ 0 = rw none refl in
            absurd (omega (arith, low, high, count)))
      ]

  -- each whole piece of a front of the frames is a frame of the log
  front_frames : (from : ℕ) (frames bytes rest : List ℕ) → AreFramesOf size from frames t → bytes ++ rest ≡ frames → All (IsFrameOfLog size sysid left.order (end_behind size found)) (frames_in bytes)
  front_frames from frames bytes rest are parts =
      let Is = IsFrameOfLog size sysid left.order end in
      let each = frame_of size (page_read size (state_now t)) end in
      let same = left_logs_are_read size sysid t found are.ends.found (answers.End are.ends.at) left are.ends.decodes in
      let end_is : are.end ≡ end = are.ends.end_is ∙ ap (end_behind size) same in
      let fit : Fit Is each 8224 (max from size / 8192) (frame_count (max from size) end) = λ page low high.
      (let within = page_sent from page low high in
      let frame = is_frame page within.0 within.1 in
      (frame_long size (each page) frame.sent frame.frame, frame)) in
      frames_fit Is each (frame_count (max from size) end) (max from size / 8192) bytes rest fit
      (parts ∙ are.frames_are ∙ ap (frames_between size (page_read size (state_now t)) (max from size)) end_is)

  -- ---- what is hardened

  module _ (moment moment_after : ℕ) (after : Tape) (synced : HasSynced size (Some t) (Some after) moment moment_after) where
    same_segments : left.count ≡ synced.count
    same_segments =
        let bounds = segment_size_in_pages size left.has_found.may.valid in
        same_count size synced.count left.count (IsZeroOrLogWord size sysid left.order) (state_now t) (2 ^ 60 / size) (omega (arith, bounds.1)) left.has_found.may.lawful left.only left.low synced.there.there synced.there.others

    -- a call for each segment
    moment_is : moment_after ≡ moment + left.count
    moment_is =
        let many = ap length synced.calls.are ∙ length-map (range_with_len 1 synced.count) (sync_call size) ∙ length-range_with_len 1 synced.count in
        omega (arith, synced.calls.made.moment, many, same_segments)

    keeps_old : KeepsOld size (state_now t) left.count (end_behind size found) moment after
    keeps_old = subst (λ (n : ℕ). KeepsOld size (state_now t) n end moment after) (sym same_segments) (synced.keeps_old end left.whole)

    keeps_read : KeepsRead size (state_now t) left.count (end_behind size found) (moment + left.count) after
    keeps_read = subst (λ (n : ℕ). KeepsRead size (state_now t) n end (moment + n) after) (sym same_segments) (synced.keeps_read end left.whole)

    is_hardened : IsHardenedUpto size sysid left.order moment_after (end_behind size found) after
    is_hardened m image later leaves =
        let may = left.has_found.may in
        synced_logs_are_lawful size sysid left.count end end moment (moment + left.count) m left.order (state_now t) after image may.valid may.chained may.lawful (omega arith) end_reached read.reads keeps_old keeps_read (omega (arith, later, moment_is)) (omega (arith, later, moment_is)) leaves

    -- ---- how it ends

    module _ (from : ℕ) (old new : Option (List ℕ)) where
      sends : ((before bytes : List ℕ) → old ≡ Some before → new ≡ Some (before ++ bytes) → All (IsFrameOfLog size sysid left.order (end_behind size found)) (frames_in bytes)) → SendsLog size sysid left.order moment_after (end_behind size found) after old new
      sends frames = record {
        order = is_order;
        count = read.among;
        within = read.within;
        upto_is = read.end_is;
        hardened = is_hardened;
        frames = frames;
      }

      sends_all : (count : ℕ) → SendsAll size from (Some t) old new count → SendsLog size sysid left.order moment_after (end_behind size found) after old new
      sends_all count all = sends (λ before bytes was is.
          front_frames from all.frames bytes [] all.are (append-nil bytes ∙ same_behind before bytes all.frames old new was is all.put))

      sends_front : SendsFront size from (Some t) old new → SendsLog size sysid left.order moment_after (end_behind size found) after old new
      sends_front front = sends (λ before bytes was is.
          (let same = same_behind before bytes (take front.count front.frames) old new was is front.put in
          front_frames from front.frames bytes (drop front.count front.frames) front.are
          (ap (λ (l : List ℕ). l ++ drop front.count front.frames) same ∙ take-append-drop front.count front.frames)))

pub sent_frames_are_of_log : SentFramesAreOfLog
sent_frames_are_of_log size sysid from moment moment_after t after found old new (Ok count) left (synced, all) =
    sends_all size sysid t found left moment moment_after after synced from old new count all
sent_frames_are_of_log size sysid from moment moment_after t after found old new (Err (Sink fault)) left (synced, front) =
    sends_front size sysid t found left moment moment_after after synced from old new front
sent_frames_are_of_log size sysid from moment moment_after t after found old new (Err (Read reading.Memory)) left none = inl none.1
sent_frames_are_of_log size sysid from moment moment_after t after found old new (Err (Read (reading.Stopped stop))) left none = inl none.2
sent_frames_are_of_log size sysid from moment moment_after t after found old new (Err (Read (reading.Disk faults))) left (inl none) = inl none.1
sent_frames_are_of_log size sysid from moment moment_after t after found old new (Err (Read (reading.Disk faults))) left (inr front) =
    inr (sends_front size sysid t found left moment moment_after after front.0 from old new front.1)

-- ---- what comes of them over a link

-- a frame of a log sends nothing else
comes_of_log : (size sysid upto : ℕ) (es : List Entry) (bytes : List ℕ) → IsFrameOfLog size sysid es upto bytes → ComesOfLog size sysid es upto bytes
comes_of_log size sysid upto es bytes own sent frame =
    let here = reads size bytes (take 32 bytes) (drop 32 bytes) own.sent own.frame refl refl in
    let there = reads size bytes (take 32 bytes) (drop 32 bytes) sent frame refl refl in
    let make : ℕ → ℕ → List ℕ → SentPage = λ p u b. record { page = p; upto = u; bytes = b } in
    let page : own.sent.page ≡ sent.page = same_page size bytes own.sent sent own.frame frame in
    let last : own.sent.upto ≡ sent.upto = sym here.upto ∙ there.upto in
    let words : own.sent.bytes ≡ sent.bytes = sym here.rest_is ∙ there.rest_is in
    let same : own.sent ≡ sent = ap (λ (p : ℕ). make p own.sent.upto own.sent.bytes) page ∙ ap (λ (u : ℕ). make sent.page u own.sent.bytes) last ∙ ap (make sent.page sent.upto) words in
    subst (IsSentOfLog size sysid es upto) same own.of_log

pub sent_frames_come_of_log : SentFramesComeOfLog
sent_frames_come_of_log size sysid upto es pieces before after are hands bytes is =
    All-weaker (Contains pieces) (ComesOfLog size sysid es upto)
    (λ piece among. comes_of_log size sysid upto es piece (All-contains (IsFrameOfLog size sysid es upto) pieces piece are among))
    (frames_in bytes) (hands bytes is)
