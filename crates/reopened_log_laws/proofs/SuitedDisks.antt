-- A disk that was left by this program, and settled, is one on which its log may go on.
use Rattle.std.proofs.Common.{◌≡◌, ℕ, ◌+◌, ◌*◌, ◌/◌, ◌^◌, ◌<◌, List, [], length, take, Option, Some, None, inl, inr, refl, sym, ap, subst, ◌∙◌, arith}
use Rattle.std.specs.Prelude.{IsSome}
use Rattle.std.specs.Int.{w64, to_le_bytes}
use Rattle.std.proofs.lemmas.Bool.{cases_lt, cond-true, lt-ltb}
use Rattle.std.proofs.lemmas.List.{append-nil}
use Rattle.std.proofs.Math.Seq.{take-length}
use Rattle.byte_position.specs.Geometry.{IsSegmentSize, pages_of}
use Rattle.byte_position.specs.Position.{end_address_of}
use Rattle.byte_position.proofs.SegmentSizes.{segment_size_in_pages}
use Rattle.segment_disk.specs.Assured.{SegmentAssures, StateAssures}
use Rattle.segment_disk.specs.DiskImage.{word_of}
use Rattle.segment_disk.specs.Tape.{DiskState, Segment, Tape, page_as_read, page_of_segment, state_now}
use Rattle.wal_page.specs.Order.{Entry, IsChained, end_position}
use Rattle.flush_core.specs.Settled.{IsAmong, IsOldOrZero, KeepsOld, KeepsRead, StaysSettled}
use Rattle.flush_core.specs.SettledLog.{AreOnly, IsLogWord, IsZeroOrLogWord, ReadsAsLog}
use Rattle.flush_core.proofs.SettledLeft.{from_number}
use Rattle.flush_core.proofs.SettledLogs.{settled_logs_are_whole}
use Rattle.wal_reader.specs.declared.found.FoundRecord.{FoundRecord}
use Rattle.written_log_laws.specs.FoundLog.{ReadsFirstEntries, end_behind}
use Rattle.written_log_laws.specs.Written.{found_of}
use Rattle.written_log_laws.proofs.FoundLogs.{found_logs_read_as_log}
use Rattle.written_log_laws.proofs.FoundImages.{end_of_front}
use Rattle.machine_state.specs.Suited.{IsLogAt}
use Rattle.machine_state.specs.Words.{Opening, found_end}
use Rattle.reopened_log_laws.specs.Reopened.{IsReopenedOn, ReopenedLogsAreSuited}
use Rattle.reopened_log_laws.proofs.FirstEntries.{same_as_read, same_words}
use Rattle.reopened_log_laws.proofs.WholeWords.{StateAssures-weaker, log_at-behind}

-- ---- how many segments there are

none_there : (s : Option Segment) → s ≡ None → IsSome (page_of_segment s 0) → ⊥
none_there None none there = absurd (cc there)
none_there (Some s) none there = absurd (let no : ⊥ = cc in no)

some_there : (n segment : ℕ) (Fits : ℕ → ℕ → List ℕ → Type 0) (size : ℕ) (IsThere : ℕ → Type 0) (s : Option Segment) → 0 < pages_of size → SegmentAssures size IsThere Fits segment s → IsThere segment → page_of_segment s 0 ≡ None → ⊥
some_there n segment Fits size IsThere None some assures there none = assures there
some_there n segment Fits size IsThere (Some s) some assures there none =
    let here : page_of_segment (Some s) 0 ≡ Some (page_as_read s 0) = cond-true _ (Some (page_as_read s 0)) None (lt-ltb 0 s.pages (omega (arith, some, assures.0))) in
    let no : ⊥ = cc in no

-- those from 1 to a last one are counted so in one way
pub same_count : (size made count : ℕ) (Fits : ℕ → ℕ → List ℕ → Type 0) (state : DiskState) (limit : ℕ) → 0 < pages_of size → StateAssures size (IsAmong count) Fits state → AreOnly count state → count < limit → ((segment : ℕ) → IsAmong made segment → IsSome (page_of_segment (state segment) 0)) → (made + 1 < limit → page_of_segment (state (made + 1)) 0 ≡ None) → count ≡ made
same_count size made count Fits state limit some assures only low there others =
    elim (cases_lt count made) [
      | inl more ↦ absurd (none_there (state made) (only made (λ (among : IsAmong count made). omega (arith, among.1, more))) (there made (omega (arith, more), omega arith)))
      | inr upto ↦ elim (cases_lt made count) [
        | inl fewer ↦ absurd (some_there 0 (made + 1) Fits size (IsAmong count) (state (made + 1)) some (assures (made + 1)) (omega arith, omega (arith, fewer)) (others (omega (arith, fewer, low))))
        | inr least ↦ omega (arith, upto, least)
      ]
    ]

-- ---- the words

module _ (opening : Opening) (front : List Entry) (handed : ℕ) (t began : Tape) (found : List FoundRecord) (r : IsReopenedOn opening front handed t began found) where
  abbrev pub size : ℕ
  size = (opening.setup).seg_size

  abbrev pub sysid : ℕ
  sysid = (opening.setup).sysid

  abbrev pub before : DiskState
  before = state_now t

  pub valid : IsSegmentSize (opening.setup).seg_size
  valid = r.left.has_found.may.valid

  pub count_is : r.left.count ≡ opening.made
  count_is =
      same_count size opening.made r.left.count (IsZeroOrLogWord size sysid r.left.order) before (2 ^ 60 / size) (omega (arith, (segment_size_in_pages size valid).1)) r.left.has_found.may.lawful r.left.only r.left.low r.settled.there.there r.settled.there.others

  reads : ReadsFirstEntries (opening.setup).seg_size (opening.setup).sysid r.left.count r.left.order (state_now t) found
  reads = found_logs_read_as_log size sysid r.left.count r.left.order before found r.left.has_found

  -- what was found stands from the log's start on, and ends where the opening says
  pub found_chained : IsChained (opening.setup).seg_size front
  found_chained = r.lies.chained

  found_ends : end_address_of (opening.setup).seg_size (end_position (opening.setup).seg_size front) ≡ found_end opening
  found_ends = ap (end_address_of size) (sym r.lies.position_is)

  -- where the records end that were found
  pub end_is : end_behind (opening.setup).seg_size found ≡ found_end opening
  end_is =
      let all : front ≡ take (length front) front = sym (take-length front) in
      end_of_front size front (length front) found valid found_chained (sym r.found_is ∙ ap (found_of size) all)
      ∙ ap (λ (es : List Entry). end_address_of size (end_position size es)) (sym all)
      ∙ found_ends

  pub reads_found : ReadsAsLog (opening.setup).seg_size (opening.setup).sysid opening.made front (found_end opening) (state_now t)
  reads_found number word bytes among small low read =
      let same = same_as_read size sysid r.left.count r.left.order front before found r.left.has_found reads found_chained r.lies.nobodys r.found_is in
      reads.own number word bytes (subst (λ (n : ℕ). IsAmong n (number / pages_of size)) (sym count_is) among) small (omega (arith, low, end_is)) read
      ∙ ap (to_le_bytes w64) (sym (same_words size sysid front (take reads.among r.left.order) same (number * 8192 + 8 * word)))

  pub only_made : AreOnly opening.made (state_now t)
  only_made = subst (λ (n : ℕ). AreOnly n before) count_is r.left.only

  pub keeps_old : KeepsOld (opening.setup).seg_size (state_now t) opening.made (found_end opening) handed began
  keeps_old = r.settled.keeps_old r.left.whole

  pub keeps_read : KeepsRead (opening.setup).seg_size (state_now t) opening.made (found_end opening) (handed + opening.made) began
  keeps_read = r.settled.keeps_read r.left.whole

  stays_settled : StaysSettled (opening.setup).seg_size (state_now t) opening.made (found_end opening) opening.moment began
  stays_settled = r.settled.settled r.left.whole

  -- no segment is there behind the settling that was not before
  still_none : (segment : ℕ) (s : Option Segment) → state_now t segment ≡ None
      → SegmentAssures (opening.setup).seg_size (IsAmong opening.made)
      (IsOldOrZero (opening.setup).seg_size (state_now t) (found_end opening)) segment s
      → s ≡ None
  still_none segment None none fits = refl
  still_none segment (Some s) none fits =
      let some : 0 < pages_of size = omega (arith, (segment_size_in_pages size valid).1) in
      let was = from_number size (found_end opening) valid segment 0 some
      (λ d. IsSome (before d)) (fits.1 0 0 some (omega arith) (word_of (s.durable 0) 0) (inl refl)).0
      in
      let gone : IsSome {T = Segment} None = subst (λ (o : Option Segment). IsSome o) none was in
      absurd (cc gone)

  pub only_began : AreOnly opening.made (state_now began)
  only_began segment apart = still_none segment (state_now began segment)
      (only_made segment apart) (keeps_old.now segment)

-- whatever a crash leaves then is the log that was found
module _ (opening : Opening) (front : List Entry) (handed : ℕ) (t began : Tape) (found : List FoundRecord) (r : IsReopenedOn opening front handed t began found) where
  whole_found : StateAssures (opening.setup).seg_size (IsAmong opening.made) (IsLogWord (opening.setup).seg_size (opening.setup).sysid front) (state_now began)
  whole_found =
      subst (λ (end : ℕ). ReadsAsLog (size opening front handed t began found r) (sysid opening front handed t began found r) opening.made front end (state_now t)
      → KeepsOld (size opening front handed t began found r) (state_now t) opening.made end handed began
      → StaysSettled (size opening front handed t began found r) (state_now t) opening.made end opening.moment began
      → StateAssures (size opening front handed t began found r) (IsAmong opening.made) (IsLogWord (size opening front handed t began found r) (sysid opening front handed t began found r) front) (state_now began))
      (found_ends opening front handed t began found r)
      (settled_logs_are_whole (opening.setup).seg_size (opening.setup).sysid opening.made handed opening.moment front (state_now t) began (valid opening front handed t began found r) (found_chained opening front handed t began found r) (only_made opening front handed t began found r))
      (reads_found opening front handed t began found r) (keeps_old opening front handed t began found r) (stays_settled opening front handed t began found r)

pub reopened_logs_are_suited : ReopenedLogsAreSuited
reopened_logs_are_suited opening front handed t began found r =
    StateAssures-weaker (opening.setup).seg_size (IsAmong opening.made) (IsLogWord (opening.setup).seg_size (opening.setup).sysid front) (IsLogAt opening [])
    (λ page word bytes is. log_at-behind opening front r.lies [] (valid opening front handed t began found r) tt page word bytes
    (subst (λ (es : List Entry). IsLogWord (opening.setup).seg_size (opening.setup).sysid es page word bytes) (sym (append-nil front)) is))
    (state_now began) (whole_found opening front handed t began found r)
