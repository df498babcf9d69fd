-- What a crash leaves of a log that is written is a disk that this program left.
use Rattle.std.proofs.Common.{◌≡◌, ℕ, ◌/◌, ◌^◌, ◌<◌, ◌⊎◌, List, [], length, Option, Some, None, inl, inr, refl, sym, ap, subst, ◌∙◌, arith}
use Rattle.std.specs.Prelude.{IfSome, slice_get}
use Rattle.std.specs.Option.{IsSomeAnd}
use Rattle.byte_position.specs.Geometry.{IsSegmentSize, pages_of}
use Rattle.segment_disk.specs.declared.disk.Call.{Call}
use Rattle.byte_position.proofs.SegmentSizes.{segment_size_in_pages}
use Rattle.segment_disk.specs.Assured.{IsNowhere, SegmentAssures, StateAssures}
use Rattle.segment_disk.specs.DiskImage.{IsWritten, LeftAt, MayLeave, MayLeaveSegment, image_as_read, when_done, word_of}
use Rattle.segment_disk.specs.Tape.{DiskState, Segment, Tape, after_call, after_writes, page_as_read, state_at, state_now}
use Rattle.wal_page.specs.Order.{Entry}
use Rattle.flush_core.specs.Settled.{HaveWholePages, IsAmong}
use Rattle.flush_core.specs.SettledLog.{AreOnly, IsZeroOrLogWord}
use Rattle.flush_core.proofs.SettledLeft.{at_number}
use Rattle.wal_reader.specs.declared.found.FoundRecord.{FoundRecord}
use Rattle.wal_reader.proofs.SettledLaws.{decoding_is_settled}
use Rattle.written_log_laws.specs.FoundLog.{ReadsUntorn}
use Rattle.written_log_laws.specs.SettledFound.{IsReadOrLost, MayOnlyLose, NothingWaits}
use Rattle.written_log_laws.proofs.NeverWhole.{losses_never_make_next_whole}
use Rattle.written_log_laws.proofs.SettledFound.{crashed_disks_may_hold_log}
use Rattle.reopened_log_laws.specs.Again.{CrashedLogsWereLeft, IsLeftByCrash}
use Rattle.reopened_log_laws.specs.WasLeft.{WasLeftOf}
use Rattle.reopened_log_laws.proofs.MadeSegments.{are_only, are_there, made_segments}

-- ---- nothing waits

pub durable_read : (s : Segment) (page word : ℕ) (bytes : List ℕ) → s.writes ≡ [] → (bytes ≡ word_of (s.durable page) word) ⊎ IsWritten s.writes page word bytes → bytes ≡ word_of (page_as_read s page) word
durable_read s page word bytes none (inl kept) = kept ∙ ap (λ (writes : List (ℕ × List ℕ)). word_of (after_writes writes page (s.durable page)) word) (sym none)
durable_read s page word bytes none (inr written) = absurd (subst (λ (writes : List (ℕ × List ℕ)). IsWritten writes page word bytes) none written)

module _ (size count : ℕ) (Fits : ℕ → ℕ → List ℕ → Type 0) (state : DiskState) (valid : IsSegmentSize size) (quiet : NothingWaits state) (assures : StateAssures size (IsAmong count) Fits state) where
  loses_here : (segment : ℕ) (s : Option Segment) → state segment ≡ s → IfSome s (λ s. s.writes ≡ []) → SegmentAssures size (IsAmong count) Fits segment s → SegmentAssures size (IsAmong count) (IsReadOrLost size state) segment s
  loses_here segment None is none fits = fits
  loses_here segment (Some s) is none fits = (
    fits.0,
    λ page word within low bytes may.
        inl (at_number size 0 valid segment page within (λ d m. IsSomeAnd (state d) (λ x. bytes ≡ word_of (page_as_read x m) word))
        (subst (λ (o : Option Segment). IsSomeAnd o (λ x. bytes ≡ word_of (page_as_read x page) word)) (sym is) (durable_read s page word bytes none may))),
  )

  -- each word that may be left is as it is read
  pub quiet_loses : MayOnlyLose size count state
  quiet_loses segment = loses_here segment (state segment) refl (quiet segment) (assures segment)

-- ---- pages are whole

whole_segment : (size segment : ℕ) (Fits : ℕ → ℕ → List ℕ → Type 0) (IsThere : ℕ → Type 0) (left s : Option Segment) → SegmentAssures size IsThere Fits segment s → MayLeaveSegment left (image_as_read (λ (m : ℕ). s) segment) → IfSome s (λ s. (s.pages ≡ pages_of size) × ((page : ℕ) → page < s.pages → length (page_as_read s page) ≡ 8192))
whole_segment size segment Fits IsThere left None fits may = tt
whole_segment size segment Fits IsThere None (Some s) fits may = absurd may
whole_segment size segment Fits IsThere (Some l) (Some s) fits may = (fits.0, λ page within. (may.1 page (omega (arith, within, may.0))).length)

module _ (size count : ℕ) (Fits : ℕ → ℕ → List ℕ → Type 0) (state : DiskState) (assures : StateAssures size (IsAmong count) Fits state) where
  whole_pages : (left : DiskState) → MayLeave left (image_as_read state) → HaveWholePages size state
  whole_pages left may segment = whole_segment size segment Fits (IsAmong count) (left segment) (state segment) (assures segment) (may segment)

  cut_short : (at : DiskState) (call : Option Call) → IsSomeAnd call (λ call. IsSomeAnd (when_done call) (λ done. MayLeave (after_call at done) (image_as_read state))) → HaveWholePages size state
  cut_short at None cut = absurd cut
  cut_short at (Some call) cut = done_here at (when_done call) cut
    where
      done_here : (at : DiskState) (done : Option Call) → IsSomeAnd done (λ done. MayLeave (after_call at done) (image_as_read state)) → HaveWholePages size state
      done_here at None cut = absurd cut
      done_here at (Some done) cut = whole_pages (after_call at done) cut

  pub left_whole : (t : Tape) (moment : ℕ) → LeftAt t moment (image_as_read state) → HaveWholePages size state
  left_whole t moment (inl may) = whole_pages (state_at t moment) may
  left_whole t moment (inr cut) = cut_short (state_at t moment) (slice_get t.calls moment) cut

-- ---- a disk on which a log is found that a crash left

pub was_left : (size sysid count : ℕ) (order : List Entry) (t crashed : Tape) (moment : ℕ) (found : List FoundRecord) → ReadsUntorn size sysid count order (state_now crashed) found → AreOnly count (state_now crashed) → count < 2 ^ 60 / size → IsLeftByCrash t moment crashed → WasLeftOf size sysid order crashed found
was_left size sysid count order t crashed moment found has only low crash = (
  record {
    order = order;
    count = count;
    has_found = has;
    only = only;
    never_whole = losses_never_make_next_whole size sysid count order (state_now crashed) found has only (quiet_loses size count (IsZeroOrLogWord size sysid order) (state_now crashed) has.may.valid crash.quiet has.may.lawful);
    whole = left_whole size count (IsZeroOrLogWord size sysid order) (state_now crashed) has.may.lawful t moment crash.leaves;
    low = low;
  },
  refl,
)

pub crashed_logs_were_left : CrashedLogsWereLeft
crashed_logs_were_left size sysid since moment order t crashed valid known narrow chained bounded assures made later crash none_torn =
    let state = state_now crashed in
    let settled = decoding_is_settled size (image_as_read state) size None valid in
    let segments = made_segments size since moment t (image_as_read state) made later crash.leaves in
    let some : 0 < pages_of size = omega (arith, (segment_size_in_pages size valid).1) in
    let there = are_there size IsNowhere (IsZeroOrLogWord size sysid order) some segments.0 state segments.2 (assures.left moment later (image_as_read state) crash.leaves) in
    let only = are_only size IsNowhere (IsZeroOrLogWord size sysid order) some segments.0 state segments.2 in
    let lawful = crashed_disks_may_hold_log size sysid segments.0 since moment order state t assures later crash.quiet crash.leaves there in
    let has : ReadsUntorn size sysid segments.0 order state settled.0 = record {
      may = record { valid = valid; known = known; narrow = narrow; chained = chained; bounded = bounded; lawful = lawful };
      none_torn = none_torn;
      answer = settled.1;
      decodes = settled.2;
    } in
    (settled.0, was_left size sysid segments.0 order t crashed moment settled.0 has only (omega (arith, segments.1, made.low)) crash)
