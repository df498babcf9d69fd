-- A disk is one that this program left where what a crash may leave of each word is zeros or as it is read.
use Rattle.std.proofs.Common.{◌≡◌, ℕ, ◌+◌, ◌*◌, ◌<◌, List, Option, Some, None, IfSome, inl, inr, refl, sym, subst, arith}
use Rattle.std.specs.Prelude.{IsSome}
use Rattle.std.specs.Option.{IsSomeAnd}
use Rattle.byte_position.specs.Geometry.{IsSegmentSize, pages_of}
use Rattle.byte_position.proofs.SegmentSizes.{segment_size_in_pages}
use Rattle.segment_disk.specs.Assured.{DiskImageFits, IsNowhere, SegmentAssures, SegmentFits, StateAssures}
use Rattle.segment_disk.specs.DiskImage.{image_as_read, word_of}
use Rattle.segment_disk.specs.Tape.{DiskState, Segment, page_as_read, page_of_segment, state_now}
use Rattle.wal_page.specs.Order.{Entry}
use Rattle.flush_core.specs.Settled.{AreThere, IsAmong}
use Rattle.flush_core.specs.SettledLog.{IsZeroOrLogWord}
use Rattle.flush_core.proofs.SettledLeft.{at_number}
use Rattle.wal_reader.proofs.SettledLaws.{decoding_is_settled}
use Rattle.written_log_laws.specs.FoundLog.{ReadsUntorn}
use Rattle.written_log_laws.specs.SettledFound.{IsReadOrLost, MayOnlyLose}
use Rattle.written_log_laws.proofs.NeverWhole.{losses_never_make_next_whole}
use Rattle.machine_state.specs.Growing.{LosesOnly, SegmentLosesOnly}
use Rattle.reopened_log_laws.specs.Stopped.{StoppedLogsWereLeft}
use Rattle.reopened_log_laws.proofs.MadeSegments.{are_only, are_there, made_segments}

-- ---- words that are as they are read, or zeros

module _ (size sysid count : ℕ) (order : List Entry) (state : DiskState) (valid : IsSegmentSize size) (there : AreThere state count) (fits : DiskImageFits size IsNowhere (IsZeroOrLogWord size sysid order) (image_as_read state)) (loses : LosesOnly size state) where
  gone : (s : Option Segment) → s ≡ None → IsSome (page_of_segment s 0) → ⊥
  gone None none has = absurd (cc has)
  gone (Some s) none has = absurd (let no : ⊥ = cc in no)

  lawful_here : (segment : ℕ) (s : Option Segment) → state segment ≡ s → SegmentFits size IsNowhere (IsZeroOrLogWord size sysid order) segment (image_as_read (λ (m : ℕ). s) segment) → IfSome s (SegmentLosesOnly size) → SegmentAssures size (IsAmong count) (IsZeroOrLogWord size sysid order) segment s
  lawful_here segment None is fit lose = λ among. gone (state segment) is (there segment among)
  lawful_here segment (Some s) is fit lose = (
    fit.0,
    λ page word within low bytes may. elim (lose.1 page (omega (arith, within, fit.0)) word low bytes may) [
      | inl zeros ↦ inl zeros
      | inr read ↦ subst (IsZeroOrLogWord size sysid order (segment * pages_of size + page) word) (sym read) (fit.1 page word within low)
    ],
  )

  state_lawful : StateAssures size (IsAmong count) (IsZeroOrLogWord size sysid order) state
  state_lawful segment = lawful_here segment (state segment) refl (fits segment) (loses segment)

  loses_here : (segment : ℕ) (s : Option Segment) → state segment ≡ s → IfSome s (SegmentLosesOnly size) → SegmentAssures size (IsAmong count) (IsReadOrLost size state) segment s
  loses_here segment None is lose = λ among. gone (state segment) is (there segment among)
  loses_here segment (Some s) is lose = (
    lose.0,
    λ page word within low bytes may. elim (lose.1 page (omega (arith, within, lose.0)) word low bytes may) [
      | inl zeros ↦ inr zeros
      | inr read ↦ inl (at_number size 0 valid segment page within (λ d m. IsSomeAnd (state d) (λ x. bytes ≡ word_of (page_as_read x m) word))
          (subst (λ (o : Option Segment). IsSomeAnd o (λ x. bytes ≡ word_of (page_as_read x page) word)) (sym is) read))
    ],
  )

  only_loses : MayOnlyLose size count state
  only_loses segment = loses_here segment (state segment) refl (loses segment)

pub stopped_logs_were_left : StoppedLogsWereLeft
stopped_logs_were_left size sysid since moment order t stopped valid known narrow chained bounded assures made later leaves loses whole none_torn =
    let state = state_now stopped in
    let fits = assures.left moment later (image_as_read state) leaves in
    let settled = decoding_is_settled size (image_as_read state) size None valid in
    let segments = made_segments size since moment t (image_as_read state) made later leaves in
    let count = segments.0 in
    let some : 0 < pages_of size = omega (arith, (segment_size_in_pages size valid).1) in
    let there = are_there size IsNowhere (IsZeroOrLogWord size sysid order) some count state segments.2 fits in
    let only = are_only size IsNowhere (IsZeroOrLogWord size sysid order) some count state segments.2 in
    let has : ReadsUntorn size sysid count order state settled.0 = record {
      may = record { valid = valid; known = known; narrow = narrow; chained = chained; bounded = bounded; lawful = state_lawful size sysid count order state valid there fits loses };
      none_torn = none_torn;
      answer = settled.1;
      decodes = settled.2;
    } in (
      settled.0,
      (
        record {
          order = order;
          count = count;
          has_found = has;
          only = only;
          never_whole = losses_never_make_next_whole size sysid count order state settled.0 has only (only_loses size sysid count order state valid there fits loses);
          whole = whole;
          low = omega (arith, segments.1, made.low);
        },
        refl,
      ),
    )
