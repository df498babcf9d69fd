-- What a crash leaves of a disk that this program left is such a disk again, with the same order, also while its log is settled.
use Rattle.std.proofs.Common.{◌≡◌, ℕ, ◌/◌, ◌^◌, ◌<◌, ◌≤◌, List, length, Some, None, inl, inr, refl, sym, subst, arith}
use Rattle.byte_position.specs.Geometry.{pages_of}
use Rattle.byte_position.proofs.SegmentSizes.{segment_size_in_pages}
use Rattle.segment_disk.specs.DiskImage.{image_as_read}
use Rattle.segment_disk.specs.Tape.{Tape, state_now}
use Rattle.flush_core.specs.Settled.{AreAllThere, IsAmong, IsOldOrZero, KeepsOld}
use Rattle.flush_core.specs.SettledLog.{IsZeroOrLogWord}
use Rattle.flush_core.proofs.LeftLaws.{TapeAssures-now}
use Rattle.flush_core.proofs.SettledLeft.{old_assures}
use Rattle.wal_reader.specs.declared.found.FoundRecord.{FoundRecord}
use Rattle.wal_reader.specs.Pages.{pages_in}
use Rattle.wal_reader.proofs.SettledLaws.{decoding_is_settled}
use Rattle.written_log_laws.specs.FoundLog.{end_behind}
use Rattle.written_log_laws.specs.Torn.{NoTornPass}
use Rattle.written_log_laws.proofs.SettledFound.{crashed_logs_are_found_again}
use Rattle.found_log.specs.Found.{FindsLog, HasBegunToSettle}
use Rattle.found_log.specs.declared.finding.FoundLog.{FoundLog}
use Rattle.reopened_log_laws.specs.Again.{CrashedCompletedSettlingsWereLeft, CrashedDisksWereLeft, CrashedReopenedSettlingsWereLeft, CrashedStoppedSettlingsWereLeft, IsLeftByCrash}
use Rattle.reopened_log_laws.specs.WasLeft.{WasLeft, WasLeftOf}
use Rattle.reopened_log_laws.proofs.LeftAgain.{was_left}
use Rattle.reopened_log_laws.proofs.StoppedSettlings.{end_of_log, there}
use Rattle.reopened_log_laws.proofs.SuitedDisks.{same_count}
use Rattle.reopened_log_laws.proofs.Surviving.{old, some_tape}

module _ (size sysid : ℕ) (t : Tape) (found : List FoundRecord) (left : WasLeft size sysid t found) where
  -- a tape leaves below the end nothing but what might have been left when the disk was handed in
  abbrev pub StaysOld : ℕ → Tape → Type 0
  StaysOld handed now = KeepsOld size (state_now t) left.count (end_behind size found) handed now

  left_again : (handed moment : ℕ) (now crashed : Tape) → StaysOld handed now → handed ≤ moment → IsLeftByCrash now moment crashed → NoTornPass size (pages_in size (image_as_read (state_now crashed))) left.order → (told : List FoundRecord) × WasLeftOf size sysid left.order crashed told
  left_again handed moment now crashed keeps since crash none_torn =
      let state = state_now crashed in
      let settled = decoding_is_settled size (image_as_read state) size None left.has_found.may.valid in
      let again = crashed_logs_are_found_again size sysid left.count handed moment left.order (state_now t) state found now left.has_found left.only keeps since crash.quiet crash.leaves none_torn settled.0 settled.1 settled.2 in
      (settled.0, was_left size sysid left.count left.order now crashed moment settled.0 again.0 again.1 left.low crash)

  -- no call was made
  pub uncalled_stays : StaysOld (length t.calls) t
  uncalled_stays =
      let end = end_behind size found in
      TapeAssures-now size (IsAmong left.count) (IsOldOrZero size (state_now t) end) (length t.calls) t refl
      (old_assures size end left.count left.has_found.may.valid (state_now t) left.whole (there size sysid t found left))

  -- as many segments are there as were counted
  pub same_segments : (count : ℕ) → AreAllThere size (state_now t) count → left.count ≡ count
  same_segments count counts =
      let some : 0 < pages_of size =
      omega (arith, (segment_size_in_pages size left.has_found.may.valid).1) in
      same_count size count left.count (IsZeroOrLogWord size sysid left.order) (state_now t)
      (2 ^ 60 / size) some left.has_found.may.lawful left.only left.low counts.there counts.others

  -- what settling keeps of these segments up to where the log was found to end, it keeps of those
  -- that are there up to the end of these records
  pub settling_keeps : (Keeps : (count end : ℕ) → Type 0) (cap count : ℕ) (log : FoundLog)
      → FindsLog size cap (Some t) log → AreAllThere size (state_now t) count
      → Keeps count log.end.0 → Keeps left.count (end_behind size found)
  settling_keeps Keeps cap count log finds counts keeps =
      subst (λ (n : ℕ). Keeps n (end_behind size found)) (sym (same_segments count counts))
      (subst (Keeps count) (end_of_log size sysid t found left cap log finds) keeps)

  -- the calls of a settling were, or some of them
  settling_stays : (cap handed count : ℕ) (log : FoundLog) (now : Tape)
      → FindsLog size cap (Some t) log → AreAllThere size (state_now t) count
      → KeepsOld size (state_now t) count log.end.0 handed now → StaysOld handed now
  settling_stays cap handed count log now =
      settling_keeps (λ n end. KeepsOld size (state_now t) n end handed now) cap count log

  pub stopped_stays : (cap handed last : ℕ) (now : Tape) → handed ≡ length t.calls → HasBegunToSettle size cap (Some t) (Some now) handed last → StaysOld handed now
  stopped_stays cap handed last now counted begun =
      let stops = begun.stopped in
      elim stops.there [
        | inr none ↦ subst (λ (d : Tape). StaysOld handed d) (sym (some_tape now t none.1.same_tape)) (subst (λ (n : ℕ). StaysOld n t) (sym counted) uncalled_stays)
        | inl counts ↦ settling_stays cap handed stops.count begun.log now begun.found counts (stops.keeps_old left.whole)
      ]

pub crashed_disks_were_left : CrashedDisksWereLeft
crashed_disks_were_left size sysid t crashed found left crash none_torn =
    left_again size sysid t found left (length t.calls) (length t.calls) t crashed (uncalled_stays size sysid t found left) (omega arith) crash none_torn

pub crashed_stopped_settlings_were_left : CrashedStoppedSettlingsWereLeft
crashed_stopped_settlings_were_left size sysid cap handed last moment t now crashed found left counted begun since crash none_torn =
    left_again size sysid t found left handed moment now crashed (stopped_stays size sysid t found left cap handed last now counted begun) since crash none_torn

pub crashed_completed_settlings_were_left : CrashedCompletedSettlingsWereLeft
crashed_completed_settlings_were_left size sysid cap handed last moment log t now crashed found left counted finds settled since crash none_torn =
    left_again size sysid t found left handed moment now crashed (settling_stays size sysid t found left cap handed log.made log now finds settled.there (settled.keeps_old left.whole)) since crash none_torn

pub crashed_reopened_settlings_were_left : CrashedReopenedSettlingsWereLeft
crashed_reopened_settlings_were_left opening front handed moment t began crashed found r since crash none_torn =
    left_again (opening.setup).seg_size (opening.setup).sysid t found r.left handed moment began crashed (old opening front handed t began found r) since crash none_torn
