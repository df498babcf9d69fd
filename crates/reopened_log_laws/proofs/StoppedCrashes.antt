-- What crashes leave of a log whose settling the disk failed, and of one that was settled, up to its opening.
use Rattle.std.proofs.Common.{◌≡◌, ℕ, ◌+◌, ◌≤◌, List, ◌++◌, length, Some, inl, inr, ap, subst, arith}
use Rattle.std.proofs.lemmas.List.{length-append}
use Rattle.segment_disk.specs.Tape.{Tape, state_now}
use Rattle.flush_core.specs.Settled.{AreAllThere, HasNotSettled, KeepsRead, settle_calls}
use Rattle.wal_reader.specs.declared.found.FoundRecord.{FoundRecord}
use Rattle.written_log_laws.specs.FoundLog.{end_behind}
use Rattle.written_log_laws.proofs.NeverWhole.{unsynced_logs_decode_to_fronts}
use Rattle.written_log_laws.proofs.SettledFound.{synced_logs_decode_to_found}
use Rattle.found_log.specs.Found.{HasBegunToSettle}
use Rattle.reopened_log_laws.specs.Surviving.{SettledLogsKeepWhatWasFound, StoppedSettlingsSurviveCrashes}
use Rattle.reopened_log_laws.specs.WasLeft.{WasLeft}
use Rattle.reopened_log_laws.proofs.CrashedSettlings.{same_segments, settling_keeps, stopped_stays}
use Rattle.reopened_log_laws.proofs.SuitedDisks.{before}
use Rattle.reopened_log_laws.proofs.Surviving.{old, read}

-- no segment was counted: no call was to be made
none_made : (size end handed last : ℕ) (t now : Tape) (stops : HasNotSettled size end (Some t) (Some now) handed last) → stops.count ≡ 0 → length stops.calls.front ≡ 0
none_made size end handed last t now stops none =
    let are : stops.calls.front ++ stops.calls.others ≡ settle_calls size end 0 (state_now t) =
    subst (λ (n : ℕ). stops.calls.front ++ stops.calls.others ≡ settle_calls size end n (state_now t)) none stops.calls.are in
    omega (arith, length-append stops.calls.front stops.calls.others, ap length are)

module _ (size sysid cap handed last : ℕ) (t now : Tape) (found : List FoundRecord) (left : WasLeft size sysid t found) (begun : HasBegunToSettle size cap (Some t) (Some now) handed last) where
  abbrev stops : HasNotSettled size begun.log.end.0 (Some t) (Some now) handed last
  stops = begun.stopped

  -- the segments that were there were counted, if as many calls were made
  counted_all : (segments : ℕ) → AreAllThere size (state_now t) segments → segments ≤ length stops.calls.front → stops.count ≡ segments
  counted_all segments counts made =
      elim stops.there [
        | inl all ↦ omega (arith, same_segments size sysid t found left segments counts, same_segments size sysid t found left stops.count all)
        | inr none ↦ omega (arith, none.0, made, none_made size begun.log.end.0 handed last t now stops none.0)
      ]

  reads : (segments : ℕ) → AreAllThere size (state_now t) segments → segments ≤ length stops.calls.front → KeepsRead size (state_now t) left.count (end_behind size found) (handed + segments) now
  reads segments counts made =
      let is = counted_all segments counts made in
      settling_keeps size sysid t found left (λ n end. KeepsRead size (state_now t) n end (handed + segments) now) cap segments begun.log begun.found counts
      (subst (λ (n : ℕ). KeepsRead size (state_now t) n begun.log.end.0 (handed + n) now) is
      (stops.keeps_read (omega (arith, is, made)) left.whole))

pub stopped_settlings_survive_crashes : StoppedSettlingsSurviveCrashes
stopped_settlings_survive_crashes size sysid cap handed last t now found left counted begun moment image since leaves none_torn told answer decodes =
    let stays = stopped_stays size sysid t found left cap handed last now counted begun in (
      unsynced_logs_decode_to_fronts size sysid left.count handed moment left.order (state_now t) found now image left.has_found left.only left.never_whole stays since leaves none_torn told answer decodes,
      λ segments counts made after. synced_logs_decode_to_found size sysid left.count handed (handed + segments) moment left.order (state_now t) found now image left.has_found left.only stays (reads size sysid cap handed last t now found left begun segments counts made) since after leaves none_torn told answer decodes,
    )

pub settled_logs_keep_what_was_found : SettledLogsKeepWhatWasFound
settled_logs_keep_what_was_found opening front handed t began found r moment image after leaves none_torn told answer decodes =
    synced_logs_decode_to_found (opening.setup).seg_size (opening.setup).sysid r.left.count handed (handed + opening.made) moment r.left.order (before opening front handed t began found r) found began image r.left.has_found r.left.only (old opening front handed t began found r) (read opening front handed t began found r) (omega (arith, after)) after leaves none_torn told answer decodes
