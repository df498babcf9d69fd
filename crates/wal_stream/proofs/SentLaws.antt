-- What is received is a run of steps of what is sent to a standby.
use Rattle.std.proofs.Common.{◌≡◌, ℕ, inl, inr, All, List, [], ◌∷◌, ◌++◌, Option, Result, refl, sym, ap, subst, ◌∙◌}
use Rattle.std.proofs.lemmas.List.Elements.{All-head, All-tail}
use Rattle.segment_disk.specs.Tape.{Tape}
use Rattle.wal_page.specs.Order.{Entry}
use Rattle.wal_stream.specs.Following.{AreSentSteps, ComesOfLog, FollowsLog, Harden, KeepsLogUpto, NotHardened, Offer, SentStep, promises_of, standby_behind}
use Rattle.wal_stream.specs.Standby.{FailsToHarden, HasHardenedLog, standby_disk, standby_end}
use Rattle.wal_stream.specs.declared.answers.Accepted.{Accepted}
use Rattle.wal_stream.specs.declared.answers.StandbyErr.{StandbyErr}
use Rattle.wal_stream.specs.declared.standby.Standby.{Standby}
use Rattle.wal_stream.proofs.FollowLaws.{follows_and_keeps, never_diverges, stays_on}
use Rattle.wal_types.specs.declared.lsn.Lsn.{Lsn}
use Rattle.wal_stream.specs.Answered.{AreAnswered, diverged}
use Rattle.wal_stream.specs.Fetched.{SourceState, frames_in}
use Rattle.wal_stream.specs.Receiving.{EndsHardened, EndsSo, IsHardened, Receives, TakesFrames}
use Rattle.wal_stream.specs.Sent.{Diverges, HandsOutLog, IsSentRun, promised_at}
use Rattle.wal_stream.specs.declared.outcome.FrameCounts.{FrameCounts}
use Rattle.wal_stream.specs.declared.outcome.ReceivingEnd.{ReceivingEnd}
use Rattle.wal_stream.specs.declared.outcome.ReceivingEnd.TheVariants.{Source, TooMany, Diverged, SourceFault, Disk}
use Rattle.wal_stream.specs.declared.outcome.Received.{Received}

-- what is promised once it is hardened
pub is_promised : (ended : ReceivingEnd) (now upto : ℕ) → IsHardened ended → promised_at ended now upto ≡ (now, upto) ∷ []
is_promised Source now upto due = refl
is_promised TooMany now upto due = refl
is_promised (Diverged at) now upto due = refl
is_promised SourceFault now upto due = absurd due
is_promised (Disk told) now upto due = absurd due

module _ {D : Type 0} (tape : D → Option Tape) (moment faults : D → ℕ) (sysid : ℕ) (es : List Entry) (hardened : ℕ) where
  -- a run of steps that promised this
  record Run (old new : Standby D) (promised : List (ℕ × ℕ)) : Type 0 where
    steps : List (SentStep × Standby D)
    are : AreSentSteps tape moment faults sysid es hardened old steps
    behind : standby_behind old steps ≡ new
    promised_is : promises_of moment steps ≡ promised

  run_none : (s : Standby D) → Run s s []
  run_none s = record { steps = []; are = tt; behind = refl; promised_is = refl }

  run_hardens : (old new : Standby D) (upto : ℕ) → HasHardenedLog tape moment faults old new upto → Run old new ((moment (standby_disk new), upto) ∷ [])
  run_hardens old new upto done = record { steps = (Harden upto, new) ∷ []; are = (done, tt); behind = refl; promised_is = refl }

  run_fails : (old new : Standby D) (told : ℕ) → FailsToHarden tape moment faults old new told → Run old new []
  run_fails old new told failed = record { steps = (NotHardened told, new) ∷ []; are = (failed, tt); behind = refl; promised_is = refl }

  -- the frames of the log first
  run_answered : (old last new : Standby D) (promised : List (ℕ × ℕ)) (frames : List (List ℕ)) (answers : List (Result Accepted StandbyErr))
      → AreAnswered tape moment faults old frames answers last → All (ComesOfLog old.geometry sysid es hardened) frames → Run last new promised → Run old new promised
  run_answered old last new promised [] [] are come rest = subst (λ (s : Standby D). Run s new promised) are rest
  run_answered old last new promised [] (answer ∷ answers) are come rest = absurd are
  run_answered old last new promised (frame ∷ frames) [] are come rest = absurd are
  run_answered old last new promised (frame ∷ frames) (answer ∷ answers) are come rest =
      let mid = are.0 in
      let comes = All-head (ComesOfLog old.geometry sysid es hardened) frame frames come in
      let stays = stays_on tape moment faults sysid es 0 hardened old mid frame answer comes are.1 in
      let others = subst (λ (n : ℕ). All (ComesOfLog n sysid es hardened) frames) (sym stays.size) (All-tail (ComesOfLog old.geometry sysid es hardened) frame frames come) in
      let run = run_answered mid last new promised frames answers are.2 others rest in
      record {
        steps = (Offer frame answer, mid) ∷ run.steps;
        are = ((comes, are.1), run.are);
        behind = run.behind;
        promised_is = run.promised_is;
      }

  module _ (before after : SourceState) (old new : Standby D) (counts : FrameCounts) (sent : HandsOutLog old.geometry sysid es hardened before after) where
    run_takes : (last : Standby D) (promised : List (ℕ × ℕ)) (why : ReceivingEnd) → TakesFrames tape moment faults before after old last counts why → Run last new promised → Run old new promised
    run_takes last promised why takes rest =
        run_answered old last new promised (frames_in takes.bytes) takes.answers takes.answered (sent takes.bytes takes.gives.handed) rest

    run_hardened : (why : ReceivingEnd) → EndsHardened tape moment faults before after old new counts why → Run old new ((moment (standby_disk new), standby_end new) ∷ [])
    run_hardened why ends = run_takes ends.last ((moment (standby_disk new), standby_end new) ∷ []) why ends.takes (run_hardens ends.last new (standby_end new) ends.hardens)

    run_of : (ended : ReceivingEnd) → EndsSo tape moment faults before after old new counts ended → Run old new (promised_at ended (moment (standby_disk new)) (standby_end new))
    run_of Source ends = run_hardened Source ends
    run_of TooMany ends = run_hardened TooMany ends
    run_of (Diverged at) ends = run_hardened (Diverged at) ends
    run_of SourceFault ends = run_takes new [] SourceFault ends (run_none new)
    run_of (Disk told) (inl ends) = run_takes new [] (Disk told) ends (run_none new)
    run_of (Disk told) (inr ends) = run_takes ends.last [] ends.ended ends.takes (run_fails ends.last new told ends.fails)

  module _ (before after : SourceState) (old new : Standby D) (received : Received) (receives : Receives tape moment faults before after old new received) (sent : HandsOutLog old.geometry sysid es hardened before after) where
    pub is_sent_run : IsSentRun tape moment faults sysid es hardened old new received
    is_sent_run =
        let run = run_of before after old new received.counts sent received.ended receives.ends in
        record {
          steps = run.steps;
          are = run.are;
          behind = run.behind;
          promised = run.promised_is ∙ ap (promised_at received.ended (moment (standby_disk new))) (sym receives.upto_is);
        }

    module _ (since : ℕ) (follows : FollowsLog tape sysid es since old) where
      pub follows_still : FollowsLog tape sysid es since new
      follows_still = subst (FollowsLog tape sysid es since) is_sent_run.behind ((follows_and_keeps tape moment faults sysid es since hardened old is_sent_run.steps is_sent_run.are).stays.follows follows)

      pub keeps_upto : IsHardened received.ended → KeepsLogUpto tape sysid es new (moment (standby_disk new), received.upto.0)
      keeps_upto due =
          let promise : ℕ × ℕ = (moment (standby_disk new), received.upto.0) in
          let kept = (follows_and_keeps tape moment faults sysid es since hardened old is_sent_run.steps is_sent_run.are).promises follows in
          let at_new = subst (λ (s : Standby D). All (KeepsLogUpto tape sysid es s) (promises_of moment is_sent_run.steps)) is_sent_run.behind kept in
          let one = subst (All (KeepsLogUpto tape sysid es new)) (is_sent_run.promised ∙ is_promised received.ended (moment (standby_disk new)) received.upto.0 due) at_new in
          All-head (KeepsLogUpto tape sysid es new) promise [] one

  -- ---- another log's frame never comes

  module _ (since : ℕ) where
    none_diverges : (old new : Standby D) (at : Lsn) (frames : List (List ℕ)) (answers : List (Result Accepted StandbyErr)) → FollowsLog tape sysid es since old
        → All (ComesOfLog old.geometry sysid es hardened) frames → AreAnswered tape moment faults old frames (answers ++ diverged at ∷ []) new → ⊥
    none_diverges old new at [] [] follows come are = are
    none_diverges old new at [] (answer ∷ answers) follows come are = are
    none_diverges old new at (frame ∷ frames) [] follows come are =
        never_diverges tape moment faults sysid es since hardened old are.0 frame at.0 are.1 (All-head (ComesOfLog old.geometry sysid es hardened) frame frames come) follows
    none_diverges old new at (frame ∷ frames) (answer ∷ answers) follows come are =
        let mid = are.0 in
        let stays = stays_on tape moment faults sysid es since hardened old mid frame answer (All-head (ComesOfLog old.geometry sysid es hardened) frame frames come) are.1 in
        let others = subst (λ (n : ℕ). All (ComesOfLog n sysid es hardened) frames) (sym stays.size) (All-tail (ComesOfLog old.geometry sysid es hardened) frame frames come) in
        none_diverges mid new at frames answers (stays.follows follows) others are.2

    module _ (before after : SourceState) (old new : Standby D) (counts : FrameCounts) (sent : HandsOutLog old.geometry sysid es hardened before after) (follows : FollowsLog tape sysid es since old) where
      takes_of_log : (last : Standby D) (at : Lsn) → TakesFrames tape moment faults before after old last counts (Diverged at) → ⊥
      takes_of_log last at takes =
          let stop = takes.ends.stop in
          none_diverges old last at (frames_in takes.bytes) stop.before follows (sent takes.bytes takes.gives.handed)
          (subst (λ (l : List (Result Accepted StandbyErr)). AreAnswered tape moment faults old (frames_in takes.bytes) l last) stop.are takes.answered)

      pub ends_of_log : (ended : ReceivingEnd) → EndsSo tape moment faults before after old new counts ended → Diverges ended → ⊥
      ends_of_log Source ends is = is
      ends_of_log TooMany ends is = is
      ends_of_log (Diverged at) ends is = takes_of_log ends.last at ends.takes
      ends_of_log SourceFault ends is = is
      ends_of_log (Disk told) ends is = is
