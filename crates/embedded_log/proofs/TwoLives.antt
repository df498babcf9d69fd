-- A log that was opened anew and gone on with once keeps what was told in both lives.
use Rattle.std.proofs.Common.{◌++◌, refl}
use Rattle.std.proofs.lemmas.List.Elements.{All-weaker, Contains-append_left, Contains-append_right}
use Rattle.segment_disk.specs.Tape.{state_now}
use Rattle.handed_pages.specs.Handed.{read_tape}
use Rattle.wal_rule.specs.Passes.{view_of_pass}
use Rattle.hosted_disk.specs.Hosted.{hosted_faults, hosted_moment, hosted_tape}
use Rattle.wal_log_laws.specs.History.{handed_anew, opens, reopens, starts_empty}
use Rattle.wal_log_laws.specs.Lives.{PromisedRecordsStay}
use Rattle.embedded_log.specs.Living.{HaveAppended, OpenedSessionsLiveOn, ReopenedSessionsLiveOn, TwoLivesKeepTold}
use Rattle.embedded_log.specs.Sessions.{setup_of_session}
use Rattle.embedded_log.proofs.Living.{have_more}

pub two_lives_keep_told : {H : Type 0} → OpenedSessionsLiveOn H → ReopenedSessionsLiveOn H
    → PromisedRecordsStay hosted_tape hosted_moment hosted_faults → TwoLivesKeepTold H
two_lives_keep_told opened_live_on reopened_live_on stay = λ setup first second found between next
    front one both sized known narrow opened begun told reopened before below life more.
    let a = opened_live_on setup first between one opened begun told in
    let b = reopened_live_on setup second found (read_tape (state_now between)) next front both
    reopened before below life more in
    let hard = a.0 ++ b.0 in (
      hard,
      stay setup.seg_size setup.sysid next both hard
          (reopens (handed_anew (opens (starts_empty sized known narrow (λ segment. refl)) a.1))
          b.1),
      All-weaker (λ t. HaveAppended a.0 t.body t.receipt) (λ t. HaveAppended hard t.body t.receipt)
          (have_more a.0 hard (λ r. Contains-append_left a.0 b.0 r)
          (setup_of_session begun.last) begun.at (view_of_pass (begun.closes).pass)) told a.2,
      All-weaker (λ t. HaveAppended b.0 t.body t.receipt) (λ t. HaveAppended hard t.body t.receipt)
          (have_more b.0 hard (λ r. Contains-append_right a.0 b.0 r)
          (setup_of_session life.last) life.at (view_of_pass (life.closes).pass)) more b.2,
    )
