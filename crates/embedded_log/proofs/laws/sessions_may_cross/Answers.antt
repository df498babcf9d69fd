use denote.Exit.{no}
use denote.Param.{param}
use denote.Param.Send.{IsSend, IsSync}
use Rattle.wal_rule.specs.contracts.pass.Pass as pass
use Rattle.hosted_disk.specs.contracts.progress.HostProgress as progress
use Rattle.embedded_log.proofs.Crossing.{send_of_argument, session_send, sync_of_argument, wal_row}
use Rattle.embedded_log.proofs.laws.sessions_may_cross.Goals as goal

pub returns : goal.returns
returns g c =
    let H = param 0 g.row.H in
    let own : IsSend pass.the_row =
    send_of_argument _ no pass.the_row c.may_cross.ensures (λ k x w. (tt, tt)) in
    let log : IsSend wal_row = send_of_argument _ no wal_row c.may_cross-2.ensures
    (λ k x w. ((((tt, (tt, (tt, ((tt, tt), ((tt, tt), tt))))), (tt, tt)), tt))) in
    let host : IsSend (progress.the_row H g.H.Rule) =
    send_of_argument _ no _ c.may_cross-3.ensures (λ k x w. (tt, (tt, tt))) in
    let log_shared : IsSync wal_row =
    sync_of_argument _ no wal_row c.may_be_shared.ensures in
    let host_shared : IsSync (progress.the_row H g.H.Rule) =
    sync_of_argument _ no _ c.may_be_shared-2.ensures in
    session_send H g.H.Rule own log log_shared host host_shared
