-- Each frame is one step, and the harden the last.
use Rattle.wal_stream.proofs.SentLaws.{ends_of_log, follows_still, is_sent_run, keeps_upto}
use Rattle.wal_stream.proofs.sent_steps.received_frames_are_sent_steps.Goals as goal

pub returns-clause-run : goal.returns-clause-run
returns-clause-run g c = λ sysid hardened es before after old new received receives sent.
    is_sent_run g.D.Disk.tape g.D.Disk.moment g.D.Disk.faults sysid es hardened before after old new received receives sent

pub returns-clause-follows : goal.returns-clause-follows
returns-clause-follows g c = λ sysid since hardened es before after old new received receives sent follows.
    follows_still g.D.Disk.tape g.D.Disk.moment g.D.Disk.faults sysid es hardened before after old new received receives sent since follows

pub returns-clause-keeps : goal.returns-clause-keeps
returns-clause-keeps g c = λ sysid since hardened es before after old new received receives sent follows due.
    keeps_upto g.D.Disk.tape g.D.Disk.moment g.D.Disk.faults sysid es hardened before after old new received receives sent since follows due

pub returns-clause-never_diverges : goal.returns-clause-never_diverges
returns-clause-never_diverges g c = λ sysid since hardened es before after old new received receives sent follows is.
    ends_of_log g.D.Disk.tape g.D.Disk.moment g.D.Disk.faults sysid es hardened since before after old new received.counts sent follows received.ended receives.ends is
