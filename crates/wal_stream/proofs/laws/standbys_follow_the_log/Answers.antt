-- Each step keeps what holds.
use Rattle.wal_stream.proofs.FollowLaws.{follows_and_keeps, never_diverges}
use Rattle.wal_stream.proofs.laws.standbys_follow_the_log.Goals as goal

pub returns-clause-follows : goal.returns-clause-follows
returns-clause-follows g c = λ sysid since hardened es first steps follows are.
    (follows_and_keeps g.D.Disk.tape g.D.Disk.moment g.D.Disk.faults sysid es since hardened first steps are).stays.follows follows

pub returns-clause-keeps : goal.returns-clause-keeps
returns-clause-keeps g c = λ sysid since hardened es first steps follows are.
    (follows_and_keeps g.D.Disk.tape g.D.Disk.moment g.D.Disk.faults sysid es since hardened first steps are).promises follows

pub returns-clause-never_diverges : goal.returns-clause-never_diverges
returns-clause-never_diverges g c = λ sysid since hardened es old new bytes at follows comes diverged.
    never_diverges g.D.Disk.tape g.D.Disk.moment g.D.Disk.faults sysid es since hardened old new bytes at diverged comes follows
