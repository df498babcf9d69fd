-- It owns nothing, so threads may share it.
use denote.Param.Send.{IsSync, part_keyless}
use Rattle.hosted_disk.specs.contracts.held_first.HeldFirst.{the_row}
use Rattle.hosted_disk.proofs.held_first.HeldFirst.TheSendSync.Send.{send}

pub sync : IsSync the_row
sync = record { shared = λ d b o κ q. part_keyless the_row send q d b o }
