-- The front of the frame is what the source gave so far.
use Rattle.std.proofs.Common.{◌-◌, ◌≤◌, length, take}
use Rattle.wal_stream.specs.Fetched.{source_state}
use Rattle.wal_stream.proofs.FetchLaws.{HasFetched}
use Rattle.wal_stream.proofs.fetching.fetch.Given as goal

abbrev pub invariant-loop-have : goal.invariant-loop-have
invariant-loop-have g l =
    HasFetched (source_state g.S.Source.left g.S.Source.handed g.S.Source.ends_told g.S.Source.faults l.fn.source)
    (source_state g.S.Source.left g.S.Source.handed g.S.Source.ends_told g.S.Source.faults l.source) (take l.have l.frame)
    × (l.have ≤ length l.frame)

abbrev pub decreases-loop-have : goal.decreases-loop-have
decreases-loop-have g l = length l.initial.frame - l.have
