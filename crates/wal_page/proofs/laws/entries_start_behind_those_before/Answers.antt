use Rattle.wal_page.proofs.OrderLaws.{FollowsFrom-start, FollowsFrom-rises}
use Rattle.wal_page.proofs.laws.entries_start_behind_those_before.Goals as goal

pub returns : goal.returns
returns c = record {
  start = FollowsFrom-start;
  apart = λ size position es chain i j d before within. (FollowsFrom-rises size position es chain i j d before within).0;
  rise = λ size position es chain i j d before within. (FollowsFrom-rises size position es chain i j d before within).1;
}
