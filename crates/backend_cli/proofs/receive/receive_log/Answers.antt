use Rattle.std.proofs.Common.{inr}
use Rattle.backend_cli.proofs.receive.receive_log.Goals as goal

pub returns-in-Ok : goal.returns-in-Ok
returns-in-Ok g c = (
  inr (record {
    first = c.in-Ok.standby;
    opened = c.in-Ok.ensures.stands;
    feeds = c.feed-outcome.ensures;
  }),
  c.none.ensures,
)
