use Rattle.wal_page.proofs.Flags.{flag_test}
use Rattle.wal_page.proofs.checks.PageInfo.is_long.Goals as goal

pub returns : goal.returns
returns c = flag_test c.args.self.now.info 1
