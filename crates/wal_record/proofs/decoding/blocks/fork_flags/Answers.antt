use Rattle.wal_record.proofs.FlagBits.{fork_flags-bits}
use Rattle.wal_record.proofs.decoding.blocks.fork_flags.Goals as goal

pub returns : goal.returns
returns c = fork_flags-bits c.args.byte c.ranges.byte.fits
