use Rattle.wal_record.proofs.FlagBits.{image_flags-bits}
use Rattle.wal_record.proofs.decoding.blocks.image_flags.Goals as goal

pub returns : goal.returns
returns c = image_flags-bits c.args.byte c.ranges.byte.fits
