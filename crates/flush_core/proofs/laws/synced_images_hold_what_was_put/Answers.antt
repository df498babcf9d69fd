-- A crash leaves each segment to which no write waits for a sync as it is.
use Rattle.flush_core.proofs.PutLaws.{HoldsPages-left}
use Rattle.flush_core.proofs.laws.synced_images_hold_what_was_put.Goals as goal

pub returns : goal.returns
returns c = HoldsPages-left
