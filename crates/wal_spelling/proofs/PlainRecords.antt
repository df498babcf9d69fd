-- A record of main data alone.
use Rattle.std.proofs.Common.{ℕ, ◌<◌, List, All}
use Rattle.std.proofs.lemmas.List.Elements.{All-nil}
use Rattle.wal_types.specs.declared.record.Xid.{Xid}
use Rattle.wal_spelling.specs.Fitting.{FitsAfterHeader}
use Rattle.wal_spelling.specs.Record.{BlockFits, plain_record}

-- all of it that stands behind the header is its main data
pub plain_fits : (xid : Xid) (rmid info : ℕ) (main : List ℕ) → All (λ b. b < 256) main → FitsAfterHeader (plain_record xid rmid info main)
plain_fits xid rmid info main fits = (tt, tt, fits, All-nil BlockFits)
