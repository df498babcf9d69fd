-- What of a record and of its blocks fits its fields: what is spelled, part by part.
use Rattle.std.specs.Prelude.{◌^◌, ◌<◌, All, IfSome}
use Rattle.wal_types.specs.declared.record.Block.{Block}
use Rattle.wal_types.specs.declared.record.Record.{Record}
use Rattle.wal_spelling.specs.Record.{BlockFits, NumbersFit}

-- the numbers that a block's header spells
pub record HeaderFits (b : Block) : Type 0 where
  pub numbers : NumbersFit b
  pub hole : IfSome b.image (λ i. (i.hole_offset < 2 ^ 16) × (i.hole_len < 2 ^ 16))

-- the bytes of a block's image and of its data
pub record PayloadFits (b : Block) : Type 0 where
  pub image : IfSome b.image (λ i. All (λ n. n < 256) i.bytes)
  pub content : All (λ n. n < 256) b.content

-- all of a record that stands behind its header
abbrev pub FitsAfterHeader : Record → Type 0
FitsAfterHeader r =
    IfSome r.origin (λ n. n < 2 ^ 16)
    × IfSome r.top_xid (λ x. x.0 < 2 ^ 32)
    × All (λ b. b < 256) r.main
    × All BlockFits r.blocks
