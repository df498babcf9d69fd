-- The headers of a record's items, as far as they can be told without the payload behind them.
use Rattle.std.specs.Prelude.{◌≡◌, ℕ, ◌+◌, ◌^◌, ◌<◌, ◌≤◌, Bool, List, [], ◌∷◌, ◌++◌, Option, Some, None, IfSome, nat_lt, if◌then◌else◌}
use Rattle.std.specs.Bool.{MatchBool, OnTrue}
use Rattle.std.specs.Int.{Width, w16, w32, to_le_bytes}
use Rattle.wal_types.specs.declared.record.Rel.{Rel}
use Rattle.wal_record.specs.declared.head.BlockHead.{BlockHead}
use Rattle.wal_record.specs.declared.head.ImageHead.{ImageHead}
use Rattle.wal_spelling.specs.Layout.{data_page_size, last_block_id, last_fork, origin_tag, top_xid_tag}
use Rattle.wal_spelling.specs.Spelling.{flag, relation_bytes}
use Rattle.wal_record.specs.Reading.{least_id}

-- ---- a block's header

-- the bit of a fork byte that tells an image
abbrev pub image_flag : Option ImageHead → ℕ
image_flag None = 0
image_flag (Some i) = 16

abbrev pub image_head_text : Option ImageHead → List ℕ
image_head_text None = []
image_head_text (Some i) =
    to_le_bytes w16 i.len
    ++ to_le_bytes w16 i.hole_offset
    ++ (flag (nat_lt 0 i.hole_len) 1 + flag i.apply 2) ∷ []

-- the fork with its flags
abbrev pub flagged_fork : Bool → BlockHead → ℕ
flagged_fork same h =
    h.fork
    + image_flag h.image
    + flag (nat_lt 0 h.content_len) 32
    + flag h.will_init 64
    + flag same 128

-- a block's header, with its relation left out (as that of the block before) or spelled
abbrev pub head_text : Bool → BlockHead → List ℕ
head_text same h =
    h.id ∷ flagged_fork same h ∷ to_le_bytes w16 h.content_len
    ++ image_head_text h.image
    ++ (if same then [] else relation_bytes h.rel)
    ++ to_le_bytes w32 h.blk

-- an image is that of a page; a hole is not at the page's start
pub record IsPageImage (i : ImageHead) : Type 0 where
  pub page : i.len + i.hole_len ≡ data_page_size
  pub hole :
      MatchBool (nat_lt 0 i.hole_len)
      ((0 < i.hole_offset) × (i.hole_offset + i.hole_len ≤ data_page_size))
      (i.hole_offset ≡ 0)

-- the relation may be left out just where the block before has it
abbrev pub HasRelation : Option BlockHead → Rel → Type 0
HasRelation None rel = ⊥
HasRelation (Some before) rel = before.rel ≡ rel

-- a block's header may stand behind another
pub record StandsBehind (before : Option BlockHead) (same : Bool) (h : BlockHead) : Type 0 where
  pub above : least_id before ≤ h.id
  pub id : h.id ≤ last_block_id
  pub fork : h.fork ≤ last_fork
  pub content : h.content_len < 2 ^ 16
  pub image : IfSome h.image IsPageImage
  pub tablespace : h.rel.spc < 2 ^ 32
  pub database : h.rel.db < 2 ^ 32
  pub relation : h.rel.rel < 2 ^ 32
  pub number : h.blk < 2 ^ 32
  pub relation_before : OnTrue same (HasRelation before h.rel)

-- these bytes spell headers of blocks, behind the one before
abbrev pub SpellsHeads : Option BlockHead → List BlockHead → List ℕ → Type 0
SpellsHeads before [] text = text ≡ []
SpellsHeads before (h ∷ hs) text =
    (same : Bool)
    × ((rest : List ℕ)
    × ((text ≡ head_text same h ++ rest)
    × (StandsBehind before same h × SpellsHeads (Some h) hs rest)))

-- ---- the items

-- an item of a tag and a number
abbrev pub item_text : ℕ → Width → Option ℕ → List ℕ
item_text tag w None = []
item_text tag w (Some n) = tag ∷ to_le_bytes w n

-- whole items, none of them a header of main data
pub record Items : Type 0 where
  pub blocks : List BlockHead
  pub origin : Option ℕ
  pub top_xid : Option ℕ

pub record SpellsItems (items : Items) (text : List ℕ) : Type 0 where
  pub heads : List ℕ
  pub heads_spelled : SpellsHeads None items.blocks heads
  pub origin : IfSome items.origin (λ n. n < 2 ^ 16)
  pub top_xid : IfSome items.top_xid (λ n. n < 2 ^ 32)
  pub spelled :
      text
      ≡ heads
      ++ item_text origin_tag w16 items.origin
      ++ item_text top_xid_tag w32 items.top_xid
