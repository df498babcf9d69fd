-- What the first blocks of a record put, and what the next one puts behind them.
use Rattle.std.proofs.Common.{◌≡◌, ◌+◌, ◌<◌, ℕ, List, [], ◌∷◌, ◌++◌, length, take, drop, get_or, sym, ap, ◌∙◌, append_assoc}
use Rattle.std.proofs.lemmas.Grind.{flat_map-append}
use Rattle.std.proofs.lemmas.List.{append-nil, take_more}
use Rattle.std.proofs.Math.ListN.{take-append-drop}
use Rattle.wal_types.specs.declared.record.Block.{Block}
use Rattle.wal_redo.specs.Images.{block_named, put_of, puts_of}
use Rattle.wal_redo.specs.BlockMap.{PagePut}

-- what one block puts
abbrev put_by : Block → List PagePut
put_by b = put_of (block_named b) b.image

module _ (blocks : List Block) (i : ℕ) (b : Block) (within : i < length blocks) (is : b ≡ get_or blocks i b) where
  pub puts_of-more : puts_of (take (i + 1) blocks) ≡ puts_of (take i blocks) ++ put_by b
  puts_of-more =
      ap puts_of (take_more blocks i b within ∙ ap (λ (x : Block). take i blocks ++ x ∷ []) (sym is))
      ∙ flat_map-append put_by (take i blocks) (b ∷ [])
      ∙ ap (λ (puts : List PagePut). puts_of (take i blocks) ++ puts) (append-nil (put_by b))

  pub puts_of-at : puts_of blocks ≡ puts_of (take i blocks) ++ (put_by b ++ puts_of (drop (i + 1) blocks))
  puts_of-at =
      ap puts_of (sym (take-append-drop (i + 1) blocks))
      ∙ flat_map-append put_by (take (i + 1) blocks) (drop (i + 1) blocks)
      ∙ ap (λ (puts : List PagePut). puts ++ puts_of (drop (i + 1) blocks)) puts_of-more
      ∙ append_assoc (puts_of (take i blocks)) (put_by b) (puts_of (drop (i + 1) blocks))
