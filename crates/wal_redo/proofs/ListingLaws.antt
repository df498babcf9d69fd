-- The store of a log that was redone, and what is listed of it.
use Rattle.std.proofs.Common.{◌≡◌, ℕ, List, [], Option, Some, None, Ok, Err, refl, ap, ◌∙◌}
use Rattle.std.specs.Prelude.{IfSome}
use Rattle.std.specs.List.Sorted.{IsStrictlySortedBy}
use Rattle.std.specs.Map.{keys_of, lookup}
use Rattle.segment_disk.specs.Tape.{Tape}
use Rattle.waldump_text.specs.Put.{Puts}
use Rattle.waldump_text.specs.declared.dumping.DumpErr.TheVariants.{Sink}
use Rattle.waldump_text.specs.declared.putting.SinkFault.{SinkFault}
use Rattle.wal_redo.specs.declared.block_id.BlockId.{BlockId}
use Rattle.wal_redo.specs.BlockMap.{BlockMap, PagePut, last_put, told_behind}
use Rattle.wal_redo.specs.BlockOrder.{block_order, is_block}
use Rattle.wal_redo.specs.Images.{puts_in}
use Rattle.wal_redo.specs.Redo.{IsRedo}
use Rattle.wal_redo.proofs.BlockMapLaws.{or_else-none}
use Rattle.wal_redo.specs.RedoText.{redo_text}
use Rattle.wal_redo.specs.RedoListing.{IsRedoListing, IsRedoText, ListsBlocks}

-- what a store tells that has these entries
abbrev pub told_of : List (BlockId × List ℕ) → Option BlockMap
told_of entries = Some (λ block. lookup (is_block block) entries)

same_map : (one two : BlockMap) → Some one ≡ Some two → one ≡ two
same_map one two same = cc

-- a store that was empty has just what was put
pub ListsBlocks-put : (before entries : List (BlockId × List ℕ)) (puts : List PagePut) → before ≡ [] → told_of entries ≡ told_behind (told_of before) puts → IsStrictlySortedBy block_order (keys_of entries) → ListsBlocks (last_put puts) entries
ListsBlocks-put before entries puts empty told ordered =
    let behind = told ∙ ap (λ (held : List (BlockId × List ℕ)). told_behind (told_of held) puts) empty in
    let same = same_map _ _ behind in
    record { ordered = ordered; exact = λ block. ap (λ (pages : BlockMap). pages block) same ∙ or_else-none (last_put puts block) }

module _ (size start : ℕ) (before entries : List (BlockId × List ℕ)) (empty : before ≡ []) (ordered : IsStrictlySortedBy block_order (keys_of entries)) where
  text_of : (t : Tape) (images : ℕ) → IsRedo size start (told_of before) (told_of entries) (Ok images) t → IsRedoText size start t images (redo_text entries images)
  text_of t images redone = record {
    found = redone.found;
    at = redone.at;
    decodes = redone.decodes;
    images_is = redone.puts.count_is;
    entries = entries;
    lists = ListsBlocks-put before entries (puts_in redone.found) empty redone.puts.put ordered;
    text_is = refl;
  }

  pub listed_all : (old new : Option (List ℕ)) (faults faults_after : ℕ) (tape : Option Tape) (images : ℕ) → IfSome tape (IsRedo size start (told_of before) (told_of entries) (Ok images)) → Puts old new faults faults_after (redo_text entries images) (Ok tt)
      → IfSome tape (IsRedoListing size start old new (Ok images))
  listed_all old new faults faults_after None images redone put = tt
  listed_all old new faults faults_after (Some t) images redone put = record { text = redo_text entries images; is = text_of t images redone; put = put.0 }

  pub listed_front : (old new : Option (List ℕ)) (faults faults_after : ℕ) (tape : Option Tape) (images : ℕ) (fault : SinkFault) → IfSome tape (IsRedo size start (told_of before) (told_of entries) (Ok images)) → Puts old new faults faults_after (redo_text entries images) (Err fault)
      → IfSome tape (IsRedoListing size start old new (Err (Sink fault)))
  listed_front old new faults faults_after None images fault redone put = tt
  listed_front old new faults faults_after (Some t) images fault redone put = record { images = images; text = redo_text entries images; is = text_of t images redone; count = put.0.0; put = put.0.1 }
