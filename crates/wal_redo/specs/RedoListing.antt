-- What a redo that is listed puts, and how it ends.
use Rattle.std.specs.Prelude.{◌≡◌, ℕ, List, length, take, Option, None, Result, Ok, Err}
use Rattle.std.specs.List.Sorted.{IsStrictlySortedBy}
use Rattle.std.specs.Map.{keys_of, lookup}
use Rattle.segment_disk.specs.Stream.{with_behind}
use Rattle.segment_disk.specs.Tape.{Tape}
use Rattle.wal_types.specs.declared.lsn.Lsn.{Lsn}
use Rattle.wal_reader.specs.Cache.{log_of}
use Rattle.wal_reader.specs.Decodes.{Decodes}
use Rattle.wal_reader.specs.declared.found.FoundRecord.{FoundRecord}
use Rattle.wal_reader.specs.declared.found.Answer.TheVariants as answers
use Rattle.wal_reader.specs.declared.found.Stopped.{Stopped as LogStop}
use Rattle.wal_reader.specs.declared.standing.ReadErr.TheVariants as reading
use Rattle.waldump_text.specs.declared.dumping.DumpErr.{DumpErr}
use Rattle.waldump_text.specs.declared.dumping.DumpErr.TheVariants.{Read, Sink}
use Rattle.wal_redo.specs.declared.block_id.BlockId.{BlockId}
use Rattle.wal_redo.specs.declared.redoing.RedoErr.{RedoErr}
use Rattle.wal_redo.specs.declared.redoing.RedoErr.TheVariants as redoing
use Rattle.wal_redo.specs.BlockMap.{BlockMap, last_put}
use Rattle.wal_redo.specs.BlockOrder.{block_order, is_block}
use Rattle.wal_redo.specs.Images.{puts_in}
use Rattle.wal_redo.specs.RedoText.{redo_text}

-- these are the blocks that have a page, in their order, and their pages
pub record ListsBlocks (pages : BlockMap) (entries : List (BlockId × List ℕ)) : Type 0 where
  pub ordered : IsStrictlySortedBy block_order (keys_of entries)
  pub exact : (block : BlockId) → lookup (is_block block) entries ≡ pages block

-- the text of a log that comes to a clean end: of each block the last image that the log puts in
-- its place, and how many images it puts
pub record IsRedoText (size start : ℕ) (t : Tape) (images : ℕ) (text : List ℕ) : Type 0 where
  pub found : List FoundRecord
  pub at : Lsn
  pub decodes : Decodes size (log_of t size) start None found (answers.End at)
  pub images_is : images ≡ length (puts_in found)
  pub entries : List (BlockId × List ℕ)
  pub lists : ListsBlocks (last_put (puts_in found)) entries
  pub text_is : text ≡ redo_text entries images

-- the whole text is put
pub record ListsRedo (size start : ℕ) (t : Tape) (old new : Option (List ℕ)) (images : ℕ)
    : Type 0 where
  pub text : List ℕ
  pub is : IsRedoText size start t images text
  pub put : new ≡ with_behind old text

-- a front of it is put
pub record ListsRedoFront (size start : ℕ) (t : Tape) (old new : Option (List ℕ)) : Type 0 where
  pub images : ℕ
  pub text : List ℕ
  pub is : IsRedoText size start t images text
  pub count : ℕ
  pub put : new ≡ with_behind old (take count text)

-- the log comes to no clean end, and nothing is put
pub record ListsNoRedo (size start : ℕ) (t : Tape) (old new : Option (List ℕ)) (stop : LogStop)
    : Type 0 where
  pub found : List FoundRecord
  pub decodes : Decodes size (log_of t size) start None found (answers.Stopped stop)
  pub unput : new ≡ old

-- what is put, by how the redo ended
abbrev pub IsRedoListing : ℕ → ℕ → Option (List ℕ) → Option (List ℕ) → Result ℕ DumpErr → Tape
    → Type 0
IsRedoListing size start old new (Ok images) t = ListsRedo size start t old new images
IsRedoListing size start old new (Err (Read (reading.Stopped stop))) t =
    ListsNoRedo size start t old new stop
IsRedoListing size start old new (Err (Read reading.Memory)) t = new ≡ old
IsRedoListing size start old new (Err (Read (reading.Disk faults))) t = new ≡ old
IsRedoListing size start old new (Err (Sink fault)) t = ListsRedoFront size start t old new

-- why nothing is listed: of a store that fails at no put there is no fault
abbrev pub unlisted : RedoErr → DumpErr
unlisted redoing.Memory = Read reading.Memory
unlisted (redoing.Disk faults) = Read (reading.Disk faults)
unlisted (redoing.Stopped stop) = Read (reading.Stopped stop)
unlisted (redoing.Store faults) = Read (reading.Disk faults)
