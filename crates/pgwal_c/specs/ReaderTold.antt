-- What the exported call of a reader tells: what the reader's own call says, by what was asked and
-- what was answered.
use Rattle.std.specs.Prelude.{◌≡◌, ℕ, ◌⊎◌, ◌<◌, ◌-◌, ◌≤◌, ◌==◌, min, slice_get, Bool, List, [], length, take, drop, Option, Some, None, IsSomeAnd, if◌then◌else◌}
use Rattle.segment_disk.specs.Tape.{DiskState, empty_state}
use Rattle.handed_pages.specs.Handed.{page_of_log}
use Rattle.handed_pages.specs.Reading.{HasReadLog, TellsNext}
use Rattle.handed_pages.specs.declared.reading.HandedReader.{HandedReader}
use Rattle.handed_pages.specs.declared.reading.NextRecord.{NextRecord}
use Rattle.handed_pages.specs.declared.reading.NextRecord.TheVariants.{End, Memory, Record, Stopped, Wants}
use Rattle.wal_reader.specs.declared.found.FoundRecord.{FoundRecord}
use Rattle.wal_reader.specs.declared.found.Stopped.{Stopped as StopOf}
use Rattle.wal_reader.specs.declared.found.Stopped.TheVariants.{Compressed, Damaged, Overwritten}
use Rattle.wal_types.specs.declared.record.Block.{Block}
use Rattle.wal_types.specs.declared.record.Image.{Image}
use Rattle.pgwal_c.specs.declared.answers.TheConstants.{DAMAGED, DONE, END_OF_LOG, MEMORY, MISUSE, WANTED}
use Rattle.pgwal_c.specs.declared.blocks.BlockCall.{BlockCall}
use Rattle.pgwal_c.specs.declared.reader_handle.ProgramLog.{ProgramLog}
use Rattle.pgwal_c.specs.declared.reader_handle.ReaderCall.{ReaderCall}
use Rattle.pgwal_c.specs.declared.reader_handle.ReaderHandle.{ReaderHandle}
use Rattle.pgwal_c.specs.declared.reader_handle.TheConstants.{BEGIN, BLOCK_DATA, CLOSE, DATA, HAND_IN, IMAGE, NEXT, TELL_BLOCK}

-- the log that the program reads: which it is no clause can say, and what is told holds of each
unfoldable pub program_log : DiskState
program_log = empty_state

abbrev pub ProgramReader : Type 0
ProgramReader = HandedReader ProgramLog

-- where a log stopped
abbrev pub stop_address : StopOf → ℕ
stop_address (Damaged at kind) = at.0
stop_address (Compressed at) = at.0
stop_address (Overwritten at) = at.0

-- this is told of a record: its place, its header, and how much it has
pub record TellsFound (next : FoundRecord) (told : ReaderCall) : Type 0 where
  pub start : told.start ≡ (next.head).start.0
  pub end : told.end ≡ (next.head).end.0
  pub prev : told.prev ≡ (next.head).prev.0
  pub total : told.total ≡ (next.head).total
  pub xid : told.xid ≡ (next.value).xid.0
  pub rmid : told.rmid ≡ (next.value).rmid
  pub info : told.info ≡ (next.value).info
  pub blocks : told.blocks ≡ length (next.value).blocks
  pub len : told.len ≡ length (next.value).main

-- what reading on came to is told, and a record is held
abbrev pub TellsReading : NextRecord → ReaderCall → ℕ → Option FoundRecord → Type 0
TellsReading (Record next) told answer held =
    (answer ≡ DONE) × (held ≡ Some next) × TellsFound next told
TellsReading (End at) told answer held = (answer ≡ END_OF_LOG) × (told.end ≡ at.0)
TellsReading (Wants number) told answer held =
    (answer ≡ WANTED) × (told.segment ≡ number.segment) × (told.page ≡ number.page)
TellsReading (Stopped stop) told answer held =
    (answer ≡ DAMAGED) × (told.start ≡ stop_address stop)
TellsReading Memory told answer held = answer ≡ MEMORY

-- reading on: it is told what the log's next record is, or how it ends, whatever was read before
pub record ReadsTold (told : ReaderCall) (answer : ℕ) (held : Option FoundRecord)
    (old new : ProgramReader) : Type 0 where
  pub next : NextRecord
  pub tells : TellsReading next told answer held
  pub reads : (size start : ℕ) (found : List FoundRecord)
      → HasReadLog program_log size start found old
      → TellsNext program_log size start found new next

-- the page that is handed in, if it is there
abbrev pub page_handed : ReaderCall → Option (List ℕ)
page_handed asked = if asked.there == 0 then None else Some asked.bytes

-- a page that the log has, or that it has none such, changes nothing of what was read
pub record HandsTold (asked : ReaderCall) (old new : ProgramReader) : Type 0 where
  pub reads : (size start : ℕ) (found : List FoundRecord)
      → HasReadLog program_log size start found old
      → page_of_log program_log (record { segment = asked.segment; page = asked.page })
      ≡ page_handed asked
      → HasReadLog program_log size start found new

-- a piece of bytes is told, from the offset on: what of it fits into a page
pub record TellsPiece (bytes : List ℕ) (asked told : ReaderCall) : Type 0 where
  pub within : asked.offset ≤ length bytes
  pub len : told.len ≡ min (length bytes - asked.offset) 8192
  pub piece : take told.len told.bytes ≡ take told.len (drop asked.offset bytes)

-- a yes is told as 1, a no as 0
abbrev pub told_as_number : Bool → ℕ
told_as_number b = if b then 1 else 0

abbrev pub TellsImage : Option Image → BlockCall → Type 0
TellsImage None told = told.has_image ≡ 0
TellsImage (Some i) told =
    (told.has_image ≡ 1) × (told.apply ≡ told_as_number i.apply)
    × (told.hole_offset ≡ i.hole_offset) × (told.hole_len ≡ i.hole_len)
    × (told.image_len ≡ length i.bytes)

-- this is told of a block: its reference, and how much it has
pub record TellsBlock (b : Block) (told : BlockCall) : Type 0 where
  pub id : told.id ≡ b.id
  pub relation : record { spc = told.spc; db = told.db; rel = told.rel } ≡ b.rel
  pub fork : told.fork ≡ b.fork
  pub blk : told.blk ≡ b.blk
  pub will_init : told.will_init ≡ told_as_number b.will_init
  pub len : told.len ≡ length b.content
  pub image : TellsImage b.image told

-- a block is asked for, or a piece of it
abbrev pub AsksOfBlock : ℕ → Type 0
AsksOfBlock asked = (asked ≡ TELL_BLOCK) ⊎ (asked ≡ BLOCK_DATA) ⊎ (asked ≡ IMAGE)

-- what is told of a block: a piece of its data or of its image, or else the block itself
pub record TellsOfBlock (b : Block) (asked told : ReaderCall) : Type 0 where
  pub content : asked.asked ≡ BLOCK_DATA → TellsPiece b.content asked told
  pub image : asked.asked ≡ IMAGE → IsSomeAnd b.image (λ i. TellsPiece i.bytes asked told)
  pub block : asked.asked ≡ TELL_BLOCK → TellsBlock b told.block

-- this holds of the record's block of this index, counted from 0 on
abbrev pub HoldsOfBlock : (Block → Type 0) → ℕ → Option FoundRecord → Type 0
HoldsOfBlock P index held = IsSomeAnd held (λ found.
    (b : Block) × (slice_get (found.value).blocks index ≡ Some b) × P b)

-- this holds of the reader before and behind a call, if reading has begun; else it is answered that
-- the call has no meaning
abbrev pub HoldsOfReader : (ProgramReader → ProgramReader → Type 0) → ℕ → Option ProgramReader
    → Option ProgramReader → Type 0
HoldsOfReader P answer None new = (answer ≡ MISUSE) × (new ≡ None)
HoldsOfReader P answer (Some r) None = ⊥
HoldsOfReader P answer (Some r) (Some s) = P r s

-- what a reader's call tells: the reader before and behind it, the call as it was handed in and as
-- it came back, and the answer
pub record TellsReaderCall (old new : ReaderHandle) (asked told : ReaderCall) (answer : ℕ)
    : Type 0 where
  pub begin : asked.asked ≡ BEGIN → answer ≡ DONE
      → IsSomeAnd new.reader (λ r. HasReadLog program_log asked.seg_size asked.start [] r)
  pub next : asked.asked ≡ NEXT
      → HoldsOfReader (ReadsTold told answer new.found) answer old.reader new.reader
  pub hand_in : asked.asked ≡ HAND_IN
      → HoldsOfReader (HandsTold asked) answer old.reader new.reader
  pub piece : asked.asked ≡ DATA → answer ≡ DONE
      → IsSomeAnd old.found (λ found. TellsPiece (found.value).main asked told)
  pub block : AsksOfBlock asked.asked → answer ≡ DONE
      → HoldsOfBlock (λ b. TellsOfBlock b asked told) asked.index old.found
  pub close : asked.asked ≡ CLOSE
      → (answer ≡ DONE) × (new.reader ≡ None) × (new.found ≡ None)
  pub other : IMAGE < asked.asked → (answer ≡ MISUSE) × (new ≡ old)
