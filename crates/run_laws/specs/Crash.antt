-- What a crash at any moment leaves of what was told, and how late receipts may be. Everywhere
-- `size` is the size of a segment in bytes, `opening` the disk's moment at the opening.
use Rattle.std.specs.Prelude.{◌≡◌, ℕ, ◌+◌, ◌*◌, ◌<◌, ◌≤◌, All, List, [], ◌∷◌, drop, length, take, Option, Some, None, IfSome, IsSomeAnd, option_map, slice_get}
use Rattle.std.specs.List.{Any}
use Rattle.segment_disk.specs.declared.disk.Call.{Call}
use Rattle.segment_disk.specs.declared.disk.CallKind.{CallKind}
use Rattle.segment_disk.specs.declared.disk.CallKind.TheVariants.{Create, Write, Sync}
use Rattle.segment_disk.specs.Tape.{Tape}
use Rattle.segment_disk.specs.DiskImage.{DiskImage, LeftAt, word_of}
use Rattle.wal_page.specs.Order.{Entry, finish_of}
use Rattle.wal_page.specs.Log.{owner_at}
use Rattle.segment_disk.specs.ImageWords.{zero_word}
use Rattle.wal_reader.specs.declared.found.Answer.{Answer}
use Rattle.wal_reader.specs.declared.found.FoundRecord.{FoundRecord}
use Rattle.wal_reader.specs.Pages.{pages_in}
use Rattle.wal_reader.specs.Decodes.{Decodes}
use Rattle.written_log_laws.specs.Torn.{NoTornPass}
use Rattle.written_log_laws.specs.Written.{found_from, found_of}
use Rattle.run_script.specs.Asked.{AskedLine}
use Rattle.run_laws.specs.declared.told.Told.{Told}
use Rattle.run_laws.specs.Told.{DurableTold, durable_told, entries_of}

-- ---- what was told is there

-- an answer says that by a moment all below an address is durable: a commit up to its record's end,
-- a flush, one behind too, up to the address that it names; a commit that is answered ahead says
-- nothing of it, and neither does a segment switch, nor a flush behind that found nothing to do: it
-- names no moment
abbrev pub SaysDurable : ℕ → ℕ → Told → Type 0
SaysDurable moment address told = IsSomeAnd (durable_told told)
    (λ (d : DurableTold). (d.moment ≤ moment) × (address ≤ d.upto.0))

-- records that were found are a front of the order, each whole, and in it is each entry that a
-- backend was told to be durable by this moment
pub record IsFrontWithTold (size moment : ℕ) (order : List Entry) (lists : List (List Told))
    (found : List FoundRecord) : Type 0 where
  pub count : ℕ
  pub front : found ≡ found_from size 0 (take count order)
  pub told : (n : ℕ) (e : Entry) → slice_get order n ≡ Some e
      → Any (Any (SaysDurable moment (finish_of size e))) lists → n < count

-- from the opening on, whatever a crash at a moment leaves decodes, from segment 1's start, to a
-- front of the order with all that was told durable by then; the premise is that no torn record
-- passes its CRC in what is left. Nothing is said of faults: it holds of a run that failed too
abbrev pub SurvivesCrashes : ℕ → ℕ → List Entry → List (List Told) → Tape → Type 0
SurvivesCrashes size opening order lists tape =
    (moment : ℕ) (image : DiskImage) → opening ≤ moment → LeftAt tape moment image
    → NoTornPass size (pages_in size image) order
    → (found : List FoundRecord) (answer : Answer)
    → Decodes size (pages_in size image) size None found answer
    → IsFrontWithTold size moment order lists found

-- ---- what the opening found is there

-- from the opening on, whatever a crash at a moment leaves decodes to records that begin with those
-- of the entries that the opening found, all of them; with the same premise, and of a run that
-- failed too
abbrev pub KeepsFound : ℕ → ℕ → List Entry → List Entry → Tape → Type 0
KeepsFound size opening order entries tape =
    (moment : ℕ) (image : DiskImage) → opening ≤ moment → LeftAt tape moment image
    → NoTornPass size (pages_in size image) order
    → (found : List FoundRecord) (answer : Answer)
    → Decodes size (pages_in size image) size None found answer
    → take (length entries) found ≡ found_of size entries

-- ---- no receipt is late

-- the moment that an answer names
abbrev pub moment_told : Told → Option ℕ
moment_told told = option_map (λ (d : DurableTold). d.moment) (durable_told told)

-- a call of this kind to a segment writes no word of an entry: a page that it writes holds 0
-- wherever the entry owns the word
abbrev pub WritesNoWord : ℕ → List Entry → Entry → ℕ → CallKind → Type 0
WritesNoWord size order e segment (Create made) = Unit {0}
WritesNoWord size order e segment (Write page bytes) = (n : ℕ) → n < 1024
    → owner_at size order (segment * size + page * 8192 + 8 * n) ≡ Some e
    → word_of bytes.bytes n ≡ zero_word
WritesNoWord size order e segment Sync = Unit {0}

abbrev pub WritesNone : ℕ → List Entry → Entry → Call → Type 0
WritesNone size order e call = WritesNoWord size order e call.segment call.kind

-- a moment is one of the disk's, and no call from the opening up to it writes a word of these
-- entries
pub record IsBefore (size opening : ℕ) (order : List Entry) (tape : Tape) (later : List Entry)
    (moment : ℕ) : Type 0 where
  pub passed : moment ≤ length tape.calls
  pub unwritten :
      All (λ e. All (WritesNone size order e) (drop opening (take moment tape.calls))) later

-- each moment that a backend was told comes before its later lines' records are written
abbrev pub NoneIsLate : ℕ → ℕ → List Entry → Tape → ℕ → List AskedLine → List Told → Type 0
NoneIsLate size opening order tape pass [] told = Unit {0}
NoneIsLate size opening order tape pass (line ∷ lines) [] = Unit {0}
NoneIsLate size opening order tape pass (line ∷ lines) (told ∷ others) =
    IfSome (moment_told told)
    (IsBefore size opening order tape (entries_of size pass lines others))
    × NoneIsLate size opening order tape pass lines others

-- so it is for each backend, the first of which has this pass
abbrev pub EachIsTimely : ℕ → ℕ → List Entry → Tape → ℕ → List (List AskedLine)
    → List (List Told) → Type 0
EachIsTimely size opening order tape pass [] told = Unit {0}
EachIsTimely size opening order tape pass (lines ∷ script) [] = Unit {0}
EachIsTimely size opening order tape pass (lines ∷ script) (told ∷ others) =
    NoneIsLate size opening order tape pass lines told
    × EachIsTimely size opening order tape (pass + 1) script others
