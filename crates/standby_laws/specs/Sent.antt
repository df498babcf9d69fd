-- What a primary sends: frames of its log, which no crash takes back from it.
--
-- A primary's disk holds the log of an order, crashed or not (`WasLeft`), and `send` reads it to
-- its last record and syncs it before it puts a frame. So what it puts are frames of that order's
-- log, up to the end of what was read; and from the moment on at which it returns each crash leaves
-- the log up to there.
--
-- One commit: with segments of 1 MiB the log starts at address 1048576; behind a header of 40 bytes
-- comes a record of 34, and it ends at 1048656, the next multiple of 8. One frame is put: page 128
-- up to 1048656, so the log's first 10 words, and then zeros. Whatever a crash leaves from then on
-- has these words.
use Rattle.std.specs.Prelude.{◌≡◌, ℕ, ◌≤◌, ◌⊎◌, ◌++◌, All, Contains, List, length, take, Option, Some, Result, Ok, Err}
use Rattle.byte_position.specs.Position.{end_address_of}
use Rattle.segment_disk.specs.Tape.{Tape}
use Rattle.wal_page.specs.Order.{Entry, end_position}
use Rattle.wal_reader.specs.declared.found.FoundRecord.{FoundRecord}
use Rattle.written_log_laws.specs.FoundLog.{end_behind}
use Rattle.wal_stream.specs.FollowedLog.{IsLogOrder}
use Rattle.wal_stream.specs.Frame.{IsFrameOfLog}
use Rattle.wal_stream.specs.Sending.{IsSending}
use Rattle.wal_stream.specs.declared.fault.SendErr.{SendErr}
use Rattle.wal_stream.specs.declared.fault.SendErr.TheVariants.{Read, Sink}
use Rattle.wal_stream.specs.Fetched.{SourceState, frames_in}
use Rattle.wal_stream.specs.Sent.{HandsOutLog}
use Rattle.reopened_log_laws.specs.WasLeft.{WasLeft}
use Rattle.standby_laws.specs.Later.{IsHardenedUpto}

-- each whole piece of what a sink took, where it tells that, is a frame of an order's log up to an
-- address; some first entries end there, or the log starts there. Each crash of a disk from a
-- moment on leaves the log up to there
pub record SendsLog (size sysid : ℕ) (es : List Entry) (since upto : ℕ) (tape : Tape)
    (old new : Option (List ℕ)) : Type 0 where
  pub order : IsLogOrder size sysid es
  pub count : ℕ
  pub within : count ≤ length es
  pub upto_is : upto ≡ end_address_of size (end_position size (take count es))
  pub hardened : IsHardenedUpto size sysid es since upto tape
  pub frames : (before bytes : List ℕ) → old ≡ Some before → new ≡ Some (before ++ bytes)
      → All (IsFrameOfLog size sysid es upto) (frames_in bytes)

-- .. or, where the log or a page of it could not be read, it may be that nothing was put
abbrev pub HasSentLog : ℕ → ℕ → List Entry → ℕ → ℕ → Tape → Option (List ℕ) → Option (List ℕ)
    → Result ℕ SendErr → Type 0
HasSentLog size sysid es since upto tape old new (Ok count) =
    SendsLog size sysid es since upto tape old new
HasSentLog size sysid es since upto tape old new (Err (Sink fault)) =
    SendsLog size sysid es since upto tape old new
HasSentLog size sysid es since upto tape old new (Err (Read error)) =
    (new ≡ old) ⊎ SendsLog size sysid es since upto tape old new

-- of a disk that this program left with the log of an order, `send` puts frames of that log, up to
-- the end of what is read of it, and hardens it up to there before the first one
abbrev pub SentFramesAreOfLog : Type 0
SentFramesAreOfLog =
    (size sysid from moment moment_after : ℕ) (t after : Tape) (found : List FoundRecord)
    (old new : Option (List ℕ)) (result : Result ℕ SendErr)
    → (left : WasLeft size sysid t found)
    → IsSending size from (Some t) (Some after) moment moment_after old new result
    → HasSentLog size sysid left.order moment_after (end_behind size found) after old new result

-- ---- what comes of them over a link

-- each piece of 8,224 bytes that a source hands out in between is one of these: they may come in
-- any order, again, or not at all, and the last one may be cut short
abbrev pub HandsOutPieces : List (List ℕ) → SourceState → SourceState → Type 0
HandsOutPieces pieces before after =
    (bytes : List ℕ) → after.handed ≡ before.handed ++ bytes
    → All (Contains pieces) (frames_in bytes)

-- so a source that hands out frames of a log hands out that log
abbrev pub SentFramesComeOfLog : Type 0
SentFramesComeOfLog =
    (size sysid upto : ℕ) (es : List Entry) (pieces : List (List ℕ)) (before after : SourceState)
    → All (IsFrameOfLog size sysid es upto) pieces → HandsOutPieces pieces before after
    → HandsOutLog size sysid es upto before after
