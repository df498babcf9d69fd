-- A step of a log's reader, as the pages that it reads give it.
use Rattle.std.specs.Prelude.{IfOk, Result}
use Rattle.wal_reader.specs.declared.log_reader.Reader.{Reader}
use Rattle.wal_reader.specs.declared.standing.ReadErr.{ReadErr}
use Rattle.wal_reader.specs.declared.standing.Step.{Step}
use Rattle.wal_reader.specs.LogReader.{IsNext, Knows, reader_room, reader_state}
use Rattle.wal_reader.specs.Pages.{Pages}
use Rattle.wal_reader.specs.RecordRead.{IsRoomAfterStep}
use Rattle.wal_reader.specs.Spelled.{GivesSpelledIn}

-- a step is the next of what these pages give, and a record that is given is spelled by its bytes
-- in them; the page that is held is one of them still, and the room has nothing but first bytes of
-- one record, of pages that passed
pub record IsStepIn (pages : Pages) (old new : Reader) (result : Result Step ReadErr)
    : Type 0 where
  pub knows : Knows new pages
  pub next : IsNext pages (reader_state old) (reader_state new) result
  pub spelled : IfOk result (GivesSpelledIn (reader_state old).size pages)
  pub room : IsRoomAfterStep (reader_state old).size pages (reader_room old) (reader_room new)
