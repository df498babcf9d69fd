-- That a commit is found where its log is reopened.
use Rattle.std.specs.Prelude.{◌≡◌, ℕ, Contains, List, Option, Some}
use Rattle.wal_spelling.specs.Spelling.{Assembled, assembled}
use Rattle.wal_types.specs.declared.answers.Sealed.{Sealed}
use Rattle.segment_disk.specs.DiskImage.{image_as_read}
use Rattle.segment_disk.specs.Tape.{Tape, state_now}
use Rattle.wal_page.specs.Order.{Entry}
use Rattle.wal_reader.specs.declared.found.FoundRecord.{FoundRecord}
use Rattle.wal_reader.specs.Pages.{pages_in}
use Rattle.written_log_laws.specs.Torn.{NoTornPass}
use Rattle.written_log_laws.specs.Written.{found_of}
use Rattle.machine_state.specs.declared.setup.Setup.{Setup}
use Rattle.machine_laws.specs.WholeOrders.{LiesBehind}
use Rattle.wal_rule.specs.declared.pass.Pass.{Pass}
use Rattle.wal_log.specs.declared.closing.Closed.{Closed}
use Rattle.wal_log.specs.declared.reopening.Found.{Found}
use Rattle.wal_log.specs.declared.wal.Wal.{Wal}
use Rattle.wal_log.specs.Closing.{ClosesLog}
use Rattle.wal_log.specs.Logs.{opening_of_log}
use Rattle.wal_log.specs.Reopening.{IsReopened}
use Rattle.reopened_log_laws.specs.FoundFirst.{AreFoundEntries}
use Rattle.wal_log_laws.specs.History.{order_of}

-- a log was closed, and reopened on the disk that came back, which told this tape then; the closed
-- order has a commit's record, at the place that this told. If no torn record passed its CRC as the
-- disk was read then, the entries of the records that the reader finds there lie below the place of
-- the reopening, and have it too
pub record FindsCommit {D : Type 0} (tape : D → Option Tape) (moment faults : D → ℕ)
    (setup : Setup) (body : Assembled) (again : Wal D) (first : Pass) (met : Found)
    (sealed : Sealed) : Type 0 where
  pub wal : Wal D
  pub pass : Pass
  pub closed : Closed D
  pub closes : ClosesLog tape moment faults wal pass closed
  pub reopened : IsReopened tape moment faults setup closed.disk again first met
  pub now : Tape
  pub told : tape closed.disk ≡ Some now
  pub commit : FoundRecord
  pub start_is : commit.head.start.0 ≡ sealed.start.0
  pub end_is : commit.head.end.0 ≡ sealed.end.0
  pub body_is : assembled commit.value ≡ body
  pub in_order : Contains (found_of setup.seg_size
      (order_of tape moment faults wal pass closed closes)) commit
  pub found : NoTornPass setup.seg_size
      (pages_in setup.seg_size (image_as_read (state_now now)))
      (order_of tape moment faults wal pass closed closes)
      → (front : List Entry) × AreFoundEntries setup.seg_size now front
      × LiesBehind (opening_of_log again) front
      × Contains (found_of setup.seg_size front) commit
