-- What a program may count on of a record that it was told to be durable.
use Rattle.std.specs.Prelude.{◌≡◌, ◌<◌, ◌≤◌, ◌^◌, List, Some}
use Rattle.segment_disk.specs.Tape.{Tape}
use Rattle.hosted_disk.specs.Hosted.{hosted_tape}
use Rattle.hosted_disk.specs.declared.disk.HostedDisk.{HostedDisk}
use Rattle.wal_spelling.specs.Spelling.{Assembled}
use Rattle.wal_page.specs.Order.{Entry}
use Rattle.wal_types.specs.declared.answers.Hard.{Hard}
use Rattle.wal_types.specs.declared.answers.Receipt.{Receipt}
use Rattle.machine_state.specs.declared.setup.Setup.{Setup}
use Rattle.machine_state.specs.Views.{View}
use Rattle.wal_rule.specs.Passes.{view_of_pass}
use Rattle.wal_log.specs.declared.closing.Closed.{Closed}
use Rattle.wal_log.specs.PassLogs.{PassLog, log_of_pass}
use Rattle.wal_log_laws.specs.Growing.{GrowsTo, HasGrown}
use Rattle.wal_log_laws.specs.Surviving.{Survives}
use Rattle.embedded_log.specs.Appended.{IsAppended}
use Rattle.embedded_log.specs.Opened.{ClosesSession, OpensSession}
use Rattle.embedded_log.specs.Promised.{IsPromisedHard}
use Rattle.embedded_log.specs.Sessions.{setup_of_session, wal_of_session}
use Rattle.embedded_log.specs.declared.session.LogSession.{LogSession}

-- a record was appended; its session's log, grown since, was promised to be durable up to the
-- record's end at least; and the pass that closed the log has that log, grown since
pub record WasTold (setup : Setup) (body : Assembled) (receipt : Receipt) (hard : Hard)
    (last : View) : Type 0 where
  pub old : View
  pub new : View
  pub appended : IsAppended setup body old new receipt
  pub log : PassLog
  pub since : GrowsTo (log_of_pass new) log
  pub promised : IsPromisedHard hard log
  pub reached : receipt.end.0 ≤ hard.upto.0
  pub had : HasGrown log last

-- a log that was opened anew and closed leaves one order; and of each record that was told to be
-- durable from a moment on, whatever a crash leaves of the tape at that moment or a later one reads
-- as a front of that order with this record
abbrev pub ToldRecordsSurvive : Type 0 → Type 0
ToldRecordsSurvive H = (setup : Setup) (first last : LogSession H) (closed : Closed HostedDisk)
    → OpensSession setup first → setup.sysid < 2 ^ 64
    → wal_of_session last ≡ wal_of_session first → (closes : ClosesSession last closed)
    → (t : Tape) → hosted_tape closed.disk ≡ Some t
    → (order : List Entry) × ((body : Assembled) (receipt : Receipt) (hard : Hard)
    → (told : WasTold (setup_of_session last) body receipt hard (view_of_pass closes.pass))
    → Survives (setup_of_session last).seg_size order t hard.moment (told.appended).entry)
