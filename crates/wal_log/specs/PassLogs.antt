-- The log of a pass, by its seat's view.
use Rattle.machine_state.specs.Views.{View}
pub use Rattle.machine_state.specs.PassLogs.{PassLog, log_with_entry, log_with_full, log_with_promise}

abbrev pub log_of_pass : View → PassLog
log_of_pass v = record {
  entries = (v.reserving).entries;
  stops = (v.reserving).stops;
  promises = v.writing.promises;
}
