-- The log of a pass: what it reserved, where it stopped, what it was told of flushes.
use Rattle.std.specs.Prelude.{ℕ, List, [], ◌∷◌, ◌++◌, length}
use Rattle.wal_page.specs.Order.{Entry}
use Rattle.machine_state.specs.Views.{AtSegmentStart, FlushPromise, Joined, LogFull, Stop, StopCause, View}

pub record PassLog : Type 0 where
  pub entries : List Entry
  pub stops : List Stop
  pub promises : List FlushPromise

-- that of a pass by its view, and that of one that was taken in
abbrev pub log_of_view : View → PassLog
log_of_view v = record {
  entries = (v.reserving).entries;
  stops = (v.reserving).stops;
  promises = (v.writing).promises;
}

abbrev pub log_of_joined : Joined → PassLog
log_of_joined j = record { entries = j.entries; stops = j.stops; promises = j.promises }

-- with an entry more
abbrev pub log_with_entry : Entry → PassLog → PassLog
log_with_entry e l = record l { entries = l.entries ++ e ∷ [] }

-- it stopped at a byte position: the log was full there, or stood at a segment's start
abbrev pub log_with_stop : StopCause → ℕ → PassLog → PassLog
log_with_stop cause at l = record l {
  stops = l.stops ++ (record { cause = cause; position = at; entries = length l.entries }) ∷ [];
}

abbrev pub log_with_full : ℕ → PassLog → PassLog
log_with_full at l = log_with_stop LogFull at l

abbrev pub log_with_stay : ℕ → PassLog → PassLog
log_with_stay at l = log_with_stop AtSegmentStart at l

-- it was told that all below an address is durable from a moment on
abbrev pub log_with_promise : (upto moment : ℕ) → PassLog → PassLog
log_with_promise upto moment l = record l {
  promises = l.promises
      ++ (record { upto = upto; moment = moment; entries = length l.entries }) ∷ [];
}
