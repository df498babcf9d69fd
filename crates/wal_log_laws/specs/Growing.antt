-- How the log of a pass grows, and who has it once its pass was taken in.
use Rattle.std.specs.Prelude.{◌≡◌, ◌⊎◌, ℕ, Contains, List, [], ◌∷◌, ◌++◌, map, Result, Ok, Err}
pub use Rattle.machine_state.specs.Moves.{after_join, after_split, split_off}
use Rattle.machine_state.specs.PassLogs.{log_of_joined}
use Rattle.machine_state.specs.Views.{Joined, View}
use Rattle.wal_rule.specs.declared.pass.Pass.{Pass}
use Rattle.wal_rule.specs.Passes.{view_of_pass}
use Rattle.wal_log.specs.declared.beginning.TryErr.{TryErr}
use Rattle.wal_log.specs.declared.in_flight.Inflight.{Inflight}
use Rattle.wal_log.specs.declared.switch_tries.SwitchBegun.{SwitchBegun}
use Rattle.wal_log.specs.declared.switch_tries.SwitchBegun.TheVariants.{Going, Stayed}
use Rattle.wal_log.specs.declared.switch_tries.TrySwitchErr.{TrySwitchErr}
use Rattle.wal_log.specs.Flights.{view_of_flight}
use Rattle.wal_log.specs.PassLogs.{PassLog, log_of_pass}

-- the view of the pass that a try to begin a record leaves, with the record in flight or not
abbrev pub view_behind_try : Result Inflight (TryErr × Pass) → View
view_behind_try (Ok flight) = view_of_flight flight
view_behind_try (Err refused) = view_of_pass refused.1

-- .. and one to end the segment
abbrev pub view_behind_switch : Result SwitchBegun (TrySwitchErr × Pass) → View
view_behind_switch (Ok (Going flight)) = view_of_flight flight
view_behind_switch (Ok (Stayed end pass)) = view_of_pass pass
view_behind_switch (Err refused) = view_of_pass refused.1

-- a list has all of another one first, and then more
abbrev pub IsFrontOf : {A : Type 0} → List A → List A → Type 0
IsFrontOf {A} front whole = (back : List A) × (whole ≡ front ++ back)

-- a log grew to another one: what it had stays, and new things stand behind
pub record GrowsTo (old new : PassLog) : Type 0 where
  pub entries : IsFrontOf old.entries new.entries
  pub stops : IsFrontOf old.stops new.stops
  pub promises : IsFrontOf old.promises new.promises

-- a pass has a log: it is its own, or that of a pass that it took in
abbrev pub HasLog : PassLog → View → Type 0
HasLog l v = (l ≡ log_of_pass v)
    ⊎ ((j : Joined) × Contains (v.reserving).joined j × (l ≡ log_of_joined j))

-- a pass has a log that grew from this one
abbrev pub HasGrown : PassLog → View → Type 0
HasGrown l v = (grown : PassLog) × GrowsTo l grown × HasLog grown v

-- ---- passes by their numbers

-- a pass's number and its log
pub record NumberedLog : Type 0 where
  pub number : ℕ
  pub log : PassLog

-- of a pass, by its view
abbrev pub numbered_log : View → NumberedLog
numbered_log v = record { number = (v.reserving).number; log = log_of_pass v }

abbrev pub numbered_joined : Joined → NumberedLog
numbered_joined j = record { number = j.number; log = log_of_joined j }

-- all logs that a pass has: its own, and behind it those of the passes that it took in
abbrev pub logs_of_pass : View → List NumberedLog
logs_of_pass v = numbered_log v ∷ map numbered_joined (v.reserving).joined

-- a pass has reserved nothing, and took no other one in
pub record IsNewPass (v : View) : Type 0 where
  pub none : (log_of_pass v).entries ≡ []
  pub alone : (v.reserving).joined ≡ []
