-- That what two lanes of a map changed in one life of it is in it in the next one.
use Rattle.std.specs.Prelude.{◌≡◌, ◌≢◌, ◌⊎◌, ℕ, All, Contains, List, [], ◌∷◌, map, Option, Some, Ok, IsSomeAnd}
use Rattle.segment_disk.specs.DiskImage.{image_as_read}
use Rattle.segment_disk.specs.Tape.{Tape, state_now}
use Rattle.wal_reader.specs.Pages.{pages_in}
use Rattle.wal_types.specs.declared.answers.Sealed.{Sealed}
use Rattle.written_log_laws.specs.Torn.{NoTornPass}
use Rattle.machine_state.specs.declared.setup.Setup.{Setup}
use Rattle.wal_rule.specs.declared.pass.Pass.{Pass}
use Rattle.wal_log.specs.declared.closing.Closed.{Closed}
use Rattle.wal_log.specs.declared.wal.Wal.{Wal}
use Rattle.wal_log.specs.Closing.{ClosesLog}
use Rattle.wal_log_laws.specs.History.{order_of}
use Rattle.durable_map.specs.Asked.{change_asked, key_of_call}
use Rattle.durable_map.specs.Calls.{LeadTo, begun_in}
use Rattle.durable_map.specs.Changes.{MapChange, MapMeaning}
use Rattle.durable_map.specs.Opening.{OpensMap}
use Rattle.durable_map.specs.Stores.{log_under, map_held}
use Rattle.durable_map.specs.Weaving.{LaneCalls}
use Rattle.durable_map.specs.declared.asked.MapCall.{MapCall}
use Rattle.durable_map.specs.declared.sharing.MapLane.{MapLane}
use Rattle.durable_map.specs.declared.store.DurableMap.{DurableMap}

-- ---- two calls

-- one of two calls asked for a change
abbrev pub IsOfEither : MapCall → MapCall → MapChange → Type 0
IsOfEither one other change = (change_asked one ≡ Some change) ⊎ (change_asked other ≡ Some change)

-- a lane made the change that a call asked for, and no other call; it was answered Ok
pub record MadeAlone (lanes : List LaneCalls) (call : MapCall) : Type 0 where
  pub lane : LaneCalls
  pub there : Contains lanes lane
  pub change : MapChange
  pub asked : change_asked call ≡ Some change
  pub sealed : Sealed
  pub are : lane.calls ≡ (record { change = change; answer = Ok sealed }) ∷ []

-- so it was with each of two calls about different keys, and no lane began another change
pub record MadeByTwo {D : Type 0} (wal : Wal D) (one other : MapCall) (old new : List MapLane)
    : Type 0 where
  pub lanes : List LaneCalls
  pub firsts : map (λ lane. lane.first) lanes ≡ map (λ lane. lane.part) old
  pub lasts : map (λ lane. lane.last) lanes ≡ map (λ lane. lane.part) new
  pub called : All (λ lane. LeadTo wal lane.calls lane.first lane.last) lanes
  pub no_other : All (λ lane. All (IsOfEither one other) (begun_in lane.calls)) lanes
  pub first : MadeAlone lanes one
  pub second : MadeAlone lanes other
  pub apart : key_of_call one ≢ key_of_call other

-- ---- the next life

-- a call asked for a change, and the map has it
abbrev pub HasWhatWasAsked : MapMeaning → MapCall → Type 0
HasWhatWasAsked map call = IsSomeAnd (change_asked call) (λ change. map change.key ≡ change.value)

-- a map was closed that lanes had shared, and opened on the disk that came back, which told this
-- tape then. If no torn record passes its CRC as the disk is read, the map has the changes of both
-- calls there
pub record FindsBoth {D : Type 0} (tape : D → Option Tape) (moment faults : D → ℕ) (setup : Setup)
    (one other : MapCall) (again : DurableMap D) : Type 0 where
  pub map : DurableMap D
  pub pass : Pass
  pub closed : Closed D
  pub closes : ClosesLog tape moment faults (log_under map) pass closed
  pub opened : OpensMap tape moment faults setup closed.disk again
  pub now : Tape
  pub told : tape closed.disk ≡ Some now
  pub found :
      NoTornPass setup.seg_size (pages_in setup.seg_size (image_as_read (state_now now)))
      (order_of tape moment faults (log_under map) pass closed closes)
      → HasWhatWasAsked (map_held again) one × HasWhatWasAsked (map_held again) other
