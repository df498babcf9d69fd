-- Calls of `set` and `del`, one behind another, and the changes that they begin.
use Rattle.std.specs.Prelude.{◌≡◌, List, [], ◌∷◌, ◌++◌, Option, Some, None, Result, Ok, Err}
use Rattle.wal_types.specs.declared.answers.Sealed.{Sealed}
use Rattle.wal_types.specs.declared.lsn.Lsn.{Lsn}
use Rattle.wal_log.specs.declared.wal.Wal.{Wal}
use Rattle.durable_map.specs.Changes.{MapChange}
use Rattle.durable_map.specs.Stores.{AnswersCall}
use Rattle.durable_map.specs.declared.fault.ChangeErr.{ChangeErr}
use Rattle.durable_map.specs.declared.fault.ChangeErr.TheVariants.{Memory, TooLong, Refused}
use Rattle.durable_map.specs.declared.part.MapPart.{MapPart}

-- a `set` or a `del`, and what it was answered
pub record ChangeCall : Type 0 where
  pub change : MapChange
  pub answer : Result Sealed ChangeErr

-- calls, one behind another, lead from a part of a log's map to another one
abbrev pub LeadTo : {D : Type 0} → Wal D → List ChangeCall → (first last : MapPart) → Type 0
LeadTo wal [] first last = last ≡ first
LeadTo wal (call ∷ calls) first last =
    (next : MapPart) × AnswersCall wal call.change first next call.answer
    × LeadTo wal calls next last

-- a change was begun where its record got a place in the log
abbrev pub begun_at : MapChange → Option Lsn → List MapChange
begun_at change None = []
begun_at change (Some place) = change ∷ []

abbrev pub begun_by : MapChange → Result Sealed ChangeErr → List MapChange
begun_by change (Ok sealed) = change ∷ []
begun_by change (Err Memory) = []
begun_by change (Err TooLong) = []
begun_by change (Err (Refused refused)) = begun_at change refused.reserved

-- the changes that were begun, in their order
abbrev pub begun_in : List ChangeCall → List MapChange
begun_in [] = []
begun_in (call ∷ calls) = begun_by call.change call.answer ++ begun_in calls
