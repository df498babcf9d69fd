-- Reading a script off a source.
use Rattle.std.specs.Prelude.{◌≡◌, ℕ, ◌+◌, ◌<◌, ◌≤◌, ◌⊎◌, List, ◌++◌, length, take, drop, Option, Some, None, option_map, Result, Ok, Err, Vec}
use Rattle.std.specs.declared.alloc.Global.{Global}
use Rattle.segment_disk.specs.Cause.{RoseByOne}
use Rattle.segment_disk.specs.Stream.{LosesFront}
use Rattle.run_script.specs.Asked.{AskedLine}
use Rattle.run_script.specs.declared.line.Refusal.{Refusal}
use Rattle.run_script.specs.Meaning.{script_limit}
use Rattle.run_script.specs.Run.{run_meaning}
use Rattle.backend_cli.specs.declared.reading.ScriptUnread.{ScriptUnread}
use Rattle.backend_cli.specs.declared.reading.ScriptUnread.TheVariants.{Memory, Source}
use Rattle.backend_cli.specs.Outside.{SourceView}

-- all that a source had left, or its first bytes up to a number of them
abbrev pub IsFront : ℕ → Option (List ℕ) → List ℕ → Type 0
IsFront most None bytes = Unit {0}
IsFront most (Some left) bytes = bytes ≡ take most left

-- a source handed out these bytes in between: all that it had left, until it answered that nothing
-- is left, or as many as were asked for; and it did not fail
pub record ReadsBytes (most : ℕ) (before after : SourceView) (bytes : List ℕ) : Type 0 where
  pub handed_out : after.handed ≡ before.handed ++ bytes
  pub is_front : IsFront most before.left bytes
  pub to_end : (before.ends_told < after.ends_told) ⊎ (length bytes ≡ most)
  pub left_behind : after.left ≡ option_map (drop most) before.left
  pub within : length bytes ≤ most
  pub faults_same : after.faults ≡ before.faults

-- what was read is all there is, up to a number of bytes; a source's fault is told by its count,
-- and nothing else changes the count
abbrev pub ReadsUpto : ℕ → SourceView → SourceView → Result (Vec ℕ Global) ScriptUnread → Type 0
ReadsUpto most before after (Ok v) = ReadsBytes most before after v.items
ReadsUpto most before after (Err Memory) = after.faults ≡ before.faults
ReadsUpto most before after (Err Source) = RoseByOne before.faults after.faults

-- a script is read to its end, or to one byte past its limit
abbrev pub ReadsScript : SourceView → SourceView → List ℕ → Type 0
ReadsScript before after bytes = ReadsBytes (script_limit + 1) before after bytes

abbrev pub ReadsAll : SourceView → SourceView → Result (Vec ℕ Global) ScriptUnread → Type 0
ReadsAll before after result = ReadsUpto (script_limit + 1) before after result

-- the script that a source handed out has this meaning, where scripts mean what `by` says
abbrev pub ScriptMeansBy : {X : Type 0} → (List ℕ → Result X Refusal) → SourceView → SourceView
    → Result X Refusal → Type 0
ScriptMeansBy by before after meaning =
    (bytes : List ℕ) × ReadsScript before after bytes × (by bytes ≡ meaning)

-- the script of a run that has a log writer of so many lines, or none
abbrev pub ScriptMeans : Option ℕ → SourceView → SourceView
    → Result (List (List AskedLine)) Refusal → Type 0
ScriptMeans writer before after meaning = ScriptMeansBy (run_meaning writer) before after meaning

-- bytes were read off a source, no more than were asked for, and the source did not fail
pub record HasRead (most : ℕ) (before now : SourceView) (bytes : List ℕ) : Type 0 where
  pub taken_off : LosesFront before.left now.left bytes
  pub handed_out : now.handed ≡ before.handed ++ bytes
  pub ends_told : before.ends_told ≤ now.ends_told
  pub faults_same : now.faults ≡ before.faults
  pub within : length bytes ≤ most
