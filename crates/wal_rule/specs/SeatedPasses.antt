-- What a seated pass knows and has in hand, and what a step leaves of it.
use Rattle.std.specs.Prelude.{◌≡◌, ℕ, List, [], Option}
use mathlib.Core.Option.{none}
use Rattle.segment_disk.specs.Tape.{Tape}
use Rattle.machine_state.specs.Words.{Opening}
use Rattle.machine_state.specs.declared.setup.Setup.{Setup}
use Rattle.machine_state.specs.Steps.{IsResting, StepKind, view_behind}
use Rattle.machine_state.specs.Views.{View}
use Rattle.wal_rule.specs.declared.seated.SeatedPass.{SeatedPass}
use Rattle.wal_rule.specs.declared.writer.LogWriter.{LogWriter}
use Rattle.wal_rule.specs.Tables.{began_of_table, opening_of_table}

-- what it knows and is about
abbrev pub view_of : {D : Type 0} → SeatedPass D → View
view_of p = ((p.seat).me).0

-- what it took out of the table's slot: the writer, or nothing
abbrev pub hand_of : {D : Type 0} → SeatedPass D → List (ℕ × LogWriter D)
hand_of p = ((p.seat).me).1

-- how its log was opened and set up, and its disk's tape when it was opened
abbrev pub opening_of : {D : Type 0} → SeatedPass D → Opening
opening_of p = opening_of_table (p.table).now

abbrev pub setup_of : {D : Type 0} → SeatedPass D → Setup
setup_of p = (opening_of p).setup

abbrev pub began_of : {D : Type 0} → (D → Option Tape) → SeatedPass D → Option Tape
began_of tape p = began_of_table tape (p.table).now

-- of a pass only its view has changed, which is this one now
pub record HasView {D : Type 0} (v : View) (old new : SeatedPass D) : Type 0 where
  pub same_table : new.table ≡ old.table
  pub me_is : (new.seat).me ≡ (v, hand_of old)

-- of a pass at most its view has changed: it is at the same table, and has in hand what it had
pub record StaysSeated {D : Type 0} (old new : SeatedPass D) : Type 0 where
  pub same_table : new.table ≡ old.table
  pub same_hand : hand_of new ≡ hand_of old

-- a pass is about nothing, and has nothing in hand
pub record StandsAtRest {D : Type 0} (p : SeatedPass D) : Type 0 where
  pub rests : IsResting (view_of p)
  pub empty : hand_of p ≡ []

-- a step of a kind which met this number leaves this of a pass
abbrev pub Steps : {D : Type 0} → (e : StepKind) → (met : ℕ) → (old new : SeatedPass D) → Type 0
Steps e met old new = HasView (view_behind (view_of old) e met none) old new
