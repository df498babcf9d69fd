-- Each kind of step, at the place of its word: what the machine's laws allow of the words by their
-- numbers the table's rule allows of its memory.
use Rattle.std.specs.Prelude.{Result}
use Rattle.std.proofs.Common.{◌≡◌, ℕ, true, [], refl}
use mathlib.Core.Option.{none}
use Rattle.atomic_table.specs.Table.{Allows, Me, State}
use Rattle.segment_disk.specs.Tape.{Tape}
use Rattle.flush_core.specs.declared.writer.DiskFault.{DiskFault}
use Rattle.machine_state.specs.Words.{Opening, write_turn_number}
use Rattle.machine_state.specs.Views.{Lent, View}
use Rattle.machine_state.specs.Moves.{Done}
use Rattle.machine_state.specs.Steps.{MayStep, StepKind, slot_in, slot_out, value_behind, view_behind, word_of_step}
use Rattle.wal_rule.specs.declared.writer.LogWriter.{LogWriter}
use Rattle.wal_rule.specs.Called.{DeviceCall, DeviceCallEnds, IsCalled, step_of_call}
use Rattle.wal_rule.specs.Ruled.{HasInHand, IsOutOf}
use Rattle.wal_rule.specs.Stepping.{IsQuiet, Meets, Stands}
use Rattle.wal_rule.specs.WordPlaces.{place_of_word}
use Rattle.wal_rule.proofs.Allowed.{comes_in, goes_out, looks_on, met_quietly, told_stored}
use Rattle.wal_rule.proofs.DeviceSteps.{catches_up}
use Rattle.wal_rule.proofs.Live.{WholeTable, live_step}

module _ {D : Type 0} (tape : D → Rattle.std.specs.Prelude.Option Tape) (moment faults : D → ℕ)
    (opening : Opening) (began : Rattle.std.specs.Prelude.Option Tape) where
  abbrev Rule : State (LogWriter D) View → Type 0
  Rule = WholeTable tape moment faults opening began

  module _ (slots id : ℕ) (me : Me (LogWriter D) View)
      (live : ((me.0).reserving).live ≡ true) where
    -- a load or an exchange
    pub finds_there : (e : StepKind) → IsQuiet e → MayStep me.0 e → (f : ℕ → ℕ)
        → ((met : ℕ) → f met ≡ value_behind me.0 e met) → (place : ℕ)
        → place ≡ place_of_word (word_of_step me.0 e) → Allows Rule slots id me place f
        (λ r n. (n ≡ (view_behind me.0 e r none, me.1)) × Stands n.0 × Meets me.0 e r)
    finds_there e quiet may f value place is = live_step tape moment faults opening began slots
        id me live (word_of_step me.0 e) f
        (λ r n. (n ≡ (view_behind me.0 e r none, me.1)) × Stands n.0 × Meets me.0 e r) place is
        (met_quietly tape moment faults opening began slots id me live e quiet may
        (word_of_step me.0 e) refl f value)

    -- a store
    pub stores_there : (e : StepKind) → IsQuiet e → MayStep me.0 e → (value : ℕ)
        → ((met : ℕ) → value ≡ value_behind me.0 e met)
        → ((met other : ℕ) → view_behind me.0 e met none ≡ view_behind me.0 e other none)
        → (place : ℕ) → place ≡ place_of_word (word_of_step me.0 e)
        → Allows Rule slots id me place (λ _. value)
        (λ _ n. (n ≡ (view_behind me.0 e value none, me.1)) × Stands n.0)
    stores_there e quiet may value stores meets_none place is = live_step tape moment faults
        opening began slots id me live (word_of_step me.0 e) (λ _. value)
        (λ _ n. (n ≡ (view_behind me.0 e value none, me.1)) × Stands n.0) place is
        (told_stored tape moment faults opening began slots id me live e quiet may
        (word_of_step me.0 e) refl value stores meets_none)

    -- a load that changes nothing
    pub looks_there : (number : ℕ) → Allows Rule slots id me (place_of_word number) (λ n. n)
        (λ r n. (n ≡ me) × Stands n.0)
    looks_there number = live_step tape moment faults opening began slots id me live number
        (λ n. n) (λ r n. (n ≡ me) × Stands n.0) (place_of_word number) refl
        (looks_on tape moment faults opening began slots id me live number)

    -- the writer goes out of its slot, and back
    pub goes_out_there : MayStep me.0 slot_out → (told : Rattle.std.specs.Prelude.Option Tape)
        → told ≡ began → (of : Opening) → of ≡ opening
        → Allows Rule slots id me (place_of_word write_turn_number) (λ n. n)
        (λ r n. (w : LogWriter D) × IsOutOf tape moment faults told of r w me n × Stands n.0)
    goes_out_there may told told_is of of_is = live_step tape moment faults opening began slots
        id me live write_turn_number (λ n. n)
        (λ r n. (w : LogWriter D) × IsOutOf tape moment faults told of r w me n × Stands n.0)
        (place_of_word write_turn_number) refl
        (goes_out tape moment faults opening began slots id me live may told told_is of of_is)

    pub comes_in_there : (l : Lent) (w : LogWriter D)
        → HasInHand tape moment faults began opening me l w → MayStep me.0 slot_in
        → Allows Rule slots id me (place_of_word write_turn_number) (λ n. n)
        (λ r n. (n ≡ (view_behind me.0 slot_in r none, [])) × Stands n.0)
    comes_in_there l w has may = live_step tape moment faults opening began slots id me live
        write_turn_number (λ n. n)
        (λ r n. (n ≡ (view_behind me.0 slot_in r none, [])) × Stands n.0)
        (place_of_word write_turn_number) refl
        (comes_in tape moment faults opening began slots id me live l w has may)

    -- a call of the device is told
    pub catches_up_there : (call : DeviceCall) (result : Result Unit DiskFault)
        → (me.0).opening ≡ opening
        → IsCalled tape moment faults began opening call result me
        → MayStep me.0 (step_of_call call Done)
        → (told : Rattle.std.specs.Prelude.Option Tape) → told ≡ began
        → (of : Opening) → of ≡ opening
        → Allows Rule slots id me (place_of_word write_turn_number) (λ n. n)
        (λ r n. DeviceCallEnds tape moment faults told of call result me.0 n × Stands n.0)
    catches_up_there call result own called may told told_is of of_is = live_step tape moment
        faults opening began slots id me live write_turn_number (λ n. n)
        (λ r n. DeviceCallEnds tape moment faults told of call result me.0 n × Stands n.0)
        (place_of_word write_turn_number) refl
        (catches_up tape moment faults opening began call result me own called slots id live may
        told told_is of of_is)
