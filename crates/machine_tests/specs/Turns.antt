-- Who has the turn to map a page, and who has the turn to write.
use Rattle.std.specs.Prelude.{◌≡◌, ℕ, ◌+◌, Bool, true, false, All, List, ◌==◌, if◌then◌else◌}
use Rattle.std.specs.List.{count_by}
use Rattle.machine_state.specs.Words.{mapping_turn, write_turn}
use Rattle.machine_turns.specs.declared.view.PlainStage.{PlainStage}
use Rattle.machine_turns.specs.declared.view.PlainStage.TheVariants.{Away, Taken, Looked, Ready, Zeroing, Published}
use Rattle.machine_turns.specs.declared.view.PlainHold.{PlainHold}
use Rattle.machine_turns.specs.declared.view.PlainHold.TheVariants.{Idle, Turned, Out}
use Rattle.machine_tests.specs.declared.moment.BackendNow.{BackendNow}

-- whether a backend has the turn to map, and the turn to write
abbrev pub maps : PlainStage → Bool
maps Away = false
maps Taken = true
maps (Looked at) = true
maps (Ready at) = true
maps (Zeroing at count) = true
maps (Published at) = true

abbrev pub writes : PlainHold → Bool
writes Idle = false
writes Turned = true
writes (Out known) = true

-- a turn's word is 0 where no backend has the turn, and not 0 where one has it, whose number is one
-- less; no two have it
pub record TurnAgrees (turn : ℕ) (has : BackendNow → Bool) (backends : List BackendNow) : Type 0
  where
    pub one : count_by has backends ≡ (if turn == 0 then 0 else 1)
    pub told : All (λ b. has b ≡ true → turn ≡ b.view.number + 1) backends

-- so of the turn to map and the turn to write
abbrev pub TurnsAgree : List ℕ → List BackendNow → Type 0
TurnsAgree words backends = TurnAgrees (mapping_turn words) (λ b. maps b.view.stage) backends
    × TurnAgrees (write_turn words) (λ b. writes b.view.hold) backends
