-- The writer in hand, between taking the turn to write and giving it back.
use Rattle.std.specs.Prelude.{◌≡◌, ◌≢◌, ℕ, ◌≤◌, All, Option}
use mathlib.Core.Option.{some}
use Rattle.segment_disk.specs.Tape.{Tape}
use Rattle.machine_state.specs.Steps.{take_write_turn}
use Rattle.machine_state.specs.Views.{FlushPromise, Idle, View}
use Rattle.wal_rule.specs.declared.seated.SeatedPass.{SeatedPass}
use Rattle.wal_rule.specs.SeatedPasses.{view_of}
use Rattle.wal_rule.specs.Stepping.{Meets}
use Rattle.word_ring.specs.InHand.{HasHand, IsReady, lent_in, writer_in}
use Rattle.wal_log.specs.declared.turns.TurnErr.{TurnErr}
use Rattle.wal_log.specs.declared.turns.TurnErr.TheVariants.{Down, Taken}
use Rattle.wal_log.specs.Downs.{KnowsNoFault, MeetsDown}

-- somebody had the turn to write: a pass with this view met its word, which is not 0
pub record MeetsWriteTurn (turn : ℕ) (v : View) : Type 0 where
  pub met : Meets v take_write_turn turn
  pub taken : turn ≢ 0

-- nobody had it: a pass with this view met its word, which was 0
abbrev pub MeetsFreeWriteTurn : View → Type 0
MeetsFreeWriteTurn v = Meets v take_write_turn 0

-- why the turn to write was not had: the down value was met, or the turn was taken, and the view is
-- as it was
abbrev pub TellsTurnErr : View → View → TurnErr → Type 0
TellsTurnErr old new (Down faults) = MeetsDown faults old new
TellsTurnErr old new (Taken turn) = MeetsWriteTurn turn new × (new ≡ old) × KnowsNoFault new

-- the writer is in hand and no call of it has failed, all that it has written is stored, and the
-- disk is not known to have failed
pub record HasAllStored {D : Type 0} (tape : D → Option Tape) (moment faults : D → ℕ)
    (p : SeatedPass D) : Type 0 where
  pub ready : IsReady tape moment faults p
  pub stored : (lent_in (view_of p).writing.hold).stored ≡ (writer_in (view_of p)).written
  pub up : KnowsNoFault (view_of p)

-- with the writer and the turn given back, a view is as it was but for the down value
pub record SetsDownAndRests (faults : ℕ) (old new : View) : Type 0 where
  pub new_is : new ≡ record old { writing = record old.writing { hold = Idle; down_set = faults } }
  pub some : faults ≢ 0

-- no promise told before names a later moment, or a higher address
pub record IsLatestPromise (upto moment : ℕ) (v : View) : Type 0 where
  pub moments : All (λ (p : FlushPromise). p.moment ≤ moment) v.writing.promises
  pub addresses : All (λ (p : FlushPromise). p.upto ≤ upto) v.writing.promises

-- the writer is in hand, a call of it has failed and it keeps this count of faults, and no down
-- value is known yet
pub record HasFailed {D : Type 0} (tape : D → Option Tape) (moment faults : D → ℕ) (count : ℕ)
    (p : SeatedPass D) : Type 0 where
  pub hand : HasHand tape moment faults p
  pub fault : (writer_in (view_of p)).fault ≡ some count
  pub up : KnowsNoFault (view_of p)
