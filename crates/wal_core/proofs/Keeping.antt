-- What holds of plain data behind a step, beside that they are what the machine leaves.
use Rattle.std.proofs.Common.{◌≡◌, ◌⊎◌, length}
use mathlib.Core.Option.{some}
use Rattle.machine_state.specs.Views.{Copy, Copying, Lent, Out, Plain, View}
use Rattle.machine_state.specs.Steps.{home_behind}
use Rattle.machine_turns.specs.Doing.{Ask, Machine}
use Rattle.machine_turns.specs.declared.doing.PlainDoing.{PlainDoing}
use Rattle.machine_turns.specs.declared.doing.PlainNext.{PlainNext}
use Rattle.machine_turns.specs.declared.doing.PlainNext.TheVariants.{GoesOn, Answers}
use Rattle.machine_turns.specs.declared.script.PlainLine.{PlainLine}
use Rattle.machine_turns.specs.Lanes.{Stepped}
use Rattle.machine_turns.specs.Writer.{WriterState}
use Rattle.wal_core.specs.Playing.{HoldsPageFor, TriesFew}
use Rattle.wal_core.specs.Following.{step_made, view_left}
use Rattle.wal_core.proofs.InsertKeeps.{IsCopyBehind}

-- the writer is as it was, or this view has it in hand
abbrev pub MayWrite : WriterState → WriterState → View → Type 0
MayWrite old new v = (new ≡ old) ⊎ ((l : Lent) × ((v.writing).hold ≡ Out l))

-- where another step comes next, this holds of its place
abbrev pub NextHas : (PlainDoing → Type 0) → PlainNext → Type 0
NextHas P (GoesOn doing) = P doing
NextHas P (Answers full) = Unit {0}

-- a writer whose log, and whose failing calls, are the same
pub record IsLikeWriter (old new : WriterState) : Type 0 where
  pub failing_kept : new.failing ≡ old.failing
  pub size_kept : new.size ≡ old.size
  pub end_kept : new.end ≡ old.end
  pub first_kept : new.first ≡ old.first
  pub whole : length new.page ≡ 8192

pub record Keeps (m : Machine) (v : View) (ask : Ask) (line : PlainLine) (w : WriterState)
    (d : PlainDoing) (s : Stepped) : Type 0 where
  pub at_home : (p : Plain) → home_behind v (step_made m v ask d) (m.state).home ≡ some p
      → p ≡ (s.writer).plain
  pub in_hand : (l : Lent) → ((view_left m v ask d).writing).hold ≡ Out l
      → l.writer ≡ (s.writer).plain
  pub writes : MayWrite w s.writer v
  pub like : IsLikeWriter w s.writer
  pub number_kept : ((view_left m v ask d).reserving).number ≡ (v.reserving).number
  pub copies : (c : Copy) → ((view_left m v ask d).working).flight ≡ Copying c
      → IsCopyBehind v ask d c
  pub few : NextHas TriesFew ((s.left).made).next
  pub page : NextHas (HoldsPageFor (s.writer).page (view_left m v ask d)) ((s.left).made).next
