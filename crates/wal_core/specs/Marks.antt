-- Up to where a log is written. Each address that a word tells or that a backend goes by is a
-- *mark*: the start of a page, or the end of a record that is reserved. So a write raises the
-- written address to a mark, and there are at most as many writes as pages and records.
use Rattle.std.specs.Prelude.{◌≡◌, ◌⊎◌, ℕ, ◌+◌, ◌-◌, ◌%◌, ◌<◌, min, List, [], ◌∷◌}
use Rattle.byte_position.specs.Position.{end_address_of}
use Rattle.machine_state.specs.Words.{flushed_word, lock_word, position_word}
use Rattle.machine_state.specs.Moves.{unlocked}
use Rattle.machine_turns.specs.declared.doing.PlainDoing.{PlainDoing}
use Rattle.machine_turns.specs.declared.doing.PlainDoing.TheVariants as doings
use Rattle.machine_turns.specs.declared.doing.PlainPurpose.{PlainPurpose}
use Rattle.machine_turns.specs.declared.doing.PlainPurpose.TheVariants as purposes
use Rattle.machine_turns.specs.declared.view.PlainView.{PlainView}
use Rattle.machine_turns.specs.Left.{next_in}
use Rattle.machine_turns.specs.Writing.{known_in}

-- an address is a page's start, or the end of what is reserved up to one of these byte positions
abbrev pub IsMark : (size : ℕ) → (ends : List ℕ) → (at : ℕ) → Type 0
IsMark size [] at = at % 8192 ≡ 0
IsMark size (end ∷ ends) at = (at ≡ end_address_of size end) ⊎ IsMark size ends at

-- how many of these ends lie above an address
abbrev pub ends_above : (size : ℕ) → (ends : List ℕ) → (at : ℕ) → ℕ
ends_above size [] at = 0
ends_above size (end ∷ ends) at = min 1 (end_address_of size end - at) + ends_above size ends at

module _ (size : ℕ) (ends : List ℕ) where
  -- what words tell: how far records are reserved, how far locks' holders have copied, and how far
  -- the log is flushed
  pub record TellMarks (words : List ℕ) : Type 0 where
    pub position : IsMark size ends (end_address_of size (unlocked (position_word words)))
    pub locks : (lock : ℕ) → lock < 8 → IsMark size ends (lock_word words lock - 1)
    pub flushed : IsMark size ends (flushed_word words)

  -- what a view has seen reserved, what its watch has found copied, and what it knows to be copied
  -- with the writer in hand
  pub record LearnsMarks (view : PlainView) : Type 0 where
    pub seen : IsMark size ends (end_address_of size view.seen)
    pub bound : IsMark size ends (view.watching).bound
    pub known : IsMark size ends (known_in view.hold)

  -- where a copy may come to tell its next word's address, that is a mark: a page is looked for
  -- where it begins, or where the record does
  abbrev pub TellsFor : PlainPurpose → ℕ → Type 0
  TellsFor purposes.Line next = Unit {0}
  TellsFor (purposes.Page lock end) next = IsMark size ends next

  abbrev pub TellsAt : PlainDoing → ℕ → Type 0
  TellsAt (doings.Looks lock) next = IsMark size ends next
  TellsAt (doings.Maps lock) next = IsMark size ends next
  TellsAt (doings.GivesTurn lock end) next = IsMark size ends next
  TellsAt (doings.Tells lock end) next = IsMark size ends next
  TellsAt (doings.Visits purpose lock) next = TellsFor purpose next
  TellsAt (doings.TakesTurn purpose) next = TellsFor purpose next
  TellsAt (doings.LoadsDown purpose) next = TellsFor purpose next
  TellsAt (doings.TakesOut purpose) next = TellsFor purpose next
  TellsAt (doings.LoadsPage purpose loaded) next = TellsFor purpose next
  TellsAt (doings.Creates purpose) next = TellsFor purpose next
  TellsAt (doings.Writes purpose) next = TellsFor purpose next
  TellsAt (doings.SyncsFull purpose) next = TellsFor purpose next
  TellsAt (doings.StoresWritten purpose) next = TellsFor purpose next
  TellsAt (doings.SetsDown purpose) next = TellsFor purpose next
  TellsAt (doings.PutsBack purpose failed) next = TellsFor purpose next
  TellsAt (doings.GivesWriteTurn purpose failed) next = TellsFor purpose next
  TellsAt other next = Unit {0}

  -- both, of a view with its place
  abbrev pub GoesByMarks : PlainView → PlainDoing → Type 0
  GoesByMarks view doing = LearnsMarks view × TellsAt doing (next_in view.flight)
