-- A log that was closed, and what was promised of it.
use Rattle.std.specs.Prelude.{◌≡◌, ◌⊎◌, ℕ, ◌^◌, ◌<◌, Contains, List, Some}
use mathlib.Core.Option.{some}
use Rattle.segment_disk.specs.Tape.{Tape}
use Rattle.wal_page.specs.Order.{Entry}
use Rattle.machine_state.specs.Words.{Opening}
use Rattle.machine_state.specs.Suited.{BeganSuited}
use Rattle.machine_state.specs.Views.{HasAt, FlushPromise, Joined, Plain, View}
use Rattle.machine_state.specs.Sound.{IsSound}
use Rattle.machine_laws.specs.ClosedLogs.{IsClosed}

-- a log with this order was closed in a sound state, in which this was the last pass, with its
-- writer at home; its disk tells this tape, and held at the opening what a log may begin on
pub record IsClosedOn (opening : Opening) (order : List Entry) (t : Tape) (v : View) : Type 0 where
  pub words : List ℕ
  pub writer : Plain
  pub views : List View
  pub id : ℕ
  pub sound : IsSound t.at_first opening words (some writer) views
  pub order_is : sound.order ≡ order
  pub here : HasAt views id v
  pub closed : IsClosed t.at_first opening order words (some writer) writer views id v
  -- a page tells the system id in eight bytes
  pub narrow : (opening.setup).sysid < 2 ^ 64
  pub calls_is : writer.calls ≡ Some t.calls
  pub began : BeganSuited opening t

-- a log was promised this: it is the log of this pass, or of one that it took in
abbrev pub WasPromised : View → List Entry → FlushPromise → Type 0
WasPromised v entries p =
    ((entries ≡ (v.reserving).entries) × Contains (v.writing).promises p)
    ⊎ ((j : Joined) × Contains (v.reserving).joined j × (entries ≡ j.entries)
    × Contains j.promises p)
