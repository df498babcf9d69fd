-- What the laws start from: the positions, who has the turn to write, and a view that has its part.
use Rattle.std.specs.Prelude.{ℕ, List, map, set}
use mathlib.Core.Option.{Option}
use Rattle.byte_position.specs.Geometry.{IsSegmentSize}
use Rattle.segment_disk.specs.Tape.{DiskState}
use Rattle.wal_page.specs.Order.{Entry}
use Rattle.machine_state.specs.Words.{Opening, down_word, flushed_word, write_turn, written_word}
use Rattle.machine_state.specs.Views.{HasAt, Flight, Plain, Hold, Writing, View, flight_of, writer_of, writing_of}
use Rattle.machine_state.specs.Locked.{IsWriteTurn}
use Rattle.machine_state.specs.Positioned.{PositionsHold}
use Rattle.machine_state.specs.Sound.{IsSound}

-- what the positions rest on: what the disk held at first; the order; the words of the written and
-- the flushed address, of down and of the turn to write; the writer where it is at home, and
-- wherever it is; and of all views their numbers with what they hold of the turn, their flights,
-- and what they know of positions
pub record Positions : Type 0 where
  pub first : DiskState
  pub order : List Entry
  pub written : ℕ
  pub flushed : ℕ
  pub down : ℕ
  pub turn : ℕ
  pub home : Option Plain
  pub writer : Plain
  pub writers : List (ℕ × Hold)
  pub flights : List Flight
  pub parts : List Writing

-- these of the whole machine
abbrev pub positions_in : {first : DiskState} (opening : Opening) (words : List ℕ)
    (home : Option Plain) (views : List View) → IsSound first opening words home views → Positions
positions_in {first} opening words home views s = record {
  first = first;
  order = s.order;
  written = written_word words;
  flushed = flushed_word words;
  down = down_word words;
  turn = write_turn words;
  home = home;
  writer = s.writer;
  writers = map writer_of views;
  flights = map flight_of views;
  parts = map writing_of views;
}

pub record HasPositions (p : Positions) (id : ℕ) (v : View) : Type 0 where
  pub size : IsSegmentSize ((v.opening).setup).seg_size
  pub holds : PositionsHold p.first v.opening p.order p.written p.flushed p.down p.home p.writer
      p.flights p.parts
  pub turns : IsWriteTurn p.turn p.home p.writer p.writers
  pub writer_here : HasAt p.writers id (writer_of v)
  pub flight_here : HasAt p.flights id (flight_of v)
  pub here : HasAt p.parts id (writing_of v)

-- the positions hold still with these flights and parts
abbrev pub HoldAmong : Positions → View → List Flight → List Writing → Type 0
HoldAmong p v flights parts = PositionsHold p.first v.opening p.order p.written p.flushed p.down
    p.home p.writer flights parts

-- and where the view has become another one
abbrev pub HoldBehind : Positions → ℕ → View → View → Type 0
HoldBehind p id v w =
    HoldAmong p v (set p.flights id (flight_of w)) (set p.parts id (writing_of w))
