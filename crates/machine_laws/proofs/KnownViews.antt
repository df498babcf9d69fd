-- What the laws of positions and of durability start from, of a state that keeps the invariant.
use Rattle.std.proofs.Common.{ℕ, List, map}
use mathlib.Core.Option.{Option}
use Rattle.machine_state.specs.Words.{write_turn, written_word, flushed_word, down_word}
use Rattle.machine_state.specs.Views.{HasAt, Plain, View, flight_of, writer_of, writing_of, receipts_of}
use Rattle.machine_state.specs.Sound.{IsSound}
use Rattle.machine_state.proofs.Lists.{part_at}
use Rattle.machine_laws.specs.PositionParts.{Positions, HasPositions}
use Rattle.segment_disk.specs.Tape.{DiskState}

module _ {first : DiskState} (words : List ℕ) (home : Option Plain) (views : List View) (id : ℕ) (v : View)
    (k : IsSound first v.opening words home views) where
  abbrev pub now : Positions
  now = record {
    first = first;
    order = k.order;
    written = written_word words;
    flushed = flushed_word words;
    down = down_word words;
    turn = write_turn words;
    home = home;
    writer = k.writer;
    writers = map writer_of views;
    flights = map flight_of views;
    parts = map writing_of views;
  }

  pub has_now : HasAt views id v → HasPositions now id v
  has_now here = record {
    size = (k.setup_is).size;
    holds = k.positions;
    turns = (k.locks).writing;
    writer_here = part_at writer_of views id v here;
    flight_here = part_at flight_of views id v here;
    here = part_at writing_of views id v here;
  }

  pub told_here : HasAt views id v → HasAt (map receipts_of views) id (receipts_of v)
  told_here here = part_at receipts_of views id v here
