-- Each view of a sound machine has its part in the positions; and what holds behind a step of one
-- view holds of the parts of all views.
use Rattle.std.proofs.Common.{◌≡◌, ℕ, List, map, set, sym, subst}
use mathlib.Core.Option.{Option}
use Rattle.machine_state.specs.Views.{HasAt, Plain, View, flight_of, writer_of, writing_of}
use Rattle.machine_state.specs.Sound.{IsSound}
use Rattle.machine_state.proofs.Lists.{part_at, part_set}
use Rattle.machine_laws.specs.PositionParts.{Positions, positions_in, HasPositions, HoldAmong, HoldBehind}
use Rattle.segment_disk.specs.Tape.{DiskState}

pub has_positions : {first : DiskState} (words : List ℕ) (home : Option Plain) (views : List View) (id : ℕ) (v : View)
    (s : IsSound first v.opening words home views) → HasAt views id v
    → HasPositions (positions_in v.opening words home views s) id v
has_positions words home views id v s here = record {
  size = (s.setup_is).size;
  holds = s.positions;
  turns = (s.locks).writing;
  writer_here = part_at writer_of views id v here;
  flight_here = part_at flight_of views id v here;
  here = part_at writing_of views id v here;
}

pub holds_of_all : (p : Positions) (views : List View) (id : ℕ) (v w : View)
    → p.flights ≡ map flight_of views → p.parts ≡ map writing_of views → HoldBehind p id v w
    → HoldAmong p v (map flight_of (set views id w)) (map writing_of (set views id w))
holds_of_all p views id v w flights parts holds =
    subst (λ (fs : _). HoldAmong p v fs (map writing_of (set views id w)))
    (sym (part_set flight_of views id w))
    (subst (λ (ps : _). HoldAmong p v (set (map flight_of views) id (flight_of w)) ps)
    (sym (part_set writing_of views id w))
    (subst (λ (fs : _). HoldAmong p v (set fs id (flight_of w))
    (set (map writing_of views) id (writing_of w))) flights
    (subst (λ (ps : _). HoldAmong p v (set p.flights id (flight_of w))
    (set ps id (writing_of w))) parts holds)))
