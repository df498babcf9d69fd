-- A machine's writer is somewhere, so a crash leaves something of its disk.
use Rattle.std.proofs.Common.{◌≡◌, inl, inr, ℕ, zero, suc, length, map, Option, IfSome, refl, sym, ap, subst}
use Rattle.segment_disk.specs.DiskImage.{LeftAt}
use Rattle.segment_disk.specs.First.{first_state}
use Rattle.segment_disk.specs.MemDisk.{first_image}
use Rattle.segment_disk.specs.Picks.{IsPicked, choice_of}
use Rattle.segment_disk.specs.Tape.{DiskState, Tape, state_now}
use Rattle.segment_disk.specs.declared.memory.disk.MemDisk.{MemDisk}
use Rattle.segment_disk.specs.declared.memory.pick.Pick.{Pick}
use Rattle.machine_state.specs.Locked.{HasWriteTurn, IsWriteTurn, StandsTo}
use Rattle.machine_state.specs.Suited.{tape_from}
use Rattle.machine_state.specs.Views.{HasAt, Hold, Idle, Turned, Out, Plain, View, writer_of}
use Rattle.machine_state.specs.Words.{write_turn}
use Rattle.machine_state.proofs.Lists.{part_at, view_from}
use Rattle.machine_turns.specs.Doing.{Machine}
use Rattle.machine_turns.specs.Standing.{IsRunning}
use Rattle.wal_core.specs.Cores.{HasWriter, core_of}
use Rattle.wal_core.specs.Playing.{PlaysMachine}
use Rattle.wal_core.specs.declared.machine.Core.{Core}
use Rattle.wal_core.proofs.Cores.{writer_is_core's}
use Rattle.cli_line.specs.declared.commands.CrashPick.{CrashPick}
use Rattle.backend_cli.specs.Replaying.{IsCrashed, pick_of}

module _ (m : Machine) (writer : Plain) (turns : IsWriteTurn (write_turn (m.state).words) (m.state).home writer (map writer_of (m.state).views)) where
  by_hold : (id number : ℕ) (v : View) → HasAt (m.state).views id v → (hold : Hold) → (v.writing).hold ≡ hold
      → StandsTo (write_turn (m.state).words) turns.holder (m.state).home writer id number hold → HasWriteTurn hold → HasWriter m writer
  by_hold id number v at Idle is stands has = absurd has
  by_hold id number v at Turned is stands has = inl stands.2
  by_hold id number v at (Out l) is stands has = inr (id, v, l, at, is, stands.3)

  by_turn : (turn : ℕ) → write_turn (m.state).words ≡ turn → HasWriter m writer
  by_turn zero is = inl (turns.free is)
  by_turn (suc turn) is =
      let held = turns.held (λ none. absurd (cc)) in
      let found = view_from writer_of (m.state).views turns.holder held.0 held.1 in
      let v = found.0 in
      let has = subst (λ (w : ℕ × Hold). HasWriteTurn w.1) (sym found.2) held.2 in
      by_hold turns.holder (v.reserving).number v found.1 (v.writing).hold refl (turns.each turns.holder (writer_of v) (part_at writer_of (m.state).views turns.holder v found.1)) has

pub writer_is_somewhere : (m : Machine) → IsRunning m → (w : Plain) × HasWriter m w
writer_is_somewhere m run =
    let sound = run.sound in
    (sound.writer, by_turn m sound.writer (sound.locks).writing (write_turn (m.state).words) refl)

-- what the core's crash leaves, a crash of the machine's disk leaves
pub crashed_as : (core : Core) (m : Machine) (crash : CrashPick) (pick : Pick) (disk : MemDisk) → PlaysMachine (core_of core) m → pick ≡ pick_of crash
    → ((m : Machine) (w : Plain) → PlaysMachine (core_of core) m → HasWriter m w → IfSome (tape_from m.first w.calls) (λ tape. LeftAt tape (length tape.calls) (first_image disk)))
    → ((m : Machine) (w : Plain) → PlaysMachine (core_of core) m → HasWriter m w → IfSome (tape_from m.first w.calls) (λ tape. IsPicked (choice_of pick) (state_now tape) (first_image disk)))
    → IsCrashed crash m (first_state disk.first.items)
crashed_as core m crash pick disk k pick_is left picked =
    let has = writer_is_somewhere m k.running in
    let w = has.0 in
    let tape_is = ap (λ (x : DiskState × Plain). tape_from x.0 (x.1).calls) (λ i. (k.first_is i, writer_is_core's (core_of core) m k w has.1 i)) in
    record {
      writer = w;
      tape = record { at_first = first_state core.writer.disk.first.items; calls = core.writer.disk.calls.made.items };
      is_writer = has.1;
      tape_is = tape_is;
      left_then = subst (λ (x : Option Tape). IfSome x (λ tape. LeftAt tape (length tape.calls) (first_image disk))) tape_is (left m w k has.1);
      picked = subst (λ (p : Pick). IsPicked (choice_of p) (state_now (record { at_first = first_state core.writer.disk.first.items; calls = core.writer.disk.calls.made.items })) (first_image disk)) pick_is
          (subst (λ (x : Option Tape). IfSome x (λ tape. IsPicked (choice_of pick) (state_now tape) (first_image disk))) tape_is (picked m w k has.1));
    }
