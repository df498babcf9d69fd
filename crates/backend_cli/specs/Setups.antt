-- The setup of a log that a command opens.
use Rattle.std.specs.Prelude.{ℕ, ◌+◌}
use Rattle.machine_state.specs.declared.setup.Setup.{Setup}
use Rattle.cli_line.specs.declared.commands.RunOptions.{RunOptions}

-- the system id of each log that this program writes
abbrev pub system_id : ℕ
system_id = 1

-- it has that system id, and a pass for each backend and one more, which opens it
abbrev pub setup_asked : (segment_size ring_pages cap_segments backends : ℕ) → Setup
setup_asked segment_size ring_pages cap_segments backends = record {
  seg_size = segment_size;
  ring_pages = ring_pages;
  cap_segments = cap_segments;
  sysid = system_id;
  passes = backends + 1;
}

-- the setup of a run's log
abbrev pub run_setup : RunOptions → ℕ → Setup
run_setup options backends =
    setup_asked options.geometry options.ring_pages options.cap_segments backends
