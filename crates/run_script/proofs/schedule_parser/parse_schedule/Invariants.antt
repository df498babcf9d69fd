use Rattle.std.proofs.Common.{◌≡◌, ◌+◌, ◌==◌, length}
use Rattle.std.specs.List.{slice_split}
use Rattle.run_script.specs.ScheduleMeaning.{after_lines, schedule_of}
use Rattle.run_script.proofs.schedule_parser.parse_schedule.Given as goal

-- the items so far with the lines that are left are those of all
abbrev pub invariant-loop-text : goal.invariant-loop-text
invariant-loop-text l = record {
  meaning : after_lines l.backends l.number l.schedule l.text-iterator ≡ schedule_of l.backends l.first_line l.bytes;
  count : l.number + length l.text-iterator ≡ l.first_line + length (slice_split (λ c. c == 10) l.bytes);
}
