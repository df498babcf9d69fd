use Rattle.std.proofs.Common.{◌≡◌}
use Rattle.run_script.specs.ScheduleMeaning.{after_line, after_words}
use Rattle.run_script.proofs.schedule.Schedule.add_line.Given as goal

-- the items so far with the words that are left are those of the line
abbrev pub invariant-loop-word : goal.invariant-loop-word
invariant-loop-word l = after_words l.backends l.line l.self l.word-iterator ≡ after_line l.backends l.line l.fn.self l.text
