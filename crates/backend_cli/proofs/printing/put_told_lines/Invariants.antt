use Rattle.std.proofs.Common.{length, drop}
use Rattle.waldump_text.specs.Put.{HasPut}
use Rattle.backend_cli.specs.Printing.{told_lines}
use Rattle.backend_cli.proofs.printing.put_told_lines.Given as goal

-- the lines so far are put, and those of the lines that are left are not
abbrev pub invariant-loop-line : goal.invariant-loop-line
invariant-loop-line g l =
    HasPut (g.O.Sink.taken l.initial.out) (g.O.Sink.taken l.out) (g.O.Sink.faults l.initial.out) (g.O.Sink.faults l.out)
    (told_lines l.backend l.lines l.told) (told_lines l.backend (drop (length l.yielded) l.lines) (drop (length l.yielded) l.told))
