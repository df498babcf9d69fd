use Rattle.std.proofs.Common.{drop}
use Rattle.waldump_text.specs.Put.{HasPut}
use Rattle.backend_cli.specs.Printing.{told_lines_upward}
use Rattle.backend_cli.proofs.printing.put_told_lists.Given as goal

-- the backends so far are put, and those that are left are not
abbrev pub invariant-loop-number : goal.invariant-loop-number
invariant-loop-number g l =
    HasPut (g.O.Sink.taken l.initial.out) (g.O.Sink.taken l.out) (g.O.Sink.faults l.initial.out) (g.O.Sink.faults l.out)
    (told_lines_upward 0 l.backends) (told_lines_upward l.number (drop l.number l.backends))
