-- What was told is printed behind a text.
use Rattle.std.proofs.Common.{refl, subst, ◌++◌, Ok, Err, Result}
use Rattle.waldump_text.specs.Put.{Puts}
use Rattle.waldump_text.specs.declared.putting.SinkFault.{SinkFault}
use Rattle.waldump_text.proofs.SinkLaws.{HasPut-behind, HasPut-none, HasPut-whole, Puts-failed, Puts-last}
use Rattle.backend_cli.specs.Printing.{printed_text}
use Rattle.backend_cli.proofs.run.print_behind.Goals as goal

pub returns-in-Ok : goal.returns-in-Ok
returns-in-Ok g c = λ taken faults text puts.
    let printed = printed_text c.args.list c.args.backends.now c.args.summary.now in
    let put : Puts taken (g.O.Sink.taken c.args.out.now) faults (g.O.Sink.faults c.args.out.now)
    text (Ok tt) = subst (λ (begun : Result (Unit {0}) SinkFault). Puts taken
    (g.O.Sink.taken c.args.out.now) faults (g.O.Sink.faults c.args.out.now) text begun)
    c.in-Ok.is puts in
    Puts-last (g.O.Sink.taken c.print.new.out) (g.O.Sink.faults c.print.new.out) printed
    c.print.result (HasPut-behind printed (HasPut-whole text put.0 put.1)) refl c.print.ensures

pub returns-in-Err : goal.returns-in-Err
returns-in-Err g c = λ taken faults text puts.
    let printed = printed_text c.args.list c.args.backends.now c.args.summary.now in
    let put : Puts taken (g.O.Sink.taken c.args.out.now) faults (g.O.Sink.faults c.args.out.now)
    text (Err c.in-Err.fault) = subst (λ (begun : Result (Unit {0}) SinkFault). Puts taken
    (g.O.Sink.taken c.args.out.now) faults (g.O.Sink.faults c.args.out.now) text begun)
    c.in-Err.is puts in
    Puts-failed text printed c.in-Err.fault (HasPut-none taken faults (text ++ printed)) refl put
