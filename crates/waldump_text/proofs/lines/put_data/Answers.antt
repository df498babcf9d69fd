use Rattle.std.proofs.Common.{◌≡◌, ℕ, true, Bool, List, [], ◌++◌, ap, sym, ◌∙◌, append_assoc}
use Rattle.std.proofs.lemmas.List.{append-nil}
use Rattle.std.proofs.lemmas.Result.{err_from_is_err_and}
use Rattle.waldump_text.specs.Put.{HasPut}
use Rattle.waldump_text.specs.Listing.{commit_time_text, data_text, main_text}
use Rattle.wal_types.specs.declared.record.Record.{Record}
use Rattle.waldump_text.proofs.SinkLaws.{HasPut-further, HasPut-none, HasPut-same, Puts-failed}
use Rattle.waldump_text.proofs.lines.put_data.Goals as goal
use Rattle.waldump_text.proofs.lines.put_data.Goals.{In_ok-put_main}

-- the data behind what is held back: main data, and the rest
parts : (held main : List ℕ) (times : Bool) (value : Record) → main ≡ value.main → held ++ data_text times value ≡ (held ++ main_text main) ++ commit_time_text times value
parts held main times value is =
    sym (append_assoc held (main_text value.main) (commit_time_text times value))
    ∙ ap (λ (bytes : List ℕ). (held ++ main_text bytes) ++ commit_time_text times value) (sym is)

pub returns-in_err-put_main : goal.returns-in_err-put_main
returns-in_err-put_main g c =
    let p = err_from_is_err_and c.from_residual.result c.from_residual.ensures.1 in
    rw (p.1, p.2) (Puts-failed _ (commit_time_text c.args.times c.args.value.now) _ (HasPut-none _ _ _) (parts c.args.buffer.now _ c.args.times c.args.value.now c.as_slice.ensures) c.in_err-put_main.ensures)

-- all but the time is put, up to what is held back
main_put : (g : _) (c : In_ok-put_main g) → HasPut (g.O.Sink.taken c.args.out.now) (g.O.Sink.taken c.put_main.new.out) (g.O.Sink.faults c.args.out.now) (g.O.Sink.faults c.put_main.new.out) (c.args.buffer.now ++ data_text c.args.times c.args.value.now) (c.put_main.new.buffer ++ commit_time_text c.args.times c.args.value.now)
main_put g c = HasPut-further (c.args.buffer.now ++ main_text c.as_slice.result.now) (commit_time_text c.args.times c.args.value.now) (HasPut-none _ _ _) (parts c.args.buffer.now _ c.args.times c.args.value.now c.as_slice.ensures) c.in_ok-put_main.ensures

timed : (held : List ℕ) (times : Bool) (value : Record) → times ≡ true → held ++ commit_time_text times value ≡ (held ++ commit_time_text true value) ++ []
timed held times value is = rw is (sym (append-nil (held ++ commit_time_text true value)))

pub returns-in_err-put_commit_time : goal.returns-in_err-put_commit_time
returns-in_err-put_commit_time g c =
    let upto = main_put g ((goal.at.returns-in_err-put_commit_time g c).In_ok-put_main) in
    let p = err_from_is_err_and c.from_residual-in_err-put_commit_time.result c.from_residual-in_err-put_commit_time.ensures.1 in
    rw (p.1, p.2) (Puts-failed _ [] _ upto (timed c.put_main.new.buffer c.args.times c.args.value.now c.if-times.true) c.in_err-put_commit_time.ensures)

pub returns-in_ok-put_commit_time : goal.returns-in_ok-put_commit_time
returns-in_ok-put_commit_time g c =
    let upto = main_put g ((goal.at.returns-in_ok-put_commit_time g c).In_ok-put_main) in
    HasPut-same (HasPut-further _ [] upto (timed c.put_main.new.buffer c.args.times c.args.value.now c.if-times.true) c.in_ok-put_commit_time.ensures) (append-nil _)
