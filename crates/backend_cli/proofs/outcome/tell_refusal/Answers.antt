use Rattle.std.proofs.Common.{◌∙◌}
use Rattle.backend_cli.proofs.outcome.tell_refusal.Goals as goal

pub returns : goal.returns
returns g c =
    let line = c.as_bytes.ensures.value ∙ c.format-line.ensures.text in
    let name = c.as_bytes-2.ensures.value ∙ c.name.ensures in
    rw (line, name) at c.put_all.ensures
