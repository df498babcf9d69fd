use Rattle.std.proofs.Common.{◌∙◌}
use Rattle.backend_cli.proofs.outcome.tell_damage.Goals as goal

pub returns : goal.returns
returns g c = rw (c.as_bytes.ensures ∙ c.text.ensures, c.as_bytes-2.ensures.value) at c.put_all.ensures
