use Rattle.std.proofs.Common.{codes}
use Rattle.std.proofs.lemmas.Result.{IfOk-weaker}
use Rattle.cli_line.specs.Syntax.{option_rule, switch_rule}
use Rattle.cli_line.proofs.Declaring.{then_rule}
use Rattle.cli_line.proofs.declared.with_record_options.Goals as goal

pub returns : goal.returns
returns c =
    let two = then_rule _ _ _ (option_rule (codes "xid") 120) c.in_ok-command.ensures c.in_ok-command-2.ensures in
    IfOk-weaker c.with_switch.result _ _ (λ new is. then_rule _ _ _ (switch_rule (codes "fullpage") 119) two is) c.with_switch.ensures
