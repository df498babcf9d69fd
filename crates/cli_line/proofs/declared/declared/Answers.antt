use Rattle.std.proofs.Common.{◌≡◌, ◌∙◌, ap, ap₂, codes, rules, true}
use Rattle.std.proofs.lemmas.Result.{IfOk-weaker}
use Rattle.clap.specs.Words.{app_of, new_rule, with_rule}
use Rattle.clap.specs.Simple.{app_of_fields, on_top}
use Rattle.cli_line.specs.Syntax.{block_rules, extent_rules, form_rules, record_rules, script_rules, shape_rules, start_command}
use Rattle.cli_line.proofs.Declaring.{then_rules}
use Rattle.cli_line.proofs.declared.declared.Goals as goal

pub returns : goal.returns
returns c =
    let start : app_of c.version-command.result ≡ start_command = ap app_of_fields c.version-command.ensures ∙ ap (on_top (λ s. record s { has_version = true })) c.new.ensures.app in
    let command : app_of c.in_ok-command.command ≡ with_rule start_command (new_rule (codes "command")) = c.in_ok-command.ensures.shape (search rules) ∙ ap₂ with_rule start c.new-2.ensures.rule in
    let topic : app_of c.in_ok-command-2.command ≡ with_rule (with_rule start_command (new_rule (codes "command"))) (new_rule (codes "topic")) = c.in_ok-command-2.ensures.shape (search rules) ∙ ap₂ with_rule command c.new-3.ensures.rule in
    let of_shape = then_rules _ _ _ shape_rules topic c.in_ok-command-3.ensures in
    let of_script = then_rules _ _ _ script_rules of_shape c.in_ok-command-4.ensures in
    let of_record = then_rules _ _ _ record_rules of_script c.in_ok-command-5.ensures in
    let of_block = then_rules _ _ _ block_rules of_record c.in_ok-command-6.ensures in
    let of_extent = then_rules _ _ _ extent_rules of_block c.in_ok-command-7.ensures in
    IfOk-weaker c.with_form_options.result _ _ (λ new is. then_rules _ _ _ form_rules of_extent is) c.with_form_options.ensures
