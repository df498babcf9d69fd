-- A command declared option by option.
use Rattle.std.proofs.Common.{◌≡◌, ◌∙◌, ap, List}
use Rattle.std.specs.Prelude.{fold}
use Rattle.clap.specs.Words.{App, Rule, with_rule}

-- one more option
pub then_rule : (before app now : App) (rule : Rule) → before ≡ app → now ≡ with_rule before rule → now ≡ with_rule app rule
then_rule before app now rule was is = is ∙ ap (λ (a : App). with_rule a rule) was

-- some more options
pub then_rules : (before app now : App) (rules : List Rule) → before ≡ app → now ≡ fold with_rule before rules → now ≡ fold with_rule app rules
then_rules before app now rules was is = is ∙ ap (λ (a : App). fold with_rule a rules) was
