use Rattle.std.proofs.Common.{sym, ◌∙◌}
use Rattle.std.proofs.lemmas.Bool.{not-true}
use Rattle.waldump_filter.proofs.KeepingLaws.{without_rules-keeps}
use Rattle.waldump_filter.proofs.Filter.only_counts.Goals as goal

pub returns-then-self-clause-keeps : goal.returns-then-self-clause-keeps
returns-then-self-clause-keeps c = λ counts r.
    without_rules-keeps c.args.self.now r (sym c.has_rules.ensures ∙ not-true c.has_rules.result counts)
