use Rattle.run_laws.proofs.Promises.{within_order, within_words}
use Rattle.run_laws.proofs.closed_logs.promises_name_no_more_than_the_words.Goals as goal

pub returns-clause-words : goal.returns-clause-words
returns-clause-words c = λ first opening words home views k id v here entries p was.
    within_words opening words home views k id v here entries p was

pub returns-clause-reserved : goal.returns-clause-reserved
returns-clause-reserved c = λ first opening words home views k id v here entries p was.
    within_order opening words home views k id v here entries p was
