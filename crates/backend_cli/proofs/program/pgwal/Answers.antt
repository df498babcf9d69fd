use Rattle.backend_cli.proofs.CallLaws.{append_headline_of_call, headline_of_call}
use Rattle.backend_cli.proofs.program.pgwal.Goals as goal

pub returns-clause-headline : goal.returns-clause-headline
returns-clause-headline g c = λ size lines asks opened.
    headline_of_call _ _ _ _ _ c.obey_words-outcome.ensures.obeys size lines asks opened

pub returns-clause-append_headline : goal.returns-clause-append_headline
returns-clause-append_headline g c = λ size lines asks opened.
    append_headline_of_call _ _ _ _ _ c.obey_words-outcome.ensures.obeys size lines asks opened
