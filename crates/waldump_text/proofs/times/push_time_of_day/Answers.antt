use Rattle.std.proofs.Common.{◌/◌, ◌%◌, [], ◌∷◌, codes}
use Rattle.waldump_text.specs.Digits.{six_digits, two_digits}
use Rattle.waldump_text.proofs.Pushing.{pushed-behind}
use Rattle.waldump_text.proofs.times.push_time_of_day.Goals as goal

pub returns-clause-text : goal.returns-clause-text
returns-clause-text c =
    let since = c.args.since in
    rw (
      c.push-7.ensures.text,
      c.push-6.ensures.text,
      c.push-5.ensures.text,
      c.push-4.ensures.text,
      c.push-3.ensures.text,
      c.push-2.ensures.text,
      c.push.ensures.text,
      c.six_digits.ensures,
      c.two_digits-3.ensures,
      c.two_digits-2.ensures,
      c.two_digits.ensures,
    )
    (pushed-behind c.args.text.now (two_digits (since / 3600000000))
    (codes ":" ∷ two_digits (since / 60000000 % 60) ∷ codes ":" ∷ two_digits (since / 1000000 % 60)
    ∷ codes "." ∷ six_digits (since % 1000000) ∷ []))
