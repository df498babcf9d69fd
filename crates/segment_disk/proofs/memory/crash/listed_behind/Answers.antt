use Rattle.std.proofs.Common.{◌≡◌, ◌*◌, ℕ, length, drop, min, ap, ◌∙◌, arith}
use Rattle.std.proofs.lemmas.List.{take_rest, drop_min}
use Rattle.segment_disk.proofs.memory.crash.listed_behind.Goals as goal

pub returns : goal.returns
returns c =
    let numbers = c.args.numbers.now in
    let cut : c.min.result ≡ min (1024 * c.args.pages) (length numbers) = omega arith in
    take_rest numbers c.min.result ∙ ap (λ (n : ℕ). drop n numbers) cut ∙ drop_min (1024 * c.args.pages) numbers
