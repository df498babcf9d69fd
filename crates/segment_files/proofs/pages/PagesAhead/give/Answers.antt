use Rattle.std.proofs.Common.{◌≡◌, ℕ, ◌+◌, ◌-◌, ◌*◌, List, take, drop, arith, ap, ◌∙◌}
use Rattle.segment_files.proofs.pages.PagesAhead.give.Goals as goal

pub returns-clause-given : goal.returns-clause-given
returns-clause-given c = λ _.
    let start = (c.args.page - c.args.self.now.first) * 8192 in
    let length : start + 8192 - start ≡ 8192 = omega arith in
    record {
      low = omega arith;
      high = omega arith;
      not_given = omega arith;
      given = λ h. omega (arith, c.saturating_add-self.ensures);
      bytes_are =
          c.copy_from_slice.ensures.after
          ∙ ap (λ (n : ℕ). take n (drop start c.deref.result.now)) length
          ∙ ap (λ (l : List ℕ). take 8192 (drop start l)) c.deref.ensures.value;
    }
