use Rattle.std.proofs.Common.{◌≡◌, true, false, refl, subst, sym, ◌∙◌}
use Rattle.std.proofs.lemmas.Bool.{le-leb, lt-leb}
use Rattle.waldump_filter.specs.declared.Filter.{Filter}
use Rattle.waldump_filter.specs.Keeping.{keeps}
use Rattle.waldump_text.specs.Sifting.{listed_with}
use Rattle.waldump_text.proofs.SiftingLaws.{before_not_kept, met_is_kept, refused_not_kept}
use Rattle.waldump_text.proofs.weighing.Weighed.weight.Goals as goal

pub returns-then-not-self : goal.returns-then-not-self
returns-then-not-self g c =
    let self = c.args.self.now in
    let none : self.meets ≡ false = cc in
    let r = listed_with self.unkept.spelled c.args.head in
    subst (λ (by : Filter). keeps by r ≡ false) self.own (refused_not_kept self.filter r (sym self.met ∙ none))

pub returns-then-self-head : goal.returns-then-self-head
returns-then-self-head g c =
    let self = c.args.self.now in
    let some : self.meets ≡ true = cc in
    let r = listed_with self.unkept.spelled c.args.head in (
      subst (λ (by : Filter). keeps by r ≡ true) self.own (met_is_kept self.filter r (le-leb _ _ c.if-self-head.true) (sym self.met ∙ some)),
      record { manager = sym self.manager; images = sym self.imaged; total = refl },
    )

pub returns : goal.returns
returns g c =
    let self = c.args.self.now in
    let r = listed_with self.unkept.spelled c.args.head in
    subst (λ (by : Filter). keeps by r ≡ false) self.own (before_not_kept self.filter r (lt-leb _ _ c.if-self-head.false))
