use Rattle.waldump_text.proofs.SiftingLaws.{refused_passed_over}
use Rattle.waldump_text.proofs.sifting.Sifted.keeps.Goals as goal

pub returns-then-self-clause-keeps : goal.returns-then-self-clause-keeps
returns-then-self-clause-keeps g c =
    let self = c.args.self.now in
    refused_passed_over self.filter g.B.ByFilter.filter self.refused self.unkept.spelled self.listed.value c.args.head self.own c.if-self.true self.refuses
