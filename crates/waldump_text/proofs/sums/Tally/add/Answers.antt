use Rattle.std.proofs.Common.{ℕ, ◌≡◌, ◌+◌, ◌^◌, set, ap, sym, ◌∙◌, arith}
use Rattle.waldump_filter.specs.declared.listed.Listed.{Listed}
use Rattle.waldump_text.specs.Sums.{images_len}
use Rattle.waldump_text.specs.Tally.{own_sums}
use Rattle.waldump_text.specs.Weights.{Weighs}
use Rattle.waldump_text.specs.declared.sums.Sums.{Sums}
use Rattle.waldump_text.specs.declared.sums.Tally.{Tally}
use Rattle.waldump_text.specs.declared.weighing.Weight.{Weight}
use Rattle.waldump_text.proofs.TallyLaws.{IsAdded, SumsFit-less, TallyFits-added, Tallies-added, with_one}
use Rattle.waldump_text.proofs.sums.Tally.add.Goals as goal
use Rattle.waldump_text.proofs.sums.Tally.add.Goals.{After-with}

pub with-requires-clause-bounded : goal.with-requires-clause-bounded
with-requires-clause-bounded c = SumsFit-less c.args.self.now.all.records (2 ^ 64) _ (omega arith) (c.requires.sound.own c.args.weight.rmid)

-- the tally behind the record
abbrev behind : After-with → Tally
behind c = record { own = set c.args.self.now.own c.args.weight.rmid c.with.result; all = c.with-self.result }

-- sums with a record more that weighs so
weighed : (r : Listed) (w : Weight) (sums : Sums) → Weighs r w → record { records = sums.records + 1; images = sums.images + w.images; total = sums.total + w.total } ≡ with_one r sums
weighed r w sums weighs =
    ap (λ (n : ℕ). let more : Sums = record { records = sums.records + 1; images = sums.images + n; total = sums.total + w.total } in more) (sym weighs.images)
    ∙ ap (λ (n : ℕ). let more : Sums = record { records = sums.records + 1; images = sums.images + images_len r.value.blocks; total = sums.total + n } in more) (sym weighs.total)

is_added : (c : After-with) (r : Listed) → Weighs r c.args.weight → IsAdded c.args.self.now r (behind c)
is_added c r weighs =
    record {
      all = c.with-self.ensures ∙ weighed r c.args.weight c.args.self.now.all weighs;
      own =
          ap (set c.args.self.now.own c.args.weight.rmid) (c.with.ensures ∙ weighed r c.args.weight (own_sums c.args.self.now c.args.weight.rmid) weighs)
          ∙ ap (λ (n : ℕ). set c.args.self.now.own n (with_one r (own_sums c.args.self.now n))) (sym weighs.manager);
    }

pub returns-clause-sound : goal.returns-clause-sound
returns-clause-sound c =
    let here = (goal.at.returns-clause-sound c).After-with in
    let r = c.requires.weighs.0 in
    let listable = c.requires.weighs.1 in
    let weighs = c.requires.weighs.2 in
    TallyFits-added c.args.self.now (behind here) r (is_added here r weighs) c.requires.sound.managers (omega (arith, weighs.manager)) c.requires.sound listable.images (omega (arith, weighs.total)) listable.manager

pub returns-clause-tallies : goal.returns-clause-tallies
returns-clause-tallies c = λ records r weighs.
    (let here = (goal.at.returns-clause-tallies c).After-with in
    Tallies-added c.args.self.now (behind here) r (is_added here r weighs) c.requires.sound.managers (omega (arith, weighs.manager)) records)
