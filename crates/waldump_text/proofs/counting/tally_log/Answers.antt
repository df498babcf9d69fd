use Rattle.std.proofs.Common.{◌≡◌, ◌∷◌, ◌++◌, [], true, false, Option, Some, None, Result, Ok, Err, subst, sym, refl, arith}
use Rattle.std.specs.Prelude.{IfSome}
use Rattle.std.proofs.lemmas.Result.{err_from_is_err_and}
use Rattle.waldump_filter.specs.Keeping.{is_reached, keeps}
use Rattle.wal_reader.specs.Filled.{step_with}
use Rattle.wal_reader.specs.SoFar.{MakesStep}
use Rattle.waldump_filter.specs.declared.Filter.{Filter}
use Rattle.waldump_filter.specs.declared.listed.Listed.{Listed}
use Rattle.waldump_text.specs.Listing.{IsListable, listed_of}
use Rattle.waldump_text.specs.Sifting.{listed_with}
use Rattle.waldump_text.specs.Weights.{TellsWeight, Weighs}
use Rattle.waldump_text.specs.declared.weighing.Weight.{Weight}
use Rattle.wal_reader.specs.declared.standing.ReadErr.{ReadErr}
use Rattle.wal_reader.specs.declared.standing.Step.{Step}
use Rattle.wal_reader.proofs.SoFarLaws.{read_first, read_more, read_none, read_to_end}
use Rattle.waldump_text.proofs.CountingLaws.{Adds, Adds-kept, Adds-passed_over, IsTallied-more, IsTallied-none, tally_ended, tally_failed, tally_reached}
use Rattle.waldump_text.proofs.DumpLaws.{Says}
use Rattle.waldump_text.proofs.ListingLaws.{IsWithin, IsWithin-none}
use Rattle.waldump_text.proofs.StepLaws.{GivesListed, gives_end, gives_listable, gives_listed, kept_too}
use Rattle.waldump_text.proofs.counting.tally_log.Goals as goal
use Rattle.waldump_text.proofs.counting.tally_log.Goals.{In-Record, In_ok-step}

-- what is told of a record that has a weight
weight_told : (filter : Filter) (r : Listed) (told : Option Weight) (w : Weight) → told ≡ Some w → TellsWeight filter r told → (keeps filter r ≡ true) × Weighs r w
weight_told filter r told w is tells = subst (TellsWeight filter r) is tells

none_told : (filter : Filter) (r : Listed) (told : Option Weight) → ((w : Weight) → told ≡ Some w → ⊥) → TellsWeight filter r told → keeps filter r ≡ false
none_told filter r None none tells = tells
none_told filter r (Some w) none tells = absurd (none w refl)

pub records-init : goal.records-init
records-init g c = record {
  found = [];
  so_far = read_none c.new-reader.ensures.valid c.new-reader.ensures.state
      c.new-reader.ensures.knows;
  tallied = IsTallied-none c.args.filter.now c.new-tally.result c.new-tally.ensures.tallies
      c.new-tally.ensures.none;
  sound = c.new-tally.ensures.sound;
  within = subst (IsWithin c.args.filter.now.limit) (sym c.new-tally.ensures.none)
      (IsWithin-none c.args.filter.now.limit);
}

makes : (g : _) (c : In_ok-step g) → MakesStep g.D.Disk.tape g.D.Disk.moment g.D.Disk.faults
    c.records.disk c.next_into.new.disk c.records.reader c.next_into.new.self
    (step_with c.next_into.new.value.unkept.spelled (Ok c.in_ok-step.step))
makes g c =
    let read = c.in_ok-step.ensures in
    record { gives = read.gives; leaves = read.leaves; uncalled = read.uncalled; cause = read.cause }

-- the step to the record that is weighed
gives : (g : _) (c : In-Record g) → GivesListed c.next_into.new.value.unkept.spelled
    c.in_ok-step.step (listed_with c.next_into.new.value.unkept.spelled c.in-Record.head)
gives g c =
    gives_listed c.next_into.new.value.unkept.spelled c.in_ok-step.step c.in-Record.head
    c.in-Record.is

listable : (g : _) (c : In-Record g) → IsListable (listed_of (gives g c).found)
listable g c =
    gives_listable c.next_into.new.value.unkept.spelled c.in_ok-step.step _ (gives g c)
    c.in_ok-step.ensures.spelled

pub add-requires-clause-few : goal.add-requires-clause-few
add-requires-clause-few g c =
    let before = c.records.invariant in
    omega (arith, before.tallied.few, before.so_far.few)

pub add-requires-clause-weighs : goal.add-requires-clause-weighs
add-requires-clause-weighs g c =
    let step = (goal.at.add-requires-clause-weighs g c).In-Record in
    let r = listed_with c.next_into.new.value.unkept.spelled c.in-Record.head in
    let told = weight_told g.B.ByFilter.filter r c.weight.result c.in-Some.weight c.in-Some.is
    c.weight.ensures in
    (r, subst IsListable (sym (gives g step).listed_is) (listable g step), told.1)

pub records-preserved-in-Some : goal.records-preserved-in-Some
records-preserved-in-Some g c =
    let at = goal.at.records-preserved-in-Some g c in
    let before = c.records.invariant in
    let by = c.args.filter.now in
    let given = gives g at.In-Record in
    let f = given.found in
    let unreached : is_reached by.limit c.records.tally.all.records ≡ false = cc in
    let told = weight_told g.B.ByFilter.filter
    (listed_with c.next_into.new.value.unkept.spelled c.in-Record.head) c.weight.result
    c.in-Some.weight c.in-Some.is c.weight.ensures in
    let keeps_it : keeps by (listed_of f) ≡ true =
    kept_too g.B.ByFilter.filter by true _ _ (sym c.requires) given.listed_is told.0 in
    let weighs = subst (λ (r : Listed). Weighs r c.in-Some.weight) given.listed_is told.1 in
    let adds : Adds by f c.records.tally c.add.new.self =
    Adds-kept by f c.records.tally c.add.new.self keeps_it
    (λ records upto. c.add.ensures.tallies records (listed_of f) weighs upto)
    c.add.ensures.counted unreached c.add.ensures.sound in
    record {
      found = before.found ++ f ∷ [];
      so_far = read_more before.so_far (makes g at.In_ok-step) f given.step_is;
      tallied = IsTallied-more by before.found c.records.tally before.tallied f _ adds;
      sound = adds.sound;
      within = adds.within;
    }

pub records-preserved : goal.records-preserved
records-preserved g c =
    let at = goal.at.records-preserved g c in
    let before = c.records.invariant in
    let by = c.args.filter.now in
    let given = gives g at.In-Record in
    let f = given.found in
    let passes : keeps by (listed_of f) ≡ false =
    kept_too g.B.ByFilter.filter by false _ _ (sym c.requires) given.listed_is
    (none_told g.B.ByFilter.filter _ c.weight.result c.in_default-weight.not-Some c.weight.ensures) in
    let adds : Adds by f c.records.tally c.records.tally =
    Adds-passed_over by f c.records.tally c.records.tally passes refl before.within before.sound in
    record {
      found = before.found ++ f ∷ [];
      so_far = read_more before.so_far (makes g at.In_ok-step) f given.step_is;
      tallied = IsTallied-more by before.found c.records.tally before.tallied f c.records.tally adds;
      sound = adds.sound;
      within = adds.within;
    }

pub returns-in_err-step-clause-tallied : goal.returns-in_err-step-clause-tallied
returns-in_err-step-clause-tallied g c =
    let before = c.records.invariant in
    let read = c.in_err-step.ensures in
    let p = err_from_is_err_and c.from_residual.result c.from_residual.ensures.1 in
    let makes : MakesStep g.D.Disk.tape g.D.Disk.moment g.D.Disk.faults c.records.disk
    c.next_into.new.disk c.records.reader c.next_into.new.self (Err c.in_err-step.field-0.0) =
    record { gives = read.gives; leaves = read.leaves; uncalled = read.uncalled; cause = read.cause } in
    let unreached : is_reached c.args.filter.now.limit c.records.tally.all.records ≡ false = cc in
    rw (p.1, p.2) (tally_failed c.args.filter.now before.found c.records.tally before.tallied
    c.args.geometry before.within (g.D.Disk.tape c.args.disk.now) _
    (read_to_end before.so_far makes) unreached)

pub returns-in_default-clause-tallied : goal.returns-in_default-clause-tallied
returns-in_default-clause-tallied g c =
    let at = goal.at.returns-in_default-clause-tallied g c in
    let before = c.records.invariant in
    let by = c.args.filter.now in
    let tape = g.D.Disk.tape c.args.disk.now in
    let ends =
    gives_end c.next_into.new.value.unkept.spelled c.in_ok-step.step c.in_default.not-Record in
    let says = subst (λ (step : Result Step ReadErr). IfSome tape (Says c.args.geometry by
    before.found step)) ends.1 (read_to_end before.so_far (makes g at.In_ok-step)) in
    tally_ended by before.found c.records.tally before.tallied c.args.geometry before.within tape
    ends.0 says

pub returns-clause-tallied : goal.returns-clause-tallied
returns-clause-tallied g c =
    let before = c.records.invariant in
    let reached : is_reached c.args.filter.now.limit c.records.tally.all.records ≡ true = cc in
    tally_reached c.args.filter.now before.found c.records.tally before.tallied c.args.geometry
    before.within (g.D.Disk.tape c.args.disk.now) (read_first before.so_far) reached
