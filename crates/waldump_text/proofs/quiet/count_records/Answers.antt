use Rattle.std.proofs.Common.{◌≡◌, ℕ, ◌+◌, ◌∷◌, ◌++◌, [], true, false, List, Option, None, Result, Ok, Err, ap, subst, ◌∙◌, arith}
use Rattle.std.specs.Prelude.{IfSome}
use Rattle.std.proofs.lemmas.Result.{err_from_is_err_and}
use Rattle.waldump_filter.specs.Keeping.{is_reached}
use Rattle.wal_reader.specs.Filled.{step_with}
use Rattle.wal_reader.specs.SoFar.{MakesStep}
use Rattle.wal_reader.specs.declared.standing.ReadErr.{ReadErr}
use Rattle.wal_reader.specs.declared.standing.Step.{Step}
use Rattle.wal_reader.proofs.SoFarLaws.{read_first, read_more, read_none, read_to_end}
use Rattle.waldump_text.specs.Listing.{listed_of}
use Rattle.waldump_text.specs.Sifting.{listed_with}
use Rattle.waldump_text.proofs.DumpLaws.{Says, dump_ended, dump_failed, dump_reached}
use Rattle.waldump_text.proofs.ListingLaws.{IsWithin-none, Lists-more, Lists-none, Prints}
use Rattle.waldump_text.proofs.QuietLaws.{Prints-counted, one_from}
use Rattle.waldump_text.proofs.StepLaws.{GivesListed, gives_end, gives_listed}
use Rattle.waldump_text.proofs.quiet.count_records.Goals as goal
use Rattle.waldump_text.proofs.quiet.count_records.Goals.{In-Record, In_ok-step}

pub records-init : goal.records-init
records-init g c = record {
  found = [];
  so_far = read_none c.new-reader.ensures.valid c.new-reader.ensures.state
      c.new-reader.ensures.knows;
  lists = λ taken. Lists-none c.args.filter.now taken;
  within = IsWithin-none c.args.filter.now.limit;
}

makes : (g : _) (c : In_ok-step g) → MakesStep g.D.Disk.tape g.D.Disk.moment g.D.Disk.faults
    c.records.disk c.next_into.new.disk c.records.reader c.next_into.new.self
    (step_with c.next_into.new.value.spelled (Ok c.in_ok-step.step))
makes g c =
    let read = c.in_ok-step.ensures in
    record { gives = read.gives; leaves = read.leaves; uncalled = read.uncalled; cause = read.cause }

pub returns-in_err-step-clause-listed : goal.returns-in_err-step-clause-listed
returns-in_err-step-clause-listed g c = λ taken.
    let before = c.records.invariant in
    let read = c.in_err-step.ensures in
    let p = err_from_is_err_and c.from_residual.result c.from_residual.ensures.1 in
    let makes : MakesStep g.D.Disk.tape g.D.Disk.moment g.D.Disk.faults c.records.disk
    c.next_into.new.disk c.records.reader c.next_into.new.self (Err c.in_err-step.field-0.0) =
    record { gives = read.gives; leaves = read.leaves; uncalled = read.uncalled; cause = read.cause } in
    let unreached : is_reached c.args.filter.now.limit c.records.count ≡ false = cc in
    rw (p.1, p.2) (dump_failed c.args.geometry c.args.filter.now before.so_far.valid c.requires.plain
    taken before.found taken c.records.count (before.lists taken) before.within
    (g.D.Disk.tape c.args.disk.now) _ (read_to_end before.so_far makes) unreached)

-- the step to the record that is counted
gives : (g : _) (c : In-Record g) → GivesListed c.next_into.new.value.spelled c.in_ok-step.step
    (listed_with c.next_into.new.value.spelled c.in-Record.head)
gives g c =
    gives_listed c.next_into.new.value.spelled c.in_ok-step.step c.in-Record.head c.in-Record.is

pub overflow_add-count : goal.overflow_add-count
overflow_add-count g c =
    let before = c.records.invariant in
    let lists = before.lists None in
    omega (arith, lists.few, before.so_far.few, c.counted-count.ensures.one)

pub records-preserved : goal.records-preserved
records-preserved g c =
    let at = goal.at.records-preserved g c in
    let before = c.records.invariant in
    let by = c.args.filter.now in
    let given = gives g at.In-Record in
    let f = given.found in
    let more = c.records.count + c.counted-count.result in
    let unreached : is_reached by.limit c.records.count ≡ false = cc in
    let prints : (taken : Option (List ℕ)) → Prints by f taken taken c.records.count more =
    λ taken. Prints-counted by f taken c.records.count c.counted-count.result c.requires.quiet
    (c.requires.keeps (listed_of f))
    (c.counted-count.ensures.counts ∙ ap (one_from by.start.0) given.listed_is) unreached
    before.within in
    record {
      found = before.found ++ f ∷ [];
      so_far = read_more before.so_far (makes g at.In_ok-step) f given.step_is;
      lists = λ taken. Lists-more by taken before.found taken c.records.count (before.lists taken) f
          taken more (prints taken);
      within = (prints None).within;
    }

pub returns-in_default-clause-listed : goal.returns-in_default-clause-listed
returns-in_default-clause-listed g c = λ taken.
    let at = goal.at.returns-in_default-clause-listed g c in
    let before = c.records.invariant in
    let by = c.args.filter.now in
    let tape = g.D.Disk.tape c.args.disk.now in
    let ends =
    gives_end c.next_into.new.value.spelled c.in_ok-step.step c.in_default.not-Record in
    let says = subst (λ (step : Result Step ReadErr). IfSome tape (Says c.args.geometry by
    before.found step)) ends.1 (read_to_end before.so_far (makes g at.In_ok-step)) in
    dump_ended c.args.geometry by before.so_far.valid c.requires.plain taken before.found taken
    c.records.count (before.lists taken) before.within tape ends.0 says

pub returns-clause-listed : goal.returns-clause-listed
returns-clause-listed g c = λ taken.
    let before = c.records.invariant in
    let reached : is_reached c.args.filter.now.limit c.records.count ≡ true = cc in
    dump_reached c.args.geometry c.args.filter.now before.so_far.valid c.requires.plain taken
    before.found taken c.records.count (before.lists taken) before.within
    (g.D.Disk.tape c.args.disk.now) (read_first before.so_far) reached
