use Rattle.std.proofs.Common.{◌≡◌, ℕ, ◌+◌, true, false, List, [], ◌∷◌, ◌++◌, take, Result, Ok, Err, if◌then◌else◌, ap, refl, subst, sym, ◌∙◌, arith}
use Rattle.std.specs.Prelude.{IfSome}
use Rattle.std.proofs.lemmas.Result.{err_from_is_err_and}
use Rattle.segment_disk.specs.Stream.{with_behind}
use Rattle.waldump_filter.specs.Keeping.{is_reached, keeps}
use Rattle.wal_reader.specs.Filled.{step_with}
use Rattle.wal_reader.specs.SoFar.{MakesStep}
use Rattle.wal_reader.proofs.SoFarLaws.{read_first, read_more, read_none, read_to_end}
use Rattle.wal_types.specs.declared.record.Record.{Record}
use Rattle.waldump_filter.specs.declared.listed.Listed.{Listed}
use Rattle.wal_reader.specs.declared.standing.ReadErr.{ReadErr}
use Rattle.wal_reader.specs.declared.standing.Step.{Step}
use Rattle.waldump_text.specs.Listing.{IsListable, line_text, listed_of}
use Rattle.waldump_text.specs.Sifting.{held_of, listed_with}
use Rattle.waldump_text.proofs.DumpLaws.{Says, dump_cut, dump_ended, dump_failed, dump_reached}
use Rattle.waldump_text.proofs.ListingLaws.{IsWithin-more, IsWithin-none, Lists-more, Lists-none, Prints, Prints-kept, Prints-passed_over, kept, printed-one}
use Rattle.waldump_text.proofs.StepLaws.{GivesListed, gives_end, gives_listable, gives_listed, kept_too}
use Rattle.waldump_text.proofs.dumping.dump_lines.Goals as goal
use Rattle.waldump_text.proofs.dumping.dump_lines.Goals.{In-Record, In_ok-step}

pub records-init : goal.records-init
records-init g c = record {
  found = [];
  so_far = read_none c.new-reader.ensures.valid c.new-reader.ensures.state
      c.new-reader.ensures.knows;
  lists = Lists-none c.args.filter.now (g.O.Sink.taken c.args.out.now);
  within = IsWithin-none c.args.filter.now.limit;
  empty = c.new-buffer.ensures;
  sink_faults = refl;
}

pub returns-in_err-step-clause-listed : goal.returns-in_err-step-clause-listed
returns-in_err-step-clause-listed g c =
    let before = c.records.invariant in
    let read = c.in_err-step.ensures in
    let p = err_from_is_err_and c.from_residual.result c.from_residual.ensures.1 in
    let makes : MakesStep g.D.Disk.tape g.D.Disk.moment g.D.Disk.faults c.records.disk
    c.next_into.new.disk c.records.reader c.next_into.new.self (Err c.in_err-step.field-0.0) =
    record { gives = read.gives; leaves = read.leaves; uncalled = read.uncalled; cause = read.cause } in
    let unreached : is_reached c.args.filter.now.limit c.records.count ≡ false = cc in
    rw (p.1, p.2) (dump_failed c.args.geometry c.args.filter.now before.so_far.valid c.requires.plain
    _ before.found _ c.records.count before.lists before.within (g.D.Disk.tape c.args.disk.now) _
    (read_to_end before.so_far makes) unreached)

-- the record that was read
abbrev held : (g : _) (c : In-Record g) → Record
held g c =
    let sifted = c.next_into.new.value in
    held_of sifted.refused sifted.unkept.spelled sifted.listed.value

makes : (g : _) (c : In_ok-step g) → MakesStep g.D.Disk.tape g.D.Disk.moment g.D.Disk.faults
    c.records.disk c.next_into.new.disk c.records.reader c.next_into.new.self
    (step_with (held_of c.next_into.new.value.refused c.next_into.new.value.unkept.spelled
    c.next_into.new.value.listed.value) (Ok c.in_ok-step.step))
makes g c =
    let read = c.in_ok-step.ensures in
    record { gives = read.gives; leaves = read.leaves; uncalled = read.uncalled; cause = read.cause }

-- the step to the record that is listed
gives : (g : _) (c : In-Record g) → GivesListed (held g c) c.in_ok-step.step
    (listed_with (held g c) c.in-Record.head)
gives g c = gives_listed (held g c) c.in_ok-step.step c.in-Record.head c.in-Record.is

pub overflow_add-count : goal.overflow_add-count
overflow_add-count g c =
    let before = c.records.invariant in
    omega (arith, before.lists.few, before.so_far.few)

pub print-requires-clause-listable : goal.print-requires-clause-listable
print-requires-clause-listable g c =
    let step = (goal.at.print-requires-clause-listable g c).In-Record in
    let given = gives g step in
    let kept : c.keeps.result ≡ true = cc in
    let listable : IsListable (listed_of given.found) =
    gives_listable (held g step) c.in_ok-step.step _ given c.in_ok-step.ensures.spelled in
    rw (c.keeps.ensures.listed kept ∙ given.listed_is) listable

pub returns-in_err-print-clause-listed : goal.returns-in_err-print-clause-listed
returns-in_err-print-clause-listed g c =
    let at = goal.at.returns-in_err-print-clause-listed g c in
    let given = gives g at.In-Record in
    let f = given.found in
    let p = err_from_is_err_and c.from_residual-in_err-print.result
    c.from_residual-in_err-print.ensures.1 in
    let by = c.args.filter.now in
    let before = c.records.invariant in
    let tape = g.D.Disk.tape c.args.disk.now in
    let unreached : is_reached by.limit c.records.count ≡ false = cc in
    let is_kept : c.keeps.result ≡ true = cc in
    let listed_is = c.keeps.ensures.listed is_kept ∙ given.listed_is in
    let keeps_it : keeps by (listed_of f) ≡ true =
    kept_too g.B.ByFilter.filter by true _ _ (sym c.requires.by) given.listed_is
    (sym c.keeps.ensures.keeps ∙ is_kept) in
    let taken = subst (λ (text : List ℕ). (n : ℕ) × (g.O.Sink.taken c.print.new.out
    ≡ with_behind (g.O.Sink.taken c.records.out) (take n text)))
    (ap (λ (r : Listed). if by.quiet then [] else line_text by.times r) listed_is
    ∙ printed-one by f) c.in_err-print.ensures.put.0 in
    let so_far = read_more before.so_far (makes g at.In_ok-step) f given.step_is in
    rw (p.1, p.2) (dump_cut c.args.geometry by before.so_far.valid c.requires.plain _ before.found _
    c.records.count before.lists _ tape f (f ∷ []) (kept by f keeps_it) c.in_err-print.field-0.0
    (read_first so_far) (IsWithin-more by.limit c.records.count unreached) taken)

pub records-preserved-then-keeps : goal.records-preserved-then-keeps
records-preserved-then-keeps g c =
    let at = goal.at.records-preserved-then-keeps g c in
    let given = gives g at.In-Record in
    let f = given.found in
    let before = c.records.invariant in
    let by = c.args.filter.now in
    let out = g.O.Sink.taken c.records.out in
    let now = g.O.Sink.taken c.print.new.out in
    let count = c.records.count in
    let is_kept : c.keeps.result ≡ true = cc in
    let listed_is = c.keeps.ensures.listed is_kept ∙ given.listed_is in
    let keeps_it : keeps by (listed_of f) ≡ true =
    kept_too g.B.ByFilter.filter by true _ _ (sym c.requires.by) given.listed_is
    (sym c.keeps.ensures.keeps ∙ is_kept) in
    let unreached : is_reached by.limit c.records.count ≡ false = cc in
    let taken = c.in_ok-print.ensures.put.0
    ∙ ap (λ (r : Listed). with_behind out (if by.quiet then [] else line_text by.times r)) listed_is
    in
    let prints : Prints by f out now count (count + 1) =
    Prints-kept by f out now count (count + 1) keeps_it taken refl unreached in
    record {
      found = before.found ++ f ∷ [];
      so_far = read_more before.so_far (makes g at.In_ok-step) f given.step_is;
      lists = Lists-more by _ before.found out count before.lists f now (count + 1) prints;
      within = prints.within;
      empty = c.in_ok-print.ensures.empty;
      sink_faults = c.in_ok-print.ensures.put.1 ∙ before.sink_faults;
    }

pub records-preserved : goal.records-preserved
records-preserved g c =
    let at = goal.at.records-preserved g c in
    let given = gives g at.In-Record in
    let f = given.found in
    let before = c.records.invariant in
    let by = c.args.filter.now in
    let out = g.O.Sink.taken c.records.out in
    let count = c.records.count in
    let is_refused : c.keeps.result ≡ false = cc in
    let passes : keeps by (listed_of f) ≡ false =
    kept_too g.B.ByFilter.filter by false _ _ (sym c.requires.by) given.listed_is
    (sym c.keeps.ensures.keeps ∙ is_refused) in
    let prints : Prints by f out out count count =
    Prints-passed_over by f out out count count passes refl refl before.within in
    record {
      found = before.found ++ f ∷ [];
      so_far = read_more before.so_far (makes g at.In_ok-step) f given.step_is;
      lists = Lists-more by _ before.found out count before.lists f out count prints;
      within = prints.within;
      empty = before.empty;
      sink_faults = before.sink_faults;
    }

pub returns-in_default-clause-listed : goal.returns-in_default-clause-listed
returns-in_default-clause-listed g c =
    let at = goal.at.returns-in_default-clause-listed g c in
    let before = c.records.invariant in
    let by = c.args.filter.now in
    let tape = g.D.Disk.tape c.args.disk.now in
    let sifted = c.next_into.new.value in
    let read = held_of sifted.refused sifted.unkept.spelled sifted.listed.value in
    let ends = gives_end read c.in_ok-step.step c.in_default.not-Record in
    let says = subst (λ (step : Result Step ReadErr). IfSome tape (Says c.args.geometry by
    before.found step)) ends.1 (read_to_end before.so_far (makes g at.In_ok-step)) in
    dump_ended c.args.geometry by before.so_far.valid c.requires.plain _ before.found _
    c.records.count before.lists before.within tape ends.0 says

pub returns-clause-listed : goal.returns-clause-listed
returns-clause-listed g c =
    let before = c.records.invariant in
    let reached : is_reached c.args.filter.now.limit c.records.count ≡ true = cc in
    dump_reached c.args.geometry c.args.filter.now before.so_far.valid c.requires.plain _
    before.found _ c.records.count before.lists before.within (g.D.Disk.tape c.args.disk.now)
    (read_first before.so_far) reached
