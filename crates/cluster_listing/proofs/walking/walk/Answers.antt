use Rattle.std.proofs.Common.{◌≡◌, true, false, [], ◌∷◌, Option, Result, Ok, Err, ap, subst, sym, ◌∙◌, arith}
use Rattle.std.proofs.lemmas.Result.{err_from_is_err_and}
use Rattle.segment_disk.specs.Tape.{Tape}
use Rattle.waldump_filter.specs.Keeping.{is_reached, keeps}
use Rattle.wal_reader.specs.Filled.{found_with}
use Rattle.wal_reader.specs.LogReader.{ReaderState, reader_state}
use Rattle.wal_reader.specs.declared.found.FoundRecord.{FoundRecord}
use Rattle.waldump_text.specs.Listing.{IsListable, listed_of}
use Rattle.waldump_text.proofs.ListingLaws.{IsWithin-more}
use Rattle.cluster_listing.specs.Past.{IsListablePast, StepsPast, end_of}
use Rattle.cluster_listing.specs.Taking.{CutMore, TookMore}
use Rattle.cluster_listing.specs.declared.walking.Past.{Past}
use Rattle.cluster_listing.specs.declared.walking.Past.TheVariants as pasts
use Rattle.cluster_listing.proofs.TakingLaws.{CutMore-behind, TookMore-further}
use Rattle.cluster_listing.proofs.WalkLaws.{HandsOn-anew, HandsOn-kept, HandsOn-passed, walk_cut, walk_ended, walk_failed, walk_reached, walk_wanting}
use Rattle.cluster_listing.proofs.walking.walk.Goals as goal
use Rattle.cluster_listing.proofs.walking.walk.Goals.{In-Record}

pub returns-in_err-turns-clause-walks : goal.returns-in_err-turns-clause-walks
returns-in_err-turns-clause-walks g c =
    let valid = c.new-reader.ensures.valid in
    let p = err_from_is_err_and c.from_residual.result c.from_residual.ensures.1 in
    let before = c.records.invariant in
    rw (p.1, p.2, c.in_err-turns.ensures.wanting) (walk_wanting c.args.geometry c.args.filter.now valid c.records.reader before.sized _ c.records.count (λ e records. CutMore g.V.TakesRecords.took g.V.TakesRecords.cut c.args.taker.now c.records.taker e records) before.within _ before.hands)

pub returns-in_err-head-clause-walks : goal.returns-in_err-head-clause-walks
returns-in_err-head-clause-walks g c =
    let valid = c.new-reader.ensures.valid in
    let p = err_from_is_err_and c.from_residual-in_err-head.result c.from_residual-in_err-head.ensures.1 in
    let before = c.records.invariant in
    let steps = subst (λ (tape : Option Tape). StepsPast tape c.records.reader c.next_past.new.reader c.next_past.new.value (Err c.in_err-head.field-0.0)) before.tape c.in_err-head.ensures.steps in
    let unreached : is_reached c.args.filter.now.limit c.records.count ≡ false = cc in
    rw (p.1, p.2) (walk_failed c.args.geometry c.args.filter.now valid c.records.reader before.sized _ c.records.count (λ e records. CutMore g.V.TakesRecords.took g.V.TakesRecords.cut c.args.taker.now c.records.taker e records) before.within _ c.next_past.new.reader c.next_past.new.value c.in_err-head.field-0.0 before.hands steps unreached)

-- the record that is read, and the step to it
abbrev found_here : (g : _) (c : In-Record g) → FoundRecord
found_here g c = found_with c.next_past.new.value c.in-Record.head

steps_on : (g : _) (c : In-Record g) → StepsPast (g.D.Disk.tape c.args.disk.now) c.records.reader c.next_past.new.reader c.next_past.new.value (Ok (pasts.Record c.in-Record.head))
steps_on g c =
    let on_disk = subst (λ (past : Past). StepsPast (g.D.Disk.tape c.records.disk) c.records.reader c.next_past.new.reader c.next_past.new.value (Ok past)) c.in-Record.is c.in_ok-head.ensures.steps in
    subst (λ (tape : Option Tape). StepsPast tape c.records.reader c.next_past.new.reader c.next_past.new.value (Ok (pasts.Record c.in-Record.head))) c.records.invariant.tape on_disk

listable : (g : _) (c : In-Record g) → IsListable (listed_of (found_here g c))
listable g c = subst (IsListablePast c.next_past.new.value) c.in-Record.is c.in_ok-head.ensures.listable

sized_on : (g : _) (c : In-Record g) → (reader_state c.next_past.new.reader).size ≡ c.args.geometry
sized_on g c = c.next_past.ensures.leaves.0 ∙ c.records.invariant.sized

ended_on : (g : _) (c : In-Record g) → (reader_state c.next_past.new.reader).end ≡ end_of c.args.filter.now
ended_on g c = c.next_past.ensures.leaves.1 ∙ c.records.invariant.ended

pub returns-in-End-clause-walks : goal.returns-in-End-clause-walks
returns-in-End-clause-walks g c =
    let valid = c.new-reader.ensures.valid in
    let before = c.records.invariant in
    let on_disk = subst (λ (past : Past). StepsPast (g.D.Disk.tape c.records.disk) c.records.reader c.next_past.new.reader c.next_past.new.value (Ok past)) c.in-End.is c.in_ok-head.ensures.steps in
    let steps = subst (λ (tape : Option Tape). StepsPast tape c.records.reader c.next_past.new.reader c.next_past.new.value (Ok (pasts.End c.in-End.at))) before.tape on_disk in
    walk_ended c.args.geometry c.args.filter.now valid c.records.reader before.sized _ c.records.count (λ e records. CutMore g.V.TakesRecords.took g.V.TakesRecords.cut c.args.taker.now c.records.taker e records) before.within _ c.next_past.new.reader c.next_past.new.value c.in-End.at before.hands steps

pub take-requires : goal.take-requires
take-requires g c =
    let step = (goal.at.take-requires g c).In-Record in
    listable g step

pub returns-in_err-take-clause-walks : goal.returns-in_err-take-clause-walks
returns-in_err-take-clause-walks g c =
    let valid = c.new-reader.ensures.valid in
    let step = (goal.at.returns-in_err-take-clause-walks g c).In-Record in
    let p = err_from_is_err_and c.from_residual-in_err-take.result c.from_residual-in_err-take.ensures.1 in
    let by = c.args.filter.now in
    let f = found_here g step in
    let before = c.records.invariant in
    let unreached : is_reached by.limit c.records.count ≡ false = cc in
    let is_kept : c.keeps.result ≡ true = cc in
    let keeps_it : keeps by (listed_of f) ≡ true = sym c.keeps.ensures ∙ is_kept in
    let took = g.V.TakesRecords.took in
    let cut = g.V.TakesRecords.cut in
    rw (p.1, p.2) (walk_cut c.args.geometry by valid c.records.reader before.sized _ c.records.count (λ e records. CutMore g.V.TakesRecords.took g.V.TakesRecords.cut c.args.taker.now c.take.new.self e records) c.next_past.new.reader (sized_on g step) _ c.next_past.new.value step.in-Record.head keeps_it unreached (TookMore took c.args.taker.now c.take.new.self) c.in_err-take.field-0.0
    (λ records more past. CutMore-behind took cut c.args.taker.now c.records.taker c.take.new.self c.in_err-take.field-0.0 records (listed_of f ∷ more) past (c.in_err-take.ensures.cut more)) before.hands (steps_on g step))

pub records-preserved-then-keeps : goal.records-preserved-then-keeps
records-preserved-then-keeps g c =
    let valid = c.new-reader.ensures.valid in
    let step = (goal.at.records-preserved-then-keeps g c).In-Record in
    let before = c.records.invariant in
    let read = c.next_past.ensures in
    let by = c.args.filter.now in
    let f = found_here g step in
    let unreached : is_reached by.limit c.records.count ≡ false = cc in
    let is_kept : c.keeps.result ≡ true = cc in
    let keeps_it : keeps by (listed_of f) ≡ true = sym c.keeps.ensures ∙ is_kept in
    let took = g.V.TakesRecords.took in
    record {
      sized = sized_on g step;
      hands = HandsOn-kept c.args.geometry by valid c.records.reader before.sized _ c.records.count _ c.next_past.new.reader c.next_past.new.value step.in-Record.head keeps_it (TookMore took c.args.taker.now c.take.new.self)
          (λ records past. TookMore-further took c.args.taker.now c.records.taker c.take.new.self records (listed_of f ∷ []) past c.in_ok-take.ensures.took) before.hands (steps_on g step);
      within = IsWithin-more by.limit c.records.count unreached;
      ended = ended_on g step;
      few = omega (arith, before.few, c.in_ok-turns.ensures.more);
      tape = read.uncalled.same_tape ∙ before.tape;
      moment = read.uncalled.same_moment ∙ before.moment;
      faults = c.in_ok-head.ensures.cause ∙ before.faults;
    }

pub records-preserved-in-Behind : goal.records-preserved-in-Behind
records-preserved-in-Behind g c =
    let valid = c.new-reader.ensures.valid in
    let before = c.records.invariant in
    let read = c.next_past.ensures in
    let on_disk = subst (λ (past : Past). StepsPast (g.D.Disk.tape c.records.disk) c.records.reader c.next_past.new.reader c.next_past.new.value (Ok past)) c.in-Behind.is c.in_ok-head.ensures.steps in
    let steps = subst (λ (tape : Option Tape). StepsPast tape c.records.reader c.next_past.new.reader c.next_past.new.value (Ok (pasts.Behind c.in-Behind.from))) before.tape on_disk in
    record {
      sized = ap (λ (s : ReaderState). s.size) c.new-reader-in-Behind.ensures.state;
      hands = HandsOn-anew c.args.geometry c.args.filter.now valid c.records.reader before.sized _ c.records.count _ c.next_past.new.reader c.new-reader-in-Behind.result c.next_past.new.value c.in-Behind.from before.ended c.new-reader-in-Behind.ensures.state c.new-reader-in-Behind.ensures.knows before.hands steps;
      within = before.within;
      ended = ap (λ (s : ReaderState). s.end) c.new-reader-in-Behind.ensures.state;
      few = omega (arith, before.few, c.in_ok-turns.ensures.more);
      tape = read.uncalled.same_tape ∙ before.tape;
      moment = read.uncalled.same_moment ∙ before.moment;
      faults = c.in_ok-head.ensures.cause ∙ before.faults;
    }

pub records-preserved : goal.records-preserved
records-preserved g c =
    let valid = c.new-reader.ensures.valid in
    let step = (goal.at.records-preserved g c).In-Record in
    let before = c.records.invariant in
    let read = c.next_past.ensures in
    let by = c.args.filter.now in
    let f = found_here g step in
    let is_refused : c.keeps.result ≡ false = cc in
    let passes : keeps by (listed_of f) ≡ false = sym c.keeps.ensures ∙ is_refused in
    record {
      sized = sized_on g step;
      hands = HandsOn-passed c.args.geometry by valid c.records.reader before.sized _ c.records.count _ c.next_past.new.reader c.next_past.new.value step.in-Record.head passes before.hands (steps_on g step);
      within = before.within;
      ended = ended_on g step;
      few = omega (arith, before.few, c.in_ok-turns.ensures.more);
      tape = read.uncalled.same_tape ∙ before.tape;
      moment = read.uncalled.same_moment ∙ before.moment;
      faults = c.in_ok-head.ensures.cause ∙ before.faults;
    }

pub returns-clause-walks : goal.returns-clause-walks
returns-clause-walks g c =
    let valid = c.new-reader.ensures.valid in
    let before = c.records.invariant in
    let reached : is_reached c.args.filter.now.limit c.records.count ≡ true = cc in
    walk_reached c.args.geometry c.args.filter.now valid c.records.reader before.sized _ c.records.count (λ e records. CutMore g.V.TakesRecords.took g.V.TakesRecords.cut c.args.taker.now c.records.taker e records) before.within _ before.hands reached
