-- The words, the writer and the plan are those of the log that the table is of.
use Rattle.std.proofs.Common.{◌≡◌, ℕ, ◌+◌, ◌<◌, ◌^◌, Option, ◌∙◌, ap, sym, subst, refl, arith}
use Rattle.byte_position.specs.Geometry.{IsSegmentSize}
use Rattle.segment_disk.specs.declared.memory.disk.MemDisk.{MemDisk}
use Rattle.segment_disk.specs.MemDisk.{faults_of, moment_of, tape_of}
use Rattle.segment_disk.specs.Tape.{Tape}
use Rattle.flush_core.specs.declared.planning.SettlePlan.{SettlePlan}
use Rattle.flush_core.specs.Planned.{IsPlanOf, call_count}
use Rattle.wal_page.specs.LogPlace.{LogPlace, new_place}
use Rattle.machine_state.specs.Words.{Opening, found_end}
use Rattle.machine_state.specs.declared.setup.Setup.{Setup}
use Rattle.machine_state.proofs.NothingFound.{nothing_ends, nothing_opens}
use Rattle.machine_state.specs.Opened.{AreFirstWords}
use Rattle.machine_state.specs.Sound.{IsSetup}
use Rattle.wal_rule.specs.Founded.{found_log_opening, founded_opening}
use Rattle.wal_rule.specs.Slotted.{resting_plain}
use Rattle.log_tests.proofs.tables.resume.Goals as goal

-- a log of this size in which nothing was found ends where it starts
ends_at : (o : Opening) (size : ℕ) → IsSegmentSize size → (o.setup).seg_size ≡ size
    → o.place ≡ new_place (o.setup).seg_size → found_end o ≡ size
ends_at o size valid same fresh =
    nothing_ends o (subst (λ (n : ℕ). IsSegmentSize n) (sym same) valid) fresh ∙ same

-- .. and it goes on where a new one begins, by its setup or by its own
new_as : (o : Opening) (setup : Setup) (place : LogPlace) (made moment faults : ℕ)
    → o ≡ found_log_opening setup place made moment faults
    → place ≡ new_place setup.seg_size → o.place ≡ new_place setup.seg_size
new_as o setup place made moment faults is fresh = ap (λ (p : Opening). p.place) is ∙ fresh

new_there : (o : Opening) (setup : Setup) (place : LogPlace) (made moment faults : ℕ)
    → o ≡ found_log_opening setup place made moment faults
    → place ≡ new_place setup.seg_size → o.place ≡ new_place (o.setup).seg_size
new_there o setup place made moment faults is fresh =
    new_as o setup place made moment faults is fresh
    ∙ sym (ap (λ (p : Opening). new_place (p.setup).seg_size) is)

plan_of : (size end made other_size other_end count : ℕ) (t other : Option Tape)
    (plan : SettlePlan) → size ≡ other_size → end ≡ other_end → made ≡ count → t ≡ other
    → IsPlanOf other_size other_end count other plan → IsPlanOf size end made t plan
plan_of size end made other_size other_end count t other plan sizes ends counts tapes is =
    subst (λ (n : ℕ). IsPlanOf n end made t plan) (sym sizes)
    (subst (λ (n : ℕ). IsPlanOf other_size n made t plan) (sym ends)
    (subst (λ (n : ℕ). IsPlanOf other_size other_end n t plan) (sym counts)
    (subst (λ (x : Option Tape). IsPlanOf other_size other_end count x plan) (sym tapes) is)))

rests : (d other : MemDisk) (written made at count : ℕ) → d ≡ other → written ≡ at
    → made ≡ count → resting_plain (tape_of d) (moment_of d) written made
    ≡ resting_plain (tape_of other) (moment_of other) at count
rests d other written made at count same_disk same_end same_count =
    ap (λ (x : MemDisk). resting_plain (tape_of x) (moment_of x) written made) same_disk
    ∙ ap (λ (n : ℕ). resting_plain (tape_of other) (moment_of other) n made) same_end
    ∙ ap (λ (n : ℕ). resting_plain (tape_of other) (moment_of other) at n) same_count

pub resume-requires-clause-openable : goal.resume-requires-clause-openable
resume-requires-clause-openable c =
    let opening = c.of_found-founding.ensures.opening in
    let planned = c.in_ok-plan.ensures in
    let few = c.count-made.ensures _ _ _ _ planned.2 in
    nothing_opens (founded_opening c.of_found-founding.result)
    (subst (λ (o : Opening). IsSetup o.setup) (sym opening) (record {
      size = refl;
      ring_low = omega arith;
      ring_high = omega arith;
      cap_low = omega arith;
      cap_high = omega arith;
      named = λ none. omega (arith, none);
      passes_low = omega arith;
      passes_high = omega arith;
    }))
    (new_there _ _ _ _ _ _ opening c.first_place.ensures)
    (omega (
      arith,
      few,
      planned.1,
      ap (λ (o : Opening). o.made) opening,
      ap (λ (o : Opening). (o.setup).cap_segments) opening,
    ))

pub resume-requires-clause-words : goal.resume-requires-clause-words
resume-requires-clause-words c =
    let opening = founded_opening c.of_found-founding.result in
    subst (λ ws. AreFirstWords opening ws) (sym c.as_slice.ensures)
    (c.in_ok-words.ensures.first opening
    (ap (λ (o : Opening). o.setup) c.of_found-founding.ensures.opening) refl
    (new_as _ _ _ _ _ _ c.of_found-founding.ensures.opening c.first_place.ensures))

pub resume-requires-clause-writer : goal.resume-requires-clause-writer
resume-requires-clause-writer c =
    let opening = c.of_found-founding.ensures.opening in
    let size = ap (λ (s : Setup). s.seg_size) (sym c.in_ok-shape.ensures)
    ∙ sym c.geometry-2.ensures in
    let same_size = ap (λ (o : Opening). (o.setup).seg_size) opening in
    let disk = c.of_found-founding.ensures.disk in
    let end = ends_at (founded_opening c.of_found-founding.result) _ refl same_size
    (new_there _ _ _ _ _ _ opening c.first_place.ensures) in
    record {
      plain = c.resume-writer.ensures.plain ∙ rests _ _ _ _ _ _ (sym disk) (sym end)
          (sym (ap (λ (o : Opening). o.made) opening));
      disk = disk ∙ sym c.resume-writer.ensures.disk;
      size = c.resume-writer.ensures.size ∙ sym size ∙ sym same_size;
      failed = ap (λ (o : Opening). o.faults) opening
          ∙ ap (λ (d : MemDisk). faults_of d) (sym c.resume-writer.ensures.disk);
    }

pub resume-requires-clause-plan : goal.resume-requires-clause-plan
resume-requires-clause-plan c =
    let opening = c.of_found-founding.ensures.opening in
    let planned = c.in_ok-plan.ensures in
    let size = ap (λ (s : Setup). s.seg_size) (sym c.in_ok-shape.ensures)
    ∙ sym c.geometry.ensures in
    let same_size = ap (λ (o : Opening). (o.setup).seg_size) opening in
    let end = ends_at (founded_opening c.of_found-founding.result) _ refl same_size
    (new_there _ _ _ _ _ _ opening c.first_place.ensures) in
    plan_of _ _ _ _ _ _ _ _ _ (same_size ∙ size) end
    (ap (λ (o : Opening). o.made) opening ∙ c.count-made.ensures _ _ _ _ planned.2)
    (ap (λ (d : MemDisk). tape_of d) c.resume-writer.ensures.disk) planned.2

pub resume-requires-clause-moment : goal.resume-requires-clause-moment
resume-requires-clause-moment c = subst (λ (d : MemDisk).
    moment_of d + call_count c.in_ok-plan.plan < 2 ^ 64
    → (c.of_found-founding.result).moment ≡ moment_of d + call_count c.in_ok-plan.plan)
    (sym c.resume-writer.ensures.disk) c.of_found-founding.ensures.moment

pub returns-in-Ok : goal.returns-in-Ok
returns-in-Ok c = record { pass = c.of_seat.ensures.pass _ _ (c.in-Ok.ensures.seat).1 }
