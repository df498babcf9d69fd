use Rattle.std.proofs.Common.{◌≡◌, ℕ, min, length, map, IsTrue, is_some, List, sym, ap, subst, ◌∙◌, inl}
use Rattle.std.proofs.lemmas.List.{length-map}
use Rattle.segment_disk.specs.declared.disk.Call.{Call}
use Rattle.segment_disk.specs.declared.memory.first.FirstSegment.{FirstSegment}
use Rattle.segment_disk.specs.Failing.{is_listed}
use Rattle.segment_disk.specs.First.{first_state}
use Rattle.segment_disk.specs.DiskImage.{image_as_read}
use Rattle.segment_disk.specs.Tape.{after_calls}
use Rattle.segment_disk.specs.MemDisk.{moment_of, state_behind}
use Rattle.segment_disk.specs.Picks.{IsPicked, choice_of}
use Rattle.segment_disk.specs.Present.{HasSegments}
use Rattle.segment_disk.proofs.PickLaws.{there_now, present_first, MayLeave-picked}
use Rattle.segment_disk.proofs.memory.disk.MemDisk.crash_with_room.Goals as goal

pub image_left-requires : goal.image_left-requires
image_left-requires c =
    let first = c.args.self.now.first.items in
    let calls = c.args.self.now.calls.made.items in
    rw (c.deref.ensures.value, c.front-made.ensures) (λ number there. subst (λ b. IsTrue b) (sym (c.args.self.now.present number)) (there_now (first_state first) calls (min c.args.moment (length calls)) number there))

pub invariant_of-result : goal.invariant_of-result
invariant_of-result c =
    let first = c.in_ok-first.first.items in
    record {
      present = λ segment.
          ap (λ (numbers : List ℕ). is_listed numbers segment) (c.in_ok-list_of.ensures.numbers ∙ ap (λ (segments : List FirstSegment). map (λ (s : FirstSegment). s.number) segments) c.deref-2.ensures.value)
          ∙ present_first first segment ∙ sym (ap (λ (calls : List Call). is_some (after_calls (first_state first) calls segment)) c.in_ok-unfailing.ensures.made);
    }

pub returns-clause-left : goal.returns-clause-left
returns-clause-left c =
    let image = image_as_read (first_state c.in_ok-first.first.items) in
    let choice = choice_of c.args.pick in
    let of_first = subst (λ (first : List FirstSegment). IsPicked choice (after_calls (first_state first) c.front-made.result.now) image) c.deref.ensures.value c.in_ok-first.ensures.picked in
    let picked = subst (λ (calls : List Call). IsPicked choice (after_calls (first_state c.args.self.now.first.items) calls) image) c.front-made.ensures of_first in
    inl (MayLeave-picked choice (state_behind c.args.self.now (min c.args.moment (moment_of c.args.self.now))) image picked)

pub returns-clause-segments : goal.returns-clause-segments
returns-clause-segments c =
    let first = c.in_ok-first.first.items in
    let of_first = subst (λ (first_of : List FirstSegment). HasSegments (after_calls (first_state first_of) c.front-made.result.now) (length first)) c.deref.ensures.value c.in_ok-first.ensures.count in
    let counted = subst (λ (calls : List Call). HasSegments (after_calls (first_state c.args.self.now.first.items) calls) (length first)) c.front-made.ensures of_first in
    let listed : length c.in_ok-list_of.field-0.numbers.items ≡ length first = ap length c.in_ok-list_of.ensures.numbers ∙ length-map c.deref-2.result.now (λ (s : FirstSegment). s.number) ∙ ap length c.deref-2.ensures.value in
    subst (λ (n : ℕ). HasSegments (state_behind c.args.self.now (min c.args.moment (moment_of c.args.self.now))) n) (sym listed) counted
