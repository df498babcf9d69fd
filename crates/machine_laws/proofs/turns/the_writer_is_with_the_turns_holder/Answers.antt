use Rattle.machine_state.specs.Views.{Turned, Out}
use Rattle.machine_laws.proofs.WritingLaws.{at_hold, writing_slot_out, writing_slot_in, writing_changed}
use Rattle.machine_laws.proofs.turns.the_writer_is_with_the_turns_holder.Goals as goal

pub returns-clause-at_home : goal.returns-clause-at_home
returns-clause-at_home c = λ turn home writer writers id m k here is.
    (k.each id (m.0, Turned) (at_hold writers id m Turned here is)).2

pub returns-clause-in_hand : goal.returns-clause-in_hand
returns-clause-in_hand c = λ turn home writer writers id m l k here is.
    let t = k.each id (m.0, Out l) (at_hold writers id m (Out l) here is) in (t.2, t.3)

pub returns-clause-slot_out : goal.returns-clause-slot_out
returns-clause-slot_out c = λ turn home writer writers id m l k here is same.
    writing_slot_out turn home writer writers k id m.0 (at_hold writers id m Turned here is) l same

pub returns-clause-slot_in : goal.returns-clause-slot_in
returns-clause-slot_in c = λ turn home writer writers id m l k here is.
    writing_slot_in turn home writer writers k id m.0 l (at_hold writers id m (Out l) here is)

pub returns-clause-changed : goal.returns-clause-changed
returns-clause-changed c = λ turn home writer writers id m l next k here is.
    writing_changed turn home writer writers k id m.0 l next
    (at_hold writers id m (Out l) here is)
