use Rattle.std.proofs.Common.{◌≡◌, ◌≢◌, sym, ap, ◌∙◌}
use Rattle.machine_state.specs.Moves.{with_hold}
use Rattle.machine_state.specs.Views.{Hold, Idle, View}
use Rattle.wal_rule.specs.SeatedPasses.{view_of}
use Rattle.word_ring.specs.InHand.{lent_in}
use Rattle.wal_log.proofs.InHandLaws.{fault_is_some, hand_stays, may_put_down, may_set_down}
use Rattle.wal_log.proofs.Plain.{down_set_is}
use Rattle.wal_log.proofs.Seated.{seat_stays, view_is}
use Rattle.wal_log.proofs.turns.go_down.Given.{Over}
use Rattle.wal_log.proofs.turns.go_down.Goals as goal
use Rattle.wal_log.proofs.turns.go_down.Goals.{After-set_down}

pub set_down-requires-clause-may : goal.set_down-requires-clause-may
set_down-requires-clause-may g c = may_set_down (view_of c.args.seated.now)
    (c.requires.hand.0, c.requires.hand.2.hold) c.args.fault.faults c.requires.failed c.requires.up

module _ (g : Over) (c : After-set_down g) where
  abbrev old : View
  old = view_of c.args.seated.now

  set : view_of c.set_down.new.self
      ≡ record old { writing = record old.writing { down_set = c.args.fault.faults } }
  set = view_is c.set_down.ensures.steps
      ∙ down_set_is 0 old (c.requires.hand.0, c.requires.hand.2.hold) c.args.fault.faults
      c.requires.failed

  some : c.args.fault.faults ≢ 0
  some = fault_is_some old (c.requires.hand.0, c.requires.hand.2.hold) c.args.fault.faults
      c.requires.failed c.args.seated.now.seated.stands

pub give_back-requires-clause-hand : goal.give_back-requires-clause-hand
give_back-requires-clause-hand g c =
    let at = (goal.at.give_back-requires-clause-hand g c).After-set_down in
    hand_stays g.D.Disk.tape g.D.Disk.moment g.D.Disk.faults c.args.seated.now c.set_down.new.self
    c.requires.hand (seat_stays c.set_down.ensures.steps) c.requires.hand.0
    (ap (λ (x : View). x.writing.hold) (set g at) ∙ c.requires.hand.2.hold)
    (sym (ap (λ (h : Hold). (lent_in h).writer) c.requires.hand.2.hold))

pub give_back-requires-clause-may : goal.give_back-requires-clause-may
give_back-requires-clause-may g c =
    let at = (goal.at.give_back-requires-clause-may g c).After-set_down in
    may_put_down (view_of c.set_down.new.self)
    (c.requires.hand.0, ap (λ (x : View). x.writing.hold) (set g at) ∙ c.requires.hand.2.hold)
    (λ zero. some g at (sym (ap (λ (x : View). x.writing.down_set) (set g at)) ∙ zero))

pub returns-clause-down : goal.returns-clause-down
returns-clause-down g c =
    let at = (goal.at.returns-clause-down g c).After-set_down in record {
      new_is = ap (λ m. m.0) c.give_back.ensures.view
          ∙ ap (λ (v : View). with_hold Idle v) (set g at);
      some = some g at;
    }
