use Rattle.std.proofs.Common.{IsTrue, subst}
use Rattle.durable_map.proofs.TwoCalls.{made_both}
use Rattle.durable_map.proofs.two_lanes.make_both.Goals.{then-is_answered_ok, else-is_answered_ok}
use Rattle.durable_map.proofs.two_lanes.make_both.Goals as goal

pub returns-clause-made : goal.returns-clause-made
returns-clause-made g c = λ yes. elim c.if-is_answered_ok.branch [
  | then-is_answered_ok w ↦ made_both c.args.one c.args.other c.in-Ok.first c.in-Ok-ask.second
      c.args.shared.now c.ask.new.self c.ask-2.new.self c.work.new.self c.told-told.new.self
      c.told-told_other.new.self c.told-told.result c.told-told_other.result
      c.if-first-second.false c.requires.idle c.in-Ok.ensures.asked c.in-Ok.ensures.lane
      c.in-Ok-ask.ensures.asked c.in-Ok-ask.ensures.lane c.work.ensures.work
      c.told-told.ensures.told c.told-told_other.ensures.told
      (c.is_answered_ok.ensures w.if-is_answered_ok.true)
      (w.is_answered_ok-then-is_answered_ok.ensures (subst IsTrue w.result-is yes))
  | else-is_answered_ok w ↦
      let is = subst IsTrue w.result-is yes in
      let no = w.if-is_answered_ok.false in
      absurd (cc)
]
