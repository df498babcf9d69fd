use Rattle.std.proofs.Common.{ℕ, ◌+◌, ap, ◌∙◌, sym, subst}
use Rattle.wal_rule.specs.SeatedPasses.{view_of}
use Rattle.insert_locks.specs.Watching.{HoldsBack, IsHeldBack, LetsPass}
use Rattle.insert_locks.specs.declared.watching.Watched.{Watched}
use Rattle.insert_locks.specs.declared.watching.Watched.TheVariants.{Behind, Finished}
use Rattle.insert_locks.proofs.Visits.{WatchesOn, held_here, watch_goes_on}
use Rattle.insert_locks.proofs.watching.watch.Goals as goal

pub loop-number-preserved : goal.loop-number-preserved
loop-number-preserved g c =
    let old = c.args.seated.now in
    let met = c.loop-number.seated in
    let visit = c.visit-word in
    let stays = c.loop-number.invariant.1 in (
      subst (λ bound. WatchesOn c.args.upto.0 c.see_reserved-end.result bound (c.loop-number.number + 1)
          (view_of old) (view_of visit.new.seated)) (sym c.lowered-bound.ensures)
          (watch_goes_on c.args.upto.0 c.see_reserved-end.result c.loop-number.bound c.loop-number.number
          (view_of old) (view_of met) (view_of visit.new.seated)
          c.loop-number.invariant.0 visit.result (ap (λ me. me.0) visit.ensures.visits.me_is)
          (subst (λ asked. LetsPass asked visit.result) c.min-asked.ensures
          (c.holds_back.ensures.passes c.if-holds_back.false))),
      record {
        same_table = visit.ensures.visits.same_table ∙ stays.same_table;
        same_hand = ap (λ me. me.1) visit.ensures.visits.me_is ∙ stays.same_hand;
      },
    )

abbrev lock_told : Watched → ℕ
lock_told (Finished upto) = 0
lock_told (Behind lock word) = lock.0

abbrev word_told : Watched → ℕ
word_told (Finished upto) = 0
word_told (Behind lock word) = word

pub returns-then-holds_back-clause-behind : goal.returns-then-holds_back-clause-behind
returns-then-holds_back-clause-behind g c =
    let old = view_of c.args.seated.now in
    let new = view_of c.visit-word.new.seated in
    let visit = c.visit-word in
    let held = held_here c.args.upto.0 c.see_reserved-end.result c.loop-number.bound c.loop-number.number
    old (view_of c.loop-number.seated) new c.loop-number.invariant.0 visit.result
    (ap (λ me. me.0) visit.ensures.visits.me_is) c.loop-number-test.true visit.ensures.met
    (subst (λ asked. HoldsBack asked visit.result) c.min-asked.ensures
    (c.holds_back.ensures.held c.if-holds_back.true)) in
    λ lock word is.
    subst (λ (l : ℕ). IsHeldBack c.args.upto.0 l word old new) (ap lock_told is)
    (subst (λ (w : ℕ). IsHeldBack c.args.upto.0 c.loop-number.number w old new) (ap word_told is) held)
