use Rattle.std.proofs.Common.{ℕ, max, inl, inr, refl, sym, ap, ◌∙◌, subst, arith}
use Rattle.machine_state.specs.declared.setup.Setup.{Setup}
use Rattle.machine_state.specs.Steps.{take_mapping_turn}
use Rattle.machine_state.specs.Views.{View}
use Rattle.wal_rule.specs.SeatedPasses.{setup_of, view_of}
use Rattle.wal_rule.specs.Stepping.{Meets}
use Rattle.word_ring.specs.Mapped.{looked_view}
use Rattle.wal_log.specs.Copying.{WaitsForOldPage, MeetsOther}
use Rattle.wal_log.proofs.CopyLaws.{written_low}
use Rattle.wal_log.proofs.PageLaws.{maps_none, old_met, other_met}
use Rattle.wal_log.proofs.Seated.{own_setup, same_setup, view_is}
use Rattle.wal_log.proofs.copying.reach_page.Goals as goal

pub loop-end-init : goal.loop-end-init
loop-end-init g c = maps_none c.args.seated.now

pub returns-in-Taken-clause-ends : goal.returns-in-Taken-clause-ends
returns-in-Taken-clause-ends g c =
    let v : View = view_of c.loop-end.seated in
    let met = c.in-Other.ensures.met in
    let taken = c.in-Taken.ensures.tries in record {
      page_is = refl;
      other = subst (λ (s : Setup). MeetsOther s c.args.page c.in-Other.end
          (view_of c.try_map.new.seated))
          (same_setup c.args.seated.now c.loop-end.seated c.loop-end.invariant.stays.same_table)
          (subst (λ (n : ℕ). MeetsOther (setup_of c.loop-end.seated) c.args.page n
          (view_of c.try_map.new.seated)) (sym met.1.0)
          (other_met v (view_of c.try_map.new.seated) (max v.mapping.confirmed met.0)
          v.writing.written (taken.1 ∙ view_is met.2) (setup_of c.loop-end.seated) c.args.page
          met.0 met.3 met.1.1));
      why = inl (
        record {
          met = subst (λ (x : View). Meets x take_mapping_turn c.in-Taken.turn) (sym taken.1)
              taken.2;
          taken = taken.0;
        },
        refl,
      );
      low = omega arith;
    }

pub returns-in-Unwritten-clause-ends : goal.returns-in-Unwritten-clause-ends
returns-in-Unwritten-clause-ends g c =
    let v : View = view_of c.loop-end.seated in
    let m : View = view_of c.confirm.new.seated in
    let met = c.in-Other.ensures.met in
    let old = c.in-Unwritten.ensures.tries in
    let told : ℕ = c.in-Unwritten.written in
    let still = c.loop-end.invariant.stays.same_table in record {
      page_is = refl;
      other = subst (λ (s : Setup). MeetsOther s c.args.page c.in-Other.end
          (view_of c.try_map.new.seated))
          (same_setup c.args.seated.now c.loop-end.seated still)
          (subst (λ (n : ℕ). MeetsOther (setup_of c.loop-end.seated) c.args.page n
          (view_of c.try_map.new.seated)) (sym met.1.0)
          (other_met v (view_of c.try_map.new.seated) (max (max v.mapping.confirmed met.0) old.0)
          told (old.3 ∙ ap (looked_view old.0 told) (view_is met.2))
          (setup_of c.loop-end.seated) c.args.page met.0 met.3 met.1.1));
      why = inr (
        refl,
        subst (λ (s : Setup). WaitsForOldPage s c.args.page told (view_of c.try_map.new.seated))
            (same_setup c.args.seated.now c.confirm.new.seated (met.2.same_table ∙ still))
            (old_met m (view_of c.try_map.new.seated) (max m.mapping.confirmed old.0) told old.3
            (setup_of c.confirm.new.seated) c.args.page old.0 told
            (own_setup c.confirm.new.seated) old.4 old.1 old.2),
      );
      low = written_low (setup_of c.confirm.new.seated) c.args.page old.0 told c.requires.low
          old.1 old.2;
    }
