use Rattle.std.specs.Prelude.{Err}
use Rattle.std.proofs.Common.{ℕ, ap, inl, subst, sym, ◌∙◌}
use Rattle.machine_state.specs.Steps.{IsResting, load_down, view_behind}
use mathlib.Core.Option.{none}
use Rattle.machine_state.specs.Views.{View}
use Rattle.wal_rule.specs.SeatedPasses.{view_of}
use Rattle.wal_rule.specs.Stepping.{Meets}
use Rattle.wal_log.specs.declared.flushing.TryFlushErr.TheVariants.{Down}
use Rattle.wal_log.specs.Flushing.{view_looked}
use Rattle.wal_log.specs.PassLogs.{log_of_pass}
use Rattle.wal_log.specs.Standing.{KeepsWork}
use Rattle.wal_log.proofs.BeginLaws.{loaded_rests}
use Rattle.wal_log.proofs.FlushLaws.{tried_behind}
use Rattle.wal_log.proofs.Keeping.{down_met_keeps, further_pass, none_loaded, rested_on}
use Rattle.wal_log.proofs.LookLaws.{tried_since}
use Rattle.wal_log.proofs.ReservedLaws.{tried_up}
use Rattle.wal_log.proofs.Seated.{hand_is, view_is}
use Rattle.wal_log.proofs.flushing.try_flush.Given.{Over}
use Rattle.wal_log.proofs.flushing.try_flush.Goals as goal
use Rattle.wal_log.proofs.flushing.try_flush.Goals.{After-load_down-faults}

module _ (g : Over) (c : After-load_down-faults g) where
  loaded : KeepsWork (view_of c.args.seated.now) (view_of c.load_down-faults.new.self)
  loaded = down_met_keeps (view_of c.args.seated.now) c.load_down-faults.result
      (view_of c.load_down-faults.new.self) (view_is c.load_down-faults.ensures.steps)
      c.load_down-faults.ensures.known

  rests_so : IsResting (view_of c.load_down-faults.new.self)
  rests_so = loaded_rests (view_of c.args.seated.now) (view_of c.load_down-faults.new.self)
      c.load_down-faults.result (view_is c.load_down-faults.ensures.steps)
      c.load_down-faults.ensures.known c.requires.rests.rests

pub returns-then-faults-ne0-clause-down_again : goal.returns-then-faults-ne0-clause-down_again
returns-then-faults-ne0-clause-down_again g c = λ faults knows.
    ap (λ (n : ℕ). Err (Down n)) (c.load_down-faults.ensures.known faults knows)

pub returns-then-faults-ne0-clause-rests : goal.returns-then-faults-ne0-clause-rests
returns-then-faults-ne0-clause-rests g c =
    let at = (goal.at.returns-then-faults-ne0-clause-rests g c).After-load_down-faults in record {
      same_table = c.load_down-faults.ensures.steps.same_table;
      keeps = (loaded g at).pass;
      rests = record {
        rests = rests_so g at;
        empty = hand_is c.load_down-faults.ensures.steps ∙ c.requires.rests.empty;
      };
    }

pub try_up-requires-clause-rests : goal.try_up-requires-clause-rests
try_up-requires-clause-rests g c =
    let at = (goal.at.try_up-requires-clause-rests g c).After-load_down-faults in record {
      idle = (rests_so g at).hold;
      empty = hand_is c.load_down-faults.ensures.steps ∙ c.requires.rests.empty;
    }

pub try_up-requires-clause-up : goal.try_up-requires-clause-up
try_up-requires-clause-up g c = none_loaded (view_of c.args.seated.now) c.load_down-faults.result
    (view_of c.load_down-faults.new.self) (view_is c.load_down-faults.ensures.steps)
    c.load_down-faults.ensures.known c.if-faults-ne0.false

pub returns-clause-tries : goal.returns-clause-tries
returns-clause-tries g c =
    let at = (goal.at.returns-clause-tries g c).After-load_down-faults in
    let load = view_is c.load_down-faults.ensures.steps in
    tried_behind c.args.upto.0 (view_of c.args.seated.now)
    (view_of c.load_down-faults.new.self) (view_of c.try_up.new.seated) (loaded g at).pass
    (ap (λ (v : View). log_of_pass v) load) (ap (λ (v : View). v.writing.down_set) load)
    c.try_up.result c.try_up.ensures.tries

pub returns-clause-down_again : goal.returns-clause-down_again
returns-clause-down_again g c = λ faults knows. absurd (knows.0
    (sym (c.load_down-faults.ensures.known faults knows) ∙ c.if-faults-ne0.false))

pub returns-clause-rests : goal.returns-clause-rests
returns-clause-rests g c =
    let at = (goal.at.returns-clause-rests g c).After-load_down-faults in
    let work = c.try_up.ensures.works.work in record {
      same_table = c.try_up.ensures.works.same_table
          ∙ c.load_down-faults.ensures.steps.same_table;
      keeps = further_pass (view_of c.args.seated.now) (view_of c.load_down-faults.new.self)
          (view_of c.try_up.new.seated) (loaded g at).pass work.pass;
      rests = record {
        rests = rested_on (view_of c.load_down-faults.new.self) (view_of c.try_up.new.seated) work
            c.try_up.ensures.rests.idle (rests_so g at);
        empty = c.try_up.ensures.rests.empty;
      };
    }

pub returns-then-faults-ne0-clause-only_unflushed : goal.returns-then-faults-ne0-clause-only_unflushed
returns-then-faults-ne0-clause-only_unflushed g c =
    inl ((view_of c.args.seated.now).reserving.seen, view_is c.load_down-faults.ensures.steps)

pub returns-clause-only_unflushed : goal.returns-clause-only_unflushed
returns-clause-only_unflushed g c =
    let load = view_is c.load_down-faults.ensures.steps in
    tried_since c.args.upto.0 (view_of c.args.seated.now) (view_of c.load_down-faults.new.self)
    (view_of c.try_up.new.seated) (λ down seen. ap (view_looked down seen) load) c.try_up.result
    c.try_up.ensures.only_unflushed

-- ---- whether the address is reserved

pub returns-then-faults-ne0-clause-unreserved : goal.returns-then-faults-ne0-clause-unreserved
returns-then-faults-ne0-clause-unreserved g c = inl c.load_down-faults.ensures.met

pub returns-clause-unreserved : goal.returns-clause-unreserved
returns-clause-unreserved g c =
    let old : View = view_of c.args.seated.now in
    let zero = c.if-faults-ne0.false in
    tried_up c.args.upto.0 old (view_of c.load_down-faults.new.self)
    (view_is c.load_down-faults.ensures.steps
    ∙ ap (λ (n : ℕ). view_behind old load_down n none) zero)
    (subst (λ (n : ℕ). Meets old load_down n) zero c.load_down-faults.ensures.met)
    c.try_up.result c.try_up.ensures.reserved

pub returns-then-faults-ne0-clause-async_met : goal.returns-then-faults-ne0-clause-async_met
returns-then-faults-ne0-clause-async_met g c =
    (loaded g (goal.at.returns-then-faults-ne0-clause-async_met g c).After-load_down-faults).async

pub returns-clause-async_met : goal.returns-clause-async_met
returns-clause-async_met g c = c.try_up.ensures.works.work.async
    ∙ (loaded g (goal.at.returns-clause-async_met g c).After-load_down-faults).async
