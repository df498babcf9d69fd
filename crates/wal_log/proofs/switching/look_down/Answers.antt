use Rattle.std.proofs.Common.{ℕ, Err, None, ap}
use Rattle.machine_state.specs.Views.{View}
use Rattle.wal_rule.specs.SeatedPasses.{view_of}
use Rattle.wal_log.specs.declared.inserting.InsertErr.TheVariants.{Down}
use Rattle.wal_log.proofs.BeginLaws.{load_sets_none, loaded_log, none_known}
use Rattle.wal_log.proofs.Keeping.{none_loaded}
use Rattle.wal_log.proofs.Seated.{view_is}
use Rattle.wal_log.proofs.SwitchLaws.{looked_holds, looked_told}
use Rattle.wal_log.proofs.WaitLaws.{up_loaded}
use Rattle.wal_log.proofs.switching.look_down.Goals as goal

pub returns-then-faults-ne0-clause-looks : goal.returns-then-faults-ne0-clause-looks
returns-then-faults-ne0-clause-looks g c =
    let load = c.load_down-faults in
    let old = view_of c.args.seated.now in
    let new = view_of load.new.self in
    let is = view_is load.ensures.steps in (
      loaded_log old new load.result is load.ensures.known,
      record {
        met = ap (λ (v : View). v.writing.down_met) is;
        some = c.if-faults-ne0.true;
        set_none = load_sets_none old new load.result is load.ensures.known;
      },
    )

pub returns-then-faults-ne0-clause-known : goal.returns-then-faults-ne0-clause-known
returns-then-faults-ne0-clause-known g c = λ faults knows.
    ap (λ (n : ℕ). Err (Down n None)) (c.load_down-faults.ensures.known faults knows)

pub returns-then-faults-ne0-clause-holds : goal.returns-then-faults-ne0-clause-holds
returns-then-faults-ne0-clause-holds g c =
    let load = c.load_down-faults in
    looked_holds c.args.seated.now load.new.self load.result load.ensures.steps load.ensures.known

pub returns-clause-looks : goal.returns-clause-looks
returns-clause-looks g c =
    let load = c.load_down-faults in
    let old = view_of c.args.seated.now in
    let new = view_of load.new.self in
    let is = view_is load.ensures.steps in
    let zero = c.if-faults-ne0.false in (
      none_loaded old load.result new is load.ensures.known zero,
      up_loaded old new load.result is load.ensures.known load.ensures.met zero,
    )

pub returns-clause-known : goal.returns-clause-known
returns-clause-known g c =
    let load = c.load_down-faults in
    λ faults knows. absurd (none_known (view_of c.args.seated.now) (view_of load.new.self)
    load.result (view_is load.ensures.steps) load.ensures.known c.if-faults-ne0.false faults knows)

pub returns-clause-holds : goal.returns-clause-holds
returns-clause-holds g c =
    let load = c.load_down-faults in
    looked_holds c.args.seated.now load.new.self load.result load.ensures.steps load.ensures.known

pub returns-then-faults-ne0-clause-told : goal.returns-then-faults-ne0-clause-told
returns-then-faults-ne0-clause-told g c = looked_told c.args.seated.now
    c.load_down-faults.new.self c.load_down-faults.result c.load_down-faults.ensures.steps

pub returns-clause-told : goal.returns-clause-told
returns-clause-told g c = looked_told c.args.seated.now c.load_down-faults.new.self
    c.load_down-faults.result c.load_down-faults.ensures.steps
