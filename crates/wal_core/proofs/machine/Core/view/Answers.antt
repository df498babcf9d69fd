-- A lane knows what the machine's view of its backend knows.
use Rattle.std.proofs.Common.{◌≡◌, List, length, slice_index_or, Some, sym, ap, subst, ltb-true, arith}
use Rattle.machine_turns.proofs.MapPlaces.{ltb-false}
use Rattle.machine_turns.specs.declared.lane.PlainBackend.{PlainBackend}
use Rattle.machine_turns.specs.declared.view.PlainView.{PlainView}
use Rattle.wal_core.specs.Cores.{core_of}
use Rattle.wal_core.proofs.Cores.{none_there, view_read}
use Rattle.wal_core.proofs.machine.Core.view.Goals as goal

pub returns-in-Some-clause-there : goal.returns-in-Some-clause-there
returns-in-Some-clause-there c = λ m b v k there at. ap (λ (view : PlainView). Some view)
    (view_read (core_of c.args.self.now) m k c.args.backend b c.in-Some.lane.now v there at
    (subst (λ (lanes : List PlainBackend). c.in-Some.lane.now
    ≡ slice_index_or lanes c.args.backend c.in-Some.lane.now) c.deref.ensures.value
    c.in-Some.ensures.lookup.1))

pub returns-in-None-clause-there : goal.returns-in-None-clause-there
returns-in-None-clause-there c = λ m b v k there at. absurd (none_there (core_of c.args.self.now) m k
    c.args.backend b there (λ low.
    let above = ltb-false c.args.backend (length c.deref.result.now)
    (sym c.in-None.ensures.lookup.0) in
    omega (arith, low, above, ap (λ (lanes : List PlainBackend). length lanes) c.deref.ensures.value)))

pub returns-in-Some-clause-absent : goal.returns-in-Some-clause-absent
returns-in-Some-clause-absent c = λ m k above.
    let low = ltb-true c.args.backend (length c.deref.result.now)
    (sym c.in-Some.ensures.lookup.0) in
    absurd (omega (
      arith,
      low,
      above,
      k.count,
      ap (λ (lanes : List PlainBackend). length lanes) c.deref.ensures.value,
    ))
