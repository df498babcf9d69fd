use Rattle.std.proofs.Common.{List, ℕ, ◌≡◌, sym, subst}
use Rattle.std.specs.Prelude.{None}
use Rattle.durable_map.specs.Stores.{slot_of}
use Rattle.durable_map.proofs.Keys.{is_none, says_the_same}
use Rattle.durable_map.proofs.entries.make_slot.Goals as goal

pub returns-in-Ok-clause-same : goal.returns-in-Ok-clause-same
returns-in-Ok-clause-same c =
    let none = is_none (slot_of c.args.entries.now c.args.key.now) c.if-contains_key.ensures in
    says_the_same c.in_ok-key.key.items c.args.entries.now c.insert.new.self
    (subst (λ (key : List ℕ). slot_of c.args.entries.now key ≡ None) (sym c.in_ok-key.ensures.items) none)
    c.in-Ok.ensures.updates
