use Rattle.std.proofs.Common.{◌≡◌, ◌∙◌, slice_index_or, [], false, rules, arith}
use Rattle.waldump_filter.specs.Names.{is_same_name, manager_names}
use Rattle.waldump_filter.proofs.Lookups.{position_from-next}
use Rattle.waldump_filter.proofs.names.own_manager.Goals as goal

pub loop-rmid-preserved : goal.loop-rmid-preserved
loop-rmid-preserved c =
    let differs : is_same_name (slice_index_or manager_names c.loop-rmid.rmid []) c.args.word.now ≡ false = rw (← c.own_manager_name.ensures.text) (search rules) in
    position_from-next (λ name. is_same_name name c.args.word.now) manager_names c.loop-rmid.rmid [] (omega arith) differs ∙ c.loop-rmid.invariant
