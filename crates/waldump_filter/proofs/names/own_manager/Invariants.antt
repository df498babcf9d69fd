use Rattle.std.proofs.Common.{◌≡◌, drop}
use Rattle.std.specs.List.{position_from}
use Rattle.waldump_filter.specs.Names.{is_same_name, manager_names, own_manager_of}
use Rattle.waldump_filter.proofs.names.own_manager.Given as goal

abbrev pub invariant-loop-rmid : goal.invariant-loop-rmid
invariant-loop-rmid l =
    position_from (λ name. is_same_name name l.word) l.rmid (drop l.rmid manager_names) ≡ own_manager_of l.word
