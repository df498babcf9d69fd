use Rattle.std.proofs.Common.{◌≡◌, ◌+◌, ◌≤◌, ◌++◌, Vec, length}
use Rattle.std.specs.Prelude.{map, vec_capacity}
use Rattle.std.specs.declared.alloc.Global.{Global}
use Rattle.run_laws.specs.declared.told.Told.{Told}
use Rattle.run_backends.specs.Backends.{lists_of}
use Rattle.backend_cli.proofs.told.ToldLists.of_backends.Given as goal

-- there are the lists of the first backends, and room for one of each of the others
abbrev pub invariant-loop-backend : goal.invariant-loop-backend
invariant-loop-backend l = record {
  lists : map (λ (list : Vec Told Global). list.items) l.lists.items
      ++ lists_of l.backend-iterator.rest.items
      ≡ lists_of l.fn.backends.items;
  count : length l.lists.items + length l.backend-iterator.rest.items
      ≡ length l.fn.backends.items;
  room : length l.lists.items + length l.backend-iterator.rest.items ≤ vec_capacity l.lists;
}
