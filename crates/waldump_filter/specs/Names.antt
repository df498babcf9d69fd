-- The names of managers and of forks (PostgreSQL's rmgrlist.h and relpath.c).
use Rattle.std.specs.Prelude.{ℕ, Bool, List, [], ◌∷◌, Option, codes, map}
use Rattle.std.specs.Char.{to_ascii_lowercase}
use Rattle.std.specs.List.{position_from}
use Rattle.std.specs.Str.{bytes_eq}

-- PostgreSQL's own managers, by their numbers from 0
abbrev pub manager_names : List (List ℕ)
manager_names =
    codes "XLOG" ∷ codes "Transaction" ∷ codes "Storage" ∷ codes "CLOG" ∷ codes "Database"
    ∷ codes "Tablespace" ∷ codes "MultiXact" ∷ codes "RelMap" ∷ codes "Standby" ∷ codes "Heap2"
    ∷ codes "Heap"
    ∷ codes "Btree" ∷ codes "Hash" ∷ codes "Gin" ∷ codes "Gist" ∷ codes "Sequence" ∷ codes "SPGist"
    ∷ codes "BRIN" ∷ codes "CommitTs" ∷ codes "ReplicationOrigin" ∷ codes "Generic"
    ∷ codes "LogicalMessage" ∷ []

-- the forks of a relation, by their numbers from 0
abbrev pub fork_names : List (List ℕ)
fork_names = codes "main" ∷ codes "fsm" ∷ codes "vm" ∷ codes "init" ∷ []

-- whether two names are the same in any case of ASCII letters
abbrev pub is_same_name : List ℕ → List ℕ → Bool
is_same_name a b = bytes_eq (map to_ascii_lowercase a) (map to_ascii_lowercase b)

-- the number of one of PostgreSQL's own managers by its name
abbrev pub own_manager_of : List ℕ → Option ℕ
own_manager_of word = position_from (λ name. is_same_name name word) 0 manager_names

-- the number of a fork by its name, in exact case
abbrev pub fork_named : List ℕ → Option ℕ
fork_named word = position_from (λ name. bytes_eq name word) 0 fork_names
