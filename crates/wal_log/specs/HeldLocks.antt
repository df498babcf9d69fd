-- The insertion locks under which a record is copied.
use Rattle.std.specs.Prelude.{ℕ, List, [], ◌∷◌}
use Rattle.reserve_lock.specs.Reserved.{every_lock}
use Rattle.wal_log.specs.declared.held_locks.Held.{Held}
use Rattle.wal_log.specs.declared.held_locks.Held.TheVariants.{One, All}

abbrev pub locks_of : Held → List ℕ
locks_of (One lock) = lock.0 ∷ []
locks_of All = every_lock
