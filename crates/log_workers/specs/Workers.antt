-- The workers of a log: whose passes they have, and what these keep.
use Rattle.std.specs.Prelude.{◌≡◌, ℕ, ◌<◌, All, List, length, slice_index_or}
use Rattle.wal_rule.specs.Passes.{view_of_pass}
use Rattle.machine_state.specs.Views.{View}
use Rattle.wal_log.specs.Logs.{IsPassOfLog}
use Rattle.wal_log.specs.Standing.{KeepsPass}
use Rattle.wal_log.specs.declared.wal.Wal.{Wal}
use Rattle.log_workers.specs.declared.worker.Worker.{Worker}

-- what the pass of a worker knows and is about
abbrev pub view_of_worker : Worker → View
view_of_worker worker = view_of_pass worker.pass

-- a worker of a log has a pass of it that has no number to give away
pub record IsWorkerOf {D : Type 0} (wal : Wal D) (worker : Worker) : Type 0 where
  pub pass : IsPassOfLog wal worker.pass
  pub none_to_give : ((view_of_worker worker).reserving).spare_end ≡ 0

abbrev pub AreWorkersOf : {D : Type 0} → Wal D → List Worker → Type 0
AreWorkersOf wal workers = All (IsWorkerOf wal) workers

-- each worker's pass keeps what a pass keeps in a call
abbrev pub KeepPasses : List Worker → List Worker → Type 0
KeepPasses old new = (k : ℕ) (d : Worker) → k < length old
    → KeepsPass (view_of_worker (slice_index_or old k d)) (view_of_worker (slice_index_or new k d))
