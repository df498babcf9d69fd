-- Counts of answers.
use Rattle.std.specs.Prelude.{◌≡◌, ℕ, ◌+◌, ◌≤◌, List, [], ◌∷◌, if◌then◌else◌, is_some}
use Rattle.wal_types.specs.declared.answers.Cause.TheVariants.{Disk}
use Rattle.run_laws.specs.declared.told.Told.{Told}
use Rattle.run_laws.specs.declared.told.Told.TheVariants.{Hard, Refused}
use Rattle.run_laws.specs.Told.{IsDownAnswer, SomeTold, reserved_by}

-- how many answers say that a commit is durable
abbrev pub is_hard : Told → ℕ
is_hard (Hard start end moment) = 1
is_hard other = 0

abbrev pub commits_of : List Told → ℕ
commits_of [] = 0
commits_of (told ∷ others) = is_hard told + commits_of others

abbrev pub all_commits_of : List (List Told) → ℕ
all_commits_of [] = 0
all_commits_of (told ∷ others) = commits_of told + all_commits_of others

-- how many answers say that a record was reserved
abbrev pub is_reserved : Told → ℕ
is_reserved told = if is_some (reserved_by told) then 1 else 0

abbrev pub reserved_count : List Told → ℕ
reserved_count [] = 0
reserved_count (told ∷ others) = is_reserved told + reserved_count others

-- how many answers say that a device call of their own line failed
abbrev pub is_own_fault : Told → ℕ
is_own_fault (Refused (Disk faults) reserved) = 1
is_own_fault other = 0

abbrev pub own_faults_of : List Told → ℕ
own_faults_of [] = 0
own_faults_of (told ∷ others) = is_own_fault told + own_faults_of others

abbrev pub all_own_faults_of : List (List Told) → ℕ
all_own_faults_of [] = 0
all_own_faults_of (told ∷ others) = own_faults_of told + all_own_faults_of others

-- no more than one line of all backends is told that its own call failed; and one is, where a line
-- is told that the disk had failed before
pub record TellsOneFault (lists : List (List Told)) : Type 0 where
  pub at_most : all_own_faults_of lists ≤ 1
  pub some : SomeTold IsDownAnswer lists → all_own_faults_of lists ≡ 1
