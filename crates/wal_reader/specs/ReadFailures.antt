-- What a step of reading a record answers where it does not go on.
use Rattle.std.specs.Prelude.{◌≡◌, ℕ, Option, Some, None, Result, MatchResult}
use Rattle.segment_disk.specs.Cause.{RoseByOne}
use Rattle.wal_reader.specs.declared.found.Answer.{Answer}
use Rattle.wal_reader.specs.declared.read_failure.ReadFailure.{ReadFailure}
use Rattle.wal_reader.specs.declared.read_failure.ReadFailure.TheVariants as failures

-- a failure tells the first check that fails; troubles say nothing of the checks
abbrev pub IsTold : Option Answer → ReadFailure → Type 0
IsTold fault (failures.Told answer) = fault ≡ Some answer
IsTold fault failures.Memory = Unit {0}
IsTold fault failures.Disk = Unit {0}

-- a step goes on only where no check fails, and else tells the first one that does
abbrev pub Settles : {T : Type 0} → Option Answer → Result T ReadFailure → Type 0
Settles fault result = MatchResult result (λ _. fault ≡ None) (IsTold fault)

-- the same of a step that no trouble meets
abbrev pub Passes : {T : Type 0} → Option Answer → Result T Answer → Type 0
Passes fault result = MatchResult result (λ _. fault ≡ None) (λ answer. fault ≡ Some answer)

-- a failure that no disk is at fault for
abbrev pub IsNoDiskFault : ReadFailure → Type 0
IsNoDiskFault (failures.Told answer) = Unit {0}
IsNoDiskFault failures.Memory = Unit {0}
IsNoDiskFault failures.Disk = ⊥

-- a disk's count of faults, by why a step failed: only a disk's fault changes it
abbrev pub FailsBy : ℕ → ℕ → ReadFailure → Type 0
FailsBy old new (failures.Told answer) = new ≡ old
FailsBy old new failures.Memory = new ≡ old
FailsBy old new failures.Disk = RoseByOne old new

abbrev pub HasFailureCause : {T : Type 0} → ℕ → ℕ → Result T ReadFailure → Type 0
HasFailureCause old new result = MatchResult result (λ _. new ≡ old) (FailsBy old new)
