-- Laws of why a step of reading stops.
use Rattle.std.proofs.Common.{◌≡◌, Option, Some}
use Rattle.wal_reader.specs.declared.found.Answer.{Answer}
use Rattle.wal_reader.specs.declared.read_failure.ReadFailure.{ReadFailure}
use Rattle.wal_reader.specs.declared.read_failure.ReadFailure.TheVariants as failures
use Rattle.wal_reader.specs.ReadFailures.{IsTold}

-- what a stop tells of some checks it tells of others that these begin
pub IsTold-weaker : (fault other : Option Answer) → ((answer : Answer) → fault ≡ Some answer → other ≡ Some answer) → (stop : ReadFailure) → IsTold fault stop → IsTold other stop
IsTold-weaker fault other goes (failures.Told answer) told = goes answer told
IsTold-weaker fault other goes failures.Memory told = tt
IsTold-weaker fault other goes failures.Disk told = tt
