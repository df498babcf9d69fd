use Rattle.wal_page.proofs.OwnerLaws.{owner_at-entry_iff, Owns_iff, owner_at-some_iff}
use Rattle.wal_page.proofs.laws.entries_own_stretches.Goals as goal

pub returns : goal.returns
returns c = record {
  owner = owner_at-entry_iff;
  owned = λ size a start address valid. Owns_iff size valid a start address;
  together = λ size es address valid chain. owner_at-some_iff size valid es chain address;
}
