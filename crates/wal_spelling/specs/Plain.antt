-- The bytes behind the header of a record that has main data alone.
use Rattle.std.specs.Prelude.{◌≡◌, ℕ, ◌<◌, List, All, None}
use Rattle.wal_types.specs.declared.record.Xid.{Xid}
use Rattle.wal_spelling.specs.Record.{plain_record}
use Rattle.wal_spelling.specs.Refusal.{refusal_of}
use Rattle.wal_spelling.specs.Spelling.{plain_after_header}

-- bytes are what stands there, and no record of this manager and info is refused for such data
pub record IsPlainSpelling (rmid info : ℕ) (main bytes : List ℕ) : Type 0 where
  pub spelled : bytes ≡ plain_after_header main
  pub accepted : (xid : Xid) → refusal_of (plain_record xid rmid info main) ≡ None
  pub fits : All (λ b. b < 256) main
