-- The bytes that are not read yet as the place where a reader of the headers stands.
use Rattle.std.specs.Prelude.{Result}
use Rattle.wal_record.specs.declared.decoding.unread.Unread.{Unread}
use Rattle.wal_record.specs.declared.fault.RecErr.{RecErr}
use Rattle.wal_record.specs.Reading.{ItemRead, GivesAs, HeaderCursor}

abbrev pub cursor_of : Unread → HeaderCursor
cursor_of u = record { at = u.at; rest = u.bytes.now; owed = u.owed }

-- an item that a call read, and the bytes behind it, are what the reading gives
abbrev pub GivesItem : {X : Type 0} → Result (X × Unread) RecErr → Result (ItemRead X) RecErr
    → Type 0
GivesItem = GivesAs (λ x. record { value = x.0; next = cursor_of x.1 })
