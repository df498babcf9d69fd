-- The checks of the pages over which a record's bytes are gathered.
use Rattle.std.specs.Prelude.{ℕ, Result, MatchResult}
use Rattle.wal_page.specs.Page.{first_fault}
use Rattle.wal_reader.specs.declared.record_place.RecordPlace.{RecordPlace}
use Rattle.wal_reader.specs.declared.page_cursor.PageCursor.{PageCursor}
use Rattle.wal_reader.specs.declared.read_failure.ReadFailure.{ReadFailure}
use Rattle.wal_reader.specs.Decodes.{page_of_byte, rows_of_pages}
use Rattle.wal_reader.specs.PageCursor.{Crosses}
use Rattle.wal_reader.specs.Pages.{Pages}
use Rattle.wal_reader.specs.ReadFailures.{IsTold}

-- no check fails of the pages behind one up to the one that was come to, or the first is told that
-- fails of those up to the page of a record's last byte that is asked for
abbrev pub PassesPages : ℕ → Pages → RecordPlace → ℕ → ℕ → ℕ → Result PageCursor ReadFailure
    → Type 0
PassesPages size pages place total from upto result =
    MatchResult result (λ now. Crosses size pages place total from now.page)
    (IsTold (first_fault
    (rows_of_pages size pages place total from (page_of_byte size place.position upto))))
