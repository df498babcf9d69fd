-- What a page's front says of where reading begins.
use Rattle.std.specs.Prelude.{◌≡◌, ℕ, ◌+◌, ◌*◌, ◌/◌, List, Result, Ok, Err, if◌then◌else◌}
use Rattle.wal_page.specs.Page.{is_continued, remaining_of}
use Rattle.wal_reader.specs.declared.found.Answer.{Answer}
use Rattle.wal_reader.specs.declared.beginning.Front.{Front}
use Rattle.wal_reader.specs.declared.beginning.Front.TheVariants.{Here, Filled}
use Rattle.wal_reader.specs.declared.record_place.RecordPlace.{RecordPlace}
use Rattle.wal_reader.specs.declared.read_failure.ReadFailure.{ReadFailure}
use Rattle.wal_reader.specs.declared.read_failure.ReadFailure.TheVariants as failures
use Rattle.wal_reader.specs.RecordPlace.{IsReachable}

-- how many bytes a record that continues into a page takes up there, if it ends on that page
abbrev pub skipped_in : List ℕ → ℕ
skipped_in bytes = if is_continued bytes then (remaining_of bytes + 7) / 8 * 8 else 0

-- where reading begins, by what comes of the page behind a page that is filled
abbrev pub goes_on : (ℕ → ℕ → Result RecordPlace Answer) → ℕ → Result Front Answer
    → Result RecordPlace Answer
goes_on next page (Ok (Here at)) = Ok at
goes_on next page (Ok (Filled timeline)) = next (page + 1) timeline
goes_on next page (Err answer) = Err answer

abbrev pub IsReachableFront : Front → Type 0
IsReachableFront (Here at) = IsReachable at
IsReachableFront (Filled timeline) = Unit {0}

-- reading begins at a place, or an answer comes instead
abbrev pub IsBegun : Result RecordPlace Answer → Result RecordPlace ReadFailure → Type 0
IsBegun begun (Ok at) = begun ≡ Ok at
IsBegun begun (Err (failures.Told answer)) = begun ≡ Err answer
IsBegun begun (Err failures.Memory) = Unit {0}
IsBegun begun (Err failures.Disk) = Unit {0}
