-- Lines and answers as they are printed.
use Rattle.std.specs.Prelude.{ℕ, ◌+◌, ◌≡◌, ◌≤◌, Bool, List, [], ◌∷◌, ◌++◌, codes, length, if◌then◌else◌}
use Rattle.std.specs.Fmt.{decimal}
use Rattle.byte_position.specs.Position.{end_address_of, first_position}
use Rattle.wal_types.specs.LsnText.{lsn_text}
use Rattle.waldump_text.specs.Put.{joined}
use Rattle.wal_log.specs.declared.reopening.Found.{Found}
use Rattle.backend_cli.specs.declared.printing.Summary.{Summary}
use Rattle.run_script.specs.declared.line.Line.{Line}
use Rattle.run_laws.specs.declared.told.Told.{Told}
use Rattle.backend_cli.specs.Texts.{segments_upto, told_line}
use Rattle.run_laws.specs.Counts.{all_commits_of}
use Rattle.run_laws.specs.Counted.{all_reserved_count}
use Rattle.run_backends.specs.declared.backend.AnsweredLines.{AnsweredLines}

-- a told line for each line
abbrev pub told_lines : ℕ → List Line → List Told → List ℕ
told_lines backend [] told = []
told_lines backend (line ∷ lines) [] = []
told_lines backend (line ∷ lines) (told ∷ others) =
    told_line backend line.number told ++ told_lines backend lines others

-- a summary's line
abbrev pub summary_line : Summary → List ℕ
summary_line s =
    joined (codes "records " ∷ decimal s.records ∷ codes " commits " ∷ decimal s.commits ∷
    codes " bytes " ∷ decimal s.bytes ∷ codes " end " ∷ lsn_text s.end.0 ∷ codes " segments " ∷
    decimal s.segments ∷ codes "\n" ∷ [])

-- what is printed of a log that was found
abbrev pub found_line : Found → List ℕ
found_line found =
    joined (codes "found " ∷ decimal found.count ∷ codes " end " ∷ lsn_text found.end.0 ∷
    codes "\n" ∷ [])

-- so many answers as lines
abbrev pub HasAnswers : AnsweredLines → Type 0
HasAnswers backend = length backend.lines.items ≡ length backend.told.items

-- the told lines of all backends, from a number on
abbrev pub told_lines_upward : ℕ → List AnsweredLines → List ℕ
told_lines_upward number [] = []
told_lines_upward number (backend ∷ backends) =
    told_lines number backend.lines.items backend.told.items
    ++ told_lines_upward (number + 1) backends

-- all that is printed of what backends were told
abbrev pub printed_text : Bool → List AnsweredLines → Summary → List ℕ
printed_text list backends s =
    (if list then told_lines_upward 0 backends else []) ++ summary_line s

-- a log ended at an address that a position has, and ends so many bytes behind it now
pub record EndsBehind (size place used from end : ℕ) : Type 0 where
  pub within : first_position size ≤ place
  pub from_is : from ≡ end_address_of size place
  pub end_is : end ≡ end_address_of size (place + used)

-- what a summary says of a log of which so many bytes are taken up behind a position, and of what
-- lines were told
pub record Summarizes (size from used : ℕ) (lists : List (List Told)) (s : Summary) : Type 0 where
  pub records : s.records ≡ all_reserved_count lists
  pub commits : s.commits ≡ all_commits_of lists
  pub bytes : s.bytes ≡ used
  pub end : s.end.0 ≡ end_address_of size (from + used)
  pub segments : s.segments ≡ segments_upto size s.end.0
