-- That what is printed is the run's text.
use Rattle.std.proofs.Common.{◌≡◌, ◌<◌, ℕ, ◌+◌, Bool, List, [], ◌∷◌, ◌++◌, length, refl, sym, ◌∙◌, ap, ap₂, arith}
use Rattle.std.specs.Prelude.{codes, if◌then◌else◌}
use Rattle.std.specs.Fmt.{decimal}
use Rattle.wal_types.specs.LsnText.{lsn_text}
use Rattle.byte_position.specs.Geometry.{IsSegmentSize}
use Rattle.byte_position.specs.Position.{first_position}
use Rattle.byte_position.proofs.Division.{usable_bytes_bounds}
use Rattle.byte_position.proofs.Segments.{first_position-usable}
use Rattle.wal_page.specs.Order.{Entry, rooms_of}
use Rattle.run_script.specs.Asked.{AskedLine}
use Rattle.run_script.specs.Bodies.{AreLinesOf}
use Rattle.run_script.specs.declared.line.Line.{Line}
use Rattle.waldump_text.specs.Put.{joined}
use Rattle.run_laws.specs.declared.told.Told.{Told}
use Rattle.run_laws.specs.Counts.{all_commits_of}
use Rattle.run_laws.specs.Counted.{all_reserved_count}
use Rattle.run_backends.specs.Backends.{HaveToldEach, lists_of}
use Rattle.run_backends.specs.declared.backend.AnsweredLines.{AnsweredLines}
use Rattle.backend_cli.specs.declared.printing.Summary.{Summary}
use Rattle.backend_cli.specs.Printing.{Summarizes, printed_text, summary_line, told_lines, told_lines_upward}
use Rattle.backend_cli.specs.Texts.{run_text, segments_upto, summary_text, told_line, told_lines_from, told_lines_of}

lines_are : (backend : ℕ) (asked : List AskedLine) (lines : List Line) (told : List Told) → AreLinesOf asked lines → told_lines backend lines told ≡ told_lines_of backend asked told
lines_are backend [] [] told are = refl
lines_are backend [] (line ∷ lines) told are = absurd are
lines_are backend (asked_line ∷ asked) [] told are = absurd are
lines_are backend (asked_line ∷ asked) (line ∷ lines) [] are = refl
lines_are backend (asked_line ∷ asked) (line ∷ lines) (answer ∷ told) are =
    ap₂ (λ (text rest : List ℕ). text ++ rest) (ap (λ (n : ℕ). told_line backend n answer) are.0) (lines_are backend asked lines told are.2)

lists_are : (number : ℕ) (script : List (List AskedLine)) (backends : List AnsweredLines) → HaveToldEach script backends → told_lines_upward number backends ≡ told_lines_from number script (lists_of backends)
lists_are number [] [] have = refl
lists_are number [] (backend ∷ backends) have = absurd have
lists_are number (asked ∷ script) [] have = absurd have
lists_are number (asked ∷ script) (backend ∷ backends) have =
    ap₂ (λ (text rest : List ℕ). text ++ rest) (lines_are number asked backend.lines.items backend.told.items (have.0).lines) (lists_are (number + 1) script backends have.1)

-- the log starts behind position 0
pub starts_behind_zero : (size : ℕ) → IsSegmentSize size → 0 < first_position size
starts_behind_zero size valid =
    omega (arith, first_position-usable size valid, (usable_bytes_bounds size valid).0)

-- a summary's line is that of an order that goes on from a position
summary_is : (size from : ℕ) (es : List Entry) (lists : List (List Told)) (s : Summary)
    → Summarizes size from (rooms_of size es) lists s → length es ≡ all_reserved_count lists
    → summary_line s ≡ summary_text size from es (all_commits_of lists)
summary_is size from es lists s is count =
    let line = λ (records commits bytes at segments : ℕ). joined (codes "records " ∷ decimal records ∷ codes " commits " ∷ decimal commits ∷ codes " bytes " ∷ decimal bytes ∷ codes " end " ∷ lsn_text at ∷ codes " segments " ∷ decimal segments ∷ codes "\n" ∷ []) in
    ap (λ (n : ℕ). line n s.commits s.bytes s.end.0 s.segments) (is.records ∙ sym count)
    ∙ ap (λ (n : ℕ). line (length es) n s.bytes s.end.0 s.segments) is.commits
    ∙ ap (λ (n : ℕ). line (length es) (all_commits_of lists) n s.end.0 s.segments) is.bytes
    ∙ ap (λ (n : ℕ). line (length es) (all_commits_of lists) (rooms_of size es) s.end.0 n) is.segments
    ∙ ap (λ (n : ℕ). line (length es) (all_commits_of lists) (rooms_of size es) n (segments_upto size n)) is.end

-- what is printed is the run's text
pub text_is : (size : ℕ) (list : Bool) (script : List (List AskedLine))
    (backends : List AnsweredLines) (from : ℕ) (es : List Entry) (s : Summary)
    → HaveToldEach script backends → Summarizes size from (rooms_of size es) (lists_of backends) s
    → length es ≡ all_reserved_count (lists_of backends)
    → printed_text list backends s ≡ run_text size list from script (lists_of backends) es
text_is size list script backends from es s have is count =
    ap₂ (λ (told line : List ℕ). (if list then told else []) ++ line)
    (lists_are 0 script backends have)
    (summary_is size from es (lists_of backends) s is count)
