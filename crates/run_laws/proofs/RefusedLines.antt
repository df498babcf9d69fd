-- Where the disk did not fail, a line is refused only where some line found the log full.
use Rattle.std.proofs.Common.{◌≡◌, ℕ, ◌+◌, All, List, [], ◌∷◌, Some, None, inl, inr, arith}
use Rattle.std.proofs.lemmas.List.Elements.{All-head, All-tail, All-weaker}
use mathlib.Core.Option.{Option, none, some}
use Rattle.wal_types.specs.declared.answers.Cause.TheVariants.{Full, Disk, Down}
use Rattle.wal_page.specs.Order.{Entry}
use Rattle.run_script.specs.Asked.{Asked, AskedLine, Insert, Commit, Flush, CommitAsync, WriteBehind, Switch}
use Rattle.machine_state.specs.Words.{Opening, log_limit}
use Rattle.machine_state.specs.Views.{View}
use Rattle.run_laws.specs.declared.told.Told.{Told}
use Rattle.run_laws.specs.declared.told.Told.TheVariants.{Wrote, Hard, Flushed, Async, Idle, Switched, Stayed, Refused}
use Rattle.run_laws.specs.Told.{IsFault, IsFullAnswer, IsRefused, Logged, SomeAnswer, SomeTold, TellsAll}
use Rattle.run_laws.specs.Ended.{HasTakenIn, IsClosedLog, IsKnownTo, PlayedAll, logged_at_end}
use Rattle.run_laws.specs.Played.{KnowsFault, Leaves, PassState, PlaysLines, pass_state_of, state_at_first}
use Rattle.run_laws.proofs.ClosedLogs.{knows_no_fault}
use Rattle.run_laws.proofs.LaterLines.{lines_know}
use Rattle.run_laws.proofs.RunTells.{run_tells}

-- a fault that is not there counts for nothing
not_there : (fault : Option ℕ) (faults : ℕ) → fault ≡ none → fault ≡ some faults → ⊥
not_there none faults up down = cc
not_there (some other) faults up down = cc

module _ (logged : Logged) (up : logged.last ≡ 0) where
  -- a count of faults that rose is not 0
  pub no_fault : (faults : ℕ) → IsFault logged faults → ⊥
  no_fault faults f = elim f.rose [
    | inl more ↦ omega (arith, more, f.upto, up)
    | inr last ↦ omega (arith, last, f.upto, up)
  ]

-- a line whose pass knows no fault behind it is refused for want of room alone
module _ (size limit pass : ℕ) where
  full_line : (asked : Asked) (told : Told) (before after : PassState)
      → ((faults : ℕ) → KnowsFault faults after → ⊥)
      → Leaves size limit pass asked told before after → IsRefused told → IsFullAnswer told
  full_line asked (Wrote start end) before after up l refused = absurd refused
  full_line asked (Hard start end moment) before after up l refused = absurd refused
  full_line asked (Flushed upto moment) before after up l refused = absurd refused
  full_line asked (Async start end) before after up l refused = absurd refused
  full_line asked (Idle upto) before after up l refused = absurd refused
  full_line asked (Switched start end) before after up l refused = absurd refused
  full_line asked (Stayed end) before after up l refused = absurd refused
  full_line asked (Refused (Full free) reserved) before after up l refused = tt
  full_line (Insert value) (Refused (Disk faults) None) before after up l refused = absurd l
  full_line (Insert value) (Refused (Disk faults) (Some start)) before after up l refused =
      absurd (up faults l.1)
  full_line (Insert value) (Refused (Down faults) None) before after up l refused =
      absurd (up faults l.1)
  full_line (Insert value) (Refused (Down faults) (Some start)) before after up l refused =
      absurd (up faults l.1)
  full_line (Commit value) (Refused (Disk faults) None) before after up l refused = absurd l
  full_line (Commit value) (Refused (Disk faults) (Some start)) before after up l refused =
      absurd (up faults l.1)
  full_line (Commit value) (Refused (Down faults) None) before after up l refused =
      absurd (up faults l.1)
  full_line (Commit value) (Refused (Down faults) (Some start)) before after up l refused =
      absurd (up faults l.1)
  full_line Flush (Refused (Disk faults) None) before after up l refused =
      absurd (up faults l.1)
  full_line Flush (Refused (Disk faults) (Some start)) before after up l refused = absurd l
  full_line Flush (Refused (Down faults) None) before after up l refused =
      absurd (up faults l.1)
  full_line Flush (Refused (Down faults) (Some start)) before after up l refused = absurd l
  full_line (CommitAsync value) (Refused (Disk faults) None) before after up l refused = absurd l
  full_line (CommitAsync value) (Refused (Disk faults) (Some start)) before after up l refused =
      absurd (up faults l.1)
  full_line (CommitAsync value) (Refused (Down faults) None) before after up l refused =
      absurd (up faults l.1)
  full_line (CommitAsync value) (Refused (Down faults) (Some start)) before after up l refused =
      absurd (up faults l.1)
  full_line WriteBehind (Refused (Disk faults) None) before after up l refused =
      absurd (up faults l.1)
  full_line WriteBehind (Refused (Disk faults) (Some start)) before after up l refused = absurd l
  full_line WriteBehind (Refused (Down faults) None) before after up l refused =
      absurd (up faults l.1)
  full_line WriteBehind (Refused (Down faults) (Some start)) before after up l refused = absurd l
  full_line Switch (Refused (Disk faults) None) before after up l refused = absurd l.0
  full_line Switch (Refused (Disk faults) (Some start)) before after up l refused =
      absurd (up faults l.0.1)
  full_line Switch (Refused (Down faults) None) before after up l refused =
      absurd (up faults l.0.1)
  full_line Switch (Refused (Down faults) (Some start)) before after up l refused =
      absurd (up faults l.0.1)

  full_lines : (lines : List AskedLine) (told : List Told) (before after : PassState)
      → PlaysLines size limit pass before lines told after
      → ((faults : ℕ) → KnowsFault faults after → ⊥) → SomeAnswer IsRefused told
      → SomeAnswer IsFullAnswer told
  full_lines [] [] before after plays up refused = absurd refused
  full_lines [] (answer ∷ told) before after plays up refused = absurd plays
  full_lines (line ∷ lines) [] before after plays up refused = absurd plays
  full_lines (line ∷ lines) (answer ∷ told) before after plays up (inl here) =
      inl (full_line line.asked answer before plays.0
      (λ faults knows. up faults
      (lines_know size limit pass faults lines told plays.0 after plays.2 knows))
      (plays.1).leaves here)
  full_lines (line ∷ lines) (answer ∷ told) before after plays up (inr later) =
      inr (full_lines lines told plays.0 after plays.2 up later)

-- of a pass that knows no fault
abbrev KnowsNone : View → Type 0
KnowsNone w = (faults : ℕ) → KnowsFault faults (pass_state_of w) → ⊥

full_lists : (size limit pass : ℕ) (script : List (List AskedLine)) (lists : List (List Told))
    (others : List View) → PlayedAll size limit pass script lists others → All KnowsNone others
    → SomeTold IsRefused lists → SomeTold IsFullAnswer lists
full_lists size limit pass [] [] others played up refused = absurd refused
full_lists size limit pass [] (told ∷ lists) others played up refused = absurd played
full_lists size limit pass (lines ∷ script) [] others played up refused = absurd played
full_lists size limit pass (lines ∷ script) (told ∷ lists) [] played up refused = absurd played
full_lists size limit pass (lines ∷ script) (told ∷ lists) (w ∷ others) played up (inl here) =
    inl (full_lines size limit pass lines told (state_at_first (played.1).seen) (pass_state_of w)
    (played.1).plays (All-head KnowsNone w others up) here)
full_lists size limit pass (lines ∷ script) (told ∷ lists) (w ∷ others) played up (inr later) =
    inr (full_lists size limit (pass + 1) script lists others played.2
    (All-tail KnowsNone w others up) later)

module _ (opening : Opening) (order : List Entry) (v : View) (c : IsClosedLog opening order v)
    (script : List (List AskedLine)) (lists : List (List Told))
    (taken : HasTakenIn opening v script lists) where
  -- where the writer met no fault, no line was told one
  pub tells_no_fault : (c.writer).fault ≡ none
      → TellsAll (logged_at_end opening order 0) 1 script lists
  tells_no_fault up =
      run_tells opening order v c script lists taken 0
      (λ faults down. absurd (not_there (c.writer).fault faults up down))

  pub refused_for_want_of_room : (c.writer).fault ≡ none → SomeTold IsRefused lists
      → SomeTold IsFullAnswer lists
  refused_for_want_of_room up =
      full_lists (opening.setup).seg_size (log_limit opening.setup) 1 script lists taken.others
      taken.played (All-weaker (IsKnownTo opening v) KnowsNone
      (λ w known faults knows. let more = known.kept faults knows in
      knows_no_fault opening order v c up more.0 more.2) taken.others taken.known)
