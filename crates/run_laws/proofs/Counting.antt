-- There are as many entries as answers that say that a record was reserved.
use Rattle.std.proofs.Common.{◌≡◌, ℕ, suc, ◌+◌, cond, Bool, true, false, leb, List, [], ◌∷◌, length, length-append, Some, None, option_to_list, refl, sym, ap, ◌∙◌, arith}
use Rattle.wal_types.specs.declared.answers.Cause.TheVariants.{Full, Disk, Down}
use Rattle.wal_page.specs.Order.{Entry}
use Rattle.run_script.specs.Asked.{Asked, AskedLine, Insert, Commit, Flush, CommitAsync, WriteBehind, Switch}
use Rattle.machine_state.specs.Words.{Opening, log_limit}
use Rattle.machine_state.specs.Views.{View}
use Rattle.run_laws.specs.declared.told.Told.{Told}
use Rattle.run_laws.specs.declared.told.Told.TheVariants.{Wrote, Hard, Flushed, Async, Idle, Switched, Stayed, Refused}
use Rattle.run_laws.specs.Told.{entries_from, entries_of, entry_of, insert_by_start, order_from, sorted_by_start}
use Rattle.run_laws.specs.Counts.{is_reserved, reserved_count}
use Rattle.run_laws.specs.Counted.{all_reserved_count}
use Rattle.run_laws.specs.Played.{Leaves, PassState, PlaysLines, state_at_first, pass_state_of}
use Rattle.run_laws.specs.Ended.{HasTakenIn, IsClosedLog, PlayedAll}
use Rattle.run_laws.proofs.RunOrder.{told_order}

module _ (size limit pass : ℕ) where
  line_counted : (asked : Asked) (told : Told) (before after : PassState)
      → Leaves size limit pass asked told before after
      → length (option_to_list (entry_of size pass asked told)) ≡ is_reserved told
  line_counted (Insert value) (Wrote start end) before after l = refl
  line_counted (Insert value) (Hard start end moment) before after l = refl
  line_counted (Insert value) (Flushed upto moment) before after l = refl
  line_counted (Insert value) (Async start end) before after l = refl
  line_counted (Insert value) (Idle upto) before after l = refl
  line_counted (Insert value) (Switched start end) before after l = refl
  line_counted (Insert value) (Stayed end) before after l = refl
  line_counted (Insert value) (Refused cause None) before after l = refl
  line_counted (Insert value) (Refused cause (Some start)) before after l = refl
  line_counted (Commit value) (Wrote start end) before after l = refl
  line_counted (Commit value) (Hard start end moment) before after l = refl
  line_counted (Commit value) (Flushed upto moment) before after l = refl
  line_counted (Commit value) (Async start end) before after l = refl
  line_counted (Commit value) (Idle upto) before after l = refl
  line_counted (Commit value) (Switched start end) before after l = refl
  line_counted (Commit value) (Stayed end) before after l = refl
  line_counted (Commit value) (Refused cause None) before after l = refl
  line_counted (Commit value) (Refused cause (Some start)) before after l = refl
  line_counted Flush (Wrote start end) before after l = absurd l
  line_counted Flush (Hard start end moment) before after l = absurd l
  line_counted Flush (Flushed upto moment) before after l = refl
  line_counted Flush (Async start end) before after l = absurd l
  line_counted Flush (Idle upto) before after l = refl
  line_counted Flush (Switched start end) before after l = absurd l
  line_counted Flush (Stayed end) before after l = refl
  line_counted Flush (Refused cause None) before after l = refl
  line_counted Flush (Refused (Full free) (Some start)) before after l = absurd l
  line_counted Flush (Refused (Disk faults) (Some start)) before after l = absurd l
  line_counted Flush (Refused (Down faults) (Some start)) before after l = absurd l
  line_counted (CommitAsync value) (Wrote start end) before after l = refl
  line_counted (CommitAsync value) (Hard start end moment) before after l = refl
  line_counted (CommitAsync value) (Flushed upto moment) before after l = refl
  line_counted (CommitAsync value) (Async start end) before after l = refl
  line_counted (CommitAsync value) (Idle upto) before after l = refl
  line_counted (CommitAsync value) (Switched start end) before after l = refl
  line_counted (CommitAsync value) (Stayed end) before after l = refl
  line_counted (CommitAsync value) (Refused cause None) before after l = refl
  line_counted (CommitAsync value) (Refused cause (Some start)) before after l = refl
  line_counted WriteBehind (Wrote start end) before after l = absurd l
  line_counted WriteBehind (Hard start end moment) before after l = absurd l
  line_counted WriteBehind (Flushed upto moment) before after l = refl
  line_counted WriteBehind (Async start end) before after l = absurd l
  line_counted WriteBehind (Idle upto) before after l = refl
  line_counted WriteBehind (Switched start end) before after l = absurd l
  line_counted WriteBehind (Stayed end) before after l = refl
  line_counted WriteBehind (Refused cause None) before after l = refl
  line_counted WriteBehind (Refused (Full free) (Some start)) before after l = absurd l
  line_counted WriteBehind (Refused (Disk faults) (Some start)) before after l = absurd l
  line_counted WriteBehind (Refused (Down faults) (Some start)) before after l = absurd l
  line_counted Switch (Wrote start end) before after l = refl
  line_counted Switch (Hard start end moment) before after l = refl
  line_counted Switch (Flushed upto moment) before after l = refl
  line_counted Switch (Async start end) before after l = refl
  line_counted Switch (Idle upto) before after l = refl
  line_counted Switch (Switched start end) before after l = refl
  line_counted Switch (Stayed end) before after l = refl
  line_counted Switch (Refused cause None) before after l = refl
  line_counted Switch (Refused cause (Some start)) before after l = refl

  pub lines_counted : (lines : List AskedLine) (told : List Told) (before after : PassState)
      → PlaysLines size limit pass before lines told after
      → length (entries_of size pass lines told) ≡ reserved_count told
  lines_counted [] [] before after plays = refl
  lines_counted [] (answer ∷ told) before after plays = absurd plays
  lines_counted (line ∷ lines) [] before after plays = absurd plays
  lines_counted (line ∷ lines) (answer ∷ told) before after plays =
      omega (
        arith,
        length-append (option_to_list (entry_of size pass line.asked answer))
            (entries_of size pass lines told),
        line_counted line.asked answer before plays.0 (plays.1).leaves,
        lines_counted lines told plays.0 after plays.2,
      )

all_counted : (size limit pass : ℕ) (script : List (List AskedLine)) (lists : List (List Told))
    (others : List View) → PlayedAll size limit pass script lists others
    → length (entries_from size pass script lists) ≡ all_reserved_count lists
all_counted size limit pass [] [] [] played = refl
all_counted size limit pass [] [] (w ∷ others) played = absurd played
all_counted size limit pass [] (told ∷ lists) others played = absurd played
all_counted size limit pass (lines ∷ script) [] others played = absurd played
all_counted size limit pass (lines ∷ script) (told ∷ lists) [] played = absurd played
all_counted size limit pass (lines ∷ script) (told ∷ lists) (w ∷ others) played =
    omega (
      arith,
      length-append (entries_of size pass lines told)
          (entries_from size (pass + 1) script lists),
      lines_counted size limit pass lines told (state_at_first (played.1).seen) (pass_state_of w)
          (played.1).plays,
      all_counted size limit (pass + 1) script lists others played.2,
    )

-- sorting keeps the number of entries
length-insert : (e : Entry) (es : List Entry) → length (insert_by_start e es) ≡ suc (length es)
length-insert e [] = refl
length-insert e (f ∷ es) = by_test (leb e.start f.start) (length-insert e es)
  where
    by_test : (b : Bool) → length (insert_by_start e es) ≡ suc (length es)
        → length (cond b (e ∷ f ∷ es) (f ∷ insert_by_start e es)) ≡ suc (suc (length es))
    by_test true others = refl
    by_test false others = ap suc others

length-sorted : (es : List Entry) → length (sorted_by_start es) ≡ length es
length-sorted [] = refl
length-sorted (e ∷ es) = length-insert e (sorted_by_start es) ∙ ap suc (length-sorted es)

pub own_counted : (opening : Opening) (v : View) (script : List (List AskedLine))
    (lists : List (List Told)) → HasTakenIn opening v script lists
    → length (order_from (opening.setup).seg_size 1 script lists) ≡ all_reserved_count lists
own_counted opening v script lists taken =
    let size = (opening.setup).seg_size in
    length-sorted (entries_from size 1 script lists)
    ∙ all_counted size (log_limit opening.setup) 1 script lists taken.others taken.played

pub order_counted : (opening : Opening) (order : List Entry) (v : View)
    → IsClosedLog opening order v → (script : List (List AskedLine)) (lists : List (List Told))
    → HasTakenIn opening v script lists
    → length order ≡ all_reserved_count lists
order_counted opening order v c script lists taken =
    sym (ap length (told_order opening order v c script lists taken))
    ∙ own_counted opening v script lists taken
