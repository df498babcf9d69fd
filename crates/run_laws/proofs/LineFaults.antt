-- Once a pass knows that the disk failed, each line is told so.
use Rattle.std.proofs.Common.{ℕ, ◌+◌, List, [], ◌∷◌, Some, None, subst}
use Rattle.wal_types.specs.declared.answers.Cause.TheVariants.{Full, Disk, Down}
use Rattle.run_script.specs.Asked.{Asked, AskedLine, Insert, Commit, Flush, CommitAsync, WriteBehind, Switch}
use Rattle.run_laws.specs.declared.told.Told.{Told}
use Rattle.run_laws.specs.declared.told.Told.TheVariants.{Wrote, Hard, Flushed, Async, Idle, Switched, Stayed, Refused}
use Rattle.run_laws.specs.Told.{AllDown, EachStaysDown, StaysDown}
use Rattle.machine_state.specs.Words.{Opening, log_limit}
use Rattle.machine_state.specs.Views.{View}
use Rattle.run_laws.specs.Played.{KnowsFault, Leaves, PassState, PlaysLines, state_at_first, pass_state_of}
use Rattle.run_laws.specs.Ended.{HasTakenIn, PlayedAll}

module _ (size limit pass : ℕ) where
  -- a line that is told of a failed disk leaves its pass knowing it
  pub down_known : (asked : Asked) (faults : ℕ) (before after : PassState)
      → Leaves size limit pass asked (Refused (Down faults) None) before after
      → KnowsFault faults after
  down_known (Insert value) faults before after l = l.1
  down_known (Commit value) faults before after l = l.1
  down_known Flush faults before after l = l.1
  down_known (CommitAsync value) faults before after l = l.1
  down_known WriteBehind faults before after l = l.1
  down_known Switch faults before after l = l.0.1

  pub lines_down : (faults : ℕ) (lines : List AskedLine) (told : List Told)
      (before after : PassState) → PlaysLines size limit pass before lines told after
      → KnowsFault faults before → AllDown faults told
  lines_down faults [] [] before after plays knows = tt
  lines_down faults [] (answer ∷ told) before after plays knows = absurd plays
  lines_down faults (line ∷ lines) [] before after plays knows = absurd plays
  lines_down faults (line ∷ lines) (answer ∷ told) before after plays knows =
      let again = (plays.1).again faults knows in (
        again,
        lines_down faults lines told plays.0 after plays.2
            (down_known line.asked faults before plays.0
            (subst (λ (t : Told). Leaves size limit pass line.asked t before plays.0) again
            (plays.1).leaves)),
      )

  -- an answer in front of others
  stays_behind : (asked : Asked) (answer : Told) (others : List Told) (before mid : PassState)
      → Leaves size limit pass asked answer before mid → StaysDown others
      → ((faults : ℕ) → KnowsFault faults mid → AllDown faults others) → StaysDown (answer ∷ others)
  stays_behind asked (Wrote start end) others before mid l stays down = stays
  stays_behind asked (Hard start end moment) others before mid l stays down = stays
  stays_behind asked (Flushed upto moment) others before mid l stays down = stays
  stays_behind asked (Async start end) others before mid l stays down = stays
  stays_behind asked (Idle upto) others before mid l stays down = stays
  stays_behind asked (Switched start end) others before mid l stays down = stays
  stays_behind asked (Stayed end) others before mid l stays down = stays
  stays_behind asked (Refused (Full free) reserved) others before mid l stays down = stays
  stays_behind (Insert value) (Refused (Disk faults) None) others before mid l stays down =
      absurd l
  stays_behind (Insert value) (Refused (Disk faults) (Some start)) others before mid l stays down =
      down faults l.1
  stays_behind (Commit value) (Refused (Disk faults) None) others before mid l stays down =
      absurd l
  stays_behind (Commit value) (Refused (Disk faults) (Some start)) others before mid l stays down =
      down faults l.1
  stays_behind Flush (Refused (Disk faults) None) others before mid l stays down = down faults l.1
  stays_behind Flush (Refused (Disk faults) (Some start)) others before mid l stays down = absurd l
  stays_behind (Insert value) (Refused (Down faults) None) others before mid l stays down =
      down faults l.1
  stays_behind (Insert value) (Refused (Down faults) (Some start)) others before mid l stays down =
      down faults l.1
  stays_behind (Commit value) (Refused (Down faults) None) others before mid l stays down =
      down faults l.1
  stays_behind (Commit value) (Refused (Down faults) (Some start)) others before mid l stays down =
      down faults l.1
  stays_behind Flush (Refused (Down faults) None) others before mid l stays down = down faults l.1
  stays_behind Flush (Refused (Down faults) (Some start)) others before mid l stays down = absurd l
  stays_behind (CommitAsync value) (Refused (Disk faults) None) others before mid l stays down =
      absurd l
  stays_behind (CommitAsync value) (Refused (Disk faults) (Some start)) others before mid l stays down =
      down faults l.1
  stays_behind (CommitAsync value) (Refused (Down faults) None) others before mid l stays down =
      down faults l.1
  stays_behind (CommitAsync value) (Refused (Down faults) (Some start)) others before mid l stays down =
      down faults l.1
  stays_behind WriteBehind (Refused (Disk faults) None) others before mid l stays down = down faults l.1
  stays_behind WriteBehind (Refused (Disk faults) (Some start)) others before mid l stays down = absurd l
  stays_behind WriteBehind (Refused (Down faults) None) others before mid l stays down = down faults l.1
  stays_behind WriteBehind (Refused (Down faults) (Some start)) others before mid l stays down = absurd l
  stays_behind Switch (Refused (Disk faults) None) others before mid l stays down = absurd l.0
  stays_behind Switch (Refused (Disk faults) (Some start)) others before mid l stays down =
      down faults l.0.1
  stays_behind Switch (Refused (Down faults) None) others before mid l stays down =
      down faults l.0.1
  stays_behind Switch (Refused (Down faults) (Some start)) others before mid l stays down =
      down faults l.0.1

  pub lines_stay_down : (lines : List AskedLine) (told : List Told) (before after : PassState)
      → PlaysLines size limit pass before lines told after → StaysDown told
  lines_stay_down [] [] before after plays = tt
  lines_stay_down [] (answer ∷ told) before after plays = absurd plays
  lines_stay_down (line ∷ lines) [] before after plays = absurd plays
  lines_stay_down (line ∷ lines) (answer ∷ told) before after plays =
      stays_behind line.asked answer told before plays.0 (plays.1).leaves
      (lines_stay_down lines told plays.0 after plays.2)
      (λ faults. lines_down faults lines told plays.0 after plays.2)

lists_stay_down : (size limit pass : ℕ) (script : List (List AskedLine))
    (lists : List (List Told)) (others : List View)
    → PlayedAll size limit pass script lists others → EachStaysDown lists
lists_stay_down size limit pass [] [] [] played = tt
lists_stay_down size limit pass [] [] (w ∷ others) played = absurd played
lists_stay_down size limit pass [] (told ∷ lists) others played = absurd played
lists_stay_down size limit pass (lines ∷ script) [] others played = absurd played
lists_stay_down size limit pass (lines ∷ script) (told ∷ lists) [] played = absurd played
lists_stay_down size limit pass (lines ∷ script) (told ∷ lists) (w ∷ others) played = (
  lines_stay_down size limit pass lines told (state_at_first (played.1).seen)
      (pass_state_of w) (played.1).plays,
  lists_stay_down size limit (pass + 1) script lists others played.2,
)

pub run_stays_down : (opening : Opening) (v : View) (script : List (List AskedLine))
    (lists : List (List Told)) → HasTakenIn opening v script lists → EachStaysDown lists
run_stays_down opening v script lists taken =
    lists_stay_down (opening.setup).seg_size (log_limit opening.setup) 1 script lists
    taken.others taken.played
