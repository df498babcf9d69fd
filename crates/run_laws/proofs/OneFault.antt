-- A line is told a fault as its own where its pass set the down word, which is set once.
use Rattle.std.proofs.Common.{◌≡◌, ◌≢◌, ℕ, ◌+◌, ◌≤◌, ◌==◌, cond, Bool, true, false, ne_eqb, All, List, [], ◌∷◌, map, Some, None, inl, inr, refl, sym, ap, ◌∙◌, subst, arith}
use Rattle.std.proofs.lemmas.List.Elements.{All-head, All-tail}
use Rattle.wal_types.specs.declared.answers.Cause.TheVariants.{Full, Disk, Down}
use Rattle.run_script.specs.Asked.{Asked, AskedLine, Insert, Commit, Flush, CommitAsync, WriteBehind, Switch}
use Rattle.run_laws.specs.declared.told.Told.{Told}
use Rattle.run_laws.specs.declared.told.Told.TheVariants.{Wrote, Hard, Flushed, Async, Idle, Switched, Stayed, Refused}
use Rattle.run_laws.specs.Told.{AllDown, IsDownAnswer, SomeAnswer, SomeTold}
use Rattle.run_laws.specs.Counts.{TellsOneFault, all_own_faults_of, is_own_fault, own_faults_of}
use Rattle.wal_page.specs.Order.{Entry}
use Rattle.machine_state.specs.Durable.{one_if_some, setters_among}
use Rattle.machine_state.specs.Moves.{joined_of}
use Rattle.machine_state.specs.Views.{View}
use Rattle.machine_state.specs.Words.{Opening, down_word, log_limit}
use Rattle.run_laws.specs.Ended.{HasTakenIn, IsClosedLog, IsKnownTo, PlayedAll}
use Rattle.run_laws.specs.Played.{KnowsFault, Leaves, PassState, PlaysLines, TellsCause, pass_state_of, state_at_first}
use Rattle.run_laws.proofs.ClosedLogs.{down_is_set}
use Rattle.run_laws.proofs.LineFaults.{lines_down}
use Rattle.run_laws.proofs.LaterLines.{lines_know}

one_of_some : (n : ℕ) → n ≢ 0 → one_if_some n ≡ 1
one_of_some n not_none = ap (λ (b : Bool). cond b 0 1) (ne_eqb n 0 not_none)

one_at_most : (n : ℕ) → one_if_some n ≤ 1
one_at_most n = by_test (n == 0)
  where
    by_test : (b : Bool) → cond b 0 1 ≤ 1
    by_test true = omega arith
    by_test false = omega arith

-- where the disk had failed before, no fault is a line's own
none_own : (faults : ℕ) (told : List Told) → AllDown faults told → own_faults_of told ≡ 0
none_own faults [] down = refl
none_own faults (answer ∷ told) down =
    let own = ap is_own_fault down.0 in
    let more = none_own faults told down.1 in omega (arith, own, more)

module _ (size limit pass : ℕ) where
  -- what a refused line knows then
  refused_knows_disk : (asked : Asked) (faults : ℕ) (reserved : _) (before after : PassState)
      → Leaves size limit pass asked (Refused (Disk faults) reserved) before after
      → KnowsFault faults after
  refused_knows_disk (Insert value) faults None before after l = absurd l
  refused_knows_disk (Insert value) faults (Some start) before after l = l.1
  refused_knows_disk (Commit value) faults None before after l = absurd l
  refused_knows_disk (Commit value) faults (Some start) before after l = l.1
  refused_knows_disk Flush faults None before after l = l.1
  refused_knows_disk Flush faults (Some start) before after l = absurd l
  refused_knows_disk (CommitAsync value) faults None before after l = absurd l
  refused_knows_disk (CommitAsync value) faults (Some start) before after l = l.1
  refused_knows_disk WriteBehind faults None before after l = l.1
  refused_knows_disk WriteBehind faults (Some start) before after l = absurd l
  refused_knows_disk Switch faults None before after l = absurd l.0
  refused_knows_disk Switch faults (Some start) before after l = l.0.1

  refused_knows_down : (asked : Asked) (faults : ℕ) (reserved : _) (before after : PassState)
      → Leaves size limit pass asked (Refused (Down faults) reserved) before after
      → KnowsFault faults after
  refused_knows_down (Insert value) faults None before after l = l.1
  refused_knows_down (Insert value) faults (Some start) before after l = l.1
  refused_knows_down (Commit value) faults None before after l = l.1
  refused_knows_down (Commit value) faults (Some start) before after l = l.1
  refused_knows_down Flush faults None before after l = l.1
  refused_knows_down Flush faults (Some start) before after l = absurd l
  refused_knows_down (CommitAsync value) faults None before after l = l.1
  refused_knows_down (CommitAsync value) faults (Some start) before after l = l.1
  refused_knows_down WriteBehind faults None before after l = l.1
  refused_knows_down WriteBehind faults (Some start) before after l = absurd l
  refused_knows_down Switch faults None before after l = l.0.1
  refused_knows_down Switch faults (Some start) before after l = l.0.1

  -- where the pass knew a fault, its lines set none
  lines_set_none : (faults : ℕ) (lines : List AskedLine) (told : List Told)
      (before after : PassState) → PlaysLines size limit pass before lines told after
      → KnowsFault faults before → after.set ≡ before.set
  lines_set_none faults [] [] before after plays knows = ap (λ (s : PassState). s.set) plays
  lines_set_none faults [] (answer ∷ told) before after plays knows = absurd plays
  lines_set_none faults (line ∷ lines) [] before after plays knows = absurd plays
  lines_set_none faults (line ∷ lines) (answer ∷ told) before after plays knows =
      let again = (plays.1).again faults knows in
      let cause = subst (λ (t : Told). TellsCause t before plays.0) again (plays.1).cause in
      let leaves = subst (λ (t : Told). Leaves size limit pass line.asked t before plays.0) again
      (plays.1).leaves in
      lines_set_none faults lines told plays.0 after plays.2
      (refused_knows_down line.asked faults None before plays.0 leaves)
      ∙ cause.1

  -- a line and those behind it, of a pass that has set none
  own_faults_behind : (asked : Asked) (answer : Told) (lines : List AskedLine) (told : List Told)
      (before mid after : PassState) → Leaves size limit pass asked answer before mid
      → TellsCause answer before mid → before.set ≡ 0
      → PlaysLines size limit pass mid lines told after
      → (mid.set ≡ 0 → own_faults_of told ≡ one_if_some after.set)
      → own_faults_of (answer ∷ told) ≡ one_if_some after.set
  own_faults_behind asked (Wrote start end) lines told before mid after l cause none plays more =
      let same = more cause.1 in omega (arith, same)
  own_faults_behind asked (Hard start end moment) lines told before mid after l cause none plays
      more = let same = more cause.1 in omega (arith, same)
  own_faults_behind asked (Flushed upto moment) lines told before mid after l cause none plays
      more = let same = more cause.1 in omega (arith, same)
  own_faults_behind asked (Async start end) lines told before mid after l cause none plays more =
      let same = more cause.1 in omega (arith, same)
  own_faults_behind asked (Idle upto) lines told before mid after l cause none plays more =
      let same = more cause.1 in omega (arith, same)
  own_faults_behind asked (Switched start end) lines told before mid after l cause none plays
      more = let same = more cause.1 in omega (arith, same)
  own_faults_behind asked (Stayed end) lines told before mid after l cause none plays more =
      let same = more cause.1 in omega (arith, same)
  own_faults_behind asked (Refused (Full free) reserved) lines told before mid after l cause none
      plays more = let same = more cause.1 in omega (arith, same)
  own_faults_behind asked (Refused (Disk faults) reserved) lines told before mid after l cause
      none plays more =
      let knows = refused_knows_disk asked faults reserved before mid l in
      let set = lines_set_none faults lines told mid after plays knows ∙ cause in
      let others = none_own faults told
      (lines_down size limit pass faults lines told mid after plays knows) in
      let one = ap one_if_some set ∙ one_of_some faults knows.0 in
      omega (arith, one, others)
  own_faults_behind asked (Refused (Down faults) reserved) lines told before mid after l cause
      none plays more = let same = more (cause.1 ∙ none) in omega (arith, same)

  pub own_faults_counted : (lines : List AskedLine) (told : List Told) (before after : PassState)
      → PlaysLines size limit pass before lines told after → before.set ≡ 0
      → own_faults_of told ≡ one_if_some after.set
  own_faults_counted [] [] before after plays none =
      sym (ap one_if_some (ap (λ (s : PassState). s.set) plays ∙ none))
  own_faults_counted [] (answer ∷ told) before after plays none = absurd plays
  own_faults_counted (line ∷ lines) [] before after plays none = absurd plays
  own_faults_counted (line ∷ lines) (answer ∷ told) before after plays none =
      own_faults_behind line.asked answer lines told before plays.0 after (plays.1).leaves
      (plays.1).cause none plays.2
      (own_faults_counted lines told plays.0 after plays.2)

  -- a line that is told that the disk had failed leaves its pass knowing it
  down_line_knows : (asked : Asked) (answer : Told) (before after : PassState)
      → Leaves size limit pass asked answer before after → IsDownAnswer answer
      → (faults : ℕ) × KnowsFault faults after
  down_line_knows asked (Wrote start end) before after l down = absurd down
  down_line_knows asked (Hard start end moment) before after l down = absurd down
  down_line_knows asked (Flushed upto moment) before after l down = absurd down
  down_line_knows asked (Async start end) before after l down = absurd down
  down_line_knows asked (Idle upto) before after l down = absurd down
  down_line_knows asked (Switched start end) before after l down = absurd down
  down_line_knows asked (Stayed end) before after l down = absurd down
  down_line_knows asked (Refused (Full free) reserved) before after l down = absurd down
  down_line_knows asked (Refused (Disk faults) reserved) before after l down = absurd down
  down_line_knows asked (Refused (Down faults) reserved) before after l down =
      (faults, refused_knows_down asked faults reserved before after l)

  pub down_lines_know : (lines : List AskedLine) (told : List Told) (before after : PassState)
      → PlaysLines size limit pass before lines told after → SomeAnswer IsDownAnswer told
      → (faults : ℕ) × KnowsFault faults after
  down_lines_know [] [] before after plays down = absurd down
  down_lines_know [] (answer ∷ told) before after plays down = absurd plays
  down_lines_know (line ∷ lines) [] before after plays down = absurd plays
  down_lines_know (line ∷ lines) (answer ∷ told) before after plays (inl here) =
      let known = down_line_knows line.asked answer before plays.0 (plays.1).leaves here in (
        known.0,
        lines_know size limit pass known.0 lines told plays.0 after plays.2 known.1,
      )
  down_lines_know (line ∷ lines) (answer ∷ told) before after plays (inr later) =
      down_lines_know lines told plays.0 after plays.2 later

-- ---- of all backends

-- so many lines are told a fault as their own as passes that were taken in set the down word
all_counted : (size limit pass : ℕ) (script : List (List AskedLine)) (lists : List (List Told))
    (others : List View) → PlayedAll size limit pass script lists others
    → all_own_faults_of lists ≡ setters_among (map joined_of others)
all_counted size limit pass [] [] [] played = refl
all_counted size limit pass [] [] (w ∷ others) played = absurd played
all_counted size limit pass [] (told ∷ lists) others played = absurd played
all_counted size limit pass (lines ∷ script) [] others played = absurd played
all_counted size limit pass (lines ∷ script) (told ∷ lists) [] played = absurd played
all_counted size limit pass (lines ∷ script) (told ∷ lists) (w ∷ others) played =
    let own = own_faults_counted size limit pass lines told (state_at_first (played.1).seen)
    (pass_state_of w) (played.1).plays refl in
    let more = all_counted size limit (pass + 1) script lists others played.2 in
    omega (arith, own, more)

-- what is known of each pass that knows a fault holds where a line is told that the disk had failed
module _ (R : Type 0) (P : View → Type 0)
    (known : (w : View) → P w → (faults : ℕ) → KnowsFault faults (pass_state_of w) → R) where
  all_down_known : (size limit pass : ℕ) (script : List (List AskedLine))
      (lists : List (List Told)) (others : List View)
      → PlayedAll size limit pass script lists others → All P others
      → SomeTold IsDownAnswer lists → R
  all_down_known size limit pass [] [] [] played all down = absurd down
  all_down_known size limit pass [] [] (w ∷ others) played all down = absurd played
  all_down_known size limit pass [] (told ∷ lists) others played all down = absurd played
  all_down_known size limit pass (lines ∷ script) [] others played all down = absurd played
  all_down_known size limit pass (lines ∷ script) (told ∷ lists) [] played all down =
      absurd played
  all_down_known size limit pass (lines ∷ script) (told ∷ lists) (w ∷ others) played all
      (inl here) =
      let knows = down_lines_know size limit pass lines told (state_at_first (played.1).seen)
      (pass_state_of w) (played.1).plays here in
      known w (All-head P w others all) knows.0 knows.1
  all_down_known size limit pass (lines ∷ script) (told ∷ lists) (w ∷ others) played all
      (inr later) =
      all_down_known size limit (pass + 1) script lists others played.2 (All-tail P w others all)
      later

pub told_once : (opening : Opening) (order : List Entry) (v : View)
    → IsClosedLog opening order v → (script : List (List AskedLine)) (lists : List (List Told))
    → HasTakenIn opening v script lists → TellsOneFault lists
told_once opening order v c script lists taken =
    let size = (opening.setup).seg_size in
    let limit = log_limit opening.setup in
    let counted = all_counted size limit 1 script lists taken.others taken.played in
    let joined = ap setters_among taken.joined in
    let once = ((c.closed).durable).set_once in
    let most = one_at_most (down_word c.words) in
    let Known = ((v.writing).down_set ≡ 0) × (down_word c.words ≢ 0) in
    let known : (w : View) → IsKnownTo opening v w → (faults : ℕ)
    → KnowsFault faults (pass_state_of w) → Known =
    λ w k faults knows.
    let more = k.kept faults knows in
    (k.first_set_none faults knows, down_is_set opening order v c more.0 more.2) in
    record {
      at_most = omega (arith, counted, joined, once, most);
      some = λ down.
          let is = all_down_known Known (IsKnownTo opening v) known size limit 1 script lists
          taken.others taken.played taken.known down in
          let own = ap one_if_some is.0 in
          let one = one_of_some (down_word c.words) is.1 in
          omega (arith, counted, joined, once, own, one);
    }
