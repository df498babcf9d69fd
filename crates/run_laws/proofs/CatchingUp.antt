-- A flush behind tells no less than its backend was told before: each address told durable is that
-- of a promise of its log or below it, and the async address that the pass met is no less than the
-- end of each of its commits that were answered ahead.
use Rattle.std.proofs.Common.{◌≡◌, ℕ, ◌+◌, ◌≤◌, All, List, [], ◌∷◌, length, max, subst, arith}
use Rattle.std.proofs.lemmas.List.Elements.{All-head}
use Rattle.run_script.specs.Asked.{Asked, AskedLine, Insert, Commit, Flush, CommitAsync, WriteBehind, Switch}
use Rattle.machine_state.specs.Words.{Opening, log_limit}
use Rattle.machine_state.specs.Views.{FlushPromise, View}
use Rattle.run_laws.specs.declared.told.Told.{Told}
use Rattle.run_laws.specs.declared.told.Told.TheVariants.{Wrote, Hard, Flushed, Async, Idle, Switched, Stayed, Refused}
use Rattle.run_laws.specs.CatchingUp.{AllCatchUp, CatchesUp, EachCatchesUp, ahead_told, hard_told}
use Rattle.run_laws.proofs.AllLaws.{parts_all}
use Rattle.machine_state.specs.PassLogs.{PassLog, log_with_promise}
use Rattle.run_laws.specs.Played.{Leaves, PassState, PlaysLines, pass_state_of, state_at_first}
use Rattle.run_laws.specs.Ended.{HasTakenIn, PlayedAll}
use Rattle.run_laws.proofs.LaterLines.{line_held}
use Rattle.run_laws.proofs.LinePromises.{Anywhere}

-- each promise of a log is of no more than an address
abbrev AreUpto : ℕ → PassLog → Type 0
AreUpto address log = All (λ (p : FlushPromise). p.upto ≤ address) log.promises

-- an address is no greater than all that a log was promised
abbrev IsPromised : ℕ → PassLog → Type 0
IsPromised hard log = (address : ℕ) → AreUpto address log → hard ≤ address

-- what is promised last is no more than an address that all promises are below
newest_low : (upto moment address : ℕ) (before after : PassLog)
    → after ≡ log_with_promise upto moment before → AreUpto address after → upto ≤ address
newest_low upto moment address before after log_is all =
    let Low = λ (p : FlushPromise). p.upto ≤ address in
    let more : FlushPromise =
    record { upto = upto; moment = moment; entries = length before.entries } in
    let parts = subst (AreUpto address) log_is all in
    All-head Low more [] (parts_all Low before.promises (more ∷ []) parts).1

module _ (size limit pass : ℕ) where
  told_low : (asked : Asked) (told : Told) (before after : PassState)
      → Leaves size limit pass asked told before after → IsPromised (hard_told told) after.log
  told_low asked (Wrote start end) before after l = λ address all. omega arith
  told_low asked (Async start end) before after l = λ address all. omega arith
  told_low asked (Idle upto) before after l = λ address all. omega arith
  told_low asked (Switched start end) before after l = λ address all. omega arith
  told_low asked (Stayed end) before after l = λ address all. omega arith
  told_low asked (Refused cause reserved) before after l = λ address all. omega arith
  told_low (Insert value) (Hard start end moment) before after l = absurd l
  told_low (Commit value) (Hard start end moment) before after l = λ address all.
      omega (
        arith,
        (l.promised).reached,
        newest_low l.upto moment address l.between after.log (l.promised).log_is all,
      )
  told_low Flush (Hard start end moment) before after l = absurd l
  told_low (CommitAsync value) (Hard start end moment) before after l = absurd l
  told_low WriteBehind (Hard start end moment) before after l = absurd l
  told_low Switch (Hard start end moment) before after l = absurd l
  told_low (Insert value) (Flushed upto moment) before after l = absurd l
  told_low (Commit value) (Flushed upto moment) before after l = absurd l
  told_low Flush (Flushed upto moment) before after l = λ address all.
      newest_low upto.0 moment address before.log after.log l.log_is all
  told_low (CommitAsync value) (Flushed upto moment) before after l = absurd l
  told_low WriteBehind (Flushed upto moment) before after l = λ address all.
      newest_low upto.0 moment address before.log after.log l.log_is all
  told_low Switch (Flushed upto moment) before after l = absurd l

  told_met : (asked : Asked) (told : Told) (before after : PassState)
      → Leaves size limit pass asked told before after → ahead_told told ≤ after.async_met
  told_met asked (Wrote start end) before after l = omega arith
  told_met asked (Hard start end moment) before after l = omega arith
  told_met asked (Flushed upto moment) before after l = omega arith
  told_met asked (Idle upto) before after l = omega arith
  told_met asked (Switched start end) before after l = omega arith
  told_met asked (Stayed end) before after l = omega arith
  told_met asked (Refused cause reserved) before after l = omega arith
  told_met (Insert value) (Async start end) before after l = absurd l
  told_met (Commit value) (Async start end) before after l = absurd l
  told_met Flush (Async start end) before after l = absurd l
  told_met (CommitAsync value) (Async start end) before after l = l.counted
  told_met WriteBehind (Async start end) before after l = absurd l
  told_met Switch (Async start end) before after l = absurd l

  catches : (hard ahead : ℕ) (asked : Asked) (told : Told) (before after : PassState)
      → Leaves size limit pass asked told before after → before.async_met ≤ after.async_met
      → IsPromised hard before.log → ahead ≤ before.async_met → CatchesUp hard ahead asked told
  catches hard ahead (Insert value) told before after l rises promised met = tt
  catches hard ahead (Commit value) told before after l rises promised met = tt
  catches hard ahead Flush told before after l rises promised met = tt
  catches hard ahead (CommitAsync value) told before after l rises promised met = tt
  catches hard ahead WriteBehind (Wrote start end) before after l rises promised met = tt
  catches hard ahead WriteBehind (Hard start end moment) before after l rises promised met = tt
  catches hard ahead WriteBehind (Flushed upto moment) before after l rises promised met =
      promised upto.0 (l.behind).furthest
  catches hard ahead WriteBehind (Async start end) before after l rises promised met = tt
  catches hard ahead WriteBehind (Idle upto) before after l rises promised met =
      (promised upto.0 (l.behind).furthest, omega (arith, rises, met, l.ahead))
  catches hard ahead WriteBehind (Switched start end) before after l rises promised met = tt
  catches hard ahead WriteBehind (Stayed end) before after l rises promised met = tt
  catches hard ahead WriteBehind (Refused cause reserved) before after l rises promised met = tt
  catches hard ahead Switch told before after l rises promised met = tt

  all_catch_up : (hard ahead : ℕ) (lines : List AskedLine) (told : List Told)
      (before after : PassState) → PlaysLines size limit pass before lines told after
      → IsPromised hard before.log → ahead ≤ before.async_met → AllCatchUp hard ahead lines told
  all_catch_up hard ahead [] told before after plays promised met = tt
  all_catch_up hard ahead (line ∷ lines) [] before after plays promised met = tt
  all_catch_up hard ahead (line ∷ lines) (answer ∷ told) before after plays promised met =
      let mid = plays.0 in
      let leaves = (plays.1).leaves in
      let rises = (plays.1).counts in
      let more : IsPromised (max hard (hard_told answer)) mid.log = λ address all.
      omega (
        arith,
        told_low line.asked answer before mid leaves address all,
        promised address (line_held size limit pass Anywhere
            (λ (p : FlushPromise). p.upto ≤ address) line.asked answer before mid leaves
            ((λ k d low. tt), all)).1,
      ) in (
        catches hard ahead line.asked answer before mid leaves rises promised met,
        all_catch_up (max hard (hard_told answer)) (max ahead (ahead_told answer)) lines told mid
            after plays.2 more
            (omega (arith, rises, met, told_met line.asked answer before mid leaves)),
      )

each_catches_up : (size limit pass : ℕ) (script : List (List AskedLine))
    (lists : List (List Told)) (others : List View)
    → PlayedAll size limit pass script lists others → EachCatchesUp script lists
each_catches_up size limit pass [] lists others played = tt
each_catches_up size limit pass (lines ∷ script) [] others played = absurd played
each_catches_up size limit pass (lines ∷ script) (told ∷ lists) [] played = absurd played
each_catches_up size limit pass (lines ∷ script) (told ∷ lists) (w ∷ others) played = (
  all_catch_up size limit pass 0 0 lines told (state_at_first (played.1).seen) (pass_state_of w)
      (played.1).plays (λ address all. omega arith) (omega arith),
  each_catches_up size limit (pass + 1) script lists others played.2,
)

pub run_catches_up : (opening : Opening) (v : View) (script : List (List AskedLine))
    (lists : List (List Told)) → HasTakenIn opening v script lists → EachCatchesUp script lists
run_catches_up opening v script lists taken =
    each_catches_up (opening.setup).seg_size (log_limit opening.setup) 1 script lists
    taken.others taken.played
