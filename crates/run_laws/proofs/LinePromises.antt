-- What a line tells to be durable is a promise of its pass's log.
use Rattle.std.proofs.Common.{◌≡◌, ℕ, ◌≤◌, All, List, [], ◌∷◌, inl, inr, length, refl, sym, ap, subst, arith}
use Rattle.std.proofs.lemmas.List.Elements.{All-head}
use Rattle.run_script.specs.Asked.{Asked, AskedLine, Insert, Commit, Flush, CommitAsync, WriteBehind, Switch}
use Rattle.machine_state.specs.Views.{Stop, FlushPromise}
use Rattle.run_laws.specs.declared.told.Told.{Told}
use Rattle.run_laws.specs.declared.told.Told.TheVariants.{Wrote, Hard, Flushed, Async, Idle, Switched, Stayed, Refused}
use Rattle.run_laws.specs.Crash.{SaysDurable}
use Rattle.run_laws.specs.Told.{SomeAnswer}
use Rattle.run_laws.proofs.AllLaws.{parts_all}
use Rattle.machine_state.specs.PassLogs.{PassLog, log_with_promise}
use Rattle.run_laws.specs.Played.{Leaves, PassState, PlaysLines}
use Rattle.run_laws.proofs.LaterLines.{lines_held}

-- nothing is asked of the places at which the log was full
abbrev pub Anywhere : Stop → Type 0
Anywhere f = Unit {0}

module _ (Q : FlushPromise → Type 0) where
  -- a promise of which this holds, of all below an address from a moment on, made when the log had
  -- so many entries
  pub record IsPromisedSo (address moment count : ℕ) : Type 0 where
    pub promise : FlushPromise
    pub holds : Q promise
    pub moment_is : promise.moment ≡ moment
    pub reached : address ≤ promise.upto
    pub count_is : promise.entries ≡ count

  -- so it is of what an answer says to be durable
  abbrev pub Promised : Told → ℕ → Type 0
  Promised (Wrote start end) count = Unit {0}
  Promised (Hard start end moment) count = IsPromisedSo end.0 moment count
  Promised (Flushed upto moment) count = IsPromisedSo upto.0 moment count
  Promised (Async start end) count = Unit {0}
  Promised (Idle upto) count = Unit {0}
  Promised (Switched start end) count = Unit {0}
  Promised (Stayed end) count = Unit {0}
  Promised (Refused cause reserved) count = Unit {0}

  -- one told by a moment, of all below an address
  abbrev pub PromisedBy : ℕ → ℕ → Type 0
  PromisedBy moment address =
      (p : FlushPromise) × Q p × (p.moment ≤ moment) × (address ≤ p.upto)

  answer_promised : (moment address count : ℕ) (told : Told) → Promised told count
      → SaysDurable moment address told → PromisedBy moment address
  answer_promised moment address count (Wrote start end) is says = absurd says
  answer_promised moment address count (Hard start end at) is says =
      (is.promise, is.holds, omega (arith, is.moment_is, says.0), omega (arith, is.reached, says.1))
  answer_promised moment address count (Flushed upto at) is says =
      (is.promise, is.holds, omega (arith, is.moment_is, says.0), omega (arith, is.reached, says.1))
  answer_promised moment address count (Async start end) is says = absurd says
  answer_promised moment address count (Idle upto) is says = absurd says
  answer_promised moment address count (Switched start end) is says = absurd says
  answer_promised moment address count (Stayed end) is says = absurd says
  answer_promised moment address count (Refused cause reserved) is says = absurd says

  module _ (size limit pass : ℕ) where
    newest : (address upto moment : ℕ) → address ≤ upto → (before after : PassLog)
        → after ≡ log_with_promise upto moment before → All Q after.promises
        → IsPromisedSo address moment (length after.entries)
    newest address upto moment within before after log_is all =
        let q : FlushPromise =
        record { upto = upto; moment = moment; entries = length before.entries } in
        let parts = subst (λ (l : PassLog). All Q l.promises) log_is all in
        record {
          promise = q;
          holds = All-head Q q [] (parts_all Q before.promises (q ∷ []) parts).1;
          moment_is = refl;
          reached = within;
          count_is = ap (λ (l : PassLog). length l.entries) (sym log_is);
        }

    pub line_promised : (asked : Asked) (told : Told) (before after : PassState)
        → Leaves size limit pass asked told before after → All Q (after.log).promises
        → Promised told (length (after.log).entries)
    line_promised asked (Wrote start end) before after l all = tt
    line_promised asked (Async start end) before after l all = tt
    line_promised asked (Idle upto) before after l all = tt
    line_promised asked (Switched start end) before after l all = tt
    line_promised asked (Stayed end) before after l all = tt
    line_promised asked (Refused cause reserved) before after l all = tt
    line_promised (Insert value) (Hard start end moment) before after l all = absurd l
    line_promised (Commit value) (Hard start end moment) before after l all =
        newest end.0 l.upto moment (l.promised).reached l.between after.log (l.promised).log_is all
    line_promised Flush (Hard start end moment) before after l all = absurd l
    line_promised (CommitAsync value) (Hard start end moment) before after l all = absurd l
    line_promised WriteBehind (Hard start end moment) before after l all = absurd l
    line_promised Switch (Hard start end moment) before after l all = absurd l
    line_promised (Insert value) (Flushed upto moment) before after l all = absurd l
    line_promised (Commit value) (Flushed upto moment) before after l all = absurd l
    line_promised Flush (Flushed upto moment) before after l all =
        newest upto.0 upto.0 moment (omega arith) before.log after.log l.log_is all
    line_promised (CommitAsync value) (Flushed upto moment) before after l all = absurd l
    line_promised WriteBehind (Flushed upto moment) before after l all =
        newest upto.0 upto.0 moment (omega arith) before.log after.log l.log_is all
    line_promised Switch (Flushed upto moment) before after l all = absurd l

    -- the promises behind a line are among those in the end
    pub promises_held : (lines : List AskedLine) (told : List Told) (before after : PassState)
        → PlaysLines size limit pass before lines told after → All Q (after.log).promises
        → All Q (before.log).promises
    promises_held lines told before after plays all =
        (lines_held size limit pass Anywhere Q lines told before after plays
        ((λ k d low. tt), all)).1

    -- what some line told is promised
    pub lines_promised : (moment address : ℕ) (lines : List AskedLine) (told : List Told)
        (before after : PassState) → PlaysLines size limit pass before lines told after
        → All Q (after.log).promises → SomeAnswer (SaysDurable moment address) told
        → PromisedBy moment address
    lines_promised moment address [] [] before after plays all says = absurd says
    lines_promised moment address [] (answer ∷ told) before after plays all says = absurd plays
    lines_promised moment address (line ∷ lines) [] before after plays all says = absurd plays
    lines_promised moment address (line ∷ lines) (answer ∷ told) before after plays all
        (inl here) =
        let mid = plays.0 in
        let then = promises_held lines told mid after plays.2 all in
        answer_promised moment address (length (mid.log).entries) answer
        (line_promised line.asked answer before mid (plays.1).leaves then) here
    lines_promised moment address (line ∷ lines) (answer ∷ told) before after plays all
        (inr later) =
        lines_promised moment address lines told plays.0 after plays.2 all later
