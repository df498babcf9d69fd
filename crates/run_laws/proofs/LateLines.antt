-- A backend's promises came before what its later lines reserved was written.
use Rattle.std.proofs.Common.{◌≡◌, ℕ, suc, ◌≤◌, All, List, [], ◌∷◌, ◌++◌, drop, length, take, Some, subst, sym, refl, arith}
use Rattle.std.proofs.lemmas.List.Elements.{All-cons, All-nil}
use Rattle.std.specs.Prelude.{IfSome, slice_get}
use Rattle.byte_position.specs.Geometry.{IsSegmentSize}
use Rattle.segment_disk.specs.Tape.{Tape}
use Rattle.wal_page.specs.Order.{Entry}
use Rattle.run_script.specs.Asked.{AskedLine}
use Rattle.machine_state.specs.Words.{Opening}
use Rattle.run_laws.specs.declared.told.Told.{Told}
use Rattle.run_laws.specs.declared.told.Told.TheVariants.{Wrote, Hard, Flushed, Async, Idle, Switched, Stayed, Refused}
use Rattle.run_laws.specs.Crash.{IsBefore, NoneIsLate, WritesNone, moment_told}
use Rattle.run_laws.specs.Told.{entries_of}
use Rattle.run_laws.specs.Timely.{IsTimely}
use Rattle.run_laws.specs.Played.{PassState, PlaysLines}
use Rattle.run_laws.proofs.LineEntries.{lines_entries}
use Rattle.run_laws.proofs.LinePromises.{IsPromisedSo, Promised, line_promised, promises_held}

module _ (P : Entry → Type 0) where
  -- what holds of each entry by its place holds of all
  all_got : (later : List Entry) → ((k : ℕ) (e : Entry) → slice_get later k ≡ Some e → P e)
      → All P later
  all_got [] each = All-nil P
  all_got (e ∷ later) each =
      All-cons P e later (each 0 e refl) (all_got later (λ k f is. each (suc k) f is))

  all_behind : (front later : List Entry)
      → ((k : ℕ) (e : Entry) → length front ≤ k → slice_get (front ++ later) k ≡ Some e → P e)
      → All P later
  all_behind [] later each = all_got later (λ k e is. each k e (omega arith) is)
  all_behind (f ∷ front) later each =
      all_behind front later (λ k e low is. each (suc k) e (omega (arith, low)) is)

module _ (opening : Opening) (order : List Entry) (t : Tape) (limit pass : ℕ)
    (valid : IsSegmentSize (opening.setup).seg_size) where
  abbrev size : ℕ
  size = (opening.setup).seg_size

  module _ (front later es : List Entry) (parts : es ≡ front ++ later) where
    told_before : (address moment : ℕ)
        → IsPromisedSo (IsTimely opening order t es) address moment (length front)
        → IsBefore (opening.setup).seg_size opening.moment order t later moment
    told_before address moment is =
        let calls = drop opening.moment (take (is.promise).moment t.calls) in
        subst (IsBefore size opening.moment order t later) is.moment_is (record {
          passed = (is.holds).passed;
          unwritten = all_behind (λ (e : Entry). All (WritesNone size order e) calls) front later
              (λ k e low got. (is.holds).unwritten k e (omega (arith, low, is.count_is))
              (subst (λ (fs : List Entry). slice_get fs k ≡ Some e) (sym parts) got));
        })

    answer_before : (answer : Told)
        → Promised (IsTimely opening order t es) answer (length front)
        → IfSome (moment_told answer)
        (IsBefore (opening.setup).seg_size opening.moment order t later)
    answer_before (Wrote start end) is = tt
    answer_before (Hard start end moment) is = told_before end.0 moment is
    answer_before (Flushed upto moment) is = told_before upto.0 moment is
    answer_before (Async start end) is = tt
    answer_before (Idle upto) is = tt
    answer_before (Switched start end) is = tt
    answer_before (Stayed end) is = tt
    answer_before (Refused cause reserved) is = tt

  pub none_late : (lines : List AskedLine) (told : List Told) (before after : PassState)
      → PlaysLines (opening.setup).seg_size limit pass before lines told after
      → All (IsTimely opening order t (after.log).entries) (after.log).promises
      → NoneIsLate (opening.setup).seg_size opening.moment order t pass lines told
  none_late [] told before after plays all = tt
  none_late (line ∷ lines) [] before after plays all = tt
  none_late (line ∷ lines) (answer ∷ told) before after plays all =
      let mid = plays.0 in
      let Q = IsTimely opening order t (after.log).entries in
      let then = promises_held Q size limit pass lines told mid after plays.2 all in (
        answer_before (mid.log).entries (entries_of size pass lines told) (after.log).entries
            (lines_entries size limit pass valid lines told mid after plays.2) answer
            (line_promised Q size limit pass line.asked answer before mid (plays.1).leaves then),
        none_late lines told mid after plays.2 all,
      )
