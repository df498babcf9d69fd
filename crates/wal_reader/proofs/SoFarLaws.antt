-- Records that a reader gave one by one are what a disk's log decodes to.
use Rattle.std.proofs.Common.{◌≡◌, ℕ, ◌+◌, ◌*◌, ◌%◌, ◌^◌, ◌<◌, ◌≤◌, List, [], ◌∷◌, ◌++◌, length, Option, Some, None, Result, Ok, Err, refl, sym, ap, subst, ◌∙◌, append_assoc, arith}
use Rattle.std.specs.Prelude.{IfSome}
use Rattle.std.proofs.lemmas.List.{append-nil, length-append}
use Rattle.byte_position.specs.Geometry.{IsSegmentSize}
use Rattle.segment_disk.specs.DiskImage.{image_as_read}
use Rattle.segment_disk.specs.Tape.{Tape, state_now}
use Rattle.wal_reader.specs.Cache.{log_of}
use Rattle.wal_reader.specs.LogReader.{GivesRecords, Knows, ReaderState, left_of, reader_state}
use Rattle.wal_reader.specs.Pages.{Pages, pages_in}
use Rattle.wal_reader.specs.Settled.{IsSettled}
use Rattle.wal_reader.specs.SoFar.{HasGiven, LogBegins, LogDecodes, MakesStep, ReadSoFar, SaysOfLog, StepsInLog, unbegun}
use Rattle.wal_reader.specs.Standings.{IsOnWay, given_as, left_at}
use Rattle.wal_reader.specs.StepIn.{IsStepIn}
use Rattle.wal_reader.specs.declared.found.Answer.{Answer}
use Rattle.wal_reader.specs.declared.found.Answer.TheVariants as answers
use Rattle.wal_reader.specs.declared.found.FoundRecord.{FoundRecord}
use Rattle.wal_reader.specs.declared.log_reader.Reader.{Reader}
use Rattle.wal_reader.specs.declared.standing.ReadErr.{ReadErr}
use Rattle.wal_reader.specs.declared.standing.ReadErr.TheVariants as reading
use Rattle.wal_reader.specs.declared.standing.Standing.{Standing}
use Rattle.wal_reader.specs.declared.standing.Standing.TheVariants.{NotBegun, At, Stopped}
use Rattle.wal_reader.specs.declared.standing.Step.{Step}
use Rattle.wal_reader.specs.declared.standing.Step.TheVariants as steps
use Rattle.wal_reader.proofs.SettledLaws.{decoding_is_settled, gives_something}

-- ---- a disk's log

-- there is one thing that a disk's log decodes to
pub log_is_settled : (size : ℕ) (t : Tape) (start : ℕ) (end : Option ℕ) → IsSegmentSize size
    → IsSettled size (log_of t size) start end
log_is_settled size t start end valid =
    decoding_is_settled size (image_as_read (state_now t)) start end valid

pub same_log : {size start : ℕ} {end : Option ℕ} {found others : List FoundRecord}
    {answer other : Answer} (t : Tape) → IsSegmentSize size
    → LogDecodes size start end found answer t → LogDecodes size start end others other t
    → (found ≡ others) × (answer ≡ other)
same_log {size} {start} {end} {found} {others} {answer} {other} t valid one two =
    let all = log_is_settled size t start end valid in
    let here = all.3 found answer one in
    let there = all.3 others other two in
    (here.0 ∙ sym there.0, here.1 ∙ sym there.1)

-- a record that comes last of those which come first, with what stands behind it
pub last_of_first : {size start : ℕ} {end : Option ℕ} (found : List FoundRecord)
    (next : FoundRecord) {t : Tape} (begins : LogBegins size start end (found ++ next ∷ []) t)
    → LogDecodes size start end (found ++ next ∷ begins.others) begins.answer t
last_of_first {size} {start} {end} found next {t} begins =
    subst (λ (all : List FoundRecord). LogDecodes size start end all begins.answer t)
    (append_assoc found (next ∷ []) begins.others) begins.decodes

-- ---- what is left to read

-- a reader has whole words before it
left_at-whole : (standing : Standing) → IsOnWay standing → left_at standing % 8 ≡ 0
left_at-whole NotBegun on = refl
left_at-whole (At at) on = omega (arith, on.0, on.1)
left_at-whole (Stopped reason) on = refl

word_further : (old new : Standing) → IsOnWay old → IsOnWay new → left_at new < left_at old
    → left_at new + 8 ≤ left_at old
word_further old new from to less =
    omega (arith, left_at-whole old from, left_at-whole new to, less)

few_more : (found : List FoundRecord) (next : FoundRecord) (old new : Standing) → IsOnWay old
    → IsOnWay new → left_at new < left_at old → 8 * length found + left_at old ≤ 2 ^ 60
    → 8 * length (found ++ next ∷ []) + left_at new ≤ 2 ^ 60
few_more found next old new from to less few =
    omega (arith, length-append found (next ∷ []), word_further old new from to less)

-- ---- a reader of a disk's log

module _ (size start : ℕ) (end : Option ℕ) where
  given_none : (tape : Option Tape) (reader : Reader) → reader_state reader ≡ unbegun size start end
      → ((pages : Pages) → Knows reader pages) → IfSome tape (HasGiven size start end reader [])
  given_none None reader is knows = tt
  given_none (Some t) reader is knows = record {
    knows = knows (log_of t size);
    whole = λ others answer gives. subst (λ (now : ReaderState).
        GivesRecords (log_of t size) now others answer) is gives;
  }

  module _ (reader next : Reader) (sized : (reader_state reader).size ≡ size)
      (found : List FoundRecord) where
    step_of : (t : Tape) (step : Result Step ReadErr) → StepsInLog (Some t) reader next step
        → Knows reader (log_of t size) → IsStepIn (log_of t size) reader next step
    step_of t step steps knows = steps (log_of t size) (ap (log_of t) (sym sized)) knows

    given_more : (f : FoundRecord) (tape : Option Tape)
        → IfSome tape (HasGiven size start end reader found)
        → StepsInLog tape reader next (Ok (given_as f))
        → IfSome tape (HasGiven size start end next (found ++ f ∷ []))
    given_more f None given steps = tt
    given_more f (Some t) given steps =
        let one = step_of t (Ok (given_as f)) steps given.knows in
        record {
          knows = one.knows;
          whole = λ others answer rest. subst (λ (all : List FoundRecord).
              LogDecodes size start end all answer t) (sym (append_assoc found (f ∷ []) others))
              (given.whole (f ∷ others) answer (one.next others answer rest));
        }

    given_all : (t : Tape) (answer : Answer) → HasGiven size start end reader found t
        → GivesRecords (log_of t size) (reader_state reader) [] answer
        → LogDecodes size start end found answer t
    given_all t answer given gives =
        subst (λ (all : List FoundRecord). LogDecodes size start end all answer t)
        (append-nil found) (given.whole [] answer gives)

    given_first : (t : Tape) → IsSegmentSize size → HasGiven size start end reader found t
        → LogBegins size start end found t
    given_first t valid given =
        let image = image_as_read (state_now t) in
        let rest = gives_something image (reader_state reader)
        (subst IsSegmentSize (sym sized) valid) in
        let here = subst (λ (n : ℕ). GivesRecords (pages_in n image) (reader_state reader) rest.0
        rest.1) sized rest.2 in
        record {
          others = rest.0;
          answer = rest.1;
          decodes = given.whole rest.0 rest.1 here;
        }

    says : (tape : Option Tape) (step : Result Step ReadErr) → IsSegmentSize size
        → IfSome tape (HasGiven size start end reader found) → StepsInLog tape reader next step
        → IfSome tape (SaysOfLog size start end found step)
    says None step valid given steps = tt
    says (Some t) (Ok (steps.Record s e prev total value)) valid given gives =
        given_first t valid given
    says (Some t) (Ok (steps.End at)) valid given gives =
        given_all t (answers.End at) given
        (step_of t (Ok (steps.End at)) gives given.knows).next
    says (Some t) (Err (reading.Stopped stop)) valid given gives =
        given_all t (answers.Stopped stop) given
        (step_of t (Err (reading.Stopped stop)) gives given.knows).next
    says (Some t) (Err reading.Memory) valid given gives = given_first t valid given
    says (Some t) (Err (reading.Disk faults)) valid given gives = given_first t valid given

    first_read : (tape : Option Tape) → IsSegmentSize size
        → IfSome tape (HasGiven size start end reader found)
        → IfSome tape (LogBegins size start end found)
    first_read None valid given = tt
    first_read (Some t) valid given = given_first t valid given

-- ---- the loop of who reads a log

module _ {D : Type 0} {tape : D → Option Tape} {moment faults : D → ℕ} {size start : ℕ}
    {end : Option ℕ} where
  -- no record was given by a new reader
  pub read_none : {disk : D} {reader : Reader} → IsSegmentSize size
      → reader_state reader ≡ unbegun size start end → ((pages : Pages) → Knows reader pages)
      → ReadSoFar tape moment faults size start end disk disk reader []
  read_none {disk} {reader} valid is knows = record {
    valid = valid;
    sized = ap (λ (s : ReaderState). s.size) is;
    few = subst (λ (s : ReaderState). 8 * 0 + left_of s ≤ 2 ^ 60) (sym is) (omega arith);
    uncalled = record { same_tape = refl; same_moment = refl };
    unfailed = refl;
    given = given_none size start end (tape disk) reader is knows;
  }

  module _ {first disk disk_now : D} {reader reader_now : Reader} {found : List FoundRecord}
      {step : Result Step ReadErr}
      (before : ReadSoFar tape moment faults size start end first disk reader found)
      (makes : MakesStep tape moment faults disk disk_now reader reader_now step) where
    in_first : StepsInLog (tape first) reader reader_now step
    in_first =
        subst (λ (tape : Option Tape). StepsInLog tape reader reader_now step)
        before.uncalled.same_tape makes.gives

    -- a step gives a record more
    pub read_more : (next : FoundRecord) → step ≡ Ok (given_as next)
        → ReadSoFar tape moment faults size start end first disk_now reader_now (found ++ next ∷ [])
    read_more next is =
        let one = subst (MakesStep tape moment faults disk disk_now reader reader_now) is makes in
        let steps = subst (StepsInLog (tape first) reader reader_now) is in_first in
        record {
          valid = before.valid;
          sized = ap (λ (s : ReaderState). s.size) (one.leaves).0 ∙ before.sized;
          few = few_more found next reader.standing reader_now.standing reader.on_way
              reader_now.on_way (one.leaves).1 before.few;
          uncalled = record {
            same_tape = makes.uncalled.same_tape ∙ before.uncalled.same_tape;
            same_moment = makes.uncalled.same_moment ∙ before.uncalled.same_moment;
          };
          unfailed = one.cause ∙ before.unfailed;
          given = given_more size start end reader reader_now before.sized found next (tape first)
              before.given steps;
        }

    -- a step gives none: what it says of the log
    pub read_to_end : IfSome (tape first) (SaysOfLog size start end found step)
    read_to_end =
        says size start end reader reader_now before.sized found (tape first) step before.valid
        before.given in_first

  -- wherever the reader stands, what it gave comes first of what the log decodes to
  pub read_first : {first disk : D} {reader : Reader} {found : List FoundRecord}
      → ReadSoFar tape moment faults size start end first disk reader found
      → IfSome (tape first) (LogBegins size start end found)
  read_first {first} {disk} {reader} {found} so_far =
      first_read size start end reader reader so_far.sized found (tape first) so_far.valid
      so_far.given
