-- A reader whose records are taken in, one behind another.
use Rattle.std.proofs.Common.{◌≡◌, ℕ, List, [], ◌∷◌, ◌++◌, Option, Some, None, Result, Ok, Err, refl, sym, ap, subst, ◌∙◌, append_assoc}
use Rattle.std.specs.Prelude.{IfSome}
use Rattle.std.proofs.lemmas.List.{append-nil}
use Rattle.byte_position.specs.Geometry.{IsSegmentSize}
use Rattle.segment_disk.specs.DiskImage.{image_as_read}
use Rattle.segment_disk.specs.Tape.{Tape, state_now}
use Rattle.wal_reader.specs.Cache.{log_of}
use Rattle.wal_reader.specs.LogReader.{GivesRecords, IsNext, Knows, ReaderState, reader_state}
use Rattle.wal_reader.specs.PageCursor.{IsLogOf}
use Rattle.wal_reader.specs.Pages.{Pages, pages_in}
use Rattle.wal_reader.specs.Standings.{found_as, given_as}
use Rattle.wal_reader.specs.StepIn.{IsStepIn}
use Rattle.wal_reader.specs.declared.found.Answer.{Answer}
use Rattle.wal_reader.specs.declared.found.Answer.TheVariants as answers
use Rattle.wal_reader.specs.declared.found.FoundRecord.{FoundRecord}
use Rattle.wal_reader.specs.declared.log_reader.Reader.{Reader}
use Rattle.wal_reader.specs.declared.standing.ReadErr.{ReadErr}
use Rattle.wal_reader.specs.declared.standing.ReadErr.TheVariants as reading
use Rattle.wal_reader.specs.declared.standing.Standing.TheVariants.{NotBegun}
use Rattle.wal_reader.specs.declared.standing.Step.{Step}
use Rattle.wal_reader.specs.declared.standing.Step.TheVariants as steps
use Rattle.wal_reader.specs.Settled.{DecodingIsSettled}
use Rattle.wal_types.specs.declared.lsn.Lsn.{Lsn}
use Rattle.wal_page.specs.LogPlace.{LogPlace}
use Rattle.found_log.specs.Found.{IsDiskLog}
use Rattle.wal_reader.proofs.SettledLaws.{gives_something}
use Rattle.durable_map.specs.Changes.{MapChange}
use Rattle.durable_map.specs.Opening.{AreSaid, HasNoChangeAt, IsAllOfLog, RefusesFound, TellsReadFault, next_of}
use Rattle.durable_map.specs.Reading.{SaysNoChange}
use Rattle.durable_map.specs.declared.fault.MapFaultKind.{MapFaultKind}
use Rattle.durable_map.specs.declared.fault.MapFaultKind.TheVariants as kinds

-- ---- what a step says

abbrev pub Said : Type 0
Said = Result (Option FoundRecord) MapFaultKind

abbrev pub said_record : FoundRecord → Said
said_record found = Ok (Some found)

abbrev pub said_end : Said
said_end = Ok None

abbrev pub said_fault : MapFaultKind → Said
said_fault kind = Err kind

abbrev pub step_to : FoundRecord → Result Step ReadErr
step_to found = Ok (given_as found)

same_said : (r s : FoundRecord) → said_record r ≡ said_record s → r ≡ s
same_said r s is = cc

end_is_not : (r : FoundRecord) → said_end ≡ said_record r → ⊥
end_is_not r is = cc

fault_is_not : (kind : MapFaultKind) (r : Option FoundRecord) → said_fault kind ≡ Ok r → ⊥
fault_is_not kind r is = cc

-- a record that is said is the one that was given
pub gives_record : (step : Result Step ReadErr) (found : FoundRecord)
    → next_of step ≡ said_record found → step ≡ step_to found
gives_record (Ok (steps.Record s e prev total value)) found said =
    ap (λ (f : FoundRecord). step_to f) (same_said (found_as s e prev total value) found said)
gives_record (Ok (steps.End at)) found said = absurd (end_is_not found said)
gives_record (Err reading.Memory) found said = absurd (fault_is_not kinds.Memory (Some found) said)
gives_record (Err (reading.Disk count)) found said =
    absurd (fault_is_not (kinds.Disk count) (Some found) said)
gives_record (Err (reading.Stopped stop)) found said = absurd (end_is_not found said)

-- where none is said none is given any more
gives_end : (pages : Pages) (old new : ReaderState) (step : Result Step ReadErr)
    → next_of step ≡ said_end → IsNext pages old new step
    → (answer : Answer) × GivesRecords pages old [] answer
gives_end pages old new (Ok (steps.Record s e prev total value)) said next =
    absurd (end_is_not (found_as s e prev total value) (sym said))
gives_end pages old new (Ok (steps.End at)) said next = (answers.End at, next)
gives_end pages old new (Err reading.Memory) said next =
    absurd (fault_is_not kinds.Memory None said)
gives_end pages old new (Err (reading.Disk count)) said next =
    absurd (fault_is_not (kinds.Disk count) None said)
gives_end pages old new (Err (reading.Stopped stop)) said next = (answers.Stopped stop, next)

-- ---- a reader of a log

-- a reader from segment 1's start on, before it has begun
abbrev pub unread : ℕ → ℕ → ReaderState
unread size start = record { size = size; start = start; end = None; standing = NotBegun }

-- a step of a reader of a disk's log
abbrev pub Steps : Option Tape → Reader → Reader → Result Step ReadErr → Type 0
Steps tape old new step = (pages : Pages) → IsLogOf tape (reader_state old).size pages
    → Knows old pages → IsStepIn pages old new step

-- these records were given of a disk's log, and the reader still gives what comes behind them
pub record HasGiven (size : ℕ) (reader : Reader) (records : List FoundRecord) (t : Tape)
    : Type 0 where
  pub knows : Knows reader (log_of t size)
  pub whole : (others : List FoundRecord) (answer : Answer)
      → GivesRecords (log_of t size) (reader_state reader) others answer
      → GivesRecords (log_of t size) (unread size size) (records ++ others) answer

pub given_none : (size : ℕ) (reader : Reader) (tape : Option Tape)
    → reader_state reader ≡ unread size size → ((pages : Pages) → Knows reader pages)
    → IfSome tape (HasGiven size reader [])
given_none size reader None is knows = tt
given_none size reader (Some t) is knows = record {
  knows = knows (log_of t size);
  whole = λ others answer gives. subst (λ (now : ReaderState).
      GivesRecords (log_of t size) now others answer) is gives;
}

module _ (size : ℕ) (reader next : Reader) (records : List FoundRecord)
    (sized : (reader_state reader).size ≡ size) where
  step_of : (t : Tape) (step : Result Step ReadErr) → Steps (Some t) reader next step
      → Knows reader (log_of t size) → IsStepIn (log_of t size) reader next step
  step_of t step steps knows = steps (log_of t size) (ap (log_of t) (sym sized)) knows

  pub given_more : (found : FoundRecord) (tape : Option Tape)
      → IfSome tape (HasGiven size reader records) → Steps tape reader next (step_to found)
      → IfSome tape (HasGiven size next (records ++ found ∷ []))
  given_more found None given steps = tt
  given_more found (Some t) given steps =
      let one = step_of t (step_to found) steps given.knows in
      record {
        knows = one.knows;
        whole = λ others answer rest. subst (λ (all : List FoundRecord).
            GivesRecords (log_of t size) (unread size size) all answer)
            (sym (append_assoc records (found ∷ []) others))
            (given.whole (found ∷ others) answer (one.next others answer rest));
      }

  -- all are given
  pub given_all : (tape : Option Tape) (step : Result Step ReadErr)
      → IfSome tape (HasGiven size reader records) → Steps tape reader next step
      → next_of step ≡ said_end → IfSome tape (IsAllOfLog size records)
  given_all None step given steps said = tt
  given_all (Some t) step given steps said =
      let end = gives_end (log_of t size) (reader_state reader) (reader_state next) step said
      (step_of t step steps given.knows).next in
      record {
        answer = end.0;
        decodes = subst (λ (all : List FoundRecord).
            GivesRecords (log_of t size) (unread size size) all end.0) (append-nil records)
            (given.whole [] end.0 end.1);
      }

  -- one is given that says no change
  pub given_no_change : (found : FoundRecord) (tape : Option Tape) (changes : List MapChange)
      → AreSaid records changes → IsSegmentSize size
      → (reader_state next).size ≡ size → IfSome tape (HasGiven size reader records)
      → Steps tape reader next (step_to found) → SaysNoChange found.value
      → IfSome tape (HasNoChangeAt size found.head.start.0)
  given_no_change found None changes said valid next_sized given steps none = tt
  given_no_change found (Some t) changes said valid next_sized given steps none =
      let one = step_of t (step_to found) steps given.knows in
      let image = image_as_read (state_now t) in
      let rest = gives_something image (reader_state next)
      (subst IsSegmentSize (sym next_sized) valid) in
      let here = subst (λ (n : ℕ). GivesRecords (pages_in n image) (reader_state next) rest.0
      rest.1) next_sized rest.2 in
      record {
        before = records;
        earlier = changes;
        said = said;
        found = found;
        others = rest.0;
        answer = rest.1;
        decodes = given.whole (found ∷ rest.0) rest.1 (one.next rest.0 rest.1 here);
        starts = refl;
        says_none = none;
      }

-- ---- why a log was not read

abbrev ok_of : Option FoundRecord → Said
ok_of read = Ok read

pub said_as : (step : Result Step ReadErr) (said : Said) (read : Option FoundRecord)
    (f : FoundRecord) → said ≡ next_of step → said ≡ ok_of read → read ≡ Some f
    → next_of step ≡ said_record f
said_as step said read f is ok some = sym is ∙ ok ∙ ap ok_of some

pub tells_fault : (size : ℕ) (tape : Option Tape) (old new : ℕ) (found : FoundRecord)
    (kind : MapFaultKind) → RefusesFound found kind → new ≡ old
    → (SaysNoChange found.value → IfSome tape (HasNoChangeAt size found.head.start.0))
    → TellsReadFault size tape old new kind
tells_fault size tape old new found kinds.Memory refuses same foreign = same
tells_fault size tape old new found (kinds.Disk faults) refuses same foreign = absurd refuses
tells_fault size tape old new found (kinds.NoChange at) refuses same foreign = (
  same,
  subst (λ (l : Lsn). IfSome tape (HasNoChangeAt size l.0)) (sym refuses.0) (foreign refuses.1),
)
tells_fault size tape old new found (kinds.Log kind) refuses same foreign = absurd refuses

-- ---- what was read twice

-- the records that a disk's log is are the same by both readings
pub same_records : (size cap made : ℕ) (place : LogPlace) (records others : List FoundRecord)
    (tape again : Option Tape) → DecodingIsSettled → IsSegmentSize size → again ≡ tape
    → IfSome tape (IsAllOfLog size records) → IfSome again (IsDiskLog size cap others place made)
    → IfSome tape (λ t. others ≡ records)
same_records size cap made place records others None again settled valid is whole found = tt
same_records size cap made place records others (Some t) again settled valid is whole found =
    let disk = subst (λ (tape : Option Tape). IfSome tape (IsDiskLog size cap others place made))
    is found in
    let one = settled size (image_as_read (state_now t)) size None valid in
    (one.3 others disk.ends.answer disk.ends.decodes).0
    ∙ sym (one.3 records whole.answer whole.decodes).0
