-- What a walk over a disk's log hands on is what the log decodes to.
use Rattle.std.proofs.Common.{◌≡◌, ℕ, ◌+◌, true, false, List, [], ◌∷◌, ◌++◌, Option, Some, None, Ok, Err, Result, refl, sym, ap, subst, ◌∙◌}
use Rattle.std.specs.Prelude.{IfSome}
use Rattle.byte_position.specs.Geometry.{IsSegmentSize}
use Rattle.segment_disk.specs.DiskImage.{image_as_read}
use Rattle.segment_disk.specs.Tape.{Tape, state_now}
use Rattle.wal_types.specs.declared.lsn.Lsn.{Lsn}
use Rattle.wal_types.specs.declared.record.Record.{Record}
use Rattle.wal_reader.specs.Cache.{log_of}
use Rattle.wal_reader.specs.LogReader.{ReaderState, GivesRecords, Knows, reader_state}
use Rattle.wal_reader.specs.Pages.{Pages}
use Rattle.wal_reader.specs.SoFar.{unbegun}
use Rattle.wal_reader.specs.Filled.{found_with}
use Rattle.wal_reader.specs.declared.found.Answer.{Answer}
use Rattle.wal_reader.specs.declared.found.Answer.TheVariants as answers
use Rattle.wal_reader.specs.declared.found.FoundRecord.{FoundRecord}
use Rattle.wal_reader.specs.declared.log_reader.Reader.{Reader}
use Rattle.wal_reader.specs.declared.standing.ReadErr.{ReadErr}
use Rattle.wal_reader.specs.declared.standing.ReadErr.TheVariants.{Memory, Disk, Stopped}
use Rattle.wal_reader.proofs.SettledLaws.{gives_something}
use Rattle.waldump_filter.specs.declared.Filter.{Filter}
use Rattle.waldump_filter.specs.declared.listed.Listed.{Listed}
use Rattle.waldump_filter.specs.Keeping.{is_reached, keeps}
use Rattle.waldump_text.specs.Listing.{listed_of}
use Rattle.waldump_text.proofs.ListingLaws.{IsWithin, IsWithin-more}
use Rattle.cluster_listing.specs.Past.{IsStepPast, StepsPast, end_of, gives_front, reader_by}
use Rattle.cluster_listing.specs.declared.walking.Past.{Past}
use Rattle.cluster_listing.specs.declared.walking.Past.TheVariants as pasts
use Rattle.wal_reader.specs.declared.found.RecordHead.{RecordHead}
use Rattle.cluster_listing.specs.Walk.{IsWalk, WalksFront}
use Rattle.cluster_listing.specs.declared.taking.TakeErr.{TakeErr}
use Rattle.cluster_listing.specs.declared.walking.ListErr.{ListErr}
use Rattle.cluster_listing.specs.declared.walking.ListErr.TheVariants as errors
use Rattle.cluster_listing.specs.declared.walking.Walked.{Walked}
use Rattle.cluster_listing.proofs.UnderwayLaws.{IsUnderway, IsUnderway-anew, IsUnderway-kept, IsUnderway-none, IsUnderway-passed, limit_unlisted, listed_behind, taken_all, taken_front, taken_reached}

-- the log of a disk that tells is handed on as far as the reader has come, so many records
abbrev pub HandsOn : Option Tape → ℕ → Filter → Reader → (List Listed → Type 0) → ℕ → Type 0
HandsOn tape size by reader Took count = IfSome tape (λ t. Knows reader (log_of t size) × IsUnderway by (log_of t size) (reader_by size by) (reader_state reader) Took count)

module _ (size : ℕ) (by : Filter) (valid : IsSegmentSize size) where
  pub HandsOn-none : (tape : Option Tape) (reader : Reader) → reader_state reader ≡ reader_by size by → ((pages : Pages) → Knows reader pages) → (Took : List Listed → Type 0) → Took [] → HandsOn tape size by reader Took 0
  HandsOn-none None reader is knows Took none = tt
  HandsOn-none (Some t) reader is knows Took none = (knows (log_of t size), subst (λ (now : ReaderState). IsUnderway by (log_of t size) (reader_by size by) now Took 0) (sym is) (IsUnderway-none by (log_of t size) (reader_by size by) Took none))

  module _ (reader : Reader) (sized : (reader_state reader).size ≡ size) where
    -- a step of it, of the log
    step_of : (t : Tape) (next : Reader) (value : Record) (result : Result Past ReadErr) → StepsPast (Some t) reader next value result → Knows reader (log_of t size) → IsStepPast (log_of t size) reader next value result
    step_of t next value result steps knows = steps (log_of t size) (ap (log_of t) (sym sized)) knows

    -- what it gives still
    still : (t : Tape) → (others : List FoundRecord) × (answer : Answer) × GivesRecords (log_of t size) (reader_state reader) others answer
    still t =
        let some = gives_something (image_as_read (state_now t)) (reader_state reader) (subst IsSegmentSize (sym sized) valid) in
        (some.0, some.1, subst (λ (n : ℕ). GivesRecords (log_of t n) (reader_state reader) some.0 some.1) sized some.2)

  module _ (reader : Reader) (sized : (reader_state reader).size ≡ size) (Took : List Listed → Type 0) (count : ℕ) where
    pub HandsOn-kept : (tape : Option Tape) (next : Reader) (value : Record) (head : RecordHead) → keeps by (listed_of (found_with value head)) ≡ true → (Further : List Listed → Type 0) → ((records : List Listed) → Took records → Further (records ++ listed_of (found_with value head) ∷ [])) → HandsOn tape size by reader Took count → StepsPast tape reader next value (Ok (pasts.Record head))
        → HandsOn tape size by next Further (count + 1)
    HandsOn-kept None next value head keeps_it Further further hands steps = tt
    HandsOn-kept (Some t) next value head keeps_it Further further hands steps =
        let step = step_of reader sized t next value (Ok (pasts.Record head)) steps hands.0 in
        (step.knows, IsUnderway-kept by (log_of t size) (reader_by size by) (reader_state reader) Took count hands.1 (reader_state next) (found_with value head) step.next keeps_it Further further)

    pub HandsOn-passed : (tape : Option Tape) (next : Reader) (value : Record) (head : RecordHead) → keeps by (listed_of (found_with value head)) ≡ false → HandsOn tape size by reader Took count → StepsPast tape reader next value (Ok (pasts.Record head)) → HandsOn tape size by next Took count
    HandsOn-passed None next value head passes hands steps = tt
    HandsOn-passed (Some t) next value head passes hands steps =
        let step = step_of reader sized t next value (Ok (pasts.Record head)) steps hands.0 in
        (step.knows, IsUnderway-passed by (log_of t size) (reader_by size by) (reader_state reader) Took count hands.1 (reader_state next) (found_with value head) step.next passes)

    -- where reading begins again another reader goes on
    pub HandsOn-anew : (tape : Option Tape) (next anew : Reader) (value : Record) (from : Lsn) → (reader_state reader).end ≡ end_of by → reader_state anew ≡ unbegun size from.0 (end_of by) → ((pages : Pages) → Knows anew pages) → HandsOn tape size by reader Took count → StepsPast tape reader next value (Ok (pasts.Behind from)) → HandsOn tape size by anew Took count
    HandsOn-anew None next anew value from ended is knows hands steps = tt
    HandsOn-anew (Some t) next anew value from ended is knows hands steps =
        let pages = log_of t size in
        let step = step_of reader sized t next value (Ok (pasts.Behind from)) steps hands.0 in
        let on = IsUnderway-anew by pages (reader_by size by) (reader_state reader) Took count hands.1 from.0 step.next in
        let sized_on = subst (λ (n : ℕ). IsUnderway by pages (reader_by size by) (unbegun n from.0 (reader_state reader).end) Took count) sized on in
        let ended_on = subst (λ (end : Option ℕ). IsUnderway by pages (reader_by size by) (unbegun size from.0 end) Took count) ended sized_on in
        (knows pages, subst (λ (now : ReaderState). IsUnderway by pages (reader_by size by) now Took count) (sym is) ended_on)

    module _ (Cut : TakeErr → List Listed → Type 0) where
      module _ (within : IsWithin by.limit count) where
        front : (t : Tape) → HandsOn (Some t) size by reader Took count → WalksFront size by t Took
        front t hands =
            let left = still reader sized t in
            let underway = hands.1 in
            let parts = taken_front by (log_of t size) (reader_by size by) (reader_state reader) Took count underway within [] in
            record {
              found = underway.given ++ [];
              told = None;
              decodes = underway.whole [] None (gives_front (reader_state reader) [] left.0 left.1 left.2);
              front = _;
              rest = parts.0;
              parts = parts.1;
              taken = underway.taken;
            }

        pub walk_ended : (tape : Option Tape) (next : Reader) (value : Record) (at : Lsn) → HandsOn tape size by reader Took count → StepsPast tape reader next value (Ok (pasts.End at)) → IfSome tape (λ t. IsWalk size by t Took Cut (Ok (record { count = count; end = Some at })))
        walk_ended None next value at hands steps = tt
        walk_ended (Some t) next value at hands steps =
            let all = taken_all by (log_of t size) (reader_by size by) (reader_state reader) Took count hands.1 within (answers.End at) (step_of reader sized t next value (Ok (pasts.End at)) steps hands.0).next in
            record { found = hands.1.given; told = Some (answers.End at); decodes = all.0; ends = refl; count_is = all.2; taken = all.1 }

        -- once the limit is listed nothing more is read
        pub walk_reached : (tape : Option Tape) → HandsOn tape size by reader Took count → is_reached by.limit count ≡ true → IfSome tape (λ t. IsWalk size by t Took Cut (Ok (record { count = count; end = None })))
        walk_reached None hands full = tt
        walk_reached (Some t) hands full =
            let left = still reader sized t in
            let underway = hands.1 in
            let all = taken_reached by (log_of t size) (reader_by size by) (reader_state reader) Took count underway within [] full in
            record { found = underway.given ++ []; told = None; decodes = underway.whole [] None (gives_front (reader_state reader) [] left.0 left.1 left.2); ends = all.2; count_is = all.1; taken = all.0 }

        -- where memory is wanting a front was taken
        pub walk_wanting : (tape : Option Tape) → HandsOn tape size by reader Took count → IfSome tape (λ t. IsWalk size by t Took Cut (Err (errors.Read Memory)))
        walk_wanting None hands = tt
        walk_wanting (Some t) hands = front t hands

        pub walk_failed : (tape : Option Tape) (next : Reader) (value : Record) (e : ReadErr) → HandsOn tape size by reader Took count → StepsPast tape reader next value (Err e) → is_reached by.limit count ≡ false → IfSome tape (λ t. IsWalk size by t Took Cut (Err (errors.Read e)))
        walk_failed None next value e hands steps unreached = tt
        walk_failed (Some t) next value Memory hands steps unreached = front t hands
        walk_failed (Some t) next value (Disk faults) hands steps unreached = front t hands
        walk_failed (Some t) next value (Stopped stop) hands steps unreached =
            let pages = log_of t size in
            let all = taken_all by pages (reader_by size by) (reader_state reader) Took count hands.1 within (answers.Stopped stop) (step_of reader sized t next value (Err (Stopped stop)) steps hands.0).next in
            record { found = hands.1.given; decodes = all.0; below_limit = limit_unlisted by pages (reader_by size by) (reader_state reader) Took count hands.1 unreached; taken = all.1 }

      -- what takes the records fails at one
      pub walk_cut : (next : Reader) (next_sized : (reader_state next).size ≡ size) (tape : Option Tape) (value : Record) (head : RecordHead) → keeps by (listed_of (found_with value head)) ≡ true → is_reached by.limit count ≡ false → (After : List Listed → Type 0) (e : TakeErr) → ((records more : List Listed) → Took records → Cut e (records ++ listed_of (found_with value head) ∷ more)) → HandsOn tape size by reader Took count
          → StepsPast tape reader next value (Ok (pasts.Record head)) → IfSome tape (λ t. IsWalk size by t After Cut (Err (errors.Take e)))
      walk_cut next next_sized None value head keeps_it unreached After e cuts hands steps = tt
      walk_cut next next_sized (Some t) value head keeps_it unreached After e cuts hands steps =
          let pages = log_of t size in
          let f = found_with value head in
          let underway = hands.1 in
          let is = (step_of reader sized t next value (Ok (pasts.Record head)) steps hands.0).next in
          let left = still next next_sized t in
          let parts = listed_behind by pages (reader_by size by) (reader_state reader) Took count underway (reader_state next) f is keeps_it (IsWithin-more by.limit count unreached) [] in
          record {
            found = underway.given ++ f ∷ [];
            told = None;
            decodes = underway.whole (f ∷ []) None (is [] None (gives_front (reader_state next) [] left.0 left.1 left.2));
            taken = subst (Cut e) (sym parts.1) (cuts _ parts.0 underway.taken);
          }

-- ---- what follows of a walk

pub IfSome-mapped : {P Q : Tape → Type 0} (tape : Option Tape) → ((t : Tape) → P t → Q t) → IfSome tape P → IfSome tape Q
IfSome-mapped None follows holds = tt
IfSome-mapped (Some t) follows holds = follows t holds

-- a walk of which one thing is said, of which another is said too
module _ (size : ℕ) (by : Filter) (t : Tape) {Took Further : List Listed → Type 0} {Cut FurtherCut : TakeErr → List Listed → Type 0} where
  pub IsWalk-mapped : (result : Result Walked ListErr) → ((records : List Listed) → Took records → Further records) → ((e : TakeErr) (records : List Listed) → Cut e records → FurtherCut e records) → IsWalk size by t Took Cut result → IsWalk size by t Further FurtherCut result
  IsWalk-mapped (Ok walked) took cut walk = record { found = walk.found; told = walk.told; decodes = walk.decodes; ends = walk.ends; count_is = walk.count_is; taken = took _ walk.taken }
  IsWalk-mapped (Err (errors.Read (Stopped stop))) took cut walk = record { found = walk.found; decodes = walk.decodes; below_limit = walk.below_limit; taken = took _ walk.taken }
  IsWalk-mapped (Err (errors.Read Memory)) took cut walk = record { found = walk.found; told = walk.told; decodes = walk.decodes; front = walk.front; rest = walk.rest; parts = walk.parts; taken = took _ walk.taken }
  IsWalk-mapped (Err (errors.Read (Disk faults))) took cut walk = record { found = walk.found; told = walk.told; decodes = walk.decodes; front = walk.front; rest = walk.rest; parts = walk.parts; taken = took _ walk.taken }
  IsWalk-mapped (Err (errors.Take e)) took cut walk = record { found = walk.found; told = walk.told; decodes = walk.decodes; taken = cut e _ walk.taken }
