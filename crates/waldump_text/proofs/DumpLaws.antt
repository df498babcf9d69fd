-- What the steps of a reader say of a listing.
use Rattle.std.proofs.Common.{◌≡◌, ℕ, ◌+◌, Bool, true, false, IsTrue, List, [], ◌∷◌, ◌++◌, length, take, Option, Some, None, Result, Ok, Err, inl, inr, sym, ap, subst, ◌∙◌}
use Rattle.std.specs.Prelude.{IfSome, option_map}
use Rattle.byte_position.specs.Geometry.{IsSegmentSize}
use Rattle.segment_disk.specs.Stream.{with_behind}
use Rattle.segment_disk.specs.Tape.{Tape}
use Rattle.wal_types.specs.declared.lsn.Lsn.{Lsn}
use Rattle.wal_reader.specs.SoFar.{LogBegins, SaysOfLog}
use Rattle.wal_reader.specs.declared.found.Answer.{Answer}
use Rattle.wal_reader.specs.declared.found.Answer.TheVariants as answers
use Rattle.wal_reader.specs.declared.found.FoundRecord.{FoundRecord}
use Rattle.wal_reader.specs.declared.standing.ReadErr.{ReadErr}
use Rattle.wal_reader.specs.declared.standing.ReadErr.TheVariants.{Memory, Disk, Stopped}
use Rattle.wal_reader.specs.declared.standing.Step.{Step}
use Rattle.wal_reader.specs.declared.standing.Step.TheVariants.{End}
use Rattle.wal_reader.proofs.SoFarLaws.{same_log}
use Rattle.waldump_filter.specs.declared.Filter.{Filter}
use Rattle.waldump_filter.specs.Keeping.{is_reached}
use Rattle.waldump_text.specs.Dump.{DecodesOnDisk, IsAllRead, IsDump, ListsFrontInReading, PutsFront}
use Rattle.waldump_text.specs.Listing.{kept_by, listing, listing_in_reading}
use Rattle.waldump_text.specs.declared.dumping.DumpErr.TheVariants as errors
use Rattle.waldump_text.specs.declared.putting.SinkFault.{SinkFault}
use Rattle.waldump_text.proofs.ListingLaws.{IsWithin, Lists, limit_unlisted, listed_all, listed_front, listed_front_of_next, listed_reached, listing-lines, listing_in_reading-lines, printed}

-- where reading by a filter ends
abbrev pub end_of : Filter → Option ℕ
end_of by = option_map (λ (end : Lsn). end.0) by.end

-- records come first of what a disk's log decodes to, by a filter
abbrev pub Begins : ℕ → Filter → List FoundRecord → Tape → Type 0
Begins size by found t = LogBegins size by.start.0 (end_of by) found t

-- what a step that follows them says of the log
abbrev pub Says : ℕ → Filter → List FoundRecord → Result Step ReadErr → Tape → Type 0
Says size by found step t = SaysOfLog size by.start.0 (end_of by) found step t

module _ (size : ℕ) (by : Filter) (valid : IsSegmentSize size) (old : Option (List ℕ)) where
  -- a front of what the log decodes to is a front whatever it is found to decode to
  pub front_of : (text : List FoundRecord → List ℕ) (t : Tape) (new : Option (List ℕ))
      (found : List FoundRecord) (answer : Answer) → DecodesOnDisk size by t found answer
      → (n : ℕ) × (new ≡ with_behind old (take n (text found))) → PutsFront text size by t old new
  front_of text t new found answer decodes front = λ others other on_disk.
      (let same = (same_log t valid decodes on_disk).0 in (
        front.0,
        front.1 ∙ ap (λ (fs : List FoundRecord). with_behind old (take front.0 (text fs))) same,
      ))

  -- so all is read whatever it is found to decode to
  pub all_read_of : (t : Tape) (found : List FoundRecord) (answer : Answer)
      → DecodesOnDisk size by t found answer → IsAllRead by found answer
      → (others : List FoundRecord) (other : Answer) → DecodesOnDisk size by t others other
      → IsAllRead by others other
  all_read_of t found answer decodes ends others other on_disk =
      let same = same_log t valid decodes on_disk in
      subst (λ (fs : List FoundRecord). IsAllRead by fs other) same.0
      (subst (λ (a : Answer). IsAllRead by found a) same.1 ends)

-- a front of a text is one of the same text
front_same : (old new : Option (List ℕ)) (text same : List ℕ) → same ≡ text → (n : ℕ) × (new ≡ with_behind old (take n text)) → (n : ℕ) × (new ≡ with_behind old (take n same))
front_same old new text same is front = (front.0, front.1 ∙ ap (λ (x : List ℕ). with_behind old (take front.0 x)) (sym is))

false_is_not : (stats : Bool) → stats ≡ false → IsTrue stats → ⊥
false_is_not stats plain asked = cc

module _ (size : ℕ) (by : Filter) (valid : IsSegmentSize size) (plain : by.stats ≡ false)
    (old : Option (List ℕ)) (found : List FoundRecord) (mid : Option (List ℕ)) (count : ℕ)
    (lists : Lists by found old mid count) where
  module _ (within : IsWithin by.limit count) where
    put_front : (t : Tape) → Begins size by found t → ListsFrontInReading size by t old mid
    put_front t begins =
        front_of size by valid old (listing_in_reading by) t mid (found ++ begins.others)
        begins.answer begins.decodes (front_same old mid _ _
        (listing_in_reading-lines by plain (found ++ begins.others))
        (listed_front by old found mid count lists within begins.others))

    pub dump_ended : (tape : Option Tape) (at : Lsn)
        → IfSome tape (Says size by found (Ok (End at))) → IfSome tape (IsDump size by old mid (Ok count))
    dump_ended None at says = tt
    dump_ended (Some t) at says =
        let all = listed_all by old found mid count lists within in
        record {
          found = found;
          answer = answers.End at;
          puts = record {
            decodes = says;
            put = all.0 ∙ ap (with_behind old) (sym (listing-lines by plain found));
          };
          ends = inl tt;
          count_is = all.1;
        }

    -- once the limit is listed nothing more is read
    pub dump_reached : (tape : Option Tape) → IfSome tape (Begins size by found)
        → is_reached by.limit count ≡ true → IfSome tape (IsDump size by old mid (Ok count))
    dump_reached None begins full = tt
    dump_reached (Some t) begins full =
        let all = listed_reached by old found mid count lists within begins.others full in
        record {
          found = found ++ begins.others;
          answer = begins.answer;
          puts = record {
            decodes = begins.decodes;
            put = all.0
                ∙ ap (with_behind old) (sym (listing-lines by plain (found ++ begins.others)));
          };
          ends = inr all.2;
          count_is = all.1;
        }

    pub dump_failed : (tape : Option Tape) (e : ReadErr) → IfSome tape (Says size by found (Err e))
        → is_reached by.limit count ≡ false
        → IfSome tape (IsDump size by old mid (Err (errors.Read e)))
    dump_failed None e says unreached = tt
    dump_failed (Some t) Memory says unreached = put_front t says
    dump_failed (Some t) (Disk faults) says unreached = put_front t says
    dump_failed (Some t) (Stopped stop) says unreached =
        let all = listed_all by old found mid count lists within in
        record {
          found = found;
          puts = record {
            decodes = says;
            put = all.0 ∙ ap (with_behind old) (sym (listing_in_reading-lines by plain found));
          };
          below_limit = limit_unlisted by old found mid count lists unreached;
        }

  -- the sink fails at a record's line
  pub dump_cut : (new : Option (List ℕ)) (tape : Option Tape) (f : FoundRecord)
      (kept : List FoundRecord) → kept_by by (f ∷ []) ≡ kept → (fault : SinkFault)
      → IfSome tape (Begins size by (found ++ f ∷ [])) → IsWithin by.limit (count + length kept)
      → (n : ℕ) × (new ≡ with_behind mid (take n (printed by kept)))
      → IfSome tape (IsDump size by old new (Err (errors.Sink fault)))
  dump_cut new None f kept kept_is fault begins within front = tt
  dump_cut new (Some t) f kept kept_is fault begins within front =
      let all = (found ++ f ∷ []) ++ begins.others in
      record {
        front = front_of size by valid old (listing by) t new all begins.answer begins.decodes
            (front_same old new _ _ (listing-lines by plain all) (listed_front_of_next by old found
            mid count lists f kept kept_is new within begins.others front));
        ends = λ asked. absurd (false_is_not by.stats plain asked);
      }
