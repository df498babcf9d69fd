-- That a tally's lines, put once all is read, are the listing of a filter that asks for statistics.
use Rattle.std.proofs.Common.{◌≡◌, ℕ, true, Bool, List, [], map, take, Option, Some, None, Ok, Err, if◌then◌else◌, refl, sym, ap, ◌∙◌}
use Rattle.std.specs.Prelude.{IfSome}
use Rattle.std.proofs.lemmas.List.{length-map}
use Rattle.byte_position.specs.Geometry.{IsSegmentSize}
use Rattle.segment_disk.specs.Stream.{with_behind}
use Rattle.segment_disk.specs.Tape.{Tape}
use Rattle.wal_reader.specs.declared.found.FoundRecord.{FoundRecord}
use Rattle.wal_reader.specs.declared.standing.ReadErr.{ReadErr}
use Rattle.wal_reader.specs.declared.standing.ReadErr.TheVariants.{Memory, Disk, Stopped}
use Rattle.waldump_filter.specs.declared.Filter.{Filter}
use Rattle.waldump_text.specs.Counting.{IsTally}
use Rattle.waldump_text.specs.Dump.{IsDump}
use Rattle.waldump_text.specs.Listing.{listed_by, listed_of, listing, listing_in_reading}
use Rattle.waldump_text.specs.Tally.{Tallies, tally_text}
use Rattle.waldump_text.specs.declared.dumping.DumpErr.TheVariants as errors
use Rattle.waldump_text.specs.declared.putting.SinkFault.{SinkFault}
use Rattle.waldump_text.specs.declared.sums.Sums.{Sums}
use Rattle.waldump_text.specs.declared.sums.Tally.{Tally}
use Rattle.waldump_text.proofs.DumpLaws.{all_read_of, front_of}
use Rattle.waldump_text.proofs.SinkLaws.{with_behind-nil}
use Rattle.waldump_text.proofs.StatisticsLaws.{tally_text-is_stats}

with_statistics : (quiet stats : Bool) (sums lines tally : List ℕ) → stats ≡ true → tally ≡ sums → (if quiet then [] else tally) ≡ (if quiet then [] else (if stats then sums else lines))
with_statistics quiet stats sums lines tally is same = rw (is, same) refl

none_in_reading : (stats : Bool) (text : List ℕ) → stats ≡ true → (if stats then [] else text) ≡ []
none_in_reading stats text is = rw is refl

module _ (size : ℕ) (by : Filter) (valid : IsSegmentSize size) (is : by.stats ≡ true) (old : Option (List ℕ)) where
  tally-listing : (tally : Tally) (found : List FoundRecord) → Tallies tally (map listed_of (listed_by by found)) → (if by.quiet then [] else tally_text tally) ≡ listing by found
  tally-listing tally found tallies = with_statistics by.quiet by.stats _ _ (tally_text tally) is (tally_text-is_stats tally (map listed_of (listed_by by found)) tallies)

  nothing_put : (found : List FoundRecord) → old ≡ with_behind old (listing_in_reading by found)
  nothing_put found = sym (ap (with_behind old) (none_in_reading by.stats (listing by found) is) ∙ with_behind-nil old)

  front_of_nothing : (found : List FoundRecord) → old ≡ with_behind old (take 0 (listing_in_reading by found))
  front_of_nothing found = sym (with_behind-nil old)

  -- where the reading fails nothing is put
  pub statistics_unread : (tape : Option Tape) (e : ReadErr) → IfSome tape (IsTally size by (Err e)) → IfSome tape (IsDump size by old old (Err (errors.Read e)))
  statistics_unread None e tally = tt
  statistics_unread (Some t) Memory tally = λ found answer decodes. (0, front_of_nothing found)
  statistics_unread (Some t) (Disk faults) tally = λ found answer decodes. (0, front_of_nothing found)
  statistics_unread (Some t) (Stopped stop) tally = record { found = tally.found; puts = record { decodes = tally.decodes; put = nothing_put tally.found }; below_limit = tally.below_limit }

  module _ (tally : Tally) (new : Option (List ℕ)) where
    pub statistics_put : (tape : Option Tape) → IfSome tape (IsTally size by (Ok tally)) → new ≡ with_behind old (if by.quiet then [] else tally_text tally) → IfSome tape (IsDump size by old new (Ok tally.all.records))
    statistics_put None tells put = tt
    statistics_put (Some t) tells put = record {
      found = tells.found;
      answer = tells.answer;
      puts = record { decodes = tells.decodes; put = put ∙ ap (with_behind old) (tally-listing tally tells.found tells.tallies) };
      ends = tells.ends;
      count_is = ap (λ (sums : Sums). sums.records) (tells.tallies).all ∙ length-map (listed_by by tells.found) listed_of;
    }

    -- the sink fails at them
    pub statistics_cut : (tape : Option Tape) (fault : SinkFault) → IfSome tape (IsTally size by (Ok tally)) → (n : ℕ) × (new ≡ with_behind old (take n (if by.quiet then [] else tally_text tally))) → IfSome tape (IsDump size by old new (Err (errors.Sink fault)))
    statistics_cut None fault tells front = tt
    statistics_cut (Some t) fault tells front =
        record {
          front = front_of size by valid old (listing by) t new tells.found tells.answer tells.decodes (front.0, front.1 ∙ ap (λ (text : List ℕ). with_behind old (take front.0 text)) (tally-listing tally tells.found tells.tallies));
          ends = λ asked. all_read_of size by valid old t tells.found tells.answer tells.decodes tells.ends;
        }
