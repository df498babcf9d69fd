-- What is read of a disk that is left with sure records: a front of the log that has them all.
use Rattle.std.proofs.Common.{ℕ, All, Contains, List, None, arith}
use Rattle.std.proofs.lemmas.List.Elements.{All-weaker}
use Rattle.segment_disk.specs.DiskImage.{DiskImage, MayLeave, image_as_read}
use Rattle.segment_disk.specs.Tape.{Tape, state_now}
use Rattle.flush_core.specs.Settled.{IsAmong}
use Rattle.flush_core.specs.SettledLog.{IsZeroOrLogWord}
use Rattle.flush_core.proofs.LeftLaws.{ImageFits-left}
use Rattle.wal_reader.specs.declared.found.Answer.{Answer}
use Rattle.wal_reader.specs.declared.found.FoundRecord.{FoundRecord}
use Rattle.wal_reader.specs.Cache.{log_of}
use Rattle.wal_reader.specs.Decodes.{Decodes}
use Rattle.wal_reader.specs.Finds.{FindsRecords}
use Rattle.wal_reader.specs.Pages.{pages_in}
use Rattle.wal_reader.proofs.FindsLaws.{finding_is_decoding}
use Rattle.written_log_laws.specs.LawfulLog.{IsFrontUpto}
use Rattle.written_log_laws.specs.Torn.{NoTornPass}
use Rattle.written_log_laws.proofs.LawfulLaws.{lawful_images_decode_to_fronts}
use Rattle.written_log_laws.proofs.ReadImages.{fits_lawful}
use Rattle.reopened_log_laws.specs.Lives.{IsFrontWith}
use Rattle.reopened_log_laws.specs.WasLeft.{WasLeft}
use Rattle.reopened_log_laws.proofs.CutWrites.{left_as_read}
use Rattle.reopened_log_laws.proofs.KeptRecords.{IsSureRecord, front_has}
use Rattle.reopened_log_laws.proofs.SureDisks.{sure_entries_are_read}

module _ (size sysid : ℕ) (t : Tape) (found : List FoundRecord)
    (left : WasLeft size sysid t found) (hard : List FoundRecord)
    (kept : All (IsSureRecord size sysid left.order (state_now t)) hard) where
  module _ (image : DiskImage) (may : MayLeave (state_now t) image)
      (none_torn : NoTornPass size (pages_in size image) left.order) (records : List FoundRecord)
      (answer : Answer) (decodes : Decodes size (pages_in size image) size None records answer)
    where
      front : IsFrontUpto size left.order 0 records
      front =
          let m = left.has_found.may in
          let fits = ImageFits-left size (IsAmong left.count)
          (IsZeroOrLogWord size sysid left.order) (state_now t) image m.lawful may in
          lawful_images_decode_to_fronts size sysid 0 image left.order m.valid m.known m.narrow
          m.chained m.bounded (record {
            words = fits_lawful size sysid left.order (IsAmong left.count) image m.valid fits;
            below = λ k low. absurd (omega (arith, low));
            there = λ k low. absurd (omega (arith, low));
          }) none_torn records answer decodes

      front_with : IsFrontWith size left.order hard records
      front_with = record {
        count = front.count;
        front = front.found_is;
        has = All-weaker (IsSureRecord size sysid left.order (state_now t)) (Contains records)
            (λ r k. front_has size left.order records r k.0
            ((sure_entries_are_read size sysid r.head.end.0 t found left k.1).1 image may none_torn
            records answer decodes)) hard kept;
      }

  -- the reader finds such records on the disk,
  pub sure_reads : (records : List FoundRecord) → FindsRecords size (log_of t size) size records
      → IsFrontWith size left.order hard records
  sure_reads records finds =
      let image = image_as_read (state_now t) in
      let decodes = (finding_is_decoding size image size left.has_found.may.valid records).0 finds
      in
      front_with image (left_as_read size (state_now t) left.whole) left.has_found.none_torn records
      decodes.0 decodes.1

  -- and on each image that a crash may leave of it
  pub sure_crash : (image : DiskImage) (records : List FoundRecord) → MayLeave (state_now t) image
      → NoTornPass size (pages_in size image) left.order
      → FindsRecords size (pages_in size image) size records
      → IsFrontWith size left.order hard records
  sure_crash image records may none_torn finds =
      let decodes = (finding_is_decoding size image size left.has_found.may.valid records).0 finds
      in
      front_with image may none_torn records decodes.0 decodes.1
