-- A disk that holds all of a log for good reads back all of it, also as it is read now.
use Rattle.std.proofs.Common.{◌≡◌, ℕ, ◌≤◌, inl, List, ◌++◌, length, take, take_all, sym, subst, arith}
use Rattle.segment_disk.specs.declared.disk.Call.{Call}
use Rattle.segment_disk.specs.DiskImage.{DiskImage, MayLeave, image_as_read}
use Rattle.segment_disk.specs.Tape.{Tape, after_calls, state_now}
use Rattle.segment_disk.specs.Assured.{DiskImageFits, IsMadeUpto, IsNowhere, TapeAssures}
use Rattle.byte_position.specs.Position.{end_address_of}
use Rattle.wal_page.specs.Order.{Entry}
use Rattle.machine_state.specs.Words.{Opening, end_form, flushed_word, moment_word, order_end}
use Rattle.machine_state.specs.Views.{View}
use Rattle.machine_state.specs.Durable.{IsFirm, IsLawfulAt, IsLogBelow}
use Rattle.machine_state.proofs.Tapes.{at_suited}
use Rattle.machine_laws.specs.Crashes.{IsLawfulBehind}
use Rattle.machine_laws.specs.WholeOrders.{LiesBehind}
use Rattle.machine_laws.proofs.CrashLaws.{IsLawfulBehind-left}
use Rattle.machine_laws.proofs.WholeOrders.{IsLawful-whole}
use Rattle.written_log_laws.proofs.LawfulLaws.{whole_lawful_images_decode}
use Rattle.written_log_laws.proofs.ReadImages.{as_read_fits}
use Rattle.run_laws.specs.Closed.{IsClosedOn}
use Rattle.run_laws.specs.Whole.{HoldsWhole}
use Rattle.run_laws.specs.WholeOrders.{DecodesTo}
use Rattle.run_laws.proofs.ClosedDisk.{crashes, known, moment_passed, sound_tape, valid, whole_is, whole_low}

-- ---- the whole log

module _ (opening : Opening) (order : List Entry) (t : Tape) (v : View)
    (c : IsClosedOn opening order t v)
    (upto : end_form opening.setup (order_end opening order) ≤ flushed_word c.words)
    (front : List Entry) (lies : LiesBehind opening front) where
  abbrev size : ℕ
  size = (opening.setup).seg_size

  abbrev flushed : ℕ
  flushed = flushed_word c.words

  decodes_to : (image : DiskImage) → IsLawfulBehind opening order image (flushed_word c.words)
      → DecodesTo (opening.setup).seg_size image (front ++ order)
  decodes_to image lawful =
      let is = whole_is opening order t v c front lies in
      whole_lawful_images_decode size (opening.setup).sysid flushed image (front ++ order)
      (valid opening order t v c) (known opening order t v c) c.narrow is.chained
      (whole_low opening order t v c front lies)
      (subst (λ (n : ℕ). end_address_of size n ≤ flushed) (sym is.end) upto)
      (IsLawful-whole opening order (front ++ order) image flushed (valid opening order t v c) is
      lawful)

  left_whole : (image : DiskImage) → MayLeave (state_now t) image
      → DecodesTo (opening.setup).seg_size image (front ++ order)
  left_whole image leaves =
      let all : take (length t.calls) t.calls ≡ t.calls = take_all (length t.calls) t.calls
      (omega arith) in
      let now = subst (λ (calls : List Call). MayLeave (after_calls t.at_first calls) image)
      (sym all) leaves in
      decodes_to image ((crashes opening order t v c).flushed_kept (length t.calls) image
      (moment_passed opening order t v c) (inl now))

  -- the disk as it is read holds nothing but words of the log
  only_log : DiskImageFits (opening.setup).seg_size IsNowhere
      (IsLawfulAt opening (c.sound).order) (image_as_read (state_now t))
  only_log = as_read_fits size IsNowhere (IsLawfulAt opening (c.sound).order) (state_now t)
      (at_suited t.at_first opening (c.sound).writer (TapeAssures size IsNowhere
      (IsLawfulAt opening (c.sound).order) opening.moment) t (sound_tape opening order t v c)
      c.began ((c.sound).durable).lawful).now

  -- and all of them below the flushed address
  all_below : DiskImageFits (opening.setup).seg_size
      (IsMadeUpto (opening.setup).seg_size (flushed_word c.words))
      (IsLogBelow opening (c.sound).order (flushed_word c.words))
      (image_as_read (state_now t))
  all_below = as_read_fits size (IsMadeUpto size flushed)
      (IsLogBelow opening (c.sound).order flushed) (state_now t)
      (at_suited t.at_first opening (c.sound).writer (IsFirm opening (c.sound).order flushed
      (moment_word c.words)) t (sound_tape opening order t v c) c.began
      ((c.sound).durable).firm).now

  read_lawful : IsLawfulBehind opening order (image_as_read (state_now t)) (flushed_word c.words)
  read_lawful = subst
      (λ (es : List Entry). IsLawfulBehind opening es (image_as_read (state_now t)) flushed)
      c.order_is (IsLawfulBehind-left opening (valid opening order t v c)
      (c.sound).order ((c.sound).reserved).placed (image_as_read (state_now t)) flushed all_below
      only_log)

  pub whole : HoldsWhole (opening.setup).seg_size t (front ++ order)
  whole = record {
    left = left_whole;
    read = decodes_to (image_as_read (state_now t)) read_lawful;
  }
