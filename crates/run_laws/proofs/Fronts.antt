-- What a crash leaves of a closed log decodes to a front of its order, with all that was promised.
use Rattle.std.proofs.Common.{◌≡◌, ℕ, suc, ◌<◌, ◌≤◌, List, [], ◌∷◌, ◌++◌, length, take, None, Some, refl, ap, arith}
use Rattle.std.specs.Prelude.{slice_get}
use Rattle.std.proofs.lemmas.List.{length-take-le}
use Rattle.byte_position.specs.Position.{address_of}
use Rattle.segment_disk.specs.DiskImage.{DiskImage, LeftAt}
use Rattle.segment_disk.specs.Tape.{Tape}
use Rattle.wal_page.specs.Order.{Entry, finish_of}
use Rattle.machine_state.specs.Words.{Opening}
use Rattle.machine_state.specs.Views.{FlushPromise, View}
use Rattle.wal_reader.specs.declared.found.Answer.{Answer}
use Rattle.wal_reader.specs.declared.found.FoundRecord.{FoundRecord}
use Rattle.wal_reader.specs.Decodes.{Decodes}
use Rattle.wal_reader.specs.Pages.{pages_in}
use Rattle.written_log_laws.specs.LawfulLog.{IsFrontUpto}
use Rattle.written_log_laws.specs.Torn.{NoTornPass}
use Rattle.written_log_laws.specs.Written.{found_from}
use Rattle.written_log_laws.proofs.LawfulLaws.{lawful_images_decode_to_fronts}
use Rattle.machine_laws.specs.Crashes.{IsLawfulBehind}
use Rattle.machine_laws.specs.WholeOrders.{LiesBehind}
use Rattle.machine_laws.proofs.WholeOrders.{IsLawful-whole}
use Rattle.run_laws.specs.Closed.{IsClosedOn, WasPromised}
use Rattle.run_laws.specs.Surviving.{IsFrontAsPromised, LeavesFronts, LeavesWordsOf}
use Rattle.run_laws.proofs.ClosedDisk.{crashes, known, promise_held, valid, whole_is, whole_low}

length-found_from : (size prev : ℕ) (es : List Entry)
    → length (found_from size prev es) ≡ length es
length-found_from size prev [] = refl
length-found_from size prev (e ∷ es) =
    ap suc (length-found_from size (address_of size e.start) es)

-- the front is as long as what was found
front_length : (size : ℕ) (es : List Entry) (upto : ℕ) (found : List FoundRecord)
    → (front : IsFrontUpto size es upto found) → front.count ≡ length found
front_length size es upto found front =
    omega (
      arith,
      ap length front.found_is,
      length-found_from size 0 (take front.count es),
      length-take-le front.count es front.within,
    )

module _ (opening : Opening) (order : List Entry) (t : Tape) (v : View)
    (c : IsClosedOn opening order t v) (front : List Entry) (lies : LiesBehind opening front)
    (moment : ℕ) (image : DiskImage)
    (since : opening.moment ≤ moment) (left : LeftAt t moment image)
    (torn : NoTornPass (opening.setup).seg_size (pages_in (opening.setup).seg_size image)
    (front ++ order)) (found : List FoundRecord) (answer : Answer)
    (decodes : Decodes (opening.setup).seg_size (pages_in (opening.setup).seg_size image)
    (opening.setup).seg_size None found answer) where
  abbrev size : ℕ
  size = (opening.setup).seg_size

  abbrev whole : List Entry
  whole = front ++ order

  front_of : (upto : ℕ) → IsLawfulBehind opening order image upto
      → IsFrontUpto size whole upto found
  front_of upto lawful =
      let is = whole_is opening order t v c front lies in
      lawful_images_decode_to_fronts size (opening.setup).sysid upto image whole
      (valid opening order t v c) (known opening order t v c) c.narrow is.chained
      (whole_low opening order t v c front lies)
      (IsLawful-whole opening order whole image upto (valid opening order t v c) is lawful) torn
      found answer decodes

  found_front : IsFrontUpto (opening.setup).seg_size whole 0 found
  found_front = front_of 0 ((crashes opening order t v c).only moment image since left)

  has_promised : (entries : List Entry) (p : FlushPromise) → WasPromised v entries p
      → p.moment ≤ moment → (n : ℕ) (e : Entry) → slice_get whole n ≡ Some e
      → finish_of size e ≤ p.upto → n < found_front.count
  has_promised entries p was by n e is within =
      let held = promise_held opening order t v c entries p was in
      let other = front_of p.upto (held.kept moment image by left) in
      omega (
        arith,
        other.holds n e is within,
        front_length size whole p.upto found other,
        front_length size whole 0 found found_front,
      )

  front_as_promised : IsFrontAsPromised (opening.setup).seg_size moment whole v found
  front_as_promised = record {
    count = found_front.count;
    within = found_front.within;
    front = found_front.found_is;
    promised = has_promised;
  }

pub survive : (opening : Opening) (order : List Entry) (t : Tape) (v : View)
    → IsClosedOn opening order t v → (front : List Entry) → LiesBehind opening front
    → LeavesFronts opening (front ++ order) t v
survive opening order t v c front lies moment image since left torn found answer decodes =
    front_as_promised opening order t v c front lies moment image since left torn found answer
    decodes

pub no_other_words : (opening : Opening) (order : List Entry) (t : Tape) (v : View)
    → IsClosedOn opening order t v → (front : List Entry) → LiesBehind opening front
    → LeavesWordsOf opening (front ++ order) t
no_other_words opening order t v c front lies moment image since left =
    IsLawful-whole opening order (front ++ order) image 0 (valid opening order t v c)
    (whole_is opening order t v c front lies)
    ((crashes opening order t v c).only moment image since left)
