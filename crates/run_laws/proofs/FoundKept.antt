-- What a crash leaves of a closed log reads as records that begin with all that lay below its place:
-- that is durable from the opening on.
use Rattle.std.proofs.Common.{◌≡◌, ℕ, suc, ◌+◌, ◌-◌, ◌<◌, ◌≤◌, All, List, [], ◌∷◌, ◌++◌, length, take, Some, refl, sym, ap, ◌∙◌, subst, arith}
use Rattle.std.specs.Prelude.{slice_get}
use Rattle.std.proofs.Math.Seq.{take-append-add, take-append_seam}
use Rattle.std.proofs.lemmas.List.{append_assoc}
use Rattle.std.proofs.lemmas.List.Elements.{All-cons, All-head, All-nil, All-tail}
use Rattle.byte_position.specs.Geometry.{IsSegmentSize}
use Rattle.byte_position.specs.Position.{end_address_of, first_position}
use Rattle.byte_position.proofs.EndAddresses.{end_address_of-mono}
use Rattle.segment_disk.specs.Assured.{IsNowhere, TapeAssures}
use Rattle.segment_disk.specs.Tape.{Tape}
use Rattle.wal_page.specs.Order.{Entry, FollowsFrom, IsChained, finish_of, position_behind, rooms_of}
use Rattle.wal_page.proofs.OrderLaws.{FollowsFrom-parts, rooms_of-append, rooms_of_cons}
use Rattle.machine_state.specs.Durable.{IsFirm, IsLawfulAt}
use Rattle.machine_state.specs.Views.{View}
use Rattle.machine_state.specs.Words.{GoesOnAtPlace, Opening, found_end, found_position, order_end}
use Rattle.machine_state.proofs.Tapes.{at_suited}
use Rattle.machine_laws.specs.Crashes.{LeavesLawful}
use Rattle.machine_laws.specs.WholeOrders.{IsWholeOrder, LiesBehind}
use Rattle.machine_laws.proofs.CrashLaws.{IsLawfulBehind-left}
use Rattle.machine_laws.proofs.WholeOrders.{IsLawful-whole}
use Rattle.written_log_laws.specs.LawfulLog.{IsFrontUpto}
use Rattle.written_log_laws.specs.Written.{found_from}
use Rattle.written_log_laws.proofs.LawfulLaws.{lawful_images_decode_to_fronts}
use Rattle.run_laws.specs.Crash.{KeepsFound}
use Rattle.run_laws.proofs.FrontLengths.{take-found_from}
use Rattle.run_laws.specs.Closed.{IsClosedOn}
use Rattle.run_laws.proofs.ClosedDisk.{known, sound_tape, valid, whole_is, whole_low}

-- an entry ends at or below an address
abbrev EndsBelow : (size address : ℕ) → Entry → Type 0
EndsBelow size address e = finish_of size e ≤ address

-- entries that follow each other end no later than they do together
ends_of_all : (size : ℕ) → IsSegmentSize size → (position : ℕ) (es : List Entry)
    → FollowsFrom size position es
    → All (EndsBelow size (end_address_of size (position + rooms_of size es))) es
ends_of_all size valid position [] follows =
    All-nil (EndsBelow size (end_address_of size (position + rooms_of size [])))
ends_of_all size valid position (e ∷ es) follows =
    let behind = position_behind size e in
    let end = position + rooms_of size (e ∷ es) in
    let same : behind + rooms_of size es ≡ position + rooms_of size (e ∷ es) =
    omega (arith, follows.0, rooms_of_cons size e es) in
    All-cons (EndsBelow size (end_address_of size end)) e es
    (end_address_of-mono size valid behind end (omega (arith, same)))
    (subst (λ (p : ℕ). All (EndsBelow size (end_address_of size p)) es) same
    (ends_of_all size valid behind es follows.2))

-- where each of some first entries is among so many, all of them are
all_among : (P : Entry → Type 0) (count at : ℕ) (es back : List Entry)
    → ((i : ℕ) (e : Entry) → slice_get (es ++ back) i ≡ Some e → P e → at + i < count)
    → All P es → at ≤ count → at + length es ≤ count
all_among P count at [] back among all within = omega (arith, within)
all_among P count at (e ∷ es) back among all within =
    let here : at + 0 < count = among 0 e refl (All-head P e es all) in
    let later = all_among P count (at + 1) es back
    (λ i f is holds. omega (arith, among (suc i) f is holds)) (All-tail P e es all)
    (omega (arith, here)) in
    omega (arith, later)

-- entries that come first in an order are the first of each front that has as many
first_of_front : (found back order : List Entry) (count : ℕ) → order ≡ found ++ back
    → length found ≤ count → take (length found) (take count order) ≡ found
first_of_front found back order count is within =
    let more = count - length found in
    let count_is : count ≡ length found + more = omega (arith, within) in
    let front_is : take count order ≡ found ++ take more back =
    ap (take count) is ∙ ap (λ (n : ℕ). take n (found ++ back)) count_is
    ∙ take-append-add found back more in
    ap (take (length found)) front_is ∙ take-append_seam found (take more back)

module _ (opening : Opening) (order : List Entry) (t : Tape) (v : View)
    (c : IsClosedOn opening order t v) where
  abbrev size : ℕ
  size = (opening.setup).seg_size

  found_firm : IsFirm opening (c.sound).order (found_end opening) opening.moment t
  found_firm = at_suited t.at_first opening (c.sound).writer
      (IsFirm opening (c.sound).order (found_end opening) opening.moment) t
      (sound_tape opening order t v c) c.began ((c.sound).durable).found

  only_log : TapeAssures (opening.setup).seg_size IsNowhere
      (IsLawfulAt opening (c.sound).order) opening.moment t
  only_log = at_suited t.at_first opening (c.sound).writer
      (TapeAssures size IsNowhere (IsLawfulAt opening (c.sound).order) opening.moment) t
      (sound_tape opening order t v c) c.began ((c.sound).durable).lawful

  found_lawful : LeavesLawful opening order (found_end opening) opening.moment t
  found_lawful = subst
      (λ (es : List Entry). LeavesLawful opening es (found_end opening) opening.moment t)
      c.order_is (λ moment image since left.
      IsLawfulBehind-left opening (valid opening order t v c) (c.sound).order
      ((c.sound).reserved).placed image (found_end opening)
      (found_firm.left moment since image left) (only_log.left moment since image left))

  -- the entries below the place end where it is
  module _ (front : List Entry) (lies : LiesBehind opening front) where
    front_end : first_position size + rooms_of size front ≡ found_position opening
    front_end = omega (arith, lies.position_is)

    front_ends : All (EndsBelow (opening.setup).seg_size (found_end opening)) front
    front_ends = subst (λ (p : ℕ). All (EndsBelow size (end_address_of size p)) front) front_end
        (ends_of_all size (valid opening order t v c) (first_position size) front lies.chained)

pub keep : (opening : Opening) (order : List Entry) (t : Tape) (v : View)
    → IsClosedOn opening order t v → (front : List Entry) → LiesBehind opening front
    → KeepsFound (opening.setup).seg_size opening.moment (front ++ order) front t
keep opening order t v c front lies moment image since left torn found answer decodes =
    let size = (opening.setup).seg_size in
    let whole = whole_is opening order t v c front lies in
    let lawful = IsLawful-whole opening order (front ++ order) image (found_end opening)
    (valid opening order t v c) whole (found_lawful opening order t v c moment image since left) in
    let read : IsFrontUpto size (front ++ order) (found_end opening) found =
    lawful_images_decode_to_fronts size (opening.setup).sysid (found_end opening) image
    (front ++ order) (valid opening order t v c) (known opening order t v c) c.narrow whole.chained
    (whole_low opening order t v c front lies) lawful torn found answer decodes in
    let all : 0 + length front ≤ read.count =
    all_among (EndsBelow size (found_end opening)) read.count 0 front order
    (λ i e is ends. omega (arith, read.holds i e is ends))
    (front_ends opening order t v c front lies) (omega arith) in
    ap (take (length front)) read.found_is
    ∙ take-found_from (length front) size 0 (take read.count (front ++ order))
    ∙ ap (found_from size 0)
    (first_of_front front order (front ++ order) read.count refl (omega (arith, all)))
