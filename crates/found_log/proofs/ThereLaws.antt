-- No record of a disk's log ends before segment 1, or behind the segments that are there.
use Rattle.std.proofs.Common.{◌≡◌, ℕ, ◌+◌, ◌*◌, ◌/◌, ◌%◌, ◌^◌, ◌<◌, ◌≤◌, true, false, Bool, List, Option, Some, None, inl, inr, refl, sym, ap, subst, ◌∙◌, arith}
use Rattle.std.specs.Prelude.{if◌then◌else◌, nat_le, IfSome}
use Rattle.std.proofs.lemmas.Bool.{cases_lt, cond-false, cond-true, le-ltb, lt-ltb}
use Rattle.std.proofs.lemmas.Nat.{div_below, le-div, mul-le}
use Rattle.byte_position.specs.Geometry.{IsSegmentSize, pages_of}
use Rattle.byte_position.proofs.SegmentSizes.{segment_size_in_pages}
use Rattle.segment_disk.specs.DiskImage.{image_as_read}
use Rattle.segment_disk.specs.Tape.{DiskState, Segment, Tape, page_as_read, page_of_segment, state_now}
use Rattle.flush_core.specs.Settled.{AreAllThere}
use Rattle.wal_reader.specs.Pages.{page_of_image, pages_in}
use Rattle.found_log.specs.declared.fault.FindFault.{FindFault}
use Rattle.found_log.specs.declared.fault.FindFault.TheVariants.{Memory, Disk, Beyond, Foreign}
use Rattle.found_log.specs.Found.{CountsSegments, RefusesLog}
use Rattle.found_log.specs.Reading.{HasRecordOutside, IsUnread}
use Rattle.found_log.proofs.WithinLaws.{EndsWithin, decoded_within, each_at}

-- a segment of which page 0 is not there has no page
no_pages : (s : Segment) (page : ℕ) → page_of_segment (Some s) 0 ≡ None → s.pages ≤ page
no_pages s page is = elim (cases_lt 0 s.pages) [
  | inl some ↦ absurd (some_none (page_as_read s 0) (sym (cond-true _ (Some (page_as_read s 0)) None
      (lt-ltb 0 s.pages some)) ∙ is))
  | inr zeros ↦ omega (arith, zeros)
]
  where
    some_none : (bytes : List ℕ) → Some bytes ≡ None → ⊥
    some_none bytes e = absurd cc

no_page_of : (state : DiskState) (segment page : ℕ) (s : Option Segment) → state segment ≡ s
    → page_of_segment s 0 ≡ None → page_of_image (image_as_read state segment) page ≡ None
no_page_of state segment page None is none = rw is refl
no_page_of state segment page (Some s) is none =
    rw is (cond-false _ _ None (le-ltb page s.pages (no_pages s page none)))

module _ (size : ℕ) (valid : IsSegmentSize size) (t : Tape) (made : ℕ) (few : made ≤ 4096)
    (there : AreAllThere size (state_now t) made) where
  next_none : page_of_segment (state_now t (made + 1)) 0 ≡ None
  next_none =
      let wide = segment_size_in_pages size valid in
      let high = mul-le (made + 2) size 4098 (2 ^ 30) (omega (arith, few)) (omega (arith, wide)) in
      there.others (omega (
        arith,
        le-div (made + 2) (2 ^ 60) size (omega (arith, wide))
            (omega (arith, high)),
      ))

  none : (page : ℕ) → pages_of size * (made + 1) ≤ page → page < pages_of size * (made + 1)
      + pages_of size → pages_in size (image_as_read (state_now t)) page ≡ None
  none page low high =
      let wide = segment_size_in_pages size valid in
      let n = pages_of size in
      let some : 0 < n = omega (arith, wide) in
      let times : n * (made + 1) ≡ (made + 1) * n = omega arith in
      let more : (made + 2) * n ≡ (made + 1) * n + n = omega arith in
      let above = le-div (made + 1) page n some (omega (arith, low, times)) in
      let below = div_below page n (made + 2) some (omega (arith, high, times, more)) in
      let at : page / n ≡ made + 1 = omega (arith, above, below) in
      let here = no_page_of (state_now t) (page / n) (page % n) (state_now t (page / n)) refl
      (ap (λ (k : ℕ). page_of_segment (state_now t k) 0) at ∙ next_none) in
      either (nat_le ((page + 1) * 8192) (2 ^ 60)) here
    where
      either : (b : Bool) {o : Option (List ℕ)} → o ≡ None → (if b then o else None) ≡ None
      either true is = is
      either false is = refl

  pub none_outside : HasRecordOutside size made t → ⊥
  none_outside has =
      let pages = pages_in size (image_as_read (state_now t)) in
      let all = decoded_within size valid pages made none _ has.answer has.decodes in
      let within = each_at (EndsWithin size valid pages made none) has.before has.last has.others
      all in
      let times : size * (made + 1) ≡ made * size + size = omega arith in
      elim has.outside [
        | inl before ↦ absurd (omega (arith, within.0, before))
        | inr behind ↦ absurd (omega (arith, within.1, behind, times))
      ]

-- ---- a log that was not found

module _ (size cap made : ℕ) (valid : IsSegmentSize size) (few : made ≤ 4096) where
  unread_on : (t : Tape) (fault : FindFault) → CountsSegments size cap made t
      → IsUnread size made fault t → RefusesLog size cap fault t
  unread_on t Memory counts unread = tt
  unread_on t (Disk faults) counts unread = tt
  unread_on t (Beyond segment) counts unread = absurd unread
  unread_on t (Foreign stop) counts (inl stopped) = (counts.capped, stopped)
  unread_on t (Foreign stop) counts (inr outside) =
      absurd (none_outside size valid t made few counts.there outside)

  pub refuses_unread : (tape one : Option Tape) (fault : FindFault) → one ≡ tape
      → IfSome tape (CountsSegments size cap made) → IfSome one (IsUnread size made fault)
      → IfSome tape (RefusesLog size cap fault)
  refuses_unread tape one fault same counts unread =
      both_on tape counts (subst (λ (t : Option Tape). IfSome t (IsUnread size made fault)) same
      unread)
    where
      both_on : (tape : Option Tape) → IfSome tape (CountsSegments size cap made)
          → IfSome tape (IsUnread size made fault) → IfSome tape (RefusesLog size cap fault)
      both_on None counts unread = tt
      both_on (Some t) counts unread = unread_on t fault counts unread
