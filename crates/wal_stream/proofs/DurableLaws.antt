-- What a crash leaves behind the syncs of a log decodes to what was read of it.
use Rattle.std.proofs.Common.{◌≡◌, ℕ, ◌+◌, ◌-◌, ◌*◌, ◌/◌, ◌%◌, ◌^◌, ◌<◌, ◌≤◌, inl, inr, List, [], ◌++◌, length, take, Option, Some, None, IfSome, slice_get, refl, sym, ap, subst, ◌∙◌, if◌then◌else◌, arith}
use Rattle.std.specs.Prelude.{nat_le, nat_lt}
use Rattle.std.specs.List.{range_with_len}
use Rattle.std.proofs.Math.Nat.{div-lt_iff_lt-mul, le-div_iff_mul-le, mul-le-mul_right}
use Rattle.std.proofs.lemmas.Bool.{cases_Bool, cases_lt, leb-true, ltb-true}
use Rattle.std.proofs.lemmas.List.{length-append, length-map, take_all}
use Rattle.std.proofs.lemmas.List.FromFn.{length-range_with_len}
use Rattle.std.proofs.lemmas.Nat.{div-mul-add, mod-mul-add, pow-add}
use Rattle.std.proofs.lemmas.Option.{slice_get_past}
use Rattle.byte_position.specs.Geometry.{IsSegmentSize, pages_of}
use Rattle.byte_position.proofs.SegmentSizes.{segment_size_in_pages, segment_size_is_power}
use Rattle.segment_disk.specs.DiskImage.{DiskImage, ImageSegment, LeftAt, MayLeave, MayLeaveSegment, image_as_read}
use Rattle.segment_disk.specs.declared.disk.Call.{Call}
use Rattle.segment_disk.specs.Tape.{DiskState, Segment, Tape, after_calls, page_as_read, page_of_segment, state_now, sync_call}
use Rattle.flush_core.specs.Calls.{with_calls}
use Rattle.flush_core.specs.Pages.{unsynced_writes}
use Rattle.flush_core.specs.Settled.{AreAllThere, IsAmong, MakesCalls, sync_calls}
use Rattle.flush_core.proofs.GrowingTapes.{with_calls-some}
use Rattle.flush_core.proofs.LeftLaws.{left_moved}
use Rattle.flush_core.proofs.SettledPages.{after_calls-append, silent_first}
use Rattle.flush_core.proofs.SettleReads.{reads_spared, syncs_spare}
use Rattle.flush_core.proofs.Words.{left_page}
use Rattle.wal_types.specs.declared.lsn.Lsn.{Lsn}
use Rattle.wal_reader.specs.declared.found.Answer.TheVariants as answers
use Rattle.wal_reader.specs.declared.found.FoundRecord.{FoundRecord}
use Rattle.wal_reader.specs.Decodes.{Decodes}
use Rattle.wal_reader.specs.Pages.{page_of_image, pages_in}
use Rattle.wal_stream.specs.Synced.{HavePageBytes, LeavesList, LeavesRead}
use Rattle.wal_stream.proofs.AlikeLaws.{decodes_alike}

-- ---- pages of an image, and of a disk as it is read

read_here : (s : Option Segment) (segment page : ℕ) → page_of_image (image_as_read (λ (n : ℕ). s) segment) page ≡ page_of_segment s page
read_here None segment page = refl
read_here (Some s) segment page = refl

-- a segment to which no write waits for a sync, and whose pages are whole, is left as it is read
segment_left : (s : Option Segment) (i : Option ImageSegment) (page : ℕ) → unsynced_writes s ≡ [] → IfSome (page_of_segment s page) (λ bytes. length bytes ≡ 8192) → MayLeaveSegment s i → page_of_image i page ≡ page_of_segment s page
segment_left None None page silent whole left = refl
segment_left None (Some i) page silent whole left = absurd left
segment_left (Some s) None page silent whole left = absurd left
segment_left (Some s) (Some i) page silent whole left = elim (cases_Bool (nat_lt page s.pages)) [
  | inl inside ↦
      (let durable : page_as_read s page ≡ s.durable page = ap (λ (ws : List (ℕ × List ℕ)). page_as_read (record { pages = s.pages; durable = s.durable; writes = ws }) page) silent in
      let read : length (page_as_read s page) ≡ 8192 = rw inside at whole in
      let same = left_page s page (i.page page) silent (sym (ap length durable) ∙ read) (left.1 page (ltb-true page s.pages inside)) in
      ap (λ (n : ℕ). if nat_lt page n then Some (i.page page) else None) left.0 ∙ rw inside (ap Some (same ∙ sym durable)))
  | inr outside ↦ ap (λ (n : ℕ). if nat_lt page n then Some (i.page page) else None) left.0 ∙ rw outside refl
]

-- a segment that has no page 0 is left without one
none_left : (s : Option Segment) (i : Option ImageSegment) → page_of_segment s 0 ≡ None → MayLeaveSegment s i → page_of_image i 0 ≡ None
none_left None None none left = refl
none_left None (Some i) none left = absurd left
none_left (Some s) None none left = absurd left
none_left (Some s) (Some i) none left = elim (cases_Bool (nat_lt 0 s.pages)) [
  | inl inside ↦ (let there = rw inside at none in
      absurd (cc there))
  | inr outside ↦ ap (λ (n : ℕ). if nat_lt 0 n then Some (i.page 0) else None) left.0 ∙ rw outside refl
]

-- ---- the log behind the syncs

module _ (size count : ℕ) (valid : IsSegmentSize size) (before : DiskState) (whole : HavePageBytes before) (there : AreAllThere size before count) where
  abbrev synced : DiskState
  synced = after_calls before (sync_calls size (range_with_len 1 count))

  abbrev n : ℕ
  n = pages_of size

  abbrev beyond : ℕ
  beyond = (count + 1) * n

  read_synced : (segment page : ℕ) → page_of_segment (synced segment) page ≡ page_of_segment (before segment) page
  read_synced segment page = reads_spared segment page (sync_calls size (range_with_len 1 count)) before (syncs_spare size segment page (range_with_len 1 count))

  module _ (image : DiskImage) (left : MayLeave synced image) where
    page_left : (segment page : ℕ) → IsAmong count segment → page_of_image (image_as_read before segment) page ≡ page_of_image (image segment) page
    page_left segment page among =
        let own = subst (λ (o : Option (List ℕ)). IfSome o (λ bytes. length bytes ≡ 8192)) (sym (read_synced segment page)) (whole segment page) in
        let same = segment_left (synced segment) (image segment) page (silent_first segment size count among.0 among.1 before) own (left segment) in
        read_here (before segment) segment page ∙ sym (same ∙ read_synced segment page)

    pages_same : (page : ℕ) → n ≤ page → page < beyond → pages_in size (image_as_read before) page ≡ pages_in size image page
    pages_same page low high =
        let bounds = segment_size_in_pages size valid in
        let positive : 0 < n = omega (arith, bounds.1) in
        let first : 1 ≤ page / n = (le-div_iff_mul-le positive).1 (omega (arith, low)) in
        let last : page / n < count + 1 = (div-lt_iff_lt-mul positive).1 high in
        ap (λ (here : Option (List ℕ)). if nat_le ((page + 1) * 8192) (2 ^ 60) then here else None) (page_left (page / n) (page % n) (first, omega (arith, last)))

    -- the page behind them ends above address 2 ^ 60, or it is not there
    beyond_is : (beyond / n ≡ count + 1) × (beyond % n ≡ 0)
    beyond_is =
        let bounds = segment_size_in_pages size valid in
        let positive : 0 < n = omega (arith, bounds.1) in
        let plain : (count + 1) * n + 0 ≡ (count + 1) * n = omega arith in
        (ap (λ (p : ℕ). p / n) (sym plain) ∙ div-mul-add (count + 1) n 0 positive, ap (λ (p : ℕ). p % n) (sym plain) ∙ mod-mul-add (count + 1) n 0 positive)

    low_segment : (beyond + 1) * 8192 ≤ 2 ^ 60 → count + 1 < 2 ^ 60 / size
    low_segment low =
        let bounds = segment_size_in_pages size valid in
        let power = segment_size_is_power size valid in
        let k = power.0 in
        let rest = 2 ^ (60 - k) in
        let split : 60 ≡ 60 - k + k = omega (arith, power.2) in
        let parts : 2 ^ 60 ≡ rest * size = ap (λ (j : ℕ). 2 ^ j) split ∙ pow-add 2 (60 - k) k ∙ ap (λ (s : ℕ). rest * s) (sym power.3) in
        let positive : 0 < size = omega (arith, bounds.0, bounds.1) in
        let product : (count + 1) * size ≡ 8192 * ((count + 1) * n) = ap (λ (s : ℕ). (count + 1) * s) bounds.0 ∙ omega arith in
        let less : count + 1 < rest = elim (cases_lt (count + 1) rest) [
          | inl below ↦ below
          | inr above ↦
              (let more : rest * size ≤ (count + 1) * size = mul-le-mul_right size (omega (arith, above)) in
              absurd (omega (arith, more, parts, product, low)))
        ] in
        let most : (count + 2) * size ≤ rest * size = mul-le-mul_right size (omega (arith, less)) in
        let upto : count + 2 ≤ 2 ^ 60 / size = (le-div_iff_mul-le positive).1 (omega (arith, most, parts)) in
        omega (arith, upto)

    none_beyond : (any : DiskImage) → ((beyond + 1) * 8192 ≤ 2 ^ 60 → page_of_image (any (count + 1)) 0 ≡ None) → pages_in size any beyond ≡ None
    none_beyond any none = elim (cases_Bool (nat_le ((beyond + 1) * 8192) (2 ^ 60))) [
      | inl low ↦
          (let is : page_of_image (any (beyond / n)) (beyond % n) ≡ None = rw (beyond_is.0, beyond_is.1) (none (leb-true ((beyond + 1) * 8192) (2 ^ 60) low)) in
          rw low is)
      | inr high ↦ rw high refl
    ]

    log_ends : pages_in size (image_as_read before) beyond ≡ None
    log_ends = none_beyond (image_as_read before) (λ low. read_here (before (count + 1)) (count + 1) 0 ∙ there.others (low_segment low))

    image_ends : pages_in size image beyond ≡ None
    image_ends = none_beyond image (λ low. none_left (synced (count + 1)) (image (count + 1)) (read_synced (count + 1) 0 ∙ there.others (low_segment low)) (left (count + 1)))

    decodes_left : (found : List FoundRecord) (at : Lsn) → Decodes size (pages_in size (image_as_read before)) size None found (answers.End at) → Decodes size (pages_in size image) size None found (answers.End at)
    decodes_left found at decodes =
        let bounds = segment_size_in_pages size valid in
        let segments : beyond * 8192 ≡ (count + 1) * size = sym (ap (λ (s : ℕ). (count + 1) * s) bounds.0 ∙ omega arith) in
        let first : n ≤ beyond = omega (arith, mul-le-mul_right n (one_more count)) in
        decodes_alike size valid n count beyond segments (pages_in size (image_as_read before)) (pages_in size image) pages_same log_ends image_ends size refl first found at decodes
      where
        one_more : (count : ℕ) → 1 ≤ count + 1
        one_more count = omega arith

-- ---- on the tape

-- a crash behind the last call leaves what the state then may leave
left_now : (t : Tape) (m : ℕ) (image : DiskImage) → length t.calls ≤ m → LeftAt t m image → MayLeave (state_now t) image
left_now t m image behind left =
    elim (left_moved t.at_first image (take m t.calls) t.calls (slice_get t.calls m) None (take_all m t.calls behind) (slice_get_past t.calls m behind) left) [
      | inl now ↦ now
      | inr none ↦ absurd none
    ]

pub LeavesList-synced : (size count : ℕ) → IsSegmentSize size → (old new : Option Tape) (m0 m1 : ℕ) → IfSome old (λ t. m0 ≡ length t.calls) → IfSome old (λ t. AreAllThere size (state_now t) count) → MakesCalls old new m0 m1 (λ _. sync_calls size (range_with_len 1 count))
    → LeavesRead size old new (m0 + count)
LeavesList-synced size count valid None new m0 m1 counts there makes = tt
LeavesList-synced size count valid (Some t) new m0 m1 counts there makes = λ whole. subst (λ (o : Option Tape). IfSome o (LeavesList size (state_now t) (m0 + count))) (sym grown) (leaves whole)
  where
    syncs : List Call
    syncs = sync_calls size (range_with_len 1 count)

    grown : new ≡ Some (record t { calls = t.calls ++ syncs })
    grown = makes.made.tape ∙ ap (with_calls (Some t)) makes.are ∙ with_calls-some t syncs

    leaves : HavePageBytes (state_now t) → LeavesList size (state_now t) (m0 + count) (record t { calls = t.calls ++ syncs })
    leaves whole found at decodes m image later left =
        let many : length (t.calls ++ syncs) ≡ m0 + count = omega (arith, length-append t.calls syncs, counts, length-map (range_with_len 1 count) (sync_call size), length-range_with_len 1 count) in
        let now = left_now (record t { calls = t.calls ++ syncs }) m image (omega (arith, many, later)) left in
        let may : MayLeave (after_calls (state_now t) syncs) image = subst (λ (s : DiskState). MayLeave s image) (after_calls-append t.at_first t.calls syncs) now in
        decodes_left size count valid (state_now t) whole there image may found at decodes
