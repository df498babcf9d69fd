-- What each call of the device puts, and what it leaves of the segments.
use Rattle.std.proofs.Common.{◌≡◌, ◌≢◌, ℕ, ◌+◌, ◌-◌, ◌*◌, ◌/◌, ◌%◌, ◌<◌, ◌≤◌, ◌⊎◌, inl, inr, All, Bool, true, false, List, Option, Some, None, if◌then◌else◌, refl, sym, ap, subst, ◌∙◌, arith}
use Rattle.std.specs.Int.{w64, to_le_bytes}
use Rattle.std.specs.Option.{IsSomeAnd}
use Rattle.std.proofs.lemmas.Bool.{cases_lt, lt-ltb}
use Rattle.std.proofs.lemmas.List.Elements.{All-contains}
use Rattle.std.proofs.lemmas.Nat.{div-mul-add, mod-mul-add}
use Rattle.std.proofs.Math.Nat.{div-lt_iff_lt-mul, le-div_iff_mul-le, mul-le-mul_right}
use mathlib.Core.Option.{none, some, some-injective, some-ne-none}
use Rattle.byte_position.specs.Geometry.{IsSegmentSize, pages_of}
use Rattle.byte_position.proofs.SegmentSizes.{segment_size_in_pages}
use Rattle.segment_disk.specs.declared.disk.Call.{Call}
use Rattle.segment_disk.specs.declared.disk.CallKind.TheVariants.{Create, Write, Sync}
use Rattle.segment_disk.specs.Tape.{DiskState, Segment, Tape, after_call, create_call, page_as_read, segment_after, state_now, sync_call, write_call}
use Rattle.segment_disk.specs.DiskImage.{DiskImage, ImageSegment, image_as_read, word_of}
use Rattle.segment_disk.specs.Assured.{CallFits, IsMadeUpto, IsNowhere, SegmentAssures}
use Rattle.flush_core.proofs.StateLaws.{after_each}
use Rattle.wal_page.specs.Order.{Entry}
use Rattle.segment_disk.specs.ImageWords.{image_word, segment_word, zero_word}
use Rattle.segment_disk.proofs.ZeroWords.{word_of-zero_page}
use Rattle.machine_state.specs.Ringed.{log_word_of, log_bytes_of}
use Rattle.machine_state.specs.Views.{Lent, Plain}
use Rattle.machine_state.specs.Moves.{CallOutcome, Done, Failed, after_create, after_sync, after_write}
use Rattle.machine_state.specs.Positioned.{ReadsBelow}
use Rattle.machine_state.specs.Durable.{IsLawfulAt, IsLogBelow, IsOnDisk, IsStaged}
use Rattle.machine_state.specs.Steps.{IsNextWrite}
use Rattle.machine_laws.proofs.LoadedLast.{loaded_there}
use Rattle.machine_laws.proofs.SegmentStates.{SegmentAssures-weaker}
use Rattle.machine_state.proofs.Tapes.{state_behind, tape_behind}
use Rattle.machine_state.specs.Words.{Opening}

-- ---- where a word stands

module _ (size : ℕ) (valid : IsSegmentSize size) (segment page word : ℕ)
    (within : page < pages_of size) (small : word < 1024) where
  abbrev address : ℕ
  address = (segment * pages_of size + page) * 8192 + 8 * word

  in_segment : address ≡ segment * size + (page * 8192 + 8 * word)
  in_segment =
      let whole = segment_size_in_pages size valid in
      let product : segment * size ≡ segment * (8192 * pages_of size) =
      ap (λ (m : ℕ). segment * m) whole.0 in
      omega arith

  pub segment_at : address / size ≡ segment
  segment_at =
      let whole = segment_size_in_pages size valid in
      ap (λ (a : ℕ). a / size) in_segment
      ∙ div-mul-add segment size (page * 8192 + 8 * word) (omega (arith, whole.0))

  pub offset_at : address % size ≡ page * 8192 + 8 * word
  offset_at =
      let whole = segment_size_in_pages size valid in
      ap (λ (a : ℕ). a % size) in_segment
      ∙ mod-mul-add segment size (page * 8192 + 8 * word) (omega (arith, whole.0))

  -- the word of an image at its address is that of its page
  pub image_word_at : (image : DiskImage) (i : ImageSegment) → image segment ≡ Some i
      → i.pages ≡ pages_of size → image_word size image address ≡ word_of (i.page page) word
  image_word_at image i is pages =
      let offset = page * 8192 + 8 * word in
      let there : offset / 8192 < i.pages = omega (arith, pages) in
      let own : offset / 8192 ≡ page = omega arith in
      let number : offset % 8192 / 8 ≡ word = omega arith in
      ap (λ (n : ℕ). segment_word (image n) (address % size)) segment_at
      ∙ ap (λ (s : Option ImageSegment). segment_word s (address % size)) is
      ∙ ap (segment_word (Some i)) offset_at
      ∙ ap (λ b. if b then word_of (i.page (offset / 8192)) (offset % 8192 / 8) else zero_word)
      (lt-ltb (offset / 8192) i.pages there)
      ∙ ap (λ (n : ℕ). word_of (i.page n) (offset % 8192 / 8)) own
      ∙ ap (word_of (i.page page)) number

module _ (opening : Opening) (valid : IsSegmentSize opening.setup.seg_size) (order : List Entry) where
  abbrev size : ℕ
  size = opening.setup.seg_size

  -- ---- what is put fits

  pub create_lawful : (segment : ℕ)
      → CallFits size (IsLawfulAt opening order) (create_call size segment)
  create_lawful segment = (refl, λ page word within small. inl (word_of-zero_page word small))

  -- a segment that is made lies above what is written
  above_written : (segment made a page word : ℕ) → segment ≡ made + 1 → a ≤ made * size + size
      → (segment * pages_of size + page) * 8192 + 8 * word < a → ⊥
  above_written segment made a page word next low below =
      let whole = segment_size_in_pages size valid in
      let product : segment * size ≡ segment * (8192 * pages_of size) =
      ap (λ (m : ℕ). segment * m) whole.0 in
      let up : segment * size ≡ (made + 1) * size = ap (λ (m : ℕ). m * size) next in
      omega arith

  pub create_below : (segment made a : ℕ) → segment ≡ made + 1 → a ≤ made * size + size
      → CallFits size (IsLogBelow opening order a) (create_call size segment)
  create_below segment made a next low = (
    refl,
    λ page word within small below.
        absurd (above_written segment made a page word next low below),
  )

  module _ (segment page upto : ℕ) (bytes : List ℕ) (l : Lent)
      (may : IsNextWrite opening.setup segment page upto bytes l)
      (staged : All (IsStaged opening order l.known) l.staged) where
    put_word : (n : ℕ) → n < 1024 → (value : ℕ) × (word_of bytes n ≡ to_le_bytes w64 value)
        × IsStaged opening order l.known ((segment * pages_of size + page) * 1024 + n, value)
    put_word n low =
        let found = may.loaded n low in
        let is = All-contains (IsStaged opening order l.known) l.staged _ staged
        (loaded_there ((l.writer).written / 8192 * 1024 + n) found.0 l.staged found.1) in (
          found.0,
          found.2,
          subst (λ (p : ℕ). IsStaged opening order l.known
              (p * 1024 + n, found.0)) (sym may.page_is) is,
        )

    at_number : (n : ℕ) → 8 * ((segment * pages_of size + page) * 1024 + n)
        ≡ (segment * pages_of size + page) * 8192 + 8 * n
    at_number n = omega arith

    pub write_lawful : CallFits size (IsLawfulAt opening order) (write_call size segment page bytes)
    write_lawful = (
      refl,
      may.on_segment,
      λ n low.
          let put = put_word n low in elim (put.2).lawful [
            | inl zeros ↦ inl (put.1 ∙ ap (to_le_bytes w64) zeros)
            | inr own ↦ inr (put.1 ∙ ap (to_le_bytes w64)
                (own ∙ ap (log_word_of opening order) (at_number n)))
          ],
    )

    pub write_below : (a : ℕ) → a ≤ l.known
        → CallFits size (IsLogBelow opening order a) (write_call size segment page bytes)
    write_below a under = (
      refl,
      may.on_segment,
      λ n low below.
          let put = put_word n low in
          put.1 ∙ ap (to_le_bytes w64)
          ((put.2).below (omega (arith, at_number n, below))
          ∙ ap (log_word_of opening order) (at_number n)),
    )

  -- ---- what a segment assures

  abbrev Assures : ℕ → ℕ → Option Segment → Type 0
  Assures written segment s = SegmentAssures size (IsMadeUpto size written)
      (IsLogBelow opening order written) segment s

  abbrev IsWhole : Option Segment → Type 0
  IsWhole s = IsSomeAnd s (λ s. s.pages ≡ pages_of size)

  -- a segment of zeros lies above what is written
  made_assures : (segment made written : ℕ) (done : Bool) (s : Option Segment)
      → segment ≡ made + 1 → written ≤ made * size + size
      → Assures written segment (segment_after (Create true) size done s)
  made_assures segment made written done s next low = (
    refl,
    λ page word within small found may below.
        absurd (above_written segment made written page word next low below),
  )

  made_whole : (done : Bool) (s : Option Segment)
      → IsWhole (segment_after (Create true) size done s)
  made_whole done s = refl

  -- ---- a create

  module _ (segment : ℕ) (w : Plain) (next : segment ≡ w.made + 1)
      (reached : w.written ≤ w.made * opening.setup.seg_size + opening.setup.seg_size) where
    creating : Bool → Bool → Call
    creating any done =
        record { geometry = size; segment = segment; kind = Create any; done = done }

    created : (any done : Bool) (state : DiskState) (s : ℕ) → Assures w.written s (state s)
        → Assures w.written s (after_call state (creating any done) s)
    unfolding creating
    created true done state s assures =
        after_each state (creating true done) (Assures w.written s) s
        (λ same. made_assures s w.made w.written done (state s) (same ∙ next) reached)
        (λ _. assures)
    created false done state s assures =
        after_each state (creating false done) (Assures w.written s) s (λ same. assures)
        (λ _. assures)

    created_whole : (any done : Bool) (state : DiskState) (s : ℕ)
        → (s ≡ segment → IsWhole (segment_after (Create any) size done (state s)))
        → (s ≢ segment → IsWhole (state s))
        → IsWhole (after_call state (creating any done) s)
    unfolding creating
    created_whole any done state s here elsewhere =
        after_each state (creating any done) IsWhole s here elsewhere

    pub on_disk_created : (outcome : CallOutcome) (t : Tape) → IsOnDisk opening order w t
        → IsOnDisk opening order (after_create segment (create_call size segment) outcome w)
        (tape_behind outcome (create_call size segment) t)
    unfolding creating
    on_disk_created Done t d = record {
      firm = λ s apart. subst (λ (state : DiskState). Assures w.written s (state s))
          (sym (state_behind t (create_call size segment)))
          (created true true (state_now t) s (d.firm s apart));
      there = λ s one upto. subst (λ (state : DiskState). IsWhole (state s))
          (sym (state_behind t (create_call size segment)))
          (created_whole true true (state_now t) s (λ _. made_whole true (state_now t s))
          (λ other. d.there s one (omega arith)));
    }
    on_disk_created (Failed faults none) t d = record { firm = d.firm; there = d.there }
    on_disk_created (Failed faults (some any)) t d = record {
      firm = λ s apart. subst (λ (state : DiskState). Assures w.written s (state s))
          (sym (state_behind t (creating any false)))
          (created any false (state_now t) s (d.firm s apart));
      there = λ s one upto. subst (λ (state : DiskState). IsWhole (state s))
          (sym (state_behind t (creating any false)))
          (created_whole any false (state_now t) s (λ same. absurd (omega arith))
          (λ _. d.there s one upto));
    }

  -- ---- a write

  whole_written : (page : ℕ) (bytes : _) (done : Bool) (s : Option Segment) → IsWhole s
      → IsWhole (segment_after (Write page bytes) size done s)
  whole_written page bytes done None whole = whole
  whole_written page bytes done (Some s) whole = whole

  module _ (segment page upto : ℕ) (bytes : List ℕ) (w : Plain)
      (page_is : segment * pages_of opening.setup.seg_size + page ≡ w.written / 8192)
      (on_segment : page < pages_of opening.setup.seg_size)
      (alone : (w.waiting ≡ none) ⊎ (w.waiting ≡ some segment)) (rises : w.written ≤ upto)
      (behind_start : w.written / 8192 * 8192 < upto)
      (within_page : upto ≤ (w.written / 8192 + 1) * 8192) where
    apart_before : (s : ℕ) → some segment ≢ some s → w.waiting ≢ some s
    apart_before s apart waits = elim alone [
      | inl nothing ↦ some-ne-none s (sym waits ∙ nothing)
      | inr own ↦ apart (sym own ∙ waits)
    ]

    -- all that is written behind what was lies on the page's segment
    fewer : (s : ℕ) → s ≢ segment → IsMadeUpto size upto s → IsMadeUpto size w.written s
    fewer s other made =
        let whole = segment_size_in_pages size valid in
        let product : segment * size ≡ segment * (8192 * pages_of size) =
        ap (λ (m : ℕ). segment * m) whole.0 in
        let some_size : 0 < size = omega (arith, whole.0, whole.1) in
        let next : (segment + 1) * size ≡ segment * size + size = omega arith in
        let last : (upto - 1) / size < segment + 1 =
        (div-lt_iff_lt-mul some_size).1 (omega (arith, whole.0, page_is, next)) in
        let lower : s + 1 ≤ segment = omega (arith, made.1) in
        let scaled : (s + 1) * size ≤ segment * size = mul-le-mul_right size lower in
        (made.0, (le-div_iff_mul-le some_size).1 (omega (arith, page_is)))

    raised : (s : ℕ) → s ≢ segment → (st : Option Segment) → Assures w.written s st
        → Assures upto s st
    raised s other st assures =
        SegmentAssures-weaker size (IsMadeUpto size w.written) (IsMadeUpto size upto)
        (IsLogBelow opening order w.written) (IsLogBelow opening order upto) s (fewer s other)
        (λ k word within small found is below.
        elim (cases_lt ((s * pages_of size + k) * 8192 + 8 * word) w.written) [
          | inl before ↦ is before
          | inr behind ↦
              (let number : s * pages_of size + k ≡ segment * pages_of size + page =
              omega (arith, page_is) in
              let count = pages_of size in
              absurd (other (sym (div-mul-add s count k within)
              ∙ ap (λ (m : ℕ). m / count) number
              ∙ div-mul-add segment count page on_segment)))
        ]) st assures

    writing : Bool → Call
    writing done = record {
      geometry = size;
      segment = segment;
      kind = Write page (record { bytes = bytes });
      done = done;
    }

    written_elsewhere : (a : ℕ) (done : Bool) (state : DiskState) (s : ℕ)
        → some segment ≢ some s → Assures a s (state s)
        → Assures a s (after_call state (writing done) s)
    unfolding writing
    written_elsewhere a done state s apart assures =
        after_each state (writing done) (Assures a s) s
        (λ same. absurd (apart (ap (λ (n : ℕ). some n) (sym same)))) (λ _. assures)

    written_whole : (done : Bool) (state : DiskState) (s : ℕ) → IsWhole (state s)
        → IsWhole (after_call state (writing done) s)
    unfolding writing
    written_whole done state s whole = after_each state (writing done) IsWhole s
        (λ _. whole_written page (record { bytes = bytes }) done (state s) whole) (λ _. whole)

    pub on_disk_written : (outcome : CallOutcome) (t : Tape) → IsOnDisk opening order w t
        → IsOnDisk opening order (after_write segment upto (write_call size segment page bytes)
        outcome w) (tape_behind outcome (write_call size segment page bytes) t)
    unfolding writing
    on_disk_written Done t d = record {
      firm = λ s apart. subst (λ (state : DiskState). Assures upto s (state s))
          (sym (state_behind t (write_call size segment page bytes)))
          (written_elsewhere upto true (state_now t) s apart
          (raised s (λ same. apart (ap (λ (n : ℕ). some n) (sym same))) (state_now t s)
          (d.firm s (apart_before s apart))));
      there = λ s one made. subst (λ (state : DiskState). IsWhole (state s))
          (sym (state_behind t (write_call size segment page bytes)))
          (written_whole true (state_now t) s (d.there s one made));
    }
    on_disk_written (Failed faults none) t d = record { firm = d.firm; there = d.there }
    on_disk_written (Failed faults (some any)) t d = record {
      firm = λ s apart. subst (λ (state : DiskState). Assures w.written s (state s))
          (sym (state_behind t (writing false)))
          (written_elsewhere w.written false (state_now t) s apart
          (d.firm s (apart_before s apart)));
      there = λ s one made. subst (λ (state : DiskState). IsWhole (state s))
          (sym (state_behind t (writing false)))
          (written_whole false (state_now t) s (d.there s one made));
    }

  -- ---- a sync

  whole_synced : (done : Bool) (s : Option Segment) → IsWhole s
      → IsWhole (segment_after Sync size done s)
  whole_synced done None whole = whole
  whole_synced true (Some s) whole = whole
  whole_synced false (Some s) whole = whole

  assures_unsynced : (a segment : ℕ) (s : Option Segment) → Assures a segment s
      → Assures a segment (segment_after Sync size false s)
  assures_unsynced a segment None assures = assures
  assures_unsynced a segment (Some s) assures = assures

  module _ (segment : ℕ) (w : Plain) (waits : w.waiting ≡ some segment)
      (reached : w.written ≤ w.made * opening.setup.seg_size + opening.setup.seg_size) where
    module _ (t : Tape) (d : IsOnDisk opening order w t)
        (sized : (s : ℕ) → SegmentAssures opening.setup.seg_size IsNowhere (IsLawfulAt opening order) s
        (state_now t s))
        (reads : ReadsBelow opening order w.written (state_now t)) where
      all_made : (s : ℕ) → IsMadeUpto size w.written s → IsWhole (state_now t s)
      all_made s made =
          let whole = segment_size_in_pages size valid in
          let some_size : 0 < size = omega (arith, whole.0, whole.1) in
          let next : (w.made + 1) * size ≡ w.made * size + size = omega arith in
          let last : (w.written - 1) / size < w.made + 1 =
          (div-lt_iff_lt-mul some_size).1 (omega arith) in
          d.there s made.0 (omega (arith, made.1))

      by_state : (s : ℕ) (st : Option Segment) → state_now t s ≡ st
          → Assures w.written s (segment_after Sync size true st)
      by_state s None is = λ made. subst IsWhole is (all_made s made)
      by_state s (Some sg) is =
          let pages = (subst (SegmentAssures size IsNowhere (IsLawfulAt opening order) s) is
          (sized s)).0 in
          let image = image_as_read (state_now t) in
          let there : image s ≡ Some (record { pages = sg.pages; page = page_as_read sg }) =
          ap (λ (st : Option Segment). image_as_read (λ (n : ℕ). st) s) is in (
            pages,
            λ page word within small found may below. elim may [
              | inl read ↦
                  (let k = (s * pages_of size + page) * 1024 + word in
                  let at : 8 * k ≡ (s * pages_of size + page) * 8192 + 8 * word = omega arith in
                  let own = subst (λ (a : ℕ). image_word size image a
                  ≡ log_bytes_of opening order a) at (reads k (omega arith)) in
                  read ∙ sym (image_word_at size valid s page word within small image
                  (record { pages = sg.pages; page = page_as_read sg }) there pages) ∙ own)
              | inr nothing ↦ absurd nothing
            ],
          )

      syncing : Bool → Call
      syncing done = record { geometry = size; segment = segment; kind = Sync; done = done }

      synced_whole : (done : Bool) (s : ℕ) → IsWhole (state_now t s)
          → IsWhole (after_call (state_now t) (syncing done) s)
      unfolding syncing
      synced_whole done s whole = after_each (state_now t) (syncing done) IsWhole s
          (λ _. whole_synced done (state_now t s) whole) (λ _. whole)

      pub on_disk_synced : (outcome : CallOutcome)
          → IsOnDisk opening order (after_sync (sync_call size segment) outcome w)
          (tape_behind outcome (sync_call size segment) t)
      unfolding syncing
      on_disk_synced Done = record {
        firm = λ s _. subst (λ (state : DiskState). Assures w.written s (state s))
            (sym (state_behind t (sync_call size segment)))
            (after_each (state_now t) (sync_call size segment) (Assures w.written s) s
            (λ _. by_state s (state_now t s) refl)
            (λ other. d.firm s (λ still. other (some-injective s segment (sym still ∙ waits)))));
        there = λ s one made. subst (λ (state : DiskState). IsWhole (state s))
            (sym (state_behind t (sync_call size segment)))
            (synced_whole true s (d.there s one made));
      }
      on_disk_synced (Failed faults none) = record { firm = d.firm; there = d.there }
      on_disk_synced (Failed faults (some any)) = record {
        firm = λ s apart. subst (λ (state : DiskState). Assures w.written s (state s))
            (sym (state_behind t (syncing false)))
            (after_each (state_now t) (syncing false) (Assures w.written s) s
            (λ _. assures_unsynced w.written s (state_now t s) (d.firm s apart))
            (λ _. d.firm s apart));
        there = λ s one made. subst (λ (state : DiskState). IsWhole (state s))
            (sym (state_behind t (syncing false)))
            (synced_whole false s (d.there s one made));
      }
