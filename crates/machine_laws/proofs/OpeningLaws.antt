-- A log begins, or goes on behind what was none, in a state that keeps the invariant: each part by
-- itself.
use Rattle.std.proofs.Common.{◌≡◌, ◌≢◌, ℕ, zero, suc, ◌+◌, ◌-◌, ◌*◌, ◌/◌, ◌%◌, ◌<◌, ◌≤◌, Bool, true, false, List, [], ◌∷◌, length, take, Option, Some, None, IfSome, nat_lt, if◌then◌else◌, refl, sym, ap, ◌∙◌, subst, inl, inr, arith}
use Rattle.std.specs.Int.{w64, to_le_bytes}
use Rattle.std.proofs.lemmas.Bool.{cases_eq, le-ltb, lt-ltb}
use Rattle.std.specs.List.{Contains}
use Rattle.std.specs.Option.{IsSomeAnd}
use Rattle.std.proofs.lemmas.List.{drop_all}
use Rattle.std.proofs.lemmas.List.Elements.{All-nil}
use Rattle.std.proofs.Math.Nat.{mod-lt}
use mathlib.Core.Option.{some, some-injective, some-ne-none}
use Rattle.byte_position.specs.Position.{first_position}
use Rattle.byte_position.specs.Geometry.{pages_of}
use Rattle.byte_position.proofs.SegmentSizes.{segment_size_in_pages}
use Rattle.wal_page.specs.EntryWords.{address_of_word}
use Rattle.wal_page.specs.Order.{Entry}
use Rattle.wal_page.proofs.WordPositions.{end_address_of-first_position}
use Rattle.wal_page.proofs.PlaceLaws.{word_from-before, word_from-behind}
use Rattle.byte_position.proofs.EndAddresses.{end_address_of-mono}
use Rattle.byte_position.proofs.Words.{end_address_of-mod_word}
use Rattle.machine_state.specs.declared.setup.Setup.{Setup}
use Rattle.machine_state.specs.Words.{end_form, order_end, Opening, position_word, prev_word, lock_word, mapping_turn, write_turn, initialised_word, written_word, flushed_word, moment_word, down_word, end_word, word_of_ring, async_word, found_end, found_position, mapping_turn_number, write_turn_number, lock_number}
use Rattle.machine_state.specs.Views.{HasAt, Plain, Away, Landed, Copying, IsLoadedLast, Out, AreSomeOf, View, mapper_of, receipts_of, writer_of}
use Rattle.machine_state.specs.Opened.{AreFirstWords, IsFirstWriter, IsOpenable, first_view}
use Rattle.machine_state.specs.Ordered.{HasLive, IsUnused, OrderHolds, Role, active, spare, ended, unborn}
use Rattle.machine_state.specs.Locked.{LocksHold, ProgressHolds, StandsAlone, SwitchesStandAlone, most_told}
use Rattle.machine_state.specs.Ringed.{RingHolds, IsOfOrder, log_word_of, log_bytes_of}
use Rattle.machine_state.specs.Paged.{PagesHold}
use Rattle.machine_state.specs.Watched.{IsCopiedToBound, WatchHolds}
use Rattle.machine_state.specs.Positioned.{PositionsHold}
use Rattle.machine_state.specs.Growing.{AllOnlyAdd, IsZeroOr}
use Rattle.machine_state.specs.Reading.{IsLoadedRightly, ReadingHolds}
use Rattle.machine_laws.proofs.AloneBehind.{landed_alone}
use Rattle.machine_laws.proofs.Buffers.{one_page}
use Rattle.machine_state.specs.Durable.{DurabilityHolds, one_if_some, IsToldRightly, IsLawfulAt, IsLogBelow}
use Rattle.segment_disk.specs.DiskImage.{image_as_read, word_of}
use Rattle.segment_disk.specs.declared.disk.Call.{Call}
use Rattle.segment_disk.specs.Tape.{DiskState, Segment, Tape, after_calls, page_as_read, state_at, state_now}
use Rattle.std.proofs.Math.Seq.{take-length}
use Rattle.flush_core.specs.Pages.{HoldsNothing}
use Rattle.machine_state.specs.Suited.{BeganSuited, IsLogAt, IsSuited, tape_from}
use Rattle.segment_disk.specs.ImageWords.{segment_word, zero_word}
use Rattle.flush_core.proofs.LeftLaws.{read_word}
use Rattle.machine_laws.proofs.SegmentStates.{SegmentAssures-weaker}
use Rattle.segment_disk.specs.Assured.{IsMadeUpto, IsNowhere, SegmentAssures}
use Rattle.flush_core.proofs.LeftLaws.{TapeAssures-now}
use Rattle.std.proofs.lemmas.Option.{IfSome_then}
use Rattle.std.proofs.Math.Nat.{div-lt_iff_lt-mul}
use Rattle.std.proofs.lemmas.Nat.{div-add-mod'}
use Rattle.machine_state.specs.Async.{AsyncHolds}
use Rattle.machine_state.specs.Aligned.{AlignmentHolds, LearnsAligned}
use Rattle.machine_state.specs.Sound.{IsSetup, IsSound}
use Rattle.machine_state.proofs.Tapes.{counted_tape}
use Rattle.machine_laws.proofs.DurableSegments.{found_in_turn}

-- what holds of the one element of a list holds of each
only_one : {A : Type 0} (x : A) (P : ℕ → A → Type 0) → P 0 x → (id : ℕ) (y : A)
    → HasAt (x ∷ []) id y → P id y
only_one x P here zero y e = subst (P 0) (some-injective x y e) here
only_one x P here (suc id) y e = absurd (some-ne-none y (sym e))

module _ (opening : Opening) (words : List ℕ) (writer : Plain) (log : IsOpenable opening)
    (zeroed : AreFirstWords opening words) (begins : IsFirstWriter opening writer) where
  abbrev setup : Setup
  setup = opening.setup

  abbrev valid : IsSetup setup
  valid = log.setup_is

  -- nothing is reserved yet
  abbrev none : List Entry
  none = []

  abbrev end : ℕ
  end = found_end opening

  -- an order of nothing ends at the place
  none_ends : order_end opening none ≡ found_position opening
  none_ends = omega arith

  none_ends_there : end_form setup (order_end opening none) ≡ end
  none_ends_there = ap (end_form setup) none_ends

  abbrev view : View
  view = first_view opening

  -- number 0 is the first pass's, and it may give away the others
  role : ℕ → Role
  role zero = active 0
  role (suc n) = if nat_lt (suc n) setup.passes then spare 0 else unborn

  role_spare : (n : ℕ) → 1 ≤ n → n < setup.passes → role n ≡ spare 0
  unfolding role
  role_spare zero low high = absurd (omega arith)
  role_spare (suc n) low high = rw (lt-ltb (suc n) setup.passes high) refl

  role_beyond : (n : ℕ) → setup.passes ≤ n → role n ≡ unborn
  unfolding role
  role_beyond zero high = let low = valid.passes_low in absurd (omega arith)
  role_beyond (suc n) high = rw (le-ltb (suc n) setup.passes high) refl

  -- the others are nobody's, and not ended
  nobody : (n : ℕ) (q : Role) → role (suc n) ≡ q → IsUnused q
  unfolding role
  nobody n q is = subst (λ (x : Role). IsUnused x) is (either (nat_lt (suc n) setup.passes))
    where
      either : (b : Bool) → IsUnused (if b then spare 0 else unborn)
      either true = tt
      either false = tt

  role_active : (n id : ℕ) → role n ≡ active id
      → HasLive (view.reserving ∷ []) id (λ r. r.number ≡ n)
  unfolding role
  role_active zero id is =
      let same : 0 ≡ id = cc in (
        view.reserving,
        subst (λ (i : ℕ). HasAt (view.reserving ∷ []) i view.reserving) same refl,
        refl,
        refl,
      )
  role_active (suc n) id is = absurd (nobody n (active id) is)

  none_ended : (n id : ℕ) → role n ≡ ended id → ⊥
  unfolding role
  none_ended zero id is = cc
  none_ended (suc n) id is = nobody n (ended id) is

  pub order_begins : OrderHolds opening none (position_word words) (prev_word words)
      (view.reserving ∷ [])
  unfolding role
  order_begins = record {
    role = role;
    locked = 0;
    holder = 0;
    keeper = 0;
    placed = log.placed;
    owned = All-nil _;
    chained = tt;
    within = omega (arith, none_ends, log.within);
    position_is = omega (arith, none_ends, zeroed.position);
    one_bit = omega arith;
    at_rest = λ free. zeroed.prev;
    unused = λ n unused. refl;
    beyond = role_beyond;
    views = only_one view.reserving _ (λ live. record {
      own = refl;
      entries_are = refl;
      spares = role_spare;
      seen = omega arith;
      stops = All-nil _;
      joined = All-nil _;
      apart = λ i j d low high. absurd (omega (arith, high));
    });
    places = only_one view.reserving _ (λ live. tt);
    spares = only_one view.reserving _ (λ live some_spare. refl);
    goes_by = role_active;
    took_in = λ n id is. absurd (none_ended n id is);
    held = λ locked. absurd (omega (arith, locked));
  }

  lock_zero : (i : ℕ) → i < 8 → lock_word words i ≡ 0
  lock_zero i below = zeroed.zeros (lock_number i) (omega arith) (omega arith)

  pub locks_begin : LocksHold (lock_word words) (view.working ∷ []) (mapping_turn words) Away
      (mapper_of view ∷ []) (write_turn words) (some writer) writer (writer_of view ∷ [])
  locks_begin = record {
    locks = record {
      holder = λ i. 0;
      each = λ id i w at. only_one view.working (λ j u. Contains u.locks i → (i < 8) × (0 ≡ j) ×
          (lock_word words i ≢ 0)) (λ has. let none = has.1 in absurd (omega arith)) id w at;
      held = λ i below taken. absurd (taken (lock_zero i below));
      under = λ id w c at. only_one view.working (λ j u. u.flight ≡ Copying c
          → AreSomeOf c.locks u.locks) (λ is. absurd (cc)) id w at;
    };
    mapping = record {
      holder = 0;
      each = only_one (mapper_of view) _ (λ has. absurd has);
      held = λ taken. absurd (taken (zeroed.zeros mapping_turn_number (omega arith) (omega arith)));
      free = λ z. refl;
    };
    writing = record {
      holder = 0;
      each = only_one (writer_of view) _ tt;
      held = λ taken. absurd (taken (zeroed.zeros write_turn_number (omega arith) (omega arith)));
      free = λ z. refl;
    };
  }

  progress_begins : ProgressHolds setup.seg_size (end_form setup (order_end opening none))
      (lock_word words) (view.working ∷ [])
  progress_begins = λ id i w at. only_one view.working
      (λ j u. Contains u.locks i → lock_word words i
      ≤ most_told setup.seg_size (end_form setup (order_end opening none)) i u.flight)
      (λ has. let none = has.1 in absurd (omega arith)) id w at

  alone_begins : SwitchesStandAlone setup.seg_size (view.working ∷ [])
  alone_begins = only_one view.working (λ j u. StandsAlone setup.seg_size u.flight)
      (landed_alone setup.seg_size)

  -- how many pages lie below the one in which the log that was none ends, and the first page
  -- behind the ring's
  abbrev low : ℕ
  low = end / 8192

  abbrev reach : ℕ
  reach = low + setup.ring_pages

  -- the log ends at a word, behind where it begins
  end_aligned : end % 8 ≡ 0
  end_aligned = end_address_of-mod_word setup.seg_size valid.size (found_position opening)
      log.placed.whole

  end_high : setup.seg_size ≤ end
  end_high =
      let up : first_position setup.seg_size ≤ found_position opening =
      omega (arith, log.placed.from) in
      let start = end_address_of-first_position setup.seg_size valid.size in
      let rises = end_address_of-mono setup.seg_size valid.size
      (first_position setup.seg_size) (found_position opening) up in
      omega (arith, start, rises)

  -- the log's words in memory
  abbrev memory : ℕ → ℕ
  memory k = log_word_of opening none (8 * k)

  -- behind its end, and below its start, there is none
  none_behind : (k : ℕ) → end ≤ 8 * k → memory k ≡ 0
  none_behind k behind = word_from-behind setup.seg_size setup.sysid valid.size opening.place
      none tt (8 * k) (omega (arith, none_ends_there, behind))

  none_before : (k : ℕ) → 8 * k < setup.seg_size → memory k ≡ 0
  none_before k before = word_from-before setup.seg_size setup.sysid valid.size opening.place
      log.placed none (8 * k) before

  ring_begins : RingHolds opening none reach memory (Landed ∷ [])
  ring_begins = record {
    in_flight = λ id c at. only_one Landed
        (λ j u. u ≡ Copying c → IsOfOrder opening none c) (λ is. absurd (cc)) id
        (Copying c) at refl;
    alone = λ i j c d at. only_one Landed
        (λ n u. u ≡ Copying c → HasAt (Landed ∷ []) j (Copying d)
        → (c.entry).start ≡ (d.entry).start → i ≡ j) (λ is. absurd (cc)) i (Copying c) at refl;
    words = λ k. inl refl;
    ahead = λ k behind from to.
        let ring = valid.ring_low in absurd (omega (arith, none_ends_there, to));
  }

  page_is : (p : ℕ) → low ≤ p → p < reach
      → end_word words (p % setup.ring_pages) ≡ (p + 1) * 8192
  page_is p from to =
      let some_page : 0 < setup.ring_pages = (let ring = valid.ring_low in omega arith) in
      let held = zeroed.ends (p % setup.ring_pages) (mod-lt p some_page) in
      let same : held.page ≡ p = elim (cases_eq held.page p) [
        | inl is ↦ is
        | inr apart ↦ absurd (one_page setup.ring_pages low reach held.page p
            (omega arith) held.from held.to from to apart held.place)
      ] in
      held.end_is ∙ ap (λ (q : ℕ). (q + 1) * 8192) same

  pages_begin : PagesHold setup.ring_pages reach Away (initialised_word words)
      (written_word words) (end_word words) (word_of_ring setup words) memory (0 ∷ [])
  pages_begin =
      record {
        low = low;
        some_page = (let ring = valid.ring_low in omega arith);
        given_up = (let written = zeroed.written in omega arith);
        present = page_is;
        content = λ p j from to within. zeroed.ring p j from to within;
        held = λ b below. inr (zeroed.ends b below);
        blank = λ k behind. none_behind k
            (let ring = valid.ring_low in omega (arith, behind, ring));
        seen = only_one 0 (λ id c. c ≤ reach * 8192) (omega arith);
        mapping = (refl, zeroed.initialised);
      }

  watching_begins : WatchHolds setup.seg_size (end_form setup (order_end opening none)) (view.working ∷ []) (view.watching ∷ [])
  watching_begins = record {
    reserved = only_one view.watching (λ id x. (x.end ≤ end_form setup (order_end opening none)) × (x.bound ≤ x.end))
        (omega arith, omega arith);
    behind = λ id j x w at there. only_one view.watching
        (λ i y. IsCopiedToBound setup.seg_size y w)
        (λ c is under starts. omega arith) id x at;
  }

  -- the log begins at a word
  aligned_begins : AlignmentHolds (lock_word words) (written_word words) (flushed_word words)
      writer (view ∷ [])
  aligned_begins =
      let aligned = end_aligned in
      let written = zeroed.written in
      let flushed = zeroed.flushed in
      let at = begins.written in record {
        locks = λ i low. inl (lock_zero i low);
        written_word = omega arith;
        flushed_word = omega arith;
        writer_at = omega arith;
        views = only_one view (λ id v. LearnsAligned v) (record {
          seen = refl;
          end = refl;
          bound = refl;
          written = refl;
          flushed = refl;
          known = tt;
        });
      }

  async_begins : AsyncHolds (async_word setup words) (end_form setup (order_end opening none))
      (0 ∷ [])
  async_begins =
      let aligned = end_aligned in
      let begins_at = zeroed.async in record {
        reserved = omega (arith, none_ends_there);
        aligned = omega arith;
        met = only_one 0 (λ id n. (n ≤ async_word setup words) × (n % 8 ≡ 0)) (omega arith, refl);
      }

  -- what was there at the opening is there still
  suited_now : (t : Tape) → writer.moment ≡ length t.calls → BeganSuited opening t
      → IsSuited opening (state_now t)
  suited_now t count suited =
      let all : take opening.moment t.calls ≡ t.calls =
      ap (λ (m : ℕ). take m t.calls) (sym begins.moment_is ∙ count) ∙ take-length t.calls in
      subst (λ (calls : List Call). IsSuited opening (after_calls t.at_first calls)) all suited

  abbrev WasMade : ℕ → Type 0
  WasMade segment = (1 ≤ segment) × (segment ≤ opening.made)

  abbrev Holds : ℕ → Option Segment → Type 0
  Holds n o = SegmentAssures setup.seg_size WasMade (IsLogAt opening none) n o

  -- the segments that have bytes of it were made
  made_below : (n upto : ℕ) → upto ≡ end → IsMadeUpto setup.seg_size upto n → WasMade n
  made_below n upto is made =
      let high = end_high in
      let within = log.reaches in
      let some_size : 0 < setup.seg_size
      = (let pages = segment_size_in_pages setup.seg_size valid.size in
      omega (arith, pages.0, pages.1)) in
      let quotient : (upto - 1) / setup.seg_size < opening.made + 1
      = (div-lt_iff_lt-mul some_size).1 (omega arith) in
      (made.0, omega (arith, made.1, quotient))

  -- so the log is durable up to there
  firm_now : (upto : ℕ) → upto ≡ end → (t : Tape) → IsSuited opening (state_now t) → (n : ℕ)
      → SegmentAssures setup.seg_size (IsMadeUpto setup.seg_size upto)
      (IsLogBelow opening none upto) n (state_now t n)
  firm_now upto is t suited n = SegmentAssures-weaker setup.seg_size WasMade
      (IsMadeUpto setup.seg_size upto) (IsLogAt opening none) (IsLogBelow opening none upto) n
      (λ made. made_below n upto is made) (λ page word within low bytes own below. own)
      (state_now t n) (suited n)

  lawful_now : (t : Tape) → IsSuited opening (state_now t) → (n : ℕ)
      → SegmentAssures setup.seg_size IsNowhere (IsLawfulAt opening none) n (state_now t n)
  lawful_now t suited n = SegmentAssures-weaker setup.seg_size WasMade IsNowhere
      (IsLogAt opening none) (IsLawfulAt opening none) n (λ nowhere. absurd nowhere)
      (λ page word within low bytes own. inr own) (state_now t n) (suited n)

  there_now : (n : ℕ) (o : Option Segment) → Holds n o → WasMade n
      → IsSomeAnd o (λ (s : Segment). s.pages ≡ pages_of setup.seg_size)
  there_now n None holds made = absurd (holds made)
  there_now n (Some s) holds made = holds.0

  -- as it is read, the disk holds the log in each segment that is there
  read_there : (k : ℕ) (s : Segment) → Holds (8 * k / setup.seg_size) (Some s)
      → segment_word (image_as_read (λ (n : ℕ). Some s) 0) (8 * k % setup.seg_size)
      ≡ log_bytes_of opening none (8 * k)
  read_there k s holds =
      let size = setup.seg_size in
      let whole = segment_size_in_pages size valid.size in
      let n = 8 * k / size in
      let offset = 8 * k % size in
      let page = offset / 8192 in
      let word = offset % 8192 / 8 in
      let some_size : 0 < size = omega (arith, whole.0, whole.1) in
      let within : offset < size = mod-lt (8 * k) some_size in
      let parts : n * size + offset ≡ 8 * k = div-add-mod' (8 * k) size in
      let product : n * size ≡ n * (8192 * pages_of size) = ap (λ (m : ℕ). n * m) whole.0 in
      let on_page : page < pages_of size = omega (arith, whole.0) in
      let small : word < 1024 = omega arith in
      let there : page < s.pages = omega (arith, on_page, holds.0) in
      let at : (n * pages_of size + page) * 8192 + 8 * word ≡ 8 * k
      = omega (arith, parts, product) in
      let bytes = word_of (page_as_read s page) word in
      ap (λ (b : Bool). if b then bytes else zero_word) (lt-ltb page s.pages there)
      ∙ holds.1 page word on_page small bytes
      (read_word s.writes page word (s.durable page) bytes refl)
      ∙ ap (log_bytes_of opening none) at

  -- as it is read, the disk holds the log below its end
  reads_now : (k : ℕ) → 8 * k < end → (o : Option Segment)
      → Holds (8 * k / setup.seg_size) o
      → segment_word (image_as_read (λ (n : ℕ). o) 0) (8 * k % setup.seg_size)
      ≡ log_bytes_of opening none (8 * k)
  reads_now k below None holds =
      let size = setup.seg_size in
      let high = log.reaches in
      let some_size : 0 < size = (let pages = segment_size_in_pages size valid.size in
      omega (arith, pages.0, pages.1)) in
      let quotient : 8 * k / size < opening.made + 1
      = (div-lt_iff_lt-mul some_size).1 (omega arith) in
      let first : 8 * k / size ≡ 0 = elim (cases_eq (8 * k / size) 0) [
        | inl is ↦ is
        | inr other ↦ absurd (holds (omega arith, omega arith))
      ] in
      let before : 8 * k < 1 * size
      = (div-lt_iff_lt-mul some_size).0 (omega (arith, first)) in
      ap (to_le_bytes w64) (sym (none_before k (omega (arith, before))))
  reads_now k below (Some s) holds = read_there k s holds

  -- and nothing but zeros in each other one
  reads_at_most : (k : ℕ) (o : Option Segment) → Holds (8 * k / setup.seg_size) o
      → IsZeroOr (to_le_bytes w64 (log_word_of opening none (8 * k)))
      (segment_word (image_as_read (λ (n : ℕ). o) 0) (8 * k % setup.seg_size))
  reads_at_most k None holds = inl refl
  reads_at_most k (Some s) holds = inr (read_there k s holds)

  -- on a disk that held this at first
  module _ (first : DiskState) where
    counted : IfSome (tape_from first writer.calls) (λ t. writer.moment ≡ length t.calls)
    counted = counted_tape first writer.moment writer.calls begins.counted

    positions_begin : PositionsHold first opening none (written_word words) (flushed_word words)
        (down_word words) (some writer) writer (Landed ∷ []) (view.writing ∷ [])
    positions_begin =
        let written_is = zeroed.written in
        let flushed_is = zeroed.flushed in
        let high = end_high in
        let at_start = begins.written in
        record {
          begun = omega arith;
          flushed_low = omega arith;
          written_low = omega arith;
          at_home = λ home up. omega arith;
          reserved = omega (arith, none_ends_there, at_start);
          copied = λ id c at left. only_one Landed (λ j u. u ≡ Copying c
              → writer.written ≤ address_of_word setup.seg_size c.entry c.copied) (λ is. absurd
              (cc)) id (Copying c) at refl;
          reads = IfSome_then (tape_from first writer.calls) counted (λ t count suited k below.
              let held = suited_now t count suited in
              reads_now k (omega (arith, below, at_start))
              (state_now t (8 * k / setup.seg_size)) (held (8 * k / setup.seg_size)));
          views = only_one view.writing _ (record {
            written_met = omega arith;
            flushed_met = omega arith;
            known = λ l is. absurd (cc);
            stored = λ l is. absurd (cc);
          });
        }

    reading_begins : ReadingHolds first opening (λ k. log_word_of opening none (8 * k)) writer
        (view.writing ∷ [])
    reading_begins = record {
      adds = IfSome_then (tape_from first writer.calls) counted (λ t count suited.
          subst (λ (calls : List Call). AllOnlyAdd setup.seg_size
          (state_at t opening.moment) calls)
          (sym (drop_all opening.moment t.calls (omega (arith, count, begins.moment_is)))) tt);
      reads = IfSome_then (tape_from first writer.calls) counted (λ t count suited k.
          let held = suited_now t count suited in
          reads_at_most k (state_now t (8 * k / setup.seg_size))
          (held (8 * k / setup.seg_size)));
      staged = λ id x l at. only_one view.writing
          (λ j u. u.hold ≡ Out l → (k word : ℕ) → IsLoadedLast k word l.staged
          → IsLoadedRightly first opening (λ n. log_word_of opening none (8 * n)) writer k word)
          (λ is. absurd (cc)) id x at;
    }

    told_begins : IsToldRightly first opening none (flushed_word words) (moment_word words)
        (down_word words) writer (receipts_of view)
    told_begins = record {
      own_promised = All-nil _;
      joined_promised = All-nil _;
      own = IfSome_then (tape_from first writer.calls) counted (λ t count suited. All-nil _);
      joined = IfSome_then (tape_from first writer.calls) counted (λ t count suited. All-nil _);
      in_hand = λ l is. absurd (cc);
      down_met = λ some. absurd (some refl);
      down_set = λ some. absurd (some refl);
      up_in_hand = λ l is. absurd (cc);
    }

    durable_begins : DurabilityHolds first opening none (flushed_word words) (moment_word words)
        (down_word words) (some writer) writer (receipts_of view ∷ [])
    durable_begins = record {
      counted = begins.counted;
      moment_low = (let moment = zeroed.moment in let same = begins.moment_is in omega arith);
      begun = (let moment = zeroed.moment in omega arith);
      reached = (let written = begins.written in let made = begins.made in let high = log.reaches in
          let same : writer.made * setup.seg_size ≡ opening.made * setup.seg_size
          = ap (λ (n : ℕ). n * setup.seg_size) made in omega arith);
      made = found_in_turn opening writer begins.made (IfSome_then writer.calls begins.counted
          (λ calls count. sym begins.moment_is ∙ count));
      lawful = IfSome_then (tape_from first writer.calls) counted (λ t count suited.
          TapeAssures-now setup.seg_size IsNowhere (IsLawfulAt opening none) opening.moment t
          (sym begins.moment_is ∙ count)
          (lawful_now t (suited_now t count suited)));
      found_low = omega (arith, zeroed.flushed);
      found = IfSome_then (tape_from first writer.calls) counted (λ t count suited.
          TapeAssures-now setup.seg_size (IsMadeUpto setup.seg_size end)
          (IsLogBelow opening none end) opening.moment t (sym begins.moment_is ∙ count)
          (firm_now end refl t (suited_now t count suited)));
      firm = IfSome_then (tape_from first writer.calls) counted (λ t count suited.
          TapeAssures-now setup.seg_size
          (IsMadeUpto setup.seg_size (flushed_word words))
          (IsLogBelow opening none (flushed_word words)) (moment_word words) t
          (zeroed.moment ∙ sym begins.moment_is ∙ count)
          (firm_now (flushed_word words) zeroed.flushed t (suited_now t count suited)));
      on_disk = IfSome_then (tape_from first writer.calls) counted (λ t count suited. record {
        firm = λ n other. firm_now writer.written begins.written t (suited_now t count suited) n;
        there = λ n low high. there_now n (state_now t n) (suited_now t count suited n)
            (low, omega (arith, high, begins.made));
      });
      down_is = λ down. absurd (down zeroed.down);
      down_at_home = λ home up. begins.fault;
      set_once = sym (ap one_if_some zeroed.down);
      fault_rose = λ f is. absurd (some-ne-none f (sym is ∙ begins.fault));
      views = only_one (receipts_of view) _ told_begins;
    }

-- where nothing was none and no segment is there, a disk that holds nothing is one on which a log
-- may begin
pub suited_begins : (first : DiskState) (opening : Opening) (writer : Plain) → opening.made ≡ 0
    → IsFirstWriter opening writer → HoldsNothing (tape_from first writer.calls)
    → IfSome (tape_from first writer.calls) (BeganSuited opening)
suited_begins first opening writer none_made begins holds = both (tape_from first writer.calls)
    (counted_tape first writer.moment writer.calls begins.counted) holds
  where
    nothing_is : (o : Option Segment) (n : ℕ) → o ≡ None
        → SegmentAssures (opening.setup).seg_size
        (λ segment. (1 ≤ segment) × (segment ≤ opening.made))
        (IsLogAt opening []) n o
    nothing_is o n is = subst (SegmentAssures (opening.setup).seg_size
        (λ segment. (1 ≤ segment) × (segment ≤ opening.made))
        (IsLogAt opening []) n) (sym is) (λ made. omega (arith, made.0, made.1))

    both : (tape : Option Tape) → IfSome tape (λ t. writer.moment ≡ length t.calls)
        → HoldsNothing tape → IfSome tape (BeganSuited opening)
    both None count nothing = tt
    both (Some t) count nothing = λ n.
        let all : take opening.moment t.calls ≡ t.calls =
        ap (λ (m : ℕ). take m t.calls) (sym begins.moment_is ∙ count) ∙ take-length t.calls in
        nothing_is _ n
        (subst (λ (calls : List Call). after_calls t.at_first calls n ≡ None) (sym all) (nothing n))

pub logs_begin : (first : DiskState) (opening : Opening) (words : List ℕ) (writer : Plain)
    → IsOpenable opening
    → AreFirstWords opening words → IsFirstWriter opening writer
    → IsSound first opening words (some writer) (first_view opening ∷ [])
logs_begin first opening words writer log zeroed begins = record {
  order = [];
  memory = λ k. log_word_of opening [] (8 * k);
  reach = reach opening words writer log zeroed begins;
  stage = Away;
  writer = writer;
  setup_is = log.setup_is;
  wide = zeroed.wide;
  grounded = only_one (first_view opening) _ (record {
    opening_is = λ live. refl;
    watches = λ live. omega arith;
    at_rest = λ dead. absurd (cc);
    set_none = λ dead. absurd (cc);
    left = λ dead. absurd (cc);
  });
  reserved = order_begins opening words writer log zeroed begins;
  locks = locks_begin opening words writer log zeroed begins;
  progress = progress_begins opening words writer log zeroed begins;
  alone = alone_begins opening words writer log zeroed begins;
  ring = ring_begins opening words writer log zeroed begins;
  pages = pages_begin opening words writer log zeroed begins;
  positions = positions_begin opening words writer log zeroed begins first;
  durable = durable_begins opening words writer log zeroed begins first;
  reading = reading_begins opening words writer log zeroed begins first;
  watching = watching_begins opening words writer log zeroed begins;
  async = async_begins opening words writer log zeroed begins;
  aligned = aligned_begins opening words writer log zeroed begins;
  failed = λ down. absurd (down zeroed.down);
}
