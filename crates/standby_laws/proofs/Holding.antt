-- A disk that holds nothing but words of one log since a moment, and what was promised of it: where
-- a crash comes, and where a process is killed.
use Rattle.std.proofs.Common.{◌≡◌, ℕ, ◌+◌, ◌-◌, ◌*◌, ◌/◌, ◌%◌, ◌^◌, ◌<◌, ◌≤◌, ◌⊎◌, true, false, is_some, List, [], length, take, drop, Option, Some, None, IfSome, inl, inr, refl, sym, ap, subst, ◌∙◌, arith, length-drop}
use Rattle.std.specs.Prelude.{IsSome, nat_lt, slice_get}
use Rattle.std.specs.List.{AllByRecursion}
use Rattle.std.proofs.lemmas.Bool.{lt-ltb}
use Rattle.std.proofs.lemmas.List.{drop_all, take_all}
use Rattle.std.proofs.lemmas.Option.{slice_get_past}
use Rattle.std.proofs.lemmas.Nat.{le-div}
use Rattle.std.proofs.Math.Nat.{div-mul-le_self}
use Rattle.std.proofs.Math.Seq.{take-length}
use Rattle.byte_position.specs.Geometry.{IsSegmentSize, pages_of}
use Rattle.byte_position.proofs.SegmentSizes.{segment_size_in_pages}
use Rattle.segment_disk.specs.Assured.{CallFits, DiskImageFits, IsMadeUpto, IsNowhere, SegmentAssures, SegmentFits, StateAssures, made_upto}
use Rattle.segment_disk.specs.declared.disk.Call.{Call}
use Rattle.segment_disk.specs.DiskImage.{DiskImage, ImageSegment, LeftAt, MayLeave, MayLeaveSegment, image_as_read}
use Rattle.segment_disk.specs.Tape.{DiskState, Segment, Tape, after_calls, page_of_segment, state_at, state_now}
use Rattle.flush_core.specs.Lawful.{IsLawful}
use Rattle.flush_core.specs.Left.{IsKeptWord}
use Rattle.flush_core.proofs.LeftLaws.{left_moved}
use Rattle.flush_core.specs.Settled.{AreThere, HaveWholePages, IsAmong}
use Rattle.flush_core.specs.SettledLog.{AreOnly, IsLogWord, IsZeroOrLogWord}
use Rattle.wal_page.specs.Order.{Entry}
use Rattle.written_log_laws.specs.SettledFound.{NothingWaits}
use Rattle.written_log_laws.proofs.ReadImages.{fits_lawful}
use Rattle.wal_stream.specs.FollowedLog.{IsLogOrder}
use Rattle.wal_stream.proofs.FollowedImages.{lawful_upto}
use Rattle.reopened_log_laws.specs.Again.{HasMadeInTurn, IsLeftByCrash}
use Rattle.reopened_log_laws.specs.StopsAt.{StopsAt, write_to}
use Rattle.reopened_log_laws.proofs.CutWrites.{left_as_read}
use Rattle.reopened_log_laws.proofs.LeftAgain.{left_whole}
use Rattle.reopened_log_laws.proofs.MadeSegments.{AreFirst, are_only, are_there, first_page, made_segments, on_image}
use Rattle.standby_laws.specs.History.{MayFollow, ReachesEntries}
use Rattle.standby_laws.proofs.AgainPages.{stands_read}
use Rattle.standby_laws.proofs.LogPages.{log_pages, page_word}
use Rattle.standby_laws.proofs.Moments.{AssuresSince, IsWhole, StaysWhole, assures_now, assures_stopped, assures_tape, drop_taken, next_keeps, runs_from, whole_now, whole_stopped}
use Rattle.standby_laws.proofs.Turns.{AreMadeInTurn, begun_in_turn, few_are_low, first_behind, stopped_turns}
use Rattle.standby_laws.proofs.Weaker.{TapeAssures-within, assures_within, calls_within}

-- ---- what holds

-- a disk has the segments from 1 to some number and no other; they end below address 2 ^ 60
pub record HasFirstSegments (size : ℕ) (t : Tape) : Type 0 where
  pub count : ℕ
  pub there : AreThere (state_now t) count
  pub only : AreOnly count (state_now t)
  pub low : count < 2 ^ 60 / size

-- so low is the last one: a standby made it, or no call was made
abbrev pub IsLowLast : ℕ → ℕ → ℕ → Tape → Type 0
IsLowLast size since last t =
    (last ≤ 4097) ⊎ ((drop since t.calls ≡ []) × (last < 2 ^ 60 / size))

-- since a moment it held nothing but words of an order's log and zeros, in whole pages, and made
-- its segments one behind another
pub record HoldsOrder (size sysid : ℕ) (es : List Entry) (since : ℕ) (t : Tape) : Type 0 where
  pub order : IsLogOrder size sysid es
  pub words : AssuresSince size IsNowhere (IsZeroOrLogWord size sysid es) since t
  pub whole : StaysWhole size since t
  pub last : ℕ
  pub turn : AreMadeInTurn since last t
  pub low : IsLowLast size since last t

-- a word below an address is an order's
abbrev pub IsLogBelow : ℕ → ℕ → List Entry → ℕ → ℕ → ℕ → List ℕ → Type 0
IsLogBelow size sysid es upto page word bytes =
    page * 8192 + 8 * word + 8 ≤ upto → IsLogWord size sysid es page word bytes

abbrev pub KeepsUpto : ℕ → ℕ → List Entry → ℕ → ℕ → Tape → Type 0
KeepsUpto size sysid es upto since t =
    AssuresSince size (IsMadeUpto size upto) (IsLogBelow size sysid es upto) since t

-- since a promise's moment the log is there up to an address, at or below which each entry ends
-- that the promise speaks of
pub record IsHeld (size sysid : ℕ) (es : List Entry) (t : Tape) (promise : ℕ × ℕ) : Type 0 where
  pub upto : ℕ
  pub whole : upto % 8 ≡ 0
  pub reaches : ReachesEntries size es promise.1 upto
  pub keeps : KeepsUpto size sysid es upto promise.0 t

-- ---- segments

pub low_last : (size since last : ℕ) (t : Tape) → IsSegmentSize size → IsLowLast size since last t
    → last < 2 ^ 60 / size
low_last size since last t valid (inl few) =
    omega (arith, few_are_low size last valid (omega (arith, few)))
low_last size since last t valid (inr none) = none.1

some_page : (s : Option Segment) → is_some s ≡ true → (size : ℕ) → 0 < pages_of size
    → IfSome s (λ s. s.pages ≡ pages_of size) → IsSome (page_of_segment s 0)
some_page None is size some pages = absurd (cc is)
some_page (Some s) is size some pages = by_test (lt-ltb 0 s.pages (omega (arith, some, pages)))
  where
    by_test : nat_lt 0 s.pages ≡ true → IsSome (page_of_segment (Some s) 0)
    by_test within = rw within refl

no_segment : (s : Option Segment) → is_some s ≡ false → s ≡ None
no_segment None is = refl
no_segment (Some s) is = absurd (let no : ⊥ = cc in no)

pages_whole : (size : ℕ) (IsThere : ℕ → Type 0) (Fits : ℕ → ℕ → List ℕ → Type 0) (segment : ℕ)
    (s : Option Segment) → SegmentAssures size IsThere Fits segment s
    → IfSome s (λ s. s.pages ≡ pages_of size)
pages_whole size IsThere Fits segment None assures = tt
pages_whole size IsThere Fits segment (Some s) assures = assures.0

-- of segments that are there something may be asked
among_there : (size : ℕ) (Fits : ℕ → ℕ → List ℕ → Type 0) (count : ℕ) (state : DiskState)
    → AreThere state count → StateAssures size IsNowhere Fits state
    → StateAssures size (IsAmong count) Fits state
among_there size Fits count state there assures segment =
    here (state segment) (there segment) (assures segment)
  where
    here : (s : Option Segment) → (IsAmong count segment → IsSome (page_of_segment s 0))
        → SegmentAssures size IsNowhere Fits segment s
        → SegmentAssures size (IsAmong count) Fits segment s
    here None there assures = λ among. absurd (let no : ⊥ = cc (there among) in no)
    here (Some s) there assures = assures

module _ (size sysid : ℕ) (es : List Entry) (since : ℕ) (t : Tape)
    (h : HoldsOrder size sysid es since t) where
  abbrev valid : IsSegmentSize size
  valid = h.order.valid

  some_pages : 0 < pages_of size
  some_pages = omega (arith, (segment_size_in_pages size h.order.valid).1)

  pub words_now : StateAssures size IsNowhere (IsZeroOrLogWord size sysid es) (state_now t)
  words_now = assures_now size IsNowhere (IsZeroOrLogWord size sysid es) since t h.words

  pub pages_now : HaveWholePages size (state_now t)
  pages_now = whole_now size since t h.whole

  pub there_now : AreThere (state_now t) h.last
  there_now segment among =
      some_page (state_now t segment) ((first_behind since h.last t h.turn).there segment among) size
      some_pages (pages_whole size IsNowhere (IsZeroOrLogWord size sysid es) segment
      (state_now t segment) (words_now segment))

  pub only_now : AreOnly h.last (state_now t)
  only_now segment apart = no_segment (state_now t segment)
      ((first_behind since h.last t h.turn).only segment apart)

  pub low_now : h.last < 2 ^ 60 / size
  low_now = low_last size since h.last t h.order.valid h.low

  abbrev pub segments_now : HasFirstSegments size t
  segments_now = record { count = h.last; there = there_now; only = only_now; low = low_now }

  pub lawful_now : StateAssures size (IsAmong h.last) (IsZeroOrLogWord size sysid es) (state_now t)
  lawful_now = among_there size (IsZeroOrLogWord size sysid es) h.last (state_now t) there_now
      words_now

  -- what is read is one of the images that a crash may leave
  pub read_is_left : LeftAt t (length t.calls) (image_as_read (state_now t))
  read_is_left =
      subst (λ (calls : List Call). LeftAt t (length t.calls)
      (image_as_read (after_calls t.at_first calls))) (take-length t.calls)
      (inl (left_as_read size (state_at t (length t.calls))
      (subst (λ (calls : List Call). HaveWholePages size (after_calls t.at_first calls))
      (sym (take-length t.calls)) pages_now)))

  -- ---- images

  module _ (at : ℕ) (image : DiskImage) (later : since ≤ at) (leaves : LeftAt t at image) where
    pub fits_left : DiskImageFits size IsNowhere (IsZeroOrLogWord size sysid es) image
    fits_left = (assures_tape size IsNowhere (IsZeroOrLogWord size sysid es) since t h.words).left at
        later image leaves

    pub image_lawful : IsLawful size sysid image es 0
    image_lawful = record {
      words = fits_lawful size sysid es IsNowhere image h.order.valid fits_left;
      below = λ k low. absurd (omega (arith, low));
      there = λ k low. absurd (omega (arith, low));
    }

    -- with all that is kept
    pub image_held : (moment upto : ℕ) → upto % 8 ≡ 0 → KeepsUpto size sysid es upto moment t
        → moment ≤ at → IsLawful size sysid image es upto
    image_held moment upto whole keeps after =
        let kept = TapeAssures-within size (IsMadeUpto size upto) (IsMadeUpto size upto)
        (IsLogBelow size sysid es upto) (IsKeptWord upto (log_pages size sysid es))
        (λ segment made. made)
        (λ page word bytes low fits below. fits below ∙ sym (page_word size sysid es page word low))
        moment t
        (assures_tape size (IsMadeUpto size upto) (IsLogBelow size sysid es upto) moment t keeps) in
        lawful_upto size sysid h.order.valid es h.order.chained image upto whole
        (log_pages size sysid es) (λ page word low below. page_word size sysid es page word low)
        (kept.left at after image leaves)
        (fits_lawful size sysid es IsNowhere image h.order.valid fits_left)

-- ---- less is kept

made_upto-mono : (size a b : ℕ) → 0 < size → a ≤ b → made_upto size a ≤ made_upto size b
made_upto-mono size a b some low =
    le-div ((a - 1) / size) (b - 1) size some (omega (arith, low, div-mul-le_self (a - 1) size))

pub keeps_less : (size sysid : ℕ) (es : List Entry) (since upto less : ℕ) (t : Tape)
    → IsSegmentSize size → less ≤ upto → KeepsUpto size sysid es upto since t
    → KeepsUpto size sysid es less since t
keeps_less size sysid es since upto less t valid low keeps =
    let fewer : (segment : ℕ) → IsMadeUpto size less segment → IsMadeUpto size upto segment =
    λ segment made. (
      made.0,
      omega (
        arith,
        made.1,
        made_upto-mono size less upto
            (omega (arith, (segment_size_in_pages size valid).0, (segment_size_in_pages size valid).1)) low,
      ),
    ) in
    let weaker : (page word : ℕ) (bytes : List ℕ) → word < 1024
    → IsLogBelow size sysid es upto page word bytes
    → IsLogBelow size sysid es less page word bytes =
    λ page word bytes small fits below. fits (omega (arith, below, low)) in
    record {
      counted = keeps.counted;
      state = λ segment. assures_within size (IsMadeUpto size upto) (IsMadeUpto size less)
          (IsLogBelow size sysid es upto) (IsLogBelow size sysid es less) fewer weaker segment
          (state_at t since segment) (keeps.state segment);
      calls = calls_within size (IsMadeUpto size upto) (IsMadeUpto size less)
          (IsLogBelow size sysid es upto) (IsLogBelow size sysid es less) fewer weaker
          (drop since t.calls) keeps.calls;
    }

-- ---- a process is killed

pub held_stopped : (size sysid : ℕ) (es : List Entry) (at : ℕ) (t stopped : Tape)
    (promise : ℕ × ℕ) → promise.0 ≤ at → StopsAt t at stopped
    → IsHeld size sysid es t promise → IsHeld size sysid es stopped promise
held_stopped size sysid es at t stopped promise low stops held = record {
  upto = held.upto;
  whole = held.whole;
  reaches = held.reaches;
  keeps = assures_stopped size (IsMadeUpto size held.upto) (IsLogBelow size sysid es held.upto)
      promise.0 at t stopped low stops held.keeps;
}

-- no call is cut short where none was made
low_stopped : (size since at last mid : ℕ) (t stopped : Tape) → since ≤ at → StopsAt t at stopped
    → since ≤ length t.calls → mid ≤ last → IsLowLast size since last t
    → IsLowLast size since mid stopped
low_stopped size since at last mid t stopped low stops counted under (inl few) =
    inl (omega (arith, few, under))
low_stopped size since at last mid t stopped low (inl same) counted under (inr none) = inr (
  subst (λ (s : Tape). drop since s.calls ≡ []) (sym same)
      (drop_taken t.calls since at low ∙ ap (take (at - since)) none.0 ∙ take_all (at - since) [] (omega arith)),
  omega (arith, none.1, under),
)
low_stopped size since at last mid t stopped low (inr c) counted under (inr none) =
    absurd (next_keeps (λ state. Unit {0}) (λ call. ⊥) since at t
    (write_to c.geometry c.segment c.page c.bytes c.done) low (record {
      counted = counted;
      state = tt;
      calls = subst (λ (calls : List Call). AllByRecursion (λ call. ⊥) calls) (sym none.0) tt;
    }) c.next)

pub order_stopped : (size sysid : ℕ) (es : List Entry) (since at : ℕ) (t stopped : Tape)
    → since ≤ at → StopsAt t at stopped → HoldsOrder size sysid es since t
    → HoldsOrder size sysid es since stopped
order_stopped size sysid es since at t stopped low stops h =
    let turns = stopped_turns since at h.last t stopped low stops h.turn in
    record {
      order = h.order;
      words = assures_stopped size IsNowhere (IsZeroOrLogWord size sysid es) since at t stopped low
          stops h.words;
      whole = whole_stopped size since at t stopped low stops h.whole;
      last = turns.0;
      turn = turns.2;
      low = low_stopped size since at h.last turns.0 t stopped low stops h.words.counted turns.1
          h.low;
    }

-- ---- a crash comes

quiet_segment : (size : ℕ) (IsThere : ℕ → Type 0) (Fits : ℕ → ℕ → List ℕ → Type 0) (segment : ℕ)
    (s : Option Segment) → IfSome s (λ s. s.writes ≡ [])
    → SegmentFits size IsThere Fits segment (image_as_read (λ (n : ℕ). s) segment)
    → SegmentAssures size IsThere Fits segment s
quiet_segment size IsThere Fits segment None quiet fits = fits
quiet_segment size IsThere Fits segment (Some s) quiet fits = (
  fits.0,
  λ page word within low bytes may. subst (Fits (segment * pages_of size + page) word)
      (sym (stands_read s page word bytes quiet may)) (fits.1 page word within low),
)

quiet_assures : (size : ℕ) (IsThere : ℕ → Type 0) (Fits : ℕ → ℕ → List ℕ → Type 0)
    (state : DiskState) → NothingWaits state
    → DiskImageFits size IsThere Fits (image_as_read state)
    → StateAssures size IsThere Fits state
quiet_assures size IsThere Fits state quiet fits segment =
    quiet_segment size IsThere Fits segment (state segment) (quiet segment) (fits segment)

pub held_crashed : (size sysid : ℕ) (es : List Entry) (at : ℕ) (t left : Tape)
    (promise : ℕ × ℕ) → promise.0 ≤ at → IsLeftByCrash t at left
    → IsHeld size sysid es t promise
    → IsHeld size sysid es left (length left.calls, promise.1)
held_crashed size sysid es at t left promise low crash held = record {
  upto = held.upto;
  whole = held.whole;
  reaches = held.reaches;
  keeps = runs_from (StateAssures size (IsMadeUpto size held.upto)
      (IsLogBelow size sysid es held.upto)) (CallFits size (IsLogBelow size sysid es held.upto)) left
      (quiet_assures size (IsMadeUpto size held.upto)
      (IsLogBelow size sysid es held.upto) (state_now left) crash.quiet
      ((assures_tape size (IsMadeUpto size held.upto) (IsLogBelow size sysid es held.upto) promise.0
      t held.keeps).left at low (image_as_read (state_now left)) crash.leaves));
}

-- where no call was made a crash leaves the segments that are there
same_presence : (s : Option Segment) (i : Option ImageSegment) → MayLeaveSegment s i
    → is_some i ≡ is_some s
same_presence None None may = refl
same_presence (Some s) (Some i) may = refl
same_presence None (Some i) may = absurd may
same_presence (Some s) None may = absurd may

present_left : (count : ℕ) (state : DiskState) (image : DiskImage) → MayLeave state image
    → AreFirst count (λ segment. is_some (state segment)) → AreFirst count (on_image image)
present_left count state image may first = record {
  there = λ segment among. same_presence (state segment) (image segment) (may segment)
      ∙ first.there segment among;
  only = λ segment apart. same_presence (state segment) (image segment) (may segment)
      ∙ first.only segment apart;
}

left_now : (t : Tape) (m : ℕ) (image : DiskImage) → length t.calls ≤ m → LeftAt t m image
    → MayLeave (state_now t) image
left_now t m image late leaves =
    elim (left_moved t.at_first image (take m t.calls) t.calls (slice_get t.calls m) None
    (take_all m t.calls late) (slice_get_past t.calls m late) leaves) [
      | inl now ↦ now
      | inr none ↦ absurd none
    ]

no_more : (calls : List Call) (since : ℕ) → drop since calls ≡ [] → length calls ≤ since
no_more calls since none =
    let count : length calls - since ≡ 0 = sym (length-drop since calls) ∙ ap length none in
    omega (arith, count)

first_left : (size since at last : ℕ) (t : Tape) (image : DiskImage) → IsSegmentSize size
    → AreMadeInTurn since last t → since ≤ at → LeftAt t at image → IsLowLast size since last t
    → (count : ℕ) × (count < 2 ^ 60 / size) × AreFirst count (on_image image)
first_left size since at last t image valid turn low leaves (inl few) =
    let far = few_are_low size last valid few in
    let in_turn : HasMadeInTurn size since t = record {
      first = turn.first;
      there = turn.there;
      only = turn.only;
      last = last;
      in_turn = turn.in_turn;
      low = far;
    } in
    let first = made_segments size since at t image in_turn low leaves in
    (first.0, omega (arith, first.1, far), first.2)
first_left size since at last t image valid turn low leaves (inr none) = (
  last,
  none.1,
  present_left last (state_now t) image
      (left_now t at image (omega (arith, low, no_more t.calls since none.0)) leaves)
      (first_behind since last t turn),
)

pub order_crashed : (size sysid : ℕ) (es : List Entry) (since at : ℕ) (t left : Tape)
    → since ≤ at → IsLeftByCrash t at left → HoldsOrder size sysid es since t
    → HoldsOrder size sysid es (length left.calls) left
order_crashed size sysid es since at t left low crash h =
    let Fits = IsZeroOrLogWord size sysid es in
    let state = state_now left in
    let image = image_as_read state in
    let fits = fits_left size sysid es since t h at image low crash.leaves in
    let words = quiet_assures size IsNowhere Fits state crash.quiet fits in
    let first = first_left size since at h.last t image h.order.valid h.turn low crash.leaves h.low in
    let some = some_pages size sysid es since t h in
    let there = are_there size IsNowhere Fits some first.0 state first.2 fits in
    let only = are_only size IsNowhere Fits some first.0 state first.2 in
    record {
      order = h.order;
      words = runs_from (StateAssures size IsNowhere Fits) (CallFits size Fits) left words;
      whole = runs_from (HaveWholePages size) (IsWhole size) left (left_whole size first.0 Fits state
          (among_there size Fits first.0 state there words) t at crash.leaves);
      last = first.0;
      turn = begun_in_turn first.0 left there only;
      low = inr (drop_all (length left.calls) left.calls (omega arith), first.1);
    }

-- ---- a history begins

pub order_begun : (size sysid : ℕ) (es : List Entry) (t : Tape) → MayFollow size sysid es t
    → HoldsOrder size sysid es (length t.calls) t
order_begun size sysid es t may =
    let Fits = IsZeroOrLogWord size sysid es in
    let some : 0 < pages_of size = omega (arith, (segment_size_in_pages size may.order.valid).1) in
    record {
      order = may.order;
      words = runs_from (StateAssures size IsNowhere Fits) (CallFits size Fits) t
          (λ segment. assures_within size (IsAmong may.count) IsNowhere Fits Fits
          (λ n none. absurd none) (λ page word bytes low fits. fits) segment (state_now t segment)
          (may.lawful segment));
      whole = runs_from (HaveWholePages size) (IsWhole size) t may.whole;
      last = may.count;
      turn = begun_in_turn may.count t
          (λ segment among. there_lawful size may.count Fits some segment (state_now t segment)
          (may.lawful segment) among) may.only;
      low = inr (drop_all (length t.calls) t.calls (omega arith), may.low);
    }
  where
    there_lawful : (size count : ℕ) (Fits : ℕ → ℕ → List ℕ → Type 0) → 0 < pages_of size
        → (segment : ℕ) (s : Option Segment) → SegmentAssures size (IsAmong count) Fits segment s
        → IsAmong count segment → IsSome (page_of_segment s 0)
    there_lawful size count Fits some segment None assures among = absurd (assures among)
    there_lawful size count Fits some segment (Some s) assures among =
        first_page s (omega (arith, some, assures.0))
