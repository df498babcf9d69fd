-- What the machine's invariant says of the disk of a log that is written, whichever passes fill it,
-- at each moment since its opening.
use Rattle.std.proofs.Common.{◌≡◌, ◌≢◌, ℕ, ◌+◌, ◌*◌, ◌/◌, ◌^◌, ◌<◌, ◌≤◌, ◌⊎◌, List, [], ◌++◌, Option, Some, None, IfSome, inl, inr, sym, ap, subst, arith}
use Rattle.std.specs.Prelude.{IsSome}
use Rattle.std.proofs.lemmas.Bool.{cases_lt}
use Rattle.std.proofs.Math.Nat.{le-div_iff_mul-le, mul-le-mul_right}
use Rattle.byte_position.specs.Geometry.{pages_of}
use Rattle.byte_position.specs.Position.{end_address_of, first_position}
use Rattle.byte_position.proofs.EndAddresses.{end_address_of-le_address_of}
use Rattle.byte_position.proofs.Rising.{address_of-bound, position_of-le_self}
use Rattle.byte_position.proofs.SegmentSizes.{segment_size_in_pages, segment_size_tests}
use Rattle.byte_position.proofs.Segments.{first_position-usable}
use Rattle.segment_disk.specs.declared.disk.Call.{Call}
use Rattle.segment_disk.specs.Assured.{IsMadeUpto, IsNowhere, SegmentAssures, TapeAssures}
use Rattle.segment_disk.specs.DiskImage.{DiskImage, LeftAt, MayLeave, image_as_read}
use Rattle.segment_disk.specs.Tape.{DiskState, Segment, Tape, page_of_segment, state_at, state_now}
use Rattle.wal_page.specs.Order.{Entry, IsChained, end_position}
use Rattle.wal_reader.specs.declared.found.FoundRecord.{FoundRecord}
use Rattle.wal_reader.specs.Pages.{pages_in}
use Rattle.written_log_laws.specs.Torn.{NoTornPass}
use Rattle.flush_core.specs.Settled.{AreThere, HaveWholePages}
use Rattle.flush_core.specs.SettledLog.{AreOnly, IsZeroOrLogWord}
use Rattle.machine_state.specs.declared.setup.Setup.{Setup}
use Rattle.machine_state.specs.Durable.{IsFirm, IsLawfulAt, IsMadeInTurn}
use Rattle.machine_state.specs.Growing.{LosesOnly, OnlyAddsSince}
use Rattle.machine_state.specs.Sound.{IsSetup, IsSound}
use Rattle.machine_state.specs.Suited.{BeganSuited, IfSuited, IsLogAt, tape_from}
use Rattle.machine_state.specs.Views.{Plain, View}
use Rattle.machine_state.specs.Words.{GoesOnAtPlace, Opening, found_end, log_limit, order_end}
use Rattle.machine_state.proofs.Tapes.{at_suited}
use Rattle.machine_laws.specs.Growth.{LosesOnlySince, StaysWholeSince}
use Rattle.machine_laws.proofs.GrowthLaws.{logs_lose_only, logs_stay_whole}
use Rattle.machine_laws.specs.WholeOrders.{IsWholeOrder, LiesBehind}
use Rattle.machine_laws.proofs.WholeOrders.{whole_order}
use Rattle.reopened_log_laws.specs.Again.{HasMadeInTurn, IsLeftByCrash}
use Rattle.reopened_log_laws.specs.StopsAt.{StopsAt}
use Rattle.reopened_log_laws.specs.Sure.{IsLeftAt, IsLogUpto, IsSureUpto}
use Rattle.reopened_log_laws.specs.WasLeft.{WasLeftOf}
use Rattle.reopened_log_laws.proofs.CutWrites.{cut_images, cut_leaves, cut_loses, cut_whole, left_as_read}
use Rattle.reopened_log_laws.proofs.LeftAgain.{crashed_logs_were_left}
use Rattle.reopened_log_laws.proofs.MadeSegments.{first_page}
use Rattle.reopened_log_laws.proofs.StoppedLogs.{stopped_logs_were_left}
use Rattle.reopened_log_laws.proofs.Surviving.{some_tape}
use Rattle.reopened_log_laws.proofs.WholeWords.{firm-whole, lawful_tape-whole}
use Rattle.reopened_log_laws.proofs.WordImages.{images_assure, quiet_assures}

-- a log that was opened so behind these entries was written with this order on a disk that has this
-- tape: in some state of the machine, whose writer made its calls; at the opening the disk held what
-- the log may go on on
pub record IsWrittenLog (opening : Opening) (front order : List Entry) (t : Tape) : Type 0 where
  pub first : DiskState
  pub words : List ℕ
  pub home : mathlib.Core.Option.Option Plain
  pub views : List View
  pub sound : IsSound first opening words home views
  pub order_is : sound.order ≡ order
  pub tape_is : tape_from first (sound.writer).calls ≡ Some t
  pub suited : BeganSuited opening t
  pub lies : LiesBehind opening front

-- ---- sizes

-- a log ends far below the last address that is read
ends_low : (setup : Setup) → IsSetup setup → (position : ℕ) → position ≤ log_limit setup
    → end_address_of setup.seg_size position + 2 * setup.seg_size ≤ 2 ^ 60
ends_low setup is position within =
    let size = setup.seg_size in
    let first = first_position size in
    let below = position_of-le_self size size in
    let most = (segment_size_tests size is.size).2 in
    let whole = ap (λ (n : ℕ). setup.cap_segments * n) (first_position-usable size is.size) in
    let few : setup.cap_segments * first ≤ 4096 * first = mul-le-mul_right first is.cap_high in
    omega (
      arith,
      within,
      below,
      most,
      whole,
      few,
      end_address_of-le_address_of size is.size
          position,
      address_of-bound size is.size position,
    )

-- so do the segments that are made
made_low : (setup : Setup) → IsSetup setup → (position made last written : ℕ)
    → position ≤ log_limit setup → made ≤ setup.cap_segments
    → written ≤ end_address_of setup.seg_size position
    → (last ≡ made) ⊎ (last * setup.seg_size ≤ written)
    → last + 1 < 2 ^ 60 / setup.seg_size
made_low setup is position made last written within few low reached =
    let size = setup.seg_size in
    let tests = (segment_size_tests size is.size).2 in
    let positive : 0 < size = omega (arith, (segment_size_tests size is.size).1) in
    let far : (last + 2) * size ≤ 2 ^ 60 = elim reached [
      | inl same ↦
          (let more : last + 2 ≤ 4098 = omega (arith, same, few, is.cap_high) in
          let scaled : (last + 2) * size ≤ 4098 * size = mul-le-mul_right size more in
          omega (arith, scaled, tests))
      | inr below ↦ omega (arith, below, low, ends_low setup is position within)
    ] in
    let counted : last + 2 ≤ 2 ^ 60 / size = (le-div_iff_mul-le positive).1 far in
    omega (arith, counted)

some_id : (n : ℕ) → n ≢ 0 → 0 < n
some_id n other = elim (cases_lt 0 n) [
  | inl lt ↦ lt
  | inr nothing ↦ absurd
      (other (omega (arith, nothing)))
]

told_calls : (P : List Call → Type 0) (first : DiskState) (o : Option (List Call)) (t : Tape)
    → tape_from first o ≡ Some t → IfSome o P → P t.calls
told_calls P first None t is holds = absurd (cc is)
told_calls P first (Some calls) t is holds =
    subst P (ap (λ (t : Tape). t.calls)
    (some_tape (record { at_first = first; calls = calls }) t is)) holds

page_there : (size segment : ℕ) (IsThere : ℕ → Type 0) (Fits : ℕ → ℕ → List ℕ → Type 0)
    (s : Option Segment) → 0 < pages_of size → SegmentAssures size IsThere Fits segment s
    → IsThere segment → IsSome (page_of_segment s 0)
page_there size segment IsThere Fits None positive assures there = absurd (assures there)
page_there size segment IsThere Fits (Some s) positive assures there =
    first_page s (omega (arith, positive, assures.0))

-- ---- what it says of the tape

module _ (opening : Opening) (front order : List Entry) (t : Tape)
    (w : IsWrittenLog opening front order t) where
  abbrev size : ℕ
  size = (opening.setup).seg_size

  abbrev sysid : ℕ
  sysid = (opening.setup).sysid

  -- what the invariant says of the writer's tape holds of this one
  pub written_holds : (P : Tape → Type 0) → IfSuited w.first opening (w.sound).writer P → P t
  written_holds P holds = at_suited w.first opening (w.sound).writer P t w.tape_is w.suited holds

  setup_is : IsSetup opening.setup
  setup_is = (w.sound).setup_is

  follows : GoesOnAtPlace opening order
  follows = subst (GoesOnAtPlace opening) w.order_is ((w.sound).reserved).chained

  whole_is : IsWholeOrder opening order (front ++ order)
  whole_is = whole_order opening setup_is.size front w.lies order follows

  bounded : end_address_of (opening.setup).seg_size
      (end_position (opening.setup).seg_size (front ++ order)) ≤ 2 ^ 60
  bounded = subst (λ (n : ℕ). end_address_of size n ≤ 2 ^ 60) (sym whole_is.end)
      (subst (λ (es : List Entry). end_address_of size (order_end opening es) ≤ 2 ^ 60)
      w.order_is (omega (
        arith,
        ends_low opening.setup setup_is (order_end opening (w.sound).order)
            ((w.sound).reserved).within,
      )))

  gapless : IsChained (opening.setup).seg_size (front ++ order)
  gapless = whole_is.chained

  assures : TapeAssures (opening.setup).seg_size IsNowhere
      (IsZeroOrLogWord (opening.setup).seg_size (opening.setup).sysid (front ++ order))
      opening.moment t
  assures = lawful_tape-whole opening front w.lies order setup_is.size follows opening.moment t
      (subst (λ (es : List Entry). TapeAssures size IsNowhere (IsLawfulAt opening es)
      opening.moment t) w.order_is
      (written_holds (TapeAssures size IsNowhere (IsLawfulAt opening (w.sound).order)
      opening.moment) ((w.sound).durable).lawful))

  pub found_firm : IsFirm opening order (found_end opening) opening.moment t
  found_firm = subst (λ (es : List Entry). IsFirm opening es (found_end opening)
      opening.moment t) w.order_is
      (written_holds (IsFirm opening (w.sound).order (found_end opening) opening.moment)
      ((w.sound).durable).found)

  loses : LosesOnlySince (opening.setup).seg_size opening.moment t
  loses = written_holds (LosesOnlySince (opening.setup).seg_size opening.moment)
      (logs_lose_only opening w.words w.home w.views w.sound)

  stays_whole : StaysWholeSince (opening.setup).seg_size opening.moment t
  stays_whole = written_holds (StaysWholeSince (opening.setup).seg_size opening.moment)
      (logs_stay_whole opening w.words w.home w.views w.sound)

  adds : OnlyAddsSince (opening.setup).seg_size opening.moment t
  adds = written_holds (OnlyAddsSince (opening.setup).seg_size opening.moment)
      ((w.sound).reading).adds

  -- ---- segments are made one behind another

  made : IsMadeInTurn opening (w.sound).writer t.calls
  made = told_calls (IsMadeInTurn opening (w.sound).writer) w.first ((w.sound).writer).calls t
      w.tape_is ((w.sound).durable).made

  positive : 0 < pages_of (opening.setup).seg_size
  positive = omega (arith, (segment_size_in_pages size setup_is.size).1)

  there : AreThere (state_at t opening.moment) opening.made
  there segment among = page_there (opening.setup).seg_size segment
      (λ (n : ℕ). (1 ≤ n) × (n ≤ opening.made)) (IsLogAt opening [])
      (state_at t opening.moment segment) positive (w.suited segment) among

  module _ (only : AreOnly opening.made (state_at t opening.moment))
      (few : opening.made ≤ (opening.setup).cap_segments) where
    made_in_turn : HasMadeInTurn (opening.setup).seg_size opening.moment t
    made_in_turn = record {
      first = opening.made;
      there = there;
      only = only;
      last = made.last;
      in_turn = made.in_turn;
      low = made_low opening.setup setup_is (order_end opening (w.sound).order) opening.made
          made.last ((w.sound).writer).written ((w.sound).reserved).within few
          ((w.sound).positions).reserved made.low;
    }

    -- ---- what is left of it was left by this program

    module _ (narrow : (opening.setup).sysid < 2 ^ 64) where
      pub crashed_written : (moment : ℕ) → opening.moment ≤ moment → (crashed : Tape)
          → IsLeftByCrash t moment crashed
          → NoTornPass (opening.setup).seg_size
          (pages_in (opening.setup).seg_size (image_as_read (state_now crashed)))
          (front ++ order)
          → (found : List FoundRecord) × WasLeftOf (opening.setup).seg_size
          (opening.setup).sysid (front ++ order) crashed found
      crashed_written moment since crashed crash none_torn =
          crashed_logs_were_left size sysid opening.moment moment (front ++ order) t crashed setup_is.size
          (some_id sysid setup_is.named) narrow gapless bounded assures made_in_turn since crash
          none_torn

  module _ (whole : HaveWholePages (opening.setup).seg_size (state_at t opening.moment))
      (moment : ℕ) (since : opening.moment ≤ moment) where
    whole_at : HaveWholePages (opening.setup).seg_size (state_at t moment)
    whole_at = stays_whole whole moment since

    module _ (stopped : Tape) (stops : StopsAt t moment stopped) where
      stop_leaves : LeftAt t moment (image_as_read (state_now stopped))
      stop_leaves = elim stops [
        | inl same ↦ subst (λ (d : Tape). LeftAt t moment (image_as_read (state_now d))) (sym same)
            (inl (left_as_read (opening.setup).seg_size (state_at t moment) whole_at))
        | inr c ↦ cut_leaves t moment stopped c (opening.setup).seg_size whole_at
      ]

      stop_loses : LosesOnly (opening.setup).seg_size (state_now stopped)
      stop_loses = elim stops [
        | inl same ↦ subst (λ (d : Tape). LosesOnly (opening.setup).seg_size (state_now d))
            (sym same) (loses moment since)
        | inr c ↦ cut_loses t moment stopped c (opening.setup).seg_size opening.moment since
            adds (loses moment since)
      ]

      stop_whole : HaveWholePages (opening.setup).seg_size (state_now stopped)
      stop_whole = elim stops [
        | inl same ↦ subst (λ (d : Tape). HaveWholePages (opening.setup).seg_size (state_now d))
            (sym same) whole_at
        | inr c ↦ cut_whole t moment stopped c (opening.setup).seg_size opening.moment since
            adds whole_at
      ]

      -- whatever a crash may leave of it then, it might have left at this moment
      stop_images : (image : DiskImage) → MayLeave (state_now stopped) image → LeftAt t moment image
      stop_images image may = elim stops [
        | inl same ↦ inl (subst (λ (d : Tape). MayLeave (state_now d) image) same may)
        | inr c ↦ cut_images t moment stopped c image may
      ]

    -- ---- what is firm is sure of what is left

    -- all below an address is firm from this moment on or an earlier one
    module _ (next : Tape) (is : IsLeftAt t moment next) (upto from : ℕ) (by : from ≤ moment)
        (firm : IsFirm opening order upto from t) where
      pub written_sure : IsSureUpto (opening.setup).seg_size (opening.setup).sysid
          (front ++ order) upto (state_now next)
      written_sure =
          let sure = firm-whole opening front w.lies order setup_is.size follows upto from t firm in
          elim is [
            | inl stops ↦ images_assure size (IsMadeUpto size upto)
                (IsLogUpto size sysid (front ++ order) upto) (state_now next) (stop_whole next stops)
                (stop_loses next stops)
                (λ image may. sure.left moment by image (stop_images next stops image may))
            | inr crash ↦ quiet_assures size (IsMadeUpto size upto)
                (IsLogUpto size sysid (front ++ order) upto) (state_now next) crash.quiet
                (sure.left moment by (image_as_read (state_now next)) crash.leaves)
          ]

module _ (opening : Opening) (front order : List Entry) (t : Tape)
    (w : IsWrittenLog opening front order t)
    (only : AreOnly opening.made (state_at t opening.moment))
    (few : opening.made ≤ (opening.setup).cap_segments)
    (narrow : (opening.setup).sysid < 2 ^ 64)
    (whole : HaveWholePages (opening.setup).seg_size (state_at t opening.moment)) (moment : ℕ)
    (since : opening.moment ≤ moment) where
  pub stopped_written : (stopped : Tape) → StopsAt t moment stopped
      → NoTornPass (opening.setup).seg_size (pages_in (opening.setup).seg_size
      (image_as_read (state_now stopped))) (front ++ order)
      → (found : List FoundRecord) × WasLeftOf (opening.setup).seg_size (opening.setup).sysid
      (front ++ order) stopped found
  stopped_written stopped stops none_torn =
      stopped_logs_were_left (opening.setup).seg_size (opening.setup).sysid opening.moment
      moment (front ++ order) t stopped (setup_is opening front order t w).size
      (some_id (opening.setup).sysid (setup_is opening front order t w).named) narrow
      (gapless opening front order t w) (bounded opening front order t w)
      (assures opening front order t w) (made_in_turn opening front order t w only few) since
      (stop_leaves opening front order t w whole moment since stopped stops)
      (stop_loses opening front order t w whole moment since stopped stops)
      (stop_whole opening front order t w whole moment since stopped stops) none_torn

  pub written_left : (next : Tape) → IsLeftAt t moment next
      → NoTornPass (opening.setup).seg_size (pages_in (opening.setup).seg_size
      (image_as_read (state_now next))) (front ++ order)
      → (found : List FoundRecord) × WasLeftOf (opening.setup).seg_size (opening.setup).sysid
      (front ++ order) next found
  written_left next (inl stops) none_torn = stopped_written next stops none_torn
  written_left next (inr crash) none_torn = crashed_written opening front order t w only few narrow moment
      since next crash none_torn
