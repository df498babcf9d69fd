-- What is sure of a log on a disk stays so: while it is settled, and over stops and crashes; and a run makes sure all that was found and all that its lines were told.
use Rattle.std.proofs.Common.{ℕ, ◌+◌, ◌*◌, ◌/◌, ◌≤◌, List, [], length, Option, Some, None, inl, inr, refl, subst, arith}
use Rattle.std.proofs.lemmas.Bool.{cases_lt}
use Rattle.byte_position.specs.Geometry.{IsSegmentSize, pages_of}
use Rattle.segment_disk.specs.Assured.{IsMadeUpto, IsNowhere, SegmentAssures, SegmentFits, StateAssures}
use Rattle.segment_disk.specs.DiskImage.{DiskImage, ImageSegment, MayLeave, image_as_read}
use Rattle.segment_disk.specs.Tape.{DiskState, Segment, Tape, state_now}
use Rattle.flush_core.specs.Lawful.{IsLawful}
use Rattle.flush_core.specs.Settled.{IsAmong, IsOldOrZero, KeepsOld}
use Rattle.flush_core.specs.SettledLog.{IsZeroOrLogWord}
use Rattle.flush_core.proofs.LeftLaws.{ImageFits-left}
use Rattle.flush_core.proofs.SettledLogs.{stands_fit}
use Rattle.wal_page.specs.LogPlace.{new_place}
use Rattle.wal_page.specs.Order.{IsChained}
use Rattle.wal_page.proofs.PlaceLaws.{new_place-stands}
use Rattle.wal_reader.specs.declared.found.Answer.{Answer}
use Rattle.wal_reader.specs.declared.found.FoundRecord.{FoundRecord}
use Rattle.wal_reader.specs.Decodes.{Decodes}
use Rattle.wal_reader.specs.Pages.{pages_in}
use Rattle.written_log_laws.specs.FoundLog.{end_behind}
use Rattle.written_log_laws.specs.LawfulLog.{IsFrontUpto}
use Rattle.written_log_laws.specs.Torn.{NoTornPass}
use Rattle.written_log_laws.proofs.LawfulLaws.{lawful_images_decode_to_fronts}
use Rattle.machine_state.specs.Durable.{IsLawfulAt, IsLogBelow}
use Rattle.machine_state.specs.Words.{Opening, found_end}
use Rattle.machine_laws.specs.WholeOrders.{LiesBehind}
use Rattle.machine_laws.proofs.CrashLaws.{IsLawfulBehind-left}
use Rattle.machine_laws.proofs.DurableGrowth.{IsFirm-lower}
use Rattle.machine_laws.proofs.WholeOrders.{IsLawful-whole, LiesBehind-new, whole_order}
use Rattle.run_laws.specs.Told.{order_from}
use Rattle.run_laws.proofs.MachineRuns.{keeps_words}
use Rattle.reopened_log_laws.specs.Again.{IsLeftByCrash}
use Rattle.reopened_log_laws.specs.Sure.{IsLogUpto, IsSureUpto, ReopenedSettlingsStaySure, RunsMakeSure, StoppedSettlingsStaySure, SureEntriesAreRead, UncalledDisksStaySure}
use Rattle.reopened_log_laws.specs.WasLeft.{WasLeft}
use Rattle.reopened_log_laws.proofs.CrashedSettlings.{stopped_stays, uncalled_stays}
use Rattle.reopened_log_laws.proofs.CutWrites.{left_as_read}
use Rattle.reopened_log_laws.proofs.LeftRuns.{run_written, whole_then}
use Rattle.reopened_log_laws.proofs.StoppedSettlings.{old_so, reopened_stops, stopped, stops_uncalled}
use Rattle.reopened_log_laws.proofs.Surviving.{old}
use Rattle.reopened_log_laws.proofs.WholeWords.{StateAssures-weaker, lawful-behind, upto-behind}
use Rattle.reopened_log_laws.proofs.WordImages.{quiet_assures}
use Rattle.reopened_log_laws.proofs.WrittenLogs.{written_sure}

-- ---- what is read

nowhere_fits : (size : ℕ) (IsThere : ℕ → Type 0) (Fits : ℕ → ℕ → List ℕ → Type 0) (segment : ℕ) (i : Option ImageSegment) → SegmentFits size IsThere Fits segment i → SegmentFits size IsNowhere Fits segment i
nowhere_fits size IsThere Fits segment None fits = λ none. none
nowhere_fits size IsThere Fits segment (Some i) fits = fits

module _ (size sysid : ℕ) (t : Tape) (found : List FoundRecord) (left : WasLeft size sysid t found) where
  -- a new log's opening of which nothing counts but these two numbers
  abbrev opening : Opening
  opening = record {
    setup = record { seg_size = size; ring_pages = 0; cap_segments = 0; sysid = sysid; passes = 0 };
    place = new_place size;
    made = 0;
    moment = 0;
    faults = 0;
  }

  abbrev valid : IsSegmentSize size
  valid = left.has_found.may.valid

  -- nothing lies below it
  abbrev lies : LiesBehind opening []
  lies = LiesBehind-new opening valid refl

  abbrev chained : IsChained size left.order
  chained = left.has_found.may.chained

  module _ (upto : ℕ) (sure : IsSureUpto size sysid left.order upto (state_now t)) where
    image_lawful : (image : DiskImage) → MayLeave (state_now t) image → IsLawful size sysid image left.order upto
    image_lawful image may =
        let order = left.order in
        let lawful = StateAssures-weaker size (IsAmong left.count) (IsZeroOrLogWord size sysid order) (IsLawfulAt opening order) (lawful-behind opening [] lies order valid chained) (state_now t) left.has_found.may.lawful in
        let below = StateAssures-weaker size (IsMadeUpto size upto) (IsLogUpto size sysid order upto) (IsLogBelow opening order upto) (upto-behind opening [] lies order valid chained upto) (state_now t) sure in
        let all = ImageFits-left size (IsAmong left.count) (IsLawfulAt opening order) (state_now t) image lawful may in
        let behind = IsLawfulBehind-left opening valid order (new_place-stands size sysid valid) image upto
        (ImageFits-left size (IsMadeUpto size upto) (IsLogBelow opening order upto) (state_now t) image below may)
        (λ segment. nowhere_fits size (IsAmong left.count) (IsLawfulAt opening order) segment (image segment) (all segment)) in
        let whole = whole_order opening valid [] lies order chained in
        IsLawful-whole opening order order image upto valid whole behind

    image_reads : (image : DiskImage) → MayLeave (state_now t) image → NoTornPass size (pages_in size image) left.order → (records : List FoundRecord) (answer : Answer) → Decodes size (pages_in size image) size None records answer → IsFrontUpto size left.order upto records
    image_reads image may none_torn records answer decodes =
        let m = left.has_found.may in
        lawful_images_decode_to_fronts size sysid upto image left.order m.valid m.known m.narrow m.chained m.bounded (image_lawful image may) none_torn records answer decodes

    all_read : IsFrontUpto size left.order upto found
    all_read = image_reads (image_as_read (state_now t)) (left_as_read size (state_now t) left.whole) left.has_found.none_torn found left.has_found.answer left.has_found.decodes

    -- ---- how long it stays so

    module _ (within : upto ≤ end_behind size found) (state : DiskState) (was : StateAssures size (IsAmong left.count) (IsOldOrZero size (state_now t) (end_behind size found)) state) where
      among_made : (segment : ℕ) → IsMadeUpto size upto segment → IsAmong left.count segment
      among_made segment made = elim (cases_lt left.count segment) [
        | inl beyond ↦ absurd (subst (SegmentAssures size (IsMadeUpto size upto) (IsLogUpto size sysid left.order upto) segment) (left.only segment (λ among. omega (arith, among.1, beyond))) (sure segment) made)
        | inr low ↦ (made.0, omega (arith, low))
      ]

      stays_here : (segment : ℕ) (s : Option Segment) → SegmentAssures size (IsAmong left.count) (IsOldOrZero size (state_now t) (end_behind size found)) segment s → SegmentAssures size (IsMadeUpto size upto) (IsLogUpto size sysid left.order upto) segment s
      stays_here segment None assures = λ made. assures (among_made segment made)
      stays_here segment (Some s) assures = (
        assures.0,
        λ page word inside low bytes may below. elim (assures.1 page word inside low bytes may).1 [
          | inl stands ↦ stands_fit size (IsMadeUpto size upto) (IsLogUpto size sysid left.order upto) (state_now t) valid sure (segment * pages_of size + page) word bytes (state_now t ((segment * pages_of size + page) / pages_of size)) refl low stands below
          | inr zero ↦ absurd (omega (arith, zero.0, below, within))
        ],
      )

      stays : IsSureUpto size sysid left.order upto state
      stays segment = stays_here segment (state segment) (was segment)

  -- behind a crash below the end nothing is left but what might have been left before
  crash_old : (handed moment : ℕ) (now crashed : Tape) → KeepsOld size (state_now t) left.count (end_behind size found) handed now → handed ≤ moment → IsLeftByCrash now moment crashed → StateAssures size (IsAmong left.count) (IsOldOrZero size (state_now t) (end_behind size found)) (state_now crashed)
  crash_old handed moment now crashed keeps since crash =
      quiet_assures size (IsAmong left.count) (IsOldOrZero size (state_now t) (end_behind size found)) (state_now crashed) crash.quiet (keeps.left moment since (image_as_read (state_now crashed)) crash.leaves)

pub sure_entries_are_read : SureEntriesAreRead
sure_entries_are_read size sysid upto t found left sure = (all_read size sysid t found left upto sure, image_reads size sysid t found left upto sure)

pub uncalled_disks_stay_sure : UncalledDisksStaySure
uncalled_disks_stay_sure size sysid t next found left is upto within sure =
    stays size sysid t found left upto sure within (state_now next) (elim is [
      | inl stops ↦ old_so size sysid t found left next (stops_uncalled size sysid t found left t (length t.calls) refl (omega arith) next stops)
      | inr crash ↦ crash_old size sysid t found left (length t.calls) (length t.calls) t next (uncalled_stays size sysid t found left) (omega arith) crash
    ])

pub stopped_settlings_stay_sure : StoppedSettlingsStaySure
stopped_settlings_stay_sure size sysid cap handed last moment t now next found left counted begun since is upto within sure =
    stays size sysid t found left upto sure within (state_now next) (elim is [
      | inl stops ↦ old_so size sysid t found left next (stopped size sysid t found left cap handed last moment now counted begun since next stops)
      | inr crash ↦ crash_old size sysid t found left handed moment now next (stopped_stays size sysid t found left cap handed last now counted begun) since crash
    ])

pub reopened_settlings_stay_sure : ReopenedSettlingsStaySure
reopened_settlings_stay_sure opening front handed moment t began next found r since is upto within sure =
    let size = (opening.setup).seg_size in
    let sysid = (opening.setup).sysid in
    stays size sysid t found r.left upto sure within (state_now next) (elim is [
      | inl stops ↦ old_so size sysid t found r.left next (reopened_stops opening front handed moment t began next found r since stops)
      | inr crash ↦ crash_old size sysid t found r.left handed moment began next (old opening front handed t began found r) since crash
    ])

-- ---- a run

pub runs_make_sure : RunsMakeSure
runs_make_sure opening front moment last began now next script lists lies run suited whole counted since is upto asked =
    let order = order_from (opening.setup).seg_size 1 script lists in
    let w = run_written opening front last began now script lists lies run suited counted in
    let words = keeps_words opening now last script lists run.machine w.suited in
    let there = whole_then opening began now run.goes_on counted whole in
    elim asked [
      | inl low ↦ written_sure opening front order now w there moment since next is upto opening.moment since
          (IsFirm-lower opening order upto (found_end opening) opening.moment now low words.found)
      | inr says ↦ written_sure opening front order now w there moment since next is upto moment (omega arith) (words.told moment upto says)
    ]
