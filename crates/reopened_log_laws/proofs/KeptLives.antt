-- What is kept of a log from one life to the next.
use Rattle.std.proofs.Common.{◌≡◌, ℕ, ◌^◌, ◌<◌, ◌≤◌, All, Contains, List, [], ◌++◌, length, Option, Some, IfSome, inl, inr, refl, sym, subst, arith}
use Rattle.std.proofs.lemmas.List.Elements.{All-append, All-weaker}
use Rattle.byte_position.specs.Geometry.{pages_of}
use Rattle.segment_disk.specs.DiskImage.{image_as_read}
use Rattle.segment_disk.specs.Tape.{Segment, Tape, page_as_read, state_at, state_now}
use Rattle.flush_core.specs.Pages.{HoldsNothing}
use Rattle.flush_core.specs.Settled.{HaveWholePages}
use Rattle.flush_core.specs.SettledLog.{AreOnly}
use Rattle.wal_page.specs.Order.{Entry}
use Rattle.wal_reader.specs.declared.found.FoundRecord.{FoundRecord}
use Rattle.wal_reader.specs.Pages.{pages_in}
use Rattle.written_log_laws.specs.Torn.{NoTornPass}
use Rattle.written_log_laws.specs.Written.{found_of}
use Rattle.found_log.specs.Found.{HasBegunToSettle}
use Rattle.machine_state.specs.Durable.{IsFirm}
use Rattle.machine_state.specs.Words.{Opening, found_end}
use Rattle.machine_laws.proofs.DurableGrowth.{IsFirm-lower}
use Rattle.run_laws.specs.Assured.{TapeGoesOn}
use Rattle.reopened_log_laws.specs.Reopened.{IsReopenedOn}
use Rattle.reopened_log_laws.specs.Sure.{IsLeftAt, StaysSure}
use Rattle.reopened_log_laws.specs.WasLeft.{WasLeft, WasLeftOf}
use Rattle.reopened_log_laws.proofs.CrashedSettlings.{crashed_disks_were_left, crashed_reopened_settlings_were_left, crashed_stopped_settlings_were_left}
use Rattle.reopened_log_laws.proofs.EmptyDisks.{empty_disks_were_left}
use Rattle.reopened_log_laws.proofs.FirstEntries.{left_logs_are_read}
use Rattle.reopened_log_laws.proofs.KeptRecords.{IsSureRecord, contains_longer, kept_found, kept_low}
use Rattle.reopened_log_laws.proofs.LeftRuns.{only_then, whole_then}
use Rattle.reopened_log_laws.proofs.StoppedRuns.{stops_before}
use Rattle.reopened_log_laws.proofs.StoppedSettlings.{began_whole, left_so, reopened_settlings_were_left, stopped_settlings_were_left, stops_uncalled}
use Rattle.reopened_log_laws.proofs.SuitedDisks.{end_is, only_began}
use Rattle.reopened_log_laws.proofs.SureDisks.{reopened_settlings_stay_sure, stopped_settlings_stay_sure, uncalled_disks_stay_sure}
use Rattle.reopened_log_laws.proofs.Surviving.{calls_counted, early_leaves}
use Rattle.reopened_log_laws.proofs.WrittenLogs.{IsWrittenLog, found_firm, written_left, written_sure}

-- a disk that was left with an order's log, and records that are sure on it
pub record KeepsSure (size sysid : ℕ) (t : Tape) (order : List Entry) (hard : List FoundRecord)
    : Type 0 where
  pub found : List FoundRecord
  pub left : WasLeftOf size sysid order t found
  pub kept : All (IsSureRecord size sysid order (state_now t)) hard

-- what follows for the order that a disk was left with follows for its log
pub with_left : (size sysid : ℕ) (t : Tape) (order : List Entry) (hard : List FoundRecord)
    (C : List Entry → Type 0) → KeepsSure size sysid t order hard
    → ((found : List FoundRecord) (left : WasLeft size sysid t found)
    → All (IsSureRecord size sysid left.order (state_now t)) hard → C left.order) → C order
with_left size sysid t order hard C k follows =
    subst C k.left.1 (follows k.found k.left.0
    (subst (λ (o : List Entry). All (IsSureRecord size sysid o (state_now t)) hard) (sym k.left.1)
    k.kept))

-- no torn record of an order passes its CRC, as a disk is read
abbrev pub NoneTorn : (size : ℕ) → List Entry → Tape → Type 0
NoneTorn size order next = NoTornPass size (pages_in size (image_as_read (state_now next))) order

-- ---- lives in which the order stays

module _ (size sysid : ℕ) (t next : Tape) (found : List FoundRecord)
    (left : WasLeft size sysid t found) (hard : List FoundRecord)
    (kept : All (IsSureRecord size sysid left.order (state_now t)) hard) where
  keeps_all : (again : (records : List FoundRecord) × WasLeftOf size sysid left.order next records)
      → StaysSure size sysid t found left next → KeepsSure size sysid next left.order hard
  keeps_all again stays = record {
    found = again.0;
    left = again.1;
    kept = All-weaker (IsSureRecord size sysid left.order (state_now t))
        (IsSureRecord size sysid left.order (state_now next))
        (λ r k. (k.0, stays r.head.end.0 (kept_low size sysid t found left r k) k.1)) hard kept;
  }

  -- no call was made
  uncalled_again : IsLeftAt t (length t.calls) next → NoneTorn size left.order next
      → (records : List FoundRecord) × WasLeftOf size sysid left.order next records
  uncalled_again (inl stops) none_torn = (
    found,
    left_so size sysid t found left next
        (stops_uncalled size sysid t found left t (length t.calls) refl (omega arith) next stops)
        none_torn,
  )
  uncalled_again (inr crash) none_torn =
      crashed_disks_were_left size sysid t next found left crash none_torn

  pub uncalled_keeps : IsLeftAt t (length t.calls) next → NoneTorn size left.order next
      → KeepsSure size sysid next left.order hard
  uncalled_keeps is none_torn = keeps_all (uncalled_again is none_torn)
      (uncalled_disks_stay_sure size sysid t next found left is)

  -- the disk failed while its log was settled
  module _ (cap handed last moment : ℕ) (now : Tape) (counted : handed ≡ length t.calls)
      (begun : HasBegunToSettle size cap (Some t) (Some now) handed last)
      (since : handed ≤ moment) where
    failed_again : IsLeftAt now moment next → NoneTorn size left.order next
        → (records : List FoundRecord) × WasLeftOf size sysid left.order next records
    failed_again (inl stops) none_torn = (
      found,
      stopped_settlings_were_left size sysid cap handed last moment t now next found left counted
          begun since stops none_torn,
    )
    failed_again (inr crash) none_torn =
        crashed_stopped_settlings_were_left size sysid cap handed last moment t now next found left
        counted begun since crash none_torn

    pub failed_keeps : IsLeftAt now moment next → NoneTorn size left.order next
        → KeepsSure size sysid next left.order hard
    failed_keeps is none_torn = keeps_all (failed_again is none_torn)
        (stopped_settlings_stay_sure size sysid cap handed last moment t now next found left
        counted begun since is)

-- ---- a log that was gone on with, until it was opened

module _ (opening : Opening) (front : List Entry) (handed moment : ℕ) (t began now next : Tape)
    (found : List FoundRecord) (r : IsReopenedOn opening front handed t began found)
    (goes_on : TapeGoesOn (Some began) (Some now)) (hard : List FoundRecord)
    (kept : All (IsSureRecord (opening.setup).seg_size (opening.setup).sysid (r.left).order
    (state_now t)) hard)
    (since : handed ≤ moment) (early : moment < opening.moment) where
  left_early : IsLeftAt now moment next → IsLeftAt began moment next
  left_early (inl stops) = inl (stops_before opening began now goes_on
      (calls_counted opening front handed t began found r) moment early next stops)
  left_early (inr crash) = inr (record {
    quiet = crash.quiet;
    leaves = early_leaves opening front handed t began found r now goes_on moment
        (image_as_read (state_now next)) crash.leaves early;
  })

  settled_again : IsLeftAt began moment next → NoneTorn (opening.setup).seg_size (r.left).order
      next
      → (records : List FoundRecord) × WasLeftOf (opening.setup).seg_size (opening.setup).sysid
      (r.left).order next records
  settled_again (inl stops) none_torn = (
    found,
    reopened_settlings_were_left opening front handed moment t
        began next found r since stops none_torn,
  )
  settled_again (inr crash) none_torn = crashed_reopened_settlings_were_left opening front handed moment t
      began next found r since crash none_torn

  pub settled_keeps : IsLeftAt now moment next → NoneTorn (opening.setup).seg_size
      (r.left).order next
      → KeepsSure (opening.setup).seg_size (opening.setup).sysid next (r.left).order hard
  settled_keeps is none_torn = keeps_all (opening.setup).seg_size (opening.setup).sysid t next
      found r.left hard kept (settled_again (left_early is) none_torn)
      (reopened_settlings_stay_sure opening front handed moment t began next found r since
      (left_early is))

-- ---- a log that is written

-- a record of the whole order, below whose end all is firm from a moment on, or an earlier one
abbrev pub IsFirmRecord : Opening → (front order : List Entry) → Tape → (moment : ℕ)
    → FoundRecord → Type 0
IsFirmRecord opening front order t moment f =
    Contains (found_of (opening.setup).seg_size (front ++ order)) f
    × (from : ℕ) × (from ≤ moment) × IsFirm opening order f.head.end.0 from t

module _ (opening : Opening) (front order : List Entry) (now : Tape)
    (w : IsWrittenLog opening front order now)
    (only : AreOnly opening.made (state_at now opening.moment))
    (few : opening.made ≤ (opening.setup).cap_segments)
    (narrow : (opening.setup).sysid < 2 ^ 64)
    (whole : HaveWholePages (opening.setup).seg_size (state_at now opening.moment)) (moment : ℕ)
    (since : opening.moment ≤ moment)
    (next : Tape) (is : IsLeftAt now moment next) (none_torn : NoneTorn (opening.setup).seg_size
    (front ++ order) next) where
  written_keeps : (hard : List FoundRecord) → All (IsFirmRecord opening front order now moment) hard
      → KeepsSure (opening.setup).seg_size (opening.setup).sysid next (front ++ order) hard
  written_keeps hard firm =
      let again = written_left opening front order now w only few narrow whole moment since next is
      none_torn in
      record {
        found = again.0;
        left = again.1;
        kept = All-weaker (IsFirmRecord opening front order now moment)
            (IsSureRecord (opening.setup).seg_size (opening.setup).sysid (front ++ order)
            (state_now next))
            (λ f k. (
              k.0,
              written_sure opening front order now w whole moment since next is f.head.end.0 k.1
                  k.2 k.3,
            )) hard firm;
      }

-- that was gone on with
module _ (opening : Opening) (front : List Entry) (handed moment : ℕ) (t began now next : Tape)
    (found : List FoundRecord) (r : IsReopenedOn opening front handed t began found)
    (order : List Entry) (w : IsWrittenLog opening front order now)
    (goes_on : TapeGoesOn (Some began) (Some now)) (hard : List FoundRecord)
    (kept : All (IsSureRecord (opening.setup).seg_size (opening.setup).sysid (r.left).order
    (state_now t)) hard)
    (since : opening.moment ≤ moment) where
  -- what was kept is found, and comes first
  still_firm : (f : FoundRecord) → IsSureRecord (opening.setup).seg_size (opening.setup).sysid
      (r.left).order (state_now t) f
      → IsFirmRecord opening front order now moment f
  still_firm f k =
      let size = (opening.setup).seg_size in
      let sysid = (opening.setup).sysid in
      let longer = contains_longer size front order f
      (subst (λ (l : List FoundRecord). Contains l f) (sym r.found_is)
      (kept_found size sysid t found r.left f k)) in (
        longer,
        opening.moment,
        since,
        IsFirm-lower opening order f.head.end.0 (found_end opening) opening.moment now
            (omega (
              arith,
              kept_low size sysid t found r.left f k,
              end_is opening front handed t began
                  found r,
            )) (found_firm opening front order now w),
      )

  pub reopened_keeps : IsLeftAt now moment next
      → NoneTorn (opening.setup).seg_size (front ++ order) next
      → (more : List FoundRecord) → All (IsFirmRecord opening front order now moment) more
      → KeepsSure (opening.setup).seg_size (opening.setup).sysid next (front ++ order)
      (hard ++ more)
  reopened_keeps is none_torn more told =
      let counted = calls_counted opening front handed t began found r in
      written_keeps opening front order now w (only_then opening began now goes_on counted
      (only_began opening front handed t began found r)) (r.openable).made_within
      r.left.has_found.may.narrow
      (whole_then opening began now goes_on counted (began_whole opening front handed t began found r))
      moment since next is none_torn (hard ++ more)
      (All-append (IsFirmRecord opening front order now moment) hard more
      (All-weaker (IsSureRecord (opening.setup).seg_size (opening.setup).sysid (r.left).order
      (state_now t)) (IsFirmRecord opening front order now moment) still_firm hard kept) told)

-- ---- a log that begins

-- on a disk that holds nothing no record is sure
pub none_kept : (size sysid : ℕ) (t : Tape) (found : List FoundRecord)
    → (left : WasLeft size sysid t found) → HoldsNothing (Some t) → (f : FoundRecord)
    → IsSureRecord size sysid left.order (state_now t) f → ⊥
none_kept size sysid t found left nothing f kept =
    let m = left.has_found.may in
    let empty = (empty_disks_were_left size sysid t m.valid m.known m.narrow nothing).0 in
    let none : [] ≡ found = left_logs_are_read size sysid t found [] empty.has_found.answer left
    empty.has_found.decodes in
    let c = subst (λ (l : List FoundRecord). Contains l f) (sym none)
    (kept_found size sysid t found left f kept) in
    omega (arith, c.1)

module _ (opening : Opening) (moment : ℕ) (t now next : Tape) (order : List Entry)
    (w : IsWrittenLog opening [] order now) (goes_on : TapeGoesOn (Some t) (Some now))
    (nothing : HoldsNothing (Some t)) (none_made : opening.made ≡ 0)
    (counted : opening.moment ≡ length t.calls) (narrow : (opening.setup).sysid < 2 ^ 64)
    (since : opening.moment ≤ moment) (is : IsLeftAt now moment next) where
  none_there : AreOnly opening.made (state_now t)
  none_there = λ segment apart. nothing segment

  empty_whole : HaveWholePages (opening.setup).seg_size (state_now t)
  empty_whole segment = subst (λ (o : Option Segment). IfSome o
      (λ s. (s.pages ≡ pages_of (opening.setup).seg_size)
      × ((page : ℕ) → page < s.pages → length (page_as_read s page) ≡ 8192)))
      (sym (nothing segment)) tt

  pub begun_keeps : NoneTorn (opening.setup).seg_size order next
      → (more : List FoundRecord) → All (IsFirmRecord opening [] order now moment) more
      → (hard : List FoundRecord) → All (λ f. ⊥) hard
      → KeepsSure (opening.setup).seg_size (opening.setup).sysid next order (hard ++ more)
  begun_keeps none_torn more told hard none =
      written_keeps opening [] order now w (only_then opening t now goes_on counted none_there)
      (omega (arith, none_made)) narrow
      (whole_then opening t now goes_on counted empty_whole) moment since next is none_torn
      (hard ++ more)
      (All-append (IsFirmRecord opening [] order now moment) hard more
      (All-weaker (λ (f : FoundRecord). ⊥) (IsFirmRecord opening [] order now moment)
      (λ f no. absurd no) hard none) told)
