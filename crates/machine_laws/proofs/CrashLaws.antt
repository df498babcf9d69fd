-- Images that a crash leaves are lawful, and hold what was promised.
use Rattle.std.proofs.Common.{◌≡◌, ◌≢◌, ℕ, ◌+◌, ◌-◌, ◌*◌, ◌/◌, ◌%◌, ◌<◌, ◌≤◌, ◌⊎◌, inl, inr, All, List, drop, Some, None, IfSome, sym, ap, subst, ◌∙◌, arith}
use Rattle.std.specs.Int.{w64, to_le_bytes}
use Rattle.std.proofs.lemmas.Bool.{cases_eq, cases_lt}
use Rattle.std.proofs.lemmas.List.Elements.{All-weaker}
use Rattle.std.proofs.Math.Nat.{le-div_iff_mul-le}
use Rattle.byte_position.specs.Geometry.{IsSegmentSize, pages_of}
use Rattle.byte_position.proofs.SegmentSizes.{segment_size_in_pages}
use mathlib.Core.Option.{none, some, some-ne-none}
use Rattle.segment_disk.specs.declared.disk.Call.{Call}
use Rattle.segment_disk.specs.declared.disk.CallKind.{CallKind}
use Rattle.segment_disk.specs.declared.disk.CallKind.TheVariants.{Create, Write, Sync}
use Rattle.segment_disk.specs.DiskImage.{DiskImage}
use Rattle.segment_disk.specs.Tape.{DiskState, Tape}
use Rattle.segment_disk.specs.Assured.{CallFits, DiskImageFits, IsMadeUpto, IsNowhere, KindFits, SegmentFits, TapeAssures}
use Rattle.flush_core.proofs.LeftPuts.{div_rises}
use Rattle.wal_page.specs.Order.{Entry}
use Rattle.wal_page.specs.LogPlace.{IsPlace}
use Rattle.wal_page.proofs.PlaceLaws.{word_from-before}
use Rattle.segment_disk.specs.ImageWords.{HasPageAt, image_word, zero_word}
use Rattle.flush_core.proofs.LawfulLaws.{word_fits, word_stands_at}
use Rattle.machine_state.specs.Words.{Opening}
use Rattle.machine_state.specs.Views.{HasAt, Hold, Out, Joined, Lent, Plain, FlushPromise, Receipts, View, writer_of}
use Rattle.machine_state.specs.Locked.{IsWriteTurn}
use Rattle.machine_state.specs.Moves.{fault_number, CallOutcome, with_outcome}
use Rattle.machine_state.specs.Steps.{MayStep, create, number_lent, set_down, sync, value_behind, write}
use Rattle.machine_state.specs.Durable.{AreKept, DurabilityHolds, IsFirm, IsPromiseKept, IsLawfulAt, IsLogBelow}
use Rattle.machine_laws.specs.Crashes.{CrashesLeave, DownTells, HoldsPromise, IsLawfulBehind, LeavesLawful, PutsZeros}
use Rattle.machine_laws.proofs.DurableAssured.{stands_out}
use Rattle.machine_state.proofs.Tapes.{at_suited, at_told, began_still, counted_on, on_tape, told_suited}
use Rattle.machine_state.specs.Suited.{tape_from, BeganSuited, IfSuited}
use Rattle.machine_state.specs.Ringed.{log_bytes_of}

module _ (opening : Opening) (valid : IsSegmentSize opening.setup.seg_size) (order : List Entry)
    (placed : IsPlace opening.setup.seg_size opening.place) (image : DiskImage) where
  abbrev size : ℕ
  size = opening.setup.seg_size

  lawful_words : DiskImageFits opening.setup.seg_size IsNowhere (IsLawfulAt opening order) image
      → (k : ℕ) → (image_word opening.setup.seg_size image (8 * k) ≡ zero_word)
      ⊎ (image_word opening.setup.seg_size image (8 * k) ≡ log_bytes_of opening order (8 * k))
  lawful_words fits k =
      let place = word_stands_at size valid k in
      let segment = 8 * k / size in
      elim (word_fits size IsNowhere (IsLawfulAt opening order) segment (8 * k % size)
      (image segment) place.within place.low (fits segment)) [
        | inl absent ↦ inl absent.1
        | inr there ↦ subst (λ (a : ℕ). (image_word size image (8 * k) ≡ zero_word)
            ⊎ (image_word size image (8 * k) ≡ log_bytes_of opening order a)) place.at there.1
      ]

  module _ (upto : ℕ) (fits : DiskImageFits opening.setup.seg_size
      (IsMadeUpto opening.setup.seg_size upto) (IsLogBelow opening order upto) image) where
    is_made : (k : ℕ) → size ≤ 8 * k → 8 * k < upto → IsMadeUpto size upto (8 * k / size)
    is_made k from below =
        let whole = segment_size_in_pages size valid in
        let some_size : 0 < size = omega (arith, whole.0, whole.1) in (
          (le-div_iff_mul-le some_size).1 (omega arith),
          div_rises (8 * k) (upto - 1) size (omega arith),
        )

    kept_word : (k : ℕ) → 8 * k < upto
        → (image_word size image (8 * k) ≡ log_bytes_of opening order (8 * k))
        × (size ≤ 8 * k → HasPageAt size image (8 * k))
    kept_word k below =
        let place = word_stands_at size valid k in
        let segment = 8 * k / size in
        elim (word_fits size (IsMadeUpto size upto) (IsLogBelow opening order upto) segment
        (8 * k % size) (image segment) place.within place.low (fits segment)) [
          | inl absent ↦ elim (cases_lt (8 * k) size) [
            | inl before ↦ (
              absent.1 ∙ ap (to_le_bytes w64) (sym (word_from-before size opening.setup.sysid valid
                  opening.place placed order (8 * k) before)),
              λ from. absurd (omega arith),
            )
            | inr from ↦ absurd (let none : SegmentFits size (IsMadeUpto size upto)
                (IsLogBelow opening order upto) segment None =
                subst (SegmentFits size (IsMadeUpto size upto) (IsLogBelow opening order upto)
                segment) absent.0 (fits segment) in none (is_made k from below))
          ]
          | inr there ↦ (
            there.1 (omega (arith, place.at))
                ∙ ap (log_bytes_of opening order) place.at,
            λ from. there.0,
          )
        ]

    pub IsLawfulBehind-left : DiskImageFits opening.setup.seg_size IsNowhere
        (IsLawfulAt opening order) image
        → IsLawfulBehind opening order image upto
    IsLawfulBehind-left only = record {
      words = lawful_words only;
      below = λ k below. (kept_word k below).0;
      there = λ k below from. (kept_word k below).1 from;
    }

module _ {first : DiskState} (o : Opening) (order : List Entry) (flushed moment down : ℕ) (home : _) (writer : Plain)
    (parts : List Receipts) (h : DurabilityHolds first o order flushed moment down home writer parts)
    (valid : IsSegmentSize (o.setup).seg_size)
    (placed : IsPlace (o.setup).seg_size o.place) where
  module _ (t : Tape) (is : tape_from first writer.calls ≡ Some t) (suited : BeganSuited o t) where
    only_log : TapeAssures (o.setup).seg_size IsNowhere (IsLawfulAt o order) o.moment t
    only_log = at_suited first o writer
        (TapeAssures (o.setup).seg_size IsNowhere (IsLawfulAt o order) o.moment)
        t is suited h.lawful

    firm_lawful : (upto from : ℕ) → o.moment ≤ from → IsFirm o order upto from t
        → LeavesLawful o order upto from t
    firm_lawful upto from since firm = λ at image later leaves.
        IsLawfulBehind-left o valid order placed image upto (firm.left at later image leaves)
        (only_log.left at (omega arith) image leaves)

    keeps_promises : (es : List Entry) (ps : List FlushPromise) → AreKept o order t es ps
        → All (HoldsPromise o order t es) ps
    keeps_promises es ps kept = All-weaker (IsPromiseKept o order t es) (HoldsPromise o order t es)
        (λ p k. record {
          kept = firm_lawful p.upto p.moment k.since k.firm;
          later = k.later;
        }) ps kept

    -- nothing was put where the log has zeros
    puts_zeros : (geometry segment : ℕ) (kind : CallKind)
        → KindFits (o.setup).seg_size (IsLawfulAt o order) geometry segment kind
        → PutsZeros o order segment kind
    puts_zeros geometry segment (Create made) fits = tt
    puts_zeros geometry segment (Write page bytes) fits =
        let size = (o.setup).seg_size in
        let whole = segment_size_in_pages size valid in
        let product : segment * size ≡ segment * (8192 * pages_of size) =
        ap (λ (m : ℕ). segment * m) whole.0 in
        λ n low zeros.
        let at : (segment * pages_of size + page) * 8192 + 8 * n
        ≡ segment * size + page * 8192 + 8 * n = omega arith in
        elim (fits.2 n low) [
          | inl blank ↦ blank
          | inr own ↦ own ∙ ap (log_bytes_of o order) at ∙ ap (to_le_bytes w64) zeros
        ]
    puts_zeros geometry segment Sync fits = tt

    left_behind : CrashesLeave o order flushed moment t parts
    left_behind = record {
      only = λ at image later leaves. record {
        words = lawful_words o valid order placed image
            (only_log.left at later image leaves);
        below = λ k below. absurd (omega arith);
        there = λ k below from. absurd (omega arith);
      };
      flushed_kept = firm_lawful flushed moment h.begun
          (at_suited first o writer (IsFirm o order flushed moment) t is suited h.firm);
      zeros = All-weaker (CallFits (o.setup).seg_size (IsLawfulAt o order))
          (λ (c : Call). PutsZeros o order c.segment c.kind)
          (λ c fits. puts_zeros c.geometry c.segment c.kind fits) (drop o.moment t.calls)
          only_log.calls;
      own = λ id x here. keeps_promises x.entries (x.writing).promises
          (at_suited first o writer (λ t. AreKept o order t x.entries (x.writing).promises) t is suited
          (h.views id x here).own);
      joined = λ id x here. All-weaker
          (λ (j : Joined). AreKept o order t j.entries j.promises)
          (λ (j : Joined). All (HoldsPromise o order t j.entries) j.promises)
          (λ j kept. keeps_promises j.entries j.promises kept) x.joined
          (at_suited first o writer (λ t. All (λ
          (j : Joined). AreKept o order t j.entries j.promises) x.joined)
          t is suited (h.views id x here).joined);
    }

  pub crashes_leave_the_log : IfSuited first o writer
      (λ t. CrashesLeave o order flushed moment t parts)
  crashes_leave_the_log = told_suited first o writer left_behind

-- a call leaves what the disk held when the log was opened
pub stays_suited : {first : DiskState} (o : Opening) (order : List Entry) (flushed moment down : ℕ) (home : _)
    (writer : Plain) (parts : List Receipts) (call : Call) (outcome : CallOutcome)
    → DurabilityHolds first o order flushed moment down home writer parts
    → IfSome (tape_from first writer.calls) (BeganSuited o)
    → IfSome (tape_from first (with_outcome call outcome writer).calls) (BeganSuited o)
stays_suited {first} o order flushed moment down home writer parts call outcome h suited =
    on_tape first (BeganSuited o) call outcome writer (λ t is.
    let counts = counted_on first writer.moment writer.calls t is h.counted in
    began_still o call outcome t (omega (arith, h.begun, h.moment_low, counts))
    (at_told (BeganSuited o) (tape_from first writer.calls) t is suited))

-- ---- the down value

zero_or : (n down : ℕ) → (n ≢ 0 → n ≡ down) → (n ≡ 0) ⊎ (n ≡ down)
zero_or n down is = elim (cases_eq n 0) [ inl zeros ↦ inl zeros | inr some_n ↦ inr (is some_n) ]

module _ {first : DiskState} (o : Opening) (order : List Entry) (flushed moment down : ℕ) (home : _)
    (writer : Plain) (parts : List Receipts)
    (h : DurabilityHolds first o order flushed moment down home writer parts) where
  no_fault : writer.fault ≡ none → down ≡ 0
  no_fault up = elim (cases_eq down 0) [
    | inl zeros ↦ zeros
    | inr is_down ↦ absurd (some-ne-none down (sym (h.down_is is_down) ∙ up))
  ]

  pub down_tells : DownTells o down home writer parts
  down_tells = record {
    is_met = λ is_down. (h.down_is is_down, h.fault_rose down (h.down_is is_down));
    at_home = λ there. (h.down_at_home there, no_fault);
    views = λ id x here. let a = h.views id x here in (
      zero_or (x.writing).down_met down a.down_met,
      zero_or (x.writing).down_set down a.down_set,
    );
  }

  module _ (is_down : down ≢ 0) (id : ℕ) (v : View) (turn : ℕ) (writers : List (ℕ × Hold))
      (has : IsWriteTurn turn home writer writers) (at : HasAt writers id (writer_of v)) where
    fault_in_hand : (l : Lent) → (v.writing).hold ≡ Out l → (l.writer).fault ≡ some down
    fault_in_hand l is =
        ap (λ (p : Plain). p.fault) (stands_out turn has.holder home writer id
        (v.reserving).number (v.writing).hold l is (has.each id (writer_of v) at)).1
        ∙ h.down_is is_down

    stuck : (l : Lent) → (v.writing).hold ≡ Out l → (l.writer).fault ≡ none → ⊥
    stuck l is up = some-ne-none down (sym (fault_in_hand l is) ∙ up)

    -- once it is not 0 it stays, and no call follows
    pub down_stays : (met : ℕ) → MayStep v set_down → value_behind v set_down met ≡ down
    down_stays met may =
        let l = may.0 in
        ap (number_lent v (λ l. fault_number (l.writer).fault)) may.1
        ∙ ap fault_number (fault_in_hand l may.1)

    pub no_create : (segment : ℕ) (outcome : CallOutcome) → MayStep v (create segment outcome) → ⊥
    no_create segment outcome may = stuck may.0.0 may.0.1 (may.0.2).up

    pub no_write : (segment page upto : ℕ) (bytes : List ℕ) (outcome : CallOutcome)
        → MayStep v (write segment page upto bytes outcome) → ⊥
    no_write segment page upto bytes outcome may = stuck may.0.0 may.0.1 (may.0.2).up

    pub no_sync : (segment : ℕ) (outcome : CallOutcome) → MayStep v (sync segment outcome) → ⊥
    no_sync segment outcome may = stuck may.0.0 may.0.1 (may.0.2).up
