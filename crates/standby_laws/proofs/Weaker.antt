-- What is asked of a disk's words may grow weaker for those of a page.
use Rattle.std.proofs.Common.{ℕ, ◌<◌, List, [], ◌∷◌, Option, Some, None}
use Rattle.std.specs.List.{AllByRecursion}
use Rattle.segment_disk.specs.declared.disk.Call.{Call}
use Rattle.segment_disk.specs.declared.disk.CallKind.{CallKind}
use Rattle.segment_disk.specs.declared.disk.CallKind.TheVariants.{Create, Write, Sync}
use Rattle.segment_disk.specs.Assured.{CallFits, KindFits, SegmentAssures, SegmentFits, TapeAssures}
use Rattle.segment_disk.specs.DiskImage.{ImageSegment}
use Rattle.segment_disk.specs.Tape.{Segment, Tape, state_now}

module _ (size : ℕ) (IsThere Asked : ℕ → Type 0) (Fits Others : ℕ → ℕ → List ℕ → Type 0) (fewer : (segment : ℕ) → Asked segment → IsThere segment) (weaker : (page word : ℕ) (bytes : List ℕ) → word < 1024 → Fits page word bytes → Others page word bytes) where
  fits_within : (segment : ℕ) (i : Option ImageSegment) → SegmentFits size IsThere Fits segment i → SegmentFits size Asked Others segment i
  fits_within segment None fits = λ asked. fits (fewer segment asked)
  fits_within segment (Some i) fits = (fits.0, λ page word within low. weaker _ _ _ low (fits.1 page word within low))

  pub assures_within : (segment : ℕ) (s : Option Segment) → SegmentAssures size IsThere Fits segment s → SegmentAssures size Asked Others segment s
  assures_within segment None assures = λ asked. assures (fewer segment asked)
  assures_within segment (Some s) assures = (assures.0, λ page word within low found may. weaker _ _ _ low (assures.1 page word within low found may))

  kind_within : (geometry segment : ℕ) (kind : CallKind) → KindFits size Fits geometry segment kind → KindFits size Others geometry segment kind
  kind_within geometry segment (Create made) fits = (fits.0, λ page word within low. weaker _ _ _ low (fits.1 page word within low))
  kind_within geometry segment (Write page bytes) fits = (fits.0, fits.1, λ word low. weaker _ _ _ low (fits.2 word low))
  kind_within geometry segment Sync fits = tt

  pub TapeAssures-within : (moment : ℕ) (t : Tape) → TapeAssures size IsThere Fits moment t → TapeAssures size Asked Others moment t
  TapeAssures-within moment t assures = record {
    calls = λ k call within. kind_within _ _ _ (assures.calls k call within);
    now = λ n. assures_within n (state_now t n) (assures.now n);
    left = λ m later image leaves. (let fits = assures.left m later image leaves in λ n. fits_within n (image n) (fits n));
  }

  pub calls_within : (calls : List Call) → AllByRecursion (CallFits size Fits) calls
      → AllByRecursion (CallFits size Others) calls
  calls_within [] fit = tt
  calls_within (call ∷ calls) fit =
      (kind_within call.geometry call.segment call.kind fit.0, calls_within calls fit.1)
