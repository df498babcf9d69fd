-- What a disk's state assures of one segment.
use Rattle.std.proofs.Common.{ℕ, ◌+◌, ◌*◌, ◌<◌, All, List, Option, Some, None}
use Rattle.byte_position.specs.Geometry.{pages_of}
use Rattle.segment_disk.specs.Tape.{Segment}
use Rattle.segment_disk.specs.Assured.{SegmentAssures}

-- less may be asked of it, where its own words meet that
pub SegmentAssures-weaker : (size : ℕ) (IsThere Asked : ℕ → Type 0)
    (Fits Others : ℕ → ℕ → List ℕ → Type 0) (segment : ℕ) → (Asked segment → IsThere segment)
    → ((page word : ℕ) → page < pages_of size → word < 1024 → (bytes : List ℕ)
    → Fits (segment * pages_of size + page) word bytes
    → Others (segment * pages_of size + page) word bytes)
    → (s : Option Segment) → SegmentAssures size IsThere Fits segment s
    → SegmentAssures size Asked Others segment s
SegmentAssures-weaker size IsThere Asked Fits Others segment fewer weaker None assures =
    λ asked. assures (fewer asked)
SegmentAssures-weaker size IsThere Asked Fits Others segment fewer weaker (Some s) assures = (
  assures.0,
  λ page word within low found may.
      weaker page word within low found (assures.1 page word within low found may),
)

-- two facts of each
pub All-both : {A : Type 0} (P Q R : A → Type 0) → ((x : A) → P x → Q x → R x) → (xs : List A)
    → All P xs → All Q xs → All R xs
All-both P Q R f xs p q = λ k d within. f _ (p k d within) (q k d within)
