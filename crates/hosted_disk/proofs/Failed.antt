-- A call that failed leaves of a disk what one that was cut short may leave.
use Rattle.std.specs.Prelude.{Option, Some, None, if◌then◌else◌, ◌==◌, slice_get}
use Rattle.std.specs.Option.{IsSomeAnd}
use Rattle.std.proofs.Common.{◌≡◌, ◌⊎◌, inl, inr, ℕ, Bool, true, false, refl, sym, ap, ◌∙◌, subst}
use Rattle.segment_disk.specs.declared.disk.Call.{Call}
use Rattle.segment_disk.specs.declared.disk.CallKind.{CallKind}
use Rattle.segment_disk.specs.declared.disk.CallKind.TheVariants.{Create, Write, Sync}
use Rattle.segment_disk.specs.declared.disk.PageBytes.{PageBytes}
use Rattle.segment_disk.specs.DiskImage.{DiskImage, LeftAt, MayLeave, MayLeaveSegment, when_done}
use Rattle.segment_disk.specs.Tape.{DiskState, Segment, Tape, after_call, failed_call, segment_after, state_at}

same_arms : (b : Bool) (s : Option Segment) → (if b then s else s) ≡ s
same_arms true s = refl
same_arms false s = refl

written_alike : (page : ℕ) (bytes : PageBytes) (size : ℕ) (s : Option Segment)
    → segment_after (Write page bytes) size false s ≡ segment_after (Write page bytes) size true s
written_alike page bytes size None = refl
written_alike page bytes size (Some s) = refl

unsynced : (size : ℕ) (s : Option Segment) → segment_after Sync size false s ≡ s
unsynced size None = refl
unsynced size (Some s) = refl

-- states that are alike leave the same
left_alike : (old new : DiskState) (image : DiskImage)
    → ((segment : ℕ) → old segment ≡ new segment) → MayLeave old image → MayLeave new image
left_alike old new image same leaves = λ segment.
    subst (λ (s : Option Segment). MayLeaveSegment s (image segment)) (same segment) (leaves segment)

abbrev call_of : (geometry segment : ℕ) → CallKind → Bool → Call
call_of geometry segment kind done =
    record { geometry = geometry; segment = segment; kind = kind; done = done }

leaves_no_more : (state : DiskState) (image : DiskImage) (geometry segment : ℕ)
    (kind : CallKind) (done there : Bool)
    → MayLeave (after_call state (failed_call there (call_of geometry segment kind done))) image
    → MayLeave state image
    ⊎ IsSomeAnd (when_done (call_of geometry segment kind done))
    (λ whole. MayLeave (after_call state whole) image)
leaves_no_more state image geometry segment (Create made) done true leaves = inr leaves
leaves_no_more state image geometry segment (Create made) done false leaves =
    inl (left_alike
    (after_call state (failed_call false (call_of geometry segment (Create made) done))) state image
    (λ s. same_arms (s == segment) (state s)) leaves)
leaves_no_more state image geometry segment (Write page bytes) done there leaves =
    inr (left_alike
    (after_call state (failed_call there (call_of geometry segment (Write page bytes) done)))
    (after_call state (call_of geometry segment (Write page bytes) true)) image
    (λ s. ap (λ (x : Option Segment). if s == segment then x else state s)
    (written_alike page bytes geometry (state s))) leaves)
leaves_no_more state image geometry segment Sync done there leaves =
    inl (left_alike (after_call state (failed_call there (call_of geometry segment Sync done))) state
    image (λ s. ap (λ (x : Option Segment). if s == segment then x else state s)
    (unsynced geometry (state s)) ∙ same_arms (s == segment) (state s)) leaves)

at_next : (tape : Tape) (made : ℕ) (call : Call) (image : DiskImage)
    → slice_get tape.calls made ≡ Some call
    → MayLeave (state_at tape made) image
    ⊎ IsSomeAnd (when_done call) (λ whole. MayLeave (after_call (state_at tape made) whole) image)
    → LeftAt tape made image
at_next tape made call image is (inl leaves) = inl leaves
at_next tape made call image is (inr leaves) = inr (subst (λ (o : Option Call).
    IsSomeAnd o (λ c. IsSomeAnd (when_done c)
    (λ whole. MayLeave (after_call (state_at tape made) whole) image))) (sym is) leaves)

pub failed_left : (tape : Tape) (made : ℕ) (call : Call) (there : Bool) (image : DiskImage)
    → slice_get tape.calls made ≡ Some call
    → MayLeave (after_call (state_at tape made) (failed_call there call)) image
    → LeftAt tape made image
failed_left tape made call there image is leaves = at_next tape made call image is
    (leaves_no_more (state_at tape made) image call.geometry call.segment call.kind call.done there
    leaves)
