-- Where segments are made one behind another, whatever a crash leaves has those from 1 to some
-- number and no other.
use Rattle.std.proofs.Common.{◌≡◌, ℕ, zero, suc, ◌+◌, ◌≤◌, ◌<◌, Bool, true, false, List, [], ◌∷◌, drop, take, Option, Some, None, is_some, inl, inr, refl, sym, ap, subst, ◌∙◌, arith}
use Rattle.std.specs.Prelude.{IsSome}
use Rattle.std.specs.Option.{IsSomeAnd}
use Rattle.std.proofs.lemmas.Bool.{cond-true, lt-ltb}
use Rattle.byte_position.specs.Geometry.{pages_of}
use Rattle.segment_disk.specs.declared.disk.Call.{Call}
use Rattle.segment_disk.specs.declared.disk.CallKind.{CallKind}
use Rattle.segment_disk.specs.declared.disk.CallKind.TheVariants.{Create, Write, Sync}
use Rattle.segment_disk.specs.Assured.{SegmentFits, DiskImageFits}
use Rattle.segment_disk.specs.DiskImage.{DiskImage, ImageSegment, LeftAt, MayLeave, MayLeaveSegment, image_as_read, when_done}
use Rattle.segment_disk.specs.Tape.{DiskState, Segment, Tape, after_call, after_calls, page_as_read, page_of_segment, segment_after, state_at}
use Rattle.segment_disk.proofs.Presence.{is_some-kept}
use Rattle.flush_core.specs.Settled.{AreThere, IsAmong}
use Rattle.flush_core.specs.SettledLog.{AreOnly}
use Rattle.flush_core.proofs.StateLaws.{after_each}
use Rattle.machine_state.specs.Made.{MakeInTurn, MakesNext, last_behind}
use Rattle.reopened_log_laws.specs.Again.{HasMadeInTurn}

-- ---- which segments are there

-- those from 1 to this one, and no other
pub record AreFirst (count : ℕ) (is_there : ℕ → Bool) : Type 0 where
  pub there : (segment : ℕ) → IsAmong count segment → is_there segment ≡ true
  pub only : (segment : ℕ) → (IsAmong count segment → ⊥) → is_there segment ≡ false

abbrev on_disk : DiskState → ℕ → Bool
on_disk state segment = is_some (state segment)

abbrev pub on_image : DiskImage → ℕ → Bool
on_image image segment = is_some (image segment)

same_first : (count : ℕ) (one other : ℕ → Bool) → ((segment : ℕ) → other segment ≡ one segment)
    → AreFirst count one → AreFirst count other
same_first count one other same first = record {
  there = λ segment among. same segment ∙ first.there segment among;
  only = λ segment apart. same segment ∙ first.only segment apart;
}

-- ---- a call

module _ (count : ℕ) (state : DiskState) (first : AreFirst count (on_disk state)) where
  kept_first : (call : Call)
      → ((s : Option Segment) → is_some (segment_after call.kind call.geometry call.done s) ≡ is_some s)
      → AreFirst count (on_disk (after_call state call))
  kept_first call keeps = same_first count (on_disk state) (on_disk (after_call state call))
      (λ segment. after_each state call (λ (o : Option Segment). is_some o ≡ is_some (state segment))
      segment (λ _. keeps (state segment)) (λ _. refl)) first

  module _ (size segment : ℕ) (done : Bool) where
    abbrev call_of : CallKind → Call
    call_of kind = record { geometry = size; segment = segment; kind = kind; done = done }

    created_first : segment ≡ count + 1
        → AreFirst (count + 1) (on_disk (after_call state (call_of (Create true))))
    created_first next = record {
      there = λ n among. after_each state (call_of (Create true))
          (λ (o : Option Segment). is_some o ≡ true) n (λ _. refl)
          (λ other. first.there n (among.0, omega (arith, among.1, next)));
      only = λ n apart. after_each state (call_of (Create true))
          (λ (o : Option Segment). is_some o ≡ false) n
          (λ same. absurd (apart (omega (arith, same, next), omega (arith, same, next))))
          (λ _. first.only n (λ among. apart (among.0, omega (arith, among.1))));
    }

    called_first : (kind : CallKind) → MakesNext count segment kind
        → AreFirst (last_behind count kind) (on_disk (after_call state (call_of kind)))
    called_first (Create true) next = created_first next
    called_first (Create false) next = kept_first (call_of (Create false)) (λ _. refl)
    called_first (Write page bytes) next = kept_first (call_of (Write page bytes))
        (is_some-kept (Write page bytes) tt size done)
    called_first Sync next = kept_first (call_of Sync) (is_some-kept Sync tt size done)

-- ---- what a crash leaves

same_presence : (s : Option Segment) (i : Option ImageSegment) → MayLeaveSegment s i
    → is_some i ≡ is_some s
same_presence None None may = refl
same_presence (Some s) (Some i) may = refl
same_presence None (Some i) may = absurd may
same_presence (Some s) None may = absurd may

left_first : (count : ℕ) (state : DiskState) (image : DiskImage) → AreFirst count (on_disk state)
    → MayLeave state image → AreFirst count (on_image image)
left_first count state image first may = same_first count (on_disk state) (on_image image)
    (λ segment. same_presence (state segment) (image segment) (may segment)) first

-- an image has those from 1 to at most the one behind a last one, which a crash may have cut short
abbrev pub HasFirstUpto : ℕ → DiskImage → Type 0
HasFirstUpto last image = (count : ℕ) × (count ≤ last + 1) × AreFirst count (on_image image)

module _ (count : ℕ) (state : DiskState) (image : DiskImage)
    (first : AreFirst count (on_disk state)) where
  cut_first : (size segment : ℕ) (done : Bool) (kind : CallKind) → MakesNext count segment kind
      → IsSomeAnd (when_done (call_of count state first size segment done kind))
      (λ whole. MayLeave (after_call state whole) image) → HasFirstUpto count image
  cut_first size segment done (Create made) next may = (
    count + 1,
    omega arith,
    left_first (count + 1) _ image (created_first count state first size segment true next) may,
  )
  cut_first size segment done (Write page bytes) next may = (
    count,
    omega arith,
    left_first count _ image
        (called_first count state first size segment true (Write page bytes) tt) may,
  )
  cut_first size segment done Sync next may = absurd may

-- ---- at any moment

step_rises : (count : ℕ) (kind : CallKind) → count ≤ last_behind count kind
step_rises count (Create true) = omega arith
step_rises count (Create false) = omega arith
step_rises count (Write page bytes) = omega arith
step_rises count Sync = omega arith

turn_rises : (calls : List Call) (count last : ℕ) → MakeInTurn count calls last → count ≤ last
turn_rises [] count last same = omega (arith, same)
turn_rises (call ∷ calls) count last turn =
    omega (
      arith,
      step_rises count call.kind,
      turn_rises calls (last_behind count call.kind) last turn.1,
    )

within_last : (count last : ℕ) (image : DiskImage) → count ≤ last → HasFirstUpto count image
    → HasFirstUpto last image
within_last count last image low first = (first.0, omega (arith, first.1, low), first.2)

left_at : (calls : List Call) (moment count last : ℕ) (state : DiskState) (image : DiskImage)
    → AreFirst count (on_disk state) → MakeInTurn count calls last
    → LeftAt (record { at_first = state; calls = calls }) moment image → HasFirstUpto last image
left_at [] zero count last state image first turn (inl may) =
    (count, omega (arith, turn), left_first count state image first may)
left_at [] zero count last state image first turn (inr cut) = absurd cut
left_at [] (suc moment) count last state image first turn (inl may) =
    (count, omega (arith, turn), left_first count state image first may)
left_at [] (suc moment) count last state image first turn (inr cut) = absurd cut
left_at (call ∷ calls) zero count last state image first turn (inl may) = (
  count,
  omega (arith, turn_rises (call ∷ calls) count last turn),
  left_first count state image first may,
)
left_at (call ∷ calls) zero count last state image first turn (inr cut) =
    within_last count last image (turn_rises (call ∷ calls) count last turn)
    (cut_first count state image first call.geometry call.segment call.done call.kind turn.0 cut)
left_at (call ∷ calls) (suc moment) count last state image first turn left =
    left_at calls moment (last_behind count call.kind) last (after_call state call) image
    (called_first count state first call.geometry call.segment call.done call.kind turn.0) turn.1
    left

left_since : (calls : List Call) (since moment count last : ℕ) (state : DiskState)
    (image : DiskImage) → since ≤ moment
    → AreFirst count (on_disk (after_calls state (take since calls)))
    → MakeInTurn count (drop since calls) last
    → LeftAt (record { at_first = state; calls = calls }) moment image → HasFirstUpto last image
left_since calls zero moment count last state image low first turn left =
    left_at calls moment count last state image first turn left
left_since [] (suc since) moment count last state image low first turn left =
    left_at [] moment count last state image first turn left
left_since (call ∷ calls) (suc since) zero count last state image low first turn left =
    absurd (omega (arith, low))
left_since (call ∷ calls) (suc since) (suc moment) count last state image low first turn left =
    left_since calls since moment count last (after_call state call) image (omega (arith, low))
    first turn left

-- ---- in the words of the settling

some_of : (s : Option Segment) → IsSome (page_of_segment s 0) → is_some s ≡ true
some_of None there = absurd (cc there)
some_of (Some s) there = refl

settled_first : (count : ℕ) (state : DiskState) → AreThere state count → AreOnly count state
    → AreFirst count (on_disk state)
settled_first count state there only = record {
  there = λ segment among. some_of (state segment) (there segment among);
  only = λ segment apart. ap is_some (only segment apart);
}

pub made_segments : (size since moment : ℕ) (t : Tape) (image : DiskImage)
    → (made : HasMadeInTurn size since t) → since ≤ moment → LeftAt t moment image
    → HasFirstUpto made.last image
made_segments size since moment t image made low left =
    left_since t.calls since moment made.first made.last t.at_first image low
    (settled_first made.first (state_at t since) made.there made.only) made.in_turn left

-- a segment that has pages has page 0
pub first_page : (s : Segment) → 0 < s.pages → IsSome (page_of_segment (Some s) 0)
first_page s some = subst IsSome (sym (cond-true _ (Some (page_as_read s 0)) None
    (lt-ltb 0 s.pages some))) refl

-- of a disk that is read as such an image
module _ (size : ℕ) (IsThere : ℕ → Type 0) (Fits : ℕ → ℕ → List ℕ → Type 0)
    (some_pages : 0 < pages_of size) (count : ℕ) where
  none_of : (segment : ℕ) (s : Option Segment)
      → is_some (image_as_read (λ (m : ℕ). s) segment) ≡ false → s ≡ None
  none_of segment None none = refl
  none_of segment (Some s) none = absurd (cc none)

  page_of : (segment : ℕ) (s : Option Segment)
      → is_some (image_as_read (λ (m : ℕ). s) segment) ≡ true
      → SegmentFits size IsThere Fits segment (image_as_read (λ (m : ℕ). s) segment)
      → IsSome (page_of_segment s 0)
  page_of segment None there fits = absurd (cc there)
  page_of segment (Some s) there fits = first_page s (omega (arith, some_pages, fits.0))

  module _ (state : DiskState) (first : AreFirst count (on_image (image_as_read state))) where
    pub are_only : AreOnly count state
    are_only segment apart = none_of segment (state segment) (first.only segment apart)

    pub are_there : DiskImageFits size IsThere Fits (image_as_read state) → AreThere state count
    are_there fits segment among =
        page_of segment (state segment) (first.there segment among) (fits segment)
