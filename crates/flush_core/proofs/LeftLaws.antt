-- A crash leaves what a state assures, and each call that fits goes on assuring it.
use Rattle.std.proofs.Common.{◌≡◌, ℕ, zero, suc, ◌+◌, ◌*◌, ◌<◌, ◌≤◌, ◌⊎◌, inl, inr, All, Bool, true, false, List, [], ◌∷◌, ◌++◌, length, take, drop, Option, Some, None, IfSome, slice_get, refl, sym, ap, subst, ◌∙◌, ◌==◌, if◌then◌else◌, arith}
use Rattle.std.specs.List.{AllByRecursion}
use Rattle.std.proofs.lemmas.List.Elements.{All-nil, All-push, All-same}
use Rattle.std.specs.Option.{IsSomeAnd}
use Rattle.std.proofs.lemmas.Bool.{cases_eq, eq-eqb, ne_eqb}
use Rattle.std.proofs.lemmas.Option.{slice_get_past}
use Rattle.byte_position.specs.Geometry.{pages_of}
use Rattle.segment_disk.specs.declared.disk.Call.{Call}
use Rattle.segment_disk.specs.declared.disk.CallKind.{CallKind}
use Rattle.segment_disk.specs.declared.disk.CallKind.TheVariants.{Create, Write, Sync}
use Rattle.segment_disk.specs.Tape.{Segment, DiskState, Tape, zero_page, after_writes, segment_after, after_call, after_calls, state_now, with_call, Fails, failed_call}
use Rattle.segment_disk.specs.DiskImage.{DiskImage, ImageSegment, word_of, IsWritten, MayLeaveSegment, MayLeave, when_done}
use Rattle.segment_disk.proofs.Reading.{after_calls-push}
use Rattle.flush_core.specs.Calls.{store_calls, with_calls, BreaksOff}
use Rattle.segment_disk.specs.Assured.{KindFits, CallFits, SegmentFits, DiskImageFits, SegmentAssures, StateAssures, TapeAssures}
use Rattle.flush_core.proofs.StateLaws.{after_each}

take_none : {A : Type 0} (m : ℕ) → take {A = A} m [] ≡ []
take_none zero = refl
take_none (suc m) = refl

-- ---- words and writes

IsWritten-push : (writes : List (ℕ × List ℕ)) (w : ℕ × List ℕ) (page k : ℕ) (word : List ℕ) → IsWritten (writes ++ w ∷ []) page k word → IsWritten writes page k word ⊎ ((w.0 ≡ page) × (word ≡ word_of w.1 k))
IsWritten-push [] w page k word (inl last) = inr last
IsWritten-push [] w page k word (inr none) = absurd none
IsWritten-push (v ∷ writes) w page k word (inl first) = inl (inl first)
IsWritten-push (v ∷ writes) w page k word (inr behind) = elim (IsWritten-push writes w page k word behind) [ inl older ↦ inl (inr older) | inr last ↦ inr last ]

-- a word of a page as it is read is the durable one or that of a write
pub read_word : (writes : List (ℕ × List ℕ)) (page k : ℕ) (bytes word : List ℕ) → word ≡ word_of (after_writes writes page bytes) k → (word ≡ word_of bytes k) ⊎ IsWritten writes page k word
read_word [] page k bytes word is = inl is
read_word (w ∷ writes) page k bytes word is =
    elim (read_word writes page k (if w.0 == page then w.1 else bytes) word is) [
      | inl first ↦ elim (cases_eq w.0 page) [ inl same ↦ inr (inl (same, rw (eq-eqb w.0 page same) at first)) | inr other ↦ inl (rw (ne_eqb w.0 page other) at first) ]
      | inr written ↦ inr (inr written)
    ]

-- a moment lies before the last call, just before it, or behind it
moments : (calls : List Call) (call : Call) (m : ℕ) → ((take m (calls ++ call ∷ []) ≡ take m calls) × (slice_get (calls ++ call ∷ []) m ≡ slice_get calls m))
    ⊎ (((take m (calls ++ call ∷ []) ≡ calls) × (slice_get (calls ++ call ∷ []) m ≡ Some call)) ⊎ ((take m (calls ++ call ∷ []) ≡ calls ++ call ∷ []) × (slice_get (calls ++ call ∷ []) m ≡ None)))
moments [] call zero = inr (inl (refl, refl))
moments [] call (suc m) = inr (inr (ap (λ (l : List Call). call ∷ l) (take_none m), refl))
moments (c ∷ calls) call zero = inl (refl, refl)
moments (c ∷ calls) call (suc m) = elim (moments calls call m) [
  | inl before ↦ inl (ap (λ (l : List Call). c ∷ l) before.0, before.1)
  | inr (inl here) ↦ inr (inl (ap (λ (l : List Call). c ∷ l) here.0, here.1))
  | inr (inr behind) ↦ inr (inr (ap (λ (l : List Call). c ∷ l) behind.0, behind.1))
]

at_end : (calls : List Call) (m : ℕ) → length calls ≤ m → take m calls ≡ calls
at_end [] zero behind = refl
at_end [] (suc m) behind = refl
at_end (c ∷ calls) zero behind = absurd (omega arith)
at_end (c ∷ calls) (suc m) behind = ap (λ (l : List Call). c ∷ l) (at_end calls m (omega arith))

drop_none : {A : Type 0} (m : ℕ) → drop {A = A} m [] ≡ []
drop_none zero = refl
drop_none (suc m) = refl

drop_behind : (calls : List Call) (m : ℕ) → length calls ≤ m → drop m calls ≡ []
drop_behind [] m behind = drop_none m
drop_behind (c ∷ calls) zero behind = absurd (omega arith)
drop_behind (c ∷ calls) (suc m) behind = drop_behind calls m (omega arith)

-- what holds of all calls from a moment on, and of the next one
drop_fits : (P : Call → Type 0) (m : ℕ) (calls : List Call) (call : Call) → All P (drop m calls) → P call → All P (drop m (calls ++ call ∷ []))
drop_fits P zero calls call all one = All-push P calls call all one
drop_fits P (suc m) [] call all one = All-same P (drop m []) [] (drop_none m) (All-nil P)
drop_fits P (suc m) (c ∷ calls) call all one = drop_fits P m calls call all one

-- what a crash leaves behind these calls, where this one is next
abbrev pub LeftBehind : DiskState → DiskImage → List Call → Option Call → Type 0
LeftBehind at_first image front next = MayLeave (after_calls at_first front) image ⊎ IsSomeAnd next (λ call. IsSomeAnd (when_done call) (λ whole. MayLeave (after_call (after_calls at_first front) whole) image))

pub left_moved : (at_first : DiskState) (image : DiskImage) (front other : List Call) (next last : Option Call) → front ≡ other → next ≡ last → LeftBehind at_first image front next → LeftBehind at_first image other last
left_moved at_first image front other next last same_front same_next leaves = subst (λ (n : Option Call). LeftBehind at_first image other n) same_next (subst (λ (f : List Call). LeftBehind at_first image f next) same_front leaves)

module _ (size : ℕ) (IsThere : ℕ → Type 0) (Fits : ℕ → ℕ → List ℕ → Type 0) where
  -- ---- states

  left_fits : (segment : ℕ) (s : Option Segment) (i : Option ImageSegment) → SegmentAssures size IsThere Fits segment s → MayLeaveSegment s i → SegmentFits size IsThere Fits segment i
  left_fits segment None None assures leaves = assures
  left_fits segment None (Some i) assures leaves = absurd leaves
  left_fits segment (Some s) None assures leaves = absurd leaves
  left_fits segment (Some s) (Some i) assures leaves = (
    leaves.0 ∙ assures.0,
    λ page word within low. let there : page < s.pages = omega (arith, assures.0) in assures.1 page word within low (word_of (i.page page) word) ((leaves.1 page there).words word low),
  )

  -- a crash leaves what a state assures
  pub ImageFits-left : (state : DiskState) (image : DiskImage) → StateAssures size IsThere Fits state → MayLeave state image → DiskImageFits size IsThere Fits image
  ImageFits-left state image assures leaves = λ n. left_fits n (state n) (image n) (assures n) (leaves n)

  -- each of these calls fits
  abbrev pub AllFit : List Call → Type 0
  AllFit calls = AllByRecursion (CallFits size Fits) calls

  assured_after : (segment geometry : ℕ) (kind : CallKind) (done : Bool) (s : Option Segment) → KindFits size Fits geometry segment kind → SegmentAssures size IsThere Fits segment s → SegmentAssures size IsThere Fits segment (segment_after kind geometry done s)
  assured_after segment geometry (Create false) done s fits assures = assures
  assured_after segment geometry (Create true) done s fits assures = (
    ap pages_of fits.0,
    λ page word within low found may. elim may [ inl zeros ↦ subst (Fits (segment * pages_of size + page) word) (sym zeros) (fits.1 page word within low) | inr none ↦ absurd none ],
  )
  assured_after segment geometry (Write page bytes) done None fits assures = assures
  assured_after segment geometry (Write page bytes) done (Some s) fits assures = (
    assures.0,
    λ n word within low found may. elim may [
      | inl old ↦ assures.1 n word within low found (inl old)
      | inr written ↦ elim (IsWritten-push s.writes (page, bytes.bytes) n word found written) [
        | inl older ↦ assures.1 n word within low found (inr older)
        | inr last ↦ subst (Fits (segment * pages_of size + n) word) (sym last.1)
            (subst (λ (m : ℕ). (k : ℕ) → k < 1024 → Fits (segment * pages_of size + m) k (word_of bytes.bytes k)) last.0 fits.2 word low)
      ]
    ],
  )
  assured_after segment geometry Sync done None fits assures = assures
  assured_after segment geometry Sync false (Some s) fits assures = assures
  assured_after segment geometry Sync true (Some s) fits assures = (
    assures.0,
    λ n word within low found may. elim may [ inl read ↦ assures.1 n word within low found (read_word s.writes n word (s.durable n) found read) | inr none ↦ absurd none ],
  )

  StateAssures-after : (state : DiskState) (call : Call) → CallFits size Fits call → StateAssures size IsThere Fits state → StateAssures size IsThere Fits (after_call state call)
  StateAssures-after state call fits assures =
      λ n. after_each state call (SegmentAssures size IsThere Fits n) n (λ same. assured_after n call.geometry call.kind call.done (state n) (subst (λ (m : ℕ). KindFits size Fits call.geometry m call.kind) (sym same) fits) (assures n)) (λ _. assures n)

  -- a call that the crash cut short
  ImageFits-cut_short : (geometry segment : ℕ) (kind : CallKind) (done : Bool) (state : DiskState) (image : DiskImage) → KindFits size Fits geometry segment kind → StateAssures size IsThere Fits state
      → (let call : Call = record { geometry = geometry; segment = segment; kind = kind; done = done } in IsSomeAnd (when_done call) (λ whole. MayLeave (after_call state whole) image)) → DiskImageFits size IsThere Fits image
  ImageFits-cut_short geometry segment (Create made) done state image fits assures leaves =
      ImageFits-left _ image (StateAssures-after state (record { geometry = geometry; segment = segment; kind = Create true; done = true }) fits assures) leaves
  ImageFits-cut_short geometry segment (Write page bytes) done state image fits assures leaves =
      ImageFits-left _ image (StateAssures-after state (record { geometry = geometry; segment = segment; kind = Write page bytes; done = true }) fits assures) leaves
  ImageFits-cut_short geometry segment Sync done state image fits assures leaves = absurd leaves

  -- ---- tapes

  -- from the moment of the last call on a crash leaves what the state assures
  pub TapeAssures-now : (moment : ℕ) (t : Tape) → moment ≡ length t.calls → StateAssures size IsThere Fits (state_now t) → TapeAssures size IsThere Fits moment t
  TapeAssures-now moment t count assures = record {
    calls = All-same (CallFits size Fits) (drop moment t.calls) [] (drop_behind t.calls moment (omega arith)) (All-nil (CallFits size Fits));
    now = assures;
    left = λ m later image leaves. elim (left_moved t.at_first image (take m t.calls) t.calls (slice_get t.calls m) None (at_end t.calls m (omega arith)) (slice_get_past t.calls m (omega arith)) leaves) [
      | inl now ↦ ImageFits-left (state_now t) image assures now
      | inr none ↦ absurd none
    ];
  }

  tape_with_call : (moment : ℕ) (tape : Tape) (call : Call) → CallFits size Fits call → TapeAssures size IsThere Fits moment tape → TapeAssures size IsThere Fits moment (record tape { calls = tape.calls ++ call ∷ [] })
  tape_with_call moment tape call fits assures =
      let calls = tape.calls ++ call ∷ [] in
      let after : StateAssures size IsThere Fits (after_calls tape.at_first calls) = subst (StateAssures size IsThere Fits) (sym (after_calls-push tape.at_first tape.calls call)) (StateAssures-after (state_now tape) call fits assures.now) in
      record {
        calls = drop_fits (CallFits size Fits) moment tape.calls call assures.calls fits;
        now = after;
        left = λ m later image leaves. elim (moments tape.calls call m) [
          | inl before ↦ assures.left m later image (left_moved tape.at_first image (take m calls) (take m tape.calls) (slice_get calls m) (slice_get tape.calls m) before.0 before.1 leaves)
          | inr (inl here) ↦ elim (left_moved tape.at_first image (take m calls) tape.calls (slice_get calls m) (Some call) here.0 here.1 leaves) [
            | inl now ↦ ImageFits-left (state_now tape) image assures.now now
            | inr cut ↦ ImageFits-cut_short call.geometry call.segment call.kind call.done (state_now tape) image fits assures.now cut
          ]
          | inr (inr behind) ↦ elim (left_moved tape.at_first image (take m calls) calls (slice_get calls m) None behind.0 behind.1 leaves) [
            | inl now ↦ ImageFits-left (after_calls tape.at_first calls) image after now
            | inr none ↦ absurd none
          ]
        ];
      }

  pub TapeAssures-with_call : (moment : ℕ) (tape : Option Tape) (call : Call) → CallFits size Fits call → IfSome tape (TapeAssures size IsThere Fits moment) → IfSome (with_call tape call) (TapeAssures size IsThere Fits moment)
  TapeAssures-with_call moment None call fits assures = tt
  TapeAssures-with_call moment (Some t) call fits assures = tape_with_call moment t call fits assures

  -- the calls that were made
  pub TapeAssures-with_calls : (moment : ℕ) (tape : Option Tape) (calls : List Call) → AllFit calls → IfSome tape (TapeAssures size IsThere Fits moment) → IfSome (with_calls tape calls) (TapeAssures size IsThere Fits moment)
  TapeAssures-with_calls moment tape [] fit assures = assures
  TapeAssures-with_calls moment tape (call ∷ calls) fit assures = TapeAssures-with_calls moment (with_call tape call) calls fit.1 (TapeAssures-with_call moment tape call fit.0 assures)

  failed_fits : (geometry segment : ℕ) (kind : CallKind) (done made : Bool) → KindFits size Fits geometry segment kind → (let call : Call = record { geometry = geometry; segment = segment; kind = kind; done = done } in CallFits size Fits (failed_call made call))
  failed_fits geometry segment (Create any) done made fits = fits
  failed_fits geometry segment (Write page bytes) done made fits = fits
  failed_fits geometry segment Sync done made fits = fits

  -- a call that failed
  pub TapeAssures-failed : (moment : ℕ) (old new : Option Tape) (old_moment new_moment : ℕ) (call : Call) → CallFits size Fits call → Fails old new old_moment new_moment call
      → IfSome old (TapeAssures size IsThere Fits moment) → IfSome new (TapeAssures size IsThere Fits moment)
  TapeAssures-failed moment old new old_moment new_moment call fits (inl failed) assures =
      subst (λ (t : Option Tape). IfSome t (TapeAssures size IsThere Fits moment)) (sym failed.1.tape)
      (TapeAssures-with_call moment old (failed_call failed.0 call) (failed_fits call.geometry call.segment call.kind call.done failed.0 fits) assures)
  TapeAssures-failed moment old new old_moment new_moment call fits (inr not_made) assures = subst (λ (t : Option Tape). IfSome t (TapeAssures size IsThere Fits moment)) (sym not_made.same_tape) assures

  pub front_fits : (front : List Call) (next : Call) (others : List Call) → AllFit (front ++ next ∷ others) → AllFit front × CallFits size Fits next
  front_fits [] next others fit = (tt, fit.0)
  front_fits (c ∷ front) next others fit = let behind = front_fits front next others fit.1 in ((fit.0, behind.0), behind.1)

  -- calls that broke off
  pub TapeAssures-broken : (moment : ℕ) (old new : Option Tape) (old_moment new_moment : ℕ) (calls : List Call) → BreaksOff old new old_moment new_moment calls → AllFit calls → IfSome old (TapeAssures size IsThere Fits moment)
      → IfSome new (TapeAssures size IsThere Fits moment)
  TapeAssures-broken moment old new old_moment new_moment calls broken fit assures =
      let next = broken.next in
      let parts = front_fits broken.front next broken.others (subst AllFit broken.are fit) in
      let front = TapeAssures-with_calls moment old broken.front parts.0 assures in
      TapeAssures-failed moment (with_calls old broken.front) new _ new_moment next parts.1 broken.fails front

  -- the calls that store a page fit where the page does, and zeros do where its segment is made
  pub store_fits : (segment page : ℕ) (bytes : List ℕ) (is_new is_full : Bool) → page < pages_of size → (is_new ≡ true → (k word : ℕ) → k < pages_of size → word < 1024 → Fits (segment * pages_of size + k) word (word_of zero_page word))
      → ((word : ℕ) → word < 1024 → Fits (segment * pages_of size + page) word (word_of bytes word)) → AllFit (store_calls size segment page is_new is_full bytes)
  store_fits segment page bytes true true within zeros fits = ((refl, zeros refl), ((refl, within, fits), (tt, tt)))
  store_fits segment page bytes true false within zeros fits = ((refl, zeros refl), ((refl, within, fits), tt))
  store_fits segment page bytes false true within zeros fits = ((refl, within, fits), (tt, tt))
  store_fits segment page bytes false false within zeros fits = ((refl, within, fits), tt)

  -- what is asked may grow weaker
  module _ (Asked : ℕ → Type 0) (Others : ℕ → ℕ → List ℕ → Type 0) (fewer : (segment : ℕ) → Asked segment → IsThere segment) (weaker : (page word : ℕ) (bytes : List ℕ) → Fits page word bytes → Others page word bytes) where
    fits_weaker : (segment : ℕ) (i : Option ImageSegment) → SegmentFits size IsThere Fits segment i → SegmentFits size Asked Others segment i
    fits_weaker segment None fits = λ asked. fits (fewer segment asked)
    fits_weaker segment (Some i) fits = (fits.0, λ page word within low. weaker _ _ _ (fits.1 page word within low))

    assures_weaker : (segment : ℕ) (s : Option Segment) → SegmentAssures size IsThere Fits segment s → SegmentAssures size Asked Others segment s
    assures_weaker segment None assures = λ asked. assures (fewer segment asked)
    assures_weaker segment (Some s) assures = (assures.0, λ page word within low found may. weaker _ _ _ (assures.1 page word within low found may))

    kind_weaker : (geometry segment : ℕ) (kind : CallKind) → KindFits size Fits geometry segment kind → KindFits size Others geometry segment kind
    kind_weaker geometry segment (Create made) fits = (fits.0, λ page word within low. weaker _ _ _ (fits.1 page word within low))
    kind_weaker geometry segment (Write page bytes) fits = (fits.0, fits.1, λ word low. weaker _ _ _ (fits.2 word low))
    kind_weaker geometry segment Sync fits = tt

    pub TapeAssures-weaker : (moment : ℕ) (t : Tape) → TapeAssures size IsThere Fits moment t → TapeAssures size Asked Others moment t
    TapeAssures-weaker moment t assures = record {
      calls = λ k call within. kind_weaker _ _ _ (assures.calls k call within);
      now = λ n. assures_weaker n (state_now t n) (assures.now n);
      left = λ m later image leaves. (let fits = assures.left m later image leaves in λ n. fits_weaker n (image n) (fits n));
    }
