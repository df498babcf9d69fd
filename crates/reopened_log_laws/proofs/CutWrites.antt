-- What is read behind a write that was cut short a crash might have left that cut it short; and where the write only adds to what is read, so does the part of it that was made.
use Rattle.std.proofs.Common.{◌≡◌, ◌≢◌, ◌⊎◌, ℕ, zero, suc, ◌<◌, ◌≤◌, true, List, [], ◌∷◌, ◌++◌, length, take, drop, slice_get, Option, Some, None, IfSome, inl, inr, refl, sym, ap, subst, ◌∙◌, arith}
use Rattle.std.specs.Option.{IsSomeAnd}
use Rattle.std.proofs.lemmas.Bool.{cases_eq}
use Rattle.byte_position.specs.Geometry.{pages_of}
use Rattle.segment_disk.specs.declared.disk.Call.{Call}
use Rattle.segment_disk.specs.declared.disk.CallKind.TheVariants.{Write}
use Rattle.segment_disk.specs.declared.disk.PageBytes.{PageBytes}
use Rattle.segment_disk.specs.DiskImage.{DiskImage, ImageSegment, IsWritten, LeftAt, MayLeave, MayLeavePage, MayLeaveSegment, image_as_read, when_done, word_of}
use Rattle.segment_disk.specs.Tape.{DiskState, Segment, Tape, after_call, after_calls, page_as_read, segment_after, state_at, state_now}
use Rattle.segment_disk.proofs.Reading.{after_calls-push}
use Rattle.flush_core.specs.Settled.{HaveWholePages}
use Rattle.flush_core.proofs.LeftLaws.{read_word}
use Rattle.flush_core.proofs.StateLaws.{after_each}
use Rattle.machine_state.specs.Growing.{AddsTo, AllOnlyAdd, LosesOnly, OnlyAdds, OnlyAddsSince}
use Rattle.machine_laws.proofs.GrowthLaws.{loses_only, reads_whole}
use Rattle.machine_laws.proofs.LogReading.{read_elsewhere, read_here}
use Rattle.reopened_log_laws.specs.StopsAt.{IsCutShort, IsMixOf, write_to}

-- ---- what is read may be left

read_stays : (size segment : ℕ) (s : Option Segment) → IfSome s (λ s. (s.pages ≡ pages_of size) × ((page : ℕ) → page < s.pages → length (page_as_read s page) ≡ 8192)) → MayLeaveSegment s (image_as_read (λ (m : ℕ). s) segment)
read_stays size segment None whole = tt
read_stays size segment (Some s) whole = (
  refl,
  λ page within. record {
    length = whole.1 page within;
    words = λ k low. read_word s.writes page k (s.durable page) (word_of (page_as_read s page) k) refl;
  },
)

pub left_as_read : (size : ℕ) (state : DiskState) → HaveWholePages size state → MayLeave state (image_as_read state)
left_as_read size state whole segment = read_stays size segment (state segment) (whole segment)

-- ---- words of writes

written_more : (writes : List (ℕ × List ℕ)) (w : ℕ × List ℕ) (page k : ℕ) (word : List ℕ) → IsWritten writes page k word → IsWritten (writes ++ w ∷ []) page k word
written_more [] w page k word old = absurd old
written_more (v ∷ writes) w page k word (inl first) = inl first
written_more (v ∷ writes) w page k word (inr behind) = inr (written_more writes w page k word behind)

written_last : (writes : List (ℕ × List ℕ)) (w : ℕ × List ℕ) (page k : ℕ) (word : List ℕ) → w.0 ≡ page → word ≡ word_of w.1 k → IsWritten (writes ++ w ∷ []) page k word
written_last [] w page k word here is = inl (here, is)
written_last (v ∷ writes) w page k word here is = inr (written_last writes w page k word here is)

written_parts : (writes : List (ℕ × List ℕ)) (w : ℕ × List ℕ) (page k : ℕ) (word : List ℕ) → IsWritten (writes ++ w ∷ []) page k word → IsWritten writes page k word ⊎ ((w.0 ≡ page) × (word ≡ word_of w.1 k))
written_parts [] w page k word (inl last) = inr last
written_parts [] w page k word (inr none) = absurd none
written_parts (v ∷ writes) w page k word (inl first) = inl (inl first)
written_parts (v ∷ writes) w page k word (inr behind) = elim (written_parts writes w page k word behind) [ inl older ↦ inl (inr older) | inr last ↦ inr last ]

-- ---- a page of which a part was written

module _ (s : Segment) (page : ℕ) (bytes mix : PageBytes) (mixes : IsMixOf (page_as_read s page) bytes.bytes mix.bytes) where
  abbrev written : Segment
  written = record s { writes = s.writes ++ (page, bytes.bytes) ∷ [] }

  abbrev cut : Segment
  cut = record s { writes = s.writes ++ (page, mix.bytes) ∷ [] }

  -- a word as it was read may be left behind the whole write too
  may_stay : (n k : ℕ) (word : List ℕ) → word ≡ word_of (page_as_read s n) k → (word ≡ word_of (s.durable n) k) ⊎ IsWritten (s.writes ++ (page, bytes.bytes) ∷ []) n k word
  may_stay n k word is = elim (read_word s.writes n k (s.durable n) word is) [
    | inl durable ↦ inl durable
    | inr waits ↦ inr (written_more s.writes (page, bytes.bytes) n k word waits)
  ]

  page_left : (n : ℕ) → length (page_as_read s n) ≡ 8192 → MayLeavePage written n (page_as_read cut n)
  page_left n whole = elim (cases_eq page n) [
    | inl same ↦ subst (λ (m : ℕ). MayLeavePage written m (page_as_read cut m)) same
        (subst (λ (p : List ℕ). MayLeavePage written page p) (sym (read_here s page 0 true mix))
        (record {
          length = mixes.whole;
          words = λ k low. elim (mixes.words k low) [
            | inl old ↦ may_stay page k (word_of mix.bytes k) old
            | inr new ↦ inr (written_last s.writes (page, bytes.bytes) page k (word_of mix.bytes k) refl new)
          ];
        }))
    | inr apart ↦ subst (λ (p : List ℕ). MayLeavePage written n p) (sym (read_elsewhere s n page 0 true mix apart))
        (record { length = whole; words = λ k low. may_stay n k (word_of (page_as_read s n) k) refl })
  ]

  -- a word that may be left behind a part of the write may be left behind all of it
  may_be_whole : (n k : ℕ) (word : List ℕ) → k < 1024 → (word ≡ word_of (s.durable n) k) ⊎ IsWritten (s.writes ++ (page, mix.bytes) ∷ []) n k word → (word ≡ word_of (s.durable n) k) ⊎ IsWritten (s.writes ++ (page, bytes.bytes) ∷ []) n k word
  may_be_whole n k word low (inl durable) = inl durable
  may_be_whole n k word low (inr written) = elim (written_parts s.writes (page, mix.bytes) n k word written) [
    | inl older ↦ inr (written_more s.writes (page, bytes.bytes) n k word older)
    | inr last ↦ elim (mixes.words k low) [
      | inl old ↦ may_stay n k word (last.1 ∙ old ∙ ap (λ (m : ℕ). word_of (page_as_read s m) k) last.0)
      | inr new ↦ inr (written_last s.writes (page, bytes.bytes) n k word last.0 (last.1 ∙ new))
    ]
  ]

  image_whole : (i : Option ImageSegment) → MayLeaveSegment (Some cut) i → MayLeaveSegment (Some written) i
  image_whole None may = may
  image_whole (Some i) may = (
    may.0,
    λ n within. record { length = (may.1 n within).length; words = λ k low. may_be_whole n k (word_of (i.page n) k) low ((may.1 n within).words k low) },
  )

  segment_left : (n : ℕ) → ((p : ℕ) → p < s.pages → length (page_as_read s p) ≡ 8192) → MayLeaveSegment (Some written) (image_as_read (λ (m : ℕ). Some cut) n)
  segment_left n whole = (refl, λ p within. page_left p (whole p within))

-- what the part adds
mixed_adds : (old new mix : List ℕ) → IsMixOf old new mix → AddsTo old new → AddsTo old mix
mixed_adds old new mix mixes adds = record {
  whole = mixes.whole;
  words = λ n low. elim (mixes.words n low) [
    | inl was ↦ inr (sym was)
    | inr made ↦ elim (adds.words n low) [ inl zeros ↦ inl zeros | inr same ↦ inr (same ∙ sym made) ]
  ];
}

-- ---- the calls of a tape

some_call : (one other : Call) → Some one ≡ Some other → one ≡ other
some_call one other same = cc

adds_at : (size n : ℕ) (state : DiskState) (calls : List Call) (call : Call) → AllOnlyAdd size state calls → slice_get calls n ≡ Some call → OnlyAdds size (after_calls state (take n calls)) call
adds_at size n state [] call all is = absurd (cc is)
adds_at size zero state (c ∷ calls) call all is = subst (λ (o : Call). OnlyAdds size state o) (some_call c call is) all.0
adds_at size (suc n) state (c ∷ calls) call all is = adds_at size n (after_call state c) calls call all.1 is

adds_since : (size since moment : ℕ) (state : DiskState) (calls : List Call) (call : Call) → since ≤ moment → AllOnlyAdd size (after_calls state (take since calls)) (drop since calls) → slice_get calls moment ≡ Some call → OnlyAdds size (after_calls state (take moment calls)) call
adds_since size zero moment state calls call low all is = adds_at size moment state calls call all is
adds_since size (suc since) moment state [] call low all is = absurd (cc is)
adds_since size (suc since) zero state (c ∷ calls) call low all is = absurd (omega (arith, low))
adds_since size (suc since) (suc moment) state (c ∷ calls) call low all is = adds_since size since moment (after_call state c) calls call (omega (arith, low)) all is

at_call : (state : DiskState) (call : Call) (n : ℕ) → n ≡ call.segment → after_call state call n ≡ segment_after call.kind call.geometry call.done (state n)
at_call state call n here = after_each state call (λ (o : Option Segment). o ≡ segment_after call.kind call.geometry call.done (state n)) n (λ _. refl) (λ apart. absurd (apart here))

beside_call : (state : DiskState) (call : Call) (n : ℕ) → n ≢ call.segment → after_call state call n ≡ state n
beside_call state call n apart = after_each state call (λ (o : Option Segment). o ≡ state n) n (λ here. absurd (apart here)) (λ _. refl)

-- ---- a write that was cut short

module _ (t : Tape) (moment : ℕ) (stopped : Tape) (c : IsCutShort t moment stopped) where
  abbrev before : DiskState
  before = state_at t moment

  abbrev whole_call : Call
  whole_call = write_to c.geometry c.segment c.page c.bytes true

  abbrev last_call : Call
  last_call = write_to c.geometry c.segment c.page c.mix c.done

  state_is : state_now stopped ≡ after_call before last_call
  state_is = ap state_now c.stopped_is ∙ after_calls-push t.at_first (take moment t.calls) last_call

  module _ (size : ℕ) (whole : HaveWholePages size (state_at t moment)) where
    there_whole : (p : ℕ) → p < (c.there).pages → length (page_as_read c.there p) ≡ 8192
    there_whole = (subst (λ (o : Option Segment). IfSome o (λ s. (s.pages ≡ pages_of size) × ((page : ℕ) → page < s.pages → length (page_as_read s page) ≡ 8192))) c.is_there (whole c.segment)).1

    left_here : (n : ℕ) (o : Option Segment) → o ≡ Some c.there → MayLeaveSegment (segment_after (Write c.page c.bytes) c.geometry true o) (image_as_read (λ (m : ℕ). segment_after (Write c.page c.mix) c.geometry c.done o) n)
    left_here n o is = subst (λ (o : Option Segment). MayLeaveSegment (segment_after (Write c.page c.bytes) c.geometry true o) (image_as_read (λ (m : ℕ). segment_after (Write c.page c.mix) c.geometry c.done o) n)) (sym is)
        (segment_left c.there c.page c.bytes c.mix c.mixes n there_whole)

    left_at : (n : ℕ) (full part : Option Segment) → after_call before whole_call n ≡ full → after_call before last_call n ≡ part → MayLeaveSegment full (image_as_read (λ (m : ℕ). part) n) → MayLeaveSegment (after_call before whole_call n) (image_as_read (after_call before last_call) n)
    left_at n full part full_is part_is may = subst (λ (o : Option Segment). MayLeaveSegment o (image_as_read (after_call before last_call) n)) (sym full_is)
        (subst (λ (o : Option Segment). MayLeaveSegment full (image_as_read (λ (m : ℕ). o) n)) (sym part_is) may)

    left : MayLeave (after_call before whole_call) (image_as_read (after_call before last_call))
    left n = elim (cases_eq n c.segment) [
      | inl here ↦ left_at n (segment_after (Write c.page c.bytes) c.geometry true (before n)) (segment_after (Write c.page c.mix) c.geometry c.done (before n)) (at_call before whole_call n here) (at_call before last_call n here)
          (left_here n (before n) (ap before here ∙ c.is_there))
      | inr apart ↦ left_at n (before n) (before n) (beside_call before whole_call n apart) (beside_call before last_call n apart) (read_stays size n (before n) (whole n))
    ]

    pub cut_leaves : LeftAt t moment (image_as_read (state_now stopped))
    cut_leaves =
        let image = image_as_read (after_call before last_call) in
        let short : IsSomeAnd (slice_get t.calls moment) (λ call. IsSomeAnd (when_done call) (λ done. MayLeave (after_call before done) image)) =
        subst (λ (o : Option Call). IsSomeAnd o (λ call. IsSomeAnd (when_done call) (λ done. MayLeave (after_call before done) image))) (sym c.next) left in
        subst (λ (d : DiskState). LeftAt t moment (image_as_read d)) (sym state_is) (inr short)

  -- whatever a crash may leave behind it, one that cut it short might have left
  module _ (image : DiskImage) where
    whole_here : (n : ℕ) (o : Option Segment) → o ≡ Some c.there → MayLeaveSegment (segment_after (Write c.page c.mix) c.geometry c.done o) (image n) → MayLeaveSegment (segment_after (Write c.page c.bytes) c.geometry true o) (image n)
    whole_here n o is = subst (λ (o : Option Segment). MayLeaveSegment (segment_after (Write c.page c.mix) c.geometry c.done o) (image n) → MayLeaveSegment (segment_after (Write c.page c.bytes) c.geometry true o) (image n)) (sym is)
        (image_whole c.there c.page c.bytes c.mix c.mixes (image n))

    whole_left : MayLeave (after_call before last_call) image → MayLeave (after_call before whole_call) image
    whole_left may n = elim (cases_eq n c.segment) [
      | inl here ↦ subst (λ (o : Option Segment). MayLeaveSegment o (image n)) (sym (at_call before whole_call n here))
          (whole_here n (before n) (ap before here ∙ c.is_there) (subst (λ (o : Option Segment). MayLeaveSegment o (image n)) (at_call before last_call n here) (may n)))
      | inr apart ↦ subst (λ (o : Option Segment). MayLeaveSegment o (image n)) (sym (beside_call before whole_call n apart))
          (subst (λ (o : Option Segment). MayLeaveSegment o (image n)) (beside_call before last_call n apart) (may n))
    ]

    pub cut_images : MayLeave (state_now stopped) image → LeftAt t moment image
    cut_images may =
        let whole = whole_left (subst (λ (d : DiskState). MayLeave d image) state_is may) in
        inr (subst (λ (o : Option Call). IsSomeAnd o (λ call. IsSomeAnd (when_done call) (λ done. MayLeave (after_call before done) image))) (sym c.next) whole)

  -- of calls that only add to what is read
  module _ (size since : ℕ) (low : since ≤ moment) (adds : OnlyAddsSince size since t) where
    cut_adds : OnlyAdds size before last_call
    cut_adds =
        let next = adds_since size since moment t.at_first t.calls (write_to c.geometry c.segment c.page c.bytes c.done) low adds c.next in
        let there = subst (λ (o : Option Segment). IfSome o (λ s. AddsTo (page_as_read s c.page) (c.bytes).bytes)) c.is_there next in
        subst (λ (o : Option Segment). IfSome o (λ s. AddsTo (page_as_read s c.page) (c.mix).bytes)) (sym c.is_there)
        (mixed_adds (page_as_read c.there c.page) (c.bytes).bytes (c.mix).bytes c.mixes there)

    abbrev one : Tape
    one = record { at_first = state_at t moment; calls = write_to c.geometry c.segment c.page c.mix c.done ∷ [] }

    pub cut_loses : LosesOnly size (state_at t moment) → LosesOnly size (state_now stopped)
    cut_loses loses = subst (LosesOnly size) (sym state_is) (loses_only size 0 1 one (omega arith) (cut_adds, tt) loses)

    pub cut_whole : HaveWholePages size (state_at t moment) → HaveWholePages size (state_now stopped)
    cut_whole whole = subst (HaveWholePages size) (sym state_is) (reads_whole size 0 1 one (omega arith) (cut_adds, tt) whole)
