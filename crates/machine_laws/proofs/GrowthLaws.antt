-- Calls that only add to what is read leave nothing else to a crash: at each moment each word that
-- it may leave is zeros, or as it is read, and pages stay whole.
use Rattle.std.proofs.Common.{◌≡◌, ◌≢◌, ◌⊎◌, inl, inr, ℕ, zero, suc, ◌-◌, ◌<◌, ◌≤◌, Bool, true, false, List, [], ◌∷◌, ◌++◌, length, take, drop, Option as OptionOf, Some, None, IfSome, refl, sym, ap, ◌∙◌, subst, arith}
use Rattle.std.proofs.lemmas.Bool.{cases_eq}
use Rattle.std.proofs.lemmas.List.{drop-append-le, length-replicate, take-append-drop}
use Rattle.std.proofs.lemmas.Option.{IfSome_then}
use Rattle.std.proofs.Math.Seq.{take-add}
use mathlib.Core.Option.{Option}
use Rattle.byte_position.specs.Geometry.{pages_of}
use Rattle.segment_disk.specs.declared.disk.Call.{Call}
use Rattle.segment_disk.specs.declared.disk.CallKind.{CallKind}
use Rattle.segment_disk.specs.declared.disk.CallKind.TheVariants.{Create, Write, Sync}
use Rattle.segment_disk.specs.declared.disk.PageBytes.{PageBytes}
use Rattle.segment_disk.specs.DiskImage.{word_of, IsWritten}
use Rattle.segment_disk.specs.Tape.{DiskState, Segment, Tape, after_call, after_calls, page_as_read, segment_after, state_at, state_now, zero_page}
use Rattle.segment_disk.proofs.Fronts.{take-before}
use Rattle.flush_core.proofs.LeftLaws.{read_word}
use Rattle.flush_core.proofs.SettledPages.{after_calls-append}
use Rattle.flush_core.proofs.StateLaws.{after_each}
use Rattle.machine_state.specs.Words.{Opening}
use Rattle.machine_state.specs.Views.{Plain, View}
use Rattle.machine_state.specs.Sound.{IsSound}
use Rattle.machine_state.specs.Suited.{IfSuited, IsLogAt, IsSuited, tape_from}
use Rattle.segment_disk.specs.Assured.{SegmentAssures}
use Rattle.machine_state.specs.Growing.{AddsTo, AllOnlyAdd, IsZeroOr, KindAdds, LosesOnly, OnlyAdds, OnlyAddsSince, PageLosesOnly, ReadsWhole, SegmentLosesOnly}
use Rattle.machine_laws.specs.Growth.{LosesOnlySince, StaysWholeSince}
use Rattle.machine_laws.proofs.LogReading.{read_elsewhere, read_here}

-- ---- one call more

adds_more : (size : ℕ) (state : DiskState) (calls : List Call) (call : Call)
    → AllOnlyAdd size state calls → OnlyAdds size (after_calls state calls) call
    → AllOnlyAdd size state (calls ++ call ∷ [])
adds_more size state [] call all adds = (adds, tt)
adds_more size state (c ∷ calls) call all adds =
    (all.0, adds_more size (after_call state c) calls call all.1 adds)

-- the state behind a moment's calls, and all others
now_from : (t : Tape) (moment : ℕ)
    → after_calls (state_at t moment) (drop moment t.calls) ≡ state_now t
now_from t moment =
    sym (after_calls-append t.at_first (take moment t.calls) (drop moment t.calls))
    ∙ ap (after_calls t.at_first) (take-append-drop moment t.calls)

pub since_more : (size moment : ℕ) (t : Tape) (call : Call) → moment ≤ length t.calls
    → OnlyAddsSince size moment t → OnlyAdds size (state_now t) call
    → OnlyAddsSince size moment (record t { calls = t.calls ++ call ∷ [] })
since_more size moment t call within since adds =
    subst (λ (x : List Call × List Call). AllOnlyAdd size (after_calls t.at_first x.0) x.1)
    (λ j. (
      sym (take-before t.calls (call ∷ []) moment within) j,
      sym (drop-append-le moment t.calls (call ∷ []) within) j,
    ))
    (adds_more size (state_at t moment) (drop moment t.calls) call since
    (subst (λ (state : DiskState). OnlyAdds size state call) (sym (now_from t moment)) adds))

-- ---- what holds of each segment, and what each call keeps, holds at each later moment

module _ (size : ℕ) (P : Segment → Type 0) where
  abbrev Each : DiskState → Type 0
  Each state = (segment : ℕ) → IfSome (state segment) P

  abbrev IsKeptBy : CallKind → Type 0
  IsKeptBy kind = (geometry : ℕ) (done : Bool) (s : OptionOf Segment)
      → KindAdds size geometry s kind → IfSome s P
      → IfSome (segment_after kind geometry done s) P

  module _ (kept : (kind : CallKind) → IsKeptBy kind) where
    behind_call : (state : DiskState) (call : Call) → OnlyAdds size state call → Each state
        → Each (after_call state call)
    behind_call state call adds each segment =
        after_each state call (λ (s : OptionOf Segment). IfSome s P) segment
        (λ here. kept call.kind call.geometry call.done (state segment)
        (subst (λ (n : ℕ). KindAdds size call.geometry (state n) call.kind) (sym here) adds)
        (each segment))
        (λ other. each segment)

    behind_calls : (n : ℕ) (state : DiskState) (calls : List Call) → AllOnlyAdd size state calls
        → Each state → Each (after_calls state (take n calls))
    behind_calls zero state calls all each = each
    behind_calls (suc n) state [] all each = each
    behind_calls (suc n) state (call ∷ calls) all each =
        behind_calls n (after_call state call) calls all.1 (behind_call state call all.0 each)

    at_later : (moment m : ℕ) (t : Tape) → moment ≤ m → OnlyAddsSince size moment t
        → Each (state_at t moment) → Each (state_at t m)
    at_later moment m t low since each =
        let all : take moment t.calls ++ take (m - moment) (drop moment t.calls) ≡ take m t.calls =
        sym (take-add moment (m - moment) t.calls)
        ∙ ap (λ (n : ℕ). take n t.calls) (omega arith) in
        subst Each
        (sym (after_calls-append t.at_first (take moment t.calls)
        (take (m - moment) (drop moment t.calls)))
        ∙ ap (after_calls t.at_first) all)
        (behind_calls (m - moment) (state_at t moment) (drop moment t.calls) since each)

-- ---- words that a crash may leave

last_or_older : (writes : List (ℕ × List ℕ)) (w : ℕ × List ℕ) (page k : ℕ) (word : List ℕ)
    → IsWritten (writes ++ w ∷ []) page k word
    → IsWritten writes page k word ⊎ ((w.0 ≡ page) × (word ≡ word_of w.1 k))
last_or_older [] w page k word (inl last) = inr last
last_or_older [] w page k word (inr none) = absurd none
last_or_older (v ∷ writes) w page k word (inl first) = inl (inl first)
last_or_older (v ∷ writes) w page k word (inr behind) =
    elim (last_or_older writes w page k word behind) [
      | inl older ↦ inl (inr older)
      | inr last ↦ inr last
    ]

-- where nothing waits for a sync each word is the durable one
only_durable : (whole bytes : List ℕ) → (bytes ≡ whole) ⊎ ⊥ → IsZeroOr whole bytes
only_durable whole bytes (inl same) = inr same
only_durable whole bytes (inr none) = absurd none

-- what is zeros or a word that is zeros or another one
through : (old new bytes : List ℕ) → IsZeroOr new old → IsZeroOr old bytes → IsZeroOr new bytes
through old new bytes adds (inl zeros) = inl zeros
through old new bytes (inl zeros) (inr same) = inl (same ∙ zeros)
through old new bytes (inr on) (inr same) = inr (same ∙ on)

module _ (s : Segment) (page : ℕ) (bytes : PageBytes) where
  abbrev written : Segment
  written = record s { writes = s.writes ++ (page, bytes.bytes) ∷ [] }

  written_here : AddsTo (page_as_read s page) bytes.bytes → PageLosesOnly s page
      → PageLosesOnly written page
  written_here adds old word low found may =
      let now : word_of (page_as_read written page) word ≡ word_of bytes.bytes word =
      ap (λ (p : List ℕ). word_of p word) (read_here s page 0 true bytes) in
      let older : IsZeroOr (word_of (page_as_read s page) word) found
      → IsZeroOr (word_of (page_as_read written page) word) found =
      λ was. subst (λ (w : List ℕ). IsZeroOr w found) (sym now)
      (through (word_of (page_as_read s page) word) (word_of bytes.bytes word) found
      (adds.words word low) was) in
      elim may [
        | inl durable ↦ older (old word low found (inl durable))
        | inr waits ↦ elim (last_or_older s.writes (page, bytes.bytes) page word found waits) [
          | inl before ↦ older (old word low found (inr before))
          | inr last ↦ inr (last.1 ∙ sym now)
        ]
      ]

  written_elsewhere : (other : ℕ) → page ≢ other → PageLosesOnly s other
      → PageLosesOnly written other
  written_elsewhere other apart old word low found may =
      let now : page_as_read written other ≡ page_as_read s other =
      read_elsewhere s other page 0 true bytes apart in
      let as_before : IsZeroOr (word_of (page_as_read s other) word) found
      → IsZeroOr (word_of (page_as_read written other) word) found =
      subst (λ (p : List ℕ). IsZeroOr (word_of p word) found) (sym now) in
      elim may [
        | inl durable ↦ as_before (old word low found (inl durable))
        | inr waits ↦ elim (last_or_older s.writes (page, bytes.bytes) other word found waits) [
          | inl before ↦ as_before (old word low found (inr before))
          | inr last ↦ absurd (apart last.0)
        ]
      ]

loses_behind : (size : ℕ) (kind : CallKind) → IsKeptBy size (SegmentLosesOnly size) kind
loses_behind size (Create true) geometry done s adds holds = (
  ap pages_of adds,
  λ page within word low found may. only_durable (word_of zero_page word) found may,
)
loses_behind size (Create false) geometry done s adds holds = holds
loses_behind size (Write page bytes) geometry done None adds holds = tt
loses_behind size (Write page bytes) geometry done (Some s) adds holds = (
  holds.0,
  λ other within. elim (cases_eq page other) [
    | inl same ↦ subst (PageLosesOnly (written s page bytes)) same
        (written_here s page bytes adds
        (holds.1 page (subst (λ (n : ℕ). n < s.pages) (sym same) within)))
    | inr apart ↦ written_elsewhere s page bytes other apart (holds.1 other within)
  ],
)
loses_behind size Sync geometry done None adds holds = tt
loses_behind size Sync geometry true (Some s) adds holds = (
  holds.0,
  λ page within word low found may.
      only_durable (word_of (page_as_read s page) word) found may,
)
loses_behind size Sync geometry false (Some s) adds holds = holds

-- at each moment a crash may leave of a word what is read, or zeros, where that was so at first
pub loses_only : (size moment m : ℕ) (t : Tape) → moment ≤ m → OnlyAddsSince size moment t
    → LosesOnly size (state_at t moment) → LosesOnly size (state_at t m)
loses_only size moment m t low since each =
    at_later size (SegmentLosesOnly size) (loses_behind size) moment m t low since each

-- ---- pages that are read

abbrev IsReadWhole : ℕ → Segment → Type 0
IsReadWhole size s = (s.pages ≡ pages_of size)
    × ((page : ℕ) → page < s.pages → length (page_as_read s page) ≡ 8192)

whole_behind : (size : ℕ) (kind : CallKind) → IsKeptBy size (IsReadWhole size) kind
whole_behind size (Create true) geometry done s adds holds =
    (ap pages_of adds, λ page within. length-replicate {A = ℕ} 8192 0)
whole_behind size (Create false) geometry done s adds holds = holds
whole_behind size (Write page bytes) geometry done None adds holds = tt
whole_behind size (Write page bytes) geometry done (Some s) adds holds = (
  holds.0,
  λ other within. elim (cases_eq page other) [
    | inl same ↦ subst (λ (n : ℕ). length (page_as_read (written s page bytes) n) ≡ 8192) same
        (ap length (read_here s page 0 true bytes) ∙ adds.whole)
    | inr apart ↦ ap length (read_elsewhere s other page 0 true bytes apart) ∙ holds.1 other within
  ],
)
whole_behind size Sync geometry done None adds holds = tt
whole_behind size Sync geometry true (Some s) adds holds = holds
whole_behind size Sync geometry false (Some s) adds holds = holds

pub reads_whole : (size moment m : ℕ) (t : Tape) → moment ≤ m → OnlyAddsSince size moment t
    → ReadsWhole size (state_at t moment) → ReadsWhole size (state_at t m)
reads_whole size moment m t low since each =
    at_later size (IsReadWhole size) (whole_behind size) moment m t low since each

-- ---- a disk on which a log may begin

-- there each word is the log's, and so is what is read
pub suited_loses_only : (opening : Opening) (state : DiskState) → IsSuited opening state
    → LosesOnly (opening.setup).seg_size state
suited_loses_only opening state suited segment = of_segment (state segment) (suited segment)
  where
    of_segment : (s : OptionOf Segment) → SegmentAssures (opening.setup).seg_size
        (λ n. (1 ≤ n) × (n ≤ opening.made)) (IsLogAt opening []) segment s
        → IfSome s (SegmentLosesOnly (opening.setup).seg_size)
    of_segment None holds = tt
    of_segment (Some s) holds = (
      holds.0,
      λ page within word low found may.
          let on : page < pages_of (opening.setup).seg_size =
          subst (λ (n : ℕ). page < n) holds.0 within in
          let read = word_of (page_as_read s page) word in
          inr (holds.1 page word on low found may
          ∙ sym (holds.1 page word on low read
          (read_word s.writes page word (s.durable page) read refl))),
    )

-- ---- a log, at each moment since its opening

module _ {first : DiskState} (opening : Opening) (words : List ℕ) (home : Option Plain)
    (views : List View) (k : IsSound first opening words home views) where
  abbrev segment : ℕ
  segment = (opening.setup).seg_size

  pub logs_lose_only : IfSuited first opening k.writer
      (LosesOnlySince (opening.setup).seg_size opening.moment)
  logs_lose_only = IfSome_then (tape_from first (k.writer).calls) (k.reading).adds
      (λ t adds suited m low. loses_only segment opening.moment m t low (adds suited)
      (suited_loses_only opening (state_at t opening.moment) suited))

  pub logs_stay_whole : IfSuited first opening k.writer
      (StaysWholeSince (opening.setup).seg_size opening.moment)
  logs_stay_whole = IfSome_then (tape_from first (k.writer).calls) (k.reading).adds
      (λ t adds suited whole m low.
      reads_whole segment opening.moment m t low (adds suited) whole)
