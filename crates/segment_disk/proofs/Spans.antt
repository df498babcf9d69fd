-- A loop over the counted calls keeps of a segment how many of them lead to its last sync.
use Rattle.std.proofs.Common.{◌≡◌, ◌≢◌, ℕ, ◌+◌, ◌/◌, ◌<◌, ◌≤◌, Bool, true, false, List, [], ◌∷◌, ◌++◌, length, get_or, take, drop, Option, Some, None, is_some, option_map, refl, sym, ap, ◌∙◌, subst, ◌==◌, if◌then◌else◌, arith, append_assoc, append-nil}
use Rattle.std.proofs.lemmas.Bool.{eq-eqb, ne_eqb}
use Rattle.std.proofs.lemmas.List.{take_more, take_all, drop_all, drop-append-le, length-take-le, append-nil}
use Rattle.segment_disk.specs.declared.disk.Call.{Call}
use Rattle.segment_disk.specs.declared.disk.CallKind.{CallKind}
use Rattle.segment_disk.specs.declared.disk.CallKind.TheVariants.{Create, Write, Sync}
use Rattle.segment_disk.specs.declared.memory.first.FirstSegment.{FirstSegment}
use Rattle.segment_disk.specs.First.{durable_segment, first_at, first_state}
use Rattle.segment_disk.specs.Tape.{Segment, DiskState, segment_after, after_calls}
use Rattle.segment_disk.specs.Crash.{HasPages, IsSyncedUpto, IsWrittenSince, write_of, writes_of}
use Rattle.segment_disk.proofs.Reading.{after_calls-push}

-- the pages of a segment, if it is there
abbrev pub HasPagesIf : Option Segment → ℕ → Type 0
HasPagesIf None pages = Unit {0}
HasPagesIf (Some s) pages = pages ≡ s.pages

-- what the loop keeps of the segment as synced and as it is now, with the writes in between
pub record Spans (there : Bool) (pages : ℕ) (synced : Option Segment) (writes : List (ℕ × List ℕ)) (now : Option Segment) : Type 0 where
  pub there_is : there ≡ is_some now
  pub pages_are : HasPagesIf now pages
  pub written : IsWrittenSince synced writes now

-- a call that makes nothing durable
abbrev pub Decides : CallKind → Bool → Type 0
Decides (Create made) done = made ≡ true
Decides (Write page bytes) done = ⊥
Decides Sync done = done ≡ true

-- nothing was written since
synced_itself : (s : Segment) → s.writes ≡ [] → s ≡ record s { writes = [] }
synced_itself s none = ap (λ (ws : List (ℕ × List ℕ)). record { pages = s.pages; durable = s.durable; writes = ws }) none

pub Spans-first : (segments : List FirstSegment) (number pages : ℕ) (segment : FirstSegment) → Some segment ≡ first_at segments number → pages ≡ length segment.pages.items
    → Spans true pages (first_state segments number) [] (first_state segments number)
Spans-first segments number pages segment is count =
    subst (λ (s : Option FirstSegment). Spans true pages (option_map durable_segment s) [] (option_map durable_segment s)) is
    (record { there_is = refl; pages_are = count; written = (refl, refl) })

pub Spans-none : (segments : List FirstSegment) (number pages : ℕ) → None ≡ first_at segments number
    → Spans false pages (first_state segments number) [] (first_state segments number)
Spans-none segments number pages is =
    subst (λ (s : Option FirstSegment). Spans false pages (option_map durable_segment s) [] (option_map durable_segment s)) is
    (record { there_is = refl; pages_are = tt; written = tt })

-- behind a call that decides
Spans-created : (size : ℕ) (done : Bool) (s : Option Segment) → Spans true (size / 8192) (segment_after (Create true) size done s) [] (segment_after (Create true) size done s)
Spans-created size done s = record { there_is = refl; pages_are = refl; written = (refl, refl) }

Spans-synced : (size pages : ℕ) (there : Bool) (synced now : Option Segment) (writes : List (ℕ × List ℕ)) → Spans there pages synced writes now → Spans there pages (segment_after Sync size true now) [] (segment_after Sync size true now)
Spans-synced size pages there synced None writes spans = record { there_is = spans.there_is; pages_are = tt; written = tt }
Spans-synced size pages there synced (Some s) writes spans = record { there_is = spans.there_is; pages_are = spans.pages_are; written = (refl, refl) }

-- behind one that does not
Spans-written : (size pages page : ℕ) (done there : Bool) (bytes : _) (synced now : Option Segment) (writes : List (ℕ × List ℕ)) → Spans there pages synced writes now
    → Spans there pages synced (writes ++ write_of (Write page bytes)) (segment_after (Write page bytes) size done now)
Spans-written size pages page done there bytes None None writes spans = record { there_is = spans.there_is; pages_are = tt; written = tt }
Spans-written size pages page done there bytes None (Some s) writes spans = absurd spans.written
Spans-written size pages page done there bytes (Some b) None writes spans = absurd spans.written
Spans-written size pages page done there bytes (Some b) (Some s) writes spans = record {
  there_is = spans.there_is;
  pages_are = spans.pages_are;
  written = (spans.written.0, ap (λ (s : Segment). record s { writes = s.writes ++ (page, bytes.bytes) ∷ [] }) spans.written.1);
}

Spans-same : (there : Bool) (pages : ℕ) (synced now : Option Segment) (writes : List (ℕ × List ℕ)) → Spans there pages synced writes now → Spans there pages synced (writes ++ []) now
Spans-same there pages synced now writes spans = subst (λ (ws : List (ℕ × List ℕ)). Spans there pages synced ws now) (sym (append-nil writes)) spans

Spans-undecided : (kind : CallKind) (size pages : ℕ) (done there : Bool) (synced now : Option Segment) (writes : List (ℕ × List ℕ)) → (Decides kind done → ⊥) → Spans there pages synced writes now
    → Spans there pages synced (writes ++ write_of kind) (segment_after kind size done now)
Spans-undecided (Create true) size pages done there synced now writes not spans = absurd (not refl)
Spans-undecided (Create false) size pages done there synced now writes not spans = Spans-same there pages synced now writes spans
Spans-undecided (Write page bytes) size pages done there synced now writes not spans = Spans-written size pages page done there bytes synced now writes spans
Spans-undecided Sync size pages true there synced now writes not spans = absurd (not refl)
Spans-undecided Sync size pages false there synced None writes not spans = Spans-same there pages synced None writes spans
Spans-undecided Sync size pages false there synced (Some s) writes not spans = Spans-same there pages synced (Some s) writes spans

pub writes_of-push : (calls : List Call) (call : Call) (segment : ℕ) → writes_of (calls ++ call ∷ []) segment ≡ writes_of calls segment ++ (if segment == call.segment then write_of call.kind else [])
writes_of-push [] call segment = append-nil (if segment == call.segment then write_of call.kind else [])
writes_of-push (c ∷ calls) call segment =
    let front = if segment == c.segment then write_of c.kind else [] in
    ap (λ (ws : List (ℕ × List ℕ)). front ++ ws) (writes_of-push calls call segment) ∙ sym (append_assoc front (writes_of calls segment) (if segment == call.segment then write_of call.kind else []))

-- what the loop keeps before the i-th call
abbrev pub SpansAt : DiskState → List Call → ℕ → Bool → ℕ → ℕ → ℕ → Type 0
SpansAt start calls segment there pages since i =
    (since ≤ i) × Spans there pages (after_calls start (take since calls) segment) (writes_of (drop since (take i calls)) segment) (after_calls start (take i calls) segment)

module _ (start : DiskState) (calls : List Call) (i segment pages since : ℕ) (there : Bool) (call : Call) (within : i < length calls) (is : call ≡ get_or calls i call) (kept : SpansAt start calls segment there pages since i) where
  taken : take (i + 1) calls ≡ take i calls ++ call ∷ []
  taken = take_more calls i call within ∙ ap (λ (c : Call). take i calls ++ c ∷ []) (sym is)

  next_is : (here : Bool) → (segment == call.segment) ≡ here
      → after_calls start (take (i + 1) calls) segment ≡ (if here then segment_after call.kind call.geometry call.done (after_calls start (take i calls) segment) else after_calls start (take i calls) segment)
  next_is here same =
      ap (λ (cs : List Call). after_calls start cs segment) taken ∙ ap (λ (state : DiskState). state segment) (after_calls-push start (take i calls) call)
      ∙ ap (λ (b : Bool). if b then segment_after call.kind call.geometry call.done (after_calls start (take i calls) segment) else after_calls start (take i calls) segment) same

  written_is : (here : Bool) → (segment == call.segment) ≡ here
      → writes_of (drop since (take (i + 1) calls)) segment ≡ writes_of (drop since (take i calls)) segment ++ (if here then write_of call.kind else [])
  written_is here same =
      let long : length (take i calls) ≡ i = length-take-le i calls (omega arith) in
      let before : since ≤ i = kept.0 in
      ap (λ (cs : List Call). writes_of (drop since cs) segment) taken ∙ ap (λ (cs : List Call). writes_of cs segment) (drop-append-le since (take i calls) (call ∷ []) (omega arith))
      ∙ writes_of-push (drop since (take i calls)) call segment
      ∙ ap (λ (b : Bool). writes_of (drop since (take i calls)) segment ++ (if b then write_of call.kind else [])) same

  -- the loop goes on to the next call
  go_on : (here : Bool) → (segment == call.segment) ≡ here
      → Spans there pages (after_calls start (take since calls) segment) (writes_of (drop since (take i calls)) segment ++ (if here then write_of call.kind else []))
      (if here then segment_after call.kind call.geometry call.done (after_calls start (take i calls) segment) else after_calls start (take i calls) segment)
      → SpansAt start calls segment there pages since (i + 1)
  go_on here same spans =
      let before : since ≤ i = kept.0 in (
        omega arith,
        subst (λ (ws : List (ℕ × List ℕ)). Spans there pages (after_calls start (take since calls) segment) ws (after_calls start (take (i + 1) calls) segment)) (sym (written_is here same))
            (subst (λ (s : Option Segment). Spans there pages (after_calls start (take since calls) segment) (writes_of (drop since (take i calls)) segment ++ (if here then write_of call.kind else [])) s) (sym (next_is here same)) spans),
      )

  pub spans_elsewhere : call.segment ≢ segment → SpansAt start calls segment there pages since (i + 1)
  spans_elsewhere other =
      go_on false (ne_eqb segment call.segment (λ same. other (sym same)))
      (Spans-same there pages (after_calls start (take since calls) segment) (after_calls start (take i calls) segment) (writes_of (drop since (take i calls)) segment) kept.1)

  pub spans_undecided : call.segment ≡ segment → (Decides call.kind call.done → ⊥) → SpansAt start calls segment there pages since (i + 1)
  spans_undecided here not =
      go_on true (eq-eqb segment call.segment (sym here))
      (Spans-undecided call.kind call.geometry pages call.done there (after_calls start (take since calls) segment) (after_calls start (take i calls) segment) (writes_of (drop since (take i calls)) segment) not kept.1)

  -- the loop begins anew behind this call
  begin : (now_there : Bool) (now_pages : ℕ) → call.segment ≡ segment
      → Spans now_there now_pages (segment_after call.kind call.geometry call.done (after_calls start (take i calls) segment)) [] (segment_after call.kind call.geometry call.done (after_calls start (take i calls) segment))
      → SpansAt start calls segment now_there now_pages (i + 1) (i + 1)
  begin now_there now_pages here spans =
      let long : length (take (i + 1) calls) ≡ i + 1 = length-take-le (i + 1) calls (omega arith) in
      let none : drop (i + 1) (take (i + 1) calls) ≡ [] = drop_all (i + 1) (take (i + 1) calls) (omega arith) in (
        omega arith,
        subst (λ (cs : List Call). Spans now_there now_pages (after_calls start (take (i + 1) calls) segment) (writes_of cs segment) (after_calls start (take (i + 1) calls) segment)) (sym none)
            (subst (λ (s : Option Segment). Spans now_there now_pages s [] s) (sym (next_is true (eq-eqb segment call.segment (sym here)))) spans),
      )

  pub spans_created : call.segment ≡ segment → call.kind ≡ Create true → SpansAt start calls segment true (call.geometry / 8192) (i + 1) (i + 1)
  spans_created here kind =
      begin true (call.geometry / 8192) here (rw kind (Spans-created call.geometry call.done (after_calls start (take i calls) segment)))

  pub spans_synced : call.segment ≡ segment → call.kind ≡ Sync → call.done ≡ true → SpansAt start calls segment there pages (i + 1) (i + 1)
  spans_synced here kind done =
      begin there pages here (rw (kind, done) (Spans-synced call.geometry pages there (after_calls start (take since calls) segment) (after_calls start (take i calls) segment) (writes_of (drop since (take i calls)) segment) kept.1))

-- at the loop's end
module _ (start : DiskState) (calls : List Call) (i segment pages since : ℕ) (end : length calls ≤ i) where
  whole : (there : Bool) → SpansAt start calls segment there pages since i → Spans there pages (after_calls start (take since calls) segment) (writes_of (drop since calls) segment) (after_calls start calls segment)
  whole there kept =
      subst (λ (cs : List Call). Spans there pages (after_calls start (take since calls) segment) (writes_of (drop since cs) segment) (after_calls start cs segment)) (take_all i calls end) kept.1

  pub spans_gone : SpansAt start calls segment false pages since i → after_calls start calls segment ≡ None
  spans_gone kept = none (after_calls start calls segment) (whole false kept).there_is
    where
      none : (s : Option Segment) → false ≡ is_some s → s ≡ None
      none None is = refl
      none (Some s) is = absurd (cc)

  pub spans_there : i ≤ length calls → SpansAt start calls segment true pages since i → HasPages (after_calls start calls segment) pages × IsSyncedUpto start calls segment since
  spans_there inside kept =
      let before : since ≤ i = kept.0 in
      (has (after_calls start calls segment) (whole true kept).there_is (whole true kept).pages_are, record { within = omega arith; written = (whole true kept).written })
    where
      has : (s : Option Segment) → true ≡ is_some s → HasPagesIf s pages → HasPages s pages
      has None is pages_are = absurd (cc)
      has (Some s) is pages_are = pages_are

pub undecided_create : (made done : Bool) → made ≡ false → Decides (Create made) done → ⊥
undecided_create made done not decides = cc

pub undecided_sync : (done : Bool) → done ≡ false → Decides Sync done → ⊥
undecided_sync done not decides = cc
