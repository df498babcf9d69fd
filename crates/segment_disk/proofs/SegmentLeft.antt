-- What a crash leaves of a segment, made page by page.
use Rattle.std.proofs.Common.{◌≡◌, ℕ, ◌+◌, ◌*◌, ◌<◌, ◌≤◌, Bool, true, List, [], ◌∷◌, ◌++◌, length, take, drop, min, Option, Some, None, refl, sym, ap, subst, ◌∙◌, nat_lt, if◌then◌else◌, arith, inl, inr, add-one}
use Rattle.std.proofs.lemmas.Bool.{cases_lt, lt-ltb}
use Rattle.std.proofs.lemmas.List.{get_or_append_left, get_or_push, length_push, get_or-drop, drop-drop}
use Rattle.segment_disk.specs.declared.disk.Call.{Call}
use Rattle.segment_disk.specs.declared.disk.PageBytes.{PageBytes}
use Rattle.segment_disk.specs.declared.memory.pick.Pick.{Pick}
use Rattle.segment_disk.specs.declared.memory.pick.Pick.TheVariants.{Old, New, Odd, List as Listed}
use Rattle.segment_disk.specs.First.{page_at}
use Rattle.segment_disk.specs.Tape.{Segment, DiskState, zero_page, new_segment, after_calls, page_as_read, page_of_segment, IsPageRead}
use Rattle.segment_disk.specs.DiskImage.{word_of}
use Rattle.segment_disk.specs.Picks.{IsPickedPage, IsPickedSegment, choice_of, numbered_page, undecided_below, undecided_in, writes_to}
use Rattle.segment_disk.specs.Crash.{HasPages, HoldTaken, IsSyncedUpto, IsWrittenSince, number_taken, numbers_of, writes_of}

-- the segment, where it is there
abbrev pub segment_of : Option Segment → Segment
segment_of None = new_segment 0
segment_of (Some s) = s

abbrev pub writes_in : Option Segment → List (ℕ × List ℕ)
writes_in s = (segment_of s).writes

-- what a list has left from a page on is what it lists there
number_at : (pick : Pick) (place count k : ℕ) → number_taken pick (drop place (numbers_of pick)) count k ≡ choice_of pick count (place + k) k
number_at Old place count k = refl
number_at New place count k = refl
number_at Odd place count k = refl
number_at (Listed numbers) place count k = get_or-drop place numbers.items k 0

-- a page whose words were taken
picked_page : (pick : Pick) (s : Segment) (page before : ℕ) (rest durable bytes : List ℕ) → rest ≡ drop (1024 * before) (numbers_of pick) → durable ≡ s.durable page → length bytes ≡ 8192
    → HoldTaken pick rest (writes_to s.writes page) durable bytes → IsPickedPage (choice_of pick) s page before bytes
picked_page pick s page before rest durable bytes left same long held =
    let writes = writes_to s.writes page in
    record {
      size = long;
      words = λ k below.
          held k below ∙ ap (λ (d : List ℕ). word_of (numbered_page writes d (number_taken pick rest (length writes) k)) k) same
          ∙ ap (λ (n : ℕ). word_of (numbered_page writes (s.durable page) n) k) (ap (λ (l : List ℕ). number_taken pick l (length writes) k) left ∙ number_at pick (1024 * before) (length writes) k);
    }

-- what was read before the writes is the durable page
read_durable : (synced now : Option Segment) (writes : List (ℕ × List ℕ)) (pages page : ℕ) (there : Bool) (bytes : List ℕ) → IsWrittenSince synced writes now → HasPages now pages → page < pages
    → IsPageRead (page_of_segment synced page) there bytes → bytes ≡ (segment_of now).durable page
read_durable None None writes pages page there bytes written has below read = absurd has
read_durable None (Some s) writes pages page there bytes written has below read = absurd written
read_durable (Some b) None writes pages page there bytes written has below read = absurd written
read_durable (Some b) (Some s) writes pages page there bytes written has below read =
    let whole : pages ≡ b.pages = has ∙ ap (λ (s : Segment). s.pages) written.1 in
    let inside : nat_lt page b.pages ≡ true = lt-ltb page b.pages (omega arith) in
    let is = subst (λ (o : Bool). IsPageRead (if o then Some (page_as_read b page) else None) there bytes) inside read in
    is.1 ∙ subst (λ (s : Segment). page_as_read b page ≡ s.durable page) (sym written.1) (ap (λ (ws : List (ℕ × List ℕ)). page_as_read (record b { writes = ws }) page) written.0)

written_since : (synced now : Option Segment) (writes : List (ℕ × List ℕ)) (pages : ℕ) → IsWrittenSince synced writes now → HasPages now pages → writes ≡ writes_in now
written_since None None writes pages written has = absurd has
written_since None (Some s) writes pages written has = absurd written
written_since (Some b) None writes pages written has = absurd written
written_since (Some b) (Some s) writes pages written has = sym (ap (λ (s : Segment). s.writes) written.1)

-- what the loop keeps before a page
pub record LeftUpto (pick : Pick) (numbers : List ℕ) (now : Option Segment) (pages : List PageBytes) (undecided : ℕ) (rest : List ℕ) (page : ℕ) : Type 0 where
  pub count : length pages ≡ page
  pub within : undecided ≤ page
  pub undecided_is : undecided ≡ undecided_below (writes_in now) page
  pub rest_is : rest ≡ drop (1024 * undecided) numbers
  pub picked : (before : ℕ) → numbers ≡ drop (1024 * before) (numbers_of pick) → (p : ℕ) → p < page
      → IsPickedPage (choice_of pick) (segment_of now) p (before + undecided_below (writes_in now) p) (page_at pages p)

pub LeftUpto-none : (pick : Pick) (numbers : List ℕ) (now : Option Segment) → LeftUpto pick numbers now [] 0 numbers 0
LeftUpto-none pick numbers now = record {
  count = refl;
  within = omega arith;
  undecided_is = refl;
  rest_is = refl;
  picked = λ before is p below. absurd (omega arith);
}

module _ (pick : Pick) (numbers : List ℕ) (start : DiskState) (calls : List Call) (segment since count : ℕ) (has : HasPages (after_calls start calls segment) count) (synced : IsSyncedUpto start calls segment since)
    (pages : List PageBytes) (undecided : ℕ) (rest : List ℕ) (page : ℕ) (below : page < count) (so_far : LeftUpto pick numbers (after_calls start calls segment) pages undecided rest page)
    (there : Bool) (durable bytes : List ℕ) (written : ℕ) (read : IsPageRead (page_of_segment (after_calls start (take since calls) segment) page) there durable)
    (written_is : written ≡ length (writes_to (writes_of (drop since calls) segment) page)) (held : HoldTaken pick rest (writes_to (writes_of (drop since calls) segment) page) durable bytes) (long : length bytes ≡ 8192) where
  abbrev now : Option Segment
  now = after_calls start calls segment

  writes_are : writes_of (drop since calls) segment ≡ writes_in now
  writes_are = written_since (after_calls start (take since calls) segment) now (writes_of (drop since calls) segment) count synced.written has

  held_now : HoldTaken pick rest (writes_to (writes_in now) page) durable bytes
  held_now = subst (λ (ws : List (ℕ × List ℕ)). HoldTaken pick rest (writes_to ws page) durable bytes) writes_are held

  durable_now : durable ≡ (segment_of now).durable page
  durable_now = read_durable (after_calls start (take since calls) segment) now (writes_of (drop since calls) segment) count page there durable synced.written has below read

  written_now : written ≡ length (writes_to (writes_in now) page)
  written_now = written_is ∙ ap (λ (ws : List (ℕ × List ℕ)). length (writes_to ws page)) writes_are

  picked_more : (before : ℕ) → numbers ≡ drop (1024 * before) (numbers_of pick) → (p : ℕ) → p < page + 1
      → IsPickedPage (choice_of pick) (segment_of now) p (before + undecided_below (writes_in now) p) (page_at (pages ++ record { bytes = bytes } ∷ []) p)
  picked_more before is p less = elim (cases_lt p page) [
    | inl earlier ↦
        (let size : length pages ≡ page = so_far.count in
        subst (λ (b : PageBytes). IsPickedPage (choice_of pick) (segment_of now) p (before + undecided_below (writes_in now) p) b.bytes)
        (sym (get_or_append_left pages (record { bytes = bytes } ∷ []) (record { bytes = zero_page }) p (omega arith))) (so_far.picked before is p earlier))
    | inr here ↦
        (let same : p ≡ page = omega arith in
        let place : 1024 * before + 1024 * undecided ≡ 1024 * (before + undecided_below (writes_in now) page) = omega (arith, so_far.undecided_is) in
        let left : rest ≡ drop (1024 * (before + undecided_below (writes_in now) page)) (numbers_of pick) =
        so_far.rest_is ∙ ap (drop (1024 * undecided)) is ∙ drop-drop (1024 * undecided) (1024 * before) (numbers_of pick) ∙ ap (λ (n : ℕ). drop n (numbers_of pick)) place in
        let at_page = picked_page pick (segment_of now) page (before + undecided_below (writes_in now) page) rest durable bytes left durable_now long held_now in
        subst (λ (q : ℕ). IsPickedPage (choice_of pick) (segment_of now) q (before + undecided_below (writes_in now) q) (page_at (pages ++ record { bytes = bytes } ∷ []) q)) (sym same)
        (subst (λ (b : PageBytes). IsPickedPage (choice_of pick) (segment_of now) page (before + undecided_below (writes_in now) page) b.bytes)
        (sym (get_or_push pages (record { bytes = bytes }) (record { bytes = zero_page }) page so_far.count)) at_page))
  ]

  -- the page was written
  pub left_undecided : (after : List ℕ) → 0 < written → after ≡ drop 1024 rest
      → LeftUpto pick numbers now (pages ++ record { bytes = bytes } ∷ []) (undecided + 1) after (page + 1)
  left_undecided after some after_is = record {
    count = length_push pages (record { bytes = bytes }) ∙ ap (λ (n : ℕ). n + 1) so_far.count;
    within = omega (arith, so_far.within);
    undecided_is =
        (let one : min 1 (length (writes_to (writes_in now) page)) ≡ 1 = omega (arith, written_now) in
        ap (λ (n : ℕ). n + 1) so_far.undecided_is ∙ sym (ap (undecided_below (writes_in now)) (add-one page) ∙ ap (λ (n : ℕ). undecided_below (writes_in now) page + n) one));
    rest_is =
        (let place : 1024 * undecided + 1024 ≡ 1024 * (undecided + 1) = omega arith in
        after_is ∙ ap (drop 1024) so_far.rest_is ∙ drop-drop 1024 (1024 * undecided) numbers ∙ ap (λ (n : ℕ). drop n numbers) place);
    picked = picked_more;
  }

  -- it was not
  pub left_decided : written ≤ 0 → LeftUpto pick numbers now (pages ++ record { bytes = bytes } ∷ []) undecided rest (page + 1)
  left_decided none = record {
    count = length_push pages (record { bytes = bytes }) ∙ ap (λ (n : ℕ). n + 1) so_far.count;
    within = omega (arith, so_far.within);
    undecided_is =
        (let zero_of : min 1 (length (writes_to (writes_in now) page)) ≡ 0 = omega (arith, written_now) in
        so_far.undecided_is ∙ sym (ap (undecided_below (writes_in now)) (add-one page) ∙ ap (λ (n : ℕ). undecided_below (writes_in now) page + n) zero_of ∙ omega arith));
    rest_is = so_far.rest_is;
    picked = picked_more;
  }

-- the whole segment
pub left_whole : (pick : Pick) (numbers : List ℕ) (now : Option Segment) (count : ℕ) (pages : List PageBytes) (undecided : ℕ) (rest : List ℕ) (page : ℕ) → HasPages now count → count ≤ page → page ≤ count
    → LeftUpto pick numbers now pages undecided rest page
    → ((before : ℕ) → numbers ≡ drop (1024 * before) (numbers_of pick) → IsPickedSegment (choice_of pick) before now (Some (record { pages = length pages; page = page_at pages }))) × (undecided ≡ undecided_in now)
left_whole pick numbers None count pages undecided rest page has at_least at_most left = absurd has
left_whole pick numbers (Some s) count pages undecided rest page has at_least at_most left =
    let same : page ≡ s.pages = omega (arith, has) in
    (λ before is. (left.count ∙ same, λ p below. left.picked before is p (omega (arith, same))), left.undecided_is ∙ ap (undecided_below s.writes) same)
