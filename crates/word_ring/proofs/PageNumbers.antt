-- Pages and segments of the written address.
use Rattle.std.proofs.Common.{◌≡◌, ◌≢◌, ℕ, ◌+◌, ◌-◌, ◌*◌, ◌/◌, ◌%◌, ◌<◌, ◌≤◌, inl, inr, List, length, min, refl, sym, ap, ◌∙◌, subst, arith}
use Rattle.std.proofs.Math.Nat.{add-mul, div-mul-le_self, le_of_mul-le-mul_right, le_trans, mod-lt, mul-mod_left, mul_assoc, mul_comm}
use Rattle.std.proofs.lemmas.Nat.{div-add-mod', div-mul-add}
use Rattle.std.proofs.lemmas.Bool.{cases_lt}
use Rattle.byte_position.specs.Geometry.{pages_of}
use Rattle.machine_state.specs.Steps.{IsNextWrite, IsPageLoaded}
use Rattle.machine_state.specs.Views.{Plain, View}
use Rattle.machine_state.specs.Words.{Opening}
use Rattle.machine_state.specs.declared.setup.Setup.{Setup}
use Rattle.wal_rule.specs.declared.seated.SeatedPass.{SeatedPass}
use Rattle.wal_rule.specs.SeatedPasses.{setup_of, view_of}
use Rattle.word_ring.specs.InHand.{lent_in, writer_in}
use Rattle.word_ring.specs.Written.{IsSegmentThere}
use Rattle.word_ring.proofs.CountBounds.{IsInBounds}

-- the segment of a page begins at or before it
pub segment_begun : (size pages page written segment : ℕ) → 8192 * pages ≡ size
    → page ≡ written / 8192 → segment ≡ page / pages → segment * size ≤ written
segment_begun size pages page written segment whole is of =
    let product : segment * size ≡ 8192 * (segment * pages) =
    ap (λ (n : ℕ). segment * n) (sym whole) ∙ sym (mul_assoc segment 8192 pages)
    ∙ ap (λ (n : ℕ). n * pages) (mul_comm segment 8192) ∙ mul_assoc 8192 segment pages in
    let begun : segment * pages ≤ page =
    subst (λ (n : ℕ). n * pages ≤ page) (sym of) (div-mul-le_self page pages) in
    omega (arith, product, begun, is)

-- an address behind a page's start, up to its end, and not a segment's end, lies in the page's
-- segment
pub segment_at : (size pages page upto : ℕ) → 8192 * pages ≡ size → 0 < pages
    → page * 8192 < upto → upto ≤ (page + 1) * 8192 → upto % size ≢ 0 → page / pages ≡ upto / size
segment_at size pages page upto whole some behind within inside =
    let segment = page / pages in
    let product : segment * size ≡ 8192 * (segment * pages) =
    ap (λ (n : ℕ). segment * n) (sym whole) ∙ sym (mul_assoc segment 8192 pages)
    ∙ ap (λ (n : ℕ). n * pages) (mul_comm segment 8192) ∙ mul_assoc 8192 segment pages in
    let parts = div-add-mod' page pages in
    let on = mod-lt page some in
    let least : segment * size < upto = omega (arith, product, parts, behind) in
    let most : upto ≤ segment * size + size = omega (arith, product, parts, on, within, whole) in
    let rest : upto ≡ segment * size + (upto - segment * size) = omega (arith, least) in
    let full : segment * size + size ≡ segment * size + 1 * size = omega arith in
    let low : upto - segment * size < size = elim (cases_lt (upto - segment * size) size) [
      | inl less ↦ less
      | inr over ↦ absurd (inside (
          ap (λ (n : ℕ). n % size) (at_end least most over ∙ full)
          ∙ ap (λ (n : ℕ). n % size) (sym (add-mul segment 1 size))
          ∙ mul-mod_left (segment + 1) size
          ))
    ] in
    sym (ap (λ (n : ℕ). n / size) rest ∙ div-mul-add segment size (upto - segment * size) low)
  where
    at_end : page / pages * size < upto → upto ≤ page / pages * size + size
        → size ≤ upto - page / pages * size → upto ≡ page / pages * size + size
    at_end least most over = omega (arith, least, most, over)

-- the segment of a page is at most the one behind the last that reaches so far
pub segment_next : (size written made segment : ℕ) → 0 < size → segment * size ≤ written
    → written ≤ made * size + size → segment ≤ made + 1
segment_next size written made segment some begun reached =
    let product : (made + 1) * size ≡ made * size + 1 * size = add-mul made 1 size in
    le_of_mul-le-mul_right (le_trans begun (omega (arith, product, reached))) some

-- the same of a pass
pub next_of_log : {D : Type 0} (p : SeatedPass D) → IsInBounds (view_of p) → (page pages : ℕ)
    → 8192 * pages ≡ (setup_of p).seg_size → 0 < pages
    → page ≡ (writer_in (view_of p)).written / 8192
    → page / pages ≤ (writer_in (view_of p)).made + 1
next_of_log p bounds page pages whole some here =
    let w : Plain = writer_in (view_of p) in
    segment_next (setup_of p).seg_size w.written w.made (page / pages)
    (omega (arith, whole, some))
    (segment_begun (setup_of p).seg_size pages page w.written (page / pages) whole here refl)
    (subst (λ (o : Opening).
    w.written ≤ w.made * (o.setup).seg_size + (o.setup).seg_size) (p.seated).own
    bounds.reached)

-- a page by its segment, and its number there
pub page_again : (size pages count page at : ℕ) → count ≡ pages → pages ≡ pages_of size
    → page ≡ at → page / count * pages_of size + page % count ≡ at
page_again size pages count page at same whole is =
    ap (λ (n : ℕ). page / count * n + page % count) (sym (same ∙ whole))
    ∙ div-add-mod' page count ∙ is

-- the page under way may be written, where its segment is there and its words are loaded
pub next_write : (setup : Setup) (v : View) (old : Plain) (page count known upto : ℕ)
    (bytes : List ℕ) → count ≡ pages_of setup.seg_size → 0 < count
    → page ≡ old.written / 8192 → old.written < known
    → known ≡ (lent_in (v.writing).hold).known
    → (lent_in (v.writing).hold).known % 8 ≡ 0
    → upto ≡ min known ((page + 1) * 8192)
    → IsSegmentThere (page / count) old (writer_in v) → length bytes ≡ 8192
    → IsPageLoaded page bytes (lent_in (v.writing).hold).staged
    → IsNextWrite setup (page / count) (page % count) upto bytes (lent_in (v.writing).hold)
next_write setup v old page count known upto bytes whole some is left known_is aligned upto_is there
    long loaded =
    let here = there.written in
    let at : page ≡ (writer_in v).written / 8192 = is ∙ ap (λ (n : ℕ). n / 8192) (sym here) in
    record {
      up = there.up;
      page_is = page_again setup.seg_size count count page _ refl whole at;
      on_segment = subst (λ (n : ℕ). page % count < n) whole (mod-lt page some);
      is_made = (let made = there.made in omega (arith, made));
      alone = there.alone;
      rises = omega (arith, is, left, here, upto_is);
      behind_start = omega (arith, is, left, here, upto_is);
      within = omega (arith, is, here, upto_is);
      copied = omega (arith, known_is, upto_is);
      aligned = omega (arith, known_is, aligned, upto_is);
      whole = long;
      loaded = subst (λ (n : ℕ). IsPageLoaded n bytes (lent_in (v.writing).hold).staged) at
          loaded;
    }
