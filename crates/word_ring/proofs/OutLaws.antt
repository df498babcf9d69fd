-- A page is written out.
use Rattle.std.proofs.Common.{◌≡◌, ℕ, ◌/◌, ◌<◌, ◌≤◌, inl, inr, max, refl, sym, ap, ◌∙◌, subst, arith}
use mathlib.Core.Option.{none}
use Rattle.byte_position.specs.Geometry.{pages_of}
use Rattle.flush_core.specs.Calls.{page_upto, waiting_behind}
use Rattle.machine_state.specs.Views.{Plain}
use Rattle.word_ring.specs.Written.{WaitsForNoOther, IsPageWritten, IsPagePut, IsSegmentMade, IsSegmentSynced, IsSegmentThere, IsSettledBehind, LeavesAlone}

-- a page is put, and what comes behind it is done
pub behind_put : (size known page count upto : ℕ) (old mid put new : Plain)
    → count ≡ pages_of size → page ≡ old.written / 8192 → upto ≡ page_upto known page
    → IsSegmentThere (page / count) old mid → IsPagePut (page / count) upto mid put
    → IsSettledBehind size upto put new → IsPageWritten size known old new
behind_put size known page count upto old mid put new many here is there wrote behind = record {
  up = behind.up;
  written = behind.written ∙ wrote.written ∙ is ∙ ap (λ (p : ℕ). page_upto known p) here;
  made = behind.made ∙ wrote.made ∙ there.made
      ∙ ap (λ (n : ℕ). max old.made (page / n)) many
      ∙ ap (λ (p : ℕ). max old.made (p / pages_of size)) here;
  waiting = behind.waiting
      ∙ ap (λ (n : ℕ). waiting_behind size n) (sym wrote.written ∙ sym behind.written);
}

-- ---- a segment is there

pub is_there : (segment : ℕ) (w : Plain) → w.fault ≡ none → segment ≤ w.made → WaitsForNoOther segment w
    → IsSegmentThere segment w w
is_there segment w up made alone = record {
  up = up;
  written = refl;
  made = omega (arith, made);
  alone = elim alone [
    | inl free ↦ inl free
    | inr own ↦ inr own.0
  ];
}

-- it was made
pub made_there : (segment : ℕ) (old new : Plain) → old.made < segment → WaitsForNoOther segment old
    → IsSegmentMade segment old new → IsSegmentThere segment old new
made_there segment old new next alone made = record {
  up = made.up;
  written = made.written;
  made = (let is = made.made in omega (arith, is, next));
  alone = elim alone [
    | inl free ↦ inl (made.waiting ∙ free)
    | inr own ↦ (let there = own.1 in absurd (omega (arith, there, next)))
  ];
}

-- behind what was settled before, and with what is loaded behind it
pub there_on : (segment : ℕ) (a b c d : Plain) → LeavesAlone segment a b
    → IsSegmentThere segment b c → d ≡ c → IsSegmentThere segment a d
there_on segment a b c d settled there is =
    subst (λ (w : Plain). IsSegmentThere segment a w) (sym is) (record {
      up = there.up;
      written = there.written ∙ settled.written;
      made = there.made ∙ ap (λ (n : ℕ). max n segment) settled.made;
      alone = there.alone;
    })

-- what was synced leaves a segment alone
pub synced_alone : (segment : ℕ) (old new : Plain) → IsSegmentSynced old new
    → LeavesAlone segment old new
synced_alone segment old new synced = record {
  up = synced.up;
  written = synced.written;
  made = synced.made;
  alone = inl synced.waiting;
}
