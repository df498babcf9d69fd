-- Bytes read off a source, piece by piece.
use Rattle.std.proofs.Common.{◌≡◌, ℕ, ◌+◌, ◌<◌, ◌≤◌, inl, inr, Bool, true, false, lt-ltb, subst, if◌then◌else◌, ◌==◌, ◌&&◌, List, [], ◌++◌, length, take, drop, Option, Some, None, IfSome, refl, ap, sym, ◌∙◌, append_assoc, length-append, arith}
use Rattle.std.specs.Prelude.{option_map, nat_lt}
use Rattle.std.proofs.lemmas.List.{append-nil, take_all, drop_all, drop_at, length-take-le}
use Rattle.std.proofs.Math.Seq.{take-append_seam}
use Rattle.segment_disk.specs.Stream.{LosesFront, Takes, ends_after}
use Rattle.backend_cli.specs.Outside.{SourceView}
use Rattle.backend_cli.specs.Reading.{HasRead, IsFront, ReadsBytes}

loses_nothing : (left : Option (List ℕ)) → LosesFront left left []
loses_nothing None = tt
loses_nothing (Some bytes) = refl

rises_or_stays : (b : Bool) (n : ℕ) → n ≤ (if b then n + 1 else n)
rises_or_stays true n = omega arith
rises_or_stays false n = omega arith

-- a read never lowers how often a source has told its end
pub ends_stay : (before room count : ℕ) → before ≤ ends_after before room count
ends_stay before room count = rises_or_stays (count == 0 && nat_lt 0 room) before

-- a read of nothing into a piece that is not empty raises it
pub ends_rise : (before room : ℕ) → 0 < room → before < ends_after before room 0
ends_rise before room some = subst (λ (b : Bool). before < (if b then before + 1 else before)) (sym (lt-ltb 0 room some)) (omega arith)

pub HasRead-none : (most : ℕ) (source : SourceView) → HasRead most source source []
HasRead-none most source = record {
  taken_off = loses_nothing source.left;
  handed_out = sym (append-nil source.handed);
  ends_told = omega arith;
  faults_same = refl;
  within = omega arith;
}

loses_more : (left mid now : Option (List ℕ)) (bytes : List ℕ) (count : ℕ) (into : List ℕ) → LosesFront left mid bytes → Takes mid now count into → LosesFront left now (bytes ++ take count into)
loses_more None None None bytes count into off takes = tt
loses_more None None (Some now) bytes count into off takes = absurd takes
loses_more None (Some mid) now bytes count into off takes = absurd off
loses_more (Some left) None now bytes count into off takes = absurd off
loses_more (Some left) (Some mid) None bytes count into off takes = absurd takes
loses_more (Some left) (Some mid) (Some now) bytes count into off takes = off ∙ ap (λ (rest : List ℕ). bytes ++ rest) takes ∙ sym (append_assoc bytes (take count into) now)

-- a further piece is read
pub HasRead-more : (most : ℕ) (before mid now : SourceView) (bytes : List ℕ) (count : ℕ) (into : List ℕ) → HasRead most before mid bytes
    → now.handed ≡ mid.handed ++ take count into → mid.ends_told ≤ now.ends_told → Takes mid.left now.left count into → now.faults ≡ mid.faults → count ≤ length into → length bytes + count ≤ most → HasRead most before now (bytes ++ take count into)
HasRead-more most before mid now bytes count into h handed ends takes same whole fits = record {
  taken_off = loses_more before.left mid.left now.left bytes count into h.taken_off takes;
  handed_out = handed ∙ ap (λ (l : List ℕ). l ++ take count into) h.handed_out ∙ append_assoc before.handed bytes (take count into);
  ends_told = let earlier : before.ends_told ≤ mid.ends_told = h.ends_told in omega arith;
  faults_same = same ∙ h.faults_same;
  within = omega (arith, length-append bytes (take count into), length-take-le count into whole);
}

IsFront-end : (most : ℕ) (left now : Option (List ℕ)) (bytes : List ℕ) → LosesFront left now bytes → length bytes ≤ most → IfSome now (λ rest. rest ≡ []) → IsFront most left bytes
IsFront-end most None None bytes off within ends = tt
IsFront-end most None (Some now) bytes off within ends = absurd off
IsFront-end most (Some left) None bytes off within ends = absurd off
IsFront-end most (Some left) (Some now) bytes off within ends =
    let same : left ≡ bytes = off ∙ ap (λ (rest : List ℕ). bytes ++ rest) ends ∙ append-nil bytes in
    sym (take_all most bytes within) ∙ ap (take most) (sym same)

IsFront-full : (most : ℕ) (left now : Option (List ℕ)) (bytes : List ℕ) → LosesFront left now bytes → length bytes ≡ most → IsFront most left bytes
IsFront-full most None None bytes off full = tt
IsFront-full most None (Some now) bytes off full = absurd off
IsFront-full most (Some left) None bytes off full = absurd off
IsFront-full most (Some left) (Some now) bytes off full = sym (take-append_seam bytes now) ∙ ap (λ (n : ℕ). take n (bytes ++ now)) full ∙ ap (take most) (sym off)

behind-end : (most : ℕ) (left now last : Option (List ℕ)) (bytes into : List ℕ) → LosesFront left now bytes → length bytes ≤ most → IfSome now (λ rest. rest ≡ []) → Takes now last 0 into → last ≡ option_map (drop most) left
behind-end most None None None bytes into off within ends takes = refl
behind-end most None None (Some last) bytes into off within ends takes = absurd takes
behind-end most None (Some now) last bytes into off within ends takes = absurd off
behind-end most (Some left) None last bytes into off within ends takes = absurd off
behind-end most (Some left) (Some now) None bytes into off within ends takes = absurd takes
behind-end most (Some left) (Some now) (Some last) bytes into off within ends takes =
    let same : left ≡ bytes = off ∙ ap (λ (rest : List ℕ). bytes ++ rest) ends ∙ append-nil bytes in
    ap (λ (rest : List ℕ). Some rest) (sym takes ∙ ends ∙ sym (drop_all most bytes within) ∙ ap (drop most) (sym same))

behind-full : (most : ℕ) (left now : Option (List ℕ)) (bytes : List ℕ) → LosesFront left now bytes → length bytes ≡ most → now ≡ option_map (drop most) left
behind-full most None None bytes off full = refl
behind-full most None (Some now) bytes off full = absurd off
behind-full most (Some left) None bytes off full = absurd off
behind-full most (Some left) (Some now) bytes off full = ap (λ (rest : List ℕ). Some rest) (sym (drop_at bytes now most full) ∙ ap (drop most) (sym off))

-- nothing is left of the source
pub HasRead-end : (most : ℕ) (before now last : SourceView) (bytes into : List ℕ) → HasRead most before now bytes → IfSome now.left (λ rest. rest ≡ [])
    → last.handed ≡ now.handed ++ take 0 into → now.ends_told < last.ends_told → Takes now.left last.left 0 into → last.faults ≡ now.faults → ReadsBytes most before last bytes
HasRead-end most before now last bytes into h ends handed told takes same = record {
  handed_out = handed ∙ append-nil now.handed ∙ h.handed_out;
  is_front = IsFront-end most before.left now.left bytes h.taken_off h.within ends;
  to_end = inl (let earlier : before.ends_told ≤ now.ends_told = h.ends_told in omega arith);
  left_behind = behind-end most before.left now.left last.left bytes into h.taken_off h.within ends takes;
  within = h.within;
  faults_same = same ∙ h.faults_same;
}

-- as many bytes are read as were asked for
pub HasRead-full : (most : ℕ) (before now : SourceView) (bytes : List ℕ) → HasRead most before now bytes → most ≤ length bytes → ReadsBytes most before now bytes
HasRead-full most before now bytes h full =
    let whole : length bytes ≡ most = let within : length bytes ≤ most = h.within in omega arith in
    record {
      handed_out = h.handed_out;
      is_front = IsFront-full most before.left now.left bytes h.taken_off whole;
      to_end = inr whole;
      left_behind = behind-full most before.left now.left bytes h.taken_off whole;
      within = h.within;
      faults_same = h.faults_same;
    }
