-- The lines of the blocks that are left, and bytes that are counted piece by piece.
use Rattle.std.proofs.Common.{◌≡◌, ◌+◌, ℕ, Bool, cond, count_by, take, drop, arith, List, [], ◌∷◌, ◌++◌, Option, Some, Bor, map, refl, sym, ap, ◌∙◌, append_assoc}
use Rattle.std.specs.List.{flat_map}
use Rattle.std.specs.Map.Iter.{TakesFirst, deref_pair}
use Rattle.std.proofs.lemmas.List.Sums.{sum_by-take-drop}
use Rattle.std.proofs.lemmas.Map.Iter.{rest_more}
use Rattle.wal_redo.specs.declared.block_id.BlockId.{BlockId}
use Rattle.wal_redo.specs.RedoText.{block_line}

module _ {X : Type 0} (page : X → List ℕ) where
  -- the lines of entries of a map
  abbrev pub lines_of : List (BlockId × X) → List ℕ
  lines_of entries = flat_map (λ e. block_line (e.0, page e.1)) entries

  pub lines_of-told : (entries : List (BlockId × X)) → flat_map block_line (map (λ e. (e.0, page e.1)) entries) ≡ lines_of entries
  lines_of-told [] = refl
  lines_of-told (e ∷ entries) = ap (λ (text : List ℕ). block_line (e.0, page e.1) ++ text) (lines_of-told entries)

  module _ (left next : List (BlockId × X)) (result : Option (Bor BlockId × Bor X)) (block : Bor BlockId) (held : Bor X) (is : result ≡ Some (block, held)) (steps : TakesFirst deref_pair left result next) where
    first_left : left ≡ (block.now, held.now) ∷ next
    first_left = rest_more deref_pair left next result (block, held) is steps

    pub lines_of-next : (bytes : List ℕ) → bytes ≡ page held.now → (counts : List ℕ) → lines_of left ++ counts ≡ block_line (block.now, bytes) ++ (lines_of next ++ counts)
    lines_of-next bytes same counts =
        ap (λ (entries : List (BlockId × X)). lines_of entries ++ counts) first_left
        ∙ append_assoc (block_line (block.now, page held.now)) (lines_of next) counts
        ∙ ap (λ (shown : List ℕ). block_line (block.now, shown) ++ (lines_of next ++ counts)) (sym same)

-- a count of all before a rest, with one piece of it more
pub counted_more : (p : ℕ → Bool) (size count more all : ℕ) (rest piece others : List ℕ) → count + count_by p rest ≡ all → piece ≡ take size rest → others ≡ drop size rest → more ≡ count_by p piece → count + more + count_by p others ≡ all
counted_more p size count more all rest piece others counted front back is =
    let parts = sum_by-take-drop (λ (x : ℕ). cond (p x) 1 0) rest size in
    let counted_front = is ∙ ap (count_by p) front in
    let counted_back = ap (count_by p) back in
    omega (arith, parts, counted, counted_front, counted_back)
