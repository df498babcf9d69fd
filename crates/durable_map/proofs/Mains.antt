-- The main data of a set, taken apart and put together.
use Rattle.std.proofs.Common.{◌≡◌, ℕ, zero, suc, ◌^◌, ◌<◌, ◌≤◌, List, [], ◌∷◌, ◌++◌, length, take, drop, get_or, refl, sym, ap, ◌∙◌, arith}
use Rattle.std.specs.Int.{w32, from_le_bytes, to_le_bytes}
use Rattle.std.proofs.lemmas.List.{drop_at, length-take-le, take-append-drop, take_at}
use Rattle.std.proofs.lemmas.Nat.{from_le_bytes-to_le_bytes_4, le_bytes_4}
use Rattle.durable_map.specs.Records.{set_main}

low_front : (n : ℕ) (bytes : List ℕ) → ((i : ℕ) → get_or bytes i 0 < 256) → (i : ℕ)
    → get_or (take n bytes) i 0 < 256
low_front zero bytes low i = omega arith
low_front (suc n) [] low i = omega arith
low_front (suc n) (b ∷ bytes) low zero = low 0
low_front (suc n) (b ∷ bytes) low (suc i) = low_front n bytes (λ j. low (suc j)) i

-- bytes of which the first four tell how long the key is
pub is_set_main : (main : List ℕ) (count : ℕ) → ((i : ℕ) → get_or main i 0 < 256)
    → 4 ≤ length main → count ≡ from_le_bytes w32 (take 4 main) → count ≤ length (drop 4 main)
    → main ≡ set_main (take count (drop 4 main)) (drop count (drop 4 main))
is_set_main main count low long is within =
    let rest = drop 4 main in
    let whole : List ℕ → List ℕ = λ front. front ++ (take count rest ++ drop count rest) in
    sym (
    ap (λ (n : ℕ). whole (to_le_bytes w32 n)) (length-take-le count rest within)
    ∙ ap whole (le_bytes_4 (take 4 main) count (length-take-le 4 main long) (low_front 4 main low) is)
    ∙ ap (λ (bytes : List ℕ). take 4 main ++ bytes) (take-append-drop count rest)
    ∙ take-append-drop 4 main)

-- ---- it says one key and one value

same_length : (key other value rest : List ℕ) → length key < 2 ^ 32 → length other < 2 ^ 32
    → set_main key value ≡ set_main other rest → length key ≡ length other
same_length key other value rest short other_short same =
    let fronts : to_le_bytes w32 (length key) ≡ to_le_bytes w32 (length other) = ap (take 4) same in
    sym (from_le_bytes-to_le_bytes_4 (length key) short)
    ∙ ap (from_le_bytes w32) fronts ∙ from_le_bytes-to_le_bytes_4 (length other) other_short

pub same_set : (key other value rest : List ℕ) → length key < 2 ^ 32 → length other < 2 ^ 32
    → set_main key value ≡ set_main other rest → (key ≡ other) × (value ≡ rest)
same_set key other value rest short other_short same =
    let len = same_length key other value rest short other_short same in
    let behind : key ++ value ≡ other ++ rest = ap (drop 4) same in (
      sym (take_at key value (length other) len) ∙ ap (take (length other)) behind
          ∙ take_at other rest (length other) refl,
      sym (drop_at key value (length other) len) ∙ ap (drop (length other)) behind
          ∙ drop_at other rest (length other) refl,
    )
