-- The map of a store in memory, as the pages that it tells.
use Rattle.std.proofs.Common.{◌≡◌, ℕ, Bool, true, false, cond, List, [], ◌∷◌, Option, Some, None, refl, sym, ap, subst, ◌∙◌, rules}
use Rattle.std.specs.Prelude.{map, option_map, if◌then◌else◌}
use Rattle.std.specs.BTreeMap.{BTreeMap, Updates, get, is_at}
use Rattle.std.specs.Cmp.Rules.{comparing}
use Rattle.std.specs.List.{slice_get}
use Rattle.std.specs.List.Sorted.{IsStrictlySortedBy}
use Rattle.std.specs.Map.{keys_of, lookup}
use Rattle.std.specs.Ordering.{eq_by_cmp}
use Rattle.std.proofs.lemmas.Option.{slice_get-map}
use Rattle.wal_redo.specs.declared.block_id.BlockId.{BlockId}
use Rattle.wal_redo.specs.BlockMap.{or_else}
use Rattle.wal_redo.specs.BlockOrder.{block_order, is_block}

-- the order tells apart just what are two blocks
is_block-order : (a b : BlockId) → is_block a b ≡ eq_by_cmp block_order a b
is_block-order = search (comparing, rules)

-- an entry that is there
abbrev pub entry_of : {Y : Type 0} → BlockId → Y → Option (BlockId × Y)
entry_of block y = Some (block, y)

module _ {X : Type 0} (page : X → List ℕ) where
  cond-mapped : (found : Bool) (x : X) (pages : Option (List ℕ)) (others : Option X) → pages ≡ option_map page others → cond found (Some (page x)) pages ≡ option_map page (cond found (Some x) others)
  cond-mapped true x pages others same = refl
  cond-mapped false x pages others same = same

  lookup-mapped : (test : BlockId → Bool) (entries : List (BlockId × X)) → lookup test (map (λ e. (e.0, page e.1)) entries) ≡ option_map page (lookup test entries)
  lookup-mapped test [] = refl
  lookup-mapped test (e ∷ entries) = cond-mapped (test e.0) e.1 _ (lookup test entries) (lookup-mapped test entries)

  -- a block's page by either test
  looked_up : (block : BlockId) (entries : List (BlockId × X)) → lookup (is_block block) (map (λ e. (e.0, page e.1)) entries) ≡ option_map page (lookup (is_at (block_order block)) entries)
  looked_up block entries =
      lookup-mapped (is_block block) entries
      ∙ ap (λ (test : BlockId → Bool). option_map page (lookup test entries)) (λ i other. is_block-order block other i)

  by_either : (a b : Bool) → b ≡ a → (x : X) (others : Option X) (pages : Option (List ℕ)) → pages ≡ option_map page others
      → option_map page (cond a (Some x) others) ≡ or_else (if b then Some (page x) else None) pages
  by_either true true same x others pages is = refl
  by_either false false same x others pages is = sym is ∙ plain pages
    where
      plain : (pages : Option (List ℕ)) → pages ≡ or_else None pages
      plain pages = refl
  by_either true false same x others pages is = absurd (cc)
  by_either false true same x others pages is = absurd (cc)

  keys-mapped : (entries : List (BlockId × X)) → keys_of (map (λ e. (e.0, page e.1)) entries) ≡ keys_of entries
  keys-mapped [] = refl
  keys-mapped (e ∷ entries) = ap (λ (keys : List BlockId). e.0 ∷ keys) (keys-mapped entries)

  -- the order of a map's blocks is that of the entries that are told
  pub told_in_order : (entries : List (BlockId × X)) → IsStrictlySortedBy block_order (keys_of entries) → IsStrictlySortedBy block_order (keys_of (map (λ e. (e.0, page e.1)) entries))
  told_in_order entries ordered = subst (IsStrictlySortedBy block_order) (sym (keys-mapped entries)) ordered

  -- an entry of a map as it is told
  pub told_at : (entries : List (BlockId × X)) (place : ℕ) (block : BlockId) (x : X) (bytes : List ℕ) → bytes ≡ page x → slice_get entries place ≡ entry_of block x → slice_get (map (λ e. (e.0, page e.1)) entries) place ≡ entry_of block bytes
  told_at entries place block x bytes is at =
      slice_get-map (λ (e : BlockId × X). (e.0, page e.1)) entries place
      ∙ ap (option_map (λ (e : BlockId × X). (e.0, page e.1))) at
      ∙ ap (entry_of block) (sym is)

  -- what a map tells once a page was put
  pub told_after : (old new : BTreeMap BlockId X) (block : BlockId) (x : X) (bytes : List ℕ) → page x ≡ bytes → Updates block_order old new block (Some x) → (other : BlockId)
      → lookup (is_block other) (map (λ e. (e.0, page e.1)) new.entries) ≡ or_else (if is_block block other then Some bytes else None) (lookup (is_block other) (map (λ e. (e.0, page e.1)) old.entries))
  told_after old new block x bytes is updates other =
      looked_up other new.entries
      ∙ ap (option_map page) (updates.0 other)
      ∙ by_either (is_at (block_order block) other) (is_block block other) (is_block-order block other) x (get block_order old other) _ (looked_up other old.entries)
      ∙ ap (λ (bytes : List ℕ). or_else (if is_block block other then Some bytes else None) (lookup (is_block other) (map (λ e. (e.0, page e.1)) old.entries))) is
