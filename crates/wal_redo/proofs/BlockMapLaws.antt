-- Puts one behind another.
use Rattle.std.proofs.Common.{◌≡◌, ℕ, List, [], ◌∷◌, ◌++◌, Option, Some, None, refl, sym, ap, ◌∙◌}
use Rattle.wal_redo.specs.declared.block_id.BlockId.{BlockId}
use Rattle.wal_redo.specs.BlockMap.{BlockMap, PagePut, put_gives, last_put, or_else, overridden, told_behind, told_with}

-- ---- the first page that there is

pub or_else-none : (page : Option (List ℕ)) → or_else page None ≡ page
or_else-none None = refl
or_else-none (Some page) = refl

or_else-assoc : (a b c : Option (List ℕ)) → or_else (or_else a b) c ≡ or_else a (or_else b c)
or_else-assoc None b c = refl
or_else-assoc (Some page) b c = refl

or_else-again : (page other : Option (List ℕ)) → or_else (or_else page other) other ≡ or_else page other
or_else-again None None = refl
or_else-again None (Some other) = refl
or_else-again (Some page) other = refl

-- ---- the last put of a block

last_put-append : (puts others : List PagePut) (block : BlockId) → last_put (puts ++ others) block ≡ or_else (last_put others block) (last_put puts block)
last_put-append [] others block = sym (or_else-none (last_put others block))
last_put-append (put ∷ puts) others block =
    ap (λ (page : Option (List ℕ)). or_else page (put_gives put block)) (last_put-append puts others block)
    ∙ or_else-assoc (last_put others block) (last_put puts block) (put_gives put block)

-- what is put before counts no more where it is put again
last_put-again : (front rest : List PagePut) (block : BlockId) → last_put (front ++ (front ++ rest)) block ≡ last_put (front ++ rest) block
last_put-again front rest block =
    last_put-append front (front ++ rest) block
    ∙ ap (λ (page : Option (List ℕ)). or_else page (last_put front block)) (last_put-append front rest block)
    ∙ or_else-again (last_put rest block) (last_put front block)
    ∙ sym (last_put-append front rest block)

-- ---- what a store tells

overridden-append : (map : BlockMap) (puts others : List PagePut) (block : BlockId) → overridden (overridden map (last_put puts)) (last_put others) block ≡ overridden map (last_put (puts ++ others)) block
overridden-append map puts others block =
    sym (or_else-assoc (last_put others block) (last_put puts block) (map block))
    ∙ ap (λ (page : Option (List ℕ)). or_else page (map block)) (sym (last_put-append puts others block))

pub told_behind-none : (told : Option BlockMap) → told_behind told [] ≡ told
told_behind-none None = refl
told_behind-none (Some map) = refl

pub told_behind-one : (told : Option BlockMap) (put : PagePut) → told_behind told (put ∷ []) ≡ told_with told put.block put.page
told_behind-one None put = refl
told_behind-one (Some map) put = refl

pub told_behind-append : (told : Option BlockMap) (puts others : List PagePut) → told_behind (told_behind told puts) others ≡ told_behind told (puts ++ others)
told_behind-append None puts others = refl
told_behind-append (Some map) puts others = ap Some (λ i block. overridden-append map puts others block i)

-- puts of which a front was made before
pub told_behind-again : (told : Option BlockMap) (front rest : List PagePut) → told_behind (told_behind told front) (front ++ rest) ≡ told_behind told (front ++ rest)
told_behind-again None front rest = refl
told_behind-again (Some map) front rest =
    told_behind-append (Some map) front (front ++ rest)
    ∙ ap Some (λ i block. or_else (last_put-again front rest block i) (map block))
