-- Puts that are made one behind another, and those that are cut short.
use Rattle.std.proofs.Common.{◌≡◌, ℕ, ◌+◌, List, [], ◌++◌, Option, refl, sym, ap, ◌∙◌, append_assoc, length-append, arith}
use Rattle.std.proofs.lemmas.List.{append-nil}
use Rattle.wal_redo.specs.BlockMap.{BlockMap, PagePut, told_behind}
use Rattle.wal_redo.specs.Redo.{PutsAll, PutsSome}
use Rattle.wal_redo.proofs.BlockMapLaws.{told_behind-again, told_behind-append, told_behind-none}

pub PutsAll-none : (told : Option BlockMap) → PutsAll told told [] 0
PutsAll-none told = record { put = sym (told_behind-none told); count_is = refl }

module _ {old between new : Option BlockMap} {puts : List PagePut} {count : ℕ} (made : PutsAll old between puts count) where
  pub PutsAll-more : {others : List PagePut} {more : ℕ} → PutsAll between new others more → PutsAll old new (puts ++ others) (count + more)
  PutsAll-more {others} {more} then_made = record {
    put = then_made.put ∙ ap (λ (told : Option BlockMap). told_behind told others) made.put ∙ told_behind-append old puts others;
    count_is = omega (arith, made.count_is, then_made.count_is, length-append puts others);
  }

  pub PutsSome-more : {others : List PagePut} → PutsSome between new others → (rest : List PagePut) → PutsSome old new (puts ++ (others ++ rest))
  PutsSome-more {others} cut rest = record {
    front = puts ++ cut.front;
    rest = cut.rest ++ rest;
    parts =
        ap (λ (all : List PagePut). puts ++ (all ++ rest)) cut.parts
        ∙ ap (λ (all : List PagePut). puts ++ all) (append_assoc cut.front cut.rest rest)
        ∙ sym (append_assoc puts cut.front (cut.rest ++ rest));
    put = cut.put ∙ ap (λ (told : Option BlockMap). told_behind told cut.front) made.put ∙ told_behind-append old puts cut.front;
  }

pub PutsSome-of : {old new : Option BlockMap} {puts : List PagePut} {count : ℕ} → PutsAll old new puts count → (rest : List PagePut) → PutsSome old new (puts ++ rest)
PutsSome-of {old} {new} {puts} made rest = record { front = puts; rest = rest; parts = refl; put = made.put }

-- ---- puts of which a front was made before

pub PutsAll-again : {old between new : Option BlockMap} {puts : List PagePut} {count : ℕ} → PutsSome old between puts → PutsAll between new puts count → PutsAll old new puts count
PutsAll-again {old} {between} {new} {puts} cut made = record {
  put =
      made.put
      ∙ ap (λ (told : Option BlockMap). told_behind told puts) cut.put
      ∙ ap (λ (all : List PagePut). told_behind (told_behind old cut.front) all) cut.parts
      ∙ told_behind-again old cut.front cut.rest
      ∙ ap (told_behind old) (sym cut.parts);
  count_is = made.count_is;
}

pub PutsSome-all : {old new : Option BlockMap} {puts : List PagePut} → new ≡ told_behind old puts → PutsSome old new puts
PutsSome-all {old} {new} {puts} put = record { front = puts; rest = []; parts = sym (append-nil puts); put = put }
