-- Lines are played one after another.
use Rattle.std.proofs.Common.{List, [], ◌∷◌, ◌++◌, ℕ, refl, subst}
use Rattle.run_script.specs.Asked.{AskedLine}
use Rattle.run_laws.specs.declared.told.Told.{Told}
use Rattle.run_laws.specs.Played.{PassState, PlaysLine, PlaysLines}

module _ (size limit pass : ℕ) where
  pub lines_push : (before mid after : PassState) (lines : List AskedLine) (told : List Told)
      (line : AskedLine) (answer : Told) → PlaysLines size limit pass before lines told mid
      → PlaysLine size limit pass line.asked answer mid after
      → PlaysLines size limit pass before (lines ++ line ∷ []) (told ++ answer ∷ []) after
  lines_push before mid after [] [] line answer plays last = (
    after,
    subst (λ (s : PassState). PlaysLine size limit pass line.asked answer s after) plays last,
    refl,
  )
  lines_push before mid after [] (t ∷ told) line answer plays last = absurd plays
  lines_push before mid after (l ∷ lines) [] line answer plays last = absurd plays
  lines_push before mid after (l ∷ lines) (t ∷ told) line answer plays last =
      (plays.0, plays.1, lines_push plays.0 mid after lines told line answer plays.2 last)
