-- Bytes read two digits at a time.
use Rattle.std.proofs.Common.{◌≡◌, ℕ, ◌<◌, ◌==◌, true, false, length, List, [], ◌∷◌, ◌++◌, Option, Some, None, Ok, Err, refl, ap, arith}
use Rattle.std.proofs.lemmas.List.{append_assoc, append-nil}
use Rattle.std.specs.Option.{ok_or}
use Rattle.std.proofs.lemmas.Bool.{eqb-true}
use Rattle.run_script.specs.declared.line.ScriptFault.TheVariants as faults
use Rattle.run_script.specs.Hexadecimal.{bytes_of, onto}

-- bytes that were read, and what is read behind them
abbrev pub behind : List ℕ → Option (List ℕ) → Option (List ℕ)
behind front None = None
behind front (Some bytes) = Some (front ++ bytes)

-- all bytes are read
pub behind-all : (front bytes : List ℕ) (all : Option (List ℕ)) → behind bytes (Some []) ≡ behind front all → (more : List ℕ) × (ok_or all faults.Hex ≡ Ok more) × (bytes ≡ front ++ more)
behind-all front bytes None is = absurd cc
behind-all front bytes (Some more) is = (more, refl, cc (append-nil bytes, is))

-- they are none
pub behind-none : (front bytes : List ℕ) (all : Option (List ℕ)) → behind bytes None ≡ behind front all → ok_or all faults.Hex ≡ Err faults.Hex
behind-none front bytes None is = refl
behind-none front bytes (Some more) is = absurd cc

-- a byte that was read joins those in front
pub behind-push : (front : List ℕ) (byte : ℕ) (rest : Option (List ℕ)) → behind front (onto (Some byte) rest) ≡ behind (front ++ byte ∷ []) rest
behind-push front byte None = refl
behind-push front byte (Some bytes) = ap (λ (bs : List ℕ). Some bs) (simp append_assoc)

-- no digit is left
pub none_left : (front bytes rest digits : List ℕ) → (length rest == 0) ≡ true → behind bytes (bytes_of rest) ≡ behind front (bytes_of digits) → (more : List ℕ) × (ok_or (bytes_of digits) faults.Hex ≡ Ok more) × (bytes ≡ front ++ more)
none_left front bytes [] digits none is = behind-all front bytes (bytes_of digits) is
none_left front bytes (digit ∷ rest) digits none is = absurd (omega (arith, eqb-true (length (digit ∷ rest)) 0 none))

-- one is
pub one_left : (front bytes rest digits : List ℕ) → (length rest == 0) ≡ false → length rest < 2 → behind bytes (bytes_of rest) ≡ behind front (bytes_of digits) → ok_or (bytes_of digits) faults.Hex ≡ Err faults.Hex
one_left front bytes [] digits some few is = absurd cc
one_left front bytes (digit ∷ []) digits some few is = behind-none front bytes (bytes_of digits) is
one_left front bytes (digit ∷ other ∷ rest) digits some few is = absurd (omega (arith, few))
