-- A line's fields, judged from the left: the first that is wrong is the line's fault.
use Rattle.std.specs.Prelude.{ℕ, List, [], ◌∷◌, Option, Result, Ok, Err}
use Rattle.std.specs.Option.{ok_or}
use Rattle.run_script.specs.declared.line.ScriptFault.{ScriptFault}
use Rattle.run_script.specs.declared.line.ScriptFault.TheVariants as faults

infixl 10 ◌>>=◌
abbrev pub ◌>>=◌ : {A B : Type 0} → Result A ScriptFault → (A → Result B ScriptFault)
    → Result B ScriptFault
(Ok x) >>= f = f x
(Err fault) >>= f = Err fault

-- what a field means, and the fields behind it
pub record Read (X : Type 0) : Type 0 where
  pub value : X
  pub rest : List (List ℕ)

abbrev pub with_rest : {X : Type 0} → List (List ℕ) → Result X ScriptFault
    → Result (Read X) ScriptFault
with_rest rest (Ok x) = Ok (record { value = x; rest = rest })
with_rest rest (Err fault) = Err fault

-- the next field by what it spells; one that spells nothing has this fault, and one that is missing
-- `count`
abbrev pub next_as : {X : Type 0} → (List ℕ → Option X) → ScriptFault → List (List ℕ)
    → Result (Read X) ScriptFault
next_as spells fault [] = Err faults.Count
next_as spells fault (field ∷ rest) = with_rest rest (ok_or (spells field) fault)

-- no field is left
abbrev pub no_more : List (List ℕ) → Result (Unit {0}) ScriptFault
no_more [] = Ok tt
no_more (field ∷ rest) = Err faults.Count
