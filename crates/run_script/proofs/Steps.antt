-- What holds of all that is read behind a step, whatever the step gives.
use Rattle.std.proofs.Common.{◌≡◌, ℕ, List, [], ◌∷◌, Option, Some, None, Result, Ok, Err, refl}
use Rattle.std.specs.Prelude.{IfOk}
use Rattle.std.specs.Option.{ok_or}
use Rattle.run_script.specs.declared.line.ScriptFault.{ScriptFault}
use Rattle.run_script.specs.Fields.{◌>>=◌, Read, with_rest, next_as, no_more}

-- behind a step whose value is known to be one of `Q`
pub bind_then : {A B : Type 0} (r : Result A ScriptFault) (f : A → Result B ScriptFault) (Q : A → Type 0) (P : B → Type 0) → IfOk r Q → ((x : A) → Q x → IfOk (f x) P) → IfOk (r >>= f) P
bind_then (Ok x) f Q P holds then_holds = then_holds x holds
bind_then (Err fault) f Q P holds then_holds = tt

-- behind a part
pub part_then : {X B : Type 0} (o : Option X) (fault : ScriptFault) (f : X → Result B ScriptFault) (P : B → Type 0) → ((x : X) → o ≡ Some x → IfOk (f x) P) → IfOk (ok_or o fault >>= f) P
part_then None fault f P then_holds = tt
part_then (Some x) fault f P then_holds = then_holds x refl

read_then : {X B : Type 0} (o : Option X) (fault : ScriptFault) (rest : List (List ℕ)) (f : Read X → Result B ScriptFault) (P : B → Type 0) → ((x : X) → o ≡ Some x → IfOk (f (record { value = x; rest = rest })) P) → IfOk (with_rest rest (ok_or o fault) >>= f) P
read_then None fault rest f P then_holds = tt
read_then (Some x) fault rest f P then_holds = then_holds x refl

-- behind a field
pub next_then : {X B : Type 0} (spells : List ℕ → Option X) (fault : ScriptFault) (fields : List (List ℕ)) (f : Read X → Result B ScriptFault) (P : B → Type 0) → ((rest : List (List ℕ)) (field : List ℕ) (x : X) → spells field ≡ Some x → IfOk (f (record { value = x; rest = rest })) P) → IfOk (next_as spells fault fields >>= f) P
next_then spells fault [] f P then_holds = tt
next_then spells fault (field ∷ rest) f P then_holds = read_then (spells field) fault rest f P (then_holds rest field)

-- behind the last field
pub no_more_then : {B : Type 0} (fields : List (List ℕ)) (f : Unit {0} → Result B ScriptFault) (P : B → Type 0) → IfOk (f tt) P → IfOk (no_more fields >>= f) P
no_more_then [] f P holds = holds
no_more_then (field ∷ rest) f P holds = tt
