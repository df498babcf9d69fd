-- The lines that are made, one after the other.
use Rattle.std.proofs.Common.{◌≡◌, ℕ, ◌+◌, ◌<◌, ◌≤◌, zero, suc, List, [], ◌∷◌, ◌++◌, length, map, All, refl, sym, subst, arith}
use Rattle.std.specs.Global.{Vec}
use Rattle.std.specs.List.{range_with_len}
use Rattle.std.proofs.lemmas.List.Elements.{All-nil, All-cons, All-from_recursion}
use Rattle.std.proofs.lemmas.List.FromFn.{length-map-range_with_len, map-range_with_len_more}
use Rattle.run_script.specs.declared.line.Action.{Action}
use Rattle.run_script.specs.declared.line.Line.{Line}
use Rattle.run_script.specs.Asked.{AskedLine}
use Rattle.run_script.specs.Bodies.{AreLinesOf, IsActionOf}
use Rattle.run_script.specs.ReplayReading.{AreBackendsOf}
use Rattle.run_script.specs.Writable.{AsksWritable}
use Rattle.run_script.proofs.Scripts.{AreLinesOf_push}
use Rattle.run_script.specs.Generated.{generated_asked, generated_line, generated_lines, generated_script}
use Rattle.run_script.proofs.GeneratedWriting.{AsksWritable-generated_asked}

-- one line more
pub AreLinesOf-more : (backend index : ℕ) (lines : List Line) (action : Action) → AreLinesOf (generated_lines backend index) lines → IsActionOf (generated_asked backend index) action
    → AreLinesOf (generated_lines backend (index + 1)) (lines ++ (record { number = index + 1; action = action }) ∷ [])
AreLinesOf-more backend index lines action are does =
    let line : Line = record { number = index + 1; action = action } in
    subst (λ (asked : List AskedLine). AreLinesOf asked (lines ++ line ∷ [])) (sym (map-range_with_len_more (generated_line backend) 0 index index (omega arith)))
    (AreLinesOf_push (generated_lines backend index) lines (generated_line backend index) line are refl does)

-- one backend more
pub AreBackendsOf-more : (asked : ℕ → List AskedLine) (first count next : ℕ) (backends : List (Vec Line)) (lines : Vec Line) → first + count ≡ next → AreBackendsOf (map asked (range_with_len first count)) backends → AreLinesOf (asked next) lines.items
    → AreBackendsOf (map asked (range_with_len first (suc count))) (backends ++ lines ∷ [])
AreBackendsOf-more asked first zero next [] lines at are does =
    let same : next ≡ first = omega arith in
    (subst (λ (n : ℕ). AreLinesOf (asked n) lines.items) same does, tt)
AreBackendsOf-more asked first zero next (other ∷ backends) lines at are does = absurd are
AreBackendsOf-more asked first (suc count) next [] lines at are does = absurd are
AreBackendsOf-more asked first (suc count) next (other ∷ backends) lines at are does =
    (are.0, AreBackendsOf-more asked (first + 1) count next backends lines (omega arith) are.1 does)

pub length-generated_lines : (backend n : ℕ) → length (generated_lines backend n) ≡ n
length-generated_lines backend n = length-map-range_with_len (generated_line backend) 0 n

pub length-generated_script : (n : ℕ) → length (generated_script n) ≡ 4
unfolding generated_script
length-generated_script n = refl

pub length-each : (n : ℕ) → All (λ lines. length lines ≡ n) (generated_script n)
unfolding generated_script
length-each n = All-from_recursion (λ lines. length lines ≡ n) (generated_script n) (length-generated_lines 0 n, (length-generated_lines 1 n, (length-generated_lines 2 n, (length-generated_lines 3 n, tt))))

abbrev AsksForWritable : AskedLine → Type 0
AsksForWritable line = AsksWritable line.asked

are_writable_from : (backend first n : ℕ) → backend < 4 → first + n ≤ 100000 → All AsksForWritable (map (generated_line backend) (range_with_len first n))
are_writable_from backend first zero few within = All-nil AsksForWritable
are_writable_from backend first (suc n) few within =
    All-cons AsksForWritable (generated_line backend first) (map (generated_line backend) (range_with_len (first + 1) n)) (AsksWritable-generated_asked backend first few (omega arith)) (are_writable_from backend (first + 1) n few (omega arith))

pub are_writable : (n : ℕ) → n ≤ 100000 → All (All AsksForWritable) (generated_script n)
unfolding generated_script
are_writable n within =
    let each : (backend : ℕ) → backend < 4 → All AsksForWritable (generated_lines backend n) = λ backend few. are_writable_from backend 0 n few (omega arith) in
    All-from_recursion (All AsksForWritable) (generated_script n) (each 0 (omega arith), (each 1 (omega arith), (each 2 (omega arith), (each 3 (omega arith), tt))))
