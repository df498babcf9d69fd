-- Blocks read one field at a time.
use Rattle.std.proofs.Common.{◌≡◌, ℕ, ◌+◌, List, [], ◌∷◌, ◌++◌, Result, Ok, Err, min, refl, ap}
use Rattle.std.proofs.lemmas.List.{append_assoc}
use Rattle.wal_types.specs.declared.record.Block.{Block}
use Rattle.run_script.specs.declared.line.ScriptFault.{ScriptFault}
use Rattle.run_script.specs.Text.{pieces_of}
use Rattle.run_script.specs.Fields.{◌>>=◌}
use Rattle.run_script.specs.Blocks.{block_with, references_from}

-- blocks that were read, and what is read behind them
abbrev pub behind_blocks : List Block → Result (List Block) ScriptFault → Result (List Block) ScriptFault
behind_blocks front (Ok blocks) = Ok (front ++ blocks)
behind_blocks front (Err fault) = Err fault

-- a block that was read joins those in front
pub behind_blocks-push : (front : List Block) (block : Block) (rest : Result (List Block) ScriptFault) → behind_blocks front (rest >>= (λ blocks. Ok (block ∷ blocks))) ≡ behind_blocks (front ++ block ∷ []) rest
behind_blocks-push front block (Ok blocks) = ap (λ (bs : List Block). Ok bs) (simp append_assoc)
behind_blocks-push front block (Err fault) = refl

-- a field that was read joins those in front
pub behind_blocks-field : (front : List Block) (id : ℕ) (field : List ℕ) (fields : List (List ℕ)) (block : Block) → block_with id (pieces_of 58 field) ≡ Ok block → behind_blocks front (references_from id (field ∷ fields)) ≡ behind_blocks (front ++ block ∷ []) (references_from (min (id + 1) 255) fields)
behind_blocks-field front id field fields block is = rw is (behind_blocks-push front block (references_from (min (id + 1) 255) fields))
