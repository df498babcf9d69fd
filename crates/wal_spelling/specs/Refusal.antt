-- Which records are refused, and why.
use Rattle.std.specs.Prelude.{◌≡◌, ℕ, suc, ◌+◌, List, [], ◌∷◌, Option, Some, None, option_map, nat_lt, if◌then◌else◌}
use Rattle.std.specs.Option.{option_or}
use Rattle.wal_types.specs.declared.record.Record.{Record}
use Rattle.wal_types.specs.declared.record.Block.{Block}
use Rattle.wal_spelling.specs.declared.fault.BodyErr.{BodyErr}
use Rattle.wal_spelling.specs.declared.fault.BodyErr.TheVariants.{Memory, TooLong, BadBlock, Switch, BadRmgr}
use Rattle.wal_spelling.specs.Layout.{longest_record}
use Rattle.wal_spelling.specs.Record.{is_free_manager, is_switch, is_right_block}
use Rattle.wal_spelling.specs.Spelling.{size_of}

-- the place of the first block that is not right, where the first number is to be at least `floor`
abbrev pub first_bad_block : ℕ → List Block → Option ℕ
first_bad_block floor [] = None
first_bad_block floor (b ∷ bs) =
    if is_right_block floor b then option_map suc (first_bad_block (b.id + 1) bs) else Some 0

abbrev pub too_long : ℕ → Option BodyErr
too_long size = if nat_lt longest_record size then Some (TooLong size) else None

-- the first reason not to assemble a record
unfoldable pub refusal_of : Record → Option BodyErr
refusal_of r =
    if is_free_manager r.rmid then Some (BadRmgr r.rmid)
    else (if is_switch r then Some Switch
    else option_or (option_map BadBlock (first_bad_block 0 r.blocks)) (too_long (size_of r)))

-- the error is the record's refusal; a want of memory says nothing
abbrev pub RefusesToAssemble : BodyErr → Record → Type 0
RefusesToAssemble Memory r = Unit {0}
RefusesToAssemble (TooLong len) r = refusal_of r ≡ Some (TooLong len)
RefusesToAssemble (BadBlock index) r = refusal_of r ≡ Some (BadBlock index)
RefusesToAssemble Switch r = refusal_of r ≡ Some Switch
RefusesToAssemble (BadRmgr rmid) r = refusal_of r ≡ Some (BadRmgr rmid)
