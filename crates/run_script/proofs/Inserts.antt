-- A line `I` whose fields up to its data are read.
use Rattle.std.proofs.Common.{◌≡◌, ℕ, ◌-◌, ◌^◌, ◌==◌, true, List, [], ◌∷◌, ◌++◌, length, Option, Some, None, Result, Ok, refl, ap, sym, ◌∙◌, arith}
use Rattle.std.specs.Prelude.{drop, option_and_then}
use Rattle.std.specs.Option.{ok_or}
use Rattle.std.proofs.lemmas.Bool.{eqb-true}
use Rattle.wal_types.specs.declared.record.Xid.{Xid}
use Rattle.wal_spelling.specs.declared.fault.BodyErr.{BodyErr}
use Rattle.wal_spelling.specs.declared.fault.BodyErr.TheVariants as refusals
use Rattle.wal_spelling.specs.Record.{plain_record}
use Rattle.wal_spelling.specs.Refusal.{RefusesToAssemble, refusal_of}
use Rattle.wal_spelling.specs.Spelling.{Assembled}
use Rattle.cli_text.specs.Numbers.{number_of}
use Rattle.wal_types.specs.declared.record.Record.{Record}
use Rattle.run_script.specs.declared.line.Action.TheVariants as actions
use Rattle.run_script.specs.declared.line.Line.{Line}
use Rattle.run_script.specs.declared.line.ScriptFault.{ScriptFault}
use Rattle.run_script.specs.declared.line.ScriptFault.TheVariants as faults
use Rattle.run_script.specs.Bodies.{IsBodyOf}
use Rattle.run_script.specs.Fields.{◌>>=◌, next_as, with_rest}
use Rattle.run_script.specs.Hexadecimal.{byte_spelled, data_of}
use Rattle.run_script.specs.Meaning.{accepted, assembly_fault, insert_of, insert_of_data, insert_with, record_with, unless}
use Rattle.run_script.specs.Reading.{FailsAs, InsertGives, line_error}

-- none is left
none : (fields : List (List ℕ)) → (length fields == 0) ≡ true → fields ≡ []
none [] is = refl
none (field ∷ fields) is = absurd (omega (arith, eqb-true (length (field ∷ fields)) 0 is))

-- the field that spells the data
by_data : (xid : Xid) (manager info : ℕ) (behind : List (List ℕ)) (bytes : Option (List ℕ)) → ((with_rest behind (ok_or bytes faults.Hex) >>= (λ main. record_with xid manager info main.value main.rest)) >>= accepted) ≡ (ok_or bytes faults.Hex >>= (λ main. insert_with xid manager info main behind))
by_data xid manager info behind None = refl
by_data xid manager info behind (Some main) = refl

module _ (fields behind_xid behind_manager behind_info behind_main : List (List ℕ)) (xid manager info : ℕ) (field : List ℕ)
    (xid_is : next_as (number_of (2 ^ 32 - 1)) faults.Number fields ≡ Ok (record { value = xid; rest = behind_xid }))
    (manager_is : next_as (number_of 255) faults.Number behind_xid ≡ Ok (record { value = manager; rest = behind_manager }))
    (info_is : next_as byte_spelled faults.Hex behind_manager ≡ Ok (record { value = info; rest = behind_info }))
    (field_is : behind_info ≡ field ∷ behind_main) where
  pub insert_is : insert_of fields ≡ insert_of_data (record { 0 = xid }) manager info field behind_main
  insert_is = rw (xid_is, manager_is, info_is, field_is) (by_data (record { 0 = xid }) manager info behind_main (data_of field))

  -- no block stands behind the data
  pub insert_is_plain : (length behind_main == 0) ≡ true → insert_of fields ≡ insert_of_data (record { 0 = xid }) manager info field []
  insert_is_plain is = insert_is ∙ ap (insert_of_data (record { 0 = xid }) manager info field) (none behind_main is)

-- data behind five bytes
drop_front : (front bytes : List ℕ) → length front ≡ 5 → drop 5 (front ++ bytes) ≡ bytes
drop_front [] bytes five = absurd (omega (arith, five))
drop_front (a ∷ []) bytes five = absurd (omega (arith, five))
drop_front (a ∷ b ∷ []) bytes five = absurd (omega (arith, five))
drop_front (a ∷ b ∷ c ∷ []) bytes five = absurd (omega (arith, five))
drop_front (a ∷ b ∷ c ∷ d ∷ []) bytes five = absurd (omega (arith, five))
drop_front (a ∷ b ∷ c ∷ d ∷ e ∷ []) bytes five = refl
drop_front (a ∷ b ∷ c ∷ d ∷ e ∷ f ∷ front) bytes five = absurd (omega (arith, five))

-- the data that was spelled behind them
pub plain_is : (xid : Xid) (manager info : ℕ) (field front bytes room : List ℕ) → length front ≡ 5 → ok_or (data_of field) faults.Hex ≡ Ok bytes → room ≡ front ++ bytes → insert_of_data xid manager info field [] ≡ accepted (plain_record xid manager info (drop 5 room))
plain_is xid manager info field front bytes room five is whole =
    ap (λ (read : Result (List ℕ) ScriptFault). read >>= (λ main. insert_with xid manager info main [])) is
    ∙ ap (λ (main : List ℕ). accepted (plain_record xid manager info main)) (sym (ap (drop 5) whole ∙ drop_front front bytes five))

-- a line that inserts such a body
pub InsertGives-body : {X : Type 0} (number : ℕ) (old new : List Line) (done : X) (meaning : Result Record ScriptFault) (value : Record) (body : Assembled) → meaning ≡ Ok value → IsBodyOf value body → new ≡ old ++ (record { number = number; action = actions.Insert body }) ∷ [] → InsertGives number old new (Ok done) meaning
InsertGives-body number old new done meaning value body means is joins = (value, means, is.1, joins ∙ ap (λ (b : Assembled). old ++ (record { number = number; action = actions.Insert b }) ∷ []) is.0)

-- a record that is refused, and one that is not
pub FailsAs-refused : (error : BodyErr) (value : Record) → RefusesToAssemble error value → FailsAs (line_error error) (accepted value)
FailsAs-refused refusals.Memory value is = tt
FailsAs-refused (refusals.TooLong size) value is = ap (λ (refusal : Option BodyErr). unless (option_and_then assembly_fault refusal) value) is
FailsAs-refused (refusals.BadBlock index) value is = ap (λ (refusal : Option BodyErr). unless (option_and_then assembly_fault refusal) value) is
FailsAs-refused refusals.Switch value is = ap (λ (refusal : Option BodyErr). unless (option_and_then assembly_fault refusal) value) is
FailsAs-refused (refusals.BadRmgr rmid) value is = ap (λ (refusal : Option BodyErr). unless (option_and_then assembly_fault refusal) value) is

pub accepted_is : (value : Record) → refusal_of value ≡ None → accepted value ≡ Ok value
accepted_is value is = ap (λ (refusal : Option BodyErr). unless (option_and_then assembly_fault refusal) value) is
