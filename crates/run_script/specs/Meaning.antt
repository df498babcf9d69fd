-- What a script means: lines for each backend, or the first refusal.
use Rattle.std.specs.Prelude.{ℕ, ◌+◌, ◌-◌, ◌^◌, List, [], ◌∷◌, length, take, Option, Some, None, Result, Ok, Err, count_by, codes, ◌==◌, nat_lt, if◌then◌else◌, option_and_then}
use Rattle.std.specs.Int.{w64, to_le_bytes}
use Rattle.std.specs.Option.{ok_or}
use Rattle.wal_types.specs.declared.record.Record.{Record}
use Rattle.wal_types.specs.declared.record.Xid.{Xid}
use Rattle.wal_spelling.specs.declared.fault.BodyErr.{BodyErr}
use Rattle.wal_spelling.specs.declared.fault.BodyErr.TheVariants as causes
use Rattle.wal_spelling.specs.Refusal.{refusal_of}
use Rattle.run_script.specs.declared.line.Refusal.{Refusal}
use Rattle.run_script.specs.declared.line.ScriptFault.{ScriptFault}
use Rattle.run_script.specs.declared.line.ScriptFault.TheVariants as faults
use Rattle.run_script.specs.Asked.{Asked, AskedLine, Insert, Commit, Flush, CommitAsync, WriteBehind, Switch}
use Rattle.run_script.specs.Text.{is_text, lines_of, fields_of}
use Rattle.cli_text.specs.Numbers.{number_of, time_of}
use Rattle.run_script.specs.Hexadecimal.{byte_spelled, data_of}
use Rattle.run_script.specs.Blocks.{references_from}
use Rattle.run_script.specs.Fields.{◌>>=◌, next_as, no_more}

-- what one line means: nothing, what it asks for, or that it is refused
pub data LineMeaning : Type 0 where
  passes : LineMeaning
  asks : Asked → LineMeaning
  refuses : ScriptFault → LineMeaning

-- the fault of a record that cannot be assembled; want of memory is none
abbrev pub assembly_fault : BodyErr → Option ScriptFault
assembly_fault causes.Memory = None
assembly_fault (causes.TooLong size) = Some faults.TooLong
assembly_fault (causes.BadBlock index) = Some faults.BadBlock
assembly_fault causes.Switch = Some faults.Switch
assembly_fault (causes.BadRmgr rmid) = Some faults.BadManager

abbrev pub unless : {X : Type 0} → Option ScriptFault → X → Result X ScriptFault
unless None x = Ok x
unless (Some fault) x = Err fault

-- a record, unless it cannot be assembled
abbrev pub accepted : Record → Result Record ScriptFault
accepted r = unless (option_and_then assembly_fault (refusal_of r)) r

-- the record of a header and main data, with the blocks that fields spell
abbrev pub record_with : Xid → ℕ → ℕ → List ℕ → List (List ℕ) → Result Record ScriptFault
record_with xid manager info main fields = do
  blocks ← references_from 0 fields
  Ok (record {
    xid = xid;
    rmid = manager;
    info = info;
    origin = None;
    top_xid = None;
    blocks = blocks;
    main = main;
  })

-- the same, if it can be assembled
abbrev pub insert_with : Xid → ℕ → ℕ → List ℕ → List (List ℕ) → Result Record ScriptFault
insert_with xid manager info main fields = record_with xid manager info main fields >>= accepted

-- the same by the field that spells the main data
abbrev pub insert_of_data : Xid → ℕ → ℕ → List ℕ → List (List ℕ) → Result Record ScriptFault
insert_of_data xid manager info field fields = do
  main ← ok_or (data_of field) faults.Hex
  insert_with xid manager info main fields

-- the record that the fields behind `I` spell: a transaction's number, a manager, its info, the
-- main data, and any block references
abbrev pub record_spelled : List (List ℕ) → Result Record ScriptFault
record_spelled fields = do
  xid ← next_as (number_of (2 ^ 32 - 1)) faults.Number fields
  manager ← next_as (number_of 255) faults.Number xid.rest
  info ← next_as byte_spelled faults.Hex manager.rest
  main ← next_as data_of faults.Hex info.rest
  record_with (record { 0 = xid.value }) manager.value info.value main.value main.rest

-- the fields behind `I`, whose record can be assembled
abbrev pub insert_of : List (List ℕ) → Result Record ScriptFault
insert_of fields = record_spelled fields >>= accepted

-- a transaction's commit (manager 1, info 0): its time as eight bytes is the main data
-- (PostgreSQL's xact.c)
abbrev pub commit_record : ℕ → ℕ → Record
commit_record xid time =
    record {
      xid = record { 0 = xid };
      rmid = 1;
      info = 0;
      origin = None;
      top_xid = None;
      blocks = [];
      main = to_le_bytes w64 time;
    }

-- the fields behind `C` or `A`: a transaction's number and a time
abbrev pub commit_of : List (List ℕ) → Result Record ScriptFault
commit_of fields = do
  xid ← next_as (number_of (2 ^ 32 - 1)) faults.Number fields
  time ← next_as time_of faults.Number xid.rest
  nothing ← no_more time.rest
  Ok (commit_record xid.value time.value)

-- the fields behind `F`, `L` or `W`: none
abbrev pub alone_asks : Asked → List (List ℕ) → Result Asked ScriptFault
alone_asks asked fields = do
  nothing ← no_more fields
  Ok asked

abbrev pub asks_as : {X : Type 0} → (X → Asked) → Result X ScriptFault → LineMeaning
asks_as form (Ok x) = asks (form x)
asks_as form (Err fault) = refuses fault

-- a line by its first field; no further backend may begin yet
abbrev pub line_with : List (List ℕ) → LineMeaning
line_with [] = refuses faults.Word
line_with (word ∷ fields) =
    if is_text word (codes "I") then asks_as Insert (insert_of fields)
    else (if is_text word (codes "C") then asks_as Commit (commit_of fields)
    else (if is_text word (codes "F") then asks_as (λ asked. asked) (alone_asks Flush fields)
    else (if is_text word (codes "A") then asks_as CommitAsync (commit_of fields)
    else (if is_text word (codes "L") then asks_as (λ asked. asked) (alone_asks WriteBehind fields)
    else (if is_text word (codes "W") then asks_as (λ asked. asked) (alone_asks Switch fields)
    else (if is_text word (codes "B") then refuses faults.Backends else refuses faults.Word))))))

-- an empty line and one that begins with `#` are passed over
abbrev pub line_of : List ℕ → LineMeaning
line_of [] = passes
line_of (c ∷ cs) = if c == 35 then passes else line_with (fields_of (c ∷ cs))

abbrev pub with_line : ℕ → Asked → Result (List AskedLine) Refusal → Result (List AskedLine) Refusal
with_line number asked (Ok lines) = Ok ((record { number = number; asked = asked }) ∷ lines)
with_line number asked (Err refusal) = Err refusal

abbrev pub then_line : ℕ → LineMeaning → Result (List AskedLine) Refusal
    → Result (List AskedLine) Refusal
then_line number passes others = others
then_line number (asks asked) others = with_line number asked others
then_line number (refuses fault) others = Err (record { line = number; fault = fault })

-- lines from a number on, in order, up to the first that is refused
abbrev pub lines_meaning : ℕ → List (List ℕ) → Result (List AskedLine) Refusal
lines_meaning number [] = Ok []
lines_meaning number (line ∷ lines) =
    then_line number (line_of line) (lines_meaning (number + 1) lines)

-- how many bytes a script may have
abbrev pub script_limit : ℕ
script_limit = 67108864

-- a script beyond its limit is refused at the line of its first byte too many
abbrev pub script_too_long : List ℕ → Refusal
script_too_long script =
    record {
      line = count_by (λ c. c == 10) (take script_limit script) + 1;
      fault = faults.Length;
    }

-- what a script means where it is within its limit
abbrev pub within_limit : {X : Type 0} → List ℕ → Result X Refusal → Result X Refusal
within_limit script meaning =
    if nat_lt script_limit (length script) then Err (script_too_long script) else meaning

-- the lines of one backend
abbrev pub backend_meaning : List ℕ → Result (List AskedLine) Refusal
backend_meaning script = within_limit script (lines_meaning 1 (lines_of script))

abbrev pub one_backend : Result (List AskedLine) Refusal → Result (List (List AskedLine)) Refusal
one_backend (Ok lines) = Ok (lines ∷ [])
one_backend (Err refusal) = Err refusal

-- a script's meaning: a list of lines for each backend, of which there is one yet
abbrev pub meaning_of : List ℕ → Result (List (List AskedLine)) Refusal
meaning_of script = one_backend (backend_meaning script)
