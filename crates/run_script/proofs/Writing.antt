-- Each record of a script can be written.
use Rattle.std.proofs.Common.{◌≡◌, ℕ, ◌+◌, ◌-◌, ◌<◌, ◌^◌, Bool, true, false, cond, List, [], ◌∷◌, length, Option, Some, None, Result, Ok, Err, All, codes, eqb, ltb, refl, ap, sym, subst, ◌∙◌, arith}
use Rattle.std.specs.Prelude.{IfOk, option_and_then, option_map, if◌then◌else◌}
use Rattle.std.specs.Int.{w64, to_le_bytes}
use Rattle.std.specs.Option.{option_or}
use Rattle.std.proofs.lemmas.Bool.{cond_both}
use Rattle.std.proofs.lemmas.List.Elements.{All-nil, All-cons, All-from_recursion}
use Rattle.wal_types.specs.declared.record.Record.{Record}
use Rattle.wal_spelling.specs.declared.fault.BodyErr.{BodyErr}
use Rattle.wal_spelling.specs.declared.fault.BodyErr.TheVariants.{Memory, TooLong, BadBlock, BadRmgr}
use Rattle.wal_spelling.specs.declared.fault.BodyErr.TheVariants as causes
use Rattle.wal_spelling.specs.Record.{Fits, BlockFits, is_free_manager, is_switch}
use Rattle.wal_spelling.specs.Refusal.{first_bad_block, refusal_of, too_long}
use Rattle.wal_spelling.specs.Spelling.{Assembled, IsWritable, size_of}
use Rattle.wal_spelling.proofs.Acceptance.{refused_or_writable}
use Rattle.run_script.specs.Asked.{Asked, AskedLine, Insert, Commit, Flush, CommitAsync, WriteBehind, Switch}
use Rattle.run_script.specs.declared.line.Refusal.{Refusal}
use Rattle.run_script.specs.declared.line.ScriptFault.{ScriptFault}
use Rattle.run_script.specs.declared.line.ScriptFault.TheVariants as faults
use Rattle.run_script.specs.Text.{is_text, lines_of, fields_of}
use Rattle.cli_text.specs.Numbers.{number_of, time_of}
use Rattle.run_script.specs.Hexadecimal.{byte_spelled, data_of}
use Rattle.run_script.specs.Blocks.{references_from}
use Rattle.run_script.specs.Meaning.{LineMeaning, passes, asks, refuses, assembly_fault, unless, accepted, record_spelled, insert_of, commit_record, commit_of, alone_asks, asks_as, line_with, line_of, then_line, lines_meaning, script_limit, backend_meaning}
use Rattle.run_script.specs.Reading.{JudgesBody}
use Rattle.run_script.specs.Writable.{AsksWritable}
use Rattle.run_script.specs.declared.line_error.LineError.{LineError}
use Rattle.run_script.proofs.FittingBlocks.{blocks_fit}
use Rattle.run_script.proofs.Steps.{bind_then, next_then, no_more_then}
use Rattle.run_script.proofs.Fits.{number_of-le, byte_of-lt, data_of_fits}

-- ---- records that are not refused

other_row : (b : Bool) (x : BodyErr) (y : Option BodyErr) → (Some x ≡ Some Memory → ⊥) → (y ≡ Some Memory → ⊥) → cond b (Some x) y ≡ Some Memory → ⊥
other_row true x y here behind e = here e
other_row false x y here behind e = behind e

other_block : (bad : Option ℕ) (long : Option BodyErr) → (long ≡ Some Memory → ⊥) → option_or (option_map BadBlock bad) long ≡ Some Memory → ⊥
other_block None long behind e = behind e
other_block (Some k) long behind e = cc

-- no record is refused for want of memory
never_memory : (r : Record) → refusal_of r ≡ Some Memory → ⊥
unfolding refusal_of
never_memory r =
    other_row (is_free_manager r.rmid) (BadRmgr r.rmid) _ (λ e. cc)
    (other_row (is_switch r) causes.Switch _ (λ e. cc)
    (other_block (first_bad_block 0 r.blocks) (too_long (size_of r))
    (other_row (ltb 1048576 (size_of r)) (TooLong (size_of r)) None (λ e. cc) (λ e. cc))))

by_refusal : (r : Record) → Fits r → (refusal : Option BodyErr) → refusal_of r ≡ refusal → IfOk (unless (option_and_then assembly_fault refusal) r) IsWritable
by_refusal r fits None is = (refused_or_writable r fits).0 is
by_refusal r fits (Some Memory) is = absurd (never_memory r is)
by_refusal r fits (Some (TooLong size)) is = tt
by_refusal r fits (Some (BadBlock index)) is = tt
by_refusal r fits (Some causes.Switch) is = tt
by_refusal r fits (Some (BadRmgr rmid)) is = tt

accepted_writable : (r : Record) → Fits r → IfOk (accepted r) IsWritable
accepted_writable r fits = by_refusal r fits (refusal_of r) refl

-- ---- the records of lines

record_fits : (fields : List (List ℕ)) → IfOk (record_spelled fields) Fits
record_fits fields =
    next_then (number_of (2 ^ 32 - 1)) faults.Number fields _ Fits (λ behind_xid xid_field xid xid_is.
    next_then (number_of 255) faults.Number behind_xid _ Fits (λ behind_manager manager_field manager manager_is.
    next_then byte_spelled faults.Hex behind_manager _ Fits (λ behind_info info_field info info_is.
    next_then data_of faults.Hex behind_info _ Fits (λ behind_main main_field main main_is.
    bind_then (references_from 0 behind_main) _ (All BlockFits) Fits (blocks_fit 0 (omega arith) behind_main) (λ blocks all_fit. record {
      xid = omega (arith, number_of-le (2 ^ 32 - 1) xid_field xid xid_is);
      manager = omega (arith, number_of-le 255 manager_field manager manager_is);
      info = byte_of-lt info_field info info_is;
      origin = tt;
      top_xid = tt;
      blocks = all_fit;
      main = data_of_fits main_field main main_is;
    })))))

insert_writable : (fields : List (List ℕ)) → IfOk (insert_of fields) IsWritable
insert_writable fields = bind_then (record_spelled fields) accepted Fits IsWritable (record_fits fields) accepted_writable

size_of-commit_record : (xid time : ℕ) → size_of (commit_record xid time) ≡ 34
size_of-commit_record xid time = refl

All-time : (time : ℕ) → All (λ b. b < 256) (to_le_bytes w64 time)
All-time time = All-from_recursion (λ b. b < 256) (to_le_bytes w64 time) (omega arith, (omega arith, (omega arith, (omega arith, (omega arith, (omega arith, (omega arith, (omega arith, tt))))))))

IsWritable-commit_record : (xid time : ℕ) → xid < 2 ^ 32 → IsWritable (commit_record xid time)
IsWritable-commit_record xid time below = record {
  well_formed = record { manager = refl; no_switch = refl; blocks = refl };
  fits = record { xid = below; manager = omega arith; info = omega arith; origin = tt; top_xid = tt; blocks = All-nil BlockFits; main = All-time time };
  size = omega (arith, size_of-commit_record xid time);
}

commit_writable : (fields : List (List ℕ)) → IfOk (commit_of fields) IsWritable
commit_writable fields =
    next_then (number_of (2 ^ 32 - 1)) faults.Number fields _ IsWritable (λ behind_xid xid_field xid xid_is.
    next_then time_of faults.Number behind_xid _ IsWritable (λ behind_time time_field time time_is.
    no_more_then behind_time _ IsWritable
    (IsWritable-commit_record xid time (omega (arith, number_of-le (2 ^ 32 - 1) xid_field xid xid_is)))))

-- so such a record is accepted
accepted_where_writable : (value : Record) → IsWritable value → accepted value ≡ Ok value
accepted_where_writable value writable = ap (λ (refusal : Option BodyErr). unless (option_and_then assembly_fault refusal) value) ((refused_or_writable value writable.fits).1 writable)

pub JudgesBody-commit : (fields : List (List ℕ)) (value : Record) (result : Result Assembled LineError) → commit_of fields ≡ Ok value → JudgesBody result (accepted value) → JudgesBody result (commit_of fields)
JudgesBody-commit fields value result is judges =
    let writable : IsWritable value = subst (λ (r : Result Record ScriptFault). IfOk r IsWritable) is (commit_writable fields) in
    subst (JudgesBody result) (accepted_where_writable value writable ∙ sym is) judges

-- ---- lines

-- what a line asks for is only this
abbrev pub MeansOnly : (Asked → Type 0) → LineMeaning → Type 0
MeansOnly P passes = Unit {0}
MeansOnly P (asks asked) = P asked
MeansOnly P (refuses fault) = Unit {0}

abbrev pub MeansWritable : LineMeaning → Type 0
MeansWritable = MeansOnly AsksWritable

pub asks_as_only : (P : Asked → Type 0) (form : Record → Asked) (r : Result Record ScriptFault) → ((x : Record) → r ≡ Ok x → P (form x)) → MeansOnly P (asks_as form r)
asks_as_only P form (Ok x) holds = holds x refl
asks_as_only P form (Err fault) holds = tt

pub alone_asks_only : (P : Asked → Type 0) (asked : Asked) (fields : List (List ℕ)) → P asked → MeansOnly P (asks_as (λ a. a) (alone_asks asked fields))
alone_asks_only P asked [] holds = holds
alone_asks_only P asked (field ∷ rest) holds = tt

-- what holds of what each letter asks for holds of what a line does
module _ (P : Asked → Type 0) (word : List ℕ) (fields : List (List ℕ)) where
  abbrev backends : LineMeaning
  backends = if is_text word (codes "B") then refuses faults.Backends else refuses faults.Word

  abbrev switch : LineMeaning
  switch = if is_text word (codes "W") then asks_as (λ asked. asked) (alone_asks Switch fields) else backends

  abbrev behind : LineMeaning
  behind = if is_text word (codes "L") then asks_as (λ asked. asked) (alone_asks WriteBehind fields) else switch

  abbrev ahead : LineMeaning
  ahead = if is_text word (codes "A") then asks_as CommitAsync (commit_of fields) else behind

  abbrev flush : LineMeaning
  flush = if is_text word (codes "F") then asks_as (λ asked. asked) (alone_asks Flush fields) else ahead

  abbrev commit : LineMeaning
  commit = if is_text word (codes "C") then asks_as Commit (commit_of fields) else flush

  pub line_with_only : (is_text word (codes "I") ≡ true → MeansOnly P (asks_as Insert (insert_of fields)))
      → (is_text word (codes "C") ≡ true → MeansOnly P (asks_as Commit (commit_of fields)))
      → (is_text word (codes "F") ≡ true → P Flush)
      → (is_text word (codes "A") ≡ true → MeansOnly P (asks_as CommitAsync (commit_of fields)))
      → (is_text word (codes "L") ≡ true → P WriteBehind)
      → (is_text word (codes "W") ≡ true → P Switch)
      → MeansOnly P (line_with (word ∷ fields))
  line_with_only insert_holds commit_holds flush_holds ahead_holds behind_holds switch_holds =
      cond_both (is_text word (codes "I")) (asks_as Insert (insert_of fields)) commit (MeansOnly P) insert_holds
      (λ _. cond_both (is_text word (codes "C")) (asks_as Commit (commit_of fields)) flush (MeansOnly P) commit_holds
      (λ _. cond_both (is_text word (codes "F")) (asks_as (λ asked. asked) (alone_asks Flush fields)) ahead (MeansOnly P) (λ is. alone_asks_only P Flush fields (flush_holds is))
      (λ _. cond_both (is_text word (codes "A")) (asks_as CommitAsync (commit_of fields)) behind (MeansOnly P) ahead_holds
      (λ _. cond_both (is_text word (codes "L")) (asks_as (λ asked. asked) (alone_asks WriteBehind fields)) switch (MeansOnly P) (λ is. alone_asks_only P WriteBehind fields (behind_holds is))
      (λ _. cond_both (is_text word (codes "W")) (asks_as (λ asked. asked) (alone_asks Switch fields)) backends (MeansOnly P) (λ is. alone_asks_only P Switch fields (switch_holds is))
      (λ _. cond_both (is_text word (codes "B")) (refuses faults.Backends) (refuses faults.Word) (MeansOnly P) (λ _. tt) (λ _. tt)))))))

asks_as_writable : (form : Record → Asked) (r : Result Record ScriptFault) → ((x : Record) → IsWritable x → AsksWritable (form x)) → IfOk r IsWritable → MeansWritable (asks_as form r)
asks_as_writable form (Ok x) keeps writable = keeps x writable
asks_as_writable form (Err fault) keeps writable = tt

pub line_with_writable : (fields : List (List ℕ)) → MeansWritable (line_with fields)
line_with_writable [] = tt
line_with_writable (word ∷ fields) =
    line_with_only AsksWritable word fields
    (λ _. asks_as_writable Insert (insert_of fields) (λ x writable. writable) (insert_writable fields))
    (λ _. asks_as_writable Commit (commit_of fields) (λ x writable. writable) (commit_writable fields))
    (λ _. tt)
    (λ _. asks_as_writable CommitAsync (commit_of fields) (λ x writable. writable) (commit_writable fields))
    (λ _. tt)
    (λ _. tt)

line_of_writable : (line : List ℕ) → MeansWritable (line_of line)
line_of_writable [] = tt
line_of_writable (c ∷ cs) = cond_both (eqb c 35) passes (line_with (fields_of (c ∷ cs))) MeansWritable (λ _. tt) (λ _. line_with_writable (fields_of (c ∷ cs)))

abbrev AreWritable : List AskedLine → Type 0
AreWritable lines = All (λ line. AsksWritable line.asked) lines

then_line_writable : (number : ℕ) (meaning : LineMeaning) (others : Result (List AskedLine) Refusal) → MeansWritable meaning → IfOk others AreWritable → IfOk (then_line number meaning others) AreWritable
then_line_writable number passes others writable rest = rest
then_line_writable number (asks asked) (Ok lines) writable rest = All-cons (λ line. AsksWritable line.asked) (record { number = number; asked = asked }) lines writable rest
then_line_writable number (asks asked) (Err refusal) writable rest = tt
then_line_writable number (refuses fault) others writable rest = tt

lines_meaning_writable : (number : ℕ) (texts : List (List ℕ)) → IfOk (lines_meaning number texts) AreWritable
lines_meaning_writable number [] = All-nil (λ line. AsksWritable line.asked)
lines_meaning_writable number (text ∷ texts) =
    then_line_writable number (line_of text) (lines_meaning (number + 1) texts) (line_of_writable text) (lines_meaning_writable (number + 1) texts)

-- over any limit
limited_writable : (limit : ℕ) (refusal : Refusal) (script : List ℕ) → IfOk (if ltb limit (length script) then Err refusal else lines_meaning 1 (lines_of script)) AreWritable
limited_writable limit refusal script =
    cond_both (ltb limit (length script)) (Err refusal) (lines_meaning 1 (lines_of script)) (λ meaning. IfOk meaning AreWritable) (λ _. tt) (λ _. lines_meaning_writable 1 (lines_of script))

pub lines_are_writable : (script : List ℕ) → IfOk (backend_meaning script) (λ lines. All (λ line. AsksWritable line.asked) lines)
lines_are_writable script = limited_writable script_limit _ script
