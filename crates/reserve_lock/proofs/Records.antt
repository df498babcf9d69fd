-- The record that a body was made of, by reading its spelling.
use Rattle.std.specs.Prelude.{Contains}
use Rattle.std.proofs.Common.{◌≡◌, ℕ, ◌<◌, true, false, List, Result, Ok, Err, [], None, refl, sym, ap, ◌∙◌, subst, arith}
use Rattle.wal_types.specs.declared.record.Record.{Record}
use Rattle.wal_spelling.specs.Record.{switch_record}
use Rattle.wal_spelling.specs.Spelling.{Assembled, IsLogRecord, IsWritable, RecordOf, assembled, assembled_size, is_assembled_switch, spelled, switched}
use Rattle.wal_spelling.proofs.SwitchLaws.{ends_its_segment, logged_no_switch, logged_switch, size-switch}
use Rattle.wal_record.specs.declared.fault.RecErr.{RecErr}
use Rattle.wal_record.specs.Reading.{reading_of}
use Rattle.wal_record.proofs.SpellingReads.{spelling_reads}
use Rattle.machine_state.specs.Steps.{MayStandUnder}

abbrev no_record : Record
no_record = record {
  xid = record { 0 = 0 };
  rmid = 0;
  info = 0;
  origin = None;
  top_xid = None;
  blocks = [];
  main = [];
}

abbrev read_or_none : Result Record RecErr → Record
read_or_none (Ok r) = r
read_or_none (Err e) = no_record

abbrev pub record_read : Assembled → Record
record_read a = read_or_none (reading_of (spelled a 0))

again : (r : Record) → IsLogRecord r → record_read (assembled r) ≡ r
again r logged = ap read_or_none (spelling_reads r 0 logged (omega arith))

pub read_logged : (a : Assembled) → RecordOf a → IsLogRecord (record_read a)
read_logged a known = subst (λ (b : Assembled). IsLogRecord (record_read b)) (sym known.same)
    (subst IsLogRecord (sym (again known.value known.logged)) known.logged)

pub read_same : (a : Assembled) → RecordOf a → assembled (record_read a) ≡ a
read_same a known = subst (λ (b : Assembled). assembled (record_read b) ≡ b) (sym known.same)
    (ap assembled (again known.value known.logged))

-- it may stand under locks that are all of them if it ends its segment
pub read_under : (a : Assembled) → RecordOf a → (locks : List ℕ)
    → (is_assembled_switch a ≡ true → (lock : ℕ) → lock < 8 → Contains locks lock)
    → MayStandUnder locks (record_read a)
read_under a known locks all = record {
  logged = read_logged a known;
  all_locks = λ switches. all
      (subst (λ (b : Assembled). is_assembled_switch b ≡ true) (read_same a known) switches);
}

-- ---- what is told of an entry's record by its body

module _ (a : Assembled) (value : Record) (logged : IsLogRecord value)
    (same : assembled value ≡ a) where
  pub value_inserted : is_assembled_switch a ≡ false → IsWritable value
  value_inserted plain =
      logged_no_switch value logged (ap is_assembled_switch same ∙ plain)

  pub value_switch : is_assembled_switch a ≡ true → value ≡ switch_record
  value_switch switches = logged_switch value logged (ap is_assembled_switch same ∙ switches)

-- ---- a segment switch

module _ (a : Assembled) (switch : a ≡ assembled switch_record) where
  pub switch_known : RecordOf a
  switch_known = record { value = switch_record; logged = switched refl; same = switch }

  pub switch_ends : is_assembled_switch a ≡ true
  switch_ends = ap is_assembled_switch switch ∙ ends_its_segment

  pub switch_size : assembled_size a ≡ 24
  switch_size = ap assembled_size switch ∙ size-switch
