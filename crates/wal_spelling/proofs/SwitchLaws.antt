-- The records of a log: those that can be inserted, and that of a segment switch.
use Rattle.std.proofs.Common.{◌≡◌, ℕ, ◌<◌, ◌≤◌, true, false, refl, sym, subst, arith, ◌↔◌}
use Rattle.std.proofs.lemmas.Bool.{not-true}
use Rattle.std.proofs.lemmas.List.Elements.{All-nil}
use Rattle.wal_types.specs.declared.record.Record.{Record}
use Rattle.wal_spelling.specs.Layout.{longest_record}
use Rattle.wal_spelling.specs.Record.{BlockFits, Fits, is_switch, switch_record}
use Rattle.wal_spelling.specs.Spelling.{IsLogRecord, IsReadable, IsWritable, assembled, assembled_room, inserted, is_assembled_switch, size_of, switched}

-- ---- the switch's record

pub size-switch : size_of switch_record ≡ 24
size-switch = refl

pub room-switch : assembled_room (assembled switch_record) ≡ 24
room-switch = refl

pub ends_its_segment : is_switch switch_record ≡ true
ends_its_segment = refl

switch_fits : Fits switch_record
switch_fits = record {
  xid = omega arith;
  manager = omega arith;
  info = omega arith;
  origin = tt;
  top_xid = tt;
  blocks = All-nil BlockFits;
  main = All-nil (λ (n : ℕ). n < 256);
}

switch_readable : IsReadable switch_record
switch_readable = record { manager = refl; blocks = refl; fits = switch_fits; size = omega arith }

-- ---- a record that can be inserted

pub is_switch-inserted : (r : Record) → IsWritable r → is_switch r ≡ false
is_switch-inserted r w = not-true (is_switch r) w.well_formed.no_switch

pub is_assembled_switch-inserted : (r : Record) → IsWritable r → is_assembled_switch (assembled r) ≡ false
is_assembled_switch-inserted r w = is_switch-inserted r w

-- ---- each record of a log

pub logged_size : (r : Record) → IsLogRecord r → size_of r ≤ longest_record
logged_size r (inserted w) = w.size
logged_size r (switched same) = subst (λ (x : Record). size_of x ≤ longest_record) (sym same) (omega arith)

pub logged_readable : (r : Record) → IsLogRecord r → IsReadable r
logged_readable r (inserted w) = record { manager = w.well_formed.manager; blocks = w.well_formed.blocks; fits = w.fits; size = omega (arith, w.size) }
logged_readable r (switched same) = subst IsReadable (sym same) switch_readable

pub logged_no_switch : (r : Record) → IsLogRecord r → is_switch r ≡ false → IsWritable r
logged_no_switch r (inserted w) told = w
logged_no_switch r (switched same) told = let ends : is_switch r ≡ true = rw same refl in absurd cc

pub logged_switch : (r : Record) → IsLogRecord r → is_switch r ≡ true → r ≡ switch_record
logged_switch r (inserted w) told = let goes_on : is_switch r ≡ false = is_switch-inserted r w in absurd cc
logged_switch r (switched same) told = same

pub told_inserted : (r : Record) → IsLogRecord r → (is_switch r ≡ false) ↔ IsWritable r
told_inserted r logged = (logged_no_switch r logged, is_switch-inserted r)

pub told_switched : (r : Record) → IsLogRecord r → (is_switch r ≡ true) ↔ (r ≡ switch_record)
told_switched r logged = (logged_switch r logged, λ same. rw same refl)
