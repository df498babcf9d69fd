-- What is not refused can be written.
use Rattle.std.proofs.Common.{◌≡◌, ℕ, ◌<◌, ◌≤◌, ◌^◌, Bool, true, false, cond, ltb, length, Option, Some, None, refl, ◌↔◌, arith}
use Rattle.std.specs.Prelude.{option_map}
use Rattle.std.specs.Option.{option_or}
use Rattle.std.proofs.lemmas.Bool.{le-ltb, ltb-false, not-true, not_from_false}
use Rattle.std.proofs.lemmas.List.{length-append}
use Rattle.wal_types.specs.declared.record.Record.{Record}
use Rattle.wal_spelling.specs.declared.fault.BodyErr.{BodyErr}
use Rattle.wal_spelling.specs.declared.fault.BodyErr.TheVariants.{TooLong, BadBlock, Switch, BadRmgr}
use Rattle.wal_spelling.specs.Fitting.{FitsAfterHeader}
use Rattle.wal_spelling.specs.Record.{Fits, IsWellFormed, is_free_manager, is_switch}
use Rattle.wal_spelling.specs.Refusal.{first_bad_block, refusal_of, too_long}
use Rattle.wal_spelling.specs.Spelling.{IsWritable, size_of}
use Rattle.wal_spelling.proofs.RightBlocks.{none_bad, right_none_bad}

-- a test of a table's row that did not hold
passed : {A : Type 0} (b : Bool) (x : A) (y : Option A) → cond b (Some x) y ≡ None → (b ≡ false) × (y ≡ None)
passed true x y e = absurd cc
passed false x y e = (refl, e)

neither : (bad : Option ℕ) (long : Option BodyErr) → option_or (option_map BadBlock bad) long ≡ None → (bad ≡ None) × (long ≡ None)
neither None long e = (refl, e)
neither (Some k) long e = absurd cc

pub record IsAccepted (r : Record) : Type 0 where
  pub well_formed : IsWellFormed r
  pub size : size_of r ≤ 1048576
  pub short : length r.main < 2 ^ 32

pub main_short : (r : Record) → size_of r ≤ 1048576 → length r.main < 2 ^ 32
main_short r h = omega (arith, length-append {A = ℕ})

pub accepted_record : (r : Record) → refusal_of r ≡ None → IsAccepted r
unfolding refusal_of
accepted_record r e =
    let a = passed (is_free_manager r.rmid) (BadRmgr r.rmid) _ e in
    let b = passed (is_switch r) Switch _ a.1 in
    let c = neither (first_bad_block 0 r.blocks) (too_long (size_of r)) b.1 in
    let d = passed (ltb 1048576 (size_of r)) (TooLong (size_of r)) None c.1 in
    let size = ltb-false 1048576 (size_of r) d.0 in
    record {
      well_formed = record { manager = not_from_false _ a.0; no_switch = not_from_false _ b.0; blocks = none_bad 0 r.blocks c.0 };
      size = size;
      short = main_short r size;
    }

-- what can be written is accepted
pub not_refused : (r : Record) → IsWritable r → refusal_of r ≡ None
unfolding refusal_of
not_refused r w =
    rw (not-true (is_free_manager r.rmid) w.well_formed.manager, not-true (is_switch r) w.well_formed.no_switch, right_none_bad 0 r.blocks w.well_formed.blocks, le-ltb 1048576 (size_of r) w.size) refl

-- an accepted record whose numbers fit could be written
pub writable : (r : Record) → IsAccepted r → r.xid.0 < 2 ^ 32 → r.rmid < 256 → r.info < 256
    → FitsAfterHeader r → IsWritable r
writable r accepted xid manager info fits = record {
  well_formed = accepted.well_formed;
  fits = record {
    xid = xid;
    manager = manager;
    info = info;
    origin = fits.0;
    top_xid = fits.1;
    blocks = fits.3;
    main = fits.2;
  };
  size = accepted.size;
}

pub refused_or_writable : (r : Record) → Fits r → (refusal_of r ≡ None) ↔ IsWritable r
refused_or_writable r fits = (λ none. let accepted = accepted_record r none in record { well_formed = accepted.well_formed; fits = fits; size = accepted.size }, not_refused r)
