use Rattle.std.proofs.Common.{◌≡◌, false, sym, subst, refl}
use Rattle.wal_spelling.specs.Record.{plain_record}
use Rattle.wal_spelling.specs.Spelling.{Assembled, IsWritable, assembled, inserted, is_assembled_switch}
use Rattle.wal_spelling.proofs.Acceptance.{accepted_record, writable}
use Rattle.wal_spelling.proofs.PlainRecords.{plain_fits}
use Rattle.wal_spelling.proofs.SwitchLaws.{is_assembled_switch-inserted}
use Rattle.wal_spelling.proofs.body.Body.of_plain.Goals as goal

pub of_parts-requires : goal.of_parts-requires
of_parts-requires c =
    let r = plain_record c.args.xid c.args.rmid c.args.info c.args.main.now in
    let accepted = accepted_record r c.requires.accepted in
    let numbers = c.header_fits.ensures in
    let fits = plain_fits c.args.xid c.args.rmid c.args.info c.args.main.now c.requires.fits in
    record {
      value = r;
      logged = inserted (writable r accepted numbers.0 numbers.1 numbers.2 fits);
      same = rw c.requires.bytes refl;
    }

pub returns-clause-ok : goal.returns-clause-ok
returns-clause-ok c =
    let r = plain_record c.args.xid c.args.rmid c.args.info c.args.main.now in
    let accepted = accepted_record r c.requires.accepted in
    let same : c.of_parts.result ≡ assembled r = rw c.requires.bytes at c.of_parts.ensures in
    let numbers = c.header_fits.ensures in
    let fits = plain_fits c.args.xid c.args.rmid c.args.info c.args.main.now c.requires.fits in
    let could : IsWritable r = writable r accepted numbers.0 numbers.1 numbers.2 fits in
    (same, could)

pub returns-clause-inserted : goal.returns-clause-inserted
returns-clause-inserted c =
    let r = plain_record c.args.xid c.args.rmid c.args.info c.args.main.now in
    let made = returns-clause-ok c in
    subst (λ (a : Assembled). is_assembled_switch a ≡ false) (sym made.0) (is_assembled_switch-inserted r made.1)
