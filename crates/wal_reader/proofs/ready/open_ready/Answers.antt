use Rattle.std.proofs.Common.{Option, subst, refl, sym, ap, ◌∙◌, arith}
use Rattle.byte_position.proofs.Words.{address_of-mod_word}
use Rattle.wal_reader.specs.declared.page_cursor.PageCursor.{PageCursor}
use Rattle.wal_reader.specs.Decodes.{opening_fault}
use Rattle.wal_reader.specs.Ready.{IsReadyAt}
use Rattle.wal_reader.proofs.CacheLaws.{held_page}
use Rattle.wal_reader.proofs.ReadyLaws.{none_is}
use Rattle.wal_reader.proofs.ReadsOnLaws.{reads_none}
use Rattle.wal_reader.proofs.RecordStages.{gathers_none}
use Rattle.wal_reader.proofs.ready.open_ready.Goals as goal

pub returns-in-Some-clause-opens : goal.returns-in-Some-clause-opens
returns-in-Some-clause-opens g c =
    let ready = subst (λ (o : Option PageCursor). IsReadyAt c.args.cache.now c.args.at o) c.in-Some.is c.requires.ready in
    let valid = c.args.cache.now.valid in
    let word = address_of-mod_word c.args.cache.now.geometry valid c.args.at.position c.requires.reachable.aligned in
    record {
      cursor = (ready.0.0, gathers_none c.args.cache.now.geometry c.args.at.position c.in-Some.cursor valid ready.0.1.0 ready.0.1.1 ready.1.0);
      place = (ready.0.1.0, let offset = ready.0.1.1 in omega arith);
      passes = none_is _ ready.1.1;
      unread = λ _. (refl, refl);
      checks = λ pages sees.
          let here = ap pages (sym ready.0.1.0) ∙ held_page (g.D.Disk.tape c.args.disk.now) c.args.cache.now pages c.in-Some.cursor.page sees ready.0.0.0 in
          ap (opening_fault c.args.cache.now.geometry c.args.at) here ∙ none_is _ ready.1.1;
    }

pub returns-in-Some-clause-reads_on : goal.returns-in-Some-clause-reads_on
returns-in-Some-clause-reads_on g c = reads_none g.D.Disk.tape g.D.Disk.moment c.args.disk.now c.args.cache.now
