use Rattle.std.proofs.Common.{Option, option_map, subst}
use Rattle.wal_types.specs.declared.lsn.Lsn.{Lsn}
use Rattle.wal_reader.specs.declared.page_cursor.PageCursor.{PageCursor}
use Rattle.wal_reader.specs.Ready.{IsReadyAt}
use Rattle.wal_reader.proofs.ReadyLaws.{met_or_out}
use Rattle.wal_reader.proofs.ready.is_beyond.Goals as goal

pub returns-in-Some : goal.returns-in-Some
returns-in-Some c =
    let ready = subst (λ (o : Option PageCursor). IsReadyAt c.args.cache.now c.args.at o) c.in-Some.is c.requires.ready in
    met_or_out c.args.cache.now (option_map (λ (e : Lsn). e.0) c.args.end) c.args.at c.in-Some.cursor c.address.result.0 c.is_met.result ready c.address.ensures c.is_met.ensures
