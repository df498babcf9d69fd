use Rattle.std.proofs.Common.{rules, ◌≡◌, [], ◌∷◌, arith, sym, ap, ◌∙◌, subst}
use Rattle.machine_state.specs.Opened.{AreFirstWords}
use Rattle.wal_rule.specs.Founded.{began_of_founding, founded_opening, founded_plain}
use Rattle.wal_rule.specs.WordPlaces.{words_of}
use Rattle.wal_rule.proofs.Begins.{waits}
use Rattle.wal_rule.proofs.Founds.{unsettled_unbegun}
use Rattle.wal_rule.proofs.table.LogTable.waiting.Goals as goal

pub new-requires : goal.new-requires
new-requires g c =
    let founding = c.args.founding.now in
    let are : c.push.new.self.items ≡ c.args.writer ∷ [] = search rules in
    waits g.D.Disk.tape g.D.Disk.moment g.D.Disk.faults (founded_opening founding)
    (began_of_founding g.D.Disk.tape founding) _ c.push.new.self.items c.args.writer are
    (subst (AreFirstWords (founded_opening founding))
    (sym (ap words_of c.deref.ensures.value ∙ c.in-Ok.ensures.words)) c.requires.words)
    (unsettled_unbegun g.D.Disk.tape g.D.Disk.moment g.D.Disk.faults founding c.args.writer
    c.requires.writer)
    (founded_plain g.D.Disk.tape g.D.Disk.moment founding) (sym c.requires.writer.plain)
    founding.faults c.requires.writer.failed

pub memory_of-requires : goal.memory_of-requires
memory_of-requires g c =
    let wide = c.requires.words.wide in
    let few = c.requires.openable.setup_is.ring_high in
    record { some = omega (arith, wide); few = omega (arith, wide, few) }

pub only_one-requires : goal.only_one-requires
only_one-requires g c = (c.args.writer, search rules)
