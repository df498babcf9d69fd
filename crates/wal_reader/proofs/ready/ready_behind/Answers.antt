use Rattle.std.proofs.Common.{◌+◌, refl, arith}
use Rattle.wal_reader.proofs.GatherLaws.{not_on_page, on_page}
use Rattle.wal_reader.proofs.ReadyLaws.{ready_further}
use Rattle.wal_reader.proofs.ready.ready_behind.Goals as goal
use Rattle.wal_reader.proofs.ready.ready_behind.Goals.{else-position-behind-via-then-position-behind+else-behind-position, else-position-behind-via-else-position-behind}

pub returns-then-behind-position-clause-ready : goal.returns-then-behind-position-clause-ready
returns-then-behind-position-clause-ready c = ready_further c.args.cache.now c.args.opened.extent.at c.args.behind c.args.opened.cursor c.requires.opened.none.on c.requires.opened.none.gathered c.requires.opened.page c.requires.opens c.requires.timeline (omega (arith, c.if-position-behind.true)) (omega (arith, c.if-behind-position.true, c.from-left.ensures))

pub returns-then-behind-position-clause-told : goal.returns-then-behind-position-clause-told
returns-then-behind-position-clause-told c =
    let further = c.if-position-behind.true in
    let within = c.if-behind-position.true in
    let left = c.from-left.ensures in
    let same = on_page c.args.cache.now.geometry (c.args.opened.extent.at.position + 0)
    c.args.opened.cursor c.requires.opened.none.gathered.stands c.args.behind.position
    (omega arith) (omega arith) in
    ((λ some. (omega arith, same)), (λ there. refl))

pub returns-clause-told : goal.returns-clause-told
returns-clause-told c =
    let left = c.from-left.ensures in
    let stands = c.requires.opened.none.gathered.stands in
    elim c.else-position-behind.branch [
      | else-position-behind-via-then-position-behind+else-behind-position w ↦
          (let further = w.if-position-behind.true in
          let past = w.if-behind-position.false in (
            (λ some. absurd (cc)),
            (λ there. absurd (
                not_on_page c.args.cache.now.geometry (c.args.opened.extent.at.position + 0)
                c.args.opened.cursor stands c.args.behind.position (omega arith) (omega arith)
                there.1)),
          ))
      | else-position-behind-via-else-position-behind w ↦
          (let before = w.if-position-behind.false in
          ((λ some. absurd (cc)), (λ there. let further = there.0 in absurd (omega arith))))
    ]
