use Rattle.std.proofs.Common.{◌+◌, refl, arith}
use Rattle.wal_reader.proofs.GatherLaws.{not_on_page, on_page}
use Rattle.wal_reader.proofs.ReadyLaws.{ready_gathered}
use Rattle.wal_reader.proofs.ready.ready_over.Goals as goal
use Rattle.wal_reader.proofs.ready.ready_over.Goals.{else-end-behind-via-then-end-behind+else-behind-end, else-end-behind-via-else-end-behind}

pub returns-then-behind-end-clause-ready : goal.returns-then-behind-end-clause-ready
returns-then-behind-end-clause-ready c = ready_gathered c.args.cache.now c.args.gathered.extent.at c.args.behind c.args.gathered.extent.total (c.args.gathered.extent.at.position + c.from.result) c.args.gathered.cursor c.requires.gathered.on c.requires.gathered.gathered c.requires.some c.requires.passed c.requires.timeline (omega (arith, c.from.ensures)) (omega (arith, c.if-end-behind.true)) (omega (arith, c.if-behind-end.true, c.from-left.ensures))

pub returns-then-behind-end-clause-told : goal.returns-then-behind-end-clause-told
returns-then-behind-end-clause-told c =
    let total = c.from.ensures in
    let further = c.if-end-behind.true in
    let within = c.if-behind-end.true in
    let left = c.from-left.ensures in
    let same = on_page c.args.cache.now.geometry
    (c.args.gathered.extent.at.position + c.args.gathered.extent.total) c.args.gathered.cursor
    c.requires.gathered.gathered.stands c.args.behind.position (omega arith) (omega arith) in
    ((λ some. (omega arith, same)), (λ there. refl))

pub returns-clause-told : goal.returns-clause-told
returns-clause-told c =
    let total = c.from.ensures in
    let left = c.from-left.ensures in
    let stands = c.requires.gathered.gathered.stands in
    elim c.else-end-behind.branch [
      | else-end-behind-via-then-end-behind+else-behind-end w ↦
          (let further = w.if-end-behind.true in
          let past = w.if-behind-end.false in (
            (λ some. absurd (cc)),
            (λ there. absurd (not_on_page c.args.cache.now.geometry
                (c.args.gathered.extent.at.position + c.args.gathered.extent.total)
                c.args.gathered.cursor stands c.args.behind.position (omega arith) (omega arith)
                there.1)),
          ))
      | else-end-behind-via-else-end-behind w ↦
          (let before = w.if-end-behind.false in
          ((λ some. absurd (cc)), (λ there. let further = there.0 in absurd (omega arith))))
    ]
