use Rattle.std.proofs.Common.{rules, ◌<◌, ◌^◌, Some, refl}
use Rattle.durable_map.proofs.FirstLife.{closes_same}
use Rattle.durable_map.proofs.SetAgain.{finds_change}
use Rattle.durable_map.proofs.one_set.set_and_reopen.Goals as goal

pub returns : goal.returns
returns g c =
    let narrow : c.args.setup.sysid < 2 ^ 64 = search rules in
    let closes = closes_same g.D.Disk.tape g.D.Disk.moment g.D.Disk.faults _ _ _ _
    c.in-Ok-set.ensures.log c.close-closed.ensures in
    finds_change g.D.Disk.tape g.D.Disk.moment g.D.Disk.faults c.promised_records_stay.ensures
    c.answered_changes_stay.ensures c.args.setup c.args.disk c.in-Ok.map c.set.new.self.part
    c.close-closed.result c.in-Ok-open.again
    (record { key = c.args.key.now; value = Some c.args.value.items }) c.in-Ok-set.sealed
    c.in-Ok.ensures.opened c.in-Ok.ensures.kept c.in-Ok-set.ensures.call
    closes c.in-Ok-open.ensures.opened c.requires.nothing c.requires.tells
    narrow c.args.value.items refl
