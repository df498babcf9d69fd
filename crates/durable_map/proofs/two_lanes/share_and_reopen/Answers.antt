use Rattle.std.proofs.Common.{rules, ◌<◌, ◌^◌}
use Rattle.durable_map.proofs.SharedAgain.{finds_both}
use Rattle.durable_map.proofs.two_lanes.share_and_reopen.Goals as goal

pub returns : goal.returns
returns g c =
    let narrow : c.args.setup.sysid < 2 ^ 64 = search rules in
    finds_both g.D.Disk.tape g.D.Disk.moment g.D.Disk.faults c.promised_records_stay.ensures
    c.answered_changes_stay.ensures c.logs_weave_lanes.ensures c.args.setup c.args.disk
    c.in-Ok.map c.in-Ok-share.shared c.make_both.new.shared c.close-closed.result
    c.in-Ok-open.again c.args.one c.args.other c.in-Ok.ensures.opened
    c.in-Ok-share.ensures.from c.make_both.ensures.log
    (c.make_both.ensures.made c.if-not-make_both.false)
    c.close-closed.ensures c.in-Ok-open.ensures.opened c.requires.nothing c.requires.tells narrow
