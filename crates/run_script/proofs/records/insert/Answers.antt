use Rattle.std.proofs.Common.{sym, ◌∙◌}
use Rattle.run_script.proofs.Inserts.{insert_is, insert_is_plain}
use Rattle.run_script.proofs.records.insert.Goals as goal

pub returns-then-is_done : goal.returns-then-is_done
returns-then-is_done c = rw (insert_is_plain c.args.fields _ _ _ _ _ _ _ _ c.in_ok-xid.ensures c.in_ok-rmid.ensures c.in_ok-info.ensures c.in-Some.ensures.steps (sym c.is_done.ensures ∙ c.if-is_done.true)) c.insert_plain.ensures

pub returns-else-is_done : goal.returns-else-is_done
returns-else-is_done c = rw (insert_is c.args.fields _ _ _ _ _ _ _ _ c.in_ok-xid.ensures c.in_ok-rmid.ensures c.in_ok-info.ensures c.in-Some.ensures.steps) c.insert_with_blocks.ensures
