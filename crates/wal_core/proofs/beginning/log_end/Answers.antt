-- The log's end lies between segment 1 and where the log is full.
use Rattle.std.proofs.Common.{◌≡◌, ℕ, ◌+◌, All, drop, slice_index_or, ap, ◌∙◌, subst, arith}
use Rattle.std.proofs.lemmas.List.{at_drop_more}
use Rattle.byte_position.specs.Position.{end_address_of}
use Rattle.byte_position.proofs.EndAddresses.{end_address_of-mono}
use Rattle.wal_page.proofs.WordPositions.{end_address_of-first_position}
use Rattle.machine_state.specs.Words.{log_start}
use Rattle.machine_turns.specs.Scripts.{InsertsLogRecord, rooms_of_lines}
use Rattle.wal_core.specs.Cores.{rooms_of_scripts}
use Rattle.wal_core.proofs.FirstData.{all_hold, one_more_holds}
use Rattle.wal_core.proofs.Ready.{end_form-near}
use Rattle.wal_core.proofs.beginning.log_end.Goals as goal

pub to_end_lsn-requires : goal.to_end_lsn-requires
to_end_lsn-requires c =
    omega (arith, c.loop-script.invariant.1, c.limit-limit.ensures.limit, c.limit-limit.ensures.low)

pub returns-clause-low : goal.returns-clause-low
returns-clause-low c =
    let near = end_form-near c.args.shape.now (c.limit-limit.ensures.setup).size
    c.loop-script.position in
    let same = ap (λ (size : ℕ). end_address_of size c.loop-script.position) c.geometry.ensures in
    omega (
      arith,
      near,
      same,
      c.to_end_lsn.ensures,
      c.loop-script.invariant.1,
      c.limit-limit.ensures.limit,
      c.limit-limit.ensures.low,
    )

pub returns-clause-begun : goal.returns-clause-begun
returns-clause-begun c =
    let size = c.args.shape.now.seg_size in
    let valid = (c.limit-limit.ensures.setup).size in
    let same = ap (λ (s : ℕ). end_address_of s c.loop-script.position) c.geometry.ensures in
    omega (
      arith,
      end_address_of-first_position size valid,
      end_address_of-mono size valid (log_start c.args.shape.now) c.loop-script.position
          c.loop-script.invariant.0,
      same,
      c.to_end_lsn.ensures,
    )

pub loop-script-preserved : goal.loop-script-preserved
loop-script-preserved c =
    let scripts = c.args.scripts.now in
    let next = slice_index_or scripts c.loop-script.script-index c.script-item.result in
    let rest = drop (c.loop-script.script-index + 1) scripts in
    let more : rooms_of_scripts (drop c.loop-script.script-index scripts)
    ≡ rooms_of_lines next + rooms_of_scripts rest = at_drop_more rooms_of_scripts scripts
    c.loop-script.script-index c.script-item.result c.loop-script-test.true in
    let here : rooms_of_lines c.lines.result.now ≡ rooms_of_lines next =
    ap rooms_of_lines (c.lines.ensures ∙ c.script-item.is) in
    let limit = c.limit-limit.ensures.limit in
    let behind = c.after_lines-position.ensures.position in (
      omega (arith, behind, limit, c.loop-script.invariant.0, c.loop-script.invariant.1),
      omega (arith, behind, limit),
      omega (arith, behind, limit, here, more, c.loop-script.invariant.2),
      one_more_holds (All InsertsLogRecord) scripts c.loop-script.script-index c.script-item.result
          c.loop-script-test.true c.script-item.is c.loop-script.invariant.3
          (subst (All InsertsLogRecord) c.lines.ensures c.after_lines-position.ensures.known),
    )

pub returns-clause-known : goal.returns-clause-known
returns-clause-known c = all_hold (All InsertsLogRecord) c.args.scripts.now c.loop-script.script-index
    c.loop-script-test.false c.loop-script.invariant.3
