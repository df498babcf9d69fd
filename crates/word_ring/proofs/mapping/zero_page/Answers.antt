use Rattle.std.proofs.Common.{◌≡◌, ℕ, ◌+◌, ◌*◌, ap, sym, ◌∙◌, arith}
use Rattle.machine_state.specs.Words.{ends_number}
use Rattle.machine_state.specs.declared.setup.Setup.{Setup}
use Rattle.machine_state.specs.Steps.{buffer_of, ring_number}
use Rattle.machine_state.specs.Views.{View}
use Rattle.word_ring.proofs.Steps.{same_setup, same_table, view_is, zeroed_as, zeroed_none, zeroed_on}
use Rattle.word_ring.proofs.mapping.zero_page.Goals as goal

pub loop-row-init : goal.loop-row-init
loop-row-init g c = zeroed_none c.args.seated.now c.args.at 0 c.requires.cleared

pub zero_row-requires-clause-table : goal.zero_row-requires-clause-table
zero_row-requires-clause-table g c =
    same_table c.args.seated.now c.loop-row.seated c.loop-row.invariant.same_table

pub zero_row-requires-clause-first : goal.zero_row-requires-clause-first
zero_row-requires-clause-first g c =
    let same = c.shape-shape.ensures
    ∙ sym (same_setup c.args.seated.now c.loop-row.seated c.loop-row.invariant.same_table) in
    let pages = c.ring_pages.ensures.pages in
    let buffer = c.buffer_at.ensures.value in
    let here : ends_number + c.ring_pages.result + c.buffer_at.result * 1024
    ≡ ring_number c.shape-shape.result.now (buffer_of c.shape-shape.result.now c.args.at * 1024) =
    ap (λ (k : ℕ). ends_number + k + c.buffer_at.result * 1024) pages
    ∙ ap (λ (k : ℕ). ring_number c.shape-shape.result.now (k * 1024)) buffer in
    here ∙ ap (λ (s : Setup). ring_number s (buffer_of s c.args.at * 1024)) same

pub zero_row-requires-clause-within : goal.zero_row-requires-clause-within
zero_row-requires-clause-within g c =
    let less = c.loop-row-test.true in omega (arith, less)

pub zero_row-requires-clause-cleared : goal.zero_row-requires-clause-cleared
zero_row-requires-clause-cleared g c =
    ap (λ (w : View). (w.mapping).stage) (view_is _ _ _ c.loop-row.invariant)

pub loop-row-preserved : goal.loop-row-preserved
loop-row-preserved g c =
    let same : 8 * c.loop-row.row + 8 ≡ 8 * (c.loop-row.row + 1) = omega arith in
    zeroed_as c.args.seated.now c.zero_row.new.seated c.args.at _ _ same
    (zeroed_on c.args.seated.now c.loop-row.seated c.args.at (8 * c.loop-row.row) _
    c.zero_row.new.seated c.loop-row.invariant c.zero_row.ensures.view)

pub returns : goal.returns
returns g c =
    let ended = c.loop-row-test.false in
    let most = c.loop-row.auto.row-end in
    let all : 8 * c.loop-row.row ≡ 1024 = omega (arith, ended, most) in
    record {
      view = zeroed_as c.args.seated.now c.loop-row.seated c.args.at _ _ all
          c.loop-row.invariant;
    }
