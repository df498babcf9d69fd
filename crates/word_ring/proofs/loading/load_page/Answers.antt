use Rattle.std.proofs.Common.{◌≡◌, ℕ, ◌+◌, ◌*◌, refl, sym, ap, ◌∙◌, subst, arith}
use Rattle.machine_state.specs.Views.{Plain}
use Rattle.wal_rule.specs.SeatedPasses.{setup_of, view_of}
use Rattle.word_ring.specs.Loaded.{IsFrontLoaded, staged_in}
use Rattle.word_ring.proofs.HandLaws.{same_setup}
use Rattle.word_ring.proofs.PageLaws.{none_loaded, place_again, rows_on, same_known, same_table, same_writer}
use Rattle.word_ring.proofs.loading.load_page.Goals as goal

pub loop-row-init : goal.loop-row-init
loop-row-init g c = (
  none_loaded g.D.Disk.tape g.D.Disk.moment g.D.Disk.faults c.args.seated.now c.requires.hand,
  λ m less. absurd (omega (arith, less)),
)

pub load_row-requires-clause-hand : goal.load_row-requires-clause-hand
load_row-requires-clause-hand g c = c.loop-row.invariant.0.hand

pub load_row-requires-clause-table : goal.load_row-requires-clause-table
load_row-requires-clause-table g c =
    same_table c.args.seated.now c.loop-row.seated c.loop-row.invariant.0.view.same_table

pub load_row-requires-clause-unwritten : goal.load_row-requires-clause-unwritten
load_row-requires-clause-unwritten g c =
    let written = ap (λ (w : Plain). w.written)
    (same_writer c.args.seated.now c.loop-row.seated _ c.loop-row.invariant.0.view) in
    let unwritten = c.requires.unwritten in
    omega (arith, written, unwritten)

pub load_row-requires-clause-copied : goal.load_row-requires-clause-copied
load_row-requires-clause-copied g c =
    let known = same_known c.args.seated.now c.loop-row.seated _ c.loop-row.invariant.0.view in
    let copied = c.requires.copied in
    omega (arith, known, copied)

pub load_row-requires-clause-places : goal.load_row-requires-clause-places
load_row-requires-clause-places g c = λ n less.
    let a = c.args.seated.now in
    let b = c.loop-row.seated in
    place_again _ (setup_of b)
    (c.shape.ensures ∙ sym (same_setup a b c.loop-row.invariant.0.view.same_table)) c.args.page
    (c.args.page * 1024) refl n _ (c.place_of_page-place.ensures.places n less)

pub load_row-requires-clause-within : goal.load_row-requires-clause-within
load_row-requires-clause-within g c =
    let less = c.loop-row-test.true in omega (arith, less)

pub load_row-requires-clause-front : goal.load_row-requires-clause-front
load_row-requires-clause-front g c = c.loop-row.invariant.1

pub loop-row-preserved : goal.loop-row-preserved
loop-row-preserved g c =
    let more : 8 * c.loop-row.row + 8 ≡ 8 * (c.loop-row.row + 1) = omega arith in (
      rows_on g.D.Disk.tape g.D.Disk.moment g.D.Disk.faults c.args.seated.now c.loop-row.seated
          c.load_row.new.seated c.loop-row.invariant.0 c.load_row.ensures.loads,
      subst (λ (k : ℕ). IsFrontLoaded k c.args.page c.load_row.new.bytes
          (staged_in (view_of c.load_row.new.seated))) more c.load_row.ensures.front,
    )

pub returns : goal.returns
returns g c = record {
  loads = (
    staged_in (view_of c.loop-row.seated),
    c.loop-row.invariant.0,
    λ m less. (let ended = c.loop-row-test.false in
        c.loop-row.invariant.1 m (omega (arith, less, ended))),
  );
}
