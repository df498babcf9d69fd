use Rattle.std.proofs.Common.{◌≡◌, ◌<◌, ℕ, ◌+◌, sym, ap, ◌∙◌, subst, arith}
use Rattle.wal_rule.specs.SeatedPasses.{setup_of, view_of}
use Rattle.word_ring.specs.Loaded.{IsFrontLoaded, staged_in}
use Rattle.word_ring.proofs.HandLaws.{same_setup}
use Rattle.word_ring.proofs.PageLaws.{front_on, loads_on, none_loaded, place_again, same_table, still_next}
use Rattle.word_ring.proofs.loading.load_row.Goals as goal

pub loop-n-init : goal.loop-n-init
loop-n-init g c =
    let same : c.args.done ≡ c.args.done + 0 = omega arith in (
      none_loaded g.D.Disk.tape g.D.Disk.moment g.D.Disk.faults c.args.seated.now
          c.requires.hand,
      subst (λ (k : ℕ). IsFrontLoaded k c.args.page c.args.bytes.now
          (staged_in (view_of c.args.seated.now))) same c.requires.front,
    )

pub load_word-word-requires-clause-hand : goal.load_word-word-requires-clause-hand
load_word-word-requires-clause-hand g c = c.loop-n.invariant.0.hand

pub load_word-word-requires-clause-table : goal.load_word-word-requires-clause-table
load_word-word-requires-clause-table g c = c.requires.table
    ∙ same_table c.args.seated.now c.loop-n.seated c.loop-n.invariant.0.view.same_table

pub load_word-word-requires-clause-next : goal.load_word-word-requires-clause-next
load_word-word-requires-clause-next g c =
    let within = c.requires.within in
    let less = c.loop-n-test.true in
    let on_page : c.args.done + c.loop-n.n < 1024 = omega (arith, within, less) in
    still_next c.args.seated.now c.loop-n.seated _ c.loop-n.invariant.0.view
    (c.args.done + c.loop-n.n) c.args.page _ on_page c.requires.first c.requires.unwritten
    c.requires.copied

pub load_word-word-requires-clause-place : goal.load_word-word-requires-clause-place
load_word-word-requires-clause-place g c =
    let a = c.args.seated.now in
    let b = c.loop-n.seated in
    let within = c.requires.within in
    let less = c.loop-n-test.true in
    let on_page : c.args.done + c.loop-n.n < 1024 = omega (arith, within, less) in
    place_again (setup_of a) (setup_of b)
    (sym (same_setup a b c.loop-n.invariant.0.view.same_table)) c.args.page c.args.first
    c.requires.first (c.args.done + c.loop-n.n) _
    (c.requires.places (c.args.done + c.loop-n.n) on_page)

pub loop-n-preserved : goal.loop-n-preserved
loop-n-preserved g c =
    let at = ap (λ (f : ℕ). f + (c.args.done + c.loop-n.n)) c.requires.first in
    let more : c.args.done + c.loop-n.n + 1 ≡ c.args.done + (c.loop-n.n + 1) = omega arith in (
      loads_on g.D.Disk.tape g.D.Disk.moment g.D.Disk.faults c.args.seated.now c.loop-n.seated
          c.load_word-word.new.seated (c.args.done + c.loop-n.n) c.args.page _
          c.load_word-word.result c.loop-n.bytes c.put_word.new.bytes c.loop-n.invariant.0 at
          c.load_word-word.ensures.loads,
      subst (λ (k : ℕ). IsFrontLoaded k c.args.page c.put_word.new.bytes
          (staged_in (view_of c.load_word-word.new.seated))) more
          (front_on g.D.Disk.tape g.D.Disk.moment g.D.Disk.faults c.args.seated.now
          c.loop-n.seated c.load_word-word.new.seated (c.args.done + c.loop-n.n) c.args.page _
          c.load_word-word.result c.loop-n.bytes c.put_word.new.bytes c.loop-n.invariant.0 at
          c.load_word-word.ensures.loads c.loop-n.invariant.1 c.put_word.ensures.own
          c.put_word.ensures.below),
    )

pub returns-clause-front : goal.returns-clause-front
returns-clause-front g c =
    let ended = c.loop-n-test.false in
    let most = c.loop-n.auto.n-end in
    let all : c.args.done + c.loop-n.n ≡ c.args.done + 8 = omega (arith, ended, most) in
    subst (λ (k : ℕ). IsFrontLoaded k c.args.page c.loop-n.bytes
    (staged_in (view_of c.loop-n.seated))) all c.loop-n.invariant.1
