use Rattle.std.proofs.Common.{◌≡◌, ◌-◌, ℕ, sym, subst, arith}
use Rattle.wal_page.specs.Placed.{LieTogether}
use Rattle.word_ring.specs.CopyRuns.{MayCopy, MayStoreRun}
use Rattle.word_ring.proofs.CopyLaws.{copied_nothing, fewer_may, has_copied, run_may}
use Rattle.word_ring.proofs.copying.copy_header.Goals as goal

pub take_header-requires-clause-owned : goal.take_header-requires-clause-owned
take_header-requires-clause-owned g c = c.requires.may.left

pub store_some-requires-clause-run : goal.store_some-requires-clause-run
store_some-requires-clause-run g c =
    let p = c.args.seated.now in
    let a = c.args.placed.now in
    let three = c.in-Some.ensures.words.0 in
    subst (λ (k : ℕ). MayStoreRun c.args.place c.in-Some.header 0 k p) three
    (run_may c.args.place c.in-Some.header p a
    (subst (λ (k : ℕ). MayCopy k c.args.place p a) (sym three)
    (fewer_may c.args.count 3 c.args.place p a c.requires.may c.in-Some.ensures.within))
    (λ n below. c.in-Some.ensures.words.1 n (omega (arith, three, below))))

pub returns-in-Some-clause-copied : goal.returns-in-Some-clause-copied
returns-in-Some-clause-copied g c =
    has_copied 3 c.args.seated.now c.store_some.new.seated c.args.placed.now _
    c.requires.may.rest c.store_some.ensures c.in-Some.ensures.placed

pub returns-in-None-clause-copied : goal.returns-in-None-clause-copied
returns-in-None-clause-copied g c =
    copied_nothing c.args.seated.now c.args.placed.now _ c.requires.may.rest
    c.in-None.ensures.none

pub returns-in-None-clause-together : goal.returns-in-None-clause-together
returns-in-None-clause-together g c = λ less.
    let all : c.args.count ≡ c.args.count - 0 = omega arith in
    subst (λ (k : ℕ). LieTogether c.take_header.new.self k) all
    (subst (λ (s : _). LieTogether s c.args.count) (sym c.in-None.ensures.none)
    c.requires.together)
