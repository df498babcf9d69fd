-- Each read gives more of the frame, or no more comes.
use Rattle.std.proofs.Common.{◌≡◌, ℕ, ◌-◌, ◌<◌, ◌≤◌, ◌++◌, length, take, subst, arith}
use Rattle.std.proofs.lemmas.List.{length-take-le, take_all}
use Rattle.segment_disk.specs.Stream.{Takes, ends_after}
use borrow.Rule.Slice.PartMut.{mid_of, post_of}
use Rattle.wal_stream.specs.Fetched.{Gives, source_state}
use Rattle.wal_stream.proofs.FetchLaws.{fetched_end, fetched_fault, fetched_more, fetched_none, room_left, room_more}
use Rattle.wal_stream.proofs.fetching.fetch.Goals as goal

pub loop-have-init : goal.loop-have-init
loop-have-init g c = (fetched_none (source_state g.S.Source.left g.S.Source.handed g.S.Source.ends_told g.S.Source.faults c.args.source.now), omega arith)

pub loop-have-preserved : goal.loop-have-preserved
loop-have-preserved g c =
    let view = source_state g.S.Source.left g.S.Source.handed g.S.Source.ends_told g.S.Source.faults in
    let have = c.loop-have.have in
    let frame = c.loop-have.frame in
    let into = c.read.new.into in
    let rest = length frame - have in
    let fits : c.in-Ok.count ≤ length into = omega (arith, c.in-Ok.ensures.within, c.read.auto.into) in (
      fetched_more (view c.args.source.now) (view c.loop-have.source) (view c.read.new.self) have c.in-Ok.count (length (mid_of have rest frame)) frame into (post_of have rest frame)
          c.loop-have.invariant.1 fits c.loop-have.invariant.0 c.in-Ok.ensures.handed c.in-Ok.ensures.ends_told c.in-Ok.ensures.taken c.in-Ok.ensures.cause c.in-Ok.count-test.1,
      room_more have c.in-Ok.count frame into (post_of have rest frame) c.loop-have.invariant.1 fits,
    )

pub returns-in-Ok-eq0 : goal.returns-in-Ok-eq0
returns-in-Ok-eq0 g c =
    let view = source_state g.S.Source.left g.S.Source.handed g.S.Source.ends_told g.S.Source.faults in
    let have = c.loop-have.have in
    let frame = c.loop-have.frame in
    let room = length (mid_of have (length frame - have) frame) in
    let short : length (take have frame) < 8224 = omega (arith, length-take-le have frame c.loop-have.invariant.1, c.loop-have.auto.frame, c.requires) in
    let some : 0 < room = room_left have frame c.loop-have-test.true in
    let is = c.in-Ok-eq0.field-0-test in
    let taken = subst (λ (n : ℕ). Takes (g.S.Source.left c.loop-have.source) (g.S.Source.left c.read.new.self) n c.read.new.into) is c.in-Ok-eq0.ensures.taken in
    let handed = subst (λ (n : ℕ). g.S.Source.handed c.read.new.self ≡ g.S.Source.handed c.loop-have.source ++ take n c.read.new.into) is c.in-Ok-eq0.ensures.handed in
    let counted = subst (λ (n : ℕ). g.S.Source.ends_told c.read.new.self ≡ ends_after (g.S.Source.ends_told c.loop-have.source) room n) is c.in-Ok-eq0.ensures.ends_told in
    fetched_end (view c.args.source.now) (view c.loop-have.source) (view c.read.new.self) room (take have frame) c.read.new.into c.loop-have.invariant.0 short some handed counted taken (c.in-Ok-eq0.ensures.end is some) c.in-Ok-eq0.ensures.cause

pub returns-in-Err : goal.returns-in-Err
returns-in-Err g c =
    let view = source_state g.S.Source.left g.S.Source.handed g.S.Source.ends_told g.S.Source.faults in
    let have = c.loop-have.have in
    let frame = c.loop-have.frame in
    let short : length (take have frame) < 8224 = omega (arith, length-take-le have frame c.loop-have.invariant.1, c.loop-have.auto.frame, c.requires) in
    fetched_fault (view c.args.source.now) (view c.loop-have.source) (view c.read.new.self) (take have frame) c.loop-have.invariant.0 short c.in-Err.ensures.none_handed c.in-Err.ensures.no_end_told c.in-Err.ensures.failed c.in-Err.ensures.cause

pub returns : goal.returns
returns g c =
    let view = source_state g.S.Source.left g.S.Source.handed g.S.Source.ends_told g.S.Source.faults in
    let whole = take_all c.loop-have.have c.loop-have.frame c.loop-have-test.false in
    (subst (Gives (view c.args.source.now) (view c.loop-have.source)) whole c.loop-have.invariant.0.gives, c.loop-have.invariant.0.quiet)
