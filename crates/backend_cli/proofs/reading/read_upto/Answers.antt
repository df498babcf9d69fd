use Rattle.std.proofs.Common.{◌≡◌, ◌<◌, ◌≤◌, ◌+◌, ◌++◌, List, ℕ, length, take, drop, ap, subst, ◌∙◌, arith}
use Rattle.segment_disk.specs.Stream.{Takes, ends_after}
use Rattle.std.proofs.lemmas.List.{length-take-le, take-append-le}
use Rattle.backend_cli.specs.Outside.{source_view}
use Rattle.backend_cli.proofs.ReadLaws.{HasRead-none, HasRead-more, HasRead-end, HasRead-full, ends_rise, ends_stay}
use Rattle.backend_cli.proofs.reading.read_upto.Goals as goal

pub loop-bytes-init : goal.loop-bytes-init
loop-bytes-init g c = rw c.new-bytes.ensures.items (HasRead-none _ (source_view g.S.Source.left g.S.Source.handed g.S.Source.ends_told g.S.Source.faults c.args.source.now))

pub returns-in-Ok-eq0 : goal.returns-in-Ok-eq0
returns-in-Ok-eq0 g c =
    let view = source_view g.S.Source.left g.S.Source.handed g.S.Source.ends_told g.S.Source.faults in
    let within : c.min-wanted.result ≤ length c.loop-bytes.piece = omega arith in
    let some : 0 < length (take c.min-wanted.result c.loop-bytes.piece) = omega (arith, length-take-le c.min-wanted.result c.loop-bytes.piece within) in
    let none_taken = subst (λ (n : ℕ). Takes (g.S.Source.left c.loop-bytes.source) (g.S.Source.left c.read.new.self) n c.read.new.into) c.in-Ok-eq0.field-0-test c.in-Ok-eq0.ensures.taken in
    let none_handed = subst (λ (n : ℕ). g.S.Source.handed c.read.new.self ≡ g.S.Source.handed c.loop-bytes.source ++ take n c.read.new.into) c.in-Ok-eq0.field-0-test c.in-Ok-eq0.ensures.handed in
    let counted = subst (λ (n : ℕ). g.S.Source.ends_told c.read.new.self ≡ ends_after (g.S.Source.ends_told c.loop-bytes.source) (length (take c.min-wanted.result c.loop-bytes.piece)) n) c.in-Ok-eq0.field-0-test c.in-Ok-eq0.ensures.ends_told in
    let told : g.S.Source.ends_told c.loop-bytes.source < g.S.Source.ends_told c.read.new.self = rw counted (ends_rise _ _ some) in
    HasRead-end _ (view c.args.source.now) (view c.loop-bytes.source) (view c.read.new.self) _ c.read.new.into c.loop-bytes.invariant (c.in-Ok-eq0.ensures.end c.in-Ok-eq0.field-0-test some) none_handed told none_taken c.in-Ok-eq0.ensures.cause

pub loop-bytes-preserved : goal.loop-bytes-preserved
loop-bytes-preserved g c =
    let view = source_view g.S.Source.left g.S.Source.handed g.S.Source.ends_told g.S.Source.faults in
    let wanted : c.min-wanted.result ≤ length c.loop-bytes.piece = omega arith in
    let room = length-take-le c.min-wanted.result c.loop-bytes.piece wanted in
    let whole : c.in-Ok.count ≤ length c.read.new.into = omega (arith, room, c.in-Ok.ensures.within) in
    let fits : length c.loop-bytes.bytes.items + c.in-Ok.count ≤ c.args.most = omega (arith, room, c.in-Ok.ensures.within) in
    let items = c.in_ok-extend_from_slice-in-Ok.ensures.items ∙ ap (λ (front : List ℕ). c.loop-bytes.bytes.items ++ front) (take-append-le c.in-Ok.count c.read.new.into (drop c.min-wanted.result c.loop-bytes.piece) whole) in
    let stays : g.S.Source.ends_told c.loop-bytes.source ≤ g.S.Source.ends_told c.read.new.self = rw c.in-Ok.ensures.ends_told (ends_stay (g.S.Source.ends_told c.loop-bytes.source) (length (take c.min-wanted.result c.loop-bytes.piece)) c.in-Ok.count) in
    rw items (HasRead-more _ (view c.args.source.now) (view c.loop-bytes.source) (view c.read.new.self) _ _ _ c.loop-bytes.invariant c.in-Ok.ensures.handed stays c.in-Ok.ensures.taken c.in-Ok.ensures.cause whole fits)

pub returns-in-Err : goal.returns-in-Err
returns-in-Err g c = rw c.loop-bytes.invariant.faults_same at c.in-Err.ensures.cause

pub returns : goal.returns
returns g c =
    let view = source_view g.S.Source.left g.S.Source.handed g.S.Source.ends_told g.S.Source.faults in
    HasRead-full _ (view c.args.source.now) (view c.loop-bytes.source) _ c.loop-bytes.invariant (omega arith)
