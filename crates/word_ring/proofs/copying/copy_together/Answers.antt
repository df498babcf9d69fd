use Rattle.std.proofs.Common.{◌≡◌, ◌+◌, ◌-◌, arith}
use Rattle.word_ring.proofs.CopyLaws.{copied_as, copied_more, may_copy_on}
use Rattle.word_ring.proofs.copying.copy_together.Goals as goal

pub copy_bytes-requires-clause-may : goal.copy_bytes-requires-clause-may
copy_bytes-requires-clause-may g c =
    may_copy_on c.args.count c.args.place c.copy_header-done.result
    (c.args.count - c.copy_header-done.result) c.args.seated.now c.copy_header-done.new.seated
    c.args.placed.now c.copy_header-done.new.placed c.requires.may
    c.copy_header-done.ensures.copied c.if-done-count.true
    (omega (arith, c.copy_header-done.ensures.within))

pub copy_bytes-requires-clause-together : goal.copy_bytes-requires-clause-together
copy_bytes-requires-clause-together g c =
    c.copy_header-done.ensures.together c.if-done-count.true

pub returns-then-done-count : goal.returns-then-done-count
returns-then-done-count g c =
    let done = c.copy_header-done.result in
    let count = c.args.count in
    let all : done + (count - done) ≡ count = omega (arith, c.copy_header-done.ensures.within) in
    record {
      copied = copied_as (done + (count - done)) count c.args.seated.now c.copy_bytes.new.seated
          c.args.placed.now c.copy_bytes.new.placed all
          (copied_more done (count - done) c.args.seated.now c.copy_header-done.new.seated
          c.copy_bytes.new.seated c.args.placed.now c.copy_header-done.new.placed
          c.copy_bytes.new.placed c.requires.may.rest c.copy_header-done.ensures.copied
          c.copy_bytes.ensures.copied);
    }

pub returns-else-done-count : goal.returns-else-done-count
returns-else-done-count g c =
    let done = c.copy_header-done.result in
    let all : done ≡ c.args.count =
    omega (arith, c.copy_header-done.ensures.within, c.if-done-count.false) in
    record {
      copied = copied_as done c.args.count c.args.seated.now c.copy_header-done.new.seated
          c.args.placed.now c.copy_header-done.new.placed all c.copy_header-done.ensures.copied;
    }
