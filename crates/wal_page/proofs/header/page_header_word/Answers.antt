use Rattle.std.proofs.Common.{◌≡◌, ◌+◌, ◌*◌, ◌%◌, ◌∙◌, cond, ltb, ap, arith}
use Rattle.byte_position.proofs.SegmentSizes.{segment_size_tests}
use Rattle.wal_page.specs.Page.{is_first_page}
use Rattle.wal_page.proofs.HeaderWords.{first_word, flags-fit, address_word, last_word}
use Rattle.wal_page.proofs.header.page_header_word.Goals as goal

pub returns-in-0 : goal.returns-in-0
returns-in-0 c =
    let a = c.args in
    let fit = flags-fit a.geometry a.page a.remaining in
    let sum : c.from.result + c.from-in-0.result * 65536 % 18446744073709551616 + c.from-in-0-2.result * 4294967296 % 18446744073709551616
    ≡ 53523 + (cond (ltb 0 a.remaining) 1 0 + cond (is_first_page a.geometry a.page) 2 0 + 4) * 65536 + 4294967296 = omega (arith, c.from.ensures, c.from-in-0.ensures, c.from-in-0-2.ensures, c.info.ensures, fit) in
    sum ∙ first_word a.geometry a.sysid a.page a.remaining a.n c.in-0.is

pub returns-in-1 : goal.returns-in-1
returns-in-1 c = address_word c.args.geometry c.args.sysid c.args.page c.args.remaining c.args.n c.in-1.is c.requires.address

pub returns-in_default : goal.returns-in_default
returns-in_default c =
    let a = c.args in
    let size = c.segment_size.ensures.value in
    let bound = (segment_size_tests c.segment_size.result c.segment_size.ensures.valid).2 in
    ap (λ n. n + 35184372088832) size ∙ last_word a.geometry a.sysid a.page a.remaining a.n (omega arith) c.requires.within (omega (arith, bound, size))
