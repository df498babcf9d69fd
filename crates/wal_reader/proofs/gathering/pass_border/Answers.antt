use Rattle.std.proofs.Common.{◌≡◌, ℕ, ◌+◌, ◌^◌, ◌<◌, Result, Ok, Err, arith}
use Rattle.std.specs.Prelude.{IfOk, OnOk}
use Rattle.wal_reader.specs.declared.read_failure.ReadFailure.{ReadFailure}
use Rattle.std.proofs.lemmas.Result.{IfOk-weaker}
use Rattle.wal_page.specs.Page.{header_size}
use Rattle.wal_reader.specs.declared.page_cursor.PageCursor.{PageCursor}
use Rattle.wal_reader.specs.PageCursor.{IsOn, StandsIn}
use Rattle.wal_reader.proofs.CacheLaws.{held_page}
use Rattle.byte_position.proofs.HeaderSizes.{header_size_bounds}
use Rattle.wal_reader.proofs.GatherLaws.{page_turned, stands_next}
use Rattle.wal_reader.proofs.gathering.pass_border.Goals as goal

pub turn_page-requires : goal.turn_page-requires
turn_page-requires g c = c.requires.stands.reach

pub returns-clause-cursor : goal.returns-clause-cursor
returns-clause-cursor g c =
    let stands = c.requires.stands in
    let size = c.args.cache.now.geometry in
    let position = c.args.extent.at.position + c.args.gathered in
    let full : c.args.cursor.offset ≡ 8192 = omega (arith, stands.high) in
    let said : PageCursor → Type 0 = λ next. (next.page ≡ c.args.cursor.page + 1) × (next.offset ≡ header_size size (c.args.cursor.page + 1)) × (next.page < 2 ^ 47) × IsOn c.turn_page.new.cache next in
    let wanted : PageCursor → Type 0 = λ next. IsOn c.turn_page.new.cache next × StandsIn size position next × (next.offset < 8192) in
    IfOk-weaker c.turn_page.result said wanted (λ next h. (h.3, stands_next size position c.args.cursor stands next full h.0 h.1 h.2, omega (arith, h.1, header_size_bounds size stands.valid (c.args.cursor.page + 1)))) c.turn_page.ensures.next

pub returns-clause-checks : goal.returns-clause-checks
returns-clause-checks g c = λ pages sees.
    let size = c.args.cache.now.geometry in
    let cursor = c.args.cursor in
    let stands = c.requires.stands in
    let full : cursor.offset ≡ 8192 = omega (arith, stands.high) in
    let here = held_page (g.D.Disk.tape c.args.disk.now) c.args.cache.now pages cursor.page sees c.requires.on.0 in
    let said : PageCursor → Type 0 = λ next. (next.page ≡ cursor.page + 1) × (next.offset ≡ header_size size (cursor.page + 1)) × (next.page < 2 ^ 47) × IsOn c.turn_page.new.cache next in
    let same = IfOk-weaker c.turn_page.result said (λ next. next.page ≡ cursor.page + 1) (λ next h. h.0) c.turn_page.ensures.next in
    let checks = c.turn_page.ensures.checks pages sees in
    page_turned size pages c.args.extent.at c.args.extent.total c.args.gathered cursor _ stands full here c.requires.on.1 c.turn_page.result same (rw c.start-start.ensures at checks)

-- it goes on to no page that is not read
none_there : (said : Result PageCursor ReadFailure) (page : ℕ) → OnOk said ⊥ → IfOk said (λ now. now.page ≡ page)
none_there (Ok now) page never = absurd never
none_there (Err failure) page never = tt

pub returns-clause-beyond : goal.returns-clause-beyond
returns-clause-beyond g c = λ far.
    let turned = c.turn_page.ensures.beyond far in
    (turned.0, turned.1, none_there c.turn_page.result c.args.cursor.page turned.2)
