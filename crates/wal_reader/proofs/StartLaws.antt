-- Where a record starts, and where it ends on the page that it starts on.
use Rattle.std.proofs.Common.{◌≡◌, ℕ, ◌+◌, ◌-◌, ◌*◌, ◌/◌, ◌%◌, ◌<◌, ◌≤◌, ap, arith}
use Rattle.byte_position.specs.Geometry.{IsSegmentSize}
use Rattle.byte_position.specs.Position.{position_of, address_of, end_address_of}
use Rattle.byte_position.proofs.EndAddresses.{end_address_of-page}
use Rattle.byte_position.proofs.Pages.{header_below_position, position_by_page}
use Rattle.wal_page.specs.Page.{header_size}
use Rattle.wal_reader.specs.declared.page_cursor.PageCursor.{PageCursor}
use Rattle.wal_reader.specs.PageCursor.{HasGathered}
use Rattle.wal_reader.proofs.GatherLaws.{address_from}

-- the address of the byte at a cursor, before any byte is gathered
pub address_at_cursor : (size position : ℕ) (cursor : PageCursor) → HasGathered size position 0 cursor → cursor.offset < 8192 → 8192 * cursor.page + cursor.offset ≡ address_of size position
address_at_cursor size position cursor gathered within =
    let none : position + 0 + 0 ≡ position = omega arith in
    let here = address_from size (position + 0) cursor gathered.stands 0 (omega arith) in
    omega (arith, here, ap (address_of size) none)

-- a byte position further on, up to the page's end, has its end form as far further on
pub end_on_page : (size position next : ℕ) → IsSegmentSize size → position < next → next - position ≤ 8192 - address_of size position % 8192 → address_of size position + (next - position) ≡ end_address_of size next
end_on_page size position next valid further within =
    let a = address_of size position in
    let h = header_size size (a / 8192) in
    let low = header_below_position size valid position in
    let by_page = position_by_page size valid position in
    let k = a % 8192 - h + (next - position) in
    let here : position_of size (8192 * (a / 8192)) + k ≡ next = omega arith in
    let some : 0 < k = omega arith in
    let inside : k ≤ 8192 - h = omega arith in
    let ends = end_address_of-page size valid (a / 8192) k some inside in
    let same : a + (next - position) ≡ 8192 * (a / 8192) + h + k = omega arith in
    omega (arith, ends, same, ap (end_address_of size) here)
