use Rattle.std.proofs.Common.{◌≡◌, ℕ, ◌+◌, ◌*◌, ◌<◌, ◌≤◌, refl, ap, arith, rules}
use Rattle.byte_position.specs.Geometry.{IsSegmentSize}
use Rattle.byte_position.specs.Position.{position_of}
use Rattle.byte_position.proofs.Segments.{first_position-usable}
use Rattle.format_tests.proofs.placing.header_words_are_those_of_the_owner.Goals as goal

valid : IsSegmentSize 1048576
valid = refl

-- the position of the first page
first_page : position_of 1048576 1048576 ≡ 1045488
first_page = first_position-usable 1048576 valid

owned : (size address position start room : ℕ) → size ≡ 1048576 → position_of 1048576 address ≡ position → start ≡ 1045488 → 1045488 ≤ position → position < 1045488 + room → (start ≤ position_of size address) × (position_of size address < start + room)
owned size address position start room e there at low high =
    let here : position_of size address ≡ position = rw e there in
    (omega (arith, at, here, low), omega (arith, at, here, high))

pub header_word-requires-clause-owner : goal.header_word-requires-clause-owner
header_word-requires-clause-owner g c = owned _ 1048576 1045488 _ _ (search rules) first_page c.placed-owner.ensures (omega arith) (omega arith)
