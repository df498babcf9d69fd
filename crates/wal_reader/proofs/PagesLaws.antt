-- Laws of the bytes and the pages that a record is read from.
use Rattle.std.proofs.Common.{◌≡◌, ℕ, zero, suc, ◌+◌, ◌-◌, ◌%◌, ◌<◌, ◌≤◌, [], ◌∷◌, All, ltb, inl, inr, length, take, refl, sym, ap, ◌∙◌, arith}
use Rattle.std.proofs.lemmas.Bool.{cases_lt, cond-true, cond-false, lt-ltb, le-ltb}
use Rattle.std.proofs.lemmas.List.Elements.{All-cons, All-nil}
use Rattle.std.proofs.Math.Nat.{mod-eq_of_lt}
use Rattle.byte_position.specs.Geometry.{IsSegmentSize}
use Rattle.byte_position.specs.Position.{position_of, address_of, end_address_of, first_position}
use Rattle.byte_position.proofs.SegmentSizes.{segment_size_in_pages}
use Rattle.byte_position.proofs.Headers.{in_none}
use Rattle.byte_position.proofs.PositionLaws.{end_address_of-next, position_of-outside, address_of-position_of}
use Rattle.wal_reader.specs.declared.record_place.RecordPlace.{RecordPlace}
use Rattle.wal_reader.specs.Pages.{Pages, as_byte, byte_at, bytes_from}
use Rattle.wal_reader.specs.Decodes.{rows_of_pages}

-- no page is needed behind the one in which the bytes end
pub rows_of_pages-none : (size : ℕ) (pages : Pages) (place : RecordPlace) (total page : ℕ) → rows_of_pages size pages place total page page ≡ []
rows_of_pages-none size pages place total page =
    let none : page - page ≡ 0 = omega arith in
    rw none refl

-- the front of bytes from a byte position on
pub take-bytes_from : (size : ℕ) (pages : Pages) (m n position : ℕ) → m ≤ n → take m (bytes_from size pages n position) ≡ bytes_from size pages m position
unfolding bytes_from
take-bytes_from size pages zero n position within = refl
take-bytes_from size pages (suc m) zero position within = absurd (omega arith)
take-bytes_from size pages (suc m) (suc n) position within =
    ap (λ bs. as_byte (byte_at pages (address_of size position)) ∷ bs) (take-bytes_from size pages m n (position + 1) (omega arith))

-- ---- bytes

pub as_byte-fits : (number : ℕ) → as_byte number < 256
unfolding as_byte
as_byte-fits number =
    elim (cases_lt number 256) [
      | inl below ↦ rw (cond-true (ltb number 256) number 0 (lt-ltb number 256 below)) below
      | inr above ↦ rw (cond-false (ltb number 256) number 0 (le-ltb number 256 above)) (omega arith)
    ]

-- a byte is the byte that it is
pub as_byte-of : (number : ℕ) → number < 256 → as_byte number ≡ number
unfolding as_byte
as_byte-of number below = cond-true (ltb number 256) number 0 (lt-ltb number 256 below)

pub bytes_from-fits : (size : ℕ) (pages : Pages) (n position : ℕ) → All (λ b. b < 256) (bytes_from size pages n position)
unfolding bytes_from
bytes_from-fits size pages zero position = All-nil (λ b. b < 256)
bytes_from-fits size pages (suc n) position =
    All-cons (λ b. b < 256) (as_byte (byte_at pages (address_of size position))) (bytes_from size pages n (position + 1)) (as_byte-fits (byte_at pages (address_of size position))) (bytes_from-fits size pages n (position + 1))

pub length-bytes_from : (size : ℕ) (pages : Pages) (n position : ℕ) → length (bytes_from size pages n position) ≡ n
unfolding bytes_from
length-bytes_from size pages zero position = refl
length-bytes_from size pages (suc n) position = omega (arith, length-bytes_from size pages n (position + 1))

-- where nothing was written, the log ends at the page's start
pub end_address_of-first_position : (size : ℕ) → IsSegmentSize size → end_address_of size (first_position size) ≡ size
end_address_of-first_position size valid =
    let whole = segment_size_in_pages size valid in
    let last = size - 1 in
    let e : size ≡ last + 1 = omega (arith, whole.0, whole.1) in
    let in_segment : last % size ≡ last = mod-eq_of_lt (omega (arith, whole.0, whole.1)) in
    let outside = in_none size valid last (omega (arith, whole.0, whole.1)) (omega (arith, whole.0, whole.1)) in
    let position = ap (position_of size) e ∙ position_of-outside size last outside in
    ap (end_address_of size) position ∙ end_address_of-next size (position_of size last) ∙ ap (λ (a : ℕ). a + 1) (address_of-position_of size valid last outside) ∙ sym e
