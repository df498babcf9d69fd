-- The laws of each page once more, with a page's start written `page * 8192`, for the proofs of the crates above.
use Rattle.std.proofs.Common.{◌≡◌, ℕ, ◌+◌, ◌-◌, ◌*◌, ◌<◌, ◌≤◌, true, false}
use Rattle.std.proofs.Math.Nat.{mul_comm}
use Rattle.byte_position.specs.Geometry.{IsSegmentSize}
use Rattle.byte_position.specs.Position.{header_size, is_in_header, position_of, address_of, end_address_of}
use Rattle.byte_position.proofs.Pages.{is_in_header-page_header, is_in_header-page_rest, position_of-page_header, position_of-page_rest, position_of-next_page, address_of-page, address_of-page_start}
use Rattle.byte_position.proofs.EndAddresses.{end_address_of-page, end_address_of-page_start}

module _ (size : ℕ) (valid : IsSegmentSize size) where
  pub is_in_header-page_header_times : (page k : ℕ) → k < header_size size page → is_in_header size (page * 8192 + k) ≡ true
  is_in_header-page_header_times page k b =
      rw (mul_comm page 8192) (is_in_header-page_header size valid page k b)

  pub is_in_header-page_rest_times : (page k : ℕ) → header_size size page ≤ k → k < 8192 → is_in_header size (page * 8192 + k) ≡ false
  is_in_header-page_rest_times page k h b =
      rw (mul_comm page 8192) (is_in_header-page_rest size valid page k h b)

  pub position_of-page_header_times : (page k : ℕ) → k ≤ header_size size page → position_of size (page * 8192 + k) ≡ position_of size (page * 8192)
  position_of-page_header_times page k b =
      rw (mul_comm page 8192) (position_of-page_header size valid page k b)

  pub position_of-page_rest_times : (page k : ℕ) → k ≤ 8192 - header_size size page → position_of size (page * 8192 + header_size size page + k) ≡ position_of size (page * 8192) + k
  position_of-page_rest_times page k b =
      rw (mul_comm page 8192) (position_of-page_rest size valid page k b)

  pub position_of-next_page_times : (page : ℕ) → position_of size ((page + 1) * 8192) ≡ position_of size (page * 8192) + (8192 - header_size size page)
  position_of-next_page_times page =
      rw (mul_comm page 8192, mul_comm (page + 1) 8192) (position_of-next_page size valid page)

  pub address_of-page_times : (page k : ℕ) → k < 8192 - header_size size page → address_of size (position_of size (page * 8192) + k) ≡ page * 8192 + header_size size page + k
  address_of-page_times page k b = rw (mul_comm page 8192) (address_of-page size valid page k b)

  pub address_of-page_start_times : (page : ℕ) → address_of size (position_of size (page * 8192)) ≡ page * 8192 + header_size size page
  address_of-page_start_times page =
      rw (mul_comm page 8192) (address_of-page_start size valid page)

  pub end_address_of-page_times : (page k : ℕ) → 0 < k → k ≤ 8192 - header_size size page → end_address_of size (position_of size (page * 8192) + k) ≡ page * 8192 + header_size size page + k
  end_address_of-page_times page k h b =
      rw (mul_comm page 8192) (end_address_of-page size valid page k h b)

  pub end_address_of-page_start_times : (page : ℕ) → end_address_of size (position_of size (page * 8192)) ≡ page * 8192
  end_address_of-page_start_times page =
      rw (mul_comm page 8192) (end_address_of-page_start size valid page)
