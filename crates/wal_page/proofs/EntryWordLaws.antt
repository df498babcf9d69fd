-- The words of an entry by number.
use Rattle.std.proofs.Common.{◌≡◌, ℕ, ◌+◌, ◌-◌, ◌/◌, ◌%◌, ◌<◌, arith}
use Rattle.byte_position.specs.Geometry.{IsSegmentSize}
use Rattle.byte_position.specs.Position.{end_address_of}
use Rattle.byte_position.proofs.Words.{end_address_of-mod_word}
use Rattle.wal_spelling.specs.Spelling.{assembled}
use Rattle.wal_page.specs.Order.{Entry, assembled_room_at}
use Rattle.wal_page.specs.EntryWords.{words_owned, address_of_word}
use Rattle.wal_page.specs.Placed.{Owns}
use Rattle.wal_page.proofs.OwnerLaws.{Owns-between, Owns-from_between}
use Rattle.wal_page.proofs.PaddingLaws.{room_at-whole}

module _ (size : ℕ) (valid : IsSegmentSize size) (e : Entry) (whole : e.start % 8 ≡ 0) where
  first-whole : end_address_of size e.start % 8 ≡ 0
  first-whole = end_address_of-mod_word size valid e.start whole

  end-whole : end_address_of size (e.start + assembled_room_at size e.start (assembled e.value)) % 8 ≡ 0
  end-whole = end_address_of-mod_word size valid (e.start + assembled_room_at size e.start (assembled e.value)) (omega (arith, whole, room_at-whole size valid e.start e.value whole))

  pub numbered_word-owned : (k : ℕ) → k < words_owned size e → Owns size (assembled e.value) e.start (address_of_word size e k)
  numbered_word-owned k lt = Owns-from_between size valid (assembled e.value) e.start (address_of_word size e k) (omega arith) (omega (arith, first-whole, end-whole))

  pub owned_word-numbered : (address : ℕ) → address % 8 ≡ 0 → Owns size (assembled e.value) e.start address → (k : ℕ) × (k < words_owned size e) × (address ≡ address_of_word size e k)
  owned_word-numbered address at_word owns =
      let between = Owns-between size valid (assembled e.value) e.start address owns in
      ((address - end_address_of size e.start) / 8, omega (arith, between.0, between.1, first-whole, end-whole), omega (arith, between.0, first-whole))
