-- The bytes of a spelled record, and the fields of its header.
use Rattle.std.proofs.Common.{◌≡◌, ℕ, ◌-◌, ◌^◌, ◌<◌, false, List, ◌++◌, take, drop, ap, ◌∙◌, append_assoc, arith}
use Rattle.std.specs.Prelude.{replicate}
use Rattle.std.specs.Int.{w32, w64}
use Rattle.std.proofs.lemmas.Bool.{ne_eqb}
use Rattle.std.proofs.lemmas.List.{take_at}
use Rattle.std.proofs.lemmas.Nat.{from_le_bytes-to_le_bytes_4, from_le_bytes-to_le_bytes_8}
use Rattle.wal_crc32c.specs.Crc32c.{crc32c}
use Rattle.wal_spelling.specs.Spelling.{Assembled, assembled_size, assembled_room, spelled, filled, crc_of}
use Rattle.wal_spelling.specs.Numbers.{number_at}
use Rattle.wal_spelling.proofs.SpellingLaws.{length-spelled}
use Rattle.wal_reader.specs.Decodes.{is_zero_word}

-- the first bytes of what stands where a record does: its header
module _ (a : Assembled) (prev : ℕ) (rest : List ℕ) where
  pub size_in_word : assembled_size a < 2 ^ 32 → number_at w32 (take 8 (filled a prev ++ rest)) 0 ≡ assembled_size a
  size_in_word fits = from_le_bytes-to_le_bytes_4 (assembled_size a) fits

  pub size_in_header : assembled_size a < 2 ^ 32 → number_at w32 (take 24 (filled a prev ++ rest)) 0 ≡ assembled_size a
  size_in_header fits = from_le_bytes-to_le_bytes_4 (assembled_size a) fits

  pub header_is_no_zero_word : assembled_size a < 2 ^ 32 → is_zero_word (take 24 (filled a prev ++ rest)) ≡ false
  header_is_no_zero_word fits = let read = from_le_bytes-to_le_bytes_4 (assembled_size a) fits in ne_eqb _ _ (λ h. absurd (omega (arith, read, h)))

  pub prev_in_header : prev < 2 ^ 64 → number_at w64 (take 24 (filled a prev ++ rest)) 8 ≡ prev
  prev_in_header narrow = from_le_bytes-to_le_bytes_8 prev narrow

-- the record's own bytes, without those that fill its room
pub take-filled : (a : Assembled) (prev : ℕ) (rest : List ℕ) → take (assembled_size a) (filled a prev ++ rest) ≡ spelled a prev
take-filled a prev rest =
    ap (take (assembled_size a)) (append_assoc (spelled a prev) (replicate (assembled_room a - assembled_size a) 0) rest)
    ∙ take_at (spelled a prev) (replicate (assembled_room a - assembled_size a) 0 ++ rest) (assembled_size a) (length-spelled a prev)

-- the CRC that stands there is that of the bytes
pub crc_in_spelled : (a : Assembled) (prev : ℕ) → crc_of a prev < 2 ^ 32 → number_at w32 (spelled a prev) 20 ≡ crc32c (drop 24 (spelled a prev) ++ take 20 (spelled a prev))
crc_in_spelled a prev fits = from_le_bytes-to_le_bytes_4 (crc_of a prev) fits
