-- The laws of a spelled record.
use Rattle.std.proofs.Common.{◌≡◌, ℕ, ◌+◌, ◌-◌, ◌*◌, ◌%◌, ◌^◌, ◌<◌, ◌≤◌, [], ◌∷◌, ◌++◌, length, take, drop, replicate, All, refl, arith}
use Rattle.std.specs.Int.{w64, to_le_bytes}
use Rattle.std.proofs.lemmas.List.{length-append, length-take, length-drop, length-replicate}
use Rattle.std.proofs.lemmas.List.Elements.{All-append, All-from_recursion, All-replicate}
use Rattle.wal_types.specs.declared.record.Record.{Record}
use Rattle.wal_spelling.specs.Spelling.{Assembled, AssembledFits, IsLogRecord, assembled, assembled_size, assembled_room, header_front, crc_of, spelled, filled, spelling, word_at}
use Rattle.wal_spelling.specs.Header.{HasHeader}
use Rattle.wal_spelling.proofs.Bytes.{wide32, wide64, IsBytes-drop, IsBytes-from_All, IsBytes-take}
use Rattle.wal_spelling.proofs.AfterHeader.{AreBytes, bytes_and, bytes32, bytes64, after_header_bytes}
use Rattle.wal_spelling.proofs.CrcBounds.{crc32c_below}
use Rattle.wal_spelling.proofs.SwitchLaws.{logged_readable, logged_size}

-- ---- lengths

pub length-spelled : (a : Assembled) (prev : ℕ) → length (spelled a prev) ≡ assembled_size a
length-spelled a prev = omega arith

pub length-filled : (a : Assembled) (prev : ℕ) → length (filled a prev) ≡ assembled_room a
length-filled a prev = omega (arith, length-append (spelled a prev) (replicate (assembled_room a - assembled_size a) 0), length-spelled a prev, length-replicate {A = ℕ} (assembled_room a - assembled_size a) 0)

pub room_is : (a : Assembled) → (assembled_room a % 8 ≡ 0) × (24 ≤ assembled_room a) × (assembled_size a ≤ assembled_room a) × (assembled_room a < assembled_size a + 8)
room_is a = (omega arith, omega arith, omega arith, omega arith)

-- ---- bytes

pub ready : (r : Record) → IsLogRecord r → AssembledFits (assembled r)
ready r logged =
    let readable = logged_readable r logged in
    record {
      size = logged_size r logged;
      xid = readable.fits.xid;
      manager = readable.fits.manager;
      info = readable.fits.info;
      bytes = (after_header_bytes r readable.blocks readable.fits.blocks readable.fits.main).each;
    }

front_bytes : (a : Assembled) (prev : ℕ) → AssembledFits a → AreBytes (header_front a prev)
front_bytes a prev ready = bytes_and (bytes_and (bytes_and (bytes32 (assembled_size a)) (bytes32 a.xid)) (bytes64 prev)) (record { each = All-from_recursion (λ b. b < 256) (a.info ∷ a.rmid ∷ 0 ∷ 0 ∷ []) (ready.info, (ready.manager, (omega arith, (omega arith, tt)))) })

pub crc_below : (a : Assembled) (prev : ℕ) → AssembledFits a → crc_of a prev < 2 ^ 32
crc_below a prev ready = crc32c_below (a.after_header ++ header_front a prev) (bytes_and (record { each = ready.bytes }) (front_bytes a prev ready)).each

pub bytes_spelled : (a : Assembled) (prev : ℕ) → AssembledFits a → All (λ b. b < 256) (spelled a prev)
bytes_spelled a prev ready = (bytes_and (bytes_and (front_bytes a prev ready) (bytes32 (crc_of a prev))) (record { each = ready.bytes })).each

pub bytes_filled : (a : Assembled) (prev : ℕ) → AssembledFits a → All (λ b. b < 256) (filled a prev)
bytes_filled a prev ready = All-append (λ b. b < 256) (spelled a prev) (replicate (assembled_room a - assembled_size a) 0) (bytes_spelled a prev ready) (All-replicate (λ b. b < 256) (assembled_room a - assembled_size a) 0 (omega arith))

pub word_bytes : (a : Assembled) (prev n : ℕ) → AssembledFits a → 8 * n < assembled_room a → to_le_bytes w64 (word_at (filled a prev) n) ≡ take 8 (drop (8 * n) (filled a prev))
word_bytes a prev n ready within =
    let bytes = filled a prev in
    let len : length (take 8 (drop (8 * n) bytes)) ≡ 8 = omega (arith, length-take 8 (drop (8 * n) bytes), length-drop (8 * n) bytes, length-filled a prev) in
    wide64.back (take 8 (drop (8 * n) bytes)) len (IsBytes-take 8 (drop (8 * n) bytes) (IsBytes-drop (8 * n) bytes (IsBytes-from_All bytes (bytes_filled a prev ready))))

-- ---- the header

pub header_spelled : (a : Assembled) (prev : ℕ) → AssembledFits a → prev < 2 ^ 64 → HasHeader (spelled a prev) a prev
header_spelled a prev ready lt = record {
  size = wide32.again (assembled_size a) (omega (arith, ready.size));
  xid = wide32.again a.xid ready.xid;
  prev_is = wide64.again prev lt;
  info = refl;
  manager = refl;
  crc = wide32.again (crc_of a prev) (crc_below a prev ready);
  front = refl;
  after_header_is = refl;
}

pub fields_spelled : (r : Record) (prev : ℕ) → IsLogRecord r → prev < 2 ^ 64 → HasHeader (spelling r prev) (assembled r) prev
fields_spelled r prev logged lt = header_spelled (assembled r) prev (ready r logged) lt
