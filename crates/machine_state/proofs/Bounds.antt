-- Bounds of a log's numbers.
use Rattle.std.proofs.Common.{◌≡◌, ℕ, ◌+◌, ◌-◌, ◌*◌, ◌<◌, ◌≤◌, arith}
use Rattle.std.proofs.lemmas.Nat.{mul-le}
use Rattle.byte_position.specs.Geometry.{pages_of}
use Rattle.byte_position.proofs.SegmentSizes.{segment_size_in_pages}
use Rattle.byte_position.proofs.Segments.{first_position-usable}
use Rattle.machine_state.specs.declared.setup.Setup.{Setup}
use Rattle.machine_state.specs.Sound.{IsSetup}
use Rattle.machine_state.specs.Words.{log_limit}

limit_by : (first pages cap : ℕ) → first ≡ pages * 8168 - 16 → pages ≤ 131072 → cap ≤ 4096 → first + cap * (pages * 8168 - 16) < 8796093022208
limit_by first pages cap same low few =
    let most = mul-le cap (pages * 8168 - 16) 4096 1070596080 few (omega arith) in
    omega arith

-- a log's limit is far below the last of 64 bits
pub limit_low : (setup : Setup) → IsSetup setup → log_limit setup < 8796093022208
limit_low setup sound =
    limit_by _ (pages_of setup.seg_size) setup.cap_segments (first_position-usable setup.seg_size sound.size) (segment_size_in_pages setup.seg_size sound.size).2 sound.cap_high
