use Rattle.std.proofs.Common.{rules, ◌+◌, ◌*◌, ◌<◌, ◌^◌, arith}
use Rattle.cli_line.proofs.Hexadecimals.{room_for_digit}
use Rattle.cli_line.proofs.meanings.hexadecimal.Goals as goal

pub overflow_mul-value : goal.overflow_mul-value
overflow_mul-value c =
    let room : c.loop-byte.value * 16 + 15 < 2 ^ 32 = room_for_digit c.loop-byte.byte-index c.loop-byte.value (omega arith) c.loop-byte.invariant.small in
    search rules

pub overflow_add-value : goal.overflow_add-value
overflow_add-value c =
    let room : c.loop-byte.value * 16 + 15 < 2 ^ 32 = room_for_digit c.loop-byte.byte-index c.loop-byte.value (omega arith) c.loop-byte.invariant.small in
    search rules
