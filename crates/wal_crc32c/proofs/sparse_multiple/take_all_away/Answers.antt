use Rattle.std.proofs.Common.{◌≡◌, ◌≤◌, ◌+◌, ◌-◌, fold, length, take, drop, subst, sym, ap, ◌∙◌, arith}
use Rattle.std.proofs.lemmas.List.{length-take-le, length-drop, take-take}
use lib.Lanes.{chunk}
use Rattle.wal_crc32c.specs.Crc32c.{after_byte}
use Rattle.wal_crc32c.specs.SparseMultiple.{CarriesOn}
use Rattle.wal_crc32c.proofs.SparseMultiple.{fold-taken}
use Rattle.wal_crc32c.proofs.sparse_multiple.take_all_away.Goals as goal

pub loop-done-preserved : goal.loop-done-preserved
loop-done-preserved c =
    let done = c.loop-done.done in
    let bytes = c.args.bytes.now in
    let taken = c.take_piece_away-taken.result in
    let room = c.take_piece_away-taken.new.room in
    let most = done + c.min-most.result - done in
    let piece = take most (drop done bytes) in
    let within : most + 224 + done ≤ length bytes = omega (arith, c.min-most.ensures) in
    let long : length piece ≡ most = length-take-le most (drop done bytes) (omega (arith, length-drop done bytes)) in
    let part : taken ≤ most = omega (arith, c.take_piece_away-taken.ensures.within) in (
      omega arith,
      λ r stands.
          let before = fold after_byte r (take done bytes) in
          let whole = ap (fold after_byte before) (take-take taken most (drop done bytes) part) ∙ sym (fold-taken r done taken bytes) in
          subst (λ l. CarriesOn l (fold after_byte r (take (done + taken) bytes))) (sym c.move_to_front.ensures)
          (subst (λ s. CarriesOn (chunk taken 209 room) s) whole (c.take_piece_away-taken.ensures.taken before (c.loop-done.invariant.1 r stands))),
    )
