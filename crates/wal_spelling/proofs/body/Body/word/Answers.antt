use Rattle.std.proofs.Common.{◌≡◌, ◌-◌, ◌*◌, ℕ, arith, sym, ap, ◌∙◌, take, drop, List, length}
use Rattle.std.specs.Int.{from_le_bytes, w64}
use Rattle.std.specs.List.{between}
use Rattle.std.proofs.lemmas.Slice.{between_to_end}
use Rattle.wal_spelling.proofs.Words.{word_after_header}
use Rattle.wal_spelling.proofs.body.Body.word.Goals as goal

pub returns-else-n-lt3 : goal.returns-else-n-lt3
returns-else-n-lt3 c =
    let m : ℕ = (c.args.n - 3) * 8 in
    let bytes = c.after_header.result.now in
    let same : bytes ≡ c.args.self.now.after_header = c.after_header.ensures.bytes in
    let read : c.first_word.result ≡ from_le_bytes w64 (take 8 (between m (length bytes) bytes)) = c.first_word.ensures in
    let behind : between m (length bytes) bytes ≡ drop m c.args.self.now.after_header = between_to_end bytes m (length bytes) (omega arith) ∙ ap (drop m) same in
    read ∙ ap (λ (l : List ℕ). from_le_bytes w64 (take 8 l)) behind ∙ sym (word_after_header c.args.self.now c.args.prev.0 c.args.n m (omega arith) c.requires)
