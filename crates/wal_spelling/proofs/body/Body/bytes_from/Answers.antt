use Rattle.std.proofs.Common.{◌≡◌, ◌+◌, ◌-◌, ◌*◌, ℕ, List, length, take, drop, arith, sym, ap, ◌∙◌}
use Rattle.std.specs.Int.{from_le_bytes, w64}
use Rattle.std.specs.List.{between}
use Rattle.std.proofs.lemmas.List.{drop-drop}
use Rattle.std.proofs.lemmas.Slice.{between_to_end}
use Rattle.wal_spelling.proofs.Words.{word_after_header}
use Rattle.wal_spelling.proofs.body.Body.bytes_from.Goals as goal

pub returns-clause-words : goal.returns-clause-words
returns-clause-words c = λ prev k lt.
    let m : ℕ = (c.args.n - 3) * 8 in
    let a = c.args.self.now in
    let bytes = c.after_header.result.now in
    let behind : between m (length bytes) bytes ≡ drop m a.after_header = between_to_end bytes m (length bytes) (omega arith) ∙ ap (drop m) c.after_header.ensures.bytes in
    ap (λ (l : List ℕ). from_le_bytes w64 (take 8 (drop (8 * k) l))) behind
    ∙ ap (λ (l : List ℕ). from_le_bytes w64 (take 8 l)) (drop-drop (8 * k) m a.after_header)
    ∙ sym (word_after_header a prev (c.args.n + k) (m + 8 * k) (omega arith) lt)
