use Rattle.std.proofs.Common.{◌≡◌, ◌+◌, ◌-◌, ◌*◌, ℕ, List, length, get_or, take, drop, arith, sym, ap, ◌∙◌}
use Rattle.std.specs.Int.{from_le_bytes, w64}
use Rattle.std.specs.List.{between}
use Rattle.std.proofs.lemmas.List.{drop-drop}
use Rattle.std.proofs.lemmas.Slice.{between_to_end}
use Rattle.wal_spelling.proofs.Words.{word_after_header}
use Rattle.wal_spelling.proofs.body.Body.put_words.Goals as goal

pub returns-in_default-clause-words : goal.returns-in_default-clause-words
returns-in_default-clause-words c = λ k lt.
    let m : ℕ = (c.args.n - 3) * 8 in
    let a = c.args.self.now in
    let bytes = c.after_header-behind.result.now in
    let put = c.put_words_of.new.words in
    let behind : between m (length bytes) bytes ≡ drop m a.after_header = between_to_end bytes m (length bytes) (omega arith) ∙ ap (drop m) c.after_header-behind.ensures.bytes in
    let read : get_or put k 0 ≡ from_le_bytes w64 (take 8 (drop (8 * k) (between m (length bytes) bytes))) = c.put_words_of.ensures k lt in
    read
    ∙ ap (λ (l : List ℕ). from_le_bytes w64 (take 8 (drop (8 * k) l))) behind
    ∙ ap (λ (l : List ℕ). from_le_bytes w64 (take 8 l)) (drop-drop (8 * k) m a.after_header)
    ∙ sym (word_after_header a c.args.prev.0 (c.args.n + k) (m + 8 * k) (omega arith) (omega arith))
