-- The words of whole chunks, and one of the bytes that are left.
use Rattle.std.proofs.Common.{◌≡◌, ℕ, ◌<◌, ◌≤◌, ◌/◌, [], List, length, get_or, take, drop, ap, ◌∙◌, arith}
use Rattle.std.specs.Int.{w64, from_le_bytes}
use Rattle.std.proofs.lemmas.List.{length-append, length-drop, length-take}
use Rattle.wal_spelling.proofs.WordRuns.{whole_words, last_word}
use Rattle.wal_spelling.proofs.putting.put_words_of.Goals as goal

pub returns-then-whole-words : goal.returns-then-whole-words
returns-then-whole-words c =
    let bytes = c.args.bytes.now in
    let words = c.args.words.now in
    let put = c.put_chunks.new.words in
    let chunks = c.as_chunks.result.0.now in
    let whole = c.min-whole.result in
    let count = c.as_chunks.ensures.front_len in
    let places = length-take whole words in
    let within : whole ≤ length bytes / 8 = omega arith in
    let long : length put ≡ whole = omega arith in
    let each : (k : ℕ) → k < whole → get_or put k 0 ≡ from_le_bytes w64 (get_or chunks k []) = λ k lt. c.put_chunks.ensures k (omega arith) in
    let less : whole < length words = omega (arith, length-append put (drop whole words), length-drop whole words) in
    let all : whole ≡ length bytes / 8 = omega arith in
    last_word bytes words put chunks whole c.as_chunks.ensures.front within long each c.last_word.result
    (c.last_word.ensures ∙ ap (λ (tail : List ℕ). from_le_bytes w64 (take 8 tail)) c.as_chunks.ensures.back) all c.requires less

pub returns-else-whole-words : goal.returns-else-whole-words
returns-else-whole-words c = λ k lt.
    let bytes = c.args.bytes.now in
    let words = c.args.words.now in
    let put = c.put_chunks.new.words in
    let chunks = c.as_chunks.result.0.now in
    let whole = c.min-whole.result in
    let count = c.as_chunks.ensures.front_len in
    let places = length-take whole words in
    let within : whole ≤ length bytes / 8 = omega arith in
    let long : length put ≡ whole = omega arith in
    let each : (k : ℕ) → k < whole → get_or put k 0 ≡ from_le_bytes w64 (get_or chunks k []) = λ k lt. c.put_chunks.ensures k (omega arith) in
    whole_words bytes words put chunks whole c.as_chunks.ensures.front within long each k (omega (arith, length-append put (drop whole words), length-drop whole words))
