-- The words of whole chunks, and one of the bytes that are left.
use Rattle.std.proofs.Common.{◌≡◌, ℕ, ◌+◌, ◌/◌, ◌<◌, ◌≤◌, length, take, ◌∙◌, subst, arith}
use Rattle.std.proofs.lemmas.List.{length-take}
use Rattle.wal_spelling.specs.Spelling.{word_at}
use Rattle.wal_rule.specs.SeatedPasses.{HasView, view_of}
use Rattle.word_ring.specs.Copied.{copied_view}
use Rattle.word_ring.specs.CopyRuns.{StoresNext, chunk_word}
use Rattle.word_ring.proofs.CopyLaws.{behind_run, chunk_words, tail_word, words_as}
use Rattle.word_ring.proofs.Steps.{same_table}
use Rattle.word_ring.proofs.copying.store_bytes.Given.{Over}
use Rattle.word_ring.proofs.copying.store_bytes.Goals as goal
use Rattle.word_ring.proofs.copying.store_bytes.Goals.{After-store_chunks}

pub store_chunks-requires-clause-run : goal.store_chunks-requires-clause-run
store_chunks-requires-clause-run g c =
    let bytes = c.args.bytes.now in
    let chunks = c.as_chunks.result.0.now in
    let whole : ℕ = c.min-whole.result in
    let count = c.as_chunks.ensures.front_len in
    let least = c.min-whole.ensures in
    let some = length-take whole chunks in
    let within : whole ≤ length bytes / 8 = omega (arith, count, least) in
    words_as c.args.place (length (take whole chunks)) c.args.count (word_at bytes)
    (chunk_word (take whole chunks)) c.args.seated.now c.requires.run
    (omega (arith, some, least))
    (λ n below. chunk_words bytes chunks whole n c.as_chunks.ensures.front within
    (omega (arith, some, least, below)))

pub store_chunks-requires-clause-low : goal.store_chunks-requires-clause-low
store_chunks-requires-clause-low g c =
    let some = length-take c.min-whole.result c.as_chunks.result.0.now in
    let least = c.min-whole.ensures in
    let low = c.requires.low in
    omega (arith, some, least, low)

module _ (g : Over) (c : After-store_chunks g) where
  -- so many are stored
  so_far : HasView (copied_view c.min-whole.result (view_of c.args.seated.now)) c.args.seated.now
      c.store_chunks.new.seated
  so_far =
      let some = length-take c.min-whole.result c.as_chunks.result.0.now in
      let least = c.min-whole.ensures in
      let as_many : length (take c.min-whole.result c.as_chunks.result.0.now)
      ≡ c.min-whole.result = omega (arith, some, least) in
      subst (λ (k : ℕ). HasView (copied_view k (view_of c.args.seated.now)) c.args.seated.now
      c.store_chunks.new.seated) as_many c.store_chunks.ensures

  next : c.min-whole.result < c.args.count → StoresNext (view_of c.store_chunks.new.seated)
      (c.args.place + c.min-whole.result) (word_at c.args.bytes.now c.min-whole.result)
  next less = c.requires.run c.min-whole.result c.store_chunks.new.seated less so_far

pub last_word-requires-clause-some : goal.last_word-requires-clause-some
last_word-requires-clause-some g c =
    let count = c.as_chunks.ensures.front_len in
    let least = c.min-whole.ensures in
    omega (arith, count, least, c.if-whole-count.true, c.requires.within)

pub store_ring_word-requires-clause-table : goal.store_ring_word-requires-clause-table
store_ring_word-requires-clause-table g c =
    same_table c.args.seated.now c.store_chunks.new.seated c.store_chunks.ensures.same_table

pub store_ring_word-requires-clause-number : goal.store_ring_word-requires-clause-number
store_ring_word-requires-clause-number g c =
    (next g (goal.at.store_ring_word-requires-clause-number g c).After-store_chunks
    c.if-whole-count.true).place_is

pub store_ring_word-requires-clause-may : goal.store_ring_word-requires-clause-may
store_ring_word-requires-clause-may g c =
    (next g (goal.at.store_ring_word-requires-clause-may g c).After-store_chunks
    c.if-whole-count.true).may

pub store_ring_word-requires-clause-value : goal.store_ring_word-requires-clause-value
store_ring_word-requires-clause-value g c =
    let count = c.as_chunks.ensures.front_len in
    let least = c.min-whole.ensures in
    c.last_word.ensures
    ∙ tail_word c.args.bytes.now c.as_chunks.result.1.now c.min-whole.result
    c.as_chunks.ensures.back (omega (arith, count, least, c.if-whole-count.true))
    ∙ (next g (goal.at.store_ring_word-requires-clause-value g c).After-store_chunks
    c.if-whole-count.true).word_is

pub returns-then-whole-count : goal.returns-then-whole-count
returns-then-whole-count g c =
    let count = c.as_chunks.ensures.front_len in
    let least = c.min-whole.ensures in
    let all : c.min-whole.result + 1 ≡ c.args.count =
    omega (arith, count, least, c.if-whole-count.true, c.requires.within) in
    subst (λ (k : ℕ). HasView (copied_view k (view_of c.args.seated.now)) c.args.seated.now
    c.store_ring_word.new.self) all
    (behind_run c.min-whole.result 1 c.args.seated.now c.store_chunks.new.seated
    c.store_ring_word.new.self
    (so_far g (goal.at.returns-then-whole-count g c).After-store_chunks)
    c.store_ring_word.ensures.steps)

pub returns-else-whole-count : goal.returns-else-whole-count
returns-else-whole-count g c =
    let least = c.min-whole.ensures in
    let all : c.min-whole.result ≡ c.args.count = omega (arith, least, c.if-whole-count.false) in
    subst (λ (k : ℕ). HasView (copied_view k (view_of c.args.seated.now)) c.args.seated.now
    c.store_chunks.new.seated) all
    (so_far g (goal.at.returns-else-whole-count g c).After-store_chunks)
