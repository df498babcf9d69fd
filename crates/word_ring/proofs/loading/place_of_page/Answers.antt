use Rattle.std.proofs.Common.{◌≡◌, ℕ, ◌+◌, ◌*◌, ◌/◌, ◌%◌, ap, arith}
use Rattle.word_ring.proofs.loading.place_of_page.Goals as goal

pub returns-clause-places : goal.returns-clause-places
returns-clause-places c n less =
    let met = c.ring_pages.ensures.pages in
    let wide = c.from-ring_pages.ensures in
    let pages : c.from-ring_pages.result ≡ c.args.shape.now.ring_pages = omega (arith, met, wide) in
    let first = ap (λ (k : ℕ). c.args.page % k * 1024) pages in
    let page : (c.args.page * 1024 + n) / 1024 ≡ c.args.page = omega arith in
    let word : (c.args.page * 1024 + n) % 1024 ≡ n = omega arith in
    let own = ap (λ (k : ℕ). k % c.args.shape.now.ring_pages * 1024) page in
    omega (arith, pages, first, word, own)
