use Rattle.std.proofs.Common.{◌≡◌, ◌+◌, ◌-◌, ◌*◌, ◌%◌, ◌<◌, ◌||◌, eqb, ltb, not, cond, true, ℕ, ap, sym, subst, ◌∙◌, refl, arith, rules}
use Rattle.std.proofs.lemmas.Bool.{or_left, eq-eqb, cond-true, lt-ltb}
use Rattle.byte_position.specs.Geometry.{IsSegmentSize}
use Rattle.byte_position.specs.Position.{is_in_header, position_of}
use Rattle.wal_spelling.specs.Spelling.{assembled_room, assembled_size, word_at}
use Rattle.wal_page.specs.Page.{page_header}
use Rattle.wal_page.specs.Placed.{Owns, PlacedState, header_word, still_to_come}
use Rattle.wal_page.proofs.PlacedSteps.{own_room-within, page-bound, page_position-whole, still_to_come-passed}
use Rattle.wal_page.proofs.placed.header_word.Goals as goal
use Rattle.wal_page.proofs.placed.header_word.Goals.{in-Some, in-None}

-- a page's start has a position
page_start_has : (size page : ℕ) → (eqb (page * 8192 % 8192) 0 || not (is_in_header size (page * 8192))) ≡ true
page_start_has size page = or_left _ _ (eq-eqb (page * 8192 % 8192) 0 (omega arith))

pub overflow_mul-page : goal.overflow_mul-page
overflow_mul-page c =
    let p = c.owner.inside in
    let valid : IsSegmentSize c.args.geometry = search rules in
    let owns : Owns c.args.geometry p.body.now p.start (c.args.page * 8192) = subst (λ (s : PlacedState). Owns c.args.geometry s.body s.start (c.args.page * 8192)) (sym c.owner.view_is) c.requires.owner in
    omega (arith, page-bound c.args.geometry p.body.now p.start c.args.page valid owns (own_room-within p.geometry p.body.now p.start p.room p.next p.passed c.owner.invariant))

pub page_header_word-requires-clause-address : goal.page_header_word-requires-clause-address
page_header_word-requires-clause-address c =
    let p = c.owner.inside in
    let valid : IsSegmentSize c.args.geometry = search rules in
    let owns : Owns c.args.geometry p.body.now p.start (c.args.page * 8192) = subst (λ (s : PlacedState). Owns c.args.geometry s.body s.start (c.args.page * 8192)) (sym c.owner.view_is) c.requires.owner in
    omega (arith, page-bound c.args.geometry p.body.now p.start c.args.page valid owns (own_room-within p.geometry p.body.now p.start p.room p.next p.passed c.owner.invariant))

pub still_to_come-requires-clause-whole : goal.still_to_come-requires-clause-whole
still_to_come-requires-clause-whole c =
    let p = c.owner.inside in
    let valid : IsSegmentSize c.args.geometry = search rules in
    elim c.match-of_lsn.branch [
      | in-Some w ↦ rw (w.passed-is, w.in-Some.ensures.1) (page_position-whole c.args.geometry p.start c.args.page valid c.owner.invariant.whole_start)
      | in-None w ↦ rw w.passed-is refl
    ]

pub returns : goal.returns
returns c =
    let p = c.owner.inside in
    let a = c.args in
    let position = position_of a.geometry (a.page * 8192) in
    let owns : Owns a.geometry p.body.now p.start (a.page * 8192) = subst (λ (s : PlacedState). Owns c.args.geometry s.body s.start (c.args.page * 8192)) (sym c.owner.view_is) c.requires.owner in
    let passed : c.match-of_lsn.passed ≡ position - p.start = elim c.match-of_lsn.branch [
      | in-Some w ↦ w.passed-is ∙ ap (λ (q : ℕ). q - p.start) w.in-Some.ensures.1
      | in-None w ↦ absurd (w.in-None.ensures (page_start_has a.geometry a.page))
    ] in
    let remaining : c.still_to_come.result ≡ still_to_come p.body.now p.start position = c.still_to_come.ensures ∙ ap (λ (q : ℕ). cond (eqb q 0) 0 (assembled_size p.body.now - q)) passed ∙ sym (still_to_come-passed p.body.now p.start position (position - p.start) (omega (arith, owns.0))) in
    let own : position < p.start + assembled_room p.body.now = omega (arith, passed, owns.0, c.if-passed-from.false, c.from.ensures, c.room.ensures.room) in
    let word = word_at (page_header a.geometry a.sysid a.page (still_to_come p.body.now p.start position)) a.n in
    c.page_header_word.ensures
    ∙ ap (λ (r : ℕ). word_at (page_header a.geometry a.sysid a.page r) a.n) remaining
    ∙ sym (cond-true (ltb position (p.start + assembled_room p.body.now)) word 0 (lt-ltb position (p.start + assembled_room p.body.now) own))
    ∙ ap (λ (s : PlacedState). header_word a.geometry a.sysid a.page s.body s.start a.n) c.owner.view_is
