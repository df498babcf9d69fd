use Rattle.std.proofs.Common.{◌≡◌, ℕ, ◌+◌, ◌-◌, ◌<◌, ◌≤◌, false, None, Result, Ok, Err, refl, sym, ap, ◌∙◌, arith}
use Rattle.std.proofs.lemmas.Result.{err_from_is_err_and}
use Rattle.wal_page.specs.Page.{first_fault, header_size, timeline_of}
use Rattle.wal_reader.specs.declared.found.Answer.{Answer}
use Rattle.wal_reader.specs.declared.record_place.RecordPlace.{RecordPlace}
use Rattle.wal_reader.specs.Beginning.{skipped_in}
use Rattle.wal_reader.specs.Decodes.{is_zero_word, page_answers}
use Rattle.wal_reader.proofs.BeginningLaws.{begin_in-empty, begin_in-damaged, begin_in-here, begin_in-filled, page_position-le, page_position-aligned, skipped_in-aligned}
use Rattle.wal_reader.proofs.beginning.front_of.Goals as goal
use Rattle.wal_reader.proofs.beginning.front_of.Goals.{After-skipped_bytes-skipped}

abbrev first_place : ℕ → ℕ → Result RecordPlace Answer
first_place position timeline = Ok (record { position = position; prev = None; timeline = timeline })

pub returns-then-is_zero_word-clause-begins : goal.returns-then-is_zero_word-clause-begins
returns-then-is_zero_word-clause-begins c next =
    begin_in-empty next c.args.cache.now.geometry c.args.page c.args.cache.now.bytes.value c.args.timeline (sym c.is_zero_word.ensures.value ∙ c.if-is_zero_word.true) ∙ ap Err (sym c.page_end.ensures)

pub returns-in_err-info-clause-begins : goal.returns-in_err-info-clause-begins
returns-in_err-info-clause-begins c next =
    let exit = err_from_is_err_and c.from_residual.result c.from_residual.ensures.1 in
    begin_in-damaged next c.args.cache.now.geometry c.args.page c.args.cache.now.bytes.value c.args.timeline (sym c.is_zero_word.ensures.value ∙ c.if-is_zero_word.false) c.in_err-info.field-0.0 c.in_err-info.ensures.checks ∙ rw (exit.1, exit.2) refl

-- what is known once the page has passed its checks
marked_at : (c : After-skipped_bytes-skipped) → is_zero_word c.args.cache.now.bytes.value ≡ false
marked_at c = sym c.is_zero_word.ensures.value ∙ c.if-is_zero_word.false

passes_at : (c : After-skipped_bytes-skipped) → first_fault (page_answers c.args.cache.now.geometry c.args.page c.args.cache.now.bytes.value c.args.timeline) ≡ None
passes_at c = c.in_ok-info.ensures.checks

skipped_at : (c : After-skipped_bytes-skipped) → c.skipped_bytes-skipped.result ≡ skipped_in c.args.cache.now.bytes.value
skipped_at c = c.skipped_bytes-skipped.ensures ∙ rw (c.in_ok-info.ensures.continued, c.in_ok-info.ensures.info.1) refl

pub returns-then-skipped-from-clause-begins : goal.returns-then-skipped-from-clause-begins
returns-then-skipped-from-clause-begins c next =
    let before = (goal.at.returns-then-skipped-from-clause-begins c).After-skipped_bytes-skipped in
    let header = c.from.ensures ∙ c.header_len.ensures.value in
    let past : 8192 - header_size c.args.cache.now.geometry c.args.page ≤ skipped_in c.args.cache.now.bytes.value = rw (← header, ← skipped_at before) c.if-skipped-from.true in
    begin_in-filled next c.args.cache.now.geometry c.args.page c.args.cache.now.bytes.value c.args.timeline (marked_at before) (passes_at before) past ∙ ap (next (c.args.page + 1)) (sym c.in_ok-info.ensures.info.0)

pub overflow_add-result : goal.overflow_add-result
overflow_add-result c =
    let low = page_position-le c.args.cache.now.geometry c.args.page in
    let at = c.first_position.ensures in
    omega (arith, c.requires)

pub returns-clause-begins : goal.returns-clause-begins
returns-clause-begins c next =
    let before = (goal.at.returns-clause-begins c).After-skipped_bytes-skipped in
    let skipped = skipped_at before in
    let header = c.from.ensures ∙ c.header_len.ensures.value in
    let within : skipped_in c.args.cache.now.bytes.value < 8192 - header_size c.args.cache.now.geometry c.args.page = rw (← header, ← skipped) c.if-skipped-from.false in
    begin_in-here next c.args.cache.now.geometry c.args.page c.args.cache.now.bytes.value c.args.timeline (marked_at before) (passes_at before) within
    ∙ ap (λ (p : ℕ). first_place p (timeline_of c.args.cache.now.bytes.value)) (rw (skipped, c.first_position.ensures) refl)
    ∙ ap (first_place (c.first_position.result + c.skipped_bytes-skipped.result)) (sym c.in_ok-info.ensures.info.0)

pub returns-clause-reachable : goal.returns-clause-reachable
returns-clause-reachable c =
    let before = (goal.at.returns-clause-reachable c).After-skipped_bytes-skipped in
    let skipped = skipped_at before in
    let low = page_position-le c.args.cache.now.geometry c.args.page in
    let whole = page_position-aligned c.args.cache.now.geometry c.args.page c.header_len.ensures.valid in
    let words = skipped_in-aligned c.args.cache.now.bytes.value in
    let at = c.first_position.ensures in
    record { aligned = omega arith; bounded = omega (arith, c.requires) }
