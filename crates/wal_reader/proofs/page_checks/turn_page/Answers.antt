use Rattle.std.proofs.Common.{◌≡◌, ◌+◌, true, false, Some, sym, ◌∙◌, eqb}
use Rattle.std.proofs.lemmas.Bool.{eq-eqb, ne_eqb}
use Rattle.std.proofs.lemmas.Result.{err_from_is_err_and}
use Rattle.wal_page.specs.Page.{is_continued, is_overwritten, remaining_of}
use Rattle.wal_reader.specs.Pages.{Pages}
use Rattle.wal_reader.specs.PageCursor.{Sees}
use Rattle.wal_reader.proofs.PageCheckLaws.{page_fails, is_given_up, is_not_continued, is_continued_otherwise, continues}
use Rattle.wal_reader.proofs.ReadyLaws.{passes_again}
use Rattle.wal_reader.proofs.page_checks.turn_page.Goals as goal
use Rattle.wal_reader.proofs.page_checks.turn_page.Goals.{After-check_held}

-- the page is there and held
there : (g : _) (c : After-check_held g) (pages : Pages) → Sees (g.D.Disk.tape c.args.disk.now) c.args.cache.now pages → pages (c.args.cursor.page + 1) ≡ Some c.load.new.self.bytes.value
there g c pages sees = (rw c.if-not-branch.false at (c.in_ok-load.ensures.loaded pages sees)).1

pub returns-in_err-info-clause-checks : goal.returns-in_err-info-clause-checks
returns-in_err-info-clause-checks g c = λ pages sees.
    let here = there g (goal.at.returns-in_err-info-clause-checks g c).After-check_held pages sees in
    let stop = err_from_is_err_and c.from_residual-in_err-info.result c.from_residual-in_err-info.ensures.1 in
    rw (stop.1, stop.2, ← c.in_ok-load.ensures.reads_on.geometry) (page_fails c.load.new.self.geometry (c.args.cursor.page + 1) c.args.cursor.timeline c.args.start.0 c.args.owed _ _ here _ c.in_err-info.ensures.checks)

pub returns-then-is_overwritten-clause-checks : goal.returns-then-is_overwritten-clause-checks
returns-then-is_overwritten-clause-checks g c = λ pages sees.
    let here = there g (goal.at.returns-then-is_overwritten-clause-checks g c).After-check_held pages sees in
    let flag : is_overwritten c.load.new.self.bytes.value ≡ true = sym c.in_ok-info.ensures.overwritten ∙ sym c.is_overwritten.ensures ∙ c.if-is_overwritten.true in
    rw (← c.in_ok-load.ensures.reads_on.geometry) (is_given_up c.load.new.self.geometry (c.args.cursor.page + 1) c.args.cursor.timeline c.args.start.0 c.args.owed _ _ here c.in_ok-info.ensures.checks flag)

pub returns-then-not-is_continued-clause-checks : goal.returns-then-not-is_continued-clause-checks
returns-then-not-is_continued-clause-checks g c = λ pages sees.
    let here = there g (goal.at.returns-then-not-is_continued-clause-checks g c).After-check_held pages sees in
    let flag : is_overwritten c.load.new.self.bytes.value ≡ false = sym c.in_ok-info.ensures.overwritten ∙ sym c.is_overwritten.ensures ∙ c.if-is_overwritten.false in
    let continued : is_continued c.load.new.self.bytes.value ≡ false = sym c.in_ok-info.ensures.continued ∙ sym c.is_continued.ensures ∙ c.if-not-is_continued.true in
    rw (c.damaged-then-not-is_continued.ensures, ← c.in_ok-load.ensures.reads_on.geometry) (is_not_continued c.load.new.self.geometry (c.args.cursor.page + 1) c.args.cursor.timeline c.args.start.0 c.args.owed _ _ here c.in_ok-info.ensures.checks flag continued)

pub returns-then-info-owed-clause-checks : goal.returns-then-info-owed-clause-checks
returns-then-info-owed-clause-checks g c = λ pages sees.
    let here = there g (goal.at.returns-then-info-owed-clause-checks g c).After-check_held pages sees in
    let flag : is_overwritten c.load.new.self.bytes.value ≡ false = sym c.in_ok-info.ensures.overwritten ∙ sym c.is_overwritten.ensures ∙ c.if-is_overwritten.false in
    let continued : is_continued c.load.new.self.bytes.value ≡ true = sym c.in_ok-info.ensures.continued ∙ sym c.is_continued.ensures ∙ c.if-not-is_continued.false in
    let other : eqb (remaining_of c.load.new.self.bytes.value) c.args.owed ≡ false = ne_eqb _ _ (λ e. c.if-info-owed.true (c.in_ok-info.ensures.info.1 ∙ e)) in
    rw (c.damaged-then-info-owed.ensures, c.in_ok-info.ensures.info.1, ← c.in_ok-load.ensures.reads_on.geometry) (is_continued_otherwise c.load.new.self.geometry (c.args.cursor.page + 1) c.args.cursor.timeline c.args.start.0 c.args.owed _ _ here c.in_ok-info.ensures.checks flag continued other)

pub returns-clause-checks : goal.returns-clause-checks
returns-clause-checks g c = λ pages sees.
    let here = there g (goal.at.returns-clause-checks g c).After-check_held pages sees in
    let flag : is_overwritten c.load.new.self.bytes.value ≡ false = sym c.in_ok-info.ensures.overwritten ∙ sym c.is_overwritten.ensures ∙ c.if-is_overwritten.false in
    let continued : is_continued c.load.new.self.bytes.value ≡ true = sym c.in_ok-info.ensures.continued ∙ sym c.is_continued.ensures ∙ c.if-not-is_continued.false in
    let same : eqb (remaining_of c.load.new.self.bytes.value) c.args.owed ≡ true = eq-eqb _ _ (sym c.in_ok-info.ensures.info.1 ∙ c.if-info-owed.false) in
    rw (← c.in_ok-load.ensures.reads_on.geometry) (continues c.load.new.self.geometry (c.args.cursor.page + 1) c.args.cursor.timeline c.args.start.0 c.args.owed _ _ here c.in_ok-info.ensures.checks flag continued same)

pub returns-clause-passed : goal.returns-clause-passed
returns-clause-passed g c = record { passes = passes_again c.load.new.self.geometry (c.args.cursor.page + 1) c.args.cursor.timeline c.load.new.self.bytes.value c.in_ok-info.ensures.checks }
