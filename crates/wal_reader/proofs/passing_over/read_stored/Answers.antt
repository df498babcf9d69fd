use Rattle.std.proofs.Common.{◌≡◌, ℕ, Some, None, Ok, Err, option_map, sym, ap, subst, ◌∙◌}
use Rattle.std.specs.Int.{w32}
use Rattle.std.proofs.lemmas.Result.{err_from_is_err_and}
use Rattle.wal_spelling.specs.Numbers.{number_at}
use Rattle.wal_types.specs.declared.lsn.Lsn.{Lsn}
use Rattle.wal_reader.specs.declared.record_extent.RecordExtent.{RecordExtent}
use Rattle.wal_reader.specs.Decodes.{opening_fault}
use Rattle.wal_reader.specs.Filled.{read_with}
use Rattle.wal_reader.specs.PageCursor.{Sees}
use Rattle.wal_reader.specs.Pages.{Pages}
use Rattle.wal_reader.proofs.CacheLaws.{held_page}
use Rattle.wal_reader.proofs.ReadsOnLaws.{reads_more}
use Rattle.wal_reader.proofs.ReadyLaws.{opening_passed}
use Rattle.wal_reader.proofs.RecordReads.{stop_tells}
use Rattle.wal_reader.proofs.StoredReads.{stored-no_size, stored-not_opened, stored-rest, stored_as}
use Rattle.wal_reader.proofs.passing_over.read_stored.Goals as goal
use Rattle.wal_reader.proofs.passing_over.read_stored.Goals.{After-claimed}

pub returns-in_err-cursor-clause-reads : goal.returns-in_err-cursor-clause-reads
returns-in_err-cursor-clause-reads g c = λ pages sees.
    let stop = err_from_is_err_and c.from_residual.result c.from_residual.ensures.1 in
    rw (stop.1, stop.2) (stop_tells c.args.buffers.now.cache.geometry pages c.args.at _ _ (stored-not_opened c.args.buffers.now.cache.geometry pages (option_map (λ (l : Lsn). l.0) c.args.end) c.args.at) _ (c.in_err-cursor.ensures.opens.checks pages sees))

-- the page in which the record starts
here : (g : _) (c : After-claimed g) (pages : Pages) → Sees (g.D.Disk.tape c.args.disk.now) c.args.buffers.now.cache pages → pages c.in_ok-cursor.cursor.page ≡ Some c.open_page.new.cache.bytes.value
here g c pages sees = held_page (g.D.Disk.tape c.open_page.new.disk) c.open_page.new.cache pages c.in_ok-cursor.cursor.page (c.in_ok-cursor.ensures.reads_on.sees pages sees) c.in_ok-cursor.ensures.opens.cursor.0.0

pub returns-in_err-extent-clause-reads : goal.returns-in_err-extent-clause-reads
returns-in_err-extent-clause-reads g c = λ pages sees.
    let at = (goal.at.returns-in_err-extent-clause-reads g c).After-claimed in
    let stop = err_from_is_err_and c.from_residual-in_err-extent.result c.from_residual-in_err-extent.ensures.1 in
    let opened = c.in_ok-cursor.ensures in
    let there = ap pages (sym opened.opens.place.0) ∙ here g at pages sees in
    let told = rw opened.reads_on.geometry at c.in_err-extent.ensures.checks in
    rw (stop.1, stop.2) (stored-no_size c.args.buffers.now.cache.geometry pages (option_map (λ (l : Lsn). l.0) c.args.end) c.args.at _ there (opened.opens.checks pages sees) c.in_ok-cursor.cursor opened.opens.place.0 opened.opens.cursor.1 c.in_err-extent.ensures.whole opened.opens.place.1 _ told)

pub returns-in_err-read-clause-reads : goal.returns-in_err-read-clause-reads
returns-in_err-read-clause-reads g c = λ pages sees.
    let at = (goal.at.returns-in_err-read-clause-reads g c).After-claimed in
    let stop = err_from_is_err_and c.from_residual-in_err-read.result c.from_residual-in_err-read.ensures.1 in
    let size = c.args.buffers.now.cache.geometry in
    let opened = c.in_ok-cursor.ensures in
    let there = ap pages (sym opened.opens.place.0) ∙ here g at pages sees in
    let extent = c.in_ok-extent.ensures.extent in
    let total : c.in_ok-extent.extent.total ≡ number_at w32 c.open_page.new.cache.bytes.value c.in_ok-cursor.cursor.offset = ap (λ (e : RecordExtent). e.total) extent.0 in
    let passes = rw opened.reads_on.geometry at c.in_ok-extent.ensures.checks in
    let rest = stored-rest size pages (option_map (λ (l : Lsn). l.0) c.args.end) c.args.at _ there (opened.opens.checks pages sees) c.in_ok-cursor.cursor opened.opens.place.0 opened.opens.cursor.1 c.in_ok-extent.ensures.whole opened.opens.place.1 c.in_ok-extent.extent.total total passes in
    rw (stop.1, stop.2) (stored_as size pages c.args.at c.in_ok-extent.extent _ (Err c.in_err-read.field-0.0) (ap (λ (e : RecordExtent). e.at) extent.0) rest (rw opened.reads_on.geometry at (c.in_err-read.ensures.reads pages (opened.reads_on.sees pages sees))))

pub returns-clause-reads : goal.returns-clause-reads
returns-clause-reads g c = λ pages sees.
    let at = (goal.at.returns-clause-reads g c).After-claimed in
    let size = c.args.buffers.now.cache.geometry in
    let opened = c.in_ok-cursor.ensures in
    let there = ap pages (sym opened.opens.place.0) ∙ here g at pages sees in
    let extent = c.in_ok-extent.ensures.extent in
    let total : c.in_ok-extent.extent.total ≡ number_at w32 c.open_page.new.cache.bytes.value c.in_ok-cursor.cursor.offset = ap (λ (e : RecordExtent). e.total) extent.0 in
    let passes = rw opened.reads_on.geometry at c.in_ok-extent.ensures.checks in
    let rest = stored-rest size pages (option_map (λ (l : Lsn). l.0) c.args.end) c.args.at _ there (opened.opens.checks pages sees) c.in_ok-cursor.cursor opened.opens.place.0 opened.opens.cursor.1 c.in_ok-extent.ensures.whole opened.opens.place.1 c.in_ok-extent.extent.total total passes in
    stored_as size pages c.args.at c.in_ok-extent.extent _ (read_with c.gather_stored.new.value (Ok c.in_ok-read.read)) (ap (λ (e : RecordExtent). e.at) extent.0) rest (rw opened.reads_on.geometry at (c.in_ok-read.ensures.reads pages (opened.reads_on.sees pages sees)))

pub returns-clause-reads_on : goal.returns-clause-reads_on
returns-clause-reads_on g c = reads_more c.in_ok-cursor.ensures.reads_on c.in_ok-read.ensures.reads_on

pub returns-in_err-read-clause-reads_on : goal.returns-in_err-read-clause-reads_on
returns-in_err-read-clause-reads_on g c = reads_more c.in_ok-cursor.ensures.reads_on c.in_err-read.ensures.reads_on

pub gather_stored-requires-clause-passed : goal.gather_stored-requires-clause-passed
gather_stored-requires-clause-passed g c =
    let opened = c.in_ok-cursor.ensures in
    let cache = c.open_page.new.cache in
    let page = rw (← opened.reads_on.geometry) at opened.opens.place.0 in
    let opens = subst (λ (n : ℕ). opening_fault n c.args.at (Some cache.bytes.value) ≡ None) (sym opened.reads_on.geometry) opened.opens.passes in
    opening_passed cache c.args.at c.in_ok-cursor.cursor.page page opens
