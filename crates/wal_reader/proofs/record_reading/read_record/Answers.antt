use Rattle.std.proofs.Common.{◌≡◌, ℕ, ◌≤◌, Some, None, Result, Ok, Err, option_map, inl, inr, refl, sym, ap, subst, ◌∙◌, arith}
use Rattle.std.specs.Prelude.{IfOk}
use Rattle.byte_position.specs.Geometry.{IsSegmentSize}
use Rattle.byte_position.specs.Position.{address_of}
use Rattle.byte_position.proofs.Rising.{address_of-mono}
use Rattle.std.specs.Int.{w32}
use Rattle.std.proofs.lemmas.Result.{IfOk-weaker, err_from_is_err_and}
use Rattle.wal_spelling.specs.Numbers.{number_at}
use Rattle.wal_types.specs.declared.lsn.Lsn.{Lsn}
use Rattle.wal_reader.specs.declared.found.FoundRecord.{FoundRecord}
use Rattle.wal_reader.specs.declared.read_failure.ReadFailure.{ReadFailure}
use Rattle.wal_reader.specs.declared.record_extent.RecordExtent.{RecordExtent}
use Rattle.wal_reader.specs.declared.record_place.RecordPlace.{RecordPlace}
use Rattle.wal_reader.specs.Answered.{IsAnswered}
use Rattle.wal_reader.specs.Decodes.{opening_fault}
use Rattle.wal_reader.specs.Filled.{read_with}
use Rattle.wal_reader.specs.PageCursor.{Sees}
use Rattle.wal_reader.specs.Pages.{Pages}
use Rattle.wal_reader.proofs.CacheLaws.{held_page}
use Rattle.wal_reader.proofs.ReadsOnLaws.{reads_more}
use Rattle.wal_reader.proofs.ReachLaws.{is_before_end, no_page_above, read_at-out_of_reach}
use Rattle.wal_reader.proofs.RecordAt.{size_in_page, read_at-not_opened, read_at-no_size, read_at-rest}
use Rattle.wal_reader.proofs.ReadAtLaws.{read_is_spelled}
use Rattle.wal_reader.proofs.ReadyLaws.{opening_passed}
use Rattle.wal_reader.proofs.RecordReads.{read_as, room_as, stop_tells}
use Rattle.wal_reader.proofs.record_reading.read_record.Goals as goal
use Rattle.wal_reader.proofs.record_reading.read_record.Goals.{After-claimed}

pub returns-then-is_beyond-clause-reads : goal.returns-then-is_beyond-clause-reads
returns-then-is_beyond-clause-reads g c = λ pages sees.
    let end = option_map (λ (l : Lsn). l.0) c.args.end in
    let out = c.is_beyond.ensures.0 c.if-is_beyond.true in
    let none = no_page_above (g.D.Disk.tape c.args.disk.now) c.args.buffers.now.cache pages sees in
    record {
      reads = rw c.end_of_log.ensures (read_at-out_of_reach c.args.buffers.now.cache.geometry pages end c.args.at out none);
      spelled = tt;
      room = inl refl;
    }

pub returns-in_err-cursor-clause-reads : goal.returns-in_err-cursor-clause-reads
returns-in_err-cursor-clause-reads g c = λ pages sees.
    let stop = err_from_is_err_and c.from_residual.result c.from_residual.ensures.1 in
    let before = is_before_end c.args.buffers.now.cache.geometry (option_map (λ (l : Lsn). l.0) c.args.end) c.args.at.position c.is_beyond.result c.is_beyond.ensures c.if-is_beyond.false in
    record {
      reads = rw (stop.1, stop.2) (stop_tells c.args.buffers.now.cache.geometry pages c.args.at _ _ (read_at-not_opened c.args.buffers.now.cache.geometry pages (option_map (λ (l : Lsn). l.0) c.args.end) c.args.at before) _ (c.in_err-cursor.ensures.opens.checks pages sees));
      spelled = rw stop.1 tt;
      room = inl refl;
    }

-- the page in which the record starts
here : (g : _) (c : After-claimed g) (pages : Pages) → Sees (g.D.Disk.tape c.args.disk.now) c.args.buffers.now.cache pages → pages c.in_ok-cursor.cursor.page ≡ Some c.open_ready.new.cache.bytes.value
here g c pages sees = held_page (g.D.Disk.tape c.open_ready.new.disk) c.open_ready.new.cache pages c.in_ok-cursor.cursor.page (c.in_ok-cursor.ensures.reads_on.sees pages sees) c.in_ok-cursor.ensures.opens.cursor.0.0

pub returns-in_err-extent-clause-reads : goal.returns-in_err-extent-clause-reads
returns-in_err-extent-clause-reads g c = λ pages sees.
    let at = (goal.at.returns-in_err-extent-clause-reads g c).After-claimed in
    let stop = err_from_is_err_and c.from_residual-in_err-extent.result c.from_residual-in_err-extent.ensures.1 in
    let opened = c.in_ok-cursor.ensures in
    let before = is_before_end c.args.buffers.now.cache.geometry (option_map (λ (l : Lsn). l.0) c.args.end) c.args.at.position c.is_beyond.result c.is_beyond.ensures c.if-is_beyond.false in
    let there = ap pages (sym opened.opens.place.0) ∙ here g at pages sees in
    let told = rw opened.reads_on.geometry at c.in_err-extent.ensures.checks in
    record {
      reads = rw (stop.1, stop.2) (read_at-no_size c.args.buffers.now.cache.geometry pages (option_map (λ (l : Lsn). l.0) c.args.end) c.args.at before _ there (opened.opens.checks pages sees) c.in_ok-cursor.cursor opened.opens.place.0 opened.opens.cursor.1 c.in_err-extent.ensures.whole opened.opens.place.1 _ told);
      spelled = rw stop.1 tt;
      room = inl refl;
    }

pub returns-in_err-whole-clause-reads : goal.returns-in_err-whole-clause-reads
returns-in_err-whole-clause-reads g c = λ pages sees.
    let at = (goal.at.returns-in_err-whole-clause-reads g c).After-claimed in
    let stop = err_from_is_err_and c.from_residual-in_err-whole.result c.from_residual-in_err-whole.ensures.1 in
    let size = c.args.buffers.now.cache.geometry in
    let opened = c.in_ok-cursor.ensures in
    let before = is_before_end c.args.buffers.now.cache.geometry (option_map (λ (l : Lsn). l.0) c.args.end) c.args.at.position c.is_beyond.result c.is_beyond.ensures c.if-is_beyond.false in
    let there = ap pages (sym opened.opens.place.0) ∙ here g at pages sees in
    let extent = c.in_ok-extent.ensures.extent in
    let total : c.in_ok-extent.extent.total ≡ number_at w32 c.open_ready.new.cache.bytes.value c.in_ok-cursor.cursor.offset = ap (λ (e : RecordExtent). e.total) extent.0 in
    let passes = rw opened.reads_on.geometry at c.in_ok-extent.ensures.checks in
    let rest = read_at-rest size pages (option_map (λ (l : Lsn). l.0) c.args.end) c.args.at before _ there (opened.opens.checks pages sees) c.in_ok-cursor.cursor opened.opens.place.0 opened.opens.cursor.1 c.in_ok-extent.ensures.whole opened.opens.place.1 c.in_ok-extent.extent.total total extent.1 passes in
    let reads = read_as size pages c.args.at c.in_ok-extent.extent _ (Err c.in_err-whole.field-0.0) (ap (λ (e : RecordExtent). e.at) extent.0) rest (rw opened.reads_on.geometry at (c.in_err-whole.ensures.reads pages (here g at pages sees))) in
    record {
      reads = rw (stop.1, stop.2) reads;
      spelled = rw stop.1 tt;
      room = inl refl;
    }

pub returns-in_ok-whole-clause-reads : goal.returns-in_ok-whole-clause-reads
returns-in_ok-whole-clause-reads g c = λ pages sees.
    let at = (goal.at.returns-in_ok-whole-clause-reads g c).After-claimed in
    let size = c.args.buffers.now.cache.geometry in
    let opened = c.in_ok-cursor.ensures in
    let before = is_before_end c.args.buffers.now.cache.geometry (option_map (λ (l : Lsn). l.0) c.args.end) c.args.at.position c.is_beyond.result c.is_beyond.ensures c.if-is_beyond.false in
    let there = ap pages (sym opened.opens.place.0) ∙ here g at pages sees in
    let extent = c.in_ok-extent.ensures.extent in
    let total : c.in_ok-extent.extent.total ≡ number_at w32 c.open_ready.new.cache.bytes.value c.in_ok-cursor.cursor.offset = ap (λ (e : RecordExtent). e.total) extent.0 in
    let passes = rw opened.reads_on.geometry at c.in_ok-extent.ensures.checks in
    let rest = read_at-rest size pages (option_map (λ (l : Lsn). l.0) c.args.end) c.args.at before _ there (opened.opens.checks pages sees) c.in_ok-cursor.cursor opened.opens.place.0 opened.opens.cursor.1 c.in_ok-extent.ensures.whole opened.opens.place.1 c.in_ok-extent.extent.total total extent.1 passes in
    let reads = read_as size pages c.args.at c.in_ok-extent.extent _ (read_with (g.K.KeepsRecord.kept c.read_in_page.new.value) (Ok c.in_ok-whole.whole)) (ap (λ (e : RecordExtent). e.at) extent.0) rest (rw opened.reads_on.geometry at (c.in_ok-whole.ensures.reads pages (here g at pages sees))) in
    record {
      reads = reads;
      spelled = read_is_spelled size pages (option_map (λ (l : Lsn). l.0) c.args.end) c.args.at opened.opens.cursor.1.stands.valid (read_with (g.K.KeepsRecord.kept c.read_in_page.new.value) (Ok c.in_ok-whole.whole)) reads;
      room = inl refl;
    }

pub returns-in_err-read-clause-reads : goal.returns-in_err-read-clause-reads
returns-in_err-read-clause-reads g c = λ pages sees.
    let at = (goal.at.returns-in_err-read-clause-reads g c).After-claimed in
    let stop = err_from_is_err_and c.from_residual-in_err-read.result c.from_residual-in_err-read.ensures.1 in
    let size = c.args.buffers.now.cache.geometry in
    let opened = c.in_ok-cursor.ensures in
    let before = is_before_end c.args.buffers.now.cache.geometry (option_map (λ (l : Lsn). l.0) c.args.end) c.args.at.position c.is_beyond.result c.is_beyond.ensures c.if-is_beyond.false in
    let there = ap pages (sym opened.opens.place.0) ∙ here g at pages sees in
    let extent = c.in_ok-extent.ensures.extent in
    let total : c.in_ok-extent.extent.total ≡ number_at w32 c.open_ready.new.cache.bytes.value c.in_ok-cursor.cursor.offset = ap (λ (e : RecordExtent). e.total) extent.0 in
    let passes = rw opened.reads_on.geometry at c.in_ok-extent.ensures.checks in
    let rest = read_at-rest size pages (option_map (λ (l : Lsn). l.0) c.args.end) c.args.at before _ there (opened.opens.checks pages sees) c.in_ok-cursor.cursor opened.opens.place.0 opened.opens.cursor.1 c.in_ok-extent.ensures.whole opened.opens.place.1 c.in_ok-extent.extent.total total extent.1 passes in
    let reads = read_as size pages c.args.at c.in_ok-extent.extent _ (Err c.in_err-read.field-0.0) (ap (λ (e : RecordExtent). e.at) extent.0) rest (rw opened.reads_on.geometry at (c.in_err-read.ensures.reads pages (opened.reads_on.sees pages sees))) in
    let claimed = size_in_page size pages (option_map (λ (l : Lsn). l.0) c.args.end) c.args.at before _ there (opened.opens.checks pages sees) c.in_ok-cursor.cursor opened.opens.place.0 opened.opens.cursor.1 c.in_ok-extent.ensures.whole opened.opens.place.1 in
    record {
      reads = rw (stop.1, stop.2) reads;
      spelled = rw stop.1 tt;
      room = inr (opened.opens.checks pages sees, room_as size pages c.args.at c.in_ok-extent.extent _ _ (ap (λ (e : RecordExtent). e.at) extent.0) (ap (λ (e : RecordExtent). e.total) extent.0 ∙ sym claimed) (rw opened.reads_on.geometry at (c.in_err-read.ensures.room pages (opened.reads_on.sees pages sees))));
    }

pub returns-in_ok-read-clause-reads_on : goal.returns-in_ok-read-clause-reads_on
returns-in_ok-read-clause-reads_on g c = reads_more c.in_ok-cursor.ensures.reads_on c.in_ok-read.ensures.reads_on

pub returns-in_ok-read-clause-reads : goal.returns-in_ok-read-clause-reads
returns-in_ok-read-clause-reads g c = λ pages sees.
    let at = (goal.at.returns-in_ok-read-clause-reads g c).After-claimed in
    let size = c.args.buffers.now.cache.geometry in
    let opened = c.in_ok-cursor.ensures in
    let before = is_before_end c.args.buffers.now.cache.geometry (option_map (λ (l : Lsn). l.0) c.args.end) c.args.at.position c.is_beyond.result c.is_beyond.ensures c.if-is_beyond.false in
    let there = ap pages (sym opened.opens.place.0) ∙ here g at pages sees in
    let extent = c.in_ok-extent.ensures.extent in
    let total : c.in_ok-extent.extent.total ≡ number_at w32 c.open_ready.new.cache.bytes.value c.in_ok-cursor.cursor.offset = ap (λ (e : RecordExtent). e.total) extent.0 in
    let passes = rw opened.reads_on.geometry at c.in_ok-extent.ensures.checks in
    let rest = read_at-rest size pages (option_map (λ (l : Lsn). l.0) c.args.end) c.args.at before _ there (opened.opens.checks pages sees) c.in_ok-cursor.cursor opened.opens.place.0 opened.opens.cursor.1 c.in_ok-extent.ensures.whole opened.opens.place.1 c.in_ok-extent.extent.total total extent.1 passes in
    let reads = read_as size pages c.args.at c.in_ok-extent.extent _ (read_with (g.K.KeepsRecord.kept c.read_over_pages.new.value) (Ok c.in_ok-read.read)) (ap (λ (e : RecordExtent). e.at) extent.0) rest (rw opened.reads_on.geometry at (c.in_ok-read.ensures.reads pages (opened.reads_on.sees pages sees))) in
    let claimed = size_in_page size pages (option_map (λ (l : Lsn). l.0) c.args.end) c.args.at before _ there (opened.opens.checks pages sees) c.in_ok-cursor.cursor opened.opens.place.0 opened.opens.cursor.1 c.in_ok-extent.ensures.whole opened.opens.place.1 in
    record {
      reads = reads;
      spelled = read_is_spelled size pages (option_map (λ (l : Lsn). l.0) c.args.end) c.args.at opened.opens.cursor.1.stands.valid (read_with (g.K.KeepsRecord.kept c.read_over_pages.new.value) (Ok c.in_ok-read.read)) reads;
      room = inr (opened.opens.checks pages sees, room_as size pages c.args.at c.in_ok-extent.extent _ _ (ap (λ (e : RecordExtent). e.at) extent.0) (ap (λ (e : RecordExtent). e.total) extent.0 ∙ sym claimed) (rw opened.reads_on.geometry at (c.in_ok-read.ensures.room pages (opened.reads_on.sees pages sees))));
    }

-- the address rises with the position
rises_behind : (size held : ℕ) → IsSegmentSize size → (from at : RecordPlace) (read : Result (FoundRecord × RecordPlace) ReadFailure) → from ≡ at → IfOk read (IsAnswered (Some from) held) → IfOk read (λ r. address_of size at.position ≤ address_of size r.1.position)
rises_behind size held valid from at read same answered =
    IfOk-weaker read (IsAnswered (Some from) held) (λ r. address_of size at.position ≤ address_of size r.1.position)
    (λ r answered. address_of-mono size valid at.position r.1.position (let position = ap (λ (place : RecordPlace). place.position) same in omega (arith, answered.further.0, position))) answered

pub returns-in_ok-whole-clause-rises : goal.returns-in_ok-whole-clause-rises
returns-in_ok-whole-clause-rises g c =
    rises_behind c.args.buffers.now.cache.geometry _ c.in_ok-cursor.ensures.opens.cursor.1.stands.valid c.in_ok-extent.extent.at c.args.at (read_with (g.K.KeepsRecord.kept c.read_in_page.new.value) (Ok c.in_ok-whole.whole)) (ap (λ (e : RecordExtent). e.at) c.in_ok-extent.ensures.extent.0) c.in_ok-whole.ensures.answered

pub ready_behind-requires-clause-opens : goal.ready_behind-requires-clause-opens
ready_behind-requires-clause-opens g c =
    let bytes = c.open_ready.new.cache.bytes.value in
    let same = ap (λ (e : RecordExtent). e.at) c.in_ok-extent.ensures.extent.0 in
    let sized = subst (λ (n : ℕ). opening_fault n c.args.at (Some bytes) ≡ None) (sym c.in_ok-cursor.ensures.reads_on.geometry) c.in_ok-cursor.ensures.opens.passes in
    subst (λ (at : RecordPlace). opening_fault c.open_ready.new.cache.geometry at (Some bytes) ≡ None) (sym same) sized

pub returns-in_ok-read-clause-rises : goal.returns-in_ok-read-clause-rises
returns-in_ok-read-clause-rises g c =
    rises_behind c.args.buffers.now.cache.geometry _ c.in_ok-cursor.ensures.opens.cursor.1.stands.valid c.in_ok-extent.extent.at c.args.at (read_with (g.K.KeepsRecord.kept c.read_over_pages.new.value) (Ok c.in_ok-read.read)) (ap (λ (e : RecordExtent). e.at) c.in_ok-extent.ensures.extent.0) c.in_ok-read.ensures.answered

pub read_over_pages-requires-clause-passed : goal.read_over_pages-requires-clause-passed
read_over_pages-requires-clause-passed g c =
    let opened = c.in_ok-cursor.ensures in
    let cache = c.open_ready.new.cache in
    let page = rw (← opened.reads_on.geometry) at opened.opens.place.0 in
    let opens = subst (λ (n : ℕ). opening_fault n c.args.at (Some cache.bytes.value) ≡ None) (sym opened.reads_on.geometry) opened.opens.passes in
    opening_passed cache c.args.at c.in_ok-cursor.cursor.page page opens
