use Rattle.std.proofs.Common.{◌≡◌, ℕ, ◌/◌, Result, Ok, Err, refl, vec_len, subst, sym, ap, ◌∙◌, arith}
use Rattle.std.specs.Prelude.{IfOk}
use Rattle.std.proofs.lemmas.Result.{err_from_is_err_and}
use Rattle.byte_position.specs.Position.{address_of, end_address_of}
use Rattle.wal_page.specs.Page.{first_fault}
use Rattle.wal_reader.specs.declared.found.Answer.{Answer}
use Rattle.wal_reader.specs.declared.found.RecordHead.{RecordHead}
use Rattle.wal_reader.specs.declared.found.FoundRecord.{FoundRecord}
use Rattle.wal_reader.specs.declared.record_place.RecordPlace.{RecordPlace}
use Rattle.wal_reader.specs.declared.read_failure.ReadFailure.{ReadFailure}
use Rattle.wal_reader.specs.Decodes.{page_of_byte, rows_of_pages}
use Rattle.wal_reader.specs.ReadFailures.{IsTold}
use Rattle.wal_reader.specs.RecordRead.{behind_read, without_place}
use Rattle.wal_reader.specs.Filled.{found_with, read_with}
use Rattle.wal_reader.specs.Spelled.{IsSpelled}
use Rattle.wal_reader.specs.PageCursor.{Crosses, HasGathered, HoldsPassed, Sees}
use Rattle.wal_reader.specs.Pages.{Pages, bytes_from}
use Rattle.wal_reader.specs.ReadsOn.{ReadsOn}
use Rattle.wal_reader.proofs.ReadsOnLaws.{reads_more}
use Rattle.wal_reader.proofs.CacheLaws.{held_page}
use Rattle.wal_reader.proofs.GatherLaws.{holds_behind}
use Rattle.wal_reader.proofs.RecordReads.{stopped_before_header, header_fails_over, stopped_over, crc_fails_over, read_over, found_as, found_behind, of_found, end_in_reach, goes_on_behind, bytes_from-none, page_of_first_part}
use Rattle.wal_reader.proofs.record_reading.read_over_pages.Goals as goal
use Rattle.wal_reader.proofs.record_reading.read_over_pages.Goals.{After-gather, After-check_header, After-check_crc}

-- the first bytes end on the page that the header ends on
same_page : (g : _) (c : After-gather g) → page_of_byte c.args.buffers.now.cache.geometry c.args.opened.extent.at.position c.first_part-upto.result ≡ page_of_byte c.args.buffers.now.cache.geometry c.args.opened.extent.at.position 24
same_page g c = page_of_first_part c.args.buffers.now.cache.geometry c.args.opened.extent.at.position c.first_part-upto.result c.args.opened.cursor c.requires.opened.none.gathered c.first_part-upto.ensures.header c.first_part-upto.ensures.page

told_at_header : (g : _) (c : After-gather g) (pages : Pages) (stop : ReadFailure) → IsTold (first_fault (rows_of_pages c.args.buffers.now.cache.geometry pages c.args.opened.extent.at c.args.opened.extent.total c.args.opened.cursor.page (page_of_byte c.args.buffers.now.cache.geometry c.args.opened.extent.at.position c.first_part-upto.result))) stop
    → IsTold (first_fault (rows_of_pages c.args.buffers.now.cache.geometry pages c.args.opened.extent.at c.args.opened.extent.total c.args.opened.cursor.page (page_of_byte c.args.buffers.now.cache.geometry c.args.opened.extent.at.position 24))) stop
told_at_header g c pages stop told =
    subst (λ (page : ℕ). IsTold (first_fault (rows_of_pages c.args.buffers.now.cache.geometry pages c.args.opened.extent.at c.args.opened.extent.total c.args.opened.cursor.page page)) stop) (same_page g c) told

pub returns-in_err-cursor-clause-reads : goal.returns-in_err-cursor-clause-reads
returns-in_err-cursor-clause-reads g c = λ pages sees.
    let stop = err_from_is_err_and c.from_residual.result c.from_residual.ensures.1 in
    let told = told_at_header g (goal.at.returns-in_err-cursor-clause-reads g c).After-gather pages c.in_err-cursor.field-0.0 (c.in_err-cursor.ensures.gathers pages sees).checks in
    rw (stop.1, stop.2) (stopped_before_header c.args.buffers.now.cache.geometry pages c.args.opened.extent.at c.args.opened.extent.total c.args.opened.cursor.page _ _ c.requires.opened.page refl refl _ told)

-- the first bytes were gathered
header_stands : (g : _) (c : After-check_header g) → HasGathered c.args.buffers.now.cache.geometry c.args.opened.extent.at.position c.first_part-upto.result c.in_ok-cursor.cursor
header_stands g c = rw c.in_ok-cursor.ensures.reads_on.geometry at c.in_ok-cursor.ensures.gathered.1.gathered

header_page : (g : _) (c : After-check_header g) → c.in_ok-cursor.cursor.page ≡ page_of_byte c.args.buffers.now.cache.geometry c.args.opened.extent.at.position 24
header_page g c =
    (header_stands g c).last (omega (arith, c.first_part-upto.ensures.header)) ∙ page_of_first_part c.args.buffers.now.cache.geometry c.args.opened.extent.at.position c.first_part-upto.result c.args.opened.cursor c.requires.opened.none.gathered c.first_part-upto.ensures.header c.first_part-upto.ensures.page

header_items : (g : _) (c : After-check_header g) (pages : Pages) → Sees (g.D.Disk.tape c.args.disk.now) c.args.buffers.now.cache pages → c.gather.new.buffers.room.items ≡ bytes_from c.args.buffers.now.cache.geometry pages c.first_part-upto.result c.args.opened.extent.at.position
header_items g c pages sees =
    (c.in_ok-cursor.ensures.gathers pages sees).bytes (c.clear.ensures.items ∙ sym (bytes_from-none c.args.buffers.now.cache.geometry pages c.args.opened.extent.at.position _ c.clear.ensures.len))

header_gathered : (g : _) (c : After-check_header g) (pages : Pages) → Sees (g.D.Disk.tape c.args.disk.now) c.args.buffers.now.cache pages → c.deref.result.now ≡ bytes_from c.args.buffers.now.cache.geometry pages c.first_part-upto.result c.args.opened.extent.at.position
header_gathered g c pages sees = c.deref.ensures.value ∙ header_items g c pages sees

pub returns-in_err-check_header-clause-reads : goal.returns-in_err-check_header-clause-reads
returns-in_err-check_header-clause-reads g c = λ pages sees.
    let before = (goal.at.returns-in_err-check_header-clause-reads g c).After-check_header in
    let stop = err_from_is_err_and c.from_residual-in_err-check_header.result c.from_residual-in_err-check_header.ensures.1 in
    let first = c.in_ok-cursor.ensures in
    rw (stop.1, stop.2) (header_fails_over c.args.buffers.now.cache.geometry pages c.args.opened.extent.at c.start-start.result c.args.opened.extent.total c.start-start.ensures c.args.opened.cursor.page c.in_ok-cursor.cursor.page _ c.requires.opened.page (header_page g before) refl (first.gathers pages sees).checks c.first_part-upto.result c.first_part-upto.ensures.header _ (header_gathered g before pages sees) _ c.in_err-check_header.ensures)

pub returns-in_err-cursor-2-clause-reads : goal.returns-in_err-cursor-2-clause-reads
returns-in_err-cursor-2-clause-reads g c = λ pages sees.
    let before = (goal.at.returns-in_err-cursor-2-clause-reads g c).After-check_header in
    let stop = err_from_is_err_and c.from_residual-in_err-cursor-2.result c.from_residual-in_err-cursor-2.ensures.1 in
    let first = c.in_ok-cursor.ensures in
    let told = rw first.reads_on.geometry at (c.in_err-cursor-2.ensures.gathers pages (first.reads_on.sees pages sees)).checks in
    rw (stop.1, stop.2) (stopped_over c.args.buffers.now.cache.geometry pages c.args.opened.extent.at c.start-start.result c.args.opened.extent.total c.start-start.ensures c.args.opened.cursor.page c.in_ok-cursor.cursor.page _ c.requires.opened.page (header_page g before) refl (first.gathers pages sees).checks c.first_part-upto.result c.first_part-upto.ensures.header _ (header_gathered g before pages sees) c.in_ok-check_header.ensures _ told)

-- all bytes were gathered
record_items : (g : _) (c : After-check_crc g) (pages : Pages) → Sees (g.D.Disk.tape c.args.disk.now) c.args.buffers.now.cache pages → c.gather.new.buffers.room.items ≡ bytes_from c.args.buffers.now.cache.geometry pages c.first_part-upto.result c.args.opened.extent.at.position → c.gather-2.new.buffers.room.items ≡ bytes_from c.args.buffers.now.cache.geometry pages c.args.opened.extent.total c.args.opened.extent.at.position
record_items g c pages sees header =
    let first = c.in_ok-cursor.ensures in
    let had = header ∙ ap (λ (n : ℕ). bytes_from c.args.buffers.now.cache.geometry pages n c.args.opened.extent.at.position) (sym first.gathered.0) in
    (rw first.reads_on.geometry at (c.in_ok-cursor-2.ensures.gathers pages (first.reads_on.sees pages sees)).bytes) had

crosses_further : (g : _) (c : After-check_crc g) (pages : Pages) → Sees (g.D.Disk.tape c.args.disk.now) c.args.buffers.now.cache pages → Crosses c.args.buffers.now.cache.geometry pages c.args.opened.extent.at c.args.opened.extent.total c.in_ok-cursor.cursor.page c.in_ok-cursor-2.cursor.page
crosses_further g c pages sees = rw c.in_ok-cursor.ensures.reads_on.geometry at (c.in_ok-cursor-2.ensures.gathers pages (c.in_ok-cursor.ensures.reads_on.sees pages sees)).checks

gathered_all : (g : _) (c : After-check_crc g) → HasGathered c.args.buffers.now.cache.geometry c.args.opened.extent.at.position c.args.opened.extent.total c.in_ok-cursor-2.cursor
gathered_all g c = rw (c.in_ok-cursor-2.ensures.reads_on.geometry, c.in_ok-cursor.ensures.reads_on.geometry) at c.in_ok-cursor-2.ensures.gathered.1.gathered

pub returns-in_err-check_crc-clause-reads : goal.returns-in_err-check_crc-clause-reads
returns-in_err-check_crc-clause-reads g c = λ pages sees.
    let before = (goal.at.returns-in_err-check_crc-clause-reads g c).After-check_header in
    let after = (goal.at.returns-in_err-check_crc-clause-reads g c).After-check_crc in
    let stop = err_from_is_err_and c.from_residual-in_err-check_crc.result c.from_residual-in_err-check_crc.ensures.1 in
    let first = c.in_ok-cursor.ensures in
    let bytes = c.deref-2.ensures.value ∙ record_items g after pages sees (header_items g before pages sees) in
    rw (stop.1, stop.2) (crc_fails_over c.args.buffers.now.cache.geometry pages c.args.opened.extent.at c.start-start.result c.args.opened.extent.total c.start-start.ensures c.args.opened.cursor.page c.in_ok-cursor.cursor.page c.in_ok-cursor-2.cursor.page c.requires.opened.page (header_page g before) ((gathered_all g after).last (omega (arith, c.requires.opened.large))) (first.gathers pages sees).checks c.first_part-upto.result c.first_part-upto.ensures.header _ (header_gathered g before pages sees) c.in_ok-check_header.ensures (crosses_further g after pages sees) _ bytes _ c.in_err-check_crc.ensures)

pub found-requires-clause-end : goal.found-requires-clause-end
found-requires-clause-end g c =
    let after = (goal.at.found-requires-clause-end g c).After-check_crc in
    end_in_reach c.args.buffers.now.cache.geometry c.args.opened.extent.at.position c.args.opened.extent.total c.in_ok-cursor-2.cursor (gathered_all g after) c.requires.opened.none.reachable.aligned (omega (arith, c.requires.opened.large))

pub returns-in_err-read-clause-reads : goal.returns-in_err-read-clause-reads
returns-in_err-read-clause-reads g c = λ pages sees.
    let before = (goal.at.returns-in_err-read-clause-reads g c).After-check_header in
    let after = (goal.at.returns-in_err-read-clause-reads g c).After-check_crc in
    let stop = err_from_is_err_and c.from_residual-in_err-read.result c.from_residual-in_err-read.ensures.1 in
    let first = c.in_ok-cursor.ensures in
    let bytes = c.deref-2.ensures.value ∙ record_items g after pages sees (header_items g before pages sees) in
    let read = read_over c.args.buffers.now.cache.geometry pages c.args.opened.extent.at c.start-start.result c.args.opened.extent.total c.start-start.ensures c.args.opened.cursor.page c.in_ok-cursor.cursor.page c.in_ok-cursor-2.cursor.page c.requires.opened.page (header_page g before) ((gathered_all g after).last (omega (arith, c.requires.opened.large))) (first.gathers pages sees).checks c.first_part-upto.result c.first_part-upto.ensures.header _ (header_gathered g before pages sees) c.in_ok-check_header.ensures (crosses_further g after pages sees) _ bytes c.in_ok-check_crc.ensures in
    let same = c.deref-3.ensures.value ∙ sym c.deref-2.ensures.value in
    let said = found_as c.args.buffers.now.cache.geometry c.args.opened.extent.at c.args.opened.extent.total c.deref-2.result.now c.deref-3.result.now (without_place (read_with (g.K.KeepsRecord.kept c.found.new.value) c.in_ok-found.field-0)) (Err c.in_err-read.field-0.0) same c.in_ok-found.ensures.read (ap (λ (said : Result (RecordHead × RecordPlace) Answer). without_place (read_with (g.K.KeepsRecord.kept c.found.new.value) said)) c.in_err-read.was) in
    rw (stop.1, stop.2) (read ∙ said)

pub returns-clause-answered : goal.returns-clause-answered
returns-clause-answered g c =
    let extent = c.args.opened.extent in
    let after = (goal.at.returns-clause-answered g c).After-check_crc in
    let bound = end_in_reach c.args.buffers.now.cache.geometry extent.at.position extent.total c.in_ok-cursor-2.cursor (gathered_all g after) c.requires.opened.none.reachable.aligned (omega (arith, c.requires.opened.large)) in
    let size = c.args.buffers.now.cache.geometry in
    let value = g.K.KeepsRecord.kept c.found.new.value in
    let read : FoundRecord × RecordPlace = (found_with value c.in_ok-read.read.0, c.in_ok-read.read.1) in
    let was = ap (read_with value) c.in_ok-read.was in
    let behind = of_found (read_with value c.in_ok-found.field-0) (λ (read : FoundRecord × RecordPlace). read.1 ≡ behind_read size extent.at read.0 extent.total c.in_ok-cursor-2.cursor.timeline) read was c.in_ok-found.ensures.behind in
    let ends = subst (λ (said : Result (RecordHead × RecordPlace) Answer). IfOk said (λ read. read.0.end.0 ≡ end_address_of size read.1.position)) c.in_ok-read.was c.in_ok-found.ensures.end in
    record {
      further = goes_on_behind size c.requires.opened.none.gathered.stands.valid extent.at read.1 extent.total read.0.value c.requires.opened.none.reachable c.requires.opened.large (bound read.0.value) (ap (λ (next : RecordPlace). next.position) behind);
      behind = (sym ends, ap (λ (next : RecordPlace). next.prev) behind);
      spelled = of_found (read_with value c.in_ok-found.field-0) (λ (read : FoundRecord × RecordPlace). IsSpelled read.0) read was c.in_ok-found.ensures.spelled;
    }

-- the two reads, one behind the other
both : (g : _) (c : After-check_crc g) → ReadsOn g.D.Disk.tape g.D.Disk.moment c.args.disk.now c.gather-2.new.disk c.args.buffers.now.cache c.gather-2.new.buffers.cache
both g c = reads_more c.in_ok-cursor.ensures.reads_on c.in_ok-cursor-2.ensures.reads_on

pub returns-in_err-cursor-2-clause-reads_on : goal.returns-in_err-cursor-2-clause-reads_on
returns-in_err-cursor-2-clause-reads_on g c = reads_more c.in_ok-cursor.ensures.reads_on c.in_err-cursor-2.ensures.reads_on

pub returns-in_err-check_crc-clause-reads_on : goal.returns-in_err-check_crc-clause-reads_on
returns-in_err-check_crc-clause-reads_on g c = both g (goal.at.returns-in_err-check_crc-clause-reads_on g c).After-check_crc

pub returns-in_err-found-clause-reads_on : goal.returns-in_err-found-clause-reads_on
returns-in_err-found-clause-reads_on g c = both g (goal.at.returns-in_err-found-clause-reads_on g c).After-check_crc

pub returns-in_err-read-clause-reads_on : goal.returns-in_err-read-clause-reads_on
returns-in_err-read-clause-reads_on g c = both g (goal.at.returns-in_err-read-clause-reads_on g c).After-check_crc

pub returns-clause-reads_on : goal.returns-clause-reads_on
returns-clause-reads_on g c = both g (goal.at.returns-clause-reads_on g c).After-check_crc

pub returns-clause-reads : goal.returns-clause-reads
returns-clause-reads g c = λ pages sees.
    let before = (goal.at.returns-clause-reads g c).After-check_header in
    let after = (goal.at.returns-clause-reads g c).After-check_crc in
    let first = c.in_ok-cursor.ensures in
    let second = c.in_ok-cursor-2.ensures in
    let last = c.in_ok-cursor-2.cursor in
    let value = g.K.KeepsRecord.kept c.found.new.value in
    let found = found_with value c.in_ok-read.read.0 in
    let was = ap (read_with value) c.in_ok-read.was in
    let bytes = c.deref-2.ensures.value ∙ record_items g after pages sees (header_items g before pages sees) in
    let ends = (gathered_all g after).last (omega (arith, c.requires.opened.large)) in
    let read = read_over c.args.buffers.now.cache.geometry pages c.args.opened.extent.at c.start-start.result c.args.opened.extent.total c.start-start.ensures c.args.opened.cursor.page c.in_ok-cursor.cursor.page last.page c.requires.opened.page (header_page g before) ends (first.gathers pages sees).checks c.first_part-upto.result c.first_part-upto.ensures.header _ (header_gathered g before pages sees) c.in_ok-check_header.ensures (crosses_further g after pages sees) _ bytes c.in_ok-check_crc.ensures in
    let same = c.deref-3.ensures.value ∙ sym c.deref-2.ensures.value in
    let said = found_as c.args.buffers.now.cache.geometry c.args.opened.extent.at c.args.opened.extent.total c.deref-2.result.now c.deref-3.result.now (without_place (read_with value c.in_ok-found.field-0)) (Ok found) same c.in_ok-found.ensures.read (ap without_place was) in
    let here = held_page (g.D.Disk.tape c.gather-2.new.disk) c.gather-2.new.buffers.cache pages last.page (second.reads_on.sees pages (first.reads_on.sees pages sees)) second.gathered.1.on.0 in
    let behind = found_behind c.args.buffers.now.cache.geometry pages c.args.opened.extent.at c.args.opened.extent.total _ _ found last c.gather-2.new.buffers.cache.bytes.value said ends here second.gathered.1.on.1 in
    let extent = c.args.opened.extent in
    let at_page = of_found (read_with value c.in_ok-found.field-0) (λ (read : FoundRecord × RecordPlace). read.1 ≡ behind_read c.args.buffers.now.cache.geometry extent.at read.0 extent.total last.timeline) (found, c.in_ok-read.read.1) was c.in_ok-found.ensures.behind in
    (read ∙ said, at_page ∙ behind)

-- ---- what the room holds

nothing : (g : _) (c : After-gather g) (pages : Pages) → c.clear.new.self.items ≡ bytes_from c.args.buffers.now.cache.geometry pages (vec_len c.clear.new.self) c.args.opened.extent.at.position
nothing g c pages = c.clear.ensures.items ∙ sym (bytes_from-none c.args.buffers.now.cache.geometry pages c.args.opened.extent.at.position _ c.clear.ensures.len)

pub returns-in_err-cursor-clause-room : goal.returns-in_err-cursor-clause-room
returns-in_err-cursor-clause-room g c = λ pages sees.
    rw (← c.requires.opened.page) ((c.in_err-cursor.ensures.gathers pages sees).passed (nothing g (goal.at.returns-in_err-cursor-clause-room g c).After-gather pages))

pub returns-in_err-check_header-clause-room : goal.returns-in_err-check_header-clause-room
returns-in_err-check_header-clause-room g c = λ pages sees.
    rw (← c.requires.opened.page) ((c.in_ok-cursor.ensures.gathers pages sees).passed (nothing g (goal.at.returns-in_err-check_header-clause-room g c).After-gather pages))

pub returns-in_err-cursor-2-clause-room : goal.returns-in_err-cursor-2-clause-room
returns-in_err-cursor-2-clause-room g c = λ pages sees.
    let before = (goal.at.returns-in_err-cursor-2-clause-room g c).After-check_header in
    let first = c.in_ok-cursor.ensures in
    let had = header_items g before pages sees ∙ ap (λ (n : ℕ). bytes_from c.args.buffers.now.cache.geometry pages n c.args.opened.extent.at.position) (sym first.gathered.0) in
    let holds = (rw first.reads_on.geometry at (c.in_err-cursor-2.ensures.gathers pages (first.reads_on.sees pages sees)).passed) had in
    rw (← c.requires.opened.page) (holds_behind c.args.buffers.now.cache.geometry pages c.args.opened.extent.at c.args.opened.extent.total _ _ _ (first.gathers pages sees).checks holds)

-- all of the record
holds_all : (g : _) (c : After-check_crc g) (pages : Pages) → Sees (g.D.Disk.tape c.args.disk.now) c.args.buffers.now.cache pages → c.gather.new.buffers.room.items ≡ bytes_from c.args.buffers.now.cache.geometry pages c.first_part-upto.result c.args.opened.extent.at.position → HoldsPassed c.args.buffers.now.cache.geometry pages c.args.opened.extent.at c.args.opened.extent.total (address_of c.args.buffers.now.cache.geometry c.args.opened.extent.at.position / 8192) c.gather-2.new.buffers.room.items
holds_all g c pages sees header =
    let first = c.in_ok-cursor.ensures in
    let had = header ∙ ap (λ (n : ℕ). bytes_from c.args.buffers.now.cache.geometry pages n c.args.opened.extent.at.position) (sym first.gathered.0) in
    let holds = (rw first.reads_on.geometry at (c.in_ok-cursor-2.ensures.gathers pages (first.reads_on.sees pages sees)).passed) had in
    rw (← c.requires.opened.page) (holds_behind c.args.buffers.now.cache.geometry pages c.args.opened.extent.at c.args.opened.extent.total _ _ _ (first.gathers pages sees).checks holds)

pub returns-in_err-check_crc-clause-room : goal.returns-in_err-check_crc-clause-room
returns-in_err-check_crc-clause-room g c = λ pages sees. holds_all g (goal.at.returns-in_err-check_crc-clause-room g c).After-check_crc pages sees (header_items g (goal.at.returns-in_err-check_crc-clause-room g c).After-check_header pages sees)

pub returns-in_err-found-clause-room : goal.returns-in_err-found-clause-room
returns-in_err-found-clause-room g c = λ pages sees. holds_all g (goal.at.returns-in_err-found-clause-room g c).After-check_crc pages sees (header_items g (goal.at.returns-in_err-found-clause-room g c).After-check_header pages sees)

pub returns-in_err-read-clause-room : goal.returns-in_err-read-clause-room
returns-in_err-read-clause-room g c = λ pages sees. holds_all g (goal.at.returns-in_err-read-clause-room g c).After-check_crc pages sees (header_items g (goal.at.returns-in_err-read-clause-room g c).After-check_header pages sees)

pub returns-clause-room : goal.returns-clause-room
returns-clause-room g c = λ pages sees. holds_all g (goal.at.returns-clause-room g c).After-check_crc pages sees (header_items g (goal.at.returns-clause-room g c).After-check_header pages sees)

-- ---- where the next record stands

pub ready_over-requires-clause-timeline : goal.ready_over-requires-clause-timeline
ready_over-requires-clause-timeline g c =
    let size = c.args.buffers.now.cache.geometry in
    let extent = c.args.opened.extent in
    let value = g.K.KeepsRecord.kept c.found.new.value in
    let read : FoundRecord × RecordPlace = (found_with value c.in_ok-read.read.0, c.in_ok-read.read.1) in
    let was = ap (read_with value) c.in_ok-read.was in
    let behind = of_found (read_with value c.in_ok-found.field-0) (λ (read : FoundRecord × RecordPlace). read.1 ≡ behind_read size extent.at read.0 extent.total c.in_ok-cursor-2.cursor.timeline) read was c.in_ok-found.ensures.behind in
    ap (λ (next : RecordPlace). next.timeline) behind
