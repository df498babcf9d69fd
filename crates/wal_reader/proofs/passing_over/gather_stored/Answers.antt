use Rattle.std.proofs.Common.{◌≡◌, Result, Ok, Err, sym, ap, ◌∙◌, arith}
use Rattle.std.proofs.lemmas.Result.{err_from_is_err_and}
use Rattle.wal_reader.specs.declared.found.Answer.{Answer}
use Rattle.wal_reader.specs.declared.found.FoundRecord.{FoundRecord}
use Rattle.wal_reader.specs.declared.found.RecordHead.{RecordHead}
use Rattle.wal_reader.specs.declared.record_place.RecordPlace.{RecordPlace}
use Rattle.wal_reader.specs.Decodes.{page_of_byte}
use Rattle.wal_reader.specs.Filled.{found_with, read_with}
use Rattle.wal_reader.specs.PageCursor.{HasGathered, Sees}
use Rattle.wal_reader.specs.Pages.{Pages, bytes_from}
use Rattle.wal_reader.specs.PassingOver.{IsStoredRecord}
use Rattle.wal_reader.specs.RecordRead.{behind_read, without_place}
use Rattle.wal_reader.proofs.CacheLaws.{held_page}
use Rattle.wal_reader.proofs.RecordReads.{bytes_from-none, end_in_reach, found_behind, goes_on_behind, of_found}
use Rattle.wal_reader.proofs.StoredReads.{stored-crc_fails, stored-read, stored-stopped, stored_found_as}
use Rattle.wal_reader.proofs.passing_over.gather_stored.Goals as goal
use Rattle.wal_reader.proofs.passing_over.gather_stored.Goals.{After-check_crc}

pub returns-in_err-cursor-clause-reads : goal.returns-in_err-cursor-clause-reads
returns-in_err-cursor-clause-reads g c = λ pages sees.
    let stop = err_from_is_err_and c.from_residual.result c.from_residual.ensures.1 in
    rw (stop.1, stop.2) (stored-stopped c.args.buffers.now.cache.geometry pages c.args.opened.extent.at c.args.opened.extent.total c.args.opened.cursor.page c.requires.opened.page _ (c.in_err-cursor.ensures.gathers pages sees).checks)

-- all bytes were gathered
stored_bytes : (g : _) (c : After-check_crc g) (pages : Pages) → Sees (g.D.Disk.tape c.args.disk.now) c.args.buffers.now.cache pages → c.deref.result.now ≡ bytes_from c.args.buffers.now.cache.geometry pages c.args.opened.extent.total c.args.opened.extent.at.position
stored_bytes g c pages sees =
    c.deref.ensures.value ∙ (c.in_ok-cursor.ensures.gathers pages sees).bytes (c.clear.ensures.items ∙ sym (bytes_from-none c.args.buffers.now.cache.geometry pages c.args.opened.extent.at.position _ c.clear.ensures.len))

gathered_all : (g : _) (c : After-check_crc g) → HasGathered c.args.buffers.now.cache.geometry c.args.opened.extent.at.position c.args.opened.extent.total c.in_ok-cursor.cursor
gathered_all g c = rw c.in_ok-cursor.ensures.reads_on.geometry at c.in_ok-cursor.ensures.gathered.1.gathered

ends : (g : _) (c : After-check_crc g) → c.in_ok-cursor.cursor.page ≡ page_of_byte c.args.buffers.now.cache.geometry c.args.opened.extent.at.position c.args.opened.extent.total
ends g c = (gathered_all g c).last (omega (arith, c.requires.opened.large))

pub returns-in_err-check_crc-clause-reads : goal.returns-in_err-check_crc-clause-reads
returns-in_err-check_crc-clause-reads g c = λ pages sees.
    let after = (goal.at.returns-in_err-check_crc-clause-reads g c).After-check_crc in
    let stop = err_from_is_err_and c.from_residual-in_err-check_crc.result c.from_residual-in_err-check_crc.ensures.1 in
    rw (stop.1, stop.2) (stored-crc_fails c.args.buffers.now.cache.geometry pages c.args.opened.extent.at c.start-start.result c.args.opened.extent.total c.start-start.ensures c.args.opened.cursor.page c.in_ok-cursor.cursor.page c.requires.opened.page (ends g after) (c.in_ok-cursor.ensures.gathers pages sees).checks _ (stored_bytes g after pages sees) _ c.in_err-check_crc.ensures)

pub found_stored-requires-clause-end : goal.found_stored-requires-clause-end
found_stored-requires-clause-end g c =
    let after = (goal.at.found_stored-requires-clause-end g c).After-check_crc in
    end_in_reach c.args.buffers.now.cache.geometry c.args.opened.extent.at.position c.args.opened.extent.total c.in_ok-cursor.cursor (gathered_all g after) c.requires.opened.none.reachable.aligned (omega (arith, c.requires.opened.large))

pub returns-in_err-read-clause-reads : goal.returns-in_err-read-clause-reads
returns-in_err-read-clause-reads g c = λ pages sees.
    let after = (goal.at.returns-in_err-read-clause-reads g c).After-check_crc in
    let stop = err_from_is_err_and c.from_residual-in_err-read.result c.from_residual-in_err-read.ensures.1 in
    let read = stored-read c.args.buffers.now.cache.geometry pages c.args.opened.extent.at c.start-start.result c.args.opened.extent.total c.start-start.ensures c.args.opened.cursor.page c.in_ok-cursor.cursor.page c.requires.opened.page (ends g after) (c.in_ok-cursor.ensures.gathers pages sees).checks _ (stored_bytes g after pages sees) c.in_ok-check_crc.ensures in
    let same = c.deref-2.ensures.value ∙ sym c.deref.ensures.value in
    let said = stored_found_as c.args.buffers.now.cache.geometry c.args.opened.extent.at c.args.opened.extent.total c.deref.result.now c.deref-2.result.now (without_place (read_with c.found_stored.new.value c.in_ok-found_stored.field-0)) (Err c.in_err-read.field-0.0) same c.in_ok-found_stored.ensures.read (ap (λ (said : Result (RecordHead × RecordPlace) Answer). without_place (read_with c.found_stored.new.value said)) c.in_err-read.was) in
    rw (stop.1, stop.2) (read ∙ said)

pub returns-clause-reads : goal.returns-clause-reads
returns-clause-reads g c = λ pages sees.
    let after = (goal.at.returns-clause-reads g c).After-check_crc in
    let first = c.in_ok-cursor.ensures in
    let last = c.in_ok-cursor.cursor in
    let value = c.found_stored.new.value in
    let found = found_with value c.in_ok-read.read.0 in
    let was = ap (read_with value) c.in_ok-read.was in
    let read = stored-read c.args.buffers.now.cache.geometry pages c.args.opened.extent.at c.start-start.result c.args.opened.extent.total c.start-start.ensures c.args.opened.cursor.page last.page c.requires.opened.page (ends g after) (first.gathers pages sees).checks _ (stored_bytes g after pages sees) c.in_ok-check_crc.ensures in
    let same = c.deref-2.ensures.value ∙ sym c.deref.ensures.value in
    let said = stored_found_as c.args.buffers.now.cache.geometry c.args.opened.extent.at c.args.opened.extent.total c.deref.result.now c.deref-2.result.now (without_place (read_with value c.in_ok-found_stored.field-0)) (Ok found) same c.in_ok-found_stored.ensures.read (ap without_place was) in
    let here = held_page (g.D.Disk.tape c.gather.new.disk) c.gather.new.buffers.cache pages last.page (first.reads_on.sees pages sees) first.gathered.1.on.0 in
    let behind = found_behind c.args.buffers.now.cache.geometry pages c.args.opened.extent.at c.args.opened.extent.total _ _ found last c.gather.new.buffers.cache.bytes.value said (ends g after) here first.gathered.1.on.1 in
    let extent = c.args.opened.extent in
    let at_page = of_found (read_with value c.in_ok-found_stored.field-0) (λ (read : FoundRecord × RecordPlace). read.1 ≡ behind_read c.args.buffers.now.cache.geometry extent.at read.0 extent.total last.timeline) (found, c.in_ok-read.read.1) was c.in_ok-found_stored.ensures.behind in
    (read ∙ said, at_page ∙ behind)

pub returns-clause-reachable : goal.returns-clause-reachable
returns-clause-reachable g c =
    let extent = c.args.opened.extent in
    let after = (goal.at.returns-clause-reachable g c).After-check_crc in
    let bound = end_in_reach c.args.buffers.now.cache.geometry extent.at.position extent.total c.in_ok-cursor.cursor (gathered_all g after) c.requires.opened.none.reachable.aligned (omega (arith, c.requires.opened.large)) in
    let size = c.args.buffers.now.cache.geometry in
    let value = c.found_stored.new.value in
    let read : FoundRecord × RecordPlace = (found_with value c.in_ok-read.read.0, c.in_ok-read.read.1) in
    let was = ap (read_with value) c.in_ok-read.was in
    let behind = of_found (read_with value c.in_ok-found_stored.field-0) (λ (read : FoundRecord × RecordPlace). read.1 ≡ behind_read size extent.at read.0 extent.total c.in_ok-cursor.cursor.timeline) read was c.in_ok-found_stored.ensures.behind in
    (goes_on_behind size c.requires.opened.none.gathered.stands.valid extent.at read.1 extent.total read.0.value c.requires.opened.none.reachable c.requires.opened.large (bound read.0.value) (ap (λ (next : RecordPlace). next.position) behind)).1

pub returns-clause-stored : goal.returns-clause-stored
returns-clause-stored g c =
    let value = c.found_stored.new.value in
    let read : FoundRecord × RecordPlace = (found_with value c.in_ok-read.read.0, c.in_ok-read.read.1) in
    of_found (read_with value c.in_ok-found_stored.field-0) (λ (read : FoundRecord × RecordPlace). IsStoredRecord read.0) read (ap (read_with value) c.in_ok-read.was) c.in_ok-found_stored.ensures.stored
