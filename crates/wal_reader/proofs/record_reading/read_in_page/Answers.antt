use Rattle.std.proofs.Common.{◌≡◌, ℕ, List, Result, take, drop, subst, sym, ap, ◌∙◌, arith}
use Rattle.std.specs.Prelude.{IfOk}
use Rattle.std.proofs.lemmas.Result.{err_from_is_err_and}
use Rattle.byte_position.specs.Position.{address_of, end_address_of}
use Rattle.wal_reader.specs.declared.found.Answer.{Answer}
use Rattle.wal_reader.specs.declared.found.RecordHead.{RecordHead}
use Rattle.wal_reader.specs.declared.found.FoundRecord.{FoundRecord}
use Rattle.wal_reader.specs.declared.record_place.RecordPlace.{RecordPlace}
use Rattle.wal_reader.specs.RecordRead.{behind_read, without_place}
use Rattle.wal_reader.specs.Filled.{found_with, read_with}
use Rattle.wal_reader.specs.Spelled.{IsSpelled}
use Rattle.wal_reader.proofs.RecordReads.{of_found, header_fails_here, crc_fails_here, read_here, found_here, end_in_page, goes_on_behind}
use Rattle.wal_reader.proofs.StartLaws.{address_at_cursor}
use Rattle.wal_reader.proofs.record_reading.read_in_page.Goals as goal
use Rattle.wal_reader.proofs.record_reading.read_in_page.Goals.{After-part_of_page-bytes}

own : (g : _) (c : After-part_of_page-bytes g) → c.part_of_page-bytes.result.now ≡ take c.args.opened.extent.total (drop c.args.opened.cursor.offset c.args.cache.now.bytes.value)
own g c = c.part_of_page-bytes.ensures.bytes ∙ ap (λ (page : List ℕ). take c.args.opened.extent.total (drop c.args.opened.cursor.offset page)) c.deref.ensures

own_start : (g : _) (c : After-part_of_page-bytes g) → c.address-start.result.0 ≡ address_of c.args.cache.now.geometry c.args.opened.extent.at.position
own_start g c =
    c.address-start.ensures
    ∙ address_at_cursor c.args.cache.now.geometry c.args.opened.extent.at.position c.args.opened.cursor c.requires.opened.none.gathered (omega (arith, c.requires.opened.large, c.requires.within))

pub found-requires-clause-start : goal.found-requires-clause-start
found-requires-clause-start g c = own_start g ((goal.at.found-requires-clause-start g c).After-part_of_page-bytes)

pub returns-in_err-check_header-clause-reads : goal.returns-in_err-check_header-clause-reads
returns-in_err-check_header-clause-reads g c = λ pages here.
    let before = (goal.at.returns-in_err-check_header-clause-reads g c).After-part_of_page-bytes in
    let size = c.args.cache.now.geometry in
    let stop = err_from_is_err_and c.from_residual.result c.from_residual.ensures.1 in
    rw (stop.1, stop.2) (header_fails_here size pages c.args.opened.extent.at c.address-start.result c.args.opened.extent.total c.args.opened.cursor _ _ (own_start g before) c.requires.opened.page c.requires.opened.none.gathered here c.requires.whole c.requires.opened.large c.requires.within (own g before) _ c.in_err-check_header.ensures)

pub returns-in_err-check_crc-clause-reads : goal.returns-in_err-check_crc-clause-reads
returns-in_err-check_crc-clause-reads g c = λ pages here.
    let before = (goal.at.returns-in_err-check_crc-clause-reads g c).After-part_of_page-bytes in
    let size = c.args.cache.now.geometry in
    let stop = err_from_is_err_and c.from_residual-in_err-check_crc.result c.from_residual-in_err-check_crc.ensures.1 in
    rw (stop.1, stop.2) (crc_fails_here size pages c.args.opened.extent.at c.address-start.result c.args.opened.extent.total c.args.opened.cursor _ _ (own_start g before) c.requires.opened.page c.requires.opened.none.gathered here c.requires.whole c.requires.opened.large c.requires.within (own g before) c.in_ok-check_header.ensures _ c.in_err-check_crc.ensures)

pub found-requires-clause-end : goal.found-requires-clause-end
found-requires-clause-end g c =
    end_in_page c.args.cache.now.geometry c.args.opened.extent.at.position c.args.opened.extent.total c.args.opened.cursor c.requires.opened.none.gathered c.requires.within c.requires.opened.large c.requires.opened.none.reachable.aligned

pub returns-in_err-read-clause-reads : goal.returns-in_err-read-clause-reads
returns-in_err-read-clause-reads g c = λ pages here.
    let before = (goal.at.returns-in_err-read-clause-reads g c).After-part_of_page-bytes in
    let size = c.args.cache.now.geometry in
    let stop = err_from_is_err_and c.from_residual-in_err-read.result c.from_residual-in_err-read.ensures.1 in
    let read = read_here size pages c.args.opened.extent.at c.address-start.result c.args.opened.extent.total c.args.opened.cursor _ _ (own_start g before) c.requires.opened.page c.requires.opened.none.gathered here c.requires.whole c.requires.opened.large c.requires.within (own g before) c.in_ok-check_header.ensures c.in_ok-check_crc.ensures in
    rw (stop.1, stop.2) (read ∙ sym c.in_ok-found.ensures.read ∙ ap (λ (said : Result (RecordHead × RecordPlace) Answer). without_place (read_with (g.K.KeepsRecord.kept c.found.new.value) said)) c.in_err-read.was)

pub returns-clause-answered : goal.returns-clause-answered
returns-clause-answered g c =
    let size = c.args.cache.now.geometry in
    let extent = c.args.opened.extent in
    let value = g.K.KeepsRecord.kept c.found.new.value in
    let read : FoundRecord × RecordPlace = (found_with value c.in_ok-read.read.0, c.in_ok-read.read.1) in
    let was = ap (read_with value) c.in_ok-read.was in
    let bound = end_in_page size extent.at.position extent.total c.args.opened.cursor c.requires.opened.none.gathered c.requires.within c.requires.opened.large c.requires.opened.none.reachable.aligned in
    let behind = of_found (read_with value c.in_ok-found.field-0) (λ (read : FoundRecord × RecordPlace). read.1 ≡ behind_read size extent.at read.0 extent.total c.args.opened.cursor.timeline) read was c.in_ok-found.ensures.behind in
    let ends = subst (λ (said : Result (RecordHead × RecordPlace) Answer). IfOk said (λ read. read.0.end.0 ≡ end_address_of size read.1.position)) c.in_ok-read.was c.in_ok-found.ensures.end in
    record {
      further = goes_on_behind size c.requires.opened.none.gathered.stands.valid extent.at read.1 extent.total read.0.value c.requires.opened.none.reachable c.requires.opened.large (bound read.0.value) (ap (λ (next : RecordPlace). next.position) behind);
      behind = (sym ends, ap (λ (next : RecordPlace). next.prev) behind);
      spelled = of_found (read_with value c.in_ok-found.field-0) (λ (read : FoundRecord × RecordPlace). IsSpelled read.0) read was c.in_ok-found.ensures.spelled;
    }

pub returns-clause-timeline : goal.returns-clause-timeline
returns-clause-timeline g c =
    let size = c.args.cache.now.geometry in
    let extent = c.args.opened.extent in
    let value = g.K.KeepsRecord.kept c.found.new.value in
    let read : FoundRecord × RecordPlace = (found_with value c.in_ok-read.read.0, c.in_ok-read.read.1) in
    let was = ap (read_with value) c.in_ok-read.was in
    let behind = of_found (read_with value c.in_ok-found.field-0) (λ (read : FoundRecord × RecordPlace). read.1 ≡ behind_read size extent.at read.0 extent.total c.args.opened.cursor.timeline) read was c.in_ok-found.ensures.behind in
    ap (λ (next : RecordPlace). next.timeline) behind

pub returns-clause-reads : goal.returns-clause-reads
returns-clause-reads g c = λ pages here.
    let before = (goal.at.returns-clause-reads g c).After-part_of_page-bytes in
    let size = c.args.cache.now.geometry in
    let extent = c.args.opened.extent in
    let value = g.K.KeepsRecord.kept c.found.new.value in
    let read : FoundRecord × RecordPlace = (found_with value c.in_ok-read.read.0, c.in_ok-read.read.1) in
    let was = ap (read_with value) c.in_ok-read.was in
    let reads = read_here size pages extent.at c.address-start.result extent.total c.args.opened.cursor _ _ (own_start g before) c.requires.opened.page c.requires.opened.none.gathered here c.requires.whole c.requires.opened.large c.requires.within (own g before) c.in_ok-check_header.ensures c.in_ok-check_crc.ensures in
    let said = sym c.in_ok-found.ensures.read ∙ ap without_place was in
    let at_page = of_found (read_with value c.in_ok-found.field-0) (λ (read : FoundRecord × RecordPlace). read.1 ≡ behind_read size extent.at read.0 extent.total c.args.opened.cursor.timeline) read was c.in_ok-found.ensures.behind in
    let behind = found_here size pages extent.at c.address-start.result extent.total c.args.opened.cursor _ _ (own_start g before) c.requires.opened.page c.requires.opened.none.gathered here c.requires.whole c.requires.opened.large c.requires.within (own g before) read.0 c.requires.opened.none.on.1 said in
    (reads ∙ said, at_page ∙ behind)
