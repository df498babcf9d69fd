use Rattle.std.proofs.Common.{◌≡◌, ℕ, ◌≤◌, List, Option, subst, sym, ◌∙◌, arith, rules}
use Rattle.std.specs.Prelude.{IfSome}
use Rattle.std.proofs.lemmas.Result.{err_from_is_err_and}
use Rattle.byte_position.specs.Geometry.{IsSegmentSize}
use Rattle.segment_disk.specs.Tape.{Tape}
use Rattle.found_log.specs.Reading.{IsReadLog}
use Rattle.found_log.specs.Words.{words_upto}
use Rattle.found_log.specs.declared.finding.FoundLog.{FoundLog}
use Rattle.found_log.specs.declared.fault.FindFault.{FindFault}
use Rattle.found_log.specs.Found.{RefusesLog}
use Rattle.found_log.proofs.FindLaws.{finds_log, refuses_disk}
use Rattle.found_log.proofs.ThereLaws.{refuses_unread}
use Rattle.found_log.proofs.WordLaws.{AreEndWords}
use Rattle.found_log.proofs.finding.find.Goals as goal

pub returns-in_err-read-clause-refused : goal.returns-in_err-read-clause-refused
returns-in_err-read-clause-refused g c =
    let a = c.args in
    let made = c.in_ok-made.made in
    let valid : IsSegmentSize a.geometry = search rules in
    let few : made ≤ 4096 = omega (arith, c.in_ok-made.ensures.within, c.requires.few) in
    let p = err_from_is_err_and c.from_residual-in_err-read.result
    c.from_residual-in_err-read.ensures.1 in
    rw (p.1, p.2) (refuses_unread a.geometry a.cap made valid few (g.D.Disk.tape a.disk.now)
    (g.D.Disk.tape c.count_allowed.new.disk) _ c.in_ok-made.ensures.uncalled.same_tape
    c.in_ok-made.ensures.counted c.in_err-read.ensures.refused)

pub returns-in_err-read_end_page-clause-refused : goal.returns-in_err-read_end_page-clause-refused
returns-in_err-read_end_page-clause-refused g c =
    let a = c.args in
    let tape = g.D.Disk.tape a.disk.now in
    let p = err_from_is_err_and c.from_residual-in_err-read_end_page.result
    c.from_residual-in_err-read_end_page.ensures.1 in
    rw (p.1, p.2) (subst (λ (fault : FindFault). IfSome tape (RefusesLog a.geometry a.cap fault))
    (sym c.in_err-read_end_page.ensures.failed) (refuses_disk a.geometry a.cap tape
    (g.D.Disk.faults c.read_end_page.new.disk)))

pub returns-clause-found : goal.returns-clause-found
returns-clause-found g c =
    let a = c.args in
    let made = c.in_ok-made.made in
    let read = c.in_ok-read.read in
    let page = c.read_end_page.new.page in
    let valid : IsSegmentSize a.geometry = search rules in
    let log : FoundLog = record {
      count = read.count;
      end = read.end;
      position = c.position_of.result;
      last_start = read.last_start;
      page = record c.in-Ok.page { value = page };
      made = made;
      below = c.upto-below.result;
    } in
    let counted = c.in_ok-made.ensures.uncalled.same_tape in
    let gone = c.in_ok-read.ensures.uncalled.same_tape ∙ counted in
    let held = c.in_ok-read_end_page.ensures.uncalled.same_tape ∙ gone in
    let reads = subst (λ (tape : Option Tape). IsReadLog a.geometry made tape read) counted
    c.in_ok-read.ensures.read in
    let told = subst (λ (bytes : List ℕ). c.upto-below.result.words ≡ words_upto a.geometry
    (g.D.Disk.tape c.read_end_page.new.disk) read.end.0 bytes) c.deref.ensures c.upto-below.ensures
    in
    let words = subst (λ (tape : Option Tape). c.upto-below.result.words ≡ words_upto a.geometry
    tape read.end.0 page) held told in
    let inside = subst (λ (tape : Option Tape). IfSome tape (AreEndWords a.geometry read.end.0
    page)) gone c.in_ok-read_end_page.ensures.read in
    finds_log a.geometry a.cap valid log (g.D.Disk.tape a.disk.now) reads
    c.in_ok-made.ensures.counted c.in_ok-made.ensures.within c.position_of.ensures words inside
