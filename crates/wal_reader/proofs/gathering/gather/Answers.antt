use Rattle.std.proofs.Common.{◌≡◌, ℕ, ◌<◌, vec_len, refl, sym, ap, subst, ◌∙◌, arith}
use Rattle.std.proofs.lemmas.Result.{err_from_is_err_and}
use Rattle.wal_reader.proofs.CacheLaws.{held_page}
use Rattle.wal_reader.specs.PageCursor.{HasGathered}
use Rattle.wal_reader.specs.Pages.{bytes_from}
use Rattle.wal_reader.proofs.ReadsOnLaws.{reads_more, reads_none}
use Rattle.wal_reader.proofs.GatherLaws.{crosses_further, crosses_none, page_rises, told_behind}
use Rattle.wal_reader.proofs.gathering.gather.Goals as goal

pub returns-in_err-cursor-clause-gathers : goal.returns-in_err-cursor-clause-gathers
returns-in_err-cursor-clause-gathers g c = λ pages sees.
    let size = c.args.buffers.now.cache.geometry in
    let extent = c.args.gathering.extent in
    let inv = c.pages.invariant in
    let stop = err_from_is_err_and c.from_residual.result c.from_residual.ensures.1 in
    let more : vec_len c.pages.buffers.room < c.args.upto = omega (arith, c.len.ensures) in
    let told = c.in_err-cursor.ensures.checks pages (inv.reads_on.sees pages sees) c.args.upto (omega (arith, more, c.len-gathered.ensures)) in
    let rises = page_rises size extent.at.position (vec_len c.pages.buffers.room) c.args.upto c.pages.cursor inv.gathered more in
    record {
      bytes = λ had. rw stop.1 tt;
      passed = λ had. record { count = vec_len c.pages.buffers.room; page = c.pages.cursor.page; bytes = inv.bytes pages sees had; last = inv.gathered.last; crossed = inv.crosses pages sees };
      checks = rw (stop.1, stop.2) (told_behind size pages extent.at extent.total c.args.gathering.cursor.page c.pages.cursor.page _ (inv.crosses pages sees) rises _ (rw inv.reads_on.geometry at told));
    }

pub pages-preserved : goal.pages-preserved
pages-preserved g c =
    let inv = c.pages.invariant in
    let turned = c.in_ok-cursor.ensures in
    let took = c.in_ok-cursor-2.ensures in
    let reads_on = reads_more inv.reads_on turned.reads_on in
    let same = reads_on.geometry in
    record {
      reads_on = reads_on;
      len = took.len.1;
      on = took.cursor.0;
      passed = rw took.page turned.passed;
      beyond = λ far.
          (let before = inv.beyond far in
          let now = turned.beyond (omega (arith, far, before.2)) in
          (now.0 ∙ before.0, now.1 ∙ before.1, took.page ∙ now.2 ∙ before.2));
      gathered = rw same at took.cursor.1;
      bytes = λ pages sees had.
          (let here = held_page (g.D.Disk.tape c.pass_border.new.disk) c.pass_border.new.cache pages c.in_ok-cursor.cursor.page (reads_on.sees pages sees) turned.cursor.0.0 in
          (rw same at (took.bytes pages here)) (inv.bytes pages sees had));
      crosses = λ pages sees.
          (let crossed = crosses_further _ pages _ _ _ _ _ (inv.crosses pages sees) (rw inv.reads_on.geometry at (turned.checks pages (inv.reads_on.sees pages sees))) in
          rw took.page crossed);
      faults = turned.cause ∙ inv.faults;
    }

pub returns-in_err-cursor-clause-beyond : goal.returns-in_err-cursor-clause-beyond
returns-in_err-cursor-clause-beyond g c = λ far.
    let stop = err_from_is_err_and c.from_residual.result c.from_residual.ensures.1 in
    let before = c.pages.invariant.beyond far in
    let now = c.in_err-cursor.ensures.beyond (omega (arith, far, before.2)) in
    (now.0 ∙ before.0, now.1 ∙ before.1, rw stop.1 tt)

pub returns-in_err-cursor-2-clause-beyond : goal.returns-in_err-cursor-2-clause-beyond
returns-in_err-cursor-2-clause-beyond g c = λ far.
    let stop = err_from_is_err_and c.from_residual-in_err-cursor-2.result c.from_residual-in_err-cursor-2.ensures.1 in
    let before = c.pages.invariant.beyond far in
    let now = c.in_ok-cursor.ensures.beyond (omega (arith, far, before.2)) in
    (now.0 ∙ before.0, now.1 ∙ before.1, rw stop.1 tt)

pub pages-init : goal.pages-init
pages-init g c = record {
  reads_on = reads_none g.D.Disk.tape g.D.Disk.moment c.args.disk.now c.args.buffers.now.cache;
  len = c.requires.upto.0;
  on = c.requires.gathering.on;
  passed = c.requires.passed;
  beyond = λ far. (refl, refl, refl);
  gathered = c.requires.gathering.gathered;
  bytes = λ pages sees had. had;
  crosses = λ pages sees. crosses_none c.args.buffers.now.cache.geometry pages c.args.gathering.extent.at c.args.gathering.extent.total c.args.gathering.cursor.page;
  faults = refl;
}

pub returns-in_err-cursor-2-clause-gathers : goal.returns-in_err-cursor-2-clause-gathers
returns-in_err-cursor-2-clause-gathers g c = λ pages sees.
    let inv = c.pages.invariant in
    let stop = err_from_is_err_and c.from_residual-in_err-cursor-2.result c.from_residual-in_err-cursor-2.ensures.1 in
    record {
      bytes = λ had. rw stop.1 tt;
      passed = λ had. record { count = vec_len c.pages.buffers.room; page = c.pages.cursor.page; bytes = c.in_err-cursor-2.ensures.kept ∙ inv.bytes pages sees had; last = inv.gathered.last; crossed = inv.crosses pages sees };
      checks = rw (stop.1, stop.2) tt;
    }

pub returns-clause-gathered : goal.returns-clause-gathered
returns-clause-gathered g c =
    let inv = c.pages.invariant in
    let position = c.args.gathering.extent.at.position in
    let full : vec_len c.pages.buffers.room ≡ c.args.upto = omega (arith, inv.len, c.len.ensures, c.pages-test.false) in
    let sized = subst (λ (size : ℕ). HasGathered size position (vec_len c.pages.buffers.room) c.pages.cursor) (sym inv.reads_on.geometry) inv.gathered in (
      full,
      record {
        reachable = c.requires.gathering.reachable;
        on = inv.on;
        gathered = subst (λ (n : ℕ). HasGathered c.pages.buffers.cache.geometry position n c.pages.cursor) full sized;
      },
    )

pub returns-clause-gathers : goal.returns-clause-gathers
returns-clause-gathers g c = λ pages sees.
    let inv = c.pages.invariant in
    let full : vec_len c.pages.buffers.room ≡ c.args.upto = omega (arith, inv.len, c.len.ensures, c.pages-test.false) in
    record {
      bytes = λ had. inv.bytes pages sees had ∙ ap (λ (n : ℕ). bytes_from c.args.buffers.now.cache.geometry pages n c.args.gathering.extent.at.position) full;
      passed = λ had. record { count = vec_len c.pages.buffers.room; page = c.pages.cursor.page; bytes = inv.bytes pages sees had; last = inv.gathered.last; crossed = inv.crosses pages sees };
      checks = inv.crosses pages sees;
    }
