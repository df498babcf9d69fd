use Rattle.std.proofs.Common.{◌≡◌, ℕ, ◌%◌, Bool, false, true, length, subst}
use Rattle.std.specs.Prelude.{IfSome}
use Rattle.found_log.proofs.WordLaws.{IsEndPageRead, no_words, words_blank, words_read}
use Rattle.found_log.proofs.finding.read_end_page.Goals as goal
use Rattle.found_log.proofs.finding.read_end_page.Goals.{then-within-ne0+in-Ok-false, else-within-ne0}

pub returns-in-Ok-true-clause-read : goal.returns-in-Ok-true-clause-read
returns-in-Ok-true-clause-read g c =
    let a = c.args in
    let tape = g.D.Disk.tape a.disk.now in
    let is = c.segment_size-size.ensures.value in
    let valid = rw is at c.segment_size-size.ensures.valid in
    let bytes = c.read_page.new.bytes in
    let there = subst (λ (there : Bool). IfSome tape (IsEndPageRead c.segment_size-size.result
    a.end.0 there bytes)) c.in-Ok-true.field-0-test c.in-Ok-true.ensures.reads in
    words_read a.geometry valid a.end.0 c.requires.low bytes tape
    (subst (λ (size : ℕ). IfSome tape (IsEndPageRead size a.end.0 true bytes)) is there)

pub returns-clause-read : goal.returns-clause-read
returns-clause-read g c =
    let a = c.args in
    let tape = g.D.Disk.tape a.disk.now in
    let is = c.segment_size-size.ensures.value in
    let valid = rw is at c.segment_size-size.ensures.valid in
    elim c.if-within-ne0.branch [
      | then-within-ne0+in-Ok-false w ↦
          (let buffer = w.read_page.new.bytes in
          let absent = subst (λ (there : Bool). IfSome tape (IsEndPageRead
          c.segment_size-size.result a.end.0 there buffer)) w.in-Ok-false.field-0-test
          w.in-Ok-false.ensures.reads in
          words_blank a.geometry valid a.end.0 c.requires.low c.fill.new.self tape buffer
          (length c.if-within-ne0.page) (c.fill.ensures.after (λ y same. same))
          (subst (λ (size : ℕ). IfSome tape (IsEndPageRead size a.end.0 false buffer)) is absent))
      | else-within-ne0 w ↦
          (let start : a.end.0 % c.segment_size-size.result % 8192 ≡ 0 = w.if-within-ne0.false in
          no_words a.geometry valid a.end.0 c.fill.new.self tape
          (subst (λ (size : ℕ). a.end.0 % size % 8192 ≡ 0) is start))
    ]
