use Rattle.std.proofs.Common.{◌≡◌, ℕ, ◌*◌, ◌/◌, ◌%◌, List, [], ◌∷◌, ◌++◌, nat_lt, refl, sym, ap, ◌∙◌, subst, arith}
use Rattle.std.proofs.lemmas.Result.{err_from_is_err_and}
use mathlib.Core.Option.{some}
use Rattle.byte_position.specs.Geometry.{pages_of}
use Rattle.segment_disk.specs.declared.disk.Call.{Call}
use Rattle.segment_disk.specs.Tape.{write_call}
use Rattle.flush_core.specs.Calls.{calls_behind, make_calls, page_upto}
use Rattle.machine_state.specs.Views.{Plain}
use Rattle.machine_state.specs.declared.setup.Setup.{Setup}
use Rattle.wal_rule.specs.SeatedPasses.{setup_of, view_of}
use Rattle.word_ring.specs.InHand.{CallsEnd, writer_in}
use Rattle.word_ring.specs.MadeCalls.{HasBrokenOff, HasCalled}
use Rattle.word_ring.specs.Written.{IsPagePut, IsPageWritten, IsSegmentThere, IsSettledBehind, LeavesAlone}
use Rattle.word_ring.proofs.CountBounds.{in_bounds}
use Rattle.word_ring.proofs.CallLists.{breaks_in_first, breaks_in_second, breaks_in_third, called_on}
use Rattle.word_ring.proofs.HandLaws.{behind_others, failed_behind, further, has_lent, known_kept, loaded, same_setup, unchanged}
use Rattle.word_ring.proofs.OutLaws.{behind_put, there_on}
use Rattle.word_ring.proofs.PageLaws.{loaded_at, same_known, same_writer}
use Rattle.word_ring.proofs.PageNumbers.{next_of_log, next_write}
use Rattle.word_ring.proofs.PutCalls.{all_in_order, full, in_order, made, make_again, settled, written}
use Rattle.word_ring.proofs.writing.write_next.Goals as goal

pub make_segment-requires-clause-next : goal.make_segment-requires-clause-next
make_segment-requires-clause-next g c =
    let pass = c.settle_before.new.seated in
    let ends = c.in_ok-settle_before.ensures.ends in
    let same = c.from-pages.ensures in
    let many = c.pages.ensures.bound in
    next_of_log pass
    (in_bounds (view_of pass) pass.seated.stands
    (has_lent g.D.Disk.tape g.D.Disk.moment g.D.Disk.faults pass ends.hand))
    c.args.page c.from-pages.result
    (ap (λ (n : ℕ). 8192 * n) c.from-pages.ensures ∙ c.pages.ensures.whole ∙ c.geometry.ensures
    ∙ ap (λ (s : Setup). s.seg_size)
    (c.shape-shape.ensures ∙ sym (same_setup c.args.seated.now pass ends.changes.same_table)))
    (omega (arith, same, many))
    (c.requires.page ∙ sym (ap (λ (n : ℕ). n / 8192) ends.told.written))

pub overflow_mul-page : goal.overflow_mul-page
overflow_mul-page g c =
    let pass = c.args.seated.now in
    let bounds = in_bounds (view_of pass) pass.seated.stands
    (has_lent g.D.Disk.tape g.D.Disk.moment g.D.Disk.faults pass c.requires.ready.hand) in
    let low = bounds.written in
    let page = c.requires.page in
    omega (arith, low, page)

pub put_page-requires-clause-next : goal.put_page-requires-clause-next
put_page-requires-clause-next g c =
    let a = c.args.seated.now in
    let s = c.settle_before.new.seated in
    let k = c.make_segment.new.seated in
    let m = c.load_page.new.seated in
    let loads = c.load_page.ensures.loads.1 in
    let settled_first = c.in_ok-settle_before.ensures.ends in
    let made_next = c.in_ok-make_segment.ensures.ends in
    let same = c.from-pages.ensures in
    let many = c.pages.ensures.bound in
    next_write (setup_of m) (view_of m) (writer_in (view_of a)) c.args.page c.from-pages.result
    c.args.known c.min-upto.result c.load_page.new.bytes
    (c.from-pages.ensures ∙ c.pages.ensures.value ∙ ap pages_of (c.geometry.ensures
    ∙ ap (λ (t : Setup). t.seg_size) (c.shape-shape.ensures
    ∙ sym (same_setup a m (loads.view.same_table ∙ made_next.changes.same_table
    ∙ settled_first.changes.same_table)))))
    (omega (arith, same, many)) c.requires.page c.requires.left
    (c.requires.known ∙ sym (same_known k m _ loads.view ∙ known_kept s k made_next.changes
    ∙ known_kept a s settled_first.changes))
    (in_bounds (view_of m) m.seated.stands
    (has_lent g.D.Disk.tape g.D.Disk.moment g.D.Disk.faults m loads.hand)).whole
    c.min-upto.ensures
    (there_on (c.args.page / c.from-pages.result) (writer_in (view_of a)) (writer_in (view_of s))
    (writer_in (view_of k)) (writer_in (view_of m)) settled_first.told made_next.told
    (same_writer k m _ loads.view))
    (omega arith)
    (loaded_at k m _ loads.view c.args.page c.load_page.new.bytes c.load_page.ensures.loads.2)

-- ---- a call failed

pub returns-in_err-settle_before : goal.returns-in_err-settle_before
returns-in_err-settle_before g c =
    let a = c.args.seated.now in
    let size = (setup_of a).seg_size in
    let w = writer_in (view_of a) in
    let count = c.from-pages.result in
    let upto = page_upto c.args.known c.args.page in
    let many : c.from-pages.result ≡ pages_of (setup_of a).seg_size = c.from-pages.ensures
    ∙ c.pages.ensures.value ∙ ap pages_of (c.geometry.ensures
    ∙ ap (λ (t : Setup). t.seg_size) c.shape-shape.ensures) in
    let s = c.settle_before.new.seated in
    let bytes = c.args.bytes.now in
    let p = err_from_is_err_and c.from_residual.result
    c.from_residual.ensures.1 in
    rw (p.1, p.2)
    (record {
      ends = failed_behind g.D.Disk.tape g.D.Disk.moment g.D.Disk.faults
          (LeavesAlone (c.args.page / count)) (IsPageWritten size c.args.known) _ _ a a s _
          (unchanged a a (record { same_table = refl; same_seat = refl })
          (has_lent g.D.Disk.tape g.D.Disk.moment g.D.Disk.faults a c.requires.ready.hand))
          c.in_err-settle_before.ensures.ends
          (breaks_in_first (settled size count c.args.page upto bytes w)
          (made size count c.args.page upto bytes w)
          (written size count c.args.page upto bytes w)
          (full size count c.args.page upto bytes w) _
          (in_order size count c.args.page upto bytes w many)
          w (writer_in (view_of s)) w w c.in_err-settle_before.ensures.ends.called);
    })

pub returns-in_err-make_segment : goal.returns-in_err-make_segment
returns-in_err-make_segment g c =
    let a = c.args.seated.now in
    let size = (setup_of a).seg_size in
    let w = writer_in (view_of a) in
    let count = c.from-pages.result in
    let upto = page_upto c.args.known c.args.page in
    let many : c.from-pages.result ≡ pages_of (setup_of a).seg_size = c.from-pages.ensures
    ∙ c.pages.ensures.value ∙ ap pages_of (c.geometry.ensures
    ∙ ap (λ (t : Setup). t.seg_size) c.shape-shape.ensures) in
    let s = c.settle_before.new.seated in
    let settled_first = c.in_ok-settle_before.ensures.ends in
    let ws = writer_in (view_of s) in
    let k = c.make_segment.new.seated in
    let wk = writer_in (view_of k) in
    let made_again = make_again (setup_of s).seg_size size (c.args.page / count) ws.made w.made
    (ap (λ (t : Setup). t.seg_size) (same_setup a s settled_first.changes.same_table))
    settled_first.told.made in
    let bytes = c.args.bytes.now in
    let p = err_from_is_err_and c.from_residual-in_err-make_segment.result
    c.from_residual-in_err-make_segment.ensures.1 in
    rw (p.1, p.2)
    (record {
      ends = failed_behind g.D.Disk.tape g.D.Disk.moment g.D.Disk.faults
          (IsSegmentThere (c.args.page / count)) (IsPageWritten size c.args.known) _ _ a s k _
          settled_first.changes c.in_err-make_segment.ensures.ends
          (breaks_in_second (settled size count c.args.page upto bytes w)
          (made size count c.args.page upto bytes w)
          (written size count c.args.page upto bytes w)
          (full size count c.args.page upto bytes w) _
          (in_order size count c.args.page upto bytes w many)
          w ws wk w settled_first.called
          (subst (λ (l : List Call). HasBrokenOff l ws wk) made_again
          c.in_err-make_segment.ensures.ends.called));
    })

pub returns-in_err-put_page : goal.returns-in_err-put_page
returns-in_err-put_page g c =
    let a = c.args.seated.now in
    let size = (setup_of a).seg_size in
    let w = writer_in (view_of a) in
    let count = c.from-pages.result in
    let upto = page_upto c.args.known c.args.page in
    let many : c.from-pages.result ≡ pages_of (setup_of a).seg_size = c.from-pages.ensures
    ∙ c.pages.ensures.value ∙ ap pages_of (c.geometry.ensures
    ∙ ap (λ (t : Setup). t.seg_size) c.shape-shape.ensures) in
    let s = c.settle_before.new.seated in
    let settled_first = c.in_ok-settle_before.ensures.ends in
    let ws = writer_in (view_of s) in
    let k = c.make_segment.new.seated in
    let wk = writer_in (view_of k) in
    let made_again = make_again (setup_of s).seg_size size (c.args.page / count) ws.made w.made
    (ap (λ (t : Setup). t.seg_size) (same_setup a s settled_first.changes.same_table))
    settled_first.told.made in
    let made_next = c.in_ok-make_segment.ensures.ends in
    let m = c.load_page.new.seated in
    let loads = c.load_page.ensures.loads.1 in
    let wm = writer_in (view_of m) in
    let bytes = c.load_page.new.bytes in
    let to_m : setup_of m ≡ setup_of a = same_setup a m (loads.view.same_table
    ∙ made_next.changes.same_table ∙ settled_first.changes.same_table) in
    let made_so = subst (λ (l : List Call). HasCalled l ws wm) made_again
    (subst (λ (x : Plain). HasCalled (make_calls (setup_of s).seg_size (c.args.page / count)
    (nat_lt ws.made (c.args.page / count))) ws x) (sym (same_writer k m _ loads.view))
    made_next.called) in
    let written_again = ap (λ (t : Setup). write_call t.seg_size (c.args.page / count)
    (c.args.page % count) bytes ∷ []) to_m in
    let b = c.put_page.new.seated in
    let wb = writer_in (view_of b) in
    let before = further a k m (further a s k settled_first.changes
    made_next.changes) (loaded g.D.Disk.tape g.D.Disk.moment g.D.Disk.faults k m _ loads) in
    let p = err_from_is_err_and c.from_residual-in_err-put_page.result
    c.from_residual-in_err-put_page.ensures.1 in
    rw (p.1, p.2)
    (record {
      ends = failed_behind g.D.Disk.tape g.D.Disk.moment g.D.Disk.faults
          (IsPagePut (c.args.page / count) c.min-upto.result) (IsPageWritten size c.args.known)
          _ _ a m b _ before c.in_err-put_page.ensures.ends
          (breaks_in_third (settled size count c.args.page upto bytes w)
          (made size count c.args.page upto bytes w)
          (written size count c.args.page upto bytes w)
          (full size count c.args.page upto bytes w) _
          (in_order size count c.args.page upto bytes w many)
          w ws wm wb settled_first.called made_so
          (subst (λ (l : List Call). HasBrokenOff l wm wb) written_again
          c.in_err-put_page.ensures.ends.called));
    })

-- ---- none did, but for what comes behind

pub settle_behind-requires-clause-waits : goal.settle_behind-requires-clause-waits
settle_behind-requires-clause-waits g c =
    let a = c.args.seated.now in
    let s = c.settle_before.new.seated in
    let k = c.make_segment.new.seated in
    let m = c.load_page.new.seated in
    let b = c.put_page.new.seated in
    let loads = c.load_page.ensures.loads.1 in
    let put = c.in_ok-put_page.ensures.ends in
    let tables = put.changes.same_table ∙ loads.view.same_table
    ∙ c.in_ok-make_segment.ensures.ends.changes.same_table
    ∙ c.in_ok-settle_before.ensures.ends.changes.same_table in
    put.told.waiting ∙ ap (λ (n : ℕ). some (c.args.page / n)) (c.from-pages.ensures
    ∙ c.pages.ensures.value ∙ ap pages_of (c.geometry.ensures
    ∙ ap (λ (t : Setup). t.seg_size) (c.shape-shape.ensures ∙ sym (same_setup a b tables))))

pub settle_behind-requires-clause-begun : goal.settle_behind-requires-clause-begun
settle_behind-requires-clause-begun g c =
    let here = c.requires.page in
    let left = c.requires.left in
    let upto = c.min-upto.ensures in
    omega (arith, here, left, upto)

pub settle_behind-requires-clause-within : goal.settle_behind-requires-clause-within
settle_behind-requires-clause-within g c = (let upto = c.min-upto.ensures in omega (arith, upto))

pub returns : goal.returns
returns g c =
    let a = c.args.seated.now in
    let size = (setup_of a).seg_size in
    let w = writer_in (view_of a) in
    let count = c.from-pages.result in
    let upto = page_upto c.args.known c.args.page in
    let many : c.from-pages.result ≡ pages_of (setup_of a).seg_size = c.from-pages.ensures
    ∙ c.pages.ensures.value ∙ ap pages_of (c.geometry.ensures
    ∙ ap (λ (t : Setup). t.seg_size) c.shape-shape.ensures) in
    let s = c.settle_before.new.seated in
    let settled_first = c.in_ok-settle_before.ensures.ends in
    let ws = writer_in (view_of s) in
    let k = c.make_segment.new.seated in
    let wk = writer_in (view_of k) in
    let made_again = make_again (setup_of s).seg_size size (c.args.page / count) ws.made w.made
    (ap (λ (t : Setup). t.seg_size) (same_setup a s settled_first.changes.same_table))
    settled_first.told.made in
    let made_next = c.in_ok-make_segment.ensures.ends in
    let m = c.load_page.new.seated in
    let loads = c.load_page.ensures.loads.1 in
    let wm = writer_in (view_of m) in
    let bytes = c.load_page.new.bytes in
    let to_m : setup_of m ≡ setup_of a = same_setup a m (loads.view.same_table
    ∙ made_next.changes.same_table ∙ settled_first.changes.same_table) in
    let made_so = subst (λ (l : List Call). HasCalled l ws wm) made_again
    (subst (λ (x : Plain). HasCalled (make_calls (setup_of s).seg_size (c.args.page / count)
    (nat_lt ws.made (c.args.page / count))) ws x) (sym (same_writer k m _ loads.view))
    made_next.called) in
    let written_again = ap (λ (t : Setup). write_call t.seg_size (c.args.page / count)
    (c.args.page % count) bytes ∷ []) to_m in
    let b = c.put_page.new.seated in
    let wb = writer_in (view_of b) in
    let put = c.in_ok-put_page.ensures.ends in
    let before = further a m b (further a k m (further a s k settled_first.changes
    made_next.changes) (loaded g.D.Disk.tape g.D.Disk.moment g.D.Disk.faults k m _ loads))
    put.changes in
    let written_so = subst (λ (l : List Call). HasCalled l wm wb) written_again put.called in
    let l = c.settle_behind.new.seated in
    let size_b = ap (λ (t : Setup). t.seg_size) (same_setup a b before.same_table) in
    let settled_calls = settled size count c.args.page upto bytes w in
    let made_calls = made size count c.args.page upto bytes w in
    let written_calls = written size count c.args.page upto bytes w in
    let called = called_on settled_calls (made_calls ++ written_calls) w ws wb
    settled_first.called (called_on made_calls written_calls ws wm wb made_so written_so) in
    record {
      ends = subst (λ (x : List Call). CallsEnd g.D.Disk.tape g.D.Disk.moment g.D.Disk.faults
          (IsPageWritten size c.args.known) x c.settle_behind.result a l)
          (all_in_order size count c.args.page upto c.min-upto.result bytes w many
          c.min-upto.ensures)
          (behind_others g.D.Disk.tape g.D.Disk.moment g.D.Disk.faults
          (IsSettledBehind size c.min-upto.result) (IsPageWritten size c.args.known)
          (settled_calls ++ (made_calls ++ written_calls))
          (calls_behind size c.args.page c.min-upto.result) c.settle_behind.result a b l before
          called
          (behind_put size c.args.known c.args.page count c.min-upto.result w wm wb
          (writer_in (view_of l)) many c.requires.page c.min-upto.ensures
          (there_on (c.args.page / count) w ws wk wm settled_first.told made_next.told
          (same_writer k m _ loads.view)) put.told)
          (subst (λ (n : ℕ). CallsEnd g.D.Disk.tape g.D.Disk.moment g.D.Disk.faults
          (IsSettledBehind n c.min-upto.result) (calls_behind n c.args.page c.min-upto.result)
          c.settle_behind.result b l) size_b c.settle_behind.ensures.ends));
    }
