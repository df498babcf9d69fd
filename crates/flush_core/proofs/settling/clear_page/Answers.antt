-- A page is read, and written as it is to be.
use Rattle.segment_disk.specs.Tape.{write_call}
use Rattle.segment_disk.proofs.Presence.{on_err}
use Rattle.flush_core.proofs.Clearing.{on_err_of, on_ok_of, told_cleared}
use Rattle.flush_core.proofs.SettleCalls.{makes_behind_read, stops_at_once, stops_behind_read}
use Rattle.flush_core.proofs.settling.clear_page.Goals as goal

pub returns-in_err-read_page-clause-err : goal.returns-in_err-read_page-clause-err
returns-in_err-read_page-clause-err g c = λ to. on_err c.from_residual.result _ (stops_at_once _ _ _ _ _ c.in_err-read_page.ensures.uncalled)

pub returns-clause-ok : goal.returns-clause-ok
returns-clause-ok g c = λ to.
    let bytes = c.clear_bytes.new.bytes in
    let told = told_cleared c.args.geometry c.args.page _ c.read_page.new.bytes c.in_ok-read_page.field-0 bytes c.clear_bytes.ensures to c.in_ok-read_page.ensures.reads in
    on_ok_of c.write_page.result _ _ c.write_page.ensures.answers _
    (λ _ made. makes_behind_read _ _ _ _ _ _ (write_call c.args.geometry c.args.page.segment c.args.page.page bytes) _ c.in_ok-read_page.ensures.uncalled told made)

pub returns-clause-err : goal.returns-clause-err
returns-clause-err g c = λ to.
    let bytes = c.clear_bytes.new.bytes in
    let told = told_cleared c.args.geometry c.args.page _ c.read_page.new.bytes c.in_ok-read_page.field-0 bytes c.clear_bytes.ensures to c.in_ok-read_page.ensures.reads in
    on_err_of c.write_page.result _ _ c.write_page.ensures.answers _
    (λ _ fails. stops_behind_read _ _ _ _ _ _ (write_call c.args.geometry c.args.page.segment c.args.page.page bytes) _ c.in_ok-read_page.ensures.uncalled told fails)
