-- No promise was told behind a call that wrote what it does not speak of.
use Rattle.std.proofs.Common.{ℕ, ◌+◌, ◌*◌, List, drop, take, arith}
use Rattle.std.proofs.lemmas.List.Elements.{All-weaker}
use mathlib.Core.Option.{some}
use Rattle.byte_position.specs.Geometry.{IsSegmentSize}
use Rattle.byte_position.specs.Position.{position_of}
use Rattle.wal_spelling.specs.Spelling.{assembled}
use Rattle.segment_disk.specs.declared.disk.Call.{Call}
use Rattle.segment_disk.specs.declared.disk.CallKind.{CallKind}
use Rattle.segment_disk.specs.declared.disk.CallKind.TheVariants.{Create, Write, Sync}
use Rattle.segment_disk.specs.Tape.{Tape}
use Rattle.wal_page.specs.Order.{Entry}
use Rattle.wal_page.proofs.OwnerLaws.{Owns-between, owner_of-found}
use Rattle.machine_state.specs.Words.{Opening}
use Rattle.machine_state.specs.Views.{FlushPromise, View}
use Rattle.machine_state.specs.Durable.{PutsNone}
use Rattle.run_laws.specs.Closed.{IsClosedOn, WasPromised}
use Rattle.run_laws.specs.Timely.{IsTimely}
use Rattle.run_laws.specs.Crash.{WritesNoWord, WritesNone}
use Rattle.run_laws.proofs.ClosedDisk.{moment_passed, promise_held, promise_since, valid}
use Rattle.run_laws.proofs.Promises.{within_words}

-- what puts zeros where an entry lies writes no word of it
writes_no_word : (size : ℕ) → IsSegmentSize size → (order : List Entry) (e : Entry) (segment : ℕ)
    (kind : CallKind) → PutsNone size e segment kind → WritesNoWord size order e segment kind
writes_no_word size valid order e segment (Create made) puts = tt
writes_no_word size valid order e segment (Write page bytes) puts = λ n below owned.
    let address = segment * size + page * 8192 + 8 * n in
    let owns = owner_of-found size order (position_of size address) e owned in
    let between = Owns-between size valid (assembled e.value) e.start address owns in
    puts n below (omega (arith, between.0)) between.1
writes_no_word size valid order e segment Sync puts = tt

pub timely : (opening : Opening) (order : List Entry) (t : Tape) (v : View)
    → IsClosedOn opening order t v → (whole entries : List Entry) (p : FlushPromise)
    → WasPromised v entries p → IsTimely opening whole t entries p
timely opening order t v c whole entries p was =
    let size = (opening.setup).seg_size in
    let held = promise_held opening order t v c entries p was in
    record {
      since = promise_since opening order t v c entries p was;
      passed = omega (
        arith,
        (within_words opening c.words (some c.writer) c.views c.sound c.id v c.here entries p
            was).moment_low,
        moment_passed opening order t v c,
      );
      unwritten = λ k e behind is. All-weaker (λ (a : Call). PutsNone size e a.segment a.kind)
          (WritesNone size whole e)
          (λ a puts. writes_no_word size (valid opening order t v c) whole e a.segment a.kind puts)
          (drop opening.moment (take p.moment t.calls)) (held.later k e behind is);
    }
