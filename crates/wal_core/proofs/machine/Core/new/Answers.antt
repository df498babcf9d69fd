-- A core begins as the machine does.
use Rattle.std.proofs.Common.{◌≡◌, ◌+◌, ◌<◌, All, false, List, length, min, refl, sym, ap, ◌∙◌, subst, arith}
use Rattle.byte_position.specs.Position.{end_address_of}
use Rattle.wal_page.specs.LogPlace.{new_place}
use Rattle.machine_state.specs.declared.setup.Setup.{Setup}
use Rattle.machine_state.specs.Opened.{AreFirstWords, IsFirstWriter}
use Rattle.machine_state.specs.Sound.{IsSetup}
use Rattle.machine_state.specs.Words.{log_limit, log_start}
use Rattle.machine_turns.specs.declared.lane.PlainBackend.{PlainBackend}
use Rattle.machine_turns.specs.declared.script.PlainLine.{PlainLine}
use Rattle.machine_turns.specs.Scripts.{InsertsLogRecord}
use Rattle.machine_turns.specs.Writer.{state_of}
use Rattle.wal_core.specs.Cores.{core_of, first_opening, flushes_of_scripts, lines_of_scripts, machine_begun, rooms_of_scripts}
use Rattle.wal_core.specs.Playing.{PlaysMachine}
use Rattle.wal_core.proofs.FirstData.{begins_playing, lanes_are_scripts, scripts_asked, writer_first}
use Rattle.wal_core.proofs.machine.Core.new.Goals as goal

-- what the callees give, over the log's shape
is_setup : (c : goal.In_ok-lanes) → IsSetup c.in-Some.shape
is_setup c = subst IsSetup (sym c.in-Some.ensures.1) c.in-Some.ensures.0

words_first : (c : goal.In_ok-lanes)
    → AreFirstWords (first_opening c.in-Some.shape) c.in_ok-words.words.words
words_first c =
    c.in_ok-words.ensures.first (first_opening c.in-Some.shape) c.in-Some.ensures.1 refl
    (ap (λ (s : Setup). new_place s.seg_size) c.in-Some.ensures.1)

few_scripts : (c : goal.In_ok-lanes) → length c.args.scripts.items < c.in-Some.shape.passes
few_scripts c = omega (
  arith,
  c.if-len-passes.false,
  c.len.ensures,
  c.args.scripts.ok.0,
  c.passes.ensures.passes,
)

end_is : (c : goal.In_ok-lanes) → c.log_end-end.result ≡ end_address_of c.in-Some.shape.seg_size
    (min (log_start c.in-Some.shape + rooms_of_scripts c.args.scripts.items)
    (log_limit c.in-Some.shape))
end_is c = subst (λ (scripts : List (List PlainLine)). c.log_end-end.result
    ≡ end_address_of c.in-Some.shape.seg_size
    (min (log_start c.in-Some.shape + rooms_of_scripts scripts) (log_limit c.in-Some.shape)))
    c.deref.ensures.value c.log_end-end.ensures.end

lines_are : (c : goal.In_ok-lanes)
    → c.line_count-lines.result ≡ lines_of_scripts c.args.scripts.items
lines_are c = omega (
  arith,
  c.line_count-lines.ensures,
  c.in_ok-writer.ensures.few.0,
  ap lines_of_scripts c.deref-2.ensures.value,
)

flushes_are : (c : goal.In_ok-lanes)
    → c.flush_count-flushes.result ≡ flushes_of_scripts c.args.scripts.items
flushes_are c = omega (
  arith,
  c.flush_count-flushes.ensures,
  c.in_ok-writer.ensures.few.1,
  ap flushes_of_scripts c.deref-3.ensures.value,
)

pub returns-clause-plays : goal.returns-clause-plays
returns-clause-plays c = λ asks are.
    let shape = c.in-Some.shape in
    let w = state_of c.in_ok-writer.writer in
    let pages = c.in_ok-words.ensures.pages
    ∙ ap (λ (s : Setup). s.ring_pages) (sym c.in-Some.ensures.1) in
    let plays = begins_playing shape (is_setup c) c.in_ok-words.words w c.args.fail.items
    c.args.scripts.items (few_scripts c) (words_first c) pages c.log_end-end.result c.line_count-lines.result
    c.flush_count-flushes.result (lines_are c) c.in_ok-writer.ensures.few.0 (flushes_are c) (end_is c) c.in_ok-writer.ensures.first c.in_ok-writer.ensures.kept.1.whole asks are in
    subst (λ (lanes : List PlainBackend). PlaysMachine (record {
      setup = shape;
      words = c.in_ok-words.words;
      writer = w;
      lanes = lanes;
      full = false;
    }) (machine_begun (record {
      setup = shape;
      words = c.in_ok-words.words;
      writer = w;
      lanes = lanes;
      full = false;
    }) asks)) (sym c.in_ok-lanes.ensures) plays

pub returns-clause-begun : goal.returns-clause-begun
returns-clause-begun c =
    let shape = c.in-Some.shape in
    let w = state_of c.in_ok-writer.writer in
    let pages = c.in_ok-words.ensures.pages
    ∙ ap (λ (s : Setup). s.ring_pages) (sym c.in-Some.ensures.1) in record {
      setup_is = c.in-Some.ensures.1;
      words = c.in_ok-words.ensures.first (first_opening c.args.setup) refl refl refl;
      writer = subst (λ (s : Setup). IsFirstWriter (first_opening s) w.plain) c.in-Some.ensures.1
          (writer_first shape (is_setup c) c.in_ok-words.words w c.args.fail.items
          c.args.scripts.items (few_scripts c) (words_first c) pages c.log_end-end.result
          c.line_count-lines.result c.flush_count-flushes.result (lines_are c) c.in_ok-writer.ensures.few.0 (flushes_are c) (end_is c) c.in_ok-writer.ensures.first c.in_ok-writer.ensures.kept.1.whole);
      first = (c.in_ok-writer.ensures.first).first;
      calls = (c.in_ok-writer.ensures.first).calls;
      failing_is = (c.in_ok-writer.ensures.first).failing_is;
    }

pub returns-clause-played : goal.returns-clause-played
returns-clause-played c =
    let asked = scripts_asked c.args.scripts.items c.requires.no_switch
    (subst (All (All InsertsLogRecord)) c.deref.ensures.value c.log_end-end.ensures.known) in (
      c.in_ok-writer.ensures.kept,
      (
        machine_begun (core_of (record {
          shape = c.in-Some.shape;
          words = c.in_ok-words.words;
          writer = c.in_ok-writer.writer;
          lanes = c.in_ok-lanes.lanes;
          full = false;
        })) asked.0,
        returns-clause-plays c asked.0 asked.1,
      ),
    )

pub returns-clause-lanes : goal.returns-clause-lanes
returns-clause-lanes c = ap (λ (lanes : List PlainBackend). length lanes) c.in_ok-lanes.ensures
    ∙ lanes_are_scripts c.in-Some.shape.seg_size 1 c.args.scripts.items
