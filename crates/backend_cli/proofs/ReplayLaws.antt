-- A replay from its first machine to what it prints.
use Rattle.std.proofs.Common.{◌≡◌, inl, inr, ℕ, ◌<◌, ◌≤◌, All, IfOk, List, [], length, map, Option, Some, IfSome, Result, Err, Vec, sym, ap, subst, ◌∙◌}
use Rattle.std.proofs.lemmas.List.{length-map}
use Rattle.std.specs.declared.alloc.Global.{Global}
use Rattle.segment_disk.specs.Stream.{with_behind}
use Rattle.segment_disk.specs.Tape.{DiskState, Tape, empty_state}
use Rattle.waldump_filter.specs.Keeping.{everything_from}
use Rattle.waldump_filter.specs.declared.Filter.{Filter}
use Rattle.waldump_text.specs.Dump.{IsDump}
use Rattle.waldump_text.specs.Put.{Puts}
use Rattle.waldump_text.specs.declared.dumping.DumpErr.{DumpErr}
use Rattle.waldump_text.specs.declared.dumping.DumpErr.TheVariants.{Sink}
use Rattle.waldump_text.specs.declared.putting.SinkFault.{SinkFault}
use Rattle.cli_line.specs.declared.commands.ReplayOptions.{ReplayOptions}
use Rattle.machine_state.specs.declared.setup.Setup.{Setup}
use Rattle.machine_state.specs.Opened.{AreFirstWords, IsFirstWriter}
use Rattle.machine_turns.specs.Begun.{first_backend, first_machine}
use Rattle.machine_turns.specs.Doing.{Ask, Machine}
use Rattle.machine_turns.specs.Turned.{machine_behind}
use Rattle.wal_core.specs.Cores.{HasBegun, IsPlayed, core_of, first_opening, machine_begun}
use Rattle.wal_core.specs.Lines.{AreScriptsFor}
use Rattle.wal_core.specs.Playing.{PlaysMachine}
use Rattle.wal_core.specs.declared.machine.Core.{Core}
use Rattle.machine_turns.specs.declared.script.PlainLine.{PlainLine as MachineLine}
use Rattle.run_script.specs.declared.line.Line.{Line}
use Rattle.run_script.specs.Asked.{AskedLine}
use Rattle.run_script.specs.Turns.{backends_in_turn}
use Rattle.run_script.specs.declared.item.Item.{Item}
use Rattle.run_script.specs.Replay.{ReplayMeaning, most_backends}
use Rattle.run_script.specs.ReplayReading.{AreBackendsOf}
use Rattle.run_script.specs.declared.line.Refusal.{Refusal}
use Rattle.run_script.specs.declared.replay.Replay.{Replay}
use Rattle.run_script.proofs.ReplayLaws.{some_backends_are_there, turns_are_of_backends}
use Rattle.backend_cli.specs.Outside.{SourceView}
use Rattle.backend_cli.specs.declared.replay.ReplayBegun.{ReplayBegun}
use Rattle.backend_cli.specs.ReplayBegun.{DoesMeaning, IsReplayBegun, PlaysBackends}
use Rattle.backend_cli.specs.Replaying.{PutsBefore, asks_of, replay_setup}
use Rattle.backend_cli.proofs.ReplayScripts.{as_many_backends, as_many_lines, scripts_for, scripts_of}
use Rattle.backend_cli.proofs.TurnLaws.{turns_keep_counts}

-- a core that begins with a replay's lines plays the machine as which the replay begins
pub begun_as : (options : ReplayOptions) (asked : List (List AskedLine)) (backends : List (Vec Line Global)) (setup : Setup) (scripts : List (List MachineLine)) (failing : List ℕ) (begun : ReplayBegun)
    → AreBackendsOf asked backends → setup ≡ replay_setup options (length backends) → scripts ≡ scripts_of backends → failing ≡ []
    → begun.line_counts.items ≡ map (λ lines. length lines) scripts → HasBegun setup failing (core_of begun.core)
    → ((asks : List (List Ask)) → AreScriptsFor asks scripts → PlaysMachine (core_of begun.core) (machine_begun (core_of begun.core) asks)) → IsPlayed begun.core
    → IsReplayBegun options asked begun
begun_as options asked backends setup scripts failing begun are setup_is scripts_are none counts has plays played =
    let core = core_of begun.core in
    let asks = map asks_of asked in
    let setup_now : setup ≡ replay_setup options (length asked) = setup_is ∙ ap (replay_setup options) (sym (as_many_backends asked backends are)) in
    let core_setup : core.setup ≡ replay_setup options (length asked) = has.setup_is ∙ setup_now in
    let failing_now : (core.writer).failing ≡ [] = has.failing_is ∙ none in
    record {
      first = machine_begun core asks;
      begins = record {
        words = (core.words).words;
        writer = (core.writer).plain;
        first_words = subst (λ (s : Setup). AreFirstWords (first_opening s) (core.words).words) setup_now has.words;
        first_writer = subst (λ (s : Setup). IsFirstWriter (first_opening s) (core.writer).plain) setup_now has.writer;
        calls = has.calls;
        machine_is = ap (λ (d : DiskState). first_machine d (first_opening core.setup) (core.words).words (core.writer).plain (core.writer).failing asks) has.first
            ∙ ap (λ (s : Setup). first_machine empty_state (first_opening s) (core.words).words (core.writer).plain (core.writer).failing asks) core_setup
            ∙ ap (λ (f : List ℕ). first_machine empty_state (first_opening (replay_setup options (length asked))) (core.words).words (core.writer).plain f asks) failing_now;
      };
      counted = record {
        plays = plays asks (subst (AreScriptsFor asks) (sym scripts_are) (scripts_for asked backends are));
        counts = counts ∙ (ap (map (λ (lines : List MachineLine). length lines)) scripts_are ∙ as_many_lines asked backends are);
      };
      played = played;
    }

-- behind turns each backend has as many lines as before
pub counted_behind : (old new : Core) (counts : List ℕ) (m : Machine) (schedule : List ℕ) → PlaysBackends old counts m → PlaysMachine (core_of new) (machine_behind m schedule) → PlaysBackends new counts (machine_behind m schedule)
counted_behind old new counts m schedule k plays = record { plays = plays; counts = k.counts ∙ sym (turns_keep_counts m schedule) }

-- ---- what is printed

-- a listing goes on behind a text
pub puts_behind : (text : List ℕ) (size : ℕ) (left : DiskState) (old mid new : Option (List ℕ)) (by : Filter) (listed : Result ℕ DumpErr) (tape : Option Tape)
    → tape ≡ Some (record { at_first = left; calls = [] }) → mid ≡ with_behind old text → by ≡ everything_from (record { 0 = size }) → IfSome tape (IsDump size by mid new listed)
    → PutsBefore text size left old new listed
puts_behind text size left old mid new by listed tape tape_is mid_is by_is puts =
    let told = subst (λ (x : Option Tape). IfSome x (IsDump size by mid new listed)) tape_is puts in
    let behind = subst (λ (x : Option (List ℕ)). IsDump size by x new listed (record { at_first = left; calls = [] })) mid_is told in
    inl (subst (λ (x : Filter). IsDump size x (with_behind old text) new listed (record { at_first = left; calls = [] })) by_is behind)

-- or the sink failed in the text
pub puts_front : (text : List ℕ) (size : ℕ) (left : DiskState) (old new : Option (List ℕ)) (before after : ℕ) (fault : SinkFault) → Puts old new before after text (Err fault) → PutsBefore text size left old new (Err (Sink fault))
puts_front text size left old new before after fault puts = inr puts.0

-- ---- what is read

-- a replay has as few backends as a script may have
pub few_backends : (before after : SourceView) (replay : Replay) (meaning : ReplayMeaning) → DoesMeaning before after replay meaning → length replay.backends.items ≤ most_backends
few_backends before after replay meaning does =
    let means = does.means in
    let few = subst (λ (r : Result ReplayMeaning Refusal). IfOk r (λ m. (0 < length m.backends) × (length m.backends ≤ most_backends))) means.2 (some_backends_are_there means.0) in
    subst (λ (n : ℕ). n ≤ most_backends) (as_many_backends meaning.backends replay.backends.items does.backends) few.1

-- each turn of its schedule is one of a backend that the core has
pub turns_are_there : (before after : SourceView) (replay : Replay) (meaning : ReplayMeaning) (options : ReplayOptions) (begun : ReplayBegun) → DoesMeaning before after replay meaning → IsReplayBegun options meaning.backends begun
    → All (λ backend. backend < length (core_of begun.core).lanes) (backends_in_turn replay.schedule)
turns_are_there before after replay meaning options begun does is =
    let means = does.means in
    let there = subst (λ (r : Result ReplayMeaning Refusal). IfOk r (λ m. All (λ backend. backend < length m.backends) (backends_in_turn m.schedule))) means.2 (turns_are_of_backends means.0) in
    let asked : length (is.first).backends ≡ length meaning.backends = ap (λ (m : Machine). length m.backends) (is.begins).machine_is
    ∙ length-map (map asks_of meaning.backends) first_backend ∙ length-map meaning.backends asks_of in
    let same : length meaning.backends ≡ length (core_of begun.core).lanes = sym (((is.counted).plays).count ∙ asked) in
    subst (λ (x : ℕ × List Item). All (λ backend. backend < x.0) (backends_in_turn x.1)) (λ i. (same i, does.schedule i)) there
