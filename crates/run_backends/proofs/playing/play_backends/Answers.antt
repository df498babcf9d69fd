use Rattle.std.proofs.Common.{ℕ, All, drop, length, subst, sym}
use Rattle.machine_laws.specs.ClosedLogs.{HasAllNumbers}
use Rattle.wal_rule.specs.Passes.{view_of_pass}
use Rattle.machine_state.specs.Views.{View}
use Rattle.wal_log.specs.Logs.{opening_of_log, setup_of_log}
use Rattle.run_backends.specs.Backends.{lists_of}
use Rattle.run_backends.specs.Lanes.{BegunLanes, IsReadyLane}
use Rattle.run_backends.proofs.Answering.{has_setup, has_valid_size}
use Rattle.run_backends.proofs.PlayingOut.{first_gives_from_one, first_is_idle, flushed_all, may_be_taken_in, played_in_place, played_lanes, played_share, ready_lanes, taken_behind_flush}
use Rattle.run_backends.proofs.playing.play_backends.Goals as goal

pub run_lanes-requires-clause-ready : goal.run_lanes-requires-clause-ready
run_lanes-requires-clause-ready g c κs within =
    let asked = c.requires.asked in
    let lanes = c.begin_lanes-lanes.result in
    subst (All (IsReadyLane c.args.log)) (sym c.deref_mut.ensures.value)
    (ready_lanes c.args.log c.args.first.spare asked.0 lanes.items
    (c.begin_lanes-lanes.ensures.lanes asked.0 asked.1))

pub join_lanes-backends-requires-clause-lanes : goal.join_lanes-backends-requires-clause-lanes
join_lanes-backends-requires-clause-lanes g c =
    let lanes = c.begin_lanes-lanes.result in
    may_be_taken_in c.args.log lanes.items _
    (played_in_place c.args.log _ _ _ _ _ c.deref_mut.ensures.value lanes.ok.0
    c.run_lanes.ensures.same c.run_lanes.ensures.each)
    c.begin_lanes-lanes.ensures.fresh

pub join_lanes-backends-requires-clause-numbers : goal.join_lanes-backends-requires-clause-numbers
join_lanes-backends-requires-clause-numbers g c =
    let passes = (setup_of_log c.args.log).passes in
    let lanes = c.begin_lanes-lanes.result in
    let first = view_of_pass c.begin_lanes-lanes.new.first in
    played_share c.args.log first lanes.items _
    (played_in_place c.args.log _ _ _ _ _ c.deref_mut.ensures.value lanes.ok.0
    c.run_lanes.ensures.same c.run_lanes.ensures.each)
    c.calls_keep_numbers.ensures
    (c.passes_share_numbers.ensures.kept passes first)
    (c.begin_lanes-lanes.ensures.numbers
    (subst (λ (v : View). HasAllNumbers passes v.reserving) (sym c.requires.fresh)
    (c.seats_keep_numbers.ensures.first (opening_of_log c.args.log)).1))

pub close-requires-clause-numbers : goal.close-requires-clause-numbers
close-requires-clause-numbers g c = λ number low. c.calls_keep_numbers.ensures _ _
    c.flush.ensures.leaves.keeps number (c.join_lanes-backends.ensures.numbers number low)

pub returns-clause-played : goal.returns-clause-played
returns-clause-played g c = λ script are.
    let log = c.args.log in
    let lanes = c.begin_lanes-lanes.result in
    let first = view_of_pass c.args.first in
    let joined = c.join_lanes-backends in
    let old = view_of_pass joined.new.first in
    let new = view_of_pass c.flush.new.pass in
    let told = joined.result.backends.items in
    let begun = subst (λ (n : ℕ). BegunLanes log n script lanes.items)
    (first_gives_from_one log c.args.first c.requires.pass c.requires.fresh)
    (c.begin_lanes-lanes.ensures.lanes script are) in
    let played = played_lanes log 1 script lanes.items _
    (played_in_place log _ _ _ _ (drop (length c.run_lanes.new.lanes) lanes.items)
    c.deref_mut.ensures.value lanes.ok.0 c.run_lanes.ensures.same c.run_lanes.ensures.each)
    begun in
    let idle = c.begin_lanes-lanes.ensures.idle
    (first_is_idle (opening_of_log log) first c.requires.fresh) in
    record {
      pass = c.flush.new.pass;
      closes = c.close.ensures;
      each = joined.ensures.lines script played;
      taken = taken_behind_flush (opening_of_log log) joined.result.end.0 old new
          c.flush.result c.flush.ensures.flushes c.flush.ensures.leaves.down_again
          c.flush.ensures.leaves.keeps script (lists_of told)
          (joined.ensures.taken script played idle).0;
      flushed = flushed_all (setup_of_log log)
          (has_valid_size log joined.new.first joined.ensures.pass) joined.result.end.0 old new
          (has_setup log joined.new.first joined.ensures.pass) (lists_of told) c.flush.result
          c.flush.ensures.flushes joined.ensures.end.reserved joined.ensures.end.reaches;
    }
