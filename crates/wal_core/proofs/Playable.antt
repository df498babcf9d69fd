-- Plain data of a machine that runs: each lane may have its turn.
use Rattle.std.proofs.Common.{◌≡◌, ⊎_elim, ℕ, ◌+◌, ◌≤◌, List, min, slice_get, Some, None, sym, ap, ◌∙◌, subst, arith}
use Rattle.byte_position.specs.Geometry.{IsSegmentSize}
use Rattle.byte_position.proofs.EndAddresses.{end_address_of-mono}
use Rattle.wal_page.proofs.PlaceLaws.{end-whole_from}
use Rattle.machine_state.specs.declared.setup.Setup.{Setup}
use Rattle.machine_state.specs.Words.{Opening, end_form, log_limit, position_word}
use Rattle.machine_state.specs.Moves.{unlocked}
use Rattle.machine_state.specs.Views.{View}
use Rattle.machine_state.proofs.Lists.{at_same}
use Rattle.machine_turns.specs.Doing.{Ask, Doing, Machine}
use Rattle.machine_turns.specs.Standing.{StandsToDo}
use Rattle.machine_turns.specs.declared.lane.PlainBackend.{PlainBackend}
use Rattle.machine_turns.specs.declared.script.PlainLine.{PlainLine}
use Rattle.machine_turns.specs.declared.view.PlainView.{PlainView}
use Rattle.machine_turns.specs.Writing.{known_in}
use Rattle.machine_turns.specs.Lanes.{IsLow, IsReadyFor, MayPlay}
use Rattle.wal_core.specs.Lines.{IsLineFor}
use Rattle.wal_core.specs.Marks.{IsMark}
use Rattle.wal_core.specs.Playing.{CoreState, IsLaneOf, PlaysMachine, all_lines_left, all_syncs_left, syncs_under_way}
use Rattle.machine_turns.specs.Scripts.{flushes_of_line}
use Rattle.wal_core.proofs.Syncs.{made_ahead, one_of_all}
use Rattle.wal_core.proofs.CallRoom.{HasRoom}
use Rattle.wal_core.proofs.Lists.{below_got, got_below, lines_agree}
use Rattle.wal_core.proofs.Ready.{live_is_low, stands_is_ready}

module _ (core : CoreState) (m : Machine) (k : PlaysMachine core m) where
  -- the position is the order's end, which lies below the log's limit
  position_low : unlocked (position_word (m.state).words) ≤ log_limit (m.opening).setup
  position_low =
      let sound = (k.running).sound in
      let size = ((m.opening).setup).seg_size in omega (
        arith,
        end-whole_from size (sound.setup_is).size ((m.opening).place).position sound.order
            (sound.reserved).chained ((sound.reserved).placed).whole,
        (sound.reserved).position_is,
        (sound.reserved).one_bit,
        (sound.reserved).within,
      )

  -- no record is reserved behind the writer's end
  end_low : end_form core.setup (unlocked (position_word (m.state).words)) ≤ (core.writer).end
  end_low =
      let old = ap (λ (ws : List ℕ). unlocked (position_word ws)) k.words_are in
      let limit = ap (λ (s : Setup). log_limit s) k.setup_is in
      let left = (k.room).left in
      let low : unlocked (position_word (m.state).words)
      ≤ min (k.room).position (log_limit core.setup) =
      omega (arith, left, old, position_low, limit) in
      subst (λ (e : ℕ). end_form core.setup (unlocked (position_word (m.state).words)) ≤ e)
      (sym (k.room).end_is)
      (end_address_of-mono core.setup.seg_size
      (subst (λ (s : Setup). IsSegmentSize s.seg_size) k.setup_is
      ((((k.running).sound).setup_is).size))
      (unlocked (position_word (m.state).words))
      (min (k.room).position (log_limit core.setup)) low)

  pub may_play : (number : ℕ) (lane : PlainBackend) → slice_get core.lanes number ≡ Some lane
      → MayPlay core.setup (core.words).words core.writer lane
  may_play number lane at =
      let low = got_below core.lanes number lane at in
      let there = below_got m.backends number (omega (arith, low, k.count)) in
      let b = there.0 in
      let found = k.lanes number b there.1 in
      let same : found.0 ≡ lane = cc in
      let run = (k.running).views number b there.1 in
      let v = run.0 in
      let same_view : found.2.0 ≡ v =
      at_same (m.state).views found.2.0 v (number + 1) found.2.1 run.1.0 in
      let of = subst (λ (y : PlainBackend × View). IsLaneOf (core.writer).page y.0 b y.1)
      (λ i. (same i, same_view i)) found.2.2 in
      let own = (((k.running).sound).grounded (number + 1) v run.1.0).opening_is run.1.1 in
      let setup_own : (v.opening).setup ≡ core.setup =
      ap (λ (o : Opening). o.setup) own ∙ k.setup_is in
      record {
        size_is = k.size_is;
        low = subst (λ (y : List ℕ × PlainView). IsLow y.0 y.1)
            (λ i. (k.words_are i, sym of.view i)) (live_is_low m k.running number v run.1);
        ready = ⊎_elim
            (λ (x : (slice_get b.asks lane.answered ≡ None)
            × (slice_get lane.script lane.answered ≡ None)).
            subst (IsReadyFor core.setup (core.words).words core.writer lane.view
            (slice_get lane.script lane.copied)) (sym (of.ended x.1)) tt)
            (λ (x : (ask : Ask) × (line : PlainLine) × (slice_get b.asks lane.answered ≡ Some ask)
            × (slice_get lane.script lane.answered ≡ Some line) × IsLineFor ask line).
            subst (λ (y : Setup × List ℕ × PlainView). IsReadyFor y.0 y.1 core.writer y.2
            (slice_get lane.script lane.copied) lane.doing)
            (λ i. (setup_own i, k.words_are i, sym of.view i))
            (stands_is_ready m k.running number v run.1 x.0 lane.doing
            (subst (λ (d : Doing). StandsToDo v d x.0) of.doing
            (run.2 x.0 (ap (slice_get b.asks) of.answered ∙ x.2)))
            (slice_get lane.script lane.copied) of.copies core.writer k.writer_is
            (k.size_is ∙ ap (λ (s : Setup). s.seg_size) (sym setup_own))
            (subst (λ (s : Setup). end_form s (unlocked (position_word (m.state).words))
            ≤ (core.writer).end) (sym setup_own) end_low)
            (k.calls).ends (all_lines_left core.lanes) (all_syncs_left core.lanes)
            (subst (λ (y : ℕ × PlainView). IsMark y.0 (k.calls).ends (known_in y.1.hold))
            (λ i. ((sym setup_own i).seg_size, of.view i)) (((k.calls).go number lane at).0).known)
            (subst (λ (s : Setup). HasRoom s.seg_size (core.writer).end (k.calls).ends
            (core.writer).plain (all_lines_left core.lanes) (all_syncs_left core.lanes)
            (core.writer).room) (sym setup_own) (k.calls).room)
            (omega (
              arith,
              made_ahead lane.doing (flushes_of_line x.1),
              ap (syncs_under_way lane.doing) x.3,
              one_of_all core.lanes number lane at,
            )) of.few))
            (lines_agree b.asks lane.script of.lines lane.answered);
      }
