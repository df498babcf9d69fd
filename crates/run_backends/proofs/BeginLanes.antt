-- Lanes that begin, and the first pass beside them.
use Rattle.std.proofs.Common.{◌≡◌, ℕ, ◌+◌, ◌-◌, ◌≤◌, ◌++◌, [], ◌∷◌, All, List, Global, Vec, inl, ap, arith, length, map, subst, sym, ◌∙◌}
use Rattle.std.proofs.lemmas.List.{append-nil, append_assoc, length-append, map_push}
use Rattle.std.proofs.lemmas.List.Elements.{All-head, All-nil, All-push, All-tail}
use Rattle.std.specs.Prelude.{vec_capacity}
use Rattle.byte_position.specs.Position.{first_position}
use Rattle.byte_position.proofs.EndAddresses.{end_address_of-le}
use Rattle.wal_page.specs.Order.{Entry}
use Rattle.machine_laws.specs.ClosedLogs.{HasAllNumbers}
use Rattle.wal_rule.specs.Passes.{view_of_pass}
use Rattle.machine_state.specs.Views.{View}
use Rattle.machine_state.specs.Moves.{after_split, split_off}
use Rattle.wal_rule.specs.declared.pass.Pass.{Pass}
use Rattle.wal_log.specs.Logs.{IsPassOfLog, setup_of_log}
use Rattle.wal_log.specs.declared.wal.Wal.{Wal}
use Rattle.run_script.specs.Asked.{AskedLine}
use Rattle.run_script.specs.ReplayReading.{AreBackendsOf}
use Rattle.run_laws.specs.Played.{end_of_own, pass_state_of, state_at_first}
use Rattle.wal_log.specs.Sharing.{ShareNumbers}
use Rattle.wal_log.proofs.Lanes.{views_with_one_more}
use Rattle.run_backends.specs.Backends.{HasRoom, scripts_of}
use Rattle.run_backends.specs.Lanes.{BegunLanes, IsFreshLane, IsIdle, view_of_lane}
use Rattle.run_backends.specs.declared.backend.AnsweredLines.{AnsweredLines}
use Rattle.run_backends.specs.declared.lane.Lane.{Lane}
use Rattle.run_backends.proofs.Answering.{has_valid_size}

abbrev pub backends_of : List Lane → List AnsweredLines
backends_of lanes = map (λ lane. lane.backend) lanes

-- their passes have the numbers from this one on
abbrev pub AreNumberedFrom : ℕ → List Lane → Type 0
AreNumberedFrom pass [] = Unit {0}
AreNumberedFrom pass (lane ∷ lanes) =
    (((view_of_lane lane).reserving).number ≡ pass) × AreNumberedFrom (pass + 1) lanes

numbered_with_one_more : (pass : ℕ) (lanes : List Lane) (lane : Lane) → AreNumberedFrom pass lanes
    → ((view_of_lane lane).reserving).number ≡ pass + length lanes
    → AreNumberedFrom pass (lanes ++ lane ∷ [])
numbered_with_one_more pass [] lane none is = (omega (arith, is), tt)
numbered_with_one_more pass (first ∷ lanes) lane all is =
    (all.0, numbered_with_one_more (pass + 1) lanes lane all.1 (omega (arith, is)))

module _ {D : Type 0} (wal : Wal D) where
  begun_lanes : (pass : ℕ) (script : List (List AskedLine)) (lanes : List Lane)
      → All (IsFreshLane wal) lanes → AreNumberedFrom pass lanes
      → AreBackendsOf script (scripts_of (backends_of lanes)) → BegunLanes wal pass script lanes
  begun_lanes pass [] [] fresh numbered are = tt
  begun_lanes pass [] (lane ∷ lanes) fresh numbered are = absurd are
  begun_lanes pass (asked ∷ script) [] fresh numbered are = absurd are
  begun_lanes pass (asked ∷ script) (lane ∷ lanes) fresh numbered are = (
    All-head (IsFreshLane wal) lane lanes fresh,
    numbered.0,
    are.0,
    begun_lanes (pass + 1) script lanes (All-tail (IsFreshLane wal) lane lanes fresh) numbered.1
        are.1,
  )

  abbrev size : ℕ
  size = (setup_of_log wal).seg_size

  own_of_none : (pass : Pass) → IsPassOfLog wal pass → end_of_own size [] ≤ size
  own_of_none pass of_log = end_address_of-le size (has_valid_size wal pass of_log)
      (first_position size) size (omega arith)

  -- a lane with a pass that was just split off
  fresh_lane : (lane : Lane) (v : View) → IsPassOfLog wal (lane.session).pass
      → view_of_lane lane ≡ split_off v → ((lane.session).end).0 ≡ size → HasRoom lane.backend
      → IsFreshLane wal lane
  fresh_lane lane v pass split start room = record {
    session = record {
      session = record {
        pass = pass;
        end = record {
          own = inl (subst (λ (es : List Entry). end_of_own size es ≤ ((lane.session).end).0)
              (sym (ap (λ (w : View). (w.reserving).entries) split))
              (subst (λ (end : ℕ). end_of_own size [] ≤ end) (sym start)
              (own_of_none (lane.session).pass pass)));
          reserved = inl (omega (arith, start));
        };
      };
      joined = ap (λ (w : View). (w.reserving).joined) split;
      none_to_give = ap (λ (w : View). (w.reserving).spare_end) split;
    };
    unplayed = ap pass_state_of split
        ∙ ap (λ (w : View). state_at_first (w.reserving).seen) (sym split);
    room = room;
  }

  -- the lanes so far are those of the first backends, and the first pass has enough spare numbers
  -- for the rest
  pub record AreBeginning (old : Pass) (all rest : List AnsweredLines) (lanes : Vec Lane Global)
      (first : Pass) : Type 0 where
    pub pass : IsPassOfLog wal first
    pub next : first.spare ≡ old.spare + length lanes.items
    pub enough : length rest ≤ first.spare_end - first.spare
    pub room : length lanes.items + length rest ≤ vec_capacity lanes
    pub backends : backends_of lanes.items ++ rest ≡ all
    pub each : All HasRoom rest
    pub numbered : AreNumberedFrom old.spare lanes.items
    pub fresh : All (IsFreshLane wal) lanes.items
    pub shared : HasAllNumbers (setup_of_log wal).passes (view_of_pass old).reserving
        → ShareNumbers (setup_of_log wal).passes (view_of_pass first)
        (map (λ lane. view_of_lane lane) lanes.items)
    pub idle : IsIdle (view_of_pass old) → IsIdle (view_of_pass first)

  pub none_begun : (old : Pass) (all : List AnsweredLines) (lanes : Vec Lane Global)
      → IsPassOfLog wal old → length all ≤ old.spare_end - old.spare → All HasRoom all
      → lanes.items ≡ [] → length all ≤ vec_capacity lanes
      → ((v : View) → HasAllNumbers (setup_of_log wal).passes v.reserving
      → ShareNumbers (setup_of_log wal).passes v [])
      → AreBeginning old all all lanes old
  none_begun old all lanes pass enough each none room share =
      let len : length lanes.items ≡ 0 = ap (λ (x : List Lane). length x) none in
      record {
        pass = pass;
        next = omega (arith, len);
        enough = enough;
        room = omega (arith, len, room);
        backends = ap (λ (x : List Lane). backends_of x ++ all) none;
        each = each;
        numbered = subst (AreNumberedFrom old.spare) (sym none) tt;
        fresh = subst (All (IsFreshLane wal)) (sym none) (All-nil (IsFreshLane wal));
        shared = λ have. subst (λ (x : List Lane). ShareNumbers (setup_of_log wal).passes
            (view_of_pass old) (map (λ lane. view_of_lane lane) x)) (sym none)
            (share (view_of_pass old) have);
        idle = λ is. is;
      }

  pub one_more_begun : (old first left : Pass) (all rest : List AnsweredLines)
      (lanes more : Vec Lane Global) (lane : Lane)
      → AreBeginning old all (lane.backend ∷ rest) lanes first
      → more.items ≡ lanes.items ++ lane ∷ [] → vec_capacity more ≡ vec_capacity lanes
      → IsPassOfLog wal left × (view_of_pass left ≡ after_split (view_of_pass first))
      → IsPassOfLog wal (lane.session).pass
      × (view_of_lane lane ≡ split_off (view_of_pass first))
      → ((lane.session).end).0 ≡ size
      → ((v : View) (others : List View) → ShareNumbers (setup_of_log wal).passes v others
      → ShareNumbers (setup_of_log wal).passes (after_split v)
      (others ++ split_off v ∷ []))
      → AreBeginning old all rest more left
  one_more_begun old first left all rest lanes more lane begin pushed room pass own start share =
      let mine = ((begin.pass).of_log).numbers in
      let theirs = ((pass.0).of_log).numbers in
      let low = ap (λ (v : View). (v.reserving).spare) pass.1 in
      let high = ap (λ (v : View). (v.reserving).spare_end) pass.1 in
      let number = ap (λ (v : View). (v.reserving).number) own.1 in
      let len = ap (λ (x : List Lane). length x) pushed ∙ length-append lanes.items (lane ∷ []) in
      let views = views_with_one_more (λ (x : Lane). view_of_lane x) lanes.items more.items lane
      (split_off (view_of_pass first)) pushed own.1 in
      record {
        pass = pass.0;
        next = omega (arith, len, begin.next, mine.low, theirs.low, low);
        enough = omega (arith, begin.enough, mine.low, theirs.low, low, mine.high, theirs.high, high);
        room = omega (arith, len, begin.room, room);
        backends = ap (λ (x : List Lane). backends_of x ++ rest) pushed
            ∙ ap (λ (x : List AnsweredLines). x ++ rest) (map_push (λ lane. lane.backend) lanes.items lane)
            ∙ append_assoc (backends_of lanes.items) (lane.backend ∷ []) rest ∙ begin.backends;
        each = All-tail HasRoom lane.backend rest begin.each;
        numbered = subst (AreNumberedFrom old.spare) (sym pushed)
            (numbered_with_one_more old.spare lanes.items lane begin.numbered
            (omega (arith, number, begin.next, mine.low)));
        fresh = subst (All (IsFreshLane wal)) (sym pushed)
            (All-push (IsFreshLane wal) lanes.items lane begin.fresh
            (fresh_lane lane (view_of_pass first) own.0 own.1 start
            (All-head HasRoom lane.backend rest begin.each)));
        shared = λ have. rw (pass.1, views)
            (share (view_of_pass first) (map (λ lane. view_of_lane lane) lanes.items)
            (begin.shared have));
        idle = λ is. let was = begin.idle is in record {
          number = ap (λ (v : View). (v.reserving).number) pass.1 ∙ was.number;
          none = ap (λ (v : View). (v.reserving).entries) pass.1 ∙ was.none;
          joined = ap (λ (v : View). (v.reserving).joined) pass.1 ∙ was.joined;
          set_none = ap (λ (v : View). (v.writing).down_set) pass.1 ∙ was.set_none;
        };
      }

  pub all_begun : (old first : Pass) (all rest : List AnsweredLines) (lanes : Vec Lane Global)
      → AreBeginning old all rest lanes first → rest ≡ [] → (script : List (List AskedLine))
      → AreBackendsOf script (scripts_of all) → BegunLanes wal old.spare script lanes.items
  all_begun old first all rest lanes begin none script are =
      let same : backends_of lanes.items ≡ all = sym (append-nil (backends_of lanes.items))
      ∙ ap (λ (x : List AnsweredLines). backends_of lanes.items ++ x) (sym none) ∙ begin.backends in
      begun_lanes old.spare script lanes.items begin.fresh begin.numbered
      (subst (λ (x : List AnsweredLines). AreBackendsOf script (scripts_of x)) (sym same) are)
