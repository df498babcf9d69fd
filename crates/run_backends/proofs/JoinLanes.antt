-- Lanes that are taken in again, one behind the other, and what the first pass has of them then.
use Rattle.std.proofs.Common.{◌≡◌, ℕ, ◌+◌, ◌-◌, ◌^◌, ◌≤◌, ◌++◌, [], ◌∷◌, All, Bool, true, false, List, Global, Vec, inl, inr, nat_lt, ap, arith, length, map, max, refl, subst, sym, ◌∙◌}
use Rattle.std.proofs.Common.{ltb-true, ltb-false}
use Rattle.std.proofs.Math.Logic.{∥∥₁_elim, ∥∥₁_map}
use Rattle.std.specs.Coded.{Coded-set, coded_ℕ}
use Rattle.std.proofs.lemmas.List.{append-nil, append_assoc, length-append, map_push}
use Rattle.std.proofs.lemmas.List.Elements.{All-head, All-nil, All-push, All-tail, All-weaker}
use Rattle.std.specs.Prelude.{vec_capacity}
use Rattle.byte_position.specs.Geometry.{IsSegmentSize}
use Rattle.segment_disk.specs.Cause.{Rose}
use Rattle.machine_state.specs.Views.{View}
use Rattle.machine_state.specs.Words.{Opening}
use Rattle.machine_state.specs.declared.setup.Setup.{Setup}
use Rattle.wal_rule.specs.Downs.{KnowsDown}
use Rattle.wal_rule.specs.Passes.{view_of_pass}
use Rattle.wal_rule.specs.Stepping.{Stands}
use Rattle.machine_state.specs.Moves.{after_join}
use Rattle.wal_rule.specs.declared.pass.Pass.{Pass}
use Rattle.wal_rule.proofs.MetNumbers.{known_rose}
use Rattle.wal_log.specs.Logs.{IsPassOfLog, opening_of_log, setup_of_log}
use Rattle.wal_log.specs.declared.wal.Wal.{Wal}
use Rattle.run_script.specs.Asked.{AskedLine}
use Rattle.run_laws.specs.declared.told.Told.{Told}
use Rattle.run_laws.specs.Ended.{HasTakenIn}
use Rattle.run_laws.specs.Reached.{EndsBy, ReachesAll}
use Rattle.run_laws.proofs.TakingIn.{none_taken_in, one_more_taken_in}
use Rattle.wal_log.specs.Sharing.{ShareNumbers}
use Rattle.run_backends.specs.Backends.{HasToldEach, HaveToldEach, lists_of}
use Rattle.run_backends.specs.Lanes.{IsIdle, MayBeTakenIn, PlayedLanes, view_of_lane}
use Rattle.run_backends.specs.Sessions.{IsReserved}
use Rattle.run_backends.specs.declared.backend.AnsweredLines.{AnsweredLines}
use Rattle.run_backends.specs.declared.lane.Lane.{Lane}
use Rattle.run_backends.proofs.Answering.{has_valid_size}
use Rattle.run_backends.proofs.EndsKept.{reserved_max, reserved_since}
use Rattle.run_backends.proofs.PlayingLines.{ends_further}

-- ---- an address further on reaches what one before it does

all_end_further : (address further : ℕ) → address ≤ further → (told : List Told)
    → All (EndsBy address) told → All (EndsBy further) told
all_end_further address further more told ends = All-weaker (EndsBy address) (EndsBy further)
    (ends_further address further more) told ends

module _ (size : ℕ) where
  pub reaches_further : (address further : ℕ) (lists : List (List Told)) → address ≤ further
      → ReachesAll size address lists → ReachesAll size further lists
  reaches_further address further lists more reaches = record {
    begun = omega (arith, more, reaches.begun);
    ends = All-weaker (λ (told : List Told). All (EndsBy address) told)
        (λ (told : List Told). All (EndsBy further) told)
        (all_end_further address further more) lists reaches.ends;
  }

  reaches_none : (address : ℕ) → address ≡ size → ReachesAll size address []
  reaches_none address is = record {
    begun = omega (arith, is);
    ends = All-nil (λ (told : List Told). All (EndsBy address) told);
  }

  reaches_one_more : (address end : ℕ) (backends : List AnsweredLines) (backend : AnsweredLines)
      → ReachesAll size address (lists_of backends) → All (EndsBy end) backend.told.items
      → ReachesAll size (max address end) (lists_of (backends ++ backend ∷ []))
  reaches_one_more address end backends backend reaches ends =
      let lists = lists_of backends in
      let told = backend.told.items in
      let further = reaches_further address (max address end) lists (omega arith) reaches in
      subst (λ (all : List (List Told)). ReachesAll size (max address end) all)
      (sym (map_push (λ (b : AnsweredLines). b.told.items) backends backend))
      (record {
        begun = further.begun;
        ends = All-push (λ (t : List Told). All (EndsBy (max address end)) t) lists told
            further.ends (all_end_further end (max address end) (omega arith) told ends);
      })

-- ---- what either pass saw reserved is so behind the join

reserved_behind_join : (setup : Setup) → IsSegmentSize setup.seg_size → (a b : ℕ)
    (v w both : View) → both ≡ after_join v w → IsReserved setup a v
    → IsReserved setup b w → IsReserved setup (max a b) both
reserved_behind_join setup valid a b v w both is one other =
    let seen = ap (λ (x : View). (x.reserving).seen) is in
    reserved_max setup a b both (reserved_since setup valid a v both (omega (arith, seen)) one)
    (reserved_since setup valid b w both (omega (arith, seen)) other)

-- ---- the lanes in front were taken in, the others are left

told_one_more : (script : List (List AskedLine)) (backends : List AnsweredLines)
    (asked : List AskedLine) (backend : AnsweredLines) → HaveToldEach script backends
    → HasToldEach asked backend → HaveToldEach (script ++ asked ∷ []) (backends ++ backend ∷ [])
told_one_more [] [] asked backend each one = (one, tt)
told_one_more [] (b ∷ backends) asked backend each one = absurd each
told_one_more (a ∷ script) [] asked backend each one = absurd each
told_one_more (a ∷ script) (b ∷ backends) asked backend each one =
    (each.0, told_one_more script backends asked backend each.1 one)

-- a pass that takes in the next one of those with which it shares a log's numbers shares them with
-- the others
abbrev pub JoinsKeepNumbers : ℕ → Type 0
JoinsKeepNumbers passes = (v w : View) (others : List View)
    → (w.reserving).spare_end ≡ 0 → ShareNumbers passes v (w ∷ others)
    → ShareNumbers passes (after_join v w) others

-- whether a count rose is plain from the count
behind_top : (low new : ℕ) → new ≤ low → Rose low new → new ≡ 2 ^ 64 - 1
behind_top low new below (inl more) = absurd (omega (arith, below, more))
behind_top low new below (inr top) = top

rose_by : (low new : ℕ) (b : Bool) → nat_lt low new ≡ b → ∥ Rose low new ∥₁ → Rose low new
rose_by low new true is told = inl (ltb-true low new is)
rose_by low new false is told = inr (∥∥₁_elim told (Coded-set coded_ℕ _ _)
    (λ (r : Rose low new). behind_top low new (ltb-false low new is) r))

module _ {D : Type 0} (wal : Wal D) where
  rose_since : (pass : Pass) → IsPassOfLog wal pass → (faults : ℕ)
      → KnowsDown faults (view_of_pass pass) → Rose (opening_of_log wal).faults faults
  rose_since pass of_log faults knows =
      subst (λ (o : Opening). Rose o.faults faults) (of_log.of_log).own
      (rose_by ((view_of_pass pass).opening).faults faults _ refl
      (∥∥₁_map (of_log.of_log).stands
      (λ (s : Stands (view_of_pass pass)). known_rose (view_of_pass pass) s faults knows)))

  none_behind : (pass : ℕ) (script : List (List AskedLine)) → PlayedLanes wal pass script []
      → script ≡ []
  none_behind pass [] played = refl
  none_behind pass (asked ∷ script) played = absurd played

  -- of a script that the lanes played, the first pass, which had the view `begun`, has taken in
  -- those that played its front, and set no fault
  pub record HasTakenFront (script : List (List AskedLine)) (begun v : View)
      (rest : List Lane) (backends : List AnsweredLines) : Type 0 where
    pub front : List (List AskedLine)
    pub behind : List (List AskedLine)
    pub script_is : script ≡ front ++ behind
    pub left : PlayedLanes wal (1 + length front) behind rest
    pub each : HaveToldEach front backends
    pub taken : IsIdle begun
        → HasTakenIn (opening_of_log wal) v front (lists_of backends)
        × ((v.writing).down_set ≡ 0)

  no_front : (script : List (List AskedLine)) (v : View) (lanes : List Lane)
      → PlayedLanes wal 1 script lanes → HasTakenFront script v v lanes []
  no_front script v lanes played = record {
    front = [];
    behind = script;
    script_is = refl;
    left = played;
    each = tt;
    taken = λ idle. (
      none_taken_in (opening_of_log wal) v idle.number idle.none idle.joined,
      idle.set_none,
    );
  }

  whole_front : (script : List (List AskedLine)) (begun v : View) (backends : List AnsweredLines)
      → (h : HasTakenFront script begun v [] backends) → h.front ≡ script
  whole_front script begun v backends h =
      let none = none_behind (1 + length h.front) h.behind h.left in
      sym (h.script_is ∙ ap (λ (b : List (List AskedLine)). h.front ++ b) none
      ∙ append-nil h.front)

  module _ (script : List (List AskedLine)) (begun v both : View) (lane : Lane)
      (rest : List Lane) (backends : List AnsweredLines) (pass : IsPassOfLog wal (lane.session).pass)
      (both_is : both ≡ after_join v (view_of_lane lane)) where
    further_front : (front behind : List (List AskedLine)) → script ≡ front ++ behind
        → PlayedLanes wal (1 + length front) behind (lane ∷ rest)
        → HaveToldEach front backends
        → (IsIdle begun
        → HasTakenIn (opening_of_log wal) v front (lists_of backends)
        × ((v.writing).down_set ≡ 0))
        → HasTakenFront script begun both rest (backends ++ lane.backend ∷ [])
    further_front front [] is left each taken = absurd left
    further_front front (asked ∷ behind) is left each taken =
        let more : 1 + length front + 1 ≡ 1 + length (front ++ asked ∷ []) =
        omega (arith, length-append front (asked ∷ [])) in
        record {
          front = front ++ asked ∷ [];
          behind = behind;
          script_is = is ∙ sym (append_assoc front (asked ∷ []) behind);
          left = subst (λ (n : ℕ). PlayedLanes wal n behind rest) more left.4;
          each = told_one_more front backends asked lane.backend each left.2;
          taken = λ idle.
              let opening = opening_of_log wal in
              let w = view_of_lane lane in
              let was = taken idle in
              let now = subst (λ (lists : List (List Told)). HasTakenIn opening both
              (front ++ asked ∷ []) lists)
              (sym (map_push (λ (b : AnsweredLines). b.told.items) backends lane.backend))
              (subst (λ (x : View). HasTakenIn opening x (front ++ asked ∷ [])
              (lists_of backends ++ lane.backend.told.items ∷ []))
              (sym both_is)
              (one_more_taken_in opening v w front
              (lists_of backends) asked lane.backend.told.items was.0 left.1
              (left.0).session.joined left.3 (rose_since (lane.session).pass pass) was.1)) in
              (now, ap (λ (x : View). (x.writing).down_set) both_is ∙ was.1);
        }

  -- the lanes in front were taken in by the first pass, which had the view `begun`; what their
  -- lines were told of ends is no further than this end
  pub record AreJoining (begun : View) (all rest : List Lane) (first : Pass)
      (backends : Vec AnsweredLines Global) (end : ℕ) : Type 0 where
    pub pass : IsPassOfLog wal first
    pub lanes : All (MayBeTakenIn wal) rest
    pub room : length backends.items + length rest ≤ vec_capacity backends
    pub shared : ShareNumbers (setup_of_log wal).passes (view_of_pass first)
        (map (λ lane. view_of_lane lane) rest)
    pub taken : (script : List (List AskedLine)) → PlayedLanes wal 1 script all
        → HasTakenFront script begun (view_of_pass first) rest backends.items
    pub reaches : ReachesAll (setup_of_log wal).seg_size end (lists_of backends.items)
    pub reserved : IsReserved (setup_of_log wal) end (view_of_pass first)

  pub none_joined : (first : Pass) (all rest : List Lane) (backends : Vec AnsweredLines Global)
      (start : ℕ) → rest ≡ all → IsPassOfLog wal first → All (MayBeTakenIn wal) all
      → ShareNumbers (setup_of_log wal).passes (view_of_pass first)
      (map (λ lane. view_of_lane lane) all)
      → backends.items ≡ [] → length all ≤ vec_capacity backends
      → start ≡ (setup_of_log wal).seg_size
      → AreJoining (view_of_pass first) all rest first backends start
  none_joined first all rest backends start is pass lanes shared none room begun =
      let size = (setup_of_log wal).seg_size in
      let v = view_of_pass first in
      subst (λ (left : List Lane). AreJoining v all left first backends start) (sym is) (record {
        pass = pass;
        lanes = lanes;
        room = (let count = ap (λ (bs : List AnsweredLines). length bs) none in
            omega (arith, room, count));
        shared = shared;
        taken = λ script played.
            subst (λ (bs : List AnsweredLines). HasTakenFront script v v all bs) (sym none)
            (no_front script v all played);
        reaches = subst (λ (bs : List AnsweredLines). ReachesAll size start (lists_of bs)) (sym none)
            (reaches_none size start begun);
        reserved = inl (omega (arith, begun));
      })

  module _ (begun : View) (all left rest : List Lane) (lane : Lane) (first : Pass)
      (backends : Vec AnsweredLines Global) (end : ℕ) (old : AreJoining begun all left first backends end)
      (next : left ≡ lane ∷ rest) where
    before : AreJoining begun all (lane ∷ rest) first backends end
    before = subst (λ (lanes : List Lane). AreJoining begun all lanes first backends end) next old

    pub next_may_be_taken_in : MayBeTakenIn wal lane
    next_may_be_taken_in = All-head (MayBeTakenIn wal) lane rest before.lanes

    -- it is taken in
    pub one_more_joined : (new : Pass) (more : Vec AnsweredLines Global) (further : ℕ)
        → JoinsKeepNumbers (setup_of_log wal).passes → IsPassOfLog wal new
        → view_of_pass new ≡ after_join (view_of_pass first) (view_of_lane lane)
        → more.items ≡ backends.items ++ lane.backend ∷ []
        → vec_capacity more ≡ vec_capacity backends → further ≡ max end ((lane.session).end).0
        → AreJoining begun all rest new more further
    one_more_joined new more further keep pass is pushed capacity end_is =
        let setup : Setup = setup_of_log wal in
        let mine : MayBeTakenIn wal lane = next_may_be_taken_in in
        let own : ℕ = ((lane.session).end).0 in
        let v = view_of_pass first in
        let w = view_of_lane lane in
        let views = map (λ (lane : Lane). view_of_lane lane) rest in
        record {
          pass = pass;
          lanes = All-tail (MayBeTakenIn wal) lane rest before.lanes;
          room = (let count = ap (λ (bs : List AnsweredLines). length bs) pushed in
              let before_room = before.room in
              omega (
                arith,
                before_room,
                count,
                length-append backends.items (lane.backend ∷ []),
                capacity,
              ));
          shared = subst (λ (x : View). ShareNumbers setup.passes x views) (sym is)
              (keep v w views (mine.session).none_to_give before.shared);
          taken = λ script played.
              let front = before.taken script played in
              subst (λ (bs : List AnsweredLines). HasTakenFront script begun (view_of_pass new) rest bs)
              (sym pushed)
              (further_front script begun v (view_of_pass new) lane rest backends.items
              ((mine.session).session).pass is front.front front.behind front.script_is front.left
              front.each front.taken);
          reaches = subst (λ (bs : List AnsweredLines). ReachesAll setup.seg_size further
              (lists_of bs)) (sym pushed)
              (subst (λ (n : ℕ). ReachesAll setup.seg_size n
              (lists_of (backends.items ++ lane.backend ∷ []))) (sym end_is)
              (reaches_one_more setup.seg_size end own backends.items lane.backend
              before.reaches mine.ends));
          reserved = subst (λ (n : ℕ). IsReserved setup n (view_of_pass new)) (sym end_is)
              (reserved_behind_join setup (has_valid_size wal new pass) end own v w
              (view_of_pass new) is before.reserved (((mine.session).session).end).reserved);
        }

  module _ (begun : View) (all rest : List Lane) (first : Pass)
      (backends : Vec AnsweredLines Global) (end : ℕ) (old : AreJoining begun all rest first backends end)
      (none : rest ≡ []) where
    last : AreJoining begun all [] first backends end
    last = subst (λ (lanes : List Lane). AreJoining begun all lanes first backends end) none old

    pub none_left_to_share : ShareNumbers (setup_of_log wal).passes (view_of_pass first) []
    none_left_to_share = last.shared

    module _ (script : List (List AskedLine)) (played : PlayedLanes wal 1 script all) where
      front_is : (last.taken script played).front ≡ script
      front_is = whole_front script begun (view_of_pass first) backends.items
          (last.taken script played)

      pub all_taken_in : IsIdle begun
          → HasTakenIn (opening_of_log wal) (view_of_pass first) script
          (lists_of backends.items) × (((view_of_pass first).writing).down_set ≡ 0)
      all_taken_in idle = subst (λ (s : List (List AskedLine)).
          HasTakenIn (opening_of_log wal) (view_of_pass first) s
          (lists_of backends.items) × (((view_of_pass first).writing).down_set ≡ 0)) front_is
          ((last.taken script played).taken idle)

      pub all_told : HaveToldEach script backends.items
      all_told = subst (λ (s : List (List AskedLine)). HaveToldEach s backends.items) front_is
          (last.taken script played).each
