-- Lanes that played their lines, and the last flush behind them.
use Rattle.std.proofs.Common.{◌≡◌, ℕ, suc, ◌+◌, ◌<◌, ◌++◌, [], ◌∷◌, All, Global, List, Result, Vec, Ok, Err, inl, inr, ap, arith, length, map, refl, slice_index_or, subst, sym, take, ◌∙◌}
use Rattle.std.proofs.lemmas.List.{length-map, take-append-le, take_all}
use Rattle.std.proofs.lemmas.List.Elements.{All-cons, All-nil, Contains-append_right}
use Rattle.std.specs.Prelude.{Contains}
use Rattle.byte_position.specs.Geometry.{IsSegmentSize}
use Rattle.wal_types.specs.declared.answers.Hard.{Hard}
use Rattle.machine_state.specs.Views.{FlushPromise, View}
use Rattle.machine_state.specs.Words.{Opening}
use Rattle.machine_state.specs.declared.setup.Setup.{Setup}
use Rattle.wal_rule.specs.Closing.{KeepsNumbers}
use Rattle.wal_rule.specs.Downs.{KnowsDown}
use Rattle.wal_rule.specs.Passes.{view_of_pass}
use Rattle.machine_state.specs.Opened.{first_view}
use Rattle.wal_rule.specs.declared.pass.Pass.{Pass}
use Rattle.wal_log.specs.Flushing.{AnswersFlush, flush_err_known_down}
use Rattle.wal_log.specs.Logs.{IsPassOfLog, opening_of_log, setup_of_log}
use Rattle.wal_log.specs.PassLogs.{PassLog}
use Rattle.wal_log.specs.Standing.{KeepsPass}
use Rattle.wal_log.specs.declared.flushing.FlushErr.{FlushErr}
use Rattle.wal_log.specs.declared.flushing.FlushErr.TheVariants.{Unreserved, Disk, Down}
use Rattle.wal_log.specs.declared.wal.Wal.{Wal}
use Rattle.run_script.specs.Asked.{AskedLine}
use Rattle.run_script.specs.Bodies.{AreLinesOf}
use Rattle.run_script.specs.declared.line.Line.{Line}
use Rattle.run_laws.specs.declared.told.Told.{Told}
use Rattle.run_laws.specs.Ended.{HasTakenIn}
use Rattle.run_laws.specs.Reached.{ReachesAll}
use Rattle.run_laws.proofs.TakingIn.{still_taken_in}
use Rattle.run_laws.specs.ClosedRuns.{HasFlushedAll}
use Rattle.wal_log.specs.Sharing.{KeepEach, ShareNumbers}
use Rattle.wal_log.proofs.Lanes.{views_keep_each}
use Rattle.run_backends.specs.Lanes.{BegunLanes, IsFreshLane, IsIdle, IsReadyLane, MayBeTakenIn, PlayedLanes, PlaysAsked, PlaysLane, view_of_lane}
use Rattle.run_backends.specs.Sessions.{IsReserved}
use Rattle.run_backends.specs.declared.lane.Lane.{Lane}
use Rattle.run_backends.proofs.FlushLines.{never_unreserved}
use Rattle.run_backends.proofs.JoinLanes.{reaches_further}

-- ---- lanes that may play

pub ready_lanes : {D : Type 0} (wal : Wal D) (pass : ℕ) (script : List (List AskedLine))
    (lanes : List Lane) → BegunLanes wal pass script lanes → All (IsReadyLane wal) lanes
ready_lanes {D} wal pass [] [] begun = All-nil (IsReadyLane wal)
ready_lanes {D} wal pass [] (lane ∷ lanes) begun = absurd begun
ready_lanes {D} wal pass (asked ∷ script) [] begun = absurd begun
ready_lanes {D} wal pass (asked ∷ script) (lane ∷ lanes) begun =
    All-cons (IsReadyLane wal) lane lanes
    (record { fresh = begun.0; asked = asked; lines = begun.2 })
    (ready_lanes wal (pass + 1) script lanes begun.3)

-- ---- lanes that played their lines

module _ {D : Type 0} (wal : Wal D) where
  -- each played its own
  pub record HavePlayed (old new : List Lane) : Type 0 where
    pub same : length new ≡ length old
    pub each : (k : ℕ) (d : Lane) → k < length old
        → PlaysLane wal (slice_index_or old k d) (slice_index_or new k d)

  -- a vector of so many lanes that were lent to those who play has them again
  pub played_in_place : (count : ℕ) (lanes lent new rest : List Lane) → lent ≡ lanes
      → count ≡ length lanes → length new ≡ length lent
      → ((k : ℕ) (d : Lane) → k < length lent
      → PlaysLane wal (slice_index_or lent k d) (slice_index_or new k d))
      → HavePlayed lanes (take count (new ++ rest))
  played_in_place count lanes lent new rest value all same each =
      let lent_all = ap (λ (xs : List Lane). length xs) value in
      let back : take count (new ++ rest) ≡ new =
      take-append-le count new rest (omega (arith, all, lent_all, same))
      ∙ take_all count new (omega (arith, all, lent_all, same)) in
      subst (λ (xs : List Lane). HavePlayed lanes xs) (sym back)
      (subst (λ (xs : List Lane). HavePlayed xs new) value (record { same = same; each = each }))

  first_played : (x y : Lane) (old new : List Lane) → HavePlayed (x ∷ old) (y ∷ new)
      → PlaysLane wal x y
  first_played x y old new have = have.each 0 x (omega arith)

  others_played : (x y : Lane) (old new : List Lane) → HavePlayed (x ∷ old) (y ∷ new)
      → HavePlayed old new
  others_played x y old new have = record {
    same = (let same = have.same in omega (arith, same));
    each = λ k d low. have.each (suc k) d (omega (arith, low));
  }

  lane_may_be_taken_in : (old new : Lane) → IsFreshLane wal old → PlaysLane wal old new
      → MayBeTakenIn wal new
  lane_may_be_taken_in old new fresh plays = record {
    session = record {
      session = plays.session;
      joined = (plays.keeps).joined ∙ (fresh.session).joined;
      none_to_give = (plays.keeps).spare_end ∙ (fresh.session).none_to_give;
    };
    ends = plays.ends;
  }

  pub may_be_taken_in : (old new : List Lane) → HavePlayed old new → All (IsFreshLane wal) old
      → All (MayBeTakenIn wal) new
  may_be_taken_in old new have fresh = λ k d low.
      let same = have.same in
      let within : k < length old = omega (arith, low, same) in
      lane_may_be_taken_in (slice_index_or old k d) (slice_index_or new k d) (fresh k d within)
      (have.each k d within)

  pub played_lanes : (pass : ℕ) (script : List (List AskedLine)) (old new : List Lane)
      → HavePlayed old new → BegunLanes wal pass script old → PlayedLanes wal pass script new
  played_lanes pass [] [] [] have begun = tt
  played_lanes pass [] [] (y ∷ new) have begun =
      absurd (let same = have.same in omega (arith, same))
  played_lanes pass [] (x ∷ old) new have begun = absurd begun
  played_lanes pass (asked ∷ script) [] new have begun = absurd begun
  played_lanes pass (asked ∷ script) (x ∷ old) [] have begun =
      absurd (let same = have.same in omega (arith, same))
  played_lanes pass (asked ∷ script) (x ∷ old) (y ∷ new) have begun =
      let plays = first_played x y old new have in
      let number = (plays.keeps).number ∙ begun.1 in
      let lines = subst (λ (ls : Vec Line Global). AreLinesOf asked ls.items) (sym plays.lines)
      begun.2 in (
        lane_may_be_taken_in x y begun.0 plays,
        number,
        record { lines = lines; each = plays.each },
        subst (λ (n : ℕ). PlaysAsked wal n asked y) number (plays.plays asked lines),
        played_lanes (pass + 1) script old new (others_played x y old new have) begun.3,
      )

  -- they share the numbers of the log still
  pub played_share : (v : View) (old new : List Lane) → HavePlayed old new
      → ((v w : View) → KeepsPass v w → KeepsNumbers v w)
      → ((others more : List View) → length more ≡ length others → KeepEach others more
      → ShareNumbers (setup_of_log wal).passes v others
      → ShareNumbers (setup_of_log wal).passes v more)
      → ShareNumbers (setup_of_log wal).passes v (map (λ lane. view_of_lane lane) old)
      → ShareNumbers (setup_of_log wal).passes v (map (λ lane. view_of_lane lane) new)
  played_share v old new have calls keep share =
      let view = λ (lane : Lane). view_of_lane lane in
      keep (map view old) (map view new)
      (length-map new view ∙ have.same ∙ sym (length-map old view))
      (views_keep_each view old new have.same
      (λ k d low. calls (view (slice_index_or old k d)) (view (slice_index_or new k d))
      ((have.each k d low).keeps))) share

-- ---- the first pass before them

pub first_is_idle : (opening : Opening) (v : View) → v ≡ first_view opening → IsIdle v
first_is_idle opening v is = subst IsIdle (sym is) (record {
  number = refl;
  none = refl;
  joined = refl;
  set_none = refl;
})

pub first_gives_from_one : {D : Type 0} (wal : Wal D) (first : Pass) → IsPassOfLog wal first
    → view_of_pass first ≡ first_view (opening_of_log wal) → first.spare ≡ 1
first_gives_from_one wal first pass is =
    ((pass.of_log).numbers).low ∙ ap (λ (v : View). (v.reserving).spare) is

-- ---- the last flush

same_entries : (asked : ℕ) (v w : View) (answer : Result Hard FlushErr)
    → AnswersFlush asked v answer w → (w.reserving).entries ≡ (v.reserving).entries
same_entries asked v w (Ok hard) told = ap (λ (l : PassLog). l.entries) (told.0).log_is
same_entries asked v w (Err e) told = ap (λ (l : PassLog). l.entries) told.0

-- where the pass knew a fault, the flush sets none
sets_none : (asked : ℕ) (v w : View) (answer : Result Hard FlushErr)
    → AnswersFlush asked v answer w
    → ((faults : ℕ) → KnowsDown faults v → answer ≡ flush_err_known_down faults)
    → (faults : ℕ) → KnowsDown faults v → (w.writing).down_set ≡ (v.writing).down_set
sets_none asked v w answer told again faults knows =
    let met = subst (λ (a : Result Hard FlushErr). AnswersFlush asked v a w) (again faults knows)
    told in
    (met.1).set_none

-- the passes that were taken in are so still
pub taken_behind_flush : (opening : Opening) (asked : ℕ) (v w : View)
    (answer : Result Hard FlushErr) → AnswersFlush asked v answer w
    → ((faults : ℕ) → KnowsDown faults v → answer ≡ flush_err_known_down faults)
    → KeepsPass v w → (script : List (List AskedLine)) (lists : List (List Told))
    → HasTakenIn opening v script lists
    → HasTakenIn opening w script lists
taken_behind_flush opening asked v w answer told again keeps script lists taken =
    still_taken_in opening v w script lists taken keeps.number
    (same_entries asked v w answer told) keeps.joined keeps.rises (λ faults knows. keeps.down faults knows)
    (sets_none asked v w answer told again)

module _ (setup : Setup) (valid : IsSegmentSize setup.seg_size) (asked : ℕ) (v w : View)
    (setup_is : (v.opening).setup ≡ setup) where
  -- it promises all that was reserved, or tells that the disk has failed
  pub flushed_all : (lists : List (List Told)) (answer : Result Hard FlushErr)
      → AnswersFlush asked v answer w → IsReserved setup asked v
      → ReachesAll setup.seg_size asked lists → HasFlushedAll setup.seg_size lists w
  flushed_all lists (Ok hard) told reserved reaches =
      let p : FlushPromise = record {
        upto = (hard.upto).0;
        moment = hard.moment;
        entries = length (v.reserving).entries;
      } in
      inl (
        p,
        subst (λ (ps : List FlushPromise). Contains ps p)
            (sym (ap (λ (l : PassLog). l.promises) (told.0).log_is))
            (Contains-append_right v.writing.promises (p ∷ []) p (0, (omega arith), refl)),
        reaches_further setup.seg_size asked (hard.upto).0 lists (told.0).reached reaches,
      )
  flushed_all lists (Err (Disk faults)) told reserved reaches =
      inr (faults, (((told.1).down).some, inr ((told.1).down).set))
  flushed_all lists (Err (Down faults)) told reserved reaches =
      inr (faults, ((told.1).some, inl (told.1).met))
  flushed_all lists (Err (Unreserved end)) told reserved reaches =
      absurd (never_unreserved setup valid v w setup_is asked reserved end.0 told.1)
