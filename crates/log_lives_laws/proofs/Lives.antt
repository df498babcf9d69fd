-- What is kept of a log over a run: what was sure, and what its lines were told.
use Rattle.std.proofs.Common.{◌≡◌, ℕ, ◌^◌, ◌<◌, ◌≤◌, All, Contains, List, [], ◌++◌, length, Some, arith}
use Rattle.std.proofs.lemmas.List.Elements.{All-weaker}
use Rattle.segment_disk.specs.Tape.{Tape, state_now}
use Rattle.flush_core.specs.Pages.{HoldsNothing}
use Rattle.wal_page.specs.Order.{Entry}
use Rattle.wal_reader.specs.declared.found.FoundRecord.{FoundRecord}
use Rattle.written_log_laws.specs.Written.{found_of}
use Rattle.machine_state.specs.Suited.{IsSuited}
use Rattle.machine_state.specs.Words.{Opening}
use Rattle.machine_laws.specs.WholeOrders.{LiesBehind}
use Rattle.run_script.specs.Asked.{AskedLine}
use Rattle.run_laws.specs.declared.told.Told.{Told}
use Rattle.run_laws.specs.Crash.{SaysDurable}
use Rattle.run_laws.specs.Told.{SomeTold, order_from}
use Rattle.run_laws.specs.Assured.{IsRunOn, order_told}
use Rattle.run_laws.proofs.ClosedRuns.{empty_suited}
use Rattle.run_laws.proofs.MachineRuns.{keeps_words}
use Rattle.reopened_log_laws.specs.Reopened.{IsReopenedOn}
use Rattle.reopened_log_laws.specs.Sure.{IsLeftAt}
use Rattle.reopened_log_laws.proofs.KeptLives.{IsFirmRecord, KeepsSure, NoneTorn, begun_keeps as written_keeps, reopened_keeps}
use Rattle.reopened_log_laws.proofs.KeptRecords.{IsSureRecord}
use Rattle.reopened_log_laws.proofs.LeftRuns.{run_written}
use Rattle.reopened_log_laws.proofs.SuitedDisks.{reopened_logs_are_suited}
use Rattle.reopened_log_laws.proofs.Surviving.{calls_counted}

-- records of a run's order, each of which some line was told durable by a moment
abbrev pub AreTold : (opening : Opening) (front : List Entry) (moment : ℕ)
    (script : List (List AskedLine)) (lists : List (List Told)) → List FoundRecord → Type 0
AreTold opening front moment script lists more =
    All (λ f. Contains (found_of (opening.setup).seg_size
    (order_told front (opening.setup).seg_size script lists)) f
    × SomeTold (SaysDurable moment f.head.end.0) lists) more

-- they are firm
module _ (opening : Opening) (front : List Entry) (lies : LiesBehind opening front)
    (last moment : ℕ) (began now : Tape)
    (script : List (List AskedLine)) (lists : List (List Told))
    (run : IsRunOn opening (Some began) (Some now) last script lists)
    (suited : IsSuited opening (state_now began)) (counted : opening.moment ≡ length began.calls)
  where
    told_firm : (more : List FoundRecord) → AreTold opening front moment script lists more
        → All (IsFirmRecord opening front
        (order_from (opening.setup).seg_size 1 script lists) now moment) more
    told_firm more told =
        let w = run_written opening front last began now script lists lies run suited counted in
        let words = keeps_words opening now last script lists run.machine w.suited in
        All-weaker (λ (f : FoundRecord).
        Contains (found_of (opening.setup).seg_size
        (order_told front (opening.setup).seg_size script lists)) f
        × SomeTold (SaysDurable moment f.head.end.0) lists)
        (IsFirmRecord opening front (order_from (opening.setup).seg_size 1 script lists) now
        moment)
        (λ f k. (k.0, moment, omega arith, words.told moment f.head.end.0 k.1)) more told

-- a run that goes on with a log
pub run_keeps : (opening : Opening) (front : List Entry) (handed last moment : ℕ)
    (t began now next : Tape) (found : List FoundRecord)
    (r : IsReopenedOn opening front handed t began found)
    (script : List (List AskedLine)) (lists : List (List Told))
    → IsRunOn opening (Some began) (Some now) last script lists → (hard : List FoundRecord)
    → All (IsSureRecord (opening.setup).seg_size (opening.setup).sysid (r.left).order
    (state_now t)) hard
    → opening.moment ≤ moment → IsLeftAt now moment next
    → NoneTorn (opening.setup).seg_size
    (order_told front (opening.setup).seg_size script lists) next
    → (more : List FoundRecord) → AreTold opening front moment script lists more
    → KeepsSure (opening.setup).seg_size (opening.setup).sysid next
    (order_told front (opening.setup).seg_size script lists) (hard ++ more)
run_keeps opening front handed last moment t began now next found r script lists run hard kept since
    is none_torn more told =
    let suited = reopened_logs_are_suited opening front handed t began found r in
    let counted = calls_counted opening front handed t began found r in
    reopened_keeps opening front handed moment t began now next found r
    (order_from (opening.setup).seg_size 1 script lists)
    (run_written opening front last began now script lists r.lies run suited counted) run.goes_on
    hard kept since is none_torn more
    (told_firm opening front r.lies last moment began now script lists run suited counted more told)

-- one that begins it
pub begun_keeps : (opening : Opening) (last moment : ℕ) (t now next : Tape)
    (script : List (List AskedLine)) (lists : List (List Told)) → LiesBehind opening []
    → IsRunOn opening (Some t) (Some now) last script lists → HoldsNothing (Some t)
    → opening.made ≡ 0 → opening.moment ≡ length t.calls → (opening.setup).sysid < 2 ^ 64
    → opening.moment ≤ moment → IsLeftAt now moment next
    → NoneTorn (opening.setup).seg_size
    (order_from (opening.setup).seg_size 1 script lists) next
    → (more : List FoundRecord) → AreTold opening [] moment script lists more
    → (hard : List FoundRecord) → All (λ (f : FoundRecord). ⊥) hard
    → KeepsSure (opening.setup).seg_size (opening.setup).sysid next
    (order_from (opening.setup).seg_size 1 script lists) (hard ++ more)
begun_keeps opening last moment t now next script lists lies run nothing none_made counted narrow
    since is none_torn more told =
    let suited = empty_suited opening (Some t) none_made nothing in
    written_keeps opening moment t now next
    (order_from (opening.setup).seg_size 1 script lists)
    (run_written opening [] last t now script lists lies run suited counted) run.goes_on nothing
    none_made counted narrow since is none_torn more
    (told_firm opening [] lies last moment t now script lists run suited counted more told)
