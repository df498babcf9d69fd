-- Calls of `receive` of pgwal as events of a standby's history.
use Rattle.std.specs.Prelude.{◌≡◌, ℕ, ◌≤◌, List, [], ◌∷◌, ◌++◌, Option, Some, Ok}
use Rattle.segment_disk.specs.Tape.{Tape}
use Rattle.waldump_text.specs.Put.{Puts}
use Rattle.wal_page.specs.Order.{Entry}
use Rattle.cli_line.specs.Given.{IsCapInRange}
use Rattle.cli_line.specs.declared.commands.ReceiveOptions.{ReceiveOptions}
use Rattle.run_laws.specs.declared.told.Told.{Told}
use Rattle.wal_stream.specs.Sent.{HandsOutLog}
use Rattle.wal_stream.specs.declared.outcome.Received.{Received}
use Rattle.reopened_log_laws.specs.Again.{IsLeftByCrash}
use Rattle.reopened_log_laws.specs.StopsAt.{StopsAt}
use Rattle.backend_cli.specs.Outside.{SourceView, disk_seen, outside_of}
use Rattle.backend_cli.specs.Receiving.{ReceiveHolds, received_text, standby_source}
use Rattle.backend_cli.specs.Setups.{system_id}
use Rattle.backend_cli.specs.declared.outcome.Outcome.{Outcome}
use Rattle.backend_cli.specs.declared.outcome.Outcome.TheVariants.{Done}
use Rattle.standby_laws.specs.History.{Closed, Lived, MayFollow, NoneTornRead, told_by, told_since}

-- a call: its options, what it reads off and prints to, and how it ends
pub record ReceiveCall (O : Type 0) : Type 0 where
  pub asked : ReceiveOptions
  pub source : SourceView
  pub source_now : SourceView
  pub out : O
  pub out_now : O
  pub outcome : Outcome
  pub lists : List (List Told)

-- pgwal made it on a disk, which came back as it is now. What the source handed out are frames of
-- an order's log, up to some address, and no torn record of the order passes its CRC as the disk
-- was read
pub record IsReceiveCall {D O : Type 0} (tape : D → Option Tape) (moment faults : D → ℕ)
    (taken : O → Option (List ℕ)) (sink_faults : O → ℕ) (size : ℕ) (es : List Entry)
    (disk disk_now : D) (call : ReceiveCall O) : Type 0 where
  pub holds : ReceiveHolds (disk_seen tape moment faults disk disk_now)
      (outside_of call.source call.source_now tape moment faults disk disk_now taken sink_faults
      call.out call.out_now) call.asked call.outcome call.lists
  pub in_range : IsCapInRange call.asked.cap_segments
  pub size_is : call.asked.geometry ≡ size
  pub none_torn : NoneTornRead size es (tape disk)
  pub hardened : ℕ
  pub comes : HandsOutLog size system_id es hardened (standby_source call.source)
      (standby_source call.source_now)

-- the history goes on with what was found and told; with status 0 the line that was printed tells
-- up to where the log is durable from the call's end on
pub record HistoryGoesOn {D O : Type 0} (tape : D → Option Tape) (moment faults : D → ℕ)
    (taken : O → Option (List ℕ)) (sink_faults : O → ℕ) (size : ℕ) (es : List Entry)
    (since : ℕ) (told : List (ℕ × ℕ)) (disk_now : D) (call : ReceiveCall O) : Type 0 where
  pub more : List (ℕ × ℕ)
  pub lived : Lived tape moment faults size system_id es since (told ++ more) (Closed disk_now)
  pub printed : call.outcome ≡ Done → (received : Received) × (front : List (ℕ × ℕ))
      × Puts (taken call.out) (taken call.out_now) (sink_faults call.out)
      (sink_faults call.out_now) (received_text received) (Ok tt)
      × (more ≡ front ++ (moment disk_now, received.upto.0) ∷ [])

-- ---- a caller of three

-- three calls on a disk with which a history may begin: behind the first one its process is killed
-- at some moment, or was, and behind the second one a crash comes
pub record ThreeReceives {D O : Type 0} (tape : D → Option Tape) (moment faults : D → ℕ)
    (taken : O → Option (List ℕ)) (sink_faults : O → ℕ) (size : ℕ) (es : List Entry)
    (begun first killed second left third : D) (one two three : ReceiveCall O)
    (killed_at crashed_at : ℕ) : Type 0 where
  pub t : Tape
  pub told : tape begun ≡ Some t
  pub may : MayFollow size system_id es t
  pub one_is : IsReceiveCall tape moment faults taken sink_faults size es begun first one
  pub t_first : Tape
  pub told_first : tape first ≡ Some t_first
  pub later : moment begun ≤ killed_at
  pub t_killed : Tape
  pub stops : StopsAt t_first killed_at t_killed
  pub told_killed : tape killed ≡ Some t_killed
  pub two_is : IsReceiveCall tape moment faults taken sink_faults size es killed second two
  pub t_second : Tape
  pub told_second : tape second ≡ Some t_second
  pub later_still : moment begun ≤ crashed_at
  pub t_left : Tape
  pub crash : IsLeftByCrash t_second crashed_at t_left
  pub told_left : tape left ≡ Some t_left
  pub three_is : IsReceiveCall tape moment faults taken sink_faults size es left third three

-- all that any of them told by the kill, the crash or its own end stands in the history
pub record ThreeGoOn {D O : Type 0} (tape : D → Option Tape) (moment faults : D → ℕ)
    (taken : O → Option (List ℕ)) (sink_faults : O → ℕ) (size : ℕ) (es : List Entry)
    (begun first killed second left third : D) (one two three : ReceiveCall O)
    (killed_at crashed_at : ℕ) : Type 0 where
  pub first_goes : HistoryGoesOn tape moment faults taken sink_faults size es (moment begun) []
      first one
  pub second_goes : HistoryGoesOn tape moment faults taken sink_faults size es (moment begun)
      (told_by killed_at first_goes.more) second two
  pub third_goes : HistoryGoesOn tape moment faults taken sink_faults size es (moment left)
      (told_since (moment left)
      (told_by crashed_at (told_by killed_at first_goes.more ++ second_goes.more))) third three
