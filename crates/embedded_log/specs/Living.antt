-- A life of a log in which sessions filled it is a life of its `Wal`, and what they were told to be
-- durable was promised there. So it stays over all lives of the log (`WalHistory` of wal_log_laws):
-- between two lives the host hands its disk in anew, whether its machine crashed, its process was
-- killed, or it closed its log.
use Rattle.std.specs.Prelude.{◌≡◌, ℕ, ◌^◌, ◌<◌, ◌≤◌, All, Contains, List, [], ◌++◌, Some}
use Rattle.byte_position.specs.Geometry.{IsSegmentSize}
use Rattle.segment_disk.specs.Tape.{Tape, empty_state, state_now}
use Rattle.handed_pages.specs.Handed.{read_tape}
use Rattle.hosted_disk.specs.Hosted.{hosted_faults, hosted_moment, hosted_tape}
use Rattle.hosted_disk.specs.declared.disk.HostedDisk.{HostedDisk}
use Rattle.wal_spelling.specs.Spelling.{Assembled, assembled}
use Rattle.wal_page.specs.Order.{Entry}
use Rattle.wal_types.specs.declared.answers.Hard.{Hard}
use Rattle.wal_types.specs.declared.answers.Receipt.{Receipt}
use Rattle.wal_reader.specs.declared.found.FoundRecord.{FoundRecord}
use Rattle.machine_state.specs.declared.setup.Setup.{Setup}
use Rattle.machine_state.specs.Views.{View}
use Rattle.wal_rule.specs.Passes.{view_of_pass}
use Rattle.wal_log.specs.declared.closing.Closed.{Closed}
use Rattle.wal_log.specs.declared.reopening.Found.{Found}
use Rattle.wal_log.specs.Logs.{opening_of_log}
use Rattle.reopened_log_laws.specs.FoundFirst.{AreFoundEntries}
use Rattle.reopened_log_laws.specs.Lives.{LifeEndsAt}
use Rattle.wal_log_laws.specs.History.{BeginsWal, ContinuesWal, order_of}
use Rattle.wal_log_laws.specs.Lives.{KeepsPromised}
use Rattle.embedded_log.specs.Opened.{ClosesSession, OpensSession}
use Rattle.embedded_log.specs.Reopened.{ReopensSession}
use Rattle.embedded_log.specs.Sessions.{setup_of_session, wal_of_session}
use Rattle.embedded_log.specs.Surviving.{WasTold}
use Rattle.embedded_log.specs.declared.session.LogSession.{LogSession}

-- a record was told to be durable from a moment on that is no later than this one
pub record WasToldBy (setup : Setup) (at : ℕ) (last : View) : Type 0 where
  pub body : Assembled
  pub receipt : Receipt
  pub hard : Hard
  pub told : WasTold setup body receipt hard last
  pub by : hard.moment ≤ at

-- records have one that was appended, at the places told
pub record HaveAppended (records : List FoundRecord) (body : Assembled) (receipt : Receipt)
    : Type 0 where
  pub appended : FoundRecord
  pub among : Contains records appended
  pub start_is : appended.head.start.0 ≡ receipt.start.0
  pub end_is : appended.head.end.0 ≡ receipt.end.0
  pub body_is : assembled appended.value ≡ body

module _ {H : Type 0} where
  -- the log of a first session was filled behind these entries and closed by a last one, and its
  -- life ended at a moment since the opening
  pub record IsLivedBySessions (size : ℕ) (first : LogSession H) (front : List Entry)
      (next : Tape) (order : List Entry) : Type 0 where
    pub last : LogSession H
    pub same_log : wal_of_session last ≡ wal_of_session first
    pub closed : Closed HostedDisk
    pub closes : ClosesSession last closed
    pub order_is : order ≡ front ++ order_of hosted_tape hosted_moment hosted_faults
        (wal_of_session last) closes.pass closed closes.closes
    pub now : Tape
    pub after : hosted_tape closed.disk ≡ Some now
    pub at : ℕ
    pub since : (opening_of_log (wal_of_session last)).moment ≤ at
    pub ends : LifeEndsAt size order now at next

  -- what the closing pass had of what was told by that moment
  abbrev pub ToldInLife : (size : ℕ) (first : LogSession H) (front : List Entry) (next : Tape)
      (order : List Entry) → IsLivedBySessions size first front next order → Type 0
  ToldInLife size first front next order life =
      WasToldBy (setup_of_session life.last) life.at (view_of_pass (life.closes).pass)

  module _ (size : ℕ) (first : LogSession H) (front : List Entry) (next : Tape)
      (order : List Entry) (Lives : List FoundRecord → Type 0) where
    -- whatever was told in such a life, it is one in which records were promised that have it all
    abbrev pub LivesWithTold : Type 0
    LivesWithTold = (life : IsLivedBySessions size first front next order)
        → (told : List (ToldInLife size first front next order life))
        → (hard : List FoundRecord) × Lives hard
        × All (λ one. HaveAppended hard one.body one.receipt) told

-- a log that was opened anew begins its `Wal`'s lives
abbrev pub OpenedSessionsLiveOn : Type 0 → Type 0
OpenedSessionsLiveOn H = (setup : Setup) (first : LogSession H) (next : Tape) (order : List Entry)
    → OpensSession setup first
    → LivesWithTold setup.seg_size first [] next order
    (BeginsWal hosted_tape hosted_moment hosted_faults setup.seg_size setup.sysid
    (read_tape empty_state) next order)

-- .. and one that was gone on with continues them, behind the entries found on the disk's tape
abbrev pub ReopenedSessionsLiveOn : Type 0 → Type 0
ReopenedSessionsLiveOn H = (setup : Setup) (first : LogSession H) (found : Found) (t next : Tape)
    (front order : List Entry) → (reopens : ReopensSession setup first found)
    → hosted_tape reopens.disk ≡ Some t → AreFoundEntries setup.seg_size t front
    → LivesWithTold setup.seg_size first front next order
    (ContinuesWal hosted_tape hosted_moment hosted_faults setup.seg_size setup.sysid t next order)

-- so a log that was opened anew and gone on with once is read with all that was told in both lives
abbrev pub TwoLivesKeepTold : Type 0 → Type 0
TwoLivesKeepTold H = (setup : Setup) (first second : LogSession H) (found : Found)
    (between next : Tape) (front one both : List Entry)
    → IsSegmentSize setup.seg_size → 0 < setup.sysid → setup.sysid < 2 ^ 64
    → OpensSession setup first
    → (begun : IsLivedBySessions setup.seg_size first [] between one)
    → (told : List (ToldInLife setup.seg_size first [] between one begun))
    → (reopens : ReopensSession setup second found)
    → hosted_tape reopens.disk ≡ Some (read_tape (state_now between))
    → AreFoundEntries setup.seg_size (read_tape (state_now between)) front
    → (life : IsLivedBySessions setup.seg_size second front next both)
    → (more : List (ToldInLife setup.seg_size second front next both life))
    → (hard : List FoundRecord)
    × KeepsPromised hosted_tape hosted_moment hosted_faults setup.seg_size setup.sysid next both
    hard
    × All (λ t. HaveAppended hard t.body t.receipt) told
    × All (λ t. HaveAppended hard t.body t.receipt) more
