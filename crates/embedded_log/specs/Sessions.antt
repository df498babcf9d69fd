-- A session: the log that it is of, what its passes know, and what holds of it between two calls.
use Rattle.std.specs.Prelude.{◌≡◌, ℕ, ◌%◌, ◌≤◌, [], ◌∷◌, IfSome}
use Rattle.hosted_disk.specs.declared.disk.HostedDisk.{HostedDisk}
use Rattle.machine_state.specs.Moves.{after_join, after_split, split_off}
use Rattle.machine_state.specs.Views.{View}
use Rattle.machine_state.specs.Words.{end_form}
use Rattle.machine_state.specs.declared.setup.Setup.{Setup}
use Rattle.wal_rule.specs.Passes.{view_of_pass}
use Rattle.wal_log.specs.declared.wal.Wal.{Wal}
use Rattle.wal_log.specs.Logs.{IsPassOfLog, setup_of_log}
use Rattle.wal_log.specs.PassLogs.{log_of_pass}
use Rattle.wal_log.specs.Sharing.{ShareNumbers}
use Rattle.wal_log.specs.Standing.{KeepsPass}
use Rattle.wal_log_laws.specs.Growing.{GrowsTo}
use Rattle.embedded_log.specs.declared.session.LogSession.{LogSession}
use Rattle.embedded_log.specs.Promised.{IsPromisedHard}

-- a record ends at this address, at a word, and lies below a byte position, up to which a pass has
-- seen all reserved
pub record HasSeenEnd (setup : Setup) (end seen : ℕ) : Type 0 where
  pub at : ℕ
  pub end_is : end ≡ end_form setup at
  pub whole : end % 8 ≡ 0
  pub below : at ≤ seen

module _ {H : Type 0} where
  -- the log that it is of
  abbrev pub wal_of_session : LogSession H → Wal HostedDisk
  wal_of_session session = ((session.log).value).wal

  abbrev pub setup_of_session : LogSession H → Setup
  setup_of_session session = setup_of_log (wal_of_session session)

  -- what the pass knows with which it appends and flushes, and what its helper does
  abbrev pub view_of_session : LogSession H → View
  view_of_session session = view_of_pass session.pass

  abbrev pub view_of_helper : LogSession H → View
  view_of_helper session = view_of_pass session.helper

  -- between two calls its passes are the log's and about nothing, what it holds back was promised,
  -- and its pass has seen where the last record ends that it appended
  pub record IsOpenSession (session : LogSession H) : Type 0 where
    pub pass : IsPassOfLog (wal_of_session session) session.pass
    pub helper : IsPassOfLog (wal_of_session session) session.helper
    pub pending : IfSome session.pending
        (λ hard. IsPromisedHard hard (log_of_pass (view_of_session session)))
    pub appended : IfSome session.appended
        (λ end. HasSeenEnd (setup_of_session session) end.0
        ((view_of_session session).reserving).seen)

  -- a call leaves it open at the same log: its passes keep their numbers and what they had seen,
  -- and the log of the one that appends has grown
  pub record GoesOnOpen (old new : LogSession H) : Type 0 where
    pub same_log : new.log ≡ old.log
    pub kept : IsOpenSession new
    pub keeps : KeepsPass (view_of_session old) (view_of_session new)
    pub grows : GrowsTo (log_of_pass (view_of_session old)) (log_of_pass (view_of_session new))
    pub helper : KeepsPass (view_of_helper old) (view_of_helper new)

  -- another session was split off, with the two least of the spare numbers
  pub record SplitsOff (old new other : LogSession H) : Type 0 where
    pub same_log : new.log ≡ old.log
    pub other_log : wal_of_session other ≡ wal_of_session old
    pub pass : view_of_session new ≡ after_split (after_split (view_of_session old))
    pub helper : new.helper ≡ old.helper
    pub other_pass : view_of_session other ≡ split_off (view_of_session old)
    pub other_helper : view_of_helper other ≡ split_off (after_split (view_of_session old))
    pub kept : IsOpenSession new
    pub other_kept : IsOpenSession other

  -- another one was taken in
  pub record JoinsIn (old other new : LogSession H) : Type 0 where
    pub same_log : new.log ≡ old.log
    pub pass : view_of_session new
        ≡ after_join (after_join (view_of_session old) (view_of_session other))
        (view_of_helper other)
    pub helper : new.helper ≡ old.helper
    pub kept : IsOpenSession new

  -- its two passes have all numbers of the log, so that no other session is left; and the helper
  -- has none to give away
  pub record IsSole (session : LogSession H) : Type 0 where
    pub numbers : ShareNumbers (setup_of_session session).passes (view_of_session session)
        (view_of_helper session ∷ [])
    pub none_to_give : ((view_of_helper session).reserving).spare_end ≡ 0
