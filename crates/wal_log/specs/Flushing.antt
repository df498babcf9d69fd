-- What a flush answers, and what it leaves of its pass.
use Rattle.std.specs.Prelude.{◌≡◌, ◌⊎◌, ℕ, ◌<◌, ◌≤◌, Result, Ok, Err}
use mathlib.Core.Option.{none}
use Rattle.byte_position.specs.Position.{position_of}
use Rattle.wal_types.specs.declared.answers.Hard.{Hard}
use Rattle.machine_state.specs.Steps.{load_down, load_flushed, load_lock, load_moment, view_behind}
use Rattle.machine_state.specs.Words.{end_form}
use Rattle.wal_rule.specs.Stepping.{Meets}
use Rattle.insert_locks.specs.Watching.{HoldsBack, SeesPosition, with_sight, with_watching}
use Rattle.machine_state.specs.Views.{View, Watching}
use Rattle.wal_log.specs.declared.turns.TurnErr.{TurnErr}
use Rattle.wal_log.specs.declared.turns.TurnErr.TheVariants as turns
use Rattle.wal_log.specs.declared.flushing.TryFlushErr.{TryFlushErr}
use Rattle.wal_log.specs.declared.flushing.TryFlushErr.TheVariants as tries
use Rattle.wal_log.specs.declared.flushing.FlushErr.{FlushErr}
use Rattle.wal_log.specs.declared.flushing.FlushErr.TheVariants.{Unreserved, Disk, Down}
use Rattle.wal_log.specs.Downs.{KnowsNoFault, MeetsDown, SetsDownItself}
use Rattle.wal_log.specs.Hands.{IsLatestPromise, MeetsWriteTurn}
use Rattle.wal_log.specs.Moments.{HasMoment, HaveReached}
use Rattle.wal_log.specs.PassLogs.{log_of_pass, log_with_promise}

-- all below an address, which is at least the one asked for, is told to be durable from a moment
-- on, which is not before the opening, and is the moment word's; nothing that was told before names
-- more or a later moment; and the disk was not known to have failed
pub record IsToldHard (asked upto moment : ℕ) (old new : View) : Type 0 where
  pub reached : asked ≤ upto
  pub log_is : log_of_pass new ≡ log_with_promise upto moment (log_of_pass old)
  pub since : (old.opening).moment ≤ moment
  pub of_word : HasMoment old new moment
  pub held : HaveReached upto moment new
  pub latest : IsLatestPromise upto moment old
  pub up : KnowsNoFault new
  pub seen : position_of ((old.opening).setup).seg_size upto ≤ (new.reserving).seen

-- what was met as flushed, and the moment that was met behind it, are told; nothing that was told
-- before names more or a later moment
pub record TellsHard (upto moment : ℕ) (old new : View) : Type 0 where
  pub flushed_met : Meets old load_flushed upto
  pub moment_met : Meets (view_behind old load_flushed upto none) load_moment moment
  pub log_is : log_of_pass new ≡ log_with_promise upto moment (log_of_pass old)
  pub since : (old.opening).moment ≤ moment
  pub held : HaveReached upto moment new
  pub latest : IsLatestPromise upto moment old
  pub seen : position_of ((old.opening).setup).seg_size upto ≤ (new.reserving).seen

-- the address asked for is above the end of what was reserved, as a load of the position met it,
-- which is no less than the log's start, and than what the pass had seen before. The view that met
-- it is the one behind the call, but that it had not seen that position yet
pub record IsUnreserved (asked end : ℕ) (old new : View) : Type 0 where
  pub end_is : end ≡ end_form (old.opening).setup (new.reserving).seen
  pub rises : (old.reserving).seen ≤ (new.reserving).seen
  pub begun : ((old.opening).setup).seg_size ≤ end
  pub above : end < asked
  pub sight : ℕ
  pub since : (old.reserving).seen ≤ sight
  pub loaded : SeesPosition (with_sight sight new) (new.reserving).seen
  pub up : KnowsNoFault new

-- the turn to write was not had
abbrev pub try_flush_err_of_turn : TurnErr → TryFlushErr
try_flush_err_of_turn (turns.Down n) = tries.Down n
try_flush_err_of_turn (turns.Taken turn) = tries.Turn turn

-- what is answered where the pass knows of a failed disk
abbrev pub try_flush_err_known_down : ℕ → Result Hard TryFlushErr
try_flush_err_known_down n = Err (tries.Down n)

abbrev pub flush_err_known_down : ℕ → Result Hard FlushErr
flush_err_known_down faults = Err (Down faults)

-- a device call of the flush itself failed: the address asked for was reserved, and above the
-- flushed one that was loaded
pub record FailsItsFlush (asked faults : ℕ) (old new : View) : Type 0 where
  pub down : SetsDownItself faults new
  pub reserved : asked ≤ end_form (old.opening).setup (new.reserving).seen
  pub above : new.writing.flushed < asked

-- why a flush told nothing
abbrev pub TellsFlushErr : ℕ → View → View → FlushErr → Type 0
TellsFlushErr asked old new (Disk faults) = FailsItsFlush asked faults old new
TellsFlushErr asked old new (Down faults) = MeetsDown faults old new
TellsFlushErr asked old new (Unreserved end) = IsUnreserved asked end.0 old new

-- the address asked for is reserved and above the flushed one that was loaded, and the disk was not
-- known to have failed
pub record IsToBeFlushed (asked : ℕ) (new : View) : Type 0 where
  pub reserved : asked ≤ end_form (new.opening).setup (new.reserving).seen
  pub above : new.writing.flushed < asked
  pub up : KnowsNoFault new

-- a lock's word was met, and its holder tells nothing, or that all is copied below a lesser address
-- than the one asked for. The view that met it is the one behind the call, but for what it watches
pub record MeetsHeldLock (asked lock word : ℕ) (new : View) : Type 0 where
  pub lock_low : lock < 8
  pub watching : Watching
  pub limit : ℕ
  pub met : Meets (with_watching watching new) (load_lock lock limit) word
  pub holds_back : HoldsBack asked word

-- all eight locks were visited, and each let the watch pass
pub record HasPassedLocks (asked : ℕ) (new : View) : Type 0 where
  pub visited : (new.watching).visited ≡ 8
  pub copied : asked ≤ (new.watching).bound

-- why one try told nothing: the pass's log is as it was
abbrev pub TellsFlushTry : ℕ → View → View → TryFlushErr → Type 0
TellsFlushTry asked old new (tries.Disk n) = FailsItsFlush asked n old new
TellsFlushTry asked old new (tries.Down n) = MeetsDown n old new
TellsFlushTry asked old new (tries.Unreserved end) = IsUnreserved asked end.0 old new
TellsFlushTry asked old new (tries.Behind lock word) =
    MeetsHeldLock asked lock.0 word new × IsToBeFlushed asked new
TellsFlushTry asked old new (tries.Turn word) =
    MeetsWriteTurn word new × HasPassedLocks asked new × IsToBeFlushed asked new

-- all below an address is told to be durable; where the flushed address that was loaded has reached
-- the one asked for, it is that one
abbrev pub HasReached : ℕ → Hard → View → View → Type 0
HasReached asked hard old new = IsToldHard asked hard.upto.0 hard.moment old new
    × ((hard.upto.0 ≡ new.writing.flushed) ⊎ (new.writing.flushed < asked))

-- what one try answers: the address asked for, the pass's view before it, the answer, and the view
-- after it
abbrev pub AnswersFlushTry : ℕ → View → Result Hard TryFlushErr → View → Type 0
AnswersFlushTry asked old (Ok hard) new = HasReached asked hard old new
AnswersFlushTry asked old (Err e) new =
    TellsFlushTry asked old new e × (log_of_pass new ≡ log_of_pass old)

-- flush: the address asked for, the pass's view before it, the answer, and the view after it
abbrev pub AnswersFlush : ℕ → View → Result Hard FlushErr → View → Type 0
AnswersFlush asked old (Ok hard) new = HasReached asked hard old new
AnswersFlush asked old (Err e) new =
    (log_of_pass new ≡ log_of_pass old) × TellsFlushErr asked old new e

-- ---- whether the address is reserved

-- the view behind a down value of 0
abbrev pub view_met_up : View → View
view_met_up old = view_behind old load_down 0 none

-- a pass with this view met the position, by which the address asked for is reserved
pub record SeesReserved (asked : ℕ) (v : View) : Type 0 where
  pub seen : ℕ
  pub position : SeesPosition v seen
  pub reserved : asked ≤ end_form (v.opening).setup seen

-- or is above the end of what is reserved
pub record SeesUnreserved (asked : ℕ) (v : View) : Type 0 where
  pub seen : ℕ
  pub position : SeesPosition v seen
  pub above : end_form (v.opening).setup seen < asked

-- the address is told as unreserved where the position met by this view says so, and nowhere else
abbrev pub SeesWhether : ℕ → View → Result Hard TryFlushErr → Type 0
SeesWhether asked v (Ok hard) = SeesReserved asked v
SeesWhether asked v (Err (tries.Disk n)) = SeesReserved asked v
SeesWhether asked v (Err (tries.Down n)) = SeesReserved asked v
SeesWhether asked v (Err (tries.Unreserved end)) = SeesUnreserved asked v
SeesWhether asked v (Err (tries.Behind lock word)) = SeesReserved asked v
SeesWhether asked v (Err (tries.Turn word)) = SeesReserved asked v

-- a down value of 0 was met, and behind it that position
abbrev pub MeetsReserved : ℕ → View → Type 0
MeetsReserved asked old = Meets old load_down 0 × SeesReserved asked (view_met_up old)

abbrev pub MeetsUnreserved : ℕ → View → Type 0
MeetsUnreserved asked old = Meets old load_down 0 × SeesUnreserved asked (view_met_up old)

-- whether the address is reserved goes by the first position that is met: it is told as unreserved
-- where it is above the end met then, and nowhere else. A down value may be met before that
abbrev pub JudgesFlushTry : ℕ → View → Result Hard TryFlushErr → Type 0
JudgesFlushTry asked old (Ok hard) = MeetsReserved asked old
JudgesFlushTry asked old (Err (tries.Disk n)) = MeetsReserved asked old
JudgesFlushTry asked old (Err (tries.Down n)) =
    Meets old load_down n ⊎ MeetsReserved asked old
JudgesFlushTry asked old (Err (tries.Unreserved end)) = MeetsUnreserved asked old
JudgesFlushTry asked old (Err (tries.Behind lock word)) = MeetsReserved asked old
JudgesFlushTry asked old (Err (tries.Turn word)) = MeetsReserved asked old

abbrev pub JudgesFlush : ℕ → View → Result Hard FlushErr → Type 0
JudgesFlush asked old (Ok hard) = MeetsReserved asked old
JudgesFlush asked old (Err (Disk n)) = MeetsReserved asked old
JudgesFlush asked old (Err (Down n)) = Meets old load_down n ⊎ MeetsReserved asked old
JudgesFlush asked old (Err (Unreserved end)) = MeetsUnreserved asked old

-- ---- where nothing is to be done

-- a pass with this view met these as flushed, and behind it as the moment; and its view is else as
-- it was, so it watched no lock. (A turn that is taken and given back leaves no trace in a view.)
pub record LoadsHard (hard : Hard) (old new : View) : Type 0 where
  pub flushed_met : Meets old load_flushed hard.upto.0
  pub moment_met : Meets (view_behind old load_flushed hard.upto.0 none) load_moment hard.moment
  pub new_is : new
      ≡ view_behind (view_behind old load_flushed hard.upto.0 none) load_moment hard.moment none

-- a pass with this view met a flushed address below the one asked for
pub record MeetsUnflushed (asked : ℕ) (v : View) : Type 0 where
  pub flushed : ℕ
  pub met : Meets v load_flushed flushed
  pub below : flushed < asked

-- the view behind a look at the down value, which was this one, and at the position, by which it
-- sees so much reserved: all else is as it was
abbrev pub view_looked : (down seen : ℕ) → View → View
view_looked down seen v = with_sight seen (view_behind v load_down down none)

-- the pass looked at these two, found the disk up, and then met a flushed address below the one
-- asked for: it was the first that it met
abbrev pub FindsUnflushed : (asked : ℕ) → View → Type 0
FindsUnflushed asked old = (seen : ℕ) × MeetsUnflushed asked (view_looked 0 seen old)

-- the pass looked at these two, and at nothing else
abbrev pub HasOnlyLooked : (down : ℕ) → View → View → Type 0
HasOnlyLooked down old new = (seen : ℕ) × (new ≡ view_looked down seen old)

-- a try was over at once: the flushed address that it met, with the moment, is told; or the down
-- value and the position alone were loaded. A lock or a turn that was in its way is no such answer
abbrev pub TryEndsAtOnce : View → Result Hard TryFlushErr → View → Type 0
TryEndsAtOnce old (Ok hard) new = (seen : ℕ) × LoadsHard hard (view_looked 0 seen old) new
TryEndsAtOnce old (Err (tries.Disk n)) new = ⊥
TryEndsAtOnce old (Err (tries.Down n)) new = HasOnlyLooked n old new
TryEndsAtOnce old (Err (tries.Unreserved end)) new = HasOnlyLooked 0 old new
TryEndsAtOnce old (Err (tries.Behind lock word)) new = ⊥
TryEndsAtOnce old (Err (tries.Turn word)) new = ⊥

abbrev pub FlushEndsAtOnce : View → Result Hard FlushErr → View → Type 0
FlushEndsAtOnce old (Ok hard) new = (seen : ℕ) × LoadsHard hard (view_looked 0 seen old) new
FlushEndsAtOnce old (Err (Disk n)) new = ⊥
FlushEndsAtOnce old (Err (Down n)) new = HasOnlyLooked n old new
FlushEndsAtOnce old (Err (Unreserved end)) new = HasOnlyLooked 0 old new

-- more is done only where the flushed address that was met first is below the one asked for
abbrev pub TriesOnlyUnflushed : ℕ → View → Result Hard TryFlushErr → View → Type 0
TriesOnlyUnflushed asked old answer new = TryEndsAtOnce old answer new ⊎ FindsUnflushed asked old

abbrev pub FlushesOnlyUnflushed : ℕ → View → Result Hard FlushErr → View → Type 0
FlushesOnlyUnflushed asked old answer new = FlushEndsAtOnce old answer new
    ⊎ FindsUnflushed asked old
