-- What the exported call of a session tells: what the log's own call says, by what was asked and
-- what was answered.
use Rattle.std.specs.Prelude.{◌≡◌, ◌≢◌, ℕ, ◌⊎◌, ◌<◌, ◌≤◌, ◌==◌, not, List, [], ◌∷◌, ◌++◌, Option, Some, None, IfSome}
use Rattle.wal_spelling.specs.Record.{plain_record, switch_record}
use Rattle.wal_spelling.specs.Spelling.{Assembled, assembled}
use Rattle.wal_types.specs.declared.answers.Hard.{Hard}
use Rattle.wal_types.specs.declared.answers.Receipt.{Receipt}
use Rattle.wal_types.specs.declared.record.Block.{Block}
use Rattle.wal_types.specs.declared.record.Image.{Image}
use Rattle.wal_types.specs.declared.record.Record.{Record as RecordValue}
use Rattle.machine_state.specs.Views.{View}
use Rattle.wal_log.specs.Beginning.{TellsBeginTry}
use Rattle.wal_log.specs.Flushing.{IsUnreserved}
use Rattle.wal_log.specs.Standing.{KeepsPass}
use Rattle.wal_log.specs.Switching.{FindsSegmentStart}
use Rattle.wal_log.specs.PassLogs.{log_of_pass}
use Rattle.wal_log.specs.declared.behind.Caught.TheVariants.{Flushed, Idle}
use Rattle.wal_log.specs.declared.beginning.TryErr.TheVariants.{Full}
use Rattle.embedded_log.specs.Appended.{IsAppended, IsGoing}
use Rattle.embedded_log.specs.Promised.{IsPromisedHard, IsToldMade, KnowsDown, TellsMade}
use Rattle.embedded_log.specs.Sessions.{GoesOnOpen, SplitsOff, setup_of_session, view_of_session}
use Rattle.embedded_log.specs.declared.appending.Appending.{Appending}
use Rattle.embedded_log.specs.declared.session.LogSession.{LogSession}
use Rattle.pgwal_c.specs.declared.answers.TheConstants.{BEHIND, DONE, DOWN, FULL, IDLE, MEMORY, MISUSE, QUEUE, UNRESERVED}
use Rattle.pgwal_c.specs.declared.said.ProgramSaid.{ProgramSaid}
use Rattle.pgwal_c.specs.declared.session_handle.SessionCall.{SessionCall}
use Rattle.pgwal_c.specs.declared.session_handle.TheConstants.{ADD_BLOCK, ADD_IMAGE, APPEND, END, FLUSH, RAISE, SPLIT, SWITCH, WRITE_BEHIND}

-- the program has said that it made so many of the disk's calls, and that each answered Ok. No
-- clause can say it: its word is taken where it acknowledges them, and, of no call, where a log
-- begins
unfoldable pub ProgramSays : ℕ → Type 0
ProgramSays count = Unit {0}

abbrev pub ProgramSession : Type 0
ProgramSession = LogSession ProgramSaid

-- what was given of the next record: the blocks that it references, and the image of the next one
pub record GivenParts : Type 0 where
  pub blocks : List Block
  pub image : Option Image

abbrev pub nothing_given : GivenParts
nothing_given = record { blocks = []; image = None }

-- what clauses see of a session's handle: the session, until it ends; a segment switch on its way,
-- which has the session then; and what was given
pub record SeenSession : Type 0 where
  pub session : Option ProgramSession
  pub switching : Option (Appending ProgramSaid)
  pub given : GivenParts

-- this holds of the session that was there and of the one that is
abbrev pub HoldsAcross : (ProgramSession → ProgramSession → Type 0) → SeenSession → SeenSession
    → Type 0
HoldsAcross P old new =
    (s t : ProgramSession) × (old.session ≡ Some s) × (new.session ≡ Some t) × P s t

-- a session that was there is there, and goes on open
abbrev pub GoesOnHeld : Option ProgramSession → Option ProgramSession → Type 0
GoesOnHeld None None = Unit {0}
GoesOnHeld None (Some t) = ⊥
GoesOnHeld (Some s) None = ⊥
GoesOnHeld (Some s) (Some t) = GoesOnOpen s t

-- the record that is asked for, with these blocks, and these bytes as its main data
abbrev pub record_asked : List Block → SessionCall → List ℕ → RecordValue
record_asked blocks asked main =
    record (plain_record (record { 0 = asked.xid }) asked.rmid asked.info main) { blocks = blocks }

-- the block that is asked for, with this image and data, and the image that is asked for
abbrev pub block_asked : Option Image → SessionCall → List ℕ → Block
block_asked image asked content = record {
  id = (asked.block).id;
  rel = record { spc = (asked.block).spc; db = (asked.block).db; rel = (asked.block).rel };
  fork = (asked.block).fork;
  blk = (asked.block).blk;
  will_init = not ((asked.block).will_init == 0);
  content = content;
  image = image;
}

abbrev pub image_asked : SessionCall → List ℕ → Image
image_asked asked bytes = record {
  apply = not ((asked.block).apply == 0);
  hole_offset = (asked.block).hole_offset;
  hole_len = (asked.block).hole_len;
  bytes = bytes;
}

-- what a call told to be durable, and where it told a record to stand
abbrev pub hard_of_call : SessionCall → Hard
hard_of_call told = record { upto = record { 0 = told.upto }; moment = told.moment }

abbrev pub receipt_of_call : SessionCall → Receipt
receipt_of_call told = record { start = record { 0 = told.start }; end = record { 0 = told.end } }

-- a session went on, by a flush where the ring had too little room, and then appended a record
pub record AppendsTold (body : Assembled) (receipt : Receipt) (old new : ProgramSession) : Type 0
  where
    pub before : ProgramSession
    pub goes_on : GoesOnOpen old before
    pub appended : IsAppended (setup_of_session before) body (view_of_session before)
        (view_of_session new) receipt

-- .. or found so many bytes left, and appended nothing
pub record FindsFullTold (body : Assembled) (free : ℕ) (old new : ProgramSession) : Type 0 where
  pub before : ProgramSession
  pub goes_on : GoesOnOpen old before
  pub full : TellsBeginTry (setup_of_session before) body (view_of_session before)
      (view_of_session new) (Full free)

-- the session that is there knows of a failed disk, by a count of its faults
abbrev pub KnowsFailedDisk : ProgramSession → ProgramSession → Type 0
KnowsFailedDisk old new = (faults : ℕ) × KnowsDown faults (view_of_session new)

-- this end of what is reserved was met, below the address asked for: by a try of a flush behind a
-- load of the flushed address, by which the session's pass had the view between
abbrev pub FindsUnreserved : (asked end : ℕ) → ProgramSession → ProgramSession → Type 0
FindsUnreserved asked end old new = (mid : View) × KeepsPass (view_of_session old) mid
    × IsUnreserved asked end mid (view_of_session new)

-- an append: the record stands at the places told, if it is answered DONE; else none is told
pub record TellsAppend (body : Assembled) (old new : SeenSession) (asked told : SessionCall)
    (answer : ℕ) : Type 0 where
  pub done : answer ≡ DONE → HoldsAcross (AppendsTold body (receipt_of_call told)) old new
  pub full : answer ≡ FULL → HoldsAcross (FindsFullTold body told.detail) old new
  pub down : answer ≡ DOWN → HoldsAcross KnowsFailedDisk old new
  pub no_place : answer ≢ DONE → told.start ≡ asked.start
  pub goes_on : answer ≢ MISUSE → GoesOnHeld old.session new.session
  pub gone : answer ≡ MISUSE → new.session ≡ None

-- a flush: what is told was promised, reaches the address asked for, and the program has said that
-- it made the calls that make it so, if it is answered DONE; or was promised, if BEHIND. Else it is
-- told that the address asked for is above this end of what is reserved, if UNRESERVED; and this
-- count of a failed disk's faults, if DOWN
pub record TellsFlush (old new : SeenSession) (asked told : SessionCall) (answer : ℕ) : Type 0
  where
    pub done : answer ≡ DONE → HoldsAcross (λ s t.
        IsToldMade ProgramSays asked.upto (hard_of_call told) (view_of_session t)) old new
    pub behind : answer ≡ BEHIND → HoldsAcross (λ s t.
        IsPromisedHard (hard_of_call told) (log_of_pass (view_of_session t))) old new
    pub unreserved : answer ≡ UNRESERVED → HoldsAcross (FindsUnreserved asked.upto told.end) old new
    pub down : answer ≡ DOWN → HoldsAcross (λ s t.
        KnowsDown told.detail (view_of_session t)) old new
    pub goes_on : GoesOnHeld old.session new.session
    pub rest : new ≡ record old { session = new.session }
    pub gone : answer ≡ MISUSE → new.session ≡ None

-- a flush behind commits that were answered ahead: as the log's own call tells, of what was found
-- to be flushed, if it is answered DONE, or that nothing was, if IDLE; BEHIND and DOWN tell what
-- they do of a flush
pub record TellsBehind (old new : SeenSession) (told : SessionCall) (answer : ℕ) : Type 0 where
  pub done : answer ≡ DONE → HoldsAcross (λ s t. TellsMade ProgramSays (Flushed (hard_of_call told))
      (view_of_session s) (view_of_session t)) old new
  pub idle : answer ≡ IDLE → HoldsAcross (λ s t. TellsMade ProgramSays
      (Idle (record { 0 = told.upto })) (view_of_session s) (view_of_session t)) old new
  pub behind : answer ≡ BEHIND → HoldsAcross (λ s t.
      IsPromisedHard (hard_of_call told) (log_of_pass (view_of_session t))) old new
  pub down : answer ≡ DOWN → HoldsAcross (λ s t. KnowsDown told.detail (view_of_session t)) old new
  pub goes_on : GoesOnHeld old.session new.session
  pub rest : new ≡ record old { session = new.session }
  pub gone : answer ≡ MISUSE → new.session ≡ None

-- what was appended counts as answered, if it is answered DONE: the session has met or stored an
-- async address that is no less than its last record's end
pub record TellsRaised (old new : SeenSession) (answer : ℕ) : Type 0 where
  pub done : answer ≡ DONE → HoldsAcross (λ s t.
      IfSome s.appended (λ end. end.0 ≤ (view_of_session t).async_met)) old new
  pub goes_on : GoesOnHeld old.session new.session
  pub rest : new ≡ record old { session = new.session }
  pub gone : answer ≡ MISUSE → new.session ≡ None

-- a part of the next record: it is given, if it is answered DONE; else all that was is let go
pub record TellsGiven (old new : SeenSession) (answer : ℕ) (given : GivenParts) : Type 0 where
  pub done : answer ≡ DONE → new ≡ record old { given = given }
  pub other : answer ≢ DONE → new ≡ record old { given = nothing_given }

-- a segment switch that this session began, by this record: it stands at the places told, or the
-- log stood at a segment's start, if it is answered DONE; it is on its way, if QUEUE
pub record SwitchesTold (body : Assembled) (s : ProgramSession) (new : SeenSession)
    (told : SessionCall) (answer : ℕ) : Type 0 where
  pub done : answer ≡ DONE → (t : ProgramSession) × (new.session ≡ Some t) × GoesOnOpen s t
      × (IsAppended (setup_of_session s) body (view_of_session s) (view_of_session t)
      (receipt_of_call told)
      ⊎ FindsSegmentStart (setup_of_session s) told.end (view_of_session s) (view_of_session t))
  pub queue : answer ≡ QUEUE
      → (a : Appending ProgramSaid) × (new.switching ≡ Some a) × IsGoing body s a
  pub down : answer ≡ DOWN
      → (t : ProgramSession) × (new.session ≡ Some t) × KnowsFailedDisk s t
  pub other : answer ≢ DONE → answer ≢ QUEUE
      → (t : ProgramSession) × (new.session ≡ Some t) × GoesOnOpen s t

-- a segment switch: it is begun by the session that is there, or the one on its way goes on
pub record TellsSwitch (old new : SeenSession) (told : SessionCall) (answer : ℕ) : Type 0 where
  pub begun : (s : ProgramSession) → old.session ≡ Some s → old.switching ≡ None
      → SwitchesTold (assembled switch_record) s new told answer
  pub going_on : (a : Appending ProgramSaid) → old.switching ≡ Some a
      → (body : Assembled) (s : ProgramSession) → IsGoing body s a
      → SwitchesTold body s new told answer

-- a split: the session split another one off, if it is answered DONE, or MEMORY where that one is
-- lost; else it is as it was
pub record TellsSplit (old new : SeenSession) (answer : ℕ) : Type 0 where
  pub done : (answer ≡ DONE) ⊎ (answer ≡ MEMORY)
      → HoldsAcross (λ s t. (other : ProgramSession) × SplitsOff s t other) old new
  pub same : answer ≢ DONE → answer ≢ MEMORY → new ≡ old
  pub gone : answer ≡ MISUSE → new.session ≡ None

-- what a session's call tells: the data handed in, the session before and behind it, the call as
-- it was handed in and as it came back, and the answer
pub record TellsSessionCall (main : List ℕ) (old new : SeenSession) (asked told : SessionCall)
    (answer : ℕ) : Type 0 where
  pub append : asked.asked ≡ APPEND
      → TellsAppend (assembled (record_asked (old.given).blocks asked main)) old new asked told
      answer × (new ≡ record old { session = new.session; given = nothing_given })
  pub flush : asked.asked ≡ FLUSH → TellsFlush old new asked told answer
  pub add_block : asked.asked ≡ ADD_BLOCK → TellsGiven old new answer (record {
    blocks = (old.given).blocks ++ block_asked (old.given).image asked main ∷ [];
    image = None;
  })
  pub add_image : asked.asked ≡ ADD_IMAGE → TellsGiven old new answer (record {
    blocks = (old.given).blocks;
    image = Some (image_asked asked main);
  })
  pub raise : asked.asked ≡ RAISE → TellsRaised old new answer
  pub write_behind : asked.asked ≡ WRITE_BEHIND → TellsBehind old new told answer
  pub switch : asked.asked ≡ SWITCH → TellsSwitch old new told answer
  pub split : asked.asked ≡ SPLIT → TellsSplit old new answer
  pub end : asked.asked ≡ END → (answer ≡ DONE) × (new ≡ record old { session = None })
  pub other : SWITCH < asked.asked → (answer ≡ MISUSE) × (new ≡ old)
