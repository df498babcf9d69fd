-- How a sending ends, by how its parts end.
use Rattle.std.proofs.Common.{◌≡◌, ℕ, inl, inr, max, List, ◌++◌, Option, Some, None, IfSome, Result, Ok, Err, ap, ◌∙◌}
use Rattle.segment_disk.specs.declared.disk.Call.{Call}
use Rattle.segment_disk.specs.Tape.{IsNotMade, Tape, state_now}
use Rattle.flush_core.specs.Calls.{with_calls}
use Rattle.flush_core.proofs.GrowingTapes.{with_calls-some}
use Rattle.wal_reader.specs.declared.standing.ReadErr.{ReadErr}
use Rattle.wal_reader.specs.declared.standing.ReadErr.TheVariants as reading
use Rattle.wal_stream.specs.declared.fault.SendErr.{SendErr}
use Rattle.wal_stream.specs.declared.fault.SendErr.TheVariants.{Read, Sink}
use Rattle.wal_stream.specs.Putting.{AreFramesBetween, PutsFrames, PutsFrontOfFrames}
use Rattle.wal_stream.specs.SentFrames.{frames_between, page_read}
use Rattle.wal_stream.specs.Sending.{AreFramesOf, EndsAt, IsListRead, IsSending, SendsFront}
use Rattle.wal_stream.specs.Synced.{HasSynced}
use Rattle.wal_stream.proofs.SyncLaws.{same_pages}

-- frames of the pages as they are read behind the syncs are those of the log that was read before
module _ (size from end : ℕ) (new : Option Tape) (m0 m1 : ℕ) where
  are_of : (old : Option Tape) (frames : List ℕ) → HasSynced size old new m0 m1 → IfSome old (EndsAt size end) → AreFramesBetween size (max from size) end new frames → IfSome old (AreFramesOf size from frames)
  are_of old frames synced ends are = by_tapes old new synced.calls.calls synced.calls.made.tape (same_pages size old new m0 m1 synced) ends are
    where
      by_tapes : (old new : Option Tape) (calls : List Call) → new ≡ with_calls old calls → IfSome old (λ t. IfSome new (λ u. page_read size (state_now u) ≡ page_read size (state_now t))) → IfSome old (EndsAt size end) → AreFramesBetween size (max from size) end new frames → IfSome old (AreFramesOf size from frames)
      by_tapes None new calls grown same ends are = tt
      by_tapes (Some t) None calls grown same ends are =
          let none : None ≡ Some (record t { calls = t.calls ++ calls }) = grown ∙ with_calls-some t calls in
          absurd (cc none)
      by_tapes (Some t) (Some u) calls grown same ends are = record {
        end = end;
        ends = ends;
        frames_are = are ∙ ap (λ (pages : ℕ → List ℕ). frames_between size pages (max from size) end) same;
      }

  module _ (tape : Option Tape) (old taken : Option (List ℕ)) (synced : HasSynced size tape new m0 m1) (ends : IfSome tape (EndsAt size end)) where
    front_of : PutsFrontOfFrames size (max from size) end new old taken → SendsFront size from tape old taken
    front_of puts = record { frames = puts.frames; are = are_of tape puts.frames synced ends puts.are; count = puts.count; put = puts.put }

    pub sends_by_frames : (result : Result ℕ SendErr) → PutsFrames size (max from size) end new old taken result → IsSending size from tape new m0 m1 old taken result
    sends_by_frames (Ok count) puts = (synced, record { frames = puts.frames; are = are_of tape puts.frames synced ends puts.are; long = puts.long; put = puts.put })
    sends_by_frames (Err (Read reading.Memory)) puts = absurd puts
    sends_by_frames (Err (Read (reading.Disk faults))) puts = inr (synced, front_of puts)
    sends_by_frames (Err (Read (reading.Stopped stop))) puts = absurd puts
    sends_by_frames (Err (Sink fault)) puts = (synced, front_of puts)

-- the log was not read
pub sends_nothing : (size from : ℕ) (tape new : Option Tape) (m0 m1 : ℕ) (old taken : Option (List ℕ)) (error : ReadErr) → IfSome tape (IsListRead size (Err error)) → IsNotMade tape new m0 m1 → taken ≡ old → IsSending size from tape new m0 m1 old taken (Err (Read error))
sends_nothing size from tape new m0 m1 old taken reading.Memory unread same none = (same, none)
sends_nothing size from tape new m0 m1 old taken (reading.Disk faults) unread same none = inl (inl same, none)
sends_nothing size from tape new m0 m1 old taken (reading.Stopped stop) unread same none = (unread, same, none)
