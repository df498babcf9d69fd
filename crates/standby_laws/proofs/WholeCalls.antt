-- A standby's calls write whole pages.
use Rattle.std.proofs.Common.{◌≡◌, ℕ, ◌/◌, ◌%◌, Bool, true, false, List, [], ◌∷◌, ◌++◌, length, inl, inr, Option, Result, Ok, Err, ◌==◌, refl, sym, ap, subst, ◌∙◌}
use Rattle.std.specs.Prelude.{nat_lt}
use Rattle.std.specs.List.{AllByRecursion}
use Rattle.byte_position.specs.Geometry.{pages_of}
use Rattle.segment_disk.specs.declared.disk.Call.{Call}
use Rattle.segment_disk.specs.declared.disk.CallKind.{CallKind}
use Rattle.segment_disk.specs.declared.disk.CallKind.TheVariants.{Create, Write, Sync}
use Rattle.segment_disk.specs.Tape.{Tape, failed_call}
use Rattle.flush_core.specs.Calls.{BreaksOff, harden_calls, put_calls, store_calls, with_calls}
use Rattle.flush_core.specs.Writer.{TellsFault, calls_to_harden, calls_to_put, disk_of}
use Rattle.flush_core.specs.declared.writer.Writer.{Writer}
use Rattle.flush_core.proofs.GrowingTapes.{with_calls-append}
use Rattle.wal_stream.specs.Following.{Harden, IsSentStep, NotHardened, Offer, SentStep}
use Rattle.wal_stream.specs.Standby.{AnswersFrame, standby_disk}
use Rattle.wal_stream.specs.declared.answers.Accepted.{Accepted}
use Rattle.wal_stream.specs.declared.answers.Accepted.TheVariants.{Old, Taken}
use Rattle.wal_stream.specs.declared.answers.StandbyErr.{StandbyErr}
use Rattle.wal_stream.specs.declared.answers.StandbyErr.TheVariants.{Bad, Gap, Diverged, Disk}
use Rattle.wal_stream.specs.declared.standby.Standby.{Standby}
use Rattle.wal_page.specs.Order.{Entry}
use Rattle.reopened_log_laws.proofs.SettlingCalls.{each_both}
use Rattle.standby_laws.proofs.Moments.{IsWhole}

abbrev AreWhole : ℕ → List Call → Type 0
AreWhole size calls = AllByRecursion (IsWhole size) calls

-- ---- lists

front_whole : (size : ℕ) (front : List Call) (next : Call) (others : List Call)
    → AreWhole size (front ++ next ∷ others) → AreWhole size front × IsWhole size next
front_whole size [] next others whole = (tt, whole.0)
front_whole size (call ∷ front) next others whole =
    let rest = front_whole size front next others whole.1 in
    ((whole.0, rest.0), rest.1)

failed_whole : (size geometry segment : ℕ) (done made : Bool) (kind : CallKind)
    → IsWhole size (record { geometry = geometry; segment = segment; kind = kind; done = done })
    → IsWhole size (failed_call made
    (record { geometry = geometry; segment = segment; kind = kind; done = done }))
failed_whole size geometry segment done made (Create any) is = is
failed_whole size geometry segment done made (Write page bytes) is = is
failed_whole size geometry segment done made Sync is = tt

stored_whole : (size segment page : ℕ) (is_new is_full : Bool) (bytes : List ℕ)
    → length bytes ≡ 8192 → AreWhole size (store_calls size segment page is_new is_full bytes)
stored_whole size segment page true true bytes long = (refl, (long, (tt, tt)))
stored_whole size segment page true false bytes long = (refl, (long, tt))
stored_whole size segment page false true bytes long = (long, (tt, tt))
stored_whole size segment page false false bytes long = (long, tt)

hardened_whole : (size written : ℕ) (unsynced : Bool)
    → AreWhole size (harden_calls size written unsynced)
hardened_whole size written true = (tt, tt)
hardened_whole size written false = tt

-- ---- a tape with more such calls

pub record GrowsWhole (size : ℕ) (old new : Option Tape) : Type 0 where
  pub more : List Call
  pub grown : new ≡ with_calls old more
  pub whole : AllByRecursion (IsWhole size) more

broken_whole : (size : ℕ) (old new : Option Tape) (old_moment new_moment : ℕ) (calls : List Call)
    → AreWhole size calls → BreaksOff old new old_moment new_moment calls
    → GrowsWhole size old new
broken_whole size old new old_moment new_moment calls whole broken =
    let next = broken.next in
    let parts = front_whole size broken.front next broken.others
    (subst (λ (cs : List Call). AreWhole size cs) broken.are whole) in
    elim broken.fails [
      | inl failed ↦
          (let last = failed_call failed.0 next in
          record {
            more = broken.front ++ last ∷ [];
            grown = failed.1.tape ∙ sym (with_calls-append old broken.front (last ∷ []));
            whole = each_both (IsWhole size) broken.front (last ∷ []) parts.0 (
              failed_whole size next.geometry next.segment next.done failed.0 next.kind parts.1,
              tt,
            );
          })
      | inr none ↦ record { more = broken.front; grown = none.same_tape; whole = parts.0 }
    ]

module _ {D : Type 0} (tape : D → Option Tape) (moment faults : D → ℕ) (size sysid : ℕ)
    (es : List Entry) (hardened : ℕ) (old new : Standby D) (size_is : old.geometry ≡ size) where
  abbrev Grows : Type 0
  Grows = GrowsWhole size (tape (standby_disk old)) (tape (standby_disk new))

  writer_size : (old.writer).geometry ≡ size
  writer_size = old.sized ∙ size_is

  same_writer : new.writer ≡ old.writer → Grows
  same_writer same = record {
    more = [];
    grown = ap (λ (w : Writer D). tape (disk_of w)) same;
    whole = tt;
  }

  same_standby : new ≡ old → Grows
  same_standby same = same_writer (ap (λ (s : Standby D). s.writer) same)

  tells_whole : (told : ℕ) (calls : List Call) → AreWhole size calls
      → TellsFault tape moment faults old.writer new.writer told calls → Grows
  tells_whole told calls whole (inl now) =
      broken_whole size (tape (standby_disk old)) (tape (standby_disk new))
      (moment (standby_disk old)) (moment (standby_disk new)) calls whole now.made
  tells_whole told calls whole (inr again) = same_writer again.same

  put_whole : (page upto : ℕ) (bytes : List ℕ) → length bytes ≡ 8192
      → AreWhole size (calls_to_put old.writer page upto bytes)
  put_whole page upto bytes long =
      subst (λ (n : ℕ). AreWhole size (put_calls n (old.writer).made page upto bytes))
      (sym writer_size)
      (stored_whole size (page / pages_of size) (page % pages_of size)
      (nat_lt (old.writer).made (page / pages_of size)) (upto % size == 0) bytes long)

  synced_whole : AreWhole size (calls_to_harden old.writer)
  synced_whole = subst (λ (n : ℕ). AreWhole size
      (harden_calls n ((old.writer).written).0 (old.writer).unsynced)) (sym writer_size)
      (hardened_whole size ((old.writer).written).0 (old.writer).unsynced)

  answered_whole : (bytes : List ℕ) (answer : Result Accepted StandbyErr)
      → AnswersFrame tape moment faults old new bytes answer → Grows
  answered_whole bytes (Ok (Old upto)) is = same_standby is.same
  answered_whole bytes (Ok (Taken upto)) is =
      let sent = is.sent in
      record {
        more = calls_to_put old.writer sent.page sent.upto sent.bytes;
        grown = is.put.calls.made.tape;
        whole = put_whole sent.page sent.upto sent.bytes is.extends.brings.frame.is_sent.long;
      }
  answered_whole bytes (Err Bad) is = same_standby is.same
  answered_whole bytes (Err (Gap at)) is = same_standby is.same
  answered_whole bytes (Err (Diverged at)) is = same_standby is.same
  answered_whole bytes (Err (Disk told)) (inl failed) =
      let sent = failed.sent in
      tells_whole told (calls_to_put old.writer sent.page sent.upto sent.bytes)
      (put_whole sent.page sent.upto sent.bytes failed.extends.brings.frame.is_sent.long)
      failed.failed.why
  answered_whole bytes (Err (Disk told)) (inr again) = same_standby again.same

  pub step_whole : (step : SentStep)
      → IsSentStep tape moment faults sysid es hardened old new step → Grows
  step_whole (Offer bytes answer) is = answered_whole bytes answer is.1
  step_whole (Harden upto) is = record {
    more = calls_to_harden old.writer;
    grown = is.hardened.calls.made.tape;
    whole = synced_whole;
  }
  step_whole (NotHardened told) is =
      tells_whole told (calls_to_harden old.writer) synced_whole is.why
