-- A disk whose calls a host makes: what it held at first, what was queued, and what the host has
-- taken of it.
use Rattle.std.specs.Prelude.{◌≡◌, ℕ, Bool, List, [], length, Option, Some, None, IfSome, option_map, refl}
use Rattle.rtrb.specs.Ring.{IsPair, SameConsumer, known_items, received, sent}
use Rattle.segment_disk.specs.declared.disk.Call.{Call}
use Rattle.segment_disk.specs.Tape.{Tape}
use Rattle.hosted_disk.specs.declared.calls.HostCalls.{HostCalls}
use Rattle.hosted_disk.specs.declared.disk.HostedDisk.{HostedDisk}
use Rattle.hosted_disk.specs.HostSegments.{HostSegment, host_state}

-- each call that was queued, in order
abbrev pub calls_queued : HostedDisk → List Call
calls_queued disk = sent disk.queue

-- these segments at first, where they are told, and these calls since
abbrev pub tape_since : Option (List HostSegment) → List Call → Option Tape
tape_since first calls =
    option_map (λ segments. record { at_first = host_state segments; calls = calls }) first

pub counts_calls : (first : Option (List HostSegment)) (calls : List Call)
    → IfSome (tape_since first calls) (λ t. length calls ≡ length t.calls)
counts_calls None calls = tt
counts_calls (Some segments) calls = refl

-- the disk's tape: what the host's disk held at first, as long as that has the pages as they were
-- handed in, and each call as it was asked for
abbrev pub hosted_tape : HostedDisk → Option Tape
hosted_tape disk = tape_since ((disk.first).held).segments (calls_queued disk)

-- how many calls were queued
abbrev pub hosted_moment : HostedDisk → ℕ
hosted_moment disk = length (calls_queued disk)

-- how often the disk has failed
abbrev pub hosted_faults : HostedDisk → ℕ
hosted_faults disk = disk.faults

-- nothing was queued yet, and no call has failed
pub record HasNoCalls (disk : HostedDisk) : Type 0 where
  pub calls : calls_queued disk ≡ []
  pub faults : hosted_faults disk ≡ 0

module _ {H : Type 0} where
  -- each call that the host has taken, in order
  abbrev pub calls_taken : HostCalls H → List Call
  calls_taken calls = received calls.queue

  -- the calls that it has seen in the queue: the next ones that it takes
  abbrev pub calls_seen : HostCalls H → List Call
  calls_seen calls = known_items calls.queue

  -- the host has said that a call failed
  abbrev pub has_failed : HostCalls H → Bool
  has_failed calls = calls.failed

  -- the host's end of this disk's queue
  abbrev pub HasBothEnds : HostedDisk → HostCalls H → Type 0
  HasBothEnds disk calls = IsPair disk.queue calls.queue

  -- it is the end of the same queue, and the host has said nothing in between
  pub record GoesOnTaking (old new : HostCalls H) : Type 0 where
    pub queue : SameConsumer old.queue new.queue
    pub acknowledged : new.acknowledged ≡ old.acknowledged
    pub failed : has_failed new ≡ has_failed old
