-- What the frames left is hardened, or not.
use Rattle.std.proofs.Common.{ℕ, inl, inr, Option, sym, subst}
use Rattle.segment_disk.specs.Tape.{Tape}
use Rattle.wal_stream.specs.declared.standby.Standby.{Standby}
use Rattle.wal_stream.specs.Fetched.{SourceState}
use Rattle.wal_stream.specs.Receiving.{EndsHardened, EndsSo, IsHardened, TakesFrames}
use Rattle.wal_stream.specs.Steps.{HardensBehind}
use Rattle.wal_stream.specs.declared.outcome.FrameCounts.{FrameCounts}
use Rattle.wal_stream.specs.declared.outcome.ReceivingEnd.{ReceivingEnd}
use Rattle.wal_stream.specs.declared.outcome.ReceivingEnd.TheVariants.{Source, TooMany, Diverged, SourceFault, Disk}

module _ {D : Type 0} (tape : D → Option Tape) (moment faults : D → ℕ) (before after : SourceState) (old last new : Standby D) (counts : FrameCounts) where
  ends_hardened : (why : ReceivingEnd) → IsHardened why → EndsHardened tape moment faults before after old new counts why → EndsSo tape moment faults before after old new counts why
  ends_hardened Source due ends = ends
  ends_hardened TooMany due ends = ends
  ends_hardened (Diverged at) due ends = ends
  ends_hardened SourceFault due ends = absurd due
  ends_hardened (Disk told) due ends = absurd due

  ends_at_fault : (why : ReceivingEnd) → (IsHardened why → ⊥) → TakesFrames tape moment faults before after old new counts why → EndsSo tape moment faults before after old new counts why
  ends_at_fault Source undue ends = absurd (undue tt)
  ends_at_fault TooMany undue ends = absurd (undue tt)
  ends_at_fault (Diverged at) undue ends = absurd (undue tt)
  ends_at_fault SourceFault undue ends = ends
  ends_at_fault (Disk told) undue ends = inl ends

  pub ends_so : (why told : ReceivingEnd) → TakesFrames tape moment faults before after old last counts why → HardensBehind tape moment faults last new why told → EndsSo tape moment faults before after old new counts told
  ends_so why told takes (inl done) =
      subst (EndsSo tape moment faults before after old new counts) (sym done.1)
      (ends_hardened why done.0 (record { last = last; takes = takes; hardens = done.2 }))
  ends_so why told takes (inr (inl failed)) =
      subst (EndsSo tape moment faults before after old new counts) (sym failed.1.1)
      (inr (record { ended = why; is_hardened = failed.0; last = last; takes = takes; fails = failed.1.2 }))
  ends_so why told takes (inr (inr undue)) =
      subst (EndsSo tape moment faults before after old new counts) (sym undue.1)
      (ends_at_fault why undue.0 (subst (λ (s : Standby D). TakesFrames tape moment faults before after old s counts why) (sym undue.2) takes))
