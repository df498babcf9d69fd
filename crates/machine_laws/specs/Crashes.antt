-- What a pass may count on, whenever the machine crashes, and what the down value tells.
use Rattle.std.specs.Prelude.{◌≡◌, ◌≢◌, ◌⊎◌, ◌↔◌, ℕ, ◌+◌, ◌*◌, ◌<◌, ◌≤◌, All, List, drop, slice_get, Some}
use mathlib.Core.Option.{Option, none, some}
use Rattle.segment_disk.specs.declared.disk.Call.{Call}
use Rattle.segment_disk.specs.declared.disk.CallKind.{CallKind}
use Rattle.segment_disk.specs.declared.disk.CallKind.TheVariants.{Create, Write, Sync}
use Rattle.segment_disk.specs.Cause.{Rose}
use Rattle.segment_disk.specs.DiskImage.{DiskImage, LeftAt, word_of}
use Rattle.segment_disk.specs.Tape.{Tape}
use Rattle.wal_page.specs.Order.{Entry}
use Rattle.segment_disk.specs.ImageWords.{HasPageAt, image_word, zero_word}
use Rattle.machine_state.specs.Words.{Opening}
use Rattle.machine_state.specs.Ringed.{log_bytes_of, log_word_of}
use Rattle.machine_state.specs.Views.{HasAt, Joined, Plain, FlushPromise, Receipts}
use Rattle.machine_state.specs.Durable.{IsUnwritten}

-- an image of the log that goes on at the opening's place with these entries: each word is 0 or the
-- log's; each below `upto` is the log's, in a page that is there where the log has one
pub record IsLawfulBehind (opening : Opening) (order : List Entry) (image : DiskImage) (upto : ℕ)
    : Type 0 where
  pub words : (k : ℕ) → (image_word opening.setup.seg_size image (8 * k) ≡ zero_word)
      ⊎ (image_word opening.setup.seg_size image (8 * k) ≡ log_bytes_of opening order (8 * k))
  pub below : (k : ℕ) → 8 * k < upto
      → image_word opening.setup.seg_size image (8 * k) ≡ log_bytes_of opening order (8 * k)
  pub there : (k : ℕ) → 8 * k < upto → opening.setup.seg_size ≤ 8 * k
      → HasPageAt opening.setup.seg_size image (8 * k)

-- each image that a crash leaves from a moment on is so
abbrev pub LeavesLawful : Opening → List Entry → ℕ → ℕ → Tape → Type 0
LeavesLawful opening order upto from tape =
    (moment : ℕ) (image : DiskImage) → from ≤ moment → LeftAt tape moment image
    → IsLawfulBehind opening order image upto

-- a call to a segment puts zeros where the log has them
abbrev pub PutsZeros : Opening → List Entry → ℕ → CallKind → Type 0
PutsZeros opening order segment (Create made) = Unit {0}
PutsZeros opening order segment (Write page bytes) = (n : ℕ) → n < 1024
    → log_word_of opening order (segment * opening.setup.seg_size + page * 8192 + 8 * n) ≡ 0
    → word_of bytes.bytes n ≡ zero_word
PutsZeros opening order segment Sync = Unit {0}

-- a promise made to a log: each crash from its moment on leaves all below the address that it
-- names, and no call before that moment put anything but zeros where a later entry has a word
pub record HoldsPromise (opening : Opening) (order : List Entry) (tape : Tape)
    (entries : List Entry) (p : FlushPromise) : Type 0 where
  pub kept : LeavesLawful opening order p.upto p.moment tape
  pub later : (k : ℕ) (e : Entry) → p.entries ≤ k → slice_get entries k ≡ Some e
      → IsUnwritten (opening.setup).seg_size opening.moment tape p.moment e

-- of a disk that tells what it holds: nothing but the log since the opening; all below the flushed
-- address from the moment on that the words tell; and what each promise says
pub record CrashesLeave (opening : Opening) (order : List Entry) (flushed moment : ℕ)
    (tape : Tape) (parts : List Receipts) : Type 0 where
  pub only : LeavesLawful opening order 0 opening.moment tape
  pub flushed_kept : LeavesLawful opening order flushed moment tape
  pub zeros : All (λ (c : Call). PutsZeros opening order c.segment c.kind)
      (drop opening.moment tape.calls)
  pub own : (id : ℕ) (x : Receipts) → HasAt parts id x
      → All (HoldsPromise opening order tape x.entries) (x.writing).promises
  pub joined : (id : ℕ) (x : Receipts) → HasAt parts id x
      → All (λ (j : Joined). All (HoldsPromise opening order tape j.entries) j.promises) x.joined

-- the down value is 0, or the count of faults that the writer met; with the writer at home it is 0
-- exactly where the writer met none; and what a pass met and set of it is 0 or it
pub record DownTells (opening : Opening) (down : ℕ) (home : Option Plain) (writer : Plain)
    (parts : List Receipts) : Type 0 where
  pub is_met : down ≢ 0 → (writer.fault ≡ some down) × Rose opening.faults down
  pub at_home : home ≡ some writer → (down ≡ 0) ↔ (writer.fault ≡ none)
  pub views : (id : ℕ) (x : Receipts) → HasAt parts id x
      → (((x.writing).down_met ≡ 0) ⊎ ((x.writing).down_met ≡ down))
      × (((x.writing).down_set ≡ 0) ⊎ ((x.writing).down_set ≡ down))
