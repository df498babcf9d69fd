-- The writer's disk as it is read. A page is written again and again while it fills, and each write
-- has all words of the one before, since the ring keeps them: what is read of a word is zeros or
-- the word in memory, a word that was loaded for a write is 0 or the one in memory, and in memory a
-- word only turns from 0 to the log's. So the calls only add (Growing), failed ones too: on that a
-- restart rests on the disk of a process that was killed, with no crash of the machine behind it.
use Rattle.std.specs.Prelude.{◌≡◌, ◌⊎◌, ℕ, ◌*◌, List}
use Rattle.std.specs.Int.{w64, to_le_bytes}
use Rattle.segment_disk.specs.DiskImage.{image_as_read}
use Rattle.segment_disk.specs.ImageWords.{image_word}
use Rattle.segment_disk.specs.Tape.{DiskState, Tape, state_now}
use Rattle.machine_state.specs.Words.{Opening}
use Rattle.machine_state.specs.Views.{HasAt, IsLoadedLast, Lent, Out, Plain, Writing}
use Rattle.machine_state.specs.Suited.{IfSuited}
use Rattle.machine_state.specs.Growing.{IsZeroOr, OnlyAddsSince}

-- the log's word with this number, as its disk is read: zeros where the page is not there
abbrev pub word_read : ℕ → DiskState → ℕ → List ℕ
word_read size state k = image_word size (image_as_read state) (8 * k)

-- zeros are read there, or this word
abbrev pub ReadsAtMost : (size k word : ℕ) → Tape → Type 0
ReadsAtMost size k word t =
    IsZeroOr (to_le_bytes w64 word) (word_read size (state_now t) k)

-- with the writer in hand: what was loaded last of a word of the ring
pub record IsLoadedRightly (first : DiskState) (opening : Opening) (memory : ℕ → ℕ) (writer : Plain)
    (k word : ℕ) : Type 0 where
  pub loaded : (word ≡ 0) ⊎ (word ≡ memory k)
  pub read : IfSuited first opening writer (ReadsAtMost opening.setup.seg_size k word)

pub record ReadingHolds (first : DiskState) (opening : Opening) (memory : ℕ → ℕ) (writer : Plain)
    (parts : List Writing) : Type 0 where
  pub adds : IfSuited first opening writer
      (OnlyAddsSince opening.setup.seg_size opening.moment)
  pub reads : IfSuited first opening writer
      (λ t. (k : ℕ) → ReadsAtMost opening.setup.seg_size k (memory k) t)
  pub staged : (id : ℕ) (x : Writing) (l : Lent) → HasAt parts id x → x.hold ≡ Out l
      → (k word : ℕ) → IsLoadedLast k word l.staged
      → IsLoadedRightly first opening memory writer k word
