-- Every address and every byte position that a pass learns is a multiple of 8, as the words of the
-- log are: records and page headers begin and end at words, a lock tells of a copy by its next
-- word, and a page is written up to such an address. So a write that raises the written address
-- raises it by a word at least. That reserved positions are multiples of 8 follows from where the
-- log begins and from the rooms of records, and is not said again.
use Rattle.std.specs.Prelude.{◌≡◌, ◌⊎◌, ℕ, ◌%◌, ◌<◌, List}
use Rattle.machine_state.specs.Views.{HasAt, Plain, Hold, Idle, Turned, Out, View}

-- the address below which all is copied, with the writer in hand
abbrev pub IsKnownAligned : Hold → Type 0
IsKnownAligned Idle = Unit {0}
IsKnownAligned Turned = Unit {0}
IsKnownAligned (Out l) = l.known % 8 ≡ 0

-- what a pass has seen reserved, what it watches for and has found, and what it loaded
pub record LearnsAligned (v : View) : Type 0 where
  pub seen : (v.reserving).seen % 8 ≡ 0
  pub end : (v.watching).end % 8 ≡ 0
  pub bound : (v.watching).bound % 8 ≡ 0
  pub written : (v.writing).written % 8 ≡ 0
  pub flushed : (v.writing).flushed % 8 ≡ 0
  pub known : IsKnownAligned (v.writing).hold

-- an insertion lock's word is 0, or one more than a multiple of 8
abbrev pub TellsAligned : ℕ → Type 0
TellsAligned word = (word ≡ 0) ⊎ (word % 8 ≡ 1)

-- `lock` is the locks' words, `written` and `flushed` are the words of these names, and `writer` is
-- the writer wherever it is
pub record AlignmentHolds (lock : ℕ → ℕ) (written flushed : ℕ) (writer : Plain) (parts : List View)
    : Type 0 where
  pub locks : (i : ℕ) → i < 8 → TellsAligned (lock i)
  pub written_word : written % 8 ≡ 0
  pub flushed_word : flushed % 8 ≡ 0
  pub writer_at : writer.written % 8 ≡ 0
  pub views : (id : ℕ) (v : View) → HasAt parts id v → LearnsAligned v
