-- What a source hands out, and the frames in it.
use Rattle.std.specs.Prelude.{◌≡◌, ℕ, zero, suc, ◌+◌, ◌/◌, ◌<◌, List, [], ◌∷◌, ◌++◌, length, take, drop, Option, IfSome}
use Rattle.segment_disk.specs.Cause.{RoseByOne}
use Rattle.segment_disk.specs.Stream.{LosesFront}

-- ---- the source

-- a source at a moment: the bytes that it has left, where it tells them, all that it has handed out
-- so far, how often it has answered that nothing is left, and its count of faults
pub record SourceState : Type 0 where
  pub left : Option (List ℕ)
  pub handed : List ℕ
  pub ends_told : ℕ
  pub faults : ℕ

abbrev pub source_state : {S : Type 0} → (S → Option (List ℕ)) → (S → List ℕ) → (S → ℕ)
    → (S → ℕ) → S → SourceState
source_state left handed ends_told faults source = record {
  left = left source;
  handed = handed source;
  ends_told = ends_told source;
  faults = faults source;
}

-- it handed out these bytes in between, off the front of what it had left
pub record Gives (before after : SourceState) (bytes : List ℕ) : Type 0 where
  pub handed : after.handed ≡ before.handed ++ bytes
  pub off : LosesFront before.left after.left bytes

-- it told no end in between, and did not fail
pub record IsQuietSource (before after : SourceState) : Type 0 where
  pub none_told : after.ends_told ≡ before.ends_told
  pub up : after.faults ≡ before.faults

-- it told once that nothing is left, and did not fail
pub record TellsEnd (before after : SourceState) : Type 0 where
  pub told : after.ends_told ≡ before.ends_told + 1
  pub none_left : IfSome after.left (λ rest. rest ≡ [])
  pub up : after.faults ≡ before.faults

-- it failed once, and told no end
pub record FailsOnce (before after : SourceState) : Type 0 where
  pub failed : RoseByOne before.faults after.faults
  pub none_told : after.ends_told ≡ before.ends_told

-- ---- frames

-- the first pieces of so many bytes, in turn
abbrev pub first_pieces : ℕ → ℕ → List ℕ → List (List ℕ)
first_pieces size zero bytes = []
first_pieces size (suc count) bytes = take size bytes ∷ first_pieces size count (drop size bytes)

-- the frames in bytes: their pieces of 8,224 bytes, in turn. A shorter rest is none
abbrev pub frames_in : List ℕ → List (List ℕ)
frames_in bytes = first_pieces 8224 (length bytes / 8224) bytes

-- the source gave a frame's front and no more
pub record GivesFront (before after : SourceState) : Type 0 where
  pub bytes : List ℕ
  pub gives : Gives before after bytes
  pub short : length bytes < 8224
