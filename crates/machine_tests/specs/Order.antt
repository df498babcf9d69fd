-- The position and the last start, as the records that were reserved make them.
use Rattle.std.specs.Prelude.{◌≡◌, ◌⊎◌, ℕ, ◌+◌, ◌≤◌, Bool, true, false, All, Any, List, [], ◌∷◌}
use Rattle.std.specs.List.{count_by}
use Rattle.machine_state.specs.Words.{position_word, prev_word}
use Rattle.machine_turns.specs.declared.view.PlainPlace.{PlainPlace}
use Rattle.machine_turns.specs.declared.view.PlainPlace.TheVariants.{Free, Locked, Loaded, Stored}
use Rattle.machine_tests.specs.declared.moment.BackendNow.{BackendNow}
use Rattle.machine_tests.specs.declared.moment.ReservedSpan.{ReservedSpan}

-- each record starts where the one before ends and names the address at which that one starts; the
-- first starts at a position, and names this address
abbrev pub FollowOn : (position last : ℕ) → List ReservedSpan → Type 0
FollowOn position last [] = Unit {0}
FollowOn position last (r ∷ rs) =
    (r.start ≡ position) × (r.prev ≡ last) × FollowOn r.end r.address rs

-- where the last record ends, and the address at which it starts
abbrev pub end_of_records : ℕ → List ReservedSpan → ℕ
end_of_records position [] = position
end_of_records position (r ∷ rs) = end_of_records r.end rs

abbrev pub start_of_records : ℕ → List ReservedSpan → ℕ
start_of_records last [] = last
start_of_records last (r ∷ rs) = start_of_records r.address rs

-- whether a backend has the position locked; and whether it has stored where its record starts
abbrev pub has_position : PlainPlace → Bool
has_position Free = false
has_position (Locked at) = true
has_position (Loaded at prev) = true
has_position (Stored at prev) = true

abbrev pub has_stored : PlainPlace → Bool
has_stored Free = false
has_stored (Locked at) = false
has_stored (Loaded at prev) = false
has_stored (Stored at prev) = true

-- how many backends have the position locked
abbrev pub locked_by : List BackendNow → ℕ
locked_by backends = count_by (λ b. has_position b.view.place) backends

-- the position is where the last record ends, and one more where it is locked, which one backend
-- has done at most
abbrev pub IsPosition : (position end : ℕ) → List BackendNow → Type 0
IsPosition position end backends =
    (locked_by backends ≤ 1) × (position ≡ end + locked_by backends)

-- what a backend that has the position locked met of it
abbrev pub Met : (end last : ℕ) → PlainPlace → Type 0
Met end last Free = Unit {0}
Met end last (Locked at) = at ≡ end
Met end last (Loaded at prev) = (at ≡ end) × (prev ≡ last)
Met end last (Stored at prev) = (at ≡ end) × (prev ≡ last)

-- The position stands behind the records that were reserved. The last start is that of the last
-- record, unless a backend has stored the one of its own, which is not reserved yet
pub record OrderAgrees (beginning : ℕ) (words : List ℕ) (order : List ReservedSpan)
    (backends : List BackendNow) : Type 0 where
  pub follow : FollowOn beginning 0 order
  pub position : IsPosition (position_word words) (end_of_records beginning order) backends
  pub met : All (λ b. Met (end_of_records beginning order) (start_of_records 0 order) b.view.place)
      backends
  pub last : Any (λ b. has_stored b.view.place ≡ true) backends
      ⊎ (prev_word words ≡ start_of_records 0 order)
