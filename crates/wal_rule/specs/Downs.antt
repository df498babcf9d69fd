-- What a view knows of a disk that has failed.
use Rattle.std.specs.Prelude.{◌≡◌, ◌≢◌, ◌⊎◌, ℕ}
use Rattle.machine_state.specs.Views.{View}

-- the count of faults that a view met or set as the down value, which is not 0
abbrev pub KnowsDown : ℕ → View → Type 0
KnowsDown faults v = (faults ≢ 0) × ((v.writing.down_met ≡ faults) ⊎ (v.writing.down_set ≡ faults))
