-- The latest moment that passes which were taken in were promised.
use Rattle.std.specs.Prelude.{ℕ, ◌≤◌, All}
use Rattle.machine_state.specs.Words.{Opening}
use Rattle.machine_state.specs.Views.{FlushPromise, Joined, View}

-- neither the opening's moment nor any that a pass which this view took in was promised is later
pub record NoneIsLater (opening : Opening) (last : ℕ) (v : View) : Type 0 where
  pub begun : opening.moment ≤ last
  pub promised : All (λ (j : Joined). All (λ (p : FlushPromise). p.moment ≤ last) j.promises)
      (v.reserving).joined
