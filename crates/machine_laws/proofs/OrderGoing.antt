-- Live views that go on: where a step changes one view or adds one, each that was live is so still,
-- by its number, with the passes that it took in.
use Rattle.std.proofs.Common.{◌≡◌, ◌≢◌, ℕ, true, Contains, List, [], ◌∷◌, ◌++◌, set, refl, sym, ◌∙◌, subst}
use mathlib.Core.Logic.{dite}
use native.Mathlib.Decide.{ℕ_discrete}
use Rattle.machine_state.specs.Views.{HasAt, Free, Joined, Reserving}
use Rattle.machine_state.specs.Ordered.{HasLive, TookIn}
use Rattle.machine_state.proofs.Lists.{at_same, at_place, at_else, at_front}

-- a view that was live is so, by its number, with all that it took in
pub record GoesOn (u x : Reserving) : Type 0 where
  pub live : u.live ≡ true → x.live ≡ true
  pub number : x.number ≡ u.number
  pub took : (j : Joined) → Contains u.joined j → Contains x.joined j

-- and has a place, if it had one
pub record StaysPlaced (u x : Reserving) : Type 0 where
  pub goes_on : GoesOn u x
  pub placed : u.place ≢ Free → x.place ≢ Free

pub goes_as : (u : Reserving) → GoesOn u u
goes_as u = record { live = λ alive. alive; number = refl; took = λ j has. has }

pub placed_as : (u : Reserving) → StaysPlaced u u
placed_as u = record { goes_on = goes_as u; placed = λ some. some }

pub number_still : (n : ℕ) (u x : Reserving) → GoesOn u x → u.number ≡ n → x.number ≡ n
number_still n u x goes is = goes.number ∙ is

-- each view of a list goes on in another list
abbrev pub Each : (Reserving → Reserving → Type 0) → List Reserving → List Reserving → Type 0
Each P parts parts' = (j : ℕ) (u : Reserving) → HasAt parts j u
    → (x : Reserving) × HasAt parts' j x × P u x

pub each_set : (P : Reserving → Reserving → Type 0) → ((u : Reserving) → P u u)
    → (parts : List Reserving) (id : ℕ) (r w : Reserving) → HasAt parts id r → P r w
    → Each P parts (set parts id w)
each_set P same parts id r w here goes j u at = dite (ℕ_discrete j id)
    (λ e. let was : HasAt parts id u = subst (λ (i : ℕ). HasAt parts i u) e at in
    let one : r ≡ u = at_same parts r u id here was in (
      w,
      subst (λ (i : ℕ). HasAt (set parts id w) i w) (sym e) (at_place parts id r w here),
      subst (λ (y : Reserving). P y w) one goes,
    ))
    (λ apart. (u, at_else parts id j w u apart at, same u))

pub each_added : (P : Reserving → Reserving → Type 0) (parts parts' : List Reserving)
    (w : Reserving) → Each P parts parts' → Each P parts (parts' ++ w ∷ [])
each_added P parts parts' w each j u at =
    let x = each j u at in (x.0, at_front parts' j w x.0 x.1, x.2)

pub each_goes_on : (parts parts' : List Reserving) → Each StaysPlaced parts parts'
    → Each GoesOn parts parts'
each_goes_on parts parts' each j u at = let x = each j u at in (x.0, x.1, (x.2).goes_on)

module _ (parts parts' : List Reserving) (each : Each GoesOn parts parts') (n j : ℕ) where
  pub goes_by_still : HasLive parts j (λ r. r.number ≡ n) → HasLive parts' j (λ r. r.number ≡ n)
  goes_by_still h =
      let x = each j h.0 h.1 in (x.0, x.1, (x.2).live h.2, number_still n h.0 x.0 x.2 h.3)

  pub took_in_still : HasLive parts j (TookIn n) → HasLive parts' j (TookIn n)
  took_in_still h =
      let x = each j h.0 h.1 in
      let i = h.3 in
      (x.0, x.1, (x.2).live h.2, (i.0, (x.2).took i.0 i.1, i.2))

pub held_still : (parts parts' : List Reserving) → Each StaysPlaced parts parts' → (j : ℕ)
    → HasLive parts j (λ r. r.place ≢ Free) → HasLive parts' j (λ r. r.place ≢ Free)
held_still parts parts' each j h =
    let x = each j h.0 h.1 in (x.0, x.1, ((x.2).goes_on).live h.2, (x.2).placed h.3)
