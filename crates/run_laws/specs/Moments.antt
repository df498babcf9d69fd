-- The moments that receipts name, as they follow each other. That what they promise survives each
-- crash from then on, and that none is late, is said in specs/Crash.antt.
use Rattle.std.specs.Prelude.{◌≡◌, ℕ, ◌<◌, ◌≤◌, Bool, true, false, List, [], ◌∷◌}
use Rattle.run_script.specs.Asked.{Asked, AskedLine, Insert, Commit, Flush, CommitAsync, WriteBehind, Switch}
use Rattle.run_laws.specs.declared.told.Told.{Told}
use Rattle.run_laws.specs.declared.told.Told.TheVariants.{Wrote, Hard, Flushed, Async, Idle, Switched, Stayed, Refused}

-- the moment told last (the opening's at first), and whether the backend has written nothing since
pub record LastTold : Type 0 where
  pub moment : ℕ
  pub is_latest : Bool

-- a flush of a backend with nothing to write tells the last moment again or a later one (another
-- backend's flush may have come between), any other a later one. A flush behind may tell the last
-- one again in any case, since it may end before the backend's own last record; what is told next
-- behind it counts as if nothing were to write
abbrev pub FlushMoment : Bool → ℕ → ℕ → Type 0
FlushMoment true before moment = before ≤ moment
FlushMoment false before moment = before < moment

abbrev pub may_repeat : Asked → Bool → Bool
may_repeat (Insert value) is_latest = is_latest
may_repeat (Commit value) is_latest = is_latest
may_repeat Flush is_latest = is_latest
may_repeat (CommitAsync value) is_latest = is_latest
may_repeat WriteBehind is_latest = true
may_repeat Switch is_latest = is_latest

-- one line's answer, between what was told last before it and after it
abbrev pub MomentStep : LastTold → Asked → Told → LastTold → Type 0
MomentStep before asked (Wrote start end) after =
    after ≡ record { moment = before.moment; is_latest = false }
MomentStep before asked (Hard start end moment) after =
    (before.moment < moment) × (after ≡ record { moment = moment; is_latest = true })
MomentStep before asked (Flushed upto moment) after =
    FlushMoment (may_repeat asked before.is_latest) before.moment moment
    × (after ≡ record { moment = moment; is_latest = true })
MomentStep before asked (Async start end) after =
    after ≡ record { moment = before.moment; is_latest = false }
MomentStep before asked (Idle upto) after = after ≡ before
MomentStep before asked (Switched start end) after =
    after ≡ record { moment = before.moment; is_latest = false }
MomentStep before asked (Stayed end) after = after ≡ before
MomentStep before asked (Refused cause reserved) after = after ≡ before

-- the answers of lines, in order
abbrev pub MomentsReach : LastTold → List AskedLine → List Told → LastTold → Type 0
MomentsReach before [] [] after = after ≡ before
MomentsReach before [] (told ∷ others) after = ⊥
MomentsReach before (line ∷ lines) [] after = ⊥
MomentsReach before (line ∷ lines) (told ∷ others) after =
    (mid : LastTold) × MomentStep before line.asked told mid × MomentsReach mid lines others after

-- the moments told never fall from the opening's on, and none is above the disk's last
abbrev pub MomentsRise : ℕ → List AskedLine → List Told → ℕ → Type 0
MomentsRise opening lines told last =
    (after : LastTold)
    × MomentsReach (record { moment = opening; is_latest = true }) lines told after
    × (after.moment ≤ last)

-- each backend's do
abbrev pub EachRises : ℕ → List (List AskedLine) → List (List Told) → ℕ → Type 0
EachRises opening [] [] last = Unit {0}
EachRises opening [] (told ∷ others) last = ⊥
EachRises opening (lines ∷ script) [] last = ⊥
EachRises opening (lines ∷ script) (told ∷ others) last =
    MomentsRise opening lines told last × EachRises opening script others last
