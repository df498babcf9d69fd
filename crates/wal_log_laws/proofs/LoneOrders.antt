-- What was reserved in a log whose closing pass took no other one in; and where its records start.
use Rattle.std.proofs.Common.{◌≡◌, ◌≢◌, ℕ, ◌≤◌, ◌+◌, cond, Bool, true, false, All, List, [], ◌∷◌, Option, Some, IsSome, inl, inr, refl, sym, ap, ◌∙◌, subst, arith}
use Rattle.std.specs.Prelude.{Contains}
use Rattle.std.proofs.lemmas.Bool.{cases_eq}
use Rattle.std.proofs.lemmas.List.Elements.{All-head, All-tail}
use Rattle.segment_disk.specs.Tape.{Tape}
use Rattle.byte_position.specs.Geometry.{IsSegmentSize}
use Rattle.byte_position.specs.Position.{address_of}
use Rattle.byte_position.proofs.Rising.{address_of-mono_lt}
use Rattle.wal_page.specs.Order.{Entry, FollowsFrom, position_behind}
use Rattle.wal_page.proofs.OrderLaws.{room_at-pos}
use Rattle.written_log_laws.specs.Written.{found_from}
use Rattle.machine_state.specs.Ordered.{entries_under, is_pass}
use Rattle.machine_state.specs.Views.{Joined}
use Rattle.machine_laws.proofs.OrderUnique.{named}
use Rattle.machine_laws.proofs.OrderedEntries.{is_pass_own}
use Rattle.wal_rule.specs.Passes.{view_of_pass}
use Rattle.wal_log_laws.specs.History.{order_of}
use Rattle.wal_log_laws.specs.Lives.{LonePassesMakeTheOrder, StartsRise}
use Rattle.wal_log_laws.proofs.Closes.{closed_logs}

-- ---- whose entries they are

abbrev IsNamed : Entry → Type 0
IsNamed e = IsSome e.pass

-- no pass has entries but one
abbrev NoOther : ℕ → List Entry → Type 0
NoOther number es = (n : ℕ) → n ≢ number → entries_under n es ≡ []

without_first : (b : Bool) (e : Entry) (es : List Entry) → cond b (e ∷ es) es ≡ [] → es ≡ []
without_first true e es is = absurd (cc)
without_first false e es is = is

-- an entry of a pass is among that pass's
own_first : (p : ℕ) (e : Entry) (es : List Entry) → e.pass ≡ Some p
    → entries_under p (e ∷ es) ≡ e ∷ entries_under p es
own_first p e es is =
    ap (λ (b : Bool). cond b (e ∷ entries_under p es) (entries_under p es))
    (ap (is_pass p) is ∙ is_pass_own p)

not_none : (e : Entry) (es rest : List Entry) → rest ≡ e ∷ es → rest ≡ [] → ⊥
not_none e es rest is none = cc

all_own : (number : ℕ) (es : List Entry) → All IsNamed es → NoOther number es
    → entries_under number es ≡ es
all_own number [] names none = refl
all_own number (e ∷ es) names none =
    let p = named e.pass (All-head IsNamed e es names) in
    let rest = all_own number es (All-tail IsNamed e es names)
    (λ n other. without_first (is_pass n e.pass) e (entries_under n es) (none n other)) in
    elim (cases_eq p.0 number) [
      | inl same ↦ own_first number e es (p.1 ∙ ap (λ (n : ℕ). Some n) same)
          ∙ ap (λ (l : List Entry). e ∷ l) rest
      | inr other ↦ absurd (not_none e (entries_under p.0 es) (entries_under p.0 (e ∷ es))
          (own_first p.0 e es p.1) (none p.0 other))
    ]

nobody : (number : ℕ) (joined : List Joined) → joined ≡ []
    → (j : Joined) × Contains joined j × (j.number ≡ number) → ⊥
nobody number joined none took =
    let has = subst (λ (l : List Joined). Contains l took.0) none took.1 in
    omega (arith, has.1)

module _ {D : Type 0} (tape : D → Option Tape) (moment faults : D → ℕ) where
  pub lone_passes_make_the_order : LonePassesMakeTheOrder tape moment faults
  lone_passes_make_the_order wal pass closed c none =
      let order = order_of tape moment faults wal pass closed c in
      let v = view_of_pass pass in
      let logs = closed_logs tape moment faults wal pass closed c in
      sym (logs.own ∙ all_own (v.reserving).number order ((c.closes).sound).reserved.owned
      (λ n other. logs.no_other n other (nobody n (v.reserving).joined none)))

-- ---- where the records start

pub starts_rise : (size prev position low : ℕ) (es : List Entry) → IsSegmentSize size
    → FollowsFrom size position es → low ≤ address_of size position
    → StartsRise low (found_from size prev es)
starts_rise size prev position low [] valid follows within = tt
starts_rise size prev position low (e ∷ es) valid follows within =
    let at : address_of size e.start ≡ address_of size position = ap (address_of size) follows.0 in
    let rises = address_of-mono_lt size valid e.start (position_behind size e)
    (omega (arith, room_at-pos size e)) in (
      omega (arith, at, within),
      starts_rise size (address_of size e.start) (position_behind size e)
          (address_of size e.start + 1) es valid follows.2 (omega (arith, rises)),
    )
