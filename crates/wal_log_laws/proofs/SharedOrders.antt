-- What was reserved in a log that several passes shared.
use Rattle.std.proofs.Common.{◌≡◌, ◌≢◌, ℕ, All, Contains, List, [], ◌∷◌, ◌++◌, map, Option, inl, inr, refl, sym, ap, subst, arith}
use Rattle.std.proofs.lemmas.List.{map-append}
use Rattle.std.proofs.lemmas.List.Elements.{All-cons, All-contains, All-contains_itself, All-head, All-map, All-tail, All-weaker, Contains-append_cases, Contains-append_left, Contains-append_right, Contains-push, Contains-push_cases}
use Rattle.segment_disk.specs.Tape.{Tape}
use Rattle.machine_state.specs.Moves.{after_join, joined_of}
use Rattle.machine_state.specs.PassLogs.{log_of_joined}
use Rattle.machine_state.specs.Views.{Joined, View}
use Rattle.wal_rule.specs.Passes.{view_of_pass}
use Rattle.wal_log_laws.specs.Growing.{HasLog, NumberedLog, logs_of_pass, numbered_joined, numbered_log}
use Rattle.wal_log_laws.specs.History.{order_of}
use Rattle.wal_log_laws.specs.Lives.{PassesMakeTheOrder, entries_under}
use Rattle.wal_log_laws.proofs.Closes.{closed_logs}

pub contains_map : {X Y : Type 0} → (f : X → Y) (xs : List X) (x : X) → Contains xs x
    → Contains (map f xs) (f x)
contains_map f [] x has = absurd (omega (arith, has.1))
contains_map {X} {Y} f (one ∷ xs) x has = elim (Contains-append_cases (one ∷ []) xs x has) [
  | inl here ↦ elim (Contains-push_cases [] one x here) [
    | inl none ↦ absurd (omega (arith, none.1))
    | inr is ↦ subst (λ (y : X). Contains (map f (one ∷ xs)) (f y)) is
        (Contains-append_left (f one ∷ []) (map f xs) (f one) (Contains-push [] (f one)))
  ]
  | inr there ↦ Contains-append_right (f one ∷ []) (map f xs) (f x) (contains_map f xs x there)
]

-- a number that none of the logs has is none that was taken in
not_taken : (number : ℕ) (joined : List Joined)
    → All (λ (l : NumberedLog). number ≢ l.number) (map numbered_joined joined)
    → (j : Joined) × Contains joined j × (j.number ≡ number) → ⊥
not_taken number joined none took =
    All-contains (λ (l : NumberedLog). number ≢ l.number) (map numbered_joined joined)
    (numbered_joined took.0) none (contains_map numbered_joined joined took.0 took.1) (sym took.2)

module _ {D : Type 0} (tape : D → Option Tape) (moment faults : D → ℕ) where
  pub passes_make_the_order : PassesMakeTheOrder tape moment faults
  passes_make_the_order wal pass closed c =
      let order = order_of tape moment faults wal pass closed c in
      let r = (view_of_pass pass).reserving in
      let logs = closed_logs tape moment faults wal pass closed c in
      let first = numbered_log (view_of_pass pass) in
      let others = map numbered_joined r.joined in
      record {
        named = ((c.closes).sound).reserved.owned;
        own = All-cons (λ (l : NumberedLog). l.log.entries ≡ entries_under l.number order) first
            others logs.own
            (All-map (λ (l : NumberedLog). l.log.entries ≡ entries_under l.number order)
            numbered_joined r.joined logs.joined);
        no_other = λ number none. logs.no_other number
            (All-head (λ (l : NumberedLog). number ≢ l.number) first others none)
            (not_taken number r.joined
            (All-tail (λ (l : NumberedLog). number ≢ l.number) first others none));
      }

pub has_logs : (v : View) → All (λ (l : NumberedLog). HasLog l.log v) (logs_of_pass v)
has_logs v =
    let joined = (v.reserving).joined in
    All-cons (λ (l : NumberedLog). HasLog l.log v) (numbered_log v) (map numbered_joined joined)
    (inl refl) (All-map (λ (l : NumberedLog). HasLog l.log v) numbered_joined joined
    (All-weaker (Contains joined) (λ (j : Joined). HasLog (log_of_joined j) v)
    (λ j has. inr (j, has, refl)) joined (All-contains_itself joined)))

-- a pass that took another one in has the logs of both
pub logs_of_both : (v w : View) → logs_of_pass (after_join v w) ≡ logs_of_pass v ++ logs_of_pass w
logs_of_both v w = ap (λ (ls : List NumberedLog). numbered_log v ∷ ls)
    (map-append numbered_joined (v.reserving).joined
    (joined_of w ∷ (w.reserving).joined))
