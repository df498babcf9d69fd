-- What several lanes logged is woven of what each of them began.
use Rattle.std.proofs.Common.{◌≡◌, ◌≢◌, ℕ, cond, eq-eqb, ne_eqb, Bool, true, false, true≢false, All, Contains, List, [], ◌∷◌, ◌++◌, length, map, append_assoc, Option, Some, None, Ok, IsSome, inl, inr, refl, sym, ap, ◌∙◌, subst, arith}
use Rattle.std.specs.Prelude.{◌==◌}
use Rattle.std.proofs.lemmas.Bool.{cases_eq}
use Rattle.std.proofs.lemmas.List.Elements.{All-cons, All-contains, All-contains_itself, All-head, All-map, All-nil, All-tail, All-weaker, Contains-append_cases, Contains-append_left, Contains-append_right, Contains-push, Contains-push_cases}
use Rattle.segment_disk.specs.Tape.{Tape}
use Rattle.wal_types.specs.declared.answers.Sealed.{Sealed}
use Rattle.wal_page.specs.Order.{Entry}
use Rattle.wal_rule.specs.declared.pass.Pass.{Pass}
use Rattle.wal_rule.specs.Passes.{view_of_pass}
use Rattle.wal_log.specs.declared.wal.Wal.{Wal}
use Rattle.wal_log_laws.specs.Growing.{NumberedLog, logs_of_pass}
use Rattle.wal_log_laws.specs.History.{order_of}
use Rattle.wal_log_laws.specs.Lives.{IsMadeBy, PassesMakeTheOrder, entries_under, is_pass}
use Rattle.durable_map.specs.Calls.{ChangeCall, begun_by, begun_in}
use Rattle.durable_map.specs.Changes.{MapChange}
use Rattle.durable_map.specs.Records.{SaysChange}
use Rattle.durable_map.specs.Stores.{view_of_part}
use Rattle.durable_map.specs.Weaving.{AreAllLanes, AreWoven, HasItsOwn, HasItsPlace, IsLane, LaneCalls, LogsWeaveLanes, PassChange, WeavesLanes, changes_in, changes_under, log_of_lane, number_of_lane}
use Rattle.durable_map.proofs.Begun.{all_added, entries_of}
use Rattle.durable_map.proofs.Fronts.{SayEach}
use Rattle.durable_map.proofs.Spelled.{same_change}

-- ---- lists

pub contains_map : {X Y : Type 0} → (f : X → Y) (xs : List X) (x : X) → Contains xs x
    → Contains (map f xs) (f x)
contains_map f [] x has = absurd (omega (arith, has.1))
contains_map {X} {Y} f (one ∷ xs) x has = elim (Contains-append_cases (one ∷ []) xs x has) [
  | inl here ↦ elim (Contains-push_cases [] one x here) [
    | inl none ↦ absurd (omega (arith, none.1))
    | inr is ↦ subst (λ (y : X). Contains (map f (one ∷ xs)) (f y)) is
        (Contains-append_left (f one ∷ []) (map f xs) (f one) (Contains-push [] (f one)))
  ]
  | inr there ↦ Contains-append_right (f one ∷ []) (map f xs) (f x) (contains_map f xs x there)
]

-- what stands at one place of a list
pub at_one_place : (xs ys us vs : List Entry) (a b : Entry) → xs ++ a ∷ us ≡ ys ++ b ∷ vs
    → length xs ≡ length ys → a ≡ b
at_one_place [] [] us vs a b same long = cc
at_one_place [] (y ∷ ys) us vs a b same long = absurd (omega (arith, long))
at_one_place (x ∷ xs) [] us vs a b same long = absurd (omega (arith, long))
at_one_place (x ∷ xs) (y ∷ ys) us vs a b same long =
    at_one_place xs ys us vs a b (without_one x y (xs ++ a ∷ us) (ys ++ b ∷ vs) same)
    (omega (arith, long))
  where
    without_one : (x y : Entry) (xs ys : List Entry) → x ∷ xs ≡ y ∷ ys → xs ≡ ys
    without_one x y xs ys same = cc

-- ---- entries under a number

named : (p : Option ℕ) → IsSome p → (n : ℕ) × (p ≡ Some n)
named None h = absurd (true≢false (sym h))
named (Some n) h = (n, refl)

pub own_first : (n : ℕ) (e : Entry) (es : List Entry) → e.pass ≡ Some n
    → entries_under n (e ∷ es) ≡ e ∷ entries_under n es
own_first n e es is =
    ap (λ (p : Option ℕ). cond (is_pass n p) (e ∷ entries_under n es) (entries_under n es)) is
    ∙ ap (λ (b : Bool). cond b (e ∷ entries_under n es) (entries_under n es)) (eq-eqb n n refl)

with_first : (b : Bool) (e : Entry) (all es fs : List Entry) → all ≡ es ++ fs
    → cond b (e ∷ all) all ≡ cond b (e ∷ es) es ++ fs
with_first true e all es fs is = ap (λ (l : List Entry). e ∷ l) is
with_first false e all es fs is = is

pub under_append : (n : ℕ) (es fs : List Entry)
    → entries_under n (es ++ fs) ≡ entries_under n es ++ entries_under n fs
under_append n [] fs = refl
under_append n (e ∷ es) fs = with_first (is_pass n e.pass) e (entries_under n (es ++ fs))
    (entries_under n es) (entries_under n fs) (under_append n es fs)

-- ---- what entries say

-- the first one
first_said : (e : Entry) (es : List Entry) (xs : List MapChange) → SayEach (e ∷ es) xs
    → (change : MapChange) × SaysChange e.value change
first_said e es [] said = absurd said
first_said e es (x ∷ xs) said = (x, said.0)

-- those behind it, if it is there
rest_said : (b : Bool) (e : Entry) (es : List Entry) (xs : List MapChange)
    → SayEach (cond b (e ∷ es) es) xs → (ys : List MapChange) × SayEach es ys
rest_said true e es [] said = absurd said
rest_said true e es (x ∷ xs) said = (xs, said.1)
rest_said false e es xs said = (xs, said)

pub same_long : (es : List Entry) (xs : List MapChange) → SayEach es xs → length es ≡ length xs
same_long [] [] said = refl
same_long [] (x ∷ xs) said = absurd said
same_long (e ∷ es) [] said = absurd said
same_long (e ∷ es) (x ∷ xs) said = (let rest = same_long es xs said.1 in omega (arith, rest))

same_said : (es : List Entry) (xs ys : List MapChange) → SayEach es xs → SayEach es ys → xs ≡ ys
same_said [] [] [] one other = refl
same_said [] [] (y ∷ ys) one other = absurd other
same_said [] (x ∷ xs) ys one other = absurd one
same_said (e ∷ es) [] ys one other = absurd one
same_said (e ∷ es) (x ∷ xs) [] one other = absurd other
same_said (e ∷ es) (x ∷ xs) (y ∷ ys) one other =
    ap (λ (c : MapChange). c ∷ xs) (same_change e.value x y one.0 other.0)
    ∙ ap (λ (l : List MapChange). y ∷ l) (same_said es xs ys one.1 other.1)

-- ---- weaving

-- entries say changes if those of each pass do
weave : (es : List Entry) → All (λ (e : Entry). IsSome e.pass) es
    → ((n : ℕ) → (xs : List MapChange) × SayEach (entries_under n es) xs)
    → (woven : List PassChange) × AreWoven es woven
weave [] names says = ([], tt)
weave (e ∷ es) names says =
    let p = named e.pass (All-head (λ (e : Entry). IsSome e.pass) e es names) in
    let mine = says p.0 in
    let one = first_said e (entries_under p.0 es) mine.0
    (subst (λ (l : List Entry). SayEach l mine.0) (own_first p.0 e es p.1) mine.1) in
    let rest = weave es (All-tail (λ (e : Entry). IsSome e.pass) e es names)
    (λ n. rest_said (is_pass n e.pass) e (entries_under n es) (says n).0 (says n).1) in
    ((record { number = p.0; change = one.0 }) ∷ rest.0, ((p.1, one.1), rest.1))

pub woven_said : (es : List Entry) (woven : List PassChange) → AreWoven es woven
    → SayEach es (changes_in woven)
woven_said [] [] are = tt
woven_said [] (c ∷ cs) are = absurd are
woven_said (e ∷ es) [] are = absurd are
woven_said (e ∷ es) (c ∷ cs) are = (are.0.1, woven_said es cs are.1)

-- with a first one on both sides, or on none
both_said : (b : Bool) (e : Entry) (x : MapChange) (es : List Entry) (xs : List MapChange)
    → SaysChange e.value x → SayEach es xs → SayEach (cond b (e ∷ es) es) (cond b (x ∷ xs) xs)
both_said true e x es xs first others = (first, others)
both_said false e x es xs first others = others

-- what is woven has each pass's changes in their order
pub under_woven : (n : ℕ) (es : List Entry) (woven : List PassChange) → AreWoven es woven
    → SayEach (entries_under n es) (changes_under n woven)
under_woven n [] [] are = tt
under_woven n [] (c ∷ cs) are = absurd are
under_woven n (e ∷ es) [] are = absurd are
under_woven n (e ∷ es) (c ∷ cs) are =
    subst (λ (p : Option ℕ). SayEach (cond (is_pass n p) (e ∷ entries_under n es)
    (entries_under n es)) (cond (c.number == n) (c.change ∷ changes_under n cs)
    (changes_under n cs))) (sym are.0.0)
    (both_said (c.number == n) e c.change (entries_under n es) (changes_under n cs) are.0.1
    (under_woven n es cs are.1))

-- where a woven change stands among the entries
pub record StandsAt (es : List Entry) (earlier : List PassChange) (c : PassChange) : Type 0 where
  pub before : List Entry
  pub entry : Entry
  pub behind : List Entry
  pub are : es ≡ before ++ entry ∷ behind
  pub woven : AreWoven before earlier
  pub of_pass : entry.pass ≡ Some c.number
  pub says : SaysChange entry.value c.change

pub stands_at : (es : List Entry) (earlier later : List PassChange) (c : PassChange)
    → AreWoven es (earlier ++ c ∷ later) → StandsAt es earlier c
stands_at [] [] later c are = absurd are
stands_at [] (w ∷ earlier) later c are = absurd are
stands_at (e ∷ es) [] later c are = record {
  before = [];
  entry = e;
  behind = es;
  are = refl;
  woven = tt;
  of_pass = are.0.0;
  says = are.0.1;
}
stands_at (e ∷ es) (w ∷ earlier) later c are =
    let rest = stands_at es earlier later c are.1 in
    record {
      before = e ∷ rest.before;
      entry = rest.entry;
      behind = rest.behind;
      are = ap (λ (l : List Entry). e ∷ l) rest.are;
      woven = (are.0, rest.woven);
      of_pass = rest.of_pass;
      says = rest.says;
    }

-- ---- where a pass's change stands among all

-- it stands behind these of the pass's
abbrev IsAmong : ℕ → List PassChange → List MapChange → MapChange → Type 0
IsAmong n woven xs c = (earlier : List PassChange) × (later : List PassChange)
    × (woven ≡ earlier ++ (record { number = n; change = c }) ∷ later)
    × (changes_under n earlier ≡ xs)

hit : (n : ℕ) (w : PassChange) (ws : List PassChange) → w.number ≡ n
    → changes_under n (w ∷ ws) ≡ w.change ∷ changes_under n ws
hit n w ws same = ap (λ (b : Bool). cond b (w.change ∷ changes_under n ws) (changes_under n ws))
    (eq-eqb w.number n same)

miss : (n : ℕ) (w : PassChange) (ws : List PassChange) → w.number ≢ n
    → changes_under n (w ∷ ws) ≡ changes_under n ws
miss n w ws other = ap (λ (b : Bool). cond b (w.change ∷ changes_under n ws) (changes_under n ws))
    (ne_eqb w.number n other)

same_head : (x y : MapChange) (xs ys : List MapChange) → x ∷ xs ≡ y ∷ ys → x ≡ y
same_head x y xs ys same = cc

same_tail : (x y : MapChange) (xs ys : List MapChange) → x ∷ xs ≡ y ∷ ys → xs ≡ ys
same_tail x y xs ys same = cc

none_under : (c : MapChange) (xs ys : List MapChange) → [] ≡ xs ++ c ∷ ys → ⊥
none_under c [] ys same = cc
none_under c (x ∷ xs) ys same = cc

is_so : (n : ℕ) (w : PassChange) (c : MapChange) → w.number ≡ n → w.change ≡ c
    → w ≡ record { number = n; change = c }
is_so n w c number change = λ i. record { number = number i; change = change i }

placed_from : (n : ℕ) (w : PassChange) (ws : List PassChange) (xs ys : List MapChange)
    (c : MapChange) → w.number ≡ n → w.change ∷ changes_under n ws ≡ xs ++ c ∷ ys
    → ((zs : List MapChange) → changes_under n ws ≡ zs ++ c ∷ ys → IsAmong n ws zs c)
    → IsAmong n (w ∷ ws) xs c
placed_from n w ws [] ys c same is further = (
  [],
  ws,
  ap (λ (v : PassChange). v ∷ ws)
      (is_so n w c same (same_head w.change c (changes_under n ws) ys is)),
  refl,
)
placed_from n w ws (x ∷ xs) ys c same is further =
    let rest = further xs (same_tail w.change x (changes_under n ws) (xs ++ c ∷ ys) is) in (
      w ∷ rest.0,
      rest.1,
      ap (λ (l : List PassChange). w ∷ l) rest.2,
      hit n w rest.0 same ∙ ap (λ (l : List MapChange). w.change ∷ l) rest.3
          ∙ ap (λ (y : MapChange). y ∷ xs)
          (same_head w.change x (changes_under n ws) (xs ++ c ∷ ys) is),
    )

place : (n : ℕ) (woven : List PassChange) (xs ys : List MapChange) (c : MapChange)
    → changes_under n woven ≡ xs ++ c ∷ ys → IsAmong n woven xs c
place n [] xs ys c is = absurd (none_under c xs ys is)
place n (w ∷ ws) xs ys c is = elim (cases_eq w.number n) [
  | inl same ↦ placed_from n w ws xs ys c same (sym (hit n w ws same) ∙ is)
      (λ zs t. place n ws zs ys c t)
  | inr other ↦
      let rest = place n ws xs ys c (sym (miss n w ws other) ∙ is) in (
        w ∷ rest.0,
        rest.1,
        ap (λ (l : List PassChange). w ∷ l) rest.2,
        miss n w rest.0 other ∙ rest.3,
      )
]

-- ---- calls

pub begun_append : (calls others : List ChangeCall)
    → begun_in (calls ++ others) ≡ begun_in calls ++ begun_in others
begun_append [] others = refl
begun_append (call ∷ calls) others =
    ap (λ (l : List MapChange). begun_by call.change call.answer ++ l)
    (begun_append calls others)
    ∙ sym (append_assoc (begun_by call.change call.answer) (begun_in calls) (begun_in others))

-- ---- lanes

-- the entries of a lane's pass are those of its number, and say the changes that it began
abbrev LaneSaid : List Entry → LaneCalls → Type 0
LaneSaid order lane = SayEach (entries_under (number_of_lane lane) order) (begun_in lane.calls)

-- so each number's entries say some changes
some_said : (order : List Entry) (n : ℕ) (lanes : List LaneCalls) → All (LaneSaid order) lanes
    → (All (λ (lane : LaneCalls). n ≢ number_of_lane lane) lanes → entries_under n order ≡ [])
    → (xs : List MapChange) × SayEach (entries_under n order) xs
some_said order n [] said none = (
  [],
  subst (λ (l : List Entry). SayEach l [])
      (sym (none (All-nil (λ (lane : LaneCalls). n ≢ number_of_lane lane)))) tt,
)
some_said order n (lane ∷ lanes) said none = elim (cases_eq n (number_of_lane lane)) [
  | inl same ↦ (
    begun_in lane.calls,
    subst (λ (m : ℕ). SayEach (entries_under m order) (begun_in lane.calls)) (sym same)
        (All-head (LaneSaid order) lane lanes said),
  )
  | inr other ↦ some_said order n lanes (All-tail (LaneSaid order) lane lanes said)
      (λ others. none (All-cons (λ (lane : LaneCalls). n ≢ number_of_lane lane) lane lanes other others))
]

module _ {D : Type 0} (wal : Wal D) (pass : Pass) (lanes : List LaneCalls)
    (all : AreAllLanes wal pass lanes) (order : List Entry)
    (made : IsMadeBy order (logs_of_pass (view_of_pass pass))) where
  own : All (λ (l : NumberedLog). (l.log).entries ≡ entries_under l.number order)
      (map log_of_lane lanes)
  own = subst (All (λ (l : NumberedLog). (l.log).entries ≡ entries_under l.number order)) all.all
      made.own

  -- what a lane's pass logged are the entries under its number
  pub logged : (lane : LaneCalls) → Contains lanes lane
      → entries_of (view_of_part lane.last) ≡ entries_under (number_of_lane lane) order
  logged lane has = All-contains
      (λ (l : NumberedLog). (l.log).entries ≡ entries_under l.number order)
      (map log_of_lane lanes) (log_of_lane lane) own (contains_map log_of_lane lanes lane has)

  pub its_lane : (lane : LaneCalls) → Contains lanes lane → IsLane wal lane
  its_lane lane has = All-contains (IsLane wal) lanes lane all.each has

  lane_said : (lane : LaneCalls) → Contains lanes lane → LaneSaid order lane
  lane_said lane has =
      let is = its_lane lane has in
      let added = all_added wal lane.calls lane.first lane.last is.called in
      subst (λ (l : List Entry). SayEach l (begun_in lane.calls))
      (sym (ap (λ (l : List Entry). l ++ added.0) (is.new).none) ∙ sym added.1 ∙ logged lane has)
      added.2

  all_said : All (LaneSaid order) lanes
  all_said = All-weaker (Contains lanes) (LaneSaid order) lane_said lanes
      (All-contains_itself lanes)

  each_number : (n : ℕ) → (xs : List MapChange) × SayEach (entries_under n order) xs
  each_number n = some_said order n lanes all_said (λ none. made.no_other n
      (subst (All (λ (l : NumberedLog). n ≢ l.number)) (sym all.all)
      (All-map (λ (l : NumberedLog). n ≢ l.number) log_of_lane lanes none)))

  has_own : (woven : List PassChange) → AreWoven order woven → (lane : LaneCalls)
      → Contains lanes lane → HasItsOwn woven lane
  has_own woven are lane has =
      same_said (entries_under (number_of_lane lane) order)
      (changes_under (number_of_lane lane) woven) (begun_in lane.calls)
      (under_woven (number_of_lane lane) order woven are) (lane_said lane has)

  has_no_other : (woven : List PassChange) → AreWoven order woven → (number : ℕ)
      → All (λ (lane : LaneCalls). number ≢ number_of_lane lane) lanes
      → changes_under number woven ≡ []
  has_no_other woven are number none =
      same_said (entries_under number order) (changes_under number woven) []
      (under_woven number order woven are)
      (subst (λ (l : List Entry). SayEach l []) (sym (made.no_other number
      (subst (All (λ (l : NumberedLog). number ≢ l.number)) (sym all.all)
      (All-map (λ (l : NumberedLog). number ≢ l.number) log_of_lane lanes none)))) tt)

  has_place : (woven : List PassChange) → AreWoven order woven → (lane : LaneCalls)
      (before : List ChangeCall) (change : MapChange) (sealed : Sealed)
      (others : List ChangeCall) → Contains lanes lane
      → lane.calls ≡ before ++ (record { change = change; answer = Ok sealed }) ∷ others
      → HasItsPlace lane woven before change
  has_place woven are lane before change sealed others has is =
      let call : ChangeCall = record { change = change; answer = Ok sealed } in
      let at = place (number_of_lane lane) woven (begun_in before) (begun_in others) change
      (has_own woven are lane has ∙ ap begun_in is ∙ begun_append before (call ∷ others)) in
      record { earlier = at.0; later = at.1; there = at.2; own = at.3 }

  pub weaves_lanes : WeavesLanes order lanes
  weaves_lanes =
      let woven = weave order made.named each_number in
      record {
        woven = woven.0;
        are = woven.1;
        each = All-weaker (Contains lanes) (HasItsOwn woven.0) (has_own woven.0 woven.1) lanes
            (All-contains_itself lanes);
        no_other = has_no_other woven.0 woven.1;
        placed = has_place woven.0 woven.1;
      }

pub logs_weave_lanes : {D : Type 0} → (tape : D → Option Tape) (moment faults : D → ℕ)
    → PassesMakeTheOrder tape moment faults → LogsWeaveLanes tape moment faults
logs_weave_lanes tape moment faults makes wal pass closed c lanes all =
    weaves_lanes wal pass lanes all (order_of tape moment faults wal pass closed c)
    (makes wal pass closed c)
