-- Turns of a machine one after another, and what they leave of its backends.
use Rattle.std.proofs.Common.{◌≡◌, ℕ, zero, suc, ◌+◌, ◌<◌, All, drop, get_or, List, [], ◌∷◌, ◌++◌, length, map, replicate, set, slice_get, Option, Some, None, Bool, cond, eqb, not, ◌&&◌, ◌||◌, slice_index, refl, sym, subst, ap, ◌∙◌, arith}
use Rattle.std.proofs.lemmas.List.{drop_more}
use Rattle.std.proofs.lemmas.List.Concat.{flat_map-cons}
use Rattle.std.proofs.lemmas.List.Elements.{All-cons, All-head, All-nil, All-tail}
use mathlib.Core.Option.{none, some}
use lib.ListN.{get_elem?}
use Rattle.run_script.specs.declared.item.Item.{Item}
use Rattle.run_script.specs.Turns.{backends_in_turn}
use Rattle.machine_state.specs.Views.{View}
use Rattle.machine_state.specs.Words.{down_word}
use Rattle.machine_state.specs.Moves.{is_done}
use Rattle.machine_state.specs.Steps.{view_behind, word_of_step}
use Rattle.machine_turns.specs.Doing.{Ask, Backend, Machine}
use Rattle.machine_turns.proofs.Poses.{bool_cases}
use Rattle.machine_turns.specs.Turned.{Next, goes_on, answers, TurnMade, Waits, can_step, event_named, fallen, looks_down, moved_on, next_of, outcome, word_waited, turned, turned_for, turned_of, machine_behind, with_answer, with_next}

pub behind_append : (m : Machine) (xs ys : List ℕ) → machine_behind m (xs ++ ys) ≡ machine_behind (machine_behind m xs) ys
behind_append m [] ys = refl
behind_append m (x ∷ xs) ys = behind_append (turned m x).1 xs ys

-- one turn more of the same backend
pub one_more : (m : Machine) (count backend : ℕ) → (turned (machine_behind m (replicate count backend)) backend).1 ≡ machine_behind m (replicate (suc count) backend)
one_more m zero backend = refl
one_more m (suc count) backend = one_more (turned m backend).1 count backend

-- the turns of an item come before those of the items behind it
pub item_first : (m : Machine) (item : Item) (items : List Item) → machine_behind (machine_behind m (replicate item.turns item.backend)) (backends_in_turn items) ≡ machine_behind m (backends_in_turn (item ∷ items))
item_first m item items = sym (ap (machine_behind m) (flat_map-cons (λ (i : Item). replicate i.turns i.backend) item items) ∙ behind_append m (replicate item.turns item.backend) (backends_in_turn items))

-- so the next item's do, of those that are left
pub next_item : (end now : Machine) (schedule items : List Item) (i : ℕ) (item : Item) → items ≡ schedule → i < length items → machine_behind now (backends_in_turn (drop i schedule)) ≡ end
    → machine_behind (machine_behind now (replicate (get_or items i item).turns (get_or items i item).backend)) (backends_in_turn (drop (i + 1) schedule)) ≡ end
next_item end now schedule items i item same low left =
    let next = get_or items i item in
    let split = drop_more items i item low in
    item_first now next (drop (i + 1) schedule) ∙ (ap (λ (rest : List Item). machine_behind now (backends_in_turn (next ∷ rest))) (ap (drop (i + 1)) (sym same)) ∙ (ap (λ (rest : List Item). machine_behind now (backends_in_turn rest)) (sym split ∙ ap (drop i) same) ∙ left))

-- ---- whose turns there are

-- what holds of each of some equal ones holds of one
pub one_of_many : (P : ℕ → Type 0) (count x : ℕ) → 0 < count → All P (replicate count x) → P x
one_of_many P zero x many all = absurd (omega (arith, many))
one_of_many P (suc count) x many all = All-head P x (replicate count x) all

front_holds : (P : ℕ → Type 0) (xs ys : List ℕ) → All P (xs ++ ys) → All P xs
front_holds P [] ys all = All-nil P
front_holds P (x ∷ xs) ys all = All-cons P x xs (All-head P x (xs ++ ys) all) (front_holds P xs ys (All-tail P x (xs ++ ys) all))

rest_holds : (P : ℕ → Type 0) (xs ys : List ℕ) → All P (xs ++ ys) → All P ys
rest_holds P [] ys all = all
rest_holds P (x ∷ xs) ys all = rest_holds P xs ys (All-tail P x (xs ++ ys) all)

-- what holds of the backends of all turns that are left holds of the next item's, and of those
-- behind it
pub next_there : (P : ℕ → Type 0) (schedule items : List Item) (i : ℕ) (item : Item) → items ≡ schedule → i < length items → All P (backends_in_turn (drop i schedule))
    → All P (replicate (get_or items i item).turns (get_or items i item).backend) × All P (backends_in_turn (drop (i + 1) schedule))
next_there P schedule items i item same low all =
    let next = get_or items i item in
    let split : drop i schedule ≡ next ∷ drop (i + 1) items = ap (drop i) (sym same) ∙ drop_more items i item low in
    let parted = ap backends_in_turn split ∙ flat_map-cons (λ (i : Item). replicate i.turns i.backend) next (drop (i + 1) items) in
    let each = subst (All P) parted all in (
      front_holds P (replicate next.turns next.backend) (backends_in_turn (drop (i + 1) items)) each,
      subst (λ (s : List Item). All P (backends_in_turn (drop (i + 1) s))) same (rest_holds P (replicate next.turns next.backend) (backends_in_turn (drop (i + 1) items)) each),
    )

-- and so of all behind the next item
pub behind_there : (P : ℕ → Type 0) (schedule items : List Item) (i : ℕ) → items ≡ schedule → i < length items → All P (backends_in_turn (drop i schedule))
    → All P (backends_in_turn (drop (i + 1) schedule))
behind_there P schedule items i same low all = (next_there P schedule items i (record { backend = 0; turns = 0 }) same low all).1

-- ---- how many lines each backend has

-- an element is replaced by one with the same image
map_set : {A B : Type 0} (f : A → B) (xs : List A) (i : ℕ) (x y : A) → slice_get xs i ≡ Some x → f y ≡ f x → map f (set xs i y) ≡ map f xs
map_set f [] i x y e same = refl
map_set f (z ∷ zs) zero x y e same = let is : z ≡ x = cc in ap (λ a. a ∷ map f zs) (same ∙ ap f (sym is))
map_set f (z ∷ zs) (suc i) x y e same = ap (λ bs. f z ∷ bs) (map_set f zs i x y e same)

abbrev pub line_counts_of : Machine → List ℕ
line_counts_of m = map (λ b. length b.asks) m.backends

next_keeps : (next : Next) (b : Backend) → length (with_next next b).asks ≡ length b.asks
next_keeps (goes_on doing) b = refl
next_keeps (answers full) b = refl

module _ (m : Machine) (number : ℕ) where
  abbrev Keeps : TurnMade × Machine → Type 0
  Keeps t = line_counts_of t.1 ≡ line_counts_of m

  by_ask : (b : Backend) (v : View) → slice_get m.backends number ≡ Some b → (ask : Option Ask) → Keeps (turned_for m number b v ask)
  by_ask b v here None = refl
  by_ask b v here (Some ask) =
      let down = down_word (m.state).words in
      let can = can_step m v ask b.doing in
      let looks = looks_down m v ask b.doing in
      let waits : TurnMade × Machine = (Waits (word_waited m v ask b.doing) (slice_index (m.state).words (word_waited m v ask b.doing)), m) in
      let e = event_named m v ask b.doing in
      let moved = moved_on m number b v ask e in
      let next = next_of v (view_behind v e (slice_index (m.state).words (word_of_step v e)) (m.state).home) ask (slice_index (m.state).words (word_of_step v e)) (is_done (outcome m v ask)) b.doing in
      bool_cases (λ (t : Bool). Keeps (cond t (fallen m number b v ask) (cond can moved waits))) (not (eqb down 0) && (looks || not can))
      (λ on. map_set (λ (c : Backend). length c.asks) m.backends number b (with_answer b) here refl)
      (λ off. bool_cases (λ (c : Bool). Keeps (cond c moved waits)) can
      (λ may. map_set (λ (c : Backend). length c.asks) m.backends number b (with_next next b) here (next_keeps next b))
      (λ waiting. refl))

  by_view : (b : Backend) → slice_get m.backends number ≡ Some b → (view : mathlib.Core.Option.Option View) → Keeps (turned_of m number (Some b) view)
  by_view b here none = refl
  by_view b here (some v) = by_ask b v here (slice_get b.asks b.answered)

  by_backend : (backend : Option Backend) → slice_get m.backends number ≡ backend → (view : mathlib.Core.Option.Option View) → Keeps (turned_of m number backend view)
  by_backend None here view = refl
  by_backend (Some b) here view = by_view b here view

  pub turn_keeps_counts : line_counts_of (turned m number).1 ≡ line_counts_of m
  turn_keeps_counts = by_backend (slice_get m.backends number) refl (get_elem? (m.state).views (number + 1))

pub turns_keep_counts : (m : Machine) (schedule : List ℕ) → line_counts_of (machine_behind m schedule) ≡ line_counts_of m
turns_keep_counts m [] = refl
turns_keep_counts m (number ∷ schedule) = turns_keep_counts (turned m number).1 schedule ∙ turn_keeps_counts m number
