-- A machine that begins runs.
use Rattle.std.proofs.Common.{◌≡◌, inl, inr, ℕ, zero, suc, ◌+◌, ◌<◌, All, true, List, [], ◌∷◌, length, map, slice_get, Some, refl, sym, subst, arith}
use Rattle.std.proofs.lemmas.Bool.{cases_lt}
use Rattle.std.proofs.lemmas.List.{length-append}
use mathlib.Core.Option.{none, some, some-injective}
use Rattle.segment_disk.specs.Tape.{DiskState}
use Rattle.machine_state.specs.Words.{Opening, down_word}
use Rattle.machine_state.specs.Views.{HasAt, Plain}
use Rattle.machine_state.specs.Moves.{split_off}
use Rattle.machine_state.specs.Steps.{State, Splits}
use Rattle.machine_state.specs.Sound.{IsSound}
use Rattle.machine_state.specs.Opened.{first_view}
use Rattle.machine_state.proofs.Lists.{at_end, at_front}
use Rattle.machine_laws.proofs.OpeningLaws.{logs_begin}
use Rattle.machine_laws.proofs.EveryPassStep.{splits_keep}
use Rattle.machine_turns.specs.Doing.{Ask, Backend, Machine}
use Rattle.machine_turns.specs.Turned.{line_start}
use Rattle.machine_turns.specs.Standing.{IsLine, IsRunning, StandsToDo, StandsFor, UpFor}
use Rattle.machine_turns.specs.Begun.{MayBeginRunning, first_backend, first_machine, splitting_view, views_split_off}
use Rattle.machine_turns.proofs.NextUp.{up_start}
use Rattle.machine_turns.proofs.Running.{all_got, begin_stands}

-- an element of a list of images
got_image : {A B : Type 0} (f : A → B) (xs : List A) (i : ℕ) (y : B)
    → slice_get (map f xs) i ≡ Some y
    → (x : A) × (slice_get xs i ≡ Some x) × (f x ≡ y) × (i < length xs)
got_image f [] i y e = absurd (cc)
got_image f (x ∷ xs) zero y e = (x, refl, cc, omega arith)
got_image f (x ∷ xs) (suc i) y e =
    let rest = got_image f xs i y e in
    let low = rest.3 in
    (rest.0, rest.1, rest.2, omega arith)

module _ (opening : Opening) where
  pub spares : (n : ℕ) → ((splitting_view opening n).reserving).spare ≡ n + 1
  spares zero = refl
  spares (suc n) = let before = spares n in omega arith

  spare_end : (n : ℕ) → ((splitting_view opening n).reserving).spare_end ≡ (opening.setup).passes
  spare_end zero = refl
  spare_end (suc n) = spare_end n

  lives : (n : ℕ) → ((splitting_view opening n).reserving).live ≡ true
  lives zero = refl
  lives (suc n) = lives n

  pub split_count : (n : ℕ) → length (views_split_off opening n) ≡ n
  split_count zero = refl
  split_count (suc n) =
      let before = split_count n in
      let both = length-append (views_split_off opening n) (split_off
      (splitting_view opening n) ∷ []) in
      omega arith

  pub split_at : (n j : ℕ) → j < n
      → HasAt (views_split_off opening n) j (split_off (splitting_view opening j))
  split_at zero j low = absurd (omega arith)
  split_at (suc n) j low = elim (cases_lt j n) [
    | inl before ↦ at_front (views_split_off opening n) j (split_off (splitting_view opening n))
        (split_off (splitting_view opening j)) (split_at n j before)
    | inr last ↦ (let same : n ≡ j = omega arith in
        subst (λ (k : ℕ). HasAt (views_split_off opening (suc n)) k (split_off
        (splitting_view opening k)))
        same (subst (λ (k : ℕ). HasAt (views_split_off opening (suc n)) k
        (split_off (splitting_view opening n))) (split_count n)
        (at_end (views_split_off opening n) (split_off (splitting_view opening n)))))
  ]

  module _ (words : List ℕ) (writer : Plain) where
    abbrev state_split : ℕ → State
    state_split n = record {
      words = words;
      home = some writer;
      views = splitting_view opening n ∷ views_split_off opening n;
    }

    splits : (n : ℕ) → n + 1 < (opening.setup).passes
        → Splits 0 (state_split n) (state_split (suc n))
    splits n low = record {
      view = splitting_view opening n;
      live = (refl, lives n);
      may = omega (arith, spares n, spare_end n);
      words = refl;
      home = refl;
      views = refl;
    }

    split_sound : {first : DiskState}
        → IsSound first opening words (some writer) (first_view opening ∷ []) → (n : ℕ)
        → n < (opening.setup).passes
        → IsSound first opening words (some writer)
        (splitting_view opening n ∷ views_split_off opening n)
    split_sound begun zero low = begun
    split_sound begun (suc n) low =
        splits_keep opening (state_split n) (state_split (suc n)) 0
        (split_sound begun n (omega arith)) (splits n (omega arith))

    module _ (first : DiskState) (failing : List ℕ) (lines : List (List Ask))
        (may : MayBeginRunning opening words writer lines) where
      abbrev begun : Machine
      begun = first_machine first opening words writer failing lines

      stands_first : (asks : List Ask) → All IsLine asks → (j : ℕ)
          → StandsFor (first_backend asks) (split_off (splitting_view opening j))
      stands_first asks writable j ask left = subst
          (λ (x : Rattle.std.specs.Prelude.Option Ask).
          StandsToDo (split_off (splitting_view opening j)) (line_start x) ask) (sym left)
          (begin_stands ask (split_off (splitting_view opening j))
          (all_got IsLine asks 0 ask writable left) (inl (record {
            place = refl;
            locks = refl;
            flight = refl;
            stage = refl;
            hold = refl;
          })))

      pub runs_first : IsRunning begun
      runs_first = record {
        sound = split_sound (logs_begin first opening words writer may.openable may.first_words
            may.first_writer) (length lines) may.passes;
        lines = λ j b is.
            let found = got_image first_backend lines j b is in
            subst (λ (x : Backend). All IsLine x.asks) found.2
            (all_got (All IsLine) lines j found.0 may.writable found.1);
        views = λ j b is.
            let found = got_image first_backend lines j b is in (
              split_off (splitting_view opening j),
              (by_next j (split_at (length lines) j found.3), refl),
              subst (λ (x : Backend). StandsFor x (split_off (splitting_view opening j))) found.2
                  (stands_first found.0 (all_got
                  (All IsLine) lines j found.0 may.writable found.1) j),
            );
        at_home = λ w is up. inl (subst (λ (x : Plain). x.waiting ≡ none)
            (some-injective writer w is) (may.first_writer).waiting);
        up = λ j b ask is left.
            let found = got_image first_backend lines j b is in
            subst (λ (x : Backend). UpFor x.doing
            (down_word words)) found.2 (up_start (slice_get found.0 0) _);
      }
        where
          by_next : (j : ℕ) → HasAt (views_split_off opening (length lines)) j
              (split_off (splitting_view opening j))
              → HasAt (splitting_view opening (length lines)
              ∷ views_split_off opening (length lines)) (j + 1) (split_off
              (splitting_view opening j))
          by_next j at = let next : suc j ≡ j + 1 = omega arith in
              subst (λ (k : ℕ). HasAt (splitting_view opening (length lines)
              ∷ views_split_off opening (length lines)) k (split_off (splitting_view opening j)))
              next at
