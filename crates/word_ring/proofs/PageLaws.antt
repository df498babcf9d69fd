-- The words of a page are loaded one by one.
use Rattle.std.proofs.Common.{◌≡◌, ◌≢◌, ℕ, ◌+◌, ◌*◌, ◌<◌, inl, inr, List, ◌∷◌, refl, sym, ap, ◌∙◌, subst, arith}
use Rattle.std.proofs.lemmas.Bool.{cases_lt}
use Rattle.std.specs.Int.{w64, to_le_bytes}
use Rattle.segment_disk.specs.DiskImage.{word_of}
use Rattle.segment_disk.specs.Tape.{Tape}
use Rattle.machine_state.specs.Moves.{with_hold}
use Rattle.machine_state.specs.Steps.{IsPageLoaded, IsToBeWritten, ring_number, ring_place}
use Rattle.machine_state.specs.Views.{Hold, IsLoadedLast, Plain, View}
use Rattle.machine_state.specs.declared.setup.Setup.{Setup}
use Rattle.wal_rule.specs.declared.seated.SeatedPass.{SeatedPass}
use Rattle.std.specs.Borrow.{Bor}
use Rattle.wal_rule.specs.declared.table.LogTable.{LogTable}
use Rattle.wal_rule.specs.declared.writer.LogWriter.{LogWriter}
use Rattle.wal_rule.specs.SeatedPasses.{HasView, hand_of, view_of}
use Rattle.word_ring.specs.Loaded.{IsFrontLoaded, staged_in}
use Rattle.word_ring.specs.InHand.{HasHand, Loads, hand_view, known_copied, lent_in, writer_in}
use Rattle.word_ring.proofs.HandLaws.{has_lent, hold_is}

-- one word more
module _ (n page word : ℕ) (old new : List ℕ) (staged : List (ℕ × ℕ))
    (front : IsFrontLoaded n page old staged) (own : word_of new n ≡ to_le_bytes w64 word)
    (others : (m : ℕ) → m < n → word_of new m ≡ word_of old m) where
  abbrev more : List (ℕ × ℕ)
  more = (page * 1024 + n, word) ∷ staged

  abbrev IsIn : ℕ → Type 0
  IsIn m = (found : ℕ) × IsLoadedLast (page * 1024 + m) found more
      × (word_of new m ≡ to_le_bytes w64 found)

  last : IsIn n
  last = (word, inl (refl, refl), own)

  pub one_more : IsFrontLoaded (n + 1) page new more
  one_more m less = elim (cases_lt m n) [
    | inl earlier ↦ (let e = front m earlier in
        let apart : page * 1024 + n ≢ page * 1024 + m = (λ same. omega (arith, same, earlier)) in
        (e.0, inr (apart, e.1), others m earlier ∙ e.2))
    | inr on ↦ (let same : n ≡ m = omega arith in subst IsIn same last)
  ]

-- the place of a page's n-th word, where the log's setup and the first word are told otherwise
pub place_again : (shape setup : Setup) → shape ≡ setup → (page first : ℕ) → first ≡ page * 1024
    → (n place : ℕ) → place ≡ ring_number shape (ring_place shape (page * 1024 + n))
    → place ≡ ring_number setup (ring_place setup (first + n))
place_again shape setup same page first is n place at =
    at ∙ ap (λ (s : Setup). ring_number s (ring_place s (page * 1024 + n))) same
    ∙ ap (λ (k : ℕ). ring_number setup (ring_place setup (k + n))) (sym is)

-- ---- passes of which only what is loaded has changed

-- the table of a pass is the one that was taken out of it
pub same_table : {D : Type 0} (p q : SeatedPass D) → q.table ≡ p.table
    → (p.table).now ≡ (q.table).now
same_table {D} p q is = sym (ap (λ (t : Bor (LogTable D)). t.now) is)

module _ {D : Type 0} where
  abbrev pub HasLoaded : List (ℕ × ℕ) → (old new : SeatedPass D) → Type 0
  HasLoaded staged old new =
      HasView (hand_view (writer_in (view_of old)) staged (view_of old)) old new

  abbrev view_at : View × List (ℕ × LogWriter D) → View
  view_at m = m.0

  -- its writer's numbers, and what it knows to be copied, are as they were
  pub same_writer : (a b : SeatedPass D) (staged : List (ℕ × ℕ)) → HasLoaded staged a b
      → writer_in (view_of b) ≡ writer_in (view_of a)
  same_writer a b staged loads =
      ap (λ (m : View × List (ℕ × LogWriter D)). writer_in (view_at m)) loads.me_is

  pub same_known : (a b : SeatedPass D) (staged : List (ℕ × ℕ)) → HasLoaded staged a b
      → known_copied (view_of b) ≡ known_copied (view_of a)
  same_known a b staged loads =
      ap (λ (m : View × List (ℕ × LogWriter D)). known_copied (view_at m)) loads.me_is

  staged_now : (a b : SeatedPass D) (staged : List (ℕ × ℕ)) → HasLoaded staged a b
      → staged_in (view_of b) ≡ staged
  staged_now a b staged loads =
      ap (λ (m : View × List (ℕ × LogWriter D)). staged_in (view_at m)) loads.me_is

  -- a page is loaded by what the view has loaded
  pub loaded_at : (a b : SeatedPass D) (staged : List (ℕ × ℕ)) → HasLoaded staged a b
      → (page : ℕ) (bytes : List ℕ) → IsPageLoaded page bytes staged
      → IsPageLoaded page bytes (staged_in (view_of b))
  loaded_at a b staged loads page bytes all =
      subst (λ (s : List (ℕ × ℕ)). IsPageLoaded page bytes s)
      (sym (staged_now a b staged loads)) all

  -- a word of a page that is not written whole, and begins below what is known to be copied, is
  -- still to be written
  pub still_next : (a b : SeatedPass D) (staged : List (ℕ × ℕ)) → HasLoaded staged a b
      → (n page k : ℕ) → n < 1024 → k ≡ page * 1024
      → (writer_in (view_of a)).written < (page + 1) * 8192
      → page * 8192 < known_copied (view_of a)
      → IsToBeWritten (k + n) (lent_in ((view_of b).writing).hold)
  still_next a b staged loads n page k less is unwritten copied =
      let written = ap (λ (w : Plain). w.written) (same_writer a b staged loads) in
      let known = same_known a b staged loads in
      record {
        unwritten = omega (arith, less, is, unwritten, written);
        copied = omega (arith, less, is, copied, known);
      }

  module _ (tape : D → Rattle.std.specs.Prelude.Option Tape) (moment faults : D → ℕ) where
    -- before the first word
    pub none_loaded : (p : SeatedPass D) → HasHand tape moment faults p
        → Loads tape moment faults (staged_in (view_of p)) p p
    none_loaded p hand = record {
      view = record {
        same_table = refl;
        me_is = ap (λ (h : Hold). (with_hold h (view_of p), hand_of p))
            (hold_is (view_of p) (has_lent tape moment faults p hand));
      };
      hand = hand;
    }

    -- what was loaded behind the first loads
    pub rows_on : (a b c : SeatedPass D) → Loads tape moment faults (staged_in (view_of b)) a b
        → Loads tape moment faults (staged_in (view_of c)) b c
        → Loads tape moment faults (staged_in (view_of c)) a c
    rows_on a b c before load = record {
      view = record {
        same_table = (load.view).same_table ∙ (before.view).same_table;
        me_is = (load.view).me_is
            ∙ ap (λ (m : View × List (ℕ × LogWriter D)). (
              hand_view (writer_in (view_at m)) (staged_in (view_of c)) (view_at m),
              m.1,
            )) (before.view).me_is;
      };
      hand = load.hand;
    }

    module _ (a b c : SeatedPass D) (n page k word : ℕ) (old new : List ℕ)
        (before : Loads tape moment faults (staged_in (view_of b)) a b) (at : k ≡ page * 1024 + n)
        (load : Loads tape moment faults ((k, word) ∷ staged_in (view_of b)) b c) where
      pub loads_on : Loads tape moment faults (staged_in (view_of c)) a c
      loads_on = record {
        view = record {
          same_table = (load.view).same_table ∙ (before.view).same_table;
          me_is = (load.view).me_is
              ∙ ap (λ (m : View × List (ℕ × LogWriter D)). (
                hand_view (writer_in (view_at m)) ((k, word) ∷ staged_in (view_of b)) (view_at m),
                m.1,
              )) (before.view).me_is
              ∙ ap (λ (s : List (ℕ × ℕ)).
              (hand_view (writer_in (view_of a)) s (view_of a), hand_of a))
              (sym (staged_now b c ((k, word) ∷ staged_in (view_of b)) load.view));
        };
        hand = load.hand;
      }

      pub front_on : IsFrontLoaded n page old (staged_in (view_of b))
          → word_of new n ≡ to_le_bytes w64 word
          → ((m : ℕ) → m < n → word_of new m ≡ word_of old m)
          → IsFrontLoaded (n + 1) page new (staged_in (view_of c))
      front_on front own others =
          subst (λ (s : List (ℕ × ℕ)). IsFrontLoaded (n + 1) page new s)
          (sym (staged_now b c ((k, word) ∷ staged_in (view_of b)) load.view
          ∙ ap (λ (i : ℕ). (i, word) ∷ staged_in (view_of b)) at))
          (one_more n page word old new (staged_in (view_of b)) front own others)
