-- The pages behind each kind of step that changes what is said of them, in a state that keeps the
-- invariant.
use Rattle.std.proofs.Common.{◌≡◌, ℕ, ◌+◌, ◌*◌, ◌<◌, Bool, true, false, cond, eq-eqb, ne_eqb, List, map, max, set, sym, refl, ap, ◌∙◌, subst, arith}
use Rattle.std.specs.Prelude.{◌==◌, if◌then◌else◌}
use mathlib.Core.Option.{Option}
use mathlib.Core.Logic.{dite}
use native.Mathlib.Decide.{ℕ_discrete}
use Rattle.machine_state.specs.declared.setup.Setup.{Setup}
use Rattle.machine_state.specs.Words.{initialised_word, written_word, mapping_turn, end_word, word_of_ring, mapping_turn_number, initialised_number, written_number, ends_number}
use Rattle.machine_state.specs.Views.{HasAt, Flight, Copying, Stage, Away, Taken, Ready, Zeroing, Published, Plain, Lent, Out, View, flight_of, mapper_of, confirmed_of, writer_of, writing_of}
use Rattle.machine_state.specs.Locked.{HasTurn, StandsTo}
use Rattle.machine_state.specs.Paged.{IsOpen, PagesHold}
use Rattle.machine_state.specs.Durable.{IsStaged}
use Rattle.machine_state.specs.Moves.{with_stage, looked, ready}
use Rattle.machine_state.specs.Steps.{StepKind, MayStep, word_of_step, value_behind, view_behind, load_buffer_end, store_ring_word, load_ring_word, load_written, store_written, take_mapping_turn, load_initialised_end, clear_end, zero_ring_word, publish_end, publish_initialised_end, release_mapping_turn, IsToBeWritten, buffer_of, number_lent, number_of_next, next_value, page_mapped, ring_place, words_zeroed}
use Rattle.machine_state.specs.Sound.{IsSound}
use Rattle.machine_state.proofs.Lists.{at_place, part_at, part_set}
use Rattle.machine_state.proofs.Stages.{open_has}
use Rattle.machine_state.proofs.WordLists.{word_again, word_else, single_set, ends_before, ring_before, ends_behind}
use Rattle.machine_laws.specs.WordsPut.{IsPut, put}
use Rattle.machine_laws.specs.RingBehind.{met_by, words_behind, HasPages}
use Rattle.machine_laws.proofs.PutWords.{put_is, end_put, ring_put, buffer-below, place-below, ring_place-below}
use Rattle.machine_laws.proofs.PageLaws as page
use Rattle.machine_laws.proofs.StoredWords.{stores_word}
use Rattle.machine_laws.proofs.LoadedWords.{loads_staged, memory_loaded}
use Rattle.segment_disk.specs.Tape.{DiskState}

module _ {first : DiskState} (v : View) (words : List ℕ) (home : Option Plain) (views : List View) (id : ℕ)
    (s : IsSound first v.opening words home views) (here : HasAt views id v) where
  abbrev setup : Setup
  setup = (v.opening).setup

  abbrev pages : ℕ
  pages = ((v.opening).setup).ring_pages

  abbrev met : ℕ
  met = (v.mapping).confirmed

  abbrev all_met : List ℕ
  all_met = map confirmed_of views

  abbrev stage : Stage
  stage = (v.mapping).stage

  mine : HasAt (map confirmed_of views) id (v.mapping).confirmed
  mine = part_at confirmed_of views id v here

  -- the stage of whoever has the turn is the one that the pages know
  own : HasTurn (v.mapping).stage → s.stage ≡ (v.mapping).stage
  own has = (((s.locks).mapping).each id (mapper_of v) (part_at mapper_of views id v here) has).1

  -- the pages behind a step, by what it makes of each word that they read, and of the end met
  pages_by : (e : StepKind) (reach : ℕ) (next : Stage) (memory : ℕ → ℕ) (c initialised written : ℕ)
      (ends ring : ℕ → ℕ)
      (_ : confirmed_of (view_behind v e (met_by v words home views id e) home) ≡ c)
      (_ : initialised_word (words_behind v words home views id e) ≡ initialised)
      (_ : written_word (words_behind v words home views id e) ≡ written)
      (_ : end_word (words_behind v words home views id e) ≡ ends)
      (_ : word_of_ring setup (words_behind v words home views id e) ≡ ring)
      → PagesHold pages reach next initialised written ends ring memory (set all_met id c)
      → HasPages v words home views id e reach next memory
  pages_by e reach next memory c initialised written ends ring is i w es r holds =
      let u : View = view_behind v e (met_by v words home views id e) home in
      let parts = part_set confirmed_of views id u ∙ ap (λ (x : ℕ). set all_met id x) is in
      subst (λ (x : ℕ × ℕ × (ℕ → ℕ) × (ℕ → ℕ) × List ℕ).
      PagesHold pages reach next x.0 x.1 x.2 x.3 memory x.4)
      (λ j. (sym i j, sym w j, sym es j, sym r j, sym parts j)) holds

  -- a step that changes no word that they read
  pages_by_load : (e : StepKind) (next : Stage) (c : ℕ)
      → words_behind v words home views id e ≡ words
      → confirmed_of (view_behind v e (met_by v words home views id e) home) ≡ c
      → PagesHold pages s.reach next (initialised_word words) (written_word words) (end_word words)
      (word_of_ring setup words) s.memory (set all_met id c)
      → HasPages v words home views id e s.reach next s.memory
  pages_by_load e next c same is holds = pages_by e s.reach next s.memory c (initialised_word words)
      (written_word words) (end_word words) (word_of_ring setup words) is
      (ap initialised_word same) (ap written_word same) (ap end_word same)
      (ap (word_of_ring setup) same) holds

  -- one that stores into a word before those of the buffers, which they do not read
  pages_by_turn : (e : StepKind) (next : Stage) (c : ℕ) → word_of_step v e ≡ mapping_turn_number
      → confirmed_of (view_behind v e (met_by v words home views id e) home) ≡ c
      → PagesHold pages s.reach next (initialised_word words) (written_word words) (end_word words)
      (word_of_ring setup words) s.memory (set all_met id c)
      → HasPages v words home views id e s.reach next s.memory
  pages_by_turn e next c at is holds =
      let i : ℕ = word_of_step v e in
      let n : ℕ = value_behind v e (met_by v words home views id e) in
      pages_by e s.reach next s.memory c (initialised_word words)
      (written_word words) (end_word words) (word_of_ring setup words) is
      (word_else words i n initialised_number (λ f. omega arith)) (word_else words i n written_number (λ f. omega arith))
      (ends_before words i n (omega arith)) (ring_before words setup i n (omega arith)) holds

  -- the list of the ends met, where this one stays
  stays : PagesHold pages s.reach s.stage (initialised_word words) (written_word words)
      (end_word words) (word_of_ring setup words) s.memory (set all_met id met)
  stays = page.stays pages s.reach s.stage (initialised_word words) (written_word words)
      (end_word words) (word_of_ring setup words) s.memory all_met s.pages id met mine

  -- ---- loads

  pub pages_behind-end : (buffer : ℕ) → MayStep v (load_buffer_end buffer)
      → HasPages v words home views id (load_buffer_end buffer) s.reach s.stage s.memory
  pages_behind-end buffer below = pages_by_load (load_buffer_end buffer) s.stage
      (max met (end_word words buffer)) (word_again words (ends_number + buffer)) refl
      (page.meets_end pages s.reach s.stage (initialised_word words) (written_word words)
      (end_word words) (word_of_ring setup words) s.memory all_met s.pages id met buffer mine below)

  pub pages_behind-initialised : HasPages v words home views id load_initialised_end s.reach s.stage
      s.memory
  pages_behind-initialised = pages_by_load load_initialised_end s.stage
      (max met (initialised_word words)) (word_again words initialised_number) refl
      (page.meets_initialised pages s.reach s.stage (initialised_word words) (written_word words)
      (end_word words) (word_of_ring setup words) s.memory all_met s.pages id met mine)

  pub pages_behind-looked : s.stage ≡ stage
      → HasPages v words home views id load_initialised_end s.reach
      (looked (initialised_word words) stage) s.memory
  pages_behind-looked is = pages_by_load load_initialised_end (looked
      (initialised_word words) stage)
      (max met (initialised_word words)) (word_again words initialised_number) refl
      (subst (λ (x : Stage). PagesHold pages s.reach (looked (initialised_word words) x)
      (initialised_word words) (written_word words) (end_word words) (word_of_ring setup words)
      s.memory (set all_met id (max met (initialised_word words)))) is
      (page.looks pages s.reach s.stage (initialised_word words) (written_word words)
      (end_word words) (word_of_ring setup words) s.memory all_met s.pages id met mine))

  pub pages_behind-written_loaded : HasPages v words home views id load_written s.reach s.stage
      s.memory
  pages_behind-written_loaded =
      pages_by_load load_written s.stage met (word_again words written_number) refl stays

  pub pages_behind-ready : s.stage ≡ stage
      → HasPages v words home views id load_written s.reach (ready (written_word words) stage)
      s.memory
  pages_behind-ready is = pages_by_load load_written (ready (written_word words) stage) met
      (word_again words written_number) refl
      (subst (λ (x : Stage). PagesHold pages s.reach (ready (written_word words) x)
      (initialised_word words) (written_word words) (end_word words) (word_of_ring setup words)
      s.memory (set all_met id met)) is
      (page.gets_ready pages s.reach s.stage (initialised_word words) (written_word words)
      (end_word words) (word_of_ring setup words) s.memory (set all_met id met) stays))

  -- a word that is loaded for a write: 0 or the log's, and the one in memory
  module _ (n : ℕ) (l : Lent) (out : (v.writing).hold ≡ Out l) (may : MayStep v (load_ring_word n))
    where
      to_be_written : IsToBeWritten n l
      to_be_written =
          let same : may.0 ≡ l = (let e : Out may.0 ≡ Out l = sym may.1 ∙ out in cc) in
          subst (λ (x : Lent). IsToBeWritten n x) same may.2

      writer_is : l.writer ≡ s.writer
      writer_is = (subst (StandsTo _ _ _ _ _ _) out
          (((s.locks).writing).each id (writer_of v) (part_at writer_of views id v here))).3

      pub staged_behind : IsStaged v.opening s.order l.known
          (n, met_by v words home views id (load_ring_word n))
      staged_behind = loads_staged v.opening s.order s.reach s.memory (map flight_of views) s.stage
          (initialised_word words) (written_word words) _ _ (end_word words)
          (word_of_ring setup words) all_met home s.writer (map writing_of views) id n v.writing l
          (s.setup_is).size (s.reserved).placed (s.reserved).chained s.ring s.pages s.positions
          (part_at writing_of views id v here) out writer_is to_be_written

      pub memory_met : met_by v words home views id (load_ring_word n) ≡ s.memory n
      memory_met = memory_loaded v.opening s.order s.reach s.memory (map flight_of views) s.stage
          (initialised_word words) (written_word words) _ _ (end_word words)
          (word_of_ring setup words) all_met home s.writer (map writing_of views) id n v.writing l
          (s.setup_is).size (s.reserved).placed (s.reserved).chained s.ring s.pages s.positions
          (part_at writing_of views id v here) out writer_is to_be_written

  -- ---- the turn

  pub pages_behind-taken : HasPages v words home views id take_mapping_turn s.reach
      (if mapping_turn words == 0 then Taken else s.stage) s.memory
  pages_behind-taken = pages_by_turn take_mapping_turn
      (if mapping_turn words == 0 then Taken else s.stage) met refl
      (confirmed_if (mapping_turn words == 0))
      (dite (ℕ_discrete (mapping_turn words) 0)
      (λ free. subst (λ (b : Bool). Kept (cond b Taken s.stage))
      (sym (eq-eqb (mapping_turn words) 0 free))
      (page.takes_turn pages s.reach s.stage (initialised_word words) (written_word words)
      (end_word words) (word_of_ring setup words) s.memory (set all_met id met) stays
      (((s.locks).mapping).free free)))
      (λ taken. subst (λ (b : Bool). Kept (cond b Taken s.stage))
      (sym (ne_eqb (mapping_turn words) 0 taken)) stays))
    where
      Kept : Stage → Type 0
      Kept x = PagesHold pages s.reach x (initialised_word words) (written_word words)
          (end_word words) (word_of_ring setup words) s.memory (set all_met id met)

      confirmed_if : (b : Bool) → confirmed_of (cond b (with_stage Taken v) v) ≡ met
      confirmed_if true = refl
      confirmed_if false = refl

  pub pages_behind-given_back : MayStep v release_mapping_turn
      → HasPages v words home views id release_mapping_turn s.reach Away s.memory
  pages_behind-given_back may = pages_by_turn release_mapping_turn Away met refl refl
      (page.gives_back pages s.reach s.stage (initialised_word words) (written_word words)
      (end_word words) (word_of_ring setup words) s.memory (set all_met id met) stays
      (subst IsOpen (sym (own (open_has stage may))) may))

  -- ---- mapping

  abbrev at : ℕ
  at = page_mapped (v.mapping).stage

  abbrev buffer : ℕ
  buffer = buffer_of setup (page_mapped (v.mapping).stage)

  buffer_low : buffer < pages
  buffer_low = buffer-below setup (s.pages).some_page at

  pub pages_behind-cleared : MayStep v clear_end
      → HasPages v words home views id clear_end s.reach (Zeroing (page_mapped (v.mapping).stage) 0)
      s.memory
  pages_behind-cleared may =
      let here_at : at ≡ may.0 = ap page_mapped may.2 in
      let ready : s.stage ≡ Ready at may.1 = own (subst HasTurn (sym may.2) tt) ∙ may.2
      ∙ ap (λ (a : ℕ). Ready a may.1) (sym here_at) in
      let out = may.3 in
      let later : List ℕ = set words (ends_number + buffer) 0 in
      pages_by clear_end s.reach (Zeroing at 0) s.memory met (initialised_word words)
      (written_word words) (end_word later) (word_of_ring setup words) refl
      (word_else words (ends_number + buffer) 0 initialised_number (λ f. omega arith))
      (word_else words (ends_number + buffer) 0 written_number (λ f. omega arith))
      refl (ring_before words setup (ends_number + buffer) 0 (let low = buffer_low in omega arith))
      (page.clears pages s.reach s.stage (initialised_word words) (written_word words)
      (end_word words) (word_of_ring setup words) s.memory (set all_met id met) stays
      (end_word later) at may.1 ready (omega arith)
      (end_put setup words s.wide buffer 0 buffer_low))

  pub pages_behind-zeroed : MayStep v zero_ring_word
      → HasPages v words home views id zero_ring_word s.reach
      (Zeroing (page_mapped (v.mapping).stage) (words_zeroed (v.mapping).stage + 1)) s.memory
  pages_behind-zeroed may =
      let here_at : at ≡ may.0 = ap page_mapped may.2 in
      let count : ℕ = words_zeroed (v.mapping).stage in
      let here_count : count ≡ may.1 = ap words_zeroed may.2 in
      let zeroing : s.stage ≡ Zeroing at count = own (subst HasTurn (sym may.2) tt) ∙ may.2
      ∙ (λ i. Zeroing (sym here_at i) (sym here_count i)) in
      let less = may.3 in
      let more : count < 1024 = omega arith in
      let place : ℕ = buffer * 1024 + count in
      let later : List ℕ = set words (ends_number + pages + place) 0 in
      pages_by zero_ring_word s.reach (Zeroing at (count + 1)) s.memory met (initialised_word words)
      (written_word words) (end_word later) (word_of_ring setup later) refl
      (word_else words (ends_number + pages + place) 0 initialised_number (λ f. omega arith))
      (word_else words (ends_number + pages + place) 0 written_number (λ f. omega arith)) refl refl
      (page.zeroes pages s.reach s.stage (initialised_word words) (written_word words)
      (end_word words) (word_of_ring setup words) s.memory (set all_met id met) stays
      (end_word later) (word_of_ring setup later) (ends_behind words setup place 0) at count zeroing
      more (ring_put setup words s.wide place 0 (place-below setup buffer count buffer_low more)))

  pub pages_behind-published : MayStep v publish_end
      → HasPages v words home views id publish_end (s.reach + 1)
      (Published (page_mapped (v.mapping).stage)) s.memory
  pages_behind-published may =
      let here_at : at ≡ may.0 = ap page_mapped may.1 in
      let zeroed : s.stage ≡ Zeroing at 1024 = own (subst HasTurn (sym may.1) tt) ∙ may.1
      ∙ ap (λ (a : ℕ). Zeroing a 1024) (sym here_at) in
      let later : List ℕ = set words (ends_number + buffer) (at + 8192) in
      pages_by publish_end (s.reach + 1) (Published at) s.memory met (initialised_word words)
      (written_word words) (end_word later) (word_of_ring setup words) refl
      (word_else words (ends_number + buffer) (at + 8192) initialised_number (λ f. omega arith))
      (word_else words (ends_number + buffer) (at + 8192) written_number (λ f. omega arith)) refl
      (ring_before words setup (ends_number + buffer) (at + 8192) (let low = buffer_low in omega arith))
      (page.publishes pages s.reach s.stage (initialised_word words) (written_word words)
      (end_word words) (word_of_ring setup words) s.memory (set all_met id met) stays
      (end_word later) at zeroed (end_put setup words s.wide buffer (at + 8192) buffer_low))

  pub pages_behind-advanced : MayStep v publish_initialised_end
      → HasPages v words home views id publish_initialised_end s.reach Taken s.memory
  pages_behind-advanced may =
      let here_at : at ≡ may.0 = ap page_mapped may.1 in
      let published : s.stage ≡ Published at = own (subst HasTurn (sym may.1) tt) ∙ may.1
      ∙ ap Published (sym here_at) in
      pages_by publish_initialised_end s.reach Taken s.memory (max met (at + 8192)) (at + 8192)
      (written_word words) (end_word words) (word_of_ring setup words) refl
      (single_set words setup s.wide initialised_number (at + 8192) (omega arith))
      (word_else words initialised_number (at + 8192) written_number (λ f. omega arith))
      (ends_before words initialised_number (at + 8192) (omega arith))
      (ring_before words setup initialised_number (at + 8192) (omega arith))
      (page.advances pages s.reach s.stage (initialised_word words) (written_word words)
      (end_word words) (word_of_ring setup words) s.memory all_met s.pages at id met published mine)

  -- ---- stores

  pub pages_behind-stored : MayStep v store_ring_word
      → HasPages v words home views id store_ring_word s.reach s.stage
      (put s.memory (number_of_next setup (v.working).flight) (next_value v (v.working).flight))
  pages_behind-stored may =
      let number : ℕ = number_of_next setup (v.working).flight in
      let value : ℕ = next_value v (v.working).flight in
      let place : ℕ = ring_place setup number in
      let later : List ℕ = set words (ends_number + pages + place) value in
      let memory2 : ℕ → ℕ = put s.memory number value in
      let flies : HasAt (map flight_of views) id (Copying may.0) =
      subst (λ (f : Flight). HasAt (map flight_of views) id f) may.1
      (part_at flight_of views id v here) in
      pages_by store_ring_word s.reach s.stage memory2 met (initialised_word words)
      (written_word words) (end_word later) (word_of_ring setup later) refl
      (word_else words (ends_number + pages + place) value initialised_number (λ f. omega arith))
      (word_else words (ends_number + pages + place) value written_number (λ f. omega arith)) refl refl
      (stores_word setup s.reach s.stage (initialised_word words) (written_word words)
      (end_word words) (word_of_ring setup words) s.memory (set all_met id met) stays may.0
      (map flight_of views) id met (s.writer).written value (end_word later)
      (word_of_ring setup later)
      memory2 (at_place all_met id met met mine) flies may.2 (s.positions).copied
      (s.positions).written_low (ends_behind words setup place value)
      (subst (λ (f : Flight). IsPut (word_of_ring setup words) (ring_place setup
      (number_of_next setup f))
      value (word_of_ring setup later)) may.1
      (ring_put setup words s.wide place value
      (ring_place-below setup (s.pages).some_page number)))
      (subst (λ (f : Flight). IsPut s.memory (number_of_next setup f) value memory2) may.1
      (put_is s.memory number value)))

  pub pages_behind-written : MayStep v store_written
      → HasPages v words home views id store_written s.reach s.stage s.memory
  pages_behind-written may =
      let written2 : ℕ = number_lent v (λ l. (l.writer).written) (v.writing).hold in
      let writer_is = subst (StandsTo _ _ _ _ _ _) may.1
      (((s.locks).writing).each id (writer_of v) (part_at writer_of views id v here)) in
      let is : written2 ≡ (s.writer).written = ap (number_lent v (λ l. (l.writer).written)) may.1
      ∙ ap (λ (p : Plain). p.written) writer_is.3 in
      let low = (s.positions).written_low in
      pages_by store_written s.reach s.stage s.memory met (initialised_word words) written2
      (end_word words) (word_of_ring setup words) refl
      (word_else words written_number written2 initialised_number (λ f. omega arith))
      (single_set words setup s.wide written_number written2 (omega arith))
      (ends_before words written_number written2 (omega arith))
      (ring_before words setup written_number written2 (omega arith))
      (page.rises pages s.reach s.stage (initialised_word words) (written_word words)
      (end_word words) (word_of_ring setup words) s.memory (set all_met id met) stays written2
      (omega arith))
