-- The words that a step of pages or of the ring is about lie in the table's memory, behind the
-- places of the words before the buffers' ends.
use Rattle.std.proofs.Common.{◌≡◌, ℕ, ◌+◌, ◌*◌, ◌<◌, ◌≤◌, ◌^◌, arith, sym, ap, ◌∙◌, subst}
use Rattle.std.proofs.Math.Logic.{∥∥₁_elim}
use Rattle.std.specs.Coded.{le_prop}
use Rattle.machine_state.specs.declared.setup.Setup.{Setup}
use Rattle.machine_state.specs.Words.{Opening, async_number, ends_number, word_count}
use Rattle.machine_state.specs.Views.{Stage, View}
use Rattle.machine_state.specs.Steps.{buffer_of, end_number, page_mapped, ring_number, ring_place, words_zeroed, zero_ring_word, MayStep}
use Rattle.machine_laws.proofs.PutWords.{buffer-below, place-below, ring_place-below}
use Rattle.wal_rule.specs.Stepping.{Stands}
use Rattle.wal_rule.specs.WordPlaces.{places_between}

-- a word behind those that come before the buffers' ends, in a table with so many places
pub record LiesBehind (n word : ℕ) : Type 0 where
  pub behind : ends_number ≤ word
  pub low : word < 2 ^ 32
  pub there : word + places_between < n

-- its place, by what was computed
pub there_by : (n word place : ℕ) → LiesBehind n word → place ≡ word + places_between → place < n
there_by n word place lies is =
    let there = lies.there in
    omega (arith, there, is)

module _ (n word : ℕ) (v : View) (opening : Opening)
    (wide : n ≡ word_count opening.setup + places_between) (own : v.opening ≡ opening)
    (stands : ∥ Stands v ∥₁) where
  abbrev setup : Setup
  setup = (v.opening).setup

  wide_own : n ≡ word_count setup + places_between
  wide_own = subst (λ (o : Opening). n ≡ word_count o.setup + places_between) (sym own) wide

  some : 0 < setup.ring_pages
  some = ∥∥₁_elim stands le_prop (λ (s : Stands v). omega (arith, ((s.sound).setup_is).ring_low))

  few : setup.ring_pages ≤ 64
  few = ∥∥₁_elim stands le_prop (λ (s : Stands v). ((s.sound).setup_is).ring_high)

  lies : ends_number ≤ word → word < word_count setup → LiesBehind n word
  lies behind within = record {
    behind = behind;
    low = omega (arith, within, few);
    there = omega (arith, within, wide_own);
  }

  pub end_there : (at : ℕ) → word ≡ end_number setup (buffer_of setup at) → LiesBehind n word
  end_there at are =
      let below = buffer-below setup some at in
      lies (omega (arith, are)) (omega (arith, below, are))

  pub place_there : (k : ℕ) → word ≡ ring_number setup (ring_place setup k) → LiesBehind n word
  place_there k are =
      let below = ring_place-below setup some k in
      lies (omega (arith, are)) (omega (arith, below, are))

  pub zero_there : MayStep v zero_ring_word
      → word ≡ ring_number setup (buffer_of setup (page_mapped (v.mapping).stage) * 1024
      + words_zeroed (v.mapping).stage) → LiesBehind n word
  zero_there may are =
      let zeroed : words_zeroed (v.mapping).stage < 1024 =
      subst (λ (s : Stage). words_zeroed s < 1024) (sym may.2) may.3 in
      let below = place-below setup (buffer_of setup (page_mapped (v.mapping).stage))
      (words_zeroed (v.mapping).stage)
      (buffer-below setup some (page_mapped (v.mapping).stage)) zeroed in
      lies (omega (arith, are)) (omega (arith, below, are))

  pub async_there : word ≡ async_number opening.setup → LiesBehind n word
  async_there are =
      let is : word ≡ async_number setup =
      are ∙ ap (λ (o : Opening). async_number o.setup) (sym own) in
      lies (omega (arith, is)) (omega (arith, is))
