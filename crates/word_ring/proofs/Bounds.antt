-- The initialised end and the written address that a mapper loads are far below the last address.
use Rattle.std.proofs.Common.{◌≡◌, ℕ, ◌^◌, ◌<◌, ◌≤◌, sym, ◌∙◌, subst, arith}
use Rattle.std.proofs.Math.Logic.{∥∥₁_elim}
use Rattle.std.specs.Coded.{le_prop, ×_prop}
use Rattle.atomic_table.proofs.Lists.{at_map}
use Rattle.byte_position.specs.Position.{end_address_of}
use Rattle.byte_position.proofs.EndAddresses.{end_address_of-le_address_of}
use Rattle.byte_position.proofs.Rising.{address_of-bound}
use Rattle.machine_state.proofs.Bounds.{limit_low}
use Rattle.machine_state.specs.Words.{Opening, initialised_word, word_of_ring, written_word, order_end}
use Rattle.machine_state.specs.Locked.{HasTurn}
use Rattle.machine_state.specs.Paged.{AtStage}
use Rattle.machine_state.specs.Sound.{IsSound}
use Rattle.machine_state.specs.Views.{Ready, Stage, confirmed_of, mapper_of, View}
use Rattle.wal_rule.specs.Stepping.{Stands}

module _ (v : View) (at written : ℕ) (stands : Stands v)
    (ready : (v.mapping).stage ≡ Ready at written) where
  abbrev opening : Opening
  opening = v.opening

  abbrev sound : IsSound stands.first opening stands.words stands.home stands.views
  sound = stands.sound

  abbrev end : ℕ
  end = end_address_of (opening.setup).seg_size
      (order_end opening sound.order)

  end_low : end < 2 ^ 50
  end_low =
      let size : ℕ = (opening.setup).seg_size in
      let position : ℕ = order_end opening sound.order in
      let within = (sound.reserved).within in
      omega (
        arith,
        within,
        limit_low opening.setup sound.setup_is,
        end_address_of-le_address_of size (sound.setup_is).size position,
        address_of-bound size (sound.setup_is).size position,
      )

  -- the rule's stage is this view's
  stage_is : sound.stage ≡ Ready at written
  stage_is =
      let m : ℕ × Stage = ((v.reserving).number, (v.mapping).stage) in
      let own = ((sound.locks).mapping).each stands.id m
      (at_map mapper_of stands.views stands.id v stands.here)
      (subst HasTurn (sym ready) tt) in
      own.1 ∙ ready

  at_stage : AtStage (opening.setup).ring_pages (sound.pages).low sound.reach
      (initialised_word stands.words) (written_word stands.words)
      (word_of_ring opening.setup stands.words) (Ready at written)
  at_stage = subst (λ (s : Stage). AtStage (opening.setup).ring_pages (sound.pages).low sound.reach
      (initialised_word stands.words) (written_word stands.words)
      (word_of_ring opening.setup stands.words) s) stage_is (sound.pages).mapping

  written_low : written_word stands.words < 2 ^ 50
  written_low =
      let low = end_low in
      let below = (sound.positions).written_low in
      let reserved = (sound.positions).reserved in
      omega (arith, low, below, reserved)

  lows : (at < 2 ^ 60) × (written < 2 ^ 60)
  lows =
      let low = written_low in
      let stage = at_stage in
      let given_up = (sound.pages).given_up in
      let few = (sound.setup_is).ring_high in (
        omega (arith, low, stage.0.0, stage.0.1, stage.1, given_up, few),
        omega (arith, low, stage.2),
      )

  -- and no end of a page that was met is above the initialised one
  met_below : (v.mapping).confirmed ≤ at
  met_below =
      let seen = (sound.pages).seen stands.id (v.mapping).confirmed
      (at_map confirmed_of stands.views stands.id v stands.here) in
      let stage = at_stage in
      omega (arith, seen, stage.0.1, stage.1)

pub ready_met : (v : View) (at written : ℕ) → ∥ Stands v ∥₁ → (v.mapping).stage ≡ Ready at written
    → (v.mapping).confirmed ≤ at
ready_met v at written stands ready = ∥∥₁_elim stands le_prop
    (λ (s : Stands v). met_below v at written s ready)

pub ready_low : (v : View) (at written : ℕ) → ∥ Stands v ∥₁ → (v.mapping).stage ≡ Ready at written
    → (at < 2 ^ 60) × (written < 2 ^ 60)
ready_low v at written stands ready = ∥∥₁_elim stands (×_prop le_prop le_prop)
    (λ (s : Stands v). lows v at written s ready)
