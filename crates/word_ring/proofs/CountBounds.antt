-- What is known to be copied and what is written are far below the last address, what is known is a
-- multiple of 8, and the next segment to be written is at most the one behind the last that is made.
use Rattle.std.specs.Coded.{Coded-set, coded_ℕ, le_prop}
use Rattle.std.proofs.Common.{◌≡◌, ℕ, ◌+◌, ◌*◌, ◌%◌, ◌^◌, ◌<◌, ◌≤◌, sym, ap, subst, arith}
use Rattle.std.proofs.Math.Logic.{∥∥₁_elim}
use Rattle.atomic_table.proofs.Lists.{at_map}
use Rattle.byte_position.specs.Position.{end_address_of}
use Rattle.byte_position.proofs.EndAddresses.{end_address_of-le_address_of}
use Rattle.byte_position.proofs.Rising.{address_of-bound}
use Rattle.machine_state.proofs.Bounds.{limit_low}
use Rattle.machine_state.specs.Words.{Opening, write_turn, order_end}
use Rattle.machine_state.specs.Aligned.{IsKnownAligned}
use Rattle.machine_state.specs.Locked.{StandsTo}
use Rattle.machine_state.specs.Sound.{IsSound}
use Rattle.machine_state.specs.Views.{Hold, Plain, View, writer_of, writing_of}
use Rattle.wal_rule.specs.Stepping.{Stands}
use Rattle.word_ring.specs.InHand.{lent_in, writer_in}
use Rattle.word_ring.proofs.HandLaws.{HasLent, hold_is}

pub record IsInBounds (v : View) : Type 0 where
  pub known : (lent_in (v.writing).hold).known < 2 ^ 50
  pub whole : (lent_in (v.writing).hold).known % 8 ≡ 0
  pub written : (writer_in v).written < 2 ^ 50
  pub reached : (writer_in v).written
      ≤ (writer_in v).made * ((v.opening).setup).seg_size + ((v.opening).setup).seg_size

module _ (v : View) (stands : Stands v) (has : HasLent v) where
  abbrev opening : Opening
  opening = v.opening

  abbrev sound : IsSound stands.first opening stands.words stands.home stands.views
  sound = stands.sound

  abbrev end : ℕ
  end = end_address_of (opening.setup).seg_size
      (order_end opening sound.order)

  end_low : end < 2 ^ 50
  end_low =
      let size : ℕ = (opening.setup).seg_size in
      let position : ℕ = order_end opening sound.order in
      let within = (sound.reserved).within in
      omega (
        arith,
        within,
        limit_low opening.setup sound.setup_is,
        end_address_of-le_address_of size (sound.setup_is).size position,
        address_of-bound size (sound.setup_is).size position,
      )

  -- the writer in hand is the rule's
  pub own_writer : writer_in v ≡ (stands.sound).writer
  own_writer =
      let w : ℕ × Hold = ((v.reserving).number, (v.writing).hold) in
      let own = ((sound.locks).writing).each stands.id w
      (at_map writer_of stands.views stands.id v stands.here) in
      (subst (λ (h : Hold). StandsTo (write_turn stands.words) ((sound.locks).writing).holder
      stands.home sound.writer stands.id (v.reserving).number h) (hold_is v has) own).3

  known_low : (lent_in (v.writing).hold).known ≤ end
  known_low = ((((sound.positions).views stands.id _
      (at_map writing_of stands.views stands.id v stands.here)).known
      (lent_in (v.writing).hold) (hold_is v has))).0

  bounds : IsInBounds v
  bounds =
      let low = end_low in
      let known = known_low in
      let reserved = (sound.positions).reserved in
      let written : (writer_in v).written ≡ (sound.writer).written =
      ap (λ (p : Plain). p.written) own_writer in
      let made : (writer_in v).made ≡ (sound.writer).made =
      ap (λ (p : Plain). p.made) own_writer in
      let reached = (sound.durable).reached in
      record {
        known = omega (arith, low, known);
        whole = subst IsKnownAligned (hold_is v has)
            ((sound.aligned).views stands.id v stands.here).known;
        written = omega (arith, low, reserved, written);
        reached = subst (λ (n : ℕ). (writer_in v).written ≤ n * (opening.setup).seg_size
            + (opening.setup).seg_size) (sym made)
            (subst (λ (n : ℕ). n ≤ (sound.writer).made * (opening.setup).seg_size
            + (opening.setup).seg_size) (sym written) reached);
      }

pub in_bounds : (v : View) → ∥ Stands v ∥₁ → HasLent v → IsInBounds v
in_bounds v stands has = record {
  known = ∥∥₁_elim stands le_prop (λ (s : Stands v). (bounds v s has).known);
  whole = ∥∥₁_elim stands (Coded-set coded_ℕ ((lent_in (v.writing).hold).known % 8) 0)
      (λ (s : Stands v). (bounds v s has).whole);
  written = ∥∥₁_elim stands le_prop (λ (s : Stands v). (bounds v s has).written);
  reached = ∥∥₁_elim stands le_prop (λ (s : Stands v). (bounds v s has).reached);
}
