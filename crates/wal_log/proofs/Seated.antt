-- What a step leaves of a seated pass, its view, its hand and its table taken apart; and the setup
-- of its log.
use Rattle.std.proofs.Common.{◌≡◌, ℕ, List, ap, ◌∙◌, subst}
use Rattle.std.proofs.Math.Logic.{∥∥₁_elim}
use Rattle.std.specs.Coded.{Coded-set, coded_bool}
use Rattle.byte_position.specs.Geometry.{IsSegmentSize}
use Rattle.machine_state.specs.Views.{View}
use Rattle.machine_state.specs.Words.{Opening}
use Rattle.machine_state.specs.declared.setup.Setup.{Setup}
use Rattle.wal_rule.specs.declared.seated.SeatedPass.{SeatedPass}
use Rattle.wal_rule.specs.declared.writer.LogWriter.{LogWriter}
use Rattle.wal_rule.specs.SeatedPasses.{HasView, StaysSeated, hand_of, setup_of, view_of}
use Rattle.wal_rule.specs.Stepping.{Stands}
use Rattle.wal_rule.specs.Tables.{opening_of_table}
use Rattle.word_ring.specs.InHand.{IsSame}
use Rattle.word_ring.proofs.HandLaws.{me_same}

module _ {D : Type 0} where
  module _ {v : View} {old new : SeatedPass D} where
    pub view_is : HasView v old new → view_of new ≡ v
    view_is has = ap (λ (m : View × List (ℕ × LogWriter D)). m.0) has.me_is

    pub hand_is : HasView v old new → hand_of new ≡ hand_of old
    hand_is has = ap (λ (m : View × List (ℕ × LogWriter D)). m.1) has.me_is

    pub seat_stays : HasView v old new → StaysSeated old new
    seat_stays has = record { same_table = has.same_table; same_hand = hand_is has }

  -- the writer in hand was read
  pub was_read : {old new : SeatedPass D} → IsSame old new → HasView (view_of old) old new
  was_read {old} {new} same =
      record { same_table = same.same_table; me_is = me_same old new same }

  -- and put together
  pub has_view : {v : View} {old new : SeatedPass D} → new.table ≡ old.table → view_of new ≡ v
      → hand_of new ≡ hand_of old → HasView v old new
  has_view {v} {old} {new} same is hand = record {
    same_table = same;
    me_is = ap (λ (w : View). (w, hand_of new)) is
        ∙ ap (λ (h : List (ℕ × LogWriter D)). (v, h)) hand;
  }

  pub same_setup : (old new : SeatedPass D) → new.table ≡ old.table → setup_of new ≡ setup_of old
  same_setup old new same = ap (λ t. (opening_of_table t.now).setup) same

  pub own_setup : (p : SeatedPass D) → ((view_of p).opening).setup ≡ setup_of p
  own_setup p = ap (λ (o : Opening). o.setup) (p.seated).own

  pub valid_size : (p : SeatedPass D) → IsSegmentSize (setup_of p).seg_size
  valid_size p = subst (λ (s : Setup). IsSegmentSize s.seg_size) (own_setup p)
      (∥∥₁_elim (p.seated).stands (Coded-set coded_bool _ _)
      (λ (s : Stands (view_of p)). ((s.sound).setup_is).size))

  -- ---- over several steps

  pub further_seated : (a b c : SeatedPass D) → StaysSeated a b → StaysSeated b c → StaysSeated a c
  further_seated a b c x y = record {
    same_table = y.same_table ∙ x.same_table;
    same_hand = y.same_hand ∙ x.same_hand;
  }
