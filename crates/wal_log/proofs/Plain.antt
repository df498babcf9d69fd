-- What each step leaves of a seat's view, as a plain update of it.
use Rattle.std.specs.Prelude.{if◌then◌else◌, ◌==◌}
use Rattle.std.proofs.Common.{◌≡◌, ◌≢◌, ℕ, Bool, [], ◌∷◌, ◌++◌, length, max, refl, sym, ap, ◌∙◌, ne_eqb}
use mathlib.Core.Option.{Option, none, some}
use Rattle.byte_position.specs.Position.{position_of}
use Rattle.machine_state.specs.Moves.{after_advance, fault_number, with_hold}
use Rattle.machine_state.specs.Steps.{advance, load_down, load_flushed, load_moment, set_down, store_written, take_write_turn, view_behind}
use Rattle.machine_state.specs.Views.{Turned, Out, Hold, View}
use Rattle.word_ring.specs.InHand.{lent_in, writer_in}
use Rattle.word_ring.proofs.HandLaws.{HasLent, hold_is}
use Rattle.wal_log.specs.Writing.{stored_view}

module _ (met : ℕ) (v : View) where
  pub down_loaded : view_behind v load_down met none
      ≡ record v { writing = record v.writing { down_met = met } }
  down_loaded = refl

  pub flushed_loaded : view_behind v load_flushed met none ≡ record v {
    reserving = record v.reserving {
      seen = max (v.reserving).seen (position_of ((v.opening).setup).seg_size met);
    };
    writing = record v.writing { flushed = met };
  }
  flushed_loaded = refl

  pub moment_loaded : view_behind v load_moment met none ≡ record v {
    writing = record v.writing {
      promises = v.writing.promises ++ (record {
        upto = v.writing.flushed;
        moment = met;
        entries = length (v.reserving).entries;
      }) ∷ [];
    };
  }
  moment_loaded = refl

  pub advanced : (lock upto : ℕ)
      → view_behind v (advance lock upto) met none ≡ after_advance lock upto v
  advanced lock upto = refl

  -- ---- the turn to write

  abbrev turned : Bool → View
  turned free = (if free then with_hold Turned v else v)

  pub turn_had : met ≡ 0 → view_behind v take_write_turn met none ≡ with_hold Turned v
  turn_had free = ap (λ (n : ℕ). turned (n == 0)) free

  pub turn_taken : met ≢ 0 → view_behind v take_write_turn met none ≡ v
  turn_taken other = ap turned (ne_eqb met 0 other)

  -- ---- with the writer in hand

  module _ (has : HasLent v) where
    pub written_stored : view_behind v store_written met none ≡ stored_view v
    written_stored =
        ap (λ (h : Hold). view_behind (with_hold h v) store_written met none) (hold_is v has)

    pub down_set_is : (faults : ℕ) → (writer_in v).fault ≡ some faults
        → view_behind v set_down met none
        ≡ record v { writing = record v.writing { down_set = faults } }
    down_set_is faults failed =
        ap (λ (h : Hold). view_behind (with_hold h v) set_down met none) (hold_is v has)
        ∙ ap (λ (f : Option ℕ). record v {
          writing = record v.writing {
            down_set = fault_number f;
            hold = Out (lent_in v.writing.hold);
          };
        }) failed
        ∙ ap (λ (h : Hold). record v {
          writing = record v.writing { down_set = faults; hold = h };
        }) (sym (hold_is v has))
