-- With the position locked, a place is reserved: what each step may rest on, and what is left.
use Rattle.std.proofs.Common.{◌≡◌, ℕ, ◌+◌, ◌≤◌, List, refl, sym, ap, ◌∙◌, subst}
use mathlib.Core.Option.{none}
use Rattle.wal_types.specs.declared.record.Record.{Record}
use Rattle.wal_spelling.specs.Spelling.{Assembled, assembled}
use Rattle.wal_page.specs.Order.{assembled_room_at}
use Rattle.machine_state.specs.declared.setup.Setup.{Setup}
use Rattle.machine_state.specs.Words.{log_limit}
use Rattle.machine_state.specs.Views.{AreSomeOf, Landed, Loaded, Locked, Stored, View}
use Rattle.machine_state.specs.Moves.{entry_reserved}
use Rattle.machine_state.specs.Steps.{MayStandUnder, StepKind, load_prev, store_position, store_prev, view_behind, MayStep}
use Rattle.reserve_lock.specs.Reserved.{IsEntryReserved, reserved_view}
use Rattle.reserve_lock.proofs.Steps.{behind_load_prev, behind_store_position, behind_store_prev, place_view}

module _ (v : View) (at : ℕ) (setup : Setup) (own : (v.opening).setup ≡ setup)
    (place : (v.reserving).place ≡ Locked at) where
  module _ (prev : ℕ) (x : View) (load : x ≡ view_behind v load_prev prev none) where
    loaded : x ≡ place_view (Loaded at prev) v
    loaded = load ∙ behind_load_prev at v place prev

    pub may_store_prev : MayStep x store_prev
    may_store_prev = (at, prev, ap (λ (y : View). (y.reserving).place) loaded)

    module _ (y : View) (store : y ≡ view_behind x store_prev 0 none) (locks : List ℕ) (body : Assembled)
        (value : Record) (under : MayStandUnder locks value) (same : assembled value ≡ body)
        (e : StepKind) (is : e ≡ store_position locks value) where
      stored : y ≡ place_view (Stored at prev) v
      stored = store ∙ ap (λ (z : View). view_behind z store_prev 0 none) loaded
          ∙ behind_store_prev at prev locks v

      fits_own : at + assembled_room_at setup.seg_size at body ≤ log_limit setup
          → at + assembled_room_at ((v.opening).setup).seg_size at (assembled value)
          ≤ log_limit (v.opening).setup
      fits_own fits = subst
          (λ (s : Setup). at + assembled_room_at s.seg_size at (assembled value)
          ≤ log_limit s) (sym own)
          (subst (λ (a : Assembled). at + assembled_room_at setup.seg_size at a
          ≤ log_limit setup) (sym same) fits)

      pub may_reserve : AreSomeOf locks (v.working).locks → (v.working).flight ≡ Landed
          → at + assembled_room_at setup.seg_size at body ≤ log_limit setup → MayStep y e
      may_reserve some landed fits = subst (λ (k : StepKind). MayStep y k) (sym is)
          (subst (λ (z : View). MayStep z (store_position locks value)) (sym stored) (
            at,
            prev,
            refl,
            under,
            fits_own fits,
            some,
            landed,
          ))

      pub has_entry : (z : View) → z ≡ view_behind y e 0 none
          → IsEntryReserved setup body at prev locks v z
      has_entry z reserved = record {
        value = value;
        logged = under.logged;
        of_body = same;
        new_is = reserved ∙ ap (λ (k : StepKind). view_behind y k 0 none) is
            ∙ ap (λ (w : View). view_behind w (store_position locks value) 0 none) stored
            ∙ behind_store_position at prev locks v value
            ∙ ap (λ (s : Setup). reserved_view s.seg_size
            (entry_reserved (v.reserving).number at value) prev locks v) own;
      }
