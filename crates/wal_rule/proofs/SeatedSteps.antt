-- Behind a step a seat is still a live one of its table, under its number.
use Rattle.std.proofs.Common.{◌≡◌, ℕ, sym, ap, ◌∙◌}
use Rattle.atomic_table.specs.Seated.{TableId}
use Rattle.atomic_table.specs.declared.shared.Seat.{Seat}
use Rattle.machine_state.specs.Words.{Opening}
use Rattle.machine_state.specs.Views.{View}
use Rattle.wal_rule.specs.Stepping.{IsSeatOf, Stands}

module _ {S : Type 0} (table : TableId) (opening : Opening) (number : ℕ)
    (old new : Seat S View) (was : IsSeatOf table opening old)
    (numbered : number ≡ (((old.me).0).reserving).number)
    (same : new.table_id ≡ old.table_id) (v : View) (is : (new.me).0 ≡ v)
    (steady : (v.opening ≡ ((old.me).0).opening)
    × ((v.reserving).live ≡ (((old.me).0).reserving).live)
    × ((v.reserving).number ≡ (((old.me).0).reserving).number))
    (stands : Stands (new.me).0) where
  pub seated_behind : IsSeatOf table opening new
  seated_behind = record {
    of_table = same ∙ was.of_table;
    own = ap (λ (w : View). w.opening) is ∙ steady.0 ∙ was.own;
    live = ap (λ (w : View). (w.reserving).live) is ∙ steady.1 ∙ was.live;
    stands = ∣ stands ∣₁;
  }

  pub numbered_behind : number ≡ (((new.me).0).reserving).number
  numbered_behind =
      numbered ∙ sym (ap (λ (w : View). (w.reserving).number) is ∙ steady.2)
