-- What the machine's invariant says of a view that has the position locked.
use Rattle.std.proofs.Common.{◌≡◌, ℕ, ◌%◌, ◌≤◌, true, List, map, sym, subst, arith}
use Rattle.std.proofs.Math.Logic.{∥∥₁_elim}
use Rattle.std.specs.Coded.{Coded-set, coded_ℕ, le_prop}
use Rattle.atomic_table.proofs.Lists.{at_map}
use Rattle.wal_page.specs.Order.{Entry}
use Rattle.wal_page.proofs.PlaceLaws.{end-whole_from}
use Rattle.machine_state.specs.Words.{log_limit, prev_word, order_end, last_start}
use Rattle.machine_state.specs.Views.{HasAt, Locked, Place, reserving_of, View}
use Rattle.machine_state.specs.Ordered.{AtPlace}
use Rattle.wal_rule.specs.Stepping.{Stands}

module _ (v : View) (at : ℕ) (live : (v.reserving).live ≡ true)
    (place : (v.reserving).place ≡ Locked at) where
  abbrev size : ℕ
  size = ((v.opening).setup).seg_size

  module _ (stands : Stands v) where
    abbrev order : List Entry
    order = (stands.sound).order

    here : HasAt (map reserving_of stands.views) stands.id v.reserving
    here = at_map reserving_of stands.views stands.id v stands.here

    is_end : at ≡ order_end v.opening order
    is_end =
        let o = (stands.sound).reserved in
        (subst (λ (p : Place). AtPlace size (order_end v.opening order) (last_start v.opening order)
        (prev_word stands.words) o.locked o.holder stands.id p) place
        (o.places stands.id v.reserving here live)).2

    behind_seen : (v.reserving).seen ≤ at
    behind_seen = subst (λ (n : ℕ). (v.reserving).seen ≤ n) (sym is_end)
        (((stands.sound).reserved).views stands.id v.reserving here live).seen

    within : at ≤ log_limit (v.opening).setup
    within = subst (λ (n : ℕ). n ≤ log_limit (v.opening).setup) (sym is_end)
        ((stands.sound).reserved).within

    whole : at % 8 ≡ 0
    whole =
        let valid = ((stands.sound).setup_is).size in
        let end = end-whole_from size valid ((v.opening).place).position order
        ((stands.sound).reserved).chained (((stands.sound).reserved).placed).whole in
        omega (arith, end, is_end)

  module _ (stands : ∥ Stands v ∥₁) where
    pub locked_behind_seen : (v.reserving).seen ≤ at
    locked_behind_seen = ∥∥₁_elim stands le_prop behind_seen

    pub locked_within : at ≤ log_limit (v.opening).setup
    locked_within = ∥∥₁_elim stands le_prop within

    pub locked_whole : at % 8 ≡ 0
    locked_whole = ∥∥₁_elim stands (Coded-set coded_ℕ _ _) whole
