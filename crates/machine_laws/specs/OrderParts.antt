-- What the laws start from: the reserved order, and a live view that has a part in it.
use Rattle.std.specs.Prelude.{◌≡◌, ℕ, true, List, set}
use Rattle.byte_position.specs.Geometry.{IsSegmentSize}
use Rattle.wal_page.specs.Order.{Entry}
use Rattle.machine_state.specs.Views.{HasAt, Reserving, View}
use Rattle.machine_state.specs.Ordered.{OrderHolds}

module _ (order : List Entry) (position prev : ℕ) (parts : List Reserving) (id : ℕ) (v : View) where
  pub record TakesPart : Type 0 where
    pub size : IsSegmentSize ((v.opening).setup).seg_size
    pub holds : OrderHolds v.opening order position prev parts
    pub here : HasAt parts id v.reserving
    pub live : (v.reserving).live ≡ true

  -- the order holds still where this view has become another one
  abbrev pub HoldsWith : View → Type 0
  HoldsWith w = OrderHolds v.opening order position prev (set parts id w.reserving)
