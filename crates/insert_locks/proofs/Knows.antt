-- A watch that has visited all locks.
use Rattle.std.proofs.Common.{◌≡◌, ℕ, ◌≤◌, Bool, cond, map, ap, subst, eq-eqb}
use Rattle.machine_state.specs.declared.setup.Setup.{Setup}
use Rattle.machine_state.specs.Words.{end_form, lock_word, order_end}
use Rattle.machine_state.specs.Views.{flight_of, View}
use Rattle.machine_state.specs.Positioned.{IsCopiedBelow}
use Rattle.machine_laws.proofs.WatchLaws.{known_is_copied}
use Rattle.wal_rule.specs.Stepping.{Stands}

module _ (v : View) (s : Stands v) (all : (v.watching).visited ≡ 8) where
  abbrev setup : Setup
  setup = (v.opening).setup

  abbrev reserved_end : ℕ
  reserved_end = end_form setup (order_end v.opening (s.sound).order)

  pub bound_known : ((v.watching).bound ≤ reserved_end)
      × IsCopiedBelow setup.seg_size (map flight_of s.views) (v.watching).bound
  bound_known = subst
      (λ (n : ℕ). (n ≤ reserved_end)
      × IsCopiedBelow setup.seg_size (map flight_of s.views) n)
      (ap (λ (b : Bool). cond b (v.watching).bound 0) (eq-eqb (v.watching).visited 8 all))
      (known_is_copied setup.seg_size reserved_end (lock_word s.words) s.views
      ((s.sound).locks).locks (s.sound).watching s.id v s.here)
