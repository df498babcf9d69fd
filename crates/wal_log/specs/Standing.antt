-- What stays of a pass in a call, and what it is about in the midst of one.
use Rattle.std.specs.Prelude.{◌≡◌, ℕ, ◌≤◌, List, [], length}
use mathlib.Core.Option.{Option, none, some}
use Rattle.wal_page.specs.Order.{Entry}
use Rattle.wal_page.specs.Placed.{PlacedState}
use Rattle.machine_state.specs.declared.setup.Setup.{Setup}
use Rattle.machine_state.specs.Views.{Away, Copy, Copying, Flight, Free, Landed, Idle, View}
use Rattle.word_ring.specs.Copied.{rest_of}
use Rattle.insert_locks.specs.Holding.{AreLocks}
use Rattle.wal_rule.specs.declared.seated.SeatedPass.{SeatedPass}
use Rattle.wal_rule.specs.Downs.{KnowsDown}
use Rattle.insert_locks.specs.Watching.{with_sight}
use Rattle.wal_rule.specs.SeatedPasses.{HasView, StandsAtRest, StaysSeated, hand_of, setup_of, view_of}
use Rattle.wal_log.specs.PassLogs.{log_of_pass}

-- ---- what stays of its view

-- a pass keeps its number and its spare ones, the passes that it took in, and what it knows of a
-- failed disk; it has seen no less of the order than before, and counts no less of it as answered
pub record KeepsPass (old new : View) : Type 0 where
  pub opening : new.opening ≡ old.opening
  pub live : (new.reserving).live ≡ (old.reserving).live
  pub number : (new.reserving).number ≡ (old.reserving).number
  pub spare : (new.reserving).spare ≡ (old.reserving).spare
  pub spare_end : (new.reserving).spare_end ≡ (old.reserving).spare_end
  pub joined : (new.reserving).joined ≡ (old.reserving).joined
  pub rises : (old.reserving).seen ≤ (new.reserving).seen
  pub counts : old.async_met ≤ new.async_met
  pub down : (faults : ℕ) → KnowsDown faults old → KnowsDown faults new

-- and it is about what it was about: a place, locks and an entry, and a page that it maps; and it
-- has met no other async address
pub record KeepsWork (old new : View) : Type 0 where
  pub pass : KeepsPass old new
  pub place : (new.reserving).place ≡ (old.reserving).place
  pub working : new.working ≡ old.working
  pub stage : (new.mapping).stage ≡ (old.mapping).stage
  pub confirmed : (old.mapping).confirmed ≤ (new.mapping).confirmed
  pub async : new.async_met ≡ old.async_met

-- ---- what it is about, by its view

-- the entry that it has in flight
abbrev pub entry_of_flight : Flight → Option Entry
entry_of_flight Landed = none
entry_of_flight (Copying c) = some c.entry

abbrev pub entry_in_flight : View → Option Entry
entry_in_flight v = entry_of_flight (v.working).flight

-- it has these insertion locks, and is about nothing else
pub record HasLocks (locks : List ℕ) (v : View) : Type 0 where
  pub working : v.working ≡ record { locks = locks; flight = Landed }
  pub place : (v.reserving).place ≡ Free
  pub stage : (v.mapping).stage ≡ Away
  pub hold : v.writing.hold ≡ Idle

-- it copies an entry under these insertion locks, which are all that it has. This record at its
-- place gives the words that are left of the entry; and it is about nothing else
pub record CopiesUnder (setup : Setup) (locks : List ℕ) (placed : PlacedState) (v : View)
    : Type 0 where
  pub copy : Copy
  pub working : v.working ≡ record { locks = locks; flight = Copying copy }
  pub under : copy.locks ≡ locks
  pub rest : placed ≡ rest_of setup copy
  pub place : (v.reserving).place ≡ Free
  pub stage : (v.mapping).stage ≡ Away
  pub hold : v.writing.hold ≡ Idle

-- ---- what it is about at its table

-- it holds just these insertion locks, at least one, and has nothing in hand
pub record HoldsLocks {D : Type 0} (locks : List ℕ) (p : SeatedPass D) : Type 0 where
  pub some : 1 ≤ length locks
  pub are : AreLocks locks
  pub has : HasLocks locks (view_of p)
  pub empty : hand_of p ≡ []

-- it copies an entry under just these insertion locks, at least one, of which entry this record at
-- its place gives the words that are left, and has nothing in hand
pub record CopiesAlone {D : Type 0} (locks : List ℕ) (placed : PlacedState) (p : SeatedPass D)
    : Type 0 where
  pub some : 1 ≤ length locks
  pub are : AreLocks locks
  pub under : CopiesUnder (setup_of p) locks placed (view_of p)
  pub empty : hand_of p ≡ []

-- it has neither the turn to write nor the writer
pub record HasNoTurn {D : Type 0} (p : SeatedPass D) : Type 0 where
  pub idle : (view_of p).writing.hold ≡ Idle
  pub empty : hand_of p ≡ []

-- ---- what stays of it at its table

-- it goes on with what it had in hand, keeps what a pass keeps, and has met no other async address
pub record GoesOnSeated {D : Type 0} (old new : SeatedPass D) : Type 0 where
  pub stays : StaysSeated old new
  pub keeps : KeepsPass (view_of old) (view_of new)
  pub async : (view_of new).async_met ≡ (view_of old).async_met

-- it keeps what a pass keeps, and stands at rest
pub record ComesToRest {D : Type 0} (old new : SeatedPass D) : Type 0 where
  pub same_table : new.table ≡ old.table
  pub keeps : KeepsPass (view_of old) (view_of new)
  pub rests : StandsAtRest new

-- it keeps its work, whatever it has in hand
pub record WorksOn {D : Type 0} (old new : SeatedPass D) : Type 0 where
  pub same_table : new.table ≡ old.table
  pub work : KeepsWork (view_of old) (view_of new)

-- it keeps its work, and what it has of the turn to write, with the writer
pub record StaysAtWork {D : Type 0} (old new : SeatedPass D) : Type 0 where
  pub stays : StaysSeated old new
  pub work : KeepsWork (view_of old) (view_of new)
  pub hold : (view_of new).writing.hold ≡ (view_of old).writing.hold

-- it keeps its work and its log, and the flushed address that it loaded last
pub record AddsNothing {D : Type 0} (old new : SeatedPass D) : Type 0 where
  pub works : WorksOn old new
  pub log : log_of_pass (view_of new) ≡ log_of_pass (view_of old)
  pub flushed : (view_of new).writing.flushed ≡ (view_of old).writing.flushed

-- it has seen no less of the order reserved, and is else as it was
pub record SeesMore {D : Type 0} (old new : SeatedPass D) : Type 0 where
  pub seen : ℕ
  pub rises : ((view_of old).reserving).seen ≤ seen
  pub view : HasView (with_sight seen (view_of old)) old new
