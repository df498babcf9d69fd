-- What a pass keeps that watches the locks, or sees how far records are reserved.
use Rattle.std.proofs.Common.{◌≡◌, ◌⊎◌, inl, inr, ℕ, ◌-◌, ◌<◌, ◌≤◌, min, refl, sym, ap, subst, ◌∙◌, arith}
use Rattle.byte_position.specs.Geometry.{IsSegmentSize}
use Rattle.byte_position.proofs.EndAddresses.{end_address_of-mono}
use Rattle.machine_state.specs.Moves.{copied_below, is_own, visited_on}
use Rattle.machine_state.specs.Steps.{load_lock}
use Rattle.machine_state.specs.Views.{View, Watching}
use Rattle.machine_state.specs.Words.{end_form}
use Rattle.wal_rule.specs.declared.seated.SeatedPass.{SeatedPass}
use Rattle.wal_rule.specs.SeatedPasses.{StaysSeated, view_of}
use Rattle.wal_rule.specs.Stepping.{Meets}
use Rattle.insert_locks.specs.Watching.{HasFinished, IsHeldBack, watched_to, with_sight, with_watching}
use Rattle.wal_log.specs.Downs.{KnowsNoFault}
use Rattle.wal_log.specs.Flushing.{HasPassedLocks, MeetsHeldLock}
use Rattle.wal_log.specs.PassLogs.{log_of_pass}
use Rattle.wal_log.specs.Standing.{AddsNothing, HasNoTurn, KeepsWork}

-- a view is about what it was about, and its log is as it was, what it has of the turn to write,
-- the flushed address and the down value
pub record LeavesAll (old new : View) : Type 0 where
  pub work : KeepsWork old new
  pub log : log_of_pass new ≡ log_of_pass old
  pub hold : new.writing.hold ≡ old.writing.hold
  pub flushed : new.writing.flushed ≡ old.writing.flushed
  pub down_set : new.writing.down_set ≡ old.writing.down_set
  pub up : KnowsNoFault old → KnowsNoFault new

pub watched_leaves : (seen : ℕ) (watching : Watching) (old new : View)
    → (old.reserving).seen ≤ seen → new ≡ with_watching watching (with_sight seen old)
    → LeavesAll old new
watched_leaves seen watching old new rises is =
    subst (λ (w : View). LeavesAll old w) (sym is) (record {
      work = record {
        pass = record {
          opening = refl;
          live = refl;
          number = refl;
          spare = refl;
          spare_end = refl;
          joined = refl;
          counts = omega arith;
          rises = rises;
          down = λ faults knows. knows;
        };
        place = refl;
        working = refl;
        stage = refl;
        confirmed = omega arith;
        async = refl;
      };
      log = refl;
      hold = refl;
      flushed = refl;
      down_set = refl;
      up = λ up. record { met = up.met; set = up.set };
    })

pub seen_leaves : (seen : ℕ) (old new : View) → (old.reserving).seen ≤ seen
    → new ≡ with_sight seen old → LeavesAll old new
seen_leaves seen old new rises is = watched_leaves seen old.watching old new rises is

module _ (upto : ℕ) (old new : View) where
  pub behind_leaves : (lock word : ℕ) → IsHeldBack upto lock word old new → LeavesAll old new
  behind_leaves lock word held = watched_leaves (new.reserving).seen
      (visited_on (is_own lock old.working) lock word (watched_to held.end lock held.bound)) old
      new held.rises held.new_is

  pub behind_word : (lock word : ℕ) → IsHeldBack upto lock word old new
      → MeetsHeldLock upto lock word new
  behind_word lock word held = record {
    lock_low = held.lock_low;
    watching = held.before.watching;
    limit = held.end;
    met = subst (λ (v : View). Meets v (load_lock lock held.end) word) as_behind held.met;
    holds_back = ((held.holds_back).0, below (held.holds_back).1);
  }
    where
      as_behind : held.before ≡ with_watching held.before.watching new
      as_behind = held.before_is ∙ ap (with_watching held.before.watching) (sym held.new_is)

      below : (word ≡ 1) ⊎ (word - 1 < min upto held.end) → (word ≡ 1) ⊎ (word - 1 < upto)
      below (inl held_so) = inl held_so
      below (inr low) = inr (omega (arith, low))

  module _ (bound : ℕ) (done : HasFinished upto bound old new) where
    pub finished_leaves : LeavesAll old new
    finished_leaves = watched_leaves (new.reserving).seen (watched_to done.end 8 bound) old new
        done.rises done.new_is

    -- below the bound all is known to be copied
    pub copied_is : copied_below new.watching ≡ bound
    copied_is = ap (λ (v : View). copied_below v.watching) done.new_is

    pub passed_locks : upto ≤ bound → HasPassedLocks upto new
    passed_locks far =
        let is = ap (λ (v : View). v.watching) done.new_is in record {
          visited = ap (λ (x : Watching). x.visited) is;
          copied = subst (λ (n : ℕ). upto ≤ n) (sym (ap (λ (x : Watching). x.bound) is)) far;
        }

    -- the watch tells the address asked for, or more, where all below that was seen reserved
    pub reached : IsSegmentSize ((old.opening).setup).seg_size
        → upto ≤ end_form (old.opening).setup (old.reserving).seen → upto ≤ bound
    reached size seen =
        let is = done.end_is in
        let least = done.reaches in
        let higher = end_address_of-mono ((old.opening).setup).seg_size size
        (old.reserving).seen (new.reserving).seen done.rises in
        omega (arith, is, least, seen, higher)

-- ---- at a pass's table

pub record Watches {D : Type 0} (old new : SeatedPass D) : Type 0 where
  pub seats : StaysSeated old new
  pub adds : AddsNothing old new
  pub leaves : LeavesAll (view_of old) (view_of new)

pub watches : {D : Type 0} → (old new : SeatedPass D) → StaysSeated old new
    → LeavesAll (view_of old) (view_of new) → Watches old new
watches old new seats left = record {
  seats = seats;
  adds = record {
    works = record { same_table = seats.same_table; work = left.work };
    log = left.log;
    flushed = left.flushed;
  };
  leaves = left;
}

pub still_no_turn : {D : Type 0} → (old new : SeatedPass D) → Watches old new → HasNoTurn old
    → HasNoTurn new
still_no_turn old new watched rests = record {
  idle = (watched.leaves).hold ∙ rests.idle;
  empty = (watched.seats).same_hand ∙ rests.empty;
}
