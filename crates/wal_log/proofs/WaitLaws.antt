-- What a call that waits has looked at: carried over other steps, and what a copy asks to write.
use Rattle.std.specs.Prelude.{Result, Ok, Err}
use Rattle.std.proofs.Common.{◌≡◌, ◌⊎◌, ℕ, ◌+◌, ◌*◌, ◌/◌, ◌≤◌, List, MatchResult, inl, inr, subst, ◌∙◌, arith}
use Rattle.std.proofs.Math.Logic.{∥∥₁_elim}
use Rattle.std.specs.Coded.{le_prop}
use mathlib.Core.Option.{none}
use Rattle.wal_page.specs.Placed.{PlacedState}
use Rattle.machine_state.specs.declared.setup.Setup.{Setup}
use Rattle.machine_state.specs.Steps.{load_down, view_behind}
use Rattle.machine_state.specs.Views.{View}
use Rattle.wal_rule.specs.declared.seated.SeatedPass.{SeatedPass}
use Rattle.wal_rule.specs.Downs.{KnowsDown}
use Rattle.wal_rule.specs.SeatedPasses.{setup_of, view_of}
use Rattle.wal_rule.specs.Stepping.{Meets, Stands}
use Rattle.wal_log.specs.declared.copying.Absent.{Absent}
use Rattle.wal_log.specs.declared.fault.Fault.{Fault}
use Rattle.wal_log.specs.declared.fault.Fault.TheVariants.{Disk, Down}
use Rattle.wal_log.specs.Copying.{CopyGoesOn, MeetsMapper, WaitsForOldPage, TellsAbsent}
use Rattle.wal_log.specs.Downs.{FindsDown, KnowsNoFault, MeetsFault}
use Rattle.wal_log.specs.PassLogs.{log_of_pass}
use Rattle.wal_log.specs.Standing.{CopiesAlone, KeepsPass, StaysAtWork}
use Rattle.wal_log.specs.Waiting.{AsksForRoom, FindsUp}
use Rattle.wal_log.proofs.CopyLaws.{alone_still, copied_on, stood_still}
use Rattle.wal_log.proofs.Keeping.{down_met_keeps, further_pass, meets_since, same_pass}
use Rattle.wal_log.proofs.Seated.{own_setup}

-- ---- a look at the down value

-- it was loaded, and was 0
pub up_loaded : (old new : View) (met : ℕ) → new ≡ view_behind old load_down met none
    → ((faults : ℕ) → KnowsDown faults old → met ≡ faults) → Meets old load_down met → met ≡ 0
    → FindsUp old new
up_loaded old new met is known meets zero = record {
  view = old;
  since = same_pass old;
  until = (down_met_keeps old met new is known).pass;
  met = subst (λ (n : ℕ). Meets old load_down n) zero meets;
}

-- behind other steps, and before other ones
pub up_behind : (old mid new : View) → KeepsPass old mid → FindsUp mid new → FindsUp old new
up_behind old mid new keeps found = record {
  view = found.view;
  since = further_pass old mid found.view keeps found.since;
  until = found.until;
  met = found.met;
}

pub up_till : (old new newer : View) → KeepsPass new newer → FindsUp old new → FindsUp old newer
up_till old new newer keeps found = record {
  view = found.view;
  since = found.since;
  until = further_pass found.view new newer found.until keeps;
  met = found.met;
}

-- what a wait behind other steps tells, which set no down value
pub waited : {A B C : Type 0} → (old mid new : View)
    → mid.writing.down_set ≡ old.writing.down_set → (B → C) → (r : Result A Fault)
    → MatchResult r (λ _. KnowsNoFault new × B) (λ e. FindsDown mid new e)
    → MatchResult r (λ _. KnowsNoFault new × C) (λ e. MeetsFault old new e)
waited old mid new same on (Ok done) ends = (ends.0, on ends.1)
waited old mid new same on (Err (Down n)) ends = meets_since old mid new n same ends
waited old mid new same on (Err (Disk n)) ends = absurd ends

-- a copy stays under its locks where the pass stays at its work
module _ {D : Type 0} (old mid new : SeatedPass D) (p : PlacedState) where
  pub paused_on : CopyGoesOn p p old mid → StaysAtWork mid new
      → log_of_pass (view_of new) ≡ log_of_pass (view_of mid) → CopyGoesOn p p old new
  paused_on goes stays same = copied_on p p p old mid new goes (stood_still p mid new (record {
    stays = stays.stays;
    keeps = (stays.work).pass;
    async = (stays.work).async;
  }) same (stays.work).working)

pub paused_alone : {D : Type 0} → (mid new : SeatedPass D) (locks : List ℕ) (p : PlacedState)
    → CopiesAlone locks p mid → StaysAtWork mid new → CopiesAlone locks p new
paused_alone mid new locks p copies stays =
    alone_still mid new (stays.stays).same_table stays.work (record {
      idle = stays.hold ∙ (copies.under).hold;
      empty = (stays.stays).same_hand ∙ copies.empty;
    }) locks p copies

-- ---- what a copy asks to write

-- a ring has some pages
ring_least : {D : Type 0} → (p : SeatedPass D) → 4 ≤ (setup_of p).ring_pages
ring_least p = subst (λ (s : Setup). 4 ≤ s.ring_pages) (own_setup p)
    (∥∥₁_elim (p.seated).stands le_prop
    (λ (s : Stands (view_of p)). ((s.sound).setup_is).ring_low))

old_page : (setup : Setup) (page turn written : ℕ) (v : View) → turn ≡ 0
    → (MeetsMapper turn v × (written ≡ 0)) ⊎ ((turn ≡ 0) × WaitsForOldPage setup page written v)
    → WaitsForOldPage setup page written v
old_page setup page turn written v zero (inl mapper) = absurd ((mapper.0).taken zero)
old_page setup page turn written v zero (inr old) = old.1

-- up to the end of the page on which the written address lies
pub asks_for_room : {D : Type 0} → (p : SeatedPass D) (placed : PlacedState) (absent : Absent)
    (met : View) → TellsAbsent (setup_of p) (placed.next / 8192) met absent → absent.turn ≡ 0
    → (upto : ℕ) → upto ≡ (absent.written / 8192 + 1) * 8192 → AsksForRoom absent placed upto
asks_for_room p placed absent met tells zero upto is =
    let old = old_page (setup_of p) (placed.next / 8192) absent.turn absent.written met zero
    tells.why in
    let below = old.below in
    let unwritten = old.old in
    let ring = ring_least p in record {
      replaced = omega (arith, is);
      told = omega (arith, is, below, unwritten, ring);
    }
