-- Behind a step of an insert no page is loaded.
use Rattle.std.proofs.Common.{ℕ, ◌+◌, ◌-◌, ◌*◌, ◌%◌, Bool, true, false, cond, eqb, List, Option, Some, None}
use Rattle.std.proofs.Math.Dec.{ltb, leb}
use Rattle.machine_state.specs.declared.setup.Setup.{Setup}
use Rattle.machine_state.specs.Words.{lock_word, log_limit, written_word}
use Rattle.machine_state.specs.Views.{View}
use Rattle.machine_turns.specs.declared.doing.PlainDoing.{PlainDoing}
use Rattle.machine_turns.specs.declared.doing.PlainDoing.TheVariants as doings
use Rattle.machine_turns.specs.declared.script.PlainLine.{PlainLine}
use Rattle.machine_turns.specs.declared.view.PlainView.{PlainView}
use Rattle.machine_turns.specs.declared.view.PlainPlace.{PlainPlace}
use Rattle.machine_turns.specs.declared.view.PlainPlace.TheVariants as places
use Rattle.machine_turns.specs.declared.view.PlainStage.{PlainStage}
use Rattle.machine_turns.specs.declared.view.PlainStage.TheVariants as stages
use Rattle.machine_turns.specs.Left.{Left, at_place, at_stage, next_in, page_end_in}
use Rattle.machine_turns.specs.Inserting.{has_no_word_left, lock_to_try, with_one_more}
use Rattle.machine_turns.specs.Lanes.{is_commit, stepped}
use Rattle.machine_turns.specs.Scripts.{room_of_line}
use Rattle.machine_turns.specs.Writer.{WriterState}
use Rattle.wal_core.specs.Playing.{HoldsPageFor}
use Rattle.wal_core.proofs.Keeping.{NextHas}

-- at this place no page is loaded
abbrev pub IsPageless : PlainDoing → Type 0
IsPageless d = (page : List ℕ) (u : View) → HoldsPageFor page u d

abbrev pub LeavesNone : Left → Type 0
LeavesNone left = NextHas IsPageless (left.made).next

either_left : (b : Bool) (x y : Left) → LeavesNone x → LeavesNone y → LeavesNone (cond b x y)
either_left true x y p q = p
either_left false x y p q = q

either_doing : (b : Bool) (d e : PlainDoing) → IsPageless d → IsPageless e
    → IsPageless (cond b d e)
either_doing true d e p q = p
either_doing false d e p q = q

module _ (setup : Setup) (words : List ℕ) (w : WriterState) (line : PlainLine) (copied : Option PlainLine)
  where
    abbrev left_by : PlainView → PlainDoing → Left
    left_by view d = (stepped setup words w view line copied d).left

    abbrev Pageless : PlainView → PlainDoing → Type 0
    Pageless view d = LeavesNone (left_by view d)

    pub begins_none : (view : PlainView) → Pageless view doings.Begins
    begins_none view page u = tt

    pub tries_none : (view : PlainView) (taken : ℕ) → Pageless view (doings.Tries taken)
    tries_none view taken = either_left
        (eqb (lock_word words (lock_to_try setup words view taken)) 0) _ _ (λ page u. tt)
        (either_doing (eqb (taken + 1) 8) doings.Begins (doings.Tries (taken + 1)) (λ page u. tt)
        (λ page u. tt))

    reserves_at : (view : PlainView) (lock : ℕ) (p : PlainPlace)
        → Pageless (at_place p view) (doings.Reserves lock)
    reserves_at view lock places.Free = λ page u. tt
    reserves_at view lock (places.Locked at) = either_left
        (leb (at + room_of_line line) (log_limit setup)) _ _ (λ page u. tt) (λ page u. tt)
    reserves_at view lock (places.Loaded at prev) = λ page u. tt
    reserves_at view lock (places.Stored at prev) = λ page u. tt

    pub reserves_none : (view : PlainView) (lock : ℕ) → Pageless view (doings.Reserves lock)
    reserves_none view lock = reserves_at view lock view.place

    pub looks_none : (view : PlainView) (lock : ℕ) → Pageless view (doings.Looks lock)
    looks_none view lock = either_doing _ (doings.Copies lock) (doings.Maps lock) (λ page u. tt)
        (λ page u. tt)

    pub copies_none : (view : PlainView) (lock : ℕ) → Pageless view (doings.Copies lock)
    copies_none view lock =
        let flight = with_one_more view.flight in
        either_doing (has_no_word_left flight) (doings.Releases lock false)
        (cond (eqb (next_in flight % 8192) 0) (doings.Looks lock) (doings.Copies lock))
        (λ page u. tt) (either_doing (eqb (next_in flight % 8192) 0) (doings.Looks lock)
        (doings.Copies lock) (λ page u. tt) (λ page u. tt))

    maps_at : (view : PlainView) (lock : ℕ) (s : PlainStage)
        → Pageless (at_stage s view) (doings.Maps lock)
    maps_at view lock stages.Away = λ page u. tt
    maps_at view lock stages.Taken = λ page u. tt
    maps_at view lock (stages.Looked at) =
        let rest : PlainDoing = cond
        (ltb (written_word words + setup.ring_pages * 8192) (at + 8192))
        (doings.GivesTurn lock (Some (at + 8192 - setup.ring_pages * 8192))) (doings.Maps lock) in
        either_doing (leb (page_end_in view.flight) at) (doings.GivesTurn lock None) rest
        (λ page u. tt) (either_doing
        (ltb (written_word words + setup.ring_pages * 8192) (at + 8192))
        (doings.GivesTurn lock (Some (at + 8192 - setup.ring_pages * 8192))) (doings.Maps lock)
        (λ page u. tt) (λ page u. tt))
    maps_at view lock (stages.Ready at) = λ page u. tt
    maps_at view lock (stages.Zeroing at count) =
        either_left (ltb count 1024) _ _ (λ page u. tt) (λ page u. tt)
    maps_at view lock (stages.Published at) = λ page u. tt

    pub maps_none : (view : PlainView) (lock : ℕ) → Pageless view (doings.Maps lock)
    maps_none view lock = maps_at view lock view.stage

    pub gives_turn_none : (view : PlainView) (lock : ℕ) (end : Option ℕ)
        → Pageless view (doings.GivesTurn lock end)
    gives_turn_none view lock None = λ page u. tt
    gives_turn_none view lock (Some end) = λ page u. tt

    pub tells_none : (view : PlainView) (lock end : ℕ) → Pageless view (doings.Tells lock end)
    tells_none view lock end = λ page u. tt

    pub releases_none : (view : PlainView) (lock : ℕ) (full : Bool)
        → Pageless view (doings.Releases lock full)
    releases_none view lock true = tt
    releases_none view lock false = by_kind (is_commit line)
      where
        by_kind : (commits : Bool) → NextHas IsPageless
            (Rattle.machine_turns.specs.Inserting.behind_release setup words view false commits)
        by_kind true = λ page u. tt
        by_kind false = tt
