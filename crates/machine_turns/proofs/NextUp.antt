-- Only behind the load of the down word comes the place at which the writer is taken out, and only
-- behind a call of the device the one at which the down word is set.
use Rattle.std.proofs.Common.{◌≡◌, ℕ, ◌+◌, ◌-◌, ◌*◌, ◌%◌, Bool, true, false, cond, eqb, refl}
use Rattle.std.proofs.Math.Dec.{ltb, leb}
use mathlib.Core.Option.{none, some}
use Rattle.std.specs.Prelude.{Some, None}
use Rattle.machine_state.specs.Views.{Place, Free, Locked, Loaded, Stored, Stage, Away, Taken, Looked, Ready, Zeroing, Published, View}
use Rattle.machine_turns.specs.Doing.{Ask, Inserts, Commits, Flushes, Purpose, ForLine, ForPage, Doing, Begins, Tries, Reserves, Looks, Copies, Maps, GivesTurn, Tells, Releases, FlushBegins, LoadsPosition, LoadsFlushed, LoadsMoment, Visits, TakesTurn, LoadsDown, TakesOut, LoadsPage, Creates, Writes, SyncsFull, SyncsLast, StoresWritten, StoresMoment, StoresFlushed, SetsDown, PutsBack, GivesWriteTurn}
use Rattle.machine_turns.specs.Turned.{Next, goes_on, answers, next_of, page_or_end, behind_reserving, behind_mapping, behind_insert, behind_call, line_start, has_page_left, is_some_segment, waiting_segment, fits, next_page_end, lock_tried, is_whole, next_address, asked_end, is_segment_new, of_lent}
use Rattle.machine_turns.specs.Standing.{UpFor}

-- the places of calls of the device
abbrev pub Calls : Doing → Type 0
Calls (Creates purpose) = Unit {0}
Calls (Writes purpose) = Unit {0}
Calls (SyncsFull purpose) = Unit {0}
Calls SyncsLast = Unit {0}
Calls other = ⊥

-- behind the load of the down word it is 0, and behind a call of the device
pub record IsUpBehind (doing : Doing) (d : ℕ) : Type 0 where
  pub loads : (purpose : Purpose) → doing ≡ LoadsDown purpose → d ≡ 0
  pub calls : Calls doing → d ≡ 0

abbrev pub UpNext : Next → ℕ → Type 0
UpNext (goes_on doing) down = UpFor doing down
UpNext (answers full) down = Unit {0}

record GoesUp (d : ℕ) (next : Next) : Type 0 where
  pub up : UpNext next d

record IsUpAt (d : ℕ) (doing : Doing) : Type 0 where
  pub up : UpFor doing d

either : (b : Bool) (x y : Next) (d : ℕ) → GoesUp d x → GoesUp d y → GoesUp d (cond b x y)
either true x y d p q = p
either false x y d p q = q

either_place : (b : Bool) (x y : Doing) (d : ℕ) → IsUpAt d x → IsUpAt d y → IsUpAt d (cond b x y)
either_place true x y d p q = p
either_place false x y d p q = q

at_place : (x : Doing) (d : ℕ) → IsUpAt d x → GoesUp d (goes_on x)
at_place x d p = record { up = p.up }

pub up_start : (x : Rattle.std.specs.Prelude.Option Ask) (d : ℕ) → UpFor (line_start x) d
up_start None d = tt
up_start (Some (Inserts value)) d = tt
up_start (Some (Commits value)) d = tt
up_start (Some Flushes) d = tt

module _ (v w : View) (ask : Ask) (met : ℕ) (done : Bool) (d : ℕ) where
  flat : (x : Doing) → UpFor x d → GoesUp d (goes_on x)
  flat x up = record { up = up }

  up_page : (purpose : Purpose) → IsUpAt d (page_or_end v w ask met done purpose)
  up_page ForLine = either_place (has_page_left w) (LoadsPage ForLine 0)
      (cond (is_some_segment w (waiting_segment w (w.writing).hold)) SyncsLast
      (StoresWritten ForLine)) d (record { up = tt })
      (either_place (is_some_segment w (waiting_segment w (w.writing).hold)) SyncsLast
      (StoresWritten ForLine) d (record { up = tt }) (record { up = tt }))
  up_page (ForPage lock end) = either_place (has_page_left w) (LoadsPage (ForPage lock end) 0)
      (StoresWritten (ForPage lock end)) d (record { up = tt }) (record { up = tt })

  up_reserving : (lock : ℕ) (p : Place) → GoesUp d (behind_reserving v w ask met done lock p)
  up_reserving lock Free = flat (Reserves lock) tt
  up_reserving lock (Locked at) = either (fits v ask at) (goes_on (Reserves lock))
      (goes_on (Releases lock true)) d (record { up = tt }) (record { up = tt })
  up_reserving lock (Loaded at prev) = flat (Reserves lock) tt
  up_reserving lock (Stored at prev) = flat (Looks lock) tt

  up_mapping : (lock : ℕ) (s : Stage) → GoesUp d (behind_mapping v w ask met done lock s)
  up_mapping lock Away = flat (Maps lock) tt
  up_mapping lock Taken = flat (Maps lock) tt
  up_mapping lock (Looked at) =
      let pages = ((v.opening).setup).ring_pages in
      let later = goes_on (GivesTurn lock (some (at + 8192 - pages * 8192))) in
      either (leb (next_page_end v) at) (goes_on (GivesTurn lock none))
      (cond (ltb (met + pages * 8192) (at + 8192)) later (goes_on (Maps lock))) d
      (record { up = tt })
      (either (ltb (met + pages * 8192) (at + 8192)) later (goes_on (Maps lock)) d
      (record { up = tt }) (record { up = tt }))
  up_mapping lock (Ready at written) = flat (Maps lock) tt
  up_mapping lock (Zeroing at count) = flat (Maps lock) tt
  up_mapping lock (Published at) = flat (GivesTurn lock none) tt

  up_insert : (a : Ask) → GoesUp d (behind_insert v w ask met done a)
  up_insert (Inserts value) = record { up = tt }
  up_insert (Commits value) = record { up = tt }
  up_insert Flushes = record { up = tt }

  up_call : (purpose : Purpose) (next : Doing) → d ≡ 0 → IsUpAt d next
      → GoesUp d (behind_call v w ask met done purpose next)
  up_call purpose next first up = either done (goes_on next) (goes_on (SetsDown purpose)) d
      (at_place next d up) (record { up = first })

  up_next : (doing : Doing) → IsUpBehind doing d
      → GoesUp d (next_of v w ask met done doing)
  up_next Begins given = flat (Tries 0) tt
  up_next (Tries n) given = either (eqb met 0) (goes_on (Reserves (lock_tried v n)))
      (cond (eqb (n + 1) 8) (goes_on Begins) (goes_on (Tries (n + 1)))) d (record { up = tt })
      (either (eqb (n + 1) 8) (goes_on Begins) (goes_on (Tries (n + 1))) d (record { up = tt })
      (record { up = tt }))
  up_next (Reserves lock) given = up_reserving lock (v.reserving).place
  up_next (Looks lock) given = either (eqb met (next_page_end v)) (goes_on (Copies lock))
      (goes_on (Maps lock)) d (record { up = tt }) (record { up = tt })
  up_next (Copies lock) given = either (is_whole w) (goes_on (Releases lock false))
      (cond (eqb (next_address w % 8192) 0) (goes_on (Looks lock)) (goes_on (Copies lock))) d
      (record { up = tt })
      (either (eqb (next_address w % 8192) 0) (goes_on (Looks lock)) (goes_on (Copies lock)) d
      (record { up = tt }) (record { up = tt }))
  up_next (Maps lock) given = up_mapping lock (v.mapping).stage
  up_next (GivesTurn lock none) given = flat (Looks lock) tt
  up_next (GivesTurn lock (some end)) given = flat (Tells lock end) tt
  up_next (Tells lock end) given = flat (Visits (ForPage lock end) 0) tt
  up_next (Releases lock full) given = either full (answers true)
      (behind_insert v w ask met done ask) d (record { up = tt }) (up_insert ask)
  up_next FlushBegins given = flat LoadsPosition tt
  up_next LoadsPosition given = flat LoadsFlushed tt
  up_next LoadsFlushed given = either (leb (asked_end v) met) (goes_on LoadsMoment)
      (goes_on (Visits ForLine 0)) d (record { up = tt }) (record { up = tt })
  up_next LoadsMoment given = record { up = tt }
  up_next (Visits purpose lock) given = either (eqb (lock + 1) 8) (goes_on (TakesTurn purpose))
      (goes_on (Visits purpose (lock + 1))) d (record { up = tt }) (record { up = tt })
  up_next (TakesTurn purpose) given = flat (LoadsDown purpose) tt
  up_next (LoadsDown purpose) given = record { up = given.loads purpose refl }
  up_next (TakesOut purpose) given = at_place (page_or_end v w ask met done purpose) d
      (up_page purpose)
  up_next (LoadsPage purpose k) given = either (eqb (k + 1) 1024)
      (cond (is_segment_new v) (goes_on (Creates purpose)) (goes_on (Writes purpose)))
      (goes_on (LoadsPage purpose (k + 1))) d
      (either (is_segment_new v) (goes_on (Creates purpose)) (goes_on (Writes purpose)) d
      (record { up = tt }) (record { up = tt })) (record { up = tt })
  up_next (Creates purpose) given = up_call purpose (Writes purpose) (given.calls tt) (record { up = tt })
  up_next (Writes purpose) given =
      let ends = eqb (of_lent w (λ l. (l.writer).written) % ((v.opening).setup).seg_size) 0 in
      up_call purpose (cond ends (SyncsFull purpose) (page_or_end v w ask met done purpose))
      (given.calls tt) (either_place ends (SyncsFull purpose) (page_or_end v w ask met done purpose) d
      (record { up = tt })
      (up_page purpose))
  up_next (SyncsFull purpose) given =
      up_call purpose (page_or_end v w ask met done purpose) (given.calls tt) (up_page purpose)
  up_next SyncsLast given = up_call ForLine (StoresWritten ForLine) (given.calls tt) (record { up = tt })
  up_next (StoresWritten ForLine) given = flat StoresMoment tt
  up_next (StoresWritten (ForPage lock end)) given = flat (PutsBack (ForPage lock end) false) tt
  up_next StoresMoment given = flat StoresFlushed tt
  up_next StoresFlushed given = flat (PutsBack ForLine false) tt
  up_next (SetsDown purpose) given = flat (PutsBack purpose true) tt
  up_next (PutsBack purpose failed) given = flat (GivesWriteTurn purpose failed) tt
  up_next (GivesWriteTurn ForLine failed) given = record { up = tt }
  up_next (GivesWriteTurn (ForPage lock end) true) given = record { up = tt }
  up_next (GivesWriteTurn (ForPage lock end) false) given = flat (Looks lock) tt

  pub next_up : (doing : Doing) → IsUpBehind doing d
      → UpNext (next_of v w ask met done doing) d
  next_up doing given = (up_next doing given).up
