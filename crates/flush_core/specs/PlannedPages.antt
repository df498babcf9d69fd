-- Which pages of a log are to be cleared, and which segments to be synced behind that. `size` is
-- that of a segment in bytes, `end` the address at which the log was found to end, `count` the last
-- segment that is there.
use Rattle.std.specs.Prelude.{◌≡◌, ℕ, ◌+◌, ◌-◌, ◌*◌, ◌/◌, ◌^◌, ◌<◌, ◌≤◌, Bool, true, List, [], ◌∷◌, map, Option, IfSome, Result, Ok, Err}
use Rattle.std.specs.List.{AllByRecursion, filter, flat_map, range_with_len}
use Rattle.byte_position.specs.Geometry.{pages_of}
use Rattle.segment_disk.specs.declared.disk.Call.{Call}
use Rattle.segment_disk.specs.Cause.{Rose}
use Rattle.segment_disk.specs.Tape.{DiskState, Tape, page_of_segment, state_now}
use Rattle.flush_core.specs.Settled.{AreAllThere, clear_calls, clear_from, first_to_clear, has_calls, kept_of, segments_cleared}
use Rattle.flush_core.specs.declared.planning.PlannedPage.{PlannedPage}
use Rattle.flush_core.specs.declared.settling.SettleFault.{SettleFault}
use Rattle.flush_core.specs.declared.settling.SettleFault.TheVariants.{Memory, Disk}

-- ---- one page

-- a page of a segment, by numbers that a disk may be asked for, with a byte in it
abbrev pub IsPageOf : ℕ → PlannedPage → Type 0
IsPageOf size planned =
    (planned.segment < 2 ^ 64 / size) × (planned.page < pages_of size) × (planned.from ≤ 8192)

-- the write that clears a page, where a byte is not 0 there
abbrev pub planned_clears : ℕ → DiskState → PlannedPage → List Call
planned_clears size state planned =
    clear_calls size planned.segment planned.page planned.from
    (page_of_segment (state planned.segment) planned.page)

-- whether it is to be cleared
abbrev pub is_to_clear : ℕ → DiskState → PlannedPage → Bool
is_to_clear size state planned = has_calls (planned_clears size state planned)

-- ---- some pages

-- the place of a page among all pages of the log
abbrev pub place_of_page : ℕ → PlannedPage → ℕ
place_of_page size planned = planned.segment * pages_of size + planned.page

-- pages stand in rising order, from a place on
abbrev pub Rise : ℕ → ℕ → List PlannedPage → Type 0
Rise size place [] = Unit {0}
Rise size place (planned ∷ pages) =
    (place ≤ place_of_page size planned) × Rise size (place_of_page size planned + 1) pages

-- each is to be cleared, and they rise
pub record AreToClear (size : ℕ) (state : DiskState) (pages : List PlannedPage) : Type 0 where
  pub each : AllByRecursion (λ planned. is_to_clear size state planned ≡ true) pages
  pub rise : Rise size 0 pages

-- ---- all of them

-- a page of a segment, of which so many bytes lie below the end
abbrev pub page_planned : ℕ → ℕ → ℕ → PlannedPage
page_planned segment kept page =
    record { segment = segment; page = page; from = clear_from kept page }

-- the pages of a segment that are to be cleared, of so many from one on
abbrev pub planned_from : ℕ → ℕ → ℕ → DiskState → ℕ → ℕ → List PlannedPage
planned_from size segment kept state first number =
    filter (is_to_clear size state) (map (page_planned segment kept) (range_with_len first number))

-- .. of all ..
abbrev pub planned_in : ℕ → ℕ → DiskState → ℕ → List PlannedPage
planned_in size end state segment =
    let kept = kept_of size end segment in
    let first = first_to_clear size kept in
    planned_from size segment kept state first (pages_of size - first)

-- .. and those of the segments up to a last one
abbrev pub planned_pages : ℕ → ℕ → DiskState → ℕ → List PlannedPage
planned_pages size end state count =
    flat_map (planned_in size end state) (range_with_len 1 count)

-- these pages are to be cleared on a disk, and these segments to be synced again behind that
pub record ArePlanned (size end count : ℕ) (tape : Option Tape) (pages : List PlannedPage)
    (segments : List ℕ) : Type 0 where
  pub there : IfSome tape (λ t. AreAllThere size (state_now t) count)
  pub cleared : IfSome tape (λ t. pages ≡ planned_pages size end (state_now t) count)
  pub synced : IfSome tape (λ t. segments ≡ segments_cleared size end (state_now t) count)

-- a disk's count of faults before and after what only reads: it rises where the disk failed, and
-- else stays
abbrev pub HasPlanCause : {T : Type 0} → ℕ → ℕ → Result T SettleFault → Type 0
HasPlanCause old new (Ok planned) = new ≡ old
HasPlanCause old new (Err Memory) = new ≡ old
HasPlanCause old new (Err (Disk faults)) = (faults ≡ new) × Rose old new
