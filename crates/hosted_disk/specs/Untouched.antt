-- Which pages the calls that were queued leave as they were at first.
use Rattle.std.specs.Prelude.{ℕ, Bool, true, false, not, List}
use Rattle.std.specs.List.{list_all}
use Rattle.segment_disk.specs.declared.disk.Call.{Call}
use Rattle.segment_disk.specs.declared.disk.CallKind.{CallKind}
use Rattle.segment_disk.specs.declared.disk.CallKind.TheVariants.{Create, Sync, Write}
use Rattle.handed_pages.specs.Handed.{comes_before}
use Rattle.handed_pages.specs.declared.page.PageNumber.{PageNumber}
use Rattle.hosted_disk.specs.declared.touched.Touched.{Touched}
use Rattle.hosted_disk.specs.declared.touched.Touched.TheVariants.{More, Nothing, UpTo}

-- a call of a segment changes no more than that
abbrev pub is_kind_within : Touched → ℕ → CallKind → Bool
is_kind_within More segment kind = true
is_kind_within Nothing segment Sync = true
is_kind_within Nothing segment (Write page bytes) = false
is_kind_within Nothing segment (Create made) = false
is_kind_within (UpTo last) segment Sync = true
is_kind_within (UpTo last) segment (Write page bytes) =
    not (comes_before last (record { segment = segment; page = page }))
is_kind_within (UpTo last) segment (Create made) = false

-- and so do all of these
abbrev pub are_within : Touched → List Call → Bool
are_within touched calls =
    list_all (λ (call : Call). is_kind_within touched call.segment call.kind) calls

-- it leaves this page as it was
abbrev pub leaves_page : Touched → PageNumber → Bool
leaves_page Nothing number = true
leaves_page (UpTo last) number = comes_before last number
leaves_page More number = false
