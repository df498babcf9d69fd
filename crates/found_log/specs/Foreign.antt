-- Where a log stops as no crash of this program lets one stop. Of a log that it wrote a crash
-- leaves each word as it was written or as zeros. So what stands where no record does may fail a
-- check by words that are zeros, and by a record's CRC; no other check fails there.
use Rattle.std.specs.Prelude.{Bool, true, false, not, ◌==◌}
use Rattle.wal_page.specs.declared.checks.PageErr.{PageErr}
use Rattle.wal_page.specs.declared.checks.PageErr.TheVariants.{Magic, Flags, NoLong, LongInside, SegSize, PageSize, SysId, Address, Timeline}
use Rattle.wal_reader.specs.declared.found.Answer.{Answer}
use Rattle.wal_reader.specs.declared.found.Answer.TheVariants as answers
use Rattle.wal_reader.specs.declared.found.Stopped.{Stopped}
use Rattle.wal_reader.specs.declared.found.Stopped.TheVariants.{Damaged, Compressed, Overwritten}
use Rattle.wal_reader.specs.declared.found.DamageKind.{DamageKind}
use Rattle.wal_reader.specs.declared.found.DamageKind.TheVariants.{Page, Claims, Length, Rmgr, Prev, Missing, NoContinuation, RemLen, Crc, Malformed}

-- a check of a page that fails by no words that are zeros
abbrev pub is_foreign_page : PageErr → Bool
is_foreign_page (Magic found) = not (found == 0)
is_foreign_page (Flags found) = true
is_foreign_page NoLong = true
is_foreign_page LongInside = true
is_foreign_page (SegSize found) = not (found == 0)
is_foreign_page (PageSize found) = true
is_foreign_page SysId = false
is_foreign_page (Address found) = not (found.0 == 0)
is_foreign_page (Timeline found) = true

-- any check
abbrev pub is_foreign_kind : DamageKind → Bool
is_foreign_kind (Page fault) = is_foreign_page fault
is_foreign_kind Claims = true
is_foreign_kind Length = true
is_foreign_kind Rmgr = true
is_foreign_kind (Prev found) = not (found.0 == 0)
is_foreign_kind Missing = false
is_foreign_kind NoContinuation = true
is_foreign_kind (RemLen found) = not (found == 0)
is_foreign_kind Crc = false
is_foreign_kind Malformed = true

-- where a log stops
abbrev pub is_foreign_stop : Stopped → Bool
is_foreign_stop (Damaged at kind) = is_foreign_kind kind
is_foreign_stop (Compressed at) = true
is_foreign_stop (Overwritten at) = true

-- what is told where no record stands
abbrev pub is_foreign : Answer → Bool
is_foreign (answers.End at) = false
is_foreign (answers.Stopped stop) = is_foreign_stop stop
