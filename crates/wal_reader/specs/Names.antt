-- The words by which damage is named.
use Rattle.std.specs.Prelude.{ℕ, List, codes}
use Rattle.wal_page.specs.declared.checks.PageErr.{PageErr}
use Rattle.wal_page.specs.declared.checks.PageErr.TheVariants.{Magic, Flags, NoLong, LongInside, SegSize, PageSize, SysId, Address, Timeline}
use Rattle.wal_reader.specs.declared.found.DamageKind.{DamageKind}
use Rattle.wal_reader.specs.declared.found.DamageKind.TheVariants.{Page, Claims, Length, Rmgr, Prev, Missing, NoContinuation, RemLen, Crc, Malformed}

-- a page's check that failed
abbrev pub page_name : PageErr → List ℕ
page_name (Magic found) = codes "magic"
page_name (Flags found) = codes "flags"
page_name NoLong = codes "nolong"
page_name LongInside = codes "longinside"
page_name (SegSize found) = codes "segsize"
page_name (PageSize found) = codes "pagesize"
page_name SysId = codes "sysid"
page_name (Address found) = codes "address"
page_name (Timeline found) = codes "timeline"

-- a check that failed
abbrev pub damage_name : DamageKind → List ℕ
damage_name (Page fault) = page_name fault
damage_name Claims = codes "claims"
damage_name Length = codes "length"
damage_name Rmgr = codes "rmgr"
damage_name (Prev found) = codes "prev"
damage_name Missing = codes "missing"
damage_name NoContinuation = codes "nocontinuation"
damage_name (RemLen found) = codes "remlen"
damage_name Crc = codes "crc"
damage_name Malformed = codes "malformed"
