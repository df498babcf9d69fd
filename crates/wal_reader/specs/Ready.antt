-- Where the record behind the one that was read last stands in the page that is held.
use Rattle.std.specs.Prelude.{◌≡◌, ℕ, ◌/◌, ◌%◌, ◌^◌, ◌<◌, true, Option, Some, None, is_none, IfSome}
use Rattle.std.specs.Coded.{Coded-set, coded_ℕ, coded_bool, coded_option, ×_prop, Unit-prop, le_prop}
use Rattle.byte_position.specs.Position.{address_of}
use Rattle.wal_page.specs.Page.{timeline_of}
use Rattle.wal_reader.specs.declared.buffers.Buffers.{Buffers}
use Rattle.wal_reader.specs.declared.page_cache.PageCache.{PageCache}
use Rattle.wal_reader.specs.declared.page_cursor.PageCursor.{PageCursor}
use Rattle.wal_reader.specs.declared.record_place.RecordPlace.{RecordPlace}
use Rattle.wal_reader.specs.declared.standing.Standing.{Standing}
use Rattle.wal_reader.specs.declared.standing.Standing.TheVariants.{NotBegun, At, Stopped}
use Rattle.wal_reader.specs.Decodes.{opening_fault}
use Rattle.wal_reader.specs.PageCursor.{IsOn}

-- the cursor stands at the address of a byte position
abbrev pub IsAtByte : ℕ → ℕ → PageCursor → Type 0
IsAtByte size position cursor =
    (cursor.page ≡ address_of size position / 8192)
    × (cursor.offset ≡ address_of size position % 8192)

-- the cursor stands at the first byte of the record at a place, in the page that is held, and no
-- check before the record's first word fails
abbrev pub IsReady : PageCache → RecordPlace → PageCursor → Type 0
IsReady cache at cursor =
    (IsOn cache cursor × IsAtByte cache.geometry at.position cursor)
    × ((cursor.page < 2 ^ 47)
    × (is_none (opening_fault cache.geometry at (Some cache.bytes.value)) ≡ true))

pub IsReady-prop : (cache : PageCache) (at : RecordPlace) (cursor : PageCursor)
    → IsProp (IsReady cache at cursor)
IsReady-prop cache at cursor =
    ×_prop (×_prop
    (×_prop (Coded-set (coded_option coded_ℕ) cache.number (Some cursor.page))
    (Coded-set coded_ℕ (timeline_of cache.bytes.value) cursor.timeline))
    (×_prop (Coded-set coded_ℕ cursor.page (address_of cache.geometry at.position / 8192))
    (Coded-set coded_ℕ cursor.offset (address_of cache.geometry at.position % 8192))))
    (×_prop le_prop
    (Coded-set coded_bool (is_none (opening_fault cache.geometry at (Some cache.bytes.value)))
    true))

-- so does it, where it is known
abbrev pub IsReadyAt : PageCache → RecordPlace → Option PageCursor → Type 0
IsReadyAt cache at ready = IfSome ready (IsReady cache at)

-- the same of a reader's standing and of what it reads into
abbrev pub IsReadyIn : Standing → Option Buffers → Option PageCursor → Type 0
IsReadyIn NotBegun buffers ready = Unit {0}
IsReadyIn (At at) None ready = is_none ready ≡ true
IsReadyIn (At at) (Some held) ready = IsReadyAt held.cache at ready
IsReadyIn (Stopped stop) buffers ready = Unit {0}

pub IsReadyIn-prop : (standing : Standing) (buffers : Option Buffers) (ready : Option PageCursor)
    → IsProp (IsReadyIn standing buffers ready)
IsReadyIn-prop NotBegun buffers ready = Unit-prop
IsReadyIn-prop (At at) None ready = Coded-set coded_bool (is_none ready) true
IsReadyIn-prop (At at) (Some held) None = Unit-prop
IsReadyIn-prop (At at) (Some held) (Some cursor) = IsReady-prop held.cache at cursor
IsReadyIn-prop (Stopped stop) buffers ready = Unit-prop
