-- What a reader works with.
use Rattle.std.specs.Prelude.{◌≡◌, ℕ, List, [], Option, Some, None, IfSome}
use Rattle.std.specs.Coded.{Coded-set, coded_ℕ, Unit-prop}
use Rattle.wal_reader.specs.declared.buffers.Buffers.{Buffers}
use Rattle.wal_reader.specs.Cache.{Caches}
use Rattle.wal_reader.specs.Pages.{Pages}

-- buffers, where there are any, are those of a log whose segments have this size
abbrev pub AreFor : ℕ → Option Buffers → Type 0
AreFor size buffers = IfSome buffers (λ held. held.cache.geometry ≡ size)

pub AreFor-prop : (size : ℕ) (buffers : Option Buffers) → IsProp (AreFor size buffers)
AreFor-prop size None = Unit-prop
AreFor-prop size (Some held) = Coded-set coded_ℕ held.cache.geometry size

-- what the room has; nothing where there are no buffers
abbrev pub room_in : Option Buffers → List ℕ
room_in None = []
room_in (Some held) = held.room.items

-- which page is held, if any is
abbrev pub page_in : Option Buffers → Option ℕ
page_in None = None
page_in (Some held) = held.cache.number

-- the page that is held, where there are buffers, is one of these
abbrev pub HoldsPageOf : ℕ → Option Buffers → Pages → Type 0
HoldsPageOf size buffers pages =
    IfSome buffers (λ held. (held.cache.geometry ≡ size) × Caches held.cache pages)
