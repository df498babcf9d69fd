-- Whether a page is in its buffer, and what a pass's view is that met a page's end.
use Rattle.std.specs.Prelude.{◌≡◌, ◌≢◌, ℕ, ◌+◌, ◌*◌, max}
use Rattle.machine_state.specs.Views.{View}
use Rattle.word_ring.specs.declared.confirming.Presence.{Presence}
use Rattle.word_ring.specs.declared.confirming.Presence.TheVariants.{Present, Other}

-- the address behind a page, which is counted from the log's address 0
abbrev pub end_of_page : ℕ → ℕ
end_of_page page = (page + 1) * 8192

-- it met this end of a page; all else is as it was
abbrev pub confirmed_view : ℕ → View → View
confirmed_view end v =
    record v { mapping = record v.mapping { confirmed = max (v.mapping).confirmed end } }

-- the page is in its buffer exactly where the end met is its own
abbrev pub Confirms : (page end : ℕ) → Presence → Type 0
Confirms page end Present = end ≡ end_of_page page
Confirms page end (Other told) = (told ≡ end) × (end ≢ end_of_page page)
