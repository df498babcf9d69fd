-- A copy of a record's words: how far it came, and why it stopped.
use Rattle.std.specs.Prelude.{◌≡◌, ◌≢◌, ◌⊎◌, ℕ, ◌+◌, ◌*◌, ◌/◌, ◌%◌, ◌<◌, ◌≤◌, ◌^◌, Contains, List}
use Rattle.wal_page.specs.Placed.{PlacedState, placed_end}
use Rattle.wal_rule.specs.declared.seated.SeatedPass.{SeatedPass}
use Rattle.wal_rule.specs.SeatedPasses.{StaysSeated, view_of}
use Rattle.wal_rule.specs.Stepping.{Meets}
use Rattle.machine_state.specs.declared.setup.Setup.{Setup}
use Rattle.machine_state.specs.Steps.{load_buffer_end, take_mapping_turn}
use Rattle.machine_state.specs.Moves.{with_told}
use Rattle.machine_state.specs.Views.{Copy, Copying, Taken, View}
use Rattle.word_ring.specs.Mapped.{IsOldPageUnwritten, LooksAt, staged_view}
use Rattle.word_ring.specs.Ring.{end_of_page}
use Rattle.wal_log.specs.declared.copying.Absent.{Absent}
use Rattle.wal_log.specs.declared.copying.Copied.{Copied}
use Rattle.wal_log.specs.declared.copying.CopyStop.{CopyStop}
use Rattle.wal_log.specs.declared.copying.CopyStop.TheVariants as stops
use Rattle.wal_log.specs.PassLogs.{log_of_pass}
use Rattle.wal_log.specs.Standing.{GoesOnSeated, entry_in_flight}

-- a record at its place is the same, but for the next word
abbrev pub IsSamePlace : PlacedState → PlacedState → Type 0
IsSamePlace old new = new ≡ record old { next = new.next }

-- a copy went on: of its record only the next word has moved, the entry in flight is the same, and
-- nothing was added to the pass's log
pub record CopyGoesOn {D : Type 0} (placed_old placed_new : PlacedState) (old new : SeatedPass D)
    : Type 0 where
  pub place : IsSamePlace placed_old placed_new
  pub entry : entry_in_flight (view_of new) ≡ entry_in_flight (view_of old)
  pub goes_on : GoesOnSeated old new
  pub log : log_of_pass (view_of new) ≡ log_of_pass (view_of old)

-- ---- pages

-- of a view: it met this as the highest end of a page, and as written
abbrev pub mapped_view : (confirmed written : ℕ) → View → View
mapped_view confirmed written v = record v {
  mapping = record v.mapping { confirmed = confirmed };
  writing = record v.writing { written = written };
}

-- of a pass at most the highest end met, which is no less, and the written address loaded changed
pub record MapsPage {D : Type 0} (old new : SeatedPass D) : Type 0 where
  pub stays : StaysSeated old new
  pub confirmed : ℕ
  pub written : ℕ
  pub view_is : view_of new ≡ mapped_view confirmed written (view_of old)
  pub rises : ((view_of old).mapping).confirmed ≤ confirmed

-- the end word of a page's buffer was met, and is not the page's own. It was met by this view, but
-- for the highest end met and the written address loaded
pub record MeetsOther (setup : Setup) (page end : ℕ) (v : View) : Type 0 where
  pub confirmed : ℕ
  pub written : ℕ
  pub met : Meets (mapped_view confirmed written v) (load_buffer_end (page % setup.ring_pages)) end
  pub other : end ≢ end_of_page page

-- the turn to map was somebody else's, whose word was met by this view
pub record MeetsMapper (turn : ℕ) (v : View) : Type 0 where
  pub met : Meets v take_mapping_turn turn
  pub taken : turn ≢ 0

-- with the turn to map had, the initialised end and the written address were met, and the page that
-- begins at that end, which lies before this one's, has a buffer whose page ends above the other:
-- the written address lies on that page. They were met by this view, but for the highest end met
-- and the written address loaded
pub record WaitsForOldPage (setup : Setup) (page told : ℕ) (v : View) : Type 0 where
  pub confirmed : ℕ
  pub written : ℕ
  pub at : ℕ
  pub looks : LooksAt (staged_view Taken (mapped_view confirmed written v)) at told
  pub below : at < end_of_page page
  pub old : IsOldPageUnwritten setup at told
  pub replaced : at + 8192 ≡ end_of_page (told / 8192) + setup.ring_pages * 8192

-- why a page was not mapped: the turn was taken, or the page to be replaced is not written
abbrev pub IsInTheWay : Setup → (page turn written : ℕ) → View → Type 0
IsInTheWay setup page turn written v = (MeetsMapper turn v × (written ≡ 0))
    ⊎ ((turn ≡ 0) × WaitsForOldPage setup page written v)

-- the page is not in its buffer, and could not be mapped
pub record TellsAbsent (setup : Setup) (page : ℕ) (v : View) (absent : Absent) : Type 0 where
  pub page_is : absent.page ≡ page
  pub other : MeetsOther setup page absent.end v
  pub why : IsInTheWay setup page absent.turn absent.written v
  pub low : absent.written < 2 ^ 60

abbrev pub absent_page : (page end turn written : ℕ) → Absent
absent_page page end turn written =
    record { page = page; end = end; turn = turn; written = written }

-- ---- words

-- so many words were copied, one at least and as many as were asked for at most
pub record CopiesSome (most count : ℕ) (old new : PlacedState) : Type 0 where
  pub some : 0 < count
  pub few : count ≤ most
  pub next_is : new ≡ record old { next = old.next + 8 * count }
  pub within : new.next ≤ placed_end old

-- a word is left, and none was copied: none was asked for, or its page could not be mapped
abbrev pub StopsAtOnce : Setup → (most : ℕ) → PlacedState → View → CopyStop → Type 0
StopsAtOnce setup most placed v stops.Asked = most ≡ 0
StopsAtOnce setup most placed v stops.Whole = ⊥
StopsAtOnce setup most placed v (stops.Absent page end turn written) =
    (0 < most) × TellsAbsent setup (placed.next / 8192) v (absent_page page end turn written)

-- why a copy stopped behind `k` words, of which so many at most were asked for: these, and words
-- are left; no word is left; or fewer, since the page of the next one could not be mapped
abbrev pub TellsStop : Setup → (most k : ℕ) → PlacedState → View → CopyStop → Type 0
TellsStop setup most k placed v stops.Asked = (k ≡ most) × (placed.next < placed_end placed)
TellsStop setup most k placed v stops.Whole = placed.next ≡ placed_end placed
TellsStop setup most k placed v (stops.Absent page end turn written) = (k < most)
    × (placed.next < placed_end placed)
    × TellsAbsent setup (placed.next / 8192) v (absent_page page end turn written)

-- a view's number was told under each lock under which it has an entry in flight
abbrev pub IsToldUnderAll : View → Type 0
IsToldUnderAll v = (c : Copy) → (v.working).flight ≡ Copying c → (lock : ℕ)
    → Contains c.locks lock → Contains v.told_under lock

-- so many words were copied, in order, and why it stopped there. Then, where words were asked for
-- and are left, the pass has told the address of the next one, under each lock under which the
-- record stands; where none was asked for, it has told nothing
pub record CopiesFront (setup : Setup) (most : ℕ) (old new : PlacedState) (before after : View)
    (copied : Copied) : Type 0 where
  pub few : copied.k ≤ most
  pub next_is : new ≡ record old { next = old.next + 8 * copied.k }
  pub earlier : ℕ
  pub earlier_under : List ℕ
  pub stop : TellsStop setup most copied.k new (with_told earlier earlier_under after) copied.stop
  pub told : 0 < most → new.next < placed_end new → after.told ≡ new.next
  pub under : 0 < most → new.next < placed_end new → IsToldUnderAll after
  pub silent : most ≡ 0 → after ≡ before
