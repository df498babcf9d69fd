-- Of two flush promises of one log the later one names no earlier moment, and a later one where it
-- covers an entry that the log reserved behind the first; and what is kept in between for that.
use Rattle.std.specs.Prelude.{◌≡◌, ◌≢◌, ℕ, ◌<◌, ◌≤◌, All, AllPairs, List, ◌∷◌, map, slice_get, Some}
use mathlib.Core.Option.{Option}
use Rattle.wal_page.specs.Order.{Entry, finish_of}
use Rattle.machine_state.specs.Words.{Opening, flushed_word, moment_word}
use Rattle.machine_state.specs.Views.{HasAt, FlushPromise, Joined, Plain, Hold, Idle, Turned, Out, View}
use Rattle.machine_state.specs.Sound.{IsSound}
use Rattle.segment_disk.specs.Tape.{DiskState}

-- ---- promises of one log

-- a promise of all below an address, from a moment on, rises above one that the same log has: it
-- names no earlier moment, and a later one where it covers an entry that the log reserved since
pub record RisesAbove (size : ℕ) (entries : List Entry) (p : FlushPromise) (upto moment : ℕ)
    : Type 0 where
  pub never_falls : p.moment ≤ moment
  pub rises : (k : ℕ) (e : Entry) → p.entries ≤ k → slice_get entries k ≡ Some e
      → finish_of size e ≤ upto → p.moment < moment

-- of two promises of a log the later one rises above the earlier one
abbrev pub Rises : ℕ → List Entry → FlushPromise → FlushPromise → Type 0
Rises size entries p q = RisesAbove size entries p q.upto q.moment

module _ (opening : Opening) where
  -- the opening counts as the first promise of each log: it covers no entry
  abbrev pub with_opening : List FlushPromise → List FlushPromise
  with_opening promises = (record {
    upto = (opening.setup).seg_size;
    moment = opening.moment;
    entries = 0;
  }) ∷ promises

  -- each promise of a log rises above those before it
  abbrev pub PromisesRise : List Entry → List FlushPromise → Type 0
  PromisesRise entries promises =
      AllPairs (Rises (opening.setup).seg_size entries) (with_opening promises)

  -- a promise that is made next, of all below an address from a moment on, rises above each of them
  abbrev pub NextRises : List Entry → List FlushPromise → ℕ → ℕ → Type 0
  NextRises entries promises upto moment = All
      (λ p. RisesAbove (opening.setup).seg_size entries p upto moment) (with_opening promises)

-- ---- what is kept in between

-- what a pass has of promises: its entries, what it was told of flushes, the passes that it took
-- in; and where it has the writer in hand, the address below which all is durable from the moment
-- on that it stored last, and that moment (0 where it stored none)
pub record Promised : Type 0 where
  pub entries : List Entry
  pub promises : List FlushPromise
  pub joined : List Joined
  pub hard : ℕ
  pub hard_moment : ℕ

abbrev pub hard_in : Hold → ℕ
hard_in Idle = 0
hard_in Turned = 0
hard_in (Out l) = l.hard

abbrev pub hard_moment_in : Hold → ℕ
hard_moment_in Idle = 0
hard_moment_in Turned = 0
hard_moment_in (Out l) = l.hard_moment

abbrev pub promised_of : View → Promised
promised_of v = record {
  entries = (v.reserving).entries;
  promises = (v.writing).promises;
  joined = (v.reserving).joined;
  hard = hard_in (v.writing).hold;
  hard_moment = hard_moment_in (v.writing).hold;
}

module _ (opening : Opening) where
  -- each log's promises rise: a pass's own, and those of each pass that it took in
  pub record LogsRise (x : Promised) : Type 0 where
    pub own : PromisesRise opening x.entries x.promises
    pub joined : All (λ (j : Joined). PromisesRise opening j.entries j.promises) x.joined

  -- whichever pass is promised this next, for its log it rises
  abbrev pub RisesForEach : List Promised → ℕ → ℕ → Type 0
  RisesForEach parts upto moment = (id : ℕ) (x : Promised) → HasAt parts id x
      → NextRises opening x.entries x.promises upto moment

  -- `flushed` and `moment` are the words, `writer` the writer wherever it is
  pub record RisesHold (flushed moment : ℕ) (writer : Plain) (parts : List Promised) : Type 0 where
    pub in_order : (id : ℕ) (x : Promised) → HasAt parts id x → LogsRise x
    -- what may be promised next rises: all below the flushed word, from the moment word on
    pub of_flushed : RisesForEach parts flushed moment
    -- all that is written, from the writer's moment on
    pub of_written : RisesForEach parts writer.written writer.moment
    -- and all for which the one with the writer in hand has stored a moment, which is the word's
    pub of_hard : (id : ℕ) (x : Promised) → HasAt parts id x → x.hard ≢ 0
        → (x.hard_moment ≡ moment) × RisesForEach parts x.hard moment

-- this of the whole machine
abbrev pub MomentsKeepRising : {first : DiskState} (opening : Opening) (words : List ℕ)
    (home : Option Plain)
    (views : List View) → IsSound first opening words home views → Type 0
MomentsKeepRising opening words home views s =
    RisesHold opening (flushed_word words) (moment_word words) s.writer (map promised_of views)
