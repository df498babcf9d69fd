-- A lane behind a turn is its backend's behind the machine's.
use Rattle.std.proofs.Common.{◌≡◌, ⊎_elim, ℕ, ◌+◌, ◌≤◌, ◌<◌, ◌^◌, List, length, slice_get, Option, Some, None, refl, sym, ap, ◌∙◌, arith}
use Rattle.machine_state.specs.Views.{Copy, Copying, View}
use Rattle.machine_turns.specs.Doing.{Ask, Inserts, Commits, Flushes, Backend}
use Rattle.machine_turns.specs.Turned.{line_start, with_answer, with_next}
use Rattle.machine_turns.specs.declared.doing.PlainDoing.{PlainDoing}
use Rattle.machine_turns.specs.declared.doing.PlainNext.{PlainNext}
use Rattle.machine_turns.specs.declared.doing.PlainNext.TheVariants.{GoesOn, Answers}
use Rattle.machine_turns.specs.declared.lane.PlainBackend.{PlainBackend}
use Rattle.machine_turns.specs.declared.script.PlainLine.{PlainLine}
use Rattle.machine_turns.specs.declared.script.PlainLine.TheVariants.{Insert, Commit, Flush}
use Rattle.machine_turns.specs.declared.view.PlainView.{PlainView}
use Rattle.machine_turns.specs.Lanes.{lane_answered, lane_behind, start_of_line}
use Rattle.wal_core.proofs.Keeping.{NextHas}
use Rattle.wal_core.specs.Lines.{AreLinesFor, HasRecord, IsLineFor}
use Rattle.wal_core.specs.PlainData.{doing_of, next_of_plain, plain_view}
use Rattle.wal_core.specs.Playing.{HoldsPageFor, IsLaneOf, TriesFew}
use Rattle.wal_core.proofs.Lists.{got_below, lines_agree}

starts_alike : (ask : Ask) (line : PlainLine) → IsLineFor ask line
    → line_start (Some ask) ≡ doing_of (start_of_line (Some line))
starts_alike (Inserts value) (Insert body) is = refl
starts_alike (Inserts value) (Commit body) is = absurd is
starts_alike (Inserts value) Flush is = absurd is
starts_alike (Commits value) (Insert body) is = absurd is
starts_alike (Commits value) (Commit body) is = refl
starts_alike (Commits value) Flush is = absurd is
starts_alike Flushes (Insert body) is = absurd is
starts_alike Flushes (Commit body) is = absurd is
starts_alike Flushes Flush is = refl

-- the next line begins alike
pub begins_alike : (asks : List Ask) (script : List PlainLine) → AreLinesFor asks script → (i : ℕ)
    → line_start (slice_get asks i) ≡ doing_of (start_of_line (slice_get script i))
begins_alike asks script are i = ⊎_elim
    (λ (x : (slice_get asks i ≡ None) × (slice_get script i ≡ None)).
    ap line_start x.0 ∙ sym (ap (λ (l : Option PlainLine). doing_of (start_of_line l)) x.1))
    (λ (x : (ask : Ask) × (line : PlainLine) × (slice_get asks i ≡ Some ask)
    × (slice_get script i ≡ Some line) × IsLineFor ask line).
    ap line_start x.2 ∙ starts_alike x.0 x.1 x.4
    ∙ sym (ap (λ (l : Option PlainLine). doing_of (start_of_line l)) x.3))
    (lines_agree asks script are i)

-- at a line's begin no page is loaded, and no lock was tried
pub holds_at_begin : (page : List ℕ) (v : View) (line : Option PlainLine)
    → HoldsPageFor page v (start_of_line line)
holds_at_begin page v None = tt
holds_at_begin page v (Some (Insert body)) = tt
holds_at_begin page v (Some (Commit body)) = tt
holds_at_begin page v (Some Flush) = tt

pub few_at_begin : (line : Option PlainLine) → TriesFew (start_of_line line)
few_at_begin None = tt
few_at_begin (Some (Insert body)) = tt
few_at_begin (Some (Commit body)) = tt
few_at_begin (Some Flush) = tt

module _ (page : List ℕ) (view : PlainView) (script : List PlainLine) (copied answered : ℕ)
    (d : PlainDoing) (asks : List Ask) (w : View) (lines : AreLinesFor asks script)
    (same : view ≡ plain_view w)
    (copies : (c : Copy) → (w.working).flight ≡ Copying c → HasRecord script copied (c.entry).value)
    (counted : (answered ≤ length script) × (length script < 2 ^ 32)) where
  abbrev lane : PlainBackend
  lane = record {
    view = view;
    script = script;
    copied = copied;
    answered = answered;
    doing = d;
  }

  abbrev backend : Backend
  backend = record { asks = asks; answered = answered; doing = doing_of d }

  pub lane_answers : (line : PlainLine) → slice_get script answered ≡ Some line
      → IsLaneOf page (lane_answered lane) (with_answer backend) w
  lane_answers line left = let low = got_below script answered line left in record {
    lines = lines;
    answered = refl;
    counted = (omega (arith, low), counted.1);
    doing = begins_alike asks script lines (answered + 1);
    view = same;
    copies = copies;
    loaded = λ ask left. holds_at_begin page w (slice_get script (answered + 1));
    few = few_at_begin (slice_get script (answered + 1));
    ended = λ none_left. ap start_of_line none_left;
  }

  pub lane_follows : (line : PlainLine) → slice_get script answered ≡ Some line → (next : PlainNext)
      → NextHas TriesFew next → NextHas (HoldsPageFor page w) next
      → IsLaneOf page (lane_behind next lane) (with_next (next_of_plain next) backend) w
  lane_follows line left (GoesOn later) few holds = record {
    lines = lines;
    answered = refl;
    counted = counted;
    doing = refl;
    view = same;
    copies = copies;
    loaded = λ ask has. holds;
    few = few;
    ended = λ none_left. absurd (cc);
  }
  lane_follows line left (Answers full) few holds = lane_answers line left
