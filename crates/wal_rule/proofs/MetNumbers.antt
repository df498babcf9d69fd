-- What the number of a load says, by the machine's invariant of the state in which it was met.
use Rattle.std.proofs.Common.{◌≡◌, ◌≢◌, ℕ, ◌<◌, ◌≤◌, ◌^◌, All, map, true, inl, inr, arith, sym, ◌∙◌, subst}
use Rattle.std.proofs.lemmas.List.Elements.{All-weaker}
use Rattle.atomic_table.proofs.Lists.{at_map}
use Rattle.segment_disk.specs.Cause.{Rose}
use Rattle.machine_state.proofs.Bounds.{limit_low}
use Rattle.machine_state.specs.Words.{down_word, flushed_word, moment_word, position_word, prev_word}
use Rattle.machine_state.specs.Views.{FlushPromise, async_met_of, reserving_of, receipts_of, View}
use Rattle.machine_state.specs.Durable.{IsPromised, IsToldRightly}
use Rattle.machine_state.specs.Moves.{unlocked}
use Rattle.machine_state.specs.Steps.{StepKind, load_async, load_down, load_flushed, load_moment, load_position}
use Rattle.machine_laws.proofs.OrderSteps.{unlocked-is}
use Rattle.wal_rule.specs.Downs.{KnowsDown}
use Rattle.wal_rule.specs.Stepping.{Meets, Stands}

-- ---- what a view was told

module _ (v : View) (s : Stands v) where
  abbrev down : ℕ
  down = down_word s.words

  told_rightly : IsToldRightly s.first v.opening (s.sound).order (flushed_word s.words)
      (moment_word s.words) down (s.sound).writer (receipts_of v)
  told_rightly = ((s.sound).durable).views s.id (receipts_of v)
      (at_map receipts_of s.views s.id v s.here)

  -- the word has the down value that it knows
  known_is : (faults : ℕ) → KnowsDown faults v → faults ≡ down
  known_is faults (some_are, inl met) = sym met
      ∙ told_rightly.down_met (λ (e : v.writing.down_met ≡ 0). some_are (sym met ∙ e))
  known_is faults (some_are, inr set) = sym set
      ∙ told_rightly.down_set (λ (e : v.writing.down_set ≡ 0). some_are (sym set ∙ e))

  -- a down value is a fault since the opening
  down_since : down ≢ 0 → Rose (v.opening).faults down
  down_since some_are = ((s.sound).durable).fault_rose down
      (((s.sound).durable).down_is some_are)

  pub known_rose : (faults : ℕ) → KnowsDown faults v → Rose (v.opening).faults faults
  known_rose faults knows =
      let is : faults ≡ down = known_is faults knows in
      subst (λ (n : ℕ). Rose (v.opening).faults n) (sym is)
      (down_since (λ (e : down ≡ 0). knows.0 (is ∙ e)))

  pub known_same : (f g : ℕ) → KnowsDown f v → KnowsDown g v → f ≡ g
  known_same f g one other = known_is f one ∙ sym (known_is g other)

-- ---- what a load met

module _ (v : View) (met : ℕ) where
  -- no pass has seen more than is reserved, and a position is far below the last of 64 bits
  pub position_met : Meets v load_position met → (v.reserving).live ≡ true
      → ((v.reserving).seen ≤ unlocked met) × (met < 2 ^ 60)
  position_met m live =
      let s : Stands v = m.before in
      let setup = (v.opening).setup in
      let holds = (s.sound).reserved in
      let part = holds.views s.id v.reserving
      (at_map reserving_of s.views s.id v s.here) live in
      let end = unlocked-is v.opening (s.sound).order (position_word s.words)
      (prev_word s.words) (map reserving_of s.views) holds ((s.sound).setup_is).size in
      let low = limit_low setup (s.sound).setup_is in
      let met_is : met ≡ position_word s.words = m.met_is in (
        omega (arith, part.seen, end, met_is),
        omega (arith, low, holds.within, holds.position_is, holds.one_bit, met_is),
      )

  pub down_met_known : Meets v load_down met → (faults : ℕ) → KnowsDown faults v → met ≡ faults
  down_met_known m faults knows = m.met_is ∙ sym (known_is v m.before faults knows)

  pub down_met_rose : Meets v load_down met → met ≢ 0 → Rose (v.opening).faults met
  down_met_rose m some_are = subst (λ (n : ℕ). Rose (v.opening).faults n) (sym m.met_is)
      (down_since v m.before (λ (e : down v m.before ≡ 0). some_are (m.met_is ∙ e)))

  abbrev promised : {e : StepKind} → Meets v e met → FlushPromise → Type 0
  promised m = IsPromised (flushed_word (m.before).words) (moment_word (m.before).words)

  -- the pass was promised nothing beyond the flushed address, and nothing of a later moment
  pub flushed_met : Meets v load_flushed met
      → All (λ (p : FlushPromise). p.upto ≤ met) v.writing.promises
  flushed_met m = All-weaker (promised m) (λ (p : FlushPromise). p.upto ≤ met)
      (λ p is. subst (λ (n : ℕ). p.upto ≤ n) (sym m.met_is) is.upto_low) v.writing.promises
      (told_rightly v m.before).own_promised

  pub moment_met : Meets v load_moment met
      → All (λ (p : FlushPromise). p.moment ≤ met) v.writing.promises
  moment_met m = All-weaker (promised m) (λ (p : FlushPromise). p.moment ≤ met)
      (λ p is. subst (λ (n : ℕ). p.moment ≤ n) (sym m.met_is) is.moment_low) v.writing.promises
      (told_rightly v m.before).own_promised

  -- the async address is no less than the one that the pass met last
  pub async_rises : Meets v load_async met → v.async_met ≤ met
  async_rises m =
      let s : Stands v = m.before in
      let low = (((s.sound).async).met s.id v.async_met
      (at_map async_met_of s.views s.id v s.here)).0 in
      subst (λ (n : ℕ). v.async_met ≤ n) (sym m.met_is) low
