-- What a log that was closed tells of its disk, of moments and faults, and of the order's room.
use Rattle.std.proofs.Common.{◌≡◌, ◌≢◌, ℕ, zero, suc, ◌^◌, ◌<◌, ◌≤◌, All, List, Some, inl, inr, refl, sym, ◌∙◌, subst, arith}
use Rattle.std.proofs.lemmas.List.Elements.{All-weaker}
use mathlib.Core.Option.{Option, none, some, some-injective}
use Rattle.segment_disk.specs.Cause.{Rose}
use Rattle.segment_disk.specs.Tape.{Tape}
use Rattle.wal_page.specs.Order.{Entry, rooms_of}
use Rattle.run_laws.proofs.Capacities.{capacity_of-le}
use Rattle.machine_state.specs.Durable.{IsPromised, IsToldRightly}
use Rattle.machine_state.specs.Suited.{BeganSuited, tape_from}
use Rattle.machine_state.specs.Views.{FlushPromise, Joined, View, receipts_of}
use Rattle.machine_state.specs.Words.{Opening, down_word, flushed_word, moment_word}
use Rattle.run_laws.specs.Closed.{IsClosedOn}
use Rattle.run_laws.proofs.Closing.{told_from}
use Rattle.run_laws.proofs.Promises.{told_rightly}
use Rattle.run_laws.specs.Ended.{IsClosedLog}
use Rattle.run_laws.specs.Latest.{NoneIsLater}
use Rattle.run_laws.specs.Played.{KnowsFault, pass_state_of}

-- a fault that was met is the down value, where that is 0 only without a fault
rose_by : (begun down faults : ℕ) (fault : Option ℕ) → fault ≡ some faults
    → (down ≡ 0 → fault ≡ none) → (down ≢ 0 → (fault ≡ some down) × Rose begun down)
    → Rose begun faults
rose_by begun zero faults fault is up met =
    absurd (let no : none ≡ some faults = sym (up refl) ∙ is in let never : ⊥ = cc in never)
rose_by begun (suc d) faults fault is up met =
    let m = met (λ none. omega (arith, none)) in
    subst (Rose begun) (some-injective (suc d) faults (sym m.0 ∙ is)) m.1

module _ (opening : Opening) (order : List Entry) (v : View)
    (c : IsClosedLog opening order v) where
  right : IsToldRightly c.first opening (c.sound).order (flushed_word c.words) (moment_word c.words)
      (down_word c.words) (c.sound).writer (receipts_of v)
  right = told_rightly opening c.words (some c.writer) c.views c.sound c.id v c.here

  -- no promise names a later moment than the writer's
  pub none_is_later : NoneIsLater opening (c.writer).moment v
  none_is_later =
      let durable = (c.closed).durable in
      let low = durable.moment_low in
      let Promised = IsPromised (flushed_word c.words) (moment_word c.words) in
      let IsUpto = λ (p : FlushPromise). p.moment ≤ (c.writer).moment in
      record {
        begun = omega (arith, durable.since, low);
        promised = All-weaker (λ (j : Joined). All Promised j.promises)
            (λ (j : Joined). All IsUpto j.promises)
            (λ j all. All-weaker Promised IsUpto (λ p is. omega (arith, is.moment_low, low))
            j.promises all)
            (v.reserving).joined right.joined_promised;
      }

  -- a fault that the writer met came since the opening
  pub fault_rose : (faults : ℕ) → (c.writer).fault ≡ some faults → Rose opening.faults faults
  fault_rose faults is =
      let down = ((c.closed).durable).down in
      rose_by opening.faults (down_word c.words) faults (c.writer).fault is (down.at_home refl).0
      down.is_met

  -- where the last pass knows of one, the down word is set
  pub down_is_set : (faults : ℕ) → KnowsFault faults (pass_state_of v) → down_word c.words ≢ 0
  down_is_set faults knows = λ down_is. elim knows.1 [
    | inl met ↦
        knows.0 (sym met ∙ right.down_met (λ none. knows.0 (sym met ∙ none)) ∙ down_is)
    | inr set ↦
        knows.0 (sym set ∙ right.down_set (λ none. knows.0 (sym set ∙ none)) ∙ down_is)
  ]

  -- where the writer met none, the last pass knows of none
  pub knows_no_fault : (c.writer).fault ≡ none → (faults : ℕ)
      → KnowsFault faults (pass_state_of v) → ⊥
  knows_no_fault up faults knows =
      down_is_set faults knows (((((c.closed).durable).down).at_home refl).1 up)

  -- a log has at most 4,096 segments of at most 2 ^ 30 bytes
  pub rooms_are_low : rooms_of (opening.setup).seg_size order ≤ 2 ^ 42
  rooms_are_low =
      let setup_is = (c.sound).setup_is in
      omega (
        arith,
        ((c.closed).accounted).within,
        (((c.sound).reserved).placed).from,
        capacity_of-le (opening.setup).seg_size (opening.setup).cap_segments setup_is.size
            setup_is.cap_high,
      )

  -- it is closed on the disk's tape, where that is told
  pub closed_on : (opening.setup).sysid < 2 ^ 64 → (t : Tape)
      → tape_from c.first (c.writer).calls ≡ Some t → BeganSuited opening t
      → IsClosedOn opening order t v
  closed_on narrow t is = told_from (λ (t : Tape). BeganSuited opening t
      → IsClosedOn opening order t v) c.first (c.writer).calls t is (λ calls told began. record {
        words = c.words;
        writer = c.writer;
        views = c.views;
        id = c.id;
        sound = c.sound;
        order_is = c.order_is;
        here = c.here;
        closed = c.closed;
        narrow = narrow;
        calls_is = told;
        began = began;
      })
