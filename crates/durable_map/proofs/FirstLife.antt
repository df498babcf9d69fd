-- The first life of a map, on a disk that tells what it holds and holds nothing.
use Rattle.std.proofs.Common.{◌≡◌, ℕ, zero, suc, ◌^◌, ◌<◌, List, [], ◌∷◌, ◌++◌, take, Option, Some, None, inl, inr, refl, sym, ap, subst, ◌∙◌, arith}
use Rattle.std.specs.Prelude.{IsSome}
use Rattle.std.proofs.lemmas.Bool.{cases_lt}
use Rattle.segment_disk.specs.Tape.{Tape}
use Rattle.flush_core.specs.Calls.{with_calls}
use Rattle.flush_core.specs.Pages.{HoldsNothing}
use Rattle.flush_core.specs.Settled.{MakesCalls, settle_calls}
use Rattle.flush_core.proofs.GrowingTapes.{with_calls-some}
use Rattle.wal_page.specs.Order.{Entry}
use Rattle.written_log_laws.specs.Written.{found_from, found_of}
use Rattle.machine_state.specs.declared.setup.Setup.{Setup}
use Rattle.machine_state.specs.Sound.{IsSetup}
use Rattle.machine_state.specs.Words.{Opening}
use Rattle.wal_log.specs.declared.closing.Closed.{Closed}
use Rattle.wal_rule.specs.declared.pass.Pass.{Pass}
use Rattle.wal_log.specs.declared.wal.Wal.{Wal}
use Rattle.wal_log.specs.Closing.{ClosesLog}
use Rattle.wal_log.specs.Logs.{opening_of_log, table_of}
use Rattle.wal_rule.specs.Tables.{began_of_table}
use Rattle.reopened_log_laws.specs.FoundFirst.{AreFoundEntries}
use Rattle.wal_log_laws.specs.History.{IsHandedIn}
use Rattle.wal_log_laws.specs.History as wal_lives
use Rattle.wal_log_laws.specs.Lives.{PromisedRecordsStay}
use Rattle.durable_map.specs.History.{MapHistory, starts_empty}
use Rattle.durable_map.specs.Opening.{OpensMap}
use Rattle.durable_map.specs.Stores.{log_under, part_under}
use Rattle.durable_map.specs.declared.store.DurableMap.{DurableMap}

some_told : (o : Option Tape) → IsSome o → (t : Tape) × (o ≡ Some t)
some_told None has = absurd (cc has)
some_told (Some t) has = (t, refl)

some_id : (n : ℕ) → (n ≡ 0 → ⊥) → 0 < n
some_id n other = elim (cases_lt 0 n) [
  | inl lt ↦ lt
  | inr none ↦ absurd (other (omega (arith, none)))
]

none_taken : (n : ℕ) (es : List Entry) → es ≡ [] → take n es ≡ []
none_taken zero es none = refl
none_taken (suc n) [] none = refl
none_taken (suc n) (e ∷ es) none = absurd (cc)

no_entries : (size prev : ℕ) (es : List Entry) → found_from size prev es ≡ [] → es ≡ []
no_entries size prev [] none = refl
no_entries size prev (e ∷ es) none = absurd (cc)

-- what is closed is the same log
pub closes_same : {D : Type 0} (tape : D → Option Tape) (moment faults : D → ℕ) (wal other : Wal D)
    (pass : Pass) (closed : Closed D) → wal ≡ other
    → ClosesLog tape moment faults wal pass closed → ClosesLog tape moment faults other pass closed
closes_same {D} tape moment faults wal other pass closed same closes =
    subst (λ (w : Wal D). ClosesLog tape moment faults w pass closed) same closes

-- the disk told this tape, on which a history starts; no entries were found; and what is closed
-- tells a tape
pub record IsFirstLife {D : Type 0} (tape : D → Option Tape) (moment faults : D → ℕ)
    (setup : Setup) (disk : D) (map : DurableMap D) : Type 0 where
  pub t : Tape
  pub handed : IsHandedIn tape moment faults setup.seg_size setup.sysid t setup disk
  pub start : MapHistory tape moment faults setup.seg_size setup.sysid t [] [] []
  pub front : List Entry
  pub below : AreFoundEntries setup.seg_size t front
  pub none : front ≡ []
  pub behind : (pass : Pass) (closed : Closed D)
      → ClosesLog tape moment faults (log_under map) pass closed
      → (now : Tape) × (tape closed.disk ≡ Some now)

module _ {D : Type 0} (tape : D → Option Tape) (moment faults : D → ℕ)
    (stay : PromisedRecordsStay tape moment faults) (setup : Setup) (disk : D)
    (map : DurableMap D) (opened : OpensMap tape moment faults setup disk map)
    (nothing : HoldsNothing (tape disk)) (tells : IsSome (tape disk))
    (narrow : setup.sysid < 2 ^ 64) where
  its_setup : IsSetup setup
  its_setup = subst IsSetup (ap (λ (o : Opening). o.setup) opened.reopened.opening)
      (opened.reopened.openable).setup_is

  at_first : (t : Tape) × (tape disk ≡ Some t)
  at_first = some_told (tape disk) tells

  handed : IsHandedIn tape moment faults setup.seg_size setup.sysid at_first.0 setup disk
  handed = record { sized = refl; named = refl; before = at_first.1 }

  empty : HoldsNothing (Some at_first.0)
  empty = subst HoldsNothing at_first.1 nothing

  -- what the first opening found
  front : (es : List Entry) × AreFoundEntries setup.seg_size at_first.0 es × (es ≡ [])
  front =
      let is = (stay setup.seg_size setup.sysid at_first.0 [] [] (wal_lives.starts_empty
      its_setup.size (some_id setup.sysid its_setup.named) narrow empty)).finds setup
      opened.handed map.log (part_under map).pass opened.found (record {
        sized = refl;
        named = refl;
        before = opened.only_read.uncalled.same_tape ∙ at_first.1;
      }) opened.reopened in (
        is.0,
        is.1,
        no_entries setup.seg_size 0 is.0
            (is.4.front ∙ ap (found_of setup.seg_size) (none_taken is.4.count [] refl)),
      )

  -- what the disk tells that came back
  abbrev began : Option Tape
  began = began_of_table tape (table_of (log_under map))

  settling : MakesCalls (tape opened.handed) began (moment opened.handed)
      (opening_of_log (log_under map)).moment
      (settle_calls setup.seg_size (opened.found).end.0 opened.reopened.made)
  settling = opened.reopened.settled.calls

  began_is : began ≡ Some (record at_first.0 {
    calls = (at_first.0).calls ++ settling.calls;
  })
  began_is = settling.made.tape
      ∙ ap (λ (o : Option Tape). with_calls o settling.calls)
      (opened.only_read.uncalled.same_tape ∙ at_first.1)
      ∙ with_calls-some at_first.0 settling.calls

  pub first_life : IsFirstLife tape moment faults setup disk map
  first_life = record {
    t = at_first.0;
    handed = handed;
    start = starts_empty its_setup.size (some_id setup.sysid its_setup.named) narrow empty;
    front = front.0;
    below = front.1;
    none = front.2;
    behind = λ pass closed closes. some_told (tape closed.disk)
        (subst (λ (d : D). IsSome (tape d)) closes.disk_is
        (((closes.closes).of_log).told (subst (λ (o : Option Tape). IsSome o) (sym began_is) refl)));
  }
