-- A change that was answered is in the map that the next opening gives.
use Rattle.std.proofs.Common.{◌≡◌, ℕ, ◌^◌, ◌+◌, ◌<◌, List, [], ◌∷◌, ◌++◌, length, Option, Some, Ok, inl, refl, sym, ap, subst, ◌∙◌, arith}
use Rattle.std.specs.Prelude.{IsSome}
use Rattle.std.specs.Str.{bytes_eq}
use Rattle.std.specs.Cmp.Lexicographic.{bytes_decides}
use Rattle.std.proofs.lemmas.Bool.{cond-true}
use Rattle.std.proofs.lemmas.List.{append-nil, length-append, take_all}
use Rattle.std.proofs.lemmas.List.Elements.{All-cons, All-head, All-nil}
use Rattle.segment_disk.specs.declared.disk.Call.{Call}
use Rattle.segment_disk.specs.DiskImage.{image_as_read}
use Rattle.segment_disk.specs.Tape.{Tape, state_now}
use Rattle.flush_core.specs.Pages.{HoldsNothing}
use Rattle.wal_types.specs.declared.answers.Sealed.{Sealed}
use Rattle.wal_page.specs.Order.{Entry}
use Rattle.wal_reader.specs.Pages.{pages_in}
use Rattle.written_log_laws.specs.Torn.{NoTornPass}
use Rattle.machine_state.specs.declared.setup.Setup.{Setup}
use Rattle.wal_log.specs.declared.closing.Closed.{Closed}
use Rattle.wal_log.specs.Closing.{ClosesLog}
use Rattle.wal_log.specs.Logs.{opening_of_log}
use Rattle.wal_log_laws.specs.Growing.{IsFrontOf}
use Rattle.wal_log_laws.specs.History.{order_of}
use Rattle.wal_log_laws.specs.Lives.{PromisedRecordsStay}
use Rattle.durable_map.specs.Changes.{MapChange, MapMeaning, empty_map, map_of}
use Rattle.durable_map.specs.History.{LivesMap, WasAnswered, lives}
use Rattle.durable_map.specs.Lives.{AnsweredChangesStay}
use Rattle.durable_map.specs.OneSet.{FindsSet}
use Rattle.durable_map.specs.Opening.{OpensMap}
use Rattle.durable_map.specs.Stores.{AnswersCall, IsOpenMap, log_under, map_held, part_under}
use Rattle.durable_map.specs.declared.part.MapPart.{MapPart}
use Rattle.durable_map.specs.declared.store.DurableMap.{DurableMap}
use Rattle.durable_map.proofs.Changed.{after_all_push}
use Rattle.durable_map.proofs.FirstLife.{IsFirstLife, first_life}

-- ---- lists

no_items : (xs : List MapChange) → length xs ≡ 0 → xs ≡ []
no_items [] none = refl
no_items (x ∷ xs) none = absurd (omega (arith, none))

-- fronts of each other are the same
same_fronts : (xs ys : List MapChange) → IsFrontOf xs ys → IsFrontOf ys xs → ys ≡ xs
same_fronts xs ys first second =
    let longer = ap (λ (l : List MapChange). length l) first.1 ∙ length-append xs first.0 in
    let shorter = ap (λ (l : List MapChange). length l) second.1 ∙ length-append ys second.0 in
    first.1 ∙ ap (λ (l : List MapChange). xs ++ l)
    (no_items first.0 (omega (arith, longer, shorter))) ∙ append-nil xs

-- the last change of a key wins
last_wins : (changes : List MapChange) (change : MapChange)
    → map_of (changes ++ change ∷ []) change.key ≡ change.value
last_wins changes change =
    ap (λ (map : MapMeaning). map change.key)
    (after_all_push empty_map changes change)
    ∙ cond-true (bytes_eq change.key change.key) change.value (map_of changes change.key)
    ((bytes_decides change.key change.key).1 refl)

-- ---- two lives

module _ {D : Type 0} (tape : D → Option Tape) (moment faults : D → ℕ)
    (stay : PromisedRecordsStay tape moment faults)
    (answered : AnsweredChangesStay tape moment faults) (setup : Setup) (disk : D)
    (map : DurableMap D) (last : MapPart) (closed : Closed D) (again : DurableMap D)
    (change : MapChange)
    (sealed : Sealed) (opened : OpensMap tape moment faults setup disk map)
    (kept : IsOpenMap map)
    (call : AnswersCall (log_under map) change (part_under map) last (Ok sealed))
    (closes : ClosesLog tape moment faults (log_under map) last.pass closed)
    (reopened : OpensMap tape moment faults setup closed.disk again)
    (nothing : HoldsNothing (tape disk)) (tells : IsSome (tape disk))
    (narrow : setup.sysid < 2 ^ 64) where
  first : IsFirstLife tape moment faults setup disk map
  first = first_life tape moment faults stay setup disk map opened nothing tells narrow

  behind : (t : Tape) × (tape closed.disk ≡ Some t)
  behind = first.behind last.pass closed closes

  abbrev own : List Entry
  own = order_of tape moment faults (log_under map) last.pass closed closes

  abbrev upto : List MapChange
  upto = opened.read.changes ++ change ∷ []

  module _ (now : Tape) (told : tape closed.disk ≡ Some now)
      (none_torn : NoTornPass setup.seg_size
      (pages_in setup.seg_size (image_as_read (state_now now)))
      (order_of tape moment faults (log_under map) last.pass closed closes)) where
    abbrev at : ℕ
    at = length now.calls + sealed.moment + (opening_of_log (log_under map)).moment

    life : LivesMap tape moment faults setup.seg_size setup.sysid first.t now
        (first.front ++ order_of tape moment faults (log_under map) last.pass closed closes)
        (opened.read.changes ++ change ∷ []) ((opened.read.changes ++ change ∷ []) ∷ [])
    life = record {
      setup = setup;
      disk = disk;
      map = map;
      handed = first.handed;
      opened = opened;
      kept = kept;
      calls = record { change = change; answer = Ok sealed } ∷ [];
      last = last;
      called = (last, call, refl);
      front = first.front;
      below = first.below;
      at = at;
      ended = record {
        closed = closed;
        closes = closes;
        order_is = refl;
        now = now;
        after = told;
        since = omega arith;
        ends = record {
          left = inl (inl (ap (λ (cs : List Call). record now { calls = cs })
              (sym (take_all at now.calls (omega arith)))));
          no_torn_pass = subst (λ (es : List Entry). NoTornPass setup.seg_size
              (pages_in setup.seg_size (image_as_read (state_now now))) (es ++ own))
              (sym first.none) none_torn;
        };
      };
      begun_is = refl;
      told = All-cons (WasAnswered at opened.read.changes
          (record { change = change; answer = Ok sealed } ∷ [])) upto [] (record {
            before = [];
            change = change;
            sealed = sealed;
            others = [];
            are = refl;
            by = omega arith;
            upto_is = refl;
          }) (All-nil (WasAnswered at opened.read.changes
          (record { change = change; answer = Ok sealed } ∷ [])));
    }

    found : map_held again change.key ≡ change.value
    found =
        let is = answered setup.seg_size setup.sysid now (first.front ++ own) upto (upto ∷ [])
        (lives first.start life) setup closed.disk again
        (record { sized = refl; named = refl; before = told }) reopened in
        let same = same_fronts upto reopened.read.changes
        (All-head (λ upto. IsFrontOf upto reopened.read.changes) upto [] is.2) is.1 in
        is.0 change.key
        ∙ ap (λ (changes : List MapChange). map_of changes change.key) same
        ∙ last_wins opened.read.changes change

  pub finds_change : (value : List ℕ) → change.value ≡ Some value
      → FindsSet tape moment faults setup change.key value again
  finds_change value is = record {
    map = map;
    last = last;
    closed = closed;
    closes = closes;
    opened = reopened;
    now = behind.0;
    told = behind.1;
    found = λ none_torn. found behind.0 behind.1 none_torn ∙ is;
  }
