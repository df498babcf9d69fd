-- A table's last state gives its writer and its position back.
use Rattle.std.proofs.Common.{◌≡◌, ℕ, true, List, [], ◌∷◌, slice_index, sym, ap, ◌∙◌, subst}
use mathlib.Core.Option.{Option, some, some-injective, some-ne-none}
use lib.ListN.{get_elem?}
use Rattle.atomic_table.specs.Table.{State, Final, Seen}
use Rattle.segment_disk.specs.Tape.{DiskState, Tape}
use Rattle.machine_state.specs.Words.{Opening, position_word}
use Rattle.machine_state.specs.Views.{Plain, View}
use Rattle.machine_state.specs.Sound.{IsSound}
use Rattle.machine_laws.specs.ClosedLogs.{HasAllNumbers, IsClosed, IsLastPass}
use Rattle.machine_laws.proofs.ClosingLaws.{closed}
use Rattle.machine_laws.proofs.EveryMoment.{logs_rise}
use Rattle.wal_rule.specs.declared.writer.LogWriter.{LogWriter}
use Rattle.wal_rule.specs.Closing.{ClosesWith}
use Rattle.wal_rule.specs.Ruled.{IsRuled, home_of}
use Rattle.machine_state.specs.Steps.{IsResting}
use Rattle.wal_rule.specs.Slotted.{IsOfLog, first_on, slot_plain}
use Rattle.wal_rule.specs.WordPlaces.{words_of}
use Rattle.wal_rule.proofs.WordPlaceLaws.{word_there}
use Rattle.wal_rule.proofs.Allowed.{is_home}

-- the position's word lies first
first_word : (memory : List ℕ) (n : ℕ) → get_elem? memory 0 ≡ some n → n ≡ slice_index memory 0
first_word [] n at = absurd (some-ne-none n (sym at))
first_word (m ∷ memory) n at = some-injective n m (sym at)

module _ {D : Type 0} (tape : D → Rattle.std.specs.Prelude.Option Tape) (moment faults : D → ℕ)
    (opening : Opening) (began : Rattle.std.specs.Prelude.Option Tape) where
  abbrev first : DiskState
  first = first_on began

  abbrev Held : State (LogWriter D) View → Type 0
  Held s = IsRuled tape moment faults opening began s.words s.homes s.views

  module _ (id : ℕ) (v : View) (live : (v.reserving).live ≡ true) (rests : IsResting v)
      (numbers : HasAllNumbers (opening.setup).passes v.reserving) where
    abbrev mine : View
    mine = v

    last : IsLastPass opening mine
    last = record { live = live; rests = rests; numbers = numbers }

    -- the machine's last state, with this writer at home
    abbrev Ends : List ℕ → List View → Option Plain → Plain → Type 0
    Ends words views home writer = (k : IsSound first opening words home views)
        × IsClosed first opening k.order words home writer views id mine

    pub closes : (memory : List ℕ) (slots : List (LogWriter D)) (w : LogWriter D)
        (position : ℕ) → Final (Seen Held id v) (words_of memory) slots
        → get_elem? slots 0 ≡ some w → get_elem? memory 0 ≡ some position
        → ClosesWith tape moment faults began opening v w position
    closes memory slots w position end taken found =
        let s = end.0 in
        let k : Held s = (end.1).0 in
        let views : List View = s.views in
        let home : Option Plain = home_of tape moment faults s.homes in
        let here = (end.1).1 in
        let c = closed opening s.words home views k.sound id mine here last in
        let h = is_home tape moment faults opening began s.homes (k.sound).writer c.at_home in
        let same : h.0 ≡ w = some-injective h.0 w (sym (end.4 0 h.0 h.1) ∙ taken) in
        let plain : Plain = slot_plain tape moment w in
        let home_is : home ≡ some plain =
        h.2 ∙ ap (λ (x : LogWriter D). some (slot_plain tape moment x)) same in
        let writer_is : (k.sound).writer ≡ plain =
        some-injective (k.sound).writer plain (sym c.at_home ∙ home_is) in
        let e : Ends s.words views home plain = (
          k.sound,
          subst (λ (p : Plain). IsClosed first opening (k.sound).order s.words home p views id
              mine) writer_is c,
        ) in
        let f : Ends s.words views (some plain) plain =
        subst (λ (o : Option Plain). Ends s.words views o plain) home_is e in
        record {
          of_log = subst (λ (x : LogWriter D). IsOfLog tape faults began opening x) same
              (k.of_log h.0 h.1);
          words = s.words;
          position_is = first_word memory position found ∙ sym (word_there memory 0)
              ∙ ap (λ (ws : List ℕ). position_word ws) (sym end.2);
          views = views;
          id = id;
          here = here;
          sound = f.0;
          closed = f.1;
          in_order = logs_rise opening s.words home views k.sound k.rises id mine here;
        }
