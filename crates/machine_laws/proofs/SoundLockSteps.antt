-- What a step rests on, in a sound state.
use Rattle.std.proofs.Common.{◌≡◌, ℕ, true, List, map, slice_index, ap, subst}
use mathlib.Core.Option.{Option}
use Rattle.machine_state.specs.Words.{Opening, prev_word, order_end, last_start}
use Rattle.machine_state.specs.Views.{HasAt, Place, Plain, Reserving, View, reserving_of}
use Rattle.machine_state.specs.Ordered.{AtPlace}
use Rattle.machine_state.specs.Steps.{StepKind, MayStep, word_of_step, home_behind}
use Rattle.machine_state.specs.Sound.{IsSound}
use Rattle.machine_state.proofs.Lists.{part_at}
use Rattle.machine_laws.specs.LocksBehind.{words_behind, views_behind, order_behind, stage_behind, writer_behind, StepsFrom, WorksHold, TurnsHold}
use Rattle.machine_laws.proofs.WorkSteps.{works_behind}
use Rattle.machine_laws.proofs.TurnSteps.{turns_behind}
use Rattle.segment_disk.specs.Tape.{DiskState}

module _ {first : DiskState} (opening : Opening) (words : List ℕ) (home : Option Plain) (views : List View)
    (k : IsSound first opening words home views) where
  -- what a sound state says of locks, watches and turns
  pub works_now : WorksHold opening k.order words views
  works_now = record {
    held = (k.locks).locks;
    told = k.progress;
    watched = k.watching;
  }

  pub turns_now : TurnsHold words home k.stage k.writer views
  turns_now = record { mapping = (k.locks).mapping; writing = (k.locks).writing }

  module _ (id : ℕ) (v : View) (here : HasAt views id v) (live : (v.reserving).live ≡ true) where
    -- a live view stands well in it
    pub stands_now : StepsFrom opening k.order words views id v
    stands_now =
        let size : ℕ = (opening.setup).seg_size in
        let r : Reserving = v.reserving in
        let part : HasAt (map reserving_of views) id r = part_at reserving_of views id v here in
        record {
          here = here;
          size = (k.setup_is).size;
          wide = k.wide;
          setup_is = ap (λ (o : Opening). o.setup) ((k.grounded id v here).opening_is live);
          seen = ((k.reserved).views id r part live).seen;
          starts = λ at prev is. (subst (λ (p : Place). AtPlace size (order_end opening k.order)
              (last_start opening k.order) (prev_word words) (k.reserved).locked
              (k.reserved).holder id p) is ((k.reserved).places id r part live)).2;
        }

    pub locks_behind : (e : StepKind) → MayStep v e
        → WorksHold opening (order_behind v e k.order) (words_behind words v e)
        (views_behind words home views id v e)
        × TurnsHold (words_behind words v e) (home_behind v e home)
        (stage_behind v e (slice_index words (word_of_step v e)) k.stage)
        (writer_behind v e k.writer) (views_behind words home views id v e)
    locks_behind e may = (
      works_behind opening k.order words home views id v stands_now works_now e may,
      turns_behind opening.setup words home k.stage k.writer views id v here k.wide (k.locks).locks
          turns_now e may,
    )
