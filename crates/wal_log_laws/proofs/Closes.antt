-- A log that was opened on a disk and closed leaves one order, and keeps what it promised.
use Rattle.std.proofs.Common.{◌≡◌, ℕ, ◌^◌, ◌<◌, ◌≤◌, List, [], length, Option, Some, IfSome, refl, sym, ap, ◌∙◌, subst, arith}
use mathlib.Core.Option.{some}
use Rattle.segment_disk.specs.Tape.{Tape}
use Rattle.flush_core.specs.Pages.{HoldsNothing}
use Rattle.wal_page.specs.Order.{Entry}
use Rattle.wal_page.specs.LogPlace.{LogPlace, end_from, new_place}
use Rattle.machine_state.specs.declared.setup.Setup.{Setup}
use Rattle.machine_state.specs.Suited.{BeganSuited, tape_from}
use Rattle.machine_state.specs.Views.{FlushPromise, View}
use Rattle.machine_state.specs.Words.{Opening, end_form, flushed_word, order_end}
use Rattle.machine_state.proofs.Tapes.{at_told}
use Rattle.wal_rule.specs.declared.pass.Pass.{Pass}
use Rattle.wal_rule.specs.Closing.{ClosesWith}
use Rattle.wal_rule.specs.Passes.{view_of_pass}
use Rattle.wal_rule.specs.Slotted.{first_on, slot_disk, slot_plain}
use Rattle.wal_rule.specs.Tables.{began_of_table}
use Rattle.wal_rule.proofs.SlotTapes.{tape_on_first}
use Rattle.wal_rule.proofs.OpeningTold.{began_suited}
use Rattle.machine_laws.specs.WholeOrders.{LiesBehind}
use Rattle.machine_laws.proofs.WholeOrders.{LiesBehind-new}
use Rattle.run_laws.specs.Closed.{IsClosedOn, WasPromised}
use Rattle.run_laws.specs.Rising.{LogsAreOfOrder}
use Rattle.run_laws.specs.Whole.{HoldsWhole}
use Rattle.run_laws.proofs.Closing.{told_from}
use Rattle.run_laws.proofs.Fronts.{survive}
use Rattle.run_laws.proofs.Promises.{within_words}
use Rattle.run_laws.proofs.ReadWhole.{whole}
use Rattle.run_laws.proofs.Risen.{risen}
use Rattle.run_laws.proofs.Timeliness.{timely}
use Rattle.wal_log.specs.declared.closing.Closed.{Closed}
use Rattle.wal_log.specs.declared.wal.Wal.{Wal}
use Rattle.wal_log.specs.Closing.{ClosesLog}
use Rattle.wal_log.specs.Logs.{opening_of_log, setup_of_log, table_of}
use Rattle.wal_log_laws.specs.Keeping.{IsClosedFrom, KeepsPromises, LeavesOrder, end_of_order}

-- ---- what a closed log keeps

module _ (opening : Opening) (order : List Entry) (t : Tape) (v : View)
    (c : IsClosedOn opening order t v)
    (fresh : opening.place ≡ new_place (opening.setup).seg_size) where
  -- on a new log nothing lies below
  lies : LiesBehind opening []
  lies = LiesBehind-new opening ((c.sound).setup_is).size fresh

  end_is : end_of_order opening.setup order ≡ end_form opening.setup (order_end opening order)
  end_is = ap (λ (p : LogPlace). end_form opening.setup
      (end_from (opening.setup).seg_size p order)) (sym fresh)

  flushed_whole : end_of_order opening.setup order ≤ flushed_word c.words
      → HoldsWhole (opening.setup).seg_size t order
  flushed_whole reaches = whole opening order t v c (omega (arith, end_is, reaches)) [] lies

  whole_as_promised : (entries : List Entry) (p : FlushPromise) → WasPromised v entries p
      → end_of_order opening.setup order ≤ p.upto
      → HoldsWhole (opening.setup).seg_size t order
  whole_as_promised entries p was reaches =
      let low = (within_words opening c.words (some c.writer) c.views c.sound c.id v c.here entries
      p was).upto_low in
      flushed_whole (omega (arith, low, reaches))

  keeps_promises : LogsAreOfOrder opening order v.reserving → KeepsPromises opening order t v
  keeps_promises logs = record {
    closed = c;
    logs = logs;
    fronts = survive opening order t v c [] lies;
    timely = timely opening order t v c order;
    flushed = flushed_whole;
    promised = whole_as_promised;
  }

-- ---- what a log leaves

-- a log that was closed, on whatever disk
module _ {D : Type 0} (tape : D → Option Tape) (moment faults : D → ℕ) (wal : Wal D) (pass : Pass)
    (closed : Closed D) (closes : ClosesLog tape moment faults wal pass closed) where
  abbrev ends : ClosesWith tape moment faults (began_of_table tape (table_of wal))
      (opening_of_log wal) (view_of_pass pass) closes.writer closes.position
  ends = closes.closes

  pub closed_logs : LogsAreOfOrder (opening_of_log wal) (((closes.closes).sound).order)
      (view_of_pass pass).reserving
  closed_logs = risen (opening_of_log wal) (ends.sound).order ends.words ends.views
      (view_of_pass pass).reserving (ends.closed).accounted

  module _ (t : Tape) (told : tape closed.disk ≡ Some t)
      (narrow : (setup_of_log wal).sysid < 2 ^ 64) where
    pub closed_tape : tape (slot_disk closes.writer) ≡ Some t
    closed_tape = ap tape closes.disk_is ∙ told

    -- the tape that the disk tells is that of the last state's writer
    own : tape_from (first_on (began_of_table tape (table_of wal)))
        (slot_plain tape moment closes.writer).calls ≡ Some t
    own = tape_on_first (first_on (began_of_table tape (table_of wal)))
        (tape (slot_disk closes.writer)) (ends.of_log).on_first ∙ closed_tape

    pub closed_on : BeganSuited (opening_of_log wal) t
        → IsClosedOn (opening_of_log wal) (((closes.closes).sound).order) t (view_of_pass pass)
    closed_on began = told_from (λ (t : Tape). BeganSuited (opening_of_log wal) t
        → IsClosedOn (opening_of_log wal) (ends.sound).order t (view_of_pass pass))
        (first_on (began_of_table tape (table_of wal)))
        (slot_plain tape moment closes.writer).calls t own
        (λ calls is suited. record {
          words = ends.words;
          writer = slot_plain tape moment closes.writer;
          views = ends.views;
          id = ends.id;
          sound = ends.sound;
          order_is = refl;
          here = ends.here;
          closed = ends.closed;
          narrow = narrow;
          calls_is = is;
          began = suited;
        }) began

module _ {D : Type 0} (tape : D → Option Tape) (moment faults : D → ℕ)
    (counts : (disk : D) → IfSome (tape disk) (λ t. moment disk ≡ length t.calls))
    (setup : Setup) (disk : D) (wal : Wal D) (pass : Pass) (closed : Closed D)
    (run : IsClosedFrom tape moment faults setup disk wal pass closed)
    (narrow : setup.sysid < 2 ^ 64) where
  abbrev opening : Opening
  opening = opening_of_log wal

  abbrev began : Option Tape
  began = began_of_table tape (table_of wal)

  abbrev mine : View
  mine = view_of_pass pass

  abbrev its_ends : ClosesWith tape moment faults (began_of_table tape (table_of wal))
      (opening_of_log wal) (view_of_pass pass) (run.closes).writer (run.closes).position
  its_ends = (run.closes).closes

  abbrev order : List Entry
  order = (((run.closes).closes).sound).order

  logs : LogsAreOfOrder (opening_of_log wal) (((run.closes).closes).sound).order
      (view_of_pass pass).reserving
  logs = closed_logs tape moment faults wal pass closed run.closes

  fresh_there : (opening_of_log wal).place ≡ new_place ((opening_of_log wal).setup).seg_size
  fresh_there = ap (λ (o : Opening). o.place) (run.opened).opening
      ∙ ap (λ (o : Opening). new_place (o.setup).seg_size) (sym (run.opened).opening)

  ends_there : closed.end.0 ≡ end_of_order (setup_of_log wal) (((run.closes).closes).sound).order
  ends_there = (run.closes).end_is ∙ ap (λ (n : ℕ). end_form (setup_of_log wal) n)
      (its_ends.position_is ∙ ((its_ends.closed).free).position)
      ∙ ap (λ (p : LogPlace). end_form (setup_of_log wal)
      (end_from (setup_of_log wal).seg_size p order)) fresh_there

  its_narrow : (setup_of_log wal).sysid < 2 ^ 64
  its_narrow = subst (λ (n : ℕ). n < 2 ^ 64)
      (sym (ap (λ (o : Opening). (o.setup).sysid) (run.opened).opening)) narrow

  -- the tape at the opening counts up to the moment of the opening
  counted : IfSome (began_of_table tape (table_of wal))
      (λ (t : Tape). (opening_of_log wal).moment ≡ length t.calls)
  counted =
      let moment_is = ap (λ (o : Opening). o.moment) (run.opened).opening in
      let now = subst (λ (n : ℕ). IfSome (tape disk) (λ (t : Tape). n ≡ length t.calls))
      (sym moment_is) (counts disk) in
      subst (λ (o : Option Tape). IfSome o (λ (t : Tape). opening.moment ≡ length t.calls))
      (sym (run.opened).began) now

  module _ (nothing : HoldsNothing (tape disk)) (t : Tape) (told : tape closed.disk ≡ Some t) where
    began_on : BeganSuited (opening_of_log wal) t
    began_on = at_told (BeganSuited opening) (tape (slot_disk (run.closes).writer)) t
        (closed_tape tape moment faults wal pass closed run.closes t told its_narrow)
        (began_suited opening began (tape (slot_disk (run.closes).writer))
        (ap (λ (o : Opening). o.made) (run.opened).opening)
        (subst HoldsNothing (sym (run.opened).began) nothing) counted (its_ends.of_log).on_first
        (its_ends.of_log).goes_on)

    closed_there : IsClosedOn (opening_of_log wal) (((run.closes).closes).sound).order t
        (view_of_pass pass)
    closed_there = closed_on tape moment faults wal pass closed run.closes t told its_narrow began_on

    keeps : KeepsPromises (opening_of_log wal) (((run.closes).closes).sound).order t
        (view_of_pass pass)
    keeps = keeps_promises opening order t mine closed_there fresh_there logs

  pub leaves_order : (order : List Entry) × LeavesOrder tape disk wal pass closed order
  leaves_order = (order, record { end_is = ends_there; logs = logs; keeps = keeps })
