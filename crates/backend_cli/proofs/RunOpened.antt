-- What a run has to show that began its log.
use Rattle.std.proofs.Common.{◌≡◌, ℕ, ◌<◌, List, [], length, Ok, Option, refl, sym, ◌∙◌, ap, subst, arith}
use Rattle.std.specs.Prelude.{IfSome}
use Rattle.byte_position.specs.Geometry.{IsSegmentSize}
use Rattle.byte_position.specs.Position.{first_position}
use Rattle.segment_disk.specs.Tape.{Tape}
use Rattle.flush_core.specs.Pages.{HoldsNothing}
use Rattle.wal_page.specs.Order.{rooms_of}
use Rattle.machine_state.specs.Sound.{IsSetup}
use Rattle.machine_state.specs.Words.{Opening, found_end, found_position}
use Rattle.machine_state.specs.declared.setup.Setup.{Setup}
use Rattle.machine_state.proofs.NothingFound.{nothing_ends}
use Rattle.machine_laws.specs.WholeOrders.{LiesBehind}
use Rattle.machine_laws.proofs.WholeOrders.{LiesBehind-new}
use Rattle.wal_rule.specs.Founded.{empty_log_opening}
use Rattle.wal_rule.specs.Tables.{began_of_table}
use Rattle.wal_rule.specs.declared.pass.Pass.{Pass}
use Rattle.wal_log.specs.Logs.{opening_of_log, table_of}
use Rattle.wal_log.specs.Opening.{IsOpened}
use Rattle.wal_log.specs.declared.wal.Wal.{Wal}
use Rattle.run_script.specs.Asked.{AskedLine}
use Rattle.waldump_text.proofs.SinkLaws.{with_behind-nil}
use Rattle.run_laws.specs.Told.{order_from}
use Rattle.run_laws.specs.declared.told.Told.{Told}
use Rattle.run_laws.specs.Ended.{logged_at_end}
use Rattle.run_laws.specs.Assured.{HoldsSuited}
use Rattle.run_laws.proofs.ClosedRuns.{empty_suited}
use Rattle.run_backends.specs.Backends.{lists_of}
use Rattle.cli_line.specs.declared.commands.RunOptions.{RunOptions}
use Rattle.backend_cli.specs.Concluding.{HasPlayedOut, IsConcluded}
use Rattle.backend_cli.specs.Outside.{SourceView, Took, outside_of}
use Rattle.backend_cli.specs.Printing.{printed_text}
use Rattle.backend_cli.specs.Run.{HoldsOpened, PlayHolds}
use Rattle.backend_cli.specs.Setups.{run_setup}
use Rattle.backend_cli.specs.Texts.{run_text}
use Rattle.backend_cli.specs.declared.outcome.Outcome.{Outcome}
use Rattle.backend_cli.proofs.HeadlineLaws.{answers_script, headline_of_run}
use Rattle.backend_cli.proofs.RunBackends.{told_holds}
use Rattle.backend_cli.proofs.RunEnds.{took}
use Rattle.backend_cli.proofs.RunLaws.{assured, assured_behind, counted, holds_behind, holds_since}
use Rattle.backend_cli.proofs.RunTexts.{text_is}

module _ {D : Type 0} (tape : D → Option Tape) (moment faults : D → ℕ) (setup : Setup) (disk : D)
    (wal : Wal D) (first : Pass) (opened : IsOpened tape moment faults setup disk wal first) where
  -- the log starts where segment 1 does
  pub begun_end : IsSetup setup → (size : ℕ) → setup.seg_size ≡ size → (end : ℕ) → end ≡ size
      → end ≡ found_end (opening_of_log wal)
  begun_end can_be size size_is end is =
      is ∙ sym size_is
      ∙ sym (nothing_ends (empty_log_opening setup (moment disk) (faults disk)) can_be.size refl)
      ∙ sym (ap (λ (o : Opening). found_end o) opened.opening)

  module _ (counts : IfSome (tape disk) (λ t. moment disk ≡ length t.calls)) where
    -- the opening's moment is the number of the calls that were counted then
    pub began_counted : IfSome (began_of_table tape (table_of wal))
        (λ t. (opening_of_log wal).moment ≡ length t.calls)
    began_counted =
        subst (λ (o : Opening). IfSome (began_of_table tape (table_of wal))
        (λ t. o.moment ≡ length t.calls)) (sym opened.opening)
        (subst (λ (began : Option Tape). IfSome began (λ t. moment disk ≡ length t.calls))
        (sym opened.began) counts)

    module _ (options : RunOptions) (script : List (List AskedLine))
        (setup_is : setup ≡ run_setup options (length script)) (can_be : IsSetup setup)
        (some : 0 < length script) where
      abbrev opening : Opening
      opening = empty_log_opening (run_setup options (length script)) (moment disk) (faults disk)

      opening_is : opening_of_log wal ≡ opening
      opening_is = opened.opening
          ∙ ap (λ (s : Setup). empty_log_opening s (moment disk) (faults disk)) setup_is

      valid : IsSegmentSize options.geometry
      valid = subst (λ (s : Setup). IsSegmentSize s.seg_size) setup_is can_be.size

      -- nothing lies below its place
      lies : LiesBehind opening []
      lies = LiesBehind-new opening valid refl

      suited : HoldsNothing (tape disk) → HoldsSuited opening (tape disk)
      suited nothing = empty_suited opening (tape disk) refl nothing

      module _ {O : Type 0} (sunk : O → Option (List ℕ)) (sink_faults : O → ℕ) (out out_now : O)
          (before after : SourceView) (outcome : Outcome) (disk_now : D)
          (lists_now : List (List Told))
          (out_of : HasPlayedOut tape moment faults wal options script (Ok tt) (sunk out)
          (sunk out_now) (sink_faults out) (sink_faults out_now) outcome disk_now lists_now) where
        abbrev lists : List (List Told)
        lists = lists_of out_of.backends

        concluded : IsConcluded options.geometry (found_position opening)
            (rooms_of options.geometry (order_from options.geometry 1 script lists)) options.list []
            out_of.backends (out_of.closed).down (sunk out) (sunk out_now) (sink_faults out)
            (sink_faults out_now) outcome
        concluded =
            subst (λ (o : Opening). IsConcluded options.geometry (found_position o)
            (rooms_of options.geometry
            (order_from options.geometry 1 script (lists_of out_of.backends))) options.list []
            out_of.backends (out_of.closed).down (sunk out) (sunk out_now) (sink_faults out)
            (sink_faults out_now) outcome) opening_is
            (out_of.concluded (sunk out) (sink_faults out) [] (sym (with_behind-nil (sunk out)), refl))

        text : printed_text options.list out_of.backends concluded.summary
            ≡ run_text options.geometry options.list (first_position options.geometry) script lists
            (order_from options.geometry 1 script lists)
        text = text_is options.geometry options.list script out_of.backends
            (found_position opening)
            (order_from options.geometry 1 script (lists_of out_of.backends)) concluded.summary
            (out_of.played).each concluded.summarizes
            (counted tape moment faults wal (tape disk) opening opening_is opened.began
            (omega arith) counts script out_of.backends out_of.closed out_of.played)

        holds : HoldsOpened (outside_of before after tape moment faults disk (out_of.closed).disk
            sunk sink_faults out out_now) options outcome script lists
        holds =
            let all = assured tape moment faults wal (tape disk) opening opening_is opened.began
            (omega arith) counts script out_of.backends out_of.closed out_of.played in
            let behind = assured_behind tape moment faults wal (tape disk) opening opening_is
            opened.began (omega arith) counts script out_of.backends out_of.closed out_of.played []
            lies in
            let logged = logged_at_end opening
            (order_from options.geometry 1 script (lists_of out_of.backends))
            (faults (out_of.closed).disk) in
            let printed = printed_text options.list out_of.backends concluded.summary in
            record {
              empty = opened.empty;
              headline = headline_of_run options.geometry (moment disk) valid script
                  (lists_of out_of.backends) (tape disk) (tape (out_of.closed).disk)
                  (answers_script logged 1 script (lists_of out_of.backends) all.told)
                  behind.gapless all.in_line_order (λ (nothing : HoldsNothing (tape disk)).
                  behind.crash (suited nothing));
              since = holds_since tape moment faults wal (tape disk) opening opening_is
                  opened.began (omega arith) counts script out_of.backends out_of.closed
                  out_of.played sunk sink_faults out out_now before after disk refl
                  (HoldsNothing (tape disk)) suited all.goes_on outcome (found_position opening)
                  (rooms_of options.geometry
                  (order_from options.geometry 1 script (lists_of out_of.backends))) options.list []
                  concluded;
              behind = holds_behind tape moment faults wal (tape disk) opening opening_is
                  opened.began (omega arith) counts script out_of.backends out_of.closed
                  out_of.played sunk sink_faults out out_now before after disk refl
                  (HoldsNothing (tape disk)) suited [] lies;
              printed = subst
                  (Took (sunk out) (sunk out_now) (sink_faults out) (sink_faults out_now)) text
                  (took (sunk out) (sunk out_now) (sink_faults out) (sink_faults out_now) printed
                  concluded.printed concluded.puts);
            }

        pub opened_plays : PlayHolds (outside_of before after tape moment faults disk disk_now sunk
            sink_faults out out_now) options outcome script lists_now
        opened_plays =
            subst (λ (d : D). PlayHolds (outside_of before after tape moment faults disk d sunk
            sink_faults out out_now) options outcome script lists_now) (sym out_of.disk_is)
            (subst (PlayHolds (outside_of before after tape moment faults disk
            (out_of.closed).disk sunk sink_faults out out_now) options outcome script)
            (sym out_of.lists_are)
            (told_holds (outside_of before after tape moment faults disk (out_of.closed).disk sunk
            sink_faults out out_now) options outcome script out_of.backends some
            (out_of.played).each holds))
