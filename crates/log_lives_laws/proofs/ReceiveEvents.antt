-- A call of `receive` opens a standby or not, and what it is fed with are events.
use Rattle.std.proofs.Common.{◌≡◌, ℕ, inl, inr, List, [], ◌∷◌, ◌++◌, Option, Result, Ok, Err, refl, sym, ap, subst, ◌∙◌}
use Rattle.std.proofs.lemmas.List.{append-nil, append_assoc}
use Rattle.segment_disk.specs.Tape.{Tape}
use Rattle.waldump_text.specs.Put.{Puts}
use Rattle.waldump_text.specs.declared.putting.SinkFault.{SinkFault as SinkFailed}
use Rattle.wal_page.specs.Order.{Entry}
use Rattle.found_log.specs.Found.{LeavesUnsettled}
use Rattle.found_log.specs.declared.fault.FindFault.{FindFault}
use Rattle.found_log.specs.declared.fault.FindFault.TheVariants as finding
use Rattle.wal_stream.specs.Opened.{StandsAtFound}
use Rattle.wal_stream.specs.Standby.{standby_disk, standby_end}
use Rattle.wal_stream.specs.Sent.{promised_at}
use Rattle.wal_stream.specs.declared.outcome.ReceivingEnd.{ReceivingEnd}
use Rattle.wal_stream.specs.declared.outcome.ReceivingEnd.TheVariants as ends
use Rattle.wal_stream.specs.declared.outcome.Received.{Received}
use Rattle.backend_cli.specs.Outside.{disk_seen, outside_of}
use Rattle.backend_cli.specs.Receiving.{EndsReceived, IsNotReceived, IsReceived, outcome_put, outcome_unfound, received_text, standby_source}
use Rattle.backend_cli.specs.Setups.{system_id}
use Rattle.backend_cli.specs.declared.outcome.Outcome.{Outcome}
use Rattle.backend_cli.specs.declared.outcome.Outcome.TheVariants.{Done}
use Rattle.standby_laws.specs.History.{Closed, Lived, begins, crashes, fails_to_open, is_killed, told_by, told_since}
use Rattle.standby_laws.proofs.ReceivedLaws.{lived_receiving}
use Rattle.log_lives_laws.specs.Receives.{HistoryGoesOn, IsReceiveCall, ReceiveCall, ThreeGoOn, ThreeReceives}

-- no call ends with status 0 that opened no standby
unfound_not_done : (outcome : Outcome) (fault : FindFault) → outcome ≡ outcome_unfound fault
    → outcome ≡ Done → ⊥
unfound_not_done outcome finding.Memory is done = absurd (let no : ⊥ = cc in no)
unfound_not_done outcome (finding.Disk faults) is done = absurd (let no : ⊥ = cc in no)
unfound_not_done outcome (finding.Beyond segment) is done = absurd (let no : ⊥ = cc in no)
unfound_not_done outcome (finding.Foreign stop) is done = absurd (let no : ⊥ = cc in no)

module _ (old new : Option (List ℕ)) (before after now : ℕ) (received : Received)
    (outcome : Outcome) where
  put_done : (result : Result (Unit {0}) SinkFailed)
      → Puts old new before after (received_text received) result → outcome ≡ outcome_put result
      → outcome ≡ Done → Puts old new before after (received_text received) (Ok tt)
  put_done (Ok done) puts is ok = puts
  put_done (Err fault) puts is ok = absurd (let no : ⊥ = cc in no)

  -- where it does, its line was printed, and tells what was hardened
  done_tells : (ended : ReceivingEnd) → EndsReceived old new before after received ended outcome
      → outcome ≡ Done
      → Puts old new before after (received_text received) (Ok tt)
      × (promised_at ended now received.upto.0 ≡ (now, received.upto.0) ∷ [])
  done_tells ends.Source is ok = (put_done is.0 is.1 is.2 ok, refl)
  done_tells ends.TooMany is ok = absurd (let told = is.2 in let no : ⊥ = cc in no)
  done_tells (ends.Diverged at) is ok = absurd (let told = is.2 in let no : ⊥ = cc in no)
  done_tells ends.SourceFault is ok = absurd (let told = is.2 in let no : ⊥ = cc in no)
  done_tells (ends.Disk faults) is ok = absurd (let told = is.2 in let no : ⊥ = cc in no)

module _ {D O : Type 0} (tape : D → Option Tape) (moment faults : D → ℕ)
    (taken : O → Option (List ℕ)) (sink_faults : O → ℕ) (size : ℕ) (es : List Entry) where
  module _ (since : ℕ) (told : List (ℕ × ℕ)) (disk disk_now : D) (call : ReceiveCall O)
      (is : IsReceiveCall tape moment faults taken sink_faults size es disk disk_now call)
      (lived : Lived tape moment faults size system_id es since told (Closed disk)) where
    abbrev Goes : Type 0
    Goes = HistoryGoesOn tape moment faults taken sink_faults size es since told disk_now call

    not_received : IsNotReceived (outside_of call.source call.source_now tape moment faults disk
        disk_now taken sink_faults call.out call.out_now) call.asked call.outcome → Goes
    not_received none =
        let leaves = subst (λ (n : ℕ). LeavesUnsettled n call.asked.cap_segments
        (tape disk) (tape disk_now) (moment disk) (moment disk_now) none.fault) is.size_is
        none.unsettled in
        record {
          more = [];
          lived = subst (λ (l : List (ℕ × ℕ)). Lived tape moment faults size system_id es since l
              (Closed disk_now)) (sym (append-nil told))
              (fails_to_open since told call.asked.cap_segments disk disk_now none.fault lived
              is.in_range.1 is.none_torn leaves);
          printed = λ done. absurd
              (unfound_not_done call.outcome none.fault none.outcome_is done);
        }

    fed : IsReceived (disk_seen tape moment faults disk disk_now) (outside_of call.source
        call.source_now tape moment faults disk disk_now taken sink_faults call.out call.out_now)
        call.asked call.outcome → Goes
    fed some =
        let first = some.first in
        let last = some.feeds.last in
        let received = some.feeds.received in
        let from = moment (standby_disk first) in
        let found : List (ℕ × ℕ) = (from, standby_end first) ∷ [] in
        let promised = promised_at received.ended (moment (standby_disk last)) received.upto.0 in
        let stands = subst (λ (n : ℕ). StandsAtFound tape moment faults n
        call.asked.cap_segments disk first) is.size_is some.opened in
        let all = lived_receiving tape moment faults size system_id es since is.hardened told
        call.asked.cap_segments from disk first last (standby_source call.source)
        (standby_source call.source_now) received lived is.in_range.1 is.none_torn stands
        (inl refl) some.feeds.receives is.comes in
        let ordered = subst (λ (l : List (ℕ × ℕ)). Lived tape moment faults size system_id es since
        l (Closed (standby_disk last))) (append_assoc told found promised) all in
        record {
          more = found ++ promised;
          lived = subst (λ (d : D). Lived tape moment faults size system_id es since
              (told ++ (found ++ promised)) (Closed d)) (sym some.feeds.disk_is) ordered;
          printed = λ done.
              (let tells = done_tells (taken call.out) (taken call.out_now) (sink_faults call.out)
              (sink_faults call.out_now) (moment (standby_disk last)) received call.outcome
              received.ended some.feeds.ends done in (
                received,
                found,
                tells.0,
                ap (λ (l : List (ℕ × ℕ)). found ++ l) tells.1
                    ∙ ap (λ (n : ℕ). found ++ (n, received.upto.0) ∷ [])
                    (sym (ap moment some.feeds.disk_is)),
              ));
        }

    pub goes_on : HistoryGoesOn tape moment faults taken sink_faults size es since told disk_now call
    goes_on = elim is.holds.0 [ inl none ↦ not_received none | inr some ↦ fed some ]

  pub three_go_on : (begun first killed second left third : D) (one two three : ReceiveCall O)
      (killed_at crashed_at : ℕ)
      → ThreeReceives tape moment faults taken sink_faults size es begun first killed second left
      third one two three killed_at crashed_at
      → ThreeGoOn tape moment faults taken sink_faults size es begun first killed second left third
      one two three killed_at crashed_at
  three_go_on begun first killed second left third one two three killed_at crashed_at are =
      let since = moment begun in
      let beginning = begins begun are.t are.told are.may in
      let first_goes = goes_on since [] begun first one are.one_is beginning in
      let stopped = is_killed since first_goes.more (Closed first) killed_at are.t_first
      are.t_killed killed first_goes.lived are.told_first are.later are.stops are.told_killed in
      let second_goes = goes_on since (told_by killed_at first_goes.more) killed second two
      are.two_is stopped in
      let told = told_by killed_at first_goes.more ++ second_goes.more in
      let crashed = crashes since told (Closed second) crashed_at are.t_second are.t_left left
      second_goes.lived are.told_second are.later_still are.crash are.told_left in
      record {
        first_goes = first_goes;
        second_goes = second_goes;
        third_goes = goes_on (moment left)
            (told_since (moment left) (told_by crashed_at told)) left third three are.three_is
            crashed;
      }
