-- What a line that ends its segment leaves of its pass.
use Rattle.std.specs.Prelude.{Result, Ok, Err, Some, None}
use Rattle.std.proofs.Common.{◌≡◌, ℕ, ◌<◌, sym, ap, ◌∙◌, subst, inl, inr, arith}
use Rattle.wal_spelling.specs.Record.{switch_record}
use Rattle.wal_spelling.specs.Spelling.{Assembled, assembled}
use Rattle.wal_page.specs.Order.{Entry, assembled_room_at, finish_of, start_of}
use Rattle.run_laws.specs.declared.told.Told.{Told}
use Rattle.run_script.specs.Asked.{Switch}
use Rattle.machine_state.specs.declared.setup.Setup.{Setup}
use Rattle.machine_state.specs.Moves.{entry_reserved}
use Rattle.machine_state.specs.Words.{log_limit}
use Rattle.wal_rule.specs.Downs.{KnowsDown}
use Rattle.machine_state.specs.Views.{View}
use Rattle.wal_log.specs.declared.inserting.InsertErr.{InsertErr}
use Rattle.wal_log.specs.declared.inserting.InsertErr.TheVariants as inserts
use Rattle.wal_log.specs.declared.switching.Switch as switching
use Rattle.wal_log.specs.declared.switching.Switch.TheVariants as switched
use Rattle.wal_log.specs.PassLogs.{log_of_pass}
use Rattle.wal_log.specs.Standing.{KeepsPass}
use Rattle.wal_log.specs.Switching.{AnswersSwitch, HasSwitched, IsSwitchStarted}
use Rattle.run_laws.specs.Played.{Leaves, PlaysLine, TellsCause, Reserves, pass_state_of}
use Rattle.run_backends.proofs.EndsKept.{told_of_switched}
use Rattle.run_backends.proofs.LinePasses.{refusal_caused, reserves_of}

module _ (setup : Setup) (body : Assembled) (old new : View) where
  switch_is : (e : Entry) (has : HasSwitched setup body old new e)
      → e ≡ entry_reserved (old.reserving).number ((has.reserved).own).at switch_record
  switch_is e has =
      let own = (has.reserved).own in
      let value : own.value ≡ switch_record =
      sym (ap (λ (x : Entry). x.value) own.entry_is) ∙ (has.switch).switches in
      own.entry_is ∙ ap (entry_reserved (old.reserving).number own.at) value

  reserves_switch : (e : Entry) (has : HasSwitched setup body old new e) (start : ℕ)
      → start ≡ start_of setup.seg_size e
      → Reserves setup.seg_size (log_limit setup) (old.reserving).number switch_record start
      (log_of_pass old) (log_of_pass new)
  reserves_switch e has start start_is =
      reserves_of setup old switch_record e ((has.reserved).own).at (switch_is e has) start
      (log_of_pass new) start_is (has.reserved).log_is

  switch_started : (start : ℕ) → IsSwitchStarted setup body old new start
      → Reserves setup.seg_size (log_limit setup) (old.reserving).number switch_record start
      (log_of_pass old) (log_of_pass new)
  switch_started start told = reserves_switch told.entry told.switched start told.start_is

  module _ (is_body : body ≡ assembled switch_record) where
    switched_leaves : (answer : Result switching.Switch InsertErr)
        → AnswersSwitch setup body old answer new
        → Leaves setup.seg_size (log_limit setup) (old.reserving).number Switch
        (told_of_switched answer) (pass_state_of old) (pass_state_of new)
    unfolding reserves_switch
    switched_leaves (Ok (switched.Done start end)) told = record {
      reserved = reserves_switch told.entry told.switched start.0 told.start_is;
      end_is = told.end_is
          ∙ ap (finish_of setup.seg_size) (switch_is told.entry told.switched);
    }
    switched_leaves (Ok (switched.Stayed end)) told = record {
      at = told.at;
      end_is = told.end_is;
      starts = told.starts;
      log_is = told.log_is;
    }
    switched_leaves (Err (inserts.Full free)) why =
        let full = why.0.full in (
          record {
            at = full.at;
            free_is = (let is = full.free_is in let within = full.within in
                omega (arith, is, within));
            short = subst
                (λ (a : Assembled). free < assembled_room_at setup.seg_size full.at a)
                is_body full.short;
            log_is = full.log_is;
          },
          (why.0.some, why.0.few),
        )
    switched_leaves (Err (inserts.Disk faults start)) why =
        ((switch_started start.0 why.0, (why.1.some, inr why.1.set)), tt)
    switched_leaves (Err (inserts.Down faults None)) why =
        ((why.0, (why.1.some, inl why.1.met)), tt)
    switched_leaves (Err (inserts.Down faults (Some start))) why =
        ((switch_started start.0 why.0, (why.1.some, inl why.1.met)), tt)

    switched_caused : (answer : Result switching.Switch InsertErr)
        → AnswersSwitch setup body old answer new
        → TellsCause (told_of_switched answer) (pass_state_of old) (pass_state_of new)
    switched_caused (Ok (switched.Done start end)) told = (told.up.met, told.up.set)
    switched_caused (Ok (switched.Stayed end)) told = (told.up.met, told.up.set)
    switched_caused (Err e) why = refusal_caused _ _ old new e why

    pub plays_switch : KeepsPass old new → (answer : Result switching.Switch InsertErr)
        (told : Told) → told ≡ told_of_switched answer → AnswersSwitch setup body old answer new
        → ((faults : ℕ) → KnowsDown faults old → answer ≡ Err (inserts.Down faults None))
        → PlaysLine setup.seg_size (log_limit setup) (old.reserving).number Switch told
        (pass_state_of old) (pass_state_of new)
    plays_switch keeps answer told is answers again = record {
      writable = tt;
      leaves = subst (λ (t : Told). Leaves setup.seg_size (log_limit setup)
          (old.reserving).number Switch t (pass_state_of old) (pass_state_of new)) (sym is)
          (switched_leaves answer answers);
      cause = subst (λ (t : Told). TellsCause t (pass_state_of old) (pass_state_of new)) (sym is)
          (switched_caused answer answers);
      counts = keeps.counts;
      async = tt;
      sees = keeps.rises;
      again = λ faults knows. is ∙ ap told_of_switched (again faults knows);
    }
