-- Why a record is refused, by what holds of a full log and of a start: since an earlier view, by
-- what holds besides, and with the locks given back.
use Rattle.std.specs.Prelude.{None, Some}
use Rattle.std.proofs.Common.{◌≡◌, ℕ, refl, sym, ap, ◌∙◌, subst}
use Rattle.wal_spelling.specs.Spelling.{Assembled}
use Rattle.machine_state.specs.declared.setup.Setup.{Setup}
use Rattle.machine_state.specs.Views.{View}
use Rattle.wal_log.specs.declared.inserting.InsertErr.{InsertErr}
use Rattle.wal_log.specs.declared.inserting.InsertErr.TheVariants.{Full, Disk, Down}
use Rattle.wal_log.specs.Downs.{KnowsNoFault, MeetsDown}
use Rattle.wal_log.specs.Inserting.{RefusesInsert, RefusesRecord}
use Rattle.wal_log.specs.PassLogs.{log_of_pass}
use Rattle.wal_log.specs.Switching.{RefusesSwitch}
use Rattle.wal_log.proofs.Keeping.{meets_since}
use Rattle.wal_log.proofs.Unlocking.{rested}

module _ (full more started begun : ℕ → Type 0) where
  pub refused_since : (old mid new : View) → log_of_pass mid ≡ log_of_pass old
      → mid.writing.down_set ≡ old.writing.down_set → ((free : ℕ) → full free → more free)
      → ((start : ℕ) → started start → begun start) → (e : InsertErr)
      → RefusesRecord full started mid new e → RefusesRecord more begun old new e
  refused_since old mid new same set at_full at_start (Full free) why =
      (at_full free why.0, why.1)
  refused_since old mid new same set at_full at_start (Disk faults start) why =
      (at_start start.0 why.0, why.1)
  refused_since old mid new same set at_full at_start (Down faults None) why =
      (why.0 ∙ same, meets_since old mid new faults set why.1)
  refused_since old mid new same set at_full at_start (Down faults (Some start)) why =
      (at_start start.0 why.0, meets_since old mid new faults set why.1)

  pub refused_as : (old new : View) → ((free : ℕ) → full free → more free)
      → ((start : ℕ) → started start → begun start) → (e : InsertErr)
      → RefusesRecord full started old new e → RefusesRecord more begun old new e
  refused_as old new at_full at_start e why =
      refused_since old old new refl refl at_full at_start e why

-- with the locks given back, where nothing was reserved
module _ (full more : ℕ → Type 0) where
  pub refused_rests : (old v new : View) → new ≡ rested v → ((free : ℕ) → full free → more free)
      → (e : InsertErr) → RefusesRecord full (λ start. ⊥) old v e
      → RefusesRecord more (λ start. ⊥) old new e
  refused_rests old v new is at_full (Full free) why = (
    at_full free why.0,
    subst KnowsNoFault (sym is) (record { met = (why.1).met; set = (why.1).set }),
  )
  refused_rests old v new is at_full (Disk faults start) why = absurd why.0
  refused_rests old v new is at_full (Down faults None) why = (
    ap (λ (w : View). log_of_pass w) is ∙ why.0,
    subst (λ (w : View). MeetsDown faults old w) (sym is)
        (record { met = (why.1).met; some = (why.1).some; set_none = (why.1).set_none }),
  )
  refused_rests old v new is at_full (Down faults (Some start)) why = absurd why.0

-- a segment switch is refused as an insert of its record is
pub switch_refused : (setup : Setup) (body : Assembled) (old new : View) (e : InsertErr)
    → RefusesSwitch setup body old new e → RefusesInsert setup body old new e
switch_refused setup body old new e why = refused_as _ _ _ _ old new (λ free room. room.full)
    (λ start started. record {
      entry = started.entry;
      reserved = (started.switched).reserved;
      start_is = started.start_is;
    }) e why
