-- What an insert leaves whose copy is whole, or was given up.
use Rattle.std.proofs.Common.{◌≡◌, ℕ, ◌+◌, List, [], ◌∷◌, sym, ap, ◌∙◌, arith}
use Rattle.byte_position.specs.Position.{end_address_of}
use Rattle.wal_types.specs.declared.lsn.Lsn.{Lsn}
use Rattle.wal_spelling.specs.Spelling.{Assembled, assembled}
use Rattle.wal_page.specs.Order.{Entry, assembled_room_at, finish_of}
use Rattle.wal_page.specs.Placed.{PlacedState, placed_end}
use Rattle.wal_types.specs.declared.answers.Receipt.{Receipt}
use Rattle.machine_state.specs.declared.setup.Setup.{Setup}
use Rattle.machine_state.specs.Views.{View}
use Rattle.wal_log.specs.declared.beginning.Begun.{Begun}
use Rattle.wal_log.specs.declared.fault.Fault.{Fault}
use Rattle.wal_log.specs.declared.fault.Fault.TheVariants.{Disk, Down}
use Rattle.wal_log.specs.Beginning.{IsBegunUnder, IsPlaceBegun}
use Rattle.wal_log.specs.Downs.{KnowsNoFault, MeetsDown, MeetsFault}
use Rattle.wal_log.specs.Inserting.{HasReserved, InsertsOnly, IsReceipt, IsStarted, RefusesInsert, insert_err_of_fault}
use Rattle.wal_log.specs.PassLogs.{log_of_pass}
use Rattle.wal_log.specs.Standing.{KeepsPass}
use Rattle.wal_log.specs.Whole.{CopiesLast, CopiesWhole}
use Rattle.wal_log.proofs.Keeping.{both_up, meets_since, up_before}
use Rattle.wal_log.proofs.WholeLaws.{copied_since, last_since}

-- a record began under locks, and then its copy was ended or given up
module _ (setup : Setup) (body : Assembled) (locks : List ℕ) (old mid new : View) (start end : ℕ)
    (placed : PlacedState) (begun : IsBegunUnder setup body locks old mid start end placed)
    (before : KeepsPass old mid) (keeps : KeepsPass mid new)
    (same : log_of_pass new ≡ log_of_pass mid) where
  -- the entry stays reserved
  pub reserved_still : HasReserved setup body old new begun.entry
  reserved_still = record {
    own = (begun.reserved).own;
    log_is = same ∙ (begun.reserved).log_is;
    seen = omega (arith, (begun.reserved).seen, keeps.rises);
  }

  -- and ends where its record does at its place
  pub ends_there : end ≡ finish_of setup.seg_size begun.entry
  ends_there =
      let own = (begun.reserved).own in
      begun.end_is ∙ ap placed_end begun.placed_is
      ∙ ap (λ (a : Assembled). end_address_of setup.seg_size ((begun.entry).start
      + assembled_room_at setup.seg_size (begun.entry).start a))
      (sym (ap (λ (e : Entry). assembled e.value) own.entry_is ∙ own.of_body))

  -- the pass was up where the record began, and so it was before
  pub met_since : (faults : ℕ) → MeetsDown faults mid new → MeetsDown faults old new
  met_since faults meets = meets_since old mid new faults
      (both_up old mid (up_before old mid before begun.up) begun.up) meets

module _ (setup : Setup) (body : Assembled) (old mid new : View) (place : Begun)
    (begun : IsPlaceBegun setup body old mid place)
    (before : KeepsPass old mid) (keeps : KeepsPass mid new)
    (same : log_of_pass new ≡ log_of_pass mid) where
  abbrev locks : List ℕ
  locks = place.lock.0 ∷ []

  abbrev began : IsBegunUnder setup body locks old mid place.start.0 place.end.0 place.placed
  began = begun.place

  still : HasReserved setup body old new began.entry
  still = reserved_still setup body locks old mid new place.start.0 place.end.0 place.placed began
      before keeps same

  pub receives : CopiesWhole mid new began.entry → KnowsNoFault new → (receipt : Receipt)
      → receipt.start ≡ place.start → receipt.end ≡ place.end
      → IsReceipt setup body old new receipt
  receives whole up receipt from to = record {
    entry = began.entry;
    reserved = still;
    copied = copied_since old mid new began.entry before whole;
    start_is = ap (λ (l : Lsn). l.0) from ∙ began.start_is;
    end_is = ap (λ (l : Lsn). l.0) to
        ∙ ends_there setup body locks old mid new place.start.0 place.end.0 place.placed began
        before keeps same;
    up = up;
  }

  pub receives_only : CopiesLast mid new began.entry → KnowsNoFault new → (receipt : Receipt)
      → receipt.start ≡ place.start → receipt.end ≡ place.end
      → InsertsOnly setup body old new receipt
  unfolding receives
  receives_only last up receipt from to = record {
    told = receives last.copied up receipt from to;
    last = last_since old mid new began.entry before last;
  }

  started : IsStarted setup body old new place.start.0
  started = record { entry = began.entry; reserved = still; start_is = began.start_is }

  pub refuses : (fault : Fault) → MeetsFault mid new fault
      → RefusesInsert setup body old new (insert_err_of_fault place.start fault)
  refuses (Disk faults) told = (started, told)
  refuses (Down faults) told = (
    started,
    met_since setup body locks old mid new place.start.0 place.end.0 place.placed began before
        keeps same faults told,
  )
