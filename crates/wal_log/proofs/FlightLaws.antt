-- A record in flight, with its pass seated at the log's table and put back from there.
use Rattle.std.proofs.Common.{◌≡◌, ◌≢◌, ◌≤◌, inl, ℕ, List, [], length, refl, sym, ap, ◌∙◌, subst, arith}
use Rattle.byte_position.specs.Position.{address_of}
use Rattle.wal_spelling.specs.Spelling.{Assembled}
use Rattle.wal_types.specs.declared.answers.Receipt.{Receipt}
use mathlib.Core.Option.{some}
use Rattle.wal_page.specs.EntryWords.{words_owned}
use Rattle.wal_page.specs.Order.{Entry}
use Rattle.wal_page.specs.Placed.{PlacedState, placed_end}
use Rattle.machine_state.specs.Steps.{load_down, IsResting, IsStranded}
use Rattle.machine_state.specs.Views.{Copy, View, Working}
use Rattle.machine_state.specs.declared.setup.Setup.{Setup}
use Rattle.wal_rule.specs.declared.pass.Pass.{Pass}
use Rattle.wal_rule.specs.declared.seated.SeatedPass.{SeatedPass}
use Rattle.wal_rule.specs.declared.table.LogTable.{LogTable}
use Rattle.wal_rule.specs.declared.writer.LogWriter.{LogWriter}
use Rattle.wal_rule.specs.Downs.{KnowsDown}
use Rattle.wal_rule.specs.Passes.{view_of_pass}
use Rattle.wal_rule.specs.SeatedPasses.{HasView, Steps, setup_of, view_of}
use Rattle.wal_rule.specs.Stepping.{Meets}
use Rattle.wal_rule.specs.Tables.{IsPassOn, setup_of_table}
use Rattle.insert_locks.specs.Holding.{AreLocks, NothingLeft}
use Rattle.insert_locks.proofs.Runs.{one_lock, run_locks}
use Rattle.reserve_lock.specs.declared.reserving.Reserved.{Reserved}
use Rattle.word_ring.proofs.CopyLaws.{words-left}
use Rattle.wal_log.specs.declared.beginning.Begun.{Begun}
use Rattle.wal_log.specs.declared.held_locks.Held.{Held}
use Rattle.wal_log.specs.declared.held_locks.Held.TheVariants.{One, All}
use Rattle.wal_log.specs.declared.in_flight.Inflight.{Inflight}
use Rattle.wal_log.specs.declared.wal.Wal.{Wal}
use Rattle.wal_log.specs.Beginning.{IsBegunUnder, IsPlaceBegun}
use Rattle.wal_log.specs.Copying.{CopyGoesOn}
use Rattle.wal_log.specs.Downs.{KnowsNoFault, MeetsDown}
use Rattle.wal_log.specs.Flights.{BeginsFlight, Finishes, GivesUpCopy, IsHandedBack, IsInFlightOf, KeepsLog, view_of_flight}
use Rattle.wal_log.specs.HeldLocks.{locks_of}
use Rattle.wal_log.specs.Logs.{IsPassOfLog, setup_of_log, table_of}
use Rattle.wal_log.specs.PassLogs.{log_of_pass}
use Rattle.wal_log.specs.Standing.{CopiesAlone, CopiesUnder, KeepsPass, entry_in_flight, entry_of_flight}
use Rattle.wal_log.specs.Switching.{IsSwitchBegun}
use Rattle.wal_log.specs.Whole.{CopiesWhole}
use Rattle.wal_log.proofs.CopyLaws.{alone_rest, alone_whole}
use Rattle.wal_log.proofs.Keeping.{copies_stay, down_met_keeps, none_loaded, same_pass}
use Rattle.wal_log.proofs.Passing.{back_on, seen_is}
use Rattle.wal_log.proofs.Seated.{view_is}
use Rattle.wal_log.proofs.WholeLaws.{copies_whole}
use Rattle.wal_log.proofs.Unlocking.{landed_rests, locks_under, none_left, rested, rested_keeps, strands}

-- with the same start, another entry starts at the same address
same_start : (setup : Setup) (c : Copy) (placed : PlacedState) (start at : ℕ)
    → start ≡ address_of setup.seg_size at → placed.start ≡ at
    → (c.entry).start ≡ placed.start → start ≡ address_of setup.seg_size (c.entry).start
same_start setup c placed start at is there same =
    is ∙ ap (address_of setup.seg_size) (sym (same ∙ there))

-- an insert has one lock, a switch all: one at least
locks_some : (held : Held) → 1 ≤ length (locks_of held)
locks_some (One lock) = omega arith
locks_some All = omega arith

-- a pass copies under one lock what was begun so, or a switch under all
abbrev pub insert_flight : Pass → Begun → Inflight
insert_flight pass b = record {
  pass = pass;
  held = One b.lock;
  begun = record { start = b.start; end = b.end; placed = b.placed };
}

abbrev pub switch_flight : Pass → Reserved → Inflight
switch_flight pass r = record { pass = pass; held = All; begun = r }

module _ {D : Type 0} (wal : Wal D) (pass : Pass) (seated : SeatedPass D)
    (view : (seated.seat).me ≡ (view_of_pass pass, [])) (table : (seated.table).now ≡ table_of wal)
  where
    own : setup_of seated ≡ setup_of_log wal
    own = ap (λ (t : LogTable D). setup_of_table t) table

    -- what is so of a seated pass is so of the pass that is put back
    pub moved : (Answers : Setup → View → View → Type 0) (new : View) (after : Pass)
        → view_of_pass after ≡ new → Answers (setup_of seated) (view_of seated) new
        → Answers (setup_of_log wal) (view_of_pass pass) (view_of_pass after)
    moved Answers new after back answers = subst (λ (v : View). Answers (setup_of_log wal)
        (view_of_pass pass) v) (sym back)
        (subst (λ (v : View). Answers (setup_of_log wal) v new) (seen_is wal pass seated view)
        (subst (λ (s : Setup). Answers s (view_of seated) new) own answers))

    module _ (new : SeatedPass D) (same : new.table ≡ seated.table) (after : Pass)
        (back : view_of_pass after ≡ view_of new) (put : IsPassOn (new.table).now after) where
      -- ---- a place was begun

      flight_so : (body : Assembled) (held : Held) (r : Reserved) → AreLocks (locks_of held)
          → IsBegunUnder (setup_of_log wal) body (locks_of held) (view_of_pass pass)
          (view_of_pass after) r.start.0 r.end.0 r.placed
          → IsInFlightOf wal (record { pass = after; held = held; begun = r })
      flight_so body held r are b = record {
        of_log = back_on wal pass seated view new same table after put;
        are = are;
        copies = b.copies;
        start_is = same_start (setup_of_log wal) (b.copies).copy r.placed r.start.0 (b.entry).start
            b.start_is (ap (λ (p : PlacedState). p.start) b.placed_is)
            (sym (ap (λ (p : PlacedState). p.start) (b.copies).rest));
        end_is = b.end_is;
      }

      kept_so : KeepsPass (view_of seated) (view_of new)
          → KeepsPass (view_of_pass pass) (view_of_pass after)
      kept_so keeps = moved (λ setup old w. KeepsPass old w) (view_of new) after back keeps

      pub flight_begins : (body : Assembled) (begun : Begun)
          → IsPlaceBegun (setup_of seated) body (view_of seated) (view_of new) begun
          → KeepsPass (view_of seated) (view_of new)
          → IsInFlightOf wal (insert_flight after begun)
          × BeginsFlight (setup_of_log wal) body (view_of_pass pass) (insert_flight after begun)
          × KeepsPass (view_of_pass pass) (view_of_pass after)
      flight_begins body begun place keeps =
          let b : IsPlaceBegun (setup_of_log wal) body (view_of_pass pass) (view_of_pass after)
          begun = moved (λ setup old w. IsPlaceBegun setup body old w begun) (view_of new) after
          back place in (
            flight_so body (One begun.lock) (insert_flight after begun).begun
                (one_lock begun.lock.0 b.lock_low) b.place,
            record { lock = begun.lock; one = refl; place = b.place },
            kept_so keeps,
          )

      pub switch_begins : (body : Assembled) (r : Reserved)
          → IsSwitchBegun (setup_of seated) body (view_of seated) (view_of new) r
          → KeepsPass (view_of seated) (view_of new)
          → IsInFlightOf wal (switch_flight after r)
          × ((All ≡ All)
          × IsSwitchBegun (setup_of_log wal) body (view_of_pass pass) (view_of_pass after) r)
          × KeepsPass (view_of_pass pass) (view_of_pass after)
      switch_begins body r switches keeps =
          let b : IsSwitchBegun (setup_of_log wal) body (view_of_pass pass) (view_of_pass after) r =
          moved (λ setup old w. IsSwitchBegun setup body old w r) (view_of new) after back switches
          in (
            flight_so body All r (run_locks 8 (omega arith)) b.place,
            (refl, b),
            kept_so keeps,
          )

      -- ---- nothing was begun

      pub told_back : IsResting (view_of new) → (Told : Setup → View → View → Type 0)
          → Told (setup_of seated) (view_of seated) (view_of new)
          → KeepsPass (view_of seated) (view_of new)
          → IsPassOfLog wal after × Told (setup_of_log wal) (view_of_pass pass) (view_of_pass after)
          × KeepsPass (view_of_pass pass) (view_of_pass after)
      told_back rests Told told keeps = (
        record {
          of_log = back_on wal pass seated view new same table after put;
          rests = subst IsResting (sym back) rests;
        },
        moved Told (view_of new) after back told,
        kept_so keeps,
      )

module _ {D : Type 0} (wal : Wal D) (flight : Inflight) (is : IsInFlightOf wal flight)
    (seated : SeatedPass D) (view : (seated.seat).me ≡ (view_of_pass flight.pass, []))
    (table : (seated.table).now ≡ table_of wal) where
  abbrev locks : List ℕ
  locks = locks_of flight.held

  abbrev placed : PlacedState
  placed = (flight.begun).placed

  -- seated, it copies under its locks
  pub flight_copies : CopiesAlone locks placed seated
  flight_copies = record {
    some = locks_some flight.held;
    are = is.are;
    under = subst (λ (v : View). CopiesUnder (setup_of seated) locks placed v)
        (sym (seen_is wal flight.pass seated view))
        (subst (λ (s : Setup). CopiesUnder s locks placed (view_of_flight flight))
        (sym (own wal flight.pass seated view table)) is.copies);
    empty = ap (λ (m : View × List (ℕ × LogWriter D)). m.1) view;
  }

  -- ---- words were copied

  module _ (further : PlacedState) (new : SeatedPass D)
      (alone : CopiesAlone locks further new) (on : CopyGoesOn placed further seated new)
      (after : Pass) (back : view_of_pass after ≡ view_of new)
      (put : IsPassOn (new.table).now after) where
    still_under : CopiesUnder (setup_of_log wal) locks further (view_of_pass after)
    still_under = subst (λ (v : View). CopiesUnder (setup_of_log wal) locks further v)
        (sym back)
        (subst (λ (s : Setup). CopiesUnder s locks further (view_of new))
        (ap (λ t. setup_of_table t.now) ((on.goes_on).stays).same_table
        ∙ own wal flight.pass seated view table) alone.under)

    pub flight_goes_on : IsInFlightOf wal (record {
      pass = after;
      held = flight.held;
      begun = record flight.begun { placed = further };
    })
    flight_goes_on = record {
      of_log = back_on wal flight.pass seated view new ((on.goes_on).stays).same_table table after
          put;
      are = is.are;
      copies = still_under;
      start_is = same_start (setup_of_log wal) (still_under.copy) further (flight.begun).start.0
          ((is.copies).copy.entry).start is.start_is
          (ap (λ (p : PlacedState). p.start) on.place
          ∙ ap (λ (p : PlacedState). p.start) (is.copies).rest)
          (sym (ap (λ (p : PlacedState). p.start) still_under.rest));
      end_is = is.end_is ∙ sym (ap placed_end on.place);
    }

  pub log_kept : (new : View) (after : Pass) → view_of_pass after ≡ new
      → KeepsPass (view_of seated) new → log_of_pass new ≡ log_of_pass (view_of seated)
      → KeepsLog (view_of_flight flight) (view_of_pass after)
  log_kept new after back keeps same = moved wal flight.pass seated view table
      (λ setup old w. KeepsLog old w) new after back (record { keeps = keeps; log = same })

  -- ---- no word is left

  -- a record's next word is no further than its end
  pub flight_ended : placed_end placed ≤ placed.next → placed.next ≡ placed_end placed
  flight_ended far =
      let left = words-left seated placed (alone_rest seated locks placed flight_copies) in
      omega (arith, left.0, far)

  module _ (ended : placed.next ≡ placed_end placed) where
    all_copied : (((flight_copies.under).copy).copied)
        ≡ words_owned (((view_of seated).opening).setup).seg_size
        ((flight_copies.under).copy).entry
    all_copied = alone_whole seated locks placed flight_copies placed refl ended

    pub flight_locks : (view_of seated).working.locks ≡ locks
    flight_locks = locks_under (setup_of seated) locks placed (view_of seated) flight_copies.under

    pub flight_whole : NothingLeft (view_of seated).opening.setup locks
        (view_of seated).working.flight
    flight_whole = none_left (setup_of seated) locks placed (view_of seated) flight_copies.under
        flight_copies.some all_copied

    abbrev entry : Entry
    entry = ((flight_copies.under).copy).entry

    flies : entry_in_flight (view_of seated) ≡ some entry
    flies = ap (λ (w : Working). entry_of_flight w.flight) (flight_copies.under).working

    pub flight_finishes : (new : SeatedPass D) → HasView (rested (view_of seated)) seated new
        → (after : Pass)
        → view_of_pass after ≡ view_of new → IsPassOn (new.table).now after → (receipt : Receipt)
        → receipt.start ≡ (flight.begun).start → receipt.end ≡ (flight.begun).end
        → Finishes wal flight receipt after
    flight_finishes new steps after back put receipt from to =
        let landed : view_of new ≡ rested (view_of seated) = view_is steps in
        let keeps : KeepsPass (view_of seated) (view_of new) =
        subst (KeepsPass (view_of seated)) (sym landed)
        (rested_keeps (view_of seated) (view_of seated) (same_pass (view_of seated))) in record {
          pass_is = record {
            of_log = back_on wal flight.pass seated view new steps.same_table table after put;
            rests = subst IsResting (sym (back ∙ landed))
                (landed_rests (setup_of seated) locks placed (view_of seated) flight_copies.under);
          };
          none_left = ended;
          entry = entry;
          in_flight = subst (λ (v : View). entry_in_flight v ≡ some entry)
              (seen_is wal flight.pass seated view) flies;
          whole = moved wal flight.pass seated view table (λ setup old w. CopiesWhole old w entry)
              (view_of new) after back
              (copies_whole (setup_of seated) locks placed (view_of seated) (view_of seated)
              (view_of new) flight_copies.under (seated.seated).stands all_copied entry flies
              (same_pass (view_of seated)) keeps);
          start_is = from;
          end_is = to;
          keeps = log_kept (view_of new) after back keeps
              (ap (λ (v : View). log_of_pass v) landed);
        }

  -- ---- the down value was loaded

  module _ (faults : ℕ) (loaded : SeatedPass D) (load : Steps load_down faults seated loaded)
      (known : (n : ℕ) → KnowsDown n (view_of seated) → faults ≡ n)
      (met : Meets (view_of seated) load_down faults) where
    loaded_under : CopiesUnder (setup_of seated) locks placed (view_of loaded)
    loaded_under = copies_stay (setup_of seated) locks placed (view_of seated) (view_of loaded)
        flight_copies.under
        (down_met_keeps (view_of seated) faults (view_of loaded) (view_is load) known)
        (ap (λ (v : View). v.writing.hold) (view_is load) ∙ (flight_copies.under).hold)

    loaded_keeps : KeepsPass (view_of seated) (view_of loaded)
    loaded_keeps =
        (down_met_keeps (view_of seated) faults (view_of loaded) (view_is load) known).pass

    loaded_log : log_of_pass (view_of loaded) ≡ log_of_pass (view_of seated)
    loaded_log = ap (λ (v : View). log_of_pass v) (view_is load)

    met_so : Meets (view_of_flight flight) load_down faults
    met_so = subst (λ (v : View). Meets v load_down faults)
        (seen_is wal flight.pass seated view) met

    -- none was met
    pub flight_comes_back : faults ≡ 0 → (after : Pass) → view_of_pass after ≡ view_of loaded
        → IsPassOn (loaded.table).now after
        → IsHandedBack wal flight (record flight { pass = after })
    flight_comes_back none after back put = record {
      flight_is = record {
        of_log = back_on wal flight.pass seated view loaded load.same_table table after put;
        are = is.are;
        copies = moved wal flight.pass seated view table
            (λ setup old w. CopiesUnder setup locks placed w) (view_of loaded) after back
            loaded_under;
        start_is = same_start (setup_of_log wal)
            (moved wal flight.pass seated view table
            (λ setup old w. CopiesUnder setup locks placed w) (view_of loaded) after back
            loaded_under).copy placed (flight.begun).start.0 ((is.copies).copy.entry).start
            is.start_is (ap (λ (p : PlacedState). p.start) (is.copies).rest)
            (sym (ap (λ (p : PlacedState). p.start)
            (moved wal flight.pass seated view table
            (λ setup old w. CopiesUnder setup locks placed w) (view_of loaded) after back
            loaded_under).rest));
        end_is = is.end_is;
      };
      same = refl;
      entry = moved wal flight.pass seated view table
          (λ setup old w. entry_in_flight w ≡ entry_in_flight old) (view_of loaded) after back
          (ap (λ (v : View). entry_in_flight v) (view_is load));
      met = subst (λ (n : ℕ). Meets (view_of_flight flight) load_down n) none met_so;
      up = subst KnowsNoFault (sym back)
          (none_loaded (view_of seated) faults (view_of loaded) (view_is load) known none);
      keeps = log_kept (view_of loaded) after back loaded_keeps loaded_log;
    }

    -- one was: the copy may be given up
    pub flight_strands : faults ≢ 0 → IsStranded (view_of loaded)
    flight_strands nonzero = strands (setup_of seated) locks placed (view_of loaded) loaded_under
        (inl (λ zero. nonzero (sym (ap (λ (v : View). v.writing.down_met) (view_is load)) ∙ zero)))

    pub flight_given_up : faults ≢ 0 → (new : SeatedPass D)
        → HasView (rested (view_of loaded)) loaded new → (after : Pass)
        → view_of_pass after ≡ view_of new → IsPassOn (new.table).now after
        → GivesUpCopy wal flight after
    flight_given_up nonzero new gives after back put =
        let is_rested : view_of new ≡ rested (view_of loaded) = view_is gives in record {
          pass_is = record {
            of_log = back_on wal flight.pass seated view new
                (gives.same_table ∙ load.same_table) table after put;
            rests = subst IsResting (sym (back ∙ is_rested))
                (landed_rests (setup_of seated) locks placed (view_of loaded) loaded_under);
          };
          faults = faults;
          met = met_so;
          down = subst (λ (v : View). MeetsDown faults v (view_of_pass after))
              (seen_is wal flight.pass seated view)
              (subst (λ (v : View). MeetsDown faults (view_of seated) v) (sym (back ∙ is_rested))
              (record {
                met = ap (λ (v : View). v.writing.down_met) (view_is load);
                some = nonzero;
                set_none = ap (λ (v : View). v.writing.down_set) (view_is load);
              }));
          keeps = log_kept (view_of new) after back
              (subst (KeepsPass (view_of seated)) (sym is_rested)
              (rested_keeps (view_of seated) (view_of loaded) loaded_keeps))
              (ap (λ (v : View). log_of_pass v) is_rested ∙ loaded_log);
        }
