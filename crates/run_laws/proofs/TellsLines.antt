-- Lines that were played are told what they may be told.
use Rattle.std.proofs.Common.{◌≡◌, ℕ, ◌+◌, ◌≤◌, All, List, [], ◌∷◌, ◌++◌, length, take, take_all, Option, Some, None, option_to_list, refl, sym, ap, ◌∙◌, subst, arith}
use Rattle.std.proofs.Math.Seq.{take-append_seam}
use Rattle.std.proofs.lemmas.List.Elements.{All-head}
use Rattle.byte_position.specs.Geometry.{IsSegmentSize}
use Rattle.byte_position.specs.Position.{position_of, address_of, end_address_of, first_position}
use Rattle.byte_position.proofs.EndAddresses.{end_address_of-mono}
use Rattle.byte_position.proofs.PositionLaws.{position_of-address_of}
use Rattle.wal_spelling.specs.Record.{switch_record}
use Rattle.wal_types.specs.declared.answers.Cause.{Cause}
use Rattle.wal_types.specs.declared.answers.Cause.TheVariants.{Full, Disk, Down}
use Rattle.wal_types.specs.declared.lsn.Lsn.{Lsn}
use Rattle.wal_types.specs.declared.record.Record.{Record}
use Rattle.wal_page.specs.LogPlace.{IsPlace}
use Rattle.wal_page.specs.Order.{Entry, position_behind, room_at}
use Rattle.run_script.specs.Asked.{Asked, AskedLine, Insert, Commit, Flush, CommitAsync, WriteBehind, Switch}
use Rattle.machine_state.specs.Views.{Stop, FlushPromise}
use Rattle.machine_state.specs.Words.{GoesOnAtPlace, Opening, end_form, log_limit, order_end}
use Rattle.machine_state.specs.Ordered.{FrontEndsAt}
use Rattle.run_laws.specs.declared.told.Told.{Told}
use Rattle.run_laws.specs.declared.told.Told.TheVariants.{Wrote, Hard, Flushed, Async, Idle, Switched, Stayed, Refused}
use Rattle.run_laws.specs.Told.{FitsLine, IsFault, IsPlaced, Logged, MayRefuseFlush, MayRefuseRecord, TellsFrom, behind_or, entries_of, entry_of, front_end}
use Rattle.run_laws.proofs.AllLaws.{parts_all}
use Rattle.machine_state.specs.PassLogs.{PassLog, log_with_promise}
use Rattle.run_laws.specs.Played.{KnowsFault, Leaves, PassState, PlaysLines, RefusesFlushLine, RefusesRecordLine, Reserves, ReservesUpto, behind_last_own}
use Rattle.run_laws.specs.Ended.{logged_at_end}
use Rattle.run_laws.proofs.FullLines.{full_cause, stay_cause}
use Rattle.run_laws.proofs.LineEntries.{line_entries, lines_entries}
use Rattle.run_laws.proofs.LaterLines.{Held, lines_held, lines_know, lines_see}

-- the position behind some entries and one more, or none more
behind_more : (size behind : ℕ) (es : List Entry) (e : Option Entry)
    → behind_last_own size behind (es ++ option_to_list e)
    ≡ behind_or size (behind_last_own size behind es) e
behind_more size behind [] None = refl
behind_more size behind [] (Some e) = refl
behind_more size behind (f ∷ es) e = behind_more size (position_behind size f) es e

module _ (opening : Opening) (placed : IsPlace (opening.setup).seg_size opening.place)
    (order : List Entry) (last pass : ℕ) (valid : IsSegmentSize (opening.setup).seg_size)
    (follows : GoesOnAtPlace opening order) (all : List Entry) where
  abbrev pub size : ℕ
  size = (opening.setup).seg_size

  abbrev pub limit : ℕ
  limit = log_limit opening.setup

  abbrev pub logged : Logged
  logged = logged_at_end opening order last

  abbrev first : ℕ
  first = first_position (opening.setup).seg_size

  -- each promise is of what was reserved
  abbrev pub IsWithin : FlushPromise → Type 0
  IsWithin p = p.upto ≤ end_form opening.setup (order_end opening order)

  abbrev pub Ends : Stop → Type 0
  Ends f = FrontEndsAt opening pass order all f

  -- the front of all entries is the order
  whole_end : order_end opening order ≡ front_end logged (length order)
  whole_end = ap (order_end opening) (sym (take_all (length order) order (omega arith)))

  start_position : (value : Record) (start : Lsn) (before after : PassLog)
      → (r : Reserves size limit pass value start.0 before after)
      → position_of size start.0 ≡ r.at
  start_position value start before after r =
      ap (position_of size) r.start_is ∙ position_of-address_of size valid r.at

  started : (value : Record) (start : Lsn) (before after : PassLog)
      → Reserves size limit pass value start.0 before after
      → start.0 ≡ address_of size (position_of size start.0)
  started value start before after r =
      r.start_is ∙ ap (address_of size) (sym (start_position value start before after r))

  is_placed : (value : Record) (start end : Lsn) (before after : PassLog)
      → ReservesUpto size limit pass value start.0 end.0 before after
      → IsPlaced size value start.0 end.0
  is_placed value start end before after r = record {
    starts = started value start before after r.reserved;
    ends = r.end_is ∙ ap (λ (n : ℕ). end_address_of size (n + room_at size n value))
        (sym (start_position value start before after r.reserved));
  }

  promised : (upto moment : ℕ) (before after : PassLog)
      → after ≡ log_with_promise upto moment before
      → Held size limit pass Ends IsWithin after
      → upto ≤ end_address_of size (front_end logged (length order))
  promised upto moment before after log_is held =
      let more : FlushPromise =
      record { upto = upto; moment = moment; entries = length before.entries } in
      let all_within = subst (All IsWithin) (ap (λ (l : PassLog). l.promises) log_is) held.1 in
      let within =
      All-head IsWithin more [] (parts_all IsWithin before.promises (more ∷ []) all_within).1 in
      subst (λ (n : ℕ). upto ≤ end_address_of size n) whole_end within

  module _ (before after : PassState)
      (held : Held size limit pass Ends IsWithin after.log)
      (faulty : (faults : ℕ) → KnowsFault faults after → IsFault logged faults)
      (own : take (length (before.log).entries) all ≡ (before.log).entries)
      (seen_low : after.seen ≤ order_end opening order) where
    abbrev behind : ℕ
    behind = behind_last_own size (first_position size) (before.log).entries

    refuses : (value : Record) (cause : Cause) (reserved : Option Lsn)
        → RefusesRecordLine size limit pass value cause reserved before after
        → MayRefuseRecord logged pass behind value cause reserved
    refuses value (Full free) None l =
        full_cause opening placed order last pass follows all value free before.log after.log
        l held.0 own
    refuses value (Full free) (Some start) l = absurd l
    refuses value (Disk faults) None l = absurd l
    refuses value (Disk faults) (Some start) l =
        (faulty faults l.1, started value start before.log after.log l.0)
    refuses value (Down faults) None l = faulty faults l.1
    refuses value (Down faults) (Some start) l =
        (faulty faults l.1, started value start before.log after.log l.0)

    refuses_flush : (cause : Cause) (reserved : Option Lsn)
        → RefusesFlushLine size limit pass cause reserved before after
        → MayRefuseFlush logged cause reserved
    refuses_flush (Full free) reserved l = absurd l
    refuses_flush (Disk faults) None l = (faulty faults l.1, refl)
    refuses_flush (Disk faults) (Some start) l = absurd l
    refuses_flush (Down faults) None l = (faulty faults l.1, refl)
    refuses_flush (Down faults) (Some start) l = absurd l

    fits : (asked : Asked) (told : Told) → Leaves size limit pass asked told before after
        → FitsLine logged pass behind asked told
    fits (Insert value) (Wrote start end) l = is_placed value start end before.log after.log l
    fits (Insert value) (Hard start end moment) l = absurd l
    fits (Insert value) (Flushed upto moment) l = absurd l
    fits (Insert value) (Async start end) l = absurd l
    fits (Insert value) (Idle upto) l = absurd l
    fits (Insert value) (Switched start end) l = absurd l
    fits (Insert value) (Stayed end) l = absurd l
    fits (Insert value) (Refused cause reserved) l = refuses value cause reserved l
    fits (Commit value) (Wrote start end) l = absurd l
    fits (Commit value) (Hard start end moment) l =
        is_placed value start end before.log l.between l.reserved
    fits (Commit value) (Flushed upto moment) l = absurd l
    fits (Commit value) (Async start end) l = absurd l
    fits (Commit value) (Idle upto) l = absurd l
    fits (Commit value) (Switched start end) l = absurd l
    fits (Commit value) (Stayed end) l = absurd l
    fits (Commit value) (Refused cause reserved) l = refuses value cause reserved l
    fits Flush (Wrote start end) l = absurd l
    fits Flush (Hard start end moment) l = absurd l
    fits Flush (Flushed upto moment) l =
        (l.reached, promised upto.0 moment before.log after.log l.log_is held)
    fits Flush (Async start end) l = absurd l
    fits Flush (Idle upto) l = absurd l
    fits Flush (Switched start end) l = absurd l
    fits Flush (Stayed end) l = absurd l
    fits Flush (Refused cause reserved) l = refuses_flush cause reserved l
    fits (CommitAsync value) (Wrote start end) l = absurd l
    fits (CommitAsync value) (Hard start end moment) l = absurd l
    fits (CommitAsync value) (Flushed upto moment) l = absurd l
    fits (CommitAsync value) (Async start end) l =
        is_placed value start end before.log after.log l.reserved
    fits (CommitAsync value) (Idle upto) l = absurd l
    fits (CommitAsync value) (Switched start end) l = absurd l
    fits (CommitAsync value) (Stayed end) l = absurd l
    fits (CommitAsync value) (Refused cause reserved) l = refuses value cause reserved l
    fits WriteBehind (Wrote start end) l = absurd l
    fits WriteBehind (Hard start end moment) l = absurd l
    fits WriteBehind (Flushed upto moment) l = record {
      page = (l.behind).page;
      within = promised upto.0 moment before.log after.log l.log_is held;
    }
    fits WriteBehind (Async start end) l = absurd l
    fits WriteBehind (Idle upto) l = record {
      page = (l.behind).page;
      within = (let further = end_address_of-mono size valid after.seen
          (front_end logged (length order)) (omega (arith, seen_low, whole_end)) in
          omega (arith, l.reserved, further));
    }
    fits WriteBehind (Switched start end) l = absurd l
    fits WriteBehind (Stayed end) l = absurd l
    fits WriteBehind (Refused cause reserved) l = refuses_flush cause reserved l
    fits Switch (Wrote start end) l = absurd l
    fits Switch (Hard start end moment) l = absurd l
    fits Switch (Flushed upto moment) l = absurd l
    fits Switch (Async start end) l = absurd l
    fits Switch (Idle upto) l = absurd l
    fits Switch (Switched start end) l = is_placed switch_record start end before.log after.log l
    fits Switch (Stayed end) l =
        stay_cause opening placed order last pass follows all end.0 before.log after.log l
        held.0 own
    fits Switch (Refused cause reserved) l = (refuses switch_record cause reserved l.0, l.1)

  pub tells : (lines : List AskedLine) (told : List Told) (before after : PassState)
      → PlaysLines size limit pass before lines told after → (after.log).entries ≡ all
      → Held size limit pass Ends IsWithin after.log
      → ((faults : ℕ) → KnowsFault faults after → IsFault logged faults)
      → after.seen ≤ order_end opening order → TellsFrom logged pass
      (behind_last_own size (first_position size) (before.log).entries) lines told
  tells [] [] before after plays ends held faulty seen_low = tt
  tells [] (answer ∷ told) before after plays ends held faulty seen_low = absurd plays
  tells (line ∷ lines) [] before after plays ends held faulty seen_low = absurd plays
  tells (line ∷ lines) (answer ∷ told) before after plays ends held faulty seen_low =
      let mid = plays.0 in
      let whole = sym ends
      ∙ lines_entries size limit pass valid (line ∷ lines) (answer ∷ told) before after plays in
      let own = ap (take (length (before.log).entries)) whole
      ∙ take-append_seam (before.log).entries
      (entries_of size pass (line ∷ lines) (answer ∷ told)) in
      let held_mid =
      lines_held size limit pass Ends IsWithin lines told mid after plays.2 held in
      let faulty_mid : (faults : ℕ) → KnowsFault faults mid → IsFault logged faults =
      λ faults knows. faulty faults
      (lines_know size limit pass faults lines told mid after plays.2 knows) in
      let more = ap (behind_last_own size first)
      (line_entries size limit pass valid line.asked answer before mid (plays.1).leaves)
      ∙ behind_more size first (before.log).entries
      (entry_of size pass line.asked answer) in (
        fits before mid held_mid faulty_mid own (omega (
          arith,
          seen_low,
          lines_see size limit pass lines told mid after plays.2,
        )) line.asked answer (plays.1).leaves,
        subst (λ (n : ℕ). TellsFrom logged pass n lines told) more
            (tells lines told mid after plays.2 ends held faulty seen_low),
      )
