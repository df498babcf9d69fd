-- The written and flushed positions through each kind of step, split and join.
use Rattle.std.proofs.Common.{◌≡◌, ◌≢◌, ◌⊎◌, ℕ, ◌*◌, ◌<◌, ◌≤◌, List, [], ◌∷◌, ◌++◌, set, refl, sym, ap, ◌∙◌, subst, ⊎_elim, arith}
use Rattle.std.specs.Int.{w64, to_le_bytes}
use Rattle.std.proofs.lemmas.Option.{IfSome_then}
use mathlib.Core.Option.{Option, none, some, some-ne-none}
use Rattle.atomic_table.proofs.Lists.{set_again}
use Rattle.byte_position.specs.Geometry.{IsSegmentSize}
use Rattle.byte_position.proofs.EndAddresses.{end_address_of-mono}
use Rattle.wal_spelling.specs.Spelling.{assembled}
use Rattle.segment_disk.specs.Tape.{Tape, state_now}
use Rattle.wal_page.specs.Order.{Entry}
use Rattle.wal_page.specs.Placed.{Owns}
use Rattle.wal_page.proofs.OrderLaws.{rooms_of_push}
use Rattle.wal_page.proofs.OwnerLaws.{Owns-between}
use Rattle.wal_page.proofs.PlaceLaws.{word_from_push}
use Rattle.machine_state.specs.declared.setup.Setup.{Setup}
use Rattle.machine_state.specs.Words.{Opening, end_form, order_end, GoesOnAtPlace}
use Rattle.machine_state.specs.Suited.{tape_from, IfSuited}
use Rattle.machine_state.specs.Views.{HasAt, Copy, Flight, Copying, Plain, Lent, Hold, Idle, Turned, Out, Writing}
use Rattle.machine_state.specs.Moves.{no_writing, with_lent}
use Rattle.machine_state.specs.Ringed.{log_bytes_of}
use Rattle.machine_state.specs.Positioned.{IsCopiedBelow, ReadsBelow, IsWithin, PositionsHold}
use Rattle.machine_state.proofs.Lists.{one_set}
use Rattle.machine_laws.specs.PositionParts.{Positions}
use Rattle.machine_laws.proofs.Copies.{CopiedStill, begun_clear, same_still}

-- what a view has in hand that is not the writer's alone stays as it is
abbrev pub KeepsKnown : Hold → Hold → Type 0
KeepsKnown old new = (n : Lent) → new ≡ Out n
    → (o : Lent) × (old ≡ Out o) × (n.known ≡ o.known) × (n.stored ≡ o.stored)

pub KeepsKnown-idle : (old : Hold) → KeepsKnown old Idle
KeepsKnown-idle old n is = absurd (cc)

pub KeepsKnown-turned : (old : Hold) → KeepsKnown old Turned
KeepsKnown-turned old n is = absurd (cc)

pub KeepsKnown-lent : (f : Lent → Lent) → ((l : Lent) → (f l).known ≡ l.known)
    → ((l : Lent) → (f l).stored ≡ l.stored) → (h : Hold) → KeepsKnown h (with_lent f h)
KeepsKnown-lent f known stored Idle n is = absurd (cc)
KeepsKnown-lent f known stored Turned n is = absurd (cc)
KeepsKnown-lent f known stored (Out l) n is =
    let same : f l ≡ n = cc in (
      l,
      refl,
      ap (λ (x : Lent). x.known) (sym same) ∙ known l,
      ap (λ (x : Lent). x.stored) (sym same) ∙ stored l,
    )

module _ (opening : Opening) (p : Positions) (k : PositionsHold p.first opening p.order p.written p.flushed
    p.down p.home p.writer p.flights p.parts) where
  abbrev setup : Setup
  setup = opening.setup

  abbrev order : List Entry
  order = p.order

  abbrev written : ℕ
  written = p.written

  abbrev flushed : ℕ
  flushed = p.flushed

  abbrev down : ℕ
  down = p.down

  abbrev home : Option Plain
  home = p.home

  abbrev writer : Plain
  writer = p.writer

  abbrev flights : List Flight
  flights = p.flights

  abbrev parts : List Writing
  parts = p.parts

  abbrev end : ℕ
  end = end_form setup (order_end opening order)

  abbrev pub Within : Writing → Type 0
  Within x = IsWithin setup.seg_size end written flushed flights x

  -- ---- only a view, or a flight, is another one

  within_flights : (flights' : List Flight) → CopiedStill setup.seg_size flights flights'
      → (x : Writing) → Within x → IsWithin setup.seg_size end written flushed flights' x
  within_flights flights' still x w = record {
    written_met = w.written_met;
    flushed_met = w.flushed_met;
    known = λ l is. let h = w.known l is in (h.0, still l.known h.1);
    stored = w.stored;
  }

  pub both_change : (flights' : List Flight) (parts' : List Writing)
      → CopiedStill setup.seg_size flights flights'
      → ((id : ℕ) (x : Writing) → HasAt parts' id x → Within x)
      → PositionsHold p.first opening order written flushed down home writer flights' parts'
  both_change flights' parts' still each = record {
    begun = k.begun;
    flushed_low = k.flushed_low;
    written_low = k.written_low;
    at_home = k.at_home;
    reserved = k.reserved;
    copied = still writer.written k.copied;
    reads = k.reads;
    views = λ id x at. within_flights flights' still x (each id x at);
  }

  pub none_within : Within no_writing
  none_within = record {
    written_met = omega arith;
    flushed_met = omega arith;
    known = λ l is. absurd (cc);
    stored = λ l is. absurd (cc);
  }

  -- what was met and stored before, with other words and another writer
  module _ (id : ℕ) (x : Writing) (here : HasAt parts id x) where
    mine : Within x
    mine = k.views id x here

    -- what is known stays, where a view holds what it held
    hold_within : (met_written met_flushed : ℕ) (hold : Hold) → met_written ≤ written
        → met_flushed ≤ flushed → KeepsKnown x.hold hold → (y : Writing)
        → y.written ≡ met_written → y.flushed ≡ met_flushed → y.hold ≡ hold → Within y
    hold_within met_written met_flushed hold low_written low_flushed keeps y is_w is_f is_h =
        record {
          written_met = omega (arith, is_w, low_written);
          flushed_met = omega (arith, is_f, low_flushed);
          known = λ l is.
              let o = keeps l (sym is_h ∙ is) in
              let h = mine.known o.0 o.1 in
              subst (λ (a : ℕ). (a ≤ end) × IsCopiedBelow setup.seg_size flights a)
              (sym o.2) h;
          stored = λ l is.
              let o = keeps l (sym is_h ∙ is) in
              omega (arith, mine.stored o.0 o.1, o.3);
        }

    pub view_changes : (f : Flight) → HasAt flights id f → (y : Writing) → y.written ≤ written
        → y.flushed ≤ flushed → KeepsKnown x.hold y.hold
        → PositionsHold p.first opening order written flushed down home writer (set flights id f)
        (set parts id y)
    view_changes f at y low_written low_flushed keeps = both_change (set flights id f)
        (set parts id y) (same_still setup.seg_size flights id f at)
        (one_set (λ (j : ℕ) (u : Writing). Within u) parts id y (λ j u _ there. k.views j u there)
        (hold_within y.written y.flushed y.hold low_written low_flushed keeps y refl refl refl))

    -- as it was, with other words
    pub view_stays : (f : Flight) → HasAt flights id f
        → PositionsHold p.first opening order written flushed down home writer (set flights id f)
        (set parts id x)
    view_stays f at = view_changes f at x mine.written_met mine.flushed_met
        (λ n is. (n, is, refl, refl))

    -- ---- the writer goes out, and home

    pub goes_out : (f : Flight) → HasAt flights id f → (met : ℕ) (l : Lent) → l.known ≤ end
        → IsCopiedBelow setup.seg_size flights l.known → l.stored ≤ written
        → PositionsHold p.first opening order written flushed down none writer (set flights id f)
        (set parts id (record x { down_met = met; hold = Out l }))
    goes_out f at met l low copied stored =
        let still = same_still setup.seg_size flights id f at in
        let y : Writing = record x { down_met = met; hold = Out l } in
        record {
          begun = k.begun;
          flushed_low = k.flushed_low;
          written_low = k.written_low;
          at_home = λ is. absurd (some-ne-none writer (sym is));
          reserved = k.reserved;
          copied = still writer.written k.copied;
          reads = k.reads;
          views = λ j u there. within_flights (set flights id f) still u
              (one_set (λ (j : ℕ) (u : Writing). Within u) parts id y
              (λ j u _ there. k.views j u there)
              (record {
                written_met = mine.written_met;
                flushed_met = mine.flushed_met;
                known = λ n is.
                    let same : l ≡ n = cc in
                    subst (λ (m : Lent). (m.known ≤ end)
                    × IsCopiedBelow setup.seg_size flights m.known) same (low, copied);
                stored = λ n is.
                    let same : l ≡ n = cc in
                    subst (λ (m : Lent). m.stored ≤ written) same stored;
              }) j u there);
        }

    module _ (f : Flight) (at : HasAt flights id f) where
      still : CopiedStill setup.seg_size flights (set flights id f)
      still = same_still setup.seg_size flights id f at

      pub comes_home : (l : Lent) → x.hold ≡ Out l → l.writer ≡ writer
          → (l.stored ≡ (l.writer).written) ⊎ (down ≢ 0)
          → PositionsHold p.first opening order written flushed down (some l.writer) writer
          (set flights id f) (set parts id (record x { hold = Turned }))
      comes_home l is own settled =
          let after = view_changes f at (record x { hold = Turned }) mine.written_met
          mine.flushed_met (KeepsKnown-turned x.hold) in
          record {
            begun = k.begun;
            flushed_low = k.flushed_low;
            written_low = k.written_low;
            at_home = λ _ up. ⊎_elim
                (λ stored. let same = ap (λ (w : Plain). w.written) own in
                omega (arith, stored, same, mine.stored l is, k.written_low))
                (λ failed. absurd (failed up)) settled;
            reserved = k.reserved;
            copied = after.copied;
            reads = k.reads;
            views = after.views;
          }

      -- ---- words are stored by the one that has the writer in hand

      -- the down word, while the writer is away
      pub tells_down : (down' : ℕ) → home ≡ none → (y : Writing) → y.written ≡ x.written
          → y.flushed ≡ x.flushed → y.hold ≡ x.hold
          → PositionsHold p.first opening order written flushed down' home writer (set flights id f)
          (set parts id y)
      tells_down down' away y is_w is_f is_h =
          let after = view_changes f at y (omega (arith, is_w, mine.written_met))
          (omega (arith, is_f, mine.flushed_met)) (λ n is. (n, sym is_h ∙ is, refl, refl)) in
          record {
            begun = k.begun;
            flushed_low = k.flushed_low;
            written_low = k.written_low;
            at_home = λ is. absurd (some-ne-none writer (sym is ∙ away));
            reserved = k.reserved;
            copied = after.copied;
            reads = k.reads;
            views = after.views;
          }

      within_written : (written' : ℕ) → written ≤ written' → (u : Writing) → Within u
          → IsWithin setup.seg_size end written' flushed flights u
      within_written written' up u w = record {
        written_met = omega (arith, w.written_met, up);
        flushed_met = w.flushed_met;
        known = w.known;
        stored = λ l is. omega (arith, w.stored l is, up);
      }

      -- the written word, up to the writer's
      pub stores_written : (l : Lent) → x.hold ≡ Out l → l.writer ≡ writer
          → PositionsHold p.first opening order (l.writer).written flushed down home writer
          (set flights id f)
          (set parts id (record x { hold = Out (record l { stored = (l.writer).written }) }))
      stores_written l is own =
          let same : (l.writer).written ≡ writer.written = ap (λ (w : Plain). w.written) own in
          let up : written ≤ (l.writer).written = omega (arith, same, k.written_low) in
          let n : Lent = record l { stored = (l.writer).written } in
          let y : Writing = record x { hold = Out n } in
          record {
            begun = k.begun;
            flushed_low = omega (arith, k.flushed_low, up);
            written_low = omega (arith, same);
            at_home = λ _ _. same;
            reserved = k.reserved;
            copied = still writer.written k.copied;
            reads = k.reads;
            views = one_set (λ (j : ℕ) (u : Writing). IsWithin setup.seg_size end
                (l.writer).written flushed (set flights id f) u) parts id y
                (λ j u _ there. let w = within_written (l.writer).written up u
                (k.views j u there) in
                record {
                  written_met = w.written_met;
                  flushed_met = w.flushed_met;
                  known = λ o is_o. let h = w.known o is_o in (h.0, still o.known h.1);
                  stored = w.stored;
                })
                (record {
                  written_met = omega (arith, mine.written_met, up);
                  flushed_met = mine.flushed_met;
                  known = λ o is_o.
                      let one : n ≡ o = cc in
                      let h = mine.known l is in
                      subst (λ (m : Lent). (m.known ≤ end)
                      × IsCopiedBelow setup.seg_size (set flights id f) m.known) one
                      (h.0, still l.known h.1);
                  stored = λ o is_o.
                      let one : n ≡ o = cc in
                      omega (arith, ap (λ (m : Lent). m.stored) one);
                });
          }

      -- the flushed word, up to the written one
      pub stores_flushed : (l : Lent) → x.hold ≡ Out l → l.writer ≡ writer
          → l.hard ≡ (l.writer).written → l.stored ≡ (l.writer).written
          → (y : Writing) → y.written ≡ x.written → y.flushed ≡ x.flushed → y.hold ≡ x.hold
          → PositionsHold p.first opening order written l.hard down home writer (set flights id f)
          (set parts id y)
      stores_flushed l is own hard stored y is_w is_f is_h =
          let same : (l.writer).written ≡ writer.written = ap (λ (w : Plain). w.written) own in
          let low : l.hard ≤ written = omega (arith, hard, stored, mine.stored l is) in
          let up : flushed ≤ l.hard =
          omega (arith, hard, same, k.flushed_low, k.written_low) in
          let after = view_changes f at y (omega (arith, is_w, mine.written_met))
          (omega (arith, is_f, mine.flushed_met)) (λ n out. (n, sym is_h ∙ out, refl, refl)) in
          record {
            begun = omega (arith, k.begun, up);
            flushed_low = low;
            written_low = k.written_low;
            at_home = k.at_home;
            reserved = k.reserved;
            copied = still writer.written k.copied;
            reads = k.reads;
            views = λ j u there.
                let w = after.views j u there in
                record {
                  written_met = w.written_met;
                  flushed_met = omega (arith, w.flushed_met, up);
                  known = w.known;
                  stored = w.stored;
                };
          }

      -- ---- a call of the device: the writer is another one, while it is away

      pub calls : (l : Lent) → x.hold ≡ Out l → home ≡ none → (after : Plain)
          → writer.written ≤ after.written → after.written ≤ end
          → IsCopiedBelow setup.seg_size flights after.written
          → IfSuited p.first opening after (λ (t : Tape). ReadsBelow opening order after.written
          (state_now t))
          → PositionsHold p.first opening order written flushed down home after (set flights id f)
          (set parts id (record x { hold = Out (record l { writer = after }) }))
      calls l is away after rises low copied reads =
          let n : Lent = record l { writer = after } in
          let y : Writing = record x { hold = Out n } in
          let held = view_changes f at y mine.written_met mine.flushed_met
          (λ (o : Lent) (is_o : Out n ≡ Out o). let one : n ≡ o = cc in
          (l, is, ap (λ (m : Lent). m.known) (sym one), ap (λ (m : Lent). m.stored) (sym one))) in
          record {
            begun = k.begun;
            flushed_low = k.flushed_low;
            written_low = omega (arith, k.written_low, rises);
            at_home = λ was. absurd (some-ne-none after (sym was ∙ away));
            reserved = low;
            copied = still after.written copied;
            reads = reads;
            views = held.views;
          }

  -- ---- the order grows

  module _ (valid : IsSegmentSize setup.seg_size) (chained : GoesOnAtPlace opening order)
      (e : Entry) (start : e.start ≡ order_end opening order) where
    abbrev longer : List Entry
    longer = order ++ e ∷ []

    grown_end : end ≤ end_form setup (order_end opening longer)
    grown_end = end_address_of-mono setup.seg_size valid
        (order_end opening order) (order_end opening longer)
        (omega (arith, rooms_of_push setup.seg_size order e))

    -- the log's words below its end stay
    word_stays : (k : ℕ) → 8 * k < end
        → log_bytes_of opening longer (8 * k) ≡ log_bytes_of opening order (8 * k)
    word_stays k below = ap (to_le_bytes w64)
        (word_from_push setup.seg_size setup.sysid valid opening.place order e chained start
        (8 * k)
        (λ (owns : Owns setup.seg_size (assembled e.value) e.start (8 * k)).
        let between = Owns-between setup.seg_size valid (assembled e.value) e.start (8 * k)
        owns in
        omega (arith, between.0, below, ap (end_form setup) start)))

    pub order_grows : (id : ℕ) (c : Copy) → c.entry ≡ e → c.copied ≡ 0 → (x : Writing)
        → HasAt parts id x
        → PositionsHold p.first opening longer written flushed down home writer
        (set flights id (Copying c)) (set parts id x)
    order_grows id c of_e none_yet x here =
        let begins : end ≡ end_form setup (c.entry).start =
        ap (end_form setup) (sym start ∙ ap (λ (y : Entry). y.start) (sym of_e)) in
        let clear = λ (address : ℕ) (low : address ≤ end)
        (copied : IsCopiedBelow setup.seg_size flights address).
        begun_clear setup.seg_size address id flights c
        (omega (arith, begins, none_yet, low)) copied in
        record {
          begun = k.begun;
          flushed_low = k.flushed_low;
          written_low = k.written_low;
          at_home = k.at_home;
          reserved = omega (arith, k.reserved, grown_end);
          copied = clear writer.written k.reserved k.copied;
          reads = IfSome_then (tape_from p.first writer.calls) k.reads (λ (t : Tape) reads suited n below.
              reads suited n below ∙ sym (word_stays n (omega (arith, below, k.reserved))));
          views = λ j u there.
              let w = k.views j u (subst (λ (ps : List Writing). HasAt ps j u)
              (set_again parts id x here) there) in
              record {
                written_met = w.written_met;
                flushed_met = w.flushed_met;
                known = λ l is. let h = w.known l is in
                    (omega (arith, h.0, grown_end), clear l.known h.0 h.1);
                stored = w.stored;
              };
        }
