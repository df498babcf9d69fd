-- What a pass keeps that looks whether room is made, and makes it.
use mathlib.Core.Option.{some}
use Rattle.segment_disk.specs.Tape.{Tape}
use Rattle.wal_page.specs.Placed.{PlacedState}
use Rattle.machine_state.specs.declared.setup.Setup.{Setup}
use Rattle.std.specs.Prelude.{MatchBool, Option, nat_lt}
use Rattle.std.proofs.Common.{◌≡◌, ℕ, ◌*◌, ◌%◌, ◌≤◌, Bool, true, false, List, inl, inr, refl, sym, ap, ◌∙◌, subst, arith}
use Rattle.std.proofs.lemmas.Bool.{ltb-false, ltb-true}
use Rattle.machine_state.specs.Steps.{load_buffer_end}
use Rattle.machine_state.specs.Views.{View, Working}
use Rattle.wal_rule.specs.declared.seated.SeatedPass.{SeatedPass}
use Rattle.wal_rule.specs.SeatedPasses.{StandsAtRest, setup_of, view_of}
use Rattle.wal_rule.specs.Stepping.{Meets}
use Rattle.word_ring.specs.Mapped.{MapsAhead}
use Rattle.wal_log.specs.declared.fault.Fault.{Fault}
use Rattle.wal_log.specs.declared.fault.Fault.TheVariants.{Disk, Down}
use Rattle.wal_log.specs.Copying.{MapsPage, mapped_view}
use Rattle.wal_log.specs.Downs.{KnowsNoFault, MeetsFault}
use Rattle.wal_log.specs.PassLogs.{log_of_pass}
use Rattle.wal_log.specs.Room.{MakesRoom, MeetsMapped, MeetsUnmapped, end_in_the_way, most_ahead}
use Rattle.wal_log.specs.Standing.{AddsNothing, ComesToRest, CopiesUnder, HasNoTurn, KeepsWork, entry_in_flight, entry_of_flight}
use Rattle.wal_log.specs.Writing.{IsHeldUp, WritesCopied}
use Rattle.wal_log.proofs.AddingNothing.{adds_on, as_before}
use Rattle.wal_log.proofs.Keeping.{both_up, meets_since, rested_on}
use Rattle.wal_log.proofs.WriteLaws.{written_since}

-- an end word that was met tells whether its page was mapped
pub end_tells : (setup : Setup) (page end : ℕ) (v : View) (behind : Bool)
    → nat_lt (page * 8192) end ≡ behind → Meets v (load_buffer_end (page % setup.ring_pages)) end
    → MatchBool behind (MeetsMapped setup page v) (MeetsUnmapped setup page v)
end_tells setup page end v true is met =
    record { end = end; met = met; behind = ltb-true (page * 8192) end is }
end_tells setup page end v false is met =
    record { end = end; met = met; before = ltb-false (page * 8192) end is }

-- so far a pass added nothing, has no turn, and knows of no failed disk
pub record HasRoomMade {D : Type 0} (old now : SeatedPass D) : Type 0 where
  pub adds : AddsNothing old now
  pub rests : HasNoTurn now
  pub up : KnowsNoFault (view_of now)

pub none_made : {D : Type 0} → (p : SeatedPass D) → HasNoTurn p → KnowsNoFault (view_of p)
    → HasRoomMade p p
none_made p rests up = record { adds = as_before p p refl refl; rests = rests; up = up }

pub made_on : {D : Type 0} → (old now new : SeatedPass D) → HasRoomMade old now
    → AddsNothing now new → HasNoTurn new → KnowsNoFault (view_of new) → HasRoomMade old new
made_on old now new made adds rests up = record {
  adds = adds_on old now new made.adds adds;
  rests = rests;
  up = up;
}

-- pages were met or mapped
mapped_keeps : (confirmed written : ℕ) (v : View) → (v.mapping).confirmed ≤ confirmed
    → KeepsWork v (mapped_view confirmed written v)
mapped_keeps confirmed written v rises = record {
  pass = record {
    opening = refl;
    live = refl;
    number = refl;
    spare = refl;
    spare_end = refl;
    joined = refl;
    counts = omega arith;
    rises = omega arith;
    down = λ faults knows. knows;
  };
  place = refl;
  working = refl;
  stage = refl;
  confirmed = rises;
  async = refl;
}

pub pages_made : {D : Type 0} → (old now new : SeatedPass D) → HasRoomMade old now
    → MapsPage now new → HasRoomMade old new
pages_made old now new made maps =
    let is = maps.view_is in
    made_on old now new made (record {
      works = record {
        same_table = (maps.stays).same_table;
        work = subst (λ (v : View). KeepsWork (view_of now) v) (sym is)
            (mapped_keeps maps.confirmed maps.written (view_of now) maps.rises);
      };
      log = ap (λ (v : View). log_of_pass v) is;
      flushed = ap (λ (v : View). v.writing.flushed) is;
    }) (record {
      idle = ap (λ (v : View). v.writing.hold) is ∙ (made.rests).idle;
      empty = (maps.stays).same_hand ∙ (made.rests).empty;
    }) (record {
      met = ap (λ (v : View). v.writing.down_met) is ∙ (made.up).met;
      set = ap (λ (v : View). v.writing.down_set) is ∙ (made.up).set;
    })

-- a pass at rest has no turn, and is at rest behind it
pub rests_without_turn : {D : Type 0} → (p : SeatedPass D) → StandsAtRest p → HasNoTurn p
rests_without_turn p rests = record { idle = (rests.rests).hold; empty = rests.empty }

pub comes_to_rest : {D : Type 0} → (old new : SeatedPass D) → StandsAtRest old
    → AddsNothing old new → HasNoTurn new → ComesToRest old new
comes_to_rest old new rests adds without = record {
  same_table = (adds.works).same_table;
  keeps = ((adds.works).work).pass;
  rests = record {
    rests = rested_on (view_of old) (view_of new) (adds.works).work without.idle rests.rests;
    empty = without.empty;
  };
}

-- a fault that was met behind steps that met none
pub fault_since : (old now new : View) → KnowsNoFault old → KnowsNoFault now → (fault : Fault)
    → MeetsFault now new fault → MeetsFault old new fault
fault_since old now new before up (Disk faults) told = told
fault_since old now new before up (Down faults) told =
    meets_since old now new faults (both_up old now before up) told

-- a copy's pass has its entry in flight
pub flies : (setup : Setup) (locks : List ℕ) (placed : PlacedState) (v : View)
    → (c : CopiesUnder setup locks placed v) → entry_in_flight v ≡ some (c.copy).entry
flies setup locks placed v c = ap (λ (w : Working). entry_of_flight w.flight) c.working

-- ---- what was done for a page that was met not mapped

module _ {D : Type 0} (tape : D → Option Tape) (moment faults : D → ℕ) (page upto : ℕ)
    (old now new : SeatedPass D) (unmapped : MeetsUnmapped (setup_of old) page (view_of old))
    (wrote : Bool) (tells : MatchBool wrote (WritesCopied tape moment faults upto (view_of now) new)
    (IsHeldUp upto (view_of new))) where
  -- what was to be written first was not
  pub was_held_up : wrote ≡ false → upto ≡ end_in_the_way (setup_of old) page
      → MakesRoom tape moment faults page old new
  was_held_up not_wrote is = inr (
    unmapped,
    inl (subst (λ (n : ℕ). IsHeldUp n (view_of new)) is
        (subst (λ (b : Bool). MatchBool b (WritesCopied tape moment faults upto (view_of now) new)
        (IsHeldUp upto (view_of new))) not_wrote tells)),
  )

  -- it was, and pages were mapped
  pub was_written : wrote ≡ true → upto ≡ end_in_the_way (setup_of old) page
      → AddsNothing old now → (mapped : SeatedPass D) → MapsPage new mapped
      → MapsAhead (setup_of new) most_ahead (view_of new) (view_of mapped)
      → MakesRoom tape moment faults page old mapped
  was_written has_written is adds mapped maps ahead = inr (
    unmapped,
    inr (record {
      written = new;
      writes = subst (λ (n : ℕ). WritesCopied tape moment faults n (view_of old) new) is
          (written_since tape moment faults upto (view_of old) (view_of now) new
          (adds.works).work.pass
          (subst (λ (b : Bool). MatchBool b (WritesCopied tape moment faults upto (view_of now) new)
          (IsHeldUp upto (view_of new))) has_written tells));
      maps = maps;
      ahead = ahead;
    }),
  )
