-- What is fixed of a table, and the writers with which it may be begun.
use Rattle.std.specs.Prelude.{IfSome}
use Rattle.std.proofs.Common.{◌≡◌, ℕ, ◌+◌, ◌<◌, ◌^◌, inl, inr, length, arith, refl, sym, ap, ◌∙◌, subst, Option, Some, None}
use Rattle.segment_disk.specs.Cause.{Rose, RoseByOne}
use Rattle.segment_disk.specs.Tape.{IsUncalled, Tape, state_now}
use Rattle.flush_core.specs.Settled.{HasNotSettled, HasSettled, settle_calls}
use Rattle.flush_core.specs.Planned.{settled_tape}
use Rattle.flush_core.proofs.PlanLaws.{settled_tape_is}
use Rattle.machine_state.specs.Opened.{IsFirstWriter}
use Rattle.machine_state.specs.Views.{Plain}
use Rattle.machine_state.specs.Words.{Opening, found_end}
use Rattle.wal_rule.specs.declared.seats.Founding.{Founding}
use Rattle.wal_rule.specs.declared.writer.LogWriter.{LogWriter}
use Rattle.wal_rule.specs.Beginning.{IsUnbegunWriter, IsUncalledWriter}
use Rattle.wal_rule.specs.Founded.{began_of_founding, disk_of_founding, founded_opening, founded_plain}
use Rattle.wal_rule.specs.Opening.{IsAsFounded, IsUnsettledWriter}
use Rattle.wal_rule.specs.Slotted.{calls_of, first_on, resting_plain, slot_disk, slot_plain, slot_segment_size}
use Rattle.wal_rule.proofs.SlotTapes.{first_of_stopped, first_with_calls, same_tape}

-- no segment, no call
nothing_to_settle : (size end : ℕ) (t : Option Tape) → settled_tape size end 0 t ≡ t
nothing_to_settle size end None = refl
nothing_to_settle size end (Some t) = refl

settled_on_first : (size end count : ℕ) (t : Option Tape)
    → first_on (settled_tape size end count t) ≡ first_on t
settled_on_first size end count None = refl
settled_on_first size end count (Some t) =
    first_with_calls (Some t) (settle_calls size end count (state_now t))

counted_calls : (t : Option Tape) (moment : ℕ)
    → IfSome t (λ (x : Tape). moment ≡ length x.calls)
    → IfSome (calls_of t) (λ calls. moment ≡ length calls)
counted_calls None moment counts = tt
counted_calls (Some t) moment counts = counts

-- a writer that rests behind what was found, at the opening's moment
pub first_at_rest : (opening : Opening) (t : Option Tape) (moment : ℕ)
    → IfSome t (λ (x : Tape). moment ≡ length x.calls) → moment ≡ opening.moment
    → IsFirstWriter opening (resting_plain t moment (found_end opening) opening.made)
first_at_rest opening t moment counts is = record {
  moment_is = is;
  counted = counted_calls t moment counts;
  written = refl;
  made = refl;
  waiting = refl;
  fault = refl;
}

module _ {D : Type 0} (tape : D → Option Tape) (moment faults : D → ℕ) (founding : Founding D) where
  abbrev opening : Opening
  opening = founded_opening founding

  abbrev disk : D
  disk = disk_of_founding founding

  abbrev began : Option Tape
  began = began_of_founding tape founding

  pub began_on_first : first_on began ≡ first_on (tape disk)
  unfolding began_of_founding
  began_on_first = settled_on_first (founding.setup).seg_size (found_end opening)
      founding.made (tape disk)

  pub nothing_settled : founding.made ≡ 0 → began ≡ tape disk
  unfolding began_of_founding
  nothing_settled none =
      ap (λ (n : ℕ). settled_tape (founding.setup).seg_size (found_end opening) n (tape disk))
      none ∙ nothing_to_settle (founding.setup).seg_size (found_end opening) (tape disk)

  pub began_settled : (new : Option Tape) (new_moment : ℕ)
      → HasSettled (founding.setup).seg_size (found_end opening) founding.made (tape disk) new
      (moment disk) new_moment → new ≡ began
  unfolding began_of_founding
  began_settled new new_moment settled = settled_tape_is (founding.setup).seg_size
      (found_end opening) founding.made (tape disk) new (moment disk) new_moment settled

  -- ---- the writer that was handed in

  module _ (w : LogWriter D) where
    pub unsettled_unbegun : IsUnsettledWriter tape moment faults founding w
        → IsUnbegunWriter tape opening began w
    unsettled_unbegun is = record {
      size_is = is.size;
      on_first = ap (λ (d : D). first_on (tape d)) (sym is.disk) ∙ sym began_on_first;
    }

    -- the writer of the opening is one of a table that is not begun
    pub uncalled_unbegun : IsUncalledWriter tape moment opening began w
        → IsUnbegunWriter tape opening began w
    uncalled_unbegun uncalled = record {
      size_is = uncalled.size_is;
      on_first = ap first_on uncalled.tape_is;
    }

    -- ---- the writer in hand, on the disk as it was handed in

    pub as_founded : IsUnbegunWriter tape opening began w
        → slot_plain tape moment w ≡ founded_plain tape moment founding
        → faults (slot_disk w) ≡ founding.faults → IsAsFounded tape moment faults founding w
    as_founded ours plain failed = record {
      plain_is = plain;
      tape_is = same_tape (tape (slot_disk w)) (tape disk) (ours.on_first ∙ began_on_first)
          (ap (λ (p : Plain). p.calls) plain);
      size_is = ours.size_is;
      failed_is = failed;
    }

    module _ (given : IsAsFounded tape moment faults founding w) where
      -- nothing has to be settled
      pub opens_uncalled : founding.made ≡ 0
          → IfSome (tape disk) (λ (t : Tape). moment disk ≡ length t.calls)
          → moment disk ≡ opening.moment → IsUncalledWriter tape moment opening began w
      opens_uncalled none counts is = record {
        first = subst (λ (p : Plain). IsFirstWriter opening p) (sym given.plain_is)
            (first_at_rest opening (tape disk) (moment disk) counts is);
        size_is = given.size_is;
        tape_is = given.tape_is ∙ sym (nothing_settled none);
      }

      pub moment_as : moment (slot_disk w) ≡ moment disk
      moment_as = ap (λ (p : Plain). p.moment) given.plain_is

      -- the writer behind calls that settled the log, or that stopped
      module _ (new : LogWriter D)
          (plain_is : slot_plain tape moment new ≡ record (slot_plain tape moment w) {
            calls = calls_of (tape (slot_disk new));
            moment = moment (slot_disk new);
          })
          (size_is : slot_segment_size new ≡ slot_segment_size w) where
        rests : slot_plain tape moment new ≡ resting_plain (tape (slot_disk new))
            (moment (slot_disk new)) (found_end opening) opening.made
        rests = plain_is ∙ ap (λ (p : Plain). record p {
          calls = calls_of (tape (slot_disk new));
          moment = moment (slot_disk new);
        }) given.plain_is

        module _ (settled : HasSettled (founding.setup).seg_size (found_end opening)
            founding.made (tape (slot_disk w)) (tape (slot_disk new)) (moment (slot_disk w))
            (moment (slot_disk new))) (is : moment (slot_disk new) ≡ opening.moment) where
          settled_from : HasSettled (founding.setup).seg_size (found_end opening)
              founding.made (tape disk) (tape (slot_disk new)) (moment disk)
              (moment (slot_disk new))
          settled_from = subst (λ (t : Option Tape). HasSettled (founding.setup).seg_size
              (found_end opening) founding.made t (tape (slot_disk new)) (moment disk)
              (moment (slot_disk new))) given.tape_is
              (subst (λ (m : ℕ). HasSettled (founding.setup).seg_size (found_end opening)
              founding.made (tape (slot_disk w)) (tape (slot_disk new)) m
              (moment (slot_disk new))) moment_as settled)

          tape_settled : tape (slot_disk new) ≡ began
          tape_settled =
              began_settled (tape (slot_disk new)) (moment (slot_disk new)) settled_from

          pub settled_uncalled : IfSome (tape (slot_disk new))
              (λ (t : Tape). moment (slot_disk new) ≡ length t.calls)
              → IsUncalledWriter tape moment opening began new
          settled_uncalled counts = record {
            first = subst (λ (p : Plain). IsFirstWriter opening p) (sym rests)
                (first_at_rest opening (tape (slot_disk new)) (moment (slot_disk new)) counts
                is);
            size_is = size_is ∙ given.size_is;
            tape_is = tape_settled;
          }

          pub settled_begun : HasSettled (founding.setup).seg_size (found_end opening)
              founding.made (tape disk) began (moment disk) opening.moment
          settled_begun = subst (λ (t : Option Tape). HasSettled (founding.setup).seg_size
              (found_end opening) founding.made (tape disk) t (moment disk) opening.moment)
              tape_settled
              (subst (λ (m : ℕ). HasSettled (founding.setup).seg_size (found_end opening)
              founding.made (tape disk) (tape (slot_disk new)) (moment disk) m) is settled_from)

        module _ (size end : ℕ) (stopped : HasNotSettled size end (tape (slot_disk w))
            (tape (slot_disk new)) (moment (slot_disk w)) (moment (slot_disk new))) where
          pub stopped_unbegun : IsUnbegunWriter tape opening began new
          stopped_unbegun = record {
            size_is = size_is ∙ given.size_is;
            on_first = first_of_stopped (tape (slot_disk w)) (tape (slot_disk new))
                (moment (slot_disk w)) (moment (slot_disk new)) _ stopped.calls
                ∙ ap first_on given.tape_is ∙ sym began_on_first;
          }

          -- .. of the disk that comes back
          pub stopped_with : (last : D) → IsUncalled tape moment (slot_disk new) last
              → HasNotSettled size end (tape disk) (tape last) (moment disk) (moment last)
          stopped_with last still = subst (λ (t : Option Tape). HasNotSettled size end (tape disk)
              t (moment disk) (moment last)) (sym still.same_tape)
              (subst (λ (m : ℕ). HasNotSettled size end (tape disk) (tape (slot_disk new))
              (moment disk) m) (sym still.same_moment)
              (subst (λ (t : Option Tape). HasNotSettled size end t (tape (slot_disk new))
              (moment disk) (moment (slot_disk new))) given.tape_is
              (subst (λ (m : ℕ). HasNotSettled size end (tape (slot_disk w))
              (tape (slot_disk new)) m (moment (slot_disk new))) moment_as stopped)))

-- the moment behind as many calls as were planned is the one that was told ahead
pub told_ahead : (first old new calls told : ℕ) → old ≡ first → new ≡ old + calls
    → new < 2 ^ 64 → (first + calls < 2 ^ 64 → told ≡ first + calls) → new ≡ told
told_ahead first old new calls told same more low ahead =
    let is = ahead (omega (arith, same, more, low)) in omega (arith, same, more, is)

-- one fault more
pub rose_by_one : (first old new last : ℕ) → RoseByOne old new → old ≡ first → last ≡ new
    → Rose first last
rose_by_one first old new last (inl more) same still = inl (omega (arith, more, same, still))
rose_by_one first old new last (inr most) same still = inr (still ∙ most.1)
