-- A standby that is sent a log makes its segments one behind another.
use Rattle.std.proofs.Common.{◌≡◌, ℕ, ◌/◌, ◌≤◌, inl, inr, max, Bool, true, false, ◌==◌, is_some, if◌then◌else◌, List, [], ◌∷◌, ◌++◌, Option, Some, None, IfSome, Result, Ok, Err, refl, sym, ap, subst, ◌∙◌, arith}
use Rattle.std.proofs.lemmas.Bool.{cases_lt, false≢true}
use Rattle.std.proofs.lemmas.Option.{IfSome_then}
use Rattle.byte_position.specs.Geometry.{IsSegmentSize, pages_of}
use Rattle.segment_disk.specs.declared.disk.Call.{Call}
use Rattle.segment_disk.specs.declared.disk.CallKind.TheVariants.{Sync}
use Rattle.segment_disk.specs.DiskImage.{image_as_read}
use Rattle.segment_disk.specs.Tape.{DiskState, Segment, Tape, after_calls, segment_after, state_now}
use Rattle.segment_disk.proofs.Presence.{is_some-kept}
use Rattle.flush_core.specs.Calls.{harden_calls, with_calls}
use Rattle.flush_core.specs.Pages.{HoldsPages, HoldsPut, HoldsSegment, PutPages}
use Rattle.flush_core.specs.Writer.{FailsNow, TellsFault, calls_to_harden, calls_to_put, disk_of, last_made, writer_fault}
use Rattle.flush_core.specs.declared.writer.Writer.{Writer}
use Rattle.flush_core.proofs.GrowingTapes.{with_calls-none, with_calls-some}
use Rattle.flush_core.proofs.SettledPages.{after_calls-append}
use Rattle.machine_state.specs.Made.{MakeInTurn}
use Rattle.wal_page.specs.Order.{Entry}
use Rattle.wal_stream.specs.Following.{AreSentSteps, FollowsLog, Harden, IsSentStep, NotHardened, Offer, SentStep, standby_behind}
use Rattle.wal_stream.specs.Standby.{AnswersFrame, AnswersTaken, Extends, FailsToHarden, FailsToTake, HasHardenedLog, standby_disk, standby_fault}
use Rattle.wal_stream.specs.Frame.{SentPage}
use Rattle.wal_stream.specs.declared.answers.Accepted.{Accepted}
use Rattle.wal_stream.specs.declared.answers.Accepted.TheVariants.{Old, Taken}
use Rattle.wal_stream.specs.declared.answers.StandbyErr.{StandbyErr}
use Rattle.wal_stream.specs.declared.answers.StandbyErr.TheVariants.{Bad, Gap, Diverged, Disk}
use Rattle.wal_stream.specs.declared.standby.Standby.{Standby}
use Rattle.wal_stream.proofs.FollowLaws.{follows_and_keeps}
use Rattle.standby_laws.proofs.Turns.{HasSegmentsInTurn, MakesInTurn, broken_in_turn, grown_in_turn, grown_told, max_within, near_made, put_in_turn}

harden_in_turn : (size written made : ℕ) (unsynced : Bool)
    → MakeInTurn made (harden_calls size written unsynced) made
harden_in_turn size written made true = (tt, refl)
harden_in_turn size written made false = refl

up_and_down : (o : Option ℕ) (told : ℕ) → o ≡ None → o ≡ Some told → ⊥
up_and_down None told up down = absurd cc
up_and_down (Some n) told up down = absurd cc

-- ---- how many segments a disk has

none_held : (segment : ℕ) (s : Option Segment)
    → image_as_read (λ (m : ℕ). s) segment ≡ None → is_some s ≡ false
none_held segment None none = refl
none_held segment (Some s) none = absurd cc

some_held : (size : ℕ) (pages : PutPages) (segment : ℕ) (s : Option Segment)
    → HoldsSegment size pages segment (image_as_read (λ (m : ℕ). s) segment) → is_some s ≡ true
some_held size pages segment None holds = absurd holds
some_held size pages segment (Some s) holds = refl

no_fewer : (one_size other_size one other : ℕ) (one_pages other_pages : PutPages)
    (before after : DiskState) → ((n : ℕ) → is_some (after n) ≡ is_some (before n))
    → HoldsPages one_size one (image_as_read before) one_pages
    → HoldsPages other_size other (image_as_read after) other_pages → other ≤ one
no_fewer one_size other_size one other one_pages other_pages before after same first second =
    elim (cases_lt one other) [
      | inl less ↦
          (let none = none_held other (before other) (first.others other (inr less)) in
          let some = some_held other_size other_pages other (after other)
          (second.there other (omega (arith, less)) (omega arith)) in
          absurd (false≢true (sym none ∙ sym (same other) ∙ some)))
      | inr upto ↦ omega (arith, upto)
    ]

made_same : (one_size other_size one other : ℕ) (one_pages other_pages : PutPages)
    (before after : DiskState) → ((n : ℕ) → is_some (after n) ≡ is_some (before n))
    → HoldsPages one_size one (image_as_read before) one_pages
    → HoldsPages other_size other (image_as_read after) other_pages → one ≡ other
made_same one_size other_size one other one_pages other_pages before after same first second =
    omega (
      arith,
      no_fewer one_size other_size one other one_pages other_pages before after same first second,
      no_fewer other_size one_size other one other_pages one_pages after before
          (λ n. sym (same n)) second first,
    )

-- a sync makes none
synced_same : (size written : ℕ) (unsynced : Bool) (state : DiskState) (n : ℕ)
    → is_some (after_calls state (harden_calls size written unsynced) n) ≡ is_some (state n)
synced_same size written false state n = refl
synced_same size written true state n = by_test (n == written / size)
  where
    by_test : (b : Bool)
        → is_some (if b then segment_after Sync size true (state n) else state n)
        ≡ is_some (state n)
    by_test true = is_some-kept Sync tt size true (state n)
    by_test false = refl

module _ {D : Type 0} (tape : D → Option Tape) (moment faults : D → ℕ) (since : ℕ) where
  abbrev InTurn : Standby D → Type 0
  InTurn s = IfSome (tape (standby_disk s)) (HasSegmentsInTurn since s)

  -- ---- calls of a writer

  module _ (old new : Standby D) where
    done_in_turn : (calls : List Call) (upto : ℕ) → standby_fault old ≡ None
        → tape (standby_disk new) ≡ with_calls (tape (standby_disk old)) calls
        → MakeInTurn (last_made old.writer) calls upto → last_made new.writer ≡ upto
        → (last_made old.writer ≤ old.cap → upto ≤ new.cap) → InTurn old → InTurn new
    done_in_turn calls upto up grown turn made within =
        grown_told (tape (standby_disk old)) (tape (standby_disk new)) calls
        (HasSegmentsInTurn since old) (HasSegmentsInTurn since new) grown
        (λ t has. (
        let known = has.known up in
        let most : upto ≤ new.cap = within (subst (λ (n : ℕ). n ≤ old.cap) known.0 known.1) in
        record {
          last = upto;
          made = grown_in_turn since has.last upto t calls has.made
              (subst (λ (n : ℕ). MakeInTurn n calls upto) (sym known.0) turn);
          known = λ _. (sym made, most);
          low = omega (arith, most);
        }))

    broken_off : (told : ℕ) (calls : List Call) (upto : ℕ)
        → FailsNow tape moment faults old.writer new.writer told calls
        → MakeInTurn (last_made old.writer) calls upto
        → (last_made old.writer ≤ old.cap → upto ≤ new.cap) → InTurn old → InTurn new
    broken_off told calls upto now turn within =
        let grows = broken_in_turn (last_made old.writer) upto (tape (standby_disk old))
        (tape (standby_disk new)) (moment (standby_disk old)) (moment (standby_disk new)) calls turn
        now.made in
        grown_told (tape (standby_disk old)) (tape (standby_disk new)) grows.more
        (HasSegmentsInTurn since old) (HasSegmentsInTurn since new) grows.grown
        (λ t has. (
        let known = has.known now.was_up in
        let most : upto ≤ new.cap = within (subst (λ (n : ℕ). n ≤ old.cap) known.0 known.1) in
        record {
          last = grows.last;
          made = grown_in_turn since has.last grows.last t grows.more has.made
              (subst (λ (n : ℕ). MakeInTurn n grows.more grows.last) (sym known.0) grows.turn);
          known = λ up. absurd (up_and_down (standby_fault new) told up now.is_down);
          low = omega (arith, grows.low, most);
        }))

    same_writer : new.writer ≡ old.writer → new.cap ≡ old.cap → InTurn old → InTurn new
    same_writer same cap is =
        subst (λ (o : Option Tape). IfSome o (HasSegmentsInTurn since new))
        (ap (λ (w : Writer D). tape (disk_of w)) (sym same))
        (IfSome_then (tape (standby_disk old)) is (λ t has. record {
          last = has.last;
          made = has.made;
          known = λ up. (
              let known = has.known (ap (λ (w : Writer D). writer_fault w) (sym same) ∙ up) in (
                known.0 ∙ ap (λ (w : Writer D). last_made w) (sym same),
                omega (arith, known.1, cap),
              ));
          low = omega (arith, has.low, cap);
        }))

    tells_fault : (told : ℕ) (calls : List Call) (upto : ℕ)
        → TellsFault tape moment faults old.writer new.writer told calls → new.cap ≡ old.cap
        → MakeInTurn (last_made old.writer) calls upto
        → (last_made old.writer ≤ old.cap → upto ≤ new.cap) → InTurn old → InTurn new
    tells_fault told calls upto (inl now) cap turn within =
        broken_off told calls upto now turn within
    tells_fault told calls upto (inr again) cap turn within = same_writer again.same cap

    same_standby : new ≡ old → InTurn old → InTurn new
    same_standby same = subst InTurn (sym same)

  -- ---- along the steps of one that follows a log

  module _ (sysid : ℕ) (es : List Entry) (hardened : ℕ) where
    module _ (old new : Standby D) (valid : IsSegmentSize old.geometry)
        (follows : FollowsLog tape sysid es since old) where
      valid_writer : IsSegmentSize (old.writer).geometry
      valid_writer = subst IsSegmentSize (sym old.sized) valid

      -- the page that goes on at its end is of the last segment, or of the next one
      page_in_turn : (bytes : List ℕ) (sent : SentPage) → standby_fault old ≡ None
          → Extends old bytes sent
          → MakeInTurn (last_made old.writer)
          (calls_to_put old.writer sent.page sent.upto sent.bytes)
          (max (last_made old.writer) (sent.page / pages_of (old.writer).geometry))
      page_in_turn bytes sent up extends =
          put_in_turn (old.writer).geometry (last_made old.writer) sent.page sent.upto sent.bytes
          (near_made (old.writer).geometry (last_made old.writer) ((old.writer).written).0 sent.page
          valid_writer (follows.holds up).writer.reached extends.next.holds_end)

      page_within : (bytes : List ℕ) (sent : SentPage) → Extends old bytes sent
          → new.cap ≡ old.cap → last_made old.writer ≤ old.cap
          → max (last_made old.writer) (sent.page / pages_of (old.writer).geometry) ≤ new.cap
      page_within bytes sent extends cap made =
          let most : sent.page / pages_of (old.writer).geometry ≤ old.cap =
          subst (λ (n : ℕ). sent.page / pages_of n ≤ old.cap) (sym old.sized)
          extends.brings.among.1 in
          max_within (last_made old.writer) (sent.page / pages_of (old.writer).geometry) new.cap
          (omega (arith, made, cap)) (omega (arith, most, cap))

      taken_in_turn : (bytes : List ℕ) (upto : ℕ)
          → AnswersTaken tape moment faults old new bytes upto → InTurn old → InTurn new
      taken_in_turn bytes upto taken =
          let sent = taken.sent in
          let up = taken.put.calls.was_up in
          done_in_turn old new (calls_to_put old.writer sent.page sent.upto sent.bytes)
          (max (last_made old.writer) (sent.page / pages_of (old.writer).geometry)) up
          taken.put.calls.made.tape (page_in_turn bytes sent up taken.extends) taken.put.made
          (page_within bytes sent taken.extends taken.kind.cap)

      not_taken_in_turn : (bytes : List ℕ) (told : ℕ)
          → FailsToTake tape moment faults old new bytes told → InTurn old → InTurn new
      not_taken_in_turn bytes told failed =
          let sent = failed.sent in
          tells_fault old new told (calls_to_put old.writer sent.page sent.upto sent.bytes)
          (max (last_made old.writer) (sent.page / pages_of (old.writer).geometry))
          failed.failed.why failed.kind.cap (page_in_turn bytes sent failed.up failed.extends)
          (page_within bytes sent failed.extends failed.kind.cap)

      answered_in_turn : (bytes : List ℕ) (answer : Result Accepted StandbyErr)
          → AnswersFrame tape moment faults old new bytes answer → InTurn old → InTurn new
      answered_in_turn bytes (Ok (Old upto)) is = same_standby old new is.same
      answered_in_turn bytes (Ok (Taken upto)) is = taken_in_turn bytes upto.0 is
      answered_in_turn bytes (Err Bad) is = same_standby old new is.same
      answered_in_turn bytes (Err (Gap at)) is = same_standby old new is.same
      answered_in_turn bytes (Err (Diverged at)) is = same_standby old new is.same
      answered_in_turn bytes (Err (Disk told)) (inl failed) = not_taken_in_turn bytes told failed
      answered_in_turn bytes (Err (Disk told)) (inr again) = same_standby old new again.same

      -- a sync makes none
      synced : MakeInTurn (last_made old.writer) (calls_to_harden old.writer) (last_made old.writer)
      synced = harden_in_turn (old.writer).geometry ((old.writer).written).0
          (last_made old.writer) (old.writer).unsynced

      hardened_in_turn : (upto : ℕ) → HasHardenedLog tape moment faults old new upto
          → InTurn old → InTurn new
      hardened_in_turn upto is = by_tape (tape (standby_disk old)) refl
        where
          by_tape : (o : Option Tape) → tape (standby_disk old) ≡ o → InTurn old → InTurn new
          by_tape None told in_turn =
              subst (λ (o : Option Tape). IfSome o (HasSegmentsInTurn since new))
              (sym (is.hardened.calls.made.tape
              ∙ ap (λ (o : Option Tape). with_calls o (calls_to_harden old.writer)) told
              ∙ with_calls-none (calls_to_harden old.writer)))
              tt
          by_tape (Some t) told in_turn =
              let calls = calls_to_harden old.writer in
              let held = follows.holds is.hardened.calls.was_up in
              let writer = is.hardened.holds held.pages held.writer in
              let before = subst (λ (o : Option Tape). IfSome o (λ t. HoldsPut (old.writer).geometry
              ((old.writer).written).0 (old.writer).made (old.writer).unsynced (state_now t)
              held.pages)) told held.writer.holds in
              let told_now = is.hardened.calls.made.tape
              ∙ ap (λ (o : Option Tape). with_calls o calls) told ∙ with_calls-some t calls in
              let behind = subst (λ (o : Option Tape). IfSome o (λ t. HoldsPut (new.writer).geometry
              ((new.writer).written).0 (new.writer).made (new.writer).unsynced (state_now t)
              held.pages)) told_now writer.holds in
              let made = made_same (old.writer).geometry (new.writer).geometry (old.writer).made
              (new.writer).made held.pages held.pages (state_now t)
              (state_now (record t { calls = t.calls ++ calls }))
              (λ n. ap (λ (state : DiskState). is_some (state n))
              (after_calls-append t.at_first t.calls calls)
              ∙ synced_same (old.writer).geometry ((old.writer).written).0 (old.writer).unsynced
              (state_now t) n) before.read behind.read in
              done_in_turn old new calls (last_made old.writer) is.hardened.calls.was_up
              is.hardened.calls.made.tape synced (sym made)
              (λ low. omega (arith, low, is.kind.cap)) in_turn

      not_hardened_in_turn : (told : ℕ) → FailsToHarden tape moment faults old new told
          → InTurn old → InTurn new
      not_hardened_in_turn told is =
          tells_fault old new told (calls_to_harden old.writer) (last_made old.writer) is.why
          is.kind.cap synced (λ low. omega (arith, low, is.kind.cap))

      step_in_turn : (step : SentStep)
          → IsSentStep tape moment faults sysid es hardened old new step → InTurn old → InTurn new
      step_in_turn (Offer bytes answer) is = answered_in_turn bytes answer is.1
      step_in_turn (Harden upto) is = hardened_in_turn upto is
      step_in_turn (NotHardened told) is = not_hardened_in_turn told is

    answered_cap : (old new : Standby D) (bytes : List ℕ) (answer : Result Accepted StandbyErr)
        → AnswersFrame tape moment faults old new bytes answer → new.cap ≡ old.cap
    answered_cap old new bytes (Ok (Old upto)) is = ap (λ (s : Standby D). s.cap) is.same
    answered_cap old new bytes (Ok (Taken upto)) is = is.kind.cap
    answered_cap old new bytes (Err Bad) is = ap (λ (s : Standby D). s.cap) is.same
    answered_cap old new bytes (Err (Gap at)) is = ap (λ (s : Standby D). s.cap) is.same
    answered_cap old new bytes (Err (Diverged at)) is = ap (λ (s : Standby D). s.cap) is.same
    answered_cap old new bytes (Err (Disk told)) (inl failed) = failed.kind.cap
    answered_cap old new bytes (Err (Disk told)) (inr again) =
        ap (λ (s : Standby D). s.cap) again.same

    step_cap : (old new : Standby D) (step : SentStep)
        → IsSentStep tape moment faults sysid es hardened old new step → new.cap ≡ old.cap
    step_cap old new (Offer bytes answer) is = answered_cap old new bytes answer is.1
    step_cap old new (Harden upto) is = is.kind.cap
    step_cap old new (NotHardened told) is = is.kind.cap

    -- as often as may be
    pub steps_in_turn : (first : Standby D) (steps : List (SentStep × Standby D))
        → IsSegmentSize first.geometry → FollowsLog tape sysid es since first
        → AreSentSteps tape moment faults sysid es hardened first steps
        → MakesInTurn tape since first → MakesInTurn tape since (standby_behind first steps)
    steps_in_turn first [] valid follows are in_turn = in_turn
    steps_in_turn first (step ∷ steps) valid follows are in_turn =
        let stays = (follows_and_keeps tape moment faults sysid es since hardened first (step ∷ [])
        (are.0, tt)).stays in
        steps_in_turn step.1 steps (subst IsSegmentSize (sym stays.size) valid)
        (stays.follows follows) are.1 (record {
          few = omega (arith, in_turn.few, step_cap first step.1 step.0 are.0);
          told = step_in_turn first step.1 valid follows step.0 are.0 in_turn.told;
        })
