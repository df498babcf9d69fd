-- The writer's record is kept by each call, and a call ends as its number says.
use Rattle.std.proofs.Common.{rules, [], ◌∷◌, ◌++◌, ◌≡◌, ◌≢◌, ◌⊎◌, ℕ, ◌+◌, ◌-◌, ◌*◌, ◌<◌, ◌≤◌, Bool, true, false, not, ◌&&◌, ◌||◌, IsTrue, List, Option, Some, None, is_some, Result, Ok, Err, is_ok, OnErr, refl, sym, ap, subst, ◌∙◌, ◌==◌, nat_lt, if◌then◌else◌, inl, inr, arith}
use Rattle.std.proofs.lemmas.Bool.{eq-eqb, false≢true, ne_eqb, true≢false}
use Rattle.std.proofs.lemmas.Bool.Decides.{eqb_tells}
use mathlib.Core.Option.{none, some}
use Rattle.byte_position.specs.Geometry.{pages_of}
use Rattle.segment_disk.specs.Cause.{HasCause, RoseByOne}
use Rattle.segment_disk.specs.Failing.{is_listed}
use Rattle.segment_disk.specs.First.{first_state}
use Rattle.segment_disk.specs.MemDisk.{IsCounted, Limits, can_create, count_behind_create, counts_next, disk_state_of, faults_of, has_segment, limits_of, moment_of, segment_count, tape_of}
use Rattle.segment_disk.specs.Present.{MakesNone}
use Rattle.segment_disk.specs.Tape.{Answers, DiskState, IsMade, Segment, Tape, after_call, create_call, empty_state, failed_call, segment_after, state_now, write_call}
use Rattle.segment_disk.specs.declared.disk.Call.{Call}
use Rattle.segment_disk.specs.declared.failed.Failed.{Failed}
use Rattle.segment_disk.specs.declared.memory.disk.MemDisk.{MemDisk}
use Rattle.segment_disk.proofs.Presence.{is_some-kept}
use Rattle.segment_disk.proofs.Reading.{after_calls-push}
use Rattle.machine_state.specs.Views.{Plain}
use Rattle.machine_state.specs.Moves.{Done, Failed as HasFailed, CallOutcome, after_write}
use Rattle.machine_turns.specs.Turned.{call_outcome}
use Rattle.machine_turns.specs.Writer.{IsGoing, IsWriterKept, WriterState, segment_at, state_of}
use Rattle.machine_turns.specs.declared.writer.MachineWriter.{MachineWriter}
use Rattle.machine_turns.proofs.Bounds.{segment_counts, within_room}

-- ---- what a call leaves of the segments

abbrev state_of_tape : Option Tape → DiskState
state_of_tape None = empty_state
state_of_tape (Some t) = state_now t

module _ (old new : MemDisk) (call : Call) (made : IsMade (tape_of old) (tape_of new) (moment_of old) (moment_of new) call) where
  state_behind : (s : ℕ) → disk_state_of new s ≡ after_call (disk_state_of old) call s
  state_behind s =
      ap (λ (t : Option Tape). state_of_tape t s) made.tape ∙ ap (λ (d : DiskState). d s) (after_calls-push (first_state old.first.items) old.calls.made.items call)

  -- its own segment, and each other one
  state_here : disk_state_of new call.segment ≡ segment_after call.kind call.geometry call.done (disk_state_of old call.segment)
  state_here =
      state_behind call.segment ∙ ap (λ (b : Bool). if b then segment_after call.kind call.geometry call.done (disk_state_of old call.segment) else disk_state_of old call.segment) (eq-eqb call.segment call.segment refl)

  state_elsewhere : (s : ℕ) → s ≢ call.segment → disk_state_of new s ≡ disk_state_of old s
  state_elsewhere s differ =
      state_behind s ∙ ap (λ (b : Bool). if b then segment_after call.kind call.geometry call.done (disk_state_of old s) else disk_state_of old s) (ne_eqb s call.segment differ)

  -- a call that makes no segment leaves those that are there
  has_kept : MakesNone call.kind → (s : ℕ) → has_segment new s ≡ has_segment old s
  has_kept makes s = ap is_some (state_behind s) ∙ by_test (s == call.segment)
    where
      by_test : (b : Bool) → is_some (if b then segment_after call.kind call.geometry call.done (disk_state_of old s) else disk_state_of old s) ≡ is_some (disk_state_of old s)
      by_test true = is_some-kept call.kind makes call.geometry call.done (disk_state_of old s)
      by_test false = refl

none_of : {A : Type 0} (o : Option A) → is_some o ≡ false → o ≡ None
none_of None empty = refl
none_of (Some x) full = absurd (true≢false full)

-- ---- how a call ends

module _ (old new : MemDisk) (call : Call) (counted : IsCounted old new) (counts : IsTrue (counts_next old)) where
  -- a call that failed was counted
  pub record FailsCounted : Type 0 where
    pub kind : Bool
    pub made : IsMade (tape_of old) (tape_of new) (moment_of old) (moment_of new) (failed_call kind call)
    pub rose : RoseByOne (faults_of old) (faults_of new)

  pub fails_counted : (r : Result Unit Failed) → is_ok r ≡ false → Answers tape_of moment_of old new call r → HasCause (faults_of old) (faults_of new) r → FailsCounted
  fails_counted (Ok u) bad answers cause = absurd (true≢false bad)
  fails_counted (Err e) bad (inl found) cause = record { kind = found.0; made = found.1; rose = cause }
  fails_counted (Err e) bad (inr unmade) cause = absurd (omega (arith, counted.within counts, unmade.same_moment))

pub rose_from_none : (new : ℕ) → RoseByOne 0 new → new ≡ 1
rose_from_none new (inl one) = one
rose_from_none new (inr (same, last)) = omega (arith, same, last)

-- a call that is counted and may be made fails exactly where its number is listed
pub done_by : (counts has listed done : Bool) → done ≡ ((counts && not listed) && has) → IsTrue counts → has ≡ true → done ≡ not listed
done_by false has listed done e c h = absurd (false≢true c)
done_by true has false done e c h = e ∙ h
done_by true has true done e c h = e

pub listed_by : (listed : Bool) → false ≡ not listed → listed ≡ true
listed_by true e = refl
listed_by false e = absurd (false≢true e)

pub outcome_listed : (failing : List ℕ) (faults moment : ℕ) → is_listed failing (moment + 1) ≡ true → call_outcome failing faults moment ≡ HasFailed (faults + 1) (some false)
outcome_listed failing faults moment e = rw e refl

pub outcome_unlisted : (failing : List ℕ) (faults moment : ℕ) → is_listed failing (moment + 1) ≡ false → call_outcome failing faults moment ≡ Done
outcome_unlisted failing faults moment e = rw e refl

-- ---- the next call has room

tells_lt : (a b : ℕ) → a < b → nat_lt a b ≡ true
tells_lt a b low = search rules

pub counts_now : (disk : MemDisk) → 1 ≤ (limits_of disk).calls - moment_of disk → IsTrue (counts_next disk)
counts_now disk has_room = nat_lt_true (omega (arith, has_room))
  where
    nat_lt_true : {a b : ℕ} → a < b → IsTrue (nat_lt a b)
    nat_lt_true low = search rules

-- one call more leaves room for one less
pub room_behind : (old new : MemDisk) → limits_of new ≡ limits_of old → moment_of new ≡ moment_of old + 1
    → (limits_of new).calls - moment_of new ≡ (limits_of old).calls - moment_of old - 1
room_behind old new limits one_more =
    ap (λ (l : Limits). l.calls - moment_of new) limits ∙ omega (arith, one_more)

-- ---- the record is kept

made_up_to : (P : ℕ → Type 0) (made s : ℕ) → s ≤ made + 1 → (s ≤ made → P s) → (s ≡ made + 1 → P s) → P s
made_up_to P made s low before last = by_test (eqb_tells s (made + 1))
  where
    by_test : (((s == made + 1) ≡ true) × (s ≡ made + 1)) ⊎ (((s == made + 1) ≡ false) × (s ≢ made + 1)) → P s
    by_test (inl same) = last same.1
    by_test (inr differ) = before (omega (arith, differ.1))

create_counted : (disk : MemDisk) (segment count : ℕ) → segment_count disk ≡ count → disk_state_of disk segment ≡ None → count_behind_create disk segment true ≡ count + 1
create_counted disk segment count is absent =
    ap (λ (o : Option Segment). if not (is_some o) then segment_count disk + 1 else segment_count disk) absent ∙ ap (λ (n : ℕ). n + 1) is

module _ (size end : ℕ) (old new : MemDisk) (page : List ℕ) (limits : limits_of new ≡ limits_of old) (faults : faults_of new ≡ faults_of old) where
  -- by a create
  pub kept_create : (w now : Plain) → IsWriterKept size end old w page → w.fault ≡ none → (w.made + 1) * size ≤ w.written → w.written < end
      → IsMade (tape_of old) (tape_of new) (moment_of old) (moment_of new) (create_call size (w.made + 1))
      → segment_count new ≡ count_behind_create old (w.made + 1) true
      → now.written ≡ w.written → now.made ≡ w.made + 1 → now.waiting ≡ w.waiting → IsWriterKept size end new now page
  kept_create w now kept up behind within made counted written_is made_is waiting_is = record {
    begun = omega (arith, kept.begun);
    within = omega (arith, kept.within);
    segments = subst (λ (l : Limits). end ≤ size * (l.segments + 1)) (sym limits) kept.segments;
    whole = kept.whole;
    going = λ still. going_on;
  }
    where
      g : IsGoing size end old w
      g = kept.going up

      call : Call
      call = create_call size (w.made + 1)

      new_here : has_segment new (w.made + 1) ≡ true
      new_here = ap is_some (state_here old new call made)

      there_on : (s : ℕ) → 1 ≤ s → s ≤ w.made + 1 → has_segment new s ≡ true
      there_on s low high = made_up_to (λ (n : ℕ). has_segment new n ≡ true) w.made s high (λ before. ap is_some (state_elsewhere old new call made s (λ same. omega (arith, same, before))) ∙ g.there s low before)
          (λ last. ap (λ (n : ℕ). has_segment new n) last ∙ new_here)

      going_on : IsGoing size end new now
      going_on = record {
        unfailed = faults ∙ g.unfailed;
        there = λ s low high. there_on s low (omega (arith, high));
        absent = λ s above. state_elsewhere old new call made s (λ same. omega (arith, same, above)) ∙ g.absent s (omega (arith, above));
        count = counted ∙ create_counted old (w.made + 1) w.made g.count (g.absent (w.made + 1) (omega arith)) ∙ sym made_is;
        few = subst (λ (l : Limits). now.made ≤ l.segments) (sym limits) (omega (arith, within_room size w.made w.written end (limits_of old).segments behind within kept.segments));
        waits = λ s waits. let before = g.waits s (sym waiting_is ∙ waits) in (before.0, omega (arith, before.1));
      }

  -- by a call that makes no segment: a write of a segment that is there, and a sync
  pub kept_call : (call : Call) → MakesNone call.kind → (w now : Plain) → IsWriterKept size end old w page → w.fault ≡ none
      → IsMade (tape_of old) (tape_of new) (moment_of old) (moment_of new) call
      → segment_count new ≡ segment_count old
      → w.written ≤ now.written → now.written ≤ end → now.made ≡ w.made
      → ((s : ℕ) → now.waiting ≡ some s → (1 ≤ s) × (s ≤ w.made)) → IsWriterKept size end new now page
  kept_call call makes w now kept up made counted rises within made_is waits = record {
    begun = omega (arith, kept.begun);
    within = within;
    segments = subst (λ (l : Limits). end ≤ size * (l.segments + 1)) (sym limits) kept.segments;
    whole = kept.whole;
    going = λ still. going_on;
  }
    where
      g : IsGoing size end old w
      g = kept.going up

      going_on : IsGoing size end new now
      going_on = record {
        unfailed = faults ∙ g.unfailed;
        there = λ s low high. has_kept old new call made makes s ∙ g.there s low (omega (arith, high));
        absent = λ s above. none_of (disk_state_of new s) (has_kept old new call made makes s ∙ ap is_some (g.absent s (omega (arith, above))));
        count = counted ∙ g.count ∙ sym made_is;
        few = subst (λ (l : Limits). now.made ≤ l.segments) (sym limits) (omega (arith, g.few));
        waits = λ s at. let known = waits s at in (known.0, omega (arith, known.1));
      }

-- ---- what a call that is done tells

module _ (old new : MemDisk) (call : Call) where
  pub record MadeOk : Type 0 where
    pub made : IsMade (tape_of old) (tape_of new) (moment_of old) (moment_of new) call
    pub faults : faults_of new ≡ faults_of old

  pub made_ok : (r : Result Unit Failed) → is_ok r ≡ true → Answers tape_of moment_of old new call r → HasCause (faults_of old) (faults_of new) r → MadeOk
  made_ok (Err e) good answers cause = absurd (false≢true good)
  made_ok (Ok u) good answers cause = record { made = answers; faults = cause }

-- ---- what a call that failed leaves

can_by : (has few : Bool) → few ≡ true → (has || few) ≡ true
can_by true few e = refl
can_by false few e = e

-- there is room for the next segment
pub can_make : (size end : ℕ) (disk : MemDisk) (w : Plain) (page : List ℕ) → IsWriterKept size end disk w page → IsGoing size end disk w → (w.made + 1) * size ≤ w.written → w.written < end → can_create disk (w.made + 1) ≡ true
can_make size end disk w page kept g behind within =
    can_by (has_segment disk (w.made + 1)) (nat_lt (segment_count disk) (limits_of disk).segments)
    (tells_lt (segment_count disk) (limits_of disk).segments (omega (arith, g.count, within_room size w.made w.written end (limits_of disk).segments behind within kept.segments)))

-- what a tape tells that the disk held at first, and its calls
abbrev first_told : Option Tape → DiskState
first_told None = empty_state
first_told (Some t) = t.at_first

abbrev calls_told : Option Tape → Option (List Call)
calls_told None = None
calls_told (Some t) = Some t.calls

-- a call leaves what was there at first
pub first_kept : (old new : MemDisk) (call : Call) → IsMade (tape_of old) (tape_of new) (moment_of old) (moment_of new) call → first_state new.first.items ≡ first_state old.first.items
first_kept old new call made = ap first_told made.tape

abbrev plain_with : Option (List Call) → (moment written made : ℕ) → (waiting : mathlib.Core.Option.Option ℕ) → (fault : ℕ) → Plain
plain_with calls moment written made waiting fault = record { calls = calls; moment = moment; written = written; made = made; waiting = waiting; fault = some fault }

abbrev writer_with : (size : ℕ) (first : DiskState) (end : ℕ) (page failing : List ℕ) (room : ℕ) → Plain → WriterState
writer_with size first end page failing room plain = record { size = size; first = first; plain = plain; failing = failing; end = end; room = room; page = page }

same_plain : (calls calls_now : Option (List Call)) (moment moment_now written made : ℕ) (waiting : mathlib.Core.Option.Option ℕ) (fault fault_now : ℕ) → calls_now ≡ calls → moment_now ≡ moment → fault_now ≡ fault
    → plain_with calls_now moment_now written made waiting fault_now ≡ plain_with calls moment written made waiting fault
same_plain calls calls_now moment moment_now written made waiting fault fault_now t m f = cc

same_writer : (size end : ℕ) (first first_now : DiskState) (page failing failing_now : List ℕ) (room room_now : ℕ) (p now : Plain) → first_now ≡ first → failing_now ≡ failing → room_now ≡ room → now ≡ p
    → writer_with size first_now end page failing_now room_now now ≡ writer_with size first end page failing room p
same_writer size end first first_now page failing failing_now room room_now p now d f r e = λ i. writer_with size (d i) end page (f i) (r i) (e i)

-- the writer behind a call that failed, which made no segment
pub writer_failed : (w : MachineWriter) (new : MemDisk) (call : Call) (after : CallOutcome → Plain) (kind : Bool) (waiting : mathlib.Core.Option.Option ℕ) (fault : ℕ)
    → IsMade (tape_of w.disk) (tape_of new) (moment_of w.disk) (moment_of new) (failed_call kind call) → fault ≡ 1
    → limits_of new ≡ limits_of w.disk → is_listed (limits_of w.disk).failing (moment_of w.disk + 1) ≡ true
    → after (HasFailed 1 (some false)) ≡ plain_with (Some (w.disk.calls.made.items ++ failed_call kind call ∷ [])) (moment_of w.disk + 1) w.written w.made waiting 1
    → writer_with w.geometry (first_state new.first.items) w.end w.page (limits_of new).failing ((limits_of new).calls - moment_of new) (plain_with (Some new.calls.made.items) (moment_of new) w.written w.made waiting fault)
    ≡ writer_with w.geometry (first_state w.disk.first.items) w.end w.page (limits_of w.disk).failing ((limits_of w.disk).calls - moment_of w.disk - 1) (after (call_outcome (limits_of w.disk).failing 0 (moment_of w.disk)))
writer_failed w new call after kind waiting fault made one limits listed after_is =
    let outcome = outcome_listed (limits_of w.disk).failing 0 (moment_of w.disk) listed in
    let p = same_plain (Some (w.disk.calls.made.items ++ failed_call kind call ∷ [])) (Some new.calls.made.items) (moment_of w.disk + 1) (moment_of new) w.written w.made waiting 1 fault (ap calls_told made.tape) made.moment one in
    same_writer w.geometry w.end (first_state w.disk.first.items) (first_state new.first.items) w.page (limits_of w.disk).failing (limits_of new).failing
    ((limits_of w.disk).calls - moment_of w.disk - 1) ((limits_of new).calls - moment_of new)
    (after (call_outcome (limits_of w.disk).failing 0 (moment_of w.disk))) (plain_with (Some new.calls.made.items) (moment_of new) w.written w.made waiting fault)
    (first_kept w.disk new (failed_call kind call) made)
    (ap (λ (l : Limits). l.failing) limits) (room_behind w.disk new limits made.moment) (p ∙ sym after_is ∙ ap after (sym outcome))

-- a create that failed made nothing
pub unmade_kind : (size : ℕ) (old new : MemDisk) (segment : ℕ) (kind : Bool) → IsMade (tape_of old) (tape_of new) (moment_of old) (moment_of new) (failed_call kind (create_call size segment))
    → disk_state_of old segment ≡ None → ((s : ℕ) → disk_state_of new s ≡ disk_state_of old s) → kind ≡ false
unmade_kind size old new segment true made absent same =
    absurd (true≢false (ap is_some (sym (state_here old new (failed_call true (create_call size segment)) made) ∙ same segment ∙ absent)))
unmade_kind size old new segment false made absent same = refl

pub err_fact : (r : Result Unit Failed) (P : Type 0) → is_ok r ≡ false → OnErr r P → P
err_fact (Ok u) P bad holds = absurd (true≢false bad)
err_fact (Err e) P bad holds = holds

-- a write named by its numbers
pub same_write : (w : WriterState) (outcome : CallOutcome) (upto segment page segment_now page_now : ℕ) → segment_now ≡ segment → page_now ≡ page
    → writer_with w.size w.first w.end w.page w.failing (w.room - 1) (after_write segment_now upto (write_call w.size segment_now page_now w.page) outcome w.plain)
    ≡ writer_with w.size w.first w.end w.page w.failing (w.room - 1) (after_write segment upto (write_call w.size segment page w.page) outcome w.plain)
same_write w outcome upto segment page segment_now page_now same_segment same_page =
    subst (λ (s : ℕ). writer_with w.size w.first w.end w.page w.failing (w.room - 1) (after_write segment_now upto (write_call w.size segment_now page_now w.page) outcome w.plain)
    ≡ writer_with w.size w.first w.end w.page w.failing (w.room - 1) (after_write s upto (write_call w.size s page w.page) outcome w.plain)) same_segment
    (ap (λ (p : ℕ). writer_with w.size w.first w.end w.page w.failing (w.room - 1) (after_write segment_now upto (write_call w.size segment_now p w.page) outcome w.plain)) same_page)

pub some_same : (a b : ℕ) → some a ≡ some b → a ≡ b
some_same a b same = ap number same
  where
    number : mathlib.Core.Option.Option ℕ → ℕ
    number none = 0
    number (some n) = n

pub none_is_not_some : (a : ℕ) → none ≡ some a → ⊥
none_is_not_some a same = true≢false (ap is_none same)
  where
    is_none : mathlib.Core.Option.Option ℕ → Bool
    is_none none = true
    is_none (some n) = false

-- the page under way lies in a segment that was made
pub segment_is_made : (w : MachineWriter) (segment pages : ℕ) → segment ≡ segment_at (state_of w) → segment_at (state_of w) ≤ w.made → w.geometry ≤ w.written
    → pages ≡ pages_of w.geometry → 8192 * pages ≡ w.geometry → 128 ≤ pages → (1 ≤ segment) × (segment ≤ w.made)
segment_is_made w segment pages is made begun pages_are whole some_pages =
    (subst (λ (n : ℕ). 1 ≤ n) (sym is) (segment_counts w.geometry w.written (subst (λ (n : ℕ). 8192 * n ≡ w.geometry) pages_are whole) (subst (λ (n : ℕ). 1 ≤ n) pages_are (omega (arith, some_pages))) begun), subst (λ (n : ℕ). n ≤ w.made) (sym is) made)
