-- What is kept of a log over a life, by what `pgwal` promises of its call.
use Rattle.std.proofs.Common.{◌≡◌, ◌⊎◌, ℕ, ◌^◌, ◌<◌, ◌≤◌, All, Contains, List, [], ◌∷◌, ◌++◌, length, Option, Some, inl, inr, refl, sym, ap, subst, ◌∙◌, arith}
use Rattle.std.proofs.lemmas.List.Elements.{All-weaker}
use Rattle.segment_disk.specs.declared.disk.Call.{Call}
use Rattle.segment_disk.specs.Tape.{Tape, state_now}
use Rattle.flush_core.specs.Calls.{with_calls}
use Rattle.flush_core.specs.Pages.{HoldsNothing}
use Rattle.flush_core.specs.Settled.{HasSettled}
use Rattle.flush_core.proofs.GrowingTapes.{with_calls-some}
use Rattle.wal_page.specs.Order.{Entry}
use Rattle.wal_reader.specs.declared.found.FoundRecord.{FoundRecord}
use Rattle.written_log_laws.specs.Written.{found_of}
use Rattle.found_log.specs.Found.{HasBegunToSettle}
use Rattle.machine_state.specs.Words.{Opening, found_end}
use Rattle.machine_laws.specs.WholeOrders.{LiesBehind}
use Rattle.machine_laws.proofs.WholeOrders.{LiesBehind-new}
use Rattle.wal_rule.specs.Founded.{empty_log_opening}
use Rattle.run_script.specs.Asked.{AskedLine}
use Rattle.run_laws.specs.declared.told.Told.{Told}
use Rattle.run_laws.specs.Crash.{SaysDurable}
use Rattle.run_laws.specs.Told.{SomeTold, order_from}
use Rattle.run_laws.proofs.AnswerLoops.{some_told}
use Rattle.run_laws.specs.Assured.{IsMachineRun, IsRunOn, TapeGoesOn}
use Rattle.reopened_log_laws.specs.FoundFirst.{AreFoundEntries}
use Rattle.reopened_log_laws.specs.Reopened.{IsReopenedOn}
use Rattle.reopened_log_laws.specs.WasLeft.{WasLeft}
use Rattle.reopened_log_laws.specs.Lives.{LifeEndsAt}
use Rattle.reopened_log_laws.proofs.FoundPlaces.{found_entries_are_one}
use Rattle.reopened_log_laws.proofs.KeptLives.{KeepsSure, failed_keeps, none_kept, settled_keeps, uncalled_keeps, with_left}
use Rattle.reopened_log_laws.proofs.KeptRecords.{IsSureRecord}
use Rattle.reopened_log_laws.proofs.Surviving.{some_tape}
use Rattle.run_script.specs.Generated.{generated_script}
use Rattle.cli_line.specs.declared.commands.RunOptions.{RunOptions}
use Rattle.cli_line.specs.declared.commands.ScriptRunOptions.{ScriptRunOptions}
use Rattle.backend_cli.specs.declared.outcome.Outcome.{Outcome}
use Rattle.backend_cli.specs.declared.outcome.Outcome.TheVariants.{OutOfMemory, SourceFault, ScriptRefused, BeyondCap, DiskFault, Stopped}
use Rattle.backend_cli.specs.Appending.{EndsUnappended, HoldsAppended, StopsSettling}
use Rattle.backend_cli.specs.Outside.{IsUntouched, Outside}
use Rattle.backend_cli.specs.Run.{HoldsOpened}
use Rattle.backend_cli.specs.Setups.{run_setup, system_id}
use Rattle.backend_cli.proofs.FoundPlaces.{LiesBehindLeft, appended_opening, lies_behind_left}
use Rattle.log_lives_laws.specs.History.{BeginsLog, EndsSettling, FailsToOpen, GeneratesLog, ContinuesLog, IsCalledOn, IsToldDurable}
use Rattle.log_lives_laws.proofs.Lives.{begun_keeps, run_keeps}

-- what was told, as the laws of runs say it
told_as : (size moment : ℕ) (order : List Entry) (lists : List (List Told))
    (more : List FoundRecord) → All (IsToldDurable size moment order lists) more
    → All
    (λ f. Contains (found_of size order) f × SomeTold (SaysDurable moment f.head.end.0) lists) more
told_as size moment order lists more all =
    All-weaker (IsToldDurable size moment order lists)
    (λ f. Contains (found_of size order) f × SomeTold (SaysDurable moment f.head.end.0) lists)
    (λ f told. (told.0, some_told (SaysDurable moment f.head.end.0) lists told.1)) more all

narrow : system_id < 2 ^ 64
narrow = omega arith

-- ---- a run that begins the log

module _ (size : ℕ) (options : RunOptions) (outside : Outside) (outcome : Outcome)
    (t now next : Tape) (called : IsCalledOn size options outside t now)
    (empty : HoldsNothing (Some t)) (script : List (List AskedLine)) (lists : List (List Told))
    (opened : HoldsOpened outside options outcome script lists) (moment : ℕ)
    (since : outside.moment_before ≤ moment) (more : List FoundRecord) where
  abbrev geometry : ℕ
  geometry = options.geometry

  abbrev opening : Opening
  opening = empty_log_opening (run_setup options (length script)) outside.moment_before
      outside.disk_before

  run : IsRunOn opening (Some t) (Some now) outside.moment_after script lists
  run = record {
    machine = subst (λ (o : Option Tape).
        IsMachineRun opening o outside.moment_after script lists) called.after
        (opened.since).machine;
    goes_on = subst (TapeGoesOn (Some t)) called.after
        (subst (λ (o : Option Tape). TapeGoesOn o outside.tape_after) called.before
        (opened.since).goes_on);
    moments = (opened.since).moments;
  }

  module _ (hard : List FoundRecord) (none : All (λ (f : FoundRecord). ⊥) hard) where
    at_geometry : LifeEndsAt geometry (order_from geometry 1 script lists) now moment next
        → All (IsToldDurable geometry moment (order_from geometry 1 script lists) lists) more
        → KeepsSure geometry system_id next (order_from geometry 1 script lists) (hard ++ more)
    at_geometry ends told =
        begun_keeps opening outside.moment_after moment t now next script lists
        (LiesBehind-new opening opened.headline.sized refl) run empty refl called.counted narrow
        since ends.left ends.no_torn_pass more
        (told_as geometry moment (order_from geometry 1 script lists) lists more told) hard none

    of_order : (order : List Entry) (n : ℕ) → geometry ≡ n → order ≡ order_from n 1 script lists
        → LifeEndsAt n order now moment next → All (IsToldDurable n moment order lists) more
        → KeepsSure n system_id next order (hard ++ more)
    of_order order n same =
        subst (λ (m : ℕ). order ≡ order_from m 1 script lists
        → LifeEndsAt m order now moment next → All (IsToldDurable m moment order lists) more
        → KeepsSure m system_id next order (hard ++ more)) same
        (λ is. subst (λ (o : List Entry). LifeEndsAt geometry o now moment next
        → All (IsToldDurable geometry moment o lists) more
        → KeepsSure geometry system_id next o (hard ++ more)) (sym is) at_geometry)

  -- none was sure on a disk that holds nothing
  opened_keeps : (order : List Entry) → order ≡ order_from size 1 script lists
      → LifeEndsAt size order now moment next → All (IsToldDurable size moment order lists) more
      → (before : List Entry) (hard : List FoundRecord) → KeepsSure size system_id t before hard
      → KeepsSure size system_id next order (hard ++ more)
  opened_keeps order is ends told before hard k =
      let none = with_left size system_id t before hard
      (λ (o : List Entry). All (λ (f : FoundRecord). ⊥) hard) k (λ found left kept.
      All-weaker (IsSureRecord size system_id left.order (state_now t)) (λ (f : FoundRecord). ⊥)
      (none_kept size system_id t found left empty) hard kept) in
      of_order hard none order size called.sized is ends told

module _ (size : ℕ) (t next : Tape) (order : List Entry) (more : List FoundRecord) where
  pub begins_keeps : BeginsLog size t next order more → (before : List Entry)
      (hard : List FoundRecord) → KeepsSure size system_id t before hard
      → KeepsSure size system_id next order (hard ++ more)
  begins_keeps life = opened_keeps size (life.options).run life.outside life.outcome t life.now next
      life.called life.empty (life.holds).0 (life.told ∷ life.others) (life.holds).2 life.moment
      life.since more order life.order_is life.ends life.told_hard

  pub generates_keeps : GeneratesLog size t next order more → (before : List Entry)
      (hard : List FoundRecord) → KeepsSure size system_id t before hard
      → KeepsSure size system_id next order (hard ++ more)
  generates_keeps life = opened_keeps size (life.options).run life.outside life.outcome t life.now
      next life.called life.empty (generated_script (life.options).lines)
      (life.told ∷ life.others) (life.holds).plays life.moment life.since more order life.order_is
      life.ends life.told_hard

-- ---- a run that goes on with it

-- what it promises that opened the log, of a disk that was left so
module _ (options : RunOptions) (outside : Outside) (outcome : Outcome) (t now : Tape)
    (script : List (List AskedLine)) (lists : List (List Told))
    (called : IsCalledOn options.geometry options outside t now)
    (appended : HoldsAppended outside options outcome script lists)
    (found : List FoundRecord) (left : WasLeft options.geometry system_id t found) where
  abbrev its_size : ℕ
  its_size = options.geometry

  abbrev its_opening : Opening
  its_opening = appended_opening options outside outcome script lists appended

  abbrev calls : List Call
  calls = appended.settled.calls.calls

  -- the tape at the opening
  abbrev began : Tape
  began = record t { calls = t.calls ++ calls }

  began_is : appended.began ≡ Some began
  began_is = appended.settled.calls.made.tape
      ∙ ap (λ (o : Option Tape). with_calls o calls) called.before ∙ with_calls-some t calls

  -- it was settled up to the place behind which it goes on
  settled_there : HasSettled its_size (found_end its_opening) appended.headline.segments
      outside.tape_before appended.began outside.moment_before appended.moment
  settled_there = subst (λ (n : ℕ). HasSettled its_size n appended.headline.segments
      outside.tape_before appended.began outside.moment_before appended.moment)
      (sym appended.ends_there) appended.settled

  -- that place lies behind the entries of what was left
  lies : LiesBehindLeft its_opening t found appended.headline.found
  lies = lies_behind_left options outside outcome script lists appended t called.before found left

  abbrev reopened : (front : List Entry) → LiesBehind its_opening front
      → found_of its_size front ≡ found
      → IsReopenedOn its_opening front outside.moment_before t began found
  reopened front lies_there found_is = record {
    left = left;
    counted = called.counted;
    openable = appended.openable;
    lies = lies_there;
    found_is = found_is;
    settled = subst (λ (o : Option Tape). HasSettled its_size (found_end its_opening)
        appended.headline.segments (Some t) o outside.moment_before appended.moment) began_is
        (subst (λ (o : Option Tape). HasSettled its_size (found_end its_opening)
        appended.headline.segments o appended.began outside.moment_before appended.moment)
        called.before settled_there);
  }

  its_run : IsRunOn its_opening (Some began) (Some now) outside.moment_after script lists
  its_run = record {
    machine = subst (λ (o : Option Tape).
        IsMachineRun its_opening o outside.moment_after script lists) called.after
        (appended.since).machine;
    goes_on = subst (TapeGoesOn (Some began)) called.after
        (subst (λ (o : Option Tape). TapeGoesOn o outside.tape_after) began_is appended.goes_on);
    moments = (appended.since).moments;
  }

  module _ (hard : List FoundRecord)
      (kept : All (IsSureRecord options.geometry system_id left.order (state_now t)) hard)
      (moment : ℕ) (next : Tape) where
    pub early_keeps : outside.moment_before ≤ moment → moment < appended.moment
        → LifeEndsAt options.geometry left.order now moment next
        → KeepsSure options.geometry system_id next left.order hard
    early_keeps since early ends =
        settled_keeps its_opening lies.0 outside.moment_before moment t began now
        next found (reopened lies.0 lies.2 lies.3) its_run.goes_on hard kept since early ends.left
        ends.no_torn_pass

    pub late_keeps : (front : List Entry) → AreFoundEntries options.geometry t front
        → (more : List FoundRecord) → appended.moment ≤ moment
        → LifeEndsAt options.geometry (front ++ order_from options.geometry 1 script lists) now
        moment next
        → All (IsToldDurable options.geometry moment
        (front ++ order_from options.geometry 1 script lists) lists) more
        → KeepsSure options.geometry system_id next
        (front ++ order_from options.geometry 1 script lists) (hard ++ more)
    late_keeps front below more since ends told =
        let same = found_entries_are_one its_size system_id t found lies.0 front left lies.1 below in
        let there = reopened front (subst (LiesBehind its_opening) same lies.2)
        (subst (λ (es : List Entry). found_of its_size es ≡ found) same lies.3) in
        run_keeps its_opening front outside.moment_before outside.moment_after moment t began now
        next found there script lists its_run hard kept since ends.left ends.no_torn_pass more
        (told_as its_size moment (front ++ order_from its_size 1 script lists) lists more told)

-- what is called so is called with its own size
own_size : (size : ℕ) (options : RunOptions) (outside : Outside) (t now : Tape)
    → IsCalledOn size options outside t now
    → IsCalledOn options.geometry options outside t now
own_size size options outside t now called = record {
  sized = refl;
  before = called.before;
  after = called.after;
  counted = called.counted;
}

module _ (size : ℕ) (t next : Tape) (before order : List Entry) (hard more : List FoundRecord)
    (life : ContinuesLog size t next order more) where
  abbrev asked_size : ℕ
  asked_size = ((life.options).run).geometry

  abbrev all_lists : List (List Told)
  all_lists = life.told ∷ life.others

  abbrev its_script : List (List AskedLine)
  its_script = (life.holds).0

  abbrev its_order : ℕ → List Entry
  its_order n = life.front ++ order_from n 1 its_script all_lists

  continues_at : AreFoundEntries asked_size t life.front
      → KeepsSure asked_size system_id t before hard
      → LifeEndsAt asked_size (its_order asked_size) life.now life.moment next
      → All (IsToldDurable asked_size life.moment (its_order asked_size) all_lists) more
      → KeepsSure asked_size system_id next (its_order asked_size) (hard ++ more)
  continues_at below k ends told = with_left asked_size system_id t before hard
      (λ (o : List Entry). KeepsSure asked_size system_id next (its_order asked_size)
      (hard ++ more)) k
      (λ found left kept. late_keeps (life.options).run life.outside life.outcome t life.now
      its_script all_lists (own_size size (life.options).run life.outside t life.now life.called)
      (life.holds).2 found left hard kept life.moment next life.front below more life.since ends
      told)

  continues_of : (n : ℕ) → asked_size ≡ n → AreFoundEntries n t life.front
      → KeepsSure n system_id t before hard → order ≡ its_order n
      → LifeEndsAt n order life.now life.moment next
      → All (IsToldDurable n life.moment order all_lists) more
      → KeepsSure n system_id next order (hard ++ more)
  continues_of n same =
      subst (λ (m : ℕ). AreFoundEntries m t life.front → KeepsSure m system_id t before hard
      → order ≡ its_order m → LifeEndsAt m order life.now life.moment next
      → All (IsToldDurable m life.moment order all_lists) more
      → KeepsSure m system_id next order (hard ++ more)) same
      (λ below k is. subst (λ (o : List Entry). LifeEndsAt asked_size o life.now life.moment next
      → All (IsToldDurable asked_size life.moment o all_lists) more
      → KeepsSure asked_size system_id next o (hard ++ more)) (sym is) (continues_at below k))

  pub continues_keeps : KeepsSure size system_id t before hard
      → KeepsSure size system_id next order (hard ++ more)
  continues_keeps k = continues_of size (life.called).sized life.below k life.order_is life.ends
      life.told_hard

-- ---- one that was cut short, or did not open the log

module _ (size : ℕ) (t next : Tape) (order : List Entry) (hard : List FoundRecord) where
  settling_at : (life : EndsSettling size t next order)
      → KeepsSure ((life.options).run).geometry system_id t order hard
      → LifeEndsAt ((life.options).run).geometry order life.now life.moment next
      → KeepsSure ((life.options).run).geometry system_id next order hard
  settling_at life k = with_left ((life.options).run).geometry system_id t order hard
      (λ (o : List Entry). LifeEndsAt ((life.options).run).geometry o life.now life.moment next
      → KeepsSure ((life.options).run).geometry system_id next o hard) k
      (λ found left kept ends. early_keeps (life.options).run life.outside life.outcome t
      life.now (life.holds).0 (life.told ∷ life.others)
      (own_size size (life.options).run life.outside t life.now life.called) (life.holds).2 found left
      hard kept life.moment next life.since life.early ends)

  pub ends_settling_keeps : EndsSettling size t next order → KeepsSure size system_id t order hard
      → KeepsSure size system_id next order hard
  ends_settling_keeps life k =
      subst (λ (m : ℕ). KeepsSure m system_id t order hard → LifeEndsAt m order life.now life.moment next
      → KeepsSure m system_id next order hard) (life.called).sized (settling_at life) k life.ends

  -- nothing was called
  pub rests_keeps : LifeEndsAt size order t (length t.calls) next → KeepsSure size system_id t order hard
      → KeepsSure size system_id next order hard
  rests_keeps ends k = with_left size system_id t order hard
      (λ (o : List Entry). LifeEndsAt size o t (length t.calls) next
      → KeepsSure size system_id next o hard) k
      (λ found left kept ends. uncalled_keeps size system_id t next found left hard kept ends.left
      ends.no_torn_pass) ends

  module _ (options : ScriptRunOptions) (outside : Outside) where
    -- no call of the disk was made, or the disk failed while the log was settled
    untouched_or : (outcome : Outcome) → EndsUnappended options outside outcome
        → IsUntouched outside
        ⊎ StopsSettling (options.run).geometry (options.run).cap_segments outside
    untouched_or OutOfMemory holds = inl holds.2
    untouched_or SourceFault holds = inl holds.2
    untouched_or (ScriptRefused refusal) holds = inl holds.2
    untouched_or BeyondCap holds = inl holds.3
    untouched_or (Stopped stop) holds = inl holds.3
    untouched_or DiskFault holds = elim holds.2 [
      | inl untouched ↦ inl untouched
      | inr stops ↦ inr stops.1
    ]
    untouched_or others holds = absurd holds

    module _ (now : Tape) (called : IsCalledOn size options.run outside t now) (moment : ℕ)
        (since : outside.moment_before ≤ moment) (upto : moment ≤ outside.moment_after)
        (k : KeepsSure size system_id t order hard) where
      untouched_keeps : IsUntouched outside → LifeEndsAt size order now moment next
          → KeepsSure size system_id next order hard
      untouched_keeps untouched ends =
          let same : now ≡ t = some_tape now t (sym called.after ∙ untouched.tape_same
          ∙ called.before) in
          let last : moment ≡ length t.calls =
          omega (arith, since, upto, untouched.moment_same, called.counted) in
          rests_keeps (subst (λ (m : ℕ). LifeEndsAt size order t m next) last
          (subst (λ (d : Tape). LifeEndsAt size order d moment next) same ends)) k

      begun_at : (cap : ℕ) → HasBegunToSettle size cap outside.tape_before
          outside.tape_after outside.moment_before outside.moment_after
          → LifeEndsAt size order now moment next → KeepsSure size system_id next order hard
      begun_at cap begun ends =
          let on_t = subst (λ (o : Option Tape). HasBegunToSettle size cap o
          outside.tape_after outside.moment_before outside.moment_after) called.before begun in
          let to_now = subst (λ (o : Option Tape). HasBegunToSettle size cap (Some t) o
          outside.moment_before outside.moment_after) called.after on_t in
          with_left size system_id t order hard
          (λ (o : List Entry). LifeEndsAt size o now moment next
          → KeepsSure size system_id next o hard) k
          (λ found left kept ends. failed_keeps size system_id t next found left hard kept cap
          outside.moment_before outside.moment_after moment now called.counted to_now since
          ends.left ends.no_torn_pass) ends

      unopened_at : (outcome : Outcome) → EndsUnappended options outside outcome
          → LifeEndsAt size order now moment next → KeepsSure size system_id next order hard
      unopened_at outcome holds ends = elim (untouched_or outcome holds) [
        | inl untouched ↦ untouched_keeps untouched ends
        | inr stops ↦ begun_at (options.run).cap_segments
            (subst (λ (n : ℕ). HasBegunToSettle n (options.run).cap_segments
            outside.tape_before outside.tape_after outside.moment_before outside.moment_after)
            called.sized stops.begun) ends
      ]

  pub fails_to_open_keeps : FailsToOpen size t next order → KeepsSure size system_id t order hard
      → KeepsSure size system_id next order hard
  fails_to_open_keeps life k =
      unopened_at life.options life.outside life.now life.called life.moment life.since life.upto k
      life.outcome life.holds life.ends
