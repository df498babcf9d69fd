-- What a call of a session tells, of what the log's own call told.
use Rattle.std.specs.Prelude.{◌≢◌, ◌⊎◌, IfSome}
use Rattle.std.proofs.Common.{◌≡◌, ◌∙◌, ap, ℕ, ◌≤◌, arith, Option, None, Some, inl, inr, refl, sym, subst}
use Rattle.std.specs.Mem.{manually_drop_value}
use Rattle.std.specs.Option.{option_map}
use Rattle.std.specs.declared.mem.ManuallyDrop.{ManuallyDrop}
use Rattle.std.proofs.lemmas.Option.{none-some, same_Some}
use Rattle.wal_spelling.specs.Record.{switch_record}
use Rattle.wal_spelling.specs.Spelling.{Assembled, assembled}
use Rattle.wal_types.specs.declared.answers.Receipt.{Receipt}
use Rattle.wal_log.specs.declared.behind.Caught.{Caught}
use Rattle.wal_log.specs.declared.behind.Caught.TheVariants.{Flushed, Idle}
use Rattle.wal_log.specs.declared.beginning.TryErr.{TryErr}
use Rattle.machine_state.specs.Views.{View}
use Rattle.wal_log.specs.declared.beginning.TryErr.TheVariants.{Full}
use Rattle.wal_log.specs.declared.beginning.TryErr.TheVariants as tries
use Rattle.wal_log.specs.declared.switch_tries.TrySwitchErr.{TrySwitchErr}
use Rattle.wal_log.specs.declared.switch_tries.TrySwitchErr.TheVariants as switches
use Rattle.wal_log.specs.Beginning.{TellsBeginTry}
use Rattle.wal_log.specs.Downs.{MeetsDown, SetsDownItself}
use Rattle.wal_log.specs.SwitchTries.{TellsSwitchTry}
use Rattle.wal_log.specs.PassLogs.{log_of_pass}
use Rattle.wal_log.specs.Switching.{FindsSegmentStart}
use Rattle.wal_log.proofs.Keeping.{further_pass, same_pass}
use Rattle.wal_log_laws.proofs.Grown.{grows_again, grows_itself}
use Rattle.embedded_log.specs.declared.flushing.FlushRefusal.{FlushRefusal}
use Rattle.embedded_log.specs.declared.flushing.FlushRefusal.TheVariants.{Behind, Down, Unreserved}
use Rattle.embedded_log.specs.declared.appending.Appending.{Appending}
use Rattle.embedded_log.specs.Appended.{IsAppended, IsGoing}
use Rattle.embedded_log.specs.Promised.{IsPromisedHard, IsToldMade, KnowsDown, RefusesWriteBehind, RefusesFlush, SaysHeldBack, TellsMade}
use Rattle.embedded_log.specs.Sessions.{GoesOnOpen, IsOpenSession, SplitsOff, setup_of_session, view_of_helper, view_of_session}
use Rattle.pgwal_c.specs.declared.answers.TheConstants.{BEHIND, DONE, DOWN, FULL, IDLE, MEMORY, MISUSE, QUEUE, UNRESERVED}
use Rattle.pgwal_c.specs.declared.said.ProgramSaid.{ProgramSaid}
use Rattle.pgwal_c.specs.declared.session_handle.SessionCall.{SessionCall}
use Rattle.pgwal_c.specs.Told.{AppendsTold, FindsFullTold, FindsUnreserved, GivenParts, GoesOnHeld, HoldsAcross, KnowsFailedDisk, ProgramSays, ProgramSession, SeenSession, SwitchesTold, TellsAppend, TellsBehind, TellsFlush, TellsRaised, TellsSplit, TellsSwitch, hard_of_call, receipt_of_call}

-- ---- a session goes on open

stays_open : (s : ProgramSession) → IsOpenSession s → GoesOnOpen s s
stays_open s open_is = record {
  same_log = refl;
  kept = open_is;
  keeps = same_pass (view_of_session s);
  grows = grows_itself (log_of_pass (view_of_session s));
  helper = same_pass (view_of_helper s);
}

goes_on_again : (a b c : ProgramSession) → GoesOnOpen a b → GoesOnOpen b c → GoesOnOpen a c
goes_on_again a b c x y = record {
  same_log = y.same_log ∙ x.same_log;
  kept = y.kept;
  keeps = further_pass (view_of_session a) (view_of_session b) (view_of_session c) x.keeps y.keeps;
  grows = grows_again (log_of_pass (view_of_session a)) (log_of_pass (view_of_session b))
      (log_of_pass (view_of_session c)) x.grows y.grows;
  helper = further_pass (view_of_helper a) (view_of_helper b) (view_of_helper c) x.helper y.helper;
}

pub held_again : (o m n : Option ProgramSession) → GoesOnHeld o m → GoesOnHeld m n → GoesOnHeld o n
held_again None None n x y = y
held_again None (Some b) n x y = absurd x
held_again (Some a) None n x y = absurd x
held_again (Some a) (Some b) None x y = absurd y
held_again (Some a) (Some b) (Some c) x y = goes_on_again a b c x y

pub held_stays : (o : Option ProgramSession) → IfSome o (λ s. IsOpenSession s) → GoesOnHeld o o
held_stays None stands = tt
held_stays (Some s) stands = stays_open s stands

-- from which session one goes on
came_from : (o : Option ProgramSession) (s : ProgramSession) → GoesOnHeld o (Some s)
    → (r : ProgramSession) × (o ≡ Some r) × GoesOnOpen r s
came_from None s x = absurd x
came_from (Some r) s x = (r, refl, x)

neither : (answer : ℕ) → (answer ≡ DONE) ⊎ (answer ≡ MEMORY) → answer ≢ DONE → answer ≢ MEMORY → ⊥
neither answer (inl done) other memory = other done
neither answer (inr is_memory) other memory = memory is_memory

is_used : (answer : ℕ) → (answer ≡ DONE) ⊎ (answer ≡ MEMORY) → answer ≢ MISUSE
is_used answer (inl done) = λ misuse. omega (arith, done, misuse)
is_used answer (inr memory) = λ misuse. omega (arith, memory, misuse)

-- what is refused as held back was promised
pub held_told : (t : ProgramSession) (e : FlushRefusal) (told : SessionCall)
    → e ≡ Behind (record { 0 = told.upto }) told.moment told.detail
    → SaysHeldBack e (view_of_session t)
    → IsPromisedHard (hard_of_call told) (log_of_pass (view_of_session t))
held_told t e told is says =
    subst (λ (x : FlushRefusal). SaysHeldBack x (view_of_session t)) is says

-- .. that the address is unreserved was met
pub unreserved_told : (asked : ℕ) (s t : ProgramSession) (e : FlushRefusal) (told : SessionCall)
    → e ≡ Unreserved (record { 0 = told.end })
    → RefusesFlush asked (view_of_session s) (view_of_session t) e
    → FindsUnreserved asked told.end s t
unreserved_told asked s t e told is says = subst (λ (x : FlushRefusal).
    RefusesFlush asked (view_of_session s) (view_of_session t) x) is says

-- .. and that the disk failed is known, by whatever call
met_known : (faults : ℕ) (old new : View) → MeetsDown faults old new → KnowsDown faults new
met_known faults old new met = (met.some, inl met.met)

set_known : (faults : ℕ) (v : View) → SetsDownItself faults v → KnowsDown faults v
set_known faults v sets = (sets.some, inr sets.set)

flush_knows : (asked faults : ℕ) (old new : View) → RefusesFlush asked old new (Down faults)
    → KnowsDown faults new
flush_knows asked faults old new (inl fails) = set_known faults new (fails.2).down
flush_knows asked faults old new (inr meets) = met_known faults meets.0 new meets.2

behind_knows : (faults : ℕ) (old new : View) → RefusesWriteBehind old new (Down faults)
    → KnowsDown faults new
behind_knows faults old new (inl fails) = set_known faults new (fails.2).down
behind_knows faults old new (inr meets) = met_known faults old new meets

pub flush_down_told : (asked : ℕ) (s t : ProgramSession) (e : FlushRefusal) (told : SessionCall)
    → e ≡ Down told.detail → RefusesFlush asked (view_of_session s) (view_of_session t) e
    → KnowsDown told.detail (view_of_session t)
flush_down_told asked s t e told is says =
    flush_knows asked told.detail (view_of_session s) (view_of_session t)
    (subst (λ (x : FlushRefusal).
    RefusesFlush asked (view_of_session s) (view_of_session t) x) is says)

pub behind_down_told : (s t : ProgramSession) (e : FlushRefusal) (told : SessionCall)
    → e ≡ Down told.detail → RefusesWriteBehind (view_of_session s) (view_of_session t) e
    → KnowsDown told.detail (view_of_session t)
behind_down_told s t e told is says =
    behind_knows told.detail (view_of_session s) (view_of_session t)
    (subst (λ (x : FlushRefusal). RefusesWriteBehind (view_of_session s) (view_of_session t) x) is says)

pub append_knows : (body : Assembled) (s t : ProgramSession) (why : TryErr) (faults : ℕ)
    → why ≡ tries.Down faults
    → TellsBeginTry (setup_of_session s) body (view_of_session s) (view_of_session t) why
    → KnowsFailedDisk s t
append_knows body s t why faults is tells =
    let met = subst (λ (e : TryErr). TellsBeginTry (setup_of_session s) body
    (view_of_session s) (view_of_session t) e) is tells in
    (faults, met_known faults (view_of_session s) (view_of_session t) met.0)

pub switch_knows : (body : Assembled) (s t : ProgramSession) (why : TrySwitchErr) (faults : ℕ)
    → why ≡ switches.Down faults
    → TellsSwitchTry (setup_of_session s) body (view_of_session s) (view_of_session t) why
    → KnowsFailedDisk s t
switch_knows body s t why faults is tells =
    let met = subst (λ (e : TrySwitchErr). TellsSwitchTry (setup_of_session s) body
    (view_of_session s) (view_of_session t) e) is tells in
    (faults, met_known faults (view_of_session s) (view_of_session t) met.0)

pub known_failed : (faults : ℕ) (old new : SeenSession)
    → HoldsAcross (λ s t. KnowsDown faults (view_of_session t)) old new
    → HoldsAcross KnowsFailedDisk old new
known_failed faults old new h = (h.0, h.1, h.2, h.3, (faults, h.4))

pub caught_is : (s t : ProgramSession) (caught is : Caught) → caught ≡ is
    → TellsMade ProgramSays caught (view_of_session s) (view_of_session t)
    → TellsMade ProgramSays is (view_of_session s) (view_of_session t)
caught_is s t caught is same =
    subst (λ (x : Caught). TellsMade ProgramSays x (view_of_session s) (view_of_session t)) same

-- ---- the session that a handle had

-- what is seen of a handle that has this session, if it has one, beside this
abbrev pub seen : Option (Appending ProgramSaid) → GivenParts → Option ProgramSession → SeenSession
seen switching given held = record { session = held; switching = switching; given = given }

module _ (switching : Option (Appending ProgramSaid)) (given : GivenParts)
    (held : Option ProgramSession) (s : ProgramSession)
    (is : held ≡ Some s) (old : SeenSession) (seen_is : seen switching given held ≡ old) where
  -- what is told of the handle that is seen, is told of this session
  of_session : (P : SeenSession → Type 0) → P (seen switching given (Some s)) → P old
  of_session P told =
      subst P seen_is
      (subst (λ (h : Option ProgramSession). P (seen switching given h)) (sym is) told)

  pub flush_told : (t : ProgramSession) (asked told : SessionCall) (answer : ℕ) → GoesOnOpen s t
      → answer ≢ MISUSE
      → (answer ≡ DONE
      → IsToldMade ProgramSays asked.upto (hard_of_call told) (view_of_session t))
      → (answer ≡ BEHIND
      → IsPromisedHard (hard_of_call told) (log_of_pass (view_of_session t)))
      → (answer ≡ UNRESERVED → FindsUnreserved asked.upto told.end s t)
      → (answer ≡ DOWN → KnowsDown told.detail (view_of_session t))
      → TellsFlush old (seen switching given (Some t)) asked told answer
  flush_told t asked told answer goes_on used made promised unreserved down =
      of_session (λ x. TellsFlush x (seen switching given (Some t)) asked told answer) (record {
        done = λ done. (s, t, refl, refl, made done);
        behind = λ behind. (s, t, refl, refl, promised behind);
        unreserved = λ above. (s, t, refl, refl, unreserved above);
        down = λ is_down. (s, t, refl, refl, down is_down);
        goes_on = goes_on;
        rest = refl;
        gone = λ misuse. absurd (used misuse);
      })

  pub raised_told : (t : ProgramSession) (answer : ℕ) → GoesOnOpen s t → answer ≢ MISUSE
      → (answer ≡ DONE → IfSome s.appended (λ end. end.0 ≤ (view_of_session t).async_met))
      → TellsRaised old (seen switching given (Some t)) answer
  raised_told t answer goes_on used raised =
      of_session (λ x. TellsRaised x (seen switching given (Some t)) answer) (record {
        done = λ done. (s, t, refl, refl, raised done);
        goes_on = goes_on;
        rest = refl;
        gone = λ misuse. absurd (used misuse);
      })

  pub caught_told : (t : ProgramSession) (told : SessionCall) (answer : ℕ) → GoesOnOpen s t
      → answer ≢ MISUSE
      → (answer ≡ DONE → TellsMade ProgramSays (Flushed (hard_of_call told)) (view_of_session s)
      (view_of_session t))
      → (answer ≡ IDLE → TellsMade ProgramSays (Idle (record { 0 = told.upto }))
      (view_of_session s) (view_of_session t))
      → (answer ≡ BEHIND
      → IsPromisedHard (hard_of_call told) (log_of_pass (view_of_session t)))
      → (answer ≡ DOWN → KnowsDown told.detail (view_of_session t))
      → TellsBehind old (seen switching given (Some t)) told answer
  caught_told t told answer goes_on used flushed idle promised down =
      of_session (λ x. TellsBehind x (seen switching given (Some t)) told answer) (record {
        done = λ done. (s, t, refl, refl, flushed done);
        idle = λ is_idle. (s, t, refl, refl, idle is_idle);
        behind = λ behind. (s, t, refl, refl, promised behind);
        down = λ is_down. (s, t, refl, refl, down is_down);
        goes_on = goes_on;
        rest = refl;
        gone = λ misuse. absurd (used misuse);
      })

  pub split_told : (t other : ProgramSession) (answer : ℕ)
      → (answer ≡ DONE) ⊎ (answer ≡ MEMORY) → SplitsOff s t other
      → TellsSplit old (seen switching given (Some t)) answer
  split_told t other answer is_split splits =
      of_session (λ x. TellsSplit x (seen switching given (Some t)) answer) (record {
        done = λ done. (s, t, refl, refl, (other, splits));
        same = λ not_done memory. absurd (neither answer is_split not_done memory);
        gone = λ misuse. absurd (is_used answer is_split misuse);
      })

  module _ (body : Assembled) (stands : IfSome held (λ x. IsOpenSession x)) where
    open_now : GoesOnOpen s s
    open_now =
        stays_open s (subst (λ (h : Option ProgramSession). IfSome h (λ x. IsOpenSession x)) is
        stands)

    pub append_told : (t : ProgramSession) (asked told : SessionCall)
        → IsAppended (setup_of_session s) body (view_of_session s) (view_of_session t)
        (receipt_of_call told)
        → GoesOnOpen s t → TellsAppend body old (seen switching given (Some t)) asked told DONE
    append_told t asked told appended goes_on =
        of_session (λ x. TellsAppend body x (seen switching given (Some t)) asked told DONE) (record {
          done = λ done. (
            s,
            t,
            refl,
            refl,
            record {
              before = s;
              goes_on = open_now;
              appended = appended;
            },
          );
          full = λ full. absurd (let never : ⊥ = omega (arith, full) in never);
          down = λ down. absurd (let never : ⊥ = omega (arith, down) in never);
          no_place = λ other. absurd (other refl);
          goes_on = λ other. goes_on;
          gone = λ misuse. absurd (let never : ⊥ = omega (arith, misuse) in never);
        })

    pub refusal_told : (t : ProgramSession) (asked told : SessionCall) (answer : ℕ) (why : TryErr)
        → TellsBeginTry (setup_of_session s) body (view_of_session s) (view_of_session t) why
        → GoesOnOpen s t → (answer ≢ DONE) × (answer ≢ MISUSE)
        → (answer ≡ FULL → why ≡ Full told.detail)
        → (answer ≡ DOWN → why ≡ tries.Down told.detail)
        → told.start ≡ asked.start
        → TellsAppend body old (seen switching given (Some t)) asked told answer
    refusal_told t asked told answer why tells goes_on other full down start =
        of_session (λ x. TellsAppend body x (seen switching given (Some t)) asked told answer) (record {
          done = λ done. absurd (other.0 done);
          full = λ is_full. (
            s,
            t,
            refl,
            refl,
            record {
              before = s;
              goes_on = open_now;
              full = subst (λ (e : TryErr). TellsBeginTry (setup_of_session s) body
                  (view_of_session s) (view_of_session t) e) (full is_full) tells;
            },
          );
          down = λ is_down. (
            s,
            t,
            refl,
            refl,
            append_knows body s t why told.detail (down is_down) tells,
          );
          no_place = λ _. start;
          goes_on = λ _. goes_on;
          gone = λ misuse. absurd (other.1 misuse);
        })

  -- a record was lost by a failed disk
  pub lost_told : (body : Assembled) (t : ProgramSession) (asked told : SessionCall)
      → KnowsFailedDisk s t → GoesOnOpen s t → told.start ≡ asked.start
      → TellsAppend body old (seen switching given (Some t)) asked told DOWN
  lost_told body t asked told knows goes_on start =
      of_session (λ x. TellsAppend body x (seen switching given (Some t)) asked told DOWN) (record {
        done = λ done. absurd (let never : ⊥ = omega (arith, done) in never);
        full = λ full. absurd (let never : ⊥ = omega (arith, full) in never);
        down = λ down. (s, t, refl, refl, knows);
        no_place = λ _. start;
        goes_on = λ _. goes_on;
        gone = λ misuse. absurd (let never : ⊥ = omega (arith, misuse) in never);
      })

-- ---- an append behind a flush that made room

module _ (body : Assembled) (old mid new : SeenSession)
    (goes_on : GoesOnHeld old.session mid.session)
  where
    came : (s : ProgramSession) → mid.session ≡ Some s
        → (r : ProgramSession) × (old.session ≡ Some r) × GoesOnOpen r s
    came s is =
        came_from old.session s
        (subst (λ (m : Option ProgramSession). GoesOnHeld old.session m) is goes_on)

    appends_behind : (receipt : Receipt) → HoldsAcross (AppendsTold body receipt) mid new
        → HoldsAcross (AppendsTold body receipt) old new
    appends_behind receipt h =
        let from = came h.0 h.2 in (
          from.0,
          h.1,
          from.1,
          h.3,
          record {
            before = h.4.before;
            goes_on = goes_on_again from.0 h.0 h.4.before from.2 h.4.goes_on;
            appended = h.4.appended;
          },
        )

    full_behind : (free : ℕ) → HoldsAcross (FindsFullTold body free) mid new
        → HoldsAcross (FindsFullTold body free) old new
    full_behind free h =
        let from = came h.0 h.2 in (
          from.0,
          h.1,
          from.1,
          h.3,
          record {
            before = h.4.before;
            goes_on = goes_on_again from.0 h.0 h.4.before from.2 h.4.goes_on;
            full = h.4.full;
          },
        )

    pub known_behind : HoldsAcross KnowsFailedDisk mid new → HoldsAcross KnowsFailedDisk old new
    known_behind h = let from = came h.0 h.2 in (from.0, h.1, from.1, h.3, h.4)

    pub told_behind_room : (asked again told : SessionCall) (answer : ℕ) → again.start ≡ asked.start
        → TellsAppend body mid new again told answer → TellsAppend body old new asked told answer
    told_behind_room asked again told answer start tells = record {
      done = λ done. appends_behind (receipt_of_call told) (tells.done done);
      full = λ full. full_behind told.detail (tells.full full);
      down = λ down. known_behind (tells.down down);
      no_place = λ other. tells.no_place other ∙ start;
      goes_on = λ other. held_again old.session mid.session new.session goes_on
          (tells.goes_on other);
      gone = tells.gone;
    }

-- .. or none, where there was no room
pub untold : (body : Assembled) (old new : SeenSession) (asked told : SessionCall) (answer : ℕ)
    → answer ≢ DONE → answer ≢ FULL → (answer ≡ DOWN → HoldsAcross KnowsFailedDisk old new)
    → (answer ≡ MISUSE → new.session ≡ None)
    → GoesOnHeld old.session new.session → told.start ≡ asked.start
    → TellsAppend body old new asked told answer
untold body old new asked told answer other room down gone goes_on start = record {
  done = λ done. absurd (other done);
  full = λ full. absurd (room full);
  down = down;
  no_place = λ _. start;
  goes_on = λ _. goes_on;
  gone = gone;
}

pub unsplit_told : (old new : SeenSession) → new ≡ old → new.session ≡ None
    → TellsSplit old new MISUSE
unsplit_told old new same none = record {
  done = λ is_split. absurd (is_used MISUSE is_split refl);
  same = λ _ _. same;
  gone = λ _. none;
}

-- ---- a segment switch

pub switch_done : (body : Assembled) (s t : ProgramSession) (new : SeenSession) (told : SessionCall)
    → new.session ≡ Some t → GoesOnOpen s t
    → (IsAppended (setup_of_session s) body (view_of_session s) (view_of_session t)
    (receipt_of_call told)
    ⊎ FindsSegmentStart (setup_of_session s) told.end (view_of_session s) (view_of_session t))
    → SwitchesTold body s new told DONE
switch_done body s t new told is goes_on tells = record {
  done = λ done. (t, is, goes_on, tells);
  queue = λ queue. absurd (let never : ⊥ = omega (arith, queue) in never);
  down = λ down. absurd (let never : ⊥ = omega (arith, down) in never);
  other = λ other queue. absurd (other refl);
}

pub switch_going : (body : Assembled) (s : ProgramSession) (a : Appending ProgramSaid)
    (new : SeenSession) (told : SessionCall) → new.switching ≡ Some a → IsGoing body s a
    → SwitchesTold body s new told QUEUE
switch_going body s a new told is going = record {
  done = λ done. absurd (let never : ⊥ = omega (arith, done) in never);
  queue = λ queue. (a, is, going);
  down = λ down. absurd (let never : ⊥ = omega (arith, down) in never);
  other = λ other queue. absurd (queue refl);
}

pub switch_refused : (body : Assembled) (s t : ProgramSession) (new : SeenSession)
    (told : SessionCall) (answer : ℕ) → answer ≢ DONE → answer ≢ QUEUE
    → (answer ≡ DOWN → KnowsFailedDisk s t) → new.session ≡ Some t
    → GoesOnOpen s t → SwitchesTold body s new told answer
switch_refused body s t new told answer other way down is goes_on = record {
  done = λ done. absurd (other done);
  queue = λ queue. absurd (way queue);
  down = λ is_down. (t, is, down is_down);
  other = λ _ _. (t, is, goes_on);
}

-- a handle has this one on its way, if it has one
pub switching_was : (held : Option (ManuallyDrop (Appending ProgramSaid))) (old : SeenSession)
    → option_map manually_drop_value held ≡ old.switching
    → (a : Option (ManuallyDrop (Appending ProgramSaid))) → held ≡ a
    → old.switching ≡ option_map manually_drop_value a
switching_was held old seen_is a is =
    sym seen_is ∙ ap (λ (x : Option (ManuallyDrop (Appending ProgramSaid))).
    option_map manually_drop_value x) is

-- one that was on its way goes on
pub goes_on_switching : (old new : SeenSession) (a : Appending ProgramSaid) (told : SessionCall)
    (answer : ℕ) → old.switching ≡ Some a
    → ((body : Assembled) (s : ProgramSession) → IsGoing body s a
    → SwitchesTold body s new told answer) → TellsSwitch old new told answer
goes_on_switching old new a told answer is tells = record {
  begun = λ s some none. absurd (none-some a (sym none ∙ is));
  going_on = λ b is_b body s going. tells body s
      (subst (λ (x : Appending ProgramSaid). IsGoing body s x) (same_Some b a (sym is_b ∙ is))
      going);
}

-- .. or one is begun
pub begins_switching : (old new : SeenSession) (s : ProgramSession) (told : SessionCall)
    (answer : ℕ) → old.session ≡ Some s → old.switching ≡ None
    → SwitchesTold (assembled switch_record) s new told answer → TellsSwitch old new told answer
begins_switching old new s told answer is none tells = record {
  begun = λ r is_r _. subst (λ (x : ProgramSession).
      SwitchesTold (assembled switch_record) x new told answer) (same_Some s r (sym is ∙ is_r))
      tells;
  going_on = λ a some. absurd (none-some a (sym none ∙ some));
}
