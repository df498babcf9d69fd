-- A session stays open, and a record that it appends stays so, from call to call.
use Rattle.std.specs.Prelude.{IfSome, Option, Ok, Err}
use Rattle.std.proofs.Common.{◌≡◌, ℕ, List, Some, inl, refl, sym, ap, ◌∙◌, subst}
use Rattle.segment_disk.specs.Tape.{empty_state}
use Rattle.handed_pages.specs.Handed.{read_tape}
use Rattle.handed_pages.specs.declared.page.HandedPage.{HandedPage}
use Rattle.hosted_disk.specs.HostSegments.{HostSegment, host_state}
use Rattle.wal_spelling.specs.Spelling.{Assembled}
use Rattle.wal_page.specs.Order.{Entry}
use Rattle.wal_types.specs.declared.answers.Hard.{Hard}
use Rattle.wal_types.specs.declared.answers.Receipt.{Receipt}
use Rattle.wal_types.specs.declared.lsn.Lsn.{Lsn}
use Rattle.hosted_disk.specs.Hosted.{HasBothEnds, HasNoCalls, hosted_faults, hosted_moment, hosted_tape}
use Rattle.hosted_disk.specs.declared.calls.HostCalls.{HostCalls}
use Rattle.hosted_disk.specs.declared.disk.HostedDisk.{HostedDisk}
use Rattle.machine_state.specs.declared.setup.Setup.{Setup}
use Rattle.machine_state.specs.Words.{Opening}
use Rattle.wal_rule.specs.declared.pass.Pass.{Pass}
use Rattle.wal_rule.specs.Downs.{KnowsDown}
use Rattle.wal_rule.specs.Passes.{view_of_pass}
use Rattle.wal_log.specs.declared.beginning.TryErr.{TryErr}
use Rattle.wal_log.specs.declared.in_flight.Inflight.{Inflight}
use Rattle.wal_log.specs.declared.switch_tries.SwitchBegun.TheVariants.{Going as Flies, Stayed as Stays}
use Rattle.wal_log.specs.declared.switch_tries.TrySwitchErr.{TrySwitchErr}
use Rattle.wal_log.specs.declared.wal.Wal.{Wal}
use Rattle.wal_log.specs.Beginning.{TellsBeginTry}
use Rattle.wal_log.specs.Behind.{FlushesBehind}
use Rattle.wal_log.specs.Downs.{MeetsDown}
use Rattle.wal_log.specs.Flights.{AnswersTryBegin, Finishes, IsInFlightOf, KeepsLog, view_of_flight}
use Rattle.wal_log.specs.Inserting.{HasReserved}
use Rattle.wal_log.specs.Logs.{IsPassOfLog, setup_of_log}
use Rattle.wal_log.specs.Opening.{IsOpened}
use Rattle.wal_log.specs.PassLogs.{PassLog, log_of_pass}
use Rattle.wal_log.specs.Reopening.{IsReopened}
use Rattle.wal_log.specs.declared.reopening.Found.{Found}
use Rattle.wal_log.specs.Standing.{KeepsPass, entry_in_flight}
use Rattle.wal_log.specs.Switching.{FindsSegmentStart}
use Rattle.wal_log.specs.SwitchTries.{AnswersTrySwitch, TellsSwitchTry}
use Rattle.wal_log.proofs.Keeping.{further_pass, same_pass}
use Rattle.wal_log_laws.specs.Growing.{GrowsTo}
use Rattle.wal_log_laws.proofs.Grown.{begin_grows, grows_itself, try_switch_grows}
use Rattle.embedded_log.specs.Appended.{IsAppended, IsBegunBy, IsGoing, wal_of_appending}
use Rattle.embedded_log.specs.Opened.{IsFirstOn, OpensWithHost}
use Rattle.embedded_log.specs.Promised.{IsPromisedHard}
use Rattle.embedded_log.specs.Reopened.{HasHanded, ReopensWithHost}
use Rattle.embedded_log.specs.Sessions.{GoesOnOpen, HasSeenEnd, IsOpenSession, setup_of_session, view_of_helper, view_of_session, wal_of_session}
use Rattle.embedded_log.specs.declared.appending.Appending.{Appending}
use Rattle.embedded_log.specs.declared.session.LogSession.{LogSession}
use Rattle.embedded_log.specs.declared.shared.SharedLog.{SharedLog}
use Rattle.embedded_log.proofs.Appends.{begins, ends, ends_seen, given_up, goes_on, grown_by_entry}
use Rattle.embedded_log.proofs.Ends.{appended_still}
use Rattle.embedded_log.proofs.Promises.{behind_promised, pending_still}

grown_same : (l m : PassLog) → m ≡ l → GrowsTo l m
grown_same l m is = subst (λ (x : PassLog). GrowsTo l x) (sym is) (grows_itself l)

module _ {H : Type 0} where
  -- ---- a call of the pass that appends

  abbrev pub with_pass : LogSession H → Pass → LogSession H
  with_pass s pass = record {
    log = s.log;
    pass = pass;
    helper = s.helper;
    pending = s.pending;
    appended = s.appended;
  }

  -- leaves the session open, whether something else is held back or not
  pub stays_open : (s : LogSession H) (pass : Pass) → IsOpenSession s
      → IsPassOfLog (wal_of_session s) pass → KeepsPass (view_of_session s) (view_of_pass pass)
      → GrowsTo (log_of_pass (view_of_session s)) (log_of_pass (view_of_pass pass))
      → (pending : Option Hard)
      → IfSome pending (λ hard. IsPromisedHard hard (log_of_pass (view_of_pass pass)))
      → GoesOnOpen s (record (with_pass s pass) { pending = pending })
  stays_open s pass stands of_log keeps grows pending promised = record {
    same_log = refl;
    kept = record {
      pass = of_log;
      helper = stands.helper;
      pending = promised;
      appended = appended_still s.appended (setup_of_session s)
          ((view_of_session s).reserving).seen ((view_of_pass pass).reserving).seen keeps.rises
          stands.appended;
    };
    keeps = keeps;
    grows = grows;
    helper = same_pass (view_of_helper s);
  }

  pub grown_open : (s : LogSession H) (pass : Pass) → IsOpenSession s
      → IsPassOfLog (wal_of_session s) pass → KeepsPass (view_of_session s) (view_of_pass pass)
      → GrowsTo (log_of_pass (view_of_session s)) (log_of_pass (view_of_pass pass))
      → GoesOnOpen s (with_pass s pass)
  grown_open s pass stands of_log keeps grows = stays_open s pass stands of_log keeps grows
      s.pending (pending_still s.pending (log_of_pass (view_of_session s))
      (log_of_pass (view_of_pass pass)) grows stands.pending)

  -- and so does one by which a flush behind is held back
  pub behind_open : (s : LogSession H) (pass : Pass) (hard : Hard) → IsOpenSession s
      → IsPassOfLog (wal_of_session s) pass → KeepsPass (view_of_session s) (view_of_pass pass)
      → GrowsTo (log_of_pass (view_of_session s)) (log_of_pass (view_of_pass pass))
      → FlushesBehind hard (view_of_session s) (view_of_pass pass)
      → GoesOnOpen s (record (with_pass s pass) { pending = Some hard })
  behind_open s pass hard stands of_log keeps grows told = stays_open s pass stands of_log keeps
      grows (Some hard) (behind_promised hard (view_of_session s) (view_of_pass pass) told)

  -- ---- a record is begun, or not

  abbrev pub begun_by : LogSession H → Inflight → Appending H
  begun_by s flight = record {
    log = s.log;
    flight = flight;
    helper = s.helper;
    pending = s.pending;
    appended = s.appended;
  }

  module _ (s : LogSession H) (shared : SharedLog H) (is : shared ≡ (s.log).value)
      (body : Assembled) (stands : IsOpenSession s) where
    going_by_now : (flight : Inflight) → IsInFlightOf (wal_of_session s) flight
        → IsBegunBy (setup_of_session s) body (view_of_session s) flight
        → IsGoing body s (begun_by s flight)
    going_by_now flight in_flight begun =
        let old = view_of_session s in
        let now = view_of_flight flight in record {
          same_log = refl;
          kept = record {
            flight = in_flight;
            helper = stands.helper;
            pending = pending_still s.pending (log_of_pass old) (log_of_pass now)
                (grown_by_entry begun.entry (log_of_pass old) (log_of_pass now)
                begun.reserved.log_is) stands.pending;
            appended = appended_still s.appended (setup_of_session s) (old.reserving).seen
                (now.reserving).seen (begun.keeps).rises stands.appended;
          };
          begun = begun;
          helper = same_pass (view_of_helper s);
        }

    pub begun_session : (flight : Inflight)
        → AnswersTryBegin shared.wal body (view_of_session s) (Ok flight)
        → IsGoing body s (begun_by s flight)
    begun_session flight answers =
        let old = view_of_session s in
        let began = subst (λ (x : SharedLog H). AnswersTryBegin x.wal body old (Ok flight)) is
        answers in
        going_by_now flight began.0
        (begins (setup_of_session s) body old flight _ (began.1).place began.2)

    -- a segment switch goes on as a record does
    pub switch_session : (flight : Inflight)
        → AnswersTrySwitch shared.wal body (view_of_session s) (Ok (Flies flight))
        → IsGoing body s (begun_by s flight)
    switch_session flight answers =
        let old = view_of_session s in
        let began = subst (λ (x : SharedLog H). AnswersTrySwitch x.wal body old
        (Ok (Flies flight))) is answers in
        going_by_now flight began.0
        (begins (setup_of_session s) body old flight _ ((began.1).1).place began.2)

    pub refused_session : (why : TryErr) (pass : Pass)
        → AnswersTryBegin shared.wal body (view_of_session s) (Err (why, pass))
        → TellsBeginTry (setup_of_session s) body (view_of_session s)
        (view_of_session (with_pass s pass)) why × GoesOnOpen s (with_pass s pass)
    refused_session why pass answers =
        let old = view_of_session s in
        let told = subst (λ (x : SharedLog H). AnswersTryBegin x.wal body old (Err (why, pass))) is
        answers in (
          told.1,
          grown_open s pass stands told.0 told.2
              (begin_grows (wal_of_session s) body old (Err (why, pass)) told),
        )

    pub stayed_session : (end : Lsn) (pass : Pass)
        → AnswersTrySwitch shared.wal body (view_of_session s) (Ok (Stays end pass))
        → FindsSegmentStart (setup_of_session s) end.0 (view_of_session s)
        (view_of_session (with_pass s pass)) × GoesOnOpen s (with_pass s pass)
    stayed_session end pass answers =
        let old = view_of_session s in
        let told = subst (λ (x : SharedLog H). AnswersTrySwitch x.wal body old
        (Ok (Stays end pass))) is answers in (
          told.1,
          grown_open s pass stands told.0 told.2
              (try_switch_grows (wal_of_session s) body old (Ok (Stays end pass)) told),
        )

    pub unswitched_session : (why : TrySwitchErr) (pass : Pass)
        → AnswersTrySwitch shared.wal body (view_of_session s) (Err (why, pass))
        → TellsSwitchTry (setup_of_session s) body (view_of_session s)
        (view_of_session (with_pass s pass)) why × GoesOnOpen s (with_pass s pass)
    unswitched_session why pass answers =
        let old = view_of_session s in
        let told = subst (λ (x : SharedLog H). AnswersTrySwitch x.wal body old (Err (why, pass)))
        is answers in (
          told.1,
          grown_open s pass stands told.0 told.2
              (try_switch_grows (wal_of_session s) body old (Err (why, pass)) told),
        )

  -- ---- it goes on

  abbrev pub going_by : Appending H → Inflight → Pass → Appending H
  going_by a flight helper = record {
    log = a.log;
    flight = flight;
    helper = helper;
    pending = a.pending;
    appended = a.appended;
  }

  module _ (body : Assembled) (old : LogSession H) (a : Appending H) (going : IsGoing body old a)
    where
      pub still_going : (next : Inflight) (helper : Pass)
          → IsInFlightOf (wal_of_appending a) next → IsPassOfLog (wal_of_appending a) helper
          → KeepsPass (view_of_pass a.helper) (view_of_pass helper)
          → (next.begun).start ≡ ((a.flight).begun).start
          → (next.begun).end ≡ ((a.flight).begun).end
          → entry_in_flight (view_of_flight next) ≡ entry_in_flight (view_of_flight a.flight)
          → KeepsLog (view_of_flight a.flight) (view_of_flight next)
          → IsGoing body old (going_by a next helper)
      still_going next helper in_flight helper_is kept start end same keeps = record {
        same_log = going.same_log;
        kept = record {
          flight = in_flight;
          helper = helper_is;
          pending = pending_still a.pending (log_of_pass (view_of_flight a.flight))
              (log_of_pass (view_of_flight next))
              (grown_same (log_of_pass (view_of_flight a.flight))
              (log_of_pass (view_of_flight next)) keeps.log) (going.kept).pending;
          appended = appended_still a.appended (setup_of_log (wal_of_appending a))
              ((view_of_flight a.flight).reserving).seen ((view_of_flight next).reserving).seen
              (keeps.keeps).rises (going.kept).appended;
        };
        begun = goes_on (setup_of_session old) body (view_of_session old) a.flight next
            going.begun start end same keeps;
        helper = further_pass (view_of_helper old) (view_of_pass a.helper) (view_of_pass helper)
            going.helper kept;
      }

      -- ---- it ends

      abbrev pub ended_by : Pass → Option Lsn → LogSession H
      ended_by pass appended = record {
        log = a.log;
        pass = pass;
        helper = a.helper;
        pending = a.pending;
        appended = appended;
      }

      ended_session : (pass : Pass) (appended : Option Lsn)
          → IsPassOfLog (wal_of_appending a) pass
          → KeepsLog (view_of_flight a.flight) (view_of_pass pass)
          → IfSome appended
          (λ end. HasSeenEnd (setup_of_log (wal_of_appending a)) end.0
          ((view_of_pass pass).reserving).seen)
          → GoesOnOpen old (ended_by pass appended)
      ended_session pass appended pass_is keeps seen =
          let mid = view_of_flight a.flight in
          let now = view_of_pass pass in
          let reserved = (given_up (setup_of_session old) body (view_of_session old) a.flight now
          going.begun keeps).1 in record {
            same_log = going.same_log;
            kept = record {
              pass = pass_is;
              helper = (going.kept).helper;
              pending = pending_still a.pending (log_of_pass mid) (log_of_pass now)
                  (grown_same (log_of_pass mid) (log_of_pass now) keeps.log)
                  (going.kept).pending;
              appended = seen;
            };
            keeps = further_pass (view_of_session old) mid now (going.begun).keeps keeps.keeps;
            grows = grown_by_entry _ (log_of_pass (view_of_session old)) (log_of_pass now)
                reserved.log_is;
            helper = going.helper;
          }

      pub finished_session : {D : Type 0} (wal : Wal D) (receipt : Receipt) (pass : Pass)
          → IsPassOfLog (wal_of_appending a) pass → Finishes wal a.flight receipt pass
          → IsAppended (setup_of_session old) body (view_of_session old) (view_of_pass pass) receipt
          × GoesOnOpen old (ended_by pass (Some receipt.end))
          × ((ended_by pass (Some receipt.end)).appended ≡ Some receipt.end)
      finished_session wal receipt pass pass_is done =
          let setup : Setup = setup_of_session old in
          let v = view_of_pass pass in
          let appended =
          ends setup body (view_of_session old) wal a.flight receipt pass going.begun done in
          let same : setup_of_log (wal_of_appending a) ≡ setup =
          ap (λ log. setup_of_session (record old { log = log })) going.same_log in
          let own : (v.opening).setup ≡ setup =
          ap (λ (o : Opening). o.setup) (pass_is.of_log).own ∙ same in
          let seen = subst (λ (s : Setup). HasSeenEnd s receipt.end.0 (v.reserving).seen) (sym same)
          (ends_seen setup body (view_of_session old) v receipt own appended) in (
            appended,
            ended_session pass (Some receipt.end) pass_is done.keeps seen,
            refl,
          )

      pub given_up_session : (pass : Pass) → IsPassOfLog (wal_of_appending a) pass
          → KeepsLog (view_of_flight a.flight) (view_of_pass pass)
          → (faults : ℕ) → MeetsDown faults (view_of_flight a.flight) (view_of_pass pass)
          → ((e : Entry) × HasReserved (setup_of_session old) body (view_of_session old)
          (view_of_pass pass) e) × ((faults : ℕ) × KnowsDown faults (view_of_pass pass))
          × GoesOnOpen old (ended_by pass a.appended)
      given_up_session pass pass_is keeps faults down = (
        given_up (setup_of_session old) body (view_of_session old) a.flight (view_of_pass pass)
            going.begun keeps,
        (faults, (down.some, inl down.met)),
        ended_session pass a.appended pass_is keeps (appended_still a.appended
            (setup_of_log (wal_of_appending a)) ((view_of_flight a.flight).reserving).seen
            ((view_of_pass pass).reserving).seen (keeps.keeps).rises (going.kept).appended),
      )

  -- ---- a log is opened

  -- the first session is on the log that it is of
  begins_there : (wal : Wal HostedDisk) (first : Pass) (session : LogSession H)
      → IsFirstOn wal first session → IsFirstOn (wal_of_session session) first session
  begins_there wal first session begins = record {
    log = refl;
    pass = begins.pass;
    helper = begins.helper;
    kept = begins.kept;
  }

  pub opens : (setup : Setup) (disk : HostedDisk) (wal : Wal HostedDisk) (first : Pass)
      (session : LogSession H) (calls : HostCalls H) → HasNoCalls disk
      → hosted_tape disk ≡ Some (read_tape empty_state)
      → IsOpened hosted_tape hosted_moment hosted_faults setup disk wal first
      → IsFirstOn wal first session → HasBothEnds disk calls
      → OpensWithHost setup session calls
  opens setup disk wal first session calls untouched nothing opened begins ends = record {
    opens = record {
      disk = disk;
      untouched = untouched;
      nothing = nothing;
      first = first;
      opened = subst (λ (w : Wal HostedDisk).
          IsOpened hosted_tape hosted_moment hosted_faults setup disk w first) (sym begins.log)
          opened;
      begins = begins_there wal first session begins;
    };
    ends = ends;
  }

  -- ---- a log is gone on with

  pub reopens : (setup : Setup) (segments : List HostSegment) (pages : List HandedPage)
      (disk : HostedDisk) (wal : Wal HostedDisk) (first : Pass) (found : Found)
      (session : LogSession H) (calls : HostCalls H) → HasNoCalls disk
      → (HasHanded segments pages → hosted_tape disk ≡ Some (read_tape (host_state segments)))
      → IsReopened hosted_tape hosted_moment hosted_faults setup disk wal first found
      → IsFirstOn wal first session → HasBothEnds disk calls
      → ReopensWithHost setup segments pages session calls found
  reopens setup segments pages disk wal first found session calls untouched tells reopened begins
      ends = record {
        reopens = record {
          disk = disk;
          untouched = untouched;
          first = first;
          reopened = subst (λ (w : Wal HostedDisk).
              IsReopened hosted_tape hosted_moment hosted_faults setup disk w first found)
              (sym begins.log) reopened;
          begins = begins_there wal first session begins;
        };
        tells = tells;
        ends = ends;
      }
