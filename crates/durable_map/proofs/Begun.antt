-- What the calls of a map's part add to the log of its pass.
use Rattle.std.proofs.Common.{◌≡◌, ℕ, ◌≤◌, List, [], ◌∷◌, ◌++◌, append_assoc, Some, None, Result, Ok, Err, refl, sym, ap, subst, ◌∙◌}
use Rattle.std.proofs.lemmas.List.{append-nil}
use Rattle.wal_spelling.specs.Spelling.{Assembled, assembled}
use Rattle.wal_types.specs.declared.answers.Refused.{Refused}
use Rattle.wal_types.specs.declared.answers.Sealed.{Sealed}
use Rattle.wal_page.specs.Order.{Entry}
use Rattle.machine_state.specs.declared.setup.Setup.{Setup}
use Rattle.machine_state.specs.Views.{View}
use Rattle.wal_log.specs.declared.wal.Wal.{Wal}
use Rattle.wal_log.specs.declared.inserting.InsertErr.{InsertErr}
use Rattle.wal_log.specs.declared.inserting.InsertErr.TheVariants as inserts
use Rattle.wal_log.specs.Committing.{AnswersCommit, IsSealed, refused_of_insert}
use Rattle.wal_log.specs.Inserting.{IsOwnEntry, IsStarted, RefusesInsert}
use Rattle.wal_log.specs.Logs.{setup_of_log}
use Rattle.wal_log.specs.PassLogs.{PassLog, log_of_pass}
use Rattle.wal_log_laws.specs.Growing.{GrowsTo}
use Rattle.durable_map.specs.Changes.{MapChange}
use Rattle.durable_map.specs.Calls.{ChangeCall, LeadTo, begun_at, begun_by, begun_in}
use Rattle.durable_map.specs.Records.{IsLoggable, SaysChange, change_record}
use Rattle.durable_map.specs.Stores.{AnswersCall, AnswersChange, view_of_part}
use Rattle.durable_map.specs.declared.fault.ChangeErr.{ChangeErr}
use Rattle.durable_map.specs.declared.fault.ChangeErr.TheVariants as changes
use Rattle.durable_map.specs.declared.part.MapPart.{MapPart}
use Rattle.durable_map.proofs.Fronts.{SayEach, say_each_append}
use Rattle.durable_map.proofs.Logged.{says_own}

abbrev pub entries_of : View → List Entry
entries_of v = (log_of_pass v).entries

abbrev entries_in : PassLog → List Entry
entries_in l = l.entries

-- a pass's entries grew by those of some changes
abbrev AddsChanges : View → View → List MapChange → Type 0
AddsChanges old new changes =
    (more : List Entry) × (entries_of new ≡ entries_of old ++ more) × SayEach more changes

-- ---- one call

none_added : (old new : View) → entries_of new ≡ entries_of old → AddsChanges old new []
none_added old new same = ([], same ∙ sym (append-nil (entries_of old)), tt)

says_entry : (setup : Setup) (change : MapChange) (old : View) (e : Entry) → IsLoggable change
    → IsOwnEntry setup (assembled (change_record change)) old e → SaysChange e.value change
says_entry setup change old e loggable own =
    subst (λ (x : Entry). SaysChange x.value change) (sym own.entry_is)
    (says_own own.value change own.logged loggable own.of_body)

one_added : (setup : Setup) (change : MapChange) (old new : View) (e : Entry) → IsLoggable change
    → IsOwnEntry setup (assembled (change_record change)) old e
    → entries_of new ≡ entries_of old ++ e ∷ [] → AddsChanges old new (change ∷ [])
one_added setup change old new e loggable own is =
    (e ∷ [], is, (says_entry setup change old e loggable own, tt))

started : (setup : Setup) (change : MapChange) (old new : View) (start : ℕ) → IsLoggable change
    → IsStarted setup (assembled (change_record change)) old new start
    → AddsChanges old new (change ∷ [])
started setup change old new start loggable is =
    one_added setup change old new is.entry loggable is.reserved.own
    (ap entries_in is.reserved.log_is)

refused_added : (setup : Setup) (change : MapChange) (old new : View) (e : InsertErr)
    → IsLoggable change → RefusesInsert setup (assembled (change_record change)) old new e
    → AddsChanges old new (begun_at change (refused_of_insert e).reserved)
refused_added setup change old new (inserts.Full free) loggable refuses =
    none_added old new (ap entries_in (refuses.0).log_is)
refused_added setup change old new (inserts.Disk faults start) loggable refuses =
    started setup change old new start.0 loggable refuses.0
refused_added setup change old new (inserts.Down faults None) loggable refuses =
    none_added old new (ap entries_in refuses.0)
refused_added setup change old new (inserts.Down faults (Some start)) loggable refuses =
    started setup change old new start.0 loggable refuses.0

-- ---- two calls

adds_on : (a b c : View) (xs ys : List MapChange) → AddsChanges a b xs → AddsChanges b c ys
    → AddsChanges a c (xs ++ ys)
adds_on a b c xs ys first second = (
  first.0 ++ second.0,
  second.1 ∙ ap (λ (es : List Entry). es ++ second.0) first.1
      ∙ append_assoc (entries_of a) first.0 second.0,
  say_each_append first.0 second.0 xs ys first.2 second.2,
)

same_grows : ((l : PassLog) → GrowsTo l l) → (old new : View) → new ≡ old
    → GrowsTo (log_of_pass old) (log_of_pass new)
same_grows stays old new same = subst (λ (v : View). GrowsTo (log_of_pass old) (log_of_pass v))
    (sym same) (stays (log_of_pass old))

-- ---- of a part

one_call : (setup : Setup) (change : MapChange) (old new : MapPart)
    (answer : Result Sealed ChangeErr) → AnswersChange setup change old new answer
    → AddsChanges (view_of_part old) (view_of_part new) (begun_by change answer)
one_call setup change old new (Ok sealed) answers =
    one_added setup change (view_of_part old) (view_of_part new) (answers.told).entry
    answers.loggable (answers.told).own (ap entries_in (answers.told).log_is)
one_call setup change old new (Err changes.Memory) answers =
    none_added (view_of_part old) (view_of_part new) (ap entries_of answers.0)
one_call setup change old new (Err changes.TooLong) answers =
    none_added (view_of_part old) (view_of_part new) (ap entries_of (answers.0).1)
one_call setup change old new (Err (changes.Refused refused)) answers =
    let why = (answers.0).1 in
    subst (λ (r : Refused).
    AddsChanges (view_of_part old) (view_of_part new) (begun_at change r.reserved)) (sym why.1)
    (refused_added setup change (view_of_part old) (view_of_part new) why.0 (answers.0).0 why.2)

module _ {D : Type 0} (wal : Wal D) where
  -- ---- calls

  pub all_added : (calls : List ChangeCall) (first last : MapPart) → LeadTo wal calls first last
      → AddsChanges (view_of_part first) (view_of_part last) (begun_in calls)
  all_added [] first last called =
      none_added (view_of_part first) (view_of_part last)
      (ap (λ (part : MapPart). entries_of (view_of_part part)) called)
  all_added (call ∷ calls) first last called =
      adds_on (view_of_part first) (view_of_part called.0) (view_of_part last)
      (begun_by call.change call.answer) (begun_in calls)
      (one_call (setup_of_log wal) call.change first called.0 call.answer (called.1).answers)
      (all_added calls called.0 last called.2)

  -- the passes that its pass took in are the same
  pub same_joined : (calls : List ChangeCall) (first last : MapPart) → LeadTo wal calls first last
      → ((view_of_part last).reserving).joined ≡ ((view_of_part first).reserving).joined
  same_joined [] first last called =
      ap (λ (part : MapPart). ((view_of_part part).reserving).joined) called
  same_joined (call ∷ calls) first last called =
      same_joined calls called.0 last called.2 ∙ ((called.1).keeps).joined

  -- those before a call, it, and those behind it
  split_calls : (before : List ChangeCall) (call : ChangeCall) (others : List ChangeCall)
      (first last : MapPart) → LeadTo wal (before ++ call ∷ others) first last
      → (old new : MapPart) × LeadTo wal before first old
      × AnswersCall wal call.change old new call.answer × LeadTo wal others new last
  split_calls [] call others first last called =
      (first, called.0, refl, called.1, called.2)
  split_calls (one ∷ before) call others first last called =
      let rest = split_calls before call others called.0 last called.2 in
      (rest.0, rest.1, (called.0, called.1, rest.2), rest.3, rest.4)

  -- ---- a call that was answered

  -- a commit of this log told by a moment that an entry is durable, which the last pass has; up to
  -- it these changes are said
  pub record IsCommitted (first last : MapPart) (at : ℕ) (changes : List MapChange) : Type 0 where
    pub body : Assembled
    pub old : View
    pub new : View
    pub sealed : Sealed
    pub by : sealed.moment ≤ at
    pub told : IsSealed (setup_of_log wal) body old new sealed
    pub grown : GrowsTo (log_of_pass new) (log_of_pass (view_of_part last))
    pub more : List Entry
    pub rest : List Entry
    pub entries : entries_of (view_of_part last)
        ≡ entries_of (view_of_part first) ++ (more ++ told.entry ∷ rest)
    pub said : SayEach (more ++ told.entry ∷ []) changes

  module _ (commits : (setup : Setup) (body : Assembled) (old new : View)
      (answer : Result Sealed Refused) → AnswersCommit setup body old answer new
      → GrowsTo (log_of_pass old) (log_of_pass new))
      (stays : (l : PassLog) → GrowsTo l l)
      (again : (one two three : PassLog) → GrowsTo one two → GrowsTo two three
      → GrowsTo one three) where
    one_grows : (change : MapChange) (old new : MapPart) (answer : Result Sealed ChangeErr)
        → AnswersChange (setup_of_log wal) change old new answer
        → GrowsTo (log_of_pass (view_of_part old)) (log_of_pass (view_of_part new))
    one_grows change old new (Ok sealed) answers =
        commits (setup_of_log wal) (assembled (change_record change))
        (view_of_part old) (view_of_part new) (Ok sealed) answers.told
    one_grows change old new (Err changes.Memory) answers =
        same_grows stays (view_of_part old) (view_of_part new) answers.0
    one_grows change old new (Err changes.TooLong) answers =
        same_grows stays (view_of_part old) (view_of_part new) (answers.0).1
    one_grows change old new (Err (changes.Refused refused)) answers =
        commits (setup_of_log wal) (assembled (change_record change))
        (view_of_part old) (view_of_part new) (Err refused) (answers.0).1

    all_grow : (calls : List ChangeCall) (first last : MapPart) → LeadTo wal calls first last
        → GrowsTo (log_of_pass (view_of_part first)) (log_of_pass (view_of_part last))
    all_grow [] first last called =
        subst (λ (part : MapPart).
        GrowsTo (log_of_pass (view_of_part first)) (log_of_pass (view_of_part part))) (sym called)
        (stays (log_of_pass (view_of_part first)))
    all_grow (call ∷ calls) first last called =
        again (log_of_pass (view_of_part first)) (log_of_pass (view_of_part called.0))
        (log_of_pass (view_of_part last))
        (one_grows call.change first called.0 call.answer (called.1).answers)
        (all_grow calls called.0 last called.2)

    pub committed : (calls before : List ChangeCall) (change : MapChange) (sealed : Sealed)
        (others : List ChangeCall) (first last : MapPart) (at : ℕ) → LeadTo wal calls first last
        → calls ≡ before ++ (record { change = change; answer = Ok sealed }) ∷ others
        → sealed.moment ≤ at → IsCommitted first last at (begun_in before ++ change ∷ [])
    committed calls before change sealed others first last at called are by =
        let call : ChangeCall = record { change = change; answer = Ok sealed } in
        let parts = split_calls before call others first last
        (subst (λ (cs : List ChangeCall). LeadTo wal cs first last) are called) in
        let old = view_of_part parts.0 in
        let new = view_of_part parts.1 in
        let answers = (parts.3).answers in
        let e = (answers.told).entry in
        let added = all_added before first parts.0 parts.2 in
        let behind = all_added others parts.1 last parts.4 in
        record {
          body = assembled (change_record change);
          old = old;
          new = new;
          sealed = sealed;
          by = by;
          told = answers.told;
          grown = all_grow others parts.1 last parts.4;
          more = added.0;
          rest = behind.0;
          entries = behind.1
              ∙ ap (λ (es : List Entry). es ++ behind.0) (ap entries_in (answers.told).log_is)
              ∙ append_assoc (entries_of old) (e ∷ []) behind.0
              ∙ ap (λ (es : List Entry). es ++ (e ∷ behind.0)) added.1
              ∙ append_assoc (entries_of (view_of_part first)) added.0 (e ∷ behind.0);
          said = say_each_append added.0 (e ∷ []) (begun_in before) (change ∷ []) added.2 (
            says_entry (setup_of_log wal) change old e answers.loggable (answers.told).own,
            tt,
          );
        }
