-- The log of a pass only grows, and stands with the pass that took it in.
use Rattle.std.specs.Prelude.{Result, Ok, Err, Some, None}
use Rattle.std.proofs.Common.{◌≡◌, ◌⊎◌, ℕ, inl, inr, Contains, List, [], ◌∷◌, ◌++◌, refl, sym, ap, ◌∙◌, subst}
use Rattle.std.proofs.lemmas.List.{append_assoc, append-nil}
use Rattle.std.proofs.lemmas.List.Elements.{Contains-append_left, Contains-append_right, Contains-push}
use Rattle.wal_spelling.specs.Spelling.{Assembled}
use Rattle.wal_types.specs.declared.answers.Hard.{Hard}
use Rattle.wal_types.specs.declared.answers.Receipt.{Receipt}
use Rattle.wal_types.specs.declared.answers.Refused.{Refused}
use Rattle.wal_types.specs.declared.answers.Sealed.{Sealed}
use Rattle.wal_page.specs.Order.{Entry}
use Rattle.machine_state.specs.declared.setup.Setup.{Setup}
use Rattle.machine_state.specs.Views.{Joined, View}
use Rattle.machine_state.specs.Moves.{after_join, after_split, joined_of}
use Rattle.machine_state.specs.PassLogs.{log_with_stay}
use Rattle.wal_rule.specs.declared.pass.Pass.{Pass}
use Rattle.wal_rule.specs.Passes.{view_of_pass}
use Rattle.wal_log.specs.Committing.{AnswersCommit}
use Rattle.wal_log.specs.declared.beginning.TryErr.{TryErr}
use Rattle.wal_log.specs.declared.beginning.TryErr.TheVariants as begins
use Rattle.wal_log.specs.declared.behind.Caught.{Caught}
use Rattle.wal_log.specs.declared.behind.Caught.TheVariants.{Flushed, Idle}
use Rattle.wal_log.specs.declared.flushing.FlushErr.{FlushErr}
use Rattle.wal_log.specs.declared.flushing.TryFlushErr.{TryFlushErr}
use Rattle.wal_log.specs.declared.in_flight.Inflight.{Inflight}
use Rattle.wal_log.specs.declared.switch_tries.SwitchBegun.{SwitchBegun}
use Rattle.wal_log.specs.declared.switch_tries.SwitchBegun.TheVariants as switches
use Rattle.wal_log.specs.declared.switch_tries.TrySwitchErr.{TrySwitchErr}
use Rattle.wal_log.specs.declared.switch_tries.TrySwitchErr.TheVariants as switching
use Rattle.wal_log.specs.declared.wal.Wal.{Wal}
use Rattle.wal_log.specs.Beginning.{TellsBeginTry}
use Rattle.wal_log.specs.Behind.{AnswersBehind, AnswersBehindTry, TellsCaught}
use Rattle.wal_log.specs.Flights.{AnswersTryBegin, view_of_flight}
use Rattle.wal_log.specs.Flushing.{AnswersFlushTry, TellsHard}
use Rattle.wal_log.specs.declared.inserting.InsertErr.{InsertErr}
use Rattle.wal_log.specs.declared.inserting.InsertErr.TheVariants as inserts
use Rattle.wal_log.specs.Inserting.{AnswersInsert, IsStarted, RefusesInsert}
use Rattle.wal_log.specs.Logs.{setup_of_log}
use Rattle.wal_log.specs.declared.switching.Switch.{Switch}
use Rattle.wal_log.specs.declared.switching.Switch.TheVariants.{Done, Stayed}
use Rattle.wal_log.specs.PassLogs.{PassLog, log_of_pass, log_with_entry, log_with_full, log_with_promise}
use Rattle.wal_log.specs.Standing.{KeepsPass}
use Rattle.wal_log.specs.Switching.{AnswersSwitch}
use Rattle.wal_log.specs.SwitchTries.{AnswersTrySwitch, TellsSwitchTry}
use Rattle.wal_log.proofs.Refusals.{switch_refused}
use Rattle.wal_log_laws.specs.Growing.{GrowsTo, HasGrown, HasLog, IsFrontOf, view_behind_switch, view_behind_try}

-- ---- fronts

pub front_itself : {A : Type 0} → (xs : List A) → IsFrontOf xs xs
front_itself xs = ([], sym (append-nil xs))

pub front_of_front : {A : Type 0} → (xs ys zs : List A) → IsFrontOf xs ys → IsFrontOf ys zs
    → IsFrontOf xs zs
front_of_front {A} xs ys zs f g = (
  f.0 ++ g.0,
  g.1 ∙ ap (λ (l : List A). l ++ g.0) f.1 ∙ append_assoc xs f.0 g.0,
)

-- ---- logs

pub grows_itself : (l : PassLog) → GrowsTo l l
grows_itself l = record {
  entries = front_itself l.entries;
  stops = front_itself l.stops;
  promises = front_itself l.promises;
}

pub grows_again : (first second third : PassLog) → GrowsTo first second → GrowsTo second third
    → GrowsTo first third
grows_again first second third f g = record {
  entries = front_of_front first.entries second.entries third.entries f.entries g.entries;
  stops = front_of_front first.stops second.stops third.stops f.stops g.stops;
  promises = front_of_front first.promises second.promises third.promises f.promises g.promises;
}

-- ---- what a commit adds

-- a log that is this one is grown so too
grows_so : (l m n : PassLog) → n ≡ m → GrowsTo l m → GrowsTo l n
grows_so l m n is grows = subst (GrowsTo l) (sym is) grows

with_entry : (e : Entry) (l : PassLog) → GrowsTo l (log_with_entry e l)
with_entry e l = record {
  entries = (e ∷ [], refl);
  stops = front_itself l.stops;
  promises = front_itself l.promises;
}

with_promise : (upto moment : ℕ) (l : PassLog) → GrowsTo l (log_with_promise upto moment l)
with_promise upto moment l = record {
  entries = front_itself l.entries;
  stops = front_itself l.stops;
  promises = (_, refl);
}

with_full : (at : ℕ) (l : PassLog) → GrowsTo l (log_with_full at l)
with_full at l = record {
  entries = front_itself l.entries;
  stops = (_, refl);
  promises = front_itself l.promises;
}

with_stay : (at : ℕ) (l : PassLog) → GrowsTo l (log_with_stay at l)
with_stay at l = record {
  entries = front_itself l.entries;
  stops = (_, refl);
  promises = front_itself l.promises;
}

module _ (setup : Setup) (body : Assembled) (old new : View) where
  started_grows : (start : ℕ) → IsStarted setup body old new start
      → GrowsTo (log_of_pass old) (log_of_pass new)
  started_grows start told = grows_so (log_of_pass old) _ (log_of_pass new) (told.reserved).log_is
      (with_entry told.entry (log_of_pass old))

  refused_grows : (e : InsertErr) → RefusesInsert setup body old new e
      → GrowsTo (log_of_pass old) (log_of_pass new)
  refused_grows (inserts.Full free) told = grows_so (log_of_pass old) _ (log_of_pass new)
      (told.0).log_is (with_full (told.0).at (log_of_pass old))
  refused_grows (inserts.Disk faults start) told = started_grows start.0 told.0
  refused_grows (inserts.Down faults None) told = grows_so (log_of_pass old) _ (log_of_pass new)
      told.0 (grows_itself (log_of_pass old))
  refused_grows (inserts.Down faults (Some start)) told = started_grows start.0 told.0

  pub insert_grows : (answer : Result Receipt InsertErr) → AnswersInsert setup body old answer new
      → GrowsTo (log_of_pass old) (log_of_pass new)
  insert_grows (Ok receipt) told = grows_so (log_of_pass old) _ (log_of_pass new)
      (told.reserved).log_is (with_entry told.entry (log_of_pass old))
  insert_grows (Err e) told = refused_grows e told

  pub commit_grows : (answer : Result Sealed Refused) → AnswersCommit setup body old answer new
      → GrowsTo (log_of_pass old) (log_of_pass new)
  commit_grows (Ok sealed) told =
      let l : PassLog = log_of_pass old in
      let m : PassLog = log_with_entry told.entry l in
      grows_so l _ (log_of_pass new) told.log_is
      (grows_again l m (log_with_promise told.upto sealed.moment m) (with_entry told.entry l)
      (with_promise told.upto sealed.moment m))
  commit_grows (Err refused) told = refused_grows told.0 told.2

-- ---- what a flush behind adds

same_grows : (old new : View) → log_of_pass new ≡ log_of_pass old
    → GrowsTo (log_of_pass old) (log_of_pass new)
same_grows old new same =
    grows_so (log_of_pass old) _ (log_of_pass new) same (grows_itself (log_of_pass old))

caught_grows : (caught : Caught) (old new : View) → TellsCaught caught old new
    → GrowsTo (log_of_pass old) (log_of_pass new)
caught_grows (Flushed hard) old new told =
    grows_so (log_of_pass old) _ (log_of_pass new) ((told.told).0).log_is
    (with_promise hard.upto.0 hard.moment (log_of_pass old))
caught_grows (Idle upto) old new told = same_grows old new told.log_is

pub behind_grows : (old new : View) (answer : Result Caught FlushErr)
    → AnswersBehind old answer new → GrowsTo (log_of_pass old) (log_of_pass new)
behind_grows old new (Ok caught) told = caught_grows caught old new told
behind_grows old new (Err e) told = same_grows old new told.0

pub behind_try_grows : (old new : View) (answer : Result Caught TryFlushErr)
    → AnswersBehindTry old answer new → GrowsTo (log_of_pass old) (log_of_pass new)
behind_try_grows old new (Ok caught) told = caught_grows caught old new told
behind_try_grows old new (Err e) told = same_grows old new told.1

-- ---- what a segment switch adds

module _ (setup : Setup) (body : Assembled) (old new : View) where
  pub switch_grows : (answer : Result Switch InsertErr) → AnswersSwitch setup body old answer new
      → GrowsTo (log_of_pass old) (log_of_pass new)
  switch_grows (Ok (Done start end)) told = grows_so (log_of_pass old) _ (log_of_pass new)
      (told.switched.reserved).log_is (with_entry told.entry (log_of_pass old))
  switch_grows (Ok (Stayed end)) told = grows_so (log_of_pass old) _ (log_of_pass new)
      told.log_is (with_stay told.at (log_of_pass old))
  switch_grows (Err e) told =
      refused_grows setup body old new e (switch_refused setup body old new e told)

-- ---- what the calls add that do not wait

module _ (setup : Setup) (body : Assembled) (old new : View) where
  vain_grows : (e : TryErr) → TellsBeginTry setup body old new e
      → GrowsTo (log_of_pass old) (log_of_pass new)
  vain_grows (begins.Busy seen) told = same_grows old new (told.1).log_is
  vain_grows (begins.AllHeld seen) told = same_grows old new (told.1).log_is
  vain_grows (begins.Full free) told = grows_so (log_of_pass old) _ (log_of_pass new)
      (told.0).log_is (with_full (told.0).at (log_of_pass old))
  vain_grows (begins.Down faults) told = same_grows old new told.1

pub begin_grows : {D : Type 0} → (wal : Wal D) (body : Assembled) (old : View)
    (answer : Result Inflight (TryErr × Pass)) → AnswersTryBegin wal body old answer
    → GrowsTo (log_of_pass old) (log_of_pass (view_behind_try answer))
begin_grows wal body old (Ok flight) told =
    let begun = told.1 in grows_so (log_of_pass old) _ (log_of_pass (view_of_flight flight))
    (begun.place.reserved).log_is (with_entry begun.place.entry (log_of_pass old))
begin_grows wal body old (Err refused) told =
    vain_grows (setup_of_log wal) body old (view_of_pass refused.1) refused.0 told.1

module _ (setup : Setup) (body : Assembled) (old new : View) where
  vain_switch_grows : (e : TrySwitchErr) → TellsSwitchTry setup body old new e
      → GrowsTo (log_of_pass old) (log_of_pass new)
  vain_switch_grows (switching.Busy seen) told = same_grows old new (told.1).log_is
  vain_switch_grows (switching.Taken lock word) told = same_grows old new (told.1).log_is
  vain_switch_grows (switching.Full free) told =
      let full = (told.0).full in grows_so (log_of_pass old) _ (log_of_pass new) full.log_is
      (with_full full.at (log_of_pass old))
  vain_switch_grows (switching.Down faults) told = same_grows old new told.1

pub try_switch_grows : {D : Type 0} → (wal : Wal D) (body : Assembled) (old : View)
    (answer : Result SwitchBegun (TrySwitchErr × Pass)) → AnswersTrySwitch wal body old answer
    → GrowsTo (log_of_pass old) (log_of_pass (view_behind_switch answer))
try_switch_grows wal body old (Ok (switches.Going flight)) told =
    let begun = (told.1).1 in
    grows_so (log_of_pass old) _ (log_of_pass (view_of_flight flight))
    (begun.place.reserved).log_is (with_entry begun.place.entry (log_of_pass old))
try_switch_grows wal body old (Ok (switches.Stayed end pass)) told =
    grows_so (log_of_pass old) _ (log_of_pass (view_of_pass pass)) (told.1).log_is
    (with_stay (told.1).at (log_of_pass old))
try_switch_grows wal body old (Err refused) told =
    vain_switch_grows (setup_of_log wal) body old (view_of_pass refused.1) refused.0 told.1

pub flush_try_grows : (asked : ℕ) (old new : View) (answer : Result Hard TryFlushErr)
    → AnswersFlushTry asked old answer new → GrowsTo (log_of_pass old) (log_of_pass new)
flush_try_grows asked old new (Ok hard) told = grows_so (log_of_pass old) _ (log_of_pass new)
    (told.0).log_is (with_promise hard.upto.0 hard.moment (log_of_pass old))
flush_try_grows asked old new (Err e) told = same_grows old new told.1

pub hard_grows : (upto moment : ℕ) (old new : View) → TellsHard upto moment old new
    → GrowsTo (log_of_pass old) (log_of_pass new)
hard_grows upto moment old new told = grows_so (log_of_pass old) _ (log_of_pass new) told.log_is
    (with_promise upto moment (log_of_pass old))

-- ---- passes that are taken in

abbrev taken : View → List Joined
taken w = joined_of w ∷ (w.reserving).joined

joined_stays : (v w : View) (j : Joined) → Contains (v.reserving).joined j
    → Contains ((after_join v w).reserving).joined j
joined_stays v w j has = Contains-append_left (v.reserving).joined (taken w) j has

taken_has : (v w : View) (j : Joined) → Contains (taken w) j
    → Contains ((after_join v w).reserving).joined j
taken_has v w j has = Contains-append_right (v.reserving).joined (taken w) j has

pub has_after_join : (l : PassLog) (v w : View) → HasLog l v ⊎ HasLog l w
    → HasLog l (after_join v w)
has_after_join l v w (inl (inl own)) = inl own
has_after_join l v w (inl (inr its)) = inr (its.0, joined_stays v w its.0 its.1, its.2)
has_after_join l v w (inr (inl own)) = inr (
  joined_of w,
  taken_has v w (joined_of w)
      (Contains-append_left (joined_of w ∷ []) (w.reserving).joined (joined_of w)
      (Contains-push [] (joined_of w))),
  own,
)
has_after_join l v w (inr (inr its)) = inr (
  its.0,
  taken_has v w its.0
      (Contains-append_right (joined_of w ∷ []) (w.reserving).joined its.0 its.1),
  its.2,
)

-- ---- what grew

pub own_grown : (v : View) → HasGrown (log_of_pass v) v
own_grown v = (log_of_pass v, grows_itself (log_of_pass v), inl refl)

grown_has : (l m : PassLog) (v : View) → GrowsTo l m → HasLog m v → HasGrown l v
grown_has l m v grows has = (m, grows, has)

has_behind_call : (m : PassLog) (old new : View) → KeepsPass old new
    → GrowsTo (log_of_pass old) (log_of_pass new) → HasLog m old → HasGrown m new
has_behind_call m old new keeps grows (inl own) =
    (log_of_pass new, subst (λ (l : PassLog). GrowsTo l (log_of_pass new)) (sym own) grows, inl refl)
has_behind_call m old new keeps grows (inr its) = (
  m,
  grows_itself m,
  inr (
    its.0,
    subst (λ (js : List Joined). Contains js its.0) (sym keeps.joined) its.1,
    its.2,
  ),
)

pub grown_behind_call : (l : PassLog) (old new : View) → KeepsPass old new
    → GrowsTo (log_of_pass old) (log_of_pass new) → HasGrown l old → HasGrown l new
grown_behind_call l old new keeps grows has =
    let then = has_behind_call has.0 old new keeps grows has.2 in
    (then.0, grows_again l has.0 then.0 has.1 then.1, then.2)

has_after_split : (m : PassLog) (v : View) → HasLog m v → HasLog m (after_split v)
has_after_split m v (inl own) = inl own
has_after_split m v (inr its) = inr its

pub grown_after_split : (l : PassLog) (v : View) → HasGrown l v
    → HasGrown l (after_split v)
grown_after_split l v has = (has.0, has.1, has_after_split has.0 v has.2)

pub grown_after_join : (l : PassLog) (v w : View) → HasGrown l v ⊎ HasGrown l w
    → HasGrown l (after_join v w)
grown_after_join l v w (inl has) = (has.0, has.1, has_after_join has.0 v w (inl has.2))
grown_after_join l v w (inr has) = (has.0, has.1, has_after_join has.0 v w (inr has.2))
