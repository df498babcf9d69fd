-- What a pass was told is promised to its log, and stays promised.
use Rattle.std.proofs.Common.{inl, inr, ℕ, Contains, List, sym, ap, subst, arith}
use Rattle.std.proofs.lemmas.List.Elements.{Contains-append_left, Contains-push}
use Rattle.wal_spelling.specs.Spelling.{Assembled}
use Rattle.wal_types.specs.declared.answers.Sealed.{Sealed}
use Rattle.wal_page.specs.Order.{Entry, finish_of}
use Rattle.machine_state.specs.declared.setup.Setup.{Setup}
use Rattle.machine_state.specs.Views.{FlushPromise, View}
use Rattle.run_laws.specs.Closed.{WasPromised}
use Rattle.wal_log.specs.Committing.{IsSealed}
use Rattle.wal_log.specs.Flushing.{IsToldHard, TellsHard}
use Rattle.wal_log.specs.Inserting.{HasReserved}
use Rattle.wal_log.specs.PassLogs.{PassLog, log_of_pass, log_with_entry}
use Rattle.wal_log_laws.specs.Growing.{HasGrown, HasLog, IsFrontOf}
use Rattle.wal_log_laws.specs.Told.{HasEntry, HasPromise, Promises, promise_to}

-- ---- what a call tells

pub reserved : (setup : Setup) (body : Assembled) (old new : View) (e : Entry)
    → HasReserved setup body old new e → Contains (log_of_pass new).entries e
reserved setup body old new e has = subst (λ (l : PassLog). Contains l.entries e)
    (sym has.log_is) (Contains-push (old.reserving).entries e)

pub told_promises : (asked upto moment : ℕ) (old new : View)
    → IsToldHard asked upto moment old new
    → Promises (log_of_pass new) asked (promise_to (log_of_pass old) upto moment)
told_promises asked upto moment old new told = record {
  in_log = subst (λ (l : PassLog). Contains l.promises (promise_to (log_of_pass old) upto moment))
      (sym told.log_is) (Contains-push old.writing.promises (promise_to (log_of_pass old) upto moment));
  reaches = told.reached;
}

pub hard_promises : (upto moment : ℕ) (old new : View) → TellsHard upto moment old new
    → Promises (log_of_pass new) upto (promise_to (log_of_pass old) upto moment)
hard_promises upto moment old new told = record {
  in_log = subst (λ (l : PassLog). Contains l.promises (promise_to (log_of_pass old) upto moment))
      (sym told.log_is)
      (Contains-push old.writing.promises (promise_to (log_of_pass old) upto moment));
  reaches = omega arith;
}

module _ (setup : Setup) (body : Assembled) (old new : View) (sealed : Sealed)
    (s : IsSealed setup body old new sealed) where
  abbrev promise : FlushPromise
  promise = promise_to (log_with_entry s.entry (log_of_pass old)) s.upto sealed.moment

  pub commit_reserved : Contains (log_of_pass new).entries s.entry
  commit_reserved = subst (λ (l : PassLog). Contains l.entries s.entry) (sym s.log_is)
      (Contains-push (old.reserving).entries s.entry)

  promise_in_log : Contains (log_of_pass new).promises
      (promise_to (log_with_entry s.entry (log_of_pass old)) s.upto sealed.moment)
  promise_in_log = subst (λ (l : PassLog). Contains l.promises promise) (sym s.log_is)
      (Contains-push old.writing.promises promise)

  pub commit_promises : Promises (log_of_pass new) (finish_of setup.seg_size s.entry)
      (promise_to (log_with_entry s.entry (log_of_pass old)) s.upto sealed.moment)
  commit_promises = record { in_log = promise_in_log; reaches = s.reached }

  pub commit_tells : Contains (log_of_pass new).entries s.entry
      × Promises (log_of_pass new) sealed.end.0
      (promise_to (log_with_entry s.entry (log_of_pass old)) s.upto sealed.moment)
  commit_tells = (
    commit_reserved,
    record {
      in_log = promise_in_log;
      reaches = (let end = s.end_is in let far = s.reached in omega (arith, end, far));
    },
  )

-- ---- what a pass has once the log grew

-- what a front has, the whole has
still_has : {A : Type 0} → (front whole : List A) (x : A) → IsFrontOf front whole
    → Contains front x → Contains whole x
still_has {A} front whole x goes has = subst (λ (xs : List A). Contains xs x) (sym goes.1)
    (Contains-append_left front goes.0 x has)

pub still_entry : (l : PassLog) (v : View) (e : Entry) → Contains l.entries e
    → HasGrown l v → HasEntry e v
still_entry l v e has grown = (
  grown.0,
  grown.2,
  still_has l.entries (grown.0).entries e (grown.1).entries has,
)

pub still_promise : (l : PassLog) (v : View) (address : ℕ) (p : FlushPromise)
    → Promises l address p → HasGrown l v → HasPromise address p v
still_promise l v address p has grown = (
  grown.0,
  grown.2,
  record {
    in_log = still_has l.promises (grown.0).promises p (grown.1).promises has.in_log;
    reaches = has.reaches;
  },
)

-- ---- what is closed

promised_in : (l : PassLog) (v : View) (p : FlushPromise)
    → HasLog l v → Contains l.promises p → WasPromised v l.entries p
promised_in l v p (inl own) has = inl (
  ap (λ (x : PassLog). x.entries) own,
  subst (λ (x : PassLog). Contains x.promises p) own has,
)
promised_in l v p (inr its) has = inr (
  its.0,
  its.1,
  ap (λ (x : PassLog). x.entries) its.2,
  subst (λ (x : PassLog). Contains x.promises p) its.2 has,
)

pub was_promised : (v : View) (address : ℕ) (p : FlushPromise)
    (has : HasPromise address p v) → WasPromised v (has.0).entries p
was_promised v address p has = promised_in has.0 v p has.1 (has.2).in_log
