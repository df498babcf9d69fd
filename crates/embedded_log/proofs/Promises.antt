-- What was promised to a log stays promised while it grows.
use Rattle.std.specs.Prelude.{IfSome, Option, Some, None, Result, Ok, Err}
use Rattle.std.proofs.Common.{◌≡◌, ◌≤◌, ℕ, Contains, List, [], ◌∷◌, length, inl, inr, refl, sym, subst, arith}
use Rattle.std.proofs.lemmas.List.Elements.{Contains-append_left, Contains-push}
use Rattle.wal_types.specs.declared.answers.Hard.{Hard}
use Rattle.machine_state.specs.Views.{FlushPromise, View}
use Rattle.wal_log.specs.declared.behind.Caught.TheVariants.{Flushed}
use Rattle.wal_log.specs.declared.flushing.TryFlushErr.{TryFlushErr}
use Rattle.wal_log.specs.declared.flushing.TryFlushErr.TheVariants as tries
use Rattle.wal_log.specs.Behind.{FlushesBehind}
use Rattle.wal_log.specs.Flushing.{TellsFlushTry}
use Rattle.wal_log.specs.PassLogs.{PassLog, log_of_pass, log_with_promise}
use Rattle.wal_log.specs.Standing.{KeepsPass}
use Rattle.wal_log.proofs.Keeping.{further_pass, same_pass}
use Rattle.wal_log_laws.specs.Growing.{GrowsTo}
use Rattle.wal_log_laws.proofs.Grown.{front_itself, grows_again, grows_itself}
use Rattle.embedded_log.specs.Promised.{IsPromisedHard, IsToldMade, RefusesFlush, RefusesTry, SaysBehind, SaysHeldBack, TellsMade, TellsPromised, TellsRefusal, TriesToFlush, refusal_of_stop, stop_of_try}
use Rattle.embedded_log.specs.declared.flushing.FlushRefusal.{FlushRefusal}
use Rattle.embedded_log.specs.declared.flushing.FlushRefusal.TheVariants.{Behind, Busy, Down, Unreserved}
use Rattle.embedded_log.specs.declared.shared.FlushBusy.TheVariants.{Flushing, Lock, Queue, Turn}
use Rattle.embedded_log.specs.declared.shared.FlushStop.{FlushStop}
use Rattle.embedded_log.specs.declared.shared.FlushStop.TheVariants as stops

module _ (hard : Hard) (l m : PassLog) (is : m ≡ log_with_promise hard.upto.0 hard.moment l) where
  abbrev promise : FlushPromise
  promise =
      record { upto = hard.upto.0; moment = hard.moment; entries = length l.entries }

  -- what is told as promised was, and the log has grown
  pub promised_now : IsPromisedHard hard m
  promised_now = record {
    promise = promise;
    in_log = subst (λ (x : PassLog). Contains x.promises promise) (sym is)
        (Contains-push l.promises promise);
    upto_is = refl;
    moment_is = refl;
  }

  pub grown_by_promise : GrowsTo l m
  grown_by_promise = subst (λ (x : PassLog). GrowsTo l x) (sym is) (record {
    entries = front_itself l.entries;
    stops = front_itself l.stops;
    promises = (promise ∷ [], refl);
  })

pub promised_still : (hard : Hard) (l m : PassLog) → GrowsTo l m → IsPromisedHard hard l
    → IsPromisedHard hard m
promised_still hard l m grows has = record {
  promise = has.promise;
  in_log = subst (λ (ps : List FlushPromise). Contains ps has.promise) (sym (grows.promises).1)
      (Contains-append_left l.promises (grows.promises).0 has.promise has.in_log);
  upto_is = has.upto_is;
  moment_is = has.moment_is;
}

pub pending_still : (pending : Option Hard) (l m : PassLog) → GrowsTo l m
    → IfSome pending (λ hard. IsPromisedHard hard l)
    → IfSome pending (λ hard. IsPromisedHard hard m)
pending_still None l m grows has = has
pending_still (Some hard) l m grows has = promised_still hard l m grows has

-- ---- a refusal is told as the log's own

-- as a weaker thing is told of it
pub tells_so : (P Q : TryFlushErr → Type 0) → ((e : TryFlushErr) → P e → Q e) → (r : FlushRefusal)
    → TellsRefusal P r → TellsRefusal Q r
tells_so P Q so (Busy Queue) tells = tt
tells_so P Q so (Busy Flushing) tells = tt
tells_so P Q so (Busy (Lock lock word)) tells = so (tries.Behind lock word) tells
tells_so P Q so (Busy (Turn word)) tells = so (tries.Turn word) tells
tells_so P Q so (Behind upto moment made) tells = tt
tells_so P Q so (Unreserved end) tells = so (tries.Unreserved end) tells
tells_so P Q so (Down faults) (inl tells) = inl (so (tries.Disk faults) tells)
tells_so P Q so (Down faults) (inr tells) = inr (so (tries.Down faults) tells)

stop_told : (tells : TryFlushErr → Type 0) (e : TryFlushErr) → tells e
    → TellsRefusal tells (refusal_of_stop (stop_of_try e))
stop_told tells (tries.Disk faults) told = inl told
stop_told tells (tries.Down faults) told = inr told
stop_told tells (tries.Unreserved end) told = told
stop_told tells (tries.Behind lock word) told = told
stop_told tells (tries.Turn word) told = told

pub told_as_stop : (tells : TryFlushErr → Type 0) (e : TryFlushErr) (stop : FlushStop)
    → stop ≡ stop_of_try e → tells e → TellsRefusal tells (refusal_of_stop stop)
told_as_stop tells e stop is told =
    subst (λ (s : FlushStop). TellsRefusal tells (refusal_of_stop s)) (sym is)
    (stop_told tells e told)

pub told_as_refusal : (tells : TryFlushErr → Type 0) (stop : FlushStop) (r : FlushRefusal)
    → r ≡ refusal_of_stop stop → TellsRefusal tells (refusal_of_stop stop) → TellsRefusal tells r
told_as_refusal tells stop r is told =
    subst (λ (x : FlushRefusal). TellsRefusal tells x) (sym is) told

-- a stop holds nothing back
stop_says : (stop : FlushStop) (v : View) → SaysHeldBack (refusal_of_stop stop) v
stop_says (stops.Busy busy) v = tt
stop_says (stops.Unreserved end) v = tt
stop_says (stops.Down faults) v = tt

pub refusal_says : (stop : FlushStop) (r : FlushRefusal) → r ≡ refusal_of_stop stop → (v : View)
    → SaysHeldBack r v
refusal_says stop r is v =
    subst (λ (x : FlushRefusal). SaysHeldBack x v) (sym is) (stop_says stop v)

-- and what is held back is told of no refusal of the log's own
pub held_tells : (tells : TryFlushErr → Type 0) (r : FlushRefusal) → SaysBehind r
    → TellsRefusal tells r
held_tells tells (Behind upto moment made) held = tt
held_tells tells (Busy busy) held = absurd held
held_tells tells (Unreserved end) held = absurd held
held_tells tells (Down faults) held = absurd held

-- ---- what a try of a flush leaves

pub told_tries : (asked : ℕ) (hard : Hard) (old new : View) → asked ≤ hard.upto.0
    → log_of_pass new ≡ log_with_promise hard.upto.0 hard.moment (log_of_pass old)
    → TriesToFlush asked old (Ok hard) new
told_tries asked hard old new reached is = record {
  told = (reached, promised_now hard (log_of_pass old) (log_of_pass new) is);
  grows = grown_by_promise hard (log_of_pass old) (log_of_pass new) is;
}

pub stopped_tries : (asked : ℕ) (stop : FlushStop) (old new : View)
    → RefusesFlush asked old new (refusal_of_stop stop)
    → GrowsTo (log_of_pass old) (log_of_pass new) → TriesToFlush asked old (Err stop) new
stopped_tries asked stop old new told grows = record { told = told; grows = grows }

-- the log's own try was refused
pub refused_tries : (asked : ℕ) (e : TryFlushErr) (stop : FlushStop) (old new : View)
    → stop ≡ stop_of_try e → TellsFlushTry asked old new e → log_of_pass new ≡ log_of_pass old
    → TriesToFlush asked old (Err stop) new
refused_tries asked e stop old new is tells same = record {
  told = told_as_stop (λ t. RefusesTry asked old new t) e stop is (old, same_pass old, tells);
  grows = subst (λ (l : PassLog). GrowsTo (log_of_pass old) l) (sym same)
      (grows_itself (log_of_pass old));
}

-- .. behind something by which the log has grown
told_since : (asked : ℕ) (answer : Result Hard FlushStop) (old mid new : View) → KeepsPass old mid
    → TellsPromised asked answer mid new → TellsPromised asked answer old new
told_since asked (Ok hard) old mid new keeps told = told
told_since asked (Err stop) old mid new keeps told =
    tells_so (λ t. RefusesTry asked mid new t) (λ t. RefusesTry asked old new t)
    (λ e tells. (tells.0, further_pass old mid tells.0 keeps tells.1, tells.2))
    (refusal_of_stop stop) told

pub tries_since : (asked : ℕ) (answer : Result Hard FlushStop) (old mid new : View)
    → KeepsPass old mid → GrowsTo (log_of_pass old) (log_of_pass mid)
    → TriesToFlush asked mid answer new → TriesToFlush asked old answer new
tries_since asked answer old mid new keeps before tries = record {
  told = told_since asked answer old mid new keeps tries.told;
  grows = grows_again (log_of_pass old) (log_of_pass mid) (log_of_pass new) before tries.grows;
}

-- ---- what a flush behind tells

module _ (hard : Hard) (old new : View) (told : FlushesBehind hard old new) where
  pub behind_promised : IsPromisedHard hard (log_of_pass new)
  behind_promised =
      promised_now hard (log_of_pass old) (log_of_pass new) ((told.told).0).log_is

  pub behind_told : (made : ℕ → Type 0) (said : Hard) → IsToldMade made hard.upto.0 said new
      → TellsMade made (Flushed said) old new
  behind_told made said is = (
    told.target,
    told.found,
    record {
      reached = (let low = ((told.told).0).reached in let further = is.reached in
          omega (arith, low, further));
      promised = is.promised;
      host = is.host;
    },
  )
