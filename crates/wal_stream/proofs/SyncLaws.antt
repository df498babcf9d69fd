-- What the syncs of a log's segments leave.
use Rattle.std.proofs.Common.{◌≡◌, ℕ, ◌+◌, ◌/◌, ◌%◌, ◌≤◌, inl, List, [], ◌++◌, length, Option, Some, None, IfSome, Result, Ok, Err, ap, sym, subst, ◌∙◌, arith}
use Rattle.std.specs.Prelude.{OnErr, OnOk}
use Rattle.std.specs.List.{flat_map, range_with_len}
use Rattle.std.specs.Option.{unwrap_or}
use Rattle.std.proofs.lemmas.List.{append-nil, length-map}
use Rattle.std.proofs.lemmas.List.FromFn.{length-range_with_len}
use Rattle.byte_position.specs.Geometry.{IsSegmentSize, pages_of}
use Rattle.segment_disk.specs.declared.disk.Call.{Call}
use Rattle.segment_disk.specs.Tape.{DiskState, IsNotMade, Tape, after_calls, state_now, sync_call, zero_page}
use Rattle.flush_core.specs.Settled.{AreAllThere, AreThere, IfWhole, KeepsOld, KeepsRead, MakesCalls, StopsCalls, segment_clears, segments_cleared, settle_calls, sync_calls}
use Rattle.flush_core.proofs.SettleCalls.{lifted}
use Rattle.flush_core.proofs.SettleGroups.{stops_at_syncs}
use Rattle.flush_core.proofs.SettleReads.{behind_calls, reads_spared, syncs_spare}
use Rattle.flush_core.proofs.SettledTapes.{front_keeps, front_loses}
use Rattle.wal_stream.proofs.DurableLaws.{LeavesList-synced}
use Rattle.wal_stream.specs.SentFrames.{page_read}
use Rattle.wal_stream.specs.Synced.{HasSynced, SyncsFront}

pub on_ok_then : {T E : Type 0} (result : Result T E) (P Q : Type 0) → (P → Q) → OnOk result P → OnOk result Q
on_ok_then (Ok x) P Q more holds = more holds
on_ok_then (Err e) P Q more holds = holds

pub on_err_then : {T E : Type 0} (result : Result T E) (P Q : Type 0) → (P → Q) → OnErr result P → OnErr result Q
on_err_then (Ok x) P Q more holds = holds
on_err_then (Err e) P Q more holds = more holds

-- no call was made before these
pub before_none : (P : Option Tape → ℕ → Type 0) (old one : Option Tape) (m0 m1 : ℕ) → IsNotMade old one m0 m1 → P one m1 → P old m0
before_none P old one m0 m1 same holds = subst (λ (m : ℕ). P old m) same.same_moment (subst (λ (t : Option Tape). P t m1) same.same_tape holds)

-- the syncs of the segments that are there
module _ (size count : ℕ) (valid : IsSegmentSize size) (new : Option Tape) (m0 m1 : ℕ) where
  abbrev pub syncs : DiskState → List Call
  syncs state = sync_calls size (range_with_len 1 count)

  syncs_count : (state : DiskState) → length (syncs state) ≡ count
  syncs_count state = length-map (range_with_len 1 count) (sync_call size) ∙ length-range_with_len 1 count

  first_there : (old : Option Tape) → IfSome old (λ t. AreAllThere size (state_now t) count) → IfSome old (λ t. AreThere (state_now t) count)
  first_there old = lifted old (λ t. AreAllThere size (state_now t) count) (λ t. AreThere (state_now t) count) (λ t all. all.there)

  -- all of them are a front of them
  all_stop : (old : Option Tape) → MakesCalls old new m0 m1 syncs → StopsCalls old new m0 m1 syncs
  all_stop old makes = record {
    front = makes.calls;
    others = [];
    ends = inl makes.made;
    are = subst (λ (calls : List Call). IfSome old (λ t. calls ≡ syncs (state_now t))) (sym (append-nil makes.calls)) makes.are;
  }

  stopped_keeps_old : (old : Option Tape) → IfSome old (λ t. m0 ≡ length t.calls) → IfSome old (λ t. AreAllThere size (state_now t) count) → StopsCalls old new m0 m1 syncs → (end : ℕ) → IfWhole size old new (λ before. KeepsOld size before count end m0)
  stopped_keeps_old old counts there stops end =
      front_loses size end count valid old new m0 m1 counts (first_there old there) (stops_at_syncs size end count old new m0 m1 stops)

  made_keep_read : (old : Option Tape) → IfSome old (λ t. m0 ≡ length t.calls) → IfSome old (λ t. AreAllThere size (state_now t) count) → MakesCalls old new m0 m1 syncs → (end : ℕ) → IfWhole size old new (λ before. KeepsRead size before count end (m0 + count))
  made_keep_read None counts there makes end = tt
  made_keep_read (Some t) counts there makes end =
      let before = state_now t in
      let rest = flat_map (segment_clears size end before) (range_with_len 1 count) ++ sync_calls size (segments_cleared size end before count) in
      let stops : StopsCalls (Some t) new m0 m1 (settle_calls size end count) = record { front = makes.calls; others = rest; ends = inl makes.made; are = ap (λ (calls : List Call). calls ++ rest) makes.are } in
      let long : count ≤ length makes.calls = omega (arith, ap length makes.are, syncs_count before) in
      front_keeps size end count valid (Some t) new m0 m1 counts (first_there (Some t) there) stops long

  pub HasSynced-made : (old : Option Tape) → IfSome old (λ t. m0 ≡ length t.calls) → IfSome old (λ t. AreAllThere size (state_now t) count) → MakesCalls old new m0 m1 syncs → HasSynced size old new m0 m1
  HasSynced-made old counts there makes = record {
    count = count;
    there = there;
    calls = makes;
    keeps_old = stopped_keeps_old old counts there (all_stop old makes);
    keeps_read = made_keep_read old counts there makes;
    leaves = LeavesList-synced size count valid old new m0 m1 counts there makes;
  }

  pub SyncsFront-stopped : (old : Option Tape) → IfSome old (λ t. m0 ≡ length t.calls) → IfSome old (λ t. AreAllThere size (state_now t) count) → StopsCalls old new m0 m1 syncs → SyncsFront size old new m0 m1
  SyncsFront-stopped old counts there stops = record {
    count = count;
    there = there;
    calls = stops;
    keeps_old = stopped_keeps_old old counts there stops;
  }

-- ---- what is read is the same behind them

pub same_pages : (size : ℕ) (old new : Option Tape) (m0 m1 : ℕ) (synced : HasSynced size old new m0 m1) → IfSome old (λ t. IfSome new (λ u. page_read size (state_now u) ≡ page_read size (state_now t)))
same_pages size old new m0 m1 synced =
    let segments = range_with_len 1 synced.count in
    behind_calls (λ t u. page_read size u ≡ page_read size (state_now t)) old new (λ _. sync_calls size segments) synced.calls.calls synced.calls.are synced.calls.made.tape
    (λ t. λ i page. read_alike t page segments i)
  where
    read_alike : (t : Tape) (page : ℕ) (segments : List ℕ) → page_read size (after_calls (state_now t) (sync_calls size segments)) page ≡ page_read size (state_now t) page
    read_alike t page segments =
        let segment = page / pages_of size in
        let number = page % pages_of size in
        ap (λ (bytes : Option (List ℕ)). unwrap_or bytes zero_page) (reads_spared segment number (sync_calls size segments) (state_now t) (syncs_spare size segment number segments))
