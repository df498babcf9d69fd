-- What holds of a standby's disk along its history, and what each step keeps of it.
use Rattle.std.proofs.Common.{◌≡◌, ℕ, All, List, [], ◌∷◌, ◌++◌, length, Option, Some, IfSome, inl, sym, ap, subst, ◌∙◌, arith}
use Rattle.std.proofs.lemmas.List.Elements.{All-head, All-push, All-weaker}
use Rattle.byte_position.specs.Geometry.{IsSegmentSize}
use Rattle.segment_disk.specs.Assured.{CallFits, IsMadeUpto, IsNowhere, StateAssures, TapeAssures}
use Rattle.segment_disk.specs.Tape.{Tape}
use Rattle.flush_core.specs.Calls.{with_calls}
use Rattle.flush_core.specs.Left.{IsKeptWord, IsWordPut}
use Rattle.flush_core.specs.SettledLog.{IsZeroOrLogWord}
use Rattle.flush_core.specs.Settled.{HaveWholePages}
use Rattle.flush_core.specs.Writer.{writer_segment_size}
use Rattle.flush_core.proofs.GrowingTapes.{with_calls-some}
use Rattle.wal_page.specs.Order.{Entry}
use Rattle.wal_stream.specs.Following.{FollowsLog, Harden, IsSentStep, KeepsLogUpto, SentStep}
use Rattle.wal_stream.specs.Standby.{HasHardenedLog, standby_disk}
use Rattle.wal_stream.specs.declared.standby.Standby.{Standby}
use Rattle.wal_stream.proofs.FollowLaws.{FollowsAndKeeps, follows_and_keeps}
use Rattle.standby_laws.proofs.Holding.{HoldsOrder, IsHeld, IsLogBelow, KeepsUpto}
use Rattle.standby_laws.proofs.Moments.{IsWhole, assures_told, runs_from, runs_on}
use Rattle.standby_laws.proofs.StepsInTurn.{steps_in_turn}
use Rattle.standby_laws.proofs.Turns.{HasSegmentsInTurn, MakesInTurn}
use Rattle.standby_laws.proofs.Weaker.{TapeAssures-within}
use Rattle.standby_laws.proofs.WholeCalls.{GrowsWhole, step_whole}

-- ---- what holds of a standby

module _ {D : Type 0} (tape : D → Option Tape) (sysid : ℕ) (es : List Entry) (s : Standby D)
    (t : Tape) (told : tape (standby_disk s) ≡ Some t) where
  -- nothing else is on its disk
  has_only_log : (since : ℕ) → FollowsLog tape sysid es since s
      → TapeAssures s.geometry IsNowhere (IsZeroOrLogWord s.geometry sysid es) since t
  has_only_log since follows =
      let puts = follows.puts.puts in
      let only = subst (λ (o : Option Tape). IfSome o
      (TapeAssures (writer_segment_size s.writer) IsNowhere (IsWordPut puts) since)) told
      follows.puts.only in
      TapeAssures-within s.geometry IsNowhere IsNowhere (IsWordPut puts)
      (IsZeroOrLogWord s.geometry sysid es) (λ segment none. none)
      (λ page word bytes low put. follows.puts.log page word bytes low put) since t
      (subst (λ (n : ℕ). TapeAssures n IsNowhere (IsWordPut puts) since t) s.sized only)

  has_kept : (moment upto : ℕ) → KeepsLogUpto tape sysid es s (moment, upto)
      → TapeAssures s.geometry (IsMadeUpto s.geometry upto) (IsLogBelow s.geometry sysid es upto)
      moment t
  has_kept moment upto keeps =
      let pages = keeps.pages in
      let kept = subst (λ (o : Option Tape). IfSome o (TapeAssures (writer_segment_size s.writer)
      (IsMadeUpto (writer_segment_size s.writer) upto) (IsKeptWord upto pages) moment)) told
      keeps.kept.1 in
      TapeAssures-within s.geometry (IsMadeUpto s.geometry upto) (IsMadeUpto s.geometry upto)
      (IsKeptWord upto pages) (IsLogBelow s.geometry sysid es upto) (λ segment made. made)
      (λ page word bytes low fits below.
      fits below ∙ keeps.log page word low (omega (arith, below))) moment t
      (subst (λ (n : ℕ). TapeAssures n (IsMadeUpto n upto) (IsKeptWord upto pages) moment t) s.sized
      kept)

module _ {D : Type 0} (tape : D → Option Tape) (moment faults : D → ℕ) (size sysid : ℕ)
    (es : List Entry) where
  -- what was promised of a standby's disk is held there, and the standby keeps it
  abbrev pub IsHeldBy : Tape → Standby D → ℕ × ℕ → Type 0
  IsHeldBy t s promise = (held : IsHeld size sysid es t promise)
      × KeepsLogUpto tape sysid es s (promise.0, held.upto)

  pub record HoldsOpen (since : ℕ) (told : List (ℕ × ℕ)) (s : Standby D) : Type 0 where
    pub t : Tape
    pub told_tape : tape (standby_disk s) ≡ Some t
    pub size_is : s.geometry ≡ size
    pub order : HoldsOrder size sysid es since t
    pub follows : FollowsLog tape sysid es since s
    pub in_turn : MakesInTurn tape since s
    pub held : All (IsHeldBy t s) told

  pub record HoldsClosed (since : ℕ) (told : List (ℕ × ℕ)) (disk : D) : Type 0 where
    pub t : Tape
    pub told_tape : tape disk ≡ Some t
    pub order : HoldsOrder size sysid es since t
    pub held : All (IsHeld size sysid es t) told

  pub is_closed : (since : ℕ) (told : List (ℕ × ℕ)) (s : Standby D) → HoldsOpen since told s
      → HoldsClosed since told (standby_disk s)
  is_closed since told s open_so = record {
    t = open_so.t;
    told_tape = open_so.told_tape;
    order = open_so.order;
    held = All-weaker (IsHeldBy open_so.t s) (IsHeld size sysid es open_so.t)
        (λ promise held. held.0) told open_so.held;
  }

  -- ---- a step

  module _ (since : ℕ) (told : List (ℕ × ℕ)) (hardened : ℕ) (old new : Standby D) (step : SentStep)
      (was : HoldsOpen since told old)
      (is : IsSentStep tape moment faults sysid es hardened old new step) where
    stays : FollowsAndKeeps tape moment faults sysid es since hardened old ((step, new) ∷ [])
    stays = follows_and_keeps tape moment faults sysid es since hardened old ((step, new) ∷ [])
        (is, tt)

    grows : GrowsWhole size (tape (standby_disk old)) (tape (standby_disk new))
    grows = step_whole tape moment faults size sysid es hardened old new was.size_is step is

    abbrev t : Tape
    t = was.t

    abbrev after : Tape
    after = record t { calls = t.calls ++ grows.more }

    told_after : tape (standby_disk new)
        ≡ Some (record was.t { calls = (was.t).calls ++ grows.more })
    told_after = grows.grown ∙ ap (λ (o : Option Tape). with_calls o grows.more) was.told_tape
        ∙ with_calls-some t grows.more

    new_size : new.geometry ≡ size
    new_size = stays.stays.size ∙ was.size_is

    follows_after : FollowsLog tape sysid es since new
    follows_after = stays.stays.follows was.follows

    in_turn_after : MakesInTurn tape since new
    in_turn_after = steps_in_turn tape moment faults since sysid es hardened old
        ((step, new) ∷ []) (subst IsSegmentSize (sym was.size_is) was.order.order.valid) was.follows
        (is, tt) was.in_turn

    segments_after : HasSegmentsInTurn since new
        (record was.t { calls = (was.t).calls ++ grows.more })
    segments_after = subst (λ (o : Option Tape). IfSome o (HasSegmentsInTurn since new)) told_after
        in_turn_after.told

    order_after : HoldsOrder size sysid es since
        (record was.t { calls = (was.t).calls ++ grows.more })
    order_after = record {
      order = was.order.order;
      words = assures_told size IsNowhere (IsZeroOrLogWord size sysid es) since t grows.more
          was.order.words
          (subst (λ (n : ℕ). TapeAssures n IsNowhere (IsZeroOrLogWord n sysid es) since after)
          new_size (has_only_log tape sysid es new after told_after since follows_after));
      whole = runs_on (HaveWholePages size) (IsWhole size) since t grows.more was.order.whole
          grows.whole;
      last = segments_after.last;
      turn = segments_after.made;
      low = inl (omega (arith, segments_after.low, in_turn_after.few));
    }

    kept_after : (at upto : ℕ) → KeepsLogUpto tape sysid es new (at, upto)
        → TapeAssures size (IsMadeUpto size upto) (IsLogBelow size sysid es upto) at
        (record was.t { calls = (was.t).calls ++ grows.more })
    kept_after at upto keeps =
        subst (λ (n : ℕ). TapeAssures n (IsMadeUpto n upto) (IsLogBelow n sysid es upto) at after)
        new_size (has_kept tape sysid es new after told_after at upto keeps)

    held_after : (promise : ℕ × ℕ) → IsHeldBy was.t old promise
        → IsHeldBy (record was.t { calls = (was.t).calls ++ grows.more }) new promise
    held_after promise held =
        let upto = held.0.upto in
        let keeps = stays.stays.keeps (promise.0, upto) was.follows held.1 in (
          record {
            upto = upto;
            whole = held.0.whole;
            reaches = held.0.reaches;
            keeps = assures_told size (IsMadeUpto size upto) (IsLogBelow size sysid es upto)
                promise.0 t grows.more held.0.keeps (kept_after promise.0 upto keeps);
          },
          keeps,
        )

    pub step_open : HoldsOpen since told new
    step_open = record {
      t = after;
      told_tape = told_after;
      size_is = new_size;
      order = order_after;
      follows = follows_after;
      in_turn = in_turn_after;
      held = All-weaker (IsHeldBy t old) (IsHeldBy after new) held_after told was.held;
    }

  pub open_with : (since : ℕ) (told : List (ℕ × ℕ)) (s : Standby D) (promise : ℕ × ℕ)
      → (is : HoldsOpen since told s) → IsHeldBy is.t s promise
      → HoldsOpen since (told ++ promise ∷ []) s
  open_with since told s promise is held = record {
    t = is.t;
    told_tape = is.told_tape;
    size_is = is.size_is;
    order = is.order;
    follows = is.follows;
    in_turn = is.in_turn;
    held = All-push (IsHeldBy is.t s) told promise is.held held;
  }

  -- what is kept from now on is promised
  pub open_promises : (counts : (disk : D) → IfSome (tape disk) (λ t. moment disk ≡ length t.calls))
      → (since : ℕ) (told : List (ℕ × ℕ)) (s : Standby D) (upto : ℕ) → HoldsOpen since told s
      → KeepsLogUpto tape sysid es s (moment (standby_disk s), upto)
      → HoldsOpen since (told ++ (moment (standby_disk s), upto) ∷ []) s
  open_promises counts since told s upto is keeps =
      let at = moment (standby_disk s) in
      let counted : at ≡ length (is.t).calls =
      subst (λ (o : Option Tape). IfSome o (λ t. at ≡ length t.calls)) is.told_tape
      (counts (standby_disk s)) in
      let IsThere = IsMadeUpto size upto in
      let Fits = IsLogBelow size sysid es upto in
      let now = subst (λ (n : ℕ). TapeAssures n (IsMadeUpto n upto) (IsLogBelow n sysid es upto) at
      is.t) is.size_is (has_kept tape sysid es s is.t is.told_tape at upto keeps) in
      let kept = subst (λ (n : ℕ). KeepsUpto size sysid es upto n is.t) (sym counted)
      (runs_from (StateAssures size IsThere Fits) (CallFits size Fits) is.t now.now) in
      let held : IsHeldBy is.t s (at, upto) = (
        record {
          upto = upto;
          whole = keeps.whole;
          reaches = λ i e got low. low;
          keeps = kept;
        },
        keeps,
      ) in
      open_with since told s (at, upto) is held

  -- what `harden` told
  pub step_hardened : (counts : (disk : D) → IfSome (tape disk) (λ t. moment disk ≡ length t.calls))
      → (since : ℕ) (told : List (ℕ × ℕ)) (upto : ℕ) (old new : Standby D)
      → HoldsOpen since told old → HasHardenedLog tape moment faults old new upto
      → HoldsOpen since (told ++ (moment (standby_disk new), upto) ∷ []) new
  step_hardened counts since told upto old new was is =
      let all = follows_and_keeps tape moment faults sysid es since 0 old
      ((Harden upto, new) ∷ []) (is, tt) in
      open_promises counts since told new upto
      (step_open since told 0 old new (Harden upto) was is)
      (All-head (KeepsLogUpto tape sysid es new) (moment (standby_disk new), upto) []
      (all.promises was.follows))
