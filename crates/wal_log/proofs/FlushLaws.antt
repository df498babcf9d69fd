-- What is told to be durable: by what steps, and that no promise told before names more.
use Rattle.std.specs.Prelude.{Result, Ok, Err}
use Rattle.std.proofs.Common.{◌≡◌, ℕ, ◌<◌, ◌≤◌, All, List, [], ◌∷◌, ◌++◌, length, max, true, is_lt, nat_cmp, refl, sym, ap, subst, inl, inr, ◌∙◌, arith}
use Rattle.std.proofs.lemmas.Cmp.{by_ranked, ranked}
use Rattle.std.proofs.lemmas.List.Elements.{All-contains, All-weaker, Contains-push}
use Rattle.std.proofs.Math.Logic.{∥∥₁_elim}
use Rattle.std.specs.Coded.{le_prop}
use mathlib.Core.Bool.{true≢false}
use mathlib.Core.Option.{none}
use Rattle.atomic_table.proofs.Lists.{at_map}
use Rattle.byte_position.specs.Position.{position_of}
use Rattle.byte_position.specs.Geometry.{IsSegmentSize}
use Rattle.byte_position.proofs.EndAddresses.{end_address_of-mono}
use Rattle.wal_types.specs.declared.answers.Hard.{Hard}
use Rattle.machine_state.specs.Durable.{IsPromised, IsToldRightly}
use Rattle.machine_state.specs.Moves.{with_hold}
use Rattle.machine_state.specs.Steps.{load_flushed, load_moment, store_flushed, store_moment, value_behind, view_behind, MayStep}
use Rattle.machine_state.specs.Views.{FlushPromise, Plain, receipts_of, Out, Hold, Lent, View}
use Rattle.machine_state.specs.Words.{Opening, down_word, end_form, flushed_word, moment_word}
use Rattle.wal_rule.specs.Stepping.{Meets, Stands}
use Rattle.word_ring.specs.InHand.{lent_in, writer_in}
use Rattle.word_ring.proofs.CountBounds.{own_writer}
use Rattle.word_ring.proofs.HandLaws.{HasLent, hold_is}
use Rattle.wal_log.specs.declared.flushing.FlushErr.{FlushErr}
use Rattle.wal_log.specs.declared.flushing.FlushErr.TheVariants as flushes
use Rattle.wal_log.specs.declared.flushing.TryFlushErr.{TryFlushErr}
use Rattle.wal_log.specs.declared.flushing.TryFlushErr.TheVariants as tries
use Rattle.wal_log.specs.declared.turns.TurnErr.{TurnErr}
use Rattle.wal_log.specs.declared.turns.TurnErr.TheVariants as turns
use Rattle.wal_log.specs.Downs.{KnowsNoFault, SetsDownItself}
use Rattle.wal_log.specs.Flushing.{AnswersFlush, AnswersFlushTry, FailsItsFlush, HasPassedLocks, IsToBeFlushed, IsToldHard, IsUnreserved, TellsFlushTry, flush_err_known_down, try_flush_err_known_down, try_flush_err_of_turn}
use Rattle.wal_log.specs.Hands.{IsLatestPromise, TellsTurnErr}
use Rattle.wal_log.specs.PassLogs.{PassLog, log_of_pass, log_with_promise}
use Rattle.wal_log.specs.Standing.{KeepsPass, KeepsWork}
use Rattle.wal_log.specs.Moments.{HasMoment, HaveReached}
use Rattle.wal_log.proofs.Keeping.{further_pass, meets_since, same_pass}
use Rattle.wal_log.proofs.Plain.{flushed_loaded, moment_loaded}

-- the less of two numbers, by their order
pub lt_from_is_lt : (a b : ℕ) → is_lt (nat_cmp a b) ≡ true → a < b
lt_from_is_lt a b is = by_ranked (a < b) (a ≡ b) (b < a) (nat_cmp a b) (ranked a b _ refl)
    (λ _ less. less) (λ e _. absurd (true≢false (sym is ∙ ap is_lt e)))
    (λ e _. absurd (true≢false (sym is ∙ ap is_lt e)))

-- ---- no promise is above what the writer in hand has done

module _ (v : View) (has : HasLent v) where
  module _ (stands : Stands v) where
    told_rightly : IsToldRightly stands.first v.opening (stands.sound).order
        (flushed_word stands.words) (moment_word stands.words) (down_word stands.words)
        (stands.sound).writer
        (receipts_of v)
    told_rightly = ((stands.sound).durable).views stands.id (receipts_of v)
        (at_map receipts_of stands.views stands.id v stands.here)

    low : IsLatestPromise (writer_in v).written (writer_in v).moment v
    low =
        let own = own_writer v stands has in
        let moment : (writer_in v).moment ≡ ((stands.sound).writer).moment =
        ap (λ (p : Plain). p.moment) own in
        let written : (writer_in v).written ≡ ((stands.sound).writer).written =
        ap (λ (p : Plain). p.written) own in
        let moment_low = ((stands.sound).durable).moment_low in
        let flushed_low = ((stands.sound).positions).flushed_low in
        let written_low = ((stands.sound).positions).written_low in
        record {
          moments = All-weaker
              (IsPromised (flushed_word stands.words) (moment_word stands.words))
              (λ (p : FlushPromise). p.moment ≤ (writer_in v).moment)
              (λ p is. let low = is.moment_low in omega (arith, low, moment_low, moment))
              v.writing.promises told_rightly.own_promised;
          addresses = All-weaker
              (IsPromised (flushed_word stands.words) (moment_word stands.words))
              (λ (p : FlushPromise). p.upto ≤ (writer_in v).written)
              (λ p is. let low = is.upto_low in
              omega (arith, low, flushed_low, written_low, written))
              v.writing.promises told_rightly.own_promised;
        }

    since : (v.opening).moment ≤ (writer_in v).moment
    since =
        let moment : (writer_in v).moment ≡ ((stands.sound).writer).moment =
        ap (λ (p : Plain). p.moment) (own_writer v stands has) in
        let begun = ((stands.sound).durable).begun in
        let moment_low = ((stands.sound).durable).moment_low in
        omega (arith, begun, moment_low, moment)

  pub promises_are_low : ∥ Stands v ∥₁
      → IsLatestPromise (writer_in v).written (writer_in v).moment v
  promises_are_low stood = record {
    moments = λ k d below. ∥∥₁_elim stood le_prop
        (λ (stands : Stands v). (low stands).moments k d below);
    addresses = λ k d below. ∥∥₁_elim stood le_prop
        (λ (stands : Stands v). (low stands).addresses k d below);
  }

  -- and the writer's moment is not before the opening's
  pub since_opening : ∥ Stands v ∥₁ → (v.opening).moment ≤ (writer_in v).moment
  since_opening stood = ∥∥₁_elim stood le_prop since

-- nor is the moment that is loaded
pub loaded_since_opening : (v : View) (met : ℕ) → Meets v load_moment met
    → (v.opening).moment ≤ met
loaded_since_opening v met meets =
    let begun = (((meets.before).sound).durable).begun in
    let is : met ≡ moment_word (meets.before).words = meets.met_is in
    omega (arith, begun, is)

-- the flushed address alone was loaded
pub flushed_work : (flushed : ℕ) (old new : View)
    → new ≡ view_behind old load_flushed flushed none → KeepsWork old new
flushed_work flushed old new is = subst (λ (w : View). KeepsWork old w) (sym is) (record {
  pass = record {
    opening = refl;
    live = refl;
    number = refl;
    spare = refl;
    spare_end = refl;
    joined = refl;
    counts = omega arith;
    rises = omega arith;
    down = λ faults knows. knows;
  };
  place = refl;
  working = refl;
  stage = refl;
  confirmed = omega arith;
  async = refl;
})

-- ---- the view that was told so, met this as flushed, and has this of the turn to write

-- what a log was promised last is not above the words
pub has_reached : (v : View) (upto moment : ℕ) (l : PassLog)
    → log_of_pass v ≡ log_with_promise upto moment l → HaveReached upto moment v
has_reached v upto moment l is stands =
    let p : FlushPromise = record { upto = upto; moment = moment; entries = length l.entries } in
    let told : IsToldRightly stands.first v.opening (stands.sound).order
    (flushed_word stands.words) (moment_word stands.words) (down_word stands.words)
    (stands.sound).writer (receipts_of v) =
    ((stands.sound).durable).views stands.id (receipts_of v)
    (at_map receipts_of stands.views stands.id v stands.here) in
    let all = subst (λ (ps : List FlushPromise).
    All (IsPromised (flushed_word stands.words) (moment_word stands.words)) ps)
    (ap (λ (x : PassLog). x.promises) is) told.own_promised in
    let low = All-contains (IsPromised (flushed_word stands.words) (moment_word stands.words))
    (l.promises ++ p ∷ []) p all (Contains-push l.promises p) in
    (low.upto_low, low.moment_low)

abbrev pub told_view : (upto moment flushed : ℕ) → Hold → View → View
told_view upto moment flushed hold v = record v {
  reserving = record v.reserving {
    seen = max (v.reserving).seen (position_of ((v.opening).setup).seg_size upto);
  };
  writing = record v.writing {
    flushed = flushed;
    promises = v.writing.promises ++ (record {
      upto = upto;
      moment = moment;
      entries = length (v.reserving).entries;
    }) ∷ [];
    hold = hold;
  };
}

module _ (upto moment flushed : ℕ) (hold : Hold) (old new : View)
    (is : new ≡ told_view upto moment flushed hold old) where
  pub told_is : (asked : ℕ) → asked ≤ upto → (old.opening).moment ≤ moment
      → HasMoment old new moment → KnowsNoFault old → IsLatestPromise upto moment old
      → IsToldHard asked upto moment old new
  told_is asked reached since of_word up latest =
      subst (λ (w : View). IsToldHard asked upto moment old w) (sym is) (record {
        reached = reached;
        log_is = refl;
        since = since;
        of_word = subst (λ (w : View). HasMoment old w moment) is of_word;
        held = has_reached (told_view upto moment flushed hold old) upto moment (log_of_pass old)
            refl;
        latest = latest;
        up = record { met = up.met; set = up.set };
        seen = omega arith;
      })

  pub told_work : KeepsWork old new
  told_work = subst (λ (w : View). KeepsWork old w) (sym is) (record {
    pass = record {
      opening = refl;
      live = refl;
      number = refl;
      spare = refl;
      spare_end = refl;
      joined = refl;
      counts = omega arith;
      rises = omega arith;
      down = λ faults knows. knows;
    };
    place = refl;
    working = refl;
    stage = refl;
    confirmed = omega arith;
    async = refl;
  })

-- ---- loaded as flushed, with the moment behind it

module _ (flushed moment : ℕ) (old mid new : View)
    (first : mid ≡ view_behind old load_flushed flushed none)
    (next : new ≡ view_behind mid load_moment moment none) where
  pub met_told : new ≡ told_view flushed moment flushed old.writing.hold old
  met_told = next ∙ ap (λ (w : View). view_behind w load_moment moment none)
      (first ∙ flushed_loaded flushed old)
      ∙ moment_loaded moment (record old {
        reserving = record old.reserving {
          seen = max (old.reserving).seen
              (position_of ((old.opening).setup).seg_size flushed);
        };
        writing = record old.writing { flushed = flushed };
      })

  pub met_latest : All (λ (p : FlushPromise). p.upto ≤ flushed) old.writing.promises
      → All (λ (p : FlushPromise). p.moment ≤ moment) mid.writing.promises
      → IsLatestPromise flushed moment old
  met_latest furthest latest = record {
    moments = subst (λ (v : View). All (λ (p : FlushPromise). p.moment ≤ moment) v.writing.promises)
        first latest;
    addresses = furthest;
  }

  pub met_word : Meets mid load_moment moment → HasMoment old new moment
  met_word meets = record {
    view = mid;
    since = (flushed_work flushed old mid first).pass;
    until = subst (KeepsPass mid) (sym next) (record {
      opening = refl;
      live = refl;
      number = refl;
      spare = refl;
      spare_end = refl;
      joined = refl;
      counts = omega arith;
      rises = omega arith;
      down = λ faults knows. knows;
    });
    word = inl meets;
  }

  pub met_since : Meets mid load_moment moment → (old.opening).moment ≤ moment
  met_since meets = subst (λ (v : View). (v.opening).moment ≤ moment) first
      (loaded_since_opening mid moment meets)

-- ---- stored, with the writer in hand

-- all that is written is durable from its moment on
abbrev pub hard_lent : Lent → Lent
hard_lent l = record l { hard = (l.writer).written; hard_moment = (l.writer).moment }

module _ (v : View) (has : HasLent v) where
  pub moment_stored : (met : ℕ) → view_behind v store_moment met none
      ≡ with_hold (Out (hard_lent (lent_in v.writing.hold))) v
  moment_stored met =
      ap (λ (h : Hold). view_behind (with_hold h v) store_moment met none) (hold_is v has)

  pub flushed_stored : (met : ℕ) → view_behind v store_flushed met none
      ≡ told_view (lent_in v.writing.hold).hard (lent_in v.writing.hold).hard_moment
      v.writing.flushed (Out (lent_in v.writing.hold)) v
  flushed_stored met =
      ap (λ (h : Hold). view_behind (with_hold h v) store_flushed met none) (hold_is v has)

-- the moment is stored, and then the address
module _ (old mid : View) (has : HasLent old) (first : mid ≡ view_behind old store_moment 0 none)
  where
    mid_is : mid ≡ with_hold (Out (hard_lent (lent_in old.writing.hold))) old
    mid_is = first ∙ moment_stored old has 0

    pub may_tell : (lent_in old.writing.hold).stored ≡ (writer_in old).written
        → MayStep mid store_flushed
    may_tell stored = (
      (hard_lent (lent_in old.writing.hold)),
      ap (λ (w : View). w.writing.hold) mid_is,
      (refl, stored),
    )

    pub hard_told : (new : View) → new ≡ view_behind mid store_flushed 0 none
        → (upto moment : ℕ) → upto ≡ (writer_in old).written → moment ≡ (writer_in old).moment
        → new ≡ told_view upto moment old.writing.flushed
        (Out (hard_lent (lent_in old.writing.hold))) old
    hard_told new next upto moment upto_is moment_is =
        next ∙ flushed_stored mid (
          hard_lent (lent_in old.writing.hold),
          ap (λ (w : View). w.writing.hold) mid_is,
        ) 0
        ∙ ap (λ (w : View). told_view (lent_in w.writing.hold).hard
        (lent_in w.writing.hold).hard_moment w.writing.flushed (Out (lent_in w.writing.hold)) w)
        mid_is
        ∙ ap (λ (n : ℕ). told_view n (writer_in old).moment old.writing.flushed
        (Out (hard_lent (lent_in old.writing.hold))) old) (sym upto_is)
        ∙ ap (λ (n : ℕ). told_view upto n old.writing.flushed
        (Out (hard_lent (lent_in old.writing.hold))) old) (sym moment_is)

module _ (v : View) (has : HasLent v) where
  pub may_store_moment : (writer_in v).fault ≡ none → (writer_in v).waiting ≡ none
      → MayStep v store_moment
  may_store_moment up synced =
      ((lent_in v.writing.hold), hold_is v has, (up, synced))

  -- the moment stored is the writer's
  pub stores_moment : ∥ Stands v ∥₁ → (writer_in v).fault ≡ none → (writer_in v).waiting ≡ none
      → (moment : ℕ) → moment ≡ (writer_in v).moment → (new : View) → KeepsPass v new
      → HasMoment v new moment
  stores_moment stood up synced moment is new keeps = record {
    view = v;
    since = same_pass v;
    until = keeps;
    word = inr (record {
      stands = stood;
      may = may_store_moment up synced;
      value_is = is ∙ sym (ap (λ (h : Hold). value_behind (with_hold h v) store_moment 0)
          (hold_is v has));
    });
  }

-- ---- told behind other steps

-- a moment that was met or stored behind other steps
pub moment_behind : (old mid new : View) (moment : ℕ) → KeepsPass old mid
    → HasMoment mid new moment → HasMoment old new moment
moment_behind old mid new moment keeps has = record {
  view = has.view;
  since = further_pass old mid has.view keeps has.since;
  until = has.until;
  word = has.word;
}

-- and before other ones
moment_before : (old new newer : View) (moment : ℕ) → KeepsPass new newer
    → HasMoment old new moment → HasMoment old newer moment
moment_before old new newer moment keeps has = record {
  view = has.view;
  since = has.since;
  until = further_pass has.view new newer has.until keeps;
  word = has.word;
}

module _ (asked upto moment : ℕ) (old mid new : View) (same : log_of_pass mid ≡ log_of_pass old)
    (keeps : KeepsPass old mid) where
  same_promises : mid.writing.promises ≡ old.writing.promises
  same_promises = ap (λ (l : PassLog). l.promises) same

  pub told_behind : (least : ℕ) → least ≤ upto → IsToldHard asked upto moment mid new
      → IsToldHard least upto moment old new
  told_behind least reached told = record {
    reached = reached;
    log_is = told.log_is ∙ ap (log_with_promise upto moment) same;
    since = subst (λ (o : Opening). o.moment ≤ moment) keeps.opening told.since;
    of_word = moment_behind old mid new moment keeps told.of_word;
    held = told.held;
    latest = record {
      moments = subst (λ (ps : List FlushPromise).
          All (λ (p : FlushPromise). p.moment ≤ moment) ps) same_promises (told.latest).moments;
      addresses = subst (λ (ps : List FlushPromise).
          All (λ (p : FlushPromise). p.upto ≤ upto) ps) same_promises (told.latest).addresses;
    };
    up = told.up;
    seen = subst (λ (o : Opening). position_of (o.setup).seg_size upto
        ≤ (new.reserving).seen) keeps.opening told.seen;
  }

-- steps behind it leave what was told
pub told_still : (asked upto moment : ℕ) (old new newer : View)
    → log_of_pass newer ≡ log_of_pass new → KeepsPass new newer → KnowsNoFault newer
    → IsToldHard asked upto moment old new
    → IsToldHard asked upto moment old newer
told_still asked upto moment old new newer same keeps up told = record {
  reached = told.reached;
  log_is = same ∙ told.log_is;
  since = told.since;
  of_word = moment_before old new newer moment keeps told.of_word;
  held = has_reached newer upto moment (log_of_pass old) (same ∙ told.log_is);
  latest = told.latest;
  up = up;
  seen = (let seen = told.seen in let rises = keeps.rises in omega (arith, seen, rises));
}

-- ---- why a try told nothing

-- a failed call of the device, of a pass that has seen so far reserved
pub fails_flush : (asked faults : ℕ) (old new : View)
    → IsSegmentSize ((old.opening).setup).seg_size
    → asked ≤ end_form (old.opening).setup (old.reserving).seen
    → (old.reserving).seen ≤ (new.reserving).seen → new.writing.flushed < asked
    → SetsDownItself faults new → FailsItsFlush asked faults old new
fails_flush asked faults old new size reserved rises above down = record {
  down = down;
  above = above;
  reserved = (let higher = end_address_of-mono ((old.opening).setup).seg_size size
      (old.reserving).seen (new.reserving).seen rises in omega (arith, reserved, higher));
}

-- an address that was reserved is so still
pub is_to_be_flushed : (asked : ℕ) (old new : View)
    → IsSegmentSize ((old.opening).setup).seg_size
    → asked ≤ end_form (old.opening).setup (old.reserving).seen → KeepsPass old new
    → new.writing.flushed < asked → KnowsNoFault new → IsToBeFlushed asked new
is_to_be_flushed asked old new size reserved keeps above up = record {
  reserved = subst (λ (o : Opening). asked ≤ end_form o.setup (new.reserving).seen)
      (sym keeps.opening)
      (let higher = end_address_of-mono ((old.opening).setup).seg_size size
      (old.reserving).seen (new.reserving).seen keeps.rises in omega (arith, reserved, higher));
  above = above;
  up = up;
}

-- the turn to write was not had, and steps before it set no down value
pub tells_turn : (asked : ℕ) (old mid new : View)
    → IsSegmentSize ((old.opening).setup).seg_size
    → asked ≤ end_form (old.opening).setup (old.reserving).seen
    → KeepsPass old new → mid.writing.down_set ≡ old.writing.down_set
    → HasPassedLocks asked mid → new.writing.flushed < asked → (e : TurnErr)
    → TellsTurnErr mid new e → TellsFlushTry asked old new (try_flush_err_of_turn e)
tells_turn asked old mid new size reserved keeps same passed above (turns.Taken turn) told = (
  told.0,
  subst (HasPassedLocks asked) (sym told.1) passed,
  is_to_be_flushed asked old new size reserved keeps above told.2,
)
tells_turn asked old mid new size reserved keeps same passed above (turns.Down faults) told =
    meets_since old mid new faults same told

module _ (asked : ℕ) (old mid new : View) (keeps : KeepsPass old mid) where
  pub unreserved_behind : (end : ℕ) → IsUnreserved asked end mid new
      → IsUnreserved asked end old new
  unreserved_behind end is = record {
    end_is = is.end_is
        ∙ ap (λ (o : Opening). end_form o.setup (new.reserving).seen) keeps.opening;
    rises = (let r = is.rises in let before = keeps.rises in omega (arith, r, before));
    begun = subst (λ (o : Opening). (o.setup).seg_size ≤ end) keeps.opening is.begun;
    above = is.above;
    sight = is.sight;
    since = (let s = is.since in let before = keeps.rises in omega (arith, s, before));
    loaded = is.loaded;
    up = is.up;
  }

  pub fails_behind : (faults : ℕ) → FailsItsFlush asked faults mid new
      → FailsItsFlush asked faults old new
  fails_behind faults is = record {
    down = is.down;
    above = is.above;
    reserved = subst (λ (o : Opening). asked ≤ end_form o.setup (new.reserving).seen) keeps.opening
        is.reserved;
  }

  -- what was told behind other steps, which set no down value
  module _ (same_down : mid.writing.down_set ≡ old.writing.down_set) where
    tells_behind : (e : TryFlushErr) → TellsFlushTry asked mid new e
        → TellsFlushTry asked old new e
    tells_behind (tries.Disk n) told = fails_behind n told
    tells_behind (tries.Down n) told = meets_since old mid new n same_down told
    tells_behind (tries.Unreserved end) told = unreserved_behind end.0 told
    tells_behind (tries.Behind lock word) told = told
    tells_behind (tries.Turn turn) told = told

  -- and what a try answers that comes behind other steps
  module _ (same : log_of_pass mid ≡ log_of_pass old) where
    pub tried_behind : mid.writing.down_set ≡ old.writing.down_set → (r : Result Hard TryFlushErr)
        → AnswersFlushTry asked mid r new → AnswersFlushTry asked old r new
    tried_behind same_down (Ok hard) told = (
      told_behind asked hard.upto.0 hard.moment old mid new same keeps asked (told.0).reached
          told.0,
      told.1,
    )
    tried_behind same_down (Err e) why = (tells_behind same_down e why.0, why.1 ∙ same)

    pub flushed_behind : mid.writing.down_set ≡ old.writing.down_set → (r : Result Hard FlushErr)
        → AnswersFlush asked mid r new → AnswersFlush asked old r new
    flushed_behind same_down (Ok hard) told = (
      told_behind asked hard.upto.0 hard.moment old mid new same keeps asked (told.0).reached
          told.0,
      told.1,
    )
    flushed_behind same_down (Err (flushes.Disk n)) why =
        (why.0 ∙ same, fails_behind n why.1)
    flushed_behind same_down (Err (flushes.Down n)) why =
        (why.0 ∙ same, meets_since old mid new n same_down why.1)
    flushed_behind same_down (Err (flushes.Unreserved end)) why =
        (why.0 ∙ same, unreserved_behind end.0 why.1)

-- ---- the last try

-- what a flush answers behind a last try
abbrev pub answer_of : Result Hard TryFlushErr → Result Hard FlushErr
answer_of (Ok hard) = Ok hard
answer_of (Err (tries.Disk n)) = Err (flushes.Disk n)
answer_of (Err (tries.Down n)) = Err (flushes.Down n)
answer_of (Err (tries.Unreserved end)) = Err (flushes.Unreserved end)
answer_of (Err (tries.Behind lock word)) = Err (flushes.Disk 0)
answer_of (Err (tries.Turn turn)) = Err (flushes.Disk 0)

pub answer_again : (last : Result Hard TryFlushErr) (answer : Result Hard FlushErr) (faults : ℕ)
    → answer_of last ≡ answer → last ≡ try_flush_err_known_down faults
    → answer ≡ flush_err_known_down faults
answer_again last answer faults is known = sym is ∙ ap answer_of known
