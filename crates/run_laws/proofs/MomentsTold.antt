-- The moments that a backend is told rise as the promises of its log do.
use Rattle.std.proofs.Common.{◌≡◌, ℕ, suc, ◌+◌, ◌<◌, ◌≤◌, All, AllPairs, Bool, true, false, true≢false, List, [], ◌∷◌, ◌++◌, length, map, sym, ap, ◌∙◌, refl, subst, length-append, arith}
use Rattle.std.proofs.lemmas.List.{length_push}
use Rattle.std.proofs.lemmas.List.Elements.{All-cons, All-head, All-tail}
use Rattle.std.specs.Prelude.{slice_get, Some}
use Rattle.byte_position.specs.Position.{end_address_of, first_position}
use Rattle.wal_page.specs.Order.{Entry, finish_of, position_behind}
use Rattle.run_script.specs.Asked.{Asked, AskedLine, Insert, Commit, Flush, CommitAsync, WriteBehind, Switch}
use Rattle.machine_state.specs.Words.{Opening, log_limit}
use Rattle.machine_state.specs.Views.{FlushPromise, Joined, View}
use Rattle.machine_state.specs.Moves.{joined_of}
use Rattle.run_laws.specs.declared.told.Told.{Told}
use Rattle.run_laws.specs.declared.told.Told.TheVariants.{Wrote, Hard, Flushed, Async, Idle, Switched, Stayed, Refused}
use Rattle.run_laws.specs.Moments.{EachRises, FlushMoment, LastTold, MomentStep, MomentsReach, may_repeat}
use Rattle.run_laws.proofs.AllLaws.{parts_all}
use Rattle.machine_laws.specs.RisingMoments.{LogsRise, PromisesRise, Rises, RisesAbove, promised_of, with_opening}
use Rattle.machine_state.specs.PassLogs.{PassLog, log_with_entry, log_with_promise}
use Rattle.run_laws.specs.Played.{PassState, PlaysLines, behind_last_own, end_of_own, state_at_first, pass_state_of}
use Rattle.run_laws.specs.Ended.{HasTakenIn, PlayedAll}
use Rattle.run_laws.specs.Latest.{NoneIsLater}
use Rattle.run_laws.proofs.LineGrowth.{AddsNoPromise, Extends, Grows, line_grows, lines_extend}

-- where a flush may not tell the last moment again, its backend wrote since
written_since : (asked : Asked) (is_latest : Bool) → may_repeat asked is_latest ≡ false
    → (is_latest ≡ false) × (may_repeat asked false ≡ false)
written_since (Insert value) is_latest is = (is, refl)
written_since (Commit value) is_latest is = (is, refl)
written_since Flush is_latest is = (is, refl)
written_since (CommitAsync value) is_latest is = (is, refl)
written_since WriteBehind is_latest is = absurd (true≢false is)
written_since Switch is_latest is = (is, refl)

-- of two that follow each other in a list, what holds of each pair
pair_at : {X : Type 0} (R : X → X → Type 0) (front behind : List X) (x y : X)
    → AllPairs R (((front ++ x ∷ []) ++ y ∷ []) ++ behind) → R x y
pair_at R [] behind x y all = all 0 1 x (omega arith) (omega arith)
pair_at R (f ∷ front) behind x y all = pair_at R front behind x y
    (λ i j d lower within. all (suc i) (suc j) d (omega (arith, lower)) (omega (arith, within)))

got_at : (front behind : List Entry) (e : Entry)
    → slice_get ((front ++ e ∷ []) ++ behind) (length front) ≡ Some e
got_at [] behind e = refl
got_at (f ∷ front) behind e = got_at front behind e

-- the last of some entries, which ends where they do
record LastOwn (size behind : ℕ) (es : List Entry) : Type 0 where
  pub place : ℕ
  pub entry : Entry
  pub is_last : suc place ≡ length es
  pub there : (more : List Entry) → slice_get (es ++ more) place ≡ Some entry
  pub ends : behind_last_own size behind es ≡ position_behind size entry

last_own : (size behind : ℕ) (es : List Entry) → 0 < length es → LastOwn size behind es
last_own size behind [] some = absurd (omega (arith, some))
last_own size behind (e ∷ []) some = record {
  place = 0;
  entry = e;
  is_last = refl;
  there = λ more. refl;
  ends = refl;
}
last_own size behind (e ∷ f ∷ es) some =
    let rest = last_own size (position_behind size e) (f ∷ es) (omega arith) in
    record {
      place = suc rest.place;
      entry = rest.entry;
      is_last = ap suc rest.is_last;
      there = rest.there;
      ends = rest.ends;
    }

module _ (opening : Opening) where
  abbrev size : ℕ
  size = (opening.setup).seg_size

  -- what was told last is the log's newest promise, behind which an entry stands where something
  -- was written since
  pub record Tracks (log : PassLog) (last : LastTold) : Type 0 where
    pub older : List FlushPromise
    pub newest : FlushPromise
    pub promises : with_opening opening log.promises ≡ older ++ newest ∷ []
    pub moment_is : last.moment ≡ newest.moment
    pub counted : newest.entries ≤ length log.entries
    pub behind : last.is_latest ≡ false → newest.entries < length log.entries

  tracks_at_first : (seen : ℕ) → Tracks (state_at_first seen).log
      (record { moment = opening.moment; is_latest = true })
  tracks_at_first seen = record {
    older = [];
    newest = record { upto = size; moment = opening.moment; entries = 0 };
    promises = refl;
    moment_is = refl;
    counted = omega arith;
    behind = λ no. absurd (true≢false no);
  }

  -- one answer's step, behind which the answer's log is tracked
  abbrev Steps : LastTold → Asked → Told → PassLog → Type 0
  Steps last asked told after =
      (next : LastTold) × MomentStep last asked told next × Tracks after next

  module _ (before : PassLog) (last : LastTold) (t : Tracks before last) where
    tracks_entry : (e : Entry) → Tracks (log_with_entry e before)
        (record { moment = last.moment; is_latest = false })
    tracks_entry e = record {
      older = t.older;
      newest = t.newest;
      promises = t.promises;
      moment_is = t.moment_is;
      counted = omega (arith, t.counted, length_push before.entries e);
      behind = λ no. omega (arith, t.counted, length_push before.entries e);
    }

    tracks_promise : (upto moment : ℕ) → Tracks (log_with_promise upto moment before)
        (record { moment = moment; is_latest = true })
    tracks_promise upto moment =
        let q : FlushPromise =
        record { upto = upto; moment = moment; entries = length before.entries } in
        record {
          older = t.older ++ t.newest ∷ [];
          newest = q;
          promises = ap (λ (ps : List FlushPromise). ps ++ q ∷ []) t.promises;
          moment_is = refl;
          counted = omega arith;
          behind = λ no. absurd (true≢false no);
        }

    -- the promise made next rises above the newest one
    next_rises : (upto moment : ℕ) (after end : PassLog)
        → after ≡ log_with_promise upto moment before → Extends after end
        → PromisesRise opening end.entries end.promises
        → RisesAbove (opening.setup).seg_size end.entries t.newest upto moment
    next_rises upto moment after end is x rise =
        let q : FlushPromise =
        record { upto = upto; moment = moment; entries = length before.entries } in
        let all : with_opening opening end.promises
        ≡ ((t.older ++ t.newest ∷ []) ++ q ∷ []) ++ x.promises =
        ap (with_opening opening) x.promises_are
        ∙ ap (λ (l : PassLog). with_opening opening (l.promises ++ x.promises)) is
        ∙ ap (λ (ps : List FlushPromise). (ps ++ q ∷ []) ++ x.promises) t.promises in
        pair_at (Rises size end.entries) t.older x.promises t.newest q
        (subst (AllPairs (Rises size end.entries)) all rise)

    strictly : (upto moment : ℕ) (after end : PassLog)
        → after ≡ log_with_promise upto moment before → Extends after end
        → PromisesRise opening end.entries end.promises
        → end_of_own (opening.setup).seg_size before.entries ≤ upto
        → (t.newest).entries < length before.entries → (t.newest).moment < moment
    strictly upto moment after end is x rise covers some =
        let r = next_rises upto moment after end is x rise in
        let own = last_own size (first_position size) before.entries (omega (arith, some)) in
        let got : slice_get end.entries own.place ≡ Some own.entry =
        ap (λ (es : List Entry). slice_get es own.place)
        (x.entries_are ∙ ap (λ (l : PassLog). l.entries ++ x.entries) is)
        ∙ own.there x.entries in
        let ends : end_of_own size before.entries ≡ finish_of size own.entry =
        ap (end_address_of size) own.ends in
        r.rises own.place own.entry (omega (arith, some, own.is_last)) got
        (omega (arith, covers, ends))

    flush_rises : (asked : Asked) (upto moment : ℕ) (after end : PassLog)
        → after ≡ log_with_promise upto moment before → Extends after end
        → PromisesRise opening end.entries end.promises
        → (may_repeat asked false ≡ false
        → end_of_own (opening.setup).seg_size before.entries ≤ upto)
        → (b : Bool) → may_repeat asked last.is_latest ≡ b → FlushMoment b last.moment moment
    flush_rises asked upto moment after end is x rise covers true again =
        omega (arith, t.moment_is, (next_rises upto moment after end is x rise).never_falls)
    flush_rises asked upto moment after end is x rise covers false again =
        let both = written_since asked last.is_latest again in
        omega (
          arith,
          t.moment_is,
          strictly upto moment after end is x rise (covers both.1) (t.behind both.0),
        )

  module _ (before after end : PassLog) (x : Extends after end)
      (rise : PromisesRise opening end.entries end.promises) (last : LastTold)
      (t : Tracks before last) where
    commit_steps : (e : Entry) (upto moment : ℕ)
        → finish_of (opening.setup).seg_size e ≤ upto
        → after ≡ log_with_promise upto moment (log_with_entry e before)
        → (last.moment < moment)
        × Tracks after (record { moment = moment; is_latest = true })
    unfolding tracks_entry
    commit_steps e upto moment covers is =
        let between = log_with_entry e before in
        let wrote : LastTold = record { moment = last.moment; is_latest = false } in
        let s = tracks_entry before last t e in
        let r = next_rises between wrote s upto moment after end is x rise in
        let got : slice_get end.entries (length before.entries) ≡ Some e =
        ap (λ (es : List Entry). slice_get es (length before.entries))
        (x.entries_are ∙ ap (λ (l : PassLog). l.entries ++ x.entries) is)
        ∙ got_at before.entries x.entries e in
        let above : (t.newest).moment < moment =
        r.rises (length before.entries) e t.counted got covers in (
          omega (arith, above, t.moment_is),
          subst (λ (l : PassLog). Tracks l (record { moment = moment; is_latest = true })) (sym is)
              (tracks_promise between wrote s upto moment),
        )

    -- where no promise is made, what was told last stays so
    tracks_on : AddsNoPromise before after → Tracks after last
    tracks_on g =
        let more : length after.entries ≡ length before.entries + length g.entries =
        ap (λ (es : List Entry). length es) g.entries_are
        ∙ length-append before.entries g.entries in
        record {
          older = t.older;
          newest = t.newest;
          promises = ap (with_opening opening) g.promises_are ∙ t.promises;
          moment_is = t.moment_is;
          counted = omega (arith, t.counted, more);
          behind = λ no. let old = t.behind no in omega (arith, old, more);
        }

    answer_steps : (asked : Asked) (told : Told)
        → Grows (opening.setup).seg_size asked told before after
        → Steps last asked told after
    answer_steps asked (Wrote start end) g = (
      record { moment = last.moment; is_latest = false },
      refl,
      subst (λ (l : PassLog). Tracks l (record { moment = last.moment; is_latest = false }))
          (sym g.1) (tracks_entry before last t g.0),
    )
    answer_steps asked (Hard start finish moment) g =
        let both = commit_steps g.entry g.upto moment g.covers g.log_is in
        (record { moment = moment; is_latest = true }, (both.0, refl), both.1)
    answer_steps asked (Flushed upto moment) g = (
      record { moment = moment; is_latest = true },
      (
        flush_rises before last t asked upto.0 moment after end g.1 x rise g.0
            (may_repeat asked last.is_latest) refl,
        refl,
      ),
      subst (λ (l : PassLog). Tracks l (record { moment = moment; is_latest = true })) (sym g.1)
          (tracks_promise before last t upto.0 moment),
    )
    answer_steps asked (Async start end) g = (
      record { moment = last.moment; is_latest = false },
      refl,
      subst (λ (l : PassLog). Tracks l (record { moment = last.moment; is_latest = false }))
          (sym g.1) (tracks_entry before last t g.0),
    )
    answer_steps asked (Idle upto) g =
        (last, refl, subst (λ (l : PassLog). Tracks l last) (sym g) t)
    answer_steps asked (Switched start end) g = (
      record { moment = last.moment; is_latest = false },
      refl,
      subst (λ (l : PassLog). Tracks l (record { moment = last.moment; is_latest = false }))
          (sym g.1) (tracks_entry before last t g.0),
    )
    answer_steps asked (Stayed end) g = (last, refl, tracks_on g)
    answer_steps asked (Refused cause reserved) g = (last, refl, tracks_on g)

  module _ (limit top : ℕ) where
    abbrev IsUpto : FlushPromise → Type 0
    IsUpto p = p.moment ≤ top

    lines_rise : (pass : ℕ) (lines : List AskedLine) (told : List Told) (before after : PassState)
        → PlaysLines (opening.setup).seg_size limit pass before lines told after
        → PromisesRise opening (after.log).entries (after.log).promises
        → All IsUpto (with_opening opening (after.log).promises)
        → (last : LastTold) → Tracks before.log last
        → (final : LastTold) × MomentsReach last lines told final × (final.moment ≤ top)
    lines_rise pass [] [] before after plays rise all last t =
        let here : with_opening opening (after.log).promises ≡ t.older ++ t.newest ∷ [] =
        ap (λ (s : PassState). with_opening opening (s.log).promises) plays ∙ t.promises in
        let low : (t.newest).moment ≤ top = All-head IsUpto t.newest []
        (parts_all IsUpto t.older (t.newest ∷ []) (subst (All IsUpto) here all)).1 in
        (last, refl, omega (arith, low, t.moment_is))
    lines_rise pass [] (answer ∷ told) before after plays rise all last t = absurd plays
    lines_rise pass (line ∷ lines) [] before after plays rise all last t = absurd plays
    lines_rise pass (line ∷ lines) (answer ∷ told) before after plays rise all last t =
        let mid = plays.0 in
        let x = lines_extend size limit pass lines told mid after plays.2 in
        let step = answer_steps before.log mid.log after.log x rise last t line.asked answer
        (line_grows size limit pass line.asked answer before mid (plays.1).leaves) in
        let rest = lines_rise pass lines told mid after plays.2 rise all step.0 step.2 in
        (rest.0, (step.0, step.1, rest.1), rest.2)

    -- what is known of each pass that was taken in
    abbrev Rise : Joined → Type 0
    Rise j = PromisesRise opening j.entries j.promises

    abbrev Upto : Joined → Type 0
    Upto j = All (λ (p : FlushPromise). p.moment ≤ top) j.promises

    lists_rise : (pass : ℕ) (script : List (List AskedLine)) (lists : List (List Told))
        (others : List View)
        → PlayedAll (opening.setup).seg_size limit pass script lists others
        → opening.moment ≤ top → All Rise (map joined_of others) → All Upto (map joined_of others)
        → EachRises opening.moment script lists top
    lists_rise pass [] [] [] played begun rise upto = tt
    lists_rise pass [] [] (w ∷ others) played begun rise upto = absurd played
    lists_rise pass [] (told ∷ lists) others played begun rise upto = absurd played
    lists_rise pass (lines ∷ script) [] others played begun rise upto = absurd played
    lists_rise pass (lines ∷ script) (told ∷ lists) [] played begun rise upto = absurd played
    lists_rise pass (lines ∷ script) (told ∷ lists) (w ∷ others) played begun rise upto =
        let j = joined_of w in
        let js = map joined_of others in
        let first : FlushPromise =
        record { upto = size; moment = opening.moment; entries = 0 } in (
          lines_rise pass lines told (state_at_first (played.1).seen) (pass_state_of w)
              (played.1).plays
              (All-head Rise j js rise)
              (All-cons IsUpto first j.promises begun (All-head Upto j js upto))
              (record { moment = opening.moment; is_latest = true })
              (tracks_at_first (played.1).seen),
          lists_rise (pass + 1) script lists others played.2 begun (All-tail Rise j js rise)
              (All-tail Upto j js upto),
        )

pub run_rises : (opening : Opening) (v : View) (script : List (List AskedLine))
    (lists : List (List Told)) → HasTakenIn opening v script lists
    → LogsRise opening (promised_of v) → (last : ℕ) → NoneIsLater opening last v
    → EachRises opening.moment script lists last
run_rises opening v script lists taken rise last none =
    lists_rise opening (log_limit opening.setup) last 1 script lists taken.others taken.played
    none.begun
    (subst (All (λ (j : Joined). PromisesRise opening j.entries j.promises)) taken.joined
    rise.joined)
    (subst (All (λ (j : Joined). All (λ (p : FlushPromise). p.moment ≤ last) j.promises))
    taken.joined none.promised)
