-- Lanes that share a log: behind calls of each, and as they are joined.
use Rattle.std.proofs.Common.{◌≡◌, ℕ, zero, suc, ◌+◌, ◌<◌, All, List, [], ◌∷◌, ◌++◌, append_assoc, length, map, take, ⊎_elim, inl, inr, refl, sym, ap, ◌∙◌, subst, arith}
use Rattle.std.specs.Prelude.{MatchOption, Option, Some, None, slice_index_or, slice_set}
use Rattle.std.proofs.Math.Seq.{map-set_same}
use Rattle.std.proofs.lemmas.List.{append-nil, get_or-map, get_or_append_left, get_or_at, length-append, length-map, map-append, take_at}
use Rattle.std.proofs.lemmas.List.Elements.{All-head, All-nil, All-push, All-tail}
use Rattle.machine_state.specs.Views.{Joined, View}
use Rattle.wal_rule.specs.declared.pass.Pass.{Pass}
use Rattle.wal_rule.specs.Closing.{KeepsNumbers}
use Rattle.wal_rule.specs.Passes.{view_of_pass}
use Rattle.wal_log.specs.declared.wal.Wal.{Wal}
use Rattle.wal_log.specs.Logs.{IsPassOfLog, setup_of_log}
use Rattle.wal_log.specs.Sharing.{KeepEach, ShareNumbers}
use Rattle.wal_log.specs.Standing.{KeepsPass}
use Rattle.wal_log.proofs.Keeping.{same_pass}
use Rattle.wal_log_laws.specs.Growing.{IsNewPass, NumberedLog, after_join, after_split, logs_of_pass, numbered_joined, numbered_log, split_off}
use Rattle.durable_map.specs.Sharing.{AreLanesOf, ChangesLane, GivesTold, HasLogsOf, IsUnasked, IsOnlyItself, IsSameLane, KeepsLanes, ShareLog, WorkOff, WorksOff, lanes_of, log_in_lane, view_in_lane}
use Rattle.durable_map.specs.Stores.{IsPartOfLog, view_of_part}
use Rattle.durable_map.specs.declared.asked.MapTold.{MapTold}
use Rattle.durable_map.specs.declared.part.MapPart.{MapPart}
use Rattle.durable_map.specs.declared.sharing.MapLane.{MapLane}
use Rattle.durable_map.specs.declared.sharing.SharedMap.{SharedMap}

-- ---- lists

-- all but the last, and the last
abbrev IsSplit : List MapLane → ℕ → Type 0
IsSplit xs n = (front : List MapLane) × (last : MapLane) × (xs ≡ front ++ last ∷ [])
    × (length front ≡ n)

one_longer : (x : MapLane) (xs : List MapLane) (n : ℕ) → IsSplit xs n → IsSplit (x ∷ xs) (suc n)
one_longer x xs n rest = (
  x ∷ rest.0,
  rest.1,
  ap (λ (l : List MapLane). x ∷ l) rest.2,
  omega (arith, rest.3),
)

split_last : (xs : List MapLane) (n : ℕ) → length xs ≡ n + 1 → IsSplit xs n
split_last [] n long = absurd (omega (arith, long))
split_last (x ∷ []) n long = ([], x, refl, omega (arith, long))
split_last (x ∷ y ∷ ys) zero long = absurd (omega (arith, long))
split_last (x ∷ y ∷ ys) (suc n) long =
    one_longer x (y ∷ ys) n (split_last (y ∷ ys) n (omega (arith, long)))

pub same_fronts : (xs ys : List MapLane) (x y : MapLane) → xs ++ x ∷ [] ≡ ys ++ y ∷ []
    → (xs ≡ ys) × (x ≡ y)
same_fronts [] [] x y same = (refl, cc)
same_fronts [] (b ∷ []) x y same = absurd (cc)
same_fronts [] (b ∷ c ∷ ys) x y same = absurd (cc)
same_fronts (a ∷ []) [] x y same = absurd (cc)
same_fronts (a ∷ c ∷ xs) [] x y same = absurd (cc)
same_fronts (a ∷ xs) (b ∷ ys) x y same =
    let first : a ≡ b = cc in
    let others = same_fronts xs ys x y (cc) in
    (ap (λ (l : MapLane). l ∷ xs) first ∙ ap (λ (ls : List MapLane). b ∷ ls) others.0, others.1)

-- ---- behind calls

still_only : (old new : View) → KeepsPass old new → IsOnlyItself old → IsOnlyItself new
still_only old new keeps only =
    record { no_spares = keeps.spare_end ∙ only.no_spares; alone = keeps.joined ∙ only.alone }

-- in a call of each
abbrev CallEach : {D : Type 0} → Wal D → List MapLane → List MapLane → Type 0
CallEach wal old new = (k : ℕ) (d : MapLane) → k < length old
    → IsPartOfLog wal (slice_index_or new k d).part
    × KeepsPass (view_in_lane (slice_index_or old k d)) (view_in_lane (slice_index_or new k d))

abbrev NumbersKept : Type 0
NumbersKept = (passes : ℕ) (v : View) (old new : List View) → length new ≡ length old
    → KeepEach old new → ShareNumbers passes v old → ShareNumbers passes v new

module _ (numbers : (old new : View) → KeepsPass old new → KeepsNumbers old new)
    (kept : NumbersKept) {D : Type 0} (wal : Wal D) (old new : List MapLane)
    (s : ShareLog wal old) (as_many : length new ≡ length old) (each : CallEach wal old new) where
  its : IsSplit new (length s.others)
  its =
      let long = ap (λ (l : List MapLane). length l) s.are in
      split_last new (length s.others)
      (omega (arith, as_many, long, length-append s.others (s.own ∷ [])))

  fewer : (k : ℕ) → k < length s.others → k < length old
  fewer k within =
      let long = ap (λ (l : List MapLane). length l) s.are in
      omega (arith, within, long, length-append s.others (s.own ∷ []))

  keeps_other : (k : ℕ) (d : MapLane) → k < length s.others
      → KeepsPass (view_in_lane (slice_index_or s.others k d))
      (view_in_lane (slice_index_or its.0 k d))
  keeps_other k d within =
      subst (λ (l : MapLane). KeepsPass (view_in_lane l) (view_in_lane (slice_index_or its.0 k d)))
      (ap (λ (l : List MapLane). slice_index_or l k d) s.are
      ∙ get_or_append_left s.others (s.own ∷ []) d k within)
      (subst (λ (l : MapLane). KeepsPass (view_in_lane (slice_index_or old k d)) (view_in_lane l))
      (ap (λ (l : List MapLane). slice_index_or l k d) its.2
      ∙ get_or_append_left its.0 (its.1 ∷ []) d k (omega (arith, within, its.3)))
      (each k d (fewer k within)).1)

  keeps_own : KeepsPass (view_in_lane s.own) (view_in_lane its.1)
  keeps_own =
      let n = length s.others in
      let long = ap (λ (l : List MapLane). length l) s.are in
      subst (λ (l : MapLane). KeepsPass (view_in_lane l) (view_in_lane its.1))
      (ap (λ (l : List MapLane). slice_index_or l n s.own) s.are
      ∙ get_or_at s.others s.own [] s.own n refl)
      (subst (λ (l : MapLane). KeepsPass (view_in_lane (slice_index_or old n s.own))
      (view_in_lane l))
      (ap (λ (l : List MapLane). slice_index_or l n s.own) its.2
      ∙ get_or_at its.0 its.1 [] s.own n its.3)
      (each n s.own (omega (arith, long, length-append s.others (s.own ∷ [])))).1)

  keep_each : KeepEach (map view_in_lane s.others) (map view_in_lane its.0)
  keep_each k d within =
      let low : k < length s.others = omega (arith, within, length-map s.others view_in_lane) in
      subst (λ (v : View). KeepsNumbers v (slice_index_or (map view_in_lane its.0) k d))
      (sym (get_or-map view_in_lane s.others k s.own d low))
      (subst (λ (v : View). KeepsNumbers (view_in_lane (slice_index_or s.others k s.own)) v)
      (sym (get_or-map view_in_lane its.0 k s.own d (omega (arith, low, its.3))))
      (numbers (view_in_lane (slice_index_or s.others k s.own))
      (view_in_lane (slice_index_or its.0 k s.own)) (keeps_other k s.own low)))

  pub still_shared : ShareLog wal new
  still_shared = record {
    some = omega (arith, s.some, as_many);
    parts = λ k d within. (each k d (omega (arith, within, as_many))).0;
    others = its.0;
    own = its.1;
    are = its.2;
    only = λ k d within. still_only (view_in_lane (slice_index_or s.others k d))
        (view_in_lane (slice_index_or its.0 k d))
        (keeps_other k d (omega (arith, within, its.3)))
        (s.only k d (omega (arith, within, its.3)));
    alone = keeps_own.joined ∙ s.alone;
    numbers = kept (setup_of_log wal).passes (view_in_lane its.1) (map view_in_lane s.others)
        (map view_in_lane its.0)
        (length-map its.0 view_in_lane ∙ its.3 ∙ sym (length-map s.others view_in_lane))
        keep_each (λ number low. ⊎_elim
        (λ own. inl (numbers (view_in_lane s.own) (view_in_lane its.1) keeps_own number own))
        (λ some. inr some) (s.numbers number low));
  }

-- ---- where one lane is another

abbrev part_in_lane : MapLane → MapPart
part_in_lane lane = lane.part

-- if each has the part that it had
pub parts_share : ((old new : View) → KeepsPass old new → KeepsNumbers old new) → NumbersKept
    → {D : Type 0} → (wal : Wal D) (old new : List MapLane)
    → map part_in_lane new ≡ map part_in_lane old → ShareLog wal old → ShareLog wal new
parts_share numbers kept wal old new same s =
    let as_many : length new ≡ length old =
    sym (length-map new part_in_lane) ∙ ap (λ (ps : List MapPart). length ps) same
    ∙ length-map old part_in_lane in
    still_shared numbers kept wal old new s as_many (λ k d within.
    let mine : (slice_index_or new k d).part ≡ (slice_index_or old k d).part =
    sym (get_or-map part_in_lane new k d d.part (omega (arith, within, as_many)))
    ∙ ap (λ (ps : List MapPart). slice_index_or ps k d.part) same
    ∙ get_or-map part_in_lane old k d d.part within in (
      subst (IsPartOfLog wal) (sym mine) (s.parts k d within),
      subst (λ (p : MapPart). KeepsPass (view_in_lane (slice_index_or old k d)) (view_of_part p))
          (sym mine) (same_pass (view_in_lane (slice_index_or old k d))),
    ))

-- the lanes with another value of one
pub one_share : ((old new : View) → KeepsPass old new → KeepsNumbers old new) → NumbersKept
    → {D : Type 0} → (wal : Wal D) (old : List MapLane) (k : ℕ) (was now : MapLane)
    → was ≡ slice_index_or old k was → now.part ≡ was.part → ShareLog wal old
    → ShareLog wal (slice_set old k now)
one_share numbers kept wal old k was now there part s =
    parts_share numbers kept wal old (slice_set old k now)
    (map-set_same part_in_lane old k now was (part ∙ ap part_in_lane there)) s

pub lanes_kept : {D : Type 0} → (old new : SharedMap D) (k : ℕ) (was now : MapLane)
    → new.log ≡ old.log → lanes_of new ≡ slice_set (lanes_of old) k now
    → was ≡ slice_index_or (lanes_of old) k was → IsSameLane was now → KeepsLanes old new
lanes_kept old new k was now log lanes there same = record {
  log = log;
  parts = ap (λ (ls : List MapLane). map (λ lane. lane.part) ls) lanes
      ∙ map-set_same (λ (l : MapLane). l.part) (lanes_of old) k now was
      (same.part ∙ ap (λ (l : MapLane). l.part) there);
  calls = ap (λ (ls : List MapLane). map (λ lane. (lane.calls).items) ls) lanes
      ∙ map-set_same (λ (l : MapLane). (l.calls).items) (lanes_of old) k now was
      (same.calls ∙ ap (λ (l : MapLane). (l.calls).items) there);
  told = ap (λ (ls : List MapLane). map (λ lane. (lane.told).items) ls) lanes
      ∙ map-set_same (λ (l : MapLane). (l.told).items) (lanes_of old) k now was
      (same.told ∙ ap (λ (l : MapLane). (l.told).items) there);
}

same_part_given : (first : Option MapTold) (old new : MapLane)
    → MatchOption first (IsSameLane old new) (λ told. GivesTold told old new)
    → new.part ≡ old.part
same_part_given None old new same = same.part
same_part_given (Some told) old new gives = gives.part

-- the lanes once an answer of one was taken
pub given_share : ((old new : View) → KeepsPass old new → KeepsNumbers old new) → NumbersKept
    → {D : Type 0} → (wal : Wal D) (old : List MapLane) (k : ℕ) (was now : MapLane)
    (first : Option MapTold) → was ≡ slice_index_or old k was
    → MatchOption first (IsSameLane was now) (λ told. GivesTold told was now) → ShareLog wal old
    → ShareLog wal (slice_set old k now)
given_share numbers kept wal old k was now first there gives s =
    one_share numbers kept wal old k was now there (same_part_given first was now gives) s

pub told_given : {D : Type 0} → (old new : SharedMap D) (k : ℕ) (was now : MapLane)
    (first : Option MapTold) → k < length (lanes_of old) → new.log ≡ old.log
    → lanes_of new ≡ slice_set (lanes_of old) k now → was ≡ slice_index_or (lanes_of old) k was
    → MatchOption first (IsSameLane was now) (λ told. GivesTold told was now)
    → MatchOption first (KeepsLanes old new) (λ told. ChangesLane k (GivesTold told) old new)
told_given old new k was now None within log lanes there same =
    lanes_kept old new k was now log lanes there same
told_given old new k was now (Some told) within log lanes there gives = record {
  log = log;
  within = within;
  was = was;
  was_there = there;
  now = now;
  lanes = lanes;
  so = gives;
}

-- ---- in calls of each

-- a vector of so many lanes that were lent to those who work has them again
pub worked_in_place : {D : Type 0} → (wal : Wal D) (count : ℕ) (lanes lent new rest : List MapLane)
    → lent ≡ lanes → count ≡ length lanes → length new ≡ length lent
    → ((k : ℕ) (d : MapLane) → k < length lent
    → WorksOff wal (slice_index_or lent k d) (slice_index_or new k d))
    → WorkOff wal lanes (take count (new ++ rest))
worked_in_place wal count lanes lent new rest value all same each =
    let lent_all = ap (λ (xs : List MapLane). length xs) value in
    subst (WorkOff wal lanes)
    (sym (take_at new rest count (omega (arith, all, lent_all, same))))
    (subst (λ (xs : List MapLane). WorkOff wal xs new) value
    (record { as_many = same; each = each }))

pub worked_share : ((old new : View) → KeepsPass old new → KeepsNumbers old new) → NumbersKept
    → {D : Type 0} → (wal : Wal D) (old new : List MapLane) → WorkOff wal old new
    → ShareLog wal old → ShareLog wal new
worked_share numbers kept wal old new work s =
    still_shared numbers kept wal old new s work.as_many (λ k d within.
    ((work.each k d within).pass, (work.each k d within).keeps))

-- ---- as they are dealt

-- so many lanes were made, and this pass is left
pub record IsDealing {D : Type 0} (wal : Wal D) (first pass : Pass) (lanes : List MapLane)
    : Type 0 where
  pub of_log : IsPassOfLog wal pass
  pub parts : AreLanesOf wal lanes
  pub only : All (λ lane. IsOnlyItself (view_in_lane lane)) lanes
  pub alone : ((view_of_pass pass).reserving).joined ≡ []
  pub numbers : ShareNumbers (setup_of_log wal).passes (view_of_pass pass)
      (map view_in_lane lanes)
  pub idle : All IsUnasked lanes
  pub new : IsNewPass (view_of_pass first) → IsNewPass (view_of_pass pass)
      × All (λ lane. IsNewPass (view_in_lane lane)) lanes

pub none_dealt : {D : Type 0} → (wal : Wal D) (pass : Pass) (lanes : List MapLane)
    → lanes ≡ [] → IsPassOfLog wal pass → ((view_of_pass pass).reserving).joined ≡ []
    → ShareNumbers (setup_of_log wal).passes (view_of_pass pass) []
    → IsDealing wal pass pass lanes
none_dealt wal pass lanes none of_log alone numbers =
    subst (IsDealing wal pass pass) (sym none) (record {
      of_log = of_log;
      parts = All-nil (λ (l : MapLane). IsPartOfLog wal l.part);
      only = All-nil (λ (l : MapLane). IsOnlyItself (view_in_lane l));
      alone = alone;
      numbers = numbers;
      idle = All-nil IsUnasked;
      new = λ none. (none, All-nil (λ (l : MapLane). IsNewPass (view_in_lane l)));
    })

abbrev NumbersSplit : Type 0
NumbersSplit = (passes : ℕ) (v : View) (others : List View) → ShareNumbers passes v others
    → ShareNumbers passes (after_split v) (others ++ split_off v ∷ [])

split_only : (v : View) → IsOnlyItself (split_off v)
split_only v = record { no_spares = refl; alone = refl }

split_new : (v : View) → IsNewPass v → IsNewPass (after_split v)
split_new v new = record { none = new.none; alone = new.alone }

pub one_dealt : NumbersSplit → ((v : View) → IsNewPass (split_off v)) → {D : Type 0}
    → (wal : Wal D) (first old new : Pass) (before after : List MapLane) (lane : MapLane)
    → IsDealing wal first old before → IsPassOfLog wal new
    → view_of_pass new ≡ after_split (view_of_pass old) → IsPartOfLog wal lane.part
    → view_in_lane lane ≡ split_off (view_of_pass old) → IsUnasked lane
    → after ≡ before ++ lane ∷ [] → IsDealing wal first new after
one_dealt split fresh wal first old new before after lane d left left_is right right_is idle are =
    let passes = (setup_of_log wal).passes in
    subst (λ (ls : List MapLane). IsDealing wal first new ls) (sym are) (record {
      of_log = left;
      parts = All-push (λ (l : MapLane). IsPartOfLog wal l.part) before lane d.parts right;
      only = All-push (λ (l : MapLane). IsOnlyItself (view_in_lane l)) before lane d.only
          (subst IsOnlyItself (sym right_is) (split_only (view_of_pass old)));
      alone = ap (λ (v : View). (v.reserving).joined) left_is ∙ d.alone;
      numbers = subst (λ (v : View). ShareNumbers passes v
          (map view_in_lane (before ++ lane ∷ []))) (sym left_is)
          (subst (ShareNumbers passes (after_split (view_of_pass old)))
          (sym (map-append view_in_lane before (lane ∷ [])
          ∙ ap (λ (v : View). map view_in_lane before ++ v ∷ []) right_is))
          (split passes (view_of_pass old) (map view_in_lane before) d.numbers));
      idle = All-push IsUnasked before lane d.idle idle;
      new = λ none. let more = d.new none in (
        subst IsNewPass (sym left_is) (split_new (view_of_pass old) more.0),
        All-push (λ (l : MapLane). IsNewPass (view_in_lane l)) before lane more.1
            (subst IsNewPass (sym right_is) (fresh (view_of_pass old))),
      );
    })

pub all_dealt : {D : Type 0} → (wal : Wal D) (first pass : Pass) (before after : List MapLane)
    (lane : MapLane) → IsDealing wal first pass before → lane.part.pass ≡ pass → IsUnasked lane
    → after ≡ before ++ lane ∷ []
    → ShareLog wal after × (IsNewPass (view_of_pass first)
    → All (λ lane. IsNewPass (view_in_lane lane)) after) × All IsUnasked after
all_dealt wal first pass before after lane dealt is idle are =
    let d = subst (λ (p : Pass). IsDealing wal first p before) (sym is) dealt in
    let long = ap (λ (l : List MapLane). length l) are in (
      record {
        some = omega (arith, long, length-append before (lane ∷ []));
        parts = subst (AreLanesOf wal) (sym are)
            (All-push (λ (l : MapLane). IsPartOfLog wal l.part) before lane d.parts d.of_log);
        others = before;
        own = lane;
        are = are;
        only = d.only;
        alone = d.alone;
        numbers = d.numbers;
      },
      λ none. subst (All (λ lane. IsNewPass (view_in_lane lane))) (sym are)
          (All-push (λ (l : MapLane). IsNewPass (view_in_lane l)) before lane (d.new none).1
          (d.new none).0),
      subst (All IsUnasked) (sym are) (All-push IsUnasked before lane d.idle idle),
    )

-- ---- as they are joined

-- a pass took some lanes in, and these are left
pub record IsJoining {D : Type 0} (wal : Wal D) (lanes : List MapLane) (pass : Pass)
    (rest : List MapLane) : Type 0 where
  pub of_log : IsPassOfLog wal pass
  pub parts : AreLanesOf wal rest
  pub only : All (λ lane. IsOnlyItself (view_in_lane lane)) rest
  pub numbers : ShareNumbers (setup_of_log wal).passes (view_of_pass pass)
      (map view_in_lane rest)
  pub others : List MapLane
  pub own : MapLane
  pub are : lanes ≡ others ++ own ∷ []
  pub logs : logs_of_pass (view_of_pass pass) ++ map log_in_lane rest
      ≡ map log_in_lane (own ∷ others)

alone_logs : (v : View) → (v.reserving).joined ≡ [] → logs_of_pass v ≡ numbered_log v ∷ []
alone_logs v alone = ap (λ (js : List Joined). numbered_log v ∷ map numbered_joined js) alone

in_front : (P : MapLane → Type 0) (others : List MapLane) (own : MapLane)
    → All P (others ++ own ∷ []) → All P others × P own
in_front P others own all = (
  λ k d within. subst P (get_or_append_left others (own ∷ []) d k within)
      (all k d (omega (arith, within, length-append others (own ∷ [])))),
  subst P (get_or_at others own [] own (length others) refl)
      (all (length others) own (omega (arith, length-append others (own ∷ [])))),
)

pub joining : {D : Type 0} → (wal : Wal D) (lanes others : List MapLane) (own : MapLane)
    (pass : Pass) → ShareLog wal lanes → lanes ≡ others ++ own ∷ [] → pass ≡ own.part.pass
    → IsJoining wal lanes pass others
joining wal lanes others own pass s are is =
    let same = same_fronts s.others others s.own own (sym s.are ∙ are) in
    let passes = (setup_of_log wal).passes in
    let mine = in_front (λ (l : MapLane). IsPartOfLog wal l.part) others own
    (subst (AreLanesOf wal) are s.parts) in
    let alone : ((view_in_lane own).reserving).joined ≡ [] =
    subst (λ (l : MapLane). ((view_in_lane l).reserving).joined ≡ []) same.1 s.alone in
    subst (λ (p : Pass). IsJoining wal lanes p others) (sym is) (record {
      of_log = mine.1;
      parts = mine.0;
      only = subst (All (λ (l : MapLane). IsOnlyItself (view_in_lane l))) same.0 s.only;
      numbers = subst (λ (l : MapLane). ShareNumbers passes (view_in_lane l)
          (map view_in_lane others)) same.1
          (subst (λ (ls : List MapLane). ShareNumbers passes (view_in_lane s.own)
          (map view_in_lane ls)) same.0 s.numbers);
      others = others;
      own = own;
      are = are;
      logs = ap (λ (ls : List NumberedLog). ls ++ map log_in_lane others)
          (alone_logs (view_in_lane own) alone);
    })

pub next_lane : {D : Type 0} → (wal : Wal D) (lanes : List MapLane) (pass other : Pass)
    (lane : MapLane) (all rest : List MapLane) → IsJoining wal lanes pass all
    → all ≡ lane ∷ rest → other ≡ lane.part.pass → IsPassOfLog wal other
next_lane wal lanes pass other lane all rest joins are is =
    subst (IsPassOfLog wal) (sym is) (All-head (λ (l : MapLane). IsPartOfLog wal l.part) lane rest
    (subst (AreLanesOf wal) are joins.parts))

abbrev NumbersJoin : Type 0
NumbersJoin = (passes : ℕ) (v w : View) (others : List View) → (w.reserving).spare_end ≡ 0
    → ShareNumbers passes v (w ∷ others) → ShareNumbers passes (after_join v w) others

pub one_joined : NumbersJoin
    → ((v w : View) → logs_of_pass (after_join v w) ≡ logs_of_pass v ++ logs_of_pass w)
    → {D : Type 0} → (wal : Wal D) (lanes : List MapLane) (old new : Pass) (lane : MapLane)
    (all rest : List MapLane) → IsJoining wal lanes old all → all ≡ lane ∷ rest
    → IsPassOfLog wal new
    → view_of_pass new ≡ after_join (view_of_pass old) (view_in_lane lane)
    → IsJoining wal lanes new rest
one_joined join both wal lanes old new lane all rest joins are pass is =
    let j = subst (IsJoining wal lanes old) are joins in
    let passes = (setup_of_log wal).passes in
    let v = view_of_pass old in
    let only = All-head (λ (l : MapLane). IsOnlyItself (view_in_lane l)) lane rest j.only in
    record {
      of_log = pass;
      parts = All-tail (λ (l : MapLane). IsPartOfLog wal l.part) lane rest j.parts;
      only = All-tail (λ (l : MapLane). IsOnlyItself (view_in_lane l)) lane rest j.only;
      numbers = subst (λ (x : View). ShareNumbers passes x (map view_in_lane rest)) (sym is)
          (join passes v (view_in_lane lane) (map view_in_lane rest) only.no_spares j.numbers);
      others = j.others;
      own = j.own;
      are = j.are;
      logs = ap (λ (x : View). logs_of_pass x ++ map log_in_lane rest) is
          ∙ ap (λ (ls : List NumberedLog). ls ++ map log_in_lane rest)
          (both v (view_in_lane lane)
          ∙ ap (λ (ls : List NumberedLog). logs_of_pass v ++ ls)
          (alone_logs (view_in_lane lane) only.alone))
          ∙ append_assoc (logs_of_pass v) (log_in_lane lane ∷ []) (map log_in_lane rest)
          ∙ j.logs;
    }

pub all_joined : {D : Type 0} → (wal : Wal D) (lanes : List MapLane) (pass : Pass)
    (rest : List MapLane) → IsJoining wal lanes pass rest → rest ≡ []
    → ShareNumbers (setup_of_log wal).passes (view_of_pass pass) [] × HasLogsOf lanes pass
all_joined wal lanes pass rest joins none =
    let j = subst (IsJoining wal lanes pass) none joins in (
      j.numbers,
      record {
        others = j.others;
        own = j.own;
        are = j.are;
        logs = sym (append-nil (logs_of_pass (view_of_pass pass))) ∙ j.logs;
      },
    )
