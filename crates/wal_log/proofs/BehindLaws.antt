-- What a pass finds that flushes behind: its target is reserved, and what it tells follows.
use Rattle.std.specs.Prelude.{Result, Ok, Err}
use Rattle.std.proofs.Common.{◌≡◌, ◌⊎◌, inl, inr, ℕ, ◌-◌, ◌%◌, ◌<◌, ◌≤◌, All, map, max, refl, sym, ap, ◌∙◌, subst, arith}
use mathlib.Core.Option.{none}
use Rattle.atomic_table.proofs.Lists.{at_map}
use Rattle.byte_position.specs.Geometry.{IsSegmentSize}
use Rattle.byte_position.specs.Position.{position_of}
use Rattle.byte_position.proofs.EndAddresses.{end_address_of-mono}
use Rattle.wal_types.specs.declared.answers.Hard.{Hard}
use Rattle.machine_laws.proofs.OrderSteps.{unlocked-is}
use Rattle.machine_state.specs.Moves.{unlocked, with_async}
use Rattle.machine_state.specs.Steps.{IsResting, load_async, load_down, load_flushed, view_behind}
use Rattle.machine_state.specs.Views.{FlushPromise, View, async_met_of, reserving_of, writing_of}
use Rattle.machine_state.specs.Words.{Opening, end_form, position_word, prev_word, order_end}
use Rattle.wal_rule.specs.declared.seated.SeatedPass.{SeatedPass}
use Rattle.wal_rule.specs.Downs.{KnowsDown}
use Rattle.wal_rule.specs.SeatedPasses.{StandsAtRest, StaysSeated, Steps, view_of}
use Rattle.wal_rule.specs.Stepping.{Meets, Stands}
use Rattle.insert_locks.specs.Watching.{SeesPosition, with_sight}
use Rattle.wal_log.specs.declared.behind.Aim.{Aim}
use Rattle.wal_log.specs.declared.flushing.FlushErr.{FlushErr}
use Rattle.wal_log.specs.declared.flushing.FlushErr.TheVariants.{Unreserved, Disk, Down}
use Rattle.wal_log.specs.declared.flushing.TryFlushErr.{TryFlushErr}
use Rattle.wal_log.specs.declared.flushing.TryFlushErr.TheVariants as tries
use Rattle.wal_log.specs.Behind.{FindsNothing, FlushesBehind, HasTarget, RefusesBehind, SeesTarget, TellsBehindTry, page_of_end, page_start}
use Rattle.wal_log.specs.Downs.{KnowsNoFault}
use Rattle.wal_log.specs.Flushing.{HasReached, IsUnreserved, TellsFlushErr, TellsFlushTry, view_met_up}
use Rattle.wal_log.specs.PassLogs.{log_of_pass}
use Rattle.wal_log.specs.Standing.{ComesToRest, KeepsPass}
use Rattle.wal_log.proofs.FlushLaws.{fails_behind, told_behind}
use Rattle.wal_log.proofs.BeginLaws.{loaded_rests}
use Rattle.wal_log.proofs.Keeping.{down_met_keeps, further_pass, meets_since}
use Rattle.wal_log.proofs.Plain.{flushed_loaded}
use Rattle.wal_log.proofs.Seated.{hand_is, view_is}

-- ---- the async address that a pass met is reserved wherever it meets the position

pub async_is_reserved : (v : View) (seen : ℕ) → SeesPosition v seen
    → v.async_met ≤ end_form (v.opening).setup seen
async_is_reserved v seen sees =
    let s : Stands v = (sees.met).before in
    let sound = s.sound in
    let size : ℕ = ((v.opening).setup).seg_size in
    let is : seen ≡ order_end v.opening sound.order =
    sees.seen_is ∙ ap unlocked (sees.met).met_is
    ∙ unlocked-is v.opening sound.order (position_word s.words)
    (prev_word s.words) (map reserving_of s.views) sound.reserved (sound.setup_is).size in
    let low = ((sound.async).met s.id v.async_met
    (at_map async_met_of s.views s.id v s.here)).0 in
    let reserved = (sound.async).reserved in
    subst (λ (n : ℕ). v.async_met ≤ end_form (v.opening).setup n) (sym is)
    (omega (arith, low, reserved))

-- so is the flushed address that it loaded
pub flushed_is_reserved : (v : View) (seen : ℕ) → SeesPosition v seen
    → v.writing.flushed ≤ end_form (v.opening).setup seen
flushed_is_reserved v seen sees =
    let s : Stands v = (sees.met).before in
    let sound = s.sound in
    let size : ℕ = ((v.opening).setup).seg_size in
    let is : seen ≡ order_end v.opening sound.order =
    sees.seen_is ∙ ap unlocked (sees.met).met_is
    ∙ unlocked-is v.opening sound.order (position_word s.words)
    (prev_word s.words) (map reserving_of s.views) sound.reserved (sound.setup_is).size in
    let positions = sound.positions in
    let low = (positions.views s.id v.writing
    (at_map writing_of s.views s.id v s.here)).flushed_met in
    subst (λ (n : ℕ). v.writing.flushed ≤ end_form (v.opening).setup n) (sym is)
    (omega (arith, low, positions.flushed_low, positions.written_low, positions.reserved))

-- ---- the target

-- the end's page, as the code computes it
pub page_from_end : (end n : ℕ) → end ≡ n → end - end % 8192 ≡ page_start n
page_from_end end n is = (let same : end - end % 8192 ≡ page_start end = omega arith in
    same ∙ ap page_start is)

-- a view that has loaded the flushed address, the async address and the position
abbrev pub sighted : (flushed async seen : ℕ) → View → View
sighted flushed async seen v = record v {
  async_met = async;
  reserving = record v.reserving { seen = seen };
  writing = record v.writing { flushed = flushed };
}

module _ (flushed async seen : ℕ) (old first next new : View)
    (by_flushed : first ≡ view_behind old load_flushed flushed none)
    (by_async : next ≡ view_behind first load_async async none)
    (by_sight : new ≡ with_sight seen next)
    (met : Meets old load_flushed flushed) (async_met : Meets first load_async async)
    (higher : first.async_met ≤ async)
    (furthest : All (λ (p : FlushPromise). p.upto ≤ flushed) old.writing.promises)
    (rises : (next.reserving).seen ≤ seen) (sees : SeesPosition next seen)
    (begun : ((old.opening).setup).seg_size ≤ end_form (old.opening).setup seen) where
  first_is : first ≡ record old {
    reserving = record old.reserving {
      seen = max (old.reserving).seen (position_of ((old.opening).setup).seg_size flushed);
    };
    writing = record old.writing { flushed = flushed };
  }
  first_is = by_flushed ∙ flushed_loaded flushed old

  same_async_met : first.async_met ≡ old.async_met
  same_async_met = ap (λ (v : View). v.async_met) first_is

  new_is : new ≡ sighted flushed async seen old
  new_is =
      let is : max old.async_met async ≡ async = omega (arith, same_async_met, higher) in
      by_sight ∙ ap (with_sight seen) by_async
      ∙ ap (λ (v : View). with_sight seen (with_async async v)) first_is
      ∙ ap (λ (n : ℕ). sighted flushed n seen old) is

  next_seen : (next.reserving).seen ≡ (first.reserving).seen
  next_seen = ap (λ (v : View). (v.reserving).seen) by_async

  risen : (old.reserving).seen ≤ seen
  risen =
      let first_seen = ap (λ (v : View). (v.reserving).seen) first_is in
      omega (arith, next_seen, first_seen, rises)

  async_low : async ≤ end_form (old.opening).setup seen
  async_low =
      let low = async_is_reserved next seen sees in
      let same : next.async_met ≡ max first.async_met async =
      ap (λ (v : View). v.async_met) by_async in
      let opening : next.opening ≡ old.opening =
      ap (λ (v : View). v.opening) by_async ∙ ap (λ (v : View). v.opening) first_is in
      subst (λ (o : Opening). async ≤ end_form o.setup seen) opening
      (omega (arith, low, same))

  flushed_reserved : flushed ≤ end_form (old.opening).setup seen
  flushed_reserved =
      let low = flushed_is_reserved next seen sees in
      let same : next.writing.flushed ≡ flushed =
      ap (λ (v : View). v.writing.flushed) by_async
      ∙ ap (λ (v : View). v.writing.flushed) first_is in
      let opening : next.opening ≡ old.opening =
      ap (λ (v : View). v.opening) by_async ∙ ap (λ (v : View). v.opening) first_is in
      subst (λ (o : Opening). flushed ≤ end_form o.setup seen) opening
      (omega (arith, low, same))

  sees_target : (target : ℕ)
      → ((flushed < page_of_end old seen) × (target ≡ page_of_end old seen))
      ⊎ ((page_of_end old seen ≤ flushed) × (target ≡ async))
      → target ≤ end_form (old.opening).setup seen → SeesTarget flushed target old new
  sees_target target which reserved = subst (λ (v : View). SeesTarget flushed target old v)
      (sym new_is) (record {
        met = met;
        async = subst (λ (v : View). Meets v load_async async) by_flushed async_met;
        position = subst (λ (v : View). SeesPosition v seen)
            (by_async ∙ ap (λ (v : View). view_behind v load_async async none) by_flushed) sees;
        rises = risen;
        furthest = furthest;
        flushed_low = flushed_reserved;
        begun = begun;
        new_is = (let is : async ≡ max old.async_met async =
            omega (arith, same_async_met, higher) in
            ap (λ (n : ℕ). sighted flushed n seen old) is);
        target_is = which;
        reserved = reserved;
      })

  -- where the page begins is the target, else the async address
  pub sees_by_page : (page : ℕ) → page ≡ page_of_end old seen
      → (flushed < page → SeesTarget flushed page old new)
      × (page ≤ flushed → SeesTarget flushed async old new)
  sees_by_page page is = (
    λ below. (let low : page_of_end old seen ≤ end_form (old.opening).setup seen = omega arith in
        sees_target page (inl (omega (arith, is, below), is)) (omega (arith, is, low))),
    λ above. sees_target async (inr (omega (arith, is, above), refl)) async_low,
  )

-- ---- what is left of a pass

module _ (flushed target : ℕ) (old new : View) (sees : SeesTarget flushed target old new) where
  pub sight_pass : KeepsPass old new
  sight_pass = subst (λ (v : View). KeepsPass old v) (sym sees.new_is) (record {
    opening = refl;
    live = refl;
    number = refl;
    spare = refl;
    spare_end = refl;
    joined = refl;
    counts = omega arith;
    rises = sees.rises;
    down = λ faults knows. knows;
  })

  pub sight_rested : IsResting old → IsResting new
  sight_rested rests = subst IsResting (sym sees.new_is) (record {
    place = rests.place;
    locks = rests.locks;
    flight = rests.flight;
    stage = rests.stage;
    hold = rests.hold;
  })

  pub sight_up : KnowsNoFault old → KnowsNoFault new
  sight_up up = record {
    met = ap (λ (v : View). v.writing.down_met) sees.new_is ∙ up.met;
    set = ap (λ (v : View). v.writing.down_set) sees.new_is ∙ up.set;
  }

-- ---- what is answered

-- the down value was loaded, which was 0, and then what was to be flushed was found
module _ (old down sight : View) (faults flushed target : ℕ)
    (by_down : down ≡ view_behind old load_down faults none) (met : Meets old load_down faults)
    (zero : faults ≡ 0) (sees : SeesTarget flushed target down sight) where
  looked_up : Meets old load_down 0
  looked_up = subst (λ (n : ℕ). Meets old load_down n) zero met

  sees_up : SeesTarget flushed target (view_met_up old) sight
  sees_up = subst (λ (v : View). SeesTarget flushed target v sight)
      (by_down ∙ ap (λ (n : ℕ). view_behind old load_down n none) zero) sees

  same_opening : down.opening ≡ old.opening
  same_opening = ap (λ (v : View). v.opening) by_down

  same_page : (seen : ℕ) → page_of_end down seen ≡ page_of_end old seen
  same_page seen =
      ap (λ (o : Opening). page_start (end_form o.setup seen)) same_opening

  pub same_log : log_of_pass sight ≡ log_of_pass old
  same_log = ap (λ (v : View). log_of_pass v) sees.new_is
      ∙ ap (λ (v : View). log_of_pass v) by_down

  same_down_set : sight.writing.down_set ≡ old.writing.down_set
  same_down_set = ap (λ (v : View). v.writing.down_set) sees.new_is
      ∙ ap (λ (v : View). v.writing.down_set) by_down

  abbrev Which : Type 0
  Which = ((flushed < page_of_end down (sight.reserving).seen)
      × (target ≡ page_of_end down (sight.reserving).seen))
      ⊎ ((page_of_end down (sight.reserving).seen ≤ flushed) × (target ≡ sight.async_met))

  -- the target is not above the flushed address
  both_low : Which → target ≤ flushed → (target ≡ sight.async_met)
      × (page_of_end down (sight.reserving).seen ≤ flushed)
  both_low (inl (below, is)) low = absurd (omega (arith, below, is, low))
  both_low (inr (above, is)) low = (is, above)

  pub finds_nothing : target ≤ flushed → KnowsNoFault sight → FindsNothing flushed old sight
  finds_nothing low up =
      let both = both_low sees.target_is low in
      let is : target ≡ sight.async_met = both.0 in
      let same = same_page (sight.reserving).seen in record {
        looked = looked_up;
        sees = subst (λ (n : ℕ). SeesTarget flushed n (view_met_up old) sight) is sees_up;
        page = omega (arith, same, both.1);
        async = omega (arith, is, low);
        log_is = same_log;
        up = up;
      }

  -- the target is above the flushed address
  pub has_target : flushed < target → HasTarget target old sight
  has_target high = record {
    found = record {
      looked = looked_up;
      flushed = flushed;
      sight = sight;
      sees = sees_up;
      above = high;
    };
    reserved = subst (λ (o : Opening). target ≤ end_form o.setup (sight.reserving).seen)
        same_opening sees.reserved;
    log_is = same_log;
    set_none = same_down_set;
  }

-- a flush of the target that was found, or one try of it
module _ (target : ℕ) (old sight new : View) (has : HasTarget target old sight)
    (keeps : KeepsPass old sight) where
  pub flushes_behind : (hard : Hard) → HasReached target hard sight new
      → FlushesBehind hard old new
  flushes_behind hard told = record {
    target = target;
    found = has.found;
    told = (
      told_behind target hard.upto.0 hard.moment old sight new has.log_is keeps target
          (told.0).reached told.0,
      told.1,
    );
  }

  module _ (size : IsSegmentSize ((old.opening).setup).seg_size) where
    -- it is not told that it is not reserved
    is_reserved : (end : ℕ) → IsUnreserved target end sight new → ⊥
    is_reserved end un =
        let end_is : end ≡ end_form (old.opening).setup (new.reserving).seen =
        un.end_is ∙ ap (λ (o : Opening). end_form o.setup (new.reserving).seen) keeps.opening in
        let higher = end_address_of-mono ((old.opening).setup).seg_size size
        (sight.reserving).seen (new.reserving).seen un.rises in
        let reserved = has.reserved in
        let above = un.above in
        omega (arith, reserved, end_is, higher, above)

    pub refuses_behind : (e : FlushErr) → TellsFlushErr target sight new e
        → RefusesBehind old new e
    refuses_behind (Disk n) told =
        (target, has.found, fails_behind target old sight new keeps n told)
    refuses_behind (Down n) told = meets_since old sight new n has.set_none told
    refuses_behind (Unreserved end) told = is_reserved end.0 told

    pub tells_behind_try : (e : TryFlushErr) → TellsFlushTry target sight new e
        → TellsBehindTry old new e
    tells_behind_try (tries.Disk n) told =
        (target, has.found, fails_behind target old sight new keeps n told)
    tells_behind_try (tries.Down n) told = meets_since old sight new n has.set_none told
    tells_behind_try (tries.Unreserved end) told = is_reserved end.0 told
    tells_behind_try (tries.Behind lock word) told = (target, has.found, told)
    tells_behind_try (tries.Turn word) told = (target, has.found, told)

-- what there is to flush was found, or the disk had failed
abbrev pub no_aim : ℕ → Result Aim ℕ
no_aim faults = Err faults

pub not_aimed : (aim : Aim) (faults : ℕ) → Ok aim ≡ no_aim faults → ⊥
not_aimed aim faults is = absurd (cc)

pub same_faults : (told faults : ℕ) → no_aim told ≡ no_aim faults → told ≡ faults
same_faults told faults is = cc

-- a known fault was met, so none of 0 was
pub not_known : (v : View) (met faults : ℕ) → KnowsDown faults v → met ≡ faults → met ≡ 0 → ⊥
not_known v met faults knows is zero = knows.0 (sym is ∙ zero)

-- ---- at a pass's table

module _ {D : Type 0} (old down sight : SeatedPass D) (faults flushed target : ℕ)
    (steps : Steps load_down faults old down)
    (known : (n : ℕ) → KnowsDown n (view_of old) → faults ≡ n) (rests : StandsAtRest old) where
  pub down_rests : ComesToRest old down
  down_rests = record {
    same_table = steps.same_table;
    keeps = (down_met_keeps (view_of old) faults (view_of down) (view_is steps) known).pass;
    rests = record {
      rests = loaded_rests (view_of old) (view_of down) faults (view_is steps) known rests.rests;
      empty = hand_is steps ∙ rests.empty;
    };
  }

  module _ (sees : SeesTarget flushed target (view_of down) (view_of sight))
      (stays : StaysSeated down sight) where
    pub sight_rests : ComesToRest old sight
    sight_rests =
        let before = (down_rests.rests).rests in record {
          same_table = stays.same_table ∙ steps.same_table;
          keeps = further_pass (view_of old) (view_of down) (view_of sight) down_rests.keeps
              (sight_pass flushed target (view_of down) (view_of sight) sees);
          rests = record {
            rests = sight_rested flushed target (view_of down) (view_of sight) sees before;
            empty = stays.same_hand ∙ (down_rests.rests).empty;
          };
        }
