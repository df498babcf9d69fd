use Rattle.std.proofs.Common.{◌≡◌, ℕ, ◌+◌, ◌-◌, ◌*◌, ◌/◌, ap, ◌∙◌, subst}
use Rattle.std.proofs.lemmas.Result.{err_from_is_err_and}
use Rattle.machine_state.specs.declared.setup.Setup.{Setup}
use Rattle.machine_state.specs.Views.{Away}
use Rattle.wal_rule.specs.SeatedPasses.{setup_of, view_of}
use Rattle.wal_log.specs.Downs.{KnowsNoFault}
use Rattle.wal_log.specs.Room.{MeetsUnmapped, end_in_the_way, page_ahead}
use Rattle.wal_log.proofs.AddingNothing.{adds_on}
use Rattle.wal_log.proofs.PageLaws.{further_maps}
use Rattle.wal_log.proofs.RoomLaws.{HasRoomMade, comes_to_rest, fault_since, made_on, none_made, pages_made, rests_without_turn, was_held_up, was_written}
use Rattle.wal_log.proofs.room.make_room.Given.{Over}
use Rattle.wal_log.proofs.room.make_room.Goals as goal
use Rattle.wal_log.proofs.room.make_room.Goals.{After-is_seen_to, After-map_ahead, After-write_ahead}

-- ---- the page's end was looked at

looked : (g : Over) (c : After-is_seen_to g) → HasRoomMade c.args.seated.now c.is_seen_to.new.seated
looked g c =
    pages_made c.args.seated.now c.args.seated.now c.is_seen_to.new.seated
    (none_made c.args.seated.now (rests_without_turn c.args.seated.now c.requires.rests)
    c.requires.up) c.is_seen_to.ensures.maps

pub returns-then-is_seen_to-clause-ends : goal.returns-then-is_seen_to-clause-ends
returns-then-is_seen_to-clause-ends g c =
    (looked g (goal.at.returns-then-is_seen_to-clause-ends g c).After-is_seen_to).up

pub returns-then-is_seen_to-clause-log : goal.returns-then-is_seen_to-clause-log
returns-then-is_seen_to-clause-log g c =
    ((looked g (goal.at.returns-then-is_seen_to-clause-log g c).After-is_seen_to).adds).log

pub returns-then-is_seen_to-clause-rests : goal.returns-then-is_seen_to-clause-rests
returns-then-is_seen_to-clause-rests g c =
    let so_far = looked g (goal.at.returns-then-is_seen_to-clause-rests g c).After-is_seen_to in
    comes_to_rest c.args.seated.now c.is_seen_to.new.seated c.requires.rests so_far.adds so_far.rests

pub write_ahead-requires-clause-rests : goal.write_ahead-requires-clause-rests
write_ahead-requires-clause-rests g c =
    (looked g (goal.at.write_ahead-requires-clause-rests g c).After-is_seen_to).rests

pub write_ahead-requires-clause-up : goal.write_ahead-requires-clause-up
write_ahead-requires-clause-up g c =
    (looked g (goal.at.write_ahead-requires-clause-up g c).After-is_seen_to).up

-- ---- the disk failed

pub returns-in_err-write_ahead-clause-ends : goal.returns-in_err-write_ahead-clause-ends
returns-in_err-write_ahead-clause-ends g c =
    let p = err_from_is_err_and c.from_residual.result c.from_residual.ensures.1 in
    let so_far = looked g (goal.at.returns-in_err-write_ahead-clause-ends g c).After-is_seen_to in
    rw (p.1, p.2)
    (fault_since (view_of c.args.seated.now) (view_of c.is_seen_to.new.seated)
    (view_of c.write_ahead.new.seated) c.requires.up so_far.up c.in_err-write_ahead.field-0.0
    c.in_err-write_ahead.ensures.ends)

pub returns-in_err-write_ahead-clause-log : goal.returns-in_err-write_ahead-clause-log
returns-in_err-write_ahead-clause-log g c =
    let so_far = looked g (goal.at.returns-in_err-write_ahead-clause-log g c).After-is_seen_to in
    (c.write_ahead.ensures.adds_nothing).log ∙ (so_far.adds).log

pub returns-in_err-write_ahead-clause-rests : goal.returns-in_err-write_ahead-clause-rests
returns-in_err-write_ahead-clause-rests g c =
    let so_far = looked g (goal.at.returns-in_err-write_ahead-clause-rests g c).After-is_seen_to in
    comes_to_rest c.args.seated.now c.write_ahead.new.seated c.requires.rests
    (adds_on c.args.seated.now c.is_seen_to.new.seated c.write_ahead.new.seated so_far.adds
    c.write_ahead.ensures.adds_nothing) c.write_ahead.ensures.rests

-- ---- somebody or a copy was in the way

module _ (g : Over) (c : After-write_ahead g) where
  pages_is : c.from-pages.result ≡ (setup_of c.args.seated.now).ring_pages
  pages_is = c.from-pages.ensures ∙ c.ring_pages.ensures.pages
      ∙ ap (λ (s : Setup). s.ring_pages) c.shape.ensures

  upto_is : c.saturating_sub.result * 8192 ≡ end_in_the_way (setup_of c.args.seated.now)
      (page_ahead (setup_of c.args.seated.now) c.args.page)
  upto_is = ap (λ (n : ℕ). n * 8192) (c.saturating_sub.ensures
      ∙ ap (λ (n : ℕ). c.args.page + n / 2 + 1 - n) pages_is)

  unmapped : MeetsUnmapped (setup_of c.args.seated.now) (c.args.page + c.from-pages.result / 2)
      (view_of c.args.seated.now) → MeetsUnmapped (setup_of c.args.seated.now)
      (page_ahead (setup_of c.args.seated.now) c.args.page) (view_of c.args.seated.now)
  unmapped met = subst (λ (n : ℕ). MeetsUnmapped (setup_of c.args.seated.now) (c.args.page + n / 2)
      (view_of c.args.seated.now)) pages_is met

pub returns-else-branch-clause-makes : goal.returns-else-branch-clause-makes
returns-else-branch-clause-makes g c =
    let path = goal.at.returns-else-branch-clause-makes g c in
    was_held_up g.D.Disk.tape g.D.Disk.moment g.D.Disk.faults
    (page_ahead (setup_of c.args.seated.now) c.args.page) (c.saturating_sub.result * 8192)
    c.args.seated.now c.is_seen_to.new.seated c.write_ahead.new.seated
    (unmapped g path.After-write_ahead c.if-is_seen_to.ensures.tells.0)
    c.in_ok-write_ahead.field-0 c.in_ok-write_ahead.ensures.tells c.if-branch.false
    (upto_is g path.After-write_ahead)

pub returns-else-branch-clause-rests : goal.returns-else-branch-clause-rests
returns-else-branch-clause-rests g c =
    let so_far = looked g (goal.at.returns-else-branch-clause-rests g c).After-is_seen_to in
    comes_to_rest c.args.seated.now c.write_ahead.new.seated c.requires.rests
    (adds_on c.args.seated.now c.is_seen_to.new.seated c.write_ahead.new.seated so_far.adds
    c.write_ahead.ensures.adds_nothing) c.write_ahead.ensures.rests

-- ---- pages were mapped

module _ (g : Over) (c : After-write_ahead g)
    (so_far : HasRoomMade c.args.seated.now c.is_seen_to.new.seated)
    (up : KnowsNoFault (view_of c.write_ahead.new.seated)) where
  written : HasRoomMade c.args.seated.now c.write_ahead.new.seated
  written = made_on c.args.seated.now c.is_seen_to.new.seated c.write_ahead.new.seated so_far
      c.write_ahead.ensures.adds_nothing c.write_ahead.ensures.rests up

  still_away : (view_of c.write_ahead.new.seated).mapping.stage ≡ Away
  still_away = (((written.adds).works).work).stage ∙ (c.requires.rests.rests).stage

pub map_ahead-requires : goal.map_ahead-requires
map_ahead-requires g c =
    let path = goal.at.map_ahead-requires g c in record {
      away = still_away g path.After-write_ahead (looked g path.After-is_seen_to)
          c.in_ok-write_ahead.ensures.ends;
    }

module _ (g : Over) (c : After-map_ahead g)
    (before : HasRoomMade c.args.seated.now c.write_ahead.new.seated) where
  mapped : HasRoomMade c.args.seated.now c.map_ahead.new.seated
  mapped = pages_made c.args.seated.now c.write_ahead.new.seated c.map_ahead.new.seated before
      (further_maps c.write_ahead.new.seated c.map_ahead.new.seated c.map_ahead.ensures.stays
      c.map_ahead.ensures.maps)

pub returns-then-branch-clause-ends : goal.returns-then-branch-clause-ends
returns-then-branch-clause-ends g c =
    let path = goal.at.returns-then-branch-clause-ends g c in
    (mapped g path.After-map_ahead (written g path.After-write_ahead
    (looked g path.After-is_seen_to) c.in_ok-write_ahead.ensures.ends)).up

pub returns-then-branch-clause-log : goal.returns-then-branch-clause-log
returns-then-branch-clause-log g c =
    let path = goal.at.returns-then-branch-clause-log g c in
    ((mapped g path.After-map_ahead (written g path.After-write_ahead
    (looked g path.After-is_seen_to) c.in_ok-write_ahead.ensures.ends)).adds).log

pub returns-then-branch-clause-rests : goal.returns-then-branch-clause-rests
returns-then-branch-clause-rests g c =
    let path = goal.at.returns-then-branch-clause-rests g c in
    let made = mapped g path.After-map_ahead (written g path.After-write_ahead
    (looked g path.After-is_seen_to) c.in_ok-write_ahead.ensures.ends) in
    comes_to_rest c.args.seated.now c.map_ahead.new.seated c.requires.rests made.adds made.rests

pub returns-then-branch-clause-makes : goal.returns-then-branch-clause-makes
returns-then-branch-clause-makes g c =
    let path = goal.at.returns-then-branch-clause-makes g c in
    was_written g.D.Disk.tape g.D.Disk.moment g.D.Disk.faults
    (page_ahead (setup_of c.args.seated.now) c.args.page) (c.saturating_sub.result * 8192)
    c.args.seated.now c.is_seen_to.new.seated c.write_ahead.new.seated
    (unmapped g path.After-write_ahead c.if-is_seen_to.ensures.tells.0)
    c.in_ok-write_ahead.field-0 c.in_ok-write_ahead.ensures.tells c.if-branch.true
    (upto_is g path.After-write_ahead) (looked g path.After-is_seen_to).adds
    c.map_ahead.new.seated
    (further_maps c.write_ahead.new.seated c.map_ahead.new.seated c.map_ahead.ensures.stays
    c.map_ahead.ensures.maps) c.map_ahead.ensures.ahead

-- ---- it meets no async address

pub returns-then-is_seen_to-clause-async_met : goal.returns-then-is_seen_to-clause-async_met
returns-then-is_seen_to-clause-async_met g c =
    let so_far = looked g (goal.at.returns-then-is_seen_to-clause-async_met g c).After-is_seen_to in
    so_far.adds.works.work.async

pub returns-in_err-write_ahead-clause-async_met : goal.returns-in_err-write_ahead-clause-async_met
returns-in_err-write_ahead-clause-async_met g c =
    let so_far = looked g (goal.at.returns-in_err-write_ahead-clause-async_met g c).After-is_seen_to in
    c.write_ahead.ensures.adds_nothing.works.work.async ∙ so_far.adds.works.work.async

pub returns-else-branch-clause-async_met : goal.returns-else-branch-clause-async_met
returns-else-branch-clause-async_met g c =
    let so_far = looked g (goal.at.returns-else-branch-clause-async_met g c).After-is_seen_to in
    c.write_ahead.ensures.adds_nothing.works.work.async ∙ so_far.adds.works.work.async

pub returns-then-branch-clause-async_met : goal.returns-then-branch-clause-async_met
returns-then-branch-clause-async_met g c =
    let path = goal.at.returns-then-branch-clause-async_met g c in
    (mapped g path.After-map_ahead (written g path.After-write_ahead
    (looked g path.After-is_seen_to) c.in_ok-write_ahead.ensures.ends)).adds.works.work.async
