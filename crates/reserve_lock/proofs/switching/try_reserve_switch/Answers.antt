use Rattle.std.proofs.Common.{◌≢◌, ◌%◌, ◌-◌, ◌<◌, ℕ, sym, ap, ◌∙◌, subst, arith}
use Rattle.byte_position.specs.Geometry.{IsSegmentSize}
use Rattle.byte_position.specs.Position.{end_address_of}
use Rattle.wal_page.specs.Order.{assembled_room_at}
use Rattle.machine_state.specs.declared.setup.Setup.{Setup}
use Rattle.machine_state.specs.Words.{end_form, log_limit}
use Rattle.wal_rule.specs.SeatedPasses.{setup_of, view_of}
use Rattle.reserve_lock.specs.Reserved.{IsPositionLocked, IsSwitchReserved, every_lock}
use Rattle.reserve_lock.proofs.Records.{switch_ends, switch_known, switch_size}
use Rattle.reserve_lock.proofs.Since.{holds_since, locked_here, switch_since}
use Rattle.reserve_lock.proofs.Steps.{same_setup}
use Rattle.reserve_lock.proofs.SwitchRoom.{few_left, has_every_lock, some_left}
use Rattle.reserve_lock.proofs.switching.try_reserve_switch.Given.{Over}
use Rattle.reserve_lock.proofs.switching.try_reserve_switch.Goals as goal
use Rattle.reserve_lock.proofs.switching.try_reserve_switch.Goals.{After-room_at-room}

pub reserve_locked-requires-clause-known : goal.reserve_locked-requires-clause-known
reserve_locked-requires-clause-known g c = switch_known c.args.body.now c.requires.switch

pub reserve_locked-requires-clause-holds : goal.reserve_locked-requires-clause-holds
reserve_locked-requires-clause-holds g c =
    holds_since (setup_of c.args.seated.now) c.in-Ok.locked.at (view_of c.args.seated.now)
    (view_of c.lock_seen.new.seated) c.in-Ok.ensures.locked every_lock c.requires.holds
    c.args.body.now (omega arith) (λ switches. has_every_lock)

-- the log does not stand at a segment's start
not_at_start : (g : Over) (c : After-room_at-room g)
    → end_form (setup_of c.args.seated.now) c.in-Ok.locked.at
    % (setup_of c.args.seated.now).seg_size ≢ 0
not_at_start g c = λ starts.
    let setup = setup_of c.args.seated.now in
    let at = c.in-Ok.locked.at in
    let geometry = c.geometry-geometry.ensures
    ∙ ap (λ (s : Setup). s.seg_size) c.shape.ensures in
    let end = c.to_end_lsn-end.ensures ∙ ap (λ (n : ℕ). end_address_of n at) geometry in
    let size = c.segment_size.ensures.value ∙ geometry in
    c.if-end-segment_size-eq0.false (ap (λ (n : ℕ). n % c.segment_size.result) end
    ∙ ap (λ (n : ℕ). end_form setup at % n) size ∙ starts)

pub returns-in-Ok-reserve_locked-clause-answers : goal.returns-in-Ok-reserve_locked-clause-answers
returns-in-Ok-reserve_locked-clause-answers g c =
    let setup = setup_of c.args.seated.now in
    let own = setup_of c.lock_seen.new.seated in
    let old = view_of c.args.seated.now in
    let mid = view_of c.lock_seen.new.seated in
    let new = view_of c.reserve_locked.new.seated in
    let at = c.in-Ok.locked.at in
    let r = c.in-Ok-reserve_locked.reserved in
    let given = c.in-Ok-reserve_locked.ensures.reserved in
    let same = same_setup c.args.seated.now c.lock_seen.new.seated
    c.in-Ok.ensures.stays.same_table in
    let locked = subst (λ (s : Setup). IsPositionLocked s at old mid) (sym same)
    c.in-Ok.ensures.locked in
    let inside = not_at_start g
    (goal.at.returns-in-Ok-reserve_locked-clause-answers g c).After-room_at-room in (
      subst (λ (s : Setup). IsSwitchReserved s c.args.body.now old new r.start.0 r.placed) same
          (switch_since own at old mid locked c.args.body.now new r.start.0 r.placed given.0
          given.1 c.requires.holds (switch_ends c.args.body.now c.requires.switch)
          (subst (λ (s : Setup). end_form s at % s.seg_size ≢ 0) (sym same) inside)),
      c.in-Ok-reserve_locked.ensures.end,
    )

pub returns-in-Err-reserve_locked-clause-no_room : goal.returns-in-Err-reserve_locked-clause-no_room
returns-in-Err-reserve_locked-clause-no_room g c =
    let setup = setup_of c.args.seated.now in
    let at = c.in-Ok.locked.at in
    let body = c.args.body.now in
    let free = c.in-Err-reserve_locked.free in
    let locked = c.in-Ok.ensures.locked in
    let full = c.in-Err-reserve_locked.ensures.full in
    let same = same_setup c.args.seated.now c.lock_seen.new.seated
    c.in-Ok.ensures.stays.same_table in
    let geometry = c.geometry-geometry.ensures ∙ ap (λ (s : Setup). s.seg_size) c.shape.ensures in
    let size = c.segment_size.ensures.value ∙ geometry in
    let room = c.room_at-room.ensures ∙ ap (λ (n : ℕ). assembled_room_at n at body) geometry in
    let valid = subst IsSegmentSize size c.segment_size.ensures.valid in
    let left = full.0 ∙ ap (λ (s : Setup). log_limit s - at) same in (
      some_left setup valid at free locked.within left
          (not_at_start g
          (goal.at.returns-in-Err-reserve_locked-clause-no_room g c).After-room_at-room),
      few_left setup valid at free body locked.whole (switch_ends body c.requires.switch)
          (switch_size body c.requires.switch) locked.within left
          (subst (λ (n : ℕ). free < n) room full.1),
    )

pub reserve_locked-requires-clause-locked : goal.reserve_locked-requires-clause-locked
reserve_locked-requires-clause-locked g c =
    let setup = setup_of c.args.seated.now in
    let same = same_setup c.args.seated.now c.lock_seen.new.seated
    c.in-Ok.ensures.stays.same_table in
    locked_here setup c.in-Ok.locked.at (view_of c.args.seated.now)
    (view_of c.lock_seen.new.seated) c.in-Ok.ensures.locked (setup_of c.lock_seen.new.seated) same
    c.geometry-geometry.result _ _
    (c.geometry-geometry.ensures ∙ ap (λ (s : Setup). s.seg_size) (c.shape.ensures ∙ sym same))
    c.in-Ok.ensures.behind c.in-Ok.ensures.start
