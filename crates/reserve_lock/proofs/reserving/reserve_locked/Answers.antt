use Rattle.std.proofs.Common.{ℕ, refl, sym, ap, ◌∙◌, arith}
use Rattle.wal_page.specs.Order.{assembled_room_at}
use Rattle.wal_page.proofs.PaddingLaws.{le-assembled_room_at}
use Rattle.machine_state.specs.Words.{log_limit}
use Rattle.wal_rule.specs.SeatedPasses.{setup_of, view_of}
use Rattle.reserve_lock.proofs.Records.{read_same, read_under, record_read}
use Rattle.reserve_lock.proofs.reserving.reserve_locked.Goals as goal

pub give_back-requires-clause-kind : goal.give_back-requires-clause-kind
give_back-requires-clause-kind g c =
    (record_read c.args.body.now, read_same c.args.body.now c.requires.known, refl)

pub reserve_at-prev-requires-clause-kind : goal.reserve_at-prev-requires-clause-kind
reserve_at-prev-requires-clause-kind g c = (
  record_read c.args.body.now,
  read_under c.args.body.now c.requires.known (view_of c.args.seated.now).working.locks
      c.requires.holds.all,
  read_same c.args.body.now c.requires.known,
  refl,
)

pub end_behind-requires-clause-some : goal.end_behind-requires-clause-some
end_behind-requires-clause-some g c =
    let bound = (le-assembled_room_at (setup_of c.args.seated.now).seg_size c.args.locked.at
    c.args.body.now).0 in
    omega (arith, bound, c.requires.room)

pub reserved-requires-clause-room : goal.reserved-requires-clause-room
reserved-requires-clause-room g c =
    c.requires.room
    ∙ ap (λ (n : ℕ). assembled_room_at n c.args.locked.at c.args.body.now)
    (sym c.requires.locked.geometry)

pub returns-clause-reserved : goal.returns-clause-reserved
returns-clause-reserved g c =
    let entry = c.reserve_at-prev.ensures.entry in
    let short = c.if-free-room.false in
    let limit = c.limit.ensures.limit ∙ ap log_limit c.shape-shape.ensures in (
      record {
        at = c.args.locked.at;
        prev = c.reserve_at-prev.result;
        reserved = entry;
        behind_seen = c.requires.locked.seen;
        within = omega (arith, limit, c.requires.room, short, c.requires.locked.within);
        placed_is = (cc);
        start_is = (cc);
      },
      refl,
    )
