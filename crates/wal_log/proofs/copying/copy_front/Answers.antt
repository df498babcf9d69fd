use Rattle.std.proofs.Common.{◌≡◌, ℕ, ◌+◌, ◌-◌, ◌*◌, ◌<◌, ◌≤◌, refl, sym, ap, ◌∙◌, subst, arith}
use Rattle.wal_page.specs.Placed.{PlacedState, placed_end}
use Rattle.machine_state.specs.declared.setup.Setup.{Setup}
use Rattle.machine_state.specs.Moves.{with_told}
use Rattle.machine_state.specs.Views.{View}
use Rattle.wal_rule.specs.SeatedPasses.{setup_of, view_of}
use Rattle.wal_log.specs.HeldLocks.{locks_of}
use Rattle.word_ring.proofs.CopyLaws.{words-left}
use Rattle.wal_log.specs.declared.copying.CopyStop.{CopyStop}
use Rattle.wal_log.specs.declared.copying.CopyStop.TheVariants.{Asked, Whole, Absent}
use Rattle.wal_log.specs.Copying.{StopsAtOnce, TellsStop}
use Rattle.wal_log.specs.PassLogs.{log_of_pass}
use Rattle.wal_log.proofs.CopyLaws.{alone_rest, copied_on, goes_on_itself, stood_still, told_keeps, told_under_all}
use Rattle.wal_log.proofs.Seated.{same_setup, view_is}
use Rattle.wal_log.proofs.copying.copy_front.Goals as goal

pub loop-held-init : goal.loop-held-init
loop-held-init g c =
    let p : PlacedState = c.args.placed.now in
    let none : p.next ≡ p.next + 0 = omega arith in
    let still = stood_still p c.args.seated.now c.args.seated.now
    (goes_on_itself c.args.seated.now) refl refl in record {
      few = omega arith;
      copies = c.requires.copies;
      next_is = ap (λ (n : ℕ). record p { next = n }) none;
      within = (words-left c.args.seated.now p
          (alone_rest c.args.seated.now (locks_of c.args.held) p c.requires.copies)).0;
      copies_on = still;
      up = λ up. up;
      silent = λ none_asked. refl;
    }

pub loop-held-preserved : goal.loop-held-preserved
loop-held-preserved g c =
    let went = c.in-Ok.ensures.tells in
    let few = c.loop-held.invariant.few in
    let first : PlacedState = c.args.placed.now in
    let was = c.loop-held.invariant.next_is in
    let more : first.next + 8 * c.loop-held.k + 8 * c.in-Ok.count
    ≡ first.next + 8 * (c.loop-held.k + c.in-Ok.count) = omega arith in
    let ended : placed_end c.copy_some.new.placed ≡ placed_end c.loop-held.placed =
    ap placed_end went.next_is in record {
      few = omega (arith, few, went.few);
      copies = c.copy_some.ensures.copies (locks_of c.args.held) c.loop-held.invariant.copies;
      next_is = went.next_is
          ∙ ap (λ (p : PlacedState). record p { next = p.next + 8 * c.in-Ok.count }) was
          ∙ ap (λ (n : ℕ). record first { next = n }) more;
      within = omega (arith, went.within, ended);
      copies_on = copied_on first c.loop-held.placed c.copy_some.new.placed c.args.seated.now
          c.loop-held.seated c.copy_some.new.seated c.loop-held.invariant.copies_on
          c.copy_some.ensures.copies_on;
      up = λ up. c.copy_some.ensures.up (c.loop-held.invariant.up up);
      silent = λ none. absurd (c.if-most-eq0.false none);
    }

-- why it stopped behind so many words, by why it copied none behind them
stops : (setup : Setup) (most k : ℕ) (p : PlacedState) (v : View) → k ≤ most
    → p.next < placed_end p → (stop : CopyStop) → StopsAtOnce setup (most - k) p v stop
    → TellsStop setup most k p v stop
stops setup most k p v few left Asked none = (omega (arith, few, none), left)
stops setup most k p v few left Whole none = absurd none
stops setup most k p v few left (Absent page end turn written) tells =
    let some = tells.0 in (omega (arith, few, some), left, tells.1)

pub returns-then-most-eq0-clause-tells : goal.returns-then-most-eq0-clause-tells
returns-then-most-eq0-clause-tells g c =
    let few = c.loop-held.invariant.few in
    let none = c.if-most-eq0.true in
    let ended = ap placed_end c.loop-held.invariant.next_is in
    let before = c.loop-held-test.true in
    let next = c.next_lsn.ensures in
    let end = c.requires.end in record {
      few = few;
      next_is = c.loop-held.invariant.next_is;
      earlier = (view_of c.loop-held.seated).told;
      earlier_under = (view_of c.loop-held.seated).told_under;
      stop = (omega (arith, few, none), omega (arith, before, next, end, ended));
      told = λ some left. absurd (omega (arith, some, none));
      under = λ some left. absurd (omega (arith, some, none));
      silent = c.loop-held.invariant.silent;
    }

pub returns-in-Err-clause-tells : goal.returns-in-Err-clause-tells
returns-in-Err-clause-tells g c =
    let tells = c.in-Err.ensures.tells in
    let v : View = view_of c.copy_some.new.seated in
    let told = view_is c.tell_progress.ensures.told.view in
    let ended = ap placed_end c.loop-held.invariant.next_is in
    let before = c.loop-held-test.true in
    let next = c.next_lsn.ensures in
    let end = c.requires.end in record {
      few = c.loop-held.invariant.few;
      next_is = tells.0 ∙ c.loop-held.invariant.next_is;
      earlier = v.told;
      earlier_under = v.told_under;
      stop = subst (λ (w : View). TellsStop (setup_of c.args.seated.now) c.args.most c.loop-held.k
          c.copy_some.new.placed w c.in-Err.stop)
          (sym (ap (λ (w : View). with_told v.told v.told_under w) told))
          (subst (λ (p : PlacedState). TellsStop (setup_of c.args.seated.now) c.args.most
          c.loop-held.k p v c.in-Err.stop) (sym tells.0)
          (subst (λ (s : Setup). TellsStop s c.args.most c.loop-held.k c.loop-held.placed v
          c.in-Err.stop) (same_setup c.args.seated.now c.loop-held.seated
          c.loop-held.invariant.copies_on.goes_on.stays.same_table)
          (stops (setup_of c.loop-held.seated) c.args.most c.loop-held.k c.loop-held.placed v
          c.loop-held.invariant.few (omega (arith, before, next, end, ended)) c.in-Err.stop
          tells.1)));
      told = λ some left. ap (λ (w : View). w.told) told;
      under = λ some left. told_under_all c.copy_some.new.seated c.tell_progress.new.seated
          (locks_of c.args.held) c.copy_some.new.placed (c.copy_some.new.placed).next
          (c.copy_some.ensures.copies (locks_of c.args.held) c.loop-held.invariant.copies)
          c.tell_progress.ensures.told;
      silent = λ none. absurd (c.if-most-eq0.false none);
    }

pub returns-clause-tells : goal.returns-clause-tells
returns-clause-tells g c =
    let within = c.loop-held.invariant.within in
    let ended = ap placed_end c.loop-held.invariant.next_is in
    let behind = c.loop-held-test.false in
    let next = c.next_lsn.ensures in
    let end = c.requires.end in record {
      few = c.loop-held.invariant.few;
      next_is = c.loop-held.invariant.next_is;
      earlier = (view_of c.loop-held.seated).told;
      earlier_under = (view_of c.loop-held.seated).told_under;
      stop = omega (arith, within, behind, next, end, ended);
      told = λ some left. absurd (omega (arith, left, behind, next, end, ended));
      under = λ some left. absurd (omega (arith, left, behind, next, end, ended));
      silent = c.loop-held.invariant.silent;
    }

pub returns-in-Err-clause-copies_on : goal.returns-in-Err-clause-copies_on
returns-in-Err-clause-copies_on g c =
    let first : PlacedState = c.args.placed.now in
    let told = c.tell_progress.ensures.told in
    copied_on first c.copy_some.new.placed c.copy_some.new.placed c.args.seated.now
    c.copy_some.new.seated c.tell_progress.new.seated
    (copied_on first c.loop-held.placed c.copy_some.new.placed c.args.seated.now
    c.loop-held.seated c.copy_some.new.seated c.loop-held.invariant.copies_on
    c.copy_some.ensures.copies_on)
    (stood_still c.copy_some.new.placed c.copy_some.new.seated c.tell_progress.new.seated
    (told_keeps c.copy_some.new.seated c.tell_progress.new.seated (locks_of c.args.held)
    (c.copy_some.new.placed).next told)
    (ap (λ (v : View). log_of_pass v) (view_is told.view))
    (ap (λ (v : View). v.working) (view_is told.view)))
