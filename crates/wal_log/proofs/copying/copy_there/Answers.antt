use Rattle.std.proofs.Common.{◌≡◌, ℕ, List, refl, sym, ap, ◌∙◌, arith}
use Rattle.wal_page.specs.Placed.{PlacedState, placed_end}
use Rattle.wal_rule.specs.SeatedPasses.{setup_of, view_of}
use Rattle.word_ring.proofs.CopyLaws.{words-left}
use Rattle.wal_log.specs.Copying.{CopyGoesOn}
use Rattle.wal_log.specs.Standing.{CopiesAlone}
use Rattle.wal_log.proofs.CopyLaws.{StaysCopying, alone_low, alone_rest, copied_on, copies_still, goes_on_itself, stood_still, there_stays, went_on}
use Rattle.wal_log.proofs.Seated.{seat_stays}
use Rattle.wal_log.proofs.copying.copy_there.Given.{Over}
use Rattle.wal_log.proofs.copying.copy_there.Goals as goal
use Rattle.wal_log.proofs.copying.copy_there.Goals.{After-copy_present}

pub pages-init : goal.pages-init
pages-init g c =
    let p : PlacedState = c.args.placed.now in
    let a = c.args.seated.now in record {
      copies = λ locks copies. copies;
      within = (words-left a p (alone_rest a c.requires.copies.0 p c.requires.copies.1)).0;
      copies_on = stood_still p a a (goes_on_itself a) refl refl;
      up = λ up. up;
    }

pub copy_present-requires-clause-rest : goal.copy_present-requires-clause-rest
copy_present-requires-clause-rest g c =
    alone_rest c.pages.seated c.requires.copies.0 c.pages.placed
    (c.pages.invariant.copies c.requires.copies.0 c.requires.copies.1)

pub copy_present-requires-clause-low : goal.copy_present-requires-clause-low
copy_present-requires-clause-low g c =
    let low = alone_low c.pages.seated c.requires.copies.0 c.pages.placed
    (c.pages.invariant.copies c.requires.copies.0 c.requires.copies.1) in
    omega (arith, low, c.next_lsn-next.ensures)

pub copy_present-requires-clause-end : goal.copy_present-requires-clause-end
copy_present-requires-clause-end g c =
    c.requires.end ∙ sym (ap placed_end c.pages.invariant.copies_on.place)

module _ (g : Over) (c : After-copy_present g) where
  stays : StaysCopying (setup_of c.pages.seated) c.pages.placed c.copy_present.new.placed
      (view_of c.pages.seated) (view_of c.copy_present.new.seated)
  stays = there_stays c.pages.placed c.copy_present.new.placed c.pages.seated
      c.copy_present.new.seated c.copy_present.ensures.copies.met c.copy_present.result
      c.copy_present.ensures.copies.view c.copy_present.ensures.copies.placed_is

  ended : placed_end c.copy_present.new.placed ≡ placed_end c.pages.placed
  ended = ap placed_end c.copy_present.ensures.copies.placed_is

  all_ended : placed_end c.copy_present.new.placed ≡ placed_end c.args.placed.now
  all_ended = ended ∙ ap placed_end c.pages.invariant.copies_on.place

  still : (locks : List ℕ) → CopiesAlone locks c.args.placed.now c.args.seated.now
      → CopiesAlone locks c.copy_present.new.placed c.copy_present.new.seated
  still locks copies = copies_still c.pages.seated c.copy_present.new.seated
      (seat_stays c.copy_present.ensures.copies.view) c.pages.placed c.copy_present.new.placed
      stays locks (c.pages.invariant.copies locks copies)

  on : CopyGoesOn c.args.placed.now c.copy_present.new.placed c.args.seated.now
      c.copy_present.new.seated
  on = copied_on c.args.placed.now c.pages.placed c.copy_present.new.placed c.args.seated.now
      c.pages.seated c.copy_present.new.seated c.pages.invariant.copies_on
      (went_on c.pages.seated c.copy_present.new.seated
      (seat_stays c.copy_present.ensures.copies.view) c.pages.placed c.copy_present.new.placed
      stays (c.copy_present.ensures.copies.placed_is
      ∙ ap (λ (n : ℕ). record c.pages.placed { next = n })
      (sym (ap (λ (p : PlacedState). p.next) c.copy_present.ensures.copies.placed_is))))

pub pages-preserved : goal.pages-preserved
pages-preserved g c =
    let at = (goal.at.pages-preserved g c).After-copy_present in
    let within = c.copy_present.ensures.within in
    let end = c.requires.end in
    let all = all_ended g at in record {
      copies = still g at;
      within = omega (arith, within, end, all);
      copies_on = on g at;
      up = λ up. (stays g at).up (c.pages.invariant.up up);
    }

pub pages-smaller : goal.pages-smaller
pages-smaller g c =
    let at = (goal.at.pages-smaller g c).After-copy_present in
    let within = c.copy_present.ensures.within in
    let end = c.requires.end in
    let all = all_ended g at in
    let same = ended g at in
    let some = c.if-copy_present-eq0.false in
    let next = ap (λ (p : PlacedState). p.next) c.copy_present.ensures.copies.placed_is in
    omega (arith, within, end, all, same, some, next)

pub returns-then-copy_present-eq0-clause-copies : goal.returns-then-copy_present-eq0-clause-copies
returns-then-copy_present-eq0-clause-copies g c =
    still g (goal.at.returns-then-copy_present-eq0-clause-copies g c).After-copy_present

pub returns-then-copy_present-eq0-clause-within : goal.returns-then-copy_present-eq0-clause-within
returns-then-copy_present-eq0-clause-within g c =
    let within = c.copy_present.ensures.within in
    let end = c.requires.end in
    omega (arith, within, end)

pub returns-then-copy_present-eq0-clause-up : goal.returns-then-copy_present-eq0-clause-up
returns-then-copy_present-eq0-clause-up g c = λ up.
    (stays g (goal.at.returns-then-copy_present-eq0-clause-up g c).After-copy_present).up
    (c.pages.invariant.up up)

pub returns-then-copy_present-eq0-clause-copies_on : goal.returns-then-copy_present-eq0-clause-copies_on
returns-then-copy_present-eq0-clause-copies_on g c =
    on g (goal.at.returns-then-copy_present-eq0-clause-copies_on g c).After-copy_present

pub returns-clause-within : goal.returns-clause-within
returns-clause-within g c =
    let within = c.pages.invariant.within in
    let all = ap placed_end c.pages.invariant.copies_on.place in
    omega (arith, within, all)
