-- A segment switch is reserved while nothing is in flight, and nothing else comes in flight before
-- its last word is copied; the ring is zeros behind it.
use Rattle.std.proofs.Common.{◌≡◌, ℕ, ◌+◌, ◌*◌, ◌/◌, ◌<◌, ◌≤◌, Bool, Contains, IsTrue, List, cond, refl, sym, ap, ◌∙◌, subst, ⊎_elim}
use mathlib.Core.Option.{Option}
use Rattle.segment_disk.specs.Tape.{DiskState}
use Rattle.wal_types.specs.declared.record.Record.{Record}
use Rattle.wal_spelling.specs.Record.{is_switch, switch_record}
use Rattle.wal_spelling.proofs.SwitchLaws.{told_switched}
use Rattle.wal_page.specs.EntryWords.{address_of_word, words_owned}
use Rattle.wal_page.specs.Order.{Entry}
use Rattle.wal_page.proofs.PlaceLaws.{word_from-behind_switch}
use Rattle.machine_state.specs.Words.{Opening, end_form, lock_word, word_of_ring, order_end, GoesOnAtPlace}
use Rattle.machine_state.specs.Views.{HasAt, Copy, Flight, Landed, Copying, Plain, View, working_of}
use Rattle.machine_state.specs.Locked.{most_told}
use Rattle.machine_state.specs.Ringed.{log_word_of}
use Rattle.machine_state.specs.Steps.{MayStep, ring_place, store_position}
use Rattle.machine_state.specs.Sound.{IsSound}
use Rattle.machine_state.specs.Shown.{IsPresent}
use Rattle.machine_state.proofs.Landing.{is_among_them, lock_of, none_lands}
use Rattle.machine_state.proofs.Lists.{at_same, part_at}
use Rattle.machine_laws.specs.SoundLocks.{HoldsLock}
use Rattle.machine_laws.specs.Switches.{CopiesBehindAllLocks, IsBehindSwitch}
use Rattle.machine_laws.proofs.HolderLaws.{locks_have_holders}
use Rattle.machine_laws.proofs.ShownLaws.{words_are_logs}

pub holds_all : (v : View) (locks : List ℕ) (value : Record) → MayStep v (store_position locks value)
    → value ≡ switch_record → (lock : ℕ) → lock < 8 → Contains locks lock × HoldsLock lock v
holds_all v locks value may is lock low =
    let ends = (told_switched value (may.3).logged).1 is in
    let under = (may.3).all_locks ends lock low in (under, (may.5).1 lock under)

-- a flight that is no copy has landed
no_copy : (f : Flight) → ((c : Copy) → f ≡ Copying c → ⊥) → f ≡ Landed
no_copy Landed none = refl
no_copy (Copying c) none = absurd (none c refl)

module _ {first : DiskState} (opening : Opening) (words : List ℕ) (home : Option Plain)
    (views : List View) where
  pub none_in_flight : (id : ℕ) (v : View) (locks : List ℕ) → IsSound first opening words home views
      → HasAt views id v → MayStep v (store_position locks switch_record) → (other : ℕ) (w : View)
      → HasAt views other w → (w.working).flight ≡ Landed
  none_in_flight id v locks k here may other w there =
      let holders = locks_have_holders opening words home views k in
      no_copy (w.working).flight (λ c copies.
      let parts = part_at working_of views other w there in
      let under = lock_of c.locks (w.working).locks
      (((k.locks).locks).under other w.working c parts copies) in
      let low = holders.eight other under.0 w there under.2 in
      let mine = (holds_all v locks switch_record may refl under.0 low).1 in
      let one = holders.by_one under.0 id other v w here there mine under.2 in
      let same = at_same views v w other (subst (λ (j : ℕ). HasAt views j v) one here) there in
      none_lands c (sym may.6 ∙ ap (λ (u : View). (u.working).flight) same ∙ copies))

  pub stands_alone : (id : ℕ) (v : View) (c : Copy) → IsSound first opening words home views
      → HasAt views id v → (v.working).flight ≡ Copying c → IsTrue (is_switch (c.entry).value)
      → c.copied < words_owned (opening.setup).seg_size c.entry
      → CopiesBehindAllLocks (opening.setup).seg_size words views id v c
  stands_alone id v c k here copies switches left =
      let size = (opening.setup).seg_size in
      let end = end_form opening.setup (order_end opening k.order) in
      let mine = part_at working_of views id v here in
      let under : (lock : ℕ) → lock < 8 → Contains c.locks lock =
      k.alone id v.working mine c copies switches left in
      let holds : (lock : ℕ) → lock < 8 → HoldsLock lock v =
      λ lock low. (((k.locks).locks).under id v.working c mine copies).1 lock (under lock low) in
      let holders = locks_have_holders opening words home views k in
      record {
        holds = holds;
        tells = λ lock low. subst (λ (among : Bool). lock_word words lock
            ≤ cond among (address_of_word size c.entry c.copied + 1) (end + 1))
            (is_among_them c.locks lock (under lock low))
            (subst (λ (f : Flight). lock_word words lock ≤ most_told size end lock f) copies
            (k.progress id lock v.working mine (holds lock low)));
        alone = λ other w there apart. no_copy (w.working).flight (λ d flies.
            let its = lock_of d.locks (w.working).locks
            (((k.locks).locks).under other w.working d (part_at working_of views other w there)
            flies) in
            let low = holders.eight other its.0 w there its.2 in
            apart (holders.by_one its.0 other id w v there here its.2 (holds its.0 low)));
      }

  pub zeros_behind : (s : IsSound first opening words home views) (k : ℕ)
      → IsBehindSwitch (opening.setup).seg_size s.order (8 * k)
      → IsPresent opening.setup words (k / 1024)
      → word_of_ring opening.setup words (ring_place opening.setup k) ≡ 0
  zeros_behind s k b present =
      let size = (opening.setup).seg_size in
      let zero : log_word_of opening s.order (8 * k) ≡ 0 =
      ap (λ (es : List Entry). log_word_of opening es (8 * k)) b.are
      ∙ word_from-behind_switch size (opening.setup).sysid (s.setup_is).size opening.place b.front
      b.back b.entry (subst (GoesOnAtPlace opening) b.are (s.reserved).chained) b.switches (8 * k)
      b.behind b.before_next in
      ⊎_elim (λ own. own ∙ zero) (λ awaited. awaited.0)
      ((words_are_logs opening words home views s).ring k present)
