-- What a step that loads or raises the async address leaves, which no other part of a view reads.
use Rattle.std.proofs.Common.{◌≡◌, ◌≢◌, ℕ, ◌%◌, ◌<◌, ◌≤◌, Bool, Contains, List, [], ◌∷◌, zero, suc, max, refl, sym, ap, ◌∙◌, subst, eq-eqb, ne_eqb, arith}
use Rattle.std.proofs.Math.Logic.{∥∥₁_elim}
use Rattle.std.specs.Coded.{Coded-set, coded_ℕ}
use Rattle.std.specs.Prelude.{if◌then◌else◌, ◌==◌, Result, Err}
use Rattle.byte_position.specs.Geometry.{IsSegmentSize}
use Rattle.byte_position.proofs.EndAddresses.{end_address_of-mono}
use Rattle.byte_position.proofs.Words.{end_address_of-mod_word}
use Rattle.wal_spelling.specs.Spelling.{Assembled}
use Rattle.wal_types.specs.declared.answers.Receipt.{Receipt}
use Rattle.wal_page.specs.Order.{Entry, FollowsFrom, finish_of, position_behind}
use Rattle.wal_page.proofs.PaddingLaws.{room_at-whole}
use Rattle.machine_state.specs.declared.setup.Setup.{Setup}
use Rattle.machine_state.specs.Moves.{with_async}
use Rattle.machine_state.specs.Steps.{IsResting, load_async, raise_async, MayStep}
use Rattle.machine_state.specs.Views.{View}
use Rattle.machine_state.specs.Words.{Opening, end_form}
use Rattle.wal_rule.specs.declared.seated.SeatedPass.{SeatedPass}
use Rattle.wal_rule.specs.SeatedPasses.{HasView, StandsAtRest, Steps, hand_of, setup_of, view_of}
use Rattle.wal_log.specs.Behind.{RaisesAsync}
use Rattle.wal_log.specs.declared.inserting.InsertErr.{InsertErr}
use Rattle.wal_log.specs.Inserting.{IsReceipt}
use Rattle.wal_log.specs.Standing.{ComesToRest, KeepsPass}
use Rattle.wal_log.specs.Whole.{StandsWhole}
use Rattle.wal_log.proofs.Keeping.{further_pass, same_pass}
use Rattle.wal_log.proofs.WholeLaws.{copied_behind}
use Rattle.wal_log.proofs.Seated.{hand_is, own_setup, same_setup, view_is}

-- ---- the view

pub keeps_async : (n : ℕ) (v : View) → KeepsPass v (with_async n v)
keeps_async n v = record {
  opening = refl;
  live = refl;
  number = refl;
  spare = refl;
  spare_end = refl;
  joined = refl;
  counts = omega arith;
  rises = omega arith;
  down = λ faults knows. knows;
}

pub rests_async : (n : ℕ) (v : View) → IsResting v → IsResting (with_async n v)
rests_async n v rests = record {
  place = rests.place;
  locks = rests.locks;
  flight = rests.flight;
  stage = rests.stage;
  hold = rests.hold;
}

abbrev raised : (expected upto met : ℕ) → View → ℕ
raised expected upto met v = max v.async_met (if met == expected then upto else met)

-- ---- at a table

module _ {D : Type 0} where
  -- the number is met
  pub raises : (n : ℕ) (old new : SeatedPass D) → HasView (with_async n (view_of old)) old new
      → RaisesAsync old new
  raises n old new has =
      let is : (view_of new).async_met ≡ max (view_of old).async_met n =
      ap (λ (v : View). v.async_met) (view_is has) in
      let same : max (view_of old).async_met n
      ≡ max (view_of old).async_met (view_of new).async_met = omega (arith, is) in record {
        view = subst (λ (k : ℕ). HasView (record (view_of old) { async_met = k }) old new) same has;
        rises = omega (arith, is);
      }

  pub raises_on : (a b c : SeatedPass D) → RaisesAsync a b → RaisesAsync b c → RaisesAsync a c
  raises_on a b c x y = record {
    view = record {
      same_table = (y.view).same_table ∙ (x.view).same_table;
      me_is = (y.view).me_is
          ∙ ap (λ (v : View). (with_async (view_of c).async_met v, hand_of b)) (view_is x.view)
          ∙ ap (λ h. (
            with_async (view_of c).async_met (with_async (view_of b).async_met
                (view_of a)),
            h,
          )) (hand_is x.view)
          ∙ (let risen = y.rises in
          let same : max (max (view_of a).async_met (view_of b).async_met) (view_of c).async_met
          ≡ max (view_of a).async_met (view_of c).async_met = omega (arith, risen) in
          ap (λ (k : ℕ). (record (view_of a) { async_met = k }, hand_of a)) same);
    };
    rises = omega (arith, x.rises, y.rises);
  }

  pub load_raises : (met : ℕ) (old new : SeatedPass D) → Steps load_async met old new
      → RaisesAsync old new
  load_raises met old new steps = raises met old new steps

  pub exchange_raises : (expected upto met : ℕ) (old new : SeatedPass D)
      → Steps (raise_async expected upto) met old new → RaisesAsync old new
  exchange_raises expected upto met old new steps =
      raises (if met == expected then upto else met) old new steps

  -- the address is stored where what was met was expected; else more was met
  pub exchange_stores : (expected upto met : ℕ) (old new : SeatedPass D) → met ≡ expected
      → Steps (raise_async expected upto) met old new → upto ≤ (view_of new).async_met
  exchange_stores expected upto met old new same steps =
      let is : (view_of new).async_met ≡ raised expected upto met (view_of old) =
      ap (λ (v : View). v.async_met) (view_is steps) in
      let stored : raised expected upto met (view_of old) ≡ max (view_of old).async_met upto =
      ap (λ (b : Bool). max (view_of old).async_met (if b then upto else met))
      (eq-eqb met expected same) in
      omega (arith, is, stored)

  pub exchange_learns : (expected upto met : ℕ) (old new : SeatedPass D) → met ≢ expected
      → Steps (raise_async expected upto) met old new → met ≤ (view_of new).async_met
  exchange_learns expected upto met old new other steps =
      let is : (view_of new).async_met ≡ raised expected upto met (view_of old) =
      ap (λ (v : View). v.async_met) (view_is steps) in
      let learned : raised expected upto met (view_of old) ≡ max (view_of old).async_met met =
      ap (λ (b : Bool). max (view_of old).async_met (if b then upto else met))
      (ne_eqb met expected other) in
      omega (arith, is, learned)

  -- a pass that was about nothing may raise it, up to what it had seen reserved
  pub may_raise : (old new : SeatedPass D) → StandsAtRest old → RaisesAsync old new
      → (expected upto : ℕ) → expected < upto
      → upto ≤ end_form (setup_of old) ((view_of old).reserving).seen → upto % 8 ≡ 0
      → MayStep (view_of new) (raise_async expected upto)
  may_raise old new rests raised expected upto less reserved whole =
      subst (λ (v : View). MayStep v (raise_async expected upto)) (sym (view_is raised.view)) (
        less,
        subst (λ (s : Setup). upto ≤ end_form s ((view_of old).reserving).seen)
            (sym (own_setup old)) reserved,
        whole,
        (rests.rests).flight,
      )

  pub load_meets : (met : ℕ) (old new : SeatedPass D) → Steps load_async met old new
      → met ≤ (view_of new).async_met
  load_meets met old new steps =
      let is : (view_of new).async_met ≡ max (view_of old).async_met met =
      ap (λ (v : View). v.async_met) (view_is steps) in
      omega (arith, is)

  -- a call that raises it comes to rest
  pub raised_rests : (old mid new : SeatedPass D) → ComesToRest old mid → RaisesAsync mid new
      → ComesToRest old new
  raised_rests old mid new comes raised =
      let is = view_is raised.view in
      let n : ℕ = (view_of new).async_met in record {
        same_table = (raised.view).same_table ∙ comes.same_table;
        keeps = further_pass (view_of old) (view_of mid) (view_of new) comes.keeps
            (subst (KeepsPass (view_of mid)) (sym is) (keeps_async n (view_of mid)));
        rests = record {
          rests = subst IsResting (sym is) (rests_async n (view_of mid) (comes.rests).rests);
          empty = hand_is raised.view ∙ (comes.rests).empty;
        };
      }

  pub raise_rests : (old new : SeatedPass D) → StandsAtRest old → RaisesAsync old new
      → ComesToRest old new
  raise_rests old new rests raised = raised_rests old old new
      (record { same_table = refl; keeps = same_pass (view_of old); rests = rests }) raised

  -- and has seen as much reserved as before
  pub raise_reserved : (old new : SeatedPass D) (upto : ℕ) → RaisesAsync old new
      → upto ≤ end_form (setup_of old) ((view_of old).reserving).seen
      → upto ≤ end_form (setup_of new) ((view_of new).reserving).seen
  raise_reserved old new upto raised reserved =
      subst (λ (v : View). upto ≤ end_form (setup_of new) (v.reserving).seen)
      (sym (view_is raised.view))
      (subst (λ (s : Setup). upto ≤ end_form s ((view_of old).reserving).seen)
      (sym (same_setup old new (raised.view).same_table)) reserved)

-- ---- entries end at words

behind_whole : (size : ℕ) → IsSegmentSize size → (e : Entry) → e.start % 8 ≡ 0
    → position_behind size e % 8 ≡ 0
behind_whole size valid e whole =
    let room = room_at-whole size valid e.start e.value whole in omega (arith, whole, room)

starts_whole : (size position : ℕ) (es : List Entry) → IsSegmentSize size → position % 8 ≡ 0
    → FollowsFrom size position es → (e : Entry) → Contains es e → e.start % 8 ≡ 0
starts_whole size position [] valid whole follows e (k, low, is) = absurd (omega (arith, low))
starts_whole size position (x ∷ xs) valid whole follows e (zero, low, is) =
    let same = ap (λ (y : Entry). y.start) is in omega (arith, same, follows.0, whole)
starts_whole size position (x ∷ xs) valid whole follows e (suc k, low, is) =
    starts_whole size (position_behind size x) xs valid
    (behind_whole size valid x (omega (arith, follows.0, whole))) follows.2 e
    (k, omega (arith, low), is)

finish_is_whole : (v : View) (e : Entry) → StandsWhole v e
    → finish_of ((v.opening).setup).seg_size e % 8 ≡ 0
finish_is_whole v e stands =
    let sound = (stands.stands).sound in
    let size : ℕ = ((v.opening).setup).seg_size in
    let valid = (sound.setup_is).size in
    let start = starts_whole size ((v.opening).place).position sound.order valid
    ((sound.reserved).placed).whole (sound.reserved).chained e stands.in_order in
    end_address_of-mod_word size valid (position_behind size e) (behind_whole size valid e start)

-- ---- a record that was inserted

module _ (setup : Setup) (body : Assembled) (old v : View) (receipt : Receipt)
    (told : IsReceipt setup body old v receipt) where
  -- is so still
  pub received_still : (n : ℕ) (new : View) → new ≡ with_async n v
      → IsReceipt setup body old new receipt
  received_still n new is =
      subst (λ (w : View). IsReceipt setup body old w receipt) (sym is) (record {
        entry = told.entry;
        reserved = record {
          own = (told.reserved).own;
          log_is = (told.reserved).log_is;
          seen = (told.reserved).seen;
        };
        copied = copied_behind old v (with_async n v) told.entry (keeps_async n v) told.copied;
        start_is = told.start_is;
        end_is = told.end_is;
        up = record { met = (told.up).met; set = (told.up).set };
      })

  -- its end is seen reserved
  pub end_reserved : IsSegmentSize setup.seg_size
      → receipt.end.0 ≤ end_form setup (v.reserving).seen
  end_reserved size =
      let seen = (told.reserved).seen in
      let low = end_address_of-mono setup.seg_size size
      (position_behind setup.seg_size told.entry) (v.reserving).seen seen in
      omega (arith, told.end_is, low)

  -- and ends at a word, as each entry of an order
  pub end_whole : (v.opening).setup ≡ setup → receipt.end.0 % 8 ≡ 0
  end_whole own =
      let copied = told.copied in
      let same : ((copied.view).opening).setup ≡ setup =
      ap (λ (o : Opening). o.setup) (sym (copied.until).opening) ∙ own in
      let whole : finish_of setup.seg_size told.entry % 8 ≡ 0 =
      subst (λ (s : Setup). finish_of s.seg_size told.entry % 8 ≡ 0) same
      (∥∥₁_elim copied.whole (Coded-set coded_ℕ _ _)
      (finish_is_whole copied.view told.entry)) in
      omega (arith, told.end_is, whole)

abbrev failed : InsertErr → Result Receipt InsertErr
failed e = Err e

-- the refusal told is the insert's
pub same_refusal : (e f : InsertErr) → failed e ≡ failed f → e ≡ f
same_refusal e f is = cc
