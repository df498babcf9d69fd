-- A page is reached: its end is met, or pages are mapped one by one up to it.
use Rattle.std.proofs.Common.{◌≡◌, ◌≢◌, ℕ, ◌+◌, ◌*◌, ◌/◌, ◌%◌, ◌<◌, ◌≤◌, max, refl, sym, ap, ◌∙◌, subst, arith}
use Rattle.std.proofs.Math.Nat.{le-max_left}
use mathlib.Core.Option.{none}
use Rattle.atomic_table.proofs.Lists.{at_map}
use Rattle.machine_state.specs.declared.setup.Setup.{Setup}
use Rattle.machine_state.specs.Locked.{HasTurn}
use Rattle.machine_state.specs.Paged.{AtStage}
use Rattle.machine_state.specs.Sound.{IsSound}
use Rattle.machine_state.specs.Steps.{load_buffer_end, load_initialised_end, view_behind}
use Rattle.machine_state.specs.Views.{Looked, Stage, Taken, View, mapper_of}
use Rattle.machine_state.specs.Words.{initialised_word, word_of_ring, written_word}
use Rattle.wal_rule.specs.declared.seated.SeatedPass.{SeatedPass}
use Rattle.wal_rule.specs.SeatedPasses.{HasView, StaysSeated, view_of}
use Rattle.wal_rule.specs.Stepping.{Meets, Stands}
use Rattle.word_ring.specs.Mapped.{IsOldPageUnwritten, LooksAt, MapsOn, looked_view, staged_view}
use Rattle.word_ring.specs.Ring.{confirmed_view, end_of_page}
use Rattle.wal_log.specs.Copying.{MapsPage, WaitsForOldPage, MeetsOther, mapped_view}
use Rattle.wal_log.proofs.Seated.{further_seated, seat_stays, view_is}

pub maps_none : {D : Type 0} → (a : SeatedPass D) → MapsPage a a
maps_none a = record {
  stays = record { same_table = refl; same_hand = refl };
  confirmed = (view_of a).mapping.confirmed;
  written = (view_of a).writing.written;
  view_is = refl;
  rises = omega arith;
}

pub maps_on : {D : Type 0} → (a b c : SeatedPass D) → MapsPage a b → MapsPage b c → MapsPage a c
maps_on a b c x y =
    let first = ap (λ (v : View). v.mapping.confirmed) x.view_is in record {
      stays = further_seated a b c x.stays y.stays;
      confirmed = y.confirmed;
      written = y.written;
      view_is = y.view_is ∙ ap (mapped_view y.confirmed y.written) x.view_is;
      rises = omega (arith, x.rises, y.rises, first);
    }

-- ---- what was met before a page's end or the written address was

-- the pages that are present are as many as the ring has, and those before them are written: so the
-- page to be replaced is the one on which the written address lies
module _ (v : View) (at : ℕ) (stands : Stands v) (looked : (v.mapping).stage ≡ Looked at) where
  abbrev sound : IsSound stands.first v.opening stands.words stands.home stands.views
  sound = stands.sound

  stage_is : sound.stage ≡ Looked at
  stage_is =
      let m : ℕ × Stage = ((v.reserving).number, (v.mapping).stage) in
      let own = ((sound.locks).mapping).each stands.id m
      (at_map mapper_of stands.views stands.id v stands.here)
      (subst HasTurn (sym looked) tt) in
      own.1 ∙ looked

  at_stage : AtStage ((v.opening).setup).ring_pages (sound.pages).low sound.reach
      (initialised_word stands.words) (written_word stands.words)
      (word_of_ring (v.opening).setup stands.words) (Looked at)
  at_stage = subst (λ (s : Stage). AtStage ((v.opening).setup).ring_pages (sound.pages).low
      sound.reach (initialised_word stands.words) (written_word stands.words)
      (word_of_ring (v.opening).setup stands.words) s) stage_is (sound.pages).mapping

  pub old_page_is : (told : ℕ) → told ≡ written_word stands.words
      → IsOldPageUnwritten (v.opening).setup at told
      → at + 8192 ≡ end_of_page (told / 8192) + ((v.opening).setup).ring_pages * 8192
  old_page_is told is old =
      let stage = at_stage in
      let given_up = (sound.pages).given_up in
      omega (arith, is, old, stage.0.0, stage.0.1, stage.1, given_up)

replaced_page : (v : View) (setup : Setup) (at told : ℕ) → (v.opening).setup ≡ setup
    → LooksAt (staged_view Taken v) at told → IsOldPageUnwritten setup at told
    → at + 8192 ≡ end_of_page (told / 8192) + setup.ring_pages * 8192
replaced_page v setup at told own looks old =
    let met = looks.written_met in
    subst (λ (s : Setup). at + 8192 ≡ end_of_page (told / 8192) + s.ring_pages * 8192) own
    (old_page_is (view_behind (staged_view Taken v) load_initialised_end at none) at met.before
    refl told met.met_is (subst (λ (s : Setup). IsOldPageUnwritten s at told) (sym own) old))

module _ (v w : View) (confirmed written : ℕ) (is : w ≡ mapped_view confirmed written v) where
  looked_back : mapped_view v.mapping.confirmed v.writing.written w ≡ v
  looked_back = ap (mapped_view v.mapping.confirmed v.writing.written) is

  pub other_met : (setup : Setup) (page end : ℕ)
      → Meets v (load_buffer_end (page % setup.ring_pages)) end → end ≢ end_of_page page
      → MeetsOther setup page end w
  other_met setup page end met other = record {
    confirmed = v.mapping.confirmed;
    written = v.writing.written;
    met = subst (λ (x : View). Meets x (load_buffer_end (page % setup.ring_pages)) end)
        (sym looked_back) met;
    other = other;
  }

  pub old_met : (setup : Setup) (page at told : ℕ) → (v.opening).setup ≡ setup
      → LooksAt (staged_view Taken v) at told → at < end_of_page page
      → IsOldPageUnwritten setup at told → WaitsForOldPage setup page told w
  old_met setup page at told own looks below old = record {
    confirmed = v.mapping.confirmed;
    written = v.writing.written;
    at = at;
    looks = subst (λ (x : View). LooksAt (staged_view Taken x) at told) (sym looked_back) looks;
    below = below;
    old = old;
    replaced = replaced_page v setup at told own looks old;
  }

-- ---- steps

-- an end was met
pub met_maps : {D : Type 0} → (end : ℕ) (a b : SeatedPass D)
    → HasView (confirmed_view end (view_of a)) a b → MapsPage a b
met_maps end a b has = record {
  stays = seat_stays has;
  confirmed = max (view_of a).mapping.confirmed end;
  written = (view_of a).writing.written;
  view_is = view_is has;
  rises = le-max_left (view_of a).mapping.confirmed end;
}

-- with the turn to map had, the initialised end and the written address were met
pub looked_maps : {D : Type 0} → (at written : ℕ) (a b : SeatedPass D) → StaysSeated a b
    → view_of b ≡ looked_view at written (view_of a) → MapsPage a b
looked_maps at written a b stays is = record {
  stays = stays;
  confirmed = max (view_of a).mapping.confirmed at;
  written = written;
  view_is = is;
  rises = le-max_left (view_of a).mapping.confirmed at;
}

-- and a page was mapped
pub mapped_maps : {D : Type 0} → (at written : ℕ) (a b : SeatedPass D) → StaysSeated a b
    → view_of b ≡ confirmed_view (at + 8192) (looked_view at written (view_of a)) → MapsPage a b
mapped_maps at written a b stays is = record {
  stays = stays;
  confirmed = max (max (view_of a).mapping.confirmed at) (at + 8192);
  written = written;
  view_is = is;
  rises = omega arith;
}

-- and more behind it
pub further_maps : {D : Type 0} → (a b : SeatedPass D) → StaysSeated a b
    → MapsOn (view_of a) (view_of b) → MapsPage a b
further_maps a b stays maps = record {
  stays = stays;
  confirmed = maps.confirmed;
  written = maps.written;
  view_is = maps.view_is;
  rises = maps.rises;
}

pub further_no_less : (v w : View) → MapsOn v w → v.mapping.confirmed ≤ w.mapping.confirmed
further_no_less v w maps =
    let high = ap (λ (x : View). x.mapping.confirmed) maps.view_is in
    omega (arith, maps.rises, high)

module _ {D : Type 0} (page at written : ℕ) (a b : SeatedPass D) where
  -- the page asked for was mapped
  pub there_reached : view_of b ≡ looked_view at written (view_of a) → end_of_page page ≤ at
      → end_of_page page ≤ (view_of b).mapping.confirmed
  there_reached is far =
      let high = ap (λ (v : View). v.mapping.confirmed) is in omega (arith, far, high)

  -- a page was mapped that begins before the end of the one asked for: fewer are left
  pub mapped_nearer : view_of b ≡ confirmed_view (at + 8192) (looked_view at written (view_of a))
      → at < end_of_page page → LooksAt (staged_view Taken (view_of a)) at written
      → ((view_of a).mapping.confirmed < end_of_page page)
      × ((view_of a).mapping.confirmed < (view_of b).mapping.confirmed)
  mapped_nearer is before looks =
      let high = ap (λ (v : View). v.mapping.confirmed) is in
      let rises : (view_of a).mapping.confirmed ≤ at = looks.rises in (
        omega (arith, rises, before),
        omega (arith, rises, high),
      )

-- the page's own end was met
pub present_reached : {D : Type 0} → (page end : ℕ) (a b : SeatedPass D)
    → HasView (confirmed_view end (view_of a)) a b → end ≡ end_of_page page
    → end_of_page page ≤ (view_of b).mapping.confirmed
present_reached page end a b has own =
    let high = ap (λ (v : View). v.mapping.confirmed) (view_is has) in omega (arith, own, high)
