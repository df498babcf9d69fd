-- What several steps leave of a pass, as one plain update of the view before the first.
use Rattle.std.proofs.Common.{◌≡◌, ◌≢◌, ℕ, ◌+◌, ◌*◌, ◌<◌, ◌≤◌, suc, max, List, inl, inr, refl, sym, ap, ◌∙◌, subst, arith}
use Rattle.std.specs.Borrow.{Bor}
use mathlib.Core.Option.{none}
use Rattle.wal_rule.specs.declared.seated.SeatedPass.{SeatedPass}
use Rattle.wal_rule.specs.declared.table.LogTable.{LogTable}
use Rattle.wal_rule.specs.declared.writer.LogWriter.{LogWriter}
use Rattle.wal_rule.specs.SeatedPasses.{HasView, Steps, hand_of, setup_of, view_of}
use Rattle.wal_rule.specs.Stepping.{Meets}
use Rattle.wal_rule.specs.Tables.{setup_of_table}
use Rattle.machine_state.specs.Views.{Away, Published, Ready, Stage, Taken, Zeroing, View}
use Rattle.machine_state.specs.Steps.{buffer_of, clear_end, page_mapped, publish_end, publish_initialised_end, ring_number, take_mapping_turn, view_behind, word_of_step, words_zeroed, zero_ring_word}
use Rattle.machine_state.specs.Words.{Opening}
use Rattle.machine_state.specs.declared.setup.Setup.{Setup}
use Rattle.word_ring.specs.Ring.{confirmed_view}
use Rattle.word_ring.specs.Mapped.{IsOldPageUnwritten, LooksAt, MapsAhead, MapsMany, MapsOn, MapsPages, further_view, looked_view, staged_view}

pub at_stage : (v : View) (s : Stage) → (v.mapping).stage ≡ s → v ≡ staged_view s v
at_stage v s is = ap (λ (t : Stage). staged_view t v) is

-- the view behind one step, and then behind another
pub then_view : {D : Type 0} (f : View → View) (v : View) (p q r : SeatedPass D) → HasView v p q
    → HasView (f (view_of q)) q r → HasView (f v) p r
then_view {D} f v p q r x y = record {
  same_table = y.same_table ∙ x.same_table;
  me_is = y.me_is ∙ ap (λ (m : View × List (ℕ × LogWriter D)). (f m.0, m.1)) x.me_is;
}

pub has_same_view : {D : Type 0} (v w : View) (p q : SeatedPass D) → v ≡ w → HasView v p q
    → HasView w p q
has_same_view v w p q is x = subst (λ (u : View). HasView u p q) is x

pub view_is : {D : Type 0} (v : View) (p q : SeatedPass D) → HasView v p q → view_of q ≡ v
view_is {D} v p q x = ap (λ (m : View × List (ℕ × LogWriter D)). m.0) x.me_is

-- a pass at the same table is of a log with the same setup
pub same_setup : {D : Type 0} (p q : SeatedPass D) → q.table ≡ p.table → setup_of q ≡ setup_of p
same_setup {D} p q is = ap (λ (t : Bor (LogTable D)). setup_of_table t.now) is

-- and its table is the one that was taken out of the other
pub same_table : {D : Type 0} (p q : SeatedPass D) → q.table ≡ p.table
    → (p.table).now ≡ (q.table).now
same_table {D} p q is = sym (ap (λ (t : Bor (LogTable D)). t.now) is)

-- a table's setup is that of its passes' views
pub own_setup : {D : Type 0} (p : SeatedPass D) → ((view_of p).opening).setup ≡ setup_of p
own_setup p = ap (λ (o : Opening). o.setup) (p.seated).own

-- ---- a page's words are zeroed in rows

module _ {D : Type 0} (p q : SeatedPass D) (at : ℕ) where
  -- the place of the next word, where so many are zeroed
  pub zero_place : (first k : ℕ)
      → first ≡ ring_number (setup_of p) (buffer_of (setup_of p) at * 1024)
      → HasView (staged_view (Zeroing at k) (view_of p)) p q
      → first + k ≡ word_of_step (view_of q) zero_ring_word
  zero_place first k is x =
      let stage = ap (λ (w : View). (w.mapping).stage)
      (view_is (staged_view (Zeroing at k) (view_of p)) p q x) in
      let setup = own_setup q ∙ same_setup p q x.same_table in
      let there : ring_number (setup_of p) (buffer_of (setup_of p) at * 1024 + k)
      ≡ word_of_step (view_of q) zero_ring_word =
      ap (λ (s : Setup). ring_number s (buffer_of s at * 1024 + k)) (sym setup)
      ∙ ap (λ (t : Stage). ring_number ((view_of q).opening).setup
      (buffer_of ((view_of q).opening).setup (page_mapped t) * 1024 + words_zeroed t))
      (sym stage) in
      omega (arith, is) ∙ there

  -- one word more is zeroed
  pub zeroed_more : (k : ℕ) (r : SeatedPass D)
      → HasView (staged_view (Zeroing at k) (view_of p)) p q → Steps zero_ring_word 0 q r
      → HasView (staged_view (Zeroing at (k + 1)) (view_of p)) p r
  zeroed_more k r x y =
      then_view (λ (w : View). view_behind w zero_ring_word 0 none)
      (staged_view (Zeroing at k) (view_of p)) p q r x y

  -- and more behind them
  pub zeroed_on : (k more : ℕ) (r : SeatedPass D)
      → HasView (staged_view (Zeroing at k) (view_of p)) p q
      → HasView (staged_view (Zeroing at more) (view_of q)) q r
      → HasView (staged_view (Zeroing at more) (view_of p)) p r
  zeroed_on k more r x y =
      then_view (staged_view (Zeroing at more)) (staged_view (Zeroing at k) (view_of p)) p q r x y

-- so many are, by another count
pub zeroed_as : {D : Type 0} (p q : SeatedPass D) (at k n : ℕ) → k ≡ n
    → HasView (staged_view (Zeroing at k) (view_of p)) p q
    → HasView (staged_view (Zeroing at n) (view_of p)) p q
zeroed_as p q at k n same x =
    subst (λ (m : ℕ). HasView (staged_view (Zeroing at m) (view_of p)) p q) same x

pub zeroed_none : {D : Type 0} (p : SeatedPass D) (at k : ℕ)
    → ((view_of p).mapping).stage ≡ Zeroing at k
    → HasView (staged_view (Zeroing at k) (view_of p)) p p
zeroed_none p at k is = record {
  same_table = refl;
  me_is = ap (λ (w : View). (w, hand_of p)) (at_stage (view_of p) (Zeroing at k) is);
}

module _ {D : Type 0} (p : SeatedPass D) (at written : ℕ) where
  abbrev v : View
  v = view_of p

  -- a page is replaced: its buffer is cleared, zeroed and published
  pub replaced : (v.mapping).stage ≡ Ready at written
      → (cleared zeroed published shown : SeatedPass D)
      → Steps clear_end 0 p cleared
      → HasView (staged_view (Zeroing at 1024) (view_of cleared)) cleared zeroed
      → Steps publish_end 0 zeroed published
      → Steps publish_initialised_end 0 published shown
      → HasView (confirmed_view (at + 8192) (staged_view Taken v)) p shown
  replaced is cleared zeroed published shown by_clear by_zeros by_publish by_end =
      let a : HasView (staged_view (Zeroing at 0) v) p cleared =
      has_same_view (view_behind v clear_end 0 none) (staged_view (Zeroing at 0) v) p cleared
      (ap (λ (w : View). view_behind w clear_end 0 none) (at_stage v (Ready at written) is))
      by_clear in
      let b : HasView (staged_view (Zeroing at 1024) v) p zeroed =
      then_view (staged_view (Zeroing at 1024)) (staged_view (Zeroing at 0) v) p cleared zeroed a
      by_zeros in
      let c : HasView (staged_view (Published at) v) p published =
      then_view (λ (w : View). view_behind w publish_end 0 none)
      (staged_view (Zeroing at 1024) v) p zeroed published b by_publish in
      then_view (λ (w : View). view_behind w publish_initialised_end 0 none)
      (staged_view (Published at) v) p published shown c by_end

  -- the turn was taken, and both addresses loaded
  looked : (taken behind : SeatedPass D) → HasView (staged_view Taken v) p taken
      → HasView (staged_view (Ready at written) (looked_view at written (view_of taken)))
      taken behind → HasView (staged_view (Ready at written) (looked_view at written v)) p behind
  looked taken behind by_take by_look =
      then_view (λ (w : View). staged_view (Ready at written) (looked_view at written w))
      (staged_view Taken v) p taken behind by_take by_look

  module _ (is : (v.mapping).stage ≡ Away) (taken behind : SeatedPass D)
      (by_take : HasView (staged_view Taken v) p taken)
      (by_look : HasView (staged_view (Ready at written)
      (looked_view at written (view_of taken))) taken behind) where
    away : staged_view Away (looked_view at written v) ≡ looked_view at written v
    away = ap (looked_view at written) (sym (at_stage v Away is))

    -- and the turn is given back
    pub tried : (left : SeatedPass D) → HasView (staged_view Away (view_of behind)) behind left
        → HasView (looked_view at written v) p left
    tried left by_release =
        has_same_view (staged_view Away (looked_view at written v)) (looked_view at written v)
        p left away
        (then_view (staged_view Away) (staged_view (Ready at written) (looked_view at written v))
        p behind left (looked taken behind by_take by_look) by_release)

    -- or a page mapped before that
    pub mapped : (shown left : SeatedPass D)
        → HasView (confirmed_view (at + 8192) (staged_view Taken (view_of behind))) behind shown
        → HasView (staged_view Away (view_of shown)) shown left
        → HasView (confirmed_view (at + 8192) (looked_view at written v)) p left
    mapped shown left by_replace by_release =
        has_same_view (confirmed_view (at + 8192) (staged_view Away (looked_view at written v)))
        (confirmed_view (at + 8192) (looked_view at written v)) p left
        (ap (confirmed_view (at + 8192)) away)
        (then_view (staged_view Away)
        (confirmed_view (at + 8192) (staged_view Taken (looked_view at written v)))
        p shown left
        (then_view (λ (w : View). confirmed_view (at + 8192) (staged_view Taken w))
        (staged_view (Ready at written) (looked_view at written v)) p behind shown
        (looked taken behind by_take by_look) by_replace) by_release)

-- ---- several pages under one turn

module _ {D : Type 0} (p : SeatedPass D) where
  abbrev first : View
  first = view_of p

  -- with the turn had, so many pages were mapped
  pub record MappedSome (count : ℕ) (q : SeatedPass D) : Type 0 where
    pub confirmed : ℕ
    pub written : ℕ
    pub rises : (first.mapping).confirmed ≤ confirmed
    pub view : HasView (staged_view Taken (further_view confirmed written first)) p q
    pub pages : MapsPages (setup_of p) count first (view_of q)

  pub mapped_none : (first.mapping).stage ≡ Taken → MappedSome 0 p
  mapped_none is = record {
    confirmed = (first.mapping).confirmed;
    written = (first.writing).written;
    rises = omega arith;
    view = record {
      same_table = refl;
      me_is = ap (λ (w : View). (w, hand_of p)) (at_stage first Taken is);
    };
    pages = refl;
  }

  pub still_taken : (count : ℕ) (q : SeatedPass D) → MappedSome count q
      → (view_of q).mapping.stage ≡ Taken
  still_taken count q some = ap (λ (w : View). w.mapping.stage)
      (view_is (staged_view Taken (further_view some.confirmed some.written first)) p q some.view)

  module _ (count : ℕ) (q looked left : SeatedPass D) (some : MappedSome count q)
      (at written : ℕ)
      (by_look : HasView (staged_view (Ready at written) (looked_view at written (view_of q)))
      q looked) (looks : LooksAt (view_of q) at written) where
    behind_look : HasView (staged_view (Ready at written)
        (further_view (max some.confirmed at) written first)) p looked
    behind_look =
        then_view (λ (w : View). staged_view (Ready at written) (looked_view at written w))
        (staged_view Taken (further_view some.confirmed some.written first)) p q looked some.view
        by_look

    looked_is : view_of looked ≡ staged_view (Ready at written) (looked_view at written (view_of q))
    looked_is = view_is (staged_view (Ready at written) (looked_view at written (view_of q)))
        q looked by_look

    one_more : suc count ≡ count + 1
    one_more = omega arith

    -- one more was
    pub mapped_more : HasView (confirmed_view (at + 8192) (staged_view Taken (view_of looked)))
        looked left → (IsOldPageUnwritten (setup_of p) at written → ⊥)
        → MappedSome (count + 1) left
    mapped_more by_replace may = record {
      confirmed = max (max some.confirmed at) (at + 8192);
      written = written;
      rises = (let rises = some.rises in omega (arith, rises));
      view = then_view (λ (w : View). confirmed_view (at + 8192) (staged_view Taken w))
          (staged_view (Ready at written)
          (further_view (max some.confirmed at) written first)) p looked left behind_look
          by_replace;
      pages = subst (λ (n : ℕ). MapsPages (setup_of p) n first (view_of left)) one_more (
        view_of q,
        some.pages,
        record {
          at = at;
          written = written;
          looks = looks;
          may = may;
          view_is = view_is (confirmed_view (at + 8192) (staged_view Taken (view_of looked)))
              looked left by_replace
              ∙ ap (λ (w : View). confirmed_view (at + 8192) (staged_view Taken w)) looked_is
              ∙ ap (λ (w : View). confirmed_view (at + 8192) (looked_view at written w))
              (sym (at_stage (view_of q) Taken (still_taken count q some)));
        },
      );
    }

    -- or a page was met that was not all written
    pub ended_early : (most : ℕ) → count < most → IsOldPageUnwritten (setup_of p) at written
        → HasView (staged_view Away (view_of looked)) looked left
        → (last : View) × MapsMany (setup_of p) most first last
        × (view_of left ≡ staged_view Away last)
    ended_early most fewer old_page by_release = (
      looked_view at written (view_of q),
      record {
        count = count;
        last = view_of q;
        pages = some.pages;
        ends = inr (
          fewer,
          record {
            at = at;
            written = written;
            looks = looks;
            old_page = old_page;
            view_is = refl;
          },
        );
      },
      view_is (staged_view Away (view_of looked)) looked left by_release
          ∙ ap (staged_view Away) looked_is,
    )

    -- or none, and the turn was given back
    pub mapped_no_more : HasView (staged_view Away (view_of looked)) looked left
        → (confirmed loaded : ℕ) × ((first.mapping).confirmed ≤ confirmed)
        × HasView (staged_view Away (further_view confirmed loaded first)) p left
    mapped_no_more by_release = (
      max some.confirmed at,
      written,
      (let rises = some.rises in omega (arith, rises)),
      then_view (staged_view Away) (staged_view (Ready at written)
          (further_view (max some.confirmed at) written first)) p looked left behind_look
          by_release,
    )

  -- so many pages as were asked for were mapped, and the turn was given back
  pub mapped_all : (count : ℕ) (q left : SeatedPass D) → MappedSome count q
      → HasView (staged_view Away (view_of q)) q left
      → (confirmed loaded : ℕ) × ((first.mapping).confirmed ≤ confirmed)
      × HasView (staged_view Away (further_view confirmed loaded first)) p left
  mapped_all count q left some by_release = (
    some.confirmed,
    some.written,
    some.rises,
    then_view (staged_view Away)
        (staged_view Taken (further_view some.confirmed some.written first)) p q left some.view
        by_release,
  )

  pub ended_at_most : (count most : ℕ) (q left : SeatedPass D) → MappedSome count q
      → count ≡ most → HasView (staged_view Away (view_of q)) q left
      → (last : View) × MapsMany (setup_of p) most first last
      × (view_of left ≡ staged_view Away last)
  ended_at_most count most q left some all by_release = (
    view_of q,
    record {
      count = count;
      last = view_of q;
      pages = some.pages;
      ends = inl (all, refl);
    },
    view_is (staged_view Away (view_of q)) q left by_release,
  )

-- ---- beside somebody else's turn, and with the turn had

pub maps_nothing : (v w : View) → w ≡ v → MapsOn v w
maps_nothing v w is = record {
  confirmed = (v.mapping).confirmed;
  written = (v.writing).written;
  rises = omega arith;
  view_is = is;
}

pub maps_with_turn : {D : Type 0} (p taken left : SeatedPass D)
    → ((view_of p).mapping).stage ≡ Away → HasView (staged_view Taken (view_of p)) p taken
    → ((confirmed written : ℕ) × (((view_of taken).mapping).confirmed ≤ confirmed)
    × HasView (staged_view Away (further_view confirmed written (view_of taken))) taken left)
    → MapsOn (view_of p) (view_of left)
maps_with_turn p taken left is by_take (confirmed, written, rises, by_map) =
    let took = view_is (staged_view Taken (view_of p)) p taken by_take in
    let same = ap (λ (w : View). (w.mapping).confirmed) took in record {
      confirmed = confirmed;
      written = written;
      rises = omega (arith, rises, same);
      view_is = view_is (staged_view Away (further_view confirmed written (view_of taken))) taken
          left by_map
          ∙ ap (λ (w : View). staged_view Away (further_view confirmed written w)) took
          ∙ ap (further_view confirmed written) (sym (at_stage (view_of p) Away is));
    }

-- as far as the turn to map
pub maps_beside_turn : {D : Type 0} (p left : SeatedPass D) (most turn : ℕ) → turn ≢ 0
    → Meets (view_of p) take_mapping_turn turn → view_of left ≡ view_of p
    → MapsAhead (setup_of p) most (view_of p) (view_of left)
maps_beside_turn p left most turn some met same = inl (turn, some, met, same)

pub maps_ahead : {D : Type 0} (p taken left : SeatedPass D) (most turn : ℕ) → turn ≡ 0
    → Meets (view_of p) take_mapping_turn turn → HasView (staged_view Taken (view_of p)) p taken
    → ((last : View) × MapsMany (setup_of taken) most (view_of taken) last
    × (view_of left ≡ staged_view Away last))
    → MapsAhead (setup_of p) most (view_of p) (view_of left)
maps_ahead p taken left most turn free met by_take (last, many, is) = inr (
  subst (λ (n : ℕ). Meets (view_of p) take_mapping_turn n) free met,
  (
    last,
    subst (λ (v : View). MapsMany (setup_of p) most v last)
        (view_is (staged_view Taken (view_of p)) p taken by_take)
        (subst (λ (s : Setup). MapsMany s most (view_of taken) last)
        (same_setup p taken by_take.same_table) many),
    is,
  ),
)
