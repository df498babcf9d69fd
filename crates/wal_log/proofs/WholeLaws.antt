-- A copy that has no word left: its entry stands whole.
use Rattle.std.proofs.Common.{◌≡◌, ℕ, List, sym, ap, ◌∙◌, subst, arith}
use Rattle.std.proofs.Math.Logic.{∥∥₁_map}
use mathlib.Core.Option.{Option, none, some}
use Rattle.wal_page.specs.EntryWords.{words_owned}
use Rattle.wal_page.specs.Order.{Entry}
use Rattle.wal_page.specs.Placed.{PlacedState}
use Rattle.machine_state.specs.declared.setup.Setup.{Setup}
use Rattle.machine_state.specs.Moves.{without_work}
use Rattle.machine_state.specs.Views.{Copy, Copying, View, Working}
use Rattle.machine_laws.proofs.EntryLaws.{entries_are_whole_or_in_flight}
use Rattle.machine_laws.proofs.ShownLaws.{entries_are_copied}
use Rattle.wal_rule.specs.Stepping.{Stands}
use Rattle.wal_log.specs.Standing.{CopiesUnder, KeepsPass, entry_in_flight, entry_of_flight}
use Rattle.wal_log.specs.Whole.{CopiesLast, CopiesWhole, StandsWhole}
use Rattle.wal_log.proofs.Keeping.{further_pass}

-- in the state in which all words of its entry are copied, each is the log's
stands_whole : (v : View) → ∥ Stands v ∥₁ → (c : Copy) → (v.working).flight ≡ Copying c
    → c.copied ≡ words_owned ((v.opening).setup).seg_size c.entry
    → ∥ StandsWhole v c.entry ∥₁
stands_whole v stood c is all = ∥∥₁_map stood (λ (s : Stands v). record {
  stands = s;
  in_order = ((entries_are_whole_or_in_flight v.opening s.words s.home s.views s.sound).reserved
      s.id v c s.here is).0;
  words = λ n owned. (entries_are_copied v.opening s.words s.home s.views s.sound).copied s.id v c
      n s.here is (omega (arith, owned, all));
})

-- the entry in flight, or this one where none is
abbrev entry_or : Entry → Option Entry → Entry
entry_or e none = e
entry_or e (some other) = other

-- what a copy leaves that has ended
module _ (setup : Setup) (locks : List ℕ) (placed : PlacedState) (old v new : View)
    (c : CopiesUnder setup locks placed v) (stood : ∥ Stands v ∥₁)
    (all : (c.copy).copied ≡ words_owned ((v.opening).setup).seg_size (c.copy).entry) where
  flies : (v.working).flight ≡ Copying c.copy
  flies = ap (λ (w : Working). w.flight) c.working

  pub copies_whole : (e : Entry) → entry_in_flight v ≡ some e → KeepsPass old v → KeepsPass v new
      → CopiesWhole old new e
  copies_whole e is before behind =
      let same : (c.copy).entry ≡ e =
      ap (entry_or e) (ap entry_of_flight (sym flies) ∙ is) in record {
        view = v;
        since = before;
        until = behind;
        copy = c.copy;
        in_flight = flies;
        entry_is = same;
        none_left = all ∙ ap (words_owned ((v.opening).setup).seg_size) same;
        whole = subst (λ (x : Entry). ∥ StandsWhole v x ∥₁) same
            (stands_whole v stood c.copy flies all);
      }

  -- and then the locks were given back
  pub copies_last : (e : Entry) → entry_in_flight v ≡ some e → KeepsPass old v → KeepsPass v new
      → new ≡ without_work v → CopiesLast old new e
  unfolding copies_whole
  copies_last e is before behind last = record {
    copied = copies_whole e is before behind;
    last = last;
  }

-- it was so also before further steps of the pass
pub copied_behind : (old mid new : View) (e : Entry) → KeepsPass mid new → CopiesWhole old mid e
    → CopiesWhole old new e
copied_behind old mid new e behind was = record {
  view = was.view;
  since = was.since;
  until = further_pass was.view mid new was.until behind;
  copy = was.copy;
  in_flight = was.in_flight;
  entry_is = was.entry_is;
  none_left = was.none_left;
  whole = was.whole;
}

-- and behind earlier ones
pub copied_since : (old mid new : View) (e : Entry) → KeepsPass old mid → CopiesWhole mid new e
    → CopiesWhole old new e
copied_since old mid new e before was = record {
  view = was.view;
  since = further_pass old mid was.view before was.since;
  until = was.until;
  copy = was.copy;
  in_flight = was.in_flight;
  entry_is = was.entry_is;
  none_left = was.none_left;
  whole = was.whole;
}

pub last_since : (old mid new : View) (e : Entry) → KeepsPass old mid → CopiesLast mid new e
    → CopiesLast old new e
unfolding copied_since
last_since old mid new e before was = record {
  copied = copied_since old mid new e before was.copied;
  last = was.last;
}
