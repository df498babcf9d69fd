-- The first pass has taken in nobody at first, and takes in one pass more behind the others.
use Rattle.std.proofs.Common.{◌≡◌, ℕ, suc, ◌+◌, ◌≤◌, List, [], ◌∷◌, ◌++◌, length, map, inl, inr, max, refl, sym, ap, ◌∙◌, subst, arith}
use Rattle.std.proofs.lemmas.List.{map-append}
use Rattle.std.proofs.lemmas.List.Elements.{All-nil, All-push, All-weaker}
use mathlib.Core.Option.{Option, some}
use Rattle.segment_disk.specs.Cause.{Rose}
use Rattle.run_script.specs.Asked.{AskedLine}
use Rattle.machine_state.specs.Words.{Opening, log_limit}
use Rattle.machine_state.specs.Views.{HasAt, Joined, Plain, View}
use Rattle.machine_state.specs.Moves.{after_join, joined_of}
use Rattle.machine_state.specs.Sound.{IsSound}
use Rattle.machine_laws.specs.ClosedLogs.{IsClosed, IsLastPass}
use Rattle.machine_laws.proofs.ClosingLaws.{closed}
use Rattle.run_laws.specs.declared.told.Told.{Told}
use Rattle.run_laws.specs.Played.{KnowsFault, PlaysAllLines, pass_state_of}
use Rattle.run_laws.specs.Ended.{HasTakenIn, IsClosedLog, IsKnownTo, KnowsAtLeast, PlayedAll}
use Rattle.segment_disk.specs.Tape.{DiskState}

-- one pass more that played its lines
played_push : (size limit pass : ℕ) (script : List (List AskedLine)) (lists : List (List Told))
    (others : List View) (lines : List AskedLine) (told : List Told) (w : View)
    → PlayedAll size limit pass script lists others
    → (w.reserving).number ≡ pass + length script
    → PlaysAllLines size limit (pass + length script) lines told (pass_state_of w)
    → PlayedAll size limit pass (script ++ lines ∷ []) (lists ++ told ∷ []) (others ++ w ∷ [])
played_push size limit pass [] [] [] lines told w played number plays =
    let here : pass + 0 ≡ pass = omega arith in (
      omega (arith, number),
      subst (λ (n : ℕ). PlaysAllLines size limit n lines told (pass_state_of w)) here plays,
      tt,
    )
played_push size limit pass [] [] (x ∷ others) lines told w played number plays = absurd played
played_push size limit pass [] (t ∷ lists) others lines told w played number plays =
    absurd played
played_push size limit pass (ls ∷ script) [] others lines told w played number plays =
    absurd played
played_push size limit pass (ls ∷ script) (t ∷ lists) [] lines told w played number plays =
    absurd played
played_push size limit pass (ls ∷ script) (t ∷ lists) (x ∷ others) lines told w played number
    plays =
    let next : pass + suc (length script) ≡ (pass + 1) + length script = omega arith in (
      played.0,
      played.1,
      played_push size limit (pass + 1) script lists others lines told w
          played.2 (omega (arith, number))
          (subst (λ (n : ℕ). PlaysAllLines size limit n lines told (pass_state_of w)) next
          plays),
    )

pub none_taken_in : (opening : Opening) (v : View) → (v.reserving).number ≡ 0
    → (v.reserving).entries ≡ [] → (v.reserving).joined ≡ [] → HasTakenIn opening v [] []
none_taken_in opening v number none joined = record {
  others = [];
  number = number;
  none = none;
  joined = joined;
  known = All-nil (IsKnownTo opening v);
  played = tt;
}

-- the pass that took in others may go on
pub still_taken_in : (opening : Opening) (v new : View) (script : List (List AskedLine))
    (lists : List (List Told)) → HasTakenIn opening v script lists
    → (new.reserving).number ≡ (v.reserving).number
    → (new.reserving).entries ≡ (v.reserving).entries
    → (new.reserving).joined ≡ (v.reserving).joined
    → (v.reserving).seen ≤ (new.reserving).seen
    → ((faults : ℕ) → KnowsFault faults (pass_state_of v) → KnowsFault faults (pass_state_of new))
    → ((faults : ℕ) → KnowsFault faults (pass_state_of v)
    → (new.writing).down_set ≡ (v.writing).down_set)
    → HasTakenIn opening new script lists
still_taken_in opening v new script lists taken number entries joined sees knows sets_none = record {
  others = taken.others;
  number = number ∙ taken.number;
  none = entries ∙ taken.none;
  joined = joined ∙ taken.joined;
  known = All-weaker (IsKnownTo opening v) (IsKnownTo opening new) (λ w known. record {
    rose = known.rose;
    kept = λ faults k. let more = known.kept faults k in (more.0, more.1, knows more.0 more.2);
    first_set_none = λ faults k.
        let more = known.kept faults k in
        sets_none more.0 more.2 ∙ known.first_set_none faults k;
    seen = omega (arith, known.seen, sees);
  }) taken.others taken.known;
  played = taken.played;
}

-- the pass that takes in another one knows what both knew
first_joins : (v w : View) (faults more : ℕ) → faults ≤ more → KnowsFault more (pass_state_of v)
    → KnowsAtLeast faults (pass_state_of (after_join v w))
first_joins v w faults more low (not_none, inl met) =
    let both = max (v.writing).down_met (max (w.writing).down_met (w.writing).down_set) in (
      both,
      omega (arith, low, met),
      ((λ none. not_none (omega (arith, met, none))), inl refl),
    )
first_joins v w faults more low (not_none, inr set) = (more, low, (not_none, inr set))

other_joins : (v w : View) (faults : ℕ) → KnowsFault faults (pass_state_of w)
    → KnowsAtLeast faults (pass_state_of (after_join v w))
other_joins v w faults (not_none, inl met) =
    let both = max (v.writing).down_met (max (w.writing).down_met (w.writing).down_set) in (
      both,
      omega (arith, met),
      ((λ none. not_none (omega (arith, met, none))), inl refl),
    )
other_joins v w faults (not_none, inr set) =
    let both = max (v.writing).down_met (max (w.writing).down_met (w.writing).down_set) in (
      both,
      omega (arith, set),
      ((λ none. not_none (omega (arith, set, none))), inl refl),
    )

pub one_more_taken_in : (opening : Opening) (v w : View) (script : List (List AskedLine))
    (lists : List (List Told)) (lines : List AskedLine) (told : List Told)
    → HasTakenIn opening v script lists → (w.reserving).number ≡ 1 + length script
    → (w.reserving).joined ≡ []
    → PlaysAllLines (opening.setup).seg_size (log_limit opening.setup) (1 + length script)
    lines told (pass_state_of w)
    → ((faults : ℕ) → KnowsFault faults (pass_state_of w) → Rose opening.faults faults)
    → (v.writing).down_set ≡ 0
    → HasTakenIn opening (after_join v w) (script ++ lines ∷ []) (lists ++ told ∷ [])
one_more_taken_in opening v w script lists lines told taken number alone plays rose none =
    let new = after_join v w in
    record {
      others = taken.others ++ w ∷ [];
      number = taken.number;
      none = taken.none;
      joined = ap (λ (js : List Joined). js ++ joined_of w ∷ (w.reserving).joined) taken.joined
          ∙ ap (λ (js : List Joined). map joined_of taken.others ++ joined_of w ∷ js) alone
          ∙ sym (map-append joined_of taken.others (w ∷ []));
      known = All-push (IsKnownTo opening new) taken.others w
          (All-weaker (IsKnownTo opening v) (IsKnownTo opening new) (λ x known. record {
            rose = known.rose;
            kept = λ faults k.
                let more = known.kept faults k in
                first_joins v w faults more.0 more.1 more.2;
            first_set_none = known.first_set_none;
            seen = omega (arith, known.seen);
          }) taken.others taken.known)
          (record {
            rose = rose;
            kept = other_joins v w;
            first_set_none = λ faults k. none;
            seen = omega arith;
          });
      played = played_push (opening.setup).seg_size (log_limit opening.setup) 1 script lists
          taken.others lines told w taken.played number plays;
    }

module _ (first : DiskState) (opening : Opening) (words : List ℕ) (views : List View) (id : ℕ) (v : View)
    (here : HasAt views id v) where
  -- the writer at home is the one that the state speaks of
  closed_at_home : (writer : Plain) (home : Option Plain) → some writer ≡ home
      → (k : IsSound first opening words home views)
      → IsClosed first opening k.order words home writer views id v → IsClosedLog opening k.order v
  closed_at_home writer home is = subst (λ (home : Option Plain).
      (k : IsSound first opening words home views) → IsClosed first opening k.order words home writer views id v
      → IsClosedLog opening k.order v) is (λ k closed_so. record {
        first = first;
        words = words;
        writer = writer;
        views = views;
        id = id;
        sound = k;
        order_is = refl;
        here = here;
        closed = closed_so;
      })

pub last_closes : {first : DiskState} (opening : Opening) (words : List ℕ) (home : Option Plain) (views : List View)
    (k : IsSound first opening words home views) (id : ℕ) (v : View) → HasAt views id v
    → IsLastPass opening v → IsClosedLog opening k.order v
last_closes {first} opening words home views k id v here last =
    let c = closed opening words home views k id v here last in
    closed_at_home first opening words views id v here k.writer home (sym c.at_home) k c
