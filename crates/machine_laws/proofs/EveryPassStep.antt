-- Passes: where one is split off, where one takes another in, and where one gives up its copy, the
-- invariant is kept.
use Rattle.std.proofs.Common.{◌≡◌, ◌≢◌, ℕ, ◌<◌, ◌≤◌, true, List, [], ◌∷◌, ◌++◌, map, max, set, refl, sym, subst, ⊎_elim, arith}
use mathlib.Core.Option.{Option}
use Rattle.machine_state.specs.Words.{Opening, position_word, prev_word, written_word, flushed_word, down_word, async_word, end_form}
use Rattle.machine_state.specs.Views.{HasAt, Flight, Plain, Reserving, View, Writing, reserving_of, flight_of, working_of, writing_of}
use Rattle.machine_state.specs.Ordered.{OrderHolds}
use Rattle.machine_state.specs.Locked.{SwitchesStandAlone}
use Rattle.machine_state.specs.Positioned.{PositionsHold}
use Rattle.machine_state.specs.Reading.{ReadingHolds}
use Rattle.machine_state.specs.Moves.{after_split, split_off, after_join, spent, without_work, orphan_of}
use Rattle.machine_state.specs.Steps.{State, Splits, IsResting, Joins, IsStranded, GivesUp}
use Rattle.machine_state.specs.Aligned.{LearnsAligned}
use Rattle.machine_state.specs.Failed.{FaultIsKnown}
use Rattle.machine_state.specs.Sound.{IsGrounded, IsSound}
use Rattle.machine_state.proofs.Lists.{one_set, one_added, part_at}
use Rattle.machine_laws.specs.OrderParts.{TakesPart}
use Rattle.machine_laws.proofs.OrderKept as order
use Rattle.machine_laws.specs.LocksBehind.{WorksHold, TurnsHold}
use Rattle.machine_laws.proofs.SoundLockSteps.{works_now, turns_now}
use Rattle.machine_laws.proofs.LockPassSteps.{one_changes, two_change, works_split, works_give_up, works_join, turns_split, turns_give_up, turns_join}
use Rattle.machine_laws.proofs.AloneBehind.{split_alone, give_up_alone, join_alone}
use Rattle.machine_laws.proofs.ReadingBehind.{reading_split, reading_given_up, reading_taken_in}
use Rattle.machine_laws.specs.RingBehind.{HasRingWith, HasPagesWith}
use Rattle.machine_laws.proofs.RingPassSteps.{ring-split, ring-taken_in, ring-given_up, pages-split, pages-taken_in, pages-given_up}
use Rattle.machine_laws.specs.PositionParts.{Positions, HasPositions}
use Rattle.machine_laws.proofs.PositionKept as positions
use Rattle.machine_laws.specs.DurableBehind.{HasDurableWith}
use Rattle.machine_laws.proofs.SoundDurableSteps.{durable-split, durable-taken_in, durable-given_up}
use Rattle.machine_laws.proofs.Frames.{grounded_live, watches_still}
use Rattle.machine_laws.proofs.KnownViews.{now, has_now}
use Rattle.machine_laws.proofs.PositionsBehind.{down_known}
use Rattle.machine_laws.proofs.OrderBehind.{takes_part}
use Rattle.machine_laws.proofs.AsyncBehind.{CountsOn, each_counts_on, joins_async, counts_on}
use Rattle.machine_laws.proofs.AlignedBehind.{fresh_aligned, joins_aligned, learns_same}
use Rattle.machine_laws.proofs.FaultBehind.{give_up_failed, join_failed, split_failed}
use Rattle.segment_disk.specs.Tape.{DiskState}

-- a view that is not live, and has neither turn: with nothing in hand, and behind a fault
grounded_spent : (opening : Opening) (down : ℕ) (v : View) → IsGrounded opening down (spent v)
grounded_spent opening down v = record {
  opening_is = λ alive. absurd (cc);
  watches = λ alive. absurd (cc);
  at_rest = λ dead. (refl, refl);
  set_none = λ dead. (refl, refl);
  left = λ dead has. absurd (⊎_elim (λ some_lock. some_lock refl) (λ flies. flies refl) has);
}

grounded_orphan : (opening : Opening) (down : ℕ) (v : View) → down ≢ 0
    → IsGrounded opening down (orphan_of v)
grounded_orphan opening down v failed = record {
  opening_is = λ alive. absurd (cc);
  watches = λ alive. absurd (cc);
  at_rest = λ dead. (refl, refl);
  set_none = λ dead. (refl, refl);
  left = λ dead has. failed;
}

module _ {first : DiskState} (words : List ℕ) (home : Option Plain) (views : List View) (id : ℕ) (v : View)
    (k : IsSound first v.opening words home views) (here : HasAt views id v)
    (live : (v.reserving).live ≡ true) where
  -- the state with other views, of which the parts hold
  module _ (changed : List View) where
    abbrev HasOrderWith : List Reserving → Type 0
    HasOrderWith rs = OrderHolds v.opening k.order
        (position_word words) (prev_word words) rs

    abbrev HasReadingWith : List Writing → Type 0
    HasReadingWith ws = ReadingHolds first v.opening k.memory k.writer ws

    abbrev HasPositionsWith : List Flight → List Writing → Type 0
    HasPositionsWith fs ws = PositionsHold first v.opening k.order (written_word words)
        (flushed_word words) (down_word words) home k.writer fs ws

    changed_sound : ((j : ℕ) (u : View) → HasAt changed j u
        → IsGrounded v.opening (down_word words) u)
        → (rs : List Reserving) → map reserving_of changed ≡ rs → HasOrderWith rs
        → WorksHold v.opening k.order words changed
        → TurnsHold words home k.stage k.writer changed
        → SwitchesStandAlone ((v.opening).setup).seg_size (map working_of changed)
        → HasRingWith v.opening words home views k changed
        → HasPagesWith v.opening words home views k changed
        → (fs : List Flight) → map flight_of changed ≡ fs
        → (ws : List Writing) → map writing_of changed ≡ ws → HasPositionsWith fs ws
        → HasReadingWith ws
        → HasDurableWith v.opening words home views k changed
        → ((j : ℕ) (u : View) → HasAt changed j u
        → CountsOn (async_word (v.opening).setup words) u)
        → ((j : ℕ) (u : View) → HasAt changed j u → LearnsAligned u)
        → FaultIsKnown (down_word words) changed
        → IsSound first v.opening words home changed
    changed_sound grounded rs are_reserving reserved works turns alone ring pages fs are_flights ws
        are_writing positions reading durable counts learn failed = record {
          order = k.order;
          memory = k.memory;
          reach = k.reach;
          stage = k.stage;
          writer = k.writer;
          setup_is = k.setup_is;
          wide = k.wide;
          grounded = grounded;
          reserved = subst (λ (xs : List Reserving). HasOrderWith xs) (sym are_reserving) reserved;
          locks = record {
            locks = works.held;
            mapping = turns.mapping;
            writing = turns.writing;
          };
          progress = works.told;
          alone = alone;
          ring = ring;
          pages = pages;
          positions = subst (λ (x : List Flight × List Writing). HasPositionsWith x.0 x.1)
              (λ j. (sym are_flights j, sym are_writing j)) positions;
          durable = durable;
          reading = subst (λ (ws : List Writing). HasReadingWith ws) (sym are_writing) reading;
          watching = works.watched;
          async = record {
            reserved = (k.async).reserved;
            aligned = (k.async).aligned;
            met = each_counts_on (async_word (v.opening).setup words) changed counts;
          };
          aligned = record {
            locks = (k.aligned).locks;
            written_word = (k.aligned).written_word;
            flushed_word = (k.aligned).flushed_word;
            writer_at = (k.aligned).writer_at;
            views = learn;
          };
          failed = failed;
        }

  abbrev all : Positions
  all = now words home views id v k

  has_all : HasPositions all id v
  has_all = has_now words home views id v k here

  part : TakesPart k.order (position_word words) (prev_word words) (map reserving_of views) id v
  part = takes_part words home views id v k here live

  -- where one view is set, and one is added
  abbrev Grounded : View → Type 0
  Grounded u = IsGrounded v.opening (down_word words) u

  grounded_added : (w x : View) → Grounded w → Grounded x
      → (j : ℕ) (u : View) → HasAt (set views id w ++ x ∷ []) j u → Grounded u
  grounded_added w x changed new =
      one_added (λ j u. Grounded u) (set views id w) x
      (one_set (λ j u. Grounded u) views id w (λ j u apart at. k.grounded j u at) changed) new

  -- what the view has learnt
  learns : LearnsAligned v
  learns = (k.aligned).views id v here

  learns_added : (w x : View) → LearnsAligned w → LearnsAligned x
      → (j : ℕ) (u : View) → HasAt (set views id w ++ x ∷ []) j u → LearnsAligned u
  learns_added w x changed new =
      one_added (λ j u. LearnsAligned u) (set views id w) x
      (one_set (λ j u. LearnsAligned u) views id w
      (λ j u apart at. (k.aligned).views j u at) changed) new

  -- up to where it counts on commits told ahead
  abbrev Counts : View → Type 0
  Counts u = CountsOn (async_word (v.opening).setup words) u

  counts : (j : ℕ) (u : View) → HasAt views j u → Counts u
  counts = counts_on words home views id v k here

  counts_added : (w x : View) → Counts w → Counts x
      → (j : ℕ) (u : View) → HasAt (set views id w ++ x ∷ []) j u → Counts u
  counts_added w x changed new =
      one_added (λ j u. Counts u) (set views id w) x
      (one_set (λ j u. Counts u) views id w (λ j u apart at. counts j u at) changed) new

  -- the view watches for no more than it has seen
  low : (v.watching).end ≤ end_form (v.opening).setup (v.reserving).seen
  low = (k.grounded id v here).watches live

  pub split_sound : (v.reserving).spare < (v.reserving).spare_end
      → IsSound first v.opening words home (set views id (after_split v) ++ split_off v ∷ [])
  split_sound some_left = changed_sound (set views id (after_split v) ++ split_off v ∷ [])
      (grounded_added (after_split v) (split_off v)
      (grounded_live v.opening (down_word words) (after_split v) refl live low)
      (grounded_live v.opening (down_word words) (split_off v) refl refl (omega arith)))
      _ (one_changes reserving_of views id v here (after_split v) (split_off v))
      (order.split_keeps k.order (position_word words) (prev_word words)
      (map reserving_of views) id v part some_left)
      (works_split v.opening k.order words views id v here
      (works_now v.opening words home views k))
      (turns_split words home k.stage k.writer views id v here
      (turns_now v.opening words home views k))
      (split_alone words home views id v k here)
      (ring-split v.opening words home views k id v here)
      (pages-split v.opening words home views k id v here)
      _ (one_changes flight_of views id v here (after_split v) (split_off v))
      _ (one_changes writing_of views id v here (after_split v) (split_off v))
      (positions.split_keeps all id v has_all)
      (reading_split words home views id v k here)
      (durable-split words home views id v k here)
      (counts_added (after_split v) (split_off v) (counts id v here) (omega arith, refl))
      (learns_added (after_split v) (split_off v) (learns_same v (after_split v) refl learns)
      (fresh_aligned v (split_off v) learns refl))
      (split_failed words home views id v k here)

  pub give_up_sound : IsStranded v → IsSound first v.opening words home
      (set views id (without_work v) ++ orphan_of v ∷ [])
  give_up_sound may = changed_sound (set views id (without_work v) ++ orphan_of v ∷ [])
      (grounded_added (without_work v) (orphan_of v)
      (grounded_live v.opening (down_word words) (without_work v) refl live low)
      (grounded_orphan v.opening (down_word words) v (down_known words home views id v k here live may.down)))
      _ (one_changes reserving_of views id v here (without_work v) (orphan_of v))
      (order.give_up_keeps k.order (position_word words) (prev_word words)
      (map reserving_of views) id v part)
      (works_give_up v.opening k.order words views id v here
      (works_now v.opening words home views k))
      (turns_give_up words home k.stage k.writer views id v here
      (turns_now v.opening words home views k))
      (give_up_alone words home views id v k here)
      (ring-given_up v.opening words home views k id v here)
      (pages-given_up v.opening words home views k id v here)
      _ (one_changes flight_of views id v here (without_work v) (orphan_of v))
      _ (one_changes writing_of views id v here (without_work v) (orphan_of v))
      (positions.give_up_keeps all id v has_all)
      (reading_given_up words home views id v k here)
      (durable-given_up words home views id v k here)
      (counts_added (without_work v) (orphan_of v) (counts id v here) (omega arith, refl))
      (learns_added (without_work v) (orphan_of v) (learns_same v (without_work v) refl learns)
      (fresh_aligned v (orphan_of v) learns refl))
      (give_up_failed words home views id v k here)

  pub join_sound : (other : ℕ) (w : View) → HasAt views other w → (w.reserving).live ≡ true
      → id ≢ other → IsResting w
      → IsSound first v.opening words home (set (set views other (spent w)) id (after_join v w))
  join_sound other w there alive apart rests =
      changed_sound (set (set views other (spent w)) id (after_join v w))
      (one_set (λ j u. Grounded u) (set views other (spent w)) id (after_join v w)
      (λ j u not_this at. one_set (λ i x. Grounded x) views other (spent w)
      (λ i x not_other found. k.grounded i x found)
      (grounded_spent v.opening (down_word words) w) j u at)
      (grounded_live v.opening (down_word words) (after_join v w) refl live
      (watches_still (v.opening).setup (k.setup_is).size (v.watching).end (v.reserving).seen
      (max (v.reserving).seen (w.reserving).seen) low (omega arith))))
      _ (two_change reserving_of views id v here other (after_join v w) (spent w))
      (order.join_keeps k.order (position_word words) (prev_word words) (map reserving_of views)
      id v other w part (part_at reserving_of views other w there) alive apart rests.place)
      (works_join v.opening k.order words views id v here
      (works_now v.opening words home views k) other w there apart rests)
      (turns_join words home k.stage k.writer views id v here
      (turns_now v.opening words home views k) other w there rests)
      (join_alone words home views id v k here other w)
      (ring-taken_in v.opening words home views k id v here other w there rests)
      (pages-taken_in v.opening words home views k id v here other w there)
      _ (two_change flight_of views id v here other (after_join v w) (spent w))
      _ (two_change writing_of views id v here other (after_join v w) (spent w))
      (positions.join_keeps all id v has_all other w)
      (reading_taken_in words home views id v k here other w)
      (durable-taken_in words home views id v k here other w there apart)
      (one_set (λ j u. Counts u) (set views other (spent w)) id (after_join v w)
      (λ j u not_this at. one_set (λ i x. Counts x) views other (spent w)
      (λ i x not_other found. counts i x found) (omega arith, refl) j u at)
      (joins_async (async_word (v.opening).setup words) v w (counts id v here)
      (counts other w there)))
      (one_set (λ j u. LearnsAligned u) (set views other (spent w)) id (after_join v w)
      (λ j u not_this at. one_set (λ i x. LearnsAligned x) views other (spent w)
      (λ i x not_other found. (k.aligned).views i x found)
      (fresh_aligned w (spent w) ((k.aligned).views other w there) refl) j u at)
      (joins_aligned v w learns ((k.aligned).views other w there)))
      (join_failed words home views id v k here live other w there apart)

-- ---- of whole states

-- what a live view's own opening makes sound is sound
pub at_own_opening : {first : DiskState} (opening : Opening) (words : List ℕ) (home : Option Plain)
    (views : List View) (id : ℕ) (v : View) → IsSound first opening words home views → HasAt views id v
    → (v.reserving).live ≡ true → (words' : List ℕ) (home' : Option Plain) (views' : List View)
    → (IsSound first v.opening words home views → IsSound first v.opening words' home' views')
    → IsSound first opening words' home' views'
at_own_opening {first} opening words home views id v k here live words' home' views' steps =
    let own : v.opening ≡ opening = (k.grounded id v here).opening_is live in
    subst (λ (o : Opening). IsSound first o words' home' views') own
    (steps (subst (λ (o : Opening). IsSound first o words home views) (sym own) k))

module _ {first : DiskState} (opening : Opening) (s t : State) (id : ℕ) (k : IsSound first opening s.words s.home s.views)
  where
    -- a state whose words, writer and views are these
    sound_as : (words : List ℕ) (home : Option Plain) (views : List View) → t.words ≡ words
        → t.home ≡ home → t.views ≡ views → IsSound first opening words home views
        → IsSound first opening t.words t.home t.views
    sound_as words home views are_words is_home are_views holds =
        subst (λ (x : List ℕ × Option Plain × List View). IsSound first opening x.0 x.1 x.2)
        (λ j. (sym are_words j, sym is_home j, sym are_views j)) holds

    pub splits_keep : Splits id s t → IsSound first opening t.words t.home t.views
    splits_keep m =
        let v : View = m.view in
        let views : List View = set s.views id (after_split v) ++ split_off v ∷ [] in
        sound_as s.words s.home views m.words m.home m.views
        (at_own_opening opening s.words s.home s.views id v k (m.live).0 (m.live).1 s.words s.home
        views
        (λ own. split_sound s.words s.home s.views id v own (m.live).0 (m.live).1 m.may))

    pub gives_up_keeps : GivesUp id s t → IsSound first opening t.words t.home t.views
    gives_up_keeps m =
        let v : View = m.view in
        let views : List View = set s.views id (without_work v) ++ orphan_of v ∷ [] in
        sound_as s.words s.home views m.words m.home m.views
        (at_own_opening opening s.words s.home s.views id v k (m.live).0 (m.live).1 s.words s.home
        views
        (λ own. give_up_sound s.words s.home s.views id v own (m.live).0 (m.live).1 m.may))

    pub joins_keep : (other : ℕ) → Joins id other s t → IsSound first opening t.words t.home t.views
    joins_keep other m =
        let v : View = m.view in
        let w : View = m.other_view in
        let views : List View = set (set s.views other (spent w)) id (after_join v w) in
        sound_as s.words s.home views m.words m.home m.views
        (at_own_opening opening s.words s.home s.views id v k (m.live).0 (m.live).1 s.words s.home
        views
        (λ own. join_sound s.words s.home s.views id v own (m.live).0 (m.live).1 other w
        (m.other_live).0 (m.other_live).1 m.apart m.may))
