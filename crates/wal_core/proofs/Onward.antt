-- Plain data go on to be a machine's behind a step by one backend.
use Rattle.std.proofs.Common.{◌≡◌, ◌≢◌, ⊎_elim, ℕ, ◌+◌, ◌*◌, Bool, ◌||◌, List, take, set, slice_get, Some, sym, ap, ◌∙◌, subst, arith}
use mathlib.Core.Option.{some}
use Rattle.machine_state.specs.Words.{write_turn}
use Rattle.machine_state.specs.Views.{HasAt, Hold, Lent, Out, Plain, View, writer_of}
use Rattle.machine_state.specs.Locked.{StandsTo}
use Rattle.machine_state.specs.Sound.{IsSound}
use Rattle.machine_state.specs.Steps.{IsLive, State}
use Rattle.machine_state.proofs.Lists.{at_place, at_else, one_set, part_at}
use Rattle.machine_turns.specs.Doing.{Backend, Machine}
use Rattle.machine_turns.specs.Standing.{HasBackend, IsRunning}
use Rattle.machine_turns.specs.Turned.{bytes_staged}
use Rattle.machine_turns.specs.declared.doing.PlainDoing.{PlainDoing}
use Rattle.machine_turns.specs.declared.doing.PlainDoing.TheVariants as doings
use Rattle.machine_turns.specs.declared.lane.PlainBackend.{PlainBackend}
use Rattle.machine_turns.specs.Lanes.{PlayedTurn}
use Rattle.machine_turns.specs.Writer.{WriterState}
use Rattle.wal_core.proofs.Keeping.{IsLikeWriter, MayWrite}
use Rattle.wal_core.specs.Playing.{CoreState, HasCallRoom, HasLaneOf, HasLoaded, HasRoomFor, HoldsPageFor, IsLaneOf, IsWriterOf, PlaysMachine, core_behind}
use Rattle.wal_core.proofs.Lists.{set_cases, set_here, set_there, length_set}

module _ (core : CoreState) (m : Machine) (k : PlaysMachine core m) (number : ℕ) (b : Backend)
    (here : HasBackend m number b) (lane : PlainBackend) (at : slice_get core.lanes number ≡ Some lane)
    (v : View) (live : IsLive m.state (number + 1) v) where
  abbrev views : List View
  views = (m.state).views

  abbrev sound : IsSound m.first m.opening (m.state).words (m.state).home (m.state).views
  sound = (k.running).sound

  -- how a view stands to the writer that has it in hand
  held_by : (id : ℕ) (u : View) (l : Lent) → HasAt views id u → (u.writing).hold ≡ Out l
      → ((sound.locks).writing).holder ≡ id
  held_by id u l at_u is = (subst
      (λ (h : Hold). StandsTo (write_turn (m.state).words) ((sound.locks).writing).holder
      (m.state).home sound.writer id (u.reserving).number h) is
      (((sound.locks).writing).each id (writer_of u) (part_at writer_of views id u at_u))).1

  -- no other view has it
  alone : (id : ℕ) (u : View) (l g : Lent) → id ≢ number + 1 → HasAt views id u
      → (v.writing).hold ≡ Out l → (u.writing).hold ≡ Out g → ⊥
  alone id u l g apart at_u mine theirs =
      apart (sym (held_by id u g at_u theirs) ∙ held_by (number + 1) v l live.0 mine)

  module _ (p : PlayedTurn) (s : State) (w : View) (c : Backend) (full : Bool)
      (words_are : s.words ≡ p.words)
      (views_are : s.views ≡ set views (number + 1) w)
      (writes : MayWrite core.writer p.writer v)
      (at_home : (x : Plain) → s.home ≡ some x → x ≡ (p.writer).plain)
      (in_hand : (l : Lent) → (w.writing).hold ≡ Out l → l.writer ≡ (p.writer).plain)
      (mine : IsLaneOf (p.writer).page p.lane c w)
      (number_kept : (w.reserving).number ≡ (v.reserving).number)
      (number_is : (v.reserving).number ≡ number + 1)
      (like : IsLikeWriter core.writer p.writer)
      (full_is : full ≡ core.full || p.full)
      (room : HasRoomFor (core_behind core number p))
      (calls : HasCallRoom core.setup.seg_size p.words p.writer (set core.lanes number p.lane))
    where
      abbrev later : Machine
      later = record m {
        state = s;
        backends = set m.backends number c;
        full = full;
      }

      -- the writer of all other views is still the same
      others_hand : (id : ℕ) (u : View) (l : Lent) → id ≢ number + 1 → HasAt views id u
          → (u.writing).hold ≡ Out l → l.writer ≡ (p.writer).plain
      others_hand id u l apart at_u is = ⊎_elim
          (λ (same : p.writer ≡ core.writer).
          (k.writer_is).in_hand id u l at_u is ∙ ap (λ (x : WriterState). x.plain) (sym same))
          (λ (mine : (g : Lent) × ((v.writing).hold ≡ Out g)).
          absurd (alone id u mine.0 l apart at_u mine.1 is)) writes

      writer_on : IsWriterOf (p.writer).plain s.home s.views
      writer_on = record {
        at_home = at_home;
        in_hand = λ id u l at_u is. one_set
            (λ (j : ℕ) (x : View). (g : Lent) → (x.writing).hold ≡ Out g
            → g.writer ≡ (p.writer).plain) views (number + 1) w
            (λ j x apart at_x g holds. others_hand j x g apart at_x holds) in_hand id u
            (subst (λ (vs : List View). HasAt vs id u) views_are at_u) l is;
      }

      -- the page of all other lanes is still theirs
      loaded_on : (j : ℕ) (u : View) (n : ℕ) → j ≢ number → HasAt views (j + 1) u
          → HasLoaded (core.writer).page n u → HasLoaded (p.writer).page n u
      loaded_on j u n apart at_u had l is = ⊎_elim
          (λ (same : p.writer ≡ core.writer).
          subst (λ (x : WriterState). take (8 * n) x.page ≡ bytes_staged u (take n l.staged))
          (sym same) (had l is))
          (λ (mine : (g : Lent) × ((v.writing).hold ≡ Out g)).
          absurd (alone (j + 1) u mine.0 l (λ is_same. apart (omega (arith, is_same))) at_u mine.1
          is)) writes

      holds_on : (j : ℕ) (u : View) → j ≢ number → HasAt views (j + 1) u → (d : PlainDoing)
          → HoldsPageFor (core.writer).page u d → HoldsPageFor (p.writer).page u d
      holds_on j u apart at_u (doings.LoadsPage purpose loaded) had =
          loaded_on j u loaded apart at_u had
      holds_on j u apart at_u (doings.Creates purpose) had = loaded_on j u 1024 apart at_u had
      holds_on j u apart at_u (doings.Writes purpose) had = loaded_on j u 1024 apart at_u had
      holds_on j u apart at_u doings.Begins had = tt
      holds_on j u apart at_u (doings.Tries taken) had = tt
      holds_on j u apart at_u (doings.Reserves lock) had = tt
      holds_on j u apart at_u (doings.Looks lock) had = tt
      holds_on j u apart at_u (doings.Copies lock) had = tt
      holds_on j u apart at_u (doings.Maps lock) had = tt
      holds_on j u apart at_u (doings.GivesTurn lock end) had = tt
      holds_on j u apart at_u (doings.Tells lock end) had = tt
      holds_on j u apart at_u (doings.Releases lock full) had = tt
      holds_on j u apart at_u doings.FlushBegins had = tt
      holds_on j u apart at_u doings.LoadsPosition had = tt
      holds_on j u apart at_u doings.LoadsFlushed had = tt
      holds_on j u apart at_u doings.LoadsMoment had = tt
      holds_on j u apart at_u (doings.Visits purpose lock) had = tt
      holds_on j u apart at_u (doings.TakesTurn purpose) had = tt
      holds_on j u apart at_u (doings.LoadsDown purpose) had = tt
      holds_on j u apart at_u (doings.TakesOut purpose) had = tt
      holds_on j u apart at_u (doings.SyncsFull purpose) had = tt
      holds_on j u apart at_u doings.SyncsLast had = tt
      holds_on j u apart at_u (doings.StoresWritten purpose) had = tt
      holds_on j u apart at_u doings.StoresMoment had = tt
      holds_on j u apart at_u doings.StoresFlushed had = tt
      holds_on j u apart at_u (doings.SetsDown purpose) had = tt
      holds_on j u apart at_u (doings.PutsBack purpose failed) had = tt
      holds_on j u apart at_u (doings.GivesWriteTurn purpose failed) had = tt

      other_lane : (j : ℕ) (d : Backend) → j ≢ number → HasBackend m j d
          → HasLaneOf (core_behind core number p) later j d
      other_lane j d apart there =
          let old = k.lanes j d there in
          let u = old.2.0 in
          let is = old.2.2 in (
            old.0,
            set_there core.lanes number j old.0 p.lane apart old.1,
            (
              u,
              subst (λ (vs : List View). HasAt vs (j + 1) u) (sym views_are)
                  (at_else views (number + 1) (j + 1) w u
                  (λ same. apart (omega (arith, same))) old.2.1),
              record {
                lines = is.lines;
                answered = is.answered;
                counted = is.counted;
                doing = is.doing;
                view = is.view;
                copies = is.copies;
                loaded = λ ask left. holds_on j u apart old.2.1 (old.0).doing (is.loaded ask left);
                few = is.few;
                ended = is.ended;
              },
              old.2.3,
            ),
          )

      own_lane : HasLaneOf (core_behind core number p) later number c
      own_lane = (
        p.lane,
        set_here core.lanes number lane p.lane at,
        (
          w,
          subst (λ (vs : List View). HasAt vs (number + 1) w) (sym views_are)
              (at_place views (number + 1) v w live.0),
          mine,
          number_kept ∙ number_is,
        ),
      )

      pub plays_on : IsRunning later → PlaysMachine (core_behind core number p) later
      plays_on running = record {
        running = running;
        first_is = k.first_is ∙ sym like.first_kept;
        setup_is = k.setup_is;
        since = k.since;
        unfailed = k.unfailed;
        words_are = words_are;
        pages_are = k.pages_are;
        size_is = like.size_kept ∙ k.size_is;
        failing_are = k.failing_are ∙ sym like.failing_kept;
        page_whole = like.whole;
        writer_is = writer_on;
        lanes = λ j d there. ⊎_elim
            (λ (x : (j ≡ number) × (c ≡ d)). subst
            (λ (y : ℕ × Backend). HasLaneOf (core_behind core number p) later y.0 y.1)
            (λ i. (sym x.0 i, x.1 i)) own_lane)
            (λ (x : (j ≢ number) × HasBackend m j d). other_lane j d x.0 x.1)
            (set_cases m.backends number j c d there);
        count = length_set core.lanes number p.lane ∙ k.count
            ∙ sym (length_set m.backends number c);
        full_is = full_is;
        room = room;
        calls = calls;
      }
