-- Each kind of step is allowed on the table: the machine's laws, in the words of `atomic_table`.
use Rattle.std.specs.Prelude.{if◌then◌else◌, ◌==◌}
use Rattle.std.proofs.Common.{◌≡◌, ℕ, ◌<◌, Bool, true, false, length, length-set, arith, List, [], ◌∷◌, ◌++◌, set, slice_index, refl, sym, ap, ◌∙◌, subst}
use mathlib.Core.Option.{Option, none, some, some-injective, some-ne-none}
use lib.ListN.{get_elem?}
use lib.Seq.{set_comm}
use prog.Atomic.{either}
use Rattle.atomic_table.specs.Table.{State, Me, Allows, Joins, Splits, gives, keeps, put_back, rest, takes}
use Rattle.atomic_table.proofs.Lists.{at_map, set_again, set_else, set_here}
use Rattle.machine_state.proofs.Lists.{at_below}
use Rattle.machine_state.proofs.WordLists.{word_again}
use Rattle.segment_disk.specs.Tape.{DiskState, Tape}
use Rattle.machine_state.specs.Words.{Opening, write_turn, write_turn_number}
use Rattle.machine_state.specs.Views.{Hold, Plain, Turned, View, writer_of, Lent}
use Rattle.machine_state.specs.Locked.{StandsTo}
use Rattle.machine_state.specs.Moves.{after_join, orphan_of, spent, split_off, after_split, without_work}
use Rattle.machine_state.specs.Sound.{IsSound}
use Rattle.machine_state.specs.Steps.{Abandons, StepKind, MayStep, Moves, SplitsOff, TakesIn, returned, slot_in, slot_out, word_of_step, value_behind, home_behind, view_behind, IsResting, IsStranded}
use Rattle.machine_state.specs.Steps as machine
use Rattle.machine_laws.proofs.EveryStep.{step_keeps}
use Rattle.machine_laws.specs.RisingMoments.{MomentsKeepRising}
use Rattle.machine_laws.proofs.EveryMoment.{steps_rise}
use Rattle.wal_rule.specs.declared.writer.LogWriter.{LogWriter}
use Rattle.wal_rule.specs.Slotted.{IsOfLog, first_on, slot_plain}
use Rattle.wal_rule.specs.Stepping.{IsQuiet, Meets, Stands}
use Rattle.wal_rule.specs.Ruled.{HasInHand, IsOutOf, IsRuled, home_of}
use Rattle.wal_rule.proofs.Steady.{steady}
use Rattle.wal_rule.proofs.QuietSteps.{home_on, quiet_behind}

pub either_if : (b : Bool) (x y : ℕ) → either b x y ≡ (if b then x else y)
either_if true x y = refl
either_if false x y = refl

-- a sound state of the machine in which moments rise
abbrev pub SoundAndRises : DiskState → Opening → List ℕ → Option Plain → List View → Type 0
SoundAndRises first opening words home views = (sound : IsSound first opening words home views)
    × MomentsKeepRising opening words home views sound

-- a step of the machine leaves another one
kept_behind : (first : DiskState) (opening : Opening) (s t : machine.State)
    → SoundAndRises first opening s.words s.home s.views → machine.MachineStep s t
    → SoundAndRises first opening t.words t.home t.views
kept_behind first opening s t k step =
    let sound : IsSound first opening t.words t.home t.views = step_keeps first opening s t k.0 step in
    (sound, steps_rise opening s t k.0 k.1 step sound)

module _ {D : Type 0} (tape : D → Rattle.std.specs.Prelude.Option Tape) (moment faults : D → ℕ)
    (opening : Opening) (began : Rattle.std.specs.Prelude.Option Tape) where
  abbrev first : DiskState
  first = first_on began

  abbrev Held : State (LogWriter D) View → Type 0
  Held s = IsRuled tape moment faults opening began s.words s.homes s.views

  -- ---- the slot

  home_none : (homes : List (Option (LogWriter D))) → length homes ≡ 1
      → home_of tape moment faults (set homes 0 none) ≡ none
  home_none [] one = absurd (omega arith)
  home_none (h ∷ homes) one = refl

  home_some : (homes : List (Option (LogWriter D))) (w : LogWriter D) → length homes ≡ 1
      → home_of tape moment faults (set homes 0 (some w)) ≡ some (slot_plain tape moment w)
  home_some [] w one = absurd (omega arith)
  home_some (h ∷ homes) w one = refl

  pub is_home : (homes : List (Option (LogWriter D))) (p : Plain)
      → home_of tape moment faults homes ≡ some p
      → (w : LogWriter D) × (get_elem? homes 0 ≡ some (some w))
      × (home_of tape moment faults homes ≡ some (slot_plain tape moment w))
  is_home [] p e = absurd (some-ne-none p (sym e))
  is_home (none ∷ homes) p e = absurd (some-ne-none p (sym e))
  is_home (some w ∷ homes) p e = (w, refl, refl)

  module _ (slots id : ℕ) (me : Me (LogWriter D) View)
      (live : ((me.0).reserving).live ≡ true) where
    abbrev mine : View
    mine = me.0

    -- one step of the machine, of the state that the table's is
    pub stepped : (e : StepKind) → MayStep mine e → (s : State (LogWriter D) View) → Held s
        → get_elem? s.views id ≡ some me.0 → (home : Option Plain) (w : View)
        → home ≡ home_behind mine e (home_of tape moment faults s.homes)
        → w ≡ view_behind mine e (slice_index s.words (word_of_step mine e))
        (home_of tape moment faults s.homes)
        → SoundAndRises first opening (set s.words (word_of_step mine e)
        (value_behind mine e (slice_index s.words (word_of_step mine e)))) home
        (set s.views id w)
    stepped e may s k here home w home_is is =
        let met : ℕ = slice_index s.words (word_of_step mine e) in
        let old : List View = s.views in
        let before : machine.State =
        record { words = s.words; home = home_of tape moment faults s.homes; views = old } in
        let after : machine.State = record {
          words = set s.words (word_of_step mine e) (value_behind mine e met);
          home = home;
          views = set s.views id w;
        } in
        kept_behind first opening before after (k.sound, k.rises) (Moves id e met (record {
          view = mine;
          live = (here, live);
          may = may;
          met_is = refl;
          words = refl;
          home = home_is;
          views = ap (λ (u : View). set s.views id u) is;
        }))

    -- what the pass's view is of, as the rule says
    own_opening : (s : State (LogWriter D) View) → Held s → get_elem? s.views id ≡ some me.0
        → (me.0).opening ≡ opening
    own_opening s k here =
        ((k.sound).grounded id mine here).opening_is live

    -- the view stands in the table's state
    abbrev stands_now : (s : State (LogWriter D) View) → Held s → get_elem? s.views id ≡ some me.0
        → Stands me.0
    stands_now s k here =
        let home : Option Plain = home_of tape moment faults s.homes in
        record {
          first = first;
          words = s.words;
          home = home;
          views = s.views;
          id = id;
          sound = subst (λ (o : Opening). IsSound first o s.words home s.views)
              (sym (own_opening s k here)) k.sound;
          here = here;
        }

    -- the view stands in the state that a step leaves
    pub stands_in : (s : State (LogWriter D) View) → Held s → get_elem? s.views id ≡ some me.0
        → (words : List ℕ) (home : Option Plain) (w : View) → w.opening ≡ (me.0).opening
        → IsSound first opening words home (set s.views id w) → Stands w
    stands_in s k here words home w is sound = record {
      first = first;
      words = words;
      home = home;
      views = set s.views id w;
      id = id;
      sound = subst (λ (o : Opening). IsSound first o words home
          (set s.views id w)) (sym (is ∙ own_opening s k here)) sound;
      here = set_here s.views id w (at_below s.views me.0 id here);
    }

    -- a step of a kind that moves no writer and calls no device: `value` says what the table's call
    -- leaves of the word
    pub quietly : (e : StepKind) → IsQuiet e → MayStep me.0 e → (word : ℕ)
        → word ≡ word_of_step me.0 e → (f : ℕ → ℕ)
        → ((met : ℕ) → f met ≡ value_behind me.0 e met)
        → Allows Held slots id me word f
        (λ r n. (n ≡ (view_behind me.0 e r none, me.1)) × Stands n.0)
    quietly e quiet may word word_is f value = subst
        (λ (i : ℕ). Allows Held slots id me i f
        (λ r n. (n ≡ (view_behind me.0 e r none, me.1)) × Stands n.0))
        (sym word_is)
        (λ s k _ here _.
        let home : Option Plain = home_of tape moment faults s.homes in
        let met : ℕ = slice_index s.words (word_of_step mine e) in
        let w : View = view_behind me.0 e met none in
        let kept = subst (λ (n : ℕ). SoundAndRises first opening
        (set s.words (word_of_step mine e) n) home (set s.views id w))
        (sym (value met))
        (stepped e may s k here home w
        (home_on me.0 e quiet home) (quiet_behind me.0 e quiet met home none)) in (
          w,
          keeps,
          tt,
          record { one = k.one; of_log = k.of_log; sound = kept.0; rises = kept.1 },
          (refl, stands_in s k here _ home w (steady me.0 e quiet met none).0 kept.0),
        ))

    -- the same, which tells also that its number was met
    pub met_quietly : (e : StepKind) → IsQuiet e → MayStep me.0 e → (word : ℕ)
        → word ≡ word_of_step me.0 e → (f : ℕ → ℕ)
        → ((met : ℕ) → f met ≡ value_behind me.0 e met)
        → Allows Held slots id me word f
        (λ r n. (n ≡ (view_behind me.0 e r none, me.1)) × Stands n.0 × Meets me.0 e r)
    met_quietly e quiet may word word_is f value s k at here fits =
        let step = quietly e quiet may word word_is f value s k at here fits in (
          step.0,
          step.1,
          step.2,
          step.3,
          (
            (step.4).0,
            (step.4).1,
            record {
              before = stands_now s k here;
              met_is = ap (λ (i : ℕ). slice_index s.words i) word_is;
            },
          ),
        )

    -- a load that changes nothing of what the pass knows
    pub looks_on : (word : ℕ)
        → Allows Held slots id me word (λ n. n) (λ r n. (n ≡ me) × Stands n.0)
    looks_on word s k _ here _ =
        let met : ℕ = slice_index s.words word in
        let same : IsRuled tape moment faults opening began (set s.words word met) s.homes
        (set s.views id me.0) =
        subst (λ (ws : List ℕ). IsRuled tape moment faults opening began ws s.homes
        (set s.views id me.0)) (sym (word_again s.words word))
        (subst (λ (vs : List View). IsRuled tape moment faults opening began s.words s.homes vs)
        (sym (set_again s.views id me.0 here)) k) in (
          me.0,
          keeps,
          tt,
          same,
          (refl, stands_in s k here _ _ me.0 refl same.sound),
        )

    -- the same of a store, which tells nothing
    pub told_stored : (e : StepKind) → IsQuiet e → MayStep me.0 e → (word : ℕ)
        → word ≡ word_of_step me.0 e → (value : ℕ)
        → ((met : ℕ) → value ≡ value_behind me.0 e met)
        → ((met other : ℕ) → view_behind me.0 e met none ≡ view_behind me.0 e other none)
        → Allows Held slots id me word (λ _. value)
        (λ _ n. (n ≡ (view_behind me.0 e value none, me.1)) × Stands n.0)
    told_stored e quiet may word word_is value stores meets_none s k at here fits =
        let step = quietly e quiet may word word_is (λ _. value) stores s k at here fits in (
          step.0,
          step.1,
          step.2,
          step.3,
          (
            (step.4).0 ∙ ap (λ (v : View). (v, me.1))
                (meets_none (slice_index s.words word) value),
            (step.4).1,
          ),
        )

    -- who has the turn finds the writer at home
    at_home : (me.0).writing.hold ≡ Turned → (s : State (LogWriter D) View) (k : Held s)
        → get_elem? s.views id ≡ some me.0
        → home_of tape moment faults s.homes ≡ some (k.sound).writer
    at_home is s k here =
        let t = ((k.sound).locks).writing in
        let stands = subst (λ (h : Hold). StandsTo (write_turn s.words) t.holder
        (home_of tape moment faults s.homes) (k.sound).writer id ((me.0).reserving).number h)
        is
        (t.each id (writer_of mine) (at_map writer_of s.views id mine
        here)) in
        stands.2

    pub goes_out : MayStep me.0 slot_out → (told : Rattle.std.specs.Prelude.Option Tape) → told ≡ began
        → (of : Opening) → of ≡ opening → Allows Held slots id me write_turn_number (λ n. n)
        (λ r n. (w : LogWriter D) × IsOutOf tape moment faults told of r w me n × Stands n.0)
    goes_out may told told_is of of_is s k _ here _ =
        let one = k.one in
        let met : ℕ = slice_index s.words write_turn_number in
        let turned : (me.0).writing.hold ≡ Turned = may in
        let found = is_home s.homes (k.sound).writer (at_home turned s k here) in
        let p : Plain = slot_plain tape moment found.0 in
        let of_log : IsOfLog tape faults began opening found.0 = k.of_log found.0 found.1 in
        let w : View = view_behind me.0 slot_out met (some p) in
        let kept = stepped slot_out turned s k here
        (home_of tape moment faults (set s.homes 0 none)) w (home_none s.homes k.one)
        (ap (λ (h : Option Plain). view_behind mine slot_out met h) (sym found.2)) in (
          w,
          takes 0 found.0,
          found.1,
          record {
            one = length-set s.homes 0 none ∙ k.one;
            of_log = λ x at. absurd (some-ne-none x (some-injective (some x) none
                (sym at ∙ set_here s.homes 0 none (omega arith))));
            sound = kept.0;
            rises = kept.1;
          },
          (
            found.0,
            record {
              of_log = subst (λ (o : Opening). IsOfLog tape faults told o found.0) (sym of_is)
                  (subst (λ (d : Rattle.std.specs.Prelude.Option Tape). IsOfLog tape faults d opening
                  found.0)
                  (sym told_is) of_log);
              me_is = refl;
            },
            stands_in s k here _ _ w refl kept.0,
          ),
        )

    pub comes_in : (l : Lent) (w : LogWriter D)
        → HasInHand tape moment faults began opening me l w → MayStep me.0 slot_in
        → Allows Held slots id me write_turn_number (λ n. n)
        (λ r n. (n ≡ (view_behind me.0 slot_in r none, [])) × Stands n.0)
    comes_in l w has may s k _ here _ =
        let one = k.one in
        let met : ℕ = slice_index s.words write_turn_number in
        let home : Option Plain = home_of tape moment faults s.homes in
        let v : View = view_behind me.0 slot_in met none in
        let returned_is : returned mine (me.0).writing.hold home
        ≡ some (slot_plain tape moment w) =
        ap (λ (h : Hold). returned mine h home) has.hold
        ∙ ap (λ (x : Plain). some x) has.kept in
        let kept = stepped slot_in may s k here
        (home_of tape moment faults (set s.homes 0 (some w))) v
        (home_some s.homes w k.one ∙ sym returned_is) refl in
        let back : IsRuled tape moment faults opening began (set s.words write_turn_number met)
        (set s.homes 0 (some w)) (set s.views id v) = record {
          one = length-set s.homes 0 (some w) ∙ k.one;
          of_log = λ x at. subst (λ (y : LogWriter D). IsOfLog tape faults began opening y)
              (some-injective w x (some-injective (some w) (some x)
              (sym (set_here s.homes 0 (some w) (omega arith)) ∙ at))) has.of_log;
          sound = kept.0;
          rises = kept.1;
        } in (
          v,
          gives,
          tt,
          subst (λ (c : List (ℕ × LogWriter D)). IsRuled tape moment faults opening began
              (set s.words write_turn_number met) (put_back s.homes c) (set s.views id v)) (sym has.slot) back,
          (
            ap (λ (c : List (ℕ × LogWriter D)). (v, rest c)) has.slot,
            stands_in s k here _ _ v refl back.sound,
          ),
        )

  pub splits_off : (id : ℕ) (v : View) → (v.reserving).live ≡ true
      → (v.reserving).spare < (v.reserving).spare_end
      → Splits Held id v (after_split v) (split_off v)
  splits_off id v live may s k here =
      let home : Option Plain = home_of tape moment faults s.homes in
      let old : List View = s.views in
      let left : List View = set s.views id (after_split v) in
      let before : machine.State = record { words = s.words; home = home; views = old } in
      let after : machine.State = record {
        words = s.words;
        home = home;
        views = left ++ split_off v ∷ [];
      } in
      let kept = kept_behind first opening before after (k.sound, k.rises) (SplitsOff id (record {
        view = v;
        live = (here, live);
        may = may;
        words = refl;
        home = refl;
        views = refl;
      })) in
      record { one = k.one; of_log = k.of_log; sound = kept.0; rises = kept.1 }

  pub gives_up : (id : ℕ) (v : View) → (v.reserving).live ≡ true → IsStranded v
      → Splits Held id v (without_work v) (orphan_of v)
  gives_up id v live stranded s k here =
      let home : Option Plain = home_of tape moment faults s.homes in
      let old : List View = s.views in
      let left : List View = set s.views id (without_work v) in
      let before : machine.State = record { words = s.words; home = home; views = old } in
      let after : machine.State = record {
        words = s.words;
        home = home;
        views = left ++ orphan_of v ∷ [];
      } in
      let kept = kept_behind first opening before after (k.sound, k.rises) (Abandons id (record {
        view = v;
        live = (here, live);
        may = stranded;
        words = refl;
        home = refl;
        views = refl;
      })) in
      record { one = k.one; of_log = k.of_log; sound = kept.0; rises = kept.1 }

  pub joins_in : (id : ℕ) (v : View) (other : ℕ) (w : View)
      → (v.reserving).live ≡ true → (w.reserving).live ≡ true → IsResting w
      → (left : View) → left ≡ spent w
      → Joins Held id v other w (after_join v w) left
  joins_in id v other w live alive rests left is s k here apart there =
      let home : Option Plain = home_of tape moment faults s.homes in
      let old : List View = s.views in
      let both : List View = set s.views id (after_join v w) in
      let before : machine.State = record { words = s.words; home = home; views = old } in
      let after : machine.State = record {
        words = s.words;
        home = home;
        views = set both other left;
      } in
      let found : get_elem? s.views other ≡ some w =
      sym (set_else s.views id other (after_join v w) apart) ∙ there in
      let kept = kept_behind first opening before after (k.sound, k.rises) (TakesIn id other (record {
        view = v;
        other_view = w;
        live = (here, live);
        other_live = (found, alive);
        apart = λ e. apart (sym e);
        may = rests;
        words = refl;
        home = refl;
        views = ap (λ (x : View). set both other x) is
            ∙ set_comm old id other (after_join v w) (spent w) (λ e. apart (sym e));
      })) in
      record { one = k.one; of_log = k.of_log; sound = kept.0; rises = kept.1 }
