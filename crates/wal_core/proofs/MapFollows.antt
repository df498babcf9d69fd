-- At the places of mapping, and where an insert tells its progress and releases its lock, a turn on
-- plain data follows the machine's.
use Rattle.std.proofs.Common.{◌≡◌, inl, inr, ℕ, ◌+◌, ◌*◌, Bool, true, false, cond, eq-eqb, not, ◌||◌, List, [], ◌∷◌, Option, Some, None, refl, sym, ap, subst}
use Rattle.std.proofs.Math.Dec.{ltb, leb}
use Rattle.std.proofs.lemmas.Bool.{cases_Bool}
use Rattle.machine_state.specs.Words.{written_word, initialised_number, written_number}
use Rattle.machine_state.specs.Views.{Free, Copy, Landed, Copying, Stage, Away, Taken, Looked, Ready, Zeroing, Published, Idle, View, is_among}
use Rattle.machine_state.specs.Moves.{landed, standing, without_lock}
use Rattle.machine_state.proofs.WordLists.{word_again}
use Rattle.machine_turns.specs.Doing.{Ask, Machine}
use Rattle.machine_turns.specs.Turned.{can_step, next_page_end}
use Rattle.machine_turns.specs.Standing.{IsRecord, IsUnder}
use Rattle.machine_turns.proofs.Poses.{of_posed, posed}
use Rattle.machine_turns.specs.declared.doing.PlainDoing.{PlainDoing}
use Rattle.machine_turns.specs.declared.doing.PlainDoing.TheVariants as doings
use Rattle.machine_turns.specs.declared.script.PlainLine.{PlainLine}
use Rattle.machine_turns.specs.Writer.{WriterState}
use Rattle.wal_core.specs.Lines.{IsLineFor}
use Rattle.wal_core.specs.PlainData.{doing_of, plain_flight, plain_view}
use Rattle.wal_core.specs.Following.{Follows, StandsPlain, plain_step}
use Rattle.wal_core.proofs.InsertFollows.{by_line}

-- with its only lock a copy lands
pub lands : (lock : ℕ) (c : Copy) → IsUnder lock c → landed lock (Copying c) ≡ Landed
lands lock c under =
    subst (λ (ls : List ℕ). cond (is_among ls lock) (standing c (without_lock lock ls)) (Copying c)
    ≡ Landed) (sym under.locks_are)
    (ap (λ (b : Bool). cond (b || false) (standing c (cond (not b) (lock ∷ []) [])) (Copying c))
    (eq-eqb lock lock refl))

module _ (m : Machine) (number : ℕ) (v : View) (ask : Ask) (line : PlainLine) (copied : Option PlainLine)
    (w : WriterState) where
  abbrev Goal : PlainDoing → View → Type 0
  Goal d u = Follows m u ask d (plain_step m u line copied w d).left

  abbrev GoalFor : PlainDoing → View → Ask → PlainLine → Type 0
  GoalFor d u a l = Follows m u a d (plain_step m u l copied w d).left

  abbrev at_map : ℕ → Copy → Stage → View → View
  at_map lock c s u = posed Free (lock ∷ []) (Copying c) s Idle u

  -- ---- mapping

  takes_turn_at : (lock : ℕ) (c : Copy) (u : View)
      → can_step m (at_map lock c Away u) ask (doing_of (doings.Maps lock)) ≡ true
      → Goal (doings.Maps lock) (at_map lock c Away u)
  takes_turn_at lock c u can = record {
    event = refl;
    next = refl;
    words = rw can refl;
    view = rw can refl;
  }

  looks_at_written : (lock : ℕ) (c : Copy) (at : ℕ) (u : View)
      → Goal (doings.Maps lock) (at_map lock c (Looked at) u)
  looks_at_written lock c at u =
      let pages = ((u.opening).setup).ring_pages in
      record {
        event = refl;
        next = elim (cases_Bool (leb (next_page_end (at_map lock c (Looked at) u)) at)) [
          | inl mapped ↦ rw mapped refl
          | inr ahead ↦ rw ahead (elim (cases_Bool
              (ltb (written_word (m.state).words + pages * 8192) (at + 8192))) [
                | inl old ↦ rw old refl
                | inr written ↦ rw written refl
              ])
        ];
        words = sym (word_again (m.state).words written_number);
        view = refl;
      }

  zeroes_at : (lock : ℕ) (c : Copy) (at count : ℕ) (u : View)
      → Goal (doings.Maps lock) (at_map lock c (Zeroing at count) u)
  zeroes_at lock c at count u = elim (cases_Bool (ltb count 1024)) [
    | inl more ↦ record {
      event = rw more refl;
      next = rw more refl;
      words = rw more refl;
      view = rw more refl;
    }
    | inr all ↦ record {
      event = rw all refl;
      next = rw all refl;
      words = rw all refl;
      view = rw all refl;
    }
  ]

  maps_at : (lock : ℕ) (c : Copy) (s : Stage) (u : View)
      → can_step m (at_map lock c s u) ask (doing_of (doings.Maps lock)) ≡ true
      → Goal (doings.Maps lock) (at_map lock c s u)
  maps_at lock c Away u can = takes_turn_at lock c u can
  maps_at lock c Taken u can = record {
    event = refl;
    next = refl;
    words = sym (word_again (m.state).words initialised_number);
    view = refl;
  }
  maps_at lock c (Looked at) u can = looks_at_written lock c at u
  maps_at lock c (Ready at written) u can = record {
    event = refl;
    next = refl;
    words = refl;
    view = refl;
  }
  maps_at lock c (Zeroing at count) u can = zeroes_at lock c at count u
  maps_at lock c (Published at) u can = record {
    event = refl;
    next = refl;
    words = refl;
    view = refl;
  }

  pub maps_follow : (lock : ℕ) → StandsPlain m number v ask line copied w (doings.Maps lock)
      → Follows m v ask (doings.Maps lock) (plain_step m v line copied w (doings.Maps lock)).left
  maps_follow lock s =
      let stage = s.stands.0.0 in
      let c = s.stands.0.1.0 in
      of_posed (λ (u : View). can_step m u ask (doing_of (doings.Maps lock)) ≡ true
      → Goal (doings.Maps lock) u)
      Free (lock ∷ []) (Copying c) stage Idle v s.stands.0.1.1
      (maps_at lock c stage v) s.can

  -- ---- the turn given back, and progress told

  gives_turn_at : (lock : ℕ) (end : Option ℕ) (c : Copy) (s : Stage) (u : View)
      → Goal (doings.GivesTurn lock end) (at_map lock c s u)
  gives_turn_at lock None c s u = record {
    event = refl;
    next = refl;
    words = refl;
    view = refl;
  }
  gives_turn_at lock (Some end) c s u = record {
    event = refl;
    next = refl;
    words = refl;
    view = refl;
  }

  pub gives_turn_follow : (lock : ℕ) (end : Option ℕ)
      → StandsPlain m number v ask line copied w (doings.GivesTurn lock end)
      → Follows m v ask (doings.GivesTurn lock end)
      (plain_step m v line copied w (doings.GivesTurn lock end)).left
  gives_turn_follow lock end s =
      let stage = s.stands.0.0 in
      let c = s.stands.0.1.0 in
      of_posed (Goal (doings.GivesTurn lock end)) Free (lock ∷ []) (Copying c) stage Idle v
      s.stands.0.1.1 (gives_turn_at lock end c stage v)

  tells_at : (lock end : ℕ) (c : Copy) (u : View)
      → Goal (doings.Tells lock end) (at_map lock c Away u)
  tells_at lock end c u = record {
    event = refl;
    next = refl;
    words = refl;
    view = refl;
  }

  pub tells_follow : (lock end : ℕ)
      → StandsPlain m number v ask line copied w (doings.Tells lock end)
      → Follows m v ask (doings.Tells lock end)
      (plain_step m v line copied w (doings.Tells lock end)).left
  tells_follow lock end s =
      let c = s.stands.0.0 in
      of_posed (Goal (doings.Tells lock end)) Free (lock ∷ []) (Copying c) Away Idle v
      s.stands.0.1 (tells_at lock end c v)

  -- ---- the release

  releases_full_at : (lock : ℕ) (u : View)
      → Goal (doings.Releases lock true) (posed Free (lock ∷ []) Landed Away Idle u)
  releases_full_at lock u = record {
    event = refl;
    next = refl;
    words = refl;
    view = refl;
  }

  releases_at : (lock : ℕ) (c : Copy) (u : View) → IsUnder lock c → IsLineFor ask line
      → IsRecord ask → Goal (doings.Releases lock false) (at_map lock c Away u)
  releases_at lock c u under is record_is =
      let size = ((u.opening).setup).seg_size in
      let gone = sym (lands lock c under) in
      by_line (GoalFor (doings.Releases lock false) (at_map lock c Away u))
      (λ value writable. record {
        event = refl;
        next = refl;
        words = refl;
        view = λ i. record (plain_view (at_map lock c Away u)) {
          flight = plain_flight size (gone i);
        };
      })
      (λ value writable. record {
        event = refl;
        next = refl;
        words = refl;
        view = λ i. record (plain_view (at_map lock c Away u)) {
          flight = plain_flight size (gone i);
        };
      }) ask line is record_is

  pub releases_follow : (lock : ℕ) (full : Bool)
      → StandsPlain m number v ask line copied w (doings.Releases lock full)
      → Follows m v ask (doings.Releases lock full)
      (plain_step m v line copied w (doings.Releases lock full)).left
  releases_follow lock true s = of_posed (Goal (doings.Releases lock true)) Free (lock ∷ [])
      Landed Away Idle v s.stands (releases_full_at lock v)
  releases_follow lock false s =
      let c = s.stands.0.0 in
      of_posed (Goal (doings.Releases lock false)) Free (lock ∷ []) (Copying c) Away Idle v
      s.stands.0.1 (releases_at lock c v s.stands.0.2 s.line_is s.stands.1)
