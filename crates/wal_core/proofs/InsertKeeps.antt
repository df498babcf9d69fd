-- At the places of an insert: a turn on plain data leads to a try of one of eight locks at most,
-- and what the machine copies behind it is what it copied before, or the record of the line.
use Rattle.std.proofs.Common.{◌≡◌, ◌⊎◌, inl, inr, ℕ, ◌+◌, ◌-◌, ◌*◌, ◌<◌, Bool, true, false, cond, eqb, eq-eqb, List, [], ◌∷◌, Option, Some, None, refl, sym, ap, ◌∙◌, arith}
use Rattle.std.proofs.Math.Dec.{ltb, leb}
use Rattle.std.proofs.lemmas.Bool.{cases_Bool, eqb-false}
use Rattle.wal_types.specs.declared.record.Record.{Record}
use Rattle.machine_state.specs.declared.setup.Setup.{Setup}
use Rattle.machine_state.specs.Words.{lock_word, log_limit, position_word}
use Rattle.machine_state.specs.Views.{Place, Free, Locked, Loaded, Stored, Copy, Landed, Copying, Stage, Away, Taken, Looked, Ready, Zeroing, Published, Idle, View}
use Rattle.machine_state.specs.Moves.{entry_reserved}
use Rattle.machine_turns.specs.Doing.{Ask, Inserts, Commits, Flushes, Machine}
use Rattle.machine_turns.specs.Turned.{can_step, fits, lock_tried}
use Rattle.machine_turns.specs.Standing.{IsRecord, IsUnder}
use Rattle.machine_turns.proofs.Poses.{of_posed, posed}
use Rattle.machine_turns.specs.declared.doing.PlainDoing.{PlainDoing}
use Rattle.machine_turns.specs.declared.doing.PlainDoing.TheVariants as doings
use Rattle.machine_turns.specs.declared.doing.PlainNext.{PlainNext}
use Rattle.machine_turns.specs.declared.doing.PlainNext.TheVariants as nexts
use Rattle.machine_turns.specs.declared.script.PlainLine.{PlainLine}
use Rattle.machine_turns.specs.declared.view.PlainView.{PlainView}
use Rattle.machine_turns.specs.declared.view.PlainPlace.{PlainPlace}
use Rattle.machine_turns.specs.declared.view.PlainPlace.TheVariants as places
use Rattle.machine_turns.specs.declared.view.PlainStage.{PlainStage}
use Rattle.machine_turns.specs.declared.view.PlainStage.TheVariants as stages
use Rattle.machine_turns.specs.Left.{at_place, at_stage, page_end_in}
use Rattle.machine_turns.specs.Lanes.{is_commit, stepped}
use Rattle.machine_turns.specs.Inserting.{has_no_word_left, lock_to_try, with_one_more}
use Rattle.machine_turns.specs.Scripts.{room_of_line}
use Rattle.machine_turns.specs.Writer.{WriterState}
use Rattle.wal_core.specs.PlainData.{doing_of}
use Rattle.wal_core.specs.Playing.{TriesFew}
use Rattle.wal_core.specs.Following.{StandsPlain, view_left}
use Rattle.wal_core.proofs.MapFollows.{lands}

-- ---- the tries of locks

-- what comes behind a step is a try of one of eight locks at most, or no try
abbrev pub FewBehind : PlainNext → Type 0
FewBehind (nexts.GoesOn doing) = TriesFew doing
FewBehind (nexts.Answers full) = Unit {0}

either_few : (b : Bool) (d e : PlainDoing) → TriesFew d → TriesFew e
    → FewBehind (nexts.GoesOn (cond b d e))
either_few true d e p q = p
either_few false d e p q = q

module _ (setup : Setup) (words : List ℕ) (w : WriterState) (line : PlainLine) (copied : Option PlainLine)
  where
    abbrev Few : PlainView → PlainDoing → Type 0
    Few view d = FewBehind ((((stepped setup words w view line copied d).left).made).next)

    pub begins_few : (view : PlainView) → Few view doings.Begins
    begins_few view = omega arith

    pub tries_few : (view : PlainView) (taken : ℕ) → taken < 8 → Few view (doings.Tries taken)
    tries_few view taken few =
        elim (cases_Bool (eqb (lock_word words (lock_to_try setup words view taken)) 0)) [
          | inl free ↦ rw free tt
          | inr held ↦ rw held (elim (cases_Bool (eqb (taken + 1) 8)) [
            | inl last ↦ rw last tt
            | inr more ↦ (let apart = eqb-false _ _ more in rw more (omega arith))
          ])
        ]

    reserves_few_at : (view : PlainView) (lock : ℕ) (p : PlainPlace)
        → Few (at_place p view) (doings.Reserves lock)
    reserves_few_at view lock places.Free = tt
    reserves_few_at view lock (places.Locked at) =
        elim (cases_Bool (leb (at + room_of_line line) (log_limit setup))) [
          | inl within ↦ rw within tt
          | inr beyond ↦ rw beyond tt
        ]
    reserves_few_at view lock (places.Loaded at prev) = tt
    reserves_few_at view lock (places.Stored at prev) = tt

    pub reserves_few : (view : PlainView) (lock : ℕ) → Few view (doings.Reserves lock)
    reserves_few view lock = reserves_few_at view lock view.place

    pub looks_few : (view : PlainView) (lock : ℕ) → Few view (doings.Looks lock)
    looks_few view lock = either_few _ (doings.Copies lock) (doings.Maps lock) tt tt

    pub copies_few : (view : PlainView) (lock : ℕ) → Few view (doings.Copies lock)
    copies_few view lock =
        let flight = with_one_more view.flight in
        elim (cases_Bool (has_no_word_left flight)) [
          | inl whole ↦ rw whole tt
          | inr more ↦ rw more (either_few _ (doings.Looks lock) (doings.Copies lock) tt tt)
        ]

    maps_few_at : (view : PlainView) (lock : ℕ) (s : PlainStage)
        → Few (at_stage s view) (doings.Maps lock)
    maps_few_at view lock stages.Away = tt
    maps_few_at view lock stages.Taken = tt
    maps_few_at view lock (stages.Looked at) =
        elim (cases_Bool (leb (page_end_in view.flight) at)) [
          | inl mapped ↦ rw mapped tt
          | inr ahead ↦ rw ahead (either_few _
              (doings.GivesTurn lock (Some (at + 8192 - setup.ring_pages * 8192)))
              (doings.Maps lock) tt tt)
        ]
    maps_few_at view lock (stages.Ready at) = tt
    maps_few_at view lock (stages.Zeroing at count) = elim (cases_Bool (ltb count 1024)) [
      | inl more ↦ rw more tt
      | inr all ↦ rw all tt
    ]
    maps_few_at view lock (stages.Published at) = tt

    pub maps_few : (view : PlainView) (lock : ℕ) → Few view (doings.Maps lock)
    maps_few view lock = maps_few_at view lock view.stage

    pub gives_turn_few : (view : PlainView) (lock : ℕ) (end : Option ℕ)
        → Few view (doings.GivesTurn lock end)
    gives_turn_few view lock None = tt
    gives_turn_few view lock (Some end) = tt

    pub tells_few : (view : PlainView) (lock end : ℕ) → Few view (doings.Tells lock end)
    tells_few view lock end = tt

    pub releases_few : (view : PlainView) (lock : ℕ) (full : Bool)
        → Few view (doings.Releases lock full)
    releases_few view lock true = tt
    releases_few view lock false = elim (cases_Bool (is_commit line)) [
      | inl commits ↦ rw commits tt
      | inr inserts ↦ rw inserts tt
    ]

-- ---- the copies

-- a copy of the same entry is under way in a view
abbrev pub IsCopyOf : View → Copy → Type 0
IsCopyOf v c = (before : Copy) × ((v.working).flight ≡ Copying before) × (c.entry ≡ before.entry)

-- a record is the one that is asked for
abbrev pub AsksFor : Ask → Record → Type 0
AsksFor ask value = (ask ≡ Inserts value) ⊎ (ask ≡ Commits value)

-- behind a step a copy is one that was under way, but behind a reservation the line's record's
abbrev pub IsCopyBehind : View → Ask → PlainDoing → Copy → Type 0
IsCopyBehind v ask (doings.Reserves lock) c = AsksFor ask (c.entry).value
IsCopyBehind v ask other c = IsCopyOf v c

abbrev pub KeepsCopy : Machine → View → Ask → PlainDoing → Type 0
KeepsCopy m v ask d = (c : Copy) → ((view_left m v ask d).working).flight ≡ Copying c
    → IsCopyBehind v ask d c

-- a copy is one that was under way, or the place is a reservation, and the line inserts its record
pub kept_or_new : (v : View) (ask : Ask) (d : PlainDoing) (c : Copy) → IsCopyBehind v ask d c
    → IsCopyOf v c ⊎ (((lock : ℕ) × (d ≡ doings.Reserves lock)) × AsksFor ask (c.entry).value)
kept_or_new v ask (doings.Reserves lock) c is = inr ((lock, refl), is)
kept_or_new v ask other c is = inl is

module _ (m : Machine) (number : ℕ) (v : View) (ask : Ask) (line : PlainLine) (copied : Option PlainLine)
    (w : WriterState) where
  pub begins_keeps : StandsPlain m number v ask line copied w doings.Begins
      → KeepsCopy m v ask doings.Begins
  begins_keeps s c is = (c, is, refl)

  pub tries_keeps : (taken : ℕ) → StandsPlain m number v ask line copied w (doings.Tries taken)
      → KeepsCopy m v ask (doings.Tries taken)
  tries_keeps taken s =
      elim (cases_Bool (eqb (lock_word (m.state).words (lock_tried v taken)) 0)) [
        | inl free ↦ rw (free, free) (λ c is. (c, is, refl))
        | inr held ↦ rw held (λ c is. (c, is, refl))
      ]

  abbrev at_reserving : ℕ → Place → View → View
  at_reserving lock p u = posed p (lock ∷ []) Landed Away Idle u

  never_copies : (P : Type 0) (c : Copy) → Landed ≡ Copying c → P
  never_copies P c is = absurd (cc)

  locks_at : (lock : ℕ) (u : View)
      → KeepsCopy m (at_reserving lock Free u) ask (doings.Reserves lock)
  locks_at lock u =
      let same = eq-eqb (position_word (m.state).words) (position_word (m.state).words) refl in
      λ c. rw same (never_copies (AsksFor ask (c.entry).value) c)

  fits_at : (lock at : ℕ) (u : View) (a : Ask) → IsRecord a
      → KeepsCopy m (at_reserving lock (Locked at) u) a (doings.Reserves lock)
  fits_at lock at u (Inserts value) record_is c =
      elim (cases_Bool (fits u (Inserts value) at)) [
        | inl within ↦ rw within (never_copies _ c)
        | inr beyond ↦ rw beyond (never_copies _ c)
      ]
  fits_at lock at u (Commits value) record_is c =
      elim (cases_Bool (fits u (Commits value) at)) [
        | inl within ↦ rw within (never_copies _ c)
        | inr beyond ↦ rw beyond (never_copies _ c)
      ]
  fits_at lock at u Flushes record_is c = absurd record_is

  stores_position_at : (lock at prev : ℕ) (u : View) (a : Ask) → IsRecord a
      → KeepsCopy m (at_reserving lock (Stored at prev) u) a (doings.Reserves lock)
  stores_position_at lock at prev u (Inserts value) record_is c is =
      let new : Copy = record {
        entry = entry_reserved (u.reserving).number at value;
        prev = prev;
        locks = lock ∷ [];
        copied = 0;
      } in
      let same : new ≡ c = cc in
      inl (ap (λ (d : Copy). Inserts (d.entry).value) same)
  stores_position_at lock at prev u (Commits value) record_is c is =
      let new : Copy = record {
        entry = entry_reserved (u.reserving).number at value;
        prev = prev;
        locks = lock ∷ [];
        copied = 0;
      } in
      let same : new ≡ c = cc in
      inr (ap (λ (d : Copy). Commits (d.entry).value) same)
  stores_position_at lock at prev u Flushes record_is c is = absurd record_is

  reserves_at : (lock : ℕ) (p : Place) (u : View) → IsRecord ask
      → KeepsCopy m (at_reserving lock p u) ask (doings.Reserves lock)
  reserves_at lock Free u record_is = locks_at lock u
  reserves_at lock (Locked at) u record_is = fits_at lock at u ask record_is
  reserves_at lock (Loaded at prev) u record_is = λ c is. never_copies _ c is
  reserves_at lock (Stored at prev) u record_is = stores_position_at lock at prev u ask record_is

  pub reserves_keeps : (lock : ℕ) → StandsPlain m number v ask line copied w (doings.Reserves lock)
      → KeepsCopy m v ask (doings.Reserves lock)
  reserves_keeps lock s =
      let p = s.stands.0.0 in
      of_posed (λ (u : View). KeepsCopy m u ask (doings.Reserves lock)) p (lock ∷ []) Landed Away
      Idle v s.stands.0.1 (reserves_at lock p v s.stands.1)

  -- ---- copying and mapping

  abbrev at_copy : ℕ → Copy → Stage → View → View
  at_copy lock before s u = posed Free (lock ∷ []) (Copying before) s Idle u

  pub looks_keeps : (lock : ℕ) → StandsPlain m number v ask line copied w (doings.Looks lock)
      → KeepsCopy m v ask (doings.Looks lock)
  looks_keeps lock s c is = (c, is, refl)

  copies_at : (lock : ℕ) (before : Copy) (u : View)
      → KeepsCopy m (at_copy lock before Away u) ask (doings.Copies lock)
  copies_at lock before u c is =
      let more : Copy = record before { copied = before.copied + 1 } in
      let same : more ≡ c = cc in
      (before, refl, sym (ap (λ (d : Copy). d.entry) same))

  pub copies_keeps : (lock : ℕ) → StandsPlain m number v ask line copied w (doings.Copies lock)
      → KeepsCopy m v ask (doings.Copies lock)
  copies_keeps lock s =
      let before = s.stands.0.0 in
      of_posed (λ (u : View). KeepsCopy m u ask (doings.Copies lock)) Free (lock ∷ [])
      (Copying before) Away Idle v s.stands.0.1 (copies_at lock before v)

  maps_at : (lock : ℕ) (before : Copy) (stage : Stage) (u : View)
      → can_step m (at_copy lock before stage u) ask (doing_of (doings.Maps lock)) ≡ true
      → KeepsCopy m (at_copy lock before stage u) ask (doings.Maps lock)
  maps_at lock before Away u can = rw can (λ c is. (c, is, refl))
  maps_at lock before Taken u can = λ c is. (c, is, refl)
  maps_at lock before (Looked at) u can = λ c is. (c, is, refl)
  maps_at lock before (Ready at written) u can = λ c is. (c, is, refl)
  maps_at lock before (Zeroing at count) u can = elim (cases_Bool (ltb count 1024)) [
    | inl more ↦ rw more (λ c is. (c, is, refl))
    | inr all ↦ rw all (λ c is. (c, is, refl))
  ]
  maps_at lock before (Published at) u can = λ c is. (c, is, refl)

  pub maps_keeps : (lock : ℕ) → StandsPlain m number v ask line copied w (doings.Maps lock)
      → KeepsCopy m v ask (doings.Maps lock)
  maps_keeps lock s =
      let stage = s.stands.0.0 in
      let before = s.stands.0.1.0 in
      of_posed (λ (u : View). can_step m u ask (doing_of (doings.Maps lock)) ≡ true
      → KeepsCopy m u ask (doings.Maps lock))
      Free (lock ∷ []) (Copying before) stage Idle v s.stands.0.1.1
      (maps_at lock before stage v) s.can

  pub gives_turn_keeps : (lock : ℕ) (end : Option ℕ)
      → StandsPlain m number v ask line copied w (doings.GivesTurn lock end)
      → KeepsCopy m v ask (doings.GivesTurn lock end)
  gives_turn_keeps lock end s c is = (c, is, refl)

  pub tells_keeps : (lock end : ℕ)
      → StandsPlain m number v ask line copied w (doings.Tells lock end)
      → KeepsCopy m v ask (doings.Tells lock end)
  tells_keeps lock end s c is = (c, is, refl)

  -- ---- the release

  releases_full_at : (lock : ℕ) (u : View)
      → KeepsCopy m (posed Free (lock ∷ []) Landed Away Idle u) ask (doings.Releases lock true)
  releases_full_at lock u c is = never_copies _ c is

  releases_at : (lock : ℕ) (before : Copy) (u : View) → IsUnder lock before
      → KeepsCopy m (at_copy lock before Away u) ask (doings.Releases lock false)
  releases_at lock before u under c is = never_copies _ c (sym (lands lock before under) ∙ is)

  pub releases_keeps : (lock : ℕ) (full : Bool)
      → StandsPlain m number v ask line copied w (doings.Releases lock full)
      → KeepsCopy m v ask (doings.Releases lock full)
  releases_keeps lock true s =
      of_posed (λ (u : View). KeepsCopy m u ask (doings.Releases lock true)) Free (lock ∷ [])
      Landed Away Idle v s.stands (releases_full_at lock v)
  releases_keeps lock false s =
      let before = s.stands.0.0 in
      of_posed (λ (u : View). KeepsCopy m u ask (doings.Releases lock false)) Free (lock ∷ [])
      (Copying before) Away Idle v s.stands.0.1 (releases_at lock before v s.stands.0.2)
