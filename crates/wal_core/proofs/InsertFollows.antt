-- At the places of an insert a turn on plain data follows the machine's.
use Rattle.std.proofs.Common.{◌≡◌, ℕ, ◌+◌, ◌*◌, ◌/◌, ◌%◌, inl, inr, Bool, true, false, cond, not, ◌&&◌, eqb, eq-eqb, eqb-true, ne_eqb, List, [], ◌∷◌, ◌++◌, Option, Some, refl, sym, ap, add-zero, ◌∙◌, subst, arith}
use Rattle.std.proofs.lemmas.Bool.{cases_Bool, eqb-false}
use native.Mathlib.Nat.{zero-min}
use Rattle.wal_types.specs.declared.record.Record.{Record}
use Rattle.wal_spelling.specs.Spelling.{Assembled, IsWritable, assembled, room_of}
use Rattle.byte_position.specs.Geometry.{IsSegmentSize}
use Rattle.byte_position.proofs.Words.{end_address_of-mod_word}
use Rattle.byte_position.specs.Position.{end_address_of}
use Rattle.wal_page.specs.EntryWords.{address_of_word, words_owned}
use Rattle.wal_page.specs.Order.{Entry, finish_of, position_behind, room_at}
use Rattle.wal_page.proofs.PaddingLaws.{room_at-inserted, room_at-whole}
use Rattle.machine_state.specs.Words.{end_form, end_word, lock_word, position_word, down_number, ends_number, lock_number}
use Rattle.machine_state.specs.Views.{Place, Free, Locked, Loaded, Stored, Copy, Landed, Copying, Away, Idle, View, Watching}
use Rattle.machine_state.proofs.WordLists.{word_again}
use Rattle.machine_state.specs.Moves.{begun, entry_reserved, visited_on, with_reserved}
use Rattle.machine_turns.specs.Doing.{Ask, Inserts, Commits, Flushes, Looks, Copies, Releases, Machine}
use Rattle.machine_turns.specs.Turned.{asked_end, fits, goes_on, lock_tried}
use Rattle.machine_turns.specs.Standing.{IsRecord, IsUnder, IsLeft}
use Rattle.machine_turns.proofs.AtView.{sound}
use Rattle.machine_turns.proofs.Poses.{of_posed, posed}
use Rattle.machine_turns.specs.declared.doing.PlainDoing.{PlainDoing}
use Rattle.machine_turns.specs.declared.doing.PlainDoing.TheVariants as doings
use Rattle.machine_turns.specs.declared.doing.PlainNext.TheVariants.{GoesOn}
use Rattle.machine_turns.specs.declared.script.PlainLine.{PlainLine}
use Rattle.machine_turns.specs.declared.script.PlainLine.TheVariants.{Insert, Commit, Flush}
use Rattle.machine_turns.specs.declared.view.PlainFlight.TheVariants as flights
use Rattle.machine_turns.specs.declared.view.PlainView.{PlainView}
use Rattle.machine_turns.specs.declared.view.PlainWatching.{PlainWatching}
use Rattle.machine_turns.specs.Writer.{WriterState}
use Rattle.machine_turns.specs.Inserting.{at_reserves, reserved, watch_begun, watch_visited}
use Rattle.wal_core.specs.Lines.{InsertsRecord, IsLineFor}
use Rattle.wal_core.specs.PlainData.{next_of_plain, plain_watching, plain_view}
use Rattle.wal_core.specs.Following.{Follows, StandsPlain, plain_step}

-- ---- a vain try of a lock

begun_plain : (lock : ℕ) (v : View)
    → watch_begun lock 0 (plain_watching v.watching) ≡ plain_watching (begun lock 0 v)
begun_plain lock v = elim (cases_Bool (eqb lock 0)) [
  | inl first ↦ rw first (rw (zero-min (end_form (v.opening).setup (v.reserving).seen)) refl)
  | inr later ↦ rw later refl
]

visited_plain : (lock met : ℕ) (x : Watching)
    → watch_visited lock met (plain_watching x) ≡ plain_watching (visited_on false lock met x)
visited_plain lock met x = elim (cases_Bool (eqb lock x.visited && not (eqb met 1))) [
  | inl next ↦ rw next (elim (cases_Bool (eqb met 0)) [
    | inl free ↦ rw free refl
    | inr held ↦ rw held refl
  ])
  | inr other ↦ rw other refl
]

watched_plain : (lock met : ℕ) (v : View)
    → watch_visited lock met (watch_begun lock 0 (plain_watching v.watching))
    ≡ plain_watching (visited_on false lock met (begun lock 0 v))
watched_plain lock met v = ap (watch_visited lock met) (begun_plain lock v)
    ∙ visited_plain lock met (begun lock 0 v)

-- ---- a reservation

-- the last record's end, where one more is reserved
abbrev with_entries : List Entry → View → View
with_entries es v = record v { reserving = record v.reserving { entries = es } }

asked_end-last : (v : View) (e : Entry) (es : List Entry)
    → asked_end (with_entries (es ++ e ∷ []) v)
    ≡ finish_of ((v.opening).setup).seg_size e
asked_end-last v e [] = refl
asked_end-last v e (f ∷ []) = refl
asked_end-last v e (f ∷ g ∷ es) = asked_end-last v e (g ∷ es)

reserved_plain : (lock at prev : ℕ) (u : View) (value : Record)
    → reserved (u.opening).setup
    (plain_view (posed (Stored at prev) (lock ∷ []) Landed Away Idle u))
    at prev (room_at ((u.opening).setup).seg_size at value)
    ≡ plain_view (with_reserved ((u.opening).setup).seg_size
    (entry_reserved (u.reserving).number at value) prev (lock ∷ [])
    (posed (Stored at prev) (lock ∷ []) Landed Away Idle u))
reserved_plain lock at prev u value =
    let setup = (u.opening).setup in
    let e = entry_reserved (u.reserving).number at value in
    let first : end_address_of setup.seg_size at ≡ address_of_word setup.seg_size e 0 =
    sym (add-zero (end_address_of setup.seg_size at)) in
    let last = sym (asked_end-last u e (u.reserving).entries) in
    λ i. record (reserved setup (plain_view (posed (Stored at prev) (lock ∷ []) Landed Away Idle u))
    at prev (room_at setup.seg_size at value)) {
      last_end = last i;
      flight = flights.Copying at prev (first i) (finish_of setup.seg_size e);
    }

-- a line that inserts a record has that record assembled, which can be inserted
pub by_line : (P : Ask → PlainLine → Type 0)
    → ((value : Record) → IsWritable value → P (Inserts value) (Insert (assembled value)))
    → ((value : Record) → IsWritable value → P (Commits value) (Commit (assembled value)))
    → (a : Ask) (l : PlainLine) → IsLineFor a l → IsRecord a → P a l
by_line P p q (Inserts value) (Insert body) is record_is =
    subst (λ (b : Assembled). P (Inserts value) (Insert b)) (sym is.0) (p value record_is)
by_line P p q (Inserts value) (Commit body) is record_is = absurd is
by_line P p q (Inserts value) Flush is record_is = absurd is
by_line P p q (Commits value) (Insert body) is record_is = absurd is
by_line P p q (Commits value) (Commit body) is record_is =
    subst (λ (b : Assembled). P (Commits value) (Commit b)) (sym is.0) (q value record_is)
by_line P p q (Commits value) Flush is record_is = absurd is
by_line P p q Flushes l is record_is = absurd record_is

-- ---- a copy

-- its next word is 8 bytes further on, and is its last one where its record ends there
further : (size : ℕ) (c : Copy)
    → address_of_word size c.entry c.copied + 8 ≡ address_of_word size c.entry (c.copied + 1)
further size c = omega arith

module _ (size : ℕ) (valid : IsSegmentSize size) (lock : ℕ) (c : Copy) (under : IsUnder lock c)
    (left : IsLeft size c) where
  finish-whole : finish_of size c.entry % 8 ≡ 0
  finish-whole = end_address_of-mod_word size valid (position_behind size c.entry)
      (omega (arith, under.whole, room_at-whole size valid (c.entry).start (c.entry).value under.whole))

  ends_together : eqb (address_of_word size c.entry c.copied + 8) (finish_of size c.entry)
      ≡ eqb (c.copied + 1) (words_owned size c.entry)
  ends_together =
      let first = end_address_of-mod_word size valid (c.entry).start under.whole in
      let last = finish-whole in
      elim (cases_Bool (eqb (c.copied + 1) (words_owned size c.entry))) [
        | inl whole ↦ (let same = eqb-true _ _ whole in
            eq-eqb (address_of_word size c.entry c.copied + 8) (finish_of size c.entry)
            (omega arith) ∙ sym whole)
        | inr more ↦ (let apart = eqb-false _ _ more in
            ne_eqb (address_of_word size c.entry c.copied + 8) (finish_of size c.entry)
            (λ e. apart (omega arith)) ∙ sym more)
      ]

behind_copy : (lock : ℕ) (a b : Bool)
    → next_of_plain (GoesOn (cond a (doings.Releases lock false)
    (cond b (doings.Looks lock) (doings.Copies lock))))
    ≡ cond a (goes_on (Releases lock false)) (cond b (goes_on (Looks lock)) (goes_on (Copies lock)))
behind_copy lock true b = refl
behind_copy lock false true = refl
behind_copy lock false false = refl

module _ (m : Machine) (number : ℕ) (v : View) (ask : Ask) (line : PlainLine) (copied : Option PlainLine)
    (w : WriterState) where
  pub begins_follow : StandsPlain m number v ask line copied w doings.Begins
      → Follows m v ask doings.Begins (plain_step m v line copied w doings.Begins).left
  begins_follow s = record {
    event = refl;
    next = refl;
    words = sym (word_again (m.state).words down_number);
    view = refl;
  }

  abbrev Goal : PlainDoing → View → Type 0
  Goal d u = Follows m u ask d (plain_step m u line copied w d).left

  abbrev GoalFor : PlainDoing → View → Ask → PlainLine → Type 0
  GoalFor d u a l = Follows m u a d (plain_step m u l copied w d).left

  abbrev with_watching : View → PlainWatching → PlainView
  with_watching u x = record (plain_view (posed Free [] Landed Away Idle u)) { watching = x }

  tries_at : (taken : ℕ) (u : View)
      → Goal (doings.Tries taken) (posed Free [] Landed Away Idle u)
  tries_at taken u =
      let lock = lock_tried u taken in
      let met = lock_word (m.state).words lock in
      elim (cases_Bool (eqb met 0)) [
        | inl free ↦ record {
          event = rw free refl;
          next = rw (free, free) refl;
          words = rw (free, free) refl;
          view = rw (free, free) refl;
        }
        | inr held ↦ record {
          event = rw held refl;
          next = rw (held, held) (elim (cases_Bool (eqb (taken + 1) 8)) [
            | inl last ↦ rw last refl
            | inr more ↦ rw more refl
          ]);
          words = rw held (sym (word_again (m.state).words (lock_number lock)));
          view = rw (held, held) (rw held at (ap (with_watching u) (watched_plain lock met u)));
        }
      ]

  pub tries_follow : (taken : ℕ) → StandsPlain m number v ask line copied w (doings.Tries taken)
      → Follows m v ask (doings.Tries taken)
      (plain_step m v line copied w (doings.Tries taken)).left
  tries_follow taken s = of_posed (Goal (doings.Tries taken)) Free [] Landed Away Idle v
      s.stands.0 (tries_at taken v)

  -- ---- reserving

  abbrev at_reserving : ℕ → Place → View → View
  at_reserving lock p u = posed p (lock ∷ []) Landed Away Idle u

  -- the step of a reservation, where the record takes up so many bytes
  abbrev GoalOfRoom : (lock : ℕ) → Place → View → Ask → (room : ℕ) → Type 0
  GoalOfRoom lock p u a room = Follows m (at_reserving lock p u) a (doings.Reserves lock)
      (at_reserves (u.opening).setup (m.state).words (plain_view (at_reserving lock p u)) lock room)

  -- a record that can be inserted takes up its own room, wherever it starts
  by_room : (lock at : ℕ) (p : Place) (u : View) (a : Ask) (value : Record) → IsWritable value
      → GoalOfRoom lock p u a (room_at ((u.opening).setup).seg_size at value)
      → GoalOfRoom lock p u a (room_of value)
  by_room lock at p u a value writable = subst (GoalOfRoom lock p u a)
      (room_at-inserted ((u.opening).setup).seg_size at value writable)

  locks_at : (lock : ℕ) (u : View) → Goal (doings.Reserves lock) (at_reserving lock Free u)
  locks_at lock u =
      let same = eq-eqb (position_word (m.state).words) (position_word (m.state).words) refl in
      record {
        event = refl;
        next = refl;
        words = rw same refl;
        view = rw same refl;
      }

  fits_at : (lock at : ℕ) (u : View) → IsLineFor ask line → IsRecord ask
      → Goal (doings.Reserves lock) (at_reserving lock (Locked at) u)
  fits_at lock at u is record_is = by_line
      (GoalFor (doings.Reserves lock) (at_reserving lock (Locked at) u))
      (λ value writable. by_room lock at (Locked at) u (Inserts value) value writable
      (elim (cases_Bool (fits u (Inserts value) at)) [
        | inl within ↦ record {
          event = rw within refl;
          next = rw within refl;
          words = rw within (sym (word_again (m.state).words 1));
          view = rw within refl;
        }
        | inr beyond ↦ record {
          event = rw beyond refl;
          next = rw beyond refl;
          words = rw beyond refl;
          view = rw beyond refl;
        }
      ]))
      (λ value writable. by_room lock at (Locked at) u (Commits value) value writable
      (elim (cases_Bool (fits u (Commits value) at)) [
        | inl within ↦ record {
          event = rw within refl;
          next = rw within refl;
          words = rw within (sym (word_again (m.state).words 1));
          view = rw within refl;
        }
        | inr beyond ↦ record {
          event = rw beyond refl;
          next = rw beyond refl;
          words = rw beyond refl;
          view = rw beyond refl;
        }
      ])) ask line is record_is

  stores_prev_at : (lock at prev : ℕ) (u : View)
      → Goal (doings.Reserves lock) (at_reserving lock (Loaded at prev) u)
  stores_prev_at lock at prev u = record {
    event = refl;
    next = refl;
    words = refl;
    view = refl;
  }

  stores_position_at : (lock at prev : ℕ) (u : View) → IsLineFor ask line → IsRecord ask
      → Goal (doings.Reserves lock) (at_reserving lock (Stored at prev) u)
  stores_position_at lock at prev u is record_is = by_line
      (GoalFor (doings.Reserves lock) (at_reserving lock (Stored at prev) u))
      (λ value writable. by_room lock at (Stored at prev) u (Inserts value) value writable (record {
        event = refl;
        next = refl;
        words = refl;
        view = reserved_plain lock at prev u value;
      }))
      (λ value writable. by_room lock at (Stored at prev) u (Commits value) value writable (record {
        event = refl;
        next = refl;
        words = refl;
        view = reserved_plain lock at prev u value;
      })) ask line is record_is

  reserves_at : (lock : ℕ) (p : Place) (u : View) → IsLineFor ask line → IsRecord ask
      → Goal (doings.Reserves lock) (at_reserving lock p u)
  reserves_at lock Free u is record_is = locks_at lock u
  reserves_at lock (Locked at) u is record_is = fits_at lock at u is record_is
  reserves_at lock (Loaded at prev) u is record_is = stores_prev_at lock at prev u
  reserves_at lock (Stored at prev) u is record_is = stores_position_at lock at prev u is record_is

  pub reserves_follow : (lock : ℕ) → StandsPlain m number v ask line copied w (doings.Reserves lock)
      → Follows m v ask (doings.Reserves lock)
      (plain_step m v line copied w (doings.Reserves lock)).left
  reserves_follow lock s =
      let p = s.stands.0.0 in
      of_posed (Goal (doings.Reserves lock)) p (lock ∷ []) Landed Away Idle v s.stands.0.1
      (reserves_at lock p v s.line_is s.stands.1)

  -- ---- copying

  abbrev at_copy : ℕ → Copy → View → View
  at_copy lock c u = posed Free (lock ∷ []) (Copying c) Away Idle u

  looks_at : (lock : ℕ) (c : Copy) (u : View) → Goal (doings.Looks lock) (at_copy lock c u)
  looks_at lock c u =
      let setup = (u.opening).setup in
      let at = address_of_word setup.seg_size c.entry c.copied in
      let buffer = at / 8192 % setup.ring_pages in
      record {
        event = refl;
        next = elim (cases_Bool (eqb (end_word (m.state).words buffer) ((at / 8192 + 1) * 8192))) [
          | inl own ↦ rw own refl
          | inr other ↦ rw other refl
        ];
        words = sym (word_again (m.state).words (ends_number + buffer));
        view = refl;
      }

  pub looks_follow : (lock : ℕ) → StandsPlain m number v ask line copied w (doings.Looks lock)
      → Follows m v ask (doings.Looks lock)
      (plain_step m v line copied w (doings.Looks lock)).left
  looks_follow lock s =
      let c = s.stands.0.0 in
      of_posed (Goal (doings.Looks lock)) Free (lock ∷ []) (Copying c) Away Idle v
      s.stands.0.1 (looks_at lock c v)

  abbrev GoalOf : PlainDoing → View → Option PlainLine → Type 0
  GoalOf d u l = Follows m u ask d (plain_step m u line l w d).left

  copies_at : (lock : ℕ) (c : Copy) (u : View) → IsSegmentSize ((u.opening).setup).seg_size
      → IsUnder lock c → IsLeft ((u.opening).setup).seg_size c
      → GoalOf (doings.Copies lock) (at_copy lock c u) (Some (Insert (assembled (c.entry).value)))
  copies_at lock c u valid under left =
      let size = ((u.opening).setup).seg_size in
      let on = further size c in
      let ends = ends_together size valid lock c under left in
      record {
        event = refl;
        next = behind_copy lock _ _
            ∙ (λ i. cond (ends i) (goes_on (Releases lock false))
            (cond (eqb (on i % 8192) 0) (goes_on (Looks lock)) (goes_on (Copies lock))));
        words = refl;
        view = λ i. record (plain_view (at_copy lock c u)) {
          flight = flights.Copying (c.entry).start c.prev (on i) (finish_of size c.entry);
        };
      }

  -- the line copied has the record in flight assembled
  copies_line : (lock : ℕ) (c : Copy) (u : View) → IsSegmentSize ((u.opening).setup).seg_size
      → IsUnder lock c → IsLeft ((u.opening).setup).seg_size c
      → (l : PlainLine) → InsertsRecord (c.entry).value l
      → GoalOf (doings.Copies lock) (at_copy lock c u) (Some l)
  copies_line lock c u valid under left (Insert body) is = subst
      (λ (b : Assembled). GoalOf (doings.Copies lock) (at_copy lock c u) (Some (Insert b)))
      (sym is.0) (copies_at lock c u valid under left)
  copies_line lock c u valid under left (Commit body) is = subst
      (λ (b : Assembled). GoalOf (doings.Copies lock) (at_copy lock c u) (Some (Commit b)))
      (sym is.0) (copies_at lock c u valid under left)
  copies_line lock c u valid under left Flush is = absurd is

  pub copies_follow : (lock : ℕ) → StandsPlain m number v ask line copied w (doings.Copies lock)
      → Follows m v ask (doings.Copies lock)
      (plain_step m v line copied w (doings.Copies lock)).left
  copies_follow lock s =
      let c = s.stands.0.0 in
      let pose = s.stands.0.1 in
      let of_line = s.copies c pose.flight_is in
      let valid = ((sound m s.running number v s.live ask).setup_is).size in
      of_posed (Goal (doings.Copies lock)) Free (lock ∷ []) (Copying c) Away Idle v pose
      (subst (GoalOf (doings.Copies lock) (at_copy lock c v)) (sym of_line.1)
      (copies_line lock c v valid s.stands.0.2 s.stands.0.3.0 of_line.0 of_line.2))
