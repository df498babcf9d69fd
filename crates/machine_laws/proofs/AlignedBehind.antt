-- Addresses that passes learn are multiples of 8 behind a step of any kind.
use Rattle.std.proofs.Common.{◌≡◌, ◌≢◌, ◌⊎◌, ⊎_elim, ℕ, ◌+◌, ◌-◌, ◌%◌, ◌<◌, ◌≤◌, Bool, cond, eqb, true, false, ◌&&◌, ◌||◌, not, max, min, Contains, List, [], ◌∷◌, ◌++◌, map, set, slice_index, refl, sym, ap, ◌∙◌, subst, inl, inr, arith}
use mathlib.Core.Option.{Option, none, some}
use mathlib.Core.Logic.{dite}
use native.Mathlib.Decide.{ℕ_discrete}
use Rattle.segment_disk.specs.declared.disk.Call.{Call}
use Rattle.segment_disk.specs.Tape.{DiskState, create_call, sync_call}
use Rattle.byte_position.specs.Geometry.{IsSegmentSize}
use Rattle.byte_position.specs.Position.{position_of}
use Rattle.byte_position.proofs.Words.{end_address_of-mod_word}
use Rattle.wal_types.specs.declared.record.Record.{Record}
use Rattle.wal_page.proofs.PlaceLaws.{end-whole_from}
use Rattle.wal_page.proofs.PaddingLaws.{room_at-whole}
use Rattle.wal_page.proofs.WordPositions.{position_of-whole}
use Rattle.machine_state.specs.declared.setup.Setup.{Setup}
use Rattle.machine_state.specs.Words.{lock_word, written_word, flushed_word, position_word, prev_word, write_turn, end_form, mapping_turn_number, write_turn_number, initialised_number, written_number, flushed_number, moment_number, down_number, ends_number, lock_number, order_end, last_start}
use Rattle.machine_state.specs.Views.{HasAt, Place, Locked, Taken, Plain, Lent, Hold, Idle, Turned, Out, Watching, View, reserving_of, writer_of}
use Rattle.machine_state.specs.Ordered.{AtPlace}
use Rattle.machine_state.specs.Aligned.{AlignmentHolds, IsKnownAligned, LearnsAligned, TellsAligned}
use Rattle.machine_state.specs.Moves.{CallOutcome, Done, Failed, is_done, after_join, after_store_position, begun, copied_below, hardened, is_own, split_off, unlocked, visited_on, with_hold, with_lent, with_outcome, with_place, with_seen, with_stage, with_working}
use Rattle.machine_state.specs.Steps.{StepKind, MayStep, number_lent, word_of_step, view_behind, with_slot, with_call_on, load_position, take_write_turn, slot_out, slot_in, release_write_turn, lock_position, load_prev, store_prev, store_position, give_position_back, stay, load_lock, take_lock, advance, release, load_buffer_end, store_ring_word, load_ring_word, load_written, load_flushed, load_moment, load_down, store_written, store_moment, store_flushed, set_down, load_async, raise_async, take_mapping_turn, load_initialised_end, clear_end, zero_ring_word, publish_end, publish_initialised_end, release_mapping_turn, create, write, sync}
use Rattle.machine_state.specs.Sound.{IsSound}
use Rattle.machine_state.proofs.Lists.{one_set, part_at}
use Rattle.machine_state.proofs.WordLists.{lock_else, lock_set, locks_else, single_set, word_again, word_else}
use Rattle.machine_laws.specs.LocksBehind.{writer_behind}
use Rattle.machine_laws.proofs.DurableAssured.{stands_out}
use Rattle.machine_laws.proofs.Frames.{Moved, moved, later, views_later}
use Rattle.machine_laws.proofs.OrderSteps.{unlocked-is}
use Rattle.machine_laws.proofs.PositionsBehind.{lock_low}

-- ---- numbers

max_aligned : (a b : ℕ) → a % 8 ≡ 0 → b % 8 ≡ 0 → max a b % 8 ≡ 0
max_aligned a b one other = omega arith

min_aligned : (a b : ℕ) → a % 8 ≡ 0 → b % 8 ≡ 0 → min a b % 8 ≡ 0
min_aligned a b one other = omega arith

-- ---- what a view has learnt

-- all of which something is said
abbrev learnt_of : View → ℕ × Watching × ℕ × ℕ × Hold
learnt_of v = (
  (v.reserving).seen,
  v.watching,
  (v.writing).written,
  (v.writing).flushed,
  (v.writing).hold,
)

pub learns_same : (v w : View) → learnt_of w ≡ learnt_of v → LearnsAligned v → LearnsAligned w
learns_same v w same l = record {
  seen = ap (λ t. t.0 % 8) same ∙ l.seen;
  end = ap (λ t. (t.1).end % 8) same ∙ l.end;
  bound = ap (λ t. (t.1).bound % 8) same ∙ l.bound;
  written = ap (λ t. t.2 % 8) same ∙ l.written;
  flushed = ap (λ t. t.3 % 8) same ∙ l.flushed;
  known = subst IsKnownAligned (sym (ap (λ t. t.4) same)) l.known;
}

learns_either : (b : Bool) (x y : View) → LearnsAligned x → LearnsAligned y
    → LearnsAligned (cond b x y)
learns_either true x y one other = one
learns_either false x y one other = other

-- what is known as copied does not change with what is kept beside it
known_with : (f : Lent → Lent) → ((l : Lent) → (f l).known ≡ l.known) → (h : Hold)
    → IsKnownAligned h → IsKnownAligned (with_lent f h)
known_with f keeps Idle is = tt
known_with f keeps Turned is = tt
known_with f keeps (Out l) is = ap (λ n. n % 8) (keeps l) ∙ is

module _ (v : View) (l : LearnsAligned v) where
  holds_now : (h : Hold) → IsKnownAligned h → LearnsAligned (with_hold h v)
  holds_now h is = record {
    seen = l.seen;
    end = l.end;
    bound = l.bound;
    written = l.written;
    flushed = l.flushed;
    known = is;
  }

  lends_on : (f : Lent → Lent) → ((x : Lent) → (f x).known ≡ x.known)
      → LearnsAligned (with_hold (with_lent f (v.writing).hold) v)
  lends_on f keeps = holds_now (with_lent f (v.writing).hold)
      (known_with f keeps (v.writing).hold l.known)

  called : (f : Plain → Plain) (h : Hold) → LearnsAligned (with_call_on v f h)
  called f Idle = l
  called f Turned = l
  called f (Out x) = lends_on (λ y. record y { writer = f x.writer }) (λ y. refl)

  copied_aligned : copied_below v.watching % 8 ≡ 0
  copied_aligned = either (eqb (v.watching).visited 8)
    where
      either : (b : Bool) → cond b (v.watching).bound 0 % 8 ≡ 0
      either true = l.bound
      either false = refl

  slot_taken : (home : Option Plain) → LearnsAligned (with_slot v home)
  slot_taken none = l
  slot_taken (some writer) = record {
    seen = l.seen;
    end = l.end;
    bound = l.bound;
    written = l.written;
    flushed = l.flushed;
    known = copied_aligned;
  }

-- ---- a watch

pub record IsWatchAligned (x : Watching) : Type 0 where
  pub end : x.end % 8 ≡ 0
  pub bound : x.bound % 8 ≡ 0

watch_either : (b : Bool) (x y : Watching) → IsWatchAligned x → IsWatchAligned y
    → IsWatchAligned (cond b x y)
watch_either true x y one other = one
watch_either false x y one other = other

-- what a lock tells that is held is one less than its word
told_aligned : (met bound : ℕ) (own : Bool) → TellsAligned met → bound % 8 ≡ 0
    → cond ((own && eqb met 1) || eqb met 0) bound (min bound (met - 1)) % 8 ≡ 0
told_aligned met bound true tells is = ⊎_elim
    (λ (free : met ≡ 0). ap (λ n. cond (eqb n 1 || eqb n 0) bound (min bound (n - 1)) % 8) free ∙ is)
    (λ (held : met % 8 ≡ 1). by_bool (eqb met 1 || eqb met 0) held)
    tells
  where
    by_bool : (b : Bool) → met % 8 ≡ 1 → cond b bound (min bound (met - 1)) % 8 ≡ 0
    by_bool true held = is
    by_bool false held = min_aligned bound (met - 1) is (omega arith)
told_aligned met bound false tells is = ⊎_elim
    (λ (free : met ≡ 0). ap (λ n. cond (eqb n 0) bound (min bound (n - 1)) % 8) free ∙ is)
    (λ (held : met % 8 ≡ 1). by_bool (eqb met 0) held)
    tells
  where
    by_bool : (b : Bool) → met % 8 ≡ 1 → cond b bound (min bound (met - 1)) % 8 ≡ 0
    by_bool true held = is
    by_bool false held = min_aligned bound (met - 1) is (omega arith)

visited_aligned : (own : Bool) (lock met : ℕ) (x : Watching) → TellsAligned met → IsWatchAligned x
    → IsWatchAligned (visited_on own lock met x)
visited_aligned own lock met x tells is =
    watch_either (eqb lock x.visited && (own || not (eqb met 1))) _ x (record {
      end = is.end;
      bound = told_aligned met x.bound own tells is.bound;
    }) is

-- ---- a writer

-- what a call leaves as written
written_by : (b : Bool) (upto written : ℕ) → upto % 8 ≡ 0 → written % 8 ≡ 0
    → cond b upto written % 8 ≡ 0
written_by true upto written one other = one
written_by false upto written one other = other

same_written : (call : Call) (outcome : CallOutcome) (w : Plain)
    → (with_outcome call outcome w).written ≡ w.written
same_written call Done w = refl
same_written call (Failed faults none) w = refl
same_written call (Failed faults (some made)) w = refl

-- ---- a step

-- neither a lock's word nor the written or the flushed one
pub record IsElsewhere (n : ℕ) : Type 0 where
  pub locks : (n < 2) ⊎ (mapping_turn_number ≤ n)
  pub written : written_number ≢ n
  pub flushed : flushed_number ≢ n

before_locks : (n : ℕ) → n < 2 → IsElsewhere n
before_locks n low = record {
  locks = inl low;
  written = λ e. omega arith;
  flushed = λ e. omega arith;
}

beside : (n : ℕ) → mapping_turn_number ≤ n → n < written_number → IsElsewhere n
beside n low high = record {
  locks = inr low;
  written = λ e. omega arith;
  flushed = λ e. omega arith;
}

behind_flushed : (n : ℕ) → moment_number ≤ n → IsElsewhere n
behind_flushed n high = record {
  locks = inr (omega arith);
  written = λ e. omega arith;
  flushed = λ e. omega arith;
}

module _ {first : DiskState} (words : List ℕ) (home : Option Plain) (views : List View) (id : ℕ) (v : View)
    (k : IsSound first v.opening words home views) (here : HasAt views id v)
    (live : (v.reserving).live ≡ true) where
  abbrev setup : Setup
  setup = (v.opening).setup

  abbrev size : ℕ
  size = setup.seg_size

  valid : IsSegmentSize size
  valid = (k.setup_is).size

  abbrev behind : StepKind → View
  behind e = view_behind v e (slice_index words (word_of_step v e)) home

  learns : LearnsAligned v
  learns = (k.aligned).views id v here

  -- the order ends at a word
  end_aligned : order_end v.opening k.order % 8 ≡ 0
  end_aligned = end-whole_from size valid v.opening.place.position k.order (k.reserved).chained
      (k.reserved).placed.whole

  -- with the writer in hand: it stands at a word
  lent_aligned : (l : Lent) → (v.writing).hold ≡ Out l → (l.writer).written % 8 ≡ 0
  lent_aligned l held =
      let turn = (k.locks).writing in
      let same = (stands_out (write_turn words) turn.holder home k.writer id
      (v.reserving).number (v.writing).hold l held
      (turn.each id (writer_of v) (part_at writer_of views id v here))).1 in
      ap (λ (w : Plain). w.written % 8) same ∙ (k.aligned).writer_at

  module _ (e : StepKind) where
    abbrev s : Moved
    s = moved words home views id v k here e

    abbrev pub HasAligned : Plain → Type 0
    HasAligned writer = AlignmentHolds (lock_word (later s)) (written_word (later s))
        (flushed_word (later s)) writer (views_later s)

    with_words : (writer : Plain) → ((i : ℕ) → i < 8 → TellsAligned (lock_word (later s) i))
        → written_word (later s) % 8 ≡ 0 → flushed_word (later s) % 8 ≡ 0
        → writer.written % 8 ≡ 0 → LearnsAligned (behind e) → HasAligned writer
    with_words writer locks written flushed writer_at now = record {
      locks = locks;
      written_word = written;
      flushed_word = flushed;
      writer_at = writer_at;
      views = one_set (λ j u. LearnsAligned u) views id (behind e)
          (λ j u apart at. (k.aligned).views j u at) now;
    }

    same_word : (j : ℕ) → j ≢ s.i → slice_index words j % 8 ≡ 0
        → slice_index (later s) j % 8 ≡ 0
    same_word j apart is = ap (λ n. n % 8) (word_else words s.i s.n j apart) ∙ is

    same_locks : (s.i < 2) ⊎ (mapping_turn_number ≤ s.i) → (i : ℕ) → i < 8 → TellsAligned (lock_word (later s) i)
    same_locks away i low = subst TellsAligned (sym (locks_else words s.i s.n away i low))
        ((k.aligned).locks i low)

    -- another word is stored
    by_word : IsElsewhere s.i → (writer : Plain) → writer.written % 8 ≡ 0
        → LearnsAligned (behind e) → HasAligned writer
    by_word away writer writer_at now = with_words writer (same_locks away.locks)
        (same_word written_number away.written (k.aligned).written_word)
        (same_word flushed_number away.flushed (k.aligned).flushed_word) writer_at now

    -- and by no call
    with_writer : IsElsewhere s.i → LearnsAligned (behind e) → HasAligned k.writer
    with_writer away now = by_word away k.writer (k.aligned).writer_at now

    -- and nothing is learnt
    quiet : IsElsewhere s.i → learnt_of (behind e) ≡ learnt_of v → HasAligned k.writer
    quiet away same = with_writer away (learns_same v (behind e) same learns)

    -- no word changes
    by_load : later s ≡ words → LearnsAligned (behind e) → HasAligned k.writer
    by_load is now = with_words k.writer
        (λ i low. subst (λ (ws : List ℕ). TellsAligned (lock_word ws i)) (sym is)
        ((k.aligned).locks i low))
        (ap (λ ws. written_word ws % 8) is ∙ (k.aligned).written_word)
        (ap (λ ws. flushed_word ws % 8) is ∙ (k.aligned).flushed_word)
        (k.aligned).writer_at now

    -- a lock's word is stored
    by_lock : (lock : ℕ) → lock < 8 → s.i ≡ lock_number lock → TellsAligned s.n
        → LearnsAligned (behind e) → HasAligned k.writer
    by_lock lock low is tells now = with_words k.writer
        (λ i below. dite (ℕ_discrete i lock)
        (λ (hit : i ≡ lock). subst TellsAligned (sym (ap (lock_word (later s)) hit
        ∙ subst (λ (n : ℕ). lock_word (set words n s.n) lock ≡ s.n) (sym is)
        (lock_set words setup k.wide lock s.n low))) tells)
        (λ (ne : i ≢ lock). subst TellsAligned (sym
        (subst (λ (n : ℕ). lock_word (set words n s.n) i ≡ lock_word words i) (sym is)
        (lock_else words lock s.n i ne))) ((k.aligned).locks i below)))
        (same_word written_number (λ e. omega arith) (k.aligned).written_word)
        (same_word flushed_number (λ e. omega arith) (k.aligned).flushed_word)
        (k.aligned).writer_at now

  -- ---- what more is seen

  sees_more : (e : StepKind) (position : ℕ)
      → learnt_of (behind e) ≡ learnt_of (with_seen position v)
      → position % 8 ≡ 0 → LearnsAligned (behind e)
  sees_more e position is aligned = learns_same (with_seen position v) (behind e) is (record {
    seen = max_aligned (v.reserving).seen position learns.seen aligned;
    end = learns.end;
    bound = learns.bound;
    written = learns.written;
    flushed = learns.flushed;
    known = learns.known;
  })

  unlocked_aligned : unlocked (position_word words) % 8 ≡ 0
  unlocked_aligned = ap (λ n. n % 8) (unlocked-is v.opening k.order
      (position_word words) (prev_word words) (map reserving_of views) k.reserved valid)
      ∙ end_aligned

  reserved : (locks : List ℕ) (value : Record) → MayStep v (store_position locks value)
      → LearnsAligned (behind (store_position locks value))
  reserved locks value may =
      let mine = part_at reserving_of views id v here in
      let place = subst
      (AtPlace size (order_end v.opening k.order) (last_start v.opening k.order) _ _ _ _) may.2
      ((k.reserved).places id v.reserving mine live) in
      let at : may.0 ≡ order_end v.opening k.order = place.2 in
      let whole : may.0 % 8 ≡ 0 = ap (λ n. n % 8) at ∙ end_aligned in
      subst (λ (p : Place). LearnsAligned (after_store_position locks value (with_place p v)))
      (sym may.2) (record {
        seen = omega (arith, whole, room_at-whole size valid may.0 value whole);
        end = learns.end;
        bound = learns.bound;
        written = learns.written;
        flushed = learns.flushed;
        known = learns.known;
      })

  -- a watch that begins
  watch_begun : (lock limit : ℕ) → limit % 8 ≡ 0 → IsWatchAligned (begun lock limit v)
  watch_begun lock limit aligned =
      let end = min limit (end_form setup (v.reserving).seen) in
      let low : end % 8 ≡ 0 = min_aligned limit (end_form setup (v.reserving).seen) aligned
      (end_address_of-mod_word size valid (v.reserving).seen learns.seen) in
      watch_either (eqb lock 0) (record { end = end; visited = 0; bound = end }) v.watching
      (record { end = low; bound = low }) (record { end = learns.end; bound = learns.bound })

  visited : (lock limit : ℕ) → MayStep v (load_lock lock limit)
      → LearnsAligned (behind (load_lock lock limit))
  visited lock limit may =
      let watch = visited_aligned (is_own lock v.working) lock (lock_word words lock)
      (begun lock limit v) ((k.aligned).locks lock may.0) (watch_begun lock limit may.1) in record {
        seen = learns.seen;
        end = watch.end;
        bound = watch.bound;
        written = learns.written;
        flushed = learns.flushed;
        known = learns.known;
      }

  -- a lock is taken where it is free
  taken_tells : (met : ℕ) → TellsAligned met → TellsAligned (cond (eqb met 0) 1 met)
  taken_tells met tells = either (eqb met 0)
    where
      either : (b : Bool) → TellsAligned (cond b 1 met)
      either true = inr refl
      either false = tells

  held_low : (lock : ℕ) → Contains (v.working).locks lock → lock < 8
  held_low lock has = lock_low words home views id v k here live lock has

  -- what is stored as written and as flushed
  stored_aligned : (l : Lent) → (v.writing).hold ≡ Out l
      → number_lent v (λ l. (l.writer).written) (v.writing).hold % 8 ≡ 0
  stored_aligned l held =
      ap (λ h. number_lent v (λ l. (l.writer).written) h % 8) held ∙ lent_aligned l held

  hard_aligned : MayStep v store_flushed → number_lent v (λ l. l.hard) (v.writing).hold % 8 ≡ 0
  hard_aligned may =
      ap (λ h. number_lent v (λ l. l.hard) h % 8) may.1 ∙ ap (λ n. n % 8) may.2.0
      ∙ lent_aligned may.0 may.1

  -- a load that leaves what is known
  loads : (e : StepKind) → later (moved words home views id v k here e) ≡ words
      → learnt_of (behind e) ≡ learnt_of v → HasAligned e k.writer
  loads e is same = by_load e is (learns_same v (behind e) same learns)

  pub aligned_behind : (e : StepKind) → MayStep v e
      → HasAligned e (writer_behind v e k.writer)
  aligned_behind load_position may = with_writer load_position (before_locks 0 (omega arith))
      (sees_more load_position (unlocked (position_word words)) refl unlocked_aligned)
  aligned_behind take_write_turn may = with_writer take_write_turn
      (beside write_turn_number (omega arith) (omega arith))
      (learns_either (eqb (slice_index words write_turn_number) 0) (with_hold Turned v) v
      (holds_now v learns Turned tt) learns)
  aligned_behind slot_out may = with_writer slot_out (beside write_turn_number (omega arith) (omega arith))
      (slot_taken v learns home)
  aligned_behind slot_in may = with_writer slot_in (beside write_turn_number (omega arith) (omega arith))
      (holds_now v learns Turned tt)
  aligned_behind release_write_turn may = with_writer release_write_turn
      (beside write_turn_number (omega arith) (omega arith)) (holds_now v learns Idle tt)
  aligned_behind (lock_position expected) may = with_writer (lock_position expected)
      (before_locks 0 (omega arith))
      (learns_either (eqb (slice_index words 0) expected) (with_place (Locked expected) v) v
      (learns_same v (with_place (Locked expected) v) refl learns) learns)
  aligned_behind load_prev may = quiet load_prev (before_locks 1 (omega arith)) (rw may.1 refl)
  aligned_behind store_prev may = quiet store_prev (before_locks 1 (omega arith)) (rw may.2 refl)
  aligned_behind (store_position locks value) may = with_writer (store_position locks value)
      (before_locks 0 (omega arith)) (reserved locks value may)
  aligned_behind (give_position_back value) may = quiet (give_position_back value)
      (before_locks 0 (omega arith)) (rw may.1 refl)
  aligned_behind stay may = quiet stay
      (before_locks 0 (omega arith)) (rw may.1 refl)
  aligned_behind (load_lock lock limit) may = by_load (load_lock lock limit)
      (word_again words (lock_number lock)) (visited lock limit may)
  aligned_behind (take_lock lock) may = by_lock (take_lock lock) lock may refl
      (taken_tells (lock_word words lock) ((k.aligned).locks lock may))
      (learns_either (eqb (slice_index words (lock_number lock)) 0)
      (with_working ((v.working).locks ++ lock ∷ []) (v.working).flight v) v
      (learns_same v (with_working ((v.working).locks ++ lock ∷ []) (v.working).flight v) refl
      learns) learns)
  aligned_behind (advance lock upto) may = by_lock (advance lock upto) lock
      (held_low lock may.0) refl (inr (omega (arith, may.2)))
      (learns_same v (behind (advance lock upto)) refl learns)
  aligned_behind (release lock) may = by_lock (release lock) lock (held_low lock may.0) refl
      (inl refl) (learns_same v (behind (release lock)) refl learns)
  aligned_behind (load_buffer_end buffer) may = quiet (load_buffer_end buffer)
      (behind_flushed (ends_number + buffer) (omega arith)) refl
  aligned_behind store_ring_word may = quiet store_ring_word
      (behind_flushed (word_of_step v store_ring_word) (omega arith)) refl
  aligned_behind (load_ring_word number) may = with_writer (load_ring_word number)
      (behind_flushed (word_of_step v (load_ring_word number)) (omega arith))
      (lends_on v learns _ (λ l. refl))
  aligned_behind load_written may = by_load load_written (word_again words written_number) (record {
    seen = learns.seen;
    end = learns.end;
    bound = learns.bound;
    written = (k.aligned).written_word;
    flushed = learns.flushed;
    known = learns.known;
  })
  aligned_behind load_flushed may = by_load load_flushed (word_again words flushed_number) (record {
    seen = max_aligned (v.reserving).seen (position_of size (flushed_word words)) learns.seen
        (position_of-whole size valid (flushed_word words) (k.aligned).flushed_word);
    end = learns.end;
    bound = learns.bound;
    written = learns.written;
    flushed = (k.aligned).flushed_word;
    known = learns.known;
  })
  aligned_behind load_moment may = quiet load_moment (behind_flushed moment_number (omega arith)) refl
  aligned_behind load_down may = quiet load_down (behind_flushed down_number (omega arith)) refl
  aligned_behind store_written may =
      let e = store_written in
      let stored = stored_aligned may.0 may.1 in
      with_words e k.writer (same_locks e (inr (omega arith)))
      (ap (λ n. n % 8) (single_set words setup k.wide written_number (moved words home views id v k here e).n
      (omega arith)) ∙ stored)
      (same_word e flushed_number (λ e. omega arith) (k.aligned).flushed_word)
      (k.aligned).writer_at (lends_on v learns _ (λ l. refl))
  aligned_behind store_moment may = with_writer store_moment (behind_flushed moment_number (omega arith))
      (lends_on v learns hardened (λ l. refl))
  aligned_behind store_flushed may =
      let e = store_flushed in
      let hard = hard_aligned may in
      with_words e k.writer (same_locks e (inr (omega arith)))
      (same_word e written_number (λ e. omega arith) (k.aligned).written_word)
      (ap (λ n. n % 8) (single_set words setup k.wide flushed_number (moved words home views id v k here e).n
      (omega arith)) ∙ hard)
      (k.aligned).writer_at (sees_more store_flushed
      (position_of size (number_lent v (λ l. l.hard) (v.writing).hold)) refl
      (position_of-whole size valid (number_lent v (λ l. l.hard) (v.writing).hold) hard))
  aligned_behind set_down may = quiet set_down (behind_flushed down_number (omega arith)) refl
  aligned_behind load_async may = quiet load_async (behind_flushed (word_of_step v load_async) (omega arith)) refl
  aligned_behind (raise_async expected upto) may = quiet (raise_async expected upto)
      (behind_flushed (word_of_step v (raise_async expected upto)) (omega arith)) refl
  aligned_behind take_mapping_turn may = with_writer take_mapping_turn
      (beside mapping_turn_number (omega arith) (omega arith))
      (learns_either (eqb (slice_index words mapping_turn_number) 0) (with_stage Taken v) v
      (learns_same v (with_stage Taken v) refl learns) learns)
  aligned_behind load_initialised_end may = quiet load_initialised_end
      (beside initialised_number (omega arith) (omega arith)) refl
  aligned_behind clear_end may = quiet clear_end
      (behind_flushed (word_of_step v clear_end) (omega arith)) refl
  aligned_behind zero_ring_word may = quiet zero_ring_word
      (behind_flushed (word_of_step v zero_ring_word) (omega arith)) refl
  aligned_behind publish_end may = quiet publish_end
      (behind_flushed (word_of_step v publish_end) (omega arith)) refl
  aligned_behind publish_initialised_end may = quiet publish_initialised_end
      (beside initialised_number (omega arith) (omega arith)) refl
  aligned_behind release_mapping_turn may = quiet release_mapping_turn
      (beside mapping_turn_number (omega arith) (omega arith)) refl
  aligned_behind (create segment outcome) may = by_word (create segment outcome)
      (beside write_turn_number (omega arith) (omega arith)) (writer_behind v (create segment outcome) k.writer)
      (ap (λ n. n % 8) (same_written (create_call size segment) outcome k.writer)
      ∙ (k.aligned).writer_at) (called v learns _ (v.writing).hold)
  aligned_behind (write segment page upto bytes outcome) may =
      by_word (write segment page upto bytes outcome) (beside write_turn_number (omega arith) (omega arith))
      (writer_behind v (write segment page upto bytes outcome) k.writer)
      (written_by (is_done outcome) upto (k.writer).written may.0.2.aligned
      (k.aligned).writer_at) (called v learns _ (v.writing).hold)
  aligned_behind (sync segment outcome) may = by_word (sync segment outcome)
      (beside write_turn_number (omega arith) (omega arith)) (writer_behind v (sync segment outcome) k.writer)
      (ap (λ n. n % 8) (same_written (sync_call size segment) outcome k.writer)
      ∙ (k.aligned).writer_at) (called v learns _ (v.writing).hold)

-- ---- passes that come, go and give up

-- a view that is new, or is left behind, has seen as much as the one that it comes from
pub fresh_aligned : (v w : View) → LearnsAligned v
    → learnt_of w ≡ ((v.reserving).seen, record { end = 0; visited = 0; bound = 0 }, 0, 0, Idle)
    → LearnsAligned w
fresh_aligned v w l is = learns_same (split_off v) w is (record {
  seen = l.seen;
  end = refl;
  bound = refl;
  written = refl;
  flushed = refl;
  known = tt;
})

pub joins_aligned : (v w : View) → LearnsAligned v → LearnsAligned w
    → LearnsAligned (after_join v w)
joins_aligned v w l m = record {
  seen = max_aligned (v.reserving).seen (w.reserving).seen l.seen m.seen;
  end = l.end;
  bound = l.bound;
  written = l.written;
  flushed = l.flushed;
  known = l.known;
}
