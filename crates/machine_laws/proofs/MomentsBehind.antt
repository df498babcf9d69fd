-- The moments behind a step of any kind.
use Rattle.std.proofs.Common.{◌≡◌, ◌≢◌, ℕ, ◌+◌, ◌<◌, ◌≤◌, Bool, cond, true, false, All, Contains, List, [], ◌∷◌, ◌++◌, map, set, slice_index, refl, sym, ap, ◌∙◌, subst, arith, eqb}
use Rattle.std.proofs.lemmas.List.Elements.{All-cons, All-weaker}
use mathlib.Core.Logic.{dite}
use native.Mathlib.Decide.{ℕ_discrete}
use mathlib.Core.Option.{Option, none, some}
use Rattle.byte_position.proofs.EndAddresses.{end_address_of-mono_lt}
use Rattle.byte_position.proofs.SegmentSizes.{segment_size_in_pages}
use Rattle.wal_types.specs.declared.record.Record.{Record}
use Rattle.wal_page.specs.Order.{Entry, position_behind}
use Rattle.wal_page.proofs.OrderLaws.{room_at-pos}
use Rattle.machine_state.specs.Words.{flushed_word, moment_word, write_turn, mapping_turn_number, write_turn_number, flushed_number, moment_number, lock_number, order_end, last_start}
use Rattle.machine_state.specs.Views.{HasAt, FlushPromise, Place, Locked, Plain, Lent, Hold, Idle, Turned, Out, Taken, View, reserving_of, receipts_of, working_of, writer_of, writing_of}
use Rattle.machine_state.specs.Ordered.{AtPlace}
use Rattle.machine_state.specs.Locked.{StandsTo}
use Rattle.machine_state.specs.Durable.{IsPromised}
use Rattle.machine_state.specs.Moves.{CallOutcome, Done, Failed, after_store_position, after_write, entry_reserved, hardened, with_hold, with_lent, with_outcome, with_place, with_stage, with_working}
use Rattle.segment_disk.specs.declared.disk.Call.{Call}
use Rattle.machine_state.specs.Steps.{StepKind, MayStep, word_of_step, value_behind, number_lent, load_position, take_write_turn, slot_out, slot_in, release_write_turn, lock_position, load_prev, store_prev, store_position, give_position_back, stay, load_lock, take_lock, advance, release, load_buffer_end, store_ring_word, load_ring_word, load_written, load_flushed, load_moment, load_down, store_written, store_moment, store_flushed, set_down, load_async, raise_async, take_mapping_turn, load_initialised_end, clear_end, zero_ring_word, publish_end, publish_initialised_end, release_mapping_turn, create, write, sync, with_slot, with_call_on}
use Rattle.machine_state.specs.Sound.{IsSound}
use Rattle.machine_state.proofs.Lists.{part_at, part_same, part_set, view_from}
use Rattle.machine_state.proofs.WordLists.{single_set, word_again, word_else}
use Rattle.machine_laws.specs.LocksBehind.{view_left, views_behind, words_behind, writer_behind}
use Rattle.machine_laws.specs.RisingMoments.{MomentsKeepRising, Promised, RisesHold, hard_in, hard_moment_in, promised_of, with_opening}
use Rattle.machine_laws.proofs.MomentRises.{next_weaker}
use Rattle.machine_laws.proofs.MomentParts.{with_promise, with_entry, with_hard, tells, grows, forgets, calls, writes, stores_moment, stores_flushed}
use Rattle.segment_disk.specs.Tape.{DiskState}

-- one of two views, of which some part is the same
same_either : {A : Type 0} (part : View → A) (b : Bool) (x y : View) → part x ≡ part y
    → part (cond b x y) ≡ part y
same_either part true x y same = same
same_either part false x y same = refl

-- ---- what a view has of promises, by what it holds of the turn to write

abbrev promised_on : View → Hold → Promised
promised_on v hold = promised_of (with_hold hold v)

-- what is in hand changes, but not what was stored
lent_same : (v : View) (f : Lent → Lent) → ((l : Lent) → (f l).hard ≡ l.hard)
    → ((l : Lent) → (f l).hard_moment ≡ l.hard_moment) → (hold : Hold)
    → promised_on v (with_lent f hold) ≡ promised_on v hold
lent_same v f hard moment Idle = refl
lent_same v f hard moment Turned = refl
lent_same v f hard moment (Out l) =
    λ i. record (promised_on v Idle) { hard = hard l i; hard_moment = moment l i }

-- the writer goes out, with nothing stored
out_same : (v : View) (home : Option Plain) → (v.writing).hold ≡ Turned
    → promised_of (with_slot v home) ≡ promised_of v
out_same v none turned = refl
out_same v (some writer) turned = ap (promised_on v) (sym turned)

call_same : (v : View) (f : Plain → Plain) (hold : Hold)
    → promised_of (with_call_on v f hold) ≡ promised_of v
call_same v f Idle = refl
call_same v f Turned = refl
call_same v f (Out l) =
    lent_same v (λ m. record m { writer = f l.writer }) (λ _. refl) (λ _. refl) (v.writing).hold

hard_is : (v : View) (hold : Hold) → number_lent v (λ l. l.hard) hold ≡ hard_in hold
hard_is v Idle = refl
hard_is v Turned = refl
hard_is v (Out l) = refl

hard_moment_is : (v : View) (hold : Hold)
    → number_lent v (λ l. l.hard_moment) hold ≡ hard_moment_in hold
hard_moment_is v Idle = refl
hard_moment_is v Turned = refl
hard_moment_is v (Out l) = refl

-- where something was stored the writer is in hand
stored_out : (hold : Hold) → hard_in hold ≢ 0 → (l : Lent) × (hold ≡ Out l)
stored_out Idle some_stored = absurd (some_stored refl)
stored_out Turned some_stored = absurd (some_stored refl)
stored_out (Out l) some_stored = (l, refl)

-- ---- the writer's moment behind a call

outcome_later : (call : Call) (outcome : CallOutcome) (writer : Plain)
    → writer.moment ≤ (with_outcome call outcome writer).moment
outcome_later call Done writer = omega arith
outcome_later call (Failed faults none) writer = omega arith
outcome_later call (Failed faults (some made)) writer = omega arith

outcome_written : (call : Call) (outcome : CallOutcome) (writer : Plain)
    → (with_outcome call outcome writer).written ≡ writer.written
outcome_written call Done writer = refl
outcome_written call (Failed faults none) writer = refl
outcome_written call (Failed faults (some made)) writer = refl

module _ {first : DiskState} (words : List ℕ) (home : Option Plain) (views : List View) (id : ℕ) (v : View)
    (k : IsSound first v.opening words home views) (here : HasAt views id v)
    (live : (v.reserving).live ≡ true) (now : MomentsKeepRising v.opening words home views k) where
  abbrev size : ℕ
  size = ((v.opening).setup).seg_size

  abbrev parts : List Promised
  parts = map promised_of views

  mine : HasAt parts id (promised_of v)
  mine = part_at promised_of views id v here

  abbrev Now : ℕ → ℕ → Plain → List Promised → Type 0
  Now flushed moment writer ps = RisesHold v.opening flushed moment writer ps

  begun : (v.opening).moment ≤ moment_word words
  begun = (k.durable).begun

  late : moment_word words ≤ (k.writer).moment
  late = (k.durable).moment_low

  flushed_low : flushed_word words ≤ (k.writer).written
  flushed_low = omega (arith, (k.positions).flushed_low, (k.positions).written_low)

  -- how a view stands to the writer
  stands : (j : ℕ) (u : View) → HasAt views j u → (l : Lent) → (u.writing).hold ≡ Out l
      → (write_turn words ≡ (u.reserving).number + 1) × (((k.locks).writing).holder ≡ j)
      × (home ≡ none) × (l.writer ≡ k.writer)
  stands j u at l is = subst (λ (h : Hold). StandsTo (write_turn words)
      ((k.locks).writing).holder home k.writer j (u.reserving).number h) is
      (((k.locks).writing).each j (writer_of u) (part_at writer_of views j u at))

  module _ (e : StepKind) where
    abbrev later : List ℕ
    later = words_behind words v e

    abbrev left : View
    left = view_left words home v e

    abbrev stored : ℕ
    stored = value_behind v e (slice_index words (word_of_step v e))

    abbrev views_later : List View
    views_later = views_behind words home views id v e

    abbrev pub HasMoments : Type 0
    HasMoments = Now (flushed_word later) (moment_word later) (writer_behind v e k.writer)
        (map promised_of views_later)

    -- with these words and parts
    with_these : (flushed moment : ℕ) (ps : List Promised) → flushed_word later ≡ flushed
        → moment_word later ≡ moment → map promised_of views_later ≡ ps
        → Now flushed moment (writer_behind v e k.writer) ps → HasMoments
    with_these flushed moment ps is_flushed is_moment are holds =
        subst (λ (x : ℕ × ℕ × List Promised). Now x.0 x.1 (writer_behind v e k.writer) x.2)
        (λ j. (sym is_flushed j, sym is_moment j, sym are j)) holds

    -- where neither word is stored
    same_words : flushed_number ≢ word_of_step v e → moment_number ≢ word_of_step v e → (ps : List Promised)
        → map promised_of views_later ≡ ps
        → Now (flushed_word words) (moment_word words) (writer_behind v e k.writer) ps
        → HasMoments
    same_words apart_flushed apart_moment ps are holds = with_these (flushed_word words)
        (moment_word words) ps (word_else words (word_of_step v e) stored flushed_number apart_flushed)
        (word_else words (word_of_step v e) stored moment_number apart_moment) are holds

    -- and the view has the same of promises
    stays : Now (flushed_word words) (moment_word words) (writer_behind v e k.writer) parts
        → promised_of left ≡ promised_of v → flushed_number ≢ word_of_step v e → moment_number ≢ word_of_step v e
        → HasMoments
    stays holds same apart_flushed apart_moment = same_words apart_flushed apart_moment parts
        (part_same promised_of views id v left here same) holds

    -- where a word is stored as it was
    loads : later ≡ words → (ps : List Promised) → map promised_of views_later ≡ ps
        → Now (flushed_word words) (moment_word words) (writer_behind v e k.writer) ps
        → HasMoments
    loads again ps are holds = with_these (flushed_word words) (moment_word words) ps
        (ap flushed_word again) (ap moment_word again) are holds

  -- ---- the kinds that change what is promised, or may be

  told : HasMoments load_moment
  told =
      let x : Promised = promised_of v in
      let met = ((k.positions).views id v.writing (part_at writing_of views id v here)).flushed_met in
      loads load_moment (word_again words moment_number)
      (set parts id (with_promise (v.writing).flushed (moment_word words) x))
      (part_set promised_of views id (left load_moment))
      (tells v.opening (flushed_word words) (moment_word words) k.writer parts now id x mine
      (v.writing).flushed (moment_word words)
      (next_weaker v.opening x.entries x.promises (flushed_word words) (v.writing).flushed
      (moment_word words) (moment_word words) met (omega arith) (now.of_flushed id x mine))
      (omega arith) late)

  -- only one view has stored a moment
  alone : (l : Lent) → (v.writing).hold ≡ Out l → (j : ℕ) (y : Promised) → j ≢ id
      → HasAt parts j y → y.hard ≡ 0
  alone l out j y apart at = dite (ℕ_discrete y.hard 0) (λ none. none) (λ some_stored.
      let u = view_from promised_of views j y at in
      let has = stored_out (u.0).writing.hold (λ none. some_stored
      (sym (ap (λ (z : Promised). z.hard) u.2) ∙ none)) in
      absurd (apart (sym (stands j u.0 u.1 has.0 has.1).1 ∙ (stands id v here l out).1)))

  moment_stored : MayStep v store_moment → HasMoments store_moment
  moment_stored may =
      let x : Promised = promised_of v in
      let w : Plain = k.writer in
      let writer_is = (stands id v here may.0 may.1).3 in
      let value : stored store_moment ≡ w.moment =
      ap (number_lent v (λ l. (l.writer).moment)) may.1 ∙ ap (λ (p : Plain). p.moment) writer_is in
      let same : promised_of (left store_moment) ≡ with_hard w.written w.moment x =
      ap (λ (h : Hold). promised_on v (with_lent hardened h)) may.1
      ∙ ap (λ (p : Plain). with_hard p.written p.moment x) writer_is in
      with_these store_moment (flushed_word words) w.moment
      (set parts id (with_hard w.written w.moment x))
      (word_else words moment_number (stored store_moment) flushed_number (λ e. omega arith))
      (single_set words (v.opening).setup k.wide moment_number (stored store_moment) (omega arith) ∙ value)
      (part_set promised_of views id (left store_moment)
      ∙ ap (λ (y : Promised). set parts id y) same)
      (stores_moment v.opening (flushed_word words) (moment_word words) w parts now id x mine late
      (alone may.0 may.1))

  -- an address that was stored as durable is not 0
  is_stored : MayStep v store_flushed → hard_in (v.writing).hold ≢ 0
  is_stored may is_none =
      let is : hard_in (v.writing).hold ≡ (k.writer).written =
      ap hard_in may.1 ∙ (may.2).0
      ∙ ap (λ (p : Plain). p.written) (stands id v here may.0 may.1).3 in
      let some_pages = segment_size_in_pages size (k.setup_is).size in
      omega (arith, is, is_none, (k.positions).begun, flushed_low, some_pages)

  flushed_stored : MayStep v store_flushed → HasMoments store_flushed
  flushed_stored may =
      let x : Promised = promised_of v in
      let w : Plain = k.writer in
      let some_stored : x.hard ≢ 0 = is_stored may in
      let had = now.of_hard id x mine some_stored in
      let next = next_weaker v.opening x.entries x.promises x.hard x.hard (moment_word words)
      x.hard_moment (omega arith) (omega (arith, had.0)) (had.1 id x mine) in
      let hard = hard_is v (v.writing).hold in
      let moment = hard_moment_is v (v.writing).hold in
      with_these store_flushed x.hard (moment_word words)
      (set parts id (with_promise x.hard x.hard_moment x))
      (single_set words (v.opening).setup k.wide flushed_number (stored store_flushed) (omega arith) ∙ hard)
      (word_else words flushed_number (stored store_flushed) moment_number (λ e. omega arith))
      (part_set promised_of views id (left store_flushed)
      ∙ ap (λ (n : ℕ × ℕ). set parts id (with_promise n.0 n.1 x)) (λ i. (hard i, moment i)))
      (tells v.opening x.hard (moment_word words) w parts
      (stores_flushed v.opening (flushed_word words) (moment_word words) w parts now id x mine
      some_stored) id x mine x.hard x.hard_moment next (omega (arith, had.0)) late)

  -- what a part stored is not above what is written
  hard_low : (j : ℕ) (y : Promised) → HasAt parts j y → y.hard ≤ (k.writer).written
  hard_low j y at = dite (ℕ_discrete y.hard 0) (λ none. omega arith) (λ some_stored.
      let u = view_from promised_of views j y at in
      let same : hard_in (u.0).writing.hold ≡ y.hard = ap (λ (z : Promised). z.hard) u.2 in
      let has = stored_out (u.0).writing.hold (λ none. some_stored (sym same ∙ none)) in
      let is : hard_in (u.0).writing.hold ≡ (has.0).hard = ap hard_in has.1 in
      let low = (((k.durable).views j (receipts_of u.0) (part_at receipts_of views j u.0 u.1)).in_hand
      has.0 has.1).hard_low in
      omega (arith, same, is, low))

  -- nor is what was promised above what is flushed
  told_low : All (λ (p : FlushPromise). p.upto ≤ flushed_word words)
      (with_opening v.opening (v.writing).promises)
  told_low = All-cons (λ (p : FlushPromise). p.upto ≤ flushed_word words) _ (v.writing).promises
      (k.positions).begun
      (All-weaker (IsPromised (flushed_word words) (moment_word words))
      (λ (p : FlushPromise). p.upto ≤ flushed_word words) (λ p promised. promised.upto_low)
      (v.writing).promises
      ((k.durable).views id (receipts_of v) (part_at receipts_of views id v here)).own_promised)

  position_stored : (locks : List ℕ) (value : Record) → MayStep v (store_position locks value)
      → HasMoments (store_position locks value)
  position_stored locks value may =
      let x : Promised = promised_of v in
      let w : Plain = k.writer in
      let place = subst
      (AtPlace size (order_end v.opening k.order) (last_start v.opening k.order) _ _ _ _) may.2
      ((k.reserved).places id v.reserving (part_at reserving_of views id v here) live) in
      let at : may.0 ≡ order_end v.opening k.order = place.2 in
      let e : Entry = entry_reserved (v.reserving).number may.0 value in
      let above = end_address_of-mono_lt size (k.setup_is).size (order_end v.opening k.order)
      (position_behind size e) (omega (arith, at, room_at-pos size e)) in
      let same : promised_of (left (store_position locks value)) ≡ with_entry e x =
      subst (λ (p : Place). promised_of (after_store_position locks value (with_place p v))
      ≡ with_entry e x) (sym may.2) refl in
      same_words (store_position locks value) (λ e. omega arith) (λ e. omega arith)
      (set parts id (with_entry e x))
      (part_set promised_of views id (left (store_position locks value))
      ∙ ap (λ (y : Promised). set parts id y) same)
      (grows v.opening (flushed_word words) (moment_word words) w parts now id x mine e flushed_low
      (omega (arith, above, (k.positions).reserved)) hard_low told_low)

  -- ---- calls of the device

  called : (other : Plain) → other.written ≡ (k.writer).written
      → (k.writer).moment ≤ other.moment
      → Now (flushed_word words) (moment_word words) other parts
  called = calls v.opening (flushed_word words) (moment_word words) k.writer parts now

  wrote : (segment upto : ℕ) (call : Call) (outcome : CallOutcome)
      → Now (flushed_word words) (moment_word words)
      (after_write segment upto call outcome k.writer) parts
  wrote segment upto call Done =
      writes v.opening (flushed_word words) (moment_word words) k.writer parts now
      (after_write segment upto call Done k.writer) (omega arith)
  wrote segment upto call (Failed faults none) =
      called (after_write segment upto call (Failed faults none) k.writer) refl (omega arith)
  wrote segment upto call (Failed faults (some made)) =
      called (after_write segment upto call (Failed faults (some made)) k.writer) refl (omega arith)

  -- a lock is one of eight
  lock_low : (lock : ℕ) → Contains (v.working).locks lock → lock < 8
  lock_low lock has =
      (((k.locks).locks).each id lock v.working (part_at working_of views id v here) has).0

  pub moments_behind : (e : StepKind) → MayStep v e → HasMoments e
  moments_behind load_position may = stays load_position now refl (λ e. omega arith) (λ e. omega arith)
  moments_behind take_write_turn may = stays take_write_turn now
      (same_either promised_of (eqb (slice_index words write_turn_number) 0) (with_hold Turned v) v
      (ap (promised_on v) (sym may))) (λ e. omega arith) (λ e. omega arith)
  moments_behind slot_out may = stays slot_out now (out_same v home may) (λ e. omega arith) (λ e. omega arith)
  moments_behind slot_in may = same_words slot_in (λ e. omega arith) (λ e. omega arith)
      (set parts id (with_hard 0 0 (promised_of v))) (part_set promised_of views id (left slot_in))
      (forgets v.opening (flushed_word words) (moment_word words) k.writer parts now id
      (promised_of v) mine)
  moments_behind release_write_turn may = stays release_write_turn now
      (ap (promised_on v) (sym may)) (λ e. omega arith) (λ e. omega arith)
  moments_behind (lock_position expected) may = stays (lock_position expected) now
      (same_either promised_of (eqb (slice_index words 0) expected) (with_place (Locked expected) v)
      v refl) (λ e. omega arith) (λ e. omega arith)
  moments_behind load_prev may = stays load_prev now (rw may.1 refl) (λ e. omega arith) (λ e. omega arith)
  moments_behind store_prev may = stays store_prev now (rw may.2 refl) (λ e. omega arith) (λ e. omega arith)
  moments_behind (store_position locks value) may = position_stored locks value may
  moments_behind (give_position_back value) may = stays (give_position_back value) now (rw may.1 refl) (λ e. omega arith) (λ e. omega arith)
  moments_behind stay may = stays stay now (rw may.1 refl) (λ e. omega arith) (λ e. omega arith)
  moments_behind (load_lock lock limit) may = stays (load_lock lock limit) now refl (λ e. omega (arith, may)) (λ e. omega (arith, may))
  moments_behind (take_lock lock) may = stays (take_lock lock) now
      (same_either promised_of (eqb (slice_index words (lock_number lock)) 0)
      (with_working ((v.working).locks ++ lock ∷ []) (v.working).flight v) v refl)
      (λ e. omega (arith, may)) (λ e. omega (arith, may))
  moments_behind (advance lock upto) may =
      let low = lock_low lock may.0 in
      stays (advance lock upto) now refl (λ e. omega arith) (λ e. omega arith)
  moments_behind (release lock) may =
      let low = lock_low lock may.0 in
      stays (release lock) now refl (λ e. omega arith) (λ e. omega arith)
  moments_behind (load_buffer_end buffer) may = stays (load_buffer_end buffer) now refl (λ e. omega arith) (λ e. omega arith)
  moments_behind store_ring_word may = stays store_ring_word now refl (λ e. omega arith) (λ e. omega arith)
  moments_behind (load_ring_word number) may = stays (load_ring_word number) now
      (lent_same v (λ l. record l { staged = (number, _) ∷ l.staged }) (λ _. refl) (λ _. refl)
      (v.writing).hold) (λ e. omega arith) (λ e. omega arith)
  moments_behind load_written may = stays load_written now refl (λ e. omega arith) (λ e. omega arith)
  moments_behind load_flushed may = loads load_flushed (word_again words flushed_number) parts
      (part_same promised_of views id v (left load_flushed) here refl) now
  moments_behind load_moment may = told
  moments_behind load_down may = stays load_down now refl (λ e. omega arith) (λ e. omega arith)
  moments_behind store_written may = stays store_written now
      (lent_same v (λ l. record l { stored = (l.writer).written }) (λ _. refl) (λ _. refl)
      (v.writing).hold) (λ e. omega arith) (λ e. omega arith)
  moments_behind store_moment may = moment_stored may
  moments_behind store_flushed may = flushed_stored may
  moments_behind set_down may = stays set_down now refl (λ e. omega arith) (λ e. omega arith)
  moments_behind load_async may = stays load_async now refl (λ e. omega arith) (λ e. omega arith)
  moments_behind (raise_async expected upto) may = stays (raise_async expected upto) now refl (λ e. omega arith) (λ e. omega arith)
  moments_behind take_mapping_turn may = stays take_mapping_turn now
      (same_either promised_of (eqb (slice_index words mapping_turn_number) 0) (with_stage Taken v) v refl)
      (λ e. omega arith) (λ e. omega arith)
  moments_behind load_initialised_end may = stays load_initialised_end now refl (λ e. omega arith) (λ e. omega arith)
  moments_behind clear_end may = stays clear_end now refl (λ e. omega arith) (λ e. omega arith)
  moments_behind zero_ring_word may = stays zero_ring_word now refl (λ e. omega arith) (λ e. omega arith)
  moments_behind publish_end may = stays publish_end now refl (λ e. omega arith) (λ e. omega arith)
  moments_behind publish_initialised_end may = stays publish_initialised_end now refl (λ e. omega arith) (λ e. omega arith)
  moments_behind release_mapping_turn may = stays release_mapping_turn now refl (λ e. omega arith) (λ e. omega arith)
  moments_behind (create segment outcome) may = stays (create segment outcome)
      (called (writer_behind v (create segment outcome) k.writer)
      (outcome_written _ outcome k.writer) (outcome_later _ outcome k.writer))
      (call_same v _ (v.writing).hold) (λ e. omega arith) (λ e. omega arith)
  moments_behind (write segment page upto bytes outcome) may =
      stays (write segment page upto bytes outcome) (wrote segment upto _ outcome)
      (call_same v _ (v.writing).hold) (λ e. omega arith) (λ e. omega arith)
  moments_behind (sync segment outcome) may = stays (sync segment outcome)
      (called (writer_behind v (sync segment outcome) k.writer)
      (outcome_written _ outcome k.writer) (outcome_later _ outcome k.writer))
      (call_same v _ (v.writing).hold) (λ e. omega arith) (λ e. omega arith)
