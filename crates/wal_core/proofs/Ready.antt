-- A turn on plain data may be played: positions and addresses are far below the last of 64 bits,
-- and each place has what its step rests on.
use Rattle.std.proofs.Common.{◌≡◌, ⊎_elim, inl, inr, ℕ, ◌+◌, ◌*◌, ◌/◌, ◌%◌, ◌^◌, ◌<◌, ◌≤◌, true, false, List, [], ◌∷◌, Contains, Option, Some, min, refl, sym, ap, ◌∙◌, subst, arith}
use Rattle.std.proofs.lemmas.Bool.{cases_lt}
use Rattle.std.proofs.Math.Nat.{le-min, min-le_left, mul-le-mul_right}
use mathlib.Core.Option.{Option as Maybe, none, some}
use Rattle.byte_position.specs.Geometry.{IsSegmentSize}
use Rattle.byte_position.specs.Position.{first_position, usable_bytes_in_segment}
use Rattle.byte_position.proofs.EndAddresses.{end_address_of-le_address_of, end_address_of-mono}
use Rattle.byte_position.proofs.Rising.{address_of-bound, position_of-le_self}
use Rattle.byte_position.proofs.SegmentSizes.{segment_size_tests}
use Rattle.byte_position.proofs.Segments.{first_position-usable}
use Rattle.byte_position.proofs.Words.{end_address_of-mod_word}
use Rattle.wal_spelling.specs.Spelling.{Assembled, assembled}
use Rattle.segment_disk.specs.Tape.{DiskState}
use Rattle.wal_page.specs.Order.{Entry, position_behind, rooms_of}
use Rattle.wal_page.specs.EntryWords.{address_of_word, words_owned}
use Rattle.wal_page.proofs.OrderLaws.{FollowsFrom-parts, rooms_of-append, rooms_of_cons}
use Rattle.wal_page.proofs.PlaceLaws.{end-whole_from}
use Rattle.machine_state.specs.declared.setup.Setup.{Setup}
use Rattle.machine_state.specs.Words.{Opening, end_form, log_limit, position_word, written_word, initialised_word, word_of_ring, write_turn, order_end, GoesOnAtPlace}
use Rattle.machine_state.specs.Views.{HasAt, Place, Free, Locked, Loaded, Stored, Copy, Flight, Landed, Copying, Stage, Away, Taken, Looked, Ready, Zeroing, Published, Plain, Lent, Hold, Out, View, reserving_of, working_of, flight_of, mapper_of, writer_of, writing_of}
use Rattle.machine_state.specs.Moves.{unlocked}
use Rattle.machine_state.specs.Ordered.{AtPlace}
use Rattle.machine_state.specs.Locked.{HasTurn, StandsTo}
use Rattle.machine_state.specs.Ringed.{IsOfOrder}
use Rattle.machine_state.specs.Paged.{AtStage}
use Rattle.machine_state.specs.Aligned.{IsKnownAligned}
use Rattle.machine_state.specs.Sound.{IsSetup, IsSound}
use Rattle.machine_state.proofs.Lists.{part_at}
use Rattle.machine_state.specs.Steps.{IsLive}
use Rattle.machine_turns.specs.Doing.{Ask, Flushes, ForLine, Machine}
use Rattle.machine_turns.specs.Standing.{AwaitsSync, IsRunning, IsWriterUp, LoadsOn, StandsToDo, segment_next}
use Rattle.machine_turns.proofs.AtView.{sound}
use Rattle.machine_turns.proofs.FlushPlaces.{hold_of}
use Rattle.machine_turns.proofs.SegmentSteps.{next-begins}
use Rattle.machine_turns.specs.declared.doing.PlainDoing.{PlainDoing}
use Rattle.machine_turns.specs.declared.doing.PlainDoing.TheVariants as doings
use Rattle.machine_turns.specs.declared.script.PlainLine.{PlainLine}
use Rattle.machine_turns.specs.declared.script.PlainLine.TheVariants.{Insert, Commit, Flush as LineFlush}
use Rattle.machine_turns.specs.Left.{next_in}
use Rattle.machine_turns.specs.Lanes.{HasNextOf, HasNextWord, IsLow, IsLowPlace, IsLowStage, IsReadyFor}
use Rattle.machine_turns.specs.Writer.{WriterState, IsCreateDue, IsSyncDue, IsWriteDue}
use Rattle.machine_turns.specs.Writing.{known_in, segment_waiting, upto_next}
use Rattle.wal_core.specs.Lines.{InsertsRecord}
use Rattle.wal_core.specs.PlainData.{doing_of, plain_flight, plain_hold, plain_place, plain_stage, plain_view, purpose_of}
use Rattle.wal_core.specs.Playing.{IsWriterOf, TriesFew}
use Rattle.wal_core.specs.Marks.{IsMark}
use Rattle.wal_core.proofs.Syncs.{syncs_made}
use Rattle.wal_core.proofs.CallRoom.{HasRoom, room_to_create, room_to_sync, room_to_write, segment_fits, upto_mark}

-- ---- the log's limit

-- a log has at most 4,096 segments of at most 2 ^ 30 bytes
log_limit-low : (setup : Setup) → IsSetup setup → log_limit setup ≤ 2 ^ 43
log_limit-low setup is =
    let size = setup.seg_size in
    let usable = usable_bytes_in_segment size in
    let high = (segment_size_tests size is.size).2 in
    let most : setup.cap_segments * usable ≤ 4096 * usable =
    mul-le-mul_right usable is.cap_high in
    omega (
      arith,
      high,
      first_position-usable size is.size,
      position_of-le_self size size,
      most,
    )

-- an address is at most about twice its position
pub end_form-near : (setup : Setup) → IsSegmentSize setup.seg_size → (position : ℕ)
    → end_form setup position ≤ 2 * position + 40
end_form-near setup valid position = omega (
  arith,
  end_address_of-le_address_of setup.seg_size valid position,
  address_of-bound setup.seg_size valid position,
)

-- an entry of the order ends at the order's end or before
entry-within : (opening : Opening) (order : List Entry) → GoesOnAtPlace opening order → (c : Copy)
    → IsOfOrder opening order c
    → position_behind (opening.setup).seg_size c.entry ≤ order_end opening order
entry-within opening order chain c s =
    let size : ℕ = (opening.setup).seg_size in
    let from : ℕ = (opening.place).position in
    let parts = FollowsFrom-parts size from s.front (c.entry ∷ s.back)
    (subst (GoesOnAtPlace opening) s.are chain) in
    let start : (c.entry).start ≡ from + rooms_of size s.front = parts.1.0 in
    let all : rooms_of size order
    ≡ rooms_of size s.front + rooms_of size (c.entry ∷ s.back) =
    ap (rooms_of size) s.are ∙ rooms_of-append size s.front (c.entry ∷ s.back) in
    omega (arith, start, all, rooms_of_cons size c.entry s.back)

-- what is written next raises the written address by a word
rises_by_word : (written known : ℕ) → written % 8 ≡ 0 → known % 8 ≡ 0 → written < known
    → written + 8 ≤ min known (written / 8192 * 8192 + 8192)
rises_by_word written known one other low = le-min (omega arith) (omega arith)

-- ---- a live view, under the invariant

module _ {first : DiskState} (words : List ℕ) (home : Maybe Plain) (views : List View) (id : ℕ)
    (v : View) (k : IsSound first v.opening words home views) (here : HasAt views id v)
    (alive : (v.reserving).live ≡ true) where
  abbrev setup : Setup
  setup = (v.opening).setup

  abbrev size : ℕ
  size = setup.seg_size

  abbrev last_position : ℕ
  last_position = order_end v.opening k.order

  valid : IsSegmentSize size
  valid = (k.setup_is).size

  end-low : last_position ≤ 2 ^ 43
  end-low = omega (arith, (k.reserved).within, log_limit-low setup k.setup_is)

  end_form-low : end_form setup last_position ≤ 2 ^ 44 + 40
  end_form-low = omega (arith, end-low, end_form-near setup valid last_position)

  written-low : written_word words ≤ 2 ^ 44 + 40
  written-low =
      omega (arith, (k.positions).written_low, (k.positions).reserved, end_form-low)

  number-low : (v.reserving).number < 65536
  number-low = elim (cases_lt (v.reserving).number setup.passes) [
    | inl low ↦ omega (arith, low, (k.setup_is).passes_high)
    | inr high ↦ (
        let part = (k.reserved).views id (reserving_of v) (part_at reserving_of views id v here)
        alive in
        let none = (k.reserved).beyond (v.reserving).number high in
        let own = part.own in
        absurd (cc))
  ]

  -- ---- the parts of its plain data

  position-low : position_word words < 2 ^ 59
  position-low = omega (arith, end-low, (k.reserved).position_is, (k.reserved).one_bit)

  place-low : (p : Place) (last prev locked holder : ℕ)
      → AtPlace size last_position last prev locked holder id p → IsLowPlace (plain_place p)
  place-low Free last prev locked holder at = tt
  place-low (Locked start) last prev locked holder at = omega (arith, end-low, at.2)
  place-low (Loaded start met) last prev locked holder at = omega (arith, end-low, at.2)
  place-low (Stored start met) last prev locked holder at = omega (arith, end-low, at.2)

  seen-low : (v.reserving).seen < 2 ^ 60
  seen-low =
      let part = (k.reserved).views id (reserving_of v) (part_at reserving_of views id v here)
      alive in
      omega (arith, end-low, part.seen)

  of_order : (c : Copy) → (v.working).flight ≡ Copying c → IsOfOrder v.opening k.order c
  of_order c is = (k.ring).in_flight id c
      (part_at flight_of views id v here ∙ ap (λ (f : Flight). some f) is)

  flight-low : (c : Copy) → (v.working).flight ≡ Copying c
      → address_of_word size c.entry c.copied < 2 ^ 60
  flight-low c is =
      let of = of_order c is in
      let behind = entry-within v.opening k.order (k.reserved).chained c of in
      let rises = end_address_of-mono size valid (position_behind size c.entry) last_position behind in
      let first = end_address_of-mono size valid (c.entry).start (position_behind size c.entry)
      (omega arith) in
      let copied = of.copied_within in
      omega (arith, end_form-low, rises, first, copied)

  next-low : (f : Flight) → (v.working).flight ≡ f → next_in (plain_flight size f) < 2 ^ 60
  next-low Landed is = omega arith
  next-low (Copying c) is = flight-low c is

  -- the last page that is mapped lies at most the ring's pages behind what is written
  abbrev AtMyStage : Stage → Type 0
  AtMyStage s = AtStage setup.ring_pages (k.pages).low k.reach (initialised_word words)
      (written_word words) (word_of_ring setup words) s

  reach-low : k.reach ≤ (k.pages).low + setup.ring_pages → k.reach * 8192 < 2 ^ 46
  reach-low most =
      omega (arith, most, (k.pages).given_up, written-low, (k.setup_is).ring_high)

  stage-low : (s : Stage) → AtMyStage s → IsLowStage (plain_stage s)
  stage-low Away at = tt
  stage-low Taken at = tt
  stage-low (Looked start) at = omega (arith, at.0.0, at.0.1, at.1, reach-low (omega arith))
  stage-low (Ready start met) at = omega (arith, at.0.0, at.0.1, at.1, reach-low (omega arith))
  stage-low (Zeroing start count) at =
      (omega (arith, at.0, at.1, at.2, reach-low (omega arith)), at.3)
  stage-low (Published start) at = omega (arith, at.0, at.1, at.2, reach-low (omega arith))

  mapper-low : (s : Stage) → (v.mapping).stage ≡ s → HasTurn s → IsLowStage (plain_stage s)
  mapper-low s is has =
      let mine = ((k.locks).mapping).each id (mapper_of v) (part_at mapper_of views id v here)
      (subst HasTurn (sym is) has) in
      stage-low s (subst AtMyStage (mine.1 ∙ is) (k.pages).mapping)

  own_stage-low : (s : Stage) → (v.mapping).stage ≡ s → IsLowStage (plain_stage s)
  own_stage-low Away is = tt
  own_stage-low Taken is = tt
  own_stage-low (Looked start) is = mapper-low (Looked start) is tt
  own_stage-low (Ready start met) is = mapper-low (Ready start met) is tt
  own_stage-low (Zeroing start count) is = mapper-low (Zeroing start count) is tt
  own_stage-low (Published start) is = mapper-low (Published start) is tt

  -- ---- all of it

  numbers_low : IsLow words (plain_view v)
  numbers_low = record {
    number = number-low;
    position = position-low;
    written = omega (arith, written-low);
    place = place-low (v.reserving).place _ _ _ _ ((k.reserved).places id (reserving_of v)
        (part_at reserving_of views id v here) alive);
    seen = seen-low;
    next = next-low (v.working).flight refl;
    stage = own_stage-low (v.mapping).stage refl;
  }

  -- ---- a lock that it holds, and the next word of its copy

  lock-low : (lock : ℕ) → (v.working).locks ≡ lock ∷ [] → lock < 8
  lock-low lock are = (((k.locks).locks).each id lock (working_of v)
      (part_at working_of views id v here)
      (subst (λ (locks : List ℕ). Contains locks lock) (sym are) (0, omega arith, refl))).0

  next_of_record : (c : Copy) → (v.working).flight ≡ Copying c → (c.entry).start % 8 ≡ 0
      → c.copied < words_owned size c.entry
      → HasNextOf setup (assembled (c.entry).value) (plain_flight size (Copying c))
  next_of_record c is whole left =
      let behind = entry-within v.opening k.order (k.reserved).chained c (of_order c is) in
      let first = end_address_of-mod_word size valid (c.entry).start whole in
      let low : position_behind size c.entry < 2 ^ 60 = omega (arith, end-low, behind) in
      (whole, low, omega (arith, first), omega arith, omega (arith, left))

  next_of_line : (c : Copy) → (v.working).flight ≡ Copying c → (c.entry).start % 8 ≡ 0
      → c.copied < words_owned size c.entry → (line : PlainLine)
      → InsertsRecord (c.entry).value line
      → HasNextWord setup (Some line) (plain_flight size (Copying c))
  next_of_line c is whole left (Insert body) inserts =
      subst (λ (b : Assembled). HasNextOf setup b (plain_flight size (Copying c)))
      (sym inserts.0) (next_of_record c is whole left)
  next_of_line c is whole left (Commit body) inserts =
      subst (λ (b : Assembled). HasNextOf setup b (plain_flight size (Copying c)))
      (sym inserts.0) (next_of_record c is whole left)
  next_of_line c is whole left LineFlush inserts = absurd inserts

  -- ---- each place

  module _ (ask : Ask) (copied : Option PlainLine)
      (copies : (c : Copy) → (v.working).flight ≡ Copying c
      → (l : PlainLine) × (copied ≡ Some l) × InsertsRecord (c.entry).value l)
      (w : WriterState) (writer_is : IsWriterOf w.plain home views) (size_is : w.size ≡ size)
      (end_is : end_form setup (unlocked (position_word words)) ≤ w.end) (ends : List ℕ)
      (lines syncs : ℕ)
      (known_is : IsMark size ends (known_in (plain_hold (v.writing).hold)))
      (has : HasRoom size w.end ends w.plain lines syncs w.room) where
    has_next : (c : Copy) → (v.working).flight ≡ Copying c → (c.entry).start % 8 ≡ 0
        → c.copied < words_owned size c.entry
        → HasNextWord setup copied (plain_flight size (v.working).flight)
    has_next c is whole left =
        let line = copies c is in
        subst (λ (f : Flight). HasNextWord setup copied (plain_flight size f)) (sym is)
        (subst (λ (o : Option PlainLine). HasNextWord setup o (plain_flight size (Copying c)))
        (sym line.1) (next_of_line c is whole left line.0 line.2))

    -- ---- with the writer in hand

    position-end : unlocked (position_word words) ≡ last_position
    position-end = omega (
      arith,
      end-whole_from size valid ((v.opening).place).position k.order (k.reserved).chained
          ((k.reserved).placed).whole,
      (k.reserved).position_is,
      (k.reserved).one_bit,
    )

    module _ (l : Lent) (hold : (v.writing).hold ≡ Out l) where
      same : l.writer ≡ w.plain
      same = writer_is.in_hand id v l here hold

      held_writer : l.writer ≡ k.writer
      held_writer = (subst (λ (h : Hold). StandsTo (write_turn words)
          ((k.locks).writing).holder home k.writer id (v.reserving).number h) hold
          (((k.locks).writing).each id (writer_of v) (part_at writer_of views id v here))).3

      known-low : l.known ≤ w.end
      known-low =
          let mine = ((k.positions).views id (writing_of v) (part_at writing_of views id v here)) in
          omega (arith, (mine.known l hold).0, ap (end_form setup) position-end, end_is)

      writer_up : IsWriterUp size l.writer → IsWriterUp size w.plain
      writer_up up = subst (IsWriterUp size) same up

      left : LoadsOn size 1024 l → (w.plain).written < l.known
      left on = subst (λ (p : Plain). p.written < l.known) same on.left

      create_due : LoadsOn size 1024 l → (l.writer).made < segment_next size l.writer
          → IsCreateDue w
      create_due on fresh =
          let low = left on in
          let fresh_here : (w.plain).made < segment_next size w.plain =
          subst (λ (p : Plain). p.made < segment_next size p) same fresh in
          let begins = next-begins size valid (w.plain).written (w.plain).made fresh_here in
          let up = (writer_up on.writer_up).up in
          record {
            up = up;
            alone = ⊎_elim (λ is. is) (λ is. let made = is.1 in absurd (omega arith))
                (writer_up on.writer_up).awaits;
            behind = subst (λ (s : ℕ). ((w.plain).made + 1) * s ≤ (w.plain).written)
                (sym size_is) begins;
            within = omega (arith, low, known-low);
            has_room = room_to_create size w.end ends w.plain lines syncs w.room up
                (segment_fits size valid size refl (w.plain).made (w.plain).written w.end begins
                (omega (arith, low, known-low))) has;
          }

      write_due : LoadsOn size 1024 l → segment_next size l.writer ≤ (l.writer).made
          → IsWriteDue w (upto_next setup words (plain_view v) w)
      write_due on made =
          let low = left on in
          let made_here : segment_next size w.plain ≤ (w.plain).made =
          subst (λ (p : Plain). segment_next size p ≤ p.made) same made in
          let page_end = (w.plain).written / 8192 * 8192 + 8192 in
          let known_aligned : l.known % 8 ≡ 0 =
          subst IsKnownAligned hold ((k.aligned).views id v here).known in
          let written_aligned : (w.plain).written % 8 ≡ 0 =
          ap (λ (p : Plain). p.written % 8) (sym same ∙ held_writer) ∙ (k.aligned).writer_at in
          let up = (writer_up on.writer_up).up in
          let rises = rises_by_word (w.plain).written l.known written_aligned known_aligned low in
          let most = min-le_left l.known page_end in
          let known_mark =
          subst (λ (h : Hold). IsMark size ends (known_in (plain_hold h))) hold known_is in
          subst (λ (h : Hold). IsWriteDue w (min (known_in (plain_hold h)) page_end)) (sym hold)
          (record {
            up = up;
            rises = rises;
            within = omega (arith, most, known-low);
            has_room = room_to_write size w.end ends w.plain lines syncs w.room (min l.known page_end) up
                (upto_mark size ends l.known ((w.plain).written / 8192) known_mark)
                (omega (arith, rises)) (omega (arith, most, known-low)) has;
            is_made = subst (λ (s : ℕ). segment_next s w.plain ≤ (w.plain).made) (sym size_is)
                made_here;
          })

      sync_due : 1 ≤ syncs → AwaitsSync l → IsSyncDue w (segment_waiting (w.plain).waiting)
      sync_due some_left waits =
          let is = subst (λ (p : Plain). p.waiting ≡ some waits.1.0) same waits.1.1 in
          let up = subst (λ (p : Plain). p.fault ≡ none) same waits.0 in
          record {
            up = up;
            has_room = room_to_sync size w.end ends w.plain lines syncs w.room up some_left has;
            waits = is ∙ ap (λ (x : Maybe ℕ). some (segment_waiting x)) (sym is);
          }

    ready_for : (d : PlainDoing) → syncs_made d ≤ syncs → StandsToDo v (doing_of d) ask → TriesFew d
        → IsReadyFor setup words w (plain_view v) copied d
    ready_for (doings.Copies lock) made s few =
        has_next s.0.0 (s.0.1).flight_is (s.0.2).whole s.0.3.0
    ready_for (doings.Tries taken) made s few = few
    ready_for (doings.Tells lock end) made s few = lock-low lock (s.0.1).locks_are
    ready_for (doings.Releases lock true) made s few = lock-low lock s.locks_are
    ready_for (doings.Releases lock false) made s few = lock-low lock (s.0.1).locks_are
    ready_for (doings.Visits purpose lock) made s few = s.1
    ready_for (doings.LoadsPage purpose loaded) made s few = s.1
    ready_for (doings.Creates purpose) made s few =
        create_due s.0 (hold_of (purpose_of purpose) ask (Out s.0) v s.1) s.2.0 s.2.1
    ready_for (doings.Writes purpose) made s few =
        write_due s.0 (hold_of (purpose_of purpose) ask (Out s.0) v s.1) s.2.0 s.2.1
    ready_for (doings.SyncsFull purpose) made s few =
        sync_due s.0 (hold_of (purpose_of purpose) ask (Out s.0) v s.1) made s.2
    ready_for doings.SyncsLast made s few =
        sync_due s.0 (hold_of ForLine ask (Out s.0) v s.1) made s.2
    ready_for other made s few = tt

-- ---- a view of a machine that runs

module _ (m : Machine) (run : IsRunning m) (number : ℕ) (v : View)
    (live : IsLive m.state (number + 1) v) where
  pub live_is_low : IsLow (m.state).words (plain_view v)
  live_is_low = numbers_low (m.state).words (m.state).home (m.state).views (number + 1) v
      (sound m run number v live Flushes) live.0 live.1

  pub stands_is_ready : (ask : Ask) (d : PlainDoing) → StandsToDo v (doing_of d) ask
      → (copied : Option PlainLine)
      → ((c : Copy) → (v.working).flight ≡ Copying c
      → (l : PlainLine) × (copied ≡ Some l) × InsertsRecord (c.entry).value l)
      → (w : WriterState) → IsWriterOf w.plain (m.state).home (m.state).views
      → w.size ≡ ((v.opening).setup).seg_size
      → end_form (v.opening).setup (unlocked (position_word (m.state).words)) ≤ w.end
      → (ends : List ℕ) (lines syncs : ℕ)
      → IsMark ((v.opening).setup).seg_size ends (known_in (plain_view v).hold)
      → HasRoom ((v.opening).setup).seg_size w.end ends w.plain lines syncs w.room
      → syncs_made d ≤ syncs → TriesFew d
      → IsReadyFor (v.opening).setup (m.state).words w (plain_view v) copied d
  stands_is_ready ask d stands copied copies w writer_is size_is end_is ends lines syncs known has made few =
      ready_for (m.state).words (m.state).home (m.state).views (number + 1) v
      (sound m run number v live ask) live.0 live.1 ask copied copies w writer_is size_is end_is
      ends lines syncs known has d made stands few
