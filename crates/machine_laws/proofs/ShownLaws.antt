-- What the invariant shows of the ring.
use Rattle.std.proofs.Common.{◌≡◌, ◌≢◌, ◌⊎◌, inl, inr, ℕ, ◌+◌, ◌*◌, ◌/◌, ◌%◌, ◌<◌, ◌≤◌, List, map, sym, ap, ◌∙◌, subst, ⊎_elim, arith}
use Rattle.std.proofs.Math.Nat.{mod-lt}
use mathlib.Core.Option.{Option}
use mathlib.Core.Logic.{dite}
use native.Mathlib.Decide.{dec_le}
use Rattle.wal_page.specs.EntryWords.{address_of_word}
use Rattle.machine_state.specs.declared.setup.Setup.{Setup}
use Rattle.machine_state.specs.Words.{Opening, initialised_word, written_word, mapping_turn, end_word, word_of_ring}
use Rattle.machine_state.specs.Views.{HasAt, Stage, Away, Taken, Looked, Ready, Zeroing, Published, Plain, View, Copy, Flight, Copying, working_of, flight_of, watching_of, mapper_of, confirmed_of, receipts_of}
use Rattle.machine_state.specs.Locked.{HasTurn}
use Rattle.machine_state.specs.Ringed.{IsAwaited, log_word_of}
use Rattle.machine_state.specs.Paged.{AtStage, PagesHold}
use Rattle.machine_state.specs.Steps.{page_mapped, words_zeroed, ring_place}
use Rattle.machine_state.specs.Sound.{IsSound}
use Rattle.machine_state.specs.Shown.{IsPresent, HasLooked, HasCleared, HasLogWord, IsPublished, EntriesAreCopied, WordsAreLogs, PagesArePresent, MappersAreNext}
use Rattle.machine_state.proofs.Landing.{lock_of}
use Rattle.machine_state.proofs.Lists.{part_at, view_from}
use Rattle.machine_laws.proofs.CopiedWords.{copied-stored, landed-stored}
use Rattle.machine_laws.proofs.RingLaws.{awaited-left}
use Rattle.machine_laws.proofs.PageLaws.{end_low, not_given_up}
use Rattle.segment_disk.specs.Tape.{DiskState}

-- ---- stages

looked_has : (s : Stage) → HasLooked s → HasTurn s
looked_has Away l = absurd l
looked_has Taken l = absurd l
looked_has (Looked at) l = tt
looked_has (Ready at met) l = tt
looked_has (Zeroing at count) l = tt
looked_has (Published at) l = tt

cleared_looked : (s : Stage) → HasCleared s → HasLooked s
cleared_looked Away l = absurd l
cleared_looked Taken l = absurd l
cleared_looked (Looked at) l = absurd l
cleared_looked (Ready at met) l = absurd l
cleared_looked (Zeroing at count) l = tt
cleared_looked (Published at) l = tt

zeroed_looked : (s : Stage) (n : ℕ) → n < words_zeroed s → HasLooked s
zeroed_looked Away n l = absurd (omega arith)
zeroed_looked Taken n l = absurd (omega arith)
zeroed_looked (Looked at) n l = tt
zeroed_looked (Ready at met) n l = tt
zeroed_looked (Zeroing at count) n l = tt
zeroed_looked (Published at) n l = tt

module _ (pages low reach initialised written : ℕ) (ring : ℕ → ℕ) where
  abbrev At : Stage → Type 0
  At s = AtStage pages low reach initialised written ring s

  -- the initialised end is the window's, or one page less while the new page is published
  mapped_upto : (s : Stage) → At s → (reach * 8192 ≡ initialised)
      ⊎ ((reach * 8192 ≡ initialised + 8192) × (s ≡ Published initialised))
  mapped_upto Away h = inl (sym h.1)
  mapped_upto Taken h = inl (sym h.1)
  mapped_upto (Looked at) h = inl (sym h.0.1)
  mapped_upto (Ready at met) h = inl (sym h.0.1)
  mapped_upto (Zeroing at count) h = inl (sym h.1)
  mapped_upto (Published at) h = inr (sym h.1, ap Published h.2)

  page_is : (s : Stage) → HasLooked s → At s → page_mapped s ≡ initialised
  page_is Away l h = absurd l
  page_is Taken l h = absurd l
  page_is (Looked at) l h = h.1
  page_is (Ready at met) l h = h.1
  page_is (Zeroing at count) l h = h.2
  page_is (Published at) l h = h.2

  old_page_written : (s : Stage) → HasCleared s → At s → low * 8192 ≤ written
      → page_mapped s + 8192 ≤ written + pages * 8192
  old_page_written Away l h up = absurd l
  old_page_written Taken l h up = absurd l
  old_page_written (Looked at) l h up = absurd l
  old_page_written (Ready at met) l h up = absurd l
  old_page_written (Zeroing at count) l h up =
      let a = h.0 in let b = h.1 in let c = h.2 in omega arith
  old_page_written (Published at) l h up =
      let a = h.0 in let b = h.1 in let c = h.2 in omega arith

  zeros : (s : Stage) (n : ℕ) → n < words_zeroed s → At s
      → ring (page_mapped s / 8192 % pages * 1024 + n) ≡ 0
  zeros Away n l h = absurd (omega arith)
  zeros Taken n l h = absurd (omega arith)
  zeros (Looked at) n l h = absurd (omega arith)
  zeros (Ready at met) n l h = absurd (omega arith)
  zeros (Zeroing at count) n l h =
      let a = h.1 in let b = h.2 in let page : at / 8192 ≡ reach = omega arith in
      ap (λ (p : ℕ). ring (p % pages * 1024 + n)) page ∙ h.4 n l
  zeros (Published at) n l h = absurd (omega arith)

-- ---- the ring

module _ {first : DiskState} (opening : Opening) (words : List ℕ) (home : Option Plain) (views : List View)
    (s : IsSound first opening words home views) where
  abbrev setup : Setup
  setup = opening.setup

  abbrev pages : ℕ
  pages = (opening.setup).ring_pages

  abbrev initialised : ℕ
  initialised = initialised_word words

  abbrev written : ℕ
  written = written_word words

  abbrev k : PagesHold pages s.reach s.stage (initialised_word words) (written_word words)
      (end_word words) (word_of_ring opening.setup words) s.memory (map confirmed_of views)
  k = s.pages

  abbrev Now : Stage → Type 0
  Now stage = AtStage pages k.low s.reach initialised written (word_of_ring setup words) stage

  -- a page that is present lies in the window
  window : (page : ℕ) → IsPresent setup words page → (k.low ≤ page) × (page < s.reach)
  window page here = ⊎_elim
      (λ z. absurd (omega arith))
      (λ h. let from = h.from in let to = h.to in let is = h.end_is in (omega arith, omega arith))
      (k.held (page % pages) (mod-lt page k.some_page))

  in_window : (page : ℕ) → written < (page + 1) * 8192 → page < s.reach
      → IsPresent setup words page
  in_window page past low = k.present page (not_given_up pages s.reach s.stage initialised written
      (end_word words) (word_of_ring setup words) s.memory (map confirmed_of views) k page past) low

  word_is : (n : ℕ) → IsPresent setup words (n / 1024)
      → word_of_ring setup words (ring_place setup n) ≡ s.memory n
  word_is n here =
      let w = window (n / 1024) here in
      let number : n / 1024 * 1024 + n % 1024 ≡ n = omega arith in
      k.content (n / 1024) (n % 1024) w.0 w.1 (omega arith) ∙ ap s.memory number

  upto : (s.reach * 8192 ≡ initialised)
      ⊎ ((s.reach * 8192 ≡ initialised + 8192) × (s.stage ≡ Published initialised))
  upto = mapped_upto pages k.low s.reach initialised written (word_of_ring setup words) s.stage
      k.mapping

  -- the stage of whoever has the turn is the one that the pages know
  own : (id : ℕ) (v : View) → HasAt views id v → HasTurn (v.mapping).stage
      → Now (v.mapping).stage
  own id v here has = subst Now
      (((s.locks).mapping).each id (mapper_of v) (part_at mapper_of views id v here) has).1
      k.mapping

  -- where a page is published, a pass has published it
  publisher : (at : ℕ) → s.stage ≡ Published at → IsPublished views at
  publisher at is =
      let turn = (s.locks).mapping in
      let taken : mapping_turn words ≢ 0 = λ none. never at (sym is ∙ turn.free none) in
      let h = turn.held taken in
      let u = view_from mapper_of views turn.holder h.0 h.1 in
      let mine = (turn.each turn.holder h.0 h.1 h.2).1 in
      (turn.holder, u.0, u.1, ap (λ (m : ℕ × Stage). m.1) u.2 ∙ sym mine ∙ is)
    where
      never : (at : ℕ) → Published at ≡ Away → ⊥
      never at e = absurd (cc)

  -- nobody is to copy what a watcher that has visited all locks knows as copied
  watched-not_awaited : (id : ℕ) (v : View) (address : ℕ) → HasAt views id v
      → (v.watching).visited ≡ 8 → address < (v.watching).bound
      → IsAwaited setup.seg_size (map flight_of views) address → ⊥
  watched-not_awaited id v address here all low w =
      let u = view_from flight_of views w.id (Copying w.copy) w.in_flight in
      let at_work = part_at working_of views w.id u.0 u.1 in
      let locks = (s.locks).locks in
      let under = lock_of w.copy.locks (u.0).working.locks
      (locks.under w.id (u.0).working w.copy at_work u.2) in
      let below = (locks.each w.id under.0 (u.0).working at_work under.2).0 in
      let mine = part_at watching_of views id v here in
      let ends = ((s.watching).reserved id v.watching mine).1 in
      let from = w.from in
      let behind = (s.watching).behind id w.id v.watching (u.0).working mine at_work w.copy under.0
      u.2 under.1 (omega arith) (omega arith) in
      omega arith

  pub words_are_logs : WordsAreLogs opening s.order words views
  words_are_logs = record {
    ring = λ n here. let same = word_is n here in
        ⊎_elim (λ t. inl (same ∙ t)) (λ t. inr (same ∙ t.0, t.1)) ((s.ring).words n);
    staged = λ id v l here out.
        (((s.durable).views id (receipts_of v) (part_at receipts_of views id v here)).in_hand l out).staged;
    watched = λ id v n here all past low.
        let mine = part_at watching_of views id v here in
        let ends = (s.watching).reserved id v.watching mine in
        let end_high = ends.0 in
        let bound_high = ends.1 in
        let begun = (s.positions).begun in
        let flushed_low = (s.positions).flushed_low in
        let near : n < s.reach * 1024 = dite (dec_le (s.reach * 1024) n)
        (λ far. absurd (watched-not_awaited id v (8 * n) here all low
        ((s.ring).ahead n far (omega arith) (omega arith))))
        (λ near. omega arith) in
        let present = in_window (n / 1024) (omega arith) (omega arith) in (
          present,
          word_is n present ∙ ⊎_elim (λ t. t)
              (λ t. absurd (watched-not_awaited id v (8 * n) here all low t.1)) ((s.ring).words n),
        );
  }

  -- where a page is present, what is the log's in memory is so in the ring
  in_ring : (address : ℕ)
      → s.memory (address / 8) ≡ log_word_of opening s.order address
      → HasLogWord opening s.order words address
  in_ring address is here = word_is (address / 8)
      (subst (λ (page : ℕ). IsPresent setup words page) (omega arith) here) ∙ is

  -- who copies an entry has it in flight
  flies : (id : ℕ) (v : View) (c : Copy) → HasAt views id v → (v.working).flight ≡ Copying c
      → HasAt (map flight_of views) id (Copying c)
  flies id v c here is = subst (λ (f : Flight). HasAt (map flight_of views) id f) is
      (part_at flight_of views id v here)

  pub entries_are_copied : EntriesAreCopied opening s.order words views
  entries_are_copied = record {
    once = λ i j v w c d one other copies this.
        (s.ring).alone i j c d (flies i v c one copies) (flies j w d other this);
    copied = λ id v c n here is low. in_ring (address_of_word setup.seg_size c.entry n)
        (copied-stored opening s.order s.reach s.memory (map flight_of views) s.ring
        (s.setup_is).size (s.reserved).placed (s.reserved).chained id c (flies id v c here is) n
        low);
    landed = λ front back e n are nowhere owned. in_ring (address_of_word setup.seg_size e n)
        (landed-stored opening s.order s.reach s.memory (map flight_of views) s.ring
        (s.setup_is).size (s.reserved).placed (s.reserved).chained front back e are n owned
        (λ id c there. let u = view_from flight_of views id (Copying c) there in
        nowhere id u.0 c u.1 u.2));
  }

  pub pages_are_present : PagesArePresent opening s.order words views
  pages_are_present = record {
    mapped = λ page low past.
        in_window page past (⊎_elim (λ e. omega arith) (λ t. let e = t.0 in omega arith) upto);
    met = λ id v page address here confirmed from to w.
        let seen = k.seen id (v.mapping).confirmed (part_at confirmed_of views id v here) in
        let left = awaited-left opening s.order s.reach s.memory (map flight_of views) s.ring
        (s.setup_is).size (s.reserved).chained (s.reserved).placed address w in
        let unwritten = (s.positions).copied w.id w.copy w.in_flight left in
        let written_low = (s.positions).written_low in
        let next = w.from in
        in_window page (omega arith) (omega arith);
    published = λ at p.
        let h = subst Now p.3 (own p.0 p.1 p.2 (subst HasTurn (sym p.3) tt)) in
        let all = h.0 in
        let next = h.1 in
        let at_is = h.2 in
        let some = k.some_page in
        k.present (at / 8192) (omega arith) (omega arith);
    no_other = λ page here past.
        let low = end_low pages s.reach s.stage initialised written (end_word words)
        (word_of_ring setup words) s.memory (map confirmed_of views) k (page % pages)
        (mod-lt page k.some_page) in
        ⊎_elim (λ e. absurd (omega arith))
        (λ t. let e = t.0 in let at : page * 8192 ≡ initialised = omega arith in
        publisher (page * 8192) (t.1 ∙ ap Published (sym at)))
        upto;
    copied = λ n from low past. ⊎_elim
        (λ e. inl ((s.ring).ahead n (omega arith) from low))
        (λ t. let e = t.0 in dite (dec_le (s.reach * 1024) n)
        (λ far. inl ((s.ring).ahead n far from low))
        (λ near. inr (omega arith, publisher initialised t.1)))
        upto;
  }

  pub mappers_are_next : MappersAreNext opening s.order words views
  mappers_are_next = record {
    page = λ id v here looked.
        page_is pages k.low s.reach initialised written (word_of_ring setup words)
        (v.mapping).stage looked (own id v here (looked_has (v.mapping).stage looked));
    given_up = λ id v here cleared.
        old_page_written pages k.low s.reach initialised written (word_of_ring setup words)
        (v.mapping).stage cleared (own id v here (looked_has (v.mapping).stage
        (cleared_looked (v.mapping).stage cleared))) k.given_up;
    zeroed = λ id v n here low.
        zeros pages k.low s.reach initialised written (word_of_ring setup words)
        (v.mapping).stage n low (own id v here (looked_has (v.mapping).stage
        (zeroed_looked (v.mapping).stage n low)));
  }
