-- A log that was found may be opened, and the words with which it goes on are those of another moment but for one.
use Rattle.std.proofs.Common.{◌≡◌, ℕ, ◌+◌, ◌*◌, ◌/◌, ◌<◌, ◌≤◌, ◌%◌, ◌^◌, List, [], Option, set, refl, sym, ap, ◌∙◌, subst, arith}
use Rattle.std.specs.Prelude.{slice_index}
use Rattle.std.proofs.lemmas.List.{get_or-set_other, get_or-set_same, length-set}
use Rattle.std.proofs.lemmas.Nat.{mul-le}
use Rattle.byte_position.specs.Position.{usable_bytes_in_segment}
use Rattle.byte_position.proofs.EndAddresses.{le-position_of}
use Rattle.byte_position.proofs.SegmentSizes.{segment_size_in_pages}
use Rattle.byte_position.proofs.Segments.{first_position-usable, position_of-segment}
use Rattle.wal_spelling.specs.Spelling.{word_at}
use Rattle.segment_disk.specs.Tape.{Tape}
use Rattle.wal_page.specs.LogPlace.{IsPlace}
use Rattle.wal_page.proofs.PlaceLaws.{word_from-below}
use Rattle.machine_state.specs.Ringed.{log_word_of}
use Rattle.flush_core.specs.Planned.{IsPlanOf}
use Rattle.flush_core.specs.Settled.{HasSettled}
use Rattle.flush_core.specs.declared.planning.SettlePlan.{SettlePlan}
use Rattle.found_log.specs.Found.{place_of_log}
use Rattle.found_log.specs.declared.finding.FoundLog.{FoundLog}
use Rattle.machine_state.specs.declared.setup.Setup.{Setup}
use Rattle.machine_state.specs.Opened.{AreFirstWords, IsOpenable}
use Rattle.machine_state.specs.Paged.{HoldsPage}
use Rattle.machine_state.specs.Sound.{IsSetup}
use Rattle.machine_state.specs.Words.{Opening, found_end, log_limit, initialised_number, written_number, flushed_number, moment_number, down_number, ends_number}
use Rattle.machine_state.specs.declared.first.LogEnd.{LogEnd}
use Rattle.machine_state.specs.FirstWords.{IsEndOf, IsLastPage}
use Rattle.wal_rule.specs.Founded.{found_log_opening}
use Rattle.wal_log.specs.Reopening.{IsFoundWithin, IsOpenedBehind}

module _ (setup : Setup) (valid : IsSetup setup) (log : FoundLog) (is : IsFoundWithin setup log) where
  abbrev size : ℕ
  size = setup.seg_size

  -- the segments that are there are no more than the log may have
  end_low : log.end.0 ≤ size * (setup.cap_segments + 1)
  end_low =
      let most = mul-le log.made size setup.cap_segments size is.within (omega arith) in
      let times : size * (setup.cap_segments + 1) ≡ setup.cap_segments * size + size = omega arith in
      omega (arith, most, times, is.reaches)

  end_within : log.position ≤ log_limit setup
  end_within =
      let upto = le-position_of size valid.size log.position (size * (setup.cap_segments + 1)) (omega (arith, end_low, is.position_is)) in
      let start = position_of-segment size valid.size (setup.cap_segments + 1) in
      let times : (setup.cap_segments + 1) * usable_bytes_in_segment size ≡ usable_bytes_in_segment size + setup.cap_segments * usable_bytes_in_segment size = omega arith in
      omega (arith, upto, start, times, first_position-usable size valid.size)

  pub found_openable : (moment faults : ℕ) → IsOpenable (found_log_opening setup (place_of_log log) log.made moment faults)
  found_openable moment faults = record {
    setup_is = valid;
    placed = is.placed;
    within = end_within;
    made_within = is.within;
    reaches = omega (arith, is.reaches, is.position_is);
  }

  -- an address of the log is a small one
  pub end_small : log.end.0 < 2 ^ 44
  end_small =
      let most = mul-le log.made size 4096 (2 ^ 30) (omega (arith, is.within, valid.cap_high)) (omega (arith, segment_size_in_pages size valid.size)) in
      omega (arith, most, is.reaches, segment_size_in_pages size valid.size)

-- ---- the moment is stored last

module _ (opening : Opening) (words : List ℕ) (first : AreFirstWords (record opening { moment = 0 }) words) where
  abbrev stored : List ℕ
  stored = set words moment_number opening.moment

  same_word : (n : ℕ) → (n ≡ moment_number → ⊥) → slice_index stored n ≡ slice_index words n
  same_word n other = get_or-set_other words moment_number n opening.moment 0 other

  above : (n : ℕ) → ends_number ≤ n → slice_index stored n ≡ slice_index words n
  above n high = same_word n (λ e. absurd (omega (arith, e, high)))

  below : (n : ℕ) → n < moment_number → slice_index stored n ≡ slice_index words n
  below n low = same_word n (λ e. absurd (omega (arith, e, low)))

  abbrev pages : ℕ
  pages = (opening.setup).ring_pages

  pub moment_stored : AreFirstWords opening stored
  moment_stored = record {
    wide = length-set words moment_number opening.moment ∙ first.wide;
    position = below 0 (omega arith) ∙ first.position;
    prev = below 1 (omega arith) ∙ first.prev;
    zeros = λ n low high. below n (omega (arith, high)) ∙ first.zeros n low high;
    initialised = below initialised_number (omega arith) ∙ first.initialised;
    written = below written_number (omega arith) ∙ first.written;
    flushed = below flushed_number (omega arith) ∙ first.flushed;
    moment = get_or-set_same words moment_number opening.moment 0 (omega (arith, first.wide));
    down = same_word down_number (λ e. absurd (omega (arith, e))) ∙ first.down;
    async = above (ends_number + pages + pages * 1024) (omega arith) ∙ first.async;
    ends = λ b less. subst (HoldsPage pages (found_end opening / 8192) (found_end opening / 8192 + pages) b) (sym (above (ends_number + b) (omega arith))) (first.ends b less);
    ring = λ page j from to within. above (ends_number + pages + (page % pages * 1024 + j)) (omega arith) ∙ first.ring page j from to within;
  }

-- ---- a log is opened behind the one that was found

module _ (setup : Setup) (valid : IsSetup setup) (log : FoundLog) (is : IsFoundWithin setup log) (moment : ℕ) (opening : Opening) (behind : IsOpenedBehind setup log moment opening) where
  abbrev fixed : Opening
  fixed = found_log_opening setup (place_of_log log) opening.made moment opening.faults

  opening_is : fixed ≡ opening
  opening_is = λ j. record {
    setup = sym behind.setup_is j;
    place = sym behind.place_is j;
    made = opening.made;
    moment = sym behind.moment_is j;
    faults = opening.faults;
  }

  abbrev pub end_of_found : LogEnd
  end_of_found = record {
    position = log.position;
    address = log.end.0;
    last_start = log.last_start.0;
  }

  pub ends_there : IsEndOf opening end_of_found
  ends_there = subst (λ (o : Opening). IsEndOf o end_of_found) opening_is (record {
    position_is = refl;
    address_is = sym is.position_is;
    last_start_is = refl;
  })

  pub placed_there : IsPlace setup.seg_size opening.place
  placed_there = subst (IsPlace setup.seg_size) (sym behind.place_is) is.placed

  -- the page of its end has the words below the place
  abbrev HasPageOf : ℕ → Type 0
  HasPageOf end = (j : ℕ) → end / 8192 * 8192 + 8 * j < end
      → word_at log.page.value j ≡ log_word_of fixed [] (end / 8192 * 8192 + 8 * j)

  page_of_end : HasPageOf log.end.0
  page_of_end j low = is.page_is j low
      ∙ sym (word_from-below setup.seg_size setup.sysid valid.size (place_of_log log) [] (log.end.0 / 8192 * 8192 + 8 * j) (omega (arith, low, is.position_is)))

  pub last_page_there : IsLastPage opening log.page.value
  last_page_there = subst (λ (o : Opening). IsLastPage o log.page.value) opening_is (subst HasPageOf (sym is.position_is) page_of_end)

-- ---- what is fixed of a log that was found

module _ (setup : Setup) (valid : IsSetup setup) (log : FoundLog) (is : IsFoundWithin setup log) (opening : Opening) (moment faults : ℕ) (opening_is : opening ≡ found_log_opening setup (place_of_log log) log.made moment faults) where
  pub fixed_openable : IsOpenable opening
  fixed_openable = subst (λ (o : Opening). IsOpenable o) (sym opening_is) (found_openable setup valid log is moment faults)

  -- it begins where the log was found to end
  pub fixed_end : log.end.0 ≡ found_end opening
  fixed_end = sym is.position_is ∙ sym (ap (λ (o : Opening). found_end o) opening_is)

  pub fixed_made : log.made ≡ opening.made
  fixed_made = sym (ap (λ (o : Opening). o.made) opening_is)

  pub fixed_size : setup.seg_size ≡ (opening.setup).seg_size
  fixed_size = sym (ap (λ (o : Opening). (o.setup).seg_size) opening_is)

  -- the words are those of its moment
  pub fixed_words : (words : List ℕ) → ((o : Opening) → IsOpenedBehind setup log 0 o → AreFirstWords o words) → AreFirstWords opening (set words moment_number opening.moment)
  fixed_words words first = moment_stored opening words (first (record opening { moment = 0 }) (record {
    setup_is = ap (λ (o : Opening). o.setup) opening_is;
    moment_is = refl;
    place_is = ap (λ (o : Opening). o.place) opening_is;
  }))

  -- what is planned is said of it as of the log that was found
  pub fixed_plan : (tape : Option Tape) (plan : SettlePlan) → IsPlanOf setup.seg_size log.end.0 log.made tape plan → IsPlanOf (opening.setup).seg_size (found_end opening) opening.made tape plan
  fixed_plan tape plan planned =
      subst (λ (size : ℕ). IsPlanOf size (found_end opening) opening.made tape plan) fixed_size
      (subst (λ (end : ℕ). IsPlanOf setup.seg_size end opening.made tape plan) fixed_end
      (subst (λ (made : ℕ). IsPlanOf setup.seg_size log.end.0 made tape plan) fixed_made planned))

  -- .. and so is what was settled
  pub fixed_settled : (old new : Option Tape) (m0 m1 : ℕ) → HasSettled (opening.setup).seg_size (found_end opening) opening.made old new m0 m1 → HasSettled setup.seg_size log.end.0 log.made old new m0 m1
  fixed_settled old new m0 m1 settled =
      subst (λ (size : ℕ). HasSettled size log.end.0 log.made old new m0 m1) (sym fixed_size)
      (subst (λ (end : ℕ). HasSettled (opening.setup).seg_size end log.made old new m0 m1) (sym fixed_end)
      (subst (λ (made : ℕ). HasSettled (opening.setup).seg_size (found_end opening) made old new m0 m1) (sym fixed_made) settled))
