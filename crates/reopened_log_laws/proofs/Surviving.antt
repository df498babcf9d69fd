-- What crashes leave of a log that was reopened: before the opening by the laws of settling, behind it by what the run assures.
use Rattle.std.proofs.Common.{◌≡◌, ℕ, ◌+◌, ◌<◌, ◌≤◌, List, [], ◌∷◌, ◌++◌, length, take, Some, None, zero, suc, inl, inr, refl, sym, ap, subst, ◌∙◌, arith}
use Rattle.std.proofs.lemmas.Bool.{cases_lt}
use Rattle.std.proofs.lemmas.List.{length-append, take-append-le, take_all}
use Rattle.std.proofs.Math.Seq.{take-append_seam}
use Rattle.byte_position.specs.Position.{address_of}
use Rattle.segment_disk.specs.DiskImage.{DiskImage, LeftAt}
use Rattle.segment_disk.specs.Tape.{Tape}
use Rattle.wal_page.specs.Order.{Entry}
use Rattle.flush_core.specs.Settled.{KeepsOld, KeepsRead}
use Rattle.flush_core.proofs.GrowingTapes.{LeftAt-before, with_calls-some}
use Rattle.wal_reader.specs.declared.found.Answer.{Answer}
use Rattle.wal_reader.specs.declared.found.FoundRecord.{FoundRecord}
use Rattle.wal_reader.specs.Pages.{pages_in}
use Rattle.wal_reader.specs.Decodes.{Decodes}
use Rattle.written_log_laws.specs.FoundLog.{end_behind}
use Rattle.written_log_laws.specs.Torn.{NoTornPass}
use Rattle.written_log_laws.specs.Written.{found_entry, found_from, found_of}
use Rattle.written_log_laws.proofs.NeverWhole.{unsynced_logs_decode_to_fronts}
use Rattle.written_log_laws.proofs.SettledFound.{synced_logs_decode_to_found}
use Rattle.run_script.specs.Asked.{AskedLine}
use Rattle.run_laws.specs.declared.told.Told.{Told}
use Rattle.run_laws.specs.Crash.{IsFrontWithTold}
use Rattle.run_laws.specs.Moments.{EachRises}
use Rattle.run_laws.specs.Told.{order_from}
use Rattle.machine_state.specs.Words.{Opening}
use Rattle.run_laws.specs.Assured.{TapeGoesOn}
use Rattle.reopened_log_laws.specs.Reopened.{IsReopenedOn}
use Rattle.reopened_log_laws.specs.Surviving.{ReopenedLogsSurviveCrashes}
use Rattle.reopened_log_laws.proofs.EarlyMoments.{none_so_early}
use Rattle.reopened_log_laws.proofs.SuitedDisks.{before, count_is, end_is, keeps_old, keeps_read, reopened_logs_are_suited}

-- ---- records of a front

found-take : (size prev n : ℕ) (es : List Entry) → take n (found_from size prev es) ≡ found_from size prev (take n es)
found-take size prev zero es = refl
found-take size prev (suc n) [] = refl
found-take size prev (suc n) (e ∷ es) = ap (λ (l : List FoundRecord). found_entry size prev e ∷ l) (found-take size (address_of size e.start) n es)

found-length : (size prev : ℕ) (es : List Entry) → length (found_from size prev es) ≡ length es
found-length size prev [] = refl
found-length size prev (e ∷ es) = ap suc (found-length size (address_of size e.start) es)

-- records with which those of entries begin are those of a front of these, whatever stands behind
front_of : (size : ℕ) (es order : List Entry) (told behind : List FoundRecord) → found_of size es ≡ told ++ behind → told ≡ found_of size (take (length told) (es ++ order))
front_of size es order told behind is =
    let n = length told in
    let within : n ≤ length es = omega (arith, found-length size 0 es, ap length is, length-append told behind) in
    sym (take-append_seam told behind) ∙ ap (take n) (sym is) ∙ found-take size 0 n es ∙ ap (found_of size) (sym (take-append-le n es order within))

-- ---- tapes

pub some_tape : (one other : Tape) → Some one ≡ Some other → one ≡ other
some_tape one other same = cc

module _ (opening : Opening) (front : List Entry) (handed : ℕ) (t began : Tape) (found : List FoundRecord) (r : IsReopenedOn opening front handed t began found) where
  abbrev size : ℕ
  size = (opening.setup).seg_size

  abbrev sysid : ℕ
  sysid = (opening.setup).sysid

  -- the opening's moment counts the calls until then
  pub calls_counted : opening.moment ≡ length began.calls
  calls_counted =
      let calls = r.settled.calls.calls in
      let made = r.settled.calls.made in
      let is : began ≡ record t { calls = t.calls ++ calls } = some_tape began (record t { calls = t.calls ++ calls }) (made.tape ∙ with_calls-some t calls) in
      omega (arith, made.moment, r.counted, ap (λ (d : Tape). length d.calls) is, length-append t.calls calls)

  pub old : KeepsOld (opening.setup).seg_size (before opening front handed t began found r) r.left.count (end_behind (opening.setup).seg_size found) handed began
  old = subst (λ (n : ℕ). KeepsOld size (before opening front handed t began found r) n (end_behind size found) handed began) (sym (count_is opening front handed t began found r))
      (subst (λ (n : ℕ). KeepsOld size (before opening front handed t began found r) opening.made n handed began) (sym (end_is opening front handed t began found r)) (keeps_old opening front handed t began found r))

  pub read : KeepsRead (opening.setup).seg_size (before opening front handed t began found r) r.left.count (end_behind (opening.setup).seg_size found) (handed + opening.made) began
  read = subst (λ (n : ℕ). KeepsRead size (before opening front handed t began found r) n (end_behind size found) (handed + opening.made) began) (sym (count_is opening front handed t began found r))
      (subst (λ (n : ℕ). KeepsRead size (before opening front handed t began found r) opening.made n (handed + opening.made) began) (sym (end_is opening front handed t began found r)) (keeps_read opening front handed t began found r))

  -- ---- an image that a crash leaves before the opening

  module _ (moment : ℕ) (image : DiskImage) (since : handed ≤ moment) (leaves : LeftAt began moment image) (none_torn : NoTornPass (opening.setup).seg_size (pages_in (opening.setup).seg_size image) r.left.order) (told : List FoundRecord) (answer : Answer)
      (decodes : Decodes (opening.setup).seg_size (pages_in (opening.setup).seg_size image) (opening.setup).seg_size None told answer) where
    pub front_before : (behind : List FoundRecord) × (found ≡ told ++ behind)
    front_before = unsynced_logs_decode_to_fronts size sysid r.left.count handed moment r.left.order (before opening front handed t began found r) found began image r.left.has_found r.left.only r.left.never_whole old since leaves none_torn told answer decodes

    pub all_synced : handed + opening.made ≤ moment → take (length front) told ≡ found_of (opening.setup).seg_size front
    all_synced after =
        let is = synced_logs_decode_to_found size sysid r.left.count handed (handed + opening.made) moment r.left.order (before opening front handed t began found r) found began image r.left.has_found r.left.only old read since after leaves none_torn told answer decodes in
        let all : told ≡ found_of size front = is ∙ sym r.found_is in
        take_all (length front) told (omega (arith, ap length all, found-length size 0 front)) ∙ all

  -- ---- at any moment

  -- before the opening its tape was that of the settling
  pub early_leaves : (now : Tape) → TapeGoesOn (Some began) (Some now) → (moment : ℕ) (image : DiskImage) → LeftAt now moment image → moment < opening.moment → LeftAt began moment image
  early_leaves now goes_on moment image leaves early =
      let is : now ≡ record began { calls = began.calls ++ goes_on.0 } = some_tape now (record began { calls = began.calls ++ goes_on.0 }) goes_on.1 in
      LeftAt-before began goes_on.0 moment image (omega (arith, early, calls_counted)) (subst (λ (d : Tape). LeftAt d moment image) is leaves)

  module _ (now : Tape) (order : List Entry) (script : List (List AskedLine)) (lists : List (List Told)) (last : ℕ) (goes_on : TapeGoesOn (Some began) (Some now)) (rises : EachRises opening.moment script lists last)
      (moment : ℕ) (image : DiskImage) (since : handed ≤ moment) (leaves : LeftAt now moment image) where
    pub early_front : moment < opening.moment → NoTornPass (opening.setup).seg_size (pages_in (opening.setup).seg_size image) r.left.order → (told : List FoundRecord) (answer : Answer)
        → Decodes (opening.setup).seg_size (pages_in (opening.setup).seg_size image) (opening.setup).seg_size None told answer
        → IsFrontWithTold (opening.setup).seg_size moment (front ++ order) lists told × (handed + opening.made ≤ moment → take (length front) told ≡ found_of (opening.setup).seg_size front)
    early_front early none_torn told answer decodes =
        let before_it = front_before moment image since (early_leaves now goes_on moment image leaves early) none_torn told answer decodes in (
          record {
            count = length told;
            front = front_of size front order told before_it.0 (r.found_is ∙ before_it.1);
            told = λ n e at says. absurd (none_so_early opening.moment moment _ early script lists last rises says);
          },
          all_synced moment image since (early_leaves now goes_on moment image leaves early) none_torn told answer decodes,
        )

pub reopened_logs_survive_crashes : ReopenedLogsSurviveCrashes
reopened_logs_survive_crashes opening front handed last faults t began now found script lists reopened run behind moment image since leaves old_torn none_torn told answer decodes =
    let suited = reopened_logs_are_suited opening front handed t began found reopened in
    elim (cases_lt moment opening.moment) [
      | inl early ↦ early_front opening front handed t began found reopened now (order_from (opening.setup).seg_size 1 script lists) script lists last run.goes_on run.moments moment image since leaves early old_torn told answer decodes
      | inr later ↦ (behind.crash suited moment image later leaves none_torn told answer decodes, λ _. behind.keeps_found suited moment image later leaves none_torn told answer decodes)
    ]
