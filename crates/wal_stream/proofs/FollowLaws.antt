-- What holds of a standby that is sent nothing but frames of one log.
use Rattle.std.proofs.Common.{◌≡◌, ℕ, ◌+◌, ◌*◌, ◌/◌, ◌%◌, ◌<◌, ◌≤◌, inl, inr, All, List, [], ◌∷◌, Option, Some, None, Result, Ok, Err, refl, sym, ap, subst, ◌∙◌, arith}
use Rattle.std.proofs.lemmas.List.Elements.{All-cons, All-nil}
use Rattle.segment_disk.specs.DiskImage.{word_of}
use Rattle.segment_disk.specs.Tape.{Tape}
use Rattle.flush_core.specs.SettledLog.{IsLogWord, IsZeroOrLogWord}
use Rattle.flush_core.specs.Left.{IsWordPut, PutHistory, with_put}
use Rattle.flush_core.specs.Pages.{PutPages, with_page}
use Rattle.flush_core.specs.Writer.{HoldsOnly, IsKept, IsWriter, TellsFault, writer_fault}
use Rattle.segment_disk.specs.declared.disk.Call.{Call}
use Rattle.wal_page.specs.Order.{Entry}
use Rattle.wal_page.specs.Log.{log_word_bytes}
use Rattle.wal_stream.specs.Frame.{IsSentOfLog, SentPage}
use Rattle.wal_stream.specs.Standby.{AnswersDiverged, AnswersFrame, AnswersTaken, FailsToHarden, FailsToTake, HasHardenedLog, own_page, standby_disk, standby_end, standby_fault}
use Rattle.wal_stream.specs.Following.{ComesOfLog, FollowsLog, HaveLogBelow, HasPutOnlyLog, AreSentSteps, HoldsLogUpto, IsSentStep, KeepsLogUpto, SentStep, Offer, Harden, NotHardened, promises_of, standby_behind}
use Rattle.wal_stream.specs.declared.answers.Accepted.{Accepted}
use Rattle.wal_stream.specs.declared.answers.Accepted.TheVariants.{Old, Taken}
use Rattle.wal_stream.specs.declared.answers.StandbyErr.{StandbyErr}
use Rattle.wal_stream.specs.declared.answers.StandbyErr.TheVariants.{Bad, Gap, Diverged, Disk}
use Rattle.wal_stream.specs.declared.standby.Standby.{Standby}
use Rattle.wal_stream.proofs.LogPuts.{log_in_own, log_with_page, log_with_put, same_as_put}

up_and_down : (o : Option ℕ) (told : ℕ) → o ≡ None → o ≡ Some told → ⊥
up_and_down None told up down = absurd cc
up_and_down (Some n) told up down = absurd cc

module _ {D : Type 0} (tape : D → Option Tape) (moment faults : D → ℕ) (sysid : ℕ) (es : List Entry) (since hardened : ℕ) where
  -- it goes on following the log, and keeps what it promised
  pub record StaysOn (old new : Standby D) : Type 0 where
    pub size : new.geometry ≡ old.geometry
    pub follows : FollowsLog tape sysid es since old → FollowsLog tape sysid es since new
    pub keeps : (promise : ℕ × ℕ) → FollowsLog tape sysid es since old → KeepsLogUpto tape sysid es old promise → KeepsLogUpto tape sysid es new promise

  stays_same : (old new : Standby D) → new ≡ old → StaysOn old new
  stays_same old new same = record {
    size = ap (λ (s : Standby D). s.geometry) same;
    follows = subst (FollowsLog tape sysid es since) (sym same);
    keeps = λ promise _. subst (λ (s : Standby D). KeepsLogUpto tape sysid es s promise) (sym same);
  }

  -- a writer that failed now or before has failed
  is_down : (old new : Standby D) (told : ℕ) (calls : List Call) → TellsFault tape moment faults old.writer new.writer told calls → standby_fault new ≡ Some told
  is_down old new told calls (inl now) = now.is_down
  is_down old new told calls (inr again) = ap writer_fault again.same ∙ again.was_down

  -- ---- a standby by its segment size, its end and its own page

  module _ (new : Standby D) (size end : ℕ) (own : List ℕ) (size_is : new.geometry ≡ size) (end_is : standby_end new ≡ end) (own_is : own_page new ≡ own) where
    own_at : ((k : ℕ) → end / 8192 * 8192 + 8 * k < end → IsLogWord size sysid es (end / 8192) k (word_of own k))
        → (k : ℕ) → standby_end new / 8192 * 8192 + 8 * k < standby_end new → IsLogWord new.geometry sysid es (standby_end new / 8192) k (word_of (own_page new) k)
    own_at words =
        subst (λ (e : ℕ). (k : ℕ) → e / 8192 * 8192 + 8 * k < e → IsLogWord new.geometry sysid es (e / 8192) k (word_of (own_page new) k)) (sym end_is)
        (subst (λ (n : ℕ). (k : ℕ) → end / 8192 * 8192 + 8 * k < end → IsLogWord n sysid es (end / 8192) k (word_of (own_page new) k)) (sym size_is)
        (subst (λ (b : List ℕ). (k : ℕ) → end / 8192 * 8192 + 8 * k < end → IsLogWord size sysid es (end / 8192) k (word_of b k)) (sym own_is) words))

    puts_at : (puts : PutHistory) → HoldsOnly tape new.writer since puts → ((page word : ℕ) (b : List ℕ) → word < 1024 → IsWordPut puts page word b → IsZeroOrLogWord size sysid es page word b) → HasPutOnlyLog tape sysid es since new
    puts_at puts only log = record {
      puts = puts;
      only = only;
      log = subst (λ (n : ℕ). (page word : ℕ) (b : List ℕ) → word < 1024 → IsWordPut puts page word b → IsZeroOrLogWord n sysid es page word b) (sym size_is) log;
    }

    holds_at : (pages : PutPages) → IsWriter tape new.writer pages → HaveLogBelow size sysid es end pages → HoldsLogUpto tape sysid es new
    holds_at pages writer log = record {
      pages = pages;
      writer = writer;
      log = subst (λ (e : ℕ). HaveLogBelow new.geometry sysid es e pages) (sym end_is) (subst (λ (n : ℕ). HaveLogBelow n sysid es end pages) (sym size_is) log);
    }

    keeps_at : (promise : ℕ × ℕ) (pages : PutPages) → IsKept tape new.writer promise.0 promise.1 pages → HaveLogBelow size sysid es promise.1 pages → promise.1 ≤ end → promise.1 % 8 ≡ 0 → KeepsLogUpto tape sysid es new promise
    keeps_at promise pages kept log within whole = record {
      pages = pages;
      kept = kept;
      log = subst (λ (n : ℕ). HaveLogBelow n sysid es promise.1 pages) (sym size_is) log;
      within = subst (λ (e : ℕ). promise.1 ≤ e) (sym end_is) within;
      whole = whole;
    }

  -- ---- a page is taken, or the disk failed

  module _ (old new : Standby D) (bytes : List ℕ) where
    module _ (upto : ℕ) (taken : AnswersTaken tape moment faults old new bytes upto) (comes : ComesOfLog old.geometry sysid es hardened bytes) where
      abbrev sent : SentPage
      sent = taken.sent

      words : IsSentOfLog old.geometry sysid es hardened sent
      words = comes sent taken.extends.brings.frame

      pub stays_taken : StaysOn old new
      stays_taken =
          let size = old.geometry in
          let is = taken.extends.brings.frame.is_sent in
          let next = taken.extends.next in
          let size_is = taken.kind.size in
          let end_is = taken.put.written in
          record {
            size = size_is;
            follows = λ follows. (
                let held = follows.holds taken.put.calls.was_up in
                record {
                  whole = ap (λ (n : ℕ). n % 8) end_is ∙ is.ends.whole;
                  own = own_at new size sent.upto sent.bytes size_is end_is taken.own (λ k below. log_in_own size sysid es sent words.words k is.ends.begun is.ends.within below);
                  puts = puts_at new size sent.upto sent.bytes size_is end_is taken.own (with_put follows.puts.puts sent.page sent.bytes) (taken.keeps.only since follows.puts.puts follows.puts.only)
                      (log_with_put size sysid es sent words.words follows.puts.puts is follows.puts.log);
                  holds = λ _. holds_at new size sent.upto sent.bytes size_is end_is taken.own (with_page held.pages sent.page sent.bytes) (taken.put.put held.pages held.writer)
                      (log_with_page size sysid es sent words.words (standby_end old) held.pages next.holds_end is.ends.within held.log);
                });
            keeps = λ promise follows kept.
                keeps_at new size sent.upto sent.bytes size_is end_is taken.own promise kept.pages
                (taken.keeps.kept promise.0 promise.1 kept.pages kept.within (same_as_put size sysid es sent words.words promise.1 kept.pages (omega (arith, kept.within, next.rises)) kept.log) kept.kept)
                kept.log (omega (arith, kept.within, next.rises)) kept.whole;
          }

    module _ (told : ℕ) (failed : FailsToTake tape moment faults old new bytes told) (comes : ComesOfLog old.geometry sysid es hardened bytes) where
      abbrev tried : SentPage
      tried = failed.sent

      tried_words : IsSentOfLog old.geometry sysid es hardened tried
      tried_words = comes tried failed.extends.brings.frame

      pub stays_failed : StaysOn old new
      stays_failed =
          let size = old.geometry in
          let is = failed.extends.brings.frame.is_sent in
          let next = failed.extends.next in
          let size_is = failed.kind.size in
          let end_is = failed.failed.written in
          record {
            size = size_is;
            follows = λ follows. record {
              whole = ap (λ (n : ℕ). n % 8) end_is ∙ follows.whole;
              own = own_at new size (standby_end old) (own_page old) size_is end_is failed.own follows.own;
              puts = puts_at new size (standby_end old) (own_page old) size_is end_is failed.own (with_put follows.puts.puts tried.page tried.bytes) (failed.keeps.only since follows.puts.puts follows.puts.only)
                  (log_with_put size sysid es tried tried_words.words follows.puts.puts is follows.puts.log);
              holds = λ up. absurd (up_and_down (standby_fault new) told up (is_down old new told _ failed.failed.why));
            };
            keeps = λ promise follows kept.
                keeps_at new size (standby_end old) (own_page old) size_is end_is failed.own promise kept.pages
                (failed.keeps.kept promise.0 promise.1 kept.pages kept.within (same_as_put size sysid es tried tried_words.words promise.1 kept.pages (omega (arith, kept.within, next.rises)) kept.log) kept.kept)
                kept.log kept.within kept.whole;
          }

  -- ---- another log's frame

  -- the standby's own words and those of the frame are one order's
  pub never_diverges : (old new : Standby D) (bytes : List ℕ) (at : ℕ) → AnswersDiverged old new bytes at → ComesOfLog old.geometry sysid es hardened bytes → FollowsLog tape sysid es since old → ⊥
  never_diverges old new bytes at diverged comes follows =
      let sent = diverged.sent in
      let words = comes sent diverged.brings.frame in
      let next = diverged.next in
      let differs = diverged.differs in
      let k = differs.word in
      let there : standby_end old / 8192 * 8192 + 8 * k < standby_end old = omega (arith, next.holds_end, differs.at_is, differs.below) in
      let mine : word_of (own_page old) k ≡ log_word_bytes old.geometry sysid es (sent.page * 8192 + 8 * k) =
      follows.own k there ∙ ap (λ (n : ℕ). log_word_bytes old.geometry sysid es (n * 8192 + 8 * k)) (sym next.holds_end) in
      differs.here (words.words k (omega (arith, differs.at_is, differs.below, next.rises)) ∙ sym mine)

  -- ---- any answer

  pub stays_on : (old new : Standby D) (bytes : List ℕ) (answer : Result Accepted StandbyErr) → ComesOfLog old.geometry sysid es hardened bytes → AnswersFrame tape moment faults old new bytes answer → StaysOn old new
  stays_on old new bytes (Ok (Old upto)) comes is = stays_same old new is.same
  stays_on old new bytes (Ok (Taken upto)) comes is = stays_taken old new bytes upto.0 is comes
  stays_on old new bytes (Err Bad) comes is = stays_same old new is.same
  stays_on old new bytes (Err (Gap at)) comes is = stays_same old new is.same
  stays_on old new bytes (Err (Diverged at)) comes is = stays_same old new is.same
  stays_on old new bytes (Err (Disk told)) comes (inl failed) = stays_failed old new bytes told failed comes
  stays_on old new bytes (Err (Disk told)) comes (inr again) = stays_same old new again.same

  -- ---- hardened

  module _ (old new : Standby D) (upto : ℕ) (hardened_log : HasHardenedLog tape moment faults old new upto) where
    abbrev kind_size : new.geometry ≡ old.geometry
    kind_size = hardened_log.kind.size

    pub stays_hardened : StaysOn old new
    stays_hardened =
        let size = old.geometry in
        let end_is = hardened_log.end_is in
        record {
          size = kind_size;
          follows = λ follows. (
              let held = follows.holds hardened_log.hardened.calls.was_up in
              record {
                whole = ap (λ (n : ℕ). n % 8) end_is ∙ follows.whole;
                own = own_at new size (standby_end old) (own_page old) kind_size end_is hardened_log.own follows.own;
                puts = puts_at new size (standby_end old) (own_page old) kind_size end_is hardened_log.own follows.puts.puts (hardened_log.keeps.only since follows.puts.puts follows.puts.only) follows.puts.log;
                holds = λ _. holds_at new size (standby_end old) (own_page old) kind_size end_is hardened_log.own held.pages (hardened_log.hardened.holds held.pages held.writer) held.log;
              });
          keeps = λ promise follows kept.
              keeps_at new size (standby_end old) (own_page old) kind_size end_is hardened_log.own promise kept.pages (hardened_log.keeps.kept promise.0 promise.1 kept.pages kept.kept) kept.log kept.within kept.whole;
        }

    -- what is told is kept from then on
    pub promise_kept : FollowsLog tape sysid es since old → KeepsLogUpto tape sysid es new (moment (standby_disk new), upto)
    promise_kept follows =
        let held = follows.holds hardened_log.hardened.calls.was_up in
        subst (λ (n : ℕ). KeepsLogUpto tape sysid es new (moment (standby_disk new), n)) (sym hardened_log.upto_is)
        (keeps_at new old.geometry (standby_end old) (own_page old) kind_size hardened_log.end_is hardened_log.own (moment (standby_disk new), standby_end old) held.pages (hardened_log.hardened.hardened held.pages held.writer) held.log (omega arith) follows.whole)

  pub stays_unhardened : (old new : Standby D) (told : ℕ) → FailsToHarden tape moment faults old new told → StaysOn old new
  stays_unhardened old new told failed =
      let size = old.geometry in
      let size_is = failed.kind.size in
      let end_is = failed.end_is in
      record {
        size = size_is;
        follows = λ follows. record {
          whole = ap (λ (n : ℕ). n % 8) end_is ∙ follows.whole;
          own = own_at new size (standby_end old) (own_page old) size_is end_is failed.own follows.own;
          puts = puts_at new size (standby_end old) (own_page old) size_is end_is failed.own follows.puts.puts (failed.keeps.only since follows.puts.puts follows.puts.only) follows.puts.log;
          holds = λ up. absurd (up_and_down (standby_fault new) told up (is_down old new told _ failed.why));
        };
        keeps = λ promise follows kept.
            keeps_at new size (standby_end old) (own_page old) size_is end_is failed.own promise kept.pages (failed.keeps.kept promise.0 promise.1 kept.pages kept.kept) kept.log kept.within kept.whole;
      }

  -- ---- one step after another

  stays_through : (one two three : Standby D) → StaysOn one two → StaysOn two three → StaysOn one three
  stays_through one two three first second = record {
    size = second.size ∙ first.size;
    follows = λ follows. second.follows (first.follows follows);
    keeps = λ promise follows kept. second.keeps promise (first.follows follows) (first.keeps promise follows kept);
  }

  -- it goes on following the log, keeps what it promised before, and what it promises meanwhile
  pub record FollowsAndKeeps (first : Standby D) (steps : List (SentStep × Standby D)) : Type 0 where
    pub stays : StaysOn first (standby_behind first steps)
    pub promises : FollowsLog tape sysid es since first → All (KeepsLogUpto tape sysid es (standby_behind first steps)) (promises_of moment steps)

  step_then : (first new : Standby D) (step : SentStep) (steps : List (SentStep × Standby D)) → IsSentStep tape moment faults sysid es hardened first new step → FollowsAndKeeps new steps → FollowsAndKeeps first ((step, new) ∷ steps)
  step_then first new (Offer bytes answer) steps is rest =
      let stays = stays_on first new bytes answer is.0 is.1 in
      record {
        stays = stays_through first new (standby_behind new steps) stays rest.stays;
        promises = λ follows. rest.promises (stays.follows follows);
      }
  step_then first new (NotHardened told) steps is rest =
      let stays = stays_unhardened first new told is in
      record {
        stays = stays_through first new (standby_behind new steps) stays rest.stays;
        promises = λ follows. rest.promises (stays.follows follows);
      }
  step_then first new (Harden upto) steps is rest =
      let stays = stays_hardened first new upto is in
      record {
        stays = stays_through first new (standby_behind new steps) stays rest.stays;
        promises = λ follows.
            All-cons (KeepsLogUpto tape sysid es (standby_behind new steps)) (moment (standby_disk new), upto) (promises_of moment steps)
            (rest.stays.keeps (moment (standby_disk new), upto) (stays.follows follows) (promise_kept first new upto is follows)) (rest.promises (stays.follows follows));
      }

  pub follows_and_keeps : (first : Standby D) (steps : List (SentStep × Standby D)) → AreSentSteps tape moment faults sysid es hardened first steps → FollowsAndKeeps first steps
  follows_and_keeps first [] are = record {
    stays = stays_same first first refl;
    promises = λ _. All-nil (KeepsLogUpto tape sysid es first);
  }
  follows_and_keeps first (step ∷ steps) are = step_then first step.1 step.0 steps are.0 (follows_and_keeps step.1 steps are.1)
