-- Frames that are taken one after another, and how that ends.
use Rattle.std.proofs.Common.{◌≡◌, ℕ, suc, ◌+◌, ◌*◌, ◌<◌, ◌≤◌, inl, inr, Bool, false, cond, All, count_by, List, [], ◌∷◌, ◌++◌, length, Option, Result, Ok, Err, refl, ap, sym, subst, ◌∙◌, add-zero, zero-add, length-append, arith}
use Rattle.std.proofs.lemmas.List.Elements.{All-append, All-cons, All-nil}
use Rattle.std.proofs.lemmas.List.Sums.{sum_by-append}
use Rattle.segment_disk.specs.Tape.{Tape}
use Rattle.wal_stream.specs.Standby.{AnswersFrame}
use Rattle.wal_stream.specs.declared.answers.Accepted.{Accepted}
use Rattle.wal_stream.specs.declared.answers.Accepted.TheVariants.{Old, Taken}
use Rattle.wal_stream.specs.declared.answers.StandbyErr.{StandbyErr}
use Rattle.wal_stream.specs.declared.answers.StandbyErr.TheVariants.{Bad, Gap, Diverged, Disk}
use Rattle.wal_stream.specs.declared.standby.Standby.{Standby}
use Rattle.wal_stream.specs.Answered.{AreAnswered, AreCounts, AsksForMore, disk_failed, diverged, is_bad, is_gap, is_old, is_taken}
use Rattle.wal_stream.specs.Fetched.{FailsOnce, Gives, IsQuietSource, SourceState, TellsEnd, first_pieces, frames_in}
use Rattle.wal_stream.specs.Receiving.{EndsAtAnswer, ReceivingEndsBy, TakesFrames, most_bytes}
use Rattle.wal_stream.specs.Steps.{LooksBehind, TakesFrame, TakesNext, counted_frames, counts_with}
use Rattle.wal_stream.specs.declared.outcome.FrameCounts.{FrameCounts}
use Rattle.wal_stream.specs.declared.outcome.ReceivingEnd.{ReceivingEnd}
use Rattle.wal_stream.specs.declared.outcome.ReceivingEnd.TheVariants.{Source, TooMany, SourceFault}
use Rattle.wal_stream.specs.declared.outcome.ReceivingEnd.TheVariants as ended
use Rattle.wal_stream.proofs.FetchLaws.{frames_and_rest, frames_whole, gives_both, gives_nothing, pieces_more, quiet_both}

-- ---- counts

count_more : (p : Result Accepted StandbyErr → Bool) (answers : List (Result Accepted StandbyErr)) (answer : Result Accepted StandbyErr) (old new : ℕ)
    → old ≡ count_by p answers → new ≡ old + cond (p answer) 1 0 → new ≡ count_by p (answers ++ answer ∷ [])
count_more p answers answer old new counted more =
    let one : count_by p (answer ∷ []) ≡ cond (p answer) 1 0 = zero-add (cond (p answer) 1 0) in
    more ∙ ap (λ (n : ℕ). n + cond (p answer) 1 0) counted ∙ sym (sum_by-append (λ (x : Result Accepted StandbyErr). cond (p x) 1 0) answers (answer ∷ []) ∙ ap (λ (n : ℕ). count_by p answers + n) one)

-- with one answer more, each count is this much more
record CountsOn (answer : Result Accepted StandbyErr) (old new : FrameCounts) : Type 0 where
  taken : new.taken ≡ old.taken + cond (is_taken answer) 1 0
  old_is : new.old ≡ old.old + cond (is_old answer) 1 0
  gap : new.gap ≡ old.gap + cond (is_gap answer) 1 0
  bad : new.bad ≡ old.bad + cond (is_bad answer) 1 0

counts_on : (answers : List (Result Accepted StandbyErr)) (answer : Result Accepted StandbyErr) (old new : FrameCounts) → AreCounts answers old → CountsOn answer old new → AreCounts (answers ++ answer ∷ []) new
counts_on answers answer old new counted on = record {
  taken = count_more is_taken answers answer old.taken new.taken counted.taken on.taken;
  old = count_more is_old answers answer old.old new.old counted.old on.old_is;
  gap = count_more is_gap answers answer old.gap new.gap counted.gap on.gap;
  bad = count_more is_bad answers answer old.bad new.bad counted.bad on.bad;
}

stays_at : (n : ℕ) → n ≡ n + 0
stays_at n = sym (add-zero n)

-- an answer behind which a further frame is asked for
record Counted (answer : Result Accepted StandbyErr) (old new : FrameCounts) : Type 0 where
  go_on : AsksForMore answer
  on : CountsOn answer old new
  more : counted_frames new ≡ counted_frames old + 1

counted_so : (answer : Result Accepted StandbyErr) (old new : FrameCounts) → Ok new ≡ counts_with old answer → Counted answer old new
counted_so (Ok (Taken upto)) old new is =
    let same : new ≡ record old { taken = old.taken + 1 } = cc in
    subst (Counted (Ok (Taken upto)) old) (sym same) (record { go_on = tt; on = record { taken = refl; old_is = stays_at old.old; gap = stays_at old.gap; bad = stays_at old.bad }; more = omega arith })
counted_so (Ok (Old upto)) old new is =
    let same : new ≡ record old { old = old.old + 1 } = cc in
    subst (Counted (Ok (Old upto)) old) (sym same) (record { go_on = tt; on = record { taken = stays_at old.taken; old_is = refl; gap = stays_at old.gap; bad = stays_at old.bad }; more = omega arith })
counted_so (Err (Gap at)) old new is =
    let same : new ≡ record old { gap = old.gap + 1 } = cc in
    subst (Counted (Err (Gap at)) old) (sym same) (record { go_on = tt; on = record { taken = stays_at old.taken; old_is = stays_at old.old; gap = refl; bad = stays_at old.bad }; more = omega arith })
counted_so (Err Bad) old new is =
    let same : new ≡ record old { bad = old.bad + 1 } = cc in
    subst (Counted (Err Bad) old) (sym same) (record { go_on = tt; on = record { taken = stays_at old.taken; old_is = stays_at old.old; gap = stays_at old.gap; bad = refl }; more = omega arith })
counted_so (Err (Diverged at)) old new is = absurd cc
counted_so (Err (Disk told)) old new is = absurd cc

-- ---- the chain

module _ {D : Type 0} (tape : D → Option Tape) (moment faults : D → ℕ) where
  pub answered_more : (old mid new : Standby D) (frames : List (List ℕ)) (answers : List (Result Accepted StandbyErr)) (frame : List ℕ) (answer : Result Accepted StandbyErr)
      → AreAnswered tape moment faults old frames answers mid → AnswersFrame tape moment faults mid new frame answer → AreAnswered tape moment faults old (frames ++ frame ∷ []) (answers ++ answer ∷ []) new
  answered_more old mid new [] [] frame answer are last = (new, subst (λ (s : Standby D). AnswersFrame tape moment faults s new frame answer) are last, refl)
  answered_more old mid new [] (a ∷ answers) frame answer are last = absurd are
  answered_more old mid new (f ∷ frames) [] frame answer are last = absurd are
  answered_more old mid new (f ∷ frames) (a ∷ answers) frame answer are last = (are.0, are.1, answered_more are.0 mid new frames answers frame answer are.2 last)

  -- ---- frames so far

  -- so many frames were taken and answered, and none of them ended it
  pub record HasTaken (before now : SourceState) (old cur : Standby D) (counts : FrameCounts) (n : ℕ) : Type 0 where
    pub bytes : List ℕ
    pub answers : List (Result Accepted StandbyErr)
    pub gives : Gives before now bytes
    pub quiet : IsQuietSource before now
    pub long : length bytes ≡ n * 8224
    pub many : length answers ≡ n
    pub answered : AreAnswered tape moment faults old (first_pieces 8224 n bytes) answers cur
    pub counted : AreCounts answers counts
    pub go_on : All AsksForMore answers
    pub few : counted_frames counts ≡ n

  pub taken_none : (source : SourceState) (standby : Standby D) → HasTaken source source standby standby (record { taken = 0; old = 0; gap = 0; bad = 0 }) 0
  taken_none source standby = record {
    bytes = [];
    answers = [];
    gives = gives_nothing source;
    quiet = record { none_told = refl; up = refl };
    long = refl;
    many = refl;
    answered = refl;
    counted = record { taken = refl; old = refl; gap = refl; bad = refl };
    go_on = All-nil AsksForMore;
    few = refl;
  }

  module _ (before mid now : SourceState) (old cur new : Standby D) (counts : FrameCounts) (n : ℕ) (taken : HasTaken before mid old cur counts n) where
    -- one frame more
    frame_more : (frame : List ℕ) (answer : Result Accepted StandbyErr) → length frame ≡ 8224 → AnswersFrame tape moment faults cur new frame answer
        → AreAnswered tape moment faults old (first_pieces 8224 (suc n) (taken.bytes ++ frame)) (taken.answers ++ answer ∷ []) new
    frame_more frame answer whole answers =
        subst (λ (frames : List (List ℕ)). AreAnswered tape moment faults old frames (taken.answers ++ answer ∷ []) new) (sym (pieces_more 8224 n taken.bytes frame taken.long whole))
        (answered_more old cur new (first_pieces 8224 n taken.bytes) taken.answers frame answer taken.answered answers)

    long_more : (frame : List ℕ) → length frame ≡ 8224 → length (taken.bytes ++ frame) ≡ suc n * 8224
    long_more frame whole = omega (arith, length-append taken.bytes frame, taken.long)

    many_more : (answer : Result Accepted StandbyErr) → length (taken.answers ++ answer ∷ []) ≡ suc n
    many_more answer = omega (arith, length-append taken.answers (answer ∷ []), taken.many)

    frame_counted : (counted : FrameCounts) → TakesFrame tape moment faults mid now cur new counts (Ok counted) → HasTaken before now old new counted (suc n)
    frame_counted counted came =
        let so = counted_so came.answer counts counted came.counted_is in
        record {
          bytes = taken.bytes ++ came.frame;
          answers = taken.answers ++ came.answer ∷ [];
          gives = gives_both before mid now taken.bytes came.frame taken.gives came.gives;
          quiet = quiet_both before mid now taken.quiet came.quiet;
          long = long_more came.frame came.long;
          many = many_more came.answer;
          answered = frame_more came.frame came.answer came.long came.answers;
          counted = counts_on taken.answers came.answer counts counted taken.counted so.on;
          go_on = All-append AsksForMore taken.answers (came.answer ∷ []) taken.go_on (All-cons AsksForMore came.answer [] so.go_on (All-nil AsksForMore));
          few = omega (arith, so.more, taken.few);
        }

    pub takes_on : (counted : FrameCounts) → TakesNext tape moment faults mid now cur new counts (Ok counted) → HasTaken before now old new counted (suc n)
    takes_on counted (inl came) = frame_counted counted came
    takes_on counted (inr none) = elim none.why [
      | inl end ↦ (let other = end.0 in absurd cc)
      | inr fault ↦ (let other = fault.0 in absurd cc)
    ]

    -- ---- a frame that ends it

    frame_last : (frame : List ℕ) (answer : Result Accepted StandbyErr) → n < 1048576 → length frame ≡ 8224 → IsQuietSource mid now → EndsAtAnswer answer before now (taken.bytes ++ frame) (taken.answers ++ answer ∷ [])
    frame_last frame answer few whole quiet = record {
      stop = record { before = taken.answers; go_on = taken.go_on; are = refl };
      quiet = quiet_both before mid now taken.quiet quiet;
      whole = long_more frame whole ∙ ap (λ (k : ℕ). k * 8224) (sym (many_more answer));
      within = omega (arith, many_more answer);
    }

    frame_ends : (why : ReceivingEnd) (frame : List ℕ) (answer : Result Accepted StandbyErr) → length frame ≡ 8224 → Gives mid now frame → AnswersFrame tape moment faults cur new frame answer
        → CountsOn answer counts counts → ReceivingEndsBy why before now (taken.bytes ++ frame) (taken.answers ++ answer ∷ []) → TakesFrames tape moment faults before now old new counts why
    frame_ends why frame answer whole gives answers on ends = record {
      bytes = taken.bytes ++ frame;
      answers = taken.answers ++ answer ∷ [];
      gives = gives_both before mid now taken.bytes frame taken.gives gives;
      answered = subst (λ (frames : List (List ℕ)). AreAnswered tape moment faults old frames (taken.answers ++ answer ∷ []) new) (sym (frames_whole (suc n) (taken.bytes ++ frame) (long_more frame whole))) (frame_more frame answer whole answers);
      counted = counts_on taken.answers answer counts counts taken.counted on;
      ends = ends;
    }

    -- an answer that is counted nowhere
    uncounted : (answer : Result Accepted StandbyErr) → is_taken answer ≡ false → is_old answer ≡ false → is_gap answer ≡ false → is_bad answer ≡ false → CountsOn answer counts counts
    uncounted answer not_taken not_old not_gap not_bad = record {
      taken = stays_at counts.taken ∙ ap (λ (b : Bool). counts.taken + cond b 1 0) (sym not_taken);
      old_is = stays_at counts.old ∙ ap (λ (b : Bool). counts.old + cond b 1 0) (sym not_old);
      gap = stays_at counts.gap ∙ ap (λ (b : Bool). counts.gap + cond b 1 0) (sym not_gap);
      bad = stays_at counts.bad ∙ ap (λ (b : Bool). counts.bad + cond b 1 0) (sym not_bad);
    }

    answer_ends : (why : ReceivingEnd) (frame : List ℕ) (answer : Result Accepted StandbyErr) → n < 1048576 → length frame ≡ 8224 → Gives mid now frame → IsQuietSource mid now
        → AnswersFrame tape moment faults cur new frame answer → Err why ≡ counts_with counts answer → TakesFrames tape moment faults before now old new counts why
    answer_ends why frame (Ok (Taken upto)) few whole gives quiet answers is = absurd cc
    answer_ends why frame (Ok (Old upto)) few whole gives quiet answers is = absurd cc
    answer_ends why frame (Err (Gap at)) few whole gives quiet answers is = absurd cc
    answer_ends why frame (Err Bad) few whole gives quiet answers is = absurd cc
    answer_ends why frame (Err (Diverged at)) few whole gives quiet answers is =
        let same : why ≡ ended.Diverged at = cc in
        subst (TakesFrames tape moment faults before now old new counts) (sym same)
        (frame_ends (ended.Diverged at) frame (diverged at) whole gives answers (uncounted (diverged at) refl refl refl refl) (frame_last frame (diverged at) few whole quiet))
    answer_ends why frame (Err (Disk told)) few whole gives quiet answers is =
        let same : why ≡ ended.Disk told = cc in
        subst (TakesFrames tape moment faults before now old new counts) (sym same)
        (frame_ends (ended.Disk told) frame (disk_failed told) whole gives answers (uncounted (disk_failed told) refl refl refl refl) (frame_last frame (disk_failed told) few whole quiet))

    -- ---- no further frame

    rest_ends : (why : ReceivingEnd) (rest : List ℕ) → new ≡ cur → Gives mid now rest → length rest < 8224 → ReceivingEndsBy why before now (taken.bytes ++ rest) taken.answers → TakesFrames tape moment faults before now old new counts why
    rest_ends why rest same gives short ends = record {
      bytes = taken.bytes ++ rest;
      answers = taken.answers;
      gives = gives_both before mid now taken.bytes rest taken.gives gives;
      answered = subst (AreAnswered tape moment faults old (frames_in (taken.bytes ++ rest)) taken.answers) (sym same)
          (subst (λ (frames : List (List ℕ)). AreAnswered tape moment faults old frames taken.answers cur) (sym (frames_and_rest n taken.bytes rest taken.long short)) taken.answered);
      counted = taken.counted;
      ends = ends;
    }

    end_told : TellsEnd mid now → TellsEnd before now
    end_told tells = record {
      told = tells.told ∙ ap (λ (k : ℕ). k + 1) taken.quiet.none_told;
      none_left = tells.none_left;
      up = tells.up ∙ taken.quiet.up;
    }

    failed_once : FailsOnce mid now → FailsOnce before now
    failed_once fails = record {
      failed = rw taken.quiet.up at fails.failed;
      none_told = fails.none_told ∙ taken.quiet.none_told;
    }

    source_ends : (rest : List ℕ) → new ≡ cur → Gives mid now rest → length rest < 8224 → n * 8224 + length rest ≤ most_bytes → TellsEnd mid now → TakesFrames tape moment faults before now old new counts Source
    source_ends rest same gives short within tells =
        rest_ends Source rest same gives short (record { go_on = taken.go_on; tells = end_told tells; within = omega (arith, length-append taken.bytes rest, taken.long, within) })

    source_fails : (rest : List ℕ) → new ≡ cur → Gives mid now rest → length rest < 8224 → n * 8224 + length rest ≤ most_bytes → FailsOnce mid now → TakesFrames tape moment faults before now old new counts SourceFault
    source_fails rest same gives short within fails =
        rest_ends SourceFault rest same gives short (record { go_on = taken.go_on; fails = failed_once fails; within = omega (arith, length-append taken.bytes rest, taken.long, within) })

    pub takes_last : (why : ReceivingEnd) → n < 1048576 → TakesNext tape moment faults mid now cur new counts (Err why) → TakesFrames tape moment faults before now old new counts why
    takes_last why few (inl came) = answer_ends why came.frame came.answer few came.long came.gives came.quiet came.answers came.counted_is
    takes_last why few (inr none) =
        let rest = none.gives.bytes in
        let short = none.gives.short in
        let within : n * 8224 + length rest ≤ most_bytes = omega (arith, short, few) in
        elim none.why [
          | inl end ↦ (
              let is = end.0 in
              let same : why ≡ Source = cc in
              subst (TakesFrames tape moment faults before now old new counts) (sym same) (source_ends rest none.same none.gives.gives short within end.1))
          | inr fault ↦ (
              let is = fault.0 in
              let same : why ≡ SourceFault = cc in
              subst (TakesFrames tape moment faults before now old new counts) (sym same) (source_fails rest none.same none.gives.gives short within fault.1))
        ]

    -- behind the last frame that is taken
    pub takes_behind : (why : ReceivingEnd) → new ≡ cur → n ≡ 1048576 → LooksBehind mid now why → TakesFrames tape moment faults before now old new counts why
    takes_behind Source same all looks = source_ends [] same looks.0 (omega arith) (omega (arith, all)) looks.1
    takes_behind SourceFault same all looks = source_fails [] same looks.0 (omega arith) (omega (arith, all)) looks.1
    takes_behind TooMany same all looks =
        let byte = looks.0 in
        rest_ends TooMany byte same looks.2 (omega (arith, looks.1)) (record { go_on = taken.go_on; quiet = quiet_both before mid now taken.quiet looks.3; beyond = omega (arith, length-append taken.bytes byte, looks.1, taken.long, all) })
    takes_behind (ended.Diverged at) same all looks = absurd looks
    takes_behind (ended.Disk told) same all looks = absurd looks
