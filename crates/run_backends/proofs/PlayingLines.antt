-- Lines that a session has played so far, one more at a time.
use Rattle.std.proofs.Common.{◌≡◌, ℕ, zero, suc, ◌+◌, ◌<◌, ◌≤◌, All, List, [], ◌∷◌, ◌++◌, get_or, length, take, ap, arith, refl, subst, sym, ◌∙◌}
use Rattle.std.proofs.lemmas.List.{length_push, take_all}
use Rattle.std.proofs.lemmas.List.Elements.{All-nil, All-push, All-weaker}
use Rattle.machine_state.specs.Words.{log_limit}
use Rattle.machine_state.specs.declared.setup.Setup.{Setup}
use Rattle.machine_state.specs.Views.{View}
use Rattle.wal_log.specs.Logs.{setup_of_log}
use Rattle.wal_log.specs.Standing.{KeepsPass}
use Rattle.wal_log.specs.declared.wal.Wal.{Wal}
use Rattle.wal_log.proofs.Keeping.{further_pass, same_pass}
use Rattle.run_script.specs.Asked.{Asked, AskedLine}
use Rattle.run_script.specs.Bodies.{AreLinesOf, IsActionOf}
use Rattle.run_script.specs.declared.line.Line.{Line}
use Rattle.run_laws.specs.declared.told.Told.{Told}
use Rattle.run_laws.specs.declared.told.Told.TheVariants.{Wrote, Hard, Flushed, Async, Idle, Switched, Stayed, Refused}
use Rattle.run_laws.specs.Played.{PassState, PlaysAllLines, PlaysLine, PlaysLines, state_at_first}
use Rattle.run_laws.specs.Reached.{EndsBy}
use Rattle.run_backends.specs.Sessions.{IsSessionOf, LeavesSession, PlaysAnswer, state_of_session, view_of_session}
use Rattle.run_backends.specs.declared.session.Session.{Session}

-- ---- an address further on

pub ends_further : (address further : ℕ) → address ≤ further → (told : Told) → EndsBy address told
    → EndsBy further told
ends_further address further more (Wrote start end) ends = omega (arith, more, ends)
ends_further address further more (Hard start end moment) ends = omega (arith, more, ends)
ends_further address further more (Flushed upto moment) ends = tt
ends_further address further more (Async start end) ends = omega (arith, more, ends)
ends_further address further more (Idle upto) ends = tt
ends_further address further more (Switched start end) ends = omega (arith, more, ends)
ends_further address further more (Stayed end) ends = tt
ends_further address further more (Refused cause reserved) ends = tt

-- ---- the asked lines before a place, and the one that stands there

same_count : (asked : List AskedLine) (lines : List Line) → AreLinesOf asked lines
    → length asked ≡ length lines
same_count [] [] are = refl
same_count [] (line ∷ lines) are = absurd are
same_count (first ∷ asked) [] are = absurd are
same_count (first ∷ asked) (line ∷ lines) are = ap suc (same_count asked lines are.2)

pub asked_at : (asked : List AskedLine) (lines : List Line) (i : ℕ) (line : Line)
    → AreLinesOf asked lines → i < length lines → line ≡ get_or lines i line
    → (one : AskedLine) × IsActionOf one.asked line.action
    × (take (i + 1) asked ≡ take i asked ++ one ∷ [])
asked_at asked [] i line are within is = absurd (omega (arith, within))
asked_at [] (t ∷ lines) i line are within is = absurd are
asked_at (first ∷ asked) (t ∷ lines) zero line are within is =
    (first, subst (λ (u : Line). IsActionOf first.asked u.action) (sym is) are.1, refl)
asked_at (first ∷ asked) (t ∷ lines) (suc i) line are within is =
    let found = asked_at asked lines i line are.2 (omega (arith, within)) is in
    let more : suc i + 1 ≡ suc (i + 1) = omega arith in (
      found.0,
      found.1,
      ap (λ (n : ℕ). take n (first ∷ asked)) more
          ∙ ap (λ (front : List AskedLine). first ∷ front) found.2,
    )

-- ---- the lines that a session has played

-- one line more may follow those that were played
abbrev pub FollowOn : Type 0
FollowOn = (size limit pass : ℕ) (before mid after : PassState) (lines : List AskedLine)
    (told : List Told) (line : AskedLine) (answer : Told)
    → PlaysLines size limit pass before lines told mid
    → PlaysLine size limit pass line.asked answer mid after
    → PlaysLines size limit pass before (lines ++ line ∷ []) (told ++ answer ∷ []) after

-- the lines that ask for this, played by a pass of this number, which had seen so much reserved,
-- leave this state
abbrev pub PlaysFor : {D : Type 0} → Wal D → (pass seen : ℕ) → List AskedLine → List Told
    → PassState → Type 0
PlaysFor wal pass seen asked told after =
    PlaysLines (setup_of_log wal).seg_size (log_limit (setup_of_log wal)) pass
    (state_at_first seen) asked told after

-- the lines before a place were played by a session that began with this view, and told these
-- answers
pub record HasPlayedUpto {D : Type 0} (wal : Wal D) (begun : View) (lines : List Line) (i : ℕ)
    (told : List Told) (session : Session) : Type 0 where
  pub each : length told ≡ i
  pub plays : (asked : List AskedLine) → AreLinesOf asked lines
      → PlaysFor wal (begun.reserving).number (begun.reserving).seen (take i asked) told
      (state_of_session session)
  pub of_log : IsSessionOf wal session
  pub keeps : KeepsPass begun (view_of_session session)
  pub ends : All (EndsBy session.end.0) told

module _ (D : Type 0) (wal : Wal D) (begun : View) (lines : List Line) where
  pub none_played : (told : List Told) (session : Session) → told ≡ [] → IsSessionOf wal session
      → state_of_session session ≡ state_at_first (begun.reserving).seen
      → begun ≡ view_of_session session
      → HasPlayedUpto wal begun lines 0 told session
  none_played told session none is first same =
      subst (λ (answers : List Told). HasPlayedUpto wal begun lines 0 answers session) (sym none)
      (record {
        each = refl;
        plays = λ asked are. first;
        of_log = is;
        keeps = subst (λ (v : View). KeepsPass begun v) same (same_pass begun);
        ends = All-nil (EndsBy session.end.0);
      })

  pub one_more_played : FollowOn → (i : ℕ) (told all : List Told) (old new : Session) (line : Line)
      (answer : Told) → HasPlayedUpto wal begun lines i told old → i < length lines
      → line ≡ get_or lines i line → all ≡ told ++ answer ∷ []
      → ((asked : Asked) → IsActionOf asked line.action → PlaysAnswer wal asked answer old new)
      → LeavesSession wal answer old new
      → HasPlayedUpto wal begun lines (i + 1) all new
  one_more_played follow i told all old new line answer played within is pushed plays leaves =
      subst (λ (answers : List Told). HasPlayedUpto wal begun lines (i + 1) answers new)
      (sym pushed) (record {
        each = omega (arith, length_push told answer, played.each);
        plays = more_plays;
        of_log = leaves.session;
        keeps = further_pass begun (view_of_session old) (view_of_session new) played.keeps
            leaves.keeps;
        ends = All-push (EndsBy new.end.0) told answer
            (All-weaker (EndsBy old.end.0) (EndsBy new.end.0)
            (ends_further old.end.0 new.end.0 leaves.rises) told played.ends)
            leaves.told_end;
      })
    where
      more_plays : (asked : List AskedLine) → AreLinesOf asked lines
          → PlaysFor wal (begun.reserving).number (begun.reserving).seen (take (i + 1) asked)
          (told ++ answer ∷ []) (state_of_session new)
      more_plays asked are =
          let setup : Setup = setup_of_log wal in
          let number = (begun.reserving).number in
          let seen = (begun.reserving).seen in
          let found = asked_at asked lines i line are within is in
          let step = subst (λ (pass : ℕ). PlaysLine setup.seg_size (log_limit setup) pass
          (found.0).asked answer (state_of_session old) (state_of_session new))
          (played.keeps).number (plays (found.0).asked found.1) in
          subst (λ (front : List AskedLine). PlaysFor wal number seen front
          (told ++ answer ∷ []) (state_of_session new)) (sym found.2)
          (follow setup.seg_size (log_limit setup) number
          (state_at_first seen) (state_of_session old) (state_of_session new) (take i asked) told found.0 answer
          (played.plays asked are) step)

  pub all_played : (i : ℕ) (told : List Told) (session : Session)
      → HasPlayedUpto wal begun lines i told session → length lines ≤ i
      → (asked : List AskedLine) → AreLinesOf asked lines
      → PlaysAllLines (setup_of_log wal).seg_size (log_limit (setup_of_log wal))
      ((view_of_session session).reserving).number asked told (state_of_session session)
  all_played i told session played end asked are =
      let seen = (begun.reserving).seen in record {
        seen = seen;
        plays = subst (λ (pass : ℕ). PlaysFor wal pass seen asked told (state_of_session session))
            (sym (played.keeps).number)
            (subst (λ (front : List AskedLine). PlaysFor wal (begun.reserving).number seen front told
            (state_of_session session))
            (take_all i asked (omega (arith, end, same_count asked lines are)))
            (played.plays asked are));
      }
