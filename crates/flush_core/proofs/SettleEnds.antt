-- Which calls were made says what is left of a log that was settled, or not to the end.
use Rattle.std.proofs.Common.{◌≡◌, ◌⊎◌, inl, inr, ℕ, List, Option, Some, None, IfSome, Result, OnErr, OnOk, Ok, Err, length, refl, subst, ◌∙◌, arith}
use Rattle.byte_position.specs.Geometry.{IsSegmentSize}
use Rattle.segment_disk.specs.Tape.{Tape, IsNotMade, state_now}
use Rattle.flush_core.specs.declared.planning.PlannedPage.{PlannedPage}
use Rattle.flush_core.specs.PlannedPages.{ArePlanned}
use Rattle.flush_core.specs.Settled.{AreAllThere, AreThere, HasNotSettled, HasSettled, MakesCalls, StopsCalls, settle_calls}
use Rattle.flush_core.proofs.SettleCalls.{lifted, stops_at_once}
use Rattle.flush_core.proofs.SettledTapes.{all_keeps, all_loses, all_settles, front_keeps, front_loses}

pub on_ok_then : {T E : Type 0} (result : Result T E) (P Q : Type 0) → (P → Q) → OnOk result P → OnOk result Q
on_ok_then (Ok x) P Q more holds = more holds
on_ok_then (Err e) P Q more holds = holds

pub on_err_then : {T E : Type 0} (result : Result T E) (P Q : Type 0) → (P → Q) → OnErr result P → OnErr result Q
on_err_then (Ok x) P Q more holds = holds
on_err_then (Err e) P Q more holds = more holds

module _ (size end : ℕ) (valid : IsSegmentSize size) (old new : Option Tape) (m0 m1 : ℕ) (counts : IfSome old (λ t. m0 ≡ length t.calls)) where
  first_there : (count : ℕ) → IfSome old (λ t. AreAllThere size (state_now t) count) → IfSome old (λ t. AreThere (state_now t) count)
  first_there count = lifted old (λ t. AreAllThere size (state_now t) count) (λ t. AreThere (state_now t) count) (λ t all. all.there)

  has_not_from : (count : ℕ) → (IfSome old (λ t. AreAllThere size (state_now t) count)) ⊎ ((count ≡ 0) × IsNotMade old new m0 m1) → IfSome old (λ t. AreThere (state_now t) count) → StopsCalls old new m0 m1 (settle_calls size end count) → HasNotSettled size end old new m0 m1
  has_not_from count all there stops = record {
    count = count;
    there = all;
    calls = stops;
    keeps_old = front_loses size end count valid old new m0 m1 counts there stops;
    keeps_read = λ long. front_keeps size end count valid old new m0 m1 counts there stops long;
  }

  none_there : (tape : Option Tape) → IfSome tape (λ t. AreThere (state_now t) 0)
  none_there None = tt
  none_there (Some t) = λ segment among. absurd (omega (arith, among.0, among.1))

  -- no call was made
  pub at_once : IsNotMade old new m0 m1 → HasNotSettled size end old new m0 m1
  at_once same = has_not_from 0 (inr (refl, same)) (none_there old) (stops_at_once old new m0 m1 (settle_calls size end 0) same)

  -- a front of the calls was made
  pub has_not : (count : ℕ) → IfSome old (λ t. AreAllThere size (state_now t) count) → StopsCalls old new m0 m1 (settle_calls size end count) → HasNotSettled size end old new m0 m1
  has_not count there stops = has_not_from count (inl there) (first_there count there) stops

  -- all of them were
  pub has : (count : ℕ) → IfSome old (λ t. AreAllThere size (state_now t) count) → MakesCalls old new m0 m1 (settle_calls size end count) → HasSettled size end count old new m0 m1
  has count there makes =
      let first = first_there count there in record {
        there = there;
        calls = makes;
        keeps_old = all_loses size end count valid old new m0 m1 counts first makes;
        keeps_read = all_keeps size end count valid old new m0 m1 counts first makes;
        settled = all_settles size end count valid old new m0 m1 counts first makes;
      }

-- no call was made before these
pub before_none : (P : Option Tape → ℕ → Type 0) (old one : Option Tape) (m0 m1 : ℕ) → IsNotMade old one m0 m1 → P one m1 → P old m0
before_none P old one m0 m1 same holds = subst (λ (m : ℕ). P old m) same.same_moment (subst (λ (t : Option Tape). P t m1) same.same_tape holds)

-- what is planned, said of the same numbers and lists
pub planned_as : (size end count own_size own_count : ℕ) (tape : Option Tape) (pages own_pages : List PlannedPage) (segments own_segments : List ℕ) → own_size ≡ size → own_count ≡ count → own_pages ≡ pages → own_segments ≡ segments
    → ArePlanned size end count tape pages segments → ArePlanned own_size end own_count tape own_pages own_segments
planned_as size end count own_size own_count tape pages own_pages segments own_segments size_is count_is pages_are segments_are planned = rw (size_is, count_is, pages_are, segments_are) planned

-- the calls that were made, said by the same numbers
module _ (old new : Option Tape) (m0 m1 size end count own_size own_count : ℕ) (size_is : own_size ≡ size) (count_is : own_count ≡ count) where
  pub makes_as_planned : MakesCalls old new m0 m1 (settle_calls own_size end own_count) → MakesCalls old new m0 m1 (settle_calls size end count)
  makes_as_planned made = subst (λ (n : ℕ). MakesCalls old new m0 m1 (settle_calls size end n)) count_is (subst (λ (n : ℕ). MakesCalls old new m0 m1 (settle_calls n end own_count)) size_is made)

  pub stops_as_planned : StopsCalls old new m0 m1 (settle_calls own_size end own_count) → StopsCalls old new m0 m1 (settle_calls size end count)
  stops_as_planned stops = subst (λ (n : ℕ). StopsCalls old new m0 m1 (settle_calls size end n)) count_is (subst (λ (n : ℕ). StopsCalls old new m0 m1 (settle_calls n end own_count)) size_is stops)

pub not_made_on : (old one two : Option Tape) (m0 m1 m2 : ℕ) → IsNotMade old one m0 m1 → IsNotMade one two m1 m2 → IsNotMade old two m0 m2
not_made_on old one two m0 m1 m2 first second = record { same_tape = second.same_tape ∙ first.same_tape; same_moment = second.same_moment ∙ first.same_moment }
