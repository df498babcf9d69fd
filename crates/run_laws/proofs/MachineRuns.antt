-- What a crash leaves of a machine's run, word by word: all that its lines were told is firm.
use Rattle.std.proofs.Common.{◌≡◌, ℕ, All, List, Some, inl, inr, sym, ap, ◌∙◌, subst, arith}
use Rattle.std.proofs.lemmas.Bool.{cases_lt}
use mathlib.Core.Option.{none, some, some-injective}
use Rattle.segment_disk.specs.Assured.{IsMadeUpto}
use Rattle.segment_disk.specs.Tape.{Tape}
use Rattle.wal_page.specs.Order.{Entry}
use Rattle.run_script.specs.Asked.{AskedLine}
use Rattle.machine_state.specs.Durable.{AreKept, IsFirm, IsLogBelow, IsPromiseKept}
use Rattle.machine_state.specs.Locked.{HasWriteTurn, IsWriteTurn, StandsTo}
use Rattle.machine_state.specs.Moves.{joined_of}
use Rattle.machine_state.specs.Suited.{BeganSuited, tape_from}
use Rattle.machine_state.specs.Views.{FlushPromise, Hold, Idle, Joined, Out, Plain, Turned}
use Rattle.machine_state.specs.Words.{Opening, found_end, log_limit}
use Rattle.machine_state.proofs.Tapes.{at_suited}
use Rattle.machine_laws.proofs.DurableGrowth.{IsFirm-lower}
use Rattle.machine_laws.proofs.DurableTapes.{TapeAssures-later}
use Rattle.run_laws.specs.declared.told.Told.{Told}
use Rattle.run_laws.specs.Crash.{SaysDurable}
use Rattle.run_laws.specs.Told.{SomeTold, order_from}
use Rattle.run_laws.proofs.Promises.{told_rightly}
use Rattle.run_laws.specs.Assured.{IsMachineRun, KeepsToldWords}
use Rattle.run_laws.proofs.RunCrashes.{ArePromises, all_promised}
use Rattle.run_laws.proofs.RunOrder.{unmapped}

-- ---- the writer

none_at_home : (w : Plain) → some w ≡ none → ⊥
none_at_home w same = cc

home_of : (turn holder : ℕ) (home writer : Plain) (id number : ℕ) (hold : Hold)
    → HasWriteTurn hold → StandsTo turn holder (some home) writer id number hold
    → some home ≡ some writer
home_of turn holder home writer id number Idle has stands = absurd has
home_of turn holder home writer id number Turned has stands = stands.2
home_of turn holder home writer id number (Out l) has stands = absurd (none_at_home home stands.2)

-- a writer that is at home is the one of which the state speaks
same_writer : (turn : ℕ) (home writer : Plain) (writers : List (ℕ × Hold))
    → IsWriteTurn turn (some home) writer writers → home ≡ writer
same_writer turn home writer writers is = some-injective home writer (elim (cases_lt 0 turn) [
  | inr free ↦ is.free (omega (arith, free))
  | inl taken ↦
      (let holder = is.held (λ nothing. omega (arith, taken, nothing)) in
      home_of turn is.holder home writer is.holder holder.0.0 holder.0.1 holder.2
      (is.each is.holder holder.0 holder.1))
])

module _ (opening : Opening) (now : Tape) (moment : ℕ)
    (script : List (List AskedLine)) (lists : List (List Told))
    (m : IsMachineRun opening (Some now) moment script lists) where
  abbrev size : ℕ
  size = (opening.setup).seg_size

  home_is : m.writer ≡ (m.sound).writer
  home_is = same_writer _ m.writer (m.sound).writer _ ((m.sound).locks).writing

  pub writer_tape : tape_from m.first ((m.sound).writer).calls ≡ Some now
  writer_tape = ap (λ (w : Plain). tape_from m.first w.calls) (sym home_is) ∙ m.tape_is

  -- ---- on a disk that held at the opening what the log may go on on

  module _ (suited : BeganSuited opening now) where
    abbrev Kept : List Entry → FlushPromise → Type 0
    Kept es p = IsPromiseKept opening (m.sound).order now es p

    found_firm : IsFirm opening (m.sound).order (found_end opening) opening.moment now
    found_firm = at_suited m.first opening (m.sound).writer
        (IsFirm opening (m.sound).order (found_end opening) opening.moment) now writer_tape
        suited ((m.sound).durable).found

    all_kept : All (λ (j : Joined). AreKept opening (m.sound).order now j.entries j.promises)
        ((m.view).reserving).joined
    all_kept = at_suited m.first opening (m.sound).writer
        (λ t. All (λ (j : Joined). AreKept opening (m.sound).order t j.entries j.promises)
        ((m.view).reserving).joined) now writer_tape suited
        (told_rightly opening m.words (some m.writer) m.views m.sound m.id m.view m.here).joined

    others_kept : All (λ w. ArePromises Kept (joined_of w)) (m.taken).others
    others_kept = unmapped (ArePromises Kept) (m.taken).others
        (subst (All (ArePromises Kept)) (m.taken).joined all_kept)

    told_firm : (at address : ℕ) → SomeTold (SaysDurable at address) lists
        → IsFirm opening (m.sound).order address at now
    told_firm at address says =
        let p = all_promised Kept size (log_limit opening.setup) 1 at address script lists
        (m.taken).others (m.taken).played others_kept says in
        TapeAssures-later size (IsMadeUpto size address)
        (IsLogBelow opening (m.sound).order address) (p.1).moment at now p.3
        (IsFirm-lower opening (m.sound).order address (p.1).upto (p.1).moment now p.4
        (p.2).firm)

    pub keeps_words : KeepsToldWords opening
        (order_from (opening.setup).seg_size 1 script lists) lists now
    keeps_words = subst (λ (es : List Entry). KeepsToldWords opening es lists now) m.order_is
        (record { found = found_firm; told = told_firm })
