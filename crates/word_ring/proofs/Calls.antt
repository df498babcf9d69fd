-- What a pass with the writer in hand may do: load a word of a page, and each call of the device.
use Rattle.std.proofs.Common.{◌≡◌, ℕ, List, sym, subst}
use Rattle.segment_disk.specs.Tape.{Tape}
use Rattle.machine_state.specs.Moves.{Done}
use Rattle.machine_state.specs.Steps.{IsNextCreate, IsNextSync, IsNextWrite, IsToBeWritten, MayStep, create, load_ring_word, sync, write}
use Rattle.machine_state.specs.Views.{Lent, Out}
use Rattle.machine_state.specs.Words.{Opening}
use Rattle.wal_rule.specs.declared.seated.SeatedPass.{SeatedPass}
use Rattle.wal_rule.specs.SeatedPasses.{setup_of, view_of}
use Rattle.word_ring.specs.InHand.{HasHand, lent_in}
use Rattle.word_ring.proofs.HandLaws.{has_lent, hold_is}

module _ {D : Type 0} (tape : D → Rattle.std.specs.Prelude.Option Tape) (moment faults : D → ℕ)
    (p : SeatedPass D) (hand : HasHand tape moment faults p) where
  abbrev lent : Lent
  lent = lent_in ((view_of p).writing).hold

  out : ((view_of p).writing).hold ≡ Out lent
  out = hold_is (view_of p) (has_lent tape moment faults p hand)

  pub may_load : (k : ℕ) → IsToBeWritten k lent → MayStep (view_of p) (load_ring_word k)
  may_load k next = (lent, out, next)

  pub may_create : (segment : ℕ) → IsNextCreate (setup_of p) segment lent
      → MayStep (view_of p) (create segment Done)
  may_create segment next = (
    (
      lent,
      out,
      subst (λ (o : Opening). IsNextCreate o.setup segment lent) (sym (p.seated).own) next,
    ),
    tt,
  )

  pub may_write : (segment page upto : ℕ) (bytes : List ℕ)
      → IsNextWrite (setup_of p) segment page upto bytes lent
      → MayStep (view_of p) (write segment page upto bytes Done)
  may_write segment page upto bytes next = (
    (
      lent,
      out,
      subst (λ (o : Opening). IsNextWrite o.setup segment page upto bytes lent)
          (sym (p.seated).own) next,
    ),
    tt,
  )

  pub may_sync : (segment : ℕ) → IsNextSync segment lent → MayStep (view_of p) (sync segment Done)
  may_sync segment next = ((lent, out, next), tt)
