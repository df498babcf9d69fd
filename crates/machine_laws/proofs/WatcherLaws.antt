-- Every sound state shows what its watchers know.
use Rattle.std.proofs.Common.{◌≡◌, inl, inr, ℕ, List, arith}
use Rattle.std.proofs.lemmas.Bool.{cases_lt}
use mathlib.Core.Option.{Option}
use Rattle.machine_state.specs.Words.{Opening}
use Rattle.machine_state.specs.Views.{HasAt, Copy, Copying, Plain, View, working_of, watching_of}
use Rattle.machine_state.specs.Sound.{IsSound}
use Rattle.machine_state.proofs.Lists.{part_at}
use Rattle.machine_laws.specs.SoundWatches.{SeesCopied, WatchersSeeCopies}
use Rattle.segment_disk.specs.Tape.{DiskState}

module _ {first : DiskState} (opening : Opening) (words : List ℕ) (home : Option Plain) (views : List View)
    (k : IsSound first opening words home views) where
  sees_copied : (id other : ℕ) (v w : View) (c : Copy) → HasAt views id v → HasAt views other w
      → (w.working).flight ≡ Copying c → SeesCopied (opening.setup).seg_size v c
  sees_copied id other v w c here there is lock m n under visited owned low owned_too below =
      let bound = (k.watching).behind id other v.watching w.working
      (part_at watching_of views id v here) (part_at working_of views other w there) c lock is under
      visited (omega arith) in
      elim (cases_lt n c.copied) [
        | inl done ↦ done
        | inr left ↦ absurd (omega arith)
      ]

  pub watchers_see_copies : WatchersSeeCopies opening.setup views
  watchers_see_copies = record {
    seen = λ id v here live. (k.grounded id v here).watches live;
    bound_low = λ id v here.
        ((k.watching).reserved id v.watching (part_at watching_of views id v here)).1;
    copied = sees_copied;
  }
