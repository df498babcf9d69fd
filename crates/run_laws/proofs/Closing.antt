-- A sound state in which one pass is left is that of a closed log.
use Rattle.std.proofs.Common.{◌≡◌, ℕ, ◌^◌, ◌<◌, List, Some, None, refl, sym, subst}
use Rattle.std.proofs.lemmas.Option.{none-some, same_Some}
use mathlib.Core.Option.{Option, some}
use Rattle.segment_disk.specs.declared.disk.Call.{Call}
use Rattle.segment_disk.specs.Tape.{DiskState, Tape}
use Rattle.machine_state.specs.Suited.{BeganSuited, tape_from}
use Rattle.machine_state.specs.Words.{Opening}
use Rattle.machine_state.specs.Views.{HasAt, Plain, View}
use Rattle.machine_state.specs.Sound.{IsSound}
use Rattle.machine_laws.specs.ClosedLogs.{IsClosed, IsLastPass}
use Rattle.machine_laws.proofs.ClosingLaws.{closed}
use Rattle.run_laws.specs.Closed.{IsClosedOn}

module _ (first : DiskState) (opening : Opening) (words : List ℕ) (views : List View) (id : ℕ) (v : View)
    (here : HasAt views id v) (narrow : (opening.setup).sysid < 2 ^ 64)
    (calls : List Call) where
  abbrev t : Tape
  t = record { at_first = first; calls = calls }

  -- the writer at home is the one that the state speaks of
  closed_at_home : (writer : Plain) (home : Option Plain) → some writer ≡ home
      → (k : IsSound first opening words home views) → IsClosed first opening k.order words home writer views id v
      → writer.calls ≡ Some calls → BeganSuited opening t → IsClosedOn opening k.order t v
  closed_at_home writer home is = subst (λ (home : Option Plain).
      (k : IsSound first opening words home views) → IsClosed first opening k.order words home writer views id v
      → writer.calls ≡ Some calls → BeganSuited opening t → IsClosedOn opening k.order t v) is (λ k closed_so told began. record {
        words = words;
        writer = writer;
        views = views;
        id = id;
        sound = k;
        order_is = refl;
        here = here;
        closed = closed_so;
        narrow = narrow;
        calls_is = told;
        began = began;
      })

-- a tape that is told has the calls that are told
pub told_from : (P : Tape → Type 0) (first : DiskState)
    (calls : Rattle.std.proofs.Common.Option (List Call)) (t : Tape)
    → tape_from first calls ≡ Some t
    → ((cs : List Call) → calls ≡ Some cs → P (record { at_first = first; calls = cs })) → P t
told_from P first None t is f = absurd (none-some t is)
told_from P first (Some cs) t is f = subst P (same_Some _ t is) (f cs refl)

pub close : (first : DiskState) (opening : Opening) (words : List ℕ) (home : Option Plain) (views : List View)
    (k : IsSound first opening words home views) (id : ℕ) (v : View) → HasAt views id v
    → IsLastPass opening v → (opening.setup).sysid < 2 ^ 64 → (t : Tape)
    → tape_from first (k.writer).calls ≡ Some t → BeganSuited opening t → IsClosedOn opening k.order t v
close first opening words home views k id v here last narrow t told began =
    let c = closed opening words home views k id v here last in
    told_from (λ (t : Tape). BeganSuited opening t → IsClosedOn opening k.order t v) first
    (k.writer).calls t told
    (λ calls is. closed_at_home first opening words views id v here narrow calls k.writer home
    (sym c.at_home) k c is) began
