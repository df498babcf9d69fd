-- What a plan says of the disk behind the calls that it makes.
use Rattle.std.proofs.Common.{◌≡◌, ℕ, ◌+◌, List, ◌++◌, length, Option, Some, None, IfSome, sym, ap, ◌∙◌, arith}
use Rattle.std.specs.List.{flat_map, range_with_len}
use Rattle.std.proofs.lemmas.List.{length-append, length-map}
use Rattle.std.proofs.lemmas.List.FromFn.{length-range_with_len}
use Rattle.segment_disk.specs.declared.disk.Call.{Call}
use Rattle.segment_disk.specs.Tape.{Tape, state_now, sync_call}
use Rattle.flush_core.specs.declared.planning.PlannedPage.{PlannedPage}
use Rattle.flush_core.specs.declared.planning.SettlePlan.{SettlePlan}
use Rattle.flush_core.specs.Calls.{with_calls}
use Rattle.flush_core.specs.Planned.{IsPlanOf, call_count, settled_tape}
use Rattle.flush_core.specs.PlannedPages.{ArePlanned, planned_pages}
use Rattle.flush_core.specs.Settled.{HasSettled, segment_clears, segments_cleared, settle_calls, sync_calls}
use Rattle.flush_core.proofs.GrowingTapes.{with_calls-none, with_calls-some}
use Rattle.flush_core.proofs.PlanLists.{clears_planned, count_planned}

settled_by : (size end count : ℕ) (old new : Option Tape) (calls : List Call) → new ≡ with_calls old calls → IfSome old (λ t. calls ≡ settle_calls size end count (state_now t)) → new ≡ settled_tape size end count old
settled_by size end count None new calls made are = made ∙ with_calls-none calls
settled_by size end count (Some t) new calls made are = made ∙ ap (with_calls (Some t)) are

-- a log that was settled has left this tape
pub settled_tape_is : (size end count : ℕ) (old new : Option Tape) (m0 m1 : ℕ) → HasSettled size end count old new m0 m1 → new ≡ settled_tape size end count old
settled_tape_is size end count old new m0 m1 settled = settled_by size end count old new settled.calls.calls settled.calls.made.tape settled.calls.are

-- as many calls are planned as settle the log
count_is : (size end count : ℕ) (t : Tape) (pages : List PlannedPage) (segments : List ℕ) → pages ≡ planned_pages size end (state_now t) count → segments ≡ segments_cleared size end (state_now t) count
    → length (settle_calls size end count (state_now t)) ≡ count + length pages + length segments
count_is size end count t pages segments cleared synced =
    let state = state_now t in
    let first = sync_calls size (range_with_len 1 count) in
    let writes = flat_map (segment_clears size end state) (range_with_len 1 count) in
    let last = sync_calls size (segments_cleared size end state count) in
    let firsts : length first ≡ count = length-map (range_with_len 1 count) (sync_call size) ∙ length-range_with_len 1 count in
    let written : length writes ≡ length pages = ap length (sym (clears_planned size end state count)) ∙ count_planned size end state count ∙ ap length (sym cleared) in
    let lasts : length last ≡ length segments = length-map (segments_cleared size end state count) (sync_call size) ∙ ap length (sym synced) in
    omega (arith, length-append first (writes ++ last), length-append writes last, firsts, written, lasts)

pub counted_behind : (size end count : ℕ) (old : Option Tape) (plan : SettlePlan) (m : ℕ) → IsPlanOf size end count old plan → IfSome old (λ t. m ≡ length t.calls) → IfSome (settled_tape size end count old) (λ t. m + call_count plan ≡ length t.calls)
counted_behind size end count old plan m is counts = over old is.planned counts
  where
    over : (tape : Option Tape) → ArePlanned size end count tape plan.pages.items plan.segments.items → IfSome tape (λ t. m ≡ length t.calls) → IfSome (settled_tape size end count tape) (λ t. m + call_count plan ≡ length t.calls)
    over None planned counts = tt
    over (Some t) planned counts =
        let calls = settle_calls size end count (state_now t) in
        let many = count_is size end count t plan.pages.items plan.segments.items planned.cleared planned.synced in
        let same : m + call_count plan ≡ length (t.calls ++ calls) = omega (arith, counts, many, is.count_is, length-append t.calls calls) in
        rw (with_calls-some t calls) same
