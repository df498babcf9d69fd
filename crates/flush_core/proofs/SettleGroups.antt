-- The three groups of calls by which a log is settled, one behind another.
use Rattle.std.proofs.Common.{◌≡◌, ℕ, List, ◌++◌, Option, Some, None, IfSome, sym, ap, subst, ◌∙◌}
use Rattle.std.specs.List.{filter, flat_map, range_with_len}
use Rattle.std.proofs.lemmas.List.{append_assoc}
use Rattle.segment_disk.specs.declared.disk.Call.{Call}
use Rattle.segment_disk.specs.Tape.{DiskState, Tape, after_calls, page_of_segment, state_now}
use Rattle.flush_core.specs.declared.planning.PlannedPage.{PlannedPage}
use Rattle.flush_core.specs.Calls.{with_calls}
use Rattle.flush_core.specs.PlannedPages.{AreToClear, planned_clears, planned_pages}
use Rattle.flush_core.specs.Settled.{MakesCalls, StopsCalls, has_calls, segment_clears, segments_cleared, settle_calls, sync_calls}
use Rattle.flush_core.proofs.CallLaws.{holds-with_calls}
use Rattle.flush_core.proofs.GrowingTapes.{with_calls-some}
use Rattle.flush_core.proofs.PlanLists.{all_to_clear, clears_planned, planned_alike}
use Rattle.flush_core.proofs.SettleCalls.{Agree, lifted, makes_as, stops_as, stops_longer, then_makes, then_stops}
use Rattle.flush_core.proofs.SettleReads.{behind_calls, reads_spared, segment_clears_alike, syncs_spare}

clears_alike : (size end : ℕ) (one other : DiskState) → ((segment page : ℕ) → page_of_segment (one segment) page ≡ page_of_segment (other segment) page) → segment_clears size end one ≡ segment_clears size end other
clears_alike size end one other same = λ i segment. segment_clears_alike size end segment one other (same segment) i

-- the same calls said otherwise of the state in which they begin
module _ (old new : Option Tape) (m0 m1 : ℕ) (f g : DiskState → List Call) (same : IfSome old (λ t. f (state_now t) ≡ g (state_now t))) where
  said_here : (calls : List Call) (tape : Option Tape) → IfSome tape (λ t. f (state_now t) ≡ g (state_now t)) → IfSome tape (λ t. calls ≡ f (state_now t)) → IfSome tape (λ t. calls ≡ g (state_now t))
  said_here calls None same are = tt
  said_here calls (Some t) same are = are ∙ same

  makes_here : MakesCalls old new m0 m1 f → MakesCalls old new m0 m1 g
  makes_here makes = record { calls = makes.calls; made = makes.made; are = said_here makes.calls old same makes.are }

  stops_here : StopsCalls old new m0 m1 f → StopsCalls old new m0 m1 g
  stops_here stops = record { front = stops.front; others = stops.others; ends = stops.ends; are = said_here (stops.front ++ stops.others) old same stops.are }

module _ (size end count : ℕ) where
  abbrev segments : List ℕ
  segments = range_with_len 1 count

  abbrev syncs : DiskState → List Call
  syncs s = sync_calls size segments

  abbrev clears : DiskState → List Call
  clears s = flat_map (segment_clears size end s) segments

  abbrev last_syncs : DiskState → List Call
  last_syncs s = sync_calls size (segments_cleared size end s count)

  -- what is read is the same behind the first syncs
  synced_alike : (s : DiskState) → segment_clears size end (after_calls s (syncs s)) ≡ segment_clears size end s
  synced_alike s = clears_alike size end (after_calls s (syncs s)) s (λ segment page. reads_spared segment page (syncs s) s (syncs_spare size segment page segments))

  whole : (s : DiskState) → (syncs s ++ clears s) ++ last_syncs s ≡ settle_calls size end count s
  whole s = append_assoc (syncs s) (clears s) (last_syncs s)

  pub stops_at_syncs : (old new : Option Tape) (m0 m1 : ℕ) → StopsCalls old new m0 m1 (λ _. sync_calls size (range_with_len 1 count)) → StopsCalls old new m0 m1 (settle_calls size end count)
  stops_at_syncs old new m0 m1 stops = stops_longer old new m0 m1 syncs (λ s. clears s ++ last_syncs s) stops

  module _ (old one : Option Tape) (m0 m1 : ℕ) (first : MakesCalls old one m0 m1 (λ _. sync_calls size (range_with_len 1 count))) where
    -- what holds before the first syncs, and is kept by them, holds behind them
    carried : (Q : DiskState → Type 0) → ((s : DiskState) → Q s → Q (after_calls s (syncs s))) → IfSome old (λ t. Q (state_now t)) → IfSome one (λ u. Q (state_now u))
    carried Q keeps holds = subst (λ (o : Option Tape). IfSome o (λ u. Q (state_now u))) (sym first.made.tape) (holds-with_calls Q old first.calls (over old first.are holds))
      where
        over : (tape : Option Tape) → IfSome tape (λ t. first.calls ≡ syncs (state_now t)) → IfSome tape (λ t. Q (state_now t)) → IfSome tape (λ t. Q (after_calls (state_now t) first.calls))
        over None are holds = tt
        over (Some t) are holds = subst (λ (l : List Call). Q (after_calls (state_now t) l)) (sym are) (keeps (state_now t) holds)

    -- so the same pages are to be cleared, and the same segments to be synced behind that
    module _ (pages : List PlannedPage) (planned : IfSome old (λ t. pages ≡ planned_pages size end (state_now t) count)) where
      pages_behind : IfSome one (λ u. pages ≡ planned_pages size end (state_now u) count)
      pages_behind =
          carried (λ s. pages ≡ planned_pages size end s count)
          (λ s are. are ∙ sym (planned_alike size end count (after_calls s (syncs s)) s (λ segment page. reads_spared segment page (syncs s) s (syncs_spare size segment page segments)))) planned

      pub pages_to_clear : IfSome one (λ u. AreToClear size (state_now u) pages)
      pages_to_clear = lifted one (λ u. pages ≡ planned_pages size end (state_now u) count) (λ u. AreToClear size (state_now u) pages) (λ u are. subst (AreToClear size (state_now u)) (sym are) (all_to_clear size (state_now u) end count)) pages_behind

      -- their writes are those that settle the log
      said_alike : IfSome one (λ u. flat_map (planned_clears size (state_now u)) pages ≡ clears (state_now u))
      said_alike = lifted one (λ u. pages ≡ planned_pages size end (state_now u) count) (λ u. flat_map (planned_clears size (state_now u)) pages ≡ clears (state_now u)) (λ u are. ap (flat_map (planned_clears size (state_now u))) are ∙ clears_planned size end (state_now u) count) pages_behind

      pub pages_made : (two : Option Tape) (m2 : ℕ) → MakesCalls one two m1 m2 (λ s. flat_map (planned_clears size s) pages) → MakesCalls one two m1 m2 (λ s. flat_map (segment_clears size end s) (range_with_len 1 count))
      pages_made two m2 makes = makes_here one two m1 m2 (λ s. flat_map (planned_clears size s) pages) clears said_alike makes

      pub pages_stopped : (two : Option Tape) (m2 : ℕ) → StopsCalls one two m1 m2 (λ s. flat_map (planned_clears size s) pages) → StopsCalls one two m1 m2 (λ s. flat_map (segment_clears size end s) (range_with_len 1 count))
      pages_stopped two m2 stops = stops_here one two m1 m2 (λ s. flat_map (planned_clears size s) pages) clears said_alike stops

    pub listed_behind : (items : List ℕ) → IfSome old (λ t. items ≡ segments_cleared size end (state_now t) count) → IfSome one (λ u. items ≡ segments_cleared size end (state_now u) count)
    listed_behind items listed =
        carried (λ s. items ≡ segments_cleared size end s count)
        (λ s are. are ∙ sym (ap (λ (f : ℕ → List Call). filter (λ segment. has_calls (f segment)) segments) (synced_alike s))) listed

    clears_agree : Agree old one clears clears
    clears_agree = behind_calls (λ t u. clears u ≡ clears (state_now t)) old one syncs first.calls first.are first.made.tape (λ t. ap (λ (f : ℕ → List Call). flat_map f segments) (synced_alike (state_now t)))

    pub stops_at_clears : (new : Option Tape) (m2 : ℕ) → StopsCalls one new m1 m2 (λ s. flat_map (segment_clears size end s) (range_with_len 1 count)) → StopsCalls old new m0 m2 (settle_calls size end count)
    stops_at_clears new m2 stops =
        stops_as old new m0 m2 (λ s. (syncs s ++ clears s) ++ last_syncs s) (settle_calls size end count) whole
        (stops_longer old new m0 m2 (λ s. syncs s ++ clears s) last_syncs (then_stops old one new m0 m1 m2 syncs clears clears first stops clears_agree))

    module _ (two : Option Tape) (m2 : ℕ) (second : MakesCalls one two m1 m2 (λ s. flat_map (segment_clears size end s) (range_with_len 1 count))) (items : List ℕ) (waits : IfSome one (λ u. items ≡ segments_cleared size end (state_now u) count)) where
      both : MakesCalls old two m0 m2 (λ s. syncs s ++ clears s)
      both = then_makes old one two m0 m1 m2 syncs clears clears first second clears_agree

      cleared_agrees : IfSome old (λ t. IfSome one (λ u. segments_cleared size end (state_now u) count ≡ segments_cleared size end (state_now t) count))
      cleared_agrees =
          behind_calls (λ t u. segments_cleared size end u count ≡ segments_cleared size end (state_now t) count) old one syncs first.calls first.are first.made.tape
          (λ t. ap (λ (f : ℕ → List Call). filter (λ s. has_calls (f s)) segments) (synced_alike (state_now t)))

      -- those that were written to are told by what was there at first
      told : (before behind : Option Tape) (calls : List Call) → behind ≡ with_calls before calls → IfSome before (λ t. IfSome behind (λ u. segments_cleared size end (state_now u) count ≡ segments_cleared size end (state_now t) count))
          → IfSome behind (λ u. items ≡ segments_cleared size end (state_now u) count) → (last : Option Tape) → Agree before last (λ _. sync_calls size items) last_syncs
      told None behind calls grown agree are last = tt
      told (Some t) None calls grown agree are last =
          let none : None ≡ Some (record t { calls = t.calls ++ calls }) = grown ∙ with_calls-some t calls in
          absurd (cc none)
      told (Some t) (Some u) calls grown agree are None = tt
      told (Some t) (Some u) calls grown agree are (Some v) = ap (sync_calls size) (are ∙ agree)

      agrees : Agree old two (λ _. sync_calls size items) last_syncs
      agrees = told old one first.calls first.made.tape cleared_agrees waits two

      pub makes_all : (new : Option Tape) (m3 : ℕ) → MakesCalls two new m2 m3 (λ _. sync_calls size items) → MakesCalls old new m0 m3 (settle_calls size end count)
      makes_all new m3 third =
          makes_as old new m0 m3 (λ s. (syncs s ++ clears s) ++ last_syncs s) (settle_calls size end count) whole
          (then_makes old two new m0 m2 m3 (λ s. syncs s ++ clears s) (λ _. sync_calls size items) last_syncs both third agrees)

      pub stops_at_last : (new : Option Tape) (m3 : ℕ) → StopsCalls two new m2 m3 (λ _. sync_calls size items) → StopsCalls old new m0 m3 (settle_calls size end count)
      stops_at_last new m3 third =
          stops_as old new m0 m3 (λ s. (syncs s ++ clears s) ++ last_syncs s) (settle_calls size end count) whole
          (then_stops old two new m0 m2 m3 (λ s. syncs s ++ clears s) (λ _. sync_calls size items) last_syncs both third agrees)
