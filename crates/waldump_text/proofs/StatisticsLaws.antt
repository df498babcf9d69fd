-- The lines of managers, one after another.
use Rattle.std.proofs.Common.{◌≡◌, ℕ, zero, suc, ◌+◌, ◌-◌, ◌<◌, ◌≤◌, List, [], ◌++◌, refl, ap, ◌∙◌, append_assoc, arith}
use Rattle.waldump_filter.specs.declared.listed.Listed.{Listed}
use Rattle.waldump_text.specs.Statistics.{manager_line, manager_lines, stats_text, total_line}
use Rattle.waldump_text.specs.Sums.{of_manager, sums_of}
use Rattle.waldump_text.specs.Tally.{Tallies, own_sums, tally_text}
use Rattle.waldump_text.specs.declared.sums.Sums.{Sums}
use Rattle.waldump_text.specs.declared.sums.Tally.{Tally}

next-of_managers : (own : ℕ → Sums) (rmid left : ℕ) → left ≡ suc (256 - (rmid + 1)) → manager_lines own left rmid ≡ manager_line rmid (own rmid) ++ manager_lines own (256 - (rmid + 1)) (rmid + 1)
unfolding manager_lines
next-of_managers own rmid left is = rw is refl

-- the first of the lines to come is that of the next manager
pub rest-of_managers : (own : ℕ → Sums) (all : Sums) (rmid : ℕ) → rmid < 256
    → manager_lines own (256 - rmid) rmid ++ total_line all ≡ manager_line rmid (own rmid) ++ (manager_lines own (256 - (rmid + 1)) (rmid + 1) ++ total_line all)
rest-of_managers own all rmid more =
    ap (λ (text : List ℕ). text ++ total_line all) (next-of_managers own rmid (256 - rmid) (omega arith))
    ∙ append_assoc (manager_line rmid (own rmid)) (manager_lines own (256 - (rmid + 1)) (rmid + 1)) (total_line all)

none-of_managers : (own : ℕ → Sums) (rmid left : ℕ) → left ≡ 0 → manager_lines own left rmid ≡ []
unfolding manager_lines
none-of_managers own rmid left is = rw is refl

-- behind the last manager comes the line of all records
pub rest-of_total : (own : ℕ → Sums) (all : Sums) (rmid : ℕ) → 256 ≤ rmid → manager_lines own (256 - rmid) rmid ++ total_line all ≡ total_line all
rest-of_total own all rmid done = ap (λ (text : List ℕ). text ++ total_line all) (none-of_managers own rmid (256 - rmid) (omega arith))

same-of_managers : (own other : ℕ → Sums) → ((rmid : ℕ) → rmid < 256 → own rmid ≡ other rmid) → (count rmid : ℕ) → count + rmid ≤ 256 → manager_lines own count rmid ≡ manager_lines other count rmid
unfolding manager_lines
same-of_managers own other same zero rmid within = refl
same-of_managers own other same (suc count) rmid within =
    ap (λ (sums : Sums). manager_line rmid sums ++ manager_lines own count (rmid + 1)) (same rmid (omega arith))
    ∙ ap (λ (text : List ℕ). manager_line rmid (other rmid) ++ text) (same-of_managers own other same count (rmid + 1) (omega arith))

-- a tally's lines are the statistics of the records that it tallies
pub tally_text-is_stats : (tally : Tally) (records : List Listed) → Tallies tally records → tally_text tally ≡ stats_text records
tally_text-is_stats tally records tallies =
    let own : ℕ → Sums = λ rmid. sums_of (of_manager rmid records) in
    ap (λ (text : List ℕ). text ++ total_line tally.all) (same-of_managers (own_sums tally) own tallies.own 256 0 (omega arith))
    ∙ ap (λ (all : Sums). manager_lines own 256 0 ++ total_line all) tallies.all
