-- A reader whose records are counted and not printed.
use Rattle.std.proofs.Common.{◌≡◌, ℕ, ◌+◌, Bool, true, false, nat_le, if◌then◌else◌, List, [], Option, refl, sym, ap, ◌∙◌, inl, inr, arith}
use Rattle.std.proofs.lemmas.Bool.{cases_Bool}
use Rattle.segment_disk.specs.Stream.{with_behind}
use Rattle.wal_reader.specs.declared.found.FoundRecord.{FoundRecord}
use Rattle.waldump_filter.specs.declared.Filter.{Filter}
use Rattle.waldump_filter.specs.declared.listed.Listed.{Listed}
use Rattle.waldump_filter.specs.Keeping.{is_reached, keeps}
use Rattle.waldump_text.specs.Listing.{line_text, listed_of}
use Rattle.waldump_text.proofs.ListingLaws.{IsWithin, Prints, Prints-kept, Prints-passed_over}
use Rattle.waldump_text.proofs.SinkLaws.{with_behind-nil}

-- one for a record from an address on
abbrev pub one_from : ℕ → Listed → ℕ
one_from start r = if nat_le start r.start.0 then 1 else 0

quiet_line : (quiet : Bool) (line : List ℕ) → quiet ≡ true → [] ≡ (if quiet then [] else line)
quiet_line quiet line is = rw is refl

one_if : (within : Bool) → within ≡ true → ◌≡◌ {A = ℕ} (if within then 1 else 0) 1
one_if within is = rw is refl

none_if : (within : Bool) → within ≡ false → ◌≡◌ {A = ℕ} (if within then 1 else 0) 0
none_if within is = rw is refl

-- by a filter that prints nothing and keeps what starts at its start or behind it, a record is
-- counted just so
pub Prints-counted : (by : Filter) (f : FoundRecord) (taken : Option (List ℕ)) (count more : ℕ) → by.quiet ≡ true → keeps by (listed_of f) ≡ nat_le by.start.0 f.head.start.0 → more ≡ one_from by.start.0 (listed_of f) → is_reached by.limit count ≡ false → IsWithin by.limit count → Prints by f taken taken count (count + more)
Prints-counted by f taken count more quiet same more_is unreached within = elim (cases_Bool (keeps by (listed_of f))) [
  | inl keeps_it ↦ Prints-kept by f taken taken count (count + more) keeps_it (sym (with_behind-nil taken) ∙ ap (with_behind taken) (quiet_line by.quiet (line_text by.times (listed_of f)) quiet)) (ap (λ (n : ℕ). count + n) (more_is ∙ one_if _ (sym same ∙ keeps_it))) unreached
  | inr passes ↦ Prints-passed_over by f taken taken count (count + more) passes refl (ap (λ (n : ℕ). count + n) (more_is ∙ none_if _ (sym same ∙ passes)) ∙ omega arith) within
]
