-- A filter that asks for nothing lists everything.
use Rattle.std.proofs.Common.{◌≡◌, Bool, true, false, cond, List, [], ◌∷◌, filter, nat_le, refl, ap, sym, ◌∙◌}
use Rattle.wal_types.specs.declared.lsn.Lsn.{Lsn}
use Rattle.wal_reader.specs.declared.found.FoundRecord.{FoundRecord}
use Rattle.waldump_filter.specs.Keeping.{everything_from, keeps}
use Rattle.waldump_filter.proofs.KeepingLaws.{everything_from-keeps}
use Rattle.waldump_text.specs.Everything.{EverythingIsListed}
use Rattle.waldump_text.specs.Listing.{kept_by, line_texts, listed_of}

filter_first : (p : FoundRecord → Bool) (f : FoundRecord) (fs : List FoundRecord) (passes : Bool) → p f ≡ passes → filter p fs ≡ fs → filter p (cond passes (f ∷ fs) fs) ≡ cond passes (f ∷ fs) fs
filter_first p f fs true is same = rw is (ap (λ (gs : List FoundRecord). f ∷ gs) same)
filter_first p f fs false is same = same

-- what passed a test passes it again
filter_again : (p q : FoundRecord → Bool) → ((f : FoundRecord) → p f ≡ q f) → (fs : List FoundRecord) → filter p (filter q fs) ≡ filter q fs
filter_again p q same [] = refl
filter_again p q same (f ∷ fs) = filter_first p f (filter q fs) (q f) (same f) (filter_again p q same fs)

kept_of_given : (start : Lsn) (read : List FoundRecord) → kept_by (everything_from start) (filter (λ f. nat_le start.0 f.head.start.0) read) ≡ filter (λ f. nat_le start.0 f.head.start.0) read
kept_of_given start read = filter_again (λ f. keeps (everything_from start) (listed_of f)) (λ f. nat_le start.0 f.head.start.0) (λ f. everything_from-keeps start (listed_of f)) read

pub everything_is_listed : EverythingIsListed
everything_is_listed size pages start end found answer decodes =
    let kept : kept_by (everything_from start) found ≡ found = ap (kept_by (everything_from start)) decodes.given ∙ kept_of_given start decodes.read ∙ sym decodes.given in
    record { listed = kept; printed = ap (line_texts false) kept; unlimited = λ none. none }
