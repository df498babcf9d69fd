-- What a pass knows of its company by the places of its own records.
use Rattle.std.specs.Prelude.{◌≡◌, ℕ, ◌+◌, ◌-◌, ◌/◌, ◌%◌, ◌^◌, min, Bool, false, not, ◌&&◌, ◌||◌, ◌==◌, nat_le, nat_lt, if◌then◌else◌, Option, Some, None}
use Rattle.wal_types.specs.declared.lsn.Lsn.{Lsn}
use Rattle.wal_rule.specs.declared.company.Company.{Company}

-- whether nobody's record stands between one that ends there and one that starts there: it starts
-- at that end; or, where the end is a page's start, behind that page's header, which is of 40 bytes
-- at most. A record takes up 24 bytes at least, so one between them would let it start later
abbrev pub follows : (end start : ℕ) → Bool
follows end start = (start == end)
    || ((end % 8192 == 0) && ((start / 8192 == end / 8192) && nat_le (start % 8192) 40))

-- whether a record that starts there follows a pass's last one, if it has one
abbrev pub follows_last : Option Lsn → (start : ℕ) → Bool
follows_last None start = false
follows_last (Some end) start = follows end.0 start

-- whether another's record stands between a pass's last one, if it has one, and that start
abbrev pub has_others_between : Option Lsn → (start : ℕ) → Bool
has_others_between None start = false
has_others_between (Some end) start = not (follows end.0 start)

-- whether a pass has met another's record between two of its own
abbrev pub has_met_others : Company → Bool
has_met_others company = company.has_met

-- it has met none
abbrev pub IsAlone : Company → Type 0
IsAlone company = has_met_others company ≡ false

-- whether a pass has met others, and fewer than two of its records up to the last one follow each
-- the one before
abbrev pub has_met_lately : Company → Bool
has_met_lately company = has_met_others company && nat_lt company.in_a_row 2

-- where the next record stands was noted. The pass has met others from the first one on that stands
-- between two of its own. Of records in a row no more than 2^32 - 1 are counted
pub record HasNoted (start : ℕ) (end : Lsn) (old new : Company) : Type 0 where
  pub met : has_met_others new ≡ (has_met_others old || has_others_between old.last_end start)
  pub row : new.in_a_row ≡ (if follows_last old.last_end start
      then min (old.in_a_row + 1) (2 ^ 32 - 1) else 0)
  pub last : new.last_end ≡ Some end
