-- The record that the log took for a change says it.
use Rattle.std.proofs.Common.{◌≡◌, ℕ, ◌<◌, ◌≤◌, All, List, ◌++◌, length, get_or, Option, Some, None, subst, arith}
use Rattle.std.specs.Prelude.{IfSome}
use Rattle.std.proofs.lemmas.List.{length-append}
use Rattle.std.proofs.lemmas.List.Elements.{All-contains, All-nil, Contains-append_right, Contains-get_or}
use Rattle.wal_types.specs.declared.record.Record.{Record}
use Rattle.wal_spelling.specs.Record.{BlockFits, Fits}
use Rattle.wal_spelling.specs.Spelling.{Assembled, IsLogRecord, IsWritable, after_header, assembled, inserted}
use Rattle.wal_spelling.proofs.Acceptance.{refused_or_writable}
use Rattle.wal_spelling.proofs.SpellingLaws.{ready}
use Rattle.wal_record.proofs.SpellingReads.{one_record}
use Rattle.durable_map.specs.Changes.{MapChange}
use Rattle.durable_map.specs.Records.{IsLoggable, IsShort, SaysChange, change_info, change_main, change_record, managed_record}
use Rattle.durable_map.proofs.Spelled.{not_refused}

all_behind : (P : ℕ → Type 0) (front back : List ℕ) → All P (front ++ back) → All P back
all_behind P front back holds = λ k d within.
    All-contains P (front ++ back) (get_or back k d) holds
    (Contains-append_right front back (get_or back k d) (Contains-get_or back k d within))

-- ---- a change can be inserted

main_short : (key : List ℕ) (value : Option (List ℕ)) → IsShort key → IfSome value IsShort
    → length (change_main key value) ≤ 131076
main_short key (Some v) short value_short =
    omega (arith, short, value_short, length-append {A = ℕ})
main_short key None short value_short = omega (arith, short)

info_low : (value : Option (List ℕ)) → change_info value < 256
info_low (Some v) = omega arith
info_low None = omega arith

writable : (info : ℕ) (main : List ℕ) → info < 256 → length main ≤ 131076
    → All (λ b. b < 256) (after_header (managed_record info main))
    → IsWritable (managed_record info main)
writable info main low short bytes =
    let fits : Fits (managed_record info main) = record {
      xid = omega arith;
      manager = omega arith;
      info = low;
      origin = tt;
      top_xid = tt;
      blocks = All-nil BlockFits;
      main = all_behind (λ b. b < 256) _ main bytes;
    } in
    (refused_or_writable (managed_record info main) fits).0 (not_refused info main short)

-- ---- so its body is that of its record alone

pub says_own : (value : Record) (change : MapChange) → IsLogRecord value → IsLoggable change
    → assembled value ≡ assembled (change_record change) → SaysChange value change
says_own value change logged loggable same =
    let fits = ready value logged in
    let bytes = subst (λ (a : Assembled). All (λ b. b < 256) a.after_header) same fits.bytes in
    record {
      is_of = one_record value (change_record change) logged (inserted (writable
          (change_info change.value) (change_main change.key change.value)
          (info_low change.value)
          (main_short change.key change.value loggable.key loggable.value) bytes)) same;
      loggable = loggable;
    }
