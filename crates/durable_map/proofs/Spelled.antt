-- Which record says which change.
use Rattle.std.proofs.Common.{◌≡◌, ℕ, ◌<◌, ◌≤◌, List, [], length, Option, Some, None, Bool, true, false, cond, refl, sym, ap, ◌∙◌, arith}
use Rattle.std.specs.Prelude.{IfSome, nat_lt, ◌==◌}
use Rattle.std.proofs.lemmas.Bool.{le-ltb}
use Rattle.std.proofs.lemmas.List.{length-append}
use Rattle.wal_types.specs.declared.record.Record.{Record}
use Rattle.wal_spelling.specs.Refusal.{RefusesToAssemble, refusal_of}
use Rattle.wal_spelling.specs.Spelling.{main_header, size_of}
use Rattle.wal_spelling.specs.declared.fault.BodyErr.{BodyErr}
use Rattle.wal_spelling.specs.declared.fault.BodyErr.TheVariants.{Memory, TooLong, BadBlock, Switch, BadRmgr}
use Rattle.durable_map.specs.Changes.{MapChange}
use Rattle.durable_map.specs.Reading.{IsNoSet, IsSet, SaysNoChange}
use Rattle.durable_map.proofs.Mains.{same_set}
use Rattle.durable_map.specs.Records.{IsLoggable, IsShort, SaysChange, change_info, change_main, managed_record, change_record, set_main}

-- ---- it is not refused

header_short : (none short : Bool) (len : ℕ)
    → length (cond none [] (main_header short len)) ≤ 5
header_short true short len = omega arith
header_short false true len = omega arith
header_short false false len = omega arith

size_short : (info : ℕ) (main : List ℕ) → length main ≤ 131076
    → size_of (managed_record info main) ≤ 1048576
size_short info main short =
    let header = header_short (length main == 0) (nat_lt (length main) 256) (length main) in
    omega (arith, header, length-append {A = ℕ})

pub not_refused : (info : ℕ) (main : List ℕ) → length main ≤ 131076
    → refusal_of (managed_record info main) ≡ None
unfolding refusal_of
not_refused info main short =
    rw (le-ltb 1048576 (size_of (managed_record info main)) (size_short info main short)) refl

refusal_is_not : (e : BodyErr) → None ≡ Some e → ⊥
refusal_is_not e is = cc

-- so nothing but memory is told
pub memory_alone : (e : BodyErr) (info : ℕ) (main : List ℕ) → length main ≤ 131076
    → RefusesToAssemble e (managed_record info main) → e ≡ Memory
memory_alone Memory info main short refuses = refl
memory_alone (TooLong len) info main short refuses =
    absurd (refusal_is_not (TooLong len) (sym (not_refused info main short) ∙ refuses))
memory_alone (BadBlock index) info main short refuses =
    absurd (refusal_is_not (BadBlock index) (sym (not_refused info main short) ∙ refuses))
memory_alone Switch info main short refuses =
    absurd (refusal_is_not Switch (sym (not_refused info main short) ∙ refuses))
memory_alone (BadRmgr rmid) info main short refuses =
    absurd (refusal_is_not (BadRmgr rmid) (sym (not_refused info main short) ∙ refuses))

-- ---- a record that says a change is a plain one

pub plain_again : (value : Record) (info : ℕ) (main : List ℕ) → value ≡ managed_record info main
    → value ≡ managed_record value.info value.main
plain_again value info main is =
    is ∙ sym (ap (λ (r : Record). managed_record r.info r.main) is)

-- ---- which change it says

pub says_set : (main key value : List ℕ) → IsSet main key value
    → SaysChange (managed_record 0 main) (record { key = key; value = Some value })
says_set main key value set = record {
  is_of = ap (managed_record 0) set.is_of;
  loggable = record { key = set.key_short; value = set.value_short };
}

pub says_del : (main : List ℕ) → IsShort main
    → SaysChange (managed_record 16 main) (record { key = main; value = None })
says_del main short = record { is_of = refl; loggable = record { key = short; value = tt } }

no_set_at : (main key : List ℕ) (value : Option (List ℕ)) → IsNoSet main
    → managed_record 0 main ≡ managed_record (change_info value) (change_main key value) → IsShort key
    → IfSome value IsShort → ⊥
no_set_at main key (Some v) none is short value_short = none key v (record {
  is_of = ap (λ (r : Record). r.main) is;
  key_short = short;
  value_short = value_short;
})
no_set_at main key None none is short value_short =
    let info : 0 ≡ 16 = ap (λ (r : Record). r.info) is in omega (arith, info)

pub no_set : (main : List ℕ) → IsNoSet main → SaysNoChange (managed_record 0 main)
no_set main none change says =
    no_set_at main change.key change.value none says.is_of says.loggable.key says.loggable.value

no_del_at : (main key : List ℕ) (value : Option (List ℕ)) → 65536 < length main
    → managed_record 16 main ≡ managed_record (change_info value) (change_main key value) → IsShort key → ⊥
no_del_at main key (Some v) long is short =
    let info : 16 ≡ 0 = ap (λ (r : Record). r.info) is in omega (arith, info)
no_del_at main key None long is short =
    let same : main ≡ key = ap (λ (r : Record). r.main) is in
    omega (arith, long, short, ap (λ (bytes : List ℕ). length bytes) same)

pub no_del : (main : List ℕ) → 65536 < length main → SaysNoChange (managed_record 16 main)
no_del main long change says =
    no_del_at main change.key change.value long says.is_of says.loggable.key

no_info : (value : Option (List ℕ)) (info : ℕ) → (info ≡ 0 → ⊥) → (info ≡ 16 → ⊥)
    → info ≡ change_info value → ⊥
no_info (Some v) info no_set no_del is = no_set is
no_info None info no_set no_del is = no_del is

-- a record of another info says none
pub no_other : (value : Record) → (value.info ≡ 0 → ⊥) → (value.info ≡ 16 → ⊥) → SaysNoChange value
no_other value no_set no_del change says =
    no_info change.value value.info no_set no_del (ap (λ (r : Record). r.info) says.is_of)

-- ---- it says one change

info_differs : (value rest : Record) → value ≡ rest → value.info ≡ 0 → rest.info ≡ 16 → ⊥
info_differs value rest same first second =
    omega (arith, ap (λ (r : Record). r.info) same, first, second)

same_parts : (key other : List ℕ) (value rest : Option (List ℕ)) → IsShort key → IsShort other
    → managed_record (change_info value) (change_main key value) ≡ managed_record (change_info rest) (change_main other rest)
    → (key ≡ other) × (value ≡ rest)
same_parts key other (Some v) (Some w) short other_short same =
    let parts = same_set key other v w (omega (arith, short)) (omega (arith, other_short))
    (ap (λ (r : Record). r.main) same) in (parts.0, ap Some parts.1)
same_parts key other (Some v) None short other_short same =
    absurd (info_differs (managed_record 0 (set_main key v)) (managed_record 16 other) same refl refl)
same_parts key other None (Some w) short other_short same =
    absurd (info_differs (managed_record 0 (set_main other w)) (managed_record 16 key) (sym same) refl refl)
same_parts key other None None short other_short same =
    (ap (λ (r : Record). r.main) same, refl)

pub same_change : (value : Record) (one other : MapChange) → SaysChange value one → SaysChange value other
    → one ≡ other
same_change value one other first second =
    let parts = same_parts one.key other.key one.value other.value first.loggable.key
    second.loggable.key (sym first.is_of ∙ second.is_of) in
    λ i. record { key = parts.0 i; value = parts.1 i }

pub own_record : (change : MapChange) → IsLoggable change → SaysChange (change_record change) change
own_record change loggable = record { is_of = refl; loggable = loggable }
