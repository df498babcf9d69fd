-- A commit's receipt tells its record durable.
use Rattle.std.proofs.Common.{◌≡◌, ◌⊎◌, ℕ, zero, suc, ◌+◌, ◌<◌, Contains, List, [], ◌∷◌, ◌++◌, length, Option, Some, None, inl, inr, refl, sym, ap, subst, ◌∙◌, arith}
use Rattle.std.specs.Prelude.{nat_le, option_to_list, slice_get, slice_index_or}
use Rattle.std.specs.List.{Any}
use Rattle.std.proofs.lemmas.Bool.{cases_Bool}
use Rattle.byte_position.specs.Position.{address_of, first_position, position_of}
use Rattle.wal_types.specs.declared.lsn.Lsn.{Lsn}
use Rattle.wal_types.specs.declared.record.Record.{Record}
use Rattle.wal_page.specs.Order.{Entry, finish_of}
use Rattle.wal_reader.specs.declared.found.FoundRecord.{FoundRecord}
use Rattle.written_log_laws.specs.Written.{found_entry, found_from}
use Rattle.run_script.specs.Asked.{Asked, AskedLine, Insert, Commit, Flush, CommitAsync, WriteBehind, Switch}
use Rattle.run_laws.specs.declared.told.Told.{Told}
use Rattle.run_laws.specs.declared.told.Told.TheVariants.{Hard}
use Rattle.run_laws.specs.Crash.{SaysDurable}
use Rattle.run_laws.specs.Told.{FitsLine, IsPlaced, Logged, TellsAll, TellsFrom, behind_or, entries_from, entries_of, entry_of, insert_by_start, order_from, sorted_by_start}
use Rattle.log_lives_laws.specs.Receipts.{ReceiptsTellDurable}

-- ---- entries of a list

abbrev Has : Entry → List Entry → Type 0
Has e [] = ⊥
Has e (f ∷ fs) = (f ≡ e) ⊎ Has e fs

has_front : (e : Entry) (es fs : List Entry) → Has e es → Has e (es ++ fs)
has_front e [] fs has = absurd has
has_front e (f ∷ es) fs (inl here) = inl here
has_front e (f ∷ es) fs (inr later) = inr (has_front e es fs later)

has_back : (e : Entry) (es fs : List Entry) → Has e fs → Has e (es ++ fs)
has_back e [] fs has = has
has_back e (f ∷ es) fs has = inr (has_back e es fs has)

has_inserted : (e : Entry) (es : List Entry) → Has e (insert_by_start e es)
has_inserted e [] = inl refl
has_inserted e (f ∷ es) = elim (cases_Bool (nat_le e.start f.start)) [
  | inl first ↦ rw first (inl refl)
  | inr later ↦ rw later (inr (has_inserted e es))
]

has_still : (e g : Entry) (es : List Entry) → Has e es → Has e (insert_by_start g es)
has_still e g [] has = absurd has
has_still e g (f ∷ es) has = elim (cases_Bool (nat_le g.start f.start)) [
  | inl first ↦ rw first (inr has)
  | inr later ↦ rw later (elim has [
    | inl here ↦ inl here
    | inr behind ↦ inr (has_still e g es behind)
  ])
]

has_sorted : (e : Entry) (es : List Entry) → Has e es → Has e (sorted_by_start es)
has_sorted e [] has = absurd has
has_sorted e (f ∷ es) (inl here) =
    subst (λ (g : Entry). Has e (insert_by_start g (sorted_by_start es))) (sym here)
    (has_inserted e (sorted_by_start es))
has_sorted e (f ∷ es) (inr later) =
    has_still e f (sorted_by_start es) (has_sorted e es later)

-- ---- its record

record RecordOf (size : ℕ) (e : Entry) (records : List FoundRecord) : Type 0 where
  pub value : FoundRecord
  pub among : Contains records value
  pub starts : value.head.start.0 ≡ address_of size e.start
  pub ends : value.head.end.0 ≡ finish_of size e

found_has : (size prev : ℕ) (e : Entry) (es : List Entry) → Has e es
    → RecordOf size e (found_from size prev es)
found_has size prev e [] has = absurd has
found_has size prev e (f ∷ es) (inl here) = record {
  value = found_entry size prev f;
  among = (0, omega arith, refl);
  starts = ap (λ (g : Entry). address_of size g.start) here;
  ends = ap (finish_of size) here;
}
found_has size prev e (f ∷ es) (inr later) =
    let r = found_has size (address_of size f.start) e es later in
    record {
      value = r.value;
      among = (suc (r.among).0, omega (arith, (r.among).1), (r.among).2);
      starts = r.starts;
      ends = r.ends;
    }

-- ---- lines

hard_fits : (logged : Logged) (pass behind at : ℕ) (start end : Lsn) (asked : Asked)
    → FitsLine logged pass behind asked (Hard start end at)
    → (value : Record) × (asked ≡ Commit value) × IsPlaced logged.size value start.0 end.0
hard_fits logged pass behind at start end (Insert value) fits = absurd fits
hard_fits logged pass behind at start end (Commit value) fits = (value, refl, fits)
hard_fits logged pass behind at start end Flush fits = absurd fits
hard_fits logged pass behind at start end (CommitAsync value) fits = absurd fits
hard_fits logged pass behind at start end WriteBehind fits = absurd fits
hard_fits logged pass behind at start end Switch fits = absurd fits

some_told_is : (one other : Told) → Some one ≡ Some other → one ≡ other
some_told_is one other same = cc

has_one : (o : Option Entry) (e : Entry) (rest : List Entry) → o ≡ Some e
    → Has e (option_to_list o ++ rest)
has_one None e rest is = absurd (cc is)
has_one (Some f) e rest is = inl (let same : f ≡ e = cc in same)

-- an entry that stands where a receipt says
record IsReceived (size : ℕ) (es : List Entry) (start end : Lsn) : Type 0 where
  pub entry : Entry
  pub among : Has entry es
  pub starts : address_of size entry.start ≡ start.0
  pub ends : finish_of size entry ≡ end.0

line_received : (logged : Logged) (pass behind at l : ℕ) (start end : Lsn)
    (lines : List AskedLine) (answers : List Told) → TellsFrom logged pass behind lines answers
    → slice_get answers l ≡ Some (Hard start end at)
    → IsReceived logged.size (entries_of logged.size pass lines answers) start end
line_received logged pass behind at l start end [] [] tells is = absurd (cc is)
line_received logged pass behind at l start end [] (t ∷ ts) tells is = absurd tells
line_received logged pass behind at l start end (line ∷ lines) [] tells is = absurd tells
line_received logged pass behind at zero start end (line ∷ lines) (t ∷ ts) tells is =
    let size = logged.size in
    let told = some_told_is t (Hard start end at) is in
    let fits = hard_fits logged pass behind at start end line.asked
    (subst (FitsLine logged pass behind line.asked) told tells.0) in
    let e : Entry =
    record { pass = Some pass; value = fits.0; start = position_of size start.0 } in
    let made : entry_of size pass line.asked t ≡ Some e =
    ap (λ (asked : Asked). entry_of size pass asked t) fits.1
    ∙ ap (λ (u : Told). entry_of size pass (Commit fits.0) u) told in
    record {
      entry = e;
      among = has_one (entry_of size pass line.asked t) e (entries_of size pass lines ts) made;
      starts = sym (fits.2).starts;
      ends = sym (fits.2).ends;
    }
line_received logged pass behind at (suc l) start end (line ∷ lines) (t ∷ ts) tells is =
    let own = entry_of logged.size pass line.asked t in
    let r = line_received logged pass (behind_or logged.size behind own) at l start end lines ts
    tells.1 is in
    record {
      entry = r.entry;
      among = has_back r.entry (option_to_list own) (entries_of logged.size pass lines ts) r.among;
      starts = r.starts;
      ends = r.ends;
    }

some_list_is : (one other : List Told) → Some one ≡ Some other → one ≡ other
some_list_is one other same = cc

all_received : (logged : Logged) (pass at b l : ℕ) (start end : Lsn)
    (script : List (List AskedLine)) (lists : List (List Told)) (answers : List Told)
    → TellsAll logged pass script lists → slice_get lists b ≡ Some answers
    → slice_get answers l ≡ Some (Hard start end at)
    → IsReceived logged.size (entries_from logged.size pass script lists) start end
all_received logged pass at b l start end [] [] answers tells here is = absurd (cc here)
all_received logged pass at b l start end [] (t ∷ ts) answers tells here is = absurd tells
all_received logged pass at b l start end (lines ∷ script) [] answers tells here is =
    absurd tells
all_received logged pass at zero l start end (lines ∷ script) (t ∷ ts) answers tells here is =
    let same = some_list_is t answers here in
    let r = line_received logged pass (first_position logged.size) at l start end lines t tells.0
    (ap (λ (told : List Told). slice_get told l) same ∙ is) in
    record {
      entry = r.entry;
      among = has_front r.entry (entries_of logged.size pass lines t)
          (entries_from logged.size (pass + 1) script ts) r.among;
      starts = r.starts;
      ends = r.ends;
    }
all_received logged pass at (suc b) l start end (lines ∷ script) (t ∷ ts) answers tells here is =
    let r = all_received logged (pass + 1) at b l start end script ts answers tells.1 here is in
    record {
      entry = r.entry;
      among = has_back r.entry (entries_of logged.size pass lines t)
          (entries_from logged.size (pass + 1) script ts) r.among;
      starts = r.starts;
      ends = r.ends;
    }

-- ---- what an answer says

at_index : {X : Type 0} (xs : List X) (k : ℕ) (x : X) → slice_get xs k ≡ Some x
    → (k < length xs) × (slice_index_or xs k x ≡ x)
at_index [] k x is = absurd (cc is)
at_index (y ∷ xs) zero x is = (omega arith, let same : y ≡ x = cc in same)
at_index (y ∷ xs) (suc k) x is =
    let there = at_index xs k x is in (omega (arith, there.0), there.1)

any_of : {X : Type 0} (P : X → Type 0) (xs : List X) (k : ℕ) (x : X) → slice_get xs k ≡ Some x
    → P x → Any P xs
any_of P xs k x is holds = let there = at_index xs k x is in (k, x, there.0, there.1, holds)

pub receipts_tell_durable : ReceiptsTellDurable
receipts_tell_durable logged pass moment at b l script lists found answers start end tells here is
    low =
    let size = logged.size in
    let e = all_received logged pass at b l start end script lists answers tells here is in
    let order = order_from size pass script lists in
    let r = found_has size 0 e.entry (found ++ order) (has_back e.entry found order
    (has_sorted e.entry (entries_from size pass script lists) e.among)) in
    let ends : r.value.head.end.0 ≡ end.0 = r.ends ∙ e.ends in
    let says : SaysDurable moment r.value.head.end.0 (Hard start end at) =
    (low, omega (arith, ends)) in (
      r.value,
      r.starts ∙ e.starts,
      ends,
      (
        r.among,
        any_of (Any (SaysDurable moment r.value.head.end.0)) lists b answers here
            (any_of (SaysDurable moment r.value.head.end.0) answers l (Hard start end at) is says),
      ),
    )
