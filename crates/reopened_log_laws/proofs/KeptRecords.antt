-- Records that are sure of a log: they are read of its disk, and are records of each longer order.
use Rattle.std.proofs.Common.{◌≡◌, ℕ, zero, suc, ◌<◌, ◌≤◌, Contains, List, [], ◌∷◌, ◌++◌, length, take, Some, refl, sym, ap, subst, ◌∙◌, arith}
use Rattle.std.specs.Prelude.{slice_get, slice_index_or}
use Rattle.byte_position.specs.Geometry.{IsSegmentSize}
use Rattle.byte_position.specs.Position.{address_of, end_address_of, first_position}
use Rattle.byte_position.proofs.EndAddresses.{end_address_of-mono}
use Rattle.segment_disk.specs.Tape.{DiskState, Tape, state_now}
use Rattle.wal_page.specs.Order.{Entry, FollowsFrom, finish_of, position_behind}
use Rattle.wal_reader.specs.declared.found.FoundRecord.{FoundRecord}
use Rattle.written_log_laws.specs.FoundLog.{end_behind}
use Rattle.written_log_laws.specs.LawfulLog.{IsFrontUpto}
use Rattle.written_log_laws.specs.Written.{found_from, found_of}
use Rattle.run_laws.proofs.FrontLengths.{take-found_from}
use Rattle.reopened_log_laws.specs.Sure.{IsSureUpto}
use Rattle.reopened_log_laws.specs.WasLeft.{WasLeft}
use Rattle.reopened_log_laws.proofs.SureDisks.{sure_entries_are_read}

-- ---- lists

-- an element among the first ones is one of these
in_front : {X : Type 0} (xs : List X) (n k : ℕ) (x : X) → k < n → k < length xs
    → slice_index_or xs k x ≡ x → Contains (take n xs) x
in_front [] n k x low within is = absurd (omega (arith, within))
in_front (y ∷ xs) zero k x low within is = absurd (omega (arith, low))
in_front (y ∷ xs) (suc n) zero x low within is = (0, omega arith, is)
in_front (y ∷ xs) (suc n) (suc k) x low within is =
    let c = in_front xs n k x (omega (arith, low)) (omega (arith, within)) is in
    (suc c.0, omega (arith, c.1), c.2)

-- ---- records of entries

-- a record that is found of entries is one of them, and ends where that does
entry_of : (size prev : ℕ) (es : List Entry) (k : ℕ) (r : FoundRecord)
    → k < length (found_from size prev es) → slice_index_or (found_from size prev es) k r ≡ r
    → (e : Entry) × (slice_get es k ≡ Some e) × (finish_of size e ≡ r.head.end.0)
entry_of size prev [] k r low is = absurd (omega (arith, low))
entry_of size prev (e ∷ es) zero r low is = (e, refl, ap (λ (f : FoundRecord). f.head.end.0) is)
entry_of size prev (e ∷ es) (suc k) r low is =
    entry_of size (address_of size e.start) es k r (omega (arith, low)) is

-- it is found of more entries too that begin with these
found_longer : (size prev : ℕ) (es more : List Entry) (k : ℕ) (r : FoundRecord)
    → k < length (found_from size prev es) → slice_index_or (found_from size prev es) k r ≡ r
    → Contains (found_from size prev (es ++ more)) r
found_longer size prev [] more k r low is = absurd (omega (arith, low))
found_longer size prev (e ∷ es) more zero r low is = (0, omega arith, is)
found_longer size prev (e ∷ es) more (suc k) r low is =
    let c = found_longer size (address_of size e.start) es more k r (omega (arith, low)) is in
    (suc c.0, omega (arith, c.1), c.2)

pub contains_longer : (size : ℕ) (es more : List Entry) (r : FoundRecord)
    → Contains (found_of size es) r → Contains (found_of size (es ++ more)) r
contains_longer size es more r c = found_longer size 0 es more c.0 r c.1 c.2

-- entries that follow each other end no earlier than they begin
rising : (size : ℕ) → IsSegmentSize size → (prev position end : ℕ) (es : List Entry)
    → FollowsFrom size position es → end_address_of size position ≡ end
    → end ≤ end_behind end (found_from size prev es)
rising size valid prev position end [] follows is = omega arith
rising size valid prev position end (e ∷ es) follows is =
    let behind = rising size valid (address_of size e.start) (position_behind size e)
    (finish_of size e) es follows.2 refl in
    let more = end_address_of-mono size valid position (position_behind size e)
    (omega (arith, follows.0)) in
    omega (arith, behind, more, is)

-- each of them ends no later than all
ends_low : (size : ℕ) → IsSegmentSize size → (prev position end : ℕ) (es : List Entry)
    → FollowsFrom size position es → (k : ℕ) (r : FoundRecord)
    → k < length (found_from size prev es) → slice_index_or (found_from size prev es) k r ≡ r
    → r.head.end.0 ≤ end_behind end (found_from size prev es)
ends_low size valid prev position end [] follows k r low is = absurd (omega (arith, low))
ends_low size valid prev position end (e ∷ es) follows zero r low is =
    let same : finish_of size e ≡ r.head.end.0 = ap (λ (f : FoundRecord). f.head.end.0) is in
    omega (
      arith,
      same,
      rising size valid (address_of size e.start) (position_behind size e) (finish_of size e) es
          follows.2 refl,
    )
ends_low size valid prev position end (e ∷ es) follows (suc k) r low is =
    ends_low size valid (address_of size e.start) (position_behind size e) (finish_of size e) es
    follows.2 k r (omega (arith, low)) is

-- a front of entries that follow each other
follows_front : (size position n : ℕ) (es : List Entry) → FollowsFrom size position es
    → FollowsFrom size position (take n es)
follows_front size position zero es follows = tt
follows_front size position (suc n) [] follows = tt
follows_front size position (suc n) (e ∷ es) follows =
    (follows.0, follows.1, follows_front size (position_behind size e) n es follows.2)

-- ---- records that are sure

-- a record of the order, below whose end the disk is sure
abbrev pub IsSureRecord : (size sysid : ℕ) → List Entry → DiskState → FoundRecord → Type 0
IsSureRecord size sysid order state r =
    Contains (found_of size order) r × IsSureUpto size sysid order r.head.end.0 state

-- records that have each entry up to where one ends have that one
pub front_has : (size : ℕ) (order : List Entry) (records : List FoundRecord) (r : FoundRecord)
    → Contains (found_of size order) r → IsFrontUpto size order r.head.end.0 records
    → Contains records r
front_has size order records r c front =
    let e = entry_of size 0 order c.0 r c.1 c.2 in
    let among : c.0 < front.count = front.holds c.0 e.0 e.1 (omega (arith, e.2)) in
    subst (λ (l : List FoundRecord). Contains l r)
    (take-found_from front.count size 0 order ∙ sym front.found_is)
    (in_front (found_of size order) front.count c.0 r among c.1 c.2)

module _ (size sysid : ℕ) (t : Tape) (found : List FoundRecord) (left : WasLeft size sysid t found)
    (r : FoundRecord) (kept : IsSureRecord size sysid left.order (state_now t) r) where
  front : IsFrontUpto size left.order r.head.end.0 found
  front = (sure_entries_are_read size sysid r.head.end.0 t found left kept.1).0

  -- it is read
  pub kept_found : Contains found r
  kept_found = front_has size left.order found r kept.0 front

  -- and ends no later than what is read
  pub kept_low : r.head.end.0 ≤ end_behind size found
  kept_low =
      let m = left.has_found.may in
      let c = subst (λ (l : List FoundRecord). Contains l r) front.found_is kept_found in
      let follows = follows_front size (first_position size) front.count left.order m.chained
      in
      subst (λ (l : List FoundRecord). r.head.end.0 ≤ end_behind size l) (sym front.found_is)
      (ends_low size m.valid 0 (first_position size) size (take front.count left.order) follows c.0
      r c.1 c.2)
