-- What is read in pages that hold nothing but words of a log, where no torn record passes: a front of the order's records, of which each byte is the log's.
use Rattle.std.proofs.Common.{◌≡◌, ◌⊎◌, ℕ, suc, ◌+◌, ◌^◌, ◌<◌, ◌≤◌, List, [], ◌∷◌, ◌++◌, length, take, Some, None, Ok, inl, inr, refl, sym, ap, subst, ◌∙◌, append-nil, append_assoc, arith}
use Rattle.std.specs.Prelude.{slice_get}
use Rattle.std.proofs.Math.Seq.{get_or-append_seam, take-append_seam}
use Rattle.std.proofs.lemmas.Bool.{cases_lt}
use Rattle.std.proofs.lemmas.List.{length-append}
use Rattle.std.proofs.lemmas.Option.{slice_get-get_or}
use Rattle.byte_position.specs.Geometry.{IsSegmentSize}
use Rattle.byte_position.specs.Position.{address_of, end_address_of, position_of}
use Rattle.byte_position.proofs.EndAddresses.{end_address_of-le, le-position_of}
use Rattle.wal_spelling.specs.Spelling.{size_of}
use Rattle.wal_page.specs.Order.{Entry, IsChained, rooms_of, end_position, prev_of, room_at}
use Rattle.wal_page.proofs.OrderLaws.{prev_of_push, room_at-pos, rooms_of-append, rooms_of_cons, rooms_of_push}
use Rattle.wal_reader.specs.declared.record_place.RecordPlace.{RecordPlace}
use Rattle.wal_reader.specs.declared.found.FoundRecord.{FoundRecord}
use Rattle.wal_reader.specs.declared.found.Answer.{Answer}
use Rattle.wal_reader.specs.Pages.{Pages}
use Rattle.wal_reader.specs.Decodes.{next_position, place_behind}
use Rattle.wal_reader.specs.ReadAt.{ReadsComputed, read_at}
use Rattle.written_log_laws.specs.Torn.{IsSeenTorn, IsTorn, NoTornPass}
use Rattle.written_log_laws.specs.Written.{found_entry, found_from}
use Rattle.written_log_laws.proofs.LawfulPages.{ArePagesOf}
use Rattle.written_log_laws.proofs.LawfulRecords.{entry_or_nothing, entry_start, entry_whole, no_record_behind}
use Rattle.written_log_laws.proofs.LogPositions.{address_of-below_end}
use Rattle.written_log_laws.proofs.FoundEntries.{IsOwn, entry_is_own}
use Rattle.written_log_laws.proofs.NextEntries.{next_of_entry}
use Rattle.written_log_laws.proofs.ReadRecord.{found_at}

-- records are a front of the entries behind others, and up to where the front ends each byte is the log's
pub record ReadsFront (size sysid : ℕ) (pages : Pages) (es front rest : List Entry) (found : List FoundRecord) : Type 0 where
  pub count : ℕ
  pub within : count ≤ length rest
  pub found_is : found ≡ found_from size (prev_of size 0 front) (take count rest)
  pub own : (a : ℕ) → end_address_of size (end_position size front) ≤ a → a < end_address_of size (end_position size (front ++ take count rest)) → IsOwn size sysid pages es a

-- so is an entry with a front of those behind it
with_first : (size sysid : ℕ) (pages : Pages) (es front others : List Entry) (e : Entry) (f : FoundRecord) (found : List FoundRecord) → prev_of size 0 (front ++ e ∷ []) ≡ address_of size e.start → f ≡ found_entry size (prev_of size 0 front) e
    → ((a : ℕ) → end_address_of size (end_position size front) ≤ a → a < end_address_of size (end_position size (front ++ e ∷ [])) → IsOwn size sysid pages es a)
    → ReadsFront size sysid pages es (front ++ e ∷ []) others found → ReadsFront size sysid pages es front (e ∷ others) (f ∷ found)
with_first size sysid pages es front others e f found at entry own behind =
    let prev = prev_of size 0 front in
    let more = take behind.count others in
    let whole : (front ++ e ∷ []) ++ more ≡ front ++ e ∷ more = append_assoc front (e ∷ []) more in
    record {
      count = suc behind.count;
      within = omega (arith, behind.within);
      found_is = ap (λ (g : FoundRecord). g ∷ found) entry ∙ ap (λ (gs : List FoundRecord). found_entry size prev e ∷ gs) (behind.found_is ∙ ap (λ (p : ℕ). found_from size p more) at);
      own = λ a from below. elim (cases_lt a (end_address_of size (end_position size (front ++ e ∷ [])))) [
        | inl inside ↦ own a from inside
        | inr above ↦ behind.own a above (subst (λ (l : List Entry). a < end_address_of size (end_position size l)) (sym whole) below)
      ];
    }

-- no record is a front
pub with_none : (size sysid : ℕ) (pages : Pages) (es front rest : List Entry) → ReadsFront size sysid pages es front rest []
with_none size sysid pages es front rest = record {
  count = 0;
  within = omega arith;
  found_is = refl;
  own = λ a from below. absurd (omega (arith, from, subst (λ (l : List Entry). a < end_address_of size (end_position size l)) (append-nil front) below));
}

module _ (size sysid : ℕ) (pages : Pages) (es : List Entry) (upto : ℕ) (valid : IsSegmentSize size) (chained : IsChained size es) (bounded : end_address_of size (end_position size es) ≤ 2 ^ 60) (are : ArePagesOf size sysid pages es upto) (no_torn : NoTornPass size pages es) where
  -- what is promised of each entry by its number, for an entry by its place
  entry_does_not_pass : (front others : List Entry) (e : Entry) → es ≡ front ++ e ∷ others → IsTorn size pages e (prev_of size 0 front) → IsSeenTorn size pages e (prev_of size 0 front)
  entry_does_not_pass front others e parts =
      let n = length front in
      let within : n < length (front ++ e ∷ others) = omega (arith, length-append front (e ∷ others)) in
      let got : slice_get es n ≡ Some e = ap (λ (l : List Entry). slice_get l n) parts ∙ slice_get-get_or (front ++ e ∷ others) n e within ∙ ap Some (get_or-append_seam front e others e) in
      let taken : take n es ≡ front = ap (take n) parts ∙ take-append_seam front (e ∷ others) in
      subst (λ (l : List Entry). IsTorn size pages e (prev_of size 0 l) → IsSeenTorn size pages e (prev_of size 0 l)) taken (no_torn n e got)

  lies_below : (a p next : ℕ) → a < end_address_of size p → p ≡ next → position_of size a < next
  lies_below a p next below same = elim (cases_lt (position_of size a) p) [
    | inl inside ↦ omega (arith, inside, same)
    | inr behind ↦ absurd (omega (arith, below, end_address_of-le size valid p a behind))
  ]

  -- records that are read from an entry's place on are a front of those that stand there
  pub records_are_front : (rest front : List Entry) → es ≡ front ++ rest → (place : RecordPlace) → place.position ≡ end_position size front → prev_of size 0 front < 2 ^ 64 → (place.prev ≡ Some (record { 0 = prev_of size 0 front })) ⊎ (front ≡ []) → (found : List FoundRecord) (answer : Answer)
      → ReadsComputed size pages None place found answer → ReadsFront size sysid pages es front rest found
  records_are_front rest front parts place at fits known [] answer reads = with_none size sysid pages es front rest
  records_are_front [] front parts place at fits known (f ∷ found) answer reads =
      let all : front ≡ es = sym (parts ∙ append-nil front) in
      absurd (no_record_behind size sysid pages es upto valid chained are place f (at ∙ ap (end_position size) all) reads.0)
  records_are_front (e ∷ others) front parts place at fits known (f ∷ found) answer reads =
      let start = entry_start size sysid pages es upto valid chained are front others e parts in
      let here = subst (λ (p : ℕ). read_at size pages None (record { position = p; prev = place.prev; timeline = place.timeline }) ≡ Ok f) (at ∙ sym start) reads.0 in
      let entry : f ≡ found_entry size (prev_of size 0 front) e = entry_or_nothing size sysid pages es upto valid chained are front others e parts place.prev place.timeline f fits known (entry_does_not_pass front others e parts) here in
      let whole = entry_whole size sysid pages es upto valid chained are front others e parts in
      let behind_it : next_position size place.position f.head.total f.value ≡ e.start + room_at size e.start e.value = ap (λ (g : FoundRecord). next_position size place.position g.head.total g.value) entry ∙ ap (λ (p : ℕ). next_position size p (size_of e.value) e.value) (at ∙ sym start) ∙ next_of_entry size valid e.start whole e.value in
      let pushed = prev_of_push size 0 front e in
      let within : e.start < end_position size es = omega (arith, start, ap (rooms_of size) parts, rooms_of-append size front (e ∷ others), rooms_of_cons size e others, room_at-pos size e) in
      let below = address_of-below_end size valid e.start (end_position size es) within in
      let now : es ≡ (front ++ e ∷ []) ++ others = parts ∙ sym (append_assoc front (e ∷ []) others) in
      let next : (place_behind size pages place f).position ≡ end_position size (front ++ e ∷ []) = omega (arith, behind_it, start, rooms_of_push size front e) in
      let known_next : Some f.head.start ≡ Some (record { 0 = prev_of size 0 (front ++ e ∷ []) }) = ap (λ (g : FoundRecord). Some g.head.start) entry ∙ ap (λ (a : ℕ). Some (record { 0 = a })) (sym pushed) in
      let own = λ (a : ℕ) (from : end_address_of size (end_position size front) ≤ a) (below : a < end_address_of size (end_position size (front ++ e ∷ []))).
      entry_is_own size sysid pages es upto valid chained are front others e parts place.prev place.timeline f fits known (found_at size pages (record { position = e.start; prev = place.prev; timeline = place.timeline }) f here) (entry_does_not_pass front others e parts) a
      (omega (arith, le-position_of size valid (end_position size front) a from, start)) (lies_below a (end_position size (front ++ e ∷ [])) (e.start + room_at size e.start e.value) below (omega (arith, start, rooms_of_push size front e))) in
      let behind = records_are_front others (front ++ e ∷ []) now (place_behind size pages place f) next (omega (arith, pushed, below)) (inl known_next) found answer reads.1 in
      with_first size sysid pages es front others e f found pushed entry own behind
