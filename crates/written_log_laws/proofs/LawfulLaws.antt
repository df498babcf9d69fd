-- Images that hold nothing but words of a log decode to a front of its order.
use Rattle.std.proofs.Common.{◌≡◌, ℕ, suc, ◌+◌, ◌*◌, ◌/◌, ◌%◌, ◌^◌, ◌<◌, ◌≤◌, List, [], ◌∷◌, ◌++◌, length, take, drop, Option, Some, None, Result, Ok, Err, inl, inr, refl, sym, ap, subst, ◌∙◌, append-nil, append_assoc, add-zero, arith}
use Rattle.std.specs.Prelude.{IfSome, nat_le, slice_get}
use Rattle.std.specs.List.{filter}
use Rattle.std.proofs.lemmas.Bool.{cases_lt}
use Rattle.std.proofs.lemmas.List.{drop_more, length-append, length-take-le, take-append-drop}
use Rattle.std.proofs.lemmas.Option.{get_or_from_slice_get, slice_get_within}
use Rattle.byte_position.specs.Geometry.{IsSegmentSize}
use Rattle.byte_position.specs.Position.{address_of, end_address_of, first_position}
use Rattle.byte_position.proofs.EndAddresses.{end_address_of-mono}
use Rattle.wal_spelling.specs.Spelling.{assembled}
use Rattle.wal_page.specs.Order.{Entry, IsChained, end_position, finish_of, room_at, rooms_of}
use Rattle.wal_page.specs.Log.{log_byte}
use Rattle.wal_page.specs.Placed.{Owns}
use Rattle.wal_page.proofs.LogByteLaws.{log_byte-behind, log_byte_push}
use Rattle.wal_page.proofs.OrderLaws.{FollowsFrom-parts, rooms_of-append, rooms_of_push}
use Rattle.wal_page.proofs.OwnerLaws.{Owns-between}
use Rattle.wal_reader.specs.declared.record_place.RecordPlace.{RecordPlace}
use Rattle.wal_reader.specs.declared.found.Answer.{Answer}
use Rattle.wal_reader.specs.declared.found.FoundRecord.{FoundRecord}
use Rattle.wal_reader.specs.Pages.{Pages, byte_at, pages_in}
use Rattle.wal_reader.specs.Decodes.{Decodes, ReadsFrom, beginning}
use Rattle.wal_reader.proofs.ReadAtLaws.{records_computed}
use Rattle.written_log_laws.specs.Torn.{NoTornPass}
use Rattle.written_log_laws.specs.Written.{found_from, found_of}
use Rattle.written_log_laws.specs.WrittenLog.{BeginsAsLogPage, HavePagesOfLog}
use Rattle.written_log_laws.specs.LawfulLog.{IsFrontUpto, LawfulImagesDecodeToFronts, WholeLawfulImagesDecode}
use Rattle.written_log_laws.proofs.LawfulBeginning.{begins_first}
use Rattle.written_log_laws.proofs.LawfulFronts.{ReadsFront, records_are_front, with_none}
use Rattle.written_log_laws.proofs.LawfulPages.{ArePagesOf, image_has_pages}
use Rattle.written_log_laws.proofs.LogPages.{IsWritten, byte_at-page, some_is}
use Rattle.written_log_laws.proofs.WrittenLogLaws.{none_below, written_log_decodes, written_order_comes_first}

-- ---- the log of a front

-- the log of an order's front is the order's below where the front ends
pub log_byte-front : (size sysid : ℕ) → IsSegmentSize size → (back front : List Entry) → IsChained size (front ++ back) → (a : ℕ) → a < end_address_of size (end_position size front) → log_byte size sysid (front ++ back) a ≡ log_byte size sysid front a
log_byte-front size sysid valid [] front chained a below = ap (λ (l : List Entry). log_byte size sysid l a) (append-nil front)
log_byte-front size sysid valid (e ∷ back) front chained a below =
    let more = front ++ e ∷ [] in
    let whole : front ++ e ∷ back ≡ more ++ back = sym (append_assoc front (e ∷ []) back) in
    let start = (FollowsFrom-parts size (first_position size) front (e ∷ back) chained).1.0 in
    let higher = end_address_of-mono size valid (end_position size front) (end_position size more) (omega (arith, rooms_of_push size front e)) in
    let here = ap (end_address_of size) start in
    let unowned : Owns size (assembled e.value) e.start a → ⊥ = λ owns. absurd (omega (arith, (Owns-between size valid (assembled e.value) e.start a owns).0, here)) in
    ap (λ (l : List Entry). log_byte size sysid l a) whole
    ∙ log_byte-front size sysid valid back more (subst (λ (l : List Entry). IsChained size l) whole chained) a (omega arith)
    ∙ log_byte_push size sysid front e start a unowned

-- an order around one of its entries
pub around : (es : List Entry) (i : ℕ) (e : Entry) → slice_get es i ≡ Some e → es ≡ take i es ++ e ∷ drop (i + 1) es
around es i e got =
    let behind : drop i es ≡ e ∷ drop (i + 1) es = drop_more es i e (slice_get_within es i e got) ∙ ap (λ (x : Entry). x ∷ drop (i + 1) es) (get_or_from_slice_get es i e e got) in
    sym (take-append-drop i es) ∙ ap (λ (l : List Entry). take i es ++ l) behind

pub length-found_from : (size prev : ℕ) (es : List Entry) → length (found_from size prev es) ≡ length es
length-found_from size prev [] = refl
length-found_from size prev (e ∷ es) = ap suc (length-found_from size (address_of size e.start) es)

module _ (size sysid : ℕ) (pages : Pages) (es : List Entry) (upto : ℕ) (valid : IsSegmentSize size) (known : 0 < sysid) (narrow : sysid < 2 ^ 64) (chained : IsChained size es) (bounded : end_address_of size (end_position size es) ≤ 2 ^ 60) (are : ArePagesOf size sysid pages es upto) where
  -- the log of a front that ends at or below `upto` stands in the pages
  pub front_is_written : (front back : List Entry) → es ≡ front ++ back → end_address_of size (end_position size front) ≤ upto → IsWritten size sysid pages front
  front_is_written front back parts within =
      let all = subst (λ (l : List Entry). IsChained size l) parts chained in
      let rooms = rooms_of-append size front back in
      let same = ap (rooms_of size) parts in
      let lower = end_address_of-mono size valid (end_position size front) (end_position size es) (omega arith) in record {
        valid = valid;
        known = known;
        narrow = narrow;
        chained = (FollowsFrom-parts size (first_position size) front back all).0;
        bounded = omega arith;
        there = λ page from below. let here = some_is (pages page) (are.there page from (omega arith) (omega arith)) in (here.0, here.1, subst (λ (o : Option (List ℕ)). IfSome o (λ bytes. 8192 ≤ length bytes)) here.1 (are.long page));
        each = λ a from below. are.below a (omega arith) ∙ ap (λ (l : List Entry). log_byte size sysid l a) parts ∙ log_byte-front size sysid valid back front all a below;
      }

  -- what is read holds each entry that ends at or below `upto`
  entry_is_among : (found : List FoundRecord) (answer : Answer) → ReadsFrom size pages None (beginning size pages size) found answer → (count : ℕ) → count ≤ length es → found ≡ found_of size (take count es)
      → (i : ℕ) (e : Entry) → slice_get es i ≡ Some e → finish_of size e ≤ upto → i < count
  entry_is_among found answer reads count within is i e got finish =
      let front = take i es in
      let back = drop (i + 1) es in
      let inside = slice_get_within es i e got in
      let parts : es ≡ front ++ e ∷ back = around es i e got in
      let all = subst (λ (l : List Entry). IsChained size l) parts chained in
      let start = (FollowsFrom-parts size (first_position size) front (e ∷ back) all).1.0 in
      let end : end_position size (front ++ e ∷ []) ≡ e.start + room_at size e.start e.value = omega (arith, start, rooms_of_push size front e) in
      let ends = ap (end_address_of size) end in
      let written = front_is_written (front ++ e ∷ []) back (parts ∙ sym (append_assoc front (e ∷ []) back)) (omega (arith, ends, finish)) in
      let first = written_order_comes_first size sysid pages (front ++ e ∷ []) written found answer reads in
      let longer = ap (λ (l : List FoundRecord). length l) (sym is ∙ first.1) in
      omega (arith, longer, length-append (found_of size (front ++ e ∷ [])) first.0, length-found_from size 0 (front ++ e ∷ []), length-found_from size 0 (take count es), length-append front (e ∷ []), length-take-le i es (omega arith), length-take-le count es within)

  module _ (no_torn : NoTornPass size pages es) where
    -- what is read is a front of the order
    read_is_front : (begun : Result RecordPlace Answer) → beginning size pages size ≡ begun → (found : List FoundRecord) (answer : Answer) → ReadsFrom size pages None begun found answer → ReadsFront size sysid pages es [] es found
    read_is_front (Err told) begins found answer reads = subst (λ (l : List FoundRecord). ReadsFront size sysid pages es [] es l) (sym reads.0) (with_none size sysid pages es [] es)
    read_is_front (Ok place) begins found answer reads =
        let first : place.position ≡ end_position size [] = begins_first size sysid pages es upto valid known narrow chained are place begins ∙ sym (add-zero (first_position size)) in
        records_are_front size sysid pages es upto valid chained bounded are no_torn es [] refl place first (omega arith) (inr refl) found answer (records_computed size pages None place found answer reads)

    -- none of it starts below the log's own start
    pub all_is_found : (found : List FoundRecord) (answer : Answer) (decodes : Decodes size pages size None found answer) → decodes.read ≡ found
    all_is_found found answer decodes =
        let read = read_is_front (beginning size pages size) refl decodes.read answer decodes.reads in
        let chained_front = (FollowsFrom-parts size (first_position size) (take read.count es) (drop read.count es) (subst (λ (l : List Entry). IsChained size l) (sym (take-append-drop read.count es)) chained)).0 in
        let given = none_below size 0 (first_position size) (take read.count es) valid chained_front (omega arith) in
        read.found_is ∙ given ∙ sym (ap (λ (l : List FoundRecord). filter (λ f. nat_le size f.head.start.0) l) read.found_is) ∙ sym decodes.given

    pub front_is_read : (found : List FoundRecord) (answer : Answer) → Decodes size pages size None found answer → ReadsFront size sysid pages es [] es found
    front_is_read found answer decodes = subst (ReadsFront size sysid pages es [] es) (all_is_found found answer decodes) (read_is_front (beginning size pages size) refl decodes.read answer decodes.reads)

    pub front_decodes : (found : List FoundRecord) (answer : Answer) → Decodes size pages size None found answer → IsFrontUpto size es upto found
    front_decodes found answer decodes =
        let front = front_is_read found answer decodes in
        let reads = subst (λ (l : List FoundRecord). ReadsFrom size pages None (beginning size pages size) l answer) (all_is_found found answer decodes) decodes.reads in
        record {
          count = front.count;
          within = front.within;
          found_is = front.found_is;
          holds = entry_is_among found answer reads front.count front.within front.found_is;
        }

pub lawful_images_decode_to_fronts : LawfulImagesDecodeToFronts
lawful_images_decode_to_fronts size sysid upto image es valid known narrow chained bounded lawful no_torn found answer decodes =
    front_decodes size sysid (pages_in size image) es upto valid known narrow chained bounded (image_has_pages size image valid sysid es upto chained bounded lawful) no_torn found answer decodes

-- ---- the log up to its end

module _ (size sysid : ℕ) (pages : Pages) (es : List Entry) (upto : ℕ) (valid : IsSegmentSize size) (chained : IsChained size es) (are : ArePagesOf size sysid pages es upto) (upto_end : end_address_of size (end_position size es) ≤ upto) where
  -- behind the end the log is 0 as well
  byte_of_log : (address : ℕ) → byte_at pages address ≡ log_byte size sysid es address
  byte_of_log address =
      elim (cases_lt address upto) [
        | inl below ↦ are.below address below
        | inr behind ↦
            (let zero = log_byte-behind size sysid valid es chained address (omega arith) in
            let split : 8 * (address / 8) + address % 8 ≡ address = omega arith in
            elim (are.words (address / 8)) [
              | inl zeros ↦ ap (byte_at pages) (sym split) ∙ zeros (address % 8) (omega arith) ∙ sym zero
              | inr own ↦ subst (λ (a : ℕ). byte_at pages a ≡ log_byte size sysid es a) split (own (address % 8) (omega arith))
            ])
      ]

  page_is_log : (page : ℕ) (here : Option (List ℕ)) → pages page ≡ here → IfSome here (λ bytes. 8192 ≤ length bytes) → IfSome here (BeginsAsLogPage size sysid es page)
  page_is_log page None there long = tt
  page_is_log page (Some bytes) there long = record {
    long = long;
    each = λ k lt. sym (byte_at-page pages page k bytes there lt) ∙ byte_of_log (page * 8192 + k);
  }

  -- pages that are lawful up to the order's end hold its log
  pub lawful_pages_hold_log : HavePagesOfLog size sysid pages es
  lawful_pages_hold_log = record {
    is_log = λ page from. page_is_log page (pages page) refl (are.long page);
    there = λ page from below. are.there page from (omega arith) below;
  }

pub whole_lawful_images_decode : WholeLawfulImagesDecode
whole_lawful_images_decode size sysid upto image es valid known narrow chained bounded upto_end lawful =
    written_log_decodes size sysid (pages_in size image) es valid known narrow chained bounded (lawful_pages_hold_log size sysid (pages_in size image) es upto valid chained (image_has_pages size image valid sysid es upto chained bounded lawful) upto_end)
