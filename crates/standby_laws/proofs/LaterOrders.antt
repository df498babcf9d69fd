-- What the orders of a primary begin with that goes on behind a crash.
use Rattle.std.proofs.Common.{◌≡◌, ℕ, zero, suc, ◌+◌, ◌*◌, ◌<◌, ◌≤◌, All, List, [], ◌∷◌, ◌++◌, length, map, take, Some, None, refl, sym, ap, ◌∙◌, arith, length-take}
use Rattle.std.specs.Int.{w64, to_le_bytes}
use Rattle.std.specs.Prelude.{slice_get}
use Rattle.std.proofs.Math.Seq.{take-append_seam}
use Rattle.byte_position.specs.Position.{address_of, end_address_of, first_position}
use Rattle.byte_position.proofs.EndAddresses.{end_address_of-mono}
use Rattle.segment_disk.specs.DiskImage.{image_as_read}
use Rattle.segment_disk.specs.Tape.{state_now}
use Rattle.wal_page.specs.Order.{Entry, FollowsFrom, IsChained, end_position, finish_of, position_behind, rooms_of}
use Rattle.wal_page.specs.Log.{log_word}
use Rattle.wal_page.proofs.OrderLaws.{rooms_of_cons}
use Rattle.wal_reader.specs.declared.found.FoundRecord.{FoundRecord}
use Rattle.written_log_laws.specs.LawfulLog.{IsFrontUpto}
use Rattle.written_log_laws.specs.Written.{found_from, found_of}
use Rattle.written_log_laws.proofs.FoundImages.{chained_front}
use Rattle.written_log_laws.proofs.LawfulLaws.{lawful_images_decode_to_fronts}
use Rattle.run_laws.specs.Told.{order_from}
use Rattle.wal_stream.specs.FollowedLog.{IsLogOrder}
use Rattle.wal_stream.specs.Frame.{IsFrameOfLog}
use Rattle.reopened_log_laws.specs.FoundFirst.{as_found}
use Rattle.reopened_log_laws.proofs.FirstEntries.{same_entries, word-as_found}
use Rattle.standby_laws.specs.Later.{BeginsUpto, FramesStayOfLog, LaterOrdersBegin}
use Rattle.standby_laws.proofs.LeftLogs.{finish_within, word_of_front}

-- ---- entries as they are found

found_twice : (es : List Entry) → map as_found (map as_found es) ≡ map as_found es
found_twice [] = refl
found_twice (e ∷ es) = ap (λ (l : List Entry). as_found e ∷ l) (found_twice es)

rooms-as_found : (size : ℕ) (es : List Entry) → rooms_of size (map as_found es) ≡ rooms_of size es
rooms-as_found size [] = refl
rooms-as_found size (e ∷ es) = omega (arith, rooms-as_found size es, rooms_of_cons size e es, rooms_of_cons size (as_found e) (map as_found es))

length-found : (size prev : ℕ) (es : List Entry) → length (found_from size prev es) ≡ length es
length-found size prev [] = refl
length-found size prev (e ∷ es) = ap suc (length-found size (address_of size e.start) es)

length-as_found : (es : List Entry) → length (map as_found es) ≡ length es
length-as_found [] = refl
length-as_found (e ∷ es) = ap suc (length-as_found es)

-- ---- what was found comes first

begins_with_found : (size sysid upto : ℕ) (order es more : List Entry) (found : List FoundRecord) → IsLogOrder size sysid order → IsChained size es → All (λ (e : Entry). e.pass ≡ None) es → found_of size es ≡ found → IsFrontUpto size order upto found → BeginsUpto size order (es ++ more) upto
begins_with_found size sysid upto order es more found is chained nobodys same front =
    let count = front.count in
    let first = take count order in
    let follows = chained_front size sysid order is.valid is.known is.narrow is.chained is.bounded count in
    let entries : es ≡ map as_found first = same_entries size (first_position size) 0 0 es first chained follows nobodys (same ∙ front.found_is) in
    let take_long : length first ≡ count = omega (arith, length-take count order, front.within) in
    let long : length es ≡ count = ap length entries ∙ length-as_found first ∙ take_long in
    let here : take count (es ++ more) ≡ es = ap (λ (n : ℕ). take n (es ++ more)) (sym long) ∙ take-append_seam es more in
    record {
      count = count;
      within = front.within;
      holds = front.holds;
      same = ap (map as_found) (here ∙ entries) ∙ found_twice first;
    }

pub later_orders_begin : LaterOrdersBegin
later_orders_begin opening front order since at upto handed t left began found script lists is hardened later crash none_torn reopened =
    let size = (opening.setup).seg_size in
    let sysid = (opening.setup).sysid in
    let image = image_as_read (state_now left) in
    let has = reopened.left.has_found in
    let read = lawful_images_decode_to_fronts size sysid upto image order is.valid is.known is.narrow is.chained is.bounded (hardened at image later crash.leaves) none_torn found has.answer has.decodes in
    begins_with_found size sysid upto order front (order_from size 1 script lists) found is reopened.lies.chained reopened.lies.nobodys reopened.found_is read

-- ---- frames

-- the last of some first entries, and where it ends
last_of : (size p n : ℕ) (es : List Entry) → FollowsFrom size p es → n < length es → (e : Entry) × (slice_get es n ≡ Some e) × (position_behind size e ≡ p + rooms_of size (take (suc n) es))
last_of size p n [] follows less = absurd (omega (arith, less))
last_of size p zero (f ∷ fs) follows less = (f, refl, omega (arith, follows.0, rooms_of_cons size f []))
last_of size p (suc n) (f ∷ fs) follows less =
    let rest = last_of size (position_behind size f) n fs follows.2 (omega (arith, less)) in
    (rest.0, rest.1, omega (arith, rest.2, follows.0, rooms_of_cons size f (take (suc n) fs)))

module _ (size sysid upto count : ℕ) (order later : List Entry) (is : IsLogOrder size sysid order) (chained : IsChained size later) (begins : BeginsUpto size order later upto) (within : count ≤ length order) (ends : upto ≡ end_address_of size (end_position size (take count order))) where
  abbrev first : List Entry
  first = take begins.count order

  abbrev same : List Entry
  same = take begins.count later

  -- both end at the same address
  ends_alike : end_address_of size (end_position size (take begins.count later)) ≡ end_address_of size (end_position size (take begins.count order))
  ends_alike = ap (λ (n : ℕ). end_address_of size (first_position size + n)) (sym (rooms-as_found size same) ∙ ap (rooms_of size) begins.same ∙ rooms-as_found size first)

  -- the address lies in what both begin with
  reaches_of : (n : ℕ) → n ≤ length order → upto ≡ end_address_of size (end_position size (take n order)) → upto ≤ end_address_of size (end_position size (take begins.count order))
  reaches_of zero low at = omega (arith, at, end_address_of-mono size is.valid (end_position size []) (end_position size first) (omega arith))
  reaches_of (suc n) low at =
      let last = last_of size (first_position size) n order is.chained (omega (arith, low)) in
      let finish : finish_of size last.0 ≡ upto = ap (end_address_of size) last.2 ∙ sym at in
      let among = begins.holds n last.0 last.1 (omega (arith, finish)) in
      omega (arith, finish, finish_within size is.valid order is.chained begins.count n last.0 last.1 among)

  inside : upto ≤ end_address_of size (end_position size (take begins.count order))
  inside = reaches_of count within ends

  words_alike : (a : ℕ) → a + 8 ≤ upto → log_word size sysid order a ≡ log_word size sysid later a
  words_alike a below =
      word_of_front size sysid is.valid order begins.count is.chained a (omega (arith, below, inside))
      ∙ sym (word-as_found size sysid a first) ∙ ap (λ (l : List Entry). log_word size sysid l a) (sym begins.same) ∙ word-as_found size sysid a same
      ∙ sym (word_of_front size sysid is.valid later begins.count chained a (omega (arith, below, inside, ends_alike)))

  pub frame_stays : (bytes : List ℕ) → IsFrameOfLog size sysid order upto bytes → IsFrameOfLog size sysid later upto bytes
  frame_stays bytes frame = record {
    sent = frame.sent;
    frame = frame.frame;
    of_log = record {
      words = λ k below. frame.of_log.words k below ∙ ap (to_le_bytes w64) (words_alike (frame.sent.page * 8192 + 8 * k) (omega (arith, below, frame.of_log.within, frame.frame.is_sent.ends.whole)));
      within = frame.of_log.within;
    };
  }

pub frames_stay_of_log : FramesStayOfLog
frames_stay_of_log size sysid upto count order later bytes is chained begins within ends frame = frame_stays size sysid upto count order later is chained begins within ends bytes frame
