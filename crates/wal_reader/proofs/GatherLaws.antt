-- Laws of gathering a record's bytes page by page.
use Rattle.std.proofs.Common.{◌≡◌, ℕ, zero, suc, ◌+◌, ◌-◌, ◌*◌, ◌/◌, ◌%◌, ◌^◌, ◌<◌, ◌≤◌, Bool, List, ◌∷◌, ◌++◌, length, get_or, take, drop, Option, Some, Result, Ok, Err, IfOk, MatchResult, refl, sym, ap, subst, ◌∙◌, append-nil, inl, inr, arith}
use Rattle.std.specs.List.{flat_map, range_with_len}
use Rattle.std.proofs.lemmas.Grind.{flat_map-append}
use Rattle.std.proofs.lemmas.List.{drop_more}
use Rattle.std.proofs.lemmas.Bool.{cases_lt}
use Rattle.byte_position.specs.Position.{position_of, address_of}
use Rattle.byte_position.proofs.HeaderSizes.{header_size_bounds}
use Rattle.byte_position.proofs.Pages.{position_of-next_page, address_of-page}
use Rattle.byte_position.proofs.Rising.{address_of-mono}
use Rattle.wal_page.specs.Page.{header_size, first_fault, timeline_of}
use Rattle.wal_reader.specs.declared.record_place.RecordPlace.{RecordPlace}
use Rattle.wal_reader.specs.declared.found.Answer.{Answer}
use Rattle.wal_reader.specs.declared.page_cursor.PageCursor.{PageCursor}
use Rattle.wal_reader.specs.Pages.{IsPage, Pages, as_byte, byte_at, bytes_from}
use Rattle.wal_reader.proofs.PagesLaws.{as_byte-of}
use Rattle.wal_reader.specs.Decodes.{continuation_rows, continuation_rows_of, page_of_byte, rows_of_pages, timeline_or}
use Rattle.wal_reader.specs.declared.read_failure.ReadFailure.{ReadFailure}
use Rattle.wal_reader.specs.PageCursor.{Crosses, HasGathered, HoldsPassed, StandsIn}
use Rattle.wal_reader.specs.ReadFailures.{IsTold, Settles}
use Rattle.wal_reader.proofs.PagesLaws.{rows_of_pages-none}
use Rattle.wal_reader.proofs.FailureLaws.{IsTold-weaker}
use Rattle.wal_reader.proofs.RowLaws.{first_of, first_fault-append}

-- ---- the rows of further pages

range_with_len-append : (a m n : ℕ) → range_with_len a (m + n) ≡ range_with_len a m ++ range_with_len (a + m) n
range_with_len-append a zero n =
    let e : zero + n ≡ n = omega arith in
    let f : a + zero ≡ a = omega arith in
    rw (e, f) refl
range_with_len-append a (suc m) n =
    let e : suc m + n ≡ suc (m + n) = omega arith in
    let f : a + suc m ≡ a + 1 + m = omega arith in
    rw (e, f) (ap (λ xs. a ∷ xs) (range_with_len-append (a + 1) m n))

-- the pages up to one and those behind it
pub rows_of_pages-split : (size : ℕ) (pages : Pages) (place : RecordPlace) (total from mid upto : ℕ) → from ≤ mid → mid ≤ upto → rows_of_pages size pages place total from upto ≡ rows_of_pages size pages place total from mid ++ rows_of_pages size pages place total mid upto
rows_of_pages-split size pages place total from mid upto low high =
    let rows = continuation_rows size pages place total in
    let e : upto - from ≡ (mid - from) + (upto - mid) = omega arith in
    let f : from + 1 + (mid - from) ≡ mid + 1 = omega arith in
    ap (λ (n : ℕ). flat_map rows (range_with_len (from + 1) n)) e
    ∙ ap (flat_map rows) (range_with_len-append (from + 1) (mid - from) (upto - mid))
    ∙ flat_map-append rows (range_with_len (from + 1) (mid - from)) (range_with_len (from + 1 + (mid - from)) (upto - mid))
    ∙ ap (λ (a : ℕ). rows_of_pages size pages place total from mid ++ flat_map rows (range_with_len a (upto - mid))) f

pub rows_of_pages-one : (size : ℕ) (pages : Pages) (place : RecordPlace) (total page : ℕ) → rows_of_pages size pages place total page (page + 1) ≡ continuation_rows size pages place total (page + 1)
rows_of_pages-one size pages place total page =
    let e : page + 1 - page ≡ 1 = omega arith in
    ap (λ (n : ℕ). flat_map (continuation_rows size pages place total) (range_with_len (page + 1) n)) e ∙ append-nil _

-- pages that pass are passed over
pub rows_behind : (size : ℕ) (pages : Pages) (place : RecordPlace) (total from mid upto : ℕ) → Crosses size pages place total from mid → mid ≤ upto → first_fault (rows_of_pages size pages place total from upto) ≡ first_fault (rows_of_pages size pages place total mid upto)
rows_behind size pages place total from mid upto crosses high =
    ap first_fault (rows_of_pages-split size pages place total from mid upto crosses.rises high)
    ∙ first_fault-append (rows_of_pages size pages place total from mid) (rows_of_pages size pages place total mid upto)
    ∙ ap (λ (o : Option Answer). first_of o (first_fault (rows_of_pages size pages place total mid upto))) crosses.passes

-- what the next page tells
pub next_page_tells : (size : ℕ) (pages : Pages) (place : RecordPlace) (total page upto : ℕ) (answer : Answer) → page + 1 ≤ upto → first_fault (continuation_rows size pages place total (page + 1)) ≡ Some answer → first_fault (rows_of_pages size pages place total page upto) ≡ Some answer
next_page_tells size pages place total page upto answer further told =
    let next = rows_of_pages size pages place total (page + 1) upto in
    ap first_fault (rows_of_pages-split size pages place total page (page + 1) upto (omega arith) further)
    ∙ first_fault-append (rows_of_pages size pages place total page (page + 1)) next
    ∙ ap (λ (rows : List (Bool × Answer)). first_of (first_fault rows) (first_fault next)) (rows_of_pages-one size pages place total page)
    ∙ ap (λ (o : Option Answer). first_of o (first_fault next)) told

pub crosses_none : (size : ℕ) (pages : Pages) (place : RecordPlace) (total page : ℕ) → Crosses size pages place total page page
crosses_none size pages place total page = record { rises = omega arith; passes = ap first_fault (rows_of_pages-none size pages place total page) }

pub crosses_further : (size : ℕ) (pages : Pages) (place : RecordPlace) (total from mid upto : ℕ) → Crosses size pages place total from mid → Crosses size pages place total mid upto → Crosses size pages place total from upto
crosses_further size pages place total from mid upto a b = record { rises = omega (arith, a.rises, b.rises); passes = rows_behind size pages place total from mid upto a b.rises ∙ b.passes }

-- ---- where a cursor stands

-- the byte position of a page's end is the next page's first
module _ (size position : ℕ) (cursor : PageCursor) (stands : StandsIn size position cursor) where
  -- a byte that the page has from the cursor on
  pub address_from : (k : ℕ) → cursor.offset + k < 8192 → address_of size (position + k) ≡ 8192 * cursor.page + (cursor.offset + k)
  address_from k within =
      let h = header_size size cursor.page in
      let next = position_of-next_page size stands.valid cursor.page in
      let swap : (cursor.page + 1) * 8192 ≡ 8192 * (cursor.page + 1) = omega arith in
      let at = stands.at ∙ ap (position_of size) swap ∙ next in
      let low = stands.low in
      let small = header_size_bounds size stands.valid cursor.page in
      let here : position + k ≡ position_of size (8192 * cursor.page) + (cursor.offset + k - h) = omega arith in
      ap (address_of size) here ∙ address_of-page size stands.valid cursor.page (cursor.offset + k - h) (omega arith) ∙ omega arith

  pub page_from : (k : ℕ) → cursor.offset + k < 8192 → address_of size (position + k) / 8192 ≡ cursor.page
  page_from k within = let a = address_from k within in omega arith

  offset_from : (k : ℕ) → cursor.offset + k < 8192 → address_of size (position + k) % 8192 ≡ cursor.offset + k
  offset_from k within = let a = address_from k within in omega arith

  -- further on in the page
  pub stands_further : (k : ℕ) → cursor.offset + k ≤ 8192 → StandsIn size (position + k) (record cursor { offset = cursor.offset + k })
  stands_further k within = record {
    valid = stands.valid;
    low = omega (arith, stands.low);
    high = within;
    at = (let e : position + k + (8192 - (cursor.offset + k)) ≡ position + (8192 - cursor.offset) = omega arith in e ∙ stands.at);
    reach = stands.reach;
  }

  -- at the next page's first byte
  pub stands_next : (next : PageCursor) → cursor.offset ≡ 8192 → next.page ≡ cursor.page + 1 → next.offset ≡ header_size size (cursor.page + 1) → next.page < 2 ^ 47 → StandsIn size position next
  stands_next next full same first reach =
      let behind = position_of-next_page size stands.valid (cursor.page + 1) in
      let swap : (cursor.page + 1) * 8192 ≡ 8192 * (cursor.page + 1) = omega arith in
      let swap_next : (next.page + 1) * 8192 ≡ 8192 * (cursor.page + 1 + 1) = omega arith in
      let at = stands.at ∙ ap (position_of size) swap in
      let small = header_size_bounds size stands.valid (cursor.page + 1) in
      record {
        valid = stands.valid;
        low = (let e = ap (header_size size) same in omega arith);
        high = omega arith;
        at = (let e : position + (8192 - next.offset) ≡ position_of size (8192 * (cursor.page + 1 + 1)) = omega arith in e ∙ ap (position_of size) (sym swap_next));
        reach = reach;
      }

  -- a byte behind those that the page has lies on a further page
  page_beyond : (p : ℕ) → position + (8192 - cursor.offset) ≤ p
      → cursor.page + 1 ≤ address_of size p / 8192
  page_beyond p behind =
      let swap : (cursor.page + 1) * 8192 ≡ 8192 * (cursor.page + 1) = omega arith in
      let at = stands.at ∙ ap (position_of size) swap in
      let small = header_size_bounds size stands.valid (cursor.page + 1) in
      let first = address_of-page size stands.valid (cursor.page + 1) 0 (omega arith) in
      let next = position + (8192 - cursor.offset) in
      let same : position_of size (8192 * (cursor.page + 1)) + 0 ≡ next = omega arith in
      let start = sym (ap (address_of size) same) ∙ first in
      let up = address_of-mono size stands.valid next p behind in
      omega arith

  pub page_behind : (p : ℕ) → cursor.offset ≡ 8192 → position ≤ p
      → cursor.page + 1 ≤ address_of size p / 8192
  page_behind p full behind = page_beyond p (omega arith)

  -- a byte from the cursor on is on its page if the page has so many, and only then
  pub on_page : (p : ℕ) → position ≤ p → p - position < 8192 - cursor.offset
      → address_of size p / 8192 ≡ cursor.page
  on_page p behind within =
      let same : position + (p - position) ≡ p = omega arith in
      ap (λ (b : ℕ). address_of size b / 8192) (sym same) ∙ page_from (p - position) (omega arith)

  pub not_on_page : (p : ℕ) → position ≤ p → 8192 - cursor.offset ≤ p - position
      → address_of size p / 8192 ≡ cursor.page → ⊥
  not_on_page p behind past same =
      let next = page_beyond p (omega arith) in
      absurd (omega arith)

  -- the bytes that the page has from the cursor on
  module _ (pages : Pages) (bytes : List ℕ) (here : pages cursor.page ≡ Some bytes) (whole : IsPage bytes) where
    raw_byte_from : (k : ℕ) → cursor.offset + k < 8192 → byte_at pages (address_of size (position + k)) ≡ get_or bytes (cursor.offset + k) 0
    raw_byte_from k within = rw (page_from k within, here, offset_from k within) refl

    byte_from : (k : ℕ) → cursor.offset + k < 8192 → as_byte (byte_at pages (address_of size (position + k))) ≡ get_or bytes (cursor.offset + k) 0
    byte_from k within = ap as_byte (raw_byte_from k within) ∙ as_byte-of (get_or bytes (cursor.offset + k) 0) (whole.1 (cursor.offset + k) 0 (omega (arith, whole.0)))

    bytes_from_cursor : (n k : ℕ) → cursor.offset + k + n ≤ 8192 → bytes_from size pages n (position + k) ≡ take n (drop (cursor.offset + k) bytes)
    unfolding bytes_from
    bytes_from_cursor zero k within = refl
    bytes_from_cursor (suc n) k within =
        let at : cursor.offset + k < length bytes = omega (arith, whole.0) in
        let next : position + k + 1 ≡ position + (k + 1) = omega arith in
        let others = ap (bytes_from size pages n) next ∙ bytes_from_cursor n (k + 1) (omega arith) in
        let further : cursor.offset + (k + 1) ≡ cursor.offset + k + 1 = omega arith in
        rw (byte_from k (omega arith), others, drop_more bytes (cursor.offset + k) 0 at, further) refl

    pub bytes_in_page : (n : ℕ) → cursor.offset + n ≤ 8192 → bytes_from size pages n position ≡ take n (drop cursor.offset bytes)
    bytes_in_page n within =
        let e : position + 0 ≡ position = omega arith in
        let f : cursor.offset + 0 ≡ cursor.offset = omega arith in
        ap (bytes_from size pages n) (sym e) ∙ bytes_from_cursor n 0 (omega arith) ∙ ap (λ (o : ℕ). take n (drop o bytes)) f

-- ---- bytes behind bytes

pub bytes_from-append : (size : ℕ) (pages : Pages) (n k position : ℕ) → bytes_from size pages (n + k) position ≡ bytes_from size pages n position ++ bytes_from size pages k (position + n)
unfolding bytes_from
bytes_from-append size pages zero k position =
    let e : zero + k ≡ k = omega arith in
    let f : position + zero ≡ position = omega arith in
    rw (e, f) refl
bytes_from-append size pages (suc n) k position =
    let e : suc n + k ≡ suc (n + k) = omega arith in
    let f : position + suc n ≡ position + 1 + n = omega arith in
    rw (e, f) (ap (λ xs. as_byte (byte_at pages (address_of size position)) ∷ xs) (bytes_from-append size pages n k (position + 1)))

-- ---- the checks of the page behind a page's end

pub continuation_at_end : (size : ℕ) (pages : Pages) (place : RecordPlace) (total n : ℕ) (cursor : PageCursor) (bytes : List ℕ) → StandsIn size (place.position + n) cursor → cursor.offset ≡ 8192 → pages cursor.page ≡ Some bytes → timeline_of bytes ≡ cursor.timeline
    → continuation_rows size pages place total (cursor.page + 1) ≡ continuation_rows_of size (cursor.page + 1) cursor.timeline (address_of size place.position) (total - n) (pages (cursor.page + 1))
continuation_at_end size pages place total n cursor bytes stands full here timeline =
    let back : cursor.page + 1 - 1 ≡ cursor.page = omega arith in
    let told : timeline_or (pages (cursor.page + 1 - 1)) place.timeline ≡ cursor.timeline = ap (λ (o : Option (List ℕ)). timeline_or o place.timeline) (ap pages back ∙ here) ∙ timeline in
    let at = stands.at in
    let owed : place.position + total - position_of size ((cursor.page + 1) * 8192) ≡ total - n = omega arith in
    rw (told, owed) refl

-- what turning a page answers, of a record that goes on behind the page's end
module _ (size : ℕ) (pages : Pages) (place : RecordPlace) (total n : ℕ) (cursor : PageCursor) (bytes : List ℕ) (stands : StandsIn size (place.position + n) cursor) (full : cursor.offset ≡ 8192) (here : pages cursor.page ≡ Some bytes) (timeline : timeline_of bytes ≡ cursor.timeline) where
  abbrev fault : Option Answer
  fault = first_fault (continuation_rows_of size (cursor.page + 1) cursor.timeline (address_of size place.position) (total - n) (pages (cursor.page + 1)))

  same_fault : first_fault (continuation_rows size pages place total (cursor.page + 1)) ≡ fault
  same_fault = ap first_fault (continuation_at_end size pages place total n cursor bytes stands full here timeline)

  told_by_next : (upto : ℕ) (answer : Answer) → n < upto → fault ≡ Some answer → first_fault (rows_of_pages size pages place total cursor.page (page_of_byte size place.position upto)) ≡ Some answer
  told_by_next upto answer more e =
      let further = page_behind size (place.position + n) cursor stands (place.position + upto - 1) full (omega arith) in
      next_page_tells size pages place total cursor.page (page_of_byte size place.position upto) answer further (same_fault ∙ e)

  pub page_turned : (result : Result PageCursor ReadFailure) → IfOk result (λ next. next.page ≡ cursor.page + 1) → Settles fault result
      → MatchResult result (λ next. Crosses size pages place total cursor.page next.page) (λ stop. (upto : ℕ) → n < upto → IsTold (first_fault (rows_of_pages size pages place total cursor.page (page_of_byte size place.position upto))) stop)
  page_turned (Ok next) same passes =
      subst (λ (page : ℕ). Crosses size pages place total cursor.page page) (sym same) (record { rises = omega arith; passes = ap first_fault (rows_of_pages-one size pages place total cursor.page) ∙ same_fault ∙ passes })
  page_turned (Err stop) same told = λ upto more. IsTold-weaker fault _ (λ answer. told_by_next upto answer more) stop told

-- bytes that were gathered, and those that the page has behind them
room_grows : (size position n : ℕ) (cursor : PageCursor) → StandsIn size (position + n) cursor → (pages : Pages) (bytes : List ℕ) → pages cursor.page ≡ Some bytes → IsPage bytes → (count : ℕ) → cursor.offset + count ≤ 8192
    → (room : List ℕ) → room ≡ bytes_from size pages n position → room ++ take count (drop cursor.offset bytes) ≡ bytes_from size pages (n + count) position
room_grows size position n cursor stands pages bytes here whole count within room had =
    let more = bytes_in_page size (position + n) cursor stands pages bytes here whole count within in
    rw (had, ← more) (sym (bytes_from-append size pages n count position))

-- the same of a room to which they were appended
pub room_grown : (size position n m : ℕ) (cursor : PageCursor) → StandsIn size (position + n) cursor → (pages : Pages) (bytes page : List ℕ) → pages cursor.page ≡ Some bytes → page ≡ bytes → IsPage page → (count : ℕ) → cursor.offset + count ≤ 8192 → m ≡ n + count
    → (room new : List ℕ) → room ≡ bytes_from size pages n position → new ≡ room ++ take count (drop cursor.offset page) → new ≡ bytes_from size pages m position
room_grown size position n m cursor stands pages bytes page here same whole count within sum room new had added =
    added
    ∙ ap (λ (bs : List ℕ). room ++ take count (drop cursor.offset bs)) same
    ∙ room_grows size position n cursor stands pages bytes here (subst IsPage same whole) count within room had
    ∙ ap (λ (k : ℕ). bytes_from size pages k position) (sym sum)

pub gathers_further : (size position n : ℕ) (cursor : PageCursor) → StandsIn size (position + n) cursor → (count m : ℕ) → 0 < count → cursor.offset + count ≤ 8192 → m ≡ n + count → HasGathered size position m (record cursor { offset = cursor.offset + count })
gathers_further size position n cursor stands count m some within sum = record {
  stands = (let e : position + n + count ≡ position + m = omega arith in subst (λ (p : ℕ). StandsIn size p (record cursor { offset = cursor.offset + count })) e (stands_further size (position + n) cursor stands count within));
  last = λ _. (let e : position + n + (count - 1) ≡ position + m - 1 = omega arith in sym (page_from size (position + n) cursor stands (count - 1) (omega arith)) ∙ ap (λ (p : ℕ). address_of size p / 8192) e);
}

-- a stop on the way from one page is one on the way from a page before it
pub told_behind : (size : ℕ) (pages : Pages) (place : RecordPlace) (total from mid upto : ℕ) → Crosses size pages place total from mid → mid ≤ upto → (stop : ReadFailure) → IsTold (first_fault (rows_of_pages size pages place total mid upto)) stop → IsTold (first_fault (rows_of_pages size pages place total from upto)) stop
told_behind size pages place total from mid upto crosses further stop told = subst (λ (o : Option Answer). IsTold o stop) (sym (rows_behind size pages place total from mid upto crosses further)) told

-- the page of a byte further on is not before that of the cursor
pub page_rises : (size position n upto : ℕ) (cursor : PageCursor) → HasGathered size position n cursor → n < upto → cursor.page ≤ page_of_byte size position upto
page_rises size position n upto cursor gathered more =
    let stands = gathered.stands in
    let last = position + upto - 1 in
    elim (cases_lt cursor.offset 8192) [
      | inl within ↦
          (let e : position + n + 0 ≡ position + n = omega arith in
          let here = ap (λ (p : ℕ). address_of size p / 8192) (sym e) ∙ page_from size (position + n) cursor stands 0 (omega arith) in
          let up = address_of-mono size stands.valid (position + n) last (omega arith) in
          omega arith)
      | inr full ↦
          (let behind = page_behind size (position + n) cursor stands last (omega (arith, stands.high)) (omega arith) in
          omega arith)
    ]

-- what a room holds from a page on it holds from a page before it
pub holds_behind : (size : ℕ) (pages : Pages) (place : RecordPlace) (total from mid : ℕ) (room : List ℕ) → Crosses size pages place total from mid → HoldsPassed size pages place total mid room → HoldsPassed size pages place total from room
holds_behind size pages place total from mid room crossed holds = record {
  count = holds.count;
  page = holds.page;
  bytes = holds.bytes;
  last = holds.last;
  crossed = crosses_further size pages place total from mid holds.page crossed holds.crossed;
}
