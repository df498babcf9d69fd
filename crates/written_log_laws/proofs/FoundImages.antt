-- An image that holds nothing but words of a log holds what it decodes to, where no torn record passes.
use Rattle.std.proofs.Common.{◌≡◌, ℕ, ◌+◌, ◌*◌, ◌/◌, ◌%◌, ◌^◌, ◌<◌, ◌≤◌, List, [], ◌∷◌, ◌++◌, get_or, take, drop, Option, Some, None, inl, inr, refl, sym, ap, subst, ◌∙◌, add-zero, arith}
use Rattle.std.specs.Prelude.{IfSome}
use Rattle.std.specs.Int.{w64, to_le_bytes}
use Rattle.std.specs.Option.{IsSomeAnd}
use Rattle.std.proofs.lemmas.Bool.{cases_lt}
use Rattle.std.proofs.lemmas.List.{take-append-drop}
use Rattle.byte_position.specs.Geometry.{IsSegmentSize, pages_of}
use Rattle.byte_position.specs.Position.{address_of, end_address_of, first_position}
use Rattle.byte_position.proofs.EndAddresses.{end_address_of-mono}
use Rattle.byte_position.proofs.Words.{end_address_of-mod_word}
use Rattle.segment_disk.specs.DiskImage.{DiskImage, ImageSegment}
use Rattle.segment_disk.specs.ImageWords.{HasPageAt, image_word, segment_word, zero_word}
use Rattle.wal_page.specs.Order.{Entry, FollowsFrom, IsChained, end_position, finish_of, position_behind, prev_of, rooms_of}
use Rattle.wal_page.specs.Log.{log_byte, log_word, log_word_bytes}
use Rattle.wal_page.proofs.OrderLaws.{FollowsFrom-parts, rooms_of-append, rooms_of_cons}
use Rattle.wal_page.proofs.OwnerLaws.{end_position-whole}
use Rattle.wal_page.proofs.WordPositions.{end_address_of-first_position}
use Rattle.flush_core.specs.Lawful.{IsLawful}
use Rattle.flush_core.proofs.LawfulLaws.{no_owner_before, no_word_before, word_stands_at}
use Rattle.wal_reader.specs.declared.found.Answer.{Answer}
use Rattle.wal_reader.specs.declared.found.FoundRecord.{FoundRecord}
use Rattle.wal_reader.specs.Pages.{pages_in}
use Rattle.wal_reader.specs.Decodes.{Decodes, ReadsFrom, beginning}
use Rattle.written_log_laws.specs.FoundLog.{FoundLogsStandInImages, HasAllPages, HoldsFirstEntries, end_behind, last_start_behind}
use Rattle.written_log_laws.specs.Torn.{NoTornPass}
use Rattle.written_log_laws.specs.Written.{found_from, found_of}
use Rattle.written_log_laws.proofs.FoundEntries.{IsOwn}
use Rattle.written_log_laws.proofs.LawfulFronts.{ReadsFront}
use Rattle.written_log_laws.proofs.LawfulLaws.{all_is_found, front_is_read, front_is_written}
use Rattle.written_log_laws.proofs.LawfulPages.{ArePagesOf, byte_of_zeros, image_has_pages, word_is_read}
use Rattle.written_log_laws.proofs.WrittenLogLaws.{written_order_comes_first}

-- ---- where records end

end_behind-found : (size prev position end : ℕ) (es : List Entry) → FollowsFrom size position es → end ≡ end_address_of size position → end_behind end (found_from size prev es) ≡ end_address_of size (position + rooms_of size es)
end_behind-found size prev position end [] follows at = at ∙ ap (end_address_of size) (sym (add-zero position))
end_behind-found size prev position end (e ∷ es) follows at =
    let last : position_behind size e + rooms_of size es ≡ position + rooms_of size (e ∷ es) = omega (arith, follows.0, rooms_of_cons size e es) in
    end_behind-found size (address_of size e.start) (position_behind size e) (finish_of size e) es follows.2 refl ∙ ap (end_address_of size) last

pub end_of_front : (size : ℕ) (es : List Entry) (count : ℕ) (found : List FoundRecord) → IsSegmentSize size → IsChained size es → found ≡ found_of size (take count es) → end_behind size found ≡ end_address_of size (end_position size (take count es))
end_of_front size es count found valid chained is =
    let front = (FollowsFrom-parts size (first_position size) (take count es) (drop count es) (subst (λ (l : List Entry). IsChained size l) (sym (take-append-drop count es)) chained)).0 in
    ap (end_behind size) is ∙ end_behind-found size 0 (first_position size) size (take count es) front (sym (end_address_of-first_position size valid))

pub last_start_behind-found : (size prev : ℕ) (es : List Entry) → last_start_behind prev (found_from size prev es) ≡ prev_of size prev es
last_start_behind-found size prev [] = refl
last_start_behind-found size prev (e ∷ es) = last_start_behind-found size (address_of size e.start) es

-- ---- words and the pages that have them

-- a page at or below an address and in its segment has a first word that is not zero
pub record IsMarked (size : ℕ) (image : DiskImage) (address : ℕ) : Type 0 where
  pub page : ℕ
  pub segment : page * 8192 / size ≡ address / size
  pub low : page * 8192 ≤ address
  pub some : image_word size image (8 * (page * 1024)) ≡ zero_word → ⊥

has_here : (n : ℕ) (o : Option ImageSegment) (offset at : ℕ) → (segment_word o offset ≡ zero_word → ⊥) → IfSome o (λ i. i.pages ≡ n) → at < n → IsSomeAnd o (λ i. at < i.pages)
has_here n None offset at some whole within = absurd (some refl)
has_here n (Some i) offset at some whole within = omega (arith, whole, within)

pub marked_has_page : (size : ℕ) (image : DiskImage) (k : ℕ) → IsSegmentSize size → HasAllPages size image → IsMarked size image (8 * k) → HasPageAt size image (8 * k)
marked_has_page size image k valid whole marked =
    let place = word_stands_at size valid k in
    let at : 8 * (marked.page * 1024) ≡ marked.page * 8192 = omega arith in
    let segment : 8 * (marked.page * 1024) / size ≡ 8 * k / size = ap (λ (a : ℕ). a / size) at ∙ marked.segment in
    let some = subst (λ (s : ℕ). segment_word (image s) (8 * (marked.page * 1024) % size) ≡ zero_word → ⊥) segment marked.some in
    has_here (pages_of size) (image (8 * k / size)) (8 * (marked.page * 1024) % size) (8 * k % size / 8192) some (whole (8 * k / size)) place.within

no_log_word : (size sysid : ℕ) (es : List Entry) (a : ℕ) → ((i : ℕ) → i < 8 → log_byte size sysid es (a + i) ≡ 0) → zero_word ≡ log_word_bytes size sysid es a
no_log_word size sysid es a h =
    let none : log_word size sysid es a ≡ 0 = rw (h 0 (omega arith), h 1 (omega arith), h 2 (omega arith), h 3 (omega arith), h 4 (omega arith), h 5 (omega arith), h 6 (omega arith), h 7 (omega arith)) refl in
    ap (to_le_bytes w64) (sym none)

module _ (size sysid : ℕ) (es : List Entry) (valid : IsSegmentSize size) (known : 0 < sysid) (narrow : sysid < 2 ^ 64) (chained : IsChained size es) (bounded : end_address_of size (end_position size es) ≤ 2 ^ 60) where
  pub chained_front : (count : ℕ) → IsChained size (take count es)
  chained_front count = (FollowsFrom-parts size (first_position size) (take count es) (drop count es) (subst (λ (l : List Entry). IsChained size l) (sym (take-append-drop count es)) chained)).0

  -- a front ends at the order's end or below it
  pub front_bounded : (count : ℕ) → end_address_of size (end_position size (take count es)) ≤ 2 ^ 60
  front_bounded count =
      let all = ap (rooms_of size) (take-append-drop count es) in
      let parts = rooms_of-append size (take count es) (drop count es) in
      let lower = end_address_of-mono size valid (end_position size (take count es)) (end_position size es) (omega (arith, all, parts)) in
      omega (arith, lower, bounded)

  -- ---- an image, and what it decodes to

  module _ (image : DiskImage) (lawful : IsLawful size sysid image es 0) (none_torn : NoTornPass size (pages_in size image) es) (found : List FoundRecord) (answer : Answer) (decodes : Decodes size (pages_in size image) size None found answer) where
    are : ArePagesOf size sysid (pages_in size image) es 0
    are = image_has_pages size image valid sysid es 0 chained bounded lawful

    pub front : ReadsFront size sysid (pages_in size image) es [] es found
    front = front_is_read size sysid (pages_in size image) es 0 valid known narrow chained bounded are none_torn found answer decodes

    abbrev end : ℕ
    end = end_address_of size (end_position size (take front.count es))

    own : (a : ℕ) → size ≤ a → a < end → IsOwn size sysid (pages_in size image) es a
    own a from below =
        let start = ap (end_address_of size) (add-zero (first_position size)) ∙ end_address_of-first_position size valid in
        front.own a (omega (arith, start, from)) below

    -- below the end each word is the log's
    pub own_word : (k : ℕ) → 8 * k < end → image_word size image (8 * k) ≡ log_word_bytes size sysid es (8 * k)
    own_word k below =
        let whole_end : end % 8 ≡ 0 = end_address_of-mod_word size valid (end_position size (take front.count es)) (end_position-whole size valid (take front.count es) (chained_front front.count)) in
        elim (lawful.words k) [
          | inr is ↦ is
          | inl zeros ↦
              elim (cases_lt (8 * k) size) [
                | inl before ↦ zeros ∙ no_word_before size sysid valid es chained k before
                | inr from ↦
                    zeros ∙ no_log_word size sysid es (8 * k) (λ i lt.
                    let read = word_is_read size image valid k i lt (omega (arith, below, front_bounded front.count)) in
                    sym (own (8 * k + i) (omega (arith, from)) (omega (arith, below, lt, whole_end))).same ∙ read ∙ ap (λ (word : List ℕ). get_or word i 0) zeros ∙ byte_of_zeros i)
              ]
        ]

    pub own_marked : (k : ℕ) → size ≤ 8 * k → 8 * k < end → IsMarked size image (8 * k)
    own_marked k from below =
        let is = own (8 * k) from below in
        let page = is.page in
        let low : 8 * (page * 1024) < 2 ^ 60 = omega (arith, is.low, below, front_bounded front.count) in
        record {
          page = page;
          segment = is.segment;
          low = is.low;
          some = λ zero. is.marked (λ i lt. word_is_read size image valid (page * 1024) i lt low ∙ ap (λ (word : List ℕ). get_or word i 0) zero ∙ byte_of_zeros i);
        }

    -- another image that has the same words below the end holds this log too
    module _ (other : DiskImage) (other_lawful : IsLawful size sysid other es 0) (whole : HasAllPages size other) (same : (k : ℕ) → 8 * k < end → image_word size other (8 * k) ≡ image_word size image (8 * k)) where
      pub same_lawful : IsLawful size sysid other es end
      same_lawful = record {
        words = other_lawful.words;
        below = λ k low. same k low ∙ own_word k low;
        there = λ k low owned. elim (cases_lt (8 * k) size) [
          | inl before ↦ absurd (no_owner_before size sysid valid es chained k before owned)
          | inr from ↦
              (let marked = own_marked k from low in
              let at : 8 * (marked.page * 1024) ≡ marked.page * 8192 = omega arith in
              marked_has_page size other k valid whole (record { page = marked.page; segment = marked.segment; low = marked.low; some = λ zero. marked.some (sym (same (marked.page * 1024) (omega (arith, at, marked.low, low))) ∙ zero) }))
        ];
      }

      -- so what it decodes to begins with the same records
      pub begins_with : NoTornPass size (pages_in size other) es → (others : List FoundRecord) (told : Answer) → Decodes size (pages_in size other) size None others told → (behind : List FoundRecord) × (others ≡ found ++ behind)
      begins_with other_torn others told other_decodes =
          let pages = pages_in size other in
          let other_are = image_has_pages size other valid sysid es end chained bounded same_lawful in
          let parts : es ≡ take front.count es ++ drop front.count es = sym (take-append-drop front.count es) in
          let written = front_is_written size sysid pages es end valid known narrow chained bounded other_are (take front.count es) (drop front.count es) parts (omega arith) in
          let reads = subst (λ (l : List FoundRecord). ReadsFrom size pages None (beginning size pages size) l told) (all_is_found size sysid pages es end valid known narrow chained bounded other_are other_torn others told other_decodes) other_decodes.reads in
          let first = written_order_comes_first size sysid pages (take front.count es) written others told reads in
          (first.0, first.1 ∙ ap (λ (l : List FoundRecord). l ++ first.0) (sym front.found_is))

    pub holds_found : HasAllPages size image → HoldsFirstEntries size sysid image es found
    holds_found whole =
        let end_is = end_of_front size es front.count found valid chained front.found_is in
        record {
          count = front.count;
          within = front.within;
          found_is = front.found_is;
          end_is = end_is;
          lawful = subst (IsLawful size sysid image es) (sym end_is) (same_lawful image lawful whole (λ k low. refl));
        }

pub found_logs_stand_in_images : FoundLogsStandInImages
found_logs_stand_in_images size sysid image es valid known narrow chained bounded whole lawful none_torn found answer decodes =
    holds_found size sysid es valid known narrow chained bounded image lawful none_torn found answer decodes whole
