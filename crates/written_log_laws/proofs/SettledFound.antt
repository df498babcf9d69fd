-- Images that a crash leaves while a log is settled that was found decode to what was found.
use Rattle.std.proofs.Common.{◌≡◌, ◌⊎◌, ℕ, ◌+◌, ◌*◌, ◌/◌, ◌%◌, ◌<◌, ◌≤◌, List, [], ◌∷◌, ◌++◌, length, Option, Some, None, inl, inr, refl, sym, ap, subst, ◌∙◌, append-nil, arith}
use Rattle.std.specs.Prelude.{IfSome, IsSome}
use Rattle.std.specs.Int.{w64, to_le_bytes}
use Rattle.std.specs.Option.{IsSomeAnd}
use Rattle.std.proofs.lemmas.Bool.{cases_lt}
use Rattle.std.proofs.lemmas.List.{length-append}
use Rattle.std.proofs.lemmas.Nat.{div_below, le-div}
use Rattle.byte_position.specs.Geometry.{IsSegmentSize, pages_of}
use Rattle.byte_position.specs.Position.{end_address_of}
use Rattle.byte_position.proofs.SegmentSizes.{segment_size_in_pages}
use Rattle.segment_disk.specs.Assured.{DiskImageFits, IsNowhere, SegmentAssures, SegmentFits, StateAssures}
use Rattle.segment_disk.specs.DiskImage.{DiskImage, IsWritten, image_as_read, word_of}
use Rattle.segment_disk.specs.ImageWords.{HasPageAt, image_word, segment_word, zero_word}
use Rattle.segment_disk.specs.Tape.{DiskState, Segment, after_writes, page_as_read, page_of_segment}
use Rattle.wal_page.specs.Order.{Entry, IsChained, end_position}
use Rattle.wal_page.specs.Log.{log_word_bytes}
use Rattle.wal_page.proofs.LogWordLaws.{log_word-behind}
use Rattle.flush_core.specs.Lawful.{IsLawful}
use Rattle.flush_core.specs.Settled.{IsAmong, IsAsRead, IsOldOrZero, IsReadOrZero, IsSettledWord, MayStand}
use Rattle.flush_core.specs.SettledLog.{AreOnly, IsZeroOrLogWord}
use Rattle.flush_core.proofs.LawfulLaws.{no_owner_before, word_fits, word_stands_at}
use Rattle.flush_core.proofs.SettledLeft.{at_number, from_number}
use Rattle.flush_core.proofs.SettledLogs.{settling_keeps_lawful, stands_fit}
use Rattle.wal_reader.specs.declared.found.Answer.{Answer}
use Rattle.wal_reader.specs.declared.found.Answer.TheVariants.{End}
use Rattle.wal_reader.specs.declared.found.FoundRecord.{FoundRecord}
use Rattle.wal_reader.specs.Pages.{pages_in}
use Rattle.wal_reader.specs.Decodes.{Decodes}
use Rattle.written_log_laws.specs.FoundLog.{HasAllPages, ReadsUntorn, end_behind}
use Rattle.written_log_laws.specs.SettledFound.{CrashedDisksMayHoldLog, CrashedLogsAreFoundAgain, NothingWaits, QuietLogsDecodeToFound, SettledLogsDecodeToFound, SyncedLogsDecodeToFound}
use Rattle.written_log_laws.specs.Torn.{NoTornPass}
use Rattle.written_log_laws.specs.Written.{found_of}
use Rattle.written_log_laws.proofs.FoundImages.{begins_with, end_of_front, front, front_bounded, own_word}
use Rattle.written_log_laws.proofs.FoundLogs.{end_is, entries as found_entries, entries_below, entries_chained, reached, read_front, read_lawful, read_whole}
use Rattle.written_log_laws.proofs.LawfulLaws.{whole_lawful_images_decode}
use Rattle.written_log_laws.proofs.ReadImages.{fits_whole, read_is}

-- lists that begin with each other are the same
same_list : {A : Type 0} (xs ys more less : List A) → xs ≡ ys ++ more → ys ≡ xs ++ less → xs ≡ ys
same_list xs ys [] less first second = first ∙ append-nil ys
same_list xs ys (x ∷ more) less first second =
    absurd (omega (arith, ap length first, ap length second, length-append ys (x ∷ more), length-append xs less))

-- ---- the words of an image beside those that were read

-- what is said of a word by its address: it is as it was read, or it is zero and this holds of its address
abbrev ReadOr : ℕ → DiskState → (ℕ → Type 0) → ℕ → ℕ → List ℕ → Type 0
ReadOr size before Q page word bytes = IsAsRead size before page word bytes ⊎ (Q (page * 8192 + 8 * word) × (bytes ≡ zero_word))

module _ (size sysid count end : ℕ) (es : List Entry) (before : DiskState) (valid : IsSegmentSize size) (only : AreOnly count before) (whole : HasAllPages size (image_as_read before)) (image : DiskImage) (old : DiskImageFits size (IsAmong count) (IsOldOrZero size before end) image) (k : ℕ) where
  abbrev segment_here : ℕ
  segment_here = 8 * k / size

  abbrev page_here : ℕ
  page_here = 8 * k % size / 8192

  abbrev word_here : ℕ
  word_here = 8 * k % size % 8192 / 8

  abbrev number_here : ℕ
  number_here = segment_here * pages_of size + page_here

  abbrev bytes_here : List ℕ
  bytes_here = image_word size image (8 * k)

  nothing_stands : before segment_here ≡ None → MayStand size before number_here word_here bytes_here → ⊥
  nothing_stands none may =
      let place = word_stands_at size valid k in
      let P = λ (d : ℕ). IsSomeAnd (before d) (λ s. (bytes_here ≡ word_of (s.durable (number_here % pages_of size)) word_here) ⊎ IsWritten s.writes (number_here % pages_of size) word_here bytes_here) in
      subst (λ (o : Option Segment). IsSomeAnd o (λ s. (bytes_here ≡ word_of (s.durable (number_here % pages_of size)) word_here) ⊎ IsWritten s.writes (number_here % pages_of size) word_here bytes_here)) none (from_number size end valid segment_here page_here place.within P may)

  -- in a segment that was not there all is zero
  zero_apart : (IsAmong count segment_here → ⊥) → bytes_here ≡ zero_word
  zero_apart apart =
      let place = word_stands_at size valid k in
      elim (word_fits size (IsAmong count) (IsOldOrZero size before end) segment_here (8 * k % size) (image segment_here) place.within place.low (old segment_here)) [
        | inl none ↦ none.1
        | inr there ↦ elim there.1.1 [ inl stands ↦ absurd (nothing_stands (only segment_here apart) stands) | inr zero ↦ zero.1 ]
      ]

  read_apart : (IsAmong count segment_here → ⊥) → image_word size (image_as_read before) (8 * k) ≡ zero_word
  read_apart apart = ap (λ (o : Option Segment). segment_word (image_as_read (λ (m : ℕ). o) segment_here) (8 * k % size)) (only segment_here apart)

  among_or_not : IsAmong count segment_here ⊎ (IsAmong count segment_here → ⊥)
  among_or_not = elim (cases_lt 0 segment_here) [
    | inl first ↦ elim (cases_lt count segment_here) [
      | inl beyond ↦ inr (λ among. omega (arith, among.1, beyond))
      | inr upto ↦ inl (omega (arith, first), upto)
    ]
    | inr none ↦ inr (λ among. omega (arith, among.0, none))
  ]

  -- what holds of a word where its segment is there
  fits_among : (P : ℕ → ℕ → List ℕ → Type 0) → DiskImageFits size (IsAmong count) P image → IsAmong count segment_here → HasPageAt size image (8 * k) × P number_here word_here bytes_here
  fits_among P fits among =
      let place = word_stands_at size valid k in
      elim (word_fits size (IsAmong count) P segment_here (8 * k % size) (image segment_here) place.within place.low (fits segment_here)) [
        | inl none ↦ absurd (subst (SegmentFits size (IsAmong count) P segment_here) none.0 (fits segment_here) among)
        | inr there ↦ there
      ]

  among_number : IsAmong count segment_here → IsAmong count (number_here / pages_of size)
  among_number among = at_number size end valid segment_here page_here (word_stands_at size valid k).within (λ d m. IsAmong count d) among

  word_or_zero : (Q : ℕ → Type 0) (P : ℕ → ℕ → List ℕ → Type 0) → DiskImageFits size (IsAmong count) P image → (IsAmong count (number_here / pages_of size) → P number_here word_here bytes_here → ReadOr size before Q number_here word_here bytes_here)
      → (image_word size image (8 * k) ≡ image_word size (image_as_read before) (8 * k)) ⊎ (Q (8 * k) × (image_word size image (8 * k) ≡ zero_word))
  word_or_zero Q P fits says =
      let place = word_stands_at size valid k in
      elim among_or_not [
        | inr apart ↦ inl (zero_apart apart ∙ sym (read_apart apart))
        | inl among ↦ elim (says (among_number among) (fits_among P fits among).1) [
          | inl read ↦
              (let at : 8 * (number_here * 1024 + word_here) ≡ 8 * k = omega (arith, place.at) in
              inl (read_is size before number_here word_here bytes_here valid whole place.low read ∙ ap (image_word size (image_as_read before)) at))
          | inr zero ↦ inr (subst Q place.at zero.0, zero.1)
        ]
      ]

-- ---- what an image decodes to

module _ (size sysid count : ℕ) (es : List Entry) (before : DiskState) (found : List FoundRecord) (has : ReadsUntorn size sysid count es before found) (only : AreOnly count before) (image : DiskImage) where
  abbrev found_end : ℕ
  found_end = end_behind size found

  abbrev read : DiskImage
  read = image_as_read before

  module _ (old : DiskImageFits size (IsAmong count) (IsOldOrZero size before found_end) image) (lawful : IsLawful size sysid image es 0) (none_torn : NoTornPass size (pages_in size image) es) (told : List FoundRecord) (answer : Answer) (decodes : Decodes size (pages_in size image) size None told answer) where
    whole : HasAllPages size image
    whole = fits_whole size (IsAmong count) (IsOldOrZero size before found_end) image old

    -- words that were lost make no record
    front_of_found : ((k : ℕ) → (image_word size image (8 * k) ≡ image_word size read (8 * k)) ⊎ (image_word size image (8 * k) ≡ zero_word)) → (behind : List FoundRecord) × (found ≡ told ++ behind)
    front_of_found words =
        begins_with size sysid es has.may.valid has.may.known has.may.narrow has.may.chained has.may.bounded image lawful none_torn told answer decodes read (read_lawful size sysid count es before found has) (read_whole size sysid count es before found has)
        (λ k low.
        let own = own_word size sysid es has.may.valid has.may.known has.may.narrow has.may.chained has.may.bounded image lawful none_torn told answer decodes k low in
        elim (words k) [
          | inl same ↦ sym same
          | inr zero ↦ elim ((read_lawful size sysid count es before found has).words k) [ inl zeros ↦ zeros ∙ sym zero | inr is ↦ is ∙ sym own ]
        ])
        has.none_torn found has.answer has.decodes

    -- words that are lost at or above the end alone leave what was found
    just_found : ((k : ℕ) → (image_word size image (8 * k) ≡ image_word size read (8 * k)) ⊎ ((found_end ≤ 8 * k) × (image_word size image (8 * k) ≡ zero_word))) → told ≡ found
    just_found words =
        let less = front_of_found (λ k. elim (words k) [ inl same ↦ inl same | inr zero ↦ inr zero.1 ]) in
        let at = front size sysid es has.may.valid has.may.known has.may.narrow has.may.chained has.may.bounded read (read_lawful size sysid count es before found has) has.none_torn found has.answer has.decodes in
        let end_is = end_of_front size es at.count found has.may.valid has.may.chained at.found_is in
        let more =
        begins_with size sysid es has.may.valid has.may.known has.may.narrow has.may.chained has.may.bounded read (read_lawful size sysid count es before found has) has.none_torn found has.answer has.decodes image lawful whole
        (λ k low. elim (words k) [ inl same ↦ same | inr zero ↦ absurd (omega (arith, zero.0, low, end_is)) ]) none_torn told answer decodes in
        same_list told found more.0 less.0 more.1 less.1

-- ---- before the end of the first syncs

quiet_read : (s : Option Segment) (page word : ℕ) (bytes : List ℕ) → IfSome s (λ s. s.writes ≡ []) → IsSomeAnd s (λ s. (bytes ≡ word_of (s.durable page) word) ⊎ IsWritten s.writes page word bytes) → IsSomeAnd s (λ s. bytes ≡ word_of (page_as_read s page) word)
quiet_read None page word bytes quiet stands = absurd stands
quiet_read (Some s) page word bytes quiet (inl kept) = kept ∙ ap (λ (writes : List (ℕ × List ℕ)). word_of (after_writes writes page (s.durable page)) word) (sym quiet)
quiet_read (Some s) page word bytes quiet (inr written) = absurd (subst (λ (writes : List (ℕ × List ℕ)). IsWritten writes page word bytes) quiet written)

pub quiet_logs_decode_to_found : QuietLogsDecodeToFound
quiet_logs_decode_to_found size sysid count moment m es before found tape image has only quiet keeps later leaves none_torn told answer decodes =
    let end = end_behind size found in
    let old = keeps.left m later image leaves in
    let lawful = settling_keeps_lawful size sysid count end moment m es before tape image has.may.valid has.may.chained has.may.lawful keeps later leaves in
    just_found size sysid count es before found has only image old lawful none_torn told answer decodes
    (λ k. word_or_zero size sysid count end es before has.may.valid only (read_whole size sysid count es before found has) image old k (λ a. end ≤ a) (IsOldOrZero size before end) old (λ among word. kept size before quiet end _ _ _ word))
  where
    kept : (size : ℕ) (before : DiskState) → NothingWaits before → (end number word : ℕ) (bytes : List ℕ) → IsOldOrZero size before end number word bytes → ReadOr size before (λ a. end ≤ a) number word bytes
    kept size before quiet end number word bytes old = elim old.1 [
      | inl stands ↦ inl (quiet_read (before (number / pages_of size)) (number % pages_of size) word bytes (quiet (number / pages_of size)) stands)
      | inr zero ↦ inr zero
    ]

-- ---- from the end of the first syncs on

-- an image that has below the end nothing but what was read, and above it that or zeros
pub read_images_decode_to_found : (size sysid count : ℕ) (es : List Entry) (before : DiskState) (found : List FoundRecord) (has : ReadsUntorn size sysid count es before found) → AreOnly count before → (image : DiskImage) → DiskImageFits size (IsAmong count) (IsOldOrZero size before (end_behind size found)) image → DiskImageFits size (IsAmong count) (IsReadOrZero size before count (end_behind size found)) image
    → IsLawful size sysid image es 0 → NoTornPass size (pages_in size image) es → (told : List FoundRecord) (answer : Answer) → Decodes size (pages_in size image) size None told answer → told ≡ found
read_images_decode_to_found size sysid count es before found has only image old reads lawful none_torn told answer decodes =
    let end = end_behind size found in
    just_found size sysid count es before found has only image old lawful none_torn told answer decodes
    (λ k. word_or_zero size sysid count end es before has.may.valid only (read_whole size sysid count es before found has) image old k (λ a. end ≤ a) (IsReadOrZero size before count end) reads (λ among word. word among))

pub synced_logs_decode_to_found : SyncedLogsDecodeToFound
synced_logs_decode_to_found size sysid count since moment m es before found tape image has only keeps reads later after leaves none_torn told answer decodes =
    let lawful = settling_keeps_lawful size sysid count (end_behind size found) since m es before tape image has.may.valid has.may.chained has.may.lawful keeps later leaves in
    read_images_decode_to_found size sysid count es before found has only image (keeps.left m later image leaves) (reads.left m after image leaves) lawful none_torn told answer decodes

-- ---- behind all calls

module _ (size sysid count : ℕ) (es : List Entry) (before : DiskState) (found : List FoundRecord) (has : ReadsUntorn size sysid count es before found) (only : AreOnly count before) (image : DiskImage) (old : DiskImageFits size (IsAmong count) (IsOldOrZero size before (end_behind size found)) image) (settled : DiskImageFits size (IsAmong count) (IsSettledWord size before count (end_behind size found)) image) where
  abbrev entries : List Entry
  entries = found_entries size sysid count es before found has

  chained : IsChained size entries
  chained = entries_chained size sysid count es before found has

  ends_at : end_behind size found ≡ end_address_of size (end_position size entries)
  ends_at = end_is size sysid count es before found has

  beside : (k : ℕ) → (image_word size image (8 * k) ≡ image_word size (image_as_read before) (8 * k)) ⊎ ((end_behind size found ≤ 8 * k) × (image_word size image (8 * k) ≡ zero_word))
  beside k =
      word_or_zero size sysid count (end_behind size found) es before has.may.valid only (read_whole size sysid count es before found has) image old k (λ a. end_behind size found ≤ a) (IsSettledWord size before count (end_behind size found)) settled (λ among word. word.0 among)

  -- at or above the end all is zero
  zero_behind : (k : ℕ) → end_behind size found ≤ 8 * k → image_word size image (8 * k) ≡ zero_word
  zero_behind k above =
      let end = end_behind size found in
      let read = read_whole size sysid count es before found has in
      let place = word_stands_at size has.may.valid k in
      elim (among_or_not size sysid count end es before has.may.valid only read image old k) [
        | inr apart ↦ zero_apart size sysid count end es before has.may.valid only read image old k apart
        | inl among ↦ (fits_among size sysid count end es before has.may.valid only read image old k (IsSettledWord size before count end) settled among).1.1 (among_number size sysid count end es before has.may.valid only read image old k among) (omega (arith, place.at, above))
      ]

  settled_word : (k : ℕ) → image_word size image (8 * k) ≡ log_word_bytes size sysid entries (8 * k)
  settled_word k = elim (cases_lt (8 * k) (end_behind size found)) [
    | inr above ↦ zero_behind k above ∙ ap (to_le_bytes w64) (sym (log_word-behind size sysid has.may.valid entries chained (8 * k) (omega (arith, above, ends_at))))
    | inl below ↦ elim (beside k) [
      | inr zero ↦ absurd (omega (arith, zero.0, below))
      | inl same ↦ same ∙ entries_below size sysid count es before found has k (omega (arith, below, ends_at))
    ]
  ]

  pub settled_lawful : IsLawful size sysid image entries (end_address_of size (end_position size entries))
  settled_lawful = record {
    words = λ k. inr (settled_word k);
    below = λ k low. settled_word k;
    there = λ k low owned. elim (cases_lt (8 * k) size) [
      | inl first ↦ absurd (no_owner_before size sysid has.may.valid entries chained k first owned)
      | inr from ↦
          (let whole = segment_size_in_pages size has.may.valid in
          let some : 0 < size = omega (arith, whole.0, whole.1) in
          let one : 1 * size ≡ size = omega arith in
          let all : (count + 1) * size ≡ count * size + size = omega arith in
          let among : IsAmong count (8 * k / size) = (le-div 1 (8 * k) size some (omega (arith, one, from)), omega (arith, div_below (8 * k) size (count + 1) some (omega (arith, all, reached size sysid count es before found has only, ends_at, low)))) in
          (fits_among size sysid count (end_behind size found) es before has.may.valid only (read_whole size sysid count es before found has) image old k (IsSettledWord size before count (end_behind size found)) settled among).0)
    ];
  }

  pub settled_decodes : Decodes size (pages_in size image) size None found (End (record { 0 = end_behind size found }))
  settled_decodes =
      let decodes = whole_lawful_images_decode size sysid (end_address_of size (end_position size entries)) image entries has.may.valid has.may.known has.may.narrow chained (front_bounded size sysid es has.may.valid has.may.known has.may.narrow has.may.chained has.may.bounded (read_front size sysid count es before found has).count) (omega arith) settled_lawful in
      let at_end = subst (λ (n : ℕ). Decodes size (pages_in size image) size None (found_of size entries) (End (record { 0 = n }))) (sym ends_at) decodes in
      subst (λ (l : List FoundRecord). Decodes size (pages_in size image) size None l (End (record { 0 = end_behind size found }))) (sym (read_front size sysid count es before found has).found_is) at_end

pub settled_logs_decode_to_found : SettledLogsDecodeToFound
settled_logs_decode_to_found size sysid count since moment m es before found tape image has only keeps stays later after leaves =
    settled_decodes size sysid count es before found has only image (keeps.left m later image leaves) (stays.left m after image leaves)

-- ---- a disk that a crash left

-- what stands in a page to which nothing was written since the last sync
stands_as_read : (s : Segment) (page word : ℕ) (bytes : List ℕ) → s.writes ≡ [] → (bytes ≡ word_of (s.durable page) word) ⊎ IsWritten s.writes page word bytes → word_of (page_as_read s page) word ≡ bytes
stands_as_read s page word bytes none stands = sym (quiet_read (Some s) page word bytes none stands)

-- where nothing waits a state assures what holds of it as it is read
module _ (size : ℕ) (IsThere Needed : ℕ → Type 0) (Fits Wanted : ℕ → ℕ → List ℕ → Type 0) (state : DiskState) (quiet : NothingWaits state) (fits : DiskImageFits size IsThere Fits (image_as_read state)) (gone : (segment : ℕ) → state segment ≡ None → Needed segment → ⊥)
    (gives : (number word : ℕ) (bytes : List ℕ) → word < 1024 → Fits number word bytes → Wanted number word bytes) where
  quiet_here : (segment : ℕ) (s : Option Segment) → state segment ≡ s → IfSome s (λ s. s.writes ≡ []) → SegmentFits size IsThere Fits segment (image_as_read (λ (m : ℕ). s) segment) → SegmentAssures size Needed Wanted segment s
  quiet_here segment None is none fit = gone segment is
  quiet_here segment (Some s) is none fit = (
    fit.0,
    λ page word within low bytes may.
        gives (segment * pages_of size + page) word bytes low (subst (Fits (segment * pages_of size + page) word) (stands_as_read s page word bytes none may) (fit.1 page word within low)),
  )

  quiet_assures : StateAssures size Needed Wanted state
  quiet_assures segment = quiet_here segment (state segment) refl (quiet segment) (fits segment)

module _ (size sysid count end : ℕ) (es : List Entry) (before state : DiskState) (valid : IsSegmentSize size) (lawful : StateAssures size (IsAmong count) (IsZeroOrLogWord size sysid es) before) (old : DiskImageFits size (IsAmong count) (IsOldOrZero size before end) (image_as_read state)) (quiet : NothingWaits state) where
  old_lawful : (number word : ℕ) (bytes : List ℕ) → word < 1024 → IsOldOrZero size before end number word bytes → IsZeroOrLogWord size sysid es number word bytes
  old_lawful number word bytes low is = elim is.1 [
    | inl stands ↦ stands_fit size (IsAmong count) (IsZeroOrLogWord size sysid es) before valid lawful number word bytes (before (number / pages_of size)) refl low stands
    | inr zero ↦ inl zero.1
  ]

  none_gone : (segment : ℕ) (s : Option Segment) → s ≡ None → SegmentFits size (IsAmong count) (IsOldOrZero size before end) segment (image_as_read (λ (m : ℕ). s) segment) → IsAmong count segment → ⊥
  none_gone segment None is fit = fit
  none_gone segment (Some s) is fit = absurd cc

  quiet_lawful : StateAssures size (IsAmong count) (IsZeroOrLogWord size sysid es) state
  quiet_lawful =
      quiet_assures size (IsAmong count) (IsAmong count) (IsOldOrZero size before end) (IsZeroOrLogWord size sysid es) state quiet old (λ segment none. none_gone segment (state segment) none (old segment)) old_lawful

  -- it has no segment that was not there
  none_more : (segment : ℕ) (s : Option Segment) → before segment ≡ None → SegmentFits size (IsAmong count) (IsOldOrZero size before end) segment (image_as_read (λ (m : ℕ). s) segment) → s ≡ None
  none_more segment None none fits = refl
  none_more segment (Some s) none fits =
      let whole = segment_size_in_pages size valid in
      let some = from_number size end valid segment 0 (omega (arith, whole.1)) (λ d. IsSome (before d)) (fits.1 0 0 (omega (arith, whole.1)) (omega arith)).0 in
      let gone : IsSome {T = Segment} None = subst (λ (o : Option Segment). IsSome o) none some in
      absurd (cc gone)

  quiet_only : AreOnly count before → AreOnly count state
  quiet_only only segment apart = none_more segment (state segment) (only segment apart) (old segment)

pub crashed_logs_are_found_again : CrashedLogsAreFoundAgain
crashed_logs_are_found_again size sysid count moment m es before state found tape has only keeps later quiet leaves none_torn told answer decodes =
    let old = keeps.left m later (image_as_read state) leaves in (
      record {
        may = record {
          valid = has.may.valid;
          known = has.may.known;
          narrow = has.may.narrow;
          chained = has.may.chained;
          bounded = has.may.bounded;
          lawful = quiet_lawful size sysid count (end_behind size found) es before state has.may.valid has.may.lawful old quiet;
        };
        none_torn = none_torn;
        answer = answer;
        decodes = decodes;
      },
      quiet_only size sysid count (end_behind size found) es before state has.may.valid has.may.lawful old quiet only,
    )

there_is_one : (s : Option Segment) → s ≡ None → IsSome (page_of_segment s 0) → ⊥
there_is_one None none there = absurd (cc there)
there_is_one (Some s) none there = absurd cc

pub crashed_disks_may_hold_log : CrashedDisksMayHoldLog
crashed_disks_may_hold_log size sysid count moment m es state tape assures later quiet leaves there =
    quiet_assures size IsNowhere (IsAmong count) (IsZeroOrLogWord size sysid es) (IsZeroOrLogWord size sysid es) state quiet (assures.left m later (image_as_read state) leaves) (λ segment none among. there_is_one (state segment) none (there segment among)) (λ number word bytes low is. is)
