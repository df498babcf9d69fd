-- What a crash leaves of a log that was found, while it is settled and behind it.
use Rattle.std.proofs.Common.{◌≡◌, ℕ, ◌+◌, ◌*◌, ◌/◌, ◌%◌, ◌<◌, ◌≤◌, ◌⊎◌, inl, inr, List, Option, Some, None, refl, sym, ap, subst, ◌∙◌, arith}
use Rattle.std.specs.Int.{w64, to_le_bytes}
use Rattle.std.specs.Option.{IsSomeAnd}
use Rattle.std.proofs.Math.Nat.{div-add-mod}
use Rattle.std.proofs.lemmas.Bool.{cases_lt}
use Rattle.std.proofs.lemmas.Nat.{div_below, le-div}
use Rattle.byte_position.specs.Geometry.{IsSegmentSize, pages_of}
use Rattle.byte_position.specs.Position.{end_address_of}
use Rattle.byte_position.proofs.SegmentSizes.{segment_size_in_pages}
use Rattle.segment_disk.specs.Assured.{DiskImageFits, SegmentAssures, SegmentFits, StateAssures}
use Rattle.segment_disk.specs.DiskImage.{DiskImage, IsWritten, word_of}
use Rattle.segment_disk.specs.ImageWords.{HasPageAt, image_word, zero_word}
use Rattle.segment_disk.specs.Tape.{DiskState, Segment, Tape, state_now}
use Rattle.wal_page.specs.Order.{Entry, IsChained, end_position}
use Rattle.wal_page.specs.Log.{IsLawfulWord, log_word_bytes}
use Rattle.wal_page.proofs.LogWordLaws.{log_word-behind}
use Rattle.flush_core.specs.Settled.{IsAmong, IsAsRead, IsOldOrZero, IsReadOrZero, StaysSettled, IsSettledWord, KeepsOld, MayStand}
use Rattle.flush_core.specs.SettledLog.{AreOnly, IsLogWord, IsZeroOrLogWord, ReadsAsLog, SettledLogsAreWhole, SettlingKeepsLawful, SyncedLogsAreLawful}
use Rattle.flush_core.proofs.LawfulLaws.{no_owner_before, no_word_before, word_fits, word_stands_at}
use Rattle.flush_core.proofs.SettledLeft.{at_number, from_number}

-- what a state assures of each word that may stand holds of one by its page's number
module _ (size : ℕ) (IsThere : ℕ → Type 0) (Fits : ℕ → ℕ → List ℕ → Type 0) (state : DiskState) (valid : IsSegmentSize size) (assures : StateAssures size IsThere Fits state) where
  pub stands_fit : (number word : ℕ) (bytes : List ℕ) (o : Option Segment) → state (number / pages_of size) ≡ o → word < 1024 → IsSomeAnd o (λ s. (bytes ≡ word_of (s.durable (number % pages_of size)) word) ⊎ IsWritten s.writes (number % pages_of size) word bytes)
      → Fits number word bytes
  stands_fit number word bytes None is low may = absurd may
  stands_fit number word bytes (Some s) is low may =
      let whole = segment_size_in_pages size valid in
      let all = subst (SegmentAssures size IsThere Fits (number / pages_of size)) is (assures (number / pages_of size)) in
      let inside : number % pages_of size < pages_of size = omega (arith, whole.1) in
      let at : number / pages_of size * pages_of size + number % pages_of size ≡ number = omega (arith, div-add-mod number (pages_of size)) in
      subst (λ (n : ℕ). Fits n word bytes) at (all.1 (number % pages_of size) word inside low bytes may)

-- below the end it is as it was read
read_below : (size : ℕ) (before : DiskState) (end number word : ℕ) (bytes : List ℕ) → IsAsRead size before number word bytes ⊎ ((end ≤ number * 8192 + 8 * word) × (bytes ≡ zero_word)) → number * 8192 + 8 * word < end → IsAsRead size before number word bytes
read_below size before end number word bytes (inl read) below = read
read_below size before end number word bytes (inr zero) below = absurd (omega (arith, zero.0, below))

module _ (size sysid count end : ℕ) (es : List Entry) (before : DiskState) (valid : IsSegmentSize size) (chained : IsChained size es) where
  -- behind the end of the order the log is 0
  zero_behind : (address : ℕ) → end_address_of size (end_position size es) ≤ address → zero_word ≡ log_word_bytes size sysid es address
  zero_behind address behind = ap (to_le_bytes w64) (sym (log_word-behind size sysid valid es chained address behind))

  -- of another segment nothing was there
  module _ (only : AreOnly count before) (segment page : ℕ) (within : page < pages_of size) (apart : IsAmong count segment → ⊥) where
    nothing_stands : (word : ℕ) (bytes : List ℕ) → MayStand size before (segment * pages_of size + page) word bytes → ⊥
    nothing_stands word bytes may =
        let number = segment * pages_of size + page in
        let P = λ (d : ℕ). IsSomeAnd (before d) (λ s. (bytes ≡ word_of (s.durable (number % pages_of size)) word) ⊎ IsWritten s.writes (number % pages_of size) word bytes) in
        subst (λ (o : Option Segment). IsSomeAnd o (λ s. (bytes ≡ word_of (s.durable (number % pages_of size)) word) ⊎ IsWritten s.writes (number % pages_of size) word bytes)) (only segment apart) (from_number size end valid segment page within P may)

  -- ---- behind all calls

  module _ (only : AreOnly count before) (end_is : end ≡ end_address_of size (end_position size es)) (reads : ReadsAsLog size sysid count es end before) where
    log_word_here : (segment page word : ℕ) (bytes : List ℕ) → page < pages_of size → word < 1024 → IsOldOrZero size before end (segment * pages_of size + page) word bytes → IsSettledWord size before count end (segment * pages_of size + page) word bytes
        → IsLogWord size sysid es (segment * pages_of size + page) word bytes
    log_word_here segment page word bytes within small old settled =
        let number = segment * pages_of size + page in
        let address = number * 8192 + 8 * word in
        let behind = λ (above : end ≤ address). zero_behind address (omega (arith, end_is, above)) in
        let outside = λ (apart : IsAmong count segment → ⊥). let is : IsLogWord size sysid es number word bytes = elim old.1 [
          | inl stands ↦ absurd (nothing_stands only segment page within apart word bytes stands)
          | inr zero ↦ zero.1 ∙ behind zero.0
        ] in is in
        let inside = λ (among : IsAmong count segment).
        (let at = at_number size end valid segment page within (λ d m. IsAmong count d) among in
        let is : IsLogWord size sysid es number word bytes = elim (cases_lt address end) [
          | inl below ↦ reads number word bytes at small below (read_below size before end number word bytes (settled.0 at) below)
          | inr above ↦ settled.1 at above ∙ behind above
        ] in
        is) in
        elim (cases_lt 0 segment) [
          | inl first ↦ elim (cases_lt count segment) [
            | inl beyond ↦ outside (λ among. omega (arith, among.1, beyond))
            | inr upto ↦ inside (omega (arith, first), upto)
          ]
          | inr none ↦ outside (λ among. omega (arith, among.0, none))
        ]

    whole_here : (since moment : ℕ) (tape : Tape) → KeepsOld size before count end since tape → StaysSettled size before count end moment tape → (segment : ℕ) (s : Option Segment) → state_now tape segment ≡ s → SegmentAssures size (IsAmong count) (IsLogWord size sysid es) segment s
    whole_here since moment tape loses settled segment None is = subst (SegmentAssures size (IsAmong count) (IsOldOrZero size before end) segment) is (loses.now segment)
    whole_here since moment tape loses settled segment (Some s) is =
        let old = subst (SegmentAssures size (IsAmong count) (IsOldOrZero size before end) segment) is (loses.now segment) in
        let new = subst (SegmentAssures size (IsAmong count) (IsSettledWord size before count end) segment) is (settled.now segment) in (
          old.0,
          λ page word within low bytes may. log_word_here segment page word bytes within low (old.1 page word within low bytes may) (new.1 page word within low bytes may),
        )

  -- ---- images

  module _ (lawful : StateAssures size (IsAmong count) (IsZeroOrLogWord size sysid es) before) where
    word_lawful : (number word : ℕ) (bytes : List ℕ) → word < 1024 → IsOldOrZero size before end number word bytes → IsZeroOrLogWord size sysid es number word bytes
    word_lawful number word bytes low old = elim old.1 [
      | inl stands ↦ stands_fit size (IsAmong count) (IsZeroOrLogWord size sysid es) before valid lawful number word bytes (before (number / pages_of size)) refl low stands
      | inr zero ↦ inl zero.1
    ]

    module _ (image : DiskImage) (fits : DiskImageFits size (IsAmong count) (IsOldOrZero size before end) image) where
      image_lawful : (k : ℕ) → IsLawfulWord size sysid es (8 * k) (image_word size image (8 * k))
      image_lawful k =
          let place = word_stands_at size valid k in
          elim (word_fits size (IsAmong count) (IsOldOrZero size before end) (8 * k / size) (8 * k % size) (image (8 * k / size)) place.within place.low (fits (8 * k / size))) [
            | inl none ↦ inl none.1
            | inr there ↦ subst (λ (a : ℕ). IsLawfulWord size sysid es a (image_word size image (8 * k))) place.at (word_lawful (8 * k / size * pages_of size + 8 * k % size / 8192) (8 * k % size % 8192 / 8) (image_word size image (8 * k)) place.low there.1)
          ]

pub settled_logs_are_whole : SettledLogsAreWhole
settled_logs_are_whole size sysid count since moment es before tape valid chained only reads loses settled =
    λ segment. whole_here size sysid count (end_address_of size (end_position size es)) es before valid chained only refl reads since moment tape loses settled segment (state_now tape segment) refl

pub settling_keeps_lawful : SettlingKeepsLawful
settling_keeps_lawful size sysid count end moment m es before tape image valid chained lawful loses later leaves = record {
  words = image_lawful size sysid count end es before valid chained lawful image (loses.left m later image leaves);
  below = λ k low. absurd (omega (arith, low));
  there = λ k low. absurd (omega (arith, low));
}

module _ (size sysid count end upto : ℕ) (es : List Entry) (before : DiskState) (image : DiskImage) (valid : IsSegmentSize size) (chained : IsChained size es) (within_end : upto ≤ end) (reached : upto ≤ count * size + size) (reads : ReadsAsLog size sysid count es upto before)
    (fits : DiskImageFits size (IsAmong count) (IsReadOrZero size before count end) image) (k : ℕ) (low : 8 * k < upto) (from : size ≤ 8 * k) where
  segment_among : IsAmong count (8 * k / size)
  segment_among =
      let whole = segment_size_in_pages size valid in
      let some : 0 < size = omega (arith, whole.0, whole.1) in
      let one : 1 * size ≡ size = omega arith in
      let all : (count + 1) * size ≡ count * size + size = omega arith in
      (le-div 1 (8 * k) size some (omega (arith, one, from)), omega (arith, div_below (8 * k) size (count + 1) some (omega (arith, all, reached, low))))

  -- the page is there, and the word is the log's
  there_and_own : HasPageAt size image (8 * k) × (image_word size image (8 * k) ≡ log_word_bytes size sysid es (8 * k))
  there_and_own =
      let place = word_stands_at size valid k in
      let segment = 8 * k / size in
      let page = 8 * k % size / 8192 in
      let word = 8 * k % size % 8192 / 8 in
      let number = segment * pages_of size + page in
      let here : SegmentFits size (IsAmong count) (IsReadOrZero size before count end) segment (image segment) = fits segment in
      elim (word_fits size (IsAmong count) (IsReadOrZero size before count end) segment (8 * k % size) (image segment) place.within place.low here) [
        | inl none ↦ absurd (subst (SegmentFits size (IsAmong count) (IsReadOrZero size before count end) segment) none.0 here segment_among)
        | inr there ↦
            (let among = at_number size end valid segment page place.within (λ d m. IsAmong count d) segment_among in
            let below : number * 8192 + 8 * word < upto = omega (arith, place.at, low) in
            let own = reads number word (image_word size image (8 * k)) among place.low below (read_below size before end number word (image_word size image (8 * k)) (there.1 among) (omega (arith, below, within_end))) in (
              there.0,
              subst (λ (a : ℕ). image_word size image (8 * k) ≡ log_word_bytes size sysid es a) place.at own,
            ))
      ]

pub synced_logs_are_lawful : SyncedLogsAreLawful
synced_logs_are_lawful size sysid count end upto since moment m es before tape image valid chained lawful within_end reached reads loses keeps later after leaves =
    let words = image_lawful size sysid count end es before valid chained lawful image (loses.left m later image leaves) in
    let fits = keeps.left m after image leaves in
    let before_first = λ (k : ℕ) (low : 8 * k < size). let is : image_word size image (8 * k) ≡ log_word_bytes size sysid es (8 * k) = elim (words k) [
      | inl zero ↦ zero ∙ no_word_before size sysid valid es chained k low
      | inr own ↦ own
    ] in is in record {
      words = words;
      below = λ k low. elim (cases_lt (8 * k) size) [
        | inl first ↦ before_first k first
        | inr from ↦ (there_and_own size sysid count end upto es before image valid chained within_end reached reads fits k low from).1
      ];
      there = λ k low owned. elim (cases_lt (8 * k) size) [
        | inl first ↦ absurd (no_owner_before size sysid valid es chained k first owned)
        | inr from ↦ (there_and_own size sysid count end upto es before image valid chained within_end reached reads fits k low from).0
      ];
    }
