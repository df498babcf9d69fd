-- What a call of the device does to a word as it is read: a create makes it zeros or leaves it, a
-- write gives the words of its page and leaves all others, a sync leaves it.
use Rattle.std.proofs.Common.{◌≡◌, ◌⊎◌, inl, inr, ℕ, ◌+◌, ◌*◌, ◌/◌, ◌%◌, ◌<◌, Bool, true, false, List, [], ◌∷◌, ◌++◌, Option, Some, None, refl, sym, ap, ◌∙◌, nat_lt, if◌then◌else◌, arith}
use mathlib.Core.Logic.{dite}
use native.Mathlib.Decide.{ℕ_discrete}
use Rattle.byte_position.specs.Geometry.{IsSegmentSize, pages_of}
use Rattle.segment_disk.specs.declared.disk.CallKind.TheVariants.{Create, Write}
use Rattle.segment_disk.specs.declared.disk.PageBytes.{PageBytes}
use Rattle.segment_disk.specs.DiskImage.{image_as_read, word_of}
use Rattle.segment_disk.specs.ImageWords.{image_word, zero_word}
use Rattle.segment_disk.specs.Tape.{DiskState, Segment, after_call, new_segment, page_as_read, segment_after, zero_page}
use Rattle.segment_disk.proofs.ZeroWords.{word_of-zero_page}
use Rattle.flush_core.proofs.StateLaws.{after_each}
use Rattle.machine_state.specs.Reading.{word_read}
use Rattle.machine_laws.proofs.DurableCalls.{image_word_at}
use Rattle.machine_laws.proofs.LogReading.{creating, page_of_address, read_here, syncing, word_in, word_synced, word_unwritten, writing}

-- of two words one is there, where the page is
if_there : (b : Bool) (new old put : List ℕ) → new ≡ put
    → ((if b then new else zero_word) ≡ put)
    ⊎ ((if b then new else zero_word) ≡ (if b then old else zero_word))
if_there true new old put is = inl is
if_there false new old put is = inr refl

module _ (size geometry address : ℕ) (done : Bool) where
  -- a segment that is made holds zeros
  word_made : (made : Bool) (s : Option Segment)
      → (word_in size (segment_after (Create made) geometry done s) address ≡ zero_word)
      ⊎ (word_in size (segment_after (Create made) geometry done s) address
      ≡ word_in size s address)
  word_made false s = inr refl
  word_made true s =
      let n : ℕ = address % size / 8192 in
      let w : ℕ = address % size % 8192 / 8 in
      let zeros : word_of zero_page w ≡ zero_word = word_of-zero_page w (omega arith) in
      inl (either (nat_lt n (new_segment geometry).pages) (word_of zero_page w) zeros)
    where
      either : (b : Bool) (word : List ℕ) → word ≡ zero_word
          → (if b then word else zero_word) ≡ zero_word
      either true word zeros = zeros
      either false word zeros = refl

  -- a page that is written has its words, if it is there
  word_put : (page : ℕ) (bytes : PageBytes) (s : Option Segment) → address % size / 8192 ≡ page
      → (word_in size (segment_after (Write page bytes) geometry done s) address
      ≡ word_of bytes.bytes (address % size % 8192 / 8))
      ⊎ (word_in size (segment_after (Write page bytes) geometry done s) address
      ≡ word_in size s address)
  word_put page bytes None at = inr refl
  word_put page bytes (Some s) at =
      let now : Segment = record s { writes = s.writes ++ (page, bytes.bytes) ∷ [] } in
      let n : ℕ = address % size / 8192 in
      let w : ℕ = address % size % 8192 / 8 in
      if_there (nat_lt n s.pages) (word_of (page_as_read now n) w) (word_of (page_as_read s n) w)
      (word_of bytes.bytes w)
      (ap (λ (p : ℕ). word_of (page_as_read now p) w) at
      ∙ ap (λ (p : List ℕ). word_of p w) (read_here s page geometry done bytes))

module _ (size : ℕ) (valid : IsSegmentSize size) (state : DiskState) where
  -- as it was before
  abbrev Was : ℕ → List ℕ → Type 0
  Was k word = word ≡ word_read size state k

  pub read_created : (segment geometry : ℕ) (made done : Bool) (k : ℕ)
      → (let word = word_read size (after_call state (creating geometry segment made done)) k in
      (word ≡ zero_word) ⊎ Was k word)
  read_created segment geometry made done k =
      after_each state (creating geometry segment made done)
      (λ (s : Option Segment). (word_in size s (8 * k) ≡ zero_word)
      ⊎ Was k (word_in size s (8 * k)))
      (8 * k / size)
      (λ here. word_made size geometry (8 * k) done made (state (8 * k / size)))
      (λ other. inr refl)

  pub read_synced : (segment geometry : ℕ) (done : Bool) (k : ℕ)
      → Was k (word_read size (after_call state (syncing geometry segment done)) k)
  read_synced segment geometry done k =
      after_each state (syncing geometry segment done)
      (λ (s : Option Segment). Was k (word_in size s (8 * k))) (8 * k / size)
      (λ here. word_synced size geometry (8 * k) done (state (8 * k / size)))
      (λ other. refl)

  -- the page with this number in the log is one of a segment's
  module _ (segment page number : ℕ) (within : page < pages_of size)
      (number_is : segment * pages_of size + page ≡ number) where
    -- a word of that page, or one as it was
    abbrev IsOnPage : PageBytes → ℕ → List ℕ → Type 0
    IsOnPage bytes k word = (k / 1024 ≡ number) × (word ≡ word_of bytes.bytes (k % 1024))

    pub read_written : (geometry : ℕ) (bytes : PageBytes) (done : Bool) (k : ℕ)
        → (let word = word_read size
        (after_call state (writing geometry segment page bytes done)) k in
        IsOnPage bytes k word ⊎ Was k word)
    read_written geometry bytes done k =
        let parts = page_of_address size valid (8 * k) in
        let at : ℕ = 8 * k / size in
        let in_page : ℕ = 8 * k % size / 8192 in
        let n : ℕ = 8 * k % size % 8192 / 8 in
        let n_is : n ≡ k % 1024 = omega (arith, parts.2) in
        after_each state (writing geometry segment page bytes done)
        (λ (s : Option Segment). IsOnPage bytes k (word_in size s (8 * k))
        ⊎ Was k (word_in size s (8 * k))) at
        (λ here. dite (ℕ_discrete in_page page)
        (λ same. elim (word_put size geometry (8 * k) done page bytes (state at) same) [
          | inl put ↦ inl (
            omega (arith, parts.0, number_is, same, ap (λ (m : ℕ). m * pages_of size) here),
            put ∙ ap (word_of bytes.bytes) n_is,
          )
          | inr was ↦ inr was
        ])
        (λ apart. inr (word_unwritten size geometry page bytes done (8 * k) (state at)
        (λ e. apart (sym e)))))
        (λ other. inr refl)

    -- a word of that page, in a segment that is there
    pub read_on_page : (s : Segment) → state segment ≡ Some s → s.pages ≡ pages_of size
        → (n : ℕ) → n < 1024
        → word_read size state (number * 1024 + n) ≡ word_of (page_as_read s page) n
    read_on_page s there pages n low =
        ap (image_word size (image_as_read state)) (omega (arith, number_is))
        ∙ image_word_at size valid segment page n within low (image_as_read state)
        (record { pages = s.pages; page = page_as_read s })
        (ap (λ (o : Option Segment). image_as_read (λ (m : ℕ). o) segment) there) pages
