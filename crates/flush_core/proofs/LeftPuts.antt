-- What a writer's calls leave to each crash: what was kept, and nothing but what was put.
use Rattle.std.proofs.Common.{◌≡◌, ℕ, ◌+◌, ◌-◌, ◌*◌, ◌/◌, ◌%◌, ◌<◌, ◌≤◌, ◌⊎◌, inl, inr, Bool, nat_lt, false, List, [], ◌∷◌, length, Option, Some, None, IfSome, refl, sym, ap, subst, ◌∙◌, ◌==◌, arith}
use Rattle.std.proofs.lemmas.Bool.{cases_eq, cases_lt, eq-eqb, ne_eqb, ltb-true}
use Rattle.std.proofs.lemmas.Option.{IfSome_then}
use Rattle.std.proofs.Math.Nat.{div-add-mod, div-zero, div-mul-le_self, div-lt_iff_lt-mul, mul-le-mul_right}
use Rattle.byte_position.specs.Geometry.{IsSegmentSize, pages_of}
use Rattle.byte_position.proofs.SegmentSizes.{segment_size_in_pages}
use Rattle.segment_disk.specs.declared.disk.Call.{Call}
use Rattle.segment_disk.specs.Tape.{Segment, DiskState, Tape, zero_page, after_writes, state_now}
use Rattle.segment_disk.specs.DiskImage.{IsWritten, word_of, image_as_read}
use Rattle.flush_core.specs.declared.writer.Writer.{Writer}
use Rattle.flush_core.specs.Calls.{put_calls}
use Rattle.flush_core.specs.Pages.{PutPages, HoldsSegment, HoldsPut, HoldsNothing, unsynced_writes}
use Rattle.segment_disk.specs.Assured.{made_upto}
use Rattle.segment_disk.specs.Assured.{IsMadeUpto, IsNowhere, SegmentAssures, StateAssures, TapeAssures}
use Rattle.flush_core.specs.Left.{IsKeptWord, SameBelow, PutHistory, first_puts, no_puts, with_put, IsWordOf, IsWordPut}
use Rattle.flush_core.specs.Writer.{HoldsLogPages, IsKept, IsWriter}
use Rattle.flush_core.proofs.Words.{durable_word}
use Rattle.flush_core.proofs.LeftLaws.{AllFit, store_fits, TapeAssures-now, TapeAssures-weaker}

pub div_rises : (a b n : ℕ) → a ≤ b → a / n ≤ b / n
div_rises a b n rises = elim (cases_lt 0 n) [
  | inl positive ↦ elim (cases_lt (b / n) (a / n)) [
    | inl falls ↦ (let high : b < a / n * n = (div-lt_iff_lt-mul positive).0 falls in absurd (omega (arith, div-mul-le_self a n)))
    | inr rise ↦ rise
  ]
  | inr none ↦ (let at : n ≡ 0 = omega arith in omega (arith, ap (λ (m : ℕ). a / m) at ∙ div-zero a))
]

-- what was put, with one page more
module _ (page : ℕ) (bytes : List ℕ) where
  put_before : (puts : PutHistory) (n word : ℕ) (found : List ℕ) → IsWordPut puts n word found → IsWordPut (with_put puts page bytes) n word found
  put_before puts n word found put = elim (cases_eq n page) [ inl same ↦ rw (eq-eqb n page same) (inr put) | inr other ↦ rw (ne_eqb n page other) put ]

  pub HoldsOnly-more : (size : ℕ) (puts : PutHistory) (moment : ℕ) (tape : Option Tape) → IfSome tape (TapeAssures size IsNowhere (IsWordPut puts) moment) → IfSome tape (TapeAssures size IsNowhere (IsWordPut (with_put puts page bytes)) moment)
  HoldsOnly-more size puts moment tape assures = IfSome_then tape assures (λ t only. TapeAssures-weaker size IsNowhere (IsWordPut puts) IsNowhere (IsWordPut (with_put puts page bytes)) (λ segment nowhere. nowhere) (put_before puts) moment t only)

module _ (size made written upto page : ℕ) (bytes : List ℕ) (stored : List Call) (are : stored ≡ put_calls size made page upto bytes) (valid : IsSegmentSize size) (at : page ≡ written / 8192) where
  within_segment : page % pages_of size < pages_of size
  within_segment = let whole = segment_size_in_pages size valid in let parts = div-add-mod page (pages_of size) in omega (arith, whole.0, whole.1)

  number : page ≡ page / pages_of size * pages_of size + page % pages_of size
  number = let parts = div-add-mod page (pages_of size) in omega arith

  -- a segment that is new begins where all that is written ends, or above
  begins : written ≤ made * size + size → made < page / pages_of size → written ≤ page / pages_of size * pages_of size * 8192
  begins reached new =
      let count = pages_of size in
      let whole = segment_size_in_pages size valid in
      let more : (made + 1) * size ≤ page / count * size = mul-le-mul_right size (omega arith) in
      let product : page / count * size ≡ page / count * (8192 * count) = ap (λ (m : ℕ). page / count * m) whole.0 in
      omega arith

  -- the calls that put a page fit what is kept below a position that is written
  pub put_keeps : written ≤ made * size + size → (position : ℕ) (pages : PutPages) → position ≤ written → SameBelow position page bytes (pages page) → AllFit size (IsMadeUpto size position) (IsKeptWord position pages) stored
  put_keeps reached position pages low same =
      let count = pages_of size in
      subst (AllFit size (IsMadeUpto size position) (IsKeptWord position pages)) (sym are)
      (store_fits size (IsMadeUpto size position) (IsKeptWord position pages) (page / count) (page % count) bytes (nat_lt made (page / count)) (upto % size == 0) within_segment
      (λ new k word within small below. absurd (omega (arith, begins reached (ltb-true made (page / count) new))))
      (subst (λ (n : ℕ). SameBelow position n bytes (pages n)) number same))

  zeros_put : (puts : List (List ℕ)) (word : ℕ) → IsWordOf puts word (word_of zero_page word)
  zeros_put [] word = refl
  zeros_put (p ∷ puts) word = inr (zeros_put puts word)

  put_now : (puts : PutHistory) (word : ℕ) → IsWordOf (with_put puts page bytes page) word (word_of bytes word)
  put_now puts word = rw (eq-eqb page page refl) (inl refl)

  -- they fit what was put, with this page
  pub put_adds : (puts : PutHistory) → AllFit size IsNowhere (IsWordPut (with_put puts page bytes)) stored
  put_adds puts =
      let count = pages_of size in
      subst (AllFit size IsNowhere (IsWordPut (with_put puts page bytes))) (sym are)
      (store_fits size IsNowhere (IsWordPut (with_put puts page bytes)) (page / count) (page % count) bytes (nat_lt made (page / count)) (upto % size == 0) within_segment
      (λ new k word within small. zeros_put (with_put puts page bytes (page / count * count + k)) word)
      (subst (λ (n : ℕ). (word : ℕ) → word < 1024 → IsWordOf (with_put puts page bytes n) word (word_of bytes word)) number (λ word _. put_now puts word)))

-- what a disk holds and has synced is kept
module _ (size : ℕ) (pages : PutPages) where
  -- each word that a crash may leave of it is that of its page
  held_word : (segment page word : ℕ) (s : Segment) (found : List ℕ) → HoldsSegment size pages segment (image_as_read (λ (n : ℕ). Some s) segment) → s.writes ≡ [] → page < pages_of size → (found ≡ word_of (s.durable page) word) ⊎ IsWritten s.writes page word found
      → found ≡ word_of (pages (segment * pages_of size + page)) word
  held_word segment page word s found holds synced within may =
      let durable : s.durable page ≡ pages (segment * pages_of size + page) = sym (ap (λ (writes : List (ℕ × List ℕ)). after_writes writes page (s.durable page)) synced) ∙ holds.1 page within in
      durable_word s.writes page word found (word_of (s.durable page) word) synced may ∙ ap (λ (bytes : List ℕ). word_of bytes word) durable

  segment_kept : (position segment : ℕ) (s : Option Segment) → HoldsSegment size pages segment (image_as_read (λ (n : ℕ). s) segment) → unsynced_writes s ≡ [] → SegmentAssures size (IsMadeUpto size position) (IsKeptWord position pages) segment s
  segment_kept position segment None holds synced = absurd holds
  segment_kept position segment (Some s) holds synced = (holds.0, λ page word within small found may below. held_word segment page word s found holds synced within may)

  segment_first : (segment : ℕ) (s : Option Segment) → HoldsSegment size pages segment (image_as_read (λ (n : ℕ). s) segment) → unsynced_writes s ≡ [] → SegmentAssures size IsNowhere (IsWordPut (first_puts pages)) segment s
  segment_first segment None holds synced = absurd holds
  segment_first segment (Some s) holds synced = (holds.0, λ page word within small found may. inl (held_word segment page word s found holds synced within may))

  -- a segment that is not there
  absent_kept : (position segment : ℕ) (s : Option Segment) → image_as_read (λ (n : ℕ). s) segment ≡ None → (IsMadeUpto size position segment → ⊥) → SegmentAssures size (IsMadeUpto size position) (IsKeptWord position pages) segment s
  absent_kept position segment None absent out = out
  absent_kept position segment (Some s) absent out = (cc)

  absent_first : (segment : ℕ) (s : Option Segment) → image_as_read (λ (n : ℕ). s) segment ≡ None → SegmentAssures size IsNowhere (IsWordPut (first_puts pages)) segment s
  absent_first segment None absent = λ nowhere. nowhere
  absent_first segment (Some s) absent = (cc)

  state_kept : (written made position : ℕ) (state : DiskState) → position ≤ written → made_upto size written ≤ made → HoldsPut size written made false state pages → StateAssures size (IsMadeUpto size position) (IsKeptWord position pages) state
  state_kept written made position state low as_far holds =
      let rises = div_rises (position - 1) (written - 1) size (omega arith) in
      λ n. elim (cases_eq n 0) [
        | inl zero_th ↦ absent_kept position n (state n) (holds.read.others n (inl zero_th)) (λ below. absurd (omega (arith, below.0)))
        | inr positive ↦ elim (cases_lt made n) [
          | inl above ↦ absent_kept position n (state n) (holds.read.others n (inr above)) (λ below. absurd (omega (arith, below.1)))
          | inr upto ↦ segment_kept position n (state n) (holds.read.there n (omega arith) upto) (holds.synced n (inr refl))
        ]
      ]

-- a disk that holds a log durably leaves nothing but its pages
pub HoldsOnly-resumed : (size written made moment : ℕ) (pages : PutPages) (o : Option Tape) → IfSome o (λ t. moment ≡ length t.calls) → HoldsLogPages size written made o pages → IfSome o (TapeAssures size IsNowhere (IsWordPut (first_puts pages)) moment)
HoldsOnly-resumed size written made moment pages None count there = tt
HoldsOnly-resumed size written made moment pages (Some t) count there =
    let holds = there.holds in
    let state = state_now t in
    let absent = λ (n : ℕ) (none : (n ≡ 0) ⊎ (made < n)). absent_first size pages n (state n) (holds.read.others n none) in
    TapeAssures-now size IsNowhere (IsWordPut (first_puts pages)) moment t count (λ n.
    elim (cases_eq n 0) [
      | inl zero_th ↦ absent n (inl zero_th)
      | inr positive ↦ elim (cases_lt made n) [
        | inl above ↦ absent n (inr above)
        | inr upto ↦ segment_first size pages n (state n) (holds.read.there n (omega arith) upto) (holds.synced n (inr refl))
      ]
    ])

-- a writer for which nothing waits for a sync
pub IsKept-synced : (D : Type 0) (tape : D → Option Tape) (moment_of : D → ℕ) → ((disk : D) → IfSome (tape disk) (λ t. moment_of disk ≡ length t.calls)) → (writer : Writer D) (position moment : ℕ) (pages : PutPages) → writer.unsynced ≡ false
    → position ≤ writer.written.0 → moment ≡ moment_of writer.disk → IsWriter tape writer pages → IsKept tape writer moment position pages
IsKept-synced D tape moment_of counts writer position moment pages synced low now is = (is.reached, by_tape (tape writer.disk) is.holds (counts writer.disk))
  where
    by_tape : (o : Option Tape) → IfSome o (λ t. HoldsPut writer.geometry writer.written.0 writer.made writer.unsynced (state_now t) pages) → IfSome o (λ t. moment_of writer.disk ≡ length t.calls)
        → IfSome o (TapeAssures writer.geometry (IsMadeUpto writer.geometry position) (IsKeptWord position pages) moment)
    by_tape None holds count = tt
    by_tape (Some t) holds count =
        TapeAssures-now writer.geometry (IsMadeUpto writer.geometry position) (IsKeptWord position pages) moment t (now ∙ count)
        (state_kept writer.geometry pages writer.written.0 writer.made position (state_now t) low is.made (subst (λ (b : Bool). HoldsPut writer.geometry writer.written.0 writer.made b (state_now t) pages) synced holds))

-- a disk that holds nothing holds only what was put
pub HoldsOnly-nothing : (size moment : ℕ) (o : Option Tape) → IfSome o (λ t. moment ≡ length t.calls) → HoldsNothing o → IfSome o (TapeAssures size IsNowhere (IsWordPut no_puts) moment)
HoldsOnly-nothing size moment None count nothing = tt
HoldsOnly-nothing size moment (Some t) count nothing =
    TapeAssures-now size IsNowhere (IsWordPut no_puts) moment t count (λ n. subst (SegmentAssures size IsNowhere (IsWordPut no_puts) n) (sym (nothing n)) (λ nowhere. nowhere))
