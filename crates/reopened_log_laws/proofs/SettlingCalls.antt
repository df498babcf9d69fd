-- What is read of a disk, and may be left of it, behind some of the calls that settle its log.
use Rattle.std.proofs.Common.{◌≡◌, ◌⊎◌, ℕ, zero, suc, ◌+◌, ◌-◌, ◌*◌, ◌<◌, Bool, true, false, List, [], ◌∷◌, ◌++◌, length, take, drop, replicate, slice_get, Option, Some, None, IfSome, inl, inr, refl, sym, ap, subst, ◌∙◌, ◌==◌, arith}
use Rattle.std.specs.Prelude.{not}
use Rattle.std.specs.List.{AllByRecursion, flat_map, list_any, range_with_len}
use Rattle.std.specs.Option.{IsSomeAnd}
use Rattle.std.proofs.lemmas.Bool.{cases_Bool, cases_eq, cases_lt, eq-eqb, le-ltb, lt-ltb, ne_eqb}
use Rattle.std.proofs.lemmas.List.{length-append, length-replicate, length-take}
use Rattle.byte_position.specs.Geometry.{IsSegmentSize, pages_of}
use Rattle.segment_disk.specs.declared.disk.Call.{Call}
use Rattle.segment_disk.specs.declared.disk.CallKind.{CallKind}
use Rattle.segment_disk.specs.declared.disk.CallKind.TheVariants.{Create, Write, Sync}
use Rattle.segment_disk.specs.declared.disk.PageBytes.{PageBytes}
use Rattle.segment_disk.specs.Assured.{CallFits, DiskImageFits, KindFits, SegmentAssures, SegmentFits, StateAssures, TapeAssures}
use Rattle.segment_disk.specs.DiskImage.{image_as_read, word_of}
use Rattle.segment_disk.specs.Tape.{DiskState, Segment, Tape, after_call, after_calls, failed_call, page_as_read, page_of_segment, segment_after, state_now}
use Rattle.flush_core.specs.Calls.{AreMade, with_calls}
use Rattle.flush_core.specs.Settled.{AreThere, HaveWholePages, IsAmong, IsOldOrZero, IsReadOrZero, NextFails, cleared, clear_calls, clear_from, page_clears, segment_clears, segments_cleared, settle_calls, sync_calls}
use Rattle.flush_core.proofs.GrowingTapes.{with_calls-append, with_calls-some}
use Rattle.flush_core.proofs.LeftLaws.{TapeAssures-now, TapeAssures-with_calls, read_word}
use Rattle.flush_core.proofs.SettledLeft.{all_fit, at_number, old_assures, old_clears, read_clears}
use Rattle.flush_core.proofs.SettledPages.{after_calls-append}
use Rattle.flush_core.proofs.StateLaws.{after_each, after_writes-push}
use Rattle.reopened_log_laws.specs.StopsAt.{IsMixOf, write_to}

-- ---- lists of calls

module _ (P : Call → Type 0) where
  abbrev EachCall : List Call → Type 0
  EachCall calls = AllByRecursion P calls

  pub each_both : (xs ys : List Call) → EachCall xs → EachCall ys → EachCall (xs ++ ys)
  each_both [] ys first second = second
  each_both (x ∷ xs) ys first second = (first.0, each_both xs ys first.1 second)

  each_front : (xs ys : List Call) → EachCall (xs ++ ys) → EachCall xs
  each_front [] ys each = tt
  each_front (x ∷ xs) ys each = (each.0, each_front xs ys each.1)

  each_behind : (xs ys : List Call) → EachCall (xs ++ ys) → EachCall ys
  each_behind [] ys each = each
  each_behind (x ∷ xs) ys each = each_behind xs ys each.1

  pub each_take : (n : ℕ) (xs : List Call) → EachCall xs → EachCall (take n xs)
  each_take zero xs each = tt
  each_take (suc n) [] each = tt
  each_take (suc n) (x ∷ xs) each = (each.0, each_take n xs each.1)

-- the call at a place of a list, and of one behind another
some_call : (one other : Call) → Some one ≡ Some other → one ≡ other
some_call one other same = cc

pub each_at : (P : Call → Type 0) (n : ℕ) (xs : List Call) (call : Call) → AllByRecursion P xs → slice_get xs n ≡ Some call → P call
each_at P n [] call each is = absurd (cc is)
each_at P zero (x ∷ xs) call each is = subst P (some_call x call is) each.0
each_at P (suc n) (x ∷ xs) call each is = each_at P n xs call each.1 is

pub get_behind : (xs ys : List Call) (k m : ℕ) → m ≡ length xs + k → slice_get (xs ++ ys) m ≡ slice_get ys k
get_behind [] ys k m at = ap (slice_get ys) (omega (arith, at))
get_behind (x ∷ xs) ys k zero at = absurd (omega (arith, at))
get_behind (x ∷ xs) ys k (suc m) at = get_behind xs ys k m (omega (arith, at))

-- all calls of a list are both
each_and : (P Q : Call → Type 0) (xs : List Call) → AllByRecursion P xs → AllByRecursion Q xs → AllByRecursion (λ (c : Call). P c × Q c) xs
each_and P Q [] first second = tt
each_and P Q (x ∷ xs) first second = ((first.0, second.0), each_and P Q xs first.1 second.1)

each_weaker : (P Q : Call → Type 0) (xs : List Call) → ((c : Call) → P c → Q c) → AllByRecursion P xs → AllByRecursion Q xs
each_weaker P Q [] weaker each = tt
each_weaker P Q (x ∷ xs) weaker each = (weaker x each.0, each_weaker P Q xs weaker each.1)

-- ---- pages are written whole

-- a call makes no segment, and writes a page's 8,192 bytes
abbrev IsWholeKind : CallKind → Type 0
IsWholeKind (Create made) = ⊥
IsWholeKind (Write page bytes) = length bytes.bytes ≡ 8192
IsWholeKind Sync = Unit {0}

abbrev IsWholeCall : Call → Type 0
IsWholeCall call = IsWholeKind call.kind

length-cleared : (from : ℕ) (bytes : List ℕ) → length bytes ≡ 8192 → length (cleared from bytes) ≡ 8192
length-cleared from bytes long = omega (arith, long, length-append (take from bytes) (replicate (8192 - from) 0), length-take from bytes, length-replicate {A = ℕ} (8192 - from) 0)

syncs_whole : (size : ℕ) (xs : List ℕ) → AllByRecursion IsWholeCall (sync_calls size xs)
syncs_whole size [] = tt
syncs_whole size (x ∷ xs) = (tt, syncs_whole size xs)

clear_whole : (size segment page from : ℕ) (here : Option (List ℕ)) → IfSome here (λ bytes. length bytes ≡ 8192) → AllByRecursion IsWholeCall (clear_calls size segment page from here)
clear_whole size segment page from None long = tt
clear_whole size segment page from (Some bytes) long = elim (cases_Bool (list_any (λ b. not (b == 0)) (drop from bytes))) [
  | inl some ↦ rw some (length-cleared from bytes long, tt)
  | inr none ↦ rw none tt
]

module _ (size end : ℕ) (state : DiskState) (whole : HaveWholePages size state) where
  page_long : (s : Option Segment) (page : ℕ) → IfSome s (λ s. (s.pages ≡ pages_of size) × ((page : ℕ) → page < s.pages → length (page_as_read s page) ≡ 8192)) → IfSome (page_of_segment s page) (λ bytes. length bytes ≡ 8192)
  page_long None page all = tt
  page_long (Some s) page all = elim (cases_lt page s.pages) [
    | inl inside ↦ rw (lt-ltb page s.pages inside) (all.1 page inside)
    | inr outside ↦ rw (le-ltb page s.pages outside) tt
  ]

  pages_whole : (segment kept first n : ℕ) → AllByRecursion IsWholeCall (page_clears size segment kept state first n)
  pages_whole segment kept first zero = tt
  pages_whole segment kept first (suc n) =
      each_both IsWholeCall (clear_calls size segment first (clear_from kept first) (page_of_segment (state segment) first)) (page_clears size segment kept state (first + 1) n)
      (clear_whole size segment first (clear_from kept first) (page_of_segment (state segment) first) (page_long (state segment) first (whole segment)))
      (pages_whole segment kept (first + 1) n)

  segments_whole : (from n : ℕ) → AllByRecursion IsWholeCall (flat_map (segment_clears size end state) (range_with_len from n))
  segments_whole from zero = tt
  segments_whole from (suc n) =
      each_both IsWholeCall (segment_clears size end state from) (flat_map (segment_clears size end state) (range_with_len (from + 1) n))
      (pages_whole from _ _ _) (segments_whole (from + 1) n)

  all_whole : (count : ℕ) → AllByRecursion IsWholeCall (settle_calls size end count state)
  all_whole count =
      each_both IsWholeCall (sync_calls size (range_with_len 1 count)) _ (syncs_whole size (range_with_len 1 count))
      (each_both IsWholeCall (flat_map (segment_clears size end state) (range_with_len 1 count)) _ (segments_whole 1 count) (syncs_whole size (segments_cleared size end state count)))

-- ---- what is read behind such calls

-- each page that is there is read as one of which this holds
abbrev PagesRead : ℕ → (ℕ → ℕ → List ℕ → Type 0) → ℕ → Option Segment → Type 0
PagesRead size Holds segment s = IfSome s (λ s. (s.pages ≡ pages_of size) × ((page : ℕ) → page < pages_of size → Holds segment page (page_as_read s page)))

abbrev KindHolds : (ℕ → ℕ → List ℕ → Type 0) → ℕ → CallKind → Type 0
KindHolds Holds segment (Create made) = ⊥
KindHolds Holds segment (Write page bytes) = Holds segment page bytes.bytes
KindHolds Holds segment Sync = Unit {0}

module _ (size : ℕ) (Holds : ℕ → ℕ → List ℕ → Type 0) where
  read_after : (segment geometry : ℕ) (kind : CallKind) (done : Bool) (s : Option Segment) → KindHolds Holds segment kind → PagesRead size Holds segment s → PagesRead size Holds segment (segment_after kind geometry done s)
  read_after segment geometry (Create made) done s holds reads = absurd holds
  read_after segment geometry (Write page bytes) done None holds reads = tt
  read_after segment geometry (Write page bytes) done (Some s) holds reads = (
    reads.0,
    λ n within. subst (Holds segment n) (sym (after_writes-push s.writes (page, bytes.bytes) n (s.durable n)))
        (elim (cases_eq page n) [
          | inl same ↦ rw (eq-eqb page n same) (subst (λ (m : ℕ). Holds segment m bytes.bytes) same holds)
          | inr other ↦ rw (ne_eqb page n other) (reads.1 n within)
        ]),
  )
  read_after segment geometry Sync done None holds reads = tt
  read_after segment geometry Sync true (Some s) holds reads = (reads.0, λ n within. reads.1 n within)
  read_after segment geometry Sync false (Some s) holds reads = reads

  read_behind : (state : DiskState) (calls : List Call) → AllByRecursion (λ (c : Call). KindHolds Holds c.segment c.kind) calls → ((segment : ℕ) → PagesRead size Holds segment (state segment)) → (segment : ℕ) → PagesRead size Holds segment (after_calls state calls segment)
  read_behind state [] each reads segment = reads segment
  read_behind state (call ∷ calls) each reads segment =
      read_behind (after_call state call) calls each.1
      (λ n. after_each state call (PagesRead size Holds n) n
      (λ same. read_after n call.geometry call.kind call.done (state n) (subst (λ (m : ℕ). KindHolds Holds m call.kind) (sym same) each.0) (reads n))
      (λ _. reads n)) segment

-- ---- the calls that settle a log

module _ (size count end : ℕ) (valid : IsSegmentSize size) (before : DiskState) (whole : HaveWholePages size before) (there : AreThere before count) where
  -- a call that leaves old words and zeros, and is read as what was read and zeros
  abbrev pub Settles : Call → Type 0
  Settles call = CallFits size (IsOldOrZero size before end) call × CallFits size (IsReadOrZero size before count end) call × IsWholeCall call

  -- a page is whole, and has what was read and zeros
  abbrev IsReadPage : ℕ → ℕ → List ℕ → Type 0
  IsReadPage segment page bytes = (length bytes ≡ 8192) × ((word : ℕ) → word < 1024 → IsReadOrZero size before count end (segment * pages_of size + page) word (word_of bytes word))

  kind_holds : (geometry segment : ℕ) (kind : CallKind) → KindFits size (IsReadOrZero size before count end) geometry segment kind → IsWholeKind kind → KindHolds IsReadPage segment kind
  kind_holds geometry segment (Create made) fits long = long
  kind_holds geometry segment (Write page bytes) fits long = (long, fits.2)
  kind_holds geometry segment Sync fits long = tt

  failed_settles : (geometry segment : ℕ) (kind : CallKind) (done made : Bool) → KindFits size (IsOldOrZero size before end) geometry segment kind → KindFits size (IsReadOrZero size before count end) geometry segment kind → IsWholeKind kind
      → (let call : Call = record { geometry = geometry; segment = segment; kind = kind; done = done } in Settles (failed_call made call))
  failed_settles geometry segment (Create any) done made old reads long = absurd long
  failed_settles geometry segment (Write page bytes) done made old reads long = (old, reads, long)
  failed_settles geometry segment Sync done made old reads long = (tt, tt, tt)

  pub all_settle : AllByRecursion Settles (settle_calls size end count before)
  all_settle =
      let calls = settle_calls size end count before in
      let old = all_fit size (IsOldOrZero size before end) end count before (old_clears size end count valid before whole there) in
      let reads = all_fit size (IsReadOrZero size before count end) end count before (read_clears size end count valid before whole there) in
      let both = each_and (CallFits size (IsReadOrZero size before count end)) IsWholeCall calls reads (all_whole size end before whole count) in
      each_weaker (λ (c : Call). CallFits size (IsOldOrZero size before end) c × (CallFits size (IsReadOrZero size before count end) c × IsWholeCall c)) Settles calls (λ c is. (is.0, is.1.0, is.1.1))
      (each_and (CallFits size (IsOldOrZero size before end)) (λ (c : Call). CallFits size (IsReadOrZero size before count end) c × IsWholeCall c) calls old both)

  -- a front of such calls was made, and maybe the next one, which failed
  pub made_settle : (old new : Option Tape) (m0 m1 : ℕ) (front others : List Call) → AllByRecursion Settles (front ++ others) → (AreMade old new m0 m1 front ⊎ NextFails (with_calls old front) new (m0 + length front) m1 others)
      → (calls : List Call) × (new ≡ with_calls old calls) × AllByRecursion Settles calls
  made_settle old new m0 m1 front others each (inl made) = (front, made.tape, each_front Settles front others each)
  made_settle old new m0 m1 front [] each (inr fails) = absurd fails
  made_settle old new m0 m1 front (next ∷ others) each (inr fails) = elim fails [
    | inl failed ↦
        (let last = failed_call failed.0 next in
        let is = (each_behind Settles front (next ∷ others) each).0 in (
          front ++ last ∷ [],
          failed.1.tape ∙ sym (with_calls-append old front (last ∷ [])),
          each_both Settles front (last ∷ []) (each_front Settles front (next ∷ others) each) (failed_settles next.geometry next.segment next.kind next.done failed.0 is.0 is.1 is.2, tt),
        ))
    | inr not_made ↦ (front, not_made.same_tape, each_front Settles front (next ∷ others) each)
  ]

  -- ---- what the disk is behind some of them

  first_here : (segment : ℕ) (s : Option Segment) → before segment ≡ s → IfSome s (λ s. (s.pages ≡ pages_of size) × ((page : ℕ) → page < s.pages → length (page_as_read s page) ≡ 8192)) → PagesRead size IsReadPage segment s
  first_here segment None is all = tt
  first_here segment (Some s) is all = (
    all.0,
    λ page within. (
      all.1 page (omega (arith, all.0, within)),
      λ word low among. inl (at_number size end valid segment page within (λ d m. IsSomeAnd (before d) (λ x. word_of (page_as_read s page) word ≡ word_of (page_as_read x m) word))
          (subst (λ (o : Option Segment). IsSomeAnd o (λ x. word_of (page_as_read s page) word ≡ word_of (page_as_read x page) word)) (sym is) refl)),
    ),
  )

  module _ (t : Tape) (moment : ℕ) (counted : moment ≡ length t.calls) (now_is : state_now t ≡ before) (calls : List Call) (each : AllByRecursion Settles calls) where
    abbrev pub with_more : Tape
    with_more = record t { calls = t.calls ++ calls }

    -- what may be left
    pub old_behind : StateAssures size (IsAmong count) (IsOldOrZero size before end) (state_now with_more)
    old_behind =
        let Fits = IsOldOrZero size before end in
        let first : StateAssures size (IsAmong count) Fits (state_now t) = subst (StateAssures size (IsAmong count) Fits) (sym now_is) (old_assures size end count valid before whole there) in
        let tapes = TapeAssures-with_calls size (IsAmong count) Fits moment (Some t) calls (each_weaker Settles (CallFits size Fits) calls (λ c is. is.0) each) (TapeAssures-now size (IsAmong count) Fits moment t counted first) in
        (subst (λ (o : Option Tape). IfSome o (TapeAssures size (IsAmong count) Fits moment)) (with_calls-some t calls) tapes).now

    -- what is read
    reads_behind : (segment : ℕ) → PagesRead size IsReadPage segment (state_now with_more segment)
    reads_behind segment =
        let holds = each_weaker Settles (λ (c : Call). KindHolds IsReadPage c.segment c.kind) calls (λ c is. kind_holds c.geometry c.segment c.kind is.1 is.2) each in
        let state_is : state_now with_more ≡ after_calls before calls = after_calls-append t.at_first t.calls calls ∙ ap (λ (st : DiskState). after_calls st calls) now_is in
        subst (λ (st : DiskState). PagesRead size IsReadPage segment (st segment)) (sym state_is)
        (read_behind size IsReadPage before calls holds (λ n. first_here n (before n) refl (whole n)) segment)

    read_fits : (segment : ℕ) (s : Option Segment) → SegmentAssures size (IsAmong count) (IsOldOrZero size before end) segment s → PagesRead size IsReadPage segment s → SegmentFits size (IsAmong count) (IsReadOrZero size before count end) segment (image_as_read (λ (m : ℕ). s) segment)
    read_fits segment None old reads = old
    read_fits segment (Some s) old reads = (reads.0, λ page word within low. (reads.1 page within).1 word low)

    -- a write that is cut short behind them
    pub cut_settles : (geometry segment page : ℕ) (bytes mix : PageBytes) (done : Bool) (s : Segment) → Settles (write_to geometry segment page bytes done) → state_now with_more segment ≡ Some s → IsMixOf (page_as_read s page) bytes.bytes mix.bytes → Settles (write_to geometry segment page mix done)
    cut_settles geometry segment page bytes mix done s fits is mixes =
        let number = segment * pages_of size + page in
        let within = fits.0.1 in
        let old = subst (SegmentAssures size (IsAmong count) (IsOldOrZero size before end) segment) is (old_behind segment) in
        let reads = subst (PagesRead size IsReadPage segment) is (reads_behind segment) in (
          (
            fits.0.0,
            within,
            λ word low. elim (mixes.words word low) [
              | inl was ↦ subst (IsOldOrZero size before end number word) (sym was)
                  (old.1 page word within low (word_of (page_as_read s page) word) (read_word s.writes page word (s.durable page) (word_of (page_as_read s page) word) refl))
              | inr new ↦ subst (IsOldOrZero size before end number word) (sym new) (fits.0.2 word low)
            ],
          ),
          (
            fits.1.0,
            within,
            λ word low. elim (mixes.words word low) [
              | inl was ↦ subst (IsReadOrZero size before count end number word) (sym was) ((reads.1 page within).1 word low)
              | inr new ↦ subst (IsReadOrZero size before count end number word) (sym new) (fits.1.2 word low)
            ],
          ),
          mixes.whole,
        )

    pub reads_old : DiskImageFits size (IsAmong count) (IsReadOrZero size before count end) (image_as_read (state_now with_more))
    reads_old segment = read_fits segment (state_now with_more segment) (old_behind segment) (reads_behind segment)

    page_whole : (s : Option Segment) (segment : ℕ) → PagesRead size IsReadPage segment s → IfSome s (λ s. (s.pages ≡ pages_of size) × ((page : ℕ) → page < s.pages → length (page_as_read s page) ≡ 8192))
    page_whole None segment reads = tt
    page_whole (Some s) segment reads = (reads.0, λ page within. (reads.1 page (omega (arith, within, reads.0))).0)

    pub still_whole : HaveWholePages size (state_now with_more)
    still_whole segment = page_whole (state_now with_more segment) segment (reads_behind segment)
