-- What the calls by which a log is settled leave of each page, and that nothing waits for a sync.
use Rattle.std.proofs.Common.{◌≡◌, ◌≢◌, ℕ, zero, suc, ◌+◌, ◌-◌, ◌*◌, ◌<◌, ◌≤◌, ◌⊎◌, inl, inr, Bool, true, false, List, [], ◌∷◌, ◌++◌, length, take, drop, replicate, Option, Some, None, refl, sym, ap, subst, ◌∙◌, ◌==◌, if◌then◌else◌, arith}
use Rattle.std.specs.Prelude.{nat_lt, not}
use Rattle.std.specs.List.{filter, flat_map, list_any, range_with_len}
use Rattle.std.proofs.lemmas.Bool.{cases_Bool, cases_eq, cases_lt, eq-eqb, eqb-true, le-ltb, lt-ltb, true≢false}
use Rattle.std.proofs.lemmas.List.{drop-append-le, length-drop, length-take, take-append-drop, take-append-le}
use Rattle.std.proofs.Math.Seq.{drop-append-add}
use Rattle.byte_position.specs.Geometry.{pages_of}
use Rattle.segment_disk.specs.declared.disk.Call.{Call}
use Rattle.segment_disk.specs.declared.disk.CallKind.TheVariants.{Write, Sync}
use Rattle.segment_disk.specs.Tape.{Segment, DiskState, after_call, after_calls, after_writes, page_of_segment, segment_after, sync_call, write_call}
use Rattle.segment_disk.specs.DiskImage.{word_of}
use Rattle.segment_disk.specs.ImageWords.{zero_word}
use Rattle.segment_disk.proofs.ZeroWords.{word_of-zeros}
use Rattle.flush_core.specs.Pages.{unsynced_writes}
use Rattle.flush_core.specs.Settled.{cleared, clear_calls, clear_from, first_to_clear, has_calls, kept_of, page_clears, segment_clears, segments_cleared, settle_calls, sync_calls}
use Rattle.flush_core.proofs.StateLaws.{after_each, after_writes-push}
use Rattle.flush_core.proofs.SettleReads.{AllSpare, pages_spare, reads_spared, segments_spare, syncs_spare}

-- ---- the words of a page that was cleared

word_front : (xs ys : List ℕ) (w : ℕ) → 8 * w + 8 ≤ length xs → word_of (xs ++ ys) w ≡ word_of xs w
word_front xs ys w within =
    let left : 8 ≤ length (drop (8 * w) xs) = omega (arith, length-drop (8 * w) xs, within) in
    ap (take 8) (drop-append-le (8 * w) xs ys (omega (arith, within))) ∙ take-append-le 8 (drop (8 * w) xs) ys left

module _ (from w : ℕ) (bytes : List ℕ) (long : length bytes ≡ 8192) (within : from ≤ 8192) where
  pub cleared_before : 8 * w + 8 ≤ from → word_of (cleared from bytes) w ≡ word_of bytes w
  cleared_before low =
      let front : 8 * w + 8 ≤ length (take from bytes) = omega (arith, length-take from bytes, long, within, low) in
      word_front (take from bytes) (replicate (8192 - from) 0) w front ∙ sym (word_front (take from bytes) (drop from bytes) w front) ∙ ap (λ (l : List ℕ). word_of l w) (take-append-drop from bytes)

  pub cleared_behind : from ≤ 8 * w → w < 1024 → word_of (cleared from bytes) w ≡ zero_word
  cleared_behind behind low =
      let front : length (take from bytes) ≡ from = omega (arith, length-take from bytes, long, within) in
      let at : 8 * w ≡ length (take from bytes) + (8 * w - from) = omega (arith, front, behind) in
      ap (λ (n : ℕ). take 8 (drop n (cleared from bytes))) at ∙ ap (take 8) (drop-append-add (take from bytes) (replicate (8192 - from) 0) (8 * w - from)) ∙ word_of-zeros (8192 - from) (8 * w - from) (omega (arith, behind, low))

no_byte : (xs : List ℕ) → list_any (λ b. not (b == 0)) xs ≡ false → xs ≡ replicate (length xs) 0
no_byte [] none = refl
no_byte (x ∷ xs) none = elim (cases_Bool (x == 0)) [
  | inl zero_is ↦
      (let rest : list_any (λ b. not (b == 0)) xs ≡ false = rw zero_is at none in
      ap (λ (b : ℕ). b ∷ xs) (eqb-true x 0 zero_is) ∙ ap (λ (l : List ℕ). 0 ∷ l) (no_byte xs rest))
  | inr some ↦ (let found = rw some at none in
      absurd cc)
]

-- a page with zeros alone there is cleared already
nothing_to_clear : (from : ℕ) (bytes : List ℕ) → length bytes ≡ 8192 → from ≤ 8192 → list_any (λ b. not (b == 0)) (drop from bytes) ≡ false → cleared from bytes ≡ bytes
nothing_to_clear from bytes long within none =
    let count : 8192 - from ≡ length (drop from bytes) = omega (arith, length-drop from bytes, long, within) in
    ap (λ (n : ℕ). take from bytes ++ replicate n 0) count ∙ ap (λ (l : List ℕ). take from bytes ++ l) (sym (no_byte (drop from bytes) none)) ∙ take-append-drop from bytes

-- ---- what is read of a page behind calls

pub after_calls-append : (st : DiskState) (xs ys : List Call) → after_calls st (xs ++ ys) ≡ after_calls (after_calls st xs) ys
after_calls-append st [] ys = refl
after_calls-append st (x ∷ xs) ys = after_calls-append (after_call st x) xs ys

-- where this is read before the calls, that is behind them
abbrev pub Turns : ℕ → ℕ → List ℕ → List ℕ → List Call → Type 0
Turns segment page before behind calls = (st : DiskState) → page_of_segment (st segment) page ≡ Some before → page_of_segment (after_calls st calls segment) page ≡ Some behind

module _ (segment page : ℕ) where
  pub turns_spared : (bytes : List ℕ) (calls : List Call) → AllSpare segment page calls → Turns segment page bytes bytes calls
  turns_spared bytes calls spares st reads = reads_spared segment page calls st spares ∙ reads

  pub turns_both : (before between behind : List ℕ) (xs ys : List Call) → Turns segment page before between xs → Turns segment page between behind ys → Turns segment page before behind (xs ++ ys)
  turns_both before between behind xs ys first second st reads =
      ap (λ (s : DiskState). page_of_segment (s segment) page) (after_calls-append st xs ys) ∙ second (after_calls st xs) (first st reads)

  written_page : (size : ℕ) (bytes before : List ℕ) (s : Option Segment) → page_of_segment s page ≡ Some before → page_of_segment (segment_after (Write page (record { bytes = bytes })) size true s) page ≡ Some bytes
  written_page size bytes before None reads = absurd (cc reads)
  written_page size bytes before (Some s) reads = elim (cases_Bool (nat_lt page s.pages)) [
    | inl there ↦
        ap (λ b. if b then Some (after_writes (s.writes ++ (page, bytes) ∷ []) page (s.durable page)) else None) there
        ∙ ap (λ (l : List ℕ). Some l) (after_writes-push s.writes (page, bytes) page (s.durable page) ∙ ap (λ b. if b then bytes else after_writes s.writes page (s.durable page)) (eq-eqb page page refl))
    | inr gone ↦ (let none = rw gone at reads in
        absurd (cc none))
  ]

  turns_written : (size : ℕ) (bytes before : List ℕ) → Turns segment page before bytes (write_call size segment page bytes ∷ [])
  turns_written size bytes before st reads =
      after_each st (write_call size segment page bytes) (λ (s : Option Segment). page_of_segment s page ≡ Some bytes) segment (λ same. written_page size bytes before (st segment) reads) (λ other. absurd (other refl))

  turns_cleared : (size from : ℕ) (bytes : List ℕ) → length bytes ≡ 8192 → from ≤ 8192 → Turns segment page bytes (cleared from bytes) (clear_calls size segment page from (Some bytes))
  turns_cleared size from bytes long within = elim (cases_Bool (list_any (λ b. not (b == 0)) (drop from bytes))) [
    | inl some ↦ rw some (turns_written size (cleared from bytes) bytes)
    | inr none ↦ rw (none, nothing_to_clear from bytes long within none) (λ st reads. reads)
  ]

  -- one page of a segment
  turns_pages : (size kept : ℕ) (state : DiskState) (bytes : List ℕ) (first count : ℕ) → page_of_segment (state segment) page ≡ Some bytes → length bytes ≡ 8192 → clear_from kept page ≤ 8192 → first ≤ page → page < first + count
      → Turns segment page bytes (cleared (clear_from kept page) bytes) (page_clears size segment kept state first count)
  turns_pages size kept state bytes first zero reads long within low high = absurd (omega (arith, low, high))
  turns_pages size kept state bytes first (suc count) reads long within low high =
      let own = clear_calls size segment first (clear_from kept first) (page_of_segment (state segment) first) in
      let others = page_clears size segment kept state (first + 1) count in
      elim (cases_eq first page) [
        | inl here ↦
            (let calls : own ≡ clear_calls size segment page (clear_from kept page) (Some bytes) = ap (λ (p : ℕ). clear_calls size segment p (clear_from kept p) (page_of_segment (state segment) p)) here ∙ ap (clear_calls size segment page (clear_from kept page)) reads in
            turns_both bytes (cleared (clear_from kept page) bytes) (cleared (clear_from kept page) bytes) own others
            (subst (Turns segment page bytes (cleared (clear_from kept page) bytes)) (sym calls) (turns_cleared size (clear_from kept page) bytes long within))
            (turns_spared (cleared (clear_from kept page) bytes) others (pages_spare size segment segment page kept state (first + 1) count (λ number above _ _ same. absurd (omega (arith, here, same, above))))))
        | inr other ↦
            turns_both bytes bytes (cleared (clear_from kept page) bytes) own others
            (turns_spared bytes own (subst (AllSpare segment page) (append_nothing own) (pages_spare size segment segment page kept state first 1 (λ number above below _ same. other (omega (arith, same, above, below))))))
            (turns_pages size kept state bytes (first + 1) count reads long within (omega (arith, low, other_is first other low)) (omega (arith, high)))
      ]
    where
      append_nothing : (calls : List Call) → calls ++ [] ≡ calls
      append_nothing [] = refl
      append_nothing (c ∷ calls) = ap (λ (l : List Call). c ∷ l) (append_nothing calls)

      other_is : (first : ℕ) → first ≢ page → first ≤ page → first < page
      other_is first other low = elim (cases_lt first page) [ inl less ↦ less | inr more ↦ absurd (other (omega (arith, low, more))) ]

-- what is left of a page, behind all clears
abbrev pub settled_page : ℕ → ℕ → ℕ → ℕ → List ℕ → List ℕ
settled_page size end segment page bytes =
    let kept = kept_of size end segment in
    if nat_lt page (first_to_clear size kept) then bytes else cleared (clear_from kept page) bytes

module _ (size end segment page : ℕ) (state : DiskState) (bytes : List ℕ) (reads : page_of_segment (state segment) page ≡ Some bytes) (long : length bytes ≡ 8192) (within : page < pages_of size) where
  abbrev kept : ℕ
  kept = kept_of size end segment

  abbrev first : ℕ
  first = first_to_clear size kept

  turns_segment : Turns segment page bytes (settled_page size end segment page bytes) (segment_clears size end state segment)
  turns_segment = elim (cases_lt page first) [
    | inl before ↦
        (let is : bytes ≡ settled_page size end segment page bytes = ap (λ b. if b then bytes else cleared (clear_from kept page) bytes) (sym (lt-ltb page first before)) in
        subst (λ (l : List ℕ). Turns segment page bytes l (segment_clears size end state segment)) is
        (turns_spared segment page bytes (segment_clears size end state segment) (pages_spare size segment segment page kept state first (pages_of size - first) (λ number above _ _ same. absurd (omega (arith, same, above, before))))))
    | inr behind ↦
        (let is : cleared (clear_from kept page) bytes ≡ settled_page size end segment page bytes = ap (λ b. if b then bytes else cleared (clear_from kept page) bytes) (sym (le-ltb page first behind)) in
        let low : clear_from kept page ≤ 8192 = omega (arith, behind, within) in
        subst (λ (l : List ℕ). Turns segment page bytes l (segment_clears size end state segment)) is
        (turns_pages segment page size kept state bytes first (pages_of size - first) reads long low behind (omega (arith, behind, within))))
  ]

  turns_segments : (from count : ℕ) → from ≤ segment → segment < from + count → Turns segment page bytes (settled_page size end segment page bytes) (flat_map (segment_clears size end state) (range_with_len from count))
  turns_segments from zero low high = absurd (omega (arith, low, high))
  turns_segments from (suc count) low high =
      let own = segment_clears size end state from in
      let others = flat_map (segment_clears size end state) (range_with_len (from + 1) count) in
      let new = settled_page size end segment page bytes in
      elim (cases_eq from segment) [
        | inl here ↦
            turns_both segment page bytes new new own others (subst (λ (s : ℕ). Turns segment page bytes new (segment_clears size end state s)) (sym here) turns_segment)
            (turns_spared segment page new others (segments_spare size end segment page state (from + 1) count (λ number above _ same. absurd (omega (arith, here, same, above)))))
        | inr other ↦
            turns_both segment page bytes bytes new own others
            (turns_spared segment page bytes own (pages_spare size from segment page (kept_of size end from) state (first_to_clear size (kept_of size end from)) _ (λ number _ _ same _. other (sym same))))
            (turns_segments (from + 1) count (omega (arith, low, less from other low)) (omega (arith, high)))
      ]
    where
      less : (from : ℕ) → from ≢ segment → from ≤ segment → from < segment
      less from other low = elim (cases_lt from segment) [ inl below ↦ below | inr more ↦ absurd (other (omega (arith, low, more))) ]

  -- behind all calls
  pub turns_settled : (count : ℕ) → 1 ≤ segment → segment ≤ count → Turns segment page bytes (settled_page size end segment page bytes) (settle_calls size end count state)
  turns_settled count low high =
      let new = settled_page size end segment page bytes in
      let clears = flat_map (segment_clears size end state) (range_with_len 1 count) in
      let last = sync_calls size (segments_cleared size end state count) in
      turns_both segment page bytes bytes new (sync_calls size (range_with_len 1 count)) (clears ++ last) (turns_spared segment page bytes _ (syncs_spare size segment page (range_with_len 1 count)))
      (turns_both segment page bytes new new clears last (turns_segments 1 count low (omega (arith, high))) (turns_spared segment page new last (syncs_spare size segment page (segments_cleared size end state count))))

-- ---- nothing waits for a sync

abbrev pub Quiet : ℕ → List Call → Type 0
Quiet segment calls = (st : DiskState) → unsynced_writes (st segment) ≡ [] → unsynced_writes (after_calls st calls segment) ≡ []

abbrev pub Silences : ℕ → List Call → Type 0
Silences segment calls = (st : DiskState) → unsynced_writes (after_calls st calls segment) ≡ []

module _ (segment : ℕ) where
  quiet_both : (xs ys : List Call) → Quiet segment xs → Quiet segment ys → Quiet segment (xs ++ ys)
  quiet_both xs ys first second st none = ap (λ (s : DiskState). unsynced_writes (s segment)) (after_calls-append st xs ys) ∙ second (after_calls st xs) (first st none)

  silent_then : (xs ys : List Call) → Silences segment xs → Quiet segment ys → Silences segment (xs ++ ys)
  silent_then xs ys first second st = ap (λ (s : DiskState). unsynced_writes (s segment)) (after_calls-append st xs ys) ∙ second (after_calls st xs) (first st)

  silent_last : (xs ys : List Call) → Silences segment ys → Silences segment (xs ++ ys)
  silent_last xs ys second st = ap (λ (s : DiskState). unsynced_writes (s segment)) (after_calls-append st xs ys) ∙ second (after_calls st xs)

  synced_none : (size : ℕ) (s : Option Segment) → unsynced_writes (segment_after Sync size true s) ≡ []
  synced_none size None = refl
  synced_none size (Some s) = refl

  quiet_sync : (size other : ℕ) → Quiet segment (sync_call size other ∷ [])
  quiet_sync size other st none = after_each st (sync_call size other) (λ (s : Option Segment). unsynced_writes s ≡ []) segment (λ same. synced_none size (st segment)) (λ apart. none)

  silent_sync : (size other : ℕ) → segment ≡ other → Silences segment (sync_call size other ∷ [])
  silent_sync size other same st = after_each st (sync_call size other) (λ (s : Option Segment). unsynced_writes s ≡ []) segment (λ _. synced_none size (st segment)) (λ apart. absurd (apart same))

  quiet_syncs : (size : ℕ) (xs : List ℕ) → Quiet segment (sync_calls size xs)
  quiet_syncs size [] = λ st none. none
  quiet_syncs size (x ∷ xs) = quiet_both (sync_call size x ∷ []) (sync_calls size xs) (quiet_sync size x) (quiet_syncs size xs)

  -- the list has it
  abbrev Has : List ℕ → Type 0
  Has [] = ⊥
  Has (x ∷ xs) = (segment ≡ x) ⊎ Has xs

  silent_syncs : (size : ℕ) (xs : List ℕ) → Has xs → Silences segment (sync_calls size xs)
  silent_syncs size [] none = absurd none
  silent_syncs size (x ∷ xs) (inl here) = silent_then (sync_call size x ∷ []) (sync_calls size xs) (silent_sync size x here) (quiet_syncs size xs)
  silent_syncs size (x ∷ xs) (inr behind) = silent_last (sync_call size x ∷ []) (sync_calls size xs) (silent_syncs size xs behind)

  has_range : (from count : ℕ) → from ≤ segment → segment < from + count → Has (range_with_len from count)
  has_range from zero low high = absurd (omega (arith, low, high))
  has_range from (suc count) low high = elim (cases_eq segment from) [
    | inl here ↦ inl here
    | inr other ↦ inr (has_range (from + 1) count (elim (cases_lt from segment) [ inl less ↦ omega (arith, less) | inr more ↦ absurd (other (omega (arith, low, more))) ]) (omega (arith, high)))
  ]

  has_filter : (P : ℕ → Bool) (xs : List ℕ) → Has xs → P segment ≡ true → Has (filter P xs)
  has_filter P [] none passes = none
  has_filter P (x ∷ xs) (inl here) passes =
      let own : P x ≡ true = ap P (sym here) ∙ passes in
      rw own (inl here)
  has_filter P (x ∷ xs) (inr behind) passes = elim (cases_Bool (P x)) [
    | inl kept ↦ rw kept (inr (has_filter P xs behind passes))
    | inr left ↦ rw left (has_filter P xs behind passes)
  ]

  pub silent_first : (size count : ℕ) → 1 ≤ segment → segment ≤ count → Silences segment (sync_calls size (range_with_len 1 count))
  silent_first size count low high = silent_syncs size (range_with_len 1 count) (has_range 1 count low (omega (arith, high)))

  quiet_clear : (size at page from : ℕ) (here : Option (List ℕ)) → segment ≢ at → Quiet segment (clear_calls size at page from here)
  quiet_clear size at page from None other = λ st none. none
  quiet_clear size at page from (Some bytes) other = elim (cases_Bool (list_any (λ b. not (b == 0)) (drop from bytes))) [
    | inl some ↦ rw some (λ st none. after_each st (write_call size at page (cleared from bytes)) (λ (s : Option Segment). unsynced_writes s ≡ []) segment (λ same. absurd (other same)) (λ _. none))
    | inr left ↦ rw left (λ st none. none)
  ]

  quiet_pages : (size at bound : ℕ) (state : DiskState) (from count : ℕ) → segment ≢ at → Quiet segment (page_clears size at bound state from count)
  quiet_pages size at bound state from zero other = λ st none. none
  quiet_pages size at bound state from (suc count) other =
      quiet_both (clear_calls size at from (clear_from bound from) (page_of_segment (state at) from)) (page_clears size at bound state (from + 1) count)
      (quiet_clear size at from (clear_from bound from) (page_of_segment (state at) from) other) (quiet_pages size at bound state (from + 1) count other)

  no_calls : (calls : List Call) → has_calls calls ≡ false → [] ≡ calls
  no_calls [] none = refl
  no_calls (c ∷ calls) none = absurd (true≢false none)

  quiet_segments : (size end : ℕ) (state : DiskState) (from count : ℕ) → has_calls (segment_clears size end state segment) ≡ false → Quiet segment (flat_map (segment_clears size end state) (range_with_len from count))
  quiet_segments size end state from zero unwritten = λ st none. none
  quiet_segments size end state from (suc count) unwritten =
      quiet_both (segment_clears size end state from) (flat_map (segment_clears size end state) (range_with_len (from + 1) count))
      (elim (cases_eq segment from) [
        | inl here ↦ subst (Quiet segment) (no_calls (segment_clears size end state segment) unwritten ∙ ap (segment_clears size end state) here) (λ st none. none)
        | inr other ↦ quiet_pages size from (kept_of size end from) state (first_to_clear size (kept_of size end from)) _ other
      ])
      (quiet_segments size end state (from + 1) count unwritten)

  pub silent_settled : (size end count : ℕ) (state : DiskState) → 1 ≤ segment → segment ≤ count → Silences segment (settle_calls size end count state)
  silent_settled size end count state low high =
      let all = range_with_len 1 count in
      let clears = flat_map (segment_clears size end state) all in
      let last = sync_calls size (segments_cleared size end state count) in
      elim (cases_Bool (has_calls (segment_clears size end state segment))) [
        | inl written ↦
            silent_last (sync_calls size all) (clears ++ last)
            (silent_last clears last (silent_syncs size (segments_cleared size end state count) (has_filter (λ s. has_calls (segment_clears size end state s)) all (has_range 1 count low (omega (arith, high))) written)))
        | inr unwritten ↦
            silent_then (sync_calls size all) (clears ++ last) (silent_first size count low high) (quiet_both clears last (quiet_segments size end state 1 count unwritten) (quiet_syncs size (segments_cleared size end state count)))
      ]
