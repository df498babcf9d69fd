-- The words of a page that a pick takes of one write behind another.
use Rattle.std.proofs.Common.{◌≡◌, ◌≢◌, ℕ, zero, suc, ◌+◌, ◌-◌, ◌*◌, ◌%◌, ◌<◌, ◌≤◌, Bool, true, false, List, [], ◌∷◌, ◌++◌, length, get_or, take, drop, refl, sym, ap, subst, ◌∙◌, ◌==◌, if◌then◌else◌, add-one, arith, inl, inr}
use Rattle.std.proofs.lemmas.Bool.{cases_lt}
use Rattle.std.proofs.lemmas.Bool.Decides.{eqb_tells}
use Rattle.std.proofs.lemmas.List.{get_or_append_left, get_or_push, get_or_past, length_push, take_more, append-nil, length-take-le, length-drop}
use Rattle.std.proofs.lemmas.Slice.{between_is, between-put_mid, take-put_mid_below, drop-put_mid}
use borrow.Rule.Slice.PartMut.{put_mid}
use Rattle.segment_disk.specs.DiskImage.{word_of}
use Rattle.segment_disk.specs.declared.memory.pick.Pick.{Pick}
use Rattle.segment_disk.specs.declared.memory.pick.Pick.TheVariants.{Old, New, Odd, List as Listed}
use Rattle.segment_disk.specs.declared.disk.Call.{Call}
use Rattle.segment_disk.specs.Picks.{numbered_page, writes_to}
use Rattle.segment_disk.proofs.Spans.{writes_of-push}
use Rattle.segment_disk.specs.Crash.{AreTaken, HoldTaken, takes_write, number_taken, write_of, writes_of}

-- the words below n are taken, those from n on are as they were
pub record TakenUpto (takes : ℕ → Bool) (old written bytes : List ℕ) (n : ℕ) : Type 0 where
  pub done : (k : ℕ) → k < n → word_of bytes k ≡ (if takes k then word_of written k else word_of old k)
  pub ahead : (k : ℕ) → n ≤ k → k < 1024 → word_of bytes k ≡ word_of old k

module _ (n : ℕ) (into piece : List ℕ) (long : length piece ≡ 8) (within : 8 * n + 8 ≤ length into) where
  word_of-put_below : (k : ℕ) → k < n → word_of (put_mid (8 * n) 8 into piece) k ≡ word_of into k
  word_of-put_below k less =
      let width : 8 * k + 8 - 8 * k ≡ 8 = omega arith in
      let after = put_mid (8 * n) 8 into piece in
      let as_between = λ (bytes : List ℕ). ap (λ (w : ℕ). take w (drop (8 * k) bytes)) (sym width) ∙ between_is bytes (8 * k) (8 * k + 8) in
      as_between after ∙ ap (drop (8 * k)) (take-put_mid_below (8 * n) 8 into piece (8 * k + 8) (omega arith) (omega arith)) ∙ sym (as_between into)

  word_of-put_above : (k : ℕ) → n < k → word_of (put_mid (8 * n) 8 into piece) k ≡ word_of into k
  word_of-put_above k less = ap (take 8) (drop-put_mid (8 * n) 8 into piece (8 * k) (omega arith) (omega arith) long)

  word_of-put_at : word_of (put_mid (8 * n) 8 into piece) n ≡ piece
  word_of-put_at =
      let width : 8 * n + 8 - 8 * n ≡ 8 = omega arith in
      ap (λ (w : ℕ). take w (drop (8 * n) (put_mid (8 * n) 8 into piece))) (sym width) ∙ between-put_mid (8 * n) 8 into piece (8 * n + 8) (omega arith) (omega arith)

module _ (takes : ℕ → Bool) (old written bytes : List ℕ) (n : ℕ) (so_far : TakenUpto takes old written bytes n) (within : n < 1024) where
  pub taken_not : takes n ≡ false → TakenUpto takes old written bytes (n + 1)
  taken_not not = record {
    done = λ k below. elim (cases_lt k n) [
      | inl less ↦ so_far.done k less
      | inr on ↦
          (let same : k ≡ n = omega arith in
          so_far.ahead k (omega arith) (omega arith) ∙ sym (ap (λ (b : Bool). if b then word_of written k else word_of old k) (ap takes same ∙ not)))
    ];
    ahead = λ k above below. so_far.ahead k (omega arith) below;
  }

  pub taken_here : (count : ℕ) (piece : List ℕ) → count ≡ 8 → length bytes ≡ 8192 → length written ≡ 8192 → piece ≡ word_of written n → takes n ≡ true
      → TakenUpto takes old written (put_mid (8 * n) count bytes piece) (n + 1)
  taken_here count piece eight whole all is here =
      let long : length piece ≡ 8 = ap length is ∙ length-take-le 8 (drop (8 * n) written) (omega (arith, length-drop (8 * n) written)) in
      subst (λ (c : ℕ). TakenUpto takes old written (put_mid (8 * n) c bytes piece) (n + 1)) (sym eight) (record {
        done = λ k below. elim (cases_lt k n) [
          | inl less ↦ word_of-put_below n bytes piece long (omega arith) k less ∙ so_far.done k less
          | inr on ↦
              (let same : k ≡ n = omega arith in
              ap (word_of (put_mid (8 * n) 8 bytes piece)) same ∙ word_of-put_at n bytes piece long (omega arith) ∙ is ∙ ap (word_of written) (sym same)
              ∙ sym (ap (λ (b : Bool). if b then word_of written k else word_of old k) (ap takes same ∙ here)))
        ];
        ahead = λ k above below. word_of-put_above n bytes piece long (omega arith) k (omega arith) ∙ so_far.ahead k (omega arith) below;
      })

-- the page of a number among writes with one more
module _ (writes : List (List ℕ)) (written durable : List ℕ) where
  numbered-last : numbered_page (writes ++ written ∷ []) durable (length writes + 1) ≡ written
  numbered-last = rw (add-one) (get_or_push writes written durable (length writes) refl)

  numbered-other : (n : ℕ) → n ≢ length writes + 1 → numbered_page (writes ++ written ∷ []) durable n ≡ numbered_page writes durable n
  numbered-other zero other = refl
  numbered-other (suc n) other = elim (cases_lt n (length writes)) [
    | inl less ↦ get_or_append_left writes (written ∷ []) durable n less
    | inr behind ↦ (let far : length writes < n = omega (arith, other) in get_or_past (writes ++ written ∷ []) n durable (omega (arith, length_push writes written)) ∙ sym (get_or_past writes n durable behind))
  ]

-- which page a word takes, with one write more
takes-push : (pick : Pick) (rest : List ℕ) (writes : List (List ℕ)) (written durable : List ℕ) (k : ℕ)
    → numbered_page (writes ++ written ∷ []) durable (number_taken pick rest (length (writes ++ written ∷ [])) k)
    ≡ (if takes_write pick rest (length writes + 1) k then written else numbered_page writes durable (number_taken pick rest (length writes) k))
takes-push Old rest writes written durable k = refl
takes-push New rest writes written durable k = rw (length_push writes written) (numbered-last writes written durable)
takes-push Odd rest writes written durable k = by_test (k % 2 == 1)
  where
    by_test : (b : Bool) → numbered_page (writes ++ written ∷ []) durable (if b then length (writes ++ written ∷ []) else 0) ≡ (if b then written else numbered_page writes durable (if b then length writes else 0))
    by_test true = rw (length_push writes written) (numbered-last writes written durable)
    by_test false = refl
takes-push (Listed numbers) rest writes written durable k = elim (eqb_tells (get_or rest k 0) (length writes + 1)) [
  | inl same ↦ rw (same.0, same.1) (numbered-last writes written durable)
  | inr other ↦ rw (other.0) (numbered-other writes written durable (get_or rest k 0) other.1)
]

-- before the first write each word is the durable one
pub numbered-none : (durable : List ℕ) (n : ℕ) → numbered_page [] durable n ≡ durable
numbered-none durable zero = refl
numbered-none durable (suc n) = refl

pub HoldTaken-none : (pick : Pick) (rest bytes : List ℕ) → HoldTaken pick rest [] bytes bytes
HoldTaken-none pick rest bytes k below = sym (ap (λ (page : List ℕ). word_of page k) (numbered-none bytes (number_taken pick rest 0 k)))

pub HoldTaken-push : (pick : Pick) (rest : List ℕ) (writes : List (List ℕ)) (written durable before after : List ℕ) → HoldTaken pick rest writes durable before
    → AreTaken (takes_write pick rest (length writes + 1)) before written after → HoldTaken pick rest (writes ++ written ∷ []) durable after
HoldTaken-push pick rest writes written durable before after held taken k below =
    taken k below ∙ ap (λ (w : List ℕ). if takes_write pick rest (length writes + 1) k then word_of written k else w) (held k below)
    ∙ by_test (takes_write pick rest (length writes + 1) k) ∙ sym (ap (λ (page : List ℕ). word_of page k) (takes-push pick rest writes written durable k))
  where
    by_test : (b : Bool) → (if b then word_of written k else word_of (numbered_page writes durable (number_taken pick rest (length writes) k)) k)
        ≡ word_of (if b then written else numbered_page writes durable (number_taken pick rest (length writes) k)) k
    by_test true = refl
    by_test false = refl

writes_to-append : (xs ys : List (ℕ × List ℕ)) (page : ℕ) → writes_to (xs ++ ys) page ≡ writes_to xs page ++ writes_to ys page
writes_to-append [] ys page = refl
writes_to-append (w ∷ xs) ys page = by_test (writes_to-append xs ys page) (w.0 == page)
  where
    by_test : writes_to (xs ++ ys) page ≡ writes_to xs page ++ writes_to ys page → (b : Bool) → (if b then w.1 ∷ writes_to (xs ++ ys) page else writes_to (xs ++ ys) page) ≡ (if b then w.1 ∷ writes_to xs page else writes_to xs page) ++ writes_to ys page
    by_test others true = ap (λ (l : List (List ℕ)). w.1 ∷ l) others
    by_test others false = others

-- the writes of one call more
pub written-more : (calls : List Call) (call : Call) (i segment page : ℕ) → i < length calls → call ≡ get_or calls i call
    → writes_to (writes_of (take (i + 1) calls) segment) page ≡ writes_to (writes_of (take i calls) segment) page ++ writes_to (writes_of (call ∷ []) segment) page
written-more calls call i segment page within is =
    let alone = if segment == call.segment then write_of call.kind else [] in
    ap (λ (cs : List Call). writes_to (writes_of cs segment) page) (take_more calls i call within ∙ ap (λ (c : Call). take i calls ++ c ∷ []) (sym is))
    ∙ ap (λ (ws : List (ℕ × List ℕ)). writes_to ws page) (writes_of-push (take i calls) call segment)
    ∙ writes_to-append (writes_of (take i calls) segment) alone page
    ∙ ap (λ (ws : List (ℕ × List ℕ)). writes_to (writes_of (take i calls) segment) page ++ writes_to ws page) (sym (append-nil alone))

-- what a loop over the calls keeps of a page
pub record TakenAt (pick : Pick) (rest : List ℕ) (writes : List (List ℕ)) (durable bytes : List ℕ) (number index : ℕ) : Type 0 where
  pub number_is : number ≡ length writes
  pub within : number ≤ index
  pub words : HoldTaken pick rest writes durable bytes

module _ (pick : Pick) (rest : List ℕ) (calls : List Call) (call : Call) (i segment page : ℕ) (within : i < length calls) (is : call ≡ get_or calls i call) (durable bytes : List ℕ) (number : ℕ)
    (so_far : TakenAt pick rest (writes_to (writes_of (take i calls) segment) page) durable bytes number i) where
  pub taken_none : writes_to (writes_of (call ∷ []) segment) page ≡ [] → TakenAt pick rest (writes_to (writes_of (take (i + 1) calls) segment) page) durable bytes number (i + 1)
  taken_none none =
      let before = writes_to (writes_of (take i calls) segment) page in
      subst (λ (writes : List (List ℕ)). TakenAt pick rest writes durable bytes number (i + 1)) (sym (written-more calls call i segment page within is ∙ ap (λ (ws : List (List ℕ)). before ++ ws) none ∙ append-nil before))
      (record { number_is = so_far.number_is; within = omega (arith, so_far.within); words = so_far.words })

  pub taken_one : (written after : List ℕ) → writes_to (writes_of (call ∷ []) segment) page ≡ written ∷ [] → AreTaken (takes_write pick rest (number + 1)) bytes written after
      → TakenAt pick rest (writes_to (writes_of (take (i + 1) calls) segment) page) durable after (number + 1) (i + 1)
  taken_one written after one taken =
      let before = writes_to (writes_of (take i calls) segment) page in
      subst (λ (writes : List (List ℕ)). TakenAt pick rest writes durable after (number + 1) (i + 1)) (sym (written-more calls call i segment page within is ∙ ap (λ (ws : List (List ℕ)). before ++ ws) one))
      (record {
        number_is = ap (λ (n : ℕ). n + 1) so_far.number_is ∙ sym (length_push before written);
        within = omega (arith, so_far.within);
        words = HoldTaken-push pick rest before written durable bytes after so_far.words (subst (λ (n : ℕ). AreTaken (takes_write pick rest (n + 1)) bytes written after) so_far.number_is taken);
      })
