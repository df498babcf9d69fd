-- Every image that a crash may leave is that of some list of numbers.
use Rattle.std.proofs.Common.{◌≡◌, ℕ, zero, suc, ◌+◌, ◌-◌, ◌*◌, ◌<◌, ◌≤◌, ◌⊎◌, Bool, true, false, List, [], ◌∷◌, ◌++◌, length, get_or, min, All, IfSome, Option, Some, None, refl, sym, ap, ◌∙◌, ◌==◌, if◌then◌else◌, arith, inl, inr, mul-add}
use Rattle.std.proofs.lemmas.Bool.{cases_lt, eq-eqb}
use Rattle.std.proofs.lemmas.List.Elements.{All-append, All-nil, All-push}
use Rattle.std.proofs.lemmas.List.{length-append, get_or_append_left, get_or_push, get_or-append-add, length_push}
use Rattle.segment_disk.specs.Tape.{Segment, DiskState}
use Rattle.segment_disk.specs.DiskImage.{ImageSegment, DiskImage, word_of, IsWritten, MayLeavePage, MayLeaveSegment, MayLeave}
use Rattle.segment_disk.specs.Picks.{IsPicked, IsPickedSegment, by_list, numbered_page, undecided_before, undecided_below, undecided_in, writes_to}
use Rattle.segment_disk.proofs.TakenWords.{numbered-none}

-- the number of the write that has the word
abbrev pub IsNumbered : List (List ℕ) → List ℕ → ℕ → List ℕ → ℕ → Type 0
IsNumbered writes durable k word n = word ≡ word_of (numbered_page writes durable n) k

written_at : (writes : List (ℕ × List ℕ)) (page k : ℕ) (durable word : List ℕ) → IsWritten writes page k word → (n : ℕ) × (word ≡ word_of (get_or (writes_to writes page) n durable) k) × (n < length writes)
written_at [] page k durable word written = absurd written
written_at (w ∷ writes) page k durable word (inl here) =
    (0, here.1 ∙ sym (ap (λ (b : Bool). word_of (get_or (if b then w.1 ∷ writes_to writes page else writes_to writes page) 0 durable) k) (eq-eqb w.0 page here.0)), omega arith)
written_at (w ∷ writes) page k durable word (inr further) = by_test (w.0 == page) (written_at writes page k durable word further)
  where
    by_test : (b : Bool) → (n : ℕ) × (word ≡ word_of (get_or (writes_to writes page) n durable) k) × (n < length writes)
        → (n : ℕ) × (word ≡ word_of (get_or (if b then w.1 ∷ writes_to writes page else writes_to writes page) n durable) k) × (n < length (w ∷ writes))
    by_test true found = (suc found.0, found.1, omega (arith, found.2))
    by_test false found = (found.0, found.1, omega (arith, found.2))

number_of : (writes : List (ℕ × List ℕ)) (page k : ℕ) (durable word : List ℕ) → (word ≡ word_of durable k) ⊎ IsWritten writes page k word → (n : ℕ) × IsNumbered (writes_to writes page) durable k word n × (n ≤ length writes)
number_of writes page k durable word (inl same) = (0, same, omega arith)
number_of writes page k durable word (inr written) = (let found = written_at writes page k durable word written in (suc found.0, found.1, omega (arith, found.2)))

-- the numbers of a page's words, one for each index
word_number : (s : Segment) (page : ℕ) (bytes : List ℕ) → MayLeavePage s page bytes → (k : ℕ) → (k < 1024) ⊎ (1024 ≤ k)
    → (n : ℕ) × (k < 1024 → IsNumbered (writes_to s.writes page) (s.durable page) k (word_of bytes k) n) × (n ≤ length s.writes)
word_number s page bytes left k (inl below) = (let found = number_of s.writes page k (s.durable page) (word_of bytes k) (left.words k below) in (found.0, (λ again. found.1), found.2))
word_number s page bytes left k (inr past) = (0, (λ below. absurd (omega arith)), omega arith)

abbrev pub ArePageNumbers : Segment → ℕ → List ℕ → (ℕ → ℕ) → Type 0
ArePageNumbers s page bytes f = (k : ℕ) → k < 1024 → IsNumbered (writes_to s.writes page) (s.durable page) k (word_of bytes k) (f k)

page_numbers : (s : Segment) (i : ImageSegment) (page : ℕ) → ((p : ℕ) → p < s.pages → MayLeavePage s p (i.page p)) → (page < s.pages) ⊎ (s.pages ≤ page) → (f : ℕ → ℕ) × (page < s.pages → ArePageNumbers s page (i.page page) f) × ((k : ℕ) → f k ≤ length s.writes)
page_numbers s i page left (inl below) = (
  (λ k. (word_number s page (i.page page) (left page below) k (cases_lt k 1024)).0),
  (λ again k inside. (word_number s page (i.page page) (left page below) k (cases_lt k 1024)).1 inside),
  (λ k. (word_number s page (i.page page) (left page below) k (cases_lt k 1024)).2),
)
page_numbers s i page left (inr past) = ((λ k. 0), (λ below. absurd (omega arith)), (λ k. omega arith))

-- the numbers of a segment's words, by page and index
abbrev pub AreNumbers : Option Segment → Option ImageSegment → (ℕ → ℕ → ℕ) → Type 0
AreNumbers None i f = Unit {0}
AreNumbers (Some s) None f = Unit {0}
AreNumbers (Some s) (Some i) f = (page : ℕ) → page < s.pages → ArePageNumbers s page (i.page page) (f page)

-- none of them is above a number
abbrev pub AreAtMost : ℕ → (ℕ → ℕ → ℕ) → Type 0
AreAtMost most f = (page k : ℕ) → f page k ≤ most

segment_numbers : (most : ℕ) (s : Option Segment) (i : Option ImageSegment) → IfSome s (λ s. length s.writes ≤ most) → MayLeaveSegment s i → (f : ℕ → ℕ → ℕ) × AreNumbers s i f × AreAtMost most f
segment_numbers most None i few left = ((λ page k. 0), tt, λ page k. omega arith)
segment_numbers most (Some s) None few left = ((λ page k. 0), tt, λ page k. omega arith)
segment_numbers most (Some s) (Some i) few left = (
  (λ page. (page_numbers s i page left.1 (cases_lt page s.pages)).0),
  (λ page below. (page_numbers s i page left.1 (cases_lt page s.pages)).1 below),
  (λ page k. (let own = (page_numbers s i page left.1 (cases_lt page s.pages)).2 k in omega (arith, own, few))),
)

-- the first n values of a function
values : (ℕ → ℕ) → ℕ → List ℕ
values f zero = []
values f (suc n) = values f n ++ f n ∷ []

length-values : (f : ℕ → ℕ) (n : ℕ) → length (values f n) ≡ n
unfolding values
length-values f zero = refl
length-values f (suc n) = length_push (values f n) (f n) ∙ omega (arith, length-values f n)

value-at : (f : ℕ → ℕ) (n k : ℕ) → k < n → get_or (values f n) k 0 ≡ f k
unfolding values
value-at f zero k below = absurd (omega arith)
value-at f (suc n) k below = elim (cases_lt k n) [
  | inl earlier ↦ get_or_append_left (values f n) (f n ∷ []) 0 k (omega (arith, length-values f n)) ∙ value-at f n k earlier
  | inr last ↦ (let same : k ≡ n = omega arith in ap (λ (m : ℕ). get_or (values f n ++ f n ∷ []) m 0) same ∙ get_or_push (values f n) (f n) 0 n (length-values f n) ∙ ap f (sym same))
]

all-values : (most : ℕ) (f : ℕ → ℕ) (n : ℕ) → ((k : ℕ) → f k ≤ most) → All (λ v. v ≤ most) (values f n)
unfolding values
all-values most f zero few = All-nil (λ v. v ≤ most)
all-values most f (suc n) few = All-push (λ v. v ≤ most) (values f n) (f n) (all-values most f n few) (few n)

module _ (words : ℕ) where
  -- the numbers of a page, if it is undecided
  page_list : List (List ℕ) → (ℕ → ℕ) → List ℕ
  page_list [] f = []
  page_list (w ∷ ws) f = values f words

  length-page_list : (writes : List (List ℕ)) (f : ℕ → ℕ) → length (page_list writes f) ≡ words * min 1 (length writes)
  unfolding page_list
  length-page_list [] f = omega arith
  length-page_list (w ∷ ws) f = (let some : min 1 (suc (length ws)) ≡ 1 = omega arith in length-values f words ∙ sym (ap (λ (n : ℕ). words * n) some ∙ omega arith))

  all-page_list : (most : ℕ) (writes : List (List ℕ)) (f : ℕ → ℕ) → ((k : ℕ) → f k ≤ most) → All (λ v. v ≤ most) (page_list writes f)
  unfolding page_list
  all-page_list most [] f few = All-nil (λ v. v ≤ most)
  all-page_list most (w ∷ ws) f few = all-values most f words few

  -- of the first pages of a segment
  pages_list : List (ℕ × List ℕ) → (ℕ → ℕ → ℕ) → ℕ → List ℕ
  pages_list writes f zero = []
  pages_list writes f (suc page) = pages_list writes f page ++ page_list (writes_to writes page) (f page)

  length-pages_list : (writes : List (ℕ × List ℕ)) (f : ℕ → ℕ → ℕ) (page : ℕ) → length (pages_list writes f page) ≡ words * undecided_below writes page
  unfolding pages_list
  length-pages_list writes f zero = omega arith
  length-pages_list writes f (suc page) =
      length-append (pages_list writes f page) (page_list (writes_to writes page) (f page)) ∙ ap (λ (n : ℕ). n + length (page_list (writes_to writes page) (f page))) (length-pages_list writes f page)
      ∙ ap (λ (n : ℕ). words * undecided_below writes page + n) (length-page_list (writes_to writes page) (f page)) ∙ sym (mul-add words (undecided_below writes page) (min 1 (length (writes_to writes page))))

  all-pages_list : (most : ℕ) (writes : List (ℕ × List ℕ)) (f : ℕ → ℕ → ℕ) (page : ℕ) → AreAtMost most f → All (λ v. v ≤ most) (pages_list writes f page)
  unfolding pages_list
  all-pages_list most writes f zero few = All-nil (λ v. v ≤ most)
  all-pages_list most writes f (suc page) few =
      All-append (λ v. v ≤ most) (pages_list writes f page) (page_list (writes_to writes page) (f page)) (all-pages_list most writes f page few) (all-page_list most (writes_to writes page) (f page) (few page))

  -- further pages add numbers behind
  pages_list-further : (writes : List (ℕ × List ℕ)) (f : ℕ → ℕ → ℕ) (page more at : ℕ) → at < length (pages_list writes f page) → (length (pages_list writes f page) ≤ length (pages_list writes f (page + more))) × (get_or (pages_list writes f (page + more)) at 0 ≡ get_or (pages_list writes f page) at 0)
  unfolding pages_list
  pages_list-further writes f page zero at inside = (let same : page + 0 ≡ page = omega arith in rw same (omega arith, refl))
  pages_list-further writes f page (suc more) at inside =
      let next : page + suc more ≡ suc (page + more) = omega arith in
      let before = pages_list-further writes f page more at inside in
      rw next (omega (arith, before.0, length-append (pages_list writes f (page + more)) (page_list (writes_to writes (page + more)) (f (page + more)))), get_or_append_left (pages_list writes f (page + more)) (page_list (writes_to writes (page + more)) (f (page + more))) 0 at (omega (arith, before.0)) ∙ before.1)

  -- of a segment
  segment_list : Option Segment → (ℕ → ℕ → ℕ) → List ℕ
  segment_list None f = []
  segment_list (Some s) f = pages_list s.writes f s.pages

  length-segment_list : (s : Option Segment) (f : ℕ → ℕ → ℕ) → length (segment_list s f) ≡ words * undecided_in s
  unfolding segment_list
  length-segment_list None f = omega arith
  length-segment_list (Some s) f = length-pages_list s.writes f s.pages

  all-segment_list : (most : ℕ) (s : Option Segment) (f : ℕ → ℕ → ℕ) → AreAtMost most f → All (λ v. v ≤ most) (segment_list s f)
  unfolding segment_list
  all-segment_list most None f few = All-nil (λ v. v ≤ most)
  all-segment_list most (Some s) f few = all-pages_list most s.writes f s.pages few

  module _ (state : DiskState) (f : ℕ → ℕ → ℕ → ℕ) where
    -- of the segments of lower numbers
    disk_list : ℕ → List ℕ
    disk_list zero = []
    disk_list (suc segment) = disk_list segment ++ segment_list (state segment) (f segment)

    length-disk_list : (segment : ℕ) → length (disk_list segment) ≡ words * undecided_before state segment
    unfolding disk_list
    length-disk_list zero = omega arith
    length-disk_list (suc segment) =
        length-append (disk_list segment) (segment_list (state segment) (f segment)) ∙ ap (λ (n : ℕ). n + length (segment_list (state segment) (f segment))) (length-disk_list segment)
        ∙ ap (λ (n : ℕ). words * undecided_before state segment + n) (length-segment_list (state segment) (f segment)) ∙ sym (mul-add words (undecided_before state segment) (undecided_in (state segment)))

    all-disk_list : (most segment : ℕ) → ((n : ℕ) → AreAtMost most (f n)) → All (λ v. v ≤ most) (disk_list segment)
    unfolding disk_list
    all-disk_list most zero few = All-nil (λ v. v ≤ most)
    all-disk_list most (suc segment) few =
        All-append (λ v. v ≤ most) (disk_list segment) (segment_list (state segment) (f segment)) (all-disk_list most segment few) (all-segment_list most (state segment) (f segment) (few segment))

    disk_list-further : (segment more at : ℕ) → at < length (disk_list segment) → (length (disk_list segment) ≤ length (disk_list (segment + more))) × (get_or (disk_list (segment + more)) at 0 ≡ get_or (disk_list segment) at 0)
    unfolding disk_list
    disk_list-further segment zero at inside = (let same : segment + 0 ≡ segment = omega arith in rw same (omega arith, refl))
    disk_list-further segment (suc more) at inside =
        let next : segment + suc more ≡ suc (segment + more) = omega arith in
        let before = disk_list-further segment more at inside in
        rw next (omega (arith, before.0, length-append (disk_list (segment + more)) (segment_list (state (segment + more)) (f (segment + more)))), get_or_append_left (disk_list (segment + more)) (segment_list (state (segment + more)) (f (segment + more))) 0 at (omega (arith, before.0)) ∙ before.1)

    -- what is listed for a word of an undecided page
    listed_word : (bound segment : ℕ) (s : Segment) (page k : ℕ) (w : List ℕ) (ws : List (List ℕ)) → segment < bound → state segment ≡ Some s → page < s.pages → writes_to s.writes page ≡ w ∷ ws → k < words
        → get_or (disk_list bound) (words * (undecided_before state segment + undecided_below s.writes page) + k) 0 ≡ f segment page k
    unfolding disk_list segment_list pages_list page_list
    listed_word bound segment s page k w ws lower is below some inside =
        let place = words * undecided_below s.writes page + k in
        let own = pages_list s.writes (f segment) in
        let before = length-pages_list s.writes (f segment) page in
        let one : page_list (writes_to s.writes page) (f segment page) ≡ values (f segment page) words = ap (λ (l : List (List ℕ)). page_list l (f segment page)) some in
        let long : length (own (suc page)) ≡ words * undecided_below s.writes page + words =
        length-append (own page) (page_list (writes_to s.writes page) (f segment page)) ∙ ap (λ (n : ℕ). n + length (page_list (writes_to s.writes page) (f segment page))) before
        ∙ ap (λ (l : List ℕ). words * undecided_below s.writes page + length l) one ∙ ap (λ (n : ℕ). words * undecided_below s.writes page + n) (length-values (f segment page) words) in
        let further = pages_list-further s.writes (f segment) (suc page) (s.pages - suc page) place (omega (arith, long)) in
        let all : suc page + (s.pages - suc page) ≡ s.pages = omega arith in
        let at_page : get_or (own (suc page)) place 0 ≡ f segment page k =
        ap (λ (n : ℕ). get_or (own (suc page)) (n + k) 0) (sym before) ∙ get_or-append-add (own page) (page_list (writes_to s.writes page) (f segment page)) k 0 ∙ ap (λ (l : List ℕ). get_or l k 0) one ∙ value-at (f segment page) words k inside in
        let in_segment : get_or (own s.pages) place 0 ≡ f segment page k = ap (λ (n : ℕ). get_or (own n) place 0) (sym all) ∙ further.1 ∙ at_page in
        let within : place < length (own s.pages) = (let whole = ap (λ (n : ℕ). length (own n)) (sym all) in omega (arith, whole, further.0, long)) in
        let mine : segment_list (state segment) (f segment) ≡ own s.pages = ap (λ (o : Option Segment). segment_list o (f segment)) is in
        let first = length-disk_list segment in
        let at : words * (undecided_before state segment + undecided_below s.writes page) + k ≡ length (disk_list segment) + place =
        (let split = mul-add words (undecided_before state segment) (undecided_below s.writes page) in omega (arith, split, first)) in
        let in_disk : get_or (disk_list (suc segment)) (length (disk_list segment) + place) 0 ≡ f segment page k =
        get_or-append-add (disk_list segment) (segment_list (state segment) (f segment)) place 0 ∙ ap (λ (l : List ℕ). get_or l place 0) mine ∙ in_segment in
        let room : length (disk_list segment) + place < length (disk_list (suc segment)) =
        (let sum = length-append (disk_list segment) (segment_list (state segment) (f segment)) in let same = ap (λ (l : List ℕ). length l) mine in omega (arith, sum, same, within)) in
        let behind = disk_list-further (suc segment) (bound - suc segment) (length (disk_list segment) + place) room in
        let end : suc segment + (bound - suc segment) ≡ bound = omega arith in
        ap (λ (n : ℕ). get_or (disk_list bound) n 0) at ∙ ap (λ (n : ℕ). get_or (disk_list n) (length (disk_list segment) + place) 0) (sym end) ∙ behind.1 ∙ in_disk

-- with the list's numbers
picked_word : (writes : List (List ℕ)) (durable word : List ℕ) (k given listed : ℕ) → IsNumbered writes durable k word given → ((w : List ℕ) (ws : List (List ℕ)) → writes ≡ w ∷ ws → listed ≡ given) → IsNumbered writes durable k word listed
picked_word [] durable word k given listed is same = is ∙ ap (λ (page : List ℕ). word_of page k) (numbered-none durable given ∙ sym (numbered-none durable listed))
picked_word (w ∷ ws) durable word k given listed is same = is ∙ ap (λ (n : ℕ). word_of (numbered_page (w ∷ ws) durable n) k) (sym (same w ws refl))

picked_segment : (state : DiskState) (f : ℕ → ℕ → ℕ → ℕ) (bound segment : ℕ) (s : Option Segment) (i : Option ImageSegment) → state segment ≡ s → (bound ≤ segment → s ≡ None) → MayLeaveSegment s i → AreNumbers s i (f segment)
    → IsPickedSegment (by_list (disk_list 1024 state f bound)) (undecided_before state segment) s i
picked_segment state f bound segment None None is past left are = tt
picked_segment state f bound segment None (Some i) is past left are = absurd left
picked_segment state f bound segment (Some s) None is past left are = absurd left
picked_segment state f bound segment (Some s) (Some i) is past left are = (
  left.0,
  λ page below. record {
    size = (left.1 page below).length;
    words = λ k inside.
        picked_word (writes_to s.writes page) (s.durable page) (word_of (i.page page) k) k (f segment page k) _ (are page below k inside)
        (λ w ws some. listed_word 1024 state f bound segment s page k w ws lower is below some inside);
  },
)
  where
    lower : segment < bound
    lower = elim (cases_lt segment bound) [ inl less ↦ less | inr over ↦ absurd (gone (past over)) ]
      where
        gone : Some s ≡ None → ⊥
        gone same = cc

-- every image of finitely many segments
pub picked_by_list : (state : DiskState) (bound most : ℕ) (image : DiskImage) → ((segment : ℕ) → bound ≤ segment → state segment ≡ None) → ((segment : ℕ) → IfSome (state segment) (λ s. length s.writes ≤ most)) → MayLeave state image
    → (numbers : List ℕ) × All (λ n. n ≤ most) numbers × IsPicked (by_list numbers) state image
picked_by_list state bound most image none few left =
    let found = λ (segment : ℕ). segment_numbers most (state segment) (image segment) (few segment) (left segment) in
    let f = λ (segment : ℕ). (found segment).0 in (
      disk_list 1024 state f bound,
      all-disk_list 1024 state f most bound (λ segment. (found segment).2),
      λ segment. picked_segment state f bound segment (state segment) (image segment) refl (none segment) (left segment) ((found segment).1),
    )
