-- What the heads of a record's blocks say of it.
use Rattle.std.proofs.Common.{◌≡◌, ℕ, ◌≤◌, Bool, true, false, ◌&&◌, ◌||◌, ◌==◌, not, nat_le, is_some, List, [], ◌∷◌, length, take, drop, Option, Some, None, Result, Ok, refl, ap, sym, subst, ◌∙◌, arith, IsTrue}
use Rattle.std.specs.List.{list_any, sum_by}
use Rattle.std.proofs.lemmas.List.{length-drop, length-take}
use Rattle.std.proofs.lemmas.List.Sums.{sum_by-cons}
use Rattle.wal_types.specs.declared.record.Block.{Block}
use Rattle.wal_types.specs.declared.record.Record.{Record}
use Rattle.wal_types.specs.declared.record.Xid.{Xid}
use Rattle.wal_spelling.specs.Spelling.{image_bytes}
use Rattle.wal_record.specs.declared.head.BlockHead.{BlockHead}
use Rattle.wal_record.specs.declared.head.ImageHead.{ImageHead}
use Rattle.wal_record.specs.declared.fault.RecErr.{RecErr}
use Rattle.wal_record.specs.Reading.{HeadersRead, block_of, blocks_read, image_len, image_read, payload_len, record_of}
use Rattle.wal_reader.specs.declared.found.RecordHead.{RecordHead}
use Rattle.waldump_filter.specs.declared.Filter.{Filter}
use Rattle.waldump_filter.specs.declared.listed.Listed.{Listed}
use Rattle.waldump_filter.specs.Keeping.{asks_for_block, has_page_image, is_none_or, keeps, meets_block, meets_place, meets_rules}
use Rattle.waldump_text.specs.Sifting.{held_of, images_by_heads, listed_with, meets_by_heads}
use Rattle.waldump_text.specs.Sums.{images_len}

-- ---- the rules

blocks_met : (filter : Filter) (heads : List BlockHead) (payload : List ℕ) → list_any (meets_block filter) (blocks_read heads payload) ≡ list_any (λ (h : BlockHead). meets_place filter h.rel h.blk h.fork) heads
blocks_met filter [] payload = refl
blocks_met filter (h ∷ heads) payload = ap (λ (met : Bool). meets_place filter h.rel h.blk h.fork || met) (blocks_met filter heads (drop (payload_len h) payload))

image_told : (image : Option ImageHead) (bytes : List ℕ) → is_some (image_read image bytes) ≡ is_some image
image_told None bytes = refl
image_told (Some i) bytes = refl

images_met : (heads : List BlockHead) (payload : List ℕ) → has_page_image (blocks_read heads payload) ≡ list_any (λ (h : BlockHead). is_some h.image) heads
images_met [] payload = refl
images_met (h ∷ heads) payload =
    ap (λ (met : Bool). met || has_page_image (blocks_read heads (drop (payload_len h) payload))) (image_told h.image (take (image_len h.image) (take (payload_len h) payload)))
    ∙ ap (λ (met : Bool). is_some h.image || met) (images_met heads (drop (payload_len h) payload))

both : (header asks pages met met_by has has_by : Bool) → met ≡ met_by → has ≡ has_by → (header && (not asks || met) && (not pages || has)) ≡ (header && (not asks || met_by) && (not pages || has_by))
both header asks pages met met_by has has_by a b = rw (a, b) refl

-- what a record carries meets the rules just as its header and the heads of its blocks say
pub met_by_heads : (filter : Filter) (bytes : List ℕ) (said : HeadersRead) → meets_rules filter (record_of bytes said) ≡ meets_by_heads filter bytes said.blocks
met_by_heads filter bytes said = both _ (asks_for_block filter) filter.fullpage _ _ _ _ (blocks_met filter said.blocks said.payload) (images_met said.blocks said.payload)

regrouped : (start a b c d : Bool) → (start && a && b && c && d) ≡ (start && (a && b && c && d))
regrouped true a b c d = refl
regrouped false a b c d = refl

-- a filter keeps what starts at its start or behind it and meets its rules
pub keeps_parts : (filter : Filter) (r : Listed) → keeps filter r ≡ (nat_le filter.start.0 r.start.0 && meets_rules filter r.value)
unfolding keeps
keeps_parts filter r =
    regrouped (nat_le filter.start.0 r.start.0) (is_none_or filter.rmid (λ (rmid : ℕ). r.value.rmid == rmid)) (is_none_or filter.xid (λ (xid : Xid). r.value.xid.0 == xid.0))
    (not (asks_for_block filter) || list_any (meets_block filter) r.value.blocks) (not filter.fullpage || has_page_image r.value.blocks)

both_false : (within met : Bool) → met ≡ false → (within && met) ≡ false
both_false true met not = not
both_false false met not = refl

both_true : (within met : Bool) → within ≡ true → met ≡ true → (within && met) ≡ true
both_true within met a b = rw (a, b) refl

first_false : (within met : Bool) → within ≡ false → (within && met) ≡ false
first_false within met a = rw a refl

module _ (filter : Filter) (r : Listed) where
  pub refused_not_kept : meets_rules filter r.value ≡ false → keeps filter r ≡ false
  refused_not_kept refused = keeps_parts filter r ∙ both_false _ _ refused

  pub met_is_kept : nat_le filter.start.0 r.start.0 ≡ true → meets_rules filter r.value ≡ true → keeps filter r ≡ true
  met_is_kept within met = keeps_parts filter r ∙ both_true _ _ within met

  pub before_not_kept : nat_le filter.start.0 r.start.0 ≡ false → keeps filter r ≡ false
  before_not_kept before = keeps_parts filter r ∙ first_false _ _ before

-- a record that is refused is not kept by the same filter
pub refused_passed_over : (own picked : Filter) (refused : Bool) (spelled value : Record) (head : RecordHead) → own ≡ picked → refused ≡ true → (IsTrue refused → meets_rules own spelled ≡ false) → false ≡ keeps picked (listed_with (held_of refused spelled value) head)
refused_passed_over own picked refused spelled value head same is refuses =
    let refused_by : meets_rules picked spelled ≡ false = subst (λ (by : Filter). meets_rules by spelled ≡ false) same (refuses is) in
    rw is (sym (refused_not_kept picked (listed_with spelled head) refused_by))

pub same_record : (a b : Record) → ◌≡◌ {A = Result Record RecErr} (Ok a) (Ok b) → a ≡ b
same_record a b is = cc

-- ---- the images

image_has : (image : Option ImageHead) (bytes : List ℕ) → image_len image ≤ length bytes → length (image_bytes (image_read image (take (image_len image) bytes))) ≡ image_len image
image_has None bytes le = refl
image_has (Some i) bytes le = length-take i.len bytes ∙ omega arith

pub images_told : (heads : List BlockHead) (payload : List ℕ) → sum_by payload_len heads ≤ length payload → images_len (blocks_read heads payload) ≡ images_by_heads heads
images_told [] payload long = refl
images_told (h ∷ heads) payload long =
    let own = take (payload_len h) payload in
    let rest = drop (payload_len h) payload in
    let parts = sum_by-cons payload_len h heads in
    let here : image_len h.image ≤ length own = omega (arith, parts, length-take (payload_len h) payload) in
    let behind : sum_by payload_len heads ≤ length rest = omega (arith, parts, length-drop (payload_len h) payload) in
    omega (arith, sum_by-cons (λ (b : Block). length (image_bytes b.image)) (block_of h own) (blocks_read heads rest), sum_by-cons (λ (b : BlockHead). image_len b.image) h heads, image_has h.image own here, images_told heads rest behind)

pub images_within : (heads : List BlockHead) → images_by_heads heads ≤ sum_by payload_len heads
images_within [] = omega arith
images_within (h ∷ heads) = omega (arith, sum_by-cons payload_len h heads, sum_by-cons (λ (b : BlockHead). image_len b.image) h heads, images_within heads)
