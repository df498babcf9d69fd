-- Bytes are a frame just where what is made of the fields that are read is what stands there.
use Rattle.std.proofs.Common.{◌≡◌, ℕ, ◌-◌, ◌*◌, ◌/◌, ◌++◌, All, IsTrue, List, length, drop, sym, ap, subst, ◌∙◌, arith}
use Rattle.std.proofs.lemmas.Bool.{false≢true}
use Rattle.std.proofs.lemmas.List.Elements.{All-take}
use Rattle.std.specs.Int.{w64}
use Rattle.wal_spelling.specs.Numbers.{number_at}
use Rattle.wal_stream.specs.Frame.{IsSentPage, frame_head}
use Rattle.wal_stream.proofs.FrameLaws.{Reads, all_behind, cut_again, ends_read, frame_long, head_again, other_lists, reads, same_lists, zeros_read}
use Rattle.wal_stream.proofs.framing.FramedPage.read.Goals as goal

pub overflow_sub-sent : goal.overflow_sub-sent
overflow_sub-sent c = let ends = c.ends_in_page.ensures.0 c.if-not-ends_in_page.false in omega (arith, ends.2)

pub slice_bounds-are_zeros-count : goal.slice_bounds-are_zeros-count
slice_bounds-are_zeros-count c = let ends = c.ends_in_page.ensures.0 c.if-not-ends_in_page.false in omega (arith, ends.2, ends.3)

pub slice_bounds-are_zeros-start : goal.slice_bounds-are_zeros-start
slice_bounds-are_zeros-start c = let ends = c.ends_in_page.ensures.0 c.if-not-ends_in_page.false in omega (arith, ends.2, ends.3)

pub returns-in_default-as_array-clause-none : goal.returns-in_default-as_array-clause-none
returns-in_default-as_array-clause-none c = λ sent frame.
    let head = c.in-Some.ensures.cases in
    let long = frame_long c.args.geometry c.args.bytes.now sent frame in
    let rest : length c.in-Some.rest.now ≡ 8192 = omega (arith, head.2, long) in
    let other = c.in_default-as_array.ensures.cases in
    other rest

pub returns-then-not-ends_in_page-clause-none : goal.returns-then-not-ends_in_page-clause-none
returns-then-not-ends_in_page-clause-none c = λ sent frame.
    let head = c.in-Some.ensures.cases in
    let read : Reads c.args.geometry c.in-Some.head.now c.in-Some.rest.now sent = reads c.args.geometry c.args.bytes.now c.in-Some.head.now c.in-Some.rest.now sent frame head.0 head.1 in
    let ends = ends_read c.args.geometry c.in-Some.head.now c.in-Some.rest.now sent read in
    let is : IsTrue c.ends_in_page.result = c.ends_in_page.ensures.1 (rw (c.u64_at-address.ensures, c.u64_at-upto.ensures) ends) in
    false≢true (sym c.if-not-ends_in_page.true ∙ is)

pub returns-then-not-are_zeros-clause-none : goal.returns-then-not-are_zeros-clause-none
returns-then-not-are_zeros-clause-none c = λ sent frame.
    let head = c.in-Some.ensures.cases in
    let page = c.in-Some-as_array.ensures.cases in
    let read : Reads c.args.geometry c.in-Some.head.now c.in-Some.rest.now sent = reads c.args.geometry c.args.bytes.now c.in-Some.head.now c.in-Some.rest.now sent frame head.0 head.1 in
    let zeros = zeros_read c.args.geometry c.in-Some.head.now c.in-Some.rest.now sent read in
    let here : All (λ b. b ≡ 0) (drop (c.u64_at-upto.result - c.u64_at-address.result) c.in-Some-as_array.page_bytes.now) = rw (c.u64_at-address.ensures, c.u64_at-upto.ensures, page.same) zeros in
    false≢true (sym c.if-not-are_zeros.true ∙ c.are_zeros.ensures.1 (All-take (λ b. b ≡ 0) _ _ here))

pub returns-then-ne-clause-none : goal.returns-then-ne-clause-none
returns-then-ne-clause-none c = λ sent frame.
    let head = c.in-Some.ensures.cases in
    let page = c.in-Some-as_array.ensures.cases in
    let read : Reads c.args.geometry c.in-Some.head.now c.in-Some.rest.now sent = reads c.args.geometry c.args.bytes.now c.in-Some.head.now c.in-Some.rest.now sent frame head.0 head.1 in
    let again = head_again c.args.geometry c.in-Some.head.now c.in-Some.rest.now sent read in
    let made : c.head_of.result ≡ frame_head c.args.geometry (number_at w64 c.in-Some.head.now 8 / 8192) (number_at w64 c.in-Some.head.now 16) c.in-Some.rest.now =
    c.head_of.ensures ∙ ap (λ (n : ℕ). frame_head c.args.geometry (n / 8192) c.u64_at-upto.result c.in-Some-as_array.page_bytes.now) c.u64_at-address.ensures
    ∙ ap (λ (n : ℕ). frame_head c.args.geometry (number_at w64 c.in-Some.head.now 8 / 8192) n c.in-Some-as_array.page_bytes.now) c.u64_at-upto.ensures
    ∙ ap (λ (b : List ℕ). frame_head c.args.geometry (number_at w64 c.in-Some.head.now 8 / 8192) (number_at w64 c.in-Some.head.now 16) b) page.same in
    other_lists c.in-Some.head.now c.head_of.result c.ne.result c.ne.ensures c.if-ne.true (again ∙ sym made)

sent_is : (c : goal.Else-ne) → IsSentPage (record { page = c.u64_at-address.result / 8192; upto = c.u64_at-upto.result; bytes = c.in-Some-as_array.page_bytes.now })
sent_is c =
    let page = c.in-Some-as_array.ensures.cases in
    let ends = c.ends_in_page.ensures.0 c.if-not-ends_in_page.false in
    let long : length c.in-Some-as_array.page_bytes.now ≡ 8192 = ap length page.same ∙ page.long in
    let zeros = c.are_zeros.ensures.0 c.if-not-are_zeros.false in
    record {
      ends = record { whole = ends.1; begun = omega (arith, ends.0, ends.2); within = omega (arith, ends.0, ends.3); low = omega arith };
      long = long;
      zeros = all_behind 8192 (c.u64_at-upto.result - c.u64_at-address.result) (c.u64_at-upto.result - c.u64_at-address.result / 8192 * 8192) c.in-Some-as_array.page_bytes.now (omega (arith, ends.0)) long zeros;
    }

pub invariant_of-result : goal.invariant_of-result
invariant_of-result c = sent_is c

pub returns-clause-frame : goal.returns-clause-frame
returns-clause-frame c =
    let head = c.in-Some.ensures.cases in
    let page = c.in-Some-as_array.ensures.cases in
    let same = same_lists c.in-Some.head.now c.head_of.result c.ne.result c.ne.ensures c.if-ne.false in
    let number = c.u64_at-address.result / 8192 in
    let upto = c.u64_at-upto.result in
    let is : c.in-Some.head.now ≡ frame_head c.args.geometry number upto c.in-Some.rest.now = same ∙ c.head_of.ensures ∙ ap (λ (b : List ℕ). frame_head c.args.geometry number upto b) page.same in
    record {
      is_sent = sent_is c;
      bytes_are = subst (λ (b : List ℕ). c.args.bytes.now ≡ frame_head c.args.geometry number upto b ++ b) (sym page.same)
          (cut_again c.args.geometry number upto c.args.bytes.now c.in-Some.head.now c.in-Some.rest.now head.0 head.1 is);
    }
