-- What a frame's bytes say, and the frames of a log.
use Rattle.std.proofs.Common.{◌≡◌, ◌≢◌, Bool, true, false, not, ℕ, ◌+◌, ◌-◌, ◌*◌, ◌/◌, ◌%◌, ◌^◌, ◌<◌, ◌≤◌, All, List, ◌++◌, length, take, drop, replicate, refl, sym, ap, subst, ◌∙◌, arith, length-append, length-drop, length-take, take-append-drop}
use Rattle.std.specs.Int.{w64}
use Rattle.std.specs.Prelude.{nat_eq}
use Rattle.std.specs.Cmp.Lexicographic.{other_text, pointwise, same_text}
use Rattle.std.proofs.lemmas.Bool.{false≢true}
use Rattle.std.proofs.lemmas.Nat.{from_le_bytes-to_le_bytes_8}
use Rattle.wal_spelling.specs.Numbers.{number_at}
use Rattle.std.proofs.lemmas.List.{length-replicate, take_all}
use Rattle.std.proofs.lemmas.List.Elements.{All-replicate}
use Rattle.std.proofs.Math.Seq.{drop-append_seam}
use Rattle.flush_core.proofs.SettledPages.{cleared_before}
use Rattle.wal_stream.specs.Frame.{FramesOfLogPagesAreOfLog, IsFrame, IsSentPage, SentPage, frame_head, sent_upto}

module _ (size page upto : ℕ) (bytes : List ℕ) where
  head_front : take 32 (frame_head size page upto bytes ++ bytes) ≡ frame_head size page upto bytes
  unfolding frame_head
  head_front = refl

  head_behind : drop 32 (frame_head size page upto bytes ++ bytes) ≡ bytes
  unfolding frame_head
  head_behind = refl

  address_in_head : page * 8192 < 2 ^ 64 → number_at w64 (frame_head size page upto bytes) 8 ≡ page * 8192
  unfolding frame_head
  address_in_head low = from_le_bytes-to_le_bytes_8 (page * 8192) low

  upto_in_head : upto < 2 ^ 64 → number_at w64 (frame_head size page upto bytes) 16 ≡ upto
  unfolding frame_head
  upto_in_head low = from_le_bytes-to_le_bytes_8 upto low

-- what is read of a frame that is cut in two behind its head
pub record Reads (size : ℕ) (head rest : List ℕ) (sent : SentPage) : Type 0 where
  pub is_sent : IsSentPage sent
  pub head_is : head ≡ frame_head size sent.page sent.upto sent.bytes
  pub rest_is : rest ≡ sent.bytes
  pub address : number_at w64 head 8 ≡ sent.page * 8192
  pub upto : number_at w64 head 16 ≡ sent.upto

pub reads : (size : ℕ) (bytes head rest : List ℕ) (sent : SentPage) → IsFrame size bytes sent → head ≡ take 32 bytes → rest ≡ drop 32 bytes → Reads size head rest sent
reads size bytes head rest sent frame front behind =
    let page = sent.page in
    let upto = sent.upto in
    let ends = frame.is_sent.ends in
    let low : page * 8192 < 2 ^ 64 = omega (arith, ends.begun, ends.low) in
    let head_is = front ∙ ap (take 32) frame.bytes_are ∙ head_front size page upto sent.bytes in
    record {
      is_sent = frame.is_sent;
      head_is = head_is;
      rest_is = behind ∙ ap (drop 32) frame.bytes_are ∙ head_behind size page upto sent.bytes;
      address = ap (λ (h : List ℕ). number_at w64 h 8) head_is ∙ address_in_head size page upto sent.bytes low;
      upto = ap (λ (h : List ℕ). number_at w64 h 16) head_is ∙ upto_in_head size page upto sent.bytes ends.low;
    }

module _ (size : ℕ) (head rest : List ℕ) (sent : SentPage) (read : Reads size head rest sent) where
  -- the page's number is that of its address
  pub number_read : number_at w64 head 8 / 8192 ≡ sent.page
  number_read = omega (arith, read.address)

  -- made anew of what is read, the head is the same
  pub head_again : head ≡ frame_head size (number_at w64 head 8 / 8192) (number_at w64 head 16) rest
  head_again =
      read.head_is
      ∙ ap (λ (n : ℕ). frame_head size n sent.upto sent.bytes) (sym number_read)
      ∙ ap (λ (n : ℕ). frame_head size (number_at w64 head 8 / 8192) n sent.bytes) (sym read.upto)
      ∙ ap (λ (b : List ℕ). frame_head size (number_at w64 head 8 / 8192) (number_at w64 head 16) b) (sym read.rest_is)

  -- it is sent up to an address in its page
  pub ends_read : (number_at w64 head 8 % 8192 ≡ 0) × (number_at w64 head 16 % 8 ≡ 0) × (number_at w64 head 8 < number_at w64 head 16) × (number_at w64 head 16 ≤ number_at w64 head 8 + 8192)
  ends_read =
      let ends = read.is_sent.ends in
      (omega (arith, read.address), rw read.upto ends.whole, omega (arith, read.address, read.upto, ends.begun), omega (arith, read.address, read.upto, ends.within))

  -- zeros stand behind that
  pub zeros_read : All (λ b. b ≡ 0) (drop (number_at w64 head 16 - number_at w64 head 8) rest)
  zeros_read =
      let at : sent.upto - sent.page * 8192 ≡ number_at w64 head 16 - number_at w64 head 8 = omega (arith, read.address, read.upto) in
      subst (λ (b : List ℕ). All (λ b. b ≡ 0) (drop (number_at w64 head 16 - number_at w64 head 8) b)) (sym read.rest_is)
      (subst (λ (n : ℕ). All (λ b. b ≡ 0) (drop n sent.bytes)) at read.is_sent.zeros)

-- the bytes of a frame whose page follows its head
pub cut_again : (size page upto : ℕ) (bytes head rest : List ℕ) → head ≡ take 32 bytes → rest ≡ drop 32 bytes → head ≡ frame_head size page upto rest → bytes ≡ frame_head size page upto rest ++ rest
cut_again size page upto bytes head rest front behind is =
    sym (take-append-drop 32 bytes) ∙ ap (λ (l : List ℕ). l ++ drop 32 bytes) (sym front ∙ is) ∙ ap (λ (l : List ℕ). frame_head size page upto rest ++ l) (sym behind)

-- as many bytes as a head and a page
pub frame_long : (size : ℕ) (bytes : List ℕ) (sent : SentPage) → IsFrame size bytes sent → length bytes ≡ 8224
unfolding frame_head
frame_long size bytes sent frame = omega (arith, ap length frame.bytes_are, frame.is_sent.long)

-- bytes are the frame of one page at most
pub same_page : (size : ℕ) (bytes : List ℕ) (one other : SentPage) → IsFrame size bytes one → IsFrame size bytes other → one.page ≡ other.page
same_page size bytes one other first second =
    let here = reads size bytes (take 32 bytes) (drop 32 bytes) one first refl refl in
    let there = reads size bytes (take 32 bytes) (drop 32 bytes) other second refl refl in
    omega (arith, here.address, there.address)

-- ---- tests of two lists

not_true : (b : Bool) → true ≡ not b → false ≡ b
not_true false is = refl
not_true true is = absurd (false≢true (sym is))

not_false : (b : Bool) → false ≡ not b → true ≡ b
not_false true is = refl
not_false false is = absurd (false≢true is)

pub other_lists : (xs ys : List ℕ) (r : Bool) → r ≡ not (pointwise nat_eq xs ys) → r ≡ true → xs ≢ ys
other_lists xs ys r is set = other_text xs ys (not_true (pointwise nat_eq xs ys) (sym set ∙ is))

pub same_lists : (xs ys : List ℕ) (r : Bool) → r ≡ not (pointwise nat_eq xs ys) → r ≡ false → xs ≡ ys
same_lists xs ys r is unset = same_text xs ys (not_false (pointwise nat_eq xs ys) (sym unset ∙ is))

-- what stands behind a front of a page is all of it
pub all_behind : (size n m : ℕ) (bytes : List ℕ) → n ≡ m → length bytes ≡ size → All (λ b. b ≡ 0) (take (size - n) (drop n bytes)) → All (λ b. b ≡ 0) (drop m bytes)
all_behind size n m bytes same long zeros =
    let whole = take_all (size - n) (drop n bytes) (omega (arith, length-drop n bytes, long)) in
    subst (λ (k : ℕ). All (λ b. b ≡ 0) (drop k bytes)) same (subst (All (λ b. b ≡ 0)) whole zeros)

-- ---- a page that is sent up to an address

zeros_behind : (size n : ℕ) (bytes : List ℕ) → length bytes ≡ size → n ≤ size → All (λ b. b ≡ 0) (drop n (take n bytes ++ replicate (size - n) 0))
zeros_behind size n bytes long within =
    let front : length (take n bytes) ≡ n = omega (arith, length-take n bytes, long, within) in
    let behind = subst (λ (k : ℕ). drop k (take n bytes ++ replicate (size - n) 0) ≡ replicate (size - n) 0) front (drop-append_seam (take n bytes) (replicate (size - n) 0)) in
    subst (All (λ b. b ≡ 0)) (sym behind) (All-replicate (λ b. b ≡ 0) (size - n) 0 refl)

long_still : (size n : ℕ) (bytes : List ℕ) → length bytes ≡ size → n ≤ size → length (take n bytes ++ replicate (size - n) 0) ≡ size
long_still size n bytes long within = omega (arith, length-take n bytes, length-append (take n bytes) (replicate (size - n) 0), length-replicate {A = ℕ} (size - n) 0, long, within)

pub frames_of_log_pages : FramesOfLogPagesAreOfLog
frames_of_log_pages size sysid page upto hardened es bytes ends long within words =
    let count = upto - page * 8192 in
    let few : count ≤ 8192 = omega (arith, ends.within) in
    record {
      sent = sent_upto page upto bytes;
      frame = record {
        is_sent = record { ends = ends; long = long_still 8192 count bytes long few; zeros = zeros_behind 8192 count bytes long few };
        bytes_are = refl;
      };
      of_log = record {
        words = λ k below. cleared_before count k bytes long few (omega (arith, below, ends.whole)) ∙ words k below;
        within = within;
      };
    }
