-- A page that is put has the log's words, and zeros behind.
use Rattle.std.proofs.Common.{◌≡◌, ℕ, ◌+◌, ◌-◌, ◌*◌, ◌/◌, ◌<◌, ◌≤◌, inl, inr, All, List, [], ◌∷◌, length, drop, replicate, refl, sym, ap, subst, ◌∙◌, arith, length-take, length-drop}
use Rattle.std.proofs.lemmas.Bool.{cases_eq, cases_lt, eq-eqb, ne_eqb}
use Rattle.std.proofs.lemmas.List.{drop-drop}
use Rattle.std.proofs.lemmas.List.Elements.{All-drop, All-head, All-tail, All-take}
use Rattle.segment_disk.specs.DiskImage.{word_of}
use Rattle.flush_core.specs.Left.{IsWordPut, PutHistory, SameBelow, with_put}
use Rattle.flush_core.specs.Pages.{PutPages, with_page}
use Rattle.flush_core.specs.SettledLog.{IsLogWord, IsZeroOrLogWord}
use Rattle.wal_page.specs.Order.{Entry}
use Rattle.wal_page.specs.Log.{log_word_bytes}
use Rattle.wal_stream.specs.Frame.{IsSentPage, SentPage}
use Rattle.wal_stream.specs.Following.{HaveLogBelow}

-- ---- zeros

zeros_are : (xs : List ℕ) → All (λ b. b ≡ 0) xs → xs ≡ replicate (length xs) 0
zeros_are [] all = refl
zeros_are (x ∷ xs) all =
    ap (λ (b : ℕ). b ∷ xs) (All-head (λ b. b ≡ 0) x xs all) ∙ ap (λ (l : List ℕ). 0 ∷ l) (zeros_are xs (All-tail (λ b. b ≡ 0) x xs all))

-- a word that stands where all bytes are zeros
zero_word_behind : (size n k : ℕ) (bytes : List ℕ) → length bytes ≡ size → 8 * k + 8 ≤ size → n ≤ 8 * k → All (λ b. b ≡ 0) (drop n bytes) → word_of bytes k ≡ replicate 8 0
zero_word_behind size n k bytes long within behind zeros =
    let at : n + (8 * k - n) ≡ 8 * k = omega (arith, behind) in
    let further : drop (8 * k - n) (drop n bytes) ≡ drop (8 * k) bytes = drop-drop (8 * k - n) n bytes ∙ ap (λ (j : ℕ). drop j bytes) at in
    let all = All-take (λ b. b ≡ 0) 8 (drop (8 * k) bytes) (subst (All (λ b. b ≡ 0)) further (All-drop (λ b. b ≡ 0) (8 * k - n) (drop n bytes) zeros)) in
    let count : length (word_of bytes k) ≡ 8 = omega (arith, length-take 8 (drop (8 * k) bytes), length-drop (8 * k) bytes, long, within) in
    zeros_are (word_of bytes k) all ∙ ap (λ (j : ℕ). replicate j 0) count

-- ---- the words of what is sent

module _ (size sysid : ℕ) (es : List Entry) (sent : SentPage) (words : (k : ℕ) → sent.page * 8192 + 8 * k < sent.upto → word_of sent.bytes k ≡ log_word_bytes size sysid es (sent.page * 8192 + 8 * k)) where
  pub sent_word : IsSentPage sent → (k : ℕ) → k < 1024 → IsZeroOrLogWord size sysid es sent.page k (word_of sent.bytes k)
  sent_word is k low =
      elim (cases_lt (sent.page * 8192 + 8 * k) sent.upto) [
        | inl below ↦ inr (words k below)
        | inr above ↦ inl (zero_word_behind 8192 (sent.upto - sent.page * 8192) k sent.bytes is.long (omega (arith, low)) (omega (arith, above)) is.zeros)
      ]

  -- each page below the new end has the log's words: this one, and those that lay below the old end
  pub log_with_page : (end : ℕ) (pages : PutPages) → sent.page ≡ end / 8192 → sent.upto ≤ sent.page * 8192 + 8192 → HaveLogBelow size sysid es end pages → HaveLogBelow size sysid es sent.upto (with_page pages sent.page sent.bytes)
  log_with_page end pages at within log n word low below =
      elim (cases_eq n sent.page) [
        | inl same ↦
            (let here : sent.page * 8192 + 8 * word ≡ n * 8192 + 8 * word = omega (arith, same) in
            rw (eq-eqb n sent.page same) (words word (omega (arith, here, below)) ∙ ap (log_word_bytes size sysid es) here))
        | inr other ↦ rw (ne_eqb n sent.page other) (log n word low (omega (arith, at, within, low, below, other)))
      ]

  -- no word was put but the log's and zeros
  pub log_with_put : (puts : PutHistory) → IsSentPage sent → ((page word : ℕ) (bytes : List ℕ) → word < 1024 → IsWordPut puts page word bytes → IsZeroOrLogWord size sysid es page word bytes)
      → (page word : ℕ) (bytes : List ℕ) → word < 1024 → IsWordPut (with_put puts sent.page sent.bytes) page word bytes → IsZeroOrLogWord size sysid es page word bytes
  log_with_put puts is log page word bytes low put =
      elim (cases_eq page sent.page) [
        | inl same ↦ elim (rw (eq-eqb page sent.page same) at put) [
          | inl now ↦ subst (λ (w : List ℕ). IsZeroOrLogWord size sysid es page word w) (sym now)
              (subst (λ (n : ℕ). IsZeroOrLogWord size sysid es n word (word_of sent.bytes word)) (sym same) (sent_word is word low))
          | inr before ↦ log page word bytes low before
        ]
        | inr other ↦ log page word bytes low (rw (ne_eqb page sent.page other) at put)
      ]

  -- the page that is the standby's own then
  pub log_in_own : (k : ℕ) → sent.page * 8192 < sent.upto → sent.upto ≤ sent.page * 8192 + 8192 → sent.upto / 8192 * 8192 + 8 * k < sent.upto → IsLogWord size sysid es (sent.upto / 8192) k (word_of sent.bytes k)
  log_in_own k begun within below =
      let at : sent.page ≡ sent.upto / 8192 = omega (arith, begun, within, below) in
      subst (λ (n : ℕ). IsLogWord size sysid es n k (word_of sent.bytes k)) at (words k (omega (arith, at, below)))

  -- what was put below an address is put again with the same words
  pub same_as_put : (position : ℕ) (pages : PutPages) → position ≤ sent.upto → HaveLogBelow size sysid es position pages → SameBelow position sent.page sent.bytes (pages sent.page)
  same_as_put position pages low log word within below =
      words word (omega (arith, low, below)) ∙ sym (log sent.page word within (omega (arith, below)))
