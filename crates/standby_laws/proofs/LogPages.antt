-- The pages of an order's log, whole.
use Rattle.std.proofs.Common.{◌≡◌, ℕ, zero, suc, ◌+◌, ◌*◌, ◌<◌, List, [], ◌++◌, take, drop, inl, inr, refl, sym, ap, ◌∙◌, arith}
use Rattle.std.specs.Int.{w64, to_le_bytes}
use Rattle.std.proofs.lemmas.List.{drop-drop}
use Rattle.segment_disk.specs.DiskImage.{word_of}
use Rattle.segment_disk.proofs.ZeroWords.{word_of-zero_page}
use Rattle.flush_core.specs.Left.{IsWordPut, PutHistory, first_puts}
use Rattle.flush_core.specs.Pages.{PutPages}
use Rattle.flush_core.specs.SettledLog.{IsZeroOrLogWord}
use Rattle.wal_page.specs.Order.{Entry}
use Rattle.wal_page.specs.Log.{log_word, log_word_bytes}

-- these numbers as words, from one place on
words_from : (ℕ → ℕ) → ℕ → ℕ → List ℕ
words_from number from zero = []
words_from number from (suc n) = to_le_bytes w64 (number from) ++ words_from number (from + 1) n

first_word : (number : ℕ) (rest : List ℕ)
    → take 8 (to_le_bytes w64 number ++ rest) ≡ to_le_bytes w64 number
first_word number rest = refl

other_words : (number : ℕ) (rest : List ℕ) → drop 8 (to_le_bytes w64 number ++ rest) ≡ rest
other_words number rest = refl

words_are : (number : ℕ → ℕ) (from n k : ℕ) → k < n
    → word_of (words_from number from n) k ≡ to_le_bytes w64 (number (from + k))
unfolding words_from
words_are number from zero k low = absurd (omega (arith, low))
words_are number from (suc n) zero low =
    first_word (number from) (words_from number (from + 1) n)
    ∙ ap (λ (m : ℕ). to_le_bytes w64 (number m)) (omega arith)
words_are number from (suc n) (suc k) low =
    let all = words_from number from (suc n) in
    let at : 8 * suc k ≡ 8 + 8 * k = omega arith in
    let behind : drop (8 + 8 * k) all ≡ drop (8 * k) (words_from number (from + 1) n) =
    sym (drop-drop (8 * k) 8 all)
    ∙ ap (drop (8 * k)) (other_words (number from) (words_from number (from + 1) n)) in
    ap (λ (m : ℕ). take 8 (drop m all)) at ∙ ap (take 8) behind
    ∙ words_are number (from + 1) n k (omega (arith, low))
    ∙ ap (λ (m : ℕ). to_le_bytes w64 (number m)) (omega arith)

-- a page of the log, by its number
pub log_pages : ℕ → ℕ → List Entry → PutPages
log_pages size sysid es page =
    words_from (λ (k : ℕ). log_word size sysid es (page * 8192 + 8 * k)) 0 1024

module _ (size sysid : ℕ) (es : List Entry) where
  pub page_word : (page word : ℕ) → word < 1024 → word_of (log_pages size sysid es page) word
      ≡ log_word_bytes size sysid es (page * 8192 + 8 * word)
  unfolding log_pages
  page_word page word low =
      words_are (λ (k : ℕ). log_word size sysid es (page * 8192 + 8 * k)) 0 1024 word low
      ∙ ap (λ (k : ℕ). log_word_bytes size sysid es (page * 8192 + 8 * k)) (omega arith)

  -- where these were put, and no others, each word is 0 or the log's
  abbrev pub log_puts : PutHistory
  log_puts = first_puts (log_pages size sysid es)

  pub put_is_log : (page word : ℕ) (bytes : List ℕ) → word < 1024
      → IsWordPut log_puts page word bytes → IsZeroOrLogWord size sysid es page word bytes
  put_is_log page word bytes low (inl own) = inr (own ∙ page_word page word low)
  put_is_log page word bytes low (inr zeros) = inl (zeros ∙ word_of-zero_page word low)

  pub log_is_put : (page word : ℕ) (bytes : List ℕ) → word < 1024
      → IsZeroOrLogWord size sysid es page word bytes → IsWordPut log_puts page word bytes
  log_is_put page word bytes low (inl zeros) = inr (zeros ∙ sym (word_of-zero_page word low))
  log_is_put page word bytes low (inr own) = inl (own ∙ sym (page_word page word low))
