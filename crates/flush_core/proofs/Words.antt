-- Pages as they are made of words, and what a crash leaves of a page to which no write waits for a sync.
use Rattle.std.proofs.Common.{◌≡◌, ℕ, zero, suc, ◌+◌, ◌*◌, ◌<◌, ◌⊎◌, inl, inr, List, [], ◌∷◌, ◌++◌, length, take, drop, refl, sym, ap, subst, ◌∙◌, arith, length-drop, take-append-drop}
use Rattle.std.proofs.lemmas.List.{drop-drop}
use Rattle.segment_disk.specs.Tape.{Segment}
use Rattle.segment_disk.specs.DiskImage.{word_of, IsWritten, MayLeavePage}

no_bytes : (bytes : List ℕ) → length bytes ≡ 0 → bytes ≡ []
no_bytes [] none = refl
no_bytes (b ∷ bytes) none = absurd (omega arith)

word_of-behind : (bytes : List ℕ) (k : ℕ) → word_of (drop 8 bytes) k ≡ word_of bytes (k + 1)
word_of-behind bytes k =
    let at : 8 + 8 * k ≡ 8 * (k + 1) = omega arith in
    ap (take 8) (drop-drop (8 * k) 8 bytes ∙ ap (λ (j : ℕ). drop j bytes) at)

-- bytes are those of their words
pub same_words : (n : ℕ) (xs ys : List ℕ) → length xs ≡ 8 * n → length ys ≡ 8 * n → ((k : ℕ) → k < n → word_of xs k ≡ word_of ys k) → xs ≡ ys
same_words zero xs ys size_x size_y same = no_bytes xs size_x ∙ sym (no_bytes ys size_y)
same_words (suc n) xs ys size_x size_y same =
    let front : take 8 xs ≡ take 8 ys = same 0 (omega arith) in
    let behind = λ (k : ℕ) (within : k < n). word_of-behind xs k ∙ same (k + 1) (omega arith) ∙ sym (word_of-behind ys k) in
    let others = same_words n (drop 8 xs) (drop 8 ys) (omega (arith, length-drop 8 xs)) (omega (arith, length-drop 8 ys)) behind in
    sym (take-append-drop 8 xs) ∙ ap (λ (l : List ℕ). l ++ drop 8 xs) front ∙ ap (λ (l : List ℕ). take 8 ys ++ l) others ∙ take-append-drop 8 ys

-- a word that no write may have made
pub durable_word : (writes : List (ℕ × List ℕ)) (page k : ℕ) (word old : List ℕ) → writes ≡ [] → (word ≡ old) ⊎ IsWritten writes page k word → word ≡ old
durable_word writes page k word old none (inl same) = same
durable_word writes page k word old none (inr written) = absurd (subst (λ (ws : List (ℕ × List ℕ)). IsWritten ws page k word) none written)

-- a crash leaves a page to which no write waits for a sync as it is
pub left_page : (s : Segment) (page : ℕ) (bytes : List ℕ) → s.writes ≡ [] → length (s.durable page) ≡ 8192 → MayLeavePage s page bytes → bytes ≡ s.durable page
left_page s page bytes synced whole left =
    same_words 1024 bytes (s.durable page) left.length whole (λ k below. durable_word s.writes page k (word_of bytes k) (word_of (s.durable page) k) synced (left.words k below))
