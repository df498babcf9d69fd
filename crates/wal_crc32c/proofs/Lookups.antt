-- What the tables of remainders have for each byte.
use Rattle.std.proofs.Common.{◌≡◌, ℕ, zero, suc, ◌+◌, ◌*◌, ◌<◌, Bool, true, false, ◌&&◌, eqb, List, [], ◌∷◌, length, get_or, refl, ap, ◌∙◌, arith}
use Rattle.std.proofs.lemmas.Bool.{eqb-true, false≢true}
use Rattle.wal_crc32c.specs.Crc32c.{times_power}
use Rattle.wal_crc32c.specs.declared.tables.TheConstants.{TABLES}

-- whether the entries are the remainders of byte, byte + 1 and so on after so many more bits of 0
lists_remainders : ℕ → ℕ → List ℕ → Bool
lists_remainders bits byte [] = true
lists_remainders bits byte (entry ∷ entries) = eqb entry (times_power bits byte) && lists_remainders bits (suc byte) entries

-- whether each table has the remainders of 256 bytes, the first with so many bytes after them, and the next with one more
lists_tables : ℕ → List (List ℕ) → Bool
lists_tables bytes_after [] = true
lists_tables bytes_after (table ∷ tables) =
    eqb (length table) 256 && (lists_remainders (8 * suc bytes_after) 0 table && lists_tables (suc bytes_after) tables)

pub both_true : (b c : Bool) → (b && c) ≡ true → (b ≡ true) × (c ≡ true)
both_true true c h = (refl, h)
both_true false c h = absurd (false≢true h)

get_or-lists_remainders : (bits byte : ℕ) (entries : List ℕ) → lists_remainders bits byte entries ≡ true → (i : ℕ) → i < length entries → get_or entries i 0 ≡ times_power bits (byte + i)
unfolding lists_remainders
get_or-lists_remainders bits byte [] listed i within = absurd (omega arith)
get_or-lists_remainders bits byte (entry ∷ entries) listed zero within =
    eqb-true entry (times_power bits byte) (both_true _ _ listed).0 ∙ ap (times_power bits) (omega arith)
get_or-lists_remainders bits byte (entry ∷ entries) listed (suc i) within =
    get_or-lists_remainders bits (suc byte) entries (both_true _ _ listed).1 i (omega arith) ∙ ap (times_power bits) (omega arith)

get_or-lists_tables : (bytes_after : ℕ) (tables : List (List ℕ)) → lists_tables bytes_after tables ≡ true → (k : ℕ) → k < length tables → (byte : ℕ) → byte < 256 → get_or (get_or tables k []) byte 0 ≡ times_power (8 * suc (bytes_after + k)) byte
unfolding lists_tables
get_or-lists_tables bytes_after [] listed k within byte small = absurd (omega arith)
get_or-lists_tables bytes_after (table ∷ tables) listed zero within byte small =
    let long = eqb-true (length table) 256 (both_true _ _ listed).0 in
    get_or-lists_remainders (8 * suc bytes_after) 0 table (both_true _ _ (both_true _ _ listed).1).0 byte (omega arith)
    ∙ ap (λ n. times_power (8 * suc n) (0 + byte)) (omega arith)
    ∙ ap (times_power (8 * suc (bytes_after + 0))) (omega arith)
get_or-lists_tables bytes_after (table ∷ tables) listed (suc k) within byte small =
    get_or-lists_tables (suc bytes_after) tables (both_true _ _ (both_true _ _ listed).1).1 k (omega arith) byte small
    ∙ ap (λ n. times_power (8 * suc n) byte) (omega arith)

lists_tables-TABLES : lists_tables 0 TABLES ≡ true
unfolding times_power lists_tables lists_remainders
lists_tables-TABLES = refl

pub get_or-TABLES : (bytes_after byte : ℕ) → bytes_after < 16 → byte < 256 → get_or (get_or TABLES bytes_after []) byte 0 ≡ times_power (8 * (bytes_after + 1)) byte
get_or-TABLES bytes_after byte within small =
    get_or-lists_tables 0 TABLES lists_tables-TABLES bytes_after within byte small ∙ ap (λ bits. times_power bits byte) (omega arith)
