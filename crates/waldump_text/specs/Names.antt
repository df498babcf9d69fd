-- The names that the listing has for managers and records (PostgreSQL's rmgrlist.h and xactdesc.c).
use Rattle.std.specs.Prelude.{ℕ, ◌+◌, ◌/◌, ◌%◌, List, [], ◌∷◌, ◌++◌, codes, length, slice_index_or, ◌==◌, nat_lt, if◌then◌else◌}
use Rattle.waldump_text.specs.Digits.{digit_at}
use Rattle.waldump_filter.specs.Names.{manager_names}
use Rattle.waldump_text.specs.declared.names.ManagerName.{ManagerName}
use Rattle.waldump_text.specs.declared.names.ManagerName.TheVariants.{Own, Custom}
use Rattle.waldump_text.specs.declared.names.RecordWord.{RecordWord}
use Rattle.waldump_text.specs.declared.names.RecordWord.TheVariants.{Known, Unknown}

-- a number below 1000 in three digits
abbrev pub three_digits : ℕ → List ℕ
three_digits n = digit_at 100 n ∷ digit_at 10 n ∷ digit_at 1 n ∷ []

-- a manager's name; those from 128 on are custom ones
abbrev pub manager_name : ℕ → List ℕ
manager_name rmid =
    if nat_lt rmid 128 then slice_index_or manager_names rmid []
    else codes "custom" ++ three_digits rmid

-- the lower-case hexadecimal digit of a number below 16
abbrev pub lower_digit : ℕ → ℕ
lower_digit d = if nat_lt d 10 then 48 + d else 87 + d

-- bytes in lower-case hexadecimal, two digits each
abbrev pub hexadecimal : List ℕ → List ℕ
hexadecimal [] = []
hexadecimal (b ∷ bs) = lower_digit (b / 16 % 16) ∷ lower_digit (b % 16) ∷ hexadecimal bs

-- what a record without a name of its own is called: by the upper four bits of its info, without a
-- leading zero
abbrev pub unknown_word : ℕ → List ℕ
unknown_word info =
    let digit = info / 16 % 16 in
    let digits = if digit == 0 then codes "0" else lower_digit digit ∷ 48 ∷ [] in
    codes "UNKNOWN (" ++ digits ++ codes ")"

-- the records of a manager, by the upper four bits of their info; some have no word
abbrev pub xlog_words : List (List ℕ)
xlog_words =
    codes "CHECKPOINT_SHUTDOWN" ∷ codes "CHECKPOINT_ONLINE" ∷ codes "NOOP" ∷ codes "NEXTOID"
    ∷ codes "SWITCH" ∷ codes "BACKUP_END" ∷ codes "PARAMETER_CHANGE" ∷ codes "RESTORE_POINT"
    ∷ codes "FPW_CHANGE" ∷ codes "END_OF_RECOVERY"
    ∷ codes "FPI_FOR_HINT" ∷ codes "FPI" ∷ codes "" ∷ codes "OVERWRITE_CONTRECORD" ∷ []

abbrev pub heap_words : List (List ℕ)
heap_words =
    codes "INSERT" ∷ codes "DELETE" ∷ codes "UPDATE" ∷ codes "TRUNCATE" ∷ codes "HOT_UPDATE"
    ∷ codes "HEAP_CONFIRM" ∷ codes "LOCK" ∷ codes "INPLACE" ∷ codes "INSERT+INIT" ∷ codes ""
    ∷ codes "UPDATE+INIT" ∷ codes ""
    ∷ codes "HOT_UPDATE+INIT" ∷ []

abbrev pub message_words : List (List ℕ)
message_words = codes "MESSAGE" ∷ []

-- those of transactions by bits 4 to 6
abbrev pub transaction_words : List (List ℕ)
transaction_words =
    codes "COMMIT" ∷ codes "PREPARE" ∷ codes "ABORT" ∷ codes "COMMIT_PREPARED"
    ∷ codes "ABORT_PREPARED" ∷ codes "ASSIGNMENT" ∷ codes "INVALIDATION" ∷ []

-- a record's word in its manager's table, or none
abbrev pub own_word : ℕ → ℕ → List ℕ
own_word rmid info =
    if rmid == 0 then slice_index_or xlog_words (info / 16) []
    else (if rmid == 1 then slice_index_or transaction_words (info / 16 % 8) []
    else (if rmid == 10 then slice_index_or heap_words (info / 16) []
    else (if rmid == 21 then slice_index_or message_words (info / 16) [] else [])))

-- a record's word
abbrev pub record_word : ℕ → ℕ → List ℕ
record_word rmid info =
    let word = own_word rmid info in if length word == 0 then unknown_word info else word

-- the text of a manager's name
abbrev pub name_text : ManagerName → List ℕ
name_text (Own name) = name.now
name_text (Custom name) = name

-- the text of a record's word
abbrev pub word_text : RecordWord → List ℕ
word_text (Known word) = word.now
word_text (Unknown word) = word
