-- What the word of each option means, as a function of that one word.
use Rattle.std.specs.Prelude.{ℕ, ◌+◌, ◌-◌, ◌*◌, ◌^◌, ◌&&◌, List, [], ◌∷◌, Option, Some, None, ◌==◌, codes, drop, if◌then◌else◌, length, map, nat_le, option_and_then, option_map, take}
use Rattle.std.specs.Int.Digits.{number_from_digits}
use Rattle.std.specs.List.{list_all}
use Rattle.std.specs.Str.{bytes_eq}
use Rattle.byte_position.specs.Geometry.{is_segment_size}
use Rattle.cli_line.specs.declared.commands.CrashPick.{CrashPick}
use Rattle.cli_line.specs.declared.commands.CrashPick.TheVariants.{Old, New, Odd}
use Rattle.cli_text.specs.Hexadecimal.{hexadecimal_digit, is_hexadecimal_digit}
use Rattle.cli_text.specs.Numbers.{number_of}
use Rattle.waldump_filter.specs.Names.{is_same_name, own_manager_of}
use Rattle.wal_types.specs.declared.lsn.Lsn.{Lsn}
use Rattle.wal_types.specs.declared.record.Rel.{Rel}
use Rattle.wal_types.specs.declared.record.Xid.{Xid}

-- a number in decimal digits, within bounds
abbrev pub number_within : ℕ → ℕ → List ℕ → Option ℕ
number_within least most word =
    option_and_then (λ n. if nat_le least n then Some n else None) (number_of most word)

-- `--seg`: a power of two from 1 MiB to 1 GiB
abbrev pub segment_size_of : List ℕ → Option ℕ
segment_size_of word =
    option_and_then (λ n. if is_segment_size n then Some n else None) (number_of (2 ^ 64 - 1) word)

-- `--ring`: how many pages
abbrev pub ring_pages_of : List ℕ → Option ℕ
ring_pages_of word = number_within 4 64 word

-- `--cap`: how many segments
abbrev pub cap_segments_of : List ℕ → Option ℕ
cap_segments_of word = number_within 1 4096 word

-- the word behind `gen`: how many lines each backend has
abbrev pub line_count_of : List ℕ → Option ℕ
line_count_of word = number_within 1 100000 word

-- `--writer`: how many lines the log writer has
abbrev pub writer_lines_of : List ℕ → Option ℕ
writer_lines_of word = number_within 1 1000 word

-- `--crash`: which words of the disk a crash leaves, in exact case
abbrev pub crash_of : List ℕ → Option CrashPick
crash_of word =
    if bytes_eq word (codes "old") then Some Old
    else (if bytes_eq word (codes "new") then Some New
    else (if bytes_eq word (codes "odd") then Some Odd else None))

-- `--limit`: how many records, from 1
abbrev pub limit_of : List ℕ → Option ℕ
limit_of word = number_within 1 (2 ^ 64 - 1) word

-- `--xid`
abbrev pub xid_of : List ℕ → Option Xid
xid_of word = option_map (λ n. record { 0 = n }) (number_of (2 ^ 32 - 1) word)

-- `--block`: up to the largest number that blocks have
abbrev pub block_number_of : List ℕ → Option ℕ
block_number_of word = number_of (2 ^ 32 - 2) word

-- the parts of a text with one more byte in front
abbrev pub behind_byte : ℕ → Option (List ℕ × List ℕ) → Option (List ℕ × List ℕ)
behind_byte c None = None
behind_byte c (Some parts) = Some (c ∷ parts.0, parts.1)

-- what stands before the first slash (47) of a text, and what behind it
abbrev pub cut_at_slash : List ℕ → Option (List ℕ × List ℕ)
cut_at_slash [] = None
cut_at_slash (c ∷ cs) = if c == 47 then Some ([], cs) else behind_byte c (cut_at_slash cs)

-- a relation by its three numbers
abbrev pub relation_by : Option ℕ → Option ℕ → Option ℕ → Option Rel
relation_by (Some tablespace) (Some database) (Some relation) =
    Some (record { spc = tablespace; db = database; rel = relation })
relation_by spc db rel = None

-- the number of a tablespace, a database or a relation
abbrev pub object_of : List ℕ → Option ℕ
object_of word = number_of (2 ^ 32 - 1) word

abbrev pub relation_behind : List ℕ → Option (List ℕ × List ℕ) → Option Rel
relation_behind tablespace None = None
relation_behind tablespace (Some parts) =
    relation_by (object_of tablespace) (object_of parts.0) (object_of parts.1)

-- `--relation`: the numbers of a tablespace, a database and a relation, parted by slashes
abbrev pub relation_of : List ℕ → Option Rel
relation_of word =
    option_and_then (λ parts. relation_behind parts.0 (cut_at_slash parts.1)) (cut_at_slash word)

-- a number in 1 to 8 hexadecimal digits
abbrev pub hexadecimal_of : List ℕ → Option ℕ
hexadecimal_of word =
    if nat_le 1 (length word) && nat_le (length word) 8 && list_all is_hexadecimal_digit word
    then Some (number_from_digits 16 (map hexadecimal_digit word)) else None

-- an address by its upper and its lower four bytes
abbrev pub lsn_with : Option ℕ → Option ℕ → Option Lsn
lsn_with (Some high) (Some low) = Some (record { 0 = high * 2 ^ 32 + low })
lsn_with high low = None

-- `--start` and `--end`: the upper and the lower four bytes of an address, parted by a slash
abbrev pub lsn_of : List ℕ → Option Lsn
lsn_of word =
    option_and_then (λ parts. lsn_with (hexadecimal_of parts.0) (hexadecimal_of parts.1))
    (cut_at_slash word)

-- the manager of `custom` and three digits, from 128 on
abbrev pub number_behind_custom : List ℕ → Option ℕ
number_behind_custom word =
    if length word == 9 && is_same_name (take 6 word) (codes "custom")
    then option_and_then (λ n. if nat_le 128 n then Some n else None) (number_of 255 (drop 6 word))
    else None

abbrev pub or_custom : List ℕ → Option ℕ → Option ℕ
or_custom word (Some rmid) = Some rmid
or_custom word None = number_behind_custom word

-- `--rmgr`: the name of one of PostgreSQL's own managers, or `custom128` to `custom255`, in any
-- case of ASCII letters
abbrev pub manager_of : List ℕ → Option ℕ
manager_of word = or_custom word (own_manager_of word)
