-- The words of an entry by number, those of page headers among them, so that a copy can go on at
-- any of them.
use Rattle.std.specs.Prelude.{ℕ, ◌+◌, ◌-◌, ◌*◌, ◌/◌}
use Rattle.byte_position.specs.Position.{end_address_of}
use Rattle.wal_page.specs.Order.{Entry, finish_of}

-- how many words an entry owns, and the address of its k-th
abbrev pub words_owned : ℕ → Entry → ℕ
words_owned size e = (finish_of size e - end_address_of size e.start) / 8

abbrev pub address_of_word : ℕ → Entry → ℕ → ℕ
address_of_word size e k = end_address_of size e.start + 8 * k
