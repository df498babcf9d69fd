-- That what a script asks for can be done.
use Rattle.wal_spelling.specs.Spelling.{IsWritable}
use Rattle.run_script.specs.Asked.{Asked, Insert, Commit, Flush, CommitAsync, WriteBehind, Switch}

-- a record that is asked for can be written; a segment switch asks for none
abbrev pub AsksWritable : Asked → Type 0
AsksWritable (Insert r) = IsWritable r
AsksWritable (Commit r) = IsWritable r
AsksWritable Flush = Unit {0}
AsksWritable (CommitAsync r) = IsWritable r
AsksWritable WriteBehind = Unit {0}
AsksWritable Switch = Unit {0}
