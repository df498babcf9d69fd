-- What a commit's receipt has to do with the records that were told durable.
use Rattle.std.specs.Prelude.{◌≡◌, ℕ, ◌≤◌, List, ◌++◌, Some, slice_get}
use Rattle.wal_types.specs.declared.lsn.Lsn.{Lsn}
use Rattle.wal_page.specs.Order.{Entry}
use Rattle.wal_reader.specs.declared.found.FoundRecord.{FoundRecord}
use Rattle.run_script.specs.Asked.{AskedLine}
use Rattle.run_laws.specs.declared.told.Told.{Told}
use Rattle.run_laws.specs.declared.told.Told.TheVariants.{Hard}
use Rattle.run_laws.specs.Told.{Logged, TellsAll, order_from}
use Rattle.log_lives_laws.specs.History.{IsToldDurable}

-- what lines may be told of a log (as each run promises of its own) tells the record durable of
-- each commit whose receipt names this moment or an earlier one: that which starts and ends where
-- the receipt says
abbrev pub ReceiptsTellDurable : Type 0
ReceiptsTellDurable =
    (logged : Logged) (pass moment at backend line : ℕ) (script : List (List AskedLine))
    (lists : List (List Told)) (found : List Entry) (answers : List Told) (start end : Lsn)
    → TellsAll logged pass script lists → slice_get lists backend ≡ Some answers
    → slice_get answers line ≡ Some (Hard start end at) → at ≤ moment
    → (r : FoundRecord) × (r.head.start.0 ≡ start.0) × (r.head.end.0 ≡ end.0)
    × IsToldDurable logged.size moment (found ++ order_from logged.size pass script lists) lists r
