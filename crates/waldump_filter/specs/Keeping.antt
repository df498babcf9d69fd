-- Which records a filter keeps.
use Rattle.std.specs.Prelude.{ℕ, Bool, true, false, not, ◌&&◌, ◌||◌, ◌==◌, nat_le, is_some, List, Option, Some, None}
use Rattle.std.specs.List.{list_any}
use Rattle.wal_types.specs.declared.lsn.Lsn.{Lsn}
use Rattle.wal_types.specs.declared.record.Block.{Block}
use Rattle.wal_types.specs.declared.record.Record.{Record}
use Rattle.wal_types.specs.declared.record.Rel.{Rel}
use Rattle.wal_types.specs.declared.record.Xid.{Xid}
use Rattle.waldump_filter.specs.declared.Filter.{Filter}
use Rattle.waldump_filter.specs.declared.listed.Listed.{Listed}

-- whether a rule is not given, or what it asks for passes a test
abbrev pub is_none_or : {A : Type 0} → Option A → (A → Bool) → Bool
is_none_or None test = true
is_none_or (Some wanted) test = test wanted

-- whether a relation is another: its tablespace, its database and its own number
abbrev pub is_relation : Rel → Rel → Bool
is_relation rel wanted = rel.spc == wanted.spc && rel.db == wanted.db && rel.rel == wanted.rel

-- whether a manager and a transaction meet the rules on both
abbrev pub meets_header : Filter → ℕ → Xid → Bool
meets_header filter rmid xid =
    is_none_or filter.rmid (λ wanted. rmid == wanted)
    && is_none_or filter.xid (λ wanted. xid.0 == wanted.0)

-- whether a relation, a block's number and a fork meet the rules on them, all three
abbrev pub meets_place : Filter → Rel → ℕ → ℕ → Bool
meets_place filter rel blk fork =
    is_none_or filter.rel (λ wanted. is_relation rel wanted)
    && is_none_or filter.blk (λ wanted. blk == wanted)
    && is_none_or filter.fork (λ wanted. fork == wanted)

-- whether a block meets the rules on a relation, a block's number and a fork, all three
abbrev pub meets_block : Filter → Block → Bool
meets_block filter b =
    is_none_or filter.rel (λ rel. is_relation b.rel rel)
    && is_none_or filter.blk (λ blk. b.blk == blk)
    && is_none_or filter.fork (λ fork. b.fork == fork)

-- whether one of these rules is given
abbrev pub asks_for_block : Filter → Bool
asks_for_block filter = is_some filter.rel || is_some filter.blk || is_some filter.fork

-- whether one of a record's blocks has an image
abbrev pub has_page_image : List Block → Bool
has_page_image blocks = list_any (λ b. is_some b.image) blocks

-- whether a rule is given beside the start
abbrev pub has_rules : Filter → Bool
has_rules filter =
    is_some filter.rmid || is_some filter.xid || filter.fullpage || asks_for_block filter

-- whether what a record carries meets all rules beside the start
abbrev pub meets_rules : Filter → Record → Bool
meets_rules filter value =
    is_none_or filter.rmid (λ rmid. value.rmid == rmid)
    && is_none_or filter.xid (λ xid. value.xid.0 == xid.0)
    && (not (asks_for_block filter) || list_any (meets_block filter) value.blocks)
    && (not filter.fullpage || has_page_image value.blocks)

-- whether a filter keeps a record: it starts at the filter's start or behind it, its manager and
-- transaction are those that are asked for, one block of it meets the rules on blocks where one is
-- given, and it has an image where that is asked for
unfoldable pub keeps : Filter → Listed → Bool
keeps filter r =
    nat_le filter.start.0 r.start.0
    && is_none_or filter.rmid (λ rmid. r.value.rmid == rmid)
    && is_none_or filter.xid (λ xid. r.value.xid.0 == xid.0)
    && (not (asks_for_block filter) || list_any (meets_block filter) r.value.blocks)
    && (not filter.fullpage || has_page_image r.value.blocks)

-- whether so many listed records are as many as a limit allows
abbrev pub is_reached : Option ℕ → ℕ → Bool
is_reached None count = false
is_reached (Some limit) count = nat_le limit count

-- the filter that keeps all that starts at an address or behind it, and prints it all
abbrev pub everything_from : Lsn → Filter
everything_from start = record {
  rmid = None;
  xid = None;
  rel = None;
  blk = None;
  fork = None;
  fullpage = false;
  start = start;
  end = None;
  limit = None;
  quiet = false;
  stats = false;
  times = false;
}
