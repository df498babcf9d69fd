-- When two blocks are one, and which comes first.
use Rattle.std.specs.Prelude.{Bool, ◌==◌, ◌&&◌}
use Rattle.std.specs.Cmp.{IsEquivalence, IsTotalOrder, and_equiv, nat_cmp_total, nat_eq_equiv, on_equiv, on_total, then_total}
use Rattle.std.specs.Ordering.{nat_cmp, on, then_cmp}
use Rattle.std.specs.declared.cmp.Ordering.{Ordering}
use Rattle.wal_redo.specs.declared.block_id.BlockId.{BlockId}

-- whether two are the same block
abbrev pub is_block : BlockId → BlockId → Bool
is_block a b =
    a.rel.spc == b.rel.spc && a.rel.db == b.rel.db && a.rel.rel == b.rel.rel && a.fork == b.fork
    && a.blk == b.blk

-- by tablespace, database, relation, fork and number
abbrev pub block_order : BlockId → BlockId → Ordering
block_order =
    then_cmp
    (then_cmp
    (then_cmp (then_cmp (on (λ b. b.rel.spc) nat_cmp) (on (λ b. b.rel.db) nat_cmp))
    (on (λ b. b.rel.rel) nat_cmp)) (on (λ b. b.fork) nat_cmp)) (on (λ b. b.blk) nat_cmp)

-- each is one with itself, and two that are one with a third are one
pub is_block-equivalence : IsEquivalence is_block
is_block-equivalence =
    and_equiv
    (and_equiv
    (and_equiv
    (and_equiv (on_equiv (λ b. b.rel.spc) nat_eq_equiv) (on_equiv (λ b. b.rel.db) nat_eq_equiv))
    (on_equiv (λ b. b.rel.rel) nat_eq_equiv)) (on_equiv (λ b. b.fork) nat_eq_equiv))
    (on_equiv (λ b. b.blk) nat_eq_equiv)

pub block_order-total : IsTotalOrder block_order
block_order-total =
    then_total
    (then_total
    (then_total
    (then_total (on_total (λ b. b.rel.spc) nat_cmp_total) (on_total (λ b. b.rel.db) nat_cmp_total))
    (on_total (λ b. b.rel.rel) nat_cmp_total)) (on_total (λ b. b.fork) nat_cmp_total))
    (on_total (λ b. b.blk) nat_cmp_total)
