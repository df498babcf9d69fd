-- What filters keep.
use Rattle.std.proofs.Common.{◌≡◌, Bool, ◌&&◌, ◌||◌, not, nat_le, is_some, true, false, Option, Some, None, refl}
use Rattle.std.proofs.lemmas.Bool.{or_parts}
use Rattle.wal_types.specs.declared.lsn.Lsn.{Lsn}
use Rattle.waldump_filter.specs.declared.Filter.{Filter}
use Rattle.waldump_filter.specs.declared.listed.Listed.{Listed}
use Rattle.waldump_filter.specs.Keeping.{asks_for_block, everything_from, has_rules, is_none_or, keeps}

and_true : (b : Bool) → (((b && true) && true) && true) && true ≡ b
and_true true = refl
and_true false = refl

-- a filter that asks for nothing keeps what starts at its start or behind it
pub everything_from-keeps : (start : Lsn) (r : Listed) → keeps (everything_from start) r ≡ nat_le start.0 r.start.0
unfolding keeps
everything_from-keeps start r = and_true (nat_le start.0 r.start.0)

none_given : {A : Type 0} → (rule : Option A) (test : A → Bool) → is_some rule ≡ false → is_none_or rule test ≡ true
none_given None test none = refl
none_given (Some wanted) test none = cc

-- tests of rules, of which none is given
ungiven : (within by_manager by_transaction asks meets pages has : Bool) → by_manager ≡ true → by_transaction ≡ true → asks ≡ false → pages ≡ false → (within && by_manager && by_transaction && (not asks || meets) && (not pages || has)) ≡ within
ungiven within by_manager by_transaction asks meets pages has a b c d = rw (a, b, c, d) (and_true within)

-- a filter without rules keeps what starts at its start or behind it
pub without_rules-keeps : (filter : Filter) (r : Listed) → has_rules filter ≡ false → keeps filter r ≡ nat_le filter.start.0 r.start.0
unfolding keeps
without_rules-keeps filter r none =
    let parts = or_parts (is_some filter.rmid || is_some filter.xid || filter.fullpage) (asks_for_block filter) none in
    let first = or_parts (is_some filter.rmid || is_some filter.xid) filter.fullpage parts.0 in
    let given = or_parts (is_some filter.rmid) (is_some filter.xid) first.0 in
    ungiven _ _ _ (asks_for_block filter) _ filter.fullpage _ (none_given filter.rmid _ given.0) (none_given filter.xid _ given.1) parts.1 first.1
