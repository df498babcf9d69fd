use Rattle.std.proofs.Common.{sym, subst}
use Rattle.wal_spelling.specs.Spelling.{word_at}
use Rattle.wal_page.specs.Placed.{PlacedState}
use Rattle.word_ring.specs.CopyRuns.{HasCopied, MayCopy}
use Rattle.word_ring.proofs.CopyLaws.{has_copied, words_may}
use Rattle.word_ring.proofs.copying.copy_bytes.Goals as goal

pub take_bytes-requires-clause-owned : goal.take_bytes-requires-clause-owned
take_bytes-requires-clause-owned g c = c.requires.may.left

pub store_bytes-requires-clause-run : goal.store_bytes-requires-clause-run
store_bytes-requires-clause-run g c =
    words_may c.args.count c.args.place (word_at c.in-Some.bytes.now) c.args.seated.now
    c.args.placed.now c.requires.may c.in-Some.ensures.words

pub returns-in-Some : goal.returns-in-Some
returns-in-Some g c = record {
  copied = has_copied c.args.count c.args.seated.now c.store_bytes.new.seated c.args.placed.now _
      c.requires.may.rest c.store_bytes.ensures c.in-Some.ensures.placed;
}

pub copy_long-requires-clause-may : goal.copy_long-requires-clause-may
copy_long-requires-clause-may g c =
    subst (λ (s : PlacedState). MayCopy c.args.count c.args.place c.args.seated.now s)
    (sym c.in-None.ensures.none) c.requires.may

pub returns-in-None : goal.returns-in-None
returns-in-None g c = record {
  copied = subst (λ (s : PlacedState). HasCopied c.args.count c.args.seated.now
      c.copy_long.new.seated s c.copy_long.new.placed) c.in-None.ensures.none
      c.copy_long.ensures.copied;
}
