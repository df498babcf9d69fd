-- Puts that are called one behind another, and one that is refused behind them.
use Rattle.std.proofs.Common.{◌≡◌, ℕ, List, [], ◌∷◌, ◌++◌, Err, refl, sym, ap, ◌∙◌, append_assoc, inr}
use Rattle.std.specs.Prelude.{map}
use Rattle.std.proofs.lemmas.List.{append-nil, map-append}
use Rattle.wal_redo.specs.declared.block_id.BlockId.{BlockId}
use Rattle.wal_redo.specs.declared.blocks.PutErr.{PutErr}
use Rattle.wal_redo.specs.declared.blocks.PutErr.TheVariants as putting
use Rattle.wal_redo.specs.declared.redoing.RedoErr.{RedoErr}
use Rattle.wal_redo.specs.declared.redoing.RedoErr.TheVariants as redoing
use Rattle.wal_redo.specs.BlockMap.{PagePut}
use Rattle.wal_redo.specs.Calls.{CallsAll, CallsFront, CallsPuts, CallsRedo, CallsUpTo, PutCall, done_call, with_put_call}

pub CallsAll-none : (calls : List PutCall) → CallsAll calls calls []
CallsAll-none calls = sym (append-nil calls)

pub CallsAll-more : (old between new : List PutCall) (puts others : List PagePut) → CallsAll old between puts → CallsAll between new others → CallsAll old new (puts ++ others)
CallsAll-more old between new puts others called then_called =
    then_called
    ∙ ap (λ (calls : List PutCall). calls ++ map done_call others) called
    ∙ append_assoc old (map done_call puts) (map done_call others)
    ∙ ap (λ (calls : List PutCall). old ++ calls) (sym (map-append done_call puts others))

-- the first of these puts was refused
pub CallsUpTo-first : (old : List PutCall) (new : List PutCall) (error : PutErr) (block : BlockId) (page : List ℕ) → new ≡ with_put_call old block page (Err error) → CallsUpTo old new error (record { block = block; page = page } ∷ [])
CallsUpTo-first old new error block page last = record {
  front = [];
  refused = record { block = block; page = page };
  rest = [];
  parts = refl;
  between = old;
  called = CallsAll-none old;
  last = last;
}

CallsUpTo-more : (old between new : List PutCall) (error : PutErr) (puts others : List PagePut) → CallsAll old between puts → CallsUpTo between new error others → (rest : List PagePut) → CallsUpTo old new error (puts ++ (others ++ rest))
CallsUpTo-more old between new error puts others called cut rest = record {
  front = puts ++ cut.front;
  refused = cut.refused;
  rest = cut.rest ++ rest;
  parts =
      ap (λ (all : List PagePut). puts ++ (all ++ rest)) cut.parts
      ∙ ap (λ (all : List PagePut). puts ++ all) (append_assoc cut.front (cut.refused ∷ cut.rest) rest)
      ∙ sym (append_assoc puts cut.front (cut.refused ∷ (cut.rest ++ rest)));
  between = cut.between;
  called = CallsAll-more old between cut.between puts cut.front called cut.called;
  last = cut.last;
}

pub CallsFront-of : (old new : List PutCall) (puts : List PagePut) → CallsAll old new puts → (rest : List PagePut) → CallsFront old new (puts ++ rest)
CallsFront-of old new puts called rest = record { front = puts; rest = rest; parts = refl; called = called }

-- puts that were refused, behind others that were made and before some that are left
pub CallsPuts-more : (old between new : List PutCall) (puts others : List PagePut) (e : RedoErr) → CallsAll old between puts → CallsPuts between new others (Err e) → (rest : List PagePut) → CallsPuts old new (puts ++ (others ++ rest)) (Err e)
CallsPuts-more old between new puts others redoing.Memory called cut rest = CallsUpTo-more old between new putting.Memory puts others called cut rest
CallsPuts-more old between new puts others (redoing.Disk faults) called cut rest = cut
CallsPuts-more old between new puts others (redoing.Stopped stop) called cut rest = cut
CallsPuts-more old between new puts others (redoing.Store faults) called cut rest = CallsUpTo-more old between new putting.Failed puts others called cut rest

-- so a redo of them ends
pub CallsRedo-refused : (old new : List PutCall) (puts : List PagePut) (e : RedoErr) → CallsPuts old new puts (Err e) → CallsRedo old new (Err e) puts
CallsRedo-refused old new puts redoing.Memory cut = inr cut
CallsRedo-refused old new puts (redoing.Disk faults) cut = absurd cut
CallsRedo-refused old new puts (redoing.Stopped stop) cut = absurd cut
CallsRedo-refused old new puts (redoing.Store faults) cut = cut
