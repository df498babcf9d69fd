-- What block references spell fits.
use Rattle.std.proofs.Common.{◌≡◌, ℕ, ◌+◌, ◌-◌, ◌<◌, ◌^◌, inl, inr, Bool, true, false, ◌&&◌, List, [], ◌∷◌, Option, Some, None, Ok, All, min, eqb, leb, refl, ap, arith, leb-true}
use Rattle.std.specs.Prelude.{IfOk, IfSome, codes}
use Rattle.std.proofs.lemmas.Bool.{cases_Bool, cond_both, and_parts}
use Rattle.std.proofs.lemmas.List.Elements.{All-nil, All-cons, All-replicate}
use Rattle.wal_types.specs.declared.record.Rel.{Rel}
use Rattle.wal_spelling.specs.Record.{BlockFits, ImageFits}
use Rattle.run_script.specs.declared.blocks.Fork.{Fork}
use Rattle.run_script.specs.declared.images.Filler.{Filler}
use Rattle.run_script.specs.declared.line.ScriptFault.TheVariants as faults
use Rattle.run_script.specs.Text.{is_text, pieces_of}
use Rattle.cli_text.specs.Numbers.{number_of}
use Rattle.run_script.specs.Hexadecimal.{byte_spelled, data_of}
use Rattle.run_script.specs.Fields.{◌>>=◌}
use Rattle.run_script.specs.Blocks.{relation_with, fork_with, fork_of, filler_with, filler_of, page_image_with, image_spelled, block_with, references_from}
use Rattle.run_script.proofs.Fits.{number_of-le, byte_of-lt, data_of_fits}
use Rattle.run_script.proofs.Steps.{bind_then, part_then}

record RelFits (rel : Rel) : Type 0 where
  pub tablespace : rel.spc < 2 ^ 32
  pub database : rel.db < 2 ^ 32
  pub relation : rel.rel < 2 ^ 32

relation_fits : (parts : List (List ℕ)) → IfOk (relation_with parts) RelFits
relation_fits (tablespace ∷ database ∷ relation ∷ []) =
    part_then (number_of (2 ^ 32 - 1) tablespace) faults.Number _ RelFits (λ spc spc_is.
    part_then (number_of (2 ^ 32 - 1) database) faults.Number _ RelFits (λ db db_is.
    part_then (number_of (2 ^ 32 - 1) relation) faults.Number _ RelFits (λ rel rel_is. record {
      tablespace = omega (arith, number_of-le (2 ^ 32 - 1) tablespace spc spc_is);
      database = omega (arith, number_of-le (2 ^ 32 - 1) database db db_is);
      relation = omega (arith, number_of-le (2 ^ 32 - 1) relation rel rel_is);
    })))
relation_fits others = tt

fork_with-lt : (digit : ℕ) (will_init : Bool) (fork : Fork) → fork_with digit will_init ≡ Some fork → fork.number < 256
fork_with-lt digit will_init fork is =
    elim (cases_Bool (leb 48 digit && leb digit 51)) [
      | inl holds ↦
          (let value : Some (record { number = digit - 48; will_init = will_init }) ≡ Some fork = rw holds at is in
          let same : record { number = digit - 48; will_init = will_init } ≡ fork = cc in
          let number : digit - 48 ≡ fork.number = ap (λ (f : Fork). f.number) same in
          omega (arith, number, leb-true digit 51 (and_parts (leb 48 digit) (leb digit 51) holds).1))
      | inr fails ↦ (let none : None ≡ Some fork = rw fails at is in absurd cc)
    ]

fork_of-lt : (part : List ℕ) (fork : Fork) → fork_of part ≡ Some fork → fork.number < 256
fork_of-lt [] fork is = absurd cc
fork_of-lt (digit ∷ []) fork is = fork_with-lt digit false fork is
fork_of-lt (digit ∷ c ∷ []) fork is =
    elim (cases_Bool (eqb c 105)) [
      | inl initial ↦ fork_with-lt digit true fork (rw initial at is)
      | inr other ↦ (let none : None ≡ Some fork = rw other at is in absurd cc)
    ]
fork_of-lt (digit ∷ c ∷ d ∷ others) fork is = absurd cc

filler_with-lt : (byte : Option ℕ) (apply : Bool) (filler : Filler) → ((b : ℕ) → byte ≡ Some b → b < 256) → filler_with byte apply ≡ Some filler → filler.byte < 256
filler_with-lt None apply filler byte_fits is = absurd cc
filler_with-lt (Some b) apply filler byte_fits is =
    let same : record { byte = b; apply = apply } ≡ filler = cc in
    let byte : b ≡ filler.byte = ap (λ (f : Filler). f.byte) same in
    omega (arith, byte, byte_fits b refl)

filler_of-lt : (part : List ℕ) (filler : Filler) → filler_of part ≡ Some filler → filler.byte < 256
filler_of-lt [] filler is = absurd cc
filler_of-lt (high ∷ []) filler is = absurd cc
filler_of-lt (high ∷ low ∷ []) filler is = filler_with-lt (byte_spelled (high ∷ low ∷ [])) true filler (byte_of-lt (high ∷ low ∷ [])) is
filler_of-lt (high ∷ low ∷ c ∷ []) filler is =
    elim (cases_Bool (eqb c 118)) [
      | inl unapplied ↦ filler_with-lt (byte_spelled (high ∷ low ∷ [])) false filler (byte_of-lt (high ∷ low ∷ [])) (rw unapplied at is)
      | inr other ↦ (let none : None ≡ Some filler = rw other at is in absurd cc)
    ]
filler_of-lt (high ∷ low ∷ c ∷ d ∷ others) filler is = absurd cc

page_image_fits : (parts : List (List ℕ)) → IfOk (page_image_with parts) ImageFits
page_image_fits (offset ∷ len ∷ others ∷ []) =
    part_then (number_of 8192 offset) faults.Image _ ImageFits (λ hole_offset hole_offset_is.
    part_then (number_of 8192 len) faults.Image _ ImageFits (λ hole_len hole_len_is.
    part_then (filler_of others) faults.Image _ ImageFits (λ filler filler_is. record {
      hole_offset = omega (arith, number_of-le 8192 offset hole_offset hole_offset_is);
      hole_len = omega (arith, number_of-le 8192 len hole_len hole_len_is);
      bytes = All-replicate (λ b. b < 256) (8192 - hole_len) filler.byte (filler_of-lt others filler filler_is);
    })))
page_image_fits others = tt

image_fits : (part : List ℕ) → IfOk (image_spelled part) (λ image. IfSome image ImageFits)
image_fits part =
    cond_both (is_text part (codes "-")) (Ok None) (page_image_with (pieces_of 43 part) >>= (λ image. Ok (Some image))) (λ read. IfOk read (λ image. IfSome image ImageFits)) (λ _. tt)
    (λ _. bind_then (page_image_with (pieces_of 43 part)) (λ image. Ok (Some image)) ImageFits (λ image. IfSome image ImageFits) (page_image_fits (pieces_of 43 part)) (λ image fits. fits))

block_fits : (id : ℕ) → id < 256 → (parts : List (List ℕ)) → IfOk (block_with id parts) BlockFits
block_fits id id_fits (relation ∷ fork ∷ number ∷ bytes ∷ page ∷ []) =
    bind_then (relation_with (pieces_of 47 relation)) _ RelFits BlockFits (relation_fits (pieces_of 47 relation)) (λ rel rel_fits.
    part_then (fork_of fork) faults.Block _ BlockFits (λ kind kind_is.
    part_then (number_of (2 ^ 32 - 2) number) faults.Number _ BlockFits (λ blk blk_is.
    part_then (data_of bytes) faults.Hex _ BlockFits (λ content content_is.
    bind_then (image_spelled page) _ (λ image. IfSome image ImageFits) BlockFits (image_fits page) (λ image fits. record {
      numbers = record {
        id = id_fits;
        tablespace = rel_fits.tablespace;
        database = rel_fits.database;
        relation = rel_fits.relation;
        fork = fork_of-lt fork kind kind_is;
        number = omega (arith, number_of-le (2 ^ 32 - 2) number blk blk_is);
      };
      content = data_of_fits bytes content content_is;
      image = fits;
    })))))
block_fits id id_fits others = tt

pub blocks_fit : (id : ℕ) → id < 256 → (fields : List (List ℕ)) → IfOk (references_from id fields) (All BlockFits)
blocks_fit id id_fits [] = All-nil BlockFits
blocks_fit id id_fits (field ∷ fields) =
    bind_then (block_with id (pieces_of 58 field)) _ BlockFits (All BlockFits) (block_fits id id_fits (pieces_of 58 field)) (λ block fits.
    bind_then (references_from (min (id + 1) 255) fields) _ (All BlockFits) (All BlockFits) (blocks_fit (min (id + 1) 255) (omega arith) fields) (λ blocks all_fit. All-cons BlockFits block blocks fits all_fit))
