-- Every sound state shows how its positions lie.
use Rattle.std.proofs.Common.{◌≡◌, inl, ℕ, ◌<◌, ◌≤◌, List, sym, ap, ◌∙◌, subst, arith}
use mathlib.Core.Option.{Option, some}
use Rattle.segment_disk.specs.Tape.{DiskState, state_now}
use Rattle.wal_page.specs.EntryWords.{address_of_word, words_owned}
use Rattle.machine_state.specs.Words.{Opening, written_word}
use Rattle.machine_state.specs.Suited.{IfSuited}
use Rattle.machine_state.specs.Views.{HasAt, Copy, Copying, Plain, View, writing_of, receipts_of}
use Rattle.machine_state.specs.Positioned.{ReadsBelow}
use Rattle.machine_state.specs.Sound.{IsSound}
use Rattle.machine_state.proofs.Lists.{part_at}
use Rattle.machine_state.proofs.Tapes.{at_suited, told_suited}
use Rattle.machine_laws.specs.SoundPositions.{KnowsNoMore, PositionsAreOrdered}
use Rattle.machine_laws.proofs.EntryLaws.{flies}
use Rattle.machine_laws.proofs.HolderLaws.{is_writer, writer_is}

module _ {first : DiskState} (opening : Opening) (words : List ℕ) (home : Option Plain) (views : List View)
    (k : IsSound first opening words home views) where
  abbrev size : ℕ
  size = (opening.setup).seg_size

  knows_no_more : (id : ℕ) (v : View) → HasAt views id v → KnowsNoMore words v
  knows_no_more id v here =
      let told = (k.durable).views id (receipts_of v) (part_at receipts_of views id v here) in
      let within = (k.positions).views id v.writing (part_at writing_of views id v here) in
      record {
        promised = told.own_promised;
        joined_promised = told.joined_promised;
        written_met = within.written_met;
        flushed_met = within.flushed_met;
      }

  -- a word that is to be copied lies at or above what is written
  copied : (id : ℕ) (v : View) (c : Copy) (n : ℕ) → HasAt views id v
      → (v.working).flight ≡ Copying c → c.copied ≤ n → n < words_owned size c.entry
      → written_word words ≤ address_of_word size c.entry n
  copied id v c n here is from owned =
      let low = (k.positions).written_low in
      let next = (k.positions).copied id c (flies views id v c here is) (omega arith) in
      omega arith

  -- below the written word the writer's disk reads as the log
  reads : IfSuited first opening k.writer
      (λ t. ReadsBelow opening k.order (written_word words) (state_now t))
  reads = told_suited first opening k.writer (λ t is suited n below.
      let low = (k.positions).written_low in
      at_suited first opening k.writer
      (λ t. ReadsBelow opening k.order (k.writer).written (state_now t)) t is suited
      (k.positions).reads n (omega arith))

  pub positions_are_ordered : PositionsAreOrdered first opening k.order words home views
  positions_are_ordered = record {
    known = knows_no_more;
    flushed_low = (k.positions).flushed_low;
    somewhere = (k.writer, writer_is opening words home views k);
    one_writer = λ w other is too. is_writer opening words home views k w is
        ∙ sym (is_writer opening words home views k other too);
    written_low = λ w is. subst (λ (x : Plain). written_word words ≤ x.written)
        (sym (is_writer opening words home views k w is)) (k.positions).written_low;
    at_home = λ w at up.
        let same = is_writer opening words home views k w (inl at) in
        (k.positions).at_home (at ∙ ap (λ (x : Plain). some x) same) up
        ∙ ap (λ (x : Plain). x.written) (sym same);
    reserved =
        let low = (k.positions).written_low in
        let within = (k.positions).reserved in omega arith;
    copied = copied;
    reads = λ w is. subst (λ (x : Plain). IfSuited first opening x
        (λ t. ReadsBelow opening k.order (written_word words) (state_now t)))
        (sym (is_writer opening words home views k w is)) reads;
  }
