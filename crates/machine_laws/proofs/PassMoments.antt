-- The moments behind a pass that is split off, is taken in, or gives up its copy.
use Rattle.std.proofs.Common.{◌≡◌, ◌≢◌, ℕ, List, [], ◌∷◌, ◌++◌, map, set, refl, sym, ap, ◌∙◌, subst}
use mathlib.Core.Option.{Option}
use Rattle.machine_state.specs.Words.{Opening, flushed_word, moment_word}
use Rattle.machine_state.specs.Views.{HasAt, Plain, View}
use Rattle.machine_state.specs.Moves.{after_split, split_off, after_join, joined_of, spent, without_work, orphan_of}
use Rattle.machine_state.specs.Sound.{IsSound}
use Rattle.machine_state.proofs.Lists.{at_else, part_added, part_at, part_same, part_set}
use Rattle.machine_laws.specs.RisingMoments.{MomentsKeepRising, Promised, RisesHold, promised_of}
use Rattle.machine_laws.proofs.MomentParts.{begins, ends, nothing_told, takes_in}
use Rattle.segment_disk.specs.Tape.{DiskState}

module _ {first : DiskState} (opening : Opening) (words : List ℕ) (home : Option Plain) (views : List View)
    (k : IsSound first opening words home views) (now : MomentsKeepRising opening words home views k) (id : ℕ)
    (v : View) (here : HasAt views id v) where
  abbrev flushed : ℕ
  flushed = flushed_word words

  abbrev moment : ℕ
  moment = moment_word words

  abbrev parts : List Promised
  parts = map promised_of views

  abbrev pub HasMomentsWith : List View → Type 0
  HasMomentsWith changed = RisesHold opening flushed moment k.writer (map promised_of changed)

  -- a view that has the same of promises, and one that was told nothing
  added : (w x : View) → promised_of w ≡ promised_of v → promised_of x ≡ nothing_told
      → HasMomentsWith (set views id w ++ x ∷ [])
  added w x same first = subst (λ (ps : List Promised). RisesHold opening flushed moment k.writer ps)
      (sym (part_added promised_of (set views id w) x
      ∙ ap (λ (ps : List Promised). ps ++ promised_of x ∷ [])
      (part_same promised_of views id v w here same)
      ∙ ap (λ (p : Promised). parts ++ p ∷ []) first))
      (begins opening flushed moment k.writer parts now (k.durable).begun (k.durable).moment_low)

  pub split_moments : HasMomentsWith (set views id (after_split v) ++ split_off v ∷ [])
  split_moments = added (after_split v) (split_off v) refl refl

  pub given_up_moments : HasMomentsWith (set views id (without_work v) ++ orphan_of v ∷ [])
  given_up_moments = added (without_work v) (orphan_of v) refl refl

  pub joined_moments : (other : ℕ) (w : View) → HasAt views other w → id ≢ other
      → HasMomentsWith (set (set views other (spent w)) id (after_join v w))
  joined_moments other w there apart =
      let mine = part_at promised_of views id v here in
      let theirs = part_at promised_of views other w there in
      let left : List Promised = set parts other nothing_told in
      let ended = ends opening flushed moment k.writer parts now other (k.durable).begun
      (k.durable).moment_low in
      let took = takes_in opening flushed moment k.writer left ended id (promised_of v)
      (at_else parts other id nothing_told (promised_of v) apart mine) (joined_of w)
      (w.reserving).joined (now.in_order other (promised_of w) theirs).own
      (now.in_order other (promised_of w) theirs).joined in
      subst (λ (ps : List Promised). RisesHold opening flushed moment k.writer ps)
      (sym (part_set promised_of (set views other (spent w)) id (after_join v w)
      ∙ ap (λ (ps : List Promised). set ps id (promised_of (after_join v w)))
      (part_set promised_of views other (spent w)))) took
