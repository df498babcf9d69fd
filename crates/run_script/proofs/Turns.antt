-- What holds of each schedule that is read.
use Rattle.std.proofs.Common.{◌≡◌, ℕ, ◌+◌, ◌-◌, ◌<◌, ◌≤◌, ◌^◌, ◌&&◌, List, [], ◌∷◌, ◌++◌, length, replicate, Option, Some, None, Result, Ok, Err, All, leb, ltb, eqb, refl, sym, subst, arith, leb-true, ltb-true}
use Rattle.std.specs.Prelude.{IfOk, IfSome}
use Rattle.std.specs.List.{slice_split}
use Rattle.std.proofs.lemmas.Bool.{cond_both, and_parts}
use Rattle.std.proofs.lemmas.List.{length-append, length-replicate}
use Rattle.std.proofs.lemmas.List.Concat.{flat_map-append}
use Rattle.std.proofs.lemmas.List.Elements.{All-nil, All-cons, All-append, All-replicate}
use Rattle.std.proofs.lemmas.List.Sums.{sum_by-cons, sum_by_push}
use Rattle.cli_text.specs.Numbers.{number_of}
use Rattle.run_script.specs.declared.item.Item.{Item}
use Rattle.run_script.specs.Items.{IsPlayable, item_from, item_with, item_of}
use Rattle.run_script.specs.ScheduleMeaning.{◌>>=◌, after_item, after_word, after_words, after_line, after_lines, schedule_of}
use Rattle.run_script.specs.Turns.{turns_of, backends_in_turn, most_turns}

item_from-playable : (backends : ℕ) (backend turns : Option ℕ) → IfSome (item_from backends backend turns) (IsPlayable backends)
item_from-playable backends None turns = tt
item_from-playable backends (Some backend) None = tt
item_from-playable backends (Some backend) (Some turns) =
    cond_both (ltb backend backends && ltb 0 turns) (Some (record { backend = backend; turns = turns })) None (λ item. IfSome item (IsPlayable backends))
    (λ holds.
    let parts = and_parts (ltb backend backends) (ltb 0 turns) holds in
    record { there = ltb-true backend backends parts.0; some = ltb-true 0 turns parts.1 }) (λ _. tt)

item_with-playable : (backends : ℕ) (parts : List (List ℕ)) → IfSome (item_with backends parts) (IsPlayable backends)
item_with-playable backends [] = tt
item_with-playable backends (backend ∷ []) = item_from-playable backends (number_of (2 ^ 32 - 1) backend) (Some 1)
item_with-playable backends (backend ∷ turns ∷ []) = item_from-playable backends (number_of (2 ^ 32 - 1) backend) (number_of 1000000 turns)
item_with-playable backends (backend ∷ turns ∷ part ∷ parts) = tt

-- a property that each item more keeps holds of each schedule
module _ (backends : ℕ) (P : List Item → Type 0) (keeps : (items : List Item) (item : Item) → P items → IsPlayable backends item → turns_of items + item.turns ≤ most_turns → P (items ++ item ∷ [])) where
  behind : (read : Result (List Item) ℕ) (f : List Item → Result (List Item) ℕ) → IfOk read P → ((items : List Item) → P items → IfOk (f items) P) → IfOk (read >>= f) P
  behind (Ok items) f holds then_holds = then_holds items holds
  behind (Err line) f holds then_holds = tt

  after_item-keeps : (line : ℕ) (items : List Item) (item : Option Item) → P items → IfSome item (IsPlayable backends) → IfOk (after_item line items item) P
  after_item-keeps line items None holds playable = tt
  after_item-keeps line items (Some item) holds playable =
      cond_both (leb (turns_of items + item.turns) most_turns) (Ok (items ++ item ∷ [])) (Err line) (λ read. IfOk read P) (λ fits. keeps items item holds playable (leb-true (turns_of items + item.turns) most_turns fits)) (λ _. tt)

  after_word-keeps : (line : ℕ) (items : List Item) (word : List ℕ) → P items → IfOk (after_word backends line items word) P
  after_word-keeps line items [] holds = holds
  after_word-keeps line items (c ∷ cs) holds = after_item-keeps line items (item_of backends (c ∷ cs)) holds (item_with-playable backends (slice_split (λ b. eqb b 42) (c ∷ cs)))

  after_words-keep : (line : ℕ) (items : List Item) (words : List (List ℕ)) → P items → IfOk (after_words backends line items words) P
  after_words-keep line items [] holds = holds
  after_words-keep line items (word ∷ words) holds =
      behind (after_word backends line items word) (λ more. after_words backends line more words) (after_word-keeps line items word holds) (λ more. after_words-keep line more words)

  after_line-keeps : (line : ℕ) (items : List Item) (text : List ℕ) → P items → IfOk (after_line backends line items text) P
  after_line-keeps line items [] holds = holds
  after_line-keeps line items (c ∷ cs) holds =
      cond_both (eqb c 35) (Ok items) (after_words backends line items (slice_split (λ b. eqb b 32) (c ∷ cs))) (λ read. IfOk read P) (λ _. holds) (λ _. after_words-keep line items (slice_split (λ b. eqb b 32) (c ∷ cs)) holds)

  after_lines-keep : (line : ℕ) (items : List Item) (texts : List (List ℕ)) → P items → IfOk (after_lines backends line items texts) P
  after_lines-keep line items [] holds = holds
  after_lines-keep line items (text ∷ texts) holds =
      behind (after_line backends line items text) (λ more. after_lines backends (line + 1) more texts) (after_line-keeps line items text holds) (λ more. after_lines-keep (line + 1) more texts)

  schedule-keeps : (first_line : ℕ) (bytes : List ℕ) → P [] → IfOk (schedule_of backends first_line bytes) P
  schedule-keeps first_line bytes holds = after_lines-keep first_line [] (slice_split (λ c. eqb c 10) bytes) holds

-- there is one backend for each turn
pub length-backends_in_turn : (items : List Item) → length (backends_in_turn items) ≡ turns_of items
length-backends_in_turn [] = refl
length-backends_in_turn (item ∷ items) =
    omega (arith, length-append (replicate item.turns item.backend) (backends_in_turn items), length-replicate item.turns item.backend, length-backends_in_turn items, sum_by-cons (λ (i : Item). i.turns) item items)

pub lines_are_within : (backends line : ℕ) (texts : List (List ℕ)) → IfOk (after_lines backends line [] texts) (λ items. length (backends_in_turn items) ≤ most_turns)
lines_are_within backends line texts =
    after_lines-keep backends (λ items. length (backends_in_turn items) ≤ most_turns)
    (λ items item holds playable fits. omega (arith, fits, length-backends_in_turn (items ++ item ∷ []), sum_by_push (λ (i : Item). i.turns) items item))
    line [] texts (omega arith)

pub turns_are_within : (backends first_line : ℕ) (bytes : List ℕ) → IfOk (schedule_of backends first_line bytes) (λ items. length (backends_in_turn items) ≤ most_turns)
turns_are_within backends first_line bytes = lines_are_within backends first_line (slice_split (λ c. eqb c 10) bytes)

pub items_are_playable : (backends first_line : ℕ) (bytes : List ℕ) → IfOk (schedule_of backends first_line bytes) (All (IsPlayable backends))
items_are_playable backends first_line bytes =
    let Is = IsPlayable backends in
    schedule-keeps backends (All Is) (λ items item holds playable fits. All-append Is items (item ∷ []) holds (All-cons Is item [] playable (All-nil Is))) first_line bytes (All-nil Is)

-- each turn is one of a backend that is there
pub lines_are_of_backends : (backends line : ℕ) (texts : List (List ℕ)) → IfOk (after_lines backends line [] texts) (λ items. All (λ backend. backend < backends) (backends_in_turn items))
lines_are_of_backends backends line texts =
    let Is = λ (backend : ℕ). backend < backends in
    after_lines-keep backends (λ items. All Is (backends_in_turn items))
    (λ items item holds playable fits. subst (All Is) (sym (flat_map-append (λ (i : Item). replicate i.turns i.backend) items (item ∷ [])))
    (All-append Is (backends_in_turn items) (replicate item.turns item.backend ++ []) holds
    (All-append Is (replicate item.turns item.backend) [] (All-replicate Is item.turns item.backend playable.there) (All-nil Is))))
    line [] texts (All-nil Is)

pub backends_are_there : (backends first_line : ℕ) (bytes : List ℕ) → IfOk (schedule_of backends first_line bytes) (λ items. All (λ backend. backend < backends) (backends_in_turn items))
backends_are_there backends first_line bytes = lines_are_of_backends backends first_line (slice_split (λ c. eqb c 10) bytes)
