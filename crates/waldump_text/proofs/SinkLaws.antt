-- Texts put into a sink, piece by piece.
use Rattle.std.proofs.Common.{◌≡◌, ℕ, ◌+◌, min, List, [], ◌++◌, length, take, Option, Some, None, Result, Ok, Err, refl, ap, sym, subst, ◌∙◌, append_assoc, arith}
use Rattle.std.proofs.lemmas.List.{append-nil, take-append-le, take_min}
use Rattle.std.proofs.Math.Seq.{take-append_seam, take-append-add}
use Rattle.segment_disk.specs.Stream.{with_behind}
use Rattle.waldump_text.specs.Put.{HasPut, Puts}
use Rattle.segment_disk.specs.Cause.{RoseByOne}
use Rattle.waldump_text.specs.declared.putting.SinkFault.{SinkFault}

pub with_behind-nil : (taken : Option (List ℕ)) → with_behind taken [] ≡ taken
with_behind-nil None = refl
with_behind-nil (Some bytes) = ap Some (append-nil bytes)

pub with_behind-append : (taken : Option (List ℕ)) (a b : List ℕ) → with_behind (with_behind taken a) b ≡ with_behind taken (a ++ b)
with_behind-append None a b = refl
with_behind-append (Some bytes) a b = ap Some (append_assoc bytes a b)

pub HasPut-none : (taken : Option (List ℕ)) (faults : ℕ) (text : List ℕ) → HasPut taken taken faults faults text text
HasPut-none taken faults text = record { front = []; parts = refl; taken = sym (with_behind-nil taken); faults = refl }

-- a further piece is taken
pub HasPut-more : {old mid new : Option (List ℕ)} {before between after : ℕ} {text rest : List ℕ} (piece left : List ℕ) → HasPut old mid before between text rest → rest ≡ piece ++ left → new ≡ with_behind mid piece → after ≡ between → HasPut old new before after text left
HasPut-more {old = old} piece left h split taken faults = record {
  front = h.front ++ piece;
  parts = h.parts ∙ ap (λ x. h.front ++ x) split ∙ sym (append_assoc h.front piece left);
  taken = taken ∙ ap (λ x. with_behind x piece) h.taken ∙ with_behind-append old h.front piece;
  faults = faults ∙ h.faults;
}

-- the sink has taken a front of the text
pub HasPut-front : {old new : Option (List ℕ)} {before after : ℕ} {text rest : List ℕ} → HasPut old new before after text rest → (n : ℕ) × (new ≡ with_behind old (take n text))
HasPut-front {old = old} {rest = rest} h = (length h.front, h.taken ∙ ap (with_behind old) (sym (take-append_seam h.front rest) ∙ ap (take (length h.front)) (sym h.parts)))

-- so it has where it takes a front of the next piece
pub HasPut-front_of_next : {old mid new : Option (List ℕ)} {before between : ℕ} {text rest : List ℕ} (piece left : List ℕ) → HasPut old mid before between text rest → rest ≡ piece ++ left → (n : ℕ) × (new ≡ with_behind mid (take n piece)) → (n : ℕ) × (new ≡ with_behind old (take n text))
HasPut-front_of_next {old = old} piece left h split (n, taken) =
    let m : ℕ = min n (length piece) in
    let front = take-append-add h.front (piece ++ left) m ∙ ap (λ x. h.front ++ x) (take-append-le m piece left (omega arith) ∙ take_min n piece) in
    let whole = h.parts ∙ ap (λ x. h.front ++ x) split in
    (length h.front + m, taken ∙ ap (λ x. with_behind x (take n piece)) h.taken ∙ with_behind-append old h.front (take n piece) ∙ ap (with_behind old) (sym front ∙ ap (take (length h.front + m)) (sym whole)))

-- where the sink fails at the next piece, it fails so at the text
pub Puts-failed : {old mid new : Option (List ℕ)} {before between after : ℕ} {text rest : List ℕ} (piece left : List ℕ) (fault : SinkFault) → HasPut old mid before between text rest → rest ≡ piece ++ left → Puts mid new between after piece (Err fault) → Puts old new before after text (Err fault)
Puts-failed {after = after} piece left fault h split puts =
    (HasPut-front_of_next piece left h split puts.0, subst (λ n. RoseByOne n after) h.faults puts.1, puts.2)

-- the whole text is taken where nothing of it is left
pub HasPut-all : {old new : Option (List ℕ)} {before after : ℕ} {text rest : List ℕ} → HasPut old new before after text rest → rest ≡ [] → new ≡ with_behind old text
HasPut-all {old = old} h none = h.taken ∙ ap (with_behind old) (sym (h.parts ∙ ap (λ rest. h.front ++ rest) none ∙ append-nil h.front))

-- the last piece ends the text
pub Puts-last : {old mid : Option (List ℕ)} (new : Option (List ℕ)) {before between : ℕ} (after : ℕ) {text rest : List ℕ} (piece : List ℕ) (result : Result (Unit {0}) SinkFault) → HasPut old mid before between text rest → rest ≡ piece → Puts mid new between after piece result → Puts old new before after text result
Puts-last new after piece (Ok done) h ends puts =
    let all = HasPut-more piece [] h (ends ∙ sym (append-nil piece)) puts.0 puts.1 in
    (HasPut-all all refl, all.faults)
Puts-last new after piece (Err fault) h ends puts = Puts-failed piece [] fault h (ends ∙ sym (append-nil piece)) puts

-- ---- a text that is held back in part

-- a further piece goes on behind what is held back, and some of it is held back in turn
pub HasPut-further : {old mid new : Option (List ℕ)} {before between after : ℕ} {text rest held : List ℕ} (piece left : List ℕ) → HasPut old mid before between text rest → rest ≡ piece ++ left → HasPut mid new between after piece held → HasPut old new before after text (held ++ left)
HasPut-further {old = old} {held = held} piece left h split more = record {
  front = h.front ++ more.front;
  parts = h.parts ∙ ap (λ x. h.front ++ x) (split ∙ ap (λ x. x ++ left) more.parts ∙ append_assoc more.front held left) ∙ sym (append_assoc h.front more.front (held ++ left));
  taken = more.taken ∙ ap (λ x. with_behind x more.front) h.taken ∙ with_behind-append old h.front more.front;
  faults = more.faults ∙ h.faults;
}

-- a text that goes on behind what was put
pub HasPut-behind : {old new : Option (List ℕ)} {before after : ℕ} {text rest : List ℕ} (more : List ℕ) → HasPut old new before after text rest → HasPut old new before after (text ++ more) (rest ++ more)
HasPut-behind {rest = rest} more h = record { front = h.front; parts = ap (λ x. x ++ more) h.parts ∙ append_assoc h.front rest more; taken = h.taken; faults = h.faults }

pub HasPut-same : {old new : Option (List ℕ)} {before after : ℕ} {text rest other : List ℕ} → HasPut old new before after text rest → rest ≡ other → HasPut old new before after text other
HasPut-same {old = old} {new = new} {before = before} {after = after} {text = text} h same = subst (HasPut old new before after text) same h

-- all of a text is put
pub HasPut-whole : {old new : Option (List ℕ)} {before after : ℕ} (text : List ℕ) → new ≡ with_behind old text → after ≡ before → HasPut old new before after text []
HasPut-whole text taken faults = record { front = text; parts = sym (append-nil text); taken = taken; faults = faults }
