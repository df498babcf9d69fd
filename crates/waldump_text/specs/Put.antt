-- Texts put into a sink.
use Rattle.std.specs.Prelude.{◌≡◌, ℕ, ◌-◌, List, [], ◌∷◌, ◌++◌, length, take, replicate, Option, Result, Ok, Err}
use Rattle.segment_disk.specs.Cause.{RoseByOne}
use Rattle.segment_disk.specs.Stream.{with_behind}
use Rattle.waldump_text.specs.declared.putting.SinkFault.{SinkFault}

-- pieces, one behind another
abbrev pub joined : List (List ℕ) → List ℕ
joined [] = []
joined (piece ∷ pieces) = piece ++ joined pieces

-- a sink took a text: all of it, or a front of it where it failed
abbrev pub Puts : Option (List ℕ) → Option (List ℕ) → ℕ → ℕ → List ℕ → Result (Unit {0}) SinkFault
    → Type 0
Puts old new before after text (Ok done) = (new ≡ with_behind old text) × (after ≡ before)
Puts old new before after text (Err fault) =
    ((n : ℕ) × (new ≡ with_behind old (take n text))) × RoseByOne before after
    × (fault.faults ≡ after)

-- a sink took a text up to a rest, and has not failed
pub record HasPut (old new : Option (List ℕ)) (before after : ℕ) (text rest : List ℕ) : Type 0 where
  pub front : List ℕ
  pub parts : text ≡ front ++ rest
  pub taken : new ≡ with_behind old front
  pub faults : after ≡ before

-- a sink took a text but for what is held back; or a front of it where it failed
abbrev pub PutsBut : Option (List ℕ) → Option (List ℕ) → ℕ → ℕ → List ℕ → List ℕ
    → Result (Unit {0}) SinkFault → Type 0
PutsBut old new before after text held (Ok done) = HasPut old new before after text held
PutsBut old new before after text held (Err fault) = Puts old new before after text (Err fault)

-- blanks and a text behind them, up to n bytes
abbrev pub padded_left : ℕ → List ℕ → List ℕ
padded_left n text = replicate (n - length text) 32 ++ text

-- a text and blanks behind it up to n bytes
abbrev pub padded_right : ℕ → List ℕ → List ℕ
padded_right n text = text ++ replicate (n - length text) 32
