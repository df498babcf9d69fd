-- The printed lines of the backends that are left.
use Rattle.std.proofs.Common.{◌≡◌, ℕ, zero, suc, ◌+◌, ◌<◌, List, [], ◌∷◌, ◌++◌, length, map, drop, slice_get, slice_index_or, Some, sym, ap, ap₂, ◌∙◌, arith}
use Rattle.machine_turns.specs.Doing.{Backend, Machine}
use Rattle.machine_turns.specs.Standing.{HasBackend}
use Rattle.wal_core.proofs.Lists.{below_got}
use Rattle.wal_core.specs.declared.machine.Core.{Core}
use Rattle.backend_cli.specs.ReplayBegun.{PlaysBackends}
use Rattle.backend_cli.specs.Replaying.{backend_line, backend_lines}

count_at : (backends : List Backend) (i : ℕ) (b : Backend) → slice_get backends i ≡ Some b → slice_index_or (map (λ b. length b.asks) backends) i 0 ≡ length b.asks
count_at [] i b e = absurd (cc)
count_at (c ∷ backends) zero b e = let is : c ≡ b = cc in ap (λ (x : Backend). length x.asks) is
count_at (c ∷ backends) (suc i) b e = count_at backends i b e

lines_drop : (backends : List Backend) (number i : ℕ) (b : Backend) → slice_get backends i ≡ Some b → backend_lines number (drop i backends) ≡ backend_line number b.answered (length b.asks) ++ backend_lines (number + 1) (drop (suc i) backends)
lines_drop [] number i b e = absurd (cc)
lines_drop (c ∷ backends) number zero b e = let is : c ≡ b = cc in ap (λ (x : Backend). backend_line number x.answered (length x.asks) ++ backend_lines (number + 1) backends) is
lines_drop (c ∷ backends) number (suc i) b e = lines_drop backends number i b e

-- the line of the next backend stands in front
pub lines_next : (core : Core) (counts : List ℕ) (m : Machine) → PlaysBackends core counts m → (number answered lines : ℕ) → number < length m.backends
    → ((b : Backend) → HasBackend m number b → b.answered ≡ answered) → lines ≡ slice_index_or counts number 0
    → backend_lines number (drop number m.backends) ≡ backend_line number answered lines ++ backend_lines (number + 1) (drop (number + 1) m.backends)
lines_next core counts m k number answered lines low answered_is lines_is =
    let there = below_got m.backends number low in
    let b = there.0 in
    let all : length b.asks ≡ lines = sym (count_at m.backends number b there.1) ∙ (ap (λ (c : List ℕ). slice_index_or c number 0) (sym k.counts) ∙ sym lines_is) in
    let further : suc number ≡ number + 1 = omega arith in
    lines_drop m.backends number number b there.1 ∙ ap (λ (i : ℕ). backend_line number b.answered (length b.asks) ++ backend_lines (number + 1) (drop i m.backends)) further ∙ ap₂ (λ (a n : ℕ). backend_line number a n ++ backend_lines (number + 1) (drop (number + 1) m.backends)) (answered_is b there.1) all
