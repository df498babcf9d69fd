-- A lane has answered as many lines as its backend, and 32 bits count them.
use Rattle.std.proofs.Common.{◌≡◌, ℕ, ◌<◌, Result, Ok, Err, sym, ◌∙◌}
use Rattle.std.specs.Result.{OkIff, result_unwrap_or}
use Rattle.wal_core.specs.Cores.{core_of}
use Rattle.wal_core.proofs.Cores.{few_answered, lane_read}
use Rattle.wal_core.proofs.machine.Core.answered.Goals as goal

-- a number that fits is told as it is
told : {E : Type 0} (r : Result ℕ E) (n : ℕ) → n < 4294967296 → OkIff r (n < 4294967296) n
    → n ≡ result_unwrap_or r 4294967295
told (Ok x) n fits is = sym is.1
told (Err e) n fits is = absurd (is fits)

pub returns : goal.returns
returns c = λ m b k there.
    let core = core_of c.args.self.now in
    let lane = c.index.result.now in
    let same = lane_read core m k c.args.backend b lane there c.index.ensures in
    let fits = few_answered core m k c.args.backend b lane there c.index.ensures in
    same ∙ (told c.try_from.result lane.answered fits c.try_from.ensures ∙ sym c.unwrap_or.ensures)
