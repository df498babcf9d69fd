-- A frame that is read is of one page, which is among its segments or not.
use Rattle.std.proofs.Common.{◌≡◌, ℕ, ◌/◌, sym, ap, subst, ◌∙◌}
use Rattle.std.proofs.lemmas.Bool.{false≢true}
use Rattle.byte_position.specs.Geometry.{pages_of}
use Rattle.flush_core.specs.Settled.{IsAmong}
use Rattle.wal_stream.proofs.FrameLaws.{same_page}
use Rattle.wal_stream.proofs.standby.Standby.brought.Goals as goal

pub returns-then-not-is_among-clause-none : goal.returns-then-not-is_among-clause-none
returns-then-not-is_among-clause-none g c = λ sent brings.
    let size = c.args.self.now.geometry in
    let same = same_page size c.args.bytes.now c.in_ok-sent.sent sent c.in_ok-sent.ensures.frame brings.frame in
    let at : c.page.result / c.from.result ≡ sent.page / pages_of size =
    ap (λ (n : ℕ). n / c.from.result) (c.page.ensures ∙ same) ∙ ap (λ (n : ℕ). sent.page / n) (c.from.ensures ∙ c.pages.ensures.value) in
    false≢true (sym c.if-not-is_among.true ∙ c.is_among.ensures.1 (subst (IsAmong c.args.self.now.cap) (sym at) brings.among))
