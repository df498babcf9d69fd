use Rattle.std.specs.Borrow.{Bor}
use Rattle.std.specs.Option.{option_map}
use Rattle.std.proofs.Common.{◌∙◌, ap, ℕ, List, Option, sym}
use Rattle.pgwal_c.proofs.HandedIn.{hands_told, none_handed, some_handed}
use Rattle.pgwal_c.proofs.reader_handle.ReaderHandle.hand_in.Goals as goal
use Rattle.pgwal_c.proofs.reader_handle.ReaderHandle.hand_in.Goals.{else-call-eq0, then-call-eq0}

pub returns-in-Ok : goal.returns-in-Ok
returns-in-Ok c =
    hands_told c.args.call.now 0 c.args.self.now.reader c.in-Some.reader c.hand_in.new.self
    c.if-call-eq0.page c.in-Some.is (elim c.if-call-eq0.branch [
      | then-call-eq0 w ↦ none_handed c.args.call.now w.if-call-eq0.true
          ∙ sym (ap (λ (x : Option (Bor (List ℕ))). option_map (λ p. p.now) x) w.page-is)
      | else-call-eq0 w ↦ some_handed c.args.call.now w.if-call-eq0.false
          ∙ sym (ap (λ (x : Option (Bor (List ℕ))). option_map (λ p. p.now) x) w.page-is)
    ]) c.hand_in.ensures

pub returns-in-Err : goal.returns-in-Err
returns-in-Err c =
    hands_told c.args.call.now 5 c.args.self.now.reader c.in-Some.reader c.hand_in.new.self
    c.if-call-eq0.page c.in-Some.is (elim c.if-call-eq0.branch [
      | then-call-eq0 w ↦ none_handed c.args.call.now w.if-call-eq0.true
          ∙ sym (ap (λ (x : Option (Bor (List ℕ))). option_map (λ p. p.now) x) w.page-is)
      | else-call-eq0 w ↦ some_handed c.args.call.now w.if-call-eq0.false
          ∙ sym (ap (λ (x : Option (Bor (List ℕ))). option_map (λ p. p.now) x) w.page-is)
    ]) c.hand_in.ensures
