use Rattle.std.proofs.Common.{◌≡◌, ◌⊎◌, ◌∙◌, ap, subst, map, string_bytes, []}
use Rattle.std.proofs.lemmas.Result.{IfOk-weaker}
use Rattle.clap.specs.Words.{App, HasKind, IsAmong, fault_of, found_of, is_simple, is_simple_and_free, kind_of, matches_of, rows_of}
use Rattle.clap.specs.declared.error.kind.ErrorKind.TheVariants.{OutOfMemory}
use Rattle.cli_line.specs.Asking.{request_of, request_by}
use Rattle.cli_line.specs.Syntax.{declared_command}
use Rattle.cli_line.proofs.Requests.{asks-refused_or_memory, asks-taken, is_free, is_plain}
use Rattle.cli_line.proofs.asking.asked.Goals as goal

pub returns-in-Ok-clause-asks : goal.returns-in-Ok-clause-asks
returns-in-Ok-clause-asks c =
    let words = map (λ w. string_bytes w) c.args.words.now in
    let is_declared = c.in_ok-command.ensures in
    let none : fault_of declared_command words ≡ [] = subst (λ (a : App). fault_of a words ≡ []) is_declared (c.in-Ok.ensures.kinds (ap is_simple_and_free is_declared ∙ is_free)) in
    let rows : rows_of (found_of c.in-Ok.matches) ≡ matches_of declared_command words = (c.in-Ok.ensures.matches (ap is_simple is_declared ∙ is_plain)).0 ∙ ap (λ (a : App). matches_of a words) is_declared in
    c.request_of.ensures.request ∙ (ap request_of c.given_words.ensures ∙ asks-taken words _ none rows)

pub returns-in-Err-clause-asks : goal.returns-in-Err-clause-asks
returns-in-Err-clause-asks c =
    let words = map (λ w. string_bytes w) c.args.words.now in
    let is_declared = c.in_ok-command.ensures in
    let kinds : (kind_of c.in-Err.error ≡ OutOfMemory) ⊎ IsAmong (kind_of c.in-Err.error) (fault_of declared_command words) =
    subst (λ (a : App). HasKind (fault_of a words) c.in-Err.error) is_declared (c.in-Err.ensures.kinds (ap is_simple_and_free is_declared ∙ is_free)) in
    asks-refused_or_memory words (kind_of c.in-Err.error) c.request_by.result kinds
    (λ none. c.request_by.ensures.memory.1 (c.kind.ensures ∙ none))
    (IfOk-weaker c.request_by.result _ _ (λ request is. is ∙ ap request_by c.kind.ensures) c.request_by.ensures.request)
