use Rattle.run_laws.proofs.FullLines.{full_cause}
use Rattle.run_laws.proofs.laws.full_has_its_cause.Goals as goal

pub returns : goal.returns
returns c = record {
  cause = λ opening placed order last pass follows all value free before after full ends own.
      full_cause opening placed order last pass follows all value free before after full ends own;
}
