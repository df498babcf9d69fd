use Rattle.machine_laws.proofs.LoadedWords.{loads_staged}
use Rattle.machine_laws.proofs.ring.loaded_words_are_the_logs.Goals as goal

pub returns : goal.returns
returns c = λ first. loads_staged
