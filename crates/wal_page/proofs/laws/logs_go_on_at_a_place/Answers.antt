use Rattle.wal_page.proofs.PlaceLaws.{word_from-below, word_from-entry, word_from_push, word_from-behind, word_from-all, word_from-new}
use Rattle.wal_page.proofs.laws.logs_go_on_at_a_place.Goals as goal

pub returns : goal.returns
returns c = record {
  below = λ size sysid place es address valid below. word_from-below size sysid valid place es address below;
  entry = λ size sysid place front back e valid chain address owns. word_from-entry size sysid valid place front back e chain address owns;
  further = λ size sysid place es e valid chain at address not_owned. word_from_push size sysid valid place es e chain at address not_owned;
  behind = λ size sysid place es address valid chain behind. word_from-behind size sysid valid place es chain address behind;
  found = λ size sysid place found es valid chain at behind words address whole. word_from-all size sysid valid found place at behind words es chain address whole;
  fresh = λ size sysid es address valid chain whole. word_from-new size sysid valid es chain address whole;
}
