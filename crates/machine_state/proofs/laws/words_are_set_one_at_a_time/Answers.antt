use Rattle.machine_state.proofs.WordLists as word
use Rattle.machine_state.proofs.laws.words_are_set_one_at_a_time.Goals as goal

pub returns-clause-again : goal.returns-clause-again
returns-clause-again c = word.word_again

pub returns-clause-single : goal.returns-clause-single
returns-clause-single c = λ setup words i n wide. word.single_set words setup wide i n

pub returns-clause-other : goal.returns-clause-other
returns-clause-other c = word.word_else

pub returns-clause-lock : goal.returns-clause-lock
returns-clause-lock c = λ setup words lock n wide. word.lock_set words setup wide lock n

pub returns-clause-other_locks : goal.returns-clause-other_locks
returns-clause-other_locks c = λ words i n lock away. word.locks_else words i n away lock

pub returns-clause-end : goal.returns-clause-end
returns-clause-end c = λ setup words buffer n wide. word.end_set words setup wide buffer n

pub returns-clause-ends_behind : goal.returns-clause-ends_behind
returns-clause-ends_behind c = λ setup words. word.ends_behind words setup

pub returns-clause-ring : goal.returns-clause-ring
returns-clause-ring c = λ setup words place n wide. word.ring_set words setup wide place n

pub returns-clause-ring_before : goal.returns-clause-ring_before
returns-clause-ring_before c = λ setup words. word.ring_before words setup

pub returns-clause-wide : goal.returns-clause-wide
returns-clause-wide c = word.wide_still
