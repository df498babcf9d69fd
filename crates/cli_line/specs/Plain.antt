-- Words of the plain form: the program's name, the name of what is to be done, maybe a word behind
-- it, and options in any order, each at most once, by its name or its letter, with its value in the
-- next word.
use Rattle.std.specs.Prelude.{Bool, true, false, ◌&&◌, not, List, [], ◌∷◌, ◌++◌, Option, Some, None, codes, find, ℕ, is_some, map, option_map, ◌==◌}
use Rattle.std.specs.Option.{option_map_or}
use Rattle.std.specs.Str.{bytes_eq}
use Rattle.clap.specs.Words.{Text}
use Rattle.cli_line.specs.Given.{Given}

-- the options with a value
pub data Valued : Type 0 where
  seg_option : Valued
  ring_option : Valued
  cap_option : Valued
  writer_option : Valued
  crash_option : Valued
  from_option : Valued
  rmgr_option : Valued
  xid_option : Valued
  relation_option : Valued
  block_option : Valued
  fork_option : Valued
  start_option : Valued
  end_option : Valued
  limit_option : Valued

-- those without one
pub data Unvalued : Type 0 where
  list_switch : Unvalued
  append_switch : Unvalued
  fullpage_switch : Unvalued
  quiet_switch : Unvalued
  stats_switch : Unvalued
  times_switch : Unvalued

-- its name
abbrev pub option_name : Valued → Text
option_name seg_option = codes "seg"
option_name ring_option = codes "ring"
option_name cap_option = codes "cap"
option_name writer_option = codes "writer"
option_name crash_option = codes "crash"
option_name from_option = codes "from"
option_name rmgr_option = codes "rmgr"
option_name xid_option = codes "xid"
option_name relation_option = codes "relation"
option_name block_option = codes "block"
option_name fork_option = codes "fork"
option_name start_option = codes "start"
option_name end_option = codes "end"
option_name limit_option = codes "limit"

-- its name
abbrev pub switch_name : Unvalued → Text
switch_name list_switch = codes "list"
switch_name append_switch = codes "append"
switch_name fullpage_switch = codes "fullpage"
switch_name quiet_switch = codes "quiet"
switch_name stats_switch = codes "stats"
switch_name times_switch = codes "times"

-- the options that have a letter, 114 for `r`
pub data Letter : Type 0 where
  rmgr_letter : Letter
  xid_letter : Letter
  relation_letter : Letter
  block_letter : Letter
  fork_letter : Letter
  start_letter : Letter
  end_letter : Letter
  limit_letter : Letter

-- the letter
abbrev pub letter_of : Letter → ℕ
letter_of rmgr_letter = 114
letter_of xid_letter = 120
letter_of relation_letter = 82
letter_of block_letter = 66
letter_of fork_letter = 70
letter_of start_letter = 115
letter_of end_letter = 101
letter_of limit_letter = 110

-- and its option
abbrev pub lettered_option : Letter → Valued
lettered_option rmgr_letter = rmgr_option
lettered_option xid_letter = xid_option
lettered_option relation_letter = relation_option
lettered_option block_letter = block_option
lettered_option fork_letter = fork_option
lettered_option start_letter = start_option
lettered_option end_letter = end_option
lettered_option limit_letter = limit_option

-- the options without a value that have a letter, 119 for `w`
pub data SwitchLetter : Type 0 where
  fullpage_letter : SwitchLetter
  quiet_letter : SwitchLetter
  stats_letter : SwitchLetter

-- the letter
abbrev pub switch_letter_of : SwitchLetter → ℕ
switch_letter_of fullpage_letter = 119
switch_letter_of quiet_letter = 113
switch_letter_of stats_letter = 122

-- and its option
abbrev pub lettered_switch : SwitchLetter → Unvalued
lettered_switch fullpage_letter = fullpage_switch
lettered_switch quiet_letter = quiet_switch
lettered_switch stats_letter = stats_switch

-- an option as it is given, by its name or its letter
pub data Use : Type 0 where
  valued : Valued → Text → Use
  lettered : Letter → Text → Use
  switched : Unvalued → Use
  switched_by_letter : SwitchLetter → Use

-- its words: 45 is the hyphen
abbrev pub words_of_use : Use → List Text
words_of_use (valued option value) = (45 ∷ 45 ∷ option_name option) ∷ value ∷ []
words_of_use (lettered letter value) = (45 ∷ letter_of letter ∷ []) ∷ value ∷ []
words_of_use (switched_by_letter letter) = (45 ∷ switch_letter_of letter ∷ []) ∷ []
words_of_use (switched switch) = (45 ∷ 45 ∷ switch_name switch) ∷ []

-- all words, in order
abbrev pub words_of_uses : List Use → List Text
words_of_uses [] = []
words_of_uses (first ∷ uses) = words_of_use first ++ words_of_uses uses

-- what it gives: its name with its value, or with `true`
abbrev pub pair_given : Use → Text × Text
pair_given (valued option value) = (option_name option, value)
pair_given (lettered letter value) = (option_name (lettered_option letter), value)
pair_given (switched_by_letter letter) = (switch_name (lettered_switch letter), codes "true")
pair_given (switched switch) = (switch_name switch, codes "true")

-- whether a word begins with the hyphen (45)
abbrev pub begins_with_hyphen : Text → Bool
begins_with_hyphen [] = false
begins_with_hyphen (c ∷ cs) = c == 45

-- the value that is given for a name
abbrev pub value_for : Text → List (Text × Text) → Option Text
value_for name pairs = option_map (λ p. p.1) (find (λ p. bytes_eq p.0 name) pairs)

-- the option without a value is given
abbrev pub is_switched : Text → List (Text × Text) → Bool
is_switched name pairs =
    option_map_or (λ value. bytes_eq value (codes "true")) (value_for name pairs) false

-- no option is given that was given before, and no value begins with a hyphen
abbrev pub are_plain_behind : List (Text × Text) → List Use → Bool
are_plain_behind pairs [] = true
are_plain_behind pairs (first ∷ uses) =
    not (begins_with_hyphen (pair_given first).1)
    && not (is_some (value_for (pair_given first).0 pairs))
    && are_plain_behind (pairs ++ pair_given first ∷ []) uses

-- no option is given twice, and no value begins with a hyphen
abbrev pub are_plain : List Use → Bool
are_plain uses = are_plain_behind [] uses

-- the words before the options: the command's name, and what may stand behind it
abbrev pub name_words : Text → Option Text → List Text
name_words command None = command ∷ []
name_words command (Some topic) = command ∷ topic ∷ []

-- the words given, option by option
abbrev pub given_by : Text → Option Text → List Use → Given
given_by command topic uses =
    let pairs = map pair_given uses in
    record {
      command = Some command;
      topic = topic;
      seg = value_for (codes "seg") pairs;
      ring = value_for (codes "ring") pairs;
      cap = value_for (codes "cap") pairs;
      list = is_switched (codes "list") pairs;
      writer = value_for (codes "writer") pairs;
      append = is_switched (codes "append") pairs;
      crash = value_for (codes "crash") pairs;
      from = value_for (codes "from") pairs;
      rmgr = value_for (codes "rmgr") pairs;
      xid = value_for (codes "xid") pairs;
      relation = value_for (codes "relation") pairs;
      block = value_for (codes "block") pairs;
      fork = value_for (codes "fork") pairs;
      fullpage = is_switched (codes "fullpage") pairs;
      start = value_for (codes "start") pairs;
      end = value_for (codes "end") pairs;
      limit = value_for (codes "limit") pairs;
      quiet = is_switched (codes "quiet") pairs;
      stats = is_switched (codes "stats") pairs;
      times = is_switched (codes "times") pairs;
    }
