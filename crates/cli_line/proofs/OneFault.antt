-- A command without subcommands refuses words by one kind of error.
use Rattle.std.proofs.Common.{◌≡◌, ℕ, zero, suc, Bool, true, false, List, [], ◌∷◌, Option, Some, None, is_some, if◌then◌else◌, refl, length, drop}
use Rattle.std.specs.Prelude.{encode_utf8, nat_lt, ◌+◌, ◌==◌, ◌&&◌, ◌||◌, not, min, slice_get}
use Rattle.std.specs.Option.{option_map_or}
use Rattle.std.specs.Str.{bytes_eq, chars}
use Rattle.clap.specs.Lexer.{long_of, short_of}
use Rattle.clap.specs.Facts.{parser_of_value, unwrap_or_range}
use Rattle.clap.specs.Matches.{count_text}
use Rattle.clap.specs.ValueTests.{accepts}
use Rattle.clap.specs.Values.{refused_kind}
use Rattle.clap.specs.Kinds.{Kinds, check_kinds, or_else, range_kinds, request_kinds, value_kinds, values_kinds}
use Rattle.clap.specs.Walk.{Held, Row, Rule, Step, Text, Waiting, Walk, action_of, arg_by_id, arg_by_index, arg_by_long, arg_by_short, attached_value, count_of, has_row, is_empty, is_pending, most_values, next, reacted, settled, subcommand, subcommand_met, takes_several, takes_values, trailing, value, values_or_missing, walk, walk_from, walked, with_default, word_met, idle, option, positional}
use Rattle.clap.specs.Faults.{action_fault, bundle_fault, bundle_step_fault, count_fault, default_fault, defaults_fault, flag_word_fault, flags_fault, level_fault, long_fault, option_fault, other_fault, positional_fault, react_fault, repeat_fault, set_fault, settle_fault, short_fault, step_fault, stray_fault, turn_fault, use_fault, values_fault, walk_fault, word_fault}
use Rattle.clap.specs.Simple.{Shape}
use Rattle.clap.specs.declared.builder.action.ArgAction.{ArgAction}
use Rattle.clap.specs.declared.builder.action.ArgAction.TheVariants.{Set, Append, SetTrue, SetFalse, Count, Help, HelpShort, HelpLong, Version}
use Rattle.clap.specs.declared.builder.value_parser.ValueParser.{ValueParser}

abbrev pub IsLone : Kinds → Type 0
IsLone [] = Unit {0}
IsLone (k ∷ []) = Unit {0}
IsLone (k ∷ l ∷ ks) = ⊥

lone_or_else : (a b : Kinds) → IsLone a → IsLone b → IsLone (or_else a b)
lone_or_else [] b first second = second
lone_or_else (k ∷ ks) b first second = first

lone_if : (t : Bool) (a b : Kinds) → IsLone a → IsLone b → IsLone (if t then a else b)
lone_if true a b first second = first
lone_if false a b first second = second

lone_option : {X : Type 0} (f : X → Kinds) (o : Option X) (other : Kinds) → ((x : X) → IsLone (f x)) → IsLone other → IsLone (option_map_or f o other)
lone_option f None other each none = none
lone_option f (Some x) other each none = each x

lone_value : (ignore_case : Bool) (parser : ValueParser) (text : Text) → IsLone (value_kinds ignore_case parser text)
lone_value ignore_case parser text = lone_if (accepts ignore_case parser text) [] (refused_kind parser ∷ []) tt tt

lone_values : (ignore_case : Bool) (parser : ValueParser) (texts : List Text) → IsLone (values_kinds ignore_case parser texts)
lone_values ignore_case parser [] = tt
lone_values ignore_case parser (v ∷ vs) =
    lone_or_else (value_kinds ignore_case parser v) (values_kinds ignore_case parser vs) (lone_value ignore_case parser v) (lone_values ignore_case parser vs)

lone_values_fault : (a : Rule) (values : List Text) → IsLone (values_fault a values)
lone_values_fault a values = lone_values a.ignore_case (parser_of_value a.parser) values

lone_count : (a : Rule) (values : List Text) (rows : List Row) → IsLone (count_fault a values rows)
lone_count a [] rows = lone_value a.ignore_case (parser_of_value a.parser) (count_text (min (count_of a.id rows + 1) 255))
lone_count a (v ∷ vs) rows = lone_values_fault a (v ∷ vs)

lone_set : (again : Bool) (a : Rule) (values : List Text) (rows : List Row) → IsLone (set_fault again a values rows)
lone_set again a values rows =
    lone_or_else (repeat_fault again a.id rows) (values_fault a values) (lone_if (has_row a.id rows && not again) _ _ tt tt) (lone_values_fault a values)

lone_request : (action : ArgAction) → IsLone (request_kinds action)
lone_request Set = tt
lone_request Append = tt
lone_request SetTrue = tt
lone_request SetFalse = tt
lone_request Count = tt
lone_request Help = tt
lone_request HelpShort = tt
lone_request HelpLong = tt
lone_request Version = tt

lone_action : (action : ArgAction) (again : Bool) (a : Rule) (values : List Text) (rows : List Row) → IsLone (action_fault action again a values rows)
lone_action Set again a values rows = lone_set again a values rows
lone_action Append again a values rows = lone_values_fault a values
lone_action SetTrue again a values rows = lone_set again a values rows
lone_action SetFalse again a values rows = lone_set again a values rows
lone_action Count again a values rows = lone_count a values rows
lone_action Help again a values rows = tt
lone_action HelpShort again a values rows = tt
lone_action HelpLong again a values rows = tt
lone_action Version again a values rows = tt

lone_range : (least most n : ℕ) → IsLone (range_kinds least most n)
lone_range least most n =
    lone_if (nat_lt 0 least && n == 0) _ _ tt
    (lone_if (least == most) _ _ (lone_if (least == n) _ _ tt tt)
    (lone_if (nat_lt n least) _ _ tt (lone_if (nat_lt most n) _ _ tt tt)))

lone_use : (again : Bool) (a : Rule) (values : List Text) (rows : List Row) → IsLone (use_fault again a values rows)
lone_use again a values rows =
    lone_or_else (range_kinds (unwrap_or_range a.range).start_inclusive (most_values a) (length values))
    (action_fault (action_of a) again a (values_or_missing a values) rows)
    (lone_range (unwrap_or_range a.range).start_inclusive (most_values a) (length values))
    (lone_action (action_of a) again a (values_or_missing a values) rows)

lone_settle : (c : List Rule) (again : Bool) (h : Held) → IsLone (settle_fault c again h)
lone_settle c again h =
    lone_option (λ p. option_map_or (λ a. use_fault again a p.1 h.rows) (arg_by_id c p.0) []) h.pending []
    (λ p. lone_option (λ a. use_fault again a p.1 h.rows) (arg_by_id c p.0) [] (λ a. lone_use again a p.1 h.rows) tt) tt

lone_react : (c : List Rule) (again : Bool) (a : Rule) (values : List Text) (h : Held) → IsLone (react_fault c again a values h)
lone_react c again a values h =
    lone_or_else (settle_fault c again h) (use_fault again a values (settled c h).rows) (lone_settle c again h) (lone_use again a values (settled c h).rows)

lone_option_fault : (c : List Rule) (again : Bool) (a : Rule) (v : Option Text) (h : Held) → IsLone (option_fault c again a v h)
lone_option_fault c again a (Some v) h = lone_react c again a (v ∷ []) h
lone_option_fault c again a None h = lone_settle c again h

lone_long : (c : List Rule) (again : Bool) (a : Option Rule) (v : Option Text) (h : Held) → IsLone (long_fault c again a v h)
lone_long c again None v h = tt
lone_long c again (Some a) v h =
    lone_if (takes_values a) _ _ (lone_option_fault c again a v h) (lone_if (is_some v) _ _ tt (lone_react c again a [] h))

lone_short : (c : List Rule) (again : Bool) (a : Option Rule) (rest : Text) (h : Held) (more : Held → Kinds) → ((k : Held) → IsLone (more k)) → IsLone (short_fault c again a rest h more)
lone_short c again None rest h more each = tt
lone_short c again (Some a) rest h more each =
    lone_if (takes_values a) _ _ (lone_option_fault c again a (attached_value rest) h)
    (lone_or_else (react_fault c again a [] h) (more (reacted c a [] h)) (lone_react c again a [] h) (each (reacted c a [] h)))

lone_bundle_step : (c : List Rule) (again : Bool) (x : Option ℕ) (flags : Text) (skip : ℕ) (h : Held) (more : Text → ℕ → Held → Kinds)
    → ((t : Text) (n : ℕ) (k : Held) → IsLone (more t n k)) → IsLone (bundle_step_fault c again x flags skip h more)
lone_bundle_step c again None flags skip h more each = tt
lone_bundle_step c again (Some x) flags zero h more each =
    lone_short c again (arg_by_short c x) (drop (length (encode_utf8 x)) flags) h (more (drop (length (encode_utf8 x)) flags) 0) (each (drop (length (encode_utf8 x)) flags) 0)
lone_bundle_step c again (Some x) flags (suc skip) h more each = each (drop (length (encode_utf8 x)) flags) skip h

lone_flags : (c : List Rule) (again : Bool) (k : ℕ) (flags : Text) (skip : ℕ) (h : Held) → IsLone (flags_fault c again k flags skip h)
unfolding flags_fault
lone_flags c again zero flags skip h = tt
lone_flags c again (suc k) flags skip h =
    lone_bundle_step c again (slice_get (chars flags) 0) flags skip h (flags_fault c again k) (λ t n i. lone_flags c again k t n i)

lone_bundle : (c : List Rule) (again : Bool) (flags : Text) (h : Held) → IsLone (bundle_fault c again flags h)
lone_bundle c again flags h = lone_flags c again (length flags) flags h.skip (record h { skip = 0 })

lone_flag_word : (c : List Rule) (again : Bool) (long : Option (Text × Option Text)) (word : Text) (h : Held) → IsLone (flag_word_fault c again long word h)
lone_flag_word c again (Some p) word h = lone_long c again (arg_by_long c p.0) p.1 h
lone_flag_word c again None word h = lone_option (λ flags. bundle_fault c again flags h) (short_of word) [] (λ flags. lone_bundle c again flags h) tt

lone_other : (s : Shape) (word : Text) (h : Held) → IsLone (other_fault s None word h)
lone_other s word h =
    lone_if (bytes_eq word (45 ∷ 45 ∷ [])) _ _ tt (lone_flag_word s.rules s.args_override_self (long_of word) word h)

no_subcommand : (waiting : Waiting) (word : Text) → subcommand_met [] waiting word ≡ None
no_subcommand idle word = refl
no_subcommand (option id) word = refl
no_subcommand positional word = refl

lone_word : (s : Shape) (is_trailing : Bool) (waiting : Waiting) (word : Text) (h : Held) → IsLone (word_fault s [] is_trailing waiting word h)
lone_word s is_trailing waiting word h =
    lone_if is_trailing _ _ tt (rw (no_subcommand waiting word) (lone_other s word h))

lone_positional : (c : List Rule) (again : Bool) (a : Rule) (h : Held) → IsLone (positional_fault c again a h)
lone_positional c again a h = lone_if (is_pending a h.pending && takes_several a) _ _ tt (lone_settle c again h)

lone_stray : (s : Shape) → s.is_leaf ≡ true → IsLone (stray_fault s)
lone_stray s leaf = rw leaf tt

lone_step : (s : Shape) (position : ℕ) (h : Held) (step : Step) → s.is_leaf ≡ true → IsLone (step_fault s position h step)
lone_step s position h (next waiting) leaf = tt
lone_step s position h (trailing place) leaf = tt
lone_step s position h (subcommand name) leaf = tt
lone_step s position h value leaf =
    lone_option (λ a. positional_fault s.rules s.args_override_self a h) (arg_by_index s.rules position) (stray_fault s)
    (λ a. lone_positional s.rules s.args_override_self a h) (lone_stray s leaf)

lone_turn : (s : Shape) (w : Walk) (word : Text) → s.is_leaf ≡ true → IsLone (turn_fault s [] w word)
lone_turn s w word leaf =
    let met = word_met s.rules [] w.is_trailing w.waiting w.position word w.held in
    lone_if (is_some w.stopped) _ _ tt
    (lone_or_else (word_fault s [] w.is_trailing w.waiting word w.held) (step_fault s w.position met.0 met.1)
    (lone_word s w.is_trailing w.waiting word w.held) (lone_step s w.position met.0 met.1 leaf))

lone_walk : (s : Shape) (w : Walk) (words : List Text) → s.is_leaf ≡ true → IsLone (walk_fault s [] w words)
unfolding walk_fault
lone_walk s w [] leaf = tt
lone_walk s w (word ∷ rest) leaf =
    lone_or_else (turn_fault s [] w word) (walk_fault s [] (walked s.rules [] w word) rest) (lone_turn s w word leaf) (lone_walk s (walked s.rules [] w word) rest leaf)

lone_default : (rows : List Row) (a : Rule) → IsLone (default_fault rows a)
lone_default rows a =
    lone_if (has_row a.id rows || is_empty a.defaults) _ _ tt
    (lone_or_else (request_kinds (action_of a)) (values_fault a a.defaults) (lone_request (action_of a)) (lone_values_fault a a.defaults))

lone_defaults : (rows : List Row) (rules : List Rule) → IsLone (defaults_fault rows rules)
unfolding defaults_fault
lone_defaults rows [] = tt
lone_defaults rows (a ∷ rest) =
    lone_or_else (default_fault rows a) (defaults_fault (with_default rows a) rest) (lone_default rows a) (lone_defaults (with_default rows a) rest)

lone_checks : (wants_help wants_subcommand wants_argument : Bool) → IsLone (check_kinds wants_help wants_subcommand wants_argument)
lone_checks wants_help wants_subcommand wants_argument = lone_if wants_help _ _ tt (lone_if wants_subcommand _ _ tt (lone_if wants_argument _ _ tt tt))

-- a level of a command that has no subcommands
pub lone_level : (s : Shape) (h : Held) (words : List Text) (has_subcommand : Bool) (below : Kinds) → s.is_leaf ≡ true → IsLone below → IsLone (level_fault s [] h words has_subcommand below)
lone_level s h words has_subcommand below leaf lone_below =
    let end = (walk s.rules [] h words).held in
    lone_or_else _ _ (lone_walk s (walk_from h) words leaf)
    (lone_or_else _ _ lone_below
    (lone_or_else _ _ (lone_settle s.rules s.args_override_self end)
    (lone_or_else _ _ (lone_defaults (settled s.rules end).rows s.rules) (lone_checks _ _ _))))
