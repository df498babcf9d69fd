-- What `clap` makes of words of the plain form.
use Rattle.std.proofs.Common.{◌≡◌, ℕ, ◌∙◌, Bool, true, false, ◌&&◌, ◌||◌, not, List, [], ◌∷◌, ◌++◌, Option, Some, None, refl, ap, sym, subst, codes, is_some, map, if◌then◌else◌}
use Rattle.std.specs.Prelude.{IfSome, find, fold, option_and_then, slice_get}
use Rattle.std.specs.List.{list_all}
use Rattle.std.specs.Option.{option_map_or}
use Rattle.std.specs.Str.{bytes_eq}
use Rattle.std.proofs.lemmas.List.{append-nil, append_assoc}
use Rattle.clap.specs.Words.{Kinds, Row, Rule, Text, fault_of, first_of, matches_of}
use Rattle.clap.specs.Kinds.{or_else}
use Rattle.clap.specs.Simple.{built}
use Rattle.clap.specs.Faults.{default_fault, defaults_fault, entered_fault, given_default_fault, level_fault, check_fault, settle_fault, turn_fault, walk_fault}
use Rattle.clap.specs.Walk.{Walk, more_values, finished, has_row, is_empty, nothing_held, reading_by, settled, walk, walk_from, walked, with_default}
use Rattle.cli_line.specs.Given.{Given, command_of, named as named_by}
use Rattle.cli_line.specs.declared.commands.Command.{Command as Task}
use Rattle.cli_line.specs.declared.asking.Request.TheVariants.{Command}
use Rattle.cli_line.specs.Asking.{asks, given_in, is_set, request_of}
use Rattle.cli_line.specs.Syntax.{declared_command}
use Rattle.cli_line.specs.Plain.{Unvalued, Use, Valued, append_switch, are_plain, are_plain_behind, begins_with_hyphen, block_letter, block_option, cap_option, crash_option, from_option, end_letter, end_option, fork_letter, fork_option, fullpage_letter, fullpage_switch, given_by, is_switched, letter_of, lettered, lettered_option, lettered_switch, limit_letter, limit_option, list_switch, name_words, option_name, pair_given, quiet_letter, quiet_switch, relation_letter, relation_option, ring_option, rmgr_letter, rmgr_option, seg_option, start_letter, start_option, stats_letter, stats_switch, switch_letter_of, switch_name, switched, switched_by_letter, times_switch, value_for, valued, words_of_uses, writer_option, xid_letter, xid_option}
use Rattle.cli_line.proofs.PlainWalk.{IsPlainWord, Settles, absent_row, between, is_plain_word, letter_opened, letter_opens, level, opened, opens, row_with, rules, switch_letter_passes, switch_letter_taken, switch_passes, switch_taken, value_passes, value_settles, value_taken}
use Rattle.cli_line.proofs.Requests.{asks-taken, none_entered}
use Rattle.clap.specs.declared.parser.matches.ValueSource.TheVariants.{DefaultValue}
use Rattle.std.proofs.lemmas.Slice.Eq.{bytes_eq-Decides}

abbrev row_for : Text × Text → Row
row_for p = row_with p.0 p.1

-- the rows of the words before the options
abbrev name_rows : Text → Option Text → List Row
name_rows command None = row_with (codes "command") command ∷ []
name_rows command (Some topic) = row_with (codes "command") command ∷ row_with (codes "topic") topic ∷ []

-- and with those of the options so far
abbrev rows_behind : Text → Option Text → List (Text × Text) → List Row
rows_behind command topic pairs = name_rows command topic ++ map row_for pairs

map_more : (pairs : List (Text × Text)) (p : Text × Text) → map row_for (pairs ++ p ∷ []) ≡ map row_for pairs ++ row_for p ∷ []
map_more [] p = refl
map_more (q ∷ pairs) p = ap (λ l. row_for q ∷ l) (map_more pairs p)

rows_more : (command : Text) (topic : Option Text) (pairs : List (Text × Text)) (p : Text × Text) → rows_behind command topic pairs ++ row_for p ∷ [] ≡ rows_behind command topic (pairs ++ p ∷ [])
rows_more command topic pairs p = append_assoc (name_rows command topic) (map row_for pairs) (row_for p ∷ []) ∙ ap (λ l. name_rows command topic ++ l) (sym (map_more pairs p))

-- a name that has no value has no row
no_row : (name : Text) (pairs : List (Text × Text)) → is_some (value_for name pairs) ≡ false → has_row name (map row_for pairs) ≡ false
no_row name [] absent = refl
no_row name (p ∷ pairs) absent = go (bytes_eq p.0 name) refl (no_row name pairs)
  where
    go : (t : Bool) → bytes_eq p.0 name ≡ t → (is_some (value_for name pairs) ≡ false → has_row name (map row_for pairs) ≡ false) → has_row name (map row_for (p ∷ pairs)) ≡ false
    go true e rest = let bad : true ≡ false = rw e at absent in cc
    go false e rest = rw e (rest (rw e at absent))

no_row_behind : (name command : Text) (topic : Option Text) (pairs : List (Text × Text)) → bytes_eq (codes "command") name ≡ false → bytes_eq (codes "topic") name ≡ false → is_some (value_for name pairs) ≡ false → has_row name (rows_behind command topic pairs) ≡ false
no_row_behind name command None pairs no_command no_topic absent = rw no_command (no_row name pairs absent)
no_row_behind name command (Some topic) pairs no_command no_topic absent = rw (no_command, no_topic) (no_row name pairs absent)

no_option_row : (o : Valued) (command : Text) (topic : Option Text) (pairs : List (Text × Text)) → is_some (value_for (option_name o) pairs) ≡ false → has_row (option_name o) (rows_behind command topic pairs) ≡ false
no_option_row seg_option command topic pairs absent = no_row_behind (codes "seg") command topic pairs refl refl absent
no_option_row ring_option command topic pairs absent = no_row_behind (codes "ring") command topic pairs refl refl absent
no_option_row cap_option command topic pairs absent = no_row_behind (codes "cap") command topic pairs refl refl absent
no_option_row writer_option command topic pairs absent = no_row_behind (codes "writer") command topic pairs refl refl absent
no_option_row crash_option command topic pairs absent = no_row_behind (codes "crash") command topic pairs refl refl absent
no_option_row from_option command topic pairs absent = no_row_behind (codes "from") command topic pairs refl refl absent
no_option_row rmgr_option command topic pairs absent = no_row_behind (codes "rmgr") command topic pairs refl refl absent
no_option_row xid_option command topic pairs absent = no_row_behind (codes "xid") command topic pairs refl refl absent
no_option_row relation_option command topic pairs absent = no_row_behind (codes "relation") command topic pairs refl refl absent
no_option_row block_option command topic pairs absent = no_row_behind (codes "block") command topic pairs refl refl absent
no_option_row fork_option command topic pairs absent = no_row_behind (codes "fork") command topic pairs refl refl absent
no_option_row start_option command topic pairs absent = no_row_behind (codes "start") command topic pairs refl refl absent
no_option_row end_option command topic pairs absent = no_row_behind (codes "end") command topic pairs refl refl absent
no_option_row limit_option command topic pairs absent = no_row_behind (codes "limit") command topic pairs refl refl absent

no_switch_row : (o : Unvalued) (command : Text) (topic : Option Text) (pairs : List (Text × Text)) → is_some (value_for (switch_name o) pairs) ≡ false → has_row (switch_name o) (rows_behind command topic pairs) ≡ false
no_switch_row list_switch command topic pairs absent = no_row_behind (codes "list") command topic pairs refl refl absent
no_switch_row append_switch command topic pairs absent = no_row_behind (codes "append") command topic pairs refl refl absent
no_switch_row fullpage_switch command topic pairs absent = no_row_behind (codes "fullpage") command topic pairs refl refl absent
no_switch_row quiet_switch command topic pairs absent = no_row_behind (codes "quiet") command topic pairs refl refl absent
no_switch_row stats_switch command topic pairs absent = no_row_behind (codes "stats") command topic pairs refl refl absent
no_switch_row times_switch command topic pairs absent = no_row_behind (codes "times") command topic pairs refl refl absent

both : (a b : Bool) → (a && b) ≡ true → (a ≡ true) × (b ≡ true)
both true b h = (refl, h)
both false b h = let bad : false ≡ true = h in cc

not_true : (a : Bool) → not a ≡ true → a ≡ false
not_true true h = let bad : false ≡ true = h in cc
not_true false h = refl

-- where the walk stands at the end of words, none of which is refused
record Walks (start : Walk) (words : List Text) (into : List Row) : Type 0 where
  position : ℕ
  rows : List Row
  pending : Option (Text × List Text)
  passes : walk_fault level [] start words ≡ []
  ends : fold (walked rules []) start words ≡ between position rows pending
  settles : Settles rows pending into

walk_one : (start now : Walk) (word : Text) (words : List Text) (into : List Row) → turn_fault level [] start word ≡ [] → walked rules [] start word ≡ now → Walks now words into → Walks start (word ∷ words) into
unfolding walk_fault
walk_one start now word words into passes goes w = record {
  position = w.position;
  rows = w.rows;
  pending = w.pending;
  passes = ap (λ kinds. or_else kinds (walk_fault level [] (walked rules [] start word) words)) passes ∙ (ap (λ (n : Walk). walk_fault level [] n words) goes ∙ w.passes);
  ends = ap (λ (n : Walk). fold (walked rules []) n words) goes ∙ w.ends;
  settles = w.settles;
}

walks_uses : (position : ℕ) (uses : List Use) (command : Text) (topic : Option Text) (pairs : List (Text × Text)) (rows : List Row) (pending : Option (Text × List Text)) → are_plain_behind pairs uses ≡ true → Settles rows pending (rows_behind command topic pairs)
    → Walks (between position rows pending) (words_of_uses uses) (rows_behind command topic (pairs ++ map pair_given uses))
unfolding walk_fault
walks_uses position [] command topic pairs rows pending plain settles = record {
  position = position;
  rows = rows;
  pending = pending;
  passes = refl;
  ends = refl;
  settles = rw (append-nil pairs) settles;
}
walks_uses position (valued o value ∷ uses) command topic pairs rows pending plain settles =
    let first = both _ _ plain in
    let second = both _ _ first.0 in
    let starts = is_plain_word value (not_true _ second.0) in
    let fresh = no_option_row o command topic pairs (not_true _ second.1) in
    let into = rows_behind command topic pairs in
    let now : Settles into (Some (option_name o, value ∷ [])) (rows_behind command topic (pairs ++ (option_name o, value) ∷ [])) =
    subst (λ (l : List Row). Settles into (Some (option_name o, value ∷ [])) l) (rows_more command topic pairs (option_name o, value)) (value_settles o value into fresh) in
    let rest : Walks (between position into (Some (option_name o, value ∷ []))) (words_of_uses uses) (rows_behind command topic (pairs ++ (option_name o, value) ∷ map pair_given uses)) =
    subst (λ (l : List (Text × Text)). Walks (between position into (Some (option_name o, value ∷ []))) (words_of_uses uses) (rows_behind command topic l)) (append_assoc pairs ((option_name o, value) ∷ []) (map pair_given uses))
    (walks_uses position uses command topic (pairs ++ (option_name o, value) ∷ []) into (Some (option_name o, value ∷ [])) first.1 now) in
    walk_one _ _ (45 ∷ 45 ∷ option_name o) _ _ (opens position o rows pending into settles) (opened position o rows pending into settles)
    (walk_one _ _ value _ _ (value_passes position o value into starts) (value_taken position o value into starts) rest)
walks_uses position (lettered letter value ∷ uses) command topic pairs rows pending plain settles =
    let o = lettered_option letter in
    let first = both _ _ plain in
    let second = both _ _ first.0 in
    let starts = is_plain_word value (not_true _ second.0) in
    let fresh = no_option_row o command topic pairs (not_true _ second.1) in
    let into = rows_behind command topic pairs in
    let now : Settles into (Some (option_name o, value ∷ [])) (rows_behind command topic (pairs ++ (option_name o, value) ∷ [])) =
    subst (λ (l : List Row). Settles into (Some (option_name o, value ∷ [])) l) (rows_more command topic pairs (option_name o, value)) (value_settles o value into fresh) in
    let rest : Walks (between position into (Some (option_name o, value ∷ []))) (words_of_uses uses) (rows_behind command topic (pairs ++ (option_name o, value) ∷ map pair_given uses)) =
    subst (λ (l : List (Text × Text)). Walks (between position into (Some (option_name o, value ∷ []))) (words_of_uses uses) (rows_behind command topic l)) (append_assoc pairs ((option_name o, value) ∷ []) (map pair_given uses))
    (walks_uses position uses command topic (pairs ++ (option_name o, value) ∷ []) into (Some (option_name o, value ∷ [])) first.1 now) in
    walk_one _ _ (45 ∷ letter_of letter ∷ []) _ _ (letter_opens position letter rows pending into settles) (letter_opened position letter rows pending into settles)
    (walk_one _ _ value _ _ (value_passes position o value into starts) (value_taken position o value into starts) rest)
walks_uses position (switched o ∷ uses) command topic pairs rows pending plain settles =
    let first = both (not (is_some (value_for (switch_name o) pairs))) (are_plain_behind (pairs ++ (switch_name o, codes "true") ∷ []) uses) plain in
    let into = rows_behind command topic pairs in
    let fresh = no_switch_row o command topic pairs (not_true _ first.0) in
    let more = rows_behind command topic (pairs ++ (switch_name o, codes "true") ∷ []) in
    let are : into ++ row_with (switch_name o) (codes "true") ∷ [] ≡ more = rows_more command topic pairs (switch_name o, codes "true") in
    let now : Settles more None more = record { rows_are = refl; sound = refl } in
    let rest : Walks (between position more None) (words_of_uses uses) (rows_behind command topic (pairs ++ (switch_name o, codes "true") ∷ map pair_given uses)) =
    subst (λ (l : List (Text × Text)). Walks (between position more None) (words_of_uses uses) (rows_behind command topic l)) (append_assoc pairs ((switch_name o, codes "true") ∷ []) (map pair_given uses))
    (walks_uses position uses command topic (pairs ++ (switch_name o, codes "true") ∷ []) more None first.1 now) in
    walk_one _ _ (45 ∷ 45 ∷ switch_name o) _ _ (switch_passes position o rows pending into settles fresh)
    (switch_taken position o rows pending into settles fresh ∙ ap (λ (l : List Row). between position l None) are) rest
walks_uses position (switched_by_letter letter ∷ uses) command topic pairs rows pending plain settles =
    let o = lettered_switch letter in
    let first = both (not (is_some (value_for (switch_name o) pairs))) (are_plain_behind (pairs ++ (switch_name o, codes "true") ∷ []) uses) plain in
    let into = rows_behind command topic pairs in
    let fresh = no_switch_row o command topic pairs (not_true _ first.0) in
    let more = rows_behind command topic (pairs ++ (switch_name o, codes "true") ∷ []) in
    let are : into ++ row_with (switch_name o) (codes "true") ∷ [] ≡ more = rows_more command topic pairs (switch_name o, codes "true") in
    let now : Settles more None more = record { rows_are = refl; sound = refl } in
    let rest : Walks (between position more None) (words_of_uses uses) (rows_behind command topic (pairs ++ (switch_name o, codes "true") ∷ map pair_given uses)) =
    subst (λ (l : List (Text × Text)). Walks (between position more None) (words_of_uses uses) (rows_behind command topic l)) (append_assoc pairs ((switch_name o, codes "true") ∷ []) (map pair_given uses))
    (walks_uses position uses command topic (pairs ++ (switch_name o, codes "true") ∷ []) more None first.1 now) in
    walk_one _ _ (45 ∷ switch_letter_of letter ∷ []) _ _ (switch_letter_passes position letter rows pending into settles fresh)
    (switch_letter_taken position letter rows pending into settles fresh ∙ ap (λ (l : List Row). between position l None) are) rest

-- the command's name goes to the first positional
named : (command : Text) → IsPlainWord command → (turn_fault level [] (walk_from nothing_held) command ≡ []) × (walked rules [] (walk_from nothing_held) command ≡ between 2 [] (Some (codes "command", command ∷ [])))
unfolding walked
named command plain = (rw (plain.dashes, plain.long, plain.short) refl, rw (plain.dashes, plain.long, plain.short) refl)

-- and the word behind it to the second
followed : (command topic : Text) → IsPlainWord topic → (turn_fault level [] (between 2 [] (Some (codes "command", command ∷ []))) topic ≡ []) × (walked rules [] (between 2 [] (Some (codes "command", command ∷ []))) topic ≡ between 3 (name_rows command None) (Some (codes "topic", topic ∷ [])))
unfolding walked
followed command topic plain = (rw (plain.dashes, plain.long, plain.short) refl, rw (plain.dashes, plain.long, plain.short) refl)

walks : (command : Text) (topic : Option Text) (uses : List Use) → begins_with_hyphen command ≡ false → IfSome topic (λ word. begins_with_hyphen word ≡ false) → are_plain uses ≡ true → Walks (walk_from nothing_held) (name_words command topic ++ words_of_uses uses) (rows_behind command topic (map pair_given uses))
walks command None uses plain_name plain_topic plain =
    let begun = named command (is_plain_word command plain_name) in
    walk_one _ _ command _ _ begun.0 begun.1
    (walks_uses 2 uses command None [] [] (Some (codes "command", command ∷ [])) plain (record { rows_are = refl; sound = refl }))
walks command (Some topic) uses plain_name plain_topic plain =
    let begun = named command (is_plain_word command plain_name) in
    let behind = followed command topic (is_plain_word topic plain_topic) in
    walk_one _ _ command _ _ begun.0 begun.1
    (walk_one _ _ topic _ _ behind.0 behind.1
    (walks_uses 3 uses command (Some topic) [] (name_rows command None) (Some (codes "topic", topic ∷ [])) plain (record { rows_are = refl; sound = refl })))

-- ---- defaults

abbrev is_none : {X : Type 0} → List X → Bool
is_none [] = true
is_none (x ∷ xs) = false

-- the argument's default, if it has one, is no request and passes
abbrev is_fine : Rule → Bool
is_fine a = is_empty a.defaults || is_none (given_default_fault a a.defaults)

fine_default : (rows : List Row) (a : Rule) → is_fine a ≡ true → default_fault rows a ≡ []
fine_default rows a fine = go (has_row a.id rows) (is_empty a.defaults) (given_default_fault a a.defaults) refl fine
  where
    go : (has empty : Bool) (kinds : Kinds) → (if has || empty then [] else kinds) ≡ (if has || empty then [] else kinds) → (empty || is_none kinds) ≡ true → (if has || empty then [] else kinds) ≡ []
    go true empty kinds same fine = refl
    go false true kinds same fine = refl
    go false false [] same fine = refl
    go false false (k ∷ ks) same fine = let bad : false ≡ true = fine in cc

fine_defaults : (rows : List Row) (all : List Rule) → list_all is_fine all ≡ true → defaults_fault rows all ≡ []
unfolding defaults_fault
fine_defaults rows [] fine = refl
fine_defaults rows (a ∷ rest) fine =
    let each = both _ _ fine in
    ap (λ kinds. or_else kinds (defaults_fault (with_default rows a) rest)) (fine_default rows a each.0) ∙ fine_defaults (with_default rows a) rest each.1

-- ---- the values at the end

find_other : {X : Type 0} (p : X → Bool) (xs : List X) (x : X) → p x ≡ false → find p (xs ++ x ∷ []) ≡ find p xs
find_other p [] x other = rw other refl
find_other p (y ∷ ys) x other = go (p y) refl (find_other p ys x other)
  where
    go : (t : Bool) → p y ≡ t → find p (ys ++ x ∷ []) ≡ find p ys → find p (y ∷ ys ++ x ∷ []) ≡ find p (y ∷ ys)
    go true e rest = rw e refl
    go false e rest = rw e rest

find_behind : (id : Text) (rows : List Row) (r : Row) → has_row id rows ≡ false → bytes_eq r.id id ≡ true → find (λ (q : Row). bytes_eq q.id id) (rows ++ r ∷ []) ≡ Some r
find_behind id [] r absent same = rw same refl
find_behind id (q ∷ rows) r absent same = go (bytes_eq q.id id) refl (λ fresh. find_behind id rows r fresh same)
  where
    go : (t : Bool) → bytes_eq q.id id ≡ t → (has_row id rows ≡ false → find (λ (k : Row). bytes_eq k.id id) (rows ++ r ∷ []) ≡ Some r) → find (λ (k : Row). bytes_eq k.id id) (q ∷ rows ++ r ∷ []) ≡ Some r
    go true e rest = let bad : true ≡ false = rw e at absent in cc
    go false e rest = rw e (rest (rw e at absent))

not_found : (id : Text) (rows : List Row) → has_row id rows ≡ false → find (λ (q : Row). bytes_eq q.id id) rows ≡ None
not_found id [] absent = refl
not_found id (q ∷ rows) absent = go (bytes_eq q.id id) refl (not_found id rows)
  where
    go : (t : Bool) → bytes_eq q.id id ≡ t → (has_row id rows ≡ false → find (λ (k : Row). bytes_eq k.id id) rows ≡ None) → find (λ (k : Row). bytes_eq k.id id) (q ∷ rows) ≡ None
    go true e rest = let bad : true ≡ false = rw e at absent in cc
    go false e rest = rw e (rest (rw e at absent))

abbrev default_row : Rule → List Text → Row
default_row a values = record {
  id = a.id;
  values = values;
  count = None;
  source = Some DefaultValue;
  reading = reading_by a;
}

-- the argument gives this name no value by itself
abbrev keeps : Text → Rule → Bool
keeps id a = is_none a.defaults || not (bytes_eq a.id id)

first_kept : (id : Text) (rows : List Row) (a : Rule) → keeps id a ≡ true → first_of id (with_default rows a) ≡ first_of id rows
first_kept id rows a kept = go (has_row a.id rows) refl a.defaults refl
  where
    other : (t : Bool) → bytes_eq a.id id ≡ t → (false || not t) ≡ true → bytes_eq a.id id ≡ false
    other true e bad = let no : false ≡ true = bad in cc
    other false e fine = e

    go : (has : Bool) → has_row a.id rows ≡ has → (defaults : List Text) → a.defaults ≡ defaults → first_of id (with_default rows a) ≡ first_of id rows
    go true there defaults are = rw there refl
    go false absent [] are = rw (absent, are) refl
    go false absent (v ∷ vs) are =
        let differs : bytes_eq a.id id ≡ false = other (bytes_eq a.id id) refl (rw are at kept) in
        rw (absent, are) (rw (absent_row a.id (more_values DefaultValue (v ∷ vs)) (default_row a (v ∷ vs) ∷ []) rows absent)
        (ap (λ (o : Option Row). option_and_then (λ r. slice_get r.values 0) o) (find_other (λ (q : Row). bytes_eq q.id id) rows (default_row a (v ∷ vs)) differs)))

first_kept_by_all : (id : Text) (all : List Rule) (rows : List Row) → list_all (keeps id) all ≡ true → first_of id (fold with_default rows all) ≡ first_of id rows
first_kept_by_all id [] rows kept = refl
first_kept_by_all id (a ∷ rest) rows kept =
    let each = both _ _ kept in
    first_kept_by_all id rest (with_default rows a) each.1 ∙ first_kept id rows a each.0

-- or it is an option without a value, which is off by itself
abbrev is_off : List Text → Bool
is_off [] = true
is_off (v ∷ vs) = not (bytes_eq v (codes "true"))

abbrev is_on : Option Text → Bool
is_on value = option_map_or (λ text. bytes_eq text (codes "true")) value false

switch_kept : (id : Text) (rows : List Row) (a : Rule) → (keeps id a || is_off a.defaults) ≡ true → is_set id (with_default rows a) ≡ is_set id rows
switch_kept id rows a kept = go (keeps id a) refl
  where
    of : (has : Bool) → has_row a.id rows ≡ has → (defaults : List Text) → a.defaults ≡ defaults → is_off a.defaults ≡ true → (same : Bool) → bytes_eq a.id id ≡ same → is_set id (with_default rows a) ≡ is_set id rows
    of true there defaults are off same is = rw there refl
    of false absent [] are off same is = rw (absent, are) refl
    of false absent (v ∷ vs) are off false is =
        rw (absent, are) (rw (absent_row a.id (more_values DefaultValue (v ∷ vs)) (default_row a (v ∷ vs) ∷ []) rows absent)
        (ap (λ (o : Option Row). is_on (option_and_then (λ r. slice_get r.values 0) o)) (find_other (λ (q : Row). bytes_eq q.id id) rows (default_row a (v ∷ vs)) is)))
    of false absent (v ∷ vs) are off true is =
        let same_id : a.id ≡ id = (bytes_eq-Decides a.id id).0 is in
        let none : has_row id rows ≡ false = subst (λ (t : Text). has_row t rows ≡ false) same_id absent in
        let is_off_text : bytes_eq v (codes "true") ≡ false = not_true _ (rw are at off) in
        rw (absent, are) (rw (absent_row a.id (more_values DefaultValue (v ∷ vs)) (default_row a (v ∷ vs) ∷ []) rows absent)
        (ap (λ (o : Option Row). is_on (option_and_then (λ r. slice_get r.values 0) o)) (find_behind id rows (default_row a (v ∷ vs)) none is)
        ∙ (is_off_text ∙ sym (ap (λ (o : Option Row). is_on (option_and_then (λ r. slice_get r.values 0) o)) (not_found id rows none)))))

    go : (t : Bool) → keeps id a ≡ t → is_set id (with_default rows a) ≡ is_set id rows
    go true e = ap is_on (first_kept id rows a e)
    go false e = of (has_row a.id rows) refl a.defaults refl (rw e at kept) (bytes_eq a.id id) refl

switch_kept_by_all : (id : Text) (all : List Rule) (rows : List Row) → list_all (λ a. keeps id a || is_off a.defaults) all ≡ true → is_set id (fold with_default rows all) ≡ is_set id rows
switch_kept_by_all id [] rows kept = refl
switch_kept_by_all id (a ∷ rest) rows kept =
    let each = both _ _ kept in
    switch_kept_by_all id rest (with_default rows a) each.1 ∙ switch_kept id rows a each.0

first_of-pairs : (id : Text) (pairs : List (Text × Text)) → first_of id (map row_for pairs) ≡ value_for id pairs
first_of-pairs id [] = refl
first_of-pairs id (p ∷ pairs) = go (bytes_eq p.0 id) refl (first_of-pairs id pairs)
  where
    go : (t : Bool) → bytes_eq p.0 id ≡ t → first_of id (map row_for pairs) ≡ value_for id pairs → first_of id (map row_for (p ∷ pairs)) ≡ value_for id (p ∷ pairs)
    go true e rest = rw e refl
    go false e rest = rw e rest

no_topic : (uses : List Use) → value_for (codes "topic") (map pair_given uses) ≡ None
no_topic [] = refl
no_topic (valued seg_option value ∷ uses) = no_topic uses
no_topic (valued ring_option value ∷ uses) = no_topic uses
no_topic (valued cap_option value ∷ uses) = no_topic uses
no_topic (valued writer_option value ∷ uses) = no_topic uses
no_topic (valued crash_option value ∷ uses) = no_topic uses
no_topic (valued from_option value ∷ uses) = no_topic uses
no_topic (valued rmgr_option value ∷ uses) = no_topic uses
no_topic (valued xid_option value ∷ uses) = no_topic uses
no_topic (valued relation_option value ∷ uses) = no_topic uses
no_topic (valued block_option value ∷ uses) = no_topic uses
no_topic (valued fork_option value ∷ uses) = no_topic uses
no_topic (valued start_option value ∷ uses) = no_topic uses
no_topic (valued end_option value ∷ uses) = no_topic uses
no_topic (valued limit_option value ∷ uses) = no_topic uses
no_topic (switched list_switch ∷ uses) = no_topic uses
no_topic (switched append_switch ∷ uses) = no_topic uses
no_topic (switched fullpage_switch ∷ uses) = no_topic uses
no_topic (switched quiet_switch ∷ uses) = no_topic uses
no_topic (switched stats_switch ∷ uses) = no_topic uses
no_topic (switched times_switch ∷ uses) = no_topic uses
no_topic (lettered rmgr_letter value ∷ uses) = no_topic uses
no_topic (lettered xid_letter value ∷ uses) = no_topic uses
no_topic (lettered relation_letter value ∷ uses) = no_topic uses
no_topic (lettered block_letter value ∷ uses) = no_topic uses
no_topic (lettered fork_letter value ∷ uses) = no_topic uses
no_topic (lettered start_letter value ∷ uses) = no_topic uses
no_topic (lettered end_letter value ∷ uses) = no_topic uses
no_topic (lettered limit_letter value ∷ uses) = no_topic uses
no_topic (switched_by_letter fullpage_letter ∷ uses) = no_topic uses
no_topic (switched_by_letter quiet_letter ∷ uses) = no_topic uses
no_topic (switched_by_letter stats_letter ∷ uses) = no_topic uses

first_of-command : (command : Text) (topic : Option Text) (pairs : List (Text × Text)) → first_of (codes "command") (rows_behind command topic pairs) ≡ Some command
first_of-command command None pairs = refl
first_of-command command (Some topic) pairs = refl

first_of-topic : (command : Text) (topic : Option Text) (uses : List Use) → first_of (codes "topic") (rows_behind command topic (map pair_given uses)) ≡ topic
first_of-topic command None uses = first_of-pairs (codes "topic") (map pair_given uses) ∙ no_topic uses
first_of-topic command (Some topic) uses = refl

first_of-behind : (name command : Text) (topic : Option Text) (pairs : List (Text × Text)) → bytes_eq (codes "command") name ≡ false → bytes_eq (codes "topic") name ≡ false → first_of name (rows_behind command topic pairs) ≡ value_for name pairs
first_of-behind name command None pairs no_command no_topic = rw no_command (first_of-pairs name pairs)
first_of-behind name command (Some topic) pairs no_command no_topic = rw (no_command, no_topic) (first_of-pairs name pairs)

-- the words given, where the defaults stand behind those of the words
-- words that give each option alike are the same
same_given : (rows : List Row) (command : Text) (topic : Option Text) (uses : List Use)
    → first_of (codes "command") rows ≡ Some command
    → first_of (codes "topic") rows ≡ topic
    → first_of (codes "seg") rows ≡ value_for (codes "seg") (map pair_given uses)
    → first_of (codes "ring") rows ≡ value_for (codes "ring") (map pair_given uses)
    → first_of (codes "cap") rows ≡ value_for (codes "cap") (map pair_given uses)
    → first_of (codes "writer") rows ≡ value_for (codes "writer") (map pair_given uses)
    → first_of (codes "crash") rows ≡ value_for (codes "crash") (map pair_given uses)
    → first_of (codes "from") rows ≡ value_for (codes "from") (map pair_given uses)
    → is_set (codes "list") rows ≡ is_switched (codes "list") (map pair_given uses)
    → is_set (codes "append") rows ≡ is_switched (codes "append") (map pair_given uses)
    → first_of (codes "rmgr") rows ≡ value_for (codes "rmgr") (map pair_given uses)
    → first_of (codes "xid") rows ≡ value_for (codes "xid") (map pair_given uses)
    → first_of (codes "relation") rows ≡ value_for (codes "relation") (map pair_given uses)
    → first_of (codes "block") rows ≡ value_for (codes "block") (map pair_given uses)
    → first_of (codes "fork") rows ≡ value_for (codes "fork") (map pair_given uses)
    → is_set (codes "fullpage") rows ≡ is_switched (codes "fullpage") (map pair_given uses)
    → first_of (codes "start") rows ≡ value_for (codes "start") (map pair_given uses)
    → first_of (codes "end") rows ≡ value_for (codes "end") (map pair_given uses)
    → first_of (codes "limit") rows ≡ value_for (codes "limit") (map pair_given uses)
    → is_set (codes "quiet") rows ≡ is_switched (codes "quiet") (map pair_given uses)
    → is_set (codes "stats") rows ≡ is_switched (codes "stats") (map pair_given uses)
    → is_set (codes "times") rows ≡ is_switched (codes "times") (map pair_given uses)
    → given_in rows ≡ given_by command topic uses
same_given rows command topic uses command_is topic_is seg_is ring_is cap_is writer_is crash_is from_is list_is append_is rmgr_is xid_is relation_is block_is fork_is fullpage_is start_is end_is limit_is quiet_is stats_is times_is =
    rw (command_is, topic_is, seg_is, ring_is, cap_is, writer_is, crash_is, from_is, list_is, append_is, rmgr_is, xid_is, relation_is, block_is, fork_is, fullpage_is, start_is, end_is, limit_is, quiet_is, stats_is, times_is) refl

all_given : (command : Text) (topic : Option Text) (uses : List Use) → given_in (fold with_default (rows_behind command topic (map pair_given uses)) rules) ≡ given_by command topic uses
all_given command topic uses =
    let pairs = map pair_given uses in
    let rows = rows_behind command topic pairs in
    same_given (fold with_default rows rules) command topic uses
    (first_kept_by_all (codes "command") rules rows refl ∙ first_of-command command topic pairs)
    (first_kept_by_all (codes "topic") rules rows refl ∙ first_of-topic command topic uses)
    (first_kept_by_all (codes "seg") rules rows refl ∙ first_of-behind (codes "seg") command topic pairs refl refl)
    (first_kept_by_all (codes "ring") rules rows refl ∙ first_of-behind (codes "ring") command topic pairs refl refl)
    (first_kept_by_all (codes "cap") rules rows refl ∙ first_of-behind (codes "cap") command topic pairs refl refl)
    (first_kept_by_all (codes "writer") rules rows refl ∙ first_of-behind (codes "writer") command topic pairs refl refl)
    (first_kept_by_all (codes "crash") rules rows refl ∙ first_of-behind (codes "crash") command topic pairs refl refl)
    (first_kept_by_all (codes "from") rules rows refl ∙ first_of-behind (codes "from") command topic pairs refl refl)
    (switch_kept_by_all (codes "list") rules rows refl ∙ ap is_on (first_of-behind (codes "list") command topic pairs refl refl))
    (switch_kept_by_all (codes "append") rules rows refl ∙ ap is_on (first_of-behind (codes "append") command topic pairs refl refl))
    (first_kept_by_all (codes "rmgr") rules rows refl ∙ first_of-behind (codes "rmgr") command topic pairs refl refl)
    (first_kept_by_all (codes "xid") rules rows refl ∙ first_of-behind (codes "xid") command topic pairs refl refl)
    (first_kept_by_all (codes "relation") rules rows refl ∙ first_of-behind (codes "relation") command topic pairs refl refl)
    (first_kept_by_all (codes "block") rules rows refl ∙ first_of-behind (codes "block") command topic pairs refl refl)
    (first_kept_by_all (codes "fork") rules rows refl ∙ first_of-behind (codes "fork") command topic pairs refl refl)
    (switch_kept_by_all (codes "fullpage") rules rows refl ∙ ap is_on (first_of-behind (codes "fullpage") command topic pairs refl refl))
    (first_kept_by_all (codes "start") rules rows refl ∙ first_of-behind (codes "start") command topic pairs refl refl)
    (first_kept_by_all (codes "end") rules rows refl ∙ first_of-behind (codes "end") command topic pairs refl refl)
    (first_kept_by_all (codes "limit") rules rows refl ∙ first_of-behind (codes "limit") command topic pairs refl refl)
    (switch_kept_by_all (codes "quiet") rules rows refl ∙ ap is_on (first_of-behind (codes "quiet") command topic pairs refl refl))
    (switch_kept_by_all (codes "stats") rules rows refl ∙ ap is_on (first_of-behind (codes "stats") command topic pairs refl refl))
    (switch_kept_by_all (codes "times") rules rows refl ∙ ap is_on (first_of-behind (codes "times") command topic pairs refl refl))

none_of : (a b c d e : Kinds) → a ≡ [] → b ≡ [] → c ≡ [] → d ≡ [] → e ≡ [] → or_else a (or_else b (or_else c (or_else d e))) ≡ []
none_of a b c d e none_a none_b none_c none_d none_e = rw (none_a, none_b, none_c, none_d) none_e

-- nothing is required
checked : (rows : List Row) (has_subcommand : Bool) → check_fault level rows has_subcommand ≡ []
checked rows true = refl
checked rows false = refl

passes_level : (words : List Text) (has_subcommand : Bool) (below : Kinds) (into : List Row) → Walks (walk_from nothing_held) words into → below ≡ [] → level_fault level [] nothing_held words has_subcommand below ≡ []
passes_level words has_subcommand below into w none =
    let end = (walk rules [] nothing_held words).held in
    none_of (walk_fault level [] (walk_from nothing_held) words) below (settle_fault rules level.args_override_self end) (defaults_fault (settled rules end).rows rules) (check_fault level (finished rules end) has_subcommand)
    w.passes none (ap (λ (n : Walk). settle_fault rules false n.held) w.ends ∙ w.settles.sound) (fine_defaults (settled rules end).rows rules refl) (checked (finished rules end) has_subcommand)

-- words of the plain form ask for what they spell
pub plain_words_ask : (program command : Text) (topic : Option Text) (uses : List Use) → begins_with_hyphen command ≡ false → IfSome topic (λ word. begins_with_hyphen word ≡ false) → are_plain uses ≡ true
    → asks (program ∷ name_words command topic ++ words_of_uses uses) ≡ request_of (given_by command topic uses)
plain_words_ask program command topic uses plain_name plain_topic plain =
    let given : List Text = name_words command topic ++ words_of_uses uses in
    let words : List Text = program ∷ given in
    let w = walks command topic uses plain_name plain_topic plain in
    let into = rows_behind command topic (map pair_given uses) in
    let stop = (walk rules [] nothing_held given).stopped in
    let none : fault_of declared_command words ≡ [] = passes_level given _ (entered_fault (built declared_command) stop) into w (none_entered (built declared_command) stop refl) in
    let rows : matches_of declared_command words ≡ fold with_default into rules =
    ap (λ (n : Walk). finished rules n.held) w.ends ∙ ap (λ (l : List Row). fold with_default l rules) w.settles.rows_are in
    sym (asks-taken words (fold with_default into rules) none (sym rows)) ∙ ap request_of (all_given command topic uses)

-- words that make a command do not ask for help
no_help : (name : Text) (given : Given) (task : Task) → named_by (Some name) given ≡ Some task → bytes_eq name (codes "help") ≡ false
no_help name given task made = go (bytes_eq name (codes "help")) refl
  where
    go : (t : Bool) → bytes_eq name (codes "help") ≡ t → bytes_eq name (codes "help") ≡ false
    go true e =
        let is_help : name ≡ codes "help" = (bytes_eq-Decides name (codes "help")).0 e in
        let none : None ≡ Some task = subst (λ (n : Text). named_by (Some n) given ≡ Some task) is_help made in
        cc
    go false e = e

-- those that make a command ask for it
pub plain_words_ask_for_commands : (program command : Text) (topic : Option Text) (uses : List Use) (task : Task) → begins_with_hyphen command ≡ false → IfSome topic (λ word. begins_with_hyphen word ≡ false) → are_plain uses ≡ true
    → command_of (given_by command topic uses) ≡ Some task → asks (program ∷ name_words command topic ++ words_of_uses uses) ≡ Command task
plain_words_ask_for_commands program command topic uses task plain_name plain_topic plain made =
    plain_words_ask program command topic uses plain_name plain_topic plain ∙ rw (no_help command (given_by command topic uses) task made, made) refl
