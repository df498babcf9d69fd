-- `clap`'s walk over words of the plain form.
use Rattle.std.proofs.Common.{◌≡◌, ℕ, ◌∙◌, Bool, true, false, List, [], ◌∷◌, ◌++◌, Option, Some, None, refl, ap, sym, subst, codes}
use Rattle.std.specs.Str.{bytes_eq, chars}
use Rattle.std.specs.Char.{encode_utf8}
use Rattle.std.proofs.lemmas.List.{append-nil}
use Rattle.clap.specs.Words.{Row, Rule, Shape, Text}
use Rattle.clap.specs.Kinds.{or_else}
use Rattle.clap.specs.Lexer.{long_of, short_of}
use Rattle.clap.specs.Simple.{built}
use Rattle.clap.specs.Faults.{settle_fault, turn_fault, flags_fault}
use Rattle.clap.specs.Walk.{Walk, at_row, bundle_met, has_row, idle, more_values, option, settled_rows, walked, with_values, without}
use Rattle.clap.specs.declared.builder.value_parser.Reading.TheVariants as reading
use Rattle.clap.specs.declared.parser.matches.ValueSource.TheVariants.{CommandLine}
use Rattle.cli_line.specs.Syntax.{declared_command}
use Rattle.cli_line.specs.Plain.{Letter, Unvalued, SwitchLetter, Valued, append_switch, begins_with_hyphen, block_letter, block_option, cap_option, crash_option, from_option, end_letter, end_option, fork_letter, fork_option, fullpage_letter, fullpage_switch, letter_of, lettered_option, lettered_switch, limit_letter, limit_option, list_switch, option_name, quiet_letter, quiet_switch, relation_letter, relation_option, ring_option, rmgr_letter, rmgr_option, seg_option, start_letter, start_option, stats_letter, stats_switch, switch_letter_of, switch_name, times_switch, writer_option, xid_letter, xid_option}

abbrev pub level : Shape
level = (built declared_command).top

abbrev pub rules : List Rule
rules = level.rules

-- the row of a value that the words give
abbrev pub row_with : Text → Text → Row
row_with name value = record {
  id = name;
  values = value ∷ [];
  count = None;
  source = Some CommandLine;
  reading = reading.AsWritten;
}

-- where the walk stands between two options, behind the words that are none
abbrev pub between : ℕ → List Row → Option (Text × List Text) → Walk
between position rows pending = record {
  held = record { rows = rows; pending = pending; skip = 0 };
  waiting = idle;
  position = position;
  is_trailing = false;
  stopped = None;
}

-- and where it waits for a value
abbrev pub awaiting : ℕ → Text → List Row → Walk
awaiting position name rows = record {
  held = record { rows = rows; pending = Some (name, []); skip = 0 };
  waiting = option name;
  position = position;
  is_trailing = false;
  stopped = None;
}

-- what is pending passes, and leaves these rows
pub record Settles (rows : List Row) (pending : Option (Text × List Text)) (into : List Row) : Type 0 where
  pub rows_are : settled_rows rules pending rows ≡ into
  pub sound : settle_fault rules false (record { rows = rows; pending = pending; skip = 0 }) ≡ []

pub absent_row : (id : Text) (change : Row → List Row) (missing : List Row) (rows : List Row) → has_row id rows ≡ false → at_row id change missing rows ≡ rows ++ missing
absent_row id change missing [] absent = refl
absent_row id change missing (r ∷ rs) absent = go (bytes_eq r.id id) refl (absent_row id change missing rs)
  where
    go : (t : Bool) → bytes_eq r.id id ≡ t → (has_row id rs ≡ false → at_row id change missing rs ≡ rs ++ missing) → at_row id change missing (r ∷ rs) ≡ (r ∷ rs) ++ missing
    go true e rest = let bad : true ≡ false = rw e at absent in cc
    go false e rest = rw e (ap (λ l. r ∷ l) (rest (rw e at absent)))

-- a first value makes a row behind the others
new_row : (id value : Text) (rows : List Row) → has_row id rows ≡ false → with_values id reading.AsWritten CommandLine (value ∷ []) (without id rows) ≡ rows ++ row_with id value ∷ []
new_row id value rows absent =
    let kept : without id rows ≡ rows = absent_row id (λ (r : Row). []) [] rows absent ∙ append-nil rows in
    rw kept (absent_row id (more_values CommandLine (value ∷ [])) (row_with id value ∷ []) rows absent)

-- the word of an option with a value
pub opens : (position : ℕ) (o : Valued) (rows : List Row) (pending : Option (Text × List Text)) (into : List Row) → Settles rows pending into → turn_fault level [] (between position rows pending) (45 ∷ 45 ∷ option_name o) ≡ []
opens position seg_option rows pending into h = ap (λ kinds. or_else kinds []) h.sound
opens position ring_option rows pending into h = ap (λ kinds. or_else kinds []) h.sound
opens position cap_option rows pending into h = ap (λ kinds. or_else kinds []) h.sound
opens position writer_option rows pending into h = ap (λ kinds. or_else kinds []) h.sound
opens position crash_option rows pending into h = ap (λ kinds. or_else kinds []) h.sound
opens position from_option rows pending into h = ap (λ kinds. or_else kinds []) h.sound
opens position rmgr_option rows pending into h = ap (λ kinds. or_else kinds []) h.sound
opens position xid_option rows pending into h = ap (λ kinds. or_else kinds []) h.sound
opens position relation_option rows pending into h = ap (λ kinds. or_else kinds []) h.sound
opens position block_option rows pending into h = ap (λ kinds. or_else kinds []) h.sound
opens position fork_option rows pending into h = ap (λ kinds. or_else kinds []) h.sound
opens position start_option rows pending into h = ap (λ kinds. or_else kinds []) h.sound
opens position end_option rows pending into h = ap (λ kinds. or_else kinds []) h.sound
opens position limit_option rows pending into h = ap (λ kinds. or_else kinds []) h.sound

pub opened : (position : ℕ) (o : Valued) (rows : List Row) (pending : Option (Text × List Text)) (into : List Row) → Settles rows pending into → walked rules [] (between position rows pending) (45 ∷ 45 ∷ option_name o) ≡ awaiting position (option_name o) into
unfolding walked
opened position seg_option rows pending into h = ap (awaiting position (codes "seg")) h.rows_are
opened position ring_option rows pending into h = ap (awaiting position (codes "ring")) h.rows_are
opened position cap_option rows pending into h = ap (awaiting position (codes "cap")) h.rows_are
opened position writer_option rows pending into h = ap (awaiting position (codes "writer")) h.rows_are
opened position crash_option rows pending into h = ap (awaiting position (codes "crash")) h.rows_are
opened position from_option rows pending into h = ap (awaiting position (codes "from")) h.rows_are
opened position rmgr_option rows pending into h = ap (awaiting position (codes "rmgr")) h.rows_are
opened position xid_option rows pending into h = ap (awaiting position (codes "xid")) h.rows_are
opened position relation_option rows pending into h = ap (awaiting position (codes "relation")) h.rows_are
opened position block_option rows pending into h = ap (awaiting position (codes "block")) h.rows_are
opened position fork_option rows pending into h = ap (awaiting position (codes "fork")) h.rows_are
opened position start_option rows pending into h = ap (awaiting position (codes "start")) h.rows_are
opened position end_option rows pending into h = ap (awaiting position (codes "end")) h.rows_are
opened position limit_option rows pending into h = ap (awaiting position (codes "limit")) h.rows_are

-- the letter of an option with a value
pub letter_opens : (position : ℕ) (o : Letter) (rows : List Row) (pending : Option (Text × List Text)) (into : List Row) → Settles rows pending into → turn_fault level [] (between position rows pending) (45 ∷ letter_of o ∷ []) ≡ []
unfolding flags_fault chars encode_utf8 bundle_met
letter_opens position rmgr_letter rows pending into h = ap (λ kinds. or_else kinds []) h.sound
letter_opens position xid_letter rows pending into h = ap (λ kinds. or_else kinds []) h.sound
letter_opens position relation_letter rows pending into h = ap (λ kinds. or_else kinds []) h.sound
letter_opens position block_letter rows pending into h = ap (λ kinds. or_else kinds []) h.sound
letter_opens position fork_letter rows pending into h = ap (λ kinds. or_else kinds []) h.sound
letter_opens position start_letter rows pending into h = ap (λ kinds. or_else kinds []) h.sound
letter_opens position end_letter rows pending into h = ap (λ kinds. or_else kinds []) h.sound
letter_opens position limit_letter rows pending into h = ap (λ kinds. or_else kinds []) h.sound

pub letter_opened : (position : ℕ) (o : Letter) (rows : List Row) (pending : Option (Text × List Text)) (into : List Row) → Settles rows pending into → walked rules [] (between position rows pending) (45 ∷ letter_of o ∷ []) ≡ awaiting position (option_name (lettered_option o)) into
unfolding walked bundle_met chars encode_utf8
letter_opened position rmgr_letter rows pending into h = ap (awaiting position (codes "rmgr")) h.rows_are
letter_opened position xid_letter rows pending into h = ap (awaiting position (codes "xid")) h.rows_are
letter_opened position relation_letter rows pending into h = ap (awaiting position (codes "relation")) h.rows_are
letter_opened position block_letter rows pending into h = ap (awaiting position (codes "block")) h.rows_are
letter_opened position fork_letter rows pending into h = ap (awaiting position (codes "fork")) h.rows_are
letter_opened position start_letter rows pending into h = ap (awaiting position (codes "start")) h.rows_are
letter_opened position end_letter rows pending into h = ap (awaiting position (codes "end")) h.rows_are
letter_opened position limit_letter rows pending into h = ap (awaiting position (codes "limit")) h.rows_are

-- a word that is no option
pub record IsPlainWord (word : Text) : Type 0 where
  pub dashes : bytes_eq word (45 ∷ 45 ∷ []) ≡ false
  pub long : long_of word ≡ None
  pub short : short_of word ≡ None

pub is_plain_word : (word : Text) → begins_with_hyphen word ≡ false → IsPlainWord word
is_plain_word [] plain = record { dashes = refl; long = refl; short = refl }
is_plain_word (c ∷ cs) plain = record { dashes = rw plain refl; long = rw plain refl; short = rw plain refl }

-- its value
pub value_passes : (position : ℕ) (o : Valued) (value : Text) (rows : List Row) → IsPlainWord value → turn_fault level [] (awaiting position (option_name o) rows) value ≡ []
value_passes position seg_option value rows plain = rw (plain.dashes, plain.long, plain.short) refl
value_passes position ring_option value rows plain = rw (plain.dashes, plain.long, plain.short) refl
value_passes position cap_option value rows plain = rw (plain.dashes, plain.long, plain.short) refl
value_passes position writer_option value rows plain = rw (plain.dashes, plain.long, plain.short) refl
value_passes position crash_option value rows plain = rw (plain.dashes, plain.long, plain.short) refl
value_passes position from_option value rows plain = rw (plain.dashes, plain.long, plain.short) refl
value_passes position rmgr_option value rows plain = rw (plain.dashes, plain.long, plain.short) refl
value_passes position xid_option value rows plain = rw (plain.dashes, plain.long, plain.short) refl
value_passes position relation_option value rows plain = rw (plain.dashes, plain.long, plain.short) refl
value_passes position block_option value rows plain = rw (plain.dashes, plain.long, plain.short) refl
value_passes position fork_option value rows plain = rw (plain.dashes, plain.long, plain.short) refl
value_passes position start_option value rows plain = rw (plain.dashes, plain.long, plain.short) refl
value_passes position end_option value rows plain = rw (plain.dashes, plain.long, plain.short) refl
value_passes position limit_option value rows plain = rw (plain.dashes, plain.long, plain.short) refl

pub value_taken : (position : ℕ) (o : Valued) (value : Text) (rows : List Row) → IsPlainWord value → walked rules [] (awaiting position (option_name o) rows) value ≡ between position rows (Some (option_name o, value ∷ []))
unfolding walked
value_taken position seg_option value rows plain = rw (plain.dashes, plain.long, plain.short) refl
value_taken position ring_option value rows plain = rw (plain.dashes, plain.long, plain.short) refl
value_taken position cap_option value rows plain = rw (plain.dashes, plain.long, plain.short) refl
value_taken position writer_option value rows plain = rw (plain.dashes, plain.long, plain.short) refl
value_taken position crash_option value rows plain = rw (plain.dashes, plain.long, plain.short) refl
value_taken position from_option value rows plain = rw (plain.dashes, plain.long, plain.short) refl
value_taken position rmgr_option value rows plain = rw (plain.dashes, plain.long, plain.short) refl
value_taken position xid_option value rows plain = rw (plain.dashes, plain.long, plain.short) refl
value_taken position relation_option value rows plain = rw (plain.dashes, plain.long, plain.short) refl
value_taken position block_option value rows plain = rw (plain.dashes, plain.long, plain.short) refl
value_taken position fork_option value rows plain = rw (plain.dashes, plain.long, plain.short) refl
value_taken position start_option value rows plain = rw (plain.dashes, plain.long, plain.short) refl
value_taken position end_option value rows plain = rw (plain.dashes, plain.long, plain.short) refl
value_taken position limit_option value rows plain = rw (plain.dashes, plain.long, plain.short) refl

pub value_settles : (o : Valued) (value : Text) (rows : List Row) → has_row (option_name o) rows ≡ false → Settles rows (Some (option_name o, value ∷ [])) (rows ++ row_with (option_name o) value ∷ [])
value_settles seg_option value rows absent = record { rows_are = new_row (codes "seg") value rows absent; sound = rw absent refl }
value_settles ring_option value rows absent = record { rows_are = new_row (codes "ring") value rows absent; sound = rw absent refl }
value_settles cap_option value rows absent = record { rows_are = new_row (codes "cap") value rows absent; sound = rw absent refl }
value_settles writer_option value rows absent = record { rows_are = new_row (codes "writer") value rows absent; sound = rw absent refl }
value_settles crash_option value rows absent = record { rows_are = new_row (codes "crash") value rows absent; sound = rw absent refl }
value_settles from_option value rows absent = record { rows_are = new_row (codes "from") value rows absent; sound = rw absent refl }
value_settles rmgr_option value rows absent = record { rows_are = new_row (codes "rmgr") value rows absent; sound = rw absent refl }
value_settles xid_option value rows absent = record { rows_are = new_row (codes "xid") value rows absent; sound = rw absent refl }
value_settles relation_option value rows absent = record { rows_are = new_row (codes "relation") value rows absent; sound = rw absent refl }
value_settles block_option value rows absent = record { rows_are = new_row (codes "block") value rows absent; sound = rw absent refl }
value_settles fork_option value rows absent = record { rows_are = new_row (codes "fork") value rows absent; sound = rw absent refl }
value_settles start_option value rows absent = record { rows_are = new_row (codes "start") value rows absent; sound = rw absent refl }
value_settles end_option value rows absent = record { rows_are = new_row (codes "end") value rows absent; sound = rw absent refl }
value_settles limit_option value rows absent = record { rows_are = new_row (codes "limit") value rows absent; sound = rw absent refl }

-- the word of an option without a value
pub switch_passes : (position : ℕ) (o : Unvalued) (rows : List Row) (pending : Option (Text × List Text)) (into : List Row) → Settles rows pending into → has_row (switch_name o) into ≡ false → turn_fault level [] (between position rows pending) (45 ∷ 45 ∷ switch_name o) ≡ []
switch_passes position list_switch rows pending into h absent =
    let fresh : has_row (codes "list") (settled_rows rules pending rows) ≡ false = subst (λ (l : List Row). has_row (codes "list") l ≡ false) (sym h.rows_are) absent in
    rw (h.sound, fresh) refl
switch_passes position append_switch rows pending into h absent =
    let fresh : has_row (codes "append") (settled_rows rules pending rows) ≡ false = subst (λ (l : List Row). has_row (codes "append") l ≡ false) (sym h.rows_are) absent in
    rw (h.sound, fresh) refl
switch_passes position fullpage_switch rows pending into h absent =
    let fresh : has_row (codes "fullpage") (settled_rows rules pending rows) ≡ false = subst (λ (l : List Row). has_row (codes "fullpage") l ≡ false) (sym h.rows_are) absent in
    rw (h.sound, fresh) refl
switch_passes position quiet_switch rows pending into h absent =
    let fresh : has_row (codes "quiet") (settled_rows rules pending rows) ≡ false = subst (λ (l : List Row). has_row (codes "quiet") l ≡ false) (sym h.rows_are) absent in
    rw (h.sound, fresh) refl
switch_passes position stats_switch rows pending into h absent =
    let fresh : has_row (codes "stats") (settled_rows rules pending rows) ≡ false = subst (λ (l : List Row). has_row (codes "stats") l ≡ false) (sym h.rows_are) absent in
    rw (h.sound, fresh) refl
switch_passes position times_switch rows pending into h absent =
    let fresh : has_row (codes "times") (settled_rows rules pending rows) ≡ false = subst (λ (l : List Row). has_row (codes "times") l ≡ false) (sym h.rows_are) absent in
    rw (h.sound, fresh) refl

pub switch_taken : (position : ℕ) (o : Unvalued) (rows : List Row) (pending : Option (Text × List Text)) (into : List Row) → Settles rows pending into → has_row (switch_name o) into ≡ false → walked rules [] (between position rows pending) (45 ∷ 45 ∷ switch_name o) ≡ between position (into ++ row_with (switch_name o) (codes "true") ∷ []) None
unfolding walked
switch_taken position list_switch rows pending into h absent =
    ap (λ (l : List Row). between position (with_values (codes "list") reading.AsWritten CommandLine (codes "true" ∷ []) (without (codes "list") l)) None) h.rows_are
    ∙ ap (λ (l : List Row). between position l None) (new_row (codes "list") (codes "true") into absent)
switch_taken position append_switch rows pending into h absent =
    ap (λ (l : List Row). between position (with_values (codes "append") reading.AsWritten CommandLine (codes "true" ∷ []) (without (codes "append") l)) None) h.rows_are
    ∙ ap (λ (l : List Row). between position l None) (new_row (codes "append") (codes "true") into absent)
switch_taken position fullpage_switch rows pending into h absent =
    ap (λ (l : List Row). between position (with_values (codes "fullpage") reading.AsWritten CommandLine (codes "true" ∷ []) (without (codes "fullpage") l)) None) h.rows_are
    ∙ ap (λ (l : List Row). between position l None) (new_row (codes "fullpage") (codes "true") into absent)
switch_taken position quiet_switch rows pending into h absent =
    ap (λ (l : List Row). between position (with_values (codes "quiet") reading.AsWritten CommandLine (codes "true" ∷ []) (without (codes "quiet") l)) None) h.rows_are
    ∙ ap (λ (l : List Row). between position l None) (new_row (codes "quiet") (codes "true") into absent)
switch_taken position stats_switch rows pending into h absent =
    ap (λ (l : List Row). between position (with_values (codes "stats") reading.AsWritten CommandLine (codes "true" ∷ []) (without (codes "stats") l)) None) h.rows_are
    ∙ ap (λ (l : List Row). between position l None) (new_row (codes "stats") (codes "true") into absent)
switch_taken position times_switch rows pending into h absent =
    ap (λ (l : List Row). between position (with_values (codes "times") reading.AsWritten CommandLine (codes "true" ∷ []) (without (codes "times") l)) None) h.rows_are
    ∙ ap (λ (l : List Row). between position l None) (new_row (codes "times") (codes "true") into absent)

-- and the letter of one
pub switch_letter_passes : (position : ℕ) (o : SwitchLetter) (rows : List Row) (pending : Option (Text × List Text)) (into : List Row) → Settles rows pending into → has_row (switch_name (lettered_switch o)) into ≡ false → turn_fault level [] (between position rows pending) (45 ∷ switch_letter_of o ∷ []) ≡ []
unfolding flags_fault chars encode_utf8 bundle_met
switch_letter_passes position fullpage_letter rows pending into h absent =
    let fresh : has_row (codes "fullpage") (settled_rows rules pending rows) ≡ false = subst (λ (l : List Row). has_row (codes "fullpage") l ≡ false) (sym h.rows_are) absent in
    rw (h.sound, fresh) refl
switch_letter_passes position quiet_letter rows pending into h absent =
    let fresh : has_row (codes "quiet") (settled_rows rules pending rows) ≡ false = subst (λ (l : List Row). has_row (codes "quiet") l ≡ false) (sym h.rows_are) absent in
    rw (h.sound, fresh) refl
switch_letter_passes position stats_letter rows pending into h absent =
    let fresh : has_row (codes "stats") (settled_rows rules pending rows) ≡ false = subst (λ (l : List Row). has_row (codes "stats") l ≡ false) (sym h.rows_are) absent in
    rw (h.sound, fresh) refl

pub switch_letter_taken : (position : ℕ) (o : SwitchLetter) (rows : List Row) (pending : Option (Text × List Text)) (into : List Row) → Settles rows pending into → has_row (switch_name (lettered_switch o)) into ≡ false → walked rules [] (between position rows pending) (45 ∷ switch_letter_of o ∷ []) ≡ between position (into ++ row_with (switch_name (lettered_switch o)) (codes "true") ∷ []) None
unfolding walked bundle_met chars encode_utf8
switch_letter_taken position fullpage_letter rows pending into h absent =
    ap (λ (l : List Row). between position (with_values (codes "fullpage") reading.AsWritten CommandLine (codes "true" ∷ []) (without (codes "fullpage") l)) None) h.rows_are
    ∙ ap (λ (l : List Row). between position l None) (new_row (codes "fullpage") (codes "true") into absent)
switch_letter_taken position quiet_letter rows pending into h absent =
    ap (λ (l : List Row). between position (with_values (codes "quiet") reading.AsWritten CommandLine (codes "true" ∷ []) (without (codes "quiet") l)) None) h.rows_are
    ∙ ap (λ (l : List Row). between position l None) (new_row (codes "quiet") (codes "true") into absent)
switch_letter_taken position stats_letter rows pending into h absent =
    ap (λ (l : List Row). between position (with_values (codes "stats") reading.AsWritten CommandLine (codes "true" ∷ []) (without (codes "stats") l)) None) h.rows_are
    ∙ ap (λ (l : List Row). between position l None) (new_row (codes "stats") (codes "true") into absent)
