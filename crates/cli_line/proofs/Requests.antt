-- What a command line asks for, by what `clap` answers.
use Rattle.std.proofs.Common.{◌≡◌, ◌⊎◌, ◌∙◌, inl, inr, ap, sym, subst, false, true, List, [], ◌∷◌, Option, Some, None, refl}
use Rattle.std.specs.Prelude.{Err, IfOk, IsErr, Ok, Result}
use Rattle.std.specs.declared.alloc.AllocError.{AllocError}
use Rattle.clap.specs.Words.{App, IsAmong, Kinds, Row, Text, fault_of, is_simple, is_simple_and_free, matches_of}
use Rattle.clap.specs.Simple.{argument_words, built, names_of}
use Rattle.clap.specs.Faults.{entered_fault}
use Rattle.clap.specs.Walk.{nothing_held, walk}
use Rattle.clap.proofs.OnLiterals.{clap_on_literals}
use Rattle.clap.specs.declared.error.kind.ErrorKind.{ErrorKind}
use Rattle.clap.specs.declared.error.kind.ErrorKind.TheVariants.{OutOfMemory}
use Rattle.cli_line.specs.declared.asking.Request.{Request}
use Rattle.cli_line.specs.Asking.{asks, given_in, request_by, request_from, request_of}
use Rattle.cli_line.specs.Syntax.{declared_command}
use Rattle.cli_line.proofs.OneFault.{IsLone, lone_level}

pub is_plain : is_simple declared_command ≡ true
unfolding clap_on_literals
is_plain = refl

pub is_free : is_simple_and_free declared_command ≡ true
unfolding clap_on_literals
is_free = refl

-- no subcommand is entered where there is none
pub none_entered : (a : App) (stop : Option (Text × List Text)) → a.subs ≡ [] → entered_fault a stop ≡ []
none_entered a None none = refl
none_entered a (Some p) none = rw none refl

-- the declared command refuses words by one kind
pub one_kind : (words : List Text) → IsLone (fault_of declared_command words)
one_kind words =
    let a = built declared_command in
    let given = argument_words declared_command words in
    let stop = (walk a.top.rules (names_of a) nothing_held given).stopped in
    lone_level a.top nothing_held given _ (entered_fault a stop) refl (subst IsLone (sym (none_entered a stop refl)) tt)

-- what words ask for that are taken
pub asks-taken : (words : List Text) (rows : List Row) → fault_of declared_command words ≡ [] → rows ≡ matches_of declared_command words → request_of (given_in rows) ≡ asks words
unfolding asks
asks-taken words rows none are =
    ap (λ r. request_of (given_in r)) are ∙ ap (λ kinds. request_from kinds (matches_of declared_command words)) (sym none)

by_lone_kind : (kind : ErrorKind) (kinds : Kinds) (rows : List Row) → IsLone kinds → IsAmong kind kinds → request_by kind ≡ request_from kinds rows
by_lone_kind kind [] rows lone among = absurd among
by_lone_kind kind (k ∷ []) rows lone (inl is) = ap request_by is
by_lone_kind kind (k ∷ []) rows lone (inr among) = absurd among
by_lone_kind kind (k ∷ l ∷ ks) rows lone among = absurd lone

-- what words ask for that are refused by a kind
pub asks-refused : (words : List Text) (kind : ErrorKind) → IsAmong kind (fault_of declared_command words) → request_by kind ≡ asks words
unfolding asks
asks-refused words kind among =
    by_lone_kind kind (fault_of declared_command words) (matches_of declared_command words) (one_kind words) among

-- what words ask for that are refused, where memory suffices
pub asks-refused_or_memory : (words : List Text) (kind : ErrorKind) (answer : Result Request AllocError) → (kind ≡ OutOfMemory) ⊎ IsAmong kind (fault_of declared_command words)
    → (kind ≡ OutOfMemory → IsErr answer) → IfOk answer (λ request. request ≡ request_by kind) → IfOk answer (λ request. request ≡ asks words)
asks-refused_or_memory words kind (Err error) why memory refused = refused
asks-refused_or_memory words kind (Ok request) (inl none) memory refused =
    let bad : false ≡ true = memory none in
    cc
asks-refused_or_memory words kind (Ok request) (inr among) memory refused = refused ∙ asks-refused words kind among
