use Rattle.std.proofs.Common.{◌≡◌, ℕ, ◌-◌, ◌∙◌, List, [], ◌∷◌, ◌++◌, drop, length, take, take_all, ap, refl, subst, arith}
use Rattle.std.proofs.lemmas.Grind.{common_steps}
use Rattle.std.proofs.lemmas.List.{length-drop}
use Rattle.std.proofs.lemmas.Result.{err_from_is_err_and}
use Rattle.wal_spelling.specs.Plain.{IsPlainSpelling}
use Rattle.wal_spelling.specs.Record.{plain_record}
use Rattle.wal_spelling.specs.Refusal.{RefusesToAssemble}
use Rattle.wal_spelling.specs.Spelling.{IsWritable, assembled}
use Rattle.run_script.specs.declared.line.Action.TheVariants as actions
use Rattle.run_script.specs.declared.line.Line.{Line}
use Rattle.run_script.specs.Meaning.{accepted}
use Rattle.run_script.proofs.Inserts.{FailsAs-refused, InsertGives-body, accepted_is}
use Rattle.run_script.proofs.records.insert_plain_in.Goals as goal

pub returns-in_err-bytes : goal.returns-in_err-bytes
returns-in_err-bytes c =
    let header = c.args.header in
    let main = drop 5 c.args.read.now.rooms.spelled.items in
    let value = plain_record header.xid header.rmid header.info main in
    let error = c.in_err-bytes.field-0.0 in
    let given : drop 5 c.deref_mut.result.now ≡ main = grind (arith, common_steps) in
    let refused : RefusesToAssemble error value = subst (λ (bytes : List ℕ). RefusesToAssemble error (plain_record header.xid header.rmid header.info bytes)) given (c.in_err-bytes.ensures.which header.xid) in
    let exit = err_from_is_err_and c.from_residual.result c.from_residual.ensures.1 in
    rw (exit.1, exit.2) (FailsAs-refused error value refused, refl)

pub returns : goal.returns
returns c =
    let header = c.args.header in
    let main = drop 5 c.args.read.now.rooms.spelled.items in
    let value = plain_record header.xid header.rmid header.info main in
    let body = c.in-Ok.body in
    let seen = c.deref.result.now in
    let given : drop 5 c.deref_mut.result.now ≡ main = grind (arith, common_steps) in
    let stays : drop 5 seen ≡ main = grind (arith, common_steps) in
    let all : take (length seen - 5) (drop 5 seen) ≡ main = take_all (length seen - 5) (drop 5 seen) (omega (arith, length-drop 5 seen)) ∙ stays in
    let spelling : IsPlainSpelling header.rmid header.info main c.in_ok-bytes.bytes.now = subst (λ (bytes : List ℕ). IsPlainSpelling header.rmid header.info bytes c.in_ok-bytes.bytes.now) given c.in_ok-bytes.ensures.ok in
    let made : (body ≡ assembled value) × IsWritable value = subst (λ (bytes : List ℕ). (body ≡ assembled (plain_record header.xid header.rmid header.info bytes)) × IsWritable (plain_record header.xid header.rmid header.info bytes)) all c.in-Ok.ensures.ok in
    let line : Line = record { number = c.args.number; action = actions.Insert body } in
    let joins : c.push_reserved.new.self.items ≡ c.args.read.now.lines.items ++ line ∷ [] = c.push_reserved.ensures.items ∙ ap (λ (lines : List Line). lines ++ line ∷ []) c.reserve.ensures.items in
    InsertGives-body {X = Unit {0}} c.args.number c.args.read.now.lines.items c.push_reserved.new.self.items tt (accepted value) value body (accepted_is value (spelling.accepted header.xid)) made joins
