use Rattle.std.proofs.Common.{◌≡◌, ℕ, ◌+◌, ◌*◌, ◌%◌, ◌++◌, subst, ap, ◌∙◌, arith}
use Rattle.std.specs.Int.{w32, w64, from_le_bytes, to_le_bytes}
use Rattle.wal_spelling.specs.Spelling.{Assembled, AssembledFits, assembled_size}
use Rattle.wal_spelling.proofs.Words.{first_of_header, second_of_header, third_of_header}
use Rattle.wal_spelling.proofs.body.Body.header_word.Goals as goal

pub returns-in-0 : goal.returns-in-0
returns-in-0 c =
    let a = c.args.self.now in
    let xid = ap (λ (s : Assembled). s.xid) c.self.view_is in
    c.size_and_xid.ensures.number
    ∙ ap (λ (size : ℕ). from_le_bytes w64 (to_le_bytes w32 size ++ to_le_bytes w32 c.self.inside.xid.0)) c.len.ensures.size
    ∙ ap (λ (x : ℕ). from_le_bytes w64 (to_le_bytes w32 (assembled_size a) ++ to_le_bytes w32 x)) xid
    ∙ first_of_header a c.args.prev.0 c.args.n c.in-0.is

pub returns-in-1 : goal.returns-in-1
returns-in-1 c = second_of_header c.args.self.now c.args.prev.0 c.args.n c.in-1.is (omega arith)

pub returns-in_default : goal.returns-in_default
returns-in_default c =
    let a = c.args.self.now in
    let fits = subst AssembledFits c.self.view_is c.self.invariant.1 in
    let info = ap (λ (s : Assembled). s.info) c.self.view_is in
    let rmid = ap (λ (s : Assembled). s.rmid) c.self.view_is in
    let sum : c.from.result + c.from-in_default.result * 4294967296 % 18446744073709551616 ≡ a.info + a.rmid * 256 + c.crc.result * 4294967296 = omega (arith, c.from.ensures, c.info_and_manager.ensures.number, info, rmid, c.from-in_default.ensures, c.crc.type_inv, fits.info, fits.manager) in
    sum ∙ third_of_header a c.args.prev.0 c.args.n c.crc.result c.crc.ensures (omega arith) fits.info fits.manager c.crc.type_inv
