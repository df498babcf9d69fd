-- `pgwal_session_call` lends what lies at the pointer to `call_session`, with what it was passed, and has it back.
use Rattle.std.proofs.Common.{ℕ, w32, [], ◌∷◌, ◌++◌, refl, MutBor}
use Rattle.std.proofs.raw_atomic.Walks.{proved}
use base.Fraction.{full_share}
use base.Logic.{id⊢, sep}
use types.Logic.{sem}
use base.Fml.{Lft, GName, ftrue, flft, flent}
use mir.Syntax.{named}
use mir.Val.{vptr}
use prog.Wp.{WpFn}
use contract.Monad.{fact}
use contract.Running.{tables}
use types.Kit.{‵, raw, ◌⊛◌, some, later, prop, at_ret, ◌$◌, ◌∵◌, !, qed, done, move, keep, drop, use1, use3, split, join, fsplit, fjoin, pick, await, regoal, suffices, frame, group, show}
use types.Run.{enter, of_opd, addr, stop, no_more, and_then, first, blocks, exec, returns}
use types.ByLocal.{alloc_all, pass_all, free_all, look_at, get, through, sets, sets_last, lands_as, env}
use types.Tokens.{lft_new, lft_end}
use types.SemTy.{Body}
use denote.Builtin.{u8, u32}
use denote.Exit.{yes}
use denote.Laws.{Is, shows}
use denote.Lend.{lends_ref, ref_back}
use denote.Memory.{mem}
use denote.Plain.{uint_Lawful}
use denote.RattleType.{owns}
use denote.RawPtr.{Ptr, RawPtr, block_ptr, lies_at, in_a_block, rawptr_vals, rawptr_Tells}
use denote.Ref.{MutRef, mut_vals, mut_Tells}
use denote.Slice.{ShrSlice, shr_slice_vals, shr_slice_Tells}
use denote.Signature.{plain, shr_slice_of}
use denote.Steps.{nothing, peeks, heard}
use denote.Triple.Call.{calls_at}
use denote.Triple.Clauses.{Lasts, lasts}
use denote.Triple.Spec.{triple_of}
use denote.Triple.Table.{framed}
use denote.Triple.Walked.{Stays, walk_of, stay_dropped, gave_ref, Goes-dropped, Goes-gave_ref, ends_at, says}
use Rattle.pgwal_c.specs.Told.{SeenSession, TellsSessionCall}
use Rattle.pgwal_c.specs.contracts.session_handle.SessionHandle.{the_row}
use Rattle.pgwal_c.specs.contracts.session_handle.SessionCall as told
use Rattle.pgwal_c.specs.contracts.pgwal_session_call as f
use Rattle.pgwal_c.proofs.pgwal_session_call.Statement.{statement}
use Rattle.pgwal_c.proofs.pgwal_session_call.Code as code
use Rattle.pgwal_c.specs.contracts.session_handle.call_session as g
use Rattle.pgwal_c.proofs.session_handle.call_session.Met.{met}

abbrev stayed : Stays f.ended.signature.params f.ended.kept
stayed = (stay_dropped _ yes, (stay_dropped _ yes, (gave_ref (1 ∷ []) tt (plain (λ _. told.the_row)), tt)))

pub pgwal_session_call_spec : {M : Type 1} → statement M
pgwal_session_call_spec 𝓤 𝓛 𝓜 𝓡 wired =
    let c = f.clauses 𝓛 𝓜.mem 𝓡.returns in let W = walk_of 𝓛 f.ended stayed c in let 𝓣 = tables 𝓤 𝓛.H 𝓜 𝓡 𝓡.env in
    proved 𝓛 f.ended stayed c 𝓜 𝓡 (Goes-dropped 𝓛 2 (plain (λ _. RawPtr)) yes (λ κs x w. refl), (Goes-dropped 𝓛 2 (shr_slice_of (0 ∷ []) tt (plain (λ _. u8))) yes (λ κs x w. refl), (Goes-gave_ref 𝓛 2 1 tt (plain (λ _. told.the_row)), tt)))
    f.Key.name code.function (code.unfolded 𝓤 𝓛.H 𝓜 𝓡 wired)
    (λ κs. (rawptr_vals, (shr_slice_vals, (mut_vals, tt)))) (λ κs. (rawptr_Tells, (shr_slice_Tells (named 0) κs.0 u8, (mut_Tells (named 1) κs.1.0 told.the_row, tt)))) (λ κs qs bounds a v are.
    let s = a.1.0 in let t = a.1.1.0 in let fits = are.1.0.0.1.0 in
    let y : Ptr → W.Ghost = λ p. ((κs, qs, bounds, (p, (s, (t, tt))), (rawptr_vals p, (shr_slice_vals s, (mut_vals t, tt)))), v) in
    let toks = ‵ (flft κs.0 qs.0) ⊛ (‵ (flft κs.1.0 qs.1.0) ⊛ ‵ ftrue) in
    qed 𝓛 ((toks ⊛ ‵ (owns (RawPtr ∷ ShrSlice (named 0) κs.0 u8 ∷ MutRef (named 1) κs.1.0 told.the_row ∷ []) a (y a.0).0.4)) ∷ ‵ (lies_at the_row full_share a.0 v) ∷ []) ∵
    split ! $ move ! (1 ∷ []) $ fsplit ! $ drop ! $ move ! (2 ∷ []) $
    in_a_block ! a.0 (λ p. lies_at the_row full_share p v) (id⊢ 𝓤 _) (λ b o e.
    regoal ! (λ p. prop (WpFn 𝓤 𝓛.H 𝓣.C 𝓣.Λ code.function (rawptr_vals p ++ (shr_slice_vals s ++ (mut_vals t ++ []))) (W.post (y p)))) e refl $
    enter ! _ _ _ _ _ $ alloc_all ! (λ l. pass_all ! refl ((tt, tt), ((tt, (tt, (record { fits = fits }, tt))), ((tt, tt), tt))) $
    -- [what lies there; the slice and the `&mut`; their tokens; the locals]
    lft_new ! tt (λ α. let κ : Lft = α ∷ [] in move ! (1 ∷ []) $
    use1 𝓛 (later (some (λ (γ : GName). ‵ ((MutRef (named 0) κ the_row).own_val (record { ref_ptr = (b, o); ghost_name = γ; now = v }) (vptr b o ∷ [])) ⊛ ‵ (flent κ (Body (mem the_row) b o γ)))))
    (lends_ref 𝓛 the_row (named 0) κ v b o) $ await ! tt $ pick ! (λ γ. split ! $
    -- [the reference; the lender's part; the new token; the others; their tokens; the locals]
    first ! $ blocks ! $ sets ! (of_opd ! (get ! refl)) refl (tt, tt) $ sets ! (of_opd ! (get ! refl)) refl (tt, tt) $ sets_last ! (addr ! (through ! refl (stop !))) refl (tt, tt) $
    exec ! 𝓣.C 𝓣.Λ (env code.Mir.locals l) code.Mir.t-2 (at_ret _ (W.post (y (block_ptr b o)))) $
    sets ! (of_opd ! (get ! refl)) refl (tt, tt) $ sets ! (of_opd ! (get ! refl)) refl (tt, (tt, (record { fits = fits }, tt))) $ sets ! (addr ! (through ! refl (stop !))) refl (tt, tt) $
    let G = triple_of 𝓛 g.signature (g.spec 𝓛 𝓜.mem 𝓡.returns) in
    let r : MutBor SeenSession = record { ref_ptr = (b, o); ghost_name = γ; now = v } in
    let z : G.Ghost = (((κ, κs), (full_share, qs), tt, (r, (s, (t, tt))), (mut_vals r, (shr_slice_vals s, (mut_vals t, tt)))), tt) in
    move ! (0 ∷ 3 ∷ []) $ fjoin ! $ move ! (2 ∷ 3 ∷ []) $ join ! $ join ! $ nothing ! $ move ! (1 ∷ 0 ∷ []) $ join ! $ use1 𝓛 (raw (G.pre z)) (id⊢ 𝓤 (G.pre z)) $
    calls_at ! (framed 𝓤 𝓛.H 𝓜 (tables 𝓤 𝓛.H 𝓜 𝓡 𝓡.env)) G (met 𝓤 𝓛 𝓜 𝓡 (code.calls-pgwal_c::session_handle::call_session 𝓡.env wired)) z
    (and_then ! (get ! refl) (and_then ! (get ! refl) (and_then ! (get ! refl) (no_more !)))) (λ u.
    use1 𝓛 (later (some (λ (m : ℕ). ((‵ (flft κ full_share) ⊛ toks) ⊛ ‵ (u32.own_val m (u ∷ []))) ⊛
    some (λ (ws : Lasts g.ended z.0.0 z.0.3). ‵ (lasts g.ended z.0.0 z.0.3 ws) ⊛ raw (fact 𝓤 (TellsSessionCall s.now v ws.0 t.now ws.1.1.0 m)))))) (id⊢ 𝓤 _) $
    await ! tt $ pick ! (λ m. split ! $ split ! $ split ! $ lft_end ! tt $
    -- [the token is dead; the others; the result; the rest; the lender's part; the locals]
    move ! (3 ∷ []) $ pick ! (λ ws. split ! $ fsplit ! $ fsplit ! $
    -- [the last value; its borrow; the others' last values; what is told; dead; tokens; the result; the lender's part]
    move ! (4 ∷ 7 ∷ 0 ∷ []) $ use3 𝓛 (later (‵ (lies_at the_row full_share (block_ptr b o) ws.0))) (ref_back 𝓛 the_row κ γ ws.0 b o) $ await ! tt $
    move ! (3 ∷ []) $ heard ! (TellsSessionCall s.now v ws.0 t.now ws.1.1.0 m) (λ tells. move ! (4 ∷ []) $ peeks ! u32 (Is u32) (shows 𝓛 u32) m (u ∷ []) (λ is. lands_as ! refl refl ((uint_Lawful 𝓛 w32).typed m _ is).0 $
    returns ! (look_at ! 0 refl) $ free_all ! refl $ keep ! (0 ∷ 1 ∷ 3 ∷ 4 ∷ []) $
    suffices ! _ (ends_at 𝓛 f.ended stayed c (y (block_ptr b o)) u m (tt, (tt, (ws.1.1.0, tt))) (tt, (tt, (tt, tt)))) $
    nothing ! $ move ! (0 ∷ 3 ∷ []) $ join ! $ move ! (3 ∷ 0 ∷ 1 ∷ 2 ∷ []) $ group ! 3 $ frame ! $
    show ! (λ x. sep 𝓤 (sem 𝓛 (lies_at the_row full_share (block_ptr b o) x)) (fact 𝓤 (TellsSessionCall s.now v x t.now ws.1.1.0 m))) ws.0 $ says ! tells $ done !))))))))))
