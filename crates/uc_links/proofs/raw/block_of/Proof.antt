-- What `block_of` tells: the borrow of the Vec is opened, what its block is at is read off, and it is closed as it was.
use mathlib.Core.Path.{◌≡◌, refl, sym, subst}
use Prim.Native.Nat.{ℕ, ◌*◌, ◌<◌, ◌^◌}
use mathlib.Core.List.{List, [], ◌∷◌}
use seplogic.Ra.Ura.{Ura}
use mir.Syntax.{Fn, named}
use mir.MapTy.{inst_fn}
use mir.Val.{Val, vptr, vunit}
use base.Logic.{ent, sep, emp, via, fst∗}
use base.Fml.{Lft, GName, Share, ftrue, flft}
use prog.Wp.{Calls, Loops, WpFn, Tables}
use types.Logic.{Logic}
use contract.Monad.{fact}
use contract.Running.{tables, tables_of}
use sound.WpLaws.{WpFn-mono}
use types.Kit.{‵, ◌⊛◌, ◌$◌, ◌∵◌, !, qed, move, keep, drop, split, join, fsplit, fsplit3, fjoin, fjoin3, feq_i, suffices, frame, done}
use types.Run.{of_opd, unit_lit, returns, enter}
use types.ByLocal.{alloc_all, pass_all, free_all, look_at, sets}
use denote.Exit.{yes}
use denote.Builtin.{RefMutOf, unit}
use denote.RattleType.{owns}
use denote.RawPtr.{InBlock}
use denote.Ref.{MutRef, mut_vals, mut_Tells}
use denote.Signature.{plain}
use denote.Steps.{nothing}
use denote.Triple.Carry.{spared}
use denote.Triple.Clauses.{Clauses, Ended, closing}
use denote.Triple.Entry.{on_entry}
use denote.Triple.Spec.{Meets, triple_of}
use denote.Triple.Table.{entered, run_framed}
use denote.Triple.Walked.{Stays, stay_ref, walk_of, ends_at, walked, Goes-ref, walk_Meets}
use Rattle.core.proofs.mem.Facts.{says_three}
use Rattle.std_alloc.proofs.VecSteps.El.{El, args, el_d, el_len, el_cap, el_items, Vr, sz}
use Rattle.std_alloc.proofs.VecSteps.Opens.{vec_opens⁰, vec_closes⁰}
use Rattle.uc_links.specs.contracts.raw.block_of.Key.{name as key}
use Rattle.uc_links.proofs.raw.block_of.Statement.{statement}
use Rattle.uc_links.proofs.raw.block_of.Code as code

module _ (E : El) where
  abbrev body : Fn
  body = inst_fn (args E) code.function

  abbrev form : Ended
  form = record { signature = record { lifetimes = 1; outlives = []; params = RefMutOf (0 ∷ []) tt (plain (λ _. Vr E)) (λ _. tt) ∷ []; result = plain (λ _. unit) }; kept = (yes, tt) }

  abbrev stays : Stays form.signature.params form.kept
  stays = (stay_ref (0 ∷ []) tt (plain (λ _. Vr E)), tt)

  abbrev clauses : {M : Type 1} (𝓤 : Ura M) → Clauses 𝓤 form
  clauses 𝓤 κs a = record {
    ghost = Unit {0};
    requires = λ _. emp 𝓤;
    ensures = λ _ r w. sep 𝓤 (fact 𝓤 (w.0.now ≡ a.0.now)) (sep 𝓤 (fact 𝓤 (InBlock a.0.now.ptr)) (fact 𝓤 (el_cap E a.0.now * sz E < 2 ^ 63)));
  }

  -- the Vec `v` is lent for κ, lies at the offset `o` of the block `b`, and is named γ
  module _ {M : Type 1} {𝓤 : Ura M} (𝓛 : Logic 𝓤) (κ : Lft) (q : Share) (b o : ℕ) (γ : GName) (v : el_d E) (C : Calls 𝓤 𝓛.H) (Λ : Loops 𝓤 𝓛.H) where
    abbrev W : (walk_of 𝓛 form stays (clauses 𝓤)).Ghost
    W = (((κ, tt), (q, tt), tt, (record { ref_ptr = (b, o); ghost_name = γ; now = v }, tt), (vptr b o ∷ [], tt)), tt)

    walk : ent 𝓤 (on_entry 𝓛 form.signature W.0.0 W.0.1 W.0.3 W.0.4) (WpFn 𝓤 𝓛.H C Λ body (vptr b o ∷ []) ((walk_of 𝓛 form stays (clauses 𝓤)).post W))
    walk =
        qed 𝓛 ((‵ (flft κ q) ⊛ ‵ ftrue) ∷ ‵ (owns (MutRef (named 0) κ (Vr E) ∷ []) W.0.3 W.0.4) ∷ []) ∵
        enter ! C Λ body (vptr b o ∷ []) _ $
        alloc_all ! (λ l. pass_all ! refl ((tt, tt), tt) $
        move ! (1 ∷ []) $ fsplit ! $ fsplit3 ! $ drop ! $ move ! (3 ∷ []) $ split ! $ move ! (2 ∷ 3 ∷ 0 ∷ []) $
        -- [what γ is seen at; the borrow; the token of κ; ..]
        vec_opens⁰ E ! tt v b o (λ d e handle lies short small fits.
        vec_closes⁰ E ! tt v d e (el_len E v) (el_cap E v) (el_items E v) b o (lies, refl, refl, refl) short small fits $
        sets ! (of_opd ! (unit_lit !)) refl (tt, tt) $
        returns ! (look_at ! 0 refl) $ free_all ! refl $ keep ! (0 ∷ 1 ∷ 2 ∷ []) $
        suffices ! _ (ends_at 𝓛 form stays (clauses 𝓤) W vunit tt (v, tt) (tt, tt)) $
        says_three ! (refl, subst InBlock (sym lies) tt, fits) $
        nothing ! $ move ! (3 ∷ 0 ∷ []) $ join ! $ frame ! $
        feq_i ! (List Val) (vptr b o ∷ []) (vptr b o ∷ []) refl $ fjoin3 ! $ nothing ! $ move ! (1 ∷ 0 ∷ []) $ fjoin ! $
        feq_i ! (List Val) (vunit ∷ []) (vunit ∷ []) refl $ move ! (1 ∷ 0 ∷ []) $ done !))

  meets : {M : Type 1} {𝓤 : Ura M} (𝓛 : Logic 𝓤) (𝓣 : Tables 𝓤 𝓛.H) → Meets 𝓛 form.signature (WpFn 𝓤 𝓛.H 𝓣.C 𝓣.Λ body) (closing 𝓛 form (clauses 𝓤))
  meets {𝓤 = 𝓤} 𝓛 𝓣 =
      let run = WpFn 𝓤 𝓛.H 𝓣.C 𝓣.Λ body in
      walk_Meets 𝓛 form stays (Goes-ref 𝓛 1 0 tt (plain (λ _. Vr E)), tt) (clauses 𝓤) run (WpFn-mono 𝓤 𝓛.H 𝓛.laws 𝓣 body)
      (walked 𝓛 form stays (clauses 𝓤) run (λ κs. (mut_vals, tt)) (λ κs. (mut_Tells (named 0) κs.0 (Vr E), tt))
      (λ κs qs bounds a g are. via 𝓤 _ (fst∗ 𝓤 _ (emp 𝓤)) (walk 𝓛 κs.0 qs.0 a.0.ref_ptr.0 a.0.ref_ptr.1 a.0.ghost_name a.0.now 𝓣.C 𝓣.Λ)))

pub block_of_spec : {M : Type 1} → statement M
unfolding tables_of
block_of_spec 𝓤 𝓛 𝓜 𝓡 wired T B LT LB g d dd met md y =
    let E : El = record { row = T; laws = LT; al = record { row = B; laws = LB; g = g; d = d; drops = dd } } in
    let 𝓣 : Tables 𝓤 𝓛.H = tables_of 𝓤 𝓛.H 𝓜 (tables 𝓤 𝓛.H 𝓜 𝓡 𝓡.env) in
    let S = (form E).signature in let c = closing 𝓛 (form E) (clauses E 𝓤) in let called = 𝓡.env (key (args E)) in
    spared 𝓛 S (𝓡.run called) (run_framed 𝓤 𝓛.H 𝓜 𝓡 called) 2 (T.lives, (B.lives, tt)) c
    (entered 𝓤 𝓛.H (triple_of 𝓛 S c) 𝓣.C 𝓣.Λ (key (args E)) (body E) (code.unfolded 𝓤 𝓛.H 𝓜 𝓡 wired (T, (B, tt)) d dd) (meets E 𝓛 𝓣))
    ((y.0.0, y.0.1, tt, y.0.3, y.0.4), y.1)
