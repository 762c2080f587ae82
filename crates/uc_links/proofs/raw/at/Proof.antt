-- `at` lends the element that the pointer points to: the borrow of the Vec is opened, the pointer is found to be the place of that element, and
-- the element is lent on while the Vec waits for it.
use mathlib.Core.Path.{◌≡◌, refl, ap, ◌∙◌}
use Prim.Native.Nat.{ℕ, ◌+◌, ◌*◌, ◌<◌}
use native.Mathlib.Nat.{add_comm}
use native.Mathlib.Omega.{arith}
use mathlib.Core.List.{[], ◌∷◌}
use lib.ListN.{length, get_or}
use seplogic.Ra.Ura.{Ura}
use base.Fraction.{full_share}
use mir.Syntax.{Fn, named}
use mir.MapTy.{inst_fn}
use mir.Val.{vptr}
use base.Logic.{ent, sep, id⊢}
use base.Fml.{Lft, GName, Share, ftrue, fat, flft}
use prog.Wp.{Env, Calls, Loops, WpFn, Tables}
use types.Logic.{Logic, sem}
use contract.Monad.{fact}
use contract.Running.{tables, tables_of}
use sound.WpLaws.{WpFn-mono}
use types.Kit.{‵, raw, ◌⊛◌, some, later, at_ret, ◌$◌, ◌∵◌, !, qed, move, keep, use1, drop, split, split3, join, await, pick, group, rewrite, fsplit, fsplit3, fjoin, suffices, frame, done}
use types.Part.{whole, sub}
use types.Run.{stop, hop, fld, from, addr, of_opd, first, blocks, exec, returns, enter}
use types.ByLocal.{alloc_all, pass_all, free_all, look_at, look_in_at, get, sets, sets_last, env}
use denote.Exit.{no}
use denote.Builtin.{RefMutOf}
use denote.Follow.{follows}
use denote.Param.Laws.{param_laws}
use denote.RattleType.{owns}
use denote.RawPtr.{Ptr, block_ptr, ◌+ₚ◌}
use denote.Ref.{MutBor, MutRef, mut_vals, mut_Tells}
use denote.Signature.{plain, mut_ref_to}
use denote.Steps.{nothing}
use denote.Triple.Carry.{spared}
use denote.Triple.Clauses.{Clauses, Ended, closing}
use denote.Triple.Entry.{on_entry}
use denote.Triple.Spec.{Meets, triple_of}
use denote.Triple.Table.{entered, run_framed}
use denote.Triple.Walked.{says, needs, Stays, stay_dropped, walk_of, ends_at, walked, Goes-dropped, Goes-spent_ref, walk_Meets}
use Rattle.core.proofs.ptr.Rows.{hd}
use Rattle.core.proofs.slice.Lists.{any-default}
use Rattle.std_alloc.specs.Vec.{with_item}
use Rattle.std_alloc.proofs.RcSteps.{word, word_ty, word-Good}
use Rattle.std_alloc.proofs.VecSteps.El.{El, args, el_x, el_d, el_len, el_cap, el_items, el_ok, R, Vr, sz}
use Rattle.std_alloc.proofs.VecSteps.Element.{Got, lends}
use Rattle.std_alloc.proofs.VecSteps.Opens.{vec_opens}
use Rattle.std_alloc.proofs.VecSteps.Shapes.{after}
use Rattle.uc_links.specs.Place.{index_at, IsPlace}
use Rattle.uc_links.specs.contracts.raw.ElementPtr.{the_row as pointer_row, struct as pointer_struct}
use Rattle.uc_links.proofs.raw.ElementPtr.TheLaws.{lowers}
use Rattle.uc_links.specs.contracts.raw.at.Key.{name as key}
use Rattle.uc_links.proofs.raw.at.Statement.{statement}
use Rattle.uc_links.proofs.raw.at.Code as code

-- the place of an element, where the block is known
in_the_block : (p base : Ptr) (b o k : ℕ) → base ≡ block_ptr b o → p ≡ base +ₚ k → p ≡ block_ptr b (k + o)
in_the_block p base b o k lies e = e ∙ ap (λ (x : Ptr). x +ₚ k) lies ∙ ap (block_ptr b) (add_comm o k)

module _ (E : El) where
  abbrev body : Fn
  body = inst_fn (args E) code.function

  abbrev form : Ended
  form = record {
    signature = record { lifetimes = 1; outlives = []; params = RefMutOf (0 ∷ []) tt (plain (λ _. Vr E)) (λ _. tt) ∷ plain (λ _. pointer_row (R E)) ∷ []; result = RefMutOf (0 ∷ []) tt (plain (λ _. R E)) (λ _. tt) };
    kept = (no, (no, tt));
  }

  abbrev stays : Stays form.signature.params form.kept
  stays = (stay_dropped (mut_ref_to (0 ∷ []) tt (plain (λ _. Vr E))) no, (stay_dropped (plain (λ _. pointer_row (R E))) no, tt))

  abbrev clauses : {M : Type 1} {𝓤 : Ura M} (𝓛 : Logic 𝓤) → Clauses 𝓤 form
  clauses {𝓤 = 𝓤} 𝓛 κs a = record {
    ghost = Unit {0};
    requires = λ _. fact 𝓤 (IsPlace (R E) a.0.now.ptr a.0.now.len a.1.0.ptr);
    ensures = λ _ r _. let i = index_at (R E) a.0.now.ptr a.1.0.ptr in
        sep 𝓤 (sem 𝓛 (follows (Vr E) (R E) a.0.ghost_name r.ghost_name (with_item a.0.now i))) (fact 𝓤 (r.now ≡ get_or a.0.now.items i r.now));
  }

  -- the Vec `v` is lent for κ, lies at the offset `o` of the block `b`, and is named γ; the pointer is `p`
  module _ {M : Type 1} {𝓤 : Ura M} (𝓛 : Logic 𝓤) (κ : Lft) (q : Share) (b o : ℕ) (γ : GName) (v : el_d E) (p : Ptr) (C : Calls 𝓤 𝓛.H) (Λ : Loops 𝓤 𝓛.H) where
    open 𝓛 use {H}

    abbrev W : (walk_of 𝓛 form stays (clauses 𝓛)).Ghost
    W = (((κ, tt), (q, tt), tt, (record { ref_ptr = (b, o); ghost_name = γ; now = v }, (record { ptr = p }, tt)), (vptr b o ∷ [], (word p ∷ [], tt))), tt)

    abbrev i : ℕ
    i = index_at (R E) v.ptr p

    abbrev lent : ℕ → ℕ → el_x E → GName → MutBor (el_x E)
    lent d e x δ = record { ref_ptr = (d, i * sz E + e); ghost_name = δ; now = x }

    walk : IsPlace (R E) v.ptr (el_len E v) p
        → ent 𝓤 (on_entry 𝓛 form.signature W.0.0 W.0.1 W.0.3 W.0.4) (WpFn 𝓤 H C Λ body (vptr b o ∷ word p ∷ []) ((walk_of 𝓛 form stays (clauses 𝓛)).post W))
    walk is =
        let some_x : el_x E = hd (el_items E v) (let ok = el_ok E v in let below = is.1 in omega arith) in
        let x : el_x E = get_or (el_items E v) i some_x in
        let filled : 0 < el_cap E v = let ok = el_ok E v in let below = is.1 in omega arith in
        let inside : i < length (el_items E v) = let ok = el_ok E v in let below = is.1 in omega arith in
        qed 𝓛 ((‵ (flft κ q) ⊛ ‵ ftrue) ∷ ‵ (owns (MutRef (named 0) κ (Vr E) ∷ pointer_row (R E) ∷ []) W.0.3 W.0.4) ∷ []) ∵
        enter ! C Λ body (vptr b o ∷ word p ∷ []) _ $
        alloc_all ! (λ l. pass_all ! refl ((tt, tt), (word-Good (pointer_struct (R E)).name p, tt)) $
        let En : Env 𝓤 H = env body.locals l in
        move ! (1 ∷ []) $ fsplit ! $ fsplit3 ! $ drop ! $ move ! (3 ∷ []) $ split ! $ move ! (2 ∷ 3 ∷ 0 ∷ []) $
        vec_opens E ! tt v b o filled (λ d e handle lies short small fits.
        -- [the elements; the spare room; the right to free; the Vec's words; the open borrow; what γ is seen at, twice; ..; the locals]
        rewrite ! 11 (λ (z : Ptr). ‵ (fat full_share (word_ty (pointer_struct (R E)).name) (l 2) 0 (word z))) (in_the_block p v.ptr d e (i * sz E) lies is.0) refl $
        first ! $ blocks ! $
        sets_last ! (addr ! (from ! (fld ! refl (hop ! (look_in_at ! 2 (sub ! 0 refl (whole !))) (stop !))))) refl (tt, tt) $
        exec ! C Λ En (after 1 body.body) (at_ret En ((walk_of 𝓛 form stays (clauses 𝓛)).post W)) $
        sets ! (of_opd ! (get ! refl)) refl (tt, tt) $
        group ! 7 $ use1 𝓛 (later (some (λ (δ : GName). raw (Got E 𝓛 κ q b o γ v i d e x δ)))) (lends E 𝓛 κ q b o γ v i d e lies is.1 short small fits filled some_x) $ await ! tt $ pick ! (λ δ.
        returns ! (look_at ! 0 refl) $ free_all ! refl $ keep ! (0 ∷ []) $
        -- [the element's reference; the token of κ; that the Vec follows it]
        use1 𝓛 (‵ ((MutRef (named 0) κ (R E)).own_val (lent d e x δ) (vptr d (i * sz E + e) ∷ [])) ⊛ ‵ (flft κ q) ⊛ ‵ (follows (Vr E) (R E) γ δ (with_item v i))) (id⊢ 𝓤 _) $ split3 ! $
        suffices ! _ (ends_at 𝓛 form stays (clauses 𝓛) W (vptr d (i * sz E + e)) (lent d e x δ) (tt, (tt, tt)) (tt, (tt, tt))) $
        nothing ! $ nothing ! $ fjoin ! $ nothing ! $ fjoin ! $ join ! $ nothing ! $ move ! (2 ∷ 0 ∷ []) $ join ! $ join ! $ frame ! $
        says ! (any-default (el_items E v) i some_x x inside) $ done !)))

  meets : {M : Type 1} {𝓤 : Ura M} (𝓛 : Logic 𝓤) (𝓣 : Tables 𝓤 𝓛.H) → Meets 𝓛 form.signature (WpFn 𝓤 𝓛.H 𝓣.C 𝓣.Λ body) (closing 𝓛 form (clauses 𝓛))
  meets {𝓤 = 𝓤} 𝓛 𝓣 =
      let run = WpFn 𝓤 𝓛.H 𝓣.C 𝓣.Λ body in
      walk_Meets 𝓛 form stays (Goes-spent_ref 𝓛 1 (0 ∷ []) tt (plain (λ _. Vr E)), (Goes-dropped 𝓛 1 (plain (λ _. pointer_row (R E))) no (λ κs x f. refl), tt)) (clauses 𝓛) run (WpFn-mono 𝓤 𝓛.H 𝓛.laws 𝓣 body)
      (walked 𝓛 form stays (clauses 𝓛) run (λ κs. (mut_vals, (λ r. word r.ptr ∷ [], tt))) (λ κs. (mut_Tells (named 0) κs.0 (Vr E), ((lowers (R E) (param_laws 0 E.row E.laws)).val_is, tt)))
      (λ κs qs bounds a g are. needs 𝓤 (IsPlace (R E) a.0.now.ptr (el_len E a.0.now) a.1.0.ptr) _ (walk 𝓛 κs.0 qs.0 a.0.ref_ptr.0 a.0.ref_ptr.1 a.0.ghost_name a.0.now a.1.0.ptr 𝓣.C 𝓣.Λ)))

pub at_spec : {M : Type 1} → statement M
unfolding tables_of
at_spec 𝓤 𝓛 𝓜 𝓡 wired T B LT LB g d dd met md y =
    let E : El = record { row = T; laws = LT; al = record { row = B; laws = LB; g = g; d = d; drops = dd } } in
    let 𝓣 : Tables 𝓤 𝓛.H = tables_of 𝓤 𝓛.H 𝓜 (tables 𝓤 𝓛.H 𝓜 𝓡 𝓡.env) in
    let S = (form E).signature in let c = closing 𝓛 (form E) (clauses E 𝓛) in let called = 𝓡.env (key (args E)) in
    spared 𝓛 S (𝓡.run called) (run_framed 𝓤 𝓛.H 𝓜 𝓡 called) 2 (T.lives, (B.lives, tt)) c
    (entered 𝓤 𝓛.H (triple_of 𝓛 S c) 𝓣.C 𝓣.Λ (key (args E)) (body E) (code.unfolded 𝓤 𝓛.H 𝓜 𝓡 wired (T, (B, tt)) d dd) (meets E 𝓛 𝓣))
    ((y.0.0, y.0.1, tt, y.0.3, y.0.4), y.1)
