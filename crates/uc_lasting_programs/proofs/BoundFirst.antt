-- What was just made, and is bound next, has not gone: its task is inside it, as the routine that is called then lets go of it.
use Rattle.std.proofs.Common.{◌≡◌, ℕ, zero, suc, ◌≤◌, ◌⊎◌, inl, inr, Bool, true, false, List, [], ◌∷◌, length, drop, Option, Some, None, refl, sym, ap, ◌∙◌, subst, arith}
use Rattle.std.specs.Prelude.{nat_eq, slice_get, is_some, if◌then◌else◌}
use Rattle.std.proofs.lemmas.Bool.{eq-eqb}
use Rattle.uc_tree.specs.Programs.{Program}
use Rattle.uc_tree.specs.Source as src
use Rattle.uc_tree.specs.Source.{CleanUp, Routine, Stmts, routine_or_none}
use Rattle.uc_entry.specs.Keyed.{find}
use Rattle.uc_machine.specs.Pieces as piece
use Rattle.uc_machine.specs.Pieces.{Value, Object, Todo, State, top}
use Rattle.uc_resolve.specs.Resolve.{source_of}
use Rattle.uc_rules.specs.Breaks.{breaks_of}
use Rattle.uc_typing.specs.Typing.{Ty, Num, Cell, Obj, Raw, Row, Clu, Pro, Name, Sig, Table, object_ty}
use Rattle.uc_typing.specs.Pieces.{Ok, onto}
use Rattle.uc_typing.specs.States.{Sound}
use Rattle.uc_typing.proofs.Frames.{drop_onto}
use Rattle.uc_sound.specs.SoundFormed.{IsFormed}
use Rattle.uc_sound.specs.Tables.{table_of}
use Rattle.uc_sound.proofs.SoundLemmas.{law_sound}
use Rattle.uc_depth_laws.specs.Entering.{Aspect, lets_go, holds_object, is_holding}
use Rattle.uc_depth_laws.specs.Owing.{Tests, CallOf, is_told, owed_first, depth_in, Entered, IsInside, Deep}
use Rattle.uc_life_laws.specs.Things.{Few}
use Rattle.uc_life_laws.specs.Knowing.{KnowsState}
use Rattle.uc_making_laws.specs.LettingGo.{of_object, opens_object}
use Rattle.uc_lasting_programs.proofs.LettingStates.{opens}
use Rattle.uc_lasting_programs.proofs.Presence.{alone, no_place}
use Rattle.uc_lasting_programs.proofs.Wholes.{whole_inside}

clean_holds : (c : CleanUp) → of_object c ≡ true → lets_go c ≡ true
clean_holds src.Ends e = refl
clean_holds (src.Frees r) e = refl
clean_holds src.Leaves e = refl
clean_holds c e = absurd (let z : false ≡ true = e in cc)

stmts_hold : (ss : Stmts) → opens_object ss ≡ true → holds_object ss ≡ true
stmts_hold (src.Scoped c rest) e = clean_holds c e
stmts_hold ss e = absurd (let z : false ≡ true = e in cc)

head_raw : (w : Bool) (c d : ℕ) (xs ys : List Ty) → (Raw c ∷ xs) ≡ (object_ty w d ∷ ys) → (w ≡ true) × (c ≡ d)
head_raw true c d xs ys e = (refl, cc)
head_raw false c d xs ys e = absurd (cc)

inside_by : (x : Option ℕ) → 1 ≤ depth_in x → (d : ℕ) × (x ≡ Some (suc d))
inside_by None le = absurd (let z : 1 ≤ 0 = le in omega arith)
inside_by (Some zero) le = absurd (let z : 1 ≤ 0 = le in omega arith)
inside_by (Some (suc d)) le = (d, refl)

module _ (p : Program) (formed : IsFormed p) (ok : breaks_of p ≡ []) where
  abbrev t : Table
  t = table_of p

  sound : Sound (table_of p) (source_of p)
  sound = law_sound p formed ok

  -- the routine of a constructor of a mutex class
  whole_holds : (r c : ℕ) → (t.routine r).whole ≡ true → (t.routine r).this ≡ Some c → t.mutex c ≡ true → (x : Routine) → slice_get (source_of p).routines r ≡ Some x → holds_object x.body ≡ true
  whole_holds r c w e m x q =
      stmts_hold x.body (opens (table_of p) alone (no_place (table_of p) (λ o. false)) (t.routine r) x.body (sound.routines r x q).body ((sound.routines r x q).enters (whole_inside p c m r w e)) w)

  -- so the routine of this number holds its object
  holds : (r c : ℕ) → (t.routine r).whole ≡ true → (t.routine r).this ≡ Some c → t.mutex c ≡ true → is_some (slice_get (source_of p).routines r) ≡ true → is_holding (source_of p) r ≡ true
  holds r c w e m there = by (slice_get (source_of p).routines r) refl there
    where
      by : (o : Option Routine) → slice_get (source_of p).routines r ≡ o → is_some o ≡ true → is_holding (source_of p) r ≡ true
      by None q i = absurd (let z : false ≡ true = i in cc)
      by (Some x) q i = ap (λ (o : Option Routine). holds_object (routine_or_none o).body) q ∙ whole_holds r c w e m x q

  module _ (g : Sig) (b : List Name) (sc : List Name) (told : Aspect → Bool) where
    -- the routine that is called for what is bound is a constructor of a mutex class
    called_whole : (q r c : ℕ) (more : List Ty) (d : ℕ) (rest : List Ty) → q ≡ r → onto (t.routine r).params (Raw c ∷ more) ≡ onto (t.routine q).params (object_ty (t.routine q).whole d ∷ rest) → (t.routine q).this ≡ Some d → ((t.routine r).whole ≡ true) × ((t.routine r).this ≡ Some c)
    called_whole q r c more d rest same e this =
        let e2 : onto (t.routine r).params (Raw c ∷ more) ≡ onto (t.routine r).params (object_ty (t.routine r).whole d ∷ rest) = subst (λ i. onto (t.routine r).params (Raw c ∷ more) ≡ onto (t.routine i).params (object_ty (t.routine i).whole d ∷ rest)) same e in
        let heads : (Raw c ∷ more) ≡ (object_ty (t.routine r).whole d ∷ rest) = sym (drop_onto (t.routine r).params (Raw c ∷ more)) ∙ (ap (λ l. drop (length (t.routine r).params) l) e2 ∙ drop_onto (t.routine r).params (object_ty (t.routine r).whole d ∷ rest)) in
        let x = head_raw (t.routine r).whole c d more rest heads in
        (x.0, subst (λ i. (t.routine i).this ≡ Some d) same this ∙ ap Some (sym x.1))

    binds_whole : (n r : ℕ) (todo : List Todo) (own : List Ty) → (q : ℕ) (rest : List Todo) → (todo ≡ piece.CallOnNow q ∷ rest) ⊎ (todo ≡ piece.CallUnwrittenNow q ∷ rest) → Ok t g b sc (piece.BindMadeNow n r ∷ todo) own → Entered (source_of p) told (CallOf r) todo → (c : ℕ) × ((t.routine r).whole ≡ true) × ((t.routine r).this ≡ Some c) × (t.mutex c ≡ true)
    binds_whole n r todo (Raw d ∷ tys) q rest (inl e) h i =
        let ok = subst (λ l. Ok t g b sc l (onto (t.routine r).params (Raw h.1 ∷ h.0))) e h.4 in
        let x = called_whole q r h.1 h.0 ok.1 ok.0 (subst (λ l. Entered (source_of p) told (CallOf r) l) e i).0 ok.2.0 ok.2.1 in
        (h.1, x.0, x.1, h.2.3)
    binds_whole n r todo (Raw d ∷ tys) q rest (inr e) h i =
        let ok = subst (λ l. Ok t g b sc l (onto (t.routine r).params (Raw h.1 ∷ h.0))) e h.4 in
        let x = called_whole q r h.1 h.0 ok.1 ok.0 (subst (λ l. Entered (source_of p) told (CallOf r) l) e i).0 ok.2.0 ok.2.1 in
        (h.1, x.0, x.1, h.2.3)
    binds_whole n r todo [] q rest e h i = absurd h
    binds_whole n r todo (Num ∷ tys) q rest e h i = absurd h
    binds_whole n r todo (Cell a ∷ tys) q rest e h i = absurd h
    binds_whole n r todo (Obj a ∷ tys) q rest e h i = absurd h
    binds_whole n r todo (Row m a ∷ tys) q rest e h i = absurd h
    binds_whole n r todo (Clu ∷ tys) q rest e h i = absurd h
    binds_whole n r todo (Pro ∷ tys) q rest e h i = absurd h

  -- so its task is inside it
  pub binds_inside : (few : Few) (news : Tests) (s : State) → KnowsState (table_of p) few [] s → Deep (source_of p) news s → (n r : ℕ) (todo : List Todo) → s.run.control ≡ piece.BindMadeNow n r ∷ todo → is_some (slice_get (source_of p).routines r) ≡ true → (q : ℕ) (rest : List Todo) → (todo ≡ piece.CallOnNow q ∷ rest) ⊎ (todo ≡ piece.CallUnwrittenNow q ∷ rest) → (o : ℕ) → top s.run.operands ≡ Object o → IsInside o s.env
  binds_inside few news s k d n r todo e there q rest call o top_is =
      let told : Aspect → Bool = is_told (news s.env.exec.home) s.run.this s.callers in
      let ok = subst (λ l. Ok t k.run.sig k.run.base k.run.scope l k.run.own) e k.run.ok in
      let i = (subst (Entered (source_of p) told d.first) e d.run).1 in
      let w = binds_whole k.run.sig k.run.base k.run.scope told n r todo k.run.own q rest call ok i in
      let h : is_holding (source_of p) r ≡ true = holds r w.0 w.1 w.2 w.3 there in
      let first : owed_first (source_of p) o s.run.control s.run.operands ≡ 1 = ap (λ l. owed_first (source_of p) o l s.run.operands) e ∙ (ap (λ (b : Bool). if b then (if nat_eq (piece.object_in (top s.run.operands)) o then 1 else 0) else 0) h ∙ (ap (λ (v : Value). if nat_eq (piece.object_in v) o then 1 else 0) top_is ∙ ap (λ (b : Bool). if b then 1 else 0) (eq-eqb o o refl))) in
      let deep = d.depths o in
      inside_by (find o s.env.depths) (omega (arith, deep, first))
