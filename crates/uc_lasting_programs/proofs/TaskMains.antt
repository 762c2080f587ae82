-- In a program that breaks no rule no coroutine begins with the main of a task: who runs in states in which all is known sets up none.
use Rattle.std.proofs.Common.{◌≡◌, ℕ, List, [], ◌∷◌, ◌⊎◌, inl, inr, Option, Some, None, Bool, true, false, refl, sym, ap, ◌∙◌, subst}
use Rattle.std.specs.Prelude.{◌&&◌, ◌||◌, nat_eq, slice_get, if◌then◌else◌}
use Rattle.std.proofs.lemmas.Bool.{eqb-true}
use Rattle.uc_tree.specs.declared.kinds.Base.{Base}
use Rattle.uc_tree.specs.declared.kinds.Kind.{Kind}
use Rattle.uc_tree.specs.declared.kinds.Kind.TheVariants as kind
use Rattle.uc_tree.specs.declared.kinds.Owner.{Owner}
use Rattle.uc_tree.specs.declared.kinds.Owner.TheVariants as owner
use Rattle.uc_tree.specs.declared.kinds.Role.{Role}
use Rattle.uc_tree.specs.declared.kinds.Role.TheVariants as role
use Rattle.uc_tree.specs.Names.{same_name}
use Rattle.uc_tree.specs.Cells.{classes_of}
use Rattle.uc_tree.specs.Numbering.{Defined, defined_by, main_name, is_plain, routines_of}
use Rattle.uc_tree.specs.Objects.{class_at, has_execution, is_task, place_of, unwritten_of}
use Rattle.uc_tree.specs.ProgramMain as program
use Rattle.uc_tree.specs.ProgramMain.{main_number}
use Rattle.uc_tree.specs.Programs as whole
use Rattle.uc_tree.specs.Programs.{Program}
use Rattle.uc_tree.specs.Source as src
use Rattle.uc_tree.specs.Source.{Purpose, Routine}
use Rattle.uc_machine.specs.Pieces as piece
use Rattle.uc_machine.specs.Pieces.{Todo, State}
use Rattle.uc_resolve.specs.Resolve.{source_of, place_by, class_by, has_tasks, has_coroutines, has_number_in, is_main, value_purpose, role_purpose, purpose_of}
use Rattle.uc_rules.specs.ProgramVisits.{program_visits}
use Rattle.uc_typing.specs.Pieces.{Ok}
use Rattle.uc_sound.specs.Unbroken.{Unbroken}
use Rattle.uc_sound.specs.SoundFormed.{IsFormed}
use Rattle.uc_sound.specs.Tables.{of_kind, sig_or_none, all_sigs, table_of}
use Rattle.uc_sound.proofs.Ties.{some_same, none_some, false_true}
use Rattle.uc_sound.proofs.Lists.{left_is, right_is}
use Rattle.uc_sound.proofs.RoutineLemmas.{defined_routine, plain_place, no_place}
use Rattle.uc_sound.proofs.BodyLemmas.{InStep, is_written, nobody_wrote, in_step}
use Rattle.uc_sound.proofs.Lookups.{found_in}
use Rattle.uc_life_laws.specs.Things.{Few}
use Rattle.uc_life_laws.specs.Knowing.{KnowsState}
use Rattle.uc_rooted_runs.specs.Mains.{IsNoMain, CallsNoMainBy, CallsNoMain}
use Rattle.uc_rooted_runs.specs.TaskMains.{IsNoTaskMain, AreNoTaskMains, BeginsNoneBy, BeginsNone}

-- no class is both
not_both : {A : Type 0} (k : Kind) → is_task k ≡ true → has_execution k ≡ true → A
not_both kind.Task t h = false_true h
not_both _ t h = false_true t

-- so no class of tasks has executions
not_kinds : (o : Option whole.Class) → of_kind has_execution o ≡ true → of_kind is_task o ≡ true → ⊥
not_kinds None h t = false_true h
not_kinds (Some k) h t = not_both k.kind t h

pub tasks_alone : (p : Program) (c : ℕ) → (table_of p).executes c ≡ true → (table_of p).tasks c ≡ true → ⊥
tasks_alone p c h t = not_kinds (class_at p c) h t

-- what a routine is for is another thing than to be the main of a task, where its role tells it

not_value : {A : Type 0} (p : Program) (b : Base) → value_purpose p b ≡ src.TaskMain → A
not_value p b e = by (program.is_void b) e
  where
    by : {A : Type 0} (z : Bool) → (if z then src.Procedure else src.Function) ≡ src.TaskMain → A
    by true e = absurd (cc)
    by false e = absurd (cc)

not_role : {A : Type 0} (p : Program) (r : Role) (b : Base) → role_purpose p r b ≡ src.TaskMain → A
not_role p role.Plain b e = not_value p b e
not_role p role.Constructor b e = absurd (cc)
not_role p role.Destructor b e = absurd (cc)

module _ (p : Program) (formed : IsFormed p) (u : Unbroken (program_visits p)) where
  number_is : (o : Owner) (r : whole.Routine) → program.returns_as_main o r.sig.ret ≡ true → (defined_by p o r).number ≡ 0
  number_is owner.Here r h = refl
  number_is owner.Main r h = refl
  number_is (owner.Class name) r h = false_true h

  -- the main of the program is of no class
  program_place : (d : Defined) → slice_get (routines_of p) (main_number p) ≡ Some d → place_by p d ≡ None
  program_place d e =
      let m = found_in p u in
      let z : Defined = defined_by p m.routine.sig.owner m.routine in
      let same : z.routine ≡ m.routine = defined_routine p formed u m.routine.sig.owner m.routine in
      let returns = left_is (program.returns_as_main m.routine.sig.owner m.routine.sig.ret) (same_name m.routine.sig.name main_name && (is_plain m.routine.sig.role && program.no_params m.routine.sig.params)) m.main in
      let rest = right_is (same_name m.routine.sig.name main_name) (is_plain m.routine.sig.role && program.no_params m.routine.sig.params) (right_is (program.returns_as_main m.routine.sig.owner m.routine.sig.ret) (same_name m.routine.sig.name main_name && (is_plain m.routine.sig.role && program.no_params m.routine.sig.params)) m.main) in
      let plain : is_plain z.routine.sig.role ≡ true = ap (λ (z : whole.Routine). is_plain z.sig.role) same ∙ left_is (is_plain m.routine.sig.role) (program.no_params m.routine.sig.params) rest in
      let place : place_by p z ≡ None = plain_place p formed u z plain ∙ (ap (place_of p) (number_is m.routine.sig.owner m.routine returns) ∙ no_place p formed u (classes_of p.items)) in
      let is : z ≡ d = some_same (sym m.at ∙ e) in
      subst (λ z. place_by p z ≡ None) is place

  -- a class of tasks has no executions
  of_class : {A : Type 0} (c : ℕ) → has_tasks p (class_at p c) ≡ true → (table_of p).executes c ≡ true → A
  of_class {A} c t h = by (class_at p c) t h
    where
      by : (o : Option whole.Class) → has_tasks p o ≡ true → of_kind has_execution o ≡ true → A
      by None t h = false_true t
      by (Some k) t h = not_both k.kind t h

  either : (a b : Bool) → (a || b) ≡ true → (a ≡ true) ⊎ (b ≡ true)
  either true b h = inl refl
  either false b h = inr h

  module _ (n c : ℕ) (h : (table_of p).executes c ≡ true) where
    -- a routine of that class that somebody wrote
    written : {A : Type 0} (d : Defined) → slice_get (routines_of p) n ≡ Some d → place_by p d ≡ Some c → purpose_of p n (class_by p (place_by p d)) d.routine ≡ src.TaskMain → A
    written {A} d e place q =
        by (nat_eq n (main_number p) || (has_tasks p (class_by p (place_by p d)) && is_main p d.routine.sig)) (has_coroutines p (class_by p (place_by p d)) && is_main p d.routine.sig) (has_number_in p (class_by p (place_by p d)) d.routine.sig) refl q
      where
        of_task : (nat_eq n (main_number p) ≡ true) ⊎ ((has_tasks p (class_by p (place_by p d)) && is_main p d.routine.sig) ≡ true) → A
        of_task (inl k) = none_some (sym (program_place d (ap (slice_get (routines_of p)) (sym (eqb-true n (main_number p) k)) ∙ e)) ∙ place)
        of_task (inr k) =
            of_class c (subst (λ o. has_tasks p (class_by p o) ≡ true) place (left_is (has_tasks p (class_by p (place_by p d))) (is_main p d.routine.sig) k)) h

        by : (a b z : Bool) → (nat_eq n (main_number p) || (has_tasks p (class_by p (place_by p d)) && is_main p d.routine.sig)) ≡ a → (if a then src.TaskMain else if b then src.CoroutineMain else if z then src.Builder else role_purpose p d.routine.sig.role d.routine.sig.ret) ≡ src.TaskMain → A
        by true b z k q = of_task (either (nat_eq n (main_number p)) _ k)
        by false true z k q = absurd (cc)
        by false false true k q = absurd (cc)
        by false false false k q = not_role p d.routine.sig.role d.routine.sig.ret q

    -- or nobody
    none_of_task : {A : Type 0} (r : Routine) → slice_get (source_of p).routines n ≡ Some r → ((table_of p).routine n).this ≡ Some c → r.purpose ≡ src.TaskMain → A
    none_of_task {A} r e this q = by (in_step p n r e)
      where
        by : InStep p (routines_of p) (unwritten_of p) n n r (slice_get (all_sigs p) n) → A
        by (is_written d texts sites f w s) =
            written d f (sym (ap (λ o. (sig_or_none o).this) s) ∙ this) (sym (ap (λ (z : Routine). z.purpose) w) ∙ q)
        by (nobody_wrote x m a f w s) = let z : src.Builder ≡ src.TaskMain = sym (ap (λ (z : Routine). z.purpose) w) ∙ q in absurd (cc)

  no_task_main : (x : Purpose) → (x ≡ src.TaskMain → ⊥) → IsNoTaskMain x
  no_task_main src.TaskMain f = f refl
  no_task_main src.CoroutineMain f = tt
  no_task_main src.Procedure f = tt
  no_task_main src.Function f = tt
  no_task_main src.Builder f = tt

  called : (x : Purpose) → IsNoMain x → IsNoTaskMain x
  called src.TaskMain h = h
  called src.CoroutineMain h = tt
  called src.Procedure h = tt
  called src.Function h = tt
  called src.Builder h = tt

  module _ (few : Few) (s : State) (k : KnowsState (table_of p) few [] s) (calls : CallsNoMain (source_of p) s) where
    -- what is set up is of the class at hand, which has executions
    sets_up : (r : ℕ) (todo : List Todo) → s.run.control ≡ piece.SetUpNow r ∷ todo → AreNoTaskMains (slice_get (source_of p).routines r)
    sets_up r todo e x i =
        let ok = subst (λ l. Ok (table_of p) k.run.sig k.run.base k.run.scope l k.run.own) e k.run.ok in
        no_task_main x.purpose (λ q. none_of_task r ok.1.0 ok.1.2 x i (ok.0.0 ∙ ok.1.1) q)

    pub begins_none : BeginsNone (source_of p) s
    begins_none = by s.run.control refl calls
      where
        by : (l : List Todo) → s.run.control ≡ l → CallsNoMainBy (source_of p) l → BeginsNoneBy (source_of p) l
        by [] e h = tt
        by (piece.CallNow r ∷ todo) e h = λ x i. called x.purpose (h x i)
        by (piece.CallOnNow r ∷ todo) e h = λ x i. called x.purpose (h x i)
        by (piece.CallUnwrittenNow r ∷ todo) e h = λ x i. called x.purpose (h x i)
        by (piece.SetUpNow r ∷ todo) e h = sets_up r todo e
        by (q ∷ todo) e h = tt
