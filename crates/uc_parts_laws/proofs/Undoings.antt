-- The destructor of a class takes over what its constructor builds.
use Rattle.std.proofs.Common.{◌≡◌, ℕ, zero, suc, ◌+◌, ◌<◌, inl, inr, Bool, true, false, List, [], ◌∷◌, length, Option, Some, None, refl, sym, ap, ◌∙◌, subst, arith}
use Rattle.std.specs.Prelude.{◌&&◌, nat_eq, slice_get, if◌then◌else◌}
use Rattle.std.proofs.lemmas.Bool.{eqb-true}
use Rattle.uc_tree.specs.declared.kinds.Base.{Base}
use Rattle.uc_tree.specs.declared.kinds.Base.TheVariants as base
use Rattle.uc_tree.specs.declared.kinds.Kind.{Kind}
use Rattle.uc_tree.specs.declared.kinds.Kind.TheVariants as kind
use Rattle.uc_tree.specs.declared.kinds.Param.{Param}
use Rattle.uc_tree.specs.declared.kinds.Role.{Role}
use Rattle.uc_tree.specs.declared.kinds.Role.TheVariants as role
use Rattle.uc_tree.specs.Cells as cells
use Rattle.uc_tree.specs.Cells.{leading_cells, classes_of, object_named}
use Rattle.uc_tree.specs.Constants as constants
use Rattle.uc_tree.specs.Expressions as expr
use Rattle.uc_tree.specs.Names.{same_name}
use Rattle.uc_tree.specs.Numbering.{Defined, is_event, is_mutex, is_plain, routines_of}
use Rattle.uc_tree.specs.Objects as objects
use Rattle.uc_tree.specs.Objects.{Making, APlain, AMutex, ACluster, AProcessor, making_by, making, ClassField, fields_of, has_execution, class_at, class_shape, number_at, written_at, Unwritten, unwritten_of, unwritten_number, place_among, has_role, is_constructor, same_role, event_place}
use Rattle.uc_tree.specs.Programs as whole
use Rattle.uc_tree.specs.Programs.{Class, Program}
use Rattle.uc_tree.specs.Source as src
use Rattle.uc_tree.specs.Source.{Shape, CleanUp, Stmts, Routine}
use Rattle.uc_resolve.specs.Standings as tree
use Rattle.uc_resolve.specs.Standings.{Meant}
use Rattle.uc_resolve.specs.Resolve as meaning
use Rattle.uc_resolve.specs.Resolve.{Scope, source_of, place_by, event_constructor}
use Rattle.uc_rules.specs.declared.rules.Sort.{Sort}
use Rattle.uc_rules.specs.declared.rules.Sort.TheVariants as sort
use Rattle.uc_rules.specs.Sorts.{class_sort, sort_of}
use Rattle.uc_rules.specs.ProgramVisits.{program_visits}
use Rattle.uc_typing.specs.Typing.{IsRoutine, IsScalarPlace}
use Rattle.uc_sound.specs.Agreement.{AreLike, is_numbered, found_ty}
use Rattle.uc_sound.specs.Agreement as agree
use Rattle.uc_sound.specs.Fields.{field_ty}
use Rattle.uc_sound.specs.SoundFormed.{IsFormed}
use Rattle.uc_sound.specs.Tables.{all_sigs, table_of}
use Rattle.uc_sound.specs.Told as told
use Rattle.uc_sound.specs.Told.{TellsMaker}
use Rattle.uc_sound.specs.Unbroken.{Unbroken}
use Rattle.uc_sound.proofs.BodyLemmas.{InStep, is_written, nobody_wrote, in_step, count_is}
use Rattle.uc_sound.proofs.ClassLemmas.{law_told}
use Rattle.uc_sound.proofs.ClassNames.{number_of, event_at}
use Rattle.uc_sound.proofs.DeclaringLemmas.{made, making_is}
use Rattle.uc_sound.proofs.Lists.{left_is, right_is, both_are, within}
use Rattle.uc_sound.proofs.MemberLemmas.{numbered_place, tells_maker}
use Rattle.uc_sound.proofs.Origins.{Looked, looked, role_looked, event_looked}
use Rattle.uc_sound.proofs.Ties.{some_same, none_some, false_true}
use Rattle.uc_place_laws.specs.Opened.{role_number}
use Rattle.uc_putting_laws.specs.PuttingLaws.{special_of}
use Rattle.uc_life_laws.specs.Destroying.{IsScoped}
use Rattle.uc_parts_laws.specs.Parts.{AllParts}
use Rattle.uc_parts_laws.specs.Undoing.{IsField, IsElement, DestroysAt, IsEnded, IsUndone, Undoes, BuildsNone}
use Rattle.uc_parts_laws.proofs.Taking.{all_more}

-- lists

at_index : {A : Type 0} (xs : List A) (n : ℕ) → n < length xs → (x : A) × (slice_get xs n ≡ Some x)
at_index [] n h = let z : ⊥ = omega (arith, h) in absurd z
at_index (x ∷ xs) zero h = (x, refl)
at_index (x ∷ xs) (suc n) h = at_index xs n (omega (arith, h))

same_roles : (a b : Role) → same_role a b ≡ true → a ≡ b
same_roles role.Plain role.Plain h = refl
same_roles role.Constructor role.Constructor h = refl
same_roles role.Destructor role.Destructor h = refl
same_roles _ _ h = false_true h

-- what is found among those that nobody wrote is of the class and the role
found_among : (us : List Unwritten) (i : ℕ) (wanted : Role) (x : Unwritten) → slice_get us (place_among us i wanted) ≡ Some x → (x.class ≡ i) × (wanted ≡ x.role)
found_among [] i wanted x h = none_some h
found_among (u ∷ us) i wanted x h = by (nat_eq u.class i && same_role wanted u.role) refl h (found_among us i wanted x)
  where
    by : (b : Bool) → (nat_eq u.class i && same_role wanted u.role) ≡ b → slice_get (u ∷ us) (if b then 0 else suc (place_among us i wanted)) ≡ Some x → (slice_get us (place_among us i wanted) ≡ Some x → (x.class ≡ i) × (wanted ≡ x.role)) → (x.class ≡ i) × (wanted ≡ x.role)
    by true q h f =
        let e : u ≡ x = some_same h in
        (ap (λ (z : Unwritten). z.class) (sym e) ∙ eqb-true u.class i (left_is (nat_eq u.class i) (same_role wanted u.role) q), same_roles wanted u.role (right_is (nat_eq u.class i) (same_role wanted u.role) q) ∙ ap (λ (z : Unwritten). z.role) e)
    by false q h f = f h

none_like : (p : Program) (xs : List Param) → AreLike p [] xs → length xs ≡ 0
none_like p [] h = refl
none_like p (x ∷ xs) h = absurd h

-- the bodies of constructors and destructors

module _ (p : Program) where
  abbrev pub Of : (CleanUp → Type 0) → Stmts → Type 0
  Of P ss = AllParts (special_of p) P ss

  abbrev pub Bare : Stmts → Type 0
  Bare ss = Of (λ c. ⊥) ss

  field_started : (P : CleanUp → Type 0) (f : ClassField) (place : src.Expr) (args : List Meant) (rest : Stmts) → Of P rest → Of P (meaning.field_started p f place args rest)
  field_started P f place [] rest h = h
  field_started P f place (m ∷ ms) rest h = h

  enlivened : (P : CleanUp → Type 0) (b : Bool) → Of P (meaning.enlivened p b)
  enlivened P false = tt
  enlivened P true = tt

  ends : (P : CleanUp → Type 0) (o : Option Class) (i : ℕ) → Of P (meaning.construction_ends p o i)
  ends P None i = tt
  ends P (Some c) i = enlivened P (has_execution c.kind)

  -- what destroys a field, and an element of one
  called_own : (i : ℕ) (s : Shape) (n : ℕ) (r : Option ℕ) → DestroysAt IsField (meaning.called_by p i role.Destructor (src.OfObject (src.OwnField s n)) [] r)
  called_own i s n None = tt
  called_own i s n (Some r) = tt

  ended_own : (i : ℕ) (s : Shape) (n : ℕ) (r : Option ℕ) → DestroysAt IsField (meaning.ended_by p i (src.Load (src.OfObject (src.OwnField s n))) r)
  ended_own i s n None = tt
  ended_own i s n (Some r) = tt

  field_place : (m : Making) (s : Shape) (n : ℕ) → DestroysAt IsField (meaning.destroyed p m (src.OfObject (src.OwnField s n)))
  field_place (APlain i) s n = called_own i s n (written_at p i role.Destructor)
  field_place (AMutex i) s n = ended_own i s n (written_at p i role.Destructor)
  field_place ACluster s n = tt
  field_place AProcessor s n = tt

  called_each : (i k : ℕ) (z s : Shape) (n : ℕ) (r : Option ℕ) → DestroysAt (IsElement k) (meaning.called_by p i role.Destructor (src.Element k z (src.OfObject (src.OwnField s n)) (src.OfObject src.Counted)) [] r)
  called_each i k z s n None = refl
  called_each i k z s n (Some r) = refl

  ended_each : (i k : ℕ) (z s : Shape) (n : ℕ) (r : Option ℕ) → DestroysAt (IsElement k) (meaning.ended_by p i (src.Load (src.Element k z (src.OfObject (src.OwnField s n)) (src.OfObject src.Counted))) r)
  ended_each i k z s n None = refl
  ended_each i k z s n (Some r) = refl

  element_place : (m : Making) (k : ℕ) (s : Shape) (n : ℕ) → DestroysAt (IsElement k) (meaning.destroyed p m (meaning.counted_element p m k (src.OfObject (src.OwnField s n))))
  element_place (APlain i) k s n = called_each i k (meaning.made_shape p (APlain i)) s n (written_at p i role.Destructor)
  element_place (AMutex i) k s n = ended_each i k (meaning.made_shape p (AMutex i)) s n (written_at p i role.Destructor)
  element_place ACluster k s n = tt
  element_place AProcessor k s n = tt

  -- `D`: the scopes with which a destructor begins
  module _ (D : Stmts) (b : Bool) where
    abbrev IsWithin : Stmts → Type 0
    IsWithin ss = (x : CleanUp) → IsScoped x ss → IsScoped x D

    abbrev Undone : Stmts → Type 0
    Undone ss = Of (IsUndone b D) ss

    cleaned : (m : Making) (len : Option ℕ) (s : Shape) (n : ℕ) → IsScoped (meaning.clean_up p m len (src.OfObject (src.OwnField s n))) D → IsUndone b D (meaning.clean_up p m len (src.OfObject (src.OwnField s n)))
    cleaned m None s n h = (h, field_place m s n)
    cleaned m (Some k) s n h = (h, element_place m k s n)

    field_built : (m : Option Making) (f : ClassField) (len : Option ℕ) (s : Shape) (n : ℕ) (args : List Meant) (rest left : Stmts) → IsWithin (meaning.field_left p m len (src.OfObject (src.OwnField s n)) left) → (IsWithin left → Undone rest) → Undone (meaning.field_built p m f len (src.OfObject (src.OwnField s n)) args rest)
    field_built None f len s n args rest left w k = field_started (IsUndone b D) f (src.OfObject (src.OwnField s n)) args rest (k w)
    field_built (Some m) f len s n args rest left w k = (cleaned m len s n (w (meaning.clean_up p m len (src.OfObject (src.OwnField s n))) (inl refl)), k (λ x h. w x (inr h)))

    fields_built : (c : Class) (i : ℕ) (inits : List whole.Init) (s : Scope) (fs : List ClassField) (n : ℕ) (rest left : Stmts) → IsWithin (meaning.fields_left p c i fs n left) → Undone rest → Undone (meaning.fields_built p c i inits s fs n rest)
    fields_built c i inits s [] n rest left w h = h
    fields_built c i inits s (f ∷ fs) n rest left w h =
        field_built (meaning.field_making p f) f (meaning.length_in_class p c i f) (class_shape p i) n (meaning.init_args p s (meaning.init_named p inits f.declarator.name)) (meaning.fields_built p c i inits s fs (suc n) rest) (meaning.fields_left p c i fs (suc n) left) w (λ v. fields_built c i inits s fs (suc n) rest left v h)

    set_up : (x : Bool) (i : ℕ) (rest : Stmts) → (x ≡ true → IsScoped src.Forgets D) → Undone rest → Undone (meaning.set_up p x i rest)
    set_up false i rest f h = h
    set_up true i rest f h = (f refl, h)

    started_in : (x : Bool) (rest : Stmts) → Undone rest → Undone (meaning.started_in p x rest)
    started_in false rest h = h
    started_in true rest h = (tt, h)

    freed : (k : Kind) (i : ℕ) (rest : Stmts) → b ≡ is_mutex k → (is_mutex k ≡ true → IsScoped src.Ends D) → Undone rest → Undone (meaning.freed p k i rest)
    freed kind.Monitor i rest e f h = (subst (λ x. IsEnded x D) (sym e) (f refl), h)
    freed kind.Cormonitor i rest e f h = (subst (λ x. IsEnded x D) (sym e) (f refl), h)
    freed kind.Task i rest e f h = (subst (λ x. IsEnded x D) (sym e) (f refl), h)
    freed kind.Class i rest e f h = h
    freed kind.Coroutine i rest e f h = h
    freed kind.Event i rest e f h = h

  past_ending : (b : Bool) (rest : Stmts) (x : CleanUp) → IsScoped x rest → IsScoped x (meaning.ending p b rest)
  past_ending false rest x h = h
  past_ending true rest x h = inr h

  opens_ending : (b : Bool) (rest : Stmts) → b ≡ true → IsScoped src.Ends (meaning.ending p b rest)
  opens_ending true rest e = inl refl
  opens_ending false rest e = false_true e

  past_forgotten : (b : Bool) (rest : Stmts) (x : CleanUp) → IsScoped x rest → IsScoped x (meaning.forgotten p b rest)
  past_forgotten false rest x h = h
  past_forgotten true rest x h = inr h

  opens_forgotten : (b : Bool) (rest : Stmts) → b ≡ true → IsScoped src.Forgets (meaning.forgotten p b rest)
  opens_forgotten true rest e = inl refl
  opens_forgotten false rest e = false_true e

  constructs : (c : Class) (i : ℕ) (inits : List whole.Init) (s : Scope) (body end : Stmts) → Of (IsUndone (is_mutex c.kind) (meaning.destruction p (Some c) i end)) body → Of (IsUndone (is_mutex c.kind) (meaning.destruction p (Some c) i end)) (meaning.construction p (Some c) i inits s body)
  constructs c i inits s body end h =
      let b : Bool = is_mutex c.kind in
      let x : Bool = has_execution c.kind in
      let D : Stmts = meaning.destruction p (Some c) i end in
      let fields : Stmts = meaning.fields_left p c i (fields_of c.members) (leading_cells c.kind) (meaning.taken_down p x end) in
      freed D b c.kind i _ refl (λ e. opens_ending b (meaning.forgotten p x fields) e) (set_up D b x i _ (λ e. past_ending b (meaning.forgotten p x fields) src.Forgets (opens_forgotten x fields e)) (fields_built D b c i inits s (fields_of c.members) (leading_cells c.kind) _ (meaning.taken_down p x end) (λ y q. past_ending b (meaning.forgotten p x fields) y (past_forgotten x fields y q)) (started_in D b x body h)))

  -- a destructor builds nothing

  field_left : (m : Option Making) (len : Option ℕ) (place : src.Expr) (rest : Stmts) → Bare rest → Bare (meaning.field_left p m len place rest)
  field_left None len place rest h = h
  field_left (Some m) None place rest h = h
  field_left (Some m) (Some n) place rest h = h

  fields_left : (c : Class) (i : ℕ) (fs : List ClassField) (n : ℕ) (rest : Stmts) → Bare rest → Bare (meaning.fields_left p c i fs n rest)
  fields_left c i [] n rest h = h
  fields_left c i (f ∷ fs) n rest h = field_left (meaning.field_making p f) (meaning.length_in_class p c i f) (tree.field_place (class_shape p i) n tree.Own) (meaning.fields_left p c i fs (suc n) rest) (fields_left c i fs (suc n) rest h)

  taken_down : (b : Bool) (body : Stmts) → Bare body → Bare (meaning.taken_down p b body)
  taken_down false body h = h
  taken_down true body h = h

  forgotten : (b : Bool) (rest : Stmts) → Bare rest → Bare (meaning.forgotten p b rest)
  forgotten false rest h = h
  forgotten true rest h = h

  ending : (b : Bool) (rest : Stmts) → Bare rest → Bare (meaning.ending p b rest)
  ending false rest h = h
  ending true rest h = h

  destructs : (c : Class) (i : ℕ) (body : Stmts) → Bare body → Bare (meaning.destruction p (Some c) i body)
  destructs c i body h =
      ending (is_mutex c.kind) _ (forgotten (has_execution c.kind) _ (fields_left c i (fields_of c.members) (leading_cells c.kind) _ (taken_down (has_execution c.kind) body h)))

-- by the numbers of a class

module _ (p : Program) (formed : IsFormed p) (u : Unbroken (program_visits p)) (i : ℕ) (c : Class) (at : class_at p i ≡ Some c) (object : is_event c.kind ≡ false) where
  abbrev Body : Role → Routine → Type 0
  Body role.Plain x = Unit {0}
  Body role.Constructor x = (end : Stmts) → Of p (IsUndone (is_mutex c.kind) (meaning.destruction p (Some c) i end)) x.body
  Body role.Destructor x = ((end : Stmts) × (x.body ≡ meaning.destruction p (Some c) i end)) × Bare p x.body × (x.params ≡ 0)

  built : (o : Option Class) (inits : List whole.Init) (s : Scope) (a : src.Stmt) (end : Stmts) → o ≡ Some c → Of p (IsUndone (is_mutex c.kind) (meaning.destruction p (Some c) i end)) (meaning.construction p o i inits s (src.Then a (meaning.construction_ends p o i)))
  built o inits s a end e =
      subst (λ q. Of p (IsUndone (is_mutex c.kind) (meaning.destruction p (Some c) i end)) (meaning.construction p q i inits s (src.Then a (meaning.construction_ends p q i)))) (sym e) (constructs p c i inits s (src.Then a (meaning.construction_ends p (Some c) i)) end (ends p (IsUndone (is_mutex c.kind) (meaning.destruction p (Some c) i end)) (Some c) i))

  unwritten_built : (o : Option Class) (inits : List whole.Init) (s : Scope) (end : Stmts) → o ≡ Some c → Of p (IsUndone (is_mutex c.kind) (meaning.destruction p (Some c) i end)) (meaning.construction p o i inits s (meaning.construction_ends p o i))
  unwritten_built o inits s end e =
      subst (λ q. Of p (IsUndone (is_mutex c.kind) (meaning.destruction p (Some c) i end)) (meaning.construction p q i inits s (meaning.construction_ends p q i))) (sym e) (constructs p c i inits s (meaning.construction_ends p (Some c) i) end (ends p (IsUndone (is_mutex c.kind) (meaning.destruction p (Some c) i end)) (Some c) i))

  destroyed : (o : Option Class) (end : Stmts) → o ≡ Some c → Bare p end → ((e : Stmts) × (meaning.destruction p o i end ≡ meaning.destruction p (Some c) i e)) × Bare p (meaning.destruction p o i end)
  destroyed o end e h = ((end, ap (λ q. meaning.destruction p q i end) e), subst (λ q. Bare p (meaning.destruction p q i end)) (sym e) (destructs p c i end h))

  abbrev ScopeBody : Role → Stmts → Type 0
  ScopeBody role.Plain ss = Unit {0}
  ScopeBody role.Constructor ss = (end : Stmts) → Of p (IsUndone (is_mutex c.kind) (meaning.destruction p (Some c) i end)) ss
  ScopeBody role.Destructor ss = ((end : Stmts) × (ss ≡ meaning.destruction p (Some c) i end)) × Bare p ss

  body_in : (x : Role) (r : whole.Routine) (s : Scope) → s.class ≡ Some i → ScopeBody x (meaning.body_by p x r s)
  body_in role.Plain r s e = tt
  body_in role.Constructor r s e = λ end.
      subst (λ o. Of p (IsUndone (is_mutex c.kind) (meaning.destruction p (Some c) i end)) (meaning.construction p (meaning.class_by p o) (meaning.place_or_zero p o) r.inits s (src.Then (src.Whole r.brace.line (meaning.stmts_meant p r.body s)) (meaning.construction_ends p (meaning.class_by p o) (meaning.place_or_zero p o))))) (sym e) (built (class_at p i) r.inits s (src.Whole r.brace.line (meaning.stmts_meant p r.body s)) end at)
  body_in role.Destructor r s e =
      subst (λ o. ((end : Stmts) × (meaning.destruction p (meaning.class_by p o) (meaning.place_or_zero p o) (src.Then (src.Whole r.brace.line (meaning.stmts_meant p r.body s)) src.Nil) ≡ meaning.destruction p (Some c) i end)) × Bare p (meaning.destruction p (meaning.class_by p o) (meaning.place_or_zero p o) (src.Then (src.Whole r.brace.line (meaning.stmts_meant p r.body s)) src.Nil))) (sym e) (destroyed (class_at p i) (src.Then (src.Whole r.brace.line (meaning.stmts_meant p r.body s)) src.Nil) at tt)

  unwritten_in : (x : Role) → ScopeBody x (meaning.unwritten_body p x i)
  unwritten_in role.Plain = tt
  unwritten_in role.Constructor = λ end. unwritten_built (class_at p i) [] (meaning.nowhere p) end at
  unwritten_in role.Destructor = destroyed (class_at p i) src.Nil at tt

  as_body : (wanted : Role) (x : Routine) → (wanted ≡ role.Destructor → x.params ≡ 0) → ScopeBody wanted x.body → Body wanted x
  as_body role.Plain x f h = tt
  as_body role.Constructor x f h = h
  as_body role.Destructor x f h = (h.0, h.1, f refl)

  -- one that somebody wrote
  written : (wanted : Role) → is_plain wanted ≡ false → (r : ℕ) → written_at p i wanted ≡ Some r → (x : Routine) → slice_get (source_of p).routines r ≡ Some x → Body wanted x
  written wanted plain r e x is =
      let n = number_at p i in
      let k : Looked (has_role n wanted) (routines_of p) 0 (Some r) = looked (has_role n wanted) (routines_of p) 0 r (sym (role_looked (routines_of p) 0 n wanted) ∙ e) in
      let q : k.n ≡ r = let z = some_same k.found in omega (arith, z) in
      let there : slice_get (routines_of p) r ≡ Some k.defined = ap (slice_get (routines_of p)) (sym q) ∙ k.at in
      by k.defined there (eqb-true k.defined.number n (left_is (nat_eq k.defined.number n) (same_role wanted k.defined.routine.sig.role) k.passes)) (same_roles wanted k.defined.routine.sig.role (right_is (nat_eq k.defined.number n) (same_role wanted k.defined.routine.sig.role) k.passes)) (in_step p r x is)
    where
      few : (d : Defined) → slice_get (routines_of p) r ≡ Some d → wanted ≡ role.Destructor → length d.routine.sig.params ≡ 0
      few d there q =
          let m : TellsMaker (table_of p) p i wanted = tells_maker p formed u i c wanted at object plain in
          let l = subst (λ w. AreLike p (told.role_params p i w) (tree.params_of p r)) q (m.written r e).params in
          subst (λ o. length (tree.params_in o) ≡ 0) there (none_like p (tree.params_of p r) l)

      by : (d : Defined) → slice_get (routines_of p) r ≡ Some d → d.number ≡ number_at p i → wanted ≡ d.routine.sig.role → InStep p (routines_of p) (unwritten_of p) r r x (slice_get (all_sigs p) r) → Body wanted x
      by d there number same (is_written y texts sites at' q o) =
          let e : y ≡ d = some_same (sym at' ∙ there) in
          let place : place_by p y ≡ Some i = numbered_place p formed u i y (number_of p u i c formed.classes at object) (ap (λ (z : Defined). z.number) e ∙ number) in
          let s : Scope = meaning.routine_scope p y.routine (place_by p y) r texts sites in
          let role_is : wanted ≡ y.routine.sig.role = same ∙ ap (λ (z : Defined). z.routine.sig.role) (sym e) in
          let body : ScopeBody wanted (meaning.body_by p y.routine.sig.role y.routine s) = subst (λ z. ScopeBody wanted (meaning.body_by p z y.routine s)) role_is (body_in wanted y.routine s place) in
          as_body wanted x (λ z. ap (λ (v : Routine). v.params) q ∙ few y (there ∙ ap Some (sym e)) z) (subst (λ (v : Routine). ScopeBody wanted v.body) (sym q) body)
      by d there number same (nobody_wrote y m k at' q o) =
          let l = within (routines_of p) r d there in
          let z : ⊥ = omega (arith, l, k) in absurd z

  -- one that nobody wrote
  unwritten : (wanted : Role) (x : Routine) → slice_get (source_of p).routines (unwritten_number p i wanted) ≡ Some x → Body wanted x
  unwritten wanted x is = by (in_step p (unwritten_number p i wanted) x is)
    where
      by : InStep p (routines_of p) (unwritten_of p) (unwritten_number p i wanted) (unwritten_number p i wanted) x (slice_get (all_sigs p) (unwritten_number p i wanted)) → Body wanted x
      by (is_written y texts sites at' q o) =
          let l = within (routines_of p) (unwritten_number p i wanted) y at' in
          let z : ⊥ = omega (arith, l) in absurd z
      by (nobody_wrote y m k at' q o) =
          let same : m ≡ place_among (unwritten_of p) i wanted = omega (arith, k) in
          let f = found_among (unwritten_of p) i wanted y (subst (λ m. slice_get (unwritten_of p) m ≡ Some y) same at') in
          let body : ScopeBody wanted (meaning.unwritten_body p y.role y.class) = subst (λ z. ScopeBody wanted (meaning.unwritten_body p z y.class)) f.1 (subst (λ z. ScopeBody wanted (meaning.unwritten_body p wanted z)) (sym f.0) (unwritten_in wanted)) in
          as_body wanted x (λ z. ap (λ (v : Routine). v.params) q) (subst (λ (v : Routine). ScopeBody wanted v.body) (sym q) body)

  numbered : (wanted : Role) → is_plain wanted ≡ false → (o : Option ℕ) → written_at p i wanted ≡ o → (x : Routine) → slice_get (source_of p).routines (role_number p i wanted o) ≡ Some x → Body wanted x
  numbered wanted plain None e x is = unwritten wanted x is
  numbered wanted plain (Some r) e x is = written wanted plain r e x is

  -- it is there
  known : (wanted : Role) → is_plain wanted ≡ false → (o : Option ℕ) → written_at p i wanted ≡ o → (x : Routine) × (slice_get (source_of p).routines (role_number p i wanted o) ≡ Some x)
  known wanted plain o e = at_index (source_of p).routines (role_number p i wanted o) (subst (λ n. role_number p i wanted o < n) (sym (count_is p)) (low o e))
    where
      low : (o : Option ℕ) → written_at p i wanted ≡ o → IsRoutine (table_of p) (role_number p i wanted o)
      low None e = (tells_maker p formed u i c wanted at object plain).unwritten_known e
      low (Some r) e = ((tells_maker p formed u i c wanted at object plain).written r e).known

  -- the destructor undoes what the constructor builds, and builds nothing
  pub undoes : (x y : Option ℕ) → written_at p i role.Constructor ≡ x → written_at p i role.Destructor ≡ y → Undoes (source_of p) (special_of p) (is_mutex c.kind) (role_number p i role.Constructor x) (role_number p i role.Destructor y)
  undoes x y e f =
      let d = known role.Destructor refl y f in
      let h : Body role.Destructor d.0 = numbered role.Destructor refl y f d.0 d.1 in
      record {
        destructor = d.0;
        known = d.1;
        params = h.2;
        undone = λ r is. subst (λ ss. Of p (IsUndone (is_mutex c.kind) ss) r.body) (sym h.0.1) (numbered role.Constructor refl x e r is h.0.0);
      }

  pub destroys_only : (y : Option ℕ) → written_at p i role.Destructor ≡ y → BuildsNone (source_of p) (special_of p) (role_number p i role.Destructor y)
  destroys_only y f = λ q x is. (numbered role.Destructor refl y f x is).1

-- what undoes an object of no mutex class would undo one of a mutex class
pub as_mutex : (p : Program) (b : Bool) (r d : ℕ) → Undoes (source_of p) (special_of p) b r d → Undoes (source_of p) (special_of p) true r d
as_mutex p b r d h = record { destructor = h.destructor; known = h.known; params = h.params; undone = λ x e. all_more (special_of p) (IsUndone b h.destructor.body) (IsUndone true h.destructor.body) (more b) x.body (h.undone x e) }
  where
    more : (b : Bool) (c : CleanUp) → IsUndone b h.destructor.body c → IsUndone true h.destructor.body c
    more true c k = k
    more false src.Ends k = absurd k
    more false c k = k

-- events have no parts

none_scalar : (s : Sort) → IsScalarPlace (agree.place_ty s) → made s ≡ None
none_scalar sort.Void h = refl
none_scalar sort.Int h = refl
none_scalar sort.Char h = refl
none_scalar sort.Bool h = refl
none_scalar sort.Condition h = refl
none_scalar sort.Cluster h = absurd h
none_scalar sort.Processor h = absurd h
none_scalar (sort.Object i kind.Class) h = absurd h
none_scalar (sort.Object i kind.Coroutine) h = absurd h
none_scalar (sort.Object i kind.Monitor) h = absurd h
none_scalar (sort.Object i kind.Cormonitor) h = absurd h
none_scalar (sort.Object i kind.Task) h = absurd h
none_scalar (sort.Object i kind.Event) h = refl

no_class : (cs : List Class) (i : ℕ) (name : List ℕ) → class_sort cs i name ≡ None → object_named cs i name ≡ None
no_class [] i name h = refl
no_class (c ∷ cs) i name h = by (same_name c.name name) (no_class cs (i + 1) name) h
  where
    by : (b : Bool) → (class_sort cs (i + 1) name ≡ None → object_named cs (i + 1) name ≡ None) → (if b then Some (sort.Object i c.kind) else class_sort cs (i + 1) name) ≡ None → (if b then cells.object_of_kind i c.kind else object_named cs (i + 1) name) ≡ None
    by true f h = none_some (sym h)
    by false f h = f h

no_making : (p : Program) (b : Base) → sort_of p b ≡ None → making p b ≡ None
no_making p (base.Named name) h = ap (λ o. making_by o (base.Named name)) (no_class (classes_of p.items) 0 name h)
no_making p base.Void h = none_some (sym h)
no_making p base.Int h = none_some (sym h)
no_making p base.Char h = none_some (sym h)
no_making p base.Bool h = none_some (sym h)
no_making p base.Condition h = none_some (sym h)
no_making p base.Cluster h = none_some (sym h)
no_making p base.Processor h = none_some (sym h)

module _ (p : Program) (formed : IsFormed p) (u : Unbroken (program_visits p)) where
  event_making : (i : ℕ) (c : Class) → class_at p i ≡ Some c → is_event c.kind ≡ true → (n : ℕ) (f : ClassField) → slice_get (fields_of c.members) n ≡ Some f → meaning.field_making p f ≡ None
  event_making i c at v n f e = by f.declarator.by_ref (λ s q. subst IsScalarPlace (((law_told p formed u).classes i c at).fields n f s e q) ((law_told p formed u).bare i c at v (leading_cells c.kind + n)))
    where
      sorted : (l : Option expr.Expr) (k : ℕ) (o : Option Sort) → sort_of p f.base ≡ o → ((s : Sort) → sort_of p f.base ≡ Some s → IsScalarPlace (field_ty false l k s)) → making p f.base ≡ None
      sorted l k None q g = no_making p f.base q
      sorted None k (Some s) q g = making_is p f.base s q ∙ none_scalar s (g s q)
      sorted (Some x) k (Some s) q g = absurd (g s q)

      by : (b : Bool) → ((s : Sort) → sort_of p f.base ≡ Some s → IsScalarPlace (field_ty b f.declarator.len (constants.elements (cells.seen_in (constants.constants_of p.items) c) f.declarator) s)) → (if b then None else making p f.base) ≡ None
      by true g = refl
      by false g = sorted f.declarator.len (constants.elements (cells.seen_in (constants.constants_of p.items) c) f.declarator) (sort_of p f.base) refl g

  event_fields : (c : Class) (i : ℕ) (inits : List whole.Init) (s : Scope) (fs : List ClassField) (n : ℕ) (rest : Stmts) → ((m : ℕ) (f : ClassField) → slice_get fs m ≡ Some f → meaning.field_making p f ≡ None) → Bare p rest → Bare p (meaning.fields_built p c i inits s fs n rest)
  event_fields c i inits s [] n rest g h = h
  event_fields c i inits s (f ∷ fs) n rest g h =
      let args : List Meant = meaning.init_args p s (meaning.init_named p inits f.declarator.name) in
      let later : Stmts = meaning.fields_built p c i inits s fs (suc n) rest in
      let place : src.Expr = tree.field_place (class_shape p i) n tree.Own in
      subst (λ m. Bare p (meaning.field_built p m f (meaning.length_in_class p c i f) place args later)) (sym (g 0 f refl)) (field_started p (λ c. ⊥) f place args later (event_fields c i inits s fs (suc n) rest (λ m x q. g (suc m) x q) h))

  event_construction : (c : Class) (i : ℕ) (inits : List whole.Init) (s : Scope) (body : Stmts) → class_at p i ≡ Some c → is_event c.kind ≡ true → Bare p body → Bare p (meaning.construction p (Some c) i inits s body)
  event_construction c i inits s body at v h = by c.kind v (event_fields c i inits s (fields_of c.members) (leading_cells c.kind) body (λ n f e. event_making i c at v n f e) h)
    where
      by : (k : Kind) → is_event k ≡ true → Bare p (meaning.fields_built p c i inits s (fields_of c.members) (leading_cells c.kind) body) → Bare p (meaning.freed p k i (meaning.set_up p (has_execution k) i (meaning.fields_built p c i inits s (fields_of c.members) (leading_cells c.kind) (meaning.started_in p (has_execution k) body))))
      by kind.Event v h = h
      by kind.Class v h = false_true v
      by kind.Coroutine v h = false_true v
      by kind.Monitor v h = false_true v
      by kind.Cormonitor v h = false_true v
      by kind.Task v h = false_true v

  event_body : (name : List ℕ) (o : Option ℕ) → event_place p (base.Named name) ≡ o → (r : whole.Routine) (s : Scope) → Bare p (meaning.construction p (meaning.class_by p o) (meaning.place_or_zero p o) r.inits s (src.Then (src.Whole r.brace.line (meaning.stmts_meant p r.body s)) (meaning.construction_ends p (meaning.class_by p o) (meaning.place_or_zero p o))))
  event_body name None e r s = tt
  event_body name (Some j) e r s =
      let x = event_at (classes_of p.items) 0 name j e in
      let same : x.n ≡ j = let z = x.place in omega (arith, z) in
      let at : class_at p j ≡ Some x.class = subst (λ n. slice_get (classes_of p.items) n ≡ Some x.class) same x.at in
      let body : src.Stmt = src.Whole r.brace.line (meaning.stmts_meant p r.body s) in
      subst (λ q. Bare p (meaning.construction p q j r.inits s (src.Then body (meaning.construction_ends p q j)))) (sym at) (event_construction x.class j r.inits s (src.Then body (meaning.construction_ends p (Some x.class) j)) at x.event (ends p (λ c. ⊥) (Some x.class) j))

  pub event_builds : (r : ℕ) (name : List ℕ) → event_constructor p name ≡ Some r → BuildsNone (source_of p) (special_of p) r
  event_builds r name e special x is =
      let k : Looked (λ d. nat_eq d.number 0 && (is_constructor d.routine.sig.role && same_name d.routine.sig.name name)) (routines_of p) 0 (Some r) = looked (λ d. nat_eq d.number 0 && (is_constructor d.routine.sig.role && same_name d.routine.sig.name name)) (routines_of p) 0 r (sym (event_looked (routines_of p) 0 name) ∙ e) in
      let d = k.defined in
      let q : k.n ≡ r = let z = some_same k.found in omega (arith, z) in
      let there : slice_get (routines_of p) r ≡ Some d = ap (slice_get (routines_of p)) (sym q) ∙ k.at in
      let rest : (is_constructor d.routine.sig.role && same_name d.routine.sig.name name) ≡ true = right_is (nat_eq d.number 0) (is_constructor d.routine.sig.role && same_name d.routine.sig.name name) k.passes in
      by d there (left_is (nat_eq d.number 0) (is_constructor d.routine.sig.role && same_name d.routine.sig.name name) k.passes) (left_is (is_constructor d.routine.sig.role) (same_name d.routine.sig.name name) rest) (in_step p r x is)
    where
      built : (y : Defined) → (place_by p y ≡ event_place p (base.Named y.routine.sig.name)) → (s : Scope) → s.class ≡ place_by p y → (w : Role) → is_constructor w ≡ true → Bare p (meaning.body_by p w y.routine s)
      built y place s c role.Constructor v =
          subst (λ o. Bare p (meaning.construction p (meaning.class_by p o) (meaning.place_or_zero p o) y.routine.inits s (src.Then (src.Whole y.routine.brace.line (meaning.stmts_meant p y.routine.body s)) (meaning.construction_ends p (meaning.class_by p o) (meaning.place_or_zero p o))))) (sym (c ∙ place)) (event_body y.routine.sig.name (event_place p (base.Named y.routine.sig.name)) refl y.routine s)
      built y place s c role.Plain v = false_true v
      built y place s c role.Destructor v = false_true v

      by : (d : Defined) → slice_get (routines_of p) r ≡ Some d → nat_eq d.number 0 ≡ true → is_constructor d.routine.sig.role ≡ true → InStep p (routines_of p) (unwritten_of p) r r x (slice_get (all_sigs p) r) → Bare p x.body
      by d there number builds (is_written y texts sites at' q o) =
          let e : y ≡ d = some_same (sym at' ∙ there) in
          let z : nat_eq y.number 0 ≡ true = ap (λ (z : Defined). nat_eq z.number 0) e ∙ number in
          let w : is_constructor y.routine.sig.role ≡ true = ap (λ (z : Defined). is_constructor z.routine.sig.role) e ∙ builds in
          let place : place_by p y ≡ event_place p (base.Named y.routine.sig.name) = ap (λ (b : Bool). if b then event_place p (base.Named y.routine.sig.name) else objects.place_of p y.number) (both_are (nat_eq y.number 0) (is_constructor y.routine.sig.role) z w) in
          subst (λ (v : Routine). Bare p v.body) (sym q) (built y place (meaning.routine_scope p y.routine (place_by p y) r texts sites) refl y.routine.sig.role w)
      by d there number builds (nobody_wrote y m k at' q o) =
          let l = within (routines_of p) r d there in
          let z : ⊥ = omega (arith, l, k) in absurd z
