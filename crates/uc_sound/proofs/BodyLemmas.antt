-- The bodies of routines: what their parameters are, and the signatures and the resolved routines in step.
use Rattle.std.proofs.Common.{◌≡◌, ℕ, zero, suc, ◌+◌, ◌≤◌, ◌++◌, inl, inr, List, [], ◌∷◌, length, Option, Some, None, Bool, true, false, refl, sym, ap, ◌∙◌, subst, arith, map}
use Rattle.std.specs.Prelude.{◌&&◌, slice_get, if◌then◌else◌, nat_eq, option_map}
use Rattle.std.proofs.lemmas.Bool.{eqb-true}
use Rattle.uc_tree.specs.declared.kinds.Base.{Base}
use Rattle.uc_tree.specs.declared.kinds.Base.TheVariants as base
use Rattle.uc_tree.specs.declared.kinds.LocalVariable.{LocalVariable}
use Rattle.uc_tree.specs.declared.kinds.Owner.{Owner}
use Rattle.uc_tree.specs.declared.kinds.Owner.TheVariants as owner
use Rattle.uc_tree.specs.declared.kinds.Param.{Param}
use Rattle.uc_tree.specs.Names.{same_name}
use Rattle.uc_tree.specs.Cells.{classes_of, class_cells, object_of, params_cells, param_cells}
use Rattle.uc_tree.specs.Rows.{element_cells}
use Rattle.uc_tree.specs.Gathered.{gathered_all}
use Rattle.uc_tree.specs.Numbering.{main_name, is_plain, own_texts, own_sites, Defined, defined_by, item_defined, items_defined, routines_of}
use Rattle.uc_tree.specs.Objects.{unwritten_of, Unwritten}
use Rattle.uc_tree.specs.ProgramMain as program
use Rattle.uc_tree.specs.ProgramMain.{main_among, main_number, is_main_item, is_main_sig, returns_as_main, no_params}
use Rattle.uc_tree.specs.Programs.{Sig as Declared, Routine as Body, Class, Item, ClassItem, RoutineItem, ConstItem, ProtoItem, ForwardItem, UsingItem, Program}
use Rattle.uc_tree.specs.Source.{Routine}
use Rattle.uc_machine.specs.Pieces.{LAST_ADDRESS}
use Rattle.uc_resolve.specs.Standings.{known_meant}
use Rattle.uc_resolve.specs.Resolve.{param_known, params_known, routine_scope, place_by, routine_meant, routines_meant, unwritten_meant, all_unwritten, source_of}
use Rattle.uc_rules.specs.declared.rule.Rule.TheVariants.{S2, S3, S11, O4}
use Rattle.uc_rules.specs.declared.rules.Entity.TheVariants as entity
use Rattle.uc_rules.specs.declared.rules.Sort.{Sort}
use Rattle.uc_rules.specs.declared.rules.Sort.TheVariants as sort
use Rattle.uc_rules.specs.Asked.{unless}
use Rattle.uc_rules.specs.Sorts.{is_condition, is_scalar_sort, class_sort, sort_of}
use Rattle.uc_rules.specs.Scopes.{Env, param_seen, place_of, with_param, with_params}
use Rattle.uc_rules.specs.ClassBreaks.{is_param_sort, param_breaks, is_void_base}
use Rattle.uc_rules.specs.ItemBreaks.{is_program_main, is_main_base, is_int_base, mains_in, main_breaks}
use Rattle.uc_rules.specs.ExpressionBreaks.{is_new}
use Rattle.uc_rules.specs.OwnerBreaks.{shared_breaks, is_no_condition_sort}
use Rattle.uc_rules.specs.Visits.{AtBase, AtParam}
use Rattle.uc_rules.specs.ProgramVisits.{program_visits, params_visits}
use Rattle.uc_rules.specs.Breaks.{breaks_at}
use Rattle.uc_typing.specs.Typing.{Ty, Num, Cell, Name, Sig, Table, IsParam, IsPlaced}
use Rattle.uc_sound.specs.Agreement.{is_numbered, found_ty, sort_ty, param_ty, Agrees, AgreesIf}
use Rattle.uc_sound.specs.Declarations.{StoodBy}
use Rattle.uc_sound.specs.Unbroken.{Unbroken}
use Rattle.uc_sound.proofs.Ties.{some_same, none_some, false_true, scalar_cell, scalar_unnumbered}
use Rattle.uc_sound.proofs.UnbrokenLemmas.{none_left, none_right, second, holds}
use Rattle.uc_sound.proofs.DeclarationsLemmas.{law_declared}
use Rattle.uc_sound.specs.Tables.{routine_sig_in, written_sigs, unwritten_sig, unwritten_sigs, all_sigs, table_of}
use Rattle.uc_sound.specs.Rooted.{IsStood, Within}
use Rattle.uc_sound.proofs.Lists.{left_is, right_is, both_are, not_is, get_right}
use Rattle.uc_sound.proofs.Visited.{sort_holds, base_known}
use Rattle.uc_sound.proofs.DeclaringLemmas.{within_more}

-- parameters

no_scalar : (cs : List Class) (i : ℕ) (name : List ℕ) (s : Sort) → class_sort cs i name ≡ Some s → is_scalar_sort s ≡ false
no_scalar [] i name s h = none_some h
no_scalar (c ∷ cs) i name s h = by (same_name c.name name) (no_scalar cs (i + 1) name s) h
  where
    by : (b : Bool) → (class_sort cs (i + 1) name ≡ Some s → is_scalar_sort s ≡ false) → (if b then Some (sort.Object i c.kind) else class_sort cs (i + 1) name) ≡ Some s → is_scalar_sort s ≡ false
    by true ih e = ap is_scalar_sort (sym (some_same e))
    by false ih e = ih e

-- a scalar has one cell
scalar_object : (p : Program) (b : Base) (s : Sort) → sort_of p b ≡ Some s → is_scalar_sort s ≡ true → object_of (classes_of p.items) b ≡ None
scalar_object p base.Void s h k = refl
scalar_object p base.Int s h k = refl
scalar_object p base.Char s h k = refl
scalar_object p base.Bool s h k = refl
scalar_object p base.Condition s h k = refl
scalar_object p base.Cluster s h k = refl
scalar_object p base.Processor s h k = refl
scalar_object p (base.Named name) s h k = false_true (sym (no_scalar (classes_of p.items) 0 name s h) ∙ k)

-- what the rules ask of a parameter
record ParamRules (p : Program) (x : Param) : Type 0 where
  sort : Sort
  base : sort_of p x.base ≡ Some sort
  fits : is_param_sort x.by_ref sort ≡ true
  plain : is_condition sort ≡ false

param_rules : (env : Env) (x : Param) → breaks_at (AtBase env x.pos x.base) ≡ [] → breaks_at (AtParam env x) ≡ [] → ParamRules env.program x
param_rules env x h k =
    let r = base_known env x.pos x.base h in
    let k1 = none_right (unless (is_new env x.name) S2 x.pos) _ k in
    let k2 = none_right (param_breaks env x) _ k1 in
    let k3 = none_right (shared_breaks env x) _ k2 in
    record {
      sort = r.0;
      base = r.1;
      fits = sort_holds (sort_of env.program x.base) r.0 (is_param_sort x.by_ref) S11 x.pos _ r.1 k1;
      plain = not_is (is_condition r.0) (sort_holds (sort_of env.program x.base) r.0 is_no_condition_sort O4 x.pos _ r.1 k3);
    }

one_cell : (p : Program) (x : Param) → ParamRules p x → param_cells p x ≡ 1
one_cell p x r = by x.by_ref r.fits
  where
    by : (b : Bool) → is_param_sort b r.sort ≡ true → (if b then 1 else element_cells (class_cells p) (object_of (classes_of p.items) x.base)) ≡ 1
    by true f = refl
    by false f = ap (element_cells (class_cells p)) (scalar_object p x.base r.sort r.base f)

pub is_param : (f : Param → Ty) (xs : List Param) (k : ℕ) (x : Param) → slice_get xs k ≡ Some x → IsParam (map f xs) k (f x)
is_param f [] k x e = none_some e
is_param f (y ∷ xs) zero x e = ap f (sym (some_same e))
is_param f (y ∷ xs) (suc k) x e = is_param f xs k x e

append_more : {A : Type 0} (xs : List A) (y : A) (ys : List A) → (xs ++ y ∷ []) ++ ys ≡ xs ++ y ∷ ys
append_more [] y ys = refl
append_more (x ∷ xs) y ys = ap (λ z. x ∷ z) (append_more xs y ys)

module _ (t : Table) (g : Sig) (refers : t.refers ≡ true) (sc : List Name) where
  -- these are its parameters from a cell on
  abbrev pub AreParams : Program → ℕ → List Param → Type 0
  AreParams p cell xs = (k : ℕ) (x : Param) (c : ℕ) → cell + k ≡ c → slice_get xs k ≡ Some x → IsParam g.params c (param_ty p x) × (c ≤ LAST_ADDRESS)

  param_agrees : (p : Program) (cell : ℕ) (x : Param) (r : ParamRules p x) → IsParam g.params cell (param_ty p x) → cell ≤ LAST_ADDRESS → AgreesIf t g sc p (option_map place_of (sort_of p x.base)) (known_meant p (param_known p cell x))
  param_agrees p cell x r h l w q =
      let same : entity.Place r.sort ≡ w = some_same (sym (ap (option_map place_of) r.base) ∙ q) in
      subst (λ w. Agrees t g sc p w (known_meant p (param_known p cell x))) same (by x.by_ref refl r.fits (subst (IsParam g.params cell) (ap (λ o. if x.by_ref then sort_ty o else Num) r.base) h))
    where
      by : (b : Bool) → x.by_ref ≡ b → is_param_sort b r.sort ≡ true → IsParam g.params cell (if x.by_ref then found_ty r.sort else Num) → Agrees t g sc p (entity.Place r.sort) (known_meant p (param_known p cell x))
      by true e f h =
          (law_declared t g sc refers p).reference (param_known p cell x) r.sort r.base r.plain e refl (subst (λ (b : Bool). IsParam g.params cell (if b then found_ty r.sort else Num)) e h) l
      by false e f h =
          let n : is_numbered r.sort ≡ false = scalar_unnumbered r.sort f in
          let c : found_ty r.sort ≡ Cell Num = scalar_cell r.sort f in
          let h1 : IsParam g.params cell Num = subst (λ (b : Bool). IsParam g.params cell (if b then found_ty r.sort else Num)) e h in
          (law_declared t g sc refers p).variable (param_known p cell x) r.sort r.base r.plain e refl (subst (λ n. StoodBy t g sc n cell (found_ty r.sort)) (sym n) (inr (inl (h1, c)), subst (λ a. IsPlaced t a) (sym c) tt))

  param_stood : (p : Program) (x : Param) → ParamRules p x → IsStood (option_map place_of (sort_of p x.base))
  param_stood p x r = subst (λ o. IsStood (option_map place_of o)) (sym r.base) tt

  pub params_within : (xs : List Param) (cell : ℕ) (env : Env) (class : Option ℕ) (names : List LocalVariable) → AreParams env.program cell xs → Unbroken (params_visits env xs) → Within t g sc env class names → Within t g sc (with_params env xs) class (names ++ params_known env.program cell xs)
  params_within [] cell env class names a u h = subst (Within t g sc env class) (none_more names) h
    where
      none_more : {A : Type 0} (xs : List A) → xs ≡ xs ++ []
      none_more [] = refl
      none_more (x ∷ xs) = ap (λ z. x ∷ z) (none_more xs)
  params_within (x ∷ xs) cell env class names a u h =
      let p = env.program in
      let r = param_rules env x (none_left (breaks_at (AtBase env x.pos x.base)) _ u) (none_left (breaks_at (AtParam env x)) _ (none_right (breaks_at (AtBase env x.pos x.base)) _ u)) in
      let q = a 0 x cell (omega arith) refl in
      let w = within_more t g refers sc env class names (param_seen p x) (param_known p cell x) refl (param_agrees p cell x r q.0 q.1) (param_stood p x r) h in
      let rest = params_within xs (cell + 1) (with_param env x) class (names ++ param_known p cell x ∷ []) (λ k y c e f. a (suc k) y c (omega (arith, e)) f) (second (AtBase env x.pos x.base ∷ (AtParam env x ∷ [])) (params_visits (with_param env x) xs) u) w in
      let next : cell + 1 ≡ cell + param_cells p x = ap (λ n. cell + n) (sym (one_cell p x r)) in
      subst (λ c. Within t g sc (with_params (with_param env x) xs) class (names ++ param_known p cell x ∷ params_known p c xs)) next (subst (Within t g sc (with_params (with_param env x) xs) class) (append_more names (param_known p cell x) (params_known p (cell + 1) xs)) rest)

pub params_one : (xs : List Param) (env : Env) → Unbroken (params_visits env xs) → params_cells env.program xs ≡ length xs
params_one [] env u = refl
params_one (x ∷ xs) env u =
    let p = env.program in
    let r = param_rules env x (none_left (breaks_at (AtBase env x.pos x.base)) _ u) (none_left (breaks_at (AtParam env x)) _ (none_right (breaks_at (AtBase env x.pos x.base)) _ u)) in
    let a = one_cell p x r in
    let b = params_one xs (with_param env x) (second (AtBase env x.pos x.base ∷ (AtParam env x ∷ [])) (params_visits (with_param env x) xs) u) in
    omega (arith, a, b)

-- signatures and routines in step

module _ (p : Program) where
  pub data InStep (ds : List Defined) (us : List Unwritten) (k n : ℕ) (r : Routine) (o : Option Sig) : Type 0 where
    is_written : (d : Defined) (texts sites : ℕ) → slice_get ds k ≡ Some d → r ≡ routine_meant p d.routine (routine_scope p d.routine (place_by p d) n texts sites) → o ≡ Some (routine_sig_in p d (routine_scope p d.routine (place_by p d) n texts sites)) → InStep ds us k n r o
    nobody_wrote : (x : Unwritten) (m : ℕ) → k ≡ length ds + m → slice_get us m ≡ Some x → r ≡ unwritten_meant p x → o ≡ Some (unwritten_sig p x) → InStep ds us k n r o

  unwritten_step : (us : List Unwritten) (k : ℕ) (r : Routine) → slice_get (all_unwritten p us) k ≡ Some r → (x : Unwritten) × (slice_get us k ≡ Some x) × (r ≡ unwritten_meant p x) × (slice_get (unwritten_sigs p us) k ≡ Some (unwritten_sig p x))
  unwritten_step [] k r e = none_some e
  unwritten_step (x ∷ us) zero r e = (x, refl, sym (some_same e), refl)
  unwritten_step (x ∷ us) (suc k) r e = unwritten_step us k r e

  step : (us : List Unwritten) (ds : List Defined) (i t s k n : ℕ) (r : Routine) → i + k ≡ n → slice_get (routines_meant p ds i t s ++ all_unwritten p us) k ≡ Some r → InStep ds us k n r (slice_get (written_sigs p ds i t s ++ unwritten_sigs p us) k)
  step us [] i t s k n r q e = let x = unwritten_step us k r e in nobody_wrote x.0 k (omega arith) x.1 x.2 x.3
  step us (d ∷ ds) i t s zero n r q e =
      let l : i ≡ n = omega (arith, q) in
      is_written d t s refl (sym (some_same e) ∙ ap (λ z. routine_meant p d.routine (routine_scope p d.routine (place_by p d) z t s)) l) (ap (λ z. Some (routine_sig_in p d (routine_scope p d.routine (place_by p d) z t s))) l)
  step us (d ∷ ds) i t s (suc k) n r q e =
      let t1 = t + length (gathered_all own_texts d.routine.body) in
      let s1 = s + length (gathered_all (own_sites d.class d.number) d.routine.body) in
      by (step us ds (i + 1) t1 s1 k n r (omega (arith, q)) e)
    where
      by : {o : Option Sig} → InStep ds us k n r o → InStep (d ∷ ds) us (suc k) n r o
      by (is_written d a b e f g) = is_written d a b e f g
      by (nobody_wrote x m a e f g) = nobody_wrote x m (omega (arith, a)) e f g

  pub in_step : (n : ℕ) (r : Routine) → slice_get (source_of p).routines n ≡ Some r → InStep (routines_of p) (unwritten_of p) n n r (slice_get (all_sigs p) n)
  in_step n r e = step (unwritten_of p) (routines_of p) 0 0 0 n n r (omega arith) e

  unwritten_lengths : (us : List Unwritten) → length (all_unwritten p us) ≡ length (unwritten_sigs p us)
  unwritten_lengths [] = refl
  unwritten_lengths (x ∷ us) = ap suc (unwritten_lengths us)

  lengths : (us : List Unwritten) (ds : List Defined) (i t s : ℕ) → length (routines_meant p ds i t s ++ all_unwritten p us) ≡ length (written_sigs p ds i t s ++ unwritten_sigs p us)
  lengths us [] i t s = unwritten_lengths us
  lengths us (d ∷ ds) i t s =
      ap suc (lengths us ds (i + 1) (t + length (gathered_all own_texts d.routine.body)) (s + length (gathered_all (own_sites d.class d.number) d.routine.body)))

  pub count_is : length (source_of p).routines ≡ (table_of p).count
  count_is = lengths (unwritten_of p) (routines_of p) 0 0 0

  -- the program's main is plain

  pub main_sig : (s : Declared) → is_program_main s ≡ true → is_main_sig s ≡ true
  main_sig s h =
      let plain = left_is (is_plain s.role) (same_name s.name main_name && (is_main_base s.owner s.ret && nat_eq (length s.params) 0)) h in
      let h1 = right_is (is_plain s.role) (same_name s.name main_name && (is_main_base s.owner s.ret && nat_eq (length s.params) 0)) h in
      let named = left_is (same_name s.name main_name) (is_main_base s.owner s.ret && nat_eq (length s.params) 0) h1 in
      let h2 = right_is (same_name s.name main_name) (is_main_base s.owner s.ret && nat_eq (length s.params) 0) h1 in
      let returns = owns s.owner s.ret (left_is (is_main_base s.owner s.ret) (nat_eq (length s.params) 0) h2) in
      let none = without s.params (right_is (is_main_base s.owner s.ret) (nat_eq (length s.params) 0) h2) in
      both_are (returns_as_main s.owner s.ret) (same_name s.name main_name && (is_plain s.role && no_params s.params)) returns (both_are (same_name s.name main_name) (is_plain s.role && no_params s.params) named (both_are (is_plain s.role) (no_params s.params) plain none))
    where
      ints : (b : Base) → is_int_base b ≡ true → program.is_int b ≡ true
      ints base.Int h = refl
      ints _ h = false_true h

      voids : (b : Base) → is_void_base b ≡ true → program.is_void b ≡ true
      voids base.Void h = refl
      voids _ h = false_true h

      owns : (o : Owner) (b : Base) → is_main_base o b ≡ true → returns_as_main o b ≡ true
      owns owner.Here b h = ints b h
      owns owner.Main b h = voids b h
      owns (owner.Class n) b h = false_true h

      without : (xs : List Param) → nat_eq (length xs) 0 ≡ true → no_params xs ≡ true
      without [] h = refl
      without (x ∷ xs) h = let q = eqb-true (length (x ∷ xs)) 0 h in let z : ⊥ = omega (arith, q) in absurd z

  defined_role : (r : Body) → (o : Owner) → is_plain r.sig.role ≡ true → is_plain (defined_by p o r).routine.sig.role ≡ true
  defined_role r owner.Here h = h
  defined_role r owner.Main h = h
  defined_role r (owner.Class n) h = h

  main_role : (s : Declared) → is_main_sig s ≡ true → is_plain s.role ≡ true
  main_role s h = left_is (is_plain s.role) (no_params s.params) (right_is (same_name s.name main_name) (is_plain s.role && no_params s.params) (right_is (returns_as_main s.owner s.ret) (same_name s.name main_name && (is_plain s.role && no_params s.params)) h))

  abbrev PlainMain : List Item → Type 0
  PlainMain xs = (n : ℕ) (d : Defined) → 1 ≤ mains_in xs → n ≡ main_among p xs → slice_get (items_defined p xs) n ≡ Some d → is_plain d.routine.sig.role ≡ true

  routine_main : (r : Body) (xs : List Item) → PlainMain xs → PlainMain (RoutineItem r ∷ xs)
  routine_main r xs f n d l q e = by (is_main_sig r.sig) refl q
    where
      at_zero : (m : ℕ) → m ≡ 0 → slice_get (defined_by p r.sig.owner r ∷ items_defined p xs) m ≡ Some d → defined_by p r.sig.owner r ≡ d
      at_zero zero z e = some_same e
      at_zero (suc m) z e = let y : ⊥ = omega (arith, z) in absurd y

      behind : (m k : ℕ) → m ≡ 1 + k → slice_get (defined_by p r.sig.owner r ∷ items_defined p xs) m ≡ Some d → slice_get (items_defined p xs) k ≡ Some d
      behind zero k z e = let y : ⊥ = omega (arith, z) in absurd y
      behind (suc m) k z e = ap (slice_get (items_defined p xs)) (let w : k ≡ m = omega (arith, z) in w) ∙ e

      fewer : (b : Bool) → is_program_main r.sig ≡ b → is_main_sig r.sig ≡ false → 1 ≤ (if b then 1 else 0) + mains_in xs → 1 ≤ mains_in xs
      fewer true h g l = false_true (sym g ∙ main_sig r.sig h)
      fewer false h g l = omega (arith, l)

      by : (b : Bool) → is_main_sig r.sig ≡ b → n ≡ (if b then 0 else 1 + main_among p xs) → is_plain d.routine.sig.role ≡ true
      by true h q = subst (λ (z : Defined). is_plain z.routine.sig.role ≡ true) (at_zero n q e) (defined_role r r.sig.owner (main_role r.sig h))
      by false h q = f (main_among p xs) d (fewer (is_program_main r.sig) refl h l) refl (behind n (main_among p xs) q e)

  main_at : (xs : List Item) → PlainMain xs
  main_at [] n d l q e = let z : ⊥ = omega (arith, l) in absurd z
  main_at (RoutineItem r ∷ xs) n d l q e = routine_main r xs (main_at xs) n d l q e
  main_at (ClassItem c ∷ xs) n d l q e =
      main_at xs (main_among p xs) d (omega (arith, l)) refl (sym (get_right (item_defined p (ClassItem c)) (items_defined p xs) (main_among p xs) n q) ∙ e)
  main_at (ConstItem c ∷ xs) n d l q e = main_at xs n d (omega (arith, l)) (omega (arith, q)) e
  main_at (ProtoItem c ∷ xs) n d l q e = main_at xs n d (omega (arith, l)) (omega (arith, q)) e
  main_at (ForwardItem c ∷ xs) n d l q e = main_at xs n d (omega (arith, l)) (omega (arith, q)) e
  main_at (UsingItem c ∷ xs) n d l q e = main_at xs n d (omega (arith, l)) (omega (arith, q)) e

  pub main_plain : Unbroken (program_visits p) → (n : ℕ) (d : Defined) → n ≡ main_number p → slice_get (routines_of p) n ≡ Some d → is_plain d.routine.sig.role ≡ true
  main_plain u n d q e =
      let h = holds (nat_eq (mains_in p.items) 1) S3 _ _ (none_left (main_breaks p ++ []) _ u) in
      let k = eqb-true (mains_in p.items) 1 h in
      main_at p.items n d (omega (arith, k)) q e
