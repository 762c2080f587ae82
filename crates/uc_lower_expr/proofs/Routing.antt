-- Tables of the routines of classes, and the routines that they were made of.
use Rattle.std.proofs.Common.{◌≡◌, ◌≢◌, ℕ, suc, ◌+◌, List, [], ◌∷◌, ◌++◌, Bool, true, false, ◌&&◌, Option, Some, None, if◌then◌else◌, nat_eq, length, refl, ap, sym, ◌∙◌, arith, is_some}
use Rattle.std.proofs.lemmas.Bool.{eq-eqb, ne_eqb}
use Rattle.std.specs.Prelude.{unwrap_or}
use Rattle.uc_names.specs.Blocks.{Block, id_in, id_or, found, declared}
use Rattle.uc_tree.specs.declared.kinds.Role.{Role}
use Rattle.uc_tree.specs.declared.kinds.Role.TheVariants as role
use Rattle.uc_tree.specs.Names.{same_name}
use Rattle.uc_tree.specs.Numbering.{Defined, is_plain}
use Rattle.uc_tree.specs.Objects.{same_role, has_role, role_from, is_member, member_from}
use Rattle.uc_lower_expr.specs.declared.routine_table.RoutineTable.{RoutineTable}
use Rattle.uc_lower_expr.specs.Members.{AreRoutines}
use Rattle.uc_lower_expr.specs.RoutineTables.{noted_name, routed}
use Rattle.uc_lower_expr.proofs.Numbers.{found_one, stood_case, new_case}

-- a name that is declared once

noted_by : (b : Block) (x : List ℕ) (k : ℕ) (name : List ℕ) (t : Bool) → is_some (id_in b x) ≡ t → found (if t then (b ∷ []) else declared (b ∷ []) x k) name ≡ id_or (found (b ∷ []) name) (if same_name x name then Some k else None)
noted_by b x k name true e = sym (stood_case b x name (found (b ∷ []) name) k (found_one b name) e (same_name x name) refl)
noted_by b x k name false e = found_one ((x, k) ∷ b) name ∙ new_case b x name k e (same_name x name) refl ∙ ap (λ o. id_or o (if same_name x name then Some k else None)) (sym (found_one b name))

pub found_noted : (bs : List Block) (x : List ℕ) (k : ℕ) (name : List ℕ) → length bs ≡ 1 → found (noted_name bs x k) name ≡ id_or (found bs name) (if same_name x name then Some k else None)
found_noted [] x k name l = absurd (omega (arith, l))
found_noted (b ∷ []) x k name l = noted_by b x k name (is_some (id_in b x)) refl
found_noted (b ∷ c ∷ bs) x k name l = absurd (omega (arith, l))

pub noted_long : (bs : List Block) (x : List ℕ) (k : ℕ) → length (noted_name bs x k) ≡ length bs
noted_long [] x k = refl
noted_long (b ∷ bs) x k = elim (is_some (id_in b x)) as (λ t. length (if t then (b ∷ bs) else declared (b ∷ bs) x k) ≡ length (b ∷ bs)) [
  | true ↦ refl
  | false ↦ refl
]

-- one more routine

member_case : (i : ℕ) (b : Bool) (ds : List Defined) (d : Defined) (class : ℕ) (name : List ℕ) → member_from (ds ++ d ∷ []) (suc i) class name ≡ id_or (member_from ds (suc i) class name) (if is_member class name d then Some (suc i + length ds) else None) → (if b then Some i else member_from (ds ++ d ∷ []) (suc i) class name) ≡ id_or (if b then Some i else member_from ds (suc i) class name) (if is_member class name d then Some (i + suc (length ds)) else None)
member_case i true ds d class name h = refl
member_case i false ds d class name h = let e : suc i + length ds ≡ i + suc (length ds) = omega arith in h ∙ ap (λ k. id_or (member_from ds (suc i) class name) (if is_member class name d then Some k else None)) e

member_last : (i : ℕ) (ds : List Defined) (d : Defined) (class : ℕ) (name : List ℕ) → member_from (ds ++ d ∷ []) i class name ≡ id_or (member_from ds i class name) (if is_member class name d then Some (i + length ds) else None)
member_last i [] d class name = let e : i + 0 ≡ i = omega arith in ap (λ k. if is_member class name d then Some k else None) (sym e)
member_last i (x ∷ xs) d class name = member_case i (is_member class name x) xs d class name (member_last (suc i) xs d class name)

role_case : (i : ℕ) (b : Bool) (ds : List Defined) (d : Defined) (class : ℕ) (wanted : Role) → role_from (ds ++ d ∷ []) (suc i) class wanted ≡ id_or (role_from ds (suc i) class wanted) (if has_role class wanted d then Some (suc i + length ds) else None) → (if b then Some i else role_from (ds ++ d ∷ []) (suc i) class wanted) ≡ id_or (if b then Some i else role_from ds (suc i) class wanted) (if has_role class wanted d then Some (i + suc (length ds)) else None)
role_case i true ds d class wanted h = refl
role_case i false ds d class wanted h = let e : suc i + length ds ≡ i + suc (length ds) = omega arith in h ∙ ap (λ k. id_or (role_from ds (suc i) class wanted) (if has_role class wanted d then Some k else None)) e

role_last : (i : ℕ) (ds : List Defined) (d : Defined) (class : ℕ) (wanted : Role) → role_from (ds ++ d ∷ []) i class wanted ≡ id_or (role_from ds i class wanted) (if has_role class wanted d then Some (i + length ds) else None)
role_last i [] d class wanted = let e : i + 0 ≡ i = omega arith in ap (λ k. if has_role class wanted d then Some k else None) (sym e)
role_last i (x ∷ xs) d class wanted = role_case i (has_role class wanted x) xs d class wanted (role_last (suc i) xs d class wanted)

none_or : (o : Option ℕ) → id_or o None ≡ o
none_or None = refl
none_or (Some i) = refl

some_or : (o : Option ℕ) (k : ℕ) → id_or o (Some k) ≡ Some (unwrap_or o k)
some_or None k = refl
some_or (Some i) k = refl

same_eq : (n : ℕ) → nat_eq n n ≡ true
same_eq n = eq-eqb n n refl

other_eq : (a b : ℕ) → a ≢ b → nat_eq a b ≡ false
other_eq a b h = ne_eqb a b h

-- a routine of another class

pub other_routine : (ds : List Defined) (d : Defined) (number : ℕ) (t : RoutineTable) → d.number ≢ number → AreRoutines ds number t → AreRoutines (ds ++ d ∷ []) number t
other_routine ds d number t h was = record {
  one = was.one;
  members = λ name. was.members name ∙ sym (member_last 0 ds d number name ∙ ap (λ (b : Bool). id_or (member_from ds 0 number name) (if b && (is_plain d.routine.sig.role && same_name d.routine.sig.name name) then Some (0 + length ds) else None)) (other_eq d.number number h) ∙ none_or (member_from ds 0 number name));
  builds = was.builds ∙ sym (role_last 0 ds d number role.Constructor ∙ ap (λ (b : Bool). id_or (role_from ds 0 number role.Constructor) (if b && same_role role.Constructor d.routine.sig.role then Some (0 + length ds) else None)) (other_eq d.number number h) ∙ none_or (role_from ds 0 number role.Constructor));
  destroys = was.destroys ∙ sym (role_last 0 ds d number role.Destructor ∙ ap (λ (b : Bool). id_or (role_from ds 0 number role.Destructor) (if b && same_role role.Destructor d.routine.sig.role then Some (0 + length ds) else None)) (other_eq d.number number h) ∙ none_or (role_from ds 0 number role.Destructor));
}

-- one of this class, by its role

module _ (ds : List Defined) (d : Defined) (number : ℕ) (is : d.number ≡ number) where
  here : nat_eq d.number number ≡ true
  here = ap (λ n. nat_eq n number) is ∙ same_eq number

  count : 0 + length ds ≡ length ds
  count = omega arith

  member_by : (r : Role) (name : List ℕ) → d.routine.sig.role ≡ r → member_from (ds ++ d ∷ []) 0 number name ≡ id_or (member_from ds 0 number name) (if is_plain r && same_name d.routine.sig.name name then Some (length ds) else None)
  member_by r name e = member_last 0 ds d number name ∙ ap (λ (b : Bool). id_or (member_from ds 0 number name) (if b && (is_plain d.routine.sig.role && same_name d.routine.sig.name name) then Some (0 + length ds) else None)) here ∙ ap (λ (q : Role). id_or (member_from ds 0 number name) (if is_plain q && same_name d.routine.sig.name name then Some (0 + length ds) else None)) e ∙ ap (λ k. id_or (member_from ds 0 number name) (if is_plain r && same_name d.routine.sig.name name then Some k else None)) count

  role_by : (r wanted : Role) → d.routine.sig.role ≡ r → role_from (ds ++ d ∷ []) 0 number wanted ≡ id_or (role_from ds 0 number wanted) (if same_role wanted r then Some (length ds) else None)
  role_by r wanted e = role_last 0 ds d number wanted ∙ ap (λ (b : Bool). id_or (role_from ds 0 number wanted) (if b && same_role wanted d.routine.sig.role then Some (0 + length ds) else None)) here ∙ ap (λ (q : Role). id_or (role_from ds 0 number wanted) (if same_role wanted q then Some (0 + length ds) else None)) e ∙ ap (λ k. id_or (role_from ds 0 number wanted) (if same_role wanted r then Some k else None)) count

  routine_by : (r : Role) (t : RoutineTable) → d.routine.sig.role ≡ r → AreRoutines ds number t → AreRoutines (ds ++ d ∷ []) number (routed r d.routine.sig.name (length ds) t)
  routine_by role.Plain t e was = record {
    one = noted_long t.members d.routine.sig.name (length ds) ∙ was.one;
    members = λ name. found_noted t.members d.routine.sig.name (length ds) name was.one ∙ ap (λ o. id_or o (if same_name d.routine.sig.name name then Some (length ds) else None)) (was.members name) ∙ sym (member_by role.Plain name e);
    builds = was.builds ∙ sym (role_by role.Plain role.Constructor e ∙ none_or (role_from ds 0 number role.Constructor));
    destroys = was.destroys ∙ sym (role_by role.Plain role.Destructor e ∙ none_or (role_from ds 0 number role.Destructor));
  }
  routine_by role.Constructor t e was = record {
    one = was.one;
    members = λ name. was.members name ∙ sym (member_by role.Constructor name e ∙ none_or (member_from ds 0 number name));
    builds = ap (λ (o : Option ℕ). Some (unwrap_or o (length ds))) was.builds ∙ sym (role_by role.Constructor role.Constructor e ∙ some_or (role_from ds 0 number role.Constructor) (length ds));
    destroys = was.destroys ∙ sym (role_by role.Constructor role.Destructor e ∙ none_or (role_from ds 0 number role.Destructor));
  }
  routine_by role.Destructor t e was = record {
    one = was.one;
    members = λ name. was.members name ∙ sym (member_by role.Destructor name e ∙ none_or (member_from ds 0 number name));
    builds = was.builds ∙ sym (role_by role.Destructor role.Constructor e ∙ none_or (role_from ds 0 number role.Constructor));
    destroys = ap (λ (o : Option ℕ). Some (unwrap_or o (length ds))) was.destroys ∙ sym (role_by role.Destructor role.Destructor e ∙ some_or (role_from ds 0 number role.Destructor) (length ds));
  }

  pub own_routine : (t : RoutineTable) → AreRoutines ds number t → AreRoutines (ds ++ d ∷ []) number (routed d.routine.sig.role d.routine.sig.name (length ds) t)
  own_routine t was = routine_by d.routine.sig.role t refl was
