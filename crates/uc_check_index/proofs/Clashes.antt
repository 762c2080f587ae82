-- Which earlier items clash with one, by what they are.
use Rattle.std.proofs.Common.{◌≡◌, ℕ, List, [], ◌∷◌, Bool, true, false, not, ◌&&◌, ◌||◌, refl, ap, ◌∙◌}
use Rattle.std.specs.List.{list_any}
use Rattle.uc_tree.specs.declared.kinds.Forward.{Forward}
use Rattle.uc_tree.specs.Programs.{Sig, Routine, Class, Constant, Item, ClassItem, RoutineItem, ConstItem, ProtoItem, ForwardItem, UsingItem}
use Rattle.uc_rules.specs.ItemBreaks.{are_one, clashes, is_named, item_name}
use Rattle.uc_check_index.specs.Clashing.{clash_by}
use Rattle.uc_check_index.specs.Topics.{class_name, constant_name, forward_name, proto_name, routine_name}

clash_class : (later : Item) (x : Class) (proto b : Bool) → (b && not (are_one proto (ClassItem x) later)) ≡ clash_by proto later b false false false false
clash_class (ClassItem c) x proto true = refl
clash_class (ClassItem c) x proto false = refl
clash_class (RoutineItem r) x true true = refl
clash_class (RoutineItem r) x true false = refl
clash_class (RoutineItem r) x false true = refl
clash_class (RoutineItem r) x false false = refl
clash_class (ConstItem k) x proto true = refl
clash_class (ConstItem k) x proto false = refl
clash_class (ProtoItem s) x proto true = refl
clash_class (ProtoItem s) x proto false = refl
clash_class (ForwardItem f) x proto true = refl
clash_class (ForwardItem f) x proto false = refl
clash_class (UsingItem at) x proto true = refl
clash_class (UsingItem at) x proto false = refl

clash_routine : (later : Item) (x : Routine) (proto b : Bool) → (b && not (are_one proto (RoutineItem x) later)) ≡ clash_by proto later false false b false false
clash_routine (ClassItem c) x proto true = refl
clash_routine (ClassItem c) x proto false = refl
clash_routine (RoutineItem r) x true true = refl
clash_routine (RoutineItem r) x true false = refl
clash_routine (RoutineItem r) x false true = refl
clash_routine (RoutineItem r) x false false = refl
clash_routine (ConstItem k) x proto true = refl
clash_routine (ConstItem k) x proto false = refl
clash_routine (ProtoItem s) x proto true = refl
clash_routine (ProtoItem s) x proto false = refl
clash_routine (ForwardItem f) x proto true = refl
clash_routine (ForwardItem f) x proto false = refl
clash_routine (UsingItem at) x proto true = refl
clash_routine (UsingItem at) x proto false = refl

clash_constant : (later : Item) (x : Constant) (proto b : Bool) → (b && not (are_one proto (ConstItem x) later)) ≡ clash_by proto later false false false false b
clash_constant (ClassItem c) x proto true = refl
clash_constant (ClassItem c) x proto false = refl
clash_constant (RoutineItem r) x true true = refl
clash_constant (RoutineItem r) x true false = refl
clash_constant (RoutineItem r) x false true = refl
clash_constant (RoutineItem r) x false false = refl
clash_constant (ConstItem k) x proto true = refl
clash_constant (ConstItem k) x proto false = refl
clash_constant (ProtoItem s) x proto true = refl
clash_constant (ProtoItem s) x proto false = refl
clash_constant (ForwardItem f) x proto true = refl
clash_constant (ForwardItem f) x proto false = refl
clash_constant (UsingItem at) x proto true = refl
clash_constant (UsingItem at) x proto false = refl

clash_proto : (later : Item) (x : Sig) (proto b : Bool) → (b && not (are_one proto (ProtoItem x) later)) ≡ clash_by proto later false false false b false
clash_proto (ClassItem c) x proto true = refl
clash_proto (ClassItem c) x proto false = refl
clash_proto (RoutineItem r) x true true = refl
clash_proto (RoutineItem r) x true false = refl
clash_proto (RoutineItem r) x false true = refl
clash_proto (RoutineItem r) x false false = refl
clash_proto (ConstItem k) x proto true = refl
clash_proto (ConstItem k) x proto false = refl
clash_proto (ProtoItem s) x proto true = refl
clash_proto (ProtoItem s) x proto false = refl
clash_proto (ForwardItem f) x proto true = refl
clash_proto (ForwardItem f) x proto false = refl
clash_proto (UsingItem at) x proto true = refl
clash_proto (UsingItem at) x proto false = refl

clash_forward : (later : Item) (x : Forward) (proto b : Bool) → (b && not (are_one proto (ForwardItem x) later)) ≡ clash_by proto later false b false false false
clash_forward (ClassItem c) x proto true = refl
clash_forward (ClassItem c) x proto false = refl
clash_forward (RoutineItem r) x true true = refl
clash_forward (RoutineItem r) x true false = refl
clash_forward (RoutineItem r) x false true = refl
clash_forward (RoutineItem r) x false false = refl
clash_forward (ConstItem k) x proto true = refl
clash_forward (ConstItem k) x proto false = refl
clash_forward (ProtoItem s) x proto true = refl
clash_forward (ProtoItem s) x proto false = refl
clash_forward (ForwardItem f) x proto true = refl
clash_forward (ForwardItem f) x proto false = refl
clash_forward (UsingItem at) x proto true = refl
clash_forward (UsingItem at) x proto false = refl

clash_none : (later : Item) (proto : Bool) → false ≡ clash_by proto later false false false false false
clash_none (ClassItem c) proto = refl
clash_none (RoutineItem r) true = refl
clash_none (RoutineItem r) false = refl
clash_none (ConstItem k) proto = refl
clash_none (ProtoItem s) proto = refl
clash_none (ForwardItem f) proto = refl
clash_none (UsingItem at) proto = refl

clash_is : (proto : Bool) (name : List ℕ) (later x : Item) → clashes proto name later x ≡ clash_by proto later (is_named (class_name x) name) (is_named (forward_name x) name) (is_named (routine_name x) name) (is_named (proto_name x) name) (is_named (constant_name x) name)
clash_is proto name later (ClassItem c) = clash_class later c proto (is_named (item_name (ClassItem c)) name)
clash_is proto name later (RoutineItem r) = clash_routine later r proto (is_named (item_name (RoutineItem r)) name)
clash_is proto name later (ConstItem k) = clash_constant later k proto (is_named (item_name (ConstItem k)) name)
clash_is proto name later (ProtoItem s) = clash_proto later s proto (is_named (item_name (ProtoItem s)) name)
clash_is proto name later (ForwardItem f) = clash_forward later f proto (is_named (item_name (ForwardItem f)) name)
clash_is proto name later (UsingItem at) = clash_none later proto

swap : (a b c d : Bool) → ((a || b) || (c || d)) ≡ ((a || c) || (b || d))
swap true b c d = refl
swap false true true d = refl
swap false true false d = refl
swap false false c d = refl

module _ {A : Type 0} where
  any_same : (p q : A → Bool) → ((x : A) → p x ≡ q x) → (xs : List A) → list_any p xs ≡ list_any q xs
  any_same p q h [] = refl
  any_same p q h (x ∷ xs) = ap (λ b. b || list_any p xs) (h x) ∙ ap (λ b. q x || b) (any_same p q h xs)

  or_any : (p q : A → Bool) (xs : List A) → list_any (λ x. p x || q x) xs ≡ (list_any p xs || list_any q xs)
  or_any p q [] = refl
  or_any p q (x ∷ xs) = ap (λ b. (p x || q x) || b) (or_any p q xs) ∙ swap (p x) (q x) (list_any p xs) (list_any q xs)

  none : (xs : List A) → list_any (λ x. false) xs ≡ false
  none [] = refl
  none (x ∷ xs) = none xs

  and_any : (c : Bool) (p : A → Bool) (xs : List A) → list_any (λ x. c && p x) xs ≡ (c && list_any p xs)
  and_any true p xs = refl
  and_any false p xs = none xs

  or_four : (p q r s : A → Bool) (xs : List A) → list_any (λ x. p x || (q x || (r x || s x))) xs ≡ (list_any p xs || (list_any q xs || (list_any r xs || list_any s xs)))
  or_four p q r s xs =
      or_any p (λ x. q x || (r x || s x)) xs
      ∙ ap (λ b. list_any p xs || b) (or_any q (λ x. r x || s x) xs ∙ ap (λ b. list_any q xs || b) (or_any r s xs))

  or_five : (o p q r s : A → Bool) (xs : List A) → list_any (λ x. o x || (p x || (q x || (r x || s x)))) xs ≡ (list_any o xs || (list_any p xs || (list_any q xs || (list_any r xs || list_any s xs))))
  or_five o p q r s xs = or_any o (λ x. p x || (q x || (r x || s x))) xs ∙ ap (λ b. list_any o xs || b) (or_four p q r s xs)

module _ (proto : Bool) (name : List ℕ) (xs : List Item) where
  abbrev cs : Item → Bool
  cs x = is_named (class_name x) name

  abbrev fs : Item → Bool
  fs x = is_named (forward_name x) name

  abbrev rs : Item → Bool
  rs x = is_named (routine_name x) name

  abbrev ps : Item → Bool
  ps x = is_named (proto_name x) name

  abbrev ks : Item → Bool
  ks x = is_named (constant_name x) name

  clashes_by : (later : Item) → list_any (λ x. clash_by proto later (cs x) (fs x) (rs x) (ps x) (ks x)) xs ≡ clash_by proto later (list_any cs xs) (list_any fs xs) (list_any rs xs) (list_any ps xs) (list_any ks xs)
  clashes_by (ClassItem c) = or_four cs rs ps ks xs
  clashes_by (RoutineItem r) = or_four cs fs (λ x. not proto && rs x) ks xs ∙ ap (λ b. list_any cs xs || (list_any fs xs || (b || list_any ks xs))) (and_any (not proto) rs xs)
  clashes_by (ConstItem k) = or_five cs fs rs ps ks xs
  clashes_by (ProtoItem s) = or_four cs fs ps ks xs
  clashes_by (ForwardItem f) = or_four fs rs ps ks xs
  clashes_by (UsingItem at) = or_five cs fs rs ps ks xs

  pub clashes_are : (later : Item) → list_any (clashes proto name later) xs ≡ clash_by proto later (list_any (λ x. is_named (class_name x) name) xs) (list_any (λ x. is_named (forward_name x) name) xs) (list_any (λ x. is_named (routine_name x) name) xs) (list_any (λ x. is_named (proto_name x) name) xs) (list_any (λ x. is_named (constant_name x) name) xs)
  clashes_are later = any_same (clashes proto name later) (λ x. clash_by proto later (cs x) (fs x) (rs x) (ps x) (ks x)) (λ x. clash_is proto name later x) xs ∙ clashes_by later
