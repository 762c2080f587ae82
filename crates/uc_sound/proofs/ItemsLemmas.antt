-- Names of items: both look-ups find the same constant, and where the rules find a routine no constant has its name.
use Rattle.std.proofs.Common.{◌≡◌, ℕ, suc, ◌+◌, List, [], ◌∷◌, Option, Some, None, Bool, true, false, refl, sym, ap, ◌∙◌, subst, arith}
use Rattle.std.specs.Prelude.{not, ◌&&◌, ◌||◌, if◌then◌else◌, slice_get, option_map, take, get_or}
use Rattle.std.specs.List.{list_any}
use Rattle.std.specs.Cmp.Lexicographic.{bytes_decides}
use Rattle.std.proofs.lemmas.List.Folds.{list_any_kept, list_any_more}
use Rattle.std.proofs.lemmas.Option.{slice_get_within, get_or_from_slice_get}
use Rattle.uc_tree.specs.Names.{same_name}
use Rattle.uc_tree.specs.Constants.{constants_of, constant_named}
use Rattle.uc_tree.specs.Numbering.{main_name, is_given, routines_of}
use Rattle.uc_tree.specs.Programs.{Constant, Item, ClassItem, RoutineItem, ConstItem, ProtoItem, ForwardItem, UsingItem, Program}
use Rattle.uc_resolve.specs.Standings.{routine_from, routine_meant_by, constant_meant_by, item_meant}
use Rattle.uc_rules.specs.declared.rule.Rule.TheVariants.{S2}
use Rattle.uc_rules.specs.declared.rules.Sort.{Sort}
use Rattle.uc_rules.specs.declared.rules.Entity.{Entity}
use Rattle.uc_rules.specs.declared.rules.Entity.TheVariants as entity
use Rattle.uc_rules.specs.declared.rules.OwnClass.{OwnClass}
use Rattle.uc_rules.specs.declared.rules.NameMeaning.{NameMeaning}
use Rattle.uc_rules.specs.Sorts.{sort_of}
use Rattle.uc_rules.specs.Names.{first_of, outer, is_here, constant_meant, items_named, outer_named}
use Rattle.uc_rules.specs.Scopes.{named_behind, own_named, main_meant}
use Rattle.uc_rules.specs.Entities.{meant_entity}
use Rattle.uc_rules.specs.ItemBreaks.{item_name, is_named, is_named_proto, clashes, is_new_item}
use Rattle.uc_rules.specs.Visits.{AtItem, AtProgram}
use Rattle.uc_rules.specs.ProgramVisits.{item_visits, items_visits, classes_in}
use Rattle.uc_rules.specs.Breaks.{breaks_at, breaks_among}
use Rattle.uc_typing.specs.Typing.{Num, Name, Sig, Table, Fine}
use Rattle.uc_sound.specs.Agreement.{Agrees, AgreesIf}
use Rattle.uc_sound.specs.Unbroken.{Unbroken}
use Rattle.uc_sound.specs.ItemNames.{TellsRoutine, LawItems}
use Rattle.uc_sound.proofs.Ties.{some_same, none_some, false_true}
use Rattle.uc_sound.proofs.UnbrokenLemmas.{none_left, first, second, holds}

-- tests over lists

any_same : (f h : Item → Bool) → ((x : Item) → f x ≡ h x) → (xs : List Item) → list_any f xs ≡ list_any h xs
any_same f h e [] = refl
any_same f h e (x ∷ xs) = ap (λ b. b || list_any f xs) (e x) ∙ ap (λ b. h x || b) (any_same f h e xs)

and_true : (b : Bool) → (b && true) ≡ b
and_true true = refl
and_true false = refl

or_right : (a b : Bool) → b ≡ true → (a || b) ≡ true
or_right true b h = refl
or_right false b h = h

none_true : {B : Type 0} (a b : Bool) → a ≡ true → not (a || b) ≡ true → B
none_true true b h k = false_true k
none_true false b h k = false_true h

module _ (p : Program) (name : List ℕ) where
  abbrev has_name : Item → Bool
  has_name x = is_named (item_name x) name

  -- these are the items from a place on, and an item before that place has the name
  abbrev From : ℕ → List Item → Type 0
  From i xs = (n : ℕ) → slice_get p.items (i + n) ≡ slice_get xs n

  abbrev Before : ℕ → Type 0
  Before i = list_any has_name (take i p.items) ≡ true

  later : (i : ℕ) (x : Item) (xs : List Item) → From i (x ∷ xs) → From (i + 1) xs
  later i x xs a n = ap (slice_get p.items) (let q : (i + 1) + n ≡ i + suc n = omega arith in q) ∙ a (suc n)

  at : (i : ℕ) (x : Item) (xs : List Item) → From i (x ∷ xs) → slice_get p.items i ≡ Some x
  at i x xs a = ap (slice_get p.items) (let q : i ≡ i + 0 = omega arith in q) ∙ a 0

  known_from : (i : ℕ) (x : Item) (xs : List Item) → From i (x ∷ xs) → has_name x ≡ true → Before (i + 1)
  known_from i x xs a h =
      list_any_more has_name p.items i x (slice_get_within p.items i x (at i x xs a)) ∙ or_right (list_any has_name (take i p.items)) (has_name (get_or p.items i x)) (ap has_name (get_or_from_slice_get p.items i x x (at i x xs a)) ∙ h)

  -- what stands behind an item of the program breaks no rule either
  behind : (k i : ℕ) (x : Item) (xs : List Item) → Unbroken (items_visits p k i (x ∷ xs)) → Unbroken (items_visits p (k + classes_in x) (i + 1) xs)
  behind k i x xs u = second (AtItem p x i ∷ item_visits p k x) (items_visits p (k + classes_in x) (i + 1) xs) u

  own_rules : (k i : ℕ) (x : Item) (xs : List Item) → Unbroken (items_visits p k i (x ∷ xs)) → breaks_at (AtItem p x i) ≡ []
  own_rules k i x xs u =
      none_left (breaks_at (AtItem p x i)) (breaks_among (item_visits p k x)) (first (AtItem p x i ∷ item_visits p k x) (items_visits p (k + classes_in x) (i + 1) xs) u)

  -- a constant behind it has another name
  other_name : {B : Type 0} (i : ℕ) (c : Constant) → breaks_at (AtItem p (ConstItem c) i) ≡ [] → Before i → c.name ≡ name → B
  other_name i c u s e =
      let n : is_new_item p (ConstItem c) i (Some c.name) ≡ true = holds (is_new_item p (ConstItem c) i (Some c.name)) S2 c.pos _ u in
      let b : Bool = list_any (is_named_proto c.name) p.items in
      none_true (list_any (clashes b c.name (ConstItem c)) (take i p.items)) (is_given c.name) (any_same (clashes b c.name (ConstItem c)) (λ x. is_named (item_name x) c.name) (λ x. and_true (is_named (item_name x) c.name)) (take i p.items) ∙ subst (λ m. list_any (λ x. is_named (item_name x) m) (take i p.items) ≡ true) (sym e) s) n

  after : (k i : ℕ) (xs : List Item) → Unbroken (items_visits p k i xs) → Before i → constant_named (constants_of xs) name ≡ None
  after k i [] u s = refl
  after k i (ClassItem c ∷ xs) u s = after (k + 1) (i + 1) xs (behind k i (ClassItem c) xs u) (list_any_kept has_name p.items i s)
  after k i (RoutineItem r ∷ xs) u s = after (k + 0) (i + 1) xs (behind k i (RoutineItem r) xs u) (list_any_kept has_name p.items i s)
  after k i (ConstItem c ∷ xs) u s =
      by (same_name c.name name) (after (k + 0) (i + 1) xs (behind k i (ConstItem c) xs u) (list_any_kept has_name p.items i s)) refl
    where
      by : (b : Bool) → constant_named (constants_of xs) name ≡ None → same_name c.name name ≡ b → (if b then Some c else constant_named (constants_of xs) name) ≡ None
      by true rest e = other_name i c (own_rules k i (ConstItem c) xs u) s ((bytes_decides c.name name).0 e)
      by false rest e = rest
  after k i (ProtoItem sig ∷ xs) u s = after (k + 0) (i + 1) xs (behind k i (ProtoItem sig) xs u) (list_any_kept has_name p.items i s)
  after k i (ForwardItem f ∷ xs) u s = after (k + 0) (i + 1) xs (behind k i (ForwardItem f) xs u) (list_any_kept has_name p.items i s)
  after k i (UsingItem q ∷ xs) u s = after (k + 0) (i + 1) xs (behind k i (UsingItem q) xs u) (list_any_kept has_name p.items i s)

  -- what a name stands for, and the constant of that name
  data Stood (o : Option Constant) (m : NameMeaning) : Type 0 where
    constant : (c : Constant) → o ≡ Some c → constant_meant p c ≡ m → Stood o m
    routine : (i : ℕ) → o ≡ None → outer (entity.Routine i) ≡ m → Stood o m
    class : outer entity.ClassName ≡ m → Stood o m

  class_by : (b : Bool) (o : Option Constant) (rest : Option NameMeaning) (m : NameMeaning) → (rest ≡ Some m → Stood o m) → first_of (if b then Some (outer entity.ClassName) else None) rest ≡ Some m → Stood o m
  class_by true o rest m f h = class (some_same h)
  class_by false o rest m f h = f h

  routine_by : (b : Bool) (i : ℕ) (o : Option Constant) (rest : Option NameMeaning) (m : NameMeaning) → (b ≡ true → o ≡ None) → (rest ≡ Some m → Stood o m) → first_of (if b then Some (outer (entity.Routine i)) else None) rest ≡ Some m → Stood o m
  routine_by true i o rest m n f h = routine i (n refl) (some_same h)
  routine_by false i o rest m n f h = f h

  constant_by : (b : Bool) (c : Constant) (o : Option Constant) (rest : Option NameMeaning) (m : NameMeaning) → (rest ≡ Some m → Stood o m) → first_of (if b then Some (constant_meant p c) else None) rest ≡ Some m → Stood (if b then Some c else o) m
  constant_by true c o rest m f h = constant c refl (some_same h)
  constant_by false c o rest m f h = f h

  here_named : (a : Bool) (n : List ℕ) → (a && same_name n name) ≡ true → is_named (if a then Some n else None) name ≡ true
  here_named true n h = h
  here_named false n h = h

  proto_named : (a b : Bool) → (a && b) ≡ true → b ≡ true
  proto_named true b h = h
  proto_named false b h = false_true h

  stood : (k i : ℕ) (xs : List Item) (m : NameMeaning) → From i xs → Unbroken (items_visits p k i xs) → items_named p i xs name ≡ Some m → Stood (constant_named (constants_of xs) name) m
  stood k i [] m a u h = none_some h
  stood k i (ClassItem c ∷ xs) m a u h =
      class_by (same_name c.name name) (constant_named (constants_of xs) name) (items_named p (i + 1) xs name) m (stood (k + 1) (i + 1) xs m (later i (ClassItem c) xs a) (behind k i (ClassItem c) xs u)) h
  stood k i (RoutineItem r ∷ xs) m a u h =
      routine_by (is_here r.sig.owner && same_name r.sig.name name) i (constant_named (constants_of xs) name) (items_named p (i + 1) xs name) m (λ e. after (k + 0) (i + 1) xs (behind k i (RoutineItem r) xs u) (known_from i (RoutineItem r) xs a (here_named (is_here r.sig.owner) r.sig.name e))) (stood (k + 0) (i + 1) xs m (later i (RoutineItem r) xs a) (behind k i (RoutineItem r) xs u)) h
  stood k i (ConstItem c ∷ xs) m a u h =
      constant_by (same_name c.name name) c (constant_named (constants_of xs) name) (items_named p (i + 1) xs name) m (stood (k + 0) (i + 1) xs m (later i (ConstItem c) xs a) (behind k i (ConstItem c) xs u)) h
  stood k i (ProtoItem sig ∷ xs) m a u h =
      routine_by (is_here sig.owner && same_name sig.name name) i (constant_named (constants_of xs) name) (items_named p (i + 1) xs name) m (λ e. after (k + 0) (i + 1) xs (behind k i (ProtoItem sig) xs u) (known_from i (ProtoItem sig) xs a (proto_named (is_here sig.owner) (same_name sig.name name) e))) (stood (k + 0) (i + 1) xs m (later i (ProtoItem sig) xs a) (behind k i (ProtoItem sig) xs u)) h
  stood k i (ForwardItem f ∷ xs) m a u h =
      class_by (same_name f.name name) (constant_named (constants_of xs) name) (items_named p (i + 1) xs name) m (stood (k + 0) (i + 1) xs m (later i (ForwardItem f) xs a) (behind k i (ForwardItem f) xs u)) h
  stood k i (UsingItem q ∷ xs) m a u h = stood (k + 0) (i + 1) xs m (later i (UsingItem q) xs a) (behind k i (UsingItem q) xs u) h

  module _ (t : Table) (g : Sig) (sc : List Name) where
    -- a constant is a number
    value_agrees : (c : Constant) (o : Option Sort) (w : Entity) → option_map (λ s. entity.Value s) o ≡ Some w → Agrees t g sc p w (constant_meant_by p name (Some c))
    value_agrees c None w e = none_some e
    value_agrees c (Some s) w e = subst (λ w. Agrees t g sc p w (constant_meant_by p name (Some c))) (some_same e) (tt, refl)

    routine_agrees : (i : ℕ) → TellsRoutine t p name i → Agrees t g sc p (entity.Routine i) (constant_meant_by p name None)
    routine_agrees i r = subst (λ o. Agrees t g sc p (entity.Routine i) (routine_meant_by p o)) (sym r.found) (record {
      number = r.number;
      standing = refl;
      params = r.params;
      table = r.table;
      alone = r.alone;
      known = r.known;
      reached = r.reached;
      at = (Num, refl);
    })

    routine_fine : (o : Option ℕ) → Fine t g sc (routine_meant_by p o).expr
    routine_fine None = (Num, refl)
    routine_fine (Some r) = (Num, refl)

    item_fine : (o : Option Constant) → Fine t g sc (constant_meant_by p name o).expr
    item_fine None = routine_fine (routine_from (routines_of p) 0 name)
    item_fine (Some c) = (Num, refl)

    stood_agrees : (o : Option Constant) (m : NameMeaning) → Stood o m → ((i : ℕ) → m.entity ≡ Some (entity.Routine i) → TellsRoutine t p name i) → AgreesIf t g sc p m.entity (constant_meant_by p name o)
    stood_agrees o m (constant c e h) f w q =
        subst (λ o. Agrees t g sc p w (constant_meant_by p name o)) (sym e) (value_agrees c (sort_of p c.base) w (ap (λ (m : NameMeaning). m.entity) h ∙ q))
    stood_agrees o m (routine i e h) f w q =
        subst (λ o. Agrees t g sc p w (constant_meant_by p name o)) (sym e) (subst (λ w. Agrees t g sc p w (constant_meant_by p name None)) (some_same (ap (λ (m : NameMeaning). m.entity) h ∙ q)) (routine_agrees i (f i (sym (ap (λ (m : NameMeaning). m.entity) h)))))
    stood_agrees o m (class h) f w q =
        subst (λ w. Agrees t g sc p w (constant_meant_by p name o)) (some_same (ap (λ (m : NameMeaning). m.entity) h ∙ q)) (item_fine o)

    found_agrees : (o : Option NameMeaning) → ((m : NameMeaning) → o ≡ Some m → Stood (constant_named (constants_of p.items) name) m) → ((i : ℕ) → meant_entity o ≡ Some (entity.Routine i) → TellsRoutine t p name i) → AgreesIf t g sc p (meant_entity o) (item_meant p name)
    found_agrees None s f w q = none_some q
    found_agrees (Some m) s f w q = stood_agrees (constant_named (constants_of p.items) name) m (s m refl) f w q

    given_agrees : (b : Bool) → Unbroken (items_visits p 0 0 p.items) → ((i : ℕ) → meant_entity (if b then Some (outer entity.ClassName) else items_named p 0 p.items name) ≡ Some (entity.Routine i) → TellsRoutine t p name i) → AgreesIf t g sc p (meant_entity (if b then Some (outer entity.ClassName) else items_named p 0 p.items name)) (item_meant p name)
    given_agrees true u f w q =
        subst (λ w. Agrees t g sc p w (item_meant p name)) (some_same q) (item_fine (constant_named (constants_of p.items) name))
    given_agrees false u f w q =
        found_agrees (items_named p 0 p.items name) (λ m h. stood 0 0 p.items m (λ n. ap (slice_get p.items) (let e : 0 + n ≡ n = omega arith in e)) u h) f w q

    main_agrees : (b : Bool) → AgreesIf t g sc p (meant_entity (outer_named p name)) (item_meant p name) → AgreesIf t g sc p (meant_entity (named_behind (own_named p b None name) (outer_named p name))) (item_meant p name)
    main_agrees false f w q = f w q
    main_agrees true f w q = by_name (same_name main_name name) q
      where
        by_name : (b : Bool) → meant_entity (named_behind (if b then Some main_meant else None) (outer_named p name)) ≡ Some w → Agrees t g sc p w (item_meant p name)
        by_name true q =
            subst (λ w. Agrees t g sc p w (item_meant p name)) (some_same q) (item_fine (constant_named (constants_of p.items) name))
        by_name false q = f w q

pub law_items : (t : Table) (g : Sig) (sc : List Name) → LawItems t g sc
law_items t g sc env u tells home name local =
    let p = env.program in
    let items : Unbroken (items_visits p 0 0 p.items) = second (AtProgram p ∷ []) (items_visits p 0 0 p.items) u in
    let a = main_agrees p name t g sc env.around.main (given_agrees p name t g sc (is_given name) items (tells name)) in
    subst (λ o. AgreesIf t g sc p (meant_entity (named_behind o (named_behind (own_named p env.around.main env.around.home name) (outer_named p name)))) (item_meant p name)) (sym local) (subst (λ (h : Option OwnClass). AgreesIf t g sc p (meant_entity (named_behind (own_named p env.around.main h name) (outer_named p name))) (item_meant p name)) (sym home) a)
