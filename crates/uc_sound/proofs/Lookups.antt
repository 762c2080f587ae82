-- What expressions and statements of programs call holds no object, but where they enter that.
use Rattle.std.proofs.Common.{◌≡◌, ℕ, suc, ◌+◌, ◌≤◌, ◌++◌, ◌⊎◌, inl, inr, List, [], ◌∷◌, length, Option, Some, None, Bool, true, false, refl, sym, ap, ◌∙◌, subst, arith}
use Rattle.std.specs.Prelude.{◌&&◌, ◌||◌, not, is_some, slice_get, if◌then◌else◌, nat_eq, option_and_then, unwrap_or}
use Rattle.std.specs.List.{list_any}
use Rattle.std.proofs.lemmas.Bool.{eqb-true, eq-eqb}
use Rattle.uc_tree.specs.declared.limits.TheConstants.{MEMBERS}
use Rattle.uc_tree.specs.declared.kinds.Base.{Base}
use Rattle.uc_tree.specs.declared.kinds.Base.TheVariants as base
use Rattle.uc_tree.specs.declared.kinds.Kind.{Kind}
use Rattle.uc_tree.specs.declared.kinds.Kind.TheVariants as kind
use Rattle.uc_tree.specs.declared.kinds.Role.{Role}
use Rattle.uc_tree.specs.declared.kinds.Role.TheVariants as role
use Rattle.uc_tree.specs.declared.rows.FieldClass.{FieldClass}
use Rattle.uc_tree.specs.Cells.{classes_of, object_of_kind, object_named}
use Rattle.uc_tree.specs.Names.{same_name}
use Rattle.uc_tree.specs.Numbering.{at_most, exclusive_name, exclusive_names, with_name, member_form_name, sig_name, place_from, is_exclusive, defined_by, item_defined, items_defined, main_name, is_event, is_mutex, is_plain, member_number, mutex_members, Defined, routines_of}
use Rattle.uc_tree.specs.Objects.{class_at, number_at, place_of, Making, APlain, AMutex, making_by, making, event_place, member_from, is_member, is_constructor, written_at, unwritten_number, has_execution, is_task}
use Rattle.uc_tree.specs.Programs as whole
use Rattle.uc_tree.specs.Programs.{Program}
use Rattle.uc_tree.specs.ProgramMain.{main_among, main_number, is_main_sig, returns_as_main, no_params}
use Rattle.uc_resolve.specs.Standings as tree
use Rattle.uc_resolve.specs.Resolve.{source_of, place_by, class_by, has_number_in, has_tasks, has_coroutines, is_main, main_at, event_constructor}
use Rattle.uc_rules.specs.declared.rule.Rule.TheVariants.{S3, S6}
use Rattle.uc_rules.specs.Sorts.{has_main}
use Rattle.uc_rules.specs.Names.{form_sig, method_sig}
use Rattle.uc_rules.specs.ClassBreaks.{is_void_base, is_main_of_class, form_is_main, is_well_mained, members_declare}
use Rattle.uc_rules.specs.ItemBreaks.{is_program_main, mains_in, main_breaks}
use Rattle.uc_rules.specs.ProgramVisits.{program_visits}
use Rattle.uc_typing.specs.Typing.{Sig, Makes}
use Rattle.uc_sound.specs.Unbroken.{Unbroken}
use Rattle.uc_sound.proofs.Ties.{some_same, none_some, false_true}
use Rattle.uc_sound.proofs.UnbrokenLemmas.{none_left, holds}
use Rattle.uc_sound.specs.SoundFormed.{IsFormed}
use Rattle.uc_sound.specs.Tables.{role_inward, table_of}
use Rattle.uc_sound.proofs.Lists.{left_is, right_is, both_are, any_at, get_right}
use Rattle.uc_sound.proofs.ClassNames.{same_is, number_of, event_at}
use Rattle.uc_sound.proofs.Origins.{Looked, looked, routine_looked, member_looked, event_looked}
use Rattle.uc_sound.proofs.Signatures.{has_sig}
use Rattle.uc_sound.proofs.Visited.{class_own}
use Rattle.uc_sound.proofs.BodyLemmas.{main_sig}
use Rattle.uc_sound.proofs.ClassLemmas.{law_told}
use Rattle.uc_sound.proofs.RoutineLemmas.{defined_routine, no_place, plain_place}
use Rattle.uc_sound.proofs.MemberLemmas.{numbered_place, tells_maker}
use Rattle.uc_depth_laws.specs.Entering.{is_holding, is_building, IsMain}
use Rattle.uc_sound.proofs.Holding.{IsFree, free_routine, plain_routine}
use Rattle.uc_sound.proofs.Mains.{main_meant}
use Rattle.uc_sound.proofs.Freeing.{no_building, plain_building}

-- whether a declaration makes a plain object of a class that is there

-- a class with objects of its own
pub record IsObjectClass (p : Program) (i : ℕ) : Type 0 where
  pub class : whole.Class
  pub at : class_at p i ≡ Some class
  pub object : is_event class.kind ≡ false

pub record IsPlainClass (p : Program) (i : ℕ) : Type 0 where
  pub class : whole.Class
  pub at : class_at p i ≡ Some class
  pub plain : is_mutex class.kind ≡ false
  pub object : is_event class.kind ≡ false

abbrev pub MakesPlain : Program → Option Making → Type 0
MakesPlain p None = Unit {0}
MakesPlain p (Some (APlain i)) = IsPlainClass p i
MakesPlain p (Some (AMutex i)) = IsObjectClass p i
MakesPlain p (Some m) = Unit {0}

record NamedObject (cs : List whole.Class) (i : ℕ) (o : FieldClass) : Type 0 where
  n : ℕ
  class : whole.Class
  at : slice_get cs n ≡ Some class
  place : i + n ≡ o.class
  plain : o.plain ≡ true → is_mutex class.kind ≡ false
  object : is_event class.kind ≡ false

of_kind : (c : whole.Class) (cs : List whole.Class) (i : ℕ) (o : FieldClass) → object_of_kind i c.kind ≡ Some o → NamedObject (c ∷ cs) i o
of_kind c cs i o e = by c.kind refl e
  where
    here : (b : Bool) → Some (record { class = i; plain = b }) ≡ Some o → (o.plain ≡ true → is_mutex c.kind ≡ false) → is_event c.kind ≡ false → NamedObject (c ∷ cs) i o
    here b e m v = record {
      n = 0;
      class = c;
      at = refl;
      place = let q : i ≡ o.class = ap (λ (x : FieldClass). x.class) (some_same e) in omega (arith, q);
      plain = m;
      object = v;
    }

    shared : Some (record { class = i; plain = false }) ≡ Some o → o.plain ≡ true → is_mutex c.kind ≡ false
    shared e h = let q : false ≡ o.plain = ap (λ (x : FieldClass). x.plain) (some_same e) in false_true (q ∙ h)

    by : (k : Kind) → c.kind ≡ k → object_of_kind i k ≡ Some o → NamedObject (c ∷ cs) i o
    by kind.Class q e = here true e (λ h. ap is_mutex q) (ap is_event q)
    by kind.Coroutine q e = here true e (λ h. ap is_mutex q) (ap is_event q)
    by kind.Monitor q e = here false e (shared e) (ap is_event q)
    by kind.Cormonitor q e = here false e (shared e) (ap is_event q)
    by kind.Task q e = here false e (shared e) (ap is_event q)
    by kind.Event q e = none_some e

named_object : (cs : List whole.Class) (i : ℕ) (name : List ℕ) (o : FieldClass) → object_named cs i name ≡ Some o → NamedObject cs i o
named_object [] i name o e = none_some e
named_object (c ∷ cs) i name o e = by (same_name c.name name) e (named_object cs (i + 1) name o)
  where
    by : (b : Bool) → (if b then object_of_kind i c.kind else object_named cs (i + 1) name) ≡ Some o → (object_named cs (i + 1) name ≡ Some o → NamedObject cs (i + 1) o) → NamedObject (c ∷ cs) i o
    by true e ih = of_kind c cs i o e
    by false e ih =
        let r = ih e in
        record { n = suc r.n; class = r.class; at = r.at; place = let q = r.place in omega (arith, q); plain = r.plain; object = r.object }

named_making : (p : Program) (name : List ℕ) (o : Option FieldClass) → object_named (classes_of p.items) 0 name ≡ o → MakesPlain p (making_by o (base.Named name))
named_making p name None e = tt
named_making p name (Some o) e = by o.plain refl
  where
    named : NamedObject (classes_of p.items) 0 o
    named = named_object (classes_of p.items) 0 name o e

    at : class_at p o.class ≡ Some named.class
    at =
        let same : named.n ≡ o.class = let z = named.place in omega (arith, z) in
        subst (λ n. slice_get (classes_of p.items) n ≡ Some named.class) same named.at

    by : (b : Bool) → o.plain ≡ b → MakesPlain p (Some (if b then APlain o.class else AMutex o.class))
    by true q = record { class = named.class; at = at; plain = named.plain q; object = named.object }
    by false q = record { class = named.class; at = at; object = named.object }

pub making_plain : (p : Program) (b : Base) → MakesPlain p (making p b)
making_plain p base.Void = tt
making_plain p base.Int = tt
making_plain p base.Char = tt
making_plain p base.Bool = tt
making_plain p base.Condition = tt
making_plain p base.Cluster = tt
making_plain p base.Processor = tt
making_plain p (base.Named name) = named_making p name (object_named (classes_of p.items) 0 name) refl

-- a main has no number among the members of a class

abbrev AllOther : List (List ℕ) → Type 0
AllOther [] = Unit {0}
AllOther (n ∷ ns) = (same_name n main_name ≡ false) × AllOther ns

one_more : (ns : List (List ℕ)) (n : List ℕ) → AllOther ns → same_name n main_name ≡ false → AllOther (ns ++ n ∷ [])
one_more [] n h e = (e, tt)
one_more (x ∷ ns) n h e = (h.0, one_more ns n h.1 e)

abbrev IsOther : Option (List ℕ) → Type 0
IsOther None = Unit {0}
IsOther (Some n) = same_name n main_name ≡ false

sig_other : (s : whole.Sig) → IsOther (sig_name s)
sig_other s = by (is_plain s.role) (same_name s.name main_name) refl
  where
    by : (a b : Bool) → same_name s.name main_name ≡ b → IsOther (if a && not b then Some s.name else None)
    by false b e = tt
    by true true e = tt
    by true false e = e

form_other : (f : whole.MemberForm) → IsOther (member_form_name f)
form_other (whole.FieldsMember at b ds) = tt
form_other (whole.RoutineMember r) = sig_other r.sig
form_other (whole.ProtoMember s) = sig_other s

member_other : (m : whole.Member) → IsOther (exclusive_name m)
member_other m = by (is_exclusive m.mark m.access)
  where
    by : (b : Bool) → IsOther (if b then member_form_name m.form else None)
    by true = form_other m.form
    by false = tt

with_other : (o : Option (List ℕ)) (seen : List (List ℕ)) → IsOther o → AllOther seen → AllOther (with_name o seen)
with_other None seen h k = k
with_other (Some n) seen h k = by (list_any (λ x. same_name x n) seen)
  where
    by : (b : Bool) → AllOther (if b then seen else seen ++ n ∷ [])
    by true = k
    by false = one_more seen n k h

names_other : (seen : List (List ℕ)) (ms : List whole.Member) → AllOther seen → AllOther (exclusive_names seen ms)
names_other seen [] h = h
names_other seen (m ∷ ms) h = names_other (with_name (exclusive_name m) seen) ms (with_other (exclusive_name m) seen (member_other m) h)

members_other : (c : whole.Class) → AllOther (mutex_members c)
members_other c = by (is_mutex c.kind)
  where
    by : (b : Bool) → AllOther (if b then exclusive_names [] c.members else [])
    by true = names_other [] c.members tt
    by false = tt

no_place_from : (k : ℕ) (ns : List (List ℕ)) → AllOther ns → place_from k ns main_name ≡ None
no_place_from k [] h = refl
no_place_from k (n ∷ ns) h = ap (λ (b : Bool). if b then Some k else place_from (k + 1) ns main_name) h.0 ∙ no_place_from (k + 1) ns h.1

pub main_unnumbered : (c : whole.Class) → member_number c main_name ≡ None
main_unnumbered c = ap (option_and_then (at_most MEMBERS)) (no_place_from 1 (mutex_members c) (members_other c))

unnumbered_in : (p : Program) (o : Option whole.Class) (s : whole.Sig) → s.name ≡ main_name → has_number_in p o s ≡ false
unnumbered_in p None s e = refl
unnumbered_in p (Some c) s e = by (is_plain s.role) (ap (λ n. is_some (member_number c n)) e ∙ ap is_some (main_unnumbered c))
  where
    by : (b : Bool) {x : Bool} → x ≡ false → (b && x) ≡ false
    by true e = e
    by false e = refl

or_second : (a b : Bool) → b ≡ true → (a || b) ≡ true
or_second true b h = refl
or_second false b h = h

or_first : (a b : Bool) → a ≡ true → (a || b) ≡ true
or_first true b h = refl
or_first false b h = false_true h

module _ (p : Program) (formed : IsFormed p) (u : Unbroken (program_visits p)) where
  at_place : (r n : ℕ) → Some r ≡ Some (0 + n) → n ≡ r
  at_place r n e = let q : r ≡ 0 + n = some_same e in omega (arith, q)

  -- a routine outside of classes
  pub routine_free : (r : ℕ) (name : List ℕ) → tree.routine_from (routines_of p) 0 name ≡ Some r → is_holding (source_of p) r ≡ false
  routine_free r name e =
      let k : Looked (λ d. nat_eq d.number 0 && tree.is_named d.routine.sig name) (routines_of p) 0 (Some r) = looked (λ d. nat_eq d.number 0 && tree.is_named d.routine.sig name) (routines_of p) 0 r (sym (routine_looked (routines_of p) 0 name) ∙ e) in
      let d = k.defined in
      let z : d.number ≡ 0 = eqb-true d.number 0 (left_is (nat_eq d.number 0) (tree.is_named d.routine.sig name) k.passes) in
      let named : tree.is_named d.routine.sig name ≡ true = right_is (nat_eq d.number 0) (tree.is_named d.routine.sig name) k.passes in
      let w = left_is (is_plain d.routine.sig.role) (same_name d.routine.sig.name name) (right_is (tree.is_here d.routine.sig.owner) (is_plain d.routine.sig.role && same_name d.routine.sig.name name) named) in
      let place : place_by p d ≡ None = plain_place p formed u d w ∙ (ap (place_of p) z ∙ no_place p formed u (classes_of p.items)) in
      subst (λ n. is_holding (source_of p) n ≡ false) (at_place r k.n k.found) (plain_routine p k.n d k.at w (ap (λ o. has_number_in p (class_by p o) d.routine.sig) place))

  -- a member without a number
  pub member_free : (i : ℕ) (c : whole.Class) (name : List ℕ) (r : ℕ) → class_at p i ≡ Some c → is_event c.kind ≡ false → member_number c name ≡ None → member_from (routines_of p) 0 (number_at p i) name ≡ Some r → is_holding (source_of p) r ≡ false
  member_free i c name r at v m e =
      let class = number_at p i in
      let k : Looked (is_member class name) (routines_of p) 0 (Some r) = looked (is_member class name) (routines_of p) 0 r (sym (member_looked (routines_of p) 0 class name) ∙ e) in
      let d = k.defined in
      let z : d.number ≡ class = eqb-true d.number class (left_is (nat_eq d.number class) (is_plain d.routine.sig.role && same_name d.routine.sig.name name) k.passes) in
      let rest : (is_plain d.routine.sig.role && same_name d.routine.sig.name name) ≡ true = right_is (nat_eq d.number class) (is_plain d.routine.sig.role && same_name d.routine.sig.name name) k.passes in
      let w = left_is (is_plain d.routine.sig.role) (same_name d.routine.sig.name name) rest in
      let named : d.routine.sig.name ≡ name = same_is d.routine.sig.name name (right_is (is_plain d.routine.sig.role) (same_name d.routine.sig.name name) rest) in
      let place : place_by p d ≡ Some i = numbered_place p formed u i d (number_of p u i c formed.classes at v) z in
      let none : is_some (member_number c d.routine.sig.name) ≡ false = ap (λ n. is_some (member_number c n)) named ∙ ap is_some m in
      let here : has_number_in p (Some c) d.routine.sig ≡ false = ap (λ b. is_plain d.routine.sig.role && b) none ∙ and_false (is_plain d.routine.sig.role) in
      let there : has_number_in p (class_by p (place_by p d)) d.routine.sig ≡ false = ap (λ o. has_number_in p (class_by p o) d.routine.sig) place ∙ (ap (λ o. has_number_in p o d.routine.sig) at ∙ here) in
      subst (λ n. is_holding (source_of p) n ≡ false) (at_place r k.n k.found) (plain_routine p k.n d k.at w there)
    where
      and_false : (b : Bool) → (b && false) ≡ false
      and_false true = refl
      and_false false = refl

  -- a member builds no object
  pub member_building : (i : ℕ) (name : List ℕ) (r : ℕ) → member_from (routines_of p) 0 (number_at p i) name ≡ Some r → is_building (source_of p) r ≡ false
  member_building i name r e =
      let class = number_at p i in
      let k : Looked (is_member class name) (routines_of p) 0 (Some r) = looked (is_member class name) (routines_of p) 0 r (sym (member_looked (routines_of p) 0 class name) ∙ e) in
      let d = k.defined in
      let rest : (is_plain d.routine.sig.role && same_name d.routine.sig.name name) ≡ true = right_is (nat_eq d.number class) (is_plain d.routine.sig.role && same_name d.routine.sig.name name) k.passes in
      subst (λ n. is_building (source_of p) n ≡ false) (at_place r k.n k.found) (plain_building p k.n d k.at (left_is (is_plain d.routine.sig.role) (same_name d.routine.sig.name name) rest))

  -- nor does what destroys one
  destroying : (b : Bool) → role_inward role.Destructor b ≡ Makes → ⊥
  destroying true e = cc
  destroying false e = cc

  pub written_building : (i r : ℕ) → IsObjectClass p i → written_at p i role.Destructor ≡ Some r → is_building (source_of p) r ≡ false
  written_building i r c e =
      no_building p r (λ m. destroying ((table_of p).mutex i) (sym ((tells_maker p formed u i c.class role.Destructor c.at c.object refl).written_inward r e) ∙ m))

  pub unwritten_building : (i : ℕ) → IsObjectClass p i → written_at p i role.Destructor ≡ None → is_building (source_of p) (unwritten_number p i role.Destructor) ≡ false
  unwritten_building i c e =
      no_building p (unwritten_number p i role.Destructor) (λ m. destroying ((table_of p).mutex i) (sym ((tells_maker p formed u i c.class role.Destructor c.at c.object refl).unwritten_inward e) ∙ m))

  -- what builds an event
  event_kind : (k : Kind) → is_event k ≡ true → is_mutex k ≡ false
  event_kind kind.Event h = refl
  event_kind _ h = false_true h

  event_class : (name : List ℕ) (o : Option ℕ) → event_place p (base.Named name) ≡ o → IsFree p (class_by p o)
  event_class name None e = tt
  event_class name (Some j) e =
      let x = event_at (classes_of p.items) 0 name j e in
      let same : x.n ≡ j = let z = x.place in omega (arith, z) in
      let at : class_at p j ≡ Some x.class = subst (λ n. slice_get (classes_of p.items) n ≡ Some x.class) same x.at in
      subst (IsFree p) (sym at) (event_kind x.class.kind x.event)

  pub event_free : (r : ℕ) (name : List ℕ) → event_constructor p name ≡ Some r → is_holding (source_of p) r ≡ false
  event_free r name e =
      let test : Defined → Bool = λ d. nat_eq d.number 0 && (is_constructor d.routine.sig.role && same_name d.routine.sig.name name) in
      let k : Looked (λ d. nat_eq d.number 0 && (is_constructor d.routine.sig.role && same_name d.routine.sig.name name)) (routines_of p) 0 (Some r) = looked (λ d. nat_eq d.number 0 && (is_constructor d.routine.sig.role && same_name d.routine.sig.name name)) (routines_of p) 0 r (sym (event_looked (routines_of p) 0 name) ∙ e) in
      let d = k.defined in
      let z : nat_eq d.number 0 ≡ true = left_is (nat_eq d.number 0) (is_constructor d.routine.sig.role && same_name d.routine.sig.name name) k.passes in
      let w : is_constructor d.routine.sig.role ≡ true = left_is (is_constructor d.routine.sig.role) (same_name d.routine.sig.name name) (right_is (nat_eq d.number 0) (is_constructor d.routine.sig.role && same_name d.routine.sig.name name) k.passes) in
      let place : place_by p d ≡ event_place p (base.Named d.routine.sig.name) = ap (λ (b : Bool). if b then event_place p (base.Named d.routine.sig.name) else place_of p d.number) (both_are (nat_eq d.number 0) (is_constructor d.routine.sig.role) z w) in
      let this : ((table_of p).routine k.n).this ≡ event_place p (base.Named d.routine.sig.name) = ap (λ (g : Sig). g.this) (has_sig p k.n d k.at).sig ∙ place in
      subst (λ n. is_holding (source_of p) n ≡ false) (at_place r k.n k.found) (free_routine p k.n (subst (λ o. IsFree p (class_by p o)) (sym this) (event_class d.routine.sig.name (event_place p (base.Named d.routine.sig.name)) refl)))

  -- what builds and destroys plain objects

  plain_this : (i r : ℕ) → IsPlainClass p i → ((table_of p).routine r).this ≡ Some i → is_holding (source_of p) r ≡ false
  plain_this i r c this = free_routine p r (subst (λ o. IsFree p (class_by p o)) (sym this) (subst (IsFree p) (sym c.at) c.plain))

  pub written_free : (i r : ℕ) (wanted : Role) → IsPlainClass p i → is_plain wanted ≡ false → written_at p i wanted ≡ Some r → is_holding (source_of p) r ≡ false
  written_free i r wanted c w e = plain_this i r c ((tells_maker p formed u i c.class wanted c.at c.object w).written r e).this

  pub unwritten_free : (i : ℕ) (wanted : Role) → IsPlainClass p i → is_plain wanted ≡ false → written_at p i wanted ≡ None → is_holding (source_of p) (unwritten_number p i wanted) ≡ false
  unwritten_free i wanted c w e = plain_this i (unwritten_number p i wanted) c ((tells_maker p formed u i c.class wanted c.at c.object w).unwritten_this e)

  -- the main of a class

  record MainOf (i : ℕ) : Type 0 where
    n : ℕ
    defined : Defined
    at : slice_get (routines_of p) n ≡ Some defined
    place : place_by p defined ≡ Some i
    main : is_main p defined.routine.sig ≡ true
    number : main_at p i ≡ n

  module _ (i : ℕ) (c : whole.Class) (e : class_at p i ≡ Some c) (v : is_event c.kind ≡ false) where
    main_member : (r : ℕ) → member_from (routines_of p) 0 (number_at p i) main_name ≡ Some r → MainOf i
    main_member r f =
        let class = number_at p i in
        let k : Looked (is_member class main_name) (routines_of p) 0 (Some r) = looked (is_member class main_name) (routines_of p) 0 r (sym (member_looked (routines_of p) 0 class main_name) ∙ f) in
        let d = k.defined in
        let z : d.number ≡ class = eqb-true d.number class (left_is (nat_eq d.number class) (is_plain d.routine.sig.role && same_name d.routine.sig.name main_name) k.passes) in
        record {
          n = k.n;
          defined = d;
          at = k.at;
          place = numbered_place p formed u i d (number_of p u i c formed.classes e v) z;
          main = right_is (nat_eq d.number class) (is_plain d.routine.sig.role && same_name d.routine.sig.name main_name) k.passes;
          number = ap (λ o. unwrap_or o 0) f ∙ sym (at_place r k.n k.found);
        }

    main_of_sig : (j : ℕ) (sig : whole.Sig) → method_sig p i j ≡ Some sig → is_main_of_class sig ≡ true → MainOf i
    main_of_sig j sig m h =
        let plain = left_is (is_plain sig.role) (same_name sig.name main_name && (is_void_base sig.ret && nat_eq (length sig.params) 0)) h in
        let h1 = right_is (is_plain sig.role) (same_name sig.name main_name && (is_void_base sig.ret && nat_eq (length sig.params) 0)) h in
        let named = same_is sig.name main_name (left_is (same_name sig.name main_name) (is_void_base sig.ret && nat_eq (length sig.params) 0) h1) in
        let k = (law_told p formed u).members i j c sig e m plain in
        main_member k.number (ap (member_from (routines_of p) 0 (number_at p i)) (sym named) ∙ k.found)

    by_form : (j : ℕ) (m : whole.Member) (form : whole.MemberForm) → slice_get c.members j ≡ Some m → m.form ≡ form → form_is_main form ≡ true → MainOf i
    by_form j m (whole.FieldsMember at b ds) a f h = false_true h
    by_form j m (whole.RoutineMember r) a f h = main_of_sig j r.sig (ap (option_and_then (λ (c : whole.Class). option_and_then (λ (m : whole.Member). form_sig m.form) (slice_get c.members j))) e ∙ (ap (option_and_then (λ (m : whole.Member). form_sig m.form)) a ∙ ap form_sig f)) h
    by_form j m (whole.ProtoMember s) a f h = main_of_sig j s (ap (option_and_then (λ (c : whole.Class). option_and_then (λ (m : whole.Member). form_sig m.form) (slice_get c.members j))) e ∙ (ap (option_and_then (λ (m : whole.Member). form_sig m.form)) a ∙ ap form_sig f)) h

    main_of : has_main c.kind ≡ true → MainOf i
    main_of h =
        let well : is_well_mained c ≡ true = holds (is_well_mained c) S6 c.pos _ (class_own p u i c e) in
        let k = subst (λ (b : Bool). (if b then list_any (λ (m : whole.Member). form_is_main m.form) c.members else not (list_any (λ n. same_name n main_name) (members_declare c.members))) ≡ true) h well in
        let f = any_at (λ (m : whole.Member). form_is_main m.form) c.members k in
        by_form f.0 f.1 f.1.form f.2 refl f.3

    -- it holds no object, and ends as a main

    pub main_free : has_main c.kind ≡ true → is_holding (source_of p) (main_at p i) ≡ false
    main_free h =
        let m : MainOf i = main_of h in
        let s : whole.Sig = m.defined.routine.sig in
        let named : s.name ≡ main_name = same_is s.name main_name (right_is (is_plain s.role) (same_name s.name main_name) m.main) in
        subst (λ n. is_holding (source_of p) n ≡ false) (sym m.number) (plain_routine p m.n m.defined m.at (left_is (is_plain s.role) (same_name s.name main_name) m.main) (unnumbered_in p (class_by p (place_by p m.defined)) s named))

    pub main_ends : has_main c.kind ≡ true → (is_task c.kind ≡ true) ⊎ (has_execution c.kind ≡ true) → IsMain (source_of p) (main_at p i)
    main_ends h k =
        let m : MainOf i = main_of h in
        let at : class_by p (place_by p m.defined) ≡ Some c = ap (class_by p) m.place ∙ e in
        subst (IsMain (source_of p)) (sym m.number) (main_meant p m.n m.defined m.at (by m at k))
      where
        by : (m : MainOf i) → class_by p (place_by p m.defined) ≡ Some c → (is_task c.kind ≡ true) ⊎ (has_execution c.kind ≡ true) → ((nat_eq m.n (main_number p) || (has_tasks p (class_by p (place_by p m.defined)) && is_main p m.defined.routine.sig)) ≡ true) ⊎ ((has_coroutines p (class_by p (place_by p m.defined)) && is_main p m.defined.routine.sig) ≡ true)
        by m at (inl t) = inl (or_second (nat_eq m.n (main_number p)) _ (both_are (has_tasks p (class_by p (place_by p m.defined))) (is_main p m.defined.routine.sig) (ap (has_tasks p) at ∙ t) m.main))
        by m at (inr x) = inr (both_are (has_coroutines p (class_by p (place_by p m.defined))) (is_main p m.defined.routine.sig) (ap (has_coroutines p) at ∙ x) m.main)

-- the main of the program

pub record MainAt (p : Program) (ds : List Defined) (n : ℕ) : Type 0 where
  pub routine : whole.Routine
  pub at : slice_get ds n ≡ Some (defined_by p routine.sig.owner routine)
  pub main : is_main_sig routine.sig ≡ true

module _ (p : Program) where
  behind : (x : whole.Item) (xs : List whole.Item) → MainAt p (items_defined p xs) (main_among p xs) → MainAt p (item_defined p x ++ items_defined p xs) (length (item_defined p x) + main_among p xs)
  behind x xs m = record {
    routine = m.routine;
    at = get_right (item_defined p x) (items_defined p xs) (main_among p xs) (length (item_defined p x) + main_among p xs) refl ∙ m.at;
    main = m.main;
  }

  routine_main : (r : whole.Routine) (xs : List whole.Item) → 1 ≤ mains_in (whole.RoutineItem r ∷ xs) → (1 ≤ mains_in xs → MainAt p (items_defined p xs) (main_among p xs)) → MainAt p (items_defined p (whole.RoutineItem r ∷ xs)) (main_among p (whole.RoutineItem r ∷ xs))
  routine_main r xs l f = by (is_main_sig r.sig) refl
    where
      fewer : (b : Bool) → is_program_main r.sig ≡ b → is_main_sig r.sig ≡ false → 1 ≤ (if b then 1 else 0) + mains_in xs → 1 ≤ mains_in xs
      fewer true h g l = false_true (sym g ∙ main_sig p r.sig h)
      fewer false h g l = omega (arith, l)

      by : (b : Bool) → is_main_sig r.sig ≡ b → MainAt p (item_defined p (whole.RoutineItem r) ++ items_defined p xs) (if b then 0 else length (item_defined p (whole.RoutineItem r)) + main_among p xs)
      by true h = record { routine = r; at = refl; main = h }
      by false h = behind (whole.RoutineItem r) xs (f (fewer (is_program_main r.sig) refl h l))

  main_found : (xs : List whole.Item) → 1 ≤ mains_in xs → MainAt p (items_defined p xs) (main_among p xs)
  main_found [] l = let z : ⊥ = omega (arith, l) in absurd z
  main_found (whole.RoutineItem r ∷ xs) l = routine_main r xs l (main_found xs)
  main_found (whole.ClassItem c ∷ xs) l = behind (whole.ClassItem c) xs (main_found xs (omega (arith, l)))
  main_found (whole.ConstItem c ∷ xs) l = behind (whole.ConstItem c) xs (main_found xs (omega (arith, l)))
  main_found (whole.ProtoItem s ∷ xs) l = behind (whole.ProtoItem s) xs (main_found xs (omega (arith, l)))
  main_found (whole.ForwardItem f ∷ xs) l = behind (whole.ForwardItem f) xs (main_found xs (omega (arith, l)))
  main_found (whole.UsingItem q ∷ xs) l = behind (whole.UsingItem q) xs (main_found xs (omega (arith, l)))

  pub found_in : Unbroken (program_visits p) → MainAt p (items_defined p p.items) (main_among p p.items)
  found_in u =
      let one = eqb-true (mains_in p.items) 1 (holds (nat_eq (mains_in p.items) 1) S3 _ _ (none_left (main_breaks p ++ []) _ u)) in
      main_found p.items (omega (arith, one))

  pub program_main_free : IsFormed p → Unbroken (program_visits p) → is_holding (source_of p) (main_number p) ≡ false
  program_main_free formed u =
      let m = found_in u in
      let d : Defined = defined_by p m.routine.sig.owner m.routine in
      let same : d.routine ≡ m.routine = defined_routine p formed u m.routine.sig.owner m.routine in
      let rest = right_is (returns_as_main m.routine.sig.owner m.routine.sig.ret) (same_name m.routine.sig.name main_name && (is_plain m.routine.sig.role && no_params m.routine.sig.params)) m.main in
      let named = same_is m.routine.sig.name main_name (left_is (same_name m.routine.sig.name main_name) (is_plain m.routine.sig.role && no_params m.routine.sig.params) rest) in
      let plain : is_plain d.routine.sig.role ≡ true = ap (λ (z : whole.Routine). is_plain z.sig.role) same ∙ left_is (is_plain m.routine.sig.role) (no_params m.routine.sig.params) (right_is (same_name m.routine.sig.name main_name) (is_plain m.routine.sig.role && no_params m.routine.sig.params) rest) in
      let own : d.routine.sig.name ≡ main_name = ap (λ (z : whole.Routine). z.sig.name) same ∙ named in
      plain_routine p (main_number p) d m.at plain (unnumbered_in p (class_by p (place_by p d)) d.routine.sig own)

  pub program_main_ends : Unbroken (program_visits p) → IsMain (source_of p) (main_number p)
  program_main_ends u =
      let m = found_in u in
      main_meant p (main_number p) (defined_by p m.routine.sig.owner m.routine) m.at (inl (or_first _ _ (eq-eqb (main_number p) (main_number p) refl)))
