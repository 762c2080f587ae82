-- What the rules call an inner routine of a class runs inside its object, and what enters that object lets go of it.
use Rattle.std.proofs.Common.{◌≡◌, ℕ, suc, ◌+◌, ◌⊎◌, inl, inr, List, [], ◌∷◌, Option, Some, None, Bool, true, false, refl, sym, ap, ◌∙◌, subst, arith}
use Rattle.std.specs.Prelude.{◌&&◌, ◌||◌, not, slice_get, if◌then◌else◌, is_some}
use Rattle.uc_tree.specs.declared.kinds.Kind.{Kind}
use Rattle.uc_tree.specs.declared.kinds.Kind.TheVariants as kind
use Rattle.uc_tree.specs.declared.kinds.MutexMark.{MutexMark}
use Rattle.uc_tree.specs.declared.kinds.Role.{Role}
use Rattle.uc_tree.specs.declared.kinds.Role.TheVariants as role
use Rattle.uc_tree.specs.Names.{same_name}
use Rattle.uc_tree.specs.Numbering.{is_mutex, is_plain, is_public, is_exclusive, exclusive_name, member_form_name, sig_name, main_name, member_number}
use Rattle.std.specs.List.{list_any}
use Rattle.uc_tree.specs.Cells.{leading_cells}
use Rattle.uc_tree.specs.Objects.{class_at, has_execution, fields_of}
use Rattle.uc_tree.specs.Source.{Stmts}
use Rattle.uc_tree.specs.Programs.{Sig as Declared, Init, Routine, Class, Member, MemberForm, FieldsMember, RoutineMember, ProtoMember, Program}
use Rattle.uc_resolve.specs.Resolve.{Scope, class_by, place_or_zero, has_number_in, plain_body, freed, ending, forgotten, fields_left, taken_down, construction, destruction}
use Rattle.uc_rules.specs.declared.rule.Rule.TheVariants.{S19}
use Rattle.uc_rules.specs.declared.rules.OwnClass.{OwnClass}
use Rattle.uc_rules.specs.Names.{is_nomutex, is_inner_only, form_sig, member_named}
use Rattle.uc_rules.specs.Scopes.{is_inner}
use Rattle.uc_rules.specs.ClassBreaks.{has_number, is_well_marked, is_unmarked, form_may_be_marked}
use Rattle.uc_rules.specs.ItemBreaks.{form_declares_sig, class_declares}
use Rattle.uc_rules.specs.ProgramVisits.{program_visits, same_role, form_declares, mark_among}
use Rattle.uc_typing.specs.Typing.{Inward, Apart, Enters, Makes, Helps, Main, IsInside}
use Rattle.uc_typing.specs.States.{LetsGo}
use Rattle.uc_sound.specs.Unbroken.{Unbroken}
use Rattle.uc_sound.proofs.Ties.{some_same, none_some, false_true}
use Rattle.uc_sound.proofs.UnbrokenLemmas.{holds}
use Rattle.uc_sound.specs.SoundFormed.{IsFormed}
use Rattle.uc_sound.specs.Tables.{helps_in, inward_by, inward_in, inward_at}
use Rattle.uc_sound.proofs.Lists.{left_is, right_is, both_are}
use Rattle.uc_sound.proofs.Likes.{role_is, sig_is}
use Rattle.uc_sound.proofs.ClassNames.{same_is, is_same}
use Rattle.uc_sound.proofs.Visited.{member_rules}
use Rattle.uc_sound.proofs.MemberLemmas.{Declares}
use Rattle.uc_sound.proofs.RootLemmas.{helps_is}

-- no other routine lets go of its object
abbrev pub Lets : Inward → Type 0
Lets w = (w ≡ Enters) ⊎ (w ≡ Makes)

pub apart : {B : Type 0} → Lets Apart → B
apart (inl e) = absurd (cc)
apart (inr e) = absurd (cc)

helping_not : {B : Type 0} → Lets Helps → B
helping_not (inl e) = absurd (cc)
helping_not (inr e) = absurd (cc)

main_not : {B : Type 0} → Lets Main → B
main_not (inl e) = absurd (cc)
main_not (inr e) = absurd (cc)

module _ (p : Program) where
  -- it is of a mutex class
  pub record OfMutex (o : Option ℕ) : Type 0 where
    pub place : ℕ
    pub class : Class
    pub is : o ≡ Some place
    pub at : class_at p place ≡ Some class
    pub mutex : is_mutex class.kind ≡ true

  pub of_mutex : (o : Option ℕ) (r : Role) (name : List ℕ) → Lets (inward_at p o r name) → OfMutex o
  of_mutex None r name h = apart h
  of_mutex (Some i) r name h = by (class_at p i) refl h
    where
      by_kind : (c : Class) → class_at p i ≡ Some c → (b : Bool) → is_mutex c.kind ≡ b → Lets (if b then inward_by r (same_name name main_name) (is_some (member_number c name)) (helps_in (member_named p i name)) else Apart) → OfMutex (Some i)
      by_kind c e true q h = record { place = i; class = c; is = refl; at = e; mutex = q }
      by_kind c e false q h = apart h

      by : (o : Option Class) → class_at p i ≡ o → Lets (inward_in p i o r name) → OfMutex (Some i)
      by None e h = apart h
      by (Some c) e h = by_kind c e (is_mutex c.kind) refl h

  -- the members that let go have numbers
  lets_number : (o : Option ℕ) (sig : Declared) → is_plain sig.role ≡ true → Lets (inward_at p o role.Plain sig.name) → has_number_in p (class_by p o) sig ≡ true
  lets_number None sig w h = apart h
  lets_number (Some i) sig w h = by (class_at p i) h
    where
      by_test : (main number helps : Bool) → Lets (inward_by role.Plain main number helps) → number ≡ true
      by_test true number helps h = main_not h
      by_test false true helps h = refl
      by_test false false true h = helping_not h
      by_test false false false h = apart h

      by_kind : (c : Class) (b : Bool) → Lets (if b then inward_by role.Plain (same_name sig.name main_name) (is_some (member_number c sig.name)) (helps_in (member_named p i sig.name)) else Apart) → is_some (member_number c sig.name) ≡ true
      by_kind c true h = by_test (same_name sig.name main_name) (is_some (member_number c sig.name)) (helps_in (member_named p i sig.name)) h
      by_kind c false h = apart h

      by : (o : Option Class) → Lets (inward_in p i o role.Plain sig.name) → has_number_in p o sig ≡ true
      by None h = apart h
      by (Some c) h = ap (λ (b : Bool). b && is_some (member_number c sig.name)) w ∙ by_kind c (is_mutex c.kind) h

  freed_lets : (k : Kind) (i : ℕ) (rest : Stmts) → is_mutex k ≡ true → LetsGo (freed p k i rest)
  freed_lets kind.Monitor i rest h = tt
  freed_lets kind.Cormonitor i rest h = tt
  freed_lets kind.Task i rest h = tt
  freed_lets kind.Class i rest h = false_true h
  freed_lets kind.Coroutine i rest h = false_true h
  freed_lets kind.Event i rest h = false_true h

  -- the bodies of what enters, builds and destroys a mutex object let go of it
  pub construction_lets : (o : Option ℕ) (name : List ℕ) (inits : List Init) (s : Scope) (body : ℕ → Option Class → Stmts) → Lets (inward_at p o role.Constructor name) → LetsGo (construction p (class_by p o) (place_or_zero p o) inits s (body (place_or_zero p o) (class_by p o)))
  construction_lets o name inits s body h =
      let k = of_mutex o role.Constructor name h in
      subst (λ (z : Option ℕ). LetsGo (construction p (class_by p z) (place_or_zero p z) inits s (body (place_or_zero p z) (class_by p z)))) (sym k.is) (subst (λ (c : Option Class). LetsGo (construction p c k.place inits s (body k.place c))) (sym k.at) (freed_lets k.class.kind k.place _ k.mutex))

  pub destruction_lets : (o : Option ℕ) (name : List ℕ) (body : Stmts) → Lets (inward_at p o role.Destructor name) → LetsGo (destruction p (class_by p o) (place_or_zero p o) body)
  destruction_lets o name body h =
      let k = of_mutex o role.Destructor name h in
      subst (λ (z : Option ℕ). LetsGo (destruction p (class_by p z) (place_or_zero p z) body)) (sym k.is) (subst (λ (c : Option Class). LetsGo (destruction p c k.place body)) (sym k.at) (subst (λ (b : Bool). LetsGo (ending p b (forgotten p (has_execution k.class.kind) (fields_left p k.class k.place (fields_of k.class.members) (leading_cells k.class.kind) (taken_down p (has_execution k.class.kind) body))))) (sym k.mutex) tt))

  pub member_lets : (o : Option ℕ) (r : Routine) (body : Stmts) → is_plain r.sig.role ≡ true → Lets (inward_at p o role.Plain r.sig.name) → LetsGo (plain_body p (has_number_in p (class_by p o) r.sig) r body)
  member_lets o r body w h =
      subst (λ (b : Bool). LetsGo (plain_body p b r body)) (sym (lets_number o r.sig w h)) tt

-- a routine is declared by a member with this mark
pub record Marked (c : Class) (sig : Declared) (mark : MutexMark) : Type 0 where
  pub j : ℕ
  pub own : Declared
  pub declared : Declares c j own
  pub role_is : own.role ≡ sig.role
  pub name_is : own.name ≡ sig.name
  pub mark_is : declared.m.mark ≡ mark

-- a routine that stands outside is declared by the first member with its role and name
self_role : (a : Role) → same_role a a ≡ true
self_role role.Plain = refl
self_role role.Constructor = refl
self_role role.Destructor = refl

module _ (c : Class) (sig : Declared) where
  marked_by : (m : Member) (j : ℕ) (form : MemberForm) → slice_get c.members j ≡ Some m → m.form ≡ form → form_declares sig form ≡ true → Marked c sig m.mark
  marked_by m j (FieldsMember at b ds) e f h = false_true h
  marked_by m j (RoutineMember r) e f h = false_true h
  marked_by m j (ProtoMember s) e f h = record {
    j = j;
    own = s;
    declared = record { m = m; at = e; form = ap form_sig f };
    role_is = sym (role_is sig.role s.role (left_is (same_role sig.role s.role) (same_name sig.name s.name) h));
    name_is = sym (same_is sig.name s.name (right_is (same_role sig.role s.role) (same_name sig.name s.name) h));
    mark_is = refl;
  }

  declares_too : (form : MemberForm) → form_declares_sig sig form ≡ true → form_declares sig form ≡ true
  declares_too (FieldsMember at b ds) h = false_true h
  declares_too (RoutineMember r) h = false_true h
  declares_too (ProtoMember s) h =
      let k = sig_is s sig h in
      both_are (same_role sig.role s.role) (same_name sig.name s.name) (subst (λ r. same_role sig.role r ≡ true) (sym k.role) (self_role sig.role)) (is_same sig.name s.name (sym k.name))

  marked_from : (ms : List Member) (j : ℕ) → ((k l : ℕ) (m : Member) → j + k ≡ l → slice_get ms k ≡ Some m → slice_get c.members l ≡ Some m) → list_any (λ (m : Member). form_declares_sig sig m.form) ms ≡ true → Marked c sig (mark_among sig ms)
  marked_from [] j f h = false_true h
  marked_from (m ∷ ms) j f h = by (form_declares sig m.form) refl (form_declares_sig sig m.form) refl h (marked_from ms (j + 1) (λ k l x q e. f (suc k) l x (omega (arith, q)) e))
    where
      by : (b : Bool) → form_declares sig m.form ≡ b → (d : Bool) → form_declares_sig sig m.form ≡ d → (d || list_any (λ (m : Member). form_declares_sig sig m.form) ms) ≡ true → (list_any (λ (m : Member). form_declares_sig sig m.form) ms ≡ true → Marked c sig (mark_among sig ms)) → Marked c sig (if b then m.mark else mark_among sig ms)
      by true q d w h ih = marked_by m j m.form (f 0 j m (omega arith) refl) refl q
      by false q true w h ih = false_true (sym q ∙ declares_too m.form w)
      by false q false w h ih = ih h

  pub marked_outside : class_declares sig (Some c) ≡ true → Marked c sig (mark_among sig c.members)
  marked_outside h = marked_from c.members 0 (λ k l m q e. ap (slice_get c.members) (let z : l ≡ k = omega (arith, q) in z) ∙ e) h

module _ (p : Program) (formed : IsFormed p) (u : Unbroken (program_visits p)) (i : ℕ) (c : Class) (e : class_at p i ≡ Some c) where
  -- a mutex member has a number
  numbered : (m : Member) (name : List ℕ) → is_mutex c.kind ≡ true → has_number c (exclusive_name m) ≡ true → is_exclusive m.mark m.access ≡ true → member_form_name m.form ≡ Some name → is_some (member_number c name) ≡ true
  numbered m name k h x f =
      let q : exclusive_name m ≡ Some name = ap (λ (b : Bool). if b then member_form_name m.form else None) x ∙ f in
      let r : (not (is_mutex c.kind) || is_some (member_number c name)) ≡ true = subst (λ o. has_number c o ≡ true) q h in
      subst (λ (b : Bool). (not b || is_some (member_number c name)) ≡ true) k r

  named : (form : MemberForm) (sig : Declared) → form_sig form ≡ Some sig → is_plain sig.role ≡ true → same_name sig.name main_name ≡ false → member_form_name form ≡ Some sig.name
  named (FieldsMember at b ds) sig f w n = none_some f
  named (RoutineMember r) sig f w n =
      ap (λ (z : Declared). sig_name z) (some_same f) ∙ (ap (λ (b : Bool). if b && not (same_name sig.name main_name) then Some sig.name else None) w ∙ ap (λ (b : Bool). if not b then Some sig.name else None) n)
  named (ProtoMember s) sig f w n =
      ap (λ (z : Declared). sig_name z) (some_same f) ∙ (ap (λ (b : Bool). if b && not (same_name sig.name main_name) then Some sig.name else None) w ∙ ap (λ (b : Bool). if not b then Some sig.name else None) n)

  -- what is neither a main nor a mutex member helps inside, where it is not marked as one that does not
  helping : (sig : Declared) (mark : MutexMark) (k : Marked c sig mark) → is_plain sig.role ≡ true → is_mutex c.kind ≡ true → same_name sig.name main_name ≡ false → is_nomutex mark ≡ false → is_some (member_number c sig.name) ≡ false → helps_in (member_named p i sig.name) ≡ true
  helping sig mark k w x n m o =
      let d = k.declared in
      let rule = holds (is_well_marked c d.m) S19 d.m.pos _ (member_rules p u i c e k.j d.m d.at).own in
      let h = right_is (is_unmarked d.m.mark || (is_mutex c.kind && form_may_be_marked d.m.form)) (has_number c (exclusive_name d.m)) rule in
      let own_main : same_name k.own.name main_name ≡ false = ap (λ z. same_name z main_name) k.name_is ∙ n in
      let form = named d.m.form k.own d.form (ap is_plain k.role_is ∙ w) own_main in
      let q = helps_is p i c k.own.name formed u e k.j k.own d (ap is_plain k.role_is ∙ w) refl in
      subst (λ z. helps_in (member_named p i z) ≡ true) k.name_is (q ∙ by (is_exclusive d.m.mark d.m.access) refl h form)
    where
      by : (b : Bool) → is_exclusive k.declared.m.mark k.declared.m.access ≡ b → has_number c (exclusive_name k.declared.m) ≡ true → member_form_name k.declared.m.form ≡ Some k.own.name → is_inner_only c.kind k.declared.m.mark k.declared.m.access ≡ true
      by true b h f =
          let a = numbered k.declared.m k.own.name x h b f in
          false_true (sym o ∙ (ap (λ z. is_some (member_number c z)) (sym k.name_is) ∙ a))
      by false b h f =
          let a = is_public k.declared.m.access in
          ap (λ (z : Bool). z && not (is_exclusive k.declared.m.mark k.declared.m.access || (is_nomutex k.declared.m.mark && a))) x ∙ (ap (λ (z : Bool). not (z || (is_nomutex k.declared.m.mark && a))) b ∙ ap (λ (z : Bool). not (z && a)) (ap is_nomutex k.mark_is ∙ m))

  -- the rules' inner routines run inside
  pub inner_inside : (h : OwnClass) (sig : Declared) (mark : MutexMark) → h.kind ≡ c.kind → (is_plain sig.role ≡ true → Marked c sig mark) → is_inner h mark sig ≡ true → IsInside (inward_in p i (Some c) sig.role sig.name)
  inner_inside h sig mark q marked w =
      subst (λ (b : Bool). IsInside (if b then inward_by sig.role (same_name sig.name main_name) (is_some (member_number c sig.name)) (helps_in (member_named p i sig.name)) else Apart)) (sym mutex) (by sig.role refl)
    where
      mutex : is_mutex c.kind ≡ true
      mutex = ap is_mutex (sym q) ∙ left_is (is_mutex h.kind) _ w

      more : (not (is_plain sig.role) || (same_name sig.name main_name || not (is_nomutex mark))) ≡ true
      more = right_is (is_mutex h.kind) _ w

      no_mark : (b : Bool) → not b ≡ true → b ≡ false
      no_mark true h = sym h
      no_mark false h = refl

      plain : (main : Bool) → same_name sig.name main_name ≡ main → (number : Bool) → is_some (member_number c sig.name) ≡ number → sig.role ≡ role.Plain → IsInside (inward_by role.Plain main number (helps_in (member_named p i sig.name)))
      plain true n number o r = tt
      plain false n true o r = tt
      plain false n false o r =
          let a : (same_name sig.name main_name || not (is_nomutex mark)) ≡ true = subst (λ (z : Role). (not (is_plain z) || (same_name sig.name main_name || not (is_nomutex mark))) ≡ true) r more in
          let m : not (is_nomutex mark) ≡ true = subst (λ (b : Bool). (b || not (is_nomutex mark)) ≡ true) n a in
          let helps = helping sig mark (marked (ap is_plain r)) (ap is_plain r) mutex n (no_mark (is_nomutex mark) m) o in
          subst (λ (b : Bool). IsInside (inward_by role.Plain false false b)) (sym helps) tt

      by : (r : Role) → sig.role ≡ r → IsInside (inward_by r (same_name sig.name main_name) (is_some (member_number c sig.name)) (helps_in (member_named p i sig.name)))
      by role.Plain r = plain (same_name sig.name main_name) refl (is_some (member_number c sig.name)) refl r
      by role.Constructor r = tt
      by role.Destructor r = tt
