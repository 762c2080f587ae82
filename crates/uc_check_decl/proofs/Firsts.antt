-- The first member of a name, against the members before a place.
use Rattle.std.proofs.Common.{◌≡◌, ℕ, zero, suc, ◌+◌, ◌<◌, ◌≤◌, List, [], ◌∷◌, Bool, true, false, not, ◌&&◌, ◌||◌, Option, Some, None, if◌then◌else◌, take, refl, ap, sym, ◌∙◌, arith, slice_get, nat_lt}
use Rattle.std.specs.List.{list_any}
use Rattle.std.proofs.lemmas.Bool.Decides.{nat_tests}
use Rattle.std.proofs.lemmas.List.Folds.{list_any-append}
use Rattle.uc_tree.specs.declared.kinds.Access.{Access}
use Rattle.uc_tree.specs.declared.kinds.Base.{Base}
use Rattle.uc_tree.specs.declared.kinds.MutexMark.{MutexMark}
use Rattle.uc_tree.specs.Names.{same_name}
use Rattle.uc_tree.specs.Numbering.{is_plain}
use Rattle.uc_tree.specs.Statements.{Declarator}
use Rattle.uc_tree.specs.Programs.{Class, FieldsMember, Member, MemberForm, ProtoMember, Program, RoutineMember, Sig}
use Rattle.uc_rules.specs.declared.rules.FieldPlace.{FieldPlace}
use Rattle.uc_rules.specs.declared.rules.NameMeaning.{NameMeaning}
use Rattle.uc_rules.specs.declared.rules.Entity.TheVariants.{Method}
use Rattle.uc_rules.specs.declared.rules.Origin.TheVariants as origin
use Rattle.uc_rules.specs.ClassBreaks.{declared_names, fields_at, form_declares_names, form_fields, is_kept, is_new_field, is_new_member, member_fields, members_declare, sig_declares}
use Rattle.uc_rules.specs.Names.{Owned, field_meant, field_named, first_of, form_named, is_field_before, is_inner_only, member_in, member_named, members_named, method_named, place_in}
use Rattle.uc_rules.specs.Sorts.{class_at}
use Rattle.uc_check_decl.specs.Earlier.{meant_before, stands_before}

earlier : (j i k n : ℕ) → j < k → is_field_before (place_in j i) (place_in k n) ≡ true
earlier j i k n h = grind (arith, nat_tests)

no_earlier : (j i k n : ℕ) → k < j → is_field_before (place_in j i) (place_in k n) ≡ false
no_earlier j i k n h = grind (arith, nat_tests)

earlier_in : (j i n : ℕ) → i < n → is_field_before (place_in j i) (place_in j n) ≡ true
earlier_in j i n h = grind (arith, nat_tests)

no_earlier_in : (j i n : ℕ) → n ≤ i → is_field_before (place_in j i) (place_in j n) ≡ false
no_earlier_in j i n h = grind (arith, nat_tests)

less : (j k : ℕ) → j < k → nat_lt j k ≡ true
less j k h = grind (arith, nat_tests)

no_less : (j k : ℕ) → k ≤ j → nat_lt j k ≡ false
no_less j k h = grind (arith, nat_tests)

abbrev no_fields : List Declarator
no_fields = []

take_none : (n : ℕ) → take n no_fields ≡ no_fields
take_none zero = refl
take_none (suc n) = refl

or_false : (b : Bool) → b || false ≡ b
or_false true = refl
or_false false = refl

or_again : (a b c : Bool) → (a || b) || c ≡ a || (b || c)
or_again true b c = refl
or_again false b c = refl

-- what a routine means
abbrev pub method_meant : Owned → MutexMark → Access → ℕ → NameMeaning
method_meant o m a j = record { entity = Some (Method o.place j (is_inner_only o.class.kind m a) false); origin = origin.Method o.place a }

abbrev pub named : List ℕ → List ℕ → Bool
named name x = same_name x name

abbrev pub declared : List ℕ → Declarator → Bool
declared name d = same_name d.name name

-- what one of two means, against a place
pick_false : (q : FieldPlace) (t : Bool) (x : NameMeaning) (y : Option NameMeaning) → meant_before q x ≡ false → stands_before q y ≡ false → stands_before q (if t then Some x else y) ≡ false
pick_false q true x y a b = a
pick_false q false x y a b = b

first_false : (q : FieldPlace) (x y : Option NameMeaning) → stands_before q x ≡ false → stands_before q y ≡ false → stands_before q (first_of x y) ≡ false
first_false q None y a b = b
first_false q (Some m) y a b = a

pick_first_false : (q : FieldPlace) (t : Bool) (x : NameMeaning) (y rest : Option NameMeaning) → meant_before q x ≡ false → stands_before q (first_of y rest) ≡ false → stands_before q (first_of (if t then Some x else y) rest) ≡ false
pick_first_false q true x y rest a b = a
pick_first_false q false x y rest a b = b

pick_first_true : (q : FieldPlace) (t c : Bool) (x : NameMeaning) (y rest : Option NameMeaning) → meant_before q x ≡ true → c ≡ stands_before q (first_of y rest) → t || c ≡ stands_before q (first_of (if t then Some x else y) rest)
pick_first_true q true c x y rest a b = sym a
pick_first_true q false c x y rest a b = b

-- nothing in a member behind a place stands before it
field_behind : (p : Program) (o : Owned) (a : Access) (j i : ℕ) (b : Base) (ds : List Declarator) (name : List ℕ) (k n : ℕ) → k < j → stands_before (place_in k n) (field_named p o a j i b ds name) ≡ false
field_behind p o a j i b [] name k n h = refl
field_behind p o a j i b (d ∷ ds) name k n h =
    pick_false (place_in k n) (same_name d.name name) (field_meant p o a (place_in j i) b d) (field_named p o a j (i + 1) b ds name) (no_earlier j i k n h) (field_behind p o a j (i + 1) b ds name k n h)

method_behind : (o : Owned) (m : MutexMark) (a : Access) (j : ℕ) (sig : Sig) (name : List ℕ) (k n : ℕ) → k ≤ j → stands_before (place_in k n) (method_named o m a j sig name) ≡ false
method_behind o m a j sig name k n h =
    pick_false (place_in k n) (is_plain sig.role && same_name sig.name name) (method_meant o m a j) None (no_less j k h) refl

form_behind : (p : Program) (o : Owned) (m : MutexMark) (a : Access) (j : ℕ) (f : MemberForm) (name : List ℕ) (k n : ℕ) → k < j → stands_before (place_in k n) (form_named p o m a j f name) ≡ false
form_behind p o m a j (FieldsMember at b ds) name k n h = field_behind p o a j 0 b ds name k n h
form_behind p o m a j (RoutineMember r) name k n h = let le : k ≤ j = omega (arith, h) in method_behind o m a j r.sig name k n le
form_behind p o m a j (ProtoMember sig) name k n h = let le : k ≤ j = omega (arith, h) in method_behind o m a j sig name k n le

members_behind : (p : Program) (o : Owned) (j : ℕ) (ms : List Member) (name : List ℕ) (k n : ℕ) → k < j → stands_before (place_in k n) (members_named p o j ms name) ≡ false
members_behind p o j [] name k n h = refl
members_behind p o j (m ∷ ms) name k n h =
    let next : k < j + 1 = omega (arith, h) in
    first_false (place_in k n) (form_named p o m.mark m.access j m.form name) (members_named p o (j + 1) ms name) (form_behind p o m.mark m.access j m.form name k n h) (members_behind p o (j + 1) ms name k n next)

-- the fields of the member at a place, before it and from it on
fields_from : (p : Program) (o : Owned) (a : Access) (j i : ℕ) (b : Base) (ds : List Declarator) (name : List ℕ) (n : ℕ) (rest : Option NameMeaning) → n ≤ i → stands_before (place_in j n) rest ≡ false → stands_before (place_in j n) (first_of (field_named p o a j i b ds name) rest) ≡ false
fields_from p o a j i b [] name n rest h e = e
fields_from p o a j i b (d ∷ ds) name n rest h e =
    let next : n ≤ i + 1 = omega (arith, h) in
    pick_first_false (place_in j n) (same_name d.name name) (field_meant p o a (place_in j i) b d) (field_named p o a j (i + 1) b ds name) rest (no_earlier_in j i n h) (fields_from p o a j (i + 1) b ds name n rest next e)

fields_before : (p : Program) (o : Owned) (a : Access) (j i : ℕ) (b : Base) (ds : List Declarator) (name : List ℕ) (n : ℕ) (rest : Option NameMeaning) → stands_before (place_in j (i + n)) rest ≡ false → list_any (declared name) (take n ds) ≡ stands_before (place_in j (i + n)) (first_of (field_named p o a j i b ds name) rest)
fields_before p o a j i b [] name n rest e = ap (list_any (declared name)) (take_none n) ∙ sym e
fields_before p o a j i b (d ∷ ds) name zero rest e = let le : i + 0 ≤ i = omega arith in sym (fields_from p o a j i b (d ∷ ds) name (i + 0) rest le e)
fields_before p o a j i b (d ∷ ds) name (suc n) rest e =
    let lt : i < i + suc n = omega arith in
    let same : i + suc n ≡ i + 1 + n = omega arith in
    pick_first_true (place_in j (i + suc n)) (same_name d.name name) (list_any (declared name) (take n ds)) (field_meant p o a (place_in j i) b d) (field_named p o a j (i + 1) b ds name) rest (earlier_in j i (i + suc n) lt) (
    fields_before p o a j (i + 1) b ds name n rest (ap (λ k. stands_before (place_in j k) rest) (sym same) ∙ e)
    ∙ ap (λ k. stands_before (place_in j k) (first_of (field_named p o a j (i + 1) b ds name) rest)) (sym same))

method_at : (o : Owned) (m : MutexMark) (a : Access) (j : ℕ) (sig : Sig) (name : List ℕ) (n : ℕ) (rest : Option NameMeaning) → stands_before (place_in j n) rest ≡ false → list_any (declared name) (take n []) ≡ stands_before (place_in j n) (first_of (method_named o m a j sig name) rest)
method_at o m a j sig name n rest e =
    let le : j ≤ j = omega arith in
    ap (list_any (declared name)) (take_none n) ∙ sym (first_false (place_in j n) (method_named o m a j sig name) rest (method_behind o m a j sig name j n le) e)

form_at : (p : Program) (o : Owned) (m : MutexMark) (a : Access) (j : ℕ) (f : MemberForm) (name : List ℕ) (n : ℕ) (rest : Option NameMeaning) → stands_before (place_in j n) rest ≡ false → list_any (declared name) (take n (form_fields f)) ≡ stands_before (place_in j n) (first_of (form_named p o m a j f name) rest)
form_at p o m a j (FieldsMember at b ds) name n rest e =
    let same : 0 + n ≡ n = omega arith in
    fields_before p o a j 0 b ds name n rest (ap (λ k. stands_before (place_in j k) rest) same ∙ e)
    ∙ ap (λ k. stands_before (place_in j k) (first_of (field_named p o a j 0 b ds name) rest)) same
form_at p o m a j (RoutineMember r) name n rest e = method_at o m a j r.sig name n rest e
form_at p o m a j (ProtoMember sig) name n rest e = method_at o m a j sig name n rest e

-- the names of a member before a place
fields_named : (p : Program) (o : Owned) (a : Access) (j i : ℕ) (b : Base) (ds : List Declarator) (name : List ℕ) (k n : ℕ) (rest : Option NameMeaning) → j < k → list_any (named name) (declared_names ds) || stands_before (place_in k n) rest ≡ stands_before (place_in k n) (first_of (field_named p o a j i b ds name) rest)
fields_named p o a j i b [] name k n rest h = refl
fields_named p o a j i b (d ∷ ds) name k n rest h =
    or_again (same_name d.name name) (list_any (named name) (declared_names ds)) (stands_before (place_in k n) rest)
    ∙ pick_first_true (place_in k n) (same_name d.name name) (list_any (named name) (declared_names ds) || stands_before (place_in k n) rest) (field_meant p o a (place_in j i) b d) (field_named p o a j (i + 1) b ds name) rest (earlier j i k n h) (fields_named p o a j (i + 1) b ds name k n rest h)

sig_named : (t : Bool) (x name : List ℕ) → list_any (named name) (if t then x ∷ [] else []) ≡ t && same_name x name
sig_named true x name = or_false (same_name x name)
sig_named false x name = refl

method_named_before : (o : Owned) (m : MutexMark) (a : Access) (j : ℕ) (sig : Sig) (name : List ℕ) (k n : ℕ) (rest : Option NameMeaning) → j < k → list_any (named name) (sig_declares sig) || stands_before (place_in k n) rest ≡ stands_before (place_in k n) (first_of (method_named o m a j sig name) rest)
method_named_before o m a j sig name k n rest h =
    ap (λ c. c || stands_before (place_in k n) rest) (sig_named (is_plain sig.role) sig.name name)
    ∙ pick_first_true (place_in k n) (is_plain sig.role && same_name sig.name name) (stands_before (place_in k n) rest) (method_meant o m a j) None rest (less j k h) refl

form_named_before : (p : Program) (o : Owned) (m : MutexMark) (a : Access) (j : ℕ) (f : MemberForm) (name : List ℕ) (k n : ℕ) (rest : Option NameMeaning) → j < k → list_any (named name) (form_declares_names f) || stands_before (place_in k n) rest ≡ stands_before (place_in k n) (first_of (form_named p o m a j f name) rest)
form_named_before p o m a j (FieldsMember at b ds) name k n rest h = fields_named p o a j 0 b ds name k n rest h
form_named_before p o m a j (RoutineMember r) name k n rest h = method_named_before o m a j r.sig name k n rest h
form_named_before p o m a j (ProtoMember sig) name k n rest h = method_named_before o m a j sig name k n rest h

-- members and fields before a place
any_before : (p : Program) (o : Owned) (s : ℕ) (ms : List Member) (j i : ℕ) (name : List ℕ) → list_any (named name) (members_declare (take j ms)) || list_any (declared name) (take i (member_fields (slice_get ms j))) ≡ stands_before (place_in (s + j) i) (members_named p o s ms name)
any_before p o s [] zero i name = ap (list_any (declared name)) (take_none i)
any_before p o s [] (suc j) i name = ap (list_any (declared name)) (take_none i)
any_before p o s (m ∷ ms) zero i name =
    let same : s + 0 ≡ s = omega arith in
    let next : s < s + 1 = omega arith in
    form_at p o m.mark m.access s m.form name i (members_named p o (s + 1) ms name) (members_behind p o (s + 1) ms name s i next)
    ∙ ap (λ k. stands_before (place_in k i) (members_named p o s (m ∷ ms) name)) (sym same)
any_before p o s (m ∷ ms) (suc j) i name =
    let same : s + 1 + j ≡ s + suc j = omega arith in
    let lt : s < s + suc j = omega arith in
    let own = list_any (named name) (form_declares_names m.form) in
    let more = list_any (named name) (members_declare (take j ms)) in
    let last = list_any (declared name) (take i (member_fields (slice_get ms j))) in
    let rest = members_named p o (s + 1) ms name in
    ap (λ c. c || last) (list_any-append (named name) (form_declares_names m.form) (members_declare (take j ms)))
    ∙ or_again own more last
    ∙ ap (λ c. own || c) (any_before p o (s + 1) ms j i name ∙ ap (λ k. stands_before (place_in k i) rest) same)
    ∙ form_named_before p o m.mark m.access s m.form name (s + suc j) i rest lt

-- what is taken before a place
before_is : (p : Program) (k : ℕ) (c : Class) (j i : ℕ) (name : List ℕ) → class_at p k ≡ Some c → stands_before (place_in j i) (member_named p k name) ≡ list_any (named name) (members_declare (take j c.members)) || list_any (declared name) (take i (fields_at c j))
before_is p k c j i name at =
    let same : 0 + j ≡ j = omega arith in
    ap (λ o. stands_before (place_in j i) (member_in p k o name)) at
    ∙ ap (λ n. stands_before (place_in n i) (members_named p (record { place = k; class = c }) 0 c.members name)) (sym same)
    ∙ sym (any_before p (record { place = k; class = c }) 0 c.members j i name)

new_case : (a b u : Bool) → not ((a || b) || u) ≡ not (a || u) && not b
new_case true b u = refl
new_case false true true = refl
new_case false true false = refl
new_case false false true = refl
new_case false false false = refl

pub field_new : (p : Program) (k : ℕ) (c : Class) (place : FieldPlace) (name : List ℕ) (taken : Bool) → class_at p k ≡ Some c → taken ≡ (stands_before place (member_named p k name) || is_kept c place.member name) → not taken ≡ is_new_field c place (fields_at c place.member) name
field_new p k c place name taken at e =
    let others = list_any (named name) (members_declare (take place.member c.members)) in
    let own = list_any (declared name) (take place.index (fields_at c place.member)) in
    ap not (e ∙ ap (λ b. b || is_kept c place.member name) (before_is p k c place.member place.index name at))
    ∙ new_case others own (is_kept c place.member name)

plain_case : (a u : Bool) → not ((a || false) || u) ≡ not (a || u)
plain_case a u = ap (λ b. not (b || u)) (or_false a)

pub routine_new : (p : Program) (k : ℕ) (c : Class) (j : ℕ) (name : List ℕ) (taken : Bool) → class_at p k ≡ Some c → taken ≡ (stands_before (place_in j 0) (member_named p k name) || is_kept c j name) → not taken ≡ is_new_member c j name
routine_new p k c j name taken at e =
    let others = list_any (named name) (members_declare (take j c.members)) in
    ap not (e ∙ ap (λ b. b || is_kept c j name) (before_is p k c j 0 name at)) ∙ plain_case others (is_kept c j name)

pub constructor_new : (p : Program) (k : ℕ) (c : Class) (j : ℕ) (name : List ℕ) (taken : Bool) → class_at p k ≡ Some c → taken ≡ stands_before (place_in j 0) (member_named p k name) → not taken ≡ not (list_any (named name) (members_declare (take j c.members)))
constructor_new p k c j name taken at e = ap not (e ∙ before_is p k c j 0 name at ∙ or_false (list_any (named name) (members_declare (take j c.members))))
