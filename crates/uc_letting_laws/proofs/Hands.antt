-- Lemmas on hands that are drawn, on answers, and on what is found at a key.
use Rattle.std.proofs.Common.{◌≡◌, ℕ, ◌==◌, ◌||◌, ◌⊎◌, inl, Bool, true, false, List, [], ◌∷◌, Option, Some, None, refl, ap, ◌∙◌, subst}
use Rattle.std.specs.Prelude.{nat_eq, if◌then◌else◌}
use Rattle.std.proofs.lemmas.Bool.{eqb-true, eq-eqb}
use Rattle.uc_tree.specs.Source.{Source}
use Rattle.uc_entry.specs.declared.request.Answer.{Answer}
use Rattle.uc_entry.specs.declared.request.Answer.TheVariants as answer
use Rattle.uc_entry.specs.Keyed.{find}
use Rattle.uc_acts.specs.Known.{has}
use Rattle.uc_machine.specs.declared.exec.Home.TheVariants as home
use Rattle.uc_machine.specs.Quiet.{Members}
use Rattle.uc_meaning.specs.Runs.{with_home, hand_of}
use Rattle.uc_answer_laws.specs.Suiting.{JustGo, IsForm}
use Rattle.uc_step_laws.specs.Hands.{keys}
use Rattle.uc_state_laws.proofs.ProgramWorlds.{IsThere}
use Rattle.uc_depth_laws.specs.Owing.{Tests, EngagedParked, EngagedHand, Free, Redrawn}
use Rattle.uc_state_laws.proofs.Lists.{Once, first_once, once_rest}

-- hands

-- members that owe nothing, if there are any
abbrev pub FreeMembers : (source : Source) → Option Members → Type 0
FreeMembers source None = Unit {0}
FreeMembers source (Some m) = Free source m

-- what is drawn for an object owes nothing, or is what was in hand
abbrev pub Found : (source : Source) → List (ℕ × Members) → ℕ → Option Members → Type 0
Found source old o None = Unit {0}
Found source old o (Some m) = Free source m ⊎ (find o old ≡ Some m)

pub free_found : (source : Source) (old : List (ℕ × Members)) (o : ℕ) (x : Option Members) → FreeMembers source x → Found source old o x
free_found source old o None h = tt
free_found source old o (Some m) h = inl h

pub has_self : (o : ℕ) (os : List ℕ) → has (o ∷ os) o ≡ true
has_self o os = ap (λ b. b || has os o) (eq-eqb o o refl)

pub has_more : (k o : ℕ) (os : List ℕ) → has os o ≡ true → has (k ∷ os) o ≡ true
has_more k o os h = by (k == o)
  where
    by : (b : Bool) → (b || has os o) ≡ true
    by true = refl
    by false = h

pub hand_lacks : (os : List ℕ) (homes : ℕ → Option Members) (o : ℕ) → has os o ≡ false → find o (hand_of os homes) ≡ None
hand_lacks [] homes o h = refl
hand_lacks (k ∷ os) homes o h = by (homes k) (k == o) refl h (hand_lacks os homes o)
  where
    by : (x : Option Members) (b : Bool) → nat_eq k o ≡ b → (b || has os o) ≡ false → (has os o ≡ false → find o (hand_of os homes) ≡ None) → find o (with_home k x (hand_of os homes)) ≡ None
    by x true e g ih = cc
    by None false e g ih = ih g
    by (Some m) false e g ih = ap (λ b. if b then Some m else find o (hand_of os homes)) e ∙ ih g

pub hand_finds : (os : List ℕ) (homes : ℕ → Option Members) (o : ℕ) (m : Members) → has os o ≡ true → homes o ≡ Some m → find o (hand_of os homes) ≡ Some m
hand_finds [] homes o m h e = cc
hand_finds (k ∷ os) homes o m h e = by (nat_eq k o) refl h (λ g. hand_finds os homes o m g e)
  where
    other : (x : Option Members) → nat_eq k o ≡ false → find o (hand_of os homes) ≡ Some m → find o (with_home k x (hand_of os homes)) ≡ Some m
    other None g f = f
    other (Some n) g f = ap (λ b. if b then Some n else find o (hand_of os homes)) g ∙ f

    by : (b : Bool) → nat_eq k o ≡ b → (b || has os o) ≡ true → (has os o ≡ true → find o (hand_of os homes) ≡ Some m) → find o (with_home k (homes k) (hand_of os homes)) ≡ Some m
    by true g i ih =
        let is : homes k ≡ Some m = ap homes (eqb-true k o g) ∙ e in
        ap (λ x. find o (with_home k x (hand_of os homes))) is ∙ ap (λ b. if b then Some m else find o (hand_of os homes)) g
    by false g i ih = other (homes k) g (ih i)

pub redrawn : (source : Source) (old : List (ℕ × Members)) (os : List ℕ) (homes : ℕ → Option Members) → Once os → ((o : ℕ) → has os o ≡ true → Found source old o (homes o)) → Redrawn source old (hand_of os homes)
redrawn source old [] homes n f = tt
redrawn source old (o ∷ os) homes n f =
    by (homes o) (f o (has_self o os)) (redrawn source old os homes (once_rest o os n) (λ k h. f k (has_more o k os h)))
  where
    by : (x : Option Members) → Found source old o x → Redrawn source old (hand_of os homes) → Redrawn source old (with_home o x (hand_of os homes))
    by None g ih = ih
    by (Some m) g ih = (g, hand_lacks os homes o (first_once o os n), ih)

-- answers

pub just_go : (a : Answer) → IsForm JustGo a → a ≡ answer.Go
just_go answer.Go h = refl
just_go (answer.Number n) h = absurd h
just_go (answer.Value n failed) h = absurd h
just_go (answer.Object o) h = absurd h
just_go (answer.Clause k failed) h = absurd h
just_go (answer.Event n x y) h = absurd h
just_go answer.Nothing h = absurd h

pub found_none : (o : ℕ) (ps : List (ℕ × ℕ)) → has (keys ps) o ≡ false → find o ps ≡ None
found_none o [] h = refl
found_none o (p ∷ ps) h = by (nat_eq p.0 o) (found_none o ps) h
  where
    by : (b : Bool) → (has (keys ps) o ≡ false → find o ps ≡ None) → (b || has (keys ps) o) ≡ false → (if b then Some p.1 else find o ps) ≡ None
    by true ih h = cc
    by false ih h = ih h

pub found_some : (o d : ℕ) (ps : List (ℕ × ℕ)) → find o ps ≡ Some d → has (keys ps) o ≡ true
found_some o d [] h = cc
found_some o d (p ∷ ps) h = by (nat_eq p.0 o) (found_some o d ps) h
  where
    by : (b : Bool) → (find o ps ≡ Some d → has (keys ps) o ≡ true) → (if b then Some p.1 else find o ps) ≡ Some d → (b || has (keys ps) o) ≡ true
    by true ih h = refl
    by false ih h = ih h

pub some_found : (o : ℕ) (ps : List (ℕ × Members)) → has (keys ps) o ≡ true → IsThere (find o ps)
some_found o [] h = cc
some_found o (p ∷ ps) h = by (nat_eq p.0 o) (some_found o ps) h
  where
    by : (b : Bool) → (has (keys ps) o ≡ true → IsThere (find o ps)) → (b || has (keys ps) o) ≡ true → IsThere (if b then Some p.1 else find o ps)
    by true ih h = tt
    by false ih h = ih h

pub found_engaged : (source : Source) (news : Tests) (o : ℕ) (ps : List (ℕ × Members)) (m : Members) → EngagedHand source news ps → find o ps ≡ Some m → EngagedParked source (news (home.Object o)) m.parked
found_engaged source news o [] m h e = cc
found_engaged source news o (p ∷ ps) m h e = by (nat_eq p.0 o) refl e (found_engaged source news o ps m h.1)
  where
    by : (b : Bool) → nat_eq p.0 o ≡ b → (if b then Some p.1 else find o ps) ≡ Some m → (find o ps ≡ Some m → EngagedParked source (news (home.Object o)) m.parked) → EngagedParked source (news (home.Object o)) m.parked
    by true f g ih =
        let same : p.1 ≡ m = cc in
        subst (λ n. EngagedParked source (news (home.Object o)) n.parked) same (subst (λ k. EngagedParked source (news (home.Object k)) p.1.parked) (eqb-true p.0 o f) h.0)
    by false f g ih = ih g
