-- One step of a kernel: what is brought is put to rest, what is handed out is taken, and what others were handed stays.
use Rattle.std.proofs.Common.{◌≡◌, ℕ, ◌==◌, ◌||◌, ◌⊎◌, inl, inr, Bool, true, false, cond, List, [], ◌∷◌, ◌++◌, Option, Some, None, refl, sym, ap, ◌∙◌, subst}
use Rattle.std.proofs.lemmas.Bool.{eqb-true, eq-eqb}
use Rattle.std.specs.Prelude.{if◌then◌else◌}
use Rattle.uc_tree.specs.Source.{Source}
use Rattle.uc_tree.specs.Programs.{Site}
use Rattle.uc_entry.specs.declared.entry.Entry.{Entry}
use Rattle.uc_entry.specs.declared.entry.Options.{Options}
use Rattle.uc_entry.specs.declared.request.Asked.{Asked}
use Rattle.uc_entry.specs.Keyed.{find}
use Rattle.uc_acts.specs.Journal.{Journal, held, is_over, own_object}
use Rattle.uc_acts.specs.Known.{has, spawns, takes_out}
use Rattle.uc_acts.specs.Queues.{running}
use Rattle.uc_acts.specs.Serves.{Serves}
use Rattle.uc_acts.specs.Acts.{act, dispatch}
use Rattle.uc_acts.specs.KernelRuns.{KernelRuns, MayAsk}
use Rattle.uc_acts.specs.Laws.{Elsewhere, Untouched}
use Rattle.uc_acts.specs.Sound.{Spot, At, Sound}
use Rattle.uc_acts.specs.Stations.{Running}
use Rattle.uc_acts.proofs.Law.{good_whole}
use Rattle.uc_acts.proofs.Moves.{first_at}
use Rattle.uc_acts.proofs.Others.{law_elsewhere}
use Rattle.uc_acts.proofs.Given.{law_dispatch}
use Rattle.uc_acts.proofs.Making.{law_makes}
use Rattle.uc_machine.specs.Quiet.{State, Members as Home}
use Rattle.uc_machine.specs.Answering.{with_hand, child_of}
use Rattle.uc_frames.specs.Machine.{Machine, Members}
use Rattle.uc_frames.specs.StandsByParts.{Numbered, Alike}
use Rattle.uc_meaning.specs.Runs as world
use Rattle.uc_meaning.specs.Runs.{World, bare, drawn, world_after, hand_of, with_home}
use Rattle.uc_kernel.specs.Numbered.{keys, or_else, added, gathered}
use Rattle.uc_kernel.proofs.Hands.{find_none, none_found}
use Rattle.uc_kernel.proofs.Lying.{one_holder, not_true}
use Rattle.uc_vproc.specs.Rest.{Out, OutElse}
use Rattle.uc_vproc.proofs.MakersLemmas.{not_both}

abbrev proc_of : Spot → ℕ
proc_of (At (Running r)) = r
proc_of x = 0

-- a task runs on one processor
pub one_place : (j : Journal) (p q t : ℕ) → Sound j → running p j ≡ t ∷ [] → running q j ≡ t ∷ [] → q ≡ p
one_place j p q t s a b = ap proc_of (sym (first_at j s (Running q) t [] b) ∙ first_at j s (Running p) t [] a)

-- an object is in one task's hand
pub same_holder : (j : Journal) (t u o : ℕ) → Sound j → has (held t j) o ≡ true → has (held u j) o ≡ true → u ≡ t
same_holder j t u o s a b = by (u == t) refl
  where
    by : (c : Bool) → (u == t) ≡ c → u ≡ t
    by true e = eqb-true u t e
    by false e = not_both (has (held u j) o) b (one_holder j s t u o a (λ f. not_both (u == t) (eq-eqb u t f) e))

pub one_same : (t u : ℕ) → t ∷ [] ≡ u ∷ [] → t ≡ u
one_same t u e = cc e

-- hands, one by one

or_left : (b c : Bool) → b ≡ true → (b || c) ≡ true
or_left true c e = refl
or_left false c e = absurd (cc e)

or_right : (b c : Bool) → c ≡ true → (b || c) ≡ true
or_right true c e = refl
or_right false c e = e

module _ {X Y : Type 0} (P : X → Y → Type 0) where
  if_alike : (b c : Bool) (x : X) (y : Y) (f : Option X) (g : Option Y) → b ≡ c → P x y → Alike P f g → Alike P (if b then Some x else f) (if c then Some y else g)
  if_alike true true x y f g e p a = p
  if_alike true false x y f g e p a = absurd (cc e)
  if_alike false true x y f g e p a = absurd (cc e)
  if_alike false false x y f g e p a = a

  pub keys_lined : (ms : List (ℕ × X)) (hs : List (ℕ × Y)) → Numbered P ms hs → keys ms ≡ keys hs
  keys_lined [] [] l = refl
  keys_lined [] (h ∷ hs) l = absurd l
  keys_lined (m ∷ ms) [] l = absurd l
  keys_lined (m ∷ ms) (h ∷ hs) l = ap (λ k. k ∷ keys ms) (l.0) ∙ ap (λ ks. h.0 ∷ ks) (keys_lined ms hs (l.2))

find_alike : (P : Members → Home → Type 0) (o : ℕ) (ms : List (ℕ × Members)) (hs : List (ℕ × Home)) → Numbered P ms hs → Alike P (find o ms) (find o hs)
find_alike P o [] [] l = tt
find_alike P o [] (h ∷ hs) l = absurd l
find_alike P o (m ∷ ms) [] l = absurd l
find_alike P o (m ∷ ms) (h ∷ hs) l = if_alike P (m.0 == o) (h.0 == o) m.1 h.1 (find o ms) (find o hs) (ap (λ k. k == o) (l.0)) (l.1) (find_alike P o ms hs (l.2))

home_lined : (P : Members → Home → Type 0) (o : ℕ) (x : Option Members) (y : Option Home) (ms : List (ℕ × Members)) (hs : List (ℕ × Home)) → Alike P x y → Numbered P ms hs → Numbered P (added o x ms) (with_home o y hs)
home_lined P o None None ms hs a l = l
home_lined P o None (Some y) ms hs a l = absurd a
home_lined P o (Some x) None ms hs a l = absurd a
home_lined P o (Some x) (Some y) ms hs a l = (refl, a, l)

hand_lined : (P : Members → Home → Type 0) (os : List ℕ) (f : ℕ → Option Members) (g : ℕ → Option Home) → ((o : ℕ) → has os o ≡ true → Alike P (f o) (g o)) → Numbered P (gathered os f) (hand_of os g)
hand_lined P [] f g h = tt
hand_lined P (o ∷ os) f g h =
    home_lined P o (f o) (g o) (gathered os f) (hand_of os g) (h o (or_left (o == o) (has os o) (eq-eqb o o refl))) (hand_lined P os f g (λ k e. h k (or_right (o == k) (has os k) e)))

pub hand_same : (os : List ℕ) (f g : ℕ → Option Home) → ((o : ℕ) → has os o ≡ true → f o ≡ g o) → hand_of os f ≡ hand_of os g
hand_same [] f g h = refl
hand_same (o ∷ os) f g h =
    ap (λ x. with_home o x (hand_of os f)) (h o (or_left (o == o) (has os o) (eq-eqb o o refl))) ∙ ap (λ ps. with_home o (g o) ps) (hand_same os f g (λ k e. h k (or_right (o == k) (has os k) e)))

module _ (value : Machine → State → Type 0) (member : Members → Home → Type 0) where
  -- members at rest by these options, or out by this sentence
  abbrev pub Choice : Type 0 → Option Members → Option Home → Type 0
  Choice out m h = Alike member m h ⊎ (out × (m ≡ None))

  taken_by : (out : Type 0) (b : Bool) (m : Option Members) (h : Option Home) → Choice out m h → Choice out (if b then None else m) (if b then None else h)
  taken_by out true m h c = inl tt
  taken_by out false m h c = c

  found_by : (out : Type 0) (x : Option Members) (y : Option Home) (m : Option Members) (h : Option Home) → Alike member x y → (y ≡ None → Choice out m h) → Choice out (or_else x m) (world.or_else y h)
  found_by out None None m h a c = c refl
  found_by out None (Some y) m h a c = absurd a
  found_by out (Some x) None m h a c = absurd a
  found_by out (Some x) (Some y) m h a c = inl a

  value_by : (b c d : Bool) → c ≡ d → (x : Option Machine) (s z old : State) (child o : Option (Option Machine)) (v : Machine) → (x ≡ Some v → value v (bare s)) → (c ≡ true → child ≡ Some (Some v) → value v z) → (o ≡ Some (Some v) → value v old) → (if b then Some x else if d then child else o) ≡ Some (Some v) → value v (if b then bare s else if d then z else old)
  value_by true c d q x s z old child o v h n l e = h (cc e)
  value_by false c true q x s z old child o v h n l e = n q e
  value_by false c false q x s z old child o v h n l e = l e

  -- an act
  module _ (source : Source) (opts : Options) (sites : List Site) (input : List ℕ) (j : Journal) (w : World) (p t n : ℕ) (s : State) (asked : Asked) (runs : KernelRuns opts sites input j) (may : MayAsk opts sites j p t n asked.request) (hand : keys s.env.hand ≡ held t j) where
    abbrev a : List Entry
    a = act opts sites input j p t n asked

    abbrev after : World
    after = world_after source (act opts sites input j p t n asked) w t s

    sound : Sound j
    sound = (good_whole opts sites input runs).sound

    pub elsewhere : (q : ℕ) → (q == p) ≡ false → Elsewhere sites j a p q
    elsewhere q other = law_elsewhere opts sites input j p t n asked runs may q other

    out_after : (o : ℕ) (out : Out j o) → (out.proc == p) ≡ false → OutElse p (j ++ a) o
    out_after o out other =
        let law = elsewhere out.proc other in
        record {
          out = record {
            proc = out.proc;
            task = out.task;
            runs = law.runs ∙ out.runs;
            holds = ap (λ os. has os o) ((law.untouched out.task out.runs).objects) ∙ out.holds;
          };
          other = other;
        }

    mine : (o : ℕ) (out : Out j o) → (out.proc == p) ≡ true → has (held t j) o ≡ true
    mine o out same =
        let q : out.proc ≡ p = eqb-true out.proc p same in
        let u : out.task ≡ t = one_same out.task t (sym out.runs ∙ ap (λ x. running x j) q ∙ may.runs) in
        subst (λ x. has (held x j) o ≡ true) u out.holds

    else_by : (o : ℕ) (m : Option Members) (h : Option Home) (b : Bool) (out : Out j o) → (out.proc == p) ≡ b → m ≡ None → has (held t j) o ≡ false → Choice (OutElse p (j ++ a) o) m h
    else_by o m h true out same e f = not_both (has (held t j) o) (mine o out same) f
    else_by o m h false out other e f = inr (out_after o out other, e)

    kept_by : (o : ℕ) (m : Option Members) (h : Option Home) → Choice (Out j o) m h → has (held t j) o ≡ false → Choice (OutElse p (j ++ a) o) m h
    kept_by o m h (inl x) f = inl x
    kept_by o m h (inr x) f = else_by o m h ((x.0).proc == p) (x.0) refl (x.1) f

    -- what is brought after a ride is at rest
    module _ (members : ℕ → Option Members) (stand : (o : ℕ) → Choice (Out j o) (members o) (w.homes o)) (ms : List (ℕ × Members)) (lined : Numbered member ms s.env.hand) where
      pub put_members : (o : ℕ) → Choice (OutElse p (j ++ a) o) (if takes_out a o then None else or_else (find o ms) (members o)) (after.homes o)
      put_members o =
          taken_by (OutElse p (j ++ a) o) (takes_out a o) (or_else (find o ms) (members o)) (world.or_else (find o s.env.hand) (w.homes o)) (found_by (OutElse p (j ++ a) o) (find o ms) (find o s.env.hand) (members o) (w.homes o) (find_alike member o ms s.env.hand lined) (λ e. kept_by o (members o) (w.homes o) (stand o) (ap (λ os. has os o) (sym hand) ∙ find_none o s.env.hand e)))

    pub put_values : (values : ℕ → Option (Option Machine)) → ((u : ℕ) (v : Machine) → values u ≡ Some (Some v) → value v (w.tasks u)) → (own : Option Machine) (child : Option (Option Machine)) → ((v : Machine) → own ≡ Some v → value v (bare s)) → ((u : ℕ) (v : Machine) → spawns a u ≡ true → child ≡ Some (Some v) → value v (child_of source (own_object u a) s)) → (u : ℕ) (x : Machine) → (if u == t then Some own else if spawns a u then child else values u) ≡ Some (Some x) → value x (after.tasks u)
    put_values values stand own child h born u x e =
        value_by (u == t) (spawns a u) (spawns a u) refl own s (child_of source (own_object u a) s) (w.tasks u) child (values u) x (h x) (born u x) (stand u x) e

    -- another task that runs stays as it is
    module _ (going : is_over (j ++ act opts sites input j p t n asked) ≡ false) (q u : ℕ) (here : running q j ≡ u ∷ []) (apart : (q == p) ≡ false) where
      untouched : Untouched sites j a u
      untouched = (elsewhere q apart).untouched u here

      another : (u == t) ≡ false
      another = not_true (u == t) (λ e. not_both (q == p) (eq-eqb q p (one_place j p q t sound may.runs (here ∙ ap (λ x. x ∷ []) (eqb-true u t e)))) apart)

      not_mine : (o : ℕ) → has (held u j) o ≡ true → has (held t j) o ≡ false
      not_mine o e = not_true (has (held t j) o) (λ f. not_both (u == t) (eq-eqb u t (same_holder j t u o sound f e)) another)

      home_same : (o : ℕ) → has (held u j) o ≡ true → after.homes o ≡ w.homes o
      home_same o e =
          let stays : takes_out a o ≡ false = not_true (takes_out a o) (λ f. not_both (has (held t j) o) ((law_makes opts sites input j p t n asked runs may going).taken o f) (not_mine o e)) in
          let absent : find o s.env.hand ≡ None = none_found o s.env.hand (ap (λ os. has os o) hand ∙ not_mine o e) in
          ap (λ b. cond b None (world.or_else (find o s.env.hand) (w.homes o))) stays ∙ ap (λ x. world.or_else x (w.homes o)) absent

      task_same : after.tasks u ≡ w.tasks u
      task_same =
          ap (λ b. cond b (bare s) (cond (spawns a u) (child_of source (own_object u a) s) (w.tasks u))) another ∙ ap (λ b. cond b (child_of source (own_object u a) s) (w.tasks u)) untouched.born

      pub drawn_same : drawn (j ++ a) after u ≡ drawn j w u
      drawn_same =
          ap (λ os. with_hand (hand_of os after.homes) (after.tasks u)) untouched.objects ∙ ap (λ h. with_hand h (after.tasks u)) (hand_same (held u j) after.homes w.homes home_same) ∙ ap (λ x. with_hand (hand_of (held u j) w.homes) x) task_same

  -- a dispatch
  module _ (opts : Options) (sites : List Site) (input : List ℕ) (j : Journal) (w : World) (p t : ℕ) (runs : KernelRuns opts sites input j) (serves : Serves opts j p t) where
    free_by : (o : ℕ) (b : Bool) (out : Out j o) → (out.proc == p) ≡ b → OutElse p (j ++ dispatch p t ∷ []) o
    free_by o true out same = absurd (cc (sym serves.free ∙ ap (λ x. running x j) (sym (eqb-true out.proc p same)) ∙ out.runs))
    free_by o false out other =
        let law = (law_dispatch opts sites input j p t runs serves).elsewhere out.proc other in
        record {
          out = record {
            proc = out.proc;
            task = out.task;
            runs = law.runs ∙ out.runs;
            holds = ap (λ os. has os o) ((law.untouched out.task out.runs).objects) ∙ out.holds;
          };
          other = other;
        }

    -- a dispatch moves nothing that is at rest
    pub wait_by : (o : ℕ) (m : Option Members) (h : Option Home) → Choice (Out j o) m h → Choice (OutElse p (j ++ dispatch p t ∷ []) o) m h
    wait_by o m h (inl x) = inl x
    wait_by o m h (inr x) = inr (free_by o ((x.0).proc == p) (x.0) refl, x.1)

    pub drawn_given : (u : ℕ) → drawn (j ++ dispatch p t ∷ []) w u ≡ drawn j w u
    drawn_given u = ap (λ os. with_hand (hand_of os w.homes) (w.tasks u)) ((law_dispatch opts sites input j p t runs serves).objects u)

  -- what is at rest but for a processor is at rest, where that one holds nothing
  pub settle_by : (p : ℕ) (j : Journal) (o : ℕ) (m : Option Members) (h : Option Home) → Choice (OutElse p j o) m h → Choice (Out j o) m h
  settle_by p j o m h (inl a) = inl a
  settle_by p j o m h (inr x) = inr ((x.0).out, x.1)

  -- what is taken out for a task that runs
  module _ (j : Journal) (w : World) (p t : ℕ) (sound : Sound j) (here : running p j ≡ t ∷ []) (members : ℕ → Option Members) (stand : (o : ℕ) → Choice (OutElse p j o) (members o) (w.homes o)) where
    not_else : {A : Type 0} (o : ℕ) → has (held t j) o ≡ true → OutElse p j o → A
    not_else o e x =
        let same : x.out.task ≡ t = same_holder j t x.out.task o sound e x.out.holds in
        let place : x.out.proc ≡ p = one_place j p x.out.proc t sound here (x.out.runs ∙ ap (λ u. u ∷ []) same) in
        not_both (x.out.proc == p) (eq-eqb x.out.proc p place) x.other

    alike_by : (o : ℕ) (m : Option Members) (h : Option Home) → has (held t j) o ≡ true → Choice (OutElse p j o) m h → Alike member m h
    alike_by o m h e (inl a) = a
    alike_by o m h e (inr x) = not_else o e (x.0)

    pub hand_stands : Numbered member (gathered (held t j) members) (hand_of (held t j) w.homes)
    hand_stands = hand_lined member (held t j) members w.homes (λ o e. alike_by o (members o) (w.homes o) e (stand o))

    rest_by : (o : ℕ) (b : Bool) → has (held t j) o ≡ b → Choice (Out j o) (if b then None else members o) (w.homes o)
    rest_by o true e = inr (record { proc = p; task = t; runs = here; holds = e }, refl)
    rest_by o false e = settle_by p j o (members o) (w.homes o) (stand o)

    pub rest_stands : (o : ℕ) → Choice (Out j o) (if has (held t j) o then None else members o) (w.homes o)
    rest_stands o = rest_by o (has (held t j) o) refl
