-- Handlers that a search finds: their code, by the rooms of what is to do, and that a search which goes on from one comes to what the search for it came to.
use Rattle.std.proofs.Common.{◌≡◌, ℕ, suc, ◌+◌, ◌<◌, ◌≤◌, ◌⊎◌, inl, inr, Bool, true, false, ◌&&◌, List, [], ◌∷◌, length, Option, Some, None, refl, sym, ap, ◌∙◌, subst, arith}
use Rattle.std.specs.Prelude.{nat_eq, if◌then◌else◌}
use Rattle.std.proofs.lemmas.Bool.{eqb-true, eq-eqb}
use Rattle.uc_tree.specs.Source as src
use Rattle.uc_tree.specs.Source.{Handlers, Source}
use Rattle.uc_machine.specs.declared.exec.Exec.{Exec}
use Rattle.uc_machine.specs.declared.exec.Visited.{Visited}
use Rattle.uc_machine.specs.Pieces as piece
use Rattle.uc_machine.specs.Pieces.{Todo, Sort, Active}
use Rattle.uc_machine.specs.Raising as raising
use Rattle.uc_machine.specs.Raising.{Event, Handler, Found, Hit, count_by, count_round, handler_count, hit_in, hit_by, hit_or, within, seek, found_or, handler_for}
use Rattle.uc_typing.specs.Typing.{Table}
use Rattle.uc_state_laws.specs.RoomStacks.{GuardFrom, GuardsFrom, AboveAt, Above}
use Rattle.uc_place_laws.proofs.AsideKeeping.{either}
use Rattle.uc_putting_laws.specs.CleanedSpots.{Reach, from_variable}
use Rattle.uc_putting_laws.specs.Calling.{CallingStmts, CallingHandlers}
use Rattle.uc_putting_laws.specs.Seats.{GuardBy, GuardsCode, SearchedAt, Searched}
use Rattle.uc_putting_laws.specs.Putting.{Setting, Around, around, LeftBy, Ok, Left}
use Rattle.uc_putting_laws.proofs.Marks.{left_tail, AllLeft}
use Rattle.uc_putting_laws.proofs.HandlersFrom as from

-- numbers of what stands round

count_within : (n : ℕ) (todo : List Todo) → count_round (within n todo) ≤ count_round todo
count_within n [] = omega arith
count_within n (p ∷ ps) =
    let h = count_within n ps in
    either (λ (l : List Todo). count_round l ≤ count_round (p ∷ ps)) (nat_eq (count_round (p ∷ ps)) n) (p ∷ ps) (within n ps) (omega arith) (omega (arith, h))

-- what stands outwards of a place is found from what stands within it
past : (n : ℕ) (p : Todo) (ps : List Todo) → n < count_round ps → within n (p ∷ ps) ≡ within n ps
past n p ps l = by (nat_eq (count_round (p ∷ ps)) n) refl
  where
    by : (b : Bool) → nat_eq (count_round (p ∷ ps)) n ≡ b → (if b then p ∷ ps else within n ps) ≡ within n ps
    by true e = let q : count_round (p ∷ ps) ≡ n = eqb-true (count_round (p ∷ ps)) n e in let f : ⊥ = omega (arith, q, l) in absurd f
    by false e = refl

within_within : (n m : ℕ) (todo : List Todo) → n < count_round (within m todo) → within n (within m todo) ≡ within n todo
within_within n m [] l = refl
within_within n m (p ∷ ps) l = by (nat_eq (count_round (p ∷ ps)) m) l (λ k. within_within n m ps k)
  where
    by : (b : Bool) → n < count_round (if b then p ∷ ps else within m ps) → (n < count_round (within m ps) → within n (within m ps) ≡ within n ps) → within n (if b then p ∷ ps else within m ps) ≡ within n (p ∷ ps)
    by true l ih = refl
    by false l ih =
        let le = count_within m ps in
        ih l ∙ sym (past n p ps (omega (arith, l, le)))

-- what is found stands outwards of its guarded block

abbrev RestLess : ℕ → Option Hit → Type 0
RestLess n None = Unit {0}
RestLess n (Some h) = h.rest < n

rest_more : (m n : ℕ) (o : Option Hit) → m ≤ n → RestLess m o → RestLess n o
rest_more m n None le h = tt
rest_more m n (Some y) le h = omega (arith, le, h)

rest_or : (hs : Handlers) (n : ℕ) (o : Option Handler) (other : Option Hit) → (o ≡ None) ⊎ (0 < handler_count hs) → RestLess n other → RestLess (handler_count hs + n) (hit_or o n other)
rest_or hs n None other c h = rest_more n (handler_count hs + n) other (omega arith) h
rest_or hs n (Some y) other (inl q) h = absurd (cc)
rest_or hs n (Some y) other (inr c) h = omega (arith, c)

some_handler : (kind : Bool) (e : Event) (hs : Handlers) → (handler_for kind e hs ≡ None) ⊎ (0 < handler_count hs)
some_handler kind e src.NoHandlers = inl refl
some_handler kind e (src.MoreHandlers resumes event cell line body rest) = inr (omega arith)

rest_by : (k : Sort) (n : ℕ) (e : Event) (other : Option Hit) → RestLess n other → RestLess (count_by k + n) (hit_by k n e other)
rest_by (piece.IsGuard hs) n e other h = rest_or hs n (handler_for true e hs) other (some_handler true e hs) h
rest_by k n e other h = rest_more n (count_by k + n) other (omega arith) h

rest_less : (e : Event) (todo : List Todo) → RestLess (count_round todo) (hit_in e todo)
rest_less e [] = tt
rest_less e (p ∷ ps) = rest_by (piece.sort p) (count_round ps) e (hit_in e ps) (rest_less e ps)

-- how far a search came

abbrev FoundBelow : ℕ → Option Found → Type 0
FoundBelow n None = Unit {0}
FoundBelow n (Some y) = y.visited.level < n

found_or_below : (o : Option Hit) (a : Active) (cs : List Active) (other : Option Found) → FoundBelow (length cs) other → FoundBelow (suc (length cs)) (found_or o a cs other)
found_or_below None a cs None h = tt
found_or_below None a cs (Some y) h = omega (arith, h)
found_or_below (Some y) a cs other h = omega arith

below_more : (n : ℕ) (o : Option Found) → FoundBelow n o → FoundBelow (suc n) o
below_more n None h = tt
below_more n (Some y) h = omega (arith, h)

found_below : (v : Option Visited) (e : Event) (cs : List Active) → FoundBelow (length cs) (seek v e cs)
found_below None e [] = tt
found_below (Some v) e [] = tt
found_below None e (a ∷ others) = found_or_below (hit_in e a.control) a others (seek a.handles e others) (found_below a.handles e others)
found_below (Some v) e (a ∷ others) =
    either (FoundBelow (suc (length others))) (nat_eq (length others) v.level) (found_or (hit_in e (within v.rest a.control)) a others (seek a.handles e others)) (seek (Some v) e others) (found_or_below (hit_in e (within v.rest a.control)) a others (seek a.handles e others) (found_below a.handles e others)) (below_more (length others) (seek (Some v) e others) (found_below (Some v) e others))

-- frames below one
abbrev pub FramesBelow : ℕ → List Active → Type 0
FramesBelow f [] = Unit {0}
FramesBelow f (c ∷ cs) = (c.frame < f) × FramesBelow f cs

-- a search that begins at an activation looks at its guarded blocks alone
found_like : (o : Option Hit) (a b : Active) (cs : List Active) (x : Option Found) → b.frame ≡ a.frame → b.this ≡ a.this → b.handles ≡ a.handles → found_or o b cs x ≡ found_or o a cs x
found_like None a b cs x f t v = refl
found_like (Some y) a b cs x f t v = rw (f, t, v)

pub seek_like : (e : Event) (a b : Active) (cs : List Active) → hit_in e b.control ≡ hit_in e a.control → b.frame ≡ a.frame → b.this ≡ a.this → b.handles ≡ a.handles → seek None e (b ∷ cs) ≡ seek None e (a ∷ cs)
seek_like e a b cs h f t v =
    ap (λ o. found_or o b cs (seek b.handles e cs)) h ∙ (ap (λ w. found_or (hit_in e a.control) b cs (seek w e cs)) v ∙ found_like (hit_in e a.control) a b cs (seek a.handles e cs) f t v)

module _ (t : Table) (source : Source) (special : ℕ → Bool) where
  abbrev Guards : ℕ → List Todo → Type 0
  Guards x todo = GuardsCode t source special x todo

  abbrev Seen : ℕ → Option Visited → ℕ → List Active → Type 0
  Seen x v f cs = Searched t source special x v f cs

  guards_tail : (x : ℕ) (k : Sort) (R : Type 0) → GuardBy t source special x k R → R
  guards_tail x (piece.IsGuard hs) R h = h.1
  guards_tail x k R h = h

  pub guards_within : (x n : ℕ) (todo : List Todo) → Guards x todo → Guards x (within n todo)
  guards_within x n [] h = tt
  guards_within x n (p ∷ ps) h = either (Guards x) (nat_eq (count_round (p ∷ ps)) n) (p ∷ ps) (within n ps) h (guards_within x n ps (guards_tail x (piece.sort p) (Guards x ps) h))

  -- a handler that is found

  abbrev HandlerCode : ℕ → Option Handler → Type 0
  HandlerCode x None = Unit {0}
  HandlerCode x (Some y) = CallingStmts t source special (from_variable x) y.body

  handler_code : (x : ℕ) (kind : Bool) (e : Event) (hs : Handlers) → CallingHandlers t source special (from_variable x) hs → HandlerCode x (handler_for kind e hs)
  handler_code x kind e src.NoHandlers h = tt
  handler_code x kind e (src.MoreHandlers resumes event cell line body rest) h =
      either (HandlerCode x) (raising.same_kind kind resumes && raising.takes event e) (Some (record { cell = cell; line = line; body = body })) (handler_for kind e rest) h.0 (handler_code x kind e rest h.1)

  abbrev HitCode : ℕ → Option Hit → Type 0
  HitCode x None = Unit {0}
  HitCode x (Some h) = CallingStmts t source special (from_variable x) h.handler.body

  hit_or_code : (x : ℕ) (o : Option Handler) (n : ℕ) (other : Option Hit) → HandlerCode x o → HitCode x other → HitCode x (hit_or o n other)
  hit_or_code x None n other h k = k
  hit_or_code x (Some y) n other h k = h

  hit_by_code : (x : ℕ) (k : Sort) (n : ℕ) (e : Event) (other : Option Hit) (R : Type 0) → GuardBy t source special x k R → (R → HitCode x other) → HitCode x (hit_by k n e other)
  hit_by_code x (piece.IsGuard hs) n e other R h f = hit_or_code x (handler_for true e hs) n other (handler_code x true e hs h.0) (f h.1)
  hit_by_code x s n e other R h f = f h

  hit_code : (x : ℕ) (e : Event) (todo : List Todo) → Guards x todo → HitCode x (hit_in e todo)
  hit_code x e [] h = tt
  hit_code x e (p ∷ ps) h = hit_by_code x (piece.sort p) (count_round ps) e (hit_in e ps) (Guards x ps) h (hit_code x e ps)

  abbrev pub FoundCode : ℕ → ℕ → Option Found → Type 0
  FoundCode x f None = Unit {0}
  FoundCode x f (Some y) = y.frame ≡ f → CallingStmts t source special (from_variable x) y.handler.body

  found_or_code : (x f : ℕ) (o : Option Hit) (a : Active) (cs : List Active) (other : Option Found) → (a.frame ≡ f → HitCode x o) → FoundCode x f other → FoundCode x f (found_or o a cs other)
  found_or_code x f None a cs other h k = k
  found_or_code x f (Some y) a cs other h k = h

  pub found_code : (x f : ℕ) (v : Option Visited) (e : Event) (cs : List Active) → Seen x v f cs → FoundCode x f (seek v e cs)
  found_code x f None e [] h = tt
  found_code x f (Some v) e [] h = tt
  found_code x f None e (a ∷ others) h =
      found_or_code x f (hit_in e a.control) a others (seek a.handles e others) (λ q. hit_code x e a.control (h.0 q)) (found_code x f a.handles e others h.1)
  found_code x f (Some v) e (a ∷ others) h =
      by (nat_eq (length others) v.level) h (λ k. found_code x f a.handles e others k) (λ k. found_code x f (Some v) e others k)
    where
      by : (b : Bool) → SearchedAt t source special b ((a.frame ≡ f → Guards x (within v.rest a.control)) × Seen x a.handles f others) (Seen x (Some v) f others) → (Seen x a.handles f others → FoundCode x f (seek a.handles e others)) → (Seen x (Some v) f others → FoundCode x f (seek (Some v) e others)) → FoundCode x f (if b then found_or (hit_in e (within v.rest a.control)) a others (seek a.handles e others) else seek (Some v) e others)
      by true k here beyond =
          found_or_code x f (hit_in e (within v.rest a.control)) a others (seek a.handles e others) (λ q. hit_code x e (within v.rest a.control) (k.0 q)) (here k.1)
      by false k here beyond = beyond k

  -- a search from the handler on comes to what the search for it saw

  abbrev pub PathOf : ℕ → ℕ → List Active → Option Found → Type 0
  PathOf x f cs None = Unit {0}
  PathOf x f cs (Some y) = Seen x (Some y.visited) f cs

  skip : (x f : ℕ) (v : Visited) (a : Active) (others : List Active) → v.level < length others → Seen x (Some v) f others → Seen x (Some v) f (a ∷ others)
  skip x f v a others l h = by (nat_eq (length others) v.level) refl
    where
      by : (b : Bool) → nat_eq (length others) v.level ≡ b → SearchedAt t source special b ((a.frame ≡ f → Guards x (within v.rest a.control)) × Seen x a.handles f others) (Seen x (Some v) f others)
      by true e = let q : length others ≡ v.level = eqb-true (length others) v.level e in let z : ⊥ = omega (arith, q, l) in absurd z
      by false e = h

  skip_found : (x f : ℕ) (a : Active) (others : List Active) (o : Option Found) → FoundBelow (length others) o → PathOf x f others o → PathOf x f (a ∷ others) o
  skip_found x f a others None l h = tt
  skip_found x f a others (Some y) l h = skip x f y.visited a others l h

  -- at the activation whose guarded block takes the event
  meets : (x f : ℕ) (v : Visited) (a : Active) (others : List Active) → v.level ≡ length others → (a.frame ≡ f → Guards x (within v.rest a.control)) → Seen x a.handles f others → Seen x (Some v) f (a ∷ others)
  meets x f v a others e g h = by (nat_eq (length others) v.level) (eq-eqb (length others) v.level (sym e))
    where
      by : (b : Bool) → b ≡ true → SearchedAt t source special b ((a.frame ≡ f → Guards x (within v.rest a.control)) × Seen x a.handles f others) (Seen x (Some v) f others)
      by true q = (g, h)
      by false q = absurd (cc)

  -- the guards outwards of the block whose handler is found
  abbrev GuardsPast : ℕ → List Todo → Option Hit → Type 0
  GuardsPast x todo None = Unit {0}
  GuardsPast x todo (Some y) = Guards x (within y.rest todo)

  past_full : (x : ℕ) (todo : List Todo) (o : Option Hit) → Guards x todo → GuardsPast x todo o
  past_full x todo None h = tt
  past_full x todo (Some y) h = guards_within x y.rest todo h

  past_in : (x m : ℕ) (todo : List Todo) (o : Option Hit) → RestLess (count_round (within m todo)) o → GuardsPast x (within m todo) o → GuardsPast x todo o
  past_in x m todo None l h = tt
  past_in x m todo (Some y) l h = subst (Guards x) (within_within y.rest m todo l) h

  found_or_path : (x f : ℕ) (o : Option Hit) (a : Active) (cs : List Active) (other : Option Found) → (a.frame ≡ f → GuardsPast x a.control o) → Seen x a.handles f cs → FoundBelow (length cs) other → PathOf x f cs other → PathOf x f (a ∷ cs) (found_or o a cs other)
  found_or_path x f None a cs other g h l k = skip_found x f a cs other l k
  found_or_path x f (Some y) a cs other g h l k =
      meets x f (record { level = length cs; rest = y.rest; home = raising.home_of a.handles (length cs) }) a cs refl g h

  pub path : (x f : ℕ) (v : Option Visited) (e : Event) (cs : List Active) → Seen x v f cs → PathOf x f cs (seek v e cs)
  path x f None e [] h = tt
  path x f (Some v) e [] h = tt
  path x f None e (a ∷ others) h =
      found_or_path x f (hit_in e a.control) a others (seek a.handles e others) (λ q. past_full x a.control (hit_in e a.control) (h.0 q)) h.1 (found_below a.handles e others) (path x f a.handles e others h.1)
  path x f (Some v) e (a ∷ others) h =
      by (nat_eq (length others) v.level) h (λ k. path x f a.handles e others k) (λ k. path x f (Some v) e others k)
    where
      by : (b : Bool) → SearchedAt t source special b ((a.frame ≡ f → Guards x (within v.rest a.control)) × Seen x a.handles f others) (Seen x (Some v) f others) → (Seen x a.handles f others → PathOf x f others (seek a.handles e others)) → (Seen x (Some v) f others → PathOf x f others (seek (Some v) e others)) → PathOf x f (a ∷ others) (if b then found_or (hit_in e (within v.rest a.control)) a others (seek a.handles e others) else seek (Some v) e others)
      by true k here beyond =
          found_or_path x f (hit_in e (within v.rest a.control)) a others (seek a.handles e others) (λ q. past_in x v.rest a.control (hit_in e (within v.rest a.control)) (rest_less e (within v.rest a.control)) (past_full x (within v.rest a.control) (hit_in e (within v.rest a.control)) (k.0 q))) k.1 (found_below a.handles e others) (here k.1)
      by false k here beyond = skip_found x f a others (seek (Some v) e others) (found_below (Some v) e others) (beyond k)

  -- in a frame that nobody uses nothing is found

  pub fresh : (x : ℕ) (v : Option Visited) (f : ℕ) (cs : List Active) → FramesBelow f cs → Seen x v f cs
  fresh x None f [] h = tt
  fresh x (Some v) f [] h = tt
  fresh x None f (a ∷ others) h =
      let l = h.0 in
      (λ e. let b : ⊥ = omega (arith, l, e) in absurd b, fresh x a.handles f others h.1)
  fresh x (Some v) f (a ∷ others) h =
      let l = h.0 in
      either_at (nat_eq (length others) v.level) _ _ (λ e. let b : ⊥ = omega (arith, l, e) in absurd b, fresh x a.handles f others h.1) (fresh x (Some v) f others h.1)
    where
      either_at : (b : Bool) (A B : Type 0) → A → B → SearchedAt t source special b A B
      either_at true A B h k = h
      either_at false A B h k = k

-- the code of handlers of what is to do
module _ (g : Setting) where
  guard_by : (A : Around) (made : Reach) (k : Sort) (ps : List Todo) (l o R : Type 0) → LeftBy g A made k ps l o → R → GuardBy g.table g.source g.special made.low k R
  guard_by A made (piece.IsGuard hs) ps l o R h r = (h.0.1, r)
  guard_by A made k ps l o R h r = r

  pub guards_left : (A : Around) (made : Reach) (todo : List Todo) → Left g A made todo → GuardsCode g.table g.source g.special made.low todo
  guards_left A made [] h = tt
  guards_left A made (p ∷ ps) h = guard_by A made (piece.sort p) ps (Left g A made ps) (Ok g A made [] ps) (GuardsCode g.table g.source g.special made.low ps) h (guards_left A made ps (left_tail g A made p ps h))

-- and by rooms
module _ (Z : ℕ → ℕ → Type 0) (g : Setting) where
  guard_from : (x y lo : ℕ) (k : Sort) (R S : Type 0) → x ≤ y → GuardFrom Z y k → GuardBy g.table g.source g.special lo k R → (R → S) → GuardBy g.table g.source g.special x k S
  guard_from x y lo (piece.IsGuard hs) R S le h n f =
      let l = h.2 in
      (from.handlers Z g.table g.source g.special x lo h.0 h.1 (omega (arith, le, l)) hs h.3 n.0, f n.1)
  guard_from x y lo k R S le h n f = f n

  pub guards_from : (x y lo : ℕ) (todo : List Todo) → x ≤ y → GuardsFrom Z y todo → GuardsCode g.table g.source g.special lo todo → GuardsCode g.table g.source g.special x todo
  guards_from x y lo [] le h n = tt
  guards_from x y lo (p ∷ ps) le h n = guard_from x y lo (piece.sort p) (GuardsCode g.table g.source g.special lo ps) (GuardsCode g.table g.source g.special x ps) le h.0 n (guards_from x y lo ps le h.1)

  -- so it is of all that a search finds
  pub searched : (n : Exec) (x y : ℕ) (v : Option Visited) (f : ℕ) (cs : List Active) → x ≤ y → AllLeft g n cs → Above Z y v f cs → Searched g.table g.source g.special x v f cs
  searched n x y None f [] le l h = tt
  searched n x y (Some v) f [] le l h = tt
  searched n x y None f (a ∷ others) le l h =
      (λ e. guards_from x y l.0.made.low a.control le (h.0 e) (guards_left g (around n a others) l.0.made a.control l.0.rest), searched n x y a.handles f others le l.1 h.1)
  searched n x y (Some v) f (a ∷ others) le l h =
      by (nat_eq (length others) v.level) h (λ k. searched n x y a.handles f others le l.1 k) (λ k. searched n x y (Some v) f others le l.1 k)
    where
      by : (b : Bool) → AboveAt Z b ((a.frame ≡ f → GuardsFrom Z y (within v.rest a.control)) × Above Z y a.handles f others) (Above Z y (Some v) f others) → (Above Z y a.handles f others → Searched g.table g.source g.special x a.handles f others) → (Above Z y (Some v) f others → Searched g.table g.source g.special x (Some v) f others) → SearchedAt g.table g.source g.special b ((a.frame ≡ f → GuardsCode g.table g.source g.special x (within v.rest a.control)) × Searched g.table g.source g.special x a.handles f others) (Searched g.table g.source g.special x (Some v) f others)
      by true k here beyond =
          (λ e. guards_from x y l.0.made.low (within v.rest a.control) le (k.0 e) (guards_within g.table g.source g.special l.0.made.low v.rest a.control (guards_left g (around n a others) l.0.made a.control l.0.rest)), here k.1)
      by false k here beyond = beyond k
