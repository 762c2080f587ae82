-- Scopes of a routine that are opened and left, and which names are left behind.
use Rattle.std.proofs.Common.{◌≡◌, ℕ, ◌+◌, List, [], ◌∷◌, ◌++◌, Bool, true, false, true≢false, length, take, refl, ap, sym, subst, ◌∙◌, arith, append_assoc, append-nil}
use Rattle.std.proofs.Math.Seq.{take-append_seam}
use Rattle.uc_tree.specs.declared.kinds.Base.{Base}
use Rattle.uc_tree.specs.declared.kinds.LocalVariable.{LocalVariable}
use Rattle.uc_tree.specs.Statements.{Declarator, ForStart, NoFor, ForDeclare, ForEvaluate, Stmt, Block, Empty, Evaluate, Declare, If, While, Do, For, Break, Continue, Return, Try, Throw, Raise, RaiseAt, Enable, Disable, Accept, Print, PrintTogether, Read, Resume, Suspend, Yield, Migrate, Stmts, NoStmts, MoreStmts}
use Rattle.uc_tree.specs.Scopes.{alone_scopes}
use Rattle.uc_tree.specs.Programs.{Program}
use Rattle.uc_resolve.specs.Resolve.{Scope, with_declared, with_all, declared_known, names_behind, scope_after, scope_behind, for_scope}
use Rattle.uc_code.specs.declared.draft_parts.OuterScope.{OuterScope}
use Rattle.uc_code.specs.Drafts.{Draft}
use Rattle.uc_code.specs.Layout.{Laid}
use Rattle.uc_lower_stmt.specs.LowersStatement.{Lowers, LowersStmt, scope_of}
use Rattle.uc_lower_stmt.specs.Control.{is_declaration, LowersAlone}
use Rattle.uc_lower_stmt.proofs.Joined.{lowers_as}

-- a draft in one more scope
abbrev pub opened : Draft → Draft
opened d = record d { place = record d.place { scope = d.scopes + 1 }; scopes = d.scopes + 1 }

pub lowers_scoped : {r n k c o : ℕ} {S : Laid → ℕ → ℕ → Type 0} {t : Scope} {old last : Draft} → (out : OuterScope) (new : Draft) → out ≡ record { names = length old.names; scope = old.place.scope } → take (length old.names) t.names ≡ old.names
    → Lowers r n k c o S t (opened old) last → new ≡ record last { place = record last.place { scope = out.scope }; names = take out.names last.names } → Lowers r n k c (1 + o) S (record t { names = old.names }) old new
lowers_scoped {r} {n} {k} {c} {o} {S} {t} {old} {last} out new oe te h e =
    subst (λ (d : Draft). Lowers r n k c (1 + o) S (record t { names = old.names }) old d) (sym is) (record {
      rest = refl;
      scope = ap (λ (x : Scope). let y : Scope = record x { names = take (length old.names) x.names } in y) g.scope ∙ ap (λ (ns : List LocalVariable). let y : Scope = record t { names = ns } in y) te;
      opened = let x = g.opened in omega arith;
      kept = g.kept;
      rows = record { more = g.rows.more; few = g.rows.few; begin = g.rows.begin };
      room = g.room;
      texts = g.texts;
      cells = g.cells;
      code = g.code;
    })
  where
    whole : Draft
    whole = record old { place = record old.place { scope = old.scopes + 1 }; ops = last.ops; rows = last.rows; settled = last.settled; scopes = last.scopes; names = last.names; cells = last.cells; hidden = last.hidden; texts = last.texts; sites = last.sites }

    g : Lowers r n k c o S t (opened old) (record old { place = record old.place { scope = old.scopes + 1 }; ops = last.ops; rows = last.rows; settled = last.settled; scopes = last.scopes; names = last.names; cells = last.cells; hidden = last.hidden; texts = last.texts; sites = last.sites })
    g = subst (λ (d : Draft). Lowers r n k c o S t (opened old) d) h.rest h

    is : new ≡ record old { ops = last.ops; rows = last.rows; settled = last.settled; scopes = last.scopes; names = take (length old.names) last.names; cells = last.cells; hidden = last.hidden; texts = last.texts; sites = last.sites }
    is = e ∙ ap (λ (x : OuterScope). let d : Draft = record last { place = record last.place { scope = x.scope }; names = take x.names last.names } in d) oe
        ∙ ap (λ (x : Draft). let d : Draft = record x { place = record x.place { scope = old.place.scope }; names = take (length old.names) last.names } in d) h.rest

-- the names in scope only grow

pub all_added : (p : Program) (b : Base) (ds : List Declarator) (s : Scope) → (a : List LocalVariable) × ((with_all p s b ds).names ≡ s.names ++ a)
all_added p b [] s = ([], sym (append-nil s.names))
all_added p b (d ∷ ds) s =
    let r = all_added p b ds (with_declared p s b d) in
    (declared_known p s b d ∷ r.0, r.1 ∙ append_assoc s.names (declared_known p s b d ∷ []) r.0)

unchanged : (ns : List LocalVariable) → (a : List LocalVariable) × (ns ≡ ns ++ a)
unchanged ns = ([], sym (append-nil ns))

pub for_added : (p : Program) (start : ForStart) (s : Scope) → (a : List LocalVariable) × ((for_scope p start s).names ≡ s.names ++ a)
for_added p NoFor s = unchanged s.names
for_added p (ForDeclare place b ds) s = all_added p b ds s
for_added p (ForEvaluate e) s = unchanged s.names

-- only a declaration leaves names
names_left : (p : Program) (t : Stmt) (s : Scope) → is_declaration t ≡ false → names_behind p t s ≡ s.names
names_left p (Block place body) s e = refl
names_left p (Empty place) s e = refl
names_left p (Evaluate place v) s e = refl
names_left p (Declare place b ds) s e = absurd (true≢false e)
names_left p (If place test chosen other) s e = refl
names_left p (While place test body) s e = refl
names_left p (Do place body test) s e = refl
names_left p (For place start test step body) s e = refl
names_left p (Break place) s e = refl
names_left p (Continue place) s e = refl
names_left p (Return place value) s e = refl
names_left p (Try place brace body hs) s e = refl
names_left p (Throw place raised) s e = refl
names_left p (Raise place raised) s e = refl
names_left p (RaiseAt place raised target) s e = refl
names_left p (Enable place events body) s e = refl
names_left p (Disable place events body) s e = refl
names_left p (Accept place cs other) s e = refl
names_left p (Print place items) s e = refl
names_left p (PrintTogether place items) s e = refl
names_left p (Read place places) s e = refl
names_left p (Resume place) s e = refl
names_left p (Suspend place) s e = refl
names_left p (Yield place) s e = refl
names_left p (Migrate place cluster) s e = refl

no_scope : (t : Stmt) → is_declaration t ≡ false → alone_scopes t ≡ 0
no_scope (Block place body) e = refl
no_scope (Empty place) e = refl
no_scope (Evaluate place v) e = refl
no_scope (Declare place b ds) e = absurd (true≢false e)
no_scope (If place test chosen other) e = refl
no_scope (While place test body) e = refl
no_scope (Do place body test) e = refl
no_scope (For place start test step body) e = refl
no_scope (Break place) e = refl
no_scope (Continue place) e = refl
no_scope (Return place value) e = refl
no_scope (Try place brace body hs) e = refl
no_scope (Throw place raised) e = refl
no_scope (Raise place raised) e = refl
no_scope (RaiseAt place raised target) e = refl
no_scope (Enable place events body) e = refl
no_scope (Disable place events body) e = refl
no_scope (Accept place cs other) e = refl
no_scope (Print place items) e = refl
no_scope (PrintTogether place items) e = refl
no_scope (Read place places) e = refl
no_scope (Resume place) e = refl
no_scope (Suspend place) e = refl
no_scope (Yield place) e = refl
no_scope (Migrate place cluster) e = refl

pub one_scope : (t : Stmt) → is_declaration t ≡ true → alone_scopes t ≡ 1
one_scope (Declare place b ds) e = refl
one_scope (Block place body) e = absurd (true≢false (sym e))
one_scope (Empty place) e = absurd (true≢false (sym e))
one_scope (Evaluate place v) e = absurd (true≢false (sym e))
one_scope (If place test chosen other) e = absurd (true≢false (sym e))
one_scope (While place test body) e = absurd (true≢false (sym e))
one_scope (Do place body test) e = absurd (true≢false (sym e))
one_scope (For place start test step body) e = absurd (true≢false (sym e))
one_scope (Break place) e = absurd (true≢false (sym e))
one_scope (Continue place) e = absurd (true≢false (sym e))
one_scope (Return place value) e = absurd (true≢false (sym e))
one_scope (Try place brace body hs) e = absurd (true≢false (sym e))
one_scope (Throw place raised) e = absurd (true≢false (sym e))
one_scope (Raise place raised) e = absurd (true≢false (sym e))
one_scope (RaiseAt place raised target) e = absurd (true≢false (sym e))
one_scope (Enable place events body) e = absurd (true≢false (sym e))
one_scope (Disable place events body) e = absurd (true≢false (sym e))
one_scope (Accept place cs other) e = absurd (true≢false (sym e))
one_scope (Print place items) e = absurd (true≢false (sym e))
one_scope (PrintTogether place items) e = absurd (true≢false (sym e))
one_scope (Read place places) e = absurd (true≢false (sym e))
one_scope (Resume place) e = absurd (true≢false (sym e))
one_scope (Suspend place) e = absurd (true≢false (sym e))
one_scope (Yield place) e = absurd (true≢false (sym e))
one_scope (Migrate place cluster) e = absurd (true≢false (sym e))

pub stmt_added : (p : Program) (t : Stmt) (s : Scope) → (a : List LocalVariable) × ((scope_after p t s).names ≡ s.names ++ a)
stmt_added p t s = by_kind (is_declaration t) refl
  where
    declared : (u : Stmt) → is_declaration u ≡ true → (a : List LocalVariable) × (names_behind p u s ≡ s.names ++ a)
    declared (Declare place b ds) e = all_added p b ds s
    declared (Block place body) e = absurd (true≢false (sym e))
    declared (Empty place) e = absurd (true≢false (sym e))
    declared (Evaluate place v) e = absurd (true≢false (sym e))
    declared (If place test chosen other) e = absurd (true≢false (sym e))
    declared (While place test body) e = absurd (true≢false (sym e))
    declared (Do place body test) e = absurd (true≢false (sym e))
    declared (For place start test step body) e = absurd (true≢false (sym e))
    declared (Break place) e = absurd (true≢false (sym e))
    declared (Continue place) e = absurd (true≢false (sym e))
    declared (Return place value) e = absurd (true≢false (sym e))
    declared (Try place brace body hs) e = absurd (true≢false (sym e))
    declared (Throw place raised) e = absurd (true≢false (sym e))
    declared (Raise place raised) e = absurd (true≢false (sym e))
    declared (RaiseAt place raised target) e = absurd (true≢false (sym e))
    declared (Enable place events body) e = absurd (true≢false (sym e))
    declared (Disable place events body) e = absurd (true≢false (sym e))
    declared (Accept place cs other) e = absurd (true≢false (sym e))
    declared (Print place items) e = absurd (true≢false (sym e))
    declared (PrintTogether place items) e = absurd (true≢false (sym e))
    declared (Read place places) e = absurd (true≢false (sym e))
    declared (Resume place) e = absurd (true≢false (sym e))
    declared (Suspend place) e = absurd (true≢false (sym e))
    declared (Yield place) e = absurd (true≢false (sym e))
    declared (Migrate place cluster) e = absurd (true≢false (sym e))

    by_kind : (b : Bool) → is_declaration t ≡ b → (a : List LocalVariable) × ((scope_after p t s).names ≡ s.names ++ a)
    by_kind true e = declared t e
    by_kind false e = let r = unchanged s.names in (r.0, names_left p t s e ∙ r.1)

stmts_added : (p : Program) (ts : Stmts) (s : Scope) → (a : List LocalVariable) × ((scope_behind p ts s).names ≡ s.names ++ a)
stmts_added p NoStmts s = unchanged s.names
stmts_added p (MoreStmts t ts) s =
    let f = stmt_added p t s in
    let r = stmts_added p ts (scope_after p t s) in
    (f.0 ++ r.0, r.1 ∙ ap (λ (l : List LocalVariable). l ++ r.0) f.1 ∙ append_assoc s.names f.0 r.0)

pub taken : (ns ms a : List LocalVariable) → ms ≡ ns ++ a → take (length ns) ms ≡ ns
taken ns ms a e = ap (λ (l : List LocalVariable). take (length ns) l) e ∙ take-append_seam ns a

pub back_out : (p : Program) (ts : Stmts) (s : Scope) → take (length s.names) (scope_behind p ts s).names ≡ s.names
back_out p ts s = let r = stmts_added p ts s in taken s.names (scope_behind p ts s).names r.0 r.1

-- a statement that is that of another

pub arm_alone : (p : Program) (s : Stmt) (old new : Draft) → is_declaration s ≡ false → LowersStmt p s old new → LowersAlone p s old new
arm_alone p s old new e h =
    let none = no_scope s e in
    lowers_as h (ap (λ (ns : List LocalVariable). let t : Scope = record (scope_after p s (scope_of old)) { names = ns } in t) (names_left p s (scope_of old) e)) (λ code a z w. w) (omega arith) (omega arith) (omega arith) (omega arith)

pub arm_alone_scoped : (p : Program) (s : Stmt) (out : OuterScope) (old d1 d2 new : Draft) → is_declaration s ≡ true → out ≡ record { names = length old.names; scope = old.place.scope } → d1 ≡ opened old → LowersStmt p s d1 d2
    → new ≡ record d2 { place = record d2.place { scope = out.scope }; names = take out.names d2.names } → LowersAlone p s old new
arm_alone_scoped p s out old d1 d2 new e oe e1 h e2 =
    let one = one_scope s e in
    let r = stmt_added p s (scope_of old) in
    let k : LowersStmt p s (opened old) d2 = subst (λ (d : Draft). LowersStmt p s d d2) e1 h in
    lowers_as (lowers_scoped out new oe (taken old.names (scope_after p s (scope_of old)).names r.0 r.1) k e2) refl (λ code a z w. w) (omega arith) (omega arith) (omega arith) (omega arith)
