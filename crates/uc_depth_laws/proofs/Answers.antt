-- Answers, and the start of a task: an answer brings operands, and at most an object in which nothing is to do, where the task is once.
use Rattle.std.proofs.Common.{◌≡◌, ℕ, ◌+◌, ◌≤◌, List, [], ◌∷◌, ◌++◌, Bool, true, false, Option, Some, None, refl, sym, subst, ap, arith}
use Rattle.std.specs.Prelude.{nat_eq, if◌then◌else◌}
use Rattle.std.proofs.lemmas.Bool.{eqb-true, eq-eqb}
use Rattle.uc_tree.specs.Source.{Source, routine_of}
use Rattle.uc_entry.specs.Keyed.{find}
use Rattle.uc_entry.specs.declared.request.Answer.{Answer}
use Rattle.uc_entry.specs.declared.request.Answer.TheVariants as answer
use Rattle.uc_entry.specs.declared.request.Request.{Request}
use Rattle.uc_entry.specs.declared.request.Request.TheVariants as ask
use Rattle.uc_machine.specs.declared.exec.Home.TheVariants as home
use Rattle.uc_machine.specs.Quiet.{first_state, routine_todo, zeros}
use Rattle.uc_machine.specs.Switches.{without}
use Rattle.uc_machine.specs.Pieces as piece
use Rattle.uc_machine.specs.Pieces.{Value, Object, Todo, State, Members}
use Rattle.uc_machine.specs.Answering.{answered, child_main, child_of, entered, new_members, with_hand, with_operand}
use Rattle.uc_depth_laws.specs.Entering.{Aspect, holds_object, is_holding, EnteredSource}
use Rattle.uc_depth_laws.specs.Owing.{Tests, more, marks, counted, Any, is_told, IsToldFirst, Entered, EngagedHand, owed_waiting, owed_hand, owed_first, owed_own, owed, depth_in, IsBinding, Deep, DeepBehind, DeepAlone, DeepAsk, Done}
use Rattle.uc_depth_laws.specs.DepthLaws.{Suits, LawSteps}
use Rattle.uc_depth_laws.proofs.Depths.{building_none, both_are, counted_least, counted_none, none_first, none_told, calling_most}
use Rattle.uc_depth_laws.proofs.TodoLists as lists
use Rattle.uc_depth_laws.proofs.Calls.{body_at}
use Rattle.uc_depth_laws.proofs.Walk.{walk}

first_depth : (o q : ℕ) → owed_own q o ≤ depth_in (if nat_eq o q then Some 1 else None)
first_depth o q = by (nat_eq o q)
  where
    by : (b : Bool) → (if b then 1 else 0) ≤ depth_in (if b then Some 1 else None)
    by true = omega arith
    by false = omega arith

pub begins : (source : Source) → EnteredSource source → (news : Tests) (r o : ℕ) → is_holding source r ≡ false → Deep source news (first_state (routine_of source r) o)
begins source known news r o e =
    let x = routine_of source r in
    let few = lists.routine_marks source (λ k. false) x in
    let z : more (holds_object x.body) 0 ≡ 0 = ap (λ c. more c 0) e in
    record {
      first = Done;
      run = ((body_at source news known r, λ k f. building_none x.body e k f), (lists.behind source (is_told (news (home.Task o)) (Object o) []) x.purpose x.line).list);
      new = tt;
      one = omega (arith, few, z);
      callers = tt;
      env = record { house = (tt, tt); hand = tt };
      engaged = omega (arith, few, z);
      depths = λ q.
          let a = counted_least q (Object o) (marks (routine_todo x)) 0 (omega (arith, few, z)) in
          let c = counted_none q (Object o) in
          let d = first_depth o q in
          omega (arith, a, c, d);
    }

-- operands where no call is about to begin

operand : (source : Source) (news : Tests) (v : Value) (s : State) → DeepAlone source news s → DeepAlone source news (with_operand v s)
operand source news v s h = record {
  alone = h.alone;
  deep = record {
    first = Any;
    run = h.alone;
    new = none_told source (is_told (news s.env.exec.home) s.run.this s.callers) (news s.env.exec.home) s.run.this s.callers s.run.control (v ∷ s.run.operands) h.alone;
    one = h.deep.one;
    callers = h.deep.callers;
    env = h.deep.env;
    engaged = h.deep.engaged;
    depths = λ q.
        let a = none_first source (is_told (news s.env.exec.home) s.run.this s.callers) q s.run.control (v ∷ s.run.operands) h.alone in
        let b = h.deep.depths q in
        omega (arith, a, b);
  };
}

no_members : (source : Source) (told : Aspect → Bool) (todo : List Todo) → Entered source told Any todo → new_members source todo ≡ None
no_members source told [] h = refl
no_members source told (piece.BindMadeNow c r ∷ todo) h = absurd h.0
no_members source told (p ∷ todo) h = refl

alone : (source : Source) (news : Tests) (given : Answer) (s : State) → DeepAlone source news s → Deep source news (answered source given s)
alone source news (answer.Number n) s h = (operand source news (piece.Number n) s h).deep
alone source news (answer.Value n failed) s h = (operand source news (piece.Number n) s h).deep
alone source news (answer.Object o) s h =
    subst (λ (m : Option Members). Deep source news (with_operand (Object o) (entered m o s))) (sym (no_members source (is_told (news s.env.exec.home) s.run.this s.callers) s.run.control h.alone)) (operand source news (Object o) s h).deep
alone source news (answer.Clause k failed) s h = (operand source news _ _ (operand source news _ s h)).deep
alone source news (answer.Event n x y) s h = (operand source news _ _ (operand source news _ _ (operand source news _ s h))).deep
alone source news answer.Nothing s h = (operand source news _ _ (operand source news _ _ (operand source news _ s h))).deep
alone source news answer.Go s h = h.deep

-- a new object

more_hand : (source : Source) (news : Tests) (hand : List (ℕ × Members)) (o n : ℕ) → EngagedHand source news hand → EngagedHand source news (hand ++ (o, zeros n) ∷ [])
more_hand source news [] o n h = (tt, tt)
more_hand source news (p ∷ hand) o n h = (h.0, more_hand source news hand o n h.1)

same_hand : (source : Source) (q : ℕ) (hand : List (ℕ × Members)) (o n : ℕ) → owed_hand q (hand ++ (o, zeros n) ∷ []) ≤ owed_hand q hand
same_hand source q [] o n = omega arith
same_hand source q (p ∷ hand) o n = let h = same_hand source q hand o n in omega (arith, h)

-- it owes what binds it at most one
binding : (source : Source) (q : ℕ) (todo : List Todo) (v : Value) (vs : List Value) → IsBinding todo → owed_first source q todo (v ∷ vs) ≤ counted q v 1
binding source q [] v vs h = absurd h
binding source q (piece.BindMadeNow c r ∷ todo) v vs h = calling_most source q r v
binding source q (p ∷ todo) v vs h = absurd h

-- what owes nothing to it leaves it told
brought_told : (source : Source) (news : Tests) (o : ℕ) (s : State) (todo : List Todo) (vs : List Value) → s.run.control ≡ todo → IsBinding todo → DeepBehind source news s → find o s.env.depths ≡ None → ((k : Aspect) → news s.env.exec.home k o ≡ true) → IsToldFirst source (news s.env.exec.home) s.run.this s.callers todo (Object o ∷ vs)
brought_told source news o s [] vs c k h e n = tt
brought_told source news o s (piece.BindMadeNow c r ∷ todo) vs g k h e n = λ i f.
    let a = h.depths o in
    let b = ap depth_in e in
    let d = ap (λ (y : List Todo). counted o s.run.this (marks y)) g in
    both_are (news s.env.exec.home i o) _ (n i) (eq-eqb (counted o s.run.this (marks todo) + owed_waiting o s.callers) 0 (omega (arith, a, b, d)))
brought_told source news o s (p ∷ todo) vs c k h e n = absurd k

brought : (source : Source) (news : Tests) (n o : ℕ) (s : State) → IsBinding s.run.control → DeepBehind source news s → find o s.env.depths ≡ None → ((k : Aspect) → news s.env.exec.home k o ≡ true) → Deep source news (with_operand (Object o) (entered (Some (zeros n)) o s))
brought source news n o s k h e x = record {
  first = h.first;
  run = h.run;
  new = brought_told source news o s s.run.control s.run.operands refl k h e x;
  one = h.one;
  callers = h.callers;
  env = record { house = h.env.house; hand = more_hand source news s.env.hand o n h.env.hand };
  engaged = h.engaged;
  depths = λ q. by q (nat_eq o q) refl;
}
  where
    by : (q : ℕ) (c : Bool) → nat_eq o q ≡ c → owed source q (with_operand (Object o) (entered (Some (zeros n)) o s)) ≤ depth_in (if nat_eq o q then Some 1 else find q s.env.depths)
    by q c g =
        let a = binding source q s.run.control (Object o) s.run.operands k in
        let b = same_hand source q s.env.hand o n in
        let d = h.depths q in
        let w = with_one c g in
        omega (arith, a, b, d, w)
      where
        with_one : (c : Bool) → nat_eq o q ≡ c → depth_in (find q s.env.depths) + (if nat_eq o q then 1 else 0) ≤ depth_in (if nat_eq o q then Some 1 else find q s.env.depths)
        with_one true g =
            let f = ap depth_in (subst (λ k. find k s.env.depths ≡ None) (eqb-true o q g) e) in
            let x = ap {B = ℕ} (λ b. if b then 1 else 0) g in
            let y = ap (λ b. depth_in (if b then Some 1 else find q s.env.depths)) g in
            omega (arith, f, x, y)
        with_one false g =
            let x = ap {B = ℕ} (λ b. if b then 1 else 0) g in
            let y = ap (λ b. depth_in (if b then Some 1 else find q s.env.depths)) g in
            omega (arith, x, y)

made : (source : Source) (news : Tests) (o : ℕ) (s : State) (todo : List Todo) → IsBinding todo → IsBinding s.run.control → DeepBehind source news s → find o s.env.depths ≡ None → ((k : Aspect) → news s.env.exec.home k o ≡ true) → Deep source news (with_operand (Object o) (entered (new_members source todo) o s))
made source news o s [] h k d e x = absurd h
made source news o s (piece.BindMadeNow c r ∷ todo) h k d e x = brought source news _ o s k d e x
made source news o s (p ∷ todo) h k d e x = absurd h

-- what is not there is not taken out
without_none : (o : ℕ) (hand : List (ℕ × Members)) → find o hand ≡ None → without o hand ≡ hand
without_none o [] e = refl
without_none o (p ∷ hand) e = by (nat_eq p.0 o) e (without_none o hand)
  where
    by : (b : Bool) → (if b then Some p.1 else find o hand) ≡ None → (find o hand ≡ None → without o hand ≡ hand) → (if b then hand else p ∷ without o hand) ≡ p ∷ hand
    by true h rest = absurd (cc)
    by false h rest = ap (λ hs. p ∷ hs) (rest h)

pub told : (source : Source) (news : Tests) (r : Request) (given : Answer) (s : State) → DeepAsk source news r s → Suits news r given s → Deep source news (answered source given s)
told source news (ask.Call o m) given s d e = subst (λ g. Deep source news (answered source g s)) (sym e.0) (d e.1)
told source news ask.Slice given s d e = subst (λ g. Deep source news (answered source g s)) (sym e) d
told source news (ask.Make c) given s d e = subst (λ g. Deep source news (answered source g s)) (sym e.1) (made source news e.0 s s.run.control d.0 d.0 d.1 e.2 e.3)
told source news (ask.Spawn o) given s d e = alone source news given s d.0
told source news (ask.Gone o) given s d e = alone source news given s (subst (λ h. DeepAlone source news (with_hand h s)) (without_none o s.env.hand e) d.0)
told source news ask.End given s d e = absurd e
told source news (ask.Fault f) given s d e = absurd e
told source news r given s d e = alone source news given s d

-- a main with which a task may begin
main_at : (source : Source) (told : Aspect → Bool) → EnteredSource source → (todo : List Todo) → Entered source told Any todo → is_holding source (child_main source todo) ≡ false
main_at source told known [] h = known.main
main_at source told known (piece.ChildNow r ∷ todo) h = h.0
main_at source told known (p ∷ todo) h = known.main

born : (source : Source) → EnteredSource source → (news now : Tests) (o n : ℕ) (s : State) → DeepAsk source news (ask.Spawn o) s → Deep source now (child_of source n s)
born source known news now o n s d =
    begins source known now (child_main source s.run.control) n (main_at source (is_told (news s.env.exec.home) s.run.this s.callers) known s.run.control d.0.alone)

pub law_steps : LawSteps
law_steps = record { begins = begins; born = born; steps = λ source known news s o d f. walk source news known s o d f; told = told }
