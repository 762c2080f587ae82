-- What a step finds where what is gone has no number any more, it finds where that has its number still.
use Rattle.std.proofs.Common.{◌≡◌, ℕ, inl, inr, Bool, true, false, List, [], ◌∷◌, Option, Some, None}
use Rattle.std.specs.Prelude.{if◌then◌else◌}
use Rattle.uc_tree.specs.Source as src
use Rattle.uc_tree.specs.Source.{Expr, ObjectExpr}
use Rattle.uc_acts.specs.Journal.{Journal}
use Rattle.uc_acts.specs.Known.{is_gone}
use Rattle.uc_machine.specs.declared.exec.Exec.{Exec}
use Rattle.uc_machine.specs.declared.exec.Stage.{Stage}
use Rattle.uc_machine.specs.declared.exec.Stage.TheVariants.{Fresh, Started, Ended}
use Rattle.uc_machine.specs.Executions.{Execution, others}
use Rattle.uc_machine.specs.Quiet.{home_at}
use Rattle.uc_machine.specs.Switches.{new_exec, stopped}
use Rattle.uc_machine.specs.Pieces as piece
use Rattle.uc_machine.specs.Pieces.{Value, Number, Place, Running, Object, Nothing, Todo, Active, State, loaded, top, object_in}
use Rattle.uc_typing.specs.Typing.{Ty, Num, Cell, Obj, Raw, Name, Sig, Table, object_ty}
use Rattle.uc_life_laws.specs.Things.{Few, IsFew, Base, Known}
use Rattle.uc_life_laws.specs.LifeStates.{BehindMark, OpensAtBy, Outwards}
use Rattle.uc_life_laws.specs.Lives.{OutwardsOrMade, LivesState, FindsLiving}
use Rattle.uc_life_laws.specs.Knowing.{AtHand, KnowsState, KnownAll, KnownParams, KnownFrames, KnownThis, Knows, KnowsWaits, HasObject, Here, ReadsKnown, IsStill, FindsObject, FindsExpr, Finds}
use Rattle.uc_life_laws.specs.KnownRuns.{Meets}
use Rattle.uc_life_laws.specs.Endings.{RawsPass}
use Rattle.uc_life_laws.specs.Fewer.{KeepsOthers, Lasts, HandLasts, ExLasts}
use Rattle.uc_life_laws.specs.Lasting.{lasting, lasting_numbers}
use Rattle.uc_life_laws.proofs.Fewer.{held_same, lies_same, known_fewer, lives_fewer, env_lives, law_fewer}
use Rattle.uc_life_laws.proofs.Knowns.{frames_length}
use Rattle.uc_life_laws.proofs.Lasting.{each_env}

few_by : (t : Table) (x y : Few) (n : Exec) (a b : Ty) (v : Value) → ((o : ℕ) → x.numbers a o ≡ true → y.numbers b o ≡ true) → IsFew t x n a v → IsFew t y n b v
few_by t x y n a b (Number z) f h = tt
few_by t x y n a b (Place o p) f h = tt
few_by t x y n a b (Running e) f h = tt
few_by t x y n a b (Object o) f h = f o h
few_by t x y n a b Nothing f h = tt

module _ (t : Table) (numbers : Ty → ℕ → Bool) (home : ℕ → Value) (base : Exec → Value → Ty → Bool) (i : Journal) where
  abbrev few : Few
  few = record { numbers = numbers; home = home; base = base }

  abbrev less : Few
  less = lasting few i

  pub passes : (c o : ℕ) → lasting_numbers numbers i (Obj c) o ≡ true → numbers (Obj c) o ≡ true
  passes c o h = by (is_gone o i) h
    where
      by : (b : Bool) → (if b then false else numbers (Obj c) o) ≡ true → numbers (Obj c) o ≡ true
      by true h = absurd (cc)
      by false h = h

  lasts : (K : Value → Ty → Type 0) → Lasts t less numbers K
  lasts K c o m h f = passes c o f

  keeps : KeepsOthers t less numbers
  keeps = record { raws = λ c o h. h; clusters = λ o h. h; processors = λ o h. h }

  hand_lasts : (g : Stage) (n : Exec) (x : Execution (List Todo) Value) → HandLasts t less numbers g n x
  hand_lasts Fresh n x = inr (λ k. lasts _)
  hand_lasts Started n x = λ k. lasts _
  hand_lasts Ended n x = tt

  ex_lasts : (n : Exec) (x : Execution (List Todo) Value) → ExLasts t less numbers n x
  ex_lasts n x = hand_lasts x.links.stage n x

  known : (n : Exec) (K : Value → Ty → Type 0) (a : Ty) (v : Value) → Known t less n K a v → Known t few n K a v
  known n K a v h = known_fewer t less numbers keeps n K (lasts K) a v h

  -- where a scope opens

  opens : (K : BehindMark) (s : State) (l : List Todo) → OpensAtBy t less K l s → OpensAtBy t few K l s
  opens K s (piece.Rest (src.Scoped c rest) ∷ todo) h = λ k a x p b w bind. known s.env.exec (K (Outwards t few s.env.exec s.run.frame s.run.this s.callers c todo) s.env.exec s.run.frame s.run.this s.callers) b _ (h k a x p b w bind)
  opens K s l h = tt

  -- what is read, and what is at hand

  module _ (raws : RawsPass few) (gs : List Sig) (g : Sig) (sc : List Name) (s : State) where
    reads : (a : Ty) (v : Value) → ReadsKnown t less gs s a v → ReadsKnown t few gs s a v
    reads a v r = record {
      untracked = λ x y. known s.env.exec (Here t few gs s) a (loaded v s.env) (r.untracked x y);
      seated = λ x y. known s.env.exec (Here t few gs s) a (loaded v s.env) (r.seated x y);
      foreign = λ x. known s.env.exec (Here t few gs s) a (loaded v s.env) (r.foreign x);
      field = λ w b x y. known s.env.exec (Here t few gs s) a (loaded v s.env) (r.field w b x y);
      making = λ w c x y. known s.env.exec (Here t few gs s) a (loaded v s.env) (r.making w c x y);
    }

    still : IsStill t less gs g sc s → IsStill t few gs g sc s
    still h = λ c e. (
      (λ f. few_by t less few s.env.exec (Obj c) (Obj c) s.run.this (λ o x. passes c o x) ((h c e).0 (few_by t few less s.env.exec (Raw c) (Raw c) s.run.this (λ o x. x) f))),
      (λ f. few_by t few few s.env.exec (Obj c) (Raw c) s.run.this (λ o x. raws c o x) f),
    )

    object : (o : ObjectExpr) (a : Ty) → FindsObject t less gs g sc s o a → FindsObject t few gs g sc s o a
    object src.This a h = still h
    object (src.GetOwn k m) a h = reads a _ h
    object o a h = tt

    expr : (e : Expr) (a : Ty) → FindsExpr t less gs g sc s e a → FindsExpr t few gs g sc s e a
    expr (src.OfObject o) a h = object o a h
    expr e a h = tt

    has : (c : Option ℕ) (o : ℕ) → HasObject t less c o → HasObject t few c o
    has None o h = tt
    has (Some c) o h = held_same t less numbers _ (Obj c) _ h

    finds : (l : List Todo) (own : List Ty) → Finds t less gs g sc s l own → Finds t few gs g sc s l own
    finds (piece.Eval e ∷ todo) own h = λ a y. expr e a (h a y)
    finds (piece.LoadNow ∷ todo) (Cell a ∷ more) h = reads a (top s.run.operands) h
    finds (piece.SetUpNow r ∷ todo) own h = λ m e.
        (still (h m e).0, λ c q. lies_same t less numbers keeps (new_exec (home_at s.run.this s.env) s.env) (Base few (new_exec (home_at s.run.this s.env) s.env)) (Obj c) s.run.this ((h m e).1 c q))
    finds (piece.SpawnNow r ∷ todo) own h = has (t.routine r).this (object_in s.run.this) h
    finds l own h = tt

  -- all that is known stays so, by the same typing

  all : (n : Exec) (K : Value → Ty → Type 0) (tys : List Ty) (vs : List Value) → KnownAll t less n K tys vs → KnownAll t few n K tys vs
  all n K [] [] h = tt
  all n K [] (v ∷ vs) h = absurd h
  all n K (a ∷ tys) [] h = absurd h
  all n K (a ∷ tys) (v ∷ vs) h = (known n K a v h.0, all n K tys vs h.1)

  params : (n : Exec) (K : Value → Ty → Type 0) (tys : List Ty) (vs : List Value) → KnownParams t less n K tys vs → KnownParams t few n K tys vs
  params n K [] vs h = tt
  params n K (a ∷ tys) [] h = absurd h
  params n K (a ∷ tys) (v ∷ vs) h = (known n K a v h.0, params n K tys vs h.1)

  frames : (n : Exec) (gs : List Sig) (fs : List (List Value)) (cs : List Active) → KnownFrames t less n gs fs cs → KnownFrames t few n gs fs cs
  frames n [] [] [] h = tt
  frames n (g ∷ gs) (f ∷ fs) (c ∷ cs) h = (params n (AtHand t few n gs cs) g.params f h.0, frames n gs fs cs h.1)
  frames n [] [] (c ∷ cs) h = absurd h
  frames n [] (f ∷ fs) cs h = absurd h
  frames n (g ∷ gs) [] cs h = absurd h
  frames n (g ∷ gs) (f ∷ fs) [] h = absurd h

  this : (n : Exec) (K : Value → Ty → Type 0) (g : Sig) (o : Option ℕ) (v : Value) → KnownThis t less n K g o v → KnownThis t few n K g o v
  this n K g None v h = tt
  this n K g (Some c) v h = known n K (object_ty g.whole c) v h

  knows : (n : Exec) (gs : List Sig) (given : List Ty) (older : List Active) (a : Active) → Knows t less n gs given older a → Knows t few n gs given older a
  knows n gs given older a k = record {
    sig = k.sig;
    own = k.own;
    scope = k.scope;
    base = k.base;
    frame = k.frame;
    values = all n (AtHand t few n gs (a ∷ older)) k.own a.operands k.values;
    this = this n (AtHand t few n (others gs) older) k.sig k.sig.this a.this k.this;
    ok = k.ok;
    ends = k.ends;
  }

  waits : (n : Exec) (gs : List Sig) (cs : List Active) → KnowsWaits t less n gs cs → KnowsWaits t few n gs cs
  waits n gs [] h = tt
  waits n gs (c ∷ cs) h = (knows n gs (Num ∷ []) cs c h.0, waits n (others gs) cs h.1)

  -- so does what variables in scope hold, by the same kinds
  same : (raws : RawsPass few) (s : State) (x : LivesState t less s) → FindsLiving t less s x → (y : LivesState t few s) × FindsLiving t few s y
  unfolding knows
  same raws s x h = (
    (
      record {
        sigs = x.0.sigs;
        frames = frames s.env.exec x.0.sigs s.env.frames (s.run ∷ s.callers) x.0.frames;
        run = knows s.env.exec x.0.sigs [] s.callers s.run x.0.run;
        callers = waits s.env.exec (others x.0.sigs) s.callers x.0.callers;
        env = env_lives t less numbers keeps s.env x.0.env (each_env (ExLasts t less numbers) (λ n y. ex_lasts n y) s.env);
      },
      lives_fewer t less numbers keeps s.env.exec x.0.sigs (stopped s) (frames_length t less s.env.exec x.0.sigs s.env.frames (s.run ∷ s.callers) x.0.frames) x.1 (inl (lasts _)),
    ),
    (finds raws x.0.sigs x.0.run.sig x.0.run.scope s s.run.control x.0.run.own h.0, opens (OutwardsOrMade x.0.sigs) s s.run.control h.1),
  )

  -- so all is known with the numbers of what is gone
  pub knows_all : (s : State) → KnowsState t less [] s → KnowsState t few [] s
  knows_all s x =
      law_fewer.knows t less numbers keeps [] s (each_env (ExLasts t less numbers) (λ n y. ex_lasts n y) s.env) x (record { waiting = lasts _; operands = inl (lasts _) })

  pub meets : RawsPass few → (s : State) → LivesState t less s → Meets t less s → Meets t few s
  meets raws s x m = λ y.
      let z = m x in
      same raws s z.0 z.1
