-- What lists tell of the seats for which they have marks; and the laws over runs.
use Rattle.std.proofs.Common.{◌≡◌, ℕ, ◌<◌, ◌&&◌, inl, inr, true, false, not, List, [], ◌∷◌, Option, Some, None, refl, ap, ◌∙◌}
use Rattle.std.specs.Prelude.{nat_lt, slice_get}
use Rattle.std.proofs.lemmas.Bool.{lt-ltb}
use Rattle.uc_tree.specs.Programs.{Program}
use Rattle.uc_tree.specs.Numbering.{sites_of}
use Rattle.uc_tree.specs.Source.{Expr, Source, Routine}
use Rattle.uc_acts.specs.Journal.{Journal}
use Rattle.uc_acts.specs.Known.{object_count, is_gone, owner}
use Rattle.uc_acts.specs.Queues.{is_nobody}
use Rattle.uc_machine.specs.declared.exec.Exec.{Exec}
use Rattle.uc_machine.specs.declared.exec.Home.{Home}
use Rattle.uc_machine.specs.declared.exec.Home.TheVariants as home
use Rattle.uc_machine.specs.Executions.{Execution}
use Rattle.uc_machine.specs.Pieces as piece
use Rattle.uc_machine.specs.Pieces.{Value, Todo, Active, State, Members}
use Rattle.uc_machine.specs.Quiet.{quiet}
use Rattle.uc_resolve.specs.Resolve.{source_of}
use Rattle.uc_rules.specs.Breaks.{breaks_of}
use Rattle.uc_state_laws.proofs.Others.{run_rests}
use Rattle.uc_sound.specs.SoundFormed.{IsFormed}
use Rattle.uc_sound.specs.Tables.{table_of}
use Rattle.uc_sound.proofs.SoundLemmas.{law_sound}
use Rattle.uc_site_laws.proofs.Routines.{source_named}
use Rattle.uc_state_laws.specs.Counted.{CountedRoutine}
use Rattle.uc_state_laws.proofs.Arguments.{counted_source}
use Rattle.uc_place_laws.specs.OlderResting.{AllWait, NamedSlot, NamedParked, NamedHand, NamedMembers}
use Rattle.uc_tasked_laws.specs.Seated.{SeatedRoutine}
use Rattle.uc_tasked_laws.specs.Seats.{Every, AtEnd, CodeRoutine, AtRest, AtDrop, Left, Stands, Starts}
use Rattle.uc_tasked_laws.specs.SeatedStates.{Told, AllHave, Kept, Done, Begun, Finds, Runs, Waits, Calling, RunsNow, SeatedMembers, SeatedState}
use Rattle.uc_tasked_laws.specs.TaskedRuns.{is_pending, told_by, KeepsSeats, SeatsKept, LawTasked}
use Rattle.uc_tasked_laws.specs.OwnedRuns.{LawOwned}
use Rattle.uc_tasked_laws.specs.TaskedLaws.{LawSeated, LawSteps}
use Rattle.uc_tasked_laws.proofs.Marks as marks
use Rattle.uc_tasked_laws.proofs.Seating.{seated}
use Rattle.uc_tasked_laws.proofs.SeatThings.{law_things}
use Rattle.uc_tasked_laws.proofs.Spawners.{spawning}
use Rattle.uc_tasked_laws.proofs.Walk.{walk, led, first_seated, goes_on, answered_seated}
use Rattle.uc_tasked_laws.proofs.Worlds as worlds

module _ (p : Program) (source : Source) (D B : Type 0) (S : ℕ → Expr → Type 0) where
  -- what is left has the marks that stand
  pub left_have : (todo : List Todo) → Left p source D B S todo → AllHave S todo
  left_have [] h = tt
  left_have (piece.InLoop o t e b ∷ todo) h = (tt, left_have todo (marks.left p source D B S [] todo h.1))
  left_have (piece.InWhole ∷ todo) h = (tt, left_have todo (marks.left p source D B S [] todo h))
  left_have (piece.Clean c ∷ todo) h = (h.0.1, left_have todo (marks.clean_tail p source D B S c todo h.1))
  left_have (piece.FillNow n b d ∷ todo) h = (tt, left_have todo (marks.left p source D B S [] todo h.1))
  left_have (piece.Sweep e ∷ todo) h = (tt, left_have todo (marks.left p source D B S [] todo h.1))
  left_have (piece.Part c ∷ todo) h = (h.0.1, left_have todo (marks.left p source D B S [] todo h.1))
  left_have (piece.Guard hs ∷ todo) h = (tt, left_have todo (marks.left p source D B S [] todo h.1))
  left_have (piece.Finish ∷ todo) h = (tt, left_have todo (marks.left p source D B S [] todo h.1))
  left_have (piece.FinishCoroutine ∷ todo) h = (tt, left_have todo (marks.left p source D B S [] todo h))
  left_have (x ∷ todo) h = (tt, left_have todo h)

  end_have : (todo : List Todo) → AtEnd todo → AllHave S todo
  end_have todo h = left_have todo (marks.end_left p source D B S todo h)

  start_have : (todo : List Todo) → Starts p source D B S todo → AllHave S todo
  start_have (piece.Rest ss ∷ todo) h = (tt, end_have todo h.3)
  start_have (piece.SpawnNow r ∷ todo) h = (tt, end_have todo h.1)
  start_have todo h = absurd h

  drop_have : (P : ℕ → Expr → Type 0) (todo : List Todo) → AtDrop p source D B S P todo → AllHave S todo
  drop_have P todo h = left_have todo (marks.left_drop p source D B S todo (marks.drop_more p source D B S P Every (λ d e x. tt) todo h))

  rest_have : (todo : List Todo) → AtRest p source D B S S todo → AllHave S todo
  rest_have (piece.Rest ss ∷ todo) h = (tt, left_have todo (marks.left p source D B S [] todo h.1))
  rest_have todo h = absurd h

  stand_have : (todo : List Todo) → Stands p source D B S S todo → AllHave S todo
  stand_have (piece.Rest ss ∷ todo) h = rest_have (piece.Rest ss ∷ todo) h
  stand_have (piece.Within line ∷ todo) h = (tt, rest_have todo h)
  stand_have (piece.DropNow ∷ todo) h = drop_have S (piece.DropNow ∷ todo) h
  stand_have todo h = absurd h

module _ (p : Program) (source : Source) (told : Told) where
  abbrev Keeps : Exec → List Active → Active → Type 0
  Keeps n older a = KeepsSeats p told n older a

  finds_keep : (many : ℕ) (n : Exec) (older : List Active) (a : Active) → Finds p source told many n older a → Keeps n older a
  finds_keep many n older a h =
      left_have p source (Done p told n older) (Begun p told n a.this older) (Kept p told n a.frame a.this) a.control (marks.left p source (Done p told n older) (Begun p told n a.this older) (Kept p told n a.frame a.this) _ a.control h.ok)

  calls_keep : (n : Exec) (older : List Active) (a : Active) (l : List Todo) → Calling p source told n older a l → AllHave (Kept p told n a.frame a.this) l
  calls_keep n older a (piece.CallOnNow r ∷ todo) h =
      (tt, drop_have p source (Done p told n older) (Begun p told n a.this older) (Kept p told n a.frame a.this) _ todo h.2)
  calls_keep n older a (piece.CallUnwrittenNow r ∷ todo) h =
      (tt, drop_have p source (Done p told n older) (Begun p told n a.this older) (Kept p told n a.frame a.this) _ todo h.2)
  calls_keep n older a l h = absurd h

  run_keeps : (n : Exec) (older : List Active) (a : Active) → RunsNow p source told n older a → Keeps n older a
  run_keeps n older a (inl h) = finds_keep 0 n older a h
  run_keeps n older a (inr (inl h)) = start_have p source (Done p told n older) (Begun p told n a.this older) (Kept p told n a.frame a.this) a.control h
  run_keeps n older a (inr (inr (inl h))) = stand_have p source (Done p told n older) (Begun p told n a.this older) (Kept p told n a.frame a.this) a.control h
  run_keeps n older a (inr (inr (inr h))) = calls_keep n older a a.control h

  wait_keeps : (n : Exec) (older : List Active) (a : Active) → Waits p source told n older a → Keeps n older a
  wait_keeps n older a (inl h) = finds_keep 1 n older a h
  wait_keeps n older a (inr h) = drop_have p source (Done p told n older) (Begun p told n a.this older) (Kept p told n a.frame a.this) Every a.control h

  all_keep : (n : Exec) (cs : List Active) → AllWait (Runs p source told) (Waits p source told) n cs → AllWait Keeps Keeps n cs
  all_keep n [] h = tt
  all_keep n (a ∷ cs) h = (wait_keeps n cs a h.0, all_keep n cs h.1)

  slot_keeps : (n : Exec) (x : Option (Execution (List Todo) Value)) → NamedSlot (Runs p source told) (Waits p source told) n x → NamedSlot Keeps Keeps n x
  slot_keeps n None h = tt
  slot_keeps n (Some x) h = record { run = finds_keep 0 n x.callers x.run h.run; callers = all_keep n x.callers h.callers }

  parked_keep : (h : Home) (ps : List (ℕ × Option (Execution (List Todo) Value))) → NamedParked (Runs p source told) (Waits p source told) h ps → NamedParked Keeps Keeps h ps
  parked_keep h [] k = tt
  parked_keep h (x ∷ ps) k = (slot_keeps _ x.1 k.0, parked_keep h ps k.1)

  hand_keeps : (hand : List (ℕ × Members)) → NamedHand (Runs p source told) (Waits p source told) hand → NamedHand Keeps Keeps hand
  hand_keeps [] h = tt
  hand_keeps (x ∷ hand) h = (parked_keep (home.Object x.0) x.1.parked h.0, hand_keeps hand h.1)

  members_keep : (h : Home) (m : Option Members) → SeatedMembers p source told h m → NamedMembers Keeps Keeps h m
  members_keep h None k = tt
  members_keep h (Some m) k = parked_keep h m.parked k

  state_keeps : (s : State) → SeatedState p source told s → SeatsKept p told s
  state_keeps s h = record {
    stack = (run_keeps s.env.exec s.callers s.run h.run, all_keep s.env.exec s.callers h.callers);
    env = record { house = parked_keep (home.Task s.env.own) s.env.house.parked h.env.house; hand = hand_keeps s.env.hand h.env.hand };
  }

-- the code of such a program

code_by : (g : Program) (x : Source) (r : Option Routine) → CountedRoutine x r → SeatedRoutine g r → CodeRoutine g x r
code_by g x None n o = tt
code_by g x (Some r) n o = (o.0, (n, o.1))

pub code_of : (p : Program) → IsFormed p → breaks_of p ≡ [] → (n : ℕ) → CodeRoutine p (source_of p) (slice_get (source_of p).routines n)
code_of p formed accepted n =
    code_by p (source_of p) (slice_get (source_of p).routines n) (counted_source (sites_of p) (source_of p) (table_of p) (law_sound p formed accepted) (source_named p) n) (seated p n)

pub law_tasked : LawTasked
law_tasked p formed accepted homes input opts range j w r f on fair far =
    let known : (n : ℕ) → CodeRoutine p (source_of p) (slice_get (source_of p).routines n) = code_of p formed accepted in
    let x = worlds.seated_run p known (spawning p formed accepted) homes input opts range r f fair far on in
    record {
      tasks = λ n h.
          let v : State = w.tasks n in
          let m = x.tasks n in
          record {
            stack = (finds_keep p (source_of p) (told_by homes j) _ v.env.exec v.callers v.run (m.run h), all_keep p (source_of p) (told_by homes j) v.env.exec v.callers m.callers);
            house = parked_keep p (source_of p) (told_by homes j) (home.Task v.env.own) v.env.house.parked m.house;
          };
      comes = λ n s c m. state_keeps p (source_of p) (told_by homes j) s (worlds.state p known (spawning p formed accepted) homes input opts range (run_rests (source_of p) input opts range r f on) on x n s c m);
      homes_keep = λ o. members_keep p (source_of p) (told_by homes j) (home.Object o) (w.homes o) (x.homes o);
      houses = λ n. parked_keep p (source_of p) (told_by homes j) (home.Task (w.tasks n).env.own) (w.tasks n).env.house.parked (x.tasks n).house;
    }

-- who is not pending, has been made and is not gone is of a task
owned : (j : Journal) (o : ℕ) → is_pending j o ≡ false → o < object_count j → is_gone o j ≡ false → owner o j ≡ [] → ⊥
owned j o x made there none =
    let m : nat_lt o (object_count j) ≡ true = lt-ltb o (object_count j) made in
    let y : is_pending j o ≡ true = ap (λ b. b && (is_nobody (owner o j) && not (is_gone o j))) m ∙ (ap (λ l. is_nobody l && not (is_gone o j)) none ∙ ap not there) in
    absurd (cc)

pub law_owned : LawOwned
law_owned p formed accepted homes input opts range j w r f on fair far n s c m i o tasks at made there none =
    owned j o (law_things p (told_by homes j) s.env.exec (s.run ∷ s.callers) ((law_tasked p formed accepted homes input opts range j w r f on fair far).comes n s c m).stack i tasks (homes o) at o refl) made there none

pub law_seated : LawSeated
law_seated = record { seated = seated; spawns = λ p formed accepted. spawning p formed accepted }

pub law_steps : LawSteps
law_steps = record {
  begins = λ p source told known code spawns r o. first_seated p source told (λ n. code_by p source (slice_get source.routines n) (known n) (code n)) spawns r o;
  steps = λ p source told known code spawns s h f. led p source told (quiet source s) (walk p source told (λ n. code_by p source (slice_get source.routines n) (known n) (code n)) spawns s h f);
  told = λ p source told form given s k f c e. answered_seated p source told form given s k f c e;
  goes_on = λ p source told s h. goes_on p source told s h;
  keeps = λ p source told s h. state_keeps p source told s h;
}
