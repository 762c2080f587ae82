-- An event is thrown as in the source.
use Rattle.std.proofs.Common.{◌≡◌, ℕ, ℤ, List, ◌∷◌, Option, Some, None, refl, sym, ap, subst, ◌∙◌}
use Rattle.uc_tree.specs.Source.{Source}
use Rattle.uc_machine.specs.declared.exec.UnwindReason.{UnwindReason}
use Rattle.uc_machine.specs.declared.exec.UnwindReason.TheVariants as reason
use Rattle.uc_machine.specs.Executions.{unwound}
use Rattle.uc_machine.specs.Quiet as quiet
use Rattle.uc_machine.specs.Quiet.{Todo, Value, State, quiet as step}
use Rattle.uc_machine.specs.Pieces.{Unwind}
use Rattle.uc_machine.specs.Raising as raising
use Rattle.uc_machine.specs.Raising.{event_in, throw_step, handle_step, seek}
use Rattle.uc_code.specs.Layout.{Laid}
use Rattle.uc_frames.specs.Machine.{Activation, Machine}
use Rattle.uc_frames.specs.StandsByParts.{Lined}
use Rattle.uc_frames.specs.Stands.{image, CallerStands, EnvironmentStands}
use Rattle.uc_frames.specs.Unwinding.{unwound_by}
use Rattle.uc_frames.specs.UnwindingStands.{RowsStand, UnwindStands, Unwinds, Raises, Throws}
use Rattle.uc_except.specs.declared.found.Found.{Found}
use Rattle.uc_except.specs.declared.found.Found.TheVariants.{Handler as At, None as Nowhere}
use Rattle.uc_except.specs.RowSearch.{resumed}
use Rattle.uc_except.specs.FoundAgrees.{FoundAs}
use Rattle.uc_except.specs.Handling.{thrown, UnwindsNow}
use Rattle.uc_except.proofs.Seeks.{seeks}
use Rattle.uc_except.proofs.Handled.{all_search, searched}

abbrev pub reason_by : raising.Event → UnwindReason
reason_by e = reason.Event e.number e.x e.y

-- the same fields
pub thrown_as : (m new : Machine) (n : ℕ) (x y u v : ℤ) → new ≡ thrown (reason.Event n u v) m → u ≡ x → v ≡ y → new ≡ thrown (reason.Event n x y) m
thrown_as m new n x y u v q i j = q ∙ (ap (λ k. thrown (reason.Event n k v) m) i ∙ ap (λ k. thrown (reason.Event n x k) m) j)

module _ (source : Source) (code : Laid) (old new : Machine) (s : State) where
  unwinds_by : (rest : List Todo) (why : UnwindReason) (vs : List Value) → RowsStand code rest old.run.control → old.run ≡ image old.run.control (record s.run { operands = vs }) → UnwindStands code (unwound_by why old.run.result old.run) (unwound (Unwind ∷ rest) why s.run.result s.run)
  unwinds_by rest why vs r i = record {
    rest = rest;
    todo = refl;
    rows = r;
    is = ap (λ (a : Activation). unwound_by why a.result a) i;
  }

  throws_by : (rest : List Todo) (e : raising.Event) (vs : List Value) → RowsStand code rest old.run.control → old.run ≡ image old.run.control (record s.run { operands = vs }) → Lined (CallerStands code) old.callers s.callers → EnvironmentStands code old.env s.env → step source s ≡ throw_step e rest s → new ≡ thrown (reason_by e) old → UnwindsNow source code new s
  throws_by rest e vs r i l v w q =
      let t : State = record s { run = unwound (Unwind ∷ rest) (reason_by e) s.run.result s.run } in
      record { after = t; by = w; stands = subst (λ (m : Machine). Unwinds code m t) (sym q) (record { run = unwinds_by rest (reason_by e) vs r i; callers = l; env = v }) }

  pub throws_now : (h : Throws code old s) → new ≡ thrown (reason_by (event_in s.run.operands)) old → UnwindsNow source code new s
  throws_now h q =
      throws_by h.rest (event_in s.run.operands) _ h.rows h.is h.callers h.env (ap (λ todo. quiet.act_todo source todo s) h.todo) q

  by_found : (h : Raises code old s) (x : Found) (y : Option raising.Found) → FoundAs code (old.run ∷ old.callers) x y → x ≡ Nowhere → y ≡ None
  by_found h Nowhere None m e = refl
  by_found h Nowhere (Some f) m e = absurd m
  by_found h (At frame row) None m e = refl
  by_found h (At frame row) (Some f) m e = absurd (cc)

  pub resumes_none : (h : Raises code old s) → resumed code.rows None (event_in s.run.operands).number (old.run ∷ old.callers) ≡ Nowhere → new ≡ thrown (reason_by (event_in s.run.operands)) old → UnwindsNow source code new s
  resumes_none h e q =
      let v = event_in s.run.operands in
      let cs = searched source code old new s h ∷ s.callers in
      let f : FoundAs code (old.run ∷ old.callers) (resumed code.rows None v.number (old.run ∷ old.callers)) (seek None v cs) = seeks code None v (old.run ∷ old.callers) cs (all_search source code old new s h) in
      let y : seek None v cs ≡ None = by_found h (resumed code.rows None v.number (old.run ∷ old.callers)) (seek None v cs) f e in
      throws_by h.rest v _ (record { marks = h.run.stands.marks; at = h.run.stands.follows.to; follows = h.run.stands.follows.on; under = h.run.under }) h.run.stands.is h.callers h.env
      (ap (λ todo. quiet.act_todo source todo s) h.todo ∙ ap (λ o. handle_step o v h.rest s) y) q
