-- A run passes through each earlier one: its acts go on where that ended.
use Rattle.std.proofs.Common.{◌≡◌, ℕ, ◌<◌, false, List, [], ◌∷◌, ◌++◌, Some, length, refl, sym, ap, ◌∙◌, subst, arith, append_assoc, length-append}
use Rattle.uc_tree.specs.Source.{Source}
use Rattle.uc_entry.specs.declared.entry.Entry.{Entry}
use Rattle.uc_entry.specs.declared.entry.Options.{Options}
use Rattle.uc_entry.specs.declared.request.Asked.{Asked}
use Rattle.uc_acts.specs.Journal.{Journal, begin, is_over, first_or_0, cost}
use Rattle.uc_acts.specs.Queues.{running}
use Rattle.uc_acts.specs.Answers.{answer_to}
use Rattle.uc_acts.specs.Serves.{left}
use Rattle.uc_acts.specs.Acts.{act, dispatch, lone_limit}
use Rattle.uc_acts.specs.KernelRuns.{Fits}
use Rattle.uc_acts.proofs.Bounds.{over_limit}
use Rattle.uc_acts.proofs.Acting.{is_giving, object_of, destroys, AllBy, by_act}
use Rattle.uc_acts.proofs.Making.{row_asks}
use Rattle.uc_acts.proofs.Living.{going_row}
use Rattle.uc_machine.specs.Answering.{answered}
use Rattle.uc_machine.specs.Rides.{Rides}
use Rattle.uc_meaning.specs.Runs.{World, Runs, May, begun, more, gives, no_room, acts, first_world, drawn, world_after}
use Rattle.uc_meaning.specs.Cuts.{Cut, ends, goes_on, Reentry}
use Rattle.uc_meaning.proofs.CutsLemmas.{law_cut}
use Rattle.uc_state_laws.specs.Laws.{LawThrough, LawSeat}
use Rattle.uc_state_laws.proofs.Ticks.{no_both, not_over}
use Rattle.uc_state_laws.proofs.Others.{cancel, rest_of, goes_first, law_others}

abbrev first_entry : List Entry → Entry
first_entry [] = lone_limit
first_entry (e ∷ a) = e

-- an act of a processor begins with an entry of it
record Begins (p : ℕ) (a : List Entry) : Type 0 where
  first : Entry
  rest : List Entry
  is : a ≡ first ∷ rest
  processor : first.proc ≡ p
  gives : is_giving first.kind ≡ false

module _ (source : Source) (input : List ℕ) (opts : Options) where
  begins : (j : Journal) (p t n : ℕ) (asked : Asked) → Fits opts source.sites j t asked.request → is_over (j ++ act opts source.sites input j p t n asked) ≡ false → Begins p (act opts source.sites input j p t n asked)
  begins j p t n asked f on =
      let x = row_asks opts source.sites input j p t (cost n asked.line) asked.line asked.request f in
      let is : act opts source.sites input j p t n asked ≡ x.first ∷ x.rest = (going_row opts source.sites input j p t n asked on).0 ∙ x.is in
      let b : AllBy p t (object_of t j asked.request) (Unit {0}) (destroys asked.request) (x.first ∷ x.rest) = subst (AllBy p t (object_of t j asked.request) (Unit {0}) (destroys asked.request)) is (by_act opts source.sites input j p t n (Unit {0}) asked (λ h. tt)) in
      record { first = x.first; rest = x.rest; is = is; processor = b.0.proc; gives = b.0.acts }

  proc_of : (p : ℕ) (a y : List Entry) → Begins p a → (first_entry (a ++ y)).proc ≡ p
  proc_of p a y b = ap (λ l. (first_entry (l ++ y)).proc) b.is ∙ b.processor

  gives_not : (p : ℕ) (a y : List Entry) → Begins p a → is_giving (first_entry (a ++ y)).kind ≡ false
  gives_not p a y b = ap (λ l. is_giving (first_entry (l ++ y)).kind) b.is ∙ b.gives

  longer : (p : ℕ) (a : List Entry) → Begins p a → 0 < length a
  longer p a b = let l = ap length b.is in omega (arith, l)

  module _ (re : Reentry source input opts) {j : Journal} {w : World} (r : Runs source input opts j w) (o : is_over j ≡ false) where
    step_some : {a : List Entry} {x : World} → May source opts input j w a x → is_over (j ++ a) ≡ false → 0 < length a
    step_some (gives p t s m) on = omega arith
    step_some (no_room p t s m) on = omega arith
    step_some (acts p t n s asked d) on = longer p (act opts source.sites input j p t n asked) (begins j p t n asked (re j w p t n s asked r o d) on)

    -- two acts that begin alike, behind which the run goes on, are one
    same_step : {a b : List Entry} {x v : World} → May source opts input j w a x → May source opts input j w b v → is_over (j ++ a) ≡ false → is_over (j ++ b) ≡ false → (y z : List Entry) → a ++ y ≡ b ++ z → (a ≡ b) × (x ≡ v)
    same_step (no_room p t s m) k on on' y z e = no_both (is_over (j ++ lone_limit ∷ [])) (over_limit j 0 0) on
    same_step k (no_room p t s m) on on' y z e = no_both (is_over (j ++ lone_limit ∷ [])) (over_limit j 0 0) on'
    same_step (gives p t s m) (gives p' t' s' m') on on' y z e =
        let q : p ≡ p' = ap (λ l. (first_entry l).proc) e in
        let u : t ≡ t' = ap (λ l. (first_entry l).task) e in
        (ap (λ v. dispatch v t ∷ []) q ∙ ap (λ v. dispatch p' v ∷ []) u, refl)
    same_step (gives p t s m) (acts p' t' n' s' asked' d') on on' y z e =
        let b = act opts source.sites input j p' t' n' asked' in
        no_both (is_giving (first_entry (b ++ z)).kind) (ap (λ l. is_giving (first_entry l).kind) (sym e)) (gives_not p' b z (begins j p' t' n' asked' (re j w p' t' n' s' asked' r o d') on'))
    same_step (acts p t n s asked d) (gives p' t' s' m') on on' y z e =
        let a = act opts source.sites input j p t n asked in
        no_both (is_giving (first_entry (a ++ y)).kind) (ap (λ l. is_giving (first_entry l).kind) e) (gives_not p a y (begins j p t n asked (re j w p t n s asked r o d) on))
    same_step (acts p t n s asked d) (acts p' t' n' s' asked' d') on on' y z e =
        let a = act opts source.sites input j p t n asked in
        let b = act opts source.sites input j p' t' n' asked' in
        let q : p ≡ p' = sym (proc_of p a y (begins j p t n asked (re j w p t n s asked r o d) on)) ∙ ap (λ l. (first_entry l).proc) e ∙ proc_of p' b z (begins j p' t' n' asked' (re j w p' t' n' s' asked' r o d') on') in
        let u : t ≡ t' = ap first_or_0 (sym d.runs ∙ ap (λ v. running v j) q ∙ d'.runs) in
        let told : Some d.given ≡ Some d'.given = sym d.told ∙ ap (λ v. answer_to source.sites v j) u ∙ d'.told in
        let given : d.given ≡ d'.given = cc told in
        let start : answered source d.given (drawn j w t) ≡ answered source d'.given (drawn j w t') = ap (λ v. answered source v (drawn j w t)) given ∙ ap (λ v. answered source d'.given (drawn j w v)) u in
        let other = subst (λ v. Rides source v (left opts j t) s' n' asked') (sym start) (subst (λ v. Rides source (answered source d'.given (drawn j w t')) (left opts j v) s' n' asked') (sym u) d'.rides) in
        let ride = law_cut.ride source (answered source d.given (drawn j w t)) s s' (left opts j t) n n' asked asked' d.rides other in
        let same : a ≡ b = ap (λ v. act opts source.sites input j v t n asked) q ∙ ap (λ v. act opts source.sites input j p' v n asked) u ∙ ap (λ v. act opts source.sites input j p' t' v asked) ride.ticks ∙ ap (λ v. act opts source.sites input j p' t' n' v) ride.asked in
        (same, ap (λ v. world_after source v w t s) same ∙ ap (λ v. world_after source b w v s) u ∙ ap (λ v. world_after source b w t' v) ride.state)

  -- the acts of a run
  append_step : {j : Journal} {w : World} {parts : List (List Entry)} {k : Journal} {u : World} {a : List Entry} {x : World} → Cut source input opts j w parts k u → is_over k ≡ false → May source opts input k u a x → (more_parts : List (List Entry)) × Cut source input opts j w more_parts (k ++ a) x
  append_step {a = a} ends o m = (a ∷ [], goes_on o m ends)
  append_step (goes_on {a = b} o' m' c) o m = let r = append_step c o m in (b ∷ r.0, goes_on o' m' r.1)

  cut_of : {j : Journal} {w : World} → Runs source input opts j w → (parts : List (List Entry)) × Cut source input opts (begin opts ∷ []) (first_world source) parts j w
  cut_of begun = ([], ends)
  cut_of (more r o m) = append_step (cut_of r).1 o m

  too_long : (j a x : List Entry) → j ≡ (j ++ a) ++ x → 0 < length a → ⊥
  too_long j a x h lt =
      let l = ap length h in
      let m = length-append (j ++ a) x in
      let n = length-append j a in
      absurd (omega (arith, l, m, n, lt))

  module _ (re : Reentry source input opts) where
    after : {j : Journal} {w : World} {parts others : List (List Entry)} {k m : Journal} {u v : World} → Runs source input opts j w → Cut source input opts j w parts k u → Cut source input opts j w others m v → (later : List Entry) → m ≡ k ++ later → is_over k ≡ false → is_over m ≡ false → (rest : List (List Entry)) × Cut source input opts k u rest m v
    after {others = others} r ends d later e on on' = (others, d)
    after {j} r (goes_on {a} o s c) ends later e on on' =
        let x = rest_of c in
        absurd (too_long j a (x.0 ++ later) (e ∙ ap (λ l. l ++ later) x.1 ∙ append_assoc (j ++ a) x.0 later) (step_some re r o s (goes_first c on)))
    after {j} {w} {m = m} {v = v} r (goes_on {a} {x} o s c) (goes_on {a = b} {x = y} {rest} o' s' d) later e on on' =
        let q = rest_of c in
        let z = rest_of d in
        let joined : a ++ (q.0 ++ later) ≡ b ++ z.0 = cancel j (a ++ (q.0 ++ later)) (b ++ z.0) (sym (append_assoc j a (q.0 ++ later)) ∙ sym (append_assoc (j ++ a) q.0 later) ∙ ap (λ l. l ++ later) (sym q.1) ∙ sym e ∙ z.1 ∙ append_assoc j b z.0) in
        let same = same_step re r o s s' (goes_first c on) (goes_first d on') (q.0 ++ later) z.0 joined in
        let d1 : Cut source input opts (j ++ a) y rest m v = subst (λ l. Cut source input opts (j ++ l) y rest m v) (sym same.0) d in
        let d2 : Cut source input opts (j ++ a) x rest m v = subst (λ z. Cut source input opts (j ++ a) z rest m v) (sym same.1) d1 in
        after (more r o s) c d2 later e on on'

pub law_through : LawThrough
law_through source input opts re j later w u r r' on =
    after source input opts re begun (cut_of source input opts r).1 (cut_of source input opts r').1 later refl (not_over j later on) on

pub law_seat : LawSeat
law_seat source input opts range re j later w u r r' on p t here n =
    let c = law_through source input opts re j later w u r r' on in
    law_others source input opts range re j w c.0 later u r c.1 on p t here n
