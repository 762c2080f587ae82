-- What may follow a run that goes on, told by its next entry.
use Rattle.std.proofs.Common.{◌≡◌, ℕ, false, List, [], ◌∷◌, ◌++◌, sym, ap, ◌∙◌, subst, arith, length, append_assoc, length-append}
use Rattle.uc_entry.specs.declared.entry.Entry.{Entry}
use Rattle.uc_entry.specs.declared.entry.Options.{Options}
use Rattle.uc_entry.specs.declared.request.Asked.{Asked}
use Rattle.uc_acts.specs.Journal.{Journal, is_over, first_or_0}
use Rattle.uc_acts.specs.Queues.{running}
use Rattle.uc_acts.specs.Serves.{left}
use Rattle.uc_judge.specs.Asking.{AsksOnce, AsksWhole}
use Rattle.uc_judge.specs.Runs.{written, Cause, May, gives, no_room, acts, Runs, IsStart}
use Rattle.uc_judge.proofs.Cuts.{no_both, first_of, is_limit, is_giving, act_of, starts, proc_of, written_append, written_length, View, is_there, is_onward, view, rest_of, cancel, law_cut}

-- an entry of a task on p
pub record Acts (p : ℕ) (e : Entry) : Type 0 where
  pub proc : e.proc ≡ p
  pub gives_none : is_giving e.kind ≡ false
  pub no_limit : is_limit e.kind ≡ false

-- the act with which entries go on
pub record GoesOn {W : Type 0} (cause : Cause W) (opts : Options) (j : Journal) (w : W) (z : List Entry) : Type 0 where
  pub entries : List Entry
  pub tasks : W
  pub may : May cause opts j w entries tasks
  pub rest : List Entry
  pub is : z ≡ written cause.lines entries ++ rest

module _ {W : Type 0} {cause : Cause W} (once : AsksOnce cause.asks) (whole : AsksWhole cause.asks) {opts : Options} {j : Journal} {w : W} where
  -- a start that goes on from a run does so by an act
  pub goes_on : Runs cause opts j w → is_over j ≡ false → (e : Entry) (z : List Entry) → (s : IsStart cause (written cause.lines j ++ e ∷ z)) → GoesOn cause opts j w ((e ∷ z) ++ s.rest)
  goes_on m o e z s =
      let c = law_cut cause once whole opts s.opts j w s.all s.tasks ((e ∷ z) ++ s.rest) m o s.runs (s.is ∙ append_assoc (written cause.lines j) (e ∷ z) s.rest) in
      by (view c.1)
    where
      by : View cause opts j w s.all s.tasks → GoesOn cause opts j w ((e ∷ z) ++ s.rest)
      by (is_there h g) =
          let l = ap length s.is in
          let n = length-append (written cause.lines j ++ e ∷ z) s.rest in
          let m = length-append (written cause.lines j) (e ∷ z) in
          let a = written_length cause.lines s.all in
          let b = written_length cause.lines j in
          let same = ap length h in
          absurd (omega (arith, l, n, m, a, b, same))
      by (is_onward a v o' m' c') =
          let r = rest_of c' in
          record {
            entries = a;
            tasks = v;
            may = m';
            rest = written cause.lines r.0;
            is = cancel (written cause.lines j) _ _ (sym (s.is ∙ append_assoc (written cause.lines j) (e ∷ z) s.rest) ∙ ap (written cause.lines) r.1 ∙ written_append cause.lines (j ++ a) r.0 ∙ ap (λ l. l ++ written cause.lines r.0) (written_append cause.lines j a) ∙ append_assoc (written cause.lines j) (written cause.lines a) (written cause.lines r.0));
          }

module _ {W : Type 0} {cause : Cause W} (once : AsksOnce cause.asks) (whole : AsksWhole cause.asks) {opts : Options} {j : Journal} {w : W} (p t k : ℕ) (asked : Asked) (x : W) (runs : running p j ≡ t ∷ []) (asks : cause.asks w t (left opts j t) k asked x) where
  -- an act that begins with such an entry is the one of its processor
  pub only_act : {a : List Entry} {v : W} → May cause opts j w a v → (y z : List Entry) (e : Entry) → written cause.lines a ++ y ≡ e ∷ z → Acts p e → a ≡ act_of cause opts j p t k asked
  only_act (gives p' t' s m) y z e h f = absurd (no_both (is_giving e.kind) (ap (λ l. is_giving (first_of l).kind) (sym h)) f.gives_none)
  only_act (no_room p' t' s m) y z e h f = absurd (no_both (is_limit e.kind) (ap (λ l. is_limit (first_of l).kind) (sym h)) f.no_limit)
  only_act (acts p' t' k' asked' x' r d) y z e h f =
      let q : p' ≡ p = sym (proc_of cause.lines p' t' (act_of cause opts j p' t' k' asked') y (starts cause whole opts j w p' t' k' asked' x' d)) ∙ ap (λ l. (first_of l).proc) h ∙ f.proc in
      let u : t' ≡ t = ap first_or_0 (sym r ∙ ap (λ z. running z j) q ∙ runs) in
      let walk = once w t (left opts j t) k' k asked' asked x' x (subst (λ z. cause.asks w z (left opts j z) k' asked' x') u d) asks in
      ap (λ z. act_of cause opts j z t' k' asked') q ∙ ap (λ z. act_of cause opts j p z k' asked') u ∙ ap (λ z. act_of cause opts j p t z asked') walk.ticks ∙ ap (λ z. act_of cause opts j p t k z) walk.asked

  -- a start that goes on with such an entry goes on as that act does
  pub goes_as : Runs cause opts j w → is_over j ≡ false → (e : Entry) (z : List Entry) → Acts p e → (s : IsStart cause (written cause.lines j ++ e ∷ z)) → (r : List Entry) × ((e ∷ z) ++ s.rest ≡ written cause.lines (act_of cause opts j p t k asked) ++ r)
  goes_as m o e z f s =
      let g = goes_on once whole m o e z s in
      (g.rest, g.is ∙ ap (λ l. written cause.lines l ++ g.rest) (only_act g.may g.rest (z ++ s.rest) e (sym g.is) f))
