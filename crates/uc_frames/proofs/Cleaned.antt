-- Clean-ups that an unwinding does.
use Rattle.std.proofs.Common.{◌≡◌, ℕ, ◌+◌, List, [], ◌∷◌, ◌⊎◌, inl, inr, Option, Some, None, Bool, true, refl, subst}
use Rattle.std.specs.Prelude.{slice_get}
use Rattle.uc_tree.specs.Source.{CleanUp, Leaves}
use Rattle.uc_machine.specs.Quiet.{Todo, State, own_line, clean_todo, goes}
use Rattle.uc_machine.specs.Pieces.{Unwind, GiveUpNow}
use Rattle.uc_machine.specs.Raising.{scope_left}
use Rattle.uc_code.specs.declared.op.Op.TheVariants as op
use Rattle.uc_code.specs.declared.rows.CodeMark.{CodeMark}
use Rattle.uc_code.specs.declared.rows.CodeMark.TheVariants as mark
use Rattle.uc_code.specs.declared.rows.Cleaning.{Cleaning}
use Rattle.uc_code.specs.Layout.{Laid}
use Rattle.uc_code.specs.CodeShapes.{Risk, HandlerAt, clean_up, OverElements, Leads, Arrived, Jumped}
use Rattle.uc_code.specs.ObjectCalls.{Cleans, One as CleansOne, All, TakesDown, IsForgotten, Left, Ended, Freed, Restored}
use Rattle.uc_code.specs.Lowered.{CallDone, CleanBy, CleanAt, ArrivesAt, PadAt}
use Rattle.uc_code.proofs.Called.{called}
use Rattle.uc_frames.specs.Searches.{stops_at}
use Rattle.uc_frames.specs.Stands.{FollowsAt}

module _ (code : Laid) where
  -- a clean-up stops every unwinding
  pub clean_stops : (event : Option ℕ) (n entry : ℕ) → HandlerAt code n (clean_up entry) → stops_at event (slice_get code.rows n) ≡ true
  clean_stops None n entry h = let t = h.there in let k = h.kind in rw (t, k) refl
  clean_stops (Some e) n entry h = let t = h.there in let k = h.kind in rw (t, k) refl

  -- behind it the unwinding goes on
  pub goes_on : (ps : List Todo) (ms : List CodeMark) (pc at back end : ℕ) → Leads code pc at → Risk code ms op.Unwind (own_line ps) at back → FollowsAt code ps ms end → FollowsAt code (Unwind ∷ ps) ms pc
  goes_on ps ms pc at back end l r f = record { from = at; to = end; leads = l; piece = record { end = back; unwinds = r }; on = f }

  -- the code of a clean-up does it
  pub record Begins (todo : List Todo) (pc : ℕ) : Type 0 where
    pub marks : List CodeMark
    pub follows : FollowsAt code todo marks pc

  pub begins_clean : (c : CleanUp) (what : Cleaning) → Cleans c what → (ps : List Todo) (ms : List CodeMark) (a m back end : ℕ) → CleanAt code (own_line ps) what ms a m → Risk code ms op.Unwind (own_line ps) m back → FollowsAt code ps ms end → Begins (clean_todo c (Unwind ∷ ps)) a
  begins_clean c _ (CleansOne e what k n) ps ms a m back end h r f =
      let d : CallDone code (own_line ps) what ms a m = subst (λ o. CleanBy code (own_line ps) o what ms a m) n h in
      record {
        marks = ms;
        follows =
            record {
              from = a;
              to = d.middle;
              leads = Arrived a;
              piece = called code (own_line ps) ms e what k a d.middle d.first;
              on =
                  record { from = d.middle; to = m; leads = Arrived d.middle; piece = d.second; on = goes_on ps ms m m back end (Arrived m) r f };
            };
      }
  begins_clean c _ (All n size e what k q) ps ms a m back end h r f =
      let d : OverElements code (own_line ps) ms n n op.Sweep op.Sweep (CallDone code (own_line ps) what) (CallDone code (own_line ps) what) a m = subst (λ o. CleanBy code (own_line ps) o what ms a m) q h in
      record {
        marks = mark.Elements d.row ∷ ms;
        follows =
            record {
              from = a;
              to = d.test;
              leads = Arrived a;
              piece = record { here = d.begin };
              on =
                  record {
                    outer = ms;
                    row = d.row;
                    what = what;
                    turn = a + 1;
                    test = d.test;
                    end = d.test + 1;
                    calls = k;
                    pops = refl;
                    leads = Arrived d.test;
                    rounds = d.rounds;
                    on = goes_on ps ms (d.test + 1) m back end (Jumped (d.test + 1) m m (own_line ps) d.leave (Arrived m)) r f;
                    undo = what;
                    undo_turn = d.test + 2;
                    entry = d.entry;
                    undone = d.end;
                    back_at = m;
                    destroys = k;
                    handler = d.handler;
                    undoes = d.undoes;
                    unwinds = d.unwind;
                  };
            };
      }
  begins_clean c _ TakesDown ps ms a m back end h r f =
      record { marks = ms; follows = record { from = a; to = m; leads = Arrived a; piece = record { line = own_line ps; one = h }; on = goes_on ps ms m m back end (Arrived m) r f } }
  begins_clean c _ IsForgotten ps ms a m back end h r f =
      record { marks = ms; follows = record { from = a; to = m; leads = Arrived a; piece = record { line = own_line ps; one = h }; on = goes_on ps ms m m back end (Arrived m) r f } }
  begins_clean c _ Left ps ms a m back end h r f =
      record { marks = ms; follows = record { from = a; to = m; leads = Arrived a; piece = h; on = goes_on ps ms m m back end (Arrived m) r f } }
  begins_clean c _ Ended ps ms a m back end h r f =
      record { marks = ms; follows = record { from = a; to = m; leads = Arrived a; piece = h; on = goes_on ps ms m m back end (Arrived m) r f } }
  begins_clean c _ (Freed None) ps ms a m back end h r f =
      record { marks = ms; follows = record { from = a; to = m; leads = Arrived a; piece = h; on = goes_on ps ms m m back end (Arrived m) r f } }
  begins_clean c _ (Freed (Some k)) ps ms a m back end h r f =
      record { marks = ms; follows = record { from = a; to = m; leads = Arrived a; piece = h; on = goes_on ps ms m m back end (Arrived m) r f } }
  begins_clean c _ (Restored k) ps ms a m back end h r f =
      record { marks = ms; follows = record { from = a; to = m; leads = Arrived a; piece = h; on = goes_on ps ms m m back end (Arrived m) r f } }

  -- a scope that is unwound is cleaned up by its pad, whether a return arrives or not
  pub record CleansFirst (c : CleanUp) (ps : List Todo) (pc : ℕ) : Type 0 where
    pub todo : List Todo
    pub left : (arrived : Bool) (s : State) → scope_left c arrived ps s ≡ goes todo [] s
    pub begins : Begins todo pc

  -- but a mutex call, where a return may arrive
  pub record TestsFirst (c : CleanUp) (ps : List Todo) (ms : List CodeMark) (pc back : ℕ) : Type 0 where
    pub is : c ≡ Leaves
    pub pad : ArrivesAt code (own_line ps) ms pc back

  pub pads : (c : CleanUp) (what : Cleaning) → Cleans c what → (ps : List Todo) (ms : List CodeMark) (a back end : ℕ) → PadAt code (own_line ps) what ms a back → FollowsAt code ps ms end → TestsFirst c ps ms a back ⊎ CleansFirst c ps a
  pads c _ (CleansOne e what k n) ps ms a back end h f =
      inr (record { todo = clean_todo c (Unwind ∷ ps); left = λ arrived s. refl; begins = begins_clean c _ (CleansOne e what k n) ps ms a h.middle back end h.first h.second f })
  pads c _ (All n size e what k q) ps ms a back end h f =
      inr (record { todo = clean_todo c (Unwind ∷ ps); left = λ arrived s. refl; begins = begins_clean c _ (All n size e what k q) ps ms a h.middle back end h.first h.second f })
  pads c _ TakesDown ps ms a back end h f =
      inr (record { todo = clean_todo c (Unwind ∷ ps); left = λ arrived s. refl; begins = begins_clean c _ TakesDown ps ms a h.middle back end h.first h.second f })
  pads c _ IsForgotten ps ms a back end h f =
      inr (record { todo = clean_todo c (Unwind ∷ ps); left = λ arrived s. refl; begins = begins_clean c _ IsForgotten ps ms a h.middle back end h.first h.second f })
  pads c _ Left ps ms a back end h f = inl (record { is = refl; pad = h })
  pads c _ Ended ps ms a back end h f =
      inr (record { todo = clean_todo c (Unwind ∷ ps); left = λ arrived s. refl; begins = begins_clean c _ Ended ps ms a h.middle back end h.first h.second f })
  pads c _ (Freed main) ps ms a back end h f =
      inr (record {
        todo = GiveUpNow ∷ (Unwind ∷ ps);
        left = λ arrived s. refl;
        begins = record { marks = ms; follows = record { from = a; to = h.middle; leads = Arrived a; piece = h.first; on = goes_on ps ms h.middle h.middle back end (Arrived h.middle) h.second f } };
      })
  pads c _ (Restored k) ps ms a back end h f =
      inr (record { todo = clean_todo c (Unwind ∷ ps); left = λ arrived s. refl; begins = begins_clean c _ (Restored k) ps ms a h.middle back end h.first h.second f })
