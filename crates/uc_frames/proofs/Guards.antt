-- The handlers of a guarded block, by their rows and by the source.
use Rattle.std.proofs.Common.{◌≡◌, ℕ, zero, suc, ◌+◌, ◌<◌, List, [], ◌∷◌, ◌++◌, length, Bool, true, false, Option, Some, None, refl, ap, subst, ◌∙◌, arith}
use Rattle.std.specs.Prelude.{nat_eq, nat_le, ◌&&◌, if◌then◌else◌, slice_get}
use Rattle.std.proofs.lemmas.Bool.{ne_eqb}
use Rattle.uc_tree.specs.Source.{Handlers, NoHandlers, MoreHandlers}
use Rattle.uc_machine.specs.Quiet.{Todo, Rest, Within}
use Rattle.uc_machine.specs.Raising.{Event, Handler, takes, same_kind, handler_for, handler_count, handler_todo}
use Rattle.uc_code.specs.declared.rows.HandlerRow.{HandlerRow}
use Rattle.uc_code.specs.declared.rows.TheConstants.{ANY_EVENT}
use Rattle.uc_code.specs.declared.rows.CodeMark.{CodeMark}
use Rattle.uc_code.specs.declared.rows.CodeMark.TheVariants as mark
use Rattle.uc_code.specs.Layout.{Laid, guards, handlers, takes_events}
use Rattle.uc_code.specs.CodeShapes.{Both, HandlerAt, Arrived, Jumped}
use Rattle.uc_code.specs.Lowered.{kind_of, event_of, IsNamed, handler_of, handler_rows, KeepsAt, HandlerBy, StmtsAt, HandlersAt}
use Rattle.uc_frames.specs.declared.search.HandlerQuery.{HandlerQuery}
use Rattle.uc_frames.specs.declared.search.HandlerQuery.TheVariants as sought
use Rattle.uc_frames.specs.Searches.{catches, resumes, cleans, row_takes, is_sought, is_found, first_in, stops, stops_at, first_stop, behind_row, within}
use Rattle.uc_frames.proofs.Named.{not_both}
use Rattle.uc_frames.specs.Stands.{OfHandler, FollowsAt}

-- the numbers of so many rows, the last one first
abbrev pub numbers : ℕ → ℕ → List ℕ
numbers first zero = []
numbers first (suc n) = (first + n) ∷ numbers first n

pub guards_rows : (first n : ℕ) (ms : List CodeMark) → handlers (guards first n ms) ≡ numbers first n ++ handlers ms
guards_rows first zero ms = refl
guards_rows first (suc n) ms = ap (λ ns. (first + n) ∷ ns) (guards_rows first n ms)

pub numbers_count : (first n : ℕ) (ns : List ℕ) → length (numbers first n ++ ns) ≡ n + length ns
numbers_count first zero ns = omega arith
numbers_count first (suc n) ns = omega (arith, numbers_count first n ns)

pub rows_count : (hs : Handlers) → handler_rows hs ≡ handler_count hs
rows_count NoHandlers = refl
rows_count (MoreHandlers r e c l b rest) = ap suc (rows_count rest)

-- what is looked for
abbrev pub sought_of : Bool → ℕ → HandlerQuery
sought_of true e = sought.Resume e
sought_of false e = sought.Catch e

row_takes_is : (event : Option ℕ) (e : Event) (r : HandlerRow) → IsNamed event → r.event ≡ event_of event → row_takes e.number r ≡ takes event e
row_takes_is None e r n q = rw q refl
row_takes_is (Some m) e r n q =
    let l = n.few m refl in
    let d : m ≡ ANY_EVENT → ⊥ = λ z. omega arith in
    let f : nat_eq m ANY_EVENT ≡ false = ne_eqb m ANY_EVENT d in
    rw (q, f) refl

sought_is : (kind resumes : Bool) (event : Option ℕ) (e : Event) (n : ℕ) (r : HandlerRow) → IsNamed event → r.kind ≡ kind_of resumes → r.event ≡ event_of event → is_sought (sought_of kind e.number) n r ≡ (same_kind kind resumes && takes event e)
sought_is true true event e n r h k q = rw k (row_takes_is event e r h q)
sought_is true false event e n r h k q = rw k refl
sought_is false true event e n r h k q = rw k refl
sought_is false false event e n r h k q = rw k (row_takes_is event e r h q)

takes_kind : (resumes : Bool) → takes_events (kind_of resumes) ≡ true
takes_kind true = refl
takes_kind false = refl

no_clean : (resumes : Bool) → cleans (kind_of resumes) ≡ false
no_clean true = refl
no_clean false = refl

behind_is : (resumes : Bool) (r : HandlerRow) (m n : ℕ) → r.kind ≡ kind_of resumes → r.rest ≡ m → behind_row (Some r) n ≡ m
behind_is true r m n k q = rw k q
behind_is false r m n k q = rw k q

-- a handler keeps its event first
keeps : (code : Laid) (ns : List CodeMark) (h : Handler) (todo : List Todo) (a z : ℕ) → KeepsAt code h.line h.cell a z → FollowsAt code (Rest h.body ∷ (Within h.line ∷ todo)) ns z → FollowsAt code (handler_todo h todo) ns a
keeps code ns h todo a z k f =
    let x = k.first in
    let y = k.second.first in
    let w = k.second.second in
    record {
      from = a;
      to = x.middle;
      leads = Arrived a;
      piece = x.first;
      on =
          record {
            from = x.middle;
            to = k.middle;
            leads = Arrived x.middle;
            piece = x.second;
            on =
                record {
                  from = k.middle;
                  to = y.middle;
                  leads = Arrived k.middle;
                  piece = y.first;
                  on =
                      record {
                        from = y.middle;
                        to = k.second.middle;
                        leads = Arrived y.middle;
                        piece = y.second;
                        on =
                            record {
                              from = k.second.middle;
                              to = w.middle;
                              leads = Arrived k.second.middle;
                              piece = w.first;
                              on =
                                  record { from = w.middle; to = z; leads = Arrived w.middle; piece = w.second; on = f };
                            };
                      };
                };
          };
    }

module _ (code : Laid) (ms : List CodeMark) (exit : ℕ) where
  -- a handler of this kind that was found by its row
  pub record Chosen (kind : Bool) (row : ℕ) (h : Handler) : Type 0 where
    pub event : Option ℕ
    pub entry : ℕ
    pub end : ℕ
    pub handler : HandlerAt code row (handler_of kind event (length (handlers ms)) entry)
    pub body : Both (KeepsAt code h.line h.cell) (HandlerBy code kind ms exit h.line (λ ns. StmtsAt code ns h.line h.body)) entry end

  abbrev pub Choice : Bool → Option ℕ → Option Handler → Type 0
  Choice kind None None = Unit {0}
  Choice kind None (Some h) = ⊥
  Choice kind (Some n) None = ⊥
  Choice kind (Some n) (Some h) = Chosen kind n h

  choice_by : (b kind : Bool) (n : ℕ) (h : Handler) (o : Option ℕ) (p : Option Handler) → (b ≡ true → Chosen kind n h) → Choice kind o p → Choice kind (if b then Some n else o) (if b then Some h else p)
  choice_by true kind n h o p f g = f refl
  choice_by false kind n h o p f g = g

  same_true : (kind resumes b : Bool) → (same_kind kind resumes && b) ≡ true → resumes ≡ kind
  same_true true true b e = refl
  same_true true false b e = absurd (cc)
  same_true false true b e = absurd (cc)
  same_true false false b e = refl

  -- the first handler by rows is that of the source
  pub chosen_in : (kind : Bool) (e : Event) (first : ℕ) (hs : Handlers) (a z : ℕ) → HandlersAt code ms first exit hs a z → Choice kind (first_in (sought_of kind e.number) code.rows (numbers first (handler_rows hs))) (handler_for kind e hs)
  chosen_in kind e first NoHandlers a z h = tt
  chosen_in kind e first (MoreHandlers resumes event cell line body rest) a z h =
      let n : ℕ = first + handler_rows rest in
      let w = h.first.handler in
      let r = w.handler_at in
      let f : is_found (sought_of kind e.number) n (slice_get code.rows n) ≡ (same_kind kind resumes && takes event e) =
      ap (is_found (sought_of kind e.number) n) r.there ∙ sought_is kind resumes event e n r.row h.first.named r.kind r.event in
      rw f
      (choice_by (same_kind kind resumes && takes event e) kind n (record { cell = cell; line = line; body = body }) _ _
      (λ t.
      let k : resumes ≡ kind = same_true kind resumes (takes event e) t in
      subst (λ c. Chosen c n (record { cell = cell; line = line; body = body })) k (record { event = event; entry = a; end = h.middle; handler = r; body = w.body }))
      (chosen_in kind e first rest h.middle z h.second))

  -- none of them is a clean-up: an unwinding stops at the first one that catches its event
  stop_by : (resumes : Bool) (e : ℕ) (r : HandlerRow) → r.kind ≡ kind_of resumes → stops (Some e) r ≡ (catches r.kind && row_takes e r)
  stop_by true e r k = rw k refl
  stop_by false e r k = rw k refl

  stops_here : (e n : ℕ) (r : HandlerRow) (resumes : Bool) → slice_get code.rows n ≡ Some r → r.kind ≡ kind_of resumes → stops_at (Some e) (slice_get code.rows n) ≡ is_found (sought.Catch e) n (slice_get code.rows n)
  stops_here e n r resumes q k = rw q (stop_by resumes e r k)

  pub stops_in : (e first : ℕ) (hs : Handlers) (a z : ℕ) → HandlersAt code ms first exit hs a z → first_stop (Some e) code.rows (numbers first (handler_rows hs)) ≡ first_in (sought.Catch e) code.rows (numbers first (handler_rows hs))
  stops_in e first NoHandlers a z h = refl
  stops_in e first (MoreHandlers resumes event cell line body rest) a z h =
      let n : ℕ = first + handler_rows rest in
      let r = h.first.handler.handler_at in
      ap (λ b. if b then Some n else first_stop (Some e) code.rows (numbers first (handler_rows rest))) (stops_here e n r.row resumes r.there r.kind)
      ∙ ap (λ o. if is_found (sought.Catch e) n (slice_get code.rows n) then Some n else o) (stops_in e first rest h.middle z h.second)

  pub none_stops : (first : ℕ) (hs : Handlers) (a z : ℕ) → HandlersAt code ms first exit hs a z → first_stop None code.rows (numbers first (handler_rows hs)) ≡ None
  none_stops first NoHandlers a z h = refl
  none_stops first (MoreHandlers resumes event cell line body rest) a z h =
      let n : ℕ = first + handler_rows rest in
      let r = h.first.handler.handler_at in
      let f : stops_at None (slice_get code.rows n) ≡ false = ap (stops_at None) r.there ∙ (ap cleans r.kind ∙ no_clean resumes) in
      ap (λ b. if b then Some n else first_stop None code.rows (numbers first (handler_rows rest))) f ∙ none_stops first rest h.middle z h.second

  -- what a search within fewer rows passes over
  pub past_block : (n first : ℕ) (hs : Handlers) (a z : ℕ) → HandlersAt code ms first exit hs a z → within code.rows n (length (handlers ms)) (numbers first (handler_rows hs) ++ handlers ms) ≡ within code.rows n (length (handlers ms)) (handlers ms)
  past_block n first NoHandlers a z h = refl
  past_block n first (MoreHandlers resumes event cell line body rest) a z h =
      let k : ℕ = first + handler_rows rest in
      let m : ℕ = length (handlers ms) in
      let ks : List ℕ = numbers first (handler_rows rest) ++ handlers ms in
      let r = h.first.handler.handler_at in
      let c : length ks ≡ handler_rows rest + m = numbers_count first (handler_rows rest) (handlers ms) in
      let b : (nat_eq (length (k ∷ ks)) n && nat_le n m) ≡ false = not_both (length (k ∷ ks)) n m (λ e l. omega arith) in
      let f : behind_row (slice_get code.rows k) (length ks) ≡ m = ap (λ o. behind_row o (length ks)) r.there ∙ behind_is resumes r.row m (length ks) r.kind r.rest in
      ap (λ t. if t then k ∷ ks else within code.rows n (behind_row (slice_get code.rows k) (length ks)) ks) b
      ∙ (ap (λ j. within code.rows n j ks) f ∙ past_block n first rest h.middle z h.second)

  -- the first of them, where there are any, is passed over with all others
  pub past_first : (n first : ℕ) (hs : Handlers) (a z : ℕ) (round : ℕ) → HandlersAt code ms first exit hs a z → 0 < handler_rows hs → nat_eq (handler_rows hs + length (handlers ms)) n ≡ false → within code.rows n round (numbers first (handler_rows hs) ++ handlers ms) ≡ within code.rows n (length (handlers ms)) (handlers ms)
  past_first n first NoHandlers a z round h l q = absurd (omega arith)
  past_first n first (MoreHandlers resumes event cell line body rest) a z round h l q =
      let k : ℕ = first + handler_rows rest in
      let m : ℕ = length (handlers ms) in
      let ks : List ℕ = numbers first (handler_rows rest) ++ handlers ms in
      let r = h.first.handler.handler_at in
      let c : length ks ≡ handler_rows rest + m = numbers_count first (handler_rows rest) (handlers ms) in
      let e : length (k ∷ ks) ≡ suc (handler_rows rest) + m = omega arith in
      let g : nat_eq (length (k ∷ ks)) n ≡ false = ap (λ x. nat_eq x n) e ∙ q in
      let b : (nat_eq (length (k ∷ ks)) n && nat_le n round) ≡ false = rw g refl in
      let f : behind_row (slice_get code.rows k) (length ks) ≡ m = ap (λ o. behind_row o (length ks)) r.there ∙ behind_is resumes r.row m (length ks) r.kind r.rest in
      ap (λ t. if t then k ∷ ks else within code.rows n (behind_row (slice_get code.rows k) (length ks)) ks) b
      ∙ (ap (λ j. within code.rows n j ks) f ∙ past_block n first rest h.middle z h.second)

  -- a handler that catches goes on behind its block, one of resumptions ends its activation
  pub follows_caught : (row : ℕ) (h : Handler) (c : Chosen false row h) (todo : List Todo) → FollowsAt code todo ms exit → FollowsAt code (handler_todo h todo) ms c.entry
  follows_caught row h c todo f =
      let k = c.body.first in
      let b = c.body.second in
      keeps code ms h todo c.entry c.body.middle k
      (record {
        from = c.body.middle;
        to = b.middle;
        leads = Arrived c.body.middle;
        piece = b.first;
        on =
            record { from = exit; to = exit; leads = Jumped b.middle exit exit h.line b.second.here (Arrived exit); piece = record { end = refl }; on = f };
      })

  pub follows_resumed : (row : ℕ) (h : Handler) (c : Chosen true row h) → FollowsAt code (handler_todo h []) (mark.Outward 0 c.body.second.row ∷ ms) c.entry
  follows_resumed row h c =
      let k = c.body.first in
      let b = c.body.second in
      let ns : List CodeMark = mark.Outward 0 b.row ∷ ms in
      keeps code ns h [] c.entry c.body.middle k
      (record {
        from = c.body.middle;
        to = b.body_end;
        leads = Arrived c.body.middle;
        piece = b.body;
        on =
            record {
              from = b.body_end;
              to = b.body_end;
              leads = Arrived b.body_end;
              piece = record { end = refl };
              on =
                  record { last = OfHandler b.row ms; end = b.body_end; leads = Arrived b.body_end; returns = b.returns };
            };
      })
