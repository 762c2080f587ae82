-- What several puts come to.
use Rattle.std.proofs.Common.{◌≡◌, ℕ, ◌+◌, ◌<◌, ◌≤◌, List, [], ◌∷◌, ◌++◌, length, refl, sym, ap, ◌∙◌, subst, append_assoc, length-append, arith, Option, Some, None}
use Rattle.std.specs.Option.{option_map}
use Rattle.uc_outside.specs.Faults.{CountRose}
use Rattle.uc_outside.specs.Taking.{SinkState, Grew, Used, Gained, Took, FailedAt, TookNothing, TookPrefix, HasRoom, Stopped}

append_nil : (xs : List ℕ) → xs ≡ xs ++ []
append_nil [] = refl
append_nil (x ∷ xs) = ap (λ ys. x ∷ ys) (append_nil xs)

grown_by_nothing : (told : Option (List ℕ)) → told ≡ option_map (λ held. held ++ []) told
grown_by_nothing None = refl
grown_by_nothing (Some held) = ap Some (append_nil held)

grown_twice : (told : Option (List ℕ)) (xs ys : List ℕ) → option_map (λ held. held ++ ys) (option_map (λ held. held ++ xs) told) ≡ option_map (λ held. held ++ (xs ++ ys)) told
grown_twice None xs ys = refl
grown_twice (Some held) xs ys = ap Some (append_assoc held xs ys)

used_none : (room : Option ℕ) → option_map (λ left. left + 0) room ≡ room
used_none None = refl
used_none (Some left) = ap Some (omega arith)

used_twice : (room : Option ℕ) (m n : ℕ) → option_map (λ left. left + (m + n)) room ≡ option_map (λ left. left + m) (option_map (λ left. left + n) room)
used_twice None m n = refl
used_twice (Some left) m n = ap Some (omega arith)

pub grew-nothing : (told : Option (List ℕ)) → Grew told told []
grew-nothing told = record { grown = grown_by_nothing told }

pub grew-more : {a b c : Option (List ℕ)} {xs ys : List ℕ} → Grew a b xs → Grew b c ys → Grew a c (xs ++ ys)
grew-more {a} {b} {c} {xs} {ys} p q = record { grown = q.grown ∙ ap (option_map (λ held. held ++ ys)) p.grown ∙ grown_twice a xs ys }

pub used-nothing : (room : Option ℕ) → Used room room 0
used-nothing room = record { used = used_none room }

pub used-more : {a b c : Option ℕ} {m n : ℕ} → Used a b m → Used b c n → Used a c (m + n)
used-more {a} {b} {c} {m} {n} p q = record { used = used_twice c m n ∙ ap (option_map (λ left. left + m)) q.used ∙ p.used }

-- a sink at which nothing was put
pub took-nothing : (sink : SinkState) → Took sink sink []
took-nothing sink = record { same_count = refl; still = λ h. h; gained = record { told = grew-nothing sink.told; room = used-nothing sink.room } }

pub gained-more : {a b c : SinkState} {xs ys : List ℕ} → Gained a b xs → Gained b c ys → Gained a c (xs ++ ys)
gained-more {a} {b} {c} {xs} {ys} p q = record {
  told = grew-more p.told q.told;
  room = subst (λ n. Used a.room c.room n) (sym (length-append xs ys)) (used-more p.room q.room);
}

-- what was taken, and then more, is both, one after the other
pub took-more : {a b c : SinkState} {xs ys : List ℕ} → Took a b xs → Took b c ys → Took a c (xs ++ ys)
took-more p q = record {
  same_count = q.same_count ∙ p.same_count;
  still = λ h. p.still (q.still h);
  gained = gained-more p.gained q.gained;
}

-- what was taken, and then a prefix of more
pub took-prefix : {a b c : SinkState} {xs ys : List ℕ} → Took a b xs → TookPrefix b c ys → TookPrefix a c (xs ++ ys)
took-prefix {xs = xs} p q = record {
  prefix = xs ++ q.prefix;
  rest = q.rest;
  is_prefix = ap (λ zs. xs ++ zs) q.is_prefix ∙ sym (append_assoc xs q.prefix q.rest);
  gained = gained-more p.gained q.gained;
}

-- where nothing was taken, the prefix is empty
pub nothing-prefix : {a b : SinkState} (text : List ℕ) → TookNothing a b → TookPrefix a b text
nothing-prefix {a} {b} text p = record {
  prefix = [];
  rest = text;
  is_prefix = refl;
  gained = record {
    told = record { grown = p.same_told ∙ grown_by_nothing a.told };
    room = record { used = used_none b.room ∙ p.same_room };
  };
}

room_left : (room : Option ℕ) (n left : ℕ) → option_map (λ k. k + n) room ≡ Some left → (now : ℕ) × (room ≡ Some now) × (now + n ≡ left)
room_left None n left e = absurd (cc)
room_left (Some now) n left e = (now, refl, cc)

-- a room that held both holds the second after the first
pub room-after : {a b : SinkState} {xs ys : List ℕ} → Took a b xs → HasRoom a (xs ++ ys) → HasRoom b ys
room-after {a} {b} {xs} {ys} p h =
    let now = room_left b.room (length xs) h.left (p.gained.room.used ∙ h.is_room) in
    record { left = now.0; is_room = now.1; fits = omega (arith, length-append xs ys, now.2, h.fits) }

-- what was taken, and then a failure: the text of both was put, and failed
pub took-failed : {a b c : SinkState} {xs ys : List ℕ} → Took a b xs → FailedAt b c ys → FailedAt a c (xs ++ ys)
took-failed {a} {b} {c} {xs} {ys} p q = record {
  rose = subst (λ n. CountRose n c.count) p.same_count q.rose;
  once = subst (λ n. c.count ≤ n + 1) p.same_count q.once;
  last = q.last;
  longer = λ left is_room.
      let now = room_left b.room (length xs) left (p.gained.room.used ∙ is_room) in
      let small : now.0 < length ys = q.longer now.0 now.1 in
      omega (arith, length-append xs ys, now.2, small);
}

-- a text that fits into the room does not fail
pub fits-no_failure : {a b : SinkState} {text : List ℕ} → HasRoom a text → FailedAt a b text → ⊥
fits-no_failure {text = text} h f = let small : h.left < length text = f.longer h.left h.is_room in omega (arith, small, h.fits)

-- a failure at a text is one at every longer text
pub failed-longer : {a b : SinkState} {xs : List ℕ} (ys : List ℕ) → FailedAt a b xs → FailedAt a b (xs ++ ys)
failed-longer {xs = xs} ys f = record {
  rose = f.rose;
  once = f.once;
  last = f.last;
  longer = λ left is_room. let small : left < length xs = f.longer left is_room in omega (arith, length-append xs ys, small);
}

-- a prefix of a text is one of every longer text
pub prefix-longer : {a b : SinkState} {xs : List ℕ} (ys : List ℕ) → TookPrefix a b xs → TookPrefix a b (xs ++ ys)
prefix-longer ys p = record {
  prefix = p.prefix;
  rest = p.rest ++ ys;
  is_prefix = ap (λ zs. zs ++ ys) p.is_prefix ∙ append_assoc p.prefix p.rest ys;
  gained = p.gained;
}

-- what is told after a put of just these bytes
pub told-after : {a b : SinkState} {bytes : List ℕ} (held : List ℕ) → Took a b bytes → a.told ≡ Some held → b.told ≡ Some (held ++ bytes)
told-after {bytes = bytes} held p e = p.gained.told.grown ∙ ap (option_map (λ xs. xs ++ bytes)) e

-- where nothing failed, and where one put failed, none was made after a failed one
pub took-stopped : {a b : SinkState} {bytes : List ℕ} → Took a b bytes → Stopped a b
took-stopped p = record { once = let e = p.same_count in omega arith; last = λ h. absurd (omega (arith, h, p.same_count)) }

pub failed-stopped : {a b : SinkState} {text : List ℕ} → FailedAt a b text → Stopped a b
failed-stopped f = record { once = f.once; last = λ h. f.last }
