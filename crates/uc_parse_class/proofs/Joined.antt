-- The members of parts that follow others.
use Rattle.std.proofs.Common.{◌≡◌, List, [], ◌∷◌, ◌++◌, refl, ap}
use Rattle.uc_tree.specs.declared.kinds.Access.{Access}
use Rattle.uc_tree.specs.Programs.{Member}
use Rattle.uc_grammar.specs.Names.{ClassPart, AccessPart, MemberPart}
use Rattle.uc_grammar.specs.Grammar.{members_of}
use Rattle.uc_parse_class.specs.Parts.{access_after}

pub members_joined : (a : Access) (ps qs : List ClassPart) → members_of a (ps ++ qs) ≡ members_of a ps ++ members_of (access_after a ps) qs
members_joined a [] qs = refl
members_joined a (AccessPart b ∷ ps) qs = members_joined b ps qs
members_joined a (MemberPart pos m w ∷ ps) qs = let first : Member = record { pos = pos; access = a; mark = m; form = w } in ap (λ ms. first ∷ ms) (members_joined a ps qs)

pub access_joined : (a : Access) (ps qs : List ClassPart) → access_after a (ps ++ qs) ≡ access_after (access_after a ps) qs
access_joined a [] qs = refl
access_joined a (AccessPart b ∷ ps) qs = access_joined b ps qs
access_joined a (MemberPart pos m w ∷ ps) qs = access_joined a ps qs

-- One part more.
module _ (a b c : Access) (ps : List ClassPart) (p : ClassPart) (last : b ≡ access_after a ps) where
  pub one_more_listed : (ms ns : List Member) → ms ≡ members_of a ps → ns ≡ ms ++ members_of b (p ∷ []) → ns ≡ members_of a (ps ++ p ∷ [])
  one_more_listed ms ns listed joined = let e = members_joined a ps (p ∷ []) in cc

  pub one_more_last : c ≡ access_after b (p ∷ []) → c ≡ access_after a (ps ++ p ∷ [])
  one_more_last after = let e = access_joined a ps (p ∷ []) in cc
