use Rattle.std.proofs.Common.{List, [], ◌∷◌, ◌++◌, subst, sym, inl, inr, ⊎_elim}
use Rattle.lines.proofs.MemberFacts.{in_left, in_right, in-cases, within-left}
use Rattle.lines.specs.Lines.{In, Within}
use Rattle.words.specs.Notes.{Note}
use Rattle.line_tests.proofs.relay.Goals as goal

-- one that waited elsewhere is posted
joined : (a b c : List Note) (n : Note) → In n b → Within c (a ++ n ∷ []) → Within c (a ++ b)
unfolding Within
joined a b c n h f x m = ⊎_elim (in_left x a b) (λ (k : In x (n ∷ [])). in_right x a b (one k)) (in-cases x a (n ∷ []) (f x m))
  where
    one : In x (n ∷ []) → In x b
    one (inl e) = subst (λ (y : Note). In y b) (sym e) h
    one (inr z) = absurd z

pub returns-in-Some-clause-posted : goal.returns-in-Some-clause-posted
returns-in-Some-clause-posted g c = joined _ _ _ _ c.in-Some.ensures.waited c.post.ensures.waits

pub returns-in-None-clause-posted : goal.returns-in-None-clause-posted
returns-in-None-clause-posted g c = within-left _ _
