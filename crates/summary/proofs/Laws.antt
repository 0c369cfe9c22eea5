-- Summaries of logs.
--     summary-append      a log in two parts: the second goes on from the summary of the first
--     summary-nil         an empty log has done nothing
--     summary-next        one entry more
--     same-summary-true, same-summary-refl     the test of two summaries, both ways
--     same-summary-eq     what `==` of two summaries answers
-- Assumes nothing.
use mathlib.Core.Path.{◌≡◌, refl, ap₂, ◌∙◌}
use mathlib.Core.Bool.{true, ◌&&◌}
use mathlib.Core.List.{List, [], ◌∷◌, ◌++◌}
use Prim.Native.Nat.{ℕ}
use lib.Dec.{eqb}
use Rattle.std.specs.Cmp.Lexicographic.{pointwise}
use Rattle.lists.specs.Tests.{both}
use Rattle.lists.proofs.Walk.{and_both}
use Rattle.lists.proofs.Tests.{both-0, both-1, both_true}
use Rattle.lists.proofs.Same.{same_true, same_refl, same_is}
use Rattle.protocol.specs.Codes.{codes_after}
use Rattle.protocol.specs.Moves.{weights_after}
use Rattle.protocol_laws.proofs.Codes.{codes-append}
use Rattle.protocol_laws.proofs.Moves.{weights-append}
use Rattle.summary.specs.Summary.{summary_after, summary_next, same_summary}
use Rattle.summary.specs.declared.Summary.{Summary}

pub summary-append : (s : Summary) (a b : List ℕ) → summary_after s (a ++ b) ≡ summary_after (summary_after s a) b
summary-append s a b = λ i. record { present = weights-append s.present a b i; codes = codes-append s.codes a b i }

pub summary-nil : (s : Summary) → summary_after s [] ≡ s
unfolding weights_after codes_after
summary-nil s = refl

summary-one : (s : Summary) (e : ℕ) → summary_after s (e ∷ []) ≡ summary_next s e
unfolding weights_after codes_after
summary-one s e = refl

pub summary-next : (s : Summary) (log : List ℕ) (e : ℕ) → summary_after s (log ++ e ∷ []) ≡ summary_next (summary_after s log) e
summary-next s log e = summary-append s log (e ∷ []) ∙ summary-one (summary_after s log) e

pub same-summary-true : (a b : Summary) → same_summary a b ≡ true → a ≡ b
unfolding same_summary
same-summary-true a b e = λ i. record { present = same_true a.present b.present (both-0 _ _ e) i; codes = same_true a.codes b.codes (both-1 _ _ e) i }

pub same-summary-refl : (a : Summary) → same_summary a a ≡ true
unfolding same_summary
same-summary-refl a = both_true _ _ (same_refl a.present) (same_refl a.codes)

pub same-summary-eq : (a b : Summary) → (pointwise eqb a.present b.present && pointwise eqb a.codes b.codes) ≡ same_summary a b
unfolding same_summary
same-summary-eq a b = and_both _ _ ∙ ap₂ both (same_is a.present b.present) (same_is a.codes b.codes)
