-- The laws of what is kept of dropped entries (`Effects` of `protocol`).
--     kept-nil, kept_append     of no entries, and of a list in two parts
--     kept-suffices             the rule that starts from what is kept of some entries says of a log what the frame's says of the whole
-- Assumes nothing.
use mathlib.Core.Path.{◌≡◌, refl, sym, ap₂, fun_ext}
use mathlib.Core.List.{List, [], ◌++◌}
use Prim.Native.Nat.{ℕ}
use Rattle.protocol.specs.Vote.{winner}
use Rattle.protocol.specs.Moves.{weights_after}
use Rattle.protocol.specs.Counts.{no_counts, counts_after, quieter_by}
use Rattle.protocol.specs.Codes.{codes_after}
use Rattle.protocol.specs.SettledRule.{by_settled}
use Rattle.protocol.proofs.Effects.{Effect, effect_after, effect_of, rule_behind}
use Rattle.protocol_laws.proofs.Moves.{weights-append}
use Rattle.protocol_laws.proofs.Counts.{counts-append}
use Rattle.protocol_laws.proofs.Codes.{codes-append}

pub kept-nil : (x : Effect) → effect_after x [] ≡ x
unfolding weights_after codes_after counts_after
kept-nil x = refl

pub kept_append : (x : Effect) (p l : List ℕ) → effect_after (effect_after x p) l ≡ effect_after x (p ++ l)
kept_append x p l = sym (λ i. record { weights = weights-append x.weights p l i; codes = codes-append x.codes p l i; counts = counts-append x.counts p l i })

pub kept-suffices : (founding p : List ℕ) → rule_behind (effect_of founding p) ≡ (λ l v. by_settled founding (p ++ l) v)
kept-suffices founding p = fun_ext (λ l. fun_ext (λ v. sym (ap₂ (λ (w c : List ℕ). winner w (quieter_by c) v) (weights-append founding p l) (counts-append (no_counts 8) p l))))
