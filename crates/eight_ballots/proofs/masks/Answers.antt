use mathlib.Core.Path.{ap}
use mathlib.Core.List.{List, ◌++◌}
use Prim.Native.Nat.{ℕ}
use lib.ListN.{replicate}
use Rattle.eight_ballots.specs.Fours.{mask_words}
use Rattle.eight_ballots.proofs.masks.Goals as goal

pub returns : goal.returns
unfolding mask_words
returns c = ap (λ (l : List ℕ). l ++ replicate 32 4294967295) (c.fill.ensures.after (λ y e. e))
