-- The cells behind the words are zero.
use mathlib.Core.Path.{ap₂}
use mathlib.Core.List.{List, ◌++◌}
use Prim.Native.Nat.{ℕ}
use lib.ListN.{length}
use Rattle.merging.proofs.Walks.{zeros-behind}
use Rattle.merging.proofs.ballot_of.Goals as goal

pub returns : goal.returns
returns c =
    let ws = c.args.words.now in
    λ i. record { len = length ws; cells = ap₂ (λ (x y : List ℕ). x ++ y) c.copy_from_slice.ensures.after (zeros-behind (length ws)) i }
