-- What is known of one office more, and of all.
--     known_next      the next office
--     known-done      the walk's end
-- Assumes nothing.
use mathlib.Core.Path.{◌≡◌, refl, ap, ◌∙◌}
use mathlib.Core.List.{List}
use Prim.Native.Nat.{ℕ, suc, ◌+◌, min}
use native.Mathlib.Omega.{arith}
use lib.Dec.{eqb}
use lib.ListN.{get_or}
use Rattle.lists.specs.Tests.{pick}
use Rattle.protocol.specs.Folding.{least_known}

known-suc : (own settled : ℕ) (noted : List ℕ) (j : ℕ)
    → pick (eqb j own) (least_known own settled noted j) (min (least_known own settled noted j) (get_or noted j 0)) ≡ least_known own settled noted (suc j)
unfolding least_known
known-suc own settled noted j = refl

pub known_next : (own settled : ℕ) (noted : List ℕ) (j least : ℕ) → least ≡ least_known own settled noted j
    → (next : ℕ) → next ≡ pick (eqb j own) least (min least (get_or noted j 0)) → next ≡ least_known own settled noted (j + 1)
known_next own settled noted j least e next q =
    q ∙ ap (λ (x : ℕ). pick (eqb j own) x (min x (get_or noted j 0))) e ∙ known-suc own settled noted j ∙ ap (least_known own settled noted) (omega arith)

pub known-done : (own settled : ℕ) (noted : List ℕ) (j n least : ℕ) → least ≡ least_known own settled noted j → j ≡ n → least ≡ least_known own settled noted n
known-done own settled noted j n least e q = e ∙ ap (least_known own settled noted) q
