-- "The order is the longest settled log that any office has after the list; it is empty if nothing was settled." Assumes nothing.
use Rattle.std.specs.Prelude.{List, [], ◌∷◌, cond, ℕ, ltb, length}

-- the longest of some logs, the first of those that are; empty where there is none
unfoldable pub longest : List (List ℕ) → List ℕ
longest [] = []
longest (l ∷ ls) = cond (ltb (length l) (length (longest ls))) (longest ls) l
