-- What stands between marks: the fields of a text between its spaces, lines between newlines. Assumes nothing.
use Rattle.std.specs.Prelude.{ℕ, suc, List, [], ◌∷◌, eqb}
use Rattle.lists.specs.Tests.{pick}

-- the length of the first part: up to the next mark, or to the end
unfoldable pub part_length : ℕ → List ℕ → ℕ
part_length mark [] = 0
part_length mark (b ∷ bs) = pick (eqb b mark) 0 (suc (part_length mark bs))
