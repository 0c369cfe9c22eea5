-- A list in cells of which there may be more. Assumes nothing.
use Rattle.std.specs.Prelude.{List, ◌++◌, ℕ, ◌-◌, length, drop, replicate}

-- so many cells: the list in front, and x in the others
abbrev pub padded : {A : Type 0} → ℕ → A → List A → List A
padded size x xs = xs ++ replicate (size - length xs) x

-- numbers of up to eight offices in eight cells, and zeros behind them
abbrev pub in_eight : List ℕ → List ℕ
in_eight = padded 8 0

-- the list in front, and the other cells as they were
abbrev pub in_front : {A : Type 0} → List A → List A → List A
in_front xs cells = xs ++ drop (length xs) cells
