-- The cells behind the first, and a zero.
use Rattle.std.proofs.Common.{[], ◌∷◌, ◌++◌, ◌∙◌, refl, ap, length, List, ℕ}
use Rattle.lists.proofs.Walk.{rest_part}
use Rattle.votes.proofs.Cells.{without-first-is}
use Rattle.votes.proofs.without_first.Goals as goal

pub returns : goal.returns
returns c =
    let b = c.args.b in
    without-first-is b c.requires.0 c.requires.1 _ (ap (λ (l : List ℕ). l ++ 0 ∷ []) (c.copy_from_slice.ensures.after ∙ rest_part (length b.cells) 1 b.cells refl))
