-- A line of request (xiii), computed on the definitions. Assumes nothing.
use mathlib.Core.Path.{◌≡◌, refl, ap, ◌∙◌}
use mathlib.Core.Bool.{true}
use mathlib.Core.List.{List, [], ◌∷◌, flat_map}
use Prim.Native.Nat.{ℕ}
use native.Mathlib.Omega.{arith}
use Rattle.lists.specs.Tests.{both, pick, all_b}
use Rattle.protocol.specs.Entry.{value}
use Rattle.protocol.specs.Counts.{counts_after, quieter_by}
use Rattle.protocol.specs.Moves.{is_move, can_shift, move, weights_after}
use Rattle.protocol.specs.Limits.{is_weight, is_office, total, weights_fine, head_fine}
use Rattle.protocol.specs.Vote.{tally, unheard, supported, wins, winner}
use Rattle.protocol.specs.SettledRule.{by_settled}
use Rattle.protocol.specs.Elect.{settle, electing, with_elect}
use Rattle.tables.specs.Tables.{tails, table_at}
use Rattle.tables.specs.Listed.{small_entry, small_tail, small_table}
use Rattle.tables.proofs.Places.{table_is}
use Rattle.table_lines.specs.Lines.{shown, line_with, line_of, table_office}
use Rattle.table_lines.specs.Answers.{founded}
use Rattle.table_lines.proofs.Settled.{table-elects}
use Rattle.table_lines.proofs.Printed.{found-zero}

abbrev weights : List ℕ
weights = 1 ∷ 0 ∷ 0 ∷ 0 ∷ 0 ∷ 0 ∷ 0 ∷ 0 ∷ []

-- tails 0, 0 1 and none
abbrev table : List (List ℕ)
table = (value 0 0 0 ∷ []) ∷ (value 0 0 0 ∷ value 1 0 0 ∷ []) ∷ [] ∷ []

-- its place in the list is 1 * 169 + 5 * 13 + 0
pub table-place : table_at 234 ≡ table
unfolding tails flat_map
table-place = table_is ([] ∷ [] ∷ [] ∷ []) 234 (omega arith)

head-fine : head_fine 3 0 weights ≡ true
unfolding head_fine is_office weights_fine both all_b is_weight total
head-fine = refl

settles : (with_elect (by_settled weights) (table_office table)).log ≡ value 0 0 0 ∷ []
unfolding both pick is_move can_shift move weights_after counts_after quieter_by tally unheard supported wins winner settle electing with_elect
settles = refl

small : small_table table ≡ true
unfolding small_table small_tail small_entry both all_b
small = refl

-- "with weights 1 0 0, tails 0, 0 1 and none give `0 01 - 0`"
pub one_line : line_of (founded weights).«record» table ≡ 48 ∷ 32 ∷ 48 ∷ 49 ∷ 32 ∷ 45 ∷ 32 ∷ 48 ∷ 10 ∷ []
unfolding line_of line_with shown
one_line = ap (λ (s : List ℕ). line_with s table) ((table-elects weights (found-zero weights head-fine) table small).1 ∙ settles)
