-- A log record whose value is stored before its mark: stores at different places may change their order. Assumes nothing.
use mathlib.Core.Path.{◌≡◌, refl, ap, ◌∙◌}
use mathlib.Core.List.{List, [], ◌∷◌}
use Prim.Native.Nat.{ℕ, suc, ◌+◌, ◌<◌}
use native.Mathlib.Numerals.{add-one, add-two}
use native.Mathlib.Omega.{arith}
use lib.ListN.{set}
use lib.Seq.{sets, set_comm}
use Rattle.numbers.specs.Numbers.{bytes32}
use Rattle.spelling.specs.Spelling.{log_record}

-- a store before a run of stores
set_before : (l : List ℕ) (j : ℕ) (vs : List ℕ) (i x : ℕ) → i < j → set (sets l j vs) i x ≡ sets (set l i x) j vs
set_before l j [] i x h = refl
set_before l j (v ∷ vs) i x h = set_before (set l j v) (suc j) vs i x (omega arith) ∙ ap (λ (r : List ℕ). sets r (suc j) vs) (set_comm l j i v x (λ e. omega arith))

pub value-first : (out last : List ℕ) (at v : ℕ) → last ≡ sets out (at + 2) (bytes32 v) → set (set last at 76) (at + 1) 71 ≡ sets out at (log_record v)
unfolding log_record
value-first out last at v e =
    ap (λ (r : List ℕ). set (set r at 76) (at + 1) 71) e
    ∙ ap (λ (r : List ℕ). set r (at + 1) 71) (set_before out (at + 2) (bytes32 v) at 76 (omega arith))
    ∙ set_before (set out at 76) (at + 2) (bytes32 v) (at + 1) 71 (omega arith)
    ∙ simp (add-one, add-two)
