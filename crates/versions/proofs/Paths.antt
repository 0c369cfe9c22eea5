-- The walk over the tails that stores an answer for each path, behind the log's.
--     ToAnswer, answer-begins, answer-again, answer-ends      what is left to store
--     nine-answers                                            all answers, and beside behind them
-- Assumes nothing.
use mathlib.Core.Path.{◌≡◌, refl, sym, ap, ap₂, ◌∙◌}
use mathlib.Core.List.{List, [], ◌∷◌, ◌++◌, map}
use Prim.Native.Nat.{ℕ, ◌+◌, ◌<◌, ◌≤◌, zero-le}
use native.Mathlib.Omega.{arith}
use lib.ListN.{length, get_or, take, drop, set, replicate, length-map, drop_of_length-le}
use lib.Seq.{sets, length-take-le}
use Rattle.lists.proofs.Stores.{Left, left-all, left-next, left-none}
use Rattle.numbers.proofs.Numbers.{sets-alike}
use Rattle.protocol_laws.proofs.Counts.{counts-append}
use Rattle.ballots.specs.Ballots.{tail_of, off_end}
use Rattle.ballots.specs.declared.Ballot.{Ballot}
use Rattle.vectors.specs.Vectors.{vector_of, versions_in}
use Rattle.vectors.proofs.Vectors.{tails_in, tails-length, tails_next}
use Rattle.versions.specs.Versions.{answers_to, beside, compared_to, nine}

-- a path's counts go on from the log's
paths-answers : (start v log : List ℕ) (ts : List (List ℕ)) → answers_to start v (map (λ t. log ++ t) ts) ≡ answers_to (vector_of start log) v ts
paths-answers start v log [] = refl
paths-answers start v log (t ∷ ts) = ap₂ (λ (c : List ℕ) (rest : List ℕ). compared_to c v ∷ rest) (counts-append start log t) (paths-answers start v log ts)

-- the answers for the paths, counted from the log's counts on, from office o on are left to store behind the log's and those of the offices before
pub record ToAnswer (cells₀ : List ℕ) (n : ℕ) (base v : List ℕ) (bs : List Ballot) (cells : List ℕ) (o : ℕ) : Type 0 where
  pub within : o ≤ n
  pub left : Left cells₀ 1 (answers_to base v (tails_in n bs)) cells (o + 1) (answers_to base v (drop o (tails_in n bs)))

pub answer-begins : (cells : List ℕ) (n : ℕ) (base v : List ℕ) (bs : List Ballot) → ToAnswer cells n base v bs cells 0
answer-begins cells n base v bs = record { within = zero-le; left = left-all cells 1 (answers_to base v (tails_in n bs)) }

module _ {cells₀ : List ℕ} {n : ℕ} {base v : List ℕ} {bs : List Ballot} {cells : List ℕ} {o : ℕ} (inv : ToAnswer cells₀ n base v bs cells o) (some : n ≤ length bs) where
  pub answer-again : o < length (take n bs) → (x : ℕ) → x ≡ compared_to (vector_of base (tail_of (get_or (take n bs) o off_end))) v
      → ToAnswer cells₀ n base v bs (set cells (o + 1) x) (o + 1)
  answer-again h x e = record {
    within = omega (arith, length-take-le n bs some);
    left = left-next inv.left (x ∷ [])
        (ap (answers_to base v) (tails_next n bs some o h) ∙ ap (λ (y : ℕ). y ∷ answers_to base v (drop (o + 1) (tails_in n bs))) (sym e)) (omega arith) refl;
  }

  pub answer-ends : length (take n bs) ≤ o → cells ≡ sets cells₀ 1 (answers_to base v (tails_in n bs))
  answer-ends h =
      let l : length (tails_in n bs) ≤ o = omega (arith, tails-length n bs some, length-take-le n bs some) in
      (left-none inv.left (ap (answers_to base v) (drop_of_length-le (tails_in n bs) l))).1

pub nine-answers : (n : ℕ) → n ≤ 8 → (start v log : List ℕ) (bs : List Ballot) → n ≤ length bs → (base : List ℕ) → base ≡ vector_of start log → (x : ℕ) → x ≡ compared_to base v
    → sets (set (replicate 9 beside) 0 x) 1 (answers_to base v (tails_in n bs)) ≡ nine (answers_to start v (versions_in n log bs))
nine-answers n few start v log bs some base b x e =
    let paths : answers_to start v (map (λ t. log ++ t) (tails_in n bs)) ≡ answers_to base v (tails_in n bs) =
    paths-answers start v log (tails_in n bs) ∙ ap (λ (c : List ℕ). answers_to c v (tails_in n bs)) (sym b) in
    ap₂ (λ (y : ℕ) (rest : List ℕ). sets (set (replicate 9 beside) 0 y) 1 rest) (e ∙ ap (λ (c : List ℕ). compared_to c v) b) (sym paths)
    ∙ sets-alike 9 beside (answers_to start v (versions_in n log bs)) (omega (arith, ap length paths, length-map (tails_in n bs) (λ p. compared_to (vector_of base p) v), tails-length n bs some))
