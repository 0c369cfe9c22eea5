-- Request (xiv): the noted lengths of a sound record. Assumes nothing.
use Rattle.std.specs.Prelude.{ℕ, ◌≤◌, ◌≡◌, Bool, ◌||◌, List, eqb, leb, length, get_or, drop}
use Rattle.lists.specs.Tests.{both, pick, all_b}

-- eight, of which "no noted length passes the record's own"; lengths are noted "of each other office", so the own place is 0, and those from
-- place n on
unfoldable pub noted_fine : ℕ → ℕ → ℕ → List ℕ → Bool
noted_fine n own settled noted =
    both (eqb (length noted) 8)
    (both (all_b (λ (l : ℕ). leb l settled) noted)
    (both (eqb 0 (get_or noted own 0)) (all_b (eqb 0) (drop n noted))))

-- the same as facts by name
pub record NotedFacts (n own settled : ℕ) (noted : List ℕ) : Type 0 where
  pub eight : length noted ≡ 8
  pub most : (j : ℕ) → get_or noted j 0 ≤ settled
  pub none-own : get_or noted own 0 ≡ 0
  pub rest : (j : ℕ) → n ≤ j → get_or noted j 0 ≡ 0

-- the most that may be noted at a place
unfoldable pub limit_at : ℕ → ℕ → ℕ → ℕ → ℕ
limit_at n own settled place = pick (eqb place own || leb n place) 0 settled
