-- The shortest run.
--     shortest-one     it is one number
--     shortest-is      the one that the definition gives
--     no_lines         "No lines read nothing"
--     same_lines       lines named more often, or in another order, change nothing of what is read
--     named-twice      "a line named twice is answered twice", and needs no more words
-- Assumes nothing.
use mathlib.Core.Path.{◌≡◌, refl, sym, ap, fun_ext, ◌∙◌}
use mathlib.Core.List.Memᴰ
use mathlib.Core.List.{List, [], ◌∷◌, Memᴰ}
use mathlib.Core.Bool.{Bool, true, false, true≢false}
use mathlib.Core.Logic.{◌⊎◌, inl, inr}
use Prim.Native.Nat.{ℕ, zero, suc, ◌≤◌, ◌<◌}
use native.Mathlib.Nat.{not-suc-le-zero, le_of_suc-le-suc}
use native.Mathlib.Omega.{arith}
use lib.ListN.{length}
use Rattle.lists.specs.Tests.{all_b}
use Rattle.lists.proofs.Tests.{alike, pick-cases}
use Rattle.protocol.specs.Codes.{cell, edit_in}
use Rattle.protocol.specs.Frames.{edit_after}
use Rattle.runs.proofs.Members.{all-mem, all-each}
use Rattle.runs.specs.Runs.{edits_of, run_has, least_up_to, shortest_run, Shortest, SameLines}

pub shortest-one : (p : ℕ) (has : ℕ → Bool) (r s : ℕ) → Shortest p has r → Shortest p has s → r ≡ s
shortest-one p has r s a b =
    let not-below : ¬ (r < s) = below r s b a.found in
    let not-above : ¬ (s < r) = below s r a b.found in
    omega arith
  where
    below : (r s : ℕ) → Shortest p has s → (has r ≡ true) ⊎ ((r ≡ p) × ((s : ℕ) → s ≤ p → has s ≡ false)) → r < s → ⊥
    below r s b (inl e) k = true≢false (sym e ∙ b.shorter r k)
    below r s b (inr e) k = omega (arith, e.0, b.within)

nothing : (p : ℕ) (has : ℕ → Bool) → has 0 ≡ true → Shortest p has 0
nothing p has e = record { within = omega arith; shorter = λ s k. absurd (not-suc-le-zero k); found = inl e }

one_more : (p : ℕ) (has : ℕ → Bool) (r : ℕ) → has 0 ≡ false → Shortest p (λ (s : ℕ). has (suc s)) r → Shortest (suc p) has (suc r)
one_more p has r e h = record { within = omega (arith, h.within); shorter = shorter; found = found h.found }
  where
    shorter : (s : ℕ) → s < suc r → has s ≡ false
    shorter zero k = e
    shorter (suc s) k = h.shorter s (le_of_suc-le-suc k)

    found : (has (suc r) ≡ true) ⊎ ((r ≡ p) × ((s : ℕ) → s ≤ p → has (suc s) ≡ false)) → (has (suc r) ≡ true) ⊎ ((suc r ≡ suc p) × ((s : ℕ) → s ≤ suc p → has s ≡ false))
    found (inl q) = inl q
    found (inr q) = inr (ap suc q.0, λ s k. none s k)
      where
        none : (s : ℕ) → s ≤ suc p → has s ≡ false
        none zero k = e
        none (suc s) k = q.1 s (le_of_suc-le-suc k)

pub least-is : (p : ℕ) (has : ℕ → Bool) → Shortest p has (least_up_to p has)
unfolding least_up_to
least-is zero has = go (has 0) refl
  where
    none : (s : ℕ) → s ≤ 0 → has 0 ≡ false → has s ≡ false
    none zero k e = e
    none (suc s) k e = absurd (not-suc-le-zero k)

    go : (t : Bool) → has 0 ≡ t → Shortest 0 has 0
    go true e = nothing 0 has e
    go false e = record { within = omega arith; shorter = λ s k. absurd (not-suc-le-zero k); found = inr (refl, λ s k. none s k e) }
least-is (suc p) has =
    pick-cases (Shortest (suc p) has) (has 0) 0 (suc (least_up_to p (λ (r : ℕ). has (suc r)))) (nothing (suc p) has)
    (λ e. one_more p has (least_up_to p (λ (r : ℕ). has (suc r))) e (least-is p (λ (r : ℕ). has (suc r))))

pub shortest-is : (lines entries : List ℕ) → Shortest (length entries) (run_has lines entries) (shortest_run lines entries)
shortest-is lines entries = least-is (length entries) (run_has lines entries)

pub no_lines : (entries : List ℕ) → shortest_run [] entries ≡ 0
unfolding all_b
no_lines entries = shortest-one (length entries) (run_has [] entries) (shortest_run [] entries) 0 (shortest-is [] entries) (nothing (length entries) (run_has [] entries) refl)

-- ── lines named twice, or in another order ──
all-within : (t : ℕ → Bool) (xs ys : List ℕ) → ((x : ℕ) → Memᴰ x xs → Memᴰ x ys) → all_b t ys ≡ true → all_b t xs ≡ true
all-within t xs ys sub e = all-each t xs (λ x m. all-mem t (sub x m) e)

pub same_lines : (lines others entries : List ℕ) → SameLines lines others → shortest_run lines entries ≡ shortest_run others entries
same_lines lines others entries same = ap (least_up_to (length entries)) (fun_ext test)
  where
    test : (r : ℕ) → run_has lines entries r ≡ run_has others entries r
    test r = alike _ _ (all-within _ others lines (λ x. (same x).1)) (all-within _ lines others (λ x. (same x).0))

pub named-twice : (line : ℕ) (lines codes entries : List ℕ) → Memᴰ line lines
    → (shortest_run (line ∷ lines) entries ≡ shortest_run lines entries) × (edits_of (line ∷ lines) codes entries ≡ cell (edit_after line (edit_in codes line) entries) ∷ edits_of lines codes entries)
named-twice line lines codes entries m = (same_lines (line ∷ lines) lines entries (λ x. (λ k. go x (Memᴰ.cases_cons k), Memᴰ.tail)), refl)
  where
    go : (x : ℕ) → (x ≡ line) ⊎ Memᴰ x lines → Memᴰ x lines
    go x (inl e) = rw e m
    go x (inr k) = k
