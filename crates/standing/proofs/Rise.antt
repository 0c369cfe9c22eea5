-- One vote more, of an office that had none, all other votes being as they were: by any weights.
--     tally-rises, tally-stays, unheard-falls      T of its entry, T of every other, U
--     row_made, rows_stay                          the entry has a row, and of the others the same ones have
-- Assumes nothing.
use mathlib.Core.Path.{◌≡◌, refl, sym, ap, ◌∙◌}
use mathlib.Core.List.{List, [], ◌∷◌}
use Rattle.std.specs.Prelude.{Option, None, Some}
use Rattle.std.proofs.lemmas.Option.{same_Some, none-some}
use mathlib.Core.Bool.{Bool, true, false, cond}
use Prim.Native.Nat.{ℕ, zero, suc, ◌+◌, ◌<◌}
use native.Mathlib.Decide.{dec_lt}
use native.Mathlib.Omega.{arith}
use lib.ListN.{length, get_or}
use borrow.Author.Tests.{eq-eqb, ne_eqb}
use Rattle.lists.specs.Tests.{times}
use Rattle.protocol.specs.Vote.{Votes, later, is_for, is_none, tally, unheard}
use Rattle.protocol.specs.Winning.{Supported}
use Rattle.standing.specs.Leader.{entries_in}
use Rattle.standing.proofs.Table.{rows_by, rows-once, rows-supported}

no_part : (t : Bool) → ◌≡◌ {A = ℕ} (cond t 0 0) 0
no_part true = refl
no_part false = refl

-- a sum over the offices of the weight of each whose vote passes a test: it changes by the part of the one office whose vote does
module _ (sum : List ℕ → Votes → ℕ) (t : Option ℕ → Bool) (nil : (v : Votes) → sum [] v ≡ 0)
    (cons : (w : ℕ) (ws : List ℕ) (v : Votes) → sum (w ∷ ws) v ≡ cond (t (v 0)) w 0 + sum ws (later v)) where
  one-part : (ws : List ℕ) (v v' : Votes) (k : ℕ) → ((j : ℕ) → (j ≡ k → ⊥) → v' j ≡ v j)
      → sum ws v' + cond (t (v k)) (get_or ws k 0) 0 ≡ sum ws v + cond (t (v' k)) (get_or ws k 0) 0
  one-part [] v v' k h = omega (arith, nil v, nil v', no_part (t (v k)), no_part (t (v' k)))
  one-part (w ∷ ws) v v' zero h = omega (arith, cons w ws v, cons w ws v', rest)
    where
      rest : sum ws (later v') ≡ sum ws (later v)
      rest = ap (sum ws) (λ i j. h (suc j) (λ q. omega (arith, q)) i)
  one-part (w ∷ ws) v v' (suc k) h =
      omega (arith, cons w ws v, cons w ws v', here, one-part ws (later v) (later v') k (λ j n. h (suc j) (λ q. n (omega (arith, q)))))
    where
      here : cond (t (v' 0)) w 0 ≡ cond (t (v 0)) w 0
      here = ap (λ (a : Option ℕ). cond (t a) w 0) (h 0 (λ q. omega (arith, q)))

module _ (ws : List ℕ) (v v' : Votes) (k e : ℕ) (unvoted : v k ≡ None) (voted : v' k ≡ Some e) (others : (j : ℕ) → (j ≡ k → ⊥) → v' j ≡ v j) where
  abbrev w : ℕ
  w = get_or ws k 0

  -- T of any entry, by the part that office k's vote has in it
  tally-part : (f : ℕ) → tally ws v' f ≡ tally ws v f + cond (is_for f (Some e)) w 0
  unfolding tally
  tally-part f =
      omega (
        arith,
        one-part (λ (us : List ℕ) (u : Votes). tally us u f) (is_for f) (λ _. refl) (λ _ _ _. refl) ws v v' k others,
        ap (λ (a : Option ℕ). cond (is_for f a) w 0) unvoted,
        ap (λ (a : Option ℕ). cond (is_for f a) w 0) voted,
      )

  pub tally-rises : tally ws v' e ≡ tally ws v e + w
  tally-rises = tally-part e ∙ ap (λ (t : Bool). tally ws v e + cond t w 0) (eq-eqb e e refl)

  pub tally-stays : (f : ℕ) → (f ≡ e → ⊥) → tally ws v' f ≡ tally ws v f
  tally-stays f n = omega (arith, tally-part f, ap (λ (t : Bool). cond t w 0) (ne_eqb e f (λ q. n (sym q))))

  pub unheard-falls : unheard ws v' + w ≡ unheard ws v
  unfolding unheard
  unheard-falls =
      omega (
        arith,
        one-part unheard is_none (λ _. refl) (λ _ _ _. refl) ws v v' k others,
        ap (λ (a : Option ℕ). cond (is_none a) w 0) unvoted,
        ap (λ (a : Option ℕ). cond (is_none a) w 0) voted,
      )

  pub row_made : k < length ws → times e (entries_in (rows_by ws v')) ≡ 1
  row_made h = (rows-supported ws v' e).1 (k, h, voted)

  pub rows_stay : (f : ℕ) → (f ≡ e → ⊥) → times f (entries_in (rows_by ws v')) ≡ times f (entries_in (rows_by ws v))
  rows_stay f n = go (dec_lt 0 before) (dec_lt 0 after)
    where
      before : ℕ
      before = times f (entries_in (rows_by ws v))

      after : ℕ
      after = times f (entries_in (rows_by ws v'))

      kept : Supported ws v f → Supported ws v' f
      kept s = (s.0, s.1, others s.0 (λ q. none-some f (sym unvoted ∙ ap v (sym q) ∙ s.2)) ∙ s.2)

      was : Supported ws v' f → Supported ws v f
      was s = (s.0, s.1, sym (others s.0 (λ q. n (sym (same_Some e f (sym voted ∙ ap v' (sym q) ∙ s.2))))) ∙ s.2)

      go : Dec (0 < before) → Dec (0 < after) → after ≡ before
      go (yes a) b =
          let one : before ≡ 1 = omega (arith, rows-once ws v f) in
          (rows-supported ws v' f).1 (kept ((rows-supported ws v f).0 one)) ∙ sym one
      go (no a) (yes b) =
          let one : after ≡ 1 = omega (arith, rows-once ws v' f) in
          one ∙ sym ((rows-supported ws v f).1 (was ((rows-supported ws v' f).0 one)))
      go (no a) (no b) = omega arith
