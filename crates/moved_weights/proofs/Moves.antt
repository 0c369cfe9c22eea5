-- What the walks for weights make.
--     moves_next                        a walk that joins words, to see whether none is a move, one word more
--     stays, stays-far, stays-poor, stays-full, shifted      entries that move nothing, each for its reason, and one that does
--     no-moves-stay                     a log without moves leaves the weights
-- Assumes nothing.
use mathlib.Core.Path.{◌≡◌, refl, sym, ap, ◌∙◌}
use mathlib.Core.Bool.{Bool, true, not}
use mathlib.Core.List.{List, [], ◌∷◌}
use Prim.Native.Nat.{ℕ, zero, suc, ◌+◌, ◌-◌, ◌/◌, ◌%◌, ◌<◌, ◌≤◌}
use native.Mathlib.Nat.{not-suc-le-zero, le_of_suc-le-suc}
use native.Mathlib.Omega.{arith}
use lib.Bits.{bit_or}
use lib.Dec.{eqb, leb}
use lib.ListN.{length, get_or}
use lib.Seq.{set_out, set-get_or}
use borrow.Author.Tests.{le-leb, lt-leb, lt-ltb, ne_eqb, eqb-true, eq-eqb, ltb-true, leb-false, not-true}
use Rattle.lists.specs.Tests.{all_b}
use Rattle.lists.proofs.Tests.{alike, both-0, both-1, both_true, pick_true}
use Rattle.lists.proofs.Walk.{AllWith, with-next, and_both}
use Rattle.protocol.specs.Entry.{office_of, line_of, code_of}
use Rattle.protocol.specs.Limits.{is_weight}
use Rattle.protocol.specs.Moves.{is_move, weight_of, target_of, shift, can_shift, move, weights_after}
use Rattle.protocol_laws.proofs.Moves.{Moves, move-cases}
use Rattle.entries.proofs.Carries.{or-bits}
use Rattle.moved_weights.specs.NoMove.{no_move}

-- ── logs without moves ──
line-bits : (v : ℕ) → eqb (v / 4194304 % 4) 0 ≡ no_move v
unfolding is_move
line-bits v = alike (eqb (v / 4194304 % 4) 0) (no_move v)
    (λ e. let z = eqb-true (v / 4194304 % 4) 0 e in ap not (lt-leb 64 (line_of v) (omega arith)))
    (λ e. let z : line_of v < 64 = leb-false 64 (line_of v) (not-true (leb 64 (line_of v)) e) in eq-eqb (v / 4194304 % 4) 0 (omega arith))

pub moves_next : {b : Bool} (xs : List ℕ) (bits i : ℕ) → i < length xs → AllWith b no_move xs (eqb (bits / 4194304 % 4) 0) i
    → AllWith b no_move xs (eqb (bit_or bits (get_or xs i 0) / 4194304 % 4) 0) (i + 1)
moves_next xs bits i h inv =
    let v = get_or xs i 0 in
    rw (and_both (eqb (bits / 4194304 % 4) 0) (eqb (v / 4194304 % 4) 0)
    ∙ sym (or-bits 22 2 bits v)) at (with-next no_move 0 xs (eqb (bits / 4194304 % 4) 0) i inv h (eqb (v / 4194304 % 4) 0) (line-bits v))

-- ── one entry ──
past_end : (w : List ℕ) (k : ℕ) → length w ≤ k → get_or w k 0 ≡ 0
past_end [] k h = refl
past_end (x ∷ w) zero h = absurd (not-suc-le-zero h)
past_end (x ∷ w) (suc k) h = past_end w k (le_of_suc-le-suc h)

module _ (w : List ℕ) (v : ℕ) where
  pub stays : (Moves w v → ⊥) → w ≡ move w v
  stays never = move-cases (λ r. w ≡ r) w v refl (λ m. absurd (never m))

  -- an office that is not there has nothing to move
  pub stays-far : length w ≤ office_of v → w ≡ move w v
  stays-far h = move-cases (λ r. w ≡ r) w v refl (λ m.
      let none : weight_of w (office_of v) ≡ 0 = past_end w (office_of v) h in
      let nothing : weight_of w (target_of v) + code_of v ≡ weight_of w (target_of v) = omega (arith, m.enough) in
      sym (rw (set_out w (office_of v) (weight_of w (office_of v) - code_of v) h, nothing) (set-get_or w (target_of v) 0)))

  shifts : Moves w v → shift w (office_of v) (target_of v) (code_of v) ≡ move w v
  unfolding move is_move can_shift
  shifts m = sym (pick_true _ _ _ (both_true _ _ (le-leb 64 (line_of v) m.line)
      (both_true _ _ (lt-ltb (target_of v) (length w) m.there)
      (both_true _ _ (ap not (ne_eqb (office_of v) (target_of v) m.other)) (both_true _ _ (le-leb (code_of v) (weight_of w (office_of v)) m.enough) m.fits)))))

-- the numbers are the parts of the word
module _ (w : List ℕ) (v o l c : ℕ) (eo : o ≡ office_of v) (el : l ≡ line_of v) (ec : c ≡ code_of v) where
  has : weight_of w o ≡ weight_of w (office_of v)
  has = ap (weight_of w) eo

  gets : weight_of w (l - 64) ≡ weight_of w (target_of v)
  gets = ap (λ (k : ℕ). weight_of w (k - 64)) el

  pub stays-poor : weight_of w o < c → w ≡ move w v
  stays-poor h = stays w v (λ m. omega (arith, m.enough, has))

  pub stays-full : 65535 - c < weight_of w (l - 64) → w ≡ move w v
  unfolding is_weight
  stays-full h = stays w v (λ m. omega (arith, ltb-true (weight_of w (target_of v) + code_of v) 65536 m.fits, gets))

  pub shifted : 64 ≤ l → l - 64 < length w → (o ≡ l - 64 → ⊥) → c ≤ weight_of w o → weight_of w (l - 64) ≤ 65535 - c → c < 65536 → shift w o (l - 64) c ≡ move w v
  unfolding is_weight
  shifted line there other enough room small =
      rw (eo, el, ec) (shifts w v (record {
        line = omega arith;
        there = omega arith;
        other = λ q. other (omega arith);
        enough = omega (arith, has);
        fits = lt-ltb (weight_of w (target_of v) + code_of v) 65536 (omega (arith, gets));
      }))

-- ── every log ──
pub no-moves-stay : (w l : List ℕ) → all_b no_move l ≡ true → w ≡ weights_after w l
unfolding weights_after all_b is_move
no-moves-stay w [] p = refl
no-moves-stay w (v ∷ l) p =
    let line : line_of v < 64 = leb-false 64 (line_of v) (not-true (leb 64 (line_of v)) (both-0 _ _ p)) in
    no-moves-stay w l (both-1 _ _ p) ∙ ap (λ (s : List ℕ). weights_after s l) (stays w v (λ m. omega (arith, m.line)))
