-- (i) The present weights: what one entry keeps of them, and so every log. "The total never changes."
--     weights-append                    a log in two parts: the second goes on from the weights of the first
--     weights-length, weights-total     as many weights, and the same total, after every log
--     weights-most                      each at most 65535
--     weights-rest, weights-zero        those from place n on stay, and stay zero, where the entries are for n offices
--     value-entry, value-parts          a proper office, line and code make an entry, and stand in its value
-- Assumes nothing.
use mathlib.Core.Path.{◌≡◌, refl, sym, ◌∙◌}
use mathlib.Core.Bool.{Bool, true, false}
use mathlib.Core.List.{List, [], ◌∷◌, ◌++◌, foldl-append}
use Prim.Native.Nat.{ℕ, zero, suc, ◌+◌, ◌-◌, ◌<◌, ◌≤◌}
use native.Mathlib.Nat.{le_of_suc-le-suc, not-suc-le-zero}
use native.Mathlib.Omega.{arith}
use lib.Dec.{eqb, leb, ltb}
use lib.ListN.{length, drop, set, length-set}
use lib.Seq.{get_or-set_other, drop-set-lt}
use borrow.Author.Tests.{eqb-false, leb-true, leb-false, ltb-true, le-leb, lt-ltb, not-true}
use Rattle.lists.specs.Tests.{both, pick, all_b}
use Rattle.protocol.specs.Entry.{value, office_of, line_of, code_of, proper, is_entry}
use Rattle.protocol.specs.Limits.{is_weight, total}
use Rattle.protocol.specs.Moves.{is_move, weight_of, target_of, shift, can_shift, move, weights_after}
use Rattle.lists.proofs.Tests.{both-0, both-1, both_true, pick-cases, all_get_d, all_set}

-- ── entries ──
-- "line (0 to 63), code (0 to 9999)"; on lines 64 + j, j below n, the codes 1 to 9999
pub record Proper (n line code : ℕ) : Type 0 where
  pub line_ok : line < 64 + n
  pub code_ok : code ≤ 9999
  pub some : 64 ≤ line → 1 ≤ code

pub proper-true : (n line code : ℕ) → proper n line code ≡ true → Proper n line code
unfolding proper pick
proper-true n line code e = go (leb line 63) refl e
  where
    go : (t : Bool) → leb line 63 ≡ t → pick t (leb code 9999) (both (ltb line (64 + n)) (both (leb 1 code) (leb code 9999))) ≡ true → Proper n line code
    go true p q = let l = leb-true line 63 p in record { line_ok = omega arith; code_ok = leb-true code 9999 q; some = λ h. absurd (omega arith) }
    go false p q = record {
      line_ok = ltb-true line (64 + n) (both-0 _ _ q);
      code_ok = leb-true code 9999 (both-1 _ _ (both-1 _ _ q));
      some = λ _. leb-true 1 code (both-0 _ _ (both-1 _ _ q));
    }

pub proper-of : (n line code : ℕ) → Proper n line code → proper n line code ≡ true
unfolding proper
proper-of n line code p =
    pick-cases (λ b. b ≡ true) (leb line 63) (leb code 9999) (both (ltb line (64 + n)) (both (leb 1 code) (leb code 9999)))
    (λ _. le-leb code 9999 p.code_ok)
    (λ e. both_true _ _ (lt-ltb line (64 + n) p.line_ok) (both_true _ _ (le-leb 1 code (p.some (leb-false line 63 e))) (le-leb code 9999 p.code_ok)))

-- a proper office, line and code stand in the value
pub value-parts : (n office line code : ℕ) → n ≤ 8 → Proper n line code
    → (office_of (value office line code) ≡ office) × (line_of (value office line code) ≡ line) × (code_of (value office line code) ≡ code)
value-parts n office line code m p = let l = p.line_ok in let c = p.code_ok in (omega arith, omega arith, omega arith)

pub value-entry : (n office line code : ℕ) → office < n → n ≤ 8 → proper n line code ≡ true → is_entry n (value office line code) ≡ true
unfolding is_entry
value-entry n office line code h m e =
    let s = value-parts n office line code m (proper-true n line code e) in
    both_true _ _ (lt-ltb (office_of (value office line code)) n (omega arith)) (rw (s.1, s.2) e)

-- ── one entry ──
-- a move that takes effect
pub record Moves (w : List ℕ) (e : ℕ) : Type 0 where
  pub line : 64 ≤ line_of e
  pub there : target_of e < length w
  pub other : office_of e ≡ target_of e → ⊥
  pub enough : code_of e ≤ weight_of w (office_of e)
  pub fits : is_weight (weight_of w (target_of e) + code_of e) ≡ true

-- any other entry changes nothing
pub move-cases : (P : List ℕ → Type 0) (w : List ℕ) (e : ℕ) → P w → (Moves w e → P (shift w (office_of e) (target_of e) (code_of e))) → P (move w e)
unfolding move is_move can_shift
move-cases P w e stays moved =
    pick-cases P (both (is_move e) (can_shift w (office_of e) (target_of e) (code_of e))) (shift w (office_of e) (target_of e) (code_of e)) w
    (λ q. moved (record {
      line = leb-true 64 (line_of e) (both-0 _ _ q);
      there = ltb-true (target_of e) (length w) (both-0 _ _ (both-1 _ _ q));
      other = eqb-false (office_of e) (target_of e) (not-true _ (both-0 _ _ (both-1 _ _ (both-1 _ _ q))));
      enough = leb-true (code_of e) (weight_of w (office_of e)) (both-0 _ _ (both-1 _ _ (both-1 _ _ (both-1 _ _ q))));
      fits = both-1 _ _ (both-1 _ _ (both-1 _ _ (both-1 _ _ q)));
    }))
    (λ _. stays)

total-less : (w : List ℕ) (i x : ℕ) → x ≤ weight_of w i → total (set w i (weight_of w i - x)) + x ≡ total w
unfolding total
total-less [] i x h = omega arith
total-less (y ∷ w) zero x h = omega arith
total-less (y ∷ w) (suc i) x h = omega (arith, total-less w i x h)

pub total-more : (w : List ℕ) (j x y : ℕ) → j < length w → weight_of w j ≡ y → total (set w j (y + x)) ≡ total w + x
unfolding total
total-more [] j x y h e = absurd (not-suc-le-zero h)
total-more (z ∷ w) zero x y h e = omega arith
total-more (z ∷ w) (suc j) x y h e = omega (arith, total-more w j x y (le_of_suc-le-suc h) e)

pub move-total : (w : List ℕ) (e : ℕ) → total (move w e) ≡ total w
move-total w e = move-cases (λ r. total r ≡ total w) w e refl (λ m.
    let i = office_of e in
    let j = target_of e in
    let x = code_of e in
    let less : List ℕ = set w i (weight_of w i - x) in
    let there : j < length less = rw (length-set w i (weight_of w i - x)) m.there in
    total-more less j x (weight_of w j) there (get_or-set_other w i j (weight_of w i - x) 0 (λ q. m.other (sym q))) ∙ total-less w i x m.enough)

pub move-length : (w : List ℕ) (e : ℕ) → length (move w e) ≡ length w
move-length w e = move-cases (λ r. length r ≡ length w) w e refl (λ m. simp length-set)

pub move-most : (w : List ℕ) (e : ℕ) → all_b is_weight w ≡ true → all_b is_weight (move w e) ≡ true
unfolding is_weight
move-most w e p = move-cases (λ r. all_b is_weight r ≡ true) w e p (λ m.
    let i = office_of e in
    let x = code_of e in
    let old : weight_of w i < 65536 = ltb-true (weight_of w i) 65536 (all_get_d is_weight 0 w i p refl) in
    all_set is_weight _ (target_of e) _ (all_set is_weight w i (weight_of w i - x) p (lt-ltb (weight_of w i - x) 65536 (omega arith))) m.fits)

pub move-rest : (n : ℕ) (w : List ℕ) (e : ℕ) → is_entry n e ≡ true → drop n (move w e) ≡ drop n w
unfolding is_entry
move-rest n w e p = move-cases (λ r. drop n r ≡ drop n w) w e refl (λ m.
    let i = office_of e in
    let j = target_of e in
    let q = proper-true n (line_of e) (code_of e) (both-1 _ _ p) in
    let from : i < n = ltb-true i n (both-0 _ _ p) in
    let to : j < n = omega (arith, m.line, q.line_ok) in
    drop-set-lt n (set w i (weight_of w i - code_of e)) j (weight_of w j + code_of e) to ∙ drop-set-lt n w i (weight_of w i - code_of e) from)

-- ── every log ──
-- "later a folded log only changes the start"
pub weights-append : (w p l : List ℕ) → weights_after w (p ++ l) ≡ weights_after (weights_after w p) l
unfolding weights_after
weights-append w p l = foldl-append move w p l

-- what every entry keeps, every log keeps
weights-keep : {A : Type 0} (f : List ℕ → A) → ((w : List ℕ) (e : ℕ) → f (move w e) ≡ f w) → (w l : List ℕ) → f (weights_after w l) ≡ f w
unfolding weights_after
weights-keep f h w [] = refl
weights-keep f h w (e ∷ l) = weights-keep f h (move w e) l ∙ h w e

pub weights-length : (w l : List ℕ) → length (weights_after w l) ≡ length w
weights-length = weights-keep length move-length

pub weights-total : (w l : List ℕ) → total (weights_after w l) ≡ total w
weights-total = weights-keep total move-total

pub weights-most : (w l : List ℕ) → all_b is_weight w ≡ true → all_b is_weight (weights_after w l) ≡ true
unfolding weights_after
weights-most w [] p = p
weights-most w (e ∷ l) p = weights-most (move w e) l (move-most w e p)

pub weights-rest : (n : ℕ) (w l : List ℕ) → all_b (is_entry n) l ≡ true → drop n (weights_after w l) ≡ drop n w
unfolding weights_after all_b
weights-rest n w [] p = refl
weights-rest n w (e ∷ l) p = weights-rest n (move w e) l (both-1 _ _ p) ∙ move-rest n w e (both-0 _ _ p)

pub weights-zero : (n : ℕ) (w l : List ℕ) → all_b (is_entry n) l ≡ true → all_b (eqb 0) (drop n w) ≡ true → all_b (eqb 0) (drop n (weights_after w l)) ≡ true
weights-zero n w l p z = rw (weights-rest n w l p) z
