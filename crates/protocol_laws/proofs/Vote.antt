-- The winning rule: at most one entry wins, a winner stays one when more votes are heard, and a winner is supported; and `winner` computes it.
--     wins-unique, wins-grows, wins-voted      what the one order rests on
--     winner-some, winner-none                 `winner` says the entry that wins, and none exactly where no entry wins
-- Assumes nothing.
use mathlib.Core.Path.{◌≡◌, refl, sym, ap, subst, ◌∙◌}
use mathlib.Core.List.{List, [], ◌∷◌}
use Rattle.std.specs.Prelude.{Option, None, Some}
use Rattle.std.proofs.lemmas.Option.{same_Some, none-some}
use mathlib.Core.Bool.{Bool, true, false, ◌&&◌, ◌||◌, cond, true≢false}
use mathlib.Core.Logic.{◌⊎◌, inl, inr, ◌↔◌}
use Prim.Native.Nat.{ℕ, zero, suc, ◌+◌, ◌≤◌, ◌<◌}
use native.Mathlib.Nat.{le_of_suc-le-suc, not-suc-le-zero}
use native.Mathlib.Decide.{ℕ_discrete, dec_lt}
use native.Mathlib.Omega.{arith}
use lib.Dec.{eqb, ltb}
use lib.ListN.{length}
use borrow.Author.Tests.{eqb-true, ltb-true, eq-eqb, lt-ltb}
use Rattle.protocol.specs.Vote.{Votes, later, is_for, is_none, tally, unheard, and-also, supported, beats, beats_all, wins, first_winner, winner, Rule, by_log}
use Rattle.protocol.specs.Winning.{Supported, Beats, Wins, Asymmetric}
use Rattle.lists.proofs.Tests.{and-true, and-of, or-true, or_right}

-- more votes are heard, and none is changed
abbrev pub Grows : Votes → Votes → Type 0
Grows v v' = (k x : ℕ) → v k ≡ Some x → v' k ≡ Some x

-- one office's part of the sums, before and after
part_up : (w e : ℕ) (a b : Option ℕ) → ((x : ℕ) → a ≡ Some x → b ≡ Some x) → cond (is_for e a) w 0 ≤ cond (is_for e b) w 0
part_up w e None b h = omega arith
part_up w e (Some x) b h = rw (h x refl) (omega arith)

part-down : (w e : ℕ) (a b : Option ℕ) → ((x : ℕ) → a ≡ Some x → b ≡ Some x) → cond (is_for e b) w 0 + cond (is_none b) w 0 ≤ cond (is_for e a) w 0 + cond (is_none a) w 0
part-down w e None None h = omega arith
part-down w e None (Some y) h = go (eqb y e)
  where
    go : (t : Bool) → cond t w 0 + 0 ≤ 0 + w
    go true = omega arith
    go false = omega arith
part-down w e (Some x) b h = rw (h x refl) (omega arith)

part_none : (w : ℕ) (a b : Option ℕ) → ((x : ℕ) → a ≡ Some x → b ≡ Some x) → cond (is_none b) w 0 ≤ cond (is_none a) w 0
part_none w None None h = omega arith
part_none w None (Some y) h = omega arith
part_none w (Some x) b h = rw (h x refl) (omega arith)

tally-up : (ws : List ℕ) (v v' : Votes) (e : ℕ) → Grows v v' → tally ws v e ≤ tally ws v' e
unfolding tally
tally-up [] v v' e g = omega arith
tally-up (w ∷ ws) v v' e g =
    omega (arith, part_up w e (v 0) (v' 0) (g 0), tally-up ws (later v) (later v') e (λ k. g (suc k)))

both-down : (ws : List ℕ) (v v' : Votes) (f : ℕ) → Grows v v' → tally ws v' f + unheard ws v' ≤ tally ws v f + unheard ws v
unfolding tally unheard
both-down [] v v' f g = omega arith
both-down (w ∷ ws) v v' f g =
    omega (arith, part-down w f (v 0) (v' 0) (g 0), both-down ws (later v) (later v') f (λ k. g (suc k)))

unheard-down : (ws : List ℕ) (v v' : Votes) → Grows v v' → unheard ws v' ≤ unheard ws v
unfolding unheard
unheard-down [] v v' g = omega arith
unheard-down (w ∷ ws) v v' g =
    omega (arith, part_none w (v 0) (v' 0) (g 0), unheard-down ws (later v) (later v') (λ k. g (suc k)))

-- what has weight is supported
pub tally-voted : (ws : List ℕ) (v : Votes) (e : ℕ) → 0 < tally ws v e → Supported ws v e
unfolding tally
tally-voted [] v e h = absurd (not-suc-le-zero h)
tally-voted (w ∷ ws) v e h = go (λ a. tally-voted ws (later v) e a) (v 0) refl h
  where
    Goal : Type 0
    Goal = (k : ℕ) × (k < suc (length ws)) × (v k ≡ Some e)

    IH : Type 0
    IH = 0 < tally ws (later v) e → (k : ℕ) × (k < length ws) × (v (suc k) ≡ Some e)

    rest : IH → 0 < 0 + tally ws (later v) e → Goal
    rest ih a = let r = ih (omega arith) in (suc r.0, omega (arith, r.1), r.2)

    here : IH → (x : ℕ) → v 0 ≡ Some x → (t : Bool) → eqb x e ≡ t → 0 < cond t w 0 + tally ws (later v) e → Goal
    here ih x q true d a = (0, omega arith, q ∙ ap Some (eqb-true x e d))
    here ih x q false d a = rest ih a

    go : IH → (a : Option ℕ) → v 0 ≡ a → 0 < cond (is_for e a) w 0 + tally ws (later v) e → Goal
    go ih None q a = rest ih a
    go ih (Some x) q a = here ih x q (eqb x e) refl a

module _ (ws : List ℕ) (before : ℕ → ℕ → Bool) where
  -- ── the sentence ──
  pub wins-voted : (v : Votes) (e : ℕ) → Wins ws before v e → Supported ws v e
  wins-voted v e p = tally-voted ws v e (omega (arith, p.above))

  -- a winner beats every other entry, supported or not
  wins-all : (v : Votes) (e : ℕ) → Wins ws before v e → (f : ℕ) → (f ≡ e → ⊥) → Beats ws before v e f
  wins-all v e p f n = go (dec_lt 0 (tally ws v f))
    where
      go : Dec (0 < tally ws v f) → Beats ws before v e f
      go (yes a) = p.others f n (tally-voted ws v f a)
      go (no a) = inl (omega (arith, p.above))

  pub wins-unique : Asymmetric before → (v : Votes) (e f : ℕ) → Wins ws before v e → Wins ws before v f → e ≡ f
  wins-unique asym v e f p q = go (ℕ_discrete e f)
    where
      clash : Beats ws before v e f → Beats ws before v f e → ⊥
      clash (inl a) (inl b) = omega arith
      clash (inl a) (inr b) = omega arith
      clash (inr a) (inl b) = omega arith
      clash (inr a) (inr b) = asym e f a.1 b.1

      go : Dec (e ≡ f) → e ≡ f
      go (yes h) = h
      go (no n) = absurd (clash (wins-all v e p f (λ h. n (sym h))) (wins-all v f q e n))

  pub wins-grows : (v v' : Votes) (e : ℕ) → Grows v v' → Wins ws before v e → Wins ws before v' e
  wins-grows v v' e g p = record { above = omega (arith, up, unheard-down ws v v' g, p.above); others = λ f n _. go f (wins-all v e p f n) }
    where
      up : tally ws v e ≤ tally ws v' e
      up = tally-up ws v v' e g

      go : (f : ℕ) → Beats ws before v e f → Beats ws before v' e f
      go f (inl h) = inl (omega (arith, up, both-down ws v v' f g))
      go f (inr h) = tie (dec_lt (tally ws v' f + unheard ws v') (tally ws v' e))
        where
          tie : Dec (tally ws v' f + unheard ws v' < tally ws v' e) → Beats ws before v' e f
          tie (yes a) = inl a
          tie (no a) = inr (omega (arith, up, both-down ws v v' f g, h.0), h.1)

  -- ── the tests ──
  beats-true : (v : Votes) (e f : ℕ) → beats ws before v e f ≡ true → Beats ws before v e f
  beats-true v e f h = go (or-true _ _ h)
    where
      go : (ltb (tally ws v f + unheard ws v) (tally ws v e) ≡ true) ⊎ ((eqb (tally ws v e) (tally ws v f + unheard ws v) && before e f) ≡ true) → Beats ws before v e f
      go (inl a) = inl (ltb-true _ _ a)
      go (inr a) = inr (let b = and-true _ _ a in (eqb-true _ _ b.0, b.1))

  beats-of : (v : Votes) (e f : ℕ) → Beats ws before v e f → beats ws before v e f ≡ true
  beats-of v e f (inl h) = ap (λ (b : Bool). b || (eqb (tally ws v e) (tally ws v f + unheard ws v) && before e f)) (lt-ltb (tally ws v f + unheard ws v) (tally ws v e) h)
  beats-of v e f (inr h) =
      ap (λ (b : Bool). ltb (tally ws v f + unheard ws v) (tally ws v e) || b) (and-of _ _ (eq-eqb (tally ws v e) (tally ws v f + unheard ws v) h.0) h.1)
      ∙ or_right (ltb (tally ws v f + unheard ws v) (tally ws v e))

  -- every supported entry, of the offices us with the votes u
  all-beaten : (us : List ℕ) (v u : Votes) (e k f : ℕ) → k < length us → u k ≡ Some f → beats_all ws before v e (supported us u) ≡ true → (eqb f e || beats ws before v e f) ≡ true
  unfolding supported
  all-beaten [] v u e k f l q h = absurd (not-suc-le-zero l)
  all-beaten (w ∷ us) v u e zero f l q h = go (u 0) q h
    where
      go : (a : Option ℕ) → a ≡ Some f → beats_all ws before v e (and-also a (supported us (later u))) ≡ true → (eqb f e || beats ws before v e f) ≡ true
      go None q h = absurd (none-some f q)
      go (Some x) q h =
          subst (λ (z : ℕ). (eqb z e || beats ws before v e z) ≡ true) (same_Some x f q) (and-true _ _ h).0
  all-beaten (w ∷ us) v u e (suc k) f l q h = all-beaten us v (later u) e k f (le_of_suc-le-suc l) q (go (u 0) h)
    where
      go : (a : Option ℕ) → beats_all ws before v e (and-also a (supported us (later u))) ≡ true → beats_all ws before v e (supported us (later u)) ≡ true
      go None h = h
      go (Some x) h = (and-true (eqb x e || beats ws before v e x) (beats_all ws before v e (supported us (later u))) h).1

  beaten-all : (us : List ℕ) (v u : Votes) (e : ℕ) → ((f : ℕ) → Supported us u f → (eqb f e || beats ws before v e f) ≡ true) → beats_all ws before v e (supported us u) ≡ true
  unfolding supported
  beaten-all [] v u e h = refl
  beaten-all (w ∷ us) v u e h = go (u 0) refl (beaten-all us v (later u) e (λ f s. h f (suc s.0, omega (arith, s.1), s.2)))
    where
      go : (a : Option ℕ) → u 0 ≡ a → beats_all ws before v e (supported us (later u)) ≡ true → beats_all ws before v e (and-also a (supported us (later u))) ≡ true
      go None q r = r
      go (Some x) q r = and-of _ _ (h x (0, omega arith, q)) r

  pub wins-true : (v : Votes) (e : ℕ) → wins ws before v e ≡ true → Wins ws before v e
  unfolding wins
  wins-true v e h = record { above = ltb-true _ _ parts.0; others = λ f n s. beats-true v e f (named f n (or-true _ _ (all-beaten ws v v e s.0 f s.1 s.2 parts.1))) }
    where
      parts : (ltb (unheard ws v) (tally ws v e) ≡ true) × (beats_all ws before v e (supported ws v) ≡ true)
      parts = and-true (ltb (unheard ws v) (tally ws v e)) (beats_all ws before v e (supported ws v)) h

      named : (f : ℕ) → (f ≡ e → ⊥) → (eqb f e ≡ true) ⊎ (beats ws before v e f ≡ true) → beats ws before v e f ≡ true
      named f n (inl a) = absurd (n (eqb-true f e a))
      named f n (inr a) = a

  pub wins-of : (v : Votes) (e : ℕ) → Wins ws before v e → wins ws before v e ≡ true
  unfolding wins
  wins-of v e p = and-of _ _ (lt-ltb (unheard ws v) (tally ws v e) p.above) (beaten-all ws v v e (λ f s. each f s (ℕ_discrete f e)))
    where
      each : (f : ℕ) → Supported ws v f → Dec (f ≡ e) → (eqb f e || beats ws before v e f) ≡ true
      each f s (yes d) = ap (λ (b : Bool). b || beats ws before v e f) (eq-eqb f e d)
      each f s (no d) = ap (λ (b : Bool). eqb f e || b) (beats-of v e f (p.others f d s)) ∙ or_right (eqb f e)

  -- ── the first supported entry that wins ──
  first-wins : (fs : List ℕ) (v : Votes) (e : ℕ) → first_winner ws before v fs ≡ Some e → wins ws before v e ≡ true
  first-wins [] v e h = absurd (none-some e h)
  first-wins (f ∷ fs) v e h = go (wins ws before v f) refl h (first-wins fs v e)
    where
      go : (t : Bool) → wins ws before v f ≡ t → cond t (Some f) (first_winner ws before v fs) ≡ Some e → (first_winner ws before v fs ≡ Some e → wins ws before v e ≡ true) → wins ws before v e ≡ true
      go true q a ih = ap (wins ws before v) (sym (same_Some f e a)) ∙ q
      go false q a ih = ih a

  -- where no winner is found, no entry of the offices us wins
  none-wins : (us : List ℕ) (v u : Votes) (e : ℕ) → Supported us u e → first_winner ws before v (supported us u) ≡ None → wins ws before v e ≡ false
  unfolding supported
  none-wins [] v u e s h = absurd (not-suc-le-zero s.1)
  none-wins (w ∷ us) v u e s h = go (none-wins us v (later u) e) (u 0) refl s.0 s.1 s.2 h
    where
      skip : (x : ℕ) (t : Bool) → wins ws before v x ≡ t → cond t (Some x) (first_winner ws before v (supported us (later u))) ≡ None
          → (wins ws before v x ≡ false) × (first_winner ws before v (supported us (later u)) ≡ None)
      skip x true q h = absurd (none-some x (sym h))
      skip x false q h = (q, h)

      go : (Supported us (later u) e → first_winner ws before v (supported us (later u)) ≡ None → wins ws before v e ≡ false)
          → (a : Option ℕ) → u 0 ≡ a → (k : ℕ) → k < suc (length us) → u k ≡ Some e → first_winner ws before v (and-also a (supported us (later u))) ≡ None → wins ws before v e ≡ false
      go ih None q zero l r h = absurd (none-some e (sym q ∙ r))
      go ih None q (suc k) l r h = ih (k, le_of_suc-le-suc l, r) h
      go ih (Some x) q zero l r h = ap (wins ws before v) (sym (same_Some x e (sym q ∙ r))) ∙ (skip x (wins ws before v x) refl h).0
      go ih (Some x) q (suc k) l r h = ih (k, le_of_suc-le-suc l, r) (skip x (wins ws before v x) refl h).1

  pub winner-wins : (v : Votes) (e : ℕ) → winner ws before v ≡ Some e → Wins ws before v e
  unfolding winner
  winner-wins v e h = wins-true v e (first-wins (supported ws v) v e h)

  pub winner-voted : (v : Votes) (e : ℕ) → winner ws before v ≡ Some e → Supported ws v e
  winner-voted v e h = wins-voted v e (winner-wins v e h)

  no-winner : (v : Votes) → winner ws before v ≡ None → (e : ℕ) → Wins ws before v e → ⊥
  unfolding winner
  no-winner v h e p = true≢false (sym (wins-of v e p) ∙ none-wins ws v v e (wins-voted v e p) h)

  -- "until no entry wins"
  pub winner-none : (v : Votes) → (winner ws before v ≡ None) ↔ ((e : ℕ) → Wins ws before v e → ⊥)
  winner-none v = (no-winner v, λ h. go h (winner ws before v) refl)
    where
      go : ((e : ℕ) → Wins ws before v e → ⊥) → (r : Option ℕ) → winner ws before v ≡ r → winner ws before v ≡ None
      go h None q = q
      go h (Some e) q = absurd (h e (winner-wins v e q))

  -- `winner` says e exactly where e wins
  pub winner-some : Asymmetric before → (v : Votes) (e : ℕ) → (winner ws before v ≡ Some e) ↔ Wins ws before v e
  winner-some asym v e = (winner-wins v e, λ p. go p (winner ws before v) refl)
    where
      go : Wins ws before v e → (r : Option ℕ) → winner ws before v ≡ r → winner ws before v ≡ Some e
      go p None q = absurd (no-winner v q e p)
      go p (Some f) q = q ∙ ap Some (wins-unique asym v f e (winner-wins v f q) p)

-- a rule whose winner has a vote
abbrev pub NamesVoted : Rule → Type 0
NamesVoted rule = (l : List ℕ) (v : Votes) (e : ℕ) → rule l v ≡ Some e → (k : ℕ) × (v k ≡ Some e)

pub by_log-voted : (weights : List ℕ → List ℕ) (before : List ℕ → ℕ → ℕ → Bool) → NamesVoted (by_log weights before)
by_log-voted weights before l v e h = let s = winner-voted (weights l) (before l) v e h in (s.0, s.2)
