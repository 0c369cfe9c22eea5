-- Take is a join. Of another office j an office holds a log and a path; ordered by `Moves`, what it holds after it took a message is the least that
-- both what it held and what the message holds may move on to.
--     take-moves (of Office), take-heard      both move on to it
--     take-least                              and it moves on to whatever both move on to
--     moves-same                              two that move on to each other are the same
-- Assumes nothing.
use mathlib.Core.Path.{◌≡◌, refl, sym, ap, subst, ◌∙◌}
use mathlib.Core.List.{List, [], ◌∷◌, ◌++◌, append-nil, append_cancel_left}
use mathlib.Core.Logic.{◌⊎◌, inl, inr}
use Prim.Native.Nat.{ℕ, zero, suc}
use native.Mathlib.Omega.{arith}
use lib.ListN.{length, get_or, length-set, length-map}
use lib.Seq.{get_or-set_other}
use Rattle.protocol.specs.Beginning.{◌⊑◌, ◌⊏◌, extends}
use Rattle.protocol.specs.Office.{Office, Message, tail, path}
use Rattle.protocol.specs.Take.{rebased, rebase, catch_up, adopt, adopts, offers, with_take}
use Rattle.lists.proofs.Tests.{if-cases}
use Rattle.protocol_laws.proofs.Beginning.{⊑_refl, ⊑_trans, ⊏-⊑, ⊑-⊏-trans, ⊏-⊑-trans, ⊏-irrefl, ⊑-cases, ⊑-antisym, ⊑-append, ⊑-rest, extends-true, extends-of}
use Rattle.protocol_laws.proofs.Limits.{catch_up-log}
use Rattle.protocol_laws.proofs.Office.{PathUnder, Offered, Moves, moves-trans, OfficeMoves, rebase-path, adopting-path, catch_up-moves}

pub office-trans : (j : ℕ) (a b c : Office) → OfficeMoves j a b → OfficeMoves j b c → OfficeMoves j a c
office-trans j a b c = moves-trans a.log (path a j) b.log (path b j) c.log (path c j)

-- ── least ──
under-least : (l p l' p' l'' p'' : List ℕ) → PathUnder l' p p' → l' ⊑ l'' → Moves l p l'' p'' → Moves l' p' l'' p''
under-least l p l' p' l'' p'' (inl e) h a = (h, λ x. rw e (a.1 (rw e at x)))
under-least l p l' p' l'' p'' (inr e) h a = (h, λ x. absurd (⊏-irrefl l'' (⊏-⊑-trans l'' l' l'' (subst (λ (z : List ℕ). l'' ⊏ z) e.0 x) h)))

offered-least : (l p q r l'' p'' : List ℕ) → Offered q p r → Moves l p l'' p'' → (l'' ⊏ q → q ⊑ p'') → Moves l r l'' p''
offered-least l p q r l'' p'' (inl e) a b = (a.0, λ x. rw e (a.1 (rw e at x)))
offered-least l p q r l'' p'' (inr e) a b = (a.0, λ x. rw e.1 (b (rw e.1 at x)))

catch_up-path : (l : List ℕ) (o : Office) (j : ℕ) → PathUnder (catch_up l o).log (path o j) (path (catch_up l o) j)
unfolding catch_up
catch_up-path l o j = if-cases (λ r. PathUnder r.log (path o j) (path r j)) (extends l o.log) (rebase l o) o
    (λ e. unfold rebase in rebase-path l o j (⊏-⊑ o.log l (extends-true l o.log e))) (λ _. inl refl)

catch_up-low : (l : List ℕ) (o : Office) (r : List ℕ) → o.log ⊑ r → l ⊑ r → (catch_up l o).log ⊑ r
unfolding catch_up rebase
catch_up-low l o r a b = if-cases (λ x. x.log ⊑ r) (extends l o.log) (rebase l o) o (λ _. b) (λ _. a)

pub catch_up-tails : (l : List ℕ) (o : Office) → length (catch_up l o).tails ≡ length o.tails
unfolding catch_up rebase
catch_up-tails l o = if-cases (λ r. length r.tails ≡ length o.tails) (extends l o.log) (rebase l o) o (λ _. length-map o.tails (rebased o.log l)) (λ _. refl)

-- ── heard: the offer is taken where it is longer ──
adopt-takes : (l t q : List ℕ) → (l ++ t) ⊏ q → l ++ adopt l t q ≡ q
adopt-takes l t q h = rw (extends-of q (l ++ t) h) (⊑-rest l q (⊑_trans l (l ++ t) q (⊑-append l t) (⊏-⊑ (l ++ t) q h)))

adopts-takes : (l : List ℕ) (ts : List (List ℕ)) (m : List ℕ) (qs : List (List ℕ)) (j : ℕ) → m ⊑ l → length ts ≡ length qs
    → (l ++ get_or ts j []) ⊏ (m ++ get_or qs j []) → l ++ get_or (adopts l ts m qs) j [] ≡ m ++ get_or qs j []
adopts-takes l [] m [] j h e x = absurd (⊏-irrefl m (⊑-⊏-trans m l m h (simp append-nil at x)))
adopts-takes l [] m (q ∷ qs) j h e x = absurd (omega arith)
adopts-takes l (t ∷ ts) m [] j h e x = absurd (omega arith)
adopts-takes l (t ∷ ts) m (q ∷ qs) zero h e x = adopt-takes l t (m ++ q) x
adopts-takes l (t ∷ ts) m (q ∷ qs) (suc j) h e x = adopts-takes l ts m qs j h (omega arith) x

-- what an office and a message hold of office j: as many ballots, comparable logs, and comparable paths where both extend them
pub record Comparable (j : ℕ) (o m : Office) : Type 0 where
  pub tails : length o.tails ≡ length m.tails
  pub logs : (o.log ⊑ m.log) ⊎ (m.log ⊑ o.log)
  pub paths : (l : List ℕ) → o.log ⊑ l → m.log ⊑ l → l ⊏ path o j → l ⊏ path m j → (path o j ⊑ path m j) ⊎ (path m j ⊑ path o j)

module _ (k : ℕ) (m : Message) (o : Office) (j : ℕ) (other : j ≡ k → ⊥) where
  -- the message offers its own ballot of j
  offer : get_or (offers k m) j [] ≡ tail m.state j
  offer = get_or-set_other m.state.tails k j (tail m.state m.sender) [] other

  offered : Offered (path m.state j) (path (catch_up m.state.log o) j) (path (with_take k m o) j)
  unfolding with_take
  offered = rw (← offer) (adopting-path m.state.log (offers k m) (catch_up m.state.log o) j)

  pub take-least : (r : Office) → OfficeMoves j o r → OfficeMoves j m.state r → OfficeMoves j (with_take k m o) r
  unfolding with_take
  take-least r a b = offered-least o₁.log (path o₁ j) (path m.state j) (path (with_take k m o) j) r.log (path r j) offered
      (under-least o.log (path o j) o₁.log (path o₁ j) r.log (path r j) (catch_up-path l o j) (catch_up-low l o r.log a.0 b.0) a) b.1
    where
      l : List ℕ
      l = m.state.log

      o₁ : Office
      o₁ = catch_up l o

  pub take-heard : Comparable j o m.state → OfficeMoves j m.state (with_take k m o)
  unfolding with_take
  take-heard c = (low, λ x. go x (⊑-cases o₁.log p (⊑-append o₁.log (tail o₁ j))))
    where
      l : List ℕ
      l = m.state.log

      o₁ : Office
      o₁ = catch_up l o

      p : List ℕ
      p = path o₁ j

      q : List ℕ
      q = path m.state j

      r : List ℕ
      r = path (with_take k m o) j

      low : l ⊑ o₁.log
      low = catch_up-log l o c.logs

      many : length o₁.tails ≡ length (offers k m)
      many = catch_up-tails l o ∙ c.tails ∙ sym (length-set m.state.tails k (tail m.state m.sender))

      -- the longer of two comparable paths is what is left
      shorter : p ⊏ q → q ⊑ r
      shorter h = rw taken (⊑_refl q)
        where
          taken : r ≡ q
          taken = rw (← offer) (adopts-takes o₁.log o₁.tails l (offers k m) j low many (rw offer h))

      longer : q ⊑ p → q ⊑ r
      longer h = ⊑_trans q p r h (up offered)
        where
          up : Offered q p r → p ⊑ r
          up (inl e) = rw e (⊑_refl p)
          up (inr e) = rw e.1 (⊏-⊑ p q e.0)

      comparable : (p ⊑ q) ⊎ (q ⊑ p) → q ⊑ r
      comparable (inl h) = at (⊑-cases p q h)
        where
          at : (p ≡ q) ⊎ (p ⊏ q) → q ⊑ r
          at (inl e) = longer (rw e (⊑_refl q))
          at (inr d) = shorter d
      comparable (inr h) = longer h

      -- a path that extends the new log is the old one
      old : o₁.log ⊏ p → PathUnder o₁.log (path o j) p → p ≡ path o j
      old d (inl e) = e
      old d (inr e) = absurd (⊏-irrefl o₁.log (subst (λ (z : List ℕ). o₁.log ⊏ z) e.0 d))

      go : o₁.log ⊏ q → (o₁.log ≡ p) ⊎ (o₁.log ⊏ p) → q ⊑ r
      go x (inl e) = shorter (subst (λ (z : List ℕ). z ⊏ q) e x)
      go x (inr d) =
          let e : p ≡ path o j = old d (catch_up-path l o j) in
          comparable (rw e (c.paths o₁.log (catch_up-moves l o j).0 low (rw e at d) x))

-- ── two that move on to each other are the same ──
pub moves-same : (j : ℕ) (r s : Office) → OfficeMoves j r s → OfficeMoves j s r → (r.log ≡ s.log) × (tail r j ≡ tail s j)
moves-same j r s a b = (log, append_cancel_left s.log (tail r j) (tail s j) (ap (λ (l : List ℕ). l ++ tail r j) (sym log) ∙ ⊑-antisym (path r j) (path s j) (up r s log a) (up s r (sym log) b)))
  where
    log : r.log ≡ s.log
    log = ⊑-antisym r.log s.log a.0 b.0

    up : (r s : Office) → r.log ≡ s.log → OfficeMoves j r s → path r j ⊑ path s j
    up r s e a = go (⊑-cases r.log (path r j) (⊑-append r.log (tail r j)))
      where
        go : (r.log ≡ path r j) ⊎ (r.log ⊏ path r j) → path r j ⊑ path s j
        go (inl d) = subst (λ (z : List ℕ). z ⊑ path s j) (sym e ∙ d) (⊑-append s.log (tail s j))
        go (inr d) = a.1 (subst (λ (z : List ℕ). z ⊏ path r j) e d)
