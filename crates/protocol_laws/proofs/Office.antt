-- What each call does to the paths of one office. Assumes nothing.
use mathlib.Core.Path.{◌≡◌, refl, sym, ap, ◌∙◌}
use mathlib.Core.List.{List, [], ◌∷◌, ◌++◌, map, append-nil, append_assoc}
use Rattle.std.specs.Prelude.{Option, None, Some}
use mathlib.Core.Logic.{◌⊎◌, inl, inr}
use Prim.Native.Nat.{ℕ, zero, suc, ◌<◌}
use native.Mathlib.Omega.{arith}
use lib.Dec.{eqb}
use lib.ListN.{length, get_or, set, drop}
use borrow.Author.Tests.{eqb-true, eqb-false}
use Rattle.protocol.specs.Beginning.{◌⊑◌, ◌⊏◌, extends}
use Rattle.protocol.specs.Vote.{Rule}
use Rattle.protocol.specs.Office.{Office, Message, tail, path, votes, fresh}
use Rattle.protocol.specs.Issue.{with_issue}
use Rattle.protocol.specs.Take.{rebased, rebase, catch_up, adopt, adopts, adopting, offers, with_take}
use Rattle.protocol.specs.Elect.{lose, settle, next, electing, with_elect}
use Rattle.lists.proofs.Tests.{if-cases, get_d_replicate}
use Rattle.protocol_laws.proofs.Beginning.{⊑_refl, ⊑_trans, ⊏-⊑, ⊑-⊏-trans, ⊏-⊑-trans, ⊏-irrefl, ⊑-append, ⊑-rest, snoc-⊏, snoc-same, snoc-⊑, extends-true, extends-false}

-- lists: an element after `set`, and after `map`
abbrev pub SetCases : {A : Type 0} → List A → ℕ → A → A → ℕ → Type 0
SetCases l k a d j = (get_or (set l k a) j d ≡ get_or l j d) ⊎ ((j ≡ k) × (k < length l) × (get_or (set l k a) j d ≡ a))

pub set_cases : {A : Type 0} (l : List A) (k : ℕ) (a d : A) (j : ℕ) → SetCases l k a d j
set_cases [] k a d j = inl refl
set_cases (x ∷ l) zero a d zero = inr (refl, omega arith, refl)
set_cases (x ∷ l) zero a d (suc j) = inl refl
set_cases (x ∷ l) (suc k) a d zero = inl refl
set_cases (x ∷ l) (suc k) a d (suc j) = up (set_cases l k a d j)
  where
    up : SetCases l k a d j → SetCases (x ∷ l) (suc k) a d (suc j)
    up (inl e) = inl e
    up (inr h) = inr (ap suc h.0, omega (arith, h.1), h.2)

map_at : (f : List ℕ → List ℕ) → f [] ≡ [] → (ts : List (List ℕ)) (j : ℕ) → get_or (map f ts) j [] ≡ f (get_or ts j [])
map_at f e [] j = sym e
map_at f e (t ∷ ts) zero = refl
map_at f e (t ∷ ts) (suc j) = map_at f e ts j

-- a path q under a new log: it stays, or it becomes the log, and then it did not extend it
abbrev pub PathUnder : List ℕ → List ℕ → List ℕ → Type 0
PathUnder l q p = (p ≡ q) ⊎ ((p ≡ l) × (l ⊏ q → ⊥))

rebased-path : (old new t : List ℕ) → PathUnder new (old ++ t) (new ++ rebased old new t)
rebased-path old new t =
    if-cases (λ r. PathUnder new (old ++ t) (new ++ r)) (extends (old ++ t) new) (drop (length new) (old ++ t)) []
    (λ e. inl (⊑-rest new (old ++ t) (⊏-⊑ new (old ++ t) (extends-true (old ++ t) new e))))
    (λ e. inr (append-nil new, extends-false (old ++ t) new e))

pub rebased-nil : (old new : List ℕ) → old ⊑ new → rebased old new [] ≡ []
rebased-nil old new p =
    if-cases (λ r. r ≡ []) (extends (old ++ []) new) (drop (length new) (old ++ [])) []
    (λ e. absurd (⊏-irrefl new (⊏-⊑-trans new old new (rw append-nil at (extends-true (old ++ []) new e)) p)))
    (λ e. refl)

pub rebase-path : (new : List ℕ) (o : Office) (j : ℕ) → o.log ⊑ new → PathUnder new (path o j) (path (rebase new o) j)
unfolding rebase
rebase-path new o j p =
    rw (map_at (rebased o.log new) (rebased-nil o.log new p) o.tails j) (rebased-path o.log new (tail o j))

lose-path : (l : List ℕ) (e : ℕ) (t : List ℕ) → PathUnder (l ++ (e ∷ [])) (l ++ t) ((l ++ (e ∷ [])) ++ lose e t)
lose-path l e [] = inr (append-nil (l ++ (e ∷ [])), λ h. ⊏-irrefl l (rw append-nil at (snoc-⊏ l (l ++ []) e (⊏-⊑ (l ++ (e ∷ [])) (l ++ []) h))))
lose-path l e (x ∷ t) =
    if-cases (λ r. PathUnder (l ++ (e ∷ [])) (l ++ (x ∷ t)) ((l ++ (e ∷ [])) ++ r)) (eqb x e) t []
    (λ q. inl (append_assoc l (e ∷ []) t ∙ ap (λ (z : ℕ). l ++ (z ∷ t)) (sym (eqb-true x e q))))
    (λ q. inr (append-nil (l ++ (e ∷ [])), λ h. eqb-false x e q (sym (snoc-same l (l ++ (x ∷ t)) e x (⊏-⊑ (l ++ (e ∷ [])) (l ++ (x ∷ t)) h) (snoc-⊑ l x t)))))

pub settle-path : (e : ℕ) (o : Office) (j : ℕ) → PathUnder (o.log ++ (e ∷ [])) (path o j) (path (settle e o) j)
unfolding settle
settle-path e o j = rw (map_at (lose e) refl o.tails j) (lose-path o.log e (tail o j))

-- a path p that may take the offer q
abbrev pub Offered : List ℕ → List ℕ → List ℕ → Type 0
Offered q p r = (r ≡ p) ⊎ ((p ⊏ q) × (r ≡ q))

adopt-path : (l t q : List ℕ) → Offered q (l ++ t) (l ++ adopt l t q)
adopt-path l t q =
    if-cases (λ r. Offered q (l ++ t) (l ++ r)) (extends q (l ++ t)) (drop (length l) q) t
    (λ e. inr (extends-true q (l ++ t) e, ⊑-rest l q (⊑_trans l (l ++ t) q (⊑-append l t) (⊏-⊑ (l ++ t) q (extends-true q (l ++ t) e)))))
    (λ e. inl refl)

adopts-path : (l : List ℕ) (ts : List (List ℕ)) (m : List ℕ) (qs : List (List ℕ)) (j : ℕ) → Offered (m ++ get_or qs j []) (l ++ get_or ts j []) (l ++ get_or (adopts l ts m qs) j [])
adopts-path l [] m qs j = inl refl
adopts-path l (t ∷ ts) m [] j = inl refl
adopts-path l (t ∷ ts) m (q ∷ qs) zero = adopt-path l t (m ++ q)
adopts-path l (t ∷ ts) m (q ∷ qs) (suc j) = adopts-path l ts m qs j

pub adopting-path : (l : List ℕ) (qs : List (List ℕ)) (o : Office) (j : ℕ) → Offered (l ++ get_or qs j []) (path o j) (path (adopting l qs o) j)
adopting-path l qs o j = adopts-path o.log o.tails l qs j

-- how a log l with a path p may move on: the log grows, and a path that still extends it grows
abbrev pub Moves : List ℕ → List ℕ → List ℕ → List ℕ → Type 0
Moves l p l' p' = (l ⊑ l') × (l' ⊏ p → p ⊑ p')

pub moves-refl : (l p : List ℕ) → Moves l p l p
moves-refl l p = (⊑_refl l, λ h. ⊑_refl p)

pub moves-trans : (l p l' p' l'' p'' : List ℕ) → Moves l p l' p' → Moves l' p' l'' p'' → Moves l p l'' p''
moves-trans l p l' p' l'' p'' a b = (
  ⊑_trans l l' l'' a.0 b.0,
  λ h. let s : p ⊑ p' = a.1 (⊑-⊏-trans l' l'' p b.0 h) in
      ⊑_trans p p' p'' s (b.1 (⊏-⊑-trans l'' p p' h s)),
)

under-moves : (l l' p p' : List ℕ) → l ⊑ l' → PathUnder l' p p' → Moves l p l' p'
under-moves l l' p p' a (inl e) = (a, λ h. rw e (⊑_refl p))
under-moves l l' p p' a (inr e) = (a, λ h. absurd (e.1 h))

offered-moves : (l q p r : List ℕ) → Offered q p r → Moves l p l r
offered-moves l q p r (inl e) = (⊑_refl l, λ h. rw e (⊑_refl p))
offered-moves l q p r (inr e) = (⊑_refl l, λ h. rw e.1 (⊏-⊑ p q e.0))

abbrev pub OfficeMoves : ℕ → Office → Office → Type 0
OfficeMoves j o o' = Moves o.log (path o j) o'.log (path o' j)

pub issue-path : (k e : ℕ) (o : Office) (j : ℕ) → (path (with_issue k e o) j ≡ path o j) ⊎ ((j ≡ k) × (path (with_issue k e o) j ≡ path o j ++ (e ∷ [])))
unfolding with_issue
issue-path k e o j = go (set_cases o.tails k (tail o k ++ (e ∷ [])) [] j)
  where
    -- office j's tail after the issue
    new : List ℕ
    new = get_or (set o.tails k (tail o k ++ (e ∷ []))) j []

    go : SetCases o.tails k (tail o k ++ (e ∷ [])) [] j → (o.log ++ new ≡ path o j) ⊎ ((j ≡ k) × (o.log ++ new ≡ path o j ++ (e ∷ [])))
    go (inl q) = inl (ap (λ (t : List ℕ). o.log ++ t) q)
    go (inr q) = inr (q.0, ap (λ (t : List ℕ). o.log ++ t) (q.2 ∙ ap (λ (i : ℕ). tail o i ++ (e ∷ [])) (sym q.0)) ∙ sym (append_assoc o.log (tail o j) (e ∷ [])))

pub issue-moves : (k e : ℕ) (o : Office) (j : ℕ) → OfficeMoves j o (with_issue k e o)
unfolding with_issue
issue-moves k e o j = (⊑_refl o.log, λ h. go (issue-path k e o j))
  where
    go : (path (with_issue k e o) j ≡ path o j) ⊎ ((j ≡ k) × (path (with_issue k e o) j ≡ path o j ++ (e ∷ []))) → path o j ⊑ path (with_issue k e o) j
    go (inl q) = rw q (⊑_refl (path o j))
    go (inr q) = rw q.1 (⊑-append (path o j) (e ∷ []))

pub catch_up-moves : (l : List ℕ) (o : Office) (j : ℕ) → OfficeMoves j o (catch_up l o)
unfolding catch_up
catch_up-moves l o j =
    if-cases (λ r. OfficeMoves j o r) (extends l o.log) (rebase l o) o
    (λ e. let h : o.log ⊑ l = ⊏-⊑ o.log l (extends-true l o.log e) in
    unfold rebase in under-moves o.log l (path o j) (path (rebase l o) j) h (rebase-path l o j h))
    (λ e. moves-refl o.log (path o j))

pub take-moves : (k : ℕ) (m : Message) (o : Office) (j : ℕ) → OfficeMoves j o (with_take k m o)
unfolding with_take
take-moves k m o j =
    let l : List ℕ = m.state.log in
    let o₁ : Office = catch_up l o in
    moves-trans o.log (path o j) o₁.log (path o₁ j) o₁.log (path (adopting l (offers k m) o₁) j)
    (catch_up-moves l o j)
    (offered-moves o₁.log (l ++ get_or (offers k m) j []) (path o₁ j) (path (adopting l (offers k m) o₁) j) (adopting-path l (offers k m) o₁ j))

pub settle-moves : (e : ℕ) (o : Office) (j : ℕ) → OfficeMoves j o (settle e o)
unfolding settle
settle-moves e o j =
    under-moves o.log (o.log ++ (e ∷ [])) (path o j) (path (settle e o) j) (⊑-append o.log (e ∷ [])) (settle-path e o j)

pub next-cases : (P : Office → Type 0) (r : Option ℕ) (o : Office) (go : ℕ → Office) → P o → ((e : ℕ) → r ≡ Some e → P (go e)) → P (next r o go)
next-cases P None o go a b = a
next-cases P (Some e) o go a b = b e refl

electing-moves : (rule : Rule) (fuel : ℕ) (o : Office) (j : ℕ) → OfficeMoves j o (electing rule fuel o)
unfolding electing
electing-moves rule zero o j = moves-refl o.log (path o j)
electing-moves rule (suc fuel) o j =
    next-cases (λ r. OfficeMoves j o r) (rule o.log (votes o)) o (λ e. electing rule fuel (settle e o))
    (moves-refl o.log (path o j))
    (λ e q. moves-trans o.log (path o j) (settle e o).log (path (settle e o) j) (electing rule fuel (settle e o)).log (path (electing rule fuel (settle e o)) j)
    (settle-moves e o j) (electing-moves rule fuel (settle e o) j))

pub elect-moves : (rule : Rule) (o : Office) (j : ℕ) → OfficeMoves j o (with_elect rule o)
unfolding with_elect
elect-moves rule o j = electing-moves rule _ o j

-- a fresh office's paths are empty
pub fresh-path : (j : ℕ) → path fresh j ≡ []
fresh-path j = get_d_replicate 8 [] j
