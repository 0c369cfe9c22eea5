-- "At most once for each issue". Each place of the order has an issue of its entry in the list, with what stands before it in view; a call is the issue of
-- one entry at one place, so different places have different calls; and different places that have a value are then at most as many as the calls that
-- issue it (`at-most-as-many`). Assumes nothing.
use mathlib.Core.Path.{◌≡◌, refl, sym, ap, ap₂, subst, ◌∙◌}
use mathlib.Core.List.{List, [], ◌∷◌, ◌++◌, map, append_assoc}
use mathlib.Core.Bool.{Bool, true, false, cond, false≢true}
use mathlib.Core.Logic.{◌⊎◌, inl, inr}
use Prim.Native.Nat.{ℕ, zero, suc, ◌+◌, ◌≤◌, ◌<◌}
use native.Mathlib.Omega.{arith}
use lib.Dec.{eqb}
use lib.ListN as L
use lib.ListN.{length, get_or, set, length-take}
use lib.Seq.{get_or-set_other}
use borrow.Author.Tests.{eqb-true, eq-eqb, lt-ltb}
use Rattle.lists.specs.Tests.{pick, times}
use Rattle.lists.proofs.Tests.{both_true}
use Rattle.protocol.specs.Beginning.{◌⊑◌, ◌⊏◌}
use Rattle.protocol.specs.Entry.{value, office_of, line_of, code_of}
use Rattle.protocol.specs.Office.{Office, path, tail}
use Rattle.protocol_laws.proofs.Beginning.{⊑-⊏-trans, ⊏-⊑-trans, ⊏-irrefl, ⊏-cons, ⊑-append}
use Rattle.protocol_laws.proofs.Office.{OfficeMoves}
use Rattle.agreement.specs.World.{World, Call, issue, number, step, after}
use Rattle.agreement.specs.Demand.{Founded, view_at, order, IssuedIn}
use Rattle.agreement.proofs.Demand.{one-order}
use Rattle.lost_for_good.specs.LostForGood.{issues_it, issues_of, AtMostOnce}
use Rattle.lost_for_good.proofs.Moves.{office_at, path-is, sound, list-moves, issue-view}
use Rattle.lost_for_good.proofs.LostForGood.{parts-value}

-- ── as many ──
-- how many of the tests hold
unfoldable trues : List Bool → ℕ
trues [] = 0
trues (t ∷ l) = pick t 1 0 + trues l

-- one fewer without one that holds
one_fewer : (l : List Bool) (i : ℕ) → get_or l i false ≡ true → trues l ≡ 1 + trues (set l i false)
unfolding trues pick
one_fewer [] i h = absurd (false≢true h)
one_fewer (t ∷ l) zero h = rw h (omega arith)
one_fewer (t ∷ l) (suc i) h = omega (arith, one_fewer l i h)

-- where each test that holds in one list has one that holds in the other, and no two have the same
at-most-as-many : (R : ℕ → ℕ → Type 0) → ((a b i : ℕ) → R a i → R b i → a ≡ b) → (l m : List Bool)
    → ((a : ℕ) → get_or l a false ≡ true → (i : ℕ) × (get_or m i false ≡ true) × R a i) → trues l ≤ trues m
unfolding trues pick
at-most-as-many R one [] m has = omega arith
at-most-as-many R one (false ∷ l) m has =
    omega (arith, at-most-as-many (λ (a i : ℕ). R (suc a) i) (λ a b i x y. omega (arith, one (suc a) (suc b) i x y)) l m (λ a h. has (suc a) h))
at-most-as-many R one (true ∷ l) m has =
    let first = has 0 refl in
    let i : ℕ = first.0 in
    let rest : trues l ≤ trues (set m i false) =
    at-most-as-many (λ (a j : ℕ). R (suc a) j) (λ a b j x y. omega (arith, one (suc a) (suc b) j x y)) l (set m i false) (λ a h.
    let x = has (suc a) h in
    (x.0, get_or-set_other m i x.0 false false (λ e. omega (arith, one 0 (suc a) i first.2 (subst (R (suc a)) e x.2))) ∙ x.1, x.2)) in
    omega (arith, one_fewer m i first.1)

-- ── the places of a value ──
one : (t : Bool) → cond t 1 0 ≡ pick {A = ℕ} t 1 0
unfolding pick
one true = refl
one false = refl

times-trues : (v : ℕ) (q : List ℕ) → times v q ≡ trues (map (eqb v) q)
unfolding times trues
times-trues v [] = refl
times-trues v (e ∷ q) = ap₂ (λ (x r : ℕ). x + r) (one (eqb v e)) (times-trues v q)

place_of : (v : ℕ) (q : List ℕ) (a : ℕ) → get_or (map (eqb v) q) a false ≡ true → (a < length q) × (get_or q a 0 ≡ v)
place_of v [] a h = absurd (false≢true h)
place_of v (e ∷ q) zero h = (omega arith, sym (eqb-true v e h))
place_of v (e ∷ q) (suc a) h = let r = place_of v q a h in (omega (arith, r.0), r.1)

-- ── the calls that issue it ──
unfoldable marks : World → List Call → ℕ → List Bool
marks w [] v = []
marks w (c ∷ cs) v = issues_it w v c ∷ marks (step w c) cs v

issues-trues : (w : World) (cs : List Call) (v : ℕ) → issues_of w cs v ≡ trues (marks w cs v)
unfolding issues_of trues marks
issues-trues w [] v = refl
issues-trues w (c ∷ cs) v = ap (λ (r : ℕ). pick (issues_it w v c) 1 0 + r) (issues-trues (step w c) cs v)

marked : (w : World) (a : List Call) (c : Call) (b : List Call) (v : ℕ) → get_or (marks w (a ++ (c ∷ b)) v) (length a) false ≡ issues_it (after w a) v c
unfolding marks after
marked w [] c b v = refl
marked w (d ∷ a) c b v = marked (step w d) a c b v

-- ── places of a list of calls ──
-- x follows the call c behind a
pub record Follows (a : List Call) (c : Call) (x : List Call) : Type 0 where
  pub between : List Call
  pub whole : a ++ (c ∷ between) ≡ x

which : (a b x y : List Call) (c d : Call) → a ++ (c ∷ b) ≡ x ++ (d ∷ y) → (a ≡ x) ⊎ (Follows a c x ⊎ Follows x d a)
which [] b [] y c d q = inl refl
which [] b (z ∷ x) y c d q = inr (inl (record { between = x; whole = cc }))
which (z ∷ a) b [] y c d q = inr (inr (record { between = a; whole = cc }))
which (z ∷ a) b (u ∷ x) y c d q = go (which a b x y c d (cc))
  where
    head : z ≡ u
    head = cc

    go : (a ≡ x) ⊎ (Follows a c x ⊎ Follows x d a) → (z ∷ a ≡ u ∷ x) ⊎ (Follows (z ∷ a) c (u ∷ x) ⊎ Follows (u ∷ x) d (z ∷ a))
    go (inl h) = inl (cc)
    go (inr (inl h)) = inr (inl (record { between = h.between; whole = cc (head, h.whole) }))
    go (inr (inr h)) = inr (inr (record { between = h.between; whole = cc (head, h.whole) }))

same-call : (a b y : List Call) (c d : Call) → a ++ (c ∷ b) ≡ a ++ (d ∷ y) → c ≡ d
same-call [] b y c d q = cc
same-call (z ∷ a) b y c d q = same-call a b y c d (cc)

-- two that are as far in are the same
as-far : (a b x y : List Call) → a ++ b ≡ x ++ y → length a ≡ length x → a ≡ x
as-far [] b [] y e h = refl
as-far [] b (z ∷ x) y e h = absurd (omega arith)
as-far (z ∷ a) b [] y e h = absurd (omega arith)
as-far (z ∷ a) b (u ∷ x) y e h = let r : a ≡ x = as-far a b x y (cc) (omega arith) in cc (r, e)

-- ── the issues of the list ──
-- the issue of an entry
abbrev call_for : ℕ → Call
call_for e = issue (office_of e) (line_of e) (code_of e)

same-entry : (e f : ℕ) → call_for e ≡ call_for f → e ≡ f
same-entry e f h =
    let k : office_of e ≡ office_of f = cc in
    let l : line_of e ≡ line_of f = cc in
    let c : code_of e ≡ code_of f = cc in
    sym (parts-value e) ∙ cc (k, l, c) ∙ parts-value f

module _ (n : ℕ) (ws : List ℕ) (start : World) (f : Founded n ws start) (cs : List Call) where
  one_place : (p q : List ℕ) (e g : ℕ) (i : IssuedIn start cs p e) (j : IssuedIn start cs q g) → i.earlier ≡ j.earlier → (p ≡ q) × (e ≡ g)
  one_place p q e g i j h =
      let listed : j.earlier ++ (call_for e ∷ i.later) ≡ j.earlier ++ (call_for g ∷ j.later) =
      ap (λ (a : List Call). a ++ (call_for e ∷ i.later)) (sym h) ∙ i.listed ∙ sym j.listed in
      let same : e ≡ g = same-entry e g (same-call j.earlier i.later j.later (call_for e) (call_for g) listed) in
      (sym i.exactly ∙ ap₂ (λ (a : List Call) (x : ℕ). view_at (after start a) (office_of x)) h same ∙ j.exactly, same)

  -- behind its issue the office never has what the entry was issued with in view again
  never-again : (p : List ℕ) (e : ℕ) (i : IssuedIn start cs p e) (x : List Call) → Follows i.earlier (call_for e) x
      → view_at (after start x) (office_of e) ≡ p → ⊥
  never-again p e i x b same =
      let k : ℕ = office_of e in
      let v : ℕ = value k (line_of e) (code_of e) in
      let a : List Call = i.earlier ++ (call_for e ∷ []) in
      let o : Office = office_at (after start a) k in
      let o' : Office = office_at (after start x) k in
      let now : path o k ≡ p ++ (v ∷ []) =
      path-is n ws (after start a) (sound n ws start f a) k ∙ (issue-view n ws start f i.earlier k (line_of e) (code_of e) i.there i.done).1
      ∙ ap (λ (l : List ℕ). l ++ (v ∷ [])) i.exactly in
      let then : path o' k ≡ p = path-is n ws (after start x) (sound n ws start f x) k ∙ same in
      let reach : a ++ b.between ≡ x = append_assoc i.earlier (call_for e ∷ []) b.between ∙ b.whole in
      let moves : OfficeMoves k o o' = subst (λ (l : List Call). OfficeMoves k o (office_at (after start l) k)) reach (list-moves n ws start f a b.between k) in
      let up : p ⊏ path o k = rw now (⊏-cons p v []) in
      let low : o'.log ⊑ p = subst (λ (l : List ℕ). o'.log ⊑ l) then (⊑-append o'.log (tail o' k)) in
      let down : path o k ⊑ p = subst (λ (l : List ℕ). path o k ⊑ l) then (moves.1 (⊑-⊏-trans o'.log p (path o k) low up)) in
      ⊏-irrefl p (⊏-⊑-trans p (path o k) p up down)

  one-issue : (p : List ℕ) (e g : ℕ) (i : IssuedIn start cs p e) (j : IssuedIn start cs p g) → office_of e ≡ office_of g → i.earlier ≡ j.earlier
  one-issue p e g i j h = go (which i.earlier i.later j.earlier j.later (call_for e) (call_for g) (i.listed ∙ sym j.listed))
    where
      go : (i.earlier ≡ j.earlier) ⊎ (Follows i.earlier (call_for e) j.earlier ⊎ Follows j.earlier (call_for g) i.earlier) → i.earlier ≡ j.earlier
      go (inl d) = d
      go (inr (inl b)) = absurd (never-again p e i j.earlier b (ap (view_at (after start j.earlier)) h ∙ j.exactly))
      go (inr (inr b)) = absurd (never-again p g j i.earlier b (ap (view_at (after start i.earlier)) (sym h) ∙ i.exactly))

  -- the issue of an entry is one of its value
  issues-it : (p : List ℕ) (e : ℕ) (i : IssuedIn start cs p e) → issues_it (after start i.earlier) e (call_for e) ≡ true
  unfolding issues_it
  issues-it p e i =
      let w : World = after start i.earlier in
      let known : office_of e < length w.replicas = omega (arith, i.there, f.offices, (sound n ws start f i.earlier).offices) in
      both_true _ _ (eq-eqb (value (office_of e) (line_of e) (code_of e)) e (parts-value e))
      (both_true _ _ (lt-ltb (office_of e) (length w.replicas) known) (eq-eqb (number w (call_for e)) 0 i.done))

  -- the order, and the issue of its place a
  abbrev whole : List ℕ
  whole = order start cs

  abbrev Placed : ℕ → Type 0
  Placed a = IssuedIn start cs (L.take a whole) (get_or whole a 0)

  -- call i of the list is that issue
  abbrev At : ℕ → ℕ → Type 0
  At a i = (a < length whole) × ((j : Placed a) × (length j.earlier ≡ i))

  one_at : (a b i : ℕ) → At a i → At b i → a ≡ b
  one_at a b i x y =
      let j : Placed a = x.1.0 in
      let m : Placed b = y.1.0 in
      let same : j.earlier ≡ m.earlier =
      as-far j.earlier (call_for (get_or whole a 0) ∷ j.later) m.earlier (call_for (get_or whole b 0) ∷ m.later) (j.listed ∙ sym m.listed) (x.1.1 ∙ sym y.1.1) in
      let places : L.take a whole ≡ L.take b whole = (one_place (L.take a whole) (L.take b whole) (get_or whole a 0) (get_or whole b 0) j m same).0 in
      omega (arith, x.0, y.0, simp length-take at (ap length places))

  found : (v a : ℕ) → get_or (map (eqb v) whole) a false ≡ true → (i : ℕ) × (get_or (marks start cs v) i false ≡ true) × At a i
  found v a h =
      let r = place_of v whole a h in
      let j : Placed a = (one-order n ws start f cs).issued a r.0 in
      let c : Call = call_for (get_or whole a 0) in
      let its : issues_it (after start j.earlier) v c ≡ true =
      subst (λ (x : ℕ). issues_it (after start j.earlier) x c ≡ true) r.1 (issues-it (L.take a whole) (get_or whole a 0) j) in
      let here : get_or (marks start cs v) (length j.earlier) false ≡ true =
      subst (λ (l : List Call). get_or (marks start l v) (length j.earlier) false ≡ true) j.listed (marked start j.earlier c j.later v ∙ its) in
      (length j.earlier, here, (r.0, (j, refl)))

  at_most : (v : ℕ) → times v whole ≤ issues_of start cs v
  at_most v = rw (times-trues v whole, issues-trues start cs v) (at-most-as-many At one_at (map (eqb v) whole) (marks start cs v) (found v))

pub at-most-once : (n : ℕ) (weights : List ℕ) (start : World) → Founded n weights start → (cs : List Call) → AtMostOnce start cs
at-most-once n ws start f cs = record { one_place = one_place n ws start f cs; one-issue = one-issue n ws start f cs; at_most = at_most n ws start f cs }
