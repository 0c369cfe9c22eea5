-- The calls of document 01 at an office look at a log only past what two logs share: with p before every log, each of them does the same.
--     extends-behind, begins-behind          the tests on `p ++ a` and `p ++ b`
--     issue-whole, take_whole, elect-whole   issue, take and elect on whole states
--     refuse-whole                           take's number
--     append-same                            two lists in parts of equal lengths
-- Assumes nothing.
use mathlib.Core.Path.{◌≡◌, refl, ap, ap₂, ◌∙◌}
use mathlib.Core.List.{List, [], ◌∷◌, ◌++◌, map, append_assoc}
use Rattle.std.specs.Prelude.{Option, None, Some}
use mathlib.Core.Bool.{Bool, true, false, ◌||◌, ◌&&◌, cond}
use Prim.Native.Nat.{ℕ, zero, suc}
use native.Mathlib.Omega.{arith}
use lib.Dec.{eqb}
use lib.ListN.{length, drop, length-append}
use lib.Seq.{drop-append-add}
use borrow.Author.Tests.{eq-eqb}
use Rattle.protocol.specs.Beginning.{begins, extends}
use Rattle.protocol.specs.Vote.{Rule}
use Rattle.protocol.specs.Office.{Office, Message, votes}
use Rattle.protocol.specs.Issue.{with_issue}
use Rattle.protocol.specs.Take.{rebased, rebase, catch_up, adopt, adopts, adopting, offers, with_take, refuse_take}
use Rattle.protocol.specs.Elect.{settle, next, electing, tail_entries, with_elect}
use Rattle.protocol.proofs.FoldedWorld.{whole}

-- a message with p before its log
abbrev pub whole_in : List ℕ → Message → Message
whole_in p m = record { sender = m.sender; state = whole p m.state }

-- the rule for the part of a log that stands behind p
abbrev pub behind : List ℕ → Rule → Rule
behind p rule l v = rule (p ++ l) v

begins-behind : (p a b : List ℕ) → begins (p ++ a) (p ++ b) ≡ begins a b
unfolding begins
begins-behind [] a b = refl
begins-behind (x ∷ p) a b = ap (λ (t : Bool). t && begins (p ++ a) (p ++ b)) (eq-eqb x x refl) ∙ begins-behind p a b

extends-behind : (p b a : List ℕ) → extends (p ++ b) (p ++ a) ≡ extends b a
unfolding extends
extends-behind [] b a = refl
extends-behind (x ∷ p) b a = ap (λ (t : Bool). t && extends (p ++ b) (p ++ a)) (eq-eqb x x refl) ∙ extends-behind p b a

drop-behind : (p l q : List ℕ) → drop (length (p ++ l)) (p ++ q) ≡ drop (length l) q
drop-behind p l q = rw (length-append p l) (drop-append-add p q (length l))

-- ── take ──
rebased-whole : (p old new t : List ℕ) → rebased (p ++ old) (p ++ new) t ≡ rebased old new t
rebased-whole p old new t =
    ap (λ (q : List ℕ). cond (extends q (p ++ new)) (drop (length (p ++ new)) q) []) (append_assoc p old t)
    ∙ ap₂ (λ (b : Bool) (r : List ℕ). cond b r []) (extends-behind p (old ++ t) new) (drop-behind p new (old ++ t))

all-rebased : (p old new : List ℕ) (ts : List (List ℕ)) → map (rebased (p ++ old) (p ++ new)) ts ≡ map (rebased old new) ts
all-rebased p old new [] = refl
all-rebased p old new (t ∷ ts) = ap₂ (λ (x : List ℕ) (l : List (List ℕ)). x ∷ l) (rebased-whole p old new t) (all-rebased p old new ts)

cond-whole : (p : List ℕ) (t : Bool) (a b : Office) → cond t (whole p a) (whole p b) ≡ whole p (cond t a b)
cond-whole p true a b = refl
cond-whole p false a b = refl

catch_up-whole : (p new : List ℕ) (o : Office) → catch_up (p ++ new) (whole p o) ≡ whole p (catch_up new o)
unfolding catch_up rebase
catch_up-whole p new o =
    ap₂ (λ (t : Bool) (ts : List (List ℕ)). cond t (record { log = p ++ new; tails = ts }) (whole p o)) (extends-behind p new o.log) (all-rebased p o.log new o.tails)
    ∙ cond-whole p (extends new o.log) (rebase new o) o

adopt-whole : (p l t m q : List ℕ) → adopt (p ++ l) t ((p ++ m) ++ q) ≡ adopt l t (m ++ q)
adopt-whole p l t m q =
    ap₂ (λ (a b : List ℕ). cond (extends a b) (drop (length (p ++ l)) a) t) (append_assoc p m q) (append_assoc p l t)
    ∙ ap₂ (λ (b : Bool) (r : List ℕ). cond b r t) (extends-behind p (m ++ q) (l ++ t)) (drop-behind p l (m ++ q))

adopts-whole : (p l : List ℕ) (ts : List (List ℕ)) (m : List ℕ) (qs : List (List ℕ)) → adopts (p ++ l) ts (p ++ m) qs ≡ adopts l ts m qs
adopts-whole p l [] m qs = refl
adopts-whole p l (t ∷ ts) m [] = refl
adopts-whole p l (t ∷ ts) m (q ∷ qs) = ap₂ (λ (x : List ℕ) (r : List (List ℕ)). x ∷ r) (adopt-whole p l t m q) (adopts-whole p l ts m qs)

pub take_whole : (p : List ℕ) (k : ℕ) (m : Message) (o : Office) → with_take k (whole_in p m) (whole p o) ≡ whole p (with_take k m o)
unfolding with_take
take_whole p k m o =
    let l : List ℕ = m.state.log in
    let o₁ : Office = catch_up l o in
    ap (λ (x : Office). adopting (p ++ l) (offers k m) x) (catch_up-whole p l o)
    ∙ ap (λ (ts : List (List ℕ)). record { log = p ++ o₁.log; tails = ts }) (adopts-whole p o₁.log o₁.tails l (offers k m))

pub refuse-whole : (p : List ℕ) (k : ℕ) (m : Message) (o : Office) → refuse_take k (whole_in p m) (whole p o) ≡ refuse_take k m o
unfolding refuse_take
refuse-whole p k m o =
    ap₂ (λ (a b : Bool). cond (eqb m.sender k) 9 (cond (a || b) 0 10)) (begins-behind p o.log m.state.log) (begins-behind p m.state.log o.log)

-- ── issue and elect ──
pub issue-whole : (p : List ℕ) (k e : ℕ) (o : Office) → with_issue k e (whole p o) ≡ whole p (with_issue k e o)
unfolding with_issue
issue-whole p k e o = refl

settle-whole : (p : List ℕ) (e : ℕ) (o : Office) → settle e (whole p o) ≡ whole p (settle e o)
unfolding settle
settle-whole p e o = ap (λ (l : List ℕ). record { log = l; tails = (settle e o).tails }) (append_assoc p o.log (e ∷ []))

electing-whole : (p : List ℕ) (rule : Rule) (fuel : ℕ) (o : Office) → electing rule fuel (whole p o) ≡ whole p (electing (behind p rule) fuel o)
unfolding electing
electing-whole p rule zero o = refl
electing-whole p rule (suc fuel) o = go (rule (p ++ o.log) (votes o)) (λ e. ap (electing rule fuel) (settle-whole p e o) ∙ electing-whole p rule fuel (settle e o))
  where
    go : (r : Option ℕ) → ((e : ℕ) → electing rule fuel (settle e (whole p o)) ≡ whole p (electing (behind p rule) fuel (settle e o)))
        → next r (whole p o) (λ e. electing rule fuel (settle e (whole p o))) ≡ whole p (next r o (λ e. electing (behind p rule) fuel (settle e o)))
    go None h = refl
    go (Some e) h = h e

pub elect-whole : (p : List ℕ) (rule : Rule) (o : Office) → with_elect rule (whole p o) ≡ whole p (with_elect (behind p rule) o)
unfolding with_elect
elect-whole p rule o = electing-whole p rule (tail_entries o.tails) o

-- ── back from whole logs ──
pub append-same : (p q a b : List ℕ) → length p ≡ length q → p ++ a ≡ q ++ b → (p ≡ q) × (a ≡ b)
append-same [] [] a b h e = (refl, e)
append-same [] (y ∷ q) a b h e = absurd (omega arith)
append-same (x ∷ p) [] a b h e = absurd (omega arith)
append-same (x ∷ p) (y ∷ q) a b h e =
    let head : x ≡ y = cc in
    let rest : p ++ a ≡ q ++ b = cc in
    let r = append-same p q a b (omega arith) rest in
    (ap₂ (λ (z : ℕ) (l : List ℕ). z ∷ l) head r.0, r.1)
