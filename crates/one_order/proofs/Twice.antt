-- Request (vi) at one office, whatever its state: a message taken twice and an election held twice do what once does.
--     take_twice         a message that is accepted is accepted again, and changes nothing then
--     elect-twice        electing again settles nothing and leaves the office as it is
--     accepts            the converse of `take_done`: a message of another office whose log is comparable is accepted
-- Assumes nothing.
use mathlib.Core.Path.{◌≡◌, refl, ap, ap₂, ◌∙◌}
use mathlib.Core.List.{List, [], ◌∷◌, ◌++◌}
use mathlib.Core.Bool.{Bool, true, false, cond}
use mathlib.Core.Logic.{◌⊎◌, inl, inr}
use Prim.Native.Nat.{ℕ}
use native.Mathlib.Omega.{arith}
use lib.ListN.{length, drop}
use borrow.Author.Tests.{eq-eqb, ne_eqb}
use Rattle.protocol.specs.Beginning.{◌⊑◌, comparable, extends}
use Rattle.protocol.specs.Vote.{Rule}
use Rattle.protocol.specs.Office.{Office, Message}
use Rattle.protocol.specs.Take.{rebase, catch_up, adopt, adopts, adopting, offers, with_take, refuse_take}
use Rattle.protocol.specs.Elect.{with_elect, elect_count}
use Rattle.lists.proofs.Tests.{if-cases, or_right}
use Rattle.protocol_laws.proofs.Beginning.{begins-of}
use Rattle.protocol_laws.proofs.Elect.{elect-none, elect-stops}
use Rattle.protocol_laws.proofs.Limits.{catch_up-log, TakeDone, take_done}
use Rattle.one_order.proofs.Lawful.{Lawful, lawful-voted}

-- ── take ──
-- no list extends itself
extends-self : (a : List ℕ) → extends a a ≡ false
unfolding extends
extends-self [] = refl
extends-self (x ∷ a) = rw (eq-eqb x x refl) (extends-self a)

-- step 1 leaves a log that the message's does not extend
caught-up : (l : List ℕ) (o : Office) → extends l (catch_up l o).log ≡ false
unfolding catch_up rebase
caught-up l o = if-cases (λ r. extends l r.log ≡ false) (extends l o.log) (rebase l o) o (λ _. extends-self l) (λ e. e)

-- steps 2 and 3: a ballot that took the offer is the offer, and one that did not still does not
adopt-twice : (l t q : List ℕ) → adopt l (adopt l t q) q ≡ adopt l t q
adopt-twice l t q = if-cases (λ r. adopt l r q ≡ r) (extends q (l ++ t)) rest t (λ _. either (extends q (l ++ rest))) (λ e. ap (λ (b : Bool). cond b rest t) e)
  where
    rest : List ℕ
    rest = drop (length l) q

    either : (b : Bool) → cond b rest rest ≡ rest
    either true = refl
    either false = refl

adopts-twice : (l : List ℕ) (ts : List (List ℕ)) (m : List ℕ) (qs : List (List ℕ)) → adopts l (adopts l ts m qs) m qs ≡ adopts l ts m qs
adopts-twice l [] m qs = refl
adopts-twice l (t ∷ ts) m [] = refl
adopts-twice l (t ∷ ts) m (q ∷ qs) = ap₂ (λ (x : List ℕ) (xs : List (List ℕ)). x ∷ xs) (adopt-twice l t (m ++ q)) (adopts-twice l ts m qs)

pub accepts : (k : ℕ) (m : Message) (o : Office) → TakeDone k m o → refuse_take k m o ≡ 0
unfolding refuse_take
accepts k m o d = rw (ne_eqb m.sender k d.other) (go d.comparable)
  where
    l : List ℕ
    l = m.state.log

    go : (o.log ⊑ l) ⊎ (l ⊑ o.log) → ◌≡◌ {A = ℕ} (cond (comparable o.log l) 0 10) 0
    go (inl h) = rw (begins-of o.log l h)
    go (inr h) = rw (begins-of l o.log h, or_right)

module _ (k : ℕ) (m : Message) (o : Office) (h : refuse_take k m o ≡ 0) where
  abbrev log : List ℕ
  log = m.state.log

  -- the office behind step 1
  abbrev caught : Office
  caught = catch_up log o

  abbrev once : Office
  once = with_take k m o

  accepted-again : refuse_take k m once ≡ 0
  unfolding with_take
  accepted-again = let d = take_done k m o h in accepts k m once (record { other = d.other; comparable = inr (catch_up-log log o d.comparable) })

  same-again : with_take k m once ≡ once
  unfolding with_take catch_up
  same-again =
      ap (λ (b : Bool). adopting log (offers k m) (cond b (rebase log once) once)) (caught-up log o)
      ∙ ap (λ (ts : List (List ℕ)). record { log = caught.log; tails = ts }) (adopts-twice caught.log caught.tails log (offers k m))

  pub take_twice : (refuse_take k m once ≡ 0) × (with_take k m once ≡ once)
  take_twice = (accepted-again, same-again)

-- ── elect ──
pub elect-twice : (rule : Rule) → Lawful rule → (o : Office) → (elect_count rule (with_elect rule o) ≡ 0) × (with_elect rule (with_elect rule o) ≡ with_elect rule o)
elect-twice rule law o = (counted, same)
  where
    same : with_elect rule (with_elect rule o) ≡ with_elect rule o
    same = elect-none rule (with_elect rule o) (elect-stops rule (lawful-voted rule law) o)

    counted : elect_count rule (with_elect rule o) ≡ 0
    counted = rw same (omega arith)
