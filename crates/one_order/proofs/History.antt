-- The world after a list of calls, newest call first. A moment of the world is the list of the calls before it, so the moments before a moment
-- are the ends of its list. Assumes nothing.
use mathlib.Core.Path.{◌≡◌, refl, sym, ap, subst, ◌∙◌}
use mathlib.Core.List.{List, [], ◌∷◌}
use mathlib.Core.Bool.{Bool, true, ◌&&◌, cond}
use mathlib.Core.Logic.{◌⊎◌, inl, inr}
use Prim.Native.Nat.{ℕ, ◌<◌}
use native.Mathlib.Omega.{arith}
use lib.Dec.{eqb}
use lib.ListN.{length, length-set, length-replicate}
use lib.Seq.{get_or-set_same}
use borrow.Author.Tests.{eq-eqb, lt-ltb}
use Rattle.protocol.specs.Entry.{value}
use Rattle.protocol.specs.Vote.{Rule}
use Rattle.protocol.specs.Office.{Office, fresh, path}
use Rattle.protocol.specs.Issue.{with_issue}
use Rattle.protocol.proofs.World.{World, Call, issue, send, take, elect, idle, founded, at, names, refusal, done, step}
use Rattle.lists.proofs.Tests.{and-of, if-cases, get_d_replicate}

-- h is g or a moment before it
pub data Past (h : List Call) : List Call → Type 0 where
  now : {g : List Call} → h ≡ g → Past h g
  before : {c : Call} {g : List Call} → Past h g → Past h (c ∷ g)

pub past-refl : (h : List Call) → Past h h
past-refl h = now refl

pub past-trans : {a b c : List Call} → Past a b → Past b c → Past a c
past-trans {a} p (now e) = subst (λ (g : List Call). Past a g) e p
past-trans p (before q) = before (past-trans p q)

pub past-comparable : {a b g : List Call} → Past a g → Past b g → Past a b ⊎ Past b a
past-comparable {b} (now e) q = inr (subst (λ (g : List Call). Past b g) (sym e) q)
past-comparable {a} (before p) (now e) = inl (subst (λ (g : List Call). Past a g) (sym e) (before p))
past-comparable (before p) (before q) = past-comparable p q

pub past_cases : {h g : List Call} {c : Call} → Past h (c ∷ g) → (c ∷ g ≡ h) ⊎ Past h g
past_cases (now e) = inl (sym e)
past_cases (before p) = inr p

pub past-nil : {h : List Call} → Past h [] → [] ≡ h
past-nil (now e) = sym e

-- ── one call ──
done-length : (rule : Rule) (w : World) (c : Call) → length (done rule w c).offices ≡ length w.offices
unfolding done
done-length rule w (issue k line code) = simp length-set
done-length rule w (send k room) = refl
done-length rule w (take k m) = simp length-set
done-length rule w (elect k) = simp length-set
done-length rule w idle = refl

step-length : (rule : Rule) (w : World) (c : Call) → length (step rule w c).offices ≡ length w.offices
unfolding step
step-length rule w c =
    if-cases (λ x. length x.offices ≡ length w.offices) (names w c && eqb (refusal w c) 0) (done rule w c) w
    (λ _. done-length rule w c) (λ _. refl)

-- a call that names what is there and is not refused is done
pub step-done : (rule : Rule) (w : World) (c : Call) → names w c ≡ true → refusal w c ≡ 0 → step rule w c ≡ done rule w c
unfolding step
step-done rule w c p q = ap (λ (b : Bool). cond b (done rule w c) w) (and-of _ _ p (eq-eqb (refusal w c) 0 q))

-- ── all calls ──
module _ (rule : Rule) (n : ℕ) where
  unfoldable pub after : List Call → World
  after [] = founded n
  after (c ∷ cs) = step rule (after cs) c

  pub after-length : (cs : List Call) → length (after cs).offices ≡ n
  unfolding after
  after-length [] = length-replicate n fresh
  after-length (c ∷ cs) = step-length rule (after cs) c ∙ after-length cs

  abbrev pub office_at : ℕ → List Call → Office
  office_at k cs = at (after cs) k

  abbrev pub log_at : ℕ → List Call → List ℕ
  log_at k cs = (office_at k cs).log

  abbrev pub own_at : ℕ → List Call → List ℕ
  own_at k cs = path (office_at k cs) k

  -- at the start every office is fresh
  pub start : (k : ℕ) → fresh ≡ office_at k []
  unfolding after
  start k = sym (get_d_replicate n fresh k)

  -- an office after its done issue
  pub issue-office : (cs : List Call) (k line code : ℕ) → refusal (after cs) (issue k line code) ≡ 0 → k < n → office_at k (issue k line code ∷ cs) ≡ with_issue k (value k line code) (office_at k cs)
  unfolding after done names
  issue-office cs k line code r b =
      let there : k < length (after cs).offices = omega (arith, after-length cs) in
      ap (λ (w : World). at w k) (step-done rule (after cs) (issue k line code) (lt-ltb k (length (after cs).offices) there) r)
      ∙ get_or-set_same (after cs).offices k (with_issue k (value k line code) (office_at k cs)) fresh there
