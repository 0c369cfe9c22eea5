-- Demand 3 on lists: the claim, and that it holds of every list of calls. Assumes nothing.
use mathlib.Core.Path.{◌≡◌, refl, sym, ap, subst, ◌∙◌}
use mathlib.Core.List.{List, [], ◌∷◌, ◌++◌, map, reverse_aux, reverse}
use mathlib.Core.Logic.{◌⊎◌, inl, inr}
use Prim.Native.Nat.{ℕ, suc, ◌<◌, ◌≤◌}
use native.Mathlib.Omega.{arith}
use lib.ListN as L
use lib.ListN.{length, get_or, length-map}
use lib.Seq.{take-suc}
use Rattle.protocol.specs.Entry.{value, office_of, line_of, code_of}
use Rattle.protocol.specs.Beginning.{◌⊑◌}
use Rattle.protocol.specs.Vote.{Rule}
use Rattle.protocol.specs.Office.{Office, fresh, path}
use Rattle.protocol.specs.Issue.{refuse_entry}
use Rattle.protocol.specs.Longest.{longest}
use Rattle.lists.proofs.Tests.{get_d_map}
use Rattle.protocol_laws.proofs.Beginning.{⊑_trans, snoc-same, take-⊑}
use Rattle.one_order.proofs.Longest.{longest-is}
use Rattle.protocol.proofs.World.{World, Call, issue, at, founded, refusal, run}
use Rattle.protocol_laws.proofs.Issue.{entry_done}
use Rattle.protocol_laws.proofs.Moves.{proper-true, value-parts}
use Rattle.one_order.proofs.Lawful.{Lawful}
use Rattle.one_order.proofs.History.{Past, now, before, past-refl, past-trans, past_cases, after, after-length, log_at}
use Rattle.one_order.proofs.Steady.{past-moves}
use Rattle.one_order.proofs.Issued.{Issued}
use Rattle.one_order.proofs.Settled.{order-issued}
use Rattle.one_order.proofs.Invariant.{Invariant}
use Rattle.one_order.proofs.EveryCall.{invariant, never-10}

-- ── the claim ──
-- the world after the calls
abbrev pub world : Rule → ℕ → List Call → World
world rule n cs = run rule (founded n) cs

-- the offices' settled logs
abbrev pub settled_logs : World → List (List ℕ)
settled_logs w = map (λ (o : Office). o.log) w.offices

-- "the list has a done issue at that entry's office, with its line and code, and the own path just before that call is" p
pub record IssuedIn (rule : Rule) (n : ℕ) (cs : List Call) (p : List ℕ) (e : ℕ) : Type 0 where
  pub k : ℕ
  pub line : ℕ
  pub code : ℕ
  pub earlier : List Call
  pub later : List Call
  pub listed : earlier ++ (issue k line code ∷ later) ≡ cs
  pub known : k < n
  pub done : refusal (world rule n earlier) (issue k line code) ≡ 0
  pub entry : value k line code ≡ e
  pub its-office : office_of e ≡ k
  pub its-line : line_of e ≡ line
  pub its-code : code_of e ≡ code
  pub view : path (at (world rule n earlier) k) k ≡ p

-- Demand 3, one claim about the whole list of calls, oldest first, and all its n offices. The calls may be those of this world or any that are
-- viewed as such: `after` is the world after some calls, `number` a call's number behind some calls, `Issued p e` that e was issued with p in view
pub record OrderBehind (C : Type 0) (after : List C → World) (number : List C → C → ℕ) (Issued : List ℕ → ℕ → Type 0) (n : ℕ) (cs : List C) : Type 0 where
  -- "the longest settled log that any office has after the list"
  pub order : List ℕ
  pub is-longest : order ≡ longest (settled_logs (after cs))
  -- it is the settled log of some office after the list
  pub present : (k : ℕ) × (k < n) × ((at (after cs) k).log ≡ order)
  -- every settled log, after founding or after any call of the list, is a beginning of it
  pub logs : (earlier later : List C) → earlier ++ later ≡ cs → (k : ℕ) → (at (after earlier) k).log ⊑ order
  -- every entry was issued by its own office with exactly the entries before it in view
  pub issued : (p : ℕ) → p < length order → Issued (L.take p order) (get_or order p 0)
  -- no call was refused with 10
  pub never : (earlier later : List C) (c : C) → earlier ++ (c ∷ later) ≡ cs → number earlier c ≡ 10 → ⊥

-- in the world of n freshly founded offices
abbrev pub OneOrder : Rule → ℕ → List Call → Type 0
OneOrder rule n cs = OrderBehind Call (world rule n) (λ earlier c. refusal (world rule n earlier) c) (IssuedIn rule n cs) n cs

-- (iii) "every office that decides at that log decides alike": what two offices, at whatever moments, have settled behind equal logs is the same
pub settled-alike : {C : Type 0} {after : List C → World} {number : List C → C → ℕ} {Issued : List ℕ → ℕ → Type 0} {n : ℕ} {cs : List C}
    → OrderBehind C after number Issued n cs → (a a' b b' : List C) → a ++ a' ≡ cs → b ++ b' ≡ cs → (j k : ℕ) (l : List ℕ) (e f : ℕ)
    → (l ++ (e ∷ [])) ⊑ (at (after a) j).log → (l ++ (f ∷ [])) ⊑ (at (after b) k).log → e ≡ f
settled-alike {after = after} o a a' b b' p q j k l e f x y =
    snoc-same l o.order e f (⊑_trans (l ++ (e ∷ [])) (at (after a) j).log o.order x (o.logs a a' p j)) (⊑_trans (l ++ (f ∷ [])) (at (after b) k).log o.order y (o.logs b b' q k))

-- ── the list of calls, oldest first, and the history, newest first ──
rev-append : (a b h : List Call) → reverse_aux (a ++ b) h ≡ reverse_aux b (reverse_aux a h)
rev-append [] b h = refl
rev-append (c ∷ a) b h = rev-append a b (c ∷ h)

past-rev : (cs h : List Call) → Past h (reverse_aux cs h)
past-rev [] h = past-refl h
past-rev (c ∷ cs) h = past-trans (before (past-refl h)) (past-rev cs (c ∷ h))

-- a call of the list, found in the history
find : (cs h : List Call) (c : Call) (m : List Call) → Past (c ∷ m) (reverse_aux cs h) → Past (c ∷ m) h ⊎ ((a : List Call) × (b : List Call) × (a ++ (c ∷ b) ≡ cs) × (m ≡ reverse_aux a h))
find [] h c m p = inl p
find (d ∷ cs) h c m p = go (find cs (d ∷ h) c m p)
  where
    Goal : Type 0
    Goal = Past (c ∷ m) h ⊎ ((a : List Call) × (b : List Call) × (a ++ (c ∷ b) ≡ d ∷ cs) × (m ≡ reverse_aux a h))

    here : (d ∷ h ≡ c ∷ m) ⊎ Past (c ∷ m) h → Goal
    here (inl e) = inr ([], cs, (cc), (cc))
    here (inr q) = inl q

    go : Past (c ∷ m) (d ∷ h) ⊎ ((a : List Call) × (b : List Call) × (a ++ (c ∷ b) ≡ cs) × (m ≡ reverse_aux a (d ∷ h))) → Goal
    go (inl q) = here (past_cases q)
    go (inr q) = inr (d ∷ q.0, q.1, ap (λ (l : List Call). d ∷ l) q.2, q.3)

-- a done issue has a line and a code within the limits, so its office, line and code are in the value
pub record Parts (k line code e : ℕ) : Type 0 where
  pub office : office_of e ≡ k
  pub line-is : line_of e ≡ line
  pub code_is : code_of e ≡ code

pub parts-of : (n k line code : ℕ) → n ≤ 8 → refuse_entry n line code ≡ 0 → (e : ℕ) → value k line code ≡ e → Parts k line code e
parts-of n k line code m h e q =
    let s = value-parts n k line code m (proper-true n line code (entry_done n line code h)) in
    subst (λ (v : ℕ). Parts k line code v) q (record { office = s.0; line-is = s.1; code_is = s.2 })

module _ (rule : Rule) (n : ℕ) where
  run-after : (cs h : List Call) → run rule (after rule n h) cs ≡ after rule n (reverse_aux cs h)
  unfolding run after
  run-after [] h = refl
  run-after (c ∷ cs) h = run-after cs (c ∷ h)

  world-after : (cs : List Call) → world rule n cs ≡ after rule n (reverse cs)
  unfolding after
  world-after cs = run-after cs []

  -- of eight offices at most: a move's line is in the value then
  issued-in : n ≤ 8 → (cs : List Call) (l p : List ℕ) (e : ℕ) → Issued rule n (reverse cs) l p e → IssuedIn rule n cs p e
  unfolding refusal
  issued-in most cs l p e i = go (find cs [] c i.moment i.call)
    where
      c : Call
      c = issue i.k i.line i.code

      none_first : Past (c ∷ i.moment) [] → ⊥
      none_first (now q) = let z : ◌≡◌ {A = ℕ} 0 1 = cc in omega arith

      go : Past (c ∷ i.moment) [] ⊎ ((a : List Call) × (b : List Call) × (a ++ (c ∷ b) ≡ cs) × (i.moment ≡ reverse a)) → IssuedIn rule n cs p e
      go (inl q) = absurd (none_first q)
      go (inr q) =
          let w = after rule n i.moment in
          let few : length w.offices ≤ 8 = rw (after-length rule n i.moment) most in
          let parts = parts-of (length w.offices) i.k i.line i.code few i.done e i.entry in
          let same : after rule n i.moment ≡ world rule n q.0 = ap (after rule n) q.3 ∙ sym (world-after q.0) in
          record {
            k = i.k;
            line = i.line;
            code = i.code;
            earlier = q.0;
            later = q.1;
            listed = q.2;
            known = i.known;
            done = subst (λ (w : World). refusal w c ≡ 0) same i.done;
            entry = i.entry;
            its-office = parts.office;
            its-line = parts.line-is;
            its-code = parts.code_is;
            view = subst (λ (w : World). path (at w i.k) i.k ≡ p) same i.view;
          }

  -- for any rule that is lawful
  pub one-order-of : Lawful rule → n ≤ 8 → 0 < n → (cs : List Call) → OneOrder rule n cs
  one-order-of law most pos cs = record {
    order = inv.order;
    is-longest = longest-is inv.order (settled_logs (world rule n cs)) (λ k. subst (λ (l : List ℕ). l ⊑ inv.order) (sym (log-at k)) (inv.logs k)) inv.longest.0
        (omega (arith, inv.longest.1, there)) (log-at inv.longest.0 ∙ inv.longest.2);
    present = (inv.longest.0, inv.longest.1, rw (world-after cs) inv.longest.2);
    logs = λ a b e k. log-in a b e k;
    issued = λ p h. issued-in most cs inv.order (L.take p inv.order) (get_or inv.order p 0)
        (order-issued rule n law (reverse cs) inv.order inv.elected inv.issued (L.take p inv.order) (get_or inv.order p 0)
        (subst (λ (l : List ℕ). l ⊑ inv.order) (take-suc inv.order p 0 h) (take-⊑ (suc p) inv.order)));
    never = λ a b c e h. never-10 rule n law (reverse a) (invariant rule n law pos (reverse a)) c (rw (world-after a) at h);
  }
    where
      inv : Invariant rule n law (reverse cs)
      inv = invariant rule n law pos (reverse cs)

      -- the logs of the world after the calls
      log-at : (k : ℕ) → get_or (settled_logs (world rule n cs)) k [] ≡ log_at rule n k (reverse cs)
      log-at k = get_d_map (λ (o : Office). o.log) fresh (world rule n cs).offices k ∙ ap (λ (w : World). (at w k).log) (world-after cs)

      there : length (settled_logs (world rule n cs)) ≡ n
      there = length-map (world rule n cs).offices (λ (o : Office). o.log) ∙ ap (λ (w : World). length w.offices) (world-after cs) ∙ after-length rule n (reverse cs)

      log-in : (a b : List Call) → a ++ b ≡ cs → (k : ℕ) → (at (world rule n a) k).log ⊑ inv.order
      log-in a b e k =
          let p : Past (reverse a) (reverse cs) = subst (λ (l : List Call). Past (reverse a) l) (sym (rev-append a b []) ∙ ap reverse e) (past-rev b (reverse a)) in
          rw (world-after a) (⊑_trans (log_at rule n k (reverse a)) (log_at rule n k (reverse cs)) inv.order (past-moves rule n p k).0 (inv.logs k))
