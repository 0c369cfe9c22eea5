-- Demand 3 holds of every list of calls: the world follows the protocol's world with folding, and that has one order of whole logs. Assumes nothing.
use mathlib.Core.Path.{◌≡◌, refl, sym, ap, subst, ◌∙◌}
use mathlib.Core.List.{List, [], ◌∷◌, ◌++◌, map, map-map}
use mathlib.Core.Logic.{◌⊎◌, inl, inr}
use Rattle.std.specs.Prelude.{Option, None, Some}
use Prim.Native.Nat.{ℕ, ◌+◌, ◌<◌, ◌≤◌}
use native.Mathlib.Omega.{arith}
use lib.ListN as L
use lib.ListN.{length, get_or, get_or-eq_default, length-map}
use Rattle.protocol.specs.Entry.{office_of, line_of, code_of}
use Rattle.protocol.specs.Beginning.{◌⊑◌}
use Rattle.protocol.specs.Office.{Office, path}
use Rattle.protocol.specs.Longest.{longest}
use Rattle.protocol.proofs.World as P
use Rattle.one_order.proofs.OneOrder.{settled_logs, settled-alike}
use Rattle.one_order.proofs.Machine.{reached, IssuedBy, OneOrderOf}
use Rattle.protocol_laws.proofs.Issue.{issue-never}
use Rattle.protocol.proofs.Effects.{effect_of}
use Rattle.protocol.proofs.FoldedWorld as F
use Rattle.one_order.proofs.FoldedSound as S
use Rattle.one_order.proofs.FoldedOrder as O
use Rattle.one_order.proofs.FoldedMachine.{wholly, one-order-folder}
use Rattle.kept.specs.Kept.{kept_nothing, kept_after}
use Rattle.issuing.specs.Issuing.{issue_of}
use Rattle.frame.specs.State.{folded_by}
use Rattle.agreement.specs.World.{Replica, Posted, World, Call, issue, send, take, elect, fold, replica_at, message_at, on_some, number, after}
use Rattle.agreement.specs.Demand.{Founded, says, log_at, view_at, order, IssuedIn, OneOrder}
use Rattle.agreement.proofs.Places.{there, not_there, find}
use Rattle.agreement.proofs.View.{effect_in, desk_of, shape, view, send_done, call_of, SoundWorld, shape_at, view-at}
use Rattle.agreement.proofs.Held.{few-offices}
use Rattle.agreement.proofs.Issued.{issue-number}
use Rattle.agreement.proofs.Follows.{sound-start, folder, after_is, both-after}
use Rattle.agreement.proofs.Numbers.{sends, elects, folds, takes}

-- ── what the view says of an office ──
log-at : (w : World) (k : ℕ) → (P.at (view w) k).log ≡ log_at w k
log-at w k = go (replica_at w k) refl
  where
    go : (x : Option Replica) → replica_at w k ≡ x → (P.at (view w) k).log ≡ on_some x [] (λ d. (says d).log)
    go None e = ap (λ (o : Office). o.log) (S.view-at (shape w) k ∙ ap F.whole_desk (get_or-eq_default (map desk_of w.replicas) (F.new_desk []) (rw length-map (not_there w.replicas k e))))
    go (Some d) e = ap (λ (o : Office). o.log) (view-at w k d e)

own-path : (n : ℕ) (ws : List ℕ) (w : World) → SoundWorld n ws w → (k : ℕ) (d : Replica) → replica_at w k ≡ Some d → path (P.at (view w) k) k ≡ view_at w k
own-path n ws w s k d e =
    ap (λ (o : Office). path o k) (view-at w k d e) ∙ ap (path (says d)) (sym (s.each k d e).own)
    ∙ ap (λ (x : Option Replica). on_some x [] (λ d. path (says d) d.held.own)) (sym e)

-- a call that is viewed as an issue is that issue
is-issue : (w : World) (c : Call) (k line code : ℕ) → call_of w c ≡ F.issue k line code → c ≡ issue k line code
is-issue w (issue k' line' code') k line code e = go (replica_at w k') e
  where
    go : (x : Option Replica) → on_some x F.idle (λ _. F.issue k' line' code') ≡ F.issue k line code → issue k' line' code' ≡ issue k line code
    go None e = cc
    go (Some d) e = cc
is-issue w (send k' out) k line code e = go (replica_at w k') e
  where
    go : (x : Option Replica) → on_some x F.idle (λ d. F.send k' (send_done d out)) ≡ F.issue k line code → send k' out ≡ issue k line code
    go None e = cc
    go (Some d) e = cc
is-issue w (take k' m) k line code e = go (replica_at w k') (message_at w m) e
  where
    go : (x : Option Replica) (y : Option Posted) → on_some x F.idle (λ _. on_some y F.idle (λ _. F.take k' m)) ≡ F.issue k line code → take k' m ≡ issue k line code
    go None y e = cc
    go (Some d) None e = cc
    go (Some d) (Some b) e = cc
is-issue w (elect k') k line code e = go (replica_at w k') e
  where
    go : (x : Option Replica) → on_some x F.idle (λ _. F.elect k') ≡ F.issue k line code → elect k' ≡ issue k line code
    go None e = cc
    go (Some d) e = cc
is-issue w (fold k') k line code e = go (replica_at w k') e
  where
    go : (x : Option Replica) → on_some x F.idle (λ _. F.fold k') ≡ F.issue k line code → fold k' ≡ issue k line code
    go None e = cc
    go (Some d) e = cc

-- ── the order ──
module _ (n : ℕ) (ws : List ℕ) (start : World) (f : Founded n ws start) where
  -- office 0 was founded, so there are at most eight offices
  few : n ≤ 8
  few = let first = find start.replicas 0 (rw f.offices f.any) in few-offices n ws 0 first.0 ((sound-start n ws start f).each 0 first.0 first.1)

  one : (cs : List Call) → OneOrderOf (wholly (folder n ws start f)) n cs
  one cs = one-order-folder ws n f.any (folder n ws start f) few cs

  pub sound-after : (cs : List Call) → SoundWorld n ws (after start cs)
  sound-after cs = (both-after n ws start f cs).here

  order_is : (cs : List Call) → (one cs).order ≡ order start cs
  unfolding order
  order_is cs =
      let l : List Replica = (after start cs).replicas in
      (one cs).is-longest ∙ ap (λ (w : World). longest (settled_logs (view w))) (after_is n ws start f cs)
      ∙ ap longest (map-map (λ (o : Office). o.log) F.whole_desk (map desk_of l) ∙ map-map (λ (x : F.Desk). (F.whole_desk x).log) desk_of l)

  issued-in : (cs : List Call) (p : List ℕ) (e : ℕ) → IssuedBy (wholly (folder n ws start f)) n cs p e → IssuedIn start cs p e
  issued-in cs p e i =
      let w : World = after start i.earlier in
      let s : SoundWorld n ws w = sound-after i.earlier in
      let before : World = reached (wholly (folder n ws start f)) i.earlier in
      let at : before ≡ w = after_is n ws start f i.earlier in
      let k : ℕ = i.k in
      let office : k ≡ office_of e = sym i.its-office in
      let replica : (d : Replica) × (replica_at w k ≡ Some d) = find w.replicas k (rw s.offices i.known) in
      let seen : call_of before i.c ≡ F.issue k i.line i.code = (O.is-issue (shape before) (call_of before i.c) k i.line i.code i.is-issue).0 in
      let call : i.c ≡ issue (office_of e) (line_of e) (code_of e) = is-issue before i.c k i.line i.code seen ∙ cc (i.its-office, i.its-line, i.its-code) in
      record {
        earlier = i.earlier;
        later = i.later;
        listed = subst (λ (c : Call). i.earlier ++ (c ∷ i.later) ≡ cs) call i.listed;
        there = subst (λ (j : ℕ). j < length start.replicas) office (rw f.offices i.known);
        done = subst (λ (c : Call). number w c ≡ 0) call (subst (λ (x : World). number x i.c ≡ 0) at i.done);
        exactly = subst (λ (j : ℕ). view_at w j ≡ p) office
            (sym (own-path n ws w s k replica.0 replica.1) ∙ subst (λ (x : World). path (P.at (view x) k) k ≡ p) at i.view);
      }

  log-after : (cs : List Call) (k : ℕ) → (P.at (view (reached (wholly (folder n ws start f)) cs)) k).log ≡ log_at (after start cs) k
  log-after cs k = ap (λ (w : World). (P.at (view w) k).log) (after_is n ws start f cs) ∙ log-at (after start cs) k

-- ── one world of the list ──
module _ (n : ℕ) (ws : List ℕ) (pos : 0 < n) (w : World) (s : SoundWorld n ws w) (t : S.Sound ws n (shape w)) where
  -- a take's numbers, as the protocol has them
  pub meets : (c : Call) → number w c ≡ 16 → ⊥
  unfolding number
  meets (issue k line code) h = go (replica_at w k) refl h
    where
      go : (x : Option Replica) → replica_at w k ≡ x → on_some x 0 (λ d. (issue_of d.held d.words line code).number) ≡ 16 → ⊥
      go None e h = omega arith
      go (Some d) e h = (issue-never n k line code (folded_by d.held d.words)).no-16 (sym (issue-number n ws k d (s.each k d e) line code) ∙ h)
  meets (send k out) h = go (sends n ws w s k out)
    where
      go : (number w (send k out) ≡ 0) ⊎ (number w (send k out) ≡ 6) → ⊥
      go (inl q) = omega arith
      go (inr q) = omega arith
  meets (take k m) h = go (takes n ws pos w s t k m)
    where
      go : (number w (take k m) ≡ 0) ⊎ ((number w (take k m) ≡ 9) ⊎ (number w (take k m) ≡ 17)) → ⊥
      go (inl q) = omega arith
      go (inr (inl q)) = omega arith
      go (inr (inr q)) = omega arith
  meets (elect k) h = omega (arith, elects n ws w s k)
  meets (fold k) h = omega (arith, folds n ws w s k)

  module _ (k : ℕ) (d : Replica) (e : replica_at w k ≡ Some d) where
    at : F.desk_at (shape w) k ≡ desk_of d
    at = shape_at w k d e

    counted : d.held.kept.dropped ≡ length d.former
    counted = subst (λ (x : F.Desk). x.now.dropped ≡ length x.former) at (t.desks k).counted

    -- office k is there
    below : k < n
    below = omega (arith, there w.replicas k d e, s.offices)

    pub kept-is : d.held.kept ≡ kept_after (kept_nothing ws) d.former
    kept-is =
        let x : effect_in d.held.kept ≡ effect_of ws d.former = subst (λ (y : F.Desk). y.kept ≡ effect_of ws y.former) at (t.kept k below) in
        let none_left : length d.former ≡ 0 + length d.former = omega arith in
        λ i. record { dropped = (counted ∙ none_left) i; summary = record { present = (x i).weights; codes = (x i).codes }; counts = (x i).counts }

    noted : (j : ℕ) → get_or d.held.noted j 0 ≤ length (log_at w j)
    noted j = omega (arith, ap (λ (x : F.Desk). get_or x.now.noted j 0) at, (t.desks k).noted j, ap length (log-at w j))

    shared : (j : ℕ) → j < n → d.former ⊑ log_at w j
    shared j b =
        subst (λ (l : List ℕ). d.former ⊑ l) (ap (λ (o : Office). o.log) (sym (S.view-at (shape w) j)) ∙ log-at w j)
        (subst (λ (x : F.Desk). x.former ⊑ F.log_at (shape w) j) at (O.shared ws n pos (shape w) t k j b))

-- (iii) "every office that decides at that log decides alike": what two offices, at whatever moments of the list, have settled behind equal
-- logs is the same entry
pub settles-alike : (n : ℕ) (weights : List ℕ) (start : World) → Founded n weights start → (cs a a' b b' : List Call) → a ++ a' ≡ cs → b ++ b' ≡ cs
    → (j k : ℕ) (log : List ℕ) (e f : ℕ) → (log ++ (e ∷ [])) ⊑ log_at (after start a) j → (log ++ (f ∷ [])) ⊑ log_at (after start b) k → e ≡ f
settles-alike n ws start f cs a a' b b' p q j k log d e x y =
    settled-alike (one n ws start f cs) a a' b b' p q j k log d e (subst (λ (l : List ℕ). (log ++ (d ∷ [])) ⊑ l) (sym (log-after n ws start f a j)) x)
    (subst (λ (l : List ℕ). (log ++ (e ∷ [])) ⊑ l) (sym (log-after n ws start f b k)) y)

-- Demand 3
pub one-order : (n : ℕ) (weights : List ℕ) (start : World) → Founded n weights start → (cs : List Call) → OneOrder start cs
one-order n ws start f cs =
    let o = one n ws start f cs in
    let same : o.order ≡ order start cs = order_is n ws start f cs in
    let reaches = both-after n ws start f in
    record {
      logs = λ earlier later e k.
          subst (λ (l : List ℕ). log_at (after start earlier) k ⊑ l) same (subst (λ (l : List ℕ). l ⊑ o.order) (log-after n ws start f earlier k) (o.logs earlier later e k));
      issued = λ p h.
          subst (λ (l : List ℕ). IssuedIn start cs (L.take p l) (get_or l p 0)) same
          (issued-in n ws start f cs (L.take p o.order) (get_or o.order p 0) (o.issued p (rw same h)));
      never = λ earlier later c e h. o.never earlier later c e (subst (λ (w : World). number w c ≡ 10) (sym (after_is n ws start f earlier)) h);
      never-16 = λ earlier later c e h. meets n ws f.any (after start earlier) (reaches earlier).here (reaches earlier).there c h;
      counted = λ earlier later e k d q. counted n ws f.any (after start earlier) (reaches earlier).here (reaches earlier).there k d q;
      kept = λ earlier later e k d q.
          kept-is n ws f.any (after start earlier) (reaches earlier).here (reaches earlier).there k d q
          ∙ ap (λ (l : List ℕ). kept_after (kept_nothing l) d.former) (sym ((reaches earlier).here.each k d q).weights);
      noted = λ earlier later e k j d q. noted n ws f.any (after start earlier) (reaches earlier).here (reaches earlier).there k d q j;
      shared = λ earlier later e k j d q h.
          shared n ws f.any (after start earlier) (reaches earlier).here (reaches earlier).there k d q j (subst (λ (i : ℕ). j < i) f.offices h);
    }
