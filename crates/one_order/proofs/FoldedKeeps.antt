-- Every call of the world with folding keeps what holds of it. Assumes nothing.
use mathlib.Core.Path.{◌≡◌, refl, sym, ap, subst, ◌∙◌}
use mathlib.Core.Bool.{◌&&◌}
use mathlib.Core.List.{List, [], ◌∷◌, map}
use Rattle.std.specs.Prelude.{Option, None, Some}
use Rattle.std.proofs.lemmas.Option.{same_Some}
use mathlib.Core.Logic.{◌⊎◌, inl, inr}
use Prim.Native.Nat.{ℕ, zero, suc, ◌-◌, ◌≤◌, ◌<◌, max}
use native.Mathlib.Decide.{ℕ_discrete}
use native.Mathlib.Omega.{arith}
use lib.Dec.{eqb}
use lib.ListN as L
use lib.ListN.{length, get_or, set, replicate, length-append, length-take}
use Rattle.std.specs.Prelude.{slice_get}
use borrow.Author.Tests.{eqb-true}
use Rattle.protocol.specs.Entry.{value}
use Rattle.protocol.specs.Vote.{Rule}
use Rattle.protocol.specs.SettledRule.{by_settled}
use Rattle.protocol.specs.Office.{Office}
use Rattle.protocol.proofs.World as P
use Rattle.protocol.proofs.World.{step as step_p}
use Rattle.protocol.proofs.Effects.{Effect, effect_after, effect_of, no_effect, rule_behind}
use Rattle.protocol_laws.proofs.Kept.{kept-nil, kept_append}
use Rattle.protocol.specs.Folding.{FoldedOffice, settled_length, least_known, with_fold, with_folded_issue, with_folded_elect, with_folded_take}
use Rattle.protocol.proofs.FoldedWorld.{
  Desk,
  Posted,
  World,
  Call,
  issue,
  send,
  take,
  elect,
  fold,
  idle,
  new_desk,
  founded,
  desk_at,
  goes,
  leaving,
  put,
  names,
  refuse_taking,
  taking,
  number,
  done,
  step,
  whole_desk,
  view,
  call_of,
}
use Rattle.lists.proofs.Tests.{if-cases, and-true, get_d_replicate}
use Rattle.protocol_laws.proofs.Beginning.{⊑-length}
use Rattle.protocol_laws.proofs.Office.{SetCases, set_cases}
use Rattle.one_order.proofs.History as H
use Rattle.one_order.proofs.Steady.{step-moves}
use Rattle.protocol_laws.proofs.Folding.{TakeFound, fold-held, fold-dropped, least-own, least-noted, take_found}
use Rattle.one_order.proofs.FoldedSound.{lengths, Fit, FitSent, Sound, fit-grows, fit-sent-grows, there, message-heard, own-length}
use Rattle.one_order.proofs.FoldedMoves.{moves}

map-replicate : {A B : Type 0} (f : A → B) (n : ℕ) (a : A) → map f (replicate n a) ≡ replicate n (f a)
map-replicate f zero a = refl
map-replicate f (suc n) a = ap (λ (l : List _). f a ∷ l) (map-replicate f n a)

-- a place of equal elements, or past them
replicate-cases : {A : Type 0} (P : A → Type 0) (n : ℕ) (x d : A) (i : ℕ) → P x → P d → P (get_or (replicate n x) i d)
replicate-cases P zero x d i p q = q
replicate-cases P (suc n) x d zero p q = p
replicate-cases P (suc n) x d (suc i) p q = replicate-cases P n x d i p q

-- the entries dropped by then are as many as the count says
leaving-counted : (d : Desk) (f : FoldedOffice) → d.now.dropped ≡ length d.former → d.now.dropped ≤ f.dropped
    → f.dropped ≤ settled_length d.now.dropped d.now.held → f.dropped ≡ length (leaving d f).former
leaving-counted d f c low high =
    omega (arith, length-append d.former (L.take (f.dropped - d.now.dropped) d.now.held.log), length-take (f.dropped - d.now.dropped) d.now.held.log)

-- and what is kept is what is kept of them
pub leaving-kept : (founding : List ℕ) (d : Desk) (f : FoldedOffice) → d.kept ≡ effect_of founding d.former → (leaving d f).kept ≡ effect_of founding (leaving d f).former
leaving-kept founding d f k = ap (λ (x : Effect). effect_after x (goes d f)) k ∙ kept_append (no_effect founding) d.former (goes d f)

-- a call that drops nothing and notes nothing
same-fit : (n : ℕ) (len : ℕ → ℕ) (d : Desk) (f : FoldedOffice) → f.dropped ≡ d.now.dropped → f.noted ≡ d.now.noted → Fit n len d → Fit n len (leaving d f)
same-fit n len d f g t x = record {
  counted = leaving-counted d f x.counted (omega arith) (omega arith);
  noted = λ j. subst (λ (l : List ℕ). get_or l j 0 ≤ len j) (sym t) (x.noted j);
  low = λ j h. omega (arith, x.low j h);
}

fold-fit : (n : ℕ) (len : ℕ → ℕ) (k : ℕ) (d : Desk) → settled_length d.now.dropped d.now.held ≡ len k → Fit n len d → Fit n len (leaving d (with_fold n k d.now))
unfolding with_fold
fold-fit n len k d own x = record {
  counted = leaving-counted d (with_fold n k d.now) x.counted (omega arith) (omega (arith, fold-held n k d.now));
  noted = x.noted;
  low = λ j h. go j h (fold-dropped n k d.now) (ℕ_discrete j k);
}
  where
    least : ℕ
    least = least_known k (settled_length d.now.dropped d.now.held) d.now.noted n

    most : least ≤ settled_length d.now.dropped d.now.held
    most = least-own k (settled_length d.now.dropped d.now.held) d.now.noted n

    go : (j : ℕ) → j < n → ((with_fold n k d.now).dropped ≡ d.now.dropped) ⊎ ((with_fold n k d.now).dropped ≡ least) → Dec (j ≡ k) → (with_fold n k d.now).dropped ≤ len j
    go j h (inl e) q = omega (arith, x.low j h)
    go j h (inr e) (yes q) = omega (arith, most, own, ap len q)
    go j h (inr e) (no q) = omega (arith, least-noted k (settled_length d.now.dropped d.now.held) d.now.noted n j h q, x.noted j)

pub take-fit : (n : ℕ) (len : ℕ → ℕ) (k : ℕ) (d : Desk) (m : Posted) → settled_length m.message.dropped m.message.state ≤ len m.message.sender → TakeFound k m.message d.now
    → FitSent n len m → Fit n len d → Fit n len (leaving d (with_folded_take k m.message d.now))
unfolding with_folded_take
take-fit n len k d m heard f y x = record {
  counted = leaving-counted d (with_folded_take k m.message d.now) x.counted (omega arith) (omega (arith, f.reaches));
  noted = λ j. go j (set_cases d.now.noted s (max (get_or d.now.noted s 0) l) 0 j);
  low = λ j h. omega (arith, x.low j h, y.low j h);
}
  where
    s : ℕ
    s = m.message.sender

    l : ℕ
    l = settled_length m.message.dropped m.message.state

    new : List ℕ
    new = set d.now.noted s (max (get_or d.now.noted s 0) l)

    go : (j : ℕ) → (get_or new j 0 ≡ get_or d.now.noted j 0) ⊎ ((j ≡ s) × (s < length d.now.noted) × (get_or new j 0 ≡ max (get_or d.now.noted s 0) l)) → get_or new j 0 ≤ len j
    go j (inl e) = omega (arith, x.noted j)
    go j (inr e) = omega (arith, e.2, x.noted s, heard, ap len e.0)

-- ── the world ──
module _ (founding : List ℕ) (n : ℕ) (pos : 0 < n) where
  abbrev rule : Rule
  rule = by_settled founding

  -- a world that may follow w, before its logs' growth is looked at
  pub record Follow (w x : World) : Type 0 where
    pub kept : (k : ℕ) → k < n → (desk_at x k).kept ≡ effect_of founding (desk_at x k).former
    pub desks : (k : ℕ) → Fit n (lengths w) (desk_at x k)
    pub sent : (i : ℕ) (m : Posted) → slice_get x.sent i ≡ Some m → FitSent n (lengths w) m

  abbrev Keeps : Desk → Type 0
  Keeps d = d.kept ≡ effect_of founding d.former

  put-follow : (w : World) (k : ℕ) (f : FoldedOffice) → Sound founding n w → Fit n (lengths w) (leaving (desk_at w k) f) → Follow w (put w k f)
  put-follow w k f s x =
      record {
        desks = λ j. go j (set_cases w.desks k (leaving (desk_at w k) f) (new_desk []) j);
        sent = s.sent;
        kept = λ j b. held j b (set_cases w.desks k (leaving (desk_at w k) f) (new_desk []) j);
      }
    where
      go : (j : ℕ) → (desk_at (put w k f) j ≡ desk_at w j) ⊎ ((j ≡ k) × (k < length w.desks) × (desk_at (put w k f) j ≡ leaving (desk_at w k) f)) → Fit n (lengths w) (desk_at (put w k f) j)
      go j (inl e) = subst (λ (d : Desk). Fit n (lengths w) d) (sym e) (s.desks j)
      go j (inr e) = subst (λ (d : Desk). Fit n (lengths w) d) (sym e.2) x

      held : (j : ℕ) → j < n → SetCases w.desks k (leaving (desk_at w k) f) (new_desk []) j → (desk_at (put w k f) j).kept ≡ effect_of founding (desk_at (put w k f) j).former
      held j b (inl e) = subst Keeps (sym e) (s.kept j b)
      held j b (inr e) = subst Keeps (sym e.2) (leaving-kept founding (desk_at w k) f (s.kept k (omega (arith, e.0))))

  take-follow : (w : World) (k i : ℕ) (s : Sound founding n w) (x : Option Posted) → slice_get w.sent i ≡ x → refuse_taking k x (desk_at w k).now ≡ 0
      → Follow w (put w k (taking k x (desk_at w k).now))
  take-follow w k i s None e h = put-follow w k (desk_at w k).now s (same-fit n (lengths w) (desk_at w k) (desk_at w k).now refl refl (s.desks k))
  take-follow w k i s (Some m) e h =
      put-follow w k (with_folded_take k m.message (desk_at w k).now) s
      (take-fit n (lengths w) k (desk_at w k) m (message-heard founding n pos w s i m e) (take_found k m.message (desk_at w k).now h) (s.sent i m e) (s.desks k))

  done-follow : (w : World) (c : Call) (s : Sound founding n w) → number w c ≡ 0 → Follow w (done w c)
  unfolding done number with_folded_issue with_folded_elect
  done-follow w (issue k line code) s h =
      put-follow w k (with_folded_issue k (value k line code) (desk_at w k).now) s (same-fit n (lengths w) (desk_at w k) (with_folded_issue k (value k line code) (desk_at w k).now) refl refl (s.desks k))
  done-follow w (send k room) s h = record { desks = s.desks; sent = new; kept = s.kept }
    where
      now : Posted
      now = record { message = record { sender = k; dropped = (desk_at w k).now.dropped; state = (desk_at w k).now.held }; former = (desk_at w k).former }

      new : (i : ℕ) (m : Posted) → slice_get (now ∷ w.sent) i ≡ Some m → FitSent n (lengths w) m
      new zero m e = subst (λ (x : Posted). FitSent n (lengths w) x) (same_Some now m e) (record { counted = (s.desks k).counted; low = (s.desks k).low })
      new (suc i) m e = s.sent i m e
  done-follow w (take k i) s h = take-follow w k i s (slice_get w.sent i) refl h
  done-follow w (elect k) s h =
      let f : FoldedOffice = with_folded_elect (rule_behind (desk_at w k).kept) (desk_at w k).now in
      put-follow w k f s (same-fit n (lengths w) (desk_at w k) f refl refl (s.desks k))
  done-follow w (fold k) s h =
      put-follow w k (with_fold (length w.desks) k (desk_at w k).now) s
      (subst (λ (x : ℕ). Fit n (lengths w) (leaving (desk_at w k) (with_fold x k (desk_at w k).now))) (sym (there founding n pos w s))
      (fold-fit n (lengths w) k (desk_at w k) (own-length founding n pos w s k) (s.desks k)))
  done-follow w idle s h = record { desks = s.desks; sent = s.sent; kept = s.kept }

  step-follow : (w : World) (c : Call) (s : Sound founding n w) → Follow w (step w c)
  unfolding step
  step-follow w c s =
      if-cases (λ x. Follow w x) (names w c && eqb (number w c) 0) (done w c) w
      (λ e. done-follow w c s (eqb-true (number w c) 0 (and-true (names w c) (eqb (number w c) 0) e).1))
      (λ _. record { desks = s.desks; sent = s.sent; kept = s.kept })

  pub keeps : (w : World) (c : Call) → Sound founding n w → Sound founding n (step w c)
  unfolding H.after
  keeps w c s =
      let x : World = step w c in
      let v : P.World = view w in
      let seen : view x ≡ step_p rule v (call_of w c) = moves founding n pos w s c in
      let f : Follow w x = step-follow w c s in
      let grown : (j : ℕ) → lengths w j ≤ lengths x j =
      λ j. subst (λ (u : P.World). lengths w j ≤ length (P.at u j).log) (sym seen) (⊑-length (P.at v j).log (P.at (step_p rule v (call_of w c)) j).log (step-moves rule v (call_of w c) j).0) in
      record {
        history = call_of w c ∷ s.history;
        kept = f.kept;
        reached = seen ∙ ap (λ (u : P.World). step_p rule u (call_of w c)) s.reached;
        desks = λ k. fit-grows (lengths x) grown (f.desks k);
        sent = λ i m e. fit-sent-grows (lengths x) grown (f.sent i m e);
      }

  pub starts : view (founded founding n) ≡ P.founded n
  starts = ap (λ (l : List Office). record { offices = l; sent = [] }) (map-replicate whole_desk n (new_desk founding))

  -- nothing is dropped, noted or sent
  new-fit : (len : ℕ → ℕ) (ws : List ℕ) → Fit n len (new_desk ws)
  new-fit len ws = record { counted = refl; noted = λ j. omega (arith, get_d_replicate {A = ℕ} 8 0 j); low = λ j h. omega arith }

  pub sound-start : Sound founding n (founded founding n)
  unfolding H.after
  sound-start = record {
    history = [];
    kept = λ k h. subst Keeps (sym (L.get_or-replicate n k (new_desk founding) (new_desk []) h)) (sym (kept-nil (no_effect founding)));
    reached = starts;
    desks = λ k. replicate-cases (Fit n (lengths (founded founding n))) n (new_desk founding) (new_desk []) k (new-fit _ founding) (new-fit _ []);
    sent = λ i m e. let z : ◌≡◌ {A = ℕ} 0 1 = cc in absurd (omega arith);
  }
