-- Request (vi) with folding.
--     folded-take-twice       an accepted message taken twice, for every folded office: it is accepted again, and changes nothing then
--     folded-elect-twice      an election held twice
--     folded-either-order     two messages of the world with folding that are accepted in both orders
-- Assumes nothing.
use mathlib.Core.Path.{◌≡◌, refl, sym, ap, ap₂, subst, ◌∙◌}
use mathlib.Core.List.{List, [], ◌∷◌}
use Rattle.std.specs.Prelude.{Some}
use Prim.Native.Nat.{ℕ, zero, suc, ◌+◌, ◌-◌, ◌<◌}
use native.Mathlib.Omega.{arith}
use lib.ListN.{length}
use Rattle.std.specs.Prelude.{slice_get}
use borrow.Author.Tests.{ne_eqb, le-ltb}
use Rattle.lists.specs.Tests.{pick}
use Rattle.protocol.specs.Beginning.{◌⊑◌, extends}
use Rattle.protocol.specs.SettledRule.{rule_from, by_settled}
use Rattle.protocol.specs.Office.{Office, Message, tail}
use Rattle.protocol.specs.Take.{rebase, catch_up, with_take, refuse_take}
use Rattle.protocol.specs.Elect.{elect_count}
use Rattle.protocol.specs.Folding.{FoldedOffice, Packet, settled_length, shorn, caught_up, from_there, note, with_folded_elect, with_folded_take, refuse_folded_take}
use Rattle.lists.proofs.Tests.{if-cases}
use Rattle.one_order.proofs.Lawful.{from-lawful, settled-lawful}
use Rattle.one_order.proofs.Twice.{take_twice, elect-twice}
use Rattle.one_order.proofs.Swap.{EitherOrder, Swaps, either_order}
use Rattle.protocol.proofs.Effects.{effect_of}
use Rattle.protocol_laws.proofs.Whole.{append-same}
use Rattle.protocol_laws.proofs.Folding.{TakeFound, take_found, take-desk}
use Rattle.protocol.proofs.FoldedWorld.{Desk, Posted, World, desk_at, leaving, whole_desk, whole_message}
use Rattle.one_order.proofs.FoldedSound.{lengths, Fit, Sound, known, view-at, view-sent, desk-in, message-in, message-heard}
use Rattle.one_order.proofs.FoldedKeeps.{leaving-kept, take-fit}

-- ── take twice ──
-- a length that is noted already
note-twice : (j len : ℕ) (noted : List ℕ) → note j len (note j len noted) ≡ note j len noted
note-twice j len [] = refl
note-twice zero len (x ∷ noted) = ap (λ (y : ℕ). y ∷ noted) (omega arith)
note-twice (suc j) len (x ∷ noted) = ap (λ (l : List ℕ). x ∷ l) (note-twice j len noted)

-- what makes an accepted message
pub folded-accepts : (k : ℕ) (m : Packet) (f : FoldedOffice) → TakeFound k m f → refuse_folded_take k m f ≡ 0
unfolding refuse_folded_take pick
folded-accepts k m f t = rw (ne_eqb m.sender k t.other, le-ltb _ _ t.reaches, le-ltb _ _ t.lasts) t.agrees

module _ (k : ℕ) (m : Packet) (f : FoldedOffice) (h : refuse_folded_take k m f ≡ 0) where
  abbrev once : FoldedOffice
  once = with_folded_take k m f

  found : TakeFound k m f
  found = take_found k m f h

  -- the held part after the first take
  abbrev o : Office
  o = with_take k (from_there m f) (caught_up m f)

  abbrev more : ℕ
  more = f.dropped + (m.dropped - f.dropped)

  again : (refuse_take k (from_there m f) o ≡ 0) × (with_take k (from_there m f) o ≡ o)
  again = take_twice k (from_there m f) (caught_up m f) found.agrees

  -- the message from where the log begins now is what it was, and nothing is left to drop
  same : more - m.dropped ≡ f.dropped - m.dropped
  same = omega arith

  none : m.dropped - more ≡ 0
  none = omega arith

  twice_found : TakeFound k m once
  unfolding with_folded_take
  twice_found = record {
    other = found.other;
    reaches = omega arith;
    lasts = omega (arith, found.lasts);
    agrees = ap₂ (λ (a b : ℕ). refuse_take k (record { sender = m.sender; state = shorn a m.state }) (shorn b o)) same none ∙ again.0;
  }

  twice_same : with_folded_take k m once ≡ once
  unfolding with_folded_take
  twice_same = λ i. record { dropped = dropped i; held = held i; noted = note-twice m.sender (settled_length m.dropped m.state) f.noted i }
    where
      dropped : more + (m.dropped - more) ≡ more
      dropped = omega arith

      held : with_take k (record { sender = m.sender; state = shorn (more - m.dropped) m.state }) (shorn (m.dropped - more) o) ≡ o
      held = ap₂ (λ (a b : ℕ). with_take k (record { sender = m.sender; state = shorn a m.state }) (shorn b o)) same none ∙ again.1

  pub folded-take-twice : (refuse_folded_take k m once ≡ 0) × (with_folded_take k m once ≡ once)
  folded-take-twice = (folded-accepts k m once twice_found, twice_same)

-- ── elect twice, with whatever is kept ──
pub folded-elect-twice : (weights counts : List ℕ) (f : FoldedOffice) → let rule = rule_from weights counts in
    (elect_count rule (with_folded_elect rule f).held ≡ 0) × (with_folded_elect rule (with_folded_elect rule f) ≡ with_folded_elect rule f)
unfolding with_folded_elect
folded-elect-twice weights counts f =
    let e = elect-twice (rule_from weights counts) (from-lawful weights counts) f.held in
    (e.0, ap (λ (o : Office). record { dropped = f.dropped; held = o; noted = f.noted }) e.1)

-- ── either order ──
-- lengths noted in either order
note-swap : (i x j y : ℕ) (noted : List ℕ) → note j y (note i x noted) ≡ note i x (note j y noted)
note-swap i x j y [] = refl
note-swap zero x zero y (z ∷ noted) = ap (λ (v : ℕ). v ∷ noted) (omega arith)
note-swap zero x (suc j) y (z ∷ noted) = refl
note-swap (suc i) x zero y (z ∷ noted) = refl
note-swap (suc i) x (suc j) y (z ∷ noted) = ap (λ (l : List ℕ). z ∷ l) (note-swap i x j y noted)

dropped-swap : (g a b : ℕ) → g + (a - g) + (b - (g + (a - g))) ≡ g + (b - g) + (a - (g + (b - g)))
dropped-swap g a b = omega arith

-- a log that take leaves
take_in : (q : List ℕ) (k : ℕ) (m : Message) (o : Office) → m.state.log ⊑ q → o.log ⊑ q → (with_take k m o).log ⊑ q
unfolding with_take catch_up rebase
take_in q k m o x y = if-cases (λ r. r.log ⊑ q) (extends m.state.log o.log) (rebase m.state.log o) o (λ _. x) (λ _. y)

-- the desk after it took the message, and after it took both, the first named first
abbrev pub takes_at : ℕ → Posted → Desk → Desk
takes_at k m d = leaving d (with_folded_take k m.message d.now)

abbrev pub takes_both : ℕ → Posted → Posted → Desk → Desk
takes_both k a b d = takes_at k b (takes_at k a d)

-- "give, either way, the same settled log and the same ballots of the other offices"; all else is the same too, but for the own ballot
pub record FoldedEitherOrder (k : ℕ) (a b : Posted) (d : Desk) : Type 0 where
  pub dropped : (takes_both k a b d).now.dropped ≡ (takes_both k b a d).now.dropped
  pub noted : (takes_both k a b d).now.noted ≡ (takes_both k b a d).now.noted
  pub log : (takes_both k a b d).now.held.log ≡ (takes_both k b a d).now.held.log
  pub ballots : (j : ℕ) → (j ≡ k → ⊥) → tail (takes_both k a b d).now.held j ≡ tail (takes_both k b a d).now.held j
  pub former : (takes_both k a b d).former ≡ (takes_both k b a d).former
  pub kept : (takes_both k a b d).kept ≡ (takes_both k b a d).kept

-- a is accepted, and b behind it
abbrev pub AcceptedBoth : ℕ → Posted → Posted → Desk → Type 0
AcceptedBoth k a b d = (refuse_folded_take k a.message d.now ≡ 0) × (refuse_folded_take k b.message (with_folded_take k a.message d.now) ≡ 0)

-- office k of a world that the calls reach
module _ (founding : List ℕ) (n : ℕ) (pos : 0 < n) (w : World) (s : Sound founding n w) (k : ℕ) (here : k < n) where
  abbrev d : Desk
  d = desk_at w k

  abbrev q : List ℕ
  q = (known founding n pos w s).order

  -- one message behind another: how much is dropped, on whole logs, and what is kept
  pub record Behind (a b : Posted) : Type 0 where
    pub counted : (takes_both k a b d).now.dropped ≡ length (takes_both k a b d).former
    pub whole : whole_desk (takes_both k a b d) ≡ with_take k (whole_message b) (with_take k (whole_message a) (whole_desk d))
    pub kept : (takes_both k a b d).kept ≡ effect_of founding (takes_both k a b d).former

  behind : (i j : ℕ) (a b : Posted) → slice_get w.sent i ≡ Some a → slice_get w.sent j ≡ Some b → AcceptedBoth k a b d → Behind a b
  behind i j a b ea eb h =
      let da : Desk = takes_at k a d in
      let found = take_found k a.message d.now h.0 in
      let next = take_found k b.message da.now h.1 in
      let mine : (whole_desk d).log ⊑ q = desk-in founding n pos w s k in
      let first : (whole_message a).state.log ⊑ q = message-in founding n pos w s i a ea in
      let second : (whole_message b).state.log ⊑ q = message-in founding n pos w s j b eb in
      let one : whole_desk da ≡ with_take k (whole_message a) (whole_desk d) =
      take-desk d a q (s.desks k).counted (s.sent i a ea).counted mine first found.reaches found.lasts k in
      let fit : Fit n (lengths w) da = take-fit n (lengths w) k d a (message-heard founding n pos w s i a ea) found (s.sent i a ea) (s.desks k) in
      let between : (whole_desk da).log ⊑ q = subst (λ (o : Office). o.log ⊑ q) (sym one) (take_in q k (whole_message a) (whole_desk d) first mine) in
      record {
        counted = (take-fit n (lengths w) k da b (message-heard founding n pos w s j b eb) next (s.sent j b eb) fit).counted;
        whole = take-desk da b q fit.counted (s.sent j b eb).counted between second next.reaches next.lasts k ∙ ap (with_take k (whole_message b)) one;
        kept = leaving-kept founding da (takes_both k a b d).now (leaving-kept founding d da.now (s.kept k here));
      }

  -- two sent messages "accepted in both orders"
  pub folded-either-order : (i j : ℕ) (a b : Posted) → slice_get w.sent i ≡ Some a → slice_get w.sent j ≡ Some b
      → AcceptedBoth k a b d → AcceptedBoth k b a d → FoldedEitherOrder k a b d
  unfolding with_folded_take
  folded-either-order i j a b ea eb ab ba =
      let x : Behind a b = behind i j a b ea eb ab in
      let y : Behind b a = behind j i b a eb ea ba in
      let both : EitherOrder k (whole_message a) (whole_message b) (whole_desk d) =
      subst (λ (o : Office). EitherOrder k (whole_message a) (whole_message b) o) (view-at w k)
      (subst Swaps (sym s.reached) (either_order (by_settled founding) n (settled-lawful founding) pos s.history) k
      (whole_message a) (whole_message b) (i, view-sent w i a ea) (j, view-sent w j b eb)) in
      let count : (takes_both k a b d).now.dropped ≡ (takes_both k b a d).now.dropped = dropped-swap d.now.dropped a.message.dropped b.message.dropped in
      let logs = append-same (takes_both k a b d).former (takes_both k b a d).former (takes_both k a b d).now.held.log (takes_both k b a d).now.held.log
      (sym x.counted ∙ count ∙ y.counted) (ap (λ (o : Office). o.log) x.whole ∙ both.log ∙ sym (ap (λ (o : Office). o.log) y.whole)) in
      record {
        dropped = count;
        noted = note-swap a.message.sender _ b.message.sender _ d.now.noted;
        log = logs.1;
        ballots = λ p e. ap (λ (o : Office). tail o p) x.whole ∙ both.ballots p e ∙ sym (ap (λ (o : Office). tail o p) y.whole);
        former = logs.0;
        kept = x.kept ∙ ap (effect_of founding) logs.0 ∙ sym y.kept;
      }
