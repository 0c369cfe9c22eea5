-- Each call at a folded office, on its whole log: issue, elect and an accepted take do what document 01's do, and fold does nothing.
--     least-own, least-noted, fold-held         how far fold goes: no further than its own log, nor than what each other office is known to have
--     fold-answers                              its answer is how many entries went
--     fold-desk, issue-desk, elect-desk, take-desk   the calls on whole logs
--     take_found, folded-issue-found            what a call that is done found
--     take-values, take-nine, take-ten, take-sixteen     take's numbers
--     numbers_apart                             of 16, 17 and 10 no two hold together
-- Assumes nothing.
use mathlib.Core.Path.{◌≡◌, refl, sym, ap, ap₂, subst, ◌∙◌}
use mathlib.Core.List.{List, [], ◌∷◌, ◌++◌, append-nil, append_assoc}
use mathlib.Core.Bool.{Bool, true, false, ◌||◌, not, cond}
use mathlib.Core.Logic.{◌⊎◌, inl, inr}
use Prim.Native.Nat.{ℕ, zero, suc, ◌+◌, ◌-◌, ◌≤◌, ◌<◌, min}
use native.Mathlib.Nat.{sub_self, add-sub_cancel_left}
use native.Mathlib.Decide.{ℕ_discrete}
use native.Mathlib.Omega.{arith}
use lib.Dec.{eqb, ltb}
use lib.ListN as L
use lib.ListN.{length, get_or, drop, length-append, length-drop, length-take, take-append-drop}
use lib.Seq.{drop-append-add}
use borrow.Author.Tests.{eqb-true, eqb-false, ltb-true, ltb-false}
use Rattle.lists.specs.Tests.{pick}
use Rattle.protocol.specs.Entry.{proper}
use Rattle.protocol.specs.Beginning.{◌⊑◌, ◌⊏◌, begins, comparable}
use Rattle.protocol.specs.Vote.{Rule}
use Rattle.protocol.specs.Office.{Office}
use Rattle.protocol.specs.Issue.{with_issue, refuse_entry, refusal_at}
use Rattle.protocol.specs.SettledRule.{by_settled}
use Rattle.protocol.specs.Take.{with_take, refuse_take}
use Rattle.protocol.specs.Elect.{with_elect}
use Rattle.protocol.specs.Folding.{
  FoldedOffice,
  Packet,
  settled_length,
  shorn,
  least_known,
  fold_count,
  with_fold,
  with_folded_issue,
  refuse_folded_issue,
  with_folded_elect,
  caught_up,
  from_there,
  with_folded_take,
  begins_past,
  ends_inside,
  refuse_folded_take,
}
use Rattle.protocol.proofs.FoldedWorld.{Desk, Posted, leaving, whole, whole_desk, whole_message}
use Rattle.lists.proofs.Tests.{pick-cases, or_right}
use Rattle.protocol_laws.proofs.Beginning.{⊑_trans, ⊑-comparable, ⊑-append, ⊑-rest, ⊏-length}
use Rattle.protocol.proofs.Effects.{effect_of, rule_behind}
use Rattle.protocol_laws.proofs.Kept.{kept-suffices}
use Rattle.protocol_laws.proofs.Whole.{whole_in, behind, issue-whole, take_whole, refuse-whole, elect-whole}

-- ── lists ──
-- of two beginnings of one list, the one that is no longer is a beginning of the other
pub ⊑-shorter : (a b c : List ℕ) → a ⊑ c → b ⊑ c → length a ≤ length b → a ⊑ b
⊑-shorter a b c p q h = go (⊑-comparable a b c p q)
  where
    go : (a ⊑ b) ⊎ (b ⊏ a) → a ⊑ b
    go (inl x) = x
    go (inr x) = absurd (omega (arith, ⊏-length b a x))

-- the first entries of the log go behind p, and the state is the same as a whole
shorn-whole : (p : List ℕ) (c : ℕ) (o : Office) → whole (p ++ L.take c o.log) (shorn c o) ≡ whole p o
shorn-whole p c o =
    ap (λ (l : List ℕ). record { log = l; tails = o.tails })
    (append_assoc p (L.take c o.log) (drop c o.log) ∙ ap (λ (l : List ℕ). p ++ l) (take-append-drop c o.log))

-- a call that drops nothing
none-goes : (p : List ℕ) (g : ℕ) (l : List ℕ) → p ++ L.take (g - g) l ≡ p
none-goes p g l = ap (λ (c : ℕ). p ++ L.take c l) (sub_self g) ∙ append-nil p

-- a call that drops c entries
some-goes : (p : List ℕ) (g c : ℕ) (l : List ℕ) → p ++ L.take (g + c - g) l ≡ p ++ L.take c l
some-goes p g c l = ap (λ (x : ℕ). p ++ L.take x l) (add-sub_cancel_left g c)

-- ── fold ──
pub least-own : (k own : ℕ) (noted : List ℕ) (n : ℕ) → least_known k own noted n ≤ own
unfolding least_known
least-own k own noted zero = omega arith
least-own k own noted (suc j) =
    pick-cases (λ r. r ≤ own) (eqb j k) (least_known k own noted j) (min (least_known k own noted j) (get_or noted j 0))
    (λ _. least-own k own noted j) (λ _. omega (arith, least-own k own noted j))

pub least-noted : (k own : ℕ) (noted : List ℕ) (n j : ℕ) → j < n → (j ≡ k → ⊥) → least_known k own noted n ≤ get_or noted j 0
unfolding least_known
least-noted k own noted zero j h d = absurd (omega arith)
least-noted k own noted (suc i) j h d =
    pick-cases (λ r. r ≤ get_or noted j 0) (eqb i k) (least_known k own noted i) (min (least_known k own noted i) (get_or noted i 0))
    (λ e. skip (λ b. least-noted k own noted i j b d) e (ℕ_discrete j i)) (λ _. least (λ b. least-noted k own noted i j b d) (ℕ_discrete j i))
  where
    skip : (j < i → least_known k own noted i ≤ get_or noted j 0) → eqb i k ≡ true → Dec (j ≡ i) → least_known k own noted i ≤ get_or noted j 0
    skip ih e (yes q) = absurd (d (q ∙ eqb-true i k e))
    skip ih e (no q) = ih (omega arith)

    least : (j < i → least_known k own noted i ≤ get_or noted j 0) → Dec (j ≡ i) → min (least_known k own noted i) (get_or noted i 0) ≤ get_or noted j 0
    least ih (yes q) = rw q (omega arith)
    least ih (no q) = omega (arith, ih (omega arith))

-- what goes is held
pub fold-held : (n k : ℕ) (f : FoldedOffice) → fold_count n k f ≤ length f.held.log
unfolding fold_count
fold-held n k f = omega (arith, least-own k (settled_length f.dropped f.held) f.noted n)

-- the new dropped count: the old one, or the least that is known
pub fold-dropped : (n k : ℕ) (f : FoldedOffice) → ((with_fold n k f).dropped ≡ f.dropped) ⊎ ((with_fold n k f).dropped ≡ least_known k (settled_length f.dropped f.held) f.noted n)
unfolding with_fold fold_count
fold-dropped n k f = go (least_known k (settled_length f.dropped f.held) f.noted n)
  where
    go : (x : ℕ) → (f.dropped + (x - f.dropped) ≡ f.dropped) ⊎ (f.dropped + (x - f.dropped) ≡ x)
    go x = by (ltb f.dropped x) refl
      where
        by : (t : Bool) → ltb f.dropped x ≡ t → (f.dropped + (x - f.dropped) ≡ f.dropped) ⊎ (f.dropped + (x - f.dropped) ≡ x)
        by true e = inr (omega (arith, ltb-true f.dropped x e))
        by false e = inl (omega (arith, ltb-false f.dropped x e))

pub fold-desk : (n k : ℕ) (d : Desk) → whole_desk (leaving d (with_fold n k d.now)) ≡ whole_desk d
unfolding with_fold
fold-desk n k d =
    let c : ℕ = fold_count n k d.now in
    ap (λ (p : List ℕ). whole p (shorn c d.now.held)) (some-goes d.former d.now.dropped c d.now.held.log) ∙ shorn-whole d.former c d.now.held

-- "answers how many entries went"
pub fold-answers : (n k : ℕ) (d : Desk) → length (leaving d (with_fold n k d.now)).former ≡ length d.former + fold_count n k d.now
unfolding with_fold
fold-answers n k d =
    let c : ℕ = fold_count n k d.now in
    let l : List ℕ = d.now.held.log in
    ap length (some-goes d.former d.now.dropped c l) ∙ length-append d.former (L.take c l) ∙ omega (arith, length-take c l, fold-held n k d.now)

-- ── issue and elect ──
pub issue-desk : (k e : ℕ) (d : Desk) → whole_desk (leaving d (with_folded_issue k e d.now)) ≡ with_issue k e (whole_desk d)
unfolding with_folded_issue
issue-desk k e d =
    ap (λ (p : List ℕ). whole p (with_issue k e d.now.held)) (none-goes d.former d.now.dropped d.now.held.log) ∙ sym (issue-whole d.former k e d.now.held)

pub elect-desk : (founding : List ℕ) (d : Desk) → d.kept ≡ effect_of founding d.former
    → whole_desk (leaving d (with_folded_elect (rule_behind d.kept) d.now)) ≡ with_elect (by_settled founding) (whole_desk d)
unfolding with_folded_elect
elect-desk founding d k =
    let rule : Rule = by_settled founding in
    let same : rule_behind d.kept ≡ behind d.former rule = ap rule_behind k ∙ kept-suffices founding d.former in
    ap (λ (r : Rule). whole (d.former ++ L.take (d.now.dropped - d.now.dropped) d.now.held.log) (with_elect r d.now.held)) same
    ∙ ap (λ (p : List ℕ). whole p (with_elect (behind d.former rule) d.now.held)) (none-goes d.former d.now.dropped d.now.held.log)
    ∙ sym (elect-whole d.former rule d.now.held)

-- the issue found a line and a code within the limits
pub folded-issue-found : (n k line code : ℕ) (f : FoldedOffice) → refuse_folded_issue n k line code f ≡ 0 → refuse_entry n line code ≡ 0
unfolding refuse_folded_issue refusal_at refuse_entry pick
folded-issue-found n k line code f h = go (not (proper n line code)) _ h
  where
    go : (a : Bool) (r : ℕ) → pick a 3 r ≡ 0 → ◌≡◌ {A = ℕ} (pick a 3 0) 0
    go true r h = h
    go false r h = refl

-- ── take ──
-- of 16, 17 and 10 no two hold together: where one log begins past the other's end there is nothing to compare. So in whatever order the three are
-- tested, "the smallest number is given"
pub record Apart (m : Packet) (f : FoldedOffice) : Type 0 where
  pub not-both : begins_past m f ≡ true → ends_inside m f ≡ true → ⊥
  pub past-agrees : begins_past m f ≡ true → comparable (caught_up m f).log (from_there m f).state.log ≡ true
  pub inside-agrees : ends_inside m f ≡ true → comparable (caught_up m f).log (from_there m f).state.log ≡ true

none_first : (a b : List ℕ) → length a ≡ 0 → comparable a b ≡ true
unfolding begins
none_first [] b h = refl
none_first (x ∷ a) b h = absurd (omega (arith, h))

none-second : (a b : List ℕ) → length b ≡ 0 → comparable a b ≡ true
unfolding begins
none-second a [] h = or_right (begins a [])
none-second a (x ∷ b) h = absurd (omega (arith, h))

pub numbers_apart : (m : Packet) (f : FoldedOffice) → Apart m f
numbers_apart m f = record {
  not-both = λ p q. omega (arith, past p, inside q);
  past-agrees = λ p. none_first (caught_up m f).log (from_there m f).state.log (omega (arith, past p, length-drop (m.dropped - f.dropped) f.held.log));
  inside-agrees = λ q. none-second (caught_up m f).log (from_there m f).state.log (omega (arith, inside q, length-drop (f.dropped - m.dropped) m.state.log));
}
  where
    past : begins_past m f ≡ true → settled_length f.dropped f.held < m.dropped
    past p = ltb-true (settled_length f.dropped f.held) m.dropped p

    inside : ends_inside m f ≡ true → settled_length m.dropped m.state < f.dropped
    inside q = ltb-true (settled_length m.dropped m.state) f.dropped q

pub record TakeFound (k : ℕ) (m : Packet) (f : FoldedOffice) : Type 0 where
  pub other : m.sender ≡ k → ⊥
  pub reaches : m.dropped ≤ settled_length f.dropped f.held
  pub lasts : f.dropped ≤ settled_length m.dropped m.state
  pub agrees : refuse_take k (from_there m f) (caught_up m f) ≡ 0

module _ (k : ℕ) (m : Packet) (f : FoldedOffice) where
  pub take_found : refuse_folded_take k m f ≡ 0 → TakeFound k m f
  unfolding refuse_folded_take pick
  take_found h = go (eqb m.sender k) refl (begins_past m f) refl (ends_inside m f) refl h
    where
      go : (a : Bool) → eqb m.sender k ≡ a → (b : Bool) → begins_past m f ≡ b → (c : Bool) → ends_inside m f ≡ c
          → ◌≡◌ {A = ℕ} (pick a 9 (pick b 16 (pick c 17 (refuse_take k (from_there m f) (caught_up m f))))) 0 → TakeFound k m f
      go true p b q c r x = absurd (omega arith)
      go false p true q c r x = absurd (omega arith)
      go false p false q true r x = absurd (omega arith)
      go false p false q false r x = record { other = eqb-false m.sender k p; reaches = ltb-false _ _ q; lasts = ltb-false _ _ r; agrees = x }

  -- 10 is met behind both dropped parts
  pub take-ten : refuse_folded_take k m f ≡ 10
      → (m.dropped ≤ settled_length f.dropped f.held) × (f.dropped ≤ settled_length m.dropped m.state) × (refuse_take k (from_there m f) (caught_up m f) ≡ 10)
  unfolding refuse_folded_take pick
  take-ten h = go (eqb m.sender k) (begins_past m f) refl (ends_inside m f) refl h
    where
      go : (a b : Bool) → begins_past m f ≡ b → (c : Bool) → ends_inside m f ≡ c → ◌≡◌ {A = ℕ} (pick a 9 (pick b 16 (pick c 17 (refuse_take k (from_there m f) (caught_up m f))))) 10
          → (m.dropped ≤ settled_length f.dropped f.held) × (f.dropped ≤ settled_length m.dropped m.state) × (refuse_take k (from_there m f) (caught_up m f) ≡ 10)
      go true b q c r x = absurd (omega arith)
      go false true q c r x = absurd (omega arith)
      go false false q true r x = absurd (omega arith)
      go false false q false r x = (ltb-false _ _ q, ltb-false _ _ r, x)

  -- take's numbers
  pub take-values : (refuse_folded_take k m f ≡ 0) ⊎ ((refuse_folded_take k m f ≡ 9) ⊎ ((refuse_folded_take k m f ≡ 10) ⊎ ((refuse_folded_take k m f ≡ 16) ⊎ (refuse_folded_take k m f ≡ 17))))
  unfolding refuse_folded_take refuse_take pick
  take-values =
      let l : List ℕ = (caught_up m f).log in
      let r : List ℕ = (from_there m f).state.log in
      go (eqb m.sender k) (begins_past m f) (ends_inside m f) (begins l r || begins r l)
    where
      N : Bool → Bool → Bool → Bool → ℕ
      N a b c d = pick a 9 (pick b 16 (pick c 17 (cond a 9 (cond d 0 10))))

      go : (a b c d : Bool) → (N a b c d ≡ 0) ⊎ ((N a b c d ≡ 9) ⊎ ((N a b c d ≡ 10) ⊎ ((N a b c d ≡ 16) ⊎ (N a b c d ≡ 17))))
      go true b c d = inr (inl refl)
      go false true c d = inr (inr (inr (inl refl)))
      go false false true d = inr (inr (inr (inr refl)))
      go false false false true = inl refl
      go false false false false = inr (inr (inl refl))

  -- 9 is met at the sender's own office alone
  pub take-nine : refuse_folded_take k m f ≡ 9 → m.sender ≡ k
  unfolding refuse_folded_take refuse_take pick
  take-nine h =
      let l : List ℕ = (caught_up m f).log in
      let r : List ℕ = (from_there m f).state.log in
      go (eqb m.sender k) refl (begins_past m f) (ends_inside m f) (begins l r || begins r l) h
    where
      go : (a : Bool) → eqb m.sender k ≡ a → (b c d : Bool) → ◌≡◌ {A = ℕ} (pick a 9 (pick b 16 (pick c 17 (cond a 9 (cond d 0 10))))) 9 → m.sender ≡ k
      go true q b c d x = eqb-true m.sender k q
      go false q true c d x = absurd (omega arith)
      go false q false true d x = absurd (omega arith)
      go false q false false true x = absurd (omega arith)
      go false q false false false x = absurd (omega arith)

  -- 16 is met only past the receiver's length
  pub take-sixteen : m.dropped ≤ settled_length f.dropped f.held → refuse_folded_take k m f ≡ 16 → ⊥
  unfolding refuse_folded_take refuse_take pick
  take-sixteen h e =
      let l : List ℕ = (caught_up m f).log in
      let r : List ℕ = (from_there m f).state.log in
      go (eqb m.sender k) (begins_past m f) refl (ends_inside m f) (begins l r || begins r l) e
    where
      go : (a b : Bool) → begins_past m f ≡ b → (c d : Bool) → ◌≡◌ {A = ℕ} (pick a 9 (pick b 16 (pick c 17 (cond a 9 (cond d 0 10))))) 16 → ⊥
      go true b q c d x = omega arith
      go false true q c d x = omega (arith, ltb-true (settled_length f.dropped f.held) m.dropped q)
      go false false q true d x = omega arith
      go false false q false true x = omega arith
      go false false q false false x = omega arith

-- a desk and a message whose whole logs are beginnings of one list, and neither of whose dropped parts ends past the other's log
module _ (d : Desk) (m : Posted) (q : List ℕ) (counted : d.now.dropped ≡ length d.former) (counts : m.message.dropped ≡ length m.former)
    (mine : (whole_desk d).log ⊑ q) (theirs : (whole_message m).state.log ⊑ q)
    (reaches : m.message.dropped ≤ settled_length d.now.dropped d.now.held) (lasts : d.now.dropped ≤ settled_length m.message.dropped m.message.state) where
  -- what both have dropped once the take has dropped its part
  abbrev base : List ℕ
  base = d.former ++ L.take (m.message.dropped - d.now.dropped) d.now.held.log

  here : whole base (caught_up m.message d.now) ≡ whole_desk d
  here = shorn-whole d.former (m.message.dropped - d.now.dropped) d.now.held

  base-length : length base ≡ length m.former + (d.now.dropped - m.message.dropped)
  base-length =
      length-append d.former (L.take (m.message.dropped - d.now.dropped) d.now.held.log)
      ∙ omega (arith, length-take (m.message.dropped - d.now.dropped) d.now.held.log)

  base-begins : base ⊑ (whole_message m).state.log
  base-begins =
      let their : List ℕ = (whole_message m).state.log in
      let top : base ⊑ q = ⊑_trans base (whole_desk d).log q (subst (λ (o : Office). base ⊑ o.log) here (⊑-append base (caught_up m.message d.now).log)) mine in
      ⊑-shorter base their q top theirs (omega (arith, base-length, length-append m.former m.message.state.log))

  there : whole_in base (from_there m.message d.now) ≡ whole_message m
  there =
      let their : List ℕ = (whole_message m).state.log in
      let rest : drop (length base) their ≡ drop (d.now.dropped - m.message.dropped) m.message.state.log =
      ap (λ (c : ℕ). drop c their) base-length ∙ drop-append-add m.former m.message.state.log (d.now.dropped - m.message.dropped) in
      ap (λ (l : List ℕ). record { sender = m.message.sender; state = record { log = l; tails = m.message.state.tails } })
      (ap (λ (l : List ℕ). base ++ l) (sym rest) ∙ ⊑-rest base their base-begins)

  pub refuse-desk : (k : ℕ) → refuse_take k (from_there m.message d.now) (caught_up m.message d.now) ≡ refuse_take k (whole_message m) (whole_desk d)
  refuse-desk k = sym (refuse-whole base k (from_there m.message d.now) (caught_up m.message d.now)) ∙ ap₂ (refuse_take k) there here

  pub take-desk : (k : ℕ) → whole_desk (leaving d (with_folded_take k m.message d.now)) ≡ with_take k (whole_message m) (whole_desk d)
  unfolding with_folded_take
  take-desk k =
      let held : Office = with_take k (from_there m.message d.now) (caught_up m.message d.now) in
      ap (λ (p : List ℕ). whole p held) (some-goes d.former d.now.dropped (m.message.dropped - d.now.dropped) d.now.held.log)
      ∙ sym (take_whole base k (from_there m.message d.now) (caught_up m.message d.now))
      ∙ ap₂ (with_take k) there here
