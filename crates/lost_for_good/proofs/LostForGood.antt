-- Lost entries in the world of demand 3. A call loses an entry only where it settles another at that place or before it (own_entries/proofs/Parts,
-- `lost-nowhere`), and there is one order. Assumes nothing.
use mathlib.Core.Path.{◌≡◌, refl, sym, ap, ap₂, subst, subst₂, ◌∙◌}
use mathlib.Core.List.{List, [], ◌∷◌, ◌++◌, append-nil, append_assoc}
use mathlib.Core.Bool.{Bool, true, false, true≢false}
use mathlib.Core.Logic.{◌⊎◌, inl, inr}
use Rattle.std.specs.Prelude.{Option, Some}
use Prim.Native.Nat.{ℕ}
use native.Mathlib.Omega.{arith}
use Rattle.protocol.specs.Beginning.{◌⊑◌, begins}
use Rattle.protocol.specs.Entry.{value, office_of, line_of, code_of}
use Rattle.protocol.specs.Office.{Office, fresh, path, tail}
use Rattle.protocol_laws.proofs.Beginning.{⊑_refl, ⊑_trans, ⊏-⊑-trans, ⊏-irrefl, ⊏-cons, ⊑-append, begins-true, begins-of}
use Rattle.protocol_laws.proofs.Office.{OfficeMoves}
use Rattle.own_entries.specs.Parts.{Loses}
use Rattle.own_entries.proofs.Parts as Parts
use Rattle.agreement.specs.World.{Replica, World, Call, issue, replica_at, on_some, after}
use Rattle.agreement.specs.Demand.{Founded, says, log_at, view_at, order, IssuedIn}
use Rattle.agreement.proofs.Demand.{one-order}
use Rattle.lost_for_good.specs.LostForGood.{InPath, Settled, Pending, LostIn, LostForGood, NotLost, AllOrNone}
use Rattle.lost_for_good.proofs.Moves.{office_at, log_is, path-is, sound, one-moves, list-moves, issue-view}

-- the value of an entry's three parts is the entry
pub parts-value : (e : ℕ) → value (office_of e) (line_of e) (code_of e) ≡ e
parts-value e = omega arith

-- what an office says
office-is : (w : World) (k : ℕ) (d : Replica) → replica_at w k ≡ Some d → office_at w k ≡ says d
office-is w k d e = ap (λ (x : Option Replica). on_some x fresh says) e

module _ (n : ℕ) (ws : List ℕ) (start : World) (f : Founded n ws start) (cs : List Call) where
  -- the own path is that of the office
  in_path : (a : List Call) (k : ℕ) → path (office_at (after start a) k) k ≡ view_at (after start a) k
  in_path a k = path-is n ws (after start a) (sound n ws start f a) k

  module _ (k : ℕ) (p : List ℕ) (e : ℕ) (lost : LostIn start cs k p e) where
    abbrev next : List Call
    next = lost.earlier ++ (lost.c ∷ [])

    loses : Loses k (office_at (after start lost.earlier) k) (office_at (after start next) k) p e
    loses = (rw (in_path lost.earlier k) lost.lost.0, rw (in_path next k) lost.lost.1)

    -- nothing that begins with the office's log after the call has it there
    nowhere : (r : List ℕ) → (office_at (after start next) k).log ⊑ r → (p ++ (e ∷ [])) ⊑ r → ⊥
    nowhere =
        let o : Office = office_at (after start lost.earlier) k in
        Parts.lost-nowhere k o (office_at (after start next) k) (one-moves n ws start f lost.earlier lost.c k) p e loses

    not-ordered : (p ++ (e ∷ [])) ⊑ order start cs → ⊥
    not-ordered =
        let split : next ++ lost.later ≡ cs = append_assoc lost.earlier (lost.c ∷ []) lost.later ∙ lost.listed in
        nowhere (order start cs) (rw (log_is (after start next) k) ((one-order n ws start f cs).logs next lost.later split k))

    never_back : (between : List Call) (d : Replica) → replica_at (after start (lost.earlier ++ (lost.c ∷ between))) k ≡ Some d
        → (j : ℕ) → (p ++ (e ∷ [])) ⊑ path (says d) j → ⊥
    never_back between d here j =
        let o : Office = office_at (after start next) k in
        let same : office_at (after start (next ++ between)) k ≡ says d =
        ap (λ (l : List Call). office_at (after start l) k) (append_assoc lost.earlier (lost.c ∷ []) between)
        ∙ office-is (after start (lost.earlier ++ (lost.c ∷ between))) k d here in
        let grown : o.log ⊑ (says d).log = subst (λ (x : Office). o.log ⊑ x.log) same (list-moves n ws start f next between k).0 in
        nowhere (path (says d) j) (⊑_trans o.log (says d).log (path (says d) j) grown (⊑-append (says d).log (tail (says d) j)))

  -- an entry of the own path is there still, or a call of those that follow loses it
  kept-or-lost : (a b : List Call) → a ++ b ≡ cs → (k : ℕ) (p : List ℕ) (e : ℕ) → InPath (after start a) k p e
      → InPath (after start cs) k p e ⊎ LostIn start cs k p e
  kept-or-lost a [] h k p e had = inl (rw (← h, append-nil) had)
  kept-or-lost a (c ∷ b) h k p e had = go (begins q next) refl (kept-or-lost (a ++ (c ∷ [])) b (append_assoc a (c ∷ []) b ∙ h) k p e)
    where
      q : List ℕ
      q = p ++ (e ∷ [])

      next : List ℕ
      next = view_at (after start (a ++ (c ∷ []))) k

      Goal : Type 0
      Goal = InPath (after start cs) k p e ⊎ LostIn start cs k p e

      go : (t : Bool) → begins q next ≡ t → (q ⊑ next → Goal) → Goal
      go true d later = later (begins-true q next d)
      go false d later = inr (record { earlier = a; c = c; later = b; listed = h; lost = (had, λ x. true≢false (sym (begins-of q next x) ∙ d)) })

  one_of_three : (a b : List Call) → a ++ b ≡ cs → (k : ℕ) (p : List ℕ) (e : ℕ) → InPath (after start a) k p e
      → Settled (after start cs) k p e ⊎ (Pending (after start cs) k p e ⊎ LostIn start cs k p e)
  one_of_three a b h k p e had = go (begins q log) refl (kept-or-lost a b h k p e had)
    where
      q : List ℕ
      q = p ++ (e ∷ [])

      log : List ℕ
      log = log_at (after start cs) k

      go : (t : Bool) → begins q log ≡ t → InPath (after start cs) k p e ⊎ LostIn start cs k p e
          → Settled (after start cs) k p e ⊎ (Pending (after start cs) k p e ⊎ LostIn start cs k p e)
      go true d x = inl (begins-true q log d)
      go false d (inl x) = inr (inl (x, λ s. true≢false (sym (begins-of q log s) ∙ d)))
      go false d (inr x) = inr (inr x)

  pends : (view : List ℕ) (e : ℕ) (i : IssuedIn start cs view e)
      → Pending (after start (i.earlier ++ (issue (office_of e) (line_of e) (code_of e) ∷ []))) (office_of e) view e
  pends view e i =
      let k : ℕ = office_of e in
      let w : World = after start i.earlier in
      let o : Office = office_at w k in
      let q : List ℕ = view ++ (e ∷ []) in
      let now = issue-view n ws start f i.earlier k (line_of e) (code_of e) i.there i.done in
      let is : view_at w k ++ (value k (line_of e) (code_of e) ∷ []) ≡ q = ap₂ (λ (l : List ℕ) (v : ℕ). l ++ (v ∷ [])) i.exactly (parts-value e) in
      let low : log_at w k ⊑ view = subst₂ ◌⊑◌ (log_is w k) (in_path i.earlier k ∙ i.exactly) (⊑-append o.log (tail o k)) in (
        rw (now.1, is) (⊑_refl q),
        λ s. ⊏-irrefl view
            (⊏-⊑-trans view q view (⊏-cons view e []) (⊑_trans q (log_at w k) view (subst (λ (l : List ℕ). q ⊑ l) now.0 s) low)),
      )

pub lost-for-good : (n : ℕ) (weights : List ℕ) (start : World) → Founded n weights start → (cs : List Call) → LostForGood start cs
lost-for-good n ws start f cs = record {
  for-good = λ k p e lost earlier later h j has.
      not-ordered n ws start f cs k p e lost
      (⊑_trans (p ++ (e ∷ [])) (log_at (after start earlier) j) (order start cs) has ((one-order n ws start f cs).logs earlier later h j));
  not-ordered = not-ordered n ws start f cs;
  never_back = λ k p e lost between rest h. never_back n ws start f cs k p e lost between;
}

pub not-lost : (n : ℕ) (weights : List ℕ) (start : World) → Founded n weights start → (cs : List Call) → NotLost start cs
not-lost n ws start f cs = record { pends = pends n ws start f cs; one_of_three = one_of_three n ws start f cs }

pub all-or-none : (n : ℕ) (weights : List ℕ) (start : World) → Founded n weights start → (cs : List Call) → AllOrNone start cs
all-or-none n ws start f cs earlier later c listed k d d' here behind =
    let w' : World = after start (earlier ++ (c ∷ [])) in
    Parts.all-or-none k (says d) (says d')
    (subst₂ (OfficeMoves k) (office-is (after start earlier) k d here) (office-is w' k d' behind) (one-moves n ws start f earlier c k))
