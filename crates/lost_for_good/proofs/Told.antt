-- What `report` tells as lost is lost for good: a take, elect or fold of the list is a call on records (outcome/proofs/Claims, `after_call`), and what an
-- office says after it is what the call left, behind what was dropped. Assumes nothing.
use mathlib.Core.Path.{◌≡◌, refl, sym, ap, ap₂, subst, subst₂, ◌∙◌}
use mathlib.Core.Bool.{true, true≢false}
use mathlib.Core.List.{List, [], ◌∷◌, ◌++◌, append-nil}
use mathlib.Core.Logic.{◌⊎◌, ◌↔◌, inl, inr}
use Rattle.std.specs.Prelude.{Option, None, Some}
use Prim.Native.Nat.{ℕ, ◌-◌}
use native.Mathlib.Omega.{arith}
use Rattle.protocol.specs.Beginning.{◌⊑◌}
use Rattle.protocol.specs.Entry.{office_of}
use Rattle.protocol.specs.Office.{path}
use Rattle.own_entries.specs.Parts.{Stands}
use Rattle.lists.specs.Tests.{both, pick}
use Rattle.spelling.specs.Reading.{reading, layout_ok, head_ok}
use Rattle.frame.specs.Soundness.{sound_b}
use Rattle.taking.specs.Taking.{take_number, take_of, take_words}
use Rattle.frame.proofs.Sound.{sound-true}
use Rattle.outcome.specs.Outcome.{lost_entries, report_of}
use Rattle.outcome.specs.Claims.{Called, took, elected, folded, whole_of, former_after, AfterCall}
use Rattle.outcome.proofs.Claims.{after_call, refusals}
use Rattle.agreement.specs.World as W
use Rattle.agreement.specs.World.{Replica, Posted, World, Call, take, elect, fold, replica_at, message_at, on_some, put, step, after}
use Rattle.agreement.specs.Demand.{Founded, says, view_at}
use Rattle.agreement.proofs.Places.{there}
use Rattle.lost_for_good.specs.LostForGood.{Settled, LostBy, LostIn, CalledAt, ToldLost}
use Rattle.lost_for_good.proofs.Moves.{after_one, set_at, sound}
use Rattle.lost_for_good.proofs.LostForGood.{lost-for-good}

-- ── what a call of the list left at its office ──
-- the record and log of a call on records, behind what was dropped by it
pub record Left (d d' : Replica) : Type 0 where
  pub called : Called d.held d.words d'.held d'.words
  pub former : former_after d.former d.held d.words d'.held d'.words ≡ d'.former

-- a take of no message leaves what a take of no bytes leaves, which is refused: nothing changes
no-message : (d : Replica) → sound_b d.held d.words ≡ true → Left d d
unfolding take_of take_words take_number reading layout_ok head_ok pick both
no-message d e = record {
  called = took [] (rw e refl) (rw e refl);
  former = let z : d.held.kept.dropped - d.held.kept.dropped ≡ 0 = omega arith in rw (z, append-nil) refl;
}

-- the replica that a call put there
is-put : (w v : World) (k : ℕ) (d d' x : Replica) → replica_at w k ≡ Some d → v ≡ put w k x → replica_at v k ≡ Some d' → x ≡ d'
is-put w v k d d' x here e left =
    let there : Some x ≡ Some d' = sym (set_at w.replicas k x (there w.replicas k d here)) ∙ ap (λ (u : World). replica_at u k) (sym e) ∙ left in
    cc

module _ (n : ℕ) (ws : List ℕ) (start : World) (f : Founded n ws start) (cs : List Call) (k : ℕ) (d d' : Replica) (x : CalledAt start cs k d d') where
  abbrev w : World
  w = after start x.earlier

  abbrev w' : World
  w' = after start (x.earlier ++ (x.c ∷ []))

  sound-before : sound_b d.held d.words ≡ true
  sound-before = sound-true d.held d.words ((sound n ws start f x.earlier).each k d x.was).sound

  -- the world after the call
  moved : (c : Call) → x.c ≡ c → w' ≡ step w c
  moved c e = after_one start x.earlier x.c ∙ ap (step w) e

  -- by what is there of the office and the message
  abbrev by_take : Option Replica → Option Posted → World
  by_take r s = on_some r w (λ a. on_some s w (λ b. put w k (W.taken a b.bytes)))

  left : Left d d'
  unfolding step
  left = go x.is
    where
      by-take : (m : ℕ) → x.c ≡ take k m → (y : Option Posted) → message_at w m ≡ y → Left d d'
      by-take m e None q =
          let still : w' ≡ w = moved (take k m) e ∙ ap₂ by_take x.was q in
          let same : Some d ≡ Some d' = sym x.was ∙ ap (λ (u : World). replica_at u k) (sym still) ∙ x.left in
          let z : d ≡ d' = cc in
          subst (Left d) z (no-message d sound-before)
      by-take m e (Some b) q =
          let to : w' ≡ put w k (W.taken d b.bytes) = moved (take k m) e ∙ ap₂ by_take x.was q in
          subst (Left d) (is-put w w' k d d' (W.taken d b.bytes) x.was to x.left) (record { called = took b.bytes refl refl; former = refl })

      go : ((m : ℕ) × (x.c ≡ take k m)) ⊎ ((x.c ≡ elect k) ⊎ (x.c ≡ fold k)) → Left d d'
      go (inl e) = by-take e.0 e.1 (message_at w e.0) refl
      go (inr (inl e)) =
          let to : w' ≡ put w k (W.elected d) = moved (elect k) e ∙ ap (λ (r : Option Replica). on_some r w (λ a. put w k (W.elected a))) x.was in
          subst (Left d) (is-put w w' k d d' (W.elected d) x.was to x.left) (record { called = elected refl refl; former = refl })
      go (inr (inr e)) =
          let to : w' ≡ put w k (W.folded d) = moved (fold k) e ∙ ap (λ (r : Option Replica). on_some r w (λ a. put w k (W.folded a))) x.was in
          subst (Left d) (is-put w w' k d d' (W.folded d) x.was to x.left) (record { called = folded refl refl; former = refl })

  -- ── what is told ──
  after-it : (rest : List ℕ) → AfterCall d.held d.words d'.held d'.words rest
  after-it = after_call d.held d.words d'.held d'.words sound-before left.called

  accepted : (rest : List ℕ) → (report_of d.held d'.held d'.words rest).number ≡ 1 → ⊥
  accepted rest h = true≢false (sym (after-it rest).accepted ∙ (refusals d.held d'.held d'.words rest).one.0 h)

  own : d.held.own ≡ k
  own = ((sound n ws start f x.earlier).each k d x.was).own

  own-after : d'.held.own ≡ d.held.own
  own-after = ((sound n ws start f (x.earlier ++ (x.c ∷ []))).each k d' x.left).own ∙ sym own

  view-before : view_at w k ≡ path (says d) d.held.own
  view-before = ap (λ (r : Option Replica). on_some r [] (λ a. path (says a) a.held.own)) x.was

  view-after : view_at w' k ≡ path (whole_of (former_after d.former d.held d.words d'.held d'.words) d'.held d'.words) d.held.own
  view-after =
      ap (λ (r : Option Replica). on_some r [] (λ a. path (says a) a.held.own)) x.left ∙ ap (path (says d')) own-after
      ∙ ap (λ (l : List ℕ). path (whole_of l d'.held d'.words) d.held.own) (sym left.former)

  -- the entry e behind p is in one path, and not in another
  abbrev Parted : ℕ → List ℕ → List ℕ → List ℕ → Type 0
  Parted e p a b = ((p ++ (e ∷ [])) ⊑ a) × ((p ++ (e ∷ [])) ⊑ b → ⊥)

  exactly : (e : ℕ) → Stands (lost_entries d.held d'.held d'.words) e ↔ ((office_of e ≡ k) × ((p : List ℕ) × LostBy start x.earlier x.c k p e))
  exactly e =
      let t = (after-it []).told-lost d.former e in (
        λ s. let y = t.0 s in (y.0 ∙ own, (y.1.0, subst₂ (Parted e y.1.0) (sym view-before) (sym view-after) y.1.1)),
        λ y. t.1 (y.0 ∙ sym own, (y.1.0, subst₂ (Parted e y.1.0) view-before view-after y.1.1)),
      )

  told-for-good : (e : ℕ) → Stands (lost_entries d.held d'.held d'.words) e
      → (p : List ℕ) × LostBy start x.earlier x.c k p e
      × ((earlier later : List Call) → earlier ++ later ≡ cs → (j : ℕ) → Settled (after start earlier) j p e → ⊥)
  told-for-good e s =
      let y = ((exactly e).0 s).1 in
      let lost : LostIn start cs k y.0 e = record { earlier = x.earlier; c = x.c; later = x.later; listed = x.listed; lost = y.1 } in
      (y.0, y.1, (lost-for-good n ws start f cs).for-good k y.0 e lost)

pub told-lost : (n : ℕ) (weights : List ℕ) (start : World) → Founded n weights start → (cs : List Call) → ToldLost start cs
told-lost n ws start f cs = record { accepted = accepted n ws start f cs; exactly = exactly n ws start f cs; told-for-good = told-for-good n ws start f cs }
