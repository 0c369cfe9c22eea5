-- What an office of the world with folding keeps, after any list of calls: "Kept counts add up to the dropped count, kept weights to the total".
-- The kept values are those that the dropped entries make (`kept` of FoldedOrder).
--     kept-weights, kept-counts    the sums
--     present-at                   what is kept, with the held entries, makes the weights, codes and counts of the whole log
--     equal-at                     so two offices with equal whole logs have the same, whatever each has dropped
-- Assumes nothing.
use mathlib.Core.Path.{◌≡◌, refl, sym, ap, ◌∙◌}
use mathlib.Core.List.{List, [], ◌∷◌, append-nil}
use mathlib.Core.Bool.{Bool, true}
use Prim.Native.Nat.{ℕ, ◌≤◌, ◌<◌}
use native.Mathlib.Omega.{arith}
use lib.Dec.{ltb}
use lib.ListN.{length, get_or}
use borrow.Author.Tests.{lt-ltb}
use Rattle.lists.specs.Tests.{all_b}
use Rattle.protocol.specs.Entry.{office_of}
use Rattle.protocol.specs.Beginning.{◌⊑◌}
use Rattle.protocol.specs.Limits.{total}
use Rattle.protocol.specs.Counts.{no_counts}
use Rattle.protocol.specs.Office.{Office}
use Rattle.lists.proofs.Tests.{both-0, both-1, both_true, all_of}
use Rattle.protocol_laws.proofs.Beginning.{⊑_trans, ⊑-append}
use Rattle.protocol_laws.proofs.Moves.{weights-total}
use Rattle.protocol_laws.proofs.Counts.{counts-total}
use Rattle.protocol.proofs.Effects.{Effect, no_effect, effect_after, effect_of}
use Rattle.protocol_laws.proofs.Kept.{kept_append}
use Rattle.protocol.proofs.FoldedWorld.{Desk, World, Call, desk_at, whole_desk, log_at}
use Rattle.one_order.proofs.FoldedSound.{Sound, view-at}
use Rattle.one_order.proofs.FoldedOrder.{world, FoldedOrder, folded-one-order}

-- a test of every entry, at a beginning
all-⊑ : (t : ℕ → Bool) (a b : List ℕ) → a ⊑ b → all_b t b ≡ true → all_b t a ≡ true
unfolding all_b
all-⊑ t [] b h e = refl
all-⊑ t (x ∷ a) [] h e = absurd h
all-⊑ t (x ∷ a) (y ∷ b) h e = both_true (t x) (all_b t a) (rw h.0 (both-0 (t y) (all_b t b) e)) (all-⊑ t a b h.1 (both-1 (t y) (all_b t b) e))

module _ (founding : List ℕ) (n : ℕ) (pos : 0 < n) (most : n ≤ 8) (cs : List Call) (k : ℕ) (here : k < n) where
  abbrev desk : Desk
  desk = desk_at (world founding n cs) k

  abbrev one : FoldedOrder founding n cs
  one = folded-one-order founding n pos most cs

  pub kept-weights : total desk.kept.weights ≡ total founding
  kept-weights = ap (λ (x : Effect). total x.weights) (one.kept cs [] (append-nil cs) k here) ∙ weights-total founding desk.former

  pub kept-counts : total desk.kept.counts ≡ desk.now.dropped
  unfolding total
  kept-counts =
      let q : List ℕ = one.one.order in
      let office : ℕ → Bool = λ e. ltb (office_of e) (length (no_counts 8)) in
      let offices : all_b office q ≡ true =
      all_of office 0 q (λ i b. let s = one.one.issued i b in lt-ltb (office_of (get_or q i 0)) 8 (omega (arith, s.its-office, s.known))) in
      let log : (whole_desk desk).log ⊑ q = rw (← ap (λ (o : Office). o.log) (view-at (world founding n cs) k)) (one.one.logs cs [] (append-nil cs) k) in
      let within : desk.former ⊑ q = ⊑_trans desk.former (whole_desk desk).log q (⊑-append desk.former desk.now.held.log) log in
      let none : total (no_counts 8) ≡ 0 = refl in
      ap (λ (x : Effect). total x.counts) (one.kept cs [] (append-nil cs) k here)
      ∙ counts-total (no_counts 8) desk.former (all-⊑ office desk.former q within offices)
      ∙ omega (arith, none, one.counted cs [] (append-nil cs) k)

-- of office k in a world that the calls reach
pub present-at : (founding : List ℕ) (n : ℕ) (w : World) → Sound founding n w → (k : ℕ) → k < n
    → effect_after (desk_at w k).kept (desk_at w k).now.held.log ≡ effect_of founding (log_at w k)
present-at founding n w s k h =
    let d : Desk = desk_at w k in
    ap (λ (x : Effect). effect_after x d.now.held.log) (s.kept k h) ∙ kept_append (no_effect founding) d.former d.now.held.log

-- of two offices, at one moment or at two
pub equal-at : (founding : List ℕ) (n : ℕ) (w v : World) → Sound founding n w → Sound founding n v → (j k : ℕ) → j < n → k < n → log_at w j ≡ log_at v k
    → effect_after (desk_at w j).kept (desk_at w j).now.held.log ≡ effect_after (desk_at v k).kept (desk_at v k).now.held.log
equal-at founding n w v s t j k a b e = present-at founding n w s j a ∙ ap (effect_of founding) e ∙ sym (present-at founding n v t k b)
