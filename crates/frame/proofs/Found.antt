-- What founding answers, and what it leaves.
--     found-short, found-unfit, found-made    each way out of the call
--     weights-fine    the founding weights of a record are within the limits
--     found-sound     a done founding makes a sound record, with the fresh state
--     found-zero      a refused one makes the all-zero record
-- Assumes nothing.
use mathlib.Core.Path.{◌≡◌, refl, sym, ap, subst, ◌∙◌}
use mathlib.Core.Bool.{Bool, true, false}
use mathlib.Core.List.{List}
use Prim.Native.Nat.{ℕ, ◌<◌, ◌≤◌}
use native.Mathlib.Omega.{arith}
use lib.Dec.{leb}
use lib.ListN.{length, replicate}
use borrow.Author.Tests.{leb-true, le-leb, lt-leb}
use Rattle.lists.specs.Tests.{pick}
use Rattle.lists.proofs.Tests.{both-1}
use Rattle.protocol.specs.Folding.{unfolded}
use Rattle.protocol_laws.proofs.FoldedLimits.{unfolded-fine}
use Rattle.protocol_laws.proofs.Limits as Limits
use Rattle.protocol.specs.Limits.{head_fine, weights_fine, Head, long_enough, found_number}
use Rattle.ballots.specs.Ballots.{no_ballot}
use Rattle.summary.specs.Summary.{start_with}
use Rattle.summary.proofs.Laws.{summary-nil}
use Rattle.kept.specs.Kept.{kept_nothing}
use Rattle.kept.proofs.Laws.{nothing-fine}
use Rattle.frame.specs.State.{folded_by, with_held, holding_behind, fresh_record, zero_record}
use Rattle.frame.specs.Soundness.{Sound}
use Rattle.frame.specs.Founding.{found_of}
use Rattle.frame.specs.declared.Record.{Record}
use Rattle.frame.specs.declared.founding.Founded.{Founded}
use Rattle.frame.proofs.State.{held-behind, sound-behind}

-- ── each way out of the call ──
module _ (n own : ℕ) (ws words : List ℕ) where
  pub found-short : (x : Founded) → x ≡ record { number = 1; «record» = zero_record } → length words < 1024 → x ≡ found_of n own ws words
  unfolding found_of found_number long_enough pick
  found-short x e h = e ∙ rw (lt-leb 1024 (length words) h)

  pub found-unfit : (x : Founded) → x ≡ record { number = 2; «record» = zero_record } → 1024 ≤ length words → head_fine n own ws ≡ false → x ≡ found_of n own ws words
  unfolding found_of found_number long_enough pick
  found-unfit x e h f = e ∙ rw (le-leb 1024 (length words) h, f)

  pub found-made : (r : Record) → r ≡ fresh_record n own ws → 1024 ≤ length words → head_fine n own ws ≡ true → ◌≡◌ {A = Founded} (record { number = 0; «record» = r }) (found_of n own ws words)
  unfolding found_of found_number long_enough pick
  found-made r e h f = rw (le-leb 1024 (length words) h, f) (λ i. record { number = 0; «record» = e i })

-- ── what it leaves ──
pub weights-fine : (n own : ℕ) (founding : List ℕ) → Head n own founding → weights_fine n founding ≡ true
unfolding head_fine
weights-fine n own founding H = both-1 _ _ (Limits.head-true n own founding H)

-- what a done founding found, and the record that it made
pub record FoundDone (n own : ℕ) (ws words : List ℕ) : Type 0 where
  pub room : 1024 ≤ length words
  pub head : Head n own ws
  pub made : (found_of n own ws words).«record» ≡ fresh_record n own ws

pub found-done : (n own : ℕ) (ws words : List ℕ) → (found_of n own ws words).number ≡ 0 → FoundDone n own ws words
unfolding found_of found_number long_enough pick
found-done n own ws words q = go (leb 1024 (length words)) refl (head_fine n own ws) refl q
  where
    go : (a : Bool) → leb 1024 (length words) ≡ a → (b : Bool) → head_fine n own ws ≡ b → ◌≡◌ {A = ℕ} (pick a (pick b 0 2) 1) 0 → FoundDone n own ws words
    go true e true f z = record { room = leb-true 1024 (length words) e; head = Limits.head n own ws f; made = rw (e, f) }
    go true e false f z = absurd (omega arith)
    go false e b f z = absurd (omega arith)

module _ (n own : ℕ) (ws words : List ℕ) (q : (found_of n own ws words).number ≡ 0) where
  -- the fresh record holds an office that has dropped nothing, behind nothing kept
  fresh-held : fresh_record n own ws ≡ holding_behind (fresh_record n own ws) (kept_nothing ws) unfolded
  fresh-held = λ i. with_held (fresh_record n own ws) (kept_nothing ws) (replicate 8 0) (sym (summary-nil (start_with ws)) i) 0 (replicate 8 no_ballot)

  pub found-sound : Sound (found_of n own ws words).«record» words
  found-sound =
      let D = found-done n own ws words q in
      subst (λ (r : Record). Sound r words) (sym (D.made ∙ fresh-held))
      (sound-behind (fresh_record n own ws) (kept_nothing ws) unfolded words D.head (nothing-fine n ws (weights-fine n own ws D.head)) refl (unfolded-fine n own) D.room)

  -- "a fresh record has an empty log and no ballots"
  pub found-fresh : folded_by (found_of n own ws words).«record» words ≡ unfolded
  found-fresh = let D = found-done n own ws words q in ap (λ (r : Record). folded_by r words) (D.made ∙ fresh-held) ∙ held-behind (fresh_record n own ws) (kept_nothing ws) unfolded refl words

  pub found-kept : (found_of n own ws words).«record».kept ≡ kept_nothing ws
  found-kept = ap (λ (r : Record). r.kept) (found-done n own ws words q).made

pub found-zero : (n own : ℕ) (ws words : List ℕ) → ((found_of n own ws words).number ≡ 0 → ⊥) → (found_of n own ws words).«record» ≡ zero_record
unfolding found_of found_number pick
found-zero n own ws words q = go (long_enough words) (head_fine n own ws) q
  where
    go : (a b : Bool) → (◌≡◌ {A = ℕ} (pick a (pick b 0 2) 1) 0 → ⊥) → pick a (pick b (fresh_record n own ws) zero_record) zero_record ≡ zero_record
    go true true z = absurd (z refl)
    go true false z = refl
    go false b z = refl
