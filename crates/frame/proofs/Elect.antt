-- What elect answers and leaves.
--     elect-unsound, elect-made  each way out of the call
--     elect-sound, elect-state   a done elect leaves a sound record with its words, and the protocol's state
--     elect-grows, elect-ends    its count is the log's growth, and no entry wins afterwards
--     elect-keeps        a refused one leaves both
-- Assumes nothing.
use mathlib.Core.Path.{◌≡◌, refl, sym, ap, ap₂, subst₂, ◌∙◌}
use mathlib.Core.Bool.{Bool, true, false}
use mathlib.Core.List.{List, ◌++◌}
use Rattle.std.specs.Prelude.{None}
use Prim.Native.Nat.{ℕ, ◌+◌}
use native.Mathlib.Omega.{arith}
use lib.ListN.{length}
use Rattle.lists.specs.Tests.{pick}
use Rattle.protocol.specs.Office.{votes}
use Rattle.protocol.specs.Elect.{elect_count}
use Rattle.protocol_laws.proofs.Vote.{NamesVoted}
use Rattle.protocol.specs.Folding as F
use Rattle.protocol.specs.Folding.{with_folded_elect}
use Rattle.protocol_laws.proofs.FoldedLimits.{FoldedFine, folded-elect-fine}
use Rattle.protocol_laws.proofs.Elect.{elect-log, elect-stops}
use Rattle.ballots.specs.Ballots.{words_with}
use Rattle.kept.specs.Kept.{rule_behind}
use Rattle.kept.specs.declared.Kept.{Kept}
use Rattle.elections.proofs.Holding.{state_of, elected_in}
use Rattle.elections.specs.declared.State.{State}
use Rattle.elections.proofs.Run as Run
use Rattle.frame.specs.State.{held_length, held_by, folded_by, state_in, with_state, kept_by, holding_behind, holding}
use Rattle.frame.specs.Soundness.{sound_b, Sound}
use Rattle.frame.specs.Electing.{rule_of, elected_of, elect_of, elect_words, winner_of}
use Rattle.frame.specs.declared.Record.{Record}
use Rattle.frame.specs.declared.electing.Elected.{Elected}
use Rattle.frame.proofs.Sound.{sound}
use Rattle.frame.proofs.State.{log-length, folded-fine, kept-stays, folded-by, sound-of}

-- the winner has a vote
rule-voted : (r : Record) → NamesVoted (rule_of r)
rule-voted r = Run.rule-voted r.kept

-- ── the whole answer ──
pub elect-unsound : (r : Record) (words : List ℕ) → sound_b r words ≡ false → (◌≡◌ {A = Elected} (record { «record» = r; number = 1; count = 0 }) (elect_of r words)) × (words ≡ elect_words r words)
unfolding elect_of elect_words pick
elect-unsound r words e = (simp e, simp e)

-- it drops nothing
dropped : (r : Record) (words : List ℕ) → (elected_of r words).dropped ≡ r.kept.dropped
unfolding with_folded_elect
dropped r words = refl

elected-fine : (r : Record) (words : List ℕ) → Sound r words → FoldedFine r.n r.own (elected_of r words)
elected-fine r words S = folded-elect-fine (rule_of r) (rule-voted r) r.n r.own (folded_by r words) (folded-fine r words S)

-- x is what elections make of the record's state, `count` entries longer
module _ (r : Record) (words : List ℕ) (e : sound_b r words ≡ true) (x : State) (p : x ≡ state_of r.kept (elected_in r.kept (state_in r) words)) where
  elected : x ≡ state_of r.kept (elected_of r words).held
  unfolding with_folded_elect
  elected = p

  pub elect-made : (next : Record) → next ≡ with_state r x → (last : List ℕ) → last ≡ words_with (elected_in r.kept (state_in r) words).log words
      → (count : ℕ) → held_length r + count ≡ x.held → (◌≡◌ {A = Elected} (record { «record» = next; number = 0; count = count }) (elect_of r words)) × (last ≡ elect_words r words)
  unfolding elect_of elect_words with_folded_elect pick
  elect-made next n last w count h =
      (rw e (λ i. record { «record» = (n ∙ ap (with_state r) elected ∙ kept) i; number = 0; count = grown i }), rw e w)
    where
      kept : holding_behind r r.kept (elected_of r words) ≡ holding r words (elected_of r words)
      kept = ap (λ (k : Kept). holding_behind r k (elected_of r words)) (sym (kept-stays r words (sound r words e) (elected_of r words) refl))

      grown : count ≡ elect_count (rule_of r) (held_by r words)
      grown = omega (arith, h, ap (λ (y : State). y.held) elected, log-length r words (sound r words e))

-- ── what elect leaves ──
pub elect-zero : (r : Record) (words : List ℕ) → sound_b r words ≡ true → (elect_of r words).number ≡ 0
unfolding elect_of pick
elect-zero r words e = rw e

-- a done elect
pub record ElectDone (r : Record) (words : List ℕ) : Type 0 where
  pub was : Sound r words
  pub made : (elect_of r words).«record» ≡ holding r words (elected_of r words)
  pub counted : (elect_of r words).count ≡ elect_count (rule_of r) (held_by r words)
  pub written : elect_words r words ≡ words_with (elected_of r words).held.log words

pub elect-done : (r : Record) (words : List ℕ) → (elect_of r words).number ≡ 0 → ElectDone r words
unfolding elect_of elect_words pick
elect-done r words q = go (sound_b r words) refl
  where
    go : (b : Bool) → sound_b r words ≡ b → ElectDone r words
    go true e = record { was = sound r words e; made = rw e; counted = rw e; written = rw e }
    go false e = absurd (omega (arith, q, ap (λ (x : Elected). x.number) (elect-unsound r words e).0))

pub elect-sound : (r : Record) (words : List ℕ) → (elect_of r words).number ≡ 0 → Sound (elect_of r words).«record» (elect_words r words)
elect-sound r words q =
    let D = elect-done r words q in
    let S = D.was in
    subst₂ Sound (sym D.made) (sym D.written)
    (sound-of r words S (elected_of r words) (omega (arith, dropped r words)) (omega (arith, dropped r words, S.within)) (elected-fine r words S))

pub elect-state : (r : Record) (words : List ℕ) → (elect_of r words).number ≡ 0 → folded_by (elect_of r words).«record» (elect_words r words) ≡ elected_of r words
elect-state r words q =
    let D = elect-done r words q in
    let S = D.was in
    ap₂ folded_by D.made D.written ∙ folded-by r words S (elected_of r words) (omega (arith, dropped r words)) (omega (arith, dropped r words, S.within))

pub elect-kept : (r : Record) (words : List ℕ) → (elect_of r words).number ≡ 0 → (elect_of r words).«record».kept ≡ kept_by r words (elected_of r words)
elect-kept r words q = ap (λ (x : Record). x.kept) (elect-done r words q).made

pub elect-keeps : (r : Record) (words : List ℕ) → ((elect_of r words).number ≡ 0 → ⊥) → ((elect_of r words).«record» ≡ r) × (elect_words r words ≡ words)
elect-keeps r words q = go (sound_b r words) refl
  where
    go : (b : Bool) → sound_b r words ≡ b → ((elect_of r words).«record» ≡ r) × (elect_words r words ≡ words)
    go true e = absurd (q (elect-zero r words e))
    go false e = let u = elect-unsound r words e in (sym (ap (λ (x : Elected). x.«record») u.0), sym u.1)

-- "answers how many entries it settled": the count is the log's growth
pub elect-grows : (r : Record) (words : List ℕ) → (elect_of r words).number ≡ 0
    → (s : List ℕ) × ((held_by (elect_of r words).«record» (elect_words r words)).log ≡ (held_by r words).log ++ s) × (length s ≡ (elect_of r words).count)
unfolding with_folded_elect
elect-grows r words q =
    let D = elect-done r words q in
    let g = elect-log (rule_of r) (held_by r words) in
    (g.0, ap (λ (f : F.FoldedOffice). f.held.log) (elect-state r words q) ∙ g.1, g.2 ∙ sym D.counted)

-- "until no entry wins"
pub elect-ends : (r : Record) (words : List ℕ) → (elect_of r words).number ≡ 0 → winner_of (elect_of r words).«record» (elect_words r words) ≡ None
unfolding with_folded_elect
elect-ends r words q =
    let D = elect-done r words q in
    let k = elect-kept r words q ∙ kept-stays r words D.was (elected_of r words) refl in
    ap₂ (λ (x : Kept) (f : F.FoldedOffice). rule_behind x f.held.log (votes f.held)) k (elect-state r words q) ∙ elect-stops (rule_of r) (rule-voted r) (held_by r words)
