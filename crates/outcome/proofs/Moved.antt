-- What a take, elect or fold leaves of an office, by what the calls promise: a front part of the log is gone, and behind it the log grows and a path
-- that still extends it stays.
--     moved           of each of the calls, done or refused
--     fold_same       fold changes nothing else
-- Assumes nothing.
use mathlib.Core.Path.{◌≡◌, refl, sym, ap, ap₂, subst, subst₂, ◌∙◌}
use mathlib.Core.Bool.{Bool, true, false}
use mathlib.Core.List.{List}
use Prim.Native.Nat.{ℕ, ◌+◌, ◌-◌, ◌≤◌}
use native.Mathlib.Nat.{add-zero}
use native.Mathlib.Omega.{arith}
use lib.Dec.{eqb}
use borrow.Author.Tests.{eqb-true, eqb-false}
use Rattle.protocol.specs.Office.{path}
use Rattle.protocol.specs.Folding as F
use Rattle.protocol.specs.Folding.{shorn, caught_up, from_there, with_fold, with_folded_take, with_folded_elect}
use Rattle.protocol_laws.proofs.Office.{OfficeMoves, moves-refl, take-moves, elect-moves}
use Rattle.protocol_laws.proofs.Folding.{take_found}
use Rattle.protocol_laws.proofs.FoldedLimits.{folded-take-fine}
use Rattle.spelling.specs.Content.{as_packet}
use Rattle.ballots.specs.Ballots.{words_with}
use Rattle.frame.specs.State.{held_length, held_by, folded_by, holding}
use Rattle.frame.specs.Soundness.{sound_b, Sound}
use Rattle.taking.specs.Taking.{take_number, take_of, take_words}
use Rattle.frame.specs.Electing.{rule_of, elected_of, elect_of, elect_words}
use Rattle.folding.specs.Folding.{shortened_of, fold_of, fold_words}
use Rattle.frame.specs.declared.Record.{Record}
use Rattle.frame.proofs.Sound.{sound}
use Rattle.frame.proofs.State.{whole_length, folded-fine, folded-by, sound-of}
use Rattle.taking.proofs.Takes.{Accepted, accepted, packet-fine, taken-office, take-done-is}
use Rattle.taking.proofs.Accept.{take-keeps}
use Rattle.frame.proofs.Elect.{elect-zero, elect-done, elect-sound, elect-state}
use Rattle.folding.proofs.Folds.{gone_of, gone-within, fold-zero, fold_done, fold-sound, fold-state}
use Rattle.outcome.specs.Claims.{Called, took, elected, folded}

pub record Moved (r : Record) (words : List ℕ) (r' : Record) (words' : List ℕ) : Type 0 where
  pub was : Sound r words
  pub is : Sound r' words'
  pub offices : r.n ≡ r'.n
  pub own : r.own ≡ r'.own
  pub weights : r.weights ≡ r'.weights
  -- how many entries the call dropped, of those that were held
  pub gone : ℕ
  pub dropped : r'.kept.dropped ≡ r.kept.dropped + gone
  pub held : gone ≤ held_length r
  pub moves : OfficeMoves r.own (shorn gone (held_by r words)) (held_by r' words')

stays : (r : Record) (words : List ℕ) → Sound r words → Moved r words r words
stays r words S = record {
  was = S;
  is = S;
  offices = refl;
  own = refl;
  weights = refl;
  gone = 0;
  dropped = sym (add-zero r.kept.dropped);
  held = omega arith;
  moves = moves-refl (held_by r words).log (path (held_by r words) r.own);
}

module _ (r : Record) (words : List ℕ) where
  -- a done call leaves the office as f
  module _ (r' : Record) (words' : List ℕ) (S : Sound r words) (S' : Sound r' words') (f : F.FoldedOffice) (made : r' ≡ holding r words f) (state : folded_by r' words' ≡ f) where
    leaves : (gone : ℕ) → f.dropped ≡ r.kept.dropped + gone → gone ≤ held_length r → OfficeMoves r.own (shorn gone (held_by r words)) f.held → Moved r words r' words'
    leaves gone d h m = record {
      was = S;
      is = S';
      offices = ap (λ (x : Record). x.n) (sym made);
      own = ap (λ (x : Record). x.own) (sym made);
      weights = ap (λ (x : Record). x.weights) (sym made);
      gone = gone;
      dropped = ap (λ (x : F.FoldedOffice). x.dropped) state ∙ d;
      held = h;
      moves = subst (λ (x : F.FoldedOffice). OfficeMoves r.own (shorn gone (held_by r words)) x.held) (sym state) m;
    }

  -- ── take ──
  module _ (s : List ℕ) (A : Accepted r words s) (q : take_number r words s ≡ 0) where
    abbrev m : F.Packet
    m = as_packet A.content

    abbrev after : F.FoldedOffice
    after = with_folded_take r.own m (folded_by r words)

    left : ((take_of r words s).«record» ≡ holding r words after) × (take_words r words s ≡ words_with after.held.log words)
    left =
        let d = take-done-is r words s q in
        let o = taken-office r words s A in
        (d.0 ∙ ap (holding r words) o, d.1 ∙ ap (λ (x : F.FoldedOffice). words_with x.held.log words) o)

    taken-dropped : after.dropped ≡ r.kept.dropped + (m.dropped - r.kept.dropped)
    unfolding with_folded_take
    taken-dropped = refl

    taken-moves : OfficeMoves r.own (caught_up m (folded_by r words)) after.held
    unfolding with_folded_take
    taken-moves = take-moves r.own (from_there m (folded_by r words)) (caught_up m (folded_by r words)) r.own

    reaches : m.dropped - r.kept.dropped ≤ held_length r
    reaches = omega (arith, (take_found r.own m (folded_by r words) A.done).reaches, whole_length r words A.sounds, A.sounds.within)

    take_done : Moved r words (take_of r words s).«record» (take_words r words s)
    take_done =
        let S = A.sounds in
        let more : r.kept.dropped ≤ after.dropped = omega (arith, taken-dropped) in
        let within : after.dropped ≤ r.settled = omega (arith, taken-dropped, reaches, S.within) in
        let fine = folded-take-fine r.n r.own m (folded_by r words) (folded-fine r words S) (packet-fine r words s A) S.head.member A.done in
        leaves (take_of r words s).«record» (take_words r words s) S (subst₂ Sound (sym left.0) (sym left.1) (sound-of r words S after more within fine)) after left.0
        (ap₂ folded_by left.0 left.1 ∙ folded-by r words S after more within) (m.dropped - r.kept.dropped) taken-dropped reaches taken-moves

  number_is : (s : List ℕ) → (take_of r words s).number ≡ take_number r words s
  unfolding take_of
  number_is s = refl

  take-moved : (s : List ℕ) → Sound r words → Moved r words (take_of r words s).«record» (take_words r words s)
  take-moved s S = go (eqb (take_number r words s) 0) refl
    where
      go : (b : Bool) → eqb (take_number r words s) 0 ≡ b → Moved r words (take_of r words s).«record» (take_words r words s)
      go true e = let q = eqb-true (take_number r words s) 0 e in take_done s (accepted r words s q) q
      go false e =
          let k = take-keeps r words s (λ q. eqb-false (take_number r words s) 0 e (sym (number_is s) ∙ q)) in
          subst₂ (λ (x : Record) (l : List ℕ). Moved r words x l) (sym k.0) (sym k.1) (stays r words S)

  -- ── elect and fold ──
  elected-moves : OfficeMoves r.own (shorn 0 (held_by r words)) (elected_of r words).held
  unfolding with_folded_elect
  elected-moves = elect-moves (rule_of r) (held_by r words) r.own

  elected-dropped : (elected_of r words).dropped ≡ r.kept.dropped + 0
  unfolding with_folded_elect
  elected-dropped = sym (add-zero r.kept.dropped)

  elect-moved : Sound r words → sound_b r words ≡ true → Moved r words (elect_of r words).«record» (elect_words r words)
  elect-moved S e =
      let q = elect-zero r words e in
      leaves (elect_of r words).«record» (elect_words r words) S (elect-sound r words q) (elected_of r words)
      (elect-done r words q).made (elect-state r words q) 0 elected-dropped (omega arith) elected-moves

  folded-held : (shortened_of r words).held ≡ shorn (gone_of r words) (held_by r words)
  unfolding with_fold
  folded-held = refl

  folded-dropped : (shortened_of r words).dropped ≡ r.kept.dropped + gone_of r words
  unfolding with_fold
  folded-dropped = refl

  fold-moved : Sound r words → sound_b r words ≡ true → Moved r words (fold_of r words).«record» (fold_words r words)
  fold-moved S e =
      let q = fold-zero r words e in
      let o = shorn (gone_of r words) (held_by r words) in
      leaves (fold_of r words).«record» (fold_words r words) S (fold-sound r words q) (shortened_of r words) (fold_done r words q).made (fold-state r words q) (gone_of r words) folded-dropped
      (gone-within r words S) (subst (OfficeMoves r.own o) (sym folded-held) (moves-refl o.log (path o r.own)))

  -- what fold holds is what was held, without what it dropped
  pub fold_same : sound_b r words ≡ true
      → (M : Moved r words (fold_of r words).«record» (fold_words r words)) × (held_by (fold_of r words).«record» (fold_words r words) ≡ shorn M.gone (held_by r words))
  unfolding leaves fold-moved
  fold_same e = (fold-moved (sound r words e) e, ap (λ (f : F.FoldedOffice). f.held) (fold-state r words (fold-zero r words e)) ∙ folded-held)

  pub moved : (r' : Record) (words' : List ℕ) → sound_b r words ≡ true → Called r words r' words' → Moved r words r' words'
  moved r' words' e c = go (sound r words e) c
    where
      go : Sound r words → Called r words r' words' → Moved r words r' words'
      go S (took s p q) = subst₂ (λ (x : Record) (l : List ℕ). Moved r words x l) p q (take-moved s S)
      go S (elected p q) = subst₂ (λ (x : Record) (l : List ℕ). Moved r words x l) p q (elect-moved S e)
      go S (folded p q) = subst₂ (λ (x : Record) (l : List ℕ). Moved r words x l) p q (fold-moved S e)
