-- What the call answers, by the test that it makes.
--     standing-sound, standing-unsound     the answer, by whether the record is sound
--     standing-done                        the answer that the call makes
--     done                                 a done call is one of a sound record, and what it answers
--     votes-silent                         the offices of a sound record from place n on have no vote
-- Assumes nothing.
use mathlib.Core.Path.{◌≡◌, refl, sym, ap, subst, ◌∙◌}
use mathlib.Core.Bool.{Bool, true, false}
use mathlib.Core.List.{List, map}
use Rattle.std.specs.Prelude.{Option}
use Prim.Native.Nat.{ℕ}
use native.Mathlib.Omega.{arith}
use Rattle.lists.proofs.Tests.{pick_true, pick-false}
use Rattle.protocol.specs.Office.{votes}
use Rattle.protocol.specs.Vote.{unheard}
use Rattle.tallies.specs.Tallies.{cast, votes_in}
use Rattle.lists.specs.Padded.{in_eight}
use Rattle.bounds.proofs.Cast.{cast-votes, cast-silent}
use Rattle.bounds.proofs.Eight.{Silent, silent-votes}
use Rattle.rows.specs.Rows.{rows_of, marks}
use Rattle.rows.specs.declared.Rows.{Rows}
use Rattle.frame.specs.State.{held_by}
use Rattle.frame.specs.Soundness.{sound_b, Sound}
use Rattle.frame.specs.declared.Record.{Record}
use Rattle.frame.proofs.Sound.{sound}
use Rattle.standing.specs.Standing.{standing_with, standing_by, refused, standing_of}
use Rattle.standing.specs.declared.Standing.{Standing}

module _ (r : Record) (words : List ℕ) where
  abbrev answer : Standing
  answer = standing_by r.n r.summary.present (votes (held_by r words))

  pub standing-sound : sound_b r words ≡ true → standing_of r words ≡ answer
  unfolding standing_of
  standing-sound e = pick_true (sound_b r words) answer refused e

  pub standing-unsound : sound_b r words ≡ false → refused ≡ standing_of r words
  unfolding standing_of
  standing-unsound e = sym (pick-false (sound_b r words) answer refused e)

  -- the words that the ballots cast are their votes
  voted : (vs : List (Option ℕ)) → vs ≡ map cast r.ballots → votes_in vs ≡ votes (held_by r words)
  voted vs q = ap votes_in q ∙ cast-votes r.ballots

  pub standing-done : sound_b r words ≡ true → (vs : List (Option ℕ)) → vs ≡ map cast r.ballots
      → (rows : Rows) → rows ≡ rows_of r.summary.present (votes_in vs) → (u : ℕ) → u ≡ unheard r.summary.present (votes_in vs)
      → (silent : List ℕ) → silent ≡ in_eight (marks r.n (votes_in vs)) → standing_with rows u silent ≡ standing_of r words
  standing-done e vs q rows p u m silent s =
      (λ i. standing_with (p i) (m i) (s i)) ∙ ap (standing_by r.n r.summary.present) (voted vs q) ∙ sym (standing-sound e)

  pub votes-silent : Sound r words → Silent r.n (votes (held_by r words))
  votes-silent S =
      let vs : List (Option ℕ) = map cast r.ballots in
      subst (Silent r.n) (voted vs refl) (silent-votes r.n vs (cast-silent r.n r.ballots S.head.most S.rest))

  pub done : (standing_of r words).number ≡ 0 → Sound r words × (standing_of r words ≡ answer)
  done q = go (sound_b r words) refl
    where
      go : (b : Bool) → sound_b r words ≡ b → Sound r words × (standing_of r words ≡ answer)
      go true e = (sound r words e, standing-sound e)
      go false e = absurd (omega (arith, q, ap (λ (s : Standing). s.number) (standing-unsound e)))
