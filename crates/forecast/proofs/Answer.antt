-- What a forecast answers, by the tests that it makes.
--     forecast-unsound, forecast-unfit      the two refusals
--     forecast-done                         the entry that is named, by the votes of the ballots and the counts of the log
--     votes-silent                          the votes of a sound record's ballots are silent from place n on
--     counts-room                           the counts that it keeps have room for the held log's entries
-- Assumes nothing.
use mathlib.Core.Path.{◌≡◌, sym, ap, subst, ◌∙◌}
use mathlib.Core.Bool.{true, false}
use mathlib.Core.List.{List, map}
use Rattle.std.specs.Prelude.{Option, Ok, Err}
use Prim.Native.Nat.{ℕ}
use native.Mathlib.Omega.{arith}
use lib.ListN.{length, take}
use Rattle.lists.specs.Tests.{pick}
use Rattle.protocol.specs.Counts.{counts_after, quieter_by}
use Rattle.protocol.specs.Office.{votes}
use Rattle.counting.specs.Room.{Room}
use Rattle.tallies.specs.Tallies.{cast, votes_in, SilentFrom}
use Rattle.bounds.specs.Bounds.{fits, sure_winner}
use Rattle.bounds.proofs.Cast.{cast-votes, cast-silent}
use Rattle.frame.specs.State.{held_length, held_by}
use Rattle.frame.specs.Soundness.{sound_b, Sound}
use Rattle.frame.specs.declared.Record.{Record}
use Rattle.frame.proofs.State.{log-length, room-for}
use Rattle.refusals.specs.declared.Refusal.TheVariants.{Unsound, NoWeights}
use Rattle.forecast.specs.Forecast.{bounds_of, forecast_of}

module _ (r : Record) (words lowest highest : List ℕ) where
  pub forecast-unsound : sound_b r words ≡ false → Err Unsound ≡ forecast_of r words lowest highest
  unfolding forecast_of pick
  forecast-unsound e = simp e

  pub forecast-unfit : sound_b r words ≡ true → fits (bounds_of r lowest) (bounds_of r highest) ≡ false
      → Err NoWeights ≡ forecast_of r words lowest highest
  unfolding forecast_of pick
  forecast-unfit e f = simp (e, f)

  pub votes-silent : Sound r words → (vs : List (Option ℕ)) → vs ≡ map cast r.ballots → SilentFrom r.n vs
  votes-silent S vs q = subst (SilentFrom r.n) (sym q) (cast-silent r.n r.ballots S.head.most S.rest)

  pub counts-room : Sound r words → Room r.kept.counts (length (take (held_length r) words))
  counts-room S =
      let room = room-for r words S (held_length r) (omega arith) in
      (omega (arith, log-length r words S, room.short), λ k. omega (arith, log-length r words S, room.within k, room.fits))

  pub forecast-done : sound_b r words ≡ true → fits (bounds_of r lowest) (bounds_of r highest) ≡ true
      → (counts : List ℕ) → counts ≡ counts_after r.kept.counts (take (held_length r) words) → (vs : List (Option ℕ)) → vs ≡ map cast r.ballots
      → (w : Option ℕ) → w ≡ sure_winner (bounds_of r lowest) (bounds_of r highest) (quieter_by counts) (votes_in vs)
      → Ok w ≡ forecast_of r words lowest highest
  unfolding forecast_of pick
  forecast-done e f counts p vs q w made =
      simp (e, f)
      (ap Ok (made ∙ λ i. sure_winner (bounds_of r lowest) (bounds_of r highest) (quieter_by (p i)) (voted i)))
    where
      voted : votes_in vs ≡ votes (held_by r words)
      voted = ap votes_in q ∙ cast-votes r.ballots
