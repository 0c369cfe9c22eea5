-- Document 01's cases D, G, H and I, by what each office is told of its own entries, and what a take leaves of an own path with an adopted entry.
-- Assumes nothing.
use mathlib.Core.Path.{◌≡◌, refl}
use mathlib.Core.List.{List, [], ◌∷◌}
use Prim.Native.Nat.{ℕ}
use Rattle.lists.specs.Tests.{both, pick}
use Rattle.protocol.specs.Beginning.{begins, extends}
use Rattle.protocol.specs.Vote.{tally, unheard, supported, wins, winner}
use Rattle.protocol.specs.Moves.{is_move, move, weights_after}
use Rattle.protocol.specs.Counts.{counts_after, quieter_by}
use Rattle.protocol.specs.SettledRule.{by_settled}
use Rattle.protocol.specs.Office.{Office}
use Rattle.protocol.specs.Take.{rebase, catch_up, with_take}
use Rattle.protocol.specs.Elect.{settle, electing, with_elect}
use Rattle.protocol.proofs.Cases.{a, b, c, d, three, usual, state}
use Rattle.own_entries.specs.Parts.{common, settled_of, pending_of, lost_of, entries_of}

-- what office k is told when o became o': its entries that settled, are pending, are lost
abbrev Tells : ℕ → Office → Office → List ℕ → List ℕ → List ℕ → Type 0
Tells k o o' settled pending lost = (entries_of k (settled_of k o o') ≡ settled) × ((entries_of k (pending_of k o o') ≡ pending) × (entries_of k (lost_of k o o') ≡ lost))

-- by an election, and by office 1's take of office 2's log
abbrev Elects : List ℕ → ℕ → Office → List ℕ → List ℕ → List ℕ → Type 0
Elects ws k o = Tells k o (with_elect (by_settled ws) o)

abbrev Takes : List ℕ → Office → List ℕ → List ℕ → List ℕ → Type 0
Takes log o = Tells 1 o (with_take 1 (record { sender = 2; state = state log [] [] [] }) o)

abbrev in_d : Office
in_d = state [] (a ∷ []) (b ∷ []) (c ∷ [])

abbrev in_g : Office
in_g = state [] (a ∷ d ∷ []) [] (a ∷ d ∷ [])

abbrev in_h : Office
in_h = state [] (a ∷ d ∷ []) (a ∷ []) (c ∷ [])

abbrev in_i : Office
in_i = state [] [] (b ∷ []) []

abbrev adopted : Office
adopted = state [] [] (a ∷ b ∷ []) []

pub outcomes :
    -- D: a settled, b and c are lost
    Elects usual 0 in_d (a ∷ []) [] [] × (Elects usual 1 in_d [] [] (b ∷ []) × (Elects usual 2 in_d [] [] (c ∷ []) ×
    -- G: both settled; office 2, which adopted them, is told of none
    (Elects usual 0 in_g (a ∷ d ∷ []) [] [] × (Elects usual 2 in_g [] [] [] ×
    -- H: a settled, d is pending
    (Elects (three 40 30 30) 0 in_h (a ∷ []) (d ∷ []) [] ×
    -- I: b is lost by a take
    (Takes (a ∷ []) in_i [] [] (b ∷ []) ×
    -- with log c the own path ab is lost: b is told, and not a, which was adopted
    (Takes (c ∷ []) adopted [] [] (b ∷ []) ×
    -- with log a it stays, and b is pending; with log ac b is lost
    (Takes (a ∷ []) adopted [] (b ∷ []) [] × Takes (a ∷ c ∷ []) adopted [] [] (b ∷ [])))))))))
unfolding common entries_of begins extends counts_after quieter_by weights_after move is_move both pick tally unheard supported wins winner rebase catch_up with_take settle electing with_elect
outcomes = (
  (refl, (refl, refl)),
  (
    (refl, (refl, refl)),
    (
      (refl, (refl, refl)),
      (
        (refl, (refl, refl)),
        (
          (refl, (refl, refl)),
          (
            (refl, (refl, refl)),
            (
              (refl, (refl, refl)),
              (
                (refl, (refl, refl)),
                ((refl, (refl, refl)), (refl, (refl, refl))),
              ),
            ),
          ),
        ),
      ),
    ),
  ),
)
