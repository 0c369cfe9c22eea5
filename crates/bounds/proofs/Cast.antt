-- The votes of eight ballots.
--     cast-votes       they are the votes of the tails that the ballots hold
--     cast-silent      and silent from place n on, where the ballots from there on are none
-- Assumes nothing.
use mathlib.Core.Path.{◌≡◌, sym, ap, ◌∙◌}
use mathlib.Core.List.{List, map}
use mathlib.Core.Bool.{true}
use Prim.Native.Nat.{ℕ, ◌≤◌}
use lib.ListN.{drop}
use borrow.Author.Tests.{eqb-true}
use Rattle.lists.specs.Tests.{all_b}
use Rattle.lists.proofs.Tests.{all_map, drop-map, get_d_map}
use Rattle.protocol.specs.Office.{first, votes_of}
use Rattle.protocol.specs.Vote.{is_none}
use Rattle.ballots.specs.Ballots.{tail_of, is_no_ballot, off_end}
use Rattle.ballots.specs.declared.Ballot.{Ballot}
use Rattle.ballots.proofs.Laws as B
use Rattle.tallies.specs.Tallies.{cast, votes_in, SilentFrom}
use Rattle.votes.proofs.Cells.{vote-none}

pub cast-votes : (bs : List Ballot) → votes_in (map cast bs) ≡ votes_of (map tail_of bs)
cast-votes bs = λ i k. (get_d_map cast off_end bs k ∙ ap first (sym (B.tail_at bs k))) i

pub cast-silent : (n : ℕ) (bs : List Ballot) → n ≤ 8 → all_b is_no_ballot (drop n bs) ≡ true → SilentFrom n (map cast bs)
cast-silent n bs m h = (
  m,
  ap (all_b is_none) (drop-map cast n bs) ∙
      all_map is_no_ballot is_none cast (λ b e. ap is_none (sym (vote-none b (sym (eqb-true 0 b.len e))))) (drop n bs) h,
)
