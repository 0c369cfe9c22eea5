-- What reading a ballot answers where one of the office stands at the position. Assumes nothing.
use Rattle.std.proofs.Common.{◌≡◌, ℕ, ◌+◌, ◌*◌, ◌≤◌, List, Some, true, length, drop, get_or}
use Rattle.std.proofs.Math.Seq.{drop-drop}
use borrow.Author.Tests.{le-leb}
use Rattle.ballots.specs.Ballots.{ballot_of}
use Rattle.lists.specs.Tests.{both, pick}
use Rattle.numbers.specs.Numbers.{be32, run_at}
use Rattle.numbers.proofs.Runs.{run_at-length}
use Rattle.spelling.specs.Reading.{ballot_next}
use Rattle.spelling.proofs.Ballots.{ok-yes, size-yes, tail-yes}
use Rattle.ballot_records.specs.BallotSteps.{ballot_at}

-- its length byte is m, and the values follow
pub read : (s : List ℕ) (at o m : ℕ) (cs : List ℕ) → ballot_next (drop at s) o ≡ true → m ≡ get_or (drop at s) 3 0 → 1 ≤ m → m ≤ 32 → 4 + 4 * m ≤ length (drop at s)
    → cs ≡ (ballot_of (run_at 4 be32 m (drop (at + 4) s))).cells
    → Some (record { next = at + (4 + 4 * m); ballot = record { len = m; cells = cs } }) ≡ ballot_at s at o
unfolding ballot_at pick both
read s at o m cs next e h1 h2 room q =
    rw (
      ok-yes (drop at s) o next,
      size-yes (drop at s) o next,
      tail-yes (drop at s) o next,
      ← e,
      le-leb 1 m h1,
      le-leb m 32 h2,
      le-leb (4 + 4 * m) (length (drop at s)) room,
      drop-drop,
      q,
      run_at-length 4 be32 m (drop (at + 4) s),
    )
