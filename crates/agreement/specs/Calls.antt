-- What else holds of the world of demand 3 after every list of calls: what its offices keep, and what a call there may be refused with. The
-- theorem is `always` in proofs/Calls.antt. Assumes nothing.
use Rattle.std.specs.Prelude.{◌≡◌, true, List, ◌++◌, ◌⊎◌, ℕ, ◌+◌, eqb, length, drop}
use Rattle.std.specs.Prelude.{Some}
use Rattle.lists.specs.Tests.{all_b}
use Rattle.protocol.specs.Entry.{value}
use Rattle.protocol.specs.Limits.{is_weight, total}
use Rattle.protocol.specs.Codes.{no_codes, codes_after}
use Rattle.protocol.specs.Counts.{no_counts, counts_after}
use Rattle.protocol.specs.Moves.{weights_after}
use Rattle.protocol.specs.Office.{Message, votes}
use Rattle.protocol.specs.SettledRule.{by_settled}
use Rattle.protocol.specs.Issue.{with_issue}
use Rattle.protocol.specs.Take.{with_take}
use Rattle.protocol.specs.Elect.{with_elect}
use Rattle.protocol.specs.Folding.{Packet}
use Rattle.spelling.specs.Content.{as_packet}
use Rattle.spelling.specs.Reading.{sender_at, content_at}
use Rattle.frame.specs.Electing.{winner_of}
use Rattle.folding.specs.Folding.{fold_of}
use Rattle.frame.specs.Soundness.{sound_b}
use Rattle.frame.specs.State.{held_by}
use Rattle.agreement.specs.Demand.{says}
use Rattle.agreement.specs.World.{Replica, Posted, World, Call, issue, send, take, elect, fold, replica_at, message_at, number, issued, taken, elected, folded, step, after}

-- what a sent message says: its sender's settled log, which begins with what that office had dropped by then, and the tails of its ballots
abbrev pub carries : Posted → Message
carries s =
    let p : Packet = as_packet (content_at s.bytes) in
    record { sender = p.sender; state = record { log = s.former ++ p.state.log; tails = p.state.tails } }

pub record Always (n : ℕ) (weights : List ℕ) (start : World) (cs : List Call) : Type 0 where
  -- there are n offices still; each has its own number, the founding's n and weights, and a record that is sound with its log
  pub offices : length (after start cs).replicas ≡ n
  pub own : (k : ℕ) (d : Replica) → replica_at (after start cs) k ≡ Some d → d.held.own ≡ k
  pub alike : (k : ℕ) (d : Replica) → replica_at (after start cs) k ≡ Some d → (d.held.n ≡ n) × (d.held.weights ≡ weights)
  pub sound : (k : ℕ) (d : Replica) → replica_at (after start cs) k ≡ Some d → sound_b d.held d.words ≡ true
  -- (i) its present weights are those of its settled log, dropped entries included: "the total never changes", each is within 0 to 65535, and zero
  -- from place n on
  pub present : (k : ℕ) (d : Replica) → replica_at (after start cs) k ≡ Some d → d.held.summary.present ≡ weights_after weights (says d).log
  pub total_kept : (k : ℕ) (d : Replica) → replica_at (after start cs) k ≡ Some d → total d.held.summary.present ≡ total weights
  pub weights-fine : (k : ℕ) (d : Replica) → replica_at (after start cs) k ≡ Some d
      → (all_b is_weight d.held.summary.present ≡ true) × (all_b (eqb 0) (drop n d.held.summary.present) ≡ true)
  -- (ii) its codes are the last codes of its settled log
  pub codes : (k : ℕ) (d : Replica) → replica_at (after start cs) k ≡ Some d → d.held.summary.codes ≡ codes_after no_codes (says d).log
  -- (iii) from the counts that it keeps, the undropped entries make the counts of its settled log, and the entry that wins is the one that the
  -- settled log and the founding weights decide
  pub counts : (k : ℕ) (d : Replica) → replica_at (after start cs) k ≡ Some d
      → counts_after d.held.kept.counts (held_by d.held d.words).log ≡ counts_after (no_counts 8) (says d).log
  pub winner : (k : ℕ) (d : Replica) → replica_at (after start cs) k ≡ Some d → winner_of d.held d.words ≡ by_settled weights (says d).log (votes (says d))
  -- two offices with equal settled logs have equal present weights and hold equal codes
  pub equal : (j k : ℕ) (d e : Replica) → replica_at (after start cs) j ≡ Some d → replica_at (after start cs) k ≡ Some e
      → (says d).log ≡ (says e).log → d.held.summary ≡ e.held.summary
  -- so no call is refused with 1, and elect and fold are never refused
  pub never-unsound : (c : Call) → number (after start cs) c ≡ 1 → ⊥
  pub elects : (k : ℕ) → number (after start cs) (elect k) ≡ 0
  pub folds : (k : ℕ) → number (after start cs) (fold k) ≡ 0
  -- on settled logs with their dropped entries each done call does what document 01's does, and (xiv) fold does nothing
  pub issue-says : (k line code : ℕ) (d : Replica) → replica_at (after start cs) k ≡ Some d → number (after start cs) (issue k line code) ≡ 0
      → says (issued d line code) ≡ with_issue k (value k line code) (says d)
  pub take-says : (k m : ℕ) (d : Replica) (s : Posted) → replica_at (after start cs) k ≡ Some d → message_at (after start cs) m ≡ Some s → number (after start cs) (take k m) ≡ 0
      → says (taken d s.bytes) ≡ with_take k (carries s) (says d)
  pub elect-says : (k : ℕ) (d : Replica) → replica_at (after start cs) k ≡ Some d → says (elected d) ≡ with_elect (by_settled weights) (says d)
  pub fold-says : (k : ℕ) (d : Replica) → replica_at (after start cs) k ≡ Some d → says (folded d) ≡ says d
  -- fold "answers how many entries went"
  pub fold-answers : (k : ℕ) (d : Replica) → replica_at (after start cs) k ≡ Some d → length (folded d).former ≡ length d.former + (fold_of d.held d.words).count
  -- send is refused where the output is too short, and for nothing else
  pub sends : (k : ℕ) (out : List ℕ) → (number (after start cs) (send k out) ≡ 0) ⊎ (number (after start cs) (send k out) ≡ 6)
  -- take, of a sent message, is refused at the sender's own office with 9, and with 17 where it ends inside what the receiver has dropped, and for
  -- nothing else: never 7, 8, 10 or 16
  pub takes : (k m : ℕ) → (number (after start cs) (take k m) ≡ 0) ⊎ ((number (after start cs) (take k m) ≡ 9) ⊎ (number (after start cs) (take k m) ≡ 17))
  -- so a message of another office is accepted or refused with 17
  pub takes-other : (k m : ℕ) (s : Posted) → message_at (after start cs) m ≡ Some s → (sender_at s.bytes ≡ k → ⊥)
      → (number (after start cs) (take k m) ≡ 0) ⊎ (number (after start cs) (take k m) ≡ 17)
  -- "A refused call changes nothing"
  pub refused : (c : Call) → (number (after start cs) c ≡ 0 → ⊥) → step (after start cs) c ≡ after start cs
