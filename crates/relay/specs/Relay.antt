-- Request (vi): "Relay stations repeat messages and swap them." What that leaves of an office's record and log. The theorems:
--     take_twice      (d : Replica) (s : List ℕ) → Accepts d s → TakeTwice d s                                    proofs/Twice.antt
--     elect-twice     (d : Replica) → sound_b d.held d.words ≡ true → ElectTwice d                           proofs/Twice.antt
--     never-unsettles (d : Replica) (s : List ℕ) → NeverUnsettles d (taken d s)                                   proofs/Twice.antt
--     either_order    (n : ℕ) (weights : List ℕ) (start : World) → Founded n weights start
--                     → (cs : List Call) → EitherOrder (after start cs)                                           proofs/Swap.antt
-- A `Replica` is a record with the words of its log and the entries that it has dropped, and `says` is what they hold: the settled log, dropped
-- entries included, and the tails of the ballots. Take and elect are those that the contracts of `taking` and `frame` cite; `taken` and `elected` are
-- what they leave (agreement/specs/World). Assumes nothing.
use Rattle.std.specs.Prelude.{◌≡◌, List, ◌⊎◌, ℕ, set}
use Rattle.std.specs.Prelude.{Some}
use Rattle.protocol.specs.Beginning.{◌⊑◌, ◌⊏◌}
use Rattle.protocol.specs.Office.{tail, path}
use Rattle.ballots.specs.Ballots.{no_ballot}
use Rattle.frame.specs.declared.Record.{Record}
use Rattle.frame.specs.State.{held_by, with_ballots}
use Rattle.taking.specs.Taking.{take_of}
use Rattle.frame.specs.Electing.{elect_of}
use Rattle.agreement.specs.World.{Replica, Posted, World, replica_at, message_at, taken, elected}
use Rattle.agreement.specs.Demand.{says}

-- the message of these bytes is accepted: take answers 0. A record that is unsound with its log accepts none
abbrev pub Accepts : Replica → List ℕ → Type 0
Accepts d s = (take_of d.held d.words s).number ≡ 0

-- ── twice, for every sound record ──
-- "Taking an accepted message twice must leave the record and log that taking it once leaves": it is accepted again, and changes nothing
pub record TakeTwice (d : Replica) (s : List ℕ) : Type 0 where
  pub accepted : Accepts (taken d s) s
  pub same : taken (taken d s) s ≡ taken d s

-- "and so with electing": done, settles nothing, and changes nothing
pub record ElectTwice (d : Replica) : Type 0 where
  pub done : (elect_of (elected d).held (elected d).words).number ≡ 0
  pub count : (elect_of (elected d).held (elected d).words).count ≡ 0
  pub same : elected (elected d) ≡ elected d

-- from d to d' nothing settled is lost, and no ballot is given up that is still open: the settled log before is a beginning of the one after,
-- and a ballot's path that extends the new log is a beginning of its path after
pub record NeverUnsettles (d d' : Replica) : Type 0 where
  pub log : (says d).log ⊑ (says d').log
  pub paths : (j : ℕ) → (says d').log ⊏ path (says d) j → path (says d) j ⊑ path (says d') j

-- ── in either order, in the world of document 01 ──
-- the record but for its ballot of office k
abbrev pub without : ℕ → Record → Record
without k r = with_ballots r (set r.ballots k no_ballot)

-- "the same settled log and the same ballots of the other offices", those other than k
pub record SameButOwn (k : ℕ) (d d' : Replica) : Type 0 where
  pub log : (says d).log ≡ (says d').log
  pub ballots : (j : ℕ) → (j ≡ k → ⊥) → tail (says d) j ≡ tail (says d') j
  -- so nothing but the own ballot differs, neither in the record (what is kept and noted included) nor in the undropped part of the log
  pub records : without k d.held ≡ without k d'.held
  pub undropped : (held_by d.held d.words).log ≡ (held_by d'.held d'.words).log

-- office k, with the record and the log d, and two messages
pub record Swapped (k : ℕ) (d : Replica) (a b : List ℕ) : Type 0 where
  -- a message that is accepted is accepted behind another too, or ends inside what that one's sender had dropped: 17
  pub behind : Accepts d b → (Accepts (taken d a) b) ⊎ ((take_of (taken d a).held (taken d a).words b).number ≡ 17)
  -- "two messages accepted in both orders give, either way, .."
  pub same : Accepts d a → Accepts (taken d a) b → Accepts d b → Accepts (taken d b) a → SameButOwn k (taken (taken d a) b) (taken (taken d b) a)

-- "For offices and messages of the world of document 01": any of its offices, and any two messages sent by then
abbrev pub EitherOrder : World → Type 0
EitherOrder w = (k i j : ℕ) (d : Replica) (a b : Posted) → replica_at w k ≡ Some d → message_at w i ≡ Some a → message_at w j ≡ Some b → Swapped k d a.bytes b.bytes
