-- Demand 3: "One order of edits is found behind all offices." A single claim about the whole list of calls and all its offices. The theorem
-- is in proofs/Demand.antt:
--     one-order : (n : ℕ) (weights : List ℕ) (start : World) → Founded n weights start → (cs : List Call) → OneOrder start cs
-- and, with no hypothesis left, of three offices: `three-offices-one-order` in proofs/ThreeOffices.antt.
-- "An edit is an entry", and an entry is its value. Request (xiv): the order "includes dropped entries, and so does every settled log and path that
-- demand 3 speaks of: each begins with what its office had dropped by then". Assumes nothing.
use Rattle.std.specs.Prelude.{◌≡◌, List, [], ◌∷◌, ◌++◌, map, ℕ, ◌≤◌, ◌<◌, length, get_or}
use Rattle.std.specs.Prelude.{Some}
use Rattle.std.proofs.Math.ListN as L
use Rattle.protocol.specs.Entry.{office_of, line_of, code_of}
use Rattle.protocol.specs.Beginning.{◌⊑◌}
use Rattle.protocol.specs.Office.{Office, path}
use Rattle.protocol.specs.Longest.{longest}
use Rattle.frame.specs.State.{held_by}
use Rattle.frame.specs.Founding.{found_of}
use Rattle.kept.specs.Kept.{kept_nothing, kept_after}
use Rattle.agreement.specs.World.{Replica, World, Call, issue, replica_at, on_some, number, after}

-- "At the start there are n offices, numbers 0 to n−1, with the same n and weights, any that Found allows. Each has the record that its
-- done founding returned and a log of its own, of any size and contents that Found allows. No message has been sent." Nothing has been dropped
pub record Founded (n : ℕ) (weights : List ℕ) (start : World) : Type 0 where
  pub any : 1 ≤ n
  pub offices : length start.replicas ≡ n
  pub founded : (k : ℕ) (d : Replica) → replica_at start k ≡ Some d
      → ((found_of n k weights d.words).number ≡ 0) × (d.held ≡ (found_of n k weights d.words).«record»)
  pub nothing-dropped : (k : ℕ) (d : Replica) → replica_at start k ≡ Some d → d.former ≡ []
  pub silent : start.sent ≡ []

-- what an office's record and log say: its settled log, which "begins with what its office had dropped by then", and the tails of its ballots
abbrev pub says : Replica → Office
says d = record { log = d.former ++ (held_by d.held d.words).log; tails = (held_by d.held d.words).tails }

-- office k's settled log; empty where there is no such office
abbrev pub log_at : World → ℕ → List ℕ
log_at w k = on_some (replica_at w k) [] (λ d. (says d).log)

-- "What an office has in view at an issue is its own path, by the record and log handed to that call."
abbrev pub view_at : World → ℕ → List ℕ
view_at w k = on_some (replica_at w k) [] (λ d. path (says d) d.held.own)

-- "The order is the longest settled log that any office has after the list; it is empty if nothing was settled."
unfoldable pub order : World → List Call → List ℕ
order start cs = longest (map (λ d. (says d).log) (after start cs).replicas)

-- "the list has a done issue at that entry's office, with its line and code, and the own path just before that call is" the view
pub record IssuedIn (start : World) (cs : List Call) (view : List ℕ) (e : ℕ) : Type 0 where
  pub earlier : List Call
  pub later : List Call
  pub listed : earlier ++ (issue (office_of e) (line_of e) (code_of e) ∷ later) ≡ cs
  pub there : office_of e < length start.replicas
  pub done : number (after start earlier) (issue (office_of e) (line_of e) (code_of e)) ≡ 0
  pub exactly : view_at (after start earlier) (office_of e) ≡ view

pub record OneOrder (start : World) (cs : List Call) : Type 0 where
  -- "The settled log that any office had, after its founding or after any call of the list, is a beginning of that order."
  pub logs : (earlier later : List Call) → earlier ++ later ≡ cs → (k : ℕ) → log_at (after start earlier) k ⊑ order start cs
  -- "Every entry in the order was issued by its own office, in a call of the list, with exactly the entries before it in view": for the
  -- entry at each place p of the order, "the first p entries of the order, no more and no fewer"
  pub issued : (p : ℕ) → p < length (order start cs) → IssuedIn start cs (L.take p (order start cs)) (get_or (order start cs) p 0)
  -- "No call of the list was refused with 10."
  pub never : (earlier later : List Call) (c : Call) → earlier ++ (c ∷ later) ≡ cs → number (after start earlier) c ≡ 10 → ⊥
  -- (xiv) "Sent messages never meet 16."
  pub never-16 : (earlier later : List Call) (c : Call) → earlier ++ (c ∷ later) ≡ cs → number (after start earlier) c ≡ 16 → ⊥
  -- an office's dropped count is that of the entries that it has dropped, and what it keeps is what these have done
  pub counted : (earlier later : List Call) → earlier ++ later ≡ cs → (k : ℕ) (d : Replica) → replica_at (after start earlier) k ≡ Some d → d.held.kept.dropped ≡ length d.former
  pub kept : (earlier later : List Call) → earlier ++ later ≡ cs → (k : ℕ) (d : Replica) → replica_at (after start earlier) k ≡ Some d
      → d.held.kept ≡ kept_after (kept_nothing d.held.weights) d.former
  -- what it has noted of an office, that office has settled
  pub noted : (earlier later : List Call) → earlier ++ later ≡ cs → (k j : ℕ) (d : Replica) → replica_at (after start earlier) k ≡ Some d
      → get_or d.held.noted j 0 ≤ length (log_at (after start earlier) j)
  -- every office has settled what any office has dropped: no office's log is ever shorter than that
  pub shared : (earlier later : List Call) → earlier ++ later ≡ cs → (k j : ℕ) (d : Replica) → replica_at (after start earlier) k ≡ Some d → j < length start.replicas
      → d.former ⊑ log_at (after start earlier) j
