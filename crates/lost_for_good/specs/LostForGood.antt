-- What is true of lost edits in the world of demand 3, on records, log words and message bytes. An entry of an office's own path is settled, pending or,
-- behind a call, lost. The theorems are of every list of calls, fold among them, and every start that is `Founded` (agreement/specs/Demand):
--     lost-for-good    (n : ℕ) (weights : List ℕ) (start : World) → Founded n weights start → (cs : List Call) → LostForGood start cs
--     not-lost         .. → NotLost start cs             all-or-none    .. → AllOrNone start cs             proofs/LostForGood.antt
--     at-most-once     .. → AtMostOnce start cs                                                             proofs/AtMost.antt
--     told-lost        .. → ToldLost start cs                                                               proofs/Told.antt
-- What would be false, by lists of calls that are computed: worked_histories, proofs/LostEdits.antt. A settled log and a path begin with what their
-- office had dropped by then, and an entry is known by its place: e behind p, the entries before it. Assumes nothing.
use Rattle.std.specs.Prelude.{◌≡◌, List, [], ◌∷◌, ◌++◌, Bool, false, ◌⊎◌, ◌↔◌, ℕ, ◌+◌, ◌≤◌, eqb, ltb, length}
use Rattle.std.specs.Prelude.{Some}
use Rattle.lists.specs.Tests.{both, pick, times}
use Rattle.protocol.specs.Entry.{value, office_of, line_of, code_of}
use Rattle.protocol.specs.Beginning.{◌⊑◌}
use Rattle.protocol.specs.Office.{path}
use Rattle.own_entries.specs.Parts.{pending_of, lost_of, Stands}
use Rattle.outcome.specs.Outcome.{lost_entries, report_of}
use Rattle.agreement.specs.World.{Replica, World, Call, issue, send, take, elect, fold, replica_at, number, step, after}
use Rattle.agreement.specs.Demand.{says, log_at, view_at, order, IssuedIn}

-- office k's own path has the entry e behind p; its settled log has it there
abbrev pub InPath : World → ℕ → List ℕ → ℕ → Type 0
InPath w k p e = (p ++ (e ∷ [])) ⊑ view_at w k

abbrev pub Settled : World → ℕ → List ℕ → ℕ → Type 0
Settled w k p e = (p ++ (e ∷ [])) ⊑ log_at w k

-- it is pending: in the own path, and not settled there
abbrev pub Pending : World → ℕ → List ℕ → ℕ → Type 0
Pending w k p e = InPath w k p e × (Settled w k p e → ⊥)

-- the call c behind the earlier ones loses it: it stood in office k's own path before the call, and stands there no more
abbrev pub LostBy : World → List Call → Call → ℕ → List ℕ → ℕ → Type 0
LostBy start earlier c k p e = InPath (after start earlier) k p e × (InPath (after start (earlier ++ (c ∷ []))) k p e → ⊥)

-- a call of the list loses it
pub record LostIn (start : World) (cs : List Call) (k : ℕ) (p : List ℕ) (e : ℕ) : Type 0 where
  pub earlier : List Call
  pub c : Call
  pub later : List Call
  pub listed : earlier ++ (c ∷ later) ≡ cs
  pub lost : LostBy start earlier c k p e

-- "a lost entry is lost for good: no office will ever settle it at that place behind that beginning"
pub record LostForGood (start : World) (cs : List Call) : Type 0 where
  -- at no moment of the list, before the call or after it, has any office settled it there. The list is any, so what follows the call is any
  pub for-good : (k : ℕ) (p : List ℕ) (e : ℕ) → LostIn start cs k p e → (earlier later : List Call) → earlier ++ later ≡ cs → (j : ℕ)
      → Settled (after start earlier) j p e → ⊥
  -- so the order does not have it there
  pub not-ordered : (k : ℕ) (p : List ℕ) (e : ℕ) → LostIn start cs k p e → (p ++ (e ∷ [])) ⊑ order start cs → ⊥
  -- and after the call no path of that office has it there again, neither its own nor one that it holds of another office
  pub never_back : (k : ℕ) (p : List ℕ) (e : ℕ) (lost : LostIn start cs k p e) (between rest : List Call) → between ++ rest ≡ lost.later → (d : Replica)
      → replica_at (after start (lost.earlier ++ (lost.c ∷ between))) k ≡ Some d → (j : ℕ) → (p ++ (e ∷ [])) ⊑ path (says d) j → ⊥

pub record NotLost (start : World) (cs : List Call) : Type 0 where
  -- right after its done issue an entry is pending
  pub pends : (view : List ℕ) (e : ℕ) (i : IssuedIn start cs view e)
      → Pending (after start (i.earlier ++ (issue (office_of e) (line_of e) (code_of e) ∷ []))) (office_of e) view e
  -- "An entry that is not lost is in the settled log or in the own path": an entry that stood in the own path at some moment is settled, pending or lost
  -- after the list. It is one of the three alone: a settled log is a beginning of its office's paths, and a lost entry is in none of them (`never_back`)
  pub one_of_three : (earlier later : List Call) → earlier ++ later ≡ cs → (k : ℕ) (p : List ℕ) (e : ℕ) → InPath (after start earlier) k p e
      → Settled (after start cs) k p e ⊎ (Pending (after start cs) k p e ⊎ LostIn start cs k p e)

-- "No call leaves some entries pending and loses others": of the own tail that office k had before a call of the list, with the record and log d before
-- it and d' after it, nothing is pending or nothing is lost
abbrev pub AllOrNone : World → List Call → Type 0
AllOrNone start cs = (earlier later : List Call) (c : Call) → earlier ++ (c ∷ later) ≡ cs → (k : ℕ) (d d' : Replica)
    → replica_at (after start earlier) k ≡ Some d → replica_at (after start (earlier ++ (c ∷ []))) k ≡ Some d'
    → (pending_of k (says d) (says d') ≡ []) ⊎ (lost_of k (says d) (says d') ≡ [])

-- ── what is told ──
-- a take, elect or fold of the list at office k, whose record and log were d before it and are d' after it
pub record CalledAt (start : World) (cs : List Call) (k : ℕ) (d d' : Replica) : Type 0 where
  pub earlier : List Call
  pub c : Call
  pub later : List Call
  pub listed : earlier ++ (c ∷ later) ≡ cs
  pub is : ((m : ℕ) × (c ≡ take k m)) ⊎ ((c ≡ elect k) ⊎ (c ≡ fold k))
  pub was : replica_at (after start earlier) k ≡ Some d
  pub left : replica_at (after start (earlier ++ (c ∷ []))) k ≡ Some d'

-- what `report` of the crate `outcome` tells of it, by the two records and the log after the call
pub record ToldLost (start : World) (cs : List Call) : Type 0 where
  -- it is never refused with 1
  pub accepted : (k : ℕ) (d d' : Replica) → CalledAt start cs k d d' → (rest : List ℕ) → (report_of d.held d'.held d'.words rest).number ≡ 1 → ⊥
  -- an entry is told as lost exactly if it is the office's own and the call lost it, at some place
  pub exactly : (k : ℕ) (d d' : Replica) (x : CalledAt start cs k d d') (e : ℕ)
      → Stands (lost_entries d.held d'.held d'.words) e ↔ ((office_of e ≡ k) × ((p : List ℕ) × LostBy start x.earlier x.c k p e))
  -- and there it is lost for good
  pub told-for-good : (k : ℕ) (d d' : Replica) (x : CalledAt start cs k d d') (e : ℕ) → Stands (lost_entries d.held d'.held d'.words) e
      → (p : List ℕ) × LostBy start x.earlier x.c k p e
      × ((earlier later : List Call) → earlier ++ later ≡ cs → (j : ℕ) → Settled (after start earlier) j p e → ⊥)

-- ── to issue it again ──
-- the call is a done issue of the value, at an office that is there
unfoldable pub issues_it : World → ℕ → Call → Bool
issues_it w v (issue k line code) = both (eqb (value k line code) v) (both (ltb k (length w.replicas)) (eqb (number w (issue k line code)) 0))
issues_it w v (send k out) = false
issues_it w v (take k m) = false
issues_it w v (elect k) = false
issues_it w v (fold k) = false

-- how many calls of the list are
unfoldable pub issues_of : World → List Call → ℕ → ℕ
issues_of w [] v = 0
issues_of w (c ∷ cs) v = pick (issues_it w v c) 1 0 + issues_of (step w c) cs v

-- "to issue it again is safe and settles it at most once for each issue"; a done issue of the list is known by the calls before it
pub record AtMostOnce (start : World) (cs : List Call) : Type 0 where
  -- an issue is that of one entry at one place
  pub one_place : (p q : List ℕ) (e f : ℕ) (i : IssuedIn start cs p e) (j : IssuedIn start cs q f) → i.earlier ≡ j.earlier → (p ≡ q) × (e ≡ f)
  -- an office issues once behind one beginning: so a place of the order, whose entry was issued with what stands before it in view, has one issue
  pub one-issue : (p : List ℕ) (e f : ℕ) (i : IssuedIn start cs p e) (j : IssuedIn start cs p f) → office_of e ≡ office_of f → i.earlier ≡ j.earlier
  -- "A value stands in the order at most as often as it was issued"
  pub at_most : (v : ℕ) → times v (order start cs) ≤ issues_of start cs v
