-- Request (vi) in the world of demand 3, on lists: two sent messages taken in either order leave the same settled log and the same ballots of the
-- other offices. A ballot of office j that extends the longest log in play is an own path that j had, and j's own paths that extend one log are
-- beginnings of one another; so each take is a join (Join.antt), and joins may be swapped. The law is `either_order`. Assumes nothing.
use mathlib.Core.Path.{◌≡◌, refl, sym, ap, subst, ◌∙◌}
use mathlib.Core.List.{List, [], ◌∷◌, ◌++◌}
use Rattle.std.specs.Prelude.{Some}
use mathlib.Core.Logic.{◌⊎◌, inl, inr}
use Prim.Native.Nat.{ℕ, zero, suc, ◌<◌}
use native.Mathlib.Omega.{arith}
use lib.ListN.{length, length-set, length-map}
use Rattle.std.specs.Prelude.{slice_get}
use Rattle.protocol.specs.Beginning.{◌⊑◌, ◌⊏◌}
use Rattle.protocol.specs.Vote.{Rule}
use Rattle.protocol.specs.Office.{Office, Message, tail, path, votes}
use Rattle.protocol.specs.Issue.{with_issue}
use Rattle.protocol.specs.Take.{catch_up, offers, with_take, refuse_take}
use Rattle.protocol.specs.Elect.{lose, settle, electing, with_elect}
use Rattle.protocol.proofs.World.{World, Call, idle, at}
use Rattle.protocol_laws.proofs.Beginning.{⊑_trans, ⊏-⊑, ⊑-⊏-trans, ⊑-comparable}
use Rattle.protocol_laws.proofs.Limits.{adopts-length, take_done}
use Rattle.one_order.proofs.Lawful.{Lawful}
use Rattle.protocol_laws.proofs.Office.{OfficeMoves, take-moves, next-cases}
use Rattle.one_order.proofs.History.{past-refl, after, office_at, log_at, start}
use Rattle.one_order.proofs.OneCall.{step-relates}
use Rattle.one_order.proofs.Known.{Snapshot, snapshots-comparable}
use Rattle.one_order.proofs.Invariant.{Invariant}
use Rattle.one_order.proofs.TakeKeeps.{known-message, taking-change}
use Rattle.one_order.proofs.EveryCall.{invariant}
use Rattle.one_order.proofs.Join.{office-trans, catch_up-tails, Comparable, take-least, take-heard, moves-same}
use Rattle.one_order.proofs.Twice.{accepts}

-- office k's state o behind two messages, a taken first
abbrev pub takes_both : ℕ → Message → Message → Office → Office
takes_both k a b o = with_take k b (with_take k a o)

-- the two in either order
pub record EitherOrder (k : ℕ) (a b : Message) (o : Office) : Type 0 where
  -- b is accepted behind a where it is accepted alone
  pub accepted : refuse_take k b o ≡ 0 → refuse_take k b (with_take k a o) ≡ 0
  pub log : (takes_both k a b o).log ≡ (takes_both k b a o).log
  pub ballots : (j : ℕ) → (j ≡ k → ⊥) → tail (takes_both k a b o) j ≡ tail (takes_both k b a o) j

-- m stands at some place of the sent messages
abbrev pub IsSent : World → Message → Type 0
IsSent w m = (i : ℕ) × (slice_get w.sent i ≡ Some m)

-- at any office, for any two sent messages, whether it accepts them or not
abbrev pub Swaps : World → Type 0
Swaps w = (k : ℕ) (a b : Message) → IsSent w a → IsSent w b → EitherOrder k a b (at w k)

-- ── no call changes the number of ballots ──
abbrev AsMany : Office → Office → Type 0
AsMany o o' = length o'.tails ≡ length o.tails

issue-many : (k e : ℕ) (o : Office) → AsMany o (with_issue k e o)
unfolding with_issue
issue-many k e o = length-set o.tails k (tail o k ++ (e ∷ []))

take-many : (k : ℕ) (m : Message) (o : Office) → AsMany o (with_take k m o)
unfolding with_take
take-many k m o = let l : List ℕ = m.state.log in adopts-length (catch_up l o).log (catch_up l o).tails l (offers k m) ∙ catch_up-tails l o

electing-many : (rule : Rule) (fuel : ℕ) (o : Office) → AsMany o (electing rule fuel o)
unfolding electing settle
electing-many rule zero o = refl
electing-many rule (suc fuel) o =
    next-cases (AsMany o) (rule o.log (votes o)) o (λ e. electing rule fuel (settle e o)) refl (λ e _. electing-many rule fuel (settle e o) ∙ length-map o.tails (lose e))

eight : (rule : Rule) (n : ℕ) (cs : List Call) (k : ℕ) → length (office_at rule n k cs).tails ≡ 8
unfolding after with_elect
eight rule n [] k = ap (λ (o : Office). length o.tails) (sym (start rule n k))
eight rule n (c ∷ cs) k =
    step-relates rule AsMany (record { alone = λ o. refl; issued = issue-many; taken = take-many; elected = λ o. electing-many rule _ o }) (after rule n cs) c k ∙ eight rule n cs k

module _ (rule : Rule) (n : ℕ) (law : Lawful rule) where
  -- what o holds of office j is known, under the order q
  pub record Knows (cs : List Call) (q : List ℕ) (j : ℕ) (o : Office) : Type 0 where
    pub eight : length o.tails ≡ 8
    pub settled : o.log ⊑ q
    pub known : o.log ⊏ path o j → Snapshot rule n cs j o.log (path o j)

  -- known paths are comparable where both extend the logs
  comparable : (cs : List Call) (q : List ℕ) (j : ℕ) (o m : Office) → Knows cs q j o → Knows cs q j m → Comparable j o m
  comparable cs q j o m a b = record {
    tails = a.eight ∙ sym b.eight;
    logs = either (⊑-comparable o.log m.log q a.settled b.settled);
    paths = λ l x y p r. snapshots-comparable rule n (under o a l x p) (under m b l y r) p r;
  }
    where
      either : (o.log ⊑ m.log) ⊎ (m.log ⊏ o.log) → (o.log ⊑ m.log) ⊎ (m.log ⊑ o.log)
      either (inl h) = inl h
      either (inr h) = inr (⊏-⊑ m.log o.log h)

      under : (o : Office) → Knows cs q j o → (l : List ℕ) → o.log ⊑ l → l ⊏ path o j → Snapshot rule n cs j l (path o j)
      under o a l x p =
          let s = a.known (⊑-⊏-trans o.log l (path o j) x p) in
          record { moment = s.moment; past = s.past; within = ⊑_trans (log_at rule n j s.moment) o.log l s.within x; own = s.own }

  module _ (cs : List Call) (inv : Invariant rule n law cs) (k j : ℕ) (other : j ≡ k → ⊥) where
    sent-knows : (m : Message) → IsSent (after rule n cs) m → Knows cs inv.order j m.state
    sent-knows m (i, e) =
        let s = inv.sent i m e in
        let kn = known-message rule n law cs inv i m e in
        record { eight = subst (λ (o : Office). length o.tails ≡ 8) s.2 (eight rule n s.0 m.sender); settled = kn.settled; known = kn.known j }

    -- office k and a message
    meets : (m : Message) → IsSent (after rule n cs) m → Comparable j (office_at rule n k cs) m.state
    meets m x = comparable cs inv.order j (office_at rule n k cs) m.state here (sent-knows m x)
      where
        here : Knows cs inv.order j (office_at rule n k cs)
        here = record { eight = eight rule n cs k; settled = inv.logs k; known = inv.known cs (past-refl cs) k j }

    -- office k that took message a, and message b
    meets-after : (a b : Message) → IsSent (after rule n cs) a → IsSent (after rule n cs) b → Comparable j (with_take k a (office_at rule n k cs)) b.state
    meets-after a b x y =
        let nx = taking-change rule n law idle cs inv k x.0 (Some a) x.1 in
        let kb = sent-knows b y in
        comparable cs nx.order j (with_take k a (office_at rule n k cs)) b.state
        (record { eight = take-many k a (office_at rule n k cs) ∙ eight rule n cs k; settled = nx.left.settled; known = nx.left.known j other })
        (record { eight = kb.eight; settled = ⊑_trans b.state.log inv.order nx.order kb.settled nx.grows; known = kb.known })

    -- what one order leaves moves on to what the other leaves
    into : (a b : Message) → IsSent (after rule n cs) a → IsSent (after rule n cs) b
        → OfficeMoves j (takes_both k a b (office_at rule n k cs)) (takes_both k b a (office_at rule n k cs))
    into a b x y =
        take-least k b (with_take k a o) j other r
        (take-least k a o j other r (office-trans j o ob r (take-moves k b o j) (take-moves k a ob j)) (take-heard k a ob j other (meets-after b a y x)))
        (office-trans j b.state ob r (take-heard k b o j other (meets b y)) (take-moves k a ob j))
      where
        o : Office
        o = office_at rule n k cs

        ob : Office
        ob = with_take k b o

        r : Office
        r = with_take k a ob

  swapped : (cs : List Call) → Invariant rule n law cs → Swaps (after rule n cs)
  swapped cs inv k a b x y = record {
    accepted = λ h. accepts k b (with_take k a o) (record { other = (take_done k b o h).other; comparable = (meets-after cs inv k (suc k) next a b x y).logs });
    log = (same (suc k) next).0;
    ballots = λ j d. (same j d).1;
  }
    where
      o : Office
      o = office_at rule n k cs

      -- any other office
      next : suc k ≡ k → ⊥
      next e = omega arith

      same : (j : ℕ) → (j ≡ k → ⊥) → ((takes_both k a b o).log ≡ (takes_both k b a o).log) × (tail (takes_both k a b o) j ≡ tail (takes_both k b a o) j)
      same j d = moves-same j (takes_both k a b o) (takes_both k b a o) (into cs inv k j d a b x y) (into cs inv k j d b a y x)

  -- after any history
  pub either_order : 0 < n → (cs : List Call) → Swaps (after rule n cs)
  either_order pos cs = swapped cs (invariant rule n law pos cs)
