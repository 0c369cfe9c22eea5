-- Request (xiv): "The single order behind all offices is found with this call too among the calls of demand 3. It includes dropped entries, and
-- so does every settled log and path that demand 3 speaks of: each begins with what its office had dropped by then." The claim about a list of
-- calls, oldest first, in the world of n freshly founded offices, and the theorem, `folded-one-order`.
--     never, meets              no call is refused with 10; none that names an office and a message that are there is refused with 16
--     takes, takes-other        a take of a sent message is done, or refused with 9 or 17; of another office's message, never with 9
--     shared                    every office has what any office has dropped
--     whole-reached             the whole logs and tails are those of a world that document 01's calls reach
-- Assumes nothing.
use mathlib.Core.Path.{◌≡◌, refl, sym, ap, ap₂, subst, ◌∙◌}
use mathlib.Core.Bool.{Bool, true, false, cond}
use mathlib.Core.List.{List, [], ◌∷◌, ◌++◌}
use Rattle.std.specs.Prelude.{Option, None, Some}
use mathlib.Core.Logic.{◌⊎◌, inl, inr}
use Prim.Native.Nat.{ℕ, ◌≤◌, ◌<◌}
use native.Mathlib.Omega.{arith}
use lib.Dec.{eqb}
use lib.ListN.{length}
use Rattle.std.specs.Prelude.{slice_get}
use borrow.Author.Tests.{eqb-true, ltb-true}
use Rattle.protocol.specs.Beginning.{◌⊑◌}
use Rattle.protocol.specs.Vote.{Rule}
use Rattle.protocol.specs.SettledRule.{by_settled}
use Rattle.protocol.specs.Office.{Office}
use Rattle.protocol.specs.Take.{refuse_take}
use Rattle.protocol.specs.Folding.{refuse_folded_take}
use Rattle.lists.proofs.Tests.{and-true}
use Rattle.protocol_laws.proofs.Beginning.{⊑_trans, ⊑-append}
use Rattle.protocol.proofs.World as P
use Rattle.protocol.proofs.World.{refusal}
use Rattle.one_order.proofs.OneOrder as O
use Rattle.one_order.proofs.Lawful.{Lawful, settled-lawful}
use Rattle.one_order.proofs.EveryCall.{never-10}
use Rattle.protocol_laws.proofs.Issue.{issue-never}
use Rattle.one_order.proofs.Machine as M
use Rattle.one_order.proofs.Machine.{Machine, runs, Follows, reached, OneOrderOf, theirs, one-order-machine}
use Rattle.protocol.proofs.Effects.{effect_of}
use Rattle.protocol.proofs.FoldedWorld.{
  Desk,
  Posted,
  World,
  Call,
  issue,
  send,
  take,
  elect,
  fold,
  idle,
  founded,
  desk_at,
  refuse_taking,
  names,
  number,
  step,
  whole_desk,
  whole_message,
  log_at,
  view,
  call_of,
}
use Rattle.protocol_laws.proofs.Folding.{⊑-shorter, take-values, take-nine, take-ten, take-sixteen, refuse-desk}
use Rattle.one_order.proofs.FoldedSound.{Sound, view-at, view-sent, known, there, desk-in, message-in, own-length}
use Rattle.one_order.proofs.FoldedMoves.{moves}
use Rattle.one_order.proofs.FoldedKeeps.{keeps, starts, sound-start}

-- ── the claim ──
-- the world with folding, as a machine that is viewed as document 01's world of whole logs
abbrev pub folding : List ℕ → ℕ → Machine
folding founding n = record { W = World; C = Call; start = founded founding n; move = step; number = number; view = view; call = call_of }

-- the world after the calls
abbrev pub world : List ℕ → ℕ → List Call → World
world founding n cs = reached (folding founding n) cs

pub record FoldedOrder (founding : List ℕ) (n : ℕ) (cs : List Call) : Type 0 where
  -- demand 3 of whole logs and paths
  pub one : OneOrderOf (folding founding n) n cs
  -- "Sent messages never meet 16": no call that names an office that is there, and a message sent, was refused with it
  pub meets : (earlier later : List Call) (c : Call) → earlier ++ (c ∷ later) ≡ cs → names (world founding n earlier) c ≡ true → number (world founding n earlier) c ≡ 16 → ⊥
  -- an office's dropped count, and what it keeps, is that of the entries that it has dropped, and every office has those entries
  pub counted : (earlier later : List Call) → earlier ++ later ≡ cs → (k : ℕ) → (desk_at (world founding n earlier) k).now.dropped ≡ length (desk_at (world founding n earlier) k).former
  pub kept : (earlier later : List Call) → earlier ++ later ≡ cs → (k : ℕ) → k < n → (desk_at (world founding n earlier) k).kept ≡ effect_of founding (desk_at (world founding n earlier) k).former
  pub shared : (earlier later : List Call) → earlier ++ later ≡ cs → (k j : ℕ) → j < n → (desk_at (world founding n earlier) k).former ⊑ log_at (world founding n earlier) j

-- ── numbers ──
send-small : (room : Bool) → cond room 0 6 ≤ 6
send-small true = omega arith
send-small false = omega arith

-- a call that is document 01's issue is an issue
pub is-issue : (w : World) (c : Call) (k line code : ℕ) → call_of w c ≡ P.issue k line code → (c ≡ issue k line code) × (number w c ≡ 0)
is-issue w (issue k' line' code') k line code h = go (eqb (number w (issue k' line' code')) 0) refl h
  where
    go : (b : Bool) → eqb (number w (issue k' line' code')) 0 ≡ b → cond b (P.issue k' line' code') P.idle ≡ P.issue k line code
        → (issue k' line' code' ≡ issue k line code) × (number w (issue k' line' code') ≡ 0)
    go true q h = (cc, eqb-true (number w (issue k' line' code')) 0 q)
    go false q h = let z : ◌≡◌ {A = ℕ} 0 1 = cc in absurd (omega arith)
is-issue w (send k' room) k line code h = let z : ◌≡◌ {A = ℕ} 0 1 = cc in absurd (omega arith)
is-issue w (take k' i) k line code h = go (eqb (number w (take k' i)) 0) h
  where
    go : (b : Bool) → cond b (P.take k' i) P.idle ≡ P.issue k line code → (take k' i ≡ issue k line code) × (number w (take k' i) ≡ 0)
    go true h = let z : ◌≡◌ {A = ℕ} 0 1 = cc in absurd (omega arith)
    go false h = let z : ◌≡◌ {A = ℕ} 0 1 = cc in absurd (omega arith)
is-issue w (elect k') k line code h = let z : ◌≡◌ {A = ℕ} 0 1 = cc in absurd (omega arith)
is-issue w (fold k') k line code h = let z : ◌≡◌ {A = ℕ} 0 1 = cc in absurd (omega arith)
is-issue w idle k line code h = let z : ◌≡◌ {A = ℕ} 0 1 = cc in absurd (omega arith)

module _ (founding : List ℕ) (n : ℕ) (pos : 0 < n) where
  abbrev rule : Rule
  rule = by_settled founding

  abbrev law : Lawful rule
  law = settled-lawful founding

  -- ── what holds of a world that the calls reach ──
  module _ (w : World) (s : Sound founding n w) where
    take-never : (k i : ℕ) (x : Option Posted) → slice_get w.sent i ≡ x → refuse_taking k x (desk_at w k).now ≡ 10 → ⊥
    unfolding refusal
    take-never k i None e h = omega arith
    take-never k i (Some m) e h =
        let d : Desk = desk_at w k in
        let found = take-ten k m.message d.now h in
        let q : List ℕ = (known founding n pos w s).order in
        let ten : refuse_take k (whole_message m) (whole_desk d) ≡ 10 =
        sym (refuse-desk d m q (s.desks k).counted (s.sent i m e).counted (desk-in founding n pos w s k) (message-in founding n pos w s i m e) found.0 found.1 k) ∙ found.2 in
        never-10 rule n law s.history (known founding n pos w s) (P.take k i)
        (ap (λ (v : P.World). P.refuse_taking k (slice_get v.sent i) (P.at v k)) (sym s.reached) ∙ ap₂ (P.refuse_taking k) (view-sent w i m e) (view-at w k) ∙ ten)

    pub never : (c : Call) → number w c ≡ 10 → ⊥
    unfolding number
    never (issue k line code) h = (issue-never (length w.desks) k line code (desk_at w k).now).no-10 h
    never (send k room) h = omega (arith, send-small room)
    never (take k i) h = take-never k i (slice_get w.sent i) refl h
    never (elect k) h = omega arith
    never (fold k) h = omega arith
    never idle h = omega arith

    take_meets : (k i : ℕ) → k < n → (x : Option Posted) → slice_get w.sent i ≡ x → refuse_taking k x (desk_at w k).now ≡ 16 → ⊥
    take_meets k i b None e h = omega arith
    take_meets k i b (Some m) e h = take-sixteen k m.message (desk_at w k).now (omega (arith, (s.sent i m e).low k b, own-length founding n pos w s k)) h

    pub meets : (c : Call) → names w c ≡ true → number w c ≡ 16 → ⊥
    unfolding names number
    meets (issue k line code) b h = (issue-never (length w.desks) k line code (desk_at w k).now).no-16 h
    meets (send k room) b h = omega (arith, send-small room)
    meets (take k i) b h =
        let below : k < length w.desks = ltb-true k (length w.desks) (and-true _ _ b).0 in
        take_meets k i (omega (arith, there founding n pos w s)) (slice_get w.sent i) refl h
    meets (elect k) b h = omega arith
    meets (fold k) b h = omega arith
    meets idle b h = omega arith

    -- of a sent message take is done, or refused at the sender's own office, or since the message ends inside what was dropped since
    pub takes : (k i : ℕ) → names w (take k i) ≡ true → (number w (take k i) ≡ 0) ⊎ ((number w (take k i) ≡ 9) ⊎ (number w (take k i) ≡ 17))
    unfolding number
    takes k i b = go (slice_get w.sent i) (never (take k i)) (meets (take k i) b)
      where
        go : (x : Option Posted) → (refuse_taking k x (desk_at w k).now ≡ 10 → ⊥) → (refuse_taking k x (desk_at w k).now ≡ 16 → ⊥)
            → (refuse_taking k x (desk_at w k).now ≡ 0) ⊎ ((refuse_taking k x (desk_at w k).now ≡ 9) ⊎ (refuse_taking k x (desk_at w k).now ≡ 17))
        go None a b = inl refl
        go (Some m) a b = by (take-values k m.message (desk_at w k).now)
          where
            N : ℕ
            N = refuse_folded_take k m.message (desk_at w k).now

            by : (N ≡ 0) ⊎ ((N ≡ 9) ⊎ ((N ≡ 10) ⊎ ((N ≡ 16) ⊎ (N ≡ 17)))) → (N ≡ 0) ⊎ ((N ≡ 9) ⊎ (N ≡ 17))
            by (inl q) = inl q
            by (inr (inl q)) = inr (inl q)
            by (inr (inr (inl q))) = absurd (a q)
            by (inr (inr (inr (inl q)))) = absurd (b q)
            by (inr (inr (inr (inr q)))) = inr (inr q)

    -- of another office's message
    pub takes-other : (k i : ℕ) (m : Posted) → k < n → slice_get w.sent i ≡ Some m → (m.message.sender ≡ k → ⊥)
        → (number w (take k i) ≡ 0) ⊎ (number w (take k i) ≡ 17)
    unfolding number
    takes-other k i m b e d =
        subst (λ (x : Option Posted). (refuse_taking k x (desk_at w k).now ≡ 0) ⊎ (refuse_taking k x (desk_at w k).now ≡ 17)) (sym e) (by (take-values k m.message (desk_at w k).now))
      where
        N : ℕ
        N = refuse_folded_take k m.message (desk_at w k).now

        by : (N ≡ 0) ⊎ ((N ≡ 9) ⊎ ((N ≡ 10) ⊎ ((N ≡ 16) ⊎ (N ≡ 17)))) → (N ≡ 0) ⊎ (N ≡ 17)
        by (inl q) = inl q
        by (inr (inl q)) = absurd (d (take-nine k m.message (desk_at w k).now q))
        by (inr (inr (inl q))) = absurd (take-never k i (Some m) e q)
        by (inr (inr (inr (inl q)))) = absurd (take_meets k i b (Some m) e q)
        by (inr (inr (inr (inr q)))) = inr q

    -- what an office has dropped, every office has
    pub shared : (k j : ℕ) → j < n → (desk_at w k).former ⊑ log_at w j
    shared k j b =
        let d : Desk = desk_at w k in
        let q : List ℕ = (known founding n pos w s).order in
        ⊑-shorter d.former (log_at w j) q (⊑_trans d.former (whole_desk d).log q (⊑-append d.former d.now.held.log) (desk-in founding n pos w s k)) (desk-in founding n pos w s j)
        (omega (arith, (s.desks k).counted, (s.desks k).low j b, ap (λ (o : Office). length o.log) (view-at w j)))

  -- ── all calls ──
  pub follows : Follows (folding founding n) rule n
  follows = record {
    Sound = Sound founding n;
    sound-start = sound-start founding n pos;
    sound-move = keeps founding n pos;
    starts = starts founding n pos;
    moves = λ w c s. moves founding n pos w s c;
    tens = λ w c s h. absurd (never w s c h);
    issues = λ w c k line code s h _. (is-issue w c k line code h).1;
  }

  sound-runs : (w : World) (cs : List Call) → Sound founding n w → Sound founding n (runs (folding founding n) w cs)
  sound-runs w [] s = s
  sound-runs w (c ∷ cs) s = sound-runs (step w c) cs (keeps founding n pos w c s)

  pub sound-at : (cs : List Call) → Sound founding n (world founding n cs)
  sound-at cs = sound-runs (founded founding n) cs (sound-start founding n pos)

  -- what holds of every world that document 01's calls reach holds of the whole logs and tails
  pub whole-reached : (cs : List Call) → (ps : List P.Call) × (O.world rule n ps ≡ view (world founding n cs))
  whole-reached cs = (theirs (folding founding n) rule n follows cs, M.view-at (folding founding n) rule n follows cs)

  pub folded-one-order : n ≤ 8 → (cs : List Call) → FoldedOrder founding n cs
  folded-one-order most cs = record {
    one = one-order-machine (folding founding n) rule n follows law most pos cs;
    meets = λ a b c e named h. meets (world founding n a) (sound-at a) c named h;
    counted = λ a b e k. ((sound-at a).desks k).counted;
    kept = λ a b e k h. (sound-at a).kept k h;
    shared = λ a b e k j h. shared (world founding n a) (sound-at a) k j h;
  }
