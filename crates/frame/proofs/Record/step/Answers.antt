use native.Mathlib.Omega.{arith}
use mathlib.Core.Path.{◌≡◌, sym, ap, subst, ◌∙◌}
use mathlib.Core.List.{List}
use Rattle.std.specs.Prelude.{Option, Some}
use Prim.Native.Nat.{ℕ, ◌+◌, ◌<◌, ◌≤◌}
use lib.ListN.{length, take, set}
use lib.Seq.{length-take-le, get_or-take}
use Rattle.elections.specs.Elections.{winner_in}
use Rattle.elections.proofs.Run.{winning}
use Rattle.elections.proofs.Steps.{Gathered, votes-step, votes-silent, winner-of, shape-here, lost-first, lost-rival, lost-keep, lost-end}
use Rattle.ballots.specs.Ballots.{off_end}
use Rattle.ballots.specs.declared.Ballot.{Ballot}
use Rattle.tallies.specs.Tallies.{cast}
use Rattle.frame.specs.State.{state_in, with_held}
use Rattle.frame.proofs.Steps.{next-turn, settled_is, step-won, step-nobody}
use Rattle.frame.proofs.Record.step.Goals.{then-b-gt0+then-eq, then-b-gt0+else-eq, else-b-gt0}
use Rattle.frame.proofs.Record.step.Goals as goal

-- the first walk ends at n
module _ (n : ℕ) (bs : List Ballot) (few : n ≤ 8) (eight : length bs ≡ 8) where
  many : length (take n bs) ≡ n
  many = length-take-le n bs (omega arith)

  last : (vs : List (Option ℕ)) (i : ℕ) → (i ≤ n) × Gathered bs vs i → length (take n bs) ≤ i → Gathered bs vs n
  last vs i inv h = let end : i ≡ n = omega (arith, inv.0, many) in subst (Gathered bs vs) end inv.1

pub loop-i-preserved : goal.loop-i-preserved
loop-i-preserved c =
    let r = c.args.self in
    let S = c.requires.limits in
    let l = c.loop-i in
    let i : l.i < r.n = omega (arith, many r.n r.ballots S.few S.eight, c.loop-i-test.true) in
    let few = S.few in
    (omega arith, votes-step r.ballots S.eight l.votes l.i l.invariant.1 (omega arith) _ (c.vote.ensures ∙ ap cast (get_or-take r.n r.ballots l.i off_end i)))

pub invariant_of-election : goal.invariant_of-election
invariant_of-election c =
    let r = c.args.self in
    let S = c.requires.limits in
    record { silent = votes-silent _ _ _ S _ (last r.n r.ballots S.few S.eight c.loop-i.votes c.loop-i.i c.loop-i.invariant c.loop-i-test.false) }

pub returns-in_default : goal.returns-in_default
returns-in_default c =
    let r = c.args.self in
    let S = c.requires.limits in
    let gathered = last r.n r.ballots S.few S.eight c.loop-i.votes c.loop-i.i c.loop-i.invariant c.loop-i-test.false in
    step-nobody _ _ _ c.requires (winner-of _ _ _ S _ _ gathered _ c.winner.ensures ∙ c.in_default.is)

pub bounds-log-held : goal.bounds-log-held
bounds-log-held c =
    let r = c.args.self in
    let S = c.requires.limits in
    let gathered = last r.n r.ballots S.few S.eight c.loop-i.votes c.loop-i.i c.loop-i.invariant c.loop-i-test.false in
    let won : winner_in c.args.counts (state_in r) c.args.log.now ≡ Some c.in-Some.entry = winner-of _ _ _ S _ _ gathered _ c.winner.ensures ∙ c.in-Some.is in
    omega (arith, S.room, (winning _ _ _ S _ _ won).1, c.held-held.ensures)

pub without_first-requires : goal.without_first-requires
without_first-requires c =
    let l = c.loop-i-2 in
    (shape-here _ _ _ c.requires.limits c.in-Some.entry l.office.ballots l.i l.invariant.2 (omega arith), omega arith)

pub loop-i-2-preserved : goal.loop-i-2-preserved
loop-i-2-preserved c =
    let r = c.args.self in
    let S = c.requires.limits in
    let e = c.in-Some.entry in
    let l = c.loop-i-2 in
    let bs = l.office.ballots in
    let turn = next-turn (with_held r r.kept r.noted c.next-office.result (r.settled + 1) r.ballots) l.office c.if-b-gt0.office e r.ballots (l.i + 1) l.invariant.1 in
    elim c.if-b-gt0.branch [
      | then-b-gt0+then-eq w ↦ let m = turn (set bs l.i w.without_first.result) w.office-is
          (lost-first _ _ _ S e bs l.i l.invariant.2 (omega arith) (omega arith) w.vote-then-b-gt0.result w.vote-then-b-gt0.ensures (sym w.eq.ensures ∙ w.if-eq.true)
          w.without_first.result w.without_first.ensures) in (omega arith, m.0, m.1)
      | then-b-gt0+else-eq w ↦ let m = turn (set bs l.i w.none.result) w.office-is
          (lost-rival _ _ _ S e bs l.i l.invariant.2 (omega arith) (omega arith) w.vote-then-b-gt0.result w.vote-then-b-gt0.ensures (sym w.eq.ensures ∙ w.if-eq.false)
          w.none.result w.none.ensures) in (omega arith, m.0, m.1)
      | else-b-gt0 w ↦ let m = turn bs w.office-is (lost-keep _ _ _ S e bs l.i l.invariant.2 (omega arith) (omega arith)) in (omega arith, m.0, m.1)
    ]

pub returns : goal.returns
returns c =
    let r = c.args.self in
    let S = c.requires.limits in
    let gathered = last r.n r.ballots S.few S.eight c.loop-i.votes c.loop-i.i c.loop-i.invariant c.loop-i-test.false in
    let won : winner_in c.args.counts (state_in r) c.args.log.now ≡ Some c.in-Some.entry = winner-of _ _ _ S _ _ gathered _ c.winner.ensures ∙ c.in-Some.is in
    let e = c.in-Some.entry in
    let l = c.loop-i-2 in
    let m = step-won _ _ _ c.requires e won in (
      l.invariant.1 ∙ settled_is _ _ c.requires e l.office.ballots (lost-end _ _ _ S _ l.office.ballots l.i l.invariant.2 (omega arith)) _ c.next-office.ensures ∙ m.0,
      ap (λ (k : ℕ). set c.args.log.now k e) c.held-held.ensures ∙ m.1,
    )
