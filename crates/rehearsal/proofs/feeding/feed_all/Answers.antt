use borrow.Author.Rules.{rules}
use mathlib.Core.Path.{◌≡◌, sym, ap, ◌∙◌}
use mathlib.Core.List.{◌++◌}
use native.Mathlib.Omega.{arith}
use Prim.Native.Nat.{◌+◌, ◌-◌, ◌<◌, ◌≤◌}
use lib.ListN.{length, take, drop}
use Rattle.text_parts.proofs.Ends.{part-within}
use Rattle.rehearsal_lines.specs.Held.{line_held}
use Rattle.rehearsal_lines.proofs.Holding.{line-held}
use Rattle.rehearsal_lines.proofs.Feeding.{feed-ends}
use Rattle.rehearsal_commands.specs.Command.{line_of}
use Rattle.rehearsal_addressees.proofs.Present.{addressee-there}
use Rattle.rehearsal.specs.Lines.{world_at, say_line}
use Rattle.rehearsal.proofs.Says.{turn-stored, answer-by, say-found, say-turn, say-nobody}
use Rattle.rehearsal.proofs.Feeds.{LineRead, feeds-next, feed-answers}
use Rattle.rehearsal.proofs.feeding.feed_all.Goals as goal
use Rattle.rehearsal.proofs.feeding.feed_all.Goals.{After-addressee_of, In-One}

pub slice_bounds-with-end : goal.slice_bounds-with-end
slice_bounds-with-end c = omega (arith, c.part_end-end.ensures, part-within 10 c.args.chunk.now c.loop-offices.at c.loop-offices.invariant.within)

pub returns-then-end-chunk : goal.returns-then-end-chunk
returns-then-end-chunk c =
    let l = c.loop-offices in
    let a = c.args in
    let end = c.part_end-end in
    let x = feed-ends say_line (world_at a.r.offices a.logs.now a.slots.now) (line_held a.r.held) a.chunk.now
    a.out.now (world_at l.offices l.logs l.slots) (line_held l.held) l.out l.at l.printed l.invariant end.result
    end.ensures c.if-end-chunk.true (omega (arith, end.ensures, part-within 10 a.chunk.now l.at l.invariant.within)) in
    feed-answers _ _ (world_at l.offices l.logs l.slots) (line_held l.held ++ take (end.result - l.at) (drop l.at a.chunk.now)) _ _ _ x c.with-held.ensures

-- ── a line that ends in the chunk ──
-- there is room for its answer
room : (c : After-addressee_of) → c.loop-offices.printed + 65 ≤ length c.loop-offices.out
room c =
    let full : length c.loop-offices.out ≡ 532480 = search rules in
    omega (arith, c.loop-offices.invariant.room, c.requires, full, c.part_end-end.ensures, c.if-end-chunk.false)

said : (c : After-addressee_of) →
    let a = c.args in
    let l = c.loop-offices in
    LineRead (world_at a.r.offices a.logs.now a.slots.now) (line_held a.r.held) a.chunk.now a.out.now (world_at l.offices l.logs l.slots)
    (line_held l.held) l.out l.at l.printed c.part_end-end.result (line_held c.none-held.result) c.line_held-line.result
said c =
    let l = c.loop-offices in
    let line = line_held l.held ++ take (c.part_end-end.result - l.at) (drop l.at c.args.chunk.now) in
    record {
      inv = l.invariant;
      there = c.part_end-end.ensures;
      inside = c.if-end-chunk.false;
      empty = ap line_held c.none-held.ensures;
      read = c.line_held-line.ensures ∙ ap line_of (ap line_held c.with-held.ensures ∙ line-held line);
    }

pub loop-offices-preserved-in-All : goal.loop-offices-preserved-in-All
loop-offices-preserved-in-All c =
    let x = (goal.at.loop-offices-preserved-in-All c).After-addressee_of in
    let p = c.print-printed.ensures in
    feeds-next (said x) _ (say-found _ _ _ _ _ c.in-All.is c.found_offices-reply.ensures ∙ answer-by _ _ _ c.addressee_of.ensures)
    _ _ (room x) p.end p.output

-- an office that a line is for is one of the eight
below : (c : In-One) → c.in-One.k < 8
below c = addressee-there _ _ _ _ (sym c.in-One.ensures)

pub offset_bounds-offices-k : goal.offset_bounds-offices-k
offset_bounds-offices-k c = let h = below (goal.at.offset_bounds-offices-k c).In-One in omega (arith, h)

pub bounds-offices-k : goal.bounds-offices-k
bounds-offices-k c = below (goal.at.bounds-offices-k c).In-One

pub offset_bounds-offices-k-in-One : goal.offset_bounds-offices-k-in-One
offset_bounds-offices-k-in-One c = let h = below (goal.at.offset_bounds-offices-k-in-One c).In-One in omega (arith, h)

pub office_turn-turn-requires : goal.office_turn-turn-requires
office_turn-turn-requires c = (below (goal.at.office_turn-turn-requires c).In-One, search rules)

pub bounds-offices-k-in-One : goal.bounds-offices-k-in-One
bounds-offices-k-in-One c = below (goal.at.bounds-offices-k-in-One c).In-One

pub loop-offices-preserved-in-One : goal.loop-offices-preserved-in-One
loop-offices-preserved-in-One c =
    let x = (goal.at.loop-offices-preserved-in-One c).After-addressee_of in
    let e = c.office_turn-turn.ensures in
    let p = c.print-printed-in-One.ensures in
    let turn = turn-stored _ _ _ _ _ _ e.value e.logs_after e.slots_after in
    feeds-next (said x) _ (say-turn _ _ _ _ _ c.in-One.is turn ∙ answer-by _ _ _ c.addressee_of.ensures)
    _ _ (room x) p.end p.output

pub loop-offices-preserved : goal.loop-offices-preserved
loop-offices-preserved c =
    let x = (goal.at.loop-offices-preserved c).After-addressee_of in
    let p = c.print-printed-in-Nobody.ensures in
    feeds-next (said x) _ (say-nobody _ _ _ c.in-Nobody.is c.question.ensures ∙ answer-by _ _ _ c.addressee_of.ensures)
    _ _ (room x) p.end p.output
