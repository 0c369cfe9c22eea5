-- The log catches up to a length that is past both lengths and within the words; what the code makes is the protocol's take by `merged`.
use borrow.Author.Rules.{rules}
use native.Mathlib.Omega.{arith}
use mathlib.Core.Path.{◌≡◌, sym}
use Prim.Native.Nat.{◌≤◌}
use lib.ListN.{length}
use Rattle.numbers.specs.Numbers.{run_at}
use Rattle.numbers.proofs.Runs.{run_at-length}
use Rattle.spelling.specs.Reading.{record_at}
use Rattle.intake.proofs.Caught.{longer-end}
use Rattle.intake.proofs.Made.{merged}
use Rattle.intake.proofs.take_aligned.Goals.{After-catch_up-end}
use Rattle.intake.proofs.take_aligned.Goals as goal

pub catch_up-end-requires : goal.catch_up-end-requires
catch_up-end-requires c =
    let theirs-long : c.args.k ≡ length (run_at 6 record_at c.args.k c.args.rest.now) = sym (run_at-length 6 record_at c.args.k c.args.rest.now) in
    (omega (arith, theirs-long, c.requires.0.theirs-within), c.requires.1)

past-both : (c : After-catch_up-end) → (c.args.state.held ≤ c.catch_up-end.result) × (c.args.k ≤ c.catch_up-end.result)
past-both c =
    let L = longer-end c.args.rest.now c.args.state.held c.args.k in
    (omega (arith, L.past-own, c.catch_up-end.ensures.reached), omega (arith, L.past-theirs, c.catch_up-end.ensures.reached))

inside : (c : After-catch_up-end) → c.catch_up-end.result ≤ length c.catch_up-end.new.log
inside c =
    let theirs-long : c.args.k ≡ length (run_at 6 record_at c.args.k c.args.rest.now) = sym (run_at-length 6 record_at c.args.k c.args.rest.now) in
    let theirs-within : c.args.k ≤ length c.args.log.now = omega (arith, theirs-long, c.requires.0.theirs-within) in
    let L = longer-end c.args.rest.now c.args.state.held c.args.k in
    omega (arith, L.within (length c.args.log.now) c.requires.0.held-within theirs-within, c.catch_up-end.ensures.reached, c.catch_up-end.auto.log)

pub slice_bounds-merge-count : goal.slice_bounds-merge-count
slice_bounds-merge-count c = let p = past-both (goal.at.slice_bounds-merge-count c).After-catch_up-end in omega arith

pub slice_bounds-merge-start : goal.slice_bounds-merge-start
slice_bounds-merge-start c = let p = past-both (goal.at.slice_bounds-merge-start c).After-catch_up-end in search rules

pub slice_bounds-merge-end : goal.slice_bounds-merge-end
slice_bounds-merge-end c = let p = inside (goal.at.slice_bounds-merge-end c).After-catch_up-end in search rules

pub slice_bounds-merge-count-2 : goal.slice_bounds-merge-count-2
slice_bounds-merge-count-2 c = let p = past-both (goal.at.slice_bounds-merge-count-2 c).After-catch_up-end in omega arith

pub slice_bounds-merge-start-2 : goal.slice_bounds-merge-start-2
slice_bounds-merge-start-2 c = let p = past-both (goal.at.slice_bounds-merge-start-2 c).After-catch_up-end in search rules

pub slice_bounds-merge-end-2 : goal.slice_bounds-merge-end-2
slice_bounds-merge-end-2 c = let p = inside (goal.at.slice_bounds-merge-end-2 c).After-catch_up-end in search rules

pub slice_bounds-after-count : goal.slice_bounds-after-count
slice_bounds-after-count c = let p = past-both (goal.at.slice_bounds-after-count c).After-catch_up-end in omega arith

pub slice_bounds-after-start : goal.slice_bounds-after-start
slice_bounds-after-start c = let p = past-both (goal.at.slice_bounds-after-start c).After-catch_up-end in search rules

pub slice_bounds-after-end : goal.slice_bounds-after-end
slice_bounds-after-end c = let p = inside (goal.at.slice_bounds-after-end c).After-catch_up-end in search rules

pub returns : goal.returns
returns c =
    let theirs-long : c.args.k ≡ length (run_at 6 record_at c.args.k c.args.rest.now) = sym (run_at-length 6 record_at c.args.k c.args.rest.now) in
    let both = merged _ _ _ _ _ _ c.requires.0 _ _ _ theirs-long c.catch_up-end.ensures.reached c.catch_up-end.ensures.words _ c.merge-ballots.ensures _ c.after-summary.ensures in
    record { state = both.0; words = both.1 }
